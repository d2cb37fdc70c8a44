-- One more item at the end of what was fed, and operators with one port.
use Rattle.std.proofs.Common.{◌≡◌, ℕ, zero, suc, ◌<◌, ◌==◌, Bool, true, false, not, ◌&&◌, cond, refl, sym, ap, ◌∙◌, subst, List, [], ◌∷◌, ◌++◌, append-nil, arith}
use Rattle.std.specs.Prelude.{nat_lt}
use Rattle.streams.specs.Streams.{Item, row, end, Feed, has_end, rows, items_of, ended, rows_of, all_below}
use Rattle.streams.specs.Operators.{one_wanted}
use Rattle.streams.proofs.Basics.{and_left, and_right, and_true}
use Rattle.streams.proofs.Picks.{not_true}
use Rattle.streams.proofs.StreamLaws.{items-append, eq_true, eq_false}
use Rattle.std.proofs.lemmas.Bool.{ltb-true}
use Rattle.op_base.specs.declared.operator.Want.TheVariants.{Port, Nothing}
use Rattle.op_base.specs.Columns.{Row}
use Rattle.op_base.specs.Standing.{RowStream, row_feed, end_feed, Answers}

end-more : {X : Type 0} (xs ys : List (Item X)) → has_end (xs ++ ys) ≡ cond (has_end xs) true (has_end ys)
end-more [] ys = refl
end-more (row x ∷ xs) ys = end-more xs ys
end-more (end ∷ xs) ys = refl

rows-more : {X : Type 0} (xs ys : List (Item X)) → rows (xs ++ ys) ≡ rows xs ++ rows ys
rows-more [] ys = refl
rows-more (row x ∷ xs) ys = ap (λ t. x ∷ t) (rows-more xs ys)
rows-more (end ∷ xs) ys = rows-more xs ys

-- a row ends no port
pub ended-row : (p : ℕ) (feeds : List (Feed Row)) (q : ℕ) (r : Row) → ended p (feeds ++ row_feed q r ∷ []) ≡ ended p feeds
ended-row p feeds q r = ap has_end (items-append p feeds (row_feed q r ∷ [])) ∙ end-more (items_of p feeds) (items_of p (row_feed q r ∷ [])) ∙ go (q == p) (has_end (items_of p feeds))
  where
    go : (b e : Bool) → cond e true (has_end (cond b (row r ∷ []) [])) ≡ e
    go b true = refl
    go true false = refl
    go false false = refl

-- End ends its port
pub ended-end : (p : ℕ) (feeds : List (Feed Row)) → ended p (feeds ++ end_feed p ∷ []) ≡ true
ended-end p feeds =
    ap has_end (items-append p feeds (end_feed p ∷ [])) ∙ end-more (items_of p feeds) (items_of p (end_feed p ∷ []))
    ∙ ap (λ b. cond (has_end (items_of p feeds)) true (has_end {X = Row} (cond b (end ∷ []) []))) (eq_true p p refl) ∙ go (has_end (items_of p feeds))
  where
    go : (e : Bool) → cond e true true ≡ true
    go true = refl
    go false = refl

pub rows_of-row : (p : ℕ) (feeds : List (Feed Row)) (r : Row) → rows_of p (feeds ++ row_feed p r ∷ []) ≡ rows_of p feeds ++ r ∷ []
rows_of-row p feeds r =
    ap rows (items-append p feeds (row_feed p r ∷ [])) ∙ rows-more (items_of p feeds) (items_of p (row_feed p r ∷ []))
    ∙ ap (λ b. rows_of p feeds ++ rows (cond b (row r ∷ []) [])) (eq_true p p refl)

pub rows_of-end : (p q : ℕ) (feeds : List (Feed Row)) → rows_of p (feeds ++ end_feed q ∷ []) ≡ rows_of p feeds
rows_of-end p q feeds = ap rows (items-append p feeds (end_feed q ∷ [])) ∙ rows-more (items_of p feeds) (items_of p (end_feed q ∷ [])) ∙ ap (λ t. rows_of p feeds ++ t) (go (q == p)) ∙ append-nil _
  where
    go : (b : Bool) → rows {X = Row} (cond b (end ∷ []) []) ≡ []
    go true = refl
    go false = refl

-- one port
pub one_port_fed : (feeds : List (Feed Row)) (port : ℕ) → one_wanted feeds port ≡ true → port ≡ 0
one_port_fed feeds port h = below port (ltb-true _ _ (and_left _ _ h))
  where
    below : (i : ℕ) → i < 1 → i ≡ 0
    below i lt = omega arith

pub one_port_open : (feeds : List (Feed Row)) (port : ℕ) → one_wanted feeds port ≡ true → ended 0 feeds ≡ false
one_port_open feeds port h = not_true _ (and_right _ _ h)

-- what an operator with one port answers
pub one_answer : (stream : RowStream) (feeds : List (Feed Row)) → stream.ports ≡ 1 → ((i : ℕ) → stream.wants feeds i ≡ one_wanted feeds i) → (over : Bool) → over ≡ ended 0 feeds → Answers (cond over Nothing (Port 0)) stream feeds
one_answer stream feeds one is true e = subst (λ n. all_below n (λ i. ended i feeds) ≡ true) (sym one) (and_true (sym e) refl)
one_answer stream feeds one is false e = (
  λ i. is i ∙ ap (λ b. nat_lt i 1 && not b) (sym e) ∙ first i,
  subst (λ n. all_below n (λ i. ended i feeds) ≡ false) (sym one) (ap (λ b. b && true) (sym e)),
)
  where
    above : (i : ℕ) → nat_lt (suc i) 1 ≡ false
    above i = grind arith

    first : (i : ℕ) → (nat_lt i 1 && not false) ≡ (0 == i)
    first zero = refl
    first (suc i) = ap (λ b. b && true) (above i) ∙ sym (eq_false 0 (suc i) (λ h. absurd (omega (arith, h))))
