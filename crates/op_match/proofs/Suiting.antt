-- Rows of one width suit.
use Rattle.std.proofs.Common.{◌≡◌, ℕ, zero, suc, ◌==◌, Bool, true, false, ◌&&◌, cond, refl, sym, ap, ap₂, ◌∙◌, subst, inl, inr, List, [], ◌∷◌, ◌++◌, map, length, append-nil}
use Rattle.std.specs.Prelude.{nat_lt}
use Rattle.std.specs.List.{AllByRecursion, list_all}
use Rattle.std.proofs.lemmas.Bool.Decides.{eqb_tells}
use Rattle.streams.specs.Streams.{Feed, Item, row, end, items_of, rows, rows_of}
use Rattle.streams.proofs.Basics.{and_left, and_right, and_true}
use Rattle.streams.proofs.StreamLaws.{items-append}
use Rattle.ds_schema.specs.declared.key.Key.{Key}
use Rattle.ds_schema.specs.Rows.{cols}
use Rattle.op_base.specs.Columns.{Row, is_short}
use Rattle.op_base.specs.Standing.{end_feed, row_feed}
use Rattle.op_base.proofs.StandingLaws.{rows_of-end}
use Rattle.op_match.specs.Captures.{can_change, capture_suits, has_columns}
use Rattle.op_match.specs.Merges.{suits_from}
use Rattle.op_match.specs.Suiting.{row_suits, WideSuit}

rows-snoc : (items : List (Item Row)) (r : Row) → rows (items ++ row r ∷ []) ≡ rows items ++ r ∷ []
rows-snoc [] r = refl
rows-snoc (row x ∷ items) r = ap (λ t. x ∷ t) (rows-snoc items r)
rows-snoc (end ∷ items) r = rows-snoc items r

all_snoc : (p : Row → Bool) (xs : List Row) (x : Row) → list_all p xs ≡ true → p x ≡ true → list_all p (xs ++ x ∷ []) ≡ true
all_snoc p [] x h k = and_true k refl
all_snoc p (y ∷ xs) x h k = and_true (and_left (p y) (list_all p xs) h) (all_snoc p xs x (and_right (p y) (list_all p xs) h) k)

-- one more row on a port
rows_all : (p : Row → Bool) (j port : ℕ) (r : Row) (feeds : List (Feed Row)) → list_all p (rows_of j feeds) ≡ true → p r ≡ true → list_all p (rows_of j (feeds ++ row_feed port r ∷ [])) ≡ true
rows_all p j port r feeds h k = ap (λ items. list_all p (rows items)) (items-append j feeds (row_feed port r ∷ [])) ∙ go (port == j)
  where
    go : (b : Bool) → list_all p (rows (items_of j feeds ++ cond b (row r ∷ []) [])) ≡ true
    go true = ap (list_all p) (rows-snoc (items_of j feeds) r) ∙ all_snoc p (rows_of j feeds) r h k
    go false = ap (λ items. list_all p (rows items)) (append-nil (items_of j feeds)) ∙ h

rows_end : (p : Row → Bool) (j port : ℕ) (feeds : List (Feed Row)) → list_all p (rows_of j feeds) ≡ true → list_all p (rows_of j (feeds ++ end_feed port ∷ [])) ≡ true
rows_end p j port feeds h = ap (list_all p) (rows_of-end j port feeds) ∙ h

wide_has : (width : ℕ) (cs : List ℕ) (r : Row) → list_all (λ c. nat_lt c width) cs ≡ true → length r ≡ width → has_columns cs r ≡ true
wide_has width cs r h e = subst (λ n. list_all (λ c. nat_lt c n) cs ≡ true) (sym e) h

width_is : (a b : ℕ) → (a == b) ≡ true → a ≡ b
width_is a b h = elim (eqb_tells a b) [ inl t ↦ t.1 | inr t ↦ (let n : true ≡ false = sym h ∙ t.0 in cc) ]

wide_changes : (width : ℕ) (keys : List Key) (values : List ℕ) (r : Row) → list_all (λ c. nat_lt c width) (cols keys) ≡ true → list_all (λ c. nat_lt c width) values ≡ true → row_suits width r ≡ true → can_change keys values r ≡ true
wide_changes width keys values r h k s =
    let e : length r ≡ width = width_is (length r) width (and_left (length r == width) (list_all is_short r) s) in
    and_true (wide_has width (cols keys) r h e) (and_true (wide_has width values r k e) (and_right (length r == width) (list_all is_short r) s))

pub captures_wide : (width : ℕ) (keys : List Key) (values : List ℕ) → list_all (λ c. nat_lt c width) (cols keys) ≡ true → list_all (λ c. nat_lt c width) values ≡ true → WideSuit width (capture_suits keys values)
captures_wide width keys values h k = record {
  none = refl;
  more = λ port r feeds s f.
      let p : Row → Bool = can_change keys values in
      let c = wide_changes width keys values r h k s in
      and_true (rows_all p 0 port r feeds (and_left (list_all p (rows_of 0 feeds)) (list_all p (rows_of 1 feeds)) f) c) (rows_all p 1 port r feeds (and_right (list_all p (rows_of 0 feeds)) (list_all p (rows_of 1 feeds)) f) c);
  over = λ port feeds f.
      let p : Row → Bool = can_change keys values in
      and_true (rows_end p 0 port feeds (and_left (list_all p (rows_of 0 feeds)) (list_all p (rows_of 1 feeds)) f)) (rows_end p 1 port feeds (and_right (list_all p (rows_of 0 feeds)) (list_all p (rows_of 1 feeds)) f));
}

-- all inputs of a merge have this width
pub merges_wide : (width i : ℕ) (widths : List ℕ) → AllByRecursion (λ w. w ≡ width) widths → WideSuit width (suits_from i widths)
merges_wide width i [] h = record { none = refl; more = λ port r feeds s f. refl; over = λ port feeds f. refl }
merges_wide width i (w ∷ widths) h =
    let rest : WideSuit width (suits_from (suc i) widths) = merges_wide width (suc i) widths h.1 in
    let suited : List (Feed Row) → Bool = λ feeds. list_all (row_suits w) (rows_of i feeds) in
    let others : List (Feed Row) → Bool = suits_from (suc i) widths in
    record {
      none = and_true refl rest.none;
      more = λ port r feeds s f. and_true (rows_all (row_suits w) i port r feeds (and_left (suited feeds) (others feeds) f) (subst (λ n. row_suits n r ≡ true) (sym h.0) s)) (rest.more port r feeds s (and_right (suited feeds) (others feeds) f));
      over = λ port feeds f. and_true (rows_end (row_suits w) i port feeds (and_left (suited feeds) (others feeds) f)) (rest.over port feeds (and_right (suited feeds) (others feeds) f));
    }
