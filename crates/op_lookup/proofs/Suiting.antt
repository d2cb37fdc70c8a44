-- What suits so far suits with one more feed that suits.
use Rattle.std.proofs.Common.{◌≡◌, ◌≢◌, ℕ, zero, suc, ◌==◌, Bool, true, cond, refl, ap, ◌∙◌, subst, List, [], ◌∷◌, ◌++◌, arith}
use Rattle.std.specs.List.{list_all}
use Rattle.std.proofs.lemmas.List.Folds.{list_all-append}
use Rattle.streams.specs.Streams.{Feed, rows_of}
use Rattle.streams.proofs.Basics.{and_left, and_right, and_true}
use Rattle.streams.proofs.StreamLaws.{eq_true}
use Rattle.op_base.specs.declared.operator.Want.{Want}
use Rattle.op_base.specs.declared.operator.Want.TheVariants.{Port}
use Rattle.op_base.specs.Columns.{Row}
use Rattle.op_base.specs.Standing.{RowStream, Answers, row_feed, end_feed}
use Rattle.op_base.proofs.StandingLaws.{rows_of-row, rows_of-end}
use Rattle.op_lookup.specs.Looked.{suits_main, suits_reference, suits_lookup}
use Rattle.op_lookup.proofs.Feeding.{rows_of-other}

-- the one port that is wanted
pub port_wanted : (stream : RowStream) (feeds : List (Feed Row)) (want : Want) (wanted port : ℕ) → want ≡ Port wanted → wanted ≡ port → Answers want stream feeds → stream.wants feeds port ≡ true
port_wanted stream feeds want wanted port is same answers = let said = subst (λ w. Answers w stream feeds) is answers in said.0 port ∙ eq_true wanted port same

passes_more : (p : Row → Bool) (port : ℕ) (feeds : List (Feed Row)) (r : Row) → list_all p (rows_of port feeds) ≡ true → p r ≡ true → list_all p (rows_of port (feeds ++ row_feed port r ∷ [])) ≡ true
passes_more p port feeds r h k = ap (list_all p) (rows_of-row port feeds r) ∙ list_all-append p (rows_of port feeds) (r ∷ []) ∙ and_true h (and_true k refl)

passes_other : (p : Row → Bool) (port other : ℕ) (feeds : List (Feed Row)) (r : Row) → other ≢ port → list_all p (rows_of port feeds) ≡ true → list_all p (rows_of port (feeds ++ row_feed other r ∷ [])) ≡ true
passes_other p port other feeds r ne h = ap (list_all p) (rows_of-other port other feeds r ne) ∙ h

pub suits-row : (main : List ℕ) (width : ℕ) (feeds : List (Feed Row)) (port : ℕ) (r : Row) → suits_lookup main width feeds ≡ true → cond (port == 0) (suits_main main r) (suits_reference width r) ≡ true → suits_lookup main width (feeds ++ row_feed port r ∷ []) ≡ true
suits-row main width feeds zero r h k = and_true (passes_more (suits_main main) 0 feeds r (and_left _ _ h) k) (passes_other (suits_reference width) 1 0 feeds r (λ e. absurd (omega (arith, e))) (and_right _ _ h))
suits-row main width feeds (suc zero) r h k = and_true (passes_other (suits_main main) 0 1 feeds r (λ e. absurd (omega (arith, e))) (and_left _ _ h)) (passes_more (suits_reference width) 1 feeds r (and_right _ _ h) k)
suits-row main width feeds (suc (suc port)) r h k =
    and_true (passes_other (suits_main main) 0 (suc (suc port)) feeds r (λ e. absurd (omega (arith, e))) (and_left _ _ h)) (passes_other (suits_reference width) 1 (suc (suc port)) feeds r (λ e. absurd (omega (arith, e))) (and_right _ _ h))

pub suits-end : (main : List ℕ) (width : ℕ) (feeds : List (Feed Row)) (port : ℕ) → suits_lookup main width feeds ≡ true → suits_lookup main width (feeds ++ end_feed port ∷ []) ≡ true
suits-end main width feeds port h = and_true (ap (list_all (suits_main main)) (rows_of-end 0 port feeds) ∙ and_left _ _ h) (ap (list_all (suits_reference width)) (rows_of-end 1 port feeds) ∙ and_right _ _ h)
