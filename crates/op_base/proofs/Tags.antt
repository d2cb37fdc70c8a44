-- What is taken from several lanes in turn interleaves what each had.
use Rattle.std.proofs.Common.{List, ap, ap₂, arith, cond, false, get_or, length, map, refl, set, subst, suc, sym, true, zero, ℕ, ◌≡◌, ◌+◌, ◌<◌, ◌∷◌, ◌∙◌, ◌==◌, []}
use Rattle.std.proofs.lemmas.Bool.Decides.{nat_tests}
use Rattle.std.specs.List.{AllByRecursion}
use Rattle.op_base.specs.Lists.{AllEmpty, Interleaves}

-- the items of one lane
abbrev pub of_lane : {X : Type 0} → ℕ → List (ℕ × X) → List X
of_lane p [] = []
of_lane p (e ∷ es) = cond (e.0 == p) (e.1 ∷ of_lane p es) (of_lane p es)

-- k lanes from p on
abbrev pub lanes_named : {X : Type 0} → ℕ → ℕ → List (ℕ × X) → List (List X)
lanes_named p zero es = []
lanes_named p (suc k) es = of_lane p es ∷ lanes_named (suc p) k es

items : {X : Type 0} → List (ℕ × X) → List X
items es = map (λ e. e.1) es

empty_lanes : (X : Type 0) (p k : ℕ) → AllEmpty (lanes_named {X = X} p k [])
empty_lanes X p zero = tt
empty_lanes X p (suc k) = (refl, empty_lanes X (suc p) k)

length-lanes : {X : Type 0} (p k : ℕ) (es : List (ℕ × X)) → length (lanes_named p k es) ≡ k
length-lanes p zero es = refl
length-lanes p (suc k) es = ap suc (length-lanes (suc p) k es)

lane_there : {X : Type 0} (p k i : ℕ) (es : List (ℕ × X)) → i < k → get_or (lanes_named p k es) i [] ≡ of_lane (p + i) es
lane_there p zero i es l = absurd (omega arith)
lane_there p (suc k) zero es l = ap (λ q. of_lane q es) (omega arith)
lane_there p (suc k) (suc i) es l = lane_there (suc p) k i es (omega arith) ∙ ap (λ q. of_lane q es) (omega arith)

lanes_past : {X : Type 0} (p k : ℕ) (e : ℕ × X) (es : List (ℕ × X)) → e.0 < p → lanes_named p k (e ∷ es) ≡ lanes_named p k es
lanes_past p zero e es l = refl
lanes_past p (suc k) e es l = ap₂ (λ a b. a ∷ b) (ap (λ b. cond b (e.1 ∷ of_lane p es) (of_lane p es)) (other (e.0) p l)) (lanes_past (suc p) k e es (omega arith))
  where
    other : (a b : ℕ) → a < b → (a == b) ≡ false
    other a b h = grind (arith, nat_tests)

lanes_taken : {X : Type 0} (p k i : ℕ) (e : ℕ × X) (es : List (ℕ × X)) → e.0 ≡ p + i → i < k → set (lanes_named p k (e ∷ es)) i (of_lane (e.0) es) ≡ lanes_named p k es
lanes_taken p zero i e es h l = absurd (omega arith)
lanes_taken p (suc k) zero e es h l = ap₂ (λ a b. a ∷ b) (ap (λ q. of_lane q es) (omega arith)) (lanes_past (suc p) k e es (omega arith))
lanes_taken p (suc k) (suc i) e es h l = ap₂ (λ a b. a ∷ b) (ap (λ b. cond b (e.1 ∷ of_lane p es) (of_lane p es)) (other (e.0) p (omega arith))) (lanes_taken (suc p) k i e es (omega arith) (omega arith))
  where
    other : (a b : ℕ) → b < a → (a == b) ≡ false
    other a b m = grind (arith, nat_tests)

pub tagged_interleave : {X : Type 0} (n : ℕ) (es : List (ℕ × X)) → AllByRecursion (λ (e : ℕ × X). e.0 < n) es → Interleaves (lanes_named 0 n es) (map (λ e. e.1) es)
tagged_interleave {X} n [] h = empty_lanes X 0 n
tagged_interleave {X} n (e ∷ es) h = (
  e.0,
  of_lane (e.0) es,
  subst (λ k. e.0 < k) (sym (length-lanes 0 n (e ∷ es))) h.0,
  lane_there 0 n (e.0) (e ∷ es) h.0 ∙ ap (λ q. cond (e.0 == q) (e.1 ∷ of_lane q es) (of_lane q es)) (omega arith) ∙ ap (λ b. cond b (e.1 ∷ of_lane (e.0) es) (of_lane (e.0) es)) (itself (e.0)),
  subst (λ ls. Interleaves ls (map (λ (d : ℕ × X). d.1) es)) (sym (lanes_taken 0 n (e.0) e es (omega arith) h.0)) (tagged_interleave n es h.1),
)
  where
    itself : (a : ℕ) → (a == a) ≡ true
    itself a = grind (arith, nat_tests)
