-- The faults of a plan with a combined link are those of the plan.
use Rattle.std.proofs.Common.{◌≡◌, ℕ, zero, suc, ◌+◌, ◌<◌, ◌==◌, Bool, true, false, not, cond, ◌⊎◌, inl, inr, refl, sym, ap, ap₂, ◌∙◌, subst, List, [], ◌∷◌, ◌++◌, append_assoc, flat_map, arith, IsPermutation}
use Rattle.std.proofs.lemmas.Bool.{eqb-true}
use Rattle.std.proofs.lemmas.Grind.{flat_map-append}
use Rattle.std.proofs.lemmas.List.Sorted.{IsPermutation-append_comm, IsPermutation-append_left, IsPermutation-append_right, IsPermutation-cons, IsPermutation-middle, IsPermutation-refl, IsPermutation-sym, IsPermutation-trans}
use Rattle.streams.specs.Lists.{IsIn}
use Rattle.streams.specs.Streams.{Out, faults_out}
use Rattle.streams.specs.Core.{Player}
use Rattle.streams.specs.Chains.{Mixes}
use Rattle.streams.specs.Wiring.{Plan, numbers_from, parts_of, all_players, GoesForward, IsWired}
use Rattle.streams.proofs.StreamLaws.{eq_true, true_false}
use Rattle.plan_chains.specs.Combined.{CanCombine, combined, part}
use Rattle.plan_chains.specs.Chains.{all_faults}
use Rattle.plan_chains.proofs.Combining.{without, degrees_same, fed_before, there, is_a}

-- ---- lists

mixed_all : {A : Type 0} (xs ys zs : List A) → Mixes xs ys zs → IsPermutation zs (xs ++ ys)
mixed_all {A} xs ys [] m = subst (λ (ws : List A). IsPermutation [] ws) (ap₂ (λ us ws. us ++ ws) (sym m.0) (sym m.1)) (IsPermutation-refl [])
mixed_all {A} xs ys (z ∷ zs) (inl m) = subst (λ (ws : List A). IsPermutation (z ∷ zs) (ws ++ ys)) (sym m.1) (IsPermutation-cons z zs (m.0 ++ ys) (mixed_all m.0 ys zs m.2))
mixed_all {A} xs ys (z ∷ zs) (inr m) =
    subst (λ (ws : List A). IsPermutation (z ∷ zs) (xs ++ ws)) (sym m.1)
    (IsPermutation-trans (z ∷ zs) (z ∷ (xs ++ m.0)) (xs ++ z ∷ m.0) (IsPermutation-cons z zs (xs ++ m.0) (mixed_all xs m.0 zs m.2)) (IsPermutation-sym (xs ++ z ∷ m.0) (z ∷ (xs ++ m.0)) (IsPermutation-middle xs z m.0)))

swap_front : {A : Type 0} (a b d : List A) → IsPermutation (a ++ (b ++ d)) (b ++ (a ++ d))
swap_front {A} a b d =
    subst (λ (zs : List A). IsPermutation (a ++ (b ++ d)) zs) (append_assoc b a d)
    (subst (λ (zs : List A). IsPermutation zs ((b ++ a) ++ d)) (append_assoc a b d) (IsPermutation-append_left d (a ++ b) (b ++ a) (IsPermutation-append_comm a b)))

swap_middle : {A : Type 0} (a b c d : List A) → IsPermutation ((a ++ b) ++ (c ++ d)) ((a ++ c) ++ (b ++ d))
swap_middle {A} a b c d =
    subst (λ (zs : List A). IsPermutation zs ((a ++ c) ++ (b ++ d))) (sym (append_assoc a b (c ++ d)))
    (subst (λ (zs : List A). IsPermutation (a ++ (b ++ (c ++ d))) zs) (sym (append_assoc a c (b ++ d))) (IsPermutation-append_right a (b ++ (c ++ d)) (c ++ (b ++ d)) (swap_front b c d)))

both_sides : {A : Type 0} (a b c d : List A) → IsPermutation a b → IsPermutation c d → IsPermutation (a ++ c) (b ++ d)
both_sides a b c d h k = IsPermutation-trans (a ++ c) (b ++ c) (b ++ d) (IsPermutation-append_left c a b h) (IsPermutation-append_right b c d k)

-- each of k numbers from i on is below their end
below_end : (i k j : ℕ) → IsIn j (numbers_from i k) → j < i + k
below_end i zero j h = absurd h
below_end i (suc k) j (inl e) = omega (arith, e)
below_end i (suc k) j (inr h) = (let r = below_end (suc i) k j h in omega (arith, r))

-- ---- players

-- no operator comes twice
fresh : {X F : Type 0} (plan : Plan X F) (seen order : List ℕ) → GoesForward plan seen order → (o : ℕ) → IsIn o order → IsIn o seen → ⊥
fresh plan seen [] f o h i = h
fresh plan seen (x ∷ order) f o (inl e) i = f.1 (subst (λ z. IsIn z seen) e i)
fresh plan seen (x ∷ order) f o (inr h) i = fresh plan (x ∷ seen) order f.2 o h (inr i)

module _ {X F : Type 0} (plan : Plan X F) (a b link : ℕ) (wired : IsWired plan) (can : CanCombine plan a b link) (made makes : Player → List (Out X F))
    (other_makes : (p : Player) → (p.operator ≡ a → ⊥) → (p.operator ≡ b → ⊥) → makes p ≡ made p)
    (mixes : (i : ℕ) → i < plan.degree a → Mixes (faults_out (makes (part a i))) (faults_out (makes (part b i))) (faults_out (made (part a i)))) where
  -- the faults of an operator on some partitions
  abbrev new_of : ℕ → List ℕ → List F
  new_of o is = flat_map (λ p. faults_out (made p)) (parts_of o is)

  abbrev old_of : ℕ → List ℕ → List F
  old_of o is = flat_map (λ p. faults_out (makes p)) (parts_of o is)

  same_of : (o : ℕ) (is : List ℕ) → (o ≡ a → ⊥) → (o ≡ b → ⊥) → new_of o is ≡ old_of o is
  same_of o [] n m = refl
  same_of o (i ∷ is) n m = ap₂ (λ xs ys. xs ++ ys) (ap (λ outs. faults_out outs) (sym (other_makes (part o i) n m))) (same_of o is n m)

  two_of : (is : List ℕ) → ((i : ℕ) → IsIn i is → i < plan.degree a) → IsPermutation (new_of a is) (old_of a is ++ old_of b is)
  two_of [] h = IsPermutation-refl []
  two_of (i ∷ is) h =
      let one : List F = faults_out (makes (part a i)) in
      let two : List F = faults_out (makes (part b i)) in
      IsPermutation-trans (new_of a (i ∷ is)) ((one ++ two) ++ (old_of a is ++ old_of b is)) ((one ++ old_of a is) ++ (two ++ old_of b is))
      (both_sides (faults_out (made (part a i))) (one ++ two) (new_of a is) (old_of a is ++ old_of b is) (mixed_all one two (faults_out (made (part a i))) (mixes i (h i (inl refl)))) (two_of is (λ j k. h j (inr k))))
      (swap_middle one two (old_of a is) (old_of b is))

  -- on all partitions
  abbrev new_at : ℕ → List F
  new_at o = new_of o (numbers_from 0 (plan.degree o))

  abbrev old_at : ℕ → List F
  old_at o = old_of o (numbers_from 0 (plan.degree o))

  two_at : IsPermutation (new_at a) (old_at a ++ old_at b)
  two_at = subst (λ n. IsPermutation (new_at a) (old_at a ++ old_of b (numbers_from 0 n))) (degrees_same plan a b link wired can) (two_of (numbers_from 0 (plan.degree a)) (λ i h. (let r = below_end 0 (plan.degree a) i h in omega (arith, r))))

  abbrev new_all : List ℕ → List F
  new_all order = flat_map (λ p. faults_out (made p)) (all_players plan order)

  abbrev old_all : List ℕ → List F
  old_all order = flat_map (λ p. faults_out (makes p)) (all_players plan order)

  new_more : (o : ℕ) (order : List ℕ) → new_all (o ∷ order) ≡ new_at o ++ new_all order
  new_more o order = flat_map-append (λ p. faults_out (made p)) (parts_of o (numbers_from 0 (plan.degree o))) (all_players plan order)

  old_more : (o : ℕ) (order : List ℕ) → old_all (o ∷ order) ≡ old_at o ++ old_all order
  old_more o order = flat_map-append (λ p. faults_out (makes p)) (parts_of o (numbers_from 0 (plan.degree o))) (all_players plan order)

  -- where neither is
  neither : (order : List ℕ) → (IsIn a order → ⊥) → (IsIn b order → ⊥) → new_all (without b order) ≡ old_all order
  neither [] n m = refl
  neither (o ∷ order) n m = by (o == b) refl (neither order (λ i. n (inr i)) (λ i. m (inr i)))
    where
      by : (t : Bool) → (o == b) ≡ t → new_all (without b order) ≡ old_all order → new_all (cond (not t) (o ∷ without b order) (without b order)) ≡ old_all (o ∷ order)
      by true e more = absurd (m (inl (sym (eqb-true o b e))))
      by false e more =
          new_more o (without b order)
          ∙ (ap₂ (λ xs ys. xs ++ ys) (same_of o (numbers_from 0 (plan.degree o)) (λ s. n (inl (sym s))) (λ s. m (inl (sym s)))) more ∙ sym (old_more o order))

  -- where b comes
  second : (seen order : List ℕ) → GoesForward plan seen order → (IsIn a order → ⊥) → IsIn b order → IsPermutation (new_all (without b order) ++ old_at b) (old_all order)
  second seen [] f n h = absurd h
  second seen (o ∷ order) f n h = by (o == b) refl h (λ i. second (o ∷ seen) order f.2 (λ j. n (inr j)) i)
    where
      skip : (o ≡ b → ⊥) → (o ≡ b) ⊎ IsIn b order → IsIn b order
      skip m (inl e) = absurd (m e)
      skip m (inr i) = i

      by : (t : Bool) → (o == b) ≡ t → IsIn b (o ∷ order) → (IsIn b order → IsPermutation (new_all (without b order) ++ old_at b) (old_all order)) → IsPermutation (new_all (cond (not t) (o ∷ without b order) (without b order)) ++ old_at b) (old_all (o ∷ order))
      by true e i again =
          let same : o ≡ b = eqb-true o b e in
          let rest = neither order (λ i. n (inr i)) (λ j. fresh plan (o ∷ seen) order f.2 b j (inl (sym same))) in
          subst (λ (ys : List F). IsPermutation (new_all (without b order) ++ old_at b) ys) (sym (old_more o order ∙ ap (λ z. old_at z ++ old_all order) same))
          (subst (λ (xs : List F). IsPermutation (xs ++ old_at b) (old_at b ++ old_all order)) (sym rest) (IsPermutation-append_comm (old_all order) (old_at b)))
      by false e i again =
          let other : o ≡ b → ⊥ = λ s. true_false (eq_true o b s) e in
          let more = again (skip other (elim i [ inl s ↦ inl (sym s) | inr j ↦ inr j ])) in
          let front = new_more o (without b order) ∙ ap (λ (xs : List F). xs ++ new_all (without b order)) (same_of o (numbers_from 0 (plan.degree o)) (λ s. n (inl (sym s))) other) in
          subst (λ (ys : List F). IsPermutation (new_all (o ∷ without b order) ++ old_at b) ys) (sym (old_more o order))
          (subst (λ (xs : List F). IsPermutation xs (old_at o ++ old_all order)) (sym (ap (λ (xs : List F). xs ++ old_at b) front ∙ append_assoc (old_at o) (new_all (without b order)) (old_at b)))
          (IsPermutation-append_right (old_at o) (new_all (without b order) ++ old_at b) (old_all order) more))

  -- where both come
  first : (seen order : List ℕ) → GoesForward plan seen order → IsIn a order → IsIn b order → IsPermutation (new_all (without b order)) (old_all order)
  first seen [] f h k = absurd h
  first seen (o ∷ order) f h k = by (o == b) refl (is_a plan a b link wired can o) (λ i j. first (o ∷ seen) order f.2 i j)
    where
      not_b : o ≡ b → ⊥
      not_b e = fresh plan seen (o ∷ order) f a h (fed_before plan a b link wired can seen order o f e)

      past : (x : ℕ) → (o ≡ x → ⊥) → (x ≡ o) ⊎ IsIn x order → IsIn x order
      past x n (inl e) = absurd (n (sym e))
      past x n (inr i) = i

      by : (t : Bool) → (o == b) ≡ t → (o ≡ a) ⊎ (o ≡ a → ⊥) → (IsIn a order → IsIn b order → IsPermutation (new_all (without b order)) (old_all order)) → IsPermutation (new_all (cond (not t) (o ∷ without b order) (without b order))) (old_all (o ∷ order))
      by true e d again = absurd (not_b (eqb-true o b e))
      by false e (inl s) again =
          let more = second (o ∷ seen) order f.2 (λ j. fresh plan (o ∷ seen) order f.2 a j (inl (sym s))) (past b not_b k) in
          let front = both_sides (new_at a) (old_at a ++ old_at b) (new_all (without b order)) (new_all (without b order)) two_at (IsPermutation-refl (new_all (without b order))) in
          let turned = IsPermutation-append_right (old_at a) (old_at b ++ new_all (without b order)) (new_all (without b order) ++ old_at b) (IsPermutation-append_comm (old_at b) (new_all (without b order))) in
          let last = IsPermutation-append_right (old_at a) (new_all (without b order) ++ old_at b) (old_all order) more in
          subst (λ (xs : List F). IsPermutation xs (old_all (o ∷ order))) (sym (new_more o (without b order) ∙ ap (λ z. new_at z ++ new_all (without b order)) s))
          (subst (λ (ys : List F). IsPermutation (new_at a ++ new_all (without b order)) ys) (sym (old_more o order ∙ ap (λ z. old_at z ++ old_all order) s))
          (IsPermutation-trans (new_at a ++ new_all (without b order)) ((old_at a ++ old_at b) ++ new_all (without b order)) (old_at a ++ old_all order) front
          (subst (λ (xs : List F). IsPermutation xs (old_at a ++ old_all order)) (sym (append_assoc (old_at a) (old_at b) (new_all (without b order))))
          (IsPermutation-trans (old_at a ++ (old_at b ++ new_all (without b order))) (old_at a ++ (new_all (without b order) ++ old_at b)) (old_at a ++ old_all order) turned last))))
      by false e (inr n) again =
          let more = again (past a n h) (past b not_b k) in
          subst (λ (xs : List F). IsPermutation xs (old_all (o ∷ order))) (sym (new_more o (without b order) ∙ ap (λ (xs : List F). xs ++ new_all (without b order)) (same_of o (numbers_from 0 (plan.degree o)) n not_b)))
          (subst (λ (ys : List F). IsPermutation (old_at o ++ new_all (without b order)) ys) (sym (old_more o order)) (IsPermutation-append_right (old_at o) (new_all (without b order)) (old_all order) more))

  players_same : (order : List ℕ) → all_players (combined plan a b) order ≡ all_players plan order
  players_same [] = refl
  players_same (o ∷ order) = ap (λ (ps : List Player). parts_of o (numbers_from 0 (plan.degree o)) ++ ps) (players_same order)

  pub faults_kept : IsPermutation (all_faults (combined plan a b) made) (all_faults plan makes)
  faults_kept = subst (λ (ps : List Player). IsPermutation (flat_map (λ p. faults_out (made p)) ps) (all_faults plan makes)) (sym (players_same (without b plan.order))) (first [] plan.order wired.forward can.producer (there plan a b link wired can))
