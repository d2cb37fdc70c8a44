-- Three operators in turn can be combined.
use Rattle.std.proofs.Common.{◌≡◌, ℕ, zero, suc, ◌<◌, ◌⊎◌, inl, inr, refl, sym, List, [], ◌∷◌, map, arith}
use Rattle.streams.specs.Lists.{IsIn}
use Rattle.streams.specs.Streams.{Item, row, end, sends, Out, rows_out, rows_of, IsStream}
use Rattle.streams.specs.Operators.{row_outs, end_outs}
use Rattle.streams.specs.Chains.{others}
use Rattle.streams.specs.Wiring.{IsGathering, Leaves, IsWired}
use Rattle.streams.proofs.Collectors.{rowwise_is, at_end_is}
use Rattle.plan_chains.specs.Chains.{CanChain}
use Rattle.plan_chains.specs.Worked.{sorted, streams, wires, leaving, in_turn}

zero_only : (i : ℕ) → i < 1 → i ≡ 0
zero_only i lt = omega arith

pub in_turn_wired : IsWired in_turn
in_turn_wired = record {
  forward = (λ i lt. inl refl, λ h. h, (λ i lt. inr (inl refl, inl refl), λ h. no_one h, (λ i lt. inr (inl refl, inl refl), λ h. no_two h, tt)));
  degrees = λ o h. omega arith;
  streams = are_streams;
  inputs = inputs;
  outputs = outputs;
}
  where
    no_one : (◌≡◌ {A = ℕ} 1 0) ⊎ ⊥ → ⊥
    no_one (inl e) = omega (arith, e)
    no_one (inr h) = h

    no_two : (◌≡◌ {A = ℕ} 2 1) ⊎ ((◌≡◌ {A = ℕ} 2 0) ⊎ ⊥) → ⊥
    no_two (inl e) = omega (arith, e)
    no_two (inr (inl e)) = omega (arith, e)
    no_two (inr (inr h)) = h

    are_streams : (o : ℕ) → IsIn o (0 ∷ 1 ∷ 2 ∷ []) → IsStream (streams o)
    are_streams zero h = rowwise_is (λ x. sends 0 x ∷ [])
    are_streams (suc zero) h = at_end_is (λ xs. map (sends 0) (sorted xs))
    are_streams (suc (suc o)) h = rowwise_is (λ x. sends 0 x ∷ [])

    big : (o : ℕ) → IsIn (suc (suc (suc o))) (0 ∷ 1 ∷ 2 ∷ []) → ⊥
    big o (inl e) = omega (arith, e)
    big o (inr (inl e)) = omega (arith, e)
    big o (inr (inr (inl e))) = omega (arith, e)
    big o (inr (inr (inr h))) = h

    inputs : (o i : ℕ) → IsIn o (0 ∷ 1 ∷ 2 ∷ []) → i < (streams o).ports → ((wires o).into ≡ o) × ((wires o).port ≡ i) × IsGathering (wires o).gather
    inputs zero i h lt = (refl, sym (zero_only i lt), tt)
    inputs (suc zero) i h lt = (refl, sym (zero_only i lt), tt)
    inputs (suc (suc zero)) i h lt = (refl, sym (zero_only i lt), tt)
    inputs (suc (suc (suc o))) i h lt = absurd (big o h)

    outputs : (o l : ℕ) → IsIn o (0 ∷ 1 ∷ 2 ∷ []) → IsIn l (leaving o) → Leaves in_turn o l
    outputs zero l h (inr i) = absurd i
    outputs zero zero h (inl e) = absurd (omega (arith, e))
    outputs zero (suc zero) h (inl e) = record { from = refl; no_file = refl; into = inr (inl refl); port = omega arith; input = refl; straight = λ s. refl }
    outputs zero (suc (suc l)) h (inl e) = absurd (omega (arith, e))
    outputs (suc zero) l h (inr i) = absurd i
    outputs (suc zero) zero h (inl e) = absurd (omega (arith, e))
    outputs (suc zero) (suc zero) h (inl e) = absurd (omega (arith, e))
    outputs (suc zero) (suc (suc zero)) h (inl e) = record { from = refl; no_file = refl; into = inr (inr (inl refl)); port = omega arith; input = refl; straight = λ s. refl }
    outputs (suc zero) (suc (suc (suc l))) h (inl e) = absurd (omega (arith, e))
    outputs (suc (suc o)) l h i = absurd i

none_elsewhere : (xs : List ℕ) → rows_out (others (map {B = Out ℕ ⊥} (sends 0) xs)) ≡ []
none_elsewhere [] = refl
none_elsewhere (x ∷ xs) = none_elsewhere xs

passes : (item : Item ℕ) → rows_out (others (row_outs {F = ⊥} (λ x. sends 0 x ∷ []) item)) ≡ []
passes (row x) = refl
passes end = refl

sorts : (xs : List ℕ) (item : Item ℕ) → rows_out (others (end_outs {F = ⊥} (map (sends 0) (sorted xs)) item)) ≡ []
sorts xs (row x) = refl
sorts xs end = none_elsewhere (sorted xs)

pub in_turn_can : CanChain in_turn (1 ∷ 2 ∷ [])
in_turn_can = (
  record { producer = inl refl; outs = refl; out = refl; consumer = refl; straight = refl; shares = refl; goes = λ p t x j. refl; one_output = λ feeds f. passes f.item; one_port = record { one = refl; until = λ feeds i. refl } },
  apart,
  (
    record { producer = inr (inl refl); outs = refl; out = refl; consumer = refl; straight = refl; shares = refl; goes = λ p t x j. refl; one_output = λ feeds f. sorts (rows_of 0 feeds) f.item; one_port = record { one = refl; until = λ feeds i. refl } },
    λ h. h,
    tt,
  ),
)
  where
    apart : (◌≡◌ {A = ℕ} 1 2) ⊎ ⊥ → ⊥
    apart (inl e) = omega (arith, e)
    apart (inr h) = h
