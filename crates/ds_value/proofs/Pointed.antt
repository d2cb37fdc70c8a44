-- Digits with a point among them.
use Rattle.std.proofs.Common.{◌≡◌, ◌<◌, ◌≤◌, ◌^◌, ℕ, suc, ◌+◌, ◌-◌, List, [], ◌∷◌, ◌++◌, length, take, replicate, refl, ap, ◌∙◌, arith, length-append, append_assoc}
use Rattle.std.proofs.lemmas.List.{take-replicate}
use Rattle.std.proofs.Math.ListN.{length-replicate}
use Rattle.std.specs.Fmt.{decimal}
use Rattle.std.proofs.lemmas.Fmt.{decimal_is_IsNumeral_wide}
use Rattle.ds_value.specs.Spellings.{pointed}
use Rattle.ds_value.proofs.Decimals.{point_text-some}

-- few digits stand behind `0.` and zeros
pub pointed_few : (s : ℕ) (ds : List ℕ) → length ds ≤ s → 1 ≤ length ds → pointed s (replicate (s + 1 - length ds) 48 ++ ds) ≡ 48 ∷ 46 ∷ (replicate (s - length ds) 48 ++ ds)
pointed_few s ds few some =
    let zeros : s + 1 - length ds ≡ suc (s - length ds) = omega arith in
    let rest = replicate (s - length ds) 48 ++ ds in
    let size : length rest ≡ s = omega (arith, length-append (replicate (s - length ds) 48) ds, length-replicate {A = ℕ} (s - length ds) 48) in
    let front : suc (length rest) - s ≡ 1 = omega arith in
    rw (zeros, front) (ap (λ (r : List ℕ). 48 ∷ r) (point_text-some rest (omega arith)))

pub appended_few : (s : ℕ) (old first second new ds : List ℕ) → length ds ≤ s → 1 ≤ length ds → s ≤ 38 → first ≡ old ++ (48 ∷ 46 ∷ []) → second ≡ first ++ take (s - length ds) (replicate 38 48) → new ≡ second ++ ds → new ≡ old ++ pointed s (replicate (s + 1 - length ds) 48 ++ ds)
appended_few s old first second new ds few some scale e f g =
    let zeros : take {A = ℕ} (s - length ds) (replicate 38 48) ≡ replicate {A = ℕ} (s - length ds) 48 = take-replicate {X = ℕ} (s - length ds) 38 48 (omega arith) in
    g ∙ rw (f, e, pointed_few s ds few some, zeros) (append_assoc (old ++ (48 ∷ 46 ∷ [])) (replicate (s - length ds) 48) ds ∙ append_assoc old (48 ∷ 46 ∷ []) (replicate (s - length ds) 48 ++ ds))

pub decimal_some : (n : ℕ) → n < 10 ^ 64 → 1 ≤ length (decimal n)
decimal_some n h = (decimal_is_IsNumeral_wide n h).0.0

-- what is kept of a longer front is kept of a shorter one
pub kept_front : (old more new : List ℕ) → take (length (old ++ more)) new ≡ old ++ more → take (length old) new ≡ old
kept_front [] more new h = refl
kept_front (x ∷ old) more [] h = cc
kept_front (x ∷ old) more (n ∷ new) h =
    let rest : take (length (old ++ more)) new ≡ old ++ more = cc in
    let first : n ≡ x = cc in
    let kept = kept_front old more new rest in
    cc
