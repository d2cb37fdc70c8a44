-- The least and the greatest of some values, and sums, are the same of permuted rows.
use Rattle.std.proofs.Common.{◌≡◌, ℕ, suc, ◌+◌, ◌^◌, ◌||◌, ◌==◌, ℤ, pos, negsuc, ◌+ℤ◌, Bool, true, false, cond, not, List, [], ◌∷◌, ◌++◌, Option, Some, None, count_by, flat_map, length, sum_by, refl, sym, ap, ap₂, ◌∙◌, subst, true≢false, arith, IsPermutation}
use Rattle.std.specs.Prelude.{fold, nat_le, if◌then◌else◌}
use Rattle.std.specs.List.{AllByRecursion, list_any}
use Rattle.std.specs.Cmp.{IsTotalOrder}
use Rattle.std.specs.Ordering.{is_lt, ordering_reverse}
use Rattle.std.specs.declared.cmp.Ordering.{Ordering}
use Rattle.std.specs.declared.cmp.Ordering.TheVariants.{Less, Equal, Greater}
use Rattle.std.proofs.lemmas.Bool.Decides.{nat_tests}
use Rattle.std.proofs.lemmas.Cmp.{back_total, tied_itself}
use Rattle.std.proofs.lemmas.Int.{ints}
use Rattle.std.proofs.lemmas.List.Sorted.{IsPermutation-sym, ranks_by, sum_by-IsPermutation}
use Rattle.std.proofs.lemmas.List.Sums.{sum_by-cons}
use Rattle.std.proofs.lemmas.Map.Lookups.{CmpEqualImpliesEq}
use Rattle.ds_value.specs.declared.value.Value.{Value}
use Rattle.ds_value.specs.declared.value.Value.TheVariants as value
use Rattle.ds_value.specs.Values.{number, value_cmp}
use Rattle.ds_schema.specs.Rows.{at}
use Rattle.op_base.specs.Columns.{Row}
use Rattle.op_base.proofs.Bags.{count-cons, count-permutation, permuted_long}
use Rattle.op_base.proofs.Orders.{value_exact, value_total}
use Rattle.op_base.proofs.RowLists.{flat_rows_permuted}
use Rattle.op_group.specs.declared.agg.Agg.{Agg}
use Rattle.op_group.specs.declared.agg.Agg.TheVariants.{Sum, Count, Min, Max, First, Last}
use Rattle.op_group.specs.Results.{as_int, as_uint, both, each_result, greatest, in_row_order, is_dec, is_int, is_null, is_uint, least, present, result, results, sum_of, total}
use Rattle.flow_sound.proofs.Members.{all_permuted}

-- ---- the best of some values in an order

module _ (R : Value → Value → Ordering) (order : IsTotalOrder R) (exact : CmpEqualImpliesEq R) where
  abbrev better : Value → Value → Value
  better v w = cond (is_lt (R w v)) w v

  abbrev best : List Value → Value → Value
  best vs v = fold better v vs

  -- w isn't before v
  abbrev NotBefore : Value → Value → Type 0
  NotBefore v w = is_lt (R w v) ≡ false

  itself_not : (v : Value) → NotBefore v v
  itself_not v = ap is_lt (tied_itself order v)

  chain : (a b c : Value) → NotBefore a b → NotBefore b c → NotBefore a c
  chain a b c h k = (ranks_by order (λ (v : Value). v)).chain c b a k h

  both_ways : (a b : Value) → NotBefore a b → NotBefore b a → a ≡ b
  both_ways a b h k = go (R a b) refl
    where
      go : (o : Ordering) → R a b ≡ o → a ≡ b
      go Less e = absurd (true≢false (sym (ap is_lt e) ∙ k))
      go Equal e = exact a b e
      go Greater e = absurd (true≢false (sym (ap is_lt (order.antisymm b a ∙ ap ordering_reverse e)) ∙ h))

  turned : (v w : Value) → is_lt (R w v) ≡ true → NotBefore w v
  turned v w e = go (R w v) refl e
    where
      go : (o : Ordering) → R w v ≡ o → is_lt o ≡ true → NotBefore w v
      go Less f g = ap is_lt (order.antisymm v w ∙ ap ordering_reverse f)
      go Equal f g = cc
      go Greater f g = cc

  better_first : (v w : Value) → NotBefore (better v w) v
  better_first v w = go (is_lt (R w v)) refl
    where
      go : (b : Bool) → is_lt (R w v) ≡ b → NotBefore (cond b w v) v
      go true e = turned v w e
      go false e = itself_not v

  better_second : (v w : Value) → NotBefore (better v w) w
  better_second v w = go (is_lt (R w v)) refl
    where
      go : (b : Bool) → is_lt (R w v) ≡ b → NotBefore (cond b w v) w
      go true e = itself_not w
      go false e = e

  best_first : (vs : List Value) (v : Value) → NotBefore (best vs v) v
  best_first [] v = itself_not v
  best_first (w ∷ vs) v = chain (best vs (better v w)) (better v w) v (best_first vs (better v w)) (better_first v w)

  best_rest : (vs : List Value) (v : Value) → AllByRecursion (NotBefore (best vs v)) vs
  best_rest [] v = tt
  best_rest (w ∷ vs) v = (chain (best vs (better v w)) (better v w) w (best_first vs (better v w)) (better_second v w), best_rest vs (better v w))

  -- it is one of them
  best_among : (P : Value → Type 0) (vs : List Value) (v : Value) → P v → AllByRecursion P vs → P (best vs v)
  best_among P [] v h k = h
  best_among P (w ∷ vs) v h k = best_among P vs (better v w) (go (is_lt (R w v))) k.1
    where
      go : (b : Bool) → P (cond b w v)
      go true = k.0
      go false = h

  best_permuted : (v : Value) (vs : List Value) (w : Value) (ws : List Value) → IsPermutation (v ∷ vs) (w ∷ ws) → best vs v ≡ best ws w
  best_permuted v vs w ws p = both_ways (best vs v) (best ws w) (among (best vs v) (best_first vs v) (best_rest vs v)) back
    where
      among : (m : Value) → NotBefore m v → AllByRecursion (NotBefore m) vs → NotBefore m (best ws w)
      among m h k = let all = all_permuted (NotBefore m) (v ∷ vs) (w ∷ ws) p (h, k) in best_among (NotBefore m) ws w all.0 all.1

      back : NotBefore (best ws w) (best vs v)
      back =
          let all = all_permuted (NotBefore (best ws w)) (w ∷ ws) (v ∷ vs) (IsPermutation-sym (v ∷ vs) (w ∷ ws) p) (best_first ws w, best_rest ws w) in
          best_among (NotBefore (best ws w)) vs v all.0 all.1

no_more : (x : Value) (xs : List Value) → IsPermutation [] (x ∷ xs) → ⊥
no_more x xs p = let l : 0 ≡ suc (length xs) = permuted_long [] (x ∷ xs) p in absurd (omega (arith, l))

pub least_permuted : (vs ws : List Value) → IsPermutation vs ws → least vs ≡ least ws
least_permuted [] [] p = refl
least_permuted [] (w ∷ ws) p = absurd (no_more w ws p)
least_permuted (v ∷ vs) [] p = absurd (no_more v vs (IsPermutation-sym (v ∷ vs) [] p))
least_permuted (v ∷ vs) (w ∷ ws) p = best_permuted value_cmp value_total value_exact v vs w ws p

back_exact : CmpEqualImpliesEq (λ a b. value_cmp b a)
back_exact a b e = sym (value_exact b a e)

pub greatest_permuted : (vs ws : List Value) → IsPermutation vs ws → greatest vs ≡ greatest ws
greatest_permuted [] [] p = refl
greatest_permuted [] (w ∷ ws) p = absurd (no_more w ws p)
greatest_permuted (v ∷ vs) [] p = absurd (no_more v vs (IsPermutation-sym (v ∷ vs) [] p))
greatest_permuted (v ∷ vs) (w ∷ ws) p = best_permuted (λ a b. value_cmp b a) (back_total value_total) back_exact v vs w ws p

pub least_all : (P : Value → Type 0) (v : Value) (vs : List Value) → AllByRecursion P (v ∷ vs) → P (least (v ∷ vs))
least_all P v vs h = best_among value_cmp value_total value_exact P vs v h.0 h.1

pub greatest_all : (P : Value → Type 0) (v : Value) (vs : List Value) → AllByRecursion P (v ∷ vs) → P (greatest (v ∷ vs))
greatest_all P v vs h = best_among (λ a b. value_cmp b a) (back_total value_total) back_exact P vs v h.0 h.1

-- ---- sums

-- what a number is above and below zero
above : ℤ → ℕ
above (pos n) = n
above (negsuc n) = 0

below : ℤ → ℕ
below (pos n) = 0
below (negsuc n) = suc n

parts : (z : ℤ) → z +ℤ pos (below z) ≡ pos (above z)
unfolding above below
parts (pos n) = omega (arith, ints)
parts (negsuc n) = omega (arith, ints)

total_parts : (vs : List Value) → total vs +ℤ pos (sum_by (λ v. below (number v)) vs) ≡ pos (sum_by (λ v. above (number v)) vs)
total_parts [] = refl
total_parts (v ∷ vs) =
    let more = total_parts vs in
    let one = parts (number v) in
    let b = sum_by-cons (λ w. below (number w)) v vs in
    let a = sum_by-cons (λ w. above (number w)) v vs in
    omega (arith, ints, more, one, a, b)

total_permuted : (vs ws : List Value) → IsPermutation vs ws → total vs ≡ total ws
total_permuted vs ws p =
    let v = total_parts vs in
    let w = total_parts ws in
    let b = sum_by-IsPermutation (λ x. below (number x)) vs ws p in
    let a = sum_by-IsPermutation (λ x. above (number x)) vs ws p in
    omega (arith, ints, v, w, a, b)

-- whether a test holds of one of them
abbrev some_count : ℕ → Bool
some_count n = not (n == 0)

any_counted : (p : Value → Bool) (vs : List Value) → list_any p vs ≡ some_count (count_by p vs)
any_counted p [] = refl
any_counted p (v ∷ vs) = go (p v) refl (any_counted p vs)
  where
    count : (b : Bool) → p v ≡ b → count_by p (v ∷ vs) ≡ cond b 1 0 + count_by p vs
    count b e = count-cons p v vs ∙ ap (λ x. cond x 1 0 + count_by p vs) e

    one : (n : ℕ) → true ≡ some_count (1 + n)
    one n = grind (arith, nat_tests)

    none : (n : ℕ) → some_count n ≡ some_count (0 + n)
    none n = ap some_count (omega arith)

    go : (b : Bool) → p v ≡ b → list_any p vs ≡ some_count (count_by p vs) → (p v || list_any p vs) ≡ some_count (count_by p (v ∷ vs))
    go true e more = ap (λ x. x || list_any p vs) e ∙ one (count_by p vs) ∙ ap some_count (sym (count true e))
    go false e more = ap (λ x. x || list_any p vs) e ∙ more ∙ none (count_by p vs) ∙ ap some_count (sym (count false e))

any_permuted : (p : Value → Bool) (vs ws : List Value) → IsPermutation vs ws → list_any p vs ≡ list_any p ws
any_permuted p vs ws h = any_counted p vs ∙ ap some_count (count-permutation p vs ws h) ∙ sym (any_counted p ws)

abbrev summed : Bool → Bool → Bool → ℤ → Option Value
summed decs uints ints z =
    if decs then Some (value.Dec z) else
    if uints then as_uint z else
    if ints then as_int z else Some value.Null

sum_permuted : (vs ws : List Value) → IsPermutation vs ws → sum_of vs ≡ sum_of ws
sum_permuted vs ws h =
    ap (λ z. summed (list_any is_dec vs) (list_any is_uint vs) (list_any is_int vs) z) (total_permuted vs ws h)
    ∙ ap (λ b. summed b (list_any is_uint vs) (list_any is_int vs) (total ws)) (any_permuted is_dec vs ws h)
    ∙ ap₂ (λ b c. summed (list_any is_dec ws) b c (total ws)) (any_permuted is_uint vs ws h) (any_permuted is_int vs ws h)

-- ---- the results of rows

-- what a row has in a column, if it isn't null
abbrev shown_at : ℕ → Row → List Value
shown_at col r = cond (not (is_null (at r col))) (at r col ∷ []) []

present_flat : (col : ℕ) (rows : List Row) → present col rows ≡ flat_map (shown_at col) rows
present_flat col [] = refl
present_flat col (r ∷ rows) = go (not (is_null (at r col))) (present_flat col rows)
  where
    go : (b : Bool) → present col rows ≡ flat_map (shown_at col) rows → cond b (at r col ∷ present col rows) (present col rows) ≡ cond b (at r col ∷ []) [] ++ flat_map (shown_at col) rows
    go true e = ap (λ vs. at r col ∷ vs) e
    go false e = e

present_permuted : (col : ℕ) (xs ys : List Row) → IsPermutation xs ys → IsPermutation (present col xs) (present col ys)
present_permuted col xs ys h =
    subst (λ vs. IsPermutation vs (present col ys)) (sym (present_flat col xs))
    (subst (IsPermutation (flat_map (shown_at col) xs)) (sym (present_flat col ys)) (flat_rows_permuted (shown_at col) xs ys h))

result_permuted : (a : Agg) (xs ys : List Row) → in_row_order a ≡ false → IsPermutation xs ys → result a xs ≡ result a ys
result_permuted (Sum col) xs ys e h = sum_permuted (present col xs) (present col ys) (present_permuted col xs ys h)
result_permuted Count xs ys e h = ap (λ n. Some (value.UInt n)) (permuted_long xs ys h)
result_permuted (Min col) xs ys e h = ap Some (least_permuted (present col xs) (present col ys) (present_permuted col xs ys h))
result_permuted (Max col) xs ys e h = ap Some (greatest_permuted (present col xs) (present col ys) (present_permuted col xs ys h))
result_permuted (First col) xs ys e h = cc
result_permuted (Last col) xs ys e h = cc

neither : (a b : Bool) → (a || b) ≡ false → (a ≡ false) × (b ≡ false)
neither false b e = (refl, e)
neither true b e = cc

each_permuted : (aggs : List Agg) (xs ys : List Row) → list_any in_row_order aggs ≡ false → IsPermutation xs ys → each_result aggs xs ≡ each_result aggs ys
each_permuted [] xs ys e h = refl
each_permuted (a ∷ aggs) xs ys e h =
    let parts = neither (in_row_order a) (list_any in_row_order aggs) e in
    ap₂ both (result_permuted a xs ys parts.0 h) (each_permuted aggs xs ys parts.1 h)

-- without a first or last result the order of rows is not seen
pub results_permuted : (aggs : List Agg) (xs ys : List Row) → list_any in_row_order aggs ≡ false → IsPermutation xs ys → results aggs xs ≡ results aggs ys
results_permuted aggs xs ys e h =
    ap (λ n. if nat_le n (2 ^ 62) then each_result aggs xs else None) (permuted_long xs ys h)
    ∙ ap (λ o. if nat_le (length ys) (2 ^ 62) then o else None) (each_permuted aggs xs ys e h)
