-- What is kept of a group's rows, result by result.
use Rattle.std.proofs.Common.{◌≡◌, ℕ, zero, suc, ◌+◌, ◌<◌, ◌≤◌, ◌^◌, Bool, true, false, cond, Option, Some, None, List, [], ◌∷◌, ◌++◌, length, length-append, map, set, get_or, refl, sym, ap, ap₂, ◌∙◌, subst, arith}
use Rattle.std.specs.Prelude.{nat_le}
use Rattle.std.specs.List.{AllByRecursion, list_all}
use Rattle.streams.proofs.Basics.{and_left, and_right}
use Rattle.ds_value.specs.declared.value.Value.{Value}
use Rattle.op_base.specs.Columns.{Row}
use Rattle.op_group.specs.declared.agg.Agg.{Agg}
use Rattle.op_group.specs.declared.running.Running.{Running}
use Rattle.op_group.specs.declared.running.Running.TheVariants as running
use Rattle.op_group.specs.declared.tally.Tally.{Tally}
use Rattle.op_group.specs.Results.{both, result, each_result, results, present}
use Rattle.op_group.specs.Groups.{agg_suits}
use Rattle.op_group.specs.Kept.{agg_of, RunningStands, Follows, FollowTo, TallyStands, kept_value, kept_results}
use Rattle.op_group.proofs.SumLaws.{sum_kept}

-- at an index
pub all_there : {X : Type 0} (P : X → Type 0) (xs : List X) (i : ℕ) (d : X) → i < length xs → AllByRecursion P xs → P (get_or xs i d)
all_there P [] i d h all = absurd (omega arith)
all_there P (x ∷ xs) zero d h all = all.0
all_there P (x ∷ xs) (suc i) d h all = all_there P xs i d (omega arith) all.1

pub suits_there : (row : Row) (xs : List Running) (i : ℕ) (d : Running) → i < length xs → list_all (agg_suits row) (map agg_of xs) ≡ true → agg_suits row (agg_of (get_or xs i d)) ≡ true
suits_there row [] i d h all = absurd (omega arith)
suits_there row (x ∷ xs) zero d h all = and_left _ _ all
suits_there row (x ∷ xs) (suc i) d h all = suits_there row xs i d (omega arith) (and_right _ _ all)

module _ (before : ℕ) (row : Row) where
  pub follow_none : (olds : List Running) → FollowTo before row 0 olds olds
  follow_none [] = tt
  follow_none (old ∷ olds) = (refl, follow_none olds)

  -- those behind are unchanged
  pub still_there : (i : ℕ) (olds news : List Running) (d : Running) → i < length olds → FollowTo before row i olds news → get_or news i d ≡ get_or olds i d
  still_there i [] news d h f = absurd (omega arith)
  still_there i (old ∷ olds) [] d h f = absurd f
  still_there zero (old ∷ olds) (new ∷ news) d h f = f.0
  still_there (suc i) (old ∷ olds) (new ∷ news) d h f = still_there i olds news d (omega arith) f.1

  pub follow_more : (i : ℕ) (olds news : List Running) (d y : Running) → i < length olds → FollowTo before row i olds news → Follows before row (get_or news i d) y → FollowTo before row (suc i) olds (set news i y)
  follow_more i [] news d y h f s = absurd (omega arith)
  follow_more i (old ∷ olds) [] d y h f s = absurd f
  follow_more zero (old ∷ olds) (new ∷ news) d y h f s = (subst (λ r. Follows before row r y) f.0 s, f.1)
  follow_more (suc i) (old ∷ olds) (new ∷ news) d y h f s = (f.0, follow_more i olds news d y (omega arith) f.1 s)

  pub follow_length : (n : ℕ) (olds news : List Running) → FollowTo before row n olds news → length news ≡ length olds
  follow_length n [] [] f = refl
  follow_length n [] (new ∷ news) f = absurd f
  follow_length n (old ∷ olds) [] f = absurd f
  follow_length zero (old ∷ olds) (new ∷ news) f = ap suc (follow_length zero olds news f.1)
  follow_length (suc n) (old ∷ olds) (new ∷ news) f = ap suc (follow_length n olds news f.1)

  follow_aggs : (olds news : List Running) → FollowTo before row (length olds) olds news → map agg_of news ≡ map agg_of olds
  follow_aggs [] [] f = refl
  follow_aggs [] (new ∷ news) f = absurd f
  follow_aggs (old ∷ olds) [] f = absurd f
  follow_aggs (old ∷ olds) (new ∷ news) f = ap₂ (λ a as1. a ∷ as1) f.0.agg_is (follow_aggs olds news f.1)

  follow_all : (olds news : List Running) (rows : List Row) → length rows ≡ before → FollowTo before row (length olds) olds news → AllByRecursion (RunningStands rows) olds → AllByRecursion (RunningStands (rows ++ row ∷ [])) news
  follow_all [] [] rows e f h = tt
  follow_all [] (new ∷ news) rows e f h = absurd f
  follow_all (old ∷ olds) [] rows e f h = absurd f
  follow_all (old ∷ olds) (new ∷ news) rows e f h = (f.0.stands rows e h.0, follow_all olds news rows e f.1 h.1)

length-more : {X : Type 0} (xs : List X) (x : X) → length (xs ++ x ∷ []) ≡ length xs + 1
length-more xs x = length-append xs (x ∷ [])

-- a row is added, or the group has too many already
pub TallyStands-more : (aggs : List Agg) (rows : List Row) (row : Row) (old new : Tally) → old.count < 2 ^ 62 → FollowTo old.count row (length old.running.items) old.running.items new.running.items → new.count ≡ old.count + 1 → TallyStands aggs rows old → TallyStands aggs (rows ++ row ∷ []) new
TallyStands-more aggs rows row old new few follow count stands =
    let n : length rows ≡ old.count = omega (arith, stands.count_is) in
    let m = length-more rows row in
    record {
      aggs_are = follow_aggs old.count row old.running.items new.running.items follow ∙ stands.aggs_are;
      count_is = omega (arith, count, n, m);
      each = λ le. follow_all old.count row old.running.items new.running.items rows n follow (stands.each (omega arith));
    }

pub TallyStands-full : (aggs : List Agg) (rows : List Row) (row : Row) (old new : Tally) → 2 ^ 62 ≤ old.count → new.running.items ≡ old.running.items → new.count ≡ 2 ^ 62 + 1 → TallyStands aggs rows old → TallyStands aggs (rows ++ row ∷ []) new
TallyStands-full aggs rows row old new most same count stands =
    let m = length-more rows row in
    let c = stands.count_is in
    record {
      aggs_are = ap (map agg_of) same ∙ stands.aggs_are;
      count_is = omega (arith, count, c, m);
      each = λ le. absurd (omega (arith, le, c, m));
    }

-- the results
kept_is : (rows : List Row) (k : Running) → RunningStands rows k → kept_value (length rows) k ≡ result (agg_of k) rows
kept_is rows (running.Sum s) h = sum_kept s.kind s.total (present s.col rows) h.kind_is h.total_is
kept_is rows running.Count h = refl
kept_is rows (running.Min k) h = ap Some h
kept_is rows (running.Max k) h = ap Some h
kept_is rows (running.First k) h = ap Some h
kept_is rows (running.Last k) h = ap Some h

kept_are : (rows : List Row) (kept : List Running) → AllByRecursion (RunningStands rows) kept → kept_results (length rows) kept ≡ each_result (map agg_of kept) rows
kept_are rows [] h = refl
kept_are rows (k ∷ kept) h = ap₂ both (kept_is rows k h.0) (kept_are rows kept h.1)

pub results_kept : (aggs : List Agg) (rows : List Row) (tally : Tally) → tally.count ≤ 2 ^ 62 → TallyStands aggs rows tally → kept_results tally.count tally.running.items ≡ results aggs rows
results_kept aggs rows tally few stands =
    let n : tally.count ≡ length rows = omega (arith, stands.count_is) in
    let le : length rows ≤ 2 ^ 62 = omega arith in
    ap (λ m. kept_results m tally.running.items) n ∙ kept_are rows tally.running.items (stands.each le) ∙ ap (λ as1. each_result as1 rows) stands.aggs_are
    ∙ sym (ap (λ b. cond b (each_result aggs rows) None) (leb-true-back (length rows) le))
  where
    leb-true-back : (n : ℕ) → n ≤ 2 ^ 62 → nat_le n (2 ^ 62) ≡ true
    leb-true-back n le = grind arith

pub results_full : (aggs : List Agg) (rows : List Row) (tally : Tally) → 2 ^ 62 < tally.count → TallyStands aggs rows tally → None ≡ results aggs rows
results_full aggs rows tally many stands =
    let n : 2 ^ 62 < length rows = omega (arith, stands.count_is) in
    sym (ap (λ b. cond b (each_result aggs rows) None) (above (length rows) n))
  where
    above : (n : ℕ) → 2 ^ 62 < n → nat_le n (2 ^ 62) ≡ false
    above n h = grind arith

-- one more result
abbrev with_last : Option (List Value) → Option Value → Option (List Value)
with_last None o = None
with_last (Some vs) None = None
with_last (Some vs) (Some w) = Some (vs ++ w ∷ [])

both_last : (o : Option Value) (more : Option (List Value)) (l : Option Value) → both o (with_last more l) ≡ with_last (both o more) l
both_last None more l = refl
both_last (Some v) None l = refl
both_last (Some v) (Some vs) None = refl
both_last (Some v) (Some vs) (Some w) = refl

one_last : (o : Option Value) → both o (Some []) ≡ with_last (Some []) o
one_last None = refl
one_last (Some v) = refl

results-last : (count : ℕ) (kept : List Running) (k : Running) → kept_results count (kept ++ k ∷ []) ≡ with_last (kept_results count kept) (kept_value count k)
results-last count [] k = one_last (kept_value count k)
results-last count (h ∷ kept) k = ap (both (kept_value count h)) (results-last count kept k) ∙ both_last (kept_value count h) (kept_results count kept) (kept_value count k)

pub results_more : (count : ℕ) (kept : List Running) (k : Running) (values : List Value) (fits : Bool) (v : Value) → kept_results count kept ≡ cond fits (Some values) None → kept_value count k ≡ Some v → kept_results count (kept ++ k ∷ []) ≡ cond fits (Some (values ++ v ∷ [])) None
results_more count kept k values fits v e f = results-last count kept k ∙ ap₂ with_last e f ∙ elim fits as (λ b. with_last (cond b (Some values) None) (Some v) ≡ cond b (Some (values ++ v ∷ [])) None) [ true ↦ refl | false ↦ refl ]

pub results_none : (count : ℕ) (kept : List Running) (k : Running) → kept_value count k ≡ None → kept_results count (kept ++ k ∷ []) ≡ None
results_none count [] k e = ap (λ o. both o (Some [])) e
results_none count (h ∷ kept) k e = ap (both (kept_value count h)) (results_none count kept k e) ∙ none (kept_value count h)
  where
    none : (o : Option Value) → both o None ≡ None
    none None = refl
    none (Some v) = refl
