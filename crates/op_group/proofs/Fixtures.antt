-- Rows of a key and a number suit the results of the numbers.
use Rattle.std.proofs.Common.{◌≡◌, ℤ, Bool, true, ◌&&◌, List, [], ◌∷◌, ◌++◌, refl, sym, ap, ◌∙◌, subst}
use Rattle.std.specs.Prelude.{nat_lt}
use Rattle.std.specs.List.{AllByRecursion, list_all}
use Rattle.streams.specs.Streams.{Feed, rows_of}
use Rattle.streams.proofs.Basics.{and_true}
use Rattle.ds_value.specs.declared.value.Value.{Value}
use Rattle.ds_value.specs.declared.value.Value.TheVariants.{Int}
use Rattle.ds_schema.specs.declared.key.Key.{Key}
use Rattle.ds_schema.specs.Rows.{at, cols}
use Rattle.op_base.specs.Columns.{Row, is_short}
use Rattle.op_base.specs.Standing.{row_feed}
use Rattle.op_base.specs.WholeLists.{list_feeds, SuitsEach}
use Rattle.op_base.proofs.All.{all_append}
use Rattle.op_base.proofs.StandingLaws.{rows_of-row, rows_of-end}
use Rattle.op_group.specs.declared.agg.Agg.{Agg}
use Rattle.op_group.specs.declared.agg.Agg.TheVariants.{Sum, Count, Min, Max, First, Last}
use Rattle.op_group.specs.Results.{column}
use Rattle.op_group.specs.Groups.{alike, row_suits, sums_alike, group_suits}

abbrev pub IsNumbers : Row → Type 0
IsNumbers row = (key : Value) × (number : ℤ) × (is_short key ≡ true) × (row ≡ key ∷ (Int number ∷ []))

-- the keys are columns of such rows
abbrev pub are_keys : List Key → Bool
are_keys keys = list_all (λ c. nat_lt c 2) (cols keys)

abbrev pub each_agg : List Agg
each_agg = Sum 1 ∷ (Count ∷ (Min 1 ∷ (Max 1 ∷ (First 1 ∷ (Last 1 ∷ [])))))

one_suits : (keys : List Key) (key : Value) (number : ℤ) → are_keys keys ≡ true → is_short key ≡ true → row_suits keys each_agg (key ∷ (Int number ∷ [])) ≡ true
one_suits keys key number k short = and_true k (and_true refl (and_true short refl))

all_suit : (keys : List Key) (rows : List Row) → are_keys keys ≡ true → AllByRecursion IsNumbers rows → list_all (row_suits keys each_agg) rows ≡ true
all_suit keys [] k h = refl
all_suit keys (row ∷ rows) k h = and_true (ap (row_suits keys each_agg) h.0.3 ∙ one_suits keys h.0.0 h.0.1 k h.0.2) (all_suit keys rows k h.1)

-- integers are alike
abbrev AreInts : List Value → Type 0
AreInts values = AllByRecursion (λ v. (number : ℤ) × (v ≡ Int number)) values

ints_there : (rows : List Row) → AllByRecursion IsNumbers rows → AreInts (column 1 rows)
ints_there [] h = tt
ints_there (row ∷ rows) h = ((h.0.1, ap (λ r. at r 1) h.0.3), ints_there rows h.1)

one_alike : (number : ℤ) (values : List Value) → AreInts values → list_all (alike (Int number)) values ≡ true
one_alike number [] h = refl
one_alike number (v ∷ values) h = and_true (ap (alike (Int number)) h.0.1) (one_alike number values h.1)

all_alike : (values others : List Value) → AreInts values → AreInts others → list_all (λ v. list_all (alike v) others) values ≡ true
all_alike [] others h k = refl
all_alike (v ∷ values) others h k = and_true (ap (λ w. list_all (alike w) others) h.0.1 ∙ one_alike h.0.0 others k) (all_alike values others h.1 k)

module _ (keys : List Key) (k : are_keys keys ≡ true) where
  numbers_fit : (rows : List Row) → AllByRecursion IsNumbers rows → (list_all (row_suits keys each_agg) rows && list_all (sums_alike rows) each_agg) ≡ true
  numbers_fit rows h = and_true (all_suit keys rows k h) (and_true (all_alike (column 1 rows) (column 1 rows) (ints_there rows h) (ints_there rows h)) refl)

  fit_after : (done : List (Feed Row)) (rows : List Row) → AllByRecursion IsNumbers (rows_of 0 done) → AllByRecursion IsNumbers rows → SuitsEach (group_suits keys each_agg) done (list_feeds rows)
  fit_after done [] h g = (numbers_fit _ (subst (AllByRecursion IsNumbers) (sym (rows_of-end 0 0 done)) h), tt)
  fit_after done (row ∷ rows) h g =
      let all : AllByRecursion IsNumbers (rows_of 0 (done ++ row_feed 0 row ∷ [])) = subst (AllByRecursion IsNumbers) (sym (rows_of-row 0 done row)) (all_append IsNumbers (rows_of 0 done) (row ∷ []) h (g.0, tt)) in
      (numbers_fit _ all, fit_after (done ++ row_feed 0 row ∷ []) rows all g.1)

  pub numbers_suit : (aggs : List Agg) (rows : List Row) → aggs ≡ each_agg → AllByRecursion IsNumbers rows → SuitsEach (group_suits keys aggs) [] (list_feeds rows)
  numbers_suit aggs rows e h = subst (λ (as1 : List Agg). SuitsEach (group_suits keys as1) [] (list_feeds rows)) (sym e) (fit_after [] rows tt h)
