-- Groups of rows as they are fed, computed; wrong results are refused.
use Rattle.std.proofs.Common.{◌≡◌, ◌-◌, ◌^◌, ℕ, true, false, List, [], ◌∷◌, refl, pos}
use Rattle.streams.specs.Streams.{Out, sends, fails, emits}
use Rattle.ds_value.specs.declared.value.Value.{Value}
use Rattle.ds_value.specs.declared.value.Value.TheVariants.{Null, Int, UInt, Dec}
use Rattle.ds_schema.specs.declared.key.Key.{Key}
use Rattle.op_base.specs.declared.fault.Fault.{Fault}
use Rattle.op_base.specs.declared.fault.FaultKind.TheVariants.{Overflow}
use Rattle.op_base.specs.Columns.{Row}
use Rattle.op_base.specs.WholeLists.{row_feeds, list_feeds}
use Rattle.op_group.specs.declared.agg.Agg.{Agg}
use Rattle.op_group.specs.declared.agg.Agg.TheVariants.{Sum, Count, Min, Max, First, Last}
use Rattle.op_group.specs.Groups.{sorted_stream, hashed_stream, group_suits}

abbrev row : ℕ → Value → Row
row key v = UInt key ∷ (v ∷ [])

abbrev by_first : List Key
by_first = record { col = 0; desc = false } ∷ []

abbrev all_aggs : List Agg
all_aggs = Sum 1 ∷ (Count ∷ (Min 1 ∷ (Max 1 ∷ (First 1 ∷ (Last 1 ∷ [])))))

abbrev some_rows : List Row
some_rows = row 1 Null ∷ (row 1 (Int (pos 7)) ∷ (row 1 (Int (pos 3)) ∷ (row 2 Null ∷ [])))

abbrev first_group : Out Row Fault
first_group = sends 0 (UInt 1 ∷ (Int (pos 10) ∷ (UInt 3 ∷ (Int (pos 3) ∷ (Int (pos 7) ∷ (Null ∷ (Int (pos 3) ∷ [])))))))

each_result : emits (sorted_stream by_first all_aggs) (list_feeds some_rows) ≡ first_group ∷ (sends 0 (UInt 2 ∷ (Null ∷ (UInt 1 ∷ (Null ∷ (Null ∷ (Null ∷ (Null ∷ []))))))) ∷ [])
each_result = refl

-- the last run may still grow
before_end : emits (sorted_stream by_first all_aggs) (row_feeds some_rows) ≡ first_group ∷ []
before_end = refl

-- the whole sum counts, and not what it passes on the way
abbrev wide_rows : List Row
wide_rows = row 1 (UInt (2 ^ 64 - 1)) ∷ (row 2 (UInt (2 ^ 64 - 1)) ∷ (row 2 (UInt 1) ∷ []))

one_fault : emits (sorted_stream by_first (Sum 1 ∷ [])) (list_feeds wide_rows)
    ≡ sends 0 (UInt 1 ∷ (UInt (2 ^ 64 - 1) ∷ [])) ∷ (fails (record { op = 0; kind = Overflow; place = 0; bytes = 2 ∷ (0 ∷ (0 ∷ (0 ∷ (0 ∷ (0 ∷ (0 ∷ (0 ∷ (2 ∷ [])))))))) }) ∷ [])
one_fault = refl

no_key : emits (sorted_stream [] (Count ∷ [])) (list_feeds some_rows) ≡ sends 0 (UInt 4 ∷ []) ∷ []
no_key = refl

no_row : emits (sorted_stream [] (Count ∷ [])) (list_feeds []) ≡ []
no_row = refl

-- hashed, in the order of first rows, and null is a key
abbrev mixed_rows : List Row
mixed_rows = row 2 (Int (pos 7)) ∷ ((Null ∷ (Int (pos 1) ∷ [])) ∷ (row 1 (Int (pos 4)) ∷ (row 2 (Int (pos 5)) ∷ ((Null ∷ (Int (pos 6) ∷ [])) ∷ []))))

first_rows : emits (hashed_stream by_first (First 1 ∷ (Sum 1 ∷ []))) (list_feeds mixed_rows)
    ≡ sends 0 (UInt 2 ∷ (Int (pos 7) ∷ (Int (pos 12) ∷ []))) ∷ (sends 0 (Null ∷ (Int (pos 1) ∷ (Int (pos 7) ∷ []))) ∷ (sends 0 (UInt 1 ∷ (Int (pos 4) ∷ (Int (pos 4) ∷ []))) ∷ []))
first_rows = refl

none_before_end : emits (hashed_stream by_first (First 1 ∷ (Sum 1 ∷ []))) (row_feeds mixed_rows) ≡ []
none_before_end = refl

no_key_hashed : emits (hashed_stream [] (Count ∷ [])) (list_feeds mixed_rows) ≡ sends 0 (UInt 5 ∷ []) ∷ []
no_key_hashed = refl

no_row_hashed : emits (hashed_stream [] (Count ∷ [])) (list_feeds []) ≡ []
no_row_hashed = refl

suited : group_suits by_first all_aggs (list_feeds some_rows) ≡ true
suited = refl

two_variants : group_suits by_first all_aggs (list_feeds (row 1 (Int (pos 1)) ∷ (row 1 (UInt 1) ∷ []))) ≡ false
two_variants = refl

too_large : group_suits by_first all_aggs (list_feeds (row 1 (Dec (pos (10 ^ 18))) ∷ [])) ≡ false
too_large = refl
