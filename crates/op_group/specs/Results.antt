-- What the results of a group are: for each aggregate what the group's rows give.
use Rattle.std.specs.Prelude.{ℕ, ◌^◌, ◌-◌, ℤ, pos, ◌+ℤ◌, unsigned_abs, nat_le, Bool, true, false, not, if◌then◌else◌, Option, Some, None, List, [], ◌∷◌, map, fold, length, take}
use Rattle.std.specs.List.{filter, flat_map, list_any}
use Rattle.std.specs.Ordering.{is_lt}
use Rattle.ds_value.specs.declared.value.Value.{Value}
use Rattle.ds_value.specs.declared.value.Value.TheVariants.{Null, Int, UInt, Dec, Text, Date}
use Rattle.ds_value.specs.Canonical.{canonical_bytes}
use Rattle.ds_value.specs.Kinds.{is_between, least_int, greatest_int}
use Rattle.ds_value.specs.Values.{number, value_cmp}
use Rattle.ds_schema.specs.declared.key.Key.{Key}
use Rattle.ds_schema.specs.Rows.{at}
use Rattle.op_base.specs.declared.fault.Fault.{Fault}
use Rattle.op_base.specs.declared.fault.FaultKind.TheVariants.{Overflow}
use Rattle.op_base.specs.Columns.{Row}
use Rattle.op_base.specs.Meanings.{Grouping}
use Rattle.op_group.specs.declared.agg.Agg.{Agg}
use Rattle.op_group.specs.declared.agg.Agg.TheVariants.{Sum, Count, Min, Max, First, Last}

abbrev pub is_null : Value → Bool
is_null Null = true
is_null (Int z) = false
is_null (UInt n) = false
is_null (Dec z) = false
is_null (Text b) = false
is_null (Date z) = false

abbrev pub column : ℕ → List Row → List Value
column col rows = map (λ r. at r col) rows

-- the values of a column that aren't null
abbrev pub present : ℕ → List Row → List Value
present col rows = filter (λ v. not (is_null v)) (column col rows)

-- the exact sum
abbrev pub total : List Value → ℤ
total [] = pos 0
total (v ∷ vs) = number v +ℤ total vs

-- a sum as a whole number of 64 bits, with or without a sign, where it is one
abbrev pub as_int : ℤ → Option Value
as_int z = if is_between (least_int 64) (greatest_int 64) z then Some (Int z) else None

abbrev pub as_uint : ℤ → Option Value
as_uint z = if is_between (pos 0) (pos (2 ^ 64 - 1)) z then Some (UInt (unsigned_abs z)) else None

abbrev pub is_int : Value → Bool
is_int Null = false
is_int (Int z) = true
is_int (UInt n) = false
is_int (Dec z) = false
is_int (Text b) = false
is_int (Date z) = false

abbrev pub is_uint : Value → Bool
is_uint Null = false
is_uint (Int z) = false
is_uint (UInt n) = true
is_uint (Dec z) = false
is_uint (Text b) = false
is_uint (Date z) = false

abbrev pub is_dec : Value → Bool
is_dec Null = false
is_dec (Int z) = false
is_dec (UInt n) = false
is_dec (Dec z) = true
is_dec (Text b) = false
is_dec (Date z) = false

-- in the variant of the values that were summed; of several a decimal where there is one, else without a sign; null where nothing is left, nothing where the sum doesn't fit
abbrev pub sum_of : List Value → Option Value
sum_of vs =
    if list_any is_dec vs then Some (Dec (total vs)) else
    if list_any is_uint vs then as_uint (total vs) else
    if list_any is_int vs then as_int (total vs) else Some Null

abbrev pub lesser : Value → Value → Value
lesser v w = if is_lt (value_cmp w v) then w else v

abbrev pub greater : Value → Value → Value
greater v w = if is_lt (value_cmp v w) then w else v

-- null where nothing is left
abbrev pub least : List Value → Value
least [] = Null
least (v ∷ vs) = fold lesser v vs

abbrev pub greatest : List Value → Value
greatest [] = Null
greatest (v ∷ vs) = fold greater v vs

abbrev pub first_value : List Value → Value
first_value [] = Null
first_value (v ∷ vs) = v

abbrev pub last_value : List Value → Value
last_value [] = Null
last_value (v ∷ []) = v
last_value (v ∷ (w ∷ vs)) = last_value (w ∷ vs)

-- of the rows of a group; nothing where it overflows
abbrev pub result : Agg → List Row → Option Value
result (Sum col) rows = sum_of (present col rows)
result Count rows = Some (UInt (length rows))
result (Min col) rows = Some (least (present col rows))
result (Max col) rows = Some (greatest (present col rows))
result (First col) rows = Some (first_value (column col rows))
result (Last col) rows = Some (last_value (column col rows))

abbrev pub both : Option Value → Option (List Value) → Option (List Value)
both None more = None
both (Some v) None = None
both (Some v) (Some vs) = Some (v ∷ vs)

-- each, in written order; nothing where one of them overflows
abbrev pub each_result : List Agg → List Row → Option (List Value)
each_result [] rows = Some []
each_result (agg ∷ aggs) rows = both (result agg rows) (each_result aggs rows)

-- a group of more than 2^62 rows overflows
abbrev pub results : List Agg → List Row → Option (List Value)
results aggs rows = if nat_le (length rows) (2 ^ 62) then each_result aggs rows else None

-- the fault of a group that overflows, by its key values
abbrev pub group_fault : List Value → Fault
group_fault values = record { op = 0; kind = Overflow; place = 0; bytes = take 64 (flat_map canonical_bytes values) }

abbrev pub in_row_order : Agg → Bool
in_row_order (Sum col) = false
in_row_order Count = false
in_row_order (Min col) = false
in_row_order (Max col) = false
in_row_order (First col) = true
in_row_order (Last col) = true

abbrev pub grouping : List Key → Bool → List Agg → Grouping
grouping keys hashes aggs = record { keys = keys; hashes = hashes; sees_order = list_any in_row_order aggs; results = results aggs; over = group_fault }
