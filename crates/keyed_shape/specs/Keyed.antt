-- The columns of groups, joins and lookups: their keys, what is made or joined to them, and what is wrong with those.
use Rattle.std.specs.Prelude.{ℕ, ◌==◌, Bool, true, false, not, ◌&&◌, ◌||◌, nat_le, List, [], ◌∷◌, ◌++◌, length, map, Option, Some, None}
use Rattle.std.specs.List.{filter, list_all, list_any}
use Rattle.std.specs.Str.{bytes_eq}
use Rattle.ds_value.specs.declared.kind.Kind.{Kind}
use Rattle.ds_value.specs.declared.kind.Kind.TheVariants as data_kind
use Rattle.ds_schema.specs.declared.schema.Field.{Field}
use Rattle.ds_schema.specs.Rows.{cols}
use Rattle.op_base.specs.Columns.{all_columns, is_in}
use Rattle.op_base.specs.declared.missing.Missing.{Missing}
use Rattle.op_base.specs.declared.missing.Missing.TheVariants as missing
use Rattle.flow_graph.specs.declared.op_kind.AggSpec.{AggSpec}
use Rattle.flow_graph.specs.declared.op_kind.AggSpec.TheVariants as agg
use Rattle.shape_base.specs.declared.fault.ShapeWhy.{ShapeWhy}
use Rattle.shape_base.specs.declared.fault.ShapeWhy.TheVariants as why
use Rattle.shape_base.specs.Causes.{cause_if, first_cause}
use Rattle.shape_base.specs.Fields.{field_at}
use Rattle.shape_base.specs.Naming.{column, columns, has_column, has_keys, key_columns}

abbrev pub field_named : List Field → List ℕ → Field
field_named fields name = field_at fields (column fields name)

-- the same field, which may be null where it could or where the test holds
abbrev pub nullable_if : Bool → Field → Field
nullable_if test f = record { name = f.name; nullable = f.nullable || test; kind = f.kind }

-- ---- keys

abbrev pub is_key : List (List ℕ × Bool) → List ℕ → Bool
is_key key name = list_any (λ (k : List ℕ × Bool). bytes_eq (k.0) name) key

-- the columns that no key names, in their order
abbrev pub other_columns : List (List ℕ × Bool) → List Field → List ℕ
other_columns key fields = filter (λ c. not (is_in c (cols (key_columns fields key)))) (all_columns (length fields))

abbrev pub other_fields : List (List ℕ × Bool) → List Field → List Field
other_fields key fields = map (field_at fields) (other_columns key fields)

abbrev pub same_flag : Bool → Bool → Bool
same_flag true b = b
same_flag false b = not b

abbrev pub same_kind : Kind → Kind → Bool
same_kind (data_kind.Int a) (data_kind.Int b) = a == b
same_kind (data_kind.UInt a) (data_kind.UInt b) = a == b
same_kind (data_kind.Dec p s) (data_kind.Dec q t) = (p == q) && (s == t)
same_kind (data_kind.Text m fixed) (data_kind.Text n also) = (m == n) && same_flag fixed also
same_kind data_kind.Date data_kind.Date = true
same_kind a b = false

-- whether each key's column is of one kind on both inputs
abbrev pub kinds_agree : List (List ℕ × Bool) → List Field → List Field → Bool
kinds_agree key left right = list_all (λ (k : List ℕ × Bool). same_kind (field_named left (k.0)).kind (field_named right (k.0)).kind) key

-- a key that one of two inputs doesn't have, or that is of another kind on the second
abbrev pub both_cause : List (List ℕ × Bool) → List Field → List Field → Option ShapeWhy
both_cause key left right = first_cause (cause_if (not (has_keys left key && has_keys right key)) why.Field ∷ (cause_if (not (kinds_agree key left right)) why.Kind ∷ []))

-- ---- group

-- what has a sum: whole numbers, and decimals of up to 18 digits
abbrev pub can_sum : Kind → Bool
can_sum (data_kind.Int bits) = true
can_sum (data_kind.UInt bits) = true
can_sum (data_kind.Dec p s) = nat_le p 18
can_sum (data_kind.Text max fixed) = false
can_sum data_kind.Date = false

-- the kind of a sum; a kind that has none stays as it is
abbrev pub sum_kind : Kind → Kind
sum_kind (data_kind.Int bits) = data_kind.Int 64
sum_kind (data_kind.UInt bits) = data_kind.UInt 64
sum_kind (data_kind.Dec p s) = data_kind.Dec 38 s
sum_kind (data_kind.Text max fixed) = data_kind.Text max fixed
sum_kind data_kind.Date = data_kind.Date

abbrev pub result_name : AggSpec → List ℕ
result_name (agg.Sum new old) = new
result_name (agg.Count new) = new
result_name (agg.Min new old) = new
result_name (agg.Max new old) = new
result_name (agg.First new old) = new
result_name (agg.Last new old) = new

-- the column that a result is made of; a count is of none
abbrev pub source : AggSpec → Option (List ℕ)
source (agg.Sum new old) = Some old
source (agg.Count new) = None
source (agg.Min new old) = Some old
source (agg.Max new old) = Some old
source (agg.First new old) = Some old
source (agg.Last new old) = Some old

abbrev pub with_source : Option (List ℕ) → List (List ℕ) → List (List ℕ)
with_source None names = names
with_source (Some old) names = old ∷ names

abbrev pub sources : List AggSpec → List (List ℕ)
sources [] = []
sources (a ∷ results) = with_source (source a) (sources results)

abbrev pub source_columns : List AggSpec → List Field → List ℕ
source_columns results fields = columns fields (sources results)

abbrev pub source_cause : List Field → List ℕ → Option ShapeWhy
source_cause fields old = cause_if (not (has_column fields old)) why.Field

abbrev pub sum_cause : List Field → List ℕ → Option ShapeWhy
sum_cause fields old = first_cause (source_cause fields old ∷ (cause_if (not (can_sum (field_named fields old).kind)) why.Kind ∷ []))

abbrev pub result_cause : List Field → AggSpec → Option ShapeWhy
result_cause fields (agg.Sum new old) = sum_cause fields old
result_cause fields (agg.Count new) = None
result_cause fields (agg.Min new old) = source_cause fields old
result_cause fields (agg.Max new old) = source_cause fields old
result_cause fields (agg.First new old) = source_cause fields old
result_cause fields (agg.Last new old) = source_cause fields old

-- in the written order
abbrev pub result_causes : List AggSpec → List Field → List (Option ShapeWhy)
result_causes results fields = map (result_cause fields) results

-- a column under a new name
abbrev pub made_field : List ℕ → Bool → Kind → Field
made_field name nullable k = record { name = name; nullable = nullable; kind = k }

-- sums, least and greatest values are null where no value is left
abbrev pub result_field : List Field → AggSpec → Field
result_field fields (agg.Sum new old) = made_field new true (sum_kind (field_named fields old).kind)
result_field fields (agg.Count new) = made_field new false (data_kind.UInt 64)
result_field fields (agg.Min new old) = made_field new true (field_named fields old).kind
result_field fields (agg.Max new old) = made_field new true (field_named fields old).kind
result_field fields (agg.First new old) = made_field new (field_named fields old).nullable (field_named fields old).kind
result_field fields (agg.Last new old) = made_field new (field_named fields old).nullable (field_named fields old).kind

-- the keys in their order, then the results in the written order
abbrev pub group_fields : List (List ℕ × Bool) → List AggSpec → List Field → List Field
group_fields key results fields = map (λ (k : List ℕ × Bool). field_named fields (k.0)) key ++ map (result_field fields) results

-- ---- joins

-- a key's field, of the left input's kind; it may be null where it may on either input
abbrev pub joined_key : List Field → List Field → List ℕ → Field
joined_key left right name = nullable_if (field_named right name).nullable (field_named left name)

-- the keys in their order, then the left's other columns, then the right's; those of a side that may be missing may be null
abbrev pub join_fields : Bool → Bool → List (List ℕ × Bool) → List Field → List Field → List Field
join_fields left_missing right_missing key left right =
    map (λ (k : List ℕ × Bool). joined_key left right (k.0)) key ++ (map (nullable_if left_missing) (other_fields key left) ++ map (nullable_if right_missing) (other_fields key right))

-- ---- lookup

-- a main column; a key may be null where it may on either input
abbrev pub main_field : List (List ℕ × Bool) → List Field → Field → Field
main_field key reference f = nullable_if (is_key key f.name && (field_named reference f.name).nullable) f

-- whether rows without a reference row go on
abbrev pub continues : Missing → Bool
continues missing.Continue = true
continues missing.Drop = false
continues missing.Fail = false
continues missing.Reject = false

-- the main columns, then the reference's other columns
abbrev pub lookup_fields : List (List ℕ × Bool) → Missing → List Field → List Field → List Field
lookup_fields key missing main reference = map (main_field key reference) main ++ map (nullable_if (continues missing)) (other_fields key reference)
