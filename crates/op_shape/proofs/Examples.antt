-- One of each operator, computed: its fields, its columns and its first cause; wrong answers are refused.
use Rattle.std.proofs.Common.{◌≡◌, ◌≢◌, ℕ, Bool, true, false, List, [], ◌∷◌, ◌++◌, Option, Some, None, refl, codes}
use Rattle.ds_value.specs.declared.kind.Kind.{Kind}
use Rattle.ds_value.specs.declared.kind.Kind.TheVariants as data_kind
use Rattle.ds_schema.specs.declared.schema.Field.{Field}
use Rattle.expr_table.specs.declared.entry.Shape.{Shape}
use Rattle.expr_table.specs.declared.entry.Shape.TheVariants as shape
use Rattle.ds_expr.specs.declared.node.Node.TheVariants as made
use Rattle.ds_expr.specs.Typed.{TypedTree}
use Rattle.op_base.specs.declared.missing.Missing.{Missing}
use Rattle.op_base.specs.declared.missing.Missing.TheVariants as missing
use Rattle.flow_graph.specs.declared.op_kind.AggSpec.{AggSpec}
use Rattle.flow_graph.specs.declared.op_kind.AggSpec.TheVariants as agg
use Rattle.flow_graph.specs.declared.op_kind.OpKind.{OpKind}
use Rattle.flow_graph.specs.declared.op_kind.OpKind.TheVariants as kind
use Rattle.flow_graph.specs.declared.op_kind.SetSpec.{SetSpec}
use Rattle.shape_base.specs.declared.fault.ShapeWhy.{ShapeWhy}
use Rattle.shape_base.specs.declared.fault.ShapeWhy.TheVariants as why
use Rattle.shape_base.specs.Causes.{first_cause}
use Rattle.op_shape.specs.Columns.{sets_cause}
use Rattle.op_shape.specs.Exprs.{is_set, is_test, is_whole, suits}
use Rattle.keyed_shape.specs.Keyed.{sum_cause}
use Rattle.op_shape.specs.Options.{line_fields, option_causes, output_causes, output_fields, operator_columns, operator_keys}
use Rattle.shape_base.specs.Widths.{fields_cause}

abbrev field : List ℕ → Kind → Field
field name k = record { name = name; nullable = false; kind = k }

abbrev nullable_field : List ℕ → Kind → Field
nullable_field name k = record { name = name; nullable = true; kind = k }

-- record ( id: int32; name: string[max=10]; paid: date; )
abbrev people : List Field
people = field (codes "id") (data_kind.Int 32) ∷ (field (codes "name") (data_kind.Text 10 false) ∷ (field (codes "paid") data_kind.Date ∷ []))

abbrev cause_of : OpKind → Option ShapeWhy
cause_of k = first_cause (option_causes k (people ∷ []) ++ output_causes k (people ∷ []))

abbrev set : List ℕ → Kind → SetSpec
set name k = record { field = field name k; expr = [] }

-- ---- import, export, copy, tsort and remdup

imported : output_fields (kind.Import (codes "f") people 44 None true) [] 0 ≡ people
imported = refl

rejected_lines : output_fields (kind.Import (codes "f") people 44 None true) [] 1 ≡ line_fields
rejected_lines = refl

one_width : cause_of (kind.Export (codes "f") 44 (Some (5 ∷ []))) ≡ Some why.Schemas
one_width = refl

import_widths : cause_of (kind.Import (codes "f") people 44 (Some (5 ∷ (6 ∷ (7 ∷ [])))) false) ≡ None
import_widths = refl

copied : output_fields kind.Copy (people ∷ []) 3 ≡ people
copied = refl

sorted : operator_keys (kind.Tsort ((codes "paid", true) ∷ ((codes "id", false) ∷ []))) (people ∷ []) ≡ (record { col = 2; desc = true } ∷ (record { col = 0; desc = false } ∷ [])) ∷ []
sorted = refl

unknown_key : cause_of (kind.Remdup ((codes "zip", false) ∷ []) true) ≡ Some why.Field
unknown_key = refl

known_key : cause_of (kind.Tsort ((codes "paid", true) ∷ [])) ≡ None
known_key = refl

-- ---- transform: a present field is replaced in its place, a new one appended

abbrev two_sets : List SetSpec
two_sets = set (codes "name") data_kind.Date ∷ (set (codes "age") (data_kind.Int 8) ∷ [])

fields_made : output_fields (kind.Transform two_sets true) (people ∷ []) 0
    ≡ field (codes "id") (data_kind.Int 32) ∷ (field (codes "name") data_kind.Date ∷ (field (codes "paid") data_kind.Date ∷ (field (codes "age") (data_kind.Int 8) ∷ [])))
fields_made = refl

set_in : operator_columns (kind.Transform two_sets true) (people ∷ []) ≡ 1 ∷ (3 ∷ [])
set_in = refl

not_appended : operator_columns (kind.Transform two_sets true) (people ∷ []) ≢ 3 ∷ (4 ∷ [])
not_appended e = cc

rejected_rows : output_fields (kind.Transform two_sets true) (people ∷ []) 1 ≡ people
rejected_rows = refl

not_as_set : output_fields (kind.Transform two_sets true) (people ∷ []) 1 ≢ output_fields (kind.Transform two_sets true) (people ∷ []) 0
not_as_set e = cc

set_twice : sets_cause (set (codes "age") (data_kind.Int 8) ∷ (set (codes "age") (data_kind.Int 8) ∷ [])) ≡ Some why.Double
set_twice = refl

set_once : sets_cause two_sets ≡ None
set_once = refl

-- ---- modify: kept columns in the written order, then renamed at once

abbrev turned : OpKind
turned = kind.Modify (codes "paid" ∷ (codes "id" ∷ [])) [] ((codes "id", codes "paid") ∷ ((codes "paid", codes "id") ∷ []))

kept : operator_columns turned (people ∷ []) ≡ 2 ∷ (0 ∷ [])
kept = refl

not_by_the_input : operator_columns turned (people ∷ []) ≢ 0 ∷ (2 ∷ [])
not_by_the_input e = cc

renamed_at_once : output_fields turned (people ∷ []) 0 ≡ field (codes "id") data_kind.Date ∷ (field (codes "paid") (data_kind.Int 32) ∷ [])
renamed_at_once = refl

turned_is_sound : cause_of turned ≡ None
turned_is_sound = refl

dropped : operator_columns (kind.Modify [] (codes "name" ∷ []) []) (people ∷ []) ≡ 0 ∷ (2 ∷ [])
dropped = refl

kept_unknown : cause_of (kind.Modify (codes "zip" ∷ []) [] []) ≡ Some why.Field
kept_unknown = refl

dropped_unknown : cause_of (kind.Modify [] (codes "zip" ∷ []) []) ≡ Some why.Field
dropped_unknown = refl

renamed_though_dropped : cause_of (kind.Modify [] (codes "id" ∷ []) ((codes "key", codes "id") ∷ [])) ≡ Some why.Field
renamed_though_dropped = refl

renamed_alike : cause_of (kind.Modify [] [] ((codes "id", codes "name") ∷ [])) ≡ Some why.Double
renamed_alike = refl

kept_twice : cause_of (kind.Modify (codes "id" ∷ (codes "id" ∷ [])) [] []) ≡ Some why.Double
kept_twice = refl

all_dropped : cause_of (kind.Modify [] (codes "id" ∷ (codes "name" ∷ (codes "paid" ∷ []))) []) ≡ Some why.Wide
all_dropped = refl

-- ---- fields: a doubled name comes before a width

doubled : fields_cause (field (codes "a") (data_kind.Text 3000000 false) ∷ (field (codes "a") data_kind.Date ∷ [])) ≡ Some why.Double
doubled = refl

too_wide : fields_cause (field (codes "a") (data_kind.Text 3000000 false) ∷ []) ≡ Some why.Wide
too_wide = refl

no_field : fields_cause [] ≡ Some why.Wide
no_field = refl

-- ---- filter and switch: what may stand there

abbrev tree : Shape → ℕ → TypedTree
tree s scale = record { fields = people; node = made.Column 0; typing = record { shape = s; scale = scale; literal = None } }

truth_tests : suits is_test (Some (tree shape.Truth 0)) ≡ true
truth_tests = refl

number_no_test : suits is_test (Some (tree shape.Num 0)) ≡ false
number_no_test = refl

whole_switches : suits is_whole (Some (tree shape.Num 0)) ≡ true
whole_switches = refl

part_no_switch : suits is_whole (Some (tree shape.Num 2)) ≡ false
part_no_switch = refl

no_type_no_test : suits is_test None ≡ false
no_type_no_test = refl

finer_no_set : suits (is_set (field (codes "a") (data_kind.Dec 8 2))) (Some (tree shape.Num 3)) ≡ false
finer_no_set = refl

text_no_date : suits (is_set (field (codes "a") data_kind.Date)) (Some (tree shape.Text 0)) ≡ false
text_no_date = refl

filtered : output_fields (kind.Filter (codes "id > 2") true) (people ∷ []) 1 ≡ people
filtered = refl

switched : output_fields (kind.Switch (codes "id") [] true) (people ∷ []) 2 ≡ people
switched = refl

-- ---- group: the keys, then the results in the written order; sums and least values may be null, counts may not

-- record ( id: int32; region: nullable string[max=10]; paid: nullable decimal[8,2]; at: date; )
abbrev orders : List Field
orders = field (codes "id") (data_kind.Int 32) ∷ (nullable_field (codes "region") (data_kind.Text 10 false) ∷ (nullable_field (codes "paid") (data_kind.Dec 8 2) ∷ (field (codes "at") data_kind.Date ∷ [])))

abbrev by_region : List (List ℕ × Bool)
by_region = (codes "region", true) ∷ []

abbrev grouped : List AggSpec → OpKind
grouped results = kind.Group by_region false results

abbrev group_cause : OpKind → Option ShapeWhy
group_cause k = first_cause (option_causes k (orders ∷ []) ++ output_causes k (orders ∷ []))

abbrev four_results : List AggSpec
four_results = agg.Sum (codes "total") (codes "paid") ∷ (agg.Count (codes "n") ∷ (agg.Min (codes "least") (codes "id") ∷ (agg.Last (codes "last") (codes "at") ∷ [])))

group_made : output_fields (grouped four_results) (orders ∷ []) 0
    ≡ nullable_field (codes "region") (data_kind.Text 10 false) ∷ (nullable_field (codes "total") (data_kind.Dec 38 2) ∷ (field (codes "n") (data_kind.UInt 64) ∷ (nullable_field (codes "least") (data_kind.Int 32) ∷ (field (codes "last") data_kind.Date ∷ []))))
group_made = refl

group_sound : group_cause (grouped four_results) ≡ None
group_sound = refl

group_columns : operator_columns (grouped four_results) (orders ∷ []) ≡ 2 ∷ (0 ∷ (3 ∷ []))
group_columns = refl

group_keys : operator_keys (grouped four_results) (orders ∷ []) ≡ (record { col = 1; desc = true } ∷ []) ∷ []
group_keys = refl

whole_sum : output_fields (kind.Group [] false (agg.Sum (codes "s") (codes "id") ∷ [])) (orders ∷ []) 0 ≡ nullable_field (codes "s") (data_kind.Int 64) ∷ []
whole_sum = refl

text_sum : group_cause (grouped (agg.Sum (codes "s") (codes "region") ∷ [])) ≡ Some why.Kind
text_sum = refl

long_decimal_sum : sum_cause (field (codes "d") (data_kind.Dec 19 2) ∷ []) (codes "d") ≡ Some why.Kind
long_decimal_sum = refl

short_decimal_sum : sum_cause (field (codes "d") (data_kind.Dec 18 2) ∷ []) (codes "d") ≡ None
short_decimal_sum = refl

-- a result's kind comes before a later result's column, and a key before both
kind_before_field : group_cause (grouped (agg.Sum (codes "s") (codes "at") ∷ (agg.Min (codes "m") (codes "zip") ∷ []))) ≡ Some why.Kind
kind_before_field = refl

key_before_kind : group_cause (kind.Group ((codes "zip", false) ∷ []) true (agg.Sum (codes "s") (codes "at") ∷ [])) ≡ Some why.Field
key_before_kind = refl

result_as_key : group_cause (grouped (agg.Count (codes "region") ∷ [])) ≡ Some why.Double
result_as_key = refl

nothing_grouped : group_cause (kind.Group [] false []) ≡ Some why.Wide
nothing_grouped = refl

-- ---- joins: the keys, then the left's other columns, then the right's

-- record ( at: nullable date; id: int32; rate: uint8; )
abbrev rates : List Field
rates = nullable_field (codes "at") data_kind.Date ∷ (field (codes "id") (data_kind.Int 32) ∷ (field (codes "rate") (data_kind.UInt 8) ∷ []))

abbrev by_day : List (List ℕ × Bool)
by_day = (codes "at", false) ∷ ((codes "id", true) ∷ [])

abbrev both : List (List Field)
both = orders ∷ (rates ∷ [])

abbrev pair_cause : OpKind → List Field → Option ShapeWhy
pair_cause k right = first_cause (option_causes k (orders ∷ (right ∷ [])) ++ output_causes k (orders ∷ (right ∷ [])))

-- the keys and the left's other columns; `at` may be null, since the right's may
abbrev left_part : List Field
left_part = nullable_field (codes "at") data_kind.Date ∷ (field (codes "id") (data_kind.Int 32) ∷ (nullable_field (codes "region") (data_kind.Text 10 false) ∷ (nullable_field (codes "paid") (data_kind.Dec 8 2) ∷ [])))

joined_fields : output_fields (kind.InnerJoin by_day) both 0 ≡ left_part ++ field (codes "rate") (data_kind.UInt 8) ∷ []
joined_fields = refl

right_may_be_missing : output_fields (kind.LeftOuterJoin by_day) both 0 ≡ left_part ++ nullable_field (codes "rate") (data_kind.UInt 8) ∷ []
right_may_be_missing = refl

left_may_be_missing : output_fields (kind.RightOuterJoin ((codes "at", false) ∷ [])) (rates ∷ ((field (codes "at") data_kind.Date ∷ []) ∷ [])) 0
    ≡ nullable_field (codes "at") data_kind.Date ∷ (nullable_field (codes "id") (data_kind.Int 32) ∷ (nullable_field (codes "rate") (data_kind.UInt 8) ∷ []))
left_may_be_missing = refl

both_may_be_missing : output_fields (kind.FullOuterJoin by_day) both 0 ≡ output_fields (kind.LeftOuterJoin by_day) both 0
both_may_be_missing = refl

not_in_the_lefts_order : output_fields (kind.InnerJoin by_day) both 0 ≢ field (codes "id") (data_kind.Int 32) ∷ (nullable_field (codes "region") (data_kind.Text 10 false) ∷ (nullable_field (codes "paid") (data_kind.Dec 8 2) ∷ (nullable_field (codes "at") data_kind.Date ∷ (field (codes "rate") (data_kind.UInt 8) ∷ []))))
not_in_the_lefts_order e = cc

keys_on_both : operator_keys (kind.FullOuterJoin by_day) both ≡ (record { col = 3; desc = false } ∷ (record { col = 0; desc = true } ∷ [])) ∷ ((record { col = 0; desc = false } ∷ (record { col = 1; desc = true } ∷ [])) ∷ [])
keys_on_both = refl

joined_soundly : pair_cause (kind.InnerJoin by_day) rates ≡ None
joined_soundly = refl

-- a column that one side lacks comes before kinds that differ
lacking_before_kind : pair_cause (kind.InnerJoin ((codes "id", false) ∷ ((codes "paid", false) ∷ []))) (field (codes "id") (data_kind.Int 64) ∷ []) ≡ Some why.Field
lacking_before_kind = refl

kinds_differ : pair_cause (kind.LeftOuterJoin ((codes "id", false) ∷ [])) (field (codes "id") (data_kind.Int 64) ∷ []) ≡ Some why.Kind
kinds_differ = refl

one_name_on_both : pair_cause (kind.InnerJoin ((codes "at", false) ∷ [])) rates ≡ Some why.Double
one_name_on_both = refl

no_columns_joined : first_cause (output_causes (kind.FullOuterJoin []) ([] ∷ ([] ∷ []))) ≡ Some why.Wide
no_columns_joined = refl

-- ---- lookup: the main columns in their order, then the reference's others; rejected rows as they were

abbrev looks_up : Missing → OpKind
looks_up m = kind.Lookup by_day m

abbrev main_part : List Field
main_part = field (codes "id") (data_kind.Int 32) ∷ (nullable_field (codes "region") (data_kind.Text 10 false) ∷ (nullable_field (codes "paid") (data_kind.Dec 8 2) ∷ (nullable_field (codes "at") data_kind.Date ∷ [])))

looked_up : output_fields (looks_up missing.Fail) both 0 ≡ main_part ++ field (codes "rate") (data_kind.UInt 8) ∷ []
looked_up = refl

goes_on : output_fields (looks_up missing.Continue) both 0 ≡ main_part ++ nullable_field (codes "rate") (data_kind.UInt 8) ∷ []
goes_on = refl

rejected_main : output_fields (looks_up missing.Reject) both 1 ≡ orders
rejected_main = refl

looked_up_soundly : pair_cause (looks_up missing.Reject) rates ≡ None
looked_up_soundly = refl

looked_up_kinds : pair_cause (looks_up missing.Drop) (field (codes "at") (data_kind.Int 32) ∷ (field (codes "id") (data_kind.Int 32) ∷ [])) ≡ Some why.Kind
looked_up_kinds = refl
