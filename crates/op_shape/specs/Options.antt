-- What is wrong at an operator's options and outputs, and the fields of its outputs, by the fields of its inputs.
use Rattle.std.specs.Prelude.{◌≡◌, ℕ, ◌<◌, ◌==◌, Bool, true, false, not, List, [], ◌∷◌, length, Option, Some, None, codes}
use Rattle.std.specs.List.{AllByRecursion}
use Rattle.ds_value.specs.declared.kind.Kind.TheVariants as data_kind
use Rattle.ds_schema.specs.declared.schema.Field.{Field}
use Rattle.ds_schema.specs.declared.key.Key.{Key}
use Rattle.ds_schema.specs.Schemas.{IsField, IsFieldName}
use Rattle.op_row.specs.Expressed.{AreDistinct}
use Rattle.flow_graph.specs.declared.op_kind.OpKind.{OpKind}
use Rattle.flow_graph.specs.declared.op_kind.OpKind.TheVariants as kind
use Rattle.flow_graph.specs.declared.op_kind.AggSpec.{AggSpec}
use Rattle.flow_graph.specs.declared.op_kind.SetSpec.{SetSpec}
use Rattle.flow_graph.specs.declared.parts.OpParts.{OpParts}
use Rattle.shape_base.specs.declared.fault.ShapeWhy.{ShapeWhy}
use Rattle.shape_base.specs.declared.fault.ShapeWhy.TheVariants as why
use Rattle.shape_base.specs.Causes.{cause_if}
use Rattle.op_shape.specs.Columns.{columns_cause, has_renamed, kept_columns, kept_fields, modified_fields, set_columns, set_fields, sets_cause}
use Rattle.op_shape.specs.Exprs.{exprs_of, on_cause, set_causes, test_cause}
use Rattle.keyed_shape.specs.Keyed.{both_cause, group_fields, join_fields, lookup_fields, result_causes, result_name, source_columns}
use Rattle.shape_base.specs.Naming.{key_columns, NamesDiffer, key_cause}
use Rattle.shape_base.specs.Widths.{fields_cause}
use Rattle.shape_base.specs.Fields.{first_fields, made_or_rejected, second_fields}

-- the operators by keys that make fields of their own
abbrev pub IsKeyed : OpKind → Type 0
IsKeyed (kind.Group key hash results) = Unit {0}
IsKeyed (kind.InnerJoin key) = Unit {0}
IsKeyed (kind.LeftOuterJoin key) = Unit {0}
IsKeyed (kind.RightOuterJoin key) = Unit {0}
IsKeyed (kind.FullOuterJoin key) = Unit {0}
IsKeyed (kind.Lookup key missing) = Unit {0}
IsKeyed k = ⊥

-- the operators whose options and outputs are defined here so far
abbrev pub IsKnown : OpKind → Type 0
IsKnown (kind.Import file schema delim fixed reject) = Unit {0}
IsKnown (kind.Export file delim fixed) = Unit {0}
IsKnown kind.Copy = Unit {0}
IsKnown (kind.Filter test reject) = Unit {0}
IsKnown (kind.Transform set reject) = Unit {0}
IsKnown (kind.Modify keep drop rename) = Unit {0}
IsKnown (kind.Switch on cases reject) = Unit {0}
IsKnown (kind.Tsort key) = Unit {0}
IsKnown (kind.Remdup key last) = Unit {0}
IsKnown k = IsKeyed k

-- how many inputs the operators that are defined here have: an import none, a join and a lookup two, the others one
abbrev pub IsFed : OpKind → ℕ → Type 0
IsFed (kind.Import file schema delim fixed reject) n = n ≡ 0
IsFed (kind.InnerJoin key) n = n ≡ 2
IsFed (kind.LeftOuterJoin key) n = n ≡ 2
IsFed (kind.RightOuterJoin key) n = n ≡ 2
IsFed (kind.FullOuterJoin key) n = n ≡ 2
IsFed (kind.Lookup key missing) n = n ≡ 2
IsFed k n = n ≡ 1

-- fixed widths are one for each column
abbrev pub widths_suit : Option (List ℕ) → List Field → Bool
widths_suit None fields = true
widths_suit (Some widths) fields = length widths == length fields

abbrev pub widths_cause : Option (List ℕ) → List Field → Option ShapeWhy
widths_cause widths fields = cause_if (not (widths_suit widths fields)) why.Schemas

-- a renamed column is one that is kept
abbrev pub renames_cause : List (List ℕ × List ℕ) → List Field → Option ShapeWhy
renames_cause rename kept = cause_if (not (has_renamed kept rename)) why.Field

-- at the options, in their order
abbrev pub option_causes : OpKind → List (List Field) → List (Option ShapeWhy)
option_causes (kind.Import file schema delim fixed reject) ins = widths_cause fixed schema ∷ []
option_causes (kind.Export file delim fixed) ins = widths_cause fixed (first_fields ins) ∷ []
option_causes (kind.Filter test reject) ins = test_cause (first_fields ins) test ∷ []
option_causes (kind.Transform set reject) ins = set_causes (first_fields ins) set
option_causes (kind.Modify keep drop rename) ins =
    columns_cause keep (first_fields ins) ∷ (columns_cause drop (first_fields ins) ∷ (renames_cause rename (kept_fields keep drop (first_fields ins)) ∷ []))
option_causes (kind.Switch on cases reject) ins = on_cause (first_fields ins) on ∷ []
option_causes (kind.Tsort key) ins = key_cause key (first_fields ins) ∷ []
option_causes (kind.Remdup key last) ins = key_cause key (first_fields ins) ∷ []
option_causes (kind.Group key hash results) ins = key_cause key (first_fields ins) ∷ result_causes results (first_fields ins)
option_causes (kind.InnerJoin key) ins = both_cause key (first_fields ins) (second_fields ins) ∷ []
option_causes (kind.LeftOuterJoin key) ins = both_cause key (first_fields ins) (second_fields ins) ∷ []
option_causes (kind.RightOuterJoin key) ins = both_cause key (first_fields ins) (second_fields ins) ∷ []
option_causes (kind.FullOuterJoin key) ins = both_cause key (first_fields ins) (second_fields ins) ∷ []
option_causes (kind.Lookup key missing) ins = both_cause key (first_fields ins) (second_fields ins) ∷ []
option_causes k ins = []

-- at the outputs, where they have fields of their own
abbrev pub output_causes : OpKind → List (List Field) → List (Option ShapeWhy)
output_causes (kind.Import file schema delim fixed reject) ins = fields_cause schema ∷ []
output_causes (kind.Transform set reject) ins = sets_cause set ∷ (fields_cause (set_fields (first_fields ins) set) ∷ [])
output_causes (kind.Modify keep drop rename) ins = fields_cause (modified_fields keep drop rename (first_fields ins)) ∷ []
output_causes (kind.Group key hash results) ins = fields_cause (group_fields key results (first_fields ins)) ∷ []
output_causes (kind.InnerJoin key) ins = fields_cause (join_fields false false key (first_fields ins) (second_fields ins)) ∷ []
output_causes (kind.LeftOuterJoin key) ins = fields_cause (join_fields false true key (first_fields ins) (second_fields ins)) ∷ []
output_causes (kind.RightOuterJoin key) ins = fields_cause (join_fields true false key (first_fields ins) (second_fields ins)) ∷ []
output_causes (kind.FullOuterJoin key) ins = fields_cause (join_fields true true key (first_fields ins) (second_fields ins)) ∷ []
output_causes (kind.Lookup key missing) ins = fields_cause (lookup_fields key missing (first_fields ins) (second_fields ins)) ∷ []
output_causes k ins = []

-- `record ( line: string[max=65536]; )`, of rejected lines
abbrev pub line_fields : List Field
line_fields = record { name = codes "line"; nullable = false; kind = data_kind.Text 65536 false } ∷ []

-- the fields of output q: those of input 0, but where the operator has or makes others
abbrev pub output_fields : OpKind → List (List Field) → ℕ → List Field
output_fields (kind.Import file schema delim fixed reject) ins q = made_or_rejected schema line_fields q
output_fields (kind.Transform set reject) ins q = made_or_rejected (set_fields (first_fields ins) set) (first_fields ins) q
output_fields (kind.Modify keep drop rename) ins q = modified_fields keep drop rename (first_fields ins)
output_fields (kind.Group key hash results) ins q = group_fields key results (first_fields ins)
output_fields (kind.InnerJoin key) ins q = join_fields false false key (first_fields ins) (second_fields ins)
output_fields (kind.LeftOuterJoin key) ins q = join_fields false true key (first_fields ins) (second_fields ins)
output_fields (kind.RightOuterJoin key) ins q = join_fields true false key (first_fields ins) (second_fields ins)
output_fields (kind.FullOuterJoin key) ins q = join_fields true true key (first_fields ins) (second_fields ins)
output_fields (kind.Lookup key missing) ins q = made_or_rejected (lookup_fields key missing (first_fields ins) (second_fields ins)) (first_fields ins) q
output_fields k ins q = first_fields ins

abbrev pub both_keys : List (List ℕ × Bool) → List (List Field) → List (List Key)
both_keys key ins = key_columns (first_fields ins) key ∷ (key_columns (second_fields ins) key ∷ [])

-- the key lists of an operator, one for each input
abbrev pub operator_keys : OpKind → List (List Field) → List (List Key)
operator_keys (kind.Tsort key) ins = key_columns (first_fields ins) key ∷ []
operator_keys (kind.Remdup key last) ins = key_columns (first_fields ins) key ∷ []
operator_keys (kind.Group key hash results) ins = key_columns (first_fields ins) key ∷ []
operator_keys (kind.InnerJoin key) ins = both_keys key ins
operator_keys (kind.LeftOuterJoin key) ins = both_keys key ins
operator_keys (kind.RightOuterJoin key) ins = both_keys key ins
operator_keys (kind.FullOuterJoin key) ins = both_keys key ins
operator_keys (kind.Lookup key missing) ins = both_keys key ins
operator_keys k ins = []

-- the columns that a transform sets, those that a modify keeps, and those of a group's results without its counts
abbrev pub operator_columns : OpKind → List (List Field) → List ℕ
operator_columns (kind.Transform set reject) ins = set_columns (first_fields ins) set
operator_columns (kind.Modify keep drop rename) ins = kept_columns keep drop (first_fields ins)
operator_columns (kind.Group key hash results) ins = source_columns results (first_fields ins)
operator_columns k ins = []

abbrev pub operator_parts : OpKind → List (List Field) → OpParts
operator_parts k ins = record { keys = operator_keys k ins; cols = operator_columns k ins; exprs = exprs_of k (first_fields ins) }

-- no name stands twice in a key
abbrev pub KeysDistinct : OpKind → Type 0
KeysDistinct (kind.Tsort key) = NamesDiffer key
KeysDistinct (kind.Remdup key last) = NamesDiffer key
KeysDistinct (kind.Group key hash results) = NamesDiffer key
KeysDistinct (kind.InnerJoin key) = NamesDiffer key
KeysDistinct (kind.LeftOuterJoin key) = NamesDiffer key
KeysDistinct (kind.RightOuterJoin key) = NamesDiffer key
KeysDistinct (kind.FullOuterJoin key) = NamesDiffer key
KeysDistinct (kind.Lookup key missing) = NamesDiffer key
KeysDistinct k = Unit {0}

-- fields that are set and names that are given are such as schemas have; there is a set; no case stands twice
abbrev pub OptionsStand : OpKind → Type 0
OptionsStand (kind.Transform set reject) = (0 < length set) × AllByRecursion (λ (s : SetSpec). IsField s.field) set
OptionsStand (kind.Modify keep drop rename) = AllByRecursion (λ (p : List ℕ × List ℕ). IsFieldName (p.0)) rename
OptionsStand (kind.Switch on cases reject) = AreDistinct cases
OptionsStand (kind.Group key hash results) = AllByRecursion (λ (a : AggSpec). IsFieldName (result_name a)) results
OptionsStand k = Unit {0}
