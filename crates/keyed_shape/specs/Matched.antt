-- The columns of merges and changes, what is wrong with those, and what is wrong with inputs that must be alike.
use Rattle.std.specs.Prelude.{ℕ, zero, suc, Bool, true, false, not, ◌&&◌, ◌||◌, nat_le, codes, List, [], ◌∷◌, ◌++◌, length, map, drop, get_or, Option}
use Rattle.std.specs.List.{flat_map, list_all, list_any}
use Rattle.std.specs.Str.{bytes_eq}
use Rattle.ds_value.specs.declared.kind.Kind.TheVariants as data_kind
use Rattle.ds_schema.specs.declared.schema.Field.{Field}
use Rattle.ds_schema.specs.declared.key.Key.{Key}
use Rattle.shape_base.specs.declared.fault.ShapeWhy.{ShapeWhy}
use Rattle.shape_base.specs.declared.fault.ShapeWhy.TheVariants as why
use Rattle.shape_base.specs.Causes.{cause_if, first_cause}
use Rattle.shape_base.specs.Fields.{first_fields}
use Rattle.shape_base.specs.Naming.{columns, has_columns, has_keys, key_columns}
use Rattle.shape_base.specs.Widths.{fields_cause}
use Rattle.keyed_shape.specs.Keyed.{field_named, is_key, kinds_agree, nullable_if, other_columns, other_fields, same_flag, same_kind}

-- ---- any number of inputs

-- a key that an input doesn't have, or that is of another kind there than on input 0
abbrev pub inputs_cause : List (List ℕ × Bool) → List (List Field) → Option ShapeWhy
inputs_cause key ins = first_cause (cause_if (not (list_all (λ fields. has_keys fields key) ins)) why.Field ∷ (cause_if (not (list_all (kinds_agree key (first_fields ins)) ins)) why.Kind ∷ []))

-- one key list for each input
abbrev pub inputs_keys : List (List ℕ × Bool) → List (List Field) → List (List Key)
inputs_keys key ins = map (λ fields. key_columns fields key) ins

abbrev pub same_field : Field → Field → Bool
same_field f g = bytes_eq f.name g.name && (same_flag f.nullable g.nullable && same_kind f.kind g.kind)

-- equal schemas: the same names and kinds in the same order, and null in the same columns
abbrev pub same_fields : List Field → List Field → Bool
same_fields [] [] = true
same_fields [] (g ∷ gs) = false
same_fields (f ∷ fs) [] = false
same_fields (f ∷ fs) (g ∷ gs) = same_field f g && same_fields fs gs

-- inputs whose schemas aren't all equal
abbrev pub schemas_cause : List (List Field) → Option ShapeWhy
schemas_cause ins = cause_if (not (list_all (same_fields (first_fields ins)) ins)) why.Schemas

-- ---- merge

-- a column of the master; a key may be null where it may on any input
abbrev pub master_field : List (List ℕ × Bool) → List (List Field) → Field → Field
master_field key updates f = nullable_if (is_key key f.name && list_any (λ fields. (field_named fields f.name).nullable) updates) f

-- whether an update may be missing where a master is given: bad masters are kept, or there is another update
abbrev pub may_miss : Bool → List (List Field) → Bool
may_miss keepbad updates = keepbad || nat_le 2 (length updates)

-- the master's columns, then the other columns of each update
abbrev pub merge_fields : List (List ℕ × Bool) → Bool → List (List Field) → List Field
merge_fields key keepbad ins = map (master_field key (drop 1 ins)) (first_fields ins) ++ flat_map (λ fields. map (nullable_if (may_miss keepbad (drop 1 ins))) (other_fields key fields)) (drop 1 ins)

abbrev pub merge_causes : List (List ℕ × Bool) → Bool → List (List Field) → List (Option ShapeWhy)
merge_causes key keepbad ins = inputs_cause key ins ∷ (fields_cause (merge_fields key keepbad ins) ∷ [])

-- rejected updates keep the columns of their input
abbrev pub merge_output : List (List ℕ × Bool) → Bool → List (List Field) → ℕ → List Field
merge_output key keepbad ins zero = merge_fields key keepbad ins
merge_output key keepbad ins (suc q) = get_or ins (suc q) (first_fields ins)

-- ---- changecapture

-- `change_code: int8`
abbrev pub code_field : Field
code_field = record { name = codes "change_code"; nullable = false; kind = data_kind.Int 8 }

abbrev pub capture_fields : List Field → List Field
capture_fields fields = fields ++ code_field ∷ []

-- a column that is to be compared, and that an input doesn't have
abbrev pub values_cause : List (List ℕ) → List (List Field) → Option ShapeWhy
values_cause values ins = cause_if (not (list_all (λ fields. has_columns fields values) ins)) why.Field

abbrev pub capture_causes : List (List ℕ × Bool) → List (List ℕ) → List (List Field) → List (Option ShapeWhy)
capture_causes key values ins = inputs_cause key ins ∷ (values_cause values ins ∷ (schemas_cause ins ∷ (fields_cause (capture_fields (first_fields ins)) ∷ [])))

-- the columns that are compared: those that are named, or by default all that no key names
abbrev pub value_columns : List (List ℕ × Bool) → List (List ℕ) → List Field → List ℕ
value_columns key [] fields = other_columns key fields
value_columns key (value ∷ values) fields = columns fields (value ∷ values)

-- ---- funnel

abbrev pub funnel_causes : List (List ℕ × Bool) → List (List Field) → List (Option ShapeWhy)
funnel_causes sort ins = inputs_cause sort ins ∷ (schemas_cause ins ∷ [])
