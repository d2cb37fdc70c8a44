-- The columns that a transform sets and those that a modify keeps, and the fields that these give.
use Rattle.std.specs.Prelude.{ℕ, ◌||◌, not, Bool, false, List, [], ◌∷◌, length, map, Option, if◌then◌else◌}
use Rattle.std.specs.List.{filter, list_any, list_all}
use Rattle.std.specs.Str.{bytes_eq}
use Rattle.ds_schema.specs.declared.schema.Field.{Field}
use Rattle.op_base.specs.Columns.{all_columns}
use Rattle.flow_graph.specs.declared.op_kind.SetSpec.{SetSpec}
use Rattle.shape_base.specs.declared.fault.ShapeWhy.{ShapeWhy}
use Rattle.shape_base.specs.declared.fault.ShapeWhy.TheVariants as why
use Rattle.shape_base.specs.Causes.{cause_if}
use Rattle.shape_base.specs.Naming.{columns, has_column, has_columns}
use Rattle.shape_base.specs.Fields.{field_at}

-- ---- transform

-- a present field is replaced in its place, a new one appended
abbrev pub put_field : Field → List Field → List Field
put_field new [] = new ∷ []
put_field new (f ∷ fields) = if bytes_eq f.name new.name then new ∷ fields else f ∷ put_field new fields

abbrev pub set_fields : List Field → List SetSpec → List Field
set_fields fields [] = fields
set_fields fields (s ∷ set) = set_fields (put_field s.field fields) set

abbrev pub set_names : List SetSpec → List (List ℕ)
set_names set = map (λ (s : SetSpec). s.field.name) set

-- where the fields that are set stand among those of the output
abbrev pub set_columns : List Field → List SetSpec → List ℕ
set_columns fields set = columns (set_fields fields set) (set_names set)

abbrev pub is_among : List (List ℕ) → List ℕ → Bool
is_among names name = list_any (λ n. bytes_eq n name) names

abbrev pub stand_twice : List (List ℕ) → Bool
stand_twice [] = false
stand_twice (n ∷ names) = is_among names n || stand_twice names

-- two sets of one name
abbrev pub sets_cause : List SetSpec → Option ShapeWhy
sets_cause set = cause_if (stand_twice (set_names set)) why.Double

-- ---- modify

abbrev pub columns_cause : List (List ℕ) → List Field → Option ShapeWhy
columns_cause names fields = cause_if (not (has_columns fields names)) why.Field

-- the columns that aren't dropped, in the order of the input
abbrev pub left_columns : List (List ℕ) → List Field → List ℕ
left_columns drop fields = filter (λ c. not (is_among drop (field_at fields c).name)) (all_columns (length fields))

-- in the written order, or all that aren't dropped where none is written
abbrev pub kept_columns : List (List ℕ) → List (List ℕ) → List Field → List ℕ
kept_columns [] drop fields = left_columns drop fields
kept_columns (k ∷ keep) drop fields = columns fields (k ∷ keep)

abbrev pub kept_fields : List (List ℕ) → List (List ℕ) → List Field → List Field
kept_fields keep drop fields = map (field_at fields) (kept_columns keep drop fields)

-- a pair is a new name and the old one
abbrev pub has_renamed : List Field → List (List ℕ × List ℕ) → Bool
has_renamed kept rename = list_all (λ (p : List ℕ × List ℕ). has_column kept (p.1)) rename

abbrev pub new_name : List (List ℕ × List ℕ) → List ℕ → List ℕ
new_name [] name = name
new_name (p ∷ rename) name = if bytes_eq (p.1) name then p.0 else new_name rename name

abbrev pub renamed : List (List ℕ × List ℕ) → Field → Field
renamed rename f = record { name = new_name rename f.name; nullable = f.nullable; kind = f.kind }

-- the kept fields, all of them renamed at once
abbrev pub modified_fields : List (List ℕ) → List (List ℕ) → List (List ℕ × List ℕ) → List Field → List Field
modified_fields keep drop rename fields = map (renamed rename) (kept_fields keep drop fields)
