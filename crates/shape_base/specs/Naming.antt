-- Names of columns, the columns that they name, and what is wrong with names of none.
use Rattle.std.specs.Prelude.{ℕ, ◌≡◌, Bool, not, List, [], ◌∷◌, map, Option}
use Rattle.std.specs.List.{list_any, list_all, position_or_len, AllByRecursion}
use Rattle.std.specs.Str.{bytes_eq}
use Rattle.ds_schema.specs.declared.schema.Field.{Field}
use Rattle.ds_schema.specs.declared.key.Key.{Key}
use Rattle.shape_base.specs.declared.fault.ShapeWhy.{ShapeWhy}
use Rattle.shape_base.specs.declared.fault.ShapeWhy.TheVariants as why
use Rattle.shape_base.specs.Causes.{cause_if}

abbrev pub is_named : List ℕ → Field → Bool
is_named name f = bytes_eq f.name name

abbrev pub has_column : List Field → List ℕ → Bool
has_column fields name = list_any (is_named name) fields

abbrev pub has_columns : List Field → List (List ℕ) → Bool
has_columns fields names = list_all (has_column fields) names

-- the column that has a name; the number of columns where none has it
abbrev pub column : List Field → List ℕ → ℕ
column fields name = position_or_len (is_named name) fields

abbrev pub columns : List Field → List (List ℕ) → List ℕ
columns fields names = map (column fields) names

-- written keys are names, each with whether it descends
abbrev pub has_keys : List Field → List (List ℕ × Bool) → Bool
has_keys fields keys = list_all (λ (k : List ℕ × Bool). has_column fields (k.0)) keys

abbrev pub key_cause : List (List ℕ × Bool) → List Field → Option ShapeWhy
key_cause key fields = cause_if (not (has_keys fields key)) why.Field

abbrev pub key_columns : List Field → List (List ℕ × Bool) → List Key
key_columns fields keys = map (λ (k : List ℕ × Bool). record { col = column fields (k.0); desc = k.1 }) keys

-- no two keys have one name
abbrev pub NamesDiffer : List (List ℕ × Bool) → Type 0
NamesDiffer [] = Unit {0}
NamesDiffer (k ∷ keys) = AllByRecursion (λ (other : List ℕ × Bool). k.0 ≡ other.0 → ⊥) keys × NamesDiffer keys
