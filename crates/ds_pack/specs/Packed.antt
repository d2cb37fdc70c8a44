-- Rows as bytes: the canonical bytes of their values, one after another.
use Rattle.std.specs.Prelude.{◌≡◌, ◌++◌, ℕ, true, List, Option, Some, None, length, drop}
use Rattle.std.specs.List.{flat_map}
use Rattle.ds_value.specs.declared.value.Value.{Value}
use Rattle.ds_value.specs.Canonical.{canonical_bytes, IsHeld, IsShort}
use Rattle.ds_schema.specs.declared.schema.Field.{Field}
use Rattle.ds_schema.specs.Schemas.{IsSchema, row_fits}

abbrev pub packed : List Value → List ℕ
packed row = flat_map canonical_bytes row

-- so many of the bytes are the canonical bytes of this value; or no value's canonical bytes stand in front
abbrev pub FirstValue : List ℕ → Option (Value × ℕ) → Type 0
FirstValue bytes (Some (v, n)) = IsHeld v × IsShort v × (n ≡ length (canonical_bytes v)) × (bytes ≡ canonical_bytes v ++ drop n bytes)
FirstValue bytes None = (v : Value) (rest : List ℕ) → IsShort v → bytes ≡ canonical_bytes v ++ rest → ⊥

-- so many of the bytes are this packed row, which fits the schema; or no such row stands in front
abbrev pub FirstRow : List Field → List ℕ → Option (List Value × ℕ) → Type 0
FirstRow schema bytes (Some (row, n)) = (row_fits schema row ≡ true) × (n ≡ length (packed row)) × (bytes ≡ packed row ++ drop n bytes)
FirstRow schema bytes None = (row : List Value) (rest : List ℕ) → row_fits schema row ≡ true → bytes ≡ packed row ++ rest → ⊥

-- of two rows that fit one schema neither begins the other: what was packed is read, whatever follows
abbrev pub PackedRowsDiffer : Type 0
PackedRowsDiffer = (schema : List Field) (a b : List Value) (more further : List ℕ) → IsSchema schema → row_fits schema a ≡ true → row_fits schema b ≡ true → packed a ++ more ≡ packed b ++ further → (a ≡ b) × (more ≡ further)
