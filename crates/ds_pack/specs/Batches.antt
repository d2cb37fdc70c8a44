-- Batches: rows that are kept as their packed bytes, one after another.
use Rattle.std.specs.Prelude.{◌≡◌, ◌≤◌, ℕ, zero, suc, ◌==◌, if◌then◌else◌, true, List, [], ◌∷◌, length, take, drop}
use Rattle.std.specs.Int.{w32, w64, w128, cast_signed}
use Rattle.std.specs.List.{AllByRecursion, flat_map}
use Rattle.byteorder.specs.Endian.{big_number}
use Rattle.ds_value.specs.declared.value.Value.{Value}
use Rattle.ds_value.specs.declared.value.Value.TheVariants.{Null, Int, UInt, Dec, Text, Date}
use Rattle.ds_value.specs.Canonical.{IsHeld, IsShort}
use Rattle.ds_schema.specs.declared.schema.Field.{Field}
use Rattle.ds_schema.specs.Schemas.{IsSchema, row_fits}
use Rattle.ds_pack.specs.Packed.{packed}

abbrev pub packed_rows : List (List Value) → List ℕ
packed_rows rows = flat_map packed rows

-- the value whose canonical bytes stand in front of some bytes, and the bytes behind it
abbrev pub front_value : List ℕ → Value × List ℕ
front_value [] = (Null, [])
front_value (variant ∷ content) =
    if variant == 1 then (Int (cast_signed w64 (big_number 8 content)), drop 8 content) else
    if variant == 2 then (UInt (big_number 8 content), drop 8 content) else
    if variant == 3 then (Dec (cast_signed w128 (big_number 16 content)), drop 16 content) else
    if variant == 4 then (Text (take (big_number 4 content) (drop 4 content)), drop (big_number 4 content) (drop 4 content)) else
    if variant == 5 then (Date (cast_signed w32 (big_number 4 content)), drop 4 content) else
    (Null, content)

-- so many values in front, and the bytes behind them
abbrev pub front_row : ℕ → List ℕ → List Value × List ℕ
front_row zero bytes = ([], bytes)
front_row (suc n) bytes =
    let value = front_value bytes in
    let more = front_row n value.1 in
    (value.0 ∷ more.0, more.1)

-- rows of so many values, as long as there are bytes; no more rows than steps
abbrev pub rows_from : ℕ → ℕ → List ℕ → List (List Value)
rows_from zero width bytes = []
rows_from (suc steps) width [] = []
rows_from (suc steps) width (b ∷ bytes) =
    let row = front_row width (b ∷ bytes) in
    row.0 ∷ rows_from steps width row.1

-- the rows of so many values that bytes hold
abbrev pub rows_in : ℕ → List ℕ → List (List Value)
rows_in width bytes = rows_from (length bytes) width bytes

-- the bytes are some rows of so many values, packed
pub record AreRows (width : ℕ) (bytes : List ℕ) : Type 0 where
  pub some : 1 ≤ length (rows_in width bytes)
  pub whole : bytes ≡ packed_rows (rows_in width bytes)

-- so many values, at least one, and each text fits its length
abbrev pub IsPackable : ℕ → List Value → Type 0
IsPackable width row = (length row ≡ width) × ((1 ≤ width) × AllByRecursion IsShort row)

abbrev pub first_width : List (List Value) → ℕ
first_width [] = 0
first_width (row ∷ rows) = length row

-- rows that a batch is made of: one at least, all with as many values
pub record ArePackable (rows : List (List Value)) : Type 0 where
  pub some : 1 ≤ length rows
  pub each : AllByRecursion (IsPackable (first_width rows)) rows

abbrev pub FitEach : List Field → List (List Value) → Type 0
FitEach schema rows = AllByRecursion (λ (row : List Value). row_fits schema row ≡ true) rows

-- what is read of the packed bytes of some rows is these rows
abbrev pub PackedRowsAreRead : Type 0
PackedRowsAreRead = (width : ℕ) (rows : List (List Value)) → 1 ≤ width → AllByRecursion (λ (row : List Value). (length row ≡ width) × AllByRecursion (λ v. IsHeld v × IsShort v) row) rows → rows_in width (packed_rows rows) ≡ rows

-- rows that fit a schema are packable
abbrev pub FittingRowsArePackable : Type 0
FittingRowsArePackable = (schema : List Field) (rows : List (List Value)) → IsSchema schema → 1 ≤ length rows → FitEach schema rows → ArePackable rows
