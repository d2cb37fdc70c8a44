-- What lookup's operator keeps of what it was fed.
use Rattle.std.specs.Prelude.{◌≡◌, ℕ, Bool, List}
use Rattle.std.specs.List.{AllByRecursion}
use Rattle.std.specs.Map.{lookup}
use Rattle.std.specs.Str.{bytes_eq}
use Rattle.streams.specs.Streams.{Feed, ended, rows_of}
use Rattle.ds_value.specs.Canonical.{IsHeld, IsShort}
use Rattle.ds_value.specs.declared.value.Value.{Value}
use Rattle.ds_schema.specs.Rows.{val}
use Rattle.op_base.specs.Columns.{Row}
use Rattle.op_lookup.specs.Table.{first_others}

-- the canonical bytes of a value tell it apart
abbrev pub IsTold : Value → Type 0
IsTold v = IsHeld v × IsShort v

-- which ports have ended, and of the reference's rows of each key the first, without the key's columns
pub record LookupStands (reference others : List ℕ) (entries : List (List ℕ × Row)) (main_over reference_over : Bool) (feeds : List (Feed Row)) : Type 0 where
  pub main_over_is : main_over ≡ ended 0 feeds
  pub reference_over_is : reference_over ≡ ended 1 feeds
  pub table_is : (key : List ℕ) → lookup (bytes_eq key) entries ≡ first_others reference others key (rows_of 1 feeds)
  pub told : AllByRecursion (λ r. AllByRecursion IsTold (val reference r)) (rows_of 1 feeds)
