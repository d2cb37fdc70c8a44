-- The forms in which records are text, and which of them suit a schema.
use Rattle.std.specs.Prelude.{◌≡◌, ◌≢◌, ◌≤◌, ℕ, List, length}
use Rattle.std.specs.List.{AllByRecursion}
use Rattle.ds_schema.specs.declared.schema.Field.{Field}
use Rattle.ds_text.specs.declared.form.Form.{Form}
use Rattle.ds_text.specs.declared.form.Form.TheVariants.{Delimited, Fixed}

-- one byte that isn't an end of a line, a byte 13 or a quote
pub record IsDelimiter (d : ℕ) : Type 0 where
  pub no_end : d ≢ 10
  pub no_return : d ≢ 13
  pub no_quote : d ≢ 34

abbrev pub IsWidth : ℕ → Type 0
IsWidth w = (1 ≤ w) × (w ≤ 65536)

-- one width for each column
pub record AreWidths (fields : List Field) (widths : List ℕ) : Type 0 where
  pub one_each : length widths ≡ length fields
  pub each : AllByRecursion IsWidth widths

abbrev pub FormFits : List Field → Form → Type 0
FormFits fields (Delimited d) = IsDelimiter d
FormFits fields (Fixed widths) = AreWidths fields widths
