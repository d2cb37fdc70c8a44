-- The fields of columns, of inputs and of outputs.
use Rattle.std.specs.Prelude.{ℕ, zero, suc, true, List, [], get_or}
use Rattle.ds_value.specs.declared.kind.Kind.TheVariants as data_kind
use Rattle.ds_schema.specs.declared.schema.Field.{Field}

abbrev pub no_field : Field
no_field = record { name = []; nullable = true; kind = data_kind.Date }

abbrev pub field_at : List Field → ℕ → Field
field_at fields c = get_or fields c no_field

abbrev pub first_fields : List (List Field) → List Field
first_fields ins = get_or ins 0 []

abbrev pub second_fields : List (List Field) → List Field
second_fields ins = get_or ins 1 []

-- the fields of output 0, and those of a reject output
abbrev pub made_or_rejected : List Field → List Field → ℕ → List Field
made_or_rejected made rejected zero = made
made_or_rejected made rejected (suc q) = rejected
