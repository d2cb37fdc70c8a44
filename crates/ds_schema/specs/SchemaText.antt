-- The one printed spelling of a schema, as `record ( a: int32; b: nullable decimal[8,2]; )`.
use Rattle.std.specs.Prelude.{ℕ, Bool, true, false, List, [], ◌++◌, codes}
use Rattle.std.specs.List.{flat_map}
use Rattle.std.specs.Fmt.{decimal}
use Rattle.ds_value.specs.declared.kind.Kind.{Kind}
use Rattle.ds_value.specs.declared.kind.Kind.TheVariants as kind
use Rattle.ds_schema.specs.declared.schema.Field.{Field}

-- the type of a field; a decimal is spelled with both numbers, and a text with its length
abbrev pub kind_text : Kind → List ℕ
kind_text (kind.Int bits) = codes "int" ++ decimal bits
kind_text (kind.UInt bits) = codes "uint" ++ decimal bits
kind_text (kind.Dec p s) = codes "decimal[" ++ (decimal p ++ (codes "," ++ (decimal s ++ codes "]")))
kind_text (kind.Text max true) = codes "string[" ++ (decimal max ++ codes "]")
kind_text (kind.Text max false) = codes "string[max=" ++ (decimal max ++ codes "]")
kind_text kind.Date = codes "date"

abbrev pub nullable_text : Bool → List ℕ
nullable_text true = codes "nullable "
nullable_text false = []

abbrev pub field_text : Field → List ℕ
field_text f = f.name ++ (codes ": " ++ (nullable_text f.nullable ++ (kind_text f.kind ++ codes "; ")))

abbrev pub schema_text : List Field → List ℕ
schema_text fields = codes "record ( " ++ (flat_map field_text fields ++ codes ")")
