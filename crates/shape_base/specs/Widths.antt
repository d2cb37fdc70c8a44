-- What is wrong with an output's fields: two of one name, none or too many, or rows that may be too long.
use Rattle.std.specs.Prelude.{ℕ, ◌+◌, Bool, false, not, ◌&&◌, ◌||◌, nat_le, List, [], ◌∷◌, length, sum_by, Option}
use Rattle.ds_value.specs.declared.kind.Kind.{Kind}
use Rattle.ds_value.specs.declared.kind.Kind.TheVariants as kind
use Rattle.ds_schema.specs.declared.schema.Field.{Field}
use Rattle.shape_base.specs.declared.fault.ShapeWhy.{ShapeWhy}
use Rattle.shape_base.specs.declared.fault.ShapeWhy.TheVariants as why
use Rattle.shape_base.specs.Causes.{cause_if, first_cause}
use Rattle.shape_base.specs.Naming.{has_column}

-- the greatest number of canonical bytes of a value
abbrev pub widest : Kind → ℕ
widest (kind.Int bits) = 9
widest (kind.UInt bits) = 9
widest (kind.Dec p s) = 17
widest (kind.Text max fixed) = 5 + max
widest kind.Date = 5

-- and of a row
abbrev pub widest_row : List Field → ℕ
widest_row fields = sum_by (λ (f : Field). widest f.kind) fields

abbrev pub has_double : List Field → Bool
has_double [] = false
has_double (f ∷ fields) = has_column fields f.name || has_double fields

abbrev pub is_narrow : List Field → Bool
is_narrow fields = nat_le 1 (length fields) && (nat_le (length fields) 256 && nat_le (widest_row fields) 2097152)

abbrev pub fields_cause : List Field → Option ShapeWhy
fields_cause fields = first_cause (cause_if (has_double fields) why.Double ∷ (cause_if (not (is_narrow fields)) why.Wide ∷ []))
