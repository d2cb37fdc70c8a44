-- What an assignment to a field gives.
use Rattle.std.specs.Prelude.{◌≡◌, ℕ, ◌-◌, ◌^◌, ℤ, pos, negsuc, ◌*ℤ◌, Bool, true, false, ◌==◌, nat_le, if◌then◌else◌, List, length, Result, Ok, Err}
use Rattle.ds_value.specs.declared.kind.Kind.{Kind}
use Rattle.ds_value.specs.declared.kind.Kind.TheVariants as kind
use Rattle.ds_value.specs.declared.value.Value.{Value}
use Rattle.ds_value.specs.declared.value.Value.TheVariants as value
use Rattle.ds_value.specs.Kinds.{fits_kind}
use Rattle.ds_value.specs.Spellings.{filled}
use Rattle.ds_schema.specs.declared.schema.Field.{Field}
use Rattle.expr_table.specs.declared.entry.Shape.{Shape}
use Rattle.expr_table.specs.declared.entry.Shape.TheVariants as shape
use Rattle.expr_table.specs.declared.arg.Arg.{Arg}
use Rattle.expr_table.specs.declared.arg.Arg.TheVariants.{Null, Num, Text, Date, Truth}
use Rattle.expr_table.specs.declared.arg.EvalFault.{EvalFault}
use Rattle.expr_table.specs.declared.arg.EvalFault.TheVariants.{Overflow, NullUsed, TooLong}

-- what can be assigned to a field of a kind: no Truth, and no number whose scale is greater
abbrev pub can_assign : Shape → ℕ → Kind → Bool
can_assign shape.Num s (kind.Int bits) = s == 0
can_assign shape.Num s (kind.UInt bits) = s == 0
can_assign shape.Num s (kind.Dec p scale) = nat_le s scale
can_assign shape.Text s (kind.Text max fixed) = true
can_assign shape.Date s kind.Date = true
can_assign other s k = false

-- the argument can be assigned to a field of the kind, with this scale where it is a Num; null always can
abbrev pub Assignable : Kind → ℕ → Arg → Type 0
Assignable k s Null = Unit {0}
Assignable k s (Num z) = can_assign shape.Num s k ≡ true
Assignable k s (Text bytes) = can_assign shape.Text s k ≡ true
Assignable k s (Date day) = (can_assign shape.Date s k ≡ true) × (fits_kind kind.Date (value.Date day) ≡ true)
Assignable k s (Truth b) = ⊥

-- a value where it lies in the kind's range
abbrev pub fitting : Kind → Value → Result Value EvalFault
fitting k v = if fits_kind k v then Ok v else Err Overflow

abbrev pub assigned_whole : ℕ → ℤ → Result Value EvalFault
assigned_whole bits z = fitting (kind.Int bits) (value.Int z)

abbrev pub assigned_unsigned : ℕ → ℤ → Result Value EvalFault
assigned_unsigned bits (pos n) = fitting (kind.UInt bits) (value.UInt n)
assigned_unsigned bits (negsuc n) = Err Overflow

-- units of the argument's scale as units of the kind's
abbrev pub assigned_decimal : ℕ → ℕ → ℕ → ℤ → Result Value EvalFault
assigned_decimal p s scale z = fitting (kind.Dec p s) (value.Dec (z *ℤ pos (10 ^ (s - scale))))

abbrev pub assigned_number : Kind → ℕ → ℤ → Result Value EvalFault
assigned_number (kind.Int bits) scale z = assigned_whole bits z
assigned_number (kind.UInt bits) scale z = assigned_unsigned bits z
assigned_number (kind.Dec p s) scale z = assigned_decimal p s scale z
assigned_number k scale z = Err NullUsed

abbrev pub text_of_kind : Bool → ℕ → List ℕ → List ℕ
text_of_kind true max bytes = filled max bytes
text_of_kind false max bytes = bytes

-- a text of fixed length is filled with spaces; none is cut
abbrev pub assigned_text : Kind → List ℕ → Result Value EvalFault
assigned_text (kind.Text max fixed) bytes = if nat_le (length bytes) max then Ok (value.Text (text_of_kind fixed max bytes)) else Err TooLong
assigned_text k bytes = Err NullUsed

-- what is assigned to the field, or the fault
abbrev pub assigned : Field → ℕ → Arg → Result Value EvalFault
assigned f s Null = if f.nullable then Ok value.Null else Err NullUsed
assigned f s (Num z) = assigned_number f.kind s z
assigned f s (Text bytes) = assigned_text f.kind bytes
assigned f s (Date day) = Ok (value.Date day)
assigned f s (Truth b) = Err NullUsed
