-- What a row may be applied to, and what it then answers.
use Rattle.std.specs.Prelude.{◌≡◌, ◌≢◌, ◌↔◌, ◌<◌, ◌≤◌, ℕ, ◌+◌, ◌^◌, unsigned_abs, Bool, true, false, not, ◌&&◌, ◌||◌, nat_le, List, [], ◌∷◌, length, Some, Result, Ok, Err, slice_get}
use Rattle.ds_value.specs.declared.kind.Kind.TheVariants as kind
use Rattle.ds_value.specs.declared.value.Value.TheVariants as value
use Rattle.ds_value.specs.Kinds.{fits_kind}
use Rattle.expr_table.specs.declared.entry.Shape.{Shape}
use Rattle.expr_table.specs.declared.entry.Shape.TheVariants as shape
use Rattle.expr_table.specs.declared.entry.FnName.{FnName}
use Rattle.expr_table.specs.declared.entry.FnName.TheVariants as fn
use Rattle.expr_table.specs.declared.entry.Entry.{Entry}
use Rattle.expr_table.specs.declared.arg.Arg.{Arg}
use Rattle.expr_table.specs.declared.arg.Arg.TheVariants.{Null, Num, Text, Date, Truth}
use Rattle.expr_table.specs.declared.arg.EvalFault.{EvalFault}
use Rattle.expr_table.specs.declared.arg.EvalFault.TheVariants as fault
use Rattle.expr_table.specs.TableRows.{rows, shapes}
use Rattle.expr_table.specs.Meaning.{value_of, is_null}

-- null has each shape
abbrev pub HasShape : Shape → Arg → Type 0
HasShape shape Null = Unit {0}
HasShape shape.Num (Num z) = Unit {0}
HasShape shape.Text (Text bytes) = Unit {0}
HasShape shape.Date (Date day) = Unit {0}
HasShape shape.Truth (Truth b) = Unit {0}
HasShape shape other = ⊥

-- each argument has its shape
abbrev pub HaveShapes : List Shape → List Arg → Type 0
HaveShapes [] [] = Unit {0}
HaveShapes (shape ∷ more) (arg ∷ args) = HasShape shape arg × HaveShapes more args
HaveShapes more args = ⊥

-- a number is below 10 ^ 38 in absolute value, a date from 0001-01-01 to 9999-12-31
abbrev pub IsInRange : Arg → Type 0
IsInRange Null = Unit {0}
IsInRange (Num z) = unsigned_abs z < 10 ^ 38
IsInRange (Text bytes) = Unit {0}
IsInRange (Date day) = fits_kind kind.Date (value.Date day) ≡ true
IsInRange (Truth b) = Unit {0}

abbrev pub AreInRange : List Arg → Type 0
AreInRange [] = Unit {0}
AreInRange (arg ∷ args) = IsInRange arg × AreInRange args

-- no scale is above 38
abbrev pub AreSmall : List ℕ → Type 0
AreSmall [] = Unit {0}
AreSmall (s ∷ scales) = (s ≤ 38) × AreSmall scales

-- exactly this value or fault, but for want of memory, which is free
abbrev pub Answers : {A : Type 0} → Result A EvalFault → Result A EvalFault → Type 0
Answers answer value = answer ≢ Err fault.Memory → answer ≡ value

-- what a row gives for arguments of its shapes has the shape of its result, and lies in its range
abbrev pub ResultsFit : Type 0
ResultsFit = (row : ℕ) (e : Entry) (scales : List ℕ) (args : List Arg) (v : Arg) → slice_get rows row ≡ Some e → HaveShapes (shapes e) args → AreInRange args → value_of e.name scales args ≡ Ok v → HasShape e.result v × IsInRange v

-- the places, counted from 0, in which null is an argument like others
abbrev pub takes_null : FnName → ℕ → Bool
takes_null fn.Equal place = true
takes_null fn.NotEqual place = true
takes_null fn.Less place = true
takes_null fn.AtMost place = true
takes_null fn.Greater place = true
takes_null fn.AtLeast place = true
takes_null fn.IsNull place = true
takes_null fn.IfNull place = true
takes_null fn.If place = nat_le 1 place
takes_null name place = false

-- null stands in another place, where the first argument has this one
abbrev pub misuses_null : FnName → ℕ → List Arg → Bool
misuses_null name place [] = false
misuses_null name place (a ∷ args) = (not (takes_null name place) && is_null a) || misuses_null name (place + 1) args

-- a row's fault is NullUsed exactly where null stands in such a place
abbrev pub NullsAreExact : Type 0
NullsAreExact = (row : ℕ) (e : Entry) (scales : List ℕ) (args : List Arg) → slice_get rows row ≡ Some e → HaveShapes (shapes e) args → length scales ≡ length args → (value_of e.name scales args ≡ Err fault.NullUsed) ↔ (misuses_null e.name 0 args ≡ true)
