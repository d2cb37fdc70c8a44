-- The 53 functions and operators of expressions: name, shapes of the arguments, shape of the result.
use Rattle.std.specs.Prelude.{◌≡◌, ℕ, List, [], ◌∷◌, Option, Some, Bool, true, false, ◌&&◌, take, slice_get, codes, bytes_eq}
use Rattle.std.specs.List.{position_from}
use Rattle.expr_table.specs.declared.entry.Shape.{Shape}
use Rattle.expr_table.specs.declared.entry.Shape.TheVariants.{Num, Text, Date, Truth, Unused}
use Rattle.expr_table.specs.declared.entry.FnName.{FnName}
use Rattle.expr_table.specs.declared.entry.FnName.TheVariants as fn
use Rattle.expr_table.specs.declared.entry.Entry.{Entry}

-- how a name is written
abbrev pub spelled : FnName → List ℕ
spelled fn.Equal = codes "=="
spelled fn.NotEqual = codes "!="
spelled fn.Less = codes "<"
spelled fn.AtMost = codes "<="
spelled fn.Greater = codes ">"
spelled fn.AtLeast = codes ">="
spelled fn.Plus = codes "+"
spelled fn.Minus = codes "-"
spelled fn.Times = codes "*"
spelled fn.Divide = codes "/"
spelled fn.Remainder = codes "%"
spelled fn.And = codes "&&"
spelled fn.Or = codes "||"
spelled fn.Not = codes "!"
spelled fn.IsNull = codes "isnull"
spelled fn.IfNull = codes "ifnull"
spelled fn.If = codes "if"
spelled fn.Abs = codes "abs"
spelled fn.Sign = codes "sign"
spelled fn.Round = codes "round"
spelled fn.Least = codes "least"
spelled fn.Greatest = codes "greatest"
spelled fn.Length = codes "length"
spelled fn.Concat = codes "concat"
spelled fn.Substr = codes "substr"
spelled fn.Trim = codes "trim"
spelled fn.Text = codes "text"
spelled fn.Year = codes "year"
spelled fn.Month = codes "month"
spelled fn.Day = codes "day"
spelled fn.DayNumber = codes "daynumber"
spelled fn.AddDays = codes "adddays"

abbrev pub row1 : FnName → Shape → Shape → Entry
row1 name a result = record { name = name; args = a ∷ Unused ∷ Unused ∷ []; count = 1; result = result }

abbrev pub row2 : FnName → Shape → Shape → Shape → Entry
row2 name a b result = record { name = name; args = a ∷ b ∷ Unused ∷ []; count = 2; result = result }

abbrev pub row3 : FnName → Shape → Shape → Shape → Shape → Entry
row3 name a b c result = record { name = name; args = a ∷ b ∷ c ∷ []; count = 3; result = result }

abbrev pub rows : List Entry
rows =
    row2 fn.Equal Num Num Truth
    ∷ row2 fn.Equal Text Text Truth
    ∷ row2 fn.Equal Date Date Truth
    ∷ row2 fn.NotEqual Num Num Truth
    ∷ row2 fn.NotEqual Text Text Truth
    ∷ row2 fn.NotEqual Date Date Truth
    ∷ row2 fn.Less Num Num Truth
    ∷ row2 fn.Less Text Text Truth
    ∷ row2 fn.Less Date Date Truth
    ∷ row2 fn.AtMost Num Num Truth
    ∷ row2 fn.AtMost Text Text Truth
    ∷ row2 fn.AtMost Date Date Truth
    ∷ row2 fn.Greater Num Num Truth
    ∷ row2 fn.Greater Text Text Truth
    ∷ row2 fn.Greater Date Date Truth
    ∷ row2 fn.AtLeast Num Num Truth
    ∷ row2 fn.AtLeast Text Text Truth
    ∷ row2 fn.AtLeast Date Date Truth
    ∷ row2 fn.Plus Num Num Num
    ∷ row2 fn.Minus Num Num Num
    ∷ row2 fn.Times Num Num Num
    ∷ row2 fn.Divide Num Num Num
    ∷ row2 fn.Remainder Num Num Num
    ∷ row2 fn.Minus Date Date Num
    ∷ row1 fn.Minus Num Num
    ∷ row2 fn.And Truth Truth Truth
    ∷ row2 fn.Or Truth Truth Truth
    ∷ row1 fn.Not Truth Truth
    ∷ row1 fn.IsNull Num Truth
    ∷ row1 fn.IsNull Text Truth
    ∷ row1 fn.IsNull Date Truth
    ∷ row2 fn.IfNull Num Num Num
    ∷ row2 fn.IfNull Text Text Text
    ∷ row2 fn.IfNull Date Date Date
    ∷ row3 fn.If Truth Num Num Num
    ∷ row3 fn.If Truth Text Text Text
    ∷ row3 fn.If Truth Date Date Date
    ∷ row3 fn.If Truth Truth Truth Truth
    ∷ row1 fn.Abs Num Num
    ∷ row1 fn.Sign Num Num
    ∷ row2 fn.Round Num Num Num
    ∷ row2 fn.Least Num Num Num
    ∷ row2 fn.Greatest Num Num Num
    ∷ row1 fn.Length Text Num
    ∷ row2 fn.Concat Text Text Text
    ∷ row3 fn.Substr Text Num Num Text
    ∷ row1 fn.Trim Text Text
    ∷ row1 fn.Text Num Text
    ∷ row1 fn.Year Date Num
    ∷ row1 fn.Month Date Num
    ∷ row1 fn.Day Date Num
    ∷ row1 fn.DayNumber Date Num
    ∷ row2 fn.AddDays Date Num Date
    ∷ []

-- the shapes of a row's arguments
abbrev pub shapes : Entry → List Shape
shapes e = take e.count e.args

-- the row has this name and these arguments
abbrev pub Has : FnName → List Shape → Entry → Type 0
Has name args e = (e.name ≡ name) × (shapes e ≡ args)

-- the same, as a test: two names are one where they are written alike
abbrev pub is_name : FnName → FnName → Bool
is_name a b = bytes_eq (spelled a) (spelled b)

abbrev pub is_shape : Shape → Shape → Bool
is_shape Num Num = true
is_shape Text Text = true
is_shape Date Date = true
is_shape Truth Truth = true
is_shape Unused Unused = true
is_shape a b = false

abbrev pub are_shapes : List Shape → List Shape → Bool
are_shapes [] [] = true
are_shapes (a ∷ more) (b ∷ others) = is_shape a b && are_shapes more others
are_shapes more others = false

abbrev pub has : FnName → List Shape → Entry → Bool
has name args e = is_name e.name name && are_shapes (shapes e) args

-- the number of the row that has them
abbrev pub row_with : List Entry → FnName → List Shape → Option ℕ
row_with es name args = position_from (has name args) 0 es

-- no two rows have one name and the same arguments
abbrev pub AreDistinct : List Entry → Type 0
AreDistinct es = (i j : ℕ) (d e : Entry) → slice_get es i ≡ Some d → slice_get es j ≡ Some e → Has d.name (shapes d) e → i ≡ j
