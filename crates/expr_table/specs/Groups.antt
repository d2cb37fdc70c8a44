-- The names by the arguments of their rows.
use Rattle.expr_table.specs.declared.entry.FnName.{FnName}
use Rattle.expr_table.specs.declared.entry.FnName.TheVariants as fn

-- the names whose rows compare two arguments
abbrev pub IsComparison : FnName → Type 0
IsComparison fn.Equal = Unit {0}
IsComparison fn.NotEqual = Unit {0}
IsComparison fn.Less = Unit {0}
IsComparison fn.AtMost = Unit {0}
IsComparison fn.Greater = Unit {0}
IsComparison fn.AtLeast = Unit {0}
IsComparison name = ⊥

-- the names whose rows reckon with two numbers, or with dates
abbrev pub IsArithmetic : FnName → Type 0
IsArithmetic fn.Plus = Unit {0}
IsArithmetic fn.Minus = Unit {0}
IsArithmetic fn.Times = Unit {0}
IsArithmetic fn.Divide = Unit {0}
IsArithmetic fn.Remainder = Unit {0}
IsArithmetic fn.Least = Unit {0}
IsArithmetic fn.Greatest = Unit {0}
IsArithmetic name = ⊥

-- the names whose rows choose, or join truths
abbrev pub IsChoice : FnName → Type 0
IsChoice fn.And = Unit {0}
IsChoice fn.Or = Unit {0}
IsChoice fn.Not = Unit {0}
IsChoice fn.IsNull = Unit {0}
IsChoice fn.IfNull = Unit {0}
IsChoice fn.If = Unit {0}
IsChoice name = ⊥

-- the names whose rows have one number, the literal of round aside
abbrev pub IsOfNumber : FnName → Type 0
IsOfNumber fn.Abs = Unit {0}
IsOfNumber fn.Sign = Unit {0}
IsOfNumber fn.Round = Unit {0}
IsOfNumber fn.Text = Unit {0}
IsOfNumber name = ⊥

-- the names whose rows have texts
abbrev pub IsOfText : FnName → Type 0
IsOfText fn.Length = Unit {0}
IsOfText fn.Concat = Unit {0}
IsOfText fn.Substr = Unit {0}
IsOfText fn.Trim = Unit {0}
IsOfText name = ⊥

-- the names whose rows have a date first
abbrev pub IsOfDate : FnName → Type 0
IsOfDate fn.Year = Unit {0}
IsOfDate fn.Month = Unit {0}
IsOfDate fn.Day = Unit {0}
IsOfDate fn.DayNumber = Unit {0}
IsOfDate fn.AddDays = Unit {0}
IsOfDate name = ⊥
