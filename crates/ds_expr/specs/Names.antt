-- The functions that words before brackets and signs name.
use Rattle.std.specs.Prelude.{ℕ, List, Option, Some, None, if◌then◌else◌, codes}
use Rattle.std.specs.Str.{bytes_eq}
use Rattle.expr_read.specs.declared.tree.Infix.{Infix}
use Rattle.expr_read.specs.declared.tree.Infix.TheVariants as sign
use Rattle.expr_read.specs.declared.tree.Prefix.{Prefix}
use Rattle.expr_read.specs.declared.tree.Prefix.TheVariants as before
use Rattle.expr_table.specs.declared.entry.FnName.{FnName}
use Rattle.expr_table.specs.declared.entry.FnName.TheVariants as fn

unfoldable pub fn_named : List ℕ → Option FnName
fn_named word =
    if bytes_eq word (codes "isnull") then Some fn.IsNull
    else if bytes_eq word (codes "ifnull") then Some fn.IfNull
    else if bytes_eq word (codes "if") then Some fn.If
    else if bytes_eq word (codes "abs") then Some fn.Abs
    else if bytes_eq word (codes "sign") then Some fn.Sign
    else if bytes_eq word (codes "round") then Some fn.Round
    else if bytes_eq word (codes "least") then Some fn.Least
    else if bytes_eq word (codes "greatest") then Some fn.Greatest
    else if bytes_eq word (codes "length") then Some fn.Length
    else if bytes_eq word (codes "concat") then Some fn.Concat
    else if bytes_eq word (codes "substr") then Some fn.Substr
    else if bytes_eq word (codes "trim") then Some fn.Trim
    else if bytes_eq word (codes "text") then Some fn.Text
    else if bytes_eq word (codes "year") then Some fn.Year
    else if bytes_eq word (codes "month") then Some fn.Month
    else if bytes_eq word (codes "day") then Some fn.Day
    else if bytes_eq word (codes "daynumber") then Some fn.DayNumber
    else if bytes_eq word (codes "adddays") then Some fn.AddDays
    else None

abbrev pub infix_name : Infix → FnName
infix_name sign.Or = fn.Or
infix_name sign.And = fn.And
infix_name sign.Equal = fn.Equal
infix_name sign.NotEqual = fn.NotEqual
infix_name sign.Less = fn.Less
infix_name sign.LessEqual = fn.AtMost
infix_name sign.Greater = fn.Greater
infix_name sign.GreaterEqual = fn.AtLeast
infix_name sign.Plus = fn.Plus
infix_name sign.Minus = fn.Minus
infix_name sign.Times = fn.Times
infix_name sign.Over = fn.Divide
infix_name sign.Rest = fn.Remainder

abbrev pub prefix_name : Prefix → FnName
prefix_name before.Minus = fn.Minus
prefix_name before.Not = fn.Not
