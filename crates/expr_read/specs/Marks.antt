-- What tokens are to an expression, and which signs join the operands of a level.
use Rattle.std.specs.Prelude.{ℕ, List, Bool, true, false, Option, Some, None, if◌then◌else◌, codes}
use Rattle.std.specs.Str.{bytes_eq}
use Rattle.ds_lex.specs.declared.token.Sort.{Sort}
use Rattle.ds_lex.specs.declared.token.Sort.TheVariants as sort
use Rattle.ds_lex.specs.Lexemes.{Lexeme}
use Rattle.expr_read.specs.declared.tree.Infix.{Infix}
use Rattle.expr_read.specs.declared.tree.Infix.TheVariants as sign
use Rattle.expr_read.specs.declared.tree.Prefix.{Prefix}
use Rattle.expr_read.specs.declared.tree.Prefix.TheVariants as before
use Rattle.expr_read.specs.declared.what.What.{What}
use Rattle.expr_read.specs.declared.what.What.TheVariants as what
use Rattle.expr_read.specs.declared.what.Level.{Level}
use Rattle.expr_read.specs.declared.what.Level.TheVariants as level

abbrev pub infix_of : List ℕ → Option Infix
infix_of b =
    if bytes_eq b (codes "||") then Some sign.Or
    else if bytes_eq b (codes "&&") then Some sign.And
    else if bytes_eq b (codes "==") then Some sign.Equal
    else if bytes_eq b (codes "!=") then Some sign.NotEqual
    else if bytes_eq b (codes "<") then Some sign.Less
    else if bytes_eq b (codes "<=") then Some sign.LessEqual
    else if bytes_eq b (codes ">") then Some sign.Greater
    else if bytes_eq b (codes ">=") then Some sign.GreaterEqual
    else if bytes_eq b (codes "+") then Some sign.Plus
    else if bytes_eq b (codes "-") then Some sign.Minus
    else if bytes_eq b (codes "*") then Some sign.Times
    else if bytes_eq b (codes "/") then Some sign.Over
    else if bytes_eq b (codes "%") then Some sign.Rest
    else None

abbrev pub signed_or_other : Option Infix → What
signed_or_other (Some s) = what.Sign s
signed_or_other None = what.Other

abbrev pub mark_of : List ℕ → What
mark_of b =
    if bytes_eq b (codes "(") then what.Open
    else if bytes_eq b (codes ")") then what.Close
    else if bytes_eq b (codes ",") then what.Comma
    else if bytes_eq b (codes "!") then what.Not
    else signed_or_other (infix_of b)

abbrev pub what_by : Sort → List ℕ → What
what_by sort.Number b = what.Number
what_by sort.Quoted b = what.Quoted
what_by sort.Word b = what.Word
what_by sort.Sign b = mark_of b
what_by sort.Opt b = what.Other

abbrev pub what_of : Lexeme → What
what_of t = what_by t.sort t.bytes

abbrev pub joins : Level → Infix → Bool
joins level.Or sign.Or = true
joins level.And sign.And = true
joins level.Compare sign.Equal = true
joins level.Compare sign.NotEqual = true
joins level.Compare sign.Less = true
joins level.Compare sign.LessEqual = true
joins level.Compare sign.Greater = true
joins level.Compare sign.GreaterEqual = true
joins level.Sum sign.Plus = true
joins level.Sum sign.Minus = true
joins level.Product sign.Times = true
joins level.Product sign.Over = true
joins level.Product sign.Rest = true
joins l s = false

-- the sign before an operand
abbrev pub prefix_of : What → Option Prefix
prefix_of what.Not = Some before.Not
prefix_of (what.Sign sign.Minus) = Some before.Minus
prefix_of w = None
