-- A text spells one expression, or has one first place from which no expression goes on.
use Rattle.std.specs.Prelude.{◌≡◌, ℕ, List}
use Rattle.expr_read.specs.declared.tree.Expr.{Expr}
use Rattle.expr_read.specs.Grammar.{IsSpelled}
use Rattle.expr_read.specs.First.{IsFirstFault}

-- a text with such a place spells no expression
abbrev pub FaultyIsNone : Type 0
FaultyIsNone = (bytes : List ℕ) (at : ℕ) (e : Expr) → IsFirstFault bytes at → IsSpelled bytes e → ⊥

-- and has no other
abbrev pub OneFirstFault : Type 0
OneFirstFault = (bytes : List ℕ) (at place : ℕ) → IsFirstFault bytes at → IsFirstFault bytes place → at ≡ place
