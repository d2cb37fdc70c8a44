-- What ties the reading of expressions to their grammar.
use Rattle.std.specs.Prelude.{◌≡◌, ℕ, List, Ok, Err}
use Rattle.expr_read.specs.declared.tree.Expr.{Expr}
use Rattle.expr_read.specs.Reading.{expr_of}
use Rattle.expr_read.specs.Grammar.{IsSpelled}

-- what is read is spelled
abbrev pub ReadIsSpelled : Type 0
ReadIsSpelled = (bytes : List ℕ) (e : Expr) → expr_of bytes ≡ Ok e → IsSpelled bytes e

-- and what is spelled is read
abbrev pub SpelledIsRead : Type 0
SpelledIsRead = (bytes : List ℕ) (e : Expr) → IsSpelled bytes e → expr_of bytes ≡ Ok e

-- a text that is refused spells no expression
abbrev pub RefusedIsNone : Type 0
RefusedIsNone = (bytes : List ℕ) (at : ℕ) (e : Expr) → expr_of bytes ≡ Err at → IsSpelled bytes e → ⊥

-- a text spells one expression at most
abbrev pub OneIsSpelled : Type 0
OneIsSpelled = (bytes : List ℕ) (e other : Expr) → IsSpelled bytes e → IsSpelled bytes other → e ≡ other
