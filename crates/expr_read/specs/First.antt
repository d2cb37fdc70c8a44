-- The first place from which no expression goes on: that of the first token with which none does, or the end of the tokens.
use Rattle.std.specs.Prelude.{◌≡◌, ◌⊎◌, ℕ, List, [], ◌∷◌, ◌++◌, length, None}
use Rattle.ds_lex.specs.declared.token.Mode.TheVariants.{Inner}
use Rattle.ds_lex.specs.Lexemes.{Lexeme, LexedText, lexed_text}
use Rattle.expr_read.specs.declared.fault.ExprFault.{ExprFault}
use Rattle.expr_read.specs.declared.fault.ExprFault.TheVariants as fault
use Rattle.expr_read.specs.declared.tree.Expr.{Expr}
use Rattle.expr_read.specs.Reading.{end_place}
use Rattle.expr_read.specs.Grammar.{or_form, unary_form}

-- the tokens, all of them, are an expression
abbrev pub Spells : List Lexeme → Expr → Type 0
Spells ts e = or_form (unary_form 64) e ts []

-- some expression begins with these tokens
pub record Begins (ts : List Lexeme) : Type 0 where
  pub more : List Lexeme
  pub expr : Expr
  pub spelled : Spells (ts ++ more) expr

-- a token with which no expression goes on
pub record StopsAt (ts : List Lexeme) (at : ℕ) : Type 0 where
  pub before : List Lexeme
  pub token : Lexeme
  pub behind : List Lexeme
  pub tokens : ts ≡ before ++ token ∷ behind
  pub begun : Begins before
  pub stuck : Begins (before ++ token ∷ []) → ⊥
  pub place : at ≡ token.at

-- An expression begins with all the tokens, and breaks off behind them: where no token begins, or else at the end of a text
-- that is no whole expression.
pub record BreaksOff (text : LexedText) (len at : ℕ) : Type 0 where
  pub begun : Begins text.lexemes
  pub unfinished : text.bad ≡ None → (e : Expr) → Spells text.lexemes e → ⊥
  pub place : at ≡ end_place text.bad len

abbrev pub IsFirst : LexedText → ℕ → ℕ → Type 0
IsFirst text len at = StopsAt text.lexemes at ⊎ BreaksOff text len at

abbrev pub IsFirstFault : List ℕ → ℕ → Type 0
IsFirstFault bytes at = IsFirst (lexed_text Inner bytes) (length bytes) at

-- a refusal is at the first place from which no expression goes on
abbrev pub Refuses : ExprFault → List ℕ → Type 0
Refuses (fault.Syntax at) bytes = IsFirstFault bytes at
Refuses fault.Memory bytes = Unit {0}
