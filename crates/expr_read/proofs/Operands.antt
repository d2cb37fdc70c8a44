-- A unary expression by what it begins with.
use Rattle.std.proofs.Common.{◌≡◌, ℕ, zero, suc, List, refl}
use Rattle.ds_lex.specs.Lexemes.{Lexeme}
use Rattle.expr_read.specs.Reading.{unary_at, unary_from, signed_at, bracket_at, inner_at}

pub unary_is : (n : ℕ) (ts : List Lexeme) → unary_at n ts ≡ unary_from (signed_at n) (bracket_at n) (inner_at n) ts
unfolding unary_at signed_at bracket_at inner_at
unary_is zero ts = refl
unary_is (suc n) ts = refl
