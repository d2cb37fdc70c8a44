use Rattle.std.proofs.Common.{◌≡◌, drop}
use Rattle.ds_lex.specs.Lexemes.{lexeme, lexemes}
use Rattle.osh_value.specs.Values.{last_of}
use Rattle.osh_value.proofs.expression.last_of.Given as goal

abbrev pub invariant-loop-token : goal.invariant-loop-token
invariant-loop-token l = last_of (lexeme l.last) (lexemes (drop l.token-index l.more)) ≡ last_of (lexeme l.fn.first) (lexemes l.more)
