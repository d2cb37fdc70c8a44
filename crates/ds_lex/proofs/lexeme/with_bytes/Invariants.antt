use Rattle.std.proofs.Common.{◌≡◌, take, map}
use Rattle.ds_lex.specs.Lexemes.{lexemes, lexeme_of}
use Rattle.ds_lex.proofs.lexeme.with_bytes.Given as goal

abbrev pub invariant-loop-token : goal.invariant-loop-token
invariant-loop-token l = lexemes l.found.items ≡ map (lexeme_of l.text) (take l.token-index l.tokens)
