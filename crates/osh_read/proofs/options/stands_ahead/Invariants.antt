use Rattle.std.proofs.Common.{◌≡◌, drop, false}
use Rattle.ds_lex.specs.Lexemes.{lexemes}
use Rattle.osh_read.specs.Options.{stands_ahead}
use Rattle.osh_read.proofs.options.stands_ahead.Given as goal

abbrev pub invariant-loop-token : goal.invariant-loop-token
invariant-loop-token l = stands_ahead l.may l.word (lexemes (drop l.token-index l.tokens)) ≡ stands_ahead false l.word (lexemes l.tokens)
