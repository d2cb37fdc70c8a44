use Rattle.std.proofs.Common.{◌≡◌, drop, false}
use Rattle.ds_lex.specs.Lexemes.{lexemes}
use Rattle.osh_read.specs.Options.{ends_ahead}
use Rattle.osh_read.proofs.options.ends_ahead.Given as goal

abbrev pub invariant-loop-token : goal.invariant-loop-token
invariant-loop-token l = ends_ahead l.may (lexemes (drop l.token-index l.tokens)) ≡ ends_ahead false (lexemes l.tokens)
