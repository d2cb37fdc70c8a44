use Rattle.ds_lex.specs.Lexemes.{lexeme}
use Rattle.config_read.proofs.Names.{named0_some, named0_none}
use Rattle.config_read.proofs.quoted.named0.Goals as goal

pub returns-in-Ok-Some : goal.returns-in-Ok-Some
returns-in-Ok-Some c = named0_some (lexeme c.args.token) _ (rw c.content.ensures at (rw c.in-Ok-Some.field-0-is at c.in-Ok-Some.ensures))

pub returns-in-Ok-None : goal.returns-in-Ok-None
returns-in-Ok-None c = rw c.refuse.ensures (named0_none (lexeme c.args.token) (rw c.content.ensures at (rw c.in-Ok-None.field-0-is at c.in-Ok-None.ensures)))
