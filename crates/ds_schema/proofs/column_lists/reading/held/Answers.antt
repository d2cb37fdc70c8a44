use Rattle.ds_lex.specs.Lexemes.{lexeme}
use Rattle.ds_schema.proofs.NamedLists.{held_some, held_none}
use Rattle.ds_schema.proofs.column_lists.reading.held.Goals as goal

pub returns-in-Ok-Some : goal.returns-in-Ok-Some
returns-in-Ok-Some g c = held_some c.args.why (lexeme c.args.word) _ (rw c.in-Ok-Some.field-0-is at c.in-Ok-Some.ensures)

pub returns-in-Ok-None : goal.returns-in-Ok-None
returns-in-Ok-None g c = rw c.refuse.ensures (held_none c.args.why (lexeme c.args.word) (rw c.in-Ok-None.field-0-is at c.in-Ok-None.ensures))
