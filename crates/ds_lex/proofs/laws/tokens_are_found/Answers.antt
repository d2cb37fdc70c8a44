use Rattle.ds_lex.proofs.LexedLaws.{lexed_is, only_lexed}
use Rattle.ds_lex.proofs.laws.tokens_are_found.Goals as goal

pub returns-clause-found : goal.returns-clause-found
returns-clause-found c = lexed_is

pub returns-clause-only : goal.returns-clause-only
returns-clause-only c = only_lexed
