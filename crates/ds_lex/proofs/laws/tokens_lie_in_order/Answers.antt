use Rattle.ds_lex.proofs.LexedLaws.{lexed_lies}
use Rattle.ds_lex.proofs.laws.tokens_lie_in_order.Goals as goal

pub returns : goal.returns
returns c = lexed_lies
