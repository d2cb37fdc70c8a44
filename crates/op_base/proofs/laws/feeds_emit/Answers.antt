use Rattle.op_base.proofs.Feeding.{feed_emits}
use Rattle.op_base.proofs.Feeding.{end_emits}
use Rattle.op_base.proofs.laws.feeds_emit.Goals as goal

pub returns-clause-row : goal.returns-clause-row
returns-clause-row c = λ ds columns rule ended i x inputs h. feed_emits ds columns rule ended i x inputs h

pub returns-clause-end : goal.returns-clause-end
returns-clause-end c = λ ds columns rule ended i inputs. end_emits ds columns rule ended i inputs
