use Rattle.flow_shape.proofs.One.{one_shape, shape_or_fault, one_fault}
use Rattle.flow_shape.proofs.answers.one_answer.Goals as goal

pub returns : goal.returns
returns c = record { shape = one_shape; apart = shape_or_fault; fault = one_fault }
