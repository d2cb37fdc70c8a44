use Rattle.std.proofs.Common.{List, Bool, Some, None, false, get_or, subst}
use Rattle.op_collect.specs.Standing.{IsFirst}
use Rattle.op_collect.proofs.Standing.{gather_wants, gather_done}
use Rattle.op_collect.proofs.any_order.GatherOperator.wants.Goals as goal

pub returns-in-Some : goal.returns-in-Some
returns-in-Some c = λ feeds stands.
    let self = c.args.self.now in
    gather_wants self.ports self.over.items self.each c.in-Some.field-0 (subst (λ (l : List Bool). IsFirst (λ i. get_or l i false) 0 self.ports (Some c.in-Some.field-0)) c.as_slice.ensures.value c.in-Some.ensures) feeds stands

pub returns-in-None : goal.returns-in-None
returns-in-None c = λ feeds stands.
    let self = c.args.self.now in
    gather_done self.ports self.over.items self.each (subst (λ (l : List Bool). IsFirst (λ i. get_or l i false) 0 self.ports None) c.as_slice.ensures.value c.in-None.ensures) feeds stands
