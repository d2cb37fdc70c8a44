use Rattle.std.proofs.Common.{◌≡◌, IfOk, map, subst}
use Rattle.op_shape.proofs.Alike.{modify_alike}
use Rattle.op_shape.proofs.options.own_cause.Goals as goal

pub returns-in-Modify : goal.returns-in-Modify
returns-in-Modify c =
    subst (λ x. IfOk c.modify_cause.result (λ cause. cause ≡ x))
    (modify_alike c.args.kind.now (map (λ s. s.now) c.args.ins.now) c.as_slice-in-Modify.result.now c.in-Modify.keep c.as_slice-in-Modify-2.result.now c.in-Modify.drop c.as_slice-in-Modify-3.result.now c.in-Modify.rename c.first-in-Modify.result.now c.in-Modify.is c.as_slice-in-Modify.ensures c.as_slice-in-Modify-2.ensures c.as_slice-in-Modify-3.ensures c.first-in-Modify.ensures)
    c.modify_cause.ensures
