use Rattle.std.proofs.Common.{◌≡◌, IfOk, map, subst}
use Rattle.op_shape.proofs.Alike.{group_alike}
use Rattle.op_shape.proofs.options.keyed_cause.Goals as goal

pub returns-in-Group : goal.returns-in-Group
returns-in-Group c =
    subst (λ x. IfOk c.group_cause.result (λ cause. cause ≡ x))
    (group_alike c.args.kind.now (map (λ s. s.now) c.args.ins.now) c.as_slice.result.now c.in-Group.key c.in-Group.hash c.as_slice-in-Group.result.now c.in-Group.results c.first.result.now c.in-Group.is c.as_slice.ensures c.as_slice-in-Group.ensures c.first.ensures)
    c.group_cause.ensures
