use Rattle.op_any.proofs.ByKind.{made}
use Rattle.op_any.proofs.making.make_operator.Goals as goal

pub returns-in_ok-group_by-in-Group : goal.returns-in_ok-group_by-in-Group
returns-in_ok-group_by-in-Group c =
    let op = c.in_ok-group_by-in-Group.ensures in made c.args.kind.now _ c.args.parts.now c.args.widths.now c.args.outs _ _ _ c.in-Group.is op.stream op.suits op.stands
