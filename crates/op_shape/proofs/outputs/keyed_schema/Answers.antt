use Rattle.std.proofs.Common.{map, ◌∙◌}
use Rattle.op_shape.proofs.Alike.{group_alike}
use Rattle.op_shape.proofs.outputs.keyed_schema.Goals as goal

pub group_schema-requires-clause-sound : goal.group_schema-requires-clause-sound
group_schema-requires-clause-sound c =
    group_alike c.args.kind.now (map (λ s. s.now) c.args.ins.now) c.as_slice.result.now c.in-Group.key c.in-Group.hash c.as_slice-in-Group.result.now c.in-Group.results c.first.result.now c.in-Group.is c.as_slice.ensures c.as_slice-in-Group.ensures c.first.ensures
    ∙ c.requires.sound

pub group_schema-requires-clause-stand : goal.group_schema-requires-clause-stand
group_schema-requires-clause-stand c = rw c.as_slice-in-Group.ensures (rw c.in-Group.is at c.requires.stand)
