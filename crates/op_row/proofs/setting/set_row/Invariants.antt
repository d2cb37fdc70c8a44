use Rattle.std.proofs.Common.{◌≡◌}
use Rattle.op_row.specs.Expressed.{targets}
use Rattle.op_row.specs.Setting.{put_all}
use Rattle.op_row.proofs.setting.set_row.Given as goal

abbrev pub invariant-loop-set : goal.invariant-loop-set
invariant-loop-set l = put_all (targets l.set-iterator.a.rest.now) l.set-iterator.b.rest.items l.cells.items ≡ put_all (targets l.fn.sets) l.fn.values l.fn.row
