use Rattle.std.proofs.Common.{◌≡◌, map}
use Rattle.op_base.specs.declared.emit.Sent.{Sent}
use Rattle.run_collect.proofs.collect.rows_of.Given as goal

abbrev pub invariant-loop-sent : goal.invariant-loop-sent
invariant-loop-sent l = l.rows ≡ map (λ (s : Sent). s.row) l.yielded
