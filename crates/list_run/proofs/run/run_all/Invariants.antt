use Rattle.list_run.specs.Turns.{Stands}
use Rattle.list_run.proofs.run.run_all.Given as goal

abbrev pub invariant-loop-op : goal.invariant-loop-op
invariant-loop-op l = Stands l.shaped l.nodes l.fn.sources.items l.op-index l.sources.items l.held
