use Rattle.op_match.specs.Waiting.{CutTo}
use Rattle.op_match.proofs.Taking.{TakenOf}
use Rattle.op_match.proofs.sides.Sides.take_runs.Given as goal

abbrev pub invariant-loop-side : goal.invariant-loop-side
invariant-loop-side l = record {
  cut : CutTo l.key l.side-index l.fn.self.list.items l.side-items;
  taken : TakenOf l.key l.fn.self.list.items l.side-index l.runs.items;
}
