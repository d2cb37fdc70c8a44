use Rattle.std.proofs.Common.{◌≡◌}
use Rattle.op_match.specs.Capturing.{capture_rule}
use Rattle.op_match.specs.Rounds.{row_count, TakesOff}
use Rattle.op_match.proofs.captures.Capture.settle.Given as goal

abbrev pub invariant-loop-runs : goal.invariant-loop-runs
invariant-loop-runs l = record {
  taken : TakesOff (capture_rule l.fn.self) l.fn.self.sides.list.items l.self.sides.list.items l.fn.emit l.emit;
  changes : l.self.changes ≡ l.fn.self.changes;
}

abbrev pub decreases-loop-runs : goal.decreases-loop-runs
decreases-loop-runs l = row_count l.self.sides.list.items
