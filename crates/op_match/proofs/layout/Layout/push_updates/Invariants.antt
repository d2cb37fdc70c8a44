use Rattle.std.proofs.Common.{◌≡◌, ◌++◌, drop}
use Rattle.op_base.specs.Meanings.{update_values}
use Rattle.op_match.proofs.layout.Layout.push_updates.Given as goal

abbrev pub invariant-loop-i : goal.invariant-loop-i
invariant-loop-i l = l.values.items ++ update_values (drop l.i l.self.others.items) (drop l.i l.updates) ≡ l.fn.values.items ++ update_values l.self.others.items l.updates
