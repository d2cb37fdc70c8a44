use Rattle.std.proofs.Common.{◌≡◌, drop}
use Rattle.op_base.specs.Meanings.{are_none}
use Rattle.op_match.proofs.layout.are_none.Given as goal

-- the updates that are left decide
abbrev pub invariant-loop-update : goal.invariant-loop-update
invariant-loop-update l = are_none (drop l.update-index l.updates) ≡ are_none l.updates
