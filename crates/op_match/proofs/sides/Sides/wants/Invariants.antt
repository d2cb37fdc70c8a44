use Rattle.std.proofs.Common.{◌≡◌, drop}
use Rattle.op_match.specs.Rounds.{wanted_from}
use Rattle.op_match.proofs.sides.Sides.wants.Given as goal

-- the sides that are left decide
abbrev pub invariant-loop-port : goal.invariant-loop-port
invariant-loop-port l = wanted_from l.port (drop l.port l.self.list.items) ≡ wanted_from 0 l.self.list.items
