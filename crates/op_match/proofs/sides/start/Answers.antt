use Rattle.std.proofs.Common.{sym, subst}
use Rattle.op_match.specs.Waiting.{HaveSameWays}
use Rattle.op_match.proofs.Standing.{fresh_stands}
use Rattle.op_match.proofs.sides.start.Goals as goal

pub returns-clause-stands : goal.returns-clause-stands
returns-clause-stands c = fresh_stands c.in_ok-start_each.field-0.items c.in_ok-start_each.ensures.fresh (subst HaveSameWays (sym c.in_ok-start_each.ensures.keys) c.requires.same_ways)
