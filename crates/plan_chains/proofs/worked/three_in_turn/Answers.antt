use Rattle.std.proofs.Common.{refl}
use Rattle.plan_chains.proofs.InTurn.{in_turn_can, in_turn_wired}
use Rattle.plan_chains.proofs.worked.three_in_turn.Goals as goal

pub returns-clause-wired : goal.returns-clause-wired
returns-clause-wired c = in_turn_wired

pub returns-clause-can : goal.returns-clause-can
returns-clause-can c = in_turn_can

pub returns-clause-one : goal.returns-clause-one
returns-clause-one c = refl

pub returns-clause-sent : goal.returns-clause-sent
returns-clause-sent c = refl
