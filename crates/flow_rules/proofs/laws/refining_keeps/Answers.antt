use Rattle.flow_rules.proofs.Refined.{refined_holds}
use Rattle.flow_rules.proofs.Refined.{regain_holds}
use Rattle.flow_rules.proofs.laws.refining_keeps.Goals as goal

pub returns-clause-regain : goal.returns-clause-regain
returns-clause-regain c = regain_holds

pub returns-clause-both : goal.returns-clause-both
returns-clause-both c = refined_holds
