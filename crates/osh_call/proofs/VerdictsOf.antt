-- What a verdict says of its flow.
use Rattle.std.proofs.Common.{Bool}
use Rattle.flow_graph.specs.Charts.{Chart}
use Rattle.flow_rules.specs.declared.verdict.Verdict.{Verdict}
use Rattle.flow_rules.specs.declared.verdict.Verdict.TheVariants.{Accepted, Refused}
use Rattle.flow_rules.specs.Verdicts.{IsVerdictBy}
use Rattle.flow_score.specs.VerdictText.{IsOf}

pub is_of : (regains : Bool) (c : Chart) (v : Verdict) → IsVerdictBy regains c v → IsOf c v
is_of regains c (Accepted states choices) h = h.states_are.each
is_of regains c (Refused link need have) h = h.in_range
