use Rattle.std.proofs.Common.{◌≡◌, drop, filter, not}
use Rattle.flow_rules.specs.Needs.{meets}
use Rattle.flow_rules.proofs.needs.first_missed.Given as goal

abbrev pub invariant-loop-part : goal.invariant-loop-part
invariant-loop-part l = filter (λ part. not (meets l.first l.state part)) l.parts ≡ filter (λ part. not (meets l.first l.state part)) (drop l.part-index l.parts)
