use Rattle.std.proofs.Common.{◌∙◌}
use Rattle.flow_derive.specs.Outlines.{outline_form}
use Rattle.flow_rules.proofs.CodeSteps.{missed_is}
use Rattle.flow_rules.proofs.needs.missed.Goals as goal

pub returns : goal.returns
returns c = λ passes. missed_is (outline_form c.args.outline.now passes) c.args.inputs.now c.args.input c.in_ok-first.first c.in_ok-state.state c.as_slice.result.now c.in_ok-found.found (c.in_ok-first.ensures passes) c.in_ok-state.ensures (c.as_slice.ensures.value ∙ c.in_ok-parts.ensures passes) c.in_ok-found.ensures
