use Rattle.std.proofs.Common.{◌∙◌, ap, map}
use Rattle.flow_derive.specs.Outlines.{passes_at}
use Rattle.flow_derive.specs.LinkStates.{state_at}
use Rattle.flow_rules.proofs.Refusals.{need_part_is}
use Rattle.flow_rules.proofs.checker.missed_behind.Goals as goal

pub returns : goal.returns
returns c =
    need_part_is c.args.shaped.now c.args.states.now c.args.link c.link_at-spec.result.now c.in_ok-outline.outline c.as_slice-2.result.now c.in_ok-need.need c.in_ok-state.state c.first_with.result
    c.link_at-spec.ensures c.in_ok-outline.ensures
    (c.as_slice-2.ensures.value ∙ c.in_ok-inputs.ensures ∙ ap (map (state_at c.args.states.now)) (c.as_slice.ensures.value ∙ c.in_ok-ins.ensures))
    (c.in_ok-need.ensures (passes_at c.args.shaped.now c.link_at-spec.result.now.to)) c.in_ok-state.ensures c.first_with.ensures
