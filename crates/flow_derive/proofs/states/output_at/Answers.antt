use Rattle.flow_derive.proofs.Fills.{output_is}
use Rattle.flow_derive.proofs.states.output_at.Goals as goal

pub returns : goal.returns
returns c = λ states e.
    output_is c.args.shaped.now c.args.link c.link_at-spec.result.now c.in_ok-outline.outline c.kind_at-kind.result.now c.columns_at-columns.result.now c.in_ok-width.width c.width_at.result c.args.inputs.now c.in_ok-state.state c.in_ok-known.known
    c.link_at-spec.ensures c.in_ok-outline.ensures c.kind_at-kind.ensures c.columns_at-columns.ensures c.in_ok-width.ensures c.in_ok-state.ensures c.width_at.ensures c.in_ok-known.ensures states e
