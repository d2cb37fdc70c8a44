use Rattle.flow_derive.proofs.Fills.{link_is}
use Rattle.flow_derive.proofs.states.link_state.Goals as goal

pub returns : goal.returns
returns c = λ states e.
    link_is c.args.shaped.now c.args.link c.in_ok-choice.choice c.into_seq-seq.result c.width_at.result states c.in_ok-output.output c.in_ok-state.state c.in_ok-known.known
    (c.in_ok-output.ensures states e) c.in_ok-choice.ensures c.into_seq-seq.ensures c.in_ok-state.ensures c.width_at.ensures c.in_ok-known.ensures
