use Rattle.std.proofs.Common.{◌∙◌, ap, [], ◌∷◌, ◌++◌}
use Rattle.streams.specs.Streams.{all_ended}
use Rattle.op_base.specs.Standing.{RowStream, row_feed}
use Rattle.op_chain.proofs.TakenOut.{apart_adds, apart_rows}
use Rattle.op_chain.proofs.BothStand.{may_follow, both_step, both_emit}
use Rattle.op_chain.proofs.chain.ThenOperator.feed.Goals as goal

pub feed_along-requires : goal.feed_along-requires
feed_along-requires g c =
    let a = g.A.Operator.stream c.args.self.now.first in
    let f = row_feed c.args.port c.args.row in
    let feeds = c.requires.feeds in
    may_follow a (g.B.Operator.stream c.args.self.now.second) (g.A.Operator.suits c.args.self.now.first) (g.B.Operator.suits c.args.self.now.second) (g.A.Operator.Stands c.args.self.now.first) (g.B.Operator.Stands c.args.self.now.second)
    f c.in_ok-rows.rows.items c.is_over-over.result (g.met.A.Operator.is_stream c.args.self.now.first) c.requires
    (apart_rows c.set_aside-before.new.emit c.feed.new.emit c.in_ok-rows.rows.items (a.gives feeds f) c.set_aside-before.ensures.none (c.in_ok-feed.ensures.emits feeds c.requires.stands.first) c.in_ok-rows.ensures.rows)
    (c.is_over-over.ensures (feeds ++ f ∷ []) (c.in_ok-feed.ensures.stands feeds c.requires.stands.first) ∙ ap (λ (s : RowStream). all_ended s (feeds ++ f ∷ [])) c.in_ok-feed.ensures.stream)

pub returns-clause-stands : goal.returns-clause-stands
returns-clause-stands g c = λ feeds h.
    let a = g.A.Operator.stream c.args.self.now.first in
    let f = row_feed c.args.port c.args.row in
    both_step a (g.A.Operator.stream c.feed.new.self) (g.B.Operator.stream c.args.self.now.second) (g.B.Operator.stream c.feed_along.new.op)
    (g.A.Operator.Stands c.args.self.now.first) (g.A.Operator.Stands c.feed.new.self) (g.B.Operator.Stands c.args.self.now.second) (g.B.Operator.Stands c.feed_along.new.op)
    f c.in_ok-rows.rows.items c.is_over-over.result feeds c.in_ok-feed.ensures.stream c.in_ok-feed_along.ensures.stream
    (apart_rows c.set_aside-before.new.emit c.feed.new.emit c.in_ok-rows.rows.items (a.gives feeds f) c.set_aside-before.ensures.none (c.in_ok-feed.ensures.emits feeds h.first) c.in_ok-rows.ensures.rows)
    (c.is_over-over.ensures (feeds ++ f ∷ []) (c.in_ok-feed.ensures.stands feeds h.first) ∙ ap (λ (s : RowStream). all_ended s (feeds ++ f ∷ [])) c.in_ok-feed.ensures.stream)
    (c.in_ok-feed.ensures.stands feeds h.first) c.in_ok-feed_along.ensures.stands h

pub returns-clause-emits : goal.returns-clause-emits
returns-clause-emits g c = λ feeds h.
    let a = g.A.Operator.stream c.args.self.now.first in
    let f = row_feed c.args.port c.args.row in
    both_emit a (g.B.Operator.stream c.args.self.now.second) f c.in_ok-rows.rows.items c.is_over-over.result feeds c.args.emit.now c.take_handed.new.emit c.feed_along.new.emit
    (apart_rows c.set_aside-before.new.emit c.feed.new.emit c.in_ok-rows.rows.items (a.gives feeds f) c.set_aside-before.ensures.none (c.in_ok-feed.ensures.emits feeds h.first) c.in_ok-rows.ensures.rows)
    (c.is_over-over.ensures (feeds ++ f ∷ []) (c.in_ok-feed.ensures.stands feeds h.first) ∙ ap (λ (s : RowStream). all_ended s (feeds ++ f ∷ [])) c.in_ok-feed.ensures.stream)
    (apart_adds c.args.emit.now c.set_aside-before.new.emit c.feed.new.emit c.take_handed.new.emit _ (a.gives feeds f) c.set_aside-before.ensures.rows c.set_aside-before.ensures.none c.set_aside-before.ensures.faults c.set_aside-before.ensures.least
    (c.in_ok-feed.ensures.emits feeds h.first) c.in_ok-rows.ensures.others c.in_ok-rows.ensures.faults c.in_ok-rows.ensures.least)
    (c.in_ok-feed_along.ensures.emits _ h.second)
