use Rattle.std.proofs.Common.{subst, ◌∙◌, refl, ◌∷◌, [], ◌++◌}
use Rattle.streams.specs.Streams.{emits}
use Rattle.op_base.specs.Emits.{Adds}
use Rattle.op_base.specs.Standing.{end_feed}
use Rattle.list_run.specs.Fed.{row_feeds}
use Rattle.list_run.proofs.Feeding.{may_feed, ended_all, gives_all, emitted}
use Rattle.list_run.proofs.whole.run_whole.Goals as goal

pub end-requires : goal.end-requires
end-requires g c = may_feed _ _ _ _ (g.O.Operator.Stands c.feed_all.new.op) c.args.rows (end_feed 0) refl c.in_ok-feed_all.ensures.stream c.in_ok-feed_all.ensures.suits c.requires.one c.requires.suits c.in_ok-feed_all.ensures.stands

pub finish-requires : goal.finish-requires
finish-requires g c = (
  row_feeds c.args.rows ++ end_feed 0 ∷ [],
  c.in_ok-end.ensures.stands (row_feeds c.args.rows) c.in_ok-feed_all.ensures.stands,
  ended_all _ (g.O.Operator.stream c.args.op) c.args.rows (c.in_ok-end.ensures.stream ∙ c.in_ok-feed_all.ensures.stream) c.requires.one,
)

pub returns : goal.returns
returns g c =
    let rows = c.args.rows in
    let stream = g.O.Operator.stream c.args.op in
    let last = subst (λ s. Adds c.feed_all.new.emit c.end.new.emit (s.gives (row_feeds rows) (end_feed 0))) c.in_ok-feed_all.ensures.stream (c.in_ok-end.ensures.emits (row_feeds rows) c.in_ok-feed_all.ensures.stands) in (
      emits stream (row_feeds rows) ++ stream.gives (row_feeds rows) (end_feed 0),
      gives_all stream c.requires.one rows,
      c.in_ok-given.ensures ∙ emitted _ _ _ _ _ _ c.new-emit.ensures c.in_ok-feed_all.ensures.emits last c.in_ok-finish.ensures.emits,
    )
