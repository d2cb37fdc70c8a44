use Rattle.std.proofs.Common.{◌∙◌, ap}
use Rattle.streams.specs.Streams.{all_ended}
use Rattle.op_base.specs.Standing.{RowStream}
use Rattle.op_base.specs.WholeLists.{row_feeds, list_feeds}
use Rattle.op_base.proofs.ListFeeds.{suits_end, rows_wanted, list_gives, list_ended, adds_more, fresh_adds}
use Rattle.op_base.proofs.whole_list.run_list.Goals as goal

pub end-requires : goal.end-requires
end-requires g c = record {
  feeds = row_feeds c.args.rows.items;
  stands = c.in_ok-feed_rows.ensures.stands;
  wanted = ap (λ (s : RowStream). s.wants (row_feeds c.args.rows.items) 0) c.in_ok-feed_rows.ensures.stream ∙ rows_wanted _ (g.met.O.Operator.is_stream c.args.op.now) c.requires.one c.args.rows.items;
  suited = ap (λ suits. suits (list_feeds c.args.rows.items)) c.in_ok-feed_rows.ensures.suits ∙ suits_end (g.O.Operator.suits c.args.op.now) c.args.rows.items c.requires.suits;
}

pub finish-requires : goal.finish-requires
finish-requires g c = (
  list_feeds c.args.rows.items,
  c.in_ok-end.ensures.stands (row_feeds c.args.rows.items) c.in_ok-feed_rows.ensures.stands,
  ap (λ (s : RowStream). all_ended s (list_feeds c.args.rows.items)) (c.in_ok-end.ensures.stream ∙ c.in_ok-feed_rows.ensures.stream) ∙ list_ended _ (g.met.O.Operator.is_stream c.args.op.now) c.requires.one c.args.rows.items,
)

pub returns-clause-emitted : goal.returns-clause-emitted
returns-clause-emitted g c =
    fresh_adds c.new-emit.result _ _ _ c.new-emit.ensures
    (adds_more _ _ (row_feeds c.args.rows.items) _ _ _ _ c.in_ok-feed_rows.ensures.stream c.in_ok-feed_rows.ensures.emits (c.in_ok-end.ensures.emits (row_feeds c.args.rows.items) c.in_ok-feed_rows.ensures.stands))
    c.in_ok-finish.ensures.emits

pub returns-clause-gives : goal.returns-clause-gives
returns-clause-gives g c = list_gives _ (g.met.O.Operator.is_stream c.args.op.now) c.requires.one c.args.rows.items
