use Rattle.std.proofs.Common.{◌∙◌, sym, ap, subst, [], ◌∷◌, ◌++◌, append_assoc}
use Rattle.streams.specs.Streams.{emits}
use Rattle.op_base.specs.Emits.{Adds}
use Rattle.op_base.specs.Standing.{RowStream, row_feed}
use Rattle.op_base.specs.WholeLists.{row_feeds}
use Rattle.op_base.proofs.ListFeeds.{one_more, suits_row, rows_wanted, adds_more}
use Rattle.op_base.proofs.whole_list.feed_rows.Goals as goal

pub feed-requires : goal.feed-requires
feed-requires g c = record {
  feeds = row_feeds c.loop-row.yielded;
  stands = c.loop-row.invariant.stands;
  wanted = ap (λ (s : RowStream). s.wants (row_feeds c.loop-row.yielded) 0) c.loop-row.invariant.stream ∙ rows_wanted _ (g.met.O.Operator.is_stream c.args.op.now) c.requires.one c.loop-row.yielded;
  suited =
      ap (λ suits. suits (row_feeds c.loop-row.yielded ++ row_feed 0 c.in-Some.row ∷ [])) c.loop-row.invariant.suits
      ∙ suits_row (g.O.Operator.suits c.args.op.now) c.loop-row.yielded c.in-Some.row c.next.new.self.rest.items c.args.rows.items (ap (λ rows. c.loop-row.yielded ++ rows) (sym c.in-Some.ensures.steps.0) ∙ c.loop-row.invariant.rest) c.requires.suits;
}

pub loop-row-preserved : goal.loop-row-preserved
loop-row-preserved g c =
    let more = one_more c.loop-row.yielded c.in-Some.row in
    record {
      stream = c.in_ok-feed.ensures.stream ∙ c.loop-row.invariant.stream;
      suits = c.in_ok-feed.ensures.suits ∙ c.loop-row.invariant.suits;
      stands = subst (g.O.Operator.Stands c.feed.new.self) (sym more) (c.in_ok-feed.ensures.stands (row_feeds c.loop-row.yielded) c.loop-row.invariant.stands);
      emits =
          subst (λ feeds. Adds c.args.emit.now c.feed.new.emit (emits (g.O.Operator.stream c.args.op.now) feeds)) (sym more)
          (adds_more _ _ (row_feeds c.loop-row.yielded) _ _ _ _ c.loop-row.invariant.stream c.loop-row.invariant.emits (c.in_ok-feed.ensures.emits (row_feeds c.loop-row.yielded) c.loop-row.invariant.stands));
      rest = append_assoc c.loop-row.yielded (c.in-Some.row ∷ []) c.next.new.self.rest.items ∙ ap (λ rows. c.loop-row.yielded ++ rows) (sym c.in-Some.ensures.steps.0) ∙ c.loop-row.invariant.rest;
    }
