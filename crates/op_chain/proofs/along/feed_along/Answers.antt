use Rattle.std.proofs.Common.{◌∙◌, ap, subst, [], ◌∷◌, ◌++◌, cond}
use Rattle.op_base.specs.Emits.{Adds}
use Rattle.op_base.specs.Standing.{RowStream, end_feed}
use Rattle.op_base.specs.WholeLists.{row_feeds}
use Rattle.streams.specs.Streams.{emits_after}
use Rattle.op_chain.proofs.HandedOn.{wanted_still, suits_append, suits_end, one_added, handed_over}
use Rattle.op_chain.proofs.along.feed_along.Goals as goal

pub feed_rows-requires : goal.feed_rows-requires
feed_rows-requires g c = record {
  before = c.requires.before;
  stands = c.requires.stands;
  one_port = c.requires.one_port;
  runs = c.requires.runs;
  suited = (suits_append (g.O.Operator.suits c.args.op.now) c.requires.before (row_feeds c.args.rows.items) (cond c.args.over (end_feed 0 ∷ []) []) c.requires.suited).0;
}

pub end-requires : goal.end-requires
end-requires g c =
    let before = c.requires.before in
    let rows = c.args.rows.items in
    record {
      feeds = before ++ row_feeds rows;
      stands = c.in_ok-feed_rows.ensures.stands before c.requires.stands;
      wanted = ap (λ (s : RowStream). s.wants (before ++ row_feeds rows) 0) c.in_ok-feed_rows.ensures.stream ∙ wanted_still _ c.requires.one_port before rows c.requires.runs;
      suited =
          ap (λ suits. suits ((before ++ row_feeds rows) ++ end_feed 0 ∷ [])) c.in_ok-feed_rows.ensures.suits
          ∙ suits_end (g.O.Operator.suits c.args.op.now) before rows c.args.over c.if-not-over.false c.requires.suited;
    }

pub returns-clause-emits : goal.returns-clause-emits
returns-clause-emits g c = λ before h.
    let rows = c.args.rows.items in
    subst (λ feeds. Adds c.args.emit.now c.end.new.emit (emits_after (g.O.Operator.stream c.args.op.now) before feeds)) (handed_over rows c.args.over c.if-not-over.false)
    (one_added _ _ before (row_feeds rows) (end_feed 0) _ _ _ c.in_ok-feed_rows.ensures.stream (c.in_ok-feed_rows.ensures.emits before h) (c.in_ok-end.ensures.emits (before ++ row_feeds rows) (c.in_ok-feed_rows.ensures.stands before h)))
