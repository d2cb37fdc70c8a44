use Rattle.std.proofs.Common.{sym, subst, ◌∙◌, refl, List}
use Rattle.streams.specs.Streams.{Out}
use Rattle.op_base.specs.declared.fault.Fault.{Fault}
use Rattle.op_base.specs.Columns.{Row}
use Rattle.op_base.specs.Emits.{Adds}
use Rattle.op_base.specs.Standing.{row_feed}
use Rattle.op_base.proofs.Adding.{Adds-then}
use Rattle.list_run.specs.Fed.{row_feeds}
use Rattle.list_run.proofs.Feeding.{may_feed, feeds-more, emits-more}
use Rattle.list_run.proofs.whole.feed_all.Goals as goal

pub feed-requires : goal.feed-requires
feed-requires g c =
    let kept = c.loop-row.invariant in
    may_feed _ _ _ _ (g.O.Operator.Stands c.loop-row.op) c.loop-row.yielded (row_feed 0 c.in-Some.row) refl kept.stream kept.suits c.requires.one c.requires.suits kept.stands

pub loop-row-preserved : goal.loop-row-preserved
loop-row-preserved g c =
    let kept = c.loop-row.invariant in
    let rows = c.loop-row.yielded in
    let r = c.in-Some.row in
    let done = row_feeds rows in
    record {
      stream = c.in_ok-feed.ensures.stream ∙ kept.stream;
      suits = c.in_ok-feed.ensures.suits ∙ kept.suits;
      stands = subst (g.O.Operator.Stands c.feed.new.self) (sym (feeds-more rows r)) (c.in_ok-feed.ensures.stands done kept.stands);
      emits = subst (λ (outs : List (Out Row Fault)). Adds c.args.emit.now c.feed.new.emit outs) (sym (emits-more (g.O.Operator.stream c.args.op.now) rows r))
          (Adds-then _ _ _ _ _ kept.emits (subst (λ s. Adds c.loop-row.emit c.feed.new.emit (s.gives done (row_feed 0 r))) kept.stream (c.in_ok-feed.ensures.emits done kept.stands)));
    }
