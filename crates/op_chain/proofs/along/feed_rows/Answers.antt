use Rattle.std.proofs.Common.{◌∙◌, sym, ap, subst, [], ◌∷◌, ◌++◌, append_assoc, append-nil, refl}
use Rattle.op_base.specs.Standing.{RowStream, row_feed}
use Rattle.op_base.specs.WholeLists.{row_feeds}
use Rattle.op_base.proofs.Adding.{Adds-none}
use Rattle.op_chain.proofs.HandedOn.{wanted_still, suits_row, step_feeds, row_added}
use Rattle.op_chain.proofs.along.feed_rows.Goals as goal

pub loop-row-init : goal.loop-row-init
loop-row-init g c = record {
  stream = refl;
  suits = refl;
  stands = λ before h. subst (g.O.Operator.Stands c.args.op.now) (sym (append-nil before)) h;
  emits = λ before h. Adds-none c.args.emit.now;
  rest = c.into_iter-row-iterator.ensures.into_iter_gives.0;
}

pub feed-requires : goal.feed-requires
feed-requires g c =
    let before = c.requires.before in
    record {
      feeds = before ++ row_feeds c.loop-row.yielded;
      stands = c.loop-row.invariant.stands before c.requires.stands;
      wanted = ap (λ (s : RowStream). s.wants (before ++ row_feeds c.loop-row.yielded) 0) c.loop-row.invariant.stream ∙ wanted_still _ c.requires.one_port before c.loop-row.yielded c.requires.runs;
      suited =
          ap (λ suits. suits ((before ++ row_feeds c.loop-row.yielded) ++ row_feed 0 c.in-Some.row ∷ [])) c.loop-row.invariant.suits
          ∙ suits_row (g.O.Operator.suits c.args.op.now) before c.loop-row.yielded c.next.new.self.rest.items c.args.rows.items c.in-Some.row (ap (λ rows. c.loop-row.yielded ++ rows) (sym c.in-Some.ensures.steps.0) ∙ c.loop-row.invariant.rest) c.requires.suited;
    }

pub loop-row-preserved : goal.loop-row-preserved
loop-row-preserved g c =
    let done = c.loop-row.yielded in
    record {
      stream = c.in_ok-feed.ensures.stream ∙ c.loop-row.invariant.stream;
      suits = c.in_ok-feed.ensures.suits ∙ c.loop-row.invariant.suits;
      stands = λ before h. subst (g.O.Operator.Stands c.feed.new.self) (step_feeds before done c.in-Some.row) (c.in_ok-feed.ensures.stands (before ++ row_feeds done) (c.loop-row.invariant.stands before h));
      emits = λ before h. row_added _ _ before done c.in-Some.row _ _ _ c.loop-row.invariant.stream (c.loop-row.invariant.emits before h) (c.in_ok-feed.ensures.emits (before ++ row_feeds done) (c.loop-row.invariant.stands before h));
      rest = append_assoc done (c.in-Some.row ∷ []) c.next.new.self.rest.items ∙ ap (λ rows. done ++ rows) (sym c.in-Some.ensures.steps.0) ∙ c.loop-row.invariant.rest;
    }
