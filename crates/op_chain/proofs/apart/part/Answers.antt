use Rattle.std.proofs.Common.{◌∙◌, sym, ap, [], ◌∷◌, ◌++◌, append_assoc}
use Rattle.op_chain.specs.InTurn.{elsewhere}
use Rattle.op_chain.proofs.TakenOut.{handed_here, handed_past, elsewhere_here, elsewhere_past}
use Rattle.op_chain.proofs.apart.part.Goals as goal

pub loop-it-preserved-in-Continue-1 : goal.loop-it-preserved-in-Continue-1
loop-it-preserved-in-Continue-1 c =
    let done = c.loop-it.yielded in
    let it = c.in-Some.it in
    record {
      rows = c.in_ok-push.ensures.items ∙ ap (λ rows. rows ++ it.row ∷ []) c.loop-it.invariant.rows ∙ sym (handed_here done it c.if-it-eq0.true);
      others = c.loop-it.invariant.others ∙ ap (λ sent. c.args.before.now ++ sent) (sym (elsewhere_here done it c.if-it-eq0.true));
      rest = append_assoc done (it ∷ []) c.next.new.self.rest.items ∙ ap (λ sent. done ++ sent) (sym c.in-Some.ensures.steps.0) ∙ c.loop-it.invariant.rest;
    }

pub loop-it-preserved : goal.loop-it-preserved
loop-it-preserved c =
    let done = c.loop-it.yielded in
    let it = c.in-Some.it in
    record {
      rows = c.loop-it.invariant.rows ∙ sym (handed_past done it c.if-it-eq0.false);
      others =
          c.in_ok-push-2.ensures.ok ∙ ap (λ sent. sent ++ it ∷ []) c.loop-it.invariant.others ∙ append_assoc c.args.before.now (elsewhere done) (it ∷ [])
          ∙ ap (λ sent. c.args.before.now ++ sent) (sym (elsewhere_past done it c.if-it-eq0.false));
      rest = append_assoc done (it ∷ []) c.next.new.self.rest.items ∙ ap (λ sent. done ++ sent) (sym c.in-Some.ensures.steps.0) ∙ c.loop-it.invariant.rest;
    }
