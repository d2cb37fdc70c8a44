use Rattle.std.proofs.Common.{sym, ◌∙◌}
use Rattle.ds_expr.proofs.Sound.{args_sound, args_step}
use Rattle.ds_expr.proofs.Trees.{chain_answers}
use Rattle.ds_expr.proofs.checking.+typing.Goals as goal

pub args-loop-expr-preserved : goal.args-loop-expr-preserved
args-loop-expr-preserved t c = record {
  rest = sym (args_step _ _ _ c.expr-item.result _ _ _ c.loop-expr-test.true c.expr-item.is c.in-Ok.ensures.answers c.in_ok-found.ensures) ∙ c.loop-expr.invariant.rest;
  sound = args_sound _ _ _ _ c.loop-expr.invariant.sound c.in-Ok.ensures.sound c.in_ok-found.ensures;
}

pub node-returns-in_ok-first-in-Chain-clause-answers : goal.node-returns-in_ok-first-in-Chain-clause-answers
node-returns-in_ok-first-in-Chain-clause-answers t c = chain_answers _ _ _ _ _ _ _ c.chained.result c.in-Chain.is c.get-in-Chain.ensures c.as_slice-in-Chain.ensures c.in_ok-first-in-Chain.ensures.answers c.chained.ensures.answers
