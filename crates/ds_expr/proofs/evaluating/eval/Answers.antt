use Rattle.ds_expr.proofs.Evals.{eval_fits}
use Rattle.ds_expr.proofs.evaluating.eval.Goals as goal

pub returns-clause-fits : goal.returns-clause-fits
returns-clause-fits c = eval_fits _ c.schema.result.now _ c.args.typed.now.node c.node.result.now _ _ c.schema.ensures c.as_slice.ensures.schema c.requires c.node.ensures.node c.node.ensures.typed c.node-2.ensures
