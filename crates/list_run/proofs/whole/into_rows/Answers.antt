use Rattle.std.proofs.Common.{ap, sym, ◌∙◌, ◌∷◌, [], ◌++◌}
use Rattle.list_run.proofs.Feeding.{sent-more}
use Rattle.list_run.proofs.whole.into_rows.Goals as goal

pub loop-one-preserved : goal.loop-one-preserved
loop-one-preserved c = c.in_ok-push.ensures.ok ∙ ap (λ t. t ++ c.in-Some.one.row ∷ []) c.loop-one.invariant ∙ sym (sent-more c.loop-one.yielded c.in-Some.one)
