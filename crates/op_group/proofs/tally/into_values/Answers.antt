use Rattle.std.proofs.Common.{◌≡◌, List, [], ◌∷◌, ◌++◌, cond, Some, None, sym, subst}
use Rattle.ds_value.specs.declared.value.Value.{Value}
use Rattle.op_group.specs.Kept.{kept_results}
use Rattle.op_group.proofs.TallyLaws.{results_more, results_none}
use Rattle.op_group.proofs.tally.into_values.Goals as goal

pub loop-kept-preserved-in-Continue-branch-2 : goal.loop-kept-preserved-in-Continue-branch-2
loop-kept-preserved-in-Continue-branch-2 c =
    let P : List Value → Type 0 = λ vs. kept_results c.args.count (c.loop-kept.yielded ++ c.in-Some.kept ∷ []) ≡ cond c.loop-kept.fits (Some vs) None in
    subst P (sym c.in_ok-push-in-Some-into_value.ensures.items) (results_more c.args.count c.loop-kept.yielded c.in-Some.kept c.loop-kept.values.items c.loop-kept.fits c.in-Some-into_value.value c.loop-kept.invariant (sym c.in-Some-into_value.ensures))

pub loop-kept-preserved : goal.loop-kept-preserved
loop-kept-preserved c = results_none c.args.count c.loop-kept.yielded c.in-Some.kept (sym c.in-None-into_value.ensures)
