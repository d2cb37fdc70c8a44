use Rattle.std.proofs.Common.{◌∙◌, arith}
use Rattle.std.proofs.lemmas.List.Sums.{sum_by_push}
use Rattle.run_feed.specs.Inputs.{faults_of, one_if_some}
use Rattle.run_feed.proofs.Settling.{cause_more}
use Rattle.run_feed.proofs.inputs.settle_inputs.Goals as goal

pub loop-input-preserved : goal.loop-input-preserved
loop-input-preserved g c =
    let settled = c.settle_input.ensures in
    record {
      same = settled.same ∙ c.loop-input.invariant.same;
      lent = omega (arith, settled.lent, c.loop-input.invariant.lent, sum_by_push one_if_some c.loop-input.yielded c.in-Some.input);
      returned = cause_more _ _ _ _ _ _ c.loop-input.invariant.returned settled.returned (sum_by_push (faults_of g.F.Input.Source.faults) c.loop-input.yielded c.in-Some.input);
    }
