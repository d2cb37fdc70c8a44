use Rattle.std.proofs.Common.{◌≡◌, ◌∷◌, ◌∙◌, [], None, IsTrue, ap, subst, arith, length, length-append}
use Rattle.std.proofs.lemmas.List.Sums.{sum_by_push}
use Rattle.flow_graph.specs.Charts.{no_op}
use Rattle.osh_ends.specs.FlowFiles.{missing_of}
use Rattle.run_feed.specs.Inputs.{IsInput, all_faults, faults_of, number_of, one_if_some}
use Rattle.run_feed.proofs.Settling.{at_any, inputs_more, next_missing}
use Rattle.run_feed.proofs.finding.find_each.Goals as goal

pub loop-op-preserved : goal.loop-op-preserved
loop-op-preserved g c =
    let tells = IsTrue g.F.Files.tells in
    let rest = g.F.Input.Source.rest in
    let faults = g.F.Input.Source.faults in
    let old = g.F.Files.holds c.args.files.now in
    let ops = c.args.ops.now in
    let i = c.loop-op.op-index in
    let op = c.op-item.result in
    let was = c.loop-op.invariant in
    let found = c.in_ok-input.ensures in
    let input = c.in_ok-input.input in
    let before = c.loop-op.inputs.by_operator.items in
    let put = c.in_ok-put_input.ensures in
    let is = at_any ops i op no_op c.loop-op-test.true c.op-item.is in
    record {
      count = ap length put.ok ∙ omega (arith, length-append before (input ∷ []), was.count);
      each = inputs_more tells rest old ops before _ i input was.count put.ok was.each (subst (λ s. IsInput tells rest old s.kind input) is (subst (λ m. IsInput tells rest m op.kind input) was.same found.input));
      fresh = ap (all_faults faults) put.ok ∙ sum_by_push (faults_of faults) before input ∙ omega (arith, was.fresh, found.fresh);
      left = λ t. was.left t ∙ next_missing old ops i op None c.loop-op-test.true c.op-item.is (subst (λ m. missing_of m op.kind ≡ None) was.same (found.there t));
      same = c.put_input.ensures.same ∙ c.find_input.ensures.same ∙ was.same;
      lent = put.kept ∙ found.lent ∙ omega (arith, was.lent, ap number_of put.ok, sum_by_push one_if_some before input);
      later = omega (arith, was.later, c.find_input.ensures.cause.later, c.put_input.ensures.later);
    }
