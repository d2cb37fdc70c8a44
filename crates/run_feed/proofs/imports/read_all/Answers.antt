use Rattle.std.proofs.Common.{◌≡◌, ◌≢◌, ◌<◌, ◌∙◌, ◌∷◌, [], None, IsTrue, ap, sym, subst, refl, rules, arith, get_or, length, length-append, ◌+◌, List}
use Rattle.std.proofs.lemmas.List.{get_or-set_other}
use Rattle.flow_graph.specs.Charts.{no_op}
use Rattle.flow_graph.specs.declared.flow.Flow.{Flow}
use Rattle.flow_graph.specs.declared.flow.OpSpec.{OpSpec}
use Rattle.run_feed.specs.Inputs.{IsInput}
use Rattle.run_feed.specs.Sources.{AllSuit, ReadTo, ReadsFile, RowsSuit}
use Rattle.run_feed.proofs.Reading.{both_subst, none_read, read_more, suits_more}
use Rattle.run_feed.proofs.Settling.{at_any, same_number}
use Rattle.run_feed.proofs.imports.read_all.Goals as goal

pub loop-op-init : goal.loop-op-init
loop-op-init g c = record {
  told = λ tells files are. none_read files c.args.shaped.now c.new-rows.result c.new-rejected.result c.args.tally.now;
  fit = λ o h. absurd (omega arith);
  count = ap length c.new-rows.ensures;
  also = ap length c.new-rejected.ensures;
  inputs = c.requires.count;
  ahead = λ o h. refl;
  kept = refl;
}

pub loop-op-preserved : goal.loop-op-preserved
loop-op-preserved g c =
    let chart = c.args.shaped.now in
    let ops = chart.flow.ops in
    let i = c.loop-op.op in
    let was = c.loop-op.invariant in
    let listed = c.as_slice-spec-items.ensures ∙ ap (λ (f : Flow). f.ops) c.flow.ensures in
    let within : i < length ops = subst (λ (xs : List OpSpec). i < length xs) listed c.loop-op-test.true in
    let item = at_any ops i c.spec-item.result no_op within (subst (λ (xs : List OpSpec). c.spec-item.result ≡ get_or xs i c.spec-item.result) listed c.spec-item.is) in
    let kinds = ap (λ (s : OpSpec). s.kind) item in
    let read = c.in_ok-read.read in
    let pushed = c.in_ok-push.ensures.ok in
    let also = c.in_ok-push-2.ensures.ok in
    let inputs = c.loop-op.inputs.by_operator.items in
    let there : i < length inputs = omega (arith, within, was.inputs) in
    let input = c.index_mut-input.result.now in
    let new = c.read_operator.new.input in
    let slot = at_any inputs i input None there c.index_mut-input.ensures.value ∙ was.ahead i (omega arith) in
    record {
      told = λ tells files are. both_subst (λ rs bs. ReadTo files chart (i + 1) rs bs c.args.tally.now c.read_operator.new.tally) (sym pushed) (sym also)
          (read_more files chart i c.loop-op.rows c.loop-op.rejected read.rows read.rejected c.args.tally.now c.loop-op.tally c.read_operator.new.tally (c.requires.built i within) was.count was.also (was.told tells files are)
          (subst (λ k. ReadsFile files i k read.rows read.rejected c.loop-op.tally c.read_operator.new.tally) kinds
          (c.in_ok-read.ensures.told tells files (subst (λ (s : OpSpec). IsInput (IsTrue g.S.Source.tells) g.S.Source.rest files s.kind input) (sym item) (subst (IsInput (IsTrue g.S.Source.tells) g.S.Source.rest files (get_or ops i no_op).kind) (sym slot) (are.each i within))))));
      fit = both_subst (λ rs bs. AllSuit chart (i + 1) rs bs) (sym pushed) (sym also)
          (suits_more chart i c.loop-op.rows c.loop-op.rejected read.rows read.rejected was.count was.also was.fit (subst (λ k. RowsSuit k read.rows read.rejected) kinds c.in_ok-read.ensures.fit));
      count = ap length pushed ∙ (omega (arith, length-append c.loop-op.rows (read.rows ∷ []), was.count));
      also = ap length also ∙ (omega (arith, length-append c.loop-op.rejected (read.rejected ∷ []), was.also));
      inputs = search rules;
      ahead = λ o h. let apart : o ≢ i = omega (arith, h) in get_or-set_other inputs i o new None apart ∙ was.ahead o (omega (arith, h));
      kept = same_number inputs i input new there c.index_mut-input.ensures.value c.read_operator.ensures.kept ∙ was.kept;
    }
