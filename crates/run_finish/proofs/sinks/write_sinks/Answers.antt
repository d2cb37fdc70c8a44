use Rattle.std.proofs.Common.{◌≡◌, ◌∙◌, ◌++◌, List, [], ap, arith, flat_map, get_or, length, map, subst}
use Rattle.std.specs.List.{range_with_len}
use Rattle.op_base.specs.Columns.{Row}
use Rattle.flow_files.specs.Tallies.{Grows}
use Rattle.flow_graph.specs.Charts.{op_at}
use Rattle.flow_outputs.specs.Outputs.{file_from}
use Rattle.flow_score.proofs.Ranges.{text_more}
use Rattle.osh_ends.specs.Ends.{file_of}
use Rattle.run_finish.specs.Written.{faults_at, faults_found, file_written}
use Rattle.run_finish.proofs.Writing.{files_same, found_more, found_same}
use Rattle.run_finish.proofs.sinks.write_sinks.Goals as goal

pub loop-op-preserved : goal.loop-op-preserved
loop-op-preserved g c =
    let shaped = c.args.shaped.now in
    let op = c.loop-op.op in
    let e : c.sink_at-parts.result.now ≡ get_or c.args.sinks.now op [] = c.sink_at-parts.ensures ∙ ap (λ (none : List (List Row)). get_or c.args.sinks.now op none) c.new-none.ensures in
    record {
      files = λ tells. text_more (file_written shaped c.args.sinks.now) op [] (map (λ o. file_from (g.F.Output.Sink.name o) (g.F.Output.Sink.held o)) c.loop-op.outputs.items) _ (c.loop-op.invariant.files tells)
          (c.in_default.ensures.files tells ∙ ap (λ (parts : List (List Row)). map (λ o. file_from (g.F.Output.Sink.name o) (g.F.Output.Sink.held o)) c.loop-op.outputs.items ++ file_of shaped (λ l. parts) op (op_at shaped op).kind) e);
      named = c.in_default.ensures.named c.loop-op.invariant.named;
      tallied = found_more (faults_found shaped c.args.sinks.now) op c.args.tally.now c.loop-op.tally c.write_at.new.tally c.loop-op.invariant.tallied
          (subst (λ (parts : List (List Row)). Grows c.loop-op.tally c.write_at.new.tally (faults_at shaped op parts (op_at shaped op).kind)) e c.in_default.ensures.tallied);
      same = c.write_at.ensures.same ∙ c.loop-op.invariant.same;
      lent = omega (arith, c.in_default.ensures.lent, c.loop-op.invariant.lent);
      later = omega (arith, c.write_at.ensures.cause.later, c.loop-op.invariant.later);
    }

pub returns-clause-tallied : goal.returns-clause-tallied
returns-clause-tallied g c = λ given ops parts are h.
    let shaped = c.args.shaped.now in
    let n : length c.as_slice-op-end.result.now ≡ length shaped.flow.ops = ap length (c.as_slice-op-end.ensures ∙ ap (λ f. f.ops) c.flow.ensures) in
    let all : c.loop-op.op ≡ length shaped.flow.ops = omega (arith, n, c.loop-op-test.false, c.loop-op.auto.op-end) in
    subst (Grows c.args.tally.now c.loop-op.tally) (ap (λ k. flat_map (faults_found shaped c.args.sinks.now) (range_with_len 0 k)) all ∙ found_same given shaped ops c.args.sinks.now parts are h) c.loop-op.invariant.tallied

pub returns-clause-files : goal.returns-clause-files
returns-clause-files g c = λ tells parts h.
    let shaped = c.args.shaped.now in
    let n : length c.as_slice-op-end.result.now ≡ length shaped.flow.ops = ap length (c.as_slice-op-end.ensures ∙ ap (λ f. f.ops) c.flow.ensures) in
    let all : c.loop-op.op ≡ length shaped.flow.ops = omega (arith, n, c.loop-op-test.false, c.loop-op.auto.op-end) in
    c.loop-op.invariant.files tells ∙ ap (λ k. flat_map (file_written shaped c.args.sinks.now) (range_with_len 0 k)) all ∙ files_same shaped c.args.sinks.now parts h
