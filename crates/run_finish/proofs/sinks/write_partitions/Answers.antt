use Rattle.std.proofs.Common.{◌≡◌, ◌<◌, ◌∙◌, ◌++◌, List, ap, arith, flat_map, get_or, length, subst}
use Rattle.op_base.specs.Columns.{Row}
use Rattle.flow_files.specs.Tallies.{Grows}
use Rattle.flow_files.specs.Texts.{exported_text, export_faults}
use Rattle.run_finish.proofs.Writing.{tallied_more, written_more}
use Rattle.run_finish.proofs.sinks.write_partitions.Goals as goal

pub loop-rows-preserved : goal.loop-rows-preserved
loop-rows-preserved g c =
    let i = c.loop-rows.rows-index in
    let rows = c.rows-item.result in
    let e = c.as_slice-rows-items.ensures in
    let there : i < length c.args.parts.now = subst (λ (ls : List (List Row)). i < length ls) e c.loop-rows-test.true in
    let is : rows ≡ get_or c.args.parts.now i rows = c.rows-item.is ∙ ap (λ (ls : List (List Row)). get_or ls i rows) e in
    record {
      told = λ tells. written_more (exported_text c.args.form.now c.args.schema.now) c.args.parts.now i rows _ _ _ there is
          (c.in_ok-export_rows.ensures.told tells ∙ ap (λ (rs : List Row). g.K.Sink.held c.loop-rows.sink ++ flat_map (exported_text c.args.form.now c.args.schema.now) rs) c.as_slice.ensures) (c.loop-rows.invariant.told tells);
      tallied = tallied_more (export_faults c.args.op c.args.form.now c.args.schema.now) c.args.parts.now i rows _ _ _ there is
          c.loop-rows.invariant.tallied (subst (λ (rs : List Row). Grows c.loop-rows.tally c.export_rows.new.tally (flat_map (export_faults c.args.op c.args.form.now c.args.schema.now) rs)) c.as_slice.ensures c.in_ok-export_rows.ensures.tallied);
      name = c.export_rows.ensures.name ∙ c.loop-rows.invariant.name;
      later = omega (arith, c.export_rows.ensures.cause.later, c.loop-rows.invariant.later);
    }
