use Rattle.std.proofs.Common.{◌∙◌, arith}
use Rattle.flow_files.specs.Texts.{exported_text, export_faults}
use Rattle.flow_files.proofs.Rows.{written_more, tallied_more}
use Rattle.flow_files.proofs.export.export_rows.Goals as goal

pub loop-row-preserved : goal.loop-row-preserved
loop-row-preserved g c = record {
  told = λ tells. written_more (exported_text c.args.form.now c.args.schema.now) c.args.rows.now c.loop-row.row-index c.row-item.result (g.K.Sink.held c.args.sink.now) (g.K.Sink.held c.loop-row.sink) (g.K.Sink.held c.turn.new.sink) c.loop-row.page c.put_row.new.page c.turn.new.page c.loop-row-test.true c.row-item.is
      (c.in_ok-turn.ensures.told tells) c.in_ok-put_row.ensures.written (c.loop-row.invariant.told tells);
  tallied = tallied_more (export_faults c.args.op c.args.form.now c.args.schema.now) c.args.rows.now c.loop-row.row-index c.row-item.result _ _ _ c.loop-row-test.true c.row-item.is
      c.loop-row.invariant.tallied c.in_ok-put_row.ensures.tallied;
  name = c.turn.ensures.name ∙ c.loop-row.invariant.name;
  later = omega (arith, c.turn.ensures.cause.later, c.loop-row.invariant.later);
}
