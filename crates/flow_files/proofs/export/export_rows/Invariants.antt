use Rattle.std.proofs.Common.{◌≡◌, ◌≤◌, ◌++◌, take, IsTrue}
use Rattle.std.specs.List.{flat_map}
use Rattle.flow_files.specs.Tallies.{Grows}
use Rattle.flow_files.specs.Texts.{exported_text, export_faults}
use Rattle.flow_files.proofs.export.export_rows.Given as goal

abbrev pub invariant-loop-row : goal.invariant-loop-row
invariant-loop-row g l = record {
  told : IsTrue g.K.Sink.tells → g.K.Sink.held l.sink ++ l.page ≡ g.K.Sink.held l.fn.sink ++ flat_map (exported_text l.form l.schema) (take l.row-index l.rows);
  tallied : Grows l.fn.tally l.tally (flat_map (export_faults l.op l.form l.schema) (take l.row-index l.rows));
  name : g.K.Sink.name l.sink ≡ g.K.Sink.name l.fn.sink;
  later : g.K.Sink.faults l.fn.sink ≤ g.K.Sink.faults l.sink;
}
