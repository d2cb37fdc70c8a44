use Rattle.std.proofs.Common.{◌≡◌, ◌≤◌, ◌++◌, take, IsTrue}
use Rattle.std.specs.List.{flat_map}
use Rattle.op_base.specs.Lists.{joined}
use Rattle.flow_files.specs.Tallies.{Grows}
use Rattle.flow_files.specs.Texts.{exported_text, export_faults}
use Rattle.run_finish.proofs.sinks.write_partitions.Given as goal

abbrev pub invariant-loop-rows : goal.invariant-loop-rows
invariant-loop-rows g l = record {
  told : IsTrue g.K.Sink.tells → g.K.Sink.held l.sink ≡ g.K.Sink.held l.fn.sink ++ flat_map (exported_text l.form l.schema) (joined (take l.rows-index l.parts));
  tallied : Grows l.fn.tally l.tally (flat_map (export_faults l.op l.form l.schema) (joined (take l.rows-index l.parts)));
  name : g.K.Sink.name l.sink ≡ g.K.Sink.name l.fn.sink;
  later : g.K.Sink.faults l.fn.sink ≤ g.K.Sink.faults l.sink;
}
