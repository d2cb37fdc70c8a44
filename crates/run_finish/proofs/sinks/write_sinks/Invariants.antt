use Rattle.std.proofs.Common.{◌≡◌, ◌≤◌, ◌+◌, flat_map, length, map, IsTrue}
use Rattle.std.specs.Prelude.{All, IsSome}
use Rattle.std.specs.List.{range_with_len}
use Rattle.flow_files.specs.Tallies.{Grows}
use Rattle.flow_outputs.specs.Outputs.{file_from}
use Rattle.run_finish.specs.Written.{faults_found, file_written}
use Rattle.run_finish.proofs.sinks.write_sinks.Given as goal

abbrev pub invariant-loop-op : goal.invariant-loop-op
invariant-loop-op g l = record {
  files : IsTrue g.F.Files.tells → map (λ o. file_from (g.F.Output.Sink.name o) (g.F.Output.Sink.held o)) l.outputs.items ≡ flat_map (file_written l.shaped l.sinks) (range_with_len 0 l.op);
  named : All (λ o. IsSome (g.F.Output.Sink.name o)) l.outputs.items;
  tallied : Grows l.fn.tally l.tally (flat_map (faults_found l.shaped l.sinks) (range_with_len 0 l.op));
  same : g.F.Files.holds l.files ≡ g.F.Files.holds l.fn.files;
  lent : g.F.Files.lent l.files ≡ g.F.Files.lent l.fn.files + length l.outputs.items;
  later : g.F.Files.faults l.fn.files ≤ g.F.Files.faults l.files;
}
