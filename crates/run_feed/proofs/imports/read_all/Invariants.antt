use Rattle.std.proofs.Common.{◌≡◌, ◌≤◌, ℕ, None, IsTrue, get_or, length}
use Rattle.ds_port.specs.FileMap.{FileMap}
use Rattle.run_feed.specs.Inputs.{AreInputs, number_of}
use Rattle.run_feed.specs.Sources.{AllSuit, ReadTo}
use Rattle.run_feed.proofs.imports.read_all.Given as goal

abbrev pub invariant-loop-op : goal.invariant-loop-op
invariant-loop-op g l = record {
  told : IsTrue g.S.Source.tells → (files : FileMap) → AreInputs (IsTrue g.S.Source.tells) g.S.Source.rest files l.shaped.flow.ops l.fn.inputs.by_operator.items → ReadTo files l.shaped l.op l.rows l.rejected l.fn.tally l.tally;
  fit : AllSuit l.shaped l.op l.rows l.rejected;
  count : length l.rows ≡ l.op;
  also : length l.rejected ≡ l.op;
  inputs : length l.inputs.by_operator.items ≡ length l.shaped.flow.ops;
  ahead : (o : ℕ) → l.op ≤ o → get_or l.inputs.by_operator.items o None ≡ get_or l.fn.inputs.by_operator.items o None;
  kept : number_of l.inputs.by_operator.items ≡ number_of l.fn.inputs.by_operator.items;
}
