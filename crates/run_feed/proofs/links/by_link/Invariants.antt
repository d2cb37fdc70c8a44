use Rattle.std.proofs.Common.{◌≡◌, ◌<◌, ℕ, [], get_or, length}
use Rattle.run_feed.specs.Sources.{rows_on}
use Rattle.run_feed.proofs.Moving.{HasRest}
use Rattle.run_feed.proofs.links.by_link.Given as goal

abbrev pub invariant-loop-at : goal.invariant-loop-at
invariant-loop-at l = record {
  count : length l.sources ≡ l.at;
  each : (k : ℕ) → k < l.at → get_or l.sources k [] ≡ rows_on l.shaped l.fn.reads.rows l.fn.reads.rejected k;
  rest : HasRest l.shaped l.fn.reads.rows l.fn.reads.rejected l.rows.items l.rejected.items l.at;
}
