use Rattle.std.proofs.Common.{◌≡◌, ◌<◌, ℕ, false}
use Rattle.list_run.specs.Held.{leaves}
use Rattle.list_run.proofs.run.output_of.Given as goal

abbrev pub invariant-loop-link : goal.invariant-loop-link
invariant-loop-link l = (k : ℕ) → k < l.link → leaves l.shaped l.op k ≡ false
