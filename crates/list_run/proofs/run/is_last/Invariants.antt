use Rattle.std.proofs.Common.{◌≡◌, ◌≢◌, ◌<◌, ℕ, true}
use Rattle.list_run.specs.Held.{leaves, place_on}
use Rattle.list_run.proofs.run.is_last.Given as goal

abbrev pub invariant-loop-later : goal.invariant-loop-later
invariant-loop-later l = (k : ℕ) → l.link < k → k < l.later → leaves l.shaped l.op k ≡ true → place_on l.shaped l.outs k ≢ place_on l.shaped l.outs l.link
