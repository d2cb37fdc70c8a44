use Rattle.std.proofs.Common.{◌≡◌, map}
use Rattle.list_run.specs.Made.{made}
use Rattle.list_run.proofs.work.pass_each.Given as goal

abbrev pub invariant-loop-rows : goal.invariant-loop-rows
invariant-loop-rows l = l.given ≡ map (made l.kind l.parts.keys) l.yielded
