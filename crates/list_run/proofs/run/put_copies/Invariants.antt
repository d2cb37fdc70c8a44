use Rattle.std.proofs.Common.{cond, false}
use Rattle.std.specs.Prelude.{nat_lt}
use Rattle.list_run.specs.Held.{Puts, leaves_but}
use Rattle.list_run.proofs.run.put_copies.Given as goal

abbrev pub invariant-loop-link : goal.invariant-loop-link
invariant-loop-link l = Puts l.shaped l.nodes (λ k. cond (nat_lt k l.link) (leaves_but l.shaped l.op l.last k) false) (λ k. l.sent) l.fn.held l.held
