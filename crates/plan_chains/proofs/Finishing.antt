-- What a run of a plan with chains comes to.
use Rattle.std.proofs.Common.{ℕ, List}
use Rattle.streams.specs.Streams.{rows, rows_of, emits}
use Rattle.streams.specs.Plans.{Net, inner, IsPlan}
use Rattle.streams.specs.Wiring.{Plan, net_of, IsWired}
use Rattle.streams.specs.Batches.{BatchState, batch_core, batch_owed, batch_lane_rows}
use Rattle.streams.specs.Plans.{shape_of}
use Rattle.streams.proofs.Legal.{run-is-legal, batch-finished-is-legal}
use Rattle.streams.proofs.Loose.{loose-is-run}
use Rattle.streams.proofs.Wired.{wired-is-plan}
use Rattle.plan_chains.specs.Chains.{chained, CanChain}
use Rattle.plan_chains.specs.Finished.{FinishedIsUnchained, RunIsUnchained}
use Rattle.plan_chains.proofs.Chaining.{chained_is_legal, chained_is_wired}

is_plan : {X F : Type 0} (plan : Plan X F) (ls : List ℕ) → IsWired plan → CanChain plan ls → IsPlan (net_of (chained plan ls))
is_plan plan ls wired can = wired-is-plan (chained plan ls) (chained_is_wired plan ls wired can)

pub finished_is_unchained : {X F : Type 0} → FinishedIsUnchained X F
finished_is_unchained {X} {F} plan ls wired can size limit files full capacity events h =
    let net : Net X F = net_of (chained plan ls) in
    let s : BatchState X = batch_core (shape_of net) (batch_owed net size limit) files capacity events in
    chained_is_legal plan ls wired can full.lists (batch_lane_rows net files s) (λ p i. rows_of i (inner net p (s.feeds p))) (λ p. emits (net.operator p) (inner net p (s.feeds p)))
    (batch-finished-is-legal net (is_plan plan ls wired can) size limit files full capacity events h)

pub run_is_unchained : {X F : Type 0} → RunIsUnchained X F
run_is_unchained {X} {F} plan ls wired can file feeds given h =
    let net : Net X F = net_of (chained plan ls) in
    chained_is_legal plan ls wired can file (λ k. rows (given k)) (λ p i. rows_of i (inner net p (feeds p))) (λ p. emits (net.operator p) (inner net p (feeds p)))
    (run-is-legal net (is_plan plan ls wired can) file feeds given (loose-is-run net (is_plan plan ls wired can) file feeds given h))
