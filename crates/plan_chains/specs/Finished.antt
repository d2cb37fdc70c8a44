-- What a run of a plan with chains comes to, by the step core with batches or by threads: a legal execution of the plan.
use Rattle.std.specs.Prelude.{ℕ, List}
use Rattle.streams.specs.Streams.{Item, rows, rows_of, emits}
use Rattle.streams.specs.Core.{Player, Lane, Parcel, Event}
use Rattle.streams.specs.Plans.{shape_of, inner, IsLooseRun}
use Rattle.streams.specs.Wiring.{Plan, net_of, IsWired}
use Rattle.streams.specs.Batches.{Packet, batch_core, batch_owed, batch_lane_rows, BatchFiles, BatchFinished}
use Rattle.plan_chains.specs.Chains.{chained, CanChain, Unchained}

-- by events, to a finished state
abbrev pub FinishedIsUnchained : Type 0 → Type 0 → Type 0
FinishedIsUnchained X F = (plan : Plan X F) (ls : List ℕ) → IsWired plan → CanChain plan ls → (size : X → ℕ) (limit : ℕ) (files : Lane → List (Packet X)) (full : BatchFiles (shape_of (net_of (chained plan ls))) files) (capacity : ℕ) (events : List Event) →
    let net = net_of (chained plan ls) in
    let due = batch_owed net size limit in
    let s = batch_core (shape_of net) due files capacity events in
    BatchFinished (shape_of net) due s → Unchained plan ls full.lists (batch_lane_rows net files s) (λ p i. rows_of i (inner net p (s.feeds p))) (λ p. emits (net.operator p) (inner net p (s.feeds p)))

-- by players that know only their own part
abbrev pub RunIsUnchained : Type 0 → Type 0 → Type 0
RunIsUnchained X F = (plan : Plan X F) (ls : List ℕ) → IsWired plan → CanChain plan ls → (file : Lane → List X) (feeds : Player → List (Parcel X)) (given : Lane → List (Item X)) →
    let net = net_of (chained plan ls) in
    IsLooseRun net file feeds given → Unchained plan ls file (λ k. rows (given k)) (λ p i. rows_of i (inner net p (feeds p))) (λ p. emits (net.operator p) (inner net p (feeds p)))
