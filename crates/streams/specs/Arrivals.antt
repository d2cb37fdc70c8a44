-- What a legal execution says of a link, partition by partition.
use Rattle.std.specs.Prelude.{◌≡◌, ℕ, suc, ◌<◌, ◌==◌, false, if◌then◌else◌, List, [], ◌∷◌, map}
use Rattle.streams.specs.Streams.{Out, on}
use Rattle.streams.specs.Core.{Player, Lane}
use Rattle.streams.specs.Plans.{IsLegal}
use Rattle.streams.specs.Lists.{Interleaves, IsIn}
use Rattle.streams.specs.Wiring.{shares, Plan, numbers_from, alone, net_of, IsWired}

-- what a producer's rows that go to consumer j are, from its t-th row on, by where each goes
abbrev pub lane_of_rows : {X : Type 0} → (ℕ → X → ℕ) → ℕ → ℕ → List X → List X
lane_of_rows goes j t [] = []
lane_of_rows goes j t (x ∷ xs) = if goes t x == j then x ∷ lane_of_rows goes j (suc t) xs else lane_of_rows goes j (suc t) xs

-- the lanes into consumer j, from producer p on
abbrev pub lanes_to : {X : Type 0} → (ℕ → ℕ → X → ℕ) → ℕ → ℕ → List (List X) → List (List X)
lanes_to goes j p [] = []
lanes_to goes j p (xs ∷ lists) = lane_of_rows (goes p) j 0 xs ∷ lanes_to goes j (suc p) lists

-- O(l): what each producer partition puts on a link
abbrev pub sent_on : {X F : Type 0} → Plan X F → (Player → List (Out X F)) → ℕ → List (List X)
sent_on plan made l = map (λ p. on (plan.wire l).out (made (record { operator = (plan.wire l).from; partition = p }))) (numbers_from 0 (plan.degree (plan.wire l).from))

-- on a link whose lanes share queues, each consumer partition has an interleaving of its lanes
abbrev pub SharedArrives : Type 0 → Type 0 → Type 0
SharedArrives X F = (plan : Plan X F) → IsWired plan → (file lane : Lane → List X) (taken : Player → ℕ → List X) (made : Player → List (Out X F)) → IsLegal (net_of plan) file lane taken made →
    (o i j : ℕ) → IsIn o plan.order → i < (plan.stream o).ports → j < plan.degree o → alone (plan.wire (plan.input o i)) ≡ false → (plan.wire (plan.input o i)).gather ≡ shares →
    (goes : ℕ → ℕ → X → ℕ) → ((p t : ℕ) (x : X) → (plan.wire (plan.input o i)).goes p t x j ≡ (goes p t x == j)) →
    Interleaves (lanes_to goes j 0 (sent_on plan made (plan.input o i))) (taken (record { operator = o; partition = j }) i)
