-- A plan in which several links are combined: the operators along them are one.
use Rattle.std.specs.Prelude.{◌≡◌, ℕ, ◌<◌, List, [], ◌∷◌, ⊤}
use Rattle.std.specs.List.{AllByRecursion, flat_map}
use Rattle.std.specs.List.Sorted.{IsPermutation}
use Rattle.streams.specs.Lists.{IsIn}
use Rattle.streams.specs.Streams.{Out, faults_out, on}
use Rattle.streams.specs.Core.{Player, Lane}
use Rattle.streams.specs.Plans.{IsLegal}
use Rattle.streams.specs.Wiring.{Plan, players_of, net_of, IsWired}
use Rattle.plan_chains.specs.Combined.{CanCombine, combined, part}

-- Combined with the operator that it comes from, which is the first of a chain where others were combined before.
abbrev pub combined_at : {X F : Type 0} → Plan X F → ℕ → Plan X F
combined_at plan l = combined plan (plan.wire l).from (plan.wire l).into

abbrev pub chained : {X F : Type 0} → Plan X F → List ℕ → Plan X F
chained plan [] = plan
chained plan (l ∷ ls) = chained (combined_at plan l) ls

-- each of the links can be combined, and is named once
abbrev pub CanChain : {X F : Type 0} → Plan X F → List ℕ → Type 0
CanChain plan [] = ⊤
CanChain plan (l ∷ ls) = CanCombine plan (plan.wire l).from (plan.wire l).into l × (IsIn l ls → ⊥) × CanChain plan ls

abbrev pub ChainedIsWired : Type 0 → Type 0 → Type 0
ChainedIsWired X F = (plan : Plan X F) (ls : List ℕ) → IsWired plan → CanChain plan ls → IsWired (chained plan ls)

-- the faults of all players
abbrev pub all_faults : {X F : Type 0} → Plan X F → (Player → List (Out X F)) → List F
all_faults plan made = flat_map (λ p. faults_out (made p)) (players_of plan)

-- An execution of a plan, against one of the plan with chains: the same on the links that aren't combined, and at the operators to which none of the others leads.
pub record Unchained {X F : Type 0} (plan : Plan X F) (ls : List ℕ) (file lane : Lane → List X) (taken : Player → ℕ → List X) (made : Player → List (Out X F)) : Type 0 where
  pub lanes : Lane → List X
  pub takes : Player → ℕ → List X
  pub makes : Player → List (Out X F)
  pub legal : IsLegal (net_of plan) file lanes takes makes
  pub other_lanes : (k : Lane) → (IsIn k.link ls → ⊥) → lanes k ≡ lane k
  pub other_takes : (p : Player) (i : ℕ) → AllByRecursion (λ l. p.operator ≡ (plan.wire l).into → ⊥) ls → takes p i ≡ taken p i
  -- what is sent on a link that isn't combined, whichever operator sends it now
  pub sends : (o l i : ℕ) → IsIn o plan.order → IsIn l (plan.outs o) → (IsIn l ls → ⊥) → i < plan.degree o → (out : ℕ) → on out (made (part ((chained plan ls).wire l).from i)) ≡ on out (makes (part o i))
  -- all faults, in whatever order
  pub faults : IsPermutation (all_faults (chained plan ls) made) (all_faults plan makes)

-- A legal execution of the plan with chains is one of the plan.
abbrev pub ChainedIsLegal : Type 0 → Type 0 → Type 0
ChainedIsLegal X F = (plan : Plan X F) (ls : List ℕ) → IsWired plan → CanChain plan ls → (file lane : Lane → List X) (taken : Player → ℕ → List X) (made : Player → List (Out X F)) →
    IsLegal (net_of (chained plan ls)) file lane taken made → Unchained plan ls file lane taken made
