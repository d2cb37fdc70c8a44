-- The net of a plan: players, queues and lanes by the plan's links.
use Rattle.std.specs.Prelude.{◌≡◌, ℕ, zero, suc, ◌<◌, Bool, true, false, ◌||◌, if◌then◌else◌, ◌⊎◌, List, [], ◌∷◌, ◌++◌, map, ⊤}
use Rattle.std.specs.List.{flat_map}
use Rattle.streams.specs.Lists.{any_of, IsIn}
use Rattle.streams.specs.Streams.{Stream, IsStream, IsCollector}
use Rattle.streams.specs.Core.{Player, Lane, same_player}
use Rattle.streams.specs.Plans.{Net, IsPlan}
use Rattle.streams.specs.Operators.{any_stream}

-- how lanes come together at a consumer: into one queue, in any order, or each into its own, by a collector
pub data Gather (X F : Type 0) : Type 0 where
  shares : Gather X F
  each : (ℕ → Stream X F) → Gather X F

-- a plan link, or the way of a file to its source
pub record Wire (X F : Type 0) : Type 0 where
  pub from : ℕ
  pub out : ℕ
  pub into : ℕ
  pub port : ℕ
  pub file : Bool
  pub straight : Bool  -- from each partition to that of its number alone
  pub gather : Gather X F
  pub goes : ℕ → ℕ → X → ℕ → Bool  -- whether the t-th row of a partition goes to another's

pub record Plan (X F : Type 0) : Type 0 where
  pub order : List ℕ  -- the operators, producers before their consumers
  pub degree : ℕ → ℕ
  pub stream : ℕ → Stream X F
  pub input : ℕ → ℕ → ℕ  -- the link at an input port of an operator
  pub outs : ℕ → List ℕ  -- the links that leave an operator, by output port
  pub wire : ℕ → Wire X F

-- k numbers from i on
abbrev pub numbers_from : ℕ → ℕ → List ℕ
numbers_from i zero = []
numbers_from i (suc k) = i ∷ numbers_from (suc i) k

abbrev pub parts_of : ℕ → List ℕ → List Player
parts_of o is = map (λ i. record { operator = o; partition = i }) is

abbrev pub all_players : {X F : Type 0} → Plan X F → List ℕ → List Player
all_players plan [] = []
all_players plan (o ∷ order) = parts_of o (numbers_from 0 (plan.degree o)) ++ all_players plan order

abbrev pub players_of : {X F : Type 0} → Plan X F → List Player
players_of plan = all_players plan plan.order

-- one lane comes to a partition
abbrev pub alone : {X F : Type 0} → Wire X F → Bool
alone wire = wire.file || wire.straight

abbrev pub width : {X F : Type 0} → Plan X F → ℕ → ℕ
width plan l = if alone (plan.wire l) then 1 else plan.degree (plan.wire l).from

abbrev pub lanes_from : {X F : Type 0} → Plan X F → ℕ → ℕ → List Lane
lanes_from plan i l = if (plan.wire l).straight then record { link = l; from = i; to = i } ∷ [] else map (λ j. record { link = l; from = i; to = j }) (numbers_from 0 (plan.degree (plan.wire l).into))

abbrev pub lane_at : {X F : Type 0} → Plan X F → ℕ → ℕ → ℕ → Lane
lane_at plan l partition s = record { link = l; from = if alone (plan.wire l) then partition else s; to = partition }

abbrev pub gathered : {X F : Type 0} → Gather X F → ℕ → Stream X F
gathered shares n = any_stream n
gathered (each c) n = c n

abbrev pub queue_name : {X F : Type 0} → Gather X F → Lane → Lane
queue_name shares k = record { link = k.link; from = 0; to = k.to }
queue_name (each c) k = k

abbrev pub queue_names : {X F : Type 0} → Plan X F → Gather X F → ℕ → ℕ → List Lane
queue_names plan shares l partition = record { link = l; from = 0; to = partition } ∷ []
queue_names plan (each c) l partition = map (lane_at plan l partition) (numbers_from 0 (width plan l))

abbrev pub net_of : {X F : Type 0} → Plan X F → Net X F
net_of plan = record {
  players = players_of plan;
  operator = λ p. plan.stream p.operator;
  collector = λ p i. gathered (plan.wire (plan.input p.operator i)).gather (width plan (plan.input p.operator i));
  at = λ p i s. lane_at plan (plan.input p.operator i) p.partition s;
  port = λ k. (plan.wire k.link).port;
  slot = λ k. if alone (plan.wire k.link) then 0 else k.from;
  queues = λ p. if any_of (same_player p) (players_of plan) then flat_map (λ i. queue_names plan (plan.wire (plan.input p.operator i)).gather (plan.input p.operator i) p.partition) (numbers_from 0 (plan.stream p.operator).ports) else [];
  into = λ k. queue_name (plan.wire k.link).gather k;
  lanes = λ p. if any_of (same_player p) (players_of plan) then flat_map (lanes_from plan p.partition) (plan.outs p.operator) else [];
  out = λ k. (plan.wire k.link).out;
  goes = λ k t x. (plan.wire k.link).goes k.from t x k.to;
}

abbrev pub IsGathering : {X F : Type 0} → Gather X F → Type 0
IsGathering shares = ⊤
IsGathering (each c) = (n : ℕ) → 0 < n → IsCollector (c n) × ((c n).ports ≡ n)

-- a link of an operator comes from a file, or from an operator before it
abbrev pub GoesForward : {X F : Type 0} → Plan X F → List ℕ → List ℕ → Type 0
GoesForward plan seen [] = ⊤
GoesForward plan seen (o ∷ order) = ((i : ℕ) → i < (plan.stream o).ports → ((plan.wire (plan.input o i)).file ≡ true) ⊎ (IsIn (plan.wire (plan.input o i)).from seen × IsIn (plan.input o i) (plan.outs (plan.wire (plan.input o i)).from)))
    × (IsIn o seen → ⊥) × GoesForward plan (o ∷ seen) order

-- what a link that leaves an operator is
pub record Leaves {X F : Type 0} (plan : Plan X F) (o l : ℕ) : Type 0 where
  pub from : (plan.wire l).from ≡ o
  pub no_file : (plan.wire l).file ≡ false
  pub into : IsIn (plan.wire l).into plan.order
  pub port : (plan.wire l).port < (plan.stream (plan.wire l).into).ports
  pub input : plan.input (plan.wire l).into (plan.wire l).port ≡ l
  pub straight : (plan.wire l).straight ≡ true → plan.degree o ≡ plan.degree (plan.wire l).into

-- An acyclic plan whose links fit.
pub record IsWired {X F : Type 0} (plan : Plan X F) : Type 0 where
  pub forward : GoesForward plan [] plan.order
  pub degrees : (o : ℕ) → IsIn o plan.order → 0 < plan.degree o
  pub streams : (o : ℕ) → IsIn o plan.order → IsStream (plan.stream o)
  pub inputs : (o i : ℕ) → IsIn o plan.order → i < (plan.stream o).ports → ((plan.wire (plan.input o i)).into ≡ o) × ((plan.wire (plan.input o i)).port ≡ i) × IsGathering (plan.wire (plan.input o i)).gather
  pub outputs : (o l : ℕ) → IsIn o plan.order → IsIn l (plan.outs o) → Leaves plan o l

abbrev pub WiredIsPlan : Type 0 → Type 0 → Type 0
WiredIsPlan X F = (plan : Plan X F) → IsWired plan → IsPlan (net_of plan)
