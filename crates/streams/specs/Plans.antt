-- Players made of collectors and an operator, the net of a plan, and its legal executions.
use Rattle.std.specs.Prelude.{◌≡◌, ℕ, suc, ◌<◌, ◌==◌, nat_lt, Bool, true, false, ◌&&◌, if◌then◌else◌, ◌⊎◌, List, [], ◌∷◌, ◌++◌, map, ⊤}
use Rattle.streams.specs.Lists.{any_of, IsIn}
use Rattle.streams.specs.Streams.{Item, row, end, Feed, Out, Stream, rows, rows_of, ended, all_ended, any_below, emits, Gives, IsStream, IsCollector, whole, on, rows_out}
use Rattle.streams.specs.Core.{Player, Lane, same_player, same_lane, Parcel, Shape, State, Event, of_lane, core, IsFinished, HasEnded, WasFed, IsNet, AreFiles}

pub record Net (X F : Type 0) : Type 0 where
  pub players : List Player  -- producers before their consumers
  pub operator : Player → Stream X F
  pub collector : Player → ℕ → Stream X F  -- of an input port, over the lanes that come there
  pub at : Player → ℕ → ℕ → Lane  -- the lane, or file, with a number at an input port
  pub port : Lane → ℕ  -- the input port to which a lane comes
  pub slot : Lane → ℕ  -- its number there
  pub queues : Player → List Lane  -- the names of its queues
  pub into : Lane → Lane  -- the queue into which it leads
  pub lanes : Player → List Lane  -- that leave a player
  pub out : Lane → ℕ  -- the output port of which it is
  pub goes : Lane → ℕ → X → Bool  -- whether a row goes there, by its number among the rows of that port

-- the rows that go to a lane, of the rows from the t-th on
abbrev pub sent : {X : Type 0} → (ℕ → X → Bool) → ℕ → List X → List X
sent goes t [] = []
sent goes t (x ∷ xs) = if goes t x then x ∷ sent goes (suc t) xs else sent goes (suc t) xs

-- what the collector of a port was fed
abbrev pub of_port : {X F : Type 0} → Net X F → ℕ → List (Parcel X) → List (Feed X)
of_port net i [] = []
of_port net i (f ∷ feeds) = if net.port f.lane == i then record { port = net.slot f.lane; item = f.item } ∷ of_port net i feeds else of_port net i feeds

abbrev pub handed : {X F : Type 0} → ℕ → List (Out X F) → List (Feed X)
handed i outs = map (λ x. record { port = i; item = row x }) (rows_out outs)

-- what one more item makes the collector of its port hand to the operator: rows, and End once all its lanes have ended
abbrev pub pass_by : {X F : Type 0} → Stream X F → ℕ → List (Feed X) → Feed X → List (Feed X)
pass_by c i done g = handed i (c.gives done g) ++ (if all_ended c (done ++ g ∷ []) then record { port = i; item = end } ∷ [] else [])

abbrev pub pass : {X F : Type 0} → Net X F → Player → List (Parcel X) → Parcel X → List (Feed X)
pass net p done f = pass_by (net.collector p (net.port f.lane)) (net.port f.lane) (of_port net (net.port f.lane) done) (record { port = net.slot f.lane; item = f.item })

abbrev pub inner_after : {X F : Type 0} → Net X F → Player → List (Parcel X) → List (Parcel X) → List (Feed X)
inner_after net p done [] = []
inner_after net p done (f ∷ feeds) = pass net p done f ++ inner_after net p (done ++ f ∷ []) feeds

-- what the operator of a player was fed
abbrev pub inner : {X F : Type 0} → Net X F → Player → List (Parcel X) → List (Feed X)
inner net p feeds = inner_after net p [] feeds

-- the operator wants a port, and its collector a lane that leads into the queue
abbrev pub wants_queue : {X F : Type 0} → Net X F → Player → List (Parcel X) → Lane → Bool
wants_queue net p feeds q = any_below (net.operator p).ports (λ i. (net.operator p).wants (inner net p feeds) i
    && any_below (net.collector p i).ports (λ s. same_lane (net.into (net.at p i s)) q && (net.collector p i).wants (of_port net i feeds) s))

-- the messages of a lane: the rows of what is emitted that go there, and End once all ports have ended
abbrev pub owed : {X F : Type 0} → Net X F → Player → Lane → List (Parcel X) → List (Item X)
owed net p k feeds = map row (sent (net.goes k) 0 (on (net.out k) (emits (net.operator p) (inner net p feeds)))) ++ (if all_ended (net.operator p) (inner net p feeds) then end ∷ [] else [])

abbrev pub comes_to : {X F : Type 0} → Net X F → Player → Lane → Bool
comes_to net p k = any_of (same_player p) net.players && (same_lane k (net.at p (net.port k) (net.slot k)) && (nat_lt (net.port k) (net.operator p).ports && nat_lt (net.slot k) (net.collector p (net.port k)).ports))

abbrev pub shape_of : {X F : Type 0} → Net X F → Shape X
shape_of net = record { players = net.players; lanes = net.lanes; comes = comes_to net; queues = net.queues; into = net.into; wanted = wants_queue net; due = owed net }

-- every lane that hasn't ended is wanted: the any collector
abbrev pub WantsAll : {X F : Type 0} → Stream X F → Type 0
WantsAll {X} c = (feeds : List (Feed X)) (i : ℕ) → i < c.ports → ended i feeds ≡ false → c.wants feeds i ≡ true

pub record IsPlan {X F : Type 0} (net : Net X F) : Type 0 where
  pub is_net : IsNet (shape_of net)
  pub operators : (p : Player) → IsIn p net.players → IsStream (net.operator p)
  pub collectors : (p : Player) → IsIn p net.players → (i : ℕ) → i < (net.operator p).ports → IsCollector (net.collector p i)
  pub there : (p : Player) → IsIn p net.players → (i s : ℕ) → i < (net.operator p).ports → s < (net.collector p i).ports → (net.port (net.at p i s) ≡ i) × (net.slot (net.at p i s) ≡ s)
  -- lanes that share a queue come to one port, whose collector takes them in any order
  pub shared : (p : Player) (k l : Lane) → comes_to net p k ≡ true → comes_to net p l ≡ true → net.into k ≡ net.into l → (net.port k ≡ net.port l) × ((k ≡ l) ⊎ WantsAll (net.collector p (net.port k)))

-- A legal execution: the rows on each lane, what each player has from each port, and what it emits.
pub record IsLegal {X F : Type 0} (net : Net X F) (file : Lane → List X) (lane : Lane → List X) (taken : Player → ℕ → List X) (made : Player → List (Out X F)) : Type 0 where
  pub read : (p : Player) (k : Lane) → IsIn p net.players → comes_to net p k ≡ true → ((q : Player) → IsIn k (net.lanes q) → ⊥) → lane k ≡ file k
  pub routed : (p : Player) (k : Lane) → IsIn p net.players → IsIn k (net.lanes p) → lane k ≡ sent (net.goes k) 0 (on (net.out k) (made p))
  pub collected : (p : Player) (i : ℕ) → IsIn p net.players → i < (net.operator p).ports → (outs : List (Out X F)) × Gives (net.collector p i) (λ s. lane (net.at p i s)) outs × (taken p i ≡ rows_out outs)
  pub given : (p : Player) → IsIn p net.players → Gives (net.operator p) (taken p) (made p)

-- Facts of a run that is over, whatever ran it: each player was fed what it wanted, to the ends; what was given to each lane is what its producer owes, or a file;
-- and the consumer was fed from its front.
pub record IsRun {X F : Type 0} (net : Net X F) (file : Lane → List X) (feeds : Player → List (Parcel X)) (given : Lane → List (Item X)) : Type 0 where
  pub fed : (p : Player) → IsIn p net.players → WasFed (shape_of net) p (feeds p)
  pub ended : (p : Player) → IsIn p net.players → HasEnded (shape_of net) p (feeds p)
  pub from_file : (p : Player) (k : Lane) → IsIn p net.players → comes_to net p k ≡ true → ((q : Player) → IsIn k (net.lanes q) → ⊥) → given k ≡ whole (file k)
  pub from_lane : (p : Player) (k : Lane) → IsIn p net.players → IsIn k (net.lanes p) → given k ≡ owed net p k (feeds p)
  pub reached : (p : Player) (k : Lane) → IsIn p net.players → comes_to net p k ≡ true → (left : List (Item X)) × (given k ≡ of_lane k (feeds p) ++ left)

-- each item was fed from a queue that was wanted then: what a player knows by itself
abbrev pub WantedAfter : {X F : Type 0} → Net X F → Player → List (Parcel X) → List (Parcel X) → Type 0
WantedAfter net p before [] = ⊤
WantedAfter net p before (f ∷ feeds) = (comes_to net p f.lane ≡ true) × (wants_queue net p before (net.into f.lane) ≡ true) × WantedAfter net p (before ++ f ∷ []) feeds

-- such facts, where no player knows that a lane gives nothing behind its End
pub record IsLooseRun {X F : Type 0} (net : Net X F) (file : Lane → List X) (feeds : Player → List (Parcel X)) (given : Lane → List (Item X)) : Type 0 where
  pub fed : (p : Player) → IsIn p net.players → WantedAfter net p [] (feeds p)
  pub ended : (p : Player) → IsIn p net.players → HasEnded (shape_of net) p (feeds p)
  pub from_file : (p : Player) (k : Lane) → IsIn p net.players → comes_to net p k ≡ true → ((q : Player) → IsIn k (net.lanes q) → ⊥) → given k ≡ whole (file k)
  pub from_lane : (p : Player) (k : Lane) → IsIn p net.players → IsIn k (net.lanes p) → given k ≡ owed net p k (feeds p)
  pub reached : (p : Player) (k : Lane) → IsIn p net.players → comes_to net p k ≡ true → (left : List (Item X)) × (given k ≡ of_lane k (feeds p) ++ left)

abbrev pub LooseIsRun : Type 0 → Type 0 → Type 0
LooseIsRun X F = (net : Net X F) → IsPlan net → (file : Lane → List X) (feeds : Player → List (Parcel X)) (given : Lane → List (Item X)) → IsLooseRun net file feeds given → IsRun net file feeds given

-- the lists of such a run are a legal execution
abbrev pub RunIsLegal : Type 0 → Type 0 → Type 0
RunIsLegal X F = (net : Net X F) → IsPlan net → (file : Lane → List X) (feeds : Player → List (Parcel X)) (given : Lane → List (Item X)) → IsRun net file feeds given →
    IsLegal net file (λ k. rows (given k)) (λ p i. rows_of i (inner net p (feeds p))) (λ p. emits (net.operator p) (inner net p (feeds p)))

-- the rows on a lane in a state
abbrev pub lane_rows : {X F : Type 0} → Net X F → (Lane → List (Parcel X)) → State X → Lane → List X
lane_rows net files s k = rows (of_lane k (files (net.into k)) ++ s.put k)

-- the lists of a state are a legal execution
abbrev pub LegalState : {X F : Type 0} → Net X F → (Lane → List (Parcel X)) → (Lane → List X) → State X → Type 0
LegalState net files file s = IsLegal net file (lane_rows net files s) (λ p i. rows_of i (inner net p (s.feeds p))) (λ p. emits (net.operator p) (inner net p (s.feeds p)))

abbrev pub FinishedIsLegal : Type 0 → Type 0 → Type 0
FinishedIsLegal X F = (net : Net X F) → IsPlan net → (files : Lane → List (Parcel X)) (full : AreFiles (shape_of net) files) (capacity : ℕ) (events : List Event) →
    IsFinished (shape_of net) (core (shape_of net) files capacity events) → LegalState net files full.lists (core (shape_of net) files capacity events)
