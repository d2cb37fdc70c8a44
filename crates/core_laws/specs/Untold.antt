-- Sources whose files tell nothing of what they still have: a state has what was read of them so far.
use Rattle.std.specs.Prelude.{◌≡◌, ℕ, ◌<◌, Bool, true, false, not, ◌&&◌, if◌then◌else◌, ◌⊎◌, List, [], ◌∷◌, ◌++◌, map}
use Rattle.std.specs.List.{AllByRecursion}
use Rattle.streams.specs.Lists.{IsIn}
use Rattle.streams.specs.Plans.{inner, IsLegal}
use Rattle.streams.specs.Streams.{Item, row, end, has_end, whole, rows, rows_of, emits}
use Rattle.streams.specs.Core.{Player, Lane, same_lane, Parcel, Shape, State, Event, is_enabled, done, of_lane, set, start, WasFed, IsFinished}
use Rattle.streams.specs.Wiring.{Plan, net_of, IsWired}
use Rattle.core_laws.specs.Driven.{plan_shape}
use Rattle.core_laws.specs.Files.{file_of, is_file_queue}

-- What was read of each file: some rows, or all and the end. Nothing else is in these queues.
pub record AreRead {X F : Type 0} (plan : Plan X F) (read : Lane → List (Parcel X)) : Type 0 where
  pub lists : Lane → List X
  pub file : (q : Lane) → is_file_queue plan q ≡ true → (of_lane (file_of q) (read q) ≡ map row (lists q)) ⊎ (of_lane (file_of q) (read q) ≡ whole (lists q))
  pub others : (q : Lane) → is_file_queue plan q ≡ false → read q ≡ []
  pub home : (q : Lane) → AllByRecursion (λ (parcel : Parcel X). parcel.lane ≡ file_of q) (read q)

-- A state to which events lead: on each lane what was put, what is held and a rest are what is due; what a lane was given was fed or is in its queue; each parcel is in the queue of its lane;
-- and what was fed was wanted.
pub record Stands {X : Type 0} (shape : Shape X) (read : Lane → List (Parcel X)) (s : State X) : Type 0 where
  pub within : (p : Player) (k : Lane) → IsIn k (shape.lanes p) → (rest : List (Item X)) × (shape.due p k (s.feeds p) ≡ (s.put k ++ s.held k) ++ rest)
  pub lane : (c : Player) (k : Lane) → shape.comes c k ≡ true → of_lane k (read (shape.into k)) ++ s.put k ≡ of_lane k (s.feeds c) ++ of_lane k (s.queue (shape.into k))
  pub home : (q : Lane) → AllByRecursion (λ (parcel : Parcel X). (shape.into parcel.lane ≡ q) × ((c : Player) × (shape.comes c parcel.lane ≡ true))) (s.queue q)
  pub fed : (p : Player) → WasFed shape p (s.feeds p)
  pub unput : (k : Lane) → ((q : Player) → IsIn k (shape.lanes q) → ⊥) → s.put k ≡ []

-- a file of which the end wasn't read
abbrev pub is_open : {X F : Type 0} → Plan X F → (Lane → List (Parcel X)) → Lane → Bool
is_open plan read q = is_file_queue plan q && not (has_end (of_lane (file_of q) (read q)))

-- what comes at least of a file: its end
abbrev pub to_come : {X F : Type 0} → Plan X F → (Lane → List (Parcel X)) → Lane → List (Parcel X)
to_come plan read q = if is_open plan read q then record { lane = file_of q; item = end } ∷ [] else []

abbrev pub awaiting : {X F : Type 0} → Plan X F → (Lane → List (Parcel X)) → State X → State X
awaiting plan read s = record { feeds = s.feeds; put = s.put; held = s.held; queue = λ q. s.queue q ++ to_come plan read q }

-- In every state that stands and isn't finished some event is enabled, where a file that hasn't ended counts as one from which something comes.
abbrev pub UntoldNeverStuck : Type 0 → Type 0 → Type 0
UntoldNeverStuck X F = (plan : Plan X F) → IsWired plan → (read : Lane → List (Parcel X)) → AreRead plan read → (capacity : ℕ) → 0 < capacity → (s : State X) → Stands (plan_shape plan) read s →
    IsFinished (plan_shape plan) s ⊎ ((event : Event) × (is_enabled (plan_shape plan) capacity (awaiting plan read s) event ≡ true))

-- one more item of a file
abbrev pub with_item : {X : Type 0} → (Lane → List (Parcel X)) → Lane → Item X → Lane → List (Parcel X)
with_item queues q item = set same_lane queues q (queues q ++ record { lane = file_of q; item = item } ∷ [])

-- What is read of a file that hasn't ended leaves what stands, whatever it is.
abbrev pub ReadingKeeps : Type 0 → Type 0 → Type 0
ReadingKeeps X F = (plan : Plan X F) → IsWired plan → (read : Lane → List (Parcel X)) → AreRead plan read → (s : State X) → Stands (plan_shape plan) read s → (q : Lane) (item : Item X) → is_open plan read q ≡ true →
    AreRead plan (with_item read q item) × Stands (plan_shape plan) (with_item read q item) (record { feeds = s.feeds; put = s.put; held = s.held; queue = with_item s.queue q item })

-- Each event leaves what stands.
abbrev pub UntoldStepKeeps : Type 0 → Type 0 → Type 0
UntoldStepKeeps X F = (plan : Plan X F) → IsWired plan → (read : Lane → List (Parcel X)) → AreRead plan read → (capacity : ℕ) (s : State X) → Stands (plan_shape plan) read s → (event : Event) → is_enabled (plan_shape plan) capacity s event ≡ true → Stands (plan_shape plan) read (done (plan_shape plan) s event)

-- The lists of a finished state that stands are a legal execution, where what was read of a file is the file.
abbrev pub UntoldFinishedIsLegal : Type 0 → Type 0 → Type 0
UntoldFinishedIsLegal X F = (plan : Plan X F) → IsWired plan → (read : Lane → List (Parcel X)) (are : AreRead plan read) (s : State X) → Stands (plan_shape plan) read s → IsFinished (plan_shape plan) s →
    let net = net_of plan in
    IsLegal net (λ k. are.lists (net.into k)) (λ k. rows (of_lane k (read (net.into k)) ++ s.put k)) (λ p i. rows_of i (inner net p (s.feeds p))) (λ p. emits (net.operator p) (inner net p (s.feeds p)))

-- Before anything was read the state with empty queues stands.
abbrev pub UntoldBegins : Type 0 → Type 0 → Type 0
UntoldBegins X F = (plan : Plan X F) → IsWired plan → AreRead plan (λ q. []) × Stands (plan_shape plan) (λ q. []) (start (λ q. []))
