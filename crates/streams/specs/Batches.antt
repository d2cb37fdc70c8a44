-- The step core with messages of several rows.
use Rattle.std.specs.Prelude.{◌≡◌, ℕ, zero, suc, ◌+◌, ◌<◌, nat_lt, Bool, true, not, ◌&&◌, ◌||◌, if◌then◌else◌, ◌⊎◌, Option, Some, None, List, [], ◌∷◌, ◌++◌, length, drop, fold, map}
use Rattle.std.specs.List.{AllByRecursion}
use Rattle.streams.specs.Lists.{IsIn, is_empty, all_of}
use Rattle.streams.specs.Streams.{Item, row, end, rows, rows_of, emits, whole, all_ended, on}
use Rattle.streams.specs.Core.{Player, Lane, same_player, same_lane, Parcel, Shape, Event, take, put, hold, set, is_lane, is_seated, HasEnded, WasFed, IsNet, ArePlayers, total, loads_by, Falls}
use Rattle.streams.specs.Plans.{Net, sent, inner, shape_of, IsPlan, IsLegal}

-- a batch of rows, or End
pub data Message (X : Type 0) : Type 0 where
  batch : List X → Message X
  stop : Message X

abbrev pub unpack : {X : Type 0} → Message X → List (Item X)
unpack (batch xs) = map row xs
unpack stop = end ∷ []

abbrev pub unpack_all : {X : Type 0} → List (Message X) → List (Item X)
unpack_all [] = []
unpack_all (m ∷ ms) = unpack m ++ unpack_all ms

-- a message of a lane, in a queue
pub record Packet (X : Type 0) : Type 0 where
  pub lane : Lane
  pub message : Message X

pub record BatchState (X : Type 0) : Type 0 where
  pub feeds : Player → List (Parcel X)
  pub waiting : Lane → List (Parcel X)  -- of a queue: taken and not yet fed
  pub put : Lane → List (Message X)
  pub held : Lane → List (Message X)
  pub queue : Lane → List (Packet X)

-- the messages of each lane that are due
abbrev pub Due : Type 0 → Type 0
Due X = Player → Lane → List (Parcel X) → List (Message X)

abbrev pub messages_of : {X : Type 0} → Lane → List (Packet X) → List (Message X)
messages_of k [] = []
messages_of k (packet ∷ packets) = if same_lane packet.lane k then packet.message ∷ messages_of k packets else messages_of k packets

abbrev pub unpacked : {X : Type 0} → Packet X → List (Parcel X)
unpacked packet = map (λ item. record { lane = packet.lane; item = item }) (unpack packet.message)

abbrev pub batch_outstanding : {X : Type 0} → Due X → BatchState X → Player → Lane → List (Message X)
batch_outstanding due s p k = drop (length (s.put k) + length (s.held k)) (due p k (s.feeds p))

abbrev pub batch_caught_up : {X : Type 0} → Shape X → Due X → BatchState X → Player → Bool
batch_caught_up shape due s p = all_of (λ k. is_empty (batch_outstanding due s p k)) (shape.lanes p)

abbrev pub batch_enabled : {X : Type 0} → Shape X → Due X → ℕ → BatchState X → Event → Bool
batch_enabled shape due capacity s (take p q) = is_seated shape p && (shape.wanted p (s.feeds p) q && (not (is_empty (s.queue q)) && (is_empty (s.waiting q) && batch_caught_up shape due s p)))
batch_enabled shape due capacity s (put p k) = is_lane shape p k && (nat_lt (length (s.queue (shape.into k))) capacity && (not (is_empty (s.held k)) || not (is_empty (batch_outstanding due s p k))))
batch_enabled shape due capacity s (hold p k) = is_lane shape p k && not (is_empty (batch_outstanding due s p k))

-- the first of some queues that is wanted and has waiting items
abbrev pub ready : {X : Type 0} → Shape X → BatchState X → Player → List Lane → Option Lane
ready shape s p [] = None
ready shape s p (q ∷ qs) = if shape.wanted p (s.feeds p) q && not (is_empty (s.waiting q)) then Some q else ready shape s p qs

abbrev pub feed_front : {X : Type 0} → BatchState X → Player → Lane → List (Parcel X) → BatchState X
feed_front s p q [] = s
feed_front s p q (f ∷ rest) = record s { feeds = set same_player s.feeds p (s.feeds p ++ f ∷ []); waiting = set same_lane s.waiting q rest }

-- as long as a wanted queue has waiting items, the first of the least such queue goes to the feeds
abbrev pub feed_all : {X : Type 0} → Shape X → ℕ → Player → BatchState X → BatchState X
feed_all shape zero p s = s
feed_all shape (suc n) p s = elim (ready shape s p (shape.queues p)) [ None ↦ s | Some q ↦ feed_all shape n p (feed_front s p q (s.waiting q)) ]

abbrev pub all_waiting : {X : Type 0} → Shape X → BatchState X → Player → ℕ
all_waiting shape s p = total (λ q. length (s.waiting q)) (shape.queues p)

abbrev pub opened : {X : Type 0} → BatchState X → Lane → Packet X → List (Packet X) → BatchState X
opened s q packet packets = record s { waiting = set same_lane s.waiting q (unpacked packet); queue = set same_lane s.queue q packets }

-- the items of the front message wait, and are fed as far as they are wanted
abbrev pub batch_taken : {X : Type 0} → Shape X → BatchState X → Player → Lane → List (Packet X) → BatchState X
batch_taken shape s p q [] = s
batch_taken shape s p q (packet ∷ packets) = feed_all shape (all_waiting shape (opened s q packet packets) p) p (opened s q packet packets)

abbrev pub batch_put : {X : Type 0} → Shape X → BatchState X → Lane → List (Message X) → List (Message X) → BatchState X
batch_put shape s k [] [] = s
batch_put shape s k [] (m ∷ ms) = record s {
  put = set same_lane s.put k (s.put k ++ m ∷ []);
  queue = set same_lane s.queue (shape.into k) (s.queue (shape.into k) ++ record { lane = k; message = m } ∷ []);
}
batch_put shape s k (m ∷ ms) out = record s {
  put = set same_lane s.put k (s.put k ++ m ∷ []);
  held = set same_lane s.held k ms;
  queue = set same_lane s.queue (shape.into k) (s.queue (shape.into k) ++ record { lane = k; message = m } ∷ []);
}

abbrev pub batch_hold : {X : Type 0} → BatchState X → Lane → List (Message X) → BatchState X
batch_hold s k [] = s
batch_hold s k (m ∷ ms) = record s { held = set same_lane s.held k (s.held k ++ m ∷ []) }

abbrev pub batch_done : {X : Type 0} → Shape X → Due X → BatchState X → Event → BatchState X
batch_done shape due s (take p q) = batch_taken shape s p q (s.queue q)
batch_done shape due s (put p k) = batch_put shape s k (s.held k) (batch_outstanding due s p k)
batch_done shape due s (hold p k) = batch_hold s k (batch_outstanding due s p k)

abbrev pub batch_step : {X : Type 0} → Shape X → Due X → ℕ → BatchState X → Event → BatchState X
batch_step shape due capacity s event = if batch_enabled shape due capacity s event then batch_done shape due s event else s

abbrev pub batch_start : {X : Type 0} → (Lane → List (Packet X)) → BatchState X
batch_start files = record { feeds = λ p. []; waiting = λ q. []; put = λ k. []; held = λ k. []; queue = files }

abbrev pub batch_core : {X : Type 0} → Shape X → Due X → (Lane → List (Packet X)) → ℕ → List Event → BatchState X
batch_core shape due files capacity events = fold (batch_step shape due capacity) (batch_start files) events

pub record BatchFinished {X : Type 0} (shape : Shape X) (due : Due X) (s : BatchState X) : Type 0 where
  pub ended : (p : Player) → IsIn p shape.players → HasEnded shape p (s.feeds p)
  pub all_put : (p : Player) (k : Lane) → IsIn p shape.players → IsIn k (shape.lanes p) → s.put k ≡ due p k (s.feeds p)

-- the messages are a cutting of the items that are due
pub record Cuts {X : Type 0} (shape : Shape X) (due : Due X) : Type 0 where
  pub begins : (p : Player) → IsIn p shape.players → (k : Lane) → due p k [] ≡ []
  pub more : (p : Player) → IsIn p shape.players → (k : Lane) (feeds : List (Parcel X)) (f : Parcel X) → WasFed shape p (feeds ++ f ∷ []) → (ms : List (Message X)) × (due p k (feeds ++ f ∷ []) ≡ due p k feeds ++ ms)
  pub full : (p : Player) (k : Lane) (feeds : List (Parcel X)) → AllByRecursion (λ m. unpack m ≡ [] → ⊥) (due p k feeds)
  pub part : (p : Player) (k : Lane) (feeds : List (Parcel X)) → (rest : List (Item X)) × (shape.due p k feeds ≡ unpack_all (due p k feeds) ++ rest)
  pub all : (p : Player) → IsIn p shape.players → (k : Lane) (feeds : List (Parcel X)) → WasFed shape p feeds → HasEnded shape p feeds → unpack_all (due p k feeds) ≡ shape.due p k feeds

pub record BatchFiles {X : Type 0} (shape : Shape X) (files : Lane → List (Packet X)) : Type 0 where
  pub lists : Lane → List X
  pub file : (p : Player) (k : Lane) → shape.comes p k ≡ true → ((q : Player) → IsIn k (shape.lanes q) → ⊥) → unpack_all (messages_of k (files (shape.into k))) ≡ whole (lists k)
  pub others : (p : Player) (k : Lane) → IsIn k (shape.lanes p) → messages_of k (files (shape.into k)) ≡ []
  pub home : (q : Lane) → AllByRecursion (λ (packet : Packet X). (shape.into packet.lane ≡ q) × ((c : Player) × (shape.comes c packet.lane ≡ true))) (files q)

abbrev pub BatchNeverStuck : Type 0 → Type 0
BatchNeverStuck X = (shape : Shape X) → IsNet shape → ArePlayers shape → (due : Due X) → Cuts shape due → (files : Lane → List (Packet X)) → BatchFiles shape files → (capacity : ℕ) → 0 < capacity → (events : List Event) →
    BatchFinished shape due (batch_core shape due files capacity events) ⊎ ((event : Event) × (batch_enabled shape due capacity (batch_core shape due files capacity events) event ≡ true))

abbrev pub batch_queued : {X : Type 0} → Shape X → BatchState X → Player → ℕ
batch_queued shape s p = total (λ q. length (s.queue q)) (shape.queues p)

abbrev pub batch_left_over : {X : Type 0} → Shape X → Due X → BatchState X → Player → ℕ
batch_left_over shape due s p = total (λ k. length (batch_outstanding due s p k)) (shape.lanes p)

abbrev pub batch_held_back : {X : Type 0} → Shape X → BatchState X → Player → ℕ
batch_held_back shape s p = total (λ k. length (s.held k)) (shape.lanes p)

abbrev pub batch_measure : {X : Type 0} → Shape X → Due X → BatchState X → List ℕ
batch_measure shape due s = loads_by (batch_queued shape s) (batch_left_over shape due s) (batch_held_back shape s) shape.players

-- every enabled event lowers the measure, in every state that events lead to
abbrev pub BatchEachFalls : Type 0 → Type 0
BatchEachFalls X = (shape : Shape X) → IsNet shape → ArePlayers shape → (due : Due X) → Cuts shape due → (files : Lane → List (Packet X)) → BatchFiles shape files → (capacity : ℕ) (events : List Event) (event : Event) →
    let s = batch_core shape due files capacity events in
    batch_enabled shape due capacity s event ≡ true → Falls (batch_measure shape due (batch_done shape due s event)) (batch_measure shape due s)

-- Rows cut into batches: a batch is closed as soon as its size comes to the limit.
abbrev pub closed : {X : Type 0} → (X → ℕ) → ℕ → List X → ℕ → List X → List (Message X)
closed size limit begun weight [] = []
closed size limit begun weight (x ∷ xs) = if nat_lt (weight + size x) limit then closed size limit (begun ++ x ∷ []) (weight + size x) xs else batch (begun ++ x ∷ []) ∷ closed size limit [] 0 xs

abbrev pub begun_after : {X : Type 0} → (X → ℕ) → ℕ → List X → ℕ → List X → List X
begun_after size limit begun weight [] = begun
begun_after size limit begun weight (x ∷ xs) = if nat_lt (weight + size x) limit then begun_after size limit (begun ++ x ∷ []) (weight + size x) xs else begun_after size limit [] 0 xs

abbrev pub last_batch : {X : Type 0} → List X → List (Message X)
last_batch [] = []
last_batch (x ∷ xs) = batch (x ∷ xs) ∷ []

-- the messages of a lane: closed batches, and once all ports have ended the rest and End
abbrev pub cut : {X : Type 0} → (X → ℕ) → ℕ → List X → Bool → List (Message X)
cut size limit xs over = closed size limit [] 0 xs ++ (if over then last_batch (begun_after size limit [] 0 xs) ++ stop ∷ [] else [])

abbrev pub batch_owed : {X F : Type 0} → Net X F → (X → ℕ) → ℕ → Due X
batch_owed net size limit p k feeds = cut size limit (sent (net.goes k) 0 (on (net.out k) (emits (net.operator p) (inner net p feeds)))) (all_ended (net.operator p) (inner net p feeds))

-- the rows on a lane in a state
abbrev pub batch_lane_rows : {X F : Type 0} → Net X F → (Lane → List (Packet X)) → BatchState X → Lane → List X
batch_lane_rows net files s k = rows (unpack_all (messages_of k (files (net.into k)) ++ s.put k))

abbrev pub BatchFinishedIsLegal : Type 0 → Type 0 → Type 0
BatchFinishedIsLegal X F = (net : Net X F) → IsPlan net → (size : X → ℕ) (limit : ℕ) (files : Lane → List (Packet X)) (full : BatchFiles (shape_of net) files) (capacity : ℕ) (events : List Event) →
    BatchFinished (shape_of net) (batch_owed net size limit) (batch_core (shape_of net) (batch_owed net size limit) files capacity events) →
    let s = batch_core (shape_of net) (batch_owed net size limit) files capacity events in
    IsLegal net full.lists (batch_lane_rows net files s) (λ p i. rows_of i (inner net p (s.feeds p))) (λ p. emits (net.operator p) (inner net p (s.feeds p)))
