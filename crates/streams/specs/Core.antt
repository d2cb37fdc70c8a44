-- The step core: a state of lists, and what each event does to it.
use Rattle.std.specs.Prelude.{◌≡◌, ℕ, zero, suc, ◌+◌, ◌*◌, ◌^◌, ◌<◌, ◌==◌, nat_lt, Bool, true, false, not, ◌&&◌, ◌||◌, if◌then◌else◌, ◌⊎◌, List, [], ◌∷◌, ◌++◌, length, drop, fold, ⊤}
use Rattle.std.specs.List.{AllByRecursion}
use Rattle.streams.specs.Lists.{IsIn, any_of, all_of, is_empty}
use Rattle.streams.specs.Streams.{Item, has_end, whole}

-- a plan operator on one partition
pub record Player : Type 0 where
  pub operator : ℕ
  pub partition : ℕ

-- the way of a link from one producer partition to one consumer partition
pub record Lane : Type 0 where
  pub link : ℕ
  pub from : ℕ
  pub to : ℕ

abbrev pub same_player : Player → Player → Bool
same_player a b = (a.operator == b.operator) && (a.partition == b.partition)

abbrev pub same_lane : Lane → Lane → Bool
same_lane a b = (a.link == b.link) && ((a.from == b.from) && (a.to == b.to))

-- a message of a lane: in a queue, and as a feed of a player. The lane tells the queue.
pub record Parcel (X : Type 0) : Type 0 where
  pub lane : Lane
  pub item : Item X

-- The players, their lanes, and what each wants and owes. A queue is named by a lane; where several lead into it, by one of them.
pub record Shape (X : Type 0) : Type 0 where
  pub players : List Player  -- producers before their consumers
  pub lanes : Player → List Lane  -- that leave it
  pub comes : Player → Lane → Bool  -- whether a lane, or a file, leads to it
  pub queues : Player → List Lane  -- the names of its queues
  pub into : Lane → Lane  -- the queue into which a lane leads
  pub wanted : Player → List (Parcel X) → Lane → Bool  -- whether it wants a queue after these feeds
  pub due : Player → Lane → List (Parcel X) → List (Item X)  -- the messages of its lane after these feeds

pub record State (X : Type 0) : Type 0 where
  pub feeds : Player → List (Parcel X)
  pub put : Lane → List (Item X)
  pub held : Lane → List (Item X)
  pub queue : Lane → List (Parcel X)

pub data Event : Type 0 where
  take : Player → Lane → Event  -- from a queue
  put : Player → Lane → Event
  hold : Player → Lane → Event

abbrev pub set : {K A : Type 0} → (K → K → Bool) → (K → A) → K → A → K → A
set same f i v j = if same j i then v else f j

-- the messages of a lane among parcels
abbrev pub of_lane : {X : Type 0} → Lane → List (Parcel X) → List (Item X)
of_lane k [] = []
of_lane k (parcel ∷ parcels) = if same_lane parcel.lane k then parcel.item ∷ of_lane k parcels else of_lane k parcels

-- the due messages of a lane past put and held
abbrev pub outstanding : {X : Type 0} → Shape X → State X → Player → Lane → List (Item X)
outstanding shape s p k = drop (length (s.put k) + length (s.held k)) (shape.due p k (s.feeds p))

abbrev pub is_caught_up : {X : Type 0} → Shape X → State X → Player → Bool
is_caught_up shape s p = all_of (λ k. is_empty (outstanding shape s p k)) (shape.lanes p)

abbrev pub is_seated : {X : Type 0} → Shape X → Player → Bool
is_seated shape p = any_of (same_player p) shape.players

abbrev pub is_lane : {X : Type 0} → Shape X → Player → Lane → Bool
is_lane shape p k = is_seated shape p && any_of (same_lane k) (shape.lanes p)

abbrev pub is_enabled : {X : Type 0} → Shape X → ℕ → State X → Event → Bool
is_enabled shape capacity s (take p q) = is_seated shape p && (shape.wanted p (s.feeds p) q && (not (is_empty (s.queue q)) && is_caught_up shape s p))
is_enabled shape capacity s (put p k) = is_lane shape p k && (nat_lt (length (s.queue (shape.into k))) capacity && (not (is_empty (s.held k)) || not (is_empty (outstanding shape s p k))))
is_enabled shape capacity s (hold p k) = is_lane shape p k && not (is_empty (outstanding shape s p k))

-- the front of a queue goes to the feeds
abbrev pub taken_front : {X : Type 0} → State X → Player → Lane → List (Parcel X) → State X
taken_front s p q [] = s
taken_front s p q (parcel ∷ parcels) = record s {
  feeds = set same_player s.feeds p (s.feeds p ++ parcel ∷ []);
  queue = set same_lane s.queue q parcels;
}

-- a message goes to the back of the queue and to the put list: the first held one, else the first outstanding one
abbrev pub put_front : {X : Type 0} → Shape X → State X → Lane → List (Item X) → List (Item X) → State X
put_front shape s k [] [] = s
put_front shape s k [] (m ∷ ms) = record s {
  put = set same_lane s.put k (s.put k ++ m ∷ []);
  queue = set same_lane s.queue (shape.into k) (s.queue (shape.into k) ++ record { lane = k; item = m } ∷ []);
}
put_front shape s k (m ∷ ms) out = record s {
  put = set same_lane s.put k (s.put k ++ m ∷ []);
  held = set same_lane s.held k ms;
  queue = set same_lane s.queue (shape.into k) (s.queue (shape.into k) ++ record { lane = k; item = m } ∷ []);
}

abbrev pub hold_front : {X : Type 0} → State X → Lane → List (Item X) → State X
hold_front s k [] = s
hold_front s k (m ∷ ms) = record s { held = set same_lane s.held k (s.held k ++ m ∷ []) }

abbrev pub done : {X : Type 0} → Shape X → State X → Event → State X
done shape s (take p q) = taken_front s p q (s.queue q)
done shape s (put p k) = put_front shape s k (s.held k) (outstanding shape s p k)
done shape s (hold p k) = hold_front s k (outstanding shape s p k)

-- an event that isn't enabled changes nothing
abbrev pub step : {X : Type 0} → Shape X → ℕ → State X → Event → State X
step shape capacity s event = if is_enabled shape capacity s event then done shape s event else s

-- empty lists, but for the queues of sources, which are their files
abbrev pub start : {X : Type 0} → (Lane → List (Parcel X)) → State X
start files = record { feeds = λ p. []; put = λ k. []; held = λ k. []; queue = files }

abbrev pub core : {X : Type 0} → Shape X → (Lane → List (Parcel X)) → ℕ → List Event → State X
core shape files capacity events = fold (step shape capacity) (start files) events

abbrev pub HasEnded : {X : Type 0} → Shape X → Player → List (Parcel X) → Type 0
HasEnded shape p feeds = (k : Lane) → shape.comes p k ≡ true → has_end (of_lane k feeds) ≡ true

-- every queue has ended and every lane's put list is its due list
pub record IsFinished {X : Type 0} (shape : Shape X) (s : State X) : Type 0 where
  pub ended : (p : Player) → IsIn p shape.players → HasEnded shape p (s.feeds p)
  pub all_put : (p : Player) (k : Lane) → IsIn p shape.players → IsIn k (shape.lanes p) → s.put k ≡ shape.due p k (s.feeds p)

-- each item was fed from a queue that was wanted then, on a lane that hadn't ended
abbrev pub WasFedAfter : {X : Type 0} → Shape X → Player → List (Parcel X) → List (Parcel X) → Type 0
WasFedAfter shape p before [] = ⊤
WasFedAfter shape p before (f ∷ feeds) =
    (shape.comes p f.lane ≡ true) × (has_end (of_lane f.lane before) ≡ false) × (shape.wanted p before (shape.into f.lane) ≡ true) × WasFedAfter shape p (before ++ f ∷ []) feeds

abbrev pub WasFed : {X : Type 0} → Shape X → Player → List (Parcel X) → Type 0
WasFed shape p feeds = WasFedAfter shape p [] feeds

-- a lane into a wanted queue that hasn't ended
pub record Waits {X : Type 0} (shape : Shape X) (p : Player) (feeds : List (Parcel X)) : Type 0 where
  pub lane : Lane
  pub comes : shape.comes p lane ≡ true
  pub still : has_end (of_lane lane feeds) ≡ false
  pub wanted : shape.wanted p feeds (shape.into lane) ≡ true

-- each lane into a player comes from a file, or from a player before it
abbrev pub Forward : {X : Type 0} → Shape X → List Player → List Player → Type 0
Forward shape seen [] = ⊤
Forward shape seen (p ∷ players) = ((k : Lane) → shape.comes p k ≡ true → ((q : Player) → IsIn k (shape.lanes q) → ⊥) ⊎ ((q : Player) × IsIn q seen × IsIn k (shape.lanes q)))
    × (IsIn p seen → ⊥) × Forward shape (p ∷ seen) players

-- what the net of a plan is
pub record IsNet {X : Type 0} (shape : Shape X) : Type 0 where
  pub forward : Forward shape [] shape.players
  pub has_lane : (p : Player) (k : Lane) → IsIn k (shape.lanes p) → IsIn p shape.players
  pub has_input : (p : Player) (k : Lane) → shape.comes p k ≡ true → IsIn p shape.players
  pub one_producer : (p q : Player) (k : Lane) → IsIn k (shape.lanes p) → IsIn k (shape.lanes q) → p ≡ q
  pub reads : (p : Player) (k : Lane) → shape.comes p k ≡ true → IsIn (shape.into k) (shape.queues p)
  pub one_reader : (p r : Player) (q : Lane) → IsIn q (shape.queues p) → IsIn q (shape.queues r) → p ≡ r
  pub arrives : (p : Player) (k : Lane) → IsIn p shape.players → IsIn k (shape.lanes p) → (c : Player) × IsIn c shape.players × (shape.comes c k ≡ true)

-- what the players of a net do
pub record ArePlayers {X : Type 0} (shape : Shape X) : Type 0 where
  pub leads : (p : Player) → IsIn p shape.players → (feeds : List (Parcel X)) (q : Lane) → shape.wanted p feeds q ≡ true → (k : Lane) × (shape.comes p k ≡ true) × (shape.into k ≡ q)
  -- a player that hasn't ended wants a queue that hasn't
  pub hungry : (p : Player) → IsIn p shape.players → (feeds : List (Parcel X)) → WasFed shape p feeds → Waits shape p feeds ⊎ HasEnded shape p feeds
  pub begins : (p : Player) → IsIn p shape.players → (k : Lane) → shape.due p k [] ≡ []
  pub more : (p : Player) → IsIn p shape.players → (k : Lane) (feeds : List (Parcel X)) (f : Parcel X) → WasFed shape p (feeds ++ f ∷ []) → (ms : List (Item X)) × (shape.due p k (feeds ++ f ∷ []) ≡ shape.due p k feeds ++ ms)
  -- End is due once all has ended, and is the last message
  pub ends : (p : Player) → IsIn p shape.players → (k : Lane) (feeds : List (Parcel X)) → WasFed shape p feeds → HasEnded shape p feeds → has_end (shape.due p k feeds) ≡ true
  pub end_is_last : (p : Player) (k : Lane) (feeds : List (Parcel X)) (xs ys : List (Item X)) → shape.due p k feeds ≡ xs ++ ys → has_end xs ≡ true → ys ≡ []

-- a lane that no player has comes from a file, whose list has an end; the other queues are empty
pub record AreFiles {X : Type 0} (shape : Shape X) (files : Lane → List (Parcel X)) : Type 0 where
  pub lists : Lane → List X
  pub file : (p : Player) (k : Lane) → shape.comes p k ≡ true → ((q : Player) → IsIn k (shape.lanes q) → ⊥) → of_lane k (files (shape.into k)) ≡ whole (lists k)
  pub others : (p : Player) (k : Lane) → IsIn k (shape.lanes p) → of_lane k (files (shape.into k)) ≡ []
  pub home : (q : Lane) → AllByRecursion (λ (parcel : Parcel X). (shape.into parcel.lane ≡ q) × ((c : Player) × (shape.comes c parcel.lane ≡ true))) (files q)

-- in every state that events lead to and that isn't finished some event is enabled
abbrev pub NeverStuck : Type 0 → Type 0
NeverStuck X = (shape : Shape X) → IsNet shape → ArePlayers shape → (files : Lane → List (Parcel X)) → AreFiles shape files → (capacity : ℕ) → 0 < capacity → (events : List Event) →
    IsFinished shape (core shape files capacity events) ⊎ ((event : Event) × (is_enabled shape capacity (core shape files capacity events) event ≡ true))

abbrev pub total : {A : Type 0} → (A → ℕ) → List A → ℕ
total f [] = 0
total f (x ∷ xs) = f x + total f xs

-- three numbers of each player, one after another
abbrev pub loads_by : (Player → ℕ) → (Player → ℕ) → (Player → ℕ) → List Player → List ℕ
loads_by a b c [] = []
loads_by a b c (p ∷ players) = a p ∷ (b p ∷ (c p ∷ loads_by a b c players))

-- what a player's queues have, what it has outstanding, and what it holds
abbrev pub queued : {X : Type 0} → Shape X → State X → Player → ℕ
queued shape s p = total (λ q. length (s.queue q)) (shape.queues p)

abbrev pub left_over : {X : Type 0} → Shape X → State X → Player → ℕ
left_over shape s p = total (λ k. length (outstanding shape s p k)) (shape.lanes p)

abbrev pub held_back : {X : Type 0} → Shape X → State X → Player → ℕ
held_back shape s p = total (λ k. length (s.held k)) (shape.lanes p)

abbrev pub measure : {X : Type 0} → Shape X → State X → List ℕ
measure shape s = loads_by (queued shape s) (left_over shape s) (held_back shape s) shape.players

-- the first is below the second, compared from the front
abbrev pub Falls : List ℕ → List ℕ → Type 0
Falls [] old = ⊥
Falls (x ∷ xs) [] = ⊥
Falls (x ∷ xs) (y ∷ ys) = ((x < y) × (length xs ≡ length ys)) ⊎ ((x ≡ y) × Falls xs ys)

-- every enabled event lowers the measure, in any state
abbrev pub EachFalls : Type 0 → Type 0
EachFalls X = (shape : Shape X) → IsNet shape → ArePlayers shape → (capacity : ℕ) (s : State X) (event : Event) → is_enabled shape capacity s event ≡ true → Falls (measure shape (done shape s event)) (measure shape s)

-- some more steps, by a rule that chooses
abbrev pub chosen : {X : Type 0} → Shape X → ℕ → (State X → Event) → ℕ → State X → State X
chosen shape capacity choose zero s = s
chosen shape capacity choose (suc n) s = chosen shape capacity choose n (step shape capacity s (choose s))

-- what chooses an enabled event as long as one is comes to a finished state
abbrev pub Ends : Type 0 → Type 0
Ends X = (shape : Shape X) → IsNet shape → ArePlayers shape → (files : Lane → List (Parcel X)) → AreFiles shape files → (capacity : ℕ) → 0 < capacity → (choose : State X → Event) →
    ((s : State X) (event : Event) → is_enabled shape capacity s event ≡ true → is_enabled shape capacity s (choose s) ≡ true) →
    (n : ℕ) × IsFinished shape (chosen shape capacity choose n (start files))

-- the number that a list spells in a base, the measure of a loop in code
abbrev pub rank : ℕ → List ℕ → ℕ
rank b [] = 0
rank b (x ∷ xs) = x * b ^ length xs + rank b xs

abbrev pub RankFalls : Type 0
RankFalls = (b : ℕ) (new old : List ℕ) → Falls new old → AllByRecursion (λ x. x < b) new → rank b new < rank b old
