-- Operators as streams: what they want, and what each feed makes them give.
use Rattle.std.specs.Prelude.{◌≡◌, ℕ, zero, suc, ◌<◌, ◌==◌, Bool, true, false, ◌&&◌, ◌||◌, if◌then◌else◌, ◌⊎◌, List, [], ◌∷◌, ◌++◌, map, ⊤}

-- a row, or the end of what comes: an item of a port, and a message of a lane
pub data Item (X : Type 0) : Type 0 where
  row : X → Item X
  end : Item X

-- an item that is fed on a port
pub record Feed (X : Type 0) : Type 0 where
  pub port : ℕ
  pub item : Item X

-- what an operator gives: a row on an output, or a fault
pub data Out (X F : Type 0) : Type 0 where
  sends : ℕ → X → Out X F
  fails : F → Out X F

-- the number of an operator's ports, which of them it wants after some feeds, and what one more feed makes it give; all of it total
pub record Stream (X F : Type 0) : Type 0 where
  pub ports : ℕ
  pub wants : List (Feed X) → ℕ → Bool
  pub gives : List (Feed X) → Feed X → List (Out X F)

-- the rows on an output
abbrev pub on : {X F : Type 0} → ℕ → List (Out X F) → List X
on i [] = []
on i (sends port x ∷ outs) = if port == i then x ∷ on i outs else on i outs
on i (fails fault ∷ outs) = on i outs

-- the rows on all outputs
abbrev pub rows_out : {X F : Type 0} → List (Out X F) → List X
rows_out [] = []
rows_out (sends port x ∷ outs) = x ∷ rows_out outs
rows_out (fails fault ∷ outs) = rows_out outs

abbrev pub faults_out : {X F : Type 0} → List (Out X F) → List F
faults_out [] = []
faults_out (sends port x ∷ outs) = faults_out outs
faults_out (fails fault ∷ outs) = fault ∷ faults_out outs

abbrev pub has_end : {X : Type 0} → List (Item X) → Bool
has_end [] = false
has_end (row x ∷ items) = has_end items
has_end (end ∷ items) = true

abbrev pub rows : {X : Type 0} → List (Item X) → List X
rows [] = []
rows (row x ∷ items) = x ∷ rows items
rows (end ∷ items) = rows items

-- the items that came on a port
abbrev pub items_of : {X : Type 0} → ℕ → List (Feed X) → List (Item X)
items_of i [] = []
items_of i (f ∷ feeds) = if f.port == i then f.item ∷ items_of i feeds else items_of i feeds

abbrev pub ended : {X : Type 0} → ℕ → List (Feed X) → Bool
ended i feeds = has_end (items_of i feeds)

abbrev pub rows_of : {X : Type 0} → ℕ → List (Feed X) → List X
rows_of i feeds = rows (items_of i feeds)

-- a test of each number below n
abbrev pub all_below : ℕ → (ℕ → Bool) → Bool
all_below zero p = true
all_below (suc n) p = p n && all_below n p

abbrev pub any_below : ℕ → (ℕ → Bool) → Bool
any_below zero p = false
any_below (suc n) p = p n || any_below n p

abbrev pub all_ended : {X F : Type 0} → Stream X F → List (Feed X) → Bool
all_ended operator feeds = all_below operator.ports (λ i. ended i feeds)

-- what some more feeds give
abbrev pub emits_after : {X F : Type 0} → Stream X F → List (Feed X) → List (Feed X) → List (Out X F)
emits_after operator done [] = []
emits_after operator done (f ∷ feeds) = operator.gives done f ++ emits_after operator (done ++ f ∷ []) feeds

abbrev pub emits : {X F : Type 0} → Stream X F → List (Feed X) → List (Out X F)
emits operator feeds = emits_after operator [] feeds

-- each item was fed on a port that was wanted then
abbrev pub FedAfter : {X F : Type 0} → Stream X F → List (Feed X) → List (Feed X) → Type 0
FedAfter operator done [] = ⊤
FedAfter operator done (f ∷ feeds) = (operator.wants done f.port ≡ true) × FedAfter operator (done ++ f ∷ []) feeds

abbrev pub Fed : {X F : Type 0} → Stream X F → List (Feed X) → Type 0
Fed operator feeds = FedAfter operator [] feeds

-- the rows of a list, and its end
abbrev pub whole : {X : Type 0} → List X → List (Item X)
whole xs = map row xs ++ end ∷ []

-- fed with these lists to their ends, in an order that it wants, the operator emits these outs
pub record Gives {X F : Type 0} (operator : Stream X F) (lists : ℕ → List X) (outs : List (Out X F)) : Type 0 where
  pub feeds : List (Feed X)
  pub fed : Fed operator feeds
  pub taken : (i : ℕ) → i < operator.ports → items_of i feeds ≡ whole (lists i)
  pub made : emits operator feeds ≡ outs

-- what every operator has
pub record IsStream {X F : Type 0} (operator : Stream X F) : Type 0 where
  -- it has a port
  pub some : 0 < operator.ports
  -- a port that it wants is there and hasn't ended
  pub opens : (feeds : List (Feed X)) (i : ℕ) → operator.wants feeds i ≡ true → (i < operator.ports) × (ended i feeds ≡ false)
  -- it wants a port until all have ended
  pub hungry : (feeds : List (Feed X)) → Fed operator feeds → ((i : ℕ) × (operator.wants feeds i ≡ true)) ⊎ (all_ended operator feeds ≡ true)

-- one port at a time is wanted: true of all but the any collector and the funnel
abbrev pub IsSingle : {X F : Type 0} → Stream X F → Type 0
IsSingle {X} operator = (feeds : List (Feed X)) (i j : ℕ) → operator.wants feeds i ≡ true → operator.wants feeds j ≡ true → i ≡ j

-- no more than one row, on output 0
abbrev pub AtMostOne : {X F : Type 0} → List (Out X F) → Type 0
AtMostOne [] = ⊤
AtMostOne (sends port x ∷ []) = port ≡ 0
AtMostOne (sends port x ∷ (o ∷ outs)) = ⊥
AtMostOne (fails fault ∷ outs) = ⊥

-- an operator that hands the rows of several lanes to one port
pub record IsCollector {X F : Type 0} (operator : Stream X F) : Type 0 where
  pub stream : IsStream operator
  -- no more than one row for a feed
  pub slim : (feeds : List (Feed X)) (f : Feed X) → Fed operator feeds → operator.wants feeds f.port ≡ true → AtMostOne (operator.gives feeds f)
  -- nothing for the feed that ends the last lane
  pub ends_bare : (feeds : List (Feed X)) (f : Feed X) → Fed operator feeds → operator.wants feeds f.port ≡ true → all_ended operator (feeds ++ f ∷ []) ≡ true → operator.gives feeds f ≡ []
