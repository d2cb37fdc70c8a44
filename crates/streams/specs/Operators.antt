-- Operators and collectors as streams.
use Rattle.std.specs.Prelude.{ℕ, zero, suc, ◌+◌, ◌==◌, nat_lt, Bool, true, false, not, ◌&&◌, ◌||◌, if◌then◌else◌, Option, Some, None, List, [], ◌∷◌, ◌++◌, length}
use Rattle.std.specs.declared.cmp.Ordering.{Ordering}
use Rattle.std.specs.Ordering.{is_lt, is_gt}
use Rattle.streams.specs.Lists.{is_empty, runs_of}
use Rattle.streams.specs.Streams.{Item, row, end, Feed, Out, sends, Stream, ended, rows_of, all_below}

-- the ports that ask, of the first n: the one of least rank
abbrev pub picks : ℕ → (ℕ → ℕ) → (ℕ → Bool) → ℕ → Bool
picks n rank asks i = nat_lt i n && (asks i && all_below n (λ j. not (asks j) || not (nat_lt (rank j) (rank i))))

abbrev pub by_number : ℕ → ℕ
by_number i = i

-- each row at once
abbrev pub passing : {X F : Type 0} → Item X → List (Out X F)
passing (row x) = sends 0 x ∷ []
passing end = []

-- any port that hasn't ended
abbrev pub any_stream : {X F : Type 0} → ℕ → Stream X F
any_stream n = record { ports = n; wants = λ feeds i. nat_lt i n && not (ended i feeds); gives = λ feeds f. passing f.item }

-- the least port that hasn't ended
abbrev pub ordered_stream : {X F : Type 0} → ℕ → Stream X F
ordered_stream n = record { ports = n; wants = λ feeds. picks n by_number (λ i. not (ended i feeds)); gives = λ feeds f. passing f.item }

-- the port after the one that was fed last
abbrev pub turn_after : {X : Type 0} → ℕ → List (Feed X) → ℕ
turn_after t [] = t
turn_after t (f ∷ feeds) = turn_after (suc f.port) feeds

-- from t on, then from the first on
abbrev pub from_turn : ℕ → ℕ → ℕ → ℕ
from_turn n t i = if nat_lt i t then n + i else i

-- the ports in turn, ended ones skipped
abbrev pub round_robin_stream : {X F : Type 0} → ℕ → Stream X F
round_robin_stream n = record { ports = n; wants = λ feeds. picks n (from_turn n (turn_after 0 feeds)) (λ i. not (ended i feeds)); gives = λ feeds f. passing f.item }

-- an operator that keeps a state
pub record Machine (S X F : Type 0) : Type 0 where
  pub start : S
  pub next : S → Feed X → S
  pub wish : S → ℕ → Bool
  pub outs : S → Feed X → List (Out X F)

abbrev pub after : {S X F : Type 0} → Machine S X F → S → List (Feed X) → S
after m s [] = s
after m s (f ∷ feeds) = after m (m.next s f) feeds

abbrev pub machine_stream : {S X F : Type 0} → ℕ → Machine S X F → Stream X F
machine_stream n m = record { ports = n; wants = λ feeds. m.wish (after m m.start feeds); gives = λ feeds f. m.outs (after m m.start feeds) f }

-- One port.
abbrev pub one_wanted : {X : Type 0} → List (Feed X) → ℕ → Bool
one_wanted feeds i = nat_lt i 1 && not (ended 0 feeds)

-- for each row alone, at once
abbrev pub row_outs : {X F : Type 0} → (X → List (Out X F)) → Item X → List (Out X F)
row_outs g (row x) = g x
row_outs g end = []

abbrev pub rowwise : {X F : Type 0} → (X → List (Out X F)) → Stream X F
rowwise g = record { ports = 1; wants = one_wanted; gives = λ feeds f. row_outs g f.item }

-- what all rows make, at End
abbrev pub end_outs : {X F : Type 0} → List (Out X F) → Item X → List (Out X F)
end_outs outs (row x) = []
end_outs outs end = outs

abbrev pub at_end : {X F : Type 0} → (List X → List (Out X F)) → Stream X F
at_end f = record { ports = 1; wants = one_wanted; gives = λ feeds g. end_outs (f (rows_of 0 feeds)) g.item }

-- whether a row begins a run after these rows
abbrev pub begins_run : {X : Type 0} → (X → X → Bool) → List X → X → Bool
begins_run same [] x = true
begins_run same (y ∷ []) x = not (same y x)
begins_run same (y ∷ (z ∷ ys)) x = begins_run same (z ∷ ys) x

-- the first row of each run, at once
abbrev pub remdup_outs : {X F : Type 0} → (X → X → Bool) → List X → Item X → List (Out X F)
remdup_outs same before (row x) = if begins_run same before x then sends 0 x ∷ [] else []
remdup_outs same before end = []

abbrev pub remdup_stream : {X F : Type 0} → (X → X → Bool) → Stream X F
remdup_stream same = record { ports = 1; wants = one_wanted; gives = λ feeds f. remdup_outs same (rows_of 0 feeds) f.item }

-- the last of some runs, which may still grow
abbrev pub last_run : {X : Type 0} → List (List X) → List X
last_run [] = []
last_run (run ∷ []) = run
last_run (run ∷ (next ∷ runs)) = last_run (next ∷ runs)

-- a rule of a run, if there is one
abbrev pub ruled : {X F : Type 0} → (List X → List (Out X F)) → List X → List (Out X F)
ruled rule [] = []
ruled rule (x ∷ xs) = rule (x ∷ xs)

-- a rule of each run, once it is complete: a row that is not the same follows it, or End
abbrev pub run_outs : {X F : Type 0} → (X → X → Bool) → (List X → List (Out X F)) → List X → Item X → List (Out X F)
run_outs same rule before (row x) = if begins_run same before x then ruled rule (last_run (runs_of same before)) else []
run_outs same rule before end = ruled rule (last_run (runs_of same before))

abbrev pub run_stream : {X F : Type 0} → (X → X → Bool) → (List X → List (Out X F)) → Stream X F
run_stream same rule = record { ports = 1; wants = one_wanted; gives = λ feeds f. run_outs same rule (rows_of 0 feeds) f.item }

-- the first row of a run, and the last
abbrev pub first_outs : {X F : Type 0} → List X → List (Out X F)
first_outs [] = []
first_outs (x ∷ xs) = sends 0 x ∷ []

abbrev pub last_outs : {X F : Type 0} → List X → List (Out X F)
last_outs [] = []
last_outs (x ∷ []) = sends 0 x ∷ []
last_outs (x ∷ (y ∷ xs)) = last_outs (y ∷ xs)

abbrev pub remdup_last_stream : {X F : Type 0} → (X → X → Bool) → Stream X F
remdup_last_stream same = run_stream same last_outs

-- Two ports: a row of port 0 with the rows of port 1, which comes first.
abbrev pub second_first : ℕ → ℕ
second_first i = if i == 1 then 0 else 1

abbrev pub lookup_outs : {X F : Type 0} → (X → List X → List (Out X F)) → List X → Feed X → List (Out X F)
lookup_outs rule reference f = if f.port == 0 then row_outs (λ x. rule x reference) f.item else []

abbrev pub lookup_stream : {X F : Type 0} → (X → List X → List (Out X F)) → Stream X F
lookup_stream rule = record { ports = 2; wants = λ feeds. picks 2 second_first (λ i. not (ended i feeds)); gives = λ feeds f. lookup_outs rule (rows_of 1 feeds) f }

-- Runs of two ports, by an order.
abbrev pub front_run : {X : Type 0} → (X → Bool) → List X → List X
front_run p [] = []
front_run p (x ∷ xs) = if p x then x ∷ front_run p xs else []

abbrev pub behind_run : {X : Type 0} → (X → Bool) → List X → List X
behind_run p [] = []
behind_run p (x ∷ xs) = if p x then behind_run p xs else x ∷ xs

-- the rows that wait on a port, and whether it has ended
pub record Side (X : Type 0) : Type 0 where
  pub rows : List X
  pub over : Bool

abbrev pub has_other : {X : Type 0} → (X → Bool) → List X → Bool
has_other p [] = false
has_other p (x ∷ xs) = not (p x) || has_other p xs

-- the first run is complete: the port has ended, or a row of another value follows
abbrev pub run_complete : {X : Type 0} → (X → X → Bool) → Bool → List X → Bool
run_complete same over [] = over
run_complete same over (x ∷ xs) = over || has_other (same x) xs

pub record Two (X : Type 0) : Type 0 where
  pub left : Side X
  pub right : Side X

abbrev pub both_complete : {X : Type 0} → (X → X → Bool) → Two X → Bool
both_complete same s = run_complete same s.left.over s.left.rows && run_complete same s.right.over s.right.rows

-- the least of the first rows
abbrev pub least_first : {X : Type 0} → (X → X → Ordering) → List X → List X → Option X
least_first cmp [] [] = None
least_first cmp [] (b ∷ more) = Some b
least_first cmp (a ∷ rest) [] = Some a
least_first cmp (a ∷ rest) (b ∷ more) = if is_gt (cmp a b) then Some b else Some a

-- what some rounds emit, and what they leave
pub record Round (X F : Type 0) : Type 0 where
  pub outs : List (Out X F)
  pub left : Two X

abbrev pub rest_of : {X : Type 0} → (X → Bool) → Two X → Two X
rest_of p s = record { left = record { rows = behind_run p s.left.rows; over = s.left.over }; right = record { rows = behind_run p s.right.rows; over = s.right.over } }

abbrev pub then_round : {X F : Type 0} → List (Out X F) → Round X F → Round X F
then_round outs r = record { outs = outs ++ r.outs; left = r.left }

-- as long as both first runs are complete, those of the least value are taken off, and the rule is applied to them
abbrev pub rounds : {X F : Type 0} → (X → X → Bool) → (X → X → Ordering) → (List X → List X → List (Out X F)) → ℕ → Two X → Round X F
rounds same cmp rule zero s = record { outs = []; left = s }
rounds same cmp rule (suc n) s = if both_complete same s
    then elim (least_first cmp s.left.rows s.right.rows) [
      | None ↦ record { outs = []; left = s }
      | Some k ↦ then_round (rule (front_run (same k) s.left.rows) (front_run (same k) s.right.rows)) (rounds same cmp rule n (rest_of (same k) s))
    ]
    else record { outs = []; left = s }

abbrev pub waiting_rows : {X : Type 0} → Two X → ℕ
waiting_rows s = length s.left.rows + length s.right.rows

abbrev pub all_rounds : {X F : Type 0} → (X → X → Bool) → (X → X → Ordering) → (List X → List X → List (Out X F)) → Two X → Round X F
all_rounds same cmp rule s = rounds same cmp rule (waiting_rows s) s

abbrev pub side_with : {X : Type 0} → Side X → Item X → Side X
side_with s (row x) = record { rows = s.rows ++ x ∷ []; over = s.over }
side_with s end = record { rows = s.rows; over = true }

abbrev pub two_with : {X : Type 0} → Two X → Feed X → Two X
two_with s f = if f.port == 0 then record { left = side_with s.left f.item; right = s.right } else if f.port == 1 then record { left = s.left; right = side_with s.right f.item } else s

-- the least port whose first run isn't complete
abbrev pub run_asks : {X : Type 0} → (X → X → Bool) → Two X → ℕ → Bool
run_asks same s zero = not (run_complete same s.left.over s.left.rows)
run_asks same s (suc i) = not (run_complete same s.right.over s.right.rows)

abbrev pub join_machine : {X F : Type 0} → (X → X → Bool) → (X → X → Ordering) → (List X → List X → List (Out X F)) → Machine (Two X) X F
join_machine same cmp rule = record {
  start = record { left = record { rows = []; over = false }; right = record { rows = []; over = false } };
  next = λ s f. (all_rounds same cmp rule (two_with s f)).left;
  wish = λ s. picks 2 by_number (run_asks same s);
  outs = λ s f. (all_rounds same cmp rule (two_with s f)).outs;
}

abbrev pub join_stream : {X F : Type 0} → (X → X → Bool) → (X → X → Ordering) → (List X → List X → List (Out X F)) → Stream X F
join_stream same cmp rule = machine_stream 2 (join_machine same cmp rule)

-- Merging by an order: the rows that wait on each port, and which have ended.
pub record Waiting (X : Type 0) : Type 0 where
  pub rows : ℕ → List X
  pub over : ℕ → Bool

abbrev pub set_at : {A : Type 0} → (ℕ → A) → ℕ → A → ℕ → A
set_at f i v j = if j == i then v else f j

abbrev pub waiting_with : {X : Type 0} → Waiting X → ℕ → Item X → Waiting X
waiting_with s i (row x) = record { rows = set_at s.rows i (s.rows i ++ x ∷ []); over = s.over }
waiting_with s i end = record { rows = s.rows; over = set_at s.over i true }

-- a port asks where it hasn't ended and has no row waiting
abbrev pub merge_asks : {X : Type 0} → Waiting X → ℕ → Bool
merge_asks s i = not (s.over i) && is_empty (s.rows i)

-- the least front among the first n ports, and of equal ones the first
pub record Front (X : Type 0) : Type 0 where
  pub port : ℕ
  pub row : X
  pub rest : List X

abbrev pub better : {X : Type 0} → (X → X → Ordering) → Option (Front X) → ℕ → List X → Option (Front X)
better cmp best i [] = best
better cmp None i (x ∷ xs) = Some (record { port = i; row = x; rest = xs })
better cmp (Some b) i (x ∷ xs) = if is_lt (cmp x b.row) then Some (record { port = i; row = x; rest = xs }) else Some b

abbrev pub best_of : {X : Type 0} → (X → X → Ordering) → ℕ → (ℕ → List X) → Option (Front X)
best_of cmp zero rows = None
best_of cmp (suc n) rows = better cmp (best_of cmp n rows) n (rows n)

abbrev pub merge_ready : {X : Type 0} → ℕ → Waiting X → Bool
merge_ready n s = all_below n (λ i. not (merge_asks s i))

abbrev pub without_front : {X : Type 0} → Waiting X → Option (Front X) → Waiting X
without_front s None = s
without_front s (Some b) = record { rows = set_at s.rows b.port b.rest; over = s.over }

abbrev pub front_outs : {X F : Type 0} → Option (Front X) → List (Out X F)
front_outs None = []
front_outs (Some b) = sends 0 b.row ∷ []

abbrev pub merge_machine : {X F : Type 0} → ℕ → (X → X → Ordering) → Machine (Waiting X) X F
merge_machine n cmp = record {
  start = record { rows = λ i. []; over = λ i. false };
  next = λ s f. if merge_ready n (waiting_with s f.port f.item) then without_front (waiting_with s f.port f.item) (best_of cmp n (waiting_with s f.port f.item).rows) else waiting_with s f.port f.item;
  wish = λ s. picks n by_number (merge_asks s);
  outs = λ s f. if merge_ready n (waiting_with s f.port f.item) then front_outs (best_of cmp n (waiting_with s f.port f.item).rows) else [];
}

-- the least waiting row, as soon as every port that hasn't ended has one
abbrev pub merge_stream : {X F : Type 0} → ℕ → (X → X → Ordering) → Stream X F
merge_stream n cmp = machine_stream n (merge_machine n cmp)
