-- What operators by keys do with their port lists, run by run: at once on whole lists, and row by row as they are fed.
use Rattle.std.specs.Prelude.{◌≡◌, ⊤, ℕ, zero, suc, ◌+◌, Bool, true, false, cond, ◌&&◌, List, [], ◌∷◌, ◌++◌, length, Option, Some, None}
use Rattle.std.specs.Ordering.{is_lt}
use Rattle.ds_value.specs.declared.value.Value.{Value}
use Rattle.ds_schema.specs.Rows.{val, has, vals_cmp}
use Rattle.op_base.specs.Columns.{Row}
use Rattle.op_base.specs.Lists.{IsArranged}

-- the first run of a list, if its value is v, and what is behind it
abbrev pub front : List ℕ → List Value → List Row → List Row
front cs v [] = []
front cs v (r ∷ rows) = cond (has cs v r) (r ∷ front cs v rows) []

abbrev pub behind : List ℕ → List Value → List Row → List Row
behind cs v [] = []
behind cs v (r ∷ rows) = cond (has cs v r) (behind cs v rows) (r ∷ rows)

abbrev pub fronts : List (List ℕ) → List Value → List (List Row) → List (List Row)
fronts [] v inputs = []
fronts (cs ∷ columns) v [] = []
fronts (cs ∷ columns) v (rows ∷ inputs) = front cs v rows ∷ fronts columns v inputs

abbrev pub behinds : List (List ℕ) → List Value → List (List Row) → List (List Row)
behinds [] v inputs = []
behinds (cs ∷ columns) v [] = []
behinds (cs ∷ columns) v (rows ∷ inputs) = behind cs v rows ∷ behinds columns v inputs

-- the value of a list's first run, if there is one
abbrev pub head_in : List ℕ → List Row → List (List Value)
head_in cs [] = []
head_in cs (r ∷ rows) = val cs r ∷ []

abbrev pub heads_in : List (List ℕ) → List (List Row) → List (List Value)
heads_in [] inputs = []
heads_in (cs ∷ columns) [] = []
heads_in (cs ∷ columns) (rows ∷ inputs) = head_in cs rows ++ heads_in columns inputs

abbrev pub least_of : List Bool → List Value → List (List Value) → List Value
least_of ds v [] = v
least_of ds v (u ∷ us) = least_of ds (cond (is_lt (vals_cmp ds u v)) u v) us

abbrev pub rows_in : List (List ℕ) → List (List Row) → ℕ
rows_in [] inputs = 0
rows_in (cs ∷ columns) [] = 0
rows_in (cs ∷ columns) (rows ∷ inputs) = length rows + rows_in columns inputs

-- k is the least value of the first runs: the runs of k are taken off, the rule for k is applied to them, and so on, n times at most
abbrev pub taken_off : {Y : Type 0} → List Bool → List (List ℕ) → (List Value → List (List Row) → List Y) → List (List Row) → (List (List Row) → List Y) → List (List Value) → List Y
taken_off ds columns rule inputs later [] = []
taken_off ds columns rule inputs later (v ∷ vs) = rule (least_of ds v vs) (fronts columns (least_of ds v vs) inputs) ++ later (behinds columns (least_of ds v vs) inputs)

abbrev pub run_by_run : {Y : Type 0} → ℕ → List Bool → List (List ℕ) → (List Value → List (List Row) → List Y) → List (List Row) → List Y
run_by_run zero ds columns rule inputs = []
run_by_run (suc n) ds columns rule inputs = taken_off ds columns rule inputs (run_by_run n ds columns rule) (heads_in columns inputs)

-- until all rows are taken
abbrev pub by_runs : {Y : Type 0} → List Bool → List (List ℕ) → (List Value → List (List Row) → List Y) → List (List Row) → List Y
by_runs ds columns rule inputs = run_by_run (rows_in columns inputs) ds columns rule inputs

abbrev pub has_some : {X : Type 0} → List X → Bool
has_some [] = false
has_some (x ∷ xs) = true

-- the first run of a port is complete once a row of another value or the end follows it; an ended port without rows counts as complete
abbrev pub run_done : List ℕ → Bool → List Row → Bool
run_done cs ended [] = ended
run_done cs ended (r ∷ rows) = cond ended true (has_some (behind cs (val cs r) rows))

abbrev pub runs_done : List (List ℕ) → List Bool → List (List Row) → Bool
runs_done [] ended inputs = true
runs_done (cs ∷ columns) [] inputs = false
runs_done (cs ∷ columns) (e ∷ ended) [] = false
runs_done (cs ∷ columns) (e ∷ ended) (rows ∷ inputs) = run_done cs e rows && runs_done columns ended inputs

-- what has been emitted of the lists that the ports have so far, and what of them is not yet taken off, in n rounds at most
abbrev pub emits_in : {Y : Type 0} → ℕ → List Bool → List (List ℕ) → (List Value → List (List Row) → List Y) → List Bool → List (List Row) → List Y
emits_in zero ds columns rule ended inputs = []
emits_in (suc n) ds columns rule ended inputs = cond (runs_done columns ended inputs) (taken_off ds columns rule inputs (emits_in n ds columns rule ended) (heads_in columns inputs)) []

abbrev pub rest_of : List Bool → List (List ℕ) → List (List Row) → (List (List Row) → List (List Row)) → List (List Value) → List (List Row)
rest_of ds columns inputs later [] = inputs
rest_of ds columns inputs later (v ∷ vs) = later (behinds columns (least_of ds v vs) inputs)

abbrev pub left_in : ℕ → List Bool → List (List ℕ) → List Bool → List (List Row) → List (List Row)
left_in zero ds columns ended inputs = inputs
left_in (suc n) ds columns ended inputs = cond (runs_done columns ended inputs) (rest_of ds columns inputs (left_in n ds columns ended) (heads_in columns inputs)) inputs

abbrev pub emits : {Y : Type 0} → List Bool → List (List ℕ) → (List Value → List (List Row) → List Y) → List Bool → List (List Row) → List Y
emits ds columns rule ended inputs = emits_in (rows_in columns inputs) ds columns rule ended inputs

abbrev pub left : List Bool → List (List ℕ) → List Bool → List (List Row) → List (List Row)
left ds columns ended inputs = left_in (rows_in columns inputs) ds columns ended inputs

-- each list is sorted by the keys, which lie in its own columns
abbrev pub AreSorted : List Bool → List (List ℕ) → List (List Row) → Type 0
AreSorted ds [] inputs = ⊤
AreSorted ds (cs ∷ columns) [] = ⊤
AreSorted ds (cs ∷ columns) (rows ∷ inputs) = IsArranged (λ x y. vals_cmp ds (val cs x) (val cs y)) rows × AreSorted ds columns inputs

-- a port hasn't ended
abbrev pub IsOpen : ℕ → List Bool → Type 0
IsOpen i [] = ⊥
IsOpen zero (e ∷ ended) = e ≡ false
IsOpen (suc i) (e ∷ ended) = IsOpen i ended

-- a row is fed to a port; a port ends
abbrev pub fed : ℕ → Row → List (List Row) → List (List Row)
fed i x [] = []
fed zero x (rows ∷ inputs) = (rows ++ (x ∷ [])) ∷ inputs
fed (suc i) x (rows ∷ inputs) = rows ∷ fed i x inputs

abbrev pub end_at : ℕ → List Bool → List Bool
end_at i [] = []
end_at zero (e ∷ ended) = true ∷ ended
end_at (suc i) (e ∷ ended) = e ∷ end_at i ended

-- the first row of each run at once: of rows after one of value v, if there was one
abbrev pub is_after : List ℕ → Option (List Value) → Row → Bool
is_after cs None r = false
is_after cs (Some v) r = has cs v r

abbrev pub at_once : List ℕ → Option (List Value) → List Row → List Row
at_once cs last [] = []
at_once cs last (r ∷ rows) = cond (is_after cs last r) (at_once cs last rows) (r ∷ at_once cs (Some (val cs r)) rows)

-- the value of the last row so far
abbrev pub value_after : List ℕ → Option (List Value) → List Row → Option (List Value)
value_after cs last [] = last
value_after cs last (r ∷ rows) = value_after cs (Some (val cs r)) rows
