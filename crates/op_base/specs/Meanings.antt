-- What operators mean on whole lists: import, dsread, group, joins, merge, lookup and changecapture, key value by key value.
use Rattle.std.specs.Prelude.{ℕ, zero, suc, Bool, true, false, cond, not, ◌&&◌, List, [], ◌∷◌, ◌++◌, map, take, drop, pos, Option, Some, None, get_or}
use Rattle.std.specs.List.{flat_map}
use Rattle.ds_value.specs.declared.value.Value.{Value}
use Rattle.ds_value.specs.declared.value.Value.TheVariants.{Int}
use Rattle.ds_schema.specs.declared.key.Key.{Key}
use Rattle.ds_schema.specs.Rows.{cols, ways, val}
use Rattle.op_base.specs.declared.fault.Fault.{Fault}
use Rattle.op_base.specs.declared.missing.Missing.{Missing}
use Rattle.op_base.specs.declared.missing.Missing.TheVariants as missing
use Rattle.op_base.specs.Columns.{Row, no_row}
use Rattle.op_base.specs.Keyed.{same_vals}
use Rattle.op_base.specs.Lists.{last_one}

-- a good line as its row; a bad one as the row of its bytes, and as its fault
pub data Line : Type 0 where
  good : Row → Line
  bad : Row → Fault → Line

-- what is read of one partition of a data set
pub record Segment : Type 0 where
  pub rows : List Row
  pub faults : List Fault

-- group: its keys; -hash; whether it has a first or last result; the results of the rows of a value, or none where one overflows; the fault of that value
pub record Grouping : Type 0 where
  pub keys : List Key
  pub hashes : Bool
  pub sees_order : Bool
  pub results : List Row → Option (List Value)
  pub over : List Value → Fault

-- a join: the keys and the other columns of each side, and whose unmatched rows are kept
pub record Join : Type 0 where
  pub left_keys : List Key
  pub right_keys : List Key
  pub left_others : List ℕ
  pub right_others : List ℕ
  pub keeps_left : Bool
  pub keeps_right : Bool

-- merge: the keys of the master and of each update, all columns of the master, the other columns of each update; -keepbad, -reject
pub record Merging : Type 0 where
  pub keys : List (List Key)
  pub master : List ℕ
  pub others : List (List ℕ)
  pub keeps_bad : Bool
  pub rejects : Bool

-- lookup: the keys on both sides, all columns of the main input, the other columns of the reference
pub record Looking : Type 0 where
  pub main_keys : List Key
  pub reference_keys : List Key
  pub main : List ℕ
  pub others : List ℕ
  pub missing : Missing
  pub fault : Row → Fault

-- changecapture: the keys, all columns, the columns that are compared, -keepcopy
pub record Capture : Type 0 where
  pub keys : List Key
  pub columns : List ℕ
  pub values : List ℕ
  pub keeps_copy : Bool

-- inputs by port
abbrev pub input : ℕ → List (List Row) → List Row
input i inputs = get_or inputs i []

abbrev pub first_row : List Row → Row
first_row [] = no_row
first_row (r ∷ rows) = r

abbrev pub is_none : {X : Type 0} → List X → Bool
is_none [] = true
is_none (x ∷ xs) = false

abbrev pub are_none : {X : Type 0} → List (List X) → Bool
are_none [] = true
are_none (xs ∷ lists) = is_none xs && are_none lists

-- import: good lines to output 0, bad lines to output 1 with -reject and else as faults
abbrev pub line_rows : ℕ → Bool → Line → List Row
line_rows zero rejects (good r) = r ∷ []
line_rows zero rejects (bad r f) = []
line_rows (suc q) rejects (good r) = []
line_rows (suc q) rejects (bad r f) = cond rejects (r ∷ []) []

abbrev pub line_faults : Bool → Line → List Fault
line_faults rejects (good r) = []
line_faults rejects (bad r f) = cond rejects [] (f ∷ [])

-- remdup: the first row of a value, or with -last the last
abbrev pub one_row : Bool → List Row → List Row
one_row false rows = take 1 rows
one_row true rows = last_one rows

-- group: the keys, then the results
abbrev pub row_of : List Value → Option (List Value) → List Row
row_of v None = []
row_of v (Some xs) = (v ++ xs) ∷ []

abbrev pub overflow : Fault → Option (List Value) → List Fault
overflow f None = f ∷ []
overflow f (Some xs) = []

abbrev pub group_rows : Grouping → List Value → List Row → List Row
group_rows g v [] = []
group_rows g v (r ∷ rows) = row_of v (g.results (r ∷ rows))

abbrev pub group_faults : Grouping → List Value → List Row → List Fault
group_faults g v [] = []
group_faults g v (r ∷ rows) = overflow (g.over v) (g.results (r ∷ rows))

-- joins: the keys, then the left others, then the right others
abbrev pub join_row : Join → List Value → Row → Row → Row
join_row j v a b = v ++ (val j.left_others a ++ val j.right_others b)

abbrev pub join_rows : Join → List Value → List Row → List Row → List Row
join_rows j v [] [] = []
join_rows j v (a ∷ lefts) [] = cond j.keeps_left (map (λ x. join_row j v x no_row) (a ∷ lefts)) []
join_rows j v [] (b ∷ rights) = cond j.keeps_right (map (λ y. join_row j v no_row y) (b ∷ rights)) []
join_rows j v (a ∷ lefts) (b ∷ rights) = flat_map (λ x. map (λ y. join_row j v x y) (b ∷ rights)) (a ∷ lefts)

abbrev pub join_rule : Join → List Value → List (List Row) → List Row
join_rule j v inputs = join_rows j v (input 0 inputs) (input 1 inputs)

-- merge: the other columns of each update's first row
abbrev pub update_values : List (List ℕ) → List (List Row) → List Value
update_values [] updates = []
update_values (os ∷ others) [] = val os no_row ++ update_values others []
update_values (os ∷ others) (us ∷ updates) = val os (first_row us) ++ update_values others updates

-- output 0: each master row with the first row of each update; output i: the other rows of update i, or all where there is no master
abbrev pub merge_rule : Merging → ℕ → List Value → List (List Row) → List Row
merge_rule m zero v inputs = cond (are_none (drop 1 inputs) && not m.keeps_bad) [] (map (λ r. val m.master r ++ update_values m.others (drop 1 inputs)) (input 0 inputs))
merge_rule m (suc i) v inputs = cond m.rejects (cond (is_none (input 0 inputs)) (input (suc i) inputs) (drop 1 (input (suc i) inputs))) []

-- lookup: the main row, then the others of the first reference row of its key
abbrev pub if_continues : Missing → Row → List Row
if_continues missing.Continue r = r ∷ []
if_continues missing.Drop r = []
if_continues missing.Fail r = []
if_continues missing.Reject r = []

abbrev pub if_rejected : Missing → Row → List Row
if_rejected missing.Continue r = []
if_rejected missing.Drop r = []
if_rejected missing.Fail r = []
if_rejected missing.Reject r = r ∷ []

abbrev pub if_fails : Missing → Fault → List Fault
if_fails missing.Continue f = []
if_fails missing.Drop f = []
if_fails missing.Fail f = f ∷ []
if_fails missing.Reject f = []

abbrev pub looked_row : Looking → ℕ → Row → List Row → List Row
looked_row k zero a [] = if_continues k.missing (val k.main a ++ val k.others no_row)
looked_row k zero a (b ∷ found) = (val k.main a ++ val k.others b) ∷ []
looked_row k (suc q) a [] = if_rejected k.missing a
looked_row k (suc q) a (b ∷ found) = []

abbrev pub looked_fault : Looking → Row → List Row → List Fault
looked_fault k a [] = if_fails k.missing (k.fault a)
looked_fault k a (b ∷ found) = []

-- changecapture: the i-th row before with the i-th row after, then what is left over
abbrev pub coded : Capture → ℕ → Row → Row
coded c n r = val c.columns r ++ (Int (pos n) ∷ [])

abbrev pub change : Capture → Row → Row → List Row
change c b a = cond (same_vals (val c.values b) (val c.values a)) (cond c.keeps_copy (coded c 0 a ∷ []) []) (coded c 3 a ∷ [])

abbrev pub changes : Capture → List Row → List Row → List Row
changes c [] afters = map (coded c 1) afters
changes c (b ∷ befores) [] = map (coded c 2) (b ∷ befores)
changes c (b ∷ befores) (a ∷ afters) = change c b a ++ changes c befores afters

abbrev pub change_rule : Capture → List Value → List (List Row) → List Row
change_rule c v inputs = changes c (input 0 inputs) (input 1 inputs)

abbrev pub columns_of : List (List Key) → List (List ℕ)
columns_of keys = map cols keys

abbrev pub ways_of : List (List Key) → List Bool
ways_of [] = []
ways_of (keys ∷ more) = ways keys
