-- What operators mean, on small lists, by computing; wrong results are refused.
use Rattle.std.proofs.Common.{◌≡◌, ℕ, true, false, List, [], ◌∷◌, refl, lit<, Some}
use Rattle.std.specs.Prelude.{pos}
use Rattle.std.specs.declared.cmp.Ordering.TheVariants.{Less, Greater}
use Rattle.ds_value.specs.declared.value.Value.{Value}
use Rattle.ds_value.specs.declared.value.Value.TheVariants.{Int, Null}
use Rattle.ds_schema.specs.declared.key.Key.{Key}
use Rattle.op_base.specs.declared.fault.Fault.{Fault}
use Rattle.op_base.specs.declared.fault.FaultKind.TheVariants.{BadRecord, Overflow}
use Rattle.op_base.specs.Columns.{Row}
use Rattle.op_base.specs.Faults.{fault_cmp}
use Rattle.op_base.specs.Feeds.{by_runs, emits, left}
use Rattle.op_base.specs.Keyed.{arranged, by_key, for_values}
use Rattle.op_base.specs.Lists.{Interleaves, in_turn}
use Rattle.op_base.specs.Meanings.{Grouping, Join, Merging, Capture, input, one_row, group_rows, join_rule, merge_rule, change_rule}

abbrev n : ℕ → Value
n k = Int (pos k)

abbrev row : ℕ → ℕ → Row
row a b = n a ∷ (n b ∷ [])

abbrev up : ℕ → List Key
up c = record { col = c; desc = false } ∷ []

abbrev down : ℕ → List Key
down c = record { col = c; desc = true } ∷ []

abbrev rows : List Row
rows = row 2 10 ∷ ((Null ∷ (n 11 ∷ [])) ∷ (row 2 12 ∷ (row 1 13 ∷ [])))

-- nulls first, ties in their order
ascending : arranged (up 0) rows ≡ (Null ∷ (n 11 ∷ [])) ∷ (row 1 13 ∷ (row 2 10 ∷ (row 2 12 ∷ [])))
ascending = refl

-- the other way round, ties in their order all the same
descending : arranged (down 0) rows ≡ row 2 10 ∷ (row 2 12 ∷ (row 1 13 ∷ ((Null ∷ (n 11 ∷ [])) ∷ [])))
descending = refl

not_ties_turned : arranged (down 0) rows ≡ row 2 12 ∷ (row 2 10 ∷ (row 1 13 ∷ ((Null ∷ (n 11 ∷ [])) ∷ []))) → ⊥
not_ties_turned e = cc

-- the empty key leaves a list
no_keys : arranged [] rows ≡ rows
no_keys = refl

-- two keys, the second of which counts in a tie
two_keys : arranged (record { col = 0; desc = false } ∷ down 1) rows ≡ (Null ∷ (n 11 ∷ [])) ∷ (row 1 13 ∷ (row 2 12 ∷ (row 2 10 ∷ [])))
two_keys = refl

first_of_each : by_key (up 0) (one_row false) rows ≡ (Null ∷ (n 11 ∷ [])) ∷ (row 1 13 ∷ (row 2 10 ∷ []))
first_of_each = refl

last_of_each : by_key (up 0) (one_row true) rows ≡ (Null ∷ (n 11 ∷ [])) ∷ (row 1 13 ∷ (row 2 12 ∷ []))
last_of_each = refl

not_first_for_last : by_key (up 0) (one_row true) rows ≡ (Null ∷ (n 11 ∷ [])) ∷ (row 1 13 ∷ (row 2 10 ∷ [])) → ⊥
not_first_for_last e = cc

-- no key: one value, that of all rows
one_of_all : by_key [] (one_row false) rows ≡ row 2 10 ∷ []
one_of_all = refl

-- run by run, a value that comes again is another run
runs : by_runs (false ∷ []) ((0 ∷ []) ∷ []) (λ v same. one_row false (input 0 same)) ((row 2 1 ∷ (row 2 2 ∷ (row 1 3 ∷ (row 2 4 ∷ [])))) ∷ []) ≡ row 2 1 ∷ (row 1 3 ∷ (row 2 4 ∷ []))
runs = refl

-- one row in turn, an ended list skipped
turns : in_turn ((row 0 1 ∷ (row 0 2 ∷ [])) ∷ ([] ∷ ((row 2 1 ∷ []) ∷ []))) ≡ row 0 1 ∷ (row 2 1 ∷ (row 0 2 ∷ []))
turns = refl

interleaved : Interleaves ((row 0 1 ∷ (row 0 2 ∷ [])) ∷ ((row 1 1 ∷ []) ∷ [])) (row 0 1 ∷ (row 1 1 ∷ (row 0 2 ∷ [])))
interleaved = (0, row 0 2 ∷ [], lit< tt, refl, (1, [], lit< tt, refl, (0, [], lit< tt, refl, (refl, (refl, tt)))))

abbrev full : Join
full = record { left_keys = up 1; right_keys = up 0; left_others = 0 ∷ []; right_others = 1 ∷ []; keeps_left = true; keeps_right = true }

-- keys, left others, right others; unmatched rows of both sides, with nulls
joins : for_values false (false ∷ []) ((1 ∷ []) ∷ ((0 ∷ []) ∷ [])) (join_rule full) ((row 10 2 ∷ (row 11 1 ∷ (row 12 2 ∷ []))) ∷ ((row 2 20 ∷ (row 3 21 ∷ [])) ∷ []))
    ≡ (n 1 ∷ (n 11 ∷ (Null ∷ []))) ∷ ((n 2 ∷ (n 10 ∷ (n 20 ∷ []))) ∷ ((n 2 ∷ (n 12 ∷ (n 20 ∷ []))) ∷ ((n 3 ∷ (Null ∷ (n 21 ∷ []))) ∷ [])))
joins = refl

abbrev two : Merging
two = record { keys = up 1 ∷ (up 0 ∷ []); master = 0 ∷ (1 ∷ []); others = (1 ∷ []) ∷ []; keeps_bad = true; rejects = true }

-- key 1: the first update row is joined to both masters, the second is rejected; key 2: no master; key 3: a bad master, kept
merges : for_values false (false ∷ []) ((1 ∷ []) ∷ ((0 ∷ []) ∷ [])) (merge_rule two 0) ((row 10 1 ∷ (row 11 1 ∷ (row 12 3 ∷ []))) ∷ ((row 1 20 ∷ (row 1 21 ∷ (row 2 22 ∷ []))) ∷ []))
    ≡ (n 10 ∷ (n 1 ∷ (n 20 ∷ []))) ∷ ((n 11 ∷ (n 1 ∷ (n 20 ∷ []))) ∷ ((n 12 ∷ (n 3 ∷ (Null ∷ []))) ∷ []))
merges = refl

rejects : for_values false (false ∷ []) ((1 ∷ []) ∷ ((0 ∷ []) ∷ [])) (merge_rule two 1) ((row 10 1 ∷ (row 11 1 ∷ (row 12 3 ∷ []))) ∷ ((row 1 20 ∷ (row 1 21 ∷ (row 2 22 ∷ []))) ∷ [])) ≡ row 1 21 ∷ (row 2 22 ∷ [])
rejects = refl

abbrev captured : Capture
captured = record { keys = up 0; columns = 0 ∷ (1 ∷ []); values = 1 ∷ []; keeps_copy = false }

-- key 1: a copy, dropped, and an insert; key 2: an edit and a delete
changes : for_values false (false ∷ []) ((0 ∷ []) ∷ ((0 ∷ []) ∷ [])) (change_rule captured) ((row 1 5 ∷ (row 2 6 ∷ (row 2 7 ∷ []))) ∷ ((row 1 5 ∷ (row 1 8 ∷ (row 2 9 ∷ []))) ∷ []))
    ≡ (n 1 ∷ (n 8 ∷ (n 1 ∷ []))) ∷ ((n 2 ∷ (n 9 ∷ (n 3 ∷ []))) ∷ ((n 2 ∷ (n 7 ∷ (n 2 ∷ []))) ∷ []))
changes = refl

-- a left over row of one key is no pair for that of another
not_paired_across : for_values false (false ∷ []) ((0 ∷ []) ∷ ((0 ∷ []) ∷ [])) (change_rule captured) ((row 1 5 ∷ []) ∷ ((row 2 5 ∷ []) ∷ [])) ≡ (n 2 ∷ (n 5 ∷ (n 3 ∷ []))) ∷ [] → ⊥
not_paired_across e = cc

abbrev counts : Grouping
counts = record { keys = up 1; hashes = true; sees_order = false; results = λ same. Some []; over = λ v. record { op = 0; kind = Overflow; place = 0; bytes = [] } }

-- with -hash in the order of first rows, else in that of the keys
groups : for_values true (false ∷ []) ((1 ∷ []) ∷ []) (λ v same. group_rows counts v (input 0 same)) ((row 0 7 ∷ (row 1 3 ∷ (row 2 7 ∷ []))) ∷ []) ≡ (n 7 ∷ []) ∷ ((n 3 ∷ []) ∷ [])
groups = refl

sorted_groups : for_values false (false ∷ []) ((1 ∷ []) ∷ []) (λ v same. group_rows counts v (input 0 same)) ((row 0 7 ∷ (row 1 3 ∷ (row 2 7 ∷ []))) ∷ []) ≡ (n 3 ∷ []) ∷ ((n 7 ∷ []) ∷ [])
sorted_groups = refl

-- nothing is emitted of a run that may go on, and it is what is left
waits : emits (false ∷ []) ((0 ∷ []) ∷ []) (λ v same. one_row true (input 0 same)) (false ∷ []) ((row 1 1 ∷ (row 1 2 ∷ (row 2 3 ∷ []))) ∷ []) ≡ row 1 2 ∷ []
waits = refl

waiting : left (false ∷ []) ((0 ∷ []) ∷ []) (false ∷ []) ((row 1 1 ∷ (row 1 2 ∷ (row 2 3 ∷ []))) ∷ []) ≡ (row 2 3 ∷ []) ∷ []
waiting = refl

abbrev fault : ℕ → Fault
fault o = record { op = o; kind = BadRecord; place = 2; bytes = 120 ∷ [] }

abbrev other_kind : Fault
other_kind = record { op = 1; kind = Overflow; place = 0; bytes = [] }

-- by operator, then by kind
faults : (fault_cmp (fault 0) other_kind ≡ Less) × (fault_cmp (fault 1) other_kind ≡ Less) × (fault_cmp (fault 2) other_kind ≡ Greater)
faults = (refl, refl, refl)
