-- What is done for each key value: the rows that have it in each input, and the order of the values.
use Rattle.std.specs.Prelude.{ℕ, zero, suc, Bool, true, false, not, List, [], ◌∷◌, ◌++◌, map}
use Rattle.std.specs.Ordering.{is_eq}
use Rattle.std.specs.Cmp.Lexicographic.{slice_cmp}
use Rattle.std.specs.List.{filter, flat_map}
use Rattle.ds_value.specs.declared.value.Value.{Value}
use Rattle.ds_value.specs.Values.{value_cmp}
use Rattle.ds_schema.specs.declared.key.Key.{Key}
use Rattle.ds_schema.specs.Rows.{cols, ways, val, sub, vals_cmp}
use Rattle.op_base.specs.Columns.{Row, is_in}
use Rattle.op_base.specs.Lists.{firsts}

-- the values that rows have in the keys' columns, each once, in the order of the keys
abbrev pub keys_of : List Key → List Row → List (List Value)
keys_of keys rows = firsts (vals_cmp (ways keys)) (map (val (cols keys)) rows)

-- what a rule gives for the rows of each value, in the order of the keys
abbrev pub by_key : {Y : Type 0} → List Key → (List Row → List Y) → List Row → List Y
by_key keys rule rows = flat_map (λ v. rule (sub (cols keys) v rows)) (keys_of keys rows)

-- sorted by the keys, rows of one value in their order
abbrev pub arranged : List Key → List Row → List Row
arranged keys rows = by_key keys (λ same. same) rows

-- the key values of all inputs, each with its own columns
abbrev pub keys_in : List (List ℕ) → List (List Row) → List (List Value)
keys_in [] inputs = []
keys_in (cs ∷ columns) [] = []
keys_in (cs ∷ columns) (rows ∷ inputs) = map (val cs) rows ++ keys_in columns inputs

-- the rows of one value in each input
abbrev pub subs : List (List ℕ) → List Value → List (List Row) → List (List Row)
subs [] v inputs = []
subs (cs ∷ columns) v [] = []
subs (cs ∷ columns) v (rows ∷ inputs) = sub cs v rows ∷ subs columns v inputs

abbrev pub same_vals : List Value → List Value → Bool
same_vals v u = is_eq (slice_cmp value_cmp u v)

-- each value once, where it comes first
abbrev pub seen : List (List Value) → List (List Value)
seen [] = []
seen (q ∷ qs) = q ∷ filter (λ u. not (same_vals q u)) (seen qs)

-- the order in which key values are gone through: that of the keys, or with -hash that of their first rows
abbrev pub in_order : Bool → List Bool → List (List Value) → List (List Value)
in_order false ways qs = firsts (vals_cmp ways) qs
in_order true ways qs = seen qs

-- what a rule gives for each value of any input
abbrev pub for_values : {Y : Type 0} → Bool → List Bool → List (List ℕ) → (List Value → List (List Row) → List Y) → List (List Row) → List Y
for_values hashes ways columns rule inputs = flat_map (λ v. rule v (subs columns v inputs)) (in_order hashes ways (keys_in columns inputs))

-- the keys of input i
abbrev pub get_keys : List (List Key) → ℕ → List Key
get_keys [] i = []
get_keys (K ∷ keys) zero = K
get_keys (K ∷ keys) (suc i) = get_keys keys i

-- the keys whose columns aren't in the first
abbrev pub without : List Key → List Key → List Key
without keys old = filter (λ (k : Key). not (is_in k.col (cols keys))) old
