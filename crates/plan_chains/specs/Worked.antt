-- A plan of three operators in turn, on two partitions, whose links can both be combined; and a run of it as one operator.
use Rattle.std.specs.Prelude.{ℕ, zero, suc, ◌==◌, true, false, if◌then◌else◌, List, [], ◌∷◌, map}
use Rattle.std.specs.Ordering.{is_lt, nat_cmp}
use Rattle.streams.specs.Streams.{row, end, sends, Stream, emits, rows_out}
use Rattle.streams.specs.Core.{Lane, Parcel, Event, take, core}
use Rattle.streams.specs.Plans.{Net, shape_of, inner}
use Rattle.streams.specs.Operators.{rowwise, at_end}
use Rattle.streams.specs.Wiring.{shares, Wire, Plan, net_of}
use Rattle.plan_chains.specs.Chains.{chained}
use Rattle.plan_chains.specs.Combined.{part}

abbrev pub insert_low : ℕ → List ℕ → List ℕ
insert_low x [] = x ∷ []
insert_low x (y ∷ ys) = if is_lt (nat_cmp y x) then y ∷ insert_low x ys else x ∷ (y ∷ ys)

abbrev pub sorted : List ℕ → List ℕ
sorted [] = []
sorted (x ∷ xs) = insert_low x (sorted xs)

-- rows as they are, then sorted, then as they are
abbrev pub streams : ℕ → Stream ℕ ⊥
streams zero = rowwise (λ x. sends 0 x ∷ [])
streams (suc zero) = at_end (λ xs. map (sends 0) (sorted xs))
streams (suc (suc o)) = rowwise (λ x. sends 0 x ∷ [])

-- wire o leads to operator o, the first from a file
abbrev pub wires : ℕ → Wire ℕ ⊥
wires zero = record { from = 0; out = 0; into = 0; port = 0; file = true; straight = true; gather = shares; goes = λ p t x j. true }
wires (suc l) = record { from = l; out = 0; into = suc l; port = 0; file = false; straight = true; gather = shares; goes = λ p t x j. true }

abbrev pub leaving : ℕ → List ℕ
leaving zero = 1 ∷ []
leaving (suc zero) = 2 ∷ []
leaving (suc (suc o)) = []

abbrev pub in_turn : Plan ℕ ⊥
in_turn = record { order = 0 ∷ 1 ∷ 2 ∷ []; degree = λ o. 2; stream = streams; input = λ o i. o; outs = leaving; wire = wires }

abbrev pub as_one : Plan ℕ ⊥
as_one = chained in_turn (1 ∷ 2 ∷ [])

abbrev pub net : Net ℕ ⊥
net = net_of as_one

-- the first partition's file has 5, 2 and 3
abbrev pub file_lane : Lane
file_lane = record { link = 0; from = 0; to = 0 }

abbrev pub parcels : List (Parcel ℕ)
parcels = record { lane = file_lane; item = row 5 } ∷ record { lane = file_lane; item = row 2 } ∷ record { lane = file_lane; item = row 3 } ∷ record { lane = file_lane; item = end } ∷ []

abbrev pub files : Lane → List (Parcel ℕ)
files k = if k.to == 0 then parcels else []

abbrev pub takes : List Event
takes = take (part 0 0) file_lane ∷ take (part 0 0) file_lane ∷ take (part 0 0) file_lane ∷ take (part 0 0) file_lane ∷ []

-- what the one operator sent, once it has taken all
abbrev pub sent_rows : List ℕ
sent_rows = rows_out (emits (net.operator (part 0 0)) (inner net (part 0 0) ((core (shape_of net) files 1 takes).feeds (part 0 0))))
