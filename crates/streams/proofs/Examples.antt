-- A plan with three operators, whose links fit, and a run of it by events.
use Rattle.std.proofs.Common.{◌≡◌, ℕ, zero, suc, ◌%◌, ◌<◌, ◌==◌, true, false, cond, ◌⊎◌, inl, inr, refl, sym, List, [], ◌∷◌, map, arith}
use Rattle.std.specs.Ordering.{is_lt, nat_cmp}
use Rattle.streams.specs.Lists.{IsIn}
use Rattle.streams.specs.Streams.{row, end, sends, Stream, emits, IsStream, rows_out}
use Rattle.streams.specs.Core.{Player, Lane, Parcel, Event, take, put, hold, core}
use Rattle.streams.specs.Plans.{Net, shape_of, inner}
use Rattle.streams.specs.Operators.{rowwise, at_end, merge_stream}
use Rattle.streams.specs.Wiring.{shares, each, Wire, Plan, net_of, IsGathering, Leaves, IsWired}
use Rattle.streams.proofs.Collectors.{rowwise_is, at_end_is}
use Rattle.streams.proofs.Machines.{merge_collector}

abbrev insert_low : ℕ → List ℕ → List ℕ
insert_low x [] = x ∷ []
insert_low x (y ∷ ys) = cond (is_lt (nat_cmp y x)) (y ∷ insert_low x ys) (x ∷ (y ∷ ys))

abbrev sorted : List ℕ → List ℕ
sorted [] = []
sorted (x ∷ xs) = insert_low x (sorted xs)

-- a file's way, a route by parity, and a merge
abbrev wires : ℕ → Wire ℕ ⊥
wires zero = record { from = 0; out = 0; into = 0; port = 0; file = true; straight = true; gather = shares; goes = λ p t x j. true }
wires (suc zero) = record { from = 0; out = 0; into = 1; port = 0; file = false; straight = false; gather = shares; goes = λ p t x j. (x % 2) == j }
wires (suc (suc l)) = record { from = 1; out = 0; into = 2; port = 0; file = false; straight = false; gather = each (λ n. merge_stream n nat_cmp); goes = λ p t x j. true }

abbrev operators : ℕ → Stream ℕ ⊥
operators zero = rowwise (λ x. sends 0 x ∷ [])
operators (suc zero) = at_end (λ xs. map (sends 0) (sorted xs))
operators (suc (suc o)) = rowwise (λ x. sends 0 x ∷ [])

abbrev degrees : ℕ → ℕ
degrees zero = 1
degrees (suc zero) = 2
degrees (suc (suc o)) = 1

abbrev leaving : ℕ → List ℕ
leaving zero = 1 ∷ []
leaving (suc zero) = 2 ∷ []
leaving (suc (suc o)) = []

abbrev three : Plan ℕ ⊥
three = record { order = 0 ∷ 1 ∷ 2 ∷ []; degree = degrees; stream = operators; input = λ o i. o; outs = leaving; wire = wires }

zero_only : (i : ℕ) → i < 1 → i ≡ 0
zero_only i lt = omega arith

three_wired : IsWired three
three_wired = record {
  forward = (λ i lt. inl refl, λ h. h, (λ i lt. inr (inl refl, inl refl), λ h. no_one h, (λ i lt. inr (inl refl, inl refl), λ h. no_two h, tt)));
  degrees = positive;
  streams = streams;
  inputs = inputs;
  outputs = outputs;
}
  where
    no_one : (◌≡◌ {A = ℕ} 1 0) ⊎ ⊥ → ⊥
    no_one (inl e) = omega (arith, e)
    no_one (inr h) = h

    no_two : (◌≡◌ {A = ℕ} 2 1) ⊎ ((◌≡◌ {A = ℕ} 2 0) ⊎ ⊥) → ⊥
    no_two (inl e) = omega (arith, e)
    no_two (inr (inl e)) = omega (arith, e)
    no_two (inr (inr h)) = h

    positive : (o : ℕ) → IsIn o (0 ∷ 1 ∷ 2 ∷ []) → 0 < degrees o
    positive zero h = omega arith
    positive (suc zero) h = omega arith
    positive (suc (suc o)) h = omega arith

    streams : (o : ℕ) → IsIn o (0 ∷ 1 ∷ 2 ∷ []) → IsStream (operators o)
    streams zero h = rowwise_is (λ x. sends 0 x ∷ [])
    streams (suc zero) h = at_end_is (λ xs. map (sends 0) (sorted xs))
    streams (suc (suc o)) h = rowwise_is (λ x. sends 0 x ∷ [])

    big : (o : ℕ) → IsIn (suc (suc (suc o))) (0 ∷ 1 ∷ 2 ∷ []) → ⊥
    big o (inl e) = omega (arith, e)
    big o (inr (inl e)) = omega (arith, e)
    big o (inr (inr (inl e))) = omega (arith, e)
    big o (inr (inr (inr h))) = h

    inputs : (o i : ℕ) → IsIn o (0 ∷ 1 ∷ 2 ∷ []) → i < (operators o).ports → ((wires o).into ≡ o) × ((wires o).port ≡ i) × IsGathering (wires o).gather
    inputs zero i h lt = (refl, sym (zero_only i lt), tt)
    inputs (suc zero) i h lt = (refl, sym (zero_only i lt), tt)
    inputs (suc (suc zero)) i h lt = (refl, sym (zero_only i lt), λ n some. (merge_collector ⊥ n some nat_cmp, refl))
    inputs (suc (suc (suc o))) i h lt = absurd (big o h)

    outputs : (o l : ℕ) → IsIn o (0 ∷ 1 ∷ 2 ∷ []) → IsIn l (leaving o) → Leaves three o l
    outputs zero l h (inr i) = absurd i
    outputs zero zero h (inl e) = absurd (omega (arith, e))
    outputs zero (suc zero) h (inl e) = record { from = refl; no_file = refl; into = inr (inl refl); port = omega arith; input = refl; straight = λ s. cc }
    outputs zero (suc (suc l)) h (inl e) = absurd (omega (arith, e))
    outputs (suc zero) l h (inr i) = absurd i
    outputs (suc zero) zero h (inl e) = absurd (omega (arith, e))
    outputs (suc zero) (suc zero) h (inl e) = absurd (omega (arith, e))
    outputs (suc zero) (suc (suc zero)) h (inl e) = record { from = refl; no_file = refl; into = inr (inr (inl refl)); port = omega arith; input = refl; straight = λ s. cc }
    outputs (suc zero) (suc (suc (suc l))) h (inl e) = absurd (omega (arith, e))
    outputs (suc (suc o)) l h i = absurd i

-- the run
abbrev net : Net ℕ ⊥
net = net_of three

abbrev lane : ℕ → ℕ → ℕ → Lane
lane l p j = record { link = l; from = p; to = j }

abbrev player : ℕ → ℕ → Player
player o p = record { operator = o; partition = p }

abbrev file : Lane → List (Parcel ℕ)
file k = cond (k.link == 0) (record { lane = lane 0 0 0; item = row 5 } ∷ (record { lane = lane 0 0 0; item = row 2 } ∷ (record { lane = lane 0 0 0; item = row 3 } ∷ (record { lane = lane 0 0 0; item = end } ∷ [])))) []

abbrev events : List Event
events =
    take (player 0 0) (lane 0 0 0) ∷ put (player 0 0) (lane 1 0 1) ∷ take (player 0 0) (lane 0 0 0) ∷ hold (player 0 0) (lane 1 0 0) ∷ take (player 0 0) (lane 0 0 0) ∷ hold (player 0 0) (lane 1 0 1) ∷ put (player 0 0) (lane 1 0 0)
    ∷ take (player 0 0) (lane 0 0 0) ∷ hold (player 0 0) (lane 1 0 1) ∷ hold (player 0 0) (lane 1 0 0)
    ∷ take (player 1 0) (lane 1 0 0) ∷ put (player 0 0) (lane 1 0 0) ∷ take (player 1 0) (lane 1 0 0) ∷ put (player 1 0) (lane 2 0 0) ∷ hold (player 1 0) (lane 2 0 0)
    ∷ take (player 1 1) (lane 1 0 1) ∷ put (player 0 0) (lane 1 0 1) ∷ take (player 1 1) (lane 1 0 1) ∷ put (player 0 0) (lane 1 0 1) ∷ take (player 1 1) (lane 1 0 1)
    ∷ put (player 1 1) (lane 2 1 0) ∷ hold (player 1 1) (lane 2 1 0) ∷ hold (player 1 1) (lane 2 1 0)
    ∷ take (player 2 0) (lane 2 0 0) ∷ take (player 2 0) (lane 2 1 0) ∷ put (player 1 0) (lane 2 0 0) ∷ take (player 2 0) (lane 2 0 0) ∷ put (player 1 1) (lane 2 1 0) ∷ take (player 2 0) (lane 2 1 0)
    ∷ put (player 1 1) (lane 2 1 0) ∷ take (player 2 0) (lane 2 1 0) ∷ []

-- with room for one message in each queue, what comes out is 2, 3, 5
ran : rows_out (emits (net.operator (player 2 0)) (inner net (player 2 0) ((core (shape_of net) file 1 events).feeds (player 2 0)))) ≡ 2 ∷ 3 ∷ 5 ∷ []
ran = refl
