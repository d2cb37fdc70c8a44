-- What the collectors that pass each row at once want, and what they keep.
use Rattle.std.proofs.Common.{◌≡◌, ℕ, suc, ◌+◌, ◌<◌, ◌≤◌, ◌==◌, Bool, true, false, not, cond, ◌⊎◌, inl, inr, refl, sym, ap, ap₂, ◌∙◌, subst, List, [], ◌∷◌, ◌++◌, length, arith, get_or, set, Some, None}
use Rattle.std.specs.Prelude.{nat_lt}
use Rattle.std.proofs.lemmas.Bool.{lt-ltb, ltb-true, le-ltb, ltb-false}
use Rattle.std.proofs.lemmas.Bool.Decides.{eqb_tells}
use Rattle.std.proofs.lemmas.List.{get_or-set_same, get_or-set_other, length-set}
use Rattle.streams.specs.Streams.{Feed, ended}
use Rattle.streams.specs.Operators.{picks, by_number, from_turn, turn_after, any_stream, ordered_stream, round_robin_stream}
use Rattle.streams.proofs.Basics.{and_left}
use Rattle.streams.proofs.Picks.{not_true, picks_open, least_rank, turn_inj}
use Rattle.streams.proofs.StreamLaws.{all_from, not_all, true_false}
use Rattle.op_base.specs.declared.operator.Want.TheVariants.{Port, Any, Nothing}
use Rattle.op_base.specs.declared.fault.Fault.{Fault}
use Rattle.op_base.specs.Columns.{Row}
use Rattle.op_base.specs.Standing.{row_feed, end_feed, Answers}
use Rattle.op_base.proofs.StandingLaws.{ended-row}
use Rattle.op_collect.specs.AreStreams.{ordered_is, round_is}
use Rattle.op_collect.specs.Standing.{IsFirst, OrderedStands, RoundStands, GatherStands}
use Rattle.op_collect.proofs.Wanted.{wanted_is, answers_port, ended_more, turn_more}

-- Ordered
abbrev still : List (Feed Row) → ℕ → Bool
still feeds i = not (ended i feeds)

not_before : (turn : ℕ) (feeds : List (Feed Row)) → OrderedStands turn feeds → (i : ℕ) → still feeds i ≡ true → turn ≤ i
not_before turn feeds stands i h = ltb-false i turn (sym (stands.over_are i) ∙ not_true _ h)

turn_open : (turn : ℕ) (feeds : List (Feed Row)) → OrderedStands turn feeds → still feeds turn ≡ true
turn_open turn feeds stands = ap not (stands.over_are turn ∙ le-ltb turn turn (omega arith))

pub ordered_wants : (n turn : ℕ) → 0 < n → turn < n → (feeds : List (Feed Row)) → OrderedStands turn feeds → Answers (Port turn) (ordered_stream n) feeds
ordered_wants n turn some lt feeds stands = answers_port (ordered_stream n) (ordered_is n some) feeds turn (wanted_is n by_number (still feeds) turn lt (turn_open turn feeds stands) (λ i j li lj e. e) (λ j lj a. not_before turn feeds stands j a))

pub ordered_done : (n turn : ℕ) → n ≤ turn → (feeds : List (Feed Row)) → OrderedStands turn feeds → Answers Nothing (ordered_stream n) feeds
ordered_done n turn le feeds stands = all_from n (λ i. ended i feeds) (λ i lt. stands.over_are i ∙ lt-ltb i turn (omega arith))

-- the port that is wanted is the turn
pub ordered_port : (n turn port : ℕ) (feeds : List (Feed Row)) → OrderedStands turn feeds → picks n by_number (still feeds) port ≡ true → (port ≡ turn) × (turn < n)
ordered_port n turn port feeds stands w =
    let o = picks_open n by_number (still feeds) port w in
    let below : port < n = o.0 in
    let l : turn ≤ port = not_before turn feeds stands port o.1 in
    let there : turn < n = omega (arith, l, below) in
    let m : port ≤ turn = least_rank n by_number (still feeds) port turn w there (turn_open turn feeds stands) in
    (omega (arith, l, m), there)

pub ordered_row : (turn : ℕ) (feeds : List (Feed Row)) (port : ℕ) (r : Row) → OrderedStands turn feeds → OrderedStands turn (feeds ++ row_feed port r ∷ [])
ordered_row turn feeds port r stands = record { over_are = λ i. ended-row i feeds port r ∙ stands.over_are i }

pub ordered_end : (turn later : ℕ) (feeds : List (Feed Row)) (port : ℕ) → later ≡ suc turn → port ≡ turn → OrderedStands turn feeds → OrderedStands later (feeds ++ end_feed port ∷ [])
ordered_end turn later feeds port next is stands = subst (λ t. OrderedStands t (feeds ++ end_feed port ∷ [])) (sym next) (record { over_are = λ i. ended_more i port feeds ∙ ap₂ (λ p b. cond (p == i) true b) is (stands.over_are i) ∙ go i (eqb_tells turn i) (nat_lt i turn) refl })
  where
    past : (i : ℕ) → turn ≤ i → (turn ≡ i → ⊥) → suc turn ≤ i
    past i le ne = grind arith

    go : (i : ℕ) → (((turn == i) ≡ true) × (turn ≡ i)) ⊎ (((turn == i) ≡ false) × (turn ≡ i → ⊥)) → (b : Bool) → nat_lt i turn ≡ b → cond (turn == i) true (nat_lt i turn) ≡ nat_lt i (suc turn)
    go i (inl t) b e = ap (λ c. cond c true (nat_lt i turn)) t.0 ∙ sym (lt-ltb i (suc turn) (let same : turn ≡ i = t.1 in omega (arith, same)))
    go i (inr t) true e = ap (λ c. cond c true (nat_lt i turn)) t.0 ∙ e ∙ sym (lt-ltb i (suc turn) (let l : i < turn = ltb-true i turn e in omega (arith, l)))
    go i (inr t) false e = ap (λ c. cond c true (nat_lt i turn)) t.0 ∙ e ∙ sym (le-ltb i (suc turn) (past i (ltb-false i turn e) t.1))

-- Gather
module _ (n : ℕ) (over : List Bool) (each : length over ≡ n) where
  pub gather_wants : (w : ℕ) → IsFirst (λ i. get_or over i false) 0 n (Some w) → (feeds : List (Feed Row)) → GatherStands over feeds → Answers Any (any_stream n) feeds
  gather_wants w first feeds stands = (λ i. refl, not_all n (λ i. ended i feeds) w first.1 (sym (stands.over_are w (subst (λ m. w < m) (sym each) first.1)) ∙ first.2))

  pub gather_done : IsFirst (λ i. get_or over i false) 0 n None → (feeds : List (Feed Row)) → GatherStands over feeds → Answers Nothing (any_stream n) feeds
  gather_done none feeds stands = all_from n (λ i. ended i feeds) (λ i lt. sym (stands.over_are i (subst (λ m. i < m) (sym each) lt)) ∙ none i (omega arith) lt)

-- one more port has ended
ended_set : (over : List Bool) (feeds : List (Feed Row)) (port : ℕ) → port < length over → ((i : ℕ) → i < length over → get_or over i false ≡ ended i feeds) →
    (i : ℕ) → i < length (set over port true) → get_or (set over port true) i false ≡ ended i (feeds ++ end_feed port ∷ [])
ended_set over feeds port there old i lt = go (subst (λ k. i < k) (length-set over port true) lt) (eqb_tells port i) ∙ sym (ended_more i port feeds)
  where
    go : i < length over → (((port == i) ≡ true) × (port ≡ i)) ⊎ (((port == i) ≡ false) × (port ≡ i → ⊥)) → get_or (set over port true) i false ≡ cond (port == i) true (ended i feeds)
    go li (inl t) = ap (λ k. get_or (set over port true) k false) (sym t.1) ∙ get_or-set_same over port true false there ∙ sym (ap (λ b. cond b true (ended i feeds)) t.0)
    go li (inr t) = get_or-set_other over port i true false (λ e. t.1 (sym e)) ∙ old i li ∙ sym (ap (λ b. cond b true (ended i feeds)) t.0)

pub gather_row : (over : List Bool) (feeds : List (Feed Row)) (port : ℕ) (r : Row) → GatherStands over feeds → GatherStands over (feeds ++ row_feed port r ∷ [])
gather_row over feeds port r stands = record { over_are = λ i lt. stands.over_are i lt ∙ sym (ended-row i feeds port r) }

pub gather_end : (over : List Bool) (feeds : List (Feed Row)) (port : ℕ) → port < length over → GatherStands over feeds → GatherStands (set over port true) (feeds ++ end_feed port ∷ [])
gather_end over feeds port there stands = record { over_are = ended_set over feeds port there stands.over_are }

pub gather_port : (n : ℕ) (feeds : List (Feed Row)) (port : ℕ) → (any_stream {X = Row} {F = Fault} n).wants feeds port ≡ true → port < n
gather_port n feeds port w = ltb-true _ _ (and_left _ _ w)

-- Round
pub before_turn : (n t i : ℕ) → i < t → from_turn n t i ≡ n + i
before_turn n t i lt = ap (λ b. cond b (n + i) i) (lt-ltb i t lt)

pub from_then : (n t i : ℕ) → t ≤ i → from_turn n t i ≡ i
from_then n t i le = ap (λ b. cond b (n + i) i) (le-ltb i t le)

module _ (n : ℕ) (some : 0 < n) (over : List Bool) (each : length over ≡ n) (turn : ℕ) (within : turn ≤ n) where
  abbrev over_at : ℕ → Bool
  over_at i = get_or over i false

  tells : (feeds : List (Feed Row)) → RoundStands over turn feeds → (i : ℕ) → i < n → over_at i ≡ ended i feeds
  tells feeds stands i lt = stands.over_are i (subst (λ m. i < m) (sym each) lt)

  -- a port that hasn't ended isn't among some that have
  not_among : (feeds : List (Feed Row)) → RoundStands over turn feeds → (from to : ℕ) → ((i : ℕ) → from ≤ i → i < to → over_at i ≡ true) → (j : ℕ) → j < n → still feeds j ≡ true → from ≤ j → to ≤ j
  not_among feeds stands from to all j lj a le = go (nat_lt j to) refl
    where
      go : (b : Bool) → nat_lt j to ≡ b → to ≤ j
      go false e = ltb-false j to e
      go true e = absurd (true_false (all j le (ltb-true j to e)) (tells feeds stands j lj ∙ not_true _ a))

  wanted_by : (feeds : List (Feed Row)) → RoundStands over turn feeds → (w : ℕ) → w < n → over_at w ≡ false → ((j : ℕ) → j < n → still feeds j ≡ true → from_turn n turn w ≤ from_turn n turn j) → Answers (Port w) (round_robin_stream n) feeds
  wanted_by feeds stands w lt o least =
      answers_port (round_robin_stream n) (round_is n some) feeds w
      (subst (λ t. (i : ℕ) → picks n (from_turn n t) (still feeds) i ≡ (w == i)) stands.turn_is
      (wanted_is n (from_turn n turn) (still feeds) w lt (ap not (sym (tells feeds stands w lt) ∙ o)) (turn_inj n turn) least))

  pub round_wants : (w : ℕ) → IsFirst over_at turn n (Some w) → (feeds : List (Feed Row)) → RoundStands over turn feeds → Answers (Port w) (round_robin_stream n) feeds
  round_wants w first feeds stands = wanted_by feeds stands w first.1 first.2 (λ j lj a. go j lj a (nat_lt j turn) refl)
    where
      go : (j : ℕ) → j < n → still feeds j ≡ true → (b : Bool) → nat_lt j turn ≡ b → from_turn n turn w ≤ from_turn n turn j
      go j lj a true e =
          let x : from_turn n turn w ≡ w = from_then n turn w first.0 in
          let y : from_turn n turn j ≡ n + j = before_turn n turn j (ltb-true j turn e) in
          let l : w < n = first.1 in
          omega (arith, x, y, l)
      go j lj a false e =
          let le : turn ≤ j = ltb-false j turn e in
          let x : from_turn n turn w ≡ w = from_then n turn w first.0 in
          let y : from_turn n turn j ≡ j = from_then n turn j le in
          let l : w ≤ j = not_among feeds stands turn w first.3 j lj a le in
          omega (arith, x, y, l)

  pub round_wraps : (w : ℕ) → IsFirst over_at turn n None → IsFirst over_at 0 turn (Some w) → (feeds : List (Feed Row)) → RoundStands over turn feeds → Answers (Port w) (round_robin_stream n) feeds
  round_wraps w none first feeds stands = wanted_by feeds stands w (let l : w < turn = first.1 in omega (arith, l, within)) first.2 (λ j lj a. go j lj a (nat_lt j turn) refl)
    where
      go : (j : ℕ) → j < n → still feeds j ≡ true → (b : Bool) → nat_lt j turn ≡ b → from_turn n turn w ≤ from_turn n turn j
      go j lj a true e =
          let x : from_turn n turn w ≡ n + w = before_turn n turn w first.1 in
          let y : from_turn n turn j ≡ n + j = before_turn n turn j (ltb-true j turn e) in
          let l : w ≤ j = not_among feeds stands 0 w first.3 j lj a (omega arith) in
          omega (arith, x, y, l)
      go j lj a false e = absurd (let l : n ≤ j = not_among feeds stands turn n none j lj a (ltb-false j turn e) in omega (arith, l, lj))

  pub round_done : IsFirst over_at turn n None → IsFirst over_at 0 turn None → (feeds : List (Feed Row)) → RoundStands over turn feeds → Answers Nothing (round_robin_stream n) feeds
  round_done none front feeds stands = all_from n (λ i. ended i feeds) (λ i lt. sym (tells feeds stands i lt) ∙ go i lt (nat_lt i turn) refl)
    where
      go : (i : ℕ) → i < n → (b : Bool) → nat_lt i turn ≡ b → over_at i ≡ true
      go i lt true e = front i (omega arith) (ltb-true i turn e)
      go i lt false e = none i (ltb-false i turn e) lt

pub round_port : (n : ℕ) (feeds : List (Feed Row)) (port : ℕ) → (round_robin_stream {X = Row} {F = Fault} n).wants feeds port ≡ true → port < n
round_port n feeds port w = (picks_open n (from_turn n (turn_after 0 feeds)) (still feeds) port w).0

pub round_row : (over : List Bool) (turn later : ℕ) (feeds : List (Feed Row)) (port : ℕ) (r : Row) → later ≡ suc port → RoundStands over turn feeds → RoundStands over later (feeds ++ row_feed port r ∷ [])
round_row over turn later feeds port r is stands = record {
  over_are = λ i lt. stands.over_are i lt ∙ sym (ended-row i feeds port r);
  turn_is = is ∙ sym (turn_more 0 feeds (row_feed port r));
}

pub round_end : (over : List Bool) (turn later : ℕ) (feeds : List (Feed Row)) (port : ℕ) → later ≡ suc port → port < length over → RoundStands over turn feeds → RoundStands (set over port true) later (feeds ++ end_feed port ∷ [])
round_end over turn later feeds port is there stands = record {
  over_are = ended_set over feeds port there stands.over_are;
  turn_is = is ∙ sym (turn_more 0 feeds (end_feed port));
}
