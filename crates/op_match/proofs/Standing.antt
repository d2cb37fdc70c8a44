-- Which port is wanted, and what one more feed makes the streams give and leave.
use Rattle.std.proofs.Common.{◌≡◌, ℕ, zero, suc, ◌+◌, ◌<◌, ◌≤◌, ◌==◌, Bool, true, false, not, ◌&&◌, cond, refl, sym, ap, ap₂, ◌∙◌, subst, ◌⊎◌, inl, inr, List, [], ◌∷◌, ◌++◌, map, length, get_or, arith}
use Rattle.std.specs.List.{AllByRecursion, list_all}
use Rattle.std.proofs.lemmas.Bool.Decides.{eqb_tells}
use Rattle.streams.specs.Streams.{Feed, Out, Stream, ended}
use Rattle.streams.specs.Operators.{by_number, picks}
use Rattle.streams.proofs.Picks.{least_rank, not_true, picks_open, picks_single, picks_some}
use Rattle.streams.proofs.StreamLaws.{eq_false, eq_true, true_false, wants_open}
use Rattle.op_base.specs.declared.emit.Emit.{Emit}
use Rattle.op_base.specs.declared.fault.Fault.{Fault}
use Rattle.op_base.specs.declared.operator.Want.{Want}
use Rattle.op_base.specs.declared.operator.Want.TheVariants.{Port, Any, Nothing}
use Rattle.op_base.specs.Columns.{Row}
use Rattle.op_base.specs.Emits.{Adds}
use Rattle.op_base.specs.Feeds.{emits, end_at, fed, left, left_in, rows_in, run_done, runs_done}
use Rattle.op_base.specs.Meanings.{columns_of, input, ways_of}
use Rattle.op_base.specs.Standing.{Answers, end_feed, row_feed}
use Rattle.op_runs.specs.KeyedStreams.{KeyRule, at_ports, port_ends, run_asks, waiting}
use Rattle.op_runs.proofs.Ports.{get_or-ports, port_ends-end, port_ends-row}
use Rattle.op_runs.proofs.Settled.{hungry_or_ended}
use Rattle.op_runs.proofs.Given.{gives-end, gives-row, waiting-end, waiting-row}
use Rattle.op_match.specs.declared.side.Side.{Side}
use Rattle.op_match.specs.AreStreams.{sides_is}
use Rattle.op_match.specs.Waiting.{columns_in, ends_in, is_complete, keys_in, rows_waiting, sides_stream, ways_in, HaveSameWays, IsFresh, IsReady, IsSound, SidesStand}
use Rattle.op_match.specs.Rounds.{due, remaining, wanted_from, MayAdd}
use Rattle.op_match.proofs.Lengths.{length-sides}
use Rattle.op_match.proofs.Pieces.{side_done}

-- a port that asks, and none before it does
pub picks_is : (n p : ℕ) (asks : ℕ → Bool) → p < n → asks p ≡ true → ((q : ℕ) → q < p → asks q ≡ false) → (i : ℕ) → picks n by_number asks i ≡ (p == i)
picks_is n p asks lt a before i = elim (eqb_tells p i) [
  | inl t ↦ subst (λ j. picks n by_number asks j ≡ true) t.1 there ∙ sym t.0
  | inr t ↦ go (picks n by_number asks i) refl t.1 ∙ sym t.0
]
  where
    there : picks n by_number asks p ≡ true
    there =
        let k = picks_some n by_number asks p lt a in
        let o = picks_open n by_number asks k.0 k.1 in
        let low : k.0 ≤ p = least_rank n by_number asks k.0 p k.1 lt a in
        elim (eqb_tells k.0 p) [
          | inl t ↦ subst (λ j. picks n by_number asks j ≡ true) t.1 k.1
          | inr t ↦ absurd (true_false o.1 (before k.0 (lower k.0 p low t.1)))
        ]
      where
        lower : (x y : ℕ) → x ≤ y → (x ≡ y → ⊥) → x < y
        lower x y l ne = grind arith

    go : (b : Bool) → picks n by_number asks i ≡ b → (p ≡ i → ⊥) → b ≡ false
    go true e ne = absurd (ne (picks_single n by_number asks (λ x y l m h. h) p i there e))
    go false e ne = refl

-- no port asks
picks_none : (n : ℕ) (asks : ℕ → Bool) → ((q : ℕ) → q < n → asks q ≡ false) → (i : ℕ) → picks n by_number asks i ≡ false
picks_none n asks none i = go (picks n by_number asks i) refl
  where
    go : (b : Bool) → picks n by_number asks i ≡ b → b ≡ false
    go true e = let o = picks_open n by_number asks i e in absurd (true_false o.1 (none i o.0))
    go false e = refl

-- the side of a port
abbrev complete_at : List Side → ℕ → Bool
complete_at [] i = true
complete_at (s ∷ sides) zero = is_complete s
complete_at (s ∷ sides) (suc i) = complete_at sides i

done_at : (sides : List Side) (i : ℕ) → AllByRecursion IsReady sides → i < length sides → run_done (get_or (columns_in sides) i []) (get_or (ends_in sides) i false) (get_or (rows_waiting sides) i []) ≡ complete_at sides i
done_at [] i h l = absurd (omega (arith, l))
done_at (s ∷ sides) zero h l = side_done s h.0
done_at (s ∷ sides) (suc i) h l = done_at sides i h.1 (omega (arith, l))

-- that is wanted by an answer
abbrev is_wanted : Want → ℕ → Bool
is_wanted (Port p) i = p == i
is_wanted Any i = false
is_wanted Nothing i = false

zero_plus : (n : ℕ) → n ≡ 0 + n
zero_plus n = omega arith

-- what is found when the sides are gone through
pub record IsFound (sides : List Side) (start : ℕ) (k : ℕ) : Type 0 where
  pub there : k < length sides
  pub answer : wanted_from start sides ≡ Port (start + k)
  pub open_there : complete_at sides k ≡ false
  pub before : (q : ℕ) → q < k → complete_at sides q ≡ true

pub record IsNone (sides : List Side) (start : ℕ) : Type 0 where
  pub answer : wanted_from start sides ≡ Nothing
  pub all : (q : ℕ) → q < length sides → complete_at sides q ≡ true

found : (sides : List Side) (start : ℕ) → IsNone sides start ⊎ ((k : ℕ) × IsFound sides start k)
found [] start = inl (record { answer = refl; all = λ q l. absurd (omega (arith, l)) })
found (s ∷ sides) start = go (is_complete s) refl (found sides (start + 1))
  where
    next : (b : Bool) → is_complete s ≡ b → wanted_from start (s ∷ sides) ≡ cond b (wanted_from (start + 1) sides) (Port start)
    next b e = ap (λ c. cond c (wanted_from (start + 1) sides) (Port start)) e

    up : (n k : ℕ) → n + 1 + k ≡ n + suc k
    up n k = omega arith

    none_up : (n : ℕ) → n ≡ n + 0
    none_up n = omega arith

    each : (q : ℕ) → is_complete s ≡ true → ((p : ℕ) → p < q → complete_at sides p ≡ true) → (p : ℕ) → p < suc q → complete_at (s ∷ sides) p ≡ true
    each q e h zero l = e
    each q e h (suc p) l = h p (omega (arith, l))

    go : (b : Bool) → is_complete s ≡ b → IsNone sides (start + 1) ⊎ ((k : ℕ) × IsFound sides (start + 1) k) → IsNone (s ∷ sides) start ⊎ ((k : ℕ) × IsFound (s ∷ sides) start k)
    go false e rest = inr (0, record { there = omega arith; answer = next false e ∙ ap Port (none_up start); open_there = e; before = λ q l. absurd (omega (arith, l)) })
    go true e (inl none) = inl (record { answer = next true e ∙ none.answer; all = each (length sides) e none.all })
    go true e (inr r) = inr (suc r.0, record { there = let l = r.1.there in omega (arith, l); answer = next true e ∙ r.1.answer ∙ ap Port (up start r.0); open_there = r.1.open_there; before = each r.0 e r.1.before })

module _ (sides : List Side) (rule : KeyRule) (feeds : List (Feed Row)) (stands : SidesStand sides feeds) where
  asks_is : (i : ℕ) → i < length sides → run_asks (columns_in sides) feeds (waiting (ways_in sides) (columns_in sides) feeds) i ≡ not (complete_at sides i)
  asks_is i l =
      ap not
      (ap₂ (λ e inputs. run_done (get_or (columns_in sides) i []) e (get_or inputs i []))
      (sym (get_or-ports (λ j. ended j feeds) false i (length (columns_in sides)) (subst (λ n. i < n) (sym (length-sides sides)) l)) ∙ ap (λ es. get_or es i false) (sym stands.ends)) (sym stands.waits)
      ∙ done_at sides i stands.sound.ready l)

  -- the stream wants what is found
  pub wants_is : (i : ℕ) → (sides_stream sides rule).wants feeds i ≡ is_wanted (wanted_from 0 sides) i
  wants_is i = elim (found sides 0) [
    | inl none ↦ picks_none (length (columns_in sides)) (run_asks (columns_in sides) feeds (waiting (ways_in sides) (columns_in sides) feeds)) (λ q l. let m = subst (λ n. q < n) (length-sides sides) l in asks_is q m ∙ ap not (none.all q m)) i ∙ ap (λ w. is_wanted w i) (sym none.answer)
    | inr r ↦ picks_is (length (columns_in sides)) r.0 (run_asks (columns_in sides) feeds (waiting (ways_in sides) (columns_in sides) feeds)) (subst (λ n. r.0 < n) (sym (length-sides sides)) r.1.there)
        (asks_is r.0 r.1.there ∙ ap not r.1.open_there) (λ q l. asks_is q (let m = r.1.there in omega (arith, l, m)) ∙ ap not (r.1.before q l)) i ∙ ap (λ p. p == i) (zero_plus r.0) ∙ ap (λ w. is_wanted w i) (sym r.1.answer)
  ]

  answers_port : (p : ℕ) → wanted_from 0 sides ≡ Port p → 0 < length sides → Answers (Port p) (sides_stream sides rule) feeds
  answers_port p e some =
      let is : (i : ℕ) → (sides_stream sides rule).wants feeds i ≡ (p == i) = λ i. wants_is i ∙ ap (λ w. is_wanted w i) e in
      (is, wants_open (sides_stream sides rule) (sides_is sides rule some) feeds p (is p ∙ eq_true p p refl))

  answers_nothing : wanted_from 0 sides ≡ Nothing → Answers Nothing (sides_stream sides rule) feeds
  answers_nothing e = elim (hungry_or_ended (ways_in sides) (columns_in sides) rule feeds) [
    | inl w ↦ (let n : true ≡ false = sym w.1 ∙ wants_is w.0 ∙ ap (λ a. is_wanted a w.0) e in cc)
    | inr h ↦ h
  ]

  pub answers : 0 < length sides → Answers (wanted_from 0 sides) (sides_stream sides rule) feeds
  answers some = elim (found sides 0) [
    | inl none ↦ subst (λ w. Answers w (sides_stream sides rule) feeds) (sym none.answer) (answers_nothing none.answer)
    | inr r ↦ subst (λ w. Answers w (sides_stream sides rule) feeds) (sym r.1.answer) (answers_port (0 + r.0) r.1.answer some)
  ]

  may_at : (xs : List Side) (port : ℕ) → port < length xs → complete_at xs port ≡ false → MayAdd xs port
  may_at [] port l h = absurd (omega (arith, l))
  may_at (s ∷ xs) zero l h = h
  may_at (s ∷ xs) (suc port) l h = may_at xs port (omega (arith, l)) h

  -- a port is wanted where its side's run isn't complete
  pub may_add : (port : ℕ) → (sides_stream sides rule).wants feeds port ≡ true → MayAdd sides port
  may_add port w =
      let o = picks_open (length (columns_in sides)) by_number (run_asks (columns_in sides) feeds (waiting (ways_in sides) (columns_in sides) feeds)) port w in
      let l = subst (λ n. port < n) (length-sides sides) o.0 in
      may_at sides port l (not_true (complete_at sides port) (sym (asks_is port l) ∙ o.1))

-- nothing was fed
no_rows : (s : ℕ) (columns : List (List ℕ)) → rows_in columns (at_ports (λ i. []) s (length columns)) ≡ 0
no_rows s [] = refl
no_rows s (cs ∷ columns) = let h = no_rows (suc s) columns in omega (arith, h)

no_ends : (sides : List Side) (s : ℕ) → AllByRecursion IsFresh sides → ends_in sides ≡ at_ports (λ i. false) s (length (columns_in sides))
no_ends [] s h = refl
no_ends (t ∷ sides) s h = ap₂ (λ x xs. x ∷ xs) h.0.over (no_ends sides (suc s) h.1)

none_wait : (sides : List Side) (s : ℕ) → AllByRecursion IsFresh sides → rows_waiting sides ≡ at_ports (λ i. []) s (length (columns_in sides))
none_wait [] s h = refl
none_wait (t ∷ sides) s h = ap₂ (λ x xs. x ∷ xs) h.0.rows (none_wait sides (suc s) h.1)

all_ready : (sides : List Side) → AllByRecursion IsFresh sides → AllByRecursion IsReady sides
all_ready [] h = tt
all_ready (s ∷ sides) h = (h.0.ready, all_ready sides h.1)

pub fresh_stands : (sides : List Side) → AllByRecursion IsFresh sides → HaveSameWays (keys_in sides) → SidesStand sides []
fresh_stands sides h w = record {
  sound = record { same_ways = w; ready = all_ready sides h };
  ends = no_ends sides 0 h;
  waits = none_wait sides 0 h ∙ sym (ap (λ k. left_in k (ways_in sides) (columns_in sides) (port_ends (length (columns_in sides)) []) (at_ports (λ i. []) 0 (length (columns_in sides)))) (no_rows 0 (columns_in sides)));
}

-- what a state with these keys, ends and rows gives, and leaves
due_is : (rule : KeyRule) (s t : List Side) (ends : List Bool) (rows : List (List Row)) → keys_in t ≡ keys_in s → ends_in t ≡ ends → rows_waiting t ≡ rows → due rule t ≡ emits (ways_in s) (columns_in s) rule ends rows
due_is rule s t ends rows same e w = ap (λ keys. emits (ways_of keys) (columns_of keys) rule (ends_in t) (rows_waiting t)) same ∙ ap₂ (emits (ways_in s) (columns_in s) rule) e w

remaining_is : (s t : List Side) (ends : List Bool) (rows : List (List Row)) → keys_in t ≡ keys_in s → ends_in t ≡ ends → rows_waiting t ≡ rows → remaining t ≡ left (ways_in s) (columns_in s) ends rows
remaining_is s t ends rows same e w = ap (λ keys. left (ways_of keys) (columns_of keys) (ends_in t) (rows_waiting t)) same ∙ ap₂ (left (ways_in s) (columns_in s)) e w

-- what stands after some feeds
stands_after : (s t : List Side) (feeds : List (Feed Row)) → IsSound t → keys_in t ≡ keys_in s → ends_in t ≡ port_ends (length (columns_in s)) feeds → rows_waiting t ≡ waiting (ways_in s) (columns_in s) feeds → SidesStand t feeds
stands_after s t feeds sound same ends rows = record {
  sound = sound;
  ends = ends ∙ ap (λ keys. port_ends (length (columns_of keys)) feeds) (sym same);
  waits = rows ∙ ap (λ keys. waiting (ways_of keys) (columns_of keys) feeds) (sym same);
}

-- s takes a row in and is t, which is settled and is u
module _ (rule : KeyRule) (s t : List Side) (port : ℕ) (r : Row) (feeds other : List (Feed Row)) (others : SidesStand s other) (w : (sides_stream s rule).wants other port ≡ true) (tl : keys_in t ≡ keys_in s) (te : ends_in t ≡ ends_in s) (tw : rows_waiting t ≡ fed port r (rows_waiting s)) (stands : SidesStand s feeds) where
  here : (sides_stream s rule).wants feeds port ≡ true
  here = wants_is s rule feeds stands port ∙ sym (wants_is s rule other others port) ∙ w

  pub row_stands : (u : List Side) → IsSound u → keys_in u ≡ keys_in t → ends_in u ≡ ends_in t → rows_waiting u ≡ remaining t → SidesStand u (feeds ++ row_feed port r ∷ [])
  row_stands u sound ul ue uw =
      stands_after s u (feeds ++ row_feed port r ∷ []) sound (ul ∙ tl) (ue ∙ te ∙ stands.ends ∙ sym (port_ends-row (length (columns_in s)) port r feeds))
      (uw ∙ remaining_is s t (port_ends (length (columns_in s)) feeds) (fed port r (waiting (ways_in s) (columns_in s) feeds)) tl (te ∙ stands.ends) (tw ∙ ap (fed port r) stands.waits)
      ∙ sym (waiting-row (ways_in s) (columns_in s) rule feeds port r here))

  pub row_emits : (before now : Emit) → Adds before now (due rule t) → Adds before now ((sides_stream s rule).gives feeds (row_feed port r))
  row_emits before now added =
      let P : List (Out Row Fault) → Type 0 = λ outs. Adds before now outs in
      subst P (due_is rule s t (port_ends (length (columns_in s)) feeds) (fed port r (waiting (ways_in s) (columns_in s) feeds)) tl (te ∙ stands.ends) (tw ∙ ap (fed port r) stands.waits)
      ∙ sym (gives-row (ways_in s) (columns_in s) rule feeds port r here)) added

-- the same of an end
module _ (rule : KeyRule) (s t : List Side) (port : ℕ) (feeds : List (Feed Row)) (tl : keys_in t ≡ keys_in s) (te : ends_in t ≡ end_at port (ends_in s)) (tw : rows_waiting t ≡ rows_waiting s) (stands : SidesStand s feeds) where
  pub end_stands : (u : List Side) → IsSound u → keys_in u ≡ keys_in t → ends_in u ≡ ends_in t → rows_waiting u ≡ remaining t → SidesStand u (feeds ++ end_feed port ∷ [])
  end_stands u sound ul ue uw =
      stands_after s u (feeds ++ end_feed port ∷ []) sound (ul ∙ tl) (ue ∙ te ∙ ap (end_at port) stands.ends ∙ sym (port_ends-end (length (columns_in s)) port feeds))
      (uw ∙ remaining_is s t (end_at port (port_ends (length (columns_in s)) feeds)) (waiting (ways_in s) (columns_in s) feeds) tl (te ∙ ap (end_at port) stands.ends) (tw ∙ stands.waits)
      ∙ sym (waiting-end (ways_in s) (columns_in s) rule feeds port))

  pub end_emits : (before now : Emit) → Adds before now (due rule t) → Adds before now ((sides_stream s rule).gives feeds (end_feed port))
  end_emits before now added =
      let P : List (Out Row Fault) → Type 0 = λ outs. Adds before now outs in
      subst P (due_is rule s t (end_at port (port_ends (length (columns_in s)) feeds)) (waiting (ways_in s) (columns_in s) feeds) tl (te ∙ ap (end_at port) stands.ends) (tw ∙ stands.waits)
      ∙ sym (gives-end (ways_in s) (columns_in s) rule feeds port)) added
