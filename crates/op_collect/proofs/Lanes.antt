-- How the lanes of a merge follow its stream.
use Rattle.std.proofs.Common.{◌≡◌, ℕ, zero, suc, ◌+◌, ◌<◌, ◌≤◌, Bool, true, false, not, ◌&&◌, cond, ◌⊎◌, inl, inr, refl, sym, ap, ap₂, ◌∙◌, subst, List, [], ◌∷◌, ◌++◌, length, map, arith, get_or, set, Option, Some, None}
use Rattle.std.specs.declared.cmp.Ordering.{Ordering}
use Rattle.std.specs.Ordering.{is_lt}
use Rattle.std.specs.Prelude.{nat_lt, option_map, is_some, IfSome}
use Rattle.std.proofs.lemmas.Bool.{ltb-true, ltb-false}
use Rattle.std.proofs.lemmas.Bool.Decides.{eqb_tells}
use Rattle.std.proofs.lemmas.List.{get_or-set_same, get_or-set_other, length-set}
use Rattle.streams.specs.Lists.{is_empty}
use Rattle.streams.specs.Streams.{Item, row, end, Feed, Out, sends, ended, all_below}
use Rattle.streams.specs.Operators.{picks, by_number, Machine, Waiting, waiting_with, merge_asks, Front, better, best_of, merge_ready, without_front, front_outs, merge_machine, merge_stream}
use Rattle.streams.proofs.Picks.{not_true, not_false, picks_open}
use Rattle.streams.proofs.StreamLaws.{all_from, not_all, true_false}
use Rattle.streams.proofs.Machines.{after-append, set_at-case, best_is, merge_over}
use Rattle.ds_schema.specs.declared.key.Key.{Key}
use Rattle.ds_schema.specs.Rows.{row_cmp}
use Rattle.op_base.specs.declared.fault.Fault.{Fault}
use Rattle.op_base.specs.declared.operator.Want.TheVariants.{Port, Nothing}
use Rattle.op_base.specs.Columns.{Row}
use Rattle.op_base.specs.Standing.{Answers}
use Rattle.op_collect.specs.declared.merging.Lane.{Lane}
use Rattle.op_collect.specs.declared.merging.Lane.TheVariants as lane
use Rattle.op_collect.specs.AreStreams.{sort_merge_is}
use Rattle.op_collect.specs.Merging.{asks, is_over, rows_waiting, asks_at, over_at, rows_at, row_in, row_at, row_of, is_before, least_of, all_ready, due, without_least, left_after, waiting, MergeStands}
use Rattle.op_collect.specs.Standing.{IsFirst}
use Rattle.op_collect.proofs.Wanted.{wanted_is, answers_port}

-- One lane
lane_asks : (l : Lane) → (not (is_over l) && is_empty (rows_waiting l)) ≡ asks l
lane_asks lane.Empty = refl
lane_asks (lane.Waiting r) = refl
lane_asks lane.Over = refl

asking : (l : Lane) → asks l ≡ true → (rows_waiting l ≡ []) × (is_over l ≡ false)
asking lane.Empty h = (refl, refl)
asking (lane.Waiting r) h = absurd (let e : false ≡ true = h in cc)
asking lane.Over h = absurd (let e : false ≡ true = h in cc)

one_row : (l : Lane) (x : Row) (xs : List Row) → rows_waiting l ≡ x ∷ xs → (xs ≡ []) × (is_over l ≡ false)
one_row lane.Empty x xs h = absurd (let e : [] ≡ x ∷ xs = h in cc)
one_row (lane.Waiting r) x xs h = (ap (λ l. elim l as (λ _. List Row) [ [] ↦ [] | y ∷ ys ↦ ys ]) (sym h), refl)
one_row lane.Over x xs h = absurd (let e : [] ≡ x ∷ xs = h in cc)

ended_lane : (l : Lane) → asks l ≡ false → rows_waiting l ≡ [] → is_over l ≡ true
ended_lane lane.Empty h e = absurd (let f : true ≡ false = h in cc)
ended_lane (lane.Waiting r) h e = absurd (let f : r ∷ [] ≡ [] = e in cc)
ended_lane lane.Over h e = refl

abbrev pub lane_with : Item Row → Lane
lane_with (row r) = lane.Waiting r
lane_with end = lane.Over

-- Tests and fronts that agree below n
all_same : (n : ℕ) (p q : ℕ → Bool) → ((i : ℕ) → i < n → p i ≡ q i) → all_below n p ≡ all_below n q
all_same zero p q h = refl
all_same (suc n) p q h = ap₂ (λ a b. a && b) (h n (omega arith)) (all_same n p q (λ i lt. h i (omega (arith, lt))))

best_same : (cmp : Row → Row → Ordering) (n : ℕ) (a b : ℕ → List Row) → ((i : ℕ) → i < n → a i ≡ b i) → best_of cmp n a ≡ best_of cmp n b
best_same cmp zero a b h = refl
best_same cmp (suc n) a b h = ap₂ (λ o xs. better cmp o n xs) (best_same cmp n a b (λ i lt. h i (omega (arith, lt)))) (h n (omega arith))

module _ (n : ℕ) (some : 0 < n) (keys : List Key) where
  abbrev M : Machine (Waiting Row) Row Fault
  M = merge_machine n (row_cmp keys)

  abbrev R : Row → Row → Ordering
  R = row_cmp keys

  -- each lane is as its port in a state of the stream
  pub record AreAs (s : Waiting Row) (lanes : List Lane) : Type 0 where
    pub rows_are : (i : ℕ) → i < n → s.rows i ≡ rows_at lanes i
    pub over_are : (i : ℕ) → i < n → s.over i ≡ over_at lanes i

  as_lanes : (lanes : List Lane) (feeds : List (Feed Row)) → MergeStands n keys lanes feeds → AreAs (waiting n keys feeds) lanes
  as_lanes lanes feeds stands = record { rows_are = stands.rows_are; over_are = stands.over_are }

  asks_is : (s : Waiting Row) (lanes : List Lane) → AreAs s lanes → (i : ℕ) → i < n → merge_asks s i ≡ asks_at lanes i
  asks_is s lanes alike i lt = ap₂ (λ o r. not o && is_empty r) (alike.over_are i lt) (alike.rows_are i lt) ∙ lane_asks (get_or lanes i lane.Over)

  -- What is wanted
  over_is : (feeds : List (Feed Row)) (i : ℕ) → (waiting n keys feeds).over i ≡ ended i feeds
  over_is feeds i = merge_over Fault n some R M.start feeds i

  pub merge_wants : (lanes : List Lane) (w : ℕ) → IsFirst (λ i. not (asks_at lanes i)) 0 n (Some w) → (feeds : List (Feed Row)) → MergeStands n keys lanes feeds → Answers (Port w) (merge_stream n R) feeds
  merge_wants lanes w first feeds stands =
      let alike = as_lanes lanes feeds stands in
      answers_port (merge_stream n R) (sort_merge_is n keys some) feeds w
      (wanted_is n by_number (merge_asks (waiting n keys feeds)) w first.1 (asks_is (waiting n keys feeds) lanes alike w first.1 ∙ not_false _ first.2) (λ i j li lj e. e) (λ j lj a. go j lj (sym (asks_is (waiting n keys feeds) lanes alike j lj) ∙ a) (nat_lt j w) refl))
    where
      go : (j : ℕ) → j < n → asks_at lanes j ≡ true → (b : Bool) → nat_lt j w ≡ b → w ≤ j
      go j lj a false e = ltb-false j w e
      go j lj a true e = absurd (true_false a (not_true _ (first.3 j (omega arith) (ltb-true j w e))))

  pub merge_done : (lanes : List Lane) → IsFirst (λ i. not (asks_at lanes i)) 0 n None → (feeds : List (Feed Row)) → MergeStands n keys lanes feeds → Answers Nothing (merge_stream n R) feeds
  merge_done lanes none feeds stands =
      let over = stands.settled (λ i lt. not_true _ (none i (omega arith) lt)) in
      all_from n (λ i. ended i feeds) (λ i lt. sym (over_is feeds i) ∙ stands.over_are i lt ∙ over i lt)

  -- the port that is wanted asks
  pub wanted_asks : (lanes : List Lane) (feeds : List (Feed Row)) (port : ℕ) → MergeStands n keys lanes feeds → picks n by_number (merge_asks (waiting n keys feeds)) port ≡ true → (port < n) × (asks_at lanes port ≡ true)
  wanted_asks lanes feeds port stands w =
      let o = picks_open n by_number (merge_asks (waiting n keys feeds)) port w in
      (o.0, sym (asks_is (waiting n keys feeds) lanes (as_lanes lanes feeds stands) port o.0) ∙ o.1)

  -- One more item
  as_with : (s : Waiting Row) (lanes : List Lane) (port : ℕ) (item : Item Row) → length lanes ≡ n → port < n → asks_at lanes port ≡ true → AreAs s lanes → AreAs (waiting_with s port item) (set lanes port (lane_with item))
  as_with s lanes port item each lt a alike = record { rows_are = λ i li. rows i li item; over_are = λ i li. overs i li item }
    where
      there : port < length lanes
      there = subst (λ k. port < k) (sym each) lt

      empty : s.rows port ≡ []
      empty = alike.rows_are port lt ∙ (asking (get_or lanes port lane.Over) a).0

      live : s.over port ≡ false
      live = alike.over_are port lt ∙ (asking (get_or lanes port lane.Over) a).1

      here : (l : Lane) (i : ℕ) → i ≡ port → get_or (set lanes port l) i lane.Over ≡ l
      here l i e = ap (λ k. get_or (set lanes port l) k lane.Over) e ∙ get_or-set_same lanes port l lane.Over there

      elsewhere : (l : Lane) (i : ℕ) → (i ≡ port → ⊥) → get_or (set lanes port l) i lane.Over ≡ get_or lanes i lane.Over
      elsewhere l i ne = get_or-set_other lanes port i l lane.Over ne

      rows : (i : ℕ) → i < n → (item : Item Row) → (waiting_with s port item).rows i ≡ rows_at (set lanes port (lane_with item)) i
      rows i li (row r) = set_at-case (λ v. v ≡ rows_at (set lanes port (lane.Waiting r)) i) s.rows port (s.rows port ++ r ∷ []) i
          (λ e. ap (λ v. v ++ r ∷ []) empty ∙ sym (ap rows_waiting (here (lane.Waiting r) i e)))
          (λ ne. alike.rows_are i li ∙ sym (ap rows_waiting (elsewhere (lane.Waiting r) i ne)))
      rows i li end = elim (eqb_tells i port) [
        | inl t ↦ ap s.rows t.1 ∙ empty ∙ sym (ap rows_waiting (here lane.Over i t.1))
        | inr t ↦ alike.rows_are i li ∙ sym (ap rows_waiting (elsewhere lane.Over i t.1))
      ]

      overs : (i : ℕ) → i < n → (item : Item Row) → (waiting_with s port item).over i ≡ over_at (set lanes port (lane_with item)) i
      overs i li (row r) = elim (eqb_tells i port) [
        | inl t ↦ ap s.over t.1 ∙ live ∙ sym (ap is_over (here (lane.Waiting r) i t.1))
        | inr t ↦ alike.over_are i li ∙ sym (ap is_over (elsewhere (lane.Waiting r) i t.1))
      ]
      overs i li end = set_at-case (λ v. v ≡ over_at (set lanes port lane.Over) i) s.over port true i
          (λ e. sym (ap is_over (here lane.Over i e)))
          (λ ne. alike.over_are i li ∙ sym (ap is_over (elsewhere lane.Over i ne)))

  -- What is sent, and what is left
  ready_is : (t : Waiting Row) (lanes : List Lane) → length lanes ≡ n → AreAs t lanes → all_ready lanes ≡ merge_ready n t
  ready_is t lanes each alike = ap (λ k. all_below k (λ i. not (asks_at lanes i))) each ∙ all_same n (λ i. not (asks_at lanes i)) (λ i. not (merge_asks t i)) (λ i lt. ap not (sym (asks_is t lanes alike i lt)))

  least_is : (t : Waiting Row) (lanes : List Lane) → length lanes ≡ n → AreAs t lanes → least_of keys lanes ≡ best_of R n t.rows
  least_is t lanes each alike = ap (λ k. best_of R k (rows_at lanes)) each ∙ best_same R n (rows_at lanes) t.rows (λ i lt. sym (alike.rows_are i lt))

  due_is : (t : Waiting Row) (lanes : List Lane) → length lanes ≡ n → AreAs t lanes → due keys lanes ≡ cond (merge_ready n t) (front_outs (best_of R n t.rows)) []
  due_is t lanes each alike = ap₂ (λ b o. cond {A = List (Out Row Fault)} b (front_outs o) []) (ready_is t lanes each alike) (least_is t lanes each alike)

  abbrev Settled : List Lane → Type 0
  Settled lanes = ((i : ℕ) → i < n → asks_at lanes i ≡ false) → (i : ℕ) → i < n → over_at lanes i ≡ true

  -- the least row is taken
  taken : (t : Waiting Row) (lanes : List Lane) (b : Front Row) → length lanes ≡ n → AreAs t lanes → b.port < n → t.rows b.port ≡ b.row ∷ b.rest → AreAs (without_front t (Some b)) (set lanes b.port lane.Empty) × Settled (set lanes b.port lane.Empty)
  taken t lanes b each alike lt front = (
    record {
      rows_are = λ i li. set_at-case (λ v. v ≡ rows_at (set lanes b.port lane.Empty) i) t.rows b.port b.rest i (λ e. alone.0 ∙ sym (ap rows_waiting (here i e))) (λ ne. alike.rows_are i li ∙ sym (ap rows_waiting (elsewhere i ne)));
      over_are = λ i li. elim (eqb_tells i b.port) [
        | inl e ↦ ap t.over e.1 ∙ alike.over_are b.port lt ∙ alone.1 ∙ sym (ap is_over (here i e.1))
        | inr e ↦ alike.over_are i li ∙ sym (ap is_over (elsewhere i e.1))
      ];
    },
    λ none. absurd (true_false (ap asks (here b.port refl)) (none b.port lt)),
  )
    where
      alone : (b.rest ≡ []) × (over_at lanes b.port ≡ false)
      alone = one_row (get_or lanes b.port lane.Over) b.row b.rest (sym (alike.rows_are b.port lt) ∙ front)

      here : (i : ℕ) → i ≡ b.port → get_or (set lanes b.port lane.Empty) i lane.Over ≡ lane.Empty
      here i e = ap (λ k. get_or (set lanes b.port lane.Empty) k lane.Over) e ∙ get_or-set_same lanes b.port lane.Empty lane.Over (subst (λ k. b.port < k) (sym each) lt)

      elsewhere : (i : ℕ) → (i ≡ b.port → ⊥) → get_or (set lanes b.port lane.Empty) i lane.Over ≡ get_or lanes i lane.Over
      elsewhere i ne = get_or-set_other lanes b.port i lane.Empty lane.Over ne

  abbrev next_state : Waiting Row → Waiting Row
  next_state t = cond (merge_ready n t) (without_front t (best_of R n t.rows)) t

  left_is : (t : Waiting Row) (lanes : List Lane) → length lanes ≡ n → AreAs t lanes → AreAs (next_state t) (left_after keys lanes) × Settled (left_after keys lanes)
  left_is t lanes each alike =
      subst (λ b. AreAs (next_state t) (cond b (without_least lanes (least_of keys lanes)) lanes) × Settled (cond b (without_least lanes (least_of keys lanes)) lanes)) (sym (ready_is t lanes each alike))
      (subst (λ o. AreAs (next_state t) (cond (merge_ready n t) (without_least lanes o) lanes) × Settled (cond (merge_ready n t) (without_least lanes o) lanes)) (sym (least_is t lanes each alike))
      (go (merge_ready n t) refl (best_is Fault n some R n t.rows)))
    where
      go : (b : Bool) → merge_ready n t ≡ b → ((best_of R n t.rows ≡ None) × ((j : ℕ) → j < n → t.rows j ≡ [])) ⊎ ((f : Front Row) × (best_of R n t.rows ≡ Some f) × (f.port < n) × (t.rows f.port ≡ f.row ∷ f.rest)) →
          AreAs (cond b (without_front t (best_of R n t.rows)) t) (cond b (without_least lanes (best_of R n t.rows)) lanes) × Settled (cond b (without_least lanes (best_of R n t.rows)) lanes)
      go false e best = (alike, λ none. absurd (true_false (all_from n (λ i. not (merge_asks t i)) (λ i lt. ap not (asks_is t lanes alike i lt ∙ none i lt))) e))
      go true e (inl none) = subst (λ o. AreAs (without_front t o) (without_least lanes o) × Settled (without_least lanes o)) (sym none.0) (alike, λ quiet i lt. ended_lane (get_or lanes i lane.Over) (quiet i lt) (sym (alike.rows_are i lt) ∙ none.1 i lt))
      go true e (inr f) = subst (λ o. AreAs (without_front t o) (without_least lanes o) × Settled (without_least lanes o)) (sym f.1) (taken t lanes f.0 each alike f.2 f.3)

  -- an item comes at a port that asks, and what is due is sent
  pub merge_stands : (lanes now : List Lane) (feeds : List (Feed Row)) (f : Feed Row) → length lanes ≡ n → f.port < n → asks_at lanes f.port ≡ true → now ≡ left_after keys (set lanes f.port (lane_with f.item)) → MergeStands n keys lanes feeds → MergeStands n keys now (feeds ++ f ∷ [])
  merge_stands lanes now feeds f each lt a is stands =
      let t : Waiting Row = waiting_with (waiting n keys feeds) f.port f.item in
      let added : List Lane = set lanes f.port (lane_with f.item) in
      let l = left_is t added (length-set lanes f.port (lane_with f.item) ∙ each) (as_with (waiting n keys feeds) lanes f.port f.item each lt a (as_lanes lanes feeds stands)) in
      let next_is : waiting n keys (feeds ++ f ∷ []) ≡ next_state t = after-append M M.start feeds (f ∷ []) in
      subst (λ ls. MergeStands n keys ls (feeds ++ f ∷ [])) (sym is) (record {
        rows_are = λ i li. ap (λ (z : Waiting Row). z.rows i) next_is ∙ l.0.rows_are i li;
        over_are = λ i li. ap (λ (z : Waiting Row). z.over i) next_is ∙ l.0.over_are i li;
        settled = l.1;
      })

  pub merge_emits : (lanes : List Lane) (feeds : List (Feed Row)) (f : Feed Row) → length lanes ≡ n → f.port < n → asks_at lanes f.port ≡ true → MergeStands n keys lanes feeds → due keys (set lanes f.port (lane_with f.item)) ≡ (merge_stream n R).gives feeds f
  merge_emits lanes feeds f each lt a stands =
      due_is (waiting_with (waiting n keys feeds) f.port f.item) (set lanes f.port (lane_with f.item)) (length-set lanes f.port (lane_with f.item) ∙ each)
      (as_with (waiting n keys feeds) lanes f.port f.item each lt a (as_lanes lanes feeds stands))

-- nothing was fed yet
pub merge_starts : (n : ℕ) (keys : List Key) (lanes : List Lane) → 0 < n → ((i : ℕ) → i < n → asks_at lanes i ≡ true) → MergeStands n keys lanes []
merge_starts n keys lanes some all = record {
  rows_are = λ i lt. sym (asking (get_or lanes i lane.Over) (all i lt)).0;
  over_are = λ i lt. sym (asking (get_or lanes i lane.Over) (all i lt)).1;
  settled = λ none. absurd (true_false (all 0 some) (none 0 some));
}

-- one more lane that asks
pub asks_more : (lanes : List Lane) (i : ℕ) → ((j : ℕ) → j < length lanes → asks_at lanes j ≡ true) → i < suc (length lanes) → asks_at (lanes ++ lane.Empty ∷ []) i ≡ true
asks_more [] zero h lt = refl
asks_more [] (suc i) h lt = absurd (omega (arith, lt))
asks_more (l ∷ lanes) zero h lt = h 0 (omega arith)
asks_more (l ∷ lanes) (suc i) h lt = asks_more lanes i (λ j lj. h (suc j) (omega (arith, lj))) (omega (arith, lt))

-- The least of the rows on the first ports, port by port
abbrev port_of : Option (Front Row) → Option ℕ
port_of o = option_map (λ (b : Front Row). b.port) o

waits_here : (l : Lane) (x : Row) (xs : List Row) → rows_waiting l ≡ x ∷ xs → row_in l ≡ Some x
waits_here lane.Empty x xs h = absurd (let e : [] ≡ x ∷ xs = h in cc)
waits_here (lane.Waiting r) x xs h = ap (λ l. elim l as (λ _. Option Row) [ [] ↦ None | y ∷ ys ↦ Some y ]) h
waits_here lane.Over x xs h = absurd (let e : [] ≡ x ∷ xs = h in cc)

pub least_more : (keys : List Key) (lanes : List Lane) (k : ℕ) → port_of (best_of (row_cmp keys) (suc k) (rows_at lanes)) ≡ cond (is_before keys (row_at lanes k) (row_of lanes (port_of (best_of (row_cmp keys) k (rows_at lanes))))) (Some k) (port_of (best_of (row_cmp keys) k (rows_at lanes)))
least_more keys lanes k = go (get_or lanes k lane.Over) (best_of (row_cmp keys) k (rows_at lanes)) (best_is Fault 1 (omega arith) (row_cmp keys) k (rows_at lanes))
  where
    go : (l : Lane) (o : Option (Front Row)) → ((o ≡ None) × ((j : ℕ) → j < k → rows_at lanes j ≡ [])) ⊎ ((b : Front Row) × (o ≡ Some b) × (b.port < k) × (rows_at lanes b.port ≡ b.row ∷ b.rest)) →
        port_of (better (row_cmp keys) o k (rows_waiting l)) ≡ cond (is_before keys (row_in l) (row_of lanes (port_of o))) (Some k) (port_of o)
    go lane.Empty o best = refl
    go lane.Over o best = refl
    go (lane.Waiting r) o (inl none) = subst (λ z. port_of (better (row_cmp keys) z k (r ∷ [])) ≡ cond (is_before keys (Some r) (row_of lanes (port_of z))) (Some k) (port_of z)) (sym none.0) refl
    go (lane.Waiting r) o (inr f) =
        subst (λ z. port_of (better (row_cmp keys) z k (r ∷ [])) ≡ cond (is_before keys (Some r) (row_of lanes (port_of z))) (Some k) (port_of z)) (sym f.1)
        (either (is_lt (row_cmp keys r f.0.row)) ∙ sym (ap (λ x. cond (is_before keys (Some r) x) (Some k) (Some f.0.port)) (waits_here (get_or lanes f.0.port lane.Over) f.0.row f.0.rest f.3)))
      where
        either : (b : Bool) → port_of (cond b (Some (record { port = k; row = r; rest = [] })) (Some f.0)) ≡ cond b (Some k) (Some f.0.port)
        either true = refl
        either false = refl

-- Settling: a port asks, or none does and no row waits, or the least row is taken
some_is : {m n : ℕ} → Some m ≡ Some n → m ≡ n
some_is {m} h = ap (λ o. elim o as (λ _. ℕ) [ None ↦ m | Some k ↦ k ]) h

pub settle_waits : (keys : List Key) (lanes : List Lane) (n : ℕ) → length lanes ≡ n → (o : Option ℕ) → IsFirst (λ i. not (asks_at lanes i)) 0 n o → is_some o ≡ true → (lanes ≡ left_after keys lanes) × (due keys lanes ≡ [])
settle_waits keys lanes n each None first h = absurd (let e : false ≡ true = h in cc)
settle_waits keys lanes n each (Some p) first h =
    let busy : all_ready lanes ≡ false = ap (λ k. all_below k (λ i. not (asks_at lanes i))) each ∙ not_all n (λ i. not (asks_at lanes i)) p first.1 first.2 in
    (sym (ap (λ b. cond b (without_least lanes (least_of keys lanes)) lanes) busy), ap (λ b. cond b (front_outs (least_of keys lanes)) []) busy)

pub settle_ready : (lanes : List Lane) (n : ℕ) → length lanes ≡ n → (o : Option ℕ) → IsFirst (λ i. not (asks_at lanes i)) 0 n o → is_some o ≡ false → all_ready lanes ≡ true
settle_ready lanes n each None first h = ap (λ k. all_below k (λ i. not (asks_at lanes i))) each ∙ all_from n (λ i. not (asks_at lanes i)) (λ i lt. first i (omega arith) lt)
settle_ready lanes n each (Some p) first h = absurd (let e : true ≡ false = h in cc)

pub settle_none : (keys : List Key) (lanes : List Lane) → all_ready lanes ≡ true → None ≡ port_of (least_of keys lanes) → (lanes ≡ left_after keys lanes) × (due keys lanes ≡ [])
settle_none keys lanes ready e = go (least_of keys lanes) e
  where
    go : (o : Option (Front Row)) → None ≡ port_of o → (lanes ≡ cond (all_ready lanes) (without_least lanes o) lanes) × (cond {A = List (Out Row Fault)} (all_ready lanes) (front_outs o) [] ≡ [])
    go None e = (sym (ap (λ b. cond b lanes lanes) ready), ap (λ b. cond {A = List (Out Row Fault)} b [] []) ready)
    go (Some b) e = absurd (let f : None ≡ Some b.port = e in cc)

pub settle_some : (keys : List Key) (lanes : List Lane) → all_ready lanes ≡ true → (p : ℕ) → Some p ≡ port_of (least_of keys lanes) → (set lanes p lane.Empty ≡ left_after keys lanes) × (due keys lanes ≡ map (sends 0) (rows_at lanes p))
settle_some keys lanes ready p e = go (best_is Fault 1 (omega arith) (row_cmp keys) (length lanes) (rows_at lanes))
  where
    go : ((least_of keys lanes ≡ None) × ((j : ℕ) → j < length lanes → rows_at lanes j ≡ [])) ⊎ ((b : Front Row) × (least_of keys lanes ≡ Some b) × (b.port < length lanes) × (rows_at lanes b.port ≡ b.row ∷ b.rest)) → (set lanes p lane.Empty ≡ left_after keys lanes) × (due keys lanes ≡ map (sends 0) (rows_at lanes p))
    go (inl none) = absurd (let f : Some p ≡ None = e ∙ ap port_of none.0 in cc)
    go (inr b) =
        let here : p ≡ b.0.port = some_is (e ∙ ap port_of b.1) in
        let alone : rows_at lanes p ≡ b.0.row ∷ [] = ap (rows_at lanes) here ∙ b.3 ∙ ap (λ xs. b.0.row ∷ xs) (one_row (get_or lanes b.0.port lane.Over) b.0.row b.0.rest b.3).0 in (
          ap (λ q. set lanes q lane.Empty) here ∙ sym (ap₂ (λ r o. cond r (without_least lanes o) lanes) ready b.1),
          ap₂ (λ r o. cond {A = List (Out Row Fault)} r (front_outs o) []) ready b.1 ∙ sym (ap (map (sends 0)) alone),
        )

pub least_next : (keys : List Key) (lanes : List Lane) (k : ℕ) (least now : Option ℕ) (less : Bool) → least ≡ port_of (best_of (row_cmp keys) k (rows_at lanes)) → less ≡ is_before keys (row_at lanes k) (row_of lanes least) → now ≡ cond less (Some k) least → now ≡ port_of (best_of (row_cmp keys) (k + 1) (rows_at lanes))
least_next keys lanes k least now less least_is less_is now_is =
    let next : suc k ≡ k + 1 = omega arith in
    now_is ∙ ap₂ (λ b o. cond b (Some k) o) (less_is ∙ ap (λ o. is_before keys (row_at lanes k) (row_of lanes o)) least_is) least_is ∙ sym (least_more keys lanes k) ∙ ap (λ j. port_of (best_of (row_cmp keys) j (rows_at lanes))) next

pub least_within : (k : ℕ) (least now : Option ℕ) (less : Bool) → IfSome least (λ p. p < k) → now ≡ cond less (Some k) least → IfSome now (λ p. p < k + 1)
least_within k least now less h e = subst (λ o. IfSome o (λ p. p < k + 1)) (sym e) (go less least h)
  where
    go : (b : Bool) (o : Option ℕ) → IfSome o (λ p. p < k) → IfSome (cond b (Some k) o) (λ p. p < k + 1)
    go true o h = omega arith
    go false None h = tt
    go false (Some p) h = omega (arith, h)
