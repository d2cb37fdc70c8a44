-- What comes at a consumer's partitions is as its route says.
use Rattle.std.proofs.Common.{◌≡◌, ℕ, zero, suc, ◌+◌, ◌%◌, ◌<◌, ◌≤◌, ◌==◌, Bool, true, false, cond, inl, refl, sym, ap, ap₂, ◌∙◌, subst, List, [], ◌∷◌, map, length, arith}
use Rattle.std.proofs.lemmas.List.FromFn.{length-map-range_with_len}
use Rattle.std.specs.List.{AllByRecursion, range_with_len}
use Rattle.streams.specs.Lists.{Interleaves, Merges, lists_from}
use Rattle.streams.specs.Streams.{Out, Gives, rows_out}
use Rattle.streams.specs.Plans.{sent}
use Rattle.streams.specs.Wiring.{gathered}
use Rattle.ds_schema.specs.Rows.{row_cmp}
use Rattle.ds_place.specs.declared.place.Place.TheVariants as place
use Rattle.ds_place.specs.Places.{place_number}
use Rattle.op_base.specs.declared.fault.Fault.{Fault}
use Rattle.op_base.specs.Columns.{Row}
use Rattle.op_base.specs.Lists.{joined, in_turn}
use Rattle.op_base.proofs.Interleavings.{interleaves_one, interleaves_all, joined_interleaves, turns_interleave}
use Rattle.op_base.proofs.Merging.{merge_interleaves}
use Rattle.flow_graph.specs.declared.route.Route.{Route}
use Rattle.flow_graph.specs.declared.route.Route.TheVariants as route
use Rattle.flow_graph.specs.Destinations.{SentFrom, lane, lanes_to}
use Rattle.flow_graph.specs.FlowShape.{may_stand}
use Rattle.flow_graph.specs.Runs.{Arrives}
use Rattle.flow_plan.specs.Data.{Datum, row_in, rows_in}
use Rattle.flow_score.specs.Scores.{is_same}
use Rattle.flow_plan.specs.Planned.{gather_by, goes_by}
use Rattle.plan_sound.proofs.Collecting.{any_rows, ordered_rows, round_rows, merge_rows, lists_range, lists_same, sent_all, sent_rows, lanes_are}

-- what the collector of a port made of what was sent there by n partitions, and by the partition of the same number
abbrev pub ManyCome : Bool → Route → ℕ → ℕ → (ℕ → List Datum) → ℕ → List Datum → Type 0
ManyCome seq r n d sends j taken = (outs : List (Out Datum Fault)) × Gives (gathered (gather_by seq r) n) (λ s. sent (λ t x. goes_by seq r d s t x j) 0 (sends s)) outs × (taken ≡ rows_out outs)

abbrev pub OneComes : Bool → Route → ℕ → (ℕ → List Datum) → ℕ → List Datum → Type 0
OneComes seq r d sends j taken = (outs : List (Out Datum Fault)) × Gives (gathered (gather_by seq r) 1) (λ s. sent (λ t x. goes_by seq r d j t x j) 0 (sends j)) outs × (taken ≡ rows_out outs)

pub map_below : {Y : Type 0} (f g : ℕ → Y) (a n : ℕ) → ((j : ℕ) → a ≤ j → j < a + n → f j ≡ g j) → map f (range_with_len a n) ≡ map g (range_with_len a n)
map_below f g a zero h = refl
map_below f g a (suc n) h = ap₂ (λ x y. x ∷ y) (h a (omega arith) (omega arith)) (map_below f g (a + 1) n (λ j l m. h j (omega (arith, l)) (omega (arith, m))))

pub all_below : {Y : Type 0} (P : Y → Type 0) (f : ℕ → Y) (a n : ℕ) → ((j : ℕ) → a ≤ j → j < a + n → P (f j)) → AllByRecursion P (map f (range_with_len a n))
all_below P f a zero h = tt
all_below P f a (suc n) h = (h a (omega arith) (omega arith), all_below P f (a + 1) n (λ j l m. h j (omega (arith, l)) (omega (arith, m))))

sent_from : (goes : ℕ → ℕ → Row → ℕ) (lists : List (List Row)) (got : ℕ → List Row) (a n : ℕ) → ((j : ℕ) → a ≤ j → j < a + n → Interleaves (lanes_to goes j 0 lists) (got j)) → SentFrom goes a lists (map got (range_with_len a n))
sent_from goes lists got a zero h = tt
sent_from goes lists got a (suc n) h = (h a (omega arith) (omega arith), subst (λ z. SentFrom goes z lists (map got (range_with_len (a + 1) n))) (back a) (sent_from goes lists got (a + 1) n (λ j l m. h j (omega (arith, l)) (omega (arith, m)))))
  where
    back : (a : ℕ) → a + 1 ≡ suc a
    back a = omega arith

module _ (n d : ℕ) (sends : ℕ → List Datum) (taken : ℕ → List Datum) (some : 0 < n) where
  abbrev rows_sent : List (List Row)
  rows_sent = map (λ p. rows_in (sends p)) (range_with_len 0 n)

  abbrev rows_got : List (List Row)
  rows_got = map (λ j. rows_in (taken j)) (range_with_len 0 d)

  long : length rows_got ≡ d
  long = length-map-range_with_len (λ j. rows_in (taken j)) 0 d

  -- all that each partition sends comes here
  whole_lists : (goes : ℕ → ℕ → Datum → Bool) → ((s t : ℕ) (x : Datum) → goes s t x ≡ true) → lists_from (λ s. rows_in (sent (goes s) 0 (sends s))) 0 n ≡ rows_sent
  whole_lists goes h = lists_same _ (λ s. rows_in (sends s)) 0 n (λ s. ap rows_in (ap (λ g. sent g 0 (sends s)) (λ i t x. h s t x i) ∙ sent_all 0 (sends s))) ∙ lists_range (λ s. rows_in (sends s)) 0 n

  -- to each partition what a place or a turn sends there
  placed : (goes : ℕ → ℕ → Row → ℕ) (j : ℕ) (here : ℕ → ℕ → Datum → Bool) → ((s t : ℕ) (x : Datum) → here s t x ≡ (goes s t (row_in x) == j)) → lists_from (λ s. rows_in (sent (here s) 0 (sends s))) 0 n ≡ lanes_to goes j 0 rows_sent
  placed goes j here h = lists_same _ (λ s. lane (goes s) j 0 (rows_in (sends s))) 0 n (λ s. sent_rows (here s) (goes s) j (h s) 0 (sends s)) ∙ lanes_are goes j (λ s. rows_in (sends s)) 0 n

  -- rows in any order
  mixed : (lists : ℕ → List Datum) (j : ℕ) (outs : List (Out Datum Fault)) → Gives (gathered Rattle.streams.specs.Wiring.shares n) lists outs → taken j ≡ rows_out outs → Interleaves (lists_from (λ s. rows_in (lists s)) 0 n) (rows_in (taken j))
  mixed lists j outs g e = subst (λ t. Interleaves (lists_from (λ s. rows_in (lists s)) 0 n) (rows_in t)) (sym e) (any_rows n some lists outs g)

  abbrev Many : Bool → Route → Type 0
  Many seq r = (j : ℕ) → j < d → ManyCome seq r n d sends j (taken j)

  one_got : d ≡ 1 → rows_got ≡ rows_in (taken 0) ∷ []
  one_got e = ap (λ k. map (λ j. rows_in (taken j)) (range_with_len 0 k)) e

  zero_below : d ≡ 1 → 0 < d
  zero_below e = subst (λ k. 0 < k) (sym e) (omega arith)

  plus_zero : (j : ℕ) → j < 0 + d → j < d
  plus_zero j l = omega (arith, l)

  pub brings : (seq : Bool) (r : Route) → may_stand seq r ≡ true → (seq ≡ true → d ≡ 1) → (is_same r ≡ true → n ≡ d) → (is_same r ≡ true → (j : ℕ) → j < d → OneComes seq r d sends j (taken j)) → (is_same r ≡ false → Many seq r) → Arrives seq r rows_sent rows_got
  brings seq route.Same stands one equal same many =
      map_below (λ j. rows_in (taken j)) (λ p. rows_in (sends p)) 0 d (λ j l m. each j (same refl j (plus_zero j m))) ∙ ap (λ k. map (λ p. rows_in (sends p)) (range_with_len 0 k)) (sym (equal refl))
    where
      each : (j : ℕ) → OneComes seq route.Same d sends j (taken j) → rows_in (taken j) ≡ rows_in (sends j)
      each j c = interleaves_one (rows_in (sent (λ t x. true) 0 (sends j)) ∷ []) (rows_in (taken j)) (rows_in (sends j))
          (subst (λ t. Interleaves (rows_in (sent (λ t x. true) 0 (sends j)) ∷ []) (rows_in t)) (sym c.2) (any_rows 1 (omega arith) (λ s. sent (λ t x. true) 0 (sends j)) c.0 c.1)) (inl (ap rows_in (sent_all 0 (sends j)), tt))
  brings false route.RoundRobin stands one equal same many =
      subst (λ k. SentFrom (λ p t r. (p + t) % k) 0 rows_sent rows_got) (sym long)
      (sent_from (λ p t r. (p + t) % d) rows_sent (λ j. rows_in (taken j)) 0 d (λ j l m. let c = many refl j (plus_zero j m) in
      subst (λ ls. Interleaves ls (rows_in (taken j))) (placed (λ p t r. (p + t) % d) j (λ s t x. (s + t) % d == j) (λ s t x. refl)) (mixed (λ s. sent (λ t x. (s + t) % d == j) 0 (sends s)) j c.0 c.1 c.2)))
  brings true route.RoundRobin stands one equal same many =
      let c = many refl 0 (zero_below (one refl)) in
      one_got (one refl) ∙ ap (λ rows. rows ∷ []) (ap rows_in c.2 ∙ round_rows n some (λ s. sent (λ t x. true) 0 (sends s)) c.0 c.1 ∙ ap in_turn (whole_lists (λ s t x. true) (λ s t x. refl)))
  brings seq route.Entire stands one equal same many =
      all_below (Interleaves rows_sent) (λ j. rows_in (taken j)) 0 d (λ j l m. let c = many refl j (plus_zero j m) in
      subst (λ ls. Interleaves ls (rows_in (taken j))) (whole_lists (λ s t x. true) (λ s t x. refl)) (mixed (λ s. sent (λ t x. true) 0 (sends s)) j c.0 c.1 c.2))
  brings seq (route.Hash K) stands one equal same many =
      subst (λ k. SentFrom (λ p t r. place_number (place.Hash K) r k) 0 rows_sent rows_got) (sym long)
      (sent_from (λ p t r. place_number (place.Hash K) r d) rows_sent (λ j. rows_in (taken j)) 0 d (λ j l m. let c = many refl j (plus_zero j m) in
      subst (λ ls. Interleaves ls (rows_in (taken j))) (placed (λ p t r. place_number (place.Hash K) r d) j (λ s t x. place_number (place.Hash K) (row_in x) d == j) (λ s t x. refl)) (mixed (λ s. sent (λ t x. place_number (place.Hash K) (row_in x) d == j) 0 (sends s)) j c.0 c.1 c.2)))
  brings seq (route.Modulus k) stands one equal same many =
      subst (λ m. SentFrom (λ p t r. place_number (place.Modulus k) r m) 0 rows_sent rows_got) (sym long)
      (sent_from (λ p t r. place_number (place.Modulus k) r d) rows_sent (λ j. rows_in (taken j)) 0 d (λ j l m. let c = many refl j (plus_zero j m) in
      subst (λ ls. Interleaves ls (rows_in (taken j))) (placed (λ p t r. place_number (place.Modulus k) r d) j (λ s t x. place_number (place.Modulus k) (row_in x) d == j) (λ s t x. refl)) (mixed (λ s. sent (λ t x. place_number (place.Modulus k) (row_in x) d == j) 0 (sends s)) j c.0 c.1 c.2)))
  brings true route.Any stands one equal same many =
      let c = many refl 0 (zero_below (one refl)) in
      (rows_in (taken 0), one_got (one refl), subst (λ ls. Interleaves ls (rows_in (taken 0))) (whole_lists (λ s t x. true) (λ s t x. refl)) (mixed (λ s. sent (λ t x. true) 0 (sends s)) 0 c.0 c.1 c.2))
  brings false route.Any stands one equal same many = absurd (no_stand stands)
    where
      no_stand : false ≡ true → ⊥
      no_stand e = cc
  brings true route.Ordered stands one equal same many =
      let c = many refl 0 (zero_below (one refl)) in
      one_got (one refl) ∙ ap (λ rows. rows ∷ []) (ap rows_in c.2 ∙ ordered_rows n some (λ s. sent (λ t x. true) 0 (sends s)) c.0 c.1 ∙ ap joined (whole_lists (λ s t x. true) (λ s t x. refl)))
  brings false route.Ordered stands one equal same many = absurd (no_stand stands)
    where
      no_stand : false ≡ true → ⊥
      no_stand e = cc
  brings true (route.Merge keys) stands one equal same many =
      let c = many refl 0 (zero_below (one refl)) in
      (rows_in (taken 0), one_got (one refl), subst (λ t. Merges (row_cmp keys) rows_sent (rows_in t)) (sym c.2) (subst (λ ls. Merges (row_cmp keys) ls (rows_in (rows_out c.0))) (whole_lists (λ s t x. true) (λ s t x. refl)) (merge_rows n some (λ s. sent (λ t x. true) 0 (sends s)) c.0 keys c.1)))
  brings false (route.Merge keys) stands one equal same many = absurd (no_stand stands)
    where
      no_stand : false ≡ true → ⊥
      no_stand e = cc

-- Of rows that pass a test, those that come pass it.
module _ (P : Row → Type 0) where
  lane_all : (goes : ℕ → Row → ℕ) (j t : ℕ) (rows : List Row) → AllByRecursion P rows → AllByRecursion P (lane goes j t rows)
  lane_all goes j t [] h = tt
  lane_all goes j t (r ∷ rows) h = go (goes t r == j) (lane_all goes j (suc t) rows h.1)
    where
      go : (b : Bool) → AllByRecursion P (lane goes j (suc t) rows) → AllByRecursion P (cond b (r ∷ lane goes j (suc t) rows) (lane goes j (suc t) rows))
      go true k = (h.0, k)
      go false k = k

  lanes_all : (goes : ℕ → ℕ → Row → ℕ) (j p : ℕ) (lists : List (List Row)) → AllByRecursion (AllByRecursion P) lists → AllByRecursion (AllByRecursion P) (lanes_to goes j p lists)
  lanes_all goes j p [] h = tt
  lanes_all goes j p (rows ∷ lists) h = (lane_all (goes p) j 0 rows h.0, lanes_all goes j (suc p) lists h.1)

  from_all : (goes : ℕ → ℕ → Row → ℕ) (n : ℕ) (sent got : List (List Row)) → SentFrom goes n sent got → AllByRecursion (AllByRecursion P) sent → AllByRecursion (AllByRecursion P) got
  from_all goes n sent [] s h = tt
  from_all goes n sent (rows ∷ got) s h = (interleaves_all P (lanes_to goes n 0 sent) rows (lanes_all goes n 0 sent h) s.0, from_all goes (suc n) sent got s.1 h)

  each_all : (sent got : List (List Row)) → AllByRecursion (Interleaves sent) got → AllByRecursion (AllByRecursion P) sent → AllByRecursion (AllByRecursion P) got
  each_all sent [] i h = tt
  each_all sent (rows ∷ got) i h = (interleaves_all P sent rows h i.0, each_all sent got i.1 h)

  pub arrived_all : (seq : Bool) (r : Route) (sent got : List (List Row)) → Arrives seq r sent got → AllByRecursion (AllByRecursion P) sent → AllByRecursion (AllByRecursion P) got
  arrived_all seq route.Same sent got a h = subst (AllByRecursion (AllByRecursion P)) (sym a) h
  arrived_all false route.RoundRobin sent got a h = from_all (λ p t r. (p + t) % length got) 0 sent got a h
  arrived_all true route.RoundRobin sent got a h = subst (AllByRecursion (AllByRecursion P)) (sym a) (interleaves_all P sent (in_turn sent) h (turns_interleave sent), tt)
  arrived_all seq route.Entire sent got a h = each_all sent got a h
  arrived_all seq (route.Hash K) sent got a h = from_all (λ p t r. place_number (place.Hash K) r (length got)) 0 sent got a h
  arrived_all seq (route.Modulus k) sent got a h = from_all (λ p t r. place_number (place.Modulus k) r (length got)) 0 sent got a h
  arrived_all seq route.Any sent got a h = subst (AllByRecursion (AllByRecursion P)) (sym a.1) (interleaves_all P sent a.0 h a.2, tt)
  arrived_all seq route.Ordered sent got a h = subst (AllByRecursion (AllByRecursion P)) (sym a) (interleaves_all P sent (joined sent) h (joined_interleaves sent), tt)
  arrived_all seq (route.Merge keys) sent got a h = subst (AllByRecursion (AllByRecursion P)) (sym a.1) (interleaves_all P sent a.0 h (merge_interleaves (row_cmp keys) sent a.0 a.2), tt)
