-- What collectors over data make of lists, as rows.
use Rattle.std.proofs.Common.{◌≡◌, ℕ, zero, suc, ◌+◌, ◌<◌, ◌==◌, Bool, true, false, not, cond, refl, sym, ap, ap₂, ◌∙◌, subst, List, [], ◌∷◌, map, set, get_or, length, arith}
use Rattle.std.specs.Ordering.{is_lt}
use Rattle.std.specs.declared.cmp.Ordering.{Ordering}
use Rattle.std.proofs.lemmas.List.{get_or-map, length-map, map-set}
use Rattle.std.specs.List.{AllByRecursion, range_with_len}
use Rattle.streams.specs.Lists.{AllEmpty, Interleaves, IsLeast, Merges, IsOrder, lists_from}
use Rattle.streams.specs.Streams.{Item, row, end, Feed, Out, sends, fails, Gives, ended, rows_out}
use Rattle.streams.specs.Operators.{picks, by_number, passing, turn_after, from_turn, any_stream, ordered_stream, round_robin_stream, merge_stream}
use Rattle.streams.specs.Plans.{sent}
use Rattle.streams.proofs.Collected.{collectors_fit}
use Rattle.ds_schema.specs.declared.key.Key.{Key}
use Rattle.ds_schema.specs.Rows.{row_cmp}
use Rattle.op_base.specs.declared.fault.Fault.{Fault}
use Rattle.op_base.specs.Columns.{Row}
use Rattle.op_base.specs.Lists.{joined, in_turn}
use Rattle.op_base.proofs.Orders.{row_total}
use Rattle.op_collect.proofs.Means.{is_order, ordered_joins, round_takes_turns}
use Rattle.flow_graph.specs.Destinations.{lane, lanes_to}
use Rattle.flow_plan.specs.Data.{Datum, row_in, rows_in, datum_cmp, item_by, feeds_by}
use Rattle.flow_plan.proofs.Following.{Follows, ended_by, gives_by}

-- rows of outs by a function
abbrev pub out_row : {X Y F : Type 0} → (X → Y) → Out X F → Out Y F
out_row f (sends port x) = sends port (f x)
out_row f (fails fault) = fails fault

pub rows_out_by : {X Y F : Type 0} (f : X → Y) (outs : List (Out X F)) → rows_out (map (out_row f) outs) ≡ map f (rows_out outs)
rows_out_by f [] = refl
rows_out_by f (sends port x ∷ outs) = ap (λ t. f x ∷ t) (rows_out_by f outs)
rows_out_by f (fails fault ∷ outs) = rows_out_by f outs

pub rows_out_sent : {X : Type 0} (F : Type 0) (xs : List X) → rows_out {F = F} (map (sends 0) xs) ≡ xs
rows_out_sent F [] = refl
rows_out_sent F (x ∷ xs) = ap (λ t. x ∷ t) (rows_out_sent F xs)

-- lists of lists, each by a function
module _ {X Y : Type 0} (f : X → Y) where
  all_empty_by : (lists : List (List X)) → AllEmpty lists → AllEmpty (map (map f) lists)
  all_empty_by [] h = tt
  all_empty_by (xs ∷ lists) h = (ap (map f) h.0, all_empty_by lists h.1)

  front_by : (lists : List (List X)) (i : ℕ) (x : X) (rest : List X) → i < length lists → get_or lists i [] ≡ x ∷ rest → get_or (map (map f) lists) i [] ≡ f x ∷ map f rest
  front_by lists i x rest l e = get_or-map (map f) lists i [] [] l ∙ ap (map f) e

  long_by : (lists : List (List X)) (i : ℕ) → i < length lists → i < length (map (map f) lists)
  long_by lists i l = rw length-map l

  pub interleaves_by : (lists : List (List X)) (xs : List X) → Interleaves lists xs → Interleaves (map (map f) lists) (map f xs)
  interleaves_by lists [] h = all_empty_by lists h
  interleaves_by lists (x ∷ xs) h =
      (h.0, map f h.1, long_by lists h.0 h.2, front_by lists h.0 x h.1 h.2 h.3, subst (λ ls. Interleaves ls (map f xs)) (map-set (map f) lists h.0 h.1) (interleaves_by (set lists h.0 h.1) xs h.4))

  module _ (cmp : Y → Y → Ordering) where
    least_by : (lists : List (List X)) (i : ℕ) (x : X) → IsLeast (λ a b. cmp (f a) (f b)) lists i x → IsLeast cmp (map (map f) lists) i (f x)
    least_by lists i x h j y rest e = go (get_or lists j []) refl (sym (at lists j) ∙ e)
      where
        at : (ls : List (List X)) (j : ℕ) → get_or (map (map f) ls) j [] ≡ map f (get_or ls j [])
        at [] j = refl
        at (xs ∷ ls) zero = refl
        at (xs ∷ ls) (suc j) = at ls j

        go : (zs : List X) → get_or lists j [] ≡ zs → map f zs ≡ y ∷ rest → (is_lt (cmp y (f x)) ≡ false) × (j < i → cmp (f x) y ≡ Rattle.std.specs.declared.cmp.Ordering.TheVariants.Less)
        go [] at e = cc
        go (z ∷ zs) at e =
            let r = h j z zs at in
            let same : f z ≡ y = head (f z) y (map f zs) rest e in
            (subst (λ w. is_lt (cmp w (f x)) ≡ false) same r.0, λ l. subst (λ w. cmp (f x) w ≡ Rattle.std.specs.declared.cmp.Ordering.TheVariants.Less) same (r.1 l))
          where
            head : (a b : Y) (xs ys : List Y) → a ∷ xs ≡ b ∷ ys → a ≡ b
            head a b xs ys e = cc

    pub merges_by : (lists : List (List X)) (xs : List X) → Merges (λ a b. cmp (f a) (f b)) lists xs → Merges cmp (map (map f) lists) (map f xs)
    merges_by lists [] h = all_empty_by lists h
    merges_by lists (x ∷ xs) h =
        (h.0, map f h.1, long_by lists h.0 h.2, front_by lists h.0 x h.1 h.2 h.3, least_by lists h.0 x h.4, subst (λ ls. Merges cmp ls (map f xs)) (map-set (map f) lists h.0 h.1) (merges_by (set lists h.0 h.1) xs h.5))

  -- collectors that pass what they are fed see no items
  pass_by : {F : Type 0} (item : Item X) → map (out_row {F = F} f) (passing item) ≡ passing (item_by f item)
  pass_by (row x) = refl
  pass_by end = refl

  open_by : (feeds : List (Feed X)) → ◌≡◌ {A = ℕ → Bool} (λ i. not (ended i feeds)) (λ i. not (ended i (feeds_by f feeds)))
  open_by feeds = λ k i. not (sym (ended_by f i feeds) k)

  turn_by : (t : ℕ) (feeds : List (Feed X)) → turn_after t (feeds_by f feeds) ≡ turn_after t feeds
  turn_by t [] = refl
  turn_by t (g ∷ feeds) = turn_by (suc g.port) feeds

  pub ordered_follows : {F : Type 0} (n : ℕ) → Follows f (out_row {F = F} f) (ordered_stream n) (ordered_stream n)
  ordered_follows n = record { ports = refl; wants = λ feeds i. ap (λ (asks : ℕ → Bool). picks n by_number asks i) (open_by feeds); gives = λ done g. pass_by g.item }

  pub round_follows : {F : Type 0} (n : ℕ) → Follows f (out_row {F = F} f) (round_robin_stream n) (round_robin_stream n)
  round_follows n = record {
    ports = refl;
    wants = λ feeds i. ap (λ (asks : ℕ → Bool). picks n (from_turn n (turn_after 0 feeds)) asks i) (open_by feeds) ∙ ap (λ t. picks n (from_turn n t) (λ j. not (ended j (feeds_by f feeds))) i) (sym (turn_by 0 feeds));
    gives = λ done g. pass_by g.item;
  }

-- lists at ports
pub lists_map : {X Y : Type 0} (g : List X → List Y) (lists : ℕ → List X) (a n : ℕ) → map g (lists_from lists a n) ≡ lists_from (λ i. g (lists i)) a n
lists_map g lists a zero = refl
lists_map g lists a (suc n) = ap (λ t. g (lists a) ∷ t) (lists_map g lists (suc a) n)

next : (a : ℕ) → suc a ≡ a + 1
next a = omega arith

pub lists_range : {X : Type 0} (lists : ℕ → List X) (a n : ℕ) → lists_from lists a n ≡ map lists (range_with_len a n)
lists_range lists a zero = refl
lists_range lists a (suc n) = ap (λ t. lists a ∷ t) (lists_range lists (suc a) n ∙ ap (λ z. map lists (range_with_len z n)) (next a))

pub lists_same : {X : Type 0} (a b : ℕ → List X) (p n : ℕ) → ((i : ℕ) → a i ≡ b i) → lists_from a p n ≡ lists_from b p n
lists_same a b p zero h = refl
lists_same a b p (suc n) h = ap₂ (λ x y. x ∷ y) (h p) (lists_same a b (suc p) n h)

-- what collectors give, as rows
module _ (n : ℕ) (some : 0 < n) (lists : ℕ → List Datum) (outs : List (Out Datum Fault)) where
  abbrev rows_lists : List (List Row)
  rows_lists = lists_from (λ i. rows_in (lists i)) 0 n

  pub any_rows : Gives (any_stream n) lists outs → Interleaves rows_lists (rows_in (rows_out outs))
  any_rows g = subst (λ ls. Interleaves ls (rows_in (rows_out outs))) (lists_map rows_in lists 0 n) (interleaves_by row_in (lists_from lists 0 n) (rows_out outs) (((collectors_fit Datum Fault).any n some).1 lists outs g))

  pub ordered_rows : Gives (ordered_stream n) lists outs → rows_in (rows_out outs) ≡ joined rows_lists
  ordered_rows g =
      let r = (ordered_joins n some).1 (λ i. rows_in (lists i)) (map (out_row row_in) outs) (gives_by row_in (out_row row_in) (ordered_stream n) (ordered_stream n) (ordered_follows row_in n) lists outs g) in
      sym (rows_out_by row_in outs) ∙ ap rows_out r.1 ∙ rows_out_sent Fault r.0 ∙ r.2

  pub round_rows : Gives (round_robin_stream n) lists outs → rows_in (rows_out outs) ≡ in_turn rows_lists
  round_rows g =
      let r = (round_takes_turns n some).1 (λ i. rows_in (lists i)) (map (out_row row_in) outs) (gives_by row_in (out_row row_in) (round_robin_stream n) (round_robin_stream n) (round_follows row_in n) lists outs g) in
      sym (rows_out_by row_in outs) ∙ ap rows_out r.1 ∙ rows_out_sent Fault r.0 ∙ r.2

  pub merge_rows : (keys : List Key) → Gives (merge_stream n (datum_cmp keys)) lists outs → Merges (row_cmp keys) rows_lists (rows_in (rows_out outs))
  merge_rows keys g = subst (λ ls. Merges (row_cmp keys) ls (rows_in (rows_out outs))) (lists_map rows_in lists 0 n)
      (merges_by row_in (row_cmp keys) (lists_from lists 0 n) (rows_out outs) (((collectors_fit Datum Fault).merge n some (datum_cmp keys)).2 order lists outs g))
    where
      order : IsOrder (datum_cmp keys)
      order = let o = is_order (row_total keys) in record { itself = λ x. o.itself (row_in x); below = λ x b y. o.below (row_in x) (row_in b) (row_in y); one_way = λ x y. o.one_way (row_in x) (row_in y) }

-- what goes to a lane, as rows
pub sent_all : (t : ℕ) (xs : List Datum) → sent (λ t x. true) t xs ≡ xs
sent_all t [] = refl
sent_all t (x ∷ xs) = ap (λ r. x ∷ r) (sent_all (suc t) xs)

pub sent_rows : (here : ℕ → Datum → Bool) (goes : ℕ → Row → ℕ) (j : ℕ) → ((t : ℕ) (x : Datum) → here t x ≡ (goes t (row_in x) == j)) → (t : ℕ) (xs : List Datum) → rows_in (sent here t xs) ≡ lane goes j t (rows_in xs)
sent_rows here goes j h t [] = refl
sent_rows here goes j h t (x ∷ xs) = by_test (here t x) ∙ ap₂ (λ b l. cond b (row_in x ∷ l) l) (h t x) (sent_rows here goes j h (suc t) xs)
  where
    by_test : (b : Bool) → rows_in (cond b (x ∷ sent here (suc t) xs) (sent here (suc t) xs)) ≡ cond b (row_in x ∷ rows_in (sent here (suc t) xs)) (rows_in (sent here (suc t) xs))
    by_test true = refl
    by_test false = refl

pub lanes_are : (goes : ℕ → ℕ → Row → ℕ) (j : ℕ) (rows : ℕ → List Row) (a n : ℕ) → lists_from (λ s. lane (goes s) j 0 (rows s)) a n ≡ lanes_to goes j a (map rows (range_with_len a n))
lanes_are goes j rows a zero = refl
lanes_are goes j rows a (suc n) = ap (λ t. lane (goes a) j 0 (rows a) ∷ t) (lanes_are goes j rows (suc a) n ∙ ap (λ z. lanes_to goes j (suc a) (map rows (range_with_len z n))) (next a))
