-- A legal execution of a flow's plan is a legal run of the flow.
use Rattle.std.proofs.Common.{◌≡◌, ◌⊎◌, inl, inr, ℕ, zero, suc, ◌+◌, ◌<◌, ◌≤◌, ◌==◌, Bool, true, false, cond, refl, sym, ap, ap₂, ◌∙◌, subst, List, [], ◌∷◌, ◌++◌, length, map, get_or, arith}
use Rattle.std.specs.Prelude.{Option, Some, None, is_some}
use Rattle.std.proofs.lemmas.List.FromFn.{length-map-range_with_len, get_or-map-range_with_len}
use Rattle.std.proofs.lemmas.List.Sorted.{All-permutation, IsPermutation-sym}
use Rattle.std.proofs.lemmas.List.Elements.{All-from_recursion, recursion_from_All}
use Rattle.std.specs.List.{AllByRecursion, range_with_len}
use Rattle.streams.specs.Lists.{IsIn, Interleaves, lists_from}
use Rattle.streams.specs.Core.{Player, Lane}
use Rattle.streams.specs.Plans.{IsLegal, sent}
use Rattle.streams.specs.Streams.{Out, sends, Stream, Gives, on, faults_out, rows_out}
use Rattle.streams.specs.Operators.{any_stream}
use Rattle.streams.specs.Wiring.{Wire, Plan, gathered, net_of, IsWired}
use Rattle.streams.proofs.Collected.{collectors_fit}
use Rattle.streams.proofs.Wired.{players-in}
use Rattle.ds_schema.specs.declared.key.Key.{Key}
use Rattle.op_base.specs.declared.fault.Fault.{Fault}
use Rattle.op_base.specs.Columns.{Row, Lies}
use Rattle.op_base.specs.Keyed.{arranged}
use Rattle.op_base.proofs.All.{map_two}
use Rattle.op_base.proofs.Interleavings.{interleaves_one}
use Rattle.op_base.proofs.RowLists.{sort_permutes}
use Rattle.op_order.specs.Ordered.{tsort_stream}
use Rattle.op_order.proofs.Means.{tsort-arranges}
use Rattle.flow_graph.specs.declared.route.Choice.{Choice}
use Rattle.flow_graph.specs.Charts.{Chart, link_at, links_into, links_from, into_seq}
use Rattle.flow_graph.specs.FlowShape.{ForwardOrder}
use Rattle.flow_graph.specs.Operators.{Op}
use Rattle.flow_graph.specs.Runs as runs
use Rattle.flow_graph.specs.Runs.{Lists, Runs, Delivers, Arrives, slice, faults_on, arranged_if}
use Rattle.flow_score.specs.Scores.{is_same}
use Rattle.flow_plan.specs.Data.{Datum, rows_in}
use Rattle.flow_plan.specs.Planned.{op_count, link_count, sort_operator, link_behind_sort, has_sort, sorter, link, behind, file, plan_wire, plan_of, out_by, node_by, StreamsFit}
use Rattle.plan_sound.specs.Working.{rows_at, AllFit, IsFileOf, Came, Made, Works}
use Rattle.plan_sound.specs.FlowRuns.{player, file_lane, sent_by, got_by, lists_of, CanPlay, IsTied, LegalRuns}
use Rattle.flow_plan.proofs.Members.{order_has, order_below, into_in, from_in, in_into, in_from}
use Rattle.flow_plan.proofs.Following.{numbered_gives, on_rows}
use Rattle.flow_plan.proofs.Wiring as wiring
use Rattle.flow_plan.proofs.Wiring.{is_wired, in_either, at_link, at_behind, at_file}
use Rattle.plan_sound.proofs.Arriving.{many_collected, straight_collected, file_collected}
use Rattle.plan_sound.proofs.Collecting.{any_rows, sent_all}
use Rattle.plan_sound.proofs.Bringing.{ManyCome, OneComes, brings, arrived_all, map_below, all_below}
use Rattle.plan_sound.proofs.Giving.{gives_all}

on_sent : (rows : List Row) → on {F = Fault} 0 (map (sends 0) rows) ≡ rows
on_sent [] = refl
on_sent (r ∷ rows) = ap (λ t. r ∷ t) (on_sent rows)

arranged_all : (P : Row → Type 0) (keys : List Key) (rows : List Row) → AllByRecursion P rows → AllByRecursion P (arranged keys rows)
arranged_all P keys rows h = recursion_from_All P (arranged keys rows) (All-permutation P rows (arranged keys rows) (IsPermutation-sym (arranged keys rows) rows (sort_permutes keys rows)) (All-from_recursion P rows h))

if_arranged_all : (P : Row → Type 0) (sort : Option (List Key)) (rows : List Row) → AllByRecursion P rows → AllByRecursion P (arranged_if sort rows)
if_arranged_all P None rows h = h
if_arranged_all P (Some keys) rows h = arranged_all P keys rows h

each_at : {Y : Type 0} (P : Y → Type 0) (f : ℕ → Y) (a n : ℕ) → AllByRecursion P (map f (range_with_len a n)) → (j : ℕ) → a ≤ j → j < a + n → P (f j)
each_at P f a zero h j l m = absurd (omega (arith, l, m))
each_at P f a (suc n) h j l m = go (Rattle.std.proofs.lemmas.Bool.Decides.eqb_tells j a) (λ b. each_at P f (a + 1) n h.1 j b (omega (arith, m)))
  where
    above : (j a : ℕ) → a ≤ j → (j ≡ a → ⊥) → a + 1 ≤ j
    above j a l e = grind arith

    go : (((j == a) ≡ true) × (j ≡ a)) ⊎ (((j == a) ≡ false) × (j ≡ a → ⊥)) → (a + 1 ≤ j → P (f j)) → P (f j)
    go (inl e) rec = subst (λ z. P (f z)) (sym e.1) h.0
    go (inr e) rec = rec (above j a l e.1)

mapped_all : {X Y : Type 0} (P : Y → Type 0) (g : X → Y) (xs : List X) → ((x : X) → IsIn x xs → P (g x)) → AllByRecursion P (map g xs)
mapped_all P g [] h = tt
mapped_all P g (x ∷ xs) h = (h x (inl refl), mapped_all P g xs (λ y i. h y (inr i)))

all_in : {X : Type 0} (P : X → Type 0) (xs : List X) → ((x : X) → IsIn x xs → P x) → AllByRecursion P xs
all_in P [] h = tt
all_in P (x ∷ xs) h = (h x (inl refl), all_in P xs (λ y i. h y (inr i)))

same_map : {X Y : Type 0} (v w : X → Y) (xs : List X) → ((x : X) → IsIn x xs → v x ≡ w x) → map v xs ≡ map w xs
same_map v w [] h = refl
same_map v w (x ∷ xs) h = ap₂ (λ a b. a ∷ b) (h x (inl refl)) (same_map v w xs (λ y i. h y (inr i)))

-- what holds of the links that leave an operator where it holds of those into it, holds of all links
module _ (P : ℕ → Type 0) (c : Chart) (step : (o : ℕ) → IsIn o c.order → ((l : ℕ) → IsIn l (links_into c o) → P l) → (l : ℕ) → IsIn l (links_from c o) → P l) where
  lies_at : (xs ys : List ℕ) → Lies xs ys → (l : ℕ) → IsIn l xs → IsIn l ys
  lies_at [] ys h l i = absurd i
  lies_at (x ∷ xs) ys h l (inl e) = subst (λ z. IsIn z ys) (sym e) h.0
  lies_at (x ∷ xs) ys h l (inr i) = lies_at xs ys h.1 l i

  pub along : (order seen : List ℕ) → ((o : ℕ) → IsIn o order → IsIn o c.order) → ((l : ℕ) → IsIn l seen → P l) → ForwardOrder c seen order → (l : ℕ) → l < link_count c → IsIn (link_at c l).from order → P l
  along [] seen there h f l m i = absurd i
  along (o ∷ order) seen there h f l m i = go (along order (links_from c o ++ seen) (λ p j. there p (inr j)) (λ k j. elim (in_either k (links_from c o) seen j) [ inl a ↦ here k a | inr b ↦ h k b ]) f.1 l m) i
    where
      here : (k : ℕ) → IsIn k (links_from c o) → P k
      here = step o (there o (inl refl)) (λ k j. h k (lies_at (links_into c o) seen f.0 k j))

      go : (IsIn (link_at c l).from order → P l) → IsIn (link_at c l).from (o ∷ order) → P l
      go rec (inl e) = here l (from_in c o l m e)
      go rec (inr j) = rec j

module _ (c : Chart) (fits : ℕ → Row → Bool) (choice : ℕ → Choice) (degree : ℕ → ℕ) (ops : ℕ → Op) (stream : ℕ → Stream Datum Fault) (files lane : Lane → List Datum) (taken : Player → ℕ → List Datum) (made : Player → List (Out Datum Fault))
    (can : CanPlay c fits choice degree ops stream files) (legal : IsLegal (net_of (plan_of c choice degree stream)) files lane taken made) where
  abbrev plan : Plan Datum Fault
  plan = plan_of c choice degree stream

  abbrev run : Lists
  run = lists_of c degree taken made

  streams : StreamsFit c stream
  streams = record { are = λ o h. (can.works o h).is_stream; ports = λ o h. (can.works o h).ports }

  wired : IsWired (plan_of c choice degree stream)
  wired = is_wired c choice degree stream can.shape can.choices streams

  -- what is sent on a link by a partition, and what is taken first, before a sort
  abbrev sends_on : ℕ → ℕ → List Datum
  sends_on l s = on (link_at c l).out (made (player (link_at c l).from s))

  abbrev first_op : ℕ → ℕ
  first_op l = cond (has_sort choice l) (sort_operator c l) (link_at c l).to

  abbrev first_port : ℕ → ℕ
  first_port l = cond (has_sort choice l) 0 (link_at c l).port

  abbrev first_taken : ℕ → ℕ → List Datum
  first_taken l j = taken (player (first_op l) j) (first_port l)

  -- by the wire at a port
  abbrev ManyFrom : Wire Datum Fault → ℕ → List Datum → Type 0
  ManyFrom w j t = (outs : List (Out Datum Fault)) × Gives (gathered w.gather (plan.degree w.from)) (λ s. sent (λ t x. w.goes s t x j) 0 (on w.out (made (player w.from s)))) outs × (t ≡ rows_out outs)

  abbrev OneFrom : Wire Datum Fault → ℕ → List Datum → Type 0
  OneFrom w j t = (outs : List (Out Datum Fault)) × Gives (gathered w.gather 1) (λ s. sent (λ t x. w.goes j t x j) 0 (on w.out (made (player w.from j)))) outs × (t ≡ rows_out outs)

  many_from : (o i j : ℕ) (w : Wire Datum Fault) → plan.wire (plan.input o i) ≡ w → IsIn o plan.order → i < (plan.stream o).ports → j < plan.degree o → w.file ≡ false → w.straight ≡ false → ManyFrom w j (taken (player o j) i)
  many_from o i j w e there lt low no_file apart =
      let k = many_collected plan wired files lane taken made legal o i j there lt low (ap (λ (z : Wire Datum Fault). z.file) e ∙ no_file) (ap (λ (z : Wire Datum Fault). z.straight) e ∙ apart) in
      subst (λ z. ManyFrom z j (taken (player o j) i)) e (k.outs, k.gives, k.is)

  one_from : (o i j : ℕ) (w : Wire Datum Fault) → plan.wire (plan.input o i) ≡ w → IsIn o plan.order → i < (plan.stream o).ports → j < plan.degree o → w.file ≡ false → w.straight ≡ true → OneFrom w j (taken (player o j) i)
  one_from o i j w e there lt low no_file straight =
      let k = straight_collected plan wired files lane taken made legal o i j there lt low (ap (λ (z : Wire Datum Fault). z.file) e ∙ no_file) (ap (λ (z : Wire Datum Fault). z.straight) e ∙ straight) in
      subst (λ z. OneFrom z j (taken (player o j) i)) e (k.outs, k.gives, k.is)

  module _ (l : ℕ) (h : l < link_count c) where
    to_low : (link_at c l).to < op_count c
    to_low = (can.shape.links l h).to

    from_low : (link_at c l).from < op_count c
    from_low = (can.shape.links l h).from

    to_there : IsIn (link_at c l).to c.order
    to_there = order_has c can.shape.order (link_at c l).to to_low

    enters : IsIn l (links_into c (link_at c l).to)
    enters = into_in c (link_at c l).to l h refl

    facts : IsIn (first_op l) plan.order × (first_port l < (plan.stream (first_op l)).ports) × (plan.input (first_op l) (first_port l) ≡ l) × (plan.degree (first_op l) ≡ degree (link_at c l).to)
    facts = wiring.out_link c choice degree stream can.shape can.choices streams l h (has_sort choice l) refl

    wire_is : plan.wire (plan.input (first_op l) (first_port l)) ≡ plan_wire c choice degree (link l)
    wire_is = ap plan.wire facts.2 ∙ wiring.wire_link c choice degree stream can.shape can.choices streams l h

    low_at : (j : ℕ) → j < degree (link_at c l).to → j < plan.degree (first_op l)
    low_at j m = subst (λ n. j < n) (sym facts.3) m

    many_come : is_same (choice l).method ≡ false → (j : ℕ) → j < degree (link_at c l).to → ManyCome (into_seq c l) (choice l).method (degree (link_at c l).from) (degree (link_at c l).to) (sends_on l) j (first_taken l j)
    many_come apart j m =
        subst (λ n. ManyCome (into_seq c l) (choice l).method n (degree (link_at c l).to) (sends_on l) j (first_taken l j)) (wiring.degree_working c choice degree stream can.shape can.choices streams (link_at c l).from from_low)
        (many_from (first_op l) (first_port l) j (plan_wire c choice degree (link l)) wire_is facts.0 facts.1 (low_at j m) refl apart)

    one_comes : is_same (choice l).method ≡ true → (j : ℕ) → j < degree (link_at c l).to → OneComes (into_seq c l) (choice l).method (degree (link_at c l).to) (sends_on l) j (first_taken l j)
    one_comes straight j m = one_from (first_op l) (first_port l) j (plan_wire c choice degree (link l)) wire_is facts.0 facts.1 (low_at j m) refl straight

    -- what came, before a sort
    abbrev mid : List (List Row)
    mid = map (λ j. rows_in (first_taken l j)) (range_with_len 0 (degree (link_at c l).to))

    pub arrives : Arrives (into_seq c l) (choice l).method (run.sent l) (map (λ j. rows_in (taken (player (cond (has_sort choice l) (sort_operator c l) (link_at c l).to) j) (cond (has_sort choice l) 0 (link_at c l).port))) (range_with_len 0 (degree (link_at c l).to)))
    arrives = brings (degree (link_at c l).from) (degree (link_at c l).to) (sends_on l) (first_taken l) (can.choices.some (link_at c l).from from_low) (into_seq c l) (choice l).method
        (can.choices.may_stand l h) (λ s. can.choices.one (link_at c l).to to_low s) (λ s. can.choices.equal l h s) one_comes many_come

    -- a sort gives its consumer what it took, arranged
    seat_at : (o j : ℕ) → IsIn o plan.order → j < plan.degree o → IsIn (player o j) (net_of plan).players
    seat_at o j there low = players-in plan wired plan.order o j there low

    sorted_at : (sort : Option (List Key)) → (choice l).sort ≡ sort → (j : ℕ) → j < degree (link_at c l).to → got_by c taken l j ≡ arranged_if sort (rows_in (first_taken l j))
    sorted_at None e j m = ap (λ b. rows_in (taken (player (cond b (sort_operator c l) (link_at c l).to) j) (cond b 0 (link_at c l).port))) (sym (ap is_some e))
    sorted_at (Some keys) e j m = from_sort ∙ sorted ∙ ap (λ b. arranged keys (rows_in (taken (player (cond b (sort_operator c l) (link_at c l).to) j) (cond b 0 (link_at c l).port)))) (sym has)
      where
        has : has_sort choice l ≡ true
        has = ap is_some e

        p : Player
        p = player (sort_operator c l) j

        there : IsIn (sort_operator c l) plan.order
        there = wiring.sorting_in c choice degree stream l h has to_there

        behind_at : plan.input (link_at c l).to (link_at c l).port ≡ link_behind_sort c l
        behind_at = wiring.input_at c choice degree stream can.shape can.choices streams (link_at c l).to l to_low enters ∙ ap (λ b. cond b (link_behind_sort c l) l) has

        behind_is : plan.wire (plan.input (link_at c l).to (link_at c l).port) ≡ plan_wire c choice degree (behind l)
        behind_is = ap plan.wire behind_at ∙ wiring.wire_behind c choice degree stream can.shape can.choices streams l h

        low : j < plan.degree (link_at c l).to
        low = subst (λ n. j < n) (sym (wiring.degree_working c choice degree stream can.shape can.choices streams (link_at c l).to to_low)) m

        comes : OneFrom (plan_wire c choice degree (behind l)) j (taken (player (link_at c l).to j) (link_at c l).port)
        comes = one_from (link_at c l).to (link_at c l).port j (plan_wire c choice degree (behind l)) behind_is (wiring.working_in c choice degree stream (link_at c l).to to_there)
            (wiring.ports_working c choice degree stream can.shape can.choices streams (link_at c l).to (link_at c l).port to_low (wiring.port_of c choice degree stream can.shape can.choices streams (link_at c l).to l to_low enters).0) low refl refl

        from_sort : got_by c taken l j ≡ rows_in (on 0 (made (player (sort_operator c l) j)))
        from_sort = interleaves_one (rows_in (sent (λ t x. true) 0 (on 0 (made (player (sort_operator c l) j)))) ∷ []) (got_by c taken l j) (rows_in (on 0 (made (player (sort_operator c l) j))))
            (subst (λ t. Interleaves (rows_in (sent (λ t x. true) 0 (on 0 (made (player (sort_operator c l) j)))) ∷ []) (rows_in t)) (sym comes.2) (any_rows 1 (omega arith) (λ s. sent (λ t x. true) 0 (on 0 (made (player (sort_operator c l) j)))) comes.0 comes.1))
            (inl (ap rows_in (sent_all 0 (on 0 (made (player (sort_operator c l) j)))), tt))

        sort_low : j < plan.degree (sort_operator c l)
        sort_low = subst (λ n. j < n) (sym (wiring.degree_sorting c choice degree stream can.shape can.choices streams l)) m

        given : Gives (sorter (Some keys)) (taken (player (sort_operator c l) j)) (made (player (sort_operator c l) j))
        given = subst (λ s. Gives s (taken (player (sort_operator c l) j)) (made (player (sort_operator c l) j))) (wiring.stream_sorting c choice degree stream can.shape can.choices streams l ∙ ap sorter e) (legal.given p (seat_at (sort_operator c l) j there sort_low))

        sorted : rows_in (on 0 (made (player (sort_operator c l) j))) ≡ arranged keys (rows_in (taken (player (sort_operator c l) j) 0))
        sorted =
            let g = numbered_gives 0 (tsort_stream keys) (taken (player (sort_operator c l) j)) (made (player (sort_operator c l) j)) given in
            ap (λ m. rows_in (on 0 m)) g.2 ∙ on_rows 0 0 g.0 ∙ ap (on 0) (tsort-arranges keys (λ i. rows_in (taken (player (sort_operator c l) j) i)) g.0 g.1) ∙ on_sent (arranged keys (rows_in (taken (player (sort_operator c l) j) 0)))

    got_at : (j : ℕ) → j < degree (link_at c l).to → got_by c taken l j ≡ arranged_if (choice l).sort (rows_in (first_taken l j))
    got_at j m = sorted_at (choice l).sort refl j m

    pub delivers : Delivers (out_by c choice l) (choice l).sort (run.sent l) (run.got l)
    delivers = record {
      mid = mid;
      some = subst (λ n. 0 < n) (sym (length-map-range_with_len (λ j. rows_in (first_taken l j)) 0 (degree (link_at c l).to))) (can.choices.some (link_at c l).to to_low);
      arrives = arrives;
      sorted = map_below (got_by c taken l) (λ j. arranged_if (choice l).sort (rows_in (first_taken l j))) 0 (degree (link_at c l).to) (λ j a m. got_at j (omega (arith, m)))
          ∙ sym (map_two (λ j. rows_in (first_taken l j)) (arranged_if (choice l).sort) (range_with_len 0 (degree (link_at c l).to)));
    }

    -- rows that fit the link where they are sent fit it where they come
    pub got_fits : AllByRecursion (AllFit (fits l)) (run.sent l) → AllByRecursion (AllFit (fits l)) (run.got l)
    got_fits s = all_below (AllFit (fits l)) (got_by c taken l) 0 (degree (link_at c l).to) (λ j a m. let low : j < degree (link_at c l).to = omega (arith, m) in
        subst (AllFit (fits l)) (sym (got_at j low)) (if_arranged_all (λ r. fits l r ≡ true) (choice l).sort (rows_in (first_taken l j))
        (each_at (AllFit (fits l)) (λ j. rows_in (first_taken l j)) 0 (degree (link_at c l).to) (arrived_all (λ r. fits l r ≡ true) (into_seq c l) (choice l).method (run.sent l) mid arrives s) j a m)))

  -- The operators.
  module _ (o : ℕ) (there : IsIn o c.order) where
    o_low : o < op_count c
    o_low = order_below c can.shape.order o there

    o_there : IsIn o plan.order
    o_there = wiring.working_in c choice degree stream o there

    low_as : (p : ℕ) → p < degree o → p < plan.degree o
    low_as p m = subst (λ n. p < n) (sym (wiring.degree_working c choice degree stream can.shape can.choices streams o o_low)) m

    given_at : (p : ℕ) → p < degree o → Gives (stream o) (taken (player o p)) (made (player o p))
    given_at p m = subst (λ s. Gives s (taken (player o p)) (made (player o p))) (wiring.stream_working c choice degree stream can.shape can.choices streams o o_low) (legal.given (player o p) (players-in plan wired plan.order o p o_there (low_as p m)))

    -- a source's port has its file
    file_at : (p : ℕ) → p < degree o → links_into c o ≡ [] → taken (player o p) 0 ≡ files (file_lane c o p)
    file_at p m none = go (wiring.port_at c choice degree stream can.shape can.choices streams o 0 o_low port)
      where
        port : 0 < (plan.stream o).ports
        port = subst (λ (s : Stream Datum Fault). 0 < s.ports) (sym (wiring.stream_working c choice degree stream can.shape can.choices streams o o_low)) (can.works o o_low).is_stream.some

        go : wiring.AtPort c choice degree stream can.shape can.choices streams o 0 → taken (player o p) 0 ≡ files (file_lane c o p)
        go (at_link l i a s w) = absurd (subst (λ ls. IsIn l ls) none i)
        go (at_behind l i a s w) = absurd (subst (λ ls. IsIn l ls) none i)
        go (at_file n z w) =
            let wire_is : plan.wire (plan.input o 0) ≡ plan_wire c choice degree (file o) = ap plan.wire w ∙ wiring.wire_file c choice degree stream can.shape can.choices streams o in
            let k = file_collected plan wired files lane taken made legal o 0 p o_there port (low_as p m) (ap (λ (z : Wire Datum Fault). z.file) wire_is) in
            let own : List Datum = files (record { link = plan.input o 0; from = p; to = p }) in
            let gives : Gives (any_stream 1) (λ s. own) k.outs = subst (λ (z : Wire Datum Fault). Gives (gathered z.gather 1) (λ s. own) k.outs) wire_is k.gives in
            k.is ∙ interleaves_one (own ∷ []) (rows_out k.outs) own (((collectors_fit Datum Fault).any 1 (omega arith)).1 (λ s. own) k.outs gives) (inl (refl, tt)) ∙ ap (λ z. files (record { link = z; from = p; to = p })) w

    -- what its partitions make, where the rows of its inputs fit
    module _ (inputs_fit : (l : ℕ) → IsIn l (links_into c o) → AllByRecursion (AllFit (fits l)) (run.got l)) where
      came : (p : ℕ) → p < degree o → Came c fits o (taken (player o p))
      came p m l i =
          let b = in_into c o l i in
          subst (λ q. AllFit (fits l) (rows_in (taken (player q p) (link_at c l).port))) b.1
          (each_at (AllFit (fits l)) (got_by c taken l) 0 (degree (link_at c l).to) (inputs_fit l i) p (omega arith) (low b.1 m))
        where
          low : {d : ℕ} → d ≡ o → p < degree o → p < 0 + degree d
          low {d} e m = let k : p < degree d = subst (λ z. p < degree z) (sym e) m in omega (arith, k)

      pub makes : (p : ℕ) → p < degree o → Made c fits o (ops o) p (rows_at (taken (player o p)) (length (links_into c o))) (made (player o p))
      makes p m = (can.works o o_low).works p (taken (player o p)) (made (player o p)) (λ none. subst (IsFileOf (ops o) p) (sym (file_at p m none)) (can.files o p o_low m none)) (came p m) (given_at p m)

      pub outs_fit : (l : ℕ) → IsIn l (links_from c o) → AllByRecursion (AllFit (fits l)) (run.sent l)
      outs_fit l i =
          let b = in_from c o l i in
          all_below (AllFit (fits l)) (sent_by c made l) 0 (degree (link_at c l).from) (λ p a m.
          subst (λ q. AllFit (fits l) (rows_in (on (link_at c l).out (made (player q p))))) (sym b.1) ((makes p (low p b.1 m)).rows_fit l i))
        where
          low : {d : ℕ} (p : ℕ) → d ≡ o → p < 0 + degree d → p < degree o
          low {d} p e m = subst (λ z. p < degree z) e (omega (arith, m))

      -- partition p of its inputs
      ports_from : (p : ℕ) (ls : List ℕ) (a : ℕ) → ((k : ℕ) → k < length ls → (link_at c (get_or ls k 0)).port ≡ a + k) → map (λ l. rows_in (taken (player o p) (link_at c l).port)) ls ≡ lists_from (λ i. rows_in (taken (player o p) i)) a (length ls)
      ports_from p [] a h = refl
      ports_from p (l ∷ ls) a h = ap₂ (λ x y. x ∷ y) (ap (λ i. rows_in (taken (player o p) i)) first) (ports_from p ls (suc a) (λ k m. later k (h (suc k) (omega (arith, m)))))
        where
          first : (link_at c l).port ≡ a
          first = let e = h 0 (omega arith) in omega (arith, e)

          later : {b : ℕ} (k : ℕ) → b ≡ a + suc k → b ≡ suc a + k
          later k e = omega (arith, e)

      slice_is : (p : ℕ) → p < degree o → slice p (map run.got (links_into c o)) ≡ rows_at (taken (player o p)) (length (links_into c o))
      slice_is p m =
          map_two run.got (λ parts. get_or parts p []) (links_into c o)
          ∙ same_map (λ l. get_or (run.got l) p []) (λ l. rows_in (taken (player o p) (link_at c l).port)) (links_into c o) (λ l i. one l i)
          ∙ ports_from p (links_into c o) 0 (λ k n. (can.shape.ops o o_low).ports k n ∙ zero_plus k)
        where
          zero_plus : (k : ℕ) → k ≡ 0 + k
          zero_plus k = omega arith

          one : (l : ℕ) → IsIn l (links_into c o) → get_or (map (got_by c taken l) (range_with_len 0 (degree (link_at c l).to))) p [] ≡ rows_in (taken (player o p) (link_at c l).port)
          one l i =
              let b = in_into c o l i in
              get_or-map-range_with_len (got_by c taken l) 0 (degree (link_at c l).to) p p [] (subst (λ z. p < degree z) (sym b.1) m) (omega arith)
              ∙ ap (λ q. rows_in (taken (player q p) (link_at c l).port)) b.1

      gives_on : (l : ℕ) → IsIn l (links_from c o) → runs.Gives (ops o) (link_at c l).out (map run.got (links_into c o)) (degree o) (run.sent l)
      gives_on l i =
          let b = in_from c o l i in
          subst (λ q. runs.Gives (ops o) (link_at c l).out (map run.got (links_into c o)) (degree o) (map (λ p. rows_in (on (link_at c l).out (made (player q p)))) (range_with_len 0 (degree q)))) (sym b.1)
          (gives_all (map run.got (links_into c o)) (λ p. rows_in (on (link_at c l).out (made (player o p)))) (ops o) (link_at c l).out (degree o)
          (λ p m. subst (λ ins. Rattle.plan_sound.specs.Working.GivesOn (ops o) (link_at c l).out p ins (rows_in (on (link_at c l).out (made (player o p))))) (sym (slice_is p m)) ((makes p m).rows_are l i)))

      fails_as : run.failed o ≡ map (λ p. faults_on (ops o) p (slice p (map run.got (links_into c o)))) (range_with_len 0 (degree o))
      fails_as = map_below (λ p. faults_out (made (player o p))) (λ p. faults_on (ops o) p (slice p (map run.got (links_into c o)))) 0 (degree o) (λ p a m. let low : p < degree o = omega (arith, m) in
          (makes p low).faults_are ∙ ap (faults_on (ops o) p) (sym (slice_is p low)))

      pub node_runs : Runs (λ l. (choice l).sort) run (node_by c choice ops o)
      node_runs = record {
        degree = degree o;
        some = can.choices.some o o_low;
        fits = can.degrees o o_low;
        degrees = all_in (λ l. length (run.got l) ≡ degree o) (links_into c o) (λ l i. length-map-range_with_len (got_by c taken l) 0 (degree (link_at c l).to) ∙ ap degree (in_into c o l i).1);
        gives = mapped_all (λ (t : runs.Out). runs.Gives (ops o) t.port (map run.got (links_into c o)) (degree o) (run.sent t.link)) (out_by c choice) (links_from c o) (λ l i. gives_on l i);
        fails = fails_as;
        comes = mapped_all (λ (t : runs.Out). Delivers t (choice t.link).sort (run.sent t.link) (run.got t.link)) (out_by c choice) (links_from c o) (λ l i. delivers l (in_from c o l i).0);
      }

  -- rows fit their links, from one operator to the next
  sent_fit : (l : ℕ) → l < link_count c → AllByRecursion (AllFit (fits l)) (run.sent l)
  sent_fit l h = along (λ l. AllByRecursion (AllFit (fits l)) (run.sent l)) c (λ o there ins. outs_fit o there (λ k i. got_fits k (in_into c o k i).0 (ins k i))) c.order [] (λ o i. i) (λ k i. absurd i) can.shape.order.forward l h
      (order_has c can.shape.order (link_at c l).from (can.shape.links l h).from)

  pub is_tied : IsTied c fits choice ops (lists_of c degree taken made)
  is_tied = record {
    runs = mapped_all (Runs (λ l. (choice l).sort) run) (node_by c choice ops) c.order (λ o there. node_runs o there (λ l i. let h = (in_into c o l i).0 in got_fits l h (sent_fit l h)));
    sent_fit = sent_fit;
    got_fit = λ l h. got_fits l h (sent_fit l h);
  }

pub legal_runs : LegalRuns
legal_runs c fits choice degree ops stream files lane taken made can legal = is_tied c fits choice degree ops stream files lane taken made can legal
