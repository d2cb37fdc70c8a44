-- The plan of a shaped flow is wired.
use Rattle.std.proofs.Common.{◌≡◌, ◌⊎◌, inl, inr, ℕ, zero, suc, ◌+◌, ◌-◌, ◌<◌, ◌≤◌, Bool, true, false, cond, refl, sym, ap, ◌∙◌, subst, List, [], ◌∷◌, ◌++◌, length, filter, map, get_or, arith}
use Rattle.std.specs.Prelude.{nat_lt, Option, Some, None}
use Rattle.std.specs.List.{flat_map}
use Rattle.std.proofs.lemmas.Bool.{lt-ltb, le-ltb, ltb-true, ltb-false}
use Rattle.streams.specs.Lists.{IsIn}
use Rattle.streams.specs.Streams.{Stream, IsStream}
use Rattle.streams.specs.Wiring.{Wire, Plan, IsGathering, GoesForward, Leaves, IsWired}
use Rattle.streams.proofs.Collected.{collectors_fit}
use Rattle.ds_schema.specs.declared.key.Key.{Key}
use Rattle.op_base.specs.declared.fault.Fault.{Fault}
use Rattle.op_order.specs.Ordered.{tsort_stream}
use Rattle.op_order.specs.AreStreams.{tsort_is}
use Rattle.flow_graph.specs.declared.route.Route.{Route}
use Rattle.flow_graph.specs.declared.route.Route.TheVariants as route
use Rattle.flow_graph.specs.declared.route.Choice.{Choice}
use Rattle.flow_graph.specs.Charts.{Chart, link_at, links_into, links_from, into_seq}
use Rattle.flow_graph.specs.FlowShape.{IsShape, ForwardOrder}
use Rattle.op_base.specs.Columns.{Lies}
use Rattle.flow_plan.specs.Data.{Datum, datum_cmp}
use Rattle.flow_plan.specs.Planned.{working, sorting, plan_operator_at, link, behind, file, plan_link_at, op_count, link_count, sort_operator, link_behind_sort, file_link, has_sort, last_link, sorts_into, with_sorts, sorter, gather_by, plan_degree, plan_stream, plan_input, plan_outs, plan_wire, plan_of, ports_for, ChoicesFit, StreamsFit, PlansAreWired}
use Rattle.flow_plan.proofs.Members.{in_filter, filter_in, place_of, at_place, Apart, filter_apart, order_has, order_apart, order_below, into_in, from_in, in_into, in_from, into_apart}
use Rattle.flow_plan.proofs.Following.{numbered_is}

-- members of joined and mapped lists
pub in_either : {A : Type 0} (x : A) (xs ys : List A) → IsIn x (xs ++ ys) → IsIn x xs ⊎ IsIn x ys
in_either x [] ys i = inr i
in_either x (y ∷ xs) ys (inl e) = inl (inl e)
in_either x (y ∷ xs) ys (inr i) = elim (in_either x xs ys i) [ inl j ↦ inl (inr j) | inr j ↦ inr j ]

in_front : {A : Type 0} (x : A) (xs ys : List A) → IsIn x xs → IsIn x (xs ++ ys)
in_front x [] ys i = absurd i
in_front x (y ∷ xs) ys (inl e) = inl e
in_front x (y ∷ xs) ys (inr i) = inr (in_front x xs ys i)

in_back : {A : Type 0} (x : A) (xs ys : List A) → IsIn x ys → IsIn x (xs ++ ys)
in_back x [] ys i = i
in_back x (y ∷ xs) ys i = inr (in_back x xs ys i)

in_mapped : {A B : Type 0} (f : A → B) (xs : List A) (y : B) → IsIn y (map f xs) → (x : A) × IsIn x xs × (y ≡ f x)
in_mapped f [] y h = absurd h
in_mapped f (x ∷ xs) y (inl e) = (x, inl refl, e)
in_mapped f (x ∷ xs) y (inr h) = let r = in_mapped f xs y h in (r.0, inr r.1, r.2)

mapped_in : {A B : Type 0} (f : A → B) (xs : List A) (x : A) → IsIn x xs → IsIn (f x) (map f xs)
mapped_in f [] x h = absurd h
mapped_in f (y ∷ xs) x (inl e) = inl (ap f e)
mapped_in f (y ∷ xs) x (inr h) = inr (mapped_in f xs x h)

pub in_flat : {A B : Type 0} (f : A → List B) (xs : List A) (y : B) → IsIn y (flat_map f xs) → (x : A) × IsIn x xs × IsIn y (f x)
in_flat f [] y h = absurd h
in_flat f (x ∷ xs) y h = elim (in_either y (f x) (flat_map f xs) h) [ inl i ↦ (x, inl refl, i) | inr i ↦ (let r = in_flat f xs y i in (r.0, inr r.1, r.2)) ]

flat_in : {A B : Type 0} (f : A → List B) (xs : List A) (x : A) (y : B) → IsIn x xs → IsIn y (f x) → IsIn y (flat_map f xs)
flat_in f [] x y h i = absurd h
flat_in f (z ∷ xs) x y (inl e) i = in_front y (f z) (flat_map f xs) (subst (λ w. IsIn y (f w)) e i)
flat_in f (z ∷ xs) x y (inr h) i = in_back y (f z) (flat_map f xs) (flat_in f xs x y h i)

-- numbers of the plan
pub at_working : (n o : ℕ) → o < n → plan_operator_at n o ≡ working o
at_working n o l = ap (λ b. cond b (working o) (sorting (o - n))) (lt-ltb _ _ l)

pub at_sorting : (n l : ℕ) → plan_operator_at n (n + l) ≡ sorting l
at_sorting n l = ap (λ b. cond b (working (n + l)) (sorting (n + l - n))) (le-ltb _ _ high) ∙ ap sorting back
  where
    high : n ≤ n + l
    high = omega arith

    back : n + l - n ≡ l
    back = omega arith

pub at_flow_link : (m l : ℕ) → l < m → plan_link_at m l ≡ link l
at_flow_link m l h = ap (λ b. cond b (link l) (cond (nat_lt l (m + m)) (behind (l - m)) (file (l - (m + m))))) (lt-ltb _ _ h)

pub at_link_behind : (m l : ℕ) → l < m → plan_link_at m (m + l) ≡ behind l
at_link_behind m l h =
    ap (λ b. cond b (link (m + l)) (cond (nat_lt (m + l) (m + m)) (behind (m + l - m)) (file (m + l - (m + m))))) (le-ltb _ _ high)
    ∙ ap (λ b. cond b (behind (m + l - m)) (file (m + l - (m + m)))) (lt-ltb _ _ low) ∙ ap behind back
  where
    high : m ≤ m + l
    high = omega arith

    low : m + l < m + m
    low = omega (arith, h)

    back : m + l - m ≡ l
    back = omega arith

pub at_file_link : (m o : ℕ) → plan_link_at m (m + m + o) ≡ file o
at_file_link m o =
    ap (λ b. cond b (link (m + m + o)) (cond (nat_lt (m + m + o) (m + m)) (behind (m + m + o - m)) (file (m + m + o - (m + m))))) (le-ltb _ _ high)
    ∙ ap (λ b. cond b (behind (m + m + o - m)) (file (m + m + o - (m + m)))) (le-ltb _ _ higher) ∙ ap file back
  where
    high : m ≤ m + m + o
    high = omega arith

    higher : m + m ≤ m + m + o
    higher = omega arith

    back : m + m + o - (m + m) ≡ o
    back = omega arith

pub ports_some : (n i : ℕ) → i < n → ports_for n ≡ n
ports_some zero i h = absurd (omega (arith, h))
ports_some (suc n) i h = refl

pub sorter_is : (sort : Option (List Key)) → IsStream (sorter sort)
sorter_is None = numbered_is 0 (tsort_stream []) (tsort_is [])
sorter_is (Some keys) = numbered_is 0 (tsort_stream keys) (tsort_is keys)

pub sorter_ports : (sort : Option (List Key)) → (sorter sort).ports ≡ 1
sorter_ports None = refl
sorter_ports (Some keys) = refl

gathers : (seq : Bool) (r : Route) → IsGathering (gather_by seq r)
gathers seq route.Same = tt
gathers false route.RoundRobin = tt
gathers true route.RoundRobin = λ n some. (((collectors_fit Datum Fault).round_robin n some).0, refl)
gathers seq route.Entire = tt
gathers seq (route.Hash K) = tt
gathers seq (route.Modulus c) = tt
gathers seq route.Any = tt
gathers seq route.Ordered = λ n some. (((collectors_fit Datum Fault).ordered n some).0, refl)
gathers seq (route.Merge keys) = λ n some. (((collectors_fit Datum Fault).merge n some (datum_cmp keys)).0, refl)

module _ (c : Chart) (choice : ℕ → Choice) (degree : ℕ → ℕ) (stream : ℕ → Stream Datum Fault) where
  abbrev plan : Plan Datum Fault
  plan = plan_of c choice degree stream

  -- which operator of the plan a number is
  pub data AnOp (x : ℕ) : Type 0 where
    is_working : (o : ℕ) → IsIn o c.order → x ≡ o → AnOp x
    is_sorting : (l : ℕ) → l < link_count c → has_sort choice l ≡ true → x ≡ sort_operator c l → AnOp x

  pub op_in : (x : ℕ) → IsIn x (plan_of c choice degree stream).order → AnOp x
  op_in x h =
      let r = in_flat (with_sorts c choice) c.order x h in
      elim (in_either x (sorts_into c choice r.0) (r.0 ∷ []) r.2) [
        | inl i ↦ (let s = in_mapped (sort_operator c) (filter (has_sort choice) (links_into c r.0)) x i in
            let f = filter_in (has_sort choice) (links_into c r.0) s.0 s.1 in is_sorting s.0 (in_into c r.0 s.0 f.0).0 f.1 s.2)
        | inr i ↦ is_working r.0 r.1 (one x r.0 i)
      ]
    where
      one : (x o : ℕ) → IsIn x (o ∷ []) → x ≡ o
      one x o (inl e) = e
      one x o (inr i) = absurd i

  pub working_in : (o : ℕ) → IsIn o c.order → IsIn o (plan_of c choice degree stream).order
  working_in o i = flat_in (with_sorts c choice) c.order o o i (in_back o (sorts_into c choice o) (o ∷ []) (inl refl))

  pub sorting_in : (l : ℕ) → l < link_count c → has_sort choice l ≡ true → IsIn (link_at c l).to c.order → IsIn (sort_operator c l) (plan_of c choice degree stream).order
  sorting_in l h s i = flat_in (with_sorts c choice) c.order (link_at c l).to (sort_operator c l) i
      (in_front (sort_operator c l) (sorts_into c choice (link_at c l).to) ((link_at c l).to ∷ []) (mapped_in (sort_operator c) (filter (has_sort choice) (links_into c (link_at c l).to)) l (in_filter (has_sort choice) (links_into c (link_at c l).to) l (into_in c (link_at c l).to l h refl) s)))

  module _ (shape : IsShape c) (fits : ChoicesFit c choice degree) (streams : StreamsFit c stream) where
    pub below : (o : ℕ) → IsIn o c.order → o < op_count c
    below o i = order_below c shape.order o i

    pub to_in : (l : ℕ) → l < link_count c → IsIn (link_at c l).to c.order
    to_in l h = order_has c shape.order (link_at c l).to (shape.links l h).to

    -- what each number is
    pub degree_working : (o : ℕ) → o < op_count c → (plan_of c choice degree stream).degree o ≡ degree o
    degree_working o h = ap (plan_degree c degree) (at_working (op_count c) o h)

    pub degree_sorting : (l : ℕ) → (plan_of c choice degree stream).degree (sort_operator c l) ≡ degree (link_at c l).to
    degree_sorting l = ap (plan_degree c degree) (at_sorting (op_count c) l)

    pub stream_working : (o : ℕ) → o < op_count c → (plan_of c choice degree stream).stream o ≡ stream o
    stream_working o h = ap (plan_stream choice stream) (at_working (op_count c) o h)

    pub stream_sorting : (l : ℕ) → (plan_of c choice degree stream).stream (sort_operator c l) ≡ sorter (choice l).sort
    stream_sorting l = ap (plan_stream choice stream) (at_sorting (op_count c) l)

    pub input_working : (o i : ℕ) → o < op_count c → (plan_of c choice degree stream).input o i ≡ plan_input c choice (working o) i
    input_working o i h = ap (λ p. plan_input c choice p i) (at_working (op_count c) o h)

    pub input_sorting : (l i : ℕ) → (plan_of c choice degree stream).input (sort_operator c l) i ≡ l
    input_sorting l i = ap (λ p. plan_input c choice p i) (at_sorting (op_count c) l)

    pub outs_working : (o : ℕ) → o < op_count c → (plan_of c choice degree stream).outs o ≡ links_from c o
    outs_working o h = ap (plan_outs c) (at_working (op_count c) o h)

    pub outs_sorting : (l : ℕ) → (plan_of c choice degree stream).outs (sort_operator c l) ≡ link_behind_sort c l ∷ []
    outs_sorting l = ap (plan_outs c) (at_sorting (op_count c) l)

    pub wire_link : (l : ℕ) → l < link_count c → (plan_of c choice degree stream).wire l ≡ plan_wire c choice degree (link l)
    wire_link l h = ap (plan_wire c choice degree) (at_flow_link (link_count c) l h)

    pub wire_behind : (l : ℕ) → l < link_count c → (plan_of c choice degree stream).wire (link_behind_sort c l) ≡ plan_wire c choice degree (behind l)
    wire_behind l h = ap (plan_wire c choice degree) (at_link_behind (link_count c) l h)

    pub wire_file : (o : ℕ) → (plan_of c choice degree stream).wire (file_link c o) ≡ plan_wire c choice degree (file o)
    wire_file o = ap (plan_wire c choice degree) (at_file_link (link_count c) o)

    -- a link into an operator, at its port
    pub port_of : (o l : ℕ) → o < op_count c → IsIn l (links_into c o) → ((link_at c l).port < length (links_into c o)) × (get_or (links_into c o) (link_at c l).port 0 ≡ l)
    port_of o l h i =
        let r = place_of l (links_into c o) i in
        let p : (link_at c l).port ≡ r.0 = sym (ap (λ k. (link_at c k).port) r.2) ∙ (shape.ops o h).ports r.0 r.1 in
        (subst (λ k. k < length (links_into c o)) (sym p) r.1, ap (λ k. get_or (links_into c o) k 0) p ∙ r.2)

    -- the ports of an operator
    pub ports_working : (o i : ℕ) → o < op_count c → i < length (links_into c o) → i < ((plan_of c choice degree stream).stream o).ports
    ports_working o i h l = subst (λ n. i < n) (sym (ap (λ (s : Stream Datum Fault). s.ports) (stream_working o h) ∙ streams.ports o h ∙ ports_some (length (links_into c o)) i l)) l

    -- which way leads to a port
    pub data AtPort (o i : ℕ) : Type 0 where
      at_link : (l : ℕ) → IsIn l (links_into c o) → (link_at c l).port ≡ i → has_sort choice l ≡ false → (plan_of c choice degree stream).input o i ≡ l → AtPort o i
      at_behind : (l : ℕ) → IsIn l (links_into c o) → (link_at c l).port ≡ i → has_sort choice l ≡ true → (plan_of c choice degree stream).input o i ≡ link_behind_sort c l → AtPort o i
      at_file : links_into c o ≡ [] → i ≡ 0 → (plan_of c choice degree stream).input o i ≡ file_link c o → AtPort o i

    pub input_at : (o l : ℕ) → o < op_count c → IsIn l (links_into c o) → (plan_of c choice degree stream).input o (link_at c l).port ≡ last_link c choice l
    input_at o l h i =
        let p = port_of o l h i in
        input_working o (link_at c l).port h ∙ ap (λ b. cond b (last_link c choice (get_or (links_into c o) (link_at c l).port 0)) (file_link c o)) (lt-ltb _ _ p.0) ∙ ap (last_link c choice) p.1

    pub port_at : (o i : ℕ) → o < op_count c → i < ((plan_of c choice degree stream).stream o).ports → AtPort o i
    port_at o i h lt = go (nat_lt i (length (links_into c o))) refl
      where
        ports : ((plan_of c choice degree stream).stream o).ports ≡ ports_for (length (links_into c o))
        ports = ap (λ (s : Stream Datum Fault). s.ports) (stream_working o h) ∙ streams.ports o h

        none : (ls : List ℕ) → i < ports_for (length ls) → length ls ≤ i → (ls ≡ []) × (i ≡ 0)
        none [] l m = (refl, omega (arith, l))
        none (x ∷ ls) l m = absurd (omega (arith, l, m))

        sorted : (l : ℕ) → IsIn l (links_into c o) → (link_at c l).port ≡ i → (b : Bool) → has_sort choice l ≡ b → AtPort o i
        sorted l j p true e = at_behind l j p e (subst (λ k. plan.input o k ≡ link_behind_sort c l) p (input_at o l h j ∙ ap (λ b. cond b (link_behind_sort c l) l) e))
        sorted l j p false e = at_link l j p e (subst (λ k. plan.input o k ≡ l) p (input_at o l h j ∙ ap (λ b. cond b (link_behind_sort c l) l) e))

        go : (b : Bool) → nat_lt i (length (links_into c o)) ≡ b → AtPort o i
        go true e =
            let l : ℕ = get_or (links_into c o) i 0 in
            sorted l (at_place (links_into c o) i (ltb-true _ _ e)) ((shape.ops o h).ports i (ltb-true _ _ e)) (has_sort choice l) refl
        go false e =
            let n = none (links_into c o) (subst (λ k. i < k) ports lt) (ltb-false _ _ e) in
            at_file n.0 n.1 (input_working o i h ∙ ap (λ b. cond b (last_link c choice (get_or (links_into c o) i 0)) (file_link c o)) e)

    -- The parts of being wired.
    degrees : (x : ℕ) → IsIn x plan.order → 0 < plan.degree x
    degrees x i = go (op_in x i)
      where
        go : AnOp x → 0 < plan.degree x
        go (is_working o j e) = subst (λ y. 0 < plan.degree y) (sym e) (subst (λ n. 0 < n) (sym (degree_working o (below o j))) (fits.some o (below o j)))
        go (is_sorting l h s e) = subst (λ y. 0 < plan.degree y) (sym e) (subst (λ n. 0 < n) (sym (degree_sorting l)) (fits.some (link_at c l).to (shape.links l h).to))

    are_streams : (x : ℕ) → IsIn x plan.order → IsStream (plan.stream x)
    are_streams x i = go (op_in x i)
      where
        go : AnOp x → IsStream (plan.stream x)
        go (is_working o j e) = subst (λ y. IsStream (plan.stream y)) (sym e) (subst IsStream (sym (stream_working o (below o j))) (streams.are o (below o j)))
        go (is_sorting l h s e) = subst (λ y. IsStream (plan.stream y)) (sym e) (subst IsStream (sym (stream_sorting l)) (sorter_is (choice l).sort))

    abbrev Enters : ℕ → ℕ → ℕ → Type 0
    Enters x i k = ((plan.wire k).into ≡ x) × ((plan.wire k).port ≡ i) × IsGathering (plan.wire k).gather

    inputs : (x i : ℕ) → IsIn x plan.order → i < (plan.stream x).ports → Enters x i (plan.input x i)
    inputs x i there lt = go (op_in x there) lt
      where
        go : AnOp x → i < (plan.stream x).ports → Enters x i (plan.input x i)
        go (is_working o j e) lt = subst (λ y. Enters y i (plan.input y i)) (sym e) (at (port_at o i (below o j) (subst (λ y. i < (plan.stream y).ports) e lt)))
          where
            at : AtPort o i → Enters o i (plan.input o i)
            at (at_link l k p s w) =
                let b = in_into c o l k in
                subst (λ z. Enters o i z) (sym w) (subst (λ (z : Wire Datum Fault). (z.into ≡ o) × (z.port ≡ i) × IsGathering z.gather) (sym (wire_link l b.0)) (
                  ap (λ t. cond t (sort_operator c l) (link_at c l).to) s ∙ b.1,
                  ap (λ t. cond t 0 (link_at c l).port) s ∙ p,
                  gathers (into_seq c l) (choice l).method,
                ))
            at (at_behind l k p s w) =
                let b = in_into c o l k in
                subst (λ z. Enters o i z) (sym w) (subst (λ (z : Wire Datum Fault). (z.into ≡ o) × (z.port ≡ i) × IsGathering z.gather) (sym (wire_behind l b.0)) (b.1, p, tt))
            at (at_file n z w) = subst (λ y. Enters o i y) (sym w) (subst (λ (y : Wire Datum Fault). (y.into ≡ o) × (y.port ≡ i) × IsGathering y.gather) (sym (wire_file o)) (refl, sym z, tt))
        go (is_sorting l h s e) lt =
            let one : i < 1 = subst (λ n. i < n) (ap (λ y. (plan.stream y).ports) e ∙ ap (λ (t : Stream Datum Fault). t.ports) (stream_sorting l) ∙ sorter_ports (choice l).sort) lt in
            subst (λ y. Enters y i (plan.input y i)) (sym e) (subst (λ z. Enters (sort_operator c l) i z) (sym (input_sorting l i)) (subst (λ (z : Wire Datum Fault). (z.into ≡ sort_operator c l) × (z.port ≡ i) × IsGathering z.gather) (sym (wire_link l h)) (
              ap (λ t. cond t (sort_operator c l) (link_at c l).to) s,
              ap (λ t. cond t 0 (link_at c l).port) s ∙ zero_is i one,
              gathers (into_seq c l) (choice l).method,
            )))
          where
            zero_is : (i : ℕ) → i < 1 → 0 ≡ i
            zero_is i l = omega (arith, l)

    -- what leaves an operator
    abbrev Out : ℕ → ℕ → Wire Datum Fault → Type 0
    Out x k w = (w.from ≡ x) × (w.file ≡ false) × IsIn w.into plan.order × (w.port < (plan.stream w.into).ports) × (plan.input w.into w.port ≡ k) × (w.straight ≡ true → plan.degree x ≡ plan.degree w.into)

    leaves_by : (x k : ℕ) → Out x k (plan.wire k) → Leaves plan x k
    leaves_by x k h = record { from = h.0; no_file = h.1; into = h.2; port = h.3; input = h.4; straight = h.5 }

    pub out_link : (l : ℕ) → l < link_count c → (b : Bool) → has_sort choice l ≡ b →
        IsIn (cond b (sort_operator c l) (link_at c l).to) plan.order × (cond b 0 (link_at c l).port < (plan.stream (cond b (sort_operator c l) (link_at c l).to)).ports)
        × (plan.input (cond b (sort_operator c l) (link_at c l).to) (cond b 0 (link_at c l).port) ≡ l) × (plan.degree (cond b (sort_operator c l) (link_at c l).to) ≡ degree (link_at c l).to)
    out_link l h true e = (
      sorting_in l h e (to_in l h),
      subst (λ n. 0 < n) (sym (ap (λ (t : Stream Datum Fault). t.ports) (stream_sorting l) ∙ sorter_ports (choice l).sort)) (omega arith),
      input_sorting l 0,
      degree_sorting l,
    )
    out_link l h false e =
        let t = (shape.links l h).to in
        let i = into_in c (link_at c l).to l h refl in (
          working_in (link_at c l).to (to_in l h),
          ports_working (link_at c l).to (link_at c l).port t (port_of (link_at c l).to l t i).0,
          input_at (link_at c l).to l t i ∙ ap (λ b. cond b (link_behind_sort c l) l) e,
          degree_working (link_at c l).to t,
        )

    outputs : (x k : ℕ) → IsIn x plan.order → IsIn k (plan.outs x) → Leaves plan x k
    outputs x k there out = go (op_in x there) out
      where
        go : AnOp x → IsIn k (plan.outs x) → Leaves plan x k
        go (is_working o j e) out =
            let b = in_from c o k (subst (λ ls. IsIn k ls) (ap plan.outs e ∙ outs_working o (below o j)) out) in
            let r = out_link k b.0 (has_sort choice k) refl in
            leaves_by x k (subst (Out x k) (sym (wire_link k b.0)) (
              b.1 ∙ sym e,
              refl,
              r.0,
              r.1,
              r.2,
              λ s. ap plan.degree e ∙ degree_working o (below o j) ∙ ap degree (sym b.1) ∙ fits.equal k b.0 s ∙ sym r.3,
            ))
        go (is_sorting l h s e) out =
            let t = (shape.links l h).to in
            let i = into_in c (link_at c l).to l h refl in
            leaves_by x k (subst (λ z. Out x z (plan.wire z)) (sym (one k (subst (λ ls. IsIn k ls) (ap plan.outs e ∙ outs_sorting l) out))) (subst (Out x (link_behind_sort c l)) (sym (wire_behind l h)) (
              sym e,
              refl,
              working_in (link_at c l).to (to_in l h),
              ports_working (link_at c l).to (link_at c l).port t (port_of (link_at c l).to l t i).0,
              input_at (link_at c l).to l t i ∙ ap (λ b. cond b (link_behind_sort c l) l) s,
              λ _. ap plan.degree e ∙ degree_sorting l ∙ sym (degree_working (link_at c l).to t),
            )))
          where
            one : (k : ℕ) → IsIn k (link_behind_sort c l ∷ []) → k ≡ link_behind_sort c l
            one k (inl e) = e
            one k (inr i) = absurd i

    -- Forward: first along one list of operators, then another.
    abbrev after_seen : List ℕ → List ℕ → List ℕ
    after_seen [] seen = seen
    after_seen (x ∷ xs) seen = after_seen xs (x ∷ seen)

    seen_in : (xs seen : List ℕ) (z : ℕ) → IsIn z (after_seen xs seen) → IsIn z xs ⊎ IsIn z seen
    seen_in [] seen z i = inr i
    seen_in (x ∷ xs) seen z i = elim (seen_in xs (x ∷ seen) z i) [ inl j ↦ inl (inr j) | inr j ↦ elim j [ inl e ↦ inl (inl e) | inr k ↦ inr k ] ]

    in_seen : (xs seen : List ℕ) (z : ℕ) → IsIn z seen → IsIn z (after_seen xs seen)
    in_seen [] seen z i = i
    in_seen (x ∷ xs) seen z i = in_seen xs (x ∷ seen) z (inr i)

    in_new : (xs seen : List ℕ) (z : ℕ) → IsIn z xs → IsIn z (after_seen xs seen)
    in_new [] seen z i = absurd i
    in_new (x ∷ xs) seen z (inl e) = in_seen xs (x ∷ seen) z (inl e)
    in_new (x ∷ xs) seen z (inr i) = in_new xs (x ∷ seen) z i

    forward_both : (xs ys seen : List ℕ) → GoesForward plan seen xs → GoesForward plan (after_seen xs seen) ys → GoesForward plan seen (xs ++ ys)
    forward_both [] ys seen f g = g
    forward_both (x ∷ xs) ys seen f g = (f.0, f.1, forward_both xs ys (x ∷ seen) f.2 g)

    abbrev Before : List ℕ → ℕ → Type 0
    Before seen k = ((plan.wire k).file ≡ true) ⊎ (IsIn (plan.wire k).from seen × IsIn k (plan.outs (plan.wire k).from))

    -- a link whose producer was seen
    link_before : (seen : List ℕ) (l : ℕ) → l < link_count c → IsIn (link_at c l).from seen → Before seen l
    link_before seen l h i = subst (λ (w : Wire Datum Fault). (w.file ≡ true) ⊎ (IsIn w.from seen × IsIn l (plan.outs w.from))) (sym (wire_link l h))
        (inr (i, subst (λ ls. IsIn l ls) (sym (outs_working (link_at c l).from (shape.links l h).from)) (from_in c (link_at c l).from l h refl)))

    behind_before : (seen : List ℕ) (l : ℕ) → l < link_count c → IsIn (sort_operator c l) seen → Before seen (link_behind_sort c l)
    behind_before seen l h i = subst (λ (w : Wire Datum Fault). (w.file ≡ true) ⊎ (IsIn w.from seen × IsIn (link_behind_sort c l) (plan.outs w.from))) (sym (wire_behind l h))
        (inr (i, subst (λ ls. IsIn (link_behind_sort c l) ls) (sym (outs_sorting l)) (inl refl)))

    file_before : (seen : List ℕ) (o : ℕ) → Before seen (file_link c o)
    file_before seen o = subst (λ (w : Wire Datum Fault). (w.file ≡ true) ⊎ (IsIn w.from seen × IsIn (file_link c o) (plan.outs w.from))) (sym (wire_file o)) (inl refl)

    -- the sorts before an operator, each behind the producer of its link
    sorts_forward : (ls seen : List ℕ) → Apart ls → ((l : ℕ) → IsIn l ls → (l < link_count c) × IsIn (link_at c l).from seen × (IsIn (sort_operator c l) seen → ⊥)) → GoesForward plan seen (map (sort_operator c) ls)
    sorts_forward [] seen apart h = tt
    sorts_forward (l ∷ ls) seen apart h = (
      λ i lt. subst (λ k. Before seen k) (sym (input_sorting l i)) (link_before seen l (h l (inl refl)).0 (h l (inl refl)).1),
      (h l (inl refl)).2,
      sorts_forward ls (sort_operator c l ∷ seen) apart.1 (λ k i. ((h k (inr i)).0, inr (h k (inr i)).1, λ j. elim j [ inl e ↦ apart.0 (subst (λ z. IsIn z ls) (cancel k l e) i) | inr old ↦ (h k (inr i)).2 old ])),
    )
      where
        cancel : (k l : ℕ) → sort_operator c k ≡ sort_operator c l → k ≡ l
        cancel k l e = omega (arith, e)

    -- what was seen: of the operators that were done, and their sorts
    pub record Seen (finished seen : List ℕ) : Type 0 where
      pub has : (o : ℕ) → IsIn o finished → IsIn o seen
      pub known : (x : ℕ) → IsIn x seen → (IsIn x finished × (x < op_count c)) ⊎ ((l : ℕ) × (x ≡ sort_operator c l) × IsIn (link_at c l).to finished)

    goes : (order finished ways seen : List ℕ) → Apart order → ((o : ℕ) → IsIn o order → (o < op_count c) × (IsIn o finished → ⊥)) → ((l : ℕ) → IsIn l ways → IsIn (link_at c l).from finished) → Seen finished seen → ForwardOrder c ways order →
        GoesForward plan seen (flat_map (with_sorts c choice) order)
    goes [] finished ways seen apart new from s f = tt
    goes (o ∷ order) finished ways seen apart new from s f =
        forward_both (with_sorts c choice o) (flat_map (with_sorts c choice) order) seen here
        (goes order (o ∷ finished) (links_from c o ++ ways) (after_seen (with_sorts c choice o) seen) apart.1
        (λ p i. ((new p (inr i)).0, λ j. elim j [ inl e ↦ apart.0 (subst (λ z. IsIn z order) e i) | inr k ↦ (new p (inr i)).1 k ]))
        (λ l i. elim (in_either l (links_from c o) ways i) [ inl j ↦ inl (in_from c o l j).1 | inr j ↦ inr (from l j) ])
        then_seen f.1)
      where
        ls : List ℕ
        ls = filter (has_sort choice) (links_into c o)

        o_below : o < op_count c
        o_below = (new o (inl refl)).0

        lies_at : (xs : List ℕ) → Lies xs ways → (l : ℕ) → IsIn l xs → IsIn l ways
        lies_at [] h l i = absurd i
        lies_at (x ∷ xs) h l (inl e) = subst (λ z. IsIn z ways) (sym e) h.0
        lies_at (x ∷ xs) h l (inr i) = lies_at xs h.1 l i

        from_seen : (l : ℕ) → IsIn l (links_into c o) → IsIn (link_at c l).from seen
        from_seen l i = s.has (link_at c l).from (from l (lies_at (links_into c o) f.0 l i))

        sort_new : (l : ℕ) → IsIn l (links_into c o) → IsIn (sort_operator c l) seen → ⊥
        sort_new l i j = elim (s.known (sort_operator c l) j) [
          | inl k ↦ (let b = k.1 in absurd (omega (arith, b)))
          | inr k ↦ (let same : l ≡ k.0 = cancel l k.0 k.1 in (new o (inl refl)).1 (subst (λ z. IsIn z finished) (in_into c o l i).1 (subst (λ z. IsIn (link_at c z).to finished) (sym same) k.2)))
        ]
          where
            cancel : (k l : ℕ) → sort_operator c k ≡ sort_operator c l → k ≡ l
            cancel k l e = omega (arith, e)

        sorts : GoesForward plan seen (map (sort_operator c) ls)
        sorts = sorts_forward ls seen (filter_apart (has_sort choice) (links_into c o) (into_apart c o)) (λ l i. (let k = (filter_in (has_sort choice) (links_into c o) l i).0 in ((in_into c o l k).0, from_seen l k, sort_new l k)))

        mid : List ℕ
        mid = after_seen (map (sort_operator c) ls) seen

        o_new : IsIn o mid → ⊥
        o_new i = elim (seen_in (map (sort_operator c) ls) seen o i) [
          | inl j ↦ (let r = in_mapped (sort_operator c) ls o j in let e = r.2 in let b = o_below in absurd (omega (arith, e, b)))
          | inr j ↦ elim (s.known o j) [ inl k ↦ (new o (inl refl)).1 k.0 | inr k ↦ (let e = k.1 in let b = o_below in absurd (omega (arith, e, b))) ]
        ]

        enters : (i : ℕ) → i < (plan.stream o).ports → AtPort o i → Before mid (plan.input o i)
        enters i lt (at_link l k p t w) = subst (λ z. Before mid z) (sym w) (link_before mid l (in_into c o l k).0 (in_seen (map (sort_operator c) ls) seen (link_at c l).from (from_seen l k)))
        enters i lt (at_behind l k p t w) = subst (λ z. Before mid z) (sym w) (behind_before mid l (in_into c o l k).0 (in_new (map (sort_operator c) ls) seen (sort_operator c l) (mapped_in (sort_operator c) ls l (in_filter (has_sort choice) (links_into c o) l k t))))
        enters i lt (at_file n z w) = subst (λ y. Before mid y) (sym w) (file_before mid o)

        here : GoesForward plan seen (with_sorts c choice o)
        here = forward_both (map (sort_operator c) ls) (o ∷ []) seen sorts (λ i lt. enters i lt (port_at o i o_below lt), o_new, tt)

        then_seen : Seen (o ∷ finished) (after_seen (with_sorts c choice o) seen)
        then_seen = record {
          has = λ p i. elim i [
            | inl e ↦ in_new (with_sorts c choice o) seen p (subst (λ z. IsIn z (with_sorts c choice o)) (sym e) (in_back o (map (sort_operator c) ls) (o ∷ []) (inl refl)))
            | inr j ↦ in_seen (with_sorts c choice o) seen p (s.has p j)
          ];
          known = λ x i. elim (seen_in (with_sorts c choice o) seen x i) [
            | inl j ↦ elim (in_either x (map (sort_operator c) ls) (o ∷ []) j) [
              | inl k ↦ (let r = in_mapped (sort_operator c) ls x k in inr (r.0, r.2, inl (in_into c o r.0 (filter_in (has_sort choice) (links_into c o) r.0 r.1).0).1))
              | inr k ↦ inl (elim k [ inl e ↦ inl e | inr n ↦ absurd n ], subst (λ z. z < op_count c) (elim k [ inl e ↦ sym e | inr n ↦ absurd n ]) o_below)
            ]
            | inr j ↦ elim (s.known x j) [ inl k ↦ inl (inr k.0, k.1) | inr k ↦ inr (k.0, k.1, inr k.2) ]
          ];
        }

    pub is_wired : IsWired (plan_of c choice degree stream)
    is_wired = record {
      forward = goes c.order [] [] [] (order_apart c shape.order) (λ o i. (below o i, λ j. j)) (λ l i. absurd i) (record { has = λ o i. i; known = λ x i. absurd i }) shape.order.forward;
      degrees = degrees;
      streams = are_streams;
      inputs = inputs;
      outputs = outputs;
    }

pub plans_are_wired : PlansAreWired
plans_are_wired c choice degree stream shape fits streams = is_wired c choice degree stream shape fits streams
