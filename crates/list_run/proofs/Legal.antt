-- The lists are a legal run.
use Rattle.std.proofs.Common.{◌≡◌, ℕ, ◌<◌, Bool, true, false, cond, refl, sym, ap, ap₂, ◌∙◌, subst, List, [], ◌∷◌, ◌++◌, inl, inr, map, length, get_or, take, arith}
use Rattle.std.specs.List.{AllByRecursion, flat_map, range_with_len}
use Rattle.std.specs.List.Sorted.{IsPermutation}
use Rattle.std.proofs.lemmas.List.Sorted.{IsPermutation-sym}
use Rattle.std.proofs.lemmas.List.{ext_get_or}
use Rattle.std.proofs.lemmas.List.FromFn.{length-map-range_with_len, get_or-map-range_with_len}
use Rattle.ds_schema.specs.declared.key.Key.{Key}
use Rattle.op_base.specs.Keyed.{get_keys}
use Rattle.op_base.specs.declared.fault.Fault.{Fault}
use Rattle.op_base.specs.Columns.{Row, IsIn}
use Rattle.op_base.specs.Lists.{joined}
use Rattle.flow_graph.specs.declared.op_kind.OpKind.{OpKind}
use Rattle.flow_graph.specs.declared.op_kind.OpKind.TheVariants as kind
use Rattle.flow_graph.specs.declared.parts.OpParts.{OpParts}
use Rattle.flow_graph.specs.declared.route.Choice.{Choice}
use Rattle.flow_graph.specs.Charts.{Chart, link_at, all_links, links_into, links_from, op_at, parts_of, is_seq, into_seq}
use Rattle.flow_graph.specs.FlowShape.{IsShape}
use Rattle.flow_graph.specs.Operators.{Op, import, result}
use Rattle.flow_graph.specs.Runs.{Lists, Runs, Gives, Delivers, FitsDegree, faults_on, slice}
use Rattle.flow_derive.specs.LinkStates.{choice_at}
use Rattle.flow_rules.specs.Verdicts.{node_at, out_at}
use Rattle.flow_ops.specs.Kept.{if_between}
use Rattle.list_run.specs.declared.held.Held.{Held}
use Rattle.list_run.specs.declared.ran.Ran.{Ran}
use Rattle.list_run.specs.Found.{found_by, found_of}
use Rattle.list_run.specs.Held.{found_at, inputs_of, sent_by, sent_from}
use Rattle.list_run.specs.Made.{degree_of, made_by, made_of}
use Rattle.flow_ops.specs.Kinds.{funnelled_by, op_by, widths_into}
use Rattle.list_run.specs.Routed.{Joins, routed}
use Rattle.list_run.specs.Runnable.{degree_at, row_count, IsBuilt, IsRunnable, IsRunOf, OpIs, OpsAre, worked_faults}
use Rattle.list_run.specs.Turns.{HadTurn, Stands, found_after, got_in, sent_in}
use Rattle.list_run.proofs.Inputs.{no_member, ports_at, some_inputs}
use Rattle.list_run.proofs.Links.{all_in, in_from}
use Rattle.list_run.proofs.Ordered.{order_below, ordered}
use Rattle.list_run.proofs.Permuted.{flat_members, flat_permuted}
use Rattle.list_run.proofs.Routes.{routed_long, routed_arrives}
use Rattle.list_run.proofs.Sizes.{got_means, all_came, all_fit, degree_is}

-- any other than a funnel
abbrev NoFunnel : OpKind → Type 0
NoFunnel (kind.Funnel sequence sort) = ⊥
NoFunnel k = Unit {0}

funnel_degree : (sequence : Bool) (keys : List Key) (n : ℕ) → FitsDegree (funnelled_by sequence keys) n
funnel_degree true keys n = tt
funnel_degree false [] n = tt
funnel_degree false (k ∷ keys) n = tt

funnel_finds : (sequence : Bool) (keys : List Key) (p : ℕ) (lists : List (List Row)) → faults_on (funnelled_by sequence keys) 0 lists ≡ faults_on (funnelled_by sequence keys) p lists
funnel_finds true keys p lists = refl
funnel_finds false [] p lists = refl
funnel_finds false (k ∷ keys) p lists = refl

-- what an operator gives is what is sent, and what it finds is found, by its kind
op_gives : (o : ℕ) (k : OpKind) (parts : OpParts) (widths : List ℕ) (q : ℕ) (inputs : List (List (List Row))) (n : ℕ) (sent : List (List Row)) → NoFunnel k → sent ≡ map (λ p. made_of o k parts widths q (slice p inputs)) (range_with_len 0 n) → Gives (op_by o k parts widths) q inputs n sent
op_gives o kind.Copy parts widths q inputs n sent b e = e
op_gives o (kind.Funnel sequence sort) parts widths q inputs n sent b e = absurd b
op_gives o k parts widths q inputs n sent b e = e

op_degree : (o : ℕ) (k : OpKind) (parts : OpParts) (widths : List ℕ) (n : ℕ) → FitsDegree (op_by o k parts widths) n
op_degree o kind.Copy parts widths n = tt
op_degree o (kind.Funnel sequence sort) parts widths n = funnel_degree sequence (get_keys parts.keys 0) n
op_degree o k parts widths n = tt

op_finds : (o : ℕ) (k : OpKind) (parts : OpParts) (widths : List ℕ) (p : ℕ) (lists : List (List Row)) → found_of o k parts widths lists ≡ faults_on (op_by o k parts widths) p lists
op_finds o kind.Copy parts widths p lists = refl
op_finds o (kind.Funnel sequence sort) parts widths p lists = funnel_finds sequence (get_keys parts.keys 0) p lists
op_finds o k parts widths p lists = refl

by_gives : (c : Chart) (nodes : ℕ) (o l : ℕ) (k : OpKind) (op : Op) (G : ℕ → List (List Row)) → NoFunnel k → op ≡ op_by o k (parts_of c o) (widths_into c o) → degree_of (inputs_of c o G) ≡ degree_at c nodes o →
    Gives op (link_at c l).out (inputs_of c o G) (degree_at c nodes o) (made_by o k (parts_of c o) (widths_into c o) (link_at c l).out (inputs_of c o G))
by_gives c nodes o l k op G b is long =
    let q = (link_at c l).out in
    let inputs = inputs_of c o G in
    let make : ℕ → List Row = λ p. made_of o k (parts_of c o) (widths_into c o) q (slice p inputs) in
    let sent = made_by o k (parts_of c o) (widths_into c o) q inputs in
    subst (λ (p : Op). Gives p q inputs (degree_at c nodes o) sent) (sym is) (op_gives o k (parts_of c o) (widths_into c o) q inputs (degree_at c nodes o) sent b (ap (λ n. map make (range_with_len 0 n)) long))

found_each : {Y : Type 0} (f g : ℕ → List Y) → ((p : ℕ) → f p ≡ g p) → (ns : List ℕ) → flat_map f ns ≡ joined (map g ns)
found_each f g h [] = refl
found_each f g h (n ∷ ns) = ap₂ (λ a b. a ++ b) (h n) (found_each f g h ns)

by_finds : (c : Chart) (nodes : ℕ) (o : ℕ) (k : OpKind) (op : Op) (G : ℕ → List (List Row)) → op ≡ op_by o k (parts_of c o) (widths_into c o) → degree_of (inputs_of c o G) ≡ degree_at c nodes o →
    flat_map (λ p. found_of o k (parts_of c o) (widths_into c o) (slice p (inputs_of c o G))) (range_with_len 0 (degree_of (inputs_of c o G))) ≡ joined (map (λ p. faults_on op p (slice p (inputs_of c o G))) (range_with_len 0 (degree_at c nodes o)))
by_finds c nodes o k op G is long =
    let inputs = inputs_of c o G in
    let find : ℕ → List Fault = λ p. found_of o k (parts_of c o) (widths_into c o) (slice p inputs) in
    ap (λ n. flat_map find (range_with_len 0 n)) long
    ∙ found_each find (λ p. faults_on op p (slice p inputs)) (λ p. op_finds o k (parts_of c o) (widths_into c o) p (slice p inputs) ∙ ap (λ (x : Op). faults_on x p (slice p inputs)) (sym is)) (range_with_len 0 (degree_at c nodes o))

kind_finds : (c : Chart) (nodes : ℕ) (given : List (List Row)) (o : ℕ) (k : OpKind) (op : Op) (G : ℕ → List (List Row)) → IsShape c → o < length c.flow.ops → (op_at c o).kind ≡ k → IsBuilt c o k → OpIs c given o op k → ((i : ℕ) → IsIn i (links_into c o) → length (G i) ≡ degree_at c nodes o) →
    found_by o k (parts_of c o) (widths_into c o) (inputs_of c o G) ≡ if_between k (joined (map (λ p. faults_on op p (slice p (inputs_of c o G))) (range_with_len 0 (degree_at c nodes o))))
kind_finds c nodes given o (kind.Import file schema delim fixed reject) op G shape m e b is long = refl
kind_finds c nodes given o (kind.Export file delim fixed) op G shape m e b is long = refl
kind_finds c nodes given o (kind.Dsread ds) op G shape m e b is long = absurd b
kind_finds c nodes given o (kind.Dswrite ds) op G shape m e b is long = absurd b
kind_finds c nodes given o (kind.Merge key keepbad reject) op G shape m e b is long = absurd b
kind_finds c nodes given o (kind.Changecapture key values keepcopy) op G shape m e b is long = absurd b
kind_finds c nodes given o (kind.Funnel sequence sort) op G shape m e b is long = absurd b
kind_finds c nodes given o k op G shape m e b is long = by_finds c nodes o k op G is (degree_is c nodes o G (some_inputs c o k shape m e b tt) long)

kind_gives : (c : Chart) (nodes : ℕ) (given : List (List Row)) (o l : ℕ) (k : OpKind) (op : Op) (G : ℕ → List (List Row)) → IsShape c → o < length c.flow.ops → (op_at c o).kind ≡ k → IsBuilt c o k → OpIs c given o op k → IsIn l (links_from c o) →
    ((i : ℕ) → IsIn i (links_into c o) → length (G i) ≡ degree_at c nodes o) → Gives op (link_at c l).out (inputs_of c o G) (degree_at c nodes o) (sent_by o k (parts_of c o) (widths_into c o) (link_at c l).out (inputs_of c o G) (get_or given l []))
kind_gives c nodes given o l (kind.Import file schema delim fixed reject) op G shape m e b is i long =
    let q = (link_at c l).out in
    let imported = is.0.3 in
    subst (λ (p : Op). Gives p q (map G (links_into c o)) (degree_at c nodes o) (get_or given l [] ∷ [])) (sym imported)
    (subst (λ ins. Gives (import is.0.0 is.0.1 is.0.2) q (map G ins) (degree_at c nodes o) (get_or given l [] ∷ [])) (sym (no_member (links_into c o) (ports_at c shape o m (kind.Import file schema delim fixed reject) e)))
    (subst (λ s. Gives (import is.0.0 is.0.1 is.0.2) q [] (cond s 1 nodes) (get_or given l [] ∷ [])) (sym b)
    (ap (λ r. r ∷ []) (sym (is.1 l i) ∙ ap (λ p. result p q []) imported))))
kind_gives c nodes given o l (kind.Export file delim fixed) op G shape m e b is i long = absurd (subst (IsIn l) b i)
kind_gives c nodes given o l (kind.Dsread ds) op G shape m e b is i long = absurd b
kind_gives c nodes given o l (kind.Dswrite ds) op G shape m e b is i long = absurd b
kind_gives c nodes given o l (kind.Merge key keepbad reject) op G shape m e b is i long = absurd b
kind_gives c nodes given o l (kind.Changecapture key values keepcopy) op G shape m e b is i long = absurd b
kind_gives c nodes given o l (kind.Funnel sequence sort) op G shape m e b is i long = absurd b
kind_gives c nodes given o l k op G shape m e b is i long = by_gives c nodes o l k op G tt is (degree_is c nodes o G (some_inputs c o k shape m e b tt) long)

kind_degree : (c : Chart) (nodes : ℕ) (given : List (List Row)) (o : ℕ) (k : OpKind) (op : Op) → IsBuilt c o k → OpIs c given o op k → FitsDegree op (degree_at c nodes o)
kind_degree c nodes given o (kind.Import file schema delim fixed reject) op b is = subst (λ p. FitsDegree p (degree_at c nodes o)) (sym is.0.3) (ap (λ s. cond s 1 nodes) b)
kind_degree c nodes given o (kind.Export file delim fixed) op b is = subst (λ p. FitsDegree p (degree_at c nodes o)) (sym is.1) tt
kind_degree c nodes given o (kind.Dsread ds) op b is = absurd b
kind_degree c nodes given o (kind.Dswrite ds) op b is = absurd b
kind_degree c nodes given o (kind.Merge key keepbad reject) op b is = absurd b
kind_degree c nodes given o (kind.Changecapture key values keepcopy) op b is = absurd b
kind_degree c nodes given o (kind.Funnel sequence sort) op b is = absurd b
kind_degree c nodes given o k op b is = subst (λ p. FitsDegree p (degree_at c nodes o)) (sym is) (op_degree o k (parts_of c o) (widths_into c o) (degree_at c nodes o))

all_members : (P : ℕ → Type 0) (xs : List ℕ) → ((x : ℕ) → IsIn x xs → P x) → AllByRecursion P xs
all_members P [] h = tt
all_members P (x ∷ xs) h = (h x (inl refl), all_members P xs (λ y i. h y (inr i)))

all_mapped : {X : Type 0} (f : ℕ → X) (P : X → Type 0) (xs : List ℕ) → ((x : ℕ) → IsIn x xs → P (f x)) → AllByRecursion P (map f xs)
all_mapped f P [] h = tt
all_mapped f P (x ∷ xs) h = (h x (inl refl), all_mapped f P xs (λ y i. h y (inr i)))

some_degree : (c : Chart) (nodes o : ℕ) → 0 < nodes → 0 < degree_at c nodes o
some_degree c nodes o h = go (is_seq (op_at c o).mark)
  where
    go : (b : Bool) → 0 < cond b 1 nodes
    go true = omega arith
    go false = h

abbrev run_in : Chart → ℕ → List (List Row) → (ℕ → Op) → Lists
run_in c nodes given ops = record {
  sent = sent_in c nodes given;
  got = got_in c nodes given;
  failed = λ o. map (λ p. faults_on (ops o) p (slice p (map (got_in c nodes given) (links_into c o)))) (range_with_len 0 (degree_at c nodes o));
}

delivers : (c : Chart) (choices : List Choice) (nodes : ℕ) (given : List (List Row)) → IsRunnable c choices nodes given → (l : ℕ) → l < length c.flow.links → Delivers (out_at c l) (choice_at c l).sort (sent_in c nodes given l) (got_in c nodes given l)
delivers c choices nodes given r l m =
    let n = degree_at c nodes (link_at c l).to in
    let fits = (all_fit c choices nodes given r l m).0 in
    let joins = subst (λ d. Joins (into_seq c l) (choice_at c l).method d n) (sym fits.0) (r.run.joins l m) in
    record {
      mid = routed (into_seq c l) (choice_at c l).method n (sent_in c nodes given l);
      some = subst (λ k. 0 < k) (sym (routed_long (into_seq c l) (choice_at c l).method n (sent_in c nodes given l) joins)) (some_degree c nodes (link_at c l).to r.run.some);
      arrives = routed_arrives (into_seq c l) (choice_at c l).method n (sent_in c nodes given l) joins;
      sorted = got_means c choices nodes given r l m;
    }

runs_at : (c : Chart) (choices : List Choice) (nodes : ℕ) (given : List (List Row)) (ops : ℕ → Op) → IsRunnable c choices nodes given → OpsAre c given ops → (o : ℕ) → o < length c.flow.ops → Runs (λ l. (choice_at c l).sort) (run_in c nodes given ops) (node_at c ops o)
runs_at c choices nodes given ops r are o m = record {
  degree = degree_at c nodes o;
  some = some_degree c nodes o r.run.some;
  fits = kind_degree c nodes given o (op_at c o).kind (ops o) (r.run.built o m) (are o m);
  degrees = all_members (λ l. length (got_in c nodes given l) ≡ degree_at c nodes o) (links_into c o) long;
  gives = all_mapped (out_at c) _ (links_from c o) gives;
  fails = refl;
  comes = all_mapped (out_at c) _ (links_from c o) (λ l i. delivers c choices nodes given r l (in_from c o l i).0);
}
  where
    long : (l : ℕ) → IsIn l (links_into c o) → length (got_in c nodes given l) ≡ degree_at c nodes o
    long l i = (all_came c choices nodes given r o l i).0

    gives : (l : ℕ) → IsIn l (links_from c o) → Gives (ops o) (link_at c l).out (inputs_of c o (got_in c nodes given)) (degree_at c nodes o) (sent_in c nodes given l)
    gives l i =
        let k = in_from c o l i in
        subst (λ (s : List (List Row)). Gives (ops o) (link_at c l).out (inputs_of c o (got_in c nodes given)) (degree_at c nodes o) s)
        (sym (ap (λ p. sent_from c l p (inputs_of c p (got_in c nodes given)) (get_or given l [])) k.1))
        (kind_gives c nodes given o l (op_at c o).kind (ops o) (got_in c nodes given) r.shape m refl (r.run.built o m) (are o m) i long)

take_all : (xs : List ℕ) → take (length xs) xs ≡ xs
take_all [] = refl
take_all (x ∷ xs) = ap (λ t. x ∷ t) (take_all xs)

had_all : (c : Chart) (o : ℕ) → IsIn o c.order → HadTurn c (length c.order) o
had_all c o i = subst (IsIn o) (sym (take_all c.order)) i

-- what is found in the order of the flow is what is found by the numbers of the operators
all_found : (c : Chart) (choices : List Choice) (nodes : ℕ) (given : List (List Row)) (ops : ℕ → Op) → IsRunnable c choices nodes given → OpsAre c given ops → IsPermutation (found_after c nodes given (length c.order)) (worked_faults c (run_in c nodes given ops))
all_found c choices nodes given ops r are =
    let F : ℕ → List Fault = λ o. found_at c o (got_in c nodes given) in
    let n = length c.flow.ops in
    subst (λ os. IsPermutation (flat_map F os) (worked_faults c (run_in c nodes given ops))) (sym (take_all c.order))
    (subst (IsPermutation (flat_map F c.order)) (flat_members F (λ o. if_between (op_at c o).kind (joined ((run_in c nodes given ops).failed o))) (range_with_len 0 n) each)
    (flat_permuted F c.order (range_with_len 0 n) (IsPermutation-sym (range_with_len 0 n) c.order r.shape.order.once)))
  where
    long : (o l : ℕ) → IsIn l (links_into c o) → length (got_in c nodes given l) ≡ degree_at c nodes o
    long o l i = (all_came c choices nodes given r o l i).0

    each : (o : ℕ) → IsIn o (range_with_len 0 (length c.flow.ops)) → found_at c o (got_in c nodes given) ≡ if_between (op_at c o).kind (joined ((run_in c nodes given ops).failed o))
    each o i = let m = all_in (length c.flow.ops) o i in kind_finds c nodes given o (op_at c o).kind (ops o) (got_in c nodes given) r.shape m refl (r.run.built o m) (are o m) (long o)

pub is_run : (c : Chart) (choices : List Choice) (nodes : ℕ) (given rest : List (List Row)) (held : Held) (ran : Ran) → IsRunnable c choices nodes given → Stands c nodes given (length c.order) rest held → ran.counts ≡ held.counts.items → ran.sinks ≡ held.sinks.items → ran.faults ≡ held.tally.faults → ran.least ≡ held.tally.least →
    (ops : ℕ → Op) → OpsAre c given ops → IsRunOf c nodes ops ran
is_run c choices nodes given rest held ran r stands n s f w = λ ops are. record {
  run = run_in c nodes given ops;
  legal = all_mapped (node_at c ops) _ c.order (λ o i. runs_at c choices nodes given ops r are o (below c.order (order_below c r.shape.order) o i));
  degrees = λ l m. let f = all_fit c choices nodes given r l m in (f.0.0, f.1.0);
  counts = n ∙ ext_get_or 0 held.counts.items (map (λ l. row_count (sent_in c nodes given l)) (all_links c)) (stands.room.counts ∙ sym (length-map-range_with_len (λ l. row_count (sent_in c nodes given l)) 0 (length c.flow.links)))
      (λ l k. let m = subst (λ j. l < j) stands.room.counts k in
      stands.counts l m (had_all c (link_at c l).from (ordered c r.shape.order (link_at c l).from (r.shape.links l m).from))
      ∙ sym (get_or-map-range_with_len (λ l. row_count (sent_in c nodes given l)) 0 (length c.flow.links) l l 0 m (omega arith)));
  sinks = λ o m e. ap (λ ls. get_or ls o []) s ∙ stands.sinks o (had_all c o (ordered c r.shape.order o m)) e;
  faults = record {
    found = found_after c nodes given (length c.order);
    same = all_found c choices nodes given ops r are;
    number = f ∙ stands.found.number;
    least = w ∙ stands.found.least;
  };
}
  where
    below : (xs : List ℕ) → AllByRecursion (λ o. o < length c.flow.ops) xs → (o : ℕ) → IsIn o xs → o < length c.flow.ops
    below [] h o i = absurd i
    below (x ∷ xs) h o (inl e) = subst (λ p. p < length c.flow.ops) (sym e) h.0
    below (x ∷ xs) h o (inr i) = below xs h.1 o i
