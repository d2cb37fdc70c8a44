-- Flows that are built are of known operators, and each link is routed.
use Rattle.std.proofs.Common.{◌≡◌, ◌∙◌, ◌&&◌, ◌||◌, not, ℕ, zero, suc, Bool, true, false, List, [], ◌∷◌, length, get_or, ap, sym, subst, refl, arith, Option, Some, None}
use Rattle.std.specs.List.{list_all, AllByRecursion}
use Rattle.std.specs.Option.{is_some}
use Rattle.std.proofs.lemmas.List.FromFn.{get_or-map-range_with_len}
use Rattle.ds_schema.specs.declared.schema.Field.{Field}
use Rattle.ds_schema.specs.declared.key.Key.{Key}
use Rattle.op_base.specs.Keyed.{get_keys}
use Rattle.flow_graph.specs.declared.flow.Flow.{Flow}
use Rattle.flow_graph.specs.declared.flow.LinkSpec.{LinkSpec}
use Rattle.flow_graph.specs.declared.flow.Method.{Method}
use Rattle.flow_graph.specs.declared.flow.Method.TheVariants as method
use Rattle.flow_graph.specs.declared.flow.OpSpec.{OpSpec}
use Rattle.flow_graph.specs.declared.op_kind.OpKind.{OpKind}
use Rattle.flow_graph.specs.declared.op_kind.OpKind.TheVariants as kind
use Rattle.flow_graph.specs.declared.parts.OpParts.{OpParts}
use Rattle.flow_graph.specs.declared.parts.Stored.{Stored}
use Rattle.flow_graph.specs.declared.route.Route.{Route}
use Rattle.flow_graph.specs.Charts.{Chart, no_link, no_op, no_parts, link_at, op_at, into_seq, is_seq, keys_at, cols_at, first_width, form_at, kind_form}
use Rattle.flow_graph.specs.FlowShape.{IsShape}
use Rattle.flow_graph.specs.Forms.{join, sort_key}
use Rattle.flow_rules.specs.Verdicts.{IsRouted, unsorted}
use Rattle.flow_shape.proofs.Causing.{all_at}
use Rattle.flow_shape.specs.Methods.{written_route}
use Rattle.op_shape.specs.Options.{IsKnown, both_keys, operator_keys}
use Rattle.flow_shape.specs.Refusals.{HasOnlyKnown, IsShapeOf, written_at, parts_at, inputs_at, fields_at}
use Rattle.osh_ends.specs.Built.{is_built, is_built_op, is_built_link, is_built_method, needs_sort}

both : (a b : Bool) → (a && b) ≡ true → (a ≡ true) × (b ≡ true)
both true b h = (refl, h)
both false b h = absurd (grind (arith, h))

each : {X : Type 0} (p : X → Bool) (xs : List X) → list_all p xs ≡ true → AllByRecursion (λ x. p x ≡ true) xs
each p [] h = tt
each p (x ∷ xs) h = let b = both (p x) (list_all p xs) h in (b.0, each p xs b.1)

known : (k : OpKind) → is_built_op k ≡ true → IsKnown k
known (kind.Import file schema delim fixed reject) h = tt
known (kind.Export file delim fixed) h = tt
known kind.Copy h = tt
known (kind.Filter test reject) h = tt
known (kind.Transform set reject) h = tt
known (kind.Modify keep drop rename) h = tt
known (kind.Switch on cases reject) h = tt
known (kind.Tsort key) h = tt
known (kind.Remdup key last) h = tt
known (kind.Dsread ds) h = absurd (grind (arith, h))
known (kind.Dswrite ds) h = absurd (grind (arith, h))
known (kind.Group key hash results) h = tt
known (kind.InnerJoin key) h = tt
known (kind.LeftOuterJoin key) h = tt
known (kind.RightOuterJoin key) h = tt
known (kind.FullOuterJoin key) h = tt
known (kind.Merge key keepbad reject) h = absurd (grind (arith, h))
known (kind.Lookup key missing) h = tt
known (kind.Changecapture key values keepcopy) h = absurd (grind (arith, h))
known (kind.Funnel sequence sort) h = absurd (grind (arith, h))

all_known : (ops : List OpSpec) → list_all (λ (o : OpSpec). is_built_op o.kind) ops ≡ true → AllByRecursion (λ (o : OpSpec). IsKnown o.kind) ops
all_known [] h = tt
all_known (o ∷ ops) h = let b = both (is_built_op o.kind) (list_all (λ (p : OpSpec). is_built_op p.kind) ops) h in (known o.kind b.0, all_known ops b.1)

-- what is said of a flow that is built
built_parts : (flow : Flow) → is_built flow ≡ true → (list_all (λ (o : OpSpec). is_built_op o.kind) flow.ops ≡ true) × (list_all (is_built_link flow.ops) flow.links ≡ true)
built_parts flow h =
    let ops = list_all (λ (o : OpSpec). is_built_op o.kind) flow.ops in
    let links = list_all (is_built_link flow.ops) flow.links in
    both ops links (both (not flow.nopart && not flow.nosort) (ops && links) h).1

pub only_known : (flow : Flow) → is_built flow ≡ true → HasOnlyKnown flow
only_known flow h = all_known flow.ops (built_parts flow h).0

-- a join by no key is sorted on both inputs as it comes
both_unsorted : (keys : List (List Key)) (ins : List (List Field)) (port : ℕ) → keys ≡ both_keys [] ins → unsorted (sort_key (join (get_keys keys 0) (get_keys keys 1)) port) ≡ true
both_unsorted keys ins zero e = ap (λ ks. unsorted (Some (get_keys ks 0))) e
both_unsorted keys ins (suc port) e = ap (λ ks. unsorted (Some (get_keys ks 1))) e

-- an operator that needs no sort
no_sort : (k : OpKind) (ins : List (List Field)) (keys : List (List Key)) (cols : List ℕ) (stored : Option Stored) (width port : ℕ) → is_built_op k ≡ true → needs_sort k ≡ false → keys ≡ operator_keys k ins → unsorted (sort_key (kind_form k keys cols stored width) port) ≡ true
no_sort (kind.Import file schema delim fixed reject) ins keys cols stored width port h n e = refl
no_sort (kind.Export file delim fixed) ins keys cols stored width port h n e = refl
no_sort kind.Copy ins keys cols stored width port h n e = refl
no_sort (kind.Filter test reject) ins keys cols stored width port h n e = refl
no_sort (kind.Transform set reject) ins keys cols stored width port h n e = refl
no_sort (kind.Modify keep drop rename) ins keys cols stored width port h n e = refl
no_sort (kind.Switch on cases reject) ins keys cols stored width port h n e = refl
no_sort (kind.Tsort key) ins keys cols stored width port h n e = refl
no_sort (kind.Remdup [] last) ins keys cols stored width port h n e = ap (λ ks. unsorted (Some (get_keys ks 0))) e
no_sort (kind.Remdup (k ∷ key) last) ins keys cols stored width port h n e = absurd (grind (arith, n))
no_sort (kind.Dsread ds) ins keys cols stored width port h n e = absurd (grind (arith, h))
no_sort (kind.Dswrite ds) ins keys cols stored width port h n e = absurd (grind (arith, h))
no_sort (kind.Group key true results) ins keys cols stored width port h n e = refl
no_sort (kind.Group [] false results) ins keys cols stored width port h n e = ap (λ ks. unsorted (Some (get_keys ks 0))) e
no_sort (kind.Group (k ∷ key) false results) ins keys cols stored width port h n e = absurd (grind (arith, n))
no_sort (kind.InnerJoin []) ins keys cols stored width port h n e = both_unsorted keys ins port e
no_sort (kind.InnerJoin (k ∷ key)) ins keys cols stored width port h n e = absurd (grind (arith, n))
no_sort (kind.LeftOuterJoin []) ins keys cols stored width port h n e = both_unsorted keys ins port e
no_sort (kind.LeftOuterJoin (k ∷ key)) ins keys cols stored width port h n e = absurd (grind (arith, n))
no_sort (kind.RightOuterJoin []) ins keys cols stored width port h n e = both_unsorted keys ins port e
no_sort (kind.RightOuterJoin (k ∷ key)) ins keys cols stored width port h n e = absurd (grind (arith, n))
no_sort (kind.FullOuterJoin []) ins keys cols stored width port h n e = both_unsorted keys ins port e
no_sort (kind.FullOuterJoin (k ∷ key)) ins keys cols stored width port h n e = absurd (grind (arith, n))
no_sort (kind.Merge key keepbad reject) ins keys cols stored width port h n e = absurd (grind (arith, h))
no_sort (kind.Lookup key missing) ins keys cols stored width port h n e = refl
no_sort (kind.Changecapture key values keepcopy) ins keys cols stored width port h n e = absurd (grind (arith, h))
no_sort (kind.Funnel sequence sort) ins keys cols stored width port h n e = absurd (grind (arith, h))

-- a method that is built writes a route, or lies between sequential ends where no sort is needed
some_route : (from to sorts quiet : Bool) (fields : List Field) (m : Method) (w : Option Route) → w ≡ written_route fields m → is_built_method from to sorts m ≡ true → (sorts ≡ false → quiet ≡ true) → (is_some w || (from && (to && quiet))) ≡ true
some_route from to sorts quiet fields method.Same w e h q = ap (λ o. is_some o || (from && (to && quiet))) e
some_route from to sorts quiet fields method.RoundRobin w e h q = ap (λ o. is_some o || (from && (to && quiet))) e
some_route from to sorts quiet fields method.Entire w e h q = ap (λ o. is_some o || (from && (to && quiet))) e
some_route from to sorts quiet fields (method.Hash names) w e h q = ap (λ o. is_some o || (from && (to && quiet))) e
some_route from to sorts quiet fields (method.Modulus name) w e h q = ap (λ o. is_some o || (from && (to && quiet))) e
some_route from to sorts quiet fields method.Any w e h q = ap (λ o. is_some o || (from && (to && quiet))) e
some_route from to sorts quiet fields method.Ordered w e h q = ap (λ o. is_some o || (from && (to && quiet))) e
some_route from to sorts quiet fields (method.Merge keys) w e h q = ap (λ o. is_some o || (from && (to && quiet))) e
some_route from to sorts quiet fields method.Auto w e h q = ap (λ o. is_some o || (from && (to && quiet))) e ∙ here from to sorts quiet h q
  where
    here : (from to sorts quiet : Bool) → (from && (to && not sorts)) ≡ true → (sorts ≡ false → quiet ≡ true) → (from && (to && quiet)) ≡ true
    here true true false quiet h q = q refl
    here true true true quiet h q = absurd (grind (arith, h))
    here true false sorts quiet h q = absurd (grind (arith, h))
    here false to sorts quiet h q = absurd (grind (arith, h))

routed_here : (dict : List Stored) (c : Chart) → IsShape c → IsShapeOf c.flow dict c → is_built c.flow ≡ true → IsRouted c
routed_here dict c shape s b l h =
    let parts = built_parts c.flow b in
    let link = link_at c l in
    let o = link.to in
    let o_in = (shape.links l h).to in
    let consumer = all_at (λ (p : OpSpec). is_built_op p.kind ≡ true) c.flow.ops o no_op (each (λ (p : OpSpec). is_built_op p.kind) c.flow.ops parts.0) o_in in
    let here = all_at (λ (x : LinkSpec). is_built_link c.flow.ops x ≡ true) c.flow.links l no_link (each (is_built_link c.flow.ops) c.flow.links parts.1) h in
    let keys = ap (λ (ps : List OpParts). (get_or ps o no_parts).keys) s.parts ∙ ap (λ (p : OpParts). p.keys) (get_or-map-range_with_len (parts_at c) 0 (length c.flow.ops) o o no_parts o_in (omega arith)) in
    some_route (is_seq (op_at c link.from).mark) (into_seq c l) (needs_sort (op_at c o).kind) (unsorted (sort_key (form_at c o) link.port)) (fields_at c l) link.method (get_or c.written l None)
    (ap (λ ws. get_or ws l None) s.written ∙ get_or-map-range_with_len (written_at c) 0 (length c.flow.links) l l None h (omega arith))
    (both _ _ here).1
    (λ n. no_sort (op_at c o).kind (inputs_at c o) (keys_at c o) (cols_at c o) (get_or c.stored o None) (first_width c o) link.port consumer n keys)

pub routed : (flow : Flow) (dict : List Stored) (c : Chart) → IsShape c → IsShapeOf flow dict c → is_built flow ≡ true → IsRouted c
routed flow dict c shape s b = routed_here dict c shape (subst (λ f. IsShapeOf f dict c) (sym s.same) s) (subst (λ f. is_built f ≡ true) (sym s.same) b)
