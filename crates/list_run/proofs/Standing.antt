-- What stands after some turns stands after one more.
use Rattle.std.proofs.Common.{◌≡◌, ◌≢◌, ◌⊎◌, inl, inr, ℕ, zero, suc, ◌+◌, ◌<◌, Bool, refl, sym, ap, ap₂, ◌∙◌, subst, List, [], ◌∷◌, ◌++◌, length, take, get_or, All, Option, Some, None, append-nil, arith}
use Rattle.std.specs.List.{AllByRecursion, flat_map}
use Rattle.std.proofs.lemmas.Grind.{flat_map-append}
use Rattle.std.proofs.lemmas.List.Elements.{All-from_recursion}
use Rattle.ds_schema.specs.Rows.{InWidth}
use Rattle.ds_schema.specs.declared.schema.Field.{Field}
use Rattle.op_base.specs.declared.fault.Fault.{Fault}
use Rattle.op_base.specs.Columns.{Row, IsIn, Lies, all_columns}
use Rattle.op_row.proofs.Transformed.{fits_length}
use Rattle.flow_graph.specs.declared.op_kind.OpKind.{OpKind}
use Rattle.flow_graph.specs.declared.op_kind.OpKind.TheVariants as kind
use Rattle.flow_graph.specs.declared.route.Route.{Route}
use Rattle.flow_graph.specs.declared.route.Route.TheVariants as route
use Rattle.flow_graph.specs.declared.route.Choice.{Choice}
use Rattle.flow_graph.specs.Charts.{Chart, link_at, links_into, links_from, op_at, parts_of, into_seq, width_at}
use Rattle.flow_graph.specs.Fitting.{FitsFields}
use Rattle.flow_graph.specs.FlowShape.{IsShape, ForwardOrder, WrittenFits}
use Rattle.flow_graph.specs.Runs.{RouteFits}
use Rattle.flow_derive.specs.LinkStates.{choice_at, written_or_same}
use Rattle.list_run.specs.declared.held.Held.{Held}
use Rattle.list_run.specs.Found.{Tallies, found_by}
use Rattle.list_run.specs.Held.{CameFits, MaySend, Steps, found_at, inputs_of, sent_from, sent_on, got_on, waits}
use Rattle.list_run.specs.Routed.{Joins, SuitsRoute}
use Rattle.flow_rules.specs.Exports.{IsExport, input_of}
use Rattle.list_run.specs.Runnable.{degree_at, row_count, IsRunnable, TakesWhole}
use Rattle.flow_ops.specs.Kinds.{widths_into}
use Rattle.list_run.specs.Turns.{HadTurn, Stands, found_after, got_in, sent_in}
use Rattle.list_run.proofs.Inputs.{ports_at, some_member, some_of_one}
use Rattle.list_run.proofs.Links.{all_in, in_from, in_into}
use Rattle.list_run.proofs.Ordered.{in_either, not_before, order_front, turn_more, turn_before, turn_now}
use Rattle.list_run.proofs.RowsKept.{Each}
use Rattle.list_run.proofs.Sizes.{lies_in, same_inputs, got_means, all_came, all_fit}

-- the inputs of the n-th operator leave operators that had their turns
forward_at : (c : Chart) (seen order : List ℕ) → ForwardOrder c seen order → (n : ℕ) → n < length order → (l : ℕ) → IsIn l (links_into c (get_or order n 0)) → IsIn l seen ⊎ IsIn (link_at c l).from (take n order)
forward_at c seen [] f n m l i = absurd (omega (arith, m))
forward_at c seen (o ∷ order) f zero m l i = inl (lies_in (links_into c o) seen l f.0 i)
forward_at c seen (o ∷ order) f (suc n) m l i = go (forward_at c (links_from c o ++ seen) order f.1 n (omega (arith, m)) l i)
  where
    either : (IsIn l (links_from c o) ⊎ IsIn l seen) → IsIn l seen ⊎ IsIn (link_at c l).from (o ∷ take n order)
    either (inl j) = inr (inl (in_from c o l j).1)
    either (inr j) = inl j

    go : (IsIn l (links_from c o ++ seen) ⊎ IsIn (link_at c l).from (take n order)) → IsIn l seen ⊎ IsIn (link_at c l).from (o ∷ take n order)
    go (inl j) = either (in_either l (links_from c o) seen j)
    go (inr j) = inr (inr j)

pub input_had : (c : Chart) → ForwardOrder c [] c.order → (n : ℕ) → n < length c.order → (l : ℕ) → IsIn l (links_into c (get_or c.order n 0)) → HadTurn c n (link_at c l).from
input_had c f n m l i = go (forward_at c [] c.order f n m l i)
  where
    go : IsIn l [] ⊎ IsIn (link_at c l).from (take n c.order) → HadTurn c n (link_at c l).from
    go (inl j) = absurd j
    go (inr j) = j

-- what waits for the n-th operator
pub waits_for : (c : Chart) (choices : List Choice) (nodes : ℕ) (given : List (List Row)) (n : ℕ) (rest : List (List Row)) (held : Held) → IsRunnable c choices nodes given → n < length c.order → Stands c nodes given n rest held →
    (l : ℕ) → IsIn l (links_into c (get_or c.order n 0)) → waits held l ≡ got_in c nodes given l
waits_for c choices nodes given n rest held r m stands l i =
    let k = in_into c (get_or c.order n 0) l i in
    stands.waiting l k.0 (input_had c r.shape.order.forward n m l i) (λ h. not_before c r.shape.order n m (subst (HadTurn c n) k.1 h))

pub inputs_wait : (c : Chart) (choices : List Choice) (nodes : ℕ) (given : List (List Row)) (n : ℕ) (rest : List (List Row)) (held : Held) → IsRunnable c choices nodes given → n < length c.order → Stands c nodes given n rest held →
    inputs_of c (get_or c.order n 0) (waits held) ≡ inputs_of c (get_or c.order n 0) (got_in c nodes given)
inputs_wait c choices nodes given n rest held r m stands = same_inputs (waits held) (got_in c nodes given) (links_into c (get_or c.order n 0)) (waits_for c choices nodes given n rest held r m stands)

-- what it sends is what is sent in the end
pub held_sent : (c : Chart) (choices : List Choice) (nodes : ℕ) (given : List (List Row)) (n : ℕ) (rest : List (List Row)) (held : Held) → IsRunnable c choices nodes given → n < length c.order → Stands c nodes given n rest held →
    (l : ℕ) → l < length c.flow.links → (link_at c l).from ≡ get_or c.order n 0 → sent_on c (waits held) (λ i. get_or rest i []) l ≡ sent_in c nodes given l
held_sent c choices nodes given n rest held r m stands l k e =
    let o = get_or c.order n 0 in
    ap (λ p. sent_from c l p (inputs_of c p (waits held)) (get_or rest l [])) e
    ∙ ap₂ (λ ins rows. sent_from c l o ins rows) (inputs_wait c choices nodes given n rest held r m stands) (stands.rest_is l k (λ h. not_before c r.shape.order n m (subst (HadTurn c n) e h)))
    ∙ sym (ap (λ p. sent_from c l p (inputs_of c p (got_in c nodes given)) (get_or given l [])) e)

-- rows suit the routes that are written
suits_row : (m : Route) (fields : List Field) → RouteFits (length fields) m → TakesWhole fields m → (r : Row) → FitsFields fields r → SuitsRoute m r
suits_row route.Same fields f w r h = tt
suits_row route.RoundRobin fields f w r h = tt
suits_row route.Entire fields f w r h = tt
suits_row (route.Hash K) fields f w r h = (All-from_recursion (InWidth r) K (columns K f), h.1)
  where
    columns : (cs : List ℕ) → Lies cs (all_columns (length fields)) → AllByRecursion (InWidth r) cs
    columns [] l = tt
    columns (x ∷ cs) l = (subst (λ n. x < n) (fits_length fields r h.0) (all_in (length fields) x l.0), columns cs l.1)
suits_row (route.Modulus x) fields f w r h = (All-from_recursion (InWidth r) (x ∷ []) (subst (λ n. x < n) (fits_length fields r h.0) (all_in (length fields) x f), tt), w r h, h.1)
suits_row route.Any fields f w r h = tt
suits_row route.Ordered fields f w r h = tt
suits_row (route.Merge keys) fields f w r h = tt

suits_list : (m : Route) (fields : List Field) → RouteFits (length fields) m → TakesWhole fields m → (rows : List Row) → AllByRecursion (FitsFields fields) rows → AllByRecursion (SuitsRoute m) rows
suits_list m fields f w [] h = tt
suits_list m fields f w (r ∷ rows) h = (suits_row m fields f w r h.0, suits_list m fields f w rows h.1)

suits_lists : (m : Route) (fields : List Field) → RouteFits (length fields) m → TakesWhole fields m → (lists : List (List Row)) → Each (FitsFields fields) lists → AllByRecursion (All (SuitsRoute m)) lists
suits_lists m fields f w [] h = tt
suits_lists m fields f w (rows ∷ lists) h = (All-from_recursion (SuitsRoute m) rows (suits_list m fields f w rows h.0), suits_lists m fields f w lists h.1)

route_fits : (seq : Bool) (w : ℕ) (m : Option Route) → WrittenFits seq w m → RouteFits w (written_or_same m)
route_fits seq w None f = tt
route_fits seq w (Some route.Same) f = tt
route_fits seq w (Some route.RoundRobin) f = tt
route_fits seq w (Some route.Entire) f = tt
route_fits seq w (Some (route.Hash K)) f = f.1
route_fits seq w (Some (route.Modulus x)) f = f.1
route_fits seq w (Some route.Any) f = tt
route_fits seq w (Some route.Ordered) f = tt
route_fits seq w (Some (route.Merge keys)) f = tt

pub may_send : (c : Chart) (choices : List Choice) (nodes : ℕ) (given : List (List Row)) (n : ℕ) (rest : List (List Row)) (held : Held) → IsRunnable c choices nodes given → n < length c.order → Stands c nodes given n rest held → MaySend c nodes (get_or c.order n 0) (sent_on c (waits held) (λ i. get_or rest i []))
may_send c choices nodes given n rest held r m stands = λ l k e.
    let fits = (all_fit c choices nodes given r l k).0 in
    let route = route_fits (into_seq c l) (width_at c l) (get_or c.written l None) (r.shape.links l k).written in
    let P : List (List Row) → Type 0 = λ s. Joins (into_seq c l) (choice_at c l).method (length s) (degree_at c nodes (link_at c l).to) × All (All (SuitsRoute (choice_at c l).method)) s in
    subst P (sym (held_sent c choices nodes given n rest held r m stands l k e)) (
      subst (λ d. Joins (into_seq c l) (choice_at c l).method d (degree_at c nodes (link_at c l).to)) (sym fits.0) (r.run.joins l k),
      All-from_recursion (All (SuitsRoute (choice_at c l).method)) (sent_in c nodes given l) (suits_lists (choice_at c l).method (get_or c.schemas l []) route (r.run.whole l k) (sent_in c nodes given l) fits.1),
    )

-- the rows that wait for it fit
pub came_fits : (c : Chart) (choices : List Choice) (nodes : ℕ) (given : List (List Row)) (n : ℕ) (rest : List (List Row)) (held : Held) → IsRunnable c choices nodes given → n < length c.order → Stands c nodes given n rest held → CameFits c (get_or c.order n 0) (waits held)
came_fits c choices nodes given n rest held r m stands = λ l i.
    subst (λ (lists : List (List Row)). Each (FitsFields (get_or c.schemas l [])) lists) (sym (waits_for c choices nodes given n rest held r m stands l i)) (all_came c choices nodes given r (get_or c.order n 0) l i).1

export_input : (c : Chart) (o : ℕ) (k : OpKind) → IsShape c → o < length c.flow.ops → (op_at c o).kind ≡ k → IsExport k → IsIn (input_of c o) (links_into c o)
export_input c o (kind.Export file delim fixed) shape m e x = some_member (links_into c o) (some_of_one (length (links_into c o)) (ports_at c shape o m (kind.Export file delim fixed) e))
export_input c o k shape m e x = absurd x

-- what one more operator finds
found_more : (c : Chart) (nodes : ℕ) (given : List (List Row)) (n : ℕ) → n < length c.order → found_after c nodes given (n + 1) ≡ found_after c nodes given n ++ found_at c (get_or c.order n 0) (got_in c nodes given)
found_more c nodes given n m =
    let F : ℕ → List Fault = λ o. found_at c o (got_in c nodes given) in
    ap (flat_map F) (order_front c.order n m) ∙ flat_map-append F (take n c.order) (get_or c.order n 0 ∷ []) ∙ ap (λ t. flat_map F (take n c.order) ++ t) (append-nil (F (get_or c.order n 0)))

-- one more turn
pub stands_next : (c : Chart) (choices : List Choice) (nodes : ℕ) (given : List (List Row)) (n : ℕ) (rest after : List (List Row)) (held new : Held) → IsRunnable c choices nodes given → n < length c.order → get_or c.order n 0 < length c.flow.ops → Stands c nodes given n rest held →
    Steps c nodes (get_or c.order n 0) rest after held new → Stands c nodes given (n + 1) after new
stands_next c choices nodes given n rest after held new r m b stands steps = record {
  room = steps.room;
  waiting = λ l k f t. come l k t (turn_more c n (link_at c l).from m f);
  counts = λ l k f. counted l k (turn_more c n (link_at c l).from m f);
  rest_is = λ l k f. steps.kept_given l k (λ e. f (subst (HadTurn c (n + 1)) (sym e) (turn_now c n m))) ∙ stands.rest_is l k (λ h. f (turn_before c n (link_at c l).from m h));
  sinks = λ p h e. kept p e (turn_more c n p m h);
  found = subst (λ fs. Tallies fs new.tally) (sym (found_more c nodes given n m)) (subst (λ fs. Tallies (found_after c nodes given n ++ fs) new.tally) found (steps.found (found_after c nodes given n) stands.found));
}
  where
    found : found_at c (get_or c.order n 0) (waits held) ≡ found_at c (get_or c.order n 0) (got_in c nodes given)
    found = let o = get_or c.order n 0 in ap (found_by o (op_at c o).kind (parts_of c o) (widths_into c o)) (inputs_wait c choices nodes given n rest held r m stands)

    other : (p : ℕ) → HadTurn c n p → p ≢ get_or c.order n 0
    other p h e = not_before c r.shape.order n m (subst (HadTurn c n) e h)

    come : (l : ℕ) → l < length c.flow.links → (HadTurn c (n + 1) (link_at c l).to → ⊥) → HadTurn c n (link_at c l).from ⊎ ((link_at c l).from ≡ get_or c.order n 0) → get_or new.waiting.items l [] ≡ got_in c nodes given l
    come l k t (inl h) = steps.kept l k (other (link_at c l).from h) (λ e. t (subst (HadTurn c (n + 1)) (sym e) (turn_now c n m))) ∙ stands.waiting l k h (λ u. t (turn_before c n (link_at c l).to m u))
    come l k t (inr e) = steps.waiting l k e ∙ ap (got_on c nodes l) (held_sent c choices nodes given n rest held r m stands l k e) ∙ sym (got_means c choices nodes given r l k)

    counted : (l : ℕ) → l < length c.flow.links → HadTurn c n (link_at c l).from ⊎ ((link_at c l).from ≡ get_or c.order n 0) → get_or new.counts.items l 0 ≡ row_count (sent_in c nodes given l)
    counted l k (inl h) = steps.kept_counts l k (other (link_at c l).from h) ∙ stands.counts l k h
    counted l k (inr e) = steps.counts l k e ∙ ap row_count (held_sent c choices nodes given n rest held r m stands l k e)

    kept : (p : ℕ) → IsExport (op_at c p).kind → HadTurn c n p ⊎ (p ≡ get_or c.order n 0) → get_or new.sinks.items p [] ≡ got_in c nodes given (input_of c p)
    kept p e (inl h) = steps.kept_sinks p (other p h) ∙ stands.sinks p h e
    kept p e (inr q) =
        let e' = subst (λ o. IsExport (op_at c o).kind) q e in
        subst (λ o. get_or new.sinks.items o [] ≡ got_in c nodes given (input_of c o)) (sym q)
        (steps.sink e' ∙ waits_for c choices nodes given n rest held r m stands (input_of c (get_or c.order n 0)) (export_input c (get_or c.order n 0) (op_at c (get_or c.order n 0)).kind r.shape b refl e'))
