-- What was found of a flow is its shape, and has what is asked of a shaped flow.
use Rattle.std.proofs.Common.{◌≡◌, ◌≤◌, ◌<◌, ◌==◌, ◌∷◌, [], ℕ, List, true, Option, None, refl, sym, ap, ◌∙◌, arith, length, map, get_or, subst}
use Rattle.std.specs.List.{AllByRecursion, filter, range_with_len}
use Rattle.std.proofs.lemmas.List.FromFn.{get_or-map-range_with_len, length-map-range_with_len}
use Rattle.ds_schema.specs.declared.schema.Field.{Field}
use Rattle.ds_schema.specs.Schemas.{IsSchema}
use Rattle.ds_schema.specs.Rows.{KeysDiffer, cols}
use Rattle.op_base.specs.Columns.{Lies, all_columns}
use Rattle.op_base.specs.Keyed.{get_keys}
use Rattle.flow_graph.specs.Charts.{Chart, no_link, no_op, no_parts, is_seq, keys_at, cols_at, first_width}
use Rattle.flow_graph.specs.declared.flow.Flow.{Flow}
use Rattle.flow_graph.specs.declared.flow.OpSpec.{OpSpec}
use Rattle.flow_graph.specs.declared.parts.OpParts.{OpParts}
use Rattle.flow_graph.specs.declared.parts.Stored.{Stored}
use Rattle.flow_graph.specs.declared.route.Route.{Route}
use Rattle.flow_graph.specs.RowRules.{ExprsFit}
use Rattle.flow_graph.specs.FlowShape.{IsShape, HasLists, LinkFits, OpFits, WrittenFits}
use Rattle.flow_shape.specs.Lowest.{HasNone}
use Rattle.flow_shape.specs.Files.{Clashes}
use Rattle.flow_shape.specs.Links.{IsOrder, IsWhole, OnCycle}
use Rattle.flow_shape.specs.Methods.{written_route}
use Rattle.op_shape.specs.Options.{KeysDistinct, OptionsStand, operator_parts}
use Rattle.shape_base.specs.Fields.{first_fields}
use Rattle.flow_shape.specs.Ports.{WrongPorts, may_have_in, count_in, count_out}
use Rattle.flow_shape.specs.Refusals.{HasOnlyKnown, chart_of, inputs_at, AllFit, IsShapeOf, parts_at, written_at, stored_at}
use Rattle.flow_shape.specs.Spelled.{IsJoined}
use Rattle.flow_shape.proofs.Causing.{known_at, all_at}
use Rattle.op_shape.proofs.Fit.{exprs_fit}
use Rattle.op_shape.proofs.Held.{operator_keys_lie, operator_keys_differ}
use Rattle.flow_shape.proofs.Fitted.{exprs_over, few_cases, columns_fit, few_kept, leaves, given_fields}
use Rattle.flow_shape.proofs.Given.{ends, has_ports}
use Rattle.flow_shape.proofs.Holding.{route_fits, form_ports, form_out, form_fills, first_of, each_of, few_links}
use Rattle.flow_shape.proofs.Numbers.{into_count}
use Rattle.flow_shape.proofs.Ordering.{order_once, order_forward}
use Rattle.flow_shape.proofs.Sound.{method_none, method_sound, cause_parts}
use Rattle.flow_shape.proofs.Stuck.{whole_order}

-- what was found, and what is known of it
pub record Finds (flow : Flow) (dict : List Stored) (schemas : List (List Field)) (parts : List OpParts) (written : List (Option Route)) (order : List ℕ) (stored : List (Option Stored)) : Type 0 where
  pub known : HasOnlyKnown flow
  pub joined : IsJoined flow
  pub ports : HasNone (length flow.ops) (WrongPorts flow)
  pub acyclic : HasNone (length flow.ops) (OnCycle flow.links)
  pub in_order : IsOrder (length flow.ops) flow.links order
  pub fit : AllFit (chart_of flow schemas)
  pub files : HasNone (length flow.ops) (Clashes flow.ops)
  pub are_schemas : (l : ℕ) → l < length flow.links → IsSchema (get_or schemas l [])
  pub each_parts : parts ≡ map (parts_at (chart_of flow schemas)) (range_with_len 0 (length flow.ops))
  pub each_written : written ≡ map (written_at (chart_of flow schemas)) (range_with_len 0 (length flow.links))
  pub each_stored : stored ≡ map (stored_at dict (chart_of flow [])) (range_with_len 0 (length flow.ops))

abbrev pub made : Flow → List (List Field) → List OpParts → List (Option Route) → List ℕ → List (Option Stored) → Chart
made flow schemas parts written order stored = record { flow = flow; schemas = schemas; parts = parts; written = written; order = order; stored = stored }

whole : (flow : Flow) (dict : List Stored) (schemas : List (List Field)) (parts : List OpParts) (written : List (Option Route)) (order : List ℕ) (stored : List (Option Stored)) → Finds flow dict schemas parts written order stored → IsWhole (length flow.ops) order
whole flow dict schemas parts written order stored f = whole_order (length flow.ops) flow.links order f.in_order f.joined.within f.acyclic

pub is_shape_of : (flow : Flow) (dict : List Stored) (schemas : List (List Field)) (parts : List OpParts) (written : List (Option Route)) (order : List ℕ) (stored : List (Option Stored)) → Finds flow dict schemas parts written order stored → IsShapeOf flow dict (made flow schemas parts written order stored)
is_shape_of flow dict schemas parts written order stored f = record {
  same = refl;
  ports = f.ports;
  order = f.in_order;
  whole = whole flow dict schemas parts written order stored f;
  schemas = record { each_link = f.fit.each_link; fits = λ o h. record { sound = (f.fit.fits o h).sound; gives = (f.fit.fits o h).gives } };
  parts = f.each_parts;
  written = f.each_written;
  stored = f.each_stored;
  files = f.files;
}

lists : (flow : Flow) (dict : List Stored) (schemas : List (List Field)) (parts : List OpParts) (written : List (Option Route)) (order : List ℕ) (stored : List (Option Stored)) → Finds flow dict schemas parts written order stored → HasLists (made flow schemas parts written order stored)
lists flow dict schemas parts written order stored f = record {
  schemas = f.fit.each_link;
  written = ap length f.each_written ∙ length-map-range_with_len (written_at (chart_of flow schemas)) 0 (length flow.links);
  parts = ap length f.each_parts ∙ length-map-range_with_len (parts_at (chart_of flow schemas)) 0 (length flow.ops);
  stored = ap length f.each_stored ∙ length-map-range_with_len (stored_at dict (chart_of flow [])) 0 (length flow.ops);
}

-- the route of a link
route_is : (flow : Flow) (dict : List Stored) (schemas : List (List Field)) (parts : List OpParts) (written : List (Option Route)) (order : List ℕ) (stored : List (Option Stored)) → Finds flow dict schemas parts written order stored → (l : ℕ) → l < length flow.links → get_or written l None ≡ written_route (get_or schemas l []) (get_or flow.links l no_link).method
route_is flow dict schemas parts written order stored f l h = ap (λ ws. get_or ws l None) f.each_written ∙ get_or-map-range_with_len (written_at (chart_of flow schemas)) 0 (length flow.links) l l None h (omega arith)

link_fits : (flow : Flow) (dict : List Stored) (schemas : List (List Field)) (parts : List OpParts) (written : List (Option Route)) (order : List ℕ) (stored : List (Option Stored)) → Finds flow dict schemas parts written order stored → (l : ℕ) → l < length flow.links → LinkFits (made flow schemas parts written order stored) l
link_fits flow dict schemas parts written order stored f l h =
    let c = made flow schemas parts written order stored in
    let k = get_or flow.links l no_link in
    let end = ends flow l f.joined.within h in
    let known = known_at flow k.from f.known end.0 in
    let seq = is_seq (get_or flow.ops k.to no_op).mark in
    let sound = method_sound seq (get_or schemas l []) k.method (method_none flow schemas l h (f.fit.fits k.to end.1).sound) in
    record {
      from = end.0;
      to = end.1;
      schema = f.are_schemas l h;
      width = (f.are_schemas l h).few;
      out = form_out (get_or flow.ops k.from no_op).kind (keys_at c k.from) (cols_at c k.from) (get_or stored k.from None) (first_width c k.from) k.out known;
      filled = form_fills (get_or flow.ops k.from no_op).kind (keys_at c k.from) (cols_at c k.from) (get_or stored k.from None) (first_width c k.from) (length (get_or schemas l [])) known;
      written = subst (λ r. WrittenFits seq (length (get_or schemas l [])) r) (sym (route_is flow dict schemas parts written order stored f l h)) (route_fits seq (get_or schemas l []) k.method sound.0 sound.1);
    }

-- the parts of an operator
parts_are : (flow : Flow) (dict : List Stored) (schemas : List (List Field)) (parts : List OpParts) (written : List (Option Route)) (order : List ℕ) (stored : List (Option Stored)) → Finds flow dict schemas parts written order stored → (o : ℕ) → o < length flow.ops → get_or parts o no_parts ≡ operator_parts (get_or flow.ops o no_op).kind (inputs_at (chart_of flow schemas) o)
parts_are flow dict schemas parts written order stored f o h = ap (λ ps. get_or ps o no_parts) f.each_parts ∙ get_or-map-range_with_len (parts_at (chart_of flow schemas)) 0 (length flow.ops) o o no_parts h (omega arith)

op_fits : (flow : Flow) (dict : List Stored) (schemas : List (List Field)) (parts : List OpParts) (written : List (Option Route)) (order : List ℕ) (stored : List (Option Stored)) → Finds flow dict schemas parts written order stored → (o : ℕ) → o < length flow.ops → OpFits (made flow schemas parts written order stored) o
op_fits flow dict schemas parts written order stored f o h =
    let c = made flow schemas parts written order stored in
    let k = (get_or flow.ops o no_op).kind in
    let ins = inputs_at (chart_of flow schemas) o in
    let first = first_fields ins in
    let known = known_at flow o f.known h in
    let into = filter (λ l. (get_or flow.links l no_link).to == o) (range_with_len 0 (length flow.links)) in
    let mine = parts_are flow dict schemas parts written order stored f o h in
    let fits = f.fit.fits o h in
    let none = (cause_parts flow schemas o fits.sound).1 in
    let stand = all_at (λ (s : OpSpec). OptionsStand s.kind) flow.ops o no_op f.joined.options h in
    let ports = has_ports flow o f.ports h in
    let fed : may_have_in k (length into) ≡ true = subst (λ n. may_have_in k n ≡ true) (sym (into_count flow o)) ports.0 in
    let over : 0 < length into → first ≡ get_or schemas (get_or into 0 0) [] = λ w. first_of (λ l. get_or schemas l []) into [] 0 w in
    let width : ℕ → ℕ = λ i. length (get_or schemas (get_or into i 0) []) in
    record {
      ports = f.joined.ports o;
      inputs = form_ports k (keys_at c o) (cols_at c o) (get_or stored o None) (first_width c o) (length into) known fed;
      keys = λ i w. subst (λ (p : OpParts). Lies (cols (get_keys p.keys i)) (all_columns (width i))) (sym mine)
          (operator_keys_lie k ins i (width i) known none (ap length (each_of (λ l. get_or schemas l []) into [] i w)));
      keys_differ = subst (λ (p : OpParts). AllByRecursion KeysDiffer p.keys) (sym mine) (operator_keys_differ k ins known none (all_at (λ (s : OpSpec). KeysDistinct s.kind) flow.ops o no_op f.joined.keys h));
      columns = columns_fit c o k ins (length into) known stand none (ap (λ (p : OpParts). p.cols) mine) fed (λ w. ap length (over w))
          (λ l i z. let out = leaves flow o l i in ap length (given_fields flow schemas o l fits out.0 out.1 z));
      few_kept = few_kept k ins (cols_at c o) none (ap (λ (p : OpParts). p.cols) mine);
      exprs = exprs_over k first (get_or schemas (get_or into 0 0) []) (get_or parts o no_parts) (length into) known fed over
          (subst (ExprsFit first k) (sym mine) (exprs_fit k ins known stand (few_cases k (count_in flow.links o) (count_out flow.links o) ports.1) none));
    }

pub is_shape : (flow : Flow) (dict : List Stored) (schemas : List (List Field)) (parts : List OpParts) (written : List (Option Route)) (order : List ℕ) (stored : List (Option Stored)) → Finds flow dict schemas parts written order stored → IsShape (made flow schemas parts written order stored)
is_shape flow dict schemas parts written order stored f = record {
  few_ops = (let few = f.joined.few in omega (arith, few));
  few_links = few_links flow f.known f.ports f.joined.within f.joined.few;
  lists = lists flow dict schemas parts written order stored f;
  order = record {
    once = order_once (length flow.ops) flow.links order f.in_order (whole flow dict schemas parts written order stored f);
    forward = order_forward (length flow.ops) (made flow schemas parts written order stored) order f.in_order;
  };
  links = link_fits flow dict schemas parts written order stored f;
  ops = op_fits flow dict schemas parts written order stored f;
}
