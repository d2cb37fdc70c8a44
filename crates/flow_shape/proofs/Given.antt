-- What a link's producer gives on it.
use Rattle.std.proofs.Common.{◌≡◌, ◌<◌, ◌==◌, ◌∷◌, [], ℕ, List, Bool, true, false, Option, Some, refl, sym, ap, subst, ◌∙◌, length, get_or, map}
use Rattle.std.proofs.lemmas.Bool.{eqb-true}
use Rattle.std.proofs.lemmas.List.{length-map}
use Rattle.ds_schema.specs.declared.schema.Field.{Field}
use Rattle.flow_graph.specs.Charts.{no_link, no_op}
use Rattle.flow_graph.specs.declared.flow.Flow.{Flow}
use Rattle.flow_graph.specs.declared.flow.LinkSpec.{LinkSpec}
use Rattle.flow_graph.specs.declared.flow.OpSpec.{OpSpec}
use Rattle.flow_graph.specs.declared.op_kind.OpKind.{OpKind}
use Rattle.flow_graph.specs.declared.op_kind.OpKind.TheVariants as kind
use Rattle.flow_shape.specs.Lowest.{HasNone}
use Rattle.flow_shape.specs.Links.{AreWithin}
use Rattle.op_shape.specs.Options.{IsFed, IsKnown, output_fields}
use Rattle.flow_shape.specs.Ports.{WrongPorts, ports_fit, may_have_in, may_have_out, count_in, count_out}
use Rattle.flow_shape.specs.Refusals.{HasOnlyKnown, chart_of, inputs_at, given_on}
use Rattle.flow_shape.proofs.Causing.{all_at, known_at}
use Rattle.flow_shape.proofs.Numbers.{into_count}
use Rattle.flow_shape.proofs.Orders.{and_parts}

pub ends : (flow : Flow) (l : ℕ) → AreWithin (length flow.ops) flow.links → l < length flow.links → ((get_or flow.links l no_link).from < length flow.ops) × ((get_or flow.links l no_link).to < length flow.ops)
ends flow l w h = all_at (λ (k : LinkSpec). (k.from < length flow.ops) × (k.to < length flow.ops)) flow.links l no_link w h

fits_by : (x : Bool) → (x ≡ false → ⊥) → x ≡ true
fits_by true h = refl
fits_by false h = absurd (h refl)

pub has_ports : (flow : Flow) (o : ℕ) → HasNone (length flow.ops) (WrongPorts flow) → o < length flow.ops
    → (may_have_in (get_or flow.ops o no_op).kind (count_in flow.links o) ≡ true) × (may_have_out (get_or flow.ops o no_op).kind (count_in flow.links o) (count_out flow.links o) ≡ true)
has_ports flow o none h =
    let k = (get_or flow.ops o no_op).kind in
    and_parts (may_have_in k (count_in flow.links o)) _ (fits_by (ports_fit k (count_in flow.links o) (count_out flow.links o)) (none o h))

-- a known operator has as many inputs as it looks at
is_fed : (k : OpKind) (n : ℕ) → IsKnown k → may_have_in k n ≡ true → IsFed k n
is_fed (kind.Import file schema delim fixed reject) n h e = eqb-true n 0 e
is_fed (kind.Export file delim fixed) n h e = eqb-true n 1 e
is_fed kind.Copy n h e = eqb-true n 1 e
is_fed (kind.Filter test reject) n h e = eqb-true n 1 e
is_fed (kind.Transform set reject) n h e = eqb-true n 1 e
is_fed (kind.Modify keep drop rename) n h e = eqb-true n 1 e
is_fed (kind.Switch on cases reject) n h e = eqb-true n 1 e
is_fed (kind.Tsort key) n h e = eqb-true n 1 e
is_fed (kind.Remdup key last) n h e = eqb-true n 1 e
is_fed (kind.Group key hash results) n h e = eqb-true n 1 e
is_fed (kind.InnerJoin key) n h e = eqb-true n 2 e
is_fed (kind.LeftOuterJoin key) n h e = eqb-true n 2 e
is_fed (kind.RightOuterJoin key) n h e = eqb-true n 2 e
is_fed (kind.FullOuterJoin key) n h e = eqb-true n 2 e
is_fed (kind.Lookup key missing) n h e = eqb-true n 2 e
is_fed k n h e = absurd h

pub fed_at : (flow : Flow) (schemas : List (List Field)) (o n : ℕ) → HasOnlyKnown flow → HasNone (length flow.ops) (WrongPorts flow) → o < length flow.ops
    → n ≡ length (inputs_at (chart_of flow schemas) o) → IsFed (get_or flow.ops o no_op).kind n
fed_at flow schemas o n known none h e =
    let k = (get_or flow.ops o no_op).kind in
    let len : n ≡ count_in flow.links o = e ∙ (length-map _ _ ∙ into_count flow o) in
    is_fed k n (known_at flow o known h) (subst (λ m. may_have_in k m ≡ true) (sym len) (has_ports flow o none h).0)

-- what is given on a link, by its producer
pub given_same : (flow : Flow) (schemas : List (List Field)) (l : ℕ) (op : OpSpec) (link : LinkSpec) (ins : List (List Field)) → link ≡ get_or flow.links l no_link → op ≡ get_or flow.ops link.from no_op
    → ins ≡ inputs_at (chart_of flow schemas) link.from → output_fields op.kind ins link.out ≡ given_on (chart_of flow schemas) l
given_same flow schemas l op link ins e f g =
    ap (λ (s : OpSpec). output_fields s.kind ins link.out) f ∙ (ap (λ x. output_fields (get_or flow.ops link.from no_op).kind x link.out) g
    ∙ ap (λ (s : LinkSpec). output_fields (get_or flow.ops s.from no_op).kind (inputs_at (chart_of flow schemas) s.from) s.out) e)

-- a slice of what is seen as these inputs is as long
pub as_many : {X : Type 0} (f : X → List Field) (items slice : List X) (ins : List (List Field)) → slice ≡ items → map f items ≡ ins → length slice ≡ length ins
as_many f items slice ins e g = ap length e ∙ (sym (length-map items f) ∙ ap length g)
