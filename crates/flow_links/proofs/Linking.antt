-- A shape has as many links at an operator as it has outputs.
use Rattle.std.proofs.Common.{◌≡◌, ◌<◌, ◌==◌, [], ℕ, true, refl, sym, ap₂, subst, ◌∙◌, length, get_or}
use Rattle.std.proofs.lemmas.Bool.{eqb-true}
use Rattle.std.specs.Cmp.{first_so}
use Rattle.std.specs.Prelude.{nat_le, if◌then◌else◌}
use Rattle.flow_graph.specs.declared.flow.Flow.{Flow}
use Rattle.flow_graph.specs.declared.op_kind.OpKind.{OpKind}
use Rattle.flow_graph.specs.declared.op_kind.OpKind.TheVariants as kind
use Rattle.flow_graph.specs.Charts.{no_op, link_at, links_from}
use Rattle.flow_shape.specs.Lowest.{HasNone}
use Rattle.flow_shape.specs.Ports.{WrongPorts, may_have_out, rejects, with_reject, count_in, count_out}
use Rattle.flow_shape.specs.Refusals.{chart_of}
use Rattle.flow_shape.proofs.Given.{ends, has_ports}
use Rattle.flow_shape.proofs.Numbers.{into_count}
use Rattle.flow_links.specs.Outputs.{outputs_of, outputs_at, LinksOutputs, ShapedIsLinked}
use Rattle.flow_links.proofs.Numbering.{from_count}

by_kind : (k : OpKind) (ins leaving : ℕ) → may_have_out k ins leaving ≡ true → leaving ≡ outputs_of k ins leaving
by_kind (kind.Import file schema delim fixed reject) ins n h = eqb-true n (with_reject reject 1) h
by_kind (kind.Export file delim fixed) ins n h = eqb-true n 0 h
by_kind (kind.Dsread ds) ins n h = eqb-true n 1 h
by_kind (kind.Dswrite ds) ins n h = eqb-true n 0 h
by_kind kind.Copy ins n h = refl
by_kind (kind.Filter test reject) ins n h = eqb-true n (with_reject reject 1) h
by_kind (kind.Transform set reject) ins n h = eqb-true n (with_reject reject 1) h
by_kind (kind.Modify keep drop rename) ins n h = eqb-true n 1 h
by_kind (kind.Switch on cases reject) ins n h = eqb-true n (with_reject reject (length cases)) (first_so (n == with_reject reject (length cases)) (nat_le n 16) h)
by_kind (kind.Tsort key) ins n h = eqb-true n 1 h
by_kind (kind.Remdup key last) ins n h = eqb-true n 1 h
by_kind (kind.Group key hash results) ins n h = eqb-true n 1 h
by_kind (kind.InnerJoin key) ins n h = eqb-true n 1 h
by_kind (kind.LeftOuterJoin key) ins n h = eqb-true n 1 h
by_kind (kind.RightOuterJoin key) ins n h = eqb-true n 1 h
by_kind (kind.FullOuterJoin key) ins n h = eqb-true n 1 h
by_kind (kind.Merge key keepbad reject) ins n h = eqb-true n (if reject then ins else 1) h
by_kind (kind.Lookup key missing) ins n h = eqb-true n (with_reject (rejects missing) 1) h
by_kind (kind.Changecapture key values keepcopy) ins n h = eqb-true n 1 h
by_kind (kind.Funnel sequence sort) ins n h = eqb-true n 1 h

as_many : (flow : Flow) (o : ℕ) → HasNone (length flow.ops) (WrongPorts flow) → o < length flow.ops → length (links_from (chart_of flow []) o) ≡ outputs_at (chart_of flow []) o
as_many flow o none h =
    let k = (get_or flow.ops o no_op).kind in
    from_count flow o ∙ (by_kind k (count_in flow.links o) (count_out flow.links o) (has_ports flow o none h).1 ∙ ap₂ (λ ins outs. outputs_of k ins outs) (sym (into_count flow o)) (sym (from_count flow o)))

-- said of the flow alone, and then of the chart that has it
pub shaped_is_linked : ShapedIsLinked
shaped_is_linked flow dict c within numbered shape =
    let many : (o : ℕ) → o < length flow.ops → length (links_from (chart_of flow []) o) ≡ outputs_at (chart_of flow []) o = λ o h. as_many flow o shape.ports h in
    let plain : LinksOutputs (chart_of flow []) = record {
      as_many = many;
      each = λ o h out less. numbered.each o out (subst (λ n. out < n) (sym (many o h)) less);
      below = λ l h. subst (λ n. (link_at (chart_of flow []) l).out < n) (many (link_at (chart_of flow []) l).from (ends flow l within h).0) (numbered.below l h);
    } in
    let back : LinksOutputs (chart_of c.flow []) = subst (λ (f : Flow). LinksOutputs (chart_of f [])) (sym shape.same) plain in
    record { as_many = back.as_many; each = back.each; below = back.below }
