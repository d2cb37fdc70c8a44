use Rattle.std.proofs.Common.{◌≡◌, ◌<◌, None, ap, ◌∙◌, sym, get_or, length, map, subst, IfOk}
use Rattle.flow_graph.specs.declared.flow.LinkSpec.{LinkSpec}
use Rattle.flow_graph.specs.declared.flow.OpSpec.{OpSpec}
use Rattle.flow_graph.specs.Charts.{no_link, no_op}
use Rattle.op_shape.specs.Options.{OptionsStand}
use Rattle.flow_shape.specs.Refusals.{chart_of, operator_cause}
use Rattle.flow_shape.proofs.Causing.{all_at, known_at}
use Rattle.flow_shape.proofs.Given.{as_many, ends, fed_at, given_same}
use Rattle.flow_shape.proofs.Sound.{own_none}
use Rattle.flow_shape.proofs.outputs.given_schema.Goals as goal

pub op_at-requires : goal.op_at-requires
op_at-requires c = let within = (ends c.args.flow.now c.args.link c.requires.within c.requires.link).0 in rw c.link_at-spec.ensures within

pub output_schema-requires-clause-known : goal.output_schema-requires-clause-known
output_schema-requires-clause-known c =
    let link = c.link_at-spec.result.now in
    let within : link.from < length c.args.flow.now.ops = subst (λ (l : LinkSpec). l.from < length c.args.flow.now.ops) (sym c.link_at-spec.ensures) (ends c.args.flow.now c.args.link c.requires.within c.requires.link).0 in
    let known = known_at c.args.flow.now link.from c.requires.known within in
    rw c.op_at.ensures known

pub output_schema-requires-clause-fed : goal.output_schema-requires-clause-fed
output_schema-requires-clause-fed c =
    let link = c.link_at-spec.result.now in
    let within : link.from < length c.args.flow.now.ops = subst (λ (l : LinkSpec). l.from < length c.args.flow.now.ops) (sym c.link_at-spec.ensures) (ends c.args.flow.now c.args.link c.requires.within c.requires.link).0 in
    let fed = fed_at c.args.flow.now c.args.schemas.now link.from _ c.requires.known c.requires.ports within (as_many (λ s. s.now) c.in_ok-ins.ins.items _ _ c.as_slice.ensures.value c.in_ok-ins.ensures) in
    rw c.op_at.ensures fed

pub output_schema-requires-clause-sound : goal.output_schema-requires-clause-sound
output_schema-requires-clause-sound c =
    let link = c.link_at-spec.result.now in
    let sound = subst (λ (l : LinkSpec). operator_cause (chart_of c.args.flow.now c.args.schemas.now) l.from ≡ None) (sym c.link_at-spec.ensures) c.requires.sound in
    let none = own_none c.args.flow.now c.args.schemas.now link.from (map (λ s. s.now) c.as_slice.result.now) (ap (map (λ s. s.now)) c.as_slice.ensures.value ∙ c.in_ok-ins.ensures) sound in
    rw c.op_at.ensures none

pub output_schema-requires-clause-stand : goal.output_schema-requires-clause-stand
output_schema-requires-clause-stand c =
    let link = c.link_at-spec.result.now in
    let within : link.from < length c.args.flow.now.ops = subst (λ (l : LinkSpec). l.from < length c.args.flow.now.ops) (sym c.link_at-spec.ensures) (ends c.args.flow.now c.args.link c.requires.within c.requires.link).0 in
    let stand = all_at (λ (s : OpSpec). OptionsStand s.kind) c.args.flow.now.ops link.from no_op c.requires.options within in
    rw c.op_at.ensures stand

pub returns : goal.returns
returns c =
    let e = given_same c.args.flow.now c.args.schemas.now c.args.link c.op_at.result.now c.link_at-spec.result.now (map (λ s. s.now) c.as_slice.result.now) c.link_at-spec.ensures c.op_at.ensures (ap (map (λ s. s.now)) c.as_slice.ensures.value ∙ c.in_ok-ins.ensures) in
    subst (λ x. IfOk c.output_schema.result (λ schema. schema ≡ x)) e c.output_schema.ensures
