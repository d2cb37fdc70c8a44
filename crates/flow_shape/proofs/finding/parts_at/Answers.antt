use Rattle.std.proofs.Common.{◌≡◌, ap, ◌∙◌, get_or, map, subst, IfOk}
use Rattle.flow_graph.specs.declared.flow.OpSpec.{OpSpec}
use Rattle.flow_graph.specs.Charts.{no_op}
use Rattle.op_shape.specs.Options.{operator_parts}
use Rattle.flow_shape.specs.Refusals.{chart_of, inputs_at}
use Rattle.flow_shape.proofs.Given.{as_many, fed_at}
use Rattle.flow_shape.proofs.Sound.{own_none}
use Rattle.flow_shape.proofs.finding.parts_at.Goals as goal

pub operator_parts-requires-clause-fed : goal.operator_parts-requires-clause-fed
operator_parts-requires-clause-fed c =
    let fed = fed_at c.args.flow.now c.args.schemas.now c.args.op _ c.requires.known c.requires.ports c.requires.op (as_many (λ s. s.now) c.in_ok-ins.ins.items _ _ c.as_slice.ensures.value c.in_ok-ins.ensures) in
    rw c.op_at.ensures fed

pub operator_parts-requires-clause-sound : goal.operator_parts-requires-clause-sound
operator_parts-requires-clause-sound c =
    let none = own_none c.args.flow.now c.args.schemas.now c.args.op (map (λ s. s.now) c.as_slice.result.now) (ap (map (λ s. s.now)) c.as_slice.ensures.value ∙ c.in_ok-ins.ensures) c.requires.fit.sound in
    rw c.op_at.ensures none

pub returns : goal.returns
returns c =
    let k = (get_or c.args.flow.now.ops c.args.op no_op).kind in
    let ins = map (λ s. s.now) c.as_slice.result.now in
    let e : operator_parts c.op_at.result.now.kind ins ≡ operator_parts k (inputs_at (chart_of c.args.flow.now c.args.schemas.now) c.args.op) =
    ap (λ (s : OpSpec). operator_parts s.kind ins) c.op_at.ensures
    ∙ ap (operator_parts k) (ap (map (λ s. s.now)) c.as_slice.ensures.value ∙ c.in_ok-ins.ensures) in
    subst (λ x. IfOk c.operator_parts.result (λ parts. parts ≡ x)) e c.operator_parts.ensures
