use Rattle.std.proofs.Common.{◌≡◌, ◌++◌, Some, None, IfOk, refl, ap, ◌∙◌, subst, get_or, length, map}
use Rattle.std.proofs.lemmas.List.{length-map}
use Rattle.flow_graph.specs.Charts.{no_op}
use Rattle.flow_graph.specs.declared.flow.OpSpec.{OpSpec}
use Rattle.shape_base.specs.Causes.{first_cause}
use Rattle.op_shape.specs.Options.{option_causes, output_causes}
use Rattle.flow_shape.specs.Refusals.{chart_of, operator_cause}
use Rattle.flow_shape.proofs.Causing.{known_at, cause_parts}
use Rattle.flow_shape.proofs.Given.{as_many, fed_at}
use Rattle.flow_shape.proofs.operator.operator_cause.Goals as goal

pub own_cause-requires-clause-known : goal.own_cause-requires-clause-known
own_cause-requires-clause-known c = let k = known_at c.args.flow.now c.args.op c.requires.known c.requires.op in rw c.op_at.ensures k

pub own_cause-requires-clause-fed : goal.own_cause-requires-clause-fed
own_cause-requires-clause-fed c =
    let fed = fed_at c.args.flow.now c.args.schemas.now c.args.op _ c.requires.known c.requires.ports c.requires.op (as_many (λ s. s.now) c.in_ok-ins-in-None.ins.items _ _ c.as_slice.ensures.value c.in_ok-ins-in-None.ensures) in
    rw c.op_at.ensures fed

pub returns-in-Some : goal.returns-in-Some
returns-in-Some c = cause_parts c.args.flow.now c.args.schemas.now c.args.op (Some c.in-Some.why) _ _ c.in-Some.ensures refl refl

pub returns-in_ok-ins-in-None : goal.returns-in_ok-ins-in-None
returns-in_ok-ins-in-None c =
    let k = (get_or c.args.flow.now.ops c.args.op no_op).kind in
    let ins = map (λ s. s.now) c.as_slice.result.now in
    let e : first_cause (option_causes c.op_at.result.now.kind ins ++ output_causes c.op_at.result.now.kind ins) ≡ operator_cause (chart_of c.args.flow.now c.args.schemas.now) c.args.op =
    ap (λ (s : OpSpec). first_cause (option_causes s.kind ins ++ output_causes s.kind ins)) c.op_at.ensures
    ∙ cause_parts c.args.flow.now c.args.schemas.now c.args.op None (first_cause (option_causes k ins ++ output_causes k ins)) ins
    c.in-None.ensures (ap (map (λ s. s.now)) c.as_slice.ensures.value ∙ c.in_ok-ins-in-None.ensures) refl in
    subst (λ x. IfOk c.own_cause.result (λ cause. cause ≡ x)) e c.own_cause.ensures
