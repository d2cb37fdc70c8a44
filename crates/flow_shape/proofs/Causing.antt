-- The first cause at an operator, by those at its inputs and its own.
use Rattle.std.proofs.Common.{◌≡◌, ◌<◌, ◌++◌, ◌∷◌, [], ℕ, zero, suc, List, Option, refl, sym, ap, ◌∙◌, arith, length, get_or, map}
use Rattle.std.specs.List.{AllByRecursion}
use Rattle.ds_schema.specs.declared.schema.Field.{Field}
use Rattle.flow_graph.specs.Charts.{no_op, links_into}
use Rattle.flow_graph.specs.declared.flow.Flow.{Flow}
use Rattle.flow_graph.specs.declared.flow.OpSpec.{OpSpec}
use Rattle.flow_graph.specs.declared.op_kind.OpKind.{OpKind}
use Rattle.flow_graph.specs.declared.op_kind.OpKind.TheVariants as kind
use Rattle.shape_base.specs.declared.fault.ShapeWhy.{ShapeWhy}
use Rattle.shape_base.specs.Causes.{first_cause}
use Rattle.op_shape.specs.Options.{IsKnown, option_causes, output_causes}
use Rattle.flow_shape.specs.Refusals.{HasOnlyKnown, chart_of, inputs_at, input_cause, operator_cause}
use Rattle.shape_base.proofs.Firsts.{or_else, first_both}

pub all_at : {X : Type 0} (P : X → Type 0) (xs : List X) (i : ℕ) (d : X) → AllByRecursion P xs → i < length xs → P (get_or xs i d)
all_at P [] i d a h = absurd (omega arith)
all_at P (x ∷ xs) zero d a h = a.0
all_at P (x ∷ xs) (suc i) d a h = all_at P xs i d a.1 (omega arith)

pub known_at : (flow : Flow) (o : ℕ) → HasOnlyKnown flow → o < length flow.ops → IsKnown (get_or flow.ops o no_op).kind
known_at flow o a h = all_at (λ (s : OpSpec). IsKnown s.kind) flow.ops o no_op a h

pub cause_parts : (flow : Flow) (schemas : List (List Field)) (o : ℕ) (inputs own : Option ShapeWhy) (ins : List (List Field))
    → inputs ≡ first_cause (map (input_cause (chart_of flow schemas) o) (links_into (chart_of flow schemas) o))
    → ins ≡ inputs_at (chart_of flow schemas) o
    → own ≡ first_cause (option_causes (get_or flow.ops o no_op).kind ins ++ output_causes (get_or flow.ops o no_op).kind ins)
    → or_else inputs own ≡ operator_cause (chart_of flow schemas) o
cause_parts flow schemas o inputs own ins e f g =
    let k = (get_or flow.ops o no_op).kind in
    let mine = g ∙ ap (λ x. first_cause (option_causes k x ++ output_causes k x)) f in
    let all = inputs_at (chart_of flow schemas) o in
    ap (λ x. or_else x own) e ∙ (ap (or_else (first_cause (map (input_cause (chart_of flow schemas) o) (links_into (chart_of flow schemas) o)))) mine
    ∙ sym (first_both (map (input_cause (chart_of flow schemas) o) (links_into (chart_of flow schemas) o)) (option_causes k all ++ output_causes k all)))
