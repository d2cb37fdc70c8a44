-- What a sink gets, and that a flow has one meaning.
use Rattle.std.proofs.Common.{List, None, Option, ap, ap₂, inl, inr, map, refl, subst, sym, ℕ, ◌≡◌, ◌⊎◌, ◌∷◌, ◌∙◌, []}
use Rattle.std.specs.List.{AllByRecursion}
use Rattle.ds_schema.specs.declared.key.Key.{Key}
use Rattle.flow_graph.specs.Operators.{Op, by_row, result}
use Rattle.flow_graph.specs.Parts.{Bag}
use Rattle.flow_graph.specs.Runs.{Forward, InsertedFrom, Lists, Means, Node, Out, arranged_if}
use Rattle.flow_graph.specs.States.{AgreeIf, Common}
use Rattle.flow_graph.specs.declared.state.State.{State}
use Rattle.flow_rules.specs.Soundness.{Keeps}
use Rattle.op_base.specs.Columns.{Row}
use Rattle.op_base.specs.RowOperators.{RowRule}
use Rattle.flow_graph.proofs.StateLaws.{holds_plain}
use Rattle.flow_rules.proofs.FlowAll.{along_all}
use Rattle.flow_rules.proofs.NeedTypes.{NotEntire}

-- A sink whose need is met gets what its state says of the meaning itself, since no sort stands before it.
pub sink_meets : (rule : RowRule) (width : ℕ → ℕ) (sorts : ℕ → Option (List Key)) (state : ℕ → State) (whole : ℕ → List Row) (run : Lists) (l : ℕ) → InsertedFrom sorts (by_row rule) 0 (l ∷ []) → NotEntire (state l) → Keeps width sorts state whole run l → Bag (run.got l) (whole l) × AgreeIf (state l).agree (run.got l) (whole l)
sink_meets rule width sorts state whole run l i n k = (common.bag, common.agree)
  where
    unsorted : ((sorts l ≡ None) ⊎ (sorts l ≡ None)) → arranged_if (sorts l) (whole l) ≡ whole l
    unsorted (inl e) = ap (λ o. arranged_if o (whole l)) e
    unsorted (inr e) = ap (λ o. arranged_if o (whole l)) e

    common : Common (state l) (run.got l) (whole l)
    common = subst (Common (state l) (run.got l)) (unsorted i.0) (holds_plain (state l).place (state l) (run.got l) (arranged_if (sorts l) (whole l)) n k.holds).0

same_map : (v w : ℕ → List Row) (ins : List ℕ) → AllByRecursion (λ l. v l ≡ w l) ins → map v ins ≡ map w ins
same_map v w [] h = refl
same_map v w (l ∷ ins) h = ap₂ (λ a b. a ∷ b) h.0 (same_map v w ins h.1)

both_mean : (v w : ℕ → List Row) (nodes : List Node) → AllByRecursion (Means v) nodes → AllByRecursion (Means w) nodes → AllByRecursion (λ (n : Node). Means v n × Means w n) nodes
both_mean v w [] h k = tt
both_mean v w (n ∷ nodes) h k = ((h.0, k.0), both_mean v w nodes h.1 k.1)

same_outs : (v w : ℕ → List Row) (op : Op) (xs ys : List (List Row)) → xs ≡ ys → (outs : List Out) → AllByRecursion (λ (o : Out). v o.link ≡ result op o.port xs) outs → AllByRecursion (λ (o : Out). w o.link ≡ result op o.port ys) outs → AllByRecursion (λ (o : Out). v o.link ≡ w o.link) outs
same_outs v w op xs ys e [] h k = tt
same_outs v w op xs ys e (o ∷ outs) h k = (h.0 ∙ ap (result op o.port) e ∙ sym k.0, same_outs v w op xs ys e outs h.1 k.1)

-- A flow has one meaning.
pub one_meaning_all : (nodes : List Node) (v w : ℕ → List Row) → Forward [] nodes → AllByRecursion (Means v) nodes → AllByRecursion (Means w) nodes → AllByRecursion (λ (n : Node). AllByRecursion (λ (o : Out). v o.link ≡ w o.link) n.outs × Unit {0}) nodes
one_meaning_all nodes v w f h k = along_all (λ l. v l ≡ w l) (λ (n : Node). Means v n × Means w n) (λ n. Unit {0}) (λ n q e. (same_outs v w n.op (map v n.ins) (map w n.ins) (same_map v w n.ins e) n.outs q.0 q.1, tt)) nodes [] (λ l i. absurd i) f (both_mean v w nodes h k)
