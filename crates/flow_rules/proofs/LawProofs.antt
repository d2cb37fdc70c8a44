-- The laws as they are stated, from the lemmas on each operator, route and flow.
use Rattle.std.proofs.Common.{◌≡◌, ◌≢◌, ℕ, ◌<◌, Bool, true, cond, List, [], ◌∷◌, map, refl, sym, subst, length, Option, Some, None, IsPermutation}
use Rattle.std.specs.List.{AllByRecursion}
use Rattle.op_base.specs.Columns.{Row, all_columns, lies}
use Rattle.op_base.specs.Lists.{joined}
use Rattle.flow_graph.specs.declared.route.Route.{Route}
use Rattle.flow_graph.specs.Grades.{set_grade, agree_grade, Meets}
use Rattle.flow_graph.specs.Operators.{Op, by_row, faults}
use Rattle.flow_graph.specs.Parts.{Bag}
use Rattle.flow_graph.specs.Runs.{Out, Node}
use Rattle.flow_graph.specs.States.{AgreeIf}
use Rattle.flow_rules.specs.Laws.{OperatorHolds, FaultsAgree, RouteHolds, SinksMeet, OneMeaning}
use Rattle.flow_rules.proofs.Acceptance.{needs_met, route_met}
use Rattle.flow_rules.proofs.Ends.{one_meaning_all, sink_meets}
use Rattle.flow_rules.proofs.FeedOps.{gives_meant, faults_meant}
use Rattle.flow_rules.proofs.NeedTypes.{Needs}
use Rattle.flow_rules.proofs.OpHolds.{op_holds, op_faults}
use Rattle.flow_rules.proofs.RouteOps.{route_holds}

pub operator_holds : (op : Op) → OperatorHolds op
operator_holds op ins outs states degree inputs wholes s q sent port g =
    let needs : Needs op states = needs_met op states s.ports s.distinct s.accepted in
    op_holds op q ins outs states degree inputs wholes sent s.shaped port needs s.degree_fits s.some s.wide s.hold s.degrees (gives_meant op q ins outs states degree inputs wholes sent s.shaped needs s.hold g)

pub faults_agree : FaultsAgree
faults_agree op ins outs states degree inputs wholes s =
    let needs : Needs op states = needs_met op states s.ports s.distinct s.accepted in
    subst (λ fs. IsPermutation (joined fs) (faults op wholes)) (sym (faults_meant op ins outs states degree inputs wholes s.shaped needs s.hold))
    (op_faults op ins outs states degree inputs wholes s.shaped needs s.degree_fits s.some s.hold s.degrees)

pub route_keeps : (seq : Bool) (r : Route) → RouteHolds seq r
route_keeps seq r s parts got whole missed plain some h a = route_holds seq r s parts got whole (route_met r s missed) plain some h a

-- from what an agree set promises to its grade
graded : (width : ℕ) (agree : Option (List ℕ)) (parts : List (List Row)) (whole : List Row) → Bag parts whole → AgreeIf agree parts whole → Meets (agree_grade width agree) parts whole
graded width None parts whole b a = b
graded width (Some []) parts whole b a = a
graded width (Some (c ∷ G)) parts whole b a = go (lies (all_columns width) (c ∷ G))
  where
    go : (all : Bool) → Meets (cond all Rattle.flow_graph.specs.Grades.bag (Rattle.flow_graph.specs.Grades.by (c ∷ G))) parts whole
    go true = b
    go Rattle.std.proofs.Common.false = a

pub sinks_meet : SinksMeet
sinks_meet rule width sorts state whole run l i e k =
    let n : Needs (by_row rule) (state l ∷ []) = needs_met (by_row rule) (state l ∷ []) refl tt (e, tt) in
    let m = sink_meets rule width sorts state whole run l i n k in
    graded (width l) (state l).agree (run.got l) (whole l) m.0 m.1

pub one_meaning : OneMeaning
one_meaning nodes v w f h k = go nodes (one_meaning_all nodes v w f h k)
  where
    go : (ns : List Node) → AllByRecursion (λ (n : Node). AllByRecursion (λ (o : Out). v o.link ≡ w o.link) n.outs × Unit {0}) ns → AllByRecursion (λ (n : Node). AllByRecursion (λ (o : Out). v o.link ≡ w o.link) n.outs) ns
    go [] e = tt
    go (n ∷ ns) e = (e.0.0, go ns e.1)
