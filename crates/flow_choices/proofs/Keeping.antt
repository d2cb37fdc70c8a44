-- A legal run by accepted choices keeps what the flow means.
use Rattle.std.proofs.Common.{◌≡◌, ℕ, ◌<◌, Bool, List, [], ◌∷◌, ◌++◌, map, refl, ap, subst, length, IsPermutation}
use Rattle.std.specs.List.{AllByRecursion, range_with_len, flat_map}
use Rattle.op_base.specs.declared.fault.Fault.{Fault}
use Rattle.op_base.specs.Columns.{IsIn, Row}
use Rattle.op_base.specs.Lists.{joined}
use Rattle.op_base.specs.RowOperators.{RowRule, sink_rule}
use Rattle.flow_graph.specs.declared.flow.Flow.{Flow}
use Rattle.flow_graph.specs.declared.parts.Stored.{Stored}
use Rattle.flow_graph.specs.declared.route.Choice.{Choice}
use Rattle.flow_graph.specs.declared.state.State.{State}
use Rattle.flow_graph.specs.Charts.{Chart, link_at, links_into, links_from, op_at, parts_of, width_at}
use Rattle.flow_graph.specs.Forms.{form}
use Rattle.flow_graph.specs.Operators.{Op, by_row, faults}
use Rattle.flow_graph.specs.Runs.{InsertedFrom, Lists, Node, Out, run_faults, meant_faults}
use Rattle.flow_derive.specs.LinkStates.{state_at}
use Rattle.flow_ops.specs.Kinds.{widths_into}
use Rattle.flow_rules.specs.Needs.{missed}
use Rattle.flow_rules.specs.Soundness.{Accepted as MissesNothing, Keeps, Sound}
use Rattle.flow_rules.specs.Exports.{IsExport, input_of}
use Rattle.flow_rules.specs.Verdicts.{FormsAre, node_at, nodes_of}
use Rattle.flow_rules.proofs.FlowAll.{faults_all, flow_all}
use Rattle.flow_rules.proofs.LawProofs.{sinks_meet}
use Rattle.flow_score.specs.Scores.{choice_of}
use Rattle.flow_sound.specs.Promise.{ShapedFlow}
use Rattle.flow_sound.proofs.ByRow.{link_there}
use Rattle.flow_sound.proofs.Fitting.{forms_fit, operators_fit}
use Rattle.flow_sound.proofs.Keeping.{export_is, into_export}
use Rattle.flow_sound.proofs.Members.{below_all, in_all, of_mapped}
use Rattle.flow_sound.proofs.Order.{is_from, producer_in}
use Rattle.flow_plan.specs.Planned.{out_by, node_by, nodes_by}
use Rattle.flow_choices.specs.Choices.{sort_by}
use Rattle.flow_choices.specs.Kept.{AcceptedRunBy, AcceptedRunsKeepBy}
use Rattle.flow_choices.proofs.Accepted.{means_by, shaped_by, forward_by, inserted_by, derives_by, meets_by}

-- faults don't tell of choices
run_faults_by : (c : Chart) (choice : ℕ → Choice) (ops : ℕ → Op) (run : Lists) (order : List ℕ) → run_faults run (map (node_by c choice ops) order) ≡ run_faults run (map (node_at c ops) order)
run_faults_by c choice ops run [] = refl
run_faults_by c choice ops run (o ∷ order) = ap (λ rest. joined (run.failed o) ++ rest) (run_faults_by c choice ops run order)

meant_faults_by : (c : Chart) (choice : ℕ → Choice) (ops : ℕ → Op) (whole : ℕ → List Row) (order : List ℕ) → meant_faults whole (map (node_by c choice ops) order) ≡ meant_faults whole (map (node_at c ops) order)
meant_faults_by c choice ops whole [] = refl
meant_faults_by c choice ops whole (o ∷ order) = ap (λ rest. faults (ops o) (map whole (links_into c o)) ++ rest) (meant_faults_by c choice ops whole order)

module _ (regains : Bool) (flow : Flow) (dict : List Stored) (c : Chart) (states : List State) (choices : List Choice) (ops : ℕ → Op) (whole : ℕ → List Row) (run : Lists) (a : AcceptedRunBy regains flow dict c states choices ops whole run) where
  abbrev nodes : List Node
  nodes = nodes_by c (choice_of choices) ops

  run_sound : Sound regains nodes (width_at c) (sort_by choices) (state_at states) whole run
  run_sound =
      let s : ShapedFlow flow dict c ops = a.shaped in
      let forms : FormsAre c ops = forms_fit flow dict c ops s in
      let ports = λ (o : ℕ) (i : IsIn o c.order). (s.shape.ops o (below_all (length c.flow.ops) o c.order s.shape.order.once i)).ports in
      record {
        forward = forward_by c (choice_of choices) ops s.shape;
        shaped = shaped_by c choices ops a.accepted.choices_are (operators_fit flow dict c ops s);
        inserted = inserted_by regains c states choices ops a.accepted.choices_are ports forms;
        derives = derives_by regains c states choices ops a.accepted.states_are forms;
        accepted = meets_by regains c states choices ops a.accepted ports forms;
        means = means_by c (choice_of choices) ops whole a.means;
        runs = a.legal;
      }

  run_links : (l : ℕ) → l < length c.flow.links → Keeps (width_at c) (sort_by choices) (state_at states) whole run l
  run_links l b =
      of_mapped (λ (q : Out). Keeps (width_at c) (sort_by choices) (state_at states) whole run q.link) (out_by c (choice_of choices)) l (links_from c (link_at c l).from)
      (of_mapped (λ (n : Node). AllByRecursion (λ (q : Out). Keeps (width_at c) (sort_by choices) (state_at states) whole run q.link) n.outs × IsPermutation (joined (run.failed n.number)) (faults n.op (map whole n.ins))) (node_by c (choice_of choices) ops) (link_at c l).from c.order
      (flow_all regains nodes (width_at c) (sort_by choices) (state_at states) whole run run_sound) (producer_in c a.shaped.shape l b)).0 (is_from c l b)

  -- no sort but the one that an input needs, and no part of a need missed
  abbrev AtInputs : Op → List ℕ → Type 0
  AtInputs op ls = InsertedFrom (sort_by choices) op 0 ls × AllByRecursion (λ i. missed (form op) (map (state_at states) ls) i ≡ []) (range_with_len 0 (length ls))

  at_inputs : (o : ℕ) → o < length c.flow.ops → AtInputs (ops o) (links_into c o)
  at_inputs o b =
      let there = in_all (length c.flow.ops) o c.order a.shaped.shape.order.once b in (
        of_mapped (λ (n : Node). InsertedFrom (sort_by choices) n.op 0 n.ins) (node_by c (choice_of choices) ops) o c.order run_sound.inserted there,
        (of_mapped (MissesNothing regains (width_at c) (state_at states)) (node_by c (choice_of choices) ops) o c.order run_sound.accepted there).0,
      )

pub runs_keep_by : AcceptedRunsKeepBy
runs_keep_by regains flow dict c states choices ops whole run a = record {
  links = run_links regains flow dict c states choices ops whole run a;
  counts = λ l b. (run_links regains flow dict c states choices ops whole run a l b).counted;
  faults = subst (λ fs. IsPermutation fs (meant_faults whole (nodes_of c ops))) (run_faults_by c (choice_of choices) ops run c.order)
      (subst (IsPermutation (run_faults run (nodes_by c (choice_of choices) ops))) (meant_faults_by c (choice_of choices) ops whole c.order)
      (faults_all regains (nodes_by c (choice_of choices) ops) (width_at c) (sort_by choices) (state_at states) whole run (run_sound regains flow dict c states choices ops whole run a)));
  sinks = λ o b e.
      let x = export_is o (op_at c o).kind (parts_of c o) (widths_into c o) (ops o) e (a.shaped.kinds o b) in
      let one : links_into c o ≡ input_of c o ∷ [] = into_export c o a.shaped.shape b e in
      let met = subst (AtInputs regains flow dict c states choices ops whole run a (by_row (sink_rule x.0))) one (subst (λ (p : Op). AtInputs regains flow dict c states choices ops whole run a p (links_into c o)) x.1 (at_inputs regains flow dict c states choices ops whole run a o b)) in
      sinks_meet (sink_rule x.0) (width_at c) (sort_by choices) (state_at states) whole run (input_of c o) met.0 met.1.0 (run_links regains flow dict c states choices ops whole run a (input_of c o) (link_there c o one));
}
