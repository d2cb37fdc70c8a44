-- A legal run of an accepted flow keeps what the flow means.
use Rattle.std.proofs.Common.{◌≡◌, ℕ, ◌<◌, Bool, List, [], ◌∷◌, map, get_or, refl, subst, length, IsPermutation, Option, None}
use Rattle.std.specs.List.{AllByRecursion, range_with_len}
use Rattle.op_base.specs.declared.fault.Fault.{Fault}
use Rattle.op_base.specs.Columns.{IsIn, Row}
use Rattle.op_base.specs.Lists.{joined}
use Rattle.op_base.specs.RowOperators.{RowRule, sink_rule}
use Rattle.flow_graph.specs.declared.op_kind.OpKind.{OpKind}
use Rattle.flow_graph.specs.declared.op_kind.OpKind.TheVariants as kind
use Rattle.flow_graph.specs.declared.parts.OpParts.{OpParts}
use Rattle.flow_graph.specs.declared.parts.Stored.{Stored}
use Rattle.flow_graph.specs.declared.route.Choice.{Choice}
use Rattle.flow_graph.specs.declared.state.State.{State}
use Rattle.flow_graph.specs.declared.flow.Flow.{Flow}
use Rattle.flow_graph.specs.Charts.{Chart, first_width, kind_form, link_at, links_into, op_at, parts_of, width_at}
use Rattle.flow_graph.specs.FlowShape.{FormPorts, IsShape}
use Rattle.flow_graph.specs.Forms.{form}
use Rattle.flow_graph.specs.Operators.{Op, by_row, faults}
use Rattle.flow_graph.specs.Runs.{InsertedFrom, Lists, Node, Out}
use Rattle.flow_rules.specs.Needs.{missed}
use Rattle.flow_rules.specs.Soundness.{Accepted as MissesNothing, Keeps, Sound}
use Rattle.flow_derive.specs.LinkStates.{state_at}
use Rattle.flow_rules.specs.Verdicts.{FormsAre, nodes_of}
use Rattle.flow_graph.specs.Parts.{Bag}
use Rattle.flow_rules.proofs.Acceptance.{needs_met}
use Rattle.flow_rules.proofs.Ends.{sink_meets}
use Rattle.flow_rules.proofs.FlowAll.{faults_all, flow_all}
use Rattle.flow_rules.proofs.LawProofs.{sinks_meet}
use Rattle.flow_rules.proofs.VerdictLaws.{accepted_derives, accepted_inserts, accepted_meets}
use Rattle.flow_rules.specs.Exports.{IsExport, input_of}
use Rattle.flow_sound.specs.Kinds.{IsOfKind}
use Rattle.flow_ops.specs.Kinds.{widths_into}
use Rattle.flow_sound.specs.Promise.{AcceptedRun, AcceptedRunsKeep, ShapedFlow, sort_at}
use Rattle.flow_sound.proofs.ByRow.{link_there, one_link}
use Rattle.flow_sound.proofs.Fitting.{forms_fit, operators_fit}
use Rattle.flow_sound.proofs.Members.{below_all, in_all}
use Rattle.flow_sound.proofs.Order.{goes_forward, is_from, node_has, out_has, producer_in}

pub run_sound : (regains : Bool) (flow : Flow) (dict : List Stored) (c : Chart) (states : List State) (choices : List Choice) (ops : ℕ → Op) (whole : ℕ → List Row) (run : Lists) → AcceptedRun regains flow dict c states choices ops whole run → Sound regains (nodes_of c ops) (width_at c) (sort_at c) (state_at states) whole run
run_sound regains flow dict c states choices ops whole run a = record {
  forward = goes_forward c ops s.shape;
  shaped = operators_fit flow dict c ops s;
  inserted = accepted_inserts c ops;
  derives = accepted_derives regains c states choices ops a.verdict forms;
  accepted = accepted_meets regains c states choices ops a.verdict (λ o i. (s.shape.ops o (below_all (length c.flow.ops) o c.order s.shape.order.once i)).ports) forms;
  means = a.means;
  runs = a.legal;
}
  where
    s : ShapedFlow flow dict c ops
    s = a.shaped

    forms : FormsAre c ops
    forms = forms_fit flow dict c ops s

-- an export, and the one link into it
pub export_is : (o : ℕ) (k : OpKind) (parts : OpParts) (widths : List ℕ) (op : Op) → IsExport k → IsOfKind o k parts widths op → (unwritable : Row → List Fault) × (op ≡ by_row (sink_rule unwritable))
export_is o (kind.Export file delim fixed) parts widths op e h = h
export_is o k parts widths op e h = absurd e

one_port : (k : OpKind) (parts : OpParts) (stored : Option Stored) (width n : ℕ) → IsExport k → FormPorts (kind_form k parts.keys parts.cols stored width) n → n ≡ 1
one_port (kind.Export file delim fixed) parts stored width n e h = h
one_port k parts stored width n e h = absurd e

pub into_export : (c : Chart) (o : ℕ) → IsShape c → o < length c.flow.ops → IsExport (op_at c o).kind → links_into c o ≡ input_of c o ∷ []
into_export c o s b e = one_link (links_into c o) (one_port (op_at c o).kind (parts_of c o) (get_or c.stored o None) (first_width c o) (length (links_into c o)) e (s.ops o b).inputs)

pub export_link : (c : Chart) (o : ℕ) → IsShape c → o < length c.flow.ops → IsExport (op_at c o).kind → input_of c o < length c.flow.links
export_link c o s b e = link_there c o (into_export c o s b e)

-- no sort but the one that an input needs, and no part of a need missed
abbrev AtInputs : Chart → List State → Op → List ℕ → Type 0
AtInputs c states op ls = InsertedFrom (sort_at c) op 0 ls × AllByRecursion (λ i. missed (form op) (map (state_at states) ls) i ≡ []) (range_with_len 0 (length ls))

-- what is known of a run of an accepted flow
pub run_links : (regains : Bool) (flow : Flow) (dict : List Stored) (c : Chart) (states : List State) (choices : List Choice) (ops : ℕ → Op) (whole : ℕ → List Row) (run : Lists) → AcceptedRun regains flow dict c states choices ops whole run → (l : ℕ) → l < length c.flow.links → Keeps (width_at c) (sort_at c) (state_at states) whole run l
run_links regains flow dict c states choices ops whole run a l b =
    out_has (λ (q : Out). Keeps (width_at c) (sort_at c) (state_at states) whole run q.link) c (link_at c l).from l
    (node_has (λ (n : Node). AllByRecursion (λ (q : Out). Keeps (width_at c) (sort_at c) (state_at states) whole run q.link) n.outs × IsPermutation (joined (run.failed n.number)) (faults n.op (map whole n.ins))) c ops (link_at c l).from
    (flow_all regains (nodes_of c ops) (width_at c) (sort_at c) (state_at states) whole run (run_sound regains flow dict c states choices ops whole run a)) (producer_in c a.shaped.shape l b)).0 (is_from c l b)

-- at an operator of one link by a rule, whose need is met
pub record Ruled (c : Chart) (states : List State) (whole : ℕ → List Row) (run : Lists) (o : ℕ) (rule : RowRule) : Type 0 where
  pub met : AtInputs c states (by_row rule) (input_of c o ∷ [])
  pub keeps : Keeps (width_at c) (sort_at c) (state_at states) whole run (input_of c o)

pub is_ruled : (regains : Bool) (flow : Flow) (dict : List Stored) (c : Chart) (states : List State) (choices : List Choice) (ops : ℕ → Op) (whole : ℕ → List Row) (run : Lists) → AcceptedRun regains flow dict c states choices ops whole run →
    (o : ℕ) → o < length c.flow.ops → (rule : RowRule) → ops o ≡ by_row rule → links_into c o ≡ input_of c o ∷ [] → Ruled c states whole run o rule
is_ruled regains flow dict c states choices ops whole run a o b rule is one = record { met = there; keeps = run_links regains flow dict c states choices ops whole run a (input_of c o) (link_there c o one) }
  where
    sound : Sound regains (nodes_of c ops) (width_at c) (sort_at c) (state_at states) whole run
    sound = run_sound regains flow dict c states choices ops whole run a

    member : IsIn o c.order
    member = in_all (length c.flow.ops) o c.order a.shaped.shape.order.once b

    here : AtInputs c states (ops o) (links_into c o)
    here = (node_has (λ (n : Node). InsertedFrom (sort_at c) n.op 0 n.ins) c ops o sound.inserted member, (node_has (MissesNothing regains (width_at c) (state_at states)) c ops o sound.accepted member).0)

    there : AtInputs c states (by_row rule) (input_of c o ∷ [])
    there = subst (AtInputs c states (by_row rule)) one (subst (λ p. AtInputs c states p (links_into c o)) is here)

-- all rows of the meaning come at it
ruled_bag : (c : Chart) (states : List State) (whole : ℕ → List Row) (run : Lists) (o : ℕ) (rule : RowRule) → Ruled c states whole run o rule → Bag (run.got (input_of c o)) (whole (input_of c o))
ruled_bag c states whole run o rule t = (sink_meets rule (width_at c) (sort_at c) (state_at states) whole run (input_of c o) t.met.0 (needs_met (by_row rule) (state_at states (input_of c o) ∷ []) refl tt t.met.1) t.keeps).0

pub export_bag : (regains : Bool) (flow : Flow) (dict : List Stored) (c : Chart) (states : List State) (choices : List Choice) (ops : ℕ → Op) (whole : ℕ → List Row) (run : Lists) → AcceptedRun regains flow dict c states choices ops whole run → (o : ℕ) → o < length c.flow.ops → IsExport (op_at c o).kind → Bag (run.got (input_of c o)) (whole (input_of c o))
export_bag regains flow dict c states choices ops whole run a o b e =
    let x = export_is o (op_at c o).kind (parts_of c o) (widths_into c o) (ops o) e (a.shaped.kinds o b) in
    ruled_bag c states whole run o (sink_rule x.0) (is_ruled regains flow dict c states choices ops whole run a o b (sink_rule x.0) x.1 (into_export c o a.shaped.shape b e))

pub run_keeps : AcceptedRunsKeep
run_keeps regains flow dict c states choices ops whole run a = record {
  links = run_links regains flow dict c states choices ops whole run a;
  counts = λ l b. (run_links regains flow dict c states choices ops whole run a l b).counted;
  faults = faults_all regains (nodes_of c ops) (width_at c) (sort_at c) (state_at states) whole run (run_sound regains flow dict c states choices ops whole run a);
  sinks = λ o b e.
      let x = export_is o (op_at c o).kind (parts_of c o) (widths_into c o) (ops o) e (a.shaped.kinds o b) in
      let t = is_ruled regains flow dict c states choices ops whole run a o b (sink_rule x.0) x.1 (into_export c o a.shaped.shape b e) in
      sinks_meet (sink_rule x.0) (width_at c) (sort_at c) (state_at states) whole run (input_of c o) t.met.0 t.met.1.0 t.keeps;
}
