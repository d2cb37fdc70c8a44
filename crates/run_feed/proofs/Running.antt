-- What a run over the rows of imports has.
use Rattle.std.proofs.Common.{◌≡◌, ◌-◌, ◌^◌, ◌++◌, ℕ, min, List, [], flat_map, get_or, length, None, sym, ap, ◌∙◌, subst}
use Rattle.std.specs.List.{AllByRecursion}
use Rattle.std.proofs.lemmas.List.Sorted.{IsPermutation-append_right}
use Rattle.op_base.specs.declared.fault.Fault.{Fault}
use Rattle.op_base.specs.Columns.{Row}
use Rattle.op_base.specs.Emits.{counted, least_of}
use Rattle.ds_port.specs.FileMap.{FileMap}
use Rattle.flow_files.specs.declared.tally.Tally.{Tally}
use Rattle.flow_files.specs.Tallies.{Grows}
use Rattle.flow_files.proofs.Growing.{further}
use Rattle.flow_graph.specs.declared.route.Choice.{Choice}
use Rattle.flow_graph.specs.declared.state.State.{State}
use Rattle.flow_graph.specs.Charts.{Chart, all_links}
use Rattle.flow_graph.specs.FlowShape.{IsShape}
use Rattle.flow_graph.specs.Operators.{Op}
use Rattle.flow_graph.specs.Runs.{Means}
use Rattle.flow_rules.specs.Exports.{input_of}
use Rattle.flow_rules.specs.declared.verdict.Verdict.TheVariants.{Accepted}
use Rattle.flow_rules.specs.Verdicts.{IsVerdict, nodes_of, infer_regains}
use Rattle.flow_shape.specs.Refusals.{all_ops, fields_at}
use Rattle.flow_sound.specs.Fitting.{RowsFit}
use Rattle.flow_sound.specs.Kinds.{AreOfKinds}
use Rattle.flow_sound.specs.Promise.{AcceptedRun, KeepsMeaning}
use Rattle.flow_sound.specs.Tallies.{faults_read}
use Rattle.flow_sound.proofs.Keeping.{run_keeps}
use Rattle.flow_sound.proofs.Meaning.{has_meaning}
use Rattle.flow_sound.proofs.Members.{below_range, same_map}
use Rattle.flow_sound.proofs.RowsFitting.{exports_fit}
use Rattle.list_run.specs.declared.ran.Ran.{Ran}
use Rattle.list_run.specs.Runnable.{IsRunOf, OpsAre, row_count, worked_faults}
use Rattle.run_feed.specs.Fed.{Fed, IsReady, SinksFit}
use Rattle.run_feed.specs.Sources.{CanFeed, Sourced}
use Rattle.run_feed.proofs.Sourcing.{ops_of_kinds}

sink_same : (c : Chart) (ran left : Ran) (o : ℕ) → left.sinks ≡ ran.sinks → get_or left.sinks o [] ≡ get_or ran.sinks o []
sink_same c ran left o e = ap (λ (sinks : List (List (List Row))). get_or sinks o []) e

accepted_run : (c : Chart) (choices : List Choice) (nodes : ℕ) (states : List State) (ops : ℕ → Op) (whole : ℕ → List Row) (ran : Ran) → IsShape c → IsReady c choices nodes → IsVerdict c (Accepted states choices) → AreOfKinds c ops
    → AllByRecursion (Means whole) (nodes_of c ops) → (i : IsRunOf c nodes ops ran) → AcceptedRun infer_regains c.flow [] c states choices ops whole i.run
accepted_run c choices nodes states ops whole ran s r v k m i = record { shaped = record { shape = s; shape_of = r.shape_of; kinds = k }; verdict = v; means = m; legal = i.legal }

-- `left` is what is left of what was run once its faults are taken out

pub sinks_fit : (c : Chart) (choices : List Choice) (nodes : ℕ) (sources : List (List Row)) (ran left : Ran) → IsShape c → IsReady c choices nodes → CanFeed c sources → ((ops : ℕ → Op) → OpsAre c sources ops → IsRunOf c nodes ops ran) → left.sinks ≡ ran.sinks → SinksFit c left
sinks_fit c choices nodes sources ran left s r f runs e o b x =
    let ops = f.kinds.0 in
    let m = has_meaning c ops s in
    let i = runs ops f.kinds.2 in
    let a = accepted_run c choices nodes r.states ops m.0 ran s r r.verdict f.kinds.1 m.1 i in
    subst (AllByRecursion (RowsFit (fields_at c (input_of c o)))) (sym (sink_same c ran left o e ∙ i.sinks o b x)) (exports_fit infer_regains c.flow [] c r.states choices ops m.0 i.run a o b x)

pub fed : (files : FileMap) (c : Chart) (choices : List Choice) (nodes : ℕ) (states : List State) (sources : List (List Row)) (ran left : Ran) (old mid new : Tally) → IsShape c → IsReady c choices nodes → IsVerdict c (Accepted states choices)
    → Sourced files c sources old mid → ((ops : ℕ → Op) → OpsAre c sources ops → IsRunOf c nodes ops ran) → left.counts ≡ ran.counts → left.sinks ≡ ran.sinks
    → ((more : List Fault) → ran.faults ≡ counted 0 (length more) → ran.least ≡ least_of None more → Grows mid new more) → Fed files c states choices left old new
fed files c choices nodes states sources ran left old mid new s r v t runs d e adds = record {
  ops = t.ops;
  whole = whole;
  run = i.run;
  meaning = record { ops_are = t.are; means = m.1 };
  accepted = a;
  counts = d ∙ i.counts ∙ same_map (λ l. row_count (i.run.sent l)) (λ l. min (length (whole l)) (2 ^ 63 - 1)) (all_links c) (λ l j. ap (λ n. min n (2 ^ 63 - 1)) (k.counts l (below_range (length c.flow.links) l j)));
  sinks = λ o b x. sink_same c ran left o e ∙ i.sinks o b x;
  grades = λ o b x. k.sinks o b x;
  found = read ++ i.faults.found;
  same = IsPermutation-append_right read i.faults.found (worked_faults c i.run) i.faults.same;
  tally = further old mid new read i.faults.found t.tally (adds i.faults.found i.faults.number i.faults.least);
}
  where
    m : (whole : ℕ → List Row) × AllByRecursion (Means whole) (nodes_of c t.ops)
    m = has_meaning c t.ops s

    whole : ℕ → List Row
    whole = m.0

    i : IsRunOf c nodes t.ops ran
    i = runs t.ops t.give

    a : AcceptedRun infer_regains c.flow [] c states choices t.ops m.0 i.run
    a = accepted_run c choices nodes states t.ops m.0 ran s r v (ops_of_kinds files c t.ops t.are) m.1 i

    k : KeepsMeaning c states t.ops m.0 i.run
    k = run_keeps infer_regains c.flow [] c states choices t.ops m.0 i.run a

    read : List Fault
    read = flat_map (faults_read c t.ops) (all_ops c)
