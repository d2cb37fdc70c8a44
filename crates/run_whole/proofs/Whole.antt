-- From what a run is fed with to its end.
use Rattle.std.proofs.Common.{◌≡◌, ◌≤◌, inl, inr, ℕ, Bool, List, [], length, sym, ap, ◌∙◌, subst, append-nil}
use Rattle.std.proofs.lemmas.List.FromFn.{length-map-range_with_len}
use Rattle.ds_port.specs.Causes.{Rose}
use Rattle.ds_port.specs.FileMap.{FileMap}
use Rattle.flow_files.specs.declared.tally.Tally.{Tally}
use Rattle.flow_files.specs.Tallies.{Tallies}
use Rattle.flow_graph.specs.declared.route.Choice.{Choice}
use Rattle.flow_graph.specs.declared.state.State.{State}
use Rattle.flow_graph.specs.Charts.{Chart}
use Rattle.flow_graph.specs.FlowShape.{IsShape}
use Rattle.flow_rules.specs.declared.verdict.Verdict.{Verdict}
use Rattle.flow_rules.specs.declared.verdict.Verdict.TheVariants.{Accepted, Refused}
use Rattle.flow_derive.specs.LinkStates.{choice_at}
use Rattle.flow_rules.specs.Verdicts.{IsVerdictBy}
use Rattle.flow_score.specs.VerdictText.{IsOf}
use Rattle.flow_sound.specs.Tallies.{faults_before}
use Rattle.list_run.specs.declared.ran.Ran.{Ran}
use Rattle.osh_ends.specs.Ends.{End, RunsTo}
use Rattle.osh_ends.specs.Leaves.{Broke}
use Rattle.run_feed.specs.Fed.{Fed, IsReady, SinksFit}
use Rattle.run_feed.proofs.Forms.{forms_suit}
use Rattle.run_finish.specs.declared.ending.Ending.{Ending}
use Rattle.run_finish.specs.declared.ending.Ending.TheVariants as ending
use Rattle.run_finish.specs.Finished.{Ends, IsRun}
use Rattle.run_finish.specs.Written.{CanWriteAll}
use Rattle.run_finish.proofs.Closing.{rose_later, tallies_permuted}
use Rattle.run_finish.proofs.Exporting.{can_write_all}

pub is_of : (regains : Bool) (c : Chart) (v : Verdict) → IsVerdictBy regains c v → IsOf c v
is_of regains c (Accepted states choices) h = h.states_are.each
is_of regains c (Refused link need have) h = h.in_range

pub each_choice : (c : Chart) (choices : List Choice) (nodes : ℕ) → IsReady c choices nodes → length choices ≡ length c.flow.links
each_choice c choices nodes r = ap length r.verdict.choices_are ∙ length-map-range_with_len (choice_at c) 0 (length c.flow.links)

pub can_write : (c : Chart) (choices : List Choice) (nodes : ℕ) (ran : Ran) → IsShape c → IsReady c choices nodes → SinksFit c ran → CanWriteAll c ran.sinks
can_write c choices nodes ran s r fit = can_write_all c ran.sinks (forms_suit c s r.shape_of r.forms) fit

-- what was fed, where nothing was tallied before
pub is_run : (files : FileMap) (c : Chart) (states : List State) (choices : List Choice) (ran : Ran) (old new : Tally) → Tallies [] old → Fed files c states choices ran old new → IsRun files c states choices ran new
is_run files c states choices ran old new t f = record {
  ops = f.ops;
  whole = f.whole;
  run = f.run;
  meaning = f.meaning;
  accepted = f.accepted;
  counts = f.counts;
  sinks = f.sinks;
  grades = f.grades;
  tally = tallies_permuted f.found (faults_before c f.ops f.run.failed) new f.same (f.tally [] t);
}

-- what broke, where a count that rose later rose
broke_from : (Comes : End → Type 0) (old new : FileMap) (tells : Bool) (out_old out_new : List ℕ) (mid_rose files_rose out_rose : Type 0) → (mid_rose → files_rose) → Broke Comes old new tells out_old out_new mid_rose out_rose → Broke Comes old new tells out_old out_new files_rose out_rose
broke_from Comes old new tells out_old out_new mid_rose files_rose out_rose f (inl (l, r)) = inl (l, f r)
broke_from Comes old new tells out_old out_new mid_rose files_rose out_rose f (inr (inl b)) = inr (inl (b.0, b.1, b.2, b.3, b.4, b.5, b.6, f b.7))
broke_from Comes old new tells out_old out_new mid_rose files_rose out_rose f (inr (inr b)) = inr (inr b)

ends_later : (old new : FileMap) (c : Chart) (nodes : ℕ) (states : List State) (choices : List Choice) (tells : Bool) (out_old out_new : List ℕ) (mid_rose files_rose out_rose : Type 0) (e : Ending) → (mid_rose → files_rose)
    → Ends old new c nodes states choices tells out_old out_new mid_rose out_rose e → Ends old new c nodes states choices tells out_old out_new files_rose out_rose e
ends_later old new c nodes states choices tells out_old out_new mid_rose files_rose out_rose ending.Done f d = d
ends_later old new c nodes states choices tells out_old out_new mid_rose files_rose out_rose ending.Faulty f d = d
ends_later old new c nodes states choices tells out_old out_new mid_rose files_rose out_rose ending.Device f d = broke_from (RunsTo old c nodes states choices) old new tells out_old out_new mid_rose files_rose out_rose f d
ends_later old new c nodes states choices tells out_old out_new mid_rose files_rose out_rose ending.Memory f d = d

-- the end of a run whose lists were made of the same files
pub ends_from : (old mid new : FileMap) (c : Chart) (nodes : ℕ) (states : List State) (choices : List Choice) (tells : Bool) (out_old out_new : List ℕ) (faults_old faults_mid faults_new : ℕ) (out_rose : Type 0) (e : Ending) → mid ≡ old → faults_old ≤ faults_mid
    → Ends mid new c nodes states choices tells out_old out_new (Rose faults_mid faults_new) out_rose e → Ends old new c nodes states choices tells out_old out_new (Rose faults_old faults_new) out_rose e
ends_from old mid new c nodes states choices tells out_old out_new faults_old faults_mid faults_new out_rose e same later d =
    ends_later old new c nodes states choices tells out_old out_new (Rose faults_mid faults_new) (Rose faults_old faults_new) out_rose e (rose_later faults_old faults_mid faults_new later)
    (subst (λ m. Ends m new c nodes states choices tells out_old out_new (Rose faults_mid faults_new) out_rose e) same d)

-- a device failed before anything was left, or memory was wanting
pub broke_early : (old new : FileMap) (c : Chart) (nodes : ℕ) (states : List State) (choices : List Choice) (tells : Bool) (out : List ℕ) (files_rose out_rose : Type 0) → new ≡ old → files_rose → Ends old new c nodes states choices tells out out files_rose out_rose ending.Device
broke_early old new c nodes states choices tells out files_rose out_rose same r = inl (record { files_are = same; out = λ t. sym (append-nil out) }, r)

pub wanted_memory : (old new : FileMap) (c : Chart) (nodes : ℕ) (states : List State) (choices : List Choice) (tells : Bool) (out : List ℕ) (files_rose out_rose : Type 0) → new ≡ old → Ends old new c nodes states choices tells out out files_rose out_rose ending.Memory
wanted_memory old new c nodes states choices tells out files_rose out_rose same = record { files_are = same; out = λ t. sym (append-nil out) }
