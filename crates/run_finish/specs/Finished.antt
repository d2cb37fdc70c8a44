-- The end of a run whose lists are done.
use Rattle.std.specs.Prelude.{◌≡◌, ◌<◌, ℕ, Bool, List, [], length}
use Rattle.ds_port.specs.FileMap.{FileMap}
use Rattle.op_base.specs.Columns.{Row}
use Rattle.flow_files.specs.declared.tally.Tally.{Tally}
use Rattle.flow_files.specs.Tallies.{Tallies}
use Rattle.flow_graph.specs.declared.route.Choice.{Choice}
use Rattle.flow_graph.specs.declared.state.State.{State}
use Rattle.flow_graph.specs.Charts.{Chart, op_at}
use Rattle.flow_graph.specs.Operators.{Op}
use Rattle.flow_graph.specs.Runs.{Lists}
use Rattle.flow_outputs.specs.Outputs.{NamedFile, with_files}
use Rattle.flow_rules.specs.Exports.{IsExport, input_of}
use Rattle.flow_rules.specs.Verdicts.{infer_regains}
use Rattle.flow_sound.specs.Promise.{AcceptedRun}
use Rattle.flow_sound.specs.Tallies.{faults_before}
use Rattle.list_run.specs.declared.ran.Ran.{Ran}
use Rattle.osh_ends.specs.Ends.{MeetsGrades, RunsTo, done, faulty}
use Rattle.osh_ends.specs.FlowFiles.{IsMeaning}
use Rattle.osh_ends.specs.Leaves.{Broke, Leaves}
use Rattle.run_finish.specs.declared.ending.Ending.{Ending}
use Rattle.run_finish.specs.declared.ending.Ending.TheVariants as ending
use Rattle.run_finish.specs.Reported.{AreCounts}
use Rattle.run_finish.specs.Written.{sink_at}

-- what is there is of a legal run of the flow over these files: the numbers of the rows that the meaning has, what came at the exports, and the faults of the imports and of the operators between imports and exports
pub record IsRun (files : FileMap) (c : Chart) (states : List State) (choices : List Choice) (ran : Ran) (found : Tally) : Type 0 where
  pub ops : ℕ → Op
  pub whole : ℕ → List Row
  pub run : Lists
  pub meaning : IsMeaning files c ops whole
  pub accepted : AcceptedRun infer_regains c.flow [] c states choices ops whole run
  pub counts : AreCounts c whole ran.counts
  pub sinks : (o : ℕ) → o < length c.flow.ops → IsExport (op_at c o).kind → sink_at ran.sinks o ≡ run.got (input_of c o)
  pub grades : MeetsGrades c states whole run.got
  pub tally : Tallies (faults_before c ops run.failed) found

-- the run ended: its files and its report are left, or the report of its faults; or a device failed on the way, or memory was wanting, and nothing is left
abbrev pub Ends : (old new : FileMap) → Chart → ℕ → List State → List Choice → (tells : Bool) → (out_old out_new : List ℕ) → (files_rose out_rose : Type 0) → Ending → Type 0
Ends old new c nodes states choices tells out_old out_new files_rose out_rose ending.Done =
    (all : List NamedFile) × (text : List ℕ) × RunsTo old c nodes states choices (done all text) × Leaves (with_files old all) new tells out_old out_new text
Ends old new c nodes states choices tells out_old out_new files_rose out_rose ending.Faulty =
    (text : List ℕ) × RunsTo old c nodes states choices (faulty text) × Leaves old new tells out_old out_new text
Ends old new c nodes states choices tells out_old out_new files_rose out_rose ending.Device = Broke (RunsTo old c nodes states choices) old new tells out_old out_new files_rose out_rose
Ends old new c nodes states choices tells out_old out_new files_rose out_rose ending.Memory = Leaves old new tells out_old out_new []
