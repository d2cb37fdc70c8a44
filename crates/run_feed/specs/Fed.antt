-- What a run needs, and what it has when its lists are done and nothing is written yet.
use Rattle.std.specs.Prelude.{◌≡◌, ◌<◌, ◌-◌, ◌^◌, min, ℕ, true, List, [], length, map, get_or}
use Rattle.std.specs.List.{AllByRecursion}
use Rattle.std.specs.List.Sorted.{IsPermutation}
use Rattle.op_base.specs.declared.fault.Fault.{Fault}
use Rattle.op_base.specs.Columns.{Row}
use Rattle.ds_port.specs.FileMap.{FileMap}
use Rattle.flow_files.specs.declared.tally.Tally.{Tally}
use Rattle.flow_files.specs.Tallies.{Grows}
use Rattle.flow_graph.specs.declared.route.Choice.{Choice}
use Rattle.flow_graph.specs.declared.state.State.{State}
use Rattle.flow_graph.specs.Charts.{Chart, op_at, all_links}
use Rattle.flow_graph.specs.Operators.{Op}
use Rattle.flow_graph.specs.Runs.{Lists}
use Rattle.flow_rules.specs.Exports.{IsExport, input_of}
use Rattle.flow_rules.specs.declared.verdict.Verdict.TheVariants.{Accepted}
use Rattle.flow_rules.specs.Verdicts.{IsVerdict, infer_regains}
use Rattle.flow_score.specs.Seating.{Seats}
use Rattle.flow_shape.specs.Refusals.{IsShapeOf, fields_at}
use Rattle.flow_sound.specs.Fitting.{RowsFit}
use Rattle.flow_sound.specs.Promise.{AcceptedRun}
use Rattle.flow_sound.specs.Tallies.{faults_before}
use Rattle.list_run.specs.declared.ran.Ran.{Ran}
use Rattle.osh_ends.specs.Built.{is_built}
use Rattle.osh_ends.specs.Ends.{MeetsGrades}
use Rattle.osh_ends.specs.FlowFiles.{IsMeaning}
use Rattle.osh_sound.specs.Sound.{KeepsForms, KeepsMarks}

-- a shaped flow that is built, was accepted, and can be seated on so many nodes
pub record IsReady (c : Chart) (choices : List Choice) (nodes : ℕ) : Type 0 where
  pub some : 0 < nodes
  pub built : is_built c.flow ≡ true
  pub shape_of : IsShapeOf c.flow [] c
  pub marks : KeepsMarks c.flow
  pub forms : KeepsForms c.flow
  pub states : List State
  pub verdict : IsVerdict c (Accepted states choices)
  pub players : ℕ
  pub seats : Seats c choices nodes players

-- the rows that came at the partitions of each export fit the columns of its input
abbrev pub SinksFit : Chart → Ran → Type 0
SinksFit c ran = (o : ℕ) → o < length c.flow.ops → IsExport (op_at c o).kind → AllByRecursion (RowsFit (fields_at c (input_of c o))) (get_or ran.sinks o [])

-- the lists of a legal run of the flow over these files: the rows that the meaning has are counted on each link, what came at the exports is there, and the faults of the imports and of the operators between imports and exports were tallied
pub record Fed (files : FileMap) (c : Chart) (states : List State) (choices : List Choice) (ran : Ran) (old new : Tally) : Type 0 where
  pub ops : ℕ → Op
  pub whole : ℕ → List Row
  pub run : Lists
  pub meaning : IsMeaning files c ops whole
  pub accepted : AcceptedRun infer_regains c.flow [] c states choices ops whole run
  pub counts : ran.counts ≡ map (λ l. min (length (whole l)) (2 ^ 63 - 1)) (all_links c)
  pub sinks : (o : ℕ) → o < length c.flow.ops → IsExport (op_at c o).kind → get_or ran.sinks o [] ≡ run.got (input_of c o)
  pub grades : MeetsGrades c states whole run.got
  pub found : List Fault
  pub same : IsPermutation found (faults_before c ops run.failed)
  pub tally : Grows old new found
