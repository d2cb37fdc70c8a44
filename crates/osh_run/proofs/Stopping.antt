-- How a run goes on from stage to stage, and how a stage stops it.
use Rattle.std.proofs.Common.{◌≡◌, inl, inr, ℕ, List, refl, subst, Option, Some, None}
use Rattle.ds_port.specs.FileMap.{FileMap, file_at}
use Rattle.flow_graph.specs.Charts.{Chart}
use Rattle.flow_graph.specs.declared.flow.Flow.{Flow}
use Rattle.flow_graph.specs.declared.flow.OpSpec.{OpSpec}
use Rattle.flow_rules.specs.declared.verdict.Verdict.{Verdict}
use Rattle.flow_rules.specs.Verdicts.{IsVerdict}
use Rattle.osh_call.specs.declared.answer.Answer.{Answer}
use Rattle.osh_call.specs.declared.answer.Answer.TheVariants as answer
use Rattle.osh_call.specs.Answers.{Halts}
use Rattle.osh_call.specs.Stages.{Has, IsFlowIn, FileStops, FlowInStops, NodesInStops, ShapeStops}
use Rattle.osh_call.proofs.Serving.{flow_comes, flow_halts, halts_by, nodes_come, nodes_halt, shape_halts}
use Rattle.osh_ends.specs.Ends.{End, absent, AcceptedRuns, Finds, NodesIn, RunsFile, Shapes, VerdictRuns}
use Rattle.osh_ends.specs.FlowFiles.{first_missing}
use Rattle.osh_ends.specs.Steps.{Reads}
use Rattle.osh_run.specs.Stages.{AreTexts, IsPrepared}
use Rattle.run_feed.specs.Inputs.{AreInputs}

-- what stands behind the shape, the configuration and the flow
abbrev RunsShape : FileMap → ℕ → Chart → End → Type 0
RunsShape files nodes c = Finds files c (VerdictRuns files c nodes)

abbrev RunsNodes : FileMap → Flow → ℕ → End → Type 0
RunsNodes files flow nodes = Shapes flow (RunsShape files nodes)

abbrev RunsFlow : FileMap → List ℕ → Flow → End → Type 0
RunsFlow files config flow = Reads (file_at files config) (absent config) (λ text. NodesIn text (RunsNodes files flow))

pub flow_stops : (files : FileMap) (name config : List ℕ) (a : Answer) → FileStops files name FlowInStops a → Halts (RunsFile files name config) a
flow_stops files name config a h = flow_halts files name (RunsFlow files config) a h

pub config_stops : (files : FileMap) (name config : List ℕ) (flow : Flow) (a : Answer) → Has files name (λ text. IsFlowIn text flow) → FileStops files config NodesInStops a → Halts (RunsFile files name config) a
config_stops files name config flow a s h =
    halts_by (RunsFlow files config flow) (RunsFile files name config) a (flow_comes files name flow (RunsFlow files config) s) (nodes_halt files config (RunsNodes files flow) a h)

texts_come : (files : FileMap) (name config : List ℕ) (flow : Flow) (nodes : ℕ) → AreTexts files name config flow nodes → (end : End) → RunsNodes files flow nodes end → RunsFile files name config end
texts_come files name config flow nodes t end n =
    flow_comes files name flow (RunsFlow files config) t.flow_has end (nodes_come files config nodes (RunsNodes files flow) t.config_has end n)

pub shape_stops : (files : FileMap) (name config : List ℕ) (flow : Flow) (nodes : ℕ) (a : Answer) → AreTexts files name config flow nodes → ShapeStops flow a → Halts (RunsFile files name config) a
shape_stops files name config flow nodes a t h =
    halts_by (RunsNodes files flow nodes) (RunsFile files name config) a (texts_come files name config flow nodes t) (shape_halts flow (RunsShape files nodes) a h)

prepared_comes : (files : FileMap) (name config : List ℕ) (c : Chart) (nodes : ℕ) → IsPrepared files name config c nodes → (end : End) → RunsShape files nodes c end → RunsFile files name config end
prepared_comes files name config c nodes p end n = texts_come files name config p.flow nodes p.texts end (inr (c, p.shape, n))

pub missing_stops : (files : FileMap) (name config : List ℕ) (c : Chart) (nodes : ℕ) (missing : List ℕ) → IsPrepared files name config c nodes → first_missing files c.flow.ops ≡ Some missing → Halts (RunsFile files name config) (answer.Absent missing)
missing_stops files name config c nodes missing p h = prepared_comes files name config c nodes p (absent missing) (inl (missing, h, refl))

pub verdict_comes : (files : FileMap) (name config : List ℕ) (c : Chart) (nodes : ℕ) (v : Verdict) → IsPrepared files name config c nodes → first_missing files c.flow.ops ≡ None → IsVerdict c v → (end : End) → AcceptedRuns files c nodes v end → RunsFile files name config end
verdict_comes files name config c nodes v p there is end e = prepared_comes files name config c nodes p end (inr (there, (v, is, e)))

-- inputs that were found where nothing changed on the way
pub inputs_from : {I : Type 0} (tells : Type 0) (rest : I → List ℕ) (old mid : FileMap) (listed ops : List OpSpec) (inputs : List (Option I)) → mid ≡ old → listed ≡ ops → AreInputs tells rest mid listed inputs → AreInputs tells rest old ops inputs
inputs_from tells rest old mid listed ops inputs same is are = subst (λ m. AreInputs tells rest m ops inputs) same (subst (λ os. AreInputs tells rest mid os inputs) is are)
