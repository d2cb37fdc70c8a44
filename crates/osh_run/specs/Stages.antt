-- The stages of a run: what it stands on before its verdict, and how its end is answered.
use Rattle.std.specs.Prelude.{ℕ, List, []}
use Rattle.ds_port.specs.FileMap.{FileMap}
use Rattle.flow_graph.specs.Charts.{Chart}
use Rattle.flow_graph.specs.declared.flow.Flow.{Flow}
use Rattle.flow_shape.specs.Refusals.{IsShapeOf}
use Rattle.osh_call.specs.declared.answer.Answer.{Answer}
use Rattle.osh_call.specs.declared.answer.Answer.TheVariants as answer
use Rattle.osh_call.specs.Stages.{Has, IsFlowIn, IsNodesIn}
use Rattle.run_finish.specs.declared.ending.Ending.{Ending}
use Rattle.run_finish.specs.declared.ending.Ending.TheVariants as ending

-- the flow in a file, and the number of nodes of the configuration in another
pub record AreTexts (files : FileMap) (name config : List ℕ) (flow : Flow) (nodes : ℕ) : Type 0 where
  pub flow_has : Has files name (λ text. IsFlowIn text flow)
  pub config_has : Has files config (λ text. IsNodesIn text nodes)

-- the shape of that flow, and that number of nodes
pub record IsPrepared (files : FileMap) (name config : List ℕ) (c : Chart) (nodes : ℕ) : Type 0 where
  pub flow : Flow
  pub texts : AreTexts files name config flow nodes
  pub shape : IsShapeOf flow [] c

abbrev pub answer_of : Ending → Answer
answer_of ending.Done = answer.Done
answer_of ending.Faulty = answer.Faulty
answer_of ending.Device = answer.Device
answer_of ending.Memory = answer.Memory
