-- The stages of a call that read its texts: what each has found where it goes on.
use Rattle.std.specs.Prelude.{◌≡◌, ◌⊎◌, ℕ, true, false, List, [], Ok, Err, Some, None}
use Rattle.config_read.specs.declared.config.Config.{Config}
use Rattle.config_read.specs.First.{IsSpelled, IsFirstFault}
use Rattle.config_read.specs.Pools.{default_count}
use Rattle.ds_port.specs.FileMap.{FileMap, file_at}
use Rattle.flow_graph.specs.declared.flow.Flow.{Flow}
use Rattle.flow_graph.specs.Charts.{Chart}
use Rattle.flow_shape.specs.Refusals.{IsShapeOf, Refuses}
use Rattle.osh_call.specs.declared.answer.Answer.{Answer}
use Rattle.osh_call.specs.declared.answer.Answer.TheVariants as answer
use Rattle.osh_read.specs.Flows.{flow_of}
use Rattle.osh_ends.specs.Built.{is_built}

-- a text spells a flow that is built
pub record IsFlowIn (text : List ℕ) (flow : Flow) : Type 0 where
  pub spelled : flow_of text ≡ Ok flow
  pub built : is_built flow ≡ true

-- a text spells a configuration with so many nodes in its default pool
pub record IsNodesIn (text : List ℕ) (nodes : ℕ) : Type 0 where
  pub config : Config
  pub spelled : IsSpelled text config
  pub count : nodes ≡ default_count config.nodes

-- a file is there, and its bytes have P
pub record Has (files : FileMap) (name : List ℕ) (P : List ℕ → Type 0) : Type 0 where
  pub text : List ℕ
  pub found : file_at files name ≡ Some text
  pub is : P text

-- a flow that was read, all of which is built
pub record IsRead (flow : Flow) : Type 0 where
  pub text : List ℕ
  pub is : IsFlowIn text flow

-- the shape of a flow that was read
pub record IsBuiltShape (c : Chart) : Type 0 where
  pub flow : Flow
  pub read : IsRead flow
  pub shape : IsShapeOf flow [] c

-- a shape is that of the flow in a file
pub record IsShapeIn (files : FileMap) (name : List ℕ) (c : Chart) : Type 0 where
  pub flow : Flow
  pub has : Has files name (λ text. IsFlowIn text flow)
  pub shape : IsShapeOf flow [] c

-- ---- where a stage stops the call

-- a text is no flow, or none that is built
abbrev pub FlowInStops : List ℕ → Answer → Type 0
FlowInStops text (answer.BadFlow at why) = flow_of text ≡ Err (record { at = at; why = why })
FlowInStops text answer.Unbuilt = (flow : Flow) × (flow_of text ≡ Ok flow) × (is_built flow ≡ false)
FlowInStops text answer.Memory = Unit {0}
FlowInStops text a = ⊥

-- a text is no configuration
abbrev pub NodesInStops : List ℕ → Answer → Type 0
NodesInStops text (answer.BadConfig at why) = IsFirstFault text at why
NodesInStops text answer.Memory = Unit {0}
NodesInStops text a = ⊥

-- a file isn't there, or its text stops the call, or a device failed, or memory was wanting
abbrev pub FileStops : FileMap → List ℕ → (List ℕ → Answer → Type 0) → Answer → Type 0
FileStops files name P (answer.Absent missing) = (missing ≡ name) × (file_at files name ≡ None)
FileStops files name P answer.Device = Unit {0}
FileStops files name P answer.Memory = Unit {0}
FileStops files name P a = Has files name (λ text. P text a)

abbrev pub ShapeStops : Flow → Answer → Type 0
ShapeStops flow (answer.BadShape why op) = Refuses flow why op
ShapeStops flow answer.Memory = Unit {0}
ShapeStops flow a = ⊥

-- the flow in a file, or its shape
abbrev pub ShapeFileStops : FileMap → List ℕ → Answer → Type 0
ShapeFileStops files name a = FileStops files name FlowInStops a ⊎ ((flow : Flow) × Has files name (λ text. IsFlowIn text flow) × ShapeStops flow a)
