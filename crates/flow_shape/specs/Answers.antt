-- A flow has one answer: one shape, or one first fault.
use Rattle.std.specs.Prelude.{◌≡◌, ℕ, List, length}
use Rattle.flow_graph.specs.Charts.{Chart}
use Rattle.flow_graph.specs.declared.flow.Flow.{Flow}
use Rattle.flow_graph.specs.declared.parts.Stored.{Stored}
use Rattle.shape_base.specs.declared.fault.ShapeWhy.{ShapeWhy}
use Rattle.flow_shape.specs.Links.{AreWithin}
use Rattle.flow_shape.specs.Refusals.{IsShapeOf, Refuses}

-- of flows whose links run between their operators
abbrev pub OneShape : Type 0
OneShape = (flow : Flow) (dict : List Stored) (c d : Chart) → AreWithin (length flow.ops) flow.links → IsShapeOf flow dict c → IsShapeOf flow dict d → c ≡ d

abbrev pub ShapeOrFault : Type 0
ShapeOrFault = (flow : Flow) (dict : List Stored) (c : Chart) (why : ShapeWhy) (o : ℕ) → IsShapeOf flow dict c → Refuses flow why o → ⊥

abbrev pub OneFault : Type 0
OneFault = (flow : Flow) (why other : ShapeWhy) (o p : ℕ) → Refuses flow why o → Refuses flow other p → (why ≡ other) × (o ≡ p)
