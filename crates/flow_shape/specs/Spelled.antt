-- What is asked of a flow before its shape is looked at. Each flow that a text spells has it.
use Rattle.std.specs.Prelude.{ℕ, ◌≤◌, [], length}
use Rattle.std.specs.List.{AllByRecursion}
use Rattle.flow_graph.specs.declared.flow.Flow.{Flow}
use Rattle.flow_graph.specs.declared.flow.LinkSpec.{LinkSpec}
use Rattle.flow_graph.specs.declared.flow.OpSpec.{OpSpec}
use Rattle.flow_graph.specs.FlowShape.{PortsInOrder}
use Rattle.flow_shape.specs.Links.{AreWithin}
use Rattle.flow_shape.specs.Methods.{MethodDiffers}
use Rattle.op_shape.specs.Options.{KeysDistinct, OptionsStand}
use Rattle.flow_shape.specs.Refusals.{chart_of}

-- no key names a column twice
abbrev pub HasDistinctKeys : Flow → Type 0
HasDistinctKeys flow = AllByRecursion (λ (o : OpSpec). KeysDistinct o.kind) flow.ops

abbrev pub HasSoundOptions : Flow → Type 0
HasSoundOptions flow = AllByRecursion (λ (o : OpSpec). OptionsStand o.kind) flow.ops

abbrev pub HasDistinctMethods : Flow → Type 0
HasDistinctMethods flow = AllByRecursion (λ (l : LinkSpec). MethodDiffers l.method) flow.links

-- links run between operators, of which there are few, and those into one stand in the order of its ports
pub record IsJoined (flow : Flow) : Type 0 where
  pub few : length flow.ops ≤ 200
  pub within : AreWithin (length flow.ops) flow.links
  pub ports : (o : ℕ) → PortsInOrder (chart_of flow []) o
  pub keys : HasDistinctKeys flow
  pub options : HasSoundOptions flow
  pub methods : HasDistinctMethods flow
