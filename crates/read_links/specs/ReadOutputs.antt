-- The outputs by which the links of a flow that is read leave its operators.
use Rattle.std.specs.Prelude.{◌≡◌, ℕ, List, [], Ok}
use Rattle.flow_graph.specs.declared.flow.Flow.{Flow}
use Rattle.flow_graph.specs.declared.parts.Stored.{Stored}
use Rattle.flow_graph.specs.Charts.{Chart}
use Rattle.flow_shape.specs.Refusals.{IsShapeOf, chart_of}
use Rattle.flow_links.specs.Outputs.{LinksOutputs, NumbersOutputs}
use Rattle.osh_read.specs.Flows.{flow_of}

abbrev pub ReadNumbersOutputs : Type 0
ReadNumbersOutputs = (bytes : List ℕ) (flow : Flow) → flow_of bytes ≡ Ok flow → NumbersOutputs (chart_of flow [])

abbrev pub ReadLinksOutputs : Type 0
ReadLinksOutputs = (bytes : List ℕ) (flow : Flow) (dict : List Stored) (c : Chart) → flow_of bytes ≡ Ok flow → IsShapeOf flow dict c → LinksOutputs c
