-- The outputs of operators, and the links that leave by them.
use Rattle.std.specs.Prelude.{ℕ, ◌≡◌, ◌<◌, ◌==◌, if◌then◌else◌, List, [], length}
use Rattle.std.specs.List.{filter}
use Rattle.flow_graph.specs.declared.flow.Flow.{Flow}
use Rattle.flow_graph.specs.declared.op_kind.OpKind.{OpKind}
use Rattle.flow_graph.specs.declared.op_kind.OpKind.TheVariants as kind
use Rattle.flow_graph.specs.declared.parts.Stored.{Stored}
use Rattle.flow_graph.specs.Charts.{Chart, link_at, links_into, links_from, op_at}
use Rattle.flow_shape.specs.Links.{AreWithin}
use Rattle.flow_shape.specs.Ports.{rejects, with_reject}
use Rattle.flow_shape.specs.Refusals.{IsShapeOf, chart_of}

-- how many outputs an operator has, by how many inputs it has and how many links leave it: a copy has one for each link, a switch one for each case, a merge a reject output for each input but the first
abbrev pub outputs_of : OpKind → ℕ → ℕ → ℕ
outputs_of (kind.Import file schema delim fixed reject) ins leaving = with_reject reject 1
outputs_of (kind.Export file delim fixed) ins leaving = 0
outputs_of (kind.Dsread ds) ins leaving = 1
outputs_of (kind.Dswrite ds) ins leaving = 0
outputs_of kind.Copy ins leaving = leaving
outputs_of (kind.Filter test reject) ins leaving = with_reject reject 1
outputs_of (kind.Transform set reject) ins leaving = with_reject reject 1
outputs_of (kind.Modify keep drop rename) ins leaving = 1
outputs_of (kind.Switch on cases reject) ins leaving = with_reject reject (length cases)
outputs_of (kind.Tsort key) ins leaving = 1
outputs_of (kind.Remdup key last) ins leaving = 1
outputs_of (kind.Group key hash results) ins leaving = 1
outputs_of (kind.InnerJoin key) ins leaving = 1
outputs_of (kind.LeftOuterJoin key) ins leaving = 1
outputs_of (kind.RightOuterJoin key) ins leaving = 1
outputs_of (kind.FullOuterJoin key) ins leaving = 1
outputs_of (kind.Merge key keepbad reject) ins leaving = if reject then ins else 1
outputs_of (kind.Lookup key missing) ins leaving = with_reject (rejects missing) 1
outputs_of (kind.Changecapture key values keepcopy) ins leaving = 1
outputs_of (kind.Funnel sequence sort) ins leaving = 1

abbrev pub outputs_at : Chart → ℕ → ℕ
outputs_at c o = outputs_of (op_at c o).kind (length (links_into c o)) (length (links_from c o))

-- the links that leave an operator by one of its outputs
abbrev pub links_by : Chart → ℕ → ℕ → List ℕ
links_by c o out = filter (λ l. (link_at c l).out == out) (links_from c o)

-- The outputs by which links leave an operator are numbered from 0, one link each.
pub record NumbersOutputs (c : Chart) : Type 0 where
  pub each : (o out : ℕ) → out < length (links_from c o) → length (links_by c o out) ≡ 1
  pub below : (l : ℕ) → l < length c.flow.links → (link_at c l).out < length (links_from c (link_at c l).from)

-- Each output of an operator is on one link, and each link leaves by an output of its producer.
pub record LinksOutputs (c : Chart) : Type 0 where
  pub as_many : (o : ℕ) → o < length c.flow.ops → length (links_from c o) ≡ outputs_at c o
  pub each : (o : ℕ) → o < length c.flow.ops → (out : ℕ) → out < outputs_at c o → length (links_by c o out) ≡ 1
  pub below : (l : ℕ) → l < length c.flow.links → (link_at c l).out < outputs_at c (link_at c l).from

abbrev pub ShapedIsLinked : Type 0
ShapedIsLinked = (flow : Flow) (dict : List Stored) (c : Chart) → AreWithin (length flow.ops) flow.links → NumbersOutputs (chart_of flow []) → IsShapeOf flow dict c → LinksOutputs c
