-- The links of a flow's plan that are combined: what is emitted there is fed to the consumer at once.
use Rattle.std.specs.Prelude.{◌≡◌, ℕ, ◌+◌, ◌<◌, ◌==◌, Bool, true, false, not, ◌&&◌, List, length}
use Rattle.std.specs.List.{filter, range_with_len}
use Rattle.streams.specs.Streams.{Stream}
use Rattle.streams.specs.Chains.{IsOnePort}
use Rattle.op_base.specs.declared.fault.Fault.{Fault}
use Rattle.flow_graph.specs.declared.op_kind.OpKind.{OpKind}
use Rattle.flow_graph.specs.declared.op_kind.OpKind.TheVariants as kind
use Rattle.flow_graph.specs.declared.route.Choice.{Choice}
use Rattle.flow_graph.specs.Charts.{Chart, link_at, links_into, links_from, op_at}
use Rattle.flow_graph.specs.FlowShape.{IsShape}
use Rattle.flow_score.specs.Scores.{is_same}
use Rattle.flow_links.specs.Outputs.{LinksOutputs}
use Rattle.flow_plan.specs.Data.{Datum}
use Rattle.flow_plan.specs.Planned.{PlanLink, link, behind, file, plan_link_at, op_count, link_count, has_sort, plan_of, ChoicesFit, StreamsFit}
use Rattle.plan_chains.specs.Combined.{IsOneOutput}
use Rattle.plan_chains.specs.Chains.{CanChain}

-- the kinds that run with what feeds them
abbrev pub may_follow : OpKind → Bool
may_follow (kind.Export name delim fixed) = true
may_follow (kind.Dswrite ds) = true
may_follow kind.Copy = true
may_follow (kind.Filter test reject) = true
may_follow (kind.Transform set reject) = true
may_follow (kind.Modify keep drop rename) = true
may_follow (kind.Switch on cases reject) = true
may_follow (kind.Remdup key last) = true
may_follow (kind.Group key hash results) = not hash
may_follow k = false

-- whether an operator of the flow, which has one input, runs with what feeds it
abbrev pub follows : Chart → ℕ → Bool
follows c o = (length (links_into c o) == 1) && may_follow (op_at c o).kind

-- A link is combined where its route is `same`, which joins equal degrees, it alone leaves its producer, and its consumer follows. The link behind an inserted sort is such a link.
abbrev pub is_combined : Chart → (ℕ → Choice) → PlanLink → Bool
is_combined c choice (link l) = not (has_sort choice l) && (is_same (choice l).method && ((length (links_from c (link_at c l).from) == 1) && follows c (link_at c l).to))
is_combined c choice (behind l) = has_sort choice l && follows c (link_at c l).to
is_combined c choice (file o) = false

abbrev pub combined_links : Chart → (ℕ → Choice) → List ℕ
combined_links c choice = filter (λ l. is_combined c choice (plan_link_at (link_count c) l)) (range_with_len 0 (link_count c + link_count c))

-- An operator that one link leaves sends on its output 0 alone; and one that follows has one port.
pub record StreamsChain (c : Chart) (stream : ℕ → Stream Datum Fault) : Type 0 where
  pub one_output : (o : ℕ) → o < op_count c → length (links_from c o) ≡ 1 → IsOneOutput (stream o)
  pub one_port : (o : ℕ) → o < op_count c → follows c o ≡ true → IsOnePort (stream o)

abbrev pub CombinedLinksChain : Type 0
CombinedLinksChain = (c : Chart) (choice : ℕ → Choice) (degree : ℕ → ℕ) (stream : ℕ → Stream Datum Fault) → IsShape c → LinksOutputs c → ChoicesFit c choice degree → StreamsFit c stream → StreamsChain c stream → CanChain (plan_of c choice degree stream) (combined_links c choice)
