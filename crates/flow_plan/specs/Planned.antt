-- The plan of a flow: its operators and the sorts that were chosen for its links, each with a stream and a degree, and the links between them.
use Rattle.std.specs.Prelude.{◌≡◌, ℕ, zero, suc, ◌+◌, ◌-◌, ◌<◌, ◌%◌, ◌==◌, nat_lt, is_some, Bool, true, false, if◌then◌else◌, List, [], ◌∷◌, ◌++◌, length, map, get_or, Option, Some, None}
use Rattle.std.specs.List.{filter, flat_map}
use Rattle.streams.specs.Streams.{Stream, IsStream}
use Rattle.streams.specs.Operators.{ordered_stream, round_robin_stream, merge_stream}
use Rattle.streams.specs.Wiring.{Gather, shares, each, Wire, Plan, IsWired}
use Rattle.ds_schema.specs.declared.key.Key.{Key}
use Rattle.ds_place.specs.declared.place.Place.TheVariants as place
use Rattle.ds_place.specs.Places.{place_number}
use Rattle.op_base.specs.declared.fault.Fault.{Fault}
use Rattle.op_order.specs.Ordered.{tsort_stream}
use Rattle.flow_graph.specs.declared.route.Route.{Route}
use Rattle.flow_graph.specs.declared.route.Route.TheVariants as route
use Rattle.flow_graph.specs.declared.route.Choice.{Choice}
use Rattle.flow_graph.specs.Charts.{Chart, link_at, links_into, links_from, op_at, is_seq, into_seq}
use Rattle.flow_graph.specs.FlowShape.{IsShape, may_stand}
use Rattle.flow_graph.specs.Operators.{Op}
use Rattle.flow_graph.specs.Runs as runs
use Rattle.flow_score.specs.Scores.{is_same}
use Rattle.flow_plan.specs.Data.{Datum, row_in, datum_cmp, numbered_at}

-- An operator of the plan: one of the flow, or the sort on a link. The flow's have their numbers, the sorts follow in the order of their links.
pub data PlanOperator : Type 0 where
  working : ℕ → PlanOperator
  sorting : ℕ → PlanOperator

abbrev pub plan_operator_at : ℕ → ℕ → PlanOperator
plan_operator_at ops o = if nat_lt o ops then working o else sorting (o - ops)

-- A link of the plan: one of the flow, which leads into its sort where it has one; the link from that sort to the consumer; or that from a source's file. They are numbered in this order.
pub data PlanLink : Type 0 where
  link : ℕ → PlanLink
  behind : ℕ → PlanLink
  file : ℕ → PlanLink

abbrev pub plan_link_at : ℕ → ℕ → PlanLink
plan_link_at links l = if nat_lt l links then link l else if nat_lt l (links + links) then behind (l - links) else file (l - (links + links))

abbrev pub op_count : Chart → ℕ
op_count c = length c.flow.ops

abbrev pub link_count : Chart → ℕ
link_count c = length c.flow.links

abbrev pub sort_operator : Chart → ℕ → ℕ
sort_operator c l = op_count c + l

abbrev pub link_behind_sort : Chart → ℕ → ℕ
link_behind_sort c l = link_count c + l

abbrev pub file_link : Chart → ℕ → ℕ
file_link c o = link_count c + link_count c + o

abbrev pub has_sort : (ℕ → Choice) → ℕ → Bool
has_sort choice l = is_some (choice l).sort

-- the link of the plan that leads into a link's consumer
abbrev pub last_link : Chart → (ℕ → Choice) → ℕ → ℕ
last_link c choice l = if has_sort choice l then link_behind_sort c l else l

-- the sorts before an operator, and it
abbrev pub sorts_into : Chart → (ℕ → Choice) → ℕ → List ℕ
sorts_into c choice o = map (sort_operator c) (filter (has_sort choice) (links_into c o))

abbrev pub with_sorts : Chart → (ℕ → Choice) → ℕ → List ℕ
with_sorts c choice o = sorts_into c choice o ++ o ∷ []

-- the stream of a sort
abbrev pub sorter : Option (List Key) → Stream Datum Fault
sorter None = numbered_at 0 (tsort_stream [])
sorter (Some keys) = numbered_at 0 (tsort_stream keys)

-- How a route brings rows together, into a sequential consumer or not: in any order, or by a collector.
abbrev pub gather_by : Bool → Route → Gather Datum Fault
gather_by seq route.Same = shares
gather_by false route.RoundRobin = shares
gather_by true route.RoundRobin = each round_robin_stream
gather_by seq route.Entire = shares
gather_by seq (route.Hash K) = shares
gather_by seq (route.Modulus c) = shares
gather_by seq route.Any = shares
gather_by seq route.Ordered = each ordered_stream
gather_by seq (route.Merge keys) = each (λ n. merge_stream n (datum_cmp keys))

-- whether the t-th row that producer partition p emits goes to consumer partition j of n
abbrev pub goes_by : Bool → Route → ℕ → ℕ → ℕ → Datum → ℕ → Bool
goes_by seq route.Same n p t x j = true
goes_by false route.RoundRobin n p t x j = (p + t) % n == j
goes_by true route.RoundRobin n p t x j = true
goes_by seq route.Entire n p t x j = true
goes_by seq (route.Hash K) n p t x j = place_number (place.Hash K) (row_in x) n == j
goes_by seq (route.Modulus c) n p t x j = place_number (place.Modulus c) (row_in x) n == j
goes_by seq route.Any n p t x j = true
goes_by seq route.Ordered n p t x j = true
goes_by seq (route.Merge keys) n p t x j = true

abbrev pub all_go : ℕ → ℕ → Datum → ℕ → Bool
all_go p t x j = true

-- the degree, the stream, the input links and the output links of an operator of the plan
abbrev pub plan_degree : Chart → (ℕ → ℕ) → PlanOperator → ℕ
plan_degree c degree (working o) = degree o
plan_degree c degree (sorting l) = degree (link_at c l).to

abbrev pub plan_stream : (ℕ → Choice) → (ℕ → Stream Datum Fault) → PlanOperator → Stream Datum Fault
plan_stream choice stream (working o) = stream o
plan_stream choice stream (sorting l) = sorter (choice l).sort

-- an operator without inputs is a source, whose port is fed its file
abbrev pub plan_input : Chart → (ℕ → Choice) → PlanOperator → ℕ → ℕ
plan_input c choice (working o) i = if nat_lt i (length (links_into c o)) then last_link c choice (get_or (links_into c o) i 0) else file_link c o
plan_input c choice (sorting l) i = l

abbrev pub plan_outs : Chart → PlanOperator → List ℕ
plan_outs c (working o) = links_from c o
plan_outs c (sorting l) = link_behind_sort c l ∷ []

abbrev pub plan_wire : Chart → (ℕ → Choice) → (ℕ → ℕ) → PlanLink → Wire Datum Fault
plan_wire c choice degree (link l) = record {
  from = (link_at c l).from;
  out = (link_at c l).out;
  into = if has_sort choice l then sort_operator c l else (link_at c l).to;
  port = if has_sort choice l then 0 else (link_at c l).port;
  file = false;
  straight = is_same (choice l).method;
  gather = gather_by (into_seq c l) (choice l).method;
  goes = goes_by (into_seq c l) (choice l).method (degree (link_at c l).to);
}
plan_wire c choice degree (behind l) = record { from = sort_operator c l; out = 0; into = (link_at c l).to; port = (link_at c l).port; file = false; straight = true; gather = shares; goes = all_go }
plan_wire c choice degree (file o) = record { from = 0; out = 0; into = o; port = 0; file = true; straight = false; gather = shares; goes = all_go }

-- The plan of a flow, by what is chosen for each link, the number of partitions of each operator, and the stream of each.
abbrev pub plan_of : Chart → (ℕ → Choice) → (ℕ → ℕ) → (ℕ → Stream Datum Fault) → Plan Datum Fault
plan_of c choice degree stream = record {
  order = flat_map (with_sorts c choice) c.order;
  degree = λ o. plan_degree c degree (plan_operator_at (op_count c) o);
  stream = λ o. plan_stream choice stream (plan_operator_at (op_count c) o);
  input = λ o i. plan_input c choice (plan_operator_at (op_count c) o) i;
  outs = λ o. plan_outs c (plan_operator_at (op_count c) o);
  wire = λ l. plan_wire c choice degree (plan_link_at (link_count c) l);
}

-- the flow as operators in its order, with what is chosen for each link
abbrev pub out_by : Chart → (ℕ → Choice) → ℕ → runs.Out
out_by c choice l = record { port = (link_at c l).out; link = l; route = (choice l).method; sequential = into_seq c l }

abbrev pub node_by : Chart → (ℕ → Choice) → (ℕ → Op) → ℕ → runs.Node
node_by c choice ops o = record { number = o; op = ops o; ins = links_into c o; outs = map (out_by c choice) (links_from c o) }

abbrev pub nodes_by : Chart → (ℕ → Choice) → (ℕ → Op) → List runs.Node
nodes_by c choice ops = map (node_by c choice ops) c.order

-- an operator has a port for each of its inputs, and a source one for its file
abbrev pub ports_for : ℕ → ℕ
ports_for zero = 1
ports_for (suc inputs) = suc inputs

-- What is chosen for the links may stand there, and the degrees are such as operators and routes ask.
pub record ChoicesFit (c : Chart) (choice : ℕ → Choice) (degree : ℕ → ℕ) : Type 0 where
  pub some : (o : ℕ) → o < op_count c → 0 < degree o
  pub one : (o : ℕ) → o < op_count c → is_seq (op_at c o).mark ≡ true → degree o ≡ 1
  pub may_stand : (l : ℕ) → l < link_count c → may_stand (into_seq c l) (choice l).method ≡ true
  pub equal : (l : ℕ) → l < link_count c → is_same (choice l).method ≡ true → degree (link_at c l).from ≡ degree (link_at c l).to

-- The operators are streams with these ports.
pub record StreamsFit (c : Chart) (stream : ℕ → Stream Datum Fault) : Type 0 where
  pub are : (o : ℕ) → o < op_count c → IsStream (stream o)
  pub ports : (o : ℕ) → o < op_count c → (stream o).ports ≡ ports_for (length (links_into c o))

-- The plan of a shaped flow is wired.
abbrev pub PlansAreWired : Type 0
PlansAreWired = (c : Chart) (choice : ℕ → Choice) (degree : ℕ → ℕ) (stream : ℕ → Stream Datum Fault) → IsShape c → ChoicesFit c choice degree → StreamsFit c stream → IsWired (plan_of c choice degree stream)
