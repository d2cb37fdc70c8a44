-- The flows that are run here, the operators of such a flow, and what a run leaves.
use Rattle.std.specs.Prelude.{◌≡◌, ℕ, ◌<◌, ◌-◌, ◌^◌, min, Bool, true, cond, List, [], length, map, get_or, All, None, ⊤}
use Rattle.std.specs.List.{AllByRecursion, flat_map, range_with_len}
use Rattle.std.specs.List.Sorted.{IsPermutation}
use Rattle.ds_schema.specs.declared.schema.Field.{Field}
use Rattle.ds_schema.specs.Rows.{at, ways}
use Rattle.ds_place.specs.Places.{IsWhole}
use Rattle.op_base.specs.declared.fault.Fault.{Fault}
use Rattle.op_base.specs.Columns.{Row, IsIn}
use Rattle.op_base.specs.Emits.{counted, least_of}
use Rattle.op_base.specs.Keyed.{get_keys}
use Rattle.op_base.specs.Lists.{joined}
use Rattle.op_base.specs.Meanings.{Line}
use Rattle.op_base.specs.RowOperators.{sink_rule}
use Rattle.op_join.specs.declared.kind.JoinKind.TheVariants.{Inner, Left, Right, Full}
use Rattle.flow_graph.specs.declared.op_kind.OpKind.{OpKind}
use Rattle.flow_graph.specs.declared.op_kind.OpKind.TheVariants as kind
use Rattle.flow_graph.specs.declared.route.Choice.{Choice}
use Rattle.flow_graph.specs.declared.route.Route.{Route}
use Rattle.flow_graph.specs.declared.route.Route.TheVariants as route
use Rattle.flow_graph.specs.Charts.{Chart, link_at, all_links, links_from, op_at, is_seq, into_seq, keys_at, cols_at, parts_of, first_fields}
use Rattle.flow_graph.specs.Fitting.{FitsFields, KeepsFields, PassesFields}
use Rattle.flow_graph.specs.FlowShape.{IsShape}
use Rattle.flow_graph.specs.Operators.{Op, import, by_row, group, result}
use Rattle.flow_graph.specs.Runs.{Lists, Runs}
use Rattle.flow_derive.specs.LinkStates.{choice_at}
use Rattle.flow_rules.specs.Exports.{IsExport, input_of}
use Rattle.flow_rules.specs.Verdicts.{nodes_of}
use Rattle.flow_ops.specs.Keyed.{aggs_of, group_of}
use Rattle.flow_ops.specs.Kept.{GivesFields, SumsFit, if_between}
use Rattle.list_run.specs.declared.ran.Ran.{Ran}
use Rattle.flow_ops.specs.Kinds.{IsBetween, joined_by, looked_by, widths_into}
use Rattle.list_run.specs.Routed.{Joins}

-- a sequential operator has one partition, another has as many as there are nodes
abbrev pub degree_at : Chart → ℕ → ℕ → ℕ
degree_at c nodes o = cond (is_seq (op_at c o).mark) 1 nodes

-- the keys of two inputs ascend and descend alike
abbrev pub SameWays : Chart → ℕ → Type 0
SameWays c o = ways (get_keys (keys_at c o) 0) ≡ ways (get_keys (keys_at c o) 1)

-- import, copy, filter, transform, modify, switch, tsort, remdup, group, the joins, lookup and export are run
abbrev pub IsBuilt : Chart → ℕ → OpKind → Type 0
IsBuilt c o (kind.Import file schema delim fixed reject) = is_seq (op_at c o).mark ≡ true
IsBuilt c o (kind.Export file delim fixed) = links_from c o ≡ []
IsBuilt c o kind.Copy = PassesFields c o
IsBuilt c o (kind.Filter test reject) = KeepsFields c o
IsBuilt c o (kind.Transform set reject) = KeepsFields c o
IsBuilt c o (kind.Modify keep drop rename) = KeepsFields c o
IsBuilt c o (kind.Switch on cases reject) = KeepsFields c o
IsBuilt c o (kind.Tsort key) = PassesFields c o
IsBuilt c o (kind.Remdup key last) = PassesFields c o
IsBuilt c o (kind.Group key hash results) = GivesFields c o (group (group_of o hash results (parts_of c o))) × AllByRecursion (SumsFit (first_fields c o)) (aggs_of results (cols_at c o))
IsBuilt c o (kind.InnerJoin key) = GivesFields c o (joined_by Inner (parts_of c o) (widths_into c o)) × SameWays c o
IsBuilt c o (kind.LeftOuterJoin key) = GivesFields c o (joined_by Left (parts_of c o) (widths_into c o)) × SameWays c o
IsBuilt c o (kind.RightOuterJoin key) = GivesFields c o (joined_by Right (parts_of c o) (widths_into c o)) × SameWays c o
IsBuilt c o (kind.FullOuterJoin key) = GivesFields c o (joined_by Full (parts_of c o) (widths_into c o)) × SameWays c o
IsBuilt c o (kind.Lookup key missing) = GivesFields c o (looked_by o missing (parts_of c o) (widths_into c o)) × (length (get_keys (keys_at c o) 0) ≡ length (get_keys (keys_at c o) 1))
IsBuilt c o k = ⊥

-- a column of which a remainder is taken holds whole numbers or null, in each row that fits the link
abbrev pub TakesWhole : List Field → Route → Type 0
TakesWhole fields (route.Modulus x) = (r : Row) → FitsFields fields r → IsWhole (at r x)
TakesWhole fields m = ⊤

-- a flow with its choices, and by link the rows that imports put there
pub record CanRun (c : Chart) (choices : List Choice) (nodes : ℕ) (sources : List (List Row)) : Type 0 where
  pub chosen : choices ≡ map (choice_at c) (all_links c)
  pub some : 0 < nodes
  pub built : (o : ℕ) → o < length c.flow.ops → IsBuilt c o (op_at c o).kind
  pub joins : (l : ℕ) → l < length c.flow.links → Joins (into_seq c l) (choice_at c l).method (degree_at c nodes (link_at c l).from) (degree_at c nodes (link_at c l).to)
  pub whole : (l : ℕ) → l < length c.flow.links → TakesWhole (get_or c.schemas l []) (choice_at c l).method
  pub given : length sources ≡ length c.flow.links
  pub rows : (l : ℕ) → l < length c.flow.links → All (FitsFields (get_or c.schemas l [])) (get_or sources l [])

-- the same of a shaped flow
pub record IsRunnable (c : Chart) (choices : List Choice) (nodes : ℕ) (sources : List (List Row)) : Type 0 where
  pub shape : IsShape c
  pub run : CanRun c choices nodes sources

abbrev pub IsImport : Op → Type 0
IsImport op = (lines : List Line) × (rejects : Bool) × (beyond : List Fault) × (op ≡ import lines rejects beyond)

-- an operator is of its kind; an import gives on each of its links the rows that are given there
abbrev pub OpIs : Chart → List (List Row) → ℕ → Op → OpKind → Type 0
OpIs c sources o op (kind.Import file schema delim fixed reject) = IsImport op × ((l : ℕ) → IsIn l (links_from c o) → result op (link_at c l).out [] ≡ get_or sources l [])
OpIs c sources o op (kind.Export file delim fixed) = (unwritable : Row → List Fault) × (op ≡ by_row (sink_rule unwritable))
OpIs c sources o op k = IsBetween o k (parts_of c o) (widths_into c o) op

abbrev pub OpsAre : Chart → List (List Row) → (ℕ → Op) → Type 0
OpsAre c sources ops = (o : ℕ) → o < length c.flow.ops → OpIs c sources o (ops o) (op_at c o).kind

-- as far as rows are counted
abbrev pub row_count : List (List Row) → ℕ
row_count lists = min (length (joined lists)) (2 ^ 63 - 1)

-- the faults of the operators between imports and exports, by the numbers of the operators
abbrev pub worked_faults : Chart → Lists → List Fault
worked_faults c run = flat_map (λ o. if_between (op_at c o).kind (joined (run.failed o))) (range_with_len 0 (length c.flow.ops))

-- how many these faults are, as far as they are counted, and the least of them, in whatever order
pub record Counts (faults : List Fault) (ran : Ran) : Type 0 where
  pub found : List Fault
  pub same : IsPermutation found faults
  pub number : ran.faults ≡ counted 0 (length found)
  pub least : ran.least ≡ least_of None found

-- what is left is of a legal run: the numbers of rows that were put on the links, before they were routed, what came at the exports, and the faults of the operators between imports and exports
pub record IsRunOf (c : Chart) (nodes : ℕ) (ops : ℕ → Op) (ran : Ran) : Type 0 where
  pub run : Lists
  pub legal : AllByRecursion (Runs (λ l. (choice_at c l).sort) run) (nodes_of c ops)
  pub degrees : (l : ℕ) → l < length c.flow.links → (length (run.sent l) ≡ degree_at c nodes (link_at c l).from) × (length (run.got l) ≡ degree_at c nodes (link_at c l).to)
  pub counts : ran.counts ≡ map (λ l. row_count (run.sent l)) (all_links c)
  pub sinks : (o : ℕ) → o < length c.flow.ops → IsExport (op_at c o).kind → get_or ran.sinks o [] ≡ run.got (input_of c o)
  pub faults : Counts (worked_faults c run) ran
