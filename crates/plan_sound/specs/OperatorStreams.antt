-- The streams of the operators, and that each gives, partition by partition, what its operator means.
use Rattle.std.specs.Prelude.{◌≡◌, ℕ, ◌<◌, ◌==◌, Bool, true, ◌&&◌, List, [], ◌∷◌, length, map, ⊤}
use Rattle.std.specs.List.{list_all}
use Rattle.streams.specs.Lists.{lists_from}
use Rattle.streams.specs.Streams.{Out, IsStream, Gives, on, faults_out}
use Rattle.streams.specs.Operators.{any_stream, ordered_stream, merge_stream}
use Rattle.ds_schema.specs.declared.key.Key.{Key}
use Rattle.ds_schema.specs.Rows.{row_cmp}
use Rattle.ds_place.specs.declared.place.Place.{Place}
use Rattle.std.specs.Prelude.{Option}
use Rattle.op_base.specs.declared.fault.Fault.{Fault}
use Rattle.op_base.specs.declared.missing.Missing.{Missing}
use Rattle.op_base.specs.Columns.{Row, IsIn}
use Rattle.op_base.specs.Meanings.{Line, Segment, Join, Merging, Looking, input}
use Rattle.op_base.specs.RowOperators.{RowRule}
use Rattle.op_base.specs.Standing.{RowStream}
use Rattle.op_row.specs.ByRow.{by_row as by_row_stream}
use Rattle.op_order.specs.Ordered.{tsort_stream, remdup_stream}
use Rattle.op_group.specs.declared.agg.Agg.{Agg}
use Rattle.op_group.specs.Results.{grouping}
use Rattle.op_join.specs.Joining.{join_stream}
use Rattle.op_lookup.specs.Laws.{IsLooking}
use Rattle.op_lookup.specs.Looked.{looked_stream}
use Rattle.op_match.specs.Captures.{capturing, capture_stream}
use Rattle.op_match.specs.Merges as match
use Rattle.flow_graph.specs.Charts.{Chart, link_at, links_into, links_from}
use Rattle.flow_graph.specs.FlowShape.{PortsInOrder}
use Rattle.flow_graph.specs.Operators.{Op, import, dsread, by_row, tsort, remdup, group, join, merge, lookup, changecapture, funnel, funnel_sequence, funnel_sort}
use Rattle.flow_graph.specs.RowRules.{at_op, numbered}
use Rattle.flow_graph.specs.Runs.{faults_on}
use Rattle.flow_ops.specs.Keyed.{grouping_at}
use Rattle.kind_streams.specs.OfKinds.{group_stream}
use Rattle.flow_plan.specs.Data.{numbered_at, import_stream, dsread_stream}
use Rattle.plan_sound.specs.Working.{GivesOn, AllFit, Works}

-- Fed lists that suit it to their ends, a stream gives on each of its outputs what the operator means on a partition, and so its faults, with the operator's number.
pub record Means (o ports outs : ℕ) (suits : List (List Row) → Bool) (op : Op) (stream : RowStream) : Type 0 where
  pub is_stream : IsStream stream
  pub ports_are : stream.ports ≡ ports
  pub rows_are : (lists : ℕ → List Row) (given : List (Out Row Fault)) → suits (lists_from lists 0 ports) ≡ true → Gives stream lists given → (q p : ℕ) → q < outs → GivesOn op q p (lists_from lists 0 ports) (on q given)
  pub faults_are : (lists : ℕ → List Row) (given : List (Out Row Fault)) → suits (lists_from lists 0 ports) ≡ true → Gives stream lists given → (p : ℕ) → map (at_op o) (faults_out given) ≡ faults_on op p (lists_from lists 0 ports)

abbrev pub any_lists : List (List Row) → Bool
any_lists lists = true

-- the same lookup, where its faults are of the operator with this number
abbrev pub looking_at : ℕ → Looking → Looking
looking_at o k = record { main_keys = k.main_keys; reference_keys = k.reference_keys; main = k.main; others = k.others; missing = k.missing; fault = λ a. at_op o (k.fault a) }

-- rows of one width: the main ones, and those of changes
abbrev pub have_width : ℕ → List Row → Bool
have_width width rows = list_all (λ r. length r == width) rows

abbrev pub main_width : ℕ → List (List Row) → Bool
main_width width lists = have_width width (input 0 lists)

abbrev pub both_width : ℕ → List (List Row) → Bool
both_width width lists = have_width width (input 0 lists) && have_width width (input 1 lists)

-- each operator, of the number o
pub record OperatorsMean (o : ℕ) : Type 0 where
  pub by_row : (rule : RowRule) (outs : ℕ) → Means o 1 outs any_lists (by_row (numbered o rule)) (by_row_stream rule outs)
  pub tsort : (keys : List Key) → Means o 1 1 any_lists (tsort keys) (tsort_stream keys)
  pub remdup : (last : Bool) (keys : List Key) → Means o 1 1 any_lists (remdup last keys) (remdup_stream keys last)
  pub group : (keys : List Key) (hashes : Bool) (aggs : List Agg) → Means o 1 1 any_lists (group (grouping_at o (grouping keys hashes aggs))) (group_stream keys hashes aggs)
  pub join : (j : Join) → Means o 2 1 any_lists (join j) (join_stream j)
  pub merge : (m : Merging) → 0 < length m.keys → Means o (length m.keys) (length m.keys) any_lists (merge m) (match.merge_stream m)
  pub lookup : (values : ℕ) (main reference : List ℕ) (width : ℕ) (missing : Missing) (k : Looking) → IsLooking values main reference width missing k → Means o 2 2 (main_width values) (lookup (looking_at o k)) (looked_stream main reference width missing)
  pub changecapture : (keys : List Key) (values : List ℕ) (keep : Bool) (width : ℕ) → Means o 2 1 (both_width width) (changecapture (capturing keys values keep width)) (capture_stream keys values keep)
  pub funnel : (n : ℕ) → 0 < n → Means o n 1 any_lists funnel (any_stream n)
  pub funnel_sequence : (n : ℕ) → 0 < n → Means o n 1 any_lists funnel_sequence (ordered_stream n)
  pub funnel_sort : (n : ℕ) (keys : List Key) → 0 < n → Means o n 1 any_lists (funnel_sort keys) (merge_stream n (row_cmp keys))

abbrev pub StreamsMean : Type 0
StreamsMean = (o : ℕ) → OperatorsMean o

-- the rows of an operator's inputs fit their links
abbrev pub InputsFit : (ℕ → Row → Bool) → List ℕ → List (List Row) → Type 0
InputsFit fits [] [] = ⊤
InputsFit fits [] (rows ∷ lists) = ⊥
InputsFit fits (l ∷ ins) [] = ⊥
InputsFit fits (l ∷ ins) (rows ∷ lists) = AllFit (fits l) rows × InputsFit fits ins lists

-- of rows that fit its inputs an operator makes rows that fit the links that leave it
abbrev pub Stays : Chart → (ℕ → Row → Bool) → ℕ → Op → Type 0
Stays c fits o op = (l p : ℕ) (inputs : List (List Row)) (rows : List Row) → IsIn l (links_from c o) → InputsFit fits (links_into c o) inputs → GivesOn op (link_at c l).out p inputs rows → AllFit (fits l) rows

-- Such an operator works in a flow, where its inputs are as many as its ports, its links are at its outputs, and what fits its inputs suits it.
abbrev pub MeaningWorks : Type 0
MeaningWorks = (c : Chart) (fits : ℕ → Row → Bool) (o outs : ℕ) (suits : List (List Row) → Bool) (op : Op) (stream : RowStream) → PortsInOrder c o → 0 < length (links_into c o) → ((l : ℕ) → IsIn l (links_from c o) → (link_at c l).out < outs) →
    ((inputs : List (List Row)) → InputsFit fits (links_into c o) inputs → suits inputs ≡ true) → Stays c fits o op → Means o (length (links_into c o)) outs suits op stream → Works c fits o op (numbered_at o stream)

-- So do the sources.
pub record SourcesWork : Type 0 where
  pub import : (c : Chart) (fits : ℕ → Row → Bool) (o : ℕ) (lines : List Line) (rejects : Bool) (beyond : List Fault) → links_into c o ≡ [] → ((l : ℕ) → IsIn l (links_from c o) → (link_at c l).out < 2) →
      Stays c fits o (import lines rejects beyond) → Works c fits o (import lines rejects beyond) (import_stream rejects)
  pub dsread : (c : Chart) (fits : ℕ → Row → Bool) (o : ℕ) (segments : List Segment) (declared : Option Place) → links_into c o ≡ [] → ((l : ℕ) → IsIn l (links_from c o) → (link_at c l).out < 1) →
      Stays c fits o (dsread segments declared) → Works c fits o (dsread segments declared) dsread_stream
