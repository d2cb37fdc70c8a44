-- What the stream of an operator gives, against what the operator means on a partition.
use Rattle.std.specs.Prelude.{◌≡◌, ℕ, Bool, true, List, [], ◌++◌, length, map, get_or, ⊤}
use Rattle.std.specs.List.{AllByRecursion}
use Rattle.streams.specs.Lists.{lists_from, Interleaves, Merges}
use Rattle.streams.specs.Streams.{Out, Stream, IsStream, Gives, on, faults_out}
use Rattle.ds_schema.specs.Rows.{row_cmp}
use Rattle.op_base.specs.declared.fault.Fault.{Fault}
use Rattle.op_base.specs.Columns.{Row, IsIn}
use Rattle.op_base.specs.Meanings.{Segment}
use Rattle.flow_graph.specs.Charts.{Chart, link_at, links_into, links_from}
use Rattle.flow_graph.specs.Operators.{Op, import, dsread, funnel, funnel_sort}
use Rattle.flow_graph.specs.Runs.{result_on, faults_on}
use Rattle.flow_plan.specs.Data.{Datum, line, wrong, rows_in, step_rows, step_faults}
use Rattle.flow_plan.specs.Planned.{ports_for}

-- the rows at the first ports
abbrev pub rows_at : (ℕ → List Datum) → ℕ → List (List Row)
rows_at lists ports = lists_from (λ i. rows_in (lists i)) 0 ports

-- The file of a source on a partition: the lines of an import, and then its faults of no line; the steps of a segment. Others have none.
abbrev pub IsFileOf : Op → ℕ → List Datum → Type 0
IsFileOf (import lines rejects beyond) p file = file ≡ map line lines ++ map wrong beyond
IsFileOf (dsread segments declared) p file = (step_rows file ≡ get_or (map (λ (s : Segment). s.rows) segments) p []) × (step_faults file ≡ get_or (map (λ (s : Segment). s.faults) segments) p [])
IsFileOf op p file = ⊤

-- What partition p of an operator puts on an output: of a funnel an interleaving of its inputs or the merge of them, of others one list.
abbrev pub GivesOn : Op → ℕ → ℕ → List (List Row) → List Row → Type 0
GivesOn funnel q p inputs rows = Interleaves inputs rows
GivesOn (funnel_sort keys) q p inputs rows = Merges (row_cmp keys) inputs rows
GivesOn op q p inputs rows = rows ≡ result_on op q p inputs

-- a test of each row
abbrev pub AllFit : (Row → Bool) → List Row → Type 0
AllFit test rows = AllByRecursion (λ r. test r ≡ true) rows

-- the rows that came at an operator's ports fit their links
abbrev pub Came : Chart → (ℕ → Row → Bool) → ℕ → (ℕ → List Datum) → Type 0
Came c fits o lists = (l : ℕ) → IsIn l (links_into c o) → AllFit (fits l) (rows_in (lists (link_at c l).port))

-- what was emitted is what the operator means: on each link that leaves it such rows, which fit the link, and its faults
pub record Made (c : Chart) (fits : ℕ → Row → Bool) (o : ℕ) (op : Op) (p : ℕ) (inputs : List (List Row)) (outs : List (Out Datum Fault)) : Type 0 where
  pub rows_are : (l : ℕ) → IsIn l (links_from c o) → GivesOn op (link_at c l).out p inputs (rows_in (on (link_at c l).out outs))
  pub rows_fit : (l : ℕ) → IsIn l (links_from c o) → AllFit (fits l) (rows_in (on (link_at c l).out outs))
  pub faults_are : faults_out outs ≡ faults_on op p inputs

-- Fed the rows of its inputs, or its file, to their ends, the stream emits what the operator means.
pub record Works (c : Chart) (fits : ℕ → Row → Bool) (o : ℕ) (op : Op) (stream : Stream Datum Fault) : Type 0 where
  pub is_stream : IsStream stream
  pub ports : stream.ports ≡ ports_for (length (links_into c o))
  pub works : (p : ℕ) (lists : ℕ → List Datum) (outs : List (Out Datum Fault)) → (links_into c o ≡ [] → IsFileOf op p (lists 0)) → Came c fits o lists → Gives stream lists outs → Made c fits o op p (rows_at lists (length (links_into c o))) outs
