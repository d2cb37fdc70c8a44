-- What imports have of their files: by operator, then by link.
use Rattle.std.specs.Prelude.{◌≡◌, ◌<◌, ◌==◌, ◌&&◌, not, if◌then◌else◌, ℕ, zero, suc, Bool, false, List, [], length, get_or, All, Some}
use Rattle.std.specs.List.{flat_map, range_with_len, AllByRecursion}
use Rattle.ds_port.specs.FileMap.{FileMap, file_at}
use Rattle.ds_text.specs.Forms.{FormFits}
use Rattle.op_base.specs.Columns.{Row}
use Rattle.flow_files.specs.declared.tally.Tally.{Tally}
use Rattle.flow_files.specs.Lines.{Imports}
use Rattle.flow_files.specs.Tallies.{Grows}
use Rattle.flow_graph.specs.declared.flow.LinkSpec.{LinkSpec}
use Rattle.flow_graph.specs.declared.op_kind.OpKind.{OpKind}
use Rattle.flow_graph.specs.declared.op_kind.OpKind.TheVariants as kind
use Rattle.flow_graph.specs.Charts.{Chart, op_at, link_at}
use Rattle.flow_graph.specs.Fitting.{FitsFields}
use Rattle.flow_graph.specs.Operators.{Op, result}
use Rattle.op_shape.specs.Options.{line_fields}
use Rattle.flow_shape.specs.Refusals.{all_ops}
use Rattle.flow_sound.specs.Kinds.{AreOfKinds}
use Rattle.flow_sound.specs.Tallies.{faults_read}
use Rattle.list_run.specs.Runnable.{OpsAre}
use Rattle.osh_ends.specs.FlowFiles.{IsOp, form}

-- the form of an import's file suits its columns
abbrev pub CanRead : OpKind → Type 0
CanRead (kind.Import file schema delim fixed reject) = FormFits schema (form delim fixed)
CanRead k = Unit {0}

-- an operator's file was read, if it has one: its rows, those of the lines that it rejects, and its faults in the tally
abbrev pub ReadsFile : FileMap → ℕ → OpKind → List Row → List Row → Tally → Tally → Type 0
ReadsFile files o (kind.Import file schema delim fixed reject) rows rejected old new = (bytes : List ℕ) × (file_at files file ≡ Some bytes) × Imports (form delim fixed) schema o reject bytes rows rejected old new
ReadsFile files o k rows rejected old new = (rows ≡ []) × (rejected ≡ []) × Grows old new []

-- the rows of an import fit its schema, and a row of a line the fields of rejected lines; no line is rejected unless the import says so, and another operator has no rows
abbrev pub RowsSuit : OpKind → List Row → List Row → Type 0
RowsSuit (kind.Import file schema delim fixed reject) rows rejected = AllByRecursion (FitsFields schema) rows × AllByRecursion (FitsFields line_fields) rejected × (reject ≡ false → rejected ≡ [])
RowsSuit k rows rejected = (rows ≡ []) × (rejected ≡ [])

-- what an operator gives on output q where it imports
abbrev pub rows_read : ℕ → OpKind → Op → List Row
rows_read q (kind.Import file schema delim fixed reject) op = result op q []
rows_read q k op = []

-- the first n operators had their files read, with these rows and rejected lines by operator
pub record ReadTo (files : FileMap) (c : Chart) (n : ℕ) (rows rejected : List (List Row)) (old new : Tally) : Type 0 where
  pub ops : ℕ → Op
  pub are : (o : ℕ) → o < n → IsOp files c o (op_at c o).kind (ops o)
  pub rows_are : (o : ℕ) → o < n → get_or rows o [] ≡ rows_read 0 (op_at c o).kind (ops o)
  pub rejected_are : (o : ℕ) → o < n → get_or rejected o [] ≡ rows_read 1 (op_at c o).kind (ops o)
  pub tally : Grows old new (flat_map (faults_read c ops) (range_with_len 0 n))

abbrev pub AllSuit : Chart → ℕ → List (List Row) → List (List Row) → Type 0
AllSuit c n rows rejected = (o : ℕ) → o < n → RowsSuit (op_at c o).kind (get_or rows o []) (get_or rejected o [])

-- rows are on output 0, rejected lines on output 1
abbrev pub on_output : ℕ → List Row → List Row → List Row
on_output zero rows rejected = rows
on_output (suc q) rows rejected = rejected

-- what is on a link, by what operators read
abbrev pub rows_for : List (List Row) → List (List Row) → LinkSpec → List Row
rows_for rows rejected link = on_output link.out (get_or rows link.from []) (get_or rejected link.from [])

abbrev pub rows_on : Chart → List (List Row) → List (List Row) → ℕ → List Row
rows_on c rows rejected l = rows_for rows rejected (link_at c l)

-- two links that have the same rows of an operator
abbrev pub is_same : LinkSpec → LinkSpec → Bool
is_same a b = (a.from == b.from) && (if a.out == 0 then b.out == 0 else not (b.out == 0))

-- the rows by link suit a run, whatever the files hold
pub record CanFeed (c : Chart) (sources : List (List Row)) : Type 0 where
  pub given : length sources ≡ length c.flow.links
  pub rows : (l : ℕ) → l < length c.flow.links → All (FitsFields (get_or c.schemas l [])) (get_or sources l [])
  pub kinds : (ops : ℕ → Op) × AreOfKinds c ops × OpsAre c sources ops

-- the rows by link are those of the files, whose faults were tallied
pub record Sourced (files : FileMap) (c : Chart) (sources : List (List Row)) (old new : Tally) : Type 0 where
  pub ops : ℕ → Op
  pub are : (o : ℕ) → o < length c.flow.ops → IsOp files c o (op_at c o).kind (ops o)
  pub give : OpsAre c sources ops
  pub tally : Grows old new (flat_map (faults_read c ops) (all_ops c))
