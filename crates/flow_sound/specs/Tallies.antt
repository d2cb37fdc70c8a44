-- The faults of a flow, counted operator by operator: those of its imports, then those of the operators that neither import nor export, then those of its exports.
use Rattle.std.specs.Prelude.{ℕ, ◌<◌, Bool, List, [], ◌∷◌, ◌++◌, length}
use Rattle.std.specs.List.{flat_map}
use Rattle.std.specs.List.Sorted.{IsPermutation}
use Rattle.op_base.specs.declared.fault.Fault.{Fault}
use Rattle.op_base.specs.Columns.{Row}
use Rattle.op_base.specs.Lists.{joined}
use Rattle.flow_graph.specs.declared.flow.Flow.{Flow}
use Rattle.flow_graph.specs.declared.op_kind.OpKind.{OpKind}
use Rattle.flow_graph.specs.declared.op_kind.OpKind.TheVariants as kind
use Rattle.flow_graph.specs.declared.parts.Stored.{Stored}
use Rattle.flow_graph.specs.declared.route.Choice.{Choice}
use Rattle.flow_graph.specs.declared.state.State.{State}
use Rattle.flow_graph.specs.Charts.{Chart, op_at}
use Rattle.flow_graph.specs.Operators.{Op, faults}
use Rattle.flow_graph.specs.Runs.{Lists, meant_faults}
use Rattle.flow_ops.specs.Kept.{if_between}
use Rattle.flow_rules.specs.Verdicts.{nodes_of}
use Rattle.flow_shape.specs.Refusals.{all_ops}
use Rattle.flow_rules.specs.Exports.{IsExport, input_of}
use Rattle.flow_sound.specs.Promise.{AcceptedRun}

-- what is found, where an operator is an import, or an export
abbrev pub if_import : OpKind → List Fault → List Fault
if_import (kind.Import file schema delim fixed reject) found = found
if_import k found = []

abbrev pub if_export : OpKind → List Fault → List Fault
if_export (kind.Export file delim fixed) found = found
if_export k found = []

-- the faults of an operator, where it imports
abbrev pub faults_read : Chart → (ℕ → Op) → ℕ → List Fault
faults_read c ops o = if_import (op_at c o).kind (faults (ops o) [])

-- what its partitions failed with, where it neither imports nor exports
abbrev pub faults_between : Chart → (ℕ → List (List Fault)) → ℕ → List Fault
faults_between c failed o = if_between (op_at c o).kind (joined (failed o))

-- and its faults where it exports these rows of the link into it
abbrev pub faults_written : Chart → (ℕ → Op) → (ℕ → List Row) → ℕ → List Fault
faults_written c ops rows o = if_export (op_at c o).kind (faults (ops o) (rows (input_of c o) ∷ []))

-- before anything is written: those of imports, and what the operators between failed with, by the numbers of the operators
abbrev pub faults_before : Chart → (ℕ → Op) → (ℕ → List (List Fault)) → List Fault
faults_before c ops failed = flat_map (faults_read c ops) (all_ops c) ++ flat_map (faults_between c failed) (all_ops c)

-- all of a run, where the exports write the rows of all their partitions
abbrev pub tallied : Chart → (ℕ → Op) → Lists → List Fault
tallied c ops run = faults_before c ops run.failed ++ flat_map (faults_written c ops (λ l. joined (run.got l))) (all_ops c)

-- They are the faults of the meaning.
abbrev pub RunIsTallied : Type 0
RunIsTallied = (regains : Bool) (flow : Flow) (dict : List Stored) (c : Chart) (states : List State) (choices : List Choice) (ops : ℕ → Op) (whole : ℕ → List Row) (run : Lists) → AcceptedRun regains flow dict c states choices ops whole run →
    IsPermutation (tallied c ops run) (meant_faults whole (nodes_of c ops))

-- So are those of each export.
abbrev pub ExportIsTallied : Type 0
ExportIsTallied = (regains : Bool) (flow : Flow) (dict : List Stored) (c : Chart) (states : List State) (choices : List Choice) (ops : ℕ → Op) (whole : ℕ → List Row) (run : Lists) → AcceptedRun regains flow dict c states choices ops whole run →
    (o : ℕ) → o < length c.flow.ops → IsExport (op_at c o).kind → IsPermutation (faults (ops o) (joined (run.got (input_of c o)) ∷ [])) (faults (ops o) (whole (input_of c o) ∷ []))
