-- The inputs of a flow: an import has the file that it reads, by its operator's number.
use Rattle.std.specs.Prelude.{◌≡◌, ◌<◌, ℕ, List, length, get_or, Option, Some, None}
use Rattle.std.specs.List.{sum_by}
use Rattle.ds_port.specs.FileMap.{FileMap, file_at}
use Rattle.flow_graph.specs.Charts.{no_op}
use Rattle.flow_graph.specs.declared.flow.OpSpec.{OpSpec}
use Rattle.flow_graph.specs.declared.op_kind.OpKind.{OpKind}
use Rattle.flow_graph.specs.declared.op_kind.OpKind.TheVariants as kind

-- an import has an input, whose rest is all of its file where files tell; another operator has none
abbrev pub IsInput : {I : Type 0} → Type 0 → (I → List ℕ) → FileMap → OpKind → Option I → Type 0
IsInput tells rest files (kind.Import file schema delim fixed reject) (Some input) = tells → file_at files file ≡ Some (rest input)
IsInput tells rest files (kind.Import file schema delim fixed reject) None = ⊥
IsInput tells rest files k (Some input) = ⊥
IsInput tells rest files k None = Unit {0}

-- each operator has its own
pub record AreInputs {I : Type 0} (tells : Type 0) (rest : I → List ℕ) (files : FileMap) (ops : List OpSpec) (inputs : List (Option I)) : Type 0 where
  pub count : length inputs ≡ length ops
  pub each : (o : ℕ) → o < length ops → IsInput tells rest files (get_or ops o no_op).kind (get_or inputs o None)

abbrev pub one_if_some : {I : Type 0} → Option I → ℕ
one_if_some None = 0
one_if_some (Some input) = 1

-- how many inputs there are
abbrev pub number_of : {I : Type 0} → List (Option I) → ℕ
number_of inputs = sum_by one_if_some inputs

abbrev pub faults_of : {I : Type 0} → (I → ℕ) → Option I → ℕ
faults_of faults None = 0
faults_of faults (Some input) = faults input

-- the faults of all inputs
abbrev pub all_faults : {I : Type 0} → (I → ℕ) → List (Option I) → ℕ
all_faults faults inputs = sum_by (faults_of faults) inputs
