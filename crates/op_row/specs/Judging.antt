-- What expressions say of one row: a test, a case, the values that are set, or a fault.
use Rattle.std.specs.Prelude.{ℕ, ◌+◌, ℤ, true, if◌then◌else◌, List, [], ◌∷◌, take, Result, Ok, Err}
use Rattle.std.specs.Ordering.{int_eq}
use Rattle.std.specs.List.{flat_map}
use Rattle.ds_value.specs.declared.value.Value.{Value}
use Rattle.ds_value.specs.Canonical.{canonical_bytes}
use Rattle.op_base.specs.declared.fault.Fault.{Fault}
use Rattle.op_base.specs.declared.fault.FaultKind.{FaultKind}
use Rattle.op_base.specs.declared.fault.FaultKind.TheVariants as fault
use Rattle.op_base.specs.Columns.{Row}
use Rattle.op_base.specs.RowOperators.{Judged, yes, no, fails, Case, case, other, case_fails, Computed, computed, compute_fails}
use Rattle.expr_table.specs.declared.arg.Arg.{Arg}
use Rattle.expr_table.specs.declared.arg.Arg.TheVariants.{Num, Truth}
use Rattle.expr_table.specs.declared.arg.EvalFault.{EvalFault}
use Rattle.expr_table.specs.declared.arg.EvalFault.TheVariants as eval
use Rattle.expr_table.specs.Meaning.{◌>>=◌}
use Rattle.ds_expr.specs.Typed.{TypedTree}
use Rattle.ds_expr.specs.Values.{value_in}
use Rattle.ds_expr.specs.Assigning.{assigned}
use Rattle.op_row.specs.declared.setting.Set.{Set}

-- want of memory is the fault of no value
abbrev pub fault_kind : EvalFault → FaultKind
fault_kind eval.Overflow = fault.Overflow
fault_kind eval.ZeroDivisor = fault.ZeroDivisor
fault_kind eval.NullUsed = fault.NullUsed
fault_kind eval.TooLong = fault.TooLong
fault_kind eval.Memory = fault.TooLong

-- the fault of a row, with the first 64 of its canonical bytes; who runs the operator puts its number
abbrev pub row_fault : FaultKind → Row → Fault
row_fault kind r = record { op = 0; kind = kind; place = 0; bytes = take 64 (flat_map canonical_bytes r) }

-- only true is yes
abbrev pub verdict : Row → Result Arg EvalFault → Judged
verdict r (Ok (Truth true)) = yes
verdict r (Ok x) = no
verdict r (Err why) = fails (row_fault (fault_kind why) r)

-- what a test says of a row
abbrev pub judged : TypedTree → Row → Judged
judged test r = verdict r (value_in r test.node)

-- the place of a number among the cases, the first of which is the i-th
abbrev pub case_at : ℤ → ℕ → List ℤ → Case
case_at z i [] = other
case_at z i (c ∷ cases) = if int_eq c z then case i else case_at z (i + 1) cases

-- null is none of the cases
abbrev pub case_with : List ℤ → Arg → Case
case_with cases (Num z) = case_at z 0 cases
case_with cases x = other

abbrev pub case_in : List ℤ → Row → Result Arg EvalFault → Case
case_in cases r (Ok x) = case_with cases x
case_in cases r (Err why) = case_fails (row_fault (fault_kind why) r)

-- the case that a row's number is
abbrev pub case_of : TypedTree → List ℤ → Row → Case
case_of on cases r = case_in cases r (value_in r on.node)

-- an expression's value in the input row, assigned to its field
abbrev pub set_value : Row → Set → Result Value EvalFault
set_value r set = value_in r set.expr.node >>= assigned set.field set.expr.typing.scale

-- each in turn, until one has a fault
abbrev pub set_values : Row → List Set → Result (List Value) EvalFault
set_values r [] = Ok []
set_values r (set ∷ sets) = set_value r set >>= λ v. set_values r sets >>= λ vs. Ok (v ∷ vs)

abbrev pub computed_in : Row → Result (List Value) EvalFault → Computed
computed_in r (Ok values) = computed values
computed_in r (Err why) = compute_fails (row_fault (fault_kind why) r)

-- the values that are set in a row, or the first fault
abbrev pub compute : List Set → Row → Computed
compute sets r = computed_in r (set_values r sets)
