-- The operators that work row by row, as rules: copy, filter, switch, modify, transform and the sinks.
use Rattle.std.specs.Prelude.{ℕ, zero, suc, Bool, true, false, cond, List, [], ◌∷◌, map, length, ◌==◌}
use Rattle.std.specs.List.{filter}
use Rattle.ds_value.specs.declared.value.Value.{Value}
use Rattle.ds_schema.specs.Rows.{at, val}
use Rattle.op_base.specs.declared.fault.Fault.{Fault}
use Rattle.op_base.specs.Columns.{Row, Passing, everything, only, pairs_of, all_columns, is_in}

-- what a row alone gives to each output, its faults, and what passes to each output
pub record RowRule : Type 0 where
  pub rows : ℕ → Row → List Row
  pub faults : Row → List Fault
  pub passes : ℕ → Passing

abbrev pub copy_rule : RowRule
copy_rule = record { rows = λ q r. r ∷ []; faults = λ r. []; passes = λ q. everything }

-- what a condition says of a row
pub data Judged : Type 0 where
  yes : Judged
  no : Judged
  fails : Fault → Judged

abbrev pub if_yes : Judged → Row → List Row
if_yes yes r = r ∷ []
if_yes no r = []
if_yes (fails f) r = []

abbrev pub if_no : Judged → Row → List Row
if_no yes r = []
if_no no r = r ∷ []
if_no (fails f) r = []

abbrev pub judged_faults : Judged → List Fault
judged_faults yes = []
judged_faults no = []
judged_faults (fails f) = f ∷ []

-- true to output 0, false to output 1 with -reject
abbrev pub filter_rows : (Row → Judged) → Bool → ℕ → Row → List Row
filter_rows test rejects zero r = if_yes (test r) r
filter_rows test rejects (suc q) r = cond rejects (if_no (test r) r) []

abbrev pub filter_rule : (Row → Judged) → Bool → RowRule
filter_rule test rejects = record { rows = filter_rows test rejects; faults = λ r. judged_faults (test r); passes = λ q. everything }

-- a case by its number, or none of them
pub data Case : Type 0 where
  case : ℕ → Case
  other : Case
  case_fails : Fault → Case

abbrev pub case_rows : ℕ → Bool → Case → ℕ → Row → List Row
case_rows cases rejects (case i) q r = cond (i == q) (r ∷ []) []
case_rows cases rejects other q r = cond rejects (cond (cases == q) (r ∷ []) []) []
case_rows cases rejects (case_fails f) q r = []

abbrev pub case_faults : Case → List Fault
case_faults (case i) = []
case_faults other = []
case_faults (case_fails f) = f ∷ []

abbrev pub switch_rule : ℕ → (Row → Case) → Bool → RowRule
switch_rule cases on rejects = record { rows = λ q r. case_rows cases rejects (on r) q r; faults = λ r. case_faults (on r); passes = λ q. everything }

-- kept columns in their order, under new names
abbrev pub modify_rule : List ℕ → RowRule
modify_rule kept = record { rows = λ q r. val kept r ∷ []; faults = λ r. []; passes = λ q. only (pairs_of kept (all_columns (length kept))) }

-- the values of what is set, or the first fault
pub data Computed : Type 0 where
  computed : List Value → Computed
  compute_fails : Fault → Computed

-- the value of column c: what is set there, or the row's
abbrev pub cell : List ℕ → List Value → Row → ℕ → Value
cell [] values r c = at r c
cell (t ∷ targets) [] r c = at r c
cell (t ∷ targets) (v ∷ values) r c = cond (t == c) v (cell targets values r c)

abbrev pub set_rows : ℕ → List ℕ → Computed → Row → List Row
set_rows columns targets (computed values) r = map (cell targets values r) (all_columns columns) ∷ []
set_rows columns targets (compute_fails f) r = []

abbrev pub failed_rows : Computed → Row → List Row
failed_rows (computed values) r = []
failed_rows (compute_fails f) r = r ∷ []

abbrev pub failed_faults : Bool → Computed → List Fault
failed_faults rejects (computed values) = []
failed_faults rejects (compute_fails f) = cond rejects [] (f ∷ [])

abbrev pub transform_rows : ℕ → List ℕ → (Row → Computed) → Bool → ℕ → Row → List Row
transform_rows columns targets compute rejects zero r = set_rows columns targets (compute r) r
transform_rows columns targets compute rejects (suc q) r = cond rejects (failed_rows (compute r) r) []

abbrev pub not_set : List ℕ → List ℕ → List ℕ
not_set targets columns = filter (λ c. cond (is_in c targets) false true) columns

abbrev pub transform_passes : ℕ → List ℕ → ℕ → Passing
transform_passes width targets zero = only (pairs_of (not_set targets (all_columns width)) (not_set targets (all_columns width)))
transform_passes width targets (suc q) = everything

-- a present column is replaced in its place, a new one appended; a row that faults goes to output 1 with -reject, without a fault
abbrev pub transform_rule : ℕ → ℕ → List ℕ → (Row → Computed) → Bool → RowRule
transform_rule width columns targets compute rejects = record { rows = transform_rows columns targets compute rejects; faults = λ r. failed_faults rejects (compute r); passes = transform_passes width targets }

-- what is written gives no output; what can't be written is a fault
abbrev pub sink_rule : (Row → List Fault) → RowRule
sink_rule unwritable = record { rows = λ q r. []; faults = unwritable; passes = λ q. only [] }
