-- What lookup gives of whole lists: what it means.
use Rattle.std.specs.Prelude.{◌≡◌, ℕ, ◌<◌, ◌≤◌, List, [], length}
use Rattle.std.specs.List.{flat_map, AllByRecursion}
use Rattle.streams.specs.Streams.{Out, Gives, on, faults_out}
use Rattle.ds_schema.specs.Rows.{cols, val, sub}
use Rattle.op_base.specs.declared.fault.Fault.{Fault}
use Rattle.op_base.specs.declared.missing.Missing.{Missing}
use Rattle.op_base.specs.Columns.{Row, all_columns}
use Rattle.op_base.specs.Meanings.{Looking, looked_row, looked_fault}
use Rattle.op_lookup.specs.Looked.{others_of, missing_fault, looking, looked_stream}

-- on outputs 0 and 1, in the order of the main list, what is meant for each main row with the reference rows that have its key values; the faults of each likewise
pub record Finds (by : Row → Looking) (lists : ℕ → List Row) (given : List (Out Row Fault)) : Type 0 where
  pub rows_are : (q : ℕ) → q < 2 → on q given ≡ flat_map (λ a. looked_row (by a) q a (sub (cols (by a).reference_keys) (val (cols (by a).main_keys) a) (lists 1))) (lists 0)
  pub no_more : (q : ℕ) → 2 ≤ q → on q given ≡ []
  pub faults_are : faults_out given ≡ flat_map (λ a. looked_fault (by a) a (sub (cols (by a).reference_keys) (val (cols (by a).main_keys) a) (lists 1))) (lists 0)

-- fed any two lists, lookup gives what it means for main rows of as many values as each has
abbrev pub LookupsFind : Type 0
LookupsFind = (main reference : List ℕ) (width : ℕ) (missing : Missing) (lists : ℕ → List Row) (given : List (Out Row Fault)) →
    Gives (looked_stream main reference width missing) lists given → Finds (λ a. looking (length a) main reference width missing) lists given

-- a lookup by these columns of main rows of so many values, its keys ascending or descending
pub record IsLooking (values : ℕ) (main reference : List ℕ) (width : ℕ) (missing : Missing) (k : Looking) : Type 0 where
  pub main_is : cols k.main_keys ≡ main
  pub reference_is : cols k.reference_keys ≡ reference
  pub own_is : k.main ≡ all_columns values
  pub others_are : k.others ≡ others_of reference width
  pub missing_is : k.missing ≡ missing
  pub fault_is : (a : Row) → k.fault a ≡ missing_fault a

-- where all main rows have one number of values, one meaning serves them all
abbrev pub LookupsFindInOneWay : Type 0
LookupsFindInOneWay = (values : ℕ) (main reference : List ℕ) (width : ℕ) (missing : Missing) (k : Looking) (lists : ℕ → List Row) (given : List (Out Row Fault)) → IsLooking values main reference width missing k → AllByRecursion (λ a. length a ≡ values) (lists 0) →
    Gives (looked_stream main reference width missing) lists given → Finds (λ a. k) lists given

-- all columns of a row are the row itself
abbrev pub OwnValuesStay : Type 0
OwnValuesStay = (a : Row) → val (all_columns (length a)) a ≡ a
