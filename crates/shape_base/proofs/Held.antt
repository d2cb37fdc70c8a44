-- Names at which nothing is wrong name columns.
use Rattle.std.proofs.Common.{◌≡◌, ◌<◌, ◌+◌, ◌∷◌, [], ◌||◌, not, ℕ, suc, List, Bool, true, false, Option, None, cond, refl, arith, length}
use Rattle.std.specs.List.{AllByRecursion}
use Rattle.std.proofs.lemmas.Bool.{and_parts}
use Rattle.op_base.proofs.ColumnLaws.{in_range}
use Rattle.op_base.specs.Columns.{IsIn, Lies, all_columns}
use Rattle.ds_schema.specs.declared.schema.Field.{Field}
use Rattle.ds_schema.specs.Rows.{cols}
use Rattle.shape_base.specs.declared.fault.ShapeWhy.{ShapeWhy}
use Rattle.shape_base.specs.declared.fault.ShapeWhy.TheVariants as why
use Rattle.shape_base.specs.Causes.{first_cause, cause_if}
use Rattle.shape_base.specs.Naming.{is_named, has_column, has_columns, has_keys, column, columns, key_columns, key_cause}
use Rattle.shape_base.proofs.Firsts.{none_head}

within_by : (x : Bool) (r : Bool) (m n : ℕ) → (x || r) ≡ true → (r ≡ true → m < n) → cond (not x) (1 + m) 0 < suc n
within_by true r m n h go = omega arith
within_by false r m n h go = let k = go h in omega (arith, k)

pub column_within : (fields : List Field) (name : List ℕ) → has_column fields name ≡ true → column fields name < length fields
column_within [] name h = cc
column_within (f ∷ fields) name h = within_by (is_named name f) (has_column fields name) (column fields name) (length fields) h (column_within fields name)

pub column_in : (fields : List Field) (name : List ℕ) → has_column fields name ≡ true → IsIn (column fields name) (all_columns (length fields))
column_in fields name h = let w = column_within fields name h in in_range (column fields name) 0 (length fields) (omega arith) (omega (arith, w))

pub names_lie : (fields : List Field) (names : List (List ℕ)) → has_columns fields names ≡ true → Lies (columns fields names) (all_columns (length fields))
names_lie fields [] h = tt
names_lie fields (name ∷ names) h = let parts = and_parts (has_column fields name) (has_columns fields names) h in (column_in fields name parts.0, names_lie fields names parts.1)

-- the same as a bound
pub names_within : (fields : List Field) (names : List (List ℕ)) → has_columns fields names ≡ true → AllByRecursion (λ c. c < length fields) (columns fields names)
names_within fields [] h = tt
names_within fields (name ∷ names) h = let parts = and_parts (has_column fields name) (has_columns fields names) h in (column_within fields name parts.0, names_within fields names parts.1)

pub keys_lie : (fields : List Field) (keys : List (List ℕ × Bool)) → has_keys fields keys ≡ true → Lies (cols (key_columns fields keys)) (all_columns (length fields))
keys_lie fields [] h = tt
keys_lie fields (k ∷ keys) h = let parts = and_parts (has_column fields (k.0)) (has_keys fields keys) h in (column_in fields (k.0) parts.0, keys_lie fields keys parts.1)

-- no cause, so what is asked holds
pub held : (x : Bool) (why : ShapeWhy) → cause_if (not x) why ≡ None → x ≡ true
held true why e = refl
held false why e = cc

pub unheld : (x : Bool) (why : ShapeWhy) → cause_if x why ≡ None → x ≡ false
unheld true why e = cc
unheld false why e = refl

pub has_by : (fields : List Field) (key : List (List ℕ × Bool)) (rest : List (Option ShapeWhy)) → first_cause (key_cause key fields ∷ rest) ≡ None → has_keys fields key ≡ true
has_by fields key rest e = held (has_keys fields key) why.Field (none_head (key_cause key fields) rest e).0
