-- What holds of the order of rows by a key list.
use Rattle.std.specs.Prelude.{◌≡◌, ◌↔◌, List}
use Rattle.std.specs.Cmp.{IsTotalOrder}
use Rattle.std.specs.declared.cmp.Ordering.TheVariants.{Equal}
use Rattle.ds_value.specs.declared.value.Value.{Value}
use Rattle.ds_schema.specs.declared.key.Key.{Key}
use Rattle.ds_schema.specs.Rows.{cols, val, row_cmp}

-- whatever the keys, any two rows have an order, which is transitive
abbrev pub RowOrderIsTotal : Type 0
RowOrderIsTotal = (keys : List Key) → IsTotalOrder (row_cmp keys)

-- rows are equal in the order exactly where they have the same values in the keys' columns
abbrev pub EqualRowsAgree : Type 0
EqualRowsAgree = (keys : List Key) (a b : List Value) → (row_cmp keys a b ≡ Equal) ↔ (val (cols keys) a ≡ val (cols keys) b)
