-- Rows in order, computed: ascending, descending, nulls first, no key, and ties.
use Rattle.std.proofs.Common.{◌≡◌, ◌≢◌, ℕ, Bool, true, false, List, [], ◌∷◌, pos, refl, codes}
use Rattle.std.specs.declared.cmp.Ordering.TheVariants.{Less, Equal, Greater}
use Rattle.ds_value.specs.declared.value.Value.{Value}
use Rattle.ds_value.specs.declared.value.Value.TheVariants.{Null, Int, UInt, Text}
use Rattle.ds_schema.specs.declared.key.Key.{Key}
use Rattle.ds_schema.specs.Rows.{row_cmp}

by : ℕ → Bool → Key
by col desc = record { col = col; desc = desc }

seven : List Value
seven = Int (pos 7) ∷ Text (codes "b") ∷ []

eight : List Value
eight = Int (pos 8) ∷ Text (codes "a") ∷ []

missing : List Value
missing = Null ∷ Text (codes "b") ∷ []

ascending : row_cmp (by 0 false ∷ []) seven eight ≡ Less
unfolding by seven eight
ascending = refl

descending : row_cmp (by 0 true ∷ []) seven eight ≡ Greater
unfolding by seven eight
descending = refl

second_key : row_cmp (by 1 false ∷ by 0 true ∷ []) seven missing ≡ Less
unfolding by seven missing
second_key = refl

nulls_first : row_cmp (by 0 false ∷ []) missing seven ≡ Less
unfolding by seven missing
nulls_first = refl

nulls_last_descending : row_cmp (by 0 true ∷ []) missing seven ≡ Greater
unfolding by seven missing
nulls_last_descending = refl

no_key : row_cmp [] seven eight ≡ Equal
no_key = refl

tie : row_cmp (by 1 false ∷ []) seven missing ≡ Equal
unfolding by seven missing
tie = refl

-- a text is above a number, whatever they hold
variants_first : row_cmp (by 0 false ∷ []) (UInt 3 ∷ []) (Int (pos 9) ∷ []) ≡ Greater
unfolding by
variants_first = refl

-- the direction counts
direction_counts : row_cmp (by 0 true ∷ []) seven eight ≢ Less
unfolding by seven eight
direction_counts e = cc

-- null isn't the last
null_is_not_last : row_cmp (by 0 false ∷ []) missing seven ≢ Greater
unfolding by seven missing
null_is_not_last e = cc
