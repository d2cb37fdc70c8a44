-- How many columns, ends and rows there are.
use Rattle.std.proofs.Common.{◌≡◌, ℕ, zero, suc, ◌<◌, refl, sym, ap, ◌∙◌, subst, List, [], ◌∷◌, map, length, arith}
use Rattle.std.specs.List.{AllByRecursion}
use Rattle.ds_schema.specs.declared.key.Key.{Key}
use Rattle.ds_schema.specs.Rows.{cols, val, ways}
use Rattle.op_base.specs.Columns.{Row}
use Rattle.op_base.specs.Meanings.{columns_of}
use Rattle.op_match.specs.declared.side.Side.{Side}
use Rattle.op_match.specs.Waiting.{columns_in, keys_in}

pub length-columns : (keys : List (List Key)) → length (columns_of keys) ≡ length keys
length-columns [] = refl
length-columns (k ∷ keys) = ap suc (length-columns keys)

pub length-sides : (sides : List Side) → length (columns_in sides) ≡ length sides
length-sides [] = refl
length-sides (s ∷ sides) = ap suc (length-sides sides)

pub some_columns : (sides : List Side) → 0 < length sides → 0 < length (columns_in sides)
some_columns sides h = subst (λ n. 0 < n) (sym (length-sides sides)) h

pub length-ways : (keys : List Key) → length (ways keys) ≡ length keys
length-ways [] = refl
length-ways (k ∷ keys) = ap suc (length-ways keys)

pub length-cols : (keys : List Key) → length (cols keys) ≡ length keys
length-cols [] = refl
length-cols (k ∷ keys) = ap suc (length-cols keys)
