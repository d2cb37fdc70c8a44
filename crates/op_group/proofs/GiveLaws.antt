-- The key values of rows that suit.
use Rattle.std.proofs.Common.{◌≡◌, ℕ, zero, suc, ◌+◌, ◌<◌, true, List, [], ◌∷◌, ◌++◌, length, take, get_or, refl, sym, ap, ap₂, ◌∙◌, subst, append-nil, arith, add-one}
use Rattle.std.specs.Prelude.{nat_lt}
use Rattle.std.specs.List.{All, AllByRecursion, flat_map, list_all}
use Rattle.std.proofs.lemmas.Bool.{ltb-true}
use Rattle.std.proofs.lemmas.List.{get_or_default}
use Rattle.std.proofs.lemmas.List.Concat.{flat_map-append}
use Rattle.streams.proofs.Basics.{and_left, and_right}
use Rattle.ds_value.specs.declared.value.Value.{Value}
use Rattle.ds_value.specs.declared.value.Value.TheVariants.{Null, Int, UInt, Dec, Text, Date}
use Rattle.ds_value.specs.Canonical.{canonical_bytes, IsHeld, IsShort}
use Rattle.ds_schema.specs.declared.key.Key.{Key}
use Rattle.ds_schema.specs.Rows.{at, val, cols, KeyInWidth}
use Rattle.op_base.specs.Columns.{Row, is_short}
use Rattle.op_base.proofs.All.{all_append}
use Rattle.op_group.specs.declared.agg.Agg.{Agg}
use Rattle.op_group.specs.Groups.{agg_suits, row_suits}

in_keys : (keys : List Key) (row : Row) → list_all (λ c. nat_lt c (length row)) (cols keys) ≡ true → All (KeyInWidth row) keys
in_keys [] row h k d lt = absurd (omega arith)
in_keys (key ∷ keys) row h zero d lt = ltb-true _ _ (and_left _ _ h)
in_keys (key ∷ keys) row h (suc k) d lt = in_keys keys row (and_right _ _ h) k d (omega arith)

pub keys_there : (keys : List Key) (aggs : List Agg) (row : Row) → row_suits keys aggs row ≡ true → All (KeyInWidth row) keys
keys_there keys aggs row h = in_keys keys row (and_left _ _ h)

pub aggs_there : (keys : List Key) (aggs : List Agg) (row : Row) → row_suits keys aggs row ≡ true → list_all (agg_suits row) aggs ≡ true
aggs_there keys aggs row h = and_left _ _ (and_right _ _ h)

short_is : (v : Value) → is_short v ≡ true → IsShort v
short_is Null h = tt
short_is (Int z) h = tt
short_is (UInt n) h = tt
short_is (Dec z) h = tt
short_is (Text b) h = ltb-true _ _ h
short_is (Date z) h = tt

at_short : (row : Row) (col : ℕ) → list_all is_short row ≡ true → IsShort (at row col)
at_short [] col h = tt
at_short (v ∷ row) zero h = short_is v (and_left _ _ h)
at_short (v ∷ row) (suc col) h = at_short row col (and_right _ _ h)

val_short : (cs : List ℕ) (row : Row) → list_all is_short row ≡ true → All IsShort (val cs row)
val_short [] row h k d lt = absurd (omega arith)
val_short (c ∷ cs) row h zero d lt = at_short row c h
val_short (c ∷ cs) row h (suc k) d lt = val_short cs row h k d (omega arith)

pub keys_short : (keys : List Key) (aggs : List Agg) (row : Row) → row_suits keys aggs row ≡ true → All IsShort (val (cols keys) row)
keys_short keys aggs row h = val_short (cols keys) row (and_right _ _ (and_right _ _ h))

-- one key more
cols_more : (keys : List Key) (i : ℕ) (d : Key) (row : Row) → i < length keys → val (cols (take (suc i) keys)) row ≡ val (cols (take i keys)) row ++ at row (get_or keys i d).col ∷ []
cols_more [] i d row lt = absurd (omega arith)
cols_more (key ∷ keys) zero d row lt = refl
cols_more (key ∷ keys) (suc i) d row lt = ap (λ vs. at row key.col ∷ vs) (cols_more keys i d row (omega arith))

-- a value that was read in a key's column
pub key_read : (keys : List Key) (i : ℕ) (d : Key) (row values : Row) (v : Value) → All (KeyInWidth row) keys → i < length keys → values ≡ row → v ≡ get_or values (get_or keys i d).col v → v ≡ at row (get_or keys i d).col
key_read keys i d row values v there lt same e = e ∙ ap (λ vs. get_or vs (get_or keys i d).col v) same ∙ get_or_default row (get_or keys i d).col v Null (there i d lt)

pub bytes_step : (keys : List Key) (i : ℕ) (d : Key) (row : Row) (bytes : List ℕ) (v : Value) → i < length keys → v ≡ at row (get_or keys i d).col → bytes ≡ flat_map canonical_bytes (val (cols (take i keys)) row) → bytes ++ canonical_bytes v ≡ flat_map canonical_bytes (val (cols (take (i + 1) keys)) row)
bytes_step keys i d row bytes v lt e h =
    ap₂ (λ bs w. bs ++ canonical_bytes w) h e ∙ sym (ap (λ bs. flat_map canonical_bytes (val (cols (take i keys)) row) ++ bs) (append-nil (canonical_bytes (at row (get_or keys i d).col))))
    ∙ sym (flat_map-append canonical_bytes (val (cols (take i keys)) row) (at row (get_or keys i d).col ∷ []))
    ∙ ap (flat_map canonical_bytes) (sym (cols_more keys i d row lt) ∙ ap (λ n. val (cols (take n keys)) row) (sym (add-one i)))

pub held_step : (keys : List Key) (i : ℕ) (d : Key) (row : Row) (v : Value) → i < length keys → v ≡ at row (get_or keys i d).col → IsHeld v → AllByRecursion IsHeld (val (cols (take i keys)) row) → AllByRecursion IsHeld (val (cols (take (i + 1) keys)) row)
held_step keys i d row v lt e held h =
    subst (AllByRecursion IsHeld) (sym (cols_more keys i d row lt) ∙ ap (λ n. val (cols (take n keys)) row) (sym (add-one i))) (all_append IsHeld (val (cols (take i keys)) row) (at row (get_or keys i d).col ∷ []) h (subst IsHeld e held, tt))

pub values_step : (keys : List Key) (i : ℕ) (d : Key) (row : Row) (values : List Value) (v : Value) → i < length keys → v ≡ at row (get_or keys i d).col → values ≡ val (cols (take i keys)) row → values ++ v ∷ [] ≡ val (cols (take (i + 1) keys)) row
values_step keys i d row values v lt e h = ap₂ (λ vs w. vs ++ w ∷ []) h e ∙ sym (cols_more keys i d row lt) ∙ ap (λ n. val (cols (take n keys)) row) (sym (add-one i))
