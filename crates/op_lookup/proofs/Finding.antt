-- What is found in the table is the first of the reference rows that have the key values.
use Rattle.std.proofs.Common.{◌≡◌, ℕ, zero, suc, ◌+◌, ◌<◌, ◌≤◌, ◌==◌, Bool, true, false, not, cond, ap, ap₂, sym, refl, ◌∙◌, subst, filter, List, [], ◌∷◌, ◌++◌, length, Option, Some, None, get_or, ext_get_or, take, arith}
use Rattle.std.proofs.lemmas.Bool.Decides.{nat_tests}
use Rattle.std.proofs.lemmas.List.{take_more}
use Rattle.std.proofs.lemmas.List.Elements.{filter-append}
use Rattle.std.specs.List.{All, AllByRecursion, list_any, range_with_len}
use Rattle.std.specs.Map.{lookup}
use Rattle.std.specs.Str.{bytes_eq}
use Rattle.streams.specs.Streams.{Feed, Out, sends, rows_of}
use Rattle.streams.proofs.StreamLaws.{eq_true}
use Rattle.ds_value.specs.Canonical.{IsHeld, IsShort}
use Rattle.ds_value.specs.declared.value.Value.TheVariants.{Null}
use Rattle.ds_schema.specs.Rows.{at, val, has, sub, InWidth}
use Rattle.op_base.specs.declared.fault.Fault.{Fault}
use Rattle.op_base.specs.declared.missing.Missing.{Missing}
use Rattle.op_base.specs.declared.missing.Missing.TheVariants as missing
use Rattle.op_base.specs.Columns.{Row, no_row, all_columns, is_in}
use Rattle.op_base.specs.Standing.{row_feed}
use Rattle.op_base.proofs.All.{all_filter}
use Rattle.op_base.proofs.ColumnLaws.{length-range_with}
use Rattle.op_base.proofs.Orders.{length-val, val-append}
use Rattle.op_lookup.specs.Looked.{others_of, looking, looked, looked_stream}
use Rattle.op_lookup.specs.Laws.{OwnValuesStay}
use Rattle.op_lookup.specs.Standing.{IsTold, LookupStands}
use Rattle.op_lookup.specs.Table.{key_of, or_kept, first_others, given}
use Rattle.op_lookup.proofs.Told.{bytes_tell}

-- one more row
pub first_others-more : (reference others key : List ℕ) (rows : List Row) (r : Row) → first_others reference others key (rows ++ r ∷ []) ≡ or_kept (first_others reference others key rows) (bytes_eq key (key_of reference r)) (val others r)
first_others-more reference others key [] r = refl
first_others-more reference others key (x ∷ rows) r =
    elim (bytes_eq key (key_of reference x)) as (λ b. cond b (Some (val others x)) (first_others reference others key (rows ++ r ∷ [])) ≡ or_kept (cond b (Some (val others x)) (first_others reference others key rows)) (bytes_eq key (key_of reference r)) (val others r))
    [ true ↦ refl | false ↦ first_others-more reference others key rows r ]

abbrev first_of : List ℕ → List Row → Option Row
first_of others [] = None
first_of others (r ∷ rows) = Some (val others r)

first_found : (main reference others : List ℕ) (a : Row) (rows : List Row) → AllByRecursion IsTold (val main a) → AllByRecursion (λ r. AllByRecursion IsTold (val reference r)) rows → first_others reference others (key_of main a) rows ≡ first_of others (sub reference (val main a) rows)
first_found main reference others a [] h k = refl
first_found main reference others a (r ∷ rows) h k =
    ap (λ b. cond b (Some (val others r)) (first_others reference others (key_of main a) rows)) (bytes_tell main reference a r h k.0)
    ∙ elim (has reference (val main a) r) as (λ b. cond b (Some (val others r)) (first_others reference others (key_of main a) rows) ≡ first_of others (cond b (r ∷ sub reference (val main a) rows) (sub reference (val main a) rows)))
    [ true ↦ refl | false ↦ first_found main reference others a rows h k.1 ]

-- all columns of a row
read_range : (a : Row) (n k i : ℕ) → i < k → at (val (range_with_len n k) a) i ≡ at a (n + i)
read_range a n zero i l = absurd (omega arith)
read_range a n (suc k) zero l = ap (at a) (omega arith)
read_range a n (suc k) (suc i) l = read_range a (n + 1) k i (omega arith) ∙ ap (at a) (omega arith)

pub own-values-stay : OwnValuesStay
own-values-stay a =
    let size : length (val (all_columns (length a)) a) ≡ length a = length-val (all_columns (length a)) a ∙ length-range_with 0 (length a) in
    ext_get_or Null (val (all_columns (length a)) a) a size (λ i l. read_range a 0 (length a) i (omega (arith, size)) ∙ ap (at a) (omega arith))

-- what is meant, by what is found
looked_given : (main reference others : List ℕ) (width : ℕ) (m : Missing) (a : Row) (found : List Row) → others ≡ others_of reference width → looked (looking (length a) main reference width m) a found ≡ given m others a (first_of others found)
looked_given main reference others width missing.Continue a [] e = ap₂ (λ own os. sends 0 (own ++ val os []) ∷ []) (own-values-stay a) (sym e)
looked_given main reference others width missing.Drop a [] e = refl
looked_given main reference others width missing.Fail a [] e = refl
looked_given main reference others width missing.Reject a [] e = refl
looked_given main reference others width m a (r ∷ found) e = ap₂ (λ own os. sends 0 (own ++ val os r) ∷ []) (own-values-stay a) (sym e)

pub given_is_looked : (main reference others : List ℕ) (width : ℕ) (m : Missing) (a : Row) (rows : List Row) → others ≡ others_of reference width → AllByRecursion IsTold (val main a) → AllByRecursion (λ r. AllByRecursion IsTold (val reference r)) rows →
    given m others a (first_others reference others (key_of main a) rows) ≡ looked (looking (length a) main reference width m) a (sub reference (val main a) rows)
given_is_looked main reference others width m a rows e h k =
    ap (given m others a) (first_found main reference others a rows h k) ∙ sym (looked_given main reference others width m a (sub reference (val main a) rows) e)

-- a main row gives what the stream says
pub main_gives : (main reference others : List ℕ) (width : ℕ) (m : Missing) (entries : List (List ℕ × Row)) (main_over reference_over : Bool) (feeds : List (Feed Row)) (port : ℕ) (a : Row) → port ≡ 0 → others ≡ others_of reference width → AllByRecursion IsTold (val main a) →
    LookupStands reference others entries main_over reference_over feeds → given m others a (lookup (bytes_eq (key_of main a)) entries) ≡ (looked_stream main reference width m).gives feeds (row_feed port a)
main_gives main reference others width m entries main_over reference_over feeds port a none e h stands =
    ap (given m others a) (stands.table_is (key_of main a)) ∙ given_is_looked main reference others width m a (rows_of 1 feeds) e h stands.told
    ∙ sym (ap (λ b. cond {A = List (Out Row Fault)} b (looked (looking (length a) main reference width m) a (sub reference (val main a) (rows_of 1 feeds))) []) (eq_true port 0 none))

-- the values of a key are told apart where the row's texts are short
short_at : (r : Row) (c : ℕ) → All IsShort r → IsShort (at r c)
short_at [] c h = tt
short_at (v ∷ r) zero h = h 0 Null (omega arith)
short_at (v ∷ r) (suc c) h = short_at r c (λ k d l. h (suc k) d (omega arith))

pub told_key : (cols : List ℕ) (r : Row) → All IsShort r → AllByRecursion IsHeld (val cols r) → AllByRecursion IsTold (val cols r)
told_key [] r h k = tt
told_key (c ∷ cols) r h k = ((k.0, short_at r c h), told_key cols r h k.1)

-- the others lie in the width
range_below : (w n k : ℕ) → n + k ≤ w → AllByRecursion (λ c. c < w) (range_with_len n k)
range_below w n zero l = tt
range_below w n (suc k) l = (omega arith, range_below w (n + 1) k (omega arith))

each_at : {X : Type 0} (P : X → Type 0) (xs : List X) → AllByRecursion P xs → All P xs
each_at P [] h k d l = absurd (omega arith)
each_at P (x ∷ xs) h zero d l = h.0
each_at P (x ∷ xs) h (suc k) d l = each_at P xs h.1 k d (omega arith)

pub others_there : (key : List ℕ) (width : ℕ) (r : Row) (others : List ℕ) → length r ≡ width → others ≡ others_of key width → All (InWidth r) others
others_there key width r others size e =
    let P : List ℕ → Type 0 = λ cs. All (InWidth r) cs in
    subst P (sym e) (each_at (InWidth r) (others_of key width) (all_filter (InWidth r) (λ c. not (is_in c key)) (all_columns width) (range_below (length r) 0 width (omega (arith, size)))))

-- one more column below the width
range_more : (n k : ℕ) → range_with_len n (suc k) ≡ range_with_len n k ++ (n + k) ∷ []
range_more n zero = ap (λ c. c ∷ []) (omega arith)
range_more n (suc k) = ap (λ cs. n ∷ cs) (range_more (n + 1) k ∙ ap (λ c. range_with_len (n + 1) k ++ c ∷ []) (omega arith))

in_list : (c : ℕ) (key : List ℕ) → list_any (λ y. y == c) key ≡ is_in c key
in_list c [] = refl
in_list c (d ∷ key) = grind (arith, nat_tests, in_list c key)

pub others_of-more : (key : List ℕ) (n : ℕ) (b : Bool) → b ≡ list_any (λ y. y == n) key → others_of key (n + 1) ≡ others_of key n ++ cond b [] (n ∷ [])
others_of-more key n b e =
    let up : n + 1 ≡ suc n = omega arith in
    let same : 0 + n ≡ n = omega arith in
    ap (others_of key) up ∙ ap (filter (λ c. not (is_in c key))) (range_more 0 n ∙ ap (λ m. all_columns n ++ m ∷ []) same) ∙ filter-append (λ c. not (is_in c key)) (all_columns n) (n ∷ [])
    ∙ ap (λ t. others_of key n ++ t) (by (is_in n key) b (e ∙ in_list n key))
  where
    by : (a b : Bool) → b ≡ a → cond (not a) (n ∷ []) [] ≡ cond b [] (n ∷ [])
    by true b f = ap (λ x. cond x [] (n ∷ [])) (sym f)
    by false b f = ap (λ x. cond x [] (n ∷ [])) (sym f)

-- one more null
pub nulls_more : (cols : List ℕ) (i : ℕ) → i < length cols → val (take (i + 1) cols) no_row ≡ val (take i cols) no_row ++ Null ∷ []
nulls_more cols i l = ap (λ cs. val cs no_row) (take_more cols i 0 l) ∙ val-append (take i cols) (get_or cols i 0 ∷ []) no_row
