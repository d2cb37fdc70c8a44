-- Key lists one after another, keys that decide nothing more, and one row of each value.
use Rattle.std.proofs.Common.{Bool, List, ap, arith, cond, false, filter, length, not, refl, subst, sym, true, ℕ, ◌≡◌, ◌≤◌, ◌∷◌, ◌++◌, ◌∙◌, []}
use Rattle.std.proofs.lemmas.Cmp.{tied_itself}
use Rattle.std.specs.List.{AllByRecursion}
use Rattle.std.specs.Ordering.{is_lt, ordering_reverse, ordering_then}
use Rattle.std.specs.declared.cmp.Ordering.{Ordering}
use Rattle.std.specs.declared.cmp.Ordering.TheVariants.{Equal, Greater, Less}
use Rattle.ds_schema.specs.Rows.{at, cols, has, row_cmp, turned_cmp, val}
use Rattle.ds_schema.specs.declared.key.Key.{Key}
use Rattle.op_base.specs.Columns.{Row, is_in}
use Rattle.op_base.specs.Keyed.{arranged, by_key, without}
use Rattle.op_base.specs.Lists.{IsArranged, firsts, last_one}
use Rattle.op_base.specs.Meanings.{one_row}
use Rattle.op_base.proofs.Arranged.{tie}
use Rattle.op_base.proofs.ColumnLaws.{is_in_true, val_at}
use Rattle.op_base.proofs.KeyLaws.{Selects, by_key_ranks}
use Rattle.op_base.proofs.Orders.{row_tie, row_total, turned_total}
use Rattle.op_base.proofs.Ranks.{firsts_ascend}
use Rattle.op_base.proofs.Sorting.{all_tie, groups_arranged, ranks_arranged_then}

then_assoc : (a b c : Ordering) → ordering_then (ordering_then a b) c ≡ ordering_then a (ordering_then b c)
then_assoc Less b c = refl
then_assoc Equal b c = refl
then_assoc Greater b c = refl

-- by the keys of two lists, one list after the other
pub row_cmp-append : (K M : List Key) (r s : Row) → row_cmp (K ++ M) r s ≡ ordering_then (row_cmp K r s) (row_cmp M r s)
row_cmp-append [] M r s = refl
row_cmp-append (k ∷ K) M r s =
    let a = turned_cmp k.desc (at r k.col) (at s k.col) in
    ap (ordering_then a) (row_cmp-append K M r s) ∙ sym (then_assoc a (row_cmp K r s) (row_cmp M r s))

-- keys on columns in which two rows are alike tell nothing
without_cmp : (K M : List Key) (r s : Row) → val (cols K) r ≡ val (cols K) s → row_cmp (without K M) r s ≡ row_cmp M r s
without_cmp K [] r s e = refl
without_cmp K (m ∷ M) r s e = go (is_in m.col (cols K)) refl (without_cmp K M r s e)
  where
    go : (b : Bool) → is_in m.col (cols K) ≡ b → row_cmp (without K M) r s ≡ row_cmp M r s → row_cmp (cond (not b) (m ∷ without K M) (without K M)) r s ≡ row_cmp (m ∷ M) r s
    go true f k =
        let same : at r m.col ≡ at s m.col = val_at m.col (cols K) r s (is_in_true m.col (cols K) f) e in
        let none : turned_cmp m.desc (at r m.col) (at s m.col) ≡ Equal = ap (turned_cmp m.desc (at r m.col)) (sym same) ∙ tied_itself (turned_total m.desc) (at r m.col) in
        k ∙ ap (λ c. ordering_then c (row_cmp M r s)) (sym none)
    go false f k = ap (ordering_then (turned_cmp m.desc (at r m.col) (at s m.col))) k

pub without_then : (K M : List Key) (r s : Row) → row_cmp (K ++ without K M) r s ≡ ordering_then (row_cmp K r s) (row_cmp M r s)
without_then K M r s = row_cmp-append K (without K M) r s ∙ go (row_cmp K r s) refl
  where
    go : (c : Ordering) → row_cmp K r s ≡ c → ordering_then c (row_cmp (without K M) r s) ≡ ordering_then c (row_cmp M r s)
    go Less e = refl
    go Equal e = without_cmp K M r s (row_tie K r s e)
    go Greater e = refl

-- orders that answer alike
pub arranged_alike : {X : Type 0} (R S : X → X → Ordering) → ((x y : X) → R x y ≡ S x y) → (xs : List X) → IsArranged R xs → IsArranged S xs
arranged_alike R S e [] h = tt
arranged_alike {X} R S e (x ∷ xs) h = (go xs h.0, arranged_alike R S e xs h.1)
  where
    go : (ys : List X) → AllByRecursion (λ (y : X). is_lt (R y x) ≡ false) ys → AllByRecursion (λ (y : X). is_lt (S y x) ≡ false) ys
    go [] k = tt
    go (y ∷ ys) k = (ap is_lt (sym (e y x)) ∙ k.0, go ys k.1)

-- a list in the order of keys is in the order of the first of them
pub arranged_first : (K M : List Key) (rows : List Row) → IsArranged (row_cmp (K ++ M)) rows → IsArranged (row_cmp K) rows
arranged_first K M [] h = tt
arranged_first K M (r ∷ rows) h = (go rows h.0, arranged_first K M rows h.1)
  where
    less : (c d : Ordering) → is_lt (ordering_then c d) ≡ false → is_lt c ≡ false
    less Less d e = e
    less Equal d e = refl
    less Greater d e = refl

    go : (ys : List Row) → AllByRecursion (λ y. is_lt (row_cmp (K ++ M) y r) ≡ false) ys → AllByRecursion (λ y. is_lt (row_cmp K y r) ≡ false) ys
    go [] k = tt
    go (y ∷ ys) k = (less (row_cmp K y r) (row_cmp M y r) (ap is_lt (sym (row_cmp-append K M y r)) ∙ k.0), go ys k.1)

-- sorting by keys a list in the order of others
pub sort_sorted : (K M : List Key) (rows : List Row) → IsArranged (row_cmp M) rows → IsArranged (row_cmp (K ++ without K M)) (arranged K rows)
sort_sorted K M rows h =
    arranged_alike (λ x y. ordering_then (row_cmp K x y) (row_cmp M x y)) (row_cmp (K ++ without K M)) (λ x y. sym (without_then K M x y)) (arranged K rows)
    (subst (IsArranged (λ (x y : Row). ordering_then (row_cmp K x y) (row_cmp M x y))) (sym (by_key_ranks K (λ same. same) rows)) (ranks_arranged_then (row_total K) (row_cmp M) rows h))

pub short_arranged : (R : Row → Row → Ordering) (xs : List Row) → length xs ≤ 1 → IsArranged R xs
short_arranged R [] l = tt
short_arranged R (x ∷ []) l = (tt, tt)
short_arranged R (x ∷ (y ∷ xs)) l = absurd (omega arith)

-- the first or the last row of a list
all_one : {X : Type 0} (P : X → Type 0) (xs : List X) → AllByRecursion P xs → AllByRecursion P (last_one xs)
all_one P [] h = tt
all_one P (x ∷ []) h = h
all_one P (x ∷ (y ∷ xs)) h = all_one P (y ∷ xs) h.1

pub one_row_all : (last : Bool) (P : Row → Type 0) (rows : List Row) → AllByRecursion P rows → AllByRecursion P (one_row last rows)
one_row_all true P rows h = all_one P rows h
one_row_all false P [] h = tt
one_row_all false P (r ∷ rows) h = (h.0, tt)

last_short : {X : Type 0} (xs : List X) → length (last_one xs) ≤ 1
last_short [] = omega arith
last_short (x ∷ []) = omega arith
last_short (x ∷ (y ∷ xs)) = last_short (y ∷ xs)

one_row_short : (last : Bool) (rows : List Row) → length (one_row last rows) ≤ 1
one_row_short true rows = last_short rows
one_row_short false [] = omega arith
one_row_short false (r ∷ rows) = omega arith

pub one_selects : (last : Bool) (G : List ℕ) → Selects G (val G) (one_row last)
one_selects last G v b rows h = one_row_all last (λ r. has G v r ≡ b) rows h

pub one_sorted : (last : Bool) (K M : List Key) (rows : List Row) → IsArranged (row_cmp (K ++ M)) (by_key K (one_row last) rows)
one_sorted last K M rows =
    subst (IsArranged (row_cmp (K ++ M))) (sym (by_key_ranks K (one_row last) rows))
    (groups_arranged (row_total K) (row_cmp (K ++ M)) (λ x. one_row last (filter (tie (row_cmp K) x) rows)) (λ x. one_row_all last (λ y. row_cmp K y x ≡ Equal) (filter (tie (row_cmp K) x) rows) (all_tie (row_cmp K) x rows))
    (λ x. short_arranged (row_cmp (K ++ M)) (one_row last (filter (tie (row_cmp K) x) rows)) (one_row_short last (filter (tie (row_cmp K) x) rows)))
    (λ a b l. ap is_lt (row_cmp-append K M b a ∙ ap (λ c. ordering_then c (row_cmp M b a)) ((row_total K).antisymm b a ∙ ap ordering_reverse l)))
    (firsts (row_cmp K) rows) (firsts_ascend (row_total K) rows))

pub one_nothing : (last : Bool) (keys : List Key) → by_key keys (one_row last) [] ≡ []
one_nothing last keys = refl
