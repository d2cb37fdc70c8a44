-- Lists of rows: sorted by keys, permuted, and what is given row by row.
use Rattle.std.proofs.Common.{Bool, IsPermutation, List, ap, append_assoc, arith, cond, count_by, filter, flat_map, length, subst, sym, true, ◌≡◌, ◌+◌, ◌∷◌, ◌++◌, ◌∙◌, ◌&&◌, []}
use Rattle.std.proofs.lemmas.Cmp.{lists_total, tied_itself}
use Rattle.std.proofs.lemmas.Grind.{flat_map-append}
use Rattle.std.proofs.lemmas.List.Sorted.{IsPermutation-append_comm, IsPermutation-append_left, IsPermutation-append_right, IsPermutation-refl, IsPermutation-trans}
use Rattle.std.proofs.lemmas.List.Sums.{length-filter}
use Rattle.std.specs.Cmp.Lexicographic.{slice_cmp}
use Rattle.std.specs.List.{AllByRecursion}
use Rattle.std.specs.List.Sorted.{IsSorted, IsStable}
use Rattle.std.specs.Ordering.{is_eq}
use Rattle.ds_schema.specs.Rows.{row_cmp}
use Rattle.ds_schema.specs.declared.key.Key.{Key}
use Rattle.ds_value.specs.Values.{value_cmp}
use Rattle.op_base.specs.Columns.{Row}
use Rattle.op_base.specs.Keyed.{arranged, by_key}
use Rattle.op_base.specs.Lists.{IsArranged, firsts}
use Rattle.op_base.proofs.All.{all_append, all_filter}
use Rattle.op_base.proofs.Arranged.{tie}
use Rattle.op_base.proofs.Bags.{count-append, count-cons, count-filter, count-permutation, permutation-from_counts, split_at}
use Rattle.op_base.proofs.Filters.{filter_within}
use Rattle.op_base.proofs.KeyLaws.{by_key_ranks}
use Rattle.op_base.proofs.Orders.{equal_from_is, exact_lists, row_total, value_exact, value_total}
use Rattle.op_base.proofs.Sorting.{ranks_arranged, ranks_ties, stable_sort_is}

abbrev pub same_row : Row → Row → Bool
same_row r s = is_eq (slice_cmp value_cmp r s)

pub same_exact : (r s : Row) → same_row r s ≡ true → r ≡ s
same_exact r s e = exact_lists value_cmp value_exact r s (equal_from_is (slice_cmp value_cmp r s) e)

pub same_itself : (r : Row) → same_row r r ≡ true
same_itself r = ap is_eq (tied_itself (lists_total value_total) r)

pub rows_permuted : (xs ys : List Row) → ((z : Row) → count_by (same_row z) xs ≡ count_by (same_row z) ys) → IsPermutation xs ys
rows_permuted xs ys h = permutation-from_counts same_row same_exact same_itself xs ys h

pub rows_permuted_by_filter : (xs ys : List Row) → ((z : Row) → filter (same_row z) xs ≡ filter (same_row z) ys) → IsPermutation xs ys
rows_permuted_by_filter xs ys h = rows_permuted xs ys (λ z. sym (length-filter (same_row z) xs) ∙ ap length (h z) ∙ length-filter (same_row z) ys)

pub sort_arranged : (keys : List Key) (rows : List Row) → IsArranged (row_cmp keys) (arranged keys rows)
sort_arranged keys rows = subst (IsArranged (row_cmp keys)) (sym (by_key_ranks keys (λ same. same) rows)) (ranks_arranged (row_total keys) rows)

-- sorting keeps the rows of a list
pub sort_permutes : (keys : List Key) (rows : List Row) → IsPermutation (arranged keys rows) rows
sort_permutes keys rows = rows_permuted_by_filter (arranged keys rows) rows (λ z.
    let fine : (r : Row) → same_row z r ≡ true → tie (row_cmp keys) z r ≡ true = λ r t. ap is_eq (ap (λ w. row_cmp keys r w) (same_exact z r t) ∙ tied_itself (row_total keys) r) in
    sym (filter_within (tie (row_cmp keys) z) (same_row z) fine (arranged keys rows))
    ∙ ap (filter (same_row z)) (ap (filter (tie (row_cmp keys) z)) (by_key_ranks keys (λ same. same) rows) ∙ ranks_ties (row_total keys) z rows)
    ∙ filter_within (tie (row_cmp keys) z) (same_row z) fine rows)

pub sorted_is_arranged : (keys : List Key) (old new : List Row) → Rattle.std.specs.List.Sorted.IsSorted (row_cmp keys) new → Rattle.std.specs.List.Sorted.IsStable (row_cmp keys) old new → new ≡ arranged keys old
sorted_is_arranged keys old new up stable = stable_sort_is (row_total keys) old new up stable ∙ sym (by_key_ranks keys (λ same. same) old)

-- the rows of a permutation give permuted lists
pub flat_from_counts : {Y : Type 0} (g : Row → List Y) (xs ys : List Row) → ((z : Row) → count_by (same_row z) xs ≡ count_by (same_row z) ys) → IsPermutation (flat_map g xs) (flat_map g ys)
flat_from_counts g [] [] h = IsPermutation-refl []
flat_from_counts g [] (y ∷ ys) h =
    let c : count_by (same_row y) (y ∷ ys) ≡ 1 + count_by (same_row y) ys = count-cons (same_row y) y ys ∙ ap (λ b. cond b 1 0 + count_by (same_row y) ys) (same_itself y) in
    let e = h y in absurd (omega (arith, c, e))
flat_from_counts {Y} g (x ∷ xs) ys h =
    let c : count_by (same_row x) (x ∷ xs) ≡ 1 + count_by (same_row x) xs = count-cons (same_row x) x xs ∙ ap (λ b. cond b 1 0 + count_by (same_row x) xs) (same_itself x) in
    let s = split_at (same_row x) ys (let e = h x in omega (arith, c, e)) in
    let same : x ≡ s.1 = same_exact x s.1 s.3 in
    let shape : ys ≡ s.0 ++ x ∷ s.2 = s.4 ∙ ap (λ y. s.0 ++ y ∷ s.2) (sym same) in
    let counts : (z : Row) → count_by (same_row z) xs ≡ count_by (same_row z) (s.0 ++ s.2) = λ z.
    let a = h z ∙ ap (count_by (same_row z)) shape ∙ count-append (same_row z) s.0 (x ∷ s.2) in
    let b = count-cons (same_row z) x xs in
    let d = count-cons (same_row z) x s.2 in
    let e = count-append (same_row z) s.0 s.2 in
    omega (arith, a, b, d, e) in
    let left = flat_map g s.0 in
    let right = flat_map g s.2 in
    let rest : IsPermutation (flat_map g xs) (left ++ right) = subst (IsPermutation (flat_map g xs)) (flat_map-append g s.0 s.2) (flat_from_counts g xs (s.0 ++ s.2) counts) in
    let over : IsPermutation (g x ++ flat_map g xs) (g x ++ (left ++ right)) = IsPermutation-append_right (g x) (flat_map g xs) (left ++ right) rest in
    let turn : IsPermutation (g x ++ (left ++ right)) (left ++ (g x ++ right)) =
    subst (IsPermutation (g x ++ (left ++ right))) (append_assoc left (g x) right)
    (subst (λ zs. IsPermutation zs ((left ++ g x) ++ right)) (append_assoc (g x) left right) (IsPermutation-append_left right (g x ++ left) (left ++ g x) (IsPermutation-append_comm (g x) left))) in
    subst (IsPermutation (g x ++ flat_map g xs)) (sym (ap (flat_map g) shape ∙ flat_map-append g s.0 (x ∷ s.2))) (IsPermutation-trans (g x ++ flat_map g xs) (g x ++ (left ++ right)) (left ++ (g x ++ right)) over turn)

pub filter_permuted : (p : Row → Bool) (xs ys : List Row) → IsPermutation xs ys → IsPermutation (filter p xs) (filter p ys)
filter_permuted p xs ys h = rows_permuted (filter p xs) (filter p ys) (λ z. count-filter p (same_row z) xs ∙ count-permutation (λ x. p x && same_row z x) xs ys h ∙ sym (count-filter p (same_row z) ys))

pub all_flat : {X Y : Type 0} (P : Y → Type 0) (g : X → List Y) → ((x : X) → AllByRecursion P (g x)) → (xs : List X) → AllByRecursion P (flat_map g xs)
all_flat P g h [] = tt
all_flat P g h (x ∷ xs) = all_append P (g x) (flat_map g xs) (h x) (all_flat P g h xs)

-- rows that are given by key are rows of the input, where the rule selects
pub by_key_all : (keys : List Key) (rule : List Row → List Row) → ((P : Row → Type 0) (rows : List Row) → AllByRecursion P rows → AllByRecursion P (rule rows)) → (P : Row → Type 0) (rows : List Row) → AllByRecursion P rows → AllByRecursion P (by_key keys rule rows)
by_key_all keys rule k P rows h = subst (AllByRecursion P) (sym (by_key_ranks keys rule rows)) (all_flat P (λ (x : Row). rule (filter (tie (row_cmp keys) x) rows)) (λ x. k P (filter (tie (row_cmp keys) x) rows) (all_filter P (tie (row_cmp keys) x) rows h)) (firsts (row_cmp keys) rows))

pub flat_rows_permuted : {Y : Type 0} (g : Row → List Y) (xs ys : List Row) → IsPermutation xs ys → IsPermutation (flat_map g xs) (flat_map g ys)
flat_rows_permuted g xs ys h = flat_from_counts g xs ys (λ z. count-permutation (same_row z) xs ys h)
