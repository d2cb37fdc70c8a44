-- Lists of columns, and the values of rows in them.
use Rattle.std.proofs.Common.{Bool, List, ap, ap₂, arith, cond, eqb, ext_get_or, false, filter, inl, inr, length, refl, subst, suc, sym, true, zero, ℕ, ◌≡◌, ◌+◌, ◌<◌, ◌≤◌, ◌⊎◌, ◌∷◌, ◌++◌, ◌∙◌, ◌==◌, []}
use Rattle.std.proofs.lemmas.Bool.Decides.{nat_tests}
use Rattle.std.specs.List.{range_with_len}
use Rattle.ds_schema.specs.Rows.{at, cols, has, row_cmp, sub, val, ways}
use Rattle.ds_schema.specs.declared.key.Key.{Key}
use Rattle.ds_value.specs.declared.value.Value.{Value}
use Rattle.ds_value.specs.declared.value.Value.TheVariants.{Null}
use Rattle.op_base.specs.Columns.{IsIn, Lies, Row, all_columns, is_in, lies}
use Rattle.op_base.specs.Lists.{IsArranged}
use Rattle.op_base.proofs.All.{all_map, both_true}
use Rattle.op_base.proofs.Arranged.{same_arranged, tie}
use Rattle.op_base.proofs.Filters.{filter_within}
use Rattle.op_base.proofs.Orders.{equal_from_is, length-val, row_tie, row_total, val_has}

pub val_at : (c : ℕ) (ds : List ℕ) (r s : Row) → IsIn c ds → val ds r ≡ val ds s → at r c ≡ at s c
val_at c [] r s i e = absurd i
val_at c (d ∷ ds) r s (inl i) e = let P : ℕ → Type 0 = λ x. at r x ≡ at s x in subst P (sym i) cc
val_at c (d ∷ ds) r s (inr i) e = val_at c ds r s i cc

-- what has the same values in some columns has them in fewer
pub val_lies : (cs ds : List ℕ) (r s : Row) → Lies cs ds → val ds r ≡ val ds s → val cs r ≡ val cs s
val_lies [] ds r s l e = refl
val_lies (c ∷ cs) ds r s l e = ap₂ (λ a b. a ∷ b) (val_at c ds r s l.0 e) (val_lies cs ds r s l.1 e)

-- in the columns of two lists together
pub val_both : (cs ds : List ℕ) (r s : Row) → val cs r ≡ val cs s → val ds r ≡ val ds s → val (cs ++ ds) r ≡ val (cs ++ ds) s
val_both [] ds r s e f = f
val_both (c ∷ cs) ds r s e f = let e0 : at r c ≡ at s c = cc in let e1 : val cs r ≡ val cs s = cc in ap₂ (λ a b. a ∷ b) e0 (val_both cs ds r s e1 f)

pub is_in_true : (c : ℕ) (ds : List ℕ) → is_in c ds ≡ true → IsIn c ds
is_in_true c [] e = cc
is_in_true c (d ∷ ds) e = go (c == d) refl (is_in_true c ds) e
  where
    go : (b : Bool) → (c == d) ≡ b → (is_in c ds ≡ true → IsIn c ds) → cond b true (is_in c ds) ≡ true → (c ≡ d) ⊎ IsIn c ds
    go true f k h = inl (grind (arith, nat_tests))
    go false f k h = inr (k h)

pub lies_true : (cs ds : List ℕ) → lies cs ds ≡ true → Lies cs ds
lies_true [] ds e = tt
lies_true (c ∷ cs) ds e = let h = both_true (is_in c ds) (lies cs ds) e in (is_in_true c ds h.0, lies_true cs ds h.1)

-- rows that tie under keys
pub tie_val : (keys : List Key) (x y : Row) → tie (row_cmp keys) x y ≡ true → val (cols keys) y ≡ val (cols keys) x
tie_val keys x y e = row_tie keys y x (equal_from_is (row_cmp keys y x) e)

-- Lists in the order of keys that agree on columns among them are one.
pub same_sorted : (keys : List Key) (C : List ℕ) (xs ys : List Row) → Lies C (cols keys) → IsArranged (row_cmp keys) xs → IsArranged (row_cmp keys) ys → ((v : List Value) → sub C v xs ≡ sub C v ys) → xs ≡ ys
same_sorted keys C xs ys l h k e = same_arranged (row_total keys) xs ys h k (λ x.
    let fine : (y : Row) → tie (row_cmp keys) x y ≡ true → has C (val C x) y ≡ true = λ y t. val_has C (val C x) y (val_lies C (cols keys) y x l (tie_val keys x y t)) in
    sym (filter_within (has C (val C x)) (tie (row_cmp keys) x) fine xs) ∙ ap (filter (tie (row_cmp keys) x)) (e (val C x)) ∙ filter_within (has C (val C x)) (tie (row_cmp keys) x) fine ys)

pub in_range : (c a n : ℕ) → a ≤ c → c < a + n → IsIn c (range_with_len a n)
in_range c a zero l m = absurd (omega arith)
in_range c a (suc n) l m = go (λ h. in_range c (a + 1) n h (omega arith)) (eqb c a) refl
  where
    go : (a + 1 ≤ c → IsIn c (range_with_len (a + 1) n)) → (b : Bool) → eqb c a ≡ b → (c ≡ a) ⊎ IsIn c (range_with_len (a + 1) n)
    go next true e = inl (grind (arith, nat_tests))
    go next false e = inr (next (grind (arith, nat_tests)))

-- rows of one width that are alike in all columns are one
pub same_columns : (w : ℕ) (r s : Row) → length r ≡ w → length s ≡ w → val (all_columns w) r ≡ val (all_columns w) s → r ≡ s
same_columns w r s e f h = ext_get_or Null r s (e ∙ sym f) (λ i l. val_at i (all_columns w) r s (in_range i 0 w (omega arith) (omega arith)) h)

-- all columns of a row, and what follows them
pub in_bounds : (c n k : ℕ) → IsIn c (range_with_len n k) → (n ≤ c) × (c < n + k)
in_bounds c n zero i = absurd i
in_bounds c n (suc k) (inl e) = (omega arith, omega arith)
in_bounds c n (suc k) (inr i) = let h = in_bounds c (n + 1) k i in (omega arith, omega arith)

picked_from : (n k i : ℕ) (r x : Row) → i < k → at (val (range_with_len n k) r ++ x) i ≡ at r (n + i)
picked_from n zero i r x l = absurd (omega arith)
picked_from n (suc k) zero r x l = ap (at r) (omega arith)
picked_from n (suc k) (suc i) r x l = picked_from (n + 1) k i r x (omega arith) ∙ ap (at r) (omega arith)

pub picked : (w : ℕ) (K : List ℕ) (r x : Row) → Lies K (all_columns w) → val K (val (all_columns w) r ++ x) ≡ val K r
picked w [] r x l = refl
picked w (c ∷ K) r x l =
    let b = in_bounds c 0 w l.0 in
    ap₂ (λ a as1. a ∷ as1) (picked_from 0 w c r x (omega arith) ∙ ap (at r) (omega arith)) (picked w K r x l.1)

pub at_left : (v x : List Value) (i : ℕ) → i < length v → at (v ++ x) i ≡ at v i
at_left [] x i l = absurd (omega arith)
at_left (a ∷ v) x zero l = refl
at_left (a ∷ v) x (suc i) l = at_left v x i (omega arith)

pub length-cols : (keys : List Key) → length (cols keys) ≡ length keys
length-cols [] = refl
length-cols (k ∷ keys) = ap suc (length-cols keys)

pub length-ways : (keys : List Key) → length (ways keys) ≡ length keys
length-ways [] = refl
length-ways (k ∷ keys) = ap suc (length-ways keys)

pub val_long : (keys : List Key) (r : Row) (v : List Value) → val (cols keys) r ≡ v → length v ≡ length keys
val_long keys r v e = ap length (sym e) ∙ length-val (cols keys) r ∙ length-cols keys

more_in : (c d : ℕ) (K : List ℕ) → IsIn c K → IsIn c (d ∷ K)
more_in c d K i = inr i

pub lies_self : (K : List ℕ) → Lies K K
lies_self [] = tt
lies_self (c ∷ K) = (inl refl, all_map (λ d. IsIn d K) (λ d. IsIn d (c ∷ K)) (λ d i. more_in d c K i) K (lies_self K))

pub length-range_with : (n k : ℕ) → length (range_with_len n k) ≡ k
length-range_with n zero = refl
length-range_with n (suc k) = ap suc (length-range_with (n + 1) k)
