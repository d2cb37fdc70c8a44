-- The order of a flow has each operator once.
use Rattle.std.proofs.Common.{◌≡◌, ◌⊎◌, inl, inr, ℕ, zero, suc, ◌+◌, ◌<◌, ◌≤◌, Bool, true, false, refl, sym, ap, ◌∙◌, subst, List, [], ◌∷◌, ◌++◌, length, take, get_or, add-one, arith}
use Rattle.std.specs.Prelude.{eqb, ◌||◌}
use Rattle.std.specs.List.{AllByRecursion, IsDistinct, list_any, range_with_len}
use Rattle.std.proofs.Math.Seq.{take-suc}
use Rattle.std.proofs.lemmas.Bool.Decides.{nat_tests}
use Rattle.std.proofs.lemmas.List.Sorted.{list_any-IsPermutation, All-permutation}
use Rattle.std.proofs.lemmas.List.Elements.{All-from_recursion, recursion_from_All}
use Rattle.std.proofs.lemmas.Map.Keys.{IsDistinct-IsPermutation}
use Rattle.op_base.specs.Columns.{IsIn}
use Rattle.op_base.proofs.ColumnLaws.{in_range}
use Rattle.flow_graph.specs.Charts.{Chart}
use Rattle.flow_graph.specs.FlowShape.{IsOrder}
use Rattle.list_run.specs.Turns.{HadTurn}

in_left : (x : ℕ) (xs ys : List ℕ) → IsIn x xs → IsIn x (xs ++ ys)
in_left x [] ys i = absurd i
in_left x (y ∷ xs) ys (inl e) = inl e
in_left x (y ∷ xs) ys (inr i) = inr (in_left x xs ys i)

in_right : (x : ℕ) (xs ys : List ℕ) → IsIn x ys → IsIn x (xs ++ ys)
in_right x [] ys i = i
in_right x (y ∷ xs) ys i = inr (in_right x xs ys i)

-- members of lists
pub in_either : (x : ℕ) (xs ys : List ℕ) → IsIn x (xs ++ ys) → IsIn x xs ⊎ IsIn x ys
in_either x [] ys i = inr i
in_either x (y ∷ xs) ys (inl e) = inl (inl e)
in_either x (y ∷ xs) ys (inr i) = go (in_either x xs ys i)
  where
    go : (IsIn x xs ⊎ IsIn x ys) → IsIn x (y ∷ xs) ⊎ IsIn x ys
    go (inl j) = inl (inr j)
    go (inr j) = inr j

any_in : (q : ℕ) (xs : List ℕ) → list_any (eqb q) xs ≡ true → IsIn q xs
any_in q [] e = cc
any_in q (x ∷ xs) e = go (eqb q x) refl e (λ f. any_in q xs f)
  where
    go : (b : Bool) → eqb q x ≡ b → (b || list_any (eqb q) xs) ≡ true → (list_any (eqb q) xs ≡ true → IsIn q xs) → IsIn q (x ∷ xs)
    go true f g r = inl (grind (arith, nat_tests))
    go false f g r = inr (r g)

in_any : (q : ℕ) (xs : List ℕ) → IsIn q xs → list_any (eqb q) xs ≡ true
in_any q [] i = absurd i
in_any q (x ∷ xs) (inl e) = let t : eqb q x ≡ true = grind (arith, nat_tests) in ap (λ b. b || list_any (eqb q) xs) t
in_any q (x ∷ xs) (inr i) = or_true (eqb q x) (in_any q xs i)
  where
    or_true : (b : Bool) → list_any (eqb q) xs ≡ true → (b || list_any (eqb q) xs) ≡ true
    or_true true e = refl
    or_true false e = e

-- the order has each operator, and none twice
pub ordered : (c : Chart) → IsOrder c → (o : ℕ) → o < length c.flow.ops → IsIn o c.order
ordered c h o l = any_in o c.order (sym (list_any-IsPermutation (eqb o) (range_with_len 0 (length c.flow.ops)) c.order h.once) ∙ in_any o (range_with_len 0 (length c.flow.ops)) (in_range o 0 (length c.flow.ops) (omega arith) (omega arith)))

range_distinct : (a n : ℕ) → IsDistinct eqb (range_with_len a n)
unfolding IsDistinct
range_distinct a zero = tt
range_distinct a (suc n) = (beyond a (a + 1) n (omega arith), range_distinct (a + 1) n)
  where
    beyond : (m b k : ℕ) → m < b → AllByRecursion (λ y. eqb m y ≡ false) (range_with_len b k)
    beyond m b zero l = tt
    beyond m b (suc k) l = (grind (arith, nat_tests), beyond m (b + 1) k (omega arith))

flips : (x y : ℕ) → eqb x y ≡ eqb y x
flips x y = grind (arith, nat_tests)

once_only : (xs : List ℕ) → IsDistinct eqb xs → (i : ℕ) → i < length xs → IsIn (get_or xs i 0) (take i xs) → ⊥
unfolding IsDistinct
once_only [] h i l m = absurd (omega arith)
once_only (x ∷ xs) h zero l m = m
once_only (x ∷ xs) h (suc i) l (inl e) =
    let n : eqb x (get_or xs i 0) ≡ false = at_place (λ y. eqb x y ≡ false) xs i (omega arith) h.0 in
    let s : get_or xs i 0 ≡ x = e in
    absurd (grind (arith, nat_tests))
  where
    at_place : (P : ℕ → Type 0) (ys : List ℕ) (j : ℕ) → j < length ys → AllByRecursion P ys → P (get_or ys j 0)
    at_place P [] j l h = absurd (omega arith)
    at_place P (y ∷ ys) zero l h = h.0
    at_place P (y ∷ ys) (suc j) l h = at_place P ys j (omega arith) h.1
once_only (x ∷ xs) h (suc i) l (inr m) = once_only xs h.1 i (omega arith) m

pub not_before : (c : Chart) → IsOrder c → (i : ℕ) → i < length c.order → IsIn (get_or c.order i 0) (take i c.order) → ⊥
not_before c h i l m = once_only c.order (IsDistinct-IsPermutation eqb flips (range_with_len 0 (length c.flow.ops)) c.order h.once (range_distinct 0 (length c.flow.ops))) i l m

pub order_front : (xs : List ℕ) (n : ℕ) → n < length xs → take (n + 1) xs ≡ take n xs ++ get_or xs n 0 ∷ []
order_front xs n m = rw add-one (take-suc xs n 0 m)

-- all of the order are operators
range_below : (a n k : ℕ) → a + n ≤ k → AllByRecursion (λ o. o < k) (range_with_len a n)
range_below a zero k l = tt
range_below a (suc n) k l = (omega (arith, l), range_below (a + 1) n k (omega (arith, l)))

pub order_below : (c : Chart) → IsOrder c → AllByRecursion (λ o. o < length c.flow.ops) c.order
order_below c h =
    let n = length c.flow.ops in
    recursion_from_All (λ o. o < n) c.order (All-permutation (λ o. o < n) (range_with_len 0 n) c.order h.once (All-from_recursion (λ o. o < n) (range_with_len 0 n) (range_below 0 n n (omega arith))))

pub at_place : (P : ℕ → Type 0) (ys : List ℕ) (j : ℕ) → j < length ys → AllByRecursion P ys → P (get_or ys j 0)
at_place P [] j l h = absurd (omega (arith, l))
at_place P (y ∷ ys) zero l h = h.0
at_place P (y ∷ ys) (suc j) l h = at_place P ys j (omega (arith, l)) h.1

-- one more turn
pub turn_more : (c : Chart) (n o : ℕ) → n < length c.order → HadTurn c (n + 1) o → HadTurn c n o ⊎ (o ≡ get_or c.order n 0)
turn_more c n o m h = go (in_either o (take n c.order) (get_or c.order n 0 ∷ []) (subst (IsIn o) (order_front c.order n m) h))
  where
    go : (IsIn o (take n c.order) ⊎ IsIn o (get_or c.order n 0 ∷ [])) → HadTurn c n o ⊎ (o ≡ get_or c.order n 0)
    go (inl i) = inl i
    go (inr (inl e)) = inr e
    go (inr (inr x)) = absurd x

pub turn_before : (c : Chart) (n o : ℕ) → n < length c.order → HadTurn c n o → HadTurn c (n + 1) o
turn_before c n o m h = subst (IsIn o) (sym (order_front c.order n m)) (in_left o (take n c.order) (get_or c.order n 0 ∷ []) h)

pub turn_now : (c : Chart) (n : ℕ) → n < length c.order → HadTurn c (n + 1) (get_or c.order n 0)
turn_now c n m = subst (IsIn (get_or c.order n 0)) (sym (order_front c.order n m)) (in_right (get_or c.order n 0) (take n c.order) (get_or c.order n 0 ∷ []) (inl refl))
