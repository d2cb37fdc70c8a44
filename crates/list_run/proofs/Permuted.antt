-- What is given for the numbers of a list, in whatever order they stand.
use Rattle.std.proofs.Common.{◌≡◌, ℕ, ◌+◌, ◌==◌, true, cond, inl, inr, List, [], ◌∷◌, ◌++◌, append_assoc, count_by, refl, sym, ap, ap₂, ◌∙◌, subst, arith, flat_map, IsPermutation}
use Rattle.std.proofs.lemmas.Bool.Decides.{nat_tests}
use Rattle.std.proofs.lemmas.Grind.{flat_map-append}
use Rattle.std.proofs.lemmas.List.Sorted.{IsPermutation-append_comm, IsPermutation-append_left, IsPermutation-append_right, IsPermutation-refl, IsPermutation-trans}
use Rattle.op_base.specs.Columns.{IsIn}
use Rattle.op_base.proofs.Bags.{count-append, count-cons, count-permutation, split_at}

number_exact : (m n : ℕ) → (m == n) ≡ true → m ≡ n
number_exact m n e = grind (arith, nat_tests)

number_itself : (n : ℕ) → (n == n) ≡ true
number_itself n = grind (arith, nat_tests)

swap_front : {Y : Type 0} (a b d : List Y) → IsPermutation (a ++ (b ++ d)) (b ++ (a ++ d))
swap_front a b d =
    subst (IsPermutation (a ++ (b ++ d))) (append_assoc b a d)
    (subst (λ zs. IsPermutation zs ((b ++ a) ++ d)) (append_assoc a b d) (IsPermutation-append_left d (a ++ b) (b ++ a) (IsPermutation-append_comm a b)))

-- what is given for the numbers of a permutation
flat_numbers : {Y : Type 0} (g : ℕ → List Y) (xs ys : List ℕ) → ((z : ℕ) → count_by (λ i. z == i) xs ≡ count_by (λ i. z == i) ys) → IsPermutation (flat_map g xs) (flat_map g ys)
flat_numbers g [] [] h = IsPermutation-refl []
flat_numbers g [] (y ∷ ys) h =
    let c : count_by (λ i. y == i) (y ∷ ys) ≡ 1 + count_by (λ i. y == i) ys = count-cons (λ i. y == i) y ys ∙ ap (λ b. cond b 1 0 + count_by (λ i. y == i) ys) (number_itself y) in
    let e = h y in absurd (omega (arith, c, e))
flat_numbers {Y} g (x ∷ xs) ys h =
    let c : count_by (λ i. x == i) (x ∷ xs) ≡ 1 + count_by (λ i. x == i) xs = count-cons (λ i. x == i) x xs ∙ ap (λ b. cond b 1 0 + count_by (λ i. x == i) xs) (number_itself x) in
    let s = split_at (λ i. x == i) ys (let e = h x in omega (arith, c, e)) in
    let same : x ≡ s.1 = number_exact x s.1 s.3 in
    let shape : ys ≡ s.0 ++ x ∷ s.2 = s.4 ∙ ap (λ y. s.0 ++ y ∷ s.2) (sym same) in
    let counts : (z : ℕ) → count_by (λ i. z == i) xs ≡ count_by (λ i. z == i) (s.0 ++ s.2) = λ z.
    let a = h z ∙ ap (count_by (λ i. z == i)) shape ∙ count-append (λ i. z == i) s.0 (x ∷ s.2) in
    let b = count-cons (λ i. z == i) x xs in
    let d = count-cons (λ i. z == i) x s.2 in
    let e = count-append (λ i. z == i) s.0 s.2 in
    omega (arith, a, b, d, e) in
    let left = flat_map g s.0 in
    let right = flat_map g s.2 in
    let rest : IsPermutation (flat_map g xs) (left ++ right) = subst (IsPermutation (flat_map g xs)) (flat_map-append g s.0 s.2) (flat_numbers g xs (s.0 ++ s.2) counts) in
    let over : IsPermutation (g x ++ flat_map g xs) (g x ++ (left ++ right)) = IsPermutation-append_right (g x) (flat_map g xs) (left ++ right) rest in
    let turn : IsPermutation (g x ++ (left ++ right)) (left ++ (g x ++ right)) = swap_front (g x) left right in
    subst (IsPermutation (g x ++ flat_map g xs)) (sym (ap (flat_map g) shape ∙ flat_map-append g s.0 (x ∷ s.2))) (IsPermutation-trans (g x ++ flat_map g xs) (g x ++ (left ++ right)) (left ++ (g x ++ right)) over turn)

pub flat_permuted : {Y : Type 0} (g : ℕ → List Y) (xs ys : List ℕ) → IsPermutation xs ys → IsPermutation (flat_map g xs) (flat_map g ys)
flat_permuted g xs ys h = flat_numbers g xs ys (λ z. count-permutation (λ i. z == i) xs ys h)

-- what is the same for each member
pub flat_members : {Y : Type 0} (f g : ℕ → List Y) (xs : List ℕ) → ((x : ℕ) → IsIn x xs → f x ≡ g x) → flat_map f xs ≡ flat_map g xs
flat_members f g [] h = refl
flat_members f g (x ∷ xs) h = ap₂ (λ a b. a ++ b) (h x (inl refl)) (flat_members f g xs (λ y i. h y (inr i)))
