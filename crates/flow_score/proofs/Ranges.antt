-- Lists over ranges of numbers, one number at a time.
use Rattle.std.proofs.Common.{Bool, true, false, List, [], ◌∷◌, ◌++◌, ap, cond, filter, flat_map, get_or, length, refl, sym, ℕ, zero, suc, ◌+◌, ◌-◌, ◌<◌, ◌==◌, ◌≡◌, ◌∙◌, ◌⊎◌, inl, inr, min, arith}
use Rattle.std.specs.List.{range_with_len, sum_by}
use Rattle.std.proofs.lemmas.Grind.{flat_map-append}
use Rattle.std.proofs.lemmas.List.Sums.{sum_by-append}
use Rattle.std.proofs.lemmas.List.{append-nil, append_assoc}

pub range_more : (a n : ℕ) → range_with_len a (suc n) ≡ range_with_len a n ++ (a + n) ∷ []
range_more a zero = ap (λ k. k ∷ []) (grind arith)
range_more a (suc n) = ap (λ ks. a ∷ ks) (range_more (a + 1) n ∙ ap (λ k. range_with_len (a + 1) n ++ k ∷ []) (grind arith))

pub flat_more : {X : Type 0} (f : ℕ → List X) (n : ℕ) → flat_map f (range_with_len 0 (n + 1)) ≡ flat_map f (range_with_len 0 n) ++ f n
flat_more f n =
    ap (λ k. flat_map f (range_with_len 0 k)) (one_more n) ∙ ap (flat_map f) (range_more 0 n)
    ∙ ap (λ k. flat_map f (range_with_len 0 n ++ k ∷ [])) (none_before n)
    ∙ flat_map-append f (range_with_len 0 n) (n ∷ [])
    ∙ ap (λ xs. flat_map f (range_with_len 0 n) ++ xs) (append-nil (f n))
  where
    one_more : (k : ℕ) → k + 1 ≡ suc k
    one_more k = grind arith

    none_before : (k : ℕ) → 0 + k ≡ k
    none_before k = grind arith

one_less : (i n : ℕ) → i < n → n - i ≡ suc (n - (i + 1))
one_less i n h = grind (arith, h)

pub filter_skip : (p : ℕ → Bool) (i n : ℕ) → i < n → p i ≡ false → filter p (range_with_len i (n - i)) ≡ filter p (range_with_len (i + 1) (n - (i + 1)))
filter_skip p i n h e = ap (λ k. filter p (range_with_len i k)) (one_less i n h) ∙ ap (λ b. cond b (i ∷ filter p (range_with_len (i + 1) (n - (i + 1)))) (filter p (range_with_len (i + 1) (n - (i + 1))))) e

pub filter_take : (p : ℕ → Bool) (i n : ℕ) → i < n → p i ≡ true → get_or (filter p (range_with_len i (n - i))) 0 0 ≡ i
filter_take p i n h e = ap (λ k. get_or (filter p (range_with_len i k)) 0 0) (one_less i n h) ∙ ap (λ b. get_or (cond b (i ∷ filter p (range_with_len (i + 1) (n - (i + 1)))) (filter p (range_with_len (i + 1) (n - (i + 1))))) 0 0) e

-- a text that grew by one line of many
pub text_more : {X : Type 0} (f : ℕ → List X) (n : ℕ) (old now then : List X) → now ≡ old ++ flat_map f (range_with_len 0 n) → then ≡ now ++ f n → then ≡ old ++ flat_map f (range_with_len 0 (n + 1))
text_more f n old now then h e =
    e ∙ ap (λ xs. xs ++ f n) h ∙ append_assoc old (flat_map f (range_with_len 0 n)) (f n) ∙ ap (λ xs. old ++ xs) (sym (flat_more f n))

pub sum_more : (f : ℕ → ℕ) (n : ℕ) → sum_by f (range_with_len 0 (n + 1)) ≡ sum_by f (range_with_len 0 n) + f n
sum_more f n = ap (λ k. sum_by f (range_with_len 0 k)) (one_more n) ∙ ap (sum_by f) (range_more 0 n) ∙ ap (λ k. sum_by f (range_with_len 0 n ++ k ∷ [])) (none_before n) ∙ sum_behind f (range_with_len 0 n) n
  where
    one_more : (k : ℕ) → k + 1 ≡ suc k
    one_more k = grind arith

    none_before : (k : ℕ) → 0 + k ≡ k
    none_before k = grind arith

    sum_behind : (f : ℕ → ℕ) (ks : List ℕ) (k : ℕ) → sum_by f (ks ++ k ∷ []) ≡ sum_by f ks + f k
    sum_behind f ks k = sum_by-append f ks (k ∷ []) ∙ grind arith

-- a sum up to a limit grows up to that limit
pub capped_more : (a b limit t : ℕ) → t ≡ min a limit → min (t + b) limit ≡ min (a + b) limit
capped_more a b limit t h = ap (λ m. min (m + b) limit) h ∙ grind arith

-- what holds of all numbers below n, and of n
pub below_more : (p : ℕ → Bool) (b : Bool) (n : ℕ) → ((k : ℕ) → k < n → p k ≡ b) → p n ≡ b → (k : ℕ) → k < n + 1 → p k ≡ b
below_more p b n h e k l = go (below_or k n l)
  where
    below_or : (k n : ℕ) → k < n + 1 → (k < n) ⊎ (k ≡ n)
    below_or k n l = grind (arith, l)

    go : (k < n) ⊎ (k ≡ n) → p k ≡ b
    go (inl m) = h k m
    go (inr m) = ap p m ∙ e
