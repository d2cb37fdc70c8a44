-- Lists gone through from the first on, and what holds of all that pass.
use Rattle.std.proofs.Common.{◌≡◌, ◌<◌, ◌+◌, ◌++◌, ◌∷◌, [], ℕ, zero, suc, List, Bool, true, false, cond, sym, ap, ◌∙◌, arith, length, map, take, get_or, ◌≤◌}
use Rattle.std.proofs.Math.Seq.{take-suc}
use Rattle.std.proofs.lemmas.List.{map-append}
use Rattle.std.specs.List.{AllByRecursion, filter, range_with_len}

passing_by : {X : Type 0} (P : X → Type 0) (b : Bool) (x : X) (ys : List X) → P x → AllByRecursion P ys → AllByRecursion P (cond b (x ∷ ys) ys)
passing_by P true x ys h a = (h, a)
passing_by P false x ys h a = a

-- what holds of all holds of those that pass
pub all_passing : {X : Type 0} (P : X → Type 0) (p : X → Bool) (xs : List X) → AllByRecursion P xs → AllByRecursion P (filter p xs)
all_passing P p [] a = tt
all_passing P p (x ∷ xs) a = passing_by P (p x) x (filter p xs) a.0 (all_passing P p xs a.1)

pub range_within : (a n m : ℕ) → a + n ≤ m → AllByRecursion (λ c. c < m) (range_with_len a n)
range_within a n m h = all_range n a h
  where
    all_range : (k b : ℕ) → b + k ≤ m → AllByRecursion (λ c. c < m) (range_with_len b k)
    all_range zero b l = tt
    all_range (suc k) b l = (omega arith, all_range k (b + 1) (omega arith))

pub range_more : (a n c : ℕ) → a + n ≡ c → range_with_len a (suc n) ≡ range_with_len a n ++ c ∷ []
range_more a zero c e = ap (λ x. x ∷ []) (let h : a ≡ c = omega (arith, e) in h)
range_more a (suc n) c e = ap (λ cs. a ∷ cs) (range_more (a + 1) n c (omega (arith, e)))

pub take_next : {X : Type 0} (xs : List X) (i : ℕ) (x : X) → i < length xs → x ≡ get_or xs i x → take (i + 1) xs ≡ take i xs ++ x ∷ []
take_next xs i x h at = ap (λ n. take n xs) (let up : i + 1 ≡ suc i = omega arith in up) ∙ (take-suc xs i x h ∙ ap (λ y. take i xs ++ y ∷ []) (sym at))

-- what each gives, gone through one more
pub map_next : {X Y : Type 0} (f : X → Y) (xs : List X) (i : ℕ) (x : X) (old new : List Y) (y : Y) → i < length xs → x ≡ get_or xs i x → old ≡ map f (take i xs) → y ≡ f x → new ≡ old ++ y ∷ [] → new ≡ map f (take (i + 1) xs)
map_next f xs i x old new y h at inv is add =
    add ∙ (ap (λ ys. ys ++ y ∷ []) inv ∙ (ap (λ z. map f (take i xs) ++ z ∷ []) is ∙ (sym (map-append f (take i xs) (x ∷ [])) ∙ ap (map f) (sym (take_next xs i x h at)))))
