-- Steps of the loops over redirects and stages.
use Rattle.std.proofs.Common.{◌≡◌, ◌<◌, ◌+◌, ◌++◌, ◌∷◌, [], ℕ, List, length, take, drop, get_or, refl, sym, ap, ◌∙◌, append_assoc}
use Rattle.std.specs.Prelude.{flat_map}
use Rattle.std.proofs.lemmas.List.{take_more, drop_more, append-nil}
use Rattle.std.proofs.lemmas.Grind.{flat_map-append}

-- what is appended for each item of a list
pub flat_more : {X A : Type 0} (f : X → List A) (xs : List X) (i : ℕ) (x : X) (found more : List A) → i < length xs → x ≡ get_or xs i x → found ≡ flat_map f (take i xs) → more ≡ found ++ f x → more ≡ flat_map f (take (i + 1) xs)
flat_more f xs i x found more h e a b =
    b ∙ (ap (λ y. y ++ f x) a ∙ (ap (λ y. flat_map f (take i xs) ++ y) (sym (append-nil (f x))) ∙ (sym (flat_map-append f (take i xs) (x ∷ [])) ∙ ap (flat_map f) (ap (λ y. take i xs ++ y ∷ []) e ∙ sym (take_more xs i x h)))))

-- what is appended for each item, where each leaves something to the next
pub folded_more : {X A S : Type 0} (F : S → List X → List A) (f : S → X → List A) (go : S → X → S) (all : List A) (xs : List X) (i : ℕ) (x : X) (s : S) (found more : List A)
    → ((t : S) (y : X) (ys : List X) → F t (y ∷ ys) ≡ f t y ++ F (go t y) ys)
    → i < length xs → x ≡ get_or xs i x → found ++ F s (drop i xs) ≡ all → more ≡ found ++ f s x → more ++ F (go s x) (drop (i + 1) xs) ≡ all
folded_more F f go all xs i x s found more cons h e a b =
    ap (λ y. y ++ F (go s x) (drop (i + 1) xs)) b
    ∙ (append_assoc found (f s x) (F (go s x) (drop (i + 1) xs))
    ∙ (ap (λ y. found ++ y) (sym (cons s x (drop (i + 1) xs)) ∙ ap (F s) (ap (λ y. y ∷ drop (i + 1) xs) e ∙ sym (drop_more xs i x h))) ∙ a))
