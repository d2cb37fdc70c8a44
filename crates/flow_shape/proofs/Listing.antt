-- Lists that are made number by number.
use Rattle.std.proofs.Common.{◌≡◌, ◌+◌, ◌++◌, ◌∷◌, [], ℕ, List, sym, ap, ◌∙◌, arith, map}
use Rattle.std.specs.List.{range_with_len}
use Rattle.std.proofs.lemmas.List.FromFn.{map-range_with_len_more}

pub listed : {X : Type 0} (f : ℕ → X) (k : ℕ) (old new : List X) (x : X) → old ≡ map f (range_with_len 0 k) → new ≡ old ++ x ∷ [] → x ≡ f k → new ≡ map f (range_with_len 0 (k + 1))
listed f k old new x e g h = g ∙ (ap (λ xs. xs ++ x ∷ []) e ∙ (ap (λ y. map f (range_with_len 0 k) ++ y ∷ []) h ∙ sym (map-range_with_len_more f 0 k k (omega arith))))
