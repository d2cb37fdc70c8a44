-- The first cause of places.
use Rattle.std.proofs.Common.{◌≡◌, ◌∷◌, ◌++◌, [], List, Option, Some, None, refl, sym, ap, ◌∙◌}
use Rattle.shape_base.specs.declared.fault.ShapeWhy.{ShapeWhy}
use Rattle.shape_base.specs.Causes.{first_cause}

-- a cause, or else what stands behind
abbrev pub or_else : Option ShapeWhy → Option ShapeWhy → Option ShapeWhy
or_else None rest = rest
or_else (Some why) rest = Some why

pub first_both : (xs ys : List (Option ShapeWhy)) → first_cause (xs ++ ys) ≡ or_else (first_cause xs) (first_cause ys)
first_both [] ys = refl
first_both (None ∷ xs) ys = first_both xs ys
first_both (Some why ∷ xs) ys = refl

-- of one place alone
pub first_one : (c : Option ShapeWhy) → first_cause (c ∷ []) ≡ c
first_one None = refl
first_one (Some why) = refl

pub first_more : (c : Option ShapeWhy) (rest : List (Option ShapeWhy)) → first_cause (c ∷ rest) ≡ or_else c (first_cause rest)
first_more None rest = refl
first_more (Some why) rest = refl

-- where nothing is wrong, nothing is wrong at the parts
pub none_head : (c : Option ShapeWhy) (rest : List (Option ShapeWhy)) → first_cause (c ∷ rest) ≡ None → (c ≡ None) × (first_cause rest ≡ None)
none_head None rest e = (refl, e)
none_head (Some why) rest e = cc

pub none_both : (xs ys : List (Option ShapeWhy)) → first_cause (xs ++ ys) ≡ None → (first_cause xs ≡ None) × (first_cause ys ≡ None)
none_both [] ys e = (refl, e)
none_both (None ∷ xs) ys e = none_both xs ys e
none_both (Some why ∷ xs) ys e = cc

-- of several places and two more
pub first_three : (a : List (Option ShapeWhy)) (b d x : Option ShapeWhy) → x ≡ first_cause a → first_cause (a ++ (b ∷ (d ∷ []))) ≡ or_else x (or_else b d)
first_three a b d x e = first_both a (b ∷ (d ∷ [])) ∙ (ap (λ o. or_else o (first_cause (b ∷ (d ∷ [])))) (sym e) ∙ ap (or_else x) (first_more b (d ∷ []) ∙ ap (or_else b) (first_one d)))

-- of several places behind one where nothing is wrong, and one more
pub first_behind : (c : Option ShapeWhy) (xs : List (Option ShapeWhy)) (d : Option ShapeWhy) → c ≡ None → first_cause ((c ∷ xs) ++ (d ∷ [])) ≡ or_else (first_cause xs) d
first_behind None xs d e = first_both xs (d ∷ []) ∙ ap (or_else (first_cause xs)) (first_one d)
first_behind (Some why) xs d e = cc
