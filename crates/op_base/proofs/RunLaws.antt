-- The runs of a list in order are the rows of each rank.
use Rattle.std.proofs.Common.{List, ap, ap₂, cond, false, filter, flat_map, map, refl, subst, sym, true≢false, ◌≡◌, ◌∷◌, ◌++◌, ◌∙◌, []}
use Rattle.std.proofs.lemmas.Cmp.{alike_right, tied_back, tied_itself}
use Rattle.std.proofs.lemmas.List.Elements.{filter_agree}
use Rattle.std.specs.Cmp.{IsTotalOrder}
use Rattle.std.specs.List.{AllByRecursion}
use Rattle.std.specs.Ordering.{is_eq, is_lt, ordering_reverse}
use Rattle.std.specs.declared.cmp.Ordering.{Ordering}
use Rattle.std.specs.declared.cmp.Ordering.TheVariants.{Equal, Greater, Less}
use Rattle.op_base.specs.Lists.{IsArranged, firsts, onto_run, put_at, runs_of, with_rank}
use Rattle.op_base.proofs.All.{all_firsts}
use Rattle.op_base.proofs.Arranged.{first_tie, none_tie, tie}
use Rattle.op_base.proofs.Ranks.{Ascends, firsts_ascend, for_ranks}

-- what isn't above any other comes first
head_first : {X : Type 0} {R : X → X → Ordering} → IsTotalOrder R → (y : X) (vs : List X) → AllByRecursion (λ z. is_lt (R z y) ≡ false) vs → (zs : List X) × (with_rank R y vs ≡ y ∷ zs)
head_first o y [] h = ([], refl)
head_first {X} {R} o y (v ∷ vs) h = go (R y v) refl
  where
    go : (c : Ordering) → R y v ≡ c → (zs : List X) × (put_at c y v vs (with_rank R y vs) ≡ y ∷ zs)
    go Less e = (v ∷ vs, refl)
    go Equal e = (vs, refl)
    go Greater e = absurd (true≢false (ap is_lt (sym (o.antisymm v y ∙ ap ordering_reverse e)) ∙ h.0))

-- ranks above x don't have it
map_above : {X : Type 0} (R : X → X → Ordering) (x : X) (xs : List X) (zs : List X) → AllByRecursion (λ z. R x z ≡ Less) zs → map (λ z. filter (tie R z) (x ∷ xs)) zs ≡ map (λ z. filter (tie R z) xs) zs
map_above R x xs [] h = refl
map_above {X} R x xs (z ∷ zs) h = ap₂ (λ a b. a ∷ b) (ap (λ c. cond (is_eq c) (x ∷ filter (tie R z) xs) (filter (tie R z) xs)) h.0) (map_above R x xs zs h.1)

tied_above : {X : Type 0} {R : X → X → Ordering} → IsTotalOrder R → (x y : X) (zs : List X) → R x y ≡ Equal → AllByRecursion (λ z. R y z ≡ Less) zs → AllByRecursion (λ z. R x z ≡ Less) zs
tied_above o x y [] e h = tt
tied_above o x y (z ∷ zs) e h = (o.congr x y z e ∙ h.0, tied_above o x y zs e h.1)

less_above : {X : Type 0} {R : X → X → Ordering} → IsTotalOrder R → (x y : X) (zs : List X) → R x y ≡ Less → AllByRecursion (λ z. R y z ≡ Less) zs → AllByRecursion (λ z. R x z ≡ Less) zs
less_above o x y [] e h = tt
less_above o x y (z ∷ zs) e h = (o.trans x y z e h.0, less_above o x y zs e h.1)

run_step : {X : Type 0} {R : X → X → Ordering} → IsTotalOrder R → (x y : X) (ys zs : List X) → firsts R (y ∷ ys) ≡ y ∷ zs → IsArranged R (x ∷ (y ∷ ys)) → onto_run R x (map (λ v. filter (tie R v) (y ∷ ys)) (y ∷ zs)) ≡ map (λ v. filter (tie R v) (x ∷ (y ∷ ys))) (firsts R (x ∷ (y ∷ ys)))
run_step {X} {R} o x y ys zs f up =
    ap (λ run. onto_run R x (run ∷ map (λ v. filter (tie R v) (y ∷ ys)) zs)) (first_tie o y ys) ∙ go (R x y) refl ∙ ap (λ vs. map (λ v. filter (tie R v) (x ∷ (y ∷ ys))) (with_rank R x vs)) (sym f)
  where
    rest : List (List X)
    rest = map (λ v. filter (tie R v) (y ∷ ys)) zs

    above : AllByRecursion (λ (z : X). R y z ≡ Less) zs
    above = (subst (Ascends R) f (firsts_ascend o (y ∷ ys))).0

    go : (c : Ordering) → R x y ≡ c → cond (is_eq c) ((x ∷ (y ∷ filter (tie R y) ys)) ∷ rest) ((x ∷ []) ∷ ((y ∷ filter (tie R y) ys) ∷ rest)) ≡ map (λ v. filter (tie R v) (x ∷ (y ∷ ys))) (put_at c x y zs (with_rank R x zs))
    go Less e =
        ap₂ (λ a b. a ∷ b)
        (sym (first_tie o x (y ∷ ys) ∙ ap (λ as1. x ∷ as1) (none_tie o x y (y ∷ ys) e (ap is_lt (tied_itself o y), up.1.0))))
        (ap (λ a. a ∷ rest) (sym (first_tie o y ys)) ∙ sym (map_above R x (y ∷ ys) (y ∷ zs) (e, less_above o x y zs e above)))
    go Equal e =
        ap₂ (λ a b. a ∷ b)
        (sym (first_tie o x (y ∷ ys) ∙ ap (λ as1. x ∷ as1) (ap (λ c. cond (is_eq c) (y ∷ filter (tie R x) ys) (filter (tie R x) ys)) (tied_back o x y e)
        ∙ ap (λ as1. y ∷ as1) (filter_agree (tie R x) (tie R y) (λ w. ap is_eq (alike_right o x y w e)) ys))))
        (sym (map_above R x (y ∷ ys) zs (tied_above o x y zs e above)))
    go Greater e = absurd (true≢false (ap is_lt (sym (o.antisymm y x ∙ ap ordering_reverse e)) ∙ up.0.0))

-- The runs of a list in order are its ranks.
pub runs_are : {X : Type 0} {R : X → X → Ordering} → IsTotalOrder R → (xs : List X) → IsArranged R xs → runs_of R xs ≡ map (λ v. filter (tie R v) xs) (firsts R xs)
runs_are o [] h = refl
runs_are {X} {R} o (x ∷ []) h = ap (λ run. run ∷ []) (sym (first_tie o x []))
runs_are {X} {R} o (x ∷ (y ∷ ys)) h =
    let f = head_first o y (firsts R ys) (all_firsts (λ (z : X). is_lt (R z y) ≡ false) R ys h.1.0) in
    ap (onto_run R x) (runs_are o (y ∷ ys) h.1 ∙ ap (map (λ v. filter (tie R v) (y ∷ ys))) f.1) ∙ run_step o x y ys f.0 f.1 h

flat_of_map : {A B C : Type 0} (f : B → List C) (g : A → B) (xs : List A) → flat_map f (map g xs) ≡ flat_map (λ x. f (g x)) xs
flat_of_map f g [] = refl
flat_of_map f g (x ∷ xs) = ap (λ ys. f (g x) ++ ys) (flat_of_map f g xs)

-- What a stream does run by run is, on a list in order, what is done for each rank.
pub by_runs : {X Y : Type 0} {R : X → X → Ordering} → IsTotalOrder R → (f : List X → List Y) (xs : List X) → IsArranged R xs → flat_map f (runs_of R xs) ≡ for_ranks R f xs
by_runs {X} {Y} {R} o f xs h = ap (flat_map f) (runs_are o xs h) ∙ flat_of_map f (λ (v : X). filter (tie R v) xs) (firsts R xs)
