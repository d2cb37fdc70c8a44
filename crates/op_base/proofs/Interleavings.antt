-- Interleavings, and the lists that are ones: joined lists and lists in turn.
use Rattle.std.proofs.Common.{Bool, List, ap, arith, cond, drop, false, filter, flat_map, get_or, inl, inr, length, map, refl, set, subst, suc, sym, take, true, zero, ℕ, ◌≡◌, ◌<◌, ◌≤◌, ◌∷◌, ◌++◌, ◌∙◌, []}
use Rattle.std.proofs.lemmas.List.{get_or-map, length-map, map-set, set-get_or}
use Rattle.std.specs.List.{AllByRecursion}
use Rattle.op_base.specs.Lists.{in_turn, AllEmpty, Interleaves, OneHolds, joined, longest, rounds}
use Rattle.op_base.proofs.Filters.{empty_filter}

pub empty_at : {X : Type 0} → (ls : List (List X)) (i : ℕ) → AllEmpty ls → get_or ls i [] ≡ []
empty_at [] i h = refl
empty_at (xs ∷ ls) zero h = h.0
empty_at (xs ∷ ls) (suc i) h = empty_at ls i h.1

pub interleaves_nothing : {X : Type 0} → (ls : List (List X)) (xs : List X) → AllEmpty ls → Interleaves ls xs → xs ≡ []
interleaves_nothing ls [] h k = refl
interleaves_nothing ls (x ∷ xs) h k = let e = empty_at ls k.0 h in let f = k.3 in cc

-- set at the place of the one that is not empty
holds_step : {X : Type 0} → (ls : List (List X)) (i : ℕ) (x : X) (rest whole : List X) → i < length ls → get_or ls i [] ≡ x ∷ rest → OneHolds ls whole → (whole ≡ x ∷ rest) × OneHolds (set ls i rest) rest
holds_step [] i x rest whole l g h = absurd h
holds_step (xs ∷ ls) zero x rest whole l g (inl h) = (sym h.0 ∙ g, inl (refl, h.1))
holds_step (xs ∷ ls) zero x rest whole l g (inr h) = let e = h.0 in cc
holds_step (xs ∷ ls) (suc i) x rest whole l g (inl h) = let e = empty_at ls i h.1 in cc
holds_step (xs ∷ ls) (suc i) x rest whole l g (inr h) = let k = holds_step ls i x rest whole (omega arith) g h.1 in (k.0, inr (h.0, k.1))

pub interleaves_one : {X : Type 0} → (ls : List (List X)) (xs whole : List X) → Interleaves ls xs → OneHolds ls whole → xs ≡ whole
interleaves_one [] [] whole k h = absurd h
interleaves_one (ys ∷ ls) [] whole k (inl h) = sym k.0 ∙ h.0
interleaves_one (ys ∷ ls) [] whole k (inr h) = interleaves_one ls [] whole k.1 h.1
interleaves_one ls (x ∷ xs) whole k h =
    let s = holds_step ls k.0 x k.1 whole k.2 k.3 h in
    ap (λ ys. x ∷ ys) (interleaves_one (set ls k.0 k.1) xs k.1 k.4 s.1) ∙ sym s.0

kept_step : {X : Type 0} (p : X → Bool) → (b : Bool) (ls : List (List X)) (i : ℕ) (x : X) (rest xs : List X) → p x ≡ b → i < length ls → get_or ls i [] ≡ x ∷ rest → Interleaves (map (filter p) (set ls i rest)) (filter p xs) → Interleaves (map (filter p) ls) (filter p (x ∷ xs))
kept_step p true ls i x rest xs e l g h =
    let lanes = map (filter p) ls in
    let here : get_or lanes i [] ≡ x ∷ filter p rest = get_or-map (filter p) ls i [] [] l ∙ ap (filter p) g ∙ ap (λ b. cond b (x ∷ filter p rest) (filter p rest)) e in
    let long : i < length lanes = rw length-map l in
    subst (Interleaves lanes) (sym (ap (λ b. cond b (x ∷ filter p xs) (filter p xs)) e)) (i, filter p rest, long, here, subst (λ ms. Interleaves ms (filter p xs)) (map-set (filter p) ls i rest) h)
kept_step p false ls i x rest xs e l g h =
    let lanes = map (filter p) ls in
    let here : get_or lanes i [] ≡ filter p rest = get_or-map (filter p) ls i [] [] l ∙ ap (filter p) g ∙ ap (λ b. cond b (x ∷ filter p rest) (filter p rest)) e in
    let same : map (filter p) (set ls i rest) ≡ lanes = map-set (filter p) ls i rest ∙ ap (set lanes i) (sym here) ∙ set-get_or lanes i [] in
    subst (Interleaves lanes) (sym (ap (λ b. cond b (x ∷ filter p xs) (filter p xs)) e)) (subst (λ ms. Interleaves ms (filter p xs)) same h)

pub interleaves_filter : {X : Type 0} (p : X → Bool) → (ls : List (List X)) (xs : List X) → Interleaves ls xs → Interleaves (map (filter p) ls) (filter p xs)
interleaves_filter p ls [] h = empty_filter p ls h
interleaves_filter p ls (x ∷ xs) h = kept_step p (p x) ls h.0 x h.1 xs refl h.2 h.3 (interleaves_filter p (set ls h.0 h.1) xs h.4)

-- an interleaving has what its lanes have
all_set : {X : Type 0} (P : X → Type 0) → (ls : List (List X)) (i : ℕ) (x : X) (rest : List X) → i < length ls → get_or ls i [] ≡ x ∷ rest → AllByRecursion (AllByRecursion P) ls → P x × AllByRecursion (AllByRecursion P) (set ls i rest)
all_set P [] i x rest l g h = absurd (omega arith)
all_set P (xs ∷ ls) zero x rest l g h = let k : AllByRecursion P (x ∷ rest) = subst (AllByRecursion P) g h.0 in (k.0, (k.1, h.1))
all_set P (xs ∷ ls) (suc i) x rest l g h = let k = all_set P ls i x rest (omega arith) g h.1 in (k.0, (h.0, k.1))

pub interleaves_all : {X : Type 0} (P : X → Type 0) → (ls : List (List X)) (xs : List X) → AllByRecursion (AllByRecursion P) ls → Interleaves ls xs → AllByRecursion P xs
interleaves_all P ls [] h i = tt
interleaves_all P ls (x ∷ xs) h i = let k = all_set P ls i.0 x i.1 i.2 i.3 h in (k.0, interleaves_all P (set ls i.0 i.1) xs k.1 i.4)

at_middle : {X : Type 0} (pre : List (List X)) (xs : List X) (rest : List (List X)) → get_or (pre ++ (xs ∷ rest)) (length pre) [] ≡ xs
at_middle [] xs rest = refl
at_middle (p ∷ pre) xs rest = at_middle pre xs rest

set_middle : {X : Type 0} (pre : List (List X)) (xs ys : List X) (rest : List (List X)) → set (pre ++ (xs ∷ rest)) (length pre) ys ≡ pre ++ (ys ∷ rest)
set_middle [] xs ys rest = refl
set_middle (p ∷ pre) xs ys rest = ap (λ zs. p ∷ zs) (set_middle pre xs ys rest)

long_middle : {X : Type 0} (pre : List (List X)) (xs : List X) (rest : List (List X)) → length pre < length (pre ++ (xs ∷ rest))
long_middle [] xs rest = omega arith
long_middle (p ∷ pre) xs rest = let h = long_middle pre xs rest in omega arith

one_more : {X : Type 0} (pre : List (List X)) (xs : List X) (rest : List (List X)) → pre ++ (xs ∷ rest) ≡ (pre ++ (xs ∷ [])) ++ rest
one_more [] xs rest = refl
one_more (p ∷ pre) xs rest = ap (λ zs. p ∷ zs) (one_more pre xs rest)

-- the first items of lists, then what interleaves what is left
heads_first : {X : Type 0} (pre lists : List (List X)) (xs : List X) → Interleaves (pre ++ map (drop 1) lists) xs → Interleaves (pre ++ lists) (flat_map (take 1) lists ++ xs)
heads_first pre [] xs h = h
heads_first pre ([] ∷ lists) xs h =
    subst (λ ls. Interleaves ls (flat_map (take 1) lists ++ xs)) (sym (one_more pre [] lists))
    (heads_first (pre ++ ([] ∷ [])) lists xs (subst (λ ls. Interleaves ls xs) (one_more pre [] (map (drop 1) lists)) h))
heads_first {X} pre ((y ∷ ys) ∷ lists) xs h = (
  length pre,
  ys,
  long_middle pre (y ∷ ys) lists,
  at_middle pre (y ∷ ys) lists,
  subst (λ ls. Interleaves ls (flat_map (take 1) lists ++ xs)) (sym (set_middle pre (y ∷ ys) ys lists ∙ one_more pre ys lists))
      (heads_first (pre ++ (ys ∷ [])) lists xs (subst (λ ls. Interleaves ls xs) (one_more pre ys (map (drop 1) lists)) h)),
)

all_short : {X : Type 0} (lists : List (List X)) → longest lists ≤ 0 → AllEmpty lists
all_short [] l = tt
all_short ([] ∷ lists) l = (refl, all_short lists (omega arith))
all_short ((x ∷ xs) ∷ lists) l = absurd (omega arith)

dropped_short : {X : Type 0} (lists : List (List X)) (n : ℕ) → longest lists ≤ suc n → longest (map (drop 1) lists) ≤ n
dropped_short [] n l = omega arith
dropped_short ([] ∷ lists) n l = let h = dropped_short lists n (omega arith) in omega arith
dropped_short ((x ∷ xs) ∷ lists) n l = let h = dropped_short lists n (omega arith) in omega arith

pub rounds_interleave : {X : Type 0} (n : ℕ) (lists : List (List X)) → longest lists ≤ n → Interleaves lists (rounds n lists)
rounds_interleave zero lists l = all_short lists l
rounds_interleave (suc n) lists l = heads_first [] lists (rounds n (map (drop 1) lists)) (rounds_interleave n (map (drop 1) lists) (dropped_short lists n l))

-- a list in front of an interleaving
alone_first : {X : Type 0} (xs ys : List X) (lists : List (List X)) → Interleaves ([] ∷ lists) ys → Interleaves (xs ∷ lists) (xs ++ ys)
alone_first [] ys lists h = h
alone_first (x ∷ xs) ys lists h = (0, xs, omega arith, refl, alone_first xs ys lists h)

under_empty : {X : Type 0} (lists : List (List X)) (ys : List X) → Interleaves lists ys → Interleaves ([] ∷ lists) ys
under_empty lists [] h = (refl, h)
under_empty lists (y ∷ ys) h = (suc (h.0), h.1, (let l = h.2 in omega arith), h.3, under_empty (set lists (h.0) (h.1)) ys h.4)

pub joined_interleaves : {X : Type 0} (lists : List (List X)) → Interleaves lists (joined lists)
joined_interleaves [] = tt
joined_interleaves (xs ∷ lists) = alone_first xs (joined lists) lists (under_empty lists (joined lists) (joined_interleaves lists))

pub turns_interleave : {X : Type 0} (lists : List (List X)) → Interleaves lists (in_turn lists)
turns_interleave lists = rounds_interleave (longest lists) lists (omega arith)
