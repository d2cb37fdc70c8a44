-- A merge of lists in order is the arranged list of all.
use Rattle.std.proofs.Common.{Bool, List, ap, ap₂, arith, cond, false, filter, get_or, length, map, refl, set, subst, suc, sym, zero, ℕ, ◌≡◌, ◌<◌, ◌∷◌, ◌++◌, ◌∙◌, []}
use Rattle.std.proofs.lemmas.Cmp.{tied_back, tied_itself}
use Rattle.std.proofs.lemmas.List.Sorted.{ranks_by}
use Rattle.std.specs.Cmp.{IsTotalOrder}
use Rattle.std.specs.List.{AllByRecursion}
use Rattle.std.specs.Ordering.{is_eq, is_lt}
use Rattle.std.specs.declared.cmp.Ordering.{Ordering}
use Rattle.std.specs.declared.cmp.Ordering.TheVariants.{Equal, Greater, Less}
use Rattle.ds_schema.specs.Rows.{row_cmp}
use Rattle.ds_schema.specs.declared.key.Key.{Key}
use Rattle.op_base.specs.Columns.{Row}
use Rattle.op_base.specs.Keyed.{arranged}
use Rattle.op_base.proofs.KeyLaws.{by_key_ranks}
use Rattle.op_base.specs.Lists.{AllEmpty, Interleaves, IsArranged, Merges, joined}
use Rattle.op_base.proofs.All.{all_map}
use Rattle.op_base.proofs.Arranged.{none_tie, same_arranged, tie}
use Rattle.op_base.proofs.Bags.{filter_joined}
use Rattle.op_base.proofs.Interleavings.{interleaves_all}
use Rattle.op_base.proofs.Orders.{row_total}
use Rattle.op_base.proofs.Ranks.{for_ranks}
use Rattle.op_base.proofs.Sorting.{ranks_arranged, ranks_ties}

-- merge
pub merge_interleaves : {X : Type 0} (R : X → X → Ordering) (ls : List (List X)) (xs : List X) → Merges R ls xs → Interleaves ls xs
merge_interleaves R ls [] h = h
merge_interleaves R ls (x ∷ xs) h = (h.0, h.1, h.2, h.3, merge_interleaves R (set ls h.0 h.1) xs h.5)

pub all_tail : {X : Type 0} (P : List X → Type 0) → ((x : X) (xs : List X) → P (x ∷ xs) → P xs) → (ls : List (List X)) (i : ℕ) (x : X) (rest : List X) → get_or ls i [] ≡ x ∷ rest → AllByRecursion P ls → AllByRecursion P (set ls i rest)
all_tail P t [] i x rest e h = tt
all_tail P t (xs ∷ ls) zero x rest e h = (t x rest (subst P e h.0), h.1)
all_tail P t (xs ∷ ls) (suc i) x rest e h = (h.0, all_tail P t ls i x rest e h.1)

-- all that comes is at least the least
heads_least : {X : Type 0} {R : X → X → Ordering} → IsTotalOrder R → (z : X) (ls : List (List X)) → ((j : ℕ) (y : X) (rest : List X) → get_or ls j [] ≡ y ∷ rest → is_lt (R y z) ≡ false) → AllByRecursion (IsArranged R) ls → AllByRecursion (AllByRecursion (λ y. is_lt (R y z) ≡ false)) ls
heads_least o z [] h up = tt
heads_least {X} {R} o z (xs ∷ ls) h up = (go xs (h 0) up.0, heads_least o z ls (λ j y rest e. h (suc j) y rest e) up.1)
  where
    above : (y w : X) → is_lt (R y z) ≡ false → is_lt (R w y) ≡ false → is_lt (R w z) ≡ false
    above y w a b = (ranks_by o (λ (u : X). u)).chain w y z b a

    go : (ys : List X) → ((y : X) (rest : List X) → ys ≡ y ∷ rest → is_lt (R y z) ≡ false) → IsArranged R ys → AllByRecursion (λ (y : X). is_lt (R y z) ≡ false) ys
    go [] f u = tt
    go (y ∷ ys) f u = (f y ys refl, all_map (λ (w : X). is_lt (R w y) ≡ false) (λ (w : X). is_lt (R w z) ≡ false) (λ w b. above y w (f y ys refl) b) ys u.0)

pub arranged_tails : {X : Type 0} (R : X → X → Ordering) (x : X) (xs : List X) → IsArranged R (x ∷ xs) → IsArranged R xs
arranged_tails R x xs h = h.1

-- A merge of lists in order is in order.
pub merge_arranged : {X : Type 0} {R : X → X → Ordering} → IsTotalOrder R → (ls : List (List X)) (xs : List X) → AllByRecursion (IsArranged R) ls → Merges R ls xs → IsArranged R xs
merge_arranged o ls [] up h = tt
merge_arranged {X} {R} o ls (x ∷ xs) up h =
    let rest = all_tail (IsArranged R) (arranged_tails R) ls h.0 x h.1 h.3 up in
    let above = heads_least o x ls (λ j y r e. (h.4 j y r e).0) up in (
      interleaves_all (λ (y : X). is_lt (R y x) ≡ false) (set ls h.0 h.1) xs (all_tail (AllByRecursion (λ (y : X). is_lt (R y x) ≡ false)) (λ y ys k. k.1) ls h.0 x h.1 h.3 above) (merge_interleaves R (set ls h.0 h.1) xs h.5),
      merge_arranged o (set ls h.0 h.1) xs rest h.5,
    )

pub merge_rows_arranged : (keys : List Key) (parts : List (List Row)) (rows : List Row) → AllByRecursion (IsArranged (row_cmp keys)) parts → Merges (row_cmp keys) parts rows → IsArranged (row_cmp keys) rows
merge_rows_arranged keys parts rows up m = merge_arranged (row_total keys) parts rows up m

pub merge_rows_interleave : (keys : List Key) (parts : List (List Row)) (rows : List Row) → Merges (row_cmp keys) parts rows → Interleaves parts rows
merge_rows_interleave keys parts rows m = merge_interleaves (row_cmp keys) parts rows m

-- nothing that ties with what is below the head of a list in order
head_above : {X : Type 0} {R : X → X → Ordering} → IsTotalOrder R → (z x : X) → R z x ≡ Equal → (xs : List X) → IsArranged R xs → ((y : X) (rest : List X) → xs ≡ y ∷ rest → R x y ≡ Less) → filter (tie R z) xs ≡ []
head_above o z x e [] up h = refl
head_above {X} {R} o z x e (y ∷ ys) up h =
    none_tie o z y (y ∷ ys) (o.congr z x y e ∙ h y ys refl) (ap is_lt (tied_itself o y), up.0)

-- what ties with the least, taken from the first list that has such
take_tie : {X : Type 0} {R : X → X → Ordering} → IsTotalOrder R → (z x : X) → R z x ≡ Equal → (ls : List (List X)) (i : ℕ) (rest : List X) → i < length ls → get_or ls i [] ≡ x ∷ rest → AllByRecursion (IsArranged R) ls →
    ((j : ℕ) (y : X) (ys : List X) → get_or ls j [] ≡ y ∷ ys → j < i → R x y ≡ Less) → joined (map (filter (tie R z)) ls) ≡ x ∷ joined (map (filter (tie R z)) (set ls i rest))
take_tie o z x e [] i rest l g up h = absurd (omega arith)
take_tie {X} {R} o z x e (xs ∷ ls) zero rest l g up h =
    ap (λ ys. filter (tie R z) ys ++ joined (map (filter (tie R z)) ls)) g
    ∙ ap (λ c. cond (is_eq c) (x ∷ filter (tie R z) rest) (filter (tie R z) rest) ++ joined (map (filter (tie R z)) ls)) (tied_back o z x e)
take_tie {X} {R} o z x e (xs ∷ ls) (suc i) rest l g up h =
    let none : filter (tie R z) xs ≡ [] = head_above o z x e xs up.0 (λ y ys f. h 0 y ys f (omega arith)) in
    ap₂ (λ a b. a ++ b) none (take_tie o z x e ls i rest (omega arith) g up.1 (λ j y ys f m. h (suc j) y ys f (omega arith)))
    ∙ ap (λ a. x ∷ (a ++ joined (map (filter (tie R z)) (set ls i rest)))) (sym none)

-- what doesn't tie leaves no mark
skip_tie : {X : Type 0} (p : X → Bool) (x : X) → p x ≡ false → (ls : List (List X)) (i : ℕ) (rest : List X) → get_or ls i [] ≡ x ∷ rest → map (filter p) ls ≡ map (filter p) (set ls i rest)
skip_tie p x e [] i rest g = refl
skip_tie p x e (xs ∷ ls) zero rest g = ap (λ ys. ys ∷ map (filter p) ls) (ap (filter p) g ∙ ap (λ b. cond b (x ∷ filter p rest) (filter p rest)) e)
skip_tie p x e (xs ∷ ls) (suc i) rest g = ap (λ ys. filter p xs ∷ ys) (skip_tie p x e ls i rest g)

nothing_left : {X : Type 0} (p : X → Bool) (ls : List (List X)) → AllEmpty ls → joined (map (filter p) ls) ≡ []
nothing_left p [] h = refl
nothing_left p (xs ∷ ls) h = ap₂ (λ a b. filter p a ++ b) h.0 (nothing_left p ls h.1)

merge_ties : {X : Type 0} {R : X → X → Ordering} → IsTotalOrder R → (z : X) (ls : List (List X)) (xs : List X) → AllByRecursion (IsArranged R) ls → Merges R ls xs → filter (tie R z) xs ≡ joined (map (filter (tie R z)) ls)
merge_ties {X} {R} o z ls [] up m = sym (nothing_left (tie R z) ls m)
merge_ties {X} {R} o z ls (x ∷ xs) up m = go (R x z) refl (merge_ties o z (set ls m.0 m.1) xs (all_tail (IsArranged R) (arranged_tails R) ls m.0 x m.1 m.3 up) m.5)
  where
    go : (c : Ordering) → R x z ≡ c → filter (tie R z) xs ≡ joined (map (filter (tie R z)) (set ls m.0 m.1)) → cond (is_eq c) (x ∷ filter (tie R z) xs) (filter (tie R z) xs) ≡ joined (map (filter (tie R z)) ls)
    go Less e k = k ∙ ap joined (sym (skip_tie (tie R z) x (ap is_eq e) ls m.0 m.1 m.3))
    go Equal e k = ap (λ ys. x ∷ ys) k ∙ sym (take_tie o z x (tied_back o x z e) ls m.0 m.1 m.2 m.3 up (λ j y ys f l. (m.4 j y ys f).1 l))
    go Greater e k = k ∙ ap joined (sym (skip_tie (tie R z) x (ap is_eq e) ls m.0 m.1 m.3))

-- A merge of lists in order is the arranged list of all of them, one after another.
pub merge_is : {X : Type 0} {R : X → X → Ordering} → IsTotalOrder R → (ls : List (List X)) (xs : List X) → AllByRecursion (IsArranged R) ls → Merges R ls xs → xs ≡ for_ranks R (λ same. same) (joined ls)
merge_is {X} {R} o ls xs up m = same_arranged o xs (for_ranks R (λ same. same) (joined ls)) (merge_arranged o ls xs up m) (ranks_arranged o (joined ls))
    (λ z. merge_ties o z ls xs up m ∙ sym (filter_joined (tie R z) ls) ∙ sym (ranks_ties o z (joined ls)))

pub merge_rows_is : (keys : List Key) (parts : List (List Row)) (rows : List Row) → AllByRecursion (IsArranged (row_cmp keys)) parts → Merges (row_cmp keys) parts rows → rows ≡ arranged keys (joined parts)
merge_rows_is keys parts rows up m = merge_is (row_total keys) parts rows up m ∙ sym (by_key_ranks keys (λ same. same) (joined parts))
