-- What holds of all items of a list, through map, flat_map, filter, append and choice.
use Rattle.std.proofs.Common.{Bool, List, ap, ap₂, arith, cond, drop, false, filter, flat_map, get_or, map, refl, suc, true, zero, ℕ, ◌≡◌, ◌∷◌, ◌++◌, ◌&&◌, []}
use Rattle.std.specs.List.{AllByRecursion}
use Rattle.std.specs.declared.cmp.Ordering.{Ordering}
use Rattle.std.specs.declared.cmp.Ordering.TheVariants.{Equal, Greater, Less}
use Rattle.op_base.specs.Lists.{firsts, joined, put_at, with_rank}

pub all_append : {X : Type 0} (P : X → Type 0) (xs ys : List X) → AllByRecursion P xs → AllByRecursion P ys → AllByRecursion P (xs ++ ys)
all_append P [] ys f g = g
all_append P (x ∷ xs) ys f g = (f.0, all_append P xs ys f.1 g)

pub all_map : {X : Type 0} (P Q : X → Type 0) → ((x : X) → P x → Q x) → (xs : List X) → AllByRecursion P xs → AllByRecursion Q xs
all_map P Q f [] h = tt
all_map P Q f (x ∷ xs) h = (f x h.0, all_map P Q f xs h.1)

pub all_filter : {X : Type 0} (P : X → Type 0) (p : X → Bool) → (xs : List X) → AllByRecursion P xs → AllByRecursion P (filter p xs)
all_filter P p [] h = tt
all_filter {X} P p (x ∷ xs) h = go (p x) (all_filter P p xs h.1)
  where
    go : (b : Bool) → AllByRecursion P (filter p xs) → AllByRecursion P (cond b (x ∷ filter p xs) (filter p xs))
    go true k = (h.0, k)
    go false k = k

pub all_each : {X Y : Type 0} (P : Y → Type 0) (g : X → Y) → ((x : X) → P (g x)) → (xs : List X) → AllByRecursion P (map g xs)
all_each P g h [] = tt
all_each P g h (x ∷ xs) = (h x, all_each P g h xs)

pub all_flat_each : {X Y : Type 0} (P : Y → Type 0) (g : X → List Y) → ((x : X) → AllByRecursion P (g x)) → (xs : List X) → AllByRecursion P (flat_map g xs)
all_flat_each P g h [] = tt
all_flat_each P g h (x ∷ xs) = all_append P (g x) (flat_map g xs) (h x) (all_flat_each P g h xs)

pub all_cond : {Y : Type 0} (P : Y → Type 0) (b : Bool) (xs ys : List Y) → AllByRecursion P xs → AllByRecursion P ys → AllByRecursion P (cond b xs ys)
all_cond P true xs ys h k = h
all_cond P false xs ys h k = k

pub all_dropped : {X : Type 0} (P : X → Type 0) (xs : List X) → AllByRecursion P xs → AllByRecursion P (drop 1 xs)
all_dropped P [] h = tt
all_dropped P (x ∷ xs) h = h.1

pub cond_nothing : {X : Type 0} (b : Bool) (xs ys : List X) → xs ≡ [] → ys ≡ [] → cond b xs ys ≡ []
cond_nothing true xs ys e f = e
cond_nothing false xs ys e f = f

pub split_left : {X : Type 0} (P : X → Type 0) (us ws : List X) → AllByRecursion P (us ++ ws) → AllByRecursion P us
split_left P [] ws k = tt
split_left P (u ∷ us) ws k = (k.0, split_left P us ws k.1)

pub split_right : {X : Type 0} (P : X → Type 0) (us ws : List X) → AllByRecursion P (us ++ ws) → AllByRecursion P ws
split_right P [] ws k = k
split_right P (u ∷ us) ws k = split_right P us ws k.1

-- rows of the partitions are rows of the whole
pub split_all : {X : Type 0} (P : X → Type 0) (parts : List (List X)) → AllByRecursion P (joined parts) → AllByRecursion (AllByRecursion P) parts
split_all P [] h = tt
split_all P (xs ∷ parts) h = (split_left P xs (joined parts) h, split_all P parts (split_right P xs (joined parts) h))

-- lookup: each row of a partition finds there what it finds in the whole
pub flat_agree_all : {X Y : Type 0} (f g : X → List Y) (xs : List X) → AllByRecursion (λ x. f x ≡ g x) xs → flat_map f xs ≡ flat_map g xs
flat_agree_all f g [] h = refl
flat_agree_all f g (x ∷ xs) h = ap₂ (λ a b. a ++ b) h.0 (flat_agree_all f g xs h.1)

all_rank : {X : Type 0} (P : X → Type 0) (R : X → X → Ordering) (x : X) (ys : List X) → P x → AllByRecursion P ys → AllByRecursion P (with_rank R x ys)
all_rank P R x [] h k = (h, tt)
all_rank {X} P R x (y ∷ ys) h k = go (R x y) (all_rank P R x ys h k.1)
  where
    go : (c : Ordering) → AllByRecursion P (with_rank R x ys) → AllByRecursion P (put_at c x y ys (with_rank R x ys))
    go Less r = (h, k)
    go Equal r = (h, k.1)
    go Greater r = (k.0, r)

pub all_firsts : {X : Type 0} (P : X → Type 0) (R : X → X → Ordering) (xs : List X) → AllByRecursion P xs → AllByRecursion P (firsts R xs)
all_firsts P R [] h = tt
all_firsts P R (x ∷ xs) h = all_rank P R x (firsts R xs) h.0 (all_firsts P R xs h.1)

pub all_at : {X : Type 0} (P : List X → Type 0) → P [] → (parts : List (List X)) (i : ℕ) → AllByRecursion P parts → P (get_or parts i [])
all_at P none [] i h = none
all_at P none (xs ∷ parts) zero h = h.0
all_at P none (xs ∷ parts) (suc i) h = all_at P none parts i h.1

pub both_true : (a b : Bool) → (a && b) ≡ true → (a ≡ true) × (b ≡ true)
both_true true b e = (refl, e)
both_true false b e = cc

pub and_split : {X : Type 0} (p q : X → Bool) (xs : List X) → filter q (filter p xs) ≡ filter (λ x. p x && q x) xs
and_split p q [] = refl
and_split p q (x ∷ xs) = grind (arith, and_split p q xs)

pub map_two : {A B C : Type 0} (f : A → B) (g : B → C) (xs : List A) → map g (map f xs) ≡ map (λ x. g (f x)) xs
map_two f g [] = refl
map_two f g (x ∷ xs) = ap (λ ys. g (f x) ∷ ys) (map_two f g xs)
