-- What a route by the item alone keeps, and how often items come through lanes.
use Rattle.std.proofs.Common.{Bool, List, ap, ap₂, arith, cond, false, filter, inl, inr, length, map, refl, subst, suc, sum_by, sym, true, zero, ℕ, ◌≡◌, ◌+◌, ◌<◌, ◌≤◌, ◌∷◌, ◌∙◌, ◌==◌, []}
use Rattle.std.proofs.lemmas.Bool.Decides.{nat_tests}
use Rattle.std.proofs.lemmas.List.Sums.{sum_by-append, sum_by-cons}
use Rattle.std.specs.List.{AllByRecursion}
use Rattle.std.specs.Ordering.{is_lt}
use Rattle.std.specs.declared.cmp.Ordering.{Ordering}
use Rattle.flow_graph.specs.Destinations.{SentFrom, lane, lanes_to}
use Rattle.flow_graph.specs.Parts.{PlacedFrom}
use Rattle.op_base.specs.Lists.{AllEmpty, Interleaves, IsArranged, OneHolds, joined}
use Rattle.flow_graph.proofs.PassingColumns.{below}
use Rattle.op_base.proofs.Bags.{sum_interleaved}
use Rattle.op_base.proofs.Filters.{map_filter_apart, map_filter_within}
use Rattle.op_base.proofs.Interleavings.{interleaves_all, interleaves_filter, interleaves_nothing, interleaves_one}

-- what each producer sends to one consumer, by a rule that sees the item alone
abbrev pub lanes_of : {X : Type 0} → (X → ℕ) → ℕ → List (List X) → List (List X)
lanes_of place j lists = map (filter (λ x. place x == j)) lists

-- consumer n + i has got an interleaving of what was sent to it
abbrev pub RoutedFrom : {X : Type 0} → (X → ℕ) → ℕ → List (List X) → List (List X) → Type 0
RoutedFrom place n lists [] = Unit {0}
RoutedFrom place n lists (xs ∷ got) = Interleaves (lanes_of place n lists) xs × RoutedFrom place (suc n) lists got

is_there : (a j n : ℕ) → a ≡ j → n ≡ j → (a == n) ≡ true
is_there a j n e f = grind (arith, nat_tests)

elsewhere : (a j n : ℕ) → a ≡ j → (n ≡ j → ⊥) → (a == n) ≡ false
elsewhere a j n e f = grind (arith, nat_tests)

-- a class of items that all go to j, at consumer n
here : {X : Type 0} (d : X → ℕ) (p : X → Bool) (j : ℕ) → ((x : X) → p x ≡ true → d x ≡ j) → (n : ℕ) (parts : List (List X)) (xs whole : List X) → n ≡ j → Interleaves (lanes_of d n parts) xs → OneHolds (map (filter p) parts) (filter p whole) → filter p xs ≡ filter p whole
here {X} d p j to n parts xs whole e i o =
    let same = map_filter_within (λ (x : X). d x == n) p (λ x t. is_there (d x) j n (to x t) e) parts in
    interleaves_one (map (filter p) (lanes_of d n parts)) (filter p xs) (filter p whole) (interleaves_filter p (lanes_of d n parts) xs i) (subst (λ ms. OneHolds ms (filter p whole)) (sym same) o)

there : {X : Type 0} (d : X → ℕ) (p : X → Bool) (j : ℕ) → ((x : X) → p x ≡ true → d x ≡ j) → (n : ℕ) (parts : List (List X)) (xs : List X) → (n ≡ j → ⊥) → Interleaves (lanes_of d n parts) xs → filter p xs ≡ []
there {X} d p j to n parts xs e i =
    interleaves_nothing (map (filter p) (lanes_of d n parts)) (filter p xs) (map_filter_apart (λ (x : X). d x == n) p (λ x t. elsewhere (d x) j n (to x t) e) parts) (interleaves_filter p (lanes_of d n parts) xs i)

routed_none : {X : Type 0} (d : X → ℕ) (p : X → Bool) (j : ℕ) → ((x : X) → p x ≡ true → d x ≡ j) → (n : ℕ) (parts got : List (List X)) → j < n → RoutedFrom d n parts got → AllEmpty (map (filter p) got)
routed_none d p j to n parts [] l r = tt
routed_none d p j to n parts (xs ∷ got) l r = (there d p j to n parts xs (λ e. omega arith) r.0, routed_none d p j to (suc n) parts got (omega arith) r.1)

pub routed_one : {X : Type 0} (d : X → ℕ) (p : X → Bool) (j : ℕ) → ((x : X) → p x ≡ true → d x ≡ j) → (n : ℕ) (parts got : List (List X)) (whole : List X) → OneHolds (map (filter p) parts) (filter p whole) → RoutedFrom d n parts got → n ≤ j → j < n + length got → OneHolds (map (filter p) got) (filter p whole)
routed_one d p j to n parts [] whole o r l m = absurd (omega arith)
routed_one d p j to n parts (xs ∷ got) whole o r l m = go (λ k. routed_one d p j to (suc n) parts got whole o r.1 k (omega arith)) (n == j) refl
  where
    go : (suc n ≤ j → OneHolds (map (filter p) got) (filter p whole)) → (b : Bool) → (n == j) ≡ b → OneHolds (map (filter p) (xs ∷ got)) (filter p whole)
    go rest true e = inl (here d p j to n parts xs whole (grind (arith, nat_tests)) r.0 o, routed_none d p j to (suc n) parts got (grind (arith, nat_tests)) r.1)
    go rest false e = inr (there d p j to n parts xs (λ f. grind (arith, nat_tests)) r.0, rest (grind (arith, nat_tests)))

passed : {X : Type 0} (d : X → ℕ) (n : ℕ) (xs : List X) → AllByRecursion (λ x. d x ≡ n) (filter (λ x. d x == n) xs)
passed d n [] = tt
passed {X} d n (x ∷ xs) = go (passed d n xs) (d x == n) refl
  where
    go : AllByRecursion (λ (x : X). d x ≡ n) (filter (λ (x : X). d x == n) xs) → (b : Bool) → (d x == n) ≡ b → AllByRecursion (λ (x : X). d x ≡ n) (cond b (x ∷ filter (λ (x : X). d x == n) xs) (filter (λ (x : X). d x == n) xs))
    go ih true e = (grind (arith, nat_tests), ih)
    go ih false e = ih

all_passed : {X : Type 0} (d : X → ℕ) (n : ℕ) (parts : List (List X)) → AllByRecursion (AllByRecursion (λ x. d x ≡ n)) (lanes_of d n parts)
all_passed d n [] = tt
all_passed d n (xs ∷ parts) = (passed d n xs, all_passed d n parts)

pub routed_placed : {X : Type 0} (d : X → ℕ) (n : ℕ) (parts got : List (List X)) → RoutedFrom d n parts got → PlacedFrom d n got
routed_placed d n parts [] r = tt
routed_placed {X} d n parts (xs ∷ got) r = (interleaves_all (λ (x : X). d x ≡ n) (lanes_of d n parts) xs (all_passed d n parts) r.0, routed_placed d (suc n) parts got r.1)

-- where each item's way doesn't look at its place in the list, a lane is a filter
lane_filter : {X : Type 0} (d : X → ℕ) (j t : ℕ) (xs : List X) → lane (λ n. d) j t xs ≡ filter (λ x. d x == j) xs
lane_filter d j t [] = refl
lane_filter {X} d j t (x ∷ xs) = ap (λ ys. cond (d x == j) (x ∷ ys) ys) (lane_filter d j (suc t) xs)

lanes_filter : {X : Type 0} (d : X → ℕ) (j p : ℕ) (ls : List (List X)) → lanes_to (λ q t. d) j p ls ≡ lanes_of d j ls
lanes_filter d j p [] = refl
lanes_filter d j p (xs ∷ ls) = ap₂ (λ a b. a ∷ b) (lane_filter d j 0 xs) (lanes_filter d j (suc p) ls)

pub sent_routed : {X : Type 0} (d : X → ℕ) (n : ℕ) (ls got : List (List X)) → SentFrom (λ p t. d) n ls got → RoutedFrom d n ls got
sent_routed d n ls [] h = tt
sent_routed d n ls (xs ∷ got) h = (subst (λ ms. Interleaves ms xs) (lanes_filter d n 0 ls) h.0, sent_routed d (suc n) ls got h.1)

all_lane : {X : Type 0} (P : X → Type 0) (goes : ℕ → X → ℕ) (j t : ℕ) (xs : List X) → AllByRecursion P xs → AllByRecursion P (lane goes j t xs)
all_lane P goes j t [] h = tt
all_lane {X} P goes j t (x ∷ xs) h = go (goes t x == j) (all_lane P goes j (suc t) xs h.1)
  where
    go : (b : Bool) → AllByRecursion P (lane goes j (suc t) xs) → AllByRecursion P (cond b (x ∷ lane goes j (suc t) xs) (lane goes j (suc t) xs))
    go true k = (h.0, k)
    go false k = k

arranged_lane : {X : Type 0} (R : X → X → Ordering) (goes : ℕ → X → ℕ) (j t : ℕ) (xs : List X) → IsArranged R xs → IsArranged R (lane goes j t xs)
arranged_lane R goes j t [] h = tt
arranged_lane {X} R goes j t (x ∷ xs) h = go (goes t x == j) (arranged_lane R goes j (suc t) xs h.1)
  where
    go : (b : Bool) → IsArranged R (lane goes j (suc t) xs) → IsArranged R (cond b (x ∷ lane goes j (suc t) xs) (lane goes j (suc t) xs))
    go true k = (all_lane (λ (y : X). is_lt (R y x) ≡ false) goes j (suc t) xs h.0, k)
    go false k = k

-- from one producer the order stays
pub from_one : {X : Type 0} (R : X → X → Ordering) (goes : ℕ → ℕ → X → ℕ) (n : ℕ) (xs : List X) (got : List (List X)) → IsArranged R xs → SentFrom goes n (xs ∷ []) got → AllByRecursion (IsArranged R) got
from_one R goes n xs [] h s = tt
from_one R goes n xs (ys ∷ got) h s =
    (subst (IsArranged R) (sym (interleaves_one (lane (goes 0) n 0 xs ∷ []) ys (lane (goes 0) n 0 xs) s.0 (inl (refl, tt)))) (arranged_lane R (goes 0) n 0 xs h), from_one R goes (suc n) xs got h s.1)

-- k terms, from n on
total : ℕ → ℕ → (ℕ → ℕ) → ℕ
total n zero G = 0
total n (suc k) G = G n + total (suc n) k G

total_zero : (n k : ℕ) → total n k (λ j. 0) ≡ 0
unfolding total
total_zero n zero = refl
total_zero n (suc k) = omega (arith, total_zero (suc n) k)

total_add : (n k : ℕ) (G H J : ℕ → ℕ) → ((j : ℕ) → J j ≡ G j + H j) → total n k J ≡ total n k G + total n k H
unfolding total
total_add n zero G H J e = refl
total_add n (suc k) G H J e = omega (arith, e n, total_add (suc n) k G H J e)

total_past : (n k d v : ℕ) → d < n → total n k (λ j. cond (d == j) v 0) ≡ 0
unfolding total
total_past n zero d v l = refl
total_past n (suc k) d v l = grind (arith, nat_tests, total_past (suc n) k d v (omega arith))

total_one : (n k d v : ℕ) → n ≤ d → d < n + k → total n k (λ j. cond (d == j) v 0) ≡ v
unfolding total
total_one n zero d v l m = absurd (omega arith)
total_one n (suc k) d v l m = go (d == n) refl (λ h. total_one (suc n) k d v h (omega arith))
  where
    go : (b : Bool) → (d == n) ≡ b → (suc n ≤ d → total (suc n) k (λ j. cond (d == j) v 0) ≡ v) → cond (d == n) v 0 + total (suc n) k (λ j. cond (d == j) v 0) ≡ v
    go true e h = grind (arith, nat_tests, total_past (suc n) k d v (grind (arith, nat_tests)))
    go false e h = grind (arith, nat_tests, h (grind (arith, nat_tests)))

lane-cons : {X : Type 0} (f : X → ℕ) (goes : ℕ → X → ℕ) (j t : ℕ) (x : X) (xs : List X) → sum_by f (lane goes j t (x ∷ xs)) ≡ cond (goes t x == j) (f x) 0 + sum_by f (lane goes j (suc t) xs)
lane-cons f goes j t x xs = go (goes t x == j)
  where
    go : (b : Bool) → sum_by f (cond b (x ∷ lane goes j (suc t) xs) (lane goes j (suc t) xs)) ≡ cond b (f x) 0 + sum_by f (lane goes j (suc t) xs)
    go true = sum_by-cons f x (lane goes j (suc t) xs)
    go false = omega arith

-- each item of a producer goes into one lane
lanes_sum : {X : Type 0} (f : X → ℕ) (goes : ℕ → X → ℕ) (k : ℕ) → ((t : ℕ) (x : X) → goes t x < k) → (t : ℕ) (xs : List X) → total 0 k (λ j. sum_by f (lane goes j t xs)) ≡ sum_by f xs
lanes_sum f goes k below t [] = total_zero 0 k
lanes_sum f goes k below t (x ∷ xs) =
    total_add 0 k (λ j. cond (goes t x == j) (f x) 0) (λ j. sum_by f (lane goes j (suc t) xs)) (λ j. sum_by f (lane goes j t (x ∷ xs))) (λ j. lane-cons f goes j t x xs)
    ∙ ap₂ (λ a b. a + b) (total_one 0 k (goes t x) (f x) (omega arith) (let b = below t x in omega arith)) (lanes_sum f goes k below (suc t) xs)
    ∙ sym (sum_by-cons f x xs)

all_lanes_sum : {X : Type 0} (f : X → ℕ) (goes : ℕ → ℕ → X → ℕ) (k : ℕ) → ((p t : ℕ) (x : X) → goes p t x < k) → (p : ℕ) (ls : List (List X)) → total 0 k (λ j. sum_by f (joined (lanes_to goes j p ls))) ≡ sum_by f (joined ls)
all_lanes_sum f goes k below p [] = total_zero 0 k
all_lanes_sum f goes k below p (xs ∷ ls) =
    total_add 0 k (λ j. sum_by f (lane (goes p) j 0 xs)) (λ j. sum_by f (joined (lanes_to goes j (suc p) ls))) (λ j. sum_by f (joined (lanes_to goes j p (xs ∷ ls)))) (λ j. sum_by-append f (lane (goes p) j 0 xs) (joined (lanes_to goes j (suc p) ls)))
    ∙ ap₂ (λ a b. a + b) (lanes_sum f (goes p) k (below p) 0 xs) (all_lanes_sum f goes k below (suc p) ls)
    ∙ sym (sum_by-append f xs (joined ls))

sent_sum : {X : Type 0} (f : X → ℕ) (goes : ℕ → ℕ → X → ℕ) (n : ℕ) (ls got : List (List X)) → SentFrom goes n ls got → sum_by f (joined got) ≡ total n (length got) (λ j. sum_by f (joined (lanes_to goes j 0 ls)))
unfolding total
sent_sum f goes n ls [] h = refl
sent_sum f goes n ls (xs ∷ got) h = sum_by-append f xs (joined got) ∙ ap₂ (λ a b. a + b) (sym (sum_interleaved f (lanes_to goes n 0 ls) xs h.0)) (sent_sum f goes (suc n) ls got h.1)

pub sent_counts : {X : Type 0} (f : X → ℕ) (goes : ℕ → ℕ → X → ℕ) (ls got : List (List X)) → SentFrom goes 0 ls got → ((p t : ℕ) (x : X) → goes p t x < length got) → sum_by f (joined got) ≡ sum_by f (joined ls)
sent_counts f goes ls got h below = sent_sum f goes 0 ls got h ∙ all_lanes_sum f goes (length got) below 0 ls
