-- Where the inputs of an operator lie by the values of its keys, each value's rows meet in one partition.
use Rattle.std.proofs.Common.{Bool, IsPermutation, List, None, Option, Some, ap, ap₂, arith, cond, count_by, false, filter, get_or, inl, inr, length, map, refl, subst, suc, sym, true, zero, ℕ, ◌≡◌, ◌≢◌, ◌+◌, ◌<◌, ◌≤◌, ◌∷◌, ◌∙◌, ◌==◌, ◌&&◌, []}
use Rattle.std.proofs.lemmas.Bool.Decides.{nat_tests}
use Rattle.std.proofs.lemmas.List.Sums.{length-filter}
use Rattle.std.specs.List.{AllByRecursion, range_with_len}
use Rattle.ds_schema.specs.Rows.{cols, has, row_cmp, sub, val, vals_cmp, ways}
use Rattle.ds_schema.specs.declared.key.Key.{Key}
use Rattle.ds_value.specs.declared.value.Value.{Value}
use Rattle.flow_graph.specs.Parts.{Agree, Bag, PlacedFrom}
use Rattle.flow_graph.specs.Runs.{slice}
use Rattle.flow_graph.specs.States.{AllHold, AgreeIf, Common, Holds, LiesAt}
use Rattle.ds_place.specs.declared.place.Place.TheVariants.{Hash, Modulus}
use Rattle.flow_graph.specs.declared.state.Spot.{Spot}
use Rattle.flow_graph.specs.declared.state.State.{State}
use Rattle.flow_derive.specs.Derive.{agrees_in, all_agree_in, all_at_place, carried, carried_place, common_place, first_keys, hashed_if, key_places, keyed_state, modulus_if, placed_in, same_place, with_column}
use Rattle.op_base.specs.Columns.{Pairs, Row, column_in, is_in, lies, pairs_of}
use Rattle.op_base.specs.Keyed.{for_values, in_order, keys_in, same_vals, subs}
use Rattle.op_base.specs.Lists.{AllEmpty, IsArranged, OneHolds, joined}
use Rattle.op_base.specs.Meanings.{columns_of}
use Rattle.flow_graph.proofs.Holders.{at_one, one_at}
use Rattle.flow_graph.proofs.PartLaws.{agree_bag, agree_finer}
use Rattle.flow_graph.proofs.PassingColumns.{below}
use Rattle.flow_graph.proofs.StateLaws.{holds_plain, plain_holds}
use Rattle.flow_rules.proofs.NeedTypes.{KeyedNeeds, NotEntire, OtherNeeds, key_place}
use Rattle.flow_rules.proofs.Passing.{IsKnown, lies_by_key, num, num_below, part_at, part_none, placed_by_key, placed_range}
use Rattle.op_base.proofs.All.{all_append, all_map, both_true, map_two}
use Rattle.op_base.proofs.Bags.{count-permutation, filter_joined, joined_one, permutation-from_counts}
use Rattle.op_base.proofs.ColumnLaws.{lies_true}
use Rattle.op_base.proofs.Filters.{filter_within}
use Rattle.op_base.proofs.KeyValues.{Keyed, flat_values, order_all, same_vals_itself, sub_for_values, subs_keyed, values_arranged}
use Rattle.op_base.proofs.Orders.{has_val}
use Rattle.op_base.proofs.RowLists.{filter_permuted, same_exact, same_itself, same_row}
use Rattle.flow_graph.specs.declared.state.Spot.TheVariants as spot

-- a range of partitions of which one has something
pub one_in_range : {X : Type 0} (f : ℕ → List X) (whole : List X) (n k j : ℕ) → n ≤ j → j < n + k → f j ≡ whole → ((p : ℕ) → (p ≡ j → ⊥) → p < n + k → f p ≡ []) → OneHolds (map f (range_with_len n k)) whole
one_in_range f whole n zero j l m e h = absurd (omega arith)
one_in_range {X} f whole n (suc k) j l m e h = go (n == j) refl (λ a. one_in_range f whole (n + 1) k j a (omega arith) e (λ p d b. h p d (omega arith)))
  where
    empties : (a b : ℕ) → j < a → a + b ≤ n + suc k → AllEmpty (map f (range_with_len a b))
    empties a zero s t = tt
    empties a (suc b) s t = (h a (λ d. omega arith) (omega arith), empties (a + 1) b (omega arith) (omega arith))

    go : (b : Bool) → (n == j) ≡ b → (n + 1 ≤ j → OneHolds (map f (range_with_len (n + 1) k)) whole) → OneHolds (f n ∷ map f (range_with_len (n + 1) k)) whole
    go true s next = let same : n ≡ j = grind (arith, nat_tests) in inl (ap f same ∙ e, empties (n + 1) k (omega arith) (omega arith))
    go false s next = inr (h n (λ d. grind (arith, nat_tests)) (omega arith), next (grind (arith, nat_tests)))

pub joined_in_range : {X : Type 0} (f : ℕ → List X) (n k j : ℕ) → n ≤ j → j < n + k → ((p : ℕ) → (p ≡ j → ⊥) → p < n + k → f p ≡ []) → joined (map f (range_with_len n k)) ≡ f j
joined_in_range f n k j l m h = joined_one (map f (range_with_len n k)) (f j) (one_in_range f (f j) n k j l m refl h)

-- Of each value the rows of all inputs are, as `rel` says, in one partition, and in no other.
abbrev pub Meets : (List (List Row) → List (List Row) → Type 0) → List (List ℕ) → ℕ → List (List (List Row)) → List (List Row) → Type 0
Meets rel columns degree inputs wholes = (v : List Value) → (j : ℕ) × (j < degree) × rel (subs columns v (slice j inputs)) (subs columns v wholes) × ((p : ℕ) → (p ≡ j → ⊥) → p < degree → AllEmpty (subs columns v (slice p inputs)))

-- What is given on the partitions, for rules that give the same for what `rel` relates.
pub meets_agree : {Y : Type 0} (rel : List (List Row) → List (List Row) → Type 0) (columns : List (List ℕ)) (f : List (List Row) → List Y) (test : List Value → Y → Bool) (rule : List Value → List (List Row) → List Y) →
    ((v : List Value) (inputs : List (List Row)) → filter (test v) (f inputs) ≡ rule v (subs columns v inputs)) →
    ((v : List Value) (inputs : List (List Row)) → AllEmpty inputs → rule v inputs ≡ []) →
    ((v : List Value) (xs ys : List (List Row)) → rel xs ys → rule v xs ≡ rule v ys) →
    (degree : ℕ) (inputs : List (List (List Row))) (wholes : List (List Row)) → Meets rel columns degree inputs wholes →
    (v : List Value) → OneHolds (map (filter (test v)) (map (λ p. f (slice p inputs)) (range_with_len 0 degree))) (filter (test v) (f wholes))
meets_agree {Y} rel columns f test rule at none alike degree inputs wholes m v =
    let w = m v in
    subst (λ ls. OneHolds ls (filter (test v) (f wholes))) (sym (map_two (λ p. f (slice p inputs)) (filter (test v)) (range_with_len 0 degree)))
    (one_in_range (λ p. filter (test v) (f (slice p inputs))) (filter (test v) (f wholes)) 0 degree (w.0) (omega arith) (let l = w.1 in omega arith)
    (at v (slice (w.0) inputs) ∙ alike v (subs columns v (slice (w.0) inputs)) (subs columns v wholes) w.2 ∙ sym (at v wholes))
    (λ p d l. at v (slice p inputs) ∙ none v (subs columns v (slice p inputs)) (w.3 p d (omega arith))))

-- What is given as a bag, for rules that give permuted lists for what `rel` relates.
pub meets_bag : {Y : Type 0} (E : Y → Y → Bool) → ((x y : Y) → E x y ≡ true → x ≡ y) → ((x : Y) → E x x ≡ true) →
    (rel : List (List Row) → List (List Row) → Type 0) (columns : List (List ℕ)) (f : List (List Row) → List Y) (named : Y → List Value) (rule : List Value → List (List Row) → List Y) →
    ((v : List Value) (inputs : List (List Row)) → filter (λ y. same_vals v (named y)) (f inputs) ≡ rule v (subs columns v inputs)) →
    ((v : List Value) (inputs : List (List Row)) → AllEmpty inputs → rule v inputs ≡ []) →
    ((v : List Value) (xs ys : List (List Row)) → rel xs ys → IsPermutation (rule v xs) (rule v ys)) →
    (degree : ℕ) (inputs : List (List (List Row))) (wholes : List (List Row)) → Meets rel columns degree inputs wholes →
    IsPermutation (joined (map (λ p. f (slice p inputs)) (range_with_len 0 degree))) (f wholes)
meets_bag {Y} E exact itself rel columns f named rule at none alike degree inputs wholes m =
    permutation-from_counts E exact itself (joined (map (λ p. f (slice p inputs)) (range_with_len 0 degree))) (f wholes) counts
  where
    within : (z : Y) (xs : List (List Row)) → filter (E z) (f xs) ≡ filter (E z) (rule (named z) (subs columns (named z) xs))
    within z xs =
        sym (filter_within (λ y. same_vals (named z) (named y)) (E z) (λ y t. ap (λ u. same_vals (named z) (named u)) (sym (exact z y t)) ∙ same_vals_itself (named z)) (f xs))
        ∙ ap (filter (E z)) (at (named z) xs)

    counts : (z : Y) → count_by (E z) (joined (map (λ p. f (slice p inputs)) (range_with_len 0 degree))) ≡ count_by (E z) (f wholes)
    counts z =
        let w = m (named z) in
        let g : ℕ → List Y = λ p. filter (E z) (f (slice p inputs)) in
        let alone : joined (map g (range_with_len 0 degree)) ≡ g (w.0) = joined_in_range g 0 degree (w.0) (omega arith) (let l = w.1 in omega arith)
        (λ p d l. within z (slice p inputs) ∙ ap (filter (E z)) (none (named z) (subs columns (named z) (slice p inputs)) (w.3 p d (omega arith)))) in
        sym (length-filter (E z) (joined (map (λ p. f (slice p inputs)) (range_with_len 0 degree))))
        ∙ ap length (filter_joined (E z) (map (λ p. f (slice p inputs)) (range_with_len 0 degree)) ∙ ap joined (map_two (λ p. f (slice p inputs)) (filter (E z)) (range_with_len 0 degree)) ∙ alone ∙ within z (slice (w.0) inputs))
        ∙ length-filter (E z) (rule (named z) (subs columns (named z) (slice (w.0) inputs)))
        ∙ count-permutation (E z) (rule (named z) (subs columns (named z) (slice (w.0) inputs))) (rule (named z) (subs columns (named z) wholes)) (alike (named z) (subs columns (named z) (slice (w.0) inputs)) (subs columns (named z) wholes) w.2)
        ∙ sym (length-filter (E z) (rule (named z) (subs columns (named z) wholes)))
        ∙ ap length (sym (within z wholes))
        ∙ length-filter (E z) (f wholes)

pub agree_in : (K : List ℕ) (agree : Option (List ℕ)) (parts : List (List Row)) (whole : List Row) → agrees_in K agree ≡ true → AgreeIf agree parts whole → Agree K parts whole
agree_in K None parts whole e a = cc
agree_in K (Some G) parts whole e a = agree_finer G K parts whole (lies_true G K e) a

-- Each input lies by the values of its keys, and R says how it stands to its whole.
abbrev pub Ready : (List ℕ → List (List Row) → List Row → Type 0) → (List Value → ℕ) → ℕ → List (List ℕ) → List (List (List Row)) → List (List Row) → Type 0
Ready R d degree [] [] [] = Unit {0}
Ready R d degree (K ∷ columns) (parts ∷ inputs) (whole ∷ wholes) = (length parts ≡ degree) × PlacedFrom (λ r. d (val K r)) 0 parts × R K parts whole × Ready R d degree columns inputs wholes
Ready R d degree columns inputs wholes = ⊥

abbrev pub IsBag : List ℕ → List (List Row) → List Row → Type 0
IsBag K parts whole = Bag parts whole

pub ready_bag : (d : List Value → ℕ) (degree : ℕ) (columns : List (List ℕ)) (inputs : List (List (List Row))) (wholes : List (List Row)) → Ready Agree d degree columns inputs wholes → Ready IsBag d degree columns inputs wholes
ready_bag d degree [] [] [] h = tt
ready_bag d degree (K ∷ columns) (parts ∷ inputs) (whole ∷ wholes) h = (h.0, h.1, agree_bag K parts whole h.2, ready_bag d degree columns inputs wholes h.3)
ready_bag d degree columns inputs wholes h = absurd h

ready_same : (d : List Value → ℕ) (degree : ℕ) (columns : List (List ℕ)) (inputs : List (List (List Row))) (wholes : List (List Row)) → Ready Agree d degree columns inputs wholes → (v : List Value) → d v < degree → subs columns v (slice (d v) inputs) ≡ subs columns v wholes
ready_same d degree [] [] [] h v l = refl
ready_same d degree (K ∷ columns) (parts ∷ inputs) (whole ∷ wholes) h v l =
    ap₂ (λ a b. a ∷ b)
    (let e = h.0 in one_at (λ r. d (val K r)) (has K v) (d v) (λ r t. ap d (has_val K v r t)) 0 (d v) parts whole (omega arith) (omega arith) h.1 (h.2 v))
    (ready_same d degree columns inputs wholes h.3 v l)
ready_same d degree columns inputs wholes h v l = absurd h

pub ready_none : (R : List ℕ → List (List Row) → List Row → Type 0) (d : List Value → ℕ) (degree : ℕ) (columns : List (List ℕ)) (inputs : List (List (List Row))) (wholes : List (List Row)) → Ready R d degree columns inputs wholes → (v : List Value) (p : ℕ) → (p ≡ d v → ⊥) → AllEmpty (subs columns v (slice p inputs))
ready_none R d degree [] [] [] h v p n = tt
ready_none R d degree (K ∷ columns) (parts ∷ inputs) (whole ∷ wholes) h v p n =
    (part_none (λ r. d (val K r)) (has K v) (d v) (λ r t. ap d (has_val K v r t)) p parts n h.1, ready_none R d degree columns inputs wholes h.3 v p n)
ready_none R d degree columns inputs wholes h v p n = absurd h

pub ready_meets : (d : List Value → ℕ) (degree : ℕ) (columns : List (List ℕ)) (inputs : List (List (List Row))) (wholes : List (List Row)) → ((v : List Value) → d v < degree) → Ready Agree d degree columns inputs wholes → Meets (λ xs ys. xs ≡ ys) columns degree inputs wholes
ready_meets d degree columns inputs wholes below h v = (d v, below v, ready_same d degree columns inputs wholes h v (below v), λ p n l. ready_none Agree d degree columns inputs wholes h v p n)

abbrev pub Permuted : List (List Row) → List (List Row) → Type 0
Permuted [] [] = Unit {0}
Permuted (xs ∷ lists) (ys ∷ others) = IsPermutation xs ys × Permuted lists others
Permuted lists others = ⊥

ready_permuted : (d : List Value → ℕ) (degree : ℕ) (columns : List (List ℕ)) (inputs : List (List (List Row))) (wholes : List (List Row)) → Ready IsBag d degree columns inputs wholes → (v : List Value) → d v < degree → Permuted (subs columns v (slice (d v) inputs)) (subs columns v wholes)
ready_permuted d degree [] [] [] h v l = tt
ready_permuted d degree (K ∷ columns) (parts ∷ inputs) (whole ∷ wholes) h v l =
    let e = h.0 in
    let here : sub K v (joined parts) ≡ sub K v (get_or parts (d v) []) = filter_joined (has K v) parts ∙ at_one (λ r. d (val K r)) (has K v) (d v) (λ r t. ap d (has_val K v r t)) 0 (d v) parts (omega arith) (omega arith) h.1 in
    (subst (λ xs. IsPermutation xs (sub K v whole)) here (filter_permuted (has K v) (joined parts) whole h.2), ready_permuted d degree columns inputs wholes h.3 v l)
ready_permuted d degree columns inputs wholes h v l = absurd h

pub ready_meets_bag : (d : List Value → ℕ) (degree : ℕ) (columns : List (List ℕ)) (inputs : List (List (List Row))) (wholes : List (List Row)) → ((v : List Value) → d v < degree) → Ready IsBag d degree columns inputs wholes → Meets Permuted columns degree inputs wholes
ready_meets_bag d degree columns inputs wholes below h v = (d v, below v, ready_permuted d degree columns inputs wholes h v (below v), λ p n l. ready_none IsBag d degree columns inputs wholes h v p n)

-- the values on a partition lie there
pub keys_ready : (R : List ℕ → List (List Row) → List Row → Type 0) (d : List Value → ℕ) (degree : ℕ) (columns : List (List ℕ)) (inputs : List (List (List Row))) (wholes : List (List Row)) → Ready R d degree columns inputs wholes → (p : ℕ) → AllByRecursion (λ v. d v ≡ p) (keys_in columns (slice p inputs))
keys_ready R d degree [] [] [] h p = tt
keys_ready R d degree (K ∷ columns) (parts ∷ inputs) (whole ∷ wholes) h p =
    all_append (λ v. d v ≡ p) (map (val K) (get_or parts p [])) (keys_in columns (slice p inputs)) (go (get_or parts p []) (part_at (λ r. d (val K r)) 0 p parts h.1)) (keys_ready R d degree columns inputs wholes h.3 p)
  where
    go : (rows : List Row) → AllByRecursion (λ r. d (val K r) ≡ 0 + p) rows → AllByRecursion (λ v. d v ≡ p) (map (val K) rows)
    go [] k = tt
    go (r ∷ rows) k = (k.0 ∙ omega arith, go rows k.1)
keys_ready R d degree columns inputs wholes h p = absurd h

pub each_range : {X : Type 0} (P : X → Type 0) (f : ℕ → X) → ((p : ℕ) → P (f p)) → (n k : ℕ) → AllByRecursion P (map f (range_with_len n k))
each_range P f h n zero = tt
each_range P f h n (suc k) = (h n, each_range P f h (n + 1) k)

pub length-range : {X : Type 0} (f : ℕ → X) (n k : ℕ) → length (map f (range_with_len n k)) ≡ k
length-range f n zero = refl
length-range f n (suc k) = ap suc (length-range f (n + 1) k)

-- What a rule gives for the values of keys, with the values as the keys H of its rows.
pub record KeyRule (columns : List (List ℕ)) (H : List ℕ) (rule : List Value → List (List Row) → List Row) : Type 0 where
  pub says : (v : List Value) (inputs : List (List Row)) → Keyed columns v inputs → AllByRecursion (λ y. val H y ≡ v) (rule v inputs)
  pub none : (v : List Value) (inputs : List (List Row)) → AllEmpty inputs → rule v inputs ≡ []

pub keyed_agree : (hashes : Bool) (ds : List Bool) (columns : List (List ℕ)) (H : List ℕ) (rule : List Value → List (List Row) → List Row) → KeyRule columns H rule →
    (rel : List (List Row) → List (List Row) → Type 0) → ((v : List Value) (xs ys : List (List Row)) → rel xs ys → rule v xs ≡ rule v ys) →
    (degree : ℕ) (inputs : List (List (List Row))) (wholes : List (List Row)) → Meets rel columns degree inputs wholes →
    Agree H (map (λ p. for_values hashes ds columns rule (slice p inputs)) (range_with_len 0 degree)) (for_values hashes ds columns rule wholes)
keyed_agree hashes ds columns H rule k rel alike degree inputs wholes m v =
    meets_agree rel columns (for_values hashes ds columns rule) (has H) rule (λ u xs. sub_for_values hashes ds columns rule (val H) k.says k.none u xs) k.none alike degree inputs wholes m v

pub keyed_bag : (hashes : Bool) (ds : List Bool) (columns : List (List ℕ)) (H : List ℕ) (rule : List Value → List (List Row) → List Row) → KeyRule columns H rule →
    (rel : List (List Row) → List (List Row) → Type 0) → ((v : List Value) (xs ys : List (List Row)) → rel xs ys → IsPermutation (rule v xs) (rule v ys)) →
    (degree : ℕ) (inputs : List (List (List Row))) (wholes : List (List Row)) → Meets rel columns degree inputs wholes →
    Bag (map (λ p. for_values hashes ds columns rule (slice p inputs)) (range_with_len 0 degree)) (for_values hashes ds columns rule wholes)
keyed_bag hashes ds columns H rule k rel alike degree inputs wholes m =
    meets_bag same_row same_exact same_itself rel columns (for_values hashes ds columns rule) (val H) rule (λ u xs. sub_for_values hashes ds columns rule (val H) k.says k.none u xs) k.none alike degree inputs wholes m

pub keyed_placed : (R : List ℕ → List (List Row) → List Row → Type 0) (hashes : Bool) (ds : List Bool) (columns : List (List ℕ)) (H : List ℕ) (rule : List Value → List (List Row) → List Row) → KeyRule columns H rule →
    (d : List Value → ℕ) (degree : ℕ) (inputs : List (List (List Row))) (wholes : List (List Row)) → Ready R d degree columns inputs wholes →
    PlacedFrom (λ y. d (val H y)) 0 (map (λ p. for_values hashes ds columns rule (slice p inputs)) (range_with_len 0 degree))
keyed_placed R hashes ds columns H rule k d degree inputs wholes h =
    placed_range (λ y. d (val H y)) (λ p. for_values hashes ds columns rule (slice p inputs))
    (λ p. flat_values (λ v. d v ≡ p) (λ y. d (val H y) ≡ p) (λ v. rule v (subs columns v (slice p inputs)))
    (λ v e. all_map (λ y. val H y ≡ v) (λ y. d (val H y) ≡ p) (λ y f. ap d f ∙ e) (rule v (subs columns v (slice p inputs))) (k.says v (subs columns v (slice p inputs)) (subs_keyed columns v (slice p inputs))))
    (in_order hashes ds (keys_in columns (slice p inputs))) (order_all (λ v. d v ≡ p) hashes ds (keys_in columns (slice p inputs)) (keys_ready R d degree columns inputs wholes h p)))
    0 degree

pub keyed_sorted : (ds : List Bool) (columns : List (List ℕ)) (H : List Key) (rule : List Value → List (List Row) → List Row) → ways H ≡ ds → KeyRule columns (cols H) rule → (inputs : List (List Row)) → IsArranged (row_cmp H) (for_values false ds columns rule inputs)
keyed_sorted ds columns H rule w k inputs =
    subst (λ e. IsArranged (λ x y. vals_cmp e (val (cols H) x) (val (cols H) y)) (for_values false ds columns rule inputs)) (sym w) (values_arranged ds columns rule (val (cols H)) k.says inputs)

-- the places that an operator by keys allows
number_of : (keys : List Key) (n c : ℕ) → is_in c (cols keys) ≡ true → (k : ℕ) × (column_in (pairs_of (cols keys) (cols (first_keys n keys))) c ≡ Some k)
number_of [] n c e = cc
number_of (x ∷ keys) n c e = go (number_of keys (suc n) c) (c == x.col) refl (x.col == c) refl e
  where
    rest : Option ℕ
    rest = column_in (pairs_of (cols keys) (cols (first_keys (suc n) keys))) c

    go : (is_in c (cols keys) ≡ true → (k : ℕ) × (rest ≡ Some k)) → (a : Bool) → (c == x.col) ≡ a → (b : Bool) → (x.col == c) ≡ b → cond a true (is_in c (cols keys)) ≡ true → (k : ℕ) × (cond b (Some n) rest ≡ Some k)
    go rec a f true g h = (n, refl)
    go rec true f false g h = absurd (grind (arith, nat_tests))
    go rec false f false g h = rec h

numbers_of : (keys : List Key) (C : List ℕ) → lies C (cols keys) ≡ true → (P : List ℕ) × (carried (pairs_of (cols keys) (cols (first_keys 0 keys))) C ≡ Some P)
numbers_of keys [] e = ([], refl)
numbers_of keys (c ∷ C) e =
    let t = both_true (is_in c (cols keys)) (lies C (cols keys)) e in
    let a = number_of keys 0 c t.0 in
    let b = numbers_of keys C t.1 in
    (a.0 ∷ b.0, ap₂ with_column a.1 b.1)

pub known_key_place : (keys : List Key) (place : Spot) → placed_in (cols keys) place ≡ true → IsKnown (key_place keys place)
known_key_place keys spot.Solo e = tt
known_key_place keys (spot.Placed (Hash C)) e = let p = numbers_of keys C e in subst (λ a. IsKnown (hashed_if a)) (sym p.1) tt
known_key_place keys (spot.Placed (Modulus c)) e = let p = number_of keys 0 c e in subst (λ a. IsKnown (modulus_if a)) (sym p.1) tt
known_key_place keys spot.Entire e = cc
known_key_place keys spot.None e = cc

abbrev pub Lengths : ℕ → List (List (List Row)) → Type 0
Lengths degree inputs = AllByRecursion (λ (parts : List (List Row)). length parts ≡ degree) inputs

-- one input
ready_placed : (K : List Key) (s : State) (parts : List (List Row)) (whole : List Row) (p : Spot) (degree : ℕ) → NotEntire s → key_place K s.place ≡ p → IsKnown p → length parts ≡ degree → Holds s parts whole → PlacedFrom (λ r. num p degree (val (cols K) r)) 0 parts × Common s parts whole
ready_placed K s parts whole p degree e f k l h =
    let c = holds_plain s.place s parts whole e h in
    (subst (λ q. PlacedFrom (λ r. num q degree (val (cols K) r)) 0 parts) f (placed_by_key K s.place degree parts (subst IsKnown (sym f) k) l c.1), c.0)

others_ready : (agree : Bool) (K0 : List Key) (s0 : State) (degree : ℕ) (keys : List (List Key)) (states : List State) (inputs : List (List (List Row))) (wholes : List (List Row)) → IsKnown (key_place K0 s0.place) → OtherNeeds agree K0 s0 keys states → AllHold states inputs wholes → Lengths degree inputs →
    Ready IsBag (num (key_place K0 s0.place) degree) degree (columns_of keys) inputs wholes
others_ready agree K0 s0 degree [] [] [] [] k n h l = tt
others_ready agree K0 s0 degree [] [] [] (w ∷ wholes) k n h l = absurd h
others_ready agree K0 s0 degree [] [] (p ∷ inputs) wholes k n h l = absurd h
others_ready agree K0 s0 degree [] (s ∷ states) inputs wholes k n h l = absurd n
others_ready agree K0 s0 degree (K ∷ keys) [] inputs wholes k n h l = absurd n
others_ready agree K0 s0 degree (K ∷ keys) (s ∷ states) [] wholes k n h l = absurd h
others_ready agree K0 s0 degree (K ∷ keys) (s ∷ states) (parts ∷ inputs) [] k n h l = absurd h
others_ready agree K0 s0 degree (K ∷ keys) (s ∷ states) (parts ∷ inputs) (whole ∷ wholes) k n h l =
    let r = ready_placed K s parts whole (key_place K0 s0.place) degree n.0 n.1 k l.0 h.0 in
    (l.0, r.0, r.1.bag, others_ready agree K0 s0 degree keys states inputs wholes k n.4 h.1 l.1)

others_agree : (agree : Bool) (K0 : List Key) (s0 : State) (degree : ℕ) (keys : List (List Key)) (states : List State) (inputs : List (List (List Row))) (wholes : List (List Row)) → IsKnown (key_place K0 s0.place) → OtherNeeds agree K0 s0 keys states → all_agree_in keys states ≡ true → AllHold states inputs wholes → Lengths degree inputs →
    Ready Agree (num (key_place K0 s0.place) degree) degree (columns_of keys) inputs wholes
others_agree agree K0 s0 degree [] [] [] [] k n a h l = tt
others_agree agree K0 s0 degree [] [] [] (w ∷ wholes) k n a h l = absurd h
others_agree agree K0 s0 degree [] [] (p ∷ inputs) wholes k n a h l = absurd h
others_agree agree K0 s0 degree [] (s ∷ states) inputs wholes k n a h l = absurd n
others_agree agree K0 s0 degree (K ∷ keys) [] inputs wholes k n a h l = absurd n
others_agree agree K0 s0 degree (K ∷ keys) (s ∷ states) [] wholes k n a h l = absurd h
others_agree agree K0 s0 degree (K ∷ keys) (s ∷ states) (parts ∷ inputs) [] k n a h l = absurd h
others_agree agree K0 s0 degree (K ∷ keys) (s ∷ states) (parts ∷ inputs) (whole ∷ wholes) k n a h l =
    let t = both_true (agrees_in (cols K) s.agree) (all_agree_in keys states) a in
    let r = ready_placed K s parts whole (key_place K0 s0.place) degree n.0 n.1 k l.0 h.0 in
    (l.0, r.0, agree_in (cols K) s.agree parts whole t.0 r.1.agree, others_agree agree K0 s0 degree keys states inputs wholes k n.4 t.1 h.1 l.1)

abbrev pub place_of_first : List (List Key) → List State → Spot
place_of_first [] states = spot.None
place_of_first (K ∷ keys) [] = spot.None
place_of_first (K ∷ keys) (s ∷ states) = key_place K s.place

pub needs_known : (agree : Bool) (keys : List (List Key)) (states : List State) → KeyedNeeds agree keys states → IsKnown (place_of_first keys states)
needs_known agree [] states n = absurd n
needs_known agree (K ∷ keys) [] n = absurd n
needs_known agree (K ∷ keys) (s ∷ states) n = known_key_place K s.place n.1

-- From the needs of an operator by keys: its inputs lie by the keys, as bags, and in agreement where all agree in the keys.
pub needs_ready : (agree : Bool) (keys : List (List Key)) (states : List State) (degree : ℕ) (inputs : List (List (List Row))) (wholes : List (List Row)) → KeyedNeeds agree keys states → AllHold states inputs wholes → Lengths degree inputs →
    Ready IsBag (num (place_of_first keys states) degree) degree (columns_of keys) inputs wholes × (all_agree_in keys states ≡ true → Ready Agree (num (place_of_first keys states) degree) degree (columns_of keys) inputs wholes)
needs_ready agree [] states degree inputs wholes n h l = absurd n
needs_ready agree (K ∷ keys) [] degree inputs wholes n h l = absurd n
needs_ready agree (K ∷ keys) (s ∷ states) degree [] wholes n h l = absurd h
needs_ready agree (K ∷ keys) (s ∷ states) degree (parts ∷ inputs) [] n h l = absurd h
needs_ready agree (K ∷ keys) (s ∷ states) degree (parts ∷ inputs) (whole ∷ wholes) n h l =
    let k = known_key_place K s.place n.1 in
    let r = ready_placed K s parts whole (key_place K s.place) degree n.0 refl k l.0 h.0 in (
      (l.0, r.0, r.1.bag, others_ready agree K s degree keys states inputs wholes k n.4 h.1 l.1),
      λ a. let t = both_true (agrees_in (cols K) s.agree) (all_agree_in keys states) a in
          (l.0, r.0, agree_in (cols K) s.agree parts whole t.0 r.1.agree, others_agree agree K s degree keys states inputs wholes k n.4 t.1 h.1 l.1),
    )

others_all : (K0 : List Key) (s0 : State) (keys : List (List Key)) (states : List State) → OtherNeeds true K0 s0 keys states → all_agree_in keys states ≡ true
others_all K0 s0 [] [] n = refl
others_all K0 s0 [] (s ∷ states) n = absurd n
others_all K0 s0 (K ∷ keys) [] n = absurd n
others_all K0 s0 (K ∷ keys) (s ∷ states) n = ap₂ (λ a b. a && b) n.2 (others_all K0 s0 keys states n.4)

pub needs_all : (keys : List (List Key)) (states : List State) → KeyedNeeds true keys states → all_agree_in keys states ≡ true
needs_all [] states n = absurd n
needs_all (K ∷ keys) [] n = absurd n
needs_all (K ∷ keys) (s ∷ states) n = ap₂ (λ a b. a && b) n.2 (others_all K s keys states n.4)

pub carried_plain : (m : Pairs) (p : Spot) → carried_place m p ≢ spot.Entire
carried_plain m spot.Solo e = cc
carried_plain m (spot.Placed (Hash C)) e = go (carried m C) e
  where
    go : (a : Option (List ℕ)) → hashed_if a ≡ spot.Entire → ⊥
    go None f = cc
    go (Some D) f = cc
carried_plain m (spot.Placed (Modulus c)) e = go (column_in m c) e
  where
    go : (a : Option ℕ) → modulus_if a ≡ spot.Entire → ⊥
    go None f = cc
    go (Some d) f = cc
carried_plain m spot.Entire e = cc
carried_plain m spot.None e = cc

-- the output's place
keyed_lies : (R : List ℕ → List (List Row) → List Row → Type 0) (agree : Bool) (keys : List (List Key)) (H : List Key) (states : List State) (degree : ℕ) (inputs : List (List (List Row))) (wholes : List (List Row)) (outs : List (List Row)) → KeyedNeeds agree keys states → AllHold states inputs wholes → Lengths degree inputs → length outs ≡ degree →
    PlacedFrom (λ y. num (place_of_first keys states) degree (val (cols H) y)) 0 outs → LiesAt (common_place (key_places keys H states)) outs × (common_place (key_places keys H states) ≢ spot.Entire)
keyed_lies R agree [] H states degree inputs wholes outs n h l e p = absurd n
keyed_lies R agree (K ∷ keys) H [] degree inputs wholes outs n h l e p = absurd n
keyed_lies R agree (K ∷ keys) H (s ∷ states) degree [] wholes outs n h l e p = absurd h
keyed_lies R agree (K ∷ keys) H (s ∷ states) degree (parts ∷ inputs) [] outs n h l e p = absurd h
keyed_lies R agree (K ∷ keys) H (s ∷ states) degree (parts ∷ inputs) (whole ∷ wholes) outs n h l e p = go (same_place q q && all_at_place q (key_places keys H states))
  where
    q : Spot
    q = carried_place (pairs_of (cols K) (cols H)) s.place

    at : LiesAt s.place parts
    at = (holds_plain s.place s parts whole n.0 h.0).1

    lies_here : LiesAt q outs
    lies_here = lies_by_key K (cols H) s.place degree outs (known_key_place K s.place n.1) e (λ f. sym l.0 ∙ subst (λ t. LiesAt t parts) f at) p

    go : (b : Bool) → LiesAt (cond b q spot.None) outs × (cond b q spot.None ≢ spot.Entire)
    go true = (lies_here, carried_plain (pairs_of (cols K) (cols H)) s.place)
    go false = (tt, λ f. cc)

-- An operator by keys keeps what its state says.
pub keyed_holds : (agree : Bool) (keys : List (List Key)) (H : List Key) (ds : List Bool) (rule : List Value → List (List Row) → List Row) → ways H ≡ ds → KeyRule (columns_of keys) (cols H) rule →
    (states : List State) (degree : ℕ) (inputs : List (List (List Row))) (wholes : List (List Row)) → 0 < degree → KeyedNeeds agree keys states → AllHold states inputs wholes → Lengths degree inputs →
    Bag (map (λ p. for_values false ds (columns_of keys) rule (slice p inputs)) (range_with_len 0 degree)) (for_values false ds (columns_of keys) rule wholes) →
    Holds (keyed_state keys H states) (map (λ p. for_values false ds (columns_of keys) rule (slice p inputs)) (range_with_len 0 degree)) (for_values false ds (columns_of keys) rule wholes)
keyed_holds agree keys H ds rule w k states degree inputs wholes some n h l bag =
    plain_holds (common_place (key_places keys H states)) (keyed_state keys H states) outs meant place.1 (record { bag = bag; agree = go (all_agree_in keys states) refl; sorted = (each_range (IsArranged (row_cmp H)) f (λ p. keyed_sorted ds columns H rule w k (slice p inputs)) 0 degree, keyed_sorted ds columns H rule w k wholes) }) place.0
  where
    columns : List (List ℕ)
    columns = columns_of keys

    f : ℕ → List Row
    f p = for_values false ds columns rule (slice p inputs)

    outs : List (List Row)
    outs = map f (range_with_len 0 degree)

    meant : List Row
    meant = for_values false ds columns rule wholes

    d : List Value → ℕ
    d = num (place_of_first keys states) degree

    ready : Ready IsBag d degree columns inputs wholes × (all_agree_in keys states ≡ true → Ready Agree d degree columns inputs wholes)
    ready = needs_ready agree keys states degree inputs wholes n h l

    place : LiesAt (common_place (key_places keys H states)) outs × (common_place (key_places keys H states) ≢ spot.Entire)
    place = keyed_lies IsBag agree keys H states degree inputs wholes outs n h l (length-range f 0 degree) (keyed_placed IsBag false ds columns (cols H) rule k d degree inputs wholes ready.0)

    go : (b : Bool) → all_agree_in keys states ≡ b → AgreeIf (cond b (Some (cols H)) None) outs meant
    go true e = keyed_agree false ds columns (cols H) rule k (λ xs ys. xs ≡ ys) (λ v xs ys g. ap (rule v) g) degree inputs wholes (ready_meets d degree columns inputs wholes (λ v. num_below (place_of_first keys states) degree v some) (ready.1 e))
    go false e = tt
