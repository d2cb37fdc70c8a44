-- Agreement, bags and places, through routes, sorts and what is done row by row.
use Rattle.std.proofs.Common.{Bool, IsPermutation, List, ap, append-nil, ap₂, arith, cond, count_by, drop, false, filter, flat_map, inl, inr, length, map, refl, subst, suc, sym, take, true, ℕ, ◌≡◌, ◌<◌, ◌⊎◌, ◌∷◌, ◌++◌, ◌∙◌, []}
use Rattle.std.proofs.lemmas.Grind.{flat_map-append}
use Rattle.std.proofs.lemmas.List.{drop_at, length-map, nil_from_length, take_at}
use Rattle.std.proofs.lemmas.List.Elements.{All-from_recursion, filter_agree, recursion_from_All}
use Rattle.std.proofs.lemmas.List.Sorted.{All-permutation, IsPermutation-append, IsPermutation-refl, IsPermutation-sym, IsPermutation-trans}
use Rattle.std.proofs.lemmas.List.Sums.{length-filter}
use Rattle.std.specs.Cmp.{both_ways}
use Rattle.std.specs.Cmp.Lexicographic.{slice_cmp}
use Rattle.std.specs.List.{AllByRecursion}
use Rattle.std.specs.Ordering.{is_eq, is_lt}
use Rattle.std.specs.declared.cmp.Ordering.{Ordering}
use Rattle.ds_schema.specs.Rows.{cols, has, row_cmp, sub, val, vals_cmp, ways}
use Rattle.ds_schema.specs.declared.key.Key.{Key}
use Rattle.ds_value.specs.Values.{number, value_cmp}
use Rattle.ds_value.specs.declared.value.Value.{Value}
use Rattle.flow_graph.specs.Destinations.{SentFrom}
use Rattle.flow_graph.specs.Parts.{Agree, Bag, PlacedFrom, Sorted}
use Rattle.op_base.specs.Columns.{Lies, Row, all_columns}
use Rattle.op_base.specs.Keyed.{arranged}
use Rattle.op_base.specs.Lists.{Interleaves, IsArranged, OneHolds, joined}
use Rattle.flow_graph.proofs.Holders.{at_one, const_lists, filtered, holds_at, map_all, regained, some_passing}
use Rattle.flow_graph.proofs.Lanes.{RoutedFrom, routed_one, routed_placed, sent_counts}
use Rattle.flow_graph.proofs.PassingColumns.{below}
use Rattle.op_base.proofs.All.{all_append, all_map, both_true, split_all}
use Rattle.op_base.proofs.Arranged.{tie}
use Rattle.op_base.proofs.Bags.{count-permutation, filter_joined, joined_one, sum_interleaved}
use Rattle.op_base.proofs.ColumnLaws.{same_columns, tie_val, val_both, val_lies}
use Rattle.op_base.proofs.Filters.{holds_finer, holds_map, holds_none, map_through, none_joined}
use Rattle.op_base.proofs.Interleavings.{interleaves_filter, interleaves_one}
use Rattle.op_base.proofs.KeyLaws.{by_key_ranks}
use Rattle.op_base.proofs.Orders.{has_val, length-val, row_total, val-append, val_has}
use Rattle.op_base.proofs.Ranks.{filter_all, filter_none, flat_map_filter}
use Rattle.op_base.proofs.RowLists.{flat_from_counts, rows_permuted, rows_permuted_by_filter, same_exact, same_row, sort_permutes}
use Rattle.op_base.proofs.Sorting.{arranged_append, ranks_filter}

-- a place is a number of the values of some columns
abbrev pub PlacedBy : List ℕ → (List Value → ℕ) → List (List Row) → Type 0
PlacedBy columns number parts = PlacedFrom (λ r. number (val columns r)) 0 parts

abbrev pub Routed : List ℕ → (List Value → ℕ) → List (List Row) → List (List Row) → Type 0
Routed columns number parts got = RoutedFrom (λ r. number (val columns r)) 0 parts got

-- what commutes with the rows of each value keeps agreement
pub agree_through : (G : List ℕ) (f : List Row → List Row) → f [] ≡ [] → ((v : List Value) (rows : List Row) → sub G v (f rows) ≡ f (sub G v rows)) → (parts : List (List Row)) (whole : List Row) → Agree G parts whole → Agree G (map f parts) (f whole)
agree_through G f none h parts whole a v =
    subst (λ ms. OneHolds ms (sub G v (f whole))) (sym (map_through (has G v) f (h v) parts))
    (subst (λ w. OneHolds (map f (map (sub G v) parts)) w) (sym (h v whole)) (holds_map f none (map (sub G v) parts) (sub G v whole) (a v)))

-- Where some columns agree, the partitions hold the rows of the whole.
pub agree_bag : (G : List ℕ) (parts : List (List Row)) (whole : List Row) → Agree G parts whole → Bag parts whole
agree_bag G parts whole h = rows_permuted_by_filter (joined parts) whole (λ z.
    filter_joined (same_row z) parts ∙ joined_one (map (filter (same_row z)) parts) (filter (same_row z) whole)
    (holds_finer (has G (val G z)) (same_row z) (λ r t. val_has G (val G z) r (ap (val G) (sym (same_exact z r t)))) parts whole (h (val G z))))

-- What sends each row to one consumer keeps the rows.
pub sent_bag : (goes : ℕ → ℕ → Row → ℕ) (parts got : List (List Row)) (whole : List Row) → Bag parts whole → SentFrom goes 0 parts got → ((p t : ℕ) (r : Row) → goes p t r < length got) → Bag got whole
sent_bag goes parts got whole h s below = rows_permuted (joined got) whole (λ z. sent_counts (λ y. cond (same_row z y) 1 0) goes parts got s below ∙ count-permutation (same_row z) (joined parts) whole h)

-- any
pub collect_agree : (G : List ℕ) (parts : List (List Row)) (rows whole : List Row) → Agree G parts whole → Interleaves parts rows → Agree G (rows ∷ []) whole
collect_agree G parts rows whole h i v = inl (interleaves_one (map (has_filter v) parts) (sub G v rows) (sub G v whole) (interleaves_filter (has G v) parts rows i) (h v), tt)
  where
    has_filter : List Value → List Row → List Row
    has_filter v = sub G v

pub collect_bag : (parts : List (List Row)) (rows whole : List Row) → Bag parts whole → Interleaves parts rows → Bag (rows ∷ []) whole
collect_bag parts rows whole h i = rows_permuted (joined (rows ∷ [])) whole (λ z.
    ap (count_by (same_row z)) (append-nil rows) ∙ sym (sum_interleaved (λ y. cond (same_row z y) 1 0) parts rows i) ∙ count-permutation (same_row z) (joined parts) whole h)

-- sorting
pub sort_agree : (G : List ℕ) (keys : List Key) (parts : List (List Row)) (whole : List Row) → Agree G parts whole → Agree G (map (arranged keys) parts) (arranged keys whole)
sort_agree G keys parts whole h = agree_through G (arranged keys) refl (λ v rows.
    ap (sub G v) (by_key_ranks keys (λ same. same) rows) ∙ ranks_filter (row_total keys) (has G v) rows ∙ sym (by_key_ranks keys (λ same. same) (sub G v rows))) parts whole h

pub sort_bag : (keys : List Key) (parts : List (List Row)) (whole : List Row) → Bag parts whole → Bag (map (arranged keys) parts) (arranged keys whole)
sort_bag keys parts whole h =
    IsPermutation-trans (joined (map (arranged keys) parts)) (joined parts) (arranged keys whole) (each parts)
    (IsPermutation-trans (joined parts) whole (arranged keys whole) h (IsPermutation-sym (arranged keys whole) whole (sort_permutes keys whole)))
  where
    each : (ps : List (List Row)) → IsPermutation (joined (map (arranged keys) ps)) (joined ps)
    each [] = IsPermutation-refl []
    each (rows ∷ ps) = IsPermutation-append (arranged keys rows) rows (joined (map (arranged keys) ps)) (joined ps) (sort_permutes keys rows) (each ps)

-- more columns agree too
pub agree_more : (G K : List ℕ) (parts : List (List Row)) (whole : List Row) → Agree G parts whole → Agree (G ++ K) parts whole
agree_more G K parts whole h v =
    holds_finer (has G (take (length G) v)) (has (G ++ K) v) (λ r t.
    let e = has_val (G ++ K) v r t in
    val_has G (take (length G) v) r (sym (take_at (val G r) (val K r) (length G) (length-val G r)) ∙ ap (take (length G)) (sym (val-append G K r) ∙ e)))
    parts whole (h (take (length G) v))

pub hash_agree : (G K : List ℕ) (number : List Value → ℕ) (parts got : List (List Row)) (whole : List Row) → Agree G parts whole → Routed K number parts got → ((v : List Value) → number v < length got) → Agree (G ++ K) got whole
hash_agree G K number parts got whole h r below v =
    routed_one (λ r. number (val K r)) (has (G ++ K) v) (number (drop (length G) v)) (λ r t.
    let e = has_val (G ++ K) v r t in
    ap number (sym (drop_at (val G r) (val K r) (length G) (length-val G r)) ∙ ap (drop (length G)) (sym (val-append G K r) ∙ e)))
    0 parts got whole (agree_more G K parts whole h v) r (omega arith) (let b = below (drop (length G) v) in omega arith)

pub hash_placed : (K : List ℕ) (number : List Value → ℕ) (parts got : List (List Row)) → Routed K number parts got → PlacedBy K number got
hash_placed K number parts got r = routed_placed (λ r. number (val K r)) 0 parts got r

pub regain_agree : (C G : List ℕ) (keys : List Key) (number : List Value → ℕ) (parts : List (List Row)) (whole : List Row) →
    Agree G parts whole → PlacedBy C number parts → Sorted keys parts whole → ((v : List Value) → number v < length parts) → Lies G (C ++ cols keys) → Agree C parts whole
regain_agree C G keys number parts whole h placed up below l v =
    regained (row_total keys) (λ r. number (val C r)) (has C v) (number v) (λ r t. ap number (has_val C v r t)) parts whole (below v) placed up.0 up.1
    (λ x z t.
    let tz = both_true (has C v z) (tie (row_cmp keys) x z) t in (
      has G (val G z),
      (λ y s.
          let ty = both_true (has C v y) (tie (row_cmp keys) x y) s in
          val_has G (val G z) y (val_lies G (C ++ cols keys) y z l
          (val_both C (cols keys) y z (has_val C v y ty.0 ∙ sym (has_val C v z tz.0)) (tie_val keys x y ty.1 ∙ sym (tie_val keys x z tz.1))))),
      h (val G z),
    ))

-- The first rule of refining: rows of one width that lie in places by some of their columns agree in all.
pub agree_all : (w : ℕ) (C : List ℕ) (number : List Value → ℕ) (parts : List (List Row)) (whole : List Row) → Bag parts whole → PlacedBy C number parts → ((v : List Value) → number v < length parts) →
    Lies C (all_columns w) → AllByRecursion (λ r. length r ≡ w) whole → Agree (all_columns w) parts whole
agree_all w C number parts whole bag placed below l wide v = go (some_passing (λ r. length r ≡ w) p whole wide)
  where
    p : Row → Bool
    p = has (all_columns w) v

    Wide : Row → Type 0
    Wide r = length r ≡ w

    wide_parts : AllByRecursion Wide (joined parts)
    wide_parts = recursion_from_All Wide (joined parts) (All-permutation Wide whole (joined parts) (IsPermutation-sym (joined parts) whole bag) (All-from_recursion Wide whole wide))

    counts : length (filter p (joined parts)) ≡ length (filter p whole)
    counts = length-filter p (joined parts) ∙ count-permutation p (joined parts) whole bag ∙ sym (length-filter p whole)

    go : (filter p whole ≡ []) ⊎ ((r : Row) × (p r ≡ true) × (length r ≡ w)) → OneHolds (map (filter p) parts) (filter p whole)
    go (inl e) =
        let none : filter p (joined parts) ≡ [] = Rattle.std.proofs.lemmas.List.nil_from_length (filter p (joined parts)) (counts ∙ ap length e) in
        let long : 0 < length (map (filter p) parts) = rw Rattle.std.proofs.lemmas.List.length-map (let b = below [] in omega arith) in
        subst (OneHolds (map (filter p) parts)) (sym e) (holds_none (map (filter p) parts) long (none_joined p parts (sym (filter_joined p parts) ∙ none)))
    go (inr (r, t, e)) =
        let to : (x : Row) → p x ≡ true → number (val C x) ≡ number (val C r) = λ x s. ap number (val_lies C (all_columns w) x r l (has_val (all_columns w) v x s ∙ sym (has_val (all_columns w) v r t))) in
        let one : (xs : List Row) → AllByRecursion Wide xs → AllByRecursion (λ y. y ≡ r) (filter p xs) = λ xs h.
        filtered p r xs (map_all Wide (λ y. p y ≡ true → y ≡ r) (λ y f s. same_columns w y r f e (has_val (all_columns w) v y s ∙ sym (has_val (all_columns w) v r t))) xs h) in
        holds_at (λ x. number (val C x)) p (number (val C r)) to 0 (number (val C r)) parts whole (omega arith) (below (val C r)) placed
        (sym (at_one (λ x. number (val C x)) p (number (val C r)) to 0 (number (val C r)) parts (omega arith) (below (val C r)) placed) ∙ sym (filter_joined p parts)
        ∙ const_lists r (filter p (joined parts)) (filter p whole) (one (joined parts) wide_parts) (one whole wide) counts)

map_agree : (p q : Row → Bool) → ((r : Row) → p r ≡ q r) → (parts : List (List Row)) → map (filter p) parts ≡ map (filter q) parts
map_agree p q h [] = refl
map_agree p q h (rows ∷ parts) = ap₂ (λ a b. a ∷ b) (filter_agree p q h rows) (map_agree p q h parts)

pub some_part : {X : Type 0} (ls : List (List X)) (whole : List X) → OneHolds ls whole → 0 < length ls
some_part [] whole h = absurd h
some_part (xs ∷ ls) whole h = omega arith

pub always : (rows : List Row) → AllByRecursion (λ r. Unit {0}) rows
always [] = tt
always (r ∷ rows) = (tt, always rows)

pub agree_same : (G H : List ℕ) (parts : List (List Row)) (whole : List Row) → Lies G H → Lies H G → Agree G parts whole → Agree H parts whole
agree_same G H parts whole l m a w = go (some_passing (λ r. Unit {0}) (has H w) whole (always whole))
  where
    go : (sub H w whole ≡ []) ⊎ ((r : Row) × (has H w r ≡ true) × Unit {0}) → OneHolds (map (sub H w) parts) (sub H w whole)
    go (inl e) =
        let bag = agree_bag G parts whole a in
        let counts : length (sub H w (joined parts)) ≡ length (sub H w whole) = length-filter (has H w) (joined parts) ∙ count-permutation (has H w) (joined parts) whole bag ∙ sym (length-filter (has H w) whole) in
        let none : sub H w (joined parts) ≡ [] = nil_from_length (sub H w (joined parts)) (counts ∙ ap length e) in
        let some : 0 < length parts = subst (λ n. 0 < n) (length-map parts (sub G [])) (some_part (map (sub G []) parts) (sub G [] whole) (a [])) in
        let long : 0 < length (map (sub H w) parts) = subst (λ n. 0 < n) (sym (length-map parts (sub H w))) some in
        subst (OneHolds (map (sub H w) parts)) (sym e) (holds_none (map (sub H w) parts) long (none_joined (has H w) parts (sym (filter_joined (has H w) parts) ∙ none)))
    go (inr (r, t, u)) =
        let same : (x : Row) → has G (val G r) x ≡ has H w x = λ x. both_ways (has G (val G r) x) (has H w x)
        (λ s. val_has H w x (val_lies H G x r m (has_val G (val G r) x s) ∙ has_val H w r t))
        (λ s. val_has G (val G r) x (val_lies G H x r l (has_val H w x s ∙ sym (has_val H w r t)))) in
        subst (λ ms. OneHolds ms (sub H w whole)) (map_agree (has G (val G r)) (has H w) same parts)
        (subst (OneHolds (map (sub G (val G r)) parts)) (filter_agree (has G (val G r)) (has H w) same whole) (a (val G r)))

-- what agrees in some columns agrees in more
pub agree_finer : (G K : List ℕ) (parts : List (List Row)) (whole : List Row) → Lies G K → Agree G parts whole → Agree K parts whole
agree_finer G K parts whole l a w = go (some_passing (λ r. Unit {0}) (has K w) whole (always whole))
  where
    go : (sub K w whole ≡ []) ⊎ ((r : Row) × (has K w r ≡ true) × Unit {0}) → OneHolds (map (sub K w) parts) (sub K w whole)
    go (inl e) =
        let bag = agree_bag G parts whole a in
        let counts : length (sub K w (joined parts)) ≡ length (sub K w whole) = length-filter (has K w) (joined parts) ∙ count-permutation (has K w) (joined parts) whole bag ∙ sym (length-filter (has K w) whole) in
        let none : sub K w (joined parts) ≡ [] = nil_from_length (sub K w (joined parts)) (counts ∙ ap length e) in
        let some : 0 < length parts = subst (λ n. 0 < n) (length-map parts (sub G [])) (some_part (map (sub G []) parts) (sub G [] whole) (a [])) in
        let long : 0 < length (map (sub K w) parts) = subst (λ n. 0 < n) (sym (length-map parts (sub K w))) some in
        subst (OneHolds (map (sub K w) parts)) (sym e) (holds_none (map (sub K w) parts) long (none_joined (has K w) parts (sym (filter_joined (has K w) parts) ∙ none)))
    go (inr (r, t, u)) =
        holds_finer (has G (val G r)) (has K w) (λ x s. val_has G (val G r) x (val_lies G K x r l (has_val K w x s ∙ sym (has_val K w r t)))) parts whole (a (val G r))

-- Rows, faults or anything else that each row gives alone.
pub rows_bag : {Y : Type 0} (g : Row → List Y) (parts : List (List Row)) (whole : List Row) → Bag parts whole → IsPermutation (joined (map (flat_map g) parts)) (flat_map g whole)
rows_bag {Y} g parts whole h = subst (λ ys. IsPermutation ys (flat_map g whole)) (each parts) (flat_from_counts g (joined parts) whole (λ z. count-permutation (same_row z) (joined parts) whole h))
  where
    each : (ps : List (List Row)) → flat_map g (joined ps) ≡ joined (map (flat_map g) ps)
    each [] = refl
    each (rows ∷ ps) = flat_map-append g rows (joined ps) ∙ ap (λ ys. flat_map g rows ++ ys) (each ps)

-- the columns G pass as H: each row that a row gives has its values there
abbrev pub Passes : List ℕ → List ℕ → (Row → List Row) → Type 0
Passes G H g = (r : Row) → AllByRecursion (λ y. val H y ≡ val G r) (g r)

answers : (G H : List ℕ) (v : List Value) (r : Row) (b : Bool) (ys : List Row) → has G v r ≡ b → AllByRecursion (λ y. val H y ≡ val G r) ys → AllByRecursion (λ y. has H v y ≡ b) ys
answers G H v r b [] e h = tt
answers G H v r b (y ∷ ys) e h = (ap (λ w. is_eq (slice_cmp value_cmp w v)) h.0 ∙ e, answers G H v r b ys e h.1)

sub_rows : (G H : List ℕ) (g : Row → List Row) → Passes G H g → (v : List Value) (rows : List Row) → sub H v (flat_map g rows) ≡ flat_map g (sub G v rows)
sub_rows G H g p v rows = flat_map_filter (has G v) (has H v) g g (λ r t. filter_all (has H v) (g r) (answers G H v r true (g r) t (p r))) (λ r t. filter_none (has H v) (g r) (answers G H v r false (g r) t (p r))) rows

pub rows_agree : (G H : List ℕ) (g : Row → List Row) (parts : List (List Row)) (whole : List Row) → Passes G H g → Agree G parts whole → Agree H (map (flat_map g) parts) (flat_map g whole)
rows_agree G H g parts whole p a v =
    subst (λ ms. OneHolds ms (sub H v (flat_map g whole))) (sym (each parts))
    (subst (OneHolds (map (flat_map g) (map (sub G v) parts))) (sym (sub_rows G H g p v whole)) (holds_map (flat_map g) refl (map (sub G v) parts) (sub G v whole) (a v)))
  where
    each : (ps : List (List Row)) → map (sub H v) (map (flat_map g) ps) ≡ map (flat_map g) (map (sub G v) ps)
    each [] = refl
    each (rows ∷ ps) = ap₂ (λ a b. a ∷ b) (sub_rows G H g p v rows) (each ps)

pub flat_all : (P Q : Row → Type 0) (g : Row → List Row) → ((r : Row) → P r → AllByRecursion Q (g r)) → (rows : List Row) → AllByRecursion P rows → AllByRecursion Q (flat_map g rows)
flat_all P Q g h [] k = tt
flat_all P Q g h (r ∷ rows) k = all_append Q (g r) (flat_map g rows) (h r k.0) (flat_all P Q g h rows k.1)

pub rows_placed : (C D : List ℕ) (number : List Value → ℕ) (g : Row → List Row) → Passes C D g → (n : ℕ) (parts : List (List Row)) → PlacedFrom (λ r. number (val C r)) n parts → PlacedFrom (λ r. number (val D r)) n (map (flat_map g) parts)
rows_placed C D number g p n [] h = tt
rows_placed C D number g p n (rows ∷ parts) h = (
  flat_all (λ r. number (val C r) ≡ n) (λ y. number (val D y) ≡ n) g (λ r e. all_map (λ y. val D y ≡ val C r) (λ y. number (val D y) ≡ n) (λ y f. ap number f ∙ e) (g r) (p r)) rows h.0,
  rows_placed C D number g p (suc n) parts h.1,
)

-- at most one row for each: the order in what passes stays
abbrev pub AtMostOne : (Row → List Row) → Type 0
AtMostOne g = (r : Row) → (R : Row → Row → Ordering) → IsArranged R (g r)

pub rows_sorted : (K M : List Key) (g : Row → List Row) → ways K ≡ ways M → Passes (cols K) (cols M) g → AtMostOne g → (rows : List Row) → IsArranged (row_cmp K) rows → IsArranged (row_cmp M) (flat_map g rows)
rows_sorted K M g w p one [] h = tt
rows_sorted K M g w p one (r ∷ rows) h =
    arranged_append (row_cmp M) (g r) (flat_map g rows) (one r (row_cmp M)) (rows_sorted K M g w p one rows h.1)
    (all_map (λ y. val (cols M) y ≡ val (cols K) r) (λ y. AllByRecursion (λ z. is_lt (row_cmp M z y) ≡ false) (flat_map g rows))
    (λ y e. flat_all (λ s. is_lt (row_cmp K s r) ≡ false) (λ z. is_lt (row_cmp M z y) ≡ false) g
    (λ s l. all_map (λ z. val (cols M) z ≡ val (cols K) s) (λ z. is_lt (row_cmp M z y) ≡ false) (λ z f. ap is_lt (alike z y s e f) ∙ l) (g s) (p s)) rows h.0)
    (g r) (p r))
  where
    alike : (z y s : Row) → val (cols M) y ≡ val (cols K) r → val (cols M) z ≡ val (cols K) s → row_cmp M z y ≡ row_cmp K s r
    alike z y s e f = ap₂ (λ a b. vals_cmp (ways M) a b) f e ∙ ap (λ ds. vals_cmp ds (val (cols K) s) (val (cols K) r)) (sym w)

pub placed_agree : (K : List ℕ) (number : List Value → ℕ) (parts : List (List Row)) → ((v : List Value) → number v < length parts) → PlacedBy K number parts → Agree K parts (joined parts)
placed_agree K number parts below h v =
    holds_at (λ r. number (val K r)) (has K v) (number v) (λ r t. ap number (has_val K v r t)) 0 (number v) parts (joined parts) (omega arith) (below v) h
    (sym (at_one (λ r. number (val K r)) (has K v) (number v) (λ r t. ap number (has_val K v r t)) 0 (number v) parts (omega arith) (below v) h) ∙ sym (filter_joined (has K v) parts))

kept_all : (rows : List Row) → sub [] [] rows ≡ rows
kept_all [] = refl
kept_all (r ∷ rows) = ap (λ xs. r ∷ xs) (kept_all rows)

pub exact_is : (parts : List (List Row)) (whole : List Row) → Agree [] parts whole → joined parts ≡ whole
exact_is parts whole a = joined_one parts whole (subst (λ w. OneHolds parts w) (kept_all whole) (subst (λ ps. OneHolds ps (sub [] [] whole)) (each parts) (a [])))
  where
    each : (ps : List (List Row)) → map (sub [] []) ps ≡ ps
    each [] = refl
    each (rows ∷ ps) = ap₂ (λ x y. x ∷ y) (kept_all rows) (each ps)

pub parts_all : (P : Row → Type 0) (parts : List (List Row)) (whole : List Row) → Bag parts whole → AllByRecursion P whole → AllByRecursion (AllByRecursion P) parts
parts_all P parts whole bag h = split_all P parts (recursion_from_All P (joined parts) (All-permutation P whole (joined parts) (IsPermutation-sym (joined parts) whole bag) (All-from_recursion P whole h)))
