-- Funnels keep what their states say.
use Rattle.std.proofs.Common.{Bool, List, None, Option, Some, ap, ap₂, arith, cond, count_by, drop, false, get_or, inl, inr, length, map, mod-lt, refl, subst, suc, sym, take, true, zero, ℕ, ◌≡◌, ◌≢◌, ◌+◌, ◌<◌, ◌⊎◌, ◌∷◌, ◌++◌, ◌∙◌, ◌==◌, ◌&&◌, []}
use Rattle.std.proofs.lemmas.Bool.Decides.{nat_tests}
use Rattle.std.proofs.lemmas.List.{drop_at, take_at}
use Rattle.std.specs.List.{AllByRecursion, range_with_len}
use Rattle.ds_schema.specs.Rows.{cols, has, row_cmp, sub, val}
use Rattle.ds_schema.specs.declared.key.Key.{Key}
use Rattle.ds_value.specs.declared.value.Value.{Value}
use Rattle.flow_graph.specs.Parts.{Agree, Bag, PlacedFrom}
use Rattle.ds_place.specs.Places.{hash_number, modulus_number}
use Rattle.flow_graph.specs.Runs.{Funnelled, slice}
use Rattle.flow_graph.specs.States.{AllHold, AgreeIf, Holds, LiesAt}
use Rattle.ds_place.specs.declared.place.Place.TheVariants.{Hash, Modulus}
use Rattle.flow_graph.specs.declared.state.Spot.{Spot}
use Rattle.flow_graph.specs.declared.state.State.{State}
use Rattle.flow_derive.specs.Derive.{agree_sets, all_at_place, both_sets, common_place, if_common, more, places, same_list, same_place}
use Rattle.op_base.specs.Columns.{IsIn, Lies, Row}
use Rattle.op_base.specs.Feeds.{has_some}
use Rattle.op_base.specs.Keyed.{arranged}
use Rattle.op_base.specs.Lists.{IsArranged, OneHolds, joined}
use Rattle.flow_graph.proofs.Holders.{one_at}
use Rattle.flow_graph.proofs.PartLaws.{agree_finer, sort_bag}
use Rattle.flow_graph.proofs.StateLaws.{each_part, holds_plain, modulus_below, placed_solo, plain_holds, sort_agree_if}
use Rattle.flow_rules.proofs.MeetLaws.{Lengths, each_range, length-range, one_in_range}
use Rattle.flow_rules.proofs.NeedTypes.{NotEntire}
use Rattle.flow_rules.proofs.Passing.{IsKnown, part_at, part_none}
use Rattle.flow_rules.proofs.RouteOps.{all_any, any_sorted}
use Rattle.op_base.proofs.All.{all_append, all_map, both_true, map_two}
use Rattle.op_base.proofs.Bags.{count-append, count-permutation, filter_joined, sum_interleaved}
use Rattle.op_base.proofs.ColumnLaws.{lies_self}
use Rattle.op_base.proofs.Interleavings.{interleaves_all}
use Rattle.op_base.proofs.Orders.{has_val, length-val, val-append}
use Rattle.op_base.proofs.RowLists.{by_key_all, rows_permuted, same_row, sort_arranged}
use Rattle.flow_graph.specs.declared.state.Spot.TheVariants as spot

same_list_true : (C D : List ℕ) → same_list C D ≡ true → C ≡ D
same_list_true [] [] e = refl
same_list_true [] (d ∷ D) e = cc
same_list_true (c ∷ C) [] e = cc
same_list_true (c ∷ C) (d ∷ D) e = let t = both_true (c == d) (same_list C D) e in ap₂ (λ a b. a ∷ b) (num c d t.0) (same_list_true C D t.1)
  where
    num : (a b : ℕ) → (a == b) ≡ true → a ≡ b
    num a b f = grind (arith, nat_tests)

pub same_place_true : (p q : Spot) → same_place p q ≡ true → p ≡ q
same_place_true spot.Solo spot.Solo e = refl
same_place_true (spot.Placed (Hash C)) (spot.Placed (Hash D)) e = ap (λ (x : List ℕ). spot.Placed (Hash x)) (same_list_true C D e)
same_place_true (spot.Placed (Modulus c)) (spot.Placed (Modulus d)) e = ap (λ (x : ℕ). spot.Placed (Modulus x)) (num c d e)
  where
    num : (a b : ℕ) → (a == b) ≡ true → a ≡ b
    num a b f = grind (arith, nat_tests)
same_place_true p q e = cc

-- a place and the partition that it gives to a row
abbrev pub row_place : Spot → ℕ → Row → ℕ
row_place spot.Solo n r = 0
row_place (spot.Placed (Hash C)) n r = hash_number n (val C r)
row_place (spot.Placed (Modulus c)) n r = modulus_number n (val (c ∷ []) r)
row_place spot.Entire n r = 0
row_place spot.None n r = 0

abbrev pub place_cols : Spot → List ℕ
place_cols spot.Solo = []
place_cols (spot.Placed (Hash C)) = C
place_cols (spot.Placed (Modulus c)) = c ∷ []
place_cols spot.Entire = []
place_cols spot.None = []

row_place_below : (p : Spot) (n : ℕ) (r : Row) → 0 < n → row_place p n r < n
row_place_below spot.Solo n r l = l
row_place_below (spot.Placed (Hash C)) n r l = Rattle.std.proofs.Common.mod-lt _ l
row_place_below (spot.Placed (Modulus c)) n r l = modulus_below n (val (c ∷ []) r) l
row_place_below spot.Entire n r l = l
row_place_below spot.None n r l = l

row_placed : (p : Spot) (n : ℕ) (parts : List (List Row)) → IsKnown p → length parts ≡ n → LiesAt p parts → PlacedFrom (row_place p n) 0 parts
row_placed spot.Solo n parts k e l = placed_solo parts l
row_placed (spot.Placed (Hash C)) n parts k e l = subst (λ m. PlacedFrom (λ r. hash_number m (val C r)) 0 parts) e l
row_placed (spot.Placed (Modulus c)) n parts k e l = subst (λ m. PlacedFrom (λ r. modulus_number m (val (c ∷ []) r)) 0 parts) e l
row_placed spot.Entire n parts k e l = absurd k
row_placed spot.None n parts k e l = absurd k

row_lies : (p : Spot) (n : ℕ) (parts : List (List Row)) → length parts ≡ n → (p ≡ spot.Solo → n ≡ 1) → PlacedFrom (row_place p n) 0 parts → LiesAt p parts
row_lies spot.Solo n parts e one l = e ∙ one refl
row_lies (spot.Placed (Hash C)) n parts e one l = subst (λ m. PlacedFrom (λ r. hash_number m (val C r)) 0 parts) (sym e) l
row_lies (spot.Placed (Modulus c)) n parts e one l = subst (λ m. PlacedFrom (λ r. modulus_number m (val (c ∷ []) r)) 0 parts) (sym e) l
row_lies spot.Entire n parts e one l = tt
row_lies spot.None n parts e one l = tt

row_place_val : (p : Spot) (n : ℕ) (r s : Row) → val (place_cols p) r ≡ val (place_cols p) s → row_place p n r ≡ row_place p n s
row_place_val spot.Solo n r s e = refl
row_place_val (spot.Placed (Hash C)) n r s e = ap (hash_number n) e
row_place_val (spot.Placed (Modulus c)) n r s e = ap (modulus_number n) e
row_place_val spot.Entire n r s e = refl
row_place_val spot.None n r s e = refl

-- what all inputs of a funnel are: partitions in number, bags of their wholes
abbrev AllBags : List (List (List Row)) → List (List Row) → Type 0
AllBags [] [] = Unit {0}
AllBags (parts ∷ inputs) (whole ∷ wholes) = Bag parts whole × AllBags inputs wholes
AllBags inputs wholes = ⊥

all_bags : (states : List State) (inputs : List (List (List Row))) (wholes : List (List Row)) → AllByRecursion NotEntire states → AllHold states inputs wholes → AllBags inputs wholes
all_bags [] [] [] n h = tt
all_bags [] [] (w ∷ wholes) n h = absurd h
all_bags [] (p ∷ inputs) wholes n h = absurd h
all_bags (s ∷ states) [] wholes n h = absurd h
all_bags (s ∷ states) (parts ∷ inputs) [] n h = absurd h
all_bags (s ∷ states) (parts ∷ inputs) (whole ∷ wholes) n h = ((holds_plain s.place s parts whole n.0 h.0).0.bag, all_bags states inputs wholes n.1 h.1)

-- the rows of all partitions, partition by partition or input by input
count_range : (p : Row → Bool) (parts : List (List Row)) (degree : ℕ) → length parts ≡ degree → count_by p (joined (map (λ i. get_or parts i []) (range_with_len 0 degree))) ≡ count_by p (joined parts)
count_range p parts degree l = ap (λ ls. count_by p (joined ls)) (subst (λ n. map (λ i. get_or parts i []) (range_with_len 0 n) ≡ parts) l (each_part (λ (rows : List Row). rows) parts ∙ Rattle.std.proofs.lemmas.List.map-id parts))

count_pairs : {I : Type 0} (p : Row → Bool) (f g : I → List Row) (is : List I) → count_by p (joined (map (λ i. f i ++ g i) is)) ≡ count_by p (joined (map f is)) + count_by p (joined (map g is))
count_pairs p f g [] = refl
count_pairs p f g (i ∷ is) =
    let a = count-append p (f i ++ g i) (joined (map (λ j. f j ++ g j) is)) in
    let b = count-append p (f i) (g i) in
    let c = count-append p (f i) (joined (map f is)) in
    let d = count-append p (g i) (joined (map g is)) in
    let e = count_pairs p f g is in
    omega (arith, a, b, c, d, e)

count_nothing : {I : Type 0} (p : Row → Bool) (is : List I) → count_by p (joined (map (λ i. []) is)) ≡ 0
count_nothing p [] = refl
count_nothing p (i ∷ is) = count_nothing p is

count_inputs : (p : Row → Bool) (inputs : List (List (List Row))) (wholes : List (List Row)) (degree : ℕ) → Lengths degree inputs → AllBags inputs wholes → count_by p (joined (map (λ i. joined (slice i inputs)) (range_with_len 0 degree))) ≡ count_by p (joined wholes)
count_inputs p [] [] degree l h = count_nothing p (range_with_len 0 degree)
count_inputs p [] (w ∷ wholes) degree l h = absurd h
count_inputs p (parts ∷ inputs) [] degree l h = absurd h
count_inputs p (parts ∷ inputs) (whole ∷ wholes) degree l h =
    let a = count_pairs p (λ i. get_or parts i []) (λ i. joined (slice i inputs)) (range_with_len 0 degree) in
    let b = count_range p parts degree l.0 in
    let c = count-permutation p (joined parts) whole h.0 in
    let d = count_inputs p inputs wholes degree l.1 h.1 in
    let e = count-append p whole (joined wholes) in
    omega (arith, a, b, c, d, e)

-- The inputs joined on each partition are a bag of the wholes joined.
pub funnel_bag : (states : List State) (inputs : List (List (List Row))) (wholes : List (List Row)) (degree : ℕ) → AllByRecursion NotEntire states → AllHold states inputs wholes → Lengths degree inputs → Bag (map (λ i. joined (slice i inputs)) (range_with_len 0 degree)) (joined wholes)
funnel_bag states inputs wholes degree n h l = rows_permuted (joined (map (λ i. joined (slice i inputs)) (range_with_len 0 degree))) (joined wholes) (λ z. count_inputs (same_row z) inputs wholes degree l (all_bags states inputs wholes n h))

-- what comes funnelled has each row as often
funnelled_counts : (p : Row → Bool) (inputs : List (List (List Row))) (n : ℕ) (sent : List (List Row)) → Funnelled n inputs sent → count_by p (joined sent) ≡ count_by p (joined (map (λ i. joined (slice i inputs)) (range_with_len n (length sent))))
funnelled_counts p inputs n [] f = refl
funnelled_counts p inputs n (rows ∷ sent) f =
    let a = count-append p rows (joined sent) in
    let b = sum_interleaved (λ y. cond (p y) 1 0) (slice n inputs) rows f.0 in
    let c = subst (λ k. count_by p (joined sent) ≡ count_by p (joined (map (λ i. joined (slice i inputs)) (range_with_len k (length sent))))) (suc_is n) (funnelled_counts p inputs (suc n) sent f.1) in
    let d = count-append p (joined (slice n inputs)) (joined (map (λ i. joined (slice i inputs)) (range_with_len (n + 1) (length sent)))) in
    omega (arith, a, b, c, d)
  where
    suc_is : (k : ℕ) → suc k ≡ k + 1
    suc_is k = omega arith

-- places in common
at_common : (p : Spot) (states : List State) → all_at_place p (places states) ≡ true → AllByRecursion (λ (s : State). s.place ≡ p) states
at_common p [] e = tt
at_common p (s ∷ states) e = let t = both_true (same_place s.place p) (all_at_place p (places states)) e in (same_place_true s.place p t.0, at_common p states t.1)

pub common_known : (states : List State) → (common_place (places states) ≡ spot.None) ⊎ (IsKnown (common_place (places states)) × AllByRecursion (λ (s : State). s.place ≡ common_place (places states)) states × (0 < length states))
common_known [] = inl refl
common_known (s ∷ states) = go (same_place s.place s.place && all_at_place s.place (places states)) refl
  where
    known : (p : Spot) → same_place p p ≡ true → IsKnown p
    known spot.Solo e = tt
    known (spot.Placed (Hash C)) e = tt
    known (spot.Placed (Modulus c)) e = tt
    known spot.Entire e = cc
    known spot.None e = cc

    go : (b : Bool) → (same_place s.place s.place && all_at_place s.place (places states)) ≡ b → (cond b s.place spot.None ≡ spot.None) ⊎ (IsKnown (cond b s.place spot.None) × AllByRecursion (λ (t : State). t.place ≡ cond b s.place spot.None) (s ∷ states) × (0 < length (s ∷ states)))
    go true e = let t = both_true (same_place s.place s.place) (all_at_place s.place (places states)) e in inr (known s.place t.0, (refl, at_common s.place states t.1), omega arith)
    go false e = inl refl

-- every row of the inputs lies at the common place
slice_placed : (p : Spot) (states : List State) (inputs : List (List (List Row))) (wholes : List (List Row)) (degree : ℕ) → IsKnown p → AllByRecursion NotEntire states → AllByRecursion (λ (s : State). s.place ≡ p) states → AllHold states inputs wholes → Lengths degree inputs → (i : ℕ) → AllByRecursion (AllByRecursion (λ r. row_place p degree r ≡ i)) (slice i inputs)
slice_placed p [] [] [] degree k n e h l i = tt
slice_placed p [] [] (w ∷ wholes) degree k n e h l i = absurd h
slice_placed p [] (parts ∷ inputs) wholes degree k n e h l i = absurd h
slice_placed p (s ∷ states) [] wholes degree k n e h l i = absurd h
slice_placed p (s ∷ states) (parts ∷ inputs) [] degree k n e h l i = absurd h
slice_placed p (s ∷ states) (parts ∷ inputs) (whole ∷ wholes) degree k n e h l i =
    let c = holds_plain s.place s parts whole n.0 h.0 in
    (subst (λ m. AllByRecursion (λ r. row_place p degree r ≡ m) (get_or parts i [])) (zero_is i) (part_at (row_place p degree) 0 i parts (row_placed p degree parts k l.0 (subst (λ q. LiesAt q parts) e.0 c.1))), slice_placed p states inputs wholes degree k n.1 e.1 h.1 l.1 i)
  where
    zero_is : (m : ℕ) → 0 + m ≡ m
    zero_is m = omega arith

all_joined : {X : Type 0} (P : X → Type 0) (lists : List (List X)) → AllByRecursion (AllByRecursion P) lists → AllByRecursion P (joined lists)
all_joined P [] h = tt
all_joined P (xs ∷ lists) h = all_append P xs (joined lists) h.0 (all_joined P lists h.1)

-- a solo place has one partition
solo_degree : (states : List State) (inputs : List (List (List Row))) (wholes : List (List Row)) (degree : ℕ) → AllByRecursion NotEntire states → AllByRecursion (λ (s : State). s.place ≡ spot.Solo) states → 0 < length states → AllHold states inputs wholes → Lengths degree inputs → degree ≡ 1
solo_degree [] inputs wholes degree n e some h l = absurd (omega arith)
solo_degree (s ∷ states) [] wholes degree n e some h l = absurd h
solo_degree (s ∷ states) (parts ∷ inputs) [] degree n e some h l = absurd h
solo_degree (s ∷ states) (parts ∷ inputs) (whole ∷ wholes) degree n e some h l = let c = holds_plain s.place s parts whole n.0 h.0 in sym l.0 ∙ subst (λ q. LiesAt q parts) e.0 c.1

-- partitions whose rows are those of the inputs lie at the common place
pub funnel_lies : (states : List State) (inputs : List (List (List Row))) (wholes : List (List Row)) (degree : ℕ) (outs : List (List Row)) → AllByRecursion NotEntire states → AllHold states inputs wholes → Lengths degree inputs → length outs ≡ degree →
    ((P : ℕ → Row → Type 0) → ((i : ℕ) → AllByRecursion (AllByRecursion (P i)) (slice i inputs)) → (i : ℕ) → AllByRecursion (P i) (get_or outs i [])) → LiesAt (common_place (places states)) outs × (common_place (places states) ≢ spot.Entire)
funnel_lies states inputs wholes degree outs n h l len from = go (common_known states)
  where
    p : Spot
    p = common_place (places states)

    placed_from : (d : Row → ℕ) (k : ℕ) (os : List (List Row)) → ((i : ℕ) → AllByRecursion (λ r. d r ≡ k + i) (get_or os i [])) → PlacedFrom d k os
    placed_from d k [] f = tt
    placed_from d k (o ∷ os) f = (subst (λ m. AllByRecursion (λ r. d r ≡ m) o) (add_none k) (f 0), placed_from d (suc k) os (λ i. subst (λ m. AllByRecursion (λ r. d r ≡ m) (get_or os i [])) (add_suc k i) (f (suc i))))
      where
        add_none : (a : ℕ) → a + 0 ≡ a
        add_none a = omega arith

        add_suc : (a b : ℕ) → a + suc b ≡ suc a + b
        add_suc a b = omega arith

    plain : (q : Spot) → IsKnown q → q ≢ spot.Entire
    plain spot.Solo k e = cc
    plain (spot.Placed (Hash C)) k e = cc
    plain (spot.Placed (Modulus c)) k e = cc
    plain spot.Entire k e = absurd k
    plain spot.None k e = absurd k

    go : ((p ≡ spot.None) ⊎ (IsKnown p × AllByRecursion (λ (s : State). s.place ≡ p) states × (0 < length states))) → LiesAt p outs × (p ≢ spot.Entire)
    go (inl e) = (subst (λ q. LiesAt q outs) (sym e) tt, λ f. let g : spot.None ≡ spot.Entire = sym e ∙ f in cc)
    go (inr (k, e, some)) = (
      row_lies p degree outs len (λ f. solo_degree states inputs wholes degree n (subst (λ q. AllByRecursion (λ (s : State). s.place ≡ q) states) f e) some h l)
          (placed_from (row_place p degree) 0 outs (λ i. subst (λ m. AllByRecursion (λ r. row_place p degree r ≡ m) (get_or outs i [])) (from_zero i) (from (λ m r. row_place p degree r ≡ m) (slice_placed p states inputs wholes degree k n e h l) i))),
      plain p k,
    )
      where
        from_zero : (m : ℕ) → m ≡ 0 + m
        from_zero m = omega arith

-- the funnel, which takes its inputs in any order
pub funnel_holds : (states : List State) (inputs : List (List (List Row))) (wholes : List (List Row)) (degree : ℕ) (sent : List (List Row)) → AllByRecursion NotEntire states → AllHold states inputs wholes → Lengths degree inputs → length sent ≡ degree → Funnelled 0 inputs sent →
    Holds (record { agree = None; place = common_place (places states); sort = [] }) sent (joined wholes)
funnel_holds states inputs wholes degree sent n h l len f =
    let lie = funnel_lies states inputs wholes degree sent n h l len (λ P g i. subst (λ m. AllByRecursion (P m) (get_or sent i [])) (zero_over i) (from P g 0 i sent f)) in
    plain_holds (common_place (places states)) (record { agree = None; place = common_place (places states); sort = [] }) sent (joined wholes) lie.1
    (record {
      bag = rows_permuted (joined sent) (joined wholes) (λ z. funnelled_counts (same_row z) inputs 0 sent f ∙ ap (λ k. count_by (same_row z) (joined (map (λ i. joined (slice i inputs)) (range_with_len 0 k)))) len ∙ count_inputs (same_row z) inputs wholes degree l (all_bags states inputs wholes n h));
      agree = tt;
      sorted = (all_any sent, any_sorted (joined wholes));
    }) lie.0
  where
    zero_over : (a : ℕ) → 0 + a ≡ a
    zero_over a = omega arith

    from : (P : ℕ → Row → Type 0) → ((i : ℕ) → AllByRecursion (AllByRecursion (P i)) (slice i inputs)) → (k i : ℕ) (ss : List (List Row)) → Funnelled k inputs ss → AllByRecursion (P (k + i)) (get_or ss i [])
    from P g k i [] t = tt
    from P g k zero (rows ∷ ss) t = subst (λ m. AllByRecursion (P m) rows) (none k) (interleaves_all (P k) (slice k inputs) rows (g k) t.0)
      where
        none : (a : ℕ) → a ≡ a + 0
        none a = omega arith
    from P g k (suc i) (rows ∷ ss) t = subst (λ m. AllByRecursion (P m) (get_or ss i [])) (over k i) (from P g (suc k) i ss t.1)
      where
        over : (a b : ℕ) → suc a + b ≡ a + suc b
        over a b = omega arith

-- one funnel after another: the inputs in order
num_vals : Spot → ℕ → List Value → ℕ
num_vals spot.Solo n v = 0
num_vals (spot.Placed (Hash C)) n v = hash_number n v
num_vals (spot.Placed (Modulus c)) n v = modulus_number n v
num_vals spot.Entire n v = 0
num_vals spot.None n v = 0

row_place_num : (p : Spot) (n : ℕ) (r : Row) → row_place p n r ≡ num_vals p n (val (place_cols p) r)
unfolding num_vals
row_place_num spot.Solo n r = refl
row_place_num (spot.Placed (Hash C)) n r = refl
row_place_num (spot.Placed (Modulus c)) n r = refl
row_place_num spot.Entire n r = refl
row_place_num spot.None n r = refl

num_vals_below : (p : Spot) (n : ℕ) (v : List Value) → 0 < n → num_vals p n v < n
unfolding num_vals
num_vals_below spot.Solo n v l = l
num_vals_below (spot.Placed (Hash C)) n v l = Rattle.std.proofs.Common.mod-lt _ l
num_vals_below (spot.Placed (Modulus c)) n v l = modulus_below n v l
num_vals_below spot.Entire n v l = l
num_vals_below spot.None n v l = l

is_in_left : (c : ℕ) (A B : List ℕ) → IsIn c A → IsIn c (A ++ B)
is_in_left c [] B i = absurd i
is_in_left c (a ∷ A) B (inl e) = inl e
is_in_left c (a ∷ A) B (inr i) = inr (is_in_left c A B i)

is_in_right : (c : ℕ) (A B : List ℕ) → IsIn c B → IsIn c (A ++ B)
is_in_right c [] B i = i
is_in_right c (a ∷ A) B i = inr (is_in_right c A B i)

lies_left : (G A B : List ℕ) → Lies G A → Lies G (A ++ B)
lies_left G A B l = all_map (λ c. IsIn c A) (λ c. IsIn c (A ++ B)) (λ c i. is_in_left c A B i) G l

lies_right : (G A B : List ℕ) → Lies G B → Lies G (A ++ B)
lies_right G A B l = all_map (λ c. IsIn c B) (λ c. IsIn c (A ++ B)) (λ c i. is_in_right c A B i) G l

abbrev AgreesWithin : List ℕ → State → Type 0
AgreesWithin U s = (G : List ℕ) × (s.agree ≡ Some G) × Lies G U

agree_sets_each : (states : List State) (U : List ℕ) → agree_sets states ≡ Some U → AllByRecursion (AgreesWithin U) states
agree_sets_each [] U e = tt
agree_sets_each (s ∷ states) U e = go s.agree refl (agree_sets states) refl e (λ V f. agree_sets_each states V f)
  where
    go : (a : Option (List ℕ)) → s.agree ≡ a → (b : Option (List ℕ)) → agree_sets states ≡ b → both_sets a b ≡ Some U → ((V : List ℕ) → agree_sets states ≡ Some V → AllByRecursion (AgreesWithin V) states) → AllByRecursion (AgreesWithin U) (s ∷ states)
    go None f b g h rec = cc
    go (Some G) f None g h rec = cc
    go (Some G) f (Some V) g h rec =
        let shape : G ++ V ≡ U = cc in
        subst (λ W. AllByRecursion (AgreesWithin W) (s ∷ states)) shape
        ((G, f, lies_left G G V (lies_self G)), all_map (AgreesWithin V) (AgreesWithin (G ++ V)) (λ t a. (a.0, a.1, lies_right (a.0) G V a.2)) states (rec V g))

agree_lists : (W : List ℕ) (s : State) (parts : List (List Row)) (whole : List Row) → AgreesWithin W s → AgreeIf s.agree parts whole → Agree W parts whole
agree_lists W s parts whole a h = agree_finer (a.0) W parts whole a.2 (subst (λ o. AgreeIf o parts whole) a.1 h)

-- the rows of a class of W, which decides the place, on the partition where it lies
class_there : (p : Spot) (W : List ℕ) (v : List Value) (j degree : ℕ) → j < degree → ((r : Row) → has W v r ≡ true → row_place p degree r ≡ j) → IsKnown p → (states : List State) (inputs : List (List (List Row))) (wholes : List (List Row)) →
    AllByRecursion NotEntire states → AllByRecursion (λ (s : State). s.place ≡ p) states → AllByRecursion (AgreesWithin W) states → AllHold states inputs wholes → Lengths degree inputs → map (sub W v) (slice j inputs) ≡ map (sub W v) wholes
class_there p W v j degree m to k [] [] [] n e a h l = refl
class_there p W v j degree m to k [] [] (w ∷ wholes) n e a h l = absurd h
class_there p W v j degree m to k [] (parts ∷ inputs) wholes n e a h l = absurd h
class_there p W v j degree m to k (s ∷ states) [] wholes n e a h l = absurd h
class_there p W v j degree m to k (s ∷ states) (parts ∷ inputs) [] n e a h l = absurd h
class_there p W v j degree m to k (s ∷ states) (parts ∷ inputs) (whole ∷ wholes) n e a h l =
    let c = holds_plain s.place s parts whole n.0 h.0 in
    let le = l.0 in
    ap₂ (λ x y. x ∷ y) (one_at (row_place p degree) (has W v) j to 0 j parts whole (omega arith) (omega arith) (row_placed p degree parts k l.0 (subst (λ q. LiesAt q parts) e.0 c.1)) (agree_lists W s parts whole a.0 c.0.agree v))
    (class_there p W v j degree m to k states inputs wholes n.1 e.1 a.1 h.1 l.1)

class_elsewhere : (p : Spot) (W : List ℕ) (v : List Value) (j degree i : ℕ) → (i ≡ j → ⊥) → ((r : Row) → has W v r ≡ true → row_place p degree r ≡ j) → IsKnown p → (states : List State) (inputs : List (List (List Row))) (wholes : List (List Row)) →
    AllByRecursion NotEntire states → AllByRecursion (λ (s : State). s.place ≡ p) states → AllHold states inputs wholes → Lengths degree inputs → joined (map (sub W v) (slice i inputs)) ≡ []
class_elsewhere p W v j degree i d to k [] [] [] n e h l = refl
class_elsewhere p W v j degree i d to k [] [] (w ∷ wholes) n e h l = absurd h
class_elsewhere p W v j degree i d to k [] (parts ∷ inputs) wholes n e h l = absurd h
class_elsewhere p W v j degree i d to k (s ∷ states) [] wholes n e h l = absurd h
class_elsewhere p W v j degree i d to k (s ∷ states) (parts ∷ inputs) [] n e h l = absurd h
class_elsewhere p W v j degree i d to k (s ∷ states) (parts ∷ inputs) (whole ∷ wholes) n e h l =
    let c = holds_plain s.place s parts whole n.0 h.0 in
    ap₂ (λ x y. x ++ y) (part_none (row_place p degree) (has W v) j to i parts d (row_placed p degree parts k l.0 (subst (λ q. LiesAt q parts) e.0 c.1)))
    (class_elsewhere p W v j degree i d to k states inputs wholes n.1 e.1 h.1 l.1)

abbrev pub side_by_side : ℕ → List (List (List Row)) → List (List Row)
side_by_side degree inputs = map (λ i. joined (slice i inputs)) (range_with_len 0 degree)

sequence_agree_in : (p : Spot) (U K : List ℕ) (states : List State) (inputs : List (List (List Row))) (wholes : List (List Row)) (degree : ℕ) → 0 < degree → IsKnown p → AllByRecursion NotEntire states → AllByRecursion (λ (s : State). s.place ≡ p) states → AllByRecursion (AgreesWithin U) states → AllHold states inputs wholes → Lengths degree inputs →
    Agree (U ++ (place_cols p ++ K)) (side_by_side degree inputs) (joined wholes)
sequence_agree_in p U K states inputs wholes degree some k n e a h l v =
    subst (λ ls. OneHolds ls (sub W v (joined wholes))) (sym (map_two (λ i. joined (slice i inputs)) (sub W v) (range_with_len 0 degree)))
    (one_in_range (λ i. sub W v (joined (slice i inputs))) (sub W v (joined wholes)) 0 degree j (omega arith) (let b = below in omega arith)
    (filter_joined (has W v) (slice j inputs) ∙ ap joined (class_there p W v j degree below to k states inputs wholes n e within h l) ∙ sym (filter_joined (has W v) wholes))
    (λ i d m. filter_joined (has W v) (slice i inputs) ∙ class_elsewhere p W v j degree i d to k states inputs wholes n e h l))
  where
    C : List ℕ
    C = place_cols p

    W : List ℕ
    W = U ++ (C ++ K)

    j : ℕ
    j = num_vals p degree (Rattle.std.proofs.Common.take (length C) (Rattle.std.proofs.Common.drop (length U) v))

    below : j < degree
    below = num_vals_below p degree (Rattle.std.proofs.Common.take (length C) (Rattle.std.proofs.Common.drop (length U) v)) some

    within : AllByRecursion (AgreesWithin W) states
    within = all_map (AgreesWithin U) (AgreesWithin W) (λ s b. (b.0, b.1, lies_left (b.0) U (C ++ K) b.2)) states a

    part : (r : Row) → has W v r ≡ true → Rattle.std.proofs.Common.take (length C) (Rattle.std.proofs.Common.drop (length U) v) ≡ val C r
    part r t =
        ap (λ w. Rattle.std.proofs.Common.take (length C) (Rattle.std.proofs.Common.drop (length U) w)) (sym (has_val W v r t) ∙ val-append U (C ++ K) r)
        ∙ ap (Rattle.std.proofs.Common.take (length C)) (Rattle.std.proofs.lemmas.List.drop_at (val U r) (val (C ++ K) r) (length U) (length-val U r) ∙ val-append C K r)
        ∙ Rattle.std.proofs.lemmas.List.take_at (val C r) (val K r) (length C) (length-val C r)

    to : (r : Row) → has W v r ≡ true → row_place p degree r ≡ j
    to r t = row_place_num p degree r ∙ ap (num_vals p degree) (sym (part r t))

sequence_agree_if : (K : List ℕ) (states : List State) (inputs : List (List (List Row))) (wholes : List (List Row)) (degree : ℕ) → 0 < degree → AllByRecursion NotEntire states → AllHold states inputs wholes → Lengths degree inputs →
    AgreeIf (if_common (common_place (places states)) (agree_sets states) K) (side_by_side degree inputs) (joined wholes)
sequence_agree_if K states inputs wholes degree some n h l = go (common_known states)
  where
    outs : List (List Row)
    outs = side_by_side degree inputs

    p : Spot
    p = common_place (places states)

    common_more : (q : Spot) → IsKnown q → (a : Option (List ℕ)) → AgreeIf (more a (place_cols q ++ K)) outs (joined wholes) → AgreeIf (if_common q a K) outs (joined wholes)
    common_more spot.Solo k a x = x
    common_more (spot.Placed (Hash C)) k a x = x
    common_more (spot.Placed (Modulus c)) k a x = x
    common_more spot.Entire k a x = tt
    common_more spot.None k a x = tt

    go : ((p ≡ spot.None) ⊎ (IsKnown p × AllByRecursion (λ (s : State). s.place ≡ p) states × (0 < length states))) → AgreeIf (if_common p (agree_sets states) K) outs (joined wholes)
    go (inl e) = subst (λ q. AgreeIf (if_common q (agree_sets states) K) outs (joined wholes)) (sym e) tt
    go (inr (k, e, has_some)) = common_more p k (agree_sets states) (sets (agree_sets states) refl)
      where
        sets : (a : Option (List ℕ)) → agree_sets states ≡ a → AgreeIf (more a (place_cols p ++ K)) outs (joined wholes)
        sets None f = tt
        sets (Some U) f = sequence_agree_in p U K states inputs wholes degree some k n e (agree_sets_each states U f) h l

part_of : (f : List Row → List Row) → ((P : Row → Type 0) (rows : List Row) → AllByRecursion P rows → AllByRecursion P (f rows)) → (inputs : List (List (List Row))) (degree : ℕ) →
    (P : ℕ → Row → Type 0) → ((i : ℕ) → AllByRecursion (AllByRecursion (P i)) (slice i inputs)) → (i : ℕ) → AllByRecursion (P i) (get_or (map (λ k. f (joined (slice k inputs))) (range_with_len 0 degree)) i [])
part_of f keeps inputs degree P g i = subst (λ m. AllByRecursion (P m) (get_or (map (λ k. f (joined (slice k inputs))) (range_with_len 0 degree)) i [])) (from_none i) (go 0 degree i)
  where
    from_none : (a : ℕ) → 0 + a ≡ a
    from_none a = omega arith

    none : (a : ℕ) → a ≡ a + 0
    none a = omega arith

    over : (a b : ℕ) → (a + 1) + b ≡ a + suc b
    over a b = omega arith

    go : (n k m : ℕ) → AllByRecursion (P (n + m)) (get_or (map (λ q. f (joined (slice q inputs))) (range_with_len n k)) m [])
    go n zero m = tt
    go n (suc k) zero = subst (λ a. AllByRecursion (P a) (f (joined (slice n inputs)))) (none n) (keeps (P n) (joined (slice n inputs)) (all_joined (P n) (slice n inputs) (g n)))
    go n (suc k) (suc m) = subst (λ a. AllByRecursion (P a) (get_or (map (λ q. f (joined (slice q inputs))) (range_with_len (n + 1) k)) m [])) (over n m) (go (n + 1) k m)

pub sequence_holds : (states : List State) (inputs : List (List (List Row))) (wholes : List (List Row)) (degree : ℕ) → 0 < degree → AllByRecursion NotEntire states → AllHold states inputs wholes → Lengths degree inputs →
    Holds (record { agree = if_common (common_place (places states)) (agree_sets states) []; place = common_place (places states); sort = [] }) (side_by_side degree inputs) (joined wholes)
sequence_holds states inputs wholes degree some n h l =
    let lie = funnel_lies states inputs wholes degree (side_by_side degree inputs) n h l (length-range (λ i. joined (slice i inputs)) 0 degree) (part_of (λ rows. rows) (λ P rows a. a) inputs degree) in
    plain_holds (common_place (places states)) (record { agree = if_common (common_place (places states)) (agree_sets states) []; place = common_place (places states); sort = [] }) (side_by_side degree inputs) (joined wholes) lie.1
    (record { bag = funnel_bag states inputs wholes degree n h l; agree = sequence_agree_if [] states inputs wholes degree some n h l; sorted = (all_any (side_by_side degree inputs), any_sorted (joined wholes)) }) lie.0

pub sort_funnel_holds : (keys : List Key) (states : List State) (inputs : List (List (List Row))) (wholes : List (List Row)) (degree : ℕ) → 0 < degree → AllByRecursion NotEntire states → AllHold states inputs wholes → Lengths degree inputs →
    Holds (record { agree = if_common (common_place (places states)) (agree_sets states) (cols keys); place = common_place (places states); sort = keys }) (map (λ i. arranged keys (joined (slice i inputs))) (range_with_len 0 degree)) (arranged keys (joined wholes))
sort_funnel_holds keys states inputs wholes degree some n h l =
    let outs = map (λ i. arranged keys (joined (slice i inputs))) (range_with_len 0 degree) in
    let both : map (arranged keys) (side_by_side degree inputs) ≡ outs = map_two (λ i. joined (slice i inputs)) (arranged keys) (range_with_len 0 degree) in
    let lie = funnel_lies states inputs wholes degree outs n h l (length-range (λ i. arranged keys (joined (slice i inputs))) 0 degree) (part_of (arranged keys) (by_key_all keys (λ same. same) (λ P xs a. a)) inputs degree) in
    plain_holds (common_place (places states)) (record { agree = if_common (common_place (places states)) (agree_sets states) (cols keys); place = common_place (places states); sort = keys }) outs (arranged keys (joined wholes)) lie.1
    (record {
      bag = subst (λ ps. Bag ps (arranged keys (joined wholes))) both (sort_bag keys (side_by_side degree inputs) (joined wholes) (funnel_bag states inputs wholes degree n h l));
      agree = subst (λ ps. AgreeIf (if_common (common_place (places states)) (agree_sets states) (cols keys)) ps (arranged keys (joined wholes))) both (sort_agree_if keys (if_common (common_place (places states)) (agree_sets states) (cols keys)) (side_by_side degree inputs) (joined wholes) (sequence_agree_if (cols keys) states inputs wholes degree some n h l));
      sorted = (each_range (IsArranged (row_cmp keys)) (λ i. arranged keys (joined (slice i inputs))) (λ i. sort_arranged keys (joined (slice i inputs))) 0 degree, sort_arranged keys (joined wholes));
    }) lie.0
