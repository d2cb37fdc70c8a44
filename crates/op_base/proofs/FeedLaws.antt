-- On lists in the order of the keys, what is done run by run is what is meant.
use Rattle.std.proofs.Common.{Bool, List, ap, append-nil, ap₂, arith, cond, false, filter, flat_map, inl, inr, length, map, refl, subst, suc, sym, true, true≢false, zero, ℕ, ◌≡◌, ◌<◌, ◌≤◌, ◌⊎◌, ◌∷◌, ◌++◌, ◌∙◌, []}
use Rattle.std.proofs.lemmas.Cmp.{tied_itself}
use Rattle.std.proofs.lemmas.List.Elements.{filter-append, filter_agree}
use Rattle.std.proofs.lemmas.List.Sorted.{ranks_by}
use Rattle.std.specs.List.{AllByRecursion}
use Rattle.std.specs.Ordering.{is_lt, ordering_reverse}
use Rattle.std.specs.declared.cmp.Ordering.{Ordering}
use Rattle.std.specs.declared.cmp.Ordering.TheVariants.{Equal, Greater, Less}
use Rattle.ds_schema.specs.Rows.{has, sub, val, vals_cmp}
use Rattle.ds_value.specs.declared.value.Value.{Value}
use Rattle.op_base.specs.Columns.{Row}
use Rattle.op_base.specs.Feeds.{AreSorted, behind, behinds, by_runs, front, fronts, head_in, heads_in, least_of, rows_in, run_by_run, taken_off}
use Rattle.op_base.specs.Keyed.{for_values, keys_in, same_vals, subs}
use Rattle.op_base.specs.Lists.{IsArranged, firsts}
use Rattle.op_base.proofs.All.{all_append, all_firsts, all_map, flat_agree_all}
use Rattle.op_base.proofs.Arranged.{same_arranged, tie}
use Rattle.op_base.proofs.KeyValues.{passed_all, rank_of, same_vals_itself, same_vals_true}
use Rattle.op_base.proofs.Orders.{has_val, val_has, vals_exact, vals_total}
use Rattle.op_base.proofs.Ranks.{filter_all, filter_none, firsts_ascend, firsts_filter}
use Rattle.op_base.proofs.SortedInputs.{ascends_arranged, keys_of_subs, tie_is_same}

front_behind : (cs : List ℕ) (k : List Value) (rows : List Row) → rows ≡ front cs k rows ++ behind cs k rows
front_behind cs k [] = refl
front_behind cs k (r ∷ rows) = go (has cs k r) (front_behind cs k rows)
  where
    go : (b : Bool) → rows ≡ front cs k rows ++ behind cs k rows → r ∷ rows ≡ cond b (r ∷ front cs k rows) [] ++ cond b (behind cs k rows) (r ∷ rows)
    go true e = ap (λ xs. r ∷ xs) e
    go false e = refl

front_all : (cs : List ℕ) (k : List Value) (rows : List Row) → AllByRecursion (λ r. has cs k r ≡ true) (front cs k rows)
front_all cs k [] = tt
front_all cs k (r ∷ rows) = go (has cs k r) refl (front_all cs k rows)
  where
    go : (b : Bool) → has cs k r ≡ b → AllByRecursion (λ s. has cs k s ≡ true) (front cs k rows) → AllByRecursion (λ s. has cs k s ≡ true) (cond b (r ∷ front cs k rows) [])
    go true e h = (e, h)
    go false e h = tt

-- not below k, and not k
above : (ds : List Bool) (cs : List ℕ) (k : List Value) (r : Row) → has cs k r ≡ false → is_lt (vals_cmp ds (val cs r) k) ≡ false → vals_cmp ds k (val cs r) ≡ Less
above ds cs k r e h = go (vals_cmp ds (val cs r) k) refl
  where
    go : (c : Ordering) → vals_cmp ds (val cs r) k ≡ c → vals_cmp ds k (val cs r) ≡ Less
    go Less f = absurd (true≢false (ap is_lt (sym f) ∙ h))
    go Equal f = absurd (true≢false (sym (val_has cs k r (vals_exact ds (val cs r) k f)) ∙ e))
    go Greater f = (vals_total ds).antisymm k (val cs r) ∙ ap ordering_reverse f

-- what is behind the run of k in a list that begins with nothing below k
behind_above : (ds : List Bool) (cs : List ℕ) (k : List Value) (rows : List Row) → IsArranged (λ x y. vals_cmp ds (val cs x) (val cs y)) rows → AllByRecursion (λ v. is_lt (vals_cmp ds v k) ≡ false) (head_in cs rows) →
    AllByRecursion (λ r. vals_cmp ds k (val cs r) ≡ Less) (behind cs k rows) × IsArranged (λ x y. vals_cmp ds (val cs x) (val cs y)) (behind cs k rows)
behind_above ds cs k [] up h = (tt, tt)
behind_above ds cs k (r ∷ rows) up h = go (has cs k r) refl (behind_above ds cs k rows up.1)
  where
    R : Row → Row → Ordering
    R x y = vals_cmp ds (val cs x) (val cs y)

    next : (e : has cs k r ≡ true) (ys : List Row) → AllByRecursion (λ y. is_lt (vals_cmp ds (val cs y) (val cs r)) ≡ false) ys → AllByRecursion (λ v. is_lt (vals_cmp ds v k) ≡ false) (head_in cs ys)
    next e [] a = tt
    next e (y ∷ ys) a = (ap (λ w. is_lt (vals_cmp ds (val cs y) w)) (sym (has_val cs k r e)) ∙ a.0, tt)

    all_above : (l : vals_cmp ds k (val cs r) ≡ Less) (ys : List Row) → AllByRecursion (λ y. is_lt (vals_cmp ds (val cs y) (val cs r)) ≡ false) ys → AllByRecursion (λ y. vals_cmp ds k (val cs y) ≡ Less) ys
    all_above l [] a = tt
    all_above l (y ∷ ys) a = (step (vals_cmp ds (val cs r) (val cs y)) refl, all_above l ys a.1)
      where
        step : (c : Ordering) → vals_cmp ds (val cs r) (val cs y) ≡ c → vals_cmp ds k (val cs y) ≡ Less
        step Less f = (vals_total ds).trans k (val cs r) (val cs y) l f
        step Equal f = ap (vals_cmp ds k) (sym (vals_exact ds (val cs r) (val cs y) f)) ∙ l
        step Greater f = absurd (true≢false (ap is_lt (sym ((vals_total ds).antisymm (val cs y) (val cs r) ∙ ap ordering_reverse f)) ∙ a.0))

    go : (b : Bool) → has cs k r ≡ b → (AllByRecursion (λ v. is_lt (vals_cmp ds v k) ≡ false) (head_in cs rows) → AllByRecursion (λ s. vals_cmp ds k (val cs s) ≡ Less) (behind cs k rows) × IsArranged (λ x y. vals_cmp ds (val cs x) (val cs y)) (behind cs k rows)) →
        AllByRecursion (λ s. vals_cmp ds k (val cs s) ≡ Less) (cond b (behind cs k rows) (r ∷ rows)) × IsArranged (λ x y. vals_cmp ds (val cs x) (val cs y)) (cond b (behind cs k rows) (r ∷ rows))
    go true e rec = rec (next e rows up.0)
    go false e rec = let l = above ds cs k r e h.0 in ((l, all_above l rows up.0), up)

not_there : (ds : List Bool) (cs : List ℕ) (k : List Value) (rows : List Row) → AllByRecursion (λ r. vals_cmp ds k (val cs r) ≡ Less) rows → AllByRecursion (λ r. has cs k r ≡ false) rows
not_there ds cs k rows h = all_map (λ r. vals_cmp ds k (val cs r) ≡ Less) (λ r. has cs k r ≡ false) (λ r l. go r l (has cs k r) refl) rows h
  where
    go : (r : Row) → vals_cmp ds k (val cs r) ≡ Less → (b : Bool) → has cs k r ≡ b → b ≡ false
    go r l true e = let f : vals_cmp ds k k ≡ Less = ap (vals_cmp ds k) (sym (has_val cs k r e)) ∙ l in let g : Equal ≡ Less = sym (tied_itself (vals_total ds) k) ∙ f in cc
    go r l false e = refl

-- the front is the rows of k
front_is : (ds : List Bool) (cs : List ℕ) (k : List Value) (rows : List Row) → AllByRecursion (λ r. vals_cmp ds k (val cs r) ≡ Less) (behind cs k rows) → front cs k rows ≡ sub cs k rows
front_is ds cs k rows h =
    sym (append-nil (front cs k rows)) ∙ sym (ap₂ (λ a b. a ++ b) (filter_all (has cs k) (front cs k rows) (front_all cs k rows)) (filter_none (has cs k) (behind cs k rows) (not_there ds cs k (behind cs k rows) h)))
    ∙ sym (filter-append (has cs k) (front cs k rows) (behind cs k rows)) ∙ ap (sub cs k) (sym (front_behind cs k rows))

-- the rows of any other value are behind
behind_sub : (cs : List ℕ) (k u : List Value) (rows : List Row) → (u ≡ k → ⊥) → sub cs u (behind cs k rows) ≡ sub cs u rows
behind_sub cs k u rows n =
    ap₂ (λ a b. a ++ b) (sym (filter_none (has cs u) (front cs k rows) (all_map (λ r. has cs k r ≡ true) (λ r. has cs u r ≡ false) (λ r e. go r e (has cs u r) refl) (front cs k rows) (front_all cs k rows)))) refl
    ∙ sym (filter-append (has cs u) (front cs k rows) (behind cs k rows)) ∙ ap (sub cs u) (sym (front_behind cs k rows))
  where
    go : (r : Row) → has cs k r ≡ true → (b : Bool) → has cs u r ≡ b → b ≡ false
    go r e true f = absurd (n (sym (has_val cs u r f) ∙ has_val cs k r e))
    go r e false f = refl

-- of all inputs
NotBelow : List Bool → List Value → List (List Value) → Type 0
NotBelow ds k vs = AllByRecursion (λ v. is_lt (vals_cmp ds v k) ≡ false) vs

all_left : {X : Type 0} (P : X → Type 0) (xs ys : List X) → AllByRecursion P (xs ++ ys) → AllByRecursion P xs
all_left P [] ys h = tt
all_left P (x ∷ xs) ys h = (h.0, all_left P xs ys h.1)

all_right : {X : Type 0} (P : X → Type 0) (xs ys : List X) → AllByRecursion P (xs ++ ys) → AllByRecursion P ys
all_right P [] ys h = h
all_right P (x ∷ xs) ys h = all_right P xs ys h.1

fronts_are : (ds : List Bool) (columns : List (List ℕ)) (k : List Value) (inputs : List (List Row)) → AreSorted ds columns inputs → AllByRecursion (λ v. is_lt (vals_cmp ds v k) ≡ false) (heads_in columns inputs) → fronts columns k inputs ≡ subs columns k inputs
fronts_are ds [] k inputs up h = refl
fronts_are ds (cs ∷ columns) k [] up h = refl
fronts_are ds (cs ∷ columns) k (rows ∷ inputs) up h =
    let P = λ (v : List Value). is_lt (vals_cmp ds v k) ≡ false in
    ap₂ (λ a b. a ∷ b) (front_is ds cs k rows (behind_above ds cs k rows up.0 (all_left P (head_in cs rows) (heads_in columns inputs) h)).0) (fronts_are ds columns k inputs up.1 (all_right P (head_in cs rows) (heads_in columns inputs) h))

behinds_up : (ds : List Bool) (columns : List (List ℕ)) (k : List Value) (inputs : List (List Row)) → AreSorted ds columns inputs → AllByRecursion (λ v. is_lt (vals_cmp ds v k) ≡ false) (heads_in columns inputs) → AreSorted ds columns (behinds columns k inputs) × AllByRecursion (λ v. vals_cmp ds k v ≡ Less) (keys_in columns (behinds columns k inputs))
behinds_up ds [] k inputs up h = (tt, tt)
behinds_up ds (cs ∷ columns) k [] up h = (tt, tt)
behinds_up ds (cs ∷ columns) k (rows ∷ inputs) up h =
    let P = λ (v : List Value). is_lt (vals_cmp ds v k) ≡ false in
    let a = behind_above ds cs k rows up.0 (all_left P (head_in cs rows) (heads_in columns inputs) h) in
    let b = behinds_up ds columns k inputs up.1 (all_right P (head_in cs rows) (heads_in columns inputs) h) in
    ((a.1, b.0), all_append (λ v. vals_cmp ds k v ≡ Less) (map (val cs) (behind cs k rows)) (keys_in columns (behinds columns k inputs)) (values (behind cs k rows) a.0) b.1)
  where
    values : (rs : List Row) → AllByRecursion (λ r. vals_cmp ds k (val cs r) ≡ Less) rs → AllByRecursion (λ v. vals_cmp ds k v ≡ Less) (map (val cs) rs)
    values [] a = tt
    values (r ∷ rs) a = (a.0, values rs a.1)

behinds_subs : (columns : List (List ℕ)) (k u : List Value) (inputs : List (List Row)) → (u ≡ k → ⊥) → subs columns u (behinds columns k inputs) ≡ subs columns u inputs
behinds_subs [] k u inputs n = refl
behinds_subs (cs ∷ columns) k u [] n = refl
behinds_subs (cs ∷ columns) k u (rows ∷ inputs) n = ap₂ (λ a b. a ∷ b) (behind_sub cs k u rows n) (behinds_subs columns k u inputs n)

-- the least is among them, and none is below it
abbrev pub Among : List Value → List (List Value) → Type 0
Among k [] = ⊥
Among k (u ∷ us) = (k ≡ u) ⊎ Among k us

pub least_among : (ds : List Bool) (v : List Value) (vs : List (List Value)) → Among (least_of ds v vs) (v ∷ vs)
least_among ds v [] = inl refl
least_among ds v (u ∷ us) = go (is_lt (vals_cmp ds u v)) (least_among ds v us) (least_among ds u us)
  where
    go : (b : Bool) → ((least_of ds v us ≡ v) ⊎ Among (least_of ds v us) us) → ((least_of ds u us ≡ u) ⊎ Among (least_of ds u us) us) → (least_of ds (cond b u v) us ≡ v) ⊎ ((least_of ds (cond b u v) us ≡ u) ⊎ Among (least_of ds (cond b u v) us) us)
    go true a b = inr b
    go false (inl e) b = inl e
    go false (inr i) b = inr (inr i)

not_below_chain : (ds : List Bool) (a b c : List Value) → is_lt (vals_cmp ds b a) ≡ false → is_lt (vals_cmp ds c b) ≡ false → is_lt (vals_cmp ds c a) ≡ false
not_below_chain ds a b c h k = (ranks_by (vals_total ds) (λ (u : List Value). u)).chain c b a k h

least_below : (ds : List Bool) (v : List Value) (vs : List (List Value)) → AllByRecursion (λ u. is_lt (vals_cmp ds u (least_of ds v vs)) ≡ false) (v ∷ vs)
least_below ds v [] = (ap is_lt (tied_itself (vals_total ds) v), tt)
least_below ds v (u ∷ us) = go (is_lt (vals_cmp ds u v)) refl (least_below ds v us) (least_below ds u us)
  where
    back : is_lt (vals_cmp ds u v) ≡ true → is_lt (vals_cmp ds v u) ≡ false
    back e = step (vals_cmp ds u v) refl e
      where
        step : (c : Ordering) → vals_cmp ds u v ≡ c → is_lt c ≡ true → is_lt (vals_cmp ds v u) ≡ false
        step Less f g = ap is_lt ((vals_total ds).antisymm v u ∙ ap ordering_reverse f)
        step Equal f g = cc
        step Greater f g = cc

    go : (b : Bool) → is_lt (vals_cmp ds u v) ≡ b → AllByRecursion (λ w. is_lt (vals_cmp ds w (least_of ds v us)) ≡ false) (v ∷ us) → AllByRecursion (λ w. is_lt (vals_cmp ds w (least_of ds u us)) ≡ false) (u ∷ us) → AllByRecursion (λ w. is_lt (vals_cmp ds w (least_of ds (cond b u v) us)) ≡ false) (v ∷ (u ∷ us))
    go true e a b = (not_below_chain ds (least_of ds u us) u v b.0 (back e), b)
    go false e a b = (a.0, (not_below_chain ds (least_of ds v us) v u a.0 e, a.1))

pub behind_short : (cs : List ℕ) (k : List Value) (rows : List Row) → length (behind cs k rows) ≤ length rows
behind_short cs k [] = omega arith
behind_short cs k (r ∷ rows) = go (has cs k r) (behind_short cs k rows)
  where
    go : (b : Bool) → length (behind cs k rows) ≤ length rows → length (cond b (behind cs k rows) (r ∷ rows)) ≤ length (r ∷ rows)
    go true h = omega arith
    go false h = omega arith

behinds_short : (columns : List (List ℕ)) (k : List Value) (inputs : List (List Row)) → rows_in columns (behinds columns k inputs) ≤ rows_in columns inputs
behinds_short [] k inputs = omega arith
behinds_short (cs ∷ columns) k [] = omega arith
behinds_short (cs ∷ columns) k (rows ∷ inputs) = let a = behind_short cs k rows in let b = behinds_short columns k inputs in omega (arith, a, b)

-- a round takes a row
pub fewer : (columns : List (List ℕ)) (k : List Value) (inputs : List (List Row)) → Among k (heads_in columns inputs) → rows_in columns (behinds columns k inputs) < rows_in columns inputs
fewer [] k inputs h = absurd h
fewer (cs ∷ columns) k [] h = absurd h
fewer (cs ∷ columns) k ([] ∷ inputs) h = let a = fewer columns k inputs h in omega (arith, a)
fewer (cs ∷ columns) k ((r ∷ rows) ∷ inputs) (inl e) =
    let t : has cs k r ≡ true = val_has cs k r (sym e) in
    let s : length (behind cs k (r ∷ rows)) ≡ length (behind cs k rows) = ap (λ b. length (cond b (behind cs k rows) (r ∷ rows))) t in
    let a = behind_short cs k rows in
    let b = behinds_short columns k inputs in
    omega (arith, a, b, s)
fewer (cs ∷ columns) k ((r ∷ rows) ∷ inputs) (inr i) = let a = behind_short cs k (r ∷ rows) in let b = fewer columns k inputs i in omega (arith, a, b)

-- the values that there are: the least, and those behind
some_key : (columns : List (List ℕ)) (k : List Value) (inputs : List (List Row)) → Among k (heads_in columns inputs) → filter (same_vals k) (keys_in columns inputs) ≡ [] → ⊥
some_key [] k inputs h e = absurd h
some_key (cs ∷ columns) k [] h e = absurd h
some_key (cs ∷ columns) k ([] ∷ inputs) h e = some_key columns k inputs h e
some_key (cs ∷ columns) k ((r ∷ rows) ∷ inputs) (inl f) e =
    let g : filter (same_vals k) (val cs r ∷ (map (val cs) rows ++ keys_in columns inputs)) ≡ val cs r ∷ filter (same_vals k) (map (val cs) rows ++ keys_in columns inputs) = ap (λ b. cond b (val cs r ∷ filter (same_vals k) (map (val cs) rows ++ keys_in columns inputs)) (filter (same_vals k) (map (val cs) rows ++ keys_in columns inputs))) (ap (same_vals k) (sym f) ∙ same_vals_itself k) in
    let h : val cs r ∷ filter (same_vals k) (map (val cs) rows ++ keys_in columns inputs) ≡ [] = sym g ∙ e in cc
some_key (cs ∷ columns) k ((r ∷ rows) ∷ inputs) (inr i) e =
    some_key columns k inputs i (right (filter (same_vals k) (map (val cs) (r ∷ rows))) (filter (same_vals k) (keys_in columns inputs)) (sym (filter-append (same_vals k) (map (val cs) (r ∷ rows)) (keys_in columns inputs)) ∙ e))
  where
    right : (xs ys : List (List Value)) → xs ++ ys ≡ [] → ys ≡ []
    right [] ys q = q
    right (x ∷ xs) ys q = cc

firsts_split : (ds : List Bool) (columns : List (List ℕ)) (k : List Value) (inputs : List (List Row)) → AreSorted ds columns inputs → AllByRecursion (λ v. is_lt (vals_cmp ds v k) ≡ false) (heads_in columns inputs) → Among k (heads_in columns inputs) →
    firsts (vals_cmp ds) (keys_in columns inputs) ≡ k ∷ firsts (vals_cmp ds) (keys_in columns (behinds columns k inputs))
firsts_split ds columns k inputs up h among =
    same_arranged (vals_total ds) (firsts R qs) (k ∷ firsts R bs) (ascends_arranged (vals_total ds) (firsts R qs) (firsts_ascend (vals_total ds) qs)) (ascends_arranged (vals_total ds) (k ∷ firsts R bs) (all_firsts (λ v. R k v ≡ Less) R bs above_all, firsts_ascend (vals_total ds) bs))
    (λ z. filter_agree (tie R z) (same_vals z) (tie_is_same ds z) (firsts R qs) ∙ classes z (same_vals z k) refl ∙ sym (filter_agree (tie R z) (same_vals z) (tie_is_same ds z) (k ∷ firsts R bs)))
  where
    R : List Value → List Value → Ordering
    R = vals_cmp ds

    qs : List (List Value)
    qs = keys_in columns inputs

    bs : List (List Value)
    bs = keys_in columns (behinds columns k inputs)

    above_all : AllByRecursion (λ v. R k v ≡ Less) bs
    above_all = (behinds_up ds columns k inputs up h).1

    commutes : (z : List Value) (us : List (List Value)) → filter (same_vals z) (firsts R us) ≡ firsts R (filter (same_vals z) us)
    commutes z us = firsts_filter (vals_total ds) (same_vals z) (λ x y e. ap (same_vals z) (vals_exact ds x y e)) us

    differs : (v : List Value) → R k v ≡ Less → (b : Bool) → same_vals k v ≡ b → b ≡ false
    differs v l true e = let f : R k k ≡ Less = ap (R k) (sym (same_vals_true k v e)) ∙ l in let g : Equal ≡ Less = sym (tied_itself (vals_total ds) k) ∙ f in cc
    differs v l false e = refl

    none_behind : filter (same_vals k) (firsts R bs) ≡ []
    none_behind = filter_none (same_vals k) (firsts R bs) (all_map (λ v. R k v ≡ Less) (λ v. same_vals k v ≡ false) (λ v l. differs v l (same_vals k v) refl) (firsts R bs) (all_firsts (λ v. R k v ≡ Less) R bs above_all))

    here : (filter (same_vals k) qs ≡ []) ⊎ (firsts R (filter (same_vals k) qs) ≡ k ∷ []) → filter (same_vals k) (firsts R qs) ≡ k ∷ []
    here (inl e) = absurd (some_key columns k inputs among e)
    here (inr e) = commutes k qs ∙ e

    classes : (z : List Value) (b : Bool) → same_vals z k ≡ b → filter (same_vals z) (firsts R qs) ≡ cond (same_vals z k) (k ∷ filter (same_vals z) (firsts R bs)) (filter (same_vals z) (firsts R bs))
    classes z true e =
        let f : k ≡ z = same_vals_true z k e in
        subst (λ w. filter (same_vals w) (firsts R qs) ≡ cond (same_vals w k) (k ∷ filter (same_vals w) (firsts R bs)) (filter (same_vals w) (firsts R bs))) f
        (here (rank_of (vals_total ds) k (filter (same_vals k) qs) (passed_all k qs)) ∙ sym (ap (λ b. cond b (k ∷ filter (same_vals k) (firsts R bs)) (filter (same_vals k) (firsts R bs))) (same_vals_itself k) ∙ ap (λ xs. k ∷ xs) none_behind))
    classes z false e =
        let n : z ≡ k → ⊥ = λ f. true≢false (sym (same_vals_itself z) ∙ ap (same_vals z) f ∙ e) in
        commutes z qs ∙ ap (firsts R) (keys_of_subs columns z inputs ∙ ap (keys_in columns) (sym (behinds_subs columns k z inputs n)) ∙ sym (keys_of_subs columns z (behinds columns k inputs)))
        ∙ sym (commutes z bs) ∙ sym (ap (λ b. cond b (k ∷ filter (same_vals z) (firsts R bs)) (filter (same_vals z) (firsts R bs))) e)

no_heads : (columns : List (List ℕ)) (inputs : List (List Row)) → heads_in columns inputs ≡ [] → keys_in columns inputs ≡ []
no_heads [] inputs e = refl
no_heads (cs ∷ columns) [] e = refl
no_heads (cs ∷ columns) ([] ∷ inputs) e = no_heads columns inputs e
no_heads (cs ∷ columns) ((r ∷ rows) ∷ inputs) e = cc

no_rows : (columns : List (List ℕ)) (inputs : List (List Row)) → rows_in columns inputs ≤ 0 → keys_in columns inputs ≡ []
no_rows [] inputs e = refl
no_rows (cs ∷ columns) [] e = refl
no_rows (cs ∷ columns) ([] ∷ inputs) e = no_rows columns inputs (omega arith)
no_rows (cs ∷ columns) ((r ∷ rows) ∷ inputs) e = absurd (omega arith)

runs_to : {Y : Type 0} (n : ℕ) (ds : List Bool) (columns : List (List ℕ)) (rule : List Value → List (List Row) → List Y) (inputs : List (List Row)) → AreSorted ds columns inputs → rows_in columns inputs ≤ n → run_by_run n ds columns rule inputs ≡ for_values false ds columns rule inputs
runs_to zero ds columns rule inputs up l = sym (ap (λ qs. flat_map (λ v. rule v (subs columns v inputs)) (firsts (vals_cmp ds) qs)) (no_rows columns inputs l))
runs_to {Y} (suc n) ds columns rule inputs up l = go (λ others u m. runs_to n ds columns rule others u m) (heads_in columns inputs) refl
  where
    go : ((others : List (List Row)) → AreSorted ds columns others → rows_in columns others ≤ n → run_by_run n ds columns rule others ≡ for_values false ds columns rule others) → (hs : List (List Value)) → heads_in columns inputs ≡ hs → taken_off ds columns rule inputs (run_by_run n ds columns rule) hs ≡ for_values false ds columns rule inputs
    go rec [] e = sym (ap (λ qs. flat_map (λ v. rule v (subs columns v inputs)) (firsts (vals_cmp ds) qs)) (no_heads columns inputs e))
    go rec (v ∷ vs) e = finish
      where
        k : List Value
        k = least_of ds v vs

        low : AllByRecursion (λ u. is_lt (vals_cmp ds u k) ≡ false) (heads_in columns inputs)
        low = subst (AllByRecursion (λ u. is_lt (vals_cmp ds u k) ≡ false)) (sym e) (least_below ds v vs)

        among : Among k (heads_in columns inputs)
        among = subst (Among k) (sym e) (least_among ds v vs)

        ups : AreSorted ds columns (behinds columns k inputs) × AllByRecursion (λ u. vals_cmp ds k u ≡ Less) (keys_in columns (behinds columns k inputs))
        ups = behinds_up ds columns k inputs up low

        give : List Value → List Y
        give u = rule u (subs columns u inputs)

        later : List Value → List Y
        later u = rule u (subs columns u (behinds columns k inputs))

        differs : (u : List Value) → vals_cmp ds k u ≡ Less → u ≡ k → ⊥
        differs u f g = let a : Equal ≡ Less = sym (tied_itself (vals_total ds) k) ∙ ap (vals_cmp ds k) (sym g) ∙ f in cc

        finish : rule k (fronts columns k inputs) ++ run_by_run n ds columns rule (behinds columns k inputs) ≡ for_values false ds columns rule inputs
        finish =
            ap₂ (λ a b. a ++ b) (ap (rule k) (fronts_are ds columns k inputs up low))
            (rec (behinds columns k inputs) ups.0 (let a = fewer columns k inputs among in omega (arith, a, l))
            ∙ flat_agree_all later give (firsts (vals_cmp ds) (keys_in columns (behinds columns k inputs)))
            (all_map (λ u. vals_cmp ds k u ≡ Less) (λ u. later u ≡ give u) (λ u f. ap (rule u) (behinds_subs columns k u inputs (differs u f))) (firsts (vals_cmp ds) (keys_in columns (behinds columns k inputs))) (all_firsts (λ u. vals_cmp ds k u ≡ Less) (vals_cmp ds) (keys_in columns (behinds columns k inputs)) ups.1)))
            ∙ sym (ap (flat_map give) (firsts_split ds columns k inputs up low among))

-- On lists in the order of the keys, taking the runs of the least value off, again and again, gives what is meant.
pub by_runs_is : {Y : Type 0} (ds : List Bool) (columns : List (List ℕ)) (rule : List Value → List (List Row) → List Y) (inputs : List (List Row)) → AreSorted ds columns inputs → by_runs ds columns rule inputs ≡ for_values false ds columns rule inputs
by_runs_is ds columns rule inputs up = runs_to (rows_in columns inputs) ds columns rule inputs up (omega arith)
