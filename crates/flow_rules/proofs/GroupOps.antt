-- Groups keep what their states say, results and faults.
use Rattle.std.proofs.Common.{Bool, IsPermutation, List, None, Option, Some, ap, append-nil, ap₂, arith, cond, false, filter, flat_map, get_or, inl, inr, length, map, not, refl, subst, suc, sym, true, true≢false, zero, ℕ, ◌≡◌, ◌<◌, ◌⊎◌, ◌∷◌, ◌++◌, ◌∙◌, ◌==◌, []}
use Rattle.std.proofs.lemmas.Cmp.{lists_total, nat_cmp_total, nat_list_cmp_total, tied_itself}
use Rattle.std.proofs.lemmas.List.{length-map}
use Rattle.std.proofs.lemmas.List.Elements.{filter_agree}
use Rattle.std.proofs.lemmas.List.Sorted.{IsPermutation-map, IsPermutation-refl}
use Rattle.std.proofs.lemmas.Map.Lookups.{exact_bytes, exact_unsigned}
use Rattle.std.specs.Cmp.Lexicographic.{slice_cmp}
use Rattle.std.specs.List.{AllByRecursion, range_with_len}
use Rattle.std.specs.Ordering.{is_eq, nat_cmp, ordering_then}
use Rattle.std.specs.declared.cmp.Ordering.{Ordering}
use Rattle.std.specs.declared.cmp.Ordering.TheVariants.{Equal}
use Rattle.ds_schema.specs.Rows.{cols, has, row_cmp, sub, val, ways}
use Rattle.ds_schema.specs.declared.key.Key.{Key}
use Rattle.ds_value.specs.Values.{value_cmp}
use Rattle.ds_value.specs.declared.value.Value.{Value}
use Rattle.flow_graph.specs.Parts.{Agree, Sorted}
use Rattle.flow_graph.specs.Shapes.{GroupShape}
use Rattle.flow_graph.specs.States.{AgreeIf, Common, Holds, LiesAt}
use Rattle.ds_place.specs.declared.place.Place.TheVariants.{Hash, Modulus}
use Rattle.flow_graph.specs.declared.state.Spot.{Spot}
use Rattle.flow_graph.specs.declared.state.State.{State}
use Rattle.flow_derive.specs.Derive.{agrees_in, carried, carried_agree, carried_place, first_keys, group_agree, grouped_state, placed_in}
use Rattle.op_base.specs.Columns.{Pairs, Row, pairs_of}
use Rattle.op_base.specs.Faults.{fault_cmp, kind_number}
use Rattle.op_base.specs.Keyed.{for_values, in_order, keys_in, same_vals, seen, subs}
use Rattle.op_base.specs.Lists.{AllEmpty, IsArranged, OneHolds, joined}
use Rattle.op_base.specs.Meanings.{Grouping, group_faults, group_rows, input, overflow, row_of}
use Rattle.op_base.specs.declared.fault.Fault.{Fault}
use Rattle.op_base.specs.declared.fault.FaultKind.{FaultKind}
use Rattle.op_base.specs.declared.fault.FaultKind.TheVariants.{BadBlock, BadRecord, CountWrong, FileTooLong, Misplaced, NullUsed, Overflow, TooLong, Unwritable, ZeroDivisor}
use Rattle.flow_graph.proofs.PassingColumns.{carries_same}
use Rattle.flow_graph.proofs.StateLaws.{each_part, holds_plain, plain_holds}
use Rattle.flow_rules.proofs.KeyRules.{group_first_rule, group_key_rule, key_first, two_permuted, ways-first}
use Rattle.flow_rules.proofs.MeetLaws.{IsBag, KeyRule, Meets, Permuted, Ready, agree_in, carried_plain, each_range, keyed_agree, keyed_bag, keyed_placed, keyed_sorted, known_key_place, length-range, meets_bag, ready_meets_bag}
use Rattle.flow_rules.proofs.NeedTypes.{AgreesIf, AgreesIn, NotEntire, PlacedIn, key_place}
use Rattle.flow_rules.proofs.Passing.{IsKnown, carried_val, carries_key, lies_by_key, num, num_below, placed_by_key}
use Rattle.flow_rules.proofs.RouteOps.{any_sorted}
use Rattle.op_base.proofs.All.{all_each, map_two}
use Rattle.op_base.proofs.Bags.{permuted_long}
use Rattle.op_base.proofs.ColumnLaws.{val_long}
use Rattle.op_base.proofs.Filters.{filter_swap, filter_within, holds_map}
use Rattle.op_base.proofs.Interleavings.{empty_at}
use Rattle.op_base.proofs.KeyValues.{same_vals_true, sub_all, sub_for_values}
use Rattle.op_base.proofs.Orders.{equal_from_is, exact_lists, has_val, then_equal, vals_exact, vals_total, value_exact, value_total}
use Rattle.op_base.proofs.Ranks.{filter_all, filter_none, firsts_filter, flat_map_filter}
use Rattle.op_base.specs.declared.fault.FaultKind.TheVariants as kind
use Rattle.flow_graph.specs.declared.state.Spot.TheVariants as spot

-- the partition of an agreeing class
pub one_index : {X : Type 0} (ls : List (List X)) (whole : List X) → OneHolds ls whole → (j : ℕ) × (j < length ls) × (get_or ls j [] ≡ whole) × ((p : ℕ) → (p ≡ j → ⊥) → get_or ls p [] ≡ [])
one_index [] whole h = absurd h
one_index {X} (xs ∷ ls) whole (inl h) = (0, omega arith, h.0, others)
  where
    others : (p : ℕ) → (p ≡ 0 → ⊥) → get_or (xs ∷ ls) p [] ≡ []
    others zero n = absurd (n refl)
    others (suc p) n = empty_at ls p h.1
one_index {X} (xs ∷ ls) whole (inr h) = go (one_index ls whole h.1)
  where
    go : ((j : ℕ) × (j < length ls) × (get_or ls j [] ≡ whole) × ((p : ℕ) → (p ≡ j → ⊥) → get_or ls p [] ≡ [])) → (j : ℕ) × (j < length (xs ∷ ls)) × (get_or (xs ∷ ls) j [] ≡ whole) × ((p : ℕ) → (p ≡ j → ⊥) → get_or (xs ∷ ls) p [] ≡ [])
    go r = (suc (r.0), (let l = r.1 in omega arith), r.2, others)
      where
        others : (p : ℕ) → (p ≡ suc (r.0) → ⊥) → get_or (xs ∷ ls) p [] ≡ []
        others zero n = h.0
        others (suc p) n = r.3 p (λ e. n (ap suc e))

filter_at : {X : Type 0} (p : X → Bool) (parts : List (List X)) (i : ℕ) → get_or (map (filter p) parts) i [] ≡ filter p (get_or parts i [])
filter_at p [] i = refl
filter_at p (xs ∷ parts) zero = refl
filter_at p (xs ∷ parts) (suc i) = filter_at p parts i

-- what a group may not tell apart
abbrev pub Alike : Grouping → List (List Row) → List (List Row) → Type 0
Alike g xs ys = (xs ≡ ys) ⊎ ((g.sees_order ≡ false) × Permuted xs ys)

agree_meets : (g : Grouping) (parts : List (List Row)) (whole : List Row) (degree : ℕ) → length parts ≡ degree → Agree (cols g.keys) parts whole → Meets (Alike g) (cols g.keys ∷ []) degree (parts ∷ []) (whole ∷ [])
agree_meets g parts whole degree l a v =
    let K = cols g.keys in
    let r = one_index (map (sub K v) parts) (sub K v whole) (a v) in (
      r.0,
      (let m = r.1 in let e : length (map (sub K v) parts) ≡ length parts = Rattle.std.proofs.lemmas.List.length-map parts (sub K v) in omega arith),
      inl (ap (λ xs. xs ∷ []) (sym (filter_at (has K v) parts (r.0)) ∙ r.2)),
      λ p n m. (sym (filter_at (has K v) parts p) ∙ r.3 p n, tt),
    )

-- from the near of a group: each key's rows meet
group_meets : (g : Grouping) (s : State) (parts : List (List Row)) (whole : List Row) (degree : ℕ) → 0 < degree → NotEntire s → (PlacedIn g.keys s ⊎ AgreesIn g.keys s) → AgreesIf g.sees_order g.keys s → length parts ≡ degree → Holds s parts whole → Meets (Alike g) (cols g.keys ∷ []) degree (parts ∷ []) (whole ∷ [])
group_meets g s parts whole degree some e (inr a) o l h = agree_meets g parts whole degree l (agree_in (cols g.keys) s.agree parts whole a (holds_plain s.place s parts whole e h).0.agree)
group_meets g s parts whole degree some e (inl p) o l h = go g.sees_order refl o
  where
    go : (b : Bool) → g.sees_order ≡ b → AgreesIf b g.keys s → Meets (Alike g) (cols g.keys ∷ []) degree (parts ∷ []) (whole ∷ [])
    go true f k = agree_meets g parts whole degree l (agree_in (cols g.keys) s.agree parts whole k (holds_plain s.place s parts whole e h).0.agree)
    go false f k = λ v.
        let c = holds_plain s.place s parts whole e h in
        let known = known_key_place g.keys s.place p in
        let d = num (key_place g.keys s.place) degree in
        let ready : Ready IsBag d degree (cols g.keys ∷ []) (parts ∷ []) (whole ∷ []) = (l, placed_by_key g.keys s.place degree parts known l c.1, c.0.bag, tt) in
        let m = ready_meets_bag d degree (cols g.keys ∷ []) (parts ∷ []) (whole ∷ []) (λ u. num_below (key_place g.keys s.place) degree u some) ready v in
        (m.0, m.1, inr (f, m.2), m.3)

rows_alike : (g : Grouping) (outs : ℕ → ℕ) → GroupShape g outs → (v : List Value) (xs ys : List (List Row)) → Alike g xs ys → group_rows g v (input 0 xs) ≡ group_rows g v (input 0 ys)
rows_alike g outs s v xs ys (inl e) = ap (λ zs. group_rows g v (input 0 zs)) e
rows_alike g outs s v xs ys (inr h) = go (input 0 xs) (input 0 ys) (two_permuted xs ys h.1).0
  where
    go : (as1 bs : List Row) → IsPermutation as1 bs → group_rows g v as1 ≡ group_rows g v bs
    go [] [] k = refl
    go [] (b ∷ bs) k = let e = permuted_long [] (b ∷ bs) k in absurd (omega arith)
    go (a ∷ as1) [] k = let e = permuted_long (a ∷ as1) [] k in absurd (omega arith)
    go (a ∷ as1) (b ∷ bs) k = ap (row_of v) (s.blind h.0 (a ∷ as1) (b ∷ bs) k)

faults_alike : (g : Grouping) (outs : ℕ → ℕ) → GroupShape g outs → (v : List Value) (xs ys : List (List Row)) → Alike g xs ys → group_faults g v (input 0 xs) ≡ group_faults g v (input 0 ys)
faults_alike g outs s v xs ys (inl e) = ap (λ zs. group_faults g v (input 0 zs)) e
faults_alike g outs s v xs ys (inr h) = go (input 0 xs) (input 0 ys) (two_permuted xs ys h.1).0
  where
    go : (as1 bs : List Row) → IsPermutation as1 bs → group_faults g v as1 ≡ group_faults g v bs
    go [] [] k = refl
    go [] (b ∷ bs) k = let e = permuted_long [] (b ∷ bs) k in absurd (omega arith)
    go (a ∷ as1) [] k = let e = permuted_long (a ∷ as1) [] k in absurd (omega arith)
    go (a ∷ as1) (b ∷ bs) k = ap (overflow (g.over v)) (s.blind h.0 (a ∷ as1) (b ∷ bs) k)

-- what a group gives, of one list
abbrev pub group_list : Grouping → List Row → List Row
group_list g rows = for_values g.hashes (ways g.keys) (cols g.keys ∷ []) (λ v same. group_rows g v (input 0 same)) (rows ∷ [])

seen_filter : (t : List Value → Bool) (qs : List (List Value)) → filter t (seen qs) ≡ seen (filter t qs)
seen_filter t [] = refl
seen_filter t (q ∷ qs) = go (t q) refl (seen_filter t qs)
  where
    other : List Value → Bool
    other u = not (same_vals q u)

    go : (b : Bool) → t q ≡ b → filter t (seen qs) ≡ seen (filter t qs) → cond b (q ∷ filter t (filter (λ u. not (same_vals q u)) (seen qs))) (filter t (filter (λ u. not (same_vals q u)) (seen qs))) ≡ seen (cond b (q ∷ filter t qs) (filter t qs))
    go true e k = ap (λ xs. q ∷ xs) (filter_swap (λ u. not (same_vals q u)) t (seen qs) ∙ ap (filter (λ u. not (same_vals q u))) k)
    go false e k = filter_within (λ u. not (same_vals q u)) t (λ u f. differs u f (same_vals q u) refl) (seen qs) ∙ k
      where
        differs : (u : List Value) → t u ≡ true → (b : Bool) → same_vals q u ≡ b → not b ≡ true
        differs u f true h = absurd (true≢false (sym f ∙ ap t (same_vals_true q u h) ∙ e))
        differs u f false h = refl

order_filter : (hashes : Bool) (ds : List Bool) (t : List Value → Bool) (qs : List (List Value)) → filter t (in_order hashes ds qs) ≡ in_order hashes ds (filter t qs)
order_filter true ds t qs = seen_filter t qs
order_filter false ds t qs = firsts_filter (vals_total ds) t (λ x y e. ap t (vals_exact ds x y e)) qs

filter_map : {X Y : Type 0} (key : X → Y) (t : Y → Bool) (xs : List X) → filter t (map key xs) ≡ map key (filter (λ x. t (key x)) xs)
filter_map key t [] = refl
filter_map {X} key t (x ∷ xs) = go (t (key x)) (filter_map key t xs)
  where
    go : (b : Bool) → filter t (map key xs) ≡ map key (filter (λ (z : X). t (key z)) xs) → cond b (key x ∷ filter t (map key xs)) (filter t (map key xs)) ≡ map key (cond b (x ∷ filter (λ (z : X). t (key z)) xs) (filter (λ (z : X). t (key z)) xs))
    go true k = ap (λ ys. key x ∷ ys) k
    go false k = k

-- columns G among the keys, as D in the output: what is given of a value of G is given for its rows
sub_group : (g : Grouping) (G D : List ℕ) → carried (pairs_of (cols g.keys) (cols (first_keys 0 g.keys))) G ≡ Some D → (u : List Value) (rows : List Row) → sub D u (group_list g rows) ≡ group_list g (sub G u rows)
sub_group g G D e u rows =
    flat_map_filter (has D u) (has D u) give after kept gone (in_order g.hashes (ways g.keys) (keys_in (K ∷ []) (rows ∷ [])))
    ∙ ap (flat_map after) (order_filter g.hashes (ways g.keys) (has D u) (keys_in (K ∷ []) (rows ∷ []))
    ∙ ap (in_order g.hashes (ways g.keys)) (ap (filter (has D u)) (append-nil (map (val K) rows)) ∙ filter_map (val K) (has D u) rows ∙ ap (map (val K)) (filter_agree (λ r. has D u (val K r)) (has G u) same rows) ∙ sym (append-nil (map (val K) (sub G u rows)))))
  where
    K : List ℕ
    K = cols g.keys

    give : List Value → List Row
    give v = group_rows g v (sub K v rows)

    after : List Value → List Row
    after v = group_rows g v (sub K v (sub G u rows))

    held : (r : Row) → val D (val K r) ≡ val G r
    held r = carried_val (pairs_of K (cols (first_keys 0 g.keys))) r (val K r) G D e (carries_key g.keys r)

    same : (r : Row) → has D u (val K r) ≡ has G u r
    same r = ap (λ w. is_eq (slice_cmp value_cmp w u)) (held r)

    named : (v : List Value) (rs : List Row) → AllByRecursion (λ r. val K r ≡ v) rs → AllByRecursion (λ y. has D u y ≡ has D u v) (group_rows g v rs)
    named v [] k = tt
    named v (r ∷ rs) k = go (g.results (r ∷ rs))
      where
        go : (o : Option (List Value)) → AllByRecursion (λ y. has D u y ≡ has D u v) (row_of v o)
        go None = tt
        go (Some xs) = (ap (λ w. is_eq (slice_cmp value_cmp w u)) (carried_val (pairs_of K (cols (first_keys 0 g.keys))) r (v ++ xs) G D e (carries_same K (cols (first_keys 0 g.keys)) r (v ++ xs) (k.0 ∙ sym (key_first g.keys v xs (val_long g.keys r v k.0)))) ∙ sym (held r) ∙ ap (val D) k.0), tt)

    answers : (b : Bool) (v : List Value) → has D u v ≡ b → (ys : List Row) → AllByRecursion (λ y. has D u y ≡ has D u v) ys → AllByRecursion (λ y. has D u y ≡ b) ys
    answers b v f [] k = tt
    answers b v f (y ∷ ys) k = (k.0 ∙ f, answers b v f ys k.1)

    kept : (v : List Value) → has D u v ≡ true → filter (has D u) (give v) ≡ after v
    kept v t =
        filter_all (has D u) (give v) (answers true v t (give v) (named v (sub K v rows) (sub_all K v rows)))
        ∙ ap (group_rows g v) (sym (filter_within (has G u) (has K v) (λ r h. sym (same r) ∙ ap (has D u) (has_val K v r h) ∙ t) rows))

    gone : (v : List Value) → has D u v ≡ false → filter (has D u) (give v) ≡ []
    gone v t = filter_none (has D u) (give v) (answers false v t (give v) (named v (sub K v rows) (sub_all K v rows)))

nothing_given : (g : Grouping) → group_list g [] ≡ []
nothing_given g = go g.hashes
  where
    go : (b : Bool) → flat_map (λ v. group_rows g v (input 0 (subs (cols g.keys ∷ []) v ([] ∷ [])))) (in_order b (ways g.keys) []) ≡ []
    go true = refl
    go false = refl

coarse_agree : (g : Grouping) (G D : List ℕ) → carried (pairs_of (cols g.keys) (cols (first_keys 0 g.keys))) G ≡ Some D → (parts : List (List Row)) (whole : List Row) → Agree G parts whole → Agree D (map (group_list g) parts) (group_list g whole)
coarse_agree g G D e parts whole a u =
    subst (λ ms. OneHolds ms (sub D u (group_list g whole))) (sym (each parts))
    (subst (OneHolds (map (group_list g) (map (sub G u) parts))) (sym (sub_group g G D e u whole)) (holds_map (group_list g) (nothing_given g) (map (sub G u) parts) (sub G u whole) (a u)))
  where
    each : (ps : List (List Row)) → map (sub D u) (map (group_list g) ps) ≡ map (group_list g) (map (sub G u) ps)
    each [] = refl
    each (rows ∷ ps) = ap₂ (λ x y. x ∷ y) (sub_group g G D e u rows) (each ps)

each_list : {Y : Type 0} (f : List Row → Y) (parts : List (List Row)) (degree : ℕ) → length parts ≡ degree → map (λ p. f (get_or parts p [])) (range_with_len 0 degree) ≡ map f parts
each_list f parts degree l = subst (λ n. map (λ p. f (get_or parts p [])) (range_with_len 0 n) ≡ map f parts) l (each_part f parts)

-- The state of a group's output.
pub group_holds : (g : Grouping) (outs : ℕ → ℕ) (s : State) (parts : List (List Row)) (whole : List Row) (degree : ℕ) → 0 < degree → GroupShape g outs → NotEntire s → (PlacedIn g.keys s ⊎ AgreesIn g.keys s) → AgreesIf g.sees_order g.keys s → length parts ≡ degree → Holds s parts whole →
    Holds (grouped_state g.keys g.hashes s) (map (λ p. group_list g (get_or parts p [])) (range_with_len 0 degree)) (group_list g whole)
group_holds g outs s parts whole degree some shape e near order l h =
    plain_holds (carried_place m s.place) (grouped_state g.keys g.hashes s) given meant (carried_plain m s.place)
    (record { bag = keyed_bag g.hashes (ways g.keys) (cols g.keys ∷ []) (cols H) rule first (Alike g) (λ v xs ys k. subst (IsPermutation (rule v xs)) (rows_alike g outs shape v xs ys k) (IsPermutation-refl (rule v xs))) degree (parts ∷ []) (whole ∷ []) meets; agree = agrees s.agree refl; sorted = sorts g.hashes refl }) (lie s.place refl)
  where
    H : List Key
    H = first_keys 0 g.keys

    m : Pairs
    m = pairs_of (cols g.keys) (cols H)

    rule : List Value → List (List Row) → List Row
    rule v same = group_rows g v (input 0 same)

    first : KeyRule (cols g.keys ∷ []) (cols H) rule
    first = group_first_rule g

    given : List (List Row)
    given = map (λ p. group_list g (get_or parts p [])) (range_with_len 0 degree)

    meant : List Row
    meant = group_list g whole

    c : Common s parts whole × LiesAt s.place parts
    c = holds_plain s.place s parts whole e h

    meets : Meets (Alike g) (cols g.keys ∷ []) degree (parts ∷ []) (whole ∷ [])
    meets = group_meets g s parts whole degree some e near order l h

    by_keys : AgreeIf (carried m (cols g.keys)) given meant
    by_keys = go (carried m (cols g.keys)) refl
      where
        go : (o : Option (List ℕ)) → carried m (cols g.keys) ≡ o → AgreeIf o given meant
        go None f = tt
        go (Some D) f = keyed_agree g.hashes (ways g.keys) (cols g.keys ∷ []) D rule (group_key_rule g D f) (Alike g) (rows_alike g outs shape) degree (parts ∷ []) (whole ∷ []) meets

    agrees : (agree : Option (List ℕ)) → s.agree ≡ agree → AgreeIf (carried_agree m (group_agree (cols g.keys) s)) given meant
    agrees agree f = go (agrees_in (cols g.keys) s.agree) refl (placed_in (cols g.keys) s.place)
      where
        coarse : (o : Option (List ℕ)) → AgreeIf o parts whole → AgreeIf (carried_agree m o) given meant
        coarse None a = tt
        coarse (Some G) a = one (carried m G) refl
          where
            one : (o : Option (List ℕ)) → carried m G ≡ o → AgreeIf o given meant
            one None k = tt
            one (Some D) k = subst (λ ps. Agree D ps meant) (sym (each_list (group_list g) parts degree l)) (coarse_agree g G D k parts whole a)

        go : (a : Bool) → agrees_in (cols g.keys) s.agree ≡ a → (b : Bool) → AgreeIf (carried_agree m (cond a s.agree (cond b (Some (cols g.keys)) None))) given meant
        go true k b = coarse s.agree c.0.agree
        go false k true = by_keys
        go false k false = tt

    sorts : (b : Bool) → g.hashes ≡ b → Sorted (cond b [] H) given meant
    sorts true f = (each_range (IsArranged (row_cmp [])) (λ p. group_list g (get_or parts p [])) (λ p. any_sorted (group_list g (get_or parts p []))) 0 degree, any_sorted meant)
    sorts false f = (each_range (IsArranged (row_cmp H)) (λ p. group_list g (get_or parts p [])) (λ p. up (get_or parts p [])) 0 degree, up whole)
      where
        up : (rows : List Row) → IsArranged (row_cmp H) (group_list g rows)
        up rows = subst (λ b. IsArranged (row_cmp H) (for_values b (ways g.keys) (cols g.keys ∷ []) rule (rows ∷ []))) (sym f) (keyed_sorted (ways g.keys) (cols g.keys ∷ []) H rule (ways-first 0 g.keys) first (rows ∷ []))

    lie : (p : Spot) → s.place ≡ p → LiesAt (carried_place m s.place) given
    lie p f = go (carried_place m s.place) refl
      where
        known : IsKnown (carried_place m s.place) → LiesAt (carried_place m s.place) given
        known k =
            lies_by_key g.keys (cols H) s.place degree given k (length-range (λ p. group_list g (get_or parts p [])) 0 degree) (λ q. sym l ∙ subst (λ t. LiesAt t parts) q c.1)
            (keyed_placed IsBag g.hashes (ways g.keys) (cols g.keys ∷ []) (cols H) rule first (num (key_place g.keys s.place) degree) degree (parts ∷ []) (whole ∷ []) (l, placed_by_key g.keys s.place degree parts k l c.1, c.0.bag, tt))

        go : (q : Spot) → carried_place m s.place ≡ q → LiesAt (carried_place m s.place) given
        go spot.Solo k = known (subst IsKnown (sym k) tt)
        go (spot.Placed (Hash C)) k = known (subst IsKnown (sym k) tt)
        go (spot.Placed (Modulus d)) k = known (subst IsKnown (sym k) tt)
        go spot.Entire k = absurd (carried_plain m s.place k)
        go spot.None k = subst (λ q. LiesAt q given) (sym k) tt

-- faults, told apart
kind_of : ℕ → FaultKind
kind_of n = cond (n == 0) BadRecord (cond (n == 1) Overflow (cond (n == 2) ZeroDivisor (cond (n == 3) NullUsed (cond (n == 4) TooLong (cond (n == 5) kind.Missing (cond (n == 6) Unwritable (cond (n == 7) BadBlock (cond (n == 8) Misplaced (cond (n == 9) CountWrong FileTooLong)))))))))

kind_back : (k : FaultKind) → kind_of (kind_number k) ≡ k
unfolding kind_of
kind_back BadRecord = refl
kind_back Overflow = refl
kind_back ZeroDivisor = refl
kind_back NullUsed = refl
kind_back TooLong = refl
kind_back kind.Missing = refl
kind_back Unwritable = refl
kind_back BadBlock = refl
kind_back Misplaced = refl
kind_back CountWrong = refl
kind_back FileTooLong = refl

kinds_exact : (j k : FaultKind) → kind_number j ≡ kind_number k → j ≡ k
kinds_exact j k e = sym (kind_back j) ∙ ap kind_of e ∙ kind_back k

pub fault_exact : (f g : Fault) → is_eq (fault_cmp f g) ≡ true → f ≡ g
fault_exact f g e =
    let a = then_equal (nat_cmp f.op g.op) (ordering_then (nat_cmp (kind_number f.kind) (kind_number g.kind)) (ordering_then (nat_cmp f.place g.place) (slice_cmp nat_cmp f.bytes g.bytes))) (equal_from_is (fault_cmp f g) e) in
    let b = then_equal (nat_cmp (kind_number f.kind) (kind_number g.kind)) (ordering_then (nat_cmp f.place g.place) (slice_cmp nat_cmp f.bytes g.bytes)) a.1 in
    let c = then_equal (nat_cmp f.place g.place) (slice_cmp nat_cmp f.bytes g.bytes) b.1 in
    same (exact_unsigned f.op g.op a.0) (kinds_exact f.kind g.kind (exact_unsigned (kind_number f.kind) (kind_number g.kind) b.0)) (exact_unsigned f.place g.place c.0) (exact_bytes f.bytes g.bytes c.1)
  where
    same : f.op ≡ g.op → f.kind ≡ g.kind → f.place ≡ g.place → f.bytes ≡ g.bytes → f ≡ g
    same h i j k = ap₂ (λ x y. record { op = x; kind = y; place = f.place; bytes = f.bytes }) h i ∙ ap₂ (λ x y. record { op = g.op; kind = g.kind; place = x; bytes = y }) j k

pub fault_itself : (f : Fault) → is_eq (fault_cmp f f) ≡ true
fault_itself f = go (tied_itself Rattle.std.proofs.lemmas.Cmp.nat_cmp_total f.op) (tied_itself Rattle.std.proofs.lemmas.Cmp.nat_cmp_total (kind_number f.kind)) (tied_itself Rattle.std.proofs.lemmas.Cmp.nat_cmp_total f.place) (tied_itself Rattle.std.proofs.lemmas.Cmp.nat_list_cmp_total f.bytes)
  where
    E : Ordering
    E = Rattle.std.specs.declared.cmp.Ordering.TheVariants.Equal

    go : nat_cmp f.op f.op ≡ E → nat_cmp (kind_number f.kind) (kind_number f.kind) ≡ E → nat_cmp f.place f.place ≡ E → slice_cmp nat_cmp f.bytes f.bytes ≡ E → is_eq (fault_cmp f f) ≡ true
    go a b c d = ap is_eq (ap₂ ordering_then a (ap₂ ordering_then b (ap₂ ordering_then c d)))

-- a value and a fault
abbrev Tagged : Type 0
Tagged = List Value × Fault

same_tagged : Tagged → Tagged → Bool
same_tagged x y = is_eq (ordering_then (slice_cmp value_cmp (x.0) (y.0)) (fault_cmp (x.1) (y.1)))

tagged_exact : (x y : Tagged) → same_tagged x y ≡ true → x ≡ y
unfolding same_tagged
tagged_exact x y e =
    let a = then_equal (slice_cmp value_cmp (x.0) (y.0)) (fault_cmp (x.1) (y.1)) (equal_from_is (ordering_then (slice_cmp value_cmp (x.0) (y.0)) (fault_cmp (x.1) (y.1))) e) in
    let b : x.0 ≡ y.0 = exact_lists value_cmp value_exact (x.0) (y.0) a.0 in
    let c : x.1 ≡ y.1 = fault_exact (x.1) (y.1) (ap is_eq a.1) in
    ap₂ (λ v f. (v, f)) b c

tagged_itself : (x : Tagged) → same_tagged x x ≡ true
unfolding same_tagged
tagged_itself x = ap is_eq (ap₂ ordering_then (tied_itself (lists_total value_total) (x.0)) (equal_from_is (fault_cmp (x.1) (x.1)) (fault_itself (x.1))))

untag : Tagged → Fault
untag x = x.1

untagged : (v : List Value) (fs : List Fault) → map untag (map (λ f. (v, f)) fs) ≡ fs
unfolding untag
untagged v [] = refl
untagged v (f ∷ fs) = ap (λ gs. f ∷ gs) (untagged v fs)

map_flat : {X Y Z : Type 0} (f : Y → Z) (g : X → List Y) (h : X → List Z) → ((x : X) → map f (g x) ≡ h x) → (xs : List X) → map f (flat_map g xs) ≡ flat_map h xs
map_flat f g h e [] = refl
map_flat f g h e (x ∷ xs) = Rattle.std.proofs.lemmas.List.map-append f (g x) (flat_map g xs) ∙ ap₂ (λ a b. a ++ b) (e x) (map_flat f g h e xs)

map_joined : {Y Z : Type 0} (f : Y → Z) (ls : List (List Y)) → map f (joined ls) ≡ joined (map (map f) ls)
map_joined f [] = refl
map_joined f (xs ∷ ls) = Rattle.std.proofs.lemmas.List.map-append f xs (joined ls) ∙ ap (λ ys. map f xs ++ ys) (map_joined f ls)

abbrev pub group_fault_list : Grouping → List Row → List Fault
group_fault_list g rows = for_values g.hashes (ways g.keys) (cols g.keys ∷ []) (λ v same. group_faults g v (input 0 same)) (rows ∷ [])

-- The faults of a group.
pub group_fault_bag : (g : Grouping) (outs : ℕ → ℕ) (s : State) (parts : List (List Row)) (whole : List Row) (degree : ℕ) → 0 < degree → GroupShape g outs → NotEntire s → (PlacedIn g.keys s ⊎ AgreesIn g.keys s) → AgreesIf g.sees_order g.keys s → length parts ≡ degree → Holds s parts whole →
    IsPermutation (joined (map (λ p. group_fault_list g (get_or parts p [])) (range_with_len 0 degree))) (group_fault_list g whole)
group_fault_bag g outs s parts whole degree some shape e near order l h =
    subst (λ xs. IsPermutation xs (group_fault_list g whole)) parted
    (subst (IsPermutation (map untag (joined (map (λ p. tag (get_or parts p [])) (range_with_len 0 degree))))) (plain whole)
    (IsPermutation-map untag (joined (map (λ p. tag (get_or parts p [])) (range_with_len 0 degree))) (tag whole)
    (meets_bag same_tagged tagged_exact tagged_itself (Alike g) (cols g.keys ∷ []) (for_values g.hashes (ways g.keys) (cols g.keys ∷ []) rule) (λ (x : Tagged). x.0) rule
    (λ u xs. sub_for_values g.hashes (ways g.keys) (cols g.keys ∷ []) rule (λ (x : Tagged). x.0) (λ v ys k. all_each (λ (x : Tagged). x.0 ≡ v) (λ f. (v, f)) (λ f. refl) (group_faults g v (input 0 ys))) none u xs)
    none (λ v xs ys k. subst (IsPermutation (rule v xs)) (ap (map (λ f. (v, f))) (faults_alike g outs shape v xs ys k)) (IsPermutation-refl (rule v xs))) degree (parts ∷ []) (whole ∷ []) (group_meets g s parts whole degree some e near order l h))))
  where
    rule : List Value → List (List Row) → List Tagged
    rule v same = map (λ f. (v, f)) (group_faults g v (input 0 same))

    tag : List Row → List Tagged
    tag rows = for_values g.hashes (ways g.keys) (cols g.keys ∷ []) rule (rows ∷ [])

    none : (v : List Value) (inputs : List (List Row)) → AllEmpty inputs → rule v inputs ≡ []
    none v inputs k = ap (λ rs. map (λ f. (v, f)) (group_faults g v rs)) (empty_at inputs 0 k)

    plain : (rows : List Row) → map untag (tag rows) ≡ group_fault_list g rows
    plain rows = map_flat untag (λ v. rule v (subs (cols g.keys ∷ []) v (rows ∷ []))) (λ v. group_faults g v (sub (cols g.keys) v rows)) (λ v. untagged v (group_faults g v (sub (cols g.keys) v rows))) (in_order g.hashes (ways g.keys) (keys_in (cols g.keys ∷ []) (rows ∷ [])))

    parted : map untag (joined (map (λ p. tag (get_or parts p [])) (range_with_len 0 degree))) ≡ joined (map (λ p. group_fault_list g (get_or parts p [])) (range_with_len 0 degree))
    parted = map_joined untag (map (λ p. tag (get_or parts p [])) (range_with_len 0 degree)) ∙ ap joined (map_two (λ p. tag (get_or parts p [])) (map untag) (range_with_len 0 degree) ∙ all_same (range_with_len 0 degree))
      where
        all_same : (ns : List ℕ) → map (λ p. map untag (tag (get_or parts p []))) ns ≡ map (λ p. group_fault_list g (get_or parts p [])) ns
        all_same [] = refl
        all_same (n ∷ ns) = ap₂ (λ a b. a ∷ b) (plain (get_or parts n [])) (all_same ns)
