-- Joins, merges, changes and groups as rules for the values of keys.
use Rattle.std.proofs.Common.{IsPermutation, List, None, Option, Some, ap, ap₂, arith, cond, drop, flat_map, get_or, length, map, not, refl, subst, suc, sym, zero, ℕ, ◌≡◌, ◌+◌, ◌<◌, ◌∷◌, ◌++◌, ◌∙◌, ◌&&◌, []}
use Rattle.std.proofs.lemmas.List.Sorted.{IsPermutation-map, IsPermutation-refl, IsPermutation-trans}
use Rattle.std.specs.List.{AllByRecursion}
use Rattle.std.specs.Prelude.{pos}
use Rattle.ds_schema.specs.Rows.{at, cols, val, ways}
use Rattle.ds_schema.specs.declared.key.Key.{Key}
use Rattle.ds_value.specs.declared.value.Value.{Value}
use Rattle.ds_value.specs.declared.value.Value.TheVariants.{Int}
use Rattle.flow_graph.specs.Shapes.{MergeShape}
use Rattle.flow_derive.specs.Derive.{carried, first_keys}
use Rattle.op_base.specs.Columns.{Lies, Row, all_columns, no_row, pairs_of}
use Rattle.op_base.specs.Keyed.{get_keys, same_vals}
use Rattle.op_base.specs.Lists.{AllEmpty}
use Rattle.op_base.specs.Meanings.{Capture, Grouping, Join, Merging, are_none, change, change_rule, changes, coded, columns_of, group_rows, input, is_none, join_row, join_rows, join_rule, merge_rule, row_of, update_values}
use Rattle.flow_graph.proofs.PassingColumns.{carries_same}
use Rattle.flow_rules.proofs.MeetLaws.{KeyRule, Permuted}
use Rattle.flow_rules.proofs.Passing.{carried_val}
use Rattle.op_base.proofs.All.{all_append, all_cond, all_dropped, all_each, all_flat_each, cond_nothing}
use Rattle.op_base.proofs.Bags.{cond_permuted, flat_permuted, same_long}
use Rattle.op_base.proofs.ColumnLaws.{at_left, length-ways, picked, val_long}
use Rattle.op_base.proofs.Interleavings.{empty_at}
use Rattle.op_base.proofs.KeyValues.{Keyed}
use Rattle.op_base.proofs.RowLists.{flat_rows_permuted}

key_from : (keys : List Key) (n : ℕ) (w v : List Value) → length v ≡ length keys → ((i : ℕ) → i < length v → at w (n + i) ≡ at v i) → val (cols (first_keys n keys)) w ≡ v
key_from [] n w [] e h = refl
key_from [] n w (a ∷ v) e h = absurd (omega arith)
key_from (k ∷ keys) n w [] e h = absurd (omega arith)
key_from (k ∷ keys) n w (a ∷ v) e h =
    let none : n ≡ n + 0 = omega arith in
    ap₂ (λ x xs. x ∷ xs) (ap (at w) none ∙ h 0 (omega arith)) (key_from keys (suc n) w v (omega arith) (λ i l. ap (at w) (omega arith) ∙ h (suc i) (omega arith)))

-- the keys of a row that begins with them
pub key_first : (keys : List Key) (v x : List Value) → length v ≡ length keys → val (cols (first_keys 0 keys)) (v ++ x) ≡ v
key_first keys v x e = key_from keys 0 (v ++ x) v e (λ i l. ap (at (v ++ x)) (omega arith) ∙ at_left v x i l)

pub ways-first : (n : ℕ) (keys : List Key) → ways (first_keys n keys) ≡ ways keys
ways-first n [] = refl
ways-first n (k ∷ keys) = ap (λ ds. k.desc ∷ ds) (ways-first (suc n) keys)

-- joins
join_says : (j : Join) → ways j.right_keys ≡ ways j.left_keys → (v : List Value) (as1 bs : List Row) → AllByRecursion (λ r. val (cols j.left_keys) r ≡ v) as1 → AllByRecursion (λ r. val (cols j.right_keys) r ≡ v) bs →
    AllByRecursion (λ y. val (cols (first_keys 0 j.left_keys)) y ≡ v) (join_rows j v as1 bs)
join_says j w v [] [] ha hb = tt
join_says j w v (a ∷ as1) [] ha hb =
    all_cond (λ y. val (cols (first_keys 0 j.left_keys)) y ≡ v) j.keeps_left (map (λ x. join_row j v x no_row) (a ∷ as1)) [] (all_each (λ y. val (cols (first_keys 0 j.left_keys)) y ≡ v) (λ x. join_row j v x no_row) (λ x. key_first j.left_keys v (val j.left_others x ++ val j.right_others no_row) (val_long j.left_keys a v ha.0)) (a ∷ as1)) tt
join_says j w v [] (b ∷ bs) ha hb =
    all_cond (λ y. val (cols (first_keys 0 j.left_keys)) y ≡ v) j.keeps_right (map (λ y. join_row j v no_row y) (b ∷ bs)) [] (all_each (λ y. val (cols (first_keys 0 j.left_keys)) y ≡ v) (λ y. join_row j v no_row y)
    (λ y. key_first j.left_keys v (val j.left_others no_row ++ val j.right_others y) (val_long j.right_keys b v hb.0 ∙ sym (length-ways j.right_keys) ∙ ap length w ∙ length-ways j.left_keys)) (b ∷ bs)) tt
join_says j w v (a ∷ as1) (b ∷ bs) ha hb =
    all_flat_each (λ y. val (cols (first_keys 0 j.left_keys)) y ≡ v) (λ x. map (λ y. join_row j v x y) (b ∷ bs))
    (λ x. all_each (λ y. val (cols (first_keys 0 j.left_keys)) y ≡ v) (λ y. join_row j v x y) (λ y. key_first j.left_keys v (val j.left_others x ++ val j.right_others y) (val_long j.left_keys a v ha.0)) (b ∷ bs)) (a ∷ as1)

two_empty : (inputs : List (List Row)) → AllEmpty inputs → (input 0 inputs ≡ []) × (input 1 inputs ≡ [])
two_empty inputs h = (empty_at inputs 0 h, empty_at inputs 1 h)

-- the rows at each port have the value
keyed_two : (K L : List ℕ) (v : List Value) (inputs : List (List Row)) → Keyed (K ∷ (L ∷ [])) v inputs → AllByRecursion (λ r. val K r ≡ v) (input 0 inputs) × AllByRecursion (λ r. val L r ≡ v) (input 1 inputs)
keyed_two K L v [] h = (tt, tt)
keyed_two K L v (a ∷ []) h = (h.0, tt)
keyed_two K L v (a ∷ (b ∷ inputs)) h = (h.0, h.1.0)

pub join_key_rule : (j : Join) → ways j.right_keys ≡ ways j.left_keys → KeyRule (cols j.left_keys ∷ (cols j.right_keys ∷ [])) (cols (first_keys 0 j.left_keys)) (join_rule j)
join_key_rule j w = record {
  says = λ v inputs h. let k = keyed_two (cols j.left_keys) (cols j.right_keys) v inputs h in join_says j w v (input 0 inputs) (input 1 inputs) k.0 k.1;
  none = λ v inputs h. let k = two_empty inputs h in ap₂ (join_rows j v) k.0 k.1;
}

join_rows_permuted : (j : Join) (v : List Value) (as1 as2 bs1 bs2 : List Row) → IsPermutation as1 as2 → IsPermutation bs1 bs2 → IsPermutation (join_rows j v as1 bs1) (join_rows j v as2 bs2)
join_rows_permuted j v [] [] [] [] ha hb = IsPermutation-refl []
join_rows_permuted j v [] [] [] (b ∷ bs) ha hb = let e = same_long [] (b ∷ bs) hb in absurd (omega arith)
join_rows_permuted j v [] [] (b ∷ bs) [] ha hb = let e = same_long (b ∷ bs) [] hb in absurd (omega arith)
join_rows_permuted j v [] [] (b ∷ bs) (c ∷ cs) ha hb = cond_permuted j.keeps_right (map (λ y. join_row j v no_row y) (b ∷ bs)) (map (λ y. join_row j v no_row y) (c ∷ cs)) (IsPermutation-map (λ y. join_row j v no_row y) (b ∷ bs) (c ∷ cs) hb)
join_rows_permuted j v [] (c ∷ as2) bs1 bs2 ha hb = let e = same_long [] (c ∷ as2) ha in absurd (omega arith)
join_rows_permuted j v (a ∷ as1) [] bs1 bs2 ha hb = let e = same_long (a ∷ as1) [] ha in absurd (omega arith)
join_rows_permuted j v (a ∷ as1) (c ∷ as2) [] [] ha hb = cond_permuted j.keeps_left (map (λ x. join_row j v x no_row) (a ∷ as1)) (map (λ x. join_row j v x no_row) (c ∷ as2)) (IsPermutation-map (λ x. join_row j v x no_row) (a ∷ as1) (c ∷ as2) ha)
join_rows_permuted j v (a ∷ as1) (c ∷ as2) [] (d ∷ ds) ha hb = let e = same_long [] (d ∷ ds) hb in absurd (omega arith)
join_rows_permuted j v (a ∷ as1) (c ∷ as2) (b ∷ bs) [] ha hb = let e = same_long (b ∷ bs) [] hb in absurd (omega arith)
join_rows_permuted j v (a ∷ as1) (c ∷ as2) (b ∷ bs) (d ∷ ds) ha hb =
    IsPermutation-trans (join_rows j v (a ∷ as1) (b ∷ bs)) (flat_map (λ x. map (λ y. join_row j v x y) (b ∷ bs)) (c ∷ as2)) (join_rows j v (c ∷ as2) (d ∷ ds))
    (flat_rows_permuted (λ x. map (λ y. join_row j v x y) (b ∷ bs)) (a ∷ as1) (c ∷ as2) ha)
    (flat_permuted (λ x. map (λ y. join_row j v x y) (b ∷ bs)) (λ x. map (λ y. join_row j v x y) (d ∷ ds)) (λ x. IsPermutation-map (λ y. join_row j v x y) (b ∷ bs) (d ∷ ds) hb) (c ∷ as2))

pub two_permuted : (xs ys : List (List Row)) → Permuted xs ys → IsPermutation (input 0 xs) (input 0 ys) × IsPermutation (input 1 xs) (input 1 ys)
two_permuted [] [] h = (IsPermutation-refl [], IsPermutation-refl [])
two_permuted [] (y ∷ ys) h = absurd h
two_permuted (x ∷ xs) [] h = absurd h
two_permuted (x ∷ xs) (y ∷ ys) h = (h.0, go xs ys h.1)
  where
    go : (us ws : List (List Row)) → Permuted us ws → IsPermutation (get_or us 0 []) (get_or ws 0 [])
    go [] [] k = IsPermutation-refl []
    go [] (w ∷ ws) k = absurd k
    go (u ∷ us) [] k = absurd k
    go (u ∷ us) (w ∷ ws) k = k.0

-- what a join gives of a key does not hang on the order of its rows, as a bag
pub join_permuted : (j : Join) (v : List Value) (xs ys : List (List Row)) → Permuted xs ys → IsPermutation (join_rule j v xs) (join_rule j v ys)
join_permuted j v xs ys h = let k = two_permuted xs ys h in join_rows_permuted j v (input 0 xs) (input 0 ys) (input 1 xs) (input 1 ys) k.0 k.1

-- changes
change_says : (c : Capture) (w : ℕ) → c.columns ≡ all_columns w → Lies (cols c.keys) c.columns → (v : List Value) (bs as1 : List Row) → AllByRecursion (λ r. val (cols c.keys) r ≡ v) bs → AllByRecursion (λ r. val (cols c.keys) r ≡ v) as1 →
    AllByRecursion (λ y. val (cols c.keys) y ≡ v) (changes c bs as1)
change_says c w e l v bs as1 hb ha = go bs as1 hb ha
  where
    K : List ℕ
    K = cols c.keys

    code : (n : ℕ) (r : Row) → val K r ≡ v → val K (coded c n r) ≡ v
    code n r f = ap (λ cs. val K (val cs r ++ (Int (pos n) ∷ []))) e ∙ picked w K r (Int (pos n) ∷ []) (subst (Lies K) e l) ∙ f

    codes : (n : ℕ) (rows : List Row) → AllByRecursion (λ r. val K r ≡ v) rows → AllByRecursion (λ y. val K y ≡ v) (map (coded c n) rows)
    codes n [] k = tt
    codes n (r ∷ rows) k = (code n r k.0, codes n rows k.1)

    go : (ds cs : List Row) → AllByRecursion (λ r. val K r ≡ v) ds → AllByRecursion (λ r. val K r ≡ v) cs → AllByRecursion (λ y. val K y ≡ v) (changes c ds cs)
    go [] cs hd hc = codes 1 cs hc
    go (d ∷ ds) [] hd hc = codes 2 (d ∷ ds) hd
    go (d ∷ ds) (a ∷ cs) hd hc =
        all_append (λ y. val K y ≡ v) (change c d a) (changes c ds cs)
        (all_cond (λ y. val K y ≡ v) (same_vals (val c.values d) (val c.values a)) (cond c.keeps_copy (coded c 0 a ∷ []) []) (coded c 3 a ∷ []) (all_cond (λ y. val K y ≡ v) c.keeps_copy (coded c 0 a ∷ []) [] (code 0 a hc.0, tt) tt) (code 3 a hc.0, tt))
        (go ds cs hd.1 hc.1)

pub change_key_rule : (c : Capture) (w : ℕ) → c.columns ≡ all_columns w → Lies (cols c.keys) c.columns → KeyRule (cols c.keys ∷ (cols c.keys ∷ [])) (cols c.keys) (change_rule c)
change_key_rule c w e l = record {
  says = λ v inputs h. let k = keyed_two (cols c.keys) (cols c.keys) v inputs h in change_says c w e l v (input 0 inputs) (input 1 inputs) k.0 k.1;
  none = λ v inputs h. let k = two_empty inputs h in ap₂ (changes c) k.0 k.1;
}

-- merges
keyed_at : (keys : List (List Key)) (v : List Value) (inputs : List (List Row)) (i : ℕ) → Keyed (columns_of keys) v inputs → AllByRecursion (λ r. val (cols (get_keys keys i)) r ≡ v) (input i inputs)
keyed_at [] v inputs i h = subst (λ xs. AllByRecursion (λ r. [] ≡ v) (get_or xs i [])) (sym h) tt
keyed_at (K ∷ keys) v [] i h = tt
keyed_at (K ∷ keys) v (rows ∷ inputs) zero h = h.0
keyed_at (K ∷ keys) v (rows ∷ inputs) (suc i) h = keyed_at keys v inputs i h.1

pub merge_key_rule : (m : Merging) (ins : List ℕ) (outs : ℕ → ℕ) → MergeShape m ins outs → (q : ℕ) → KeyRule (columns_of m.keys) (cols (get_keys m.keys q)) (merge_rule m q)
merge_key_rule m ins outs s zero = record {
  says = λ v inputs h. all_cond (λ y. val (cols (get_keys m.keys 0)) y ≡ v) (are_none (drop 1 inputs) && not m.keeps_bad) [] (map (row inputs) (input 0 inputs)) tt (rows inputs v (input 0 inputs) (keyed_at m.keys v inputs 0 h));
  none = λ v inputs h. cond_nothing (are_none (drop 1 inputs) && not m.keeps_bad) [] (map (row inputs) (input 0 inputs)) refl (ap (map (row inputs)) (empty_at inputs 0 h));
}
  where
    row : List (List Row) → Row → Row
    row inputs r = val m.master r ++ update_values m.others (drop 1 inputs)

    rows : (inputs : List (List Row)) (v : List Value) (rs : List Row) → AllByRecursion (λ r. val (cols (get_keys m.keys 0)) r ≡ v) rs → AllByRecursion (λ y. val (cols (get_keys m.keys 0)) y ≡ v) (map (λ r. val m.master r ++ update_values m.others (drop 1 inputs)) rs)
    rows inputs v [] k = tt
    rows inputs v (r ∷ rs) k =
        (ap (λ cs. val (cols (get_keys m.keys 0)) (val cs r ++ update_values m.others (drop 1 inputs))) s.master ∙ picked (get_or ins 0 0) (cols (get_keys m.keys 0)) r (update_values m.others (drop 1 inputs)) (subst (Lies (cols (get_keys m.keys 0))) s.master s.keys_in) ∙ k.0, rows inputs v rs k.1)
merge_key_rule m ins outs s (suc i) = record {
  says = λ v inputs h. let k = keyed_at m.keys v inputs (suc i) h in
      all_cond (λ y. val (cols (get_keys m.keys (suc i))) y ≡ v) m.rejects (cond (is_none (input 0 inputs)) (input (suc i) inputs) (drop 1 (input (suc i) inputs))) [] (all_cond (λ y. val (cols (get_keys m.keys (suc i))) y ≡ v) (is_none (input 0 inputs)) (input (suc i) inputs) (drop 1 (input (suc i) inputs)) k (all_dropped (λ y. val (cols (get_keys m.keys (suc i))) y ≡ v) (input (suc i) inputs) k)) tt;
  none = λ v inputs h. let e = empty_at inputs (suc i) h in
      cond_nothing m.rejects (cond (is_none (input 0 inputs)) (input (suc i) inputs) (drop 1 (input (suc i) inputs))) [] (cond_nothing (is_none (input 0 inputs)) (input (suc i) inputs) (drop 1 (input (suc i) inputs)) e (ap (drop 1) e)) refl;
}

-- groups: the keys, or any columns that hold them
pub group_key_rule : (g : Grouping) (D : List ℕ) → carried (pairs_of (cols g.keys) (cols (first_keys 0 g.keys))) (cols g.keys) ≡ Some D → KeyRule (cols g.keys ∷ []) D (λ v same. group_rows g v (input 0 same))
group_key_rule g D e = record {
  says = λ v inputs h. says v inputs h;
  none = λ v inputs h. ap (group_rows g v) (empty_at inputs 0 h);
}
  where
    named : (v : List Value) (r : Row) → val (cols g.keys) r ≡ v → (o : Option (List Value)) → AllByRecursion (λ y. val D y ≡ v) (row_of v o)
    named v r f None = tt
    named v r f (Some xs) = (carried_val (pairs_of (cols g.keys) (cols (first_keys 0 g.keys))) r (v ++ xs) (cols g.keys) D e (carries_same (cols g.keys) (cols (first_keys 0 g.keys)) r (v ++ xs) (f ∙ sym (key_first g.keys v xs (val_long g.keys r v f)))) ∙ f, tt)

    rows : (v : List Value) (rs : List Row) → AllByRecursion (λ r. val (cols g.keys) r ≡ v) rs → AllByRecursion (λ y. val D y ≡ v) (group_rows g v rs)
    rows v [] k = tt
    rows v (r ∷ rs) k = named v r k.0 (g.results (r ∷ rs))

    says : (v : List Value) (inputs : List (List Row)) → Keyed (cols g.keys ∷ []) v inputs → AllByRecursion (λ y. val D y ≡ v) (group_rows g v (input 0 inputs))
    says v [] h = tt
    says v (rs ∷ inputs) h = rows v rs h.0

pub group_first_rule : (g : Grouping) → KeyRule (cols g.keys ∷ []) (cols (first_keys 0 g.keys)) (λ v same. group_rows g v (input 0 same))
group_first_rule g = record {
  says = λ v inputs h. says v inputs h;
  none = λ v inputs h. ap (group_rows g v) (empty_at inputs 0 h);
}
  where
    named : (v : List Value) (r : Row) → val (cols g.keys) r ≡ v → (o : Option (List Value)) → AllByRecursion (λ y. val (cols (first_keys 0 g.keys)) y ≡ v) (row_of v o)
    named v r f None = tt
    named v r f (Some xs) = (key_first g.keys v xs (val_long g.keys r v f), tt)

    rows : (v : List Value) (rs : List Row) → AllByRecursion (λ r. val (cols g.keys) r ≡ v) rs → AllByRecursion (λ y. val (cols (first_keys 0 g.keys)) y ≡ v) (group_rows g v rs)
    rows v [] k = tt
    rows v (r ∷ rs) k = named v r k.0 (g.results (r ∷ rs))

    says : (v : List Value) (inputs : List (List Row)) → Keyed (cols g.keys ∷ []) v inputs → AllByRecursion (λ y. val (cols (first_keys 0 g.keys)) y ≡ v) (group_rows g v (input 0 inputs))
    says v [] h = tt
    says v (rs ∷ inputs) h = rows v rs h.0
