-- Rows that fit their widths give rows that fit.
use Rattle.std.proofs.Common.{Bool, List, None, Option, Some, ap, arith, cond, drop, false, flat_map, get_or, length, length-append, map, not, refl, subst, suc, sym, zero, ℕ, ◌≡◌, ◌+◌, ◌∷◌, ◌++◌, ◌∙◌, ◌&&◌, []}
use Rattle.std.specs.List.{AllByRecursion}
use Rattle.std.specs.Prelude.{pos}
use Rattle.ds_schema.specs.Rows.{cols, has, sub, val, ways}
use Rattle.ds_schema.specs.declared.key.Key.{Key}
use Rattle.ds_value.specs.declared.value.Value.{Value}
use Rattle.ds_value.specs.declared.value.Value.TheVariants.{Int}
use Rattle.flow_graph.specs.Operators.{Op, by_row, changecapture, dsread, funnel, funnel_sequence, funnel_sort, group, import, join, lookup, merge, remdup, result, tsort}
use Rattle.flow_graph.specs.Shapes.{AllWide, AllWidths, IsShaped, SameWays, Wide, total_length}
use Rattle.op_base.specs.Columns.{Row, no_row}
use Rattle.op_base.specs.Keyed.{for_values, in_order, keys_in, same_vals, subs}
use Rattle.op_base.specs.Lists.{joined}
use Rattle.op_base.specs.Meanings.{Capture, Join, Looking, Segment, are_none, change, change_rule, changes, coded, columns_of, first_row, group_rows, if_continues, if_rejected, input, is_none, join_row, join_rows, join_rule, looked_row, merge_rule, one_row, row_of, update_values, ways_of}
use Rattle.op_base.specs.declared.missing.Missing.{Missing}
use Rattle.flow_graph.proofs.PartLaws.{flat_all}
use Rattle.op_base.proofs.All.{all_append, all_cond, all_dropped, all_each, all_filter, all_flat_each}
use Rattle.op_base.proofs.ColumnLaws.{length-cols, length-ways}
use Rattle.op_base.proofs.KeySorts.{one_row_all}
use Rattle.op_base.proofs.KeyValues.{flat_values, order_all}
use Rattle.op_base.proofs.Orders.{length-val}
use Rattle.op_base.proofs.RowLists.{by_key_all}
use Rattle.op_base.specs.declared.missing.Missing.TheVariants as missing

pub wide_at : (ins : List ℕ) (inputs : List (List Row)) (i : ℕ) → AllWide ins inputs → AllByRecursion (Wide (get_or ins i 0)) (input i inputs)
wide_at [] [] i h = tt
wide_at [] (rows ∷ inputs) i h = absurd h
wide_at (w ∷ ins) [] i h = absurd h
wide_at (w ∷ ins) (rows ∷ inputs) zero h = h.0
wide_at (w ∷ ins) (rows ∷ inputs) (suc i) h = wide_at ins inputs i h.1

-- values of keys are as long as the keys
keys_long : (k : ℕ) (columns : List (List ℕ)) → AllByRecursion (λ (cs : List ℕ). length cs ≡ k) columns → (inputs : List (List Row)) → AllByRecursion (λ (v : List Value). length v ≡ k) (keys_in columns inputs)
keys_long k [] h inputs = tt
keys_long k (cs ∷ columns) h [] = tt
keys_long k (cs ∷ columns) h (rows ∷ inputs) = all_append (λ (v : List Value). length v ≡ k) (map (val cs) rows) (keys_in columns inputs) (all_each (λ (v : List Value). length v ≡ k) (val cs) (λ r. length-val cs r ∙ h.0) rows) (keys_long k columns h.1 inputs)

-- rows given for values of keys
values_all : (Q : Row → Type 0) (hashes : Bool) (ds : List Bool) (k : ℕ) (columns : List (List ℕ)) → AllByRecursion (λ (cs : List ℕ). length cs ≡ k) columns → (rule : List Value → List (List Row) → List Row) (inputs : List (List Row)) → ((v : List Value) → length v ≡ k → AllByRecursion Q (rule v (subs columns v inputs))) → AllByRecursion Q (for_values hashes ds columns rule inputs)
values_all Q hashes ds k columns l rule inputs h = flat_values (λ (v : List Value). length v ≡ k) Q (λ v. rule v (subs columns v inputs)) h (in_order hashes ds (keys_in columns inputs)) (order_all (λ (v : List Value). length v ≡ k) hashes ds (keys_in columns inputs) (keys_long k columns l inputs))

-- what holds of an input's rows holds of those of a value
subs_at : (P : Row → Type 0) (columns : List (List ℕ)) (v : List Value) (inputs : List (List Row)) (i : ℕ) → AllByRecursion P (input i inputs) → AllByRecursion P (input i (subs columns v inputs))
subs_at P [] v inputs i h = tt
subs_at P (cs ∷ columns) v [] i h = tt
subs_at P (cs ∷ columns) v (rows ∷ inputs) zero h = all_filter P (has cs v) rows h
subs_at P (cs ∷ columns) v (rows ∷ inputs) (suc i) h = subs_at P columns v inputs i h

joined_row : (k : ℕ) (v x y : List Value) (a b w : ℕ) → length v ≡ k → length x ≡ a → length y ≡ b → w ≡ k + (a + b) → length (v ++ (x ++ y)) ≡ w
joined_row k v x y a b w e f g h = let p = length-append v (x ++ y) in let q = length-append x y in omega (arith, p, q)

join_wide : (j : Join) (w : ℕ) → w ≡ length j.left_keys + (length j.left_others + length j.right_others) → (v : List Value) → length v ≡ length j.left_keys → (as1 bs : List Row) → AllByRecursion (Wide w) (join_rows j v as1 bs)
join_wide j w e v l as1 bs = go as1 bs
  where
    one : (a b : Row) → Wide w (join_row j v a b)
    one a b = joined_row (length j.left_keys) v (val j.left_others a) (val j.right_others b) (length j.left_others) (length j.right_others) w l (length-val j.left_others a) (length-val j.right_others b) e

    go : (cs ds : List Row) → AllByRecursion (Wide w) (join_rows j v cs ds)
    go [] [] = tt
    go (c ∷ cs) [] = all_cond (Wide w) j.keeps_left (map (λ x. join_row j v x no_row) (c ∷ cs)) [] (all_each (Wide w) (λ x. join_row j v x no_row) (λ x. one x no_row) (c ∷ cs)) tt
    go [] (d ∷ ds) = all_cond (Wide w) j.keeps_right (map (λ y. join_row j v no_row y) (d ∷ ds)) [] (all_each (Wide w) (λ y. join_row j v no_row y) (λ y. one no_row y) (d ∷ ds)) tt
    go (c ∷ cs) (d ∷ ds) = all_flat_each (Wide w) (λ x. map (λ y. join_row j v x y) (d ∷ ds)) (λ x. all_each (Wide w) (λ y. join_row j v x y) (λ y. one x y) (d ∷ ds)) (c ∷ cs)

updates_long : (others : List (List ℕ)) (updates : List (List Row)) → length (update_values others updates) ≡ total_length others
updates_long [] updates = refl
updates_long (os ∷ others) [] = let p = length-append (val os no_row) (update_values others []) in let q = length-val os no_row in let r = updates_long others [] in omega (arith, p, q, r)
updates_long (os ∷ others) (us ∷ updates) = let p = length-append (val os (first_row us)) (update_values others updates) in let q = length-val os (first_row us) in let r = updates_long others updates in omega (arith, p, q, r)

same_length : (ds : List Bool) (keys : List (List Key)) → SameWays ds keys → AllByRecursion (λ (cs : List ℕ). length cs ≡ length ds) (columns_of keys)
same_length ds [] h = tt
same_length ds (K ∷ keys) h = (length-cols K ∙ sym (length-ways K) ∙ ap length h.0, same_length ds keys h.1)

coded_wide : (c : Capture) (n : ℕ) (r : Row) → length (coded c n r) ≡ length c.columns + 1
coded_wide c n r = let p = length-append (val c.columns r) (Int (pos n) ∷ []) in let q = length-val c.columns r in omega (arith, p, q)

changes_wide : (c : Capture) (w : ℕ) → w ≡ length c.columns + 1 → (bs as1 : List Row) → AllByRecursion (Wide w) (changes c bs as1)
changes_wide c w e [] as1 = all_each (Wide w) (coded c 1) (λ r. coded_wide c 1 r ∙ sym e) as1
changes_wide c w e (b ∷ bs) [] = all_each (Wide w) (coded c 2) (λ r. coded_wide c 2 r ∙ sym e) (b ∷ bs)
changes_wide c w e (b ∷ bs) (a ∷ as1) =
    all_append (Wide w) (change c b a) (changes c bs as1)
    (all_cond (Wide w) (same_vals (val c.values b) (val c.values a)) (cond c.keeps_copy (coded c 0 a ∷ []) []) (coded c 3 a ∷ []) (all_cond (Wide w) c.keeps_copy (coded c 0 a ∷ []) [] (coded_wide c 0 a ∙ sym e, tt) tt) (coded_wide c 3 a ∙ sym e, tt))
    (changes_wide c w e bs as1)

looked_wide : (k : Looking) (outs : ℕ → ℕ) (w : ℕ) → outs 0 ≡ length k.main + length k.others → ((q : ℕ) → outs (suc q) ≡ w) → (q : ℕ) (a : Row) → Wide w a → (found : List Row) → AllByRecursion (Wide (outs q)) (looked_row k q a found)
looked_wide k outs w e f zero a h found = go found
  where
    one : (b : Row) → Wide (outs 0) (val k.main a ++ val k.others b)
    one b = let p = length-append (val k.main a) (val k.others b) in let q = length-val k.main a in let r = length-val k.others b in omega (arith, p, q, r, e)

    absent : (o : Missing) → AllByRecursion (Wide (outs 0)) (if_continues o (val k.main a ++ val k.others no_row))
    absent missing.Continue = (one no_row, tt)
    absent missing.Drop = tt
    absent missing.Fail = tt
    absent missing.Reject = tt

    go : (rows : List Row) → AllByRecursion (Wide (outs 0)) (looked_row k zero a rows)
    go [] = absent k.missing
    go (b ∷ bs) = (one b, tt)
looked_wide k outs w e f (suc q) a h found = go found
  where
    absent : (o : Missing) → AllByRecursion (Wide (outs (suc q))) (if_rejected o a)
    absent missing.Continue = tt
    absent missing.Drop = tt
    absent missing.Fail = tt
    absent missing.Reject = (h ∙ sym (f q), tt)

    go : (rows : List Row) → AllByRecursion (Wide (outs (suc q))) (looked_row k (suc q) a rows)
    go [] = absent k.missing
    go (b ∷ bs) = tt

all_inputs : (w : ℕ) (ins : List ℕ) (inputs : List (List Row)) → AllWidths ins w → AllWide ins inputs → AllByRecursion (Wide w) (joined inputs)
all_inputs w [] [] e h = tt
all_inputs w [] (rows ∷ inputs) e h = absurd h
all_inputs w (v ∷ ins) [] e h = absurd h
all_inputs w (v ∷ ins) (rows ∷ inputs) e h = all_append (Wide w) rows (joined inputs) (subst (λ n. AllByRecursion (Wide n) rows) e.0 h.0) (all_inputs w ins inputs e.1 h.1)

segments_wide : (w : ℕ) (segments : List Segment) → AllByRecursion (λ (s : Segment). AllByRecursion (Wide w) s.rows) segments → AllByRecursion (Wide w) (flat_map (λ (s : Segment). s.rows) segments)
segments_wide w [] h = tt
segments_wide w (s ∷ segments) h = all_append (Wide w) s.rows (flat_map (λ (t : Segment). t.rows) segments) h.0 (segments_wide w segments h.1)

same_width : (a b : ℕ) (rows : List Row) → b ≡ a → AllByRecursion (Wide a) rows → AllByRecursion (Wide b) rows
same_width a b rows e h = subst (λ n. AllByRecursion (Wide n) rows) (sym e) h

-- On rows that fit, a shaped operator gives rows that fit.
pub result_wide : (op : Op) (ins : List ℕ) (outs : ℕ → ℕ) (q : ℕ) (inputs : List (List Row)) → IsShaped op ins outs → AllWide ins inputs → AllByRecursion (Wide (outs q)) (result op q inputs)
result_wide (import lines rejects beyond) ins outs q inputs s h = s q
result_wide (dsread segments place) ins outs q inputs s h = segments_wide (outs q) segments (s.1 q)
result_wide (by_row rule) ins outs q inputs s h = flat_all (Wide (get_or ins 0 0)) (Wide (outs q)) (rule.rows q) (s.wide q) (input 0 inputs) (wide_at ins inputs 0 h)
result_wide (tsort keys) ins outs q inputs s h = same_width (get_or ins 0 0) (outs q) (result (tsort keys) q inputs) (s q) (by_key_all keys (λ same. same) (λ P xs a. a) (Wide (get_or ins 0 0)) (input 0 inputs) (wide_at ins inputs 0 h))
result_wide (remdup last keys) ins outs q inputs s h = same_width (get_or ins 0 0) (outs q) (result (remdup last keys) q inputs) (s q) (by_key_all keys (one_row last) (one_row_all last) (Wide (get_or ins 0 0)) (input 0 inputs) (wide_at ins inputs 0 h))
result_wide (group g) ins outs q inputs s h =
    values_all (Wide (outs q)) g.hashes (ways g.keys) (length g.keys) (cols g.keys ∷ []) (length-cols g.keys, tt) (λ v same. group_rows g v (input 0 same)) inputs (λ v l. go v l (input 0 (subs (cols g.keys ∷ []) v inputs)))
  where
    one : (v : List Value) → length v ≡ length g.keys → (rows : List Row) (o : Option (List Value)) → g.results rows ≡ o → AllByRecursion (Wide (outs q)) (row_of v o)
    one v l rows None e = tt
    one v l rows (Some xs) e = ((let p = length-append v xs in let w = s.wide q rows xs e in omega (arith, p, w, l)), tt)

    go : (v : List Value) → length v ≡ length g.keys → (rows : List Row) → AllByRecursion (Wide (outs q)) (group_rows g v rows)
    go v l [] = tt
    go v l (r ∷ rows) = one v l (r ∷ rows) (g.results (r ∷ rows)) refl
result_wide (join j) ins outs q inputs s h =
    values_all (Wide (outs q)) false (ways j.left_keys) (length j.left_keys) (cols j.left_keys ∷ (cols j.right_keys ∷ [])) (length-cols j.left_keys, (length-cols j.right_keys ∙ sym (length-ways j.right_keys) ∙ ap length s.0 ∙ length-ways j.left_keys, tt)) (join_rule j) inputs
    (λ v l. join_wide j (outs q) (s.1 q) v l (input 0 (subs (cols j.left_keys ∷ (cols j.right_keys ∷ [])) v inputs)) (input 1 (subs (cols j.left_keys ∷ (cols j.right_keys ∷ [])) v inputs)))
result_wide (merge m) ins outs zero inputs s h =
    values_all (Wide (outs 0)) false (ways_of m.keys) (length s.ds) (columns_of m.keys) (same_length s.ds m.keys s.ways) (merge_rule m 0) inputs
    (λ v l. let us = subs (columns_of m.keys) v inputs in all_cond (Wide (outs 0)) (are_none (drop 1 us) && not m.keeps_bad) [] (map (λ r. val m.master r ++ update_values m.others (drop 1 us)) (input 0 us)) tt
    (all_each (Wide (outs 0)) (λ r. val m.master r ++ update_values m.others (drop 1 us)) (λ r. let p = length-append (val m.master r) (update_values m.others (drop 1 us)) in let a = length-val m.master r in let b = updates_long m.others (drop 1 us) in let c = s.first in omega (arith, p, a, b, c)) (input 0 us)))
result_wide (merge m) ins outs (suc i) inputs s h =
    values_all (Wide (outs (suc i))) false (ways_of m.keys) (length s.ds) (columns_of m.keys) (same_length s.ds m.keys s.ways) (merge_rule m (suc i)) inputs
    (λ v l. let us = subs (columns_of m.keys) v inputs in
    let w : AllByRecursion (Wide (outs (suc i))) (input (suc i) us) = same_width (get_or ins (suc i) 0) (outs (suc i)) (input (suc i) us) (s.other i) (subs_at (Wide (get_or ins (suc i) 0)) (columns_of m.keys) v inputs (suc i) (wide_at ins inputs (suc i) h)) in
    all_cond (Wide (outs (suc i))) m.rejects (cond (is_none (input 0 us)) (input (suc i) us) (drop 1 (input (suc i) us))) [] (all_cond (Wide (outs (suc i))) (is_none (input 0 us)) (input (suc i) us) (drop 1 (input (suc i) us)) w (all_dropped (Wide (outs (suc i))) (input (suc i) us) w)) tt)
result_wide (lookup k) ins outs q inputs s h = flat_all (Wide (get_or ins 0 0)) (Wide (outs q)) (λ a. looked_row k q a (sub (cols k.reference_keys) (val (cols k.main_keys) a) (input 1 inputs))) (λ a w. looked_wide k outs (get_or ins 0 0) s.1 s.2 q a w (sub (cols k.reference_keys) (val (cols k.main_keys) a) (input 1 inputs))) (input 0 inputs) (wide_at ins inputs 0 h)
result_wide (changecapture c) ins outs q inputs s h =
    values_all (Wide (outs q)) false (ways c.keys) (length c.keys) (cols c.keys ∷ (cols c.keys ∷ [])) (length-cols c.keys, (length-cols c.keys, tt)) (change_rule c) inputs (λ v l. changes_wide c (outs q) (s.2 q) (input 0 (subs (cols c.keys ∷ (cols c.keys ∷ [])) v inputs)) (input 1 (subs (cols c.keys ∷ (cols c.keys ∷ [])) v inputs)))
result_wide funnel ins outs q inputs s h = all_inputs (outs q) ins inputs (s q) h
result_wide funnel_sequence ins outs q inputs s h = all_inputs (outs q) ins inputs (s q) h
result_wide (funnel_sort keys) ins outs q inputs s h = by_key_all keys (λ same. same) (λ P xs a. a) (Wide (outs q)) (joined inputs) (all_inputs (outs q) ins inputs (s q) h)
