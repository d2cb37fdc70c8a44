-- What an operator gives does not see a sort that its input needs.
use Rattle.std.proofs.Common.{Bool, List, None, Option, Some, ap, ap₂, arith, cond, false, inl, inr, length, map, refl, subst, suc, sym, true, zero, ℕ, ◌≡◌, ◌+◌, ◌<◌, ◌⊎◌, ◌∷◌, ◌++◌, ◌∙◌, []}
use Rattle.ds_schema.specs.Rows.{cols, has, sub, ways}
use Rattle.ds_schema.specs.declared.key.Key.{Key}
use Rattle.ds_value.specs.declared.value.Value.{Value}
use Rattle.flow_graph.specs.Laws.{SortedAsNeeded}
use Rattle.flow_graph.specs.Forms.{form, sort_key}
use Rattle.flow_graph.specs.Operators.{Op, by_row, changecapture, dsread, faults, funnel, funnel_sequence, funnel_sort, group, import, join, lookup, merge, remdup, result, tsort}
use Rattle.flow_graph.specs.Runs.{InsertedFrom, arranged_if}
use Rattle.op_base.specs.Columns.{Row}
use Rattle.op_base.specs.Keyed.{arranged, by_key, for_values, get_keys, subs}
use Rattle.op_base.specs.Lists.{joined}
use Rattle.op_base.specs.Meanings.{Capture, Grouping, Join, change_rule, columns_of, group_faults, group_rows, input, join_rule, merge_rule, one_row, ways_of}
use Rattle.op_base.proofs.Bags.{filter_joined}
use Rattle.op_base.proofs.SortedInputs.{arranged_by_subs, by_key_arranged, sub_arranged, values_same}

abbrev pub sort_need : Op → ℕ → Option (List Key)
sort_need o i = sort_key (form o) i

pub as_needed : (sorts : ℕ → Option (List Key)) (whole : ℕ → List Row) (op : Op) (i : ℕ) (ins : List ℕ) → InsertedFrom sorts op i ins → SortedAsNeeded op i (map whole ins) (map (λ l. arranged_if (sorts l) (whole l)) ins)
as_needed sorts whole op i [] h = tt
as_needed sorts whole op i (l ∷ ins) h = (go h.0, as_needed sorts whole op (suc i) ins h.1)
  where
    need : (o : Option (List Key)) → sort_need op i ≡ o → (arranged_if o (whole l) ≡ whole l) ⊎ ((K : List Key) × (sort_need op i ≡ Some K) × (arranged_if o (whole l) ≡ arranged K (whole l)))
    need None e = inl refl
    need (Some K) e = inr (K, e, refl)

    go : ((sorts l ≡ None) ⊎ (sorts l ≡ sort_need op i)) → (arranged_if (sorts l) (whole l) ≡ whole l) ⊎ ((K : List Key) × (sort_need op i ≡ Some K) × (arranged_if (sorts l) (whole l) ≡ arranged K (whole l)))
    go (inl e) = inl (ap (λ o. arranged_if o (whole l)) e)
    go (inr e) = subst (λ o. (arranged_if o (whole l) ≡ whole l) ⊎ ((K : List Key) × (sort_need op i ≡ Some K) × (arranged_if o (whole l) ≡ arranged K (whole l)))) (sym e) (need (sort_need op i) refl)

none_needed : (op : Op) → ((i : ℕ) → sort_need op i ≡ None) → (i : ℕ) (inputs others : List (List Row)) → SortedAsNeeded op i inputs others → others ≡ inputs
none_needed op h i [] [] k = refl
none_needed op h i [] (ys ∷ others) k = absurd k
none_needed op h i (xs ∷ inputs) [] k = absurd k
none_needed op h i (xs ∷ inputs) (ys ∷ others) k = ap₂ (λ a b. a ∷ b) (go k.0) (none_needed op h (suc i) inputs others k.1)
  where
    go : ((ys ≡ xs) ⊎ ((K : List Key) × (sort_need op i ≡ Some K) × (ys ≡ arranged K xs))) → ys ≡ xs
    go (inl e) = e
    go (inr e) = let f : None ≡ Some (e.0) = sym (h i) ∙ e.1 in cc

-- the rows of each value of each input are the same
same_subs : (op : Op) (keys : List (List Key)) (i : ℕ) → ((k : ℕ) → k < length keys → sort_need op (i + k) ≡ Some (get_keys keys k)) → (v : List Value) (inputs others : List (List Row)) → SortedAsNeeded op i inputs others → subs (columns_of keys) v others ≡ subs (columns_of keys) v inputs
same_subs op [] i h v inputs others k = refl
same_subs op (K ∷ keys) i h v [] [] k = refl
same_subs op (K ∷ keys) i h v [] (ys ∷ others) k = absurd k
same_subs op (K ∷ keys) i h v (xs ∷ inputs) [] k = absurd k
same_subs op (K ∷ keys) i h v (xs ∷ inputs) (ys ∷ others) k =
    ap₂ (λ a b. a ∷ b) (go k.0) (same_subs op keys (suc i) (λ n l. ap (sort_need op) (over i n) ∙ h (suc n) (omega arith)) v inputs others k.1)
  where
    over : (a b : ℕ) → suc a + b ≡ a + suc b
    over a b = omega arith

    none : (a : ℕ) → a ≡ a + 0
    none a = omega arith

    go : ((ys ≡ xs) ⊎ ((L : List Key) × (sort_need op i ≡ Some L) × (ys ≡ arranged L xs))) → sub (cols K) v ys ≡ sub (cols K) v xs
    go (inl e) = ap (sub (cols K) v) e
    go (inr e) =
        let f : Some (e.0) ≡ Some K = sym e.1 ∙ ap (sort_need op) (none i) ∙ h 0 (omega arith) in
        let g : e.0 ≡ K = cc in
        ap (sub (cols K) v) (e.2 ∙ ap (λ L. arranged L xs) g) ∙ sub_arranged K v xs

-- one input that needs a sort
one_needed : (op : Op) (K : List Key) → sort_need op 0 ≡ Some K → (inputs others : List (List Row)) → SortedAsNeeded op 0 inputs others → (input 0 others ≡ input 0 inputs) ⊎ (input 0 others ≡ arranged K (input 0 inputs))
one_needed op K h [] [] k = inl refl
one_needed op K h [] (ys ∷ others) k = absurd k
one_needed op K h (xs ∷ inputs) [] k = absurd k
one_needed op K h (xs ∷ inputs) (ys ∷ others) k = go k.0
  where
    go : ((ys ≡ xs) ⊎ ((L : List Key) × (sort_need op 0 ≡ Some L) × (ys ≡ arranged L xs))) → (ys ≡ xs) ⊎ (ys ≡ arranged K xs)
    go (inl e) = inl e
    go (inr e) = let f : Some (e.0) ≡ Some K = sym e.1 ∙ h in let g : e.0 ≡ K = cc in inr (e.2 ∙ ap (λ L. arranged L xs) g)

-- all inputs of a sorted funnel need the same
same_joined : (keys : List Key) (v : List Value) (i : ℕ) (inputs others : List (List Row)) → SortedAsNeeded (funnel_sort keys) i inputs others → joined (map (sub (cols keys) v) others) ≡ joined (map (sub (cols keys) v) inputs)
same_joined keys v i [] [] k = refl
same_joined keys v i [] (ys ∷ others) k = absurd k
same_joined keys v i (xs ∷ inputs) [] k = absurd k
same_joined keys v i (xs ∷ inputs) (ys ∷ others) k = ap₂ (λ a b. a ++ b) (go k.0) (same_joined keys v (suc i) inputs others k.1)
  where
    go : ((ys ≡ xs) ⊎ ((L : List Key) × (Some keys ≡ Some L) × (ys ≡ arranged L xs))) → sub (cols keys) v ys ≡ sub (cols keys) v xs
    go (inl e) = ap (sub (cols keys) v) e
    go (inr e) = let f = e.1 in let g : e.0 ≡ keys = cc in ap (sub (cols keys) v) (e.2 ∙ ap (λ L. arranged L xs) g) ∙ sub_arranged keys v xs

zero_over : (a : ℕ) → 0 + a ≡ a
zero_over a = omega arith

join_needs : (j : Join) (k : ℕ) → k < 2 → sort_need (join j) (0 + k) ≡ Some (get_keys (j.left_keys ∷ (j.right_keys ∷ [])) k)
join_needs j zero l = refl
join_needs j (suc zero) l = refl
join_needs j (suc (suc k)) l = absurd (omega arith)

capture_needs : (c : Capture) (k : ℕ) → k < 2 → sort_need (changecapture c) (0 + k) ≡ Some (get_keys (c.keys ∷ (c.keys ∷ [])) k)
capture_needs c zero l = refl
capture_needs c (suc zero) l = refl
capture_needs c (suc (suc k)) l = absurd (omega arith)

group_needs : (g : Grouping) → g.hashes ≡ false → (k : ℕ) → k < 1 → sort_need (group g) (0 + k) ≡ Some (get_keys (g.keys ∷ []) k)
group_needs g e zero l = ap (λ b. cond b None (Some g.keys)) e
group_needs g e (suc k) l = absurd (omega arith)

group_same : {Y : Type 0} (g : Grouping) (rule : List Value → List (List Row) → List Y) (inputs others : List (List Row)) → SortedAsNeeded (group g) 0 inputs others → for_values g.hashes (ways g.keys) (cols g.keys ∷ []) rule others ≡ for_values g.hashes (ways g.keys) (cols g.keys ∷ []) rule inputs
group_same g rule inputs others k = go g.hashes refl
  where
    go : (b : Bool) → g.hashes ≡ b → for_values b (ways g.keys) (cols g.keys ∷ []) rule others ≡ for_values b (ways g.keys) (cols g.keys ∷ []) rule inputs
    go true e = ap (for_values true (ways g.keys) (cols g.keys ∷ []) rule) (none_needed (group g) (λ i. ap (λ b. cond b None (Some g.keys)) e) 0 inputs others k)
    go false e = values_same (ways g.keys) (cols g.keys ∷ []) rule inputs others (λ v. same_subs (group g) (g.keys ∷ []) 0 (group_needs g e) v inputs others k)

-- The meaning of an operator with a sort need is unchanged when such an input is arranged by the keys of the need.
pub result_same : (op : Op) (q : ℕ) (inputs others : List (List Row)) → SortedAsNeeded op 0 inputs others → result op q others ≡ result op q inputs
result_same (import lines rejects beyond) q inputs others k = refl
result_same (dsread segments place) q inputs others k = refl
result_same (by_row rule) q inputs others k = ap (result (by_row rule) q) (none_needed (by_row rule) (λ i. refl) 0 inputs others k)
result_same (tsort keys) q inputs others k = ap (result (tsort keys) q) (none_needed (tsort keys) (λ i. refl) 0 inputs others k)
result_same (remdup last keys) q inputs others k = go (one_needed (remdup last keys) keys refl inputs others k)
  where
    go : ((input 0 others ≡ input 0 inputs) ⊎ (input 0 others ≡ arranged keys (input 0 inputs))) → by_key keys (one_row last) (input 0 others) ≡ by_key keys (one_row last) (input 0 inputs)
    go (inl e) = ap (by_key keys (one_row last)) e
    go (inr e) = ap (by_key keys (one_row last)) e ∙ by_key_arranged keys (one_row last) (input 0 inputs)
result_same (group g) q inputs others k = group_same g (λ v same. group_rows g v (input 0 same)) inputs others k
result_same (join j) q inputs others k = values_same (ways j.left_keys) (cols j.left_keys ∷ (cols j.right_keys ∷ [])) (join_rule j) inputs others (λ v. same_subs (join j) (j.left_keys ∷ (j.right_keys ∷ [])) 0 (join_needs j) v inputs others k)
result_same (merge m) q inputs others k = values_same (ways_of m.keys) (columns_of m.keys) (merge_rule m q) inputs others (λ v. same_subs (merge m) m.keys 0 (λ i l. ap (λ n. Some (get_keys m.keys n)) (zero_over i)) v inputs others k)
result_same (lookup f) q inputs others k = ap (result (lookup f) q) (none_needed (lookup f) (λ i. refl) 0 inputs others k)
result_same (changecapture c) q inputs others k = values_same (ways c.keys) (cols c.keys ∷ (cols c.keys ∷ [])) (change_rule c) inputs others (λ v. same_subs (changecapture c) (c.keys ∷ (c.keys ∷ [])) 0 (capture_needs c) v inputs others k)
result_same funnel q inputs others k = ap joined (none_needed funnel (λ i. refl) 0 inputs others k)
result_same funnel_sequence q inputs others k = ap joined (none_needed funnel_sequence (λ i. refl) 0 inputs others k)
result_same (funnel_sort keys) q inputs others k = arranged_by_subs keys (joined others) (joined inputs) (λ v. filter_joined (has (cols keys) v) others ∙ same_joined keys v 0 inputs others k ∙ sym (filter_joined (has (cols keys) v) inputs))

pub faults_same : (op : Op) (inputs others : List (List Row)) → SortedAsNeeded op 0 inputs others → faults op others ≡ faults op inputs
faults_same (import lines rejects beyond) inputs others k = refl
faults_same (dsread segments place) inputs others k = refl
faults_same (by_row rule) inputs others k = ap (faults (by_row rule)) (none_needed (by_row rule) (λ i. refl) 0 inputs others k)
faults_same (tsort keys) inputs others k = refl
faults_same (remdup last keys) inputs others k = refl
faults_same (group g) inputs others k = group_same g (λ v same. group_faults g v (input 0 same)) inputs others k
faults_same (join j) inputs others k = refl
faults_same (merge m) inputs others k = refl
faults_same (lookup f) inputs others k = ap (faults (lookup f)) (none_needed (lookup f) (λ i. refl) 0 inputs others k)
faults_same (changecapture c) inputs others k = refl
faults_same funnel inputs others k = refl
faults_same funnel_sequence inputs others k = refl
faults_same (funnel_sort keys) inputs others k = refl
