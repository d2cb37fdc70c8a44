-- Each operator, with the states, partitions and wholes of its inputs.
use Rattle.std.proofs.Common.{Bool, IsPermutation, List, Some, ap, append-nil, arith, false, flat_map, get_or, length, map, refl, subst, suc, sym, true, zero, ℕ, ◌≡◌, ◌<◌, ◌∷◌, ◌++◌, ◌∙◌, []}
use Rattle.std.proofs.lemmas.List.Sorted.{IsPermutation-refl}
use Rattle.std.specs.List.{AllByRecursion, range_with_len}
use Rattle.ds_schema.specs.Rows.{cols, sub, val, ways}
use Rattle.ds_schema.specs.declared.key.Key.{Key}
use Rattle.ds_value.specs.declared.value.Value.{Value}
use Rattle.flow_graph.specs.Operators.{Op, by_row, changecapture, dsread, faults, funnel, funnel_sequence, funnel_sort, group, import, join, lookup, merge, remdup, result, tsort}
use Rattle.flow_graph.specs.Parts.{Bag}
use Rattle.flow_graph.specs.Runs.{FitsDegree, Funnelled, slice}
use Rattle.flow_graph.specs.Shapes.{AllWide, HasPort, IsShaped, SameWays}
use Rattle.flow_graph.specs.States.{AllHold, Holds}
use Rattle.flow_graph.specs.declared.state.State.{State}
use Rattle.flow_derive.specs.Derive.{first_keys, read_state}
use Rattle.op_base.specs.Columns.{Row}
use Rattle.op_base.specs.Keyed.{arranged, by_key, for_values, get_keys}
use Rattle.op_base.specs.Lists.{joined}
use Rattle.op_base.specs.Meanings.{Segment, change_rule, columns_of, join_rule, line_faults, line_rows, looked_row, merge_rule, one_row, ways_of}
use Rattle.op_base.specs.declared.fault.Fault.{Fault}
use Rattle.flow_graph.proofs.PartLaws.{agree_bag, rows_bag}
use Rattle.flow_graph.proofs.StateLaws.{each_part, holds_plain}
use Rattle.flow_rules.proofs.FunnelOps.{funnel_holds, sequence_holds, sort_funnel_holds}
use Rattle.flow_rules.proofs.GroupOps.{group_fault_bag, group_holds}
use Rattle.flow_rules.proofs.KeyRules.{change_key_rule, join_key_rule, join_permuted, merge_key_rule, ways-first}
use Rattle.flow_rules.proofs.MeetLaws.{KeyRule, Lengths, Permuted, keyed_agree, keyed_bag, keyed_holds, needs_all, needs_ready, place_of_first, ready_meets, ready_meets_bag}
use Rattle.flow_rules.proofs.NeedTypes.{KeyedNeeds, Needs, NotEntire, SortedBy, derived_op}
use Rattle.flow_rules.proofs.Passing.{num, num_below}
use Rattle.flow_rules.proofs.RowOps.{lookup_faults, lookup_holds, rows_hold}
use Rattle.flow_rules.proofs.SimpleOps.{import_holds, read_faults, read_holds, remdup_holds, sorted_holds}

-- on one input, partition by partition
each_input : {Y : Type 0} (f : List Row → Y) (parts : List (List Row)) (degree : ℕ) → length parts ≡ degree → map (λ p. f (get_or parts p [])) (range_with_len 0 degree) ≡ map f parts
each_input f parts degree l = subst (λ n. map (λ p. f (get_or parts p [])) (range_with_len 0 n) ≡ map f parts) l (each_part f parts)

-- a bag by an agreement in the keys
agreed_bag : (keys : List (List Key)) (H : List Key) (ds : List Bool) (rule : List Value → List (List Row) → List Row) → KeyRule (columns_of keys) (cols H) rule →
    (states : List State) (degree : ℕ) (inputs : List (List (List Row))) (wholes : List (List Row)) → 0 < degree → KeyedNeeds true keys states → AllHold states inputs wholes → Lengths degree inputs →
    Bag (map (λ p. for_values false ds (columns_of keys) rule (slice p inputs)) (range_with_len 0 degree)) (for_values false ds (columns_of keys) rule wholes)
agreed_bag keys H ds rule k states degree inputs wholes some n h l =
    agree_bag (cols H) (map (λ p. for_values false ds (columns_of keys) rule (slice p inputs)) (range_with_len 0 degree)) (for_values false ds (columns_of keys) rule wholes)
    (keyed_agree false ds (columns_of keys) (cols H) rule k (λ xs ys. xs ≡ ys) (λ v xs ys e. ap (rule v) e) degree inputs wholes
    (ready_meets (num (place_of_first keys states) degree) degree (columns_of keys) inputs wholes (λ v. num_below (place_of_first keys states) degree v some) ((needs_ready true keys states degree inputs wholes n h l).1 (needs_all keys states n))))

get_ways : (ds : List Bool) (keys : List (List Key)) (q : ℕ) → SameWays ds keys → q < length keys → ways (get_keys keys q) ≡ ds
get_ways ds [] q h l = absurd (omega arith)
get_ways ds (K ∷ keys) zero h l = h.0
get_ways ds (K ∷ keys) (suc q) h l = get_ways ds keys q h.1 (omega arith)

pub first_ways : (ds : List Bool) (keys : List (List Key)) → SameWays ds keys → 0 < length keys → ways_of keys ≡ ds
first_ways ds [] h l = absurd (omega arith)
first_ways ds (K ∷ keys) h l = h.0

pub some_keys : (agree : Bool) (keys : List (List Key)) (states : List State) → KeyedNeeds agree keys states → 0 < length keys
some_keys agree [] states n = absurd n
some_keys agree (K ∷ keys) states n = omega arith

-- what partition p gives by what is meant of its lists
abbrev pub meant_on : Op → ℕ → ℕ → List (List Row) → List Row
meant_on (dsread segments place) q p inputs = get_or (map (λ (s : Segment). s.rows) segments) p []
meant_on op q p inputs = result op q inputs

abbrev pub meant_faults_on : Op → ℕ → List (List Row) → List Fault
meant_faults_on (dsread segments place) p inputs = get_or (map (λ (s : Segment). s.faults) segments) p []
meant_faults_on op p inputs = faults op inputs

abbrev pub GivesMeant : Op → ℕ → List (List (List Row)) → ℕ → List (List Row) → Type 0
GivesMeant funnel q inputs degree sent = (length sent ≡ degree) × Funnelled 0 inputs sent
GivesMeant op q inputs degree sent = sent ≡ map (λ p. meant_on op q p (slice p inputs)) (range_with_len 0 degree)

-- The law of operators, row by row: the state of each output holds of what the partitions put there.
pub op_holds : (op : Op) (q : ℕ) (ins : List ℕ) (outs : ℕ → ℕ) (states : List State) (degree : ℕ) (inputs : List (List (List Row))) (wholes : List (List Row)) (sent : List (List Row)) →
    IsShaped op ins outs → HasPort op q → Needs op states → FitsDegree op degree → 0 < degree → AllWide ins wholes → AllHold states inputs wholes → Lengths degree inputs → GivesMeant op q inputs degree sent → Holds (derived_op op q states) sent (result op q wholes)
op_holds (import lines rejects beyond) q ins outs states degree inputs wholes sent s t n f some w h l g = subst (λ ps. Holds (derived_op (import lines rejects beyond) q states) ps (result (import lines rejects beyond) q wholes)) (sym g) (import_holds (flat_map (line_rows q rejects) lines) degree f)
op_holds (dsread segments place) q ins outs states degree inputs wholes sent s t n f some w h l g = subst (λ ps. Holds (read_state (length segments) place) ps (result (dsread segments place) q wholes)) (sym g) (read_holds place segments degree f s.0 s.2)
op_holds (by_row rule) q ins outs [] degree inputs wholes sent s t n f some w h l g = absurd n
op_holds (by_row rule) q ins outs (a ∷ []) degree [] wholes sent s t n f some w h l g = absurd h
op_holds (by_row rule) q ins outs (a ∷ []) degree (parts ∷ inputs) [] sent s t n f some w h l g = absurd h
op_holds (by_row rule) q [] outs (a ∷ []) degree (parts ∷ inputs) (whole ∷ wholes) sent s t n f some w h l g = absurd w
op_holds (by_row rule) q (x ∷ ins) outs (a ∷ []) degree (parts ∷ inputs) (whole ∷ wholes) sent s t n f some w h l g =
    subst (λ ps. Holds (derived_op (by_row rule) q (a ∷ [])) ps (flat_map (rule.rows q) whole)) (sym (g ∙ each_input (flat_map (rule.rows q)) parts degree l.0)) (rows_hold (rule.passes q) x (rule.rows q) (s.passes q) (s.one q) a parts whole n w.0 h.0)
op_holds (by_row rule) q ins outs (a ∷ (b ∷ states)) degree inputs wholes sent s t n f some w h l g = absurd n
op_holds (tsort keys) q ins outs [] degree inputs wholes sent s t n f some w h l g = absurd n
op_holds (tsort keys) q ins outs (a ∷ []) degree [] wholes sent s t n f some w h l g = absurd h
op_holds (tsort keys) q ins outs (a ∷ []) degree (parts ∷ inputs) [] sent s t n f some w h l g = absurd h
op_holds (tsort keys) q ins outs (a ∷ []) degree (parts ∷ inputs) (whole ∷ wholes) sent s t n f some w h l g =
    subst (λ ps. Holds (derived_op (tsort keys) q (a ∷ [])) ps (arranged keys whole)) (sym (g ∙ each_input (arranged keys) parts degree l.0)) (sorted_holds (Some keys) a parts whole n h.0)
op_holds (tsort keys) q ins outs (a ∷ (b ∷ states)) degree inputs wholes sent s t n f some w h l g = absurd n
op_holds (remdup last keys) q ins outs [] degree inputs wholes sent s t n f some w h l g = absurd n
op_holds (remdup last keys) q ins outs (a ∷ []) degree [] wholes sent s t n f some w h l g = absurd h
op_holds (remdup last keys) q ins outs (a ∷ []) degree (parts ∷ inputs) [] sent s t n f some w h l g = absurd h
op_holds (remdup last keys) q ins outs (a ∷ []) degree (parts ∷ inputs) (whole ∷ wholes) sent s t n f some w h l g =
    subst (λ ps. Holds (derived_op (remdup last keys) q (a ∷ [])) ps (by_key keys (one_row last) whole)) (sym (g ∙ each_input (by_key keys (one_row last)) parts degree l.0)) (remdup_holds last keys a parts whole n.0 n.1 n.2 h.0)
op_holds (remdup last keys) q ins outs (a ∷ (b ∷ states)) degree inputs wholes sent s t n f some w h l g = absurd n
op_holds (group k) q ins outs [] degree inputs wholes sent s t n f some w h l g = absurd n
op_holds (group k) q ins outs (a ∷ []) degree [] wholes sent s t n f some w h l g = absurd h
op_holds (group k) q ins outs (a ∷ []) degree (parts ∷ inputs) [] sent s t n f some w h l g = absurd h
op_holds (group k) q ins outs (a ∷ []) degree (parts ∷ []) (whole ∷ []) sent s t n f some w h l g = subst (λ ps. Holds (derived_op (group k) q (a ∷ [])) ps (result (group k) q (whole ∷ []))) (sym g) (group_holds k outs a parts whole degree some s n.0 n.1 n.2 l.0 h.0)
op_holds (group k) q ins outs (a ∷ []) degree (parts ∷ []) (whole ∷ (b ∷ wholes)) sent s t n f some w h l g = absurd h.1
op_holds (group k) q ins outs (a ∷ []) degree (parts ∷ (b ∷ inputs)) (whole ∷ wholes) sent s t n f some w h l g = absurd h.1
op_holds (group k) q ins outs (a ∷ (b ∷ states)) degree inputs wholes sent s t n f some w h l g = absurd n
op_holds (join j) q ins outs states degree inputs wholes sent s t n f some w h l g =
    let keys = j.left_keys ∷ (j.right_keys ∷ []) in
    subst (λ ps. Holds (derived_op (join j) q states) ps (result (join j) q wholes)) (sym g)
    (keyed_holds false keys (first_keys 0 j.left_keys) (ways j.left_keys) (join_rule j) (ways-first 0 j.left_keys) (join_key_rule j s.0) states degree inputs wholes some n h l
    (keyed_bag false (ways j.left_keys) (columns_of keys) (cols (first_keys 0 j.left_keys)) (join_rule j) (join_key_rule j s.0) Permuted (join_permuted j) degree inputs wholes
    (ready_meets_bag (num (place_of_first keys states) degree) degree (columns_of keys) inputs wholes (λ v. num_below (place_of_first keys states) degree v some) (needs_ready false keys states degree inputs wholes n h l).0)))
op_holds (merge m) q ins outs states degree inputs wholes sent s t n f some w h l g =
    let keyed = merge_key_rule m ins outs s q in
    subst (λ ps. Holds (derived_op (merge m) q states) ps (result (merge m) q wholes)) (sym g)
    (keyed_holds true m.keys (get_keys m.keys q) (ways_of m.keys) (merge_rule m q) (get_ways s.ds m.keys q s.ways t ∙ sym (first_ways s.ds m.keys s.ways (some_keys true m.keys states n))) keyed states degree inputs wholes some n h l
    (agreed_bag m.keys (get_keys m.keys q) (ways_of m.keys) (merge_rule m q) keyed states degree inputs wholes some n h l))
op_holds (lookup k) q ins outs [] degree inputs wholes sent s t n f some w h l g = absurd n
op_holds (lookup k) q ins outs (a ∷ []) degree inputs wholes sent s t n f some w h l g = absurd n
op_holds (lookup k) q ins outs (a ∷ (b ∷ [])) degree [] wholes sent s t n f some w h l g = absurd h
op_holds (lookup k) q ins outs (a ∷ (b ∷ [])) degree (A ∷ inputs) [] sent s t n f some w h l g = absurd h
op_holds (lookup k) q ins outs (a ∷ (b ∷ [])) degree (A ∷ []) (SA ∷ wholes) sent s t n f some w h l g = absurd h.1
op_holds (lookup k) q ins outs (a ∷ (b ∷ [])) degree (A ∷ (B ∷ inputs)) (SA ∷ []) sent s t n f some w h l g = absurd h.1
op_holds (lookup k) q [] outs (a ∷ (b ∷ [])) degree (A ∷ (B ∷ inputs)) (SA ∷ (SB ∷ wholes)) sent s t n f some w h l g = absurd w
op_holds (lookup k) q (x ∷ ins) outs (a ∷ (b ∷ [])) degree (A ∷ (B ∷ inputs)) (SA ∷ (SB ∷ wholes)) sent s t n f some w h l g =
    subst (λ ps. Holds (derived_op (lookup k) q (a ∷ (b ∷ []))) ps (flat_map (λ r. looked_row k q r (sub (cols k.reference_keys) (val (cols k.main_keys) r) SB)) SA)) (sym g)
    (lookup_holds k q x a b A B SA SB degree s.0 w.0 n.0 n.1 n.2 h.0 h.1.0 l.0 l.1.0)
op_holds (lookup k) q ins outs (a ∷ (b ∷ (c ∷ states))) degree inputs wholes sent s t n f some w h l g = absurd n
op_holds (changecapture c) q ins outs states degree inputs wholes sent s t n f some w h l g =
    let keys = c.keys ∷ (c.keys ∷ []) in
    let keyed = change_key_rule c (get_or ins 0 0) s.0 s.1 in
    subst (λ ps. Holds (derived_op (changecapture c) q states) ps (result (changecapture c) q wholes)) (sym g)
    (keyed_holds true keys c.keys (ways c.keys) (change_rule c) refl keyed states degree inputs wholes some n h l
    (agreed_bag keys c.keys (ways c.keys) (change_rule c) keyed states degree inputs wholes some n h l))
op_holds funnel q ins outs [] degree inputs wholes sent s t n f some w h l g = absurd n
op_holds funnel q ins outs (a ∷ states) degree inputs wholes sent s t n f some w h l g = funnel_holds (a ∷ states) inputs wholes degree sent n h l g.0 g.1
op_holds funnel_sequence q ins outs [] degree inputs wholes sent s t n f some w h l g = absurd n
op_holds funnel_sequence q ins outs (a ∷ states) degree inputs wholes sent s t n f some w h l g =
    subst (λ ps. Holds (derived_op funnel_sequence q (a ∷ states)) ps (joined wholes)) (sym g) (sequence_holds (a ∷ states) inputs wholes degree some n h l)
op_holds (funnel_sort keys) q ins outs [] degree inputs wholes sent s t n f some w h l g = absurd n
op_holds (funnel_sort keys) q ins outs (a ∷ states) degree inputs wholes sent s t n f some w h l g =
    subst (λ ps. Holds (derived_op (funnel_sort keys) q (a ∷ states)) ps (arranged keys (joined wholes))) (sym g) (sort_funnel_holds keys (a ∷ states) inputs wholes degree some (n.0.0, plain states n.1) h l)
  where
    plain : (ss : List State) → AllByRecursion (λ (b : State). NotEntire b × SortedBy keys b) ss → AllByRecursion NotEntire ss
    plain [] k = tt
    plain (b ∷ ss) k = (k.0.0, plain ss k.1)

abbrev no_fault : ℕ → List Fault
no_fault p = []

no_faults : (ns : List ℕ) → joined (map no_fault ns) ≡ []
no_faults [] = refl
no_faults (n ∷ ns) = no_faults ns

none_failed : (degree : ℕ) → IsPermutation (joined (map no_fault (range_with_len 0 degree))) []
none_failed degree = subst (λ xs. IsPermutation xs []) (sym (no_faults (range_with_len 0 degree))) (IsPermutation-refl [])

-- The law of faults: those of the partitions are those of the whole, as a bag.
pub op_faults : (op : Op) (ins : List ℕ) (outs : ℕ → ℕ) (states : List State) (degree : ℕ) (inputs : List (List (List Row))) (wholes : List (List Row)) →
    IsShaped op ins outs → Needs op states → FitsDegree op degree → 0 < degree → AllHold states inputs wholes → Lengths degree inputs → IsPermutation (joined (map (λ p. meant_faults_on op p (slice p inputs)) (range_with_len 0 degree))) (faults op wholes)
op_faults (import lines rejects beyond) ins outs states degree inputs wholes s n f some h l =
    subst (λ k. IsPermutation (joined (map (λ p. flat_map (line_faults rejects) lines ++ beyond) (range_with_len 0 k))) (flat_map (line_faults rejects) lines ++ beyond)) (sym f)
    (subst (λ xs. IsPermutation xs (flat_map (line_faults rejects) lines ++ beyond)) (sym (Rattle.std.proofs.Common.append-nil (flat_map (line_faults rejects) lines ++ beyond))) (IsPermutation-refl (flat_map (line_faults rejects) lines ++ beyond)))
op_faults (dsread segments place) ins outs states degree inputs wholes s n f some h l = subst (λ xs. IsPermutation xs (faults (dsread segments place) wholes)) (sym (read_faults segments degree f)) (IsPermutation-refl (faults (dsread segments place) wholes))
op_faults (by_row rule) ins outs [] degree inputs wholes s n f some h l = absurd n
op_faults (by_row rule) ins outs (a ∷ []) degree [] wholes s n f some h l = absurd h
op_faults (by_row rule) ins outs (a ∷ []) degree (parts ∷ inputs) [] s n f some h l = absurd h
op_faults (by_row rule) ins outs (a ∷ []) degree (parts ∷ inputs) (whole ∷ wholes) s n f some h l =
    subst (λ ps. IsPermutation (joined ps) (flat_map rule.faults whole)) (sym (each_input (flat_map rule.faults) parts degree l.0)) (rows_bag rule.faults parts whole (holds_plain a.place a parts whole n h.0).0.bag)
op_faults (by_row rule) ins outs (a ∷ (b ∷ states)) degree inputs wholes s n f some h l = absurd n
op_faults (tsort keys) ins outs states degree inputs wholes s n f some h l = none_failed degree
op_faults (remdup last keys) ins outs states degree inputs wholes s n f some h l = none_failed degree
op_faults (group k) ins outs [] degree inputs wholes s n f some h l = absurd n
op_faults (group k) ins outs (a ∷ []) degree [] wholes s n f some h l = absurd h
op_faults (group k) ins outs (a ∷ []) degree (parts ∷ inputs) [] s n f some h l = absurd h
op_faults (group k) ins outs (a ∷ []) degree (parts ∷ []) (whole ∷ []) s n f some h l = group_fault_bag k outs a parts whole degree some s n.0 n.1 n.2 l.0 h.0
op_faults (group k) ins outs (a ∷ []) degree (parts ∷ []) (whole ∷ (b ∷ wholes)) s n f some h l = absurd h.1
op_faults (group k) ins outs (a ∷ []) degree (parts ∷ (b ∷ inputs)) (whole ∷ wholes) s n f some h l = absurd h.1
op_faults (group k) ins outs (a ∷ (b ∷ states)) degree inputs wholes s n f some h l = absurd n
op_faults (join j) ins outs states degree inputs wholes s n f some h l = none_failed degree
op_faults (merge m) ins outs states degree inputs wholes s n f some h l = none_failed degree
op_faults (lookup k) ins outs [] degree inputs wholes s n f some h l = absurd n
op_faults (lookup k) ins outs (a ∷ []) degree inputs wholes s n f some h l = absurd n
op_faults (lookup k) ins outs (a ∷ (b ∷ [])) degree [] wholes s n f some h l = absurd h
op_faults (lookup k) ins outs (a ∷ (b ∷ [])) degree (A ∷ inputs) [] s n f some h l = absurd h
op_faults (lookup k) ins outs (a ∷ (b ∷ [])) degree (A ∷ []) (SA ∷ wholes) s n f some h l = absurd h.1
op_faults (lookup k) ins outs (a ∷ (b ∷ [])) degree (A ∷ (B ∷ inputs)) (SA ∷ []) s n f some h l = absurd h.1
op_faults (lookup k) ins outs (a ∷ (b ∷ [])) degree (A ∷ (B ∷ inputs)) (SA ∷ (SB ∷ wholes)) s n f some h l = lookup_faults k a b A B SA SB degree n.0 n.1 n.2 h.0 h.1.0 l.0 l.1.0
op_faults (lookup k) ins outs (a ∷ (b ∷ (c ∷ states))) degree inputs wholes s n f some h l = absurd n
op_faults (changecapture c) ins outs states degree inputs wholes s n f some h l = none_failed degree
op_faults funnel ins outs states degree inputs wholes s n f some h l = none_failed degree
op_faults funnel_sequence ins outs states degree inputs wholes s n f some h l = none_failed degree
op_faults (funnel_sort keys) ins outs states degree inputs wholes s n f some h l = none_failed degree
