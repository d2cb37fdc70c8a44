-- On the partitions of inputs that are sorted as the needs ask, operators give what is meant of their lists.
use Rattle.std.proofs.Common.{Bool, List, ap, append-nil, ap₂, arith, cond, false, flat_map, get_or, length, map, refl, subst, suc, sym, true, ℕ, ◌≡◌, ◌+◌, ◌∷◌, ◌++◌, ◌∙◌, []}
use Rattle.std.specs.List.{AllByRecursion, range_with_len}
use Rattle.ds_schema.specs.Rows.{cols, row_cmp, sub, val, vals_cmp, ways}
use Rattle.ds_schema.specs.declared.key.Key.{Key}
use Rattle.ds_value.specs.declared.value.Value.{Value}
use Rattle.flow_graph.specs.Operators.{Op, by_row, changecapture, dsread, faults, funnel, funnel_sequence, funnel_sort, group, import, join, lookup, merge, remdup, result, tsort}
use Rattle.flow_graph.specs.Runs.{Gives, Merged, faults_on, result_on, slice}
use Rattle.flow_graph.specs.Shapes.{IsShaped, SameWays}
use Rattle.flow_graph.specs.States.{AllHold, Holds}
use Rattle.flow_graph.specs.declared.state.State.{State}
use Rattle.op_base.specs.Columns.{Row}
use Rattle.op_base.specs.Feeds.{AreSorted, by_runs}
use Rattle.op_base.specs.Keyed.{arranged, by_key, for_values}
use Rattle.op_base.specs.Lists.{IsArranged, firsts, joined}
use Rattle.op_base.specs.Meanings.{Grouping, change_rule, columns_of, group_faults, group_rows, input, join_rule, merge_rule, one_row, ways_of}
use Rattle.flow_graph.proofs.StateLaws.{holds_plain}
use Rattle.flow_rules.proofs.NeedTypes.{KeyedNeeds, Needs, NotEntire, OtherNeeds, SortedBy, SortedIf}
use Rattle.flow_rules.proofs.OpHolds.{GivesMeant, first_ways, meant_faults_on, some_keys}
use Rattle.op_base.proofs.All.{all_at}
use Rattle.op_base.proofs.FeedLaws.{by_runs_is}
use Rattle.op_base.proofs.KeyLaws.{by_key_ranks}
use Rattle.op_base.proofs.KeySorts.{arranged_first}
use Rattle.op_base.proofs.Merging.{merge_is}
use Rattle.op_base.proofs.Orders.{row_total}

part_sorted : (K : List Key) (s : State) (parts : List (List Row)) (whole : List Row) → NotEntire s → SortedBy K s → Holds s parts whole → (p : ℕ) → IsArranged (row_cmp K) (get_or parts p [])
part_sorted K s parts whole e b h p =
    arranged_first K b.0 (get_or parts p []) (all_at (IsArranged (row_cmp (K ++ b.0))) tt parts p (subst (λ ks. AllByRecursion (IsArranged (row_cmp ks)) parts) b.1 (holds_plain s.place s parts whole e h).0.sorted.0))

in_ways : (ds : List Bool) (K : List Key) (rows : List Row) → ways K ≡ ds → IsArranged (row_cmp K) rows → IsArranged (λ x y. vals_cmp ds (val (cols K) x) (val (cols K) y)) rows
in_ways ds K rows e h = subst (λ w. IsArranged (λ x y. vals_cmp w (val (cols K) x) (val (cols K) y)) rows) e h

others_up : (agree : Bool) (K0 : List Key) (s0 : State) (ds : List Bool) (keys : List (List Key)) (states : List State) (inputs : List (List (List Row))) (wholes : List (List Row)) → SameWays ds keys → OtherNeeds agree K0 s0 keys states → AllHold states inputs wholes → (p : ℕ) → AreSorted ds (columns_of keys) (slice p inputs)
others_up agree K0 s0 ds [] states inputs wholes w n h p = tt
others_up agree K0 s0 ds (K ∷ keys) [] inputs wholes w n h p = absurd n
others_up agree K0 s0 ds (K ∷ keys) (s ∷ states) [] wholes w n h p = tt
others_up agree K0 s0 ds (K ∷ keys) (s ∷ states) (parts ∷ inputs) [] w n h p = absurd h
others_up agree K0 s0 ds (K ∷ keys) (s ∷ states) (parts ∷ inputs) (whole ∷ wholes) w n h p =
    (in_ways ds K (get_or parts p []) w.0 (part_sorted K s parts whole n.0 n.3 h.0 p), others_up agree K0 s0 ds keys states inputs wholes w.1 n.4 h.1 p)

keyed_up : (agree : Bool) (ds : List Bool) (keys : List (List Key)) (states : List State) (inputs : List (List (List Row))) (wholes : List (List Row)) → SameWays ds keys → KeyedNeeds agree keys states → AllHold states inputs wholes → (p : ℕ) → AreSorted ds (columns_of keys) (slice p inputs)
keyed_up agree ds [] states inputs wholes w n h p = tt
keyed_up agree ds (K ∷ keys) [] inputs wholes w n h p = absurd n
keyed_up agree ds (K ∷ keys) (s ∷ states) [] wholes w n h p = tt
keyed_up agree ds (K ∷ keys) (s ∷ states) (parts ∷ inputs) [] w n h p = absurd h
keyed_up agree ds (K ∷ keys) (s ∷ states) (parts ∷ inputs) (whole ∷ wholes) w n h p =
    (in_ways ds K (get_or parts p []) w.0 (part_sorted K s parts whole n.0 n.3 h.0 p), others_up agree K s ds keys states inputs wholes w.1 n.4 h.1 p)

one_up : (K : List Key) (s : State) (inputs : List (List (List Row))) (wholes : List (List Row)) → NotEntire s → SortedBy K s → AllHold (s ∷ []) inputs wholes → (p : ℕ) → AreSorted (ways K) (cols K ∷ []) (slice p inputs)
one_up K s [] wholes e b h p = tt
one_up K s (parts ∷ inputs) [] e b h p = absurd h
one_up K s (parts ∷ inputs) (whole ∷ wholes) e b h p = (part_sorted K s parts whole e b h.0 p, tt)

map_agree : {Y : Type 0} (f g : ℕ → Y) → ((p : ℕ) → f p ≡ g p) → (ns : List ℕ) → map f ns ≡ map g ns
map_agree f g h [] = refl
map_agree f g h (n ∷ ns) = ap₂ (λ a b. a ∷ b) (h n) (map_agree f g h ns)

-- one row of each run
runs_by_key : (keys : List Key) (rule : List Row → List Row) (s : State) (inputs : List (List (List Row))) (wholes : List (List Row)) → rule [] ≡ [] → NotEntire s → SortedBy keys s → AllHold (s ∷ []) inputs wholes → (p : ℕ) →
    by_runs (ways keys) (cols keys ∷ []) (λ v same. rule (input 0 same)) (slice p inputs) ≡ by_key keys rule (input 0 (slice p inputs))
runs_by_key keys rule s inputs wholes none e b h p = by_runs_is (ways keys) (cols keys ∷ []) (λ v same. rule (input 0 same)) (slice p inputs) (one_up keys s inputs wholes e b h p) ∙ go (slice p inputs)
  where
    go : (xs : List (List Row)) → for_values false (ways keys) (cols keys ∷ []) (λ v same. rule (input 0 same)) xs ≡ by_key keys rule (input 0 xs)
    go [] = refl
    go (rows ∷ xs) = ap (λ qs. flat_map (λ v. rule (sub (cols keys) v rows)) (firsts (vals_cmp (ways keys)) qs)) (append-nil (map (val (cols keys)) rows))

group_runs : {Y : Type 0} (g : Grouping) (rule : List Value → List (List Row) → List Y) (s : State) (inputs : List (List (List Row))) (wholes : List (List Row)) → NotEntire s → SortedIf (cond g.hashes false true) g.keys s → AllHold (s ∷ []) inputs wholes → (p : ℕ) →
    cond g.hashes (for_values g.hashes (ways g.keys) (cols g.keys ∷ []) rule (slice p inputs)) (by_runs (ways g.keys) (cols g.keys ∷ []) rule (slice p inputs)) ≡ for_values g.hashes (ways g.keys) (cols g.keys ∷ []) rule (slice p inputs)
group_runs g rule s inputs wholes e b h p = go g.hashes b
  where
    go : (b : Bool) → SortedIf (cond b false true) g.keys s → cond b (for_values b (ways g.keys) (cols g.keys ∷ []) rule (slice p inputs)) (by_runs (ways g.keys) (cols g.keys ∷ []) rule (slice p inputs)) ≡ for_values b (ways g.keys) (cols g.keys ∷ []) rule (slice p inputs)
    go true k = refl
    go false k = by_runs_is (ways g.keys) (cols g.keys ∷ []) rule (slice p inputs) (one_up g.keys s inputs wholes e k h p)

-- the merge of sorted inputs
slices_sorted : (keys : List Key) (states : List State) (inputs : List (List (List Row))) (wholes : List (List Row)) → AllByRecursion (λ (s : State). NotEntire s × SortedBy keys s) states → AllHold states inputs wholes → (p : ℕ) → AllByRecursion (IsArranged (row_cmp keys)) (slice p inputs)
slices_sorted keys [] [] wholes n h p = tt
slices_sorted keys [] (parts ∷ inputs) wholes n h p = absurd h
slices_sorted keys (s ∷ states) [] wholes n h p = tt
slices_sorted keys (s ∷ states) (parts ∷ inputs) [] n h p = absurd h
slices_sorted keys (s ∷ states) (parts ∷ inputs) (whole ∷ wholes) n h p = (part_sorted keys s parts whole n.0.0 n.0.1 h.0 p, slices_sorted keys states inputs wholes n.1 h.1 p)

merged_all : (keys : List Key) (inputs : List (List (List Row))) → ((p : ℕ) → AllByRecursion (IsArranged (row_cmp keys)) (slice p inputs)) → (n : ℕ) (sent : List (List Row)) → Merged keys n inputs sent → sent ≡ map (λ p. arranged keys (joined (slice p inputs))) (range_with_len n (length sent))
merged_all keys inputs up n [] m = refl
merged_all keys inputs up n (rows ∷ sent) m =
    ap₂ (λ a b. a ∷ b) (merge_is (row_total keys) (slice n inputs) rows (up n) m.0 ∙ sym (by_key_ranks keys (λ same. same) (joined (slice n inputs))))
    (merged_all keys inputs up (suc n) sent m.1 ∙ ap (λ k. map (λ p. arranged keys (joined (slice p inputs))) (range_with_len k (length sent))) (suc_is n))
  where
    suc_is : (k : ℕ) → suc k ≡ k + 1
    suc_is k = omega arith

-- What the partitions give by their feeds is what is meant of their lists.
pub gives_meant : (op : Op) (q : ℕ) (ins : List ℕ) (outs : ℕ → ℕ) (states : List State) (degree : ℕ) (inputs : List (List (List Row))) (wholes : List (List Row)) (sent : List (List Row)) → IsShaped op ins outs → Needs op states → AllHold states inputs wholes → Gives op q inputs degree sent → GivesMeant op q inputs degree sent
gives_meant (import lines rejects beyond) q ins outs states degree inputs wholes sent s n h g = g
gives_meant (dsread segments place) q ins outs states degree inputs wholes sent s n h g = g
gives_meant (by_row rule) q ins outs states degree inputs wholes sent s n h g = g
gives_meant (tsort keys) q ins outs states degree inputs wholes sent s n h g = g
gives_meant (remdup last keys) q ins outs [] degree inputs wholes sent s n h g = absurd n
gives_meant (remdup last keys) q ins outs (a ∷ []) degree inputs wholes sent s n h g =
    g ∙ map_agree (λ p. result_on (remdup last keys) q p (slice p inputs)) (λ p. by_key keys (one_row last) (input 0 (slice p inputs))) (runs_by_key keys (one_row last) a inputs wholes (none last) n.0 n.2 h) (range_with_len 0 degree)
  where
    none : (b : Bool) → one_row b [] ≡ []
    none true = refl
    none false = refl
gives_meant (remdup last keys) q ins outs (a ∷ (b ∷ states)) degree inputs wholes sent s n h g = absurd n
gives_meant (group k) q ins outs [] degree inputs wholes sent s n h g = absurd n
gives_meant (group k) q ins outs (a ∷ []) degree inputs wholes sent s n h g =
    g ∙ map_agree (λ p. result_on (group k) q p (slice p inputs)) (λ p. result (group k) q (slice p inputs)) (group_runs k (λ v same. group_rows k v (input 0 same)) a inputs wholes n.0 n.3 h) (range_with_len 0 degree)
gives_meant (group k) q ins outs (a ∷ (b ∷ states)) degree inputs wholes sent s n h g = absurd n
gives_meant (join j) q ins outs states degree inputs wholes sent s n h g =
    g ∙ map_agree (λ p. result_on (join j) q p (slice p inputs)) (λ p. result (join j) q (slice p inputs))
    (λ p. by_runs_is (ways j.left_keys) (cols j.left_keys ∷ (cols j.right_keys ∷ [])) (join_rule j) (slice p inputs) (keyed_up false (ways j.left_keys) (j.left_keys ∷ (j.right_keys ∷ [])) states inputs wholes (refl, (s.0, tt)) n h p)) (range_with_len 0 degree)
gives_meant (merge m) q ins outs states degree inputs wholes sent s n h g =
    let same = first_ways s.ds m.keys s.ways (some_keys true m.keys states n) in
    g ∙ map_agree (λ p. result_on (merge m) q p (slice p inputs)) (λ p. result (merge m) q (slice p inputs))
    (λ p. by_runs_is (ways_of m.keys) (columns_of m.keys) (merge_rule m q) (slice p inputs) (keyed_up true (ways_of m.keys) m.keys states inputs wholes (subst (λ ds. SameWays ds m.keys) (sym same) s.ways) n h p)) (range_with_len 0 degree)
gives_meant (lookup k) q ins outs states degree inputs wholes sent s n h g = g
gives_meant (changecapture c) q ins outs states degree inputs wholes sent s n h g =
    g ∙ map_agree (λ p. result_on (changecapture c) q p (slice p inputs)) (λ p. result (changecapture c) q (slice p inputs))
    (λ p. by_runs_is (ways c.keys) (cols c.keys ∷ (cols c.keys ∷ [])) (change_rule c) (slice p inputs) (keyed_up true (ways c.keys) (c.keys ∷ (c.keys ∷ [])) states inputs wholes (refl, (refl, tt)) n h p)) (range_with_len 0 degree)
gives_meant funnel q ins outs states degree inputs wholes sent s n h g = g
gives_meant funnel_sequence q ins outs states degree inputs wholes sent s n h g = g
gives_meant (funnel_sort keys) q ins outs [] degree inputs wholes sent s n h g = absurd n
gives_meant (funnel_sort keys) q ins outs (a ∷ states) degree inputs wholes sent s n h g =
    merged_all keys inputs (slices_sorted keys (a ∷ states) inputs wholes n h) 0 sent g.1 ∙ ap (λ k. map (λ p. arranged keys (joined (slice p inputs))) (range_with_len 0 k)) g.0

pub faults_meant : (op : Op) (ins : List ℕ) (outs : ℕ → ℕ) (states : List State) (degree : ℕ) (inputs : List (List (List Row))) (wholes : List (List Row)) → IsShaped op ins outs → Needs op states → AllHold states inputs wholes →
    map (λ p. faults_on op p (slice p inputs)) (range_with_len 0 degree) ≡ map (λ p. meant_faults_on op p (slice p inputs)) (range_with_len 0 degree)
faults_meant (group k) ins outs [] degree inputs wholes s n h = absurd n
faults_meant (group k) ins outs (a ∷ []) degree inputs wholes s n h =
    map_agree (λ p. faults_on (group k) p (slice p inputs)) (λ p. faults (group k) (slice p inputs)) (group_runs k (λ v same. group_faults k v (input 0 same)) a inputs wholes n.0 n.3 h) (range_with_len 0 degree)
faults_meant (group k) ins outs (a ∷ (b ∷ states)) degree inputs wholes s n h = absurd n
faults_meant op ins outs states degree inputs wholes s n h = refl
