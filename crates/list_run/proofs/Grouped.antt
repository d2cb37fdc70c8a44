-- What a group emits is what it means in a flow.
use Rattle.std.proofs.Common.{◌≡◌, ℕ, zero, suc, ◌≤◌, Bool, true, false, List, [], ◌∷◌, ◌++◌, map, length, append_assoc, refl, sym, ap, ap₂, ◌∙◌, subst, arith}
use Rattle.std.specs.Prelude.{Option, Some, None, Result}
use Rattle.std.specs.Result.{IfOk}
use Rattle.std.specs.List.{AllByRecursion, flat_map, list_all}
use Rattle.std.proofs.lemmas.Result.{IfOk-weaker}
use Rattle.std.proofs.lemmas.List.{map-append}
use Rattle.std.proofs.lemmas.List.Folds.{list_all-append}
use Rattle.streams.specs.Streams.{Feed, Gives, emits, on, rows_of}
use Rattle.streams.proofs.Basics.{and_left, and_right, and_true}
use Rattle.ds_value.specs.declared.value.Value.{Value}
use Rattle.ds_schema.specs.declared.key.Key.{Key}
use Rattle.ds_schema.specs.Rows.{at, cols, ways}
use Rattle.op_base.specs.declared.fault.Fault.{Fault}
use Rattle.op_base.specs.declared.emit.Emit.{Emit}
use Rattle.op_base.specs.Columns.{Row}
use Rattle.op_base.specs.Feeds.{run_by_run, taken_off, heads_in, behinds, fronts, least_of, rows_in}
use Rattle.op_base.specs.Keyed.{get_keys, in_order, keys_in, subs}
use Rattle.op_base.specs.Meanings.{Grouping, group_faults, input, overflow}
use Rattle.op_base.specs.Standing.{RowStream, row_feed, end_feed}
use Rattle.op_base.specs.WholeLists.{HasEmitted, SuitsEach, list_feeds}
use Rattle.op_base.proofs.All.{all_append, all_flat_each}
use Rattle.op_base.proofs.StandingLaws.{rows_of-row, rows_of-end}
use Rattle.op_group.specs.declared.agg.Agg.{Agg}
use Rattle.op_group.specs.declared.agg.Agg.TheVariants as agg
use Rattle.op_group.specs.Groups.{hashed_stream, sorted_stream, group_suits, row_suits, sums_alike, alike}
use Rattle.op_group.specs.Results.{column, grouping}
use Rattle.op_group.proofs.Means.{hashed-groups, sorted-groups}
use Rattle.flow_graph.specs.declared.op_kind.AggSpec.{AggSpec}
use Rattle.flow_graph.specs.declared.op_kind.OpKind.{OpKind}
use Rattle.flow_graph.specs.declared.op_kind.OpKind.TheVariants as kind
use Rattle.flow_graph.specs.declared.parts.OpParts.{OpParts}
use Rattle.flow_graph.specs.Operators.{group}
use Rattle.flow_graph.specs.RowRules.{at_op}
use Rattle.flow_graph.specs.Runs.{result_on, faults_on}
use Rattle.flow_ops.specs.Keyed.{aggs_of, grouping_at}
use Rattle.list_run.specs.Found.{AreUnnumbered}
use Rattle.list_run.specs.Grouped.{Groups}
use Rattle.list_run.specs.Worked.{HasWorked, SuitsGroup, place_of}

-- a beginning of rows that suit a group suits it
front_all : (p : Value → Bool) (vs ws : List Value) → list_all p (vs ++ ws) ≡ true → list_all p vs ≡ true
front_all p vs ws h = and_left _ _ (sym (list_all-append p vs ws) ∙ h)

weaker_all : (p q : Value → Bool) (vs : List Value) → ((v : Value) → p v ≡ true → q v ≡ true) → list_all p vs ≡ true → list_all q vs ≡ true
weaker_all p q [] w h = refl
weaker_all p q (v ∷ vs) w h = and_true (w v (and_left _ _ h)) (weaker_all p q vs w (and_right _ _ h))

pairs_front : (vs ws : List Value) → list_all (λ v. list_all (alike v) (vs ++ ws)) (vs ++ ws) ≡ true → list_all (λ v. list_all (alike v) vs) vs ≡ true
pairs_front vs ws h = weaker_all (λ v. list_all (alike v) (vs ++ ws)) (λ v. list_all (alike v) vs) vs (λ v. front_all (alike v) vs ws) (front_all (λ v. list_all (alike v) (vs ++ ws)) vs ws h)

alike_front : (xs ys : List Row) (a : Agg) → sums_alike (xs ++ ys) a ≡ true → sums_alike xs a ≡ true
alike_front xs ys (agg.Sum col) h = pairs_front (column col xs) (column col ys) (subst (λ (vs : List Value). list_all (λ v. list_all (alike v) vs) vs ≡ true) (map-append (λ (r : Row). at r col) xs ys) h)
alike_front xs ys agg.Count h = refl
alike_front xs ys (agg.Min col) h = refl
alike_front xs ys (agg.Max col) h = refl
alike_front xs ys (agg.First col) h = refl
alike_front xs ys (agg.Last col) h = refl

each_front : (xs ys : List Row) (aggs : List Agg) → list_all (sums_alike (xs ++ ys)) aggs ≡ true → list_all (sums_alike xs) aggs ≡ true
each_front xs ys [] h = refl
each_front xs ys (a ∷ aggs) h = and_true (alike_front xs ys a (and_left _ _ h)) (each_front xs ys aggs (and_right _ _ h))

suits_front : (keys : List Key) (aggs : List Agg) (xs ys : List Row) → SuitsGroup keys aggs (xs ++ ys) → SuitsGroup keys aggs xs
suits_front keys aggs xs ys h = (and_left _ _ (sym (list_all-append (row_suits keys aggs) xs ys) ∙ h.0), each_front xs ys aggs h.1)

suits_feeds : (keys : List Key) (aggs : List Agg) (feeds : List (Feed Row)) (rows : List Row) → rows_of 0 feeds ≡ rows → SuitsGroup keys aggs rows → group_suits keys aggs feeds ≡ true
suits_feeds keys aggs feeds rows e h = let k = subst (SuitsGroup keys aggs) (sym e) h in and_true k.0 k.1

suits_after : (keys : List Key) (aggs : List Agg) (done : List (Feed Row)) (before rows : List Row) → rows_of 0 done ≡ before → SuitsGroup keys aggs (before ++ rows) → SuitsEach (group_suits keys aggs) done (list_feeds rows)
suits_after keys aggs done before [] e h = (suits_feeds keys aggs (done ++ end_feed 0 ∷ []) before (rows_of-end 0 0 done ∙ e) (suits_front keys aggs before [] h), tt)
suits_after keys aggs done before (r ∷ rows) e h =
    let now : rows_of 0 (done ++ row_feed 0 r ∷ []) ≡ before ++ r ∷ [] = rows_of-row 0 done r ∙ ap (λ rs. rs ++ r ∷ []) e in
    let all : SuitsGroup keys aggs ((before ++ r ∷ []) ++ rows) = subst (SuitsGroup keys aggs) (sym (append_assoc before (r ∷ []) rows)) h in
    (suits_feeds keys aggs (done ++ row_feed 0 r ∷ []) (before ++ r ∷ []) now (suits_front keys aggs (before ++ r ∷ []) rows all), suits_after keys aggs (done ++ row_feed 0 r ∷ []) (before ++ r ∷ []) rows now all)

pub group_fed : (keys : List Key) (aggs : List Agg) (rows : List Row) → SuitsGroup keys aggs rows → SuitsEach (group_suits keys aggs) [] (list_feeds rows)
group_fed keys aggs rows h = suits_after keys aggs [] [] rows refl h

-- a whole list, fed to a group
pub is_sorted : (keys : List Key) (aggs : List Agg) (rows : List Row) (emit : Emit) (s : RowStream) → s ≡ sorted_stream keys aggs → HasEmitted emit (emits s (list_feeds rows)) → Gives s (λ i. rows) (emits s (list_feeds rows)) → Groups (grouping keys false aggs) rows emit
is_sorted keys aggs rows emit s e has gives = record {
  given = emits s (list_feeds rows);
  emitted = has;
  means = sorted-groups keys aggs (λ i. rows) (emits s (list_feeds rows)) (subst (λ (z : RowStream). Gives z (λ i. rows) (emits s (list_feeds rows))) e gives);
}

pub is_hashed : (keys : List Key) (aggs : List Agg) (rows : List Row) (emit : Emit) (s : RowStream) → s ≡ hashed_stream keys aggs → HasEmitted emit (emits s (list_feeds rows)) → Gives s (λ i. rows) (emits s (list_feeds rows)) → Groups (grouping keys true aggs) rows emit
is_hashed keys aggs rows emit s e has gives = record {
  given = emits s (list_feeds rows);
  emitted = has;
  means = hashed-groups keys aggs (λ i. rows) (emits s (list_feeds rows)) (subst (λ (z : RowStream). Gives z (λ i. rows) (emits s (list_feeds rows))) e gives);
}

-- what a rule gives run by run, each with something done to it
runs_mapped : {X Y : Type 0} (f : X → Y) (rule : List Value → List (List Row) → List X) (other : List Value → List (List Row) → List Y) → ((v : List Value) (same : List (List Row)) → map f (rule v same) ≡ other v same) →
    (n : ℕ) (ds : List Bool) (columns : List (List ℕ)) (inputs : List (List Row)) → map f (run_by_run n ds columns rule inputs) ≡ run_by_run n ds columns other inputs
runs_mapped f rule other h zero ds columns inputs = refl
runs_mapped f rule other h (suc n) ds columns inputs = go (heads_in columns inputs) (runs_mapped f rule other h n ds columns)
  where
    go : (vs : List (List Value)) → ((rest : List (List Row)) → map f (run_by_run n ds columns rule rest) ≡ run_by_run n ds columns other rest) → map f (taken_off ds columns rule inputs (run_by_run n ds columns rule) vs) ≡ taken_off ds columns other inputs (run_by_run n ds columns other) vs
    go [] rec = refl
    go (v ∷ vs) rec =
        let least = least_of ds v vs in
        map-append f (rule least (fronts columns least inputs)) (run_by_run n ds columns rule (behinds columns least inputs))
        ∙ ap₂ (λ a b. a ++ b) (h least (fronts columns least inputs)) (rec (behinds columns least inputs))

-- what is said of all that a rule gives is said of all that is given run by run
runs_all : {X : Type 0} (P : X → Type 0) (rule : List Value → List (List Row) → List X) → ((v : List Value) (same : List (List Row)) → AllByRecursion P (rule v same)) →
    (n : ℕ) (ds : List Bool) (columns : List (List ℕ)) (inputs : List (List Row)) → AllByRecursion P (run_by_run n ds columns rule inputs)
runs_all P rule h zero ds columns inputs = tt
runs_all P rule h (suc n) ds columns inputs = go (heads_in columns inputs) (runs_all P rule h n ds columns)
  where
    go : (vs : List (List Value)) → ((rest : List (List Row)) → AllByRecursion P (run_by_run n ds columns rule rest)) → AllByRecursion P (taken_off ds columns rule inputs (run_by_run n ds columns rule) vs)
    go [] rec = tt
    go (v ∷ vs) rec =
        let least = least_of ds v vs in
        all_append P (rule least (fronts columns least inputs)) (run_by_run n ds columns rule (behinds columns least inputs)) (h least (fronts columns least inputs)) (rec (behinds columns least inputs))

-- and key value by key value
pub values_mapped : {X Y Z : Type 0} (f : X → Y) (rule : Z → List X) (other : Z → List Y) → ((z : Z) → map f (rule z) ≡ other z) → (zs : List Z) → map f (flat_map rule zs) ≡ flat_map other zs
values_mapped f rule other h [] = refl
values_mapped f rule other h (z ∷ zs) = map-append f (rule z) (flat_map rule zs) ∙ ap₂ (λ a b. a ++ b) (h z) (values_mapped f rule other h zs)

-- with the number of the operator
overflow_at : (o : ℕ) (f : Fault) (found : Option (List Value)) → map (at_op o) (overflow f found) ≡ overflow (at_op o f) found
overflow_at o f None = refl
overflow_at o f (Some values) = refl

faults_at : (o : ℕ) (g : Grouping) (v : List Value) (rows : List Row) → map (at_op o) (group_faults g v rows) ≡ group_faults (grouping_at o g) v rows
faults_at o g v [] = refl
faults_at o g v (r ∷ rows) = overflow_at o (g.over v) (g.results (r ∷ rows))

overflow_unnumbered : (f : Fault) → f.op ≡ 0 → (found : Option (List Value)) → AreUnnumbered (overflow f found)
overflow_unnumbered f e None = (e, tt)
overflow_unnumbered f e (Some values) = tt

rule_unnumbered : (keys : List Key) (hashes : Bool) (aggs : List Agg) (v : List Value) (rows : List Row) → AreUnnumbered (group_faults (grouping keys hashes aggs) v rows)
rule_unnumbered keys hashes aggs v [] = tt
rule_unnumbered keys hashes aggs v (r ∷ rows) = overflow_unnumbered ((grouping keys hashes aggs).over v) refl ((grouping keys hashes aggs).results (r ∷ rows))

-- the faults of a group
numbered_faults : (o : ℕ) (hash : Bool) (keys : List Key) (aggs : List Agg) (lists : List (List Row)) → map (at_op o) (faults_on (group (grouping keys hash aggs)) 0 lists) ≡ faults_on (group (grouping_at o (grouping keys hash aggs))) 0 lists
numbered_faults o false keys aggs lists =
    let g = grouping keys false aggs in
    runs_mapped (at_op o) (λ v same. group_faults g v (input 0 same)) (λ v same. group_faults (grouping_at o g) v (input 0 same)) (λ v same. faults_at o g v (input 0 same)) (rows_in (cols keys ∷ []) lists) (ways keys) (cols keys ∷ []) lists
numbered_faults o true keys aggs lists =
    let g = grouping keys true aggs in
    let columns : List (List ℕ) = cols keys ∷ [] in
    values_mapped (at_op o) (λ v. group_faults g v (input 0 (subs columns v lists))) (λ v. group_faults (grouping_at o g) v (input 0 (subs columns v lists))) (λ v. faults_at o g v (input 0 (subs columns v lists))) (in_order true (ways keys) (keys_in columns lists))

unnumbered_faults : (hash : Bool) (keys : List Key) (aggs : List Agg) (lists : List (List Row)) → AreUnnumbered (faults_on (group (grouping keys hash aggs)) 0 lists)
unnumbered_faults false keys aggs lists =
    runs_all (λ (f : Fault). f.op ≡ 0) (λ v same. group_faults (grouping keys false aggs) v (input 0 same)) (λ v same. rule_unnumbered keys false aggs v (input 0 same)) (rows_in (cols keys ∷ []) lists) (ways keys) (cols keys ∷ []) lists
unnumbered_faults true keys aggs lists =
    let columns : List (List ℕ) = cols keys ∷ [] in
    all_flat_each (λ (f : Fault). f.op ≡ 0) (λ v. group_faults (grouping keys true aggs) v (input 0 (subs columns v lists))) (λ v. rule_unnumbered keys true aggs v (input 0 (subs columns v lists))) (in_order true (ways keys) (keys_in columns lists))

one_list : (lists : List (List Row)) → length lists ≡ 1 → lists ≡ input 0 lists ∷ []
one_list [] e = absurd (omega (arith, e))
one_list (rows ∷ []) e = refl
one_list (rows ∷ (more ∷ lists)) e = absurd (omega (arith, e))

pub group_worked : (key : List (List ℕ × Bool)) (hash : Bool) (results : List AggSpec) (parts : OpParts) (widths : List ℕ) (lists : List (List Row)) (emit : Emit) → length lists ≡ 1 → Groups (grouping (get_keys parts.keys 0) hash (aggs_of results parts.cols)) (input 0 lists) emit → HasWorked (kind.Group key hash results) parts widths lists emit
group_worked key hash results parts widths lists emit one w =
    let keys = get_keys parts.keys 0 in
    let aggs = aggs_of results parts.cols in
    let g = grouping keys hash aggs in
    let same = one_list lists one in
    record {
      given = w.given;
      emitted = w.emitted;
      rows_are = λ o q. ap (λ p. on p w.given) (first q) ∙ w.means.rows_are ∙ ap (λ ls. result_on (group (grouping_at o g)) q 0 ls) (sym same);
      no_more = λ q l. none q l;
      faults_are = λ o. ap (map (at_op o)) w.means.faults_are ∙ numbered_faults o hash keys aggs (input 0 lists ∷ []) ∙ ap (λ ls. faults_on (group (grouping_at o g)) 0 ls) (sym same);
      unnumbered = subst AreUnnumbered (sym w.means.faults_are) (unnumbered_faults hash keys aggs (input 0 lists ∷ []));
    }
  where
    first : (q : ℕ) → place_of 1 q ≡ 0
    first q = omega arith

    none : (q : ℕ) → 1 ≤ q → on q w.given ≡ []
    none zero l = absurd (omega (arith, l))
    none (suc q) l = w.means.no_more q

-- the same of an answer, where the kind is known
pub group_does : {E : Type 0} (k : OpKind) (key : List (List ℕ × Bool)) (hash : Bool) (results : List AggSpec) (parts : OpParts) (widths : List ℕ) (lists : List (List Row)) (keys : List Key) (aggs : List Agg) (rows : List Row) (r : Result Emit E) → k ≡ kind.Group key hash results → length lists ≡ 1 →
    keys ≡ get_keys parts.keys 0 → aggs ≡ aggs_of results parts.cols → rows ≡ input 0 lists → IfOk r (λ emit. Groups (grouping keys hash aggs) rows emit) → IfOk r (λ emit. HasWorked k parts widths lists emit)
group_does k key hash results parts widths lists keys aggs rows r known one keyed summed same h =
    IfOk-weaker r (λ emit. Groups (grouping keys hash aggs) rows emit) (λ emit. HasWorked k parts widths lists emit)
    (λ emit w. subst (λ k. HasWorked k parts widths lists emit) (sym known) (group_worked key hash results parts widths lists emit one
    (subst (λ ks. Groups (grouping ks hash (aggs_of results parts.cols)) (input 0 lists) emit) keyed
    (subst (λ (xs : List Agg). Groups (grouping keys hash xs) (input 0 lists) emit) summed
    (subst (λ rs. Groups (grouping keys hash aggs) rs emit) same w))))) h
