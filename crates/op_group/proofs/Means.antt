-- What a group of sorted rows gives of a whole list: what its rule gives run by run.
use Rattle.std.proofs.Common.{◌≡◌, ℕ, zero, suc, ◌≤◌, Bool, true, false, cond, List, [], ◌∷◌, ◌++◌, length, map, refl, sym, ap, ap₂, ◌∙◌, true≢false, append-nil, arith}
use Rattle.std.specs.List.{flat_map}
use Rattle.std.specs.Ordering.{is_eq}
use Rattle.std.proofs.lemmas.Cmp.{tied_itself}
use Rattle.streams.specs.Streams.{Out, sends, fails, on, faults_out}
use Rattle.streams.specs.Lists.{onto_run, runs_of}
use Rattle.streams.proofs.StreamLaws.{on-append, eq_false}
use Rattle.streams.proofs.OperatorLaws.{operators_give}
use Rattle.ds_value.specs.declared.value.Value.{Value}
use Rattle.ds_schema.specs.declared.key.Key.{Key}
use Rattle.ds_schema.specs.Rows.{val, has, cols, ways, vals_cmp, row_cmp}
use Rattle.op_base.specs.declared.fault.Fault.{Fault}
use Rattle.op_base.specs.Columns.{Row}
use Rattle.op_base.specs.Feeds.{front, behind, rows_in, run_by_run, by_runs}
use Rattle.op_base.specs.Keyed.{subs, keys_in, in_order}
use Rattle.op_base.specs.Meanings.{input, group_rows, group_faults}
use Rattle.op_base.proofs.Adding.{faults_out-append}
use Rattle.op_base.proofs.FeedLaws.{behind_short, by_runs_is}
use Rattle.op_base.proofs.KeyLaws.{flat_map_agree}
use Rattle.op_base.proofs.Orders.{has_val, val_has, vals_total, row_tie, equal_from_is}
use Rattle.op_group.specs.declared.agg.Agg.{Agg}
use Rattle.op_group.specs.Results.{grouping}
use Rattle.op_group.specs.Groups.{group_outs, same_key, run_group, value_groups}
use Rattle.op_group.specs.Laws.{AreGiven, SortedGroups, OrderedGroups, HashedGroups}

-- what some outs give to an output, and their faults
abbrev sent : List Row → List (Out Row Fault)
sent xs = map (sends 0) xs

abbrev failed : List Fault → List (Out Row Fault)
failed fs = map fails fs

on_sent : (xs : List Row) → on 0 (sent xs) ≡ xs
on_sent [] = refl
on_sent (x ∷ xs) = ap (λ ys. x ∷ ys) (on_sent xs)

on_others : (q : ℕ) (xs : List Row) → on (suc q) (sent xs) ≡ []
on_others q [] = refl
on_others q (x ∷ xs) = ap (λ b. cond b (x ∷ on (suc q) (sent xs)) (on (suc q) (sent xs))) (eq_false 0 (suc q) (λ h. absurd (omega (arith, h)))) ∙ on_others q xs

on_fails : (q : ℕ) (fs : List Fault) → on q (failed fs) ≡ []
on_fails q [] = refl
on_fails q (f ∷ fs) = on_fails q fs

faults_sent : (xs : List Row) → faults_out (sent xs) ≡ []
faults_sent [] = refl
faults_sent (x ∷ xs) = faults_sent xs

faults_failed : (fs : List Fault) → faults_out (failed fs) ≡ fs
faults_failed [] = refl
faults_failed (f ∷ fs) = ap (λ gs. f ∷ gs) (faults_failed fs)

rows_of_outs : (xs : List Row) (fs : List Fault) → on 0 (sent xs ++ failed fs) ≡ xs
rows_of_outs xs fs = on-append 0 (sent xs) (failed fs) ∙ ap₂ (λ a b. a ++ b) (on_sent xs) (on_fails 0 fs) ∙ append-nil xs

no_others : (q : ℕ) (xs : List Row) (fs : List Fault) → on (suc q) (sent xs ++ failed fs) ≡ []
no_others q xs fs = on-append (suc q) (sent xs) (failed fs) ∙ ap₂ (λ a b. a ++ b) (on_others q xs) (on_fails (suc q) fs)

faults_of_outs : (xs : List Row) (fs : List Fault) → faults_out (sent xs ++ failed fs) ≡ fs
faults_of_outs xs fs = faults_out-append (sent xs) (failed fs) ∙ ap₂ (λ a b. a ++ b) (faults_sent xs) (faults_failed fs)

-- of each in turn
on_flat : {A : Type 0} (q : ℕ) (f : A → List (Out Row Fault)) (xs : List A) → on q (flat_map f xs) ≡ flat_map (λ x. on q (f x)) xs
on_flat q f [] = refl
on_flat q f (x ∷ xs) = on-append q (f x) (flat_map f xs) ∙ ap (λ ys. on q (f x) ++ ys) (on_flat q f xs)

faults_flat : {A : Type 0} (f : A → List (Out Row Fault)) (xs : List A) → faults_out (flat_map f xs) ≡ flat_map (λ x. faults_out (f x)) xs
faults_flat f [] = refl
faults_flat f (x ∷ xs) = faults_out-append (f x) (flat_map f xs) ∙ ap (λ ys. faults_out (f x) ++ ys) (faults_flat f xs)

nothing_flat : {A Y : Type 0} (f : A → List Y) → ((x : A) → f x ≡ []) → (xs : List A) → flat_map f xs ≡ []
nothing_flat f h [] = refl
nothing_flat f h (x ∷ xs) = ap₂ (λ a b. a ++ b) (h x) (nothing_flat f h xs)

-- the runs of a list: the rows of the first one's key value, and the runs of what is behind them
module _ (keys : List Key) where
  abbrev same : Row → Row → Bool
  same r s = same_key keys r s

  same_itself : (r s : Row) → val (cols keys) s ≡ val (cols keys) r → same r s ≡ true
  same_itself r s e = ap (λ v. is_eq (vals_cmp (ways keys) (val (cols keys) r) v)) e ∙ ap is_eq (tied_itself (vals_total (ways keys)) (val (cols keys) r))

  runs_front : (r : Row) (rows : List Row) → runs_of same (r ∷ rows) ≡ (r ∷ front (cols keys) (val (cols keys) r) rows) ∷ runs_of same (behind (cols keys) (val (cols keys) r) rows)
  runs_front r [] = refl
  runs_front r (s ∷ rows) = ap (onto_run same r) (runs_front s rows) ∙ go (has (cols keys) (val (cols keys) r) s) refl (runs_front s rows)
    where
      go : (b : Bool) → has (cols keys) (val (cols keys) r) s ≡ b → runs_of same (s ∷ rows) ≡ (s ∷ front (cols keys) (val (cols keys) s) rows) ∷ runs_of same (behind (cols keys) (val (cols keys) s) rows) →
          cond (same r s) ((r ∷ (s ∷ front (cols keys) (val (cols keys) s) rows)) ∷ runs_of same (behind (cols keys) (val (cols keys) s) rows)) ((r ∷ []) ∷ ((s ∷ front (cols keys) (val (cols keys) s) rows) ∷ runs_of same (behind (cols keys) (val (cols keys) s) rows)))
          ≡ (r ∷ cond b (s ∷ front (cols keys) (val (cols keys) r) rows) []) ∷ runs_of same (cond b (behind (cols keys) (val (cols keys) r) rows) (s ∷ rows))
      go true e h =
          let v : val (cols keys) s ≡ val (cols keys) r = has_val (cols keys) (val (cols keys) r) s e in
          ap (λ b. cond b ((r ∷ (s ∷ front (cols keys) (val (cols keys) s) rows)) ∷ runs_of same (behind (cols keys) (val (cols keys) s) rows)) ((r ∷ []) ∷ ((s ∷ front (cols keys) (val (cols keys) s) rows) ∷ runs_of same (behind (cols keys) (val (cols keys) s) rows)))) (same_itself r s v)
          ∙ ap (λ u. (r ∷ (s ∷ front (cols keys) u rows)) ∷ runs_of same (behind (cols keys) u rows)) v
      go false e h =
          ap (λ b. cond b ((r ∷ (s ∷ front (cols keys) (val (cols keys) s) rows)) ∷ runs_of same (behind (cols keys) (val (cols keys) s) rows)) ((r ∷ []) ∷ ((s ∷ front (cols keys) (val (cols keys) s) rows) ∷ runs_of same (behind (cols keys) (val (cols keys) s) rows)))) (apart (same r s) refl)
          ∙ ap (λ runs. (r ∷ []) ∷ runs) (sym h)
        where
          apart : (b : Bool) → same r s ≡ b → b ≡ false
          apart true f = absurd (true≢false (sym (val_has (cols keys) (val (cols keys) r) s (sym (row_tie keys r s (equal_from_is (row_cmp keys r s) f)))) ∙ e))
          apart false f = refl

  -- a rule of runs, run by run
  module _ {Y : Type 0} (f : List Row → List Y) (rule : List Value → List (List Row) → List Y) (is : (r : Row) (run : List Row) → f (r ∷ run) ≡ rule (val (cols keys) r) ((r ∷ run) ∷ [])) where
    taken : (n : ℕ) (rows : List Row) → length rows ≤ n → flat_map f (runs_of same rows) ≡ run_by_run n (ways keys) (cols keys ∷ []) rule (rows ∷ [])
    taken zero [] l = refl
    taken zero (r ∷ rows) l = absurd (omega arith)
    taken (suc n) [] l = refl
    taken (suc n) (r ∷ rows) l =
        ap (flat_map f) (runs_front r rows)
        ∙ ap₂ (λ a b. a ++ b) (is r (front (cols keys) (val (cols keys) r) rows)) (taken n (behind (cols keys) (val (cols keys) r) rows) (let s = behind_short (cols keys) (val (cols keys) r) rows in omega (arith, s, l)))
        ∙ ap (λ b. rule (val (cols keys) r) (cond b (r ∷ front (cols keys) (val (cols keys) r) rows) [] ∷ []) ++ run_by_run n (ways keys) (cols keys ∷ []) rule (cond b (behind (cols keys) (val (cols keys) r) rows) (r ∷ rows) ∷ [])) (sym (val_has (cols keys) (val (cols keys) r) r refl))

    runs_taken : (rows : List Row) → flat_map f (runs_of same rows) ≡ by_runs (ways keys) (cols keys ∷ []) rule (rows ∷ [])
    runs_taken rows = taken (rows_in (cols keys ∷ []) (rows ∷ [])) rows (omega arith)

  module _ (aggs : List Agg) where
    none_beside : (q : ℕ) (run : List Row) → on (suc q) (run_group keys aggs run) ≡ []
    none_beside q [] = refl
    none_beside q (r ∷ run) = no_others q (group_rows (grouping keys false aggs) (val (cols keys) r) (r ∷ run)) (group_faults (grouping keys false aggs) (val (cols keys) r) (r ∷ run))

    pub runs_given : (rows : List Row) (given : List (Out Row Fault)) → given ≡ flat_map (run_group keys aggs) (runs_of same rows) → AreGiven
        (by_runs (ways keys) (cols keys ∷ []) (λ v same. group_rows (grouping keys false aggs) v (input 0 same)) (rows ∷ []))
        (by_runs (ways keys) (cols keys ∷ []) (λ v same. group_faults (grouping keys false aggs) v (input 0 same)) (rows ∷ []))
        given
    runs_given rows given e = record {
      rows_are = ap (on 0) e ∙ on_flat 0 (run_group keys aggs) (runs_of same rows)
          ∙ runs_taken (λ run. on 0 (run_group keys aggs run)) (λ v same. group_rows (grouping keys false aggs) v (input 0 same)) (λ r run. rows_of_outs (group_rows (grouping keys false aggs) (val (cols keys) r) (r ∷ run)) (group_faults (grouping keys false aggs) (val (cols keys) r) (r ∷ run))) rows;
      no_more = λ q. ap (on (suc q)) e ∙ on_flat (suc q) (run_group keys aggs) (runs_of same rows) ∙ nothing_flat (λ run. on (suc q) (run_group keys aggs run)) (none_beside q) (runs_of same rows);
      faults_are = ap faults_out e ∙ faults_flat (run_group keys aggs) (runs_of same rows)
          ∙ runs_taken (λ run. faults_out (run_group keys aggs run)) (λ v same. group_faults (grouping keys false aggs) v (input 0 same)) (λ r run. faults_of_outs (group_rows (grouping keys false aggs) (val (cols keys) r) (r ∷ run)) (group_faults (grouping keys false aggs) (val (cols keys) r) (r ∷ run))) rows;
    }

pub sorted-groups : SortedGroups
sorted-groups keys aggs lists given g = runs_given keys aggs (lists 0) given (((operators_give Row Fault).run (same_key keys) (run_group keys aggs)).1 lists given g)

pub ordered-groups : OrderedGroups
ordered-groups keys aggs lists given up g =
    let h = sorted-groups keys aggs lists given g in
    record {
      rows_are = h.rows_are ∙ by_runs_is (ways keys) (cols keys ∷ []) (λ v same. group_rows (grouping keys false aggs) v (input 0 same)) (lists 0 ∷ []) (up, tt);
      no_more = h.no_more;
      faults_are = h.faults_are ∙ by_runs_is (ways keys) (cols keys ∷ []) (λ v same. group_faults (grouping keys false aggs) v (input 0 same)) (lists 0 ∷ []) (up, tt);
    }

pub hashed-groups : HashedGroups
hashed-groups keys aggs lists given g =
    record {
      rows_are = ap (on 0) e ∙ on_flat 0 outs values ∙ flat_map_agree (λ v. on 0 (outs v)) (λ v. group_rows (grouping keys true aggs) v (rows v)) (λ v. rows_of_outs (group_rows (grouping keys true aggs) v (rows v)) (group_faults (grouping keys true aggs) v (rows v))) values;
      no_more = λ q. ap (on (suc q)) e ∙ on_flat (suc q) outs values ∙ nothing_flat (λ v. on (suc q) (outs v)) (λ v. no_others q (group_rows (grouping keys true aggs) v (rows v)) (group_faults (grouping keys true aggs) v (rows v))) values;
      faults_are = ap faults_out e ∙ faults_flat outs values ∙ flat_map_agree (λ v. faults_out (outs v)) (λ v. group_faults (grouping keys true aggs) v (rows v)) (λ v. faults_of_outs (group_rows (grouping keys true aggs) v (rows v)) (group_faults (grouping keys true aggs) v (rows v))) values;
    }
  where
    values : List (List Value)
    values = in_order true (ways keys) (keys_in (cols keys ∷ []) (lists 0 ∷ []))

    rows : List Value → List Row
    rows v = input 0 (subs (cols keys ∷ []) v (lists 0 ∷ []))

    outs : List Value → List (Out Row Fault)
    outs v = group_outs (grouping keys true aggs) v (rows v)

    e : given ≡ value_groups keys aggs (lists 0)
    e = ((operators_give Row Fault).at_end (value_groups keys aggs)).1 lists given g
