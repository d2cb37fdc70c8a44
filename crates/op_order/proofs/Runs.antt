-- What remdup gives of any list, run by run.
use Rattle.std.proofs.Common.{◌≡◌, ℕ, zero, suc, ◌≤◌, Bool, true, false, cond, refl, sym, ap, ◌∙◌, List, [], ◌∷◌, ◌++◌, map, length, arith}
use Rattle.std.specs.List.{flat_map}
use Rattle.streams.specs.Streams.{sends}
use Rattle.streams.specs.Lists.{onto_run, runs_of}
use Rattle.ds_schema.specs.declared.key.Key.{Key}
use Rattle.ds_schema.specs.Rows.{cols, ways, val, has}
use Rattle.op_base.specs.Columns.{Row}
use Rattle.op_base.specs.Feeds.{front, behind, by_runs, run_by_run, rows_in}
use Rattle.op_base.specs.Meanings.{one_row, input}
use Rattle.op_base.proofs.FeedLaws.{behind_short}
use Rattle.op_base.proofs.Orders.{has_val, val_has, has_is_tie}
use Rattle.op_order.specs.Ordered.{same_key}
use Rattle.op_order.specs.Laws.{RemdupRuns}
use Rattle.op_order.proofs.Means.{remdup_outs}

-- a run and what is behind it
same_as_has : (keys : List Key) (x y : Row) → same_key keys x y ≡ has (cols keys) (val (cols keys) x) y
same_as_has keys x y = sym (has_is_tie keys y x) ∙ turned (has (cols keys) (val (cols keys) y) x) (has (cols keys) (val (cols keys) x) y) refl refl
  where
    turned : (a b : Bool) → has (cols keys) (val (cols keys) y) x ≡ a → has (cols keys) (val (cols keys) x) y ≡ b → a ≡ b
    turned true true e f = refl
    turned false false e f = refl
    turned true false e f = sym (val_has (cols keys) (val (cols keys) x) y (sym (has_val (cols keys) (val (cols keys) y) x e))) ∙ f
    turned false true e f = sym e ∙ val_has (cols keys) (val (cols keys) y) x (sym (has_val (cols keys) (val (cols keys) x) y f))

first_run : (keys : List Key) (x : Row) (xs : List Row) → runs_of (same_key keys) (x ∷ xs) ≡ (x ∷ front (cols keys) (val (cols keys) x) xs) ∷ runs_of (same_key keys) (behind (cols keys) (val (cols keys) x) xs)
first_run keys x [] = refl
first_run keys x (y ∷ ys) = ap (onto_run (same_key keys) x) (first_run keys y ys) ∙ go (first_run keys y ys) (has (cols keys) (val (cols keys) x) y) (same_as_has keys x y) refl
  where
    go : runs_of (same_key keys) (y ∷ ys) ≡ (y ∷ front (cols keys) (val (cols keys) y) ys) ∷ runs_of (same_key keys) (behind (cols keys) (val (cols keys) y) ys) → (b : Bool) → same_key keys x y ≡ has (cols keys) (val (cols keys) x) y → has (cols keys) (val (cols keys) x) y ≡ b →
        cond (same_key keys x y) ((x ∷ (y ∷ front (cols keys) (val (cols keys) y) ys)) ∷ runs_of (same_key keys) (behind (cols keys) (val (cols keys) y) ys)) ((x ∷ []) ∷ ((y ∷ front (cols keys) (val (cols keys) y) ys) ∷ runs_of (same_key keys) (behind (cols keys) (val (cols keys) y) ys)))
        ≡ (x ∷ cond (has (cols keys) (val (cols keys) x) y) (y ∷ front (cols keys) (val (cols keys) x) ys) []) ∷ runs_of (same_key keys) (cond (has (cols keys) (val (cols keys) x) y) (behind (cols keys) (val (cols keys) x) ys) (y ∷ ys))
    go ih true s e =
        ap (λ b. cond b ((x ∷ (y ∷ front (cols keys) (val (cols keys) y) ys)) ∷ runs_of (same_key keys) (behind (cols keys) (val (cols keys) y) ys)) ((x ∷ []) ∷ ((y ∷ front (cols keys) (val (cols keys) y) ys) ∷ runs_of (same_key keys) (behind (cols keys) (val (cols keys) y) ys)))) (s ∙ e)
        ∙ ap (λ v. (x ∷ (y ∷ front (cols keys) v ys)) ∷ runs_of (same_key keys) (behind (cols keys) v ys)) (has_val (cols keys) (val (cols keys) x) y e)
        ∙ ap (λ b. (x ∷ cond b (y ∷ front (cols keys) (val (cols keys) x) ys) []) ∷ runs_of (same_key keys) (cond b (behind (cols keys) (val (cols keys) x) ys) (y ∷ ys))) (sym e)
    go ih false s e =
        ap (λ b. cond b ((x ∷ (y ∷ front (cols keys) (val (cols keys) y) ys)) ∷ runs_of (same_key keys) (behind (cols keys) (val (cols keys) y) ys)) ((x ∷ []) ∷ ((y ∷ front (cols keys) (val (cols keys) y) ys) ∷ runs_of (same_key keys) (behind (cols keys) (val (cols keys) y) ys)))) (s ∙ e)
        ∙ ap (λ runs. (x ∷ []) ∷ runs) (sym ih)
        ∙ ap (λ b. (x ∷ cond b (y ∷ front (cols keys) (val (cols keys) x) ys) []) ∷ runs_of (same_key keys) (cond b (behind (cols keys) (val (cols keys) x) ys) (y ∷ ys))) (sym e)

runs_to : (n : ℕ) (keys : List Key) (f : List Row → List Row) (rows : List Row) → length rows ≤ n → run_by_run n (ways keys) (cols keys ∷ []) (λ v same. f (input 0 same)) (rows ∷ []) ≡ flat_map f (runs_of (same_key keys) rows)
runs_to zero keys f [] l = refl
runs_to zero keys f (r ∷ rows) l = absurd (omega arith)
runs_to (suc n) keys f [] l = refl
runs_to (suc n) keys f (r ∷ rows) l =
    ap (λ b. f (cond b (r ∷ front (cols keys) (val (cols keys) r) rows) []) ++ run_by_run n (ways keys) (cols keys ∷ []) (λ v same. f (input 0 same)) (cond b (behind (cols keys) (val (cols keys) r) rows) (r ∷ rows) ∷ [])) (val_has (cols keys) (val (cols keys) r) r refl)
    ∙ ap (λ t. f (r ∷ front (cols keys) (val (cols keys) r) rows) ++ t) (runs_to n keys f (behind (cols keys) (val (cols keys) r) rows) (let s = behind_short (cols keys) (val (cols keys) r) rows in omega (arith, s, l)))
    ∙ ap (flat_map f) (sym (first_run keys r rows))

pub run_by_run_is : (keys : List Key) (f : List Row → List Row) (rows : List Row) → by_runs (ways keys) (cols keys ∷ []) (λ v same. f (input 0 same)) (rows ∷ []) ≡ flat_map f (runs_of (same_key keys) rows)
run_by_run_is keys f rows = runs_to (rows_in (cols keys ∷ []) (rows ∷ [])) keys f rows (omega arith)

pub remdup-runs : RemdupRuns
remdup-runs keys last lists outs g = remdup_outs keys last lists outs g ∙ ap (map (sends 0)) (sym (run_by_run_is keys (one_row last) (lists 0)))
