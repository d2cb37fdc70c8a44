-- The first row of each run at once.
use Rattle.std.proofs.Common.{Bool, List, None, Option, Some, ap, arith, cond, false, length, refl, suc, sym, take, true, zero, ℕ, ◌≡◌, ◌≤◌, ◌∷◌, ◌++◌, ◌∙◌, []}
use Rattle.ds_schema.specs.Rows.{has, val}
use Rattle.ds_value.specs.declared.value.Value.{Value}
use Rattle.op_base.specs.Columns.{Row}
use Rattle.op_base.specs.Feeds.{at_once, behind, by_runs, front, is_after, rows_in, run_by_run, value_after}
use Rattle.op_base.specs.Meanings.{input}
use Rattle.op_base.proofs.FeedLaws.{behind_short}
use Rattle.op_base.proofs.Orders.{has_val, val_has}

-- more rows append what they give after the last value
pub at_once_more : (cs : List ℕ) (last : Option (List Value)) (xs ys : List Row) → at_once cs last (xs ++ ys) ≡ at_once cs last xs ++ at_once cs (value_after cs last xs) ys
at_once_more cs last [] ys = refl
at_once_more cs last (x ∷ xs) ys = go last (is_after cs last x) refl (at_once_more cs last xs ys) (at_once_more cs (Some (val cs x)) xs ys)
  where
    go : (o : Option (List Value)) (b : Bool) → is_after cs o x ≡ b → at_once cs o (xs ++ ys) ≡ at_once cs o xs ++ at_once cs (value_after cs o xs) ys → at_once cs (Some (val cs x)) (xs ++ ys) ≡ at_once cs (Some (val cs x)) xs ++ at_once cs (value_after cs (Some (val cs x)) xs) ys →
        cond (is_after cs o x) (at_once cs o (xs ++ ys)) (x ∷ at_once cs (Some (val cs x)) (xs ++ ys)) ≡ cond (is_after cs o x) (at_once cs o xs) (x ∷ at_once cs (Some (val cs x)) xs) ++ at_once cs (value_after cs (Some (val cs x)) xs) ys
    go None b e h k = ap (λ zs. x ∷ zs) k
    go (Some v) true e h k =
        let same : v ≡ val cs x = sym (has_val cs v x e) in
        ap (λ c. cond c (at_once cs (Some v) (xs ++ ys)) (x ∷ at_once cs (Some (val cs x)) (xs ++ ys))) e
        ∙ h ∙ ap (λ w. at_once cs (Some v) xs ++ at_once cs (value_after cs (Some w) xs) ys) same
        ∙ ap (λ c. cond c (at_once cs (Some v) xs) (x ∷ at_once cs (Some (val cs x)) xs) ++ at_once cs (value_after cs (Some (val cs x)) xs) ys) (sym e)
    go (Some v) false e h k =
        ap (λ c. cond c (at_once cs (Some v) (xs ++ ys)) (x ∷ at_once cs (Some (val cs x)) (xs ++ ys))) e
        ∙ ap (λ zs. x ∷ zs) k
        ∙ ap (λ c. cond c (at_once cs (Some v) xs) (x ∷ at_once cs (Some (val cs x)) xs) ++ at_once cs (value_after cs (Some (val cs x)) xs) ys) (sym e)

-- after the run of v, what is behind it
skip_run : (cs : List ℕ) (v : List Value) (rows : List Row) → at_once cs (Some v) rows ≡ at_once cs None (behind cs v rows)
skip_run cs v [] = refl
skip_run cs v (r ∷ rows) = go (has cs v r) (skip_run cs v rows)
  where
    go : (b : Bool) → at_once cs (Some v) rows ≡ at_once cs None (behind cs v rows) → cond b (at_once cs (Some v) rows) (r ∷ at_once cs (Some (val cs r)) rows) ≡ at_once cs None (cond b (behind cs v rows) (r ∷ rows))
    go true h = h
    go false h = refl

once_to : (n : ℕ) (ds : List Bool) (cs : List ℕ) (rows : List Row) → length rows ≤ n → run_by_run n ds (cs ∷ []) (λ v same. take 1 (input 0 same)) (rows ∷ []) ≡ at_once cs None rows
once_to zero ds cs [] l = refl
once_to zero ds cs (r ∷ rows) l = absurd (omega arith)
once_to (suc n) ds cs [] l = refl
once_to (suc n) ds cs (r ∷ rows) l =
    ap (λ b. take 1 (cond b (r ∷ front cs (val cs r) rows) []) ++ run_by_run n ds (cs ∷ []) (λ v same. take 1 (input 0 same)) (cond b (behind cs (val cs r) rows) (r ∷ rows) ∷ [])) (val_has cs (val cs r) r refl)
    ∙ ap (λ zs. r ∷ zs) (once_to n ds cs (behind cs (val cs r) rows) (let s = behind_short cs (val cs r) rows in omega (arith, s, l)) ∙ sym (skip_run cs (val cs r) rows))

-- Once all is there, it is the first row of each run.
pub at_once_is : (ds : List Bool) (cs : List ℕ) (rows : List Row) → by_runs ds (cs ∷ []) (λ v same. take 1 (input 0 same)) (rows ∷ []) ≡ at_once cs None rows
at_once_is ds cs rows = once_to (rows_in (cs ∷ []) (rows ∷ [])) ds cs rows (omega arith)
