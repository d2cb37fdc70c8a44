-- The rules of the operators by rows have their shapes.
use Rattle.std.proofs.Common.{Bool, List, ap, arith, cond, false, length, map, refl, subst, suc, sym, true, zero, ℕ, ◌≡◌, ◌+◌, ◌<◌, ◌≤◌, ◌∷◌, ◌∙◌, ◌==◌, []}
use Rattle.std.proofs.lemmas.Bool.Decides.{nat_tests}
use Rattle.std.proofs.lemmas.List.{length-map}
use Rattle.std.specs.List.{AllByRecursion, range_with_len}
use Rattle.ds_schema.specs.Rows.{at, val}
use Rattle.ds_value.specs.declared.value.Value.{Value}
use Rattle.flow_graph.specs.Operators.{faults}
use Rattle.flow_graph.specs.Shapes.{Carries, Passes, PassesInto, RowShape, Wide}
use Rattle.op_base.specs.Columns.{Row, everything, all_columns, is_in, pairs_of}
use Rattle.op_base.specs.RowOperators.{Case, Computed, Judged, case, case_fails, case_faults, case_rows, cell, compute_fails, computed, copy_rule, failed_rows, fails, filter_rows, filter_rule, if_no, if_yes, judged_faults, modify_rule, no, not_set, other, set_rows, sink_rule, switch_rule, transform_passes, transform_rows, transform_rule, yes}
use Rattle.op_base.specs.declared.fault.Fault.{Fault}
use Rattle.flow_graph.proofs.PassingColumns.{pairs_fit, range_fit}
use Rattle.op_base.proofs.All.{all_filter}
use Rattle.op_base.proofs.ColumnLaws.{length-range_with}
use Rattle.op_base.proofs.Orders.{length-val}

-- a row at most, and as it is
abbrev Same : Row → List Row → Type 0
Same r ys = AllByRecursion (λ y. y ≡ r) ys × (length ys ≤ 1)

same_one : (r : Row) → Same r (r ∷ [])
same_one r = ((refl, tt), omega arith)

same_none : (r : Row) → Same r []
same_none r = (tt, omega arith)

same_if : (b : Bool) (r : Row) (ys : List Row) → Same r ys → Same r (cond b ys [])
same_if true r ys h = h
same_if false r ys h = same_none r

same_wide : (w : ℕ) (r : Row) (ys : List Row) → Wide w r → AllByRecursion (λ y. y ≡ r) ys → AllByRecursion (Wide w) ys
same_wide w r [] l h = tt
same_wide w r (y ∷ ys) l h = (ap length h.0 ∙ l, same_wide w r ys l h.1)

-- a rule that hands rows on as they are
hands_on : (w : ℕ) (rows : ℕ → Row → List Row) (faults : Row → List Fault) → ((q : ℕ) (r : Row) → Same r (rows q r)) → RowShape (record { rows = rows; faults = faults; passes = λ q. everything }) w (λ q. w)
hands_on w rows faults h = record {
  wide = λ q r l. same_wide w r (rows q r) l (h q r).0;
  passes = λ q r l. (h q r).0;
  one = λ q r. (h q r).1;
  inside = λ q. refl;
}

pub copy_shape : (w : ℕ) → RowShape copy_rule w (λ q. w)
copy_shape w = hands_on w (λ q r. r ∷ []) (λ r. []) (λ q r. same_one r)

pub filter_shape : (w : ℕ) (test : Row → Judged) (rejects : Bool) → RowShape (filter_rule test rejects) w (λ q. w)
filter_shape w test rejects = hands_on w (filter_rows test rejects) (λ r. judged_faults (test r)) rows
  where
    kept : (j : Judged) (r : Row) → Same r (if_yes j r)
    kept yes r = same_one r
    kept no r = same_none r
    kept (fails f) r = same_none r

    left : (j : Judged) (r : Row) → Same r (if_no j r)
    left yes r = same_none r
    left no r = same_one r
    left (fails f) r = same_none r

    rows : (q : ℕ) (r : Row) → Same r (filter_rows test rejects q r)
    rows zero r = kept (test r) r
    rows (suc q) r = same_if rejects r (if_no (test r) r) (left (test r) r)

pub switch_shape : (w cases : ℕ) (on : Row → Case) (rejects : Bool) → RowShape (switch_rule cases on rejects) w (λ q. w)
switch_shape w cases on rejects = hands_on w (λ q r. case_rows cases rejects (on r) q r) (λ r. case_faults (on r)) (λ q r. rows (on r) q r)
  where
    rows : (c : Case) (q : ℕ) (r : Row) → Same r (case_rows cases rejects c q r)
    rows (case i) q r = same_if (i == q) r (r ∷ []) (same_one r)
    rows other q r = same_if rejects r (cond (cases == q) (r ∷ []) []) (same_if (cases == q) r (r ∷ []) (same_one r))
    rows (case_fails f) q r = same_none r

-- the values picked, by their places
nth_picked : (kept : List ℕ) (n : ℕ) (r y : Row) → ((i : ℕ) → at y (n + i) ≡ at (val kept r) i) → Carries (pairs_of kept (range_with_len n (length kept))) r y
nth_picked [] n r y h = tt
nth_picked (c ∷ kept) n r y h =
    let none : n ≡ n + 0 = omega arith in
    (ap (at y) none ∙ h 0, nth_picked kept (n + 1) r y (λ i. ap (at y) (omega arith) ∙ h (suc i)))

pub modify_shape : (w : ℕ) (kept : List ℕ) → RowShape (modify_rule kept) w (λ q. length kept)
modify_shape w kept = record {
  wide = λ q r l. (length-val kept r, tt);
  passes = λ q r l. (nth_picked kept 0 r (val kept r) (λ i. ap (at (val kept r)) (omega arith)), tt);
  one = λ q r. omega arith;
  inside = λ q. pairs_fit (length kept) kept (all_columns (length kept)) (range_fit (length kept) 0 (length kept) (omega arith));
}

at_cell : (f : ℕ → Value) (n k i : ℕ) → i < k → at (map f (range_with_len n k)) i ≡ f (n + i)
at_cell f n zero i l = absurd (omega arith)
at_cell f n (suc k) zero l = ap f (omega arith)
at_cell f n (suc k) (suc i) l = at_cell f (n + 1) k i (omega arith) ∙ ap f (omega arith)

not_target : (targets : List ℕ) (values : List Value) (r : Row) (c : ℕ) → is_in c targets ≡ false → cell targets values r c ≡ at r c
not_target [] values r c e = refl
not_target (t ∷ targets) [] r c e = refl
not_target (t ∷ targets) (v ∷ values) r c e = go (c == t) refl (t == c) refl (not_target targets values r c) e
  where
    go : (a : Bool) → (c == t) ≡ a → (b : Bool) → (t == c) ≡ b → (is_in c targets ≡ false → cell targets values r c ≡ at r c) → cond a true (is_in c targets) ≡ false → cond b v (cell targets values r c) ≡ at r c
    go true f b g rec h = cc
    go false f true g rec h = absurd (grind (arith, nat_tests))
    go false f false g rec h = rec h

pub transform_shape : (w columns : ℕ) (targets : List ℕ) (compute : Row → Computed) (rejects : Bool) → w ≤ columns → RowShape (transform_rule w columns targets compute rejects) w (λ q. cond (q == 0) columns w)
transform_shape w columns targets compute rejects wide = record { wide = widths; passes = carries; one = ones; inside = insides }
  where
    widths : (q : ℕ) (r : Row) → Wide w r → AllByRecursion (Wide (cond (q == 0) columns w)) (transform_rows columns targets compute rejects q r)
    widths zero r l = go (compute r)
      where
        go : (c : Computed) → AllByRecursion (Wide columns) (set_rows columns targets c r)
        go (computed values) = (length-map (all_columns columns) (cell targets values r) ∙ length-range_with 0 columns, tt)
        go (compute_fails f) = tt
    widths (suc q) r l = subst (λ n. AllByRecursion (Wide n) (transform_rows columns targets compute rejects (suc q) r)) (sym (ap (λ b. cond b columns w) (after q))) (go rejects (compute r))
      where
        after : (n : ℕ) → (suc n == 0) ≡ false
        after n = grind (arith, nat_tests)

        go : (b : Bool) (c : Computed) → AllByRecursion (Wide w) (cond b (failed_rows c r) [])
        go true (computed values) = tt
        go true (compute_fails f) = (l, tt)
        go false c = tt

    pass : (values : List Value) (r : Row) (n k : ℕ) → n + k ≤ columns → Carries (pairs_of (not_set targets (range_with_len n k)) (not_set targets (range_with_len n k))) r (map (cell targets values r) (all_columns columns))
    pass values r n zero l = tt
    pass values r n (suc k) l = go (is_in n targets) refl (pass values r (n + 1) k (omega arith))
      where
        rest : List ℕ
        rest = not_set targets (range_with_len (n + 1) k)

        go : (b : Bool) → is_in n targets ≡ b → Carries (pairs_of rest rest) r (map (cell targets values r) (all_columns columns)) → Carries (pairs_of (cond (cond b false true) (n ∷ rest) rest) (cond (cond b false true) (n ∷ rest) rest)) r (map (cell targets values r) (all_columns columns))
        go true e h = h
        go false e h = (at_cell (cell targets values r) 0 columns n (omega arith) ∙ ap (cell targets values r) (omega arith) ∙ not_target targets values r n e, h)

    carries : (q : ℕ) (r : Row) → Wide w r → AllByRecursion (Passes (transform_passes w targets q) r) (transform_rows columns targets compute rejects q r)
    carries zero r l = go (compute r)
      where
        go : (c : Computed) → AllByRecursion (Passes (transform_passes w targets zero) r) (set_rows columns targets c r)
        go (computed values) = (pass values r 0 w (omega arith), tt)
        go (compute_fails f) = tt
    carries (suc q) r l = go rejects (compute r)
      where
        go : (b : Bool) (c : Computed) → AllByRecursion (λ y. y ≡ r) (cond b (failed_rows c r) [])
        go true (computed values) = tt
        go true (compute_fails f) = (refl, tt)
        go false c = tt

    ones : (q : ℕ) (r : Row) → length (transform_rows columns targets compute rejects q r) ≤ 1
    ones zero r = go (compute r)
      where
        go : (c : Computed) → length (set_rows columns targets c r) ≤ 1
        go (computed values) = omega arith
        go (compute_fails f) = omega arith
    ones (suc q) r = go rejects (compute r)
      where
        go : (b : Bool) (c : Computed) → length (cond b (failed_rows c r) []) ≤ 1
        go true (computed values) = omega arith
        go true (compute_fails f) = omega arith
        go false c = omega arith

    insides : (q : ℕ) → PassesInto (transform_passes w targets q) w (cond (q == 0) columns w)
    insides zero = pairs_fit columns (not_set targets (all_columns w)) (not_set targets (all_columns w)) (all_filter (λ (c : ℕ). c < columns) (λ c. cond (is_in c targets) false true) (all_columns w) (range_fit columns 0 w (omega arith)))
    insides (suc q) = ap (λ b. cond b columns w) (after q)
      where
        after : (n : ℕ) → (suc n == 0) ≡ false
        after n = grind (arith, nat_tests)

pub sink_shape : (w : ℕ) (unwritable : Row → List Fault) (outs : ℕ → ℕ) → RowShape (sink_rule unwritable) w outs
sink_shape w unwritable outs = record { wide = λ q r l. tt; passes = λ q r l. tt; one = λ q r. omega arith; inside = λ q. tt }
