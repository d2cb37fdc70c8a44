-- What an operator by rows gives of a whole list.
use Rattle.std.proofs.Common.{◌≡◌, ℕ, zero, suc, ◌<◌, ◌≤◌, ◌==◌, Bool, true, false, cond, refl, sym, ap, ap₂, ◌∙◌, subst, inl, inr, List, [], ◌∷◌, ◌++◌, map, append-nil, arith}
use Rattle.std.specs.List.{flat_map}
use Rattle.std.proofs.lemmas.Bool.Decides.{eqb_tells}
use Rattle.streams.specs.Streams.{Out, sends, fails, on, faults_out}
use Rattle.streams.proofs.StreamLaws.{eq_true, eq_false}
use Rattle.streams.proofs.OperatorLaws.{operators_give}
use Rattle.op_base.specs.declared.fault.Fault.{Fault}
use Rattle.op_base.specs.Columns.{Row}
use Rattle.op_base.specs.RowOperators.{RowRule}
use Rattle.op_base.proofs.Adding.{faults_out-append}
use Rattle.op_row.specs.ByRow.{to_outputs, made}
use Rattle.op_row.specs.Laws.{Means, RowsAlone}

pub on-append : {X F : Type 0} (q : ℕ) (xs ys : List (Out X F)) → on q (xs ++ ys) ≡ on q xs ++ on q ys
on-append q [] ys = refl
on-append {X} {F} q (sends port x ∷ xs) ys = go (port == q) (on-append q xs ys)
  where
    go : (b : Bool) → on q (xs ++ ys) ≡ on q xs ++ on q ys → cond b (x ∷ on q (xs ++ ys)) (on q (xs ++ ys)) ≡ cond b (x ∷ on q xs) (on q xs) ++ on q ys
    go true h = ap (λ t. x ∷ t) h
    go false h = h
on-append q (fails f ∷ xs) ys = on-append q xs ys

on-sent : {X : Type 0} (F : Type 0) (q : ℕ) (rows : List X) → on {F = F} q (map (sends q) rows) ≡ rows
on-sent F q [] = refl
on-sent {X} F q (x ∷ rows) = ap (λ b. cond b (x ∷ on {F = F} q (map (sends q) rows)) (on {F = F} q (map (sends q) rows))) (eq_true q q refl) ∙ ap (λ t. x ∷ t) (on-sent F q rows)

on-elsewhere : {X : Type 0} (F : Type 0) (q n : ℕ) (rows : List X) → (n ≡ q → ⊥) → on {F = F} q (map (sends n) rows) ≡ []
on-elsewhere F q n [] h = refl
on-elsewhere {X} F q n (x ∷ rows) h = ap (λ b. cond b (x ∷ on {F = F} q (map (sends n) rows)) (on {F = F} q (map (sends n) rows))) (eq_false n q h) ∙ on-elsewhere F q n rows h

on-fails : (X : Type 0) {F : Type 0} (q : ℕ) (fs : List F) → on {X = X} q (map fails fs) ≡ []
on-fails X q [] = refl
on-fails X q (f ∷ fs) = on-fails X q fs

pub none_above : (rule : RowRule) (n q : ℕ) (r : Row) → n ≤ q → on q (to_outputs rule n r) ≡ []
none_above rule zero q r h = refl
none_above rule (suc n) q r h =
    on-append q (to_outputs rule n r) (map (sends n) (rule.rows n r))
    ∙ ap₂ (λ xs ys. xs ++ ys) (none_above rule n q r (omega arith)) (on-elsewhere Fault q n (rule.rows n r) (λ e. absurd (omega (arith, e))))

on_last : (rule : RowRule) (n q : ℕ) (r : Row) → n ≡ q → on {F = Fault} q (to_outputs rule n r) ++ on {F = Fault} q (map (sends n) (rule.rows n r)) ≡ rule.rows q r
on_last rule n q r e = ap₂ (λ xs ys. xs ++ ys) (none_above rule n q r (omega (arith, e))) (ap (λ m. on {F = Fault} q (map (sends m) (rule.rows m r))) e ∙ on-sent Fault q (rule.rows q r))

below : (n q : ℕ) → q < suc n → (n ≡ q → ⊥) → q < n
below n q lt ne = grind arith

pub on_output : (rule : RowRule) (n q : ℕ) (r : Row) → q < n → on q (to_outputs rule n r) ≡ rule.rows q r
on_output rule zero q r h = absurd (omega arith)
on_output rule (suc n) q r h =
    on-append q (to_outputs rule n r) (map (sends n) (rule.rows n r))
    ∙ elim (eqb_tells n q) [ inl t ↦ on_last rule n q r t.1 | inr t ↦ ap₂ (λ xs ys. xs ++ ys) (on_output rule n q r (below n q h t.1)) (on-elsewhere Fault q n (rule.rows n r) t.1) ∙ append-nil (rule.rows q r) ]

faults-sent : {X : Type 0} (F : Type 0) (n : ℕ) (rows : List X) → faults_out {F = F} (map (sends n) rows) ≡ []
faults-sent F n [] = refl
faults-sent F n (x ∷ rows) = faults-sent F n rows

faults-fails : (X : Type 0) {F : Type 0} (fs : List F) → faults_out {X = X} (map fails fs) ≡ fs
faults-fails X [] = refl
faults-fails X (f ∷ fs) = ap (λ t. f ∷ t) (faults-fails X fs)

no_faults : (rule : RowRule) (n : ℕ) (r : Row) → faults_out (to_outputs rule n r) ≡ []
no_faults rule zero r = refl
no_faults rule (suc n) r = faults_out-append (to_outputs rule n r) (map (sends n) (rule.rows n r)) ∙ ap₂ (λ xs ys. xs ++ ys) (no_faults rule n r) (faults-sent Fault n (rule.rows n r))

-- what one row gives
row_on : (rule : RowRule) (outs q : ℕ) (r : Row) → on q (made rule outs r) ≡ on q (to_outputs rule outs r)
row_on rule outs q r = on-append q (to_outputs rule outs r) (map fails (rule.faults r)) ∙ ap (λ t. on q (to_outputs rule outs r) ++ t) (on-fails Row q (rule.faults r)) ∙ append-nil (on q (to_outputs rule outs r))

row_faults : (rule : RowRule) (outs : ℕ) (r : Row) → faults_out (made rule outs r) ≡ rule.faults r
row_faults rule outs r = faults_out-append (to_outputs rule outs r) (map fails (rule.faults r)) ∙ ap₂ (λ xs ys. xs ++ ys) (no_faults rule outs r) (faults-fails Row (rule.faults r))

-- what all rows give
module _ (rule : RowRule) (outs : ℕ) where
  all_on : (q : ℕ) → q < outs → (rows : List Row) → on q (flat_map (made rule outs) rows) ≡ flat_map (rule.rows q) rows
  all_on q lt [] = refl
  all_on q lt (r ∷ rows) = on-append q (made rule outs r) (flat_map (made rule outs) rows) ∙ ap₂ (λ xs ys. xs ++ ys) (row_on rule outs q r ∙ on_output rule outs q r lt) (all_on q lt rows)

  none_on : (q : ℕ) → outs ≤ q → (rows : List Row) → on q (flat_map (made rule outs) rows) ≡ []
  none_on q le [] = refl
  none_on q le (r ∷ rows) = on-append q (made rule outs r) (flat_map (made rule outs) rows) ∙ ap₂ (λ xs ys. xs ++ ys) (row_on rule outs q r ∙ none_above rule outs q r le) (none_on q le rows)

  all_faults : (rows : List Row) → faults_out (flat_map (made rule outs) rows) ≡ flat_map rule.faults rows
  all_faults [] = refl
  all_faults (r ∷ rows) = faults_out-append (made rule outs r) (flat_map (made rule outs) rows) ∙ ap₂ (λ xs ys. xs ++ ys) (row_faults rule outs r) (all_faults rows)

  means : (rows : List Row) → Means rule outs rows (flat_map (made rule outs) rows)
  means rows = record { rows_are = λ q lt. all_on q lt rows; no_more = λ q le. none_on q le rows; faults_are = all_faults rows }

pub rows-alone : RowsAlone
rows-alone rule outs lists given g = subst (Means rule outs (lists 0)) (sym (((operators_give Row Fault).rowwise (made rule outs)).1 lists given g)) (means rule outs (lists 0))
