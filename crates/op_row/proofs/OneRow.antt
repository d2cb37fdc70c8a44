-- What a rule makes of one row hangs on what is said of that row alone.
use Rattle.std.proofs.Common.{◌≡◌, ℕ, zero, suc, ◌<◌, ◌≤◌, ◌==◌, Bool, true, false, cond, refl, sym, ap, ap₂, subst, ◌∙◌, inl, inr, List, [], ◌∷◌, map, ◌++◌, append-nil, arith}
use Rattle.std.proofs.lemmas.Bool.Decides.{eqb_tells}
use Rattle.streams.specs.Streams.{Out, sends, fails}
use Rattle.streams.proofs.StreamLaws.{eq_true, eq_false}
use Rattle.op_base.specs.declared.fault.Fault.{Fault}
use Rattle.op_base.specs.Columns.{Row}
use Rattle.op_base.specs.RowOperators.{RowRule, Judged, filter_rule, Case, case, other, case_fails, switch_rule}
use Rattle.op_row.specs.ByRow.{to_outputs, made}
use Rattle.op_row.specs.Expressed.{with_rejects}
use Rattle.op_row.specs.declared.switching.Placing.{Placing}
use Rattle.op_row.specs.declared.switching.Placing.TheVariants as place
use Rattle.op_row.specs.Verdicts.{case_as, IsAmong}

outputs_same : (rule twin : RowRule) (outs : ℕ) (r : Row) → ((q : ℕ) → rule.rows q r ≡ twin.rows q r) → to_outputs rule outs r ≡ to_outputs twin outs r
outputs_same rule twin zero r rows = refl
outputs_same rule twin (suc n) r rows = ap₂ (λ xs ys. xs ++ map (sends n) ys) (outputs_same rule twin n r rows) (rows n)

pub made_same : (rule twin : RowRule) (outs : ℕ) (r : Row) → ((q : ℕ) → rule.rows q r ≡ twin.rows q r) → rule.faults r ≡ twin.faults r → made rule outs r ≡ made twin outs r
made_same rule twin outs r rows faults = ap₂ (λ xs fs. xs ++ map fails fs) (outputs_same rule twin outs r rows) faults

pub filter_once : (test : Row → Judged) (rejects : Bool) (r : Row) (said : Judged) → said ≡ test r → made (filter_rule (λ s. said) rejects) (with_rejects 1 rejects) r ≡ made (filter_rule test rejects) (with_rejects 1 rejects) r
filter_once test true r said e = ap (λ j. made (filter_rule (λ s. j) true) 2 r) e
filter_once test false r said e = ap (λ j. made (filter_rule (λ s. j) false) 1 r) e

-- nothing to any output
pub nothing : (rule : RowRule) (n : ℕ) (r : Row) → ((q : ℕ) → rule.rows q r ≡ []) → to_outputs rule n r ≡ []
nothing rule zero r h = refl
nothing rule (suc n) r h = ap₂ (λ xs ys. xs ++ map (sends n) ys) (nothing rule n r h) (h n)

abbrev none : List (Out Row Fault)
none = []

abbrev just : ℕ → Row → List (Out Row Fault)
just i x = sends i x ∷ []

-- a row to one output alone
module _ (rule : RowRule) (r x : Row) (i : ℕ) (rows : (q : ℕ) → rule.rows q r ≡ cond (i == q) (x ∷ []) []) where
  before_it : (n : ℕ) → n ≤ i → to_outputs rule n r ≡ []
  before_it zero h = refl
  before_it (suc n) h = ap₂ (λ xs ys. xs ++ map (sends n) ys) (before_it n (omega arith)) (rows n ∙ ap (λ b. cond b (x ∷ []) []) (eq_false i n (λ e. absurd (omega (arith, e)))))

  last_is : (n : ℕ) → i ≡ n → map (sends n) (rule.rows n r) ≡ just i x
  last_is n e = ap (map (sends n)) (rows n ∙ ap (λ b. cond b (x ∷ []) []) (eq_true i n e)) ∙ ap (λ m. sends m x ∷ []) (sym e)

  last_none : (n : ℕ) → (i ≡ n → ⊥) → map (sends n) (rule.rows n r) ≡ none
  last_none n ne = ap (map (sends n)) (rows n ∙ ap (λ b. cond b (x ∷ []) []) (eq_false i n ne))

  pub one_output : (n : ℕ) → i < n → to_outputs rule n r ≡ sends i x ∷ []
  one_output zero h = absurd (omega arith)
  one_output (suc n) h = elim (eqb_tells i n) [
    | inl t ↦ ap₂ (λ xs ys. xs ++ ys) (before_it n (omega (arith, t.1))) (last_is n t.1)
    | inr t ↦ ap₂ (λ xs ys. xs ++ ys) (one_output n (less n h t.1)) (last_none n t.1)
  ]
    where
      less : (n : ℕ) → i < suc n → (i ≡ n → ⊥) → i < n
      less n h ne = grind arith

more : (n i : ℕ) (rejects : Bool) → i < n → i < with_rejects n rejects
more n i true h = omega arith
more n i false h = h

abbrev switched : ℕ → Placing → Bool → Row → List (Out Row Fault)
switched cases placed rejects r = made (switch_rule cases (λ s. case_as placed) rejects) (with_rejects cases rejects) r

pub sent_case : (cases i : ℕ) (placed : Placing) (rejects : Bool) (r : Row) → placed ≡ place.Case i → IsAmong cases placed → just i r ≡ switched cases placed rejects r
sent_case cases i placed rejects r e h =
    let lt : i < cases = subst (IsAmong cases) e h in
    sym (append-nil _ ∙ one_output (switch_rule cases (λ s. case i) rejects) r r i (λ q. refl) (with_rejects cases rejects) (more cases i rejects lt)) ∙ ap (λ p. switched cases p rejects r) (sym e)

pub sent_rejected : (cases : ℕ) (placed : Placing) (rejects : Bool) (r : Row) → placed ≡ place.Other → rejects ≡ true → just cases r ≡ switched cases placed rejects r
sent_rejected cases placed rejects r e h =
    sym (append-nil _ ∙ one_output (switch_rule cases (λ s. other) true) r r cases (λ q. refl) (suc cases) (omega arith)) ∙ ap₂ (λ p b. switched cases p b r) (sym e) (sym h)

pub sent_nowhere : (cases : ℕ) (placed : Placing) (rejects : Bool) (r : Row) → placed ≡ place.Other → rejects ≡ false → none ≡ switched cases placed rejects r
sent_nowhere cases placed rejects r e h = sym (append-nil _ ∙ nothing (switch_rule cases (λ s. other) false) cases r (λ q. refl)) ∙ ap₂ (λ p b. switched cases p b r) (sym e) (sym h)

pub sent_fault : (cases : ℕ) (placed : Placing) (rejects : Bool) (r : Row) (f : Fault) → placed ≡ place.Fails f → fails f ∷ [] ≡ switched cases placed rejects r
sent_fault cases placed rejects r f e = sym (ap (λ t. t ++ fails f ∷ []) (nothing (switch_rule cases (λ s. case_fails f) rejects) (with_rejects cases rejects) r (λ q. refl))) ∙ ap (λ p. switched cases p rejects r) (sym e)

pub switch_once : (cases : ℕ) (on : Row → Case) (rejects : Bool) (outs : ℕ) (r : Row) (said : Case) → said ≡ on r → made (switch_rule cases (λ s. said) rejects) outs r ≡ made (switch_rule cases on rejects) outs r
switch_once cases on rejects outs r said e = ap (λ k. made (switch_rule cases (λ s. k) rejects) outs r) e ∙ made_same (switch_rule cases (λ s. on r) rejects) (switch_rule cases on rejects) outs r (λ q. refl) refl
