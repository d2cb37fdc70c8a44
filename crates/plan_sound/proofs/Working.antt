-- What means its operator works in a flow, and so do the sources.
use Rattle.std.proofs.Common.{◌≡◌, ℕ, zero, suc, ◌+◌, ◌<◌, Bool, true, false, inl, inr, refl, sym, ap, ap₂, ◌∙◌, subst, List, [], ◌∷◌, ◌++◌, map, length, get_or, append_assoc, arith}
use Rattle.std.specs.List.{flat_map}
use Rattle.streams.specs.Lists.{lists_from, IsIn}
use Rattle.streams.specs.Streams.{on, faults_out}
use Rattle.streams.proofs.Collectors.{rowwise_is}
use Rattle.streams.proofs.OperatorLaws.{operators_give}
use Rattle.streams.proofs.StreamLaws.{on-append, map-append}
use Rattle.op_base.specs.declared.fault.Fault.{Fault}
use Rattle.op_base.specs.Columns.{Row}
use Rattle.op_base.specs.Meanings.{Line, good, bad, line_rows, line_faults}
use Rattle.op_base.proofs.Adding.{faults_out-append}
use Rattle.flow_graph.specs.Charts.{Chart, link_at, links_into, links_from}
use Rattle.flow_graph.specs.FlowShape.{PortsInOrder}
use Rattle.flow_graph.specs.Operators.{dsread}
use Rattle.flow_graph.specs.Runs.{result_on}
use Rattle.flow_plan.specs.Data.{Datum, plain, line, wrong, rows_in, out_at, numbered_at, line_outs, import_outs, import_stream, step_outs, dsread_stream, step_rows, step_faults}
use Rattle.flow_plan.specs.Planned.{ports_for}
use Rattle.plan_sound.specs.Working.{GivesOn, rows_at, AllFit, Came}
use Rattle.plan_sound.specs.OperatorStreams.{InputsFit, MeaningWorks, SourcesWork}
use Rattle.flow_plan.proofs.Following.{numbered_is, numbered_gives, on_rows, faults_numbered}

module _ (c : Chart) (fits : ℕ → Row → Bool) (o : ℕ) where
  -- the rows at the ports fit the links there
  fit_from : (lists : ℕ → List Datum) (ls : List ℕ) (a : ℕ) → ((k : ℕ) → k < length ls → (link_at c (get_or ls k 0)).port ≡ a + k) → ((l : ℕ) → IsIn l ls → AllFit (fits l) (rows_in (lists (link_at c l).port))) →
      InputsFit fits ls (lists_from (λ i. rows_in (lists i)) a (length ls))
  fit_from lists [] a h k = tt
  fit_from lists (l ∷ ls) a h k = (subst (λ i. AllFit (fits l) (rows_in (lists i))) first (k l (inl refl)), fit_from lists ls (suc a) (λ j m. later j (h (suc j) (omega (arith, m)))) (λ j i. k j (inr i)))
    where
      first : (link_at c l).port ≡ a
      first = let e = h 0 (omega arith) in omega (arith, e)

      later : {b : ℕ} (k : ℕ) → b ≡ a + suc k → b ≡ suc a + k
      later k e = omega (arith, e)

  inputs_fit : PortsInOrder c o → (lists : ℕ → List Datum) → Came c fits o lists → InputsFit fits (links_into c o) (rows_at lists (length (links_into c o)))
  inputs_fit ports lists came = fit_from lists (links_into c o) 0 (λ k m. ports k m ∙ zero_plus k) came
    where
      zero_plus : (k : ℕ) → k ≡ 0 + k
      zero_plus k = omega arith

ports_some : (n : ℕ) → 0 < n → ports_for n ≡ n
ports_some zero l = absurd (omega (arith, l))
ports_some (suc n) l = refl

pub meaning_works : MeaningWorks
meaning_works c fits o outs suits op stream ports some at_outs suited stays means = record {
  is_stream = numbered_is o stream means.is_stream;
  ports = means.ports_are ∙ sym (ports_some (length (links_into c o)) some);
  works = λ p lists given file came g. (let n = numbered_gives o stream lists given g in
      let ins = inputs_fit c fits o ports lists came in
      let suit = suited (rows_at lists (length (links_into c o))) ins in
      let rows : (l : ℕ) → IsIn l (links_from c o) → GivesOn op (link_at c l).out p (rows_at lists (length (links_into c o))) (rows_in (on (link_at c l).out given)) =
      λ l i. subst (GivesOn op (link_at c l).out p (rows_at lists (length (links_into c o)))) (sym (ap (λ m. rows_in (on (link_at c l).out m)) n.2 ∙ on_rows o (link_at c l).out n.0)) (means.rows_are (λ i. rows_in (lists i)) n.0 suit n.1 (link_at c l).out p (at_outs l i)) in
      record {
        rows_are = rows;
        rows_fit = λ l i. stays l p (rows_at lists (length (links_into c o))) (rows_in (on (link_at c l).out given)) i ins (rows l i);
        faults_are = ap faults_out n.2 ∙ faults_numbered o n.0 ∙ means.faults_are (λ i. rows_in (lists i)) n.0 suit n.1 p;
      });
}

-- import
line_on : (rejects : Bool) (q : ℕ) (l : Line) → q < 2 → rows_in (on q (line_outs rejects l)) ≡ line_rows q rejects l
line_on rejects zero (good r) h = refl
line_on true zero (bad r f) h = refl
line_on false zero (bad r f) h = refl
line_on rejects (suc zero) (good r) h = refl
line_on true (suc zero) (bad r f) h = refl
line_on false (suc zero) (bad r f) h = refl
line_on rejects (suc (suc q)) l h = absurd (omega (arith, h))

line_fails : (rejects : Bool) (l : Line) → faults_out (line_outs rejects l) ≡ line_faults rejects l
line_fails rejects (good r) = refl
line_fails true (bad r f) = refl
line_fails false (bad r f) = refl

abbrev file_of : List Line → List Fault → List Datum
file_of lines beyond = map line lines ++ map wrong beyond

import_on : (rejects : Bool) (q : ℕ) (lines : List Line) (beyond : List Fault) → q < 2 → rows_in (on q (flat_map (import_outs rejects) (file_of lines beyond))) ≡ flat_map (line_rows q rejects) lines
import_on rejects q [] [] h = refl
import_on rejects q [] (f ∷ beyond) h = import_on rejects q [] beyond h
import_on rejects q (l ∷ lines) beyond h =
    ap rows_in (on-append q (line_outs rejects l) (flat_map (import_outs rejects) (file_of lines beyond)))
    ∙ map-append Rattle.flow_plan.specs.Data.row_in (on q (line_outs rejects l)) (on q (flat_map (import_outs rejects) (file_of lines beyond)))
    ∙ ap₂ (λ a b. a ++ b) (line_on rejects q l h) (import_on rejects q lines beyond h)

import_fails : (rejects : Bool) (lines : List Line) (beyond : List Fault) → faults_out (flat_map (import_outs rejects) (file_of lines beyond)) ≡ flat_map (line_faults rejects) lines ++ beyond
import_fails rejects [] [] = refl
import_fails rejects [] (f ∷ beyond) = ap (λ t. f ∷ t) (import_fails rejects [] beyond)
import_fails rejects (l ∷ lines) beyond =
    faults_out-append (line_outs rejects l) (flat_map (import_outs rejects) (file_of lines beyond)) ∙ ap₂ (λ a b. a ++ b) (line_fails rejects l) (import_fails rejects lines beyond)
    ∙ sym (append_assoc (line_faults rejects l) (flat_map (line_faults rejects) lines) beyond)

-- dsread
steps_on : (steps : List Datum) → rows_in (on 0 (flat_map step_outs steps)) ≡ step_rows steps
steps_on [] = refl
steps_on (plain r ∷ steps) = ap (λ t. r ∷ t) (steps_on steps)
steps_on (line l ∷ steps) = steps_on steps
steps_on (wrong f ∷ steps) = steps_on steps

steps_fail : (steps : List Datum) → faults_out (flat_map step_outs steps) ≡ step_faults steps
steps_fail [] = refl
steps_fail (plain r ∷ steps) = steps_fail steps
steps_fail (line l ∷ steps) = steps_fail steps
steps_fail (wrong f ∷ steps) = ap (λ t. f ∷ t) (steps_fail steps)

no_inputs : (ls : List ℕ) → ls ≡ [] → 1 ≡ ports_for (length ls)
no_inputs ls e = ap (λ t. ports_for (length t)) (sym e)

nothing_fits : (fits : ℕ → Row → Bool) (ls : List ℕ) (lists : ℕ → List Datum) → ls ≡ [] → InputsFit fits ls (rows_at lists (length ls))
nothing_fits fits ls lists e = subst (λ t. InputsFit fits t (rows_at lists (length t))) (sym e) tt

only_zero : (q : ℕ) → q < 1 → q ≡ 0
only_zero q l = omega (arith, l)

pub sources_work : SourcesWork
sources_work = record {
  import = λ c fits o lines rejects beyond none at_outs stays. record {
    is_stream = rowwise_is (import_outs rejects);
    ports = no_inputs (links_into c o) none;
    works = λ p lists given file came g. (
        let gave : given ≡ flat_map (import_outs rejects) (file_of lines beyond) = ((operators_give Datum Fault).rowwise (import_outs rejects)).1 lists given g ∙ ap (flat_map (import_outs rejects)) (file none) in
        let rows : (l : ℕ) → IsIn l (links_from c o) → rows_in (on (link_at c l).out given) ≡ flat_map (line_rows (link_at c l).out rejects) lines = λ l i. ap (λ t. rows_in (on (link_at c l).out t)) gave ∙ import_on rejects (link_at c l).out lines beyond (at_outs l i) in
        record {
          rows_are = rows;
          rows_fit = λ l i. stays l p (rows_at lists (length (links_into c o))) (rows_in (on (link_at c l).out given)) i (nothing_fits fits (links_into c o) lists none) (rows l i);
          faults_are = ap faults_out gave ∙ import_fails rejects lines beyond;
        });
  };
  dsread = λ c fits o segments declared none at_outs stays. record {
    is_stream = rowwise_is step_outs;
    ports = no_inputs (links_into c o) none;
    works = λ p lists given file came g. (
        let gave : given ≡ flat_map step_outs (lists 0) = ((operators_give Datum Fault).rowwise step_outs).1 lists given g in
        let rows : (l : ℕ) → IsIn l (links_from c o) → rows_in (on (link_at c l).out given) ≡ result_on (dsread segments declared) (link_at c l).out p (rows_at lists (length (links_into c o))) =
        λ l i. ap (λ q. rows_in (on q given)) (only_zero (link_at c l).out (at_outs l i)) ∙ ap (λ t. rows_in (on 0 t)) gave ∙ steps_on (lists 0) ∙ (file none).0 in
        record {
          rows_are = rows;
          rows_fit = λ l i. stays l p (rows_at lists (length (links_into c o))) (rows_in (on (link_at c l).out given)) i (nothing_fits fits (links_into c o) lists none) (rows l i);
          faults_are = ap faults_out gave ∙ steps_fail (lists 0) ∙ (file none).1;
        });
  };
}
