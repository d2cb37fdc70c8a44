-- What stands at an operator depends on the fields of the links next to it alone.
use Rattle.std.proofs.Common.{◌≡◌, ◌≤◌, ◌<◌, ◌+◌, ◌==◌, ◌++◌, ◌∷◌, [], ℕ, zero, suc, List, Bool, true, false, cond, refl, sym, ap, subst, ◌∙◌, arith, length, get_or, map}
use Rattle.std.specs.List.{filter, range_with_len, AllByRecursion}
use Rattle.std.proofs.lemmas.Bool.{eqb-true}
use Rattle.ds_schema.specs.declared.schema.Field.{Field}
use Rattle.flow_graph.specs.Charts.{no_link, no_op, is_seq}
use Rattle.flow_graph.specs.declared.flow.Flow.{Flow}
use Rattle.shape_base.specs.Causes.{first_cause}
use Rattle.flow_shape.specs.Methods.{method_cause}
use Rattle.op_shape.specs.Options.{option_causes, output_causes, output_fields}
use Rattle.flow_shape.specs.Refusals.{chart_of, inputs_at, input_cause, operator_cause, given_on, Fits}

pub range_all : (P : ℕ → Type 0) (a n : ℕ) → ((i : ℕ) → a ≤ i → i < a + n → P i) → AllByRecursion P (range_with_len a n)
range_all P a zero h = tt
range_all P a (suc n) h = (h a (omega arith) (omega arith), range_all P (a + 1) n (λ i low high. h i (omega (arith, low)) (omega (arith, high))))

same_by : {X : Type 0} (x : Bool) (f g : ℕ → X) (n : ℕ) (ns : List ℕ) → (x ≡ true → f n ≡ g n) → map f ns ≡ map g ns → map f (cond x (n ∷ ns) ns) ≡ map g (cond x (n ∷ ns) ns)
same_by true f g n ns h e = cc (h refl, e)
same_by false f g n ns h e = e

map_filtered : {X : Type 0} (q : ℕ → Bool) (f g : ℕ → X) (ns : List ℕ) → AllByRecursion (λ n. q n ≡ true → f n ≡ g n) ns → map f (filter q ns) ≡ map g (filter q ns)
map_filtered q f g [] h = refl
map_filtered q f g (n ∷ ns) h = same_by (q n) f g n (filter q ns) h.0 (map_filtered q f g ns h.1)

-- two labellings agree on the links into an operator, or out of it
abbrev pub AgreeInto : Flow → List (List Field) → List (List Field) → ℕ → Type 0
AgreeInto flow a b o = (l : ℕ) → l < length flow.links → (get_or flow.links l no_link).to ≡ o → get_or a l [] ≡ get_or b l []

abbrev pub AgreeFrom : Flow → List (List Field) → List (List Field) → ℕ → Type 0
AgreeFrom flow a b o = (l : ℕ) → l < length flow.links → (get_or flow.links l no_link).from ≡ o → get_or a l [] ≡ get_or b l []

pub same_inputs : (flow : Flow) (a b : List (List Field)) (o : ℕ) → AgreeInto flow a b o → inputs_at (chart_of flow a) o ≡ inputs_at (chart_of flow b) o
same_inputs flow a b o g = map_filtered (λ l. (get_or flow.links l no_link).to == o) (λ l. get_or a l []) (λ l. get_or b l []) (range_with_len 0 (length flow.links))
    (range_all _ 0 (length flow.links) (λ i low high e. g i (omega (arith, high)) (eqb-true _ o e)))

same_methods : (flow : Flow) (a b : List (List Field)) (o : ℕ) → AgreeInto flow a b o
    → map (input_cause (chart_of flow a) o) (filter (λ l. (get_or flow.links l no_link).to == o) (range_with_len 0 (length flow.links))) ≡ map (input_cause (chart_of flow b) o) (filter (λ l. (get_or flow.links l no_link).to == o) (range_with_len 0 (length flow.links)))
same_methods flow a b o g = map_filtered (λ l. (get_or flow.links l no_link).to == o) (input_cause (chart_of flow a) o) (input_cause (chart_of flow b) o) (range_with_len 0 (length flow.links))
    (range_all _ 0 (length flow.links) (λ i low high e. ap (λ fields. method_cause (is_seq (get_or flow.ops o no_op).mark) fields (get_or flow.links i no_link).method) (g i (omega (arith, high)) (eqb-true _ o e))))

pub same_cause : (flow : Flow) (a b : List (List Field)) (o : ℕ) → AgreeInto flow a b o → operator_cause (chart_of flow a) o ≡ operator_cause (chart_of flow b) o
same_cause flow a b o g =
    let k = (get_or flow.ops o no_op).kind in
    ap (λ ms. first_cause (ms ++ (option_causes k (inputs_at (chart_of flow a) o) ++ output_causes k (inputs_at (chart_of flow a) o)))) (same_methods flow a b o g)
    ∙ ap (λ ins. first_cause (map (input_cause (chart_of flow b) o) (filter (λ l. (get_or flow.links l no_link).to == o) (range_with_len 0 (length flow.links))) ++ (option_causes k ins ++ output_causes k ins))) (same_inputs flow a b o g)

pub same_given : (flow : Flow) (a b : List (List Field)) (l : ℕ) → AgreeInto flow a b (get_or flow.links l no_link).from → given_on (chart_of flow a) l ≡ given_on (chart_of flow b) l
same_given flow a b l g =
    let k = get_or flow.links l no_link in
    ap (λ ins. output_fields (get_or flow.ops k.from no_op).kind ins k.out) (same_inputs flow a b k.from g)

pub same_fit : (flow : Flow) (a b : List (List Field)) (o : ℕ) → AgreeInto flow a b o → AgreeFrom flow a b o → Fits (chart_of flow a) o → Fits (chart_of flow b) o
same_fit flow a b o g h f = record {
  sound = sym (same_cause flow a b o g) ∙ f.sound;
  gives = λ l w e. sym (h l w e) ∙ (f.gives l w e ∙ same_given flow a b l (subst (AgreeInto flow a b) (sym e) g));
}
