-- Where no cause stands at an operator, none stands at the methods of its inputs or at its options.
use Rattle.std.proofs.Common.{◌≡◌, ◌≤◌, ◌<◌, ◌+◌, ◌==◌, ◌++◌, ◌∷◌, [], not, ℕ, zero, suc, List, Bool, true, false, Option, Some, None, cond, refl, sym, ap, subst, ◌∙◌, arith, length, get_or, map}
use Rattle.std.specs.List.{filter, range_with_len, AllByRecursion}
use Rattle.std.proofs.lemmas.Bool.{eq-eqb, eqb-true, eqb-false}
use Rattle.ds_schema.specs.declared.schema.Field.{Field}
use Rattle.flow_graph.specs.Charts.{no_link, no_op, is_seq}
use Rattle.flow_graph.specs.declared.flow.Flow.{Flow}
use Rattle.flow_graph.specs.declared.flow.Method.{Method}
use Rattle.shape_base.specs.declared.fault.ShapeWhy.{ShapeWhy}
use Rattle.shape_base.specs.declared.fault.ShapeWhy.TheVariants as why
use Rattle.shape_base.specs.Causes.{first_cause, cause_if}
use Rattle.flow_shape.specs.Methods.{may_stand, all_named, kinds_suit, method_cause}
use Rattle.op_shape.specs.Options.{option_causes, output_causes}
use Rattle.flow_shape.specs.Refusals.{chart_of, inputs_at, input_cause, operator_cause}
use Rattle.shape_base.proofs.Firsts.{none_both}

alone : (c : Option ShapeWhy) → first_cause (c ∷ []) ≡ None → c ≡ None
alone None h = refl
alone (Some w) h = cc

none_by : (x : Bool) (f : ℕ → Option ShapeWhy) (n : ℕ) (ns : List ℕ) → first_cause (map f (cond x (n ∷ ns) ns)) ≡ None → (x ≡ true → f n ≡ None) × (first_cause (map f ns) ≡ None)
none_by true f n ns e = let both = none_both (f n ∷ []) (map f ns) e in ((λ h. alone (f n) both.0), both.1)
none_by false f n ns e = ((λ h. cc), e)

none_each : (q : ℕ → Bool) (f : ℕ → Option ShapeWhy) (ns : List ℕ) → first_cause (map f (filter q ns)) ≡ None → AllByRecursion (λ n. q n ≡ true → f n ≡ None) ns
none_each q f [] e = tt
none_each q f (n ∷ ns) e = let both = none_by (q n) f n (filter q ns) e in (both.0, none_each q f ns both.1)

range_by : (x : Bool) (P : ℕ → Type 0) (a n i : ℕ) → (a == i) ≡ x → P a × AllByRecursion P (range_with_len (a + 1) n) → a ≤ i → i < a + suc n → (a + 1 ≤ i → i < a + 1 + n → P i) → P i
range_by true P a n i e h low high go = subst P (eqb-true a i e) h.0
range_by false P a n i e h low high go = let apart = eqb-false a i e in go (omega (arith, apart, low)) (omega (arith, high))

pub range_at : (P : ℕ → Type 0) (a n i : ℕ) → AllByRecursion P (range_with_len a n) → a ≤ i → i < a + n → P i
range_at P a zero i h low high = absurd (omega arith)
range_at P a (suc n) i h low high = range_by (a == i) P a n i refl h low high (λ l k. range_at P (a + 1) n i h.1 l k)

pub cause_parts : (flow : Flow) (schemas : List (List Field)) (o : ℕ) → operator_cause (chart_of flow schemas) o ≡ None
    → (first_cause (map (input_cause (chart_of flow schemas) o) (filter (λ l. (get_or flow.links l no_link).to == o) (range_with_len 0 (length flow.links)))) ≡ None)
    × (first_cause (option_causes (get_or flow.ops o no_op).kind (inputs_at (chart_of flow schemas) o) ++ output_causes (get_or flow.ops o no_op).kind (inputs_at (chart_of flow schemas) o)) ≡ None)
cause_parts flow schemas o e = none_both (map (input_cause (chart_of flow schemas) o) (filter (λ l. (get_or flow.links l no_link).to == o) (range_with_len 0 (length flow.links)))) _ e

-- nothing is wrong with a link's method where its consumer fits
pub method_none : (flow : Flow) (schemas : List (List Field)) (l : ℕ) → l < length flow.links → operator_cause (chart_of flow schemas) (get_or flow.links l no_link).to ≡ None
    → method_cause (is_seq (get_or flow.ops (get_or flow.links l no_link).to no_op).mark) (get_or schemas l []) (get_or flow.links l no_link).method ≡ None
method_none flow schemas l h e =
    let o = (get_or flow.links l no_link).to in
    let each = none_each (λ k. (get_or flow.links k no_link).to == o) (input_cause (chart_of flow schemas) o) (range_with_len 0 (length flow.links)) (cause_parts flow schemas o e).0 in
    range_at (λ k. ((get_or flow.links k no_link).to == o) ≡ true → input_cause (chart_of flow schemas) o k ≡ None) 0 (length flow.links) l each (omega arith) (omega (arith, h)) (eq-eqb o o refl)

pub own_none : (flow : Flow) (schemas : List (List Field)) (o : ℕ) (ins : List (List Field)) → ins ≡ inputs_at (chart_of flow schemas) o → operator_cause (chart_of flow schemas) o ≡ None
    → first_cause (option_causes (get_or flow.ops o no_op).kind ins ++ output_causes (get_or flow.ops o no_op).kind ins) ≡ None
own_none flow schemas o ins f e =
    let k = (get_or flow.ops o no_op).kind in
    ap (λ x. first_cause (option_causes k x ++ output_causes k x)) f ∙ (cause_parts flow schemas o e).1

record_by : (x y z : Bool) → first_cause (cause_if (not x) why.Method ∷ (cause_if (not y) why.Field ∷ (cause_if (not z) why.Kind ∷ []))) ≡ None → (x ≡ true) × (y ≡ true) × (z ≡ true)
record_by true true true e = (refl, refl, refl)
record_by false y z e = cc
record_by true false z e = cc
record_by true true false e = cc

pub method_sound : (seq : Bool) (fields : List Field) (m : Method) → method_cause seq fields m ≡ None → (may_stand seq m ≡ true) × (all_named fields m ≡ true) × (kinds_suit fields m ≡ true)
method_sound seq fields m e = record_by (may_stand seq m) (all_named fields m) (kinds_suit fields m) e
