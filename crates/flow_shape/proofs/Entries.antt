-- The inputs of an operator, where a flow's links are gone through from the first on.
use Rattle.std.proofs.Common.{◌≡◌, ◌<◌, ◌≤◌, ◌+◌, ◌==◌, ◌++◌, ◌∷◌, [], ℕ, suc, List, Bool, true, false, Option, Some, None, cond, refl, sym, ap, ◌∙◌, arith, length, get_or, map, drop}
use Rattle.std.specs.List.{filter, range_with_len}
use Rattle.std.proofs.lemmas.List.{drop_more, drop_all, get_or_read, map-append}
use Rattle.std.proofs.lemmas.List.Elements.{filter-append}
use Rattle.ds_schema.specs.declared.schema.Field.{Field}
use Rattle.flow_graph.specs.Charts.{no_link, links_into}
use Rattle.flow_graph.specs.declared.flow.Flow.{Flow}
use Rattle.flow_graph.specs.declared.flow.LinkSpec.{LinkSpec}
use Rattle.shape_base.specs.declared.fault.ShapeWhy.{ShapeWhy}
use Rattle.shape_base.specs.Causes.{first_cause}
use Rattle.flow_shape.specs.Refusals.{chart_of, inputs_at, input_cause, fields_at}
use Rattle.shape_base.proofs.Firsts.{or_else}
use Rattle.flow_shape.proofs.Firsts.{first_next}
use Rattle.flow_shape.proofs.Numbers.{numbers, numbers_of}
use Rattle.shape_base.proofs.Lists.{range_more}

pub into_numbers : (flow : Flow) (schemas : List (List Field)) (o : ℕ) → links_into (chart_of flow schemas) o ≡ numbers (λ (k : LinkSpec). k.to == o) 0 flow.links
into_numbers flow schemas o = numbers_of (λ (k : LinkSpec). k.to == o) flow.links

-- the fields of the inputs among the links below k
abbrev pub inputs_below : Flow → List (List Field) → ℕ → ℕ → List (List Field)
inputs_below flow schemas o k = map (fields_at (chart_of flow schemas)) (filter (λ l. (get_or flow.links l no_link).to == o) (range_with_len 0 k))

below_more : (flow : Flow) (schemas : List (List Field)) (o k : ℕ) (b : Bool) → ((get_or flow.links k no_link).to == o) ≡ b → inputs_below flow schemas o (k + 1) ≡ inputs_below flow schemas o k ++ cond b (fields_at (chart_of flow schemas) k ∷ []) []
below_more flow schemas o k b e =
    let p = λ (l : ℕ). (get_or flow.links l no_link).to == o in
    let f = fields_at (chart_of flow schemas) in
    let up : k + 1 ≡ suc k = omega arith in
    ap (inputs_below flow schemas o) up ∙ (ap (λ ns. map f (filter p ns)) (range_more 0 k k (omega arith)) ∙ (ap (map f) (filter-append p (range_with_len 0 k) (k ∷ []))
    ∙ (map-append f (filter p (range_with_len 0 k)) (filter p (k ∷ [])) ∙ (ap (λ x. inputs_below flow schemas o k ++ map f (cond x (k ∷ []) [])) e ∙ ap (λ fs. inputs_below flow schemas o k ++ fs) (last b)))))
  where
    last : (x : Bool) → map (fields_at (chart_of flow schemas)) (cond x (k ∷ []) []) ≡ cond x (fields_at (chart_of flow schemas) k ∷ []) []
    last true = refl
    last false = refl

-- one link more, whose fields are an input's where it leads into the operator
pub below_next : (flow : Flow) (schemas : List (List Field)) (o k : ℕ) (b : Bool) (link : LinkSpec) (fields : List Field) (old new : List (List Field)) → k < length flow.links → length schemas ≡ length flow.links
    → link ≡ get_or flow.links k link → (link.to == o) ≡ b → (b ≡ true → fields ≡ get_or schemas k fields) → old ≡ inputs_below flow schemas o k → new ≡ old ++ cond b (fields ∷ []) [] → new ≡ inputs_below flow schemas o (k + 1)
below_next flow schemas o k b link fields old new h len at e there inv add =
    let here : link ≡ get_or flow.links k no_link = get_or_read flow.links k link h at no_link in
    let leads : ((get_or flow.links k no_link).to == o) ≡ b = ap (λ (l : LinkSpec). l.to == o) (sym here) ∙ e in
    add ∙ (ap (λ fs. fs ++ cond b (fields ∷ []) []) inv ∙ (ap (λ fs. inputs_below flow schemas o k ++ fs) (same b there) ∙ sym (below_more flow schemas o k b leads)))
  where
    same : (x : Bool) → (x ≡ true → fields ≡ get_or schemas k fields) → cond x (fields ∷ []) [] ≡ cond x (get_or schemas k [] ∷ []) []
    same true t = ap (λ f. f ∷ []) (get_or_read schemas k fields (omega (arith, h, len)) (t refl) [])
    same false t = refl

-- the first cause of the links from k on
abbrev pub causes_from : Flow → List (List Field) → ℕ → ℕ → Option ShapeWhy
causes_from flow schemas o k = first_cause (map (input_cause (chart_of flow schemas) o) (numbers (λ (l : LinkSpec). l.to == o) k (drop k flow.links)))

from_next : (flow : Flow) (schemas : List (List Field)) (o k : ℕ) (c : Option ShapeWhy) → k < length flow.links → cond ((get_or flow.links k no_link).to == o) (input_cause (chart_of flow schemas) o k) None ≡ c
    → causes_from flow schemas o k ≡ or_else c (causes_from flow schemas o (k + 1))
from_next flow schemas o k c h e =
    let p = λ (l : LinkSpec). l.to == o in
    let f = input_cause (chart_of flow schemas) o in
    ap (λ ls. first_cause (map f (numbers p k ls))) (drop_more flow.links k no_link h) ∙ first_next p f k (get_or flow.links k no_link) (drop (k + 1) flow.links) c e

pub cause_at : (flow : Flow) (schemas : List (List Field)) (o k : ℕ) (why : ShapeWhy) → k < length flow.links → cond ((get_or flow.links k no_link).to == o) (input_cause (chart_of flow schemas) o k) None ≡ Some why
    → causes_from flow schemas o k ≡ causes_from flow schemas o 0 → Some why ≡ first_cause (map (input_cause (chart_of flow schemas) o) (links_into (chart_of flow schemas) o))
cause_at flow schemas o k why h e inv =
    sym (ap (λ ns. first_cause (map (input_cause (chart_of flow schemas) o) ns)) (into_numbers flow schemas o) ∙ (sym inv ∙ from_next flow schemas o k (Some why) h e))

pub cause_none : (flow : Flow) (schemas : List (List Field)) (o k : ℕ) → length flow.links ≤ k → causes_from flow schemas o k ≡ causes_from flow schemas o 0
    → (let d : Option ShapeWhy = None in d) ≡ first_cause (map (input_cause (chart_of flow schemas) o) (links_into (chart_of flow schemas) o))
cause_none flow schemas o k h inv =
    sym (ap (λ ns. first_cause (map (input_cause (chart_of flow schemas) o) ns)) (into_numbers flow schemas o)
    ∙ (sym inv ∙ ap (λ ls. first_cause (map (input_cause (chart_of flow schemas) o) (numbers (λ (l : LinkSpec). l.to == o) k ls))) (drop_all k flow.links h)))
