-- Links get their fields one by one.
use Rattle.std.proofs.Common.{◌≡◌, ◌<◌, ◌+◌, ◌==◌, [], ℕ, List, Bool, true, false, None, cond, refl, sym, subst, ◌∙◌, arith, length, get_or, set, length-set}
use Rattle.std.proofs.lemmas.Bool.{eqb-true, eq-eqb, eqb-false}
use Rattle.std.proofs.lemmas.List.{get_or-set_other, get_or-set_same}
use Rattle.ds_schema.specs.declared.schema.Field.{Field}
use Rattle.flow_graph.specs.Charts.{no_link}
use Rattle.flow_graph.specs.declared.flow.Flow.{Flow}
use Rattle.flow_shape.specs.Giving.{HasGiven}
use Rattle.flow_shape.specs.Links.{feeds}
use Rattle.flow_shape.specs.Refusals.{chart_of, given_on, operator_cause}
use Rattle.flow_shape.proofs.Marks.{feeds_at}
use Rattle.flow_shape.proofs.Same.{AgreeInto, same_cause, same_given}

-- a link feeds its consumer
pub link_feeds : (flow : Flow) (l a b : ℕ) → l < length flow.links → (get_or flow.links l no_link).from ≡ a → (get_or flow.links l no_link).to ≡ b → feeds flow.links a b ≡ true
link_feeds flow l a b h e f = subst (λ x. feeds flow.links x b ≡ true) e (subst (λ x. feeds flow.links (get_or flow.links l no_link).from x ≡ true) f (feeds_at flow.links l no_link h))

pub begin_given : (flow : Flow) (old : List (List Field)) (o : ℕ) → HasGiven flow old old o 0
begin_given flow old o = record { len = refl; given = λ l h e. absurd (omega (arith, h)); kept = λ l e. refl }

-- what was given so far doesn't change the operator's own inputs
inputs_kept : (flow : Flow) (old cur : List (List Field)) (o k : ℕ) → feeds flow.links o o ≡ false → HasGiven flow old cur o k → AgreeInto flow cur old o
inputs_kept flow old cur o k alone inv l h e = inv.kept l (λ f. cc (sym alone ∙ link_feeds flow l o o h f e))

-- so it stays without a cause
pub still_sound : (flow : Flow) (old cur : List (List Field)) (o k : ℕ) → feeds flow.links o o ≡ false → operator_cause (chart_of flow old) o ≡ None → HasGiven flow old cur o k → operator_cause (chart_of flow cur) o ≡ None
still_sound flow old cur o k alone none inv = same_cause flow cur old o (inputs_kept flow old cur o k alone inv) ∙ none

given_one : (flow : Flow) (old cur : List (List Field)) (o k : ℕ) → (get_or flow.links k no_link).from ≡ o → feeds flow.links o o ≡ false → HasGiven flow old cur o k → given_on (chart_of flow cur) k ≡ given_on (chart_of flow old) k
given_one flow old cur o k e alone inv = same_given flow cur old k (subst (AgreeInto flow cur old) (sym e) (inputs_kept flow old cur o k alone inv))

set_given : (flow : Flow) (old cur : List (List Field)) (o k : ℕ) (s : List Field) → k < length cur → (get_or flow.links k no_link).from ≡ o → s ≡ given_on (chart_of flow old) k → HasGiven flow old cur o k
    → (x : Bool) (l : ℕ) → (l == k) ≡ x → l < k + 1 → (get_or flow.links l no_link).from ≡ o → get_or (set cur k s) l [] ≡ given_on (chart_of flow old) l
set_given flow old cur o k s w e g inv true l y h f =
    let same : l ≡ k = eqb-true l k y in
    subst (λ n. get_or (set cur k s) n [] ≡ given_on (chart_of flow old) n) (sym same) (get_or-set_same cur k s [] w ∙ g)
set_given flow old cur o k s w e g inv false l y h f =
    let apart = eqb-false l k y in
    get_or-set_other cur k l s [] (λ z. absurd (omega (arith, apart, z))) ∙ inv.given l (omega (arith, h, apart)) f

keep_given : (flow : Flow) (old cur : List (List Field)) (o k : ℕ) → ((get_or flow.links k no_link).from == o) ≡ false → HasGiven flow old cur o k
    → (x : Bool) (l : ℕ) → (l == k) ≡ x → l < k + 1 → (get_or flow.links l no_link).from ≡ o → get_or cur l [] ≡ given_on (chart_of flow old) l
keep_given flow old cur o k n inv true l y h f =
    let same : l ≡ k = eqb-true l k y in
    let here : (get_or flow.links k no_link).from ≡ o = subst (λ j. (get_or flow.links j no_link).from ≡ o) same f in
    absurd (cc (sym n ∙ eq-eqb _ o here))
keep_given flow old cur o k n inv false l y h f = let apart = eqb-false l k y in inv.given l (omega (arith, h, apart)) f

next_by : (x : Bool) (flow : Flow) (old cur new : List (List Field)) (o k : ℕ) → ((get_or flow.links k no_link).from == o) ≡ x → k < length old → feeds flow.links o o ≡ false → HasGiven flow old cur o k
    → new ≡ cond x (set cur k (given_on (chart_of flow cur) k)) cur → HasGiven flow old new o (k + 1)
next_by true flow old cur new o k y w alone inv e =
    let from : (get_or flow.links k no_link).from ≡ o = eqb-true _ o y in
    let s = given_on (chart_of flow cur) k in
    subst (λ xs. HasGiven flow old xs o (k + 1)) (sym e) (record {
      len = length-set cur k s ∙ inv.len;
      given = λ l h f. set_given flow old cur o k s (omega (arith, w, inv.len)) from (given_one flow old cur o k from alone inv) inv (l == k) l refl h f;
      kept = λ l n. get_or-set_other cur k l s [] (λ z. n (subst (λ j. (get_or flow.links j no_link).from ≡ o) (sym z) from)) ∙ inv.kept l n;
    })
next_by false flow old cur new o k y w alone inv e =
    subst (λ xs. HasGiven flow old xs o (k + 1)) (sym e) (record {
      len = inv.len;
      given = λ l h f. keep_given flow old cur o k y inv (l == k) l refl h f;
      kept = inv.kept;
    })

pub given_next : (flow : Flow) (old cur new : List (List Field)) (o k : ℕ) → k < length old → feeds flow.links o o ≡ false → HasGiven flow old cur o k
    → new ≡ cond ((get_or flow.links k no_link).from == o) (set cur k (given_on (chart_of flow cur) k)) cur → HasGiven flow old new o (k + 1)
given_next flow old cur new o k w alone inv e = next_by ((get_or flow.links k no_link).from == o) flow old cur new o k refl w alone inv e
