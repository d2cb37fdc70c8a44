-- The first part that a link misses, from what its route and its consumer miss.
use Rattle.std.proofs.Common.{Bool, List, None, Option, Some, ap, arith, false, inl, inr, map, refl, sym, subst, true, ℕ, ◌+◌, ◌<◌, ◌≤◌, ◌==◌, ◌≡◌, ◌⊎◌, ◌∷◌, ◌++◌, ◌∙◌, [], length}
use Rattle.std.proofs.lemmas.Bool.Decides.{nat_tests}
use Rattle.std.proofs.lemmas.List.FromFn.{map-range_with_len_more}
use Rattle.std.specs.List.{range_with_len}
use Rattle.flow_graph.specs.Charts.{Chart, all_links, form_at, link_at, links_into}
use Rattle.flow_graph.specs.declared.flow.LinkSpec.{LinkSpec}
use Rattle.flow_graph.specs.declared.route.Choice.{Choice}
use Rattle.flow_derive.specs.declared.outline.Outline.{Outline}
use Rattle.flow_derive.specs.Outlines.{outline_form, passes_at}
use Rattle.flow_graph.specs.declared.state.State.{State}
use Rattle.flow_rules.specs.declared.need.Need.{Need}
use Rattle.flow_rules.specs.Needs.{missed, route_missed}
use Rattle.flow_derive.specs.LinkStates.{AreStates, choice_at, output_at, state_at}
use Rattle.flow_rules.specs.Verdicts.{IsAccepted, IsRefused, NoneMisses, first_of, first_with, link_misses, with_state, infer_regains}

first_state_of : (s : State) (parts : List Need) → first_of (with_state s parts) ≡ first_with (first_of parts) s
first_state_of s [] = refl
first_state_of s (p ∷ parts) = refl

first_left : {X : Type 0} (xs ys : List X) (x : X) → first_of xs ≡ Some x → first_of (xs ++ ys) ≡ Some x
first_left [] ys x e = cc
first_left (z ∷ xs) ys x e = e

first_right : {X : Type 0} (xs ys : List X) → first_of xs ≡ None → first_of (xs ++ ys) ≡ first_of ys
first_right [] ys e = refl
first_right (z ∷ xs) ys e = cc

nothing : {X : Type 0} (xs : List X) → first_of xs ≡ None → xs ≡ []
nothing [] e = refl
nothing (x ∷ xs) e = cc

something : {X : Type 0} (xs : List X) (x : X) → first_of xs ≡ Some x → (rest : List X) × (xs ≡ x ∷ rest)
something [] x e = cc
something (y ∷ xs) x e = (xs, let f : y ≡ x = cc in ap (λ z. z ∷ xs) f)

-- what a link's route misses, and what its consumer does
abbrev pub route_part : Chart → List State → ℕ → Option (Need × State)
route_part c states l = first_of (with_state (output_at infer_regains c states l) (route_missed (choice_at c l).method (output_at infer_regains c states l)))

abbrev pub need_part : Chart → List State → ℕ → Option (Need × State)
need_part c states l = first_of (with_state (state_at states l) (missed (form_at c (link_at c l).to) (map (state_at states) (links_into c (link_at c l).to)) (link_at c l).port))

pub of_route : (c : Chart) (states : List State) (l : ℕ) (x : Need × State) → route_part c states l ≡ Some x → first_of (link_misses infer_regains c states l) ≡ Some x
of_route c states l x e = first_left (with_state (output_at infer_regains c states l) (route_missed (choice_at c l).method (output_at infer_regains c states l))) (with_state (state_at states l) (missed (form_at c (link_at c l).to) (map (state_at states) (links_into c (link_at c l).to)) (link_at c l).port)) x e

pub of_need : (c : Chart) (states : List State) (l : ℕ) (found : Option (Need × State)) → route_part c states l ≡ None → found ≡ need_part c states l → found ≡ first_of (link_misses infer_regains c states l)
of_need c states l found e f = f ∙ sym (first_right (with_state (output_at infer_regains c states l) (route_missed (choice_at c l).method (output_at infer_regains c states l))) (with_state (state_at states l) (missed (form_at c (link_at c l).to) (map (state_at states) (links_into c (link_at c l).to)) (link_at c l).port)) e)

pub route_part_is : (c : Chart) (states : List State) (l : ℕ) (output : State) (need : Option Need) (found : Option (Need × State)) → output ≡ output_at infer_regains c states l → need ≡ first_of (route_missed (choice_at c l).method output) → found ≡ first_with need output → found ≡ route_part c states l
route_part_is c states l output need found a b d =
    d ∙ ap (λ n. first_with n output) b ∙ ap (λ o. first_with (first_of (route_missed (choice_at c l).method o)) o) a ∙ sym (first_state_of (output_at infer_regains c states l) (route_missed (choice_at c l).method (output_at infer_regains c states l)))

-- no link below n misses anything
pub record NoneBelow (c : Chart) (n : ℕ) (states : List State) : Type 0 where
  pub none : (l : ℕ) → l < n → link_misses infer_regains c states l ≡ []

pub none_first : (c : Chart) (states : List State) → NoneBelow c 0 states
none_first c states = record { none = λ l m. absurd (omega arith) }

pub split : (l n : ℕ) → l < n + 1 → (l < n) ⊎ (l ≡ n)
split l n m = go (l == n) refl
  where
    go : (b : Bool) → (l == n) ≡ b → (l < n) ⊎ (l ≡ n)
    go true e = inr (grind (arith, nat_tests))
    go false e = inl (grind (arith, nat_tests))

pub none_more : (c : Chart) (n : ℕ) (states : List State) → NoneBelow c n states → None ≡ first_of (link_misses infer_regains c states n) → NoneBelow c (n + 1) states
none_more c n states h e = record { none = λ l m. go l (split l n m) }
  where
    go : (l : ℕ) → ((l < n) ⊎ (l ≡ n)) → link_misses infer_regains c states l ≡ []
    go l (inl a) = h.none l a
    go l (inr a) = subst (λ k. link_misses infer_regains c states k ≡ []) (sym a) (nothing (link_misses infer_regains c states n) (sym e))

pub refused : (c : Chart) (n : ℕ) (need : Need) (have : State) (states : List State) → AreStates infer_regains c states → n < length c.flow.links → NoneBelow c n states → Some (need, have) ≡ first_of (link_misses infer_regains c states n) → IsRefused infer_regains c n need have
refused c n need have states a l h e =
    let s = something (link_misses infer_regains c states n) (need, have) (sym e) in
    record { states = states; states_are = a; in_range = l; before = h.none; rest = s.0; first = s.1 }

pub none_misses : (c : Chart) (n : ℕ) (states : List State) → NoneBelow c n states → length c.flow.links ≤ n → NoneMisses infer_regains c states
none_misses c n states h e l m = h.none l (omega arith)

pub accepted : (c : Chart) (states : List State) (choices : List Choice) → AreStates infer_regains c states → choices ≡ map (choice_at c) (all_links c) → NoneMisses infer_regains c states → IsAccepted infer_regains c states choices
accepted c states choices a b d = record { states_are = a; choices_are = b; none = d }

pub need_part_is : (c : Chart) (states : List State) (l : ℕ) (spec : LinkSpec) (o : Outline) (inputs : List State) (need : Option Need) (s : State) (found : Option (Need × State)) → spec ≡ link_at c l → outline_form o (passes_at c spec.to) ≡ form_at c spec.to →
    inputs ≡ map (state_at states) (links_into c spec.to) → need ≡ first_of (missed (outline_form o (passes_at c spec.to)) inputs spec.port) → s ≡ state_at states l → found ≡ first_with need s → found ≡ need_part c states l
need_part_is c states l spec o inputs need s found a b d e f g =
    g ∙ ap (first_with need) f
    ∙ ap (λ n. first_with n (state_at states l)) (e ∙ ap (λ x. first_of (missed x inputs spec.port)) b ∙ ap (λ x. first_of (missed (form_at c spec.to) x spec.port)) d ∙ ap (λ (x : LinkSpec). first_of (missed (form_at c x.to) (map (state_at states) (links_into c x.to)) x.port)) a)
    ∙ sym (first_state_of (state_at states l) (missed (form_at c (link_at c l).to) (map (state_at states) (links_into c (link_at c l).to)) (link_at c l).port))

-- what is chosen for the first n links
pub choices_below : Chart → ℕ → List Choice
choices_below c n = map (choice_at c) (range_with_len 0 n)

pub choices_none : (c : Chart) → choices_below c 0 ≡ []
unfolding choices_below
choices_none c = refl

pub choices_one : (c : Chart) (n : ℕ) → choices_below c (n + 1) ≡ choices_below c n ++ choice_at c n ∷ []
unfolding choices_below
choices_one c n = map-range_with_len_more (choice_at c) 0 n n (omega arith)

pub choices_all : (c : Chart) (n : ℕ) → n ≡ length c.flow.links → choices_below c n ≡ map (choice_at c) (all_links c)
unfolding choices_below
choices_all c n e = ap (λ m. map (choice_at c) (range_with_len 0 m)) e
