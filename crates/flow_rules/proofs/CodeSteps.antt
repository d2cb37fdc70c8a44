-- What loops over keys and parts of needs add, step by step.
use Rattle.std.proofs.Common.{Bool, List, Option, ap, ap₂, cond, drop, false, filter, get_or, length, not, ℕ, ◌&&◌, ◌+◌, ◌<◌, ◌≤◌, ◌==◌, ◌≡◌, ◌∷◌, ◌∙◌, []}
use Rattle.std.proofs.lemmas.List.{drop_all}
use Rattle.ds_schema.specs.declared.key.Key.{Key}
use Rattle.flow_graph.specs.declared.state.Spot.{Spot}
use Rattle.flow_graph.specs.declared.state.State.{State}
use Rattle.flow_graph.specs.Forms.{Form}
use Rattle.flow_derive.specs.Derive.{first_state}
use Rattle.flow_derive.proofs.CodeSteps.{from_place}
use Rattle.flow_rules.specs.Needs.{begins_with, first_place, meets, missed, needs, same_way}
use Rattle.flow_rules.specs.Verdicts.{first_of}
use Rattle.flow_rules.specs.declared.need.Need.{Need}

pub begins_short : (keys sort : List Key) (i : ℕ) (d : Key) → i < length keys → length sort ≤ i → begins_with (drop i keys) (drop i sort) ≡ false
begins_short keys sort i d h k = ap₂ begins_with (from_place keys i d h) (drop_all i sort k)

pub begins_step : (keys sort : List Key) (i : ℕ) (d : Key) → i < length keys → i < length sort → begins_with (drop i keys) (drop i sort) ≡ (((get_or keys i d).col == (get_or sort i d).col) && (same_way (get_or keys i d).desc (get_or sort i d).desc && begins_with (drop (i + 1) keys) (drop (i + 1) sort)))
begins_step keys sort i d h k = ap₂ begins_with (from_place keys i d h) (from_place sort i d k)

pub parts_step : (p : Need → Bool) (parts : List Need) (i : ℕ) (d : Need) → i < length parts → filter p (drop i parts) ≡ cond (p (get_or parts i d)) (get_or parts i d ∷ filter p (drop (i + 1) parts)) (filter p (drop (i + 1) parts))
parts_step p parts i d h = ap (filter p) (from_place parts i d h)

pub missed_is : (f : Form) (states : List State) (i : ℕ) (first : Spot) (s : State) (parts : List Need) (found : Option Need) → first ≡ first_place f states i → s ≡ get_or states i (first_state []) → parts ≡ needs f first i →
    found ≡ first_of (filter (λ part. not (meets first s part)) parts) → found ≡ first_of (missed f states i)
missed_is f states i first s parts found a b c d =
    let G : Spot → State → List Need → Option Need = λ x y ps. first_of (filter (λ part. not (meets x y part)) ps) in
    d ∙ ap (λ ps. G first s ps) c ∙ ap (λ y. G first y (needs f first i)) b ∙ ap (λ x. G x (get_or states i (first_state [])) (needs f x i)) a
