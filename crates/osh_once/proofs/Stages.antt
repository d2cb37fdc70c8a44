-- A stage comes to one status where what stands behind it does.
use Rattle.std.proofs.Common.{◌≡◌, ◌⊎◌, inl, inr, ℕ, true, false, List, [], sym, ap, ◌∙◌, subst, arith, Option, Ok}
use Rattle.ds_port.specs.FileMap.{FileMap}
use Rattle.config_read.specs.declared.config.Config.{Config}
use Rattle.config_read.specs.Pools.{default_count}
use Rattle.config_read.proofs.OneAnswer.{one_configuration, faulty_is_none}
use Rattle.flow_graph.specs.Charts.{Chart}
use Rattle.flow_graph.specs.declared.flow.Flow.{Flow}
use Rattle.flow_graph.specs.declared.route.Choice.{Choice}
use Rattle.flow_shape.specs.Refusals.{IsShapeOf}
use Rattle.flow_shape.specs.Spelled.{IsJoined}
use Rattle.flow_shape.proofs.One.{one_shape, shape_or_fault}
use Rattle.osh_read.specs.Flows.{flow_of}
use Rattle.osh_ends.specs.Built.{is_built}
use Rattle.osh_ends.specs.Ends.{End, end_status, unbuilt, FlowIn, NodesIn, Shapes, Finds, SeatsOn}
use Rattle.osh_ends.specs.Steps.{Reads, Spelled, IsOne}

-- all that it comes to has one status
abbrev pub HasOneStatus : (End → Type 0) → Type 0
HasOneStatus P = (x y : End) → P x → P y → end_status x ≡ end_status y

pub same_end : (e : End) → HasOneStatus (λ x. x ≡ e)
same_end e x y p q = ap end_status (p ∙ sym q)

-- ---- bytes and words

pub one_read : (found : Option (List ℕ)) (missing : End) (next : List ℕ → End → Type 0) → ((b : List ℕ) → HasOneStatus (next b)) → HasOneStatus (Reads found missing next)
one_read found missing next each x y (inl a) (inl b) = same_end missing x y a.1 b.1
one_read found missing next each x y (inl a) (inr b) = let h = sym a.0 ∙ b.1 in absurd (cc h)
one_read found missing next each x y (inr a) (inl b) = let h = sym b.0 ∙ a.1 in absurd (cc h)
one_read found missing next each x y (inr a) (inr b) =
    let h = sym a.1 ∙ b.1 in
    let same : a.0 ≡ b.0 = cc h in each b.0 x y (subst (λ k. next k x) same a.2) b.2

pub one_spelled : {V : Type 0} (Spells : V → Type 0) (otherwise : End) (next : V → End → Type 0) → IsOne Spells → ((v : V) → HasOneStatus (next v)) → HasOneStatus (Spelled Spells otherwise next)
one_spelled Spells otherwise next one each x y (inl a) (inl b) = same_end otherwise x y a.1 b.1
one_spelled Spells otherwise next one each x y (inl a) (inr b) = absurd (a.0 b.0 b.1)
one_spelled Spells otherwise next one each x y (inr a) (inl b) = absurd (b.0 a.0 a.1)
one_spelled Spells otherwise next one each x y (inr a) (inr b) =
    let same = one a.0 b.0 a.1 b.1 in each b.0 x y (subst (λ k. next k x) same a.2) b.2

-- ---- texts

-- what a flow comes to, by whether it is built
abbrev IfBuilt : (Flow → End → Type 0) → Flow → End → Type 0
IfBuilt next flow end = ((is_built flow ≡ false) × (end ≡ unbuilt)) ⊎ ((is_built flow ≡ true) × next flow end)

one_built : (next : Flow → End → Type 0) (flow : Flow) → (is_built flow ≡ true → HasOneStatus (next flow)) → HasOneStatus (IfBuilt next flow)
one_built next flow each x y (inl a) (inl b) = same_end unbuilt x y a.1 b.1
one_built next flow each x y (inl a) (inr b) = let h = sym a.0 ∙ b.0 in absurd (cc h)
one_built next flow each x y (inr a) (inl b) = let h = sym b.0 ∙ a.0 in absurd (cc h)
one_built next flow each x y (inr a) (inr b) = each b.0 x y a.1 b.1

pub one_flow : (text : List ℕ) (next : Flow → End → Type 0) → ((flow : Flow) → flow_of text ≡ Ok flow → is_built flow ≡ true → HasOneStatus (next flow)) → HasOneStatus (FlowIn text next)
one_flow text next each x y (inl a) (inl b) = ap end_status a.3 ∙ sym (ap end_status b.3)
one_flow text next each x y (inl a) (inr b) = let h = sym a.2 ∙ b.1 in absurd (cc h)
one_flow text next each x y (inr a) (inl b) = let h = sym b.2 ∙ a.1 in absurd (cc h)
one_flow text next each x y (inr a) (inr b) =
    let h = sym a.1 ∙ b.1 in
    let same : a.0 ≡ b.0 = cc h in one_built next b.0 (each b.0 b.1) x y (subst (λ f. IfBuilt next f x) same a.2) b.2

pub one_nodes : (text : List ℕ) (next : ℕ → End → Type 0) → ((nodes : ℕ) → HasOneStatus (next nodes)) → HasOneStatus (NodesIn text next)
one_nodes text next each x y (inl a) (inl b) = ap end_status a.3 ∙ sym (ap end_status b.3)
one_nodes text next each x y (inl a) (inr b) = absurd (faulty_is_none text a.0 a.1 b.0 a.2 b.1)
one_nodes text next each x y (inr a) (inl b) = absurd (faulty_is_none text b.0 b.1 a.0 b.2 a.1)
one_nodes text next each x y (inr a) (inr b) =
    let same = one_configuration text a.0 b.0 a.1 b.1 in each (default_count b.0.nodes) x y (subst (λ (c : Config). next (default_count c.nodes) x) same a.2) b.2

-- ---- shapes, files and seats

pub one_chart : (flow : Flow) (next : Chart → End → Type 0) → IsJoined flow → ((c : Chart) → IsShapeOf flow [] c → HasOneStatus (next c)) → HasOneStatus (Shapes flow next)
one_chart flow next joined each x y (inl a) (inl b) = ap end_status a.3 ∙ sym (ap end_status b.3)
one_chart flow next joined each x y (inl a) (inr b) = absurd (shape_or_fault flow [] b.0 a.0 a.1 b.1 a.2)
one_chart flow next joined each x y (inr a) (inl b) = absurd (shape_or_fault flow [] a.0 b.0 b.1 a.1 b.2)
one_chart flow next joined each x y (inr a) (inr b) =
    let same = one_shape flow [] a.0 b.0 joined.within a.1 b.1 in each b.0 b.1 x y (subst (λ c. next c x) same a.2) b.2

pub one_found : (files : FileMap) (c : Chart) (next : End → Type 0) → HasOneStatus next → HasOneStatus (Finds files c next)
one_found files c next one x y (inl a) (inl b) = ap end_status a.2 ∙ sym (ap end_status b.2)
one_found files c next one x y (inl a) (inr b) = let h = sym a.1 ∙ b.0 in absurd (cc h)
one_found files c next one x y (inr a) (inl b) = let h = sym b.1 ∙ a.0 in absurd (cc h)
one_found files c next one x y (inr a) (inr b) = one x y a.1 b.1

pub one_seating : (c : Chart) (choices : List Choice) (nodes : ℕ) (next : End → Type 0) → HasOneStatus next → HasOneStatus (SeatsOn c choices nodes next)
one_seating c choices nodes next one x y (inl a) (inl b) = ap end_status a.4 ∙ sym (ap end_status b.4)
one_seating c choices nodes next one x y (inl a) (inr (inl b)) = ap end_status a.4 ∙ sym (ap end_status b.2)
one_seating c choices nodes next one x y (inl a) (inr (inr b)) = let h = sym a.3.unequal ∙ b.1.equal a.0 a.3.in_range in absurd (cc h)
one_seating c choices nodes next one x y (inr (inl a)) (inl b) = ap end_status a.2 ∙ sym (ap end_status b.4)
one_seating c choices nodes next one x y (inr (inl a)) (inr (inl b)) = ap end_status a.2 ∙ sym (ap end_status b.2)
one_seating c choices nodes next one x y (inr (inl a)) (inr (inr b)) = let many = a.1.many in let number = b.1.number in let few = b.1.few in absurd (omega (arith, many, number, few))
one_seating c choices nodes next one x y (inr (inr a)) (inl b) = let h = sym b.3.unequal ∙ a.1.equal b.0 b.3.in_range in absurd (cc h)
one_seating c choices nodes next one x y (inr (inr a)) (inr (inl b)) = let many = b.1.many in let number = a.1.number in let few = a.1.few in absurd (omega (arith, many, number, few))
one_seating c choices nodes next one x y (inr (inr a)) (inr (inr b)) = one x y a.2 b.2
