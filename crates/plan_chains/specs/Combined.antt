-- A plan in which a link is combined: its producer and its consumer are one operator, and the link carries nothing between players.
use Rattle.std.specs.Prelude.{◌≡◌, ℕ, ◌<◌, ◌==◌, true, not, if◌then◌else◌, List, [], ◌∷◌}
use Rattle.std.specs.List.{filter}
use Rattle.streams.specs.Lists.{IsIn}
use Rattle.streams.specs.Streams.{Feed, Out, Stream, on, rows_out, faults_out}
use Rattle.streams.specs.Core.{Player, Lane}
use Rattle.streams.specs.Plans.{IsLegal}
use Rattle.streams.specs.Wiring.{shares, Plan, net_of, IsWired}
use Rattle.streams.specs.Chains.{others, then_stream, IsOnePort, Mixes}

-- it sends rows on output 0 alone
abbrev pub IsOneOutput : {X F : Type 0} → Stream X F → Type 0
IsOneOutput {X} operator = (feeds : List (Feed X)) (f : Feed X) → rows_out (others (operator.gives feeds f)) ≡ []

-- The link is straight, and all that its producer sends; its consumer has no other input.
pub record CanCombine {X F : Type 0} (plan : Plan X F) (a b link : ℕ) : Type 0 where
  pub producer : IsIn a plan.order
  pub outs : plan.outs a ≡ link ∷ []
  pub out : (plan.wire link).out ≡ 0
  pub consumer : (plan.wire link).into ≡ b
  pub straight : (plan.wire link).straight ≡ true
  pub shares : (plan.wire link).gather ≡ shares
  pub goes : (p t : ℕ) (x : X) (j : ℕ) → (plan.wire link).goes p t x j ≡ true
  pub one_output : IsOneOutput (plan.stream a)
  pub one_port : IsOnePort (plan.stream b)

-- The plan in which b is no operator of its own: a is both in turn, and b's links leave it.
abbrev pub combined : {X F : Type 0} → Plan X F → ℕ → ℕ → Plan X F
combined plan a b = record {
  order = filter (λ o. not (o == b)) plan.order;
  degree = plan.degree;
  stream = λ o. if o == a then then_stream (plan.stream a) (plan.stream b) else plan.stream o;
  input = plan.input;
  outs = λ o. if o == a then plan.outs b else plan.outs o;
  wire = λ l. record (plan.wire l) { from = if (plan.wire l).from == b then a else (plan.wire l).from };
}

abbrev pub CombinedIsWired : Type 0 → Type 0 → Type 0
CombinedIsWired X F = (plan : Plan X F) (a b link : ℕ) → IsWired plan → CanCombine plan a b link → IsWired (combined plan a b)

abbrev pub part : ℕ → ℕ → Player
part o i = record { operator = o; partition = i }

-- An execution of a plan, against one of the plan with the combined link: the same on other links and at other operators. What a and b send together
-- is what b sends, and their faults are a mixture of those of each.
pub record Parted {X F : Type 0} (plan : Plan X F) (a b link : ℕ) (file lane : Lane → List X) (taken : Player → ℕ → List X) (made : Player → List (Out X F)) : Type 0 where
  pub lanes : Lane → List X
  pub takes : Player → ℕ → List X
  pub makes : Player → List (Out X F)
  pub legal : IsLegal (net_of plan) file lanes takes makes
  pub other_lanes : (k : Lane) → (k.link ≡ link → ⊥) → lanes k ≡ lane k
  pub other_takes : (p : Player) (i : ℕ) → (p.operator ≡ b → ⊥) → takes p i ≡ taken p i
  pub other_makes : (p : Player) → (p.operator ≡ a → ⊥) → (p.operator ≡ b → ⊥) → makes p ≡ made p
  pub sends : (i : ℕ) → i < plan.degree a → (out : ℕ) → on out (made (part a i)) ≡ on out (makes (part b i))
  pub faults : (i : ℕ) → i < plan.degree a → Mixes (faults_out (makes (part a i))) (faults_out (makes (part b i))) (faults_out (made (part a i)))

-- A legal execution of the plan with the combined link is one of the plan.
abbrev pub CombinedIsLegal : Type 0 → Type 0 → Type 0
CombinedIsLegal X F = (plan : Plan X F) (a b link : ℕ) → IsWired plan → CanCombine plan a b link → (file lane : Lane → List X) (taken : Player → ℕ → List X) (made : Player → List (Out X F)) →
    IsLegal (net_of (combined plan a b)) file lane taken made → Parted plan a b link file lane taken made
