-- What a legal execution says of a link, partition by partition.
use Rattle.std.proofs.Common.{◌≡◌, ℕ, zero, suc, ◌+◌, ◌<◌, ◌≤◌, ◌==◌, Bool, true, false, ◌||◌, cond, ◌⊎◌, inl, inr, refl, sym, ap, ap₂, ◌∙◌, subst, List, [], ◌∷◌, map, arith}
use Rattle.streams.specs.Streams.{Gives, on}
use Rattle.streams.specs.Core.{Player, Lane}
use Rattle.streams.specs.Plans.{sent}
use Rattle.streams.specs.Lists.{Interleaves, lists_from, IsIn}
use Rattle.streams.specs.Operators.{any_stream}
use Rattle.streams.specs.Wiring.{numbers_from, width, gathered, lane_at, net_of}
use Rattle.streams.specs.Arrivals.{lane_of_rows, lanes_to, SharedArrives}
use Rattle.streams.proofs.StreamLaws.{true_false}
use Rattle.streams.proofs.Collectors.{any_is, gives_interleaving}
use Rattle.streams.proofs.Wired.{players-in, lanes-in, from_where, some_lanes}

sent-lane : {X : Type 0} (here : ℕ → X → Bool) (goes : ℕ → X → ℕ) (j : ℕ) → ((t : ℕ) (x : X) → here t x ≡ (goes t x == j)) → (t : ℕ) (xs : List X) → sent here t xs ≡ lane_of_rows goes j t xs
sent-lane here goes j h t [] = refl
sent-lane here goes j h t (x ∷ xs) = ap₂ (λ b l. cond b (x ∷ l) l) (h t x) (sent-lane here goes j h (suc t) xs)

lanes-are : {X : Type 0} (goes : ℕ → ℕ → X → ℕ) (j : ℕ) (O lists : ℕ → List X) (p k : ℕ) → ((s : ℕ) → p ≤ s → s < p + k → lists s ≡ lane_of_rows (goes s) j 0 (O s)) → lists_from lists p k ≡ lanes_to goes j p (map O (numbers_from p k))
lanes-are goes j O lists p zero h = refl
lanes-are goes j O lists p (suc k) h = ap₂ (λ x y. x ∷ y) (h p (omega arith) (omega arith)) (lanes-are goes j O lists (suc p) k (λ s le lt. h s (omega arith) (omega arith)))

pub shared-arrives : {X F : Type 0} → SharedArrives X F
shared-arrives {X} plan wired file lane taken made legal o i j there lt below many shared goes same =
    let l : ℕ = plan.input o i in
    let n : ℕ = plan.degree (plan.wire l).from in
    let p : Player = record { operator = o; partition = j } in
    let seat : IsIn p (net_of plan).players = players-in plan wired plan.order o j there below in
    let c = legal.collected p i seat lt in
    let lists : ℕ → List X = λ s. lane (lane_at plan l j s) in
    let wide : width plan l ≡ n = ap (λ b. cond b 1 n) many in
    let some : 0 < n = subst (λ w. 0 < w) wide (some_lanes plan wired o i there lt) in
    let is_any : (net_of plan).collector p i ≡ any_stream n = ap₂ (λ g w. gathered g w) shared wide in
    let given : Gives (any_stream n) lists c.0 = subst (λ operator. Gives operator lists c.0) is_any c.1 in
    let mixed : Interleaves (lists_from lists 0 n) (taken p i) = subst (λ T. Interleaves (lists_from lists 0 n) T) (sym c.2) (gives_interleaving (any_stream n) (any_is n some) (λ feeds f. refl) lists c.0 given) in
    let inputs = wired.inputs o i there lt in
    subst (λ ls. Interleaves ls (taken p i)) (lanes-are goes j (λ s. on (plan.wire l).out (made (record { operator = (plan.wire l).from; partition = s }))) lists 0 n (λ s le ls. one s (omega (arith, ls)) inputs.0)) mixed
  where
    one : (s : ℕ) → s < plan.degree (plan.wire (plan.input o i)).from → (plan.wire (plan.input o i)).into ≡ o → lane (lane_at plan (plan.input o i) j s) ≡ lane_of_rows (goes s) j 0 (on (plan.wire (plan.input o i)).out (made (record { operator = (plan.wire (plan.input o i)).from; partition = s })))
    one s ls into = go (from_where plan wired o i there lt)
      where
        no_file : (plan.wire (plan.input o i)).file ≡ true → ⊥
        no_file f = true_false (ap (λ b. b || (plan.wire (plan.input o i)).straight) f) many

        not_straight : (plan.wire (plan.input o i)).straight ≡ true → ⊥
        not_straight st = true_false (or_right (plan.wire (plan.input o i)).file (plan.wire (plan.input o i)).straight st) many
          where
            or_right : (a b : Bool) → b ≡ true → (a || b) ≡ true
            or_right true b h = refl
            or_right false b h = h

        name : lane_at plan (plan.input o i) j s ≡ record { link = plan.input o i; from = s; to = j }
        name = ap (λ b. record { link = plan.input o i; from = cond b j s; to = j }) many

        go : ((plan.wire (plan.input o i)).file ≡ true) ⊎ (IsIn (plan.wire (plan.input o i)).from plan.order × IsIn (plan.input o i) (plan.outs (plan.wire (plan.input o i)).from)) →
            lane (lane_at plan (plan.input o i) j s) ≡ lane_of_rows (goes s) j 0 (on (plan.wire (plan.input o i)).out (made (record { operator = (plan.wire (plan.input o i)).from; partition = s })))
        go (inl f) = absurd (no_file f)
        go (inr from) =
            let k : Lane = record { link = plan.input o i; from = s; to = j } in
            let q : Player = record { operator = (plan.wire (plan.input o i)).from; partition = s } in
            let seat : IsIn q (net_of plan).players = players-in plan wired plan.order _ s from.0 ls in
            ap lane name ∙ legal.routed q k seat (lanes-in plan wired q k seat from.1 refl (subst (λ z. j < plan.degree z) (sym into) below) (λ st. absurd (not_straight st)))
            ∙ sent-lane (λ t x. (plan.wire (plan.input o i)).goes s t x j) (goes s) j (λ t x. same s t x) 0 (on (plan.wire (plan.input o i)).out (made q))
