-- A legal execution of a plan with a combined link, taken apart.
use Rattle.std.proofs.Common.{◌≡◌, ℕ, suc, ◌<◌, ◌==◌, Bool, true, false, ◌||◌, cond, ◌⊎◌, inl, inr, refl, sym, ap, ap₂, ◌∙◌, subst, List, [], ◌∷◌, ◌++◌, arith}
use Rattle.std.specs.Prelude.{◌&&◌, nat_lt}
use Rattle.std.specs.List.{flat_map}
use Rattle.std.proofs.lemmas.Bool.{ltb-true, lt-ltb}
use Rattle.streams.specs.Lists.{any_of, IsIn}
use Rattle.streams.specs.Streams.{Out, Stream, Gives, on, rows_out, faults_out, whole}
use Rattle.streams.specs.Core.{Player, Lane, same_player, same_lane}
use Rattle.streams.specs.Plans.{sent, comes_to, IsLegal}
use Rattle.streams.specs.Wiring.{Gather, Plan, players_of, alone, width, lanes_from, lane_at, gathered, net_of, IsWired}
use Rattle.streams.specs.Chains.{others, then_stream, Mixes}
use Rattle.streams.proofs.Basics.{player_tells, any_in, in_any, and_true, and_right}
use Rattle.streams.proofs.StreamLaws.{eq_true, eq_false, true_false}
use Rattle.streams.proofs.ChainLaws.{then_gives}
use Rattle.streams.proofs.Wired.{in-players, players-in, lanes-in}
use Rattle.core_laws.proofs.Filing.{Comes, comes_is, link_of}
use Rattle.plan_chains.specs.Combined.{CanCombine, combined, part, Parted, CombinedIsLegal}
use Rattle.plan_chains.proofs.Combining.{stays, stayed, leaves, there, input_is, differ, degrees_same, from_b, from_other, stream_a, stream_other, outs_a, outs_other, ports_same, is_a, is_b, wired_both}
use Rattle.plan_chains.proofs.Mixing.{no_others, mixed_rows, mixed_faults, collects_one}

-- a stream that is fed lists is fed others that are the same at its ports
gives_same : {X F : Type 0} (s : Stream X F) (f g : ℕ → List X) (outs : List (Out X F)) → ((i : ℕ) → i < s.ports → f i ≡ g i) → Gives s f outs → Gives s g outs
gives_same s f g outs h given = record { feeds = given.feeds; fed = given.fed; taken = λ i lt. given.taken i lt ∙ ap whole (h i lt); made = given.made }

-- all rows go
all_sent : {X : Type 0} (goes : ℕ → X → Bool) → ((t : ℕ) (x : X) → goes t x ≡ true) → (t : ℕ) (xs : List X) → sent goes t xs ≡ xs
all_sent goes h t [] = refl
all_sent goes h t (x ∷ xs) = ap (λ z. cond z (x ∷ sent goes (suc t) xs) (sent goes (suc t) xs)) (h t x) ∙ ap (λ ys. x ∷ ys) (all_sent goes h (suc t) xs)

module _ {X F : Type 0} (plan : Plan X F) where
  abbrev leaving : ℕ → List ℕ → List Lane
  leaving i ls = flat_map (lanes_from plan i) ls

  lanes_out : (q : Player) (k : Lane) → IsIn k ((net_of plan).lanes q) → IsIn q (players_of plan) × IsIn k (flat_map (lanes_from plan q.partition) (plan.outs q.operator))
  lanes_out q k h = by (any_of (same_player q) (players_of plan)) refl h
    where
      by : (t : Bool) → any_of (same_player q) (players_of plan) ≡ t → IsIn k (cond t (flat_map (lanes_from plan q.partition) (plan.outs q.operator)) []) → IsIn q (players_of plan) × IsIn k (flat_map (lanes_from plan q.partition) (plan.outs q.operator))
      by true e i = (any_in player_tells q (players_of plan) e, i)
      by false e i = absurd i

  out_lanes : (q : Player) (k : Lane) → IsIn q (players_of plan) → IsIn k (flat_map (lanes_from plan q.partition) (plan.outs q.operator)) → IsIn k ((net_of plan).lanes q)
  out_lanes q k h i = subst (λ t. IsIn k (cond t (flat_map (lanes_from plan q.partition) (plan.outs q.operator)) [])) (sym (in_any player_tells q (players_of plan) h)) i

-- what a and b made of what a took
pub record Split {X F : Type 0} (a b : Stream X F) (taken : ℕ → List X) (made : List (Out X F)) : Type 0 where
  pub first : List (Out X F)
  pub second : List (Out X F)
  pub one : Gives a taken first
  pub two : Gives b (λ i. on 0 first) second
  pub mixes : Mixes (others first) second made

module _ {X F : Type 0} (plan : Plan X F) (a b link : ℕ) (wired : IsWired plan) (can : CanCombine plan a b link) (file lane : Lane → List X) (taken : Player → ℕ → List X) (made : Player → List (Out X F))
    (legal : IsLegal (net_of (combined plan a b)) file lane taken made) where
  abbrev both : Plan X F
  both = combined plan a b

  wb : IsWired both
  wb = wired_both plan a b link wired can

  a_stays : IsIn a both.order
  a_stays = stays b a plan.order can.producer (differ plan a b link wired can)

  -- ---- players

  seat_of : (p : Player) → IsIn p (players_of plan) → IsIn p.operator plan.order × (p.partition < plan.degree p.operator)
  seat_of p h = in-players plan wired plan.order p h

  seated : (p : Player) → IsIn p (players_of plan) → (p.operator ≡ b → ⊥) → IsIn p (players_of both)
  seated p h n = players-in both wb both.order p.operator p.partition (stays b p.operator plan.order (seat_of p h).0 n) (seat_of p h).1

  unseated : (p : Player) → IsIn p (players_of both) → IsIn p (players_of plan)
  unseated p h = (let s = in-players both wb both.order p h in players-in plan wired plan.order p.operator p.partition (stayed b p.operator plan.order s.0).0 s.1)

  a_seat : (i : ℕ) → i < plan.degree a → IsIn (part a i) (players_of both)
  a_seat i lt = players-in both wb both.order a i a_stays lt

  b_seat : (i : ℕ) → i < plan.degree a → IsIn (part b i) (players_of plan)
  b_seat i lt = players-in plan wired plan.order b i (there plan a b link wired can) (subst (λ n. i < n) (degrees_same plan a b link wired can) lt)

  -- ---- what each of the two made

  split : (i : ℕ) → i < plan.degree a → Split (plan.stream a) (plan.stream b) (taken (part a i)) (made (part a i))
  split i lt =
      let g : Gives (then_stream (plan.stream a) (plan.stream b)) (taken (part a i)) (made (part a i)) = subst (λ (s : Stream X F). Gives s (taken (part a i)) (made (part a i))) (stream_a plan a b link wired can) (legal.given (part a i) (a_seat i lt)) in
      let r = then_gives (plan.stream a) (plan.stream b) (wired.streams a can.producer) can.one_port (taken (part a i)) (made (part a i)) g in
      record { first = r.0; second = r.1; one = r.2; two = r.3; mixes = r.4 }

  chosen_by : (i : ℕ) (t : Bool) → nat_lt i (plan.degree a) ≡ t → List (Out X F) × List (Out X F)
  chosen_by i true e = (let s = split i (ltb-true _ _ e) in (s.first, s.second))
  chosen_by i false e = ([], [])

  chosen : ℕ → List (Out X F) × List (Out X F)
  chosen i = chosen_by i (nat_lt i (plan.degree a)) refl

  record Chosen (i : ℕ) (c : List (Out X F) × List (Out X F)) : Type 0 where
    one : Gives (plan.stream a) (taken (part a i)) c.0
    two : Gives (plan.stream b) (λ j. on 0 c.0) c.1
    mixes : Mixes (others c.0) c.1 (made (part a i))

  chosen_is : (i : ℕ) → i < plan.degree a → Chosen i (chosen i)
  unfolding chosen chosen_by
  chosen_is i lt = by (nat_lt i (plan.degree a)) refl
    where
      by : (t : Bool) (e : nat_lt i (plan.degree a) ≡ t) → Chosen i (chosen_by i t e)
      by true e = (let s = split i (ltb-true _ _ e) in record { one = s.one; two = s.two; mixes = s.mixes })
      by false e = absurd (true_false (lt-ltb _ _ lt) e)

  abbrev lanes : Lane → List X
  lanes k = cond (k.link == link) (on 0 (chosen k.from).0) (lane k)

  abbrev takes : Player → ℕ → List X
  takes p i = cond (p.operator == b) (on 0 (chosen p.partition).0) (taken p i)

  abbrev makes : Player → List (Out X F)
  makes p = cond (p.operator == a) (chosen p.partition).0 (cond (p.operator == b) (chosen p.partition).1 (made p))

  own_lane : (k : Lane) → k.link ≡ link → lanes k ≡ on 0 (chosen k.from).0
  own_lane k e = ap (λ t. cond t (on 0 (chosen k.from).0) (lane k)) (eq_true k.link link e)

  other_lane : (k : Lane) → (k.link ≡ link → ⊥) → lanes k ≡ lane k
  other_lane k n = ap (λ t. cond t (on 0 (chosen k.from).0) (lane k)) (eq_false k.link link n)

  b_takes : (p : Player) (i : ℕ) → p.operator ≡ b → takes p i ≡ on 0 (chosen p.partition).0
  b_takes p i e = ap (λ t. cond t (on 0 (chosen p.partition).0) (taken p i)) (eq_true p.operator b e)

  other_takes : (p : Player) (i : ℕ) → (p.operator ≡ b → ⊥) → takes p i ≡ taken p i
  other_takes p i n = ap (λ t. cond t (on 0 (chosen p.partition).0) (taken p i)) (eq_false p.operator b n)

  a_makes : (p : Player) → p.operator ≡ a → makes p ≡ (chosen p.partition).0
  a_makes p e = ap (λ t. cond t (chosen p.partition).0 (cond (p.operator == b) (chosen p.partition).1 (made p))) (eq_true p.operator a e)

  b_makes : (p : Player) → p.operator ≡ b → makes p ≡ (chosen p.partition).1
  b_makes p e =
      ap (λ t. cond t (chosen p.partition).0 (cond (p.operator == b) (chosen p.partition).1 (made p))) (eq_false p.operator a (λ s. differ plan a b link wired can (sym s ∙ e)))
      ∙ ap (λ t. cond t (chosen p.partition).1 (made p)) (eq_true p.operator b e)

  other_makes : (p : Player) → (p.operator ≡ a → ⊥) → (p.operator ≡ b → ⊥) → makes p ≡ made p
  other_makes p n m =
      ap (λ t. cond t (chosen p.partition).0 (cond (p.operator == b) (chosen p.partition).1 (made p))) (eq_false p.operator a n)
      ∙ ap (λ t. cond t (chosen p.partition).1 (made p)) (eq_false p.operator b m)

  -- what a and b send together
  sends_same : (i : ℕ) → i < plan.degree a → (out : ℕ) → on out (made (part a i)) ≡ on out (chosen i).1
  sends_same i lt out =
      let c = chosen_is i lt in
      mixed_rows out (others (chosen i).0) (chosen i).1 (made (part a i)) (no_others (plan.stream a) can.one_output (taken (part a i)) (chosen i).0 c.one) c.mixes

  -- ---- lanes

  -- a lane of a is of the link
  lane_a : (p : Player) (k : Lane) → p.operator ≡ a → IsIn k ((net_of plan).lanes p) → (k.link ≡ link) × (k.from ≡ p.partition)
  lane_a p k e h = found (subst (λ t. IsIn k (cond t (record { link = link; from = p.partition; to = p.partition } ∷ []) (every link) ++ [])) can.straight (subst (λ (ls : List ℕ). IsIn k (flat_map (lanes_from plan p.partition) ls)) (ap plan.outs e ∙ can.outs) (lanes_out plan p k h).1))
    where
      every : ℕ → List Lane
      every l = Rattle.std.specs.Prelude.map (λ j. record { link = l; from = p.partition; to = j }) (Rattle.streams.specs.Wiring.numbers_from 0 (plan.degree (plan.wire l).into))

      found : IsIn k (record { link = link; from = p.partition; to = p.partition } ∷ []) → (k.link ≡ link) × (k.from ≡ p.partition)
      found (inl s) = (ap (λ (z : Lane). z.link) s, ap (λ (z : Lane). z.from) s)
      found (inr i) = absurd i

  -- a lane of another operator isn't
  lane_other : (p : Player) (k : Lane) → (p.operator ≡ a → ⊥) → IsIn k ((net_of plan).lanes p) → k.link ≡ link → ⊥
  lane_other p k n h e =
      let o = link_of plan p k h in
      let s = seat_of p o.0 in
      n (sym (wired.outputs p.operator k.link s.0 o.1).from ∙ (ap (λ z. (plan.wire z).from) e ∙ (leaves plan a b link wired can).from))

  -- the lanes of b are those of both
  b_lanes : (i : ℕ) (k : Lane) → i < plan.degree a → IsIn k ((net_of plan).lanes (part b i)) → IsIn k ((net_of both).lanes (part a i))
  b_lanes i k lt h = out_lanes both (part a i) k (a_seat i lt) (subst (λ (ls : List ℕ). IsIn k (flat_map (lanes_from plan i) ls)) (sym (outs_a plan a b link wired can)) (lanes_out plan (part b i) k h).1)

  other_lanes : (p : Player) (k : Lane) → (p.operator ≡ a → ⊥) → (p.operator ≡ b → ⊥) → IsIn k ((net_of plan).lanes p) → IsIn k ((net_of both).lanes p)
  other_lanes p k n m h =
      let o = lanes_out plan p k h in
      out_lanes both p k (seated p o.0 m) (subst (λ (ls : List ℕ). IsIn k (flat_map (lanes_from plan p.partition) ls)) (sym (outs_other plan a b link wired can p.operator n)) o.1)

  -- the other way
  lanes_back : (q : Player) (k : Lane) → IsIn k ((net_of both).lanes q) → (p : Player) × IsIn k ((net_of plan).lanes p)
  lanes_back q k h = by (is_a plan a b link wired can q.operator)
    where
      o : IsIn q (players_of both) × IsIn k (flat_map (lanes_from both q.partition) (both.outs q.operator))
      o = lanes_out both q k h

      by : (q.operator ≡ a) ⊎ (q.operator ≡ a → ⊥) → (p : Player) × IsIn k ((net_of plan).lanes p)
      by (inl e) =
          let low : q.partition < plan.degree a = subst (λ z. q.partition < plan.degree z) e (seat_of q (unseated q o.0)).1 in
          (part b q.partition, out_lanes plan (part b q.partition) k (b_seat q.partition low) (subst (λ (ls : List ℕ). IsIn k (flat_map (lanes_from plan q.partition) ls)) (ap both.outs e ∙ outs_a plan a b link wired can) o.1))
      by (inr n) = (q, out_lanes plan q k (unseated q o.0) (subst (λ (ls : List ℕ). IsIn k (flat_map (lanes_from plan q.partition) ls)) (outs_other plan a b link wired can q.operator n) o.1))

  -- ---- what comes

  abbrev Came : Player → Lane → Type 0
  Came p k = Comes plan wired p k

  abbrev at_slot : Player → Lane → ℕ → ℕ → Bool
  at_slot p k ports n = same_lane k (lane_at plan (plan.input p.operator (plan.wire k.link).port) p.partition (cond (alone (plan.wire k.link)) 0 k.from))
      && (nat_lt (plan.wire k.link).port ports && nat_lt (cond (alone (plan.wire k.link)) 0 k.from) (gathered (plan.wire (plan.input p.operator (plan.wire k.link).port)).gather n).ports)

  -- the link leads to b, and alone
  to_b : (l : ℕ) → l ≡ link → (plan.wire l).into ≡ b
  to_b l e = ap (λ z. (plan.wire z).into) e ∙ can.consumer

  one_lane : alone (plan.wire link) ≡ true
  one_lane = by (plan.wire link).file can.straight
    where
      by : (t : Bool) {s : Bool} → s ≡ true → (t || s) ≡ true
      by true e = refl
      by false e = e

  width_same : (l : ℕ) → width both l ≡ width plan l
  width_same l = ap (λ n. cond (alone (plan.wire l)) 1 n) (by (is_b plan a b link wired can (plan.wire l).from))
    where
      by : ((plan.wire l).from ≡ b) ⊎ ((plan.wire l).from ≡ b → ⊥) → plan.degree (both.wire l).from ≡ plan.degree (plan.wire l).from
      by (inl e) = ap plan.degree (from_b plan a b link wired can l e) ∙ (degrees_same plan a b link wired can ∙ ap plan.degree (sym e))
      by (inr n) = ap plan.degree (from_other plan a b link wired can l n)

  -- ---- the execution

  routed : (p : Player) (k : Lane) → IsIn p (players_of plan) → IsIn k ((net_of plan).lanes p) → lanes k ≡ sent ((net_of plan).goes k) 0 (on (plan.wire k.link).out (makes p))
  routed p k seat h = by (is_a plan a b link wired can p.operator) (is_b plan a b link wired can p.operator)
    where
      low : p.operator ≡ a → p.partition < plan.degree a
      low e = subst (λ z. p.partition < plan.degree z) e (seat_of p seat).1

      low_b : p.operator ≡ b → p.partition < plan.degree a
      low_b e = subst (λ n. p.partition < n) (ap plan.degree e ∙ sym (degrees_same plan a b link wired can)) (seat_of p seat).1

      by : (p.operator ≡ a) ⊎ (p.operator ≡ a → ⊥) → (p.operator ≡ b) ⊎ (p.operator ≡ b → ⊥) → lanes k ≡ sent ((net_of plan).goes k) 0 (on (plan.wire k.link).out (makes p))
      by (inl e) d =
          let k_is = lane_a p k e h in
          let goes : (t : ℕ) (x : X) → (net_of plan).goes k t x ≡ true = λ t x. ap (λ z. (plan.wire z).goes k.from t x k.to) k_is.0 ∙ can.goes k.from t x k.to in
          own_lane k k_is.0
          ∙ (ap (λ i. on 0 (chosen i).0) k_is.1
          ∙ (sym (ap₂ (λ out outs. on out outs) (ap (λ z. (plan.wire z).out) k_is.0 ∙ can.out) (a_makes p e))
          ∙ sym (all_sent ((net_of plan).goes k) goes 0 (on (plan.wire k.link).out (makes p)))))
      by (inr n) (inl e) =
          let i : ℕ = p.partition in
          let there_k : IsIn k ((net_of plan).lanes (part b i)) = subst (λ o. IsIn k ((net_of plan).lanes (part o i))) e h in
          let r = legal.routed (part a i) k (a_seat i (low_b e)) (b_lanes i k (low_b e) there_k) in
          other_lane k (lane_other p k n h)
          ∙ (r ∙ ap (λ rows. sent ((net_of plan).goes k) 0 rows) (sends_same i (low_b e) (plan.wire k.link).out ∙ ap (on (plan.wire k.link).out) (sym (b_makes p e))))
      by (inr n) (inr m) =
          other_lane k (lane_other p k n h)
          ∙ (legal.routed p k (seated p seat m) (other_lanes p k n m h) ∙ ap (λ outs. sent ((net_of plan).goes k) 0 (on (plan.wire k.link).out outs)) (sym (other_makes p n m)))

  collected : (p : Player) (i : ℕ) → IsIn p (players_of plan) → i < (plan.stream p.operator).ports → (outs : List (Out X F)) × Gives ((net_of plan).collector p i) (λ s. lanes ((net_of plan).at p i s)) outs × (takes p i ≡ rows_out outs)
  collected p i seat lt = by (is_b plan a b link wired can p.operator)
    where
      l : ℕ
      l = plan.input p.operator i

      by : (p.operator ≡ b) ⊎ (p.operator ≡ b → ⊥) → (outs : List (Out X F)) × Gives ((net_of plan).collector p i) (λ s. lanes ((net_of plan).at p i s)) outs × (takes p i ≡ rows_out outs)
      by (inl e) =
          let one : (plan.stream b).ports ≡ 1 = can.one_port.one in
          let low : i < (plan.stream b).ports = subst (λ z. i < (plan.stream z).ports) e lt in
          let zeroth : i ≡ 0 = omega arith in
          let is : plan.input p.operator i ≡ link = ap₂ (λ o j. plan.input o j) e zeroth ∙ input_is plan a b link wired can in
          let c = collects_one (plan.wire (plan.input p.operator i)).gather (width plan (plan.input p.operator i)) (λ s. lanes ((net_of plan).at p i s)) (ap (λ z. (plan.wire z).gather) is ∙ can.shares)
          (ap (λ z. width plan z) is ∙ ap (λ t. cond t 1 (plan.degree (plan.wire link).from)) one_lane) in
          let from : (lane_at plan (plan.input p.operator i) p.partition 0).from ≡ p.partition = ap (λ z. cond (alone (plan.wire z)) p.partition 0) is ∙ ap (λ t. cond t p.partition 0) one_lane in
          (c.outs, c.gives, b_takes p i e ∙ (sym (own_lane ((net_of plan).at p i 0) is ∙ ap (λ n. on 0 (chosen n).0) from) ∙ c.is))
      by (inr m) =
          let low : i < (both.stream p.operator).ports = subst (λ n. i < n) (sym (ports_same plan a b link wired can p.operator)) lt in
          let c = legal.collected p i (seated p seat m) low in
          let apart : plan.input p.operator i ≡ link → ⊥ = λ e. m (sym (wired.inputs p.operator i (seat_of p seat).0 lt).0 ∙ to_b (plan.input p.operator i) e) in (
            c.0,
            gives_same ((net_of plan).collector p i) (λ s. lane ((net_of plan).at p i s)) (λ s. lanes ((net_of plan).at p i s)) c.0 (λ s h. sym (other_lane ((net_of plan).at p i s) apart))
                (subst (λ n. Gives (gathered (plan.wire (plan.input p.operator i)).gather n) (λ s. lane ((net_of plan).at p i s)) c.0) (width_same (plan.input p.operator i)) c.1),
            other_takes p i m ∙ c.2,
          )

  given : (p : Player) → IsIn p (players_of plan) → Gives (plan.stream p.operator) (takes p) (makes p)
  given p seat = by (is_a plan a b link wired can p.operator) (is_b plan a b link wired can p.operator)
    where
      by : (p.operator ≡ a) ⊎ (p.operator ≡ a → ⊥) → (p.operator ≡ b) ⊎ (p.operator ≡ b → ⊥) → Gives (plan.stream p.operator) (takes p) (makes p)
      by (inl e) d =
          let low : p.partition < plan.degree a = subst (λ z. p.partition < plan.degree z) e (seat_of p seat).1 in
          let c = chosen_is p.partition low in
          let g : Gives (plan.stream p.operator) (taken p) (chosen p.partition).0 = subst (λ o. Gives (plan.stream o) (taken (part o p.partition)) (chosen p.partition).0) (sym e) c.one in
          subst (λ (outs : List (Out X F)). Gives (plan.stream p.operator) (takes p) outs) (sym (a_makes p e))
          (gives_same (plan.stream p.operator) (taken p) (takes p) (chosen p.partition).0 (λ i h. sym (other_takes p i (λ s. differ plan a b link wired can (sym e ∙ s)))) g)
      by (inr n) (inl e) =
          let low : p.partition < plan.degree a = subst (λ m. p.partition < m) (ap plan.degree e ∙ sym (degrees_same plan a b link wired can)) (seat_of p seat).1 in
          let c = chosen_is p.partition low in
          let g : Gives (plan.stream p.operator) (λ i. on 0 (chosen p.partition).0) (chosen p.partition).1 = subst (λ o. Gives (plan.stream o) (λ i. on 0 (chosen p.partition).0) (chosen p.partition).1) (sym e) c.two in
          subst (λ (outs : List (Out X F)). Gives (plan.stream p.operator) (takes p) outs) (sym (b_makes p e))
          (gives_same (plan.stream p.operator) (λ i. on 0 (chosen p.partition).0) (takes p) (chosen p.partition).1 (λ i h. sym (b_takes p i e)) g)
      by (inr n) (inr m) =
          let g : Gives (plan.stream p.operator) (taken p) (made p) = subst (λ (s : Stream X F). Gives s (taken p) (made p)) (stream_other plan a b link wired can p.operator n) (legal.given p (seated p seat m)) in
          subst (λ (outs : List (Out X F)). Gives (plan.stream p.operator) (takes p) outs) (sym (other_makes p n m))
          (gives_same (plan.stream p.operator) (taken p) (takes p) (made p) (λ i h. sym (other_takes p i m)) g)

  -- a lane of the link has a producer
  of_link : (p : Player) (k : Lane) → Came p k → k.link ≡ link → IsIn k ((net_of plan).lanes (part a k.from))
  of_link p k c e =
      let w = can.straight in
      let from : k.from ≡ p.partition = c.from (ap (λ z. alone (plan.wire z)) e ∙ one_lane) in
      let s = seat_of p c.seat in
      let into : b ≡ p.operator = sym (to_b k.link e) ∙ (ap (λ z. (plan.wire z).into) c.link ∙ (wired.inputs p.operator (plan.wire k.link).port s.0 c.port).0) in
      let low_b : k.from < plan.degree b = subst (λ n. k.from < n) (ap plan.degree (sym into)) (subst (λ n. n < plan.degree p.operator) (sym from) s.1) in
      let low : k.from < plan.degree a = subst (λ n. k.from < n) (sym (degrees_same plan a b link wired can)) low_b in
      let same : k.to ≡ k.from = c.to ∙ sym from in
      lanes-in plan wired (part a k.from) k (players-in plan wired plan.order a k.from can.producer low) (subst (λ l. IsIn l (plan.outs a)) (sym e) (subst (λ (ls : List ℕ). IsIn link ls) (sym can.outs) (inl refl))) refl
      (subst (λ n. n < plan.degree (plan.wire k.link).into) (sym same) (subst (λ z. k.from < plan.degree z) (sym (to_b k.link e)) low_b)) (λ t. same)

  read : (p : Player) (k : Lane) → IsIn p (players_of plan) → comes_to (net_of plan) p k ≡ true → ((q : Player) → IsIn k ((net_of plan).lanes q) → ⊥) → lanes k ≡ file k
  read p k seat comes none =
      let c : Came p k = comes_is plan wired p k comes in
      let apart : k.link ≡ link → ⊥ = λ e. none (part a k.from) (of_link p k c e) in
      let other : p.operator ≡ b → ⊥ = λ e. apart (link_is c e) in
      other_lane k apart ∙ legal.read p k (seated p seat other) (comes_both other) (λ q h. (let r = lanes_back q k h in none r.0 r.1))
    where
      link_is : Came p k → p.operator ≡ b → k.link ≡ link
      link_is c e =
          let one : (plan.stream b).ports ≡ 1 = can.one_port.one in
          let low : (plan.wire k.link).port < (plan.stream b).ports = subst (λ z. (plan.wire k.link).port < (plan.stream z).ports) e c.port in
          let zeroth : (plan.wire k.link).port ≡ 0 = omega arith in
          c.link ∙ (ap₂ (λ o j. plan.input o j) e zeroth ∙ input_is plan a b link wired can)

      comes_both : (p.operator ≡ b → ⊥) → comes_to (net_of both) p k ≡ true
      comes_both other =
          and_true (in_any player_tells p (players_of both) (seated p seat other))
          (ap₂ (λ ports n. at_slot p k ports n) (ports_same plan a b link wired can p.operator) (width_same (plan.input p.operator (plan.wire k.link).port)) ∙ and_right (any_of (same_player p) (players_of plan)) (at_slot p k (plan.stream p.operator).ports (width plan (plan.input p.operator (plan.wire k.link).port))) comes)

  parted : Parted plan a b link file lane taken made
  parted = record {
    lanes = lanes;
    takes = takes;
    makes = makes;
    legal = record { read = read; routed = routed; collected = collected; given = given };
    other_lanes = other_lane;
    other_takes = other_takes;
    other_makes = other_makes;
    sends = λ i lt out. sends_same i lt out ∙ ap (on out) (sym (b_makes (part b i) refl));
    faults = λ i lt.
        let c = chosen_is i lt in
        subst (λ (outs : List (Out X F)). Mixes (faults_out outs) (faults_out (makes (part b i))) (faults_out (made (part a i)))) (sym (a_makes (part a i) refl))
        (subst (λ (outs : List (Out X F)). Mixes (faults_out (chosen i).0) (faults_out outs) (faults_out (made (part a i)))) (sym (b_makes (part b i) refl)) (mixed_faults (chosen i).0 (chosen i).1 (made (part a i)) c.mixes));
  }

pub combined_is_legal : {X F : Type 0} → CombinedIsLegal X F
combined_is_legal plan a b link wired can file lane taken made legal = parted plan a b link wired can file lane taken made legal
