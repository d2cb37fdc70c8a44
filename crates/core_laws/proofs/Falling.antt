-- The measure falls whatever the first number of a player is, if its takes lower it.
use Rattle.std.proofs.Common.{◌≡◌, ℕ, suc, ◌+◌, ◌<◌, true, false, not, ◌||◌, ◌⊎◌, inl, inr, refl, sym, ap, ap₂, ◌∙◌, subst, List, [], ◌∷◌, ◌++◌, length, drop, length-append, arith}
use Rattle.streams.specs.Lists.{IsIn, is_empty}
use Rattle.streams.specs.Streams.{Item}
use Rattle.streams.specs.Core.{Player, Lane, same_lane, Parcel, Shape, State, Event, take, put, hold, set, outstanding, is_enabled, taken_front, put_front, hold_front, done, IsNet, ArePlayers, left_over, held_back, Falls}
use Rattle.streams.specs.Wiring.{net_of}
use Rattle.streams.proofs.Basics.{player_tells, lane_tells, set_case, set_same, set_other, any_in, and_left, and_right}
use Rattle.streams.proofs.Measure.{total-same, total-less, drop-next, less_queued, less_outstanding, less_held, walk, no_loop}
use Rattle.streams.proofs.PlayerLaws.{are_players}
use Rattle.streams.proofs.Wired.{wired-is-plan}
use Rattle.core_laws.specs.Driven.{plan_shape, PlanFallsBy, Lowers, measure_by}

module _ {X : Type 0} (shape : Shape X) (net : IsNet shape) (are : ArePlayers shape) where
  falls-taken : (old new : Player → ℕ) (s : State X) (p : Player) (q : Lane) (queue : List (Parcel X)) → s.queue q ≡ queue → not (is_empty queue) ≡ true → IsIn p shape.players → IsIn q (shape.queues p) → Lowers shape old new (take p q) → Falls (measure_by shape new (taken_front s p q queue)) (measure_by shape old s)
  falls-taken old new s p q [] e some seat mine lowers = absurd (let n : false ≡ true = some in cc)
  falls-taken old new s p q (f ∷ rest) e some seat mine lowers =
      let t : State X = taken_front s p q (f ∷ rest) in
      walk shape net old (left_over shape s) (held_back shape s) new (left_over shape t) (held_back shape t) p
      (less_queued lowers.0)
      (λ r other _. (
        lowers.1 r other,
        total-same _ _ (shape.lanes r) (λ k i. ap (λ F. length (drop (length (s.put k) + length (s.held k)) (shape.due r k F))) (set_other player_tells s.feeds p (s.feeds p ++ f ∷ []) r other)),
        refl,
      ))
      seat

  -- the outstanding messages after the first was put or held
  one_less : (s : State X) (p : Player) (k : Lane) (m : Item X) (ms : List (Item X)) (n : ℕ) → outstanding shape s p k ≡ m ∷ ms → n ≡ suc (length (s.put k) + length (s.held k)) → length (drop n (shape.due p k (s.feeds p))) < length (outstanding shape s p k)
  one_less s p k m ms n e is =
      let less : drop n (shape.due p k (s.feeds p)) ≡ ms = ap (λ i. drop i (shape.due p k (s.feeds p))) is ∙ drop-next (length (s.put k) + length (s.held k)) (shape.due p k (s.feeds p)) m ms e in
      subst (λ o. length (drop n (shape.due p k (s.feeds p))) < length o) (sym e) (subst (λ d. length d < suc (length ms)) (sym less) (omega arith))

  falls-hold : (old new : Player → ℕ) (s : State X) (p : Player) (k : Lane) (out : List (Item X)) → outstanding shape s p k ≡ out → not (is_empty out) ≡ true → IsIn p shape.players → IsIn k (shape.lanes p) → Lowers shape old new (hold p k) → Falls (measure_by shape new (hold_front s k out)) (measure_by shape old s)
  falls-hold old new s p k [] e some seat there lowers = absurd (let n : false ≡ true = some in cc)
  falls-hold old new s p k (m ∷ ms) e some seat there lowers =
      let t : State X = hold_front s k (m ∷ ms) in
      walk shape net old (left_over shape s) (held_back shape s) new (left_over shape t) (held_back shape t) p
      (less_outstanding (lowers p) (total-less (λ i. length (outstanding shape t p i)) (λ i. length (outstanding shape s p i)) (shape.lanes p) k there
      (λ i. set_case lane_tells (λ h. (length (drop (length (s.put i) + length h) (shape.due p i (s.feeds p))) ≡ length (outstanding shape s p i)) ⊎ (length (drop (length (s.put i) + length h) (shape.due p i (s.feeds p))) < length (outstanding shape s p i)))
      s.held k (s.held k ++ m ∷ []) i (λ same. inr (held_less i same)) (λ _. inl refl))
      (subst (λ h. length (drop (length (s.put k) + length h) (shape.due p k (s.feeds p))) < length (outstanding shape s p k)) (sym (set_same lane_tells s.held k (s.held k ++ m ∷ []) k refl)) (held_less k refl))))
      (λ r other _. (
        lowers r,
        total-same _ _ (shape.lanes r) (λ i there_r. ap (λ h. length (drop (length (s.put i) + length h) (shape.due r i (s.feeds r)))) (set_other lane_tells s.held k (s.held k ++ m ∷ []) i (λ same. other (net.one_producer r p k (subst (λ y. IsIn y (shape.lanes r)) same there_r) there)))),
        total-same _ _ (shape.lanes r) (λ i there_r. ap length (set_other lane_tells s.held k (s.held k ++ m ∷ []) i (λ same. other (net.one_producer r p k (subst (λ y. IsIn y (shape.lanes r)) same there_r) there)))),
      ))
      seat
    where
      held_less : (i : Lane) → i ≡ k → length (drop (length (s.put i) + length (s.held k ++ m ∷ [])) (shape.due p i (s.feeds p))) < length (outstanding shape s p i)
      held_less i same = subst (λ z. length (drop (length (s.put z) + length (s.held k ++ m ∷ [])) (shape.due p z (s.feeds p))) < length (outstanding shape s p z)) (sym same)
          (one_less s p k m ms (length (s.put k) + length (s.held k ++ m ∷ [])) e (omega (arith, length-append (s.held k) (m ∷ []))))

  falls-put : (old new : Player → ℕ) (s : State X) (p : Player) (k : Lane) (hs out : List (Item X)) → s.held k ≡ hs → outstanding shape s p k ≡ out → (not (is_empty hs) || not (is_empty out)) ≡ true → IsIn p shape.players → IsIn k (shape.lanes p) → Lowers shape old new (put p k) → Falls (measure_by shape new (put_front shape s k hs out)) (measure_by shape old s)
  falls-put old new s p k [] [] eh eo some seat there lowers = absurd (let n : false ≡ true = some in cc)
  falls-put old new s p k [] (m ∷ ms) eh eo some seat there lowers =
      let t : State X = put_front shape s k [] (m ∷ ms) in
      walk shape net old (left_over shape s) (held_back shape s) new (left_over shape t) (held_back shape t) p
      (less_outstanding (lowers p (no_loop shape net p seat k there)) (total-less (λ i. length (outstanding shape t p i)) (λ i. length (outstanding shape s p i)) (shape.lanes p) k there
      (λ i. set_case lane_tells (λ v. (length (drop (length v + length (s.held i)) (shape.due p i (s.feeds p))) ≡ length (outstanding shape s p i)) ⊎ (length (drop (length v + length (s.held i)) (shape.due p i (s.feeds p))) < length (outstanding shape s p i)))
      s.put k (s.put k ++ m ∷ []) i (λ same. inr (put_less i same)) (λ _. inl refl))
      (subst (λ v. length (drop (length v + length (s.held k)) (shape.due p k (s.feeds p))) < length (outstanding shape s p k)) (sym (set_same lane_tells s.put k (s.put k ++ m ∷ []) k refl)) (put_less k refl))))
      (λ r other apart. (
        lowers r (apart k there),
        total-same _ _ (shape.lanes r) (λ i there_r. ap (λ v. length (drop (length v + length (s.held i)) (shape.due r i (s.feeds r)))) (set_other lane_tells s.put k (s.put k ++ m ∷ []) i (λ same. other (net.one_producer r p k (subst (λ y. IsIn y (shape.lanes r)) same there_r) there)))),
        refl,
      ))
      seat
    where
      put_less : (i : Lane) → i ≡ k → length (drop (length (s.put k ++ m ∷ []) + length (s.held i)) (shape.due p i (s.feeds p))) < length (outstanding shape s p i)
      put_less i same = subst (λ z. length (drop (length (s.put k ++ m ∷ []) + length (s.held z)) (shape.due p z (s.feeds p))) < length (outstanding shape s p z)) (sym same)
          (one_less s p k m ms (length (s.put k ++ m ∷ []) + length (s.held k)) eo (omega (arith, length-append (s.put k) (m ∷ []))))
  falls-put old new s p k (m ∷ hs) out eh eo some seat there lowers =
      let t : State X = put_front shape s k (m ∷ hs) out in
      walk shape net old (left_over shape s) (held_back shape s) new (left_over shape t) (held_back shape t) p
      (less_held (lowers p (no_loop shape net p seat k there)) (total-same _ _ (shape.lanes p) (λ i _. same_out p i))
      (total-less (λ i. length (t.held i)) (λ i. length (s.held i)) (shape.lanes p) k there
      (λ i. set_case lane_tells (λ h. (length h ≡ length (s.held i)) ⊎ (length h < length (s.held i))) s.held k hs i (λ same. inr (shorter i same)) (λ _. inl refl))
      (subst (λ h. length h < length (s.held k)) (sym (set_same lane_tells s.held k hs k refl)) (shorter k refl))))
      (λ r other apart. (
        lowers r (apart k there),
        total-same _ _ (shape.lanes r) (λ i _. same_out r i),
        total-same _ _ (shape.lanes r) (λ i there_r. ap length (set_other lane_tells s.held k hs i (λ same. other (net.one_producer r p k (subst (λ y. IsIn y (shape.lanes r)) same there_r) there)))),
      ))
      seat
    where
      shorter : (z : Lane) → z ≡ k → length hs < length (s.held z)
      shorter z same = subst (λ h. length hs < length h) (sym (ap s.held same ∙ eh)) (omega arith)

      same_out : (r : Player) (i : Lane) → length (drop (length (set same_lane s.put k (s.put k ++ m ∷ []) i) + length (set same_lane s.held k hs i)) (shape.due r i (s.feeds r))) ≡ length (outstanding shape s r i)
      same_out r i = elim (lane_tells i k) [
        | inl e ↦ ap (λ n. length (drop n (shape.due r i (s.feeds r)))) (ap₂ (λ v h. length v + length h) (set_same lane_tells s.put k (s.put k ++ m ∷ []) i e.1) (set_same lane_tells s.held k hs i e.1) ∙ as_long i e.1)
        | inr n ↦ ap₂ (λ v h. length (drop (length v + length h) (shape.due r i (s.feeds r)))) (set_other lane_tells s.put k (s.put k ++ m ∷ []) i n.1) (set_other lane_tells s.held k hs i n.1)
      ]
        where
          as_long : (i : Lane) → i ≡ k → length (s.put k ++ m ∷ []) + length hs ≡ length (s.put i) + length (s.held i)
          as_long i same = omega (arith, length-append (s.put k) (m ∷ []), ap length (ap s.held same ∙ eh), ap (λ z. length (s.put z)) same)

  pub falls_by : (old new : Player → ℕ) (capacity : ℕ) (s : State X) (event : Event) → is_enabled shape capacity s event ≡ true → Lowers shape old new event → Falls (measure_by shape new (done shape s event)) (measure_by shape old s)
  falls_by old new capacity s (take p q) h lowers =
      let lead = are.leads p (any_in player_tells p shape.players (and_left _ _ h)) (s.feeds p) q (and_left _ _ (and_right _ _ h)) in
      falls-taken old new s p q (s.queue q) refl (and_left _ _ (and_right _ _ (and_right _ _ h))) (any_in player_tells p shape.players (and_left _ _ h)) (subst (λ z. IsIn z (shape.queues p)) lead.2 (net.reads p lead.0 lead.1)) lowers
  falls_by old new capacity s (put p k) h lowers = falls-put old new s p k (s.held k) (outstanding shape s p k) refl refl (and_right _ _ (and_right _ _ h)) (any_in player_tells p shape.players (and_left _ _ (and_left _ _ h))) (any_in lane_tells k (shape.lanes p) (and_right _ _ (and_left _ _ h))) lowers
  falls_by old new capacity s (hold p k) h lowers = falls-hold old new s p k (outstanding shape s p k) refl (and_right _ _ h) (any_in player_tells p shape.players (and_left _ _ (and_left _ _ h))) (any_in lane_tells k (shape.lanes p) (and_right _ _ (and_left _ _ h))) lowers

pub plan_falls_by : {X F : Type 0} → PlanFallsBy X F
plan_falls_by plan wired capacity s event old new h lowers =
    let fits = wired-is-plan plan wired in
    falls_by (plan_shape plan) fits.is_net (are_players (net_of plan) fits) old new capacity s event h lowers
