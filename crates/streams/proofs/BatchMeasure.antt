-- Every event of the core with batches lowers the measure.
use Rattle.std.proofs.Common.{◌≡◌, ℕ, suc, ◌+◌, ◌<◌, true, false, not, ◌||◌, ◌⊎◌, inl, inr, refl, sym, ap, ap₂, ◌∙◌, subst, List, [], ◌∷◌, ◌++◌, length, drop, length-append, arith}
use Rattle.streams.specs.Lists.{IsIn, is_empty}
use Rattle.streams.specs.Core.{Player, Lane, same_lane, Shape, Event, take, put, hold, set, IsNet, ArePlayers, total, Falls}
use Rattle.streams.specs.Batches.{Message, Packet, BatchState, Due, batch_outstanding, batch_enabled, batch_taken, batch_put, batch_hold, batch_done, batch_core, Cuts, BatchFiles, batch_queued, batch_left_over, batch_held_back, batch_measure, BatchEachFalls}
use Rattle.streams.proofs.Basics.{player_tells, lane_tells, set_case, set_same, set_other, any_in, and_left, and_right}
use Rattle.streams.proofs.Measure.{total-same, total-less, drop-next, less_queued, less_outstanding, less_held, walk, not_into, no_loop}
use Rattle.streams.proofs.BatchKept.{BatchInvariantKept, kept-core, taken_fed, queue_of, takes}

module _ {X : Type 0} (shape : Shape X) (net : IsNet shape) (are : ArePlayers shape) (due : Due X) (cuts : Cuts shape due) (files : Lane → List (Packet X)) (full : BatchFiles shape files) where
  -- a Take lowers what is queued, whatever is fed then
  falls-taken : (s : BatchState X) (p : Player) (q : Lane) (queue : List (Packet X)) → s.queue q ≡ queue → not (is_empty queue) ≡ true → s.waiting q ≡ [] → IsIn p shape.players → shape.wanted p (s.feeds p) q ≡ true → BatchInvariantKept shape net are due cuts files full s → Falls (batch_measure shape due (batch_taken shape s p q queue)) (batch_measure shape due s)
  falls-taken s p q [] e some empty seat wanted kept = absurd (let n : false ≡ true = some in cc)
  falls-taken s p q (f ∷ rest) e some empty seat wanted kept =
      let t : BatchState X = batch_taken shape s p q (f ∷ rest) in
      let on = taken_fed shape net are due cuts files full s p q f rest e empty seat kept.inv in
      let mine : IsIn q (shape.queues p) = queue_of shape net are due cuts files full p seat (s.feeds p) q wanted in
      let queue_is : t.queue ≡ set same_lane s.queue q rest = on.queue in
      walk shape net (batch_queued shape s) (batch_left_over shape due s) (batch_held_back shape s) (batch_queued shape t) (batch_left_over shape due t) (batch_held_back shape t) p
      (less_queued (subst (λ Q. total (λ z. length (Q z)) (shape.queues p) < total (λ z. length (s.queue z)) (shape.queues p)) (sym queue_is)
      (total-less (λ z. length (set same_lane s.queue q rest z)) (λ z. length (s.queue z)) (shape.queues p) q mine
      (λ z. set_case lane_tells (λ Q. (length Q ≡ length (s.queue z)) ⊎ (length Q < length (s.queue z))) s.queue q rest z (λ same. inr (shorter z same)) (λ _. inl refl))
      (subst (λ Q. length Q < length (s.queue q)) (sym (set_same lane_tells s.queue q rest q refl)) (shorter q refl)))))
      (λ r other _. (
        ap (λ Q. total (λ z. length (Q z)) (shape.queues r)) queue_is ∙ total-same _ _ (shape.queues r) (λ z i. ap length (set_other lane_tells s.queue q rest z (λ same. other (net.one_reader r p q (subst (λ y. IsIn y (shape.queues r)) same i) mine)))),
        ap₂ (λ P H. total (λ k. length (drop (length (P k) + length (H k)) (due r k (t.feeds r)))) (shape.lanes r)) on.put on.held ∙ ap (λ F. total (λ k. length (drop (length (s.put k) + length (s.held k)) (due r k F))) (shape.lanes r)) (on.others r other),
        ap (λ H. total (λ k. length (H k)) (shape.lanes r)) on.held,
      ))
      seat
    where
      shorter : (z : Lane) → z ≡ q → length rest < length (s.queue z)
      shorter z same = subst (λ Q. length rest < length Q) (sym (ap s.queue same ∙ e)) (omega arith)

  -- the outstanding messages after the first was put or held
  one_less : (s : BatchState X) (p : Player) (k : Lane) (m : Message X) (ms : List (Message X)) (n : ℕ) → batch_outstanding due s p k ≡ m ∷ ms → n ≡ suc (length (s.put k) + length (s.held k)) → length (drop n (due p k (s.feeds p))) < length (batch_outstanding due s p k)
  one_less s p k m ms n e is =
      let less : drop n (due p k (s.feeds p)) ≡ ms = ap (λ i. drop i (due p k (s.feeds p))) is ∙ drop-next (length (s.put k) + length (s.held k)) (due p k (s.feeds p)) m ms e in
      subst (λ o. length (drop n (due p k (s.feeds p))) < length o) (sym e) (subst (λ d. length d < suc (length ms)) (sym less) (omega arith))

  falls-hold : (s : BatchState X) (p : Player) (k : Lane) (out : List (Message X)) → batch_outstanding due s p k ≡ out → not (is_empty out) ≡ true → IsIn p shape.players → IsIn k (shape.lanes p) → Falls (batch_measure shape due (batch_hold s k out)) (batch_measure shape due s)
  falls-hold s p k [] e some seat there = absurd (let n : false ≡ true = some in cc)
  falls-hold s p k (m ∷ ms) e some seat there =
      let t : BatchState X = batch_hold s k (m ∷ ms) in
      walk shape net (batch_queued shape s) (batch_left_over shape due s) (batch_held_back shape s) (batch_queued shape t) (batch_left_over shape due t) (batch_held_back shape t) p
      (less_outstanding refl (total-less (λ i. length (batch_outstanding due t p i)) (λ i. length (batch_outstanding due s p i)) (shape.lanes p) k there
      (λ i. set_case lane_tells (λ h. (length (drop (length (s.put i) + length h) (due p i (s.feeds p))) ≡ length (batch_outstanding due s p i)) ⊎ (length (drop (length (s.put i) + length h) (due p i (s.feeds p))) < length (batch_outstanding due s p i)))
      s.held k (s.held k ++ m ∷ []) i (λ same. inr (held_less i same)) (λ _. inl refl))
      (subst (λ h. length (drop (length (s.put k) + length h) (due p k (s.feeds p))) < length (batch_outstanding due s p k)) (sym (set_same lane_tells s.held k (s.held k ++ m ∷ []) k refl)) (held_less k refl))))
      (λ r other _. (
        refl,
        total-same _ _ (shape.lanes r) (λ i there_r. ap (λ h. length (drop (length (s.put i) + length h) (due r i (s.feeds r)))) (set_other lane_tells s.held k (s.held k ++ m ∷ []) i (λ same. other (net.one_producer r p k (subst (λ y. IsIn y (shape.lanes r)) same there_r) there)))),
        total-same _ _ (shape.lanes r) (λ i there_r. ap length (set_other lane_tells s.held k (s.held k ++ m ∷ []) i (λ same. other (net.one_producer r p k (subst (λ y. IsIn y (shape.lanes r)) same there_r) there)))),
      ))
      seat
    where
      held_less : (i : Lane) → i ≡ k → length (drop (length (s.put i) + length (s.held k ++ m ∷ [])) (due p i (s.feeds p))) < length (batch_outstanding due s p i)
      held_less i same = subst (λ z. length (drop (length (s.put z) + length (s.held k ++ m ∷ [])) (due p z (s.feeds p))) < length (batch_outstanding due s p z)) (sym same)
          (one_less s p k m ms (length (s.put k) + length (s.held k ++ m ∷ [])) e (omega (arith, length-append (s.held k) (m ∷ []))))

  queued-put : (s : BatchState X) (p r : Player) (k : Lane) (m : Message X) → IsIn p shape.players → IsIn k (shape.lanes p) → (shape.comes r k ≡ true → ⊥) →
      total (λ q. length (set same_lane s.queue (shape.into k) (s.queue (shape.into k) ++ record { lane = k; message = m } ∷ []) q)) (shape.queues r) ≡ total (λ q. length (s.queue q)) (shape.queues r)
  queued-put s p r k m seat there n = total-same _ _ (shape.queues r) (λ q i. ap length (set_other lane_tells s.queue (shape.into k) (s.queue (shape.into k) ++ record { lane = k; message = m } ∷ []) q (not_into shape net p r k seat there n q i)))

  falls-put : (s : BatchState X) (p : Player) (k : Lane) (hs out : List (Message X)) → s.held k ≡ hs → batch_outstanding due s p k ≡ out → (not (is_empty hs) || not (is_empty out)) ≡ true → IsIn p shape.players → IsIn k (shape.lanes p) → Falls (batch_measure shape due (batch_put shape s k hs out)) (batch_measure shape due s)
  falls-put s p k [] [] eh eo some seat there = absurd (let n : false ≡ true = some in cc)
  falls-put s p k [] (m ∷ ms) eh eo some seat there =
      let t : BatchState X = batch_put shape s k [] (m ∷ ms) in
      walk shape net (batch_queued shape s) (batch_left_over shape due s) (batch_held_back shape s) (batch_queued shape t) (batch_left_over shape due t) (batch_held_back shape t) p
      (less_outstanding (queued-put s p p k m seat there (no_loop shape net p seat k there)) (total-less (λ i. length (batch_outstanding due t p i)) (λ i. length (batch_outstanding due s p i)) (shape.lanes p) k there
      (λ i. set_case lane_tells (λ v. (length (drop (length v + length (s.held i)) (due p i (s.feeds p))) ≡ length (batch_outstanding due s p i)) ⊎ (length (drop (length v + length (s.held i)) (due p i (s.feeds p))) < length (batch_outstanding due s p i)))
      s.put k (s.put k ++ m ∷ []) i (λ same. inr (put_less i same)) (λ _. inl refl))
      (subst (λ v. length (drop (length v + length (s.held k)) (due p k (s.feeds p))) < length (batch_outstanding due s p k)) (sym (set_same lane_tells s.put k (s.put k ++ m ∷ []) k refl)) (put_less k refl))))
      (λ r other apart. (
        queued-put s p r k m seat there (apart k there),
        total-same _ _ (shape.lanes r) (λ i there_r. ap (λ v. length (drop (length v + length (s.held i)) (due r i (s.feeds r)))) (set_other lane_tells s.put k (s.put k ++ m ∷ []) i (λ same. other (net.one_producer r p k (subst (λ y. IsIn y (shape.lanes r)) same there_r) there)))),
        refl,
      ))
      seat
    where
      put_less : (i : Lane) → i ≡ k → length (drop (length (s.put k ++ m ∷ []) + length (s.held i)) (due p i (s.feeds p))) < length (batch_outstanding due s p i)
      put_less i same = subst (λ z. length (drop (length (s.put k ++ m ∷ []) + length (s.held z)) (due p z (s.feeds p))) < length (batch_outstanding due s p z)) (sym same)
          (one_less s p k m ms (length (s.put k ++ m ∷ []) + length (s.held k)) eo (omega (arith, length-append (s.put k) (m ∷ []))))
  falls-put s p k (m ∷ hs) out eh eo some seat there =
      let t : BatchState X = batch_put shape s k (m ∷ hs) out in
      walk shape net (batch_queued shape s) (batch_left_over shape due s) (batch_held_back shape s) (batch_queued shape t) (batch_left_over shape due t) (batch_held_back shape t) p
      (less_held (queued-put s p p k m seat there (no_loop shape net p seat k there)) (total-same _ _ (shape.lanes p) (λ i _. same_out p i))
      (total-less (λ i. length (t.held i)) (λ i. length (s.held i)) (shape.lanes p) k there
      (λ i. set_case lane_tells (λ h. (length h ≡ length (s.held i)) ⊎ (length h < length (s.held i))) s.held k hs i (λ same. inr (shorter i same)) (λ _. inl refl))
      (subst (λ h. length h < length (s.held k)) (sym (set_same lane_tells s.held k hs k refl)) (shorter k refl))))
      (λ r other apart. (
        queued-put s p r k m seat there (apart k there),
        total-same _ _ (shape.lanes r) (λ i _. same_out r i),
        total-same _ _ (shape.lanes r) (λ i there_r. ap length (set_other lane_tells s.held k hs i (λ same. other (net.one_producer r p k (subst (λ y. IsIn y (shape.lanes r)) same there_r) there)))),
      ))
      seat
    where
      shorter : (z : Lane) → z ≡ k → length hs < length (s.held z)
      shorter z same = subst (λ h. length hs < length h) (sym (ap s.held same ∙ eh)) (omega arith)

      same_out : (r : Player) (i : Lane) → length (drop (length (set same_lane s.put k (s.put k ++ m ∷ []) i) + length (set same_lane s.held k hs i)) (due r i (s.feeds r))) ≡ length (batch_outstanding due s r i)
      same_out r i = elim (lane_tells i k) [
        | inl e ↦ ap (λ n. length (drop n (due r i (s.feeds r)))) (ap₂ (λ v h. length v + length h) (set_same lane_tells s.put k (s.put k ++ m ∷ []) i e.1) (set_same lane_tells s.held k hs i e.1) ∙ as_long i e.1)
        | inr n ↦ ap₂ (λ v h. length (drop (length v + length h) (due r i (s.feeds r)))) (set_other lane_tells s.put k (s.put k ++ m ∷ []) i n.1) (set_other lane_tells s.held k hs i n.1)
      ]
        where
          as_long : (i : Lane) → i ≡ k → length (s.put k ++ m ∷ []) + length hs ≡ length (s.put i) + length (s.held i)
          as_long i same = omega (arith, length-append (s.put k) (m ∷ []), ap length (ap s.held same ∙ eh), ap (λ z. length (s.put z)) same)

  pub each-falls_at : (capacity : ℕ) (s : BatchState X) (event : Event) → BatchInvariantKept shape net are due cuts files full s → batch_enabled shape due capacity s event ≡ true → Falls (batch_measure shape due (batch_done shape due s event)) (batch_measure shape due s)
  each-falls_at capacity s (take p q) kept h = let t = takes shape net are due cuts files full capacity s p q h in falls-taken s p q (s.queue q) refl t.some t.empty t.seat t.wanted kept
  each-falls_at capacity s (put p k) kept h = falls-put s p k (s.held k) (batch_outstanding due s p k) refl refl (and_right _ _ (and_right _ _ h)) (any_in player_tells p shape.players (and_left _ _ (and_left _ _ h))) (any_in lane_tells k (shape.lanes p) (and_right _ _ (and_left _ _ h)))
  each-falls_at capacity s (hold p k) kept h = falls-hold s p k (batch_outstanding due s p k) refl (and_right _ _ h) (any_in player_tells p shape.players (and_left _ _ (and_left _ _ h))) (any_in lane_tells k (shape.lanes p) (and_right _ _ (and_left _ _ h)))

pub batch-each-falls : {X : Type 0} → BatchEachFalls X
batch-each-falls shape net are due cuts files full capacity events event h = each-falls_at shape net are due cuts files full capacity (batch_core shape due files capacity events) event (kept-core shape net are due cuts files full capacity events) h
