-- What each step of the core with batches keeps.
use Rattle.std.proofs.Common.{◌≡◌, ℕ, zero, suc, ◌+◌, ◌<◌, ◌≤◌, Bool, true, false, not, ◌&&◌, cond, ◌⊎◌, inl, inr, Option, Some, None, refl, sym, ap, ap₂, ◌∙◌, subst, List, [], ◌∷◌, ◌++◌, length, drop, fold, map, append_assoc, append-nil, length-append, arith}
use Rattle.std.specs.List.{AllByRecursion}
use Rattle.std.proofs.Math.Seq.{drop-append_seam}
use Rattle.streams.specs.Lists.{IsIn, is_empty}
use Rattle.streams.specs.Streams.{Item, has_end}
use Rattle.streams.specs.Core.{Player, Lane, same_player, same_lane, Parcel, Shape, Event, take, put, hold, set, of_lane, is_seated, WasFed, IsNet, ArePlayers, total}
use Rattle.streams.specs.Batches.{Message, unpack, unpack_all, Packet, BatchState, Due, messages_of, unpacked, batch_outstanding, batch_caught_up, batch_enabled, ready, feed_front, feed_all, all_waiting, opened, batch_taken, batch_put, batch_hold, batch_done, batch_step, batch_start, batch_core, BatchFinished, Cuts, BatchFiles}
use Rattle.streams.proofs.Basics.{player_tells, lane_tells, set_case, set_same, set_other, tells_true, tells_false, any_in, and_left, and_right}
use Rattle.streams.proofs.Kept.{of_lane-shift, of_lane-miss, whole-end, fed-snoc, all-snoc, one_consumer, origin}
use Rattle.streams.proofs.Measure.{total-less}
use Rattle.streams.proofs.StreamLaws.{true_false}

pub unpack-append : {X : Type 0} (xs ys : List (Message X)) → unpack_all (xs ++ ys) ≡ unpack_all xs ++ unpack_all ys
unpack-append [] ys = refl
unpack-append (x ∷ xs) ys = ap (λ t. unpack x ++ t) (unpack-append xs ys) ∙ sym (append_assoc (unpack x) (unpack_all xs) (unpack_all ys))

pub messages-append : {X : Type 0} (k : Lane) (xs ys : List (Packet X)) → messages_of k (xs ++ ys) ≡ messages_of k xs ++ messages_of k ys
messages-append k [] ys = refl
messages-append {X} k (x ∷ xs) ys = go (same_lane x.lane k) (messages-append k xs ys)
  where
    go : (b : Bool) → messages_of k (xs ++ ys) ≡ messages_of k xs ++ messages_of k ys → cond b (x.message ∷ messages_of k (xs ++ ys)) (messages_of k (xs ++ ys)) ≡ cond b (x.message ∷ messages_of k xs) (messages_of k xs) ++ messages_of k ys
    go true h = ap (λ t. x.message ∷ t) h
    go false h = h

messages-miss : {X : Type 0} (k : Lane) (packets : List (Packet X)) (c : Packet X) → (c.lane ≡ k → ⊥) → messages_of k (packets ++ c ∷ []) ≡ messages_of k packets
messages-miss k packets c n = messages-append k packets (c ∷ []) ∙ ap (λ b. messages_of k packets ++ cond b (c.message ∷ []) []) (tells_false lane_tells c.lane k n) ∙ append-nil _

messages-hit : {X : Type 0} (k : Lane) (packets : List (Packet X)) (c : Packet X) → c.lane ≡ k → messages_of k (packets ++ c ∷ []) ≡ messages_of k packets ++ c.message ∷ []
messages-hit k packets c e = messages-append k packets (c ∷ []) ∙ ap (λ b. messages_of k packets ++ cond b (c.message ∷ []) []) (tells_true lane_tells c.lane k e)

-- the items of a message, as parcels
unpacked-lane : {X : Type 0} (k : Lane) (c : Packet X) → of_lane k (unpacked c) ≡ cond (same_lane c.lane k) (unpack c.message) []
unpacked-lane {X} k c = go (unpack c.message)
  where
    go : (items : List (Item X)) → of_lane k (map (λ item. record { lane = c.lane; item = item }) items) ≡ cond (same_lane c.lane k) items []
    go [] = either (same_lane c.lane k)
      where
        either : (b : Bool) → [] ≡ cond {A = List (Item X)} b [] []
        either true = refl
        either false = refl
    go (i ∷ items) = ap (λ t. cond (same_lane c.lane k) (i ∷ t) t) (go items) ∙ both (same_lane c.lane k)
      where
        both : (b : Bool) → cond b (i ∷ cond b items []) (cond b items []) ≡ cond b (i ∷ items) []
        both true = refl
        both false = refl

-- the front message opened
opened-lane : {X : Type 0} (k : Lane) (c : Packet X) (packets : List (Packet X)) → unpack_all (messages_of k (c ∷ packets)) ≡ of_lane k (unpacked c) ++ unpack_all (messages_of k packets)
opened-lane k c packets = by (same_lane c.lane k) ∙ ap (λ t. t ++ unpack_all (messages_of k packets)) (sym (unpacked-lane k c))
  where
    by : (b : Bool) → unpack_all (cond b (c.message ∷ messages_of k packets) (messages_of k packets)) ≡ cond b (unpack c.message) [] ++ unpack_all (messages_of k packets)
    by true = refl
    by false = refl

pub record BatchInvariant {X : Type 0} (shape : Shape X) (due : Due X) (files : Lane → List (Packet X)) (s : BatchState X) : Type 0 where
  pub within : (p : Player) (k : Lane) → IsIn k (shape.lanes p) → (rest : List (Message X)) × (due p k (s.feeds p) ≡ (s.put k ++ s.held k) ++ rest)
  -- what a lane was given was fed, waits, or is in the queue
  pub lane : (c : Player) (k : Lane) → shape.comes c k ≡ true → unpack_all (messages_of k (files (shape.into k)) ++ s.put k) ≡ of_lane k (s.feeds c) ++ (of_lane k (s.waiting (shape.into k)) ++ unpack_all (messages_of k (s.queue (shape.into k))))
  pub home : (q : Lane) → AllByRecursion (λ (packet : Packet X). (shape.into packet.lane ≡ q) × ((c : Player) × (shape.comes c packet.lane ≡ true))) (s.queue q)
  pub waits : (q : Lane) → AllByRecursion (λ (parcel : Parcel X). (shape.into parcel.lane ≡ q) × ((c : Player) × (shape.comes c parcel.lane ≡ true))) (s.waiting q)
  pub fed : (p : Player) → WasFed shape p (s.feeds p)
  pub unput : (k : Lane) → ((q : Player) → IsIn k (shape.lanes q) → ⊥) → s.put k ≡ []

-- no wanted queue has waiting items
abbrev pub Quiet : {X : Type 0} → Shape X → BatchState X → Player → Type 0
Quiet shape s p = (q : Lane) → shape.wanted p (s.feeds p) q ≡ true → s.waiting q ≡ []

module _ {X : Type 0} (shape : Shape X) (net : IsNet shape) (are : ArePlayers shape) (due : Due X) (cuts : Cuts shape due) (files : Lane → List (Packet X)) (full : BatchFiles shape files) where
  pub batch_outstanding-rest : (s : BatchState X) (p : Player) (k : Lane) (rest : List (Message X)) → due p k (s.feeds p) ≡ (s.put k ++ s.held k) ++ rest → batch_outstanding due s p k ≡ rest
  batch_outstanding-rest s p k rest e =
      ap (drop (length (s.put k) + length (s.held k))) e ∙ ap (λ n. drop n ((s.put k ++ s.held k) ++ rest)) (sym (length-append (s.put k) (s.held k))) ∙ drop-append_seam (s.put k ++ s.held k) rest

  -- End is the last that is due
  pub due_end : (p : Player) (k : Lane) (feeds : List (Parcel X)) (xs ys : List (Item X)) → unpack_all (due p k feeds) ≡ xs ++ ys → has_end xs ≡ true → ys ≡ []
  due_end p k feeds xs ys e h =
      let partition = cuts.part p k feeds in
      nothing ys partition.0 (are.end_is_last p k feeds xs (ys ++ partition.0) (partition.1 ∙ ap (λ t. t ++ partition.0) e ∙ append_assoc xs ys partition.0) h)
    where
      nothing : (ys zs : List (Item X)) → ys ++ zs ≡ [] → ys ≡ []
      nothing [] zs e = refl
      nothing (y ∷ ys) zs e = cc

  pub b_one_end : (s : BatchState X) → BatchInvariant shape due files s → (p : Player) → IsIn p shape.players → (k : Lane) → shape.comes p k ≡ true → (xs ys : List (Item X)) → unpack_all (messages_of k (files (shape.into k)) ++ s.put k) ≡ xs ++ ys → has_end xs ≡ true → ys ≡ []
  b_one_end s inv p seat k comes xs ys e h = elim (origin shape net p seat k comes) [
    | inl n ↦ whole-end (full.lists k) xs ys (sym (full.file p k comes n) ∙ ap unpack_all (sym (append-nil (messages_of k (files (shape.into k)))) ∙ ap (λ t. messages_of k (files (shape.into k)) ++ t) (sym (inv.unput k n))) ∙ e) h
    | inr o ↦
        let old = inv.within o.0 k o.2 in
        let put_is : unpack_all (s.put k) ≡ xs ++ ys = ap (λ t. unpack_all (t ++ s.put k)) (sym (full.others o.0 k o.2)) ∙ e in
        let is_due : unpack_all (due o.0 k (s.feeds o.0)) ≡ xs ++ (ys ++ unpack_all (s.held k ++ old.0)) =
        ap unpack_all (old.1 ∙ append_assoc (s.put k) (s.held k) old.0) ∙ unpack-append (s.put k) (s.held k ++ old.0) ∙ ap (λ t. t ++ unpack_all (s.held k ++ old.0)) put_is ∙ append_assoc xs ys (unpack_all (s.held k ++ old.0)) in
        nothing ys (unpack_all (s.held k ++ old.0)) (due_end o.0 k (s.feeds o.0) xs (ys ++ unpack_all (s.held k ++ old.0)) is_due h)
  ]
    where
      nothing : (ys zs : List (Item X)) → ys ++ zs ≡ [] → ys ≡ []
      nothing [] zs e = refl
      nothing (y ∷ ys) zs e = cc

  -- in a finished state each lane's consumer was fed what was put on it, or its file
  pub b_finished_fed : (s : BatchState X) → BatchInvariant shape due files s → BatchFinished shape due s → (c : Player) (k : Lane) → IsIn c shape.players → shape.comes c k ≡ true → of_lane k (s.feeds c) ≡ unpack_all (messages_of k (files (shape.into k)) ++ s.put k)
  b_finished_fed s inv fin c k seat ck =
      let given = inv.lane c k ck in
      let rest : List (Item X) = of_lane k (s.waiting (shape.into k)) ++ unpack_all (messages_of k (s.queue (shape.into k))) in
      sym (given ∙ ap (λ t. of_lane k (s.feeds c) ++ t) (b_one_end s inv c seat k ck (of_lane k (s.feeds c)) rest given (fin.ended c seat k ck)) ∙ append-nil _)

  -- an item that waits on a wanted queue is fed
  pub b_inv-fed : (s : BatchState X) (p : Player) (q : Lane) (waiting : List (Parcel X)) → s.waiting q ≡ waiting → IsIn p shape.players → shape.wanted p (s.feeds p) q ≡ true → BatchInvariant shape due files s → BatchInvariant shape due files (feed_front s p q waiting)
  b_inv-fed s p q [] e seat wanted inv = inv
  b_inv-fed s p q (f ∷ rest) e seat wanted inv =
      let Home : Lane → Parcel X → Type 0 = λ r parcel. (shape.into parcel.lane ≡ r) × ((c : Player) × (shape.comes c parcel.lane ≡ true)) in
      let at_home : AllByRecursion (Home q) (f ∷ rest) = subst (AllByRecursion (Home q)) e (inv.waits q) in
      let into_q : shape.into f.lane ≡ q = at_home.0.0 in
      let lead = are.leads p seat (s.feeds p) q wanted in
      let consumer : at_home.0.1.0 ≡ p = one_consumer shape net at_home.0.1.0 p f.lane lead.0 at_home.0.1.1 lead.1 (into_q ∙ sym lead.2) in
      let comes : shape.comes p f.lane ≡ true = subst (λ z. shape.comes z f.lane ≡ true) consumer at_home.0.1.1 in
      let after : List (Item X) = of_lane f.lane rest ++ unpack_all (messages_of f.lane (s.queue (shape.into f.lane))) in
      let given : unpack_all (messages_of f.lane (files (shape.into f.lane)) ++ s.put f.lane) ≡ of_lane f.lane (s.feeds p) ++ (f.item ∷ after) =
      inv.lane p f.lane comes ∙ ap (λ z. of_lane f.lane (s.feeds p) ++ (of_lane f.lane z ++ unpack_all (messages_of f.lane (s.queue (shape.into f.lane))))) (ap s.waiting into_q ∙ e)
      ∙ ap (λ b. of_lane f.lane (s.feeds p) ++ (cond b (f.item ∷ of_lane f.lane rest) (of_lane f.lane rest) ++ unpack_all (messages_of f.lane (s.queue (shape.into f.lane))))) (tells_true lane_tells f.lane f.lane refl) in
      let open_still : has_end (of_lane f.lane (s.feeds p)) ≡ false = either (has_end (of_lane f.lane (s.feeds p))) refl (λ h. cons_nil (b_one_end s inv p seat f.lane comes (of_lane f.lane (s.feeds p)) (f.item ∷ after) given h)) in
      let fed : WasFed shape p (s.feeds p ++ f ∷ []) = fed-snoc shape p [] (s.feeds p) f (inv.fed p) comes open_still (ap (shape.wanted p (s.feeds p)) into_q ∙ wanted) in
      record {
        within = λ r k there.
            let old = inv.within r k there in
            set_case player_tells (λ F. (more : List (Message X)) × (due r k F ≡ (s.put k ++ s.held k) ++ more)) s.feeds p (s.feeds p ++ f ∷ []) r
            (λ same.
            let more = cuts.more p seat k (s.feeds p) f fed in
            (old.0 ++ more.0, ap (λ z. due z k (s.feeds p ++ f ∷ [])) same ∙ more.1 ∙ ap (λ d. d ++ more.0) (ap (λ z. due z k (s.feeds z)) (sym same) ∙ old.1) ∙ append_assoc (s.put k ++ s.held k) old.0 more.0))
            (λ _. old);
        lane = λ c k ck. lane_fed e into_q comes c k ck;
        home = inv.home;
        waits = λ r. set_case lane_tells (λ Q. AllByRecursion (Home r) Q) s.waiting q rest r (λ same. subst (λ z. AllByRecursion (Home z) rest) (sym same) at_home.1) (λ _. inv.waits r);
        fed = λ r. set_case player_tells (λ F. WasFed shape r F) s.feeds p (s.feeds p ++ f ∷ []) r (λ same. subst (λ z. WasFed shape z (s.feeds p ++ f ∷ [])) (sym same) fed) (λ _. inv.fed r);
        unput = inv.unput;
      }
    where
      cons_nil : {i : Item X} {is : List (Item X)} → i ∷ is ≡ [] → ⊥
      cons_nil e = cc

      either : (b : Bool) → has_end (of_lane f.lane (s.feeds p)) ≡ b → (has_end (of_lane f.lane (s.feeds p)) ≡ true → ⊥) → b ≡ false
      either true h bad = absurd (bad h)
      either false h bad = refl

      lane_fed : s.waiting q ≡ f ∷ rest → shape.into f.lane ≡ q → shape.comes p f.lane ≡ true → (c : Player) (k : Lane) → shape.comes c k ≡ true →
          unpack_all (messages_of k (files (shape.into k)) ++ s.put k) ≡ of_lane k (set same_player s.feeds p (s.feeds p ++ f ∷ []) c) ++ (of_lane k (set same_lane s.waiting q rest (shape.into k)) ++ unpack_all (messages_of k (s.queue (shape.into k))))
      lane_fed e into_q comes c k ck =
          let queued : List (Item X) = unpack_all (messages_of k (s.queue (shape.into k))) in
          set_case lane_tells (λ Q. unpack_all (messages_of k (files (shape.into k)) ++ s.put k) ≡ of_lane k (set same_player s.feeds p (s.feeds p ++ f ∷ []) c) ++ (of_lane k Q ++ queued)) s.waiting q rest (shape.into k)
          (λ same.
          let mine : c ≡ p = one_consumer shape net c p k f.lane ck comes (same ∙ sym into_q) in
          inv.lane c k ck ∙ ap₂ (λ z w. of_lane k (s.feeds z) ++ (of_lane k w ++ queued)) mine (ap s.waiting same ∙ e)
          ∙ sym (append_assoc (of_lane k (s.feeds p)) (of_lane k (f ∷ rest)) queued) ∙ ap (λ t. t ++ queued) (of_lane-shift k (s.feeds p) f rest) ∙ append_assoc (of_lane k (s.feeds p ++ f ∷ [])) (of_lane k rest) queued
          ∙ ap (λ F. of_lane k F ++ (of_lane k rest ++ queued)) (sym (set_same player_tells s.feeds p (s.feeds p ++ f ∷ []) c mine)))
          (λ other.
          set_case player_tells (λ F. unpack_all (messages_of k (files (shape.into k)) ++ s.put k) ≡ of_lane k F ++ (of_lane k (s.waiting (shape.into k)) ++ queued)) s.feeds p (s.feeds p ++ f ∷ []) c
          (λ mine. inv.lane c k ck ∙ ap (λ z. of_lane k (s.feeds z) ++ (of_lane k (s.waiting (shape.into k)) ++ queued)) mine
          ∙ ap (λ t. t ++ (of_lane k (s.waiting (shape.into k)) ++ queued)) (sym (of_lane-miss k (s.feeds p) f (λ is_k. other (ap shape.into (sym is_k) ∙ into_q)))))
          (λ _. inv.lane c k ck))

  pub queue_of : (p : Player) → IsIn p shape.players → (feeds : List (Parcel X)) (q : Lane) → shape.wanted p feeds q ≡ true → IsIn q (shape.queues p)
  queue_of p seat feeds q wanted = let lead = are.leads p seat feeds q wanted in subst (λ z. IsIn z (shape.queues p)) lead.2 (net.reads p lead.0 lead.1)

  -- what the search for a wanted queue with waiting items finds
  ready_is : (s : BatchState X) (p : Player) (qs : List Lane) → ((ready shape s p qs ≡ None) × ((q : Lane) → IsIn q qs → shape.wanted p (s.feeds p) q ≡ true → s.waiting q ≡ []))
      ⊎ ((q : Lane) × (ready shape s p qs ≡ Some q) × IsIn q qs × (shape.wanted p (s.feeds p) q ≡ true) × (is_empty (s.waiting q) ≡ false))
  ready_is s p [] = inl (refl, λ q i. absurd i)
  ready_is s p (q ∷ qs) = go (shape.wanted p (s.feeds p) q) refl (is_empty (s.waiting q)) refl (ready_is s p qs)
    where
      empty : (xs : List (Parcel X)) → is_empty xs ≡ true → xs ≡ []
      empty [] h = refl
      empty (x ∷ xs) h = let e : false ≡ true = h in cc

      go : (w : Bool) → shape.wanted p (s.feeds p) q ≡ w → (n : Bool) → is_empty (s.waiting q) ≡ n → ((ready shape s p qs ≡ None) × ((r : Lane) → IsIn r qs → shape.wanted p (s.feeds p) r ≡ true → s.waiting r ≡ []))
          ⊎ ((r : Lane) × (ready shape s p qs ≡ Some r) × IsIn r qs × (shape.wanted p (s.feeds p) r ≡ true) × (is_empty (s.waiting r) ≡ false)) →
          ((cond (shape.wanted p (s.feeds p) q && not (is_empty (s.waiting q))) (Some q) (ready shape s p qs) ≡ None) × ((r : Lane) → (r ≡ q) ⊎ IsIn r qs → shape.wanted p (s.feeds p) r ≡ true → s.waiting r ≡ []))
          ⊎ ((r : Lane) × (cond (shape.wanted p (s.feeds p) q && not (is_empty (s.waiting q))) (Some q) (ready shape s p qs) ≡ Some r) × ((r ≡ q) ⊎ IsIn r qs) × (shape.wanted p (s.feeds p) r ≡ true) × (is_empty (s.waiting r) ≡ false))
      go true e false f rest = inr (q, ap₂ (λ w n. cond (w && not n) (Some q) (ready shape s p qs)) e f, inl refl, e, f)
      go true e true f (inl rest) = inl (ap₂ (λ w n. cond (w && not n) (Some q) (ready shape s p qs)) e f ∙ rest.0, λ r i wr. elim i [ inl same ↦ ap s.waiting same ∙ empty (s.waiting q) f | inr j ↦ rest.1 r j wr ])
      go true e true f (inr r) = inr (r.0, ap₂ (λ w n. cond (w && not n) (Some q) (ready shape s p qs)) e f ∙ r.1, inr r.2, r.3, r.4)
      go false e n f (inl rest) = inl (ap (λ w. cond (w && not (is_empty (s.waiting q))) (Some q) (ready shape s p qs)) e ∙ rest.0, λ r i wr. elim i [ inl same ↦ absurd (true_false (ap (shape.wanted p (s.feeds p)) (sym same) ∙ wr) e) | inr j ↦ rest.1 r j wr ])
      go false e n f (inr r) = inr (r.0, ap (λ w. cond (w && not (is_empty (s.waiting q))) (Some q) (ready shape s p qs)) e ∙ r.1, inr r.2, r.3, r.4)

  -- one item fewer waits
  fed_fewer : (s : BatchState X) (p : Player) (q : Lane) (waiting : List (Parcel X)) → s.waiting q ≡ waiting → IsIn q (shape.queues p) → is_empty waiting ≡ false → all_waiting shape (feed_front s p q waiting) p < all_waiting shape s p
  fed_fewer s p q [] e mine some = let n : true ≡ false = some in cc
  fed_fewer s p q (f ∷ rest) e mine some =
      total-less (λ z. length (set same_lane s.waiting q rest z)) (λ z. length (s.waiting z)) (shape.queues p) q mine
      (λ z. set_case lane_tells (λ Q. (length Q ≡ length (s.waiting z)) ⊎ (length Q < length (s.waiting z))) s.waiting q rest z (λ same. inr (shorter z same)) (λ _. inl refl))
      (subst (λ Q. length Q < length (s.waiting q)) (sym (set_same lane_tells s.waiting q rest q refl)) (shorter q refl))
    where
      shorter : (z : Lane) → z ≡ q → length rest < length (s.waiting z)
      shorter z same = subst (λ Q. length rest < length Q) (sym (ap s.waiting same ∙ e)) (omega arith)

  none_waits : (s : BatchState X) (p : Player) → all_waiting shape s p ≤ 0 → (q : Lane) → IsIn q (shape.queues p) → s.waiting q ≡ []
  none_waits s p h = go (shape.queues p) h
    where
      go : (qs : List Lane) → total (λ q. length (s.waiting q)) qs ≤ 0 → (q : Lane) → IsIn q qs → s.waiting q ≡ []
      go [] h q i = absurd i
      go (r ∷ qs) h q (inl e) = nil (s.waiting q) (subst (λ z. length (s.waiting z) ≤ 0) (sym e) (omega (arith, h)))
        where
          nil : (xs : List (Parcel X)) → length xs ≤ 0 → xs ≡ []
          nil [] h = refl
          nil (x ∷ xs) h = absurd (omega arith)
      go (r ∷ qs) h q (inr i) = go qs (omega (arith, h)) q i

  -- feeding keeps the rest, and other players
  pub record FedOn (s t : BatchState X) (p : Player) : Type 0 where
    pub inv : BatchInvariant shape due files t
    pub quiet : Quiet shape t p
    pub put : t.put ≡ s.put
    pub held : t.held ≡ s.held
    pub queue : t.queue ≡ s.queue
    pub others : (r : Player) → (r ≡ p → ⊥) → t.feeds r ≡ s.feeds r
    pub their_waiting : (q : Lane) → (IsIn q (shape.queues p) → ⊥) → t.waiting q ≡ s.waiting q

  pub fed_on : (n : ℕ) (p : Player) (s : BatchState X) → IsIn p shape.players → all_waiting shape s p ≤ n → BatchInvariant shape due files s → FedOn s (feed_all shape n p s) p
  fed_on zero p s seat h inv = record { inv = inv; quiet = λ q w. none_waits s p h q (queue_of p seat (s.feeds p) q w); put = refl; held = refl; queue = refl; others = λ r n. refl; their_waiting = λ q n. refl }
  fed_on (suc n) p s seat h inv = go (ready_is s p (shape.queues p)) (λ q i w some. fed_on n p (feed_front s p q (s.waiting q)) seat (let f = fed_fewer s p q (s.waiting q) refl i some in omega (arith, f, h)) (b_inv-fed s p q (s.waiting q) refl seat w inv))
    where
      Next : Option Lane → BatchState X
      Next o = elim o as (λ _. BatchState X) [ None ↦ s | Some q ↦ feed_all shape n p (feed_front s p q (s.waiting q)) ]

      feeds_others : (q : Lane) (waiting : List (Parcel X)) (r : Player) → (r ≡ p → ⊥) → (feed_front s p q waiting).feeds r ≡ s.feeds r
      feeds_others q [] r ne = refl
      feeds_others q (f ∷ rest) r ne = set_other player_tells s.feeds p (s.feeds p ++ f ∷ []) r ne

      waiting_others : (q : Lane) (waiting : List (Parcel X)) (z : Lane) → (z ≡ q → ⊥) → (feed_front s p q waiting).waiting z ≡ s.waiting z
      waiting_others q [] z ne = refl
      waiting_others q (f ∷ rest) z ne = set_other lane_tells s.waiting q rest z ne

      same_rest : (q : Lane) (waiting : List (Parcel X)) → ((feed_front s p q waiting).put ≡ s.put) × ((feed_front s p q waiting).held ≡ s.held) × ((feed_front s p q waiting).queue ≡ s.queue)
      same_rest q [] = (refl, refl, refl)
      same_rest q (f ∷ rest) = (refl, refl, refl)

      go : ((ready shape s p (shape.queues p) ≡ None) × ((q : Lane) → IsIn q (shape.queues p) → shape.wanted p (s.feeds p) q ≡ true → s.waiting q ≡ []))
          ⊎ ((q : Lane) × (ready shape s p (shape.queues p) ≡ Some q) × IsIn q (shape.queues p) × (shape.wanted p (s.feeds p) q ≡ true) × (is_empty (s.waiting q) ≡ false)) →
          ((q : Lane) → IsIn q (shape.queues p) → shape.wanted p (s.feeds p) q ≡ true → is_empty (s.waiting q) ≡ false → FedOn (feed_front s p q (s.waiting q)) (feed_all shape n p (feed_front s p q (s.waiting q))) p) →
          FedOn s (Next (ready shape s p (shape.queues p))) p
      go (inl none) rest = subst (λ o. FedOn s (Next o) p) (sym none.0) (record { inv = inv; quiet = λ q w. none.1 q (queue_of p seat (s.feeds p) q w) w; put = refl; held = refl; queue = refl; others = λ r n. refl; their_waiting = λ q n. refl })
      go (inr (q, is, mine, w, some)) rest =
          let on = rest q mine w some in
          let same = same_rest q (s.waiting q) in
          subst (λ o. FedOn s (Next o) p) (sym is) (record {
            inv = on.inv;
            quiet = on.quiet;
            put = on.put ∙ same.0;
            held = on.held ∙ same.1;
            queue = on.queue ∙ same.2;
            others = λ r ne. on.others r ne ∙ feeds_others q (s.waiting q) r ne;
            their_waiting = λ z out. on.their_waiting z out ∙ waiting_others q (s.waiting q) z (λ e. out (subst (λ y. IsIn y (shape.queues p)) (sym e) mine));
          })

  all-map : {A B : Type 0} (P : B → Type 0) (f : A → B) (xs : List A) → ((x : A) → P (f x)) → AllByRecursion P (map f xs)
  all-map P f [] h = tt
  all-map P f (x ∷ xs) h = (h x, all-map P f xs h)

  inv-opened : (s : BatchState X) (q : Lane) (packet : Packet X) (packets : List (Packet X)) → s.queue q ≡ packet ∷ packets → s.waiting q ≡ [] → BatchInvariant shape due files s → BatchInvariant shape due files (opened s q packet packets)
  inv-opened s q packet packets e empty inv =
      let HomeC : Lane → Packet X → Type 0 = λ r c. (shape.into c.lane ≡ r) × ((o : Player) × (shape.comes o c.lane ≡ true)) in
      let HomeP : Lane → Parcel X → Type 0 = λ r c. (shape.into c.lane ≡ r) × ((o : Player) × (shape.comes o c.lane ≡ true)) in
      let at_home : AllByRecursion (HomeC q) (packet ∷ packets) = subst (AllByRecursion (HomeC q)) e (inv.home q) in
      record {
        within = inv.within;
        lane = λ c k ck.
            let Goal : List (Parcel X) → List (Packet X) → Type 0 = λ W Q. unpack_all (messages_of k (files (shape.into k)) ++ s.put k) ≡ of_lane k (s.feeds c) ++ (of_lane k W ++ unpack_all (messages_of k Q)) in
            elim (lane_tells (shape.into k) q) [
              | inl t ↦ subst (λ W. Goal W (set same_lane s.queue q packets (shape.into k))) (sym (set_same lane_tells s.waiting q (unpacked packet) (shape.into k) t.1)) (subst (Goal (unpacked packet)) (sym (set_same lane_tells s.queue q packets (shape.into k) t.1))
                  (inv.lane c k ck ∙ ap₂ (λ W Q. of_lane k (s.feeds c) ++ (of_lane k W ++ unpack_all (messages_of k Q))) (ap s.waiting t.1 ∙ empty) (ap s.queue t.1 ∙ e) ∙ ap (λ z. of_lane k (s.feeds c) ++ z) (opened-lane k packet packets)))
              | inr t ↦ subst (λ W. Goal W (set same_lane s.queue q packets (shape.into k))) (sym (set_other lane_tells s.waiting q (unpacked packet) (shape.into k) t.1)) (subst (Goal (s.waiting (shape.into k))) (sym (set_other lane_tells s.queue q packets (shape.into k) t.1)) (inv.lane c k ck))
            ];
        home = λ r. set_case lane_tells (λ Q. AllByRecursion (HomeC r) Q) s.queue q packets r (λ same. subst (λ z. AllByRecursion (HomeC z) packets) (sym same) at_home.1) (λ _. inv.home r);
        waits = λ r. set_case lane_tells (λ Q. AllByRecursion (HomeP r) Q) s.waiting q (unpacked packet) r
            (λ same. all-map (HomeP r) (λ item. record { lane = packet.lane; item = item }) (unpack packet.message) (λ item. (at_home.0.0 ∙ sym same, at_home.0.1))) (λ _. inv.waits r);
        fed = inv.fed;
        unput = inv.unput;
      }

  -- the state of a core: what is kept, and no wanted queue has waiting items
  pub record BatchInvariantKept (s : BatchState X) : Type 0 where
    pub inv : BatchInvariant shape due files s
    pub quiet : (p : Player) → IsIn p shape.players → Quiet shape s p

  pub taken_fed : (s : BatchState X) (p : Player) (q : Lane) (packet : Packet X) (packets : List (Packet X)) → s.queue q ≡ packet ∷ packets → s.waiting q ≡ [] → IsIn p shape.players → BatchInvariant shape due files s →
      FedOn (opened s q packet packets) (batch_taken shape s p q (packet ∷ packets)) p
  taken_fed s p q packet packets e empty seat inv = fed_on (all_waiting shape (opened s q packet packets) p) p (opened s q packet packets) seat (omega arith) (inv-opened s q packet packets e empty inv)

  kept-taken : (s : BatchState X) (p : Player) (q : Lane) (queue : List (Packet X)) → s.queue q ≡ queue → s.waiting q ≡ [] → IsIn p shape.players → shape.wanted p (s.feeds p) q ≡ true → BatchInvariantKept s → BatchInvariantKept (batch_taken shape s p q queue)
  kept-taken s p q [] e empty seat wanted kept = kept
  kept-taken s p q (packet ∷ packets) e empty seat wanted kept =
      let on = taken_fed s p q packet packets e empty seat kept.inv in
      let mine : IsIn q (shape.queues p) = queue_of p seat (s.feeds p) q wanted in
      record {
        inv = on.inv;
        quiet = λ r seat_r. elim (player_tells r p) [
          | inl t ↦ subst (Quiet shape (batch_taken shape s p q (packet ∷ packets))) (sym t.1) on.quiet
          | inr t ↦ λ z w.
              let w_old : shape.wanted r (s.feeds r) z ≡ true = ap (λ F. shape.wanted r F z) (sym (on.others r t.1)) ∙ w in
              let theirs : IsIn z (shape.queues r) = queue_of r seat_r (s.feeds r) z w_old in
              on.their_waiting z (λ i. t.1 (net.one_reader r p z theirs i)) ∙ set_other lane_tells s.waiting q (unpacked packet) z (λ same. t.1 (net.one_reader r p q (subst (λ y. IsIn y (shape.queues r)) same theirs) mine)) ∙ kept.quiet r seat_r z w_old
        ];
      }

  lanes-put : (s : BatchState X) (k : Lane) (m : Message X) → BatchInvariant shape due files s → (c : Player) (i : Lane) → shape.comes c i ≡ true →
      unpack_all (messages_of i (files (shape.into i)) ++ set same_lane s.put k (s.put k ++ m ∷ []) i) ≡
      of_lane i (s.feeds c) ++ (of_lane i (s.waiting (shape.into i)) ++ unpack_all (messages_of i (set same_lane s.queue (shape.into k) (s.queue (shape.into k) ++ record { lane = k; message = m } ∷ []) (shape.into i))))
  lanes-put s k m inv c i ci =
      let packet : Packet X = record { lane = k; message = m } in
      let more : List (Packet X) = s.queue (shape.into k) ++ packet ∷ [] in
      let front : List (Item X) = of_lane i (s.feeds c) in
      let mid : List (Item X) = of_lane i (s.waiting (shape.into i)) in
      set_case lane_tells (λ v. unpack_all (messages_of i (files (shape.into i)) ++ v) ≡ front ++ (mid ++ unpack_all (messages_of i (set same_lane s.queue (shape.into k) more (shape.into i))))) s.put k (s.put k ++ m ∷ []) i
      (λ same.
      ap (λ z. unpack_all (messages_of i (files (shape.into i)) ++ (s.put z ++ m ∷ []))) (sym same) ∙ ap unpack_all (sym (append_assoc (messages_of i (files (shape.into i))) (s.put i) (m ∷ []))) ∙ unpack-append (messages_of i (files (shape.into i)) ++ s.put i) (m ∷ [])
      ∙ ap (λ t. t ++ unpack_all (m ∷ [])) (inv.lane c i ci) ∙ append_assoc front _ _ ∙ ap (λ t. front ++ t) (append_assoc mid _ _
      ∙ ap (λ t. mid ++ t) (sym (unpack-append (messages_of i (s.queue (shape.into i))) (m ∷ [])) ∙ ap unpack_all (sym (messages-hit i (s.queue (shape.into i)) packet (sym same)) ∙ ap (λ z. messages_of i (s.queue (shape.into z) ++ packet ∷ [])) same)
      ∙ ap (λ Q. unpack_all (messages_of i Q)) (sym (set_same lane_tells s.queue (shape.into k) more (shape.into i) (ap shape.into same))))))
      (λ other.
      set_case lane_tells (λ Q. unpack_all (messages_of i (files (shape.into i)) ++ s.put i) ≡ front ++ (mid ++ unpack_all (messages_of i Q))) s.queue (shape.into k) more (shape.into i)
      (λ there. inv.lane c i ci ∙ ap (λ t. front ++ (mid ++ unpack_all t)) (ap (λ z. messages_of i (s.queue z)) there ∙ sym (messages-miss i (s.queue (shape.into k)) packet (λ e. other (sym e)))))
      (λ _. inv.lane c i ci))

  home-put : (s : BatchState X) (p : Player) (k : Lane) (m : Message X) → IsIn p shape.players → IsIn k (shape.lanes p) → BatchInvariant shape due files s → (q : Lane) →
      AllByRecursion (λ (packet : Packet X). (shape.into packet.lane ≡ q) × ((c : Player) × (shape.comes c packet.lane ≡ true))) (set same_lane s.queue (shape.into k) (s.queue (shape.into k) ++ record { lane = k; message = m } ∷ []) q)
  home-put s p k m seat there inv q =
      let Home : Lane → Packet X → Type 0 = λ r packet. (shape.into packet.lane ≡ r) × ((c : Player) × (shape.comes c packet.lane ≡ true)) in
      let way = net.arrives p k seat there in
      set_case lane_tells (λ Q. AllByRecursion (Home q) Q) s.queue (shape.into k) (s.queue (shape.into k) ++ record { lane = k; message = m } ∷ []) q
      (λ same. all-snoc (Home q) (s.queue (shape.into k)) (record { lane = k; message = m }) (subst (λ z. AllByRecursion (Home q) (s.queue z)) same (inv.home q)) (sym same, (way.0, way.2)))
      (λ _. inv.home q)

  unput-put : (s : BatchState X) (p : Player) (k : Lane) (m : Message X) → IsIn k (shape.lanes p) → BatchInvariant shape due files s → (i : Lane) → ((q : Player) → IsIn i (shape.lanes q) → ⊥) → set same_lane s.put k (s.put k ++ m ∷ []) i ≡ []
  unput-put s p k m there inv i n = set_case lane_tells (λ v. v ≡ []) s.put k (s.put k ++ m ∷ []) i (λ same. absurd (n p (subst (λ z. IsIn z (shape.lanes p)) (sym same) there))) (λ _. inv.unput i n)

  kept-put : (s : BatchState X) (p : Player) (k : Lane) (hs out : List (Message X)) → s.held k ≡ hs → batch_outstanding due s p k ≡ out → IsIn p shape.players → IsIn k (shape.lanes p) → BatchInvariantKept s → BatchInvariantKept (batch_put shape s k hs out)
  kept-put s p k [] [] eh eo seat there kept = kept
  kept-put s p k [] (m ∷ ms) eh eo seat there kept = let inv = kept.inv in record {
    inv = record {
      within = λ r i ri.
          let old = inv.within r i ri in
          set_case lane_tells (λ v. (rest : List (Message X)) × (due r i (s.feeds r) ≡ (v ++ s.held i) ++ rest)) s.put k (s.put k ++ m ∷ []) i
          (λ same.
          let mine : r ≡ p = net.one_producer r p k (subst (λ z. IsIn z (shape.lanes r)) same ri) there in
          let none : s.held i ≡ [] = ap s.held same ∙ eh in
          let rest : old.0 ≡ m ∷ ms = sym (batch_outstanding-rest s r i old.0 old.1) ∙ ap₂ (λ z w. batch_outstanding due s z w) mine same ∙ eo in (
            ms,
            old.1 ∙ ap₂ (λ h t. (s.put i ++ h) ++ t) none rest ∙ ap (λ t. t ++ m ∷ ms) (append-nil (s.put i)) ∙ sym (append_assoc (s.put i) (m ∷ []) ms)
                ∙ ap (λ z. (s.put z ++ m ∷ []) ++ ms) same ∙ ap (λ t. t ++ ms) (sym (append-nil (s.put k ++ m ∷ []))) ∙ ap (λ h. ((s.put k ++ m ∷ []) ++ h) ++ ms) (sym none),
          ))
          (λ _. old);
      lane = lanes-put s k m inv;
      home = home-put s p k m seat there inv;
      waits = inv.waits;
      fed = inv.fed;
      unput = unput-put s p k m there inv;
    };
    quiet = kept.quiet;
  }
  kept-put s p k (m ∷ ms) out eh eo seat there kept = let inv = kept.inv in record {
    inv = record {
      within = λ r i ri.
          let old = inv.within r i ri in
          let P : List (Message X) → List (Message X) → Type 0 = λ v h. (rest : List (Message X)) × (due r i (s.feeds r) ≡ (v ++ h) ++ rest) in
          set_case lane_tells (λ v. P v (set same_lane s.held k ms i)) s.put k (s.put k ++ m ∷ []) i
          (λ same. subst (P (s.put k ++ m ∷ [])) (sym (set_same lane_tells s.held k ms i same))
          (old.0, old.1 ∙ ap (λ z. (s.put z ++ s.held z) ++ old.0) same ∙ ap (λ h. (s.put k ++ h) ++ old.0) eh ∙ ap (λ t. t ++ old.0) (sym (append_assoc (s.put k) (m ∷ []) ms))))
          (λ other. subst (P (s.put i)) (sym (set_other lane_tells s.held k ms i other)) old);
      lane = lanes-put s k m inv;
      home = home-put s p k m seat there inv;
      waits = inv.waits;
      fed = inv.fed;
      unput = unput-put s p k m there inv;
    };
    quiet = kept.quiet;
  }

  kept-hold : (s : BatchState X) (p : Player) (k : Lane) (out : List (Message X)) → batch_outstanding due s p k ≡ out → IsIn k (shape.lanes p) → BatchInvariantKept s → BatchInvariantKept (batch_hold s k out)
  kept-hold s p k [] eo there kept = kept
  kept-hold s p k (m ∷ ms) eo there kept = let inv = kept.inv in record {
    inv = record {
      within = λ r i ri.
          let old = inv.within r i ri in
          set_case lane_tells (λ h. (rest : List (Message X)) × (due r i (s.feeds r) ≡ (s.put i ++ h) ++ rest)) s.held k (s.held k ++ m ∷ []) i
          (λ same.
          let mine : r ≡ p = net.one_producer r p k (subst (λ z. IsIn z (shape.lanes r)) same ri) there in
          let rest : old.0 ≡ m ∷ ms = sym (batch_outstanding-rest s r i old.0 old.1) ∙ ap₂ (λ z w. batch_outstanding due s z w) mine same ∙ eo in
          (ms, old.1 ∙ ap₂ (λ z t. (s.put i ++ s.held z) ++ t) same rest ∙ sym (append_assoc (s.put i ++ s.held k) (m ∷ []) ms) ∙ ap (λ t. t ++ ms) (append_assoc (s.put i) (s.held k) (m ∷ []))))
          (λ _. old);
      lane = inv.lane;
      home = inv.home;
      waits = inv.waits;
      fed = inv.fed;
      unput = inv.unput;
    };
    quiet = kept.quiet;
  }

  pub nil_is : {A : Type 0} (xs : List A) → is_empty xs ≡ true → xs ≡ []
  nil_is [] h = refl
  nil_is (x ∷ xs) h = let e : false ≡ true = h in cc

  b_seated : (p : Player) → is_seated shape p ≡ true → IsIn p shape.players
  b_seated p h = any_in player_tells p shape.players h

  -- what an enabled Take says
  pub record Takes (s : BatchState X) (p : Player) (q : Lane) : Type 0 where
    pub seat : IsIn p shape.players
    pub wanted : shape.wanted p (s.feeds p) q ≡ true
    pub some : not (is_empty (s.queue q)) ≡ true
    pub empty : s.waiting q ≡ []

  pub takes : (capacity : ℕ) (s : BatchState X) (p : Player) (q : Lane) → batch_enabled shape due capacity s (take p q) ≡ true → Takes s p q
  takes capacity s p q h =
      let a : (shape.wanted p (s.feeds p) q && (not (is_empty (s.queue q)) && (is_empty (s.waiting q) && batch_caught_up shape due s p))) ≡ true = and_right _ _ h in
      let b : (not (is_empty (s.queue q)) && (is_empty (s.waiting q) && batch_caught_up shape due s p)) ≡ true = and_right _ _ a in
      let c : (is_empty (s.waiting q) && batch_caught_up shape due s p) ≡ true = and_right _ _ b in
      record { seat = b_seated p (and_left _ _ h); wanted = and_left _ _ a; some = and_left _ _ b; empty = nil_is (s.waiting q) (and_left _ _ c) }

  kept-done : (capacity : ℕ) (s : BatchState X) (event : Event) → batch_enabled shape due capacity s event ≡ true → BatchInvariantKept s → BatchInvariantKept (batch_done shape due s event)
  kept-done capacity s (take p q) h kept = let t = takes capacity s p q h in kept-taken s p q (s.queue q) refl t.empty t.seat t.wanted kept
  kept-done capacity s (put p k) h kept = kept-put s p k (s.held k) (batch_outstanding due s p k) refl refl (b_seated p (and_left _ _ (and_left _ _ h))) (any_in lane_tells k (shape.lanes p) (and_right _ _ (and_left _ _ h))) kept
  kept-done capacity s (hold p k) h kept = kept-hold s p k (batch_outstanding due s p k) refl (any_in lane_tells k (shape.lanes p) (and_right _ _ (and_left _ _ h))) kept

  pub kept-step : (capacity : ℕ) (s : BatchState X) (event : Event) → BatchInvariantKept s → BatchInvariantKept (batch_step shape due capacity s event)
  kept-step capacity s event kept = go (batch_enabled shape due capacity s event) refl
    where
      go : (b : Bool) → batch_enabled shape due capacity s event ≡ b → BatchInvariantKept (cond b (batch_done shape due s event) s)
      go true h = kept-done capacity s event h kept
      go false h = kept

  kept-fold : (capacity : ℕ) (events : List Event) (s : BatchState X) → BatchInvariantKept s → BatchInvariantKept (fold (batch_step shape due capacity) s events)
  kept-fold capacity [] s kept = kept
  kept-fold capacity (event ∷ events) s kept = kept-fold capacity events (batch_step shape due capacity s event) (kept-step capacity s event kept)

  pub kept-core : (capacity : ℕ) (events : List Event) → BatchInvariantKept (batch_core shape due files capacity events)
  kept-core capacity events = kept-fold capacity events (batch_start files) (record {
    inv = record {
      within = λ p k there. ([], cuts.begins p (net.has_lane p k there) k);
      lane = λ c k ck. ap unpack_all (append-nil (messages_of k (files (shape.into k))));
      home = full.home;
      waits = λ q. tt;
      fed = λ p. tt;
      unput = λ k n. refl;
    };
    quiet = λ p seat q w. refl;
  })
