-- Every event lowers the measure, and so a driver ends.
use Rattle.std.proofs.Common.{◌≡◌, ℕ, zero, suc, ◌+◌, ◌<◌, true, false, not, ◌||◌, ◌⊎◌, inl, inr, refl, sym, ap, ap₂, ◌∙◌, subst, List, [], ◌∷◌, ◌++◌, length, drop, length-append, arith}
use Rattle.streams.specs.Lists.{IsIn, is_empty}
use Rattle.streams.specs.Streams.{Item}
use Rattle.streams.specs.Core.{Player, Lane, same_player, same_lane, Parcel, Shape, State, Event, take, put, hold, set, outstanding, is_enabled, taken_front, put_front, hold_front, done, Forward, IsNet, ArePlayers, total, loads_by, queued, left_over, held_back, measure, Falls}
use Rattle.streams.proofs.Basics.{player_tells, lane_tells, set_case, set_same, set_other, any_in, and_left, and_right}

pub total-same : {A : Type 0} (f g : A → ℕ) (xs : List A) → ((x : A) → IsIn x xs → f x ≡ g x) → total f xs ≡ total g xs
total-same f g [] h = refl
total-same f g (x ∷ xs) h = ap₂ (λ a b. a + b) (h x (inl refl)) (total-same f g xs (λ y i. h y (inr i)))

-- none is more, and one is less
total-upto : {A : Type 0} (f g : A → ℕ) (xs : List A) → ((x : A) → (f x ≡ g x) ⊎ (f x < g x)) → (total f xs ≡ total g xs) ⊎ (total f xs < total g xs)
total-upto f g [] h = inl refl
total-upto f g (x ∷ xs) h = go (h x) (total-upto f g xs h)
  where
    go : (f x ≡ g x) ⊎ (f x < g x) → (total f xs ≡ total g xs) ⊎ (total f xs < total g xs) → (f x + total f xs ≡ g x + total g xs) ⊎ (f x + total f xs < g x + total g xs)
    go (inl e) (inl k) = inl (ap₂ (λ a b. a + b) e k)
    go (inl e) (inr k) = inr (omega (arith, e, k))
    go (inr e) (inl k) = inr (omega (arith, e, k))
    go (inr e) (inr k) = inr (omega (arith, e, k))

pub total-less : {A : Type 0} (f g : A → ℕ) (xs : List A) (y : A) → IsIn y xs → ((x : A) → (f x ≡ g x) ⊎ (f x < g x)) → f y < g y → total f xs < total g xs
total-less f g [] y i h less = absurd i
total-less f g (x ∷ xs) y (inl e) h less = go (total-upto f g xs h)
  where
    here : f x < g x
    here = subst (λ z. f z < g z) e less

    go : (total f xs ≡ total g xs) ⊎ (total f xs < total g xs) → f x + total f xs < g x + total g xs
    go (inl k) = omega (arith, here, k)
    go (inr k) = omega (arith, here, k)
total-less f g (x ∷ xs) y (inr i) h less = go (h x) (total-less f g xs y i h less)
  where
    go : (f x ≡ g x) ⊎ (f x < g x) → total f xs < total g xs → f x + total f xs < g x + total g xs
    go (inl e) k = omega (arith, e, k)
    go (inr e) k = omega (arith, e, k)

pub drop-next : {A : Type 0} (n : ℕ) (xs : List A) (m : A) (ms : List A) → drop n xs ≡ m ∷ ms → drop (suc n) xs ≡ ms
drop-next n [] m ms e = go n e
  where
    go : (n : ℕ) → drop n [] ≡ m ∷ ms → [] ≡ ms
    go zero e = cc
    go (suc n) e = cc
drop-next zero (x ∷ xs) m ms e = cc
drop-next (suc n) (x ∷ xs) m ms e = drop-next n xs m ms e

module _ {X : Type 0} (shape : Shape X) (net : IsNet shape) where
  -- three numbers of each player, before and after
  module _ (a b c x y z : Player → ℕ) where
    abbrev SameLoad : Player → Type 0
    SameLoad p = (x p ≡ a p) × (y p ≡ b p) × (z p ≡ c p)

    long : (players : List Player) → length (loads_by x y z players) ≡ length (loads_by a b c players)
    long [] = refl
    long (p ∷ players) = ap (λ n. suc (suc (suc n))) (long players)

    -- what falls for one player, whatever comes after
    pub data Lower (p : Player) : Type 0 where
      less_queued : x p < a p → Lower p
      less_outstanding : x p ≡ a p → y p < b p → Lower p
      less_held : x p ≡ a p → y p ≡ b p → z p < c p → Lower p

    falls_here : (p : Player) (players : List Player) → Lower p → Falls (loads_by x y z (p ∷ players)) (loads_by a b c (p ∷ players))
    falls_here p players (less_queued l) = inl (l, ap (λ n. suc (suc n)) (long players))
    falls_here p players (less_outstanding e l) = inr (e, inl (l, ap suc (long players)))
    falls_here p players (less_held e f l) = inr (e, inr (f, inl (l, long players)))

    -- a player falls, and those before it stay, where they don't read from a lane of it
    walk_from : (p : Player) → Lower p → ((r : Player) → (r ≡ p → ⊥) → ((k : Lane) → IsIn k (shape.lanes p) → shape.comes r k ≡ true → ⊥) → SameLoad r) →
        (seen players : List Player) → (IsIn p seen → ⊥) → IsIn p players → Forward shape seen players → Falls (loads_by x y z players) (loads_by a b c players)
    walk_from p low same seen [] new i f = absurd i
    walk_from p low same seen (r ∷ players) new i f = go (player_tells r p) i (walk_from p low same (r ∷ seen) players)
      where
        go : ((same_player r p ≡ true) × (r ≡ p)) ⊎ ((same_player r p ≡ false) × (r ≡ p → ⊥)) → (p ≡ r) ⊎ IsIn p players →
            (((p ≡ r) ⊎ IsIn p seen → ⊥) → IsIn p players → Forward shape (r ∷ seen) players → Falls (loads_by x y z players) (loads_by a b c players)) →
            Falls (loads_by x y z (r ∷ players)) (loads_by a b c (r ∷ players))
        go (inl e) i rest = subst (λ w. Falls (loads_by x y z (w ∷ players)) (loads_by a b c (w ∷ players))) (sym e.1) (falls_here p players low)
        go (inr n) (inl e) rest = absurd (n.1 (sym e))
        go (inr n) (inr i) rest =
            let kept : SameLoad r = same r n.1 (λ k there ck. elim (f.0 k ck) [ inl none ↦ none p there | inr o ↦ new (subst (λ w. IsIn w seen) (net.one_producer o.0 p k o.2 there) o.1) ]) in
            inr (kept.0, inr (kept.1, inr (kept.2, rest (λ h. elim h [ inl e ↦ n.1 (sym e) | inr j ↦ new j ]) i f.2)))

    pub walk : (p : Player) → Lower p → ((r : Player) → (r ≡ p → ⊥) → ((k : Lane) → IsIn k (shape.lanes p) → shape.comes r k ≡ true → ⊥) → SameLoad r) → IsIn p shape.players →
        Falls (loads_by x y z shape.players) (loads_by a b c shape.players)
    walk p low same seat = walk_from p low same [] shape.players (λ h. absurd h) seat net.forward

  -- a queue of another player is not that of a lane of p
  pub not_into : (p r : Player) (k : Lane) → IsIn p shape.players → IsIn k (shape.lanes p) → (shape.comes r k ≡ true → ⊥) → (q : Lane) → IsIn q (shape.queues r) → q ≡ shape.into k → ⊥
  not_into p r k seat there n q i same =
      let way = net.arrives p k seat there in
      let mine : r ≡ way.0 = net.one_reader r way.0 (shape.into k) (subst (λ y. IsIn y (shape.queues r)) same i) (net.reads way.0 k way.2) in
      n (ap (λ z. shape.comes z k) mine ∙ way.2)

  -- no lane of a player leads back to it
  no_loop_in : (seen players : List Player) → Forward shape seen players → (p : Player) → IsIn p players → (k : Lane) → IsIn k (shape.lanes p) → shape.comes p k ≡ true → ⊥
  no_loop_in seen [] f p i k there ck = i
  no_loop_in seen (r ∷ players) f p (inr i) k there ck = no_loop_in (r ∷ seen) players f.2 p i k there ck
  no_loop_in seen (r ∷ players) f p (inl e) k there ck =
      elim (f.0 k (ap (λ z. shape.comes z k) (sym e) ∙ ck)) [
        | inl none ↦ none p there
        | inr o ↦ f.1 (subst (λ z. IsIn z seen) (net.one_producer o.0 p k o.2 there ∙ e) o.1)
      ]

  pub no_loop : (p : Player) → IsIn p shape.players → (k : Lane) → IsIn k (shape.lanes p) → shape.comes p k ≡ true → ⊥
  no_loop = no_loop_in [] shape.players net.forward

module _ {X : Type 0} (shape : Shape X) (net : IsNet shape) (are : ArePlayers shape) where
  falls-taken : (s : State X) (p : Player) (q : Lane) (queue : List (Parcel X)) → s.queue q ≡ queue → not (is_empty queue) ≡ true → IsIn p shape.players → IsIn q (shape.queues p) → Falls (measure shape (taken_front s p q queue)) (measure shape s)
  falls-taken s p q [] e some seat mine = absurd (let n : false ≡ true = some in cc)
  falls-taken s p q (f ∷ rest) e some seat mine =
      let t : State X = taken_front s p q (f ∷ rest) in
      walk shape net (queued shape s) (left_over shape s) (held_back shape s) (queued shape t) (left_over shape t) (held_back shape t) p
      (less_queued (total-less (λ z. length (t.queue z)) (λ z. length (s.queue z)) (shape.queues p) q mine
      (λ z. set_case lane_tells (λ Q. (length Q ≡ length (s.queue z)) ⊎ (length Q < length (s.queue z))) s.queue q rest z (λ same. inr (shorter z same)) (λ _. inl refl))
      (subst (λ Q. length Q < length (s.queue q)) (sym (set_same lane_tells s.queue q rest q refl)) (shorter q refl))))
      (λ r other _. (
        total-same _ _ (shape.queues r) (λ z i. ap length (set_other lane_tells s.queue q rest z (λ same. other (net.one_reader r p q (subst (λ y. IsIn y (shape.queues r)) same i) mine)))),
        total-same _ _ (shape.lanes r) (λ k i. ap (λ F. length (drop (length (s.put k) + length (s.held k)) (shape.due r k F))) (set_other player_tells s.feeds p (s.feeds p ++ f ∷ []) r other)),
        refl,
      ))
      seat
    where
      shorter : (z : Lane) → z ≡ q → length rest < length (s.queue z)
      shorter z same = subst (λ Q. length rest < length Q) (sym (ap s.queue same ∙ e)) (omega arith)

  -- the outstanding messages after the first was put or held
  one_less : (s : State X) (p : Player) (k : Lane) (m : Item X) (ms : List (Item X)) (n : ℕ) → outstanding shape s p k ≡ m ∷ ms → n ≡ suc (length (s.put k) + length (s.held k)) → length (drop n (shape.due p k (s.feeds p))) < length (outstanding shape s p k)
  one_less s p k m ms n e is =
      let less : drop n (shape.due p k (s.feeds p)) ≡ ms = ap (λ i. drop i (shape.due p k (s.feeds p))) is ∙ drop-next (length (s.put k) + length (s.held k)) (shape.due p k (s.feeds p)) m ms e in
      subst (λ o. length (drop n (shape.due p k (s.feeds p))) < length o) (sym e) (subst (λ d. length d < suc (length ms)) (sym less) (omega arith))

  falls-hold : (s : State X) (p : Player) (k : Lane) (out : List (Item X)) → outstanding shape s p k ≡ out → not (is_empty out) ≡ true → IsIn p shape.players → IsIn k (shape.lanes p) → Falls (measure shape (hold_front s k out)) (measure shape s)
  falls-hold s p k [] e some seat there = absurd (let n : false ≡ true = some in cc)
  falls-hold s p k (m ∷ ms) e some seat there =
      let t : State X = hold_front s k (m ∷ ms) in
      walk shape net (queued shape s) (left_over shape s) (held_back shape s) (queued shape t) (left_over shape t) (held_back shape t) p
      (less_outstanding refl (total-less (λ i. length (outstanding shape t p i)) (λ i. length (outstanding shape s p i)) (shape.lanes p) k there
      (λ i. set_case lane_tells (λ h. (length (drop (length (s.put i) + length h) (shape.due p i (s.feeds p))) ≡ length (outstanding shape s p i)) ⊎ (length (drop (length (s.put i) + length h) (shape.due p i (s.feeds p))) < length (outstanding shape s p i)))
      s.held k (s.held k ++ m ∷ []) i (λ same. inr (held_less i same)) (λ _. inl refl))
      (subst (λ h. length (drop (length (s.put k) + length h) (shape.due p k (s.feeds p))) < length (outstanding shape s p k)) (sym (set_same lane_tells s.held k (s.held k ++ m ∷ []) k refl)) (held_less k refl))))
      (λ r other _. (
        refl,
        total-same _ _ (shape.lanes r) (λ i there_r. ap (λ h. length (drop (length (s.put i) + length h) (shape.due r i (s.feeds r)))) (set_other lane_tells s.held k (s.held k ++ m ∷ []) i (λ same. other (net.one_producer r p k (subst (λ y. IsIn y (shape.lanes r)) same there_r) there)))),
        total-same _ _ (shape.lanes r) (λ i there_r. ap length (set_other lane_tells s.held k (s.held k ++ m ∷ []) i (λ same. other (net.one_producer r p k (subst (λ y. IsIn y (shape.lanes r)) same there_r) there)))),
      ))
      seat
    where
      held_less : (i : Lane) → i ≡ k → length (drop (length (s.put i) + length (s.held k ++ m ∷ [])) (shape.due p i (s.feeds p))) < length (outstanding shape s p i)
      held_less i same = subst (λ z. length (drop (length (s.put z) + length (s.held k ++ m ∷ [])) (shape.due p z (s.feeds p))) < length (outstanding shape s p z)) (sym same)
          (one_less s p k m ms (length (s.put k) + length (s.held k ++ m ∷ [])) e (omega (arith, length-append (s.held k) (m ∷ []))))

  queued-put : (s : State X) (p r : Player) (k : Lane) (m : Item X) → IsIn p shape.players → IsIn k (shape.lanes p) → (shape.comes r k ≡ true → ⊥) →
      total (λ q. length (set same_lane s.queue (shape.into k) (s.queue (shape.into k) ++ record { lane = k; item = m } ∷ []) q)) (shape.queues r) ≡ total (λ q. length (s.queue q)) (shape.queues r)
  queued-put s p r k m seat there n = total-same _ _ (shape.queues r) (λ q i. ap length (set_other lane_tells s.queue (shape.into k) (s.queue (shape.into k) ++ record { lane = k; item = m } ∷ []) q (not_into shape net p r k seat there n q i)))

  falls-put : (s : State X) (p : Player) (k : Lane) (hs out : List (Item X)) → s.held k ≡ hs → outstanding shape s p k ≡ out → (not (is_empty hs) || not (is_empty out)) ≡ true → IsIn p shape.players → IsIn k (shape.lanes p) → Falls (measure shape (put_front shape s k hs out)) (measure shape s)
  falls-put s p k [] [] eh eo some seat there = absurd (let n : false ≡ true = some in cc)
  falls-put s p k [] (m ∷ ms) eh eo some seat there =
      let t : State X = put_front shape s k [] (m ∷ ms) in
      walk shape net (queued shape s) (left_over shape s) (held_back shape s) (queued shape t) (left_over shape t) (held_back shape t) p
      (less_outstanding (queued-put s p p k m seat there (no_loop shape net p seat k there)) (total-less (λ i. length (outstanding shape t p i)) (λ i. length (outstanding shape s p i)) (shape.lanes p) k there
      (λ i. set_case lane_tells (λ v. (length (drop (length v + length (s.held i)) (shape.due p i (s.feeds p))) ≡ length (outstanding shape s p i)) ⊎ (length (drop (length v + length (s.held i)) (shape.due p i (s.feeds p))) < length (outstanding shape s p i)))
      s.put k (s.put k ++ m ∷ []) i (λ same. inr (put_less i same)) (λ _. inl refl))
      (subst (λ v. length (drop (length v + length (s.held k)) (shape.due p k (s.feeds p))) < length (outstanding shape s p k)) (sym (set_same lane_tells s.put k (s.put k ++ m ∷ []) k refl)) (put_less k refl))))
      (λ r other apart. (
        queued-put s p r k m seat there (apart k there),
        total-same _ _ (shape.lanes r) (λ i there_r. ap (λ v. length (drop (length v + length (s.held i)) (shape.due r i (s.feeds r)))) (set_other lane_tells s.put k (s.put k ++ m ∷ []) i (λ same. other (net.one_producer r p k (subst (λ y. IsIn y (shape.lanes r)) same there_r) there)))),
        refl,
      ))
      seat
    where
      put_less : (i : Lane) → i ≡ k → length (drop (length (s.put k ++ m ∷ []) + length (s.held i)) (shape.due p i (s.feeds p))) < length (outstanding shape s p i)
      put_less i same = subst (λ z. length (drop (length (s.put k ++ m ∷ []) + length (s.held z)) (shape.due p z (s.feeds p))) < length (outstanding shape s p z)) (sym same)
          (one_less s p k m ms (length (s.put k ++ m ∷ []) + length (s.held k)) eo (omega (arith, length-append (s.put k) (m ∷ []))))
  falls-put s p k (m ∷ hs) out eh eo some seat there =
      let t : State X = put_front shape s k (m ∷ hs) out in
      walk shape net (queued shape s) (left_over shape s) (held_back shape s) (queued shape t) (left_over shape t) (held_back shape t) p
      (less_held (queued-put s p p k m seat there (no_loop shape net p seat k there)) (total-same _ _ (shape.lanes p) (λ i _. same_out p i))
      (total-less (λ i. length (t.held i)) (λ i. length (s.held i)) (shape.lanes p) k there
      (λ i. set_case lane_tells (λ h. (length h ≡ length (s.held i)) ⊎ (length h < length (s.held i))) s.held k hs i (λ same. inr (shorter i same)) (λ _. inl refl))
      (subst (λ h. length h < length (s.held k)) (sym (set_same lane_tells s.held k hs k refl)) (shorter k refl))))
      (λ r other apart. (
        queued-put s p r k m seat there (apart k there),
        total-same _ _ (shape.lanes r) (λ i _. same_out r i),
        total-same _ _ (shape.lanes r) (λ i there_r. ap length (set_other lane_tells s.held k hs i (λ same. other (net.one_producer r p k (subst (λ y. IsIn y (shape.lanes r)) same there_r) there)))),
      ))
      seat
    where
      shorter : (z : Lane) → z ≡ k → length hs < length (s.held z)
      shorter z same = subst (λ h. length hs < length h) (sym (ap s.held same ∙ eh)) (omega arith)

      same_out : (r : Player) (i : Lane) → length (drop (length (set same_lane s.put k (s.put k ++ m ∷ []) i) + length (set same_lane s.held k hs i)) (shape.due r i (s.feeds r))) ≡ length (outstanding shape s r i)
      same_out r i = elim (lane_tells i k) [
        | inl e ↦ ap (λ n. length (drop n (shape.due r i (s.feeds r)))) (ap₂ (λ v h. length v + length h) (set_same lane_tells s.put k (s.put k ++ m ∷ []) i e.1) (set_same lane_tells s.held k hs i e.1) ∙ as_long i e.1)
        | inr n ↦ ap₂ (λ v h. length (drop (length v + length h) (shape.due r i (s.feeds r)))) (set_other lane_tells s.put k (s.put k ++ m ∷ []) i n.1) (set_other lane_tells s.held k hs i n.1)
      ]
        where
          as_long : (i : Lane) → i ≡ k → length (s.put k ++ m ∷ []) + length hs ≡ length (s.put i) + length (s.held i)
          as_long i same = omega (arith, length-append (s.put k) (m ∷ []), ap length (ap s.held same ∙ eh), ap (λ z. length (s.put z)) same)

  pub each-falls : (capacity : ℕ) (s : State X) (event : Event) → is_enabled shape capacity s event ≡ true → Falls (measure shape (done shape s event)) (measure shape s)
  each-falls capacity s (take p q) h =
      let lead = are.leads p (any_in player_tells p shape.players (and_left _ _ h)) (s.feeds p) q (and_left _ _ (and_right _ _ h)) in
      falls-taken s p q (s.queue q) refl (and_left _ _ (and_right _ _ (and_right _ _ h))) (any_in player_tells p shape.players (and_left _ _ h)) (subst (λ z. IsIn z (shape.queues p)) lead.2 (net.reads p lead.0 lead.1))
  each-falls capacity s (put p k) h = falls-put s p k (s.held k) (outstanding shape s p k) refl refl (and_right _ _ (and_right _ _ h)) (any_in player_tells p shape.players (and_left _ _ (and_left _ _ h))) (any_in lane_tells k (shape.lanes p) (and_right _ _ (and_left _ _ h)))
  each-falls capacity s (hold p k) h = falls-hold s p k (outstanding shape s p k) refl (and_right _ _ h) (any_in player_tells p shape.players (and_left _ _ (and_left _ _ h))) (any_in lane_tells k (shape.lanes p) (and_right _ _ (and_left _ _ h)))
