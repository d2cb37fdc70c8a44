-- Until the core is finished some event is enabled, and what it is then.
use Rattle.std.proofs.Common.{◌≡◌, ℕ, ◌<◌, true, false, not, ◌||◌, ◌⊎◌, inl, inr, refl, sym, ap, ◌∙◌, subst, List, [], ◌∷◌, ◌++◌, length, append_assoc, append-nil}
use Rattle.std.specs.Prelude.{nat_lt}
use Rattle.std.proofs.lemmas.Bool.{lt-ltb}
use Rattle.streams.specs.Lists.{IsIn, all_of, is_empty}
use Rattle.streams.specs.Streams.{Item, has_end}
use Rattle.streams.specs.Core.{Player, Lane, Parcel, Shape, State, Event, take, put, hold, of_lane, outstanding, is_lane, is_enabled, core, HasEnded, IsFinished, Waits, Forward, IsNet, ArePlayers, AreFiles, NeverStuck}
use Rattle.streams.proofs.Basics.{player_tells, lane_tells, in_any, and_true}
use Rattle.streams.proofs.Kept.{Invariant, Invariant-core, outstanding-rest, has_end-left, has_end-whole}

module _ {X : Type 0} (shape : Shape X) (net : IsNet shape) (are : ArePlayers shape) (files : Lane → List (Parcel X)) (full : AreFiles shape files) (capacity : ℕ) (room : 0 < capacity) (s : State X) (inv : Invariant shape files s) where
  abbrev Enabled : Type 0
  Enabled = (event : Event) × (is_enabled shape capacity s event ≡ true)

  abbrev CaughtUp : Player → Type 0
  CaughtUp p = (k : Lane) → IsIn k (shape.lanes p) → outstanding shape s p k ≡ []

  abbrev Good : Player → Type 0
  Good p = HasEnded shape p (s.feeds p) × CaughtUp p

  lane_true : (p : Player) (k : Lane) → IsIn p shape.players → IsIn k (shape.lanes p) → is_lane shape p k ≡ true
  lane_true p k seat there = and_true (in_any player_tells p shape.players seat) (in_any lane_tells k (shape.lanes p) there)

  -- all lanes of a list are caught up, or one can hold
  scan : (p : Player) → IsIn p shape.players → (ks : List Lane) → ((k : Lane) → IsIn k ks → IsIn k (shape.lanes p)) → ((k : Lane) → IsIn k ks → outstanding shape s p k ≡ []) ⊎ Enabled
  scan p seat [] all = inl (λ k h. absurd h)
  scan p seat (k ∷ ks) all = go (outstanding shape s p k) refl (scan p seat ks (λ i h. all i (inr h)))
    where
      go : (out : List (Item X)) → outstanding shape s p k ≡ out → ((i : Lane) → IsIn i ks → outstanding shape s p i ≡ []) ⊎ Enabled → ((i : Lane) → (i ≡ k) ⊎ IsIn i ks → outstanding shape s p i ≡ []) ⊎ Enabled
      go (m ∷ ms) e rest = inr (hold p k, and_true (lane_true p k seat (all k (inl refl))) (ap (λ o. not (is_empty o)) e))
      go [] e (inr found) = inr found
      go [] e (inl rest) = inl (λ i h. elim h [ inl same ↦ ap (outstanding shape s p) same ∙ e | inr there ↦ rest i there ])

  tested : (p : Player) (ks : List Lane) → ((k : Lane) → IsIn k ks → outstanding shape s p k ≡ []) → all_of (λ k. is_empty (outstanding shape s p k)) ks ≡ true
  tested p [] up = refl
  tested p (k ∷ ks) up = and_true (ap is_empty (up k (inl refl))) (tested p ks (λ i h. up i (inr h)))

  -- what is due on a lane whose producer has nothing outstanding
  due_is : (p : Player) (k : Lane) → IsIn k (shape.lanes p) → CaughtUp p → shape.due p k (s.feeds p) ≡ s.put k ++ s.held k
  due_is p k there up =
      let old = inv.within p k there in
      let none : old.0 ≡ [] = sym (outstanding-rest shape net are files full s p k old.0 old.1) ∙ up k there in
      old.1 ∙ ap (λ r. (s.put k ++ s.held k) ++ r) none ∙ append-nil _

  -- what came on a lane was fed, where its queue is empty
  all_fed : (c : Player) (k : Lane) → shape.comes c k ≡ true → s.queue (shape.into k) ≡ [] → of_lane k (files (shape.into k)) ++ s.put k ≡ of_lane k (s.feeds c)
  all_fed c k ck e = inv.lane c k ck ∙ ap (λ Q. of_lane k (s.feeds c) ++ of_lane k Q) e ∙ append-nil _

  -- a wanted lane that hasn't ended, whose queue is empty, can be put on
  fill : (p : Player) (w : Waits shape p (s.feeds p)) → s.queue (shape.into w.lane) ≡ [] →
      ((q : Player) → IsIn w.lane (shape.lanes q) → ⊥) ⊎ ((q : Player) × IsIn q shape.players × Good q × IsIn w.lane (shape.lanes q)) → Enabled
  fill p w empty (inl n) =
      let got : has_end (of_lane w.lane (s.feeds p)) ≡ true =
      ap has_end (sym (all_fed p w.lane w.comes empty)) ∙ has_end-left (of_lane w.lane (files (shape.into w.lane))) (s.put w.lane) (ap has_end (full.file p w.lane w.comes n) ∙ has_end-whole (full.lists w.lane)) in
      let no : true ≡ false = sym got ∙ w.still in cc
  fill p w empty (inr (q, seat, good, there)) = go (s.held w.lane) refl
    where
      go : (hs : List (Item X)) → s.held w.lane ≡ hs → Enabled
      go (m ∷ ms) e = (put q w.lane, and_true (lane_true q w.lane seat there) (and_true (ap (λ Q. nat_lt (length Q) capacity) empty ∙ lt-ltb 0 capacity room) (ap (λ h. not (is_empty h) || not (is_empty (outstanding shape s q w.lane))) e)))
      go [] e =
          let due : shape.due q w.lane (s.feeds q) ≡ s.put w.lane = due_is q w.lane there good.1 ∙ ap (λ h. s.put w.lane ++ h) e ∙ append-nil _ in
          let fed : of_lane w.lane (s.feeds p) ≡ shape.due q w.lane (s.feeds q) = sym (all_fed p w.lane w.comes empty) ∙ ap (λ t. t ++ s.put w.lane) (full.others q w.lane there) ∙ sym due in
          let got : has_end (of_lane w.lane (s.feeds p)) ≡ true = ap has_end fed ∙ are.ends q seat w.lane (s.feeds q) (inv.fed q) good.0 in
          let no : true ≡ false = sym got ∙ w.still in cc

  -- a player whose producers are good is good, or something can be done
  player : (p : Player) → IsIn p shape.players → ((k : Lane) → shape.comes p k ≡ true → ((q : Player) → IsIn k (shape.lanes q) → ⊥) ⊎ ((q : Player) × IsIn q shape.players × Good q × IsIn k (shape.lanes q))) → Good p ⊎ Enabled
  player p seat from = go (scan p seat (shape.lanes p) (λ k h. h)) (are.hungry p seat (s.feeds p) (inv.fed p))
    where
      go : CaughtUp p ⊎ Enabled → Waits shape p (s.feeds p) ⊎ HasEnded shape p (s.feeds p) → Good p ⊎ Enabled
      go (inr found) w = inr found
      go (inl up) (inr ended) = inl (ended, up)
      go (inl up) (inl w) = inr (elim (s.queue (shape.into w.lane)) as (λ Q. s.queue (shape.into w.lane) ≡ Q → Enabled) [
        | [] ↦ λ e. fill p w e (from w.lane w.comes)
        | f ∷ rest ↦ λ e. (take p (shape.into w.lane), and_true (in_any player_tells p shape.players seat) (and_true w.wanted (and_true (ap (λ Q. not (is_empty Q)) e) (tested p (shape.lanes p) up))))
      ] refl)

  climb : (seen players : List Player) → ((p : Player) → IsIn p seen → IsIn p shape.players × Good p) → ((p : Player) → IsIn p players → IsIn p shape.players) → Forward shape seen players → ((p : Player) → IsIn p players → Good p) ⊎ Enabled
  climb seen [] before all f = inl (λ p h. absurd h)
  climb seen (p ∷ players) before all f =
      go (player p (all p (inl refl)) (λ k c. elim (f.0 k c) [ inl n ↦ inl n | inr o ↦ inr (o.0, (before o.0 o.1).0, (before o.0 o.1).1, o.2) ]))
      (λ good. climb (p ∷ seen) players (λ r h. elim h [ inl e ↦ subst (λ z. IsIn z shape.players × Good z) (sym e) (all p (inl refl), good) | inr i ↦ before r i ]) (λ r h. all r (inr h)) f.2)
    where
      go : Good p ⊎ Enabled → (Good p → ((r : Player) → IsIn r players → Good r) ⊎ Enabled) → ((r : Player) → (r ≡ p) ⊎ IsIn r players → Good r) ⊎ Enabled
      go (inr found) rest = inr found
      go (inl good) rest = elim (rest good) [ inr found ↦ inr found | inl goods ↦ inl (λ r h. elim h [ inl e ↦ subst Good (sym e) good | inr i ↦ goods r i ]) ]

  finish : ((p : Player) → IsIn p shape.players → Good p) → IsFinished shape s
  finish good = record {
    ended = λ p seat. (good p seat).0;
    all_put = λ p k seat there.
        let way = net.arrives p k seat there in
        let put_is : s.put k ≡ of_lane k (s.feeds way.0) ++ of_lane k (s.queue (shape.into k)) = ap (λ t. t ++ s.put k) (sym (full.others p k there)) ∙ inv.lane way.0 k way.2 in
        let end_put : has_end (s.put k) ≡ true = ap has_end put_is ∙ has_end-left (of_lane k (s.feeds way.0)) (of_lane k (s.queue (shape.into k))) ((good way.0 way.1).0 k way.2) in
        let old = inv.within p k there in
        let due : shape.due p k (s.feeds p) ≡ s.put k ++ (s.held k ++ old.0) = old.1 ∙ append_assoc (s.put k) (s.held k) old.0 in
        sym (due ∙ ap (λ t. s.put k ++ t) (are.end_is_last p k (s.feeds p) (s.put k) (s.held k ++ old.0) due end_put) ∙ append-nil _);
  }

  pub never_stuck_at : IsFinished shape s ⊎ Enabled
  never_stuck_at = elim (climb [] shape.players (λ p h. absurd h) (λ p h. h) net.forward) [ inr found ↦ inr found | inl good ↦ inl (finish good) ]

pub never-stuck : {X : Type 0} → NeverStuck X
never-stuck shape net are files full capacity room events = never_stuck_at shape net are files full capacity room (core shape files capacity events) (Invariant-core shape net are files full capacity events)
