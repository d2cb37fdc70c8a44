-- What each step of the core keeps.
use Rattle.std.proofs.Common.{◌≡◌, ℕ, ◌+◌, Bool, true, false, cond, ◌⊎◌, inl, inr, refl, sym, ap, ap₂, ◌∙◌, subst, List, [], ◌∷◌, ◌++◌, length, drop, fold, append_assoc, append-nil, length-append}
use Rattle.std.specs.List.{AllByRecursion}
use Rattle.std.proofs.Math.Seq.{drop-append_seam}
use Rattle.streams.specs.Lists.{IsIn}
use Rattle.streams.specs.Streams.{Item, row, end, has_end, whole}
use Rattle.streams.specs.Core.{Player, Lane, same_player, same_lane, Parcel, Shape, State, Event, take, put, hold, set, of_lane, outstanding, is_seated, is_enabled, taken_front, put_front, hold_front, done, step, start, core, IsFinished, WasFedAfter, WasFed, Forward, IsNet, ArePlayers, AreFiles}
use Rattle.streams.proofs.Basics.{player_tells, lane_tells, set_case, set_same, set_other, tells_true, tells_false, any_in, and_left, and_right}

pub of_lane-append : {X : Type 0} (k : Lane) (xs ys : List (Parcel X)) → of_lane k (xs ++ ys) ≡ of_lane k xs ++ of_lane k ys
of_lane-append k [] ys = refl
of_lane-append {X} k (x ∷ xs) ys = go (same_lane x.lane k) (of_lane-append k xs ys)
  where
    go : (b : Bool) → of_lane k (xs ++ ys) ≡ of_lane k xs ++ of_lane k ys → cond b (x.item ∷ of_lane k (xs ++ ys)) (of_lane k (xs ++ ys)) ≡ cond b (x.item ∷ of_lane k xs) (of_lane k xs) ++ of_lane k ys
    go true h = ap (λ t. x.item ∷ t) h
    go false h = h

-- the front of a queue, as the last of the feeds
pub of_lane-shift : {X : Type 0} (k : Lane) (feeds : List (Parcel X)) (f : Parcel X) (rest : List (Parcel X)) → of_lane k feeds ++ of_lane k (f ∷ rest) ≡ of_lane k (feeds ++ f ∷ []) ++ of_lane k rest
of_lane-shift k feeds f rest =
    ap (λ t. of_lane k feeds ++ t) (of_lane-append k (f ∷ []) rest) ∙ sym (append_assoc (of_lane k feeds) (of_lane k (f ∷ [])) (of_lane k rest)) ∙ ap (λ t. t ++ of_lane k rest) (sym (of_lane-append k feeds (f ∷ [])))

pub of_lane-miss : {X : Type 0} (k : Lane) (feeds : List (Parcel X)) (f : Parcel X) → (f.lane ≡ k → ⊥) → of_lane k (feeds ++ f ∷ []) ≡ of_lane k feeds
of_lane-miss k feeds f n = of_lane-append k feeds (f ∷ []) ∙ ap (λ b. of_lane k feeds ++ cond b (f.item ∷ []) []) (tells_false lane_tells f.lane k n) ∙ append-nil _

pub of_lane-hit : {X : Type 0} (k : Lane) (feeds : List (Parcel X)) (f : Parcel X) → f.lane ≡ k → of_lane k (feeds ++ f ∷ []) ≡ of_lane k feeds ++ f.item ∷ []
of_lane-hit k feeds f e = of_lane-append k feeds (f ∷ []) ∙ ap (λ b. of_lane k feeds ++ cond b (f.item ∷ []) []) (tells_true lane_tells f.lane k e)

pub has_end-left : {X : Type 0} (xs ys : List (Item X)) → has_end xs ≡ true → has_end (xs ++ ys) ≡ true
has_end-left [] ys h = let e : false ≡ true = h in cc
has_end-left (row x ∷ xs) ys h = has_end-left xs ys h
has_end-left (end ∷ xs) ys h = refl

pub has_end-whole : {X : Type 0} (xs : List X) → has_end (whole xs) ≡ true
has_end-whole [] = refl
has_end-whole (x ∷ xs) = has_end-whole xs

abbrev head_or : {A : Type 0} → A → List A → A
head_or d [] = d
head_or d (z ∷ zs) = z

abbrev tail_of : {A : Type 0} → List A → List A
tail_of [] = []
tail_of (z ∷ zs) = zs

no_more : {A : Type 0} (xs ys : List A) → [] ≡ xs ++ ys → ys ≡ []
no_more [] ys e = sym e
no_more (x ∷ xs) ys e = cc

-- End is the last item of a whole list
pub whole-end : {X : Type 0} (zs : List X) (xs ys : List (Item X)) → whole zs ≡ xs ++ ys → has_end xs ≡ true → ys ≡ []
whole-end zs [] ys e h = let no : false ≡ true = h in cc
whole-end [] (x ∷ xs) ys e h = no_more xs ys (ap tail_of e)
whole-end (z ∷ zs) (row x ∷ xs) ys e h = whole-end zs xs ys (ap tail_of e) h
whole-end (z ∷ zs) (end ∷ xs) ys e h = let no : row z ≡ end = ap (head_or end) e in cc

pub fed-snoc : {X : Type 0} (shape : Shape X) (p : Player) (before feeds : List (Parcel X)) (f : Parcel X) → WasFedAfter shape p before feeds →
    shape.comes p f.lane ≡ true → has_end (of_lane f.lane (before ++ feeds)) ≡ false → shape.wanted p (before ++ feeds) (shape.into f.lane) ≡ true → WasFedAfter shape p before (feeds ++ f ∷ [])
fed-snoc shape p before [] f h a b c = (a, ap (λ t. has_end (of_lane f.lane t)) (sym (append-nil before)) ∙ b, ap (λ t. shape.wanted p t (shape.into f.lane)) (sym (append-nil before)) ∙ c, tt)
fed-snoc shape p before (g ∷ feeds) f h a b c =
    (h.0, h.1, h.2, fed-snoc shape p (before ++ g ∷ []) feeds f h.3 a (ap (λ t. has_end (of_lane f.lane t)) (append_assoc before (g ∷ []) feeds) ∙ b) (ap (λ t. shape.wanted p t (shape.into f.lane)) (append_assoc before (g ∷ []) feeds) ∙ c))

pub all-snoc : {A : Type 0} (P : A → Type 0) (xs : List A) (x : A) → AllByRecursion P xs → P x → AllByRecursion P (xs ++ x ∷ [])
all-snoc P [] x h k = (k, tt)
all-snoc P (y ∷ ys) x h k = (h.0, all-snoc P ys x h.1 k)

pub record Invariant {X : Type 0} (shape : Shape X) (files : Lane → List (Parcel X)) (s : State X) : Type 0 where
  -- what was put, what is held and a rest are what is due
  pub within : (p : Player) (k : Lane) → IsIn k (shape.lanes p) → (rest : List (Item X)) × (shape.due p k (s.feeds p) ≡ (s.put k ++ s.held k) ++ rest)
  -- what a lane was given was fed or is in the queue
  pub lane : (c : Player) (k : Lane) → shape.comes c k ≡ true → of_lane k (files (shape.into k)) ++ s.put k ≡ of_lane k (s.feeds c) ++ of_lane k (s.queue (shape.into k))
  -- each parcel is in the queue of its lane, which leads to some player
  pub home : (q : Lane) → AllByRecursion (λ (parcel : Parcel X). (shape.into parcel.lane ≡ q) × ((c : Player) × (shape.comes c parcel.lane ≡ true))) (s.queue q)
  pub fed : (p : Player) → WasFed shape p (s.feeds p)
  pub unput : (k : Lane) → ((q : Player) → IsIn k (shape.lanes q) → ⊥) → s.put k ≡ []

module _ {X : Type 0} (shape : Shape X) (net : IsNet shape) where
  pub one_consumer : (p r : Player) (k l : Lane) → shape.comes p k ≡ true → shape.comes r l ≡ true → shape.into k ≡ shape.into l → p ≡ r
  one_consumer p r k l ck cl e = net.one_reader p r (shape.into l) (subst (λ q. IsIn q (shape.queues p)) e (net.reads p k ck)) (net.reads r l cl)

  origin_in : (seen players : List Player) → ((q : Player) → IsIn q seen → IsIn q shape.players) → ((q : Player) → IsIn q players → IsIn q shape.players) → Forward shape seen players → (p : Player) → IsIn p players → (k : Lane) → shape.comes p k ≡ true →
      ((q : Player) → IsIn k (shape.lanes q) → ⊥) ⊎ ((q : Player) × IsIn q shape.players × IsIn k (shape.lanes q))
  origin_in seen [] sa pa f p h k c = absurd h
  origin_in seen (q ∷ players) sa pa f p (inr h) k c = origin_in (q ∷ seen) players (λ r i. elim i [ inl e ↦ pa r (inl e) | inr j ↦ sa r j ]) (λ r i. pa r (inr i)) f.2 p h k c
  origin_in seen (q ∷ players) sa pa f p (inl e) k c = elim (f.0 k (ap (λ z. shape.comes z k) (sym e) ∙ c)) [ inl n ↦ inl n | inr o ↦ inr (o.0, sa o.0 o.1, o.2) ]

  -- a lane into a player comes from a file or from a player
  pub origin : (p : Player) → IsIn p shape.players → (k : Lane) → shape.comes p k ≡ true → ((q : Player) → IsIn k (shape.lanes q) → ⊥) ⊎ ((q : Player) × IsIn q shape.players × IsIn k (shape.lanes q))
  origin = origin_in [] shape.players (λ q h. absurd h) (λ q h. h) net.forward

module _ {X : Type 0} (shape : Shape X) (net : IsNet shape) (are : ArePlayers shape) (files : Lane → List (Parcel X)) (full : AreFiles shape files) where
  -- the outstanding messages are the rest
  pub outstanding-rest : (s : State X) (p : Player) (k : Lane) (rest : List (Item X)) → shape.due p k (s.feeds p) ≡ (s.put k ++ s.held k) ++ rest → outstanding shape s p k ≡ rest
  outstanding-rest s p k rest due =
      ap (drop (length (s.put k) + length (s.held k))) due ∙ ap (λ n. drop n ((s.put k ++ s.held k) ++ rest)) (sym (length-append (s.put k) (s.held k))) ∙ drop-append_seam (s.put k ++ s.held k) rest

  -- End is the last that a lane was given
  pub one_end : (s : State X) → Invariant shape files s → (p : Player) → IsIn p shape.players → (k : Lane) → shape.comes p k ≡ true → (xs ys : List (Item X)) → of_lane k (files (shape.into k)) ++ s.put k ≡ xs ++ ys → has_end xs ≡ true → ys ≡ []
  one_end s inv p seat k comes xs ys e h = elim (origin shape net p seat k comes) [
    | inl n ↦ whole-end (full.lists k) xs ys (sym (append-nil (whole (full.lists k))) ∙ ap₂ (λ a b. a ++ b) (sym (full.file p k comes n)) (sym (inv.unput k n)) ∙ e) h
    | inr o ↦
        let old = inv.within o.0 k o.2 in
        let put_is : s.put k ≡ xs ++ ys = ap (λ t. t ++ s.put k) (sym (full.others o.0 k o.2)) ∙ e in
        let due : shape.due o.0 k (s.feeds o.0) ≡ xs ++ (ys ++ (s.held k ++ old.0)) =
        old.1 ∙ append_assoc (s.put k) (s.held k) old.0 ∙ ap (λ t. t ++ (s.held k ++ old.0)) put_is ∙ append_assoc xs ys (s.held k ++ old.0) in
        nothing ys (s.held k ++ old.0) (are.end_is_last o.0 k (s.feeds o.0) xs (ys ++ (s.held k ++ old.0)) due h)
  ]
    where
      nothing : (ys zs : List (Item X)) → ys ++ zs ≡ [] → ys ≡ []
      nothing [] zs e = refl
      nothing (y ∷ ys) zs e = cc

  -- in a finished state each lane's consumer was fed what was put on it, or its file
  pub finished_fed : (s : State X) → Invariant shape files s → IsFinished shape s → (c : Player) (k : Lane) → IsIn c shape.players → shape.comes c k ≡ true → of_lane k (s.feeds c) ≡ of_lane k (files (shape.into k)) ++ s.put k
  finished_fed s inv fin c k seat ck =
      let given = inv.lane c k ck in
      sym (given ∙ ap (λ t. of_lane k (s.feeds c) ++ t) (one_end s inv c seat k ck (of_lane k (s.feeds c)) (of_lane k (s.queue (shape.into k))) given (fin.ended c seat k ck)) ∙ append-nil _)

  Invariant-taken : (s : State X) (p : Player) (q : Lane) (queue : List (Parcel X)) → s.queue q ≡ queue → IsIn p shape.players → shape.wanted p (s.feeds p) q ≡ true → Invariant shape files s → Invariant shape files (taken_front s p q queue)
  Invariant-taken s p q [] e seat wanted inv = inv
  Invariant-taken s p q (f ∷ rest) e seat wanted inv =
      let Home : Lane → Parcel X → Type 0 = λ r parcel. (shape.into parcel.lane ≡ r) × ((c : Player) × (shape.comes c parcel.lane ≡ true)) in
      let at_home : AllByRecursion (Home q) (f ∷ rest) = subst (AllByRecursion (Home q)) e (inv.home q) in
      let into_q : shape.into f.lane ≡ q = at_home.0.0 in
      let lead = are.leads p seat (s.feeds p) q wanted in
      let consumer : at_home.0.1.0 ≡ p = one_consumer shape net at_home.0.1.0 p f.lane lead.0 at_home.0.1.1 lead.1 (into_q ∙ sym lead.2) in
      let comes : shape.comes p f.lane ≡ true = subst (λ z. shape.comes z f.lane ≡ true) consumer at_home.0.1.1 in
      let given : of_lane f.lane (files (shape.into f.lane)) ++ s.put f.lane ≡ of_lane f.lane (s.feeds p) ++ (f.item ∷ of_lane f.lane rest) =
      inv.lane p f.lane comes ∙ ap (λ z. of_lane f.lane (s.feeds p) ++ of_lane f.lane (s.queue z)) into_q ∙ ap (λ z. of_lane f.lane (s.feeds p) ++ of_lane f.lane z) e
      ∙ ap (λ b. of_lane f.lane (s.feeds p) ++ cond b (f.item ∷ of_lane f.lane rest) (of_lane f.lane rest)) (tells_true lane_tells f.lane f.lane refl) in
      let open_still : has_end (of_lane f.lane (s.feeds p)) ≡ false = either (has_end (of_lane f.lane (s.feeds p))) refl (one_end s inv p seat f.lane comes (of_lane f.lane (s.feeds p)) (f.item ∷ of_lane f.lane rest) given) in
      let fed : WasFed shape p (s.feeds p ++ f ∷ []) = fed-snoc shape p [] (s.feeds p) f (inv.fed p) comes open_still (ap (shape.wanted p (s.feeds p)) into_q ∙ wanted) in
      record {
        within = λ r k there.
            let old = inv.within r k there in
            set_case player_tells (λ F. (more : List (Item X)) × (shape.due r k F ≡ (s.put k ++ s.held k) ++ more)) s.feeds p (s.feeds p ++ f ∷ []) r
            (λ same.
            let more = are.more p seat k (s.feeds p) f fed in
            (old.0 ++ more.0, ap (λ z. shape.due z k (s.feeds p ++ f ∷ [])) same ∙ more.1 ∙ ap (λ d. d ++ more.0) (ap (λ z. shape.due z k (s.feeds z)) (sym same) ∙ old.1) ∙ append_assoc (s.put k ++ s.held k) old.0 more.0))
            (λ _. old);
        lane = λ c k ck. Lane-taken e into_q comes c k ck;
        home = λ r. set_case lane_tells (λ Q. AllByRecursion (Home r) Q) s.queue q rest r (λ same. subst (λ z. AllByRecursion (Home z) rest) (sym same) at_home.1) (λ _. inv.home r);
        fed = λ r. set_case player_tells (λ F. WasFed shape r F) s.feeds p (s.feeds p ++ f ∷ []) r (λ same. subst (λ z. WasFed shape z (s.feeds p ++ f ∷ [])) (sym same) fed) (λ _. inv.fed r);
        unput = inv.unput;
      }
    where
      either : (b : Bool) → has_end (of_lane f.lane (s.feeds p)) ≡ b → (has_end (of_lane f.lane (s.feeds p)) ≡ true → f.item ∷ of_lane f.lane rest ≡ []) → b ≡ false
      either true h empty = absurd (let n : f.item ∷ of_lane f.lane rest ≡ [] = empty h in cc)
      either false h empty = refl

      Lane-taken : s.queue q ≡ f ∷ rest → shape.into f.lane ≡ q → shape.comes p f.lane ≡ true → (c : Player) (k : Lane) → shape.comes c k ≡ true →
          of_lane k (files (shape.into k)) ++ s.put k ≡ of_lane k (set same_player s.feeds p (s.feeds p ++ f ∷ []) c) ++ of_lane k (set same_lane s.queue q rest (shape.into k))
      Lane-taken e into_q comes c k ck =
          set_case lane_tells (λ Q. of_lane k (files (shape.into k)) ++ s.put k ≡ of_lane k (set same_player s.feeds p (s.feeds p ++ f ∷ []) c) ++ of_lane k Q) s.queue q rest (shape.into k)
          (λ same.
          let mine : c ≡ p = one_consumer shape net c p k f.lane ck comes (same ∙ sym into_q) in
          inv.lane c k ck ∙ ap₂ (λ z w. of_lane k (s.feeds z) ++ of_lane k (s.queue w)) mine same ∙ ap (λ Q. of_lane k (s.feeds p) ++ of_lane k Q) e ∙ of_lane-shift k (s.feeds p) f rest
          ∙ ap (λ F. of_lane k F ++ of_lane k rest) (sym (set_same player_tells s.feeds p (s.feeds p ++ f ∷ []) c mine)))
          (λ other.
          set_case player_tells (λ F. of_lane k (files (shape.into k)) ++ s.put k ≡ of_lane k F ++ of_lane k (s.queue (shape.into k))) s.feeds p (s.feeds p ++ f ∷ []) c
          (λ mine. inv.lane c k ck ∙ ap (λ z. of_lane k (s.feeds z) ++ of_lane k (s.queue (shape.into k))) mine
          ∙ ap (λ t. t ++ of_lane k (s.queue (shape.into k))) (sym (of_lane-miss k (s.feeds p) f (λ is_k. other (ap shape.into (sym is_k) ∙ into_q)))))
          (λ _. inv.lane c k ck))

  -- the lanes after a message was put on one
  lanes-put : (s : State X) (k : Lane) (m : Item X) → Invariant shape files s → (c : Player) (i : Lane) → shape.comes c i ≡ true →
      of_lane i (files (shape.into i)) ++ set same_lane s.put k (s.put k ++ m ∷ []) i ≡ of_lane i (s.feeds c) ++ of_lane i (set same_lane s.queue (shape.into k) (s.queue (shape.into k) ++ record { lane = k; item = m } ∷ []) (shape.into i))
  lanes-put s k m inv c i ci =
      let parcel : Parcel X = record { lane = k; item = m } in
      let more : List (Parcel X) = s.queue (shape.into k) ++ parcel ∷ [] in
      set_case lane_tells (λ v. of_lane i (files (shape.into i)) ++ v ≡ of_lane i (s.feeds c) ++ of_lane i (set same_lane s.queue (shape.into k) more (shape.into i))) s.put k (s.put k ++ m ∷ []) i
      (λ same.
      ap (λ z. of_lane i (files (shape.into i)) ++ (s.put z ++ m ∷ [])) (sym same) ∙ sym (append_assoc (of_lane i (files (shape.into i))) (s.put i) (m ∷ [])) ∙ ap (λ t. t ++ m ∷ []) (inv.lane c i ci)
      ∙ append_assoc (of_lane i (s.feeds c)) (of_lane i (s.queue (shape.into i))) (m ∷ [])
      ∙ ap (λ t. of_lane i (s.feeds c) ++ t) (sym (of_lane-hit i (s.queue (shape.into i)) parcel (sym same)) ∙ ap (λ z. of_lane i (s.queue (shape.into z) ++ parcel ∷ [])) same
      ∙ ap (of_lane i) (sym (set_same lane_tells s.queue (shape.into k) more (shape.into i) (ap shape.into same)))))
      (λ other.
      set_case lane_tells (λ Q. of_lane i (files (shape.into i)) ++ s.put i ≡ of_lane i (s.feeds c) ++ of_lane i Q) s.queue (shape.into k) more (shape.into i)
      (λ there. inv.lane c i ci ∙ ap (λ t. of_lane i (s.feeds c) ++ t) (ap (λ z. of_lane i (s.queue z)) there ∙ sym (of_lane-miss i (s.queue (shape.into k)) parcel (λ e. other (sym e)))))
      (λ _. inv.lane c i ci))

  home-put : (s : State X) (p : Player) (k : Lane) (m : Item X) → IsIn p shape.players → IsIn k (shape.lanes p) → Invariant shape files s → (q : Lane) →
      AllByRecursion (λ (parcel : Parcel X). (shape.into parcel.lane ≡ q) × ((c : Player) × (shape.comes c parcel.lane ≡ true))) (set same_lane s.queue (shape.into k) (s.queue (shape.into k) ++ record { lane = k; item = m } ∷ []) q)
  home-put s p k m seat there inv q =
      let Home : Lane → Parcel X → Type 0 = λ r parcel. (shape.into parcel.lane ≡ r) × ((c : Player) × (shape.comes c parcel.lane ≡ true)) in
      let way = net.arrives p k seat there in
      set_case lane_tells (λ Q. AllByRecursion (Home q) Q) s.queue (shape.into k) (s.queue (shape.into k) ++ record { lane = k; item = m } ∷ []) q
      (λ same. all-snoc (Home q) (s.queue (shape.into k)) (record { lane = k; item = m }) (subst (λ z. AllByRecursion (Home q) (s.queue z)) same (inv.home q)) (sym same, (way.0, way.2)))
      (λ _. inv.home q)

  unput-put : (s : State X) (p : Player) (k : Lane) (m : Item X) → IsIn k (shape.lanes p) → Invariant shape files s → (i : Lane) → ((q : Player) → IsIn i (shape.lanes q) → ⊥) → set same_lane s.put k (s.put k ++ m ∷ []) i ≡ []
  unput-put s p k m there inv i n = set_case lane_tells (λ v. v ≡ []) s.put k (s.put k ++ m ∷ []) i (λ same. absurd (n p (subst (λ z. IsIn z (shape.lanes p)) (sym same) there))) (λ _. inv.unput i n)

  Invariant-put : (s : State X) (p : Player) (k : Lane) (hs out : List (Item X)) → s.held k ≡ hs → outstanding shape s p k ≡ out → IsIn p shape.players → IsIn k (shape.lanes p) → Invariant shape files s → Invariant shape files (put_front shape s k hs out)
  Invariant-put s p k [] [] eh eo seat there inv = inv
  Invariant-put s p k [] (m ∷ ms) eh eo seat there inv = record {
    within = λ r i ri.
        let old = inv.within r i ri in
        set_case lane_tells (λ v. (rest : List (Item X)) × (shape.due r i (s.feeds r) ≡ (v ++ s.held i) ++ rest)) s.put k (s.put k ++ m ∷ []) i
        (λ same.
        let mine : r ≡ p = net.one_producer r p k (subst (λ z. IsIn z (shape.lanes r)) same ri) there in
        let none : s.held i ≡ [] = ap s.held same ∙ eh in
        let rest : old.0 ≡ m ∷ ms = sym (outstanding-rest s r i old.0 old.1) ∙ ap₂ (λ z w. outstanding shape s z w) mine same ∙ eo in (
          ms,
          old.1 ∙ ap₂ (λ h t. (s.put i ++ h) ++ t) none rest ∙ ap (λ t. t ++ m ∷ ms) (append-nil (s.put i)) ∙ sym (append_assoc (s.put i) (m ∷ []) ms)
              ∙ ap (λ z. (s.put z ++ m ∷ []) ++ ms) same ∙ ap (λ t. t ++ ms) (sym (append-nil (s.put k ++ m ∷ []))) ∙ ap (λ h. ((s.put k ++ m ∷ []) ++ h) ++ ms) (sym none),
        ))
        (λ _. old);
    lane = lanes-put s k m inv;
    home = home-put s p k m seat there inv;
    fed = inv.fed;
    unput = unput-put s p k m there inv;
  }
  Invariant-put s p k (m ∷ ms) out eh eo seat there inv = record {
    within = λ r i ri.
        let old = inv.within r i ri in
        let P : List (Item X) → List (Item X) → Type 0 = λ v h. (rest : List (Item X)) × (shape.due r i (s.feeds r) ≡ (v ++ h) ++ rest) in
        set_case lane_tells (λ v. P v (set same_lane s.held k ms i)) s.put k (s.put k ++ m ∷ []) i
        (λ same. subst (P (s.put k ++ m ∷ [])) (sym (set_same lane_tells s.held k ms i same))
        (old.0, old.1 ∙ ap (λ z. (s.put z ++ s.held z) ++ old.0) same ∙ ap (λ h. (s.put k ++ h) ++ old.0) eh ∙ ap (λ t. t ++ old.0) (sym (append_assoc (s.put k) (m ∷ []) ms))))
        (λ other. subst (P (s.put i)) (sym (set_other lane_tells s.held k ms i other)) old);
    lane = lanes-put s k m inv;
    home = home-put s p k m seat there inv;
    fed = inv.fed;
    unput = unput-put s p k m there inv;
  }

  Invariant-hold : (s : State X) (p : Player) (k : Lane) (out : List (Item X)) → outstanding shape s p k ≡ out → IsIn k (shape.lanes p) → Invariant shape files s → Invariant shape files (hold_front s k out)
  Invariant-hold s p k [] eo there inv = inv
  Invariant-hold s p k (m ∷ ms) eo there inv = record {
    within = λ r i ri.
        let old = inv.within r i ri in
        set_case lane_tells (λ h. (rest : List (Item X)) × (shape.due r i (s.feeds r) ≡ (s.put i ++ h) ++ rest)) s.held k (s.held k ++ m ∷ []) i
        (λ same.
        let mine : r ≡ p = net.one_producer r p k (subst (λ z. IsIn z (shape.lanes r)) same ri) there in
        let rest : old.0 ≡ m ∷ ms = sym (outstanding-rest s r i old.0 old.1) ∙ ap₂ (λ z w. outstanding shape s z w) mine same ∙ eo in
        (ms, old.1 ∙ ap₂ (λ z t. (s.put i ++ s.held z) ++ t) same rest ∙ sym (append_assoc (s.put i ++ s.held k) (m ∷ []) ms) ∙ ap (λ t. t ++ ms) (append_assoc (s.put i) (s.held k) (m ∷ []))))
        (λ _. old);
    lane = inv.lane;
    home = inv.home;
    fed = inv.fed;
    unput = inv.unput;
  }

  seated : (p : Player) → is_seated shape p ≡ true → IsIn p shape.players
  seated p h = any_in player_tells p shape.players h

  Invariant-done : (capacity : ℕ) (s : State X) (event : Event) → is_enabled shape capacity s event ≡ true → Invariant shape files s → Invariant shape files (done shape s event)
  Invariant-done capacity s (take p q) h inv = Invariant-taken s p q (s.queue q) refl (seated p (and_left _ _ h)) (and_left _ _ (and_right _ _ h)) inv
  Invariant-done capacity s (put p k) h inv = Invariant-put s p k (s.held k) (outstanding shape s p k) refl refl (seated p (and_left _ _ (and_left _ _ h))) (any_in lane_tells k (shape.lanes p) (and_right _ _ (and_left _ _ h))) inv
  Invariant-done capacity s (hold p k) h inv = Invariant-hold s p k (outstanding shape s p k) refl (any_in lane_tells k (shape.lanes p) (and_right _ _ (and_left _ _ h))) inv

  pub Invariant-step : (capacity : ℕ) (s : State X) (event : Event) → Invariant shape files s → Invariant shape files (step shape capacity s event)
  Invariant-step capacity s event inv = go (is_enabled shape capacity s event) refl
    where
      go : (b : Bool) → is_enabled shape capacity s event ≡ b → Invariant shape files (cond b (done shape s event) s)
      go true h = Invariant-done capacity s event h inv
      go false h = inv

  Invariant-fold : (capacity : ℕ) (events : List Event) (s : State X) → Invariant shape files s → Invariant shape files (fold (step shape capacity) s events)
  Invariant-fold capacity [] s inv = inv
  Invariant-fold capacity (event ∷ events) s inv = Invariant-fold capacity events (step shape capacity s event) (Invariant-step capacity s event inv)

  pub Invariant-core : (capacity : ℕ) (events : List Event) → Invariant shape files (core shape files capacity events)
  Invariant-core capacity events = Invariant-fold capacity events (start files) (record {
    within = λ p k there. ([], are.begins p (net.has_lane p k there) k);
    lane = λ c k ck. append-nil _;
    home = full.home;
    fed = λ p. tt;
    unput = λ k n. refl;
  })
