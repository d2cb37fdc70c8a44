-- The step core over files that tell nothing.
use Rattle.std.proofs.Common.{◌≡◌, ℕ, ◌<◌, Bool, true, false, not, cond, ◌⊎◌, inl, inr, refl, sym, ap, ap₂, ◌∙◌, subst, List, [], ◌∷◌, ◌++◌, map, length, append_assoc, append-nil}
use Rattle.std.specs.Prelude.{◌&&◌}
use Rattle.std.specs.List.{AllByRecursion}
use Rattle.std.proofs.lemmas.List.{append_cancel_right}
use Rattle.streams.specs.Lists.{IsIn, is_empty}
use Rattle.streams.specs.Streams.{Item, row, end, has_end, whole, rows, rows_of, emits}
use Rattle.streams.specs.Core.{Player, Lane, same_lane, Parcel, Shape, State, Event, take, put, hold, outstanding, is_enabled, taken_front, put_front, hold_front, done, step, of_lane, set, WasFed, IsFinished, AreFiles}
use Rattle.streams.specs.Plans.{inner, IsLegal}
use Rattle.streams.specs.Wiring.{Plan, net_of, IsWired}
use Rattle.streams.proofs.Basics.{lane_tells, tells_true, set_same, set_other, any_in, and_left, and_right, and_true}
use Rattle.streams.proofs.Kept.{Invariant, Invariant-step, of_lane-append, has_end-left, has_end-whole}
use Rattle.streams.proofs.Legal.{run-is-legal}
use Rattle.streams.proofs.PlayerLaws.{are_players}
use Rattle.streams.proofs.StreamLaws.{true_false, no_end}
use Rattle.streams.proofs.Stuck.{never_stuck_at}
use Rattle.streams.proofs.Wired.{wired-is-plan, in-players}
use Rattle.core_laws.specs.Driven.{plan_shape}
use Rattle.core_laws.specs.Files.{reader, file_of, is_file_queue}
use Rattle.core_laws.specs.Untold.{AreRead, Stands, is_open, to_come, awaiting, with_item, UntoldNeverStuck, ReadingKeeps, UntoldStepKeeps, UntoldFinishedIsLegal, UntoldBegins}
use Rattle.core_laws.proofs.Filing.{comes_is, is_from_file, back, is_queue, name_link, link_of, lane_is}

all_both : {A : Type 0} (P : A → Type 0) (xs ys : List A) → AllByRecursion P xs → AllByRecursion P ys → AllByRecursion P (xs ++ ys)
all_both P [] ys h k = k
all_both P (x ∷ xs) ys h k = (h.0, all_both P xs ys h.1 k)

all_to : {A : Type 0} (P Q : A → Type 0) → ((x : A) → P x → Q x) → (xs : List A) → AllByRecursion P xs → AllByRecursion Q xs
all_to P Q f [] h = tt
all_to P Q f (x ∷ xs) h = (f x h.0, all_to P Q f xs h.1)

has_end-more : {X : Type 0} (xs ys : List (Item X)) → has_end xs ≡ false → has_end (xs ++ ys) ≡ has_end ys
has_end-more [] ys h = refl
has_end-more (row x ∷ xs) ys h = has_end-more xs ys h
has_end-more (end ∷ xs) ys h = absurd (true_false refl h)

map-more : {X : Type 0} (xs : List X) (x : X) → map row xs ++ row x ∷ [] ≡ map row (xs ++ x ∷ [])
map-more [] x = refl
map-more (y ∷ xs) x = ap (λ t. row y ∷ t) (map-more xs x)

module _ {X F : Type 0} (plan : Plan X F) (wired : IsWired plan) (read : Lane → List (Parcel X)) (are : AreRead plan read) where
  abbrev shape : Shape X
  shape = plan_shape plan

  -- a file's lane has no player
  nobody : (q : Lane) → is_file_queue plan q ≡ true → (p : Player) → IsIn (file_of q) (shape.lanes p) → ⊥
  nobody q e p there =
      let r = link_of plan p (file_of q) there in
      true_false (and_left _ _ e) (wired.outputs p.operator q.link (in-players plan wired plan.order p r.0).0 r.1).no_file

  -- a queue into which a lane of a player leads is none of a file
  no_queue : (p : Player) (k : Lane) → IsIn k (shape.lanes p) → is_file_queue plan (shape.into k) ≡ false
  no_queue p k there = go (is_file_queue plan (shape.into k)) refl
    where
      go : (b : Bool) → is_file_queue plan (shape.into k) ≡ b → is_file_queue plan (shape.into k) ≡ false
      go false e = e
      go true e =
          let r = link_of plan p k there in
          absurd (true_false (ap (λ z. (plan.wire z).file) (sym (name_link (plan.wire k.link).gather k).0) ∙ and_left _ _ e) (wired.outputs p.operator k.link (in-players plan wired plan.order p r.0).0 r.1).no_file)

  home_of : (q : Lane) → is_file_queue plan q ≡ true → (parcel : Parcel X) → parcel.lane ≡ file_of q → (shape.into parcel.lane ≡ q) × ((c : Player) × (shape.comes c parcel.lane ≡ true))
  home_of q e parcel same = subst (λ z. (shape.into z ≡ q) × ((c : Player) × (shape.comes c z ≡ true))) (sym same) (lane_is _ _ (and_right _ _ (and_right _ _ e)), (reader plan q, and_left _ _ (and_right _ _ e)))

  -- the files as if each ended here
  abbrev ended : Lane → List (Parcel X)
  ended q = read q ++ to_come plan read q

  open_by : (q : Lane) (b : Bool) → is_file_queue plan q ≡ true → has_end (of_lane (file_of q) (read q)) ≡ b → is_open plan read q ≡ not b
  open_by q b e h = ap₂ (λ x y. x && not y) e h

  whole_by : (q : Lane) → is_file_queue plan q ≡ true → of_lane (file_of q) (ended q) ≡ whole (are.lists q)
  whole_by q e = of_lane-append (file_of q) (read q) (to_come plan read q) ∙ go (are.file q e)
    where
      go : (of_lane (file_of q) (read q) ≡ map row (are.lists q)) ⊎ (of_lane (file_of q) (read q) ≡ whole (are.lists q)) → of_lane (file_of q) (read q) ++ of_lane (file_of q) (to_come plan read q) ≡ whole (are.lists q)
      go (inl some) =
          let still : is_open plan read q ≡ true = open_by q false e (ap has_end some ∙ no_end (are.lists q)) in
          ap (λ b. of_lane (file_of q) (read q) ++ of_lane (file_of q) (cond b (record { lane = file_of q; item = end } ∷ []) [])) still
          ∙ ap (λ b. of_lane (file_of q) (read q) ++ cond b (end ∷ []) []) (tells_true lane_tells (file_of q) (file_of q) refl) ∙ ap (λ t. t ++ end ∷ []) some
      go (inr all) =
          let closed : is_open plan read q ≡ false = open_by q true e (ap has_end all ∙ has_end-whole (are.lists q)) in
          ap (λ b. of_lane (file_of q) (read q) ++ of_lane (file_of q) (cond b (record { lane = file_of q; item = end } ∷ []) [])) closed ∙ append-nil _ ∙ all

  none_to_come : (q : Lane) → is_file_queue plan q ≡ false → to_come plan read q ≡ []
  none_to_come q e = ap (λ b. cond (b && not (has_end (of_lane (file_of q) (read q)))) (record { lane = file_of q; item = end } ∷ []) []) e

  come_home : (q : Lane) (b : Bool) → is_open plan read q ≡ b → AllByRecursion (λ (parcel : Parcel X). (shape.into parcel.lane ≡ q) × ((c : Player) × (shape.comes c parcel.lane ≡ true))) (cond b (record { lane = file_of q; item = end } ∷ []) [])
  come_home q false e = tt
  come_home q true e = (home_of q (and_left _ _ e) (record { lane = file_of q; item = end }) refl, tt)

  read_home : (q : Lane) (b : Bool) → is_file_queue plan q ≡ b → AllByRecursion (λ (parcel : Parcel X). (shape.into parcel.lane ≡ q) × ((c : Player) × (shape.comes c parcel.lane ≡ true))) (read q)
  read_home q true e = all_to (λ (parcel : Parcel X). parcel.lane ≡ file_of q) _ (λ parcel same. home_of q e parcel same) (read q) (are.home q)
  read_home q false e = subst (AllByRecursion _) (sym (are.others q e)) tt

  ended_files : AreFiles shape ended
  ended_files = record {
    lists = λ k. are.lists (shape.into k);
    file = λ p k ck none.
        let c = comes_is plan wired p k ck in
        let from_file = is_from_file plan wired p k c none (plan.wire k.link).file refl in
        let b = back plan wired p k c from_file in
        subst (λ z. of_lane z (ended (shape.into k)) ≡ whole (are.lists (shape.into k))) b (whole_by (shape.into k) (is_queue plan wired p k ck c from_file));
    others = λ p k there. ap (of_lane k) (ap₂ (λ x y. x ++ y) (are.others (shape.into k) (no_queue p k there)) (none_to_come (shape.into k) (no_queue p k there)));
    home = λ q. all_both _ (read q) (to_come plan read q) (read_home q (is_file_queue plan q) refl) (come_home q (is_open plan read q) refl);
  }

  module _ (s : State X) (stands : Stands shape read s) where
    -- what comes to a queue of a file is of its lane, on which nothing is put
    lane_more : (c : Player) (k : Lane) → shape.comes c k ≡ true → (more : List (Parcel X)) → (of_lane k more ≡ []) ⊎ (s.put k ≡ []) →
        of_lane k (read (shape.into k) ++ more) ++ s.put k ≡ of_lane k (s.feeds c) ++ of_lane k (s.queue (shape.into k) ++ more)
    lane_more c k ck more (inl none) =
        ap (λ t. t ++ s.put k) (of_lane-append k (read (shape.into k)) more ∙ ap (λ t. of_lane k (read (shape.into k)) ++ t) none ∙ append-nil _) ∙ stands.lane c k ck
        ∙ ap (λ t. of_lane k (s.feeds c) ++ t) (sym (of_lane-append k (s.queue (shape.into k)) more ∙ ap (λ t. of_lane k (s.queue (shape.into k)) ++ t) none ∙ append-nil _))
    lane_more c k ck more (inr unput) =
        let given : of_lane k (read (shape.into k)) ≡ of_lane k (s.feeds c) ++ of_lane k (s.queue (shape.into k)) = sym (append-nil _) ∙ ap (λ t. of_lane k (read (shape.into k)) ++ t) (sym unput) ∙ stands.lane c k ck in
        ap (λ t. of_lane k (read (shape.into k) ++ more) ++ t) unput ∙ append-nil _ ∙ of_lane-append k (read (shape.into k)) more ∙ ap (λ t. t ++ of_lane k more) given ∙ append_assoc (of_lane k (s.feeds c)) (of_lane k (s.queue (shape.into k))) (of_lane k more)
        ∙ ap (λ t. of_lane k (s.feeds c) ++ t) (sym (of_lane-append k (s.queue (shape.into k)) more))

    -- one parcel of a file, seen by a lane
    one_parcel : (k q : Lane) (item : Item X) → is_file_queue plan q ≡ true → (of_lane k (record { lane = file_of q; item = item } ∷ []) ≡ []) ⊎ (s.put k ≡ [])
    one_parcel k q item e = elim (lane_tells (file_of q) k) [
      | inl t ↦ inr (stands.unput k (λ p there. nobody q e p (subst (λ z. IsIn z (shape.lanes p)) (sym t.1) there)))
      | inr t ↦ inl (ap (λ b. cond b (item ∷ []) []) t.0)
    ]

    coming : (k q : Lane) (b : Bool) → is_open plan read q ≡ b → (of_lane {X = X} k (cond b (record { lane = file_of q; item = end } ∷ []) []) ≡ []) ⊎ (s.put k ≡ [])
    coming k q false e = inl refl
    coming k q true e = one_parcel k q end (and_left _ _ e)

    awaits : Invariant shape ended (awaiting plan read s)
    awaits = record {
      within = stands.within;
      lane = λ c k ck. lane_more c k ck (to_come plan read (shape.into k)) (coming k (shape.into k) (is_open plan read (shape.into k)) refl);
      home = λ q. all_both _ (s.queue q) (to_come plan read q) (stands.home q) (come_home q (is_open plan read q) refl);
      fed = stands.fed;
      unput = stands.unput;
    }

    pub not_stuck : (capacity : ℕ) → 0 < capacity → IsFinished shape s ⊎ ((event : Event) × (is_enabled shape capacity (awaiting plan read s) event ≡ true))
    not_stuck capacity room =
        let fits = wired-is-plan plan wired in
        elim (never_stuck_at shape fits.is_net (are_players (net_of plan) fits) ended ended_files capacity room (awaiting plan read s) awaits) [
          | inl fin ↦ inl (record { ended = fin.ended; all_put = fin.all_put })
          | inr found ↦ inr found
        ]

    -- One more item is read.
    module _ (q : Lane) (item : Item X) (still : is_open plan read q ≡ true) where
      abbrev parcel : Parcel X
      parcel = record { lane = file_of q; item = item }

      is_file : is_file_queue plan q ≡ true
      is_file = and_left _ _ still

      not_true : (b : Bool) → not b ≡ true → b ≡ false
      not_true true h = absurd (true_false h refl)
      not_true false h = refl

      some_rows : of_lane (file_of q) (read q) ≡ map row (are.lists q)
      some_rows = elim (are.file q is_file) [
        | inl some ↦ some
        | inr all ↦ absurd (true_false (ap has_end all ∙ has_end-whole (are.lists q)) (not_true _ (and_right _ _ still)))
      ]

      abbrev Partly : Lane → List X → List (Parcel X) → Type 0
      Partly z xs parcels = (of_lane (file_of z) parcels ≡ map row xs) ⊎ (of_lane (file_of z) parcels ≡ whole xs)

      grown : (i : Item X) → (xs : List X) × Partly q xs (read q ++ record { lane = file_of q; item = i } ∷ [])
      grown (row x) = (are.lists q ++ x ∷ [], inl (at (row x) ∙ map-more (are.lists q) x))
        where
          at : (i : Item X) → of_lane (file_of q) (read q ++ record { lane = file_of q; item = i } ∷ []) ≡ map row (are.lists q) ++ i ∷ []
          at i = of_lane-append (file_of q) (read q) _ ∙ ap₂ (λ a b. a ++ cond b (i ∷ []) []) some_rows (tells_true lane_tells (file_of q) (file_of q) refl)
      grown end = (are.lists q, inr (at end))
        where
          at : (i : Item X) → of_lane (file_of q) (read q ++ record { lane = file_of q; item = i } ∷ []) ≡ map row (are.lists q) ++ i ∷ []
          at i = of_lane-append (file_of q) (read q) _ ∙ ap₂ (λ a b. a ++ cond b (i ∷ []) []) some_rows (tells_true lane_tells (file_of q) (file_of q) refl)

      same_place : (z : Lane) → z ≡ q → with_item read q item z ≡ read q ++ parcel ∷ []
      same_place z e = set_same lane_tells read q (read q ++ parcel ∷ []) z e

      other_place : (z : Lane) → (z ≡ q → ⊥) → with_item read q item z ≡ read z
      other_place z e = set_other lane_tells read q (read q ++ parcel ∷ []) z e

      abbrev lists_now : Lane → List X
      lists_now = set same_lane are.lists q (grown item).0

      pub now_read : AreRead plan (with_item read q item)
      now_read = record {
        lists = lists_now;
        file = λ z e. elim (lane_tells z q) [
          | inl t ↦ subst (λ ps. Partly z (lists_now z) ps) (sym (same_place z t.1)) (subst (λ xs. Partly z xs (read q ++ parcel ∷ [])) (sym (set_same lane_tells are.lists q (grown item).0 z t.1)) (subst (λ y. Partly y (grown item).0 (read q ++ parcel ∷ [])) (sym t.1) (grown item).1))
          | inr t ↦ subst (λ ps. Partly z (lists_now z) ps) (sym (other_place z t.1)) (subst (λ xs. Partly z xs (read z)) (sym (set_other lane_tells are.lists q (grown item).0 z t.1)) (are.file z e))
        ];
        others = λ z e. elim (lane_tells z q) [
          | inl t ↦ absurd (true_false (ap (is_file_queue plan) t.1 ∙ is_file) e)
          | inr t ↦ other_place z t.1 ∙ are.others z e
        ];
        home = λ z. elim (lane_tells z q) [
          | inl t ↦ subst (AllByRecursion (λ (x : Parcel X). x.lane ≡ file_of z)) (sym (same_place z t.1)) (subst (λ y. AllByRecursion (λ (x : Parcel X). x.lane ≡ file_of y) (read q ++ parcel ∷ [])) (sym t.1) (all_both _ (read q) (parcel ∷ []) (are.home q) (refl, tt)))
          | inr t ↦ subst (AllByRecursion (λ (x : Parcel X). x.lane ≡ file_of z)) (sym (other_place z t.1)) (are.home z)
        ];
      }

      abbrev now : State X
      now = record { feeds = s.feeds; put = s.put; held = s.held; queue = with_item s.queue q item }

      abbrev Given : Player → Lane → List (Parcel X) → List (Parcel X) → Type 0
      Given c k r w = of_lane k r ++ s.put k ≡ of_lane k (s.feeds c) ++ of_lane k w

      pub now_stands : Stands shape (with_item read q item) (record { feeds = s.feeds; put = s.put; held = s.held; queue = with_item s.queue q item })
      now_stands = record {
        within = stands.within;
        lane = λ c k ck. elim (lane_tells (shape.into k) q) [
          | inl t ↦ subst (λ r. Given c k r (now.queue (shape.into k))) (sym (same_place (shape.into k) t.1)) (subst (λ w. Given c k (read q ++ parcel ∷ []) w) (sym (set_same lane_tells s.queue q (s.queue q ++ parcel ∷ []) (shape.into k) t.1))
              (subst (λ y. Given c k (read y ++ parcel ∷ []) (s.queue y ++ parcel ∷ [])) t.1 (lane_more c k ck (parcel ∷ []) (one_parcel k q item is_file))))
          | inr t ↦ subst (λ r. Given c k r (now.queue (shape.into k))) (sym (other_place (shape.into k) t.1)) (subst (λ w. Given c k (read (shape.into k)) w) (sym (set_other lane_tells s.queue q (s.queue q ++ parcel ∷ []) (shape.into k) t.1)) (stands.lane c k ck))
        ];
        home = λ z. elim (lane_tells z q) [
          | inl t ↦ subst (AllByRecursion _) (sym (set_same lane_tells s.queue q (s.queue q ++ parcel ∷ []) z t.1)) (subst (λ y. AllByRecursion (λ (x : Parcel X). (shape.into x.lane ≡ y) × ((c : Player) × (shape.comes c x.lane ≡ true))) (s.queue q ++ parcel ∷ [])) (sym t.1)
              (all_both _ (s.queue q) (parcel ∷ []) (stands.home q) (home_of q is_file parcel refl, tt)))
          | inr t ↦ subst (AllByRecursion _) (sym (set_other lane_tells s.queue q (s.queue q ++ parcel ∷ []) z t.1)) (stands.home z)
        ];
        fed = stands.fed;
        unput = stands.unput;
      }

-- Each event leaves what stands: it does so where each file is about to end, and there it does the same.
all_left : {A : Type 0} (P : A → Type 0) (xs ys : List A) → AllByRecursion P (xs ++ ys) → AllByRecursion P xs
all_left P [] ys h = tt
all_left P (x ∷ xs) ys h = (h.0, all_left P xs ys h.1)

module _ {X F : Type 0} (plan : Plan X F) (wired : IsWired plan) (read : Lane → List (Parcel X)) (are : AreRead plan read) where
  -- what stands where each file is about to end, stands
  stripped : (t : State X) → Invariant (plan_shape plan) (λ q. read q ++ to_come plan read q) (awaiting plan read t) → Stands (plan_shape plan) read t
  stripped t inv = record {
    within = inv.within;
    lane = λ c k ck. lane_of c k ck;
    home = λ q. all_left _ (t.queue q) (to_come plan read q) (inv.home q);
    fed = inv.fed;
    unput = inv.unput;
  }
    where
      lane_of : (c : Player) (k : Lane) → (plan_shape plan).comes c k ≡ true → of_lane k (read ((plan_shape plan).into k)) ++ t.put k ≡ of_lane k (t.feeds c) ++ of_lane k (t.queue ((plan_shape plan).into k))
      lane_of c k ck = go (is_open plan read ((plan_shape plan).into k)) refl
        where
          given : of_lane k (read ((plan_shape plan).into k) ++ to_come plan read ((plan_shape plan).into k)) ++ t.put k ≡ of_lane k (t.feeds c) ++ of_lane k (t.queue ((plan_shape plan).into k) ++ to_come plan read ((plan_shape plan).into k))
          given = inv.lane c k ck

          parted : (of_lane k (read ((plan_shape plan).into k)) ++ of_lane k (to_come plan read ((plan_shape plan).into k))) ++ t.put k ≡ of_lane k (t.feeds c) ++ (of_lane k (t.queue ((plan_shape plan).into k)) ++ of_lane k (to_come plan read ((plan_shape plan).into k)))
          parted = ap (λ z. z ++ t.put k) (sym (of_lane-append k (read ((plan_shape plan).into k)) (to_come plan read ((plan_shape plan).into k)))) ∙ given ∙ ap (λ z. of_lane k (t.feeds c) ++ z) (of_lane-append k (t.queue ((plan_shape plan).into k)) (to_come plan read ((plan_shape plan).into k)))

          none : of_lane k (to_come plan read ((plan_shape plan).into k)) ≡ [] → of_lane k (read ((plan_shape plan).into k)) ++ t.put k ≡ of_lane k (t.feeds c) ++ of_lane k (t.queue ((plan_shape plan).into k))
          none e = ap (λ z. z ++ t.put k) (sym (ap (λ z. of_lane k (read ((plan_shape plan).into k)) ++ z) e ∙ append-nil _)) ∙ parted ∙ ap (λ z. of_lane k (t.feeds c) ++ z) (ap (λ z. of_lane k (t.queue ((plan_shape plan).into k)) ++ z) e ∙ append-nil _)

          one : of_lane k (to_come plan read ((plan_shape plan).into k)) ≡ end ∷ [] → t.put k ≡ [] → of_lane k (read ((plan_shape plan).into k)) ++ t.put k ≡ of_lane k (t.feeds c) ++ of_lane k (t.queue ((plan_shape plan).into k))
          one e unput = ap (λ z. of_lane k (read ((plan_shape plan).into k)) ++ z) unput ∙ append-nil _ ∙ append_cancel_right (of_lane k (read ((plan_shape plan).into k))) (of_lane k (t.feeds c) ++ of_lane k (t.queue ((plan_shape plan).into k))) (end ∷ [])
              (ap (λ z. of_lane k (read ((plan_shape plan).into k)) ++ z) (sym e) ∙ sym (append-nil _) ∙ ap (λ z. (of_lane k (read ((plan_shape plan).into k)) ++ of_lane k (to_come plan read ((plan_shape plan).into k))) ++ z) (sym unput) ∙ parted
              ∙ sym (append_assoc (of_lane k (t.feeds c)) (of_lane k (t.queue ((plan_shape plan).into k))) (of_lane k (to_come plan read ((plan_shape plan).into k)))) ∙ ap (λ z. (of_lane k (t.feeds c) ++ of_lane k (t.queue ((plan_shape plan).into k))) ++ z) e)

          go : (b : Bool) → is_open plan read ((plan_shape plan).into k) ≡ b → of_lane k (read ((plan_shape plan).into k)) ++ t.put k ≡ of_lane k (t.feeds c) ++ of_lane k (t.queue ((plan_shape plan).into k))
          go false e = none (ap (λ z. of_lane {X = X} k (cond z (record { lane = file_of ((plan_shape plan).into k); item = end } ∷ []) [])) e)
          go true e =
              let to : to_come plan read ((plan_shape plan).into k) ≡ record { lane = file_of ((plan_shape plan).into k); item = end } ∷ [] = ap (λ z. cond z (record { lane = file_of ((plan_shape plan).into k); item = end } ∷ []) []) e in
              elim (lane_tells (file_of ((plan_shape plan).into k)) k) [
                | inl same ↦ one (ap (of_lane k) to ∙ ap (λ z. cond z (end ∷ []) []) same.0) (inv.unput k (λ p there. nobody plan wired read are ((plan_shape plan).into k) (and_left _ _ e) p (subst (λ z. IsIn z ((plan_shape plan).lanes p)) (sym same.1) there)))
                | inr other ↦ none (ap (of_lane k) to ∙ ap (λ z. cond z (end ∷ []) []) other.0)
              ]

  -- an event does the same there
  same_queues : (s t : State X) (queue : Lane → List (Parcel X)) → ((q : Lane) → t.queue q ++ to_come plan read q ≡ queue q) → awaiting plan read t ≡ record { feeds = t.feeds; put = t.put; held = t.held; queue = queue }
  same_queues s t queue h = λ i. record { feeds = t.feeds; put = t.put; held = t.held; queue = λ q. h q i }

  set_more : (queues : Lane → List (Parcel X)) (q : Lane) (v w : List (Parcel X)) → v ++ to_come plan read q ≡ w → (z : Lane) → set same_lane queues q v z ++ to_come plan read z ≡ set same_lane (λ y. queues y ++ to_come plan read y) q w z
  set_more queues q v w e z = elim (lane_tells z q) [
    | inl t ↦ ap₂ (λ a b. a ++ to_come plan read b) (set_same lane_tells queues q v z t.1) t.1 ∙ e ∙ sym (set_same lane_tells (λ y. queues y ++ to_come plan read y) q w z t.1)
    | inr t ↦ ap (λ a. a ++ to_come plan read z) (set_other lane_tells queues q v z t.1) ∙ sym (set_other lane_tells (λ y. queues y ++ to_come plan read y) q w z t.1)
  ]

  module _ (s : State X) where
    abbrev full_state : State X
    full_state = awaiting plan read s

    take_same : (p : Player) (q : Lane) (queue : List (Parcel X)) → s.queue q ≡ queue → not (is_empty queue) ≡ true → awaiting plan read (taken_front s p q queue) ≡ taken_front full_state p q (queue ++ to_come plan read q)
    take_same p q [] e some = absurd (true_false some refl)
    take_same p q (f ∷ rest) e some = same_queues s (taken_front s p q (f ∷ rest)) (set same_lane full_state.queue q (rest ++ to_come plan read q)) (set_more s.queue q rest (rest ++ to_come plan read q) refl)

    put_more : (k : Lane) (m : Item X) (z : Lane) → to_come plan read ((plan_shape plan).into k) ≡ [] →
        set same_lane s.queue ((plan_shape plan).into k) (s.queue ((plan_shape plan).into k) ++ record { lane = k; item = m } ∷ []) z ++ to_come plan read z ≡ set same_lane full_state.queue ((plan_shape plan).into k) (full_state.queue ((plan_shape plan).into k) ++ record { lane = k; item = m } ∷ []) z
    put_more k m z none = set_more s.queue ((plan_shape plan).into k) _ _
        (ap (λ t. (s.queue ((plan_shape plan).into k) ++ record { lane = k; item = m } ∷ []) ++ t) none ∙ append-nil _ ∙ ap (λ t. t ++ record { lane = k; item = m } ∷ []) (sym (append-nil _) ∙ ap (λ t. s.queue ((plan_shape plan).into k) ++ t) (sym none))) z

    put_same : (k : Lane) (hs out : List (Item X)) → to_come plan read ((plan_shape plan).into k) ≡ [] → awaiting plan read (put_front (plan_shape plan) s k hs out) ≡ put_front (plan_shape plan) full_state k hs out
    put_same k [] [] none = refl
    put_same k [] (m ∷ ms) none = same_queues s (put_front (plan_shape plan) s k [] (m ∷ ms)) _ (λ z. put_more k m z none)
    put_same k (m ∷ ms) out none = same_queues s (put_front (plan_shape plan) s k (m ∷ ms) out) _ (λ z. put_more k m z none)

    hold_same : (k : Lane) (out : List (Item X)) → awaiting plan read (hold_front s k out) ≡ hold_front full_state k out
    hold_same k [] = refl
    hold_same k (m ∷ ms) = refl

    none_at : (p : Player) (k : Lane) → IsIn k ((plan_shape plan).lanes p) → to_come plan read ((plan_shape plan).into k) ≡ []
    none_at p k there = none_to_come plan wired read are ((plan_shape plan).into k) (no_queue plan wired read are p k there)

    some_more : (xs ys : List (Parcel X)) → not (is_empty xs) ≡ true → not (is_empty (xs ++ ys)) ≡ true
    some_more [] ys h = absurd (true_false h refl)
    some_more (x ∷ xs) ys h = refl

    done_same : (capacity : ℕ) (event : Event) → is_enabled (plan_shape plan) capacity s event ≡ true → (is_enabled (plan_shape plan) capacity full_state event ≡ true) × (awaiting plan read (done (plan_shape plan) s event) ≡ done (plan_shape plan) full_state event)
    done_same capacity (take p q) h =
        let some : not (is_empty (s.queue q)) ≡ true = and_left _ _ (and_right _ _ (and_right _ _ h)) in
        (and_true (and_left _ _ h) (and_true (and_left _ _ (and_right _ _ h)) (and_true (some_more (s.queue q) (to_come plan read q) some) (and_right (not (is_empty (s.queue q))) (Rattle.streams.specs.Core.is_caught_up (plan_shape plan) s p) (and_right ((plan_shape plan).wanted p (s.feeds p) q) (not (is_empty (s.queue q)) && Rattle.streams.specs.Core.is_caught_up (plan_shape plan) s p) (and_right (Rattle.streams.specs.Core.is_seated (plan_shape plan) p) _ h))))), take_same p q (s.queue q) refl some)
    done_same capacity (put p k) h =
        let there = any_in lane_tells k ((plan_shape plan).lanes p) (and_right _ _ (and_left _ _ h)) in
        let none = none_at p k there in (
          and_true (and_left _ _ h) (and_true (subst (λ t. Rattle.std.specs.Prelude.nat_lt (length t) capacity ≡ true) (sym (append-nil _) ∙ ap (λ t. s.queue ((plan_shape plan).into k) ++ t) (sym none)) (and_left _ _ (and_right _ _ h))) (and_right _ _ (and_right _ _ h))),
          put_same k (s.held k) (outstanding (plan_shape plan) s p k) none,
        )
    done_same capacity (hold p k) h = (h, hold_same k (outstanding (plan_shape plan) s p k))

    pub step_keeps : Stands (plan_shape plan) read s → (capacity : ℕ) (event : Event) → is_enabled (plan_shape plan) capacity s event ≡ true → Stands (plan_shape plan) read (done (plan_shape plan) s event)
    step_keeps stands capacity event h =
        let fits = wired-is-plan plan wired in
        let d = done_same capacity event h in
        let inv = Invariant-step (plan_shape plan) fits.is_net (are_players (net_of plan) fits) (λ q. read q ++ to_come plan read q) (ended_files plan wired read are) capacity full_state event (awaits plan wired read are s stands) in
        let now : step (plan_shape plan) capacity full_state event ≡ awaiting plan read (done (plan_shape plan) s event) = ap (λ b. cond b (done (plan_shape plan) full_state event) full_state) d.0 ∙ sym d.1 in
        stripped (done (plan_shape plan) s event) (subst (Invariant (plan_shape plan) (λ q. read q ++ to_come plan read q)) now inv)

    -- a finished state
    pub finished_legal : Stands (plan_shape plan) read s → IsFinished (plan_shape plan) s → IsLegal (net_of plan) (λ k. are.lists ((net_of plan).into k)) (λ k. rows (of_lane k (read ((net_of plan).into k)) ++ s.put k)) (λ p i. rows_of i (inner (net_of plan) p (s.feeds p))) (λ p. emits ((net_of plan).operator p) (inner (net_of plan) p (s.feeds p)))
    finished_legal stands fin = run-is-legal (net_of plan) (wired-is-plan plan wired) (λ k. are.lists ((net_of plan).into k)) s.feeds (λ k. of_lane k (read ((net_of plan).into k)) ++ s.put k) (record {
      fed = λ p seat. stands.fed p;
      ended = fin.ended;
      from_file = λ p k seat ck n. ap (λ t. of_lane k (read ((net_of plan).into k)) ++ t) (stands.unput k n) ∙ append-nil _ ∙ all_read p k seat ck n;
      from_lane = λ p k seat there. ap (λ t. of_lane k t ++ s.put k) (are.others ((net_of plan).into k) (no_queue plan wired read are p k there)) ∙ fin.all_put p k seat there;
      reached = λ p k seat ck. (of_lane k (s.queue ((net_of plan).into k)), stands.lane p k ck);
    })
      where
        all_read : (p : Player) (k : Lane) → IsIn p (net_of plan).players → (plan_shape plan).comes p k ≡ true → ((q : Player) → IsIn k ((net_of plan).lanes q) → ⊥) → of_lane k (read ((net_of plan).into k)) ≡ whole (are.lists ((net_of plan).into k))
        all_read p k seat ck n =
            let c = comes_is plan wired p k ck in
            let from_file = is_from_file plan wired p k c n (plan.wire k.link).file refl in
            let b : file_of ((net_of plan).into k) ≡ k = back plan wired p k c from_file in
            let given : of_lane k (read ((net_of plan).into k)) ≡ of_lane k (s.feeds p) ++ of_lane k (s.queue ((net_of plan).into k)) = sym (append-nil _) ∙ ap (λ t. of_lane k (read ((net_of plan).into k)) ++ t) (sym (stands.unput k n)) ∙ stands.lane p k ck in
            let over : has_end (of_lane k (read ((net_of plan).into k))) ≡ true = ap has_end given ∙ has_end-left (of_lane k (s.feeds p)) (of_lane k (s.queue ((net_of plan).into k))) (fin.ended p seat k ck) in
            elim (are.file ((net_of plan).into k) (is_queue plan wired p k ck c from_file)) [
              | inl some ↦ absurd (true_false over (ap (λ z. has_end (of_lane z (read ((net_of plan).into k)))) (sym b) ∙ ap has_end some ∙ no_end (are.lists ((net_of plan).into k))))
              | inr all ↦ ap (λ z. of_lane z (read ((net_of plan).into k))) (sym b) ∙ all
            ]

pub untold_step_keeps : {X F : Type 0} → UntoldStepKeeps X F
untold_step_keeps plan wired read are capacity s stands event h = step_keeps plan wired read are s stands capacity event h

pub untold_finished_is_legal : {X F : Type 0} → UntoldFinishedIsLegal X F
untold_finished_is_legal plan wired read are s stands fin = finished_legal plan wired read are s stands fin

pub untold_never_stuck : {X F : Type 0} → UntoldNeverStuck X F
untold_never_stuck plan wired read are capacity room s stands = not_stuck plan wired read are s stands capacity room

pub reading_keeps : {X F : Type 0} → ReadingKeeps X F
reading_keeps plan wired read are s stands q item still = (now_read plan wired read are s stands q item still, now_stands plan wired read are s stands q item still)

pub untold_begins : {X F : Type 0} → UntoldBegins X F
untold_begins plan wired =
    let fits = wired-is-plan plan wired in (
      record { lists = λ q. []; file = λ q e. inl refl; others = λ q e. refl; home = λ q. tt },
      record {
        within = λ p k there. ([], (are_players (net_of plan) fits).begins p (fits.is_net.has_lane p k there) k);
        lane = λ c k ck. refl;
        home = λ q. tt;
        fed = λ p. tt;
        unput = λ k n. refl;
      },
    )
