-- The queues of a plan's files.
use Rattle.std.proofs.Common.{◌≡◌, ℕ, ◌<◌, Bool, true, false, ◌||◌, cond, ◌⊎◌, inl, inr, refl, sym, ap, ap₂, ◌∙◌, subst, List, [], ◌∷◌, ◌++◌, map}
use Rattle.std.specs.Prelude.{◌&&◌, nat_lt}
use Rattle.std.specs.List.{AllByRecursion, flat_map}
use Rattle.std.proofs.lemmas.Bool.{ltb-true}
use Rattle.streams.specs.Lists.{any_of, IsIn}
use Rattle.streams.specs.Streams.{Item, whole}
use Rattle.streams.specs.Core.{Player, Lane, same_player, same_lane, Parcel, of_lane}
use Rattle.streams.specs.Plans.{comes_to}
use Rattle.streams.specs.Wiring.{Gather, shares, each, Plan, numbers_from, players_of, alone, width, gathered, lanes_from, lane_at, net_of, queue_name, IsGathering, IsWired}
use Rattle.streams.proofs.Basics.{player_tells, lane_tells, tells_true, any_in, and_true, and_left, and_right}
use Rattle.streams.proofs.StreamLaws.{true_false}
use Rattle.streams.proofs.Wired.{in-players, players-in, lanes-in, from_where, some_lanes}
use Rattle.core_laws.specs.Driven.{plan_shape}
use Rattle.core_laws.specs.Files.{reader, file_of, is_file_queue, files_of, PlanFilesAre}

pub lane_is : (a b : Lane) → same_lane a b ≡ true → a ≡ b
lane_is a b h = elim (lane_tells a b) [ inl t ↦ t.1 | inr t ↦ absurd (true_false h t.0) ]

own_items : {X : Type 0} (k l : Lane) (items : List (Item X)) → l ≡ k → of_lane k (map (λ item. record { lane = l; item = item }) items) ≡ items
own_items k l [] e = refl
own_items k l (i ∷ items) e = ap (λ b. cond b (i ∷ of_lane k (map (λ item. record { lane = l; item = item }) items)) (of_lane k (map (λ item. record { lane = l; item = item }) items))) (tells_true lane_tells l k e) ∙ ap (λ t. i ∷ t) (own_items k l items e)

other_items : {X : Type 0} (k l : Lane) (items : List (Item X)) → same_lane l k ≡ false → of_lane k (map (λ item. record { lane = l; item = item }) items) ≡ []
other_items k l [] e = refl
other_items k l (i ∷ items) e = ap (λ b. cond b (i ∷ of_lane k (map (λ item. record { lane = l; item = item }) items)) (of_lane k (map (λ item. record { lane = l; item = item }) items))) e ∙ other_items k l items e

pub name_link : {X F : Type 0} (g : Gather X F) (k : Lane) → ((queue_name g k).link ≡ k.link) × ((queue_name g k).to ≡ k.to)
name_link shares k = (refl, refl)
name_link (each c) k = (refl, refl)

ports_are : {X F : Type 0} (g : Gather X F) (n : ℕ) → IsGathering g → 0 < n → (gathered g n).ports ≡ n
ports_are shares n h lt = refl
ports_are (each c) n h lt = (h n lt).1

either : {A : Type 0} (x : A) (xs ys : List A) → IsIn x (xs ++ ys) → IsIn x xs ⊎ IsIn x ys
either x [] ys i = inr i
either x (y ∷ xs) ys (inl e) = inl (inl e)
either x (y ∷ xs) ys (inr i) = elim (either x xs ys i) [ inl j ↦ inl (inr j) | inr j ↦ inr j ]

-- a lane of a player is of a link that leaves its operator
pub link_of : {X F : Type 0} (plan : Plan X F) (q : Player) (k : Lane) → IsIn k ((net_of plan).lanes q) → IsIn q (net_of plan).players × IsIn k.link (plan.outs q.operator)
link_of plan q k h = go (any_of (same_player q) (players_of plan)) refl h
  where
    mapped : (l : ℕ) (js : List ℕ) → IsIn k (map (λ j. record { link = l; from = q.partition; to = j }) js) → k.link ≡ l
    mapped l [] i = absurd i
    mapped l (j ∷ js) (inl e) = ap (λ (z : Lane). z.link) e
    mapped l (j ∷ js) (inr i) = mapped l js i

    one : (l : ℕ) (b : Bool) → IsIn k (cond b (record { link = l; from = q.partition; to = q.partition } ∷ []) (map (λ j. record { link = l; from = q.partition; to = j }) (numbers_from 0 (plan.degree (plan.wire l).into)))) → k.link ≡ l
    one l true (inl e) = ap (λ (z : Lane). z.link) e
    one l true (inr i) = absurd i
    one l false i = mapped l (numbers_from 0 (plan.degree (plan.wire l).into)) i

    some : (ls : List ℕ) → IsIn k (flat_map (lanes_from plan q.partition) ls) → IsIn k.link ls
    some [] i = absurd i
    some (l ∷ ls) i = elim (either k (lanes_from plan q.partition l) (flat_map (lanes_from plan q.partition) ls) i) [ inl j ↦ inl (one l (plan.wire l).straight j) | inr j ↦ inr (some ls j) ]

    go : (b : Bool) → any_of (same_player q) (players_of plan) ≡ b → IsIn k (cond b (flat_map (lanes_from plan q.partition) (plan.outs q.operator)) []) → IsIn q (net_of plan).players × IsIn k.link (plan.outs q.operator)
    go true e i = (any_in player_tells q (players_of plan) e, some (plan.outs q.operator) i)
    go false e i = absurd i

module _ {X F : Type 0} (plan : Plan X F) (wired : IsWired plan) where
  -- what a lane that comes to a player is
  pub record Comes (p : Player) (k : Lane) : Type 0 where
    pub seat : IsIn p (players_of plan)
    pub port : (plan.wire k.link).port < (plan.stream p.operator).ports
    pub link : k.link ≡ plan.input p.operator (plan.wire k.link).port
    pub to : k.to ≡ p.partition
    pub from : alone (plan.wire k.link) ≡ true → k.from ≡ p.partition
    pub slot : cond (alone (plan.wire k.link)) 0 k.from < (gathered (plan.wire k.link).gather (width plan k.link)).ports

  pub comes_is : (p : Player) (k : Lane) → comes_to (net_of plan) p k ≡ true → Comes p k
  comes_is p k h =
      let l : ℕ = plan.input p.operator (plan.wire k.link).port in
      let r : (same_lane k (lane_at plan l p.partition (cond (alone (plan.wire k.link)) 0 k.from)) && (nat_lt (plan.wire k.link).port (plan.stream p.operator).ports && nat_lt (cond (alone (plan.wire k.link)) 0 k.from) (gathered (plan.wire l).gather (width plan l)).ports)) ≡ true = and_right _ _ h in
      let same : k ≡ lane_at plan l p.partition (cond (alone (plan.wire k.link)) 0 k.from) = lane_is k _ (and_left _ _ r) in
      let link : k.link ≡ l = ap (λ (z : Lane). z.link) same in
      record {
        seat = any_in player_tells p (players_of plan) (and_left _ _ h);
        port = ltb-true _ _ (and_left _ _ (and_right _ _ r));
        link = link;
        to = ap (λ (z : Lane). z.to) same;
        from = λ a. ap (λ (z : Lane). z.from) same ∙ ap (λ b. cond b p.partition (cond (alone (plan.wire k.link)) 0 k.from)) (ap (λ z. alone (plan.wire z)) (sym link) ∙ a);
        slot = subst (λ z. cond (alone (plan.wire k.link)) 0 k.from < (gathered (plan.wire z).gather (width plan z)).ports) (sym link) (ltb-true _ _ (and_right _ _ (and_right _ _ r)));
      }

  -- its consumer, and its producer where it comes from no file
  into_is : (p : Player) (k : Lane) → Comes p k → (plan.wire k.link).into ≡ p.operator
  into_is p k c = subst (λ z. (plan.wire z).into ≡ p.operator) (sym c.link) (wired.inputs p.operator (plan.wire k.link).port (in-players plan wired plan.order p c.seat).0 c.port).0

  has_producer : (p : Player) (k : Lane) → Comes p k → (plan.wire k.link).file ≡ false → (q : Player) × IsIn k ((net_of plan).lanes q)
  has_producer p k c no_file = go (from_where plan wired p.operator (plan.wire k.link).port o c.port)
    where
      o : IsIn p.operator plan.order
      o = (in-players plan wired plan.order p c.seat).0

      low : k.to < plan.degree (plan.wire k.link).into
      low = subst (λ z. k.to < plan.degree z) (sym (into_is p k c)) (subst (λ n. n < plan.degree p.operator) (sym c.to) (in-players plan wired plan.order p c.seat).1)

      wide : (gathered (plan.wire k.link).gather (width plan k.link)).ports ≡ width plan k.link
      wide = subst (λ z. (gathered (plan.wire z).gather (width plan z)).ports ≡ width plan z) (sym c.link) (ports_are _ _ (wired.inputs p.operator (plan.wire k.link).port o c.port).2 (some_lanes plan wired p.operator (plan.wire k.link).port o c.port))

      from_low : IsIn (plan.wire k.link).from plan.order → IsIn k.link (plan.outs (plan.wire k.link).from) → (b : Bool) → (plan.wire k.link).straight ≡ b → k.from < plan.degree (plan.wire k.link).from
      from_low there out true e =
          let leaves = wired.outputs (plan.wire k.link).from k.link there out in
          subst (λ n. k.from < n) (sym (leaves.straight e ∙ ap plan.degree (into_is p k c))) (subst (λ n. n < plan.degree p.operator) (sym (c.from (ap₂ (λ x y. x || y) no_file e))) (in-players plan wired plan.order p c.seat).1)
      from_low there out false e = subst (λ b. cond b 0 k.from < cond b 1 (plan.degree (plan.wire k.link).from)) (ap₂ (λ x y. x || y) no_file e) (subst (λ n. cond (alone (plan.wire k.link)) 0 k.from < n) wide c.slot)

      go : ((plan.wire (plan.input p.operator (plan.wire k.link).port)).file ≡ true) ⊎ (IsIn (plan.wire (plan.input p.operator (plan.wire k.link).port)).from plan.order × IsIn (plan.input p.operator (plan.wire k.link).port) (plan.outs (plan.wire (plan.input p.operator (plan.wire k.link).port)).from)) → (q : Player) × IsIn k ((net_of plan).lanes q)
      go (inl file) = absurd (true_false (ap (λ z. (plan.wire z).file) c.link ∙ file) no_file)
      go (inr n) =
          let there : IsIn (plan.wire k.link).from plan.order = subst (λ z. IsIn (plan.wire z).from plan.order) (sym c.link) n.0 in
          let out : IsIn k.link (plan.outs (plan.wire k.link).from) = subst (λ z. IsIn z (plan.outs (plan.wire z).from)) (sym c.link) n.1 in
          let q : Player = record { operator = (plan.wire k.link).from; partition = k.from } in (
            q,
            lanes-in plan wired q k (players-in plan wired plan.order _ _ there (from_low there out (plan.wire k.link).straight refl)) out refl low
                (λ st. c.to ∙ sym (c.from (or_true (plan.wire k.link).file st))),
          )
        where
          or_true : (a : Bool) {b : Bool} → b ≡ true → (a || b) ≡ true
          or_true true h = refl
          or_true false h = h

  pub is_from_file : (p : Player) (k : Lane) → Comes p k → ((q : Player) → IsIn k ((net_of plan).lanes q) → ⊥) → (b : Bool) → (plan.wire k.link).file ≡ b → (plan.wire k.link).file ≡ true
  is_from_file p k c none true e = e
  is_from_file p k c none false e = let r = has_producer p k c e in absurd (none r.0 r.1)

  abbrev queue : Lane → Lane
  queue k = queue_name (plan.wire k.link).gather k

  -- a file's lane by its queue
  pub back : (p : Player) (k : Lane) → Comes p k → (plan.wire k.link).file ≡ true → file_of (queue k) ≡ k
  back p k c file =
      let n = name_link (plan.wire k.link).gather k in
      let same : k.to ≡ k.from = c.to ∙ sym (c.from (ap (λ b. b || (plan.wire k.link).straight) file)) in
      λ i. record { link = n.0 i; from = (n.1 ∙ same) i; to = n.1 i }

  reads : (p : Player) (k : Lane) → Comes p k → reader plan (queue k) ≡ p
  reads p k c =
      let n = name_link (plan.wire k.link).gather k in
      let operator : (plan.wire (queue k).link).into ≡ p.operator = ap (λ z. (plan.wire z).into) n.0 ∙ into_is p k c in
      λ i. record { operator = operator i; partition = (n.1 ∙ c.to) i }

  pub is_queue : (p : Player) (k : Lane) → comes_to (net_of plan) p k ≡ true → Comes p k → (plan.wire k.link).file ≡ true → is_file_queue plan (queue k) ≡ true
  is_queue p k ck c file =
      let b = back p k c file in
      and_true (ap (λ z. (plan.wire z).file) (name_link (plan.wire k.link).gather k).0 ∙ file)
      (and_true (ap₂ (λ r l. comes_to (net_of plan) r l) (reads p k c) b ∙ ck) (tells_true lane_tells _ _ (ap (net_of plan).into b)))

  own_file : (lists : Lane → List X) (p : Player) (k : Lane) → comes_to (net_of plan) p k ≡ true → ((q : Player) → IsIn k ((net_of plan).lanes q) → ⊥) → of_lane k (files_of plan lists (queue k)) ≡ whole (lists k)
  own_file lists p k ck none =
      let c = comes_is p k ck in
      let file = is_from_file p k c none (plan.wire k.link).file refl in
      let b = back p k c file in
      ap (λ t. of_lane k (cond t (map (λ item. record { lane = file_of (queue k); item = item }) (whole (lists (file_of (queue k))))) [])) (is_queue p k ck c file)
      ∙ own_items k (file_of (queue k)) (whole (lists (file_of (queue k)))) b ∙ ap (λ z. whole (lists z)) b

  -- a lane of a player is not that of a file
  not_file : (lists : Lane → List X) (p : Player) (k : Lane) → IsIn k ((net_of plan).lanes p) → (b : Bool) → is_file_queue plan (queue k) ≡ b → (plan.wire k.link).file ≡ false → of_lane k (cond b (map (λ item. record { lane = file_of (queue k); item = item }) (whole (lists (file_of (queue k))))) []) ≡ []
  not_file lists p k there false e no_file = refl
  not_file lists p k there true e no_file = absurd (true_false (ap (λ z. (plan.wire z).file) (sym (name_link (plan.wire k.link).gather k).0) ∙ and_left _ _ e) no_file)

  at_home : (lists : Lane → List X) (q : Lane) (items : List (Item X)) → is_file_queue plan q ≡ true → AllByRecursion (λ (parcel : Parcel X). ((plan_shape plan).into parcel.lane ≡ q) × ((c : Player) × ((plan_shape plan).comes c parcel.lane ≡ true))) (map (λ item. record { lane = file_of q; item = item }) items)
  at_home lists q [] e = tt
  at_home lists q (i ∷ items) e = ((lane_is _ _ (and_right _ _ (and_right _ _ e)), (reader plan q, and_left _ _ (and_right _ _ e))), at_home lists q items e)

  home : (lists : Lane → List X) (q : Lane) (b : Bool) → is_file_queue plan q ≡ b → AllByRecursion (λ (parcel : Parcel X). ((plan_shape plan).into parcel.lane ≡ q) × ((c : Player) × ((plan_shape plan).comes c parcel.lane ≡ true))) (cond b (map (λ item. record { lane = file_of q; item = item }) (whole (lists (file_of q)))) [])
  home lists q true e = at_home lists q (whole (lists (file_of q))) e
  home lists q false e = tt

pub plan_files_are : {X F : Type 0} → PlanFilesAre X F
plan_files_are plan wired lists = (
  record {
    lists = lists;
    file = λ p k ck none. own_file plan wired lists p k ck none;
    others = λ p k there. not_file plan wired lists p k there (is_file_queue plan (queue_name (plan.wire k.link).gather k)) refl (leaves p k there);
    home = λ q. home plan wired lists q (is_file_queue plan q) refl;
  },
  refl,
)
  where
    leaves : (p : Player) (k : Lane) → IsIn k ((net_of plan).lanes p) → (plan.wire k.link).file ≡ false
    leaves p k there =
        let r = link_of plan p k there in
        (wired.outputs p.operator k.link (in-players plan wired plan.order p r.0).0 r.1).no_file
