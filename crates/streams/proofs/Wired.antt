-- The net of an acyclic plan.
use Rattle.std.proofs.Common.{◌≡◌, ℕ, zero, suc, ◌+◌, ◌<◌, ◌≤◌, Bool, true, false, ◌&&◌, ◌||◌, cond, ◌⊎◌, inl, inr, refl, sym, ap, ap₂, ◌∙◌, subst, List, [], ◌∷◌, ◌++◌, map, arith}
use Rattle.std.specs.Prelude.{nat_lt}
use Rattle.std.specs.List.{flat_map}
use Rattle.std.proofs.lemmas.Bool.{lt-ltb, ltb-true}
use Rattle.std.proofs.lemmas.Bool.Decides.{eqb_tells}
use Rattle.streams.specs.Lists.{any_of, IsIn}
use Rattle.streams.specs.Streams.{IsCollector}
use Rattle.streams.specs.Core.{Player, Lane, same_player, same_lane, Forward, IsNet}
use Rattle.streams.specs.Plans.{Net, comes_to, shape_of, WantsAll, IsPlan}
use Rattle.streams.specs.Wiring.{Gather, shares, each, Plan, numbers_from, parts_of, all_players, players_of, alone, width, lanes_from, lane_at, gathered, queue_name, queue_names, net_of, IsGathering, GoesForward, Leaves, IsWired, WiredIsPlan}
use Rattle.streams.proofs.Basics.{player_tells, lane_tells, tells_true, any_in, in_any, and_true, and_left, and_right, or_right}
use Rattle.streams.proofs.StreamLaws.{true_false}
use Rattle.streams.proofs.Collectors.{any_collector, any_all}

in-numbers_from : (i k j : ℕ) → IsIn j (numbers_from i k) → (i ≤ j) × (j < i + k)
in-numbers_from i zero j h = absurd h
in-numbers_from i (suc k) j (inl e) = (omega (arith, e), omega (arith, e))
in-numbers_from i (suc k) j (inr h) = let r = in-numbers_from (suc i) k j h in (omega (arith, r.0), omega (arith, r.1))

numbers_from-in : (i k j : ℕ) → i ≤ j → j < i + k → IsIn j (numbers_from i k)
numbers_from-in i zero j l h = absurd (omega arith)
numbers_from-in i (suc k) j l h = elim (eqb_tells j i) [ inl t ↦ inl t.1 | inr t ↦ inr (numbers_from-in (suc i) k j (above i j l t.1) (omega arith)) ]
  where
    above : (i j : ℕ) → i ≤ j → (j ≡ i → ⊥) → suc i ≤ j
    above i j l n = grind arith

in-map : {A B : Type 0} (f : A → B) (xs : List A) (y : B) → IsIn y (map f xs) → (x : A) × IsIn x xs × (y ≡ f x)
in-map f [] y h = absurd h
in-map f (x ∷ xs) y (inl e) = (x, inl refl, e)
in-map f (x ∷ xs) y (inr h) = let r = in-map f xs y h in (r.0, inr r.1, r.2)

map-in : {A B : Type 0} (f : A → B) (xs : List A) (x : A) → IsIn x xs → IsIn (f x) (map f xs)
map-in f [] x h = absurd h
map-in f (y ∷ xs) x (inl e) = inl (ap f e)
map-in f (y ∷ xs) x (inr h) = inr (map-in f xs x h)

in-append : {A : Type 0} (xs ys : List A) (x : A) → IsIn x (xs ++ ys) → IsIn x xs ⊎ IsIn x ys
in-append [] ys x h = inr h
in-append (y ∷ xs) ys x (inl e) = inl (inl e)
in-append (y ∷ xs) ys x (inr h) = elim (in-append xs ys x h) [ inl i ↦ inl (inr i) | inr i ↦ inr i ]

append-left : {A : Type 0} (xs ys : List A) (x : A) → IsIn x xs → IsIn x (xs ++ ys)
append-left [] ys x h = absurd h
append-left (y ∷ xs) ys x (inl e) = inl e
append-left (y ∷ xs) ys x (inr h) = inr (append-left xs ys x h)

append-right : {A : Type 0} (xs ys : List A) (x : A) → IsIn x ys → IsIn x (xs ++ ys)
append-right [] ys x h = h
append-right (y ∷ xs) ys x h = inr (append-right xs ys x h)

in-flat : {A B : Type 0} (f : A → List B) (xs : List A) (y : B) → IsIn y (flat_map f xs) → (x : A) × IsIn x xs × IsIn y (f x)
in-flat f [] y h = absurd h
in-flat f (x ∷ xs) y h = elim (in-append (f x) (flat_map f xs) y h) [ inl i ↦ (x, inl refl, i) | inr i ↦ (let r = in-flat f xs y i in (r.0, inr r.1, r.2)) ]

flat-in : {A B : Type 0} (f : A → List B) (xs : List A) (x : A) (y : B) → IsIn x xs → IsIn y (f x) → IsIn y (flat_map f xs)
flat-in f [] x y h i = absurd h
flat-in f (z ∷ xs) x y (inl e) i = append-left (f z) (flat_map f xs) y (subst (λ w. IsIn y (f w)) e i)
flat-in f (z ∷ xs) x y (inr h) i = append-right (f z) (flat_map f xs) y (flat-in f xs x y h i)

in-cond : {A : Type 0} (b : Bool) (xs : List A) (x : A) → IsIn x (cond b xs []) → (b ≡ true) × IsIn x xs
in-cond true xs x h = (refl, h)
in-cond false xs x h = absurd h

same_lane_is : (l a b c d : ℕ) → a ≡ c → b ≡ d → ◌≡◌ {A = Lane} (record { link = l; from = a; to = b }) (record { link = l; from = c; to = d })
same_lane_is l a b c d e f = λ i. record { link = l; from = e i; to = f i }

module _ {X F : Type 0} (plan : Plan X F) (wired : IsWired plan) where
  net : Net X F
  net = net_of plan

  pub in-players : (order : List ℕ) (p : Player) → IsIn p (all_players plan order) → IsIn p.operator order × (p.partition < plan.degree p.operator)
  in-players [] p h = absurd h
  in-players (o ∷ order) p h = elim (in-append (parts_of o (numbers_from 0 (plan.degree o))) (all_players plan order) p h) [
    | inl i ↦ (let r = in-map (λ j. record { operator = o; partition = j }) (numbers_from 0 (plan.degree o)) p i in
        let c = in-numbers_from 0 (plan.degree o) r.0 r.1 in
        (inl (ap (λ (z : Player). z.operator) r.2), subst (λ (z : Player). z.partition < plan.degree z.operator) (sym r.2) (omega (arith, c.1))))
    | inr i ↦ (let r = in-players order p i in (inr r.0, r.1))
  ]

  pub players-in : (order : List ℕ) (o i : ℕ) → IsIn o order → i < plan.degree o → IsIn (record { operator = o; partition = i }) (all_players plan order)
  players-in [] o i h l = absurd h
  players-in (r ∷ order) o i (inl e) l = append-left (parts_of r (numbers_from 0 (plan.degree r))) (all_players plan order) _ (subst (λ z. IsIn (record { operator = o; partition = i }) (parts_of z (numbers_from 0 (plan.degree z)))) e (map-in (λ j. record { operator = o; partition = j }) (numbers_from 0 (plan.degree o)) i (numbers_from-in 0 (plan.degree o) i (omega arith) (omega (arith, l)))))
  players-in (r ∷ order) o i (inr h) l = append-right (parts_of r (numbers_from 0 (plan.degree r))) (all_players plan order) _ (players-in order o i h l)

  -- what a lane of a player is
  pub record LaneOf (p : Player) (k : Lane) : Type 0 where
    pub seat : IsIn p (players_of plan)
    pub link : IsIn k.link (plan.outs p.operator)
    pub from : k.from ≡ p.partition
    pub to : k.to < plan.degree (plan.wire k.link).into
    pub straight : (plan.wire k.link).straight ≡ true → k.to ≡ p.partition

  in_lanes_from : (p : Player) (l : ℕ) (k : Lane) → IsIn p (players_of plan) → IsIn l (plan.outs p.operator) → IsIn k (lanes_from plan p.partition l) → LaneOf p k
  in_lanes_from p l k seat out h = go (plan.wire l).straight refl h
    where
      sp : IsIn p.operator plan.order × (p.partition < plan.degree p.operator)
      sp = in-players plan.order p seat

      go : (b : Bool) → (plan.wire l).straight ≡ b → IsIn k (cond b (record { link = l; from = p.partition; to = p.partition } ∷ []) (map (λ j. record { link = l; from = p.partition; to = j }) (numbers_from 0 (plan.degree (plan.wire l).into)))) → LaneOf p k
      go true e (inl same) =
          let leaves = wired.outputs p.operator l (in-players plan.order p seat).0 out in
          record {
            seat = seat;
            link = subst (λ (z : Lane). IsIn z.link (plan.outs p.operator)) (sym same) out;
            from = ap (λ (z : Lane). z.from) same;
            to = subst (λ (z : Lane). z.to < plan.degree (plan.wire z.link).into) (sym same) (subst (λ n. p.partition < n) (leaves.straight e) (in-players plan.order p seat).1);
            straight = λ _. ap (λ (z : Lane). z.to) same;
          }
      go true e (inr h) = absurd h
      go false e h =
          let r = in-map (λ j. record { link = l; from = p.partition; to = j }) (numbers_from 0 (plan.degree (plan.wire l).into)) k h in
          record {
            seat = seat;
            link = subst (λ (z : Lane). IsIn z.link (plan.outs p.operator)) (sym r.2) out;
            from = ap (λ (z : Lane). z.from) r.2;
            to = subst (λ (z : Lane). z.to < plan.degree (plan.wire z.link).into) (sym r.2) (omega (arith, (in-numbers_from 0 (plan.degree (plan.wire l).into) r.0 r.1).1));
            straight = λ t. absurd (true_false (ap (λ (z : Lane). (plan.wire z.link).straight) (sym r.2) ∙ t) e);
          }

  lane_of : (p : Player) (k : Lane) → IsIn k ((net_of plan).lanes p) → LaneOf p k
  lane_of p k h =
      let c = in-cond (any_of (same_player p) (players_of plan)) (flat_map (lanes_from plan p.partition) (plan.outs p.operator)) k h in
      let r = in-flat (lanes_from plan p.partition) (plan.outs p.operator) k c.1 in
      in_lanes_from p r.0 k (any_in player_tells p (players_of plan) c.0) r.1 r.2

  -- a lane that leaves a partition
  pub lanes-in : (p : Player) (k : Lane) → IsIn p (players_of plan) → IsIn k.link (plan.outs p.operator) → k.from ≡ p.partition → k.to < plan.degree (plan.wire k.link).into → ((plan.wire k.link).straight ≡ true → k.to ≡ p.partition) → IsIn k ((net_of plan).lanes p)
  lanes-in p k seat out from to straight =
      subst (λ b. IsIn k (cond b (flat_map (lanes_from plan p.partition) (plan.outs p.operator)) [])) (sym (in_any player_tells p (players_of plan) seat))
      (flat-in (lanes_from plan p.partition) (plan.outs p.operator) k.link k out (go (plan.wire k.link).straight refl))
    where
      go : (b : Bool) → (plan.wire k.link).straight ≡ b → IsIn k (cond b (record { link = k.link; from = p.partition; to = p.partition } ∷ []) (map (λ j. record { link = k.link; from = p.partition; to = j }) (numbers_from 0 (plan.degree (plan.wire k.link).into))))
      go true e = inl (same_lane_is k.link k.from k.to p.partition p.partition from (straight e))
      go false e = subst (λ z. IsIn z (map (λ j. record { link = k.link; from = p.partition; to = j }) (numbers_from 0 (plan.degree (plan.wire k.link).into)))) (sym (same_lane_is k.link k.from k.to p.partition k.to from refl))
          (map-in (λ j. record { link = k.link; from = p.partition; to = j }) (numbers_from 0 (plan.degree (plan.wire k.link).into)) k.to (numbers_from-in 0 (plan.degree (plan.wire k.link).into) k.to (omega arith) (omega (arith, to))))

  -- what a lane that comes to a player is
  pub record ComesTo (p : Player) (k : Lane) : Type 0 where
    pub seat : IsIn p (players_of plan)
    pub port : (plan.wire k.link).port < (plan.stream p.operator).ports
    pub link : k.link ≡ plan.input p.operator (plan.wire k.link).port
    pub to : k.to ≡ p.partition
    pub from : alone (plan.wire k.link) ≡ true → k.from ≡ p.partition
    pub slot : cond (alone (plan.wire k.link)) 0 k.from < (gathered (plan.wire k.link).gather (width plan k.link)).ports

  comes_to_is : (p : Player) (k : Lane) → comes_to (net_of plan) p k ≡ true → ComesTo p k
  comes_to_is p k h =
      let l : ℕ = plan.input p.operator (plan.wire k.link).port in
      let r : (same_lane k (lane_at plan l p.partition (cond (alone (plan.wire k.link)) 0 k.from)) && (nat_lt (plan.wire k.link).port (plan.stream p.operator).ports && nat_lt (cond (alone (plan.wire k.link)) 0 k.from) (gathered (plan.wire l).gather (width plan l)).ports)) ≡ true = and_right _ _ h in
      let same : k ≡ lane_at plan l p.partition (cond (alone (plan.wire k.link)) 0 k.from) = tells_is k _ (and_left _ _ r) in
      let link : k.link ≡ l = ap (λ (z : Lane). z.link) same in
      record {
        seat = any_in player_tells p (players_of plan) (and_left _ _ h);
        port = ltb-true _ _ (and_left _ _ (and_right _ _ r));
        link = link;
        to = ap (λ (z : Lane). z.to) same;
        from = λ a. ap (λ (z : Lane). z.from) same ∙ ap (λ b. cond b p.partition (cond (alone (plan.wire k.link)) 0 k.from)) (ap (λ z. alone (plan.wire z)) (sym link) ∙ a);
        slot = subst (λ z. cond (alone (plan.wire k.link)) 0 k.from < (gathered (plan.wire z).gather (width plan z)).ports) (sym link) (ltb-true _ _ (and_right _ _ (and_right _ _ r)));
      }
    where
      tells_is : (a b : Lane) → same_lane a b ≡ true → a ≡ b
      tells_is a b h = elim (lane_tells a b) [ inl t ↦ t.1 | inr t ↦ absurd (true_false h t.0) ]

  -- where a link at an input port comes from
  origin_link : (seen order : List ℕ) → ((o : ℕ) → IsIn o seen → IsIn o plan.order) → ((o : ℕ) → IsIn o order → IsIn o plan.order) → GoesForward plan seen order → (o i : ℕ) → IsIn o order → i < (plan.stream o).ports →
      ((plan.wire (plan.input o i)).file ≡ true) ⊎ (IsIn (plan.wire (plan.input o i)).from plan.order × IsIn (plan.input o i) (plan.outs (plan.wire (plan.input o i)).from))
  origin_link seen [] sa oa f o i h lt = absurd h
  origin_link seen (r ∷ order) sa oa f o i (inr h) lt = origin_link (r ∷ seen) order (λ q j. elim j [ inl e ↦ oa q (inl e) | inr k ↦ sa q k ]) (λ q j. oa q (inr j)) f.2 o i h lt
  origin_link seen (r ∷ order) sa oa f o i (inl e) lt =
      subst (λ z. ((plan.wire (plan.input z i)).file ≡ true) ⊎ (IsIn (plan.wire (plan.input z i)).from plan.order × IsIn (plan.input z i) (plan.outs (plan.wire (plan.input z i)).from))) (sym e)
      (elim (f.0 i (subst (λ z. i < (plan.stream z).ports) e lt)) [ inl file ↦ inl file | inr n ↦ inr (sa _ n.0, n.1) ])

  pub from_where : (o i : ℕ) → IsIn o plan.order → i < (plan.stream o).ports → ((plan.wire (plan.input o i)).file ≡ true) ⊎ (IsIn (plan.wire (plan.input o i)).from plan.order × IsIn (plan.input o i) (plan.outs (plan.wire (plan.input o i)).from))
  from_where = origin_link [] plan.order (λ o h. absurd h) (λ o h. h) wired.forward

  pub some_lanes : (o i : ℕ) → IsIn o plan.order → i < (plan.stream o).ports → 0 < width plan (plan.input o i)
  some_lanes o i there lt = go (alone (plan.wire (plan.input o i))) refl (from_where o i there lt)
    where
      l : ℕ
      l = plan.input o i

      go : (b : Bool) → alone (plan.wire (plan.input o i)) ≡ b → ((plan.wire (plan.input o i)).file ≡ true) ⊎ (IsIn (plan.wire (plan.input o i)).from plan.order × IsIn (plan.input o i) (plan.outs (plan.wire (plan.input o i)).from)) → 0 < cond b 1 (plan.degree (plan.wire (plan.input o i)).from)
      go true e h = omega arith
      go false e (inl file) = absurd (true_false (ap (λ f. f || (plan.wire (plan.input o i)).straight) file) e)
      go false e (inr n) = wired.degrees _ n.0

  ports_are : (g : Gather X F) (n : ℕ) → IsGathering g → 0 < n → (gathered g n).ports ≡ n
  ports_are shares n h lt = refl
  ports_are (each c) n h lt = (h n lt).1

  collector_is : (g : Gather X F) (n : ℕ) → IsGathering g → 0 < n → IsCollector (gathered g n)
  collector_is shares n h lt = any_collector n lt
  collector_is (each c) n h lt = (h n lt).0

  ports_of : (p : Player) (i : ℕ) → IsIn p (players_of plan) → i < (plan.stream p.operator).ports → ((net_of plan).collector p i).ports ≡ width plan (plan.input p.operator i)
  ports_of p i seat lt = let o = (in-players plan.order p seat).0 in ports_are _ _ (wired.inputs p.operator i o lt).2 (some_lanes p.operator i o lt)

  -- the slot of a lane that comes, against the number of producers
  slot_below : (p : Player) (k : Lane) → ComesTo p k → cond (alone (plan.wire k.link)) 0 k.from < width plan k.link
  slot_below p k c =
      let o = (in-players plan.order p c.seat).0 in
      let is : (gathered (plan.wire k.link).gather (width plan k.link)).ports ≡ width plan k.link =
      subst (λ z. (gathered (plan.wire z).gather (width plan z)).ports ≡ width plan z) (sym c.link) (ports_of p (plan.wire k.link).port c.seat c.port) in
      subst (λ n. cond (alone (plan.wire k.link)) 0 k.from < n) is c.slot

  not_alone : (k : Lane) → (plan.wire k.link).file ≡ false → (plan.wire k.link).straight ≡ false → alone (plan.wire k.link) ≡ false
  not_alone k f s = ap₂ (λ a b. a || b) f s

  is_straight : (k : Lane) → (plan.wire k.link).straight ≡ true → alone (plan.wire k.link) ≡ true
  is_straight k s = or_right (plan.wire k.link).file s

  -- the producer of a lane that comes
  producer_of : (p : Player) (k : Lane) → ComesTo p k → IsIn (plan.wire k.link).from plan.order → IsIn k.link (plan.outs (plan.wire k.link).from) → (k.from < plan.degree (plan.wire k.link).from) × IsIn k ((net_of plan).lanes (record { operator = (plan.wire k.link).from; partition = k.from }))
  producer_of p k c there out =
      let leaves = wired.outputs (plan.wire k.link).from k.link there out in
      let sp = in-players plan.order p c.seat in
      let into_p : (plan.wire k.link).into ≡ p.operator = subst (λ z. (plan.wire z).into ≡ p.operator) (sym c.link) (wired.inputs p.operator (plan.wire k.link).port sp.0 c.port).0 in
      let below : k.from < plan.degree (plan.wire k.link).from = below_at leaves.no_file (slot_below p k c) (λ st. subst (λ n. k.from < n) (sym (leaves.straight st ∙ ap plan.degree into_p)) (subst (λ n. n < plan.degree p.operator) (sym (c.from (is_straight k st))) sp.1)) (plan.wire k.link).straight refl in (
        below,
        lanes-in (record { operator = (plan.wire k.link).from; partition = k.from }) k (players-in plan.order _ _ there below) out refl
            (subst (λ z. k.to < plan.degree z) (sym into_p) (subst (λ n. n < plan.degree p.operator) (sym c.to) sp.1))
            (λ st. c.to ∙ sym (c.from (is_straight k st))),
      )
    where
      below_at : (plan.wire k.link).file ≡ false → cond (alone (plan.wire k.link)) 0 k.from < width plan k.link → ((plan.wire k.link).straight ≡ true → k.from < plan.degree (plan.wire k.link).from) → (b : Bool) → (plan.wire k.link).straight ≡ b → k.from < plan.degree (plan.wire k.link).from
      below_at nf slot st true e = st e
      below_at nf slot st false e = subst (λ b. cond b 0 k.from < cond b 1 (plan.degree (plan.wire k.link).from)) (not_alone k nf e) slot

  no_producer : (p : Player) (k : Lane) → (plan.wire k.link).file ≡ true → (q : Player) → IsIn k ((net_of plan).lanes q) → ⊥
  no_producer p k file q h =
      let lo = lane_of q k h in
      true_false file (wired.outputs q.operator k.link (in-players plan.order q lo.seat).0 lo.link).no_file

  Fwd : List Player → List Player → Type 0
  Fwd seen players = Forward (shape_of (net_of plan)) seen players

  -- what was seen: the players of the operators that are done
  forward_parts : (o : ℕ) (done order : List ℕ) → IsIn o plan.order → (IsIn o done → ⊥) →
      ((i : ℕ) → i < (plan.stream o).ports → ((plan.wire (plan.input o i)).file ≡ true) ⊎ (IsIn (plan.wire (plan.input o i)).from done × IsIn (plan.input o i) (plan.outs (plan.wire (plan.input o i)).from))) →
      ((d : ℕ) → IsIn d done → IsIn d plan.order) →
      ((seen : List Player) → ((q : Player) → IsIn q.operator (o ∷ done) → q.partition < plan.degree q.operator → IsIn q seen) → ((q : Player) → IsIn q seen → IsIn q.operator (o ∷ done)) → Forward (shape_of (net_of plan)) seen (all_players plan order)) →
      (k i : ℕ) → i + k ≡ plan.degree o → (seen : List Player) → ((q : Player) → IsIn q.operator done → q.partition < plan.degree q.operator → IsIn q seen) → ((q : Player) → IsIn q seen → IsIn q.operator done ⊎ ((q.operator ≡ o) × (q.partition < i))) →
      ((j : ℕ) → j < i → IsIn (record { operator = o; partition = j }) seen) → Forward (shape_of (net_of plan)) seen (parts_of o (numbers_from i k) ++ all_players plan order)
  forward_parts o done order there new from known rest zero i full seen before only mine =
      rest seen (λ q h lt. elim h [ inl e ↦ subst (λ z. IsIn z seen) (λ t. record { operator = sym e t; partition = q.partition }) (mine q.partition (subst (λ n. q.partition < n) (sym (omega (arith, full))) (subst (λ z. q.partition < plan.degree z) e lt))) | inr d ↦ before q d lt ])
      (λ q h. elim (only q h) [ inl d ↦ inr d | inr e ↦ inl e.0 ])
  forward_parts o done order there new from known rest (suc k) i full seen before only mine =
      let p : Player = record { operator = o; partition = i } in (
        (λ lane ck.
            let c = comes_to_is p lane ck in
            elim (from (plan.wire lane.link).port c.port) [
              | inl file ↦ inl (no_producer p lane (ap (λ z. (plan.wire z).file) c.link ∙ file))
              | inr n ↦
                  let d : IsIn (plan.wire lane.link).from done = subst (λ z. IsIn (plan.wire z).from done) (sym c.link) n.0 in
                  let r = producer_of p lane c (known _ d) (subst (λ z. IsIn z (plan.outs (plan.wire z).from)) (sym c.link) n.1) in
                  inr (record { operator = (plan.wire lane.link).from; partition = lane.from }, before _ d r.0, r.1)
            ]),
        (λ h. elim (only p h) [ inl d ↦ new d | inr e ↦ absurd (omega (arith, e.1)) ]),
        forward_parts o done order there new from known rest k (suc i) (omega (arith, full)) (p ∷ seen) (λ q d lt. inr (before q d lt))
            (λ q h. elim h [ inl e ↦ inr (ap (λ (z : Player). z.operator) e, subst (λ (z : Player). z.partition < suc i) (sym e) (omega arith)) | inr j ↦ elim (only q j) [ inl d ↦ inl d | inr e ↦ inr (e.0, omega (arith, e.1)) ] ])
            (λ j lt. elim (eqb_tells j i) [ inl t ↦ inl (λ x. record { operator = o; partition = t.1 x }) | inr t ↦ inr (mine j (less j i lt t.1)) ]),
      )
    where
      less : (j i : ℕ) → j < suc i → (j ≡ i → ⊥) → j < i
      less j i lt n = grind arith

  forward_all : (done order : List ℕ) → ((d : ℕ) → IsIn d done → IsIn d plan.order) → ((o : ℕ) → IsIn o order → IsIn o plan.order) → GoesForward plan done order →
      (seen : List Player) → ((q : Player) → IsIn q.operator done → q.partition < plan.degree q.operator → IsIn q seen) → ((q : Player) → IsIn q seen → IsIn q.operator done) → Forward (shape_of (net_of plan)) seen (all_players plan order)
  forward_all done [] known all f seen before only = tt
  forward_all done (o ∷ order) known all f seen before only =
      forward_parts o done order (all o (inl refl)) f.1 f.0 known
      (forward_all (o ∷ done) order (λ d h. elim h [ inl e ↦ all d (inl e) | inr k ↦ known d k ]) (λ r h. all r (inr h)) f.2)
      (plan.degree o) 0 (omega arith) seen before (λ q h. inl (only q h)) (λ j lt. absurd (omega arith))

  -- the queue of a lane keeps its link and consumer
  name_link : (g : Gather X F) (k : Lane) → ((queue_name g k).link ≡ k.link) × ((queue_name g k).to ≡ k.to)
  name_link shares k = (refl, refl)
  name_link (each c) k = (refl, refl)

  queue_is : (g : Gather X F) (l partition : ℕ) (q : Lane) → IsIn q (queue_names plan g l partition) → (q.link ≡ l) × (q.to ≡ partition)
  queue_is shares l partition q (inl e) = (ap (λ (z : Lane). z.link) e, ap (λ (z : Lane). z.to) e)
  queue_is shares l partition q (inr h) = absurd h
  queue_is (each c) l partition q h = let r = in-map (lane_at plan l partition) (numbers_from 0 (width plan l)) q h in (ap (λ (z : Lane). z.link) r.2, ap (λ (z : Lane). z.to) r.2)

  queue_of_player : (p : Player) (q : Lane) → IsIn q ((net_of plan).queues p) → ((plan.wire q.link).into ≡ p.operator) × (q.to ≡ p.partition)
  queue_of_player p q h =
      let c = in-cond (any_of (same_player p) (players_of plan)) _ q h in
      let r = in-flat (λ i. queue_names plan (plan.wire (plan.input p.operator i)).gather (plan.input p.operator i) p.partition) (numbers_from 0 (plan.stream p.operator).ports) q c.1 in
      let n = queue_is (plan.wire (plan.input p.operator r.0)).gather (plan.input p.operator r.0) p.partition q r.2 in
      let o = (in-players plan.order p (any_in player_tells p (players_of plan) c.0)).0 in
      (ap (λ z. (plan.wire z).into) n.0 ∙ (wired.inputs p.operator r.0 o (omega (arith, (in-numbers_from 0 (plan.stream p.operator).ports r.0 r.1).1))).0, n.1)

  name_in : (g : Gather X F) (l partition : ℕ) (k : Lane) → k.link ≡ l → k.to ≡ partition → (alone (plan.wire l) ≡ true → k.from ≡ partition) → cond (alone (plan.wire l)) 0 k.from < width plan l → IsIn (queue_name g k) (queue_names plan g l partition)
  name_in shares l partition k link to from slot = inl (λ i. record { link = link i; from = 0; to = to i })
  name_in (each c) l partition k link to from slot =
      subst (λ z. IsIn z (map (lane_at plan l partition) (numbers_from 0 (width plan l)))) (sym (same (alone (plan.wire l)) refl))
      (map-in (lane_at plan l partition) (numbers_from 0 (width plan l)) (cond (alone (plan.wire l)) 0 k.from) (numbers_from-in 0 (width plan l) _ (omega arith) (omega (arith, slot))))
    where
      same : (b : Bool) → alone (plan.wire l) ≡ b → k ≡ lane_at plan l partition (cond (alone (plan.wire l)) 0 k.from)
      same true e = λ i. record { link = link i; from = (from e ∙ ap (λ b. cond b partition (cond (alone (plan.wire l)) 0 k.from)) (sym e)) i; to = to i }
      same false e = λ i. record { link = link i; from = (ap (λ b. cond b partition (cond b 0 k.from)) (sym e)) i; to = to i }

  arrives : (p : Player) (k : Lane) → LaneOf p k → (c : Player) × IsIn c (players_of plan) × (comes_to (net_of plan) c k ≡ true)
  arrives p k lo = (
    c,
    seat,
    and_true (in_any player_tells c (players_of plan) seat) (and_true (tells_true lane_tells k (lane_at plan back k.to slot) (λ i. record { link = sym leaves.input i; from = from_is i; to = k.to }))
        (and_true (lt-ltb _ _ leaves.port) (lt-ltb _ _ (subst (λ n. slot < n) (sym (ports_of c (plan.wire k.link).port seat leaves.port)) (subst (λ z. slot < width plan z) (sym leaves.input) slot_in))))),
  )
    where
      c : Player
      c = record { operator = (plan.wire k.link).into; partition = k.to }

      back : ℕ
      back = plan.input (plan.wire k.link).into (plan.wire k.link).port

      slot : ℕ
      slot = cond (alone (plan.wire k.link)) 0 k.from

      leaves : Leaves plan p.operator k.link
      leaves = wired.outputs p.operator k.link (in-players plan.order p lo.seat).0 lo.link

      seat : IsIn c (players_of plan)
      seat = players-in plan.order _ _ leaves.into lo.to

      from_is : k.from ≡ cond (alone (plan.wire back)) k.to slot
      from_is = by (plan.wire k.link).straight refl
        where
          by : (b : Bool) → (plan.wire k.link).straight ≡ b → k.from ≡ cond (alone (plan.wire (plan.input (plan.wire k.link).into (plan.wire k.link).port))) k.to (cond (alone (plan.wire k.link)) 0 k.from)
          by true e = lo.from ∙ sym (lo.straight e) ∙ ap (λ b. cond b k.to (cond (alone (plan.wire k.link)) 0 k.from)) (sym (ap (λ z. alone (plan.wire z)) (wired.outputs p.operator k.link (in-players plan.order p lo.seat).0 lo.link).input ∙ is_straight k e))
          by false e =
              let no : alone (plan.wire k.link) ≡ false = not_alone k (wired.outputs p.operator k.link (in-players plan.order p lo.seat).0 lo.link).no_file e in
              ap (λ b. cond b 0 k.from) (sym no) ∙ ap (λ b. cond b k.to (cond (alone (plan.wire k.link)) 0 k.from)) (sym (ap (λ z. alone (plan.wire z)) (wired.outputs p.operator k.link (in-players plan.order p lo.seat).0 lo.link).input ∙ no))

      slot_in : slot < width plan k.link
      slot_in = by (plan.wire k.link).straight refl
        where
          by : (b : Bool) → (plan.wire k.link).straight ≡ b → cond (alone (plan.wire k.link)) 0 k.from < width plan k.link
          by true e = subst (λ b. cond b 0 k.from < cond b 1 (plan.degree (plan.wire k.link).from)) (sym (is_straight k e)) (omega arith)
          by false e =
              let lv = wired.outputs p.operator k.link (in-players plan.order p lo.seat).0 lo.link in
              subst (λ b. cond b 0 k.from < cond b 1 (plan.degree (plan.wire k.link).from)) (sym (not_alone k lv.no_file e)) (subst (λ z. k.from < plan.degree z) (sym lv.from) (subst (λ n. n < plan.degree p.operator) (sym lo.from) (in-players plan.order p lo.seat).1))

  pub wired_net : IsNet (shape_of (net_of plan))
  wired_net = record {
    forward = forward_all [] plan.order (λ d h. absurd h) (λ o h. h) wired.forward [] (λ q h lt. absurd h) (λ q h. absurd h);
    has_lane = λ p k h. (lane_of p k h).seat;
    has_input = λ p k h. (comes_to_is p k h).seat;
    one_producer = λ p q k hp hq.
        let a = lane_of p k hp in
        let b = lane_of q k hq in
        let oa = (wired.outputs p.operator k.link (in-players plan.order p a.seat).0 a.link).from in
        let ob = (wired.outputs q.operator k.link (in-players plan.order q b.seat).0 b.link).from in
        λ i. record { operator = (sym oa ∙ ob) i; partition = (sym a.from ∙ b.from) i };
    reads = λ p k h.
        let c = comes_to_is p k h in
        let i : ℕ = (plan.wire k.link).port in
        let names : ℕ → List Lane = λ i. queue_names plan (plan.wire (plan.input p.operator i)).gather (plan.input p.operator i) p.partition in
        let here : IsIn (queue_name (plan.wire k.link).gather k) (queue_names plan (plan.wire k.link).gather k.link p.partition) = name_in (plan.wire k.link).gather k.link p.partition k refl c.to c.from (slot_below p k c) in
        subst (λ b. IsIn (queue_name (plan.wire k.link).gather k) (cond b (flat_map names (numbers_from 0 (plan.stream p.operator).ports)) [])) (sym (in_any player_tells p (players_of plan) c.seat))
        (flat-in names (numbers_from 0 (plan.stream p.operator).ports) i _ (numbers_from-in 0 (plan.stream p.operator).ports i (omega arith) (omega (arith, c.port))) (subst (λ z. IsIn (queue_name (plan.wire k.link).gather k) (queue_names plan (plan.wire z).gather z p.partition)) c.link here));
    one_reader = λ p r q hp hr.
        let a = queue_of_player p q hp in
        let b = queue_of_player r q hr in
        λ i. record { operator = (sym a.0 ∙ b.0) i; partition = (sym a.1 ∙ b.1) i };
    arrives = λ p k seat h. arrives p k (lane_of p k h);
  }

  pub wired_plan : IsPlan (net_of plan)
  wired_plan = record {
    is_net = wired_net;
    operators = λ p seat. wired.streams p.operator (in-players plan.order p seat).0;
    collectors = λ p seat i lt. let o = (in-players plan.order p seat).0 in collector_is _ _ (wired.inputs p.operator i o lt).2 (some_lanes p.operator i o lt);
    there = λ p seat i s lt ls. (
      (wired.inputs p.operator i (in-players plan.order p seat).0 lt).1,
      slot_is (plan.input p.operator i) (alone (plan.wire (plan.input p.operator i))) refl p.partition s (subst (λ n. s < n) (ports_of p i seat lt) ls),
    );
    shared = λ p k l ck cl e.
        let ln : k.link ≡ l.link = sym (name_link (plan.wire k.link).gather k).0 ∙ ap (λ (z : Lane). z.link) e ∙ (name_link (plan.wire l.link).gather l).0 in
        (ap (λ z. (plan.wire z).port) ln, shared_one p k l (comes_to_is p k ck) ln e (plan.wire k.link).gather refl);
  }
    where
      slot_is : (l : ℕ) (b : Bool) → alone (plan.wire l) ≡ b → (partition s : ℕ) → s < cond (alone (plan.wire l)) 1 (plan.degree (plan.wire l).from) → cond (alone (plan.wire l)) 0 (cond (alone (plan.wire l)) partition s) ≡ s
      slot_is l true e partition s lt = ap (λ b. cond b 0 (cond b partition s)) e ∙ zero_is s (subst (λ b. s < cond b 1 (plan.degree (plan.wire l).from)) e lt)
        where
          zero_is : (s : ℕ) → s < 1 → 0 ≡ s
          zero_is s lt = omega arith
      slot_is l false e partition s lt = ap (λ b. cond b 0 (cond b partition s)) e

      shared_one : (p : Player) (k l : Lane) → ComesTo p k → k.link ≡ l.link → queue_name (plan.wire k.link).gather k ≡ queue_name (plan.wire l.link).gather l → (g : Gather X F) → (plan.wire k.link).gather ≡ g →
          (k ≡ l) ⊎ WantsAll ((net_of plan).collector p (plan.wire k.link).port)
      shared_one p k l c ln e (each col) is = inl (ap (λ g. queue_name g k) (sym is) ∙ e ∙ ap (λ g. queue_name g l) (ap (λ z. (plan.wire z).gather) (sym ln) ∙ is))
      shared_one p k l c ln e shares is = inr (subst (λ z. WantsAll (gathered (plan.wire z).gather (width plan z))) c.link (subst (λ g. WantsAll (gathered g (width plan k.link))) (sym is) (any_all F (width plan k.link))))

pub wired-is-plan : {X F : Type 0} → WiredIsPlan X F
wired-is-plan plan wired = wired_plan plan wired
