-- The players of a plan are players of a net.
use Rattle.std.proofs.Common.{◌≡◌, ℕ, suc, ◌+◌, ◌<◌, ◌==◌, Bool, true, false, ◌&&◌, cond, ◌⊎◌, inl, inr, refl, sym, ap, ap₂, ◌∙◌, subst, List, [], ◌∷◌, ◌++◌, length, map, append_assoc, append-nil, arith}
use Rattle.std.specs.Prelude.{nat_lt}
use Rattle.std.proofs.lemmas.Bool.{lt-ltb, ltb-true}
use Rattle.std.proofs.lemmas.Bool.Decides.{eqb_tells}
use Rattle.streams.specs.Lists.{IsIn}
use Rattle.streams.specs.Streams.{Item, row, end, Feed, Out, sends, fails, Stream, has_end, items_of, ended, all_below, any_below, all_ended, emits_after, emits, Fed, AtMostOne, IsCollector, on, rows_out}
use Rattle.streams.specs.Core.{Player, Lane, same_lane, Parcel, of_lane, HasEnded, WasFedAfter, WasFed, Waits, ArePlayers}
use Rattle.streams.specs.Plans.{Net, sent, of_port, handed, pass_by, pass, inner_after, inner, wants_queue, owed, comes_to, shape_of, IsPlan}
use Rattle.streams.proofs.Basics.{lane_tells, player_tells, in_any, tells_true, and_true, and_left, and_right}
use Rattle.streams.proofs.Kept.{fed-snoc, whole-end, has_end-left}
use Rattle.streams.proofs.StreamLaws.{emits-append, fed-more, items-append, eq_true, eq_false, all_at, all_from, any_at, any_from, true_false, not_all, wants_open, map-append, no_end, on-append, rows_out-append}

same_true : (a b : Lane) → same_lane a b ≡ true → a ≡ b
same_true a b h = elim (lane_tells a b) [ inl t ↦ t.1 | inr t ↦ absurd (true_false h t.0) ]

pub inner-append : {X F : Type 0} (net : Net X F) (p : Player) (done xs ys : List (Parcel X)) → inner_after net p done (xs ++ ys) ≡ inner_after net p done xs ++ inner_after net p (done ++ xs) ys
inner-append net p done [] ys = ap (λ d. inner_after net p d ys) (sym (append-nil done))
inner-append net p done (x ∷ xs) ys =
    ap (λ t. pass net p done x ++ t) (inner-append net p (done ++ x ∷ []) xs ys) ∙ sym (append_assoc (pass net p done x) _ _)
    ∙ ap (λ d. (pass net p done x ++ inner_after net p (done ++ x ∷ []) xs) ++ inner_after net p d ys) (append_assoc done (x ∷ []) xs)

pub inner-more : {X F : Type 0} (net : Net X F) (p : Player) (feeds : List (Parcel X)) (f : Parcel X) → inner net p (feeds ++ f ∷ []) ≡ inner net p feeds ++ pass net p feeds f
inner-more net p feeds f = inner-append net p [] feeds (f ∷ []) ∙ ap (λ t. inner net p feeds ++ t) (append-nil _)

of_port-append : {X F : Type 0} (net : Net X F) (i : ℕ) (xs ys : List (Parcel X)) → of_port net i (xs ++ ys) ≡ of_port net i xs ++ of_port net i ys
of_port-append net i [] ys = refl
of_port-append {X} net i (x ∷ xs) ys = go (net.port x.lane == i) (of_port-append net i xs ys)
  where
    g : Feed X
    g = record { port = net.slot x.lane; item = x.item }

    go : (b : Bool) → of_port net i (xs ++ ys) ≡ of_port net i xs ++ of_port net i ys → cond b (record { port = net.slot x.lane; item = x.item } ∷ of_port net i (xs ++ ys)) (of_port net i (xs ++ ys)) ≡ cond b (record { port = net.slot x.lane; item = x.item } ∷ of_port net i xs) (of_port net i xs) ++ of_port net i ys
    go true h = ap (λ t. record { port = net.slot x.lane; item = x.item } ∷ t) h
    go false h = h

of_port-here : {X F : Type 0} (net : Net X F) (i : ℕ) (xs : List (Parcel X)) (f : Parcel X) → net.port f.lane ≡ i → of_port net i (xs ++ f ∷ []) ≡ of_port net i xs ++ record { port = net.slot f.lane; item = f.item } ∷ []
of_port-here net i xs f e = of_port-append net i xs (f ∷ []) ∙ ap (λ b. of_port net i xs ++ cond b (record { port = net.slot f.lane; item = f.item } ∷ []) []) (eq_true (net.port f.lane) i e)

of_port-there : {X F : Type 0} (net : Net X F) (i : ℕ) (xs : List (Parcel X)) (f : Parcel X) → (net.port f.lane ≡ i → ⊥) → of_port net i (xs ++ f ∷ []) ≡ of_port net i xs
of_port-there net i xs f n = of_port-append net i xs (f ∷ []) ∙ ap (λ b. of_port net i xs ++ cond b (record { port = net.slot f.lane; item = f.item } ∷ []) []) (eq_false (net.port f.lane) i n) ∙ append-nil _

-- what came to a lane
pub record Comes {X F : Type 0} (net : Net X F) (p : Player) (k : Lane) : Type 0 where
  pub at : k ≡ net.at p (net.port k) (net.slot k)
  pub port : net.port k < (net.operator p).ports
  pub slot : net.slot k < (net.collector p (net.port k)).ports

pub comes_is : {X F : Type 0} (net : Net X F) (p : Player) (k : Lane) → comes_to net p k ≡ true → Comes net p k
comes_is net p k h = let r : (same_lane k (net.at p (net.port k) (net.slot k)) && (nat_lt (net.port k) (net.operator p).ports && nat_lt (net.slot k) (net.collector p (net.port k)).ports)) ≡ true = and_right _ _ h in record { at = same_true k (net.at p (net.port k) (net.slot k)) (and_left _ _ r); port = ltb-true _ _ (and_left _ _ (and_right _ _ r)); slot = ltb-true _ _ (and_right _ _ (and_right _ _ r)) }

pub comes_at : {X F : Type 0} (net : Net X F) → IsPlan net → (p : Player) → IsIn p net.players → (i s : ℕ) → i < (net.operator p).ports → s < (net.collector p i).ports → comes_to net p (net.at p i s) ≡ true
comes_at net plan p seat i s li ls =
    let t = plan.there p seat i s li ls in
    and_true (in_any player_tells p net.players seat) (and_true (tells_true lane_tells (net.at p i s) _ (ap₂ (λ a b. net.at p a b) (sym t.0) (sym t.1)))
    (and_true (lt-ltb _ _ (subst (λ z. z < (net.operator p).ports) (sym t.0) li)) (lt-ltb _ _ (subst (λ z. z < (net.collector p (net.port (net.at p i s))).ports) (sym t.1) (subst (λ z. s < (net.collector p z).ports) (sym t.0) ls)))))

-- a lane's items, among what the collector of its port was fed
pub lane_items : {X F : Type 0} (net : Net X F) → IsPlan net → (p : Player) (k : Lane) → comes_to net p k ≡ true → (before feeds : List (Parcel X)) → WasFedAfter (shape_of net) p before feeds →
    items_of (net.slot k) (of_port net (net.port k) feeds) ≡ of_lane k feeds
lane_items net plan p k ck before [] h = refl
lane_items {X} net plan p k ck before (f ∷ feeds) h = go (lane_items net plan p k ck (before ++ f ∷ []) feeds h.3) (lane_tells f.lane k) (eqb_tells (net.port f.lane) (net.port k))
  where
    rest : List (Feed X)
    rest = of_port net (net.port k) feeds

    go : items_of (net.slot k) (of_port net (net.port k) feeds) ≡ of_lane k feeds →
        ((same_lane f.lane k ≡ true) × (f.lane ≡ k)) ⊎ ((same_lane f.lane k ≡ false) × (f.lane ≡ k → ⊥)) →
        (((net.port f.lane == net.port k) ≡ true) × (net.port f.lane ≡ net.port k)) ⊎ (((net.port f.lane == net.port k) ≡ false) × (net.port f.lane ≡ net.port k → ⊥)) →
        items_of (net.slot k) (cond (net.port f.lane == net.port k) (record { port = net.slot f.lane; item = f.item } ∷ of_port net (net.port k) feeds) (of_port net (net.port k) feeds)) ≡ cond (same_lane f.lane k) (f.item ∷ of_lane k feeds) (of_lane k feeds)
    go ih (inl t) (inl u) =
        ap (λ b. items_of (net.slot k) (cond b (record { port = net.slot f.lane; item = f.item } ∷ of_port net (net.port k) feeds) (of_port net (net.port k) feeds))) u.0
        ∙ ap (λ b. cond b (f.item ∷ items_of (net.slot k) (of_port net (net.port k) feeds)) (items_of (net.slot k) (of_port net (net.port k) feeds))) (eq_true (net.slot f.lane) (net.slot k) (ap net.slot t.1))
        ∙ ap (λ z. f.item ∷ z) ih ∙ sym (ap (λ b. cond b (f.item ∷ of_lane k feeds) (of_lane k feeds)) t.0)
    go ih (inl t) (inr u) = absurd (u.1 (ap net.port t.1))
    go ih (inr t) (inr u) =
        ap (λ b. items_of (net.slot k) (cond b (record { port = net.slot f.lane; item = f.item } ∷ of_port net (net.port k) feeds) (of_port net (net.port k) feeds))) u.0 ∙ ih ∙ sym (ap (λ b. cond b (f.item ∷ of_lane k feeds) (of_lane k feeds)) t.0)
    go ih (inr t) (inl u) =
        let differ : net.slot f.lane ≡ net.slot k → ⊥ = λ e. t.1 ((comes_is net p f.lane h.0).at ∙ ap₂ (λ a b. net.at p a b) u.1 e ∙ sym (comes_is net p k ck).at) in
        ap (λ b. items_of (net.slot k) (cond b (record { port = net.slot f.lane; item = f.item } ∷ of_port net (net.port k) feeds) (of_port net (net.port k) feeds))) u.0
        ∙ ap (λ b. cond b (f.item ∷ items_of (net.slot k) (of_port net (net.port k) feeds)) (items_of (net.slot k) (of_port net (net.port k) feeds))) (eq_false (net.slot f.lane) (net.slot k) differ)
        ∙ ih ∙ sym (ap (λ b. cond b (f.item ∷ of_lane k feeds) (of_lane k feeds)) t.0)

-- What the parts of a player were fed: each what it wanted, and the operator what the collectors emitted, with their ends.
pub record Stands {X F : Type 0} (net : Net X F) (p : Player) (feeds : List (Parcel X)) : Type 0 where
  pub operator_fed : Fed (net.operator p) (inner net p feeds)
  pub port_fed : (i : ℕ) → i < (net.operator p).ports → Fed (net.collector p i) (of_port net i feeds)
  pub passed : (i : ℕ) → i < (net.operator p).ports → items_of i (inner net p feeds) ≡ map row (rows_out (emits (net.collector p i) (of_port net i feeds))) ++ cond (all_ended (net.collector p i) (of_port net i feeds)) (end ∷ []) []

-- what a collector hands over for one feed
data Passes {X F : Type 0} (c : Stream X F) (done : List (Feed X)) (g : Feed X) : Type 0 where
  none : c.gives done g ≡ [] → all_ended c (done ++ g ∷ []) ≡ false → Passes c done g
  one : (port : ℕ) (x : X) → c.gives done g ≡ sends port x ∷ [] → all_ended c (done ++ g ∷ []) ≡ false → Passes c done g
  closes : c.gives done g ≡ [] → all_ended c (done ++ g ∷ []) ≡ true → Passes c done g

passes : {X F : Type 0} (c : Stream X F) → IsCollector c → (done : List (Feed X)) (g : Feed X) → Fed c done → c.wants done g.port ≡ true → Passes c done g
passes {X} {F} c is done g fed w = go (c.gives done g) refl (all_ended c (done ++ g ∷ [])) refl
  where
    go : (outs : List (Out X F)) → c.gives done g ≡ outs → (b : Bool) → all_ended c (done ++ g ∷ []) ≡ b → Passes c done g
    go outs e true h = closes (is.ends_bare done g fed w h) h
    go [] e false h = none e h
    go (sends port x ∷ []) e false h = one port x e h
    go (sends port x ∷ (q ∷ outs)) e false h = absurd (subst AtMostOne e (is.slim done g fed w))
    go (fails fault ∷ outs) e false h = absurd (subst AtMostOne e (is.slim done g fed w))

has_end-right : {X : Type 0} (xs ys : List (Item X)) → has_end ys ≡ true → has_end (xs ++ ys) ≡ true
has_end-right [] ys h = h
has_end-right (row x ∷ xs) ys h = has_end-right xs ys h
has_end-right (end ∷ xs) ys h = refl

no_rows_last : {X : Type 0} (xs : List X) (ys zs : List (Item X)) → map row xs ≡ ys ++ zs → has_end ys ≡ true → zs ≡ []
no_rows_last xs ys zs e h = absurd (true_false (has_end-left ys zs h) (ap has_end (sym e) ∙ no_end xs))

end_is_last : {X : Type 0} (xs : List X) (b : Bool) (ys zs : List (Item X)) → map row xs ++ cond b (end ∷ []) [] ≡ ys ++ zs → has_end ys ≡ true → zs ≡ []
end_is_last xs true ys zs e h = whole-end xs ys zs e h
end_is_last xs false ys zs e h = no_rows_last xs ys zs (sym (append-nil _) ∙ e) h

pub due-end : {X F : Type 0} (net : Net X F) (p : Player) (k : Lane) (feeds : List (Parcel X)) (xs ys : List (Item X)) → owed net p k feeds ≡ xs ++ ys → has_end xs ≡ true → ys ≡ []
due-end net p k feeds xs ys e h = end_is_last (sent (net.goes k) 0 (on (net.out k) (emits (net.operator p) (inner net p feeds)))) (all_ended (net.operator p) (inner net p feeds)) xs ys e h

module _ {X F : Type 0} (net : Net X F) (plan : IsPlan net) (p : Player) (seat : IsIn p net.players) where
  -- a port that was handed one item or none
  handed_fed : (i : ℕ) (c : Stream X F) (done : List (Feed X)) (g : Feed X) (before : List (Feed X)) → Fed (net.operator p) before → (net.operator p).wants before i ≡ true → Passes c done g → Fed (net.operator p) (before ++ pass_by c i done g)
  handed_fed i c done g before fed w (none e h) = subst (Fed (net.operator p)) (sym (ap (λ t. before ++ t) (ap₂ (λ outs b. handed i outs ++ cond b (record { port = i; item = end } ∷ []) []) e h) ∙ append-nil before)) fed
  handed_fed i c done g before fed w (one port x e h) = subst (λ t. Fed (net.operator p) (before ++ t)) (sym (ap₂ (λ outs b. handed i outs ++ cond b (record { port = i; item = end } ∷ []) []) e h)) (fed-more (net.operator p) [] before (record { port = i; item = row x }) fed w)
  handed_fed i c done g before fed w (closes e h) = subst (λ t. Fed (net.operator p) (before ++ t)) (sym (ap₂ (λ outs b. handed i outs ++ cond b (record { port = i; item = end } ∷ []) []) e h)) (fed-more (net.operator p) [] before (record { port = i; item = end }) fed w)

  handed_items : (i : ℕ) (outs : List (Out X F)) → items_of i (handed i outs) ≡ map row (rows_out outs)
  handed_items i [] = refl
  handed_items i (sends port x ∷ outs) = ap (λ b. cond b (row x ∷ items_of i (handed i outs)) (items_of i (handed i outs))) (eq_true i i refl) ∙ ap (λ t. row x ∷ t) (handed_items i outs)
  handed_items i (fails fault ∷ outs) = handed_items i outs

  handed_others : (i j : ℕ) (outs : List (Out X F)) → (i ≡ j → ⊥) → items_of j (handed i outs) ≡ []
  handed_others i j [] n = refl
  handed_others i j (sends port x ∷ outs) n = ap (λ b. cond b (row x ∷ items_of j (handed i outs)) (items_of j (handed i outs))) (eq_false i j n) ∙ handed_others i j outs n
  handed_others i j (fails fault ∷ outs) n = handed_others i j outs n

  end_items : (i : ℕ) (b : Bool) → items_of {X = X} i (cond b (record { port = i; item = end } ∷ []) []) ≡ cond b (end ∷ []) []
  end_items i true = ap (λ b. cond b (end ∷ []) []) (eq_true i i refl)
  end_items i false = refl

  end_others : (i j : ℕ) (b : Bool) → (i ≡ j → ⊥) → items_of {X = X} j (cond b (record { port = i; item = end } ∷ []) []) ≡ []
  end_others i j true n = ap (λ b. cond b (end ∷ []) []) (eq_false i j n)
  end_others i j false n = refl

  pass_items : (i : ℕ) (c : Stream X F) (done : List (Feed X)) (g : Feed X) → items_of i (pass_by c i done g) ≡ map row (rows_out (c.gives done g)) ++ cond (all_ended c (done ++ g ∷ [])) (end ∷ []) []
  pass_items i c done g = items-append i (handed i (c.gives done g)) _ ∙ ap₂ (λ a b. a ++ b) (handed_items i (c.gives done g)) (end_items i (all_ended c (done ++ g ∷ [])))

  pass_others : (i j : ℕ) (c : Stream X F) (done : List (Feed X)) (g : Feed X) → (i ≡ j → ⊥) → items_of j (pass_by c i done g) ≡ []
  pass_others i j c done g n = items-append j (handed i (c.gives done g)) _ ∙ ap₂ (λ a b. a ++ b) (handed_others i j (c.gives done g) n) (end_others i j (all_ended c (done ++ g ∷ [])) n)

  -- what a wanted queue says of a lane that leads into it and hasn't ended
  pub record Wanted (feeds : List (Parcel X)) (k : Lane) : Type 0 where
    pub port : net.port k < (net.operator p).ports
    pub operator : (net.operator p).wants (inner net p feeds) (net.port k) ≡ true
    pub lane : (net.collector p (net.port k)).wants (of_port net (net.port k) feeds) (net.slot k) ≡ true

  pub wanted_is : (feeds : List (Parcel X)) (k : Lane) → WasFed (shape_of net) p feeds → comes_to net p k ≡ true → has_end (of_lane k feeds) ≡ false → wants_queue net p feeds (net.into k) ≡ true → Wanted feeds k
  wanted_is feeds k fed ck open_still w =
      let ports = any_at (net.operator p).ports (λ i. (net.operator p).wants (inner net p feeds) i && any_below (net.collector p i).ports (λ s. same_lane (net.into (net.at p i s)) (net.into k) && (net.collector p i).wants (of_port net i feeds) s)) w in
      let i : ℕ = ports.0 in
      let slots = any_at (net.collector p i).ports (λ s. same_lane (net.into (net.at p i s)) (net.into k) && (net.collector p i).wants (of_port net i feeds) s) (and_right _ _ ports.2) in
      let s : ℕ = slots.0 in
      let t = plan.there p seat i s ports.1 slots.1 in
      let share = plan.shared p k (net.at p i s) ck (comes_at net plan p seat i s ports.1 slots.1) (sym (same_true _ _ (and_left _ _ slots.2))) in
      let port : net.port k ≡ i = share.0 ∙ t.0 in
      let c = comes_is net p k ck in
      let operator_wants : (net.operator p).wants (inner net p feeds) (net.port k) ≡ true = ap ((net.operator p).wants (inner net p feeds)) port ∙ and_left _ _ ports.2 in
      record {
        port = c.port;
        operator = operator_wants;
        lane = elim share.1 [
          | inl same ↦ ap₂ (λ a b. (net.collector p a).wants (of_port net a feeds) b) port (ap net.slot same ∙ t.1) ∙ and_right _ _ slots.2
          | inr all ↦ all (of_port net (net.port k) feeds) (net.slot k) c.slot (ap has_end (lane_items net plan p k ck [] feeds fed) ∙ open_still)
        ];
      }

  stands-step : (feeds : List (Parcel X)) (f : Parcel X) → Stands net p feeds → Wanted feeds f.lane → Stands net p (feeds ++ f ∷ [])
  stands-step feeds f st w =
      let i : ℕ = net.port f.lane in
      let c : Stream X F = net.collector p i in
      let g : Feed X = record { port = net.slot f.lane; item = f.item } in
      let is : IsCollector c = plan.collectors p seat i w.port in
      let fed : Fed c (of_port net i feeds) = st.port_fed i w.port in
      let how : Passes c (of_port net i feeds) g = passes c is (of_port net i feeds) g fed w.lane in
      let open_still : all_ended c (of_port net i feeds) ≡ false = wants_open c is.stream (of_port net i feeds) (net.slot f.lane) w.lane in
      record {
        operator_fed = subst (Fed (net.operator p)) (sym (inner-more net p feeds f)) (handed_fed i c (of_port net i feeds) g (inner net p feeds) st.operator_fed w.operator how);
        port_fed = λ j lj. elim (eqb_tells i j) [
          | inl t ↦ subst (Fed (net.collector p j)) (sym (of_port-here net j feeds f t.1)) (fed-more (net.collector p j) [] (of_port net j feeds) g (st.port_fed j lj) (subst (λ z. (net.collector p z).wants (of_port net z feeds) (net.slot f.lane) ≡ true) t.1 w.lane))
          | inr t ↦ subst (Fed (net.collector p j)) (sym (of_port-there net j feeds f t.1)) (st.port_fed j lj)
        ];
        passed = λ j lj. elim (eqb_tells i j) [
          | inl t ↦ subst (λ z. items_of z (inner net p (feeds ++ f ∷ [])) ≡ map row (rows_out (emits (net.collector p z) (of_port net z (feeds ++ f ∷ [])))) ++ cond (all_ended (net.collector p z) (of_port net z (feeds ++ f ∷ []))) (end ∷ []) []) t.1
              (ap (items_of i) (inner-more net p feeds f) ∙ items-append i (inner net p feeds) (pass net p feeds f)
              ∙ ap₂ (λ a b. a ++ b) (st.passed i w.port ∙ ap (λ b. map row (rows_out (emits c (of_port net i feeds))) ++ cond b (end ∷ []) []) open_still ∙ append-nil _) (pass_items i c (of_port net i feeds) g)
              ∙ sym (append_assoc (map row (rows_out (emits c (of_port net i feeds)))) (map row (rows_out (c.gives (of_port net i feeds) g))) _)
              ∙ ap (λ t. t ++ cond (all_ended c (of_port net i feeds ++ g ∷ [])) (end ∷ []) [])
              (sym (ap (λ t. map row (rows_out t)) (emits-append c [] (of_port net i feeds) (g ∷ []) ∙ ap (λ t. emits c (of_port net i feeds) ++ t) (append-nil _))
              ∙ ap (map row) (rows_out-append (emits c (of_port net i feeds)) (c.gives (of_port net i feeds) g)) ∙ map-append row _ _))
              ∙ ap (λ D. map row (rows_out (emits c D)) ++ cond (all_ended c D) (end ∷ []) []) (sym (of_port-here net i feeds f refl)))
          | inr t ↦ ap (items_of j) (inner-more net p feeds f) ∙ items-append j (inner net p feeds) (pass net p feeds f) ∙ ap (λ z. items_of j (inner net p feeds) ++ z) (pass_others i j c (of_port net i feeds) g t.1) ∙ append-nil _
              ∙ st.passed j lj ∙ ap (λ D. map row (rows_out (emits (net.collector p j) D)) ++ cond (all_ended (net.collector p j) D) (end ∷ []) []) (sym (of_port-there net j feeds f t.1))
        ];
      }

  pub none_ended : (n : ℕ) → 0 < n → all_below n (λ i. false) ≡ false
  none_ended n h = not_all n (λ i. false) 0 h refl

  stands-start : Stands net p []
  stands-start = record {
    operator_fed = tt;
    port_fed = λ i lt. tt;
    passed = λ i lt. sym (ap (λ b. cond b (end ∷ []) []) (none_ended (net.collector p i).ports (plan.collectors p seat i lt).stream.some));
  }

  stands-from : (before feeds : List (Parcel X)) → WasFed (shape_of net) p before → Stands net p before → WasFedAfter (shape_of net) p before feeds → Stands net p (before ++ feeds)
  stands-from before [] fb st h = subst (Stands net p) (sym (append-nil before)) st
  stands-from before (f ∷ feeds) fb st h =
      subst (Stands net p) (append_assoc before (f ∷ []) feeds)
      (stands-from (before ++ f ∷ []) feeds (fed-snoc (shape_of net) p [] before f fb h.0 h.1 h.2) (stands-step before f st (wanted_is before f.lane fb h.0 h.1 h.2)) h.3)

  -- what a player was fed stands for what its parts were fed
  pub stands : (feeds : List (Parcel X)) → WasFed (shape_of net) p feeds → Stands net p feeds
  stands feeds h = stands-from [] feeds tt stands-start h

  -- the last of what was fed
  pub record Newest (feeds : List (Parcel X)) (f : Parcel X) : Type 0 where
    pub before : WasFed (shape_of net) p feeds
    pub wanted : Wanted feeds f.lane

  split : (before feeds : List (Parcel X)) (f : Parcel X) → WasFedAfter (shape_of net) p before (feeds ++ f ∷ []) →
      WasFedAfter (shape_of net) p before feeds × (comes_to net p f.lane ≡ true) × (has_end (of_lane f.lane (before ++ feeds)) ≡ false) × (wants_queue net p (before ++ feeds) (net.into f.lane) ≡ true)
  split before [] f h = (tt, h.0, ap (λ t. has_end (of_lane f.lane t)) (append-nil before) ∙ h.1, ap (λ t. wants_queue net p t (net.into f.lane)) (append-nil before) ∙ h.2)
  split before (g ∷ feeds) f h =
      let r = split (before ++ g ∷ []) feeds f h.3 in
      ((h.0, h.1, h.2, r.0), r.1, ap (λ t. has_end (of_lane f.lane t)) (sym (append_assoc before (g ∷ []) feeds)) ∙ r.2, ap (λ t. wants_queue net p t (net.into f.lane)) (sym (append_assoc before (g ∷ []) feeds)) ∙ r.3)

  pub newest : (feeds : List (Parcel X)) (f : Parcel X) → WasFed (shape_of net) p (feeds ++ f ∷ []) → Newest feeds f
  newest feeds f h = let r = split [] feeds f h in record { before = r.0; wanted = wanted_is feeds f.lane r.0 r.1 r.2 r.3 }

  pub sent-append : (goes : ℕ → X → Bool) (t : ℕ) (xs ys : List X) → sent goes t (xs ++ ys) ≡ sent goes t xs ++ sent goes (length xs + t) ys
  sent-append goes t [] ys = ap (λ n. sent goes n ys) (omega arith)
  sent-append goes t (x ∷ xs) ys = go (goes t x) (sent-append goes (suc t) xs ys ∙ ap (λ n. sent goes (suc t) xs ++ sent goes n ys) (shift (length xs) t))
    where
      shift : (n t : ℕ) → n + suc t ≡ suc n + t
      shift n t = omega arith

      go : (b : Bool) → sent goes (suc t) (xs ++ ys) ≡ sent goes (suc t) xs ++ sent goes (suc (length xs) + t) ys → cond b (x ∷ sent goes (suc t) (xs ++ ys)) (sent goes (suc t) (xs ++ ys)) ≡ cond b (x ∷ sent goes (suc t) xs) (sent goes (suc t) xs) ++ sent goes (suc (length xs) + t) ys
      go true h = ap (λ z. x ∷ z) h
      go false h = h

  -- what is due grows from the back
  pub due-more : (k : Lane) (feeds : List (Parcel X)) (f : Parcel X) → WasFed (shape_of net) p (feeds ++ f ∷ []) → (ms : List (Item X)) × (owed net p k (feeds ++ f ∷ []) ≡ owed net p k feeds ++ ms)
  due-more k feeds f h =
      let n = newest feeds f h in
      let still : all_ended (net.operator p) (inner net p feeds) ≡ false = wants_open (net.operator p) (plan.operators p seat) (inner net p feeds) (net.port f.lane) n.wanted.operator in
      let old : List (Out X F) = emits (net.operator p) (inner net p feeds) in
      let new : List (Out X F) = emits_after (net.operator p) (inner net p feeds) (pass net p feeds f) in
      let goes : ℕ → X → Bool = net.goes k in
      let tail : List (Item X) = cond (all_ended (net.operator p) (inner net p (feeds ++ f ∷ []))) (end ∷ []) [] in
      let add : List X = sent goes (length (on (net.out k) old) + 0) (on (net.out k) new) in
      let all : emits (net.operator p) (inner net p (feeds ++ f ∷ [])) ≡ old ++ new = ap (emits (net.operator p)) (inner-more net p feeds f) ∙ emits-append (net.operator p) [] (inner net p feeds) (pass net p feeds f) in
      let rows_are : map row (sent goes 0 (on (net.out k) (old ++ new))) ≡ map row (sent goes 0 (on (net.out k) old)) ++ map row add =
      ap (λ t. map row (sent goes 0 t)) (on-append (net.out k) old new) ∙ ap (map row) (sent-append goes 0 (on (net.out k) old) (on (net.out k) new)) ∙ map-append row (sent goes 0 (on (net.out k) old)) add in (
        map row add ++ tail,
        ap (λ t. map row (sent goes 0 (on (net.out k) t)) ++ tail) all ∙ ap (λ t. t ++ tail) rows_are ∙ append_assoc (map row (sent goes 0 (on (net.out k) old))) (map row add) tail
            ∙ ap (λ t. t ++ (map row add ++ tail)) (sym (ap (λ b. map row (sent goes 0 (on (net.out k) old)) ++ cond b (end ∷ []) []) still ∙ append-nil _)),
      )

  pub due-begins : (k : Lane) → owed net p k [] ≡ []
  due-begins k = ap (λ b. cond b (end ∷ []) []) (none_ended (net.operator p).ports (plan.operators p seat).some)

  -- a port of the operator has ended where all lanes there have
  port_ended : (feeds : List (Parcel X)) → Stands net p feeds → (i : ℕ) → i < (net.operator p).ports → all_ended (net.collector p i) (of_port net i feeds) ≡ true → ended i (inner net p feeds) ≡ true
  port_ended feeds st i lt h = ap has_end (st.passed i lt) ∙ has_end-right (map row (rows_out (emits (net.collector p i) (of_port net i feeds)))) _ (ap (λ b. has_end {X = X} (cond b (end ∷ []) [])) h)

  port_open : (feeds : List (Parcel X)) → Stands net p feeds → (i : ℕ) → i < (net.operator p).ports → all_ended (net.collector p i) (of_port net i feeds) ≡ false → ended i (inner net p feeds) ≡ false
  port_open feeds st i lt h = ap has_end (st.passed i lt ∙ ap (λ b. map row (rows_out (emits (net.collector p i) (of_port net i feeds))) ++ cond b (end ∷ []) []) h ∙ append-nil _) ∙ no_end (rows_out (emits (net.collector p i) (of_port net i feeds)))

  pub at_items : (feeds : List (Parcel X)) → WasFed (shape_of net) p feeds → (i s : ℕ) → i < (net.operator p).ports → s < (net.collector p i).ports → items_of s (of_port net i feeds) ≡ of_lane (net.at p i s) feeds
  at_items feeds fed i s li ls =
      let t = plan.there p seat i s li ls in
      ap₂ (λ a b. items_of a (of_port net b feeds)) (sym t.1) (sym t.0) ∙ lane_items net plan p (net.at p i s) (comes_at net plan p seat i s li ls) [] feeds fed

  pub lanes_ended : (feeds : List (Parcel X)) → WasFed (shape_of net) p feeds → HasEnded (shape_of net) p feeds → (i : ℕ) → i < (net.operator p).ports → all_ended (net.collector p i) (of_port net i feeds) ≡ true
  lanes_ended feeds fed h i lt = all_from (net.collector p i).ports (λ s. ended s (of_port net i feeds)) (λ s ls. ap has_end (at_items feeds fed i s lt ls) ∙ h (net.at p i s) (comes_at net plan p seat i s lt ls))

  pub operator_ended : (feeds : List (Parcel X)) → WasFed (shape_of net) p feeds → HasEnded (shape_of net) p feeds → all_ended (net.operator p) (inner net p feeds) ≡ true
  operator_ended feeds fed h = all_from (net.operator p).ports (λ i. ended i (inner net p feeds)) (λ i lt. port_ended feeds (stands feeds fed) i lt (lanes_ended feeds fed h i lt))

  pub due-ends : (k : Lane) (feeds : List (Parcel X)) → WasFed (shape_of net) p feeds → HasEnded (shape_of net) p feeds → has_end (owed net p k feeds) ≡ true
  due-ends k feeds fed h = has_end-right (map row (sent (net.goes k) 0 (on (net.out k) (emits (net.operator p) (inner net p feeds))))) _ (ap (λ b. has_end {X = X} (cond b (end ∷ []) [])) (operator_ended feeds fed h))

  pub hungry : (feeds : List (Parcel X)) → WasFed (shape_of net) p feeds → Waits (shape_of net) p feeds ⊎ HasEnded (shape_of net) p feeds
  hungry feeds fed = go ((plan.operators p seat).hungry (inner net p feeds) st.operator_fed)
    where
      st : Stands net p feeds
      st = stands feeds fed

      ended_all : all_ended (net.operator p) (inner net p feeds) ≡ true → HasEnded (shape_of net) p feeds
      ended_all h k ck =
          let c = comes_is net p k ck in
          let here : ended (net.port k) (inner net p feeds) ≡ true = all_at (net.operator p).ports (λ i. ended i (inner net p feeds)) h (net.port k) c.port in
          let col : all_ended (net.collector p (net.port k)) (of_port net (net.port k) feeds) ≡ true = or_open (all_ended (net.collector p (net.port k)) (of_port net (net.port k) feeds)) refl (λ o. true_false here (port_open feeds (stands feeds fed) (net.port k) c.port o)) in
          ap has_end (sym (lane_items net plan p k ck [] feeds fed)) ∙ all_at (net.collector p (net.port k)).ports (λ s. ended s (of_port net (net.port k) feeds)) col (net.slot k) c.slot
        where
          or_open : (b : Bool) → all_ended (net.collector p (net.port k)) (of_port net (net.port k) feeds) ≡ b → (all_ended (net.collector p (net.port k)) (of_port net (net.port k) feeds) ≡ false → ⊥) → b ≡ true
          or_open true e n = refl
          or_open false e n = absurd (n e)

      from_port : (i : ℕ) → i < (net.operator p).ports → (net.operator p).wants (inner net p feeds) i ≡ true → ended i (inner net p feeds) ≡ false → ((s : ℕ) × ((net.collector p i).wants (of_port net i feeds) s ≡ true)) ⊎ (all_ended (net.collector p i) (of_port net i feeds) ≡ true) → Waits (shape_of net) p feeds
      from_port i lt w still (inr h) = absurd (true_false (port_ended feeds (stands feeds fed) i lt h) still)
      from_port i lt w still (inl (s, ws)) =
          let o = (plan.collectors p seat i lt).stream.opens (of_port net i feeds) s ws in
          let queue : Lane = net.into (net.at p i s) in
          record {
            lane = net.at p i s;
            comes = comes_at net plan p seat i s lt o.0;
            still = ap has_end (sym (at_items feeds fed i s lt o.0)) ∙ o.1;
            wanted = any_from (net.operator p).ports (λ j. (net.operator p).wants (inner net p feeds) j && any_below (net.collector p j).ports (λ t. same_lane (net.into (net.at p j t)) queue && (net.collector p j).wants (of_port net j feeds) t)) i lt
                (and_true w (any_from (net.collector p i).ports (λ t. same_lane (net.into (net.at p i t)) queue && (net.collector p i).wants (of_port net i feeds) t) s o.0 (and_true (tells_true lane_tells queue queue refl) ws)));
          }

      go : ((i : ℕ) × ((net.operator p).wants (inner net p feeds) i ≡ true)) ⊎ (all_ended (net.operator p) (inner net p feeds) ≡ true) → Waits (shape_of net) p feeds ⊎ HasEnded (shape_of net) p feeds
      go (inr h) = inr (ended_all h)
      go (inl (i, w)) =
          let o = (plan.operators p seat).opens (inner net p feeds) i w in
          inl (from_port i o.0 w o.1 ((plan.collectors p seat i o.0).stream.hungry (of_port net i feeds) ((stands feeds fed).port_fed i o.0)))

  pub leads : (feeds : List (Parcel X)) (q : Lane) → wants_queue net p feeds q ≡ true → (k : Lane) × (comes_to net p k ≡ true) × (net.into k ≡ q)
  leads feeds q w =
      let ports = any_at (net.operator p).ports (λ i. (net.operator p).wants (inner net p feeds) i && any_below (net.collector p i).ports (λ s. same_lane (net.into (net.at p i s)) q && (net.collector p i).wants (of_port net i feeds) s)) w in
      let slots = any_at (net.collector p ports.0).ports (λ s. same_lane (net.into (net.at p ports.0 s)) q && (net.collector p ports.0).wants (of_port net ports.0 feeds) s) (and_right _ _ ports.2) in
      (net.at p ports.0 slots.0, comes_at net plan p seat ports.0 slots.0 ports.1 slots.1, same_true _ _ (and_left _ _ slots.2))

pub are_players : {X F : Type 0} (net : Net X F) → IsPlan net → ArePlayers (shape_of net)
are_players net plan = record {
  leads = λ p seat feeds q w. leads net plan p seat feeds q w;
  hungry = λ p seat feeds fed. hungry net plan p seat feeds fed;
  begins = λ p seat k. due-begins net plan p seat k;
  more = λ p seat k feeds f fed. due-more net plan p seat k feeds f fed;
  ends = λ p seat k feeds fed h. due-ends net plan p seat k feeds fed h;
  end_is_last = λ p k feeds xs ys e h. due-end net p k feeds xs ys e h;
}
