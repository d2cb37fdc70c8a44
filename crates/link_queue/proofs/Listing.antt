-- Queues as lists, seen from one player.
use Rattle.std.proofs.Common.{◌≡◌, ℕ, zero, suc, ◌<◌, ◌≤◌, List, [], ◌∷◌, ◌++◌, map, length, get_or, set, refl, sym, ap, ◌∙◌, subst, Some, arith}
use Rattle.ds_pack.specs.declared.message.Msg.{Msg}
use Rattle.link_queue.specs.declared.parcel.Parcel.{Parcel}
use Rattle.link_queue.specs.declared.net.QueueShape.{QueueShape}
use Rattle.link_queue.specs.declared.net.Seat.{Seat}
use Rattle.link_queue.specs.Told.{LaneTold, QueueTold, Fits, FitsMsg}
use Rattle.link_queue.specs.Link.{AtPlace, changed_at, tail_of, lane_put, lane_refused, queue_taken, queue_refused, HasPut, HasRefusedPut, HasTaken, HasRefusedTake}
use Rattle.link_queue.specs.Seats.{IsSeat, AreSeats}
use Rattle.link_queue.specs.Listed.{NetTold, told_of, lane_told, queue_told, no_seat, no_shape}
use Rattle.link_queue.proofs.Places.{at_get, get_at, at_below, at_map, map_at, all_at_place, unchanged, all_map, mapped_length}

-- the first of some lists is another, as long as it isn't past the end
within : {A : Type 0} (seats : List Seat) (player n : ℕ) (f : Seat → List A) → f no_seat ≡ [] → n < length (f (get_or seats player no_seat)) → player < length seats
within [] player n f none lt = let e = ap length none in absurd (omega (arith, e))
within (s ∷ seats) zero n f none lt = omega arith
within (s ∷ seats) (suc player) n f none lt = let e = within seats player n f none lt in omega (arith, e)

set_same : {A : Type 0} (xs : List A) (n : ℕ) (d : A) → set xs n (get_or xs n d) ≡ xs
set_same [] n d = refl
set_same (x ∷ xs) zero d = refl
set_same (x ∷ xs) (suc n) d = ap (λ ys. x ∷ ys) (set_same xs n d)

changed-at-set : {A : Type 0} (f : A → A) (xs : List A) (n : ℕ) (y d : A) → n < length xs → y ≡ f (get_or xs n d) → changed_at n f xs ≡ set xs n y
changed-at-set f [] n y d lt e = absurd (omega arith)
changed-at-set f (x ∷ xs) zero y d lt e = ap (λ z. z ∷ xs) (sym e)
changed-at-set f (x ∷ xs) (suc n) y d lt e = ap (λ ys. x ∷ ys) (changed-at-set f xs n y d (omega arith) e)

-- a net, and one of a player's lanes or queues
module _ (player : ℕ) (t : NetTold) (ways : AreSeats t.shapes t.seats) (sizes : length t.parcels ≡ length t.shapes) where
  abbrev pub mine : Seat
  mine = get_or t.seats player no_seat

  module _ (lane : ℕ) (lt : lane < length (told_of player t).lanes) where
    pub lane_there : lane < length mine.lanes
    lane_there = subst (λ n. lane < n) (mapped_length (lane_told t.shapes) mine.lanes) lt

    pub lane_seat : player < length t.seats
    lane_seat = within t.seats player lane (λ (s : Seat). s.lanes) refl lane_there

    seat : IsSeat t.shapes mine
    seat = at_get (IsSeat t.shapes) t.seats player no_seat (all_at_place _ t.seats player lane_seat ways)

    module _ (n : ℕ) (is : n ≡ get_or mine.lanes lane n) where
      lane_fits : AtPlace n (λ (s : QueueShape). mine.partition < s.degree) t.shapes
      lane_fits = subst (λ m. AtPlace m (λ (s : QueueShape). mine.partition < s.degree) t.shapes) (sym is) (at_get (λ m. AtPlace m (λ (s : QueueShape). mine.partition < s.degree) t.shapes) mine.lanes lane n (all_at_place _ mine.lanes lane lane_there seat.0))

      pub lane_below : n < length t.shapes
      lane_below = at_below _ t.shapes n lane_fits

      pub lane_degree : (d : QueueShape) → mine.partition < (get_or t.shapes n d).degree
      lane_degree d = at_get _ t.shapes n d lane_fits

      at_lane : (P : LaneTold → Type 0) → P (lane_told t.shapes n) → AtPlace lane P (told_of player t).lanes
      at_lane P h = at_map (lane_told t.shapes) P mine.lanes lane (get_at (λ m. P (lane_told t.shapes m)) mine.lanes lane n lane_there (subst (λ m. P (lane_told t.shapes m)) is h))

      pub lane_msg : (msg : Msg) → AtPlace lane (λ l. FitsMsg l.schema msg) (told_of player t).lanes → FitsMsg (get_or t.shapes n no_shape).schema msg
      lane_msg msg h = subst (λ m. FitsMsg (get_or t.shapes m no_shape).schema msg) (sym is) (at_get (λ m. FitsMsg (get_or t.shapes m no_shape).schema msg) mine.lanes lane n (map_at (lane_told t.shapes) (λ (l : LaneTold). FitsMsg l.schema msg) mine.lanes lane h))

      lane_parcels : n < length t.parcels
      lane_parcels = subst (λ m. n < m) (sym sizes) lane_below

      same_lanes : (f : LaneTold → LaneTold) → ((m : ℕ) → f (lane_told t.shapes m) ≡ lane_told t.shapes m) → changed_at lane f (told_of player t).lanes ≡ (told_of player t).lanes
      same_lanes f h = unchanged f (told_of player t).lanes lane (all_map (lane_told t.shapes) (λ l. f l ≡ l) h mine.lanes)

      pub listed_put : (msg : Msg) (ps : List Parcel) → ps ≡ get_or t.parcels n [] ++ record { from = mine.partition; msg = msg } ∷ [] → length (get_or t.parcels n []) < t.capacity →
          HasPut lane msg (told_of player t) (told_of player (record t { parcels = set t.parcels n ps }))
      listed_put msg ps e room = (
        at_lane _ (
            let lanes = same_lanes (lane_put msg) (λ m. refl) in
            let net = changed-at-set (λ qs. qs ++ record { from = mine.partition; msg = msg } ∷ []) t.parcels n ps [] lane_parcels e in
            λ i. record { player = player; partition = mine.partition; lanes = sym lanes i; queues = map (queue_told t.shapes) mine.queues; net = Some (sym net i); capacity = t.capacity }
            ),
        at_lane _ (get_at (λ qs. length qs < t.capacity) t.parcels n [] lane_parcels room),
      )

      pub listed_full : t.capacity ≤ length (get_or t.parcels n []) → HasRefusedPut lane (told_of player t) (told_of player t)
      listed_full full = (
        (let lanes = same_lanes lane_refused (λ m. refl) in
            λ i. record { player = player; partition = mine.partition; lanes = sym lanes i; queues = map (queue_told t.shapes) mine.queues; net = Some t.parcels; capacity = t.capacity }),
        at_lane _ (get_at (λ qs. t.capacity ≤ length qs) t.parcels n [] lane_parcels full),
      )

  module _ (queue : ℕ) (lt : queue < length (told_of player t).queues) where
    pub queue_there : queue < length mine.queues
    queue_there = subst (λ n. queue < n) (mapped_length (queue_told t.shapes) mine.queues) lt

    pub queue_seat : player < length t.seats
    queue_seat = within t.seats player queue (λ (s : Seat). s.queues) refl queue_there

    own : IsSeat t.shapes mine
    own = at_get (IsSeat t.shapes) t.seats player no_seat (all_at_place _ t.seats player queue_seat ways)

    module _ (n : ℕ) (is : n ≡ get_or mine.queues queue n) where
      pub queue_below : n < length t.shapes
      queue_below = subst (λ m. m < length t.shapes) (sym is) (at_get (λ m. m < length t.shapes) mine.queues queue n (all_at_place _ mine.queues queue queue_there own.1))

      at_queue : (P : QueueTold → Type 0) → P (queue_told t.shapes n) → AtPlace queue P (told_of player t).queues
      at_queue P h = at_map (queue_told t.shapes) P mine.queues queue (get_at (λ m. P (queue_told t.shapes m)) mine.queues queue n queue_there (subst (λ m. P (queue_told t.shapes m)) is h))

      queue_parcels : n < length t.parcels
      queue_parcels = subst (λ m. n < m) (sym sizes) queue_below

      same_queues : (f : QueueTold → QueueTold) → ((m : ℕ) → f (queue_told t.shapes m) ≡ queue_told t.shapes m) → changed_at queue f (told_of player t).queues ≡ (told_of player t).queues
      same_queues f h = unchanged f (told_of player t).queues queue (all_map (queue_told t.shapes) (λ l. f l ≡ l) h mine.queues)

      pub listed_none : get_or t.parcels n [] ≡ [] → HasRefusedTake queue (told_of player t) (told_of player t)
      listed_none none = (
        (let queues = same_queues queue_refused (λ m. refl) in
            λ i. record { player = player; partition = mine.partition; lanes = map (lane_told t.shapes) mine.lanes; queues = sym queues i; net = Some t.parcels; capacity = t.capacity }),
        at_queue _ (get_at (λ qs. qs ≡ []) t.parcels n [] queue_parcels none),
      )

      pub listed_take : (x : Parcel) (ps : List Parcel) → Fits (get_or t.shapes n no_shape).schema (get_or t.shapes n no_shape).degree x → get_or t.parcels n [] ≡ x ∷ ps →
          HasTaken queue x (told_of player t) (told_of player (record t { parcels = set t.parcels n ps }))
      listed_take x ps fits front =
          let queues = same_queues (queue_taken x) (λ m. refl) in
          let net = changed-at-set tail_of t.parcels n ps [] queue_parcels (sym (ap tail_of front)) in
          at_queue _ (
            fits,
            λ i. record { player = player; partition = mine.partition; lanes = map (lane_told t.shapes) mine.lanes; queues = sym queues i; net = Some (sym net i); capacity = t.capacity },
            get_at (λ qs. qs ≡ x ∷ tail_of qs) t.parcels n [] queue_parcels (front ∙ ap (λ qs. x ∷ qs) (sym (ap tail_of front))),
          )
