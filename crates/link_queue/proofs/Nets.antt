-- What a put or a take on one queue makes of a net.
use Rattle.std.proofs.Common.{◌≡◌, ℕ, zero, suc, ◌<◌, ◌≤◌, List, [], ◌∷◌, ◌++◌, map, length, get_or, set, refl, sym, ap, ◌∙◌, subst, Option, Some, None, Result, Ok, Err, arith}
use Rattle.std.specs.Prelude.{MatchResult, MatchOption}
use Rattle.std.specs.List.{AllByRecursion}
use Rattle.ds_pack.specs.declared.message.Msg.{Msg}
use Rattle.link_queue.specs.declared.parcel.Full.{Full}
use Rattle.link_queue.specs.declared.parcel.Parcel.{Parcel}
use Rattle.link_queue.specs.declared.net.QueueShape.{QueueShape}
use Rattle.link_queue.specs.declared.net.Seat.{Seat}
use Rattle.link_queue.specs.Told.{Fits}
use Rattle.link_queue.specs.Link.{HasPut, HasRefusedPut, HasTaken, HasRefusedTake}
use Rattle.link_queue.specs.Queues.{Queue}
use Rattle.link_queue.specs.Seats.{AreSeats}
use Rattle.link_queue.specs.Listed.{NetTold, shape_of, parcels_of, told_of, no_seat, no_shape}
use Rattle.link_queue.specs.Making.{empty_queue}
use Rattle.link_queue.proofs.Places.{mapped_length, map-set_same, any_default, result_by, option_by}
use Rattle.link_queue.proofs.Listing.{lane_below, listed_put, listed_full, queue_below, listed_none, listed_take}

mapped_get : {A B : Type 0} (f : A → B) (xs : List A) (n : ℕ) (d : A) (e : B) → n < length xs → get_or (map f xs) n e ≡ f (get_or xs n d)
mapped_get f [] n d e lt = absurd (omega arith)
mapped_get f (x ∷ xs) zero d e lt = refl
mapped_get f (x ∷ xs) (suc n) d e lt = mapped_get f xs n d e (omega arith)

mapped_set : {A B : Type 0} (f : A → B) (xs : List A) (n : ℕ) (y : A) → map f (set xs n y) ≡ set (map f xs) n (f y)
mapped_set f [] n y = refl
mapped_set f (x ∷ xs) zero y = refl
mapped_set f (x ∷ xs) (suc n) y = ap (λ zs. f x ∷ zs) (mapped_set f xs n y)

all_get : {A : Type 0} (P : A → Type 0) (xs : List A) (n : ℕ) (d : A) → n < length xs → AllByRecursion P xs → P (get_or xs n d)
all_get P [] n d lt h = absurd (omega arith)
all_get P (x ∷ xs) zero d lt h = h.0
all_get P (x ∷ xs) (suc n) d lt h = all_get P xs n d (omega arith) h.1

all_set : {A : Type 0} (P : A → Type 0) (xs : List A) (n : ℕ) (y : A) → P y → AllByRecursion P xs → AllByRecursion P (set xs n y)
all_set P [] n y p h = tt
all_set P (x ∷ xs) zero y p h = (p, h.1)
all_set P (x ∷ xs) (suc n) y p h = (h.0, all_set P xs n y p h.1)

set_back : {A : Type 0} (xs : List A) (n : ℕ) (y : A) → y ≡ get_or xs n y → set xs n y ≡ xs
set_back [] n y e = refl
set_back (x ∷ xs) zero y e = ap (λ z. z ∷ xs) e
set_back (x ∷ xs) (suc n) y e = ap (λ ys. x ∷ ys) (set_back xs n y e)

abbrev pub net_of : ℕ → List Seat → List Queue → NetTold
net_of capacity seats items = record { capacity = capacity; seats = seats; shapes = map shape_of items; parcels = map parcels_of items }

-- what a put and a take on a queue answer
abbrev pub PutsOn : Queue → Queue → ℕ → Msg → Result (Unit {0}) Full → Type 0
PutsOn p q from msg r = MatchResult r (λ _. (q ≡ record p { parcels = p.parcels ++ record { from = from; msg = msg } ∷ [] }) × (length p.parcels < p.capacity)) (λ full. (full.back ≡ msg) × (q ≡ p) × (p.capacity ≤ length p.parcels))

abbrev pub TakesFrom : Queue → Queue → Option Parcel → Type 0
TakesFrom p q r = MatchOption r ((q ≡ p) × (p.parcels ≡ [])) (λ x. Fits p.schema p.degree x × (p.parcels ≡ x ∷ q.parcels) × (q ≡ record p { parcels = q.parcels }))

abbrev pub no_parcels : Queue → Queue
no_parcels p = record p { parcels = [] }

pub frame_put : (p q : Queue) (from : ℕ) (msg : Msg) (r : Result (Unit {0}) Full) → PutsOn p q from msg r → no_parcels q ≡ no_parcels p
frame_put p q from msg (Ok x) h = ap no_parcels h.0
frame_put p q from msg (Err full) h = ap no_parcels h.1

pub frame_take : (p q : Queue) (r : Option Parcel) → TakesFrom p q r → no_parcels q ≡ no_parcels p
frame_take p q None h = ap no_parcels h.0
frame_take p q (Some x) h = ap no_parcels h.2

module _ (capacity : ℕ) (seats : List Seat) (items : List Queue) (same : AllByRecursion (λ (q : Queue). q.capacity ≡ capacity) items) (ways : AreSeats (map shape_of items) seats) where
  abbrev pub before : NetTold
  before = net_of capacity seats items

  pub sizes : length before.parcels ≡ length before.shapes
  sizes = mapped_length parcels_of items ∙ sym (mapped_length shape_of items)

  module _ (n : ℕ) (lt : n < length items) (p q : Queue) (at : p ≡ get_or items n p) (frame : no_parcels q ≡ no_parcels p) where
    pub shapes_stay : map shape_of (set items n q) ≡ map shape_of items
    shapes_stay = map-set_same shape_of items n q p (ap shape_of frame ∙ ap shape_of at)

    pub capacity_stays : AllByRecursion (λ (q : Queue). q.capacity ≡ capacity) (set items n q)
    capacity_stays = all_set _ items n q (ap (λ (x : Queue). x.capacity) frame ∙ (ap (λ (x : Queue). x.capacity) at ∙ all_get _ items n p lt same)) same

    pub ways_stay : AreSeats (map shape_of (set items n q)) seats
    ways_stay = subst (λ s. AreSeats s seats) (sym shapes_stay) ways

    pub net_after : net_of capacity seats (set items n q) ≡ record before { parcels = set before.parcels n q.parcels }
    net_after = λ i. record { capacity = capacity; seats = seats; shapes = shapes_stay i; parcels = mapped_set parcels_of items n q i }

    pub shape_is : (d : QueueShape) → get_or before.shapes n d ≡ shape_of p
    shape_is d = mapped_get shape_of items n p d lt ∙ sym (ap shape_of at)

    pub parcels_are : get_or before.parcels n [] ≡ p.parcels
    parcels_are = mapped_get parcels_of items n p [] lt ∙ sym (ap parcels_of at)

    pub capacity_is : p.capacity ≡ capacity
    capacity_is = ap (λ (x : Queue). x.capacity) at ∙ all_get _ items n p lt same

  module _ (player : ℕ) (n : ℕ) (p q : Queue) (at : p ≡ get_or items n p) where
    pub did_put : (lane : ℕ) (lt : lane < length (told_of player before).lanes) → n ≡ get_or (get_or seats player no_seat).lanes lane n → (msg : Msg) (from : ℕ) → from ≡ (get_or seats player no_seat).partition → (r : Result (Unit {0}) Full) → PutsOn p q from msg r →
        MatchResult r (λ _. HasPut lane msg (told_of player before) (told_of player (net_of capacity seats (set items n q)))) (λ full. (full.back ≡ msg) × HasRefusedPut lane (told_of player before) (told_of player (net_of capacity seats (set items n q))))
    did_put lane lt is msg from of_seat r h =
        let there : n < length items = subst (λ m. n < m) (mapped_length shape_of items) (lane_below player before ways sizes lane lt n is) in
        let frame = frame_put p q from msg r h in
        let old = parcels_are n there p q at frame in
        let full_size = capacity_is n there p q at frame in
        result_by _ _ _ _ r
        (λ x k. subst (λ u. HasPut lane msg (told_of player before) (told_of player u)) (sym (net_after n there p q at frame))
        (listed_put player before ways sizes lane lt n is msg q.parcels (ap (λ (x : Queue). x.parcels) k.0 ∙ ap (λ ps. ps ++ record { from = from; msg = msg } ∷ []) (sym old) ∙ ap (λ f. get_or before.parcels n [] ++ record { from = f; msg = msg } ∷ []) of_seat)
        (subst (λ ps. length ps < capacity) (sym old) (subst (λ c. length p.parcels < c) full_size k.1))))
        (λ full k. (
          k.0,
          subst (λ u. HasRefusedPut lane (told_of player before) (told_of player u)) (sym (ap (net_of capacity seats) (ap (set items n) k.1 ∙ set_back items n p at)))
              (listed_full player before ways sizes lane lt n is (subst (λ ps. capacity ≤ length ps) (sym old) (subst (λ c. c ≤ length p.parcels) full_size k.2))),
        ))
        h

    pub did_take : (queue : ℕ) (lt : queue < length (told_of player before).queues) → n ≡ get_or (get_or seats player no_seat).queues queue n → (r : Option Parcel) → TakesFrom p q r →
        MatchOption r (HasRefusedTake queue (told_of player before) (told_of player (net_of capacity seats (set items n q)))) (λ x. HasTaken queue x (told_of player before) (told_of player (net_of capacity seats (set items n q))))
    did_take queue lt is r h =
        let there : n < length items = subst (λ m. n < m) (mapped_length shape_of items) (queue_below player before ways sizes queue lt n is) in
        let frame = frame_take p q r h in
        let old = parcels_are n there p q at frame in
        let shape = shape_is n there p q at frame no_shape in
        option_by _ _ _ _ r
        (λ k. subst (λ u. HasRefusedTake queue (told_of player before) (told_of player u)) (sym (ap (net_of capacity seats) (ap (set items n) k.0 ∙ set_back items n p at))) (listed_none player before ways sizes queue lt n is (old ∙ k.1)))
        (λ x k. subst (λ u. HasTaken queue x (told_of player before) (told_of player u)) (sym (net_after n there p q at frame))
        (listed_take player before ways sizes queue lt n is x q.parcels (subst (λ (s : QueueShape). Fits s.schema s.degree x) (sym shape) k.0) (old ∙ k.1)))
        h

-- what an index of the ways of a seat reads
pub way_is : (seats : List Seat) (player : ℕ) (seat : Seat) → player < length seats → seat ≡ get_or seats player seat → (f : Seat → List ℕ) (xs : List ℕ) → xs ≡ f seat → (k : ℕ) → k < length (f (get_or seats player no_seat)) → get_or xs k 0 ≡ get_or (f (get_or seats player no_seat)) k (get_or xs k 0)
way_is seats player seat lt is f xs same k klt = ap (λ ys. get_or ys k 0) (same ∙ ap f (is ∙ any_default seats player seat no_seat lt)) ∙ any_default (f (get_or seats player no_seat)) k 0 (get_or xs k 0) klt

pub made_capacity : (capacity : ℕ) (shapes : List QueueShape) → AllByRecursion (λ (q : Queue). q.capacity ≡ capacity) (map (empty_queue capacity) shapes)
made_capacity capacity [] = tt
made_capacity capacity (s ∷ shapes) = (refl, made_capacity capacity shapes)

pub made_shapes : (capacity : ℕ) (shapes : List QueueShape) → map shape_of (map (empty_queue capacity) shapes) ≡ shapes
made_shapes capacity [] = refl
made_shapes capacity (s ∷ shapes) = ap (λ t. s ∷ t) (made_shapes capacity shapes)

pub made_parcels : (capacity : ℕ) (shapes : List QueueShape) → map parcels_of (map (empty_queue capacity) shapes) ≡ map (λ (s : QueueShape). []) shapes
made_parcels capacity [] = refl
made_parcels capacity (s ∷ shapes) = ap (λ t. [] ∷ t) (made_parcels capacity shapes)
