-- What listed queues tell.
use Rattle.std.specs.Prelude.{◌≡◌, ℕ, Some, None, List, [], map, get_or}
use Rattle.std.specs.List.{AllByRecursion}
use Rattle.link_queue.specs.declared.parcel.Parcel.{Parcel}
use Rattle.link_queue.specs.declared.net.QueueShape.{QueueShape}
use Rattle.link_queue.specs.declared.net.Seat.{Seat}
use Rattle.link_queue.specs.declared.net.ListNet.TheInside.{Inside}
use Rattle.link_queue.specs.Told.{LaneTold, QueueTold, Told}
use Rattle.link_queue.specs.Queues.{Queue}
use Rattle.link_queue.specs.Seats.{AreSeats}

-- the queues' capacity, the ways of each player, what each queue is made for, and the parcels in it
pub record NetTold : Type 0 where
  pub capacity : ℕ
  pub seats : List Seat
  pub shapes : List QueueShape
  pub parcels : List (List Parcel)

abbrev pub shape_of : Queue → QueueShape
shape_of q = record { schema = q.schema; degree = q.degree }

abbrev pub parcels_of : Queue → List Parcel
parcels_of q = q.parcels

abbrev pub net_told : Inside → NetTold
net_told s = record { capacity = s.cap; seats = s.seats.items; shapes = map shape_of s.queues.items; parcels = map parcels_of s.queues.items }

-- all queues have one capacity, and each way leads to one of them
pub record NetHolds (s : Inside) : Type 0 where
  pub capacity : AllByRecursion (λ (q : Queue). q.capacity ≡ s.cap) s.queues.items
  pub ways : AreSeats (map shape_of s.queues.items) s.seats.items

-- the net before anything was put
abbrev pub empty_net : ℕ → List Seat → List QueueShape → NetTold
empty_net capacity seats shapes = record { capacity = capacity; seats = seats; shapes = shapes; parcels = map (λ (s : QueueShape). []) shapes }

abbrev pub no_seat : Seat
no_seat = record { partition = 0; lanes = []; queues = [] }

abbrev pub no_shape : QueueShape
no_shape = record { schema = []; degree = 0 }

abbrev pub lane_told : List QueueShape → ℕ → LaneTold
lane_told shapes n = record { way = record { table = None; number = n }; schema = (get_or shapes n no_shape).schema; put = None; fulls = None }

abbrev pub queue_told : List QueueShape → ℕ → QueueTold
queue_told shapes n = record { way = record { table = None; number = n }; schema = (get_or shapes n no_shape).schema; degree = (get_or shapes n no_shape).degree; taken = None; nones = None }

-- what a player sees of the net
abbrev pub told_of : ℕ → NetTold → Told
told_of player t = record {
  player = player;
  partition = (get_or t.seats player no_seat).partition;
  lanes = map (lane_told t.shapes) (get_or t.seats player no_seat).lanes;
  queues = map (queue_told t.shapes) (get_or t.seats player no_seat).queues;
  net = Some t.parcels;
  capacity = t.capacity;
}

-- the capacity, the ways and what the queues are made for stay
abbrev pub SameNet : NetTold → NetTold → Type 0
SameNet a b = (b.capacity ≡ a.capacity) × (b.seats ≡ a.seats) × (b.shapes ≡ a.shapes)
