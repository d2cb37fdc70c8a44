-- What a queue as a list tells.
use Rattle.std.specs.Prelude.{ℕ, ◌≤◌, List}
use Rattle.std.specs.List.{AllByRecursion}
use Rattle.std.specs.VecDeque.{deque_capacity}
use Rattle.ds_schema.specs.declared.schema.Field.{Field}
use Rattle.link_queue.specs.declared.parcel.Parcel.{Parcel}
use Rattle.link_queue.specs.declared.list_queue.ListQueue.TheInside.{Inside}
use Rattle.link_queue.specs.Told.{Fits}

pub record Queue : Type 0 where
  pub capacity : ℕ
  pub schema : List Field
  pub degree : ℕ
  pub parcels : List Parcel

abbrev pub queue_told : Inside → Queue
queue_told s = record { capacity = s.cap; schema = s.schema; degree = s.degree; parcels = s.list.items }

-- there is room for its capacity, and each parcel fits
abbrev pub QueueHolds : Inside → Type 0
QueueHolds s = (s.cap ≤ deque_capacity s.list) × AllByRecursion (Fits s.schema s.degree) s.list.items
