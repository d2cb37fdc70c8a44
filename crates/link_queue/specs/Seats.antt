-- The ways of players.
use Rattle.std.specs.Prelude.{◌<◌, List, length}
use Rattle.std.specs.List.{AllByRecursion}
use Rattle.link_queue.specs.declared.net.QueueShape.{QueueShape}
use Rattle.link_queue.specs.declared.net.Seat.{Seat}
use Rattle.link_queue.specs.Link.{AtPlace}

-- each lane leads to a queue whose producer has the player's partition, and each queue is there
abbrev pub IsSeat : List QueueShape → Seat → Type 0
IsSeat shapes seat = AllByRecursion (λ n. AtPlace n (λ (s : QueueShape). seat.partition < s.degree) shapes) seat.lanes × AllByRecursion (λ n. n < length shapes) seat.queues

abbrev pub AreSeats : List QueueShape → List Seat → Type 0
AreSeats shapes seats = AllByRecursion (IsSeat shapes) seats
