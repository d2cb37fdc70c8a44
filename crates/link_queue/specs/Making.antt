-- Empty queues.
use Rattle.std.specs.Prelude.{◌≡◌, ℕ, List, [], map}
use Rattle.link_queue.specs.declared.net.QueueShape.{QueueShape}
use Rattle.link_queue.specs.Queues.{Queue}

abbrev pub empty_queue : ℕ → QueueShape → Queue
empty_queue capacity shape = record { capacity = capacity; schema = shape.schema; degree = shape.degree; parcels = [] }

-- an empty queue for each shape
abbrev pub AreMade : ℕ → List QueueShape → List Queue → Type 0
AreMade capacity shapes queues = queues ≡ map (empty_queue capacity) shapes
