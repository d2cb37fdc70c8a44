-- The files of a plan's sources, as the first contents of their queues.
use Rattle.std.specs.Prelude.{◌≡◌, Bool, ◌&&◌, if◌then◌else◌, List, [], map}
use Rattle.streams.specs.Streams.{whole}
use Rattle.streams.specs.Core.{Player, Lane, same_lane, Parcel, AreFiles}
use Rattle.streams.specs.Plans.{comes_to}
use Rattle.streams.specs.Wiring.{Plan, net_of, IsWired}
use Rattle.core_laws.specs.Driven.{plan_shape}

-- the player that reads a queue, and the lane of a file by its queue
abbrev pub reader : {X F : Type 0} → Plan X F → Lane → Player
reader plan q = record { operator = (plan.wire q.link).into; partition = q.to }

abbrev pub file_of : Lane → Lane
file_of q = record { link = q.link; from = q.to; to = q.to }

-- whether a name is that of a file's queue
abbrev pub is_file_queue : {X F : Type 0} → Plan X F → Lane → Bool
is_file_queue plan q = (plan.wire q.link).file && (comes_to (net_of plan) (reader plan q) (file_of q) && same_lane ((net_of plan).into (file_of q)) q)

-- The queues before anything is taken: the lists of files with their ends, and nothing else.
abbrev pub files_of : {X F : Type 0} → Plan X F → (Lane → List X) → Lane → List (Parcel X)
files_of plan lists q = if is_file_queue plan q then map (λ item. record { lane = file_of q; item = item }) (whole (lists (file_of q))) else []

-- They are such as the laws of the step core ask, for each wired plan and whatever the lists are.
abbrev pub PlanFilesAre : Type 0 → Type 0 → Type 0
PlanFilesAre X F = (plan : Plan X F) → IsWired plan → (lists : Lane → List X) → (full : AreFiles (plan_shape plan) (files_of plan lists)) × (full.lists ≡ lists)
