-- What a link tells of its lanes and queues.
use Rattle.std.specs.Prelude.{◌≡◌, ℕ, ◌+◌, ◌<◌, ⊤, true, min, List, Option}
use Rattle.std.specs.List.{AllByRecursion}
use Rattle.atomic_table.specs.Seated.{TableId}
use Rattle.ds_schema.specs.declared.schema.Field.{Field}
use Rattle.ds_schema.specs.Schemas.{row_fits}
use Rattle.ds_pack.specs.declared.message.Msg.{Msg}
use Rattle.ds_pack.specs.declared.message.Msg.TheVariants.{Rows, End}
use Rattle.op_base.specs.Columns.{Row}
use Rattle.streams.specs.Batches.{Message, batch, stop}
use Rattle.link_queue.specs.declared.parcel.Parcel.{Parcel}

-- a message as the core has it
abbrev pub message : Msg → Message Row
message (Rows rows) = batch rows
message End = stop

-- each row of a message fits the schema
abbrev pub FitsMsg : List Field → Msg → Type 0
FitsMsg schema (Rows rows) = AllByRecursion (λ (r : Row). row_fits schema r ≡ true) rows
FitsMsg schema End = ⊤

-- a parcel of a queue: its producer's partition is there, and its rows fit
abbrev pub Fits : List Field → ℕ → Parcel → Type 0
Fits schema degree parcel = (parcel.from < degree) × FitsMsg schema parcel.msg

-- which queue a way leads to: its number in the net, and the shared table in which a ruled one lies
pub record Way : Type 0 where
  pub table : Option TableId
  pub number : ℕ

-- one lane: a ruled one tells what was put, and how often put answered Full
pub record LaneTold : Type 0 where
  pub way : Way
  pub schema : List Field
  pub put : Option (List Msg)
  pub fulls : Option ℕ

-- one queue, and its producer's degree: a ruled one tells what was taken, and how often take answered None
pub record QueueTold : Type 0 where
  pub way : Way
  pub schema : List Field
  pub degree : ℕ
  pub taken : Option (List Parcel)
  pub nones : Option ℕ

-- a player's number, its partition and its ways; a listed link tells the queues of the net, and their capacity
pub record Told : Type 0 where
  pub player : ℕ
  pub partition : ℕ
  pub lanes : List LaneTold
  pub queues : List QueueTold
  pub net : Option (List (List Parcel))
  pub capacity : ℕ

-- a number that stands still at its type's end
abbrev pub risen : ℕ → ℕ
risen n = min (n + 1) 18446744073709551615
