-- A row that a collector gave is fed to its operator.
use Rattle.std.specs.Prelude.{◌≡◌, ℕ, Bool, List, [], ◌∷◌, ◌++◌}
use Rattle.streams.specs.Streams.{Feed, Out, AtMostOne, rows_out, emits_after}
use Rattle.streams.specs.Plans.{handed}
use Rattle.op_base.specs.declared.fault.Fault.{Fault}
use Rattle.op_base.specs.declared.emit.Sent.{Sent}
use Rattle.op_base.specs.declared.emit.Emit.{Emit}
use Rattle.op_base.specs.Columns.{Row}
use Rattle.op_base.specs.Emits.{Adds, rows_sent}
use Rattle.op_base.specs.Standing.{RowStream, MayFeed, row_feed}

-- what was sent is no more than one row, which the operator wants
pub record MayHand (stream : RowStream) (suits : List (Feed Row) → Bool) (Stands : List (Feed Row) → Type 0) (port : ℕ) (sent : List Sent) : Type 0 where
  pub outs : List (Out Row Fault)
  pub slim : AtMostOne outs
  pub same : sent ≡ rows_sent outs
  pub may : (x : Row) → rows_out outs ≡ x ∷ [] → MayFeed stream suits Stands (row_feed port x)

-- it was fed that row, and emitted what its stream gives
abbrev pub HandsOn : RowStream → (List (Feed Row) → Type 0) → (List (Feed Row) → Type 0) → ℕ → List Sent → Emit → Emit → Type 0
HandsOn stream Old New port sent before emit = (outs : List (Out Row Fault)) → AtMostOne outs → sent ≡ rows_sent outs → (feeds : List (Feed Row)) → Old feeds →
    New (feeds ++ handed port outs) × Adds before emit (emits_after stream feeds (handed port outs))
