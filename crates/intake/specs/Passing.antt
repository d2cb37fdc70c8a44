-- One more item of a lane, through the collector of its port.
use Rattle.std.specs.Prelude.{◌≡◌, ℕ, Bool, true, List, [], ◌∷◌, ◌++◌}
use Rattle.streams.specs.Streams.{Feed, Fed, IsCollector, emits_after}
use Rattle.streams.specs.Plans.{pass_by}
use Rattle.op_base.specs.declared.emit.Emit.{Emit}
use Rattle.op_base.specs.Columns.{Row}
use Rattle.op_base.specs.Emits.{Adds}
use Rattle.op_base.specs.Standing.{RowStream}

-- The collector and the operator stand for some feeds, after which the item is wanted and suits them.
pub record MayPass (operator collector : RowStream) (op_suits col_suits : List (Feed Row) → Bool) (OpStands ColStands : List (Feed Row) → Type 0) (port : ℕ) (f : Feed Row) : Type 0 where
  pub done : List (Feed Row)  -- what the collector was fed
  pub feeds : List (Feed Row)  -- what the operator was fed
  pub col_stands : ColStands done
  pub op_stands : OpStands feeds
  pub is_collector : IsCollector collector
  pub fed : Fed collector done
  pub col_wants : collector.wants done f.port ≡ true
  pub op_wants : operator.wants feeds port ≡ true
  pub col_suited : col_suits (done ++ f ∷ []) ≡ true
  pub op_suited : (g : Feed Row) (rest : List (Feed Row)) → pass_by collector port done f ≡ g ∷ rest → op_suits (feeds ++ g ∷ []) ≡ true

-- They stand for one item more, and what the operator emits of what the collector passes was emitted.
abbrev pub Passes : RowStream → RowStream → (List (Feed Row) → Type 0) → (List (Feed Row) → Type 0) → (List (Feed Row) → Type 0) → (List (Feed Row) → Type 0) → ℕ → Feed Row → Emit → Emit → Type 0
Passes operator collector OldOp NewOp OldCol NewCol port f before emit =
    IsCollector collector → (done feeds : List (Feed Row)) → Fed collector done → collector.wants done f.port ≡ true → OldCol done → OldOp feeds →
    NewCol (done ++ f ∷ []) × NewOp (feeds ++ pass_by collector port done f) × Adds before emit (emits_after operator feeds (pass_by collector port done f))
