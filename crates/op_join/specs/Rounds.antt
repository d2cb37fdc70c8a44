-- How a join's operator takes runs off.
use Rattle.std.specs.Prelude.{◌≡◌, ℕ, zero, suc, ◌+◌, Bool, false, ◌&&◌, if◌then◌else◌, Option, Some, None, List, [], ◌∷◌, length}
use Rattle.std.specs.declared.cmp.Ordering.{Ordering}
use Rattle.std.specs.declared.cmp.Ordering.TheVariants.{Less, Greater}
use Rattle.streams.specs.Streams.{Out}
use Rattle.ds_schema.specs.Rows.{cols, val, vals_cmp, ways}
use Rattle.op_base.specs.declared.emit.Emit.{Emit}
use Rattle.op_base.specs.declared.fault.Fault.{Fault}
use Rattle.op_base.specs.Columns.{Row}
use Rattle.op_base.specs.Emits.{Adds}
use Rattle.op_base.specs.Feeds.{emits, left}
use Rattle.op_base.specs.Meanings.{Join}
use Rattle.op_join.specs.declared.joiner.Join.{Join as Joiner}
use Rattle.op_join.specs.Joining.{join_outs, key_columns}
use Rattle.op_join.specs.Waiting.{meant, side_rows, is_complete, IsRun}

abbrev pub rows_waiting : Joiner → List (List Row)
rows_waiting s = side_rows s.left ∷ (side_rows s.right ∷ [])

abbrev pub ends_known : Joiner → List Bool
ends_known s = s.left.over ∷ (s.right.over ∷ [])

abbrev pub row_count : Joiner → ℕ
row_count s = length (side_rows s.left) + length (side_rows s.right)

pub record IsSound (s : Joiner) : Type 0 where
  pub same_ways : ways s.layout.left.keys ≡ ways s.layout.right.keys
  pub left_run : IsRun (cols s.layout.left.keys) s.left.run.items s.left.next
  pub right_run : IsRun (cols s.layout.right.keys) s.right.run.items s.right.next

-- how the key values of two runs compare; a run without rows comes last
abbrev pub runs_cmp : Join → List Row → List Row → Option Ordering
runs_cmp j [] [] = None
runs_cmp j [] (b ∷ rights) = Some Greater
runs_cmp j (a ∷ lefts) [] = Some Less
runs_cmp j (a ∷ lefts) (b ∷ rights) = Some (vals_cmp (ways j.left_keys) (val (cols j.left_keys) a) (val (cols j.right_keys) b))

-- how the first runs compare, once both are complete
abbrev pub turn : Joiner → Option Ordering
turn s = if is_complete s.left && is_complete s.right then runs_cmp (meant s.layout) s.left.run.items s.right.run.items else None

-- the first run of a port isn't complete
abbrev pub MayAdd : Joiner → ℕ → Type 0
MayAdd s zero = is_complete s.left ≡ false
MayAdd s (suc zero) = is_complete s.right ≡ false
MayAdd s (suc (suc port)) = ⊥

-- what the waiting rows give, and what they leave
abbrev pub due : Joiner → List (Out Row Fault)
due s = emits (ways s.layout.left.keys) (key_columns (meant s.layout)) (join_outs (meant s.layout)) (ends_known s) (rows_waiting s)

abbrev pub remaining : Joiner → List (List Row)
remaining s = left (ways s.layout.left.keys) (key_columns (meant s.layout)) (ends_known s) (rows_waiting s)

-- some runs were taken off and what they give was emitted: with what is still due, all that was due is emitted
pub record TakesOff (old new : Joiner) (before now : Emit) : Type 0 where
  pub sound : IsSound new
  pub layout : new.layout ≡ old.layout
  pub ends : ends_known new ≡ ends_known old
  pub rows : remaining new ≡ remaining old
  pub emits : (later : Emit) → Adds now later (due new) → Adds before later (due old)
