-- What a piece of a reader's buffer holds of a line.
use Rattle.std.specs.Prelude.{◌≡◌, ◌<◌, ◌++◌, ◌+◌, ℕ, List, ◌∷◌, length, take, drop}
use Rattle.ds_text.specs.Lines.{IsFree}
use Rattle.ds_text.specs.Readers.{Reader}

-- the bytes of a line that are kept while it is read: one more than is given, since the last may be byte 13
abbrev pub kept : List ℕ → List ℕ
kept raw = take 2_097_154 raw

-- the first line of a piece has n bytes
abbrev pub EndsAt : List ℕ → ℕ → Type 0
EndsAt bytes n = (n < length bytes) × IsFree (take n bytes) × (drop n bytes ≡ 10 ∷ drop (n + 1) bytes)

-- a piece without byte 10 was taken from a reader, and what stands behind the piece
pub record Takes (old new : Reader) (behind : List ℕ) (into_old into_new : List ℕ) : Type 0 where
  pub piece : List ℕ
  pub free : IsFree piece
  pub left : old.left ≡ piece ++ (behind ++ new.left)
  pub room : old.room ≡ length piece + (length behind + new.room)
  pub some : 0 < length piece + length behind
  pub into : into_new ≡ kept (into_old ++ piece)
  pub faults : new.faults ≡ old.faults
