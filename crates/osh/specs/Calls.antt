-- A whole call of the program.
use Rattle.std.specs.Prelude.{◌≡◌, ◌⊎◌, ◌≤◌, ℕ, Bool, true, false, IsTrue, List}
use Rattle.ds_port.specs.Causes.{Rose}
use Rattle.ds_port.specs.FileMap.{FileMap}
use Rattle.osh_ends.specs.Leaves.{Runs, Tells}
use Rattle.osh_words.specs.declared.command.Command.{Command}
use Rattle.osh_words.specs.declared.command.Command.TheVariants as command
use Rattle.osh_words.specs.Spelled.{Spells}

-- An object of a call: whether it tells what it holds, what it held before and holds after the call, and how often it had failed before and has failed after it.
pub record Object (A : Type 0) : Type 0 where
  pub tells : Bool
  pub old : A
  pub new : A
  pub before : ℕ
  pub now : ℕ

abbrev pub HasFailed : {A : Type 0} → Object A → Type 0
HasFailed object = Rose object.before object.now

-- what it leaves in files and on out, and its status, with its line on err, or a part of the line where err failed
abbrev pub Calls : List (List ℕ) → (files : Object FileMap) → (out err : Object (List ℕ)) → ℕ → Type 0
Calls words files out err status =
    IsTrue files.tells → (line : List ℕ) × Runs words files.old files.new out.tells out.old out.new (HasFailed files) (HasFailed out) line status × (IsTrue err.tells → Tells line err.before err.now err.old err.new)

-- 0 to 10, or 12
abbrev pub IsStatus : ℕ → Type 0
IsStatus status = (status ≤ 10) ⊎ (status ≡ 12)

-- the words spell no command
abbrev pub IsNoCommand : List (List ℕ) → Type 0
IsNoCommand words = (c : Command) → Spells words c → ⊥

-- a command that isn't built
abbrev pub IsUnbuilt : Command → Type 0
IsUnbuilt (command.Check flow) = ⊥
IsUnbuilt (command.Run true cap spill flow config) = ⊥
IsUnbuilt (command.Run false cap spill flow config) = Unit {0}
IsUnbuilt (command.Score flow config) = Unit {0}
IsUnbuilt (command.Meaning flow) = Unit {0}
IsUnbuilt (command.Gen n x) = Unit {0}

-- The words alone decide: the status is 1 where they spell no command, and nowhere else, and 8 where they spell a command that isn't built, unless memory is wanting.
pub record WordsDecide (words : List (List ℕ)) (status : ℕ) : Type 0 where
  pub usage : IsNoCommand words → (status ≡ 1) ⊎ (status ≡ 12)
  pub only : status ≡ 1 → IsNoCommand words
  pub unbuilt : (c : Command) → Spells words c → IsUnbuilt c → (status ≡ 8) ⊎ (status ≡ 12)
