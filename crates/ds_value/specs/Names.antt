-- Names of files, and of what a configuration speaks of.
use Rattle.std.specs.Prelude.{ℕ, ◌≤◌, Bool, nat_le, not, ◌&&◌, ◌==◌, List, length}
use Rattle.std.specs.List.{AllPass}

-- printable ASCII, and no quote
abbrev pub is_name_byte : ℕ → Bool
is_name_byte b = nat_le 32 b && (nat_le b 126 && (not (b == 34) && not (b == 39)))

-- a name that may be empty
pub record IsName0 (bytes : List ℕ) : Type 0 where
  pub short : length bytes ≤ 255
  pub each : AllPass is_name_byte bytes

pub record IsName (bytes : List ℕ) : Type 0 where
  pub some : 1 ≤ length bytes
  pub short : length bytes ≤ 255
  pub each : AllPass is_name_byte bytes
