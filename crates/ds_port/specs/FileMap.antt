-- What files hold, by their names.
use Rattle.std.specs.Prelude.{◌≡◌, ◌≢◌, ℕ, List, Option, Some, None}
use Rattle.std.specs.Ordering.{nat_cmp}
use Rattle.std.specs.Cmp.Lexicographic.{slice_cmp}
use Rattle.std.specs.FinMap.{FinMap, get, insert, from_entries, empty}

abbrev pub FileMap : Type 0
FileMap = FinMap (slice_cmp nat_cmp) (List ℕ)

-- no file
abbrev pub no_files : FileMap
no_files = empty

-- the bytes under a name
abbrev pub file_at : FileMap → List ℕ → Option (List ℕ)
file_at files name = get files name

-- the same files, but these bytes under this name
abbrev pub with_file : FileMap → List ℕ → List ℕ → FileMap
with_file files name bytes = insert files name bytes

-- the files of a list; of two with one name the first counts
abbrev pub files_of_list : List (List ℕ × List ℕ) → FileMap
files_of_list list = from_entries list

-- no file is there at first; a file that was put is found, and it changes no other
pub record MapLaws : Type 0 where
  pub none : (name : List ℕ) → file_at no_files name ≡ None
  pub put : (files : FileMap) (name bytes : List ℕ) → file_at (with_file files name bytes) name ≡ Some bytes
  pub others : (files : FileMap) (name bytes other : List ℕ) → other ≢ name → file_at (with_file files name bytes) other ≡ file_at files other
