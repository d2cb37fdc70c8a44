-- Files that are made together, in their order.
use Rattle.std.specs.Prelude.{◌≡◌, ◌++◌, ℕ, Bool, true, false, List, [], ◌∷◌, Option, Some, None}
use Rattle.ds_port.specs.FileMap.{FileMap, with_file}

-- a file's name, and what it holds
abbrev pub NamedFile : Type 0
NamedFile = List ℕ × List ℕ

-- one file after another is made
abbrev pub with_files : FileMap → List NamedFile → FileMap
with_files files [] = files
with_files files (f ∷ more) = with_files (with_file files (f.0) (f.1)) more

abbrev pub name_or_none : Option (List ℕ) → List ℕ
name_or_none None = []
name_or_none (Some name) = name

-- the file that an output with this name becomes
abbrev pub file_from : Option (List ℕ) → List ℕ → NamedFile
file_from name held = (name_or_none name, held)

-- one file failed: those before it were made, and it and those behind it weren't
pub record MakesSome (old new : FileMap) (all : List NamedFile) : Type 0 where
  pub made : List NamedFile
  pub failed : NamedFile
  pub behind : List NamedFile
  pub all_are : all ≡ made ++ failed ∷ behind
  pub files : new ≡ with_files old made

-- all were made, or where one failed the ones before it
pub record Makes (tells : Type 0) (old new : FileMap) (failed : Bool) (all : List NamedFile) : Type 0 where
  pub ok : tells → failed ≡ false → new ≡ with_files old all
  pub err : tells → failed ≡ true → MakesSome old new all
