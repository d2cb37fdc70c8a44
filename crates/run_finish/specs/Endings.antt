-- How the end of a run leaves files and out.
use Rattle.std.specs.Prelude.{◌≡◌, ◌++◌, ◌⊎◌, ℕ, Bool, List, [], ◌∷◌, take}
use Rattle.ds_port.specs.FileMap.{FileMap}
use Rattle.flow_outputs.specs.Outputs.{NamedFile, with_files}
use Rattle.osh_ends.specs.Leaves.{Leaves}
use Rattle.run_finish.specs.declared.ending.Ending.{Ending}
use Rattle.run_finish.specs.declared.ending.Ending.TheVariants as ending

-- the files were made and the text was printed; or one file couldn't be made, when those before it were, and it and those behind it weren't; or out failed, when all files were made and a part of the text was out; or memory was wanting, and nothing is left
abbrev pub Delivers : (old new : FileMap) → List NamedFile → (tells : Bool) → (out_old out_new text : List ℕ) → (files_rose out_rose : Type 0) → Ending → Type 0
Delivers old new all tells out_old out_new text files_rose out_rose ending.Done = Leaves (with_files old all) new tells out_old out_new text
Delivers old new all tells out_old out_new text files_rose out_rose ending.Faulty = ⊥
Delivers old new all tells out_old out_new text files_rose out_rose ending.Device =
    ((made : List NamedFile) × (failed : NamedFile) × (behind : List NamedFile) × (all ≡ made ++ failed ∷ behind) × Leaves (with_files old made) new tells out_old out_new [] × files_rose)
    ⊎ ((n : ℕ) × Leaves (with_files old all) new tells out_old out_new (take n text) × out_rose)
Delivers old new all tells out_old out_new text files_rose out_rose ending.Memory = Leaves old new tells out_old out_new []

-- no file was made, and the text was printed, or a part of it where out failed, or nothing where memory was wanting
abbrev pub Refuses : (old new : FileMap) → (tells : Bool) → (out_old out_new text : List ℕ) → (out_rose : Type 0) → Ending → Type 0
Refuses old new tells out_old out_new text out_rose ending.Done = ⊥
Refuses old new tells out_old out_new text out_rose ending.Faulty = Leaves old new tells out_old out_new text
Refuses old new tells out_old out_new text out_rose ending.Device = (n : ℕ) × Leaves old new tells out_old out_new (take n text) × out_rose
Refuses old new tells out_old out_new text out_rose ending.Memory = Leaves old new tells out_old out_new []
