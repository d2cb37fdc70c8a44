-- The commands, and which words spell each.
use Rattle.std.specs.Prelude.{◌≡◌, ◌≤◌, ℕ, zero, suc, List, [], ◌∷◌, ◌++◌, length, Bool, true, false, ◌==◌, codes}
use Rattle.std.specs.List.{flat_map}
use Rattle.std.specs.Str.Parse.{IsNumeral, digits_value}
use Rattle.ds_value.specs.Names.{IsName}
use Rattle.osh_words.specs.declared.command.Command.{Command}
use Rattle.osh_words.specs.declared.command.Command.TheVariants as command

abbrev pub begins_with_dash : List ℕ → Bool
begins_with_dash [] = false
begins_with_dash (b ∷ bs) = b == 45

-- the name of a file, which doesn't begin with '-'
pub record IsFile (word : List ℕ) : Type 0 where
  pub name : IsName word
  pub plain : begins_with_dash word ≡ false

-- 1 to 19 decimal digits that write n, a number from low to high
pub record Writes (low high : ℕ) (word : List ℕ) (n : ℕ) : Type 0 where
  pub digits : IsNumeral 10 word
  pub short : length word ≤ 19
  pub value : n ≡ digits_value 10 word
  pub least : low ≤ n
  pub most : n ≤ high

-- an option of `run`, with the word behind it
pub data Written : Type 0 where
  Serial : Written
  Cap : List ℕ → Written
  Spill : List ℕ → Written

abbrev pub words_of : Written → List (List ℕ)
words_of Serial = codes "-serial" ∷ []
words_of (Cap word) = codes "-cap" ∷ word ∷ []
words_of (Spill word) = codes "-spill" ∷ word ∷ []

-- how often `-serial` stands among the options
abbrev pub serials : List Written → ℕ
serials [] = 0
serials (Serial ∷ os) = suc (serials os)
serials (Cap word ∷ os) = serials os
serials (Spill word ∷ os) = serials os

-- the words behind each `-cap`
abbrev pub caps : List Written → List (List ℕ)
caps [] = []
caps (Serial ∷ os) = caps os
caps (Cap word ∷ os) = word ∷ caps os
caps (Spill word ∷ os) = caps os

-- the words behind each `-spill`
abbrev pub spills : List Written → List (List ℕ)
spills [] = []
spills (Serial ∷ os) = spills os
spills (Cap word ∷ os) = spills os
spills (Spill word ∷ os) = word ∷ spills os

-- an option without a value, which stands so often, at most once: whether it stands
abbrev pub Flags : ℕ → Bool → Type 0
Flags zero b = b ≡ false
Flags (suc zero) b = b ≡ true
Flags (suc (suc n)) b = ⊥

-- an option with these words behind it, which stands at most once: a number from low to high, or the usual one
abbrev pub Sets : ℕ → ℕ → ℕ → List (List ℕ) → ℕ → Type 0
Sets low high usual [] n = n ≡ usual
Sets low high usual (word ∷ []) n = Writes low high word n
Sets low high usual (word ∷ more ∷ words) n = ⊥

-- `run`, its options in any order, a flow and a configuration
pub record IsRun (words : List (List ℕ)) (serial : Bool) (cap spill : ℕ) (flow config : List ℕ) : Type 0 where
  pub options : List Written
  pub spelled : words ≡ codes "run" ∷ (flat_map words_of options ++ flow ∷ config ∷ [])
  pub serial_set : Flags (serials options) serial
  pub cap_set : Sets 1 1024 64 (caps options) cap
  pub spill_set : Sets 0 1024 16 (spills options) spill
  pub flow_named : IsFile flow
  pub config_named : IsFile config

-- `gen` and two numbers
pub record IsGen (words : List (List ℕ)) (n x : ℕ) : Type 0 where
  pub count : List ℕ
  pub seed : List ℕ
  pub spelled : words ≡ codes "gen" ∷ count ∷ seed ∷ []
  pub count_written : Writes 7 1000000 count n
  pub seed_written : Writes 0 9999999999999999999 seed x

abbrev pub Spells : List (List ℕ) → Command → Type 0
Spells words (command.Check flow) = (words ≡ codes "check" ∷ flow ∷ []) × IsFile flow
Spells words (command.Score flow config) = (words ≡ codes "score" ∷ flow ∷ config ∷ []) × (IsFile flow × IsFile config)
Spells words (command.Meaning flow) = (words ≡ codes "meaning" ∷ flow ∷ []) × IsFile flow
Spells words (command.Run serial cap spill flow config) = IsRun words serial cap spill flow config
Spells words (command.Gen n x) = IsGen words n x
