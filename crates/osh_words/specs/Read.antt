-- The words read from left to right. That this is what spells a command is the law `reads_what_is_spelled`.
use Rattle.std.specs.Prelude.{◌≡◌, ℕ, zero, suc, List, [], ◌∷◌, length, Bool, true, false, not, ◌&&◌, nat_le, if◌then◌else◌, Option, Some, None, Result, Ok, Err, codes}
use Rattle.std.specs.List.{list_all}
use Rattle.std.specs.Str.{bytes_eq}
use Rattle.std.specs.Str.Parse.{digits_value}
use Rattle.ds_value.specs.Names.{is_name_byte}
use Rattle.osh_words.specs.declared.command.Command.{Command}
use Rattle.osh_words.specs.declared.command.Command.TheVariants as command
use Rattle.osh_words.specs.declared.command.WordFault.{WordFault}
use Rattle.osh_words.specs.declared.command.WordFault.TheVariants.{Usage, Memory}
use Rattle.osh_words.specs.declared.options.Options.{Options}
use Rattle.osh_words.specs.declared.options.Setting.{Setting}
use Rattle.osh_words.specs.declared.options.Setting.TheVariants as setting
use Rattle.osh_words.specs.Spelled.{begins_with_dash}

abbrev pub is_file : List ℕ → Bool
is_file word = nat_le 1 (length word) && (nat_le (length word) 255 && (list_all is_name_byte word && not (begins_with_dash word)))

abbrev pub file_of : List ℕ → Option (List ℕ)
file_of word = if is_file word then Some word else None

abbrev pub is_digit : ℕ → Bool
is_digit b = nat_le 48 b && nat_le b 57

abbrev pub is_number : ℕ → ℕ → List ℕ → Bool
is_number low high word = list_all is_digit word && (nat_le 1 (length word) && (nat_le (length word) 19 && (nat_le low (digits_value 10 word) && nat_le (digits_value 10 word) high)))

abbrev pub number_of : ℕ → ℕ → List ℕ → Option ℕ
number_of low high word = if is_number low high word then Some (digits_value 10 word) else None

abbrev pub and_then : {A B : Type 0} → Option A → (A → Option B) → Option B
and_then None f = None
and_then (Some x) f = f x

-- a number at the front, and what is behind it
abbrev pub number_front : ℕ → ℕ → List (List ℕ) → Option (ℕ × List (List ℕ))
number_front low high [] = None
number_front low high (word ∷ words) = and_then (number_of low high word) (λ n. Some (n, words))

-- an option at the front, and what is behind it
unfoldable pub setting_front : List (List ℕ) → Option (Setting × List (List ℕ))
setting_front [] = None
setting_front (word ∷ words) =
    if bytes_eq word (codes "-serial") then Some (setting.Serial, words)
    else if bytes_eq word (codes "-cap") then and_then (number_front 1 1024 words) (λ x. Some (setting.Cap x.0, x.1))
    else if bytes_eq word (codes "-spill") then and_then (number_front 0 1024 words) (λ x. Some (setting.Spill x.0, x.1))
    else None

-- none twice
abbrev pub with_serial : Options → Bool → Option Options
with_serial o true = None
with_serial o false = Some (record o { serial = true })

abbrev pub with_cap : Options → ℕ → Option ℕ → Option Options
with_cap o n (Some m) = None
with_cap o n None = Some (record o { cap = Some n })

abbrev pub with_spill : Options → ℕ → Option ℕ → Option Options
with_spill o n (Some m) = None
with_spill o n None = Some (record o { spill = Some n })

abbrev pub with_setting : Options → Setting → Option Options
with_setting o setting.Serial = with_serial o o.serial
with_setting o (setting.Cap n) = with_cap o n o.cap
with_setting o (setting.Spill n) = with_spill o n o.spill

abbrev pub or_these : Options → List (List ℕ) → Option (Options × List (List ℕ)) → Options × List (List ℕ)
or_these o words None = (o, words)
or_these o words (Some x) = x

-- one more option taken off the front, where one may stand there
unfoldable pub after_option : Options → List (List ℕ) → Options × List (List ℕ)
after_option o words = or_these o words (and_then (setting_front words) (λ x. and_then (with_setting o x.0) (λ p. Some (p, x.1))))

-- up to n more
abbrev pub after_options : ℕ → Options → List (List ℕ) → Options × List (List ℕ)
after_options zero o words = (o, words)
after_options (suc n) o words = after_options n (after_option o words).0 (after_option o words).1

abbrev pub no_options : Options
no_options = record { serial = false; cap = None; spill = None }

abbrev pub or_else : ℕ → Option ℕ → ℕ
or_else usual None = usual
or_else usual (Some n) = n

abbrev pub check_of : List (List ℕ) → Option Command
check_of (flow ∷ []) = if is_file flow then Some (command.Check flow) else None
check_of words = None

abbrev pub score_of : List (List ℕ) → Option Command
score_of (flow ∷ config ∷ []) = if is_file flow && is_file config then Some (command.Score flow config) else None
score_of words = None

abbrev pub meaning_of : List (List ℕ) → Option Command
meaning_of (flow ∷ []) = if is_file flow then Some (command.Meaning flow) else None
meaning_of words = None

abbrev pub run_with : Options → List (List ℕ) → Option Command
run_with o (flow ∷ config ∷ []) =
    if is_file flow && is_file config then Some (command.Run o.serial (or_else 64 o.cap) (or_else 16 o.spill) flow config) else None
run_with o words = None

unfoldable pub run_of : List (List ℕ) → Option Command
run_of words = run_with (after_options 3 no_options words).0 (after_options 3 no_options words).1

abbrev pub gen_of : List (List ℕ) → Option Command
gen_of (count ∷ seed ∷ []) = and_then (number_of 7 1000000 count) (λ n. and_then (number_of 0 9999999999999999999 seed) (λ x. Some (command.Gen n x)))
gen_of words = None

unfoldable pub command_of : List (List ℕ) → Option Command
command_of [] = None
command_of (word ∷ words) =
    if bytes_eq word (codes "check") then check_of words
    else if bytes_eq word (codes "score") then score_of words
    else if bytes_eq word (codes "meaning") then meaning_of words
    else if bytes_eq word (codes "run") then run_of words
    else if bytes_eq word (codes "gen") then gen_of words
    else None

-- what was answered is what is read, unless memory ran out
abbrev pub Reads : {A : Type 0} → Result A WordFault → Option A → Type 0
Reads (Ok x) read = read ≡ Some x
Reads (Err Usage) read = read ≡ None
Reads (Err Memory) read = Unit {0}
