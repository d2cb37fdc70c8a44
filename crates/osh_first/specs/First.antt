-- Where the text of a flow stops: with which token no flow goes on, and how the place of a fault lies to it.
use Rattle.std.specs.Prelude.{◌≡◌, ◌≤◌, ◌⊎◌, ℕ, List, [], ◌++◌, length, Some, false}
use Rattle.std.specs.List.{AllByRecursion}
use Rattle.ds_lex.specs.declared.token.Mode.TheVariants.{Osh}
use Rattle.ds_lex.specs.declared.lexeme.End.TheVariants as ends
use Rattle.ds_lex.specs.Lexemes.{Lexeme, LimitedText, place_of}
use Rattle.ds_lex.specs.Reading.{first_of}
use Rattle.ds_lex.specs.Tokens.{IsToken}
use Rattle.ds_lex.specs.Phrases.{◌~◌}
use Rattle.osh_read.specs.declared.fault.OshWhy.{OshWhy}
use Rattle.osh_read.specs.declared.fault.OshWhy.TheVariants as causes
use Rattle.osh_read.specs.declared.stage.Directive.{Directive}
use Rattle.osh_read.specs.Joining.{unjoined}
use Rattle.osh_read.specs.Flows.{is_cut_off, end_why}
use Rattle.osh_sound.specs.Grammar.{WrittenStage, AreStages, stages_of, stages_phrase, directives_phrase}
use Rattle.osh_first.specs.Places.{IsPlace}

-- The tokens, all of them, spell a flow but for the names of its data sets: which of these are written once and read once
-- is only known at the end.
pub record SpellsStages (ts : List Lexeme) : Type 0 where
  pub directives : List Directive
  pub written : List WrittenStage
  pub tokens : (directives_phrase directives ~ stages_phrase written) ts []
  pub stages : AreStages written
  pub few : length written ≤ 200

-- tokens as a text has them
abbrev pub AreTokens : List Lexeme → Type 0
AreTokens ts = AllByRecursion (λ (t : Lexeme). IsToken Osh t.sort t.bytes) ts

-- behind these tokens no flow goes on with the next one of `left`, or where none is left it doesn't end
abbrev pub NoneGoesOn : List Lexeme → List Lexeme → Type 0
NoneGoesOn front left = (more : List Lexeme) → AreTokens more → first_of more ≡ first_of left → SpellsStages (front ++ more) → ⊥

-- ---- where a text stops

-- a token with which no flow goes on, and the fault at it or before it
pub record StopsAt (text : LimitedText) (at : ℕ) (why : OshWhy) : Type 0 where
  pub front : List Lexeme
  pub left : List Lexeme
  pub parts : text.lexemes ≡ front ++ left
  pub stops : NoneGoesOn front left
  pub place : IsPlace (is_cut_off text.end) at why front left

-- behind all tokens stands what is no end of a text, or they spell no whole flow
pub record BreaksOff (text : LimitedText) (at : ℕ) (why : OshWhy) : Type 0 where
  pub unfinished : (len : ℕ) → text.end ≡ ends.Text len → SpellsStages text.lexemes → ⊥
  pub place : at ≡ place_of text.end
  pub cause : why ≡ end_why text.end

-- a whole flow, but at this place stands the first name that isn't written once and read once
pub record LeavesName (text : LimitedText) (at : ℕ) (why : OshWhy) : Type 0 where
  pub flow : SpellsStages text.lexemes
  pub first : unjoined (stages_of flow.written) ≡ Some at
  pub whole : is_cut_off text.end ≡ false
  pub cause : why ≡ causes.Unjoined

abbrev pub Stops : LimitedText → ℕ → OshWhy → Type 0
Stops text at why = StopsAt text at why ⊎ (BreaksOff text at why ⊎ LeavesName text at why)
