-- The texts that spell a configuration, and the first fault of any other: the first token with which no configuration
-- goes on, or the end of the tokens.
use Rattle.std.specs.Prelude.{◌≡◌, ◌⊎◌, ℕ, List, [], ◌∷◌, ◌++◌, length, Bool, true, false, codes}
use Rattle.std.specs.List.{list_any}
use Rattle.ds_value.specs.Names.{IsName}
use Rattle.ds_lex.specs.declared.token.Mode.TheVariants.{Inner}
use Rattle.ds_lex.specs.declared.lexeme.End.{End}
use Rattle.ds_lex.specs.declared.lexeme.End.TheVariants as ends
use Rattle.ds_lex.specs.Lexemes.{Lexeme, LimitedText, place_of, limited_text}
use Rattle.config_read.specs.declared.fault.ConfigWhy.{ConfigWhy}
use Rattle.config_read.specs.declared.fault.ConfigWhy.TheVariants as causes
use Rattle.config_read.specs.declared.fault.ConfigFault.{ConfigFault}
use Rattle.config_read.specs.declared.fault.ConfigFault.TheVariants as fault
use Rattle.config_read.specs.declared.config.Config.{Config}
use Rattle.config_read.specs.Pools.{is_default}
use Rattle.config_read.specs.Spelled.{Is, IsQuoted, content, Text, text_tokens, IsText, Spells}
use Rattle.config_read.specs.Reading.{end_why}

abbrev pub has_default : Config → Bool
has_default config = list_any is_default config.nodes

-- all of the bytes spell the configuration, and a node of it is in the default pool
pub record IsSpelled (bytes : List ℕ) (config : Config) : Type 0 where
  pub whole : (limited_text Inner bytes).end ≡ ends.Text (length bytes)
  pub tokens : Spells (limited_text Inner bytes).lexemes config
  pub default : has_default config ≡ true

-- some configuration begins with these tokens
pub record Begins (ts : List Lexeme) : Type 0 where
  pub more : List Lexeme
  pub config : Config
  pub spelled : Spells (ts ++ more) config

-- by the grammar alone a configuration begins with them
pub record BeginsText (ts : List Lexeme) : Type 0 where
  pub more : List Lexeme
  pub text : Text
  pub tokens : ts ++ more ≡ text_tokens text
  pub grammar : IsText text

-- why no configuration goes on with token t behind the tokens before it: by the grammar, or else there is no room for a
-- node, the name is none, or it is that of another node
abbrev pub IsCause : List Lexeme → Lexeme → ConfigWhy → Type 0
IsCause before t causes.Syntax = BeginsText (before ++ t ∷ []) → ⊥
IsCause before t causes.TooMany = BeginsText (before ++ t ∷ []) × Is (codes "node") t
IsCause before t causes.Name = BeginsText (before ++ t ∷ []) × (IsQuoted t × (IsName (content t) → ⊥))
IsCause before t causes.DoubleNode = BeginsText (before ++ t ∷ []) × (IsQuoted t × IsName (content t))
IsCause before t causes.TooLong = ⊥
IsCause before t causes.Token = ⊥
IsCause before t causes.NoDefault = ⊥

-- a token with which no configuration goes on
pub record StopsAt (ts : List Lexeme) (at : ℕ) (why : ConfigWhy) : Type 0 where
  pub before : List Lexeme
  pub token : Lexeme
  pub behind : List Lexeme
  pub tokens : ts ≡ before ++ token ∷ behind
  pub begun : Begins before
  pub stuck : Begins (before ++ token ∷ []) → ⊥
  pub place : at ≡ token.at
  pub cause : IsCause before token why

-- what stands behind the tokens is no end of a text, or they are no whole configuration
abbrev pub IsOpen : List Lexeme → End → Type 0
IsOpen ts (ends.Text at) = (config : Config) → Spells ts config → ⊥
IsOpen ts (ends.NoToken at) = Unit {0}
IsOpen ts (ends.Limit at) = Unit {0}

-- a configuration begins with all the tokens, and breaks off behind them
pub record BreaksOff (ts : List Lexeme) (end : End) (at : ℕ) (why : ConfigWhy) : Type 0 where
  pub begun : Begins ts
  pub unfinished : IsOpen ts end
  pub place : at ≡ place_of end
  pub cause : why ≡ end_why end

-- a configuration without a node in the default pool
pub record LacksDefault (ts : List Lexeme) (end : End) (at : ℕ) (why : ConfigWhy) : Type 0 where
  pub config : Config
  pub spelled : Spells ts config
  pub none : has_default config ≡ false
  pub whole : end ≡ ends.Text at
  pub cause : why ≡ causes.NoDefault

abbrev pub IsFirst : LimitedText → ℕ → ConfigWhy → Type 0
IsFirst text at why = StopsAt text.lexemes at why ⊎ (BreaksOff text.lexemes text.end at why ⊎ LacksDefault text.lexemes text.end at why)

abbrev pub IsFirstFault : List ℕ → ℕ → ConfigWhy → Type 0
IsFirstFault bytes at why = IsFirst (limited_text Inner bytes) at why

-- a refusal is the first fault
abbrev pub Refuses : ConfigFault → List ℕ → Type 0
Refuses (fault.Bad at why) bytes = IsFirstFault bytes at why
Refuses fault.Memory bytes = Unit {0}
