-- The first fault of a text that is no schema: its place, and its cause.
use Rattle.std.specs.Prelude.{◌≡◌, ◌⊎◌, ℕ, List, [], ◌∷◌, ◌++◌, length, Option, Some, None}
use Rattle.ds_lex.specs.declared.token.Mode.TheVariants.{Inner}
use Rattle.ds_lex.specs.Lexemes.{Lexeme, lexed_text}
use Rattle.ds_lex.specs.Phrases.{AreWhole}
use Rattle.ds_schema.specs.declared.schema.Field.{Field}
use Rattle.ds_schema.specs.declared.schema_text.fault.SchemaWhy.{SchemaWhy}
use Rattle.ds_schema.specs.declared.schema_text.fault.SchemaWhy.TheVariants as causes
use Rattle.ds_schema.specs.SchemaLaws.{schema_form}
use Rattle.schema_faults.specs.Places.{IsFree, NameStands, TypeStands, SizeStands}

-- Why no schema goes on with token t behind the tokens before it: it is a word where a type must stand, or a number where a
-- size must stand; or a word where a field's name must stand, which the field can't have, or else there are 256 fields
-- before it. At any other place, and for any other token, no rule goes on.
abbrev pub IsCause : List Lexeme → Lexeme → SchemaWhy → Type 0
IsCause before t causes.NoType = (fields : List Field) × TypeStands fields before t
IsCause before t causes.Size = (fields : List Field) × SizeStands fields before t
IsCause before t causes.Name = (fields : List Field) × NameStands fields before t × (IsFree fields t.bytes → ⊥)
IsCause before t causes.Count = (fields : List Field) × NameStands fields before t × IsFree fields t.bytes × (length fields ≡ 256)
IsCause before t causes.Syntax =
    (fields : List Field) → (TypeStands fields before t → ⊥) × (SizeStands fields before t → ⊥) × (NameStands fields before t → ⊥)
IsCause before t causes.Token = ⊥

-- a schema begins with these tokens
abbrev pub Begins : List Lexeme → Type 0
Begins ts = (more : List Lexeme) × AreWhole schema_form (ts ++ more)

-- a token with which no schema goes on, though one begins with those before it
pub record StopsAt (ts : List Lexeme) (at : ℕ) (why : SchemaWhy) : Type 0 where
  pub before : List Lexeme
  pub token : Lexeme
  pub behind : List Lexeme
  pub tokens : ts ≡ before ++ token ∷ behind
  pub begun : Begins before
  pub stuck : Begins (before ++ token ∷ []) → ⊥
  pub place : at ≡ token.at
  pub cause : IsCause before token why

-- what stands behind the last token: something that is no token, or else the end of the text, and the tokens are no whole schema
abbrev pub IsEnd : List Lexeme → ℕ → Option ℕ → ℕ → SchemaWhy → Type 0
IsEnd ts len (Some bad) at why = (at ≡ bad) × (why ≡ causes.Token)
IsEnd ts len None at why = (at ≡ len) × (why ≡ causes.Syntax) × (AreWhole schema_form ts → ⊥)

-- a schema begins with all the tokens, and breaks off behind them
pub record BreaksOff (ts : List Lexeme) (len : ℕ) (bad : Option ℕ) (at : ℕ) (why : SchemaWhy) : Type 0 where
  pub begun : Begins ts
  pub broken : IsEnd ts len bad at why

abbrev pub IsFirstFault : List ℕ → ℕ → SchemaWhy → Type 0
IsFirstFault text at why =
    StopsAt (lexed_text Inner text).lexemes at why
    ⊎ BreaksOff (lexed_text Inner text).lexemes (length text) (lexed_text Inner text).bad at why
