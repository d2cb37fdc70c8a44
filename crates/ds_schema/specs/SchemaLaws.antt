-- What ties the reading and the printing of schemas to their grammar.
use Rattle.std.specs.Prelude.{◌≡◌, ◌⊎◌, ℕ, List, length, Option, Some, None, Ok, Err}
use Rattle.ds_lex.specs.declared.token.Mode.TheVariants.{Inner}
use Rattle.ds_lex.specs.Lexemes.{Lexeme, lexed_text}
use Rattle.ds_lex.specs.Reading.{next_place}
use Rattle.ds_lex.specs.Phrases.{Phrase, AreWhole, StopsAt}
use Rattle.ds_schema.specs.declared.schema.Field.{Field}
use Rattle.ds_schema.specs.declared.schema_text.fault.SchemaWhy.{SchemaWhy}
use Rattle.ds_schema.specs.declared.schema_text.fault.SchemaFault.TheVariants.{BadSchema}
use Rattle.ds_schema.specs.Schemas.{IsSchema}
use Rattle.ds_schema.specs.SchemaText.{schema_text}
use Rattle.ds_schema.specs.SchemaGrammar.{SpellsSchema, schema_phrase}
use Rattle.ds_schema.specs.SchemaReading.{schema_of}

-- a text that is tokens alone, and these spell a schema of these fields
abbrev pub SpellsText : List ℕ → List Field → Type 0
SpellsText text fields = ((lexed_text Inner text).bad ≡ None) × SpellsSchema (lexed_text Inner text).lexemes fields

abbrev pub ReadIsSpelled : Type 0
ReadIsSpelled = (text : List ℕ) (fields : List Field) → schema_of text ≡ Ok fields → SpellsText text fields

abbrev pub SpelledIsRead : Type 0
SpelledIsRead = (text : List ℕ) (fields : List Field) → SpellsText text fields → schema_of text ≡ Ok fields

-- a schema of some fields at the front of the tokens
abbrev pub schema_form : List Field → Phrase
schema_form fields ts rest = IsSchema fields × schema_phrase fields ts rest

-- the place behind the last token: where no token begins, or where the text ends
abbrev pub end_place : ℕ → Option ℕ → ℕ
end_place len None = len
end_place len (Some at) = at

-- At this place stands the first token with which no schema goes on, or the end of the tokens where they would have to go on,
-- or else the tokens are a schema and there stands something that is no token.
abbrev pub FaultAt : List ℕ → ℕ → Type 0
FaultAt text at =
    ((left : List Lexeme) × StopsAt schema_form (lexed_text Inner text).lexemes left × (at ≡ next_place (end_place (length text) (lexed_text Inner text).bad) left))
    ⊎ (AreWhole schema_form (lexed_text Inner text).lexemes × ((lexed_text Inner text).bad ≡ Some at))

abbrev pub RefusedAtFault : Type 0
RefusedAtFault = (text : List ℕ) (at : ℕ) (why : SchemaWhy) → schema_of text ≡ Err (BadSchema at why) → FaultAt text at

abbrev pub RefusedIsNone : Type 0
RefusedIsNone = (text : List ℕ) (at : ℕ) (why : SchemaWhy) (fields : List Field) → schema_of text ≡ Err (BadSchema at why) → SpellsText text fields → ⊥

abbrev pub PrintedReadsBack : Type 0
PrintedReadsBack = (fields : List Field) → IsSchema fields → schema_of (schema_text fields) ≡ Ok fields
