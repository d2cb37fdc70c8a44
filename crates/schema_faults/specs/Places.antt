-- The places of a schema at which a token of some sort must stand and not each token of that sort may: those of a field's
-- name, of a type and of a size. Each is said by what stands before it.
use Rattle.std.specs.Prelude.{◌≡◌, ◌≤◌, ◌<◌, ℕ, List, [], ◌∷◌, length, codes}
use Rattle.std.specs.List.{AllByRecursion}
use Rattle.ds_lex.specs.declared.token.Sort.TheVariants as sort
use Rattle.ds_lex.specs.Lexemes.{Lexeme}
use Rattle.ds_lex.specs.Phrases.{Phrase, word, token, nothing, ◌~◌, ◌<|>◌}
use Rattle.ds_schema.specs.declared.schema.Field.{Field}
use Rattle.ds_schema.specs.Schemas.{IsField, IsFieldName, AreDistinct}
use Rattle.ds_schema.specs.SchemaGrammar.{field_phrase}

-- fields with which a schema may begin
pub record AreFields (fields : List Field) : Type 0 where
  pub few : length fields ≤ 256
  pub each : AllByRecursion IsField fields
  pub distinct : AreDistinct fields

-- a name that a field behind these may have
pub record IsFree (fields : List Field) (name : List ℕ) : Type 0 where
  pub named : IsFieldName name
  pub differs : AllByRecursion (λ f. f.name ≡ name → ⊥) fields

-- fields with a semicolon behind each
abbrev pub closed_fields : List Field → Phrase
closed_fields [] = nothing
closed_fields (f ∷ fields) = field_phrase f ~ word (codes ";") ~ closed_fields fields

-- what stands before a field behind these
abbrev pub before_field : List Field → Phrase
before_field fields = word (codes "record") ~ word (codes "(") ~ closed_fields fields

-- what stands before the type of that field
abbrev pub before_type : List Field → Phrase
before_type fields = before_field fields ~ token sort.Word (IsFree fields) ~ word (codes ":") ~ (word (codes "nullable") <|> nothing)

abbrev pub a_number : Phrase
a_number = token sort.Number (λ bytes. Unit {0})

-- what stands in a type before its precision, scale or length
abbrev pub before_number : Phrase
before_number =
    word (codes "decimal") ~ word (codes "[") ~ (a_number ~ word (codes ",") <|> nothing)
    <|> word (codes "string") ~ word (codes "[") ~ (word (codes "max") ~ word (codes "=") <|> nothing)

-- what stands before a size in the type of a field behind these
abbrev pub before_size : List Field → Phrase
before_size fields = before_type fields ~ before_number

-- a word where the name of a field behind these must stand
pub record NameStands (fields : List Field) (before : List Lexeme) (t : Lexeme) : Type 0 where
  pub fit : AreFields fields
  pub front : before_field fields before []
  pub word : t.sort ≡ sort.Word

-- a word where the type of a field behind these must stand
pub record TypeStands (fields : List Field) (before : List Lexeme) (t : Lexeme) : Type 0 where
  pub fit : AreFields fields
  pub room : length fields < 256
  pub front : before_type fields before []
  pub word : t.sort ≡ sort.Word

-- a number where a size must stand
pub record SizeStands (fields : List Field) (before : List Lexeme) (t : Lexeme) : Type 0 where
  pub fit : AreFields fields
  pub room : length fields < 256
  pub front : before_size fields before []
  pub number : t.sort ≡ sort.Number
