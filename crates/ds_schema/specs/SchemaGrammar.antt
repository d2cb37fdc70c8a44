-- The grammar of schemas: which tokens spell a type, a field and a schema.
use Rattle.std.specs.Prelude.{◌≡◌, ℕ, Bool, true, false, List, [], ◌∷◌, codes}
use Rattle.std.specs.Str.Parse.{IsNumeral, digits_value}
use Rattle.ds_value.specs.declared.kind.Kind.{Kind}
use Rattle.ds_value.specs.declared.kind.Kind.TheVariants as kind
use Rattle.ds_lex.specs.declared.token.Sort.TheVariants as sort
use Rattle.ds_lex.specs.Lexemes.{Lexeme}
use Rattle.ds_lex.specs.Phrases.{Phrase, word, token, nothing, nothing_where, ◌~◌, ◌<|>◌}
use Rattle.ds_schema.specs.declared.schema.Field.{Field}
use Rattle.ds_schema.specs.Schemas.{IsSchema}
use Rattle.ds_schema.specs.SchemaText.{kind_text}

-- a number in digits alone; zeros may lead
abbrev pub number : ℕ → Phrase
number n = token sort.Number (λ bytes. IsNumeral 10 bytes × (digits_value 10 bytes ≡ n))

abbrev pub kind_phrase : Kind → Phrase
kind_phrase (kind.Int bits) = word (kind_text (kind.Int bits))
kind_phrase (kind.UInt bits) = word (kind_text (kind.UInt bits))
kind_phrase kind.Date = word (kind_text kind.Date)
kind_phrase (kind.Dec p s) = word (codes "decimal") ~ word (codes "[") ~ number p ~ (word (codes ",") ~ number s <|> nothing_where (s ≡ 0)) ~ word (codes "]")
kind_phrase (kind.Text n true) = word (codes "string") ~ word (codes "[") ~ number n ~ word (codes "]")
kind_phrase (kind.Text n false) = word (codes "string") ~ (word (codes "[") ~ word (codes "max") ~ word (codes "=") ~ number n ~ word (codes "]") <|> nothing_where (n ≡ 4096))

abbrev pub nullable_phrase : Bool → Phrase
nullable_phrase true = word (codes "nullable")
nullable_phrase false = nothing

abbrev pub field_phrase : Field → Phrase
field_phrase f = token sort.Word (λ bytes. bytes ≡ f.name) ~ word (codes ":") ~ nullable_phrase f.nullable ~ kind_phrase f.kind

-- further fields, each behind a semicolon, and the bracket that closes them; one more semicolon may stand before it
abbrev pub further_phrase : List Field → Phrase
further_phrase [] = (word (codes ";") <|> nothing) ~ word (codes ")")
further_phrase (f ∷ fields) = word (codes ";") ~ field_phrase f ~ further_phrase fields

abbrev pub schema_phrase : List Field → Phrase
schema_phrase [] ts rest = ⊥
schema_phrase (f ∷ fields) ts rest = (word (codes "record") ~ word (codes "(") ~ field_phrase f ~ further_phrase fields) ts rest

-- these tokens, all of them, spell a schema of these fields
abbrev pub SpellsSchema : List Lexeme → List Field → Type 0
SpellsSchema ts fields = schema_phrase fields ts [] × IsSchema fields
