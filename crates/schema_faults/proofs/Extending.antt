-- What stands at the front of some tokens stands there with more tokens behind them too.
use Rattle.std.proofs.Common.{◌≡◌, inl, inr, ℕ, List, [], ◌∷◌, ◌++◌, Bool, true, false, ap}
use Rattle.std.specs.Prelude.{codes}
use Rattle.ds_value.specs.declared.kind.Kind.{Kind}
use Rattle.ds_value.specs.declared.kind.Kind.TheVariants as kind
use Rattle.ds_lex.specs.declared.token.Sort.{Sort}
use Rattle.ds_lex.specs.declared.token.Sort.TheVariants as sort
use Rattle.ds_lex.specs.Lexemes.{Lexeme}
use Rattle.ds_lex.specs.Phrases.{Phrase, word, token, nothing, nothing_where, ◌~◌, ◌<|>◌}
use Rattle.ds_schema.specs.declared.schema.Field.{Field}
use Rattle.ds_schema.specs.SchemaText.{kind_text}
use Rattle.ds_schema.specs.SchemaGrammar.{number, kind_phrase, nullable_phrase, field_phrase}
use Rattle.schema_faults.specs.Places.{IsFree, closed_fields, before_field, before_type, before_number, before_size}

pub record Extends (P : Phrase) : Type 0 where
  pub by : (ts rest more : List Lexeme) → P ts rest → P (ts ++ more) (rest ++ more)

word_by : (bytes : List ℕ) (ts rest more : List Lexeme) → word bytes ts rest → word bytes (ts ++ more) (rest ++ more)
word_by bytes [] rest more h = absurd h
word_by bytes (t ∷ ts) rest more h = (h.0, ap (λ (us : List Lexeme). us ++ more) h.1)

a_word : (bytes : List ℕ) → Extends (word bytes)
a_word bytes = record { by = word_by bytes }

token_by : (s : Sort) (Is : List ℕ → Type 0) (ts rest more : List Lexeme) → token s Is ts rest → token s Is (ts ++ more) (rest ++ more)
token_by s Is [] rest more h = absurd h
token_by s Is (t ∷ ts) rest more h = (h.0, h.1, ap (λ (us : List Lexeme). us ++ more) h.2)

a_token : (s : Sort) (Is : List ℕ → Type 0) → Extends (token s Is)
a_token s Is = record { by = token_by s Is }

none : Extends nothing
none = record { by = λ ts rest more h. ap (λ (us : List Lexeme). us ++ more) h }

none_where : (P : Type 0) → Extends (nothing_where P)
none_where P = record { by = λ ts rest more h. (h.0, ap (λ (us : List Lexeme). us ++ more) h.1) }

after : {P Q : Phrase} → Extends P → Extends Q → Extends (P ~ Q)
after p q = record { by = λ ts rest more h. (h.0 ++ more, p.by ts h.0 more h.1, q.by h.0 rest more h.2) }

either : {P Q : Phrase} → Extends P → Extends Q → Extends (P <|> Q)
either p q = record { by = λ ts rest more h. elim h [ inl a ↦ inl (p.by ts rest more a) | inr b ↦ inr (q.by ts rest more b) ] }

a_size : (n : ℕ) → Extends (number n)
a_size n = record { by = λ ts rest more h. token_by sort.Number _ ts rest more h }

a_kind : (k : Kind) → Extends (kind_phrase k)
a_kind (kind.Int bits) = a_word (kind_text (kind.Int bits))
a_kind (kind.UInt bits) = a_word (kind_text (kind.UInt bits))
a_kind kind.Date = a_word (kind_text kind.Date)
a_kind (kind.Dec p s) = after (a_word (codes "decimal")) (after (a_word (codes "[")) (after (a_size p) (after (either (after (a_word (codes ",")) (a_size s)) (none_where (s ≡ 0))) (a_word (codes "]")))))
a_kind (kind.Text n true) = after (a_word (codes "string")) (after (a_word (codes "[")) (after (a_size n) (a_word (codes "]"))))
a_kind (kind.Text n false) =
    after (a_word (codes "string")) (either (after (a_word (codes "[")) (after (a_word (codes "max")) (after (a_word (codes "=")) (after (a_size n) (a_word (codes "]")))))) (none_where (n ≡ 4096)))

may_be_null : (b : Bool) → Extends (nullable_phrase b)
may_be_null true = a_word (codes "nullable")
may_be_null false = none

a_field : (f : Field) → Extends (field_phrase f)
a_field f = after (a_token sort.Word (λ bytes. bytes ≡ f.name)) (after (a_word (codes ":")) (after (may_be_null f.nullable) (a_kind f.kind)))

closed : (fields : List Field) → Extends (closed_fields fields)
closed [] = none
closed (f ∷ fields) = after (a_field f) (after (a_word (codes ";")) (closed fields))

pub field_extends : (fields : List Field) → Extends (before_field fields)
field_extends fields = after (a_word (codes "record")) (after (a_word (codes "(")) (closed fields))

pub type_extends : (fields : List Field) → Extends (before_type fields)
type_extends fields = after (field_extends fields) (after (a_token sort.Word (IsFree fields)) (after (a_word (codes ":")) (either (a_word (codes "nullable")) none)))

numbers : Extends before_number
numbers =
    either (after (a_word (codes "decimal")) (after (a_word (codes "[")) (either (after (a_token sort.Number (λ bytes. Unit {0})) (a_word (codes ","))) none)))
    (after (a_word (codes "string")) (after (a_word (codes "[")) (either (after (a_word (codes "max")) (a_word (codes "="))) none)))

pub size_extends : (fields : List Field) → Extends (before_size fields)
size_extends fields = after (type_extends fields) numbers

-- a token behind the tokens
pub and_token : (P : Phrase) → Extends P → (before : List Lexeme) (t : Lexeme) → P before [] → P (before ++ t ∷ []) (t ∷ [])
and_token P e before t h = e.by before [] (t ∷ []) h
