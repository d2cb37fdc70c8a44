-- Reading a schema from left to right, with the first token with which no rule goes on.
use Rattle.std.specs.Prelude.{◌≡◌, ℕ, zero, suc, List, [], ◌∷◌, ◌++◌, length, Option, Some, None, Result, Ok, Err, Bool, true, false, not, ◌&&◌, nat_le, nat_lt, if◌then◌else◌, codes}
use Rattle.std.specs.List.{list_any, list_all}
use Rattle.std.specs.Str.{bytes_eq}
use Rattle.std.specs.Str.Parse.{digits_value}
use Rattle.ds_value.specs.declared.kind.Kind.{Kind}
use Rattle.ds_value.specs.declared.kind.Kind.TheVariants as kind
use Rattle.ds_lex.specs.declared.token.Mode.TheVariants.{Inner}
use Rattle.ds_lex.specs.declared.token.Sort.TheVariants as sort
use Rattle.ds_lex.specs.declared.refusal.Refusal.{Refusal}
use Rattle.ds_lex.specs.declared.refusal.Refusal.TheVariants as refusal
use Rattle.ds_lex.specs.Pieces.{is_digit, is_opt_byte, opens_word, begins_with}
use Rattle.ds_lex.specs.Lexemes.{Lexeme, lexed_text}
use Rattle.ds_lex.specs.Reading.{◌>>=◌, refuse, is_sort, token_at, sort_at, expect_at, accept_at, finish_at}
use Rattle.ds_schema.specs.declared.schema.Field.{Field}
use Rattle.ds_schema.specs.declared.schema_text.fault.SchemaWhy.{SchemaWhy}
use Rattle.ds_schema.specs.declared.schema_text.fault.SchemaWhy.TheVariants.{Token, Syntax, NoType, Size, Name, Count}
use Rattle.ds_schema.specs.declared.schema_text.fault.SchemaFault.{SchemaFault}
use Rattle.ds_schema.specs.declared.schema_text.fault.SchemaFault.TheVariants as fault

-- at most 64 bytes, a letter or '_' first, then letters, digits and '_': a word without a dot that isn't too long
abbrev pub is_field_name : List ℕ → Bool
is_field_name bytes = nat_le (length bytes) 64 && (begins_with opens_word bytes && list_all is_opt_byte bytes)

abbrev pub has_field : List Field → List ℕ → Bool
has_field fields name = list_any (λ f. bytes_eq f.name name) fields

-- a field's name, which no field before has
unfoldable pub name_at : List Field → List Lexeme → Result (Lexeme × List Lexeme) (Refusal SchemaWhy)
name_at fields ts = do
  w ← sort_at sort.Word Syntax ts
  if is_field_name w.0.bytes && not (has_field fields w.0.bytes) then Ok w else refuse w.0 Name

-- digits alone, whose value is from low to high; zeros may lead
abbrev pub is_size : ℕ → ℕ → List ℕ → Bool
is_size low high bytes = nat_lt 0 (length bytes) && (list_all is_digit bytes && (nat_le low (digits_value 10 bytes) && nat_le (digits_value 10 bytes) high))

unfoldable pub size_at : ℕ → ℕ → List Lexeme → Result (ℕ × List Lexeme) (Refusal SchemaWhy)
size_at low high ts = do
  n ← sort_at sort.Number Syntax ts
  if is_size low high n.0.bytes then Ok (digits_value 10 n.0.bytes, n.1) else refuse n.0 Size

-- behind a decimal's precision: `, s`, or nothing, which is 0
unfoldable pub scale_at : ℕ → List Lexeme → Result (ℕ × List Lexeme) (Refusal SchemaWhy)
scale_at p ts = if (accept_at (codes ",") ts).0 then size_at 0 p (accept_at (codes ",") ts).1 else Ok (0, (accept_at (codes ",") ts).1)

-- behind `decimal`
unfoldable pub decimal_at : List Lexeme → Result (Kind × List Lexeme) (Refusal SchemaWhy)
decimal_at ts = do
  b ← expect_at (codes "[") Syntax ts
  p ← size_at 1 38 b.1
  s ← scale_at p.0 p.1
  c ← expect_at (codes "]") Syntax s.1
  Ok (kind.Dec p.0 s.0, c.1)

unfoldable pub equals_at : List Lexeme → Result (Bool × List Lexeme) (Refusal SchemaWhy)
equals_at ts = do
  e ← expect_at (codes "=") Syntax ts
  Ok (false, e.1)

-- whether a text's length is fixed: it isn't behind `max =`
unfoldable pub fixed_at : List Lexeme → Result (Bool × List Lexeme) (Refusal SchemaWhy)
fixed_at ts = if (accept_at (codes "max") ts).0 then equals_at (accept_at (codes "max") ts).1 else Ok (true, (accept_at (codes "max") ts).1)

-- behind the bracket of `string`
unfoldable pub length_at : List Lexeme → Result (Kind × List Lexeme) (Refusal SchemaWhy)
length_at ts = do
  f ← fixed_at ts
  n ← size_at 1 65536 f.1
  c ← expect_at (codes "]") Syntax n.1
  Ok (kind.Text n.0 f.0, c.1)

-- behind `string`, which alone is `string[max=4096]`
unfoldable pub text_at : List Lexeme → Result (Kind × List Lexeme) (Refusal SchemaWhy)
text_at ts = if (accept_at (codes "[") ts).0 then length_at (accept_at (codes "[") ts).1 else Ok (kind.Text 4096 false, (accept_at (codes "[") ts).1)

-- the types that are one word
abbrev pub plain_kinds : List (List ℕ × Kind)
plain_kinds =
    (codes "int8", kind.Int 8) ∷ (codes "int16", kind.Int 16) ∷ (codes "int32", kind.Int 32) ∷ (codes "int64", kind.Int 64)
    ∷ (codes "uint8", kind.UInt 8) ∷ (codes "uint16", kind.UInt 16) ∷ (codes "uint32", kind.UInt 32) ∷ (codes "uint64", kind.UInt 64)
    ∷ (codes "date", kind.Date) ∷ []

abbrev pub kind_among : List (List ℕ × Kind) → List ℕ → Option Kind
kind_among [] word = None
kind_among (entry ∷ entries) word = if bytes_eq word entry.0 then Some entry.1 else kind_among entries word

abbrev pub plain_kind : List ℕ → Option Kind
plain_kind word = kind_among plain_kinds word

-- a word that is no type, or a token that is no word
abbrev pub no_type : Lexeme → SchemaWhy
no_type t = if is_sort sort.Word t.sort then NoType else Syntax

-- behind the word that begins a type
unfoldable pub kind_behind : Option Kind → Lexeme → List Lexeme → Result (Kind × List Lexeme) (Refusal SchemaWhy)
kind_behind (Some kind) word ts = Ok (kind, ts)
kind_behind None word ts =
    if bytes_eq word.bytes (codes "decimal") then decimal_at ts
    else if bytes_eq word.bytes (codes "string") then text_at ts
    else refuse word (no_type word)

unfoldable pub kind_at : List Lexeme → Result (Kind × List Lexeme) (Refusal SchemaWhy)
kind_at ts = do
  w ← token_at SchemaWhy ts
  kind_behind (plain_kind w.0.bytes) w.0 w.1

unfoldable pub field_at : List Field → List Lexeme → Result (Field × List Lexeme) (Refusal SchemaWhy)
field_at fields ts = do
  name ← name_at fields ts
  colon ← expect_at (codes ":") Syntax name.1
  kind ← kind_at (accept_at (codes "nullable") colon.1).1
  Ok (record { name = name.0.bytes; nullable = (accept_at (codes "nullable") colon.1).0; kind = kind.0 }, kind.1)

unfoldable pub semicolon_at : List Lexeme → Result (Bool × List Lexeme) (Refusal SchemaWhy)
semicolon_at ts = do
  s ← expect_at (codes ";") Syntax ts
  Ok (not (accept_at (codes ")") s.1).0, (accept_at (codes ")") s.1).1)

-- behind a field: whether another follows, or the bracket is closed
unfoldable pub separator_at : List Lexeme → Result (Bool × List Lexeme) (Refusal SchemaWhy)
separator_at ts = if (accept_at (codes ")") ts).0 then Ok (false, (accept_at (codes ")") ts).1) else semicolon_at (accept_at (codes ")") ts).1

-- the fields behind those that were read; where there is room for no further one, its name is still read
unfoldable pub fields_at : ℕ → List Field → List Lexeme → Result (List Field × List Lexeme) (Refusal SchemaWhy)
fields_at zero fields ts = do
  name ← name_at fields ts
  refuse name.0 Count
fields_at (suc room) fields ts = do
  f ← field_at fields ts
  s ← separator_at f.1
  if s.0 then fields_at room (fields ++ f.0 ∷ []) s.1 else Ok (fields ++ f.0 ∷ [], s.1)

-- a schema, whatever follows
unfoldable pub schema_at : List Lexeme → Result (List Field × List Lexeme) (Refusal SchemaWhy)
schema_at ts = do
  r ← expect_at (codes "record") Syntax ts
  b ← expect_at (codes "(") Syntax r.1
  fields_at 256 [] b.1

-- a schema, and nothing behind it
unfoldable pub whole_schema_at : List Lexeme → Result (List Field) (Refusal SchemaWhy)
whole_schema_at ts = do
  s ← schema_at ts
  e ← finish_at Syntax s.1
  Ok s.0

-- behind the last token stands a place where none begins, or else the end of the text, with which no rule goes on
abbrev pub fault_behind : ℕ → Option ℕ → SchemaFault
fault_behind len (Some at) = fault.BadSchema at Token
fault_behind len None = fault.BadSchema len Syntax

abbrev pub answered : ℕ → Option ℕ → Result (List Field) (Refusal SchemaWhy) → Result (List Field) SchemaFault
answered len bad (Err (refusal.At at why)) = Err (fault.BadSchema at why)
answered len bad (Err refusal.AtEnd) = Err (fault_behind len bad)
answered len (Some at) (Ok fields) = Err (fault_behind len (Some at))
answered len None (Ok fields) = Ok fields

-- the schema of a text, or the first fault
abbrev pub schema_of : List ℕ → Result (List Field) SchemaFault
schema_of text = answered (length text) (lexed_text Inner text).bad (whole_schema_at (lexed_text Inner text).lexemes)

-- A call answered what is read, unless memory ran out.
abbrev pub Reads : Result (List Field) SchemaFault → Result (List Field) SchemaFault → Type 0
Reads (Ok fields) read = read ≡ Ok fields
Reads (Err fault.Memory) read = Unit {0}
Reads (Err (fault.BadSchema at why)) read = read ≡ Err (fault.BadSchema at why)
