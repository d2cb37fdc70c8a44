-- What the value of an option says, by its form.
use Rattle.std.specs.Prelude.{ℕ, zero, suc, ◌+◌, ◌-◌, ◌^◌, ℤ, pos, neg_ℤ, List, [], ◌∷◌, ◌++◌, length, drop, take, Result, Ok, Err, Option, Some, None, Bool, ◌||◌, nat_le, ◌==◌, if◌then◌else◌, codes}
use Rattle.std.specs.List.{list_any}
use Rattle.std.specs.Option.{option_map}
use Rattle.std.specs.Ordering.{int_eq}
use Rattle.std.specs.Result.{is_ok}
use Rattle.std.specs.Str.{bytes_eq}
use Rattle.std.specs.Str.Parse.{digits_value}
use Rattle.op_base.specs.declared.missing.Missing.{Missing}
use Rattle.op_base.specs.declared.missing.Missing.TheVariants as missing
use Rattle.ds_lex.specs.declared.token.Mode.TheVariants.{Inner}
use Rattle.ds_lex.specs.declared.token.Sort.{Sort}
use Rattle.ds_lex.specs.declared.token.Sort.TheVariants as sort
use Rattle.ds_lex.specs.declared.refusal.Refusal.{Refusal}
use Rattle.ds_lex.specs.declared.refusal.Refusal.TheVariants as refusal
use Rattle.ds_lex.specs.Lexemes.{Lexeme, lexed_text}
use Rattle.ds_lex.specs.Reading.{◌>>=◌, refuse, sort_at, expect_at, accept_at, finish_at}
use Rattle.ds_schema.specs.declared.schema.Field.{Field}
use Rattle.ds_schema.specs.declared.schema_text.fault.SchemaFault.{SchemaFault}
use Rattle.ds_schema.specs.declared.schema_text.fault.SchemaWhy.{SchemaWhy}
use Rattle.ds_schema.specs.declared.schema_text.fault.SchemaWhy.TheVariants as schema_why
use Rattle.ds_schema.specs.ColumnReading.{is_name, held, names_at, keys_at}
use Rattle.ds_schema.specs.SchemaReading.{schema_of, is_field_name, is_size, field_at}
use Rattle.expr_read.specs.Reading.{content, expr_of}
use Rattle.flow_graph.specs.declared.op_kind.AggSpec.{AggSpec}
use Rattle.flow_graph.specs.declared.op_kind.AggSpec.TheVariants as agg
use Rattle.flow_graph.specs.declared.op_kind.SetSpec.{SetSpec}
use Rattle.osh_table.specs.declared.option.Form.{Form}
use Rattle.osh_table.specs.declared.option.Form.TheVariants as form
use Rattle.osh_value.specs.declared.value.OptValue.{OptValue}
use Rattle.osh_value.specs.declared.value.OptValue.TheVariants as value

abbrev pub content_by : Sort → List ℕ → List ℕ
content_by sort.Quoted bytes = content bytes
content_by other bytes = bytes

-- the bytes that a token stands for as a value: what stands between the quotes, or all
abbrev pub content_of : Lexeme → List ℕ
content_of t = content_by t.sort t.bytes

-- ---- values that are taken as bytes

abbrev pub file_value : List ℕ → Option OptValue
file_value bytes = if is_name bytes then Some (value.Name bytes) else None

-- a data set has segments of its name and a number, so its name is shorter
abbrev pub data_set_value : List ℕ → Option OptValue
data_set_value bytes = if nat_le (length bytes) 252 then file_value bytes else None

abbrev pub schema_value : Result (List Field) SchemaFault → Option OptValue
schema_value (Ok fields) = Some (value.Schema fields)
schema_value (Err e) = None

-- one byte, which is no end of a line and no quote
abbrev pub delim_value : List ℕ → Option OptValue
delim_value (b ∷ []) = if (b == 10) || (b == 13) || (b == 34) then None else Some (value.Delim b)
delim_value other = None

abbrev pub missing_named : List ℕ → Option Missing
missing_named word =
    if bytes_eq word (codes "continue") then Some missing.Continue
    else if bytes_eq word (codes "drop") then Some missing.Drop
    else if bytes_eq word (codes "fail") then Some missing.Fail
    else if bytes_eq word (codes "reject") then Some missing.Reject
    else None

-- ---- expressions

-- the place behind a token
abbrev pub place_behind : Lexeme → ℕ
place_behind t = t.at + length t.bytes

-- the last of some tokens, of which t is the first
abbrev pub last_of : Lexeme → List Lexeme → Lexeme
last_of t [] = t
last_of t (u ∷ ts) = last_of u ts

-- the bytes from the first of these tokens to the end of the last
abbrev pub spanned : List ℕ → List Lexeme → List ℕ
spanned text [] = []
spanned text (t ∷ ts) = drop t.at (take (place_behind (last_of t ts)) text)

-- what is kept of a text that spells an expression: its bytes without what stands before its first token and behind its last
unfoldable pub kept_expression : List ℕ → Option (List ℕ)
kept_expression text = if is_ok (expr_of text) then Some (spanned text (lexed_text Inner text).lexemes) else None

-- `name: type =` at the front, the column as a field of a schema: the field, and the place of the `=`
unfoldable pub target_at : List Lexeme → Result ((Field × ℕ) × List Lexeme) (Refusal SchemaWhy)
target_at ts = do
  f ← field_at [] ts
  is ← expect_at (codes "=") schema_why.Syntax f.1
  Ok ((f.0, is.0.at), is.1)

abbrev pub set_to : Field → Option (List ℕ) → Option SetSpec
set_to field None = None
set_to field (Some expr) = Some (record { field = field; expr = expr })

abbrev pub set_by : List ℕ → Result ((Field × ℕ) × List Lexeme) (Refusal SchemaWhy) → Option SetSpec
set_by text (Ok x) = set_to x.0.0 (kept_expression (drop (x.0.1 + 1) text))
set_by text (Err e) = None

-- `name: type = E`: the column, and what is kept of the expression behind the `=`
unfoldable pub set_value : List ℕ → Option SetSpec
set_value text = set_by text (target_at (lexed_text Inner text).lexemes)

-- ---- values that are read as tokens

-- a reader's answer inside a value, where no cause is told
abbrev pub Inside : Type 0 → Type 0
Inside A = Result (A × List Lexeme) (Refusal (Unit {0}))

-- a name that a new column may have
unfoldable pub new_name_at : List Lexeme → Inside (List ℕ)
new_name_at ts = do
  w ← sort_at sort.Word tt ts
  new ← if is_field_name w.0.bytes then Ok w.0 else refuse w.0 tt
  name ← held tt w.0
  Ok (name, w.1)

abbrev pub has_old : List (List ℕ × List ℕ) → List ℕ → Bool
has_old found name = list_any (λ p. bytes_eq p.1 name) found

-- `new=old`, where no pair before has the old name
unfoldable pub rename_at : List (List ℕ × List ℕ) → List Lexeme → Inside (List ℕ × List ℕ)
rename_at found ts = do
  new ← new_name_at ts
  is ← expect_at (codes "=") tt new.1
  w ← sort_at sort.Word tt is.1
  alone ← if has_old found w.0.bytes then refuse w.0 tt else Ok w.0
  old ← held tt w.0
  Ok ((new.0, old), w.1)

-- One or more, with commas between them, behind those that were found; n is at least the number of tokens.
unfoldable pub with_commas : {W A : Type 0} → (List A → List Lexeme → Result (A × List Lexeme) (Refusal W)) → ℕ → List A → List Lexeme → Result (List A × List Lexeme) (Refusal W)
with_commas one zero found ts = Err refusal.AtEnd
with_commas one (suc n) found ts = do
  x ← one found ts
  if (accept_at (codes ",") x.1).0 then with_commas one n (found ++ x.0 ∷ []) (accept_at (codes ",") x.1).1 else Ok (found ++ x.0 ∷ [], (accept_at (codes ",") x.1).1)

abbrev pub renames_at : List Lexeme → Inside (List (List ℕ × List ℕ))
renames_at ts = with_commas rename_at (length ts) [] ts

unfoldable pub width_at : List Lexeme → Inside ℕ
width_at ts = do
  n ← sort_at sort.Number tt ts
  if is_size 1 65536 n.0.bytes then Ok (digits_value 10 n.0.bytes, n.1) else refuse n.0 tt

abbrev pub widths_at : List Lexeme → Inside (List ℕ)
widths_at ts = with_commas (λ found. width_at) (length ts) [] ts

-- the greatest number of this sign in the range of int64
abbrev pub greatest_case : Bool → ℕ
greatest_case minus = if minus then 2 ^ 63 else 2 ^ 63 - 1

abbrev pub signed_case : Bool → ℕ → ℤ
signed_case minus n = if minus then neg_ℤ (pos n) else pos n

abbrev pub has_case : List ℤ → ℤ → Bool
has_case found z = list_any (λ case. int_eq case z) found

-- a whole number in the range of int64, with an optional `-`, that is none of those before
unfoldable pub case_at : List ℤ → List Lexeme → Inside ℤ
case_at found ts = do
  n ← sort_at sort.Number tt (accept_at (codes "-") ts).1
  fits ← if is_size 0 (greatest_case (accept_at (codes "-") ts).0) n.0.bytes then Ok n.0 else refuse n.0 tt
  new ← if has_case found (signed_case (accept_at (codes "-") ts).0 (digits_value 10 n.0.bytes)) then refuse n.0 tt else Ok n.0
  Ok (signed_case (accept_at (codes "-") ts).0 (digits_value 10 n.0.bytes), n.1)

abbrev pub cases_at : List Lexeme → Inside (List ℤ)
cases_at ts = with_commas case_at (length ts) [] ts

-- a new column of a group, made of an old one
abbrev pub result_of : Form → List ℕ → List ℕ → AggSpec
result_of form.Min new old = agg.Min new old
result_of form.Max new old = agg.Max new old
result_of form.First new old = agg.First new old
result_of form.Last new old = agg.Last new old
result_of other new old = agg.Sum new old

abbrev pub made_result : Form → List Lexeme → Inside OptValue
made_result f ts = rename_at [] ts >>= λ p. Ok (value.Result (result_of f p.0.0 p.0.1), p.1)

-- what the tokens at the front say, by the form
abbrev pub said_at : Form → List Lexeme → Inside OptValue
said_at form.Widths ts = widths_at ts >>= λ x. Ok (value.Widths x.0, x.1)
said_at form.Columns ts = names_at tt ts >>= λ x. Ok (value.Columns x.0, x.1)
said_at form.Keys ts = keys_at tt ts >>= λ x. Ok (value.Keys x.0, x.1)
said_at form.Renames ts = renames_at ts >>= λ x. Ok (value.Renames x.0, x.1)
said_at form.Cases ts = cases_at ts >>= λ x. Ok (value.Cases x.0, x.1)
said_at form.Count ts = new_name_at ts >>= λ x. Ok (value.Result (agg.Count x.0), x.1)
said_at form.Sum ts = made_result form.Sum ts
said_at form.Min ts = made_result form.Min ts
said_at form.Max ts = made_result form.Max ts
said_at form.First ts = made_result form.First ts
said_at form.Last ts = made_result form.Last ts
said_at other ts = Err refusal.AtEnd

unfoldable pub whole_at : Form → List Lexeme → Result OptValue (Refusal (Unit {0}))
whole_at f ts = do
  x ← said_at f ts
  e ← finish_at tt x.1
  Ok x.0

abbrev pub if_read : Result OptValue (Refusal (Unit {0})) → Option OptValue
if_read (Ok v) = Some v
if_read (Err e) = None

abbrev pub unless_bad : Option ℕ → Option OptValue → Option OptValue
unless_bad None said = said
unless_bad (Some at) said = None

-- what the tokens of some bytes say, where each byte belongs to a token or a separator
abbrev pub inside : Form → List ℕ → Option OptValue
inside f bytes = unless_bad (lexed_text Inner bytes).bad (if_read (whole_at f (lexed_text Inner bytes).lexemes))

-- what bytes of this form say; those of a flag say nothing
unfoldable pub value_of : Form → List ℕ → Option OptValue
value_of form.Flag bytes = None
value_of form.File bytes = file_value bytes
value_of form.DataSet bytes = data_set_value bytes
value_of form.Schema bytes = schema_value (schema_of bytes)
value_of form.Delim bytes = delim_value bytes
value_of form.Missing bytes = option_map value.Missing (missing_named bytes)
value_of form.Expression bytes = option_map value.Expression (kept_expression bytes)
value_of form.Setting bytes = option_map value.Set (set_value bytes)
value_of other bytes = inside other bytes
