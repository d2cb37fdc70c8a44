-- Values of options: which tokens and which bytes spell them.
use Rattle.std.specs.Prelude.{◌≡◌, ◌≤◌, ◌+◌, ℕ, ℤ, pos, neg_ℤ, FitsSigned, List, [], ◌∷◌, length, drop, codes}
use Rattle.std.specs.Int.{w64}
use Rattle.std.specs.List.{AllByRecursion}
use Rattle.std.specs.Str.Parse.{IsNumeral, digits_value}
use Rattle.ds_value.specs.Names.{IsName}
use Rattle.ds_lex.specs.declared.token.Mode.TheVariants.{Inner}
use Rattle.ds_lex.specs.declared.token.Sort.TheVariants as sort
use Rattle.ds_lex.specs.Lexemes.{Lexeme, lexed_text}
use Rattle.ds_lex.specs.Phrases.{Phrase, word, token, ◌~◌, ◌<|>◌}
use Rattle.ds_schema.specs.Schemas.{IsFieldName, IsField}
use Rattle.ds_schema.specs.SchemaGrammar.{number, field_phrase}
use Rattle.ds_schema.specs.SchemaLaws.{SpellsText}
use Rattle.ds_schema.specs.ColumnGrammar.{AreNamed, listed, name_phrase, IsAll, SpellsNames, SpellsKeys}
use Rattle.ds_text.specs.Forms.{IsDelimiter, IsWidth}
use Rattle.expr_read.specs.declared.tree.Expr.{Expr}
use Rattle.expr_read.specs.Grammar.{IsSpelled}
use Rattle.op_base.specs.declared.missing.Missing.{Missing}
use Rattle.op_base.specs.declared.missing.Missing.TheVariants as missing
use Rattle.op_row.specs.Expressed.{AreDistinct}
use Rattle.flow_graph.specs.declared.op_kind.AggSpec.TheVariants as agg
use Rattle.flow_graph.specs.declared.op_kind.SetSpec.{SetSpec}
use Rattle.osh_table.specs.declared.option.Form.{Form}
use Rattle.osh_table.specs.declared.option.Form.TheVariants as form
use Rattle.osh_value.specs.declared.value.OptValue.{OptValue}
use Rattle.osh_value.specs.declared.value.OptValue.TheVariants as value
use Rattle.osh_value.specs.Values.{spanned}

-- ---- widths, as `5,10`

abbrev pub widths_form : List ℕ → Phrase
widths_form widths ts rest = AllByRecursion IsWidth widths × listed number widths ts rest

abbrev pub SpellsWidths : List ℕ → List ℕ → Type 0
SpellsWidths bytes widths = IsAll (widths_form widths) bytes

-- ---- cases, as `1,-2`

-- a number in digits alone, of which the case is this one; zeros may lead
abbrev pub digits_phrase : (ℕ → ℤ) → ℤ → Phrase
digits_phrase of_digits z = token sort.Number (λ bytes. IsNumeral 10 bytes × (z ≡ of_digits (digits_value 10 bytes)))

abbrev pub case_phrase : ℤ → Phrase
case_phrase z = (word (codes "-") ~ digits_phrase (λ n. neg_ℤ (pos n)) z) <|> digits_phrase pos z

-- in the range of int64, and no two the same
abbrev pub cases_form : List ℤ → Phrase
cases_form cases ts rest = AllByRecursion (FitsSigned w64) cases × AreDistinct cases × listed case_phrase cases ts rest

abbrev pub SpellsCases : List ℕ → List ℤ → Type 0
SpellsCases bytes cases = IsAll (cases_form cases) bytes

-- ---- new columns, as `new` and `new=old`

-- a name that a new column may have
abbrev pub column_form : List ℕ → Phrase
column_form name ts rest = IsFieldName name × name_phrase name ts rest

abbrev pub SpellsColumn : List ℕ → List ℕ → Type 0
SpellsColumn bytes name = IsAll (column_form name) bytes

abbrev pub pair_phrase : List ℕ × List ℕ → Phrase
pair_phrase pair = name_phrase pair.0 ~ word (codes "=") ~ name_phrase pair.1

abbrev pub pair_form : List ℕ × List ℕ → Phrase
pair_form pair ts rest = IsFieldName pair.0 × IsName pair.1 × pair_phrase pair ts rest

abbrev pub SpellsPair : List ℕ → List ℕ × List ℕ → Type 0
SpellsPair bytes pair = IsAll (pair_form pair) bytes

abbrev pub old_name : List ℕ × List ℕ → List ℕ
old_name pair = pair.1

-- no old name stands in two pairs
abbrev pub renames_form : List (List ℕ × List ℕ) → Phrase
renames_form pairs ts rest = AllByRecursion (λ (p : List ℕ × List ℕ). IsFieldName p.0) pairs × AreNamed old_name pairs × listed pair_phrase pairs ts rest

abbrev pub SpellsRenames : List ℕ → List (List ℕ × List ℕ) → Type 0
SpellsRenames bytes pairs = IsAll (renames_form pairs) bytes

-- ---- expressions

-- the bytes spell an expression, and of them those from its first token to the end of its last are kept
abbrev pub SpellsExpression : List ℕ → List ℕ → Type 0
SpellsExpression bytes kept = (expr : Expr) × IsSpelled bytes expr × (kept ≡ spanned bytes (lexed_text Inner bytes).lexemes)

-- this word or sign, at this place
abbrev pub sign : ℕ → List ℕ → Phrase
sign at bytes [] rest = ⊥
sign at bytes (t ∷ ts) rest = (t.at ≡ at) × (t.bytes ≡ bytes) × (ts ≡ rest)

-- `name: type = E`: a column as a field of a schema, and behind the `=` bytes that spell an expression
pub record SpellsSet (bytes : List ℕ) (set : SetSpec) : Type 0 where
  pub field : IsField set.field
  pub at : ℕ
  pub behind : List Lexeme
  pub front : (field_phrase set.field ~ sign at (codes "=")) (lexed_text Inner bytes).lexemes behind
  pub expr : SpellsExpression (drop (at + 1) bytes) set.expr

-- ---- values of each form

abbrev pub missing_word : Missing → List ℕ
missing_word missing.Continue = codes "continue"
missing_word missing.Drop = codes "drop"
missing_word missing.Fail = codes "fail"
missing_word missing.Reject = codes "reject"

-- made of something of which this holds
abbrev pub Made : {X : Type 0} → (X → OptValue) → (X → Type 0) → OptValue → Type 0
Made {X} make Is v = (x : X) × Is x × (v ≡ make x)

-- The bytes spell the value; those of a flag spell none. A data set has segments of its name and a number, so its name is
-- shorter than a file's.
abbrev pub SpellsValue : Form → List ℕ → OptValue → Type 0
SpellsValue form.Flag bytes v = ⊥
SpellsValue form.File bytes v = Made value.Name (λ name. (name ≡ bytes) × IsName bytes) v
SpellsValue form.DataSet bytes v = Made value.Name (λ name. (name ≡ bytes) × IsName bytes × (length bytes ≤ 252)) v
SpellsValue form.Schema bytes v = Made value.Schema (SpellsText bytes) v
SpellsValue form.Delim bytes v = Made value.Delim (λ b. (bytes ≡ b ∷ []) × IsDelimiter b) v
SpellsValue form.Widths bytes v = Made value.Widths (SpellsWidths bytes) v
SpellsValue form.Columns bytes v = Made value.Columns (SpellsNames bytes) v
SpellsValue form.Keys bytes v = Made value.Keys (SpellsKeys bytes) v
SpellsValue form.Renames bytes v = Made value.Renames (SpellsRenames bytes) v
SpellsValue form.Cases bytes v = Made value.Cases (SpellsCases bytes) v
SpellsValue form.Count bytes v = Made (λ new. value.Result (agg.Count new)) (SpellsColumn bytes) v
SpellsValue form.Sum bytes v = Made (λ (p : List ℕ × List ℕ). value.Result (agg.Sum p.0 p.1)) (SpellsPair bytes) v
SpellsValue form.Min bytes v = Made (λ (p : List ℕ × List ℕ). value.Result (agg.Min p.0 p.1)) (SpellsPair bytes) v
SpellsValue form.Max bytes v = Made (λ (p : List ℕ × List ℕ). value.Result (agg.Max p.0 p.1)) (SpellsPair bytes) v
SpellsValue form.First bytes v = Made (λ (p : List ℕ × List ℕ). value.Result (agg.First p.0 p.1)) (SpellsPair bytes) v
SpellsValue form.Last bytes v = Made (λ (p : List ℕ × List ℕ). value.Result (agg.Last p.0 p.1)) (SpellsPair bytes) v
SpellsValue form.Missing bytes v = Made value.Missing (λ m. bytes ≡ missing_word m) v
SpellsValue form.Expression bytes v = Made value.Expression (SpellsExpression bytes) v
SpellsValue form.Setting bytes v = Made value.Set (SpellsSet bytes) v

-- bytes spell one value of a form at most
abbrev pub OneIsSpelled : Type 0
OneIsSpelled = (f : Form) (bytes : List ℕ) (v other : OptValue) → SpellsValue f bytes v → SpellsValue f bytes other → v ≡ other
