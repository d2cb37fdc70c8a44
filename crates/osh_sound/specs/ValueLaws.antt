-- What the printed value of an option spells.
use Rattle.std.specs.Prelude.{◌≡◌, ◌≤◌, ℕ, ℤ, FitsSigned, Bool, false, ◌==◌, ◌||◌, List, [], ◌∷◌, length}
use Rattle.std.specs.List.{AllByRecursion}
use Rattle.std.specs.Fmt.{decimal, signed_decimal}
use Rattle.std.specs.Int.{w64}
use Rattle.op_base.specs.declared.missing.Missing.{Missing}
use Rattle.ds_schema.specs.declared.schema.Field.{Field}
use Rattle.ds_value.specs.Names.{IsName}
use Rattle.ds_lex.specs.declared.token.Mode.TheVariants.{Inner}
use Rattle.ds_lex.specs.Lexemes.{lexed_text}
use Rattle.ds_lex.specs.Tokens.{IsWord}
use Rattle.ds_schema.specs.Schemas.{IsFieldName, IsField, IsSchema}
use Rattle.ds_schema.specs.SchemaText.{schema_text}
use Rattle.ds_schema.specs.ColumnGrammar.{AreNamed, NamesDiffer, itself, key_name}
use Rattle.ds_schema.specs.ColumnText.{names_text, keys_text}
use Rattle.expr_read.specs.declared.tree.Expr.{Expr}
use Rattle.expr_read.specs.Grammar.{IsSpelled}
use Rattle.flow_graph.specs.declared.op_kind.SetSpec.{SetSpec}
use Rattle.flow_graph.specs.declared.op_kind.AggSpec.{AggSpec}
use Rattle.flow_graph.specs.declared.op_kind.AggSpec.TheVariants as agg
use Rattle.osh_table.specs.declared.option.Form.{Form}
use Rattle.osh_table.specs.declared.option.Form.TheVariants as form
use Rattle.osh_value.specs.declared.value.OptValue.TheVariants as value
use Rattle.op_row.specs.Expressed.{AreDistinct}
use Rattle.osh_value.specs.Values.{spanned}
use Rattle.osh_value.specs.ValueGrammar.{SpellsValue, missing_word, old_name}
use Rattle.osh_print.specs.OptionText.{with_commas, pair_text, set_text}

-- the bytes of a result, and its option
abbrev pub agg_text : AggSpec → List ℕ
agg_text (agg.Count new) = new
agg_text (agg.Sum new old) = pair_text (new, old)
agg_text (agg.Min new old) = pair_text (new, old)
agg_text (agg.Max new old) = pair_text (new, old)
agg_text (agg.First new old) = pair_text (new, old)
agg_text (agg.Last new old) = pair_text (new, old)

abbrev pub agg_form : AggSpec → Form
agg_form (agg.Count new) = form.Count
agg_form (agg.Sum new old) = form.Sum
agg_form (agg.Min new old) = form.Min
agg_form (agg.Max new old) = form.Max
agg_form (agg.First new old) = form.First
agg_form (agg.Last new old) = form.Last

-- a column that can be named in a value
abbrev pub IsColumn : List ℕ → Type 0
IsColumn name = IsWord name × IsName name

-- a new column, made of an old one
abbrev pub IsPair : List ℕ × List ℕ → Type 0
IsPair pair = IsFieldName pair.0 × IsColumn pair.1

abbrev pub IsResult : AggSpec → Type 0
IsResult (agg.Count new) = IsFieldName new
IsResult (agg.Sum new old) = IsPair (new, old)
IsResult (agg.Min new old) = IsPair (new, old)
IsResult (agg.Max new old) = IsPair (new, old)
IsResult (agg.First new old) = IsPair (new, old)
IsResult (agg.Last new old) = IsPair (new, old)

pub record AreWidths (widths : List ℕ) : Type 0 where
  pub some : 1 ≤ length widths
  pub each : AllByRecursion (λ w. (1 ≤ w) × (w ≤ 65536)) widths

pub record ArePairs (pairs : List (List ℕ × List ℕ)) : Type 0 where
  pub some : 1 ≤ length pairs
  pub each : AllByRecursion IsPair pairs
  pub differ : NamesDiffer old_name pairs

pub record AreColumns (names : List (List ℕ)) : Type 0 where
  pub some : 1 ≤ length names
  pub named : AreNamed itself names
  pub words : AllByRecursion IsWord names

pub record AreKeys (keys : List (List ℕ × Bool)) : Type 0 where
  pub some : 1 ≤ length keys
  pub named : AreNamed key_name keys
  pub words : AllByRecursion (λ (k : List ℕ × Bool). IsWord k.0) keys

-- what is kept of a text that spells an expression: its bytes from the first token to the end of the last
pub record IsExpression (kept : List ℕ) : Type 0 where
  pub text : List ℕ
  pub expr : Expr
  pub spelled : IsSpelled text expr
  pub is : kept ≡ spanned text (lexed_text Inner text).lexemes

-- a column that a schema can have, and what is kept of an expression
abbrev pub IsSet : SetSpec → Type 0
IsSet s = IsField s.field × IsExpression s.expr

pub record AreCases (cases : List ℤ) : Type 0 where
  pub some : 1 ≤ length cases
  pub each : AllByRecursion (FitsSigned w64) cases
  pub differ : AreDistinct cases

-- what is printed of a value spells the value, and so is read as it
pub record ValuesReadBack : Type 0 where
  pub file : (name : List ℕ) → IsName name → SpellsValue form.File name (value.Name name)
  pub data_set : (name : List ℕ) → IsName name → length name ≤ 252 → SpellsValue form.DataSet name (value.Name name)
  pub schema : (fields : List Field) → IsSchema fields → SpellsValue form.Schema (schema_text fields) (value.Schema fields)
  pub delim : (b : ℕ) → ((b == 10) || (b == 13) || (b == 34)) ≡ false → SpellsValue form.Delim (b ∷ []) (value.Delim b)
  pub widths : (widths : List ℕ) → AreWidths widths → SpellsValue form.Widths (with_commas decimal widths) (value.Widths widths)
  pub columns : (names : List (List ℕ)) → AreColumns names → SpellsValue form.Columns (names_text names) (value.Columns names)
  pub keys : (keys : List (List ℕ × Bool)) → AreKeys keys → SpellsValue form.Keys (keys_text keys) (value.Keys keys)
  pub renames : (pairs : List (List ℕ × List ℕ)) → ArePairs pairs → SpellsValue form.Renames (with_commas pair_text pairs) (value.Renames pairs)
  pub results : (r : AggSpec) → IsResult r → SpellsValue (agg_form r) (agg_text r) (value.Result r)
  pub missing : (m : Missing) → SpellsValue form.Missing (missing_word m) (value.Missing m)
  pub expression : (kept : List ℕ) → IsExpression kept → SpellsValue form.Expression kept (value.Expression kept)
  pub set : (s : SetSpec) → IsSet s → SpellsValue form.Setting (set_text s) (value.Set s)
  pub cases : (cases : List ℤ) → AreCases cases → SpellsValue form.Cases (with_commas signed_decimal cases) (value.Cases cases)
