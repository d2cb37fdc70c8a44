-- Printed options are spelled as they are read.
use Rattle.std.specs.Prelude.{◌≡◌, ℕ, true, not, ◌==◌, List, [], ◌∷◌, Some}
use Rattle.std.specs.List.{list_all, flat_map, AllByRecursion}
use Rattle.ds_lex.specs.declared.token.Mode.TheVariants.{Osh}
use Rattle.ds_lex.specs.Pieces.{is_text_byte}
use Rattle.ds_lex.specs.Lexemes.{lexed_text}
use Rattle.ds_schema.specs.SchemaText.{schema_text}
use Rattle.ds_schema.specs.ColumnText.{names_text, keys_text}
use Rattle.std.specs.Fmt.{decimal, signed_decimal}
use Rattle.osh_table.specs.declared.operator.OpName.{OpName}
use Rattle.osh_table.specs.declared.option.Form.{Form}
use Rattle.osh_table.specs.declared.option.Form.TheVariants as form
use Rattle.osh_table.specs.Words.{option_word}
use Rattle.osh_table.specs.Options.{row_named}
use Rattle.osh_value.specs.declared.value.OptValue.{OptValue}
use Rattle.osh_value.specs.declared.value.OptValue.TheVariants as value
use Rattle.osh_value.specs.ValueGrammar.{SpellsValue, missing_word}
use Rattle.osh_print.specs.OptionText.{with_commas, pair_text, set_text, quote_of, option_text, flag_text}
use Rattle.osh_sound.specs.Grammar.{WrittenOption, options_phrase}
use Rattle.osh_sound.specs.ValueLaws.{agg_text}

-- the bytes of a value
abbrev pub value_text : OptValue → List ℕ
value_text value.Flag = []
value_text (value.Name name) = name
value_text (value.Schema fields) = schema_text fields
value_text (value.Delim b) = b ∷ []
value_text (value.Widths widths) = with_commas decimal widths
value_text (value.Columns names) = names_text names
value_text (value.Renames pairs) = with_commas pair_text pairs
value_text (value.Keys keys) = keys_text keys
value_text (value.Result r) = agg_text r
value_text (value.Missing m) = missing_word m
value_text (value.Expression expr) = expr
value_text (value.Set set) = set_text set
value_text (value.Cases cases) = with_commas signed_decimal cases

abbrev pub by_form : Form → WrittenOption → List ℕ
by_form form.Flag w = flag_text w.row.opt true
by_form other w = option_text w.row.opt (value_text w.value)

abbrev pub written_text : WrittenOption → List ℕ
written_text w = by_form w.row.form w

-- no byte that a QUOTED can't have, and not both quotes
pub record IsQuotable (bytes : List ℕ) : Type 0 where
  pub texts : list_all is_text_byte bytes ≡ true
  pub quote : list_all (λ b. not (b == quote_of bytes)) bytes ≡ true

abbrev pub ValueFits : Form → OptValue → Type 0
ValueFits form.Flag v = v ≡ value.Flag
ValueFits f v = IsQuotable (value_text v) × SpellsValue f (value_text v) v

-- an option of the operator, with a value of its form that can be spelled
pub record OptionFits (op : OpName) (w : WrittenOption) : Type 0 where
  pub row : row_named op (option_word w.row.opt) ≡ Some w.row
  pub value : ValueFits w.row.form w.value

-- printed one after the other they are tokens, which spell them
abbrev pub OptionsArePrinted : Type 0
OptionsArePrinted = (op : OpName) (ws : List WrittenOption) → AllByRecursion (OptionFits op) ws → options_phrase op ws (lexed_text Osh (flat_map written_text ws)).lexemes []
