-- An operator with its options, and which fault comes first among them. `cut` says that behind the last token stands neither
-- a token nor the end of the text, but a place where no token begins, or the limit.
use Rattle.std.specs.Prelude.{◌≡◌, ℕ, List, [], ◌∷◌, length, drop, Result, Ok, Err, Option, Some, None, Bool, true, false, not, ◌&&◌, ◌||◌, nat_le, ◌==◌, if◌then◌else◌}
use Rattle.std.specs.List.{list_any, list_all}
use Rattle.std.specs.Option.{is_none}
use Rattle.std.specs.Str.{bytes_eq}
use Rattle.ds_lex.specs.declared.token.Sort.{Sort}
use Rattle.ds_lex.specs.declared.token.Sort.TheVariants as sort
use Rattle.ds_lex.specs.declared.refusal.Refusal.{Refusal}
use Rattle.ds_lex.specs.declared.refusal.Refusal.TheVariants as refusal
use Rattle.ds_lex.specs.Lexemes.{Lexeme}
use Rattle.ds_lex.specs.Reading.{◌>>=◌, refuse, sort_at, first_of}
use Rattle.flow_graph.specs.declared.op_kind.OpKind.{OpKind}
use Rattle.osh_table.specs.declared.operator.OpName.{OpName}
use Rattle.osh_table.specs.declared.operator.OpName.TheVariants as op
use Rattle.osh_table.specs.declared.option.Form.{Form}
use Rattle.osh_table.specs.declared.option.Form.TheVariants as form
use Rattle.osh_table.specs.declared.option.OptRow.{OptRow}
use Rattle.osh_table.specs.Words.{operator_named, option_word}
use Rattle.osh_table.specs.Options.{options_of, row_named}
use Rattle.osh_value.specs.declared.value.OptValue.{OptValue}
use Rattle.osh_value.specs.declared.value.OptValue.TheVariants as value
use Rattle.osh_value.specs.declared.setting.Setting.{Setting}
use Rattle.osh_value.specs.Values.{value_of, content_of}
use Rattle.osh_value.specs.Kinds.{kind_of}
use Rattle.osh_read.specs.declared.fault.OshWhy.{OshWhy}
use Rattle.osh_read.specs.declared.fault.OshWhy.TheVariants as why
use Rattle.osh_read.specs.Reading.{Read, repeated, append, if_comes}

abbrev pub is_opt : Sort → Bool
is_opt sort.Opt = true
is_opt other = false

-- a token that can be a value
abbrev pub is_value : Sort → Bool
is_value sort.Word = true
is_value sort.Number = true
is_value sort.Quoted = true
is_value other = false

abbrev pub is_flag : Form → Bool
is_flag form.Flag = true
is_flag other = false

-- ---- one option

abbrev pub value_comes : Option Lexeme → Bool
value_comes None = false
value_comes (Some t) = is_value t.sort

-- the option needs a value, and the end of the text or a token that is no value follows: not where the text is cut off here
abbrev pub lacks_value : OptRow → Bool → Option Lexeme → Bool
lacks_value row cut next = not (is_flag row.form) && (not (value_comes next) && not (cut && is_none next))

-- whether an option stands already that excludes this one
abbrev pub has_group : List Setting → ℕ → Bool
has_group found group = list_any (λ (s : Setting). s.group == group) found

abbrev pub clashes : List Setting → ℕ → Bool
clashes found group = not (group == 0) && has_group found group

abbrev pub known : Option OptRow → Lexeme → Result OptRow (Refusal OshWhy)
known None o = refuse o why.UnknownOption
known (Some row) o = Ok row

abbrev pub given : Lexeme → List Lexeme → Option OptValue → Read OptValue
given t ts None = refuse t why.BadValue
given t ts (Some v) = Ok (v, ts)

abbrev pub value_or : Option Lexeme → List Lexeme → Option Lexeme × List Lexeme
value_or None ts = (None, ts)
value_or (Some t) ts = if is_value t.sort then (Some t, drop 1 ts) else (None, ts)

-- a token that can be a value, where one comes
abbrev pub value_at : List Lexeme → Option Lexeme × List Lexeme
value_at ts = value_or (first_of ts) ts

abbrev pub taken : Form → Option Lexeme → List Lexeme → Read OptValue
taken f None ts = if is_flag f then Ok (value.Flag, ts) else Err refusal.AtEnd
taken f (Some t) ts = given t ts (value_of f (content_of t))

-- the value behind an option of this form
abbrev pub taken_at : Form → List Lexeme → Read OptValue
taken_at f ts = taken f (value_at ts).0 (value_at ts).1

-- the option o with its value, behind options that were found
unfoldable pub setting_at : OpName → Bool → List Setting → Lexeme → List Lexeme → Read (Option Setting)
setting_at op cut found o ts = do
  row ← known (row_named op o.bytes) o
  needs ← if lacks_value row cut (first_of ts) then refuse o why.BadValue else Ok row
  alone ← if clashes found row.group then refuse o why.DoubleOption else Ok row
  v ← taken_at row.form ts
  Ok (Some (record { opt = row.opt; group = row.group; value = v.0 }), v.1)

-- an option's word, where one comes
unfoldable pub opt_at : List Lexeme → Option Lexeme × List Lexeme
opt_at [] = (None, [])
opt_at (t ∷ ts) = if is_opt t.sort then (Some t, ts) else (None, t ∷ ts)

-- an option, where one comes
abbrev pub next_setting_at : OpName → Bool → List Setting → List Lexeme → Read (Option Setting)
next_setting_at op cut found ts = if_comes (opt_at ts).0 (λ o. setting_at op cut found o (opt_at ts).1) (Ok (None, (opt_at ts).1))

-- the options at the front
abbrev pub settings_at : OpName → Bool → List Lexeme → Read (List Setting)
settings_at op cut ts = repeated (next_setting_at op cut) append (length ts) [] ts

-- ---- the options that an operator must have

-- Whether an option of this word stands among the options at the front. They are the Opts, each with the value behind it,
-- where one comes; `may` says whether a value may come first.
abbrev pub stands_ahead : Bool → List ℕ → List Lexeme → Bool
stands_ahead may word [] = false
stands_ahead may word (t ∷ ts) =
    if is_opt t.sort then (bytes_eq t.bytes word || stands_ahead true word ts)
    else if may && is_value t.sort then stands_ahead false word ts
    else false

-- whether the tokens end inside the options at the front, or directly behind them
abbrev pub ends_ahead : Bool → List Lexeme → Bool
ends_ahead may [] = true
ends_ahead may (t ∷ ts) =
    if is_opt t.sort then ends_ahead true ts
    else if may && is_value t.sort then ends_ahead false ts
    else false

-- an operator that must have an option, whichever
abbrev pub needs_any : OpName → Bool
needs_any op.Modify = true
needs_any other = false

abbrev pub is_absent : List Lexeme → OptRow → Bool
is_absent ts row = not (stands_ahead false (option_word row.opt) ts)

abbrev pub is_lacking : List Lexeme → OptRow → Bool
is_lacking ts row = row.required && is_absent ts row

-- an option that the operator must have doesn't stand
abbrev pub lacks_option : OpName → List Lexeme → Bool
lacks_option o ts = list_any (is_lacking ts) (options_of o) || (needs_any o && list_all (is_absent ts) (options_of o))

-- that comes only where the text isn't cut off inside the options or directly behind them
abbrev pub is_missing : OpName → Bool → List Lexeme → Bool
is_missing o cut ts = lacks_option o ts && not (ends_ahead false ts && cut)

-- ---- an operator with its options

abbrev pub operator_of : Option OpName → Lexeme → Result OpName (Refusal OshWhy)
operator_of None w = refuse w why.UnknownOperator
operator_of (Some op) w = Ok op

-- the operator that was read; it can lack an option only where the text is cut off here
abbrev pub complete : Option OpKind → Result OpKind (Refusal OshWhy)
complete None = Err refusal.AtEnd
complete (Some kind) = Ok kind

-- the word of an operator and its options; `before` operators stand before it
unfoldable pub head_at : ℕ → Bool → List Lexeme → Read (OpName × OpKind)
head_at before cut ts = do
  w ← sort_at sort.Word why.Syntax ts
  op ← operator_of (operator_named w.0.bytes) w.0
  all ← if is_missing op cut w.1 then refuse w.0 why.MissingOption else Ok op
  room ← if nat_le 200 before then refuse w.0 why.TooMany else Ok op
  s ← settings_at op cut w.1
  kind ← complete (kind_of op s.0)
  Ok ((op, kind), s.1)
