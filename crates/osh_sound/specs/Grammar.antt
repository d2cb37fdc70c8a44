-- The grammar of flows, over tokens, and which flow the tokens spell:
--   flow      = { ( "nopart" | "nosort" ) ";" } statement { ";" statement } [ ";" ]
--   statement = stage { "|" [ method ] stage }
--   stage     = WORD { option } [ "[" ( "seq" | "par" ) "]" ] { redirect }
--   option    = OPT [ WORD | NUMBER | QUOTED ]
--   redirect  = "<" [ method ] WORD | ">" WORD
--   method    = "[" kind [ keys ] [ flag ] "]" | "[" flag "]"
--   flag      = "set" | "clear" | "prop"
use Rattle.std.specs.Prelude.{◌≡◌, ◌≤◌, ◌⊎◌, ℕ, List, [], ◌∷◌, ◌++◌, length, map, Some, None, true, false, codes}
use Rattle.std.specs.List.{AllByRecursion}
use Rattle.ds_value.specs.Names.{IsName}
use Rattle.ds_lex.specs.declared.token.Mode.TheVariants.{Osh}
use Rattle.ds_lex.specs.declared.token.Sort.TheVariants as sort
use Rattle.ds_lex.specs.declared.lexeme.End.TheVariants as ends
use Rattle.ds_lex.specs.Lexemes.{Lexeme, limited_text}
use Rattle.ds_lex.specs.Phrases.{Phrase, word, token, nothing, nothing_where, ◌~◌, ◌<|>◌}
use Rattle.ds_schema.specs.ColumnGrammar.{names_form, keys_form}
use Rattle.flow_graph.specs.declared.flow.Mark.{Mark}
use Rattle.flow_graph.specs.declared.flow.Mark.TheVariants as mark
use Rattle.flow_graph.specs.declared.flow.Method.{Method}
use Rattle.flow_graph.specs.declared.flow.Method.TheVariants as method
use Rattle.flow_graph.specs.declared.flow.Flag.{Flag}
use Rattle.flow_graph.specs.declared.flow.Flag.TheVariants as flag
use Rattle.flow_graph.specs.declared.flow.Flow.{Flow}
use Rattle.osh_table.specs.declared.operator.OpName.{OpName}
use Rattle.osh_table.specs.declared.option.OptName.{OptName}
use Rattle.osh_table.specs.declared.option.Form.{Form}
use Rattle.osh_table.specs.declared.option.Form.TheVariants as form
use Rattle.osh_table.specs.declared.option.OptRow.{OptRow}
use Rattle.osh_table.specs.Words.{operator_named}
use Rattle.osh_table.specs.Options.{options_of, row_named}
use Rattle.osh_value.specs.declared.value.OptValue.{OptValue}
use Rattle.osh_value.specs.declared.value.OptValue.TheVariants as value
use Rattle.osh_value.specs.declared.setting.Setting.{Setting}
use Rattle.osh_value.specs.Values.{content_of}
use Rattle.osh_value.specs.ValueGrammar.{SpellsValue, sign}
use Rattle.osh_value.specs.Kinds.{kind_of}
use Rattle.osh_read.specs.declared.stage.Redirect.{Redirect}
use Rattle.osh_read.specs.declared.stage.Redirect.TheVariants as redirect
use Rattle.osh_read.specs.declared.stage.Joint.{Joint}
use Rattle.osh_read.specs.declared.stage.Joint.TheVariants as joint
use Rattle.osh_read.specs.declared.stage.Stage.{Stage}
use Rattle.osh_read.specs.declared.stage.Directive.{Directive}
use Rattle.osh_read.specs.declared.stage.Directive.TheVariants as directive
use Rattle.osh_read.specs.declared.stage.Directives.{Directives}
use Rattle.osh_read.specs.Options.{is_value, clashes, needs_any}
use Rattle.osh_read.specs.Stages.{plain_mark, bears, directed, no_directives}
use Rattle.osh_read.specs.Joining.{unjoined}
use Rattle.osh_read.specs.Flows.{made}

-- ---- methods

abbrev pub flag_word : Flag → Phrase
flag_word flag.Set = word (codes "set")
flag_word flag.Clear = word (codes "clear")
flag_word flag.Prop = word (codes "prop")

abbrev pub name_form : List ℕ → Phrase
name_form name = token sort.Word (λ bytes. (bytes ≡ name) × IsName bytes)

-- a kind of method, with what it takes
abbrev pub kind_phrase : Method → Phrase
kind_phrase method.Auto = word (codes "auto")
kind_phrase method.Same = word (codes "same")
kind_phrase method.RoundRobin = word (codes "rr")
kind_phrase method.Entire = word (codes "entire")
kind_phrase (method.Hash names) = word (codes "hash") ~ names_form names
kind_phrase (method.Modulus name) = word (codes "modulus") ~ name_form name
kind_phrase method.Any = word (codes "any")
kind_phrase method.Ordered = word (codes "ordered")
kind_phrase (method.Merge keys) = word (codes "merge") ~ keys_form keys

-- a flag alone stands behind auto, and prop where none stands
abbrev pub inside_phrase : Method → Flag → Phrase
inside_phrase m f = (nothing_where (m ≡ method.Auto) ~ flag_word f) <|> (kind_phrase m ~ (flag_word f <|> nothing_where (f ≡ flag.Prop)))

-- auto with prop where none is written
abbrev pub method_phrase : Method → Flag → Phrase
method_phrase m f = (word (codes "[") ~ inside_phrase m f ~ word (codes "]")) <|> nothing_where ((m ≡ method.Auto) × (f ≡ flag.Prop))

-- ---- options

-- an option of this row, with what its value says
pub record WrittenOption : Type 0 where
  pub row : OptRow
  pub value : OptValue

abbrev pub setting_of : WrittenOption → Setting
setting_of w = record { opt = w.row.opt; group = w.row.group; value = w.value }

-- a WORD, NUMBER or QUOTED whose content spells this value of the form
abbrev pub said : Form → OptValue → Phrase
said f v [] rest = ⊥
said f v (t ∷ ts) rest = (is_value t.sort ≡ true) × SpellsValue f (content_of t) v × (ts ≡ rest)

-- a flag has no value
abbrev pub value_phrase : Form → OptValue → Phrase
value_phrase form.Flag v = nothing_where (v ≡ value.Flag)
value_phrase other v = said other v

abbrev pub option_phrase : OpName → WrittenOption → Phrase
option_phrase op w = token sort.Opt (λ bytes. row_named op bytes ≡ Some w.row) ~ value_phrase w.row.form w.value

abbrev pub options_phrase : OpName → List WrittenOption → Phrase
options_phrase op [] = nothing
options_phrase op (w ∷ ws) = option_phrase op w ~ options_phrase op ws

-- none of these options is excluded by one of those before it
abbrev pub StandTogether : List Setting → List WrittenOption → Type 0
StandTogether before [] = Unit {0}
StandTogether before (w ∷ ws) = (clashes before w.row.group ≡ false) × StandTogether (before ++ setting_of w ∷ []) ws

-- ---- stages

-- a data set's own way to run isn't written
abbrev pub mark_word : Mark → Phrase
mark_word mark.Seq = word (codes "seq")
mark_word mark.Par = word (codes "par")
mark_word mark.Stored = nothing_where ⊥

-- where no mark is written the operator runs as it does without one
abbrev pub mark_phrase : OpName → Mark → Phrase
mark_phrase op m = (nothing_where (bears (plain_mark op) m ≡ true) ~ word (codes "[") ~ mark_word m ~ word (codes "]")) <|> nothing_where (m ≡ plain_mark op)

abbrev pub redirect_phrase : Redirect → Phrase
redirect_phrase (redirect.In at name m f) = sign at (codes "<") ~ method_phrase m f ~ token sort.Word (λ bytes. bytes ≡ name)
redirect_phrase (redirect.Out at name) = sign at (codes ">") ~ token sort.Word (λ bytes. bytes ≡ name)

abbrev pub redirects_phrase : List Redirect → Phrase
redirects_phrase [] = nothing
redirects_phrase (r ∷ rs) = redirect_phrase r ~ redirects_phrase rs

-- an option of this name is among them
abbrev pub Among : OptName → List WrittenOption → Type 0
Among o [] = ⊥
Among o (w ∷ ws) = (w.row.opt ≡ o) ⊎ Among o ws

-- each option that the operator must have is among them, and one at least where it must have any
pub record AreComplete (op : OpName) (ws : List WrittenOption) : Type 0 where
  pub required : AllByRecursion (λ (r : OptRow). r.required ≡ true → Among r.opt ws) (options_of op)
  pub some : needs_any op ≡ true → 1 ≤ length ws

-- a stage as it is written
pub record WrittenStage : Type 0 where
  pub op : OpName
  pub options : List WrittenOption
  pub stage : Stage

abbrev pub stage_phrase : WrittenStage → Phrase
stage_phrase w = token sort.Word (λ bytes. operator_named bytes ≡ Some w.op) ~ nothing_where (AreComplete w.op w.options) ~ options_phrase w.op w.options ~ mark_phrase w.op w.stage.mark ~ redirects_phrase w.stage.redirects

-- the options exclude none of each other, and say the operator
pub record IsStage (w : WrittenStage) : Type 0 where
  pub together : StandTogether [] w.options
  pub says : kind_of w.op (map setting_of w.options) ≡ Some w.stage.kind

-- ---- statements

abbrev pub joint_phrase : Joint → Phrase
joint_phrase joint.Apart = word (codes ";")
joint_phrase (joint.Piped m f) = word (codes "|") ~ method_phrase m f

-- further stages, each behind what joins it to the one before, up to the end
abbrev pub further_phrase : List WrittenStage → Phrase
further_phrase [] = word (codes ";") <|> nothing
further_phrase (w ∷ ws) = joint_phrase w.stage.joined ~ stage_phrase w ~ further_phrase ws

-- nothing is joined to the first stage
abbrev pub stages_phrase : List WrittenStage → Phrase
stages_phrase [] ts rest = ⊥
stages_phrase (w ∷ ws) ts rest = (w.stage.joined ≡ joint.Apart) × (stage_phrase w ~ further_phrase ws) ts rest

abbrev pub directive_word : Directive → List ℕ
directive_word directive.NoPart = codes "nopart"
directive_word directive.NoSort = codes "nosort"

abbrev pub directives_phrase : List Directive → Phrase
directives_phrase [] = nothing
directives_phrase (d ∷ ds) = word (directive_word d) ~ word (codes ";") ~ directives_phrase ds

abbrev pub all_directed : Directives → List Directive → Directives
all_directed found [] = found
all_directed found (d ∷ ds) = all_directed (directed found d) ds

abbrev pub AreStages : List WrittenStage → Type 0
AreStages [] = Unit {0}
AreStages (w ∷ ws) = IsStage w × AreStages ws

abbrev pub stages_of : List WrittenStage → List Stage
stages_of [] = []
stages_of (w ∷ ws) = w.stage ∷ stages_of ws

-- ---- flows

-- the tokens, all of them, spell the flow
pub record SpellsFlow (ts : List Lexeme) (flow : Flow) : Type 0 where
  pub directives : List Directive
  pub written : List WrittenStage
  pub tokens : (directives_phrase directives ~ stages_phrase written) ts []
  pub stages : AreStages written
  pub few : length written ≤ 200
  pub joined : unjoined (stages_of written) ≡ None
  pub made : flow ≡ made (all_directed no_directives directives) (stages_of written)

-- the text is tokens alone, and these spell the flow
pub record SpellsText (bytes : List ℕ) (flow : Flow) : Type 0 where
  pub whole : (limited_text Osh bytes).end ≡ ends.Text (length bytes)
  pub tokens : SpellsFlow (limited_text Osh bytes).lexemes flow
