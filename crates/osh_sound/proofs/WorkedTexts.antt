-- Texts with what is read of them, by computing.
use Rattle.std.proofs.Common.{◌≡◌, ℕ, [], ◌∷◌, Result, Ok, Err, true, false, refl, sym, ap, ◌∙◌}
use Rattle.std.specs.Prelude.{codes, ◌==◌}
use Rattle.ds_lex.specs.Lexemes.{limited_text}
use Rattle.ds_lex.specs.Reading.{token_at, expect_at, sort_at, accept_at, finish_at}
use Rattle.ds_schema.specs.ColumnReading.{name_at as word_at, new_name_at as fresh_at, key_at, further_at, names_at, keys_at}
use Rattle.flow_graph.specs.declared.flow.Flow.{Flow}
use Rattle.flow_graph.specs.declared.flow.Method.TheVariants as method
use Rattle.flow_graph.specs.declared.flow.Flag.TheVariants as flag
use Rattle.ds_schema.specs.SchemaReading.{field_at, name_at as named_at, kind_at as type_at, kind_behind as type_behind}
use Rattle.osh_value.specs.Values.{value_of, whole_at, set_value, target_at, with_commas, case_at}
use Rattle.osh_read.specs.declared.fault.OshWhy.TheVariants as why
use Rattle.osh_read.specs.Reading.{sign_at, repeated}
use Rattle.osh_read.specs.Methods.{kind_at, flag_at, closed_at, behind_at, bracket_at, method_at}
use Rattle.osh_read.specs.Options.{opt_at, setting_at, head_at}
use Rattle.osh_read.specs.Stages.{marked_at, input_at, output_at, stage_at, piped_at, ended_at, stages_at, directed_at}
use Rattle.osh_read.specs.Joining.{is_joined}
use Rattle.osh_read.specs.Flows.{Fault, flow_at, flow_of}
use Rattle.osh_sound.specs.WorkedTexts.{bad, links_read, link}

pub unclosed : flow_of (codes "import -file 'in") ≡ bad 13 why.Token
unfolding flow_of limited_text flow_at is_joined sign_at repeated expect_at sort_at token_at accept_at finish_at names_at keys_at key_at fresh_at word_at further_at kind_at flag_at closed_at behind_at bracket_at method_at opt_at setting_at head_at marked_at input_at output_at stage_at piped_at ended_at stages_at directed_at value_of whole_at
unclosed = refl

pub directive_alone : flow_of (codes "nopart | copy") ≡ bad 7 why.Syntax
unfolding flow_of limited_text flow_at is_joined sign_at repeated expect_at sort_at token_at accept_at finish_at names_at keys_at key_at fresh_at word_at further_at kind_at flag_at closed_at behind_at bracket_at method_at opt_at setting_at head_at marked_at input_at output_at stage_at piped_at ended_at stages_at directed_at value_of whole_at
directive_alone = refl

pub directive_last : flow_of (codes "nopart;") ≡ bad 7 why.Syntax
unfolding flow_of limited_text flow_at is_joined sign_at repeated expect_at sort_at token_at accept_at finish_at names_at keys_at key_at fresh_at word_at further_at kind_at flag_at closed_at behind_at bracket_at method_at opt_at setting_at head_at marked_at input_at output_at stage_at piped_at ended_at stages_at directed_at value_of whole_at
directive_last = refl

pub directive_late : flow_of (codes "copy; nopart") ≡ bad 6 why.UnknownOperator
unfolding flow_of limited_text flow_at is_joined sign_at repeated expect_at sort_at token_at accept_at finish_at names_at keys_at key_at fresh_at word_at further_at kind_at flag_at closed_at behind_at bracket_at method_at opt_at setting_at head_at marked_at input_at output_at stage_at piped_at ended_at stages_at directed_at value_of whole_at
directive_late = refl

pub missing_ahead : flow_of (codes "import [seq] $") ≡ bad 0 why.MissingOption
unfolding flow_of limited_text flow_at is_joined sign_at repeated expect_at sort_at token_at accept_at finish_at names_at keys_at key_at fresh_at word_at further_at kind_at flag_at closed_at behind_at bracket_at method_at opt_at setting_at head_at marked_at input_at output_at stage_at piped_at ended_at stages_at directed_at value_of whole_at
missing_ahead = refl

pub cut_behind : flow_of (codes "import $") ≡ bad 7 why.Token
unfolding flow_of limited_text flow_at is_joined sign_at repeated expect_at sort_at token_at accept_at finish_at names_at keys_at key_at fresh_at word_at further_at kind_at flag_at closed_at behind_at bracket_at method_at opt_at setting_at head_at marked_at input_at output_at stage_at piped_at ended_at stages_at directed_at value_of whole_at
cut_behind = refl

pub no_value : flow_of (codes "tsort -key") ≡ bad 6 why.BadValue
unfolding flow_of limited_text flow_at is_joined sign_at repeated expect_at sort_at token_at accept_at finish_at names_at keys_at key_at fresh_at word_at further_at kind_at flag_at closed_at behind_at bracket_at method_at opt_at setting_at head_at marked_at input_at output_at stage_at piped_at ended_at stages_at directed_at value_of whole_at
no_value = refl

pub no_second_value : flow_of (codes "tsort -key a -key |") ≡ bad 13 why.BadValue
unfolding flow_of limited_text flow_at is_joined sign_at repeated expect_at sort_at token_at accept_at finish_at names_at keys_at key_at fresh_at word_at further_at kind_at flag_at closed_at behind_at bracket_at method_at opt_at setting_at head_at marked_at input_at output_at stage_at piped_at ended_at stages_at directed_at value_of whole_at
no_second_value = refl

pub second_cut : flow_of (codes "tsort -key a -key $") ≡ bad 13 why.DoubleOption
unfolding flow_of limited_text flow_at is_joined sign_at repeated expect_at sort_at token_at accept_at finish_at names_at keys_at key_at fresh_at word_at further_at kind_at flag_at closed_at behind_at bracket_at method_at opt_at setting_at head_at marked_at input_at output_at stage_at piped_at ended_at stages_at directed_at value_of whole_at
second_cut = refl

pub excluded : flow_of (codes "funnel -sequence -sort a") ≡ bad 17 why.DoubleOption
unfolding flow_of limited_text flow_at is_joined sign_at repeated expect_at sort_at token_at accept_at finish_at names_at keys_at key_at fresh_at word_at further_at kind_at flag_at closed_at behind_at bracket_at method_at opt_at setting_at head_at marked_at input_at output_at stage_at piped_at ended_at stages_at directed_at value_of whole_at
excluded = refl

pub flag_value : flow_of (codes "remdup -key a -last x") ≡ bad 20 why.BadValue
unfolding flow_of limited_text flow_at is_joined sign_at repeated expect_at sort_at token_at accept_at finish_at names_at keys_at key_at fresh_at word_at further_at kind_at flag_at closed_at behind_at bracket_at method_at opt_at setting_at head_at marked_at input_at output_at stage_at piped_at ended_at stages_at directed_at value_of whole_at
flag_value = refl

pub unknown_option : flow_of (codes "copy -x") ≡ bad 5 why.UnknownOption
unfolding flow_of limited_text flow_at is_joined sign_at repeated expect_at sort_at token_at accept_at finish_at names_at keys_at key_at fresh_at word_at further_at kind_at flag_at closed_at behind_at bracket_at method_at opt_at setting_at head_at marked_at input_at output_at stage_at piped_at ended_at stages_at directed_at value_of whole_at
unknown_option = refl

pub no_expression : flow_of (codes "filter -reject") ≡ bad 0 why.MissingOption
unfolding flow_of limited_text flow_at is_joined sign_at repeated expect_at sort_at token_at accept_at finish_at names_at keys_at key_at fresh_at word_at further_at kind_at flag_at closed_at behind_at bracket_at method_at opt_at setting_at head_at marked_at input_at output_at stage_at piped_at ended_at stages_at directed_at value_of whole_at
no_expression = refl

pub no_equals : flow_of (codes "transform -set 'a: date b'") ≡ bad 15 why.BadValue
unfolding flow_of limited_text flow_at is_joined sign_at repeated expect_at sort_at token_at accept_at finish_at names_at keys_at key_at fresh_at word_at further_at kind_at flag_at closed_at behind_at bracket_at method_at opt_at setting_at head_at marked_at input_at output_at stage_at piped_at ended_at stages_at directed_at value_of whole_at set_value target_at field_at named_at type_at type_behind
no_equals = refl

pub equal_cases : flow_of (codes "switch -cases '0,-0' -on a") ≡ bad 14 why.BadValue
unfolding flow_of limited_text flow_at is_joined sign_at repeated expect_at sort_at token_at accept_at finish_at names_at keys_at key_at fresh_at word_at further_at kind_at flag_at closed_at behind_at bracket_at method_at opt_at setting_at head_at marked_at input_at output_at stage_at piped_at ended_at stages_at directed_at value_of whole_at with_commas case_at
equal_cases = refl

pub mark : flow_of (codes "export -file a [par]") ≡ bad 15 why.Constraint
unfolding flow_of limited_text flow_at is_joined sign_at repeated expect_at sort_at token_at accept_at finish_at names_at keys_at key_at fresh_at word_at further_at kind_at flag_at closed_at behind_at bracket_at method_at opt_at setting_at head_at marked_at input_at output_at stage_at piped_at ended_at stages_at directed_at value_of whole_at
mark = refl

pub mark_broken : flow_of (codes "export -file a [par x") ≡ bad 20 why.Syntax
unfolding flow_of limited_text flow_at is_joined sign_at repeated expect_at sort_at token_at accept_at finish_at names_at keys_at key_at fresh_at word_at further_at kind_at flag_at closed_at behind_at bracket_at method_at opt_at setting_at head_at marked_at input_at output_at stage_at piped_at ended_at stages_at directed_at value_of whole_at
mark_broken = refl

pub mark_first : flow_of (codes "dsread -ds a [seq] $") ≡ bad 13 why.Constraint
unfolding flow_of limited_text flow_at is_joined sign_at repeated expect_at sort_at token_at accept_at finish_at names_at keys_at key_at fresh_at word_at further_at kind_at flag_at closed_at behind_at bracket_at method_at opt_at setting_at head_at marked_at input_at output_at stage_at piped_at ended_at stages_at directed_at value_of whole_at
mark_first = refl

pub name_doubled : flow_of (codes "copy < [hash a,a]a") ≡ bad 15 why.Syntax
unfolding flow_of limited_text flow_at is_joined sign_at repeated expect_at sort_at token_at accept_at finish_at names_at keys_at key_at fresh_at word_at further_at kind_at flag_at closed_at behind_at bracket_at method_at opt_at setting_at head_at marked_at input_at output_at stage_at piped_at ended_at stages_at directed_at value_of whole_at
name_doubled = refl

pub unjoined : flow_of (codes "copy > a.v; copy < b.v") ≡ bad 5 why.Unjoined
unfolding flow_of limited_text flow_at is_joined sign_at repeated expect_at sort_at token_at accept_at finish_at names_at keys_at key_at fresh_at word_at further_at kind_at flag_at closed_at behind_at bracket_at method_at opt_at setting_at head_at marked_at input_at output_at stage_at piped_at ended_at stages_at directed_at value_of whole_at
unjoined = refl

pub links_numbered : links_read (flow_of (codes "copy > a.v | copy < [modulus x set] a.v")) ≡ link 0 0 1 0 method.Auto flag.Prop ∷ link 0 1 1 1 (method.Modulus (codes "x")) flag.Set ∷ []
unfolding flow_of limited_text flow_at is_joined sign_at repeated expect_at sort_at token_at accept_at finish_at names_at keys_at key_at fresh_at word_at further_at kind_at flag_at closed_at behind_at bracket_at method_at opt_at setting_at head_at marked_at input_at output_at stage_at piped_at ended_at stages_at directed_at value_of whole_at
links_numbered = refl

pub set_is_auto : links_read (flow_of (codes "copy > a | [set] copy < [merge k desc prop]a")) ≡ link 0 0 1 0 method.Auto flag.Set ∷ link 0 1 1 1 (method.Merge ((codes "k", true) ∷ [])) flag.Prop ∷ []
unfolding flow_of limited_text flow_at is_joined sign_at repeated expect_at sort_at token_at accept_at finish_at names_at keys_at key_at fresh_at word_at further_at kind_at flag_at closed_at behind_at bracket_at method_at opt_at setting_at head_at marked_at input_at output_at stage_at piped_at ended_at stages_at directed_at value_of whole_at
set_is_auto = refl

place : Result Flow Fault → ℕ
place (Ok flow) = 0
place (Err fault) = fault.at

-- another place is refused
pub other_place : flow_of (codes "nopart;") ≡ bad 6 why.Syntax → ⊥
unfolding place
other_place h = let t : true ≡ false = ap (λ n. n == 7) (sym (ap place directive_last) ∙ ap place h) in absurd cc
