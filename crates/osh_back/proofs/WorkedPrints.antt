-- Texts with what is printed of their flows, by computing.
use Rattle.std.proofs.Common.{◌≡◌, ◌++◌, Some, refl}
use Rattle.std.specs.Prelude.{codes}
use Rattle.ds_lex.specs.Lexemes.{limited_text}
use Rattle.ds_lex.specs.Reading.{token_at, expect_at, sort_at, accept_at, finish_at}
use Rattle.ds_schema.specs.ColumnReading.{name_at as word_at, new_name_at as fresh_at, key_at, further_at, names_at, keys_at}
use Rattle.ds_schema.specs.SchemaReading.{whole_schema_at, schema_at, fields_at, field_at, name_at as field_name_at, kind_at as column_kind_at, kind_behind, separator_at, semicolon_at, text_at, length_at, fixed_at, equals_at, size_at}
use Rattle.std.specs.Fmt.{digits}
use Rattle.osh_value.specs.Values.{value_of, whole_at}
use Rattle.osh_read.specs.Reading.{sign_at, repeated}
use Rattle.osh_read.specs.Methods.{kind_at, flag_at, closed_at, behind_at, bracket_at, method_at}
use Rattle.osh_read.specs.Options.{opt_at, setting_at, head_at}
use Rattle.osh_read.specs.Stages.{marked_at, input_at, output_at, stage_at, piped_at, ended_at, stages_at, directed_at}
use Rattle.osh_read.specs.Joining.{is_joined}
use Rattle.osh_read.specs.Flows.{flow_at, flow_of}
use Rattle.osh_back.specs.WorkedPrints.{printed_again}

pub piped : printed_again (codes "import -file \"in.txt\" -schema 'record ( id: int32; name: string[max=10] )' | copy [seq] | export -file out.txt") ≡ Some (codes "import -file \"in.txt\" -schema \"record ( id: int32; name: string[max=10]; )\" > k0.v;\n" ++ (codes "copy [seq] < k0.v > k1.v;\n" ++ codes "export -file \"out.txt\" < k1.v;\n"))
unfolding flow_of limited_text flow_at is_joined sign_at repeated expect_at sort_at token_at accept_at finish_at names_at keys_at key_at fresh_at word_at further_at kind_at flag_at closed_at behind_at bracket_at method_at opt_at setting_at head_at marked_at input_at output_at stage_at piped_at ended_at stages_at directed_at value_of whole_at whole_schema_at schema_at fields_at field_at field_name_at column_kind_at kind_behind separator_at semicolon_at text_at length_at fixed_at equals_at size_at digits
piped = refl

pub defaults : printed_again (codes "copy [par] > a.v; tsort -key 'k' < [auto prop] a.v") ≡ Some (codes "copy > k0.v;\ntsort -key \"k\" < k0.v;\n")
unfolding flow_of limited_text flow_at is_joined sign_at repeated expect_at sort_at token_at accept_at finish_at names_at keys_at key_at fresh_at word_at further_at kind_at flag_at closed_at behind_at bracket_at method_at opt_at setting_at head_at marked_at input_at output_at stage_at piped_at ended_at stages_at directed_at value_of whole_at whole_schema_at schema_at fields_at field_at field_name_at column_kind_at kind_behind separator_at semicolon_at text_at length_at fixed_at equals_at size_at digits
defaults = refl
