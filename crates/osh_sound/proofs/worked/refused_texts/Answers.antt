use Rattle.osh_sound.proofs.WorkedTexts as w
use Rattle.osh_sound.proofs.worked.refused_texts.Goals as goal

pub returns-clause-unclosed : goal.returns-clause-unclosed
returns-clause-unclosed c = w.unclosed

pub returns-clause-directive_alone : goal.returns-clause-directive_alone
returns-clause-directive_alone c = w.directive_alone

pub returns-clause-directive_last : goal.returns-clause-directive_last
returns-clause-directive_last c = w.directive_last

pub returns-clause-directive_late : goal.returns-clause-directive_late
returns-clause-directive_late c = w.directive_late

pub returns-clause-missing_ahead : goal.returns-clause-missing_ahead
returns-clause-missing_ahead c = w.missing_ahead

pub returns-clause-cut_behind : goal.returns-clause-cut_behind
returns-clause-cut_behind c = w.cut_behind

pub returns-clause-no_value : goal.returns-clause-no_value
returns-clause-no_value c = w.no_value

pub returns-clause-no_second_value : goal.returns-clause-no_second_value
returns-clause-no_second_value c = w.no_second_value

pub returns-clause-second_cut : goal.returns-clause-second_cut
returns-clause-second_cut c = w.second_cut

pub returns-clause-excluded : goal.returns-clause-excluded
returns-clause-excluded c = w.excluded

pub returns-clause-flag_value : goal.returns-clause-flag_value
returns-clause-flag_value c = w.flag_value

pub returns-clause-unknown_option : goal.returns-clause-unknown_option
returns-clause-unknown_option c = w.unknown_option

pub returns-clause-no_expression : goal.returns-clause-no_expression
returns-clause-no_expression c = w.no_expression

pub returns-clause-no_equals : goal.returns-clause-no_equals
returns-clause-no_equals c = w.no_equals

pub returns-clause-equal_cases : goal.returns-clause-equal_cases
returns-clause-equal_cases c = w.equal_cases

pub returns-clause-mark : goal.returns-clause-mark
returns-clause-mark c = w.mark

pub returns-clause-mark_broken : goal.returns-clause-mark_broken
returns-clause-mark_broken c = w.mark_broken

pub returns-clause-mark_first : goal.returns-clause-mark_first
returns-clause-mark_first c = w.mark_first

pub returns-clause-name_doubled : goal.returns-clause-name_doubled
returns-clause-name_doubled c = w.name_doubled

pub returns-clause-unjoined : goal.returns-clause-unjoined
returns-clause-unjoined c = w.unjoined

pub returns-clause-other_place : goal.returns-clause-other_place
returns-clause-other_place c = w.other_place
