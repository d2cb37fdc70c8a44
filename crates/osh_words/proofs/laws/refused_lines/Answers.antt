use Rattle.osh_words.proofs.Worked as worked
use Rattle.osh_words.proofs.laws.refused_lines.Goals as goal

pub returns-clause-none : goal.returns-clause-none
returns-clause-none c = worked.no_words

pub returns-clause-empty : goal.returns-clause-empty
returns-clause-empty c = worked.empty_word

pub returns-clause-zero_cap : goal.returns-clause-zero_cap
returns-clause-zero_cap c = worked.zero_cap

pub returns-clause-one_name : goal.returns-clause-one_name
returns-clause-one_name c = worked.one_name

pub returns-clause-high_cap : goal.returns-clause-high_cap
returns-clause-high_cap c = worked.high_cap

pub returns-clause-high_spill : goal.returns-clause-high_spill
returns-clause-high_spill c = worked.high_spill

pub returns-clause-twice : goal.returns-clause-twice
returns-clause-twice c = worked.twice

pub returns-clause-cap_twice : goal.returns-clause-cap_twice
returns-clause-cap_twice c = worked.cap_twice

pub returns-clause-behind : goal.returns-clause-behind
returns-clause-behind c = worked.options_behind

pub returns-clause-signed : goal.returns-clause-signed
returns-clause-signed c = worked.signed

pub returns-clause-twenty_digits : goal.returns-clause-twenty_digits
returns-clause-twenty_digits c = worked.twenty_digits

pub returns-clause-few_orders : goal.returns-clause-few_orders
returns-clause-few_orders c = worked.few_orders

pub returns-clause-dash : goal.returns-clause-dash
returns-clause-dash c = worked.dash

pub returns-clause-quote : goal.returns-clause-quote
returns-clause-quote c = worked.quote

pub returns-clause-no_name : goal.returns-clause-no_name
returns-clause-no_name c = worked.no_name

pub returns-clause-more : goal.returns-clause-more
returns-clause-more c = worked.one_more

pub returns-clause-case : goal.returns-clause-case
returns-clause-case c = worked.upper_case
