use Rattle.osh_words.proofs.Worked as worked
use Rattle.osh_words.proofs.laws.spelled_lines.Goals as goal

pub returns-clause-check : goal.returns-clause-check
returns-clause-check c = worked.check_line

pub returns-clause-score : goal.returns-clause-score
returns-clause-score c = worked.score_line

pub returns-clause-meaning : goal.returns-clause-meaning
returns-clause-meaning c = worked.meaning_line

pub returns-clause-usual : goal.returns-clause-usual
returns-clause-usual c = worked.usual

pub returns-clause-options : goal.returns-clause-options
returns-clause-options c = worked.all_options

pub returns-clause-gen_least : goal.returns-clause-gen_least
returns-clause-gen_least c = worked.gen_least

pub returns-clause-gen_most : goal.returns-clause-gen_most
returns-clause-gen_most c = worked.gen_most
