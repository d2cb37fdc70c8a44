use Rattle.std.proofs.Common.{sym, ◌∙◌}
use Rattle.osh_words.proofs.Single.{file_read}
use Rattle.osh_words.proofs.word.file.Goals as goal

pub returns-in-Some : goal.returns-in-Some
returns-in-Some c = file_read _ _ (sym c.begins_with_dash.ensures ∙ c.if-begins_with_dash.false) (rw c.in-Some.is at c.in_ok-name.ensures)
