use Rattle.ds_text.proofs.PieceLemmas.{none_open, some_ends}
use Rattle.ds_text.proofs.line_reader.end_of_line.Goals as goal

pub returns : goal.returns
returns c = record { found = some_ends _ _ c.memchr.ensures; «open» = none_open _ _ c.memchr.ensures }
