use Rattle.std.proofs.lemmas.Option.{slice_get-get_or}
use Rattle.expr_table.specs.TableRows.{rows}
use Rattle.expr_table.proofs.rows.row_at.Goals as goal

pub returns : goal.returns
returns c = slice_get-get_or rows c.args.row _ c.requires
