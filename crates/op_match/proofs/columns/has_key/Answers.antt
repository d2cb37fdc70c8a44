use Rattle.std.proofs.Common.{ap, ◌∙◌}
use Rattle.std.specs.Ordering.{is_eq}
use Rattle.ds_schema.specs.Rows.{cols, ways}
use Rattle.op_match.proofs.Pieces.{has_vals}
use Rattle.op_match.proofs.columns.has_key.Goals as goal

pub returns : goal.returns
returns c = c.is_eq.ensures ∙ ap is_eq c.compare_key.ensures ∙ has_vals (ways c.args.keys.now) (cols c.args.keys.now) c.args.key.now c.args.row.now
