use Rattle.std.proofs.Common.{[], ◌∷◌, sym, ap, subst, ◌∙◌}
use Rattle.op_base.proofs.All.{all_append}
use Rattle.flow_files.specs.Lines.{AreOfLines, line_row}
use Rattle.flow_files.proofs.import.take_bad.Goals as goal

pub returns-in_ok-push-clause-lines : goal.returns-in_ok-push-clause-lines
returns-in_ok-push-clause-lines c = λ lines.
    let row = c.in_ok-line_row.field-0 in
    subst AreOfLines (sym c.in_ok-push.ensures.items) (all_append _ c.args.run.now.rejected.items (row ∷ []) lines ((c.as_slice.result.now, c.in_ok-line_row.ensures), tt))
