use Rattle.std.proofs.Common.{◌≡◌, false, get_or, sym, ◌∙◌, length}
use Rattle.flow_shape.specs.Links.{AreWithin}
use Rattle.flow_shape.proofs.Marks.{all_reached}
use Rattle.flow_shape.proofs.cycle.is_on_cycle.Goals as goal

pub returns-clause-no : goal.returns-clause-no
returns-clause-no c = λ e cycle.
    let within : AreWithin (length c.in_ok-marks.marks.items) c.args.links.now = rw c.in_ok-marks.ensures.len c.requires in
    let yes = all_reached c.args.op c.in_ok-marks.marks.items c.args.links.now c.in_ok-marks.ensures.closed within cycle.0 c.args.op cycle.1 in
    let no : get_or c.in_ok-marks.marks.items c.args.op false ≡ false = rw (← c.as_slice.ensures.value) (sym c.is_marked.ensures ∙ e) in
    cc (sym yes ∙ no)
