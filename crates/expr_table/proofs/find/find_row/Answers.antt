use Rattle.std.proofs.Common.{◌≡◌, ◌∙◌, sym, slice_get, Some}
use Rattle.expr_table.specs.TableRows.{has}
use Rattle.expr_table.proofs.Found.{none_passes, none_left, found_here}
use Rattle.expr_table.proofs.Names.{has_is}
use Rattle.expr_table.proofs.find.find_row.Goals as goal

pub returns-then-has-clause-found : goal.returns-then-has-clause-found
returns-then-has-clause-found c = found_here c.args.name c.args.args.now c.args.table.now c.as_slice-row-items.result.now c.loop-i.i _ c.as_slice-row-items.ensures.value c.loop-i-test.true (sym c.has.ensures ∙ c.if-has.true)

pub returns-clause-none : goal.returns-clause-none
returns-clause-none c = λ i e at h.
    let p = has c.args.name c.args.args.now in
    let none = none_left p c.as_slice-row-items.result.now c.loop-i.i c.loop-i-test.false c.loop-i.invariant in
    let here : slice_get c.as_slice-row-items.result.now i ≡ Some e = rw (c.as_slice-row-items.ensures.value) at in
    none_passes p 0 c.as_slice-row-items.result.now none i e here ((has_is c.args.name c.args.args.now e).1 h)
