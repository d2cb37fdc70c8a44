use Rattle.std.proofs.Common.{◌∙◌, sym, ap, length, arith}
use Rattle.std.proofs.lemmas.Result.{err_from_is_err_and}
use Rattle.config_read.specs.Reading.{entry_at}
use Rattle.config_read.proofs.Fronts.{entry_fewer, not_accepted}
use Rattle.config_read.proofs.Loops.{entry_begins, closes, fails, goes_on}
use Rattle.config_read.proofs.entry.entries.Goals as goal

pub loop-alloc-smaller : goal.loop-alloc-smaller
loop-alloc-smaller c =
    let less = entry_fewer _ _ _ _ c.in_ok-entry.ensures in
    let long = ap length (not_accepted _ c.loop-alloc.cursor c.accept.new.self (rw c.loop-alloc-test.true at c.accept.ensures)) in
    omega (arith, less, long)

pub loop-alloc-preserved : goal.loop-alloc-preserved
loop-alloc-preserved c =
    sym (goes_on entry_at c.loop-alloc.node c.entry.new.node c.loop-alloc.cursor c.accept.new.self c.entry.new.cursor entry_fewer entry_begins (rw c.loop-alloc-test.true at c.accept.ensures) c.in_ok-entry.ensures) ∙ c.loop-alloc.invariant

pub returns-in_err-entry : goal.returns-in_err-entry
returns-in_err-entry c =
    let p = err_from_is_err_and c.from_residual.result c.from_residual.ensures.1 in
    rw (p.1, p.2, ← c.loop-alloc.invariant) (fails entry_at c.loop-alloc.node c.loop-alloc.cursor c.accept.new.self _ entry_begins (rw c.loop-alloc-test.true at c.accept.ensures) c.in_err-entry.ensures)

pub returns : goal.returns
returns c = sym c.loop-alloc.invariant ∙ closes entry_at c.loop-alloc.node c.loop-alloc.cursor c.accept.new.self (rw c.loop-alloc-test.false at c.accept.ensures)
