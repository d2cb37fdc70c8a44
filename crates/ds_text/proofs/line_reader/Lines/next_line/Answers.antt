use Rattle.std.proofs.Common.{arith, length-take, ap, ◌∙◌, Ok, Err}
use Rattle.ds_text.specs.Lines.{without_return}
use Rattle.ds_text.proofs.Underway.{begin, filled, short, continued, further, ended, closed, refused}
use Rattle.ds_text.proofs.line_reader.Lines.next_line.Goals as goal

pub loop-into-init : goal.loop-into-init
loop-into-init g c = begin _ _ _ c.clear.ensures

pub returns-in-Ok-false-clause-line : goal.returns-in-Ok-false-clause-line
returns-in-Ok-false-clause-line g c =
    closed (filled {new = c.ready.new.self} c.loop-into.invariant c.in-Ok-false.ensures.told c.ready.ensures.room c.ready.ensures.cause.later) c.if-not-begun.false (λ t. c.in-Ok-false.ensures.told t ∙ c.in-Ok-false.ensures.none t (ap Ok c.in-Ok-false.field-0-test)) c.finish.ensures

pub returns-in-Ok-false-clause-cause : goal.returns-in-Ok-false-clause-cause
returns-in-Ok-false-clause-cause g c = record { later = omega (arith, c.loop-into.invariant.later, c.ready.ensures.cause.later); rose = λ h. cc }

pub returns-in-Ok-false-clause-short : goal.returns-in-Ok-false-clause-short
returns-in-Ok-false-clause-short g c = rw c.finish.ensures (omega (arith, length-take 2_097_153 (without_return c.loop-into.into)))

pub returns-in-Err-clause-line : goal.returns-in-Err-clause-line
returns-in-Err-clause-line g c =
    refused _ _ c.in-Err.fault c.loop-into.invariant (λ t e. (c.in-Err.ensures.full (ap Err e), c.in-Err.ensures.long t (ap Err e)))

pub take_piece-requires-clause-kept : goal.take_piece-requires-clause-kept
take_piece-requires-clause-kept g c = short c.loop-into.invariant

pub returns-in-Ok-true-take_piece-clause-line : goal.returns-in-Ok-true-take_piece-clause-line
returns-in-Ok-true-take_piece-clause-line g c =
    ended (filled c.loop-into.invariant c.in-Ok-true.ensures.told c.ready.ensures.room c.ready.ensures.cause.later)
    (c.take_piece.ensures.found (c.in-Ok-true-take_piece.is ∙ ap Ok c.in-Ok-true-take_piece.field-0-test)) c.finish-in-Ok-true-take_piece.ensures

pub returns-in-Ok-true-take_piece-clause-cause : goal.returns-in-Ok-true-take_piece-clause-cause
returns-in-Ok-true-take_piece-clause-cause g c = record { later = rw c.take_piece.ensures.faults (omega (arith, c.loop-into.invariant.later, c.ready.ensures.cause.later)); rose = λ h. cc }

pub returns-in-Ok-true-take_piece-clause-short : goal.returns-in-Ok-true-take_piece-clause-short
returns-in-Ok-true-take_piece-clause-short g c = rw c.finish-in-Ok-true-take_piece.ensures (omega (arith, length-take 2_097_153 (without_return c.take_piece.new.into)))

pub loop-into-preserved : goal.loop-into-preserved
loop-into-preserved g c =
    continued (filled c.loop-into.invariant c.in-Ok-true.ensures.told c.ready.ensures.room c.ready.ensures.cause.later)
    (c.take_piece.ensures.«open» (c.in-Ok-false-take_piece.is ∙ ap Ok c.in-Ok-false-take_piece.field-0-test))

pub returns-in-Ok-true-take_piece-clause-progress : goal.returns-in-Ok-true-take_piece-clause-progress
returns-in-Ok-true-take_piece-clause-progress g c = λ _.
    further (filled c.loop-into.invariant c.in-Ok-true.ensures.told c.ready.ensures.room c.ready.ensures.cause.later)
    (c.take_piece.ensures.found (c.in-Ok-true-take_piece.is ∙ ap Ok c.in-Ok-true-take_piece.field-0-test))
