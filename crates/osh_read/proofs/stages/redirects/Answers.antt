use Rattle.std.proofs.Common.{◌≡◌, ◌≢◌, ◌-◌, ◌+◌, sym, ◌∙◌, arith}
use Rattle.osh_read.proofs.Repeats.{repeated_none, repeated_fail, repeated_last, repeated_next}
use Rattle.osh_read.proofs.stages.redirects.Goals as goal

pub returns-in-Ok-None : goal.returns-in-Ok-None
returns-in-Ok-None c =
    let ne : c.len-count.result - c.loop-count._count ≢ 0 = omega arith in
    rw (← c.loop-count.invariant) (repeated_last _ _ _ _ _ _ ne (rw c.in-Ok-None.field-0-is at c.in-Ok-None.ensures))

pub returns-in-Err : goal.returns-in-Err
returns-in-Err c =
    let ne : c.len-count.result - c.loop-count._count ≢ 0 = omega arith in
    rw (← c.loop-count.invariant) (repeated_fail _ _ _ _ _ c.in-Err.stop ne c.in-Err.ensures)

pub loop-count-preserved : goal.loop-count-preserved
loop-count-preserved c =
    let ne : c.len-count.result - c.loop-count._count ≢ 0 = omega arith in
    let k : c.len-count.result - (c.loop-count._count + 1) ≡ c.len-count.result - c.loop-count._count - 1 = omega arith in
    rw (k, c.in_ok-push.ensures.ok) (sym (repeated_next _ _ _ _ _ _ _ ne (rw c.in-Ok-Some.field-0-is at c.in-Ok-Some.ensures)) ∙ c.loop-count.invariant)

pub returns : goal.returns
returns c =
    rw (← c.loop-count.invariant) (repeated_none _ _ _ _ _ (omega arith))
