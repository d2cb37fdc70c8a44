use Rattle.std.proofs.Common.{◌≡◌, ◌≢◌, ◌-◌, ◌+◌, sym, ◌∙◌, arith}
use Rattle.osh_read.proofs.Stepping.{stages_none, stages_fail, stages_fail_joint, stages_last, stages_next}
use Rattle.osh_read.proofs.stages.stages.Goals as goal

pub returns-in-Err : goal.returns-in-Err
returns-in-Err c =
    let ne : c.len-count.result - c.loop-count._count ≢ 0 = omega arith in
    let f = rw c.as_slice.ensures at c.in-Err.ensures in
    rw (← c.loop-count.invariant) (stages_fail _ _ _ _ _ c.in-Err.stop ne f)

pub returns-in-Err-joint : goal.returns-in-Err-joint
returns-in-Err-joint c =
    let ne : c.len-count.result - c.loop-count._count ≢ 0 = omega arith in
    let a = rw c.as_slice.ensures at c.in-Ok.ensures in
    rw (← c.loop-count.invariant) (stages_fail_joint _ _ _ _ _ _ _ c.in-Err-joint.stop ne a c.in-Err-joint.ensures)

pub returns-in-Ok-None : goal.returns-in-Ok-None
returns-in-Ok-None c =
    let ne : c.len-count.result - c.loop-count._count ≢ 0 = omega arith in
    let a = rw c.as_slice.ensures at c.in-Ok.ensures in
    rw (← c.loop-count.invariant, c.in_ok-push.ensures.ok) (stages_last _ _ _ _ _ _ _ _ ne a (rw c.in-Ok-None.field-0-is at c.in-Ok-None.ensures))

pub loop-count-preserved : goal.loop-count-preserved
loop-count-preserved c =
    let ne : c.len-count.result - c.loop-count._count ≢ 0 = omega arith in
    let k : c.len-count.result - (c.loop-count._count + 1) ≡ c.len-count.result - c.loop-count._count - 1 = omega arith in
    let a = rw c.as_slice.ensures at c.in-Ok.ensures in
    rw (k, c.in_ok-push.ensures.ok) (sym (stages_next _ _ _ _ _ _ _ _ _ ne a (rw c.in-Ok-Some.field-0-is at c.in-Ok-Some.ensures)) ∙ c.loop-count.invariant)

pub returns : goal.returns
returns c =
    rw (← c.loop-count.invariant) (stages_none _ _ _ _ _ (omega arith))
