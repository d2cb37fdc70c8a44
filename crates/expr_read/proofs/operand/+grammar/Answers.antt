use Rattle.std.proofs.Common.{◌≡◌, ◌≢◌, ◌+◌, ◌-◌, sym, ◌∙◌, arith}
use Rattle.expr_read.proofs.Loops.{links_none, links_last, links_next, links_halt, args_none, args_next, args_last, args_halt}
use Rattle.expr_read.proofs.operand.+grammar.Goals as goal

pub args-returns : goal.args-returns
args-returns t c = rw (← c.len-count.ensures) (sym c.loop-round.invariant ∙ args_none _ _ _ _ (omega arith))

pub args-returns-in-Err : goal.args-returns-in-Err
args-returns-in-Err t c =
    let ne : c.len-count.result - c.loop-round._round ≢ 0 = omega arith in
    rw (← c.len-count.ensures, ← c.loop-round.invariant) (args_halt _ _ _ _ _ _ ne c.in-Err.ensures)

pub args-loop-round-preserved : goal.args-loop-round-preserved
args-loop-round-preserved t c =
    let ne : c.len-count.result - c.loop-round._round ≢ 0 = omega arith in
    let k : c.len-count.result - (c.loop-round._round + 1) ≡ c.len-count.result - c.loop-round._round - 1 = omega arith in
    rw (k, c.in_ok-push.ensures.ok) (sym (args_next _ _ _ _ _ _ _ ne c.in-Ok.ensures c.if-not-comma.ensures) ∙ c.loop-round.invariant)

pub args-returns-then-not-comma : goal.args-returns-then-not-comma
args-returns-then-not-comma t c =
    let ne : c.len-count.result - c.loop-round._round ≢ 0 = omega arith in
    rw (← c.len-count.ensures, ← c.loop-round.invariant, args_last _ _ _ _ _ _ _ ne c.in-Ok.ensures c.if-not-comma.ensures, ← c.in_ok-push.ensures.ok) c.closed.ensures

pub links-returns-in_default : goal.links-returns-in_default
links-returns-in_default t c =
    let ne : c.args.most - c.loop-round._round ≢ 0 = omega arith in
    sym c.loop-round.invariant ∙ links_last _ _ _ _ _ ne (sym c.in_default.ensures)

pub links-returns-in-Err : goal.links-returns-in-Err
links-returns-in-Err t c =
    let ne : c.args.most - c.loop-round._round ≢ 0 = omega arith in
    rw (← c.loop-round.invariant) (links_halt _ _ _ _ _ _ _ _ ne (sym c.in-Some.ensures) (rw (← c.skip.ensures) c.in-Err.ensures))

pub links-loop-round-preserved : goal.links-loop-round-preserved
links-loop-round-preserved t c =
    let ne : c.args.most - c.loop-round._round ≢ 0 = omega arith in
    let k : c.args.most - (c.loop-round._round + 1) ≡ c.args.most - c.loop-round._round - 1 = omega arith in
    rw (k, c.in_ok-push.ensures.ok) (sym (links_next _ _ _ _ _ _ _ _ ne (sym c.in-Some.ensures) (rw (← c.skip.ensures) c.in-Ok.ensures)) ∙ c.loop-round.invariant)

pub links-returns : goal.links-returns
links-returns t c = sym c.loop-round.invariant ∙ links_none _ _ _ _ _ (omega arith)
