use Rattle.std.proofs.Common.{◌≡◌, ◌≢◌, ◌-◌, ◌+◌, true, false, sym, ◌∙◌, arith}
use Rattle.std.specs.Prelude.{codes}
use Rattle.std.proofs.lemmas.Result.{err_from_is_err_and}
use Rattle.ds_lex.specs.Reading.{accept_at}
use Rattle.osh_value.proofs.Commas.{commas_none, commas_fail, commas_last, commas_next}
use Rattle.osh_value.proofs.lists.widths.Goals as goal

pub returns-in_err-width : goal.returns-in_err-width
returns-in_err-width c =
    let p = err_from_is_err_and c.from_residual.result c.from_residual.ensures.1 in
    let ne : c.len-count.result - c.loop-count._count ≢ 0 = omega arith in
    let failed = c.in_err-width.ensures in
    rw (p.1, p.2, ← c.loop-count.invariant) (commas_fail _ _ _ _ _ ne failed)

pub returns-then-not-accept : goal.returns-then-not-accept
returns-then-not-accept c =
    let ne : c.len-count.result - c.loop-count._count ≢ 0 = omega arith in
    let read = c.in_ok-width.ensures in
    let last : accept_at (codes ",") c.width.new.cursor ≡ (false, c.accept.new.self) = rw (← c.if-not-accept.true) (sym c.accept.ensures) in
    rw (c.in_ok-push.ensures.ok, ← c.loop-count.invariant) (commas_last _ _ _ _ _ _ _ ne read last)

pub loop-count-preserved : goal.loop-count-preserved
loop-count-preserved c =
    let ne : c.len-count.result - c.loop-count._count ≢ 0 = omega arith in
    let k : c.len-count.result - (c.loop-count._count + 1) ≡ c.len-count.result - c.loop-count._count - 1 = omega arith in
    let read = c.in_ok-width.ensures in
    let next : accept_at (codes ",") c.width.new.cursor ≡ (true, c.accept.new.self) = rw (← c.if-not-accept.false) (sym c.accept.ensures) in
    rw (k, c.in_ok-push.ensures.ok) (sym (commas_next _ _ _ _ _ _ _ ne read next) ∙ c.loop-count.invariant)

pub returns : goal.returns
returns c =
    rw (← c.loop-count.invariant) (commas_none _ _ _ _ (omega arith))
