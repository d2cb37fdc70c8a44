use Rattle.std.proofs.Common.{◌≡◌, ◌≢◌, ◌-◌, ◌+◌, true, false, sym, ◌∙◌, arith}
use Rattle.std.specs.Prelude.{codes}
use Rattle.std.proofs.lemmas.Result.{err_from_is_err_and}
use Rattle.ds_lex.specs.Reading.{accept_at}
use Rattle.osh_value.specs.Values.{rename_at}
use Rattle.osh_value.proofs.Commas.{commas_none, commas_fail, commas_last, commas_next}
use Rattle.osh_value.proofs.lists.renames.Goals as goal

pub returns-in_err-pair : goal.returns-in_err-pair
returns-in_err-pair c =
    let p = err_from_is_err_and c.from_residual.result c.from_residual.ensures.1 in
    let ne : c.len-count.result - c.loop-count._count ≢ 0 = omega arith in
    let failed = rw c.as_slice.ensures at c.in_err-pair.ensures in
    rw (p.1, p.2, ← c.loop-count.invariant) (commas_fail rename_at _ _ _ _ ne failed)

pub returns-then-not-accept : goal.returns-then-not-accept
returns-then-not-accept c =
    let ne : c.len-count.result - c.loop-count._count ≢ 0 = omega arith in
    let read = rw c.as_slice.ensures at c.in_ok-pair.ensures in
    let last : accept_at (codes ",") c.rename.new.cursor ≡ (false, c.accept.new.self) = rw (← c.if-not-accept.true) (sym c.accept.ensures) in
    rw (c.in_ok-push.ensures.ok, ← c.loop-count.invariant) (commas_last rename_at _ _ _ _ _ _ ne read last)

pub loop-count-preserved : goal.loop-count-preserved
loop-count-preserved c =
    let ne : c.len-count.result - c.loop-count._count ≢ 0 = omega arith in
    let k : c.len-count.result - (c.loop-count._count + 1) ≡ c.len-count.result - c.loop-count._count - 1 = omega arith in
    let read = rw c.as_slice.ensures at c.in_ok-pair.ensures in
    let next : accept_at (codes ",") c.rename.new.cursor ≡ (true, c.accept.new.self) = rw (← c.if-not-accept.false) (sym c.accept.ensures) in
    rw (k, c.in_ok-push.ensures.ok) (sym (commas_next rename_at _ _ _ _ _ _ ne read next) ∙ c.loop-count.invariant)

pub returns : goal.returns
returns c =
    rw (← c.loop-count.invariant) (commas_none rename_at _ _ _ (omega arith))
