use Rattle.std.proofs.Common.{◌∙◌, sym, arith, ◌≤◌, ◌-◌, length}
use Rattle.std.proofs.lemmas.Bool.{ne_eqb}
use Rattle.ds_text.proofs.Spaces.{right_less, right_stops}
use Rattle.ds_text.proofs.columns.right_end.Goals as goal

pub returns-then-bytes-end-ne32-clause-bytes : goal.returns-then-bytes-end-ne32-clause-bytes
returns-then-bytes-end-ne32-clause-bytes c =
    sym (right_stops c.loop-end.end c.args.bytes.now c.loop-end-test.true c.loop-end.invariant.0 (ne_eqb _ 32 c.if-bytes-end-ne32.true)) ∙ c.loop-end.invariant.1

pub loop-end-preserved : goal.loop-end-preserved
loop-end-preserved c =
    let within : c.loop-end.end - 1 ≤ length c.args.bytes.now = omega (arith, c.loop-end.invariant.0) in
    (within, right_less c.loop-end.end c.args.bytes.now c.loop-end-test.true c.loop-end.invariant.0 c.if-bytes-end-ne32.false ∙ c.loop-end.invariant.1)
