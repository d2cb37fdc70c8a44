use Rattle.std.proofs.Common.{◌≡◌, ◌≢◌, ◌-◌, ◌+◌, arith}
use Rattle.osh_print.proofs.Outputs.{outputs_more}
use Rattle.osh_print.proofs.links.append_outputs.Goals as goal

pub loop-out-preserved : goal.loop-out-preserved
loop-out-preserved c =
    let ne : c.output_count-count.result - c.loop-out.out ≢ 0 = omega arith in
    let k : c.output_count-count.result - (c.loop-out.out + 1) ≡ c.output_count-count.result - c.loop-out.out - 1 = omega arith in
    rw k (outputs_more c.args.links.now c.args.from (c.output_count-count.result - c.loop-out.out) c.loop-out.out _ _ _ ne c.loop-out.invariant (rw c.link_at.ensures at c.in_ok-append_output.ensures))
