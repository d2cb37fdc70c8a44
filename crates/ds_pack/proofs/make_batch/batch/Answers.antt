use Rattle.std.proofs.Common.{◌≤◌, ◌∙◌, length, ap, arith}
use Rattle.ds_pack.proofs.Batched.{batch_made, width_read}
use Rattle.ds_pack.proofs.make_batch.batch.Goals as goal

pub invariant_of-result : goal.invariant_of-result
invariant_of-result c =
    let rows = c.args.rows.now in
    let done : length rows ≤ c.loop-row.row-index = omega arith in
    (batch_made rows (length c.as_slice-width.result.now) c.loop-row.row-index c.loop-row.bytes c.requires done c.loop-row.invariant.bytes c.loop-row.invariant.held
    (ap length c.as_slice-width.ensures ∙ width_read rows c.index-rows-0.result c.requires.some c.index-rows-0.is)).0

pub returns : goal.returns
returns c =
    let rows = c.args.rows.now in
    let done : length rows ≤ c.loop-row.row-index = omega arith in
    (batch_made rows (length c.as_slice-width.result.now) c.loop-row.row-index c.loop-row.bytes c.requires done c.loop-row.invariant.bytes c.loop-row.invariant.held
    (ap length c.as_slice-width.ensures ∙ width_read rows c.index-rows-0.result c.requires.some c.index-rows-0.is)).1
