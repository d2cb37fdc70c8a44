use Rattle.std.proofs.Common.{◌-◌, length, take, drop, None, subst, arith}
use Rattle.std.proofs.lemmas.List.{take_rest}
use Rattle.ds_pack.specs.Packed.{FirstRow}
use Rattle.ds_pack.proofs.Batched.{read_on, row_takes}
use Rattle.ds_pack.proofs.batches.unpack_rows.Goals as goal

pub unreachable-requires : goal.unreachable-requires
unreachable-requires c =
    let bytes = c.args.bytes.now in
    let t = c.loop-taken.taken in
    let first = subst (λ v. FirstRow c.args.schema.now (take (length bytes - t) (drop t bytes)) v) c.in_default.is c.in_ok-row.ensures in
    let none = subst (λ bs. FirstRow c.args.schema.now bs None) (take_rest bytes t) first in
    read_on c.args.schema.now bytes c.loop-taken.rows.items c.requires.0 t c.as_slice-fields.ensures.schema c.loop-taken.invariant c.requires.1 c.requires.2 c.loop-taken-test.true none

pub loop-taken-smaller : goal.loop-taken-smaller
loop-taken-smaller c =
    let bytes = c.args.bytes.now in
    let t = c.loop-taken.taken in
    let first = subst (λ v. FirstRow c.args.schema.now (take (length bytes - t) (drop t bytes)) v) c.in-Some.is c.in_ok-row.ensures in
    let takes = row_takes c.args.schema.now (take (length bytes - t) (drop t bytes)) c.in-Some.row c.in-Some.count c.as_slice-fields.ensures.schema first in
    let below = c.loop-taken-test.true in
    omega (arith, takes, below)
