use Rattle.std.proofs.Common.{◌<◌, sym, subst, length, take, drop, None, ◌-◌}
use Rattle.std.proofs.lemmas.List.{take_rest}
use Rattle.ds_pack.specs.Packed.{FirstValue}
use Rattle.ds_pack.proofs.Rows.{row_ends}
use Rattle.ds_pack.proofs.unpack.unpack_row.Goals as goal

pub returns-in_default : goal.returns-in_default
returns-in_default c row rest fits e =
    let fields = c.as_slice-items.ensures.fields in
    let size = c.loop.invariant.2 in
    let below = c.loop-test.true in
    let few : length c.loop.values.items < length c.args.schema.now = rw (sym fields, size) below in
    let first = subst (λ v. FirstValue (take (length c.args.bytes.now - c.loop.taken) (drop c.loop.taken c.args.bytes.now)) v) c.in_default.is c.in_ok-value.ensures in
    let none = subst (λ bs. FirstValue bs None) (take_rest c.args.bytes.now c.loop.taken) first in
    row_ends c.args.schema.now c.args.bytes.now c.loop.values.items c.loop.taken c.as_slice-items.ensures.schema c.loop.invariant.1 few none row rest fits e
