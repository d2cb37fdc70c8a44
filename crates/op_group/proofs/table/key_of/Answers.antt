use Rattle.std.proofs.Common.{◌<◌, false, List, length, arith, subst, sym, ◌∙◌}
use Rattle.std.specs.List.{All}
use Rattle.ds_schema.specs.declared.key.Key.{Key}
use Rattle.ds_schema.specs.Rows.{KeyInWidth}
use Rattle.op_group.proofs.GiveLaws.{key_read, bytes_step, held_step}
use Rattle.op_group.proofs.table.key_of.Goals as goal

pub loop-key-preserved : goal.loop-key-preserved
loop-key-preserved c =
    let keys = c.as_slice-key-items.result.now in
    let i = c.loop-key.key-index in
    let d : Key = record { col = 0; desc = false } in
    let row = c.args.row.now in
    let value = c.index-as_slice-key.result in
    let lt : i < length keys = omega arith in
    let P : List Key → Type 0 = λ ks. All (KeyInWidth row) ks in
    let read = key_read keys i d row c.as_slice.result.now value (subst P (sym c.as_slice-key-items.ensures.keys) c.requires.columns) lt c.as_slice.ensures c.index-as_slice-key.is in
    record {
      bytes = c.in_ok-canonical.ensures.ok ∙ bytes_step keys i d row c.loop-key.bytes value lt read c.loop-key.invariant.bytes;
      held = held_step keys i d row value lt read c.check_held.ensures c.loop-key.invariant.held;
    }
