use Rattle.std.proofs.Common.{◌≡◌, take}
use Rattle.ds_value.proofs.copied.copied_items.Given as goal

abbrev pub invariant-loop-item : goal.invariant-loop-item
invariant-loop-item g l = l.copies ≡ take l.item-index l.item-items
