use Rattle.std.proofs.Common.{◌≡◌, take}
use Rattle.ds_expr.proofs.typed.+copying.Given as goal

abbrev pub invariant-copied_all-loop-node : goal.invariant-copied_all-loop-node
invariant-copied_all-loop-node l = l.copies ≡ take l.node-index l.nodes

abbrev pub invariant-copied_links-loop-used : goal.invariant-copied_links-loop-used
invariant-copied_links-loop-used l = l.copies ≡ take l.used-index l.links
