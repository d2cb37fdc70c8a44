use Rattle.std.proofs.Common.{◌≡◌, ◌++◌, map}
use Rattle.std.specs.Vec.Iter.{into_iter_items}
use Rattle.link_queue.specs.Making.{empty_queue}
use Rattle.link_queue.proofs.net.empty_queues.Given as goal

abbrev pub invariant-loop-shape : goal.invariant-loop-shape
invariant-loop-shape l = l.queues.items ++ map (empty_queue l.fn.cap) (into_iter_items l.shape-iterator) ≡ map (empty_queue l.fn.cap) l.fn.shapes.items
