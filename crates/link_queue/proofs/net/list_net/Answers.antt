use Rattle.std.proofs.Common.{◌≡◌, ◌∙◌, sym, ap, subst, map, List}
use Rattle.std.specs.List.{AllByRecursion}
use Rattle.link_queue.specs.declared.net.QueueShape.{QueueShape}
use Rattle.link_queue.specs.Queues.{Queue}
use Rattle.link_queue.specs.Seats.{AreSeats}
use Rattle.link_queue.specs.Listed.{shape_of, parcels_of}
use Rattle.link_queue.proofs.Nets.{made_capacity, made_shapes, made_parcels}
use Rattle.link_queue.proofs.net.list_net.Goals as goal

pub invariant_of-result : goal.invariant_of-result
invariant_of-result c =
    let made = c.in_ok-queues.ensures in
    record {
      capacity = subst (AllByRecursion (λ (q : Queue). q.capacity ≡ c.args.cap)) (sym made) (made_capacity c.args.cap c.args.shapes.items);
      ways = subst (λ (s : List QueueShape). AreSeats s c.args.seats.items) (sym (ap (map shape_of) made ∙ made_shapes c.args.cap c.args.shapes.items)) c.requires.ways;
    }

pub returns : goal.returns
returns c =
    let made = c.in_ok-queues.ensures in
    let shapes = ap (map shape_of) made ∙ made_shapes c.args.cap c.args.shapes.items in
    let parcels = ap (map parcels_of) made ∙ made_parcels c.args.cap c.args.shapes.items in
    λ i. record { capacity = c.args.cap; seats = c.args.seats.items; shapes = shapes i; parcels = parcels i }
