use Rattle.std.proofs.Common.{◌<◌, ◌∙◌, sym, ap, subst, length, set, get_or}
use Rattle.std.specs.Prelude.{MatchOption}
use Rattle.link_queue.specs.declared.net.Seat.{Seat}
use Rattle.link_queue.specs.Link.{HasTaken, HasRefusedTake}
use Rattle.link_queue.specs.Listed.{NetTold, net_told, told_of, shape_of}
use Rattle.link_queue.proofs.Places.{mapped_length}
use Rattle.link_queue.proofs.Listing.{queue_seat, queue_there, queue_below}
use Rattle.link_queue.proofs.Nets.{net_of, way_is, sizes, did_take, frame_take, capacity_stays, ways_stay, shapes_stay}
use Rattle.link_queue.proofs.net.ListNet.take.Goals as goal

pub invariant_of-self : goal.invariant_of-self
invariant_of-self c =
    let t : NetTold = net_told c.self.inside in
    let items = c.self.inside.queues.items in
    let same = c.self.invariant.capacity in
    let ways = c.self.invariant.ways in
    let size = sizes c.self.inside.cap c.self.inside.seats.items items same ways in
    let lt = subst (λ (u : NetTold). c.args.queue < length (told_of c.args.player u).queues) (sym c.self.view_is) c.requires.queue in
    let seated = queue_seat c.args.player t ways size c.args.queue lt in
    let n = get_or c.as_slice.result.now c.args.queue 0 in
    let is = way_is c.self.inside.seats.items c.args.player c.index-seat.result.now seated c.index-seat.ensures (λ (s : Seat). s.queues) c.as_slice.result.now c.as_slice.ensures c.args.queue (queue_there c.args.player t ways size c.args.queue lt) in
    let below = queue_below c.args.player t ways size c.args.queue lt n is in
    let there : n < length items = subst (λ m. n < m) (mapped_length shape_of items) below in
    let frame = frame_take c.index_mut.result.now c.take.new.self c.take.result c.take.ensures in
    record {
      capacity = capacity_stays c.self.inside.cap c.self.inside.seats.items items same ways n there c.index_mut.result.now c.take.new.self c.index_mut.ensures.value frame;
      ways = ways_stay c.self.inside.cap c.self.inside.seats.items items same ways n there c.index_mut.result.now c.take.new.self c.index_mut.ensures.value frame;
    }

pub returns-clause-same : goal.returns-clause-same
returns-clause-same c =
    let t : NetTold = net_told c.self.inside in
    let items = c.self.inside.queues.items in
    let same = c.self.invariant.capacity in
    let ways = c.self.invariant.ways in
    let size = sizes c.self.inside.cap c.self.inside.seats.items items same ways in
    let lt = subst (λ (u : NetTold). c.args.queue < length (told_of c.args.player u).queues) (sym c.self.view_is) c.requires.queue in
    let seated = queue_seat c.args.player t ways size c.args.queue lt in
    let n = get_or c.as_slice.result.now c.args.queue 0 in
    let is = way_is c.self.inside.seats.items c.args.player c.index-seat.result.now seated c.index-seat.ensures (λ (s : Seat). s.queues) c.as_slice.result.now c.as_slice.ensures c.args.queue (queue_there c.args.player t ways size c.args.queue lt) in
    let below = queue_below c.args.player t ways size c.args.queue lt n is in
    let there : n < length items = subst (λ m. n < m) (mapped_length shape_of items) below in
    let frame = frame_take c.index_mut.result.now c.take.new.self c.take.result c.take.ensures in
    (ap (λ (u : NetTold). u.capacity) c.self.view_is, ap (λ (u : NetTold). u.seats) c.self.view_is, shapes_stay c.self.inside.cap c.self.inside.seats.items items same ways n there c.index_mut.result.now c.take.new.self c.index_mut.ensures.value frame ∙ ap (λ (u : NetTold). u.shapes) c.self.view_is)

pub returns-clause-did : goal.returns-clause-did
returns-clause-did c =
    let t : NetTold = net_told c.self.inside in
    let items = c.self.inside.queues.items in
    let same = c.self.invariant.capacity in
    let ways = c.self.invariant.ways in
    let size = sizes c.self.inside.cap c.self.inside.seats.items items same ways in
    let lt = subst (λ (u : NetTold). c.args.queue < length (told_of c.args.player u).queues) (sym c.self.view_is) c.requires.queue in
    let seated = queue_seat c.args.player t ways size c.args.queue lt in
    let n = get_or c.as_slice.result.now c.args.queue 0 in
    let is = way_is c.self.inside.seats.items c.args.player c.index-seat.result.now seated c.index-seat.ensures (λ (s : Seat). s.queues) c.as_slice.result.now c.as_slice.ensures c.args.queue (queue_there c.args.player t ways size c.args.queue lt) in
    let below = queue_below c.args.player t ways size c.args.queue lt n is in
    let there : n < length items = subst (λ m. n < m) (mapped_length shape_of items) below in
    let after : NetTold = net_of c.self.inside.cap c.self.inside.seats.items (set items n c.take.new.self) in
    subst (λ (u : NetTold). MatchOption c.take.result (HasRefusedTake c.args.queue (told_of c.args.player u) (told_of c.args.player after)) (λ x. HasTaken c.args.queue x (told_of c.args.player u) (told_of c.args.player after))) c.self.view_is
    (did_take c.self.inside.cap c.self.inside.seats.items items same ways c.args.player n c.index_mut.result.now c.take.new.self c.index_mut.ensures.value c.args.queue lt is c.take.result c.take.ensures)
