use Rattle.std.proofs.Common.{◌<◌, ◌≡◌, ◌∙◌, sym, ap, subst, length, set, get_or, refl}
use Rattle.std.specs.Prelude.{MatchResult}
use Rattle.link_queue.specs.declared.net.QueueShape.{QueueShape}
use Rattle.link_queue.specs.declared.net.Seat.{Seat}
use Rattle.link_queue.specs.Told.{LaneTold, FitsMsg}
use Rattle.link_queue.specs.Link.{HasPut, HasRefusedPut, AtPlace}
use Rattle.link_queue.specs.Listed.{NetTold, net_told, told_of, shape_of, no_seat, no_shape}
use Rattle.link_queue.proofs.Places.{any_default, mapped_length}
use Rattle.link_queue.proofs.Listing.{lane_seat, lane_there, lane_below, lane_degree, lane_msg}
use Rattle.link_queue.proofs.Nets.{net_of, way_is, sizes, did_put, frame_put, capacity_stays, ways_stay, shapes_stay, shape_is}
use Rattle.link_queue.proofs.net.ListNet.put.Goals as goal

pub index_mut-requires : goal.index_mut-requires
index_mut-requires c =
    let t : NetTold = net_told c.self.inside in
    let items = c.self.inside.queues.items in
    let same = c.self.invariant.capacity in
    let ways = c.self.invariant.ways in
    let size = sizes c.self.inside.cap c.self.inside.seats.items items same ways in
    let lt = subst (λ (u : NetTold). c.args.lane < length (told_of c.args.player u).lanes) (sym c.self.view_is) c.requires.lane in
    let seated = lane_seat c.args.player t ways size c.args.lane lt in
    let n = get_or c.as_slice.result.now c.args.lane 0 in
    let is = way_is c.self.inside.seats.items c.args.player c.index-seat.result.now seated c.index-seat.ensures (λ (s : Seat). s.lanes) c.as_slice.result.now c.as_slice.ensures c.args.lane (lane_there c.args.player t ways size c.args.lane lt) in
    let below = lane_below c.args.player t ways size c.args.lane lt n is in
    let there : n < length items = subst (λ m. n < m) (mapped_length shape_of items) below in
    subst (λ m. n < m) (sym c.self.inside.queues.ok.0) there

pub put-requires-clause-from : goal.put-requires-clause-from
put-requires-clause-from c =
    let t : NetTold = net_told c.self.inside in
    let items = c.self.inside.queues.items in
    let same = c.self.invariant.capacity in
    let ways = c.self.invariant.ways in
    let size = sizes c.self.inside.cap c.self.inside.seats.items items same ways in
    let lt = subst (λ (u : NetTold). c.args.lane < length (told_of c.args.player u).lanes) (sym c.self.view_is) c.requires.lane in
    let seated = lane_seat c.args.player t ways size c.args.lane lt in
    let n = get_or c.as_slice.result.now c.args.lane 0 in
    let is = way_is c.self.inside.seats.items c.args.player c.index-seat.result.now seated c.index-seat.ensures (λ (s : Seat). s.lanes) c.as_slice.result.now c.as_slice.ensures c.args.lane (lane_there c.args.player t ways size c.args.lane lt) in
    let below = lane_below c.args.player t ways size c.args.lane lt n is in
    let there : n < length items = subst (λ m. n < m) (mapped_length shape_of items) below in
    let of_seat = ap (λ (s : Seat). s.partition) (c.index-seat.ensures ∙ any_default c.self.inside.seats.items c.args.player c.index-seat.result.now no_seat seated) in
    let shape = shape_is c.self.inside.cap c.self.inside.seats.items items same ways n there c.index_mut.result.now c.index_mut.result.now c.index_mut.ensures.value refl no_shape in
    subst (λ p. p < c.index_mut.result.now.degree) (sym of_seat) (subst (λ d. (get_or c.self.inside.seats.items c.args.player no_seat).partition < d) (ap (λ (s : QueueShape). s.degree) shape) (lane_degree c.args.player t ways size c.args.lane lt n is no_shape))

pub put-requires-clause-fits : goal.put-requires-clause-fits
put-requires-clause-fits c =
    let t : NetTold = net_told c.self.inside in
    let items = c.self.inside.queues.items in
    let same = c.self.invariant.capacity in
    let ways = c.self.invariant.ways in
    let size = sizes c.self.inside.cap c.self.inside.seats.items items same ways in
    let lt = subst (λ (u : NetTold). c.args.lane < length (told_of c.args.player u).lanes) (sym c.self.view_is) c.requires.lane in
    let seated = lane_seat c.args.player t ways size c.args.lane lt in
    let n = get_or c.as_slice.result.now c.args.lane 0 in
    let is = way_is c.self.inside.seats.items c.args.player c.index-seat.result.now seated c.index-seat.ensures (λ (s : Seat). s.lanes) c.as_slice.result.now c.as_slice.ensures c.args.lane (lane_there c.args.player t ways size c.args.lane lt) in
    let below = lane_below c.args.player t ways size c.args.lane lt n is in
    let there : n < length items = subst (λ m. n < m) (mapped_length shape_of items) below in
    let shape = shape_is c.self.inside.cap c.self.inside.seats.items items same ways n there c.index_mut.result.now c.index_mut.result.now c.index_mut.ensures.value refl no_shape in
    let fits = subst (λ (u : NetTold). AtPlace c.args.lane (λ (l : LaneTold). FitsMsg l.schema c.args.msg) (told_of c.args.player u).lanes) (sym c.self.view_is) c.requires.fits in
    subst (λ (s : QueueShape). FitsMsg s.schema c.args.msg) shape (lane_msg c.args.player t ways size c.args.lane lt n is c.args.msg fits)

pub invariant_of-self : goal.invariant_of-self
invariant_of-self c =
    let t : NetTold = net_told c.self.inside in
    let items = c.self.inside.queues.items in
    let same = c.self.invariant.capacity in
    let ways = c.self.invariant.ways in
    let size = sizes c.self.inside.cap c.self.inside.seats.items items same ways in
    let lt = subst (λ (u : NetTold). c.args.lane < length (told_of c.args.player u).lanes) (sym c.self.view_is) c.requires.lane in
    let seated = lane_seat c.args.player t ways size c.args.lane lt in
    let n = get_or c.as_slice.result.now c.args.lane 0 in
    let is = way_is c.self.inside.seats.items c.args.player c.index-seat.result.now seated c.index-seat.ensures (λ (s : Seat). s.lanes) c.as_slice.result.now c.as_slice.ensures c.args.lane (lane_there c.args.player t ways size c.args.lane lt) in
    let below = lane_below c.args.player t ways size c.args.lane lt n is in
    let there : n < length items = subst (λ m. n < m) (mapped_length shape_of items) below in
    let frame = frame_put c.index_mut.result.now c.put.new.self _ _ c.put.result c.put.ensures in
    record {
      capacity = capacity_stays c.self.inside.cap c.self.inside.seats.items items same ways n there c.index_mut.result.now c.put.new.self c.index_mut.ensures.value frame;
      ways = ways_stay c.self.inside.cap c.self.inside.seats.items items same ways n there c.index_mut.result.now c.put.new.self c.index_mut.ensures.value frame;
    }

pub returns-clause-same : goal.returns-clause-same
returns-clause-same c =
    let t : NetTold = net_told c.self.inside in
    let items = c.self.inside.queues.items in
    let same = c.self.invariant.capacity in
    let ways = c.self.invariant.ways in
    let size = sizes c.self.inside.cap c.self.inside.seats.items items same ways in
    let lt = subst (λ (u : NetTold). c.args.lane < length (told_of c.args.player u).lanes) (sym c.self.view_is) c.requires.lane in
    let seated = lane_seat c.args.player t ways size c.args.lane lt in
    let n = get_or c.as_slice.result.now c.args.lane 0 in
    let is = way_is c.self.inside.seats.items c.args.player c.index-seat.result.now seated c.index-seat.ensures (λ (s : Seat). s.lanes) c.as_slice.result.now c.as_slice.ensures c.args.lane (lane_there c.args.player t ways size c.args.lane lt) in
    let below = lane_below c.args.player t ways size c.args.lane lt n is in
    let there : n < length items = subst (λ m. n < m) (mapped_length shape_of items) below in
    let frame = frame_put c.index_mut.result.now c.put.new.self _ _ c.put.result c.put.ensures in
    (ap (λ (u : NetTold). u.capacity) c.self.view_is, ap (λ (u : NetTold). u.seats) c.self.view_is, shapes_stay c.self.inside.cap c.self.inside.seats.items items same ways n there c.index_mut.result.now c.put.new.self c.index_mut.ensures.value frame ∙ ap (λ (u : NetTold). u.shapes) c.self.view_is)

pub returns-clause-did : goal.returns-clause-did
returns-clause-did c =
    let t : NetTold = net_told c.self.inside in
    let items = c.self.inside.queues.items in
    let same = c.self.invariant.capacity in
    let ways = c.self.invariant.ways in
    let size = sizes c.self.inside.cap c.self.inside.seats.items items same ways in
    let lt = subst (λ (u : NetTold). c.args.lane < length (told_of c.args.player u).lanes) (sym c.self.view_is) c.requires.lane in
    let seated = lane_seat c.args.player t ways size c.args.lane lt in
    let n = get_or c.as_slice.result.now c.args.lane 0 in
    let is = way_is c.self.inside.seats.items c.args.player c.index-seat.result.now seated c.index-seat.ensures (λ (s : Seat). s.lanes) c.as_slice.result.now c.as_slice.ensures c.args.lane (lane_there c.args.player t ways size c.args.lane lt) in
    let below = lane_below c.args.player t ways size c.args.lane lt n is in
    let there : n < length items = subst (λ m. n < m) (mapped_length shape_of items) below in
    let of_seat = ap (λ (s : Seat). s.partition) (c.index-seat.ensures ∙ any_default c.self.inside.seats.items c.args.player c.index-seat.result.now no_seat seated) in
    let after : NetTold = net_of c.self.inside.cap c.self.inside.seats.items (set items n c.put.new.self) in
    subst (λ (u : NetTold). MatchResult c.put.result (λ _. HasPut c.args.lane c.args.msg (told_of c.args.player u) (told_of c.args.player after)) (λ full. (full.back ≡ c.args.msg) × HasRefusedPut c.args.lane (told_of c.args.player u) (told_of c.args.player after))) c.self.view_is
    (did_put c.self.inside.cap c.self.inside.seats.items items same ways c.args.player n c.index_mut.result.now c.put.new.self c.index_mut.ensures.value c.args.lane lt is c.args.msg c.index-seat.result.now.partition of_seat c.put.result c.put.ensures)
