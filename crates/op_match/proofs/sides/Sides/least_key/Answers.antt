use Rattle.std.proofs.Common.{◌≡◌, ◌≤◌, ◌<◌, ◌∙◌, List, sym, subst, ap, length, get_or}
use Rattle.op_match.specs.declared.side.Side.{Side}
use Rattle.op_match.specs.Waiting.{fits_key, ways_in}
use Rattle.op_match.proofs.Taking.{least_end, least_more, least_start, side_long, side_ways}
use Rattle.op_match.proofs.sides.Sides.least_key.Goals as goal

pub loop-side-init : goal.loop-side-init
loop-side-init c = least_start (ways_in c.args.self.now.list.items) c.args.self.now.list.items

pub lesser_key-requires : goal.lesser_key-requires
lesser_key-requires c =
    let L : List Side = c.args.self.now.list.items in
    let lt : c.loop-side.side-index < length L = subst (λ (xs : List Side). c.loop-side.side-index < length xs) c.deref-side-items.ensures.value c.loop-side-test.true in
    let is : c.side-item.result ≡ get_or L c.loop-side.side-index c.side-item.result = c.side-item.is ∙ ap (λ (xs : List Side). get_or xs c.loop-side.side-index c.side-item.result) c.deref-side-items.ensures.value in
    subst (λ n. fits_key n c.loop-side.least) (side_long L c.loop-side.side-index c.side-item.result lt is c.requires) c.loop-side.invariant.fits

pub loop-side-preserved : goal.loop-side-preserved
loop-side-preserved c =
    let L : List Side = c.args.self.now.list.items in
    let lt : c.loop-side.side-index < length L = subst (λ (xs : List Side). c.loop-side.side-index < length xs) c.deref-side-items.ensures.value c.loop-side-test.true in
    let is : c.side-item.result ≡ get_or L c.loop-side.side-index c.side-item.result = c.side-item.is ∙ ap (λ (xs : List Side). get_or xs c.loop-side.side-index c.side-item.result) c.deref-side-items.ensures.value in
    least_more (ways_in L) L c.loop-side.side-index c.side-item.result c.loop-side.least _ lt is (side_ways L c.loop-side.side-index c.side-item.result lt is c.requires) c.loop-side.invariant c.in_ok-least.ensures

pub returns : goal.returns
returns c =
    let L : List Side = c.args.self.now.list.items in
    least_end (ways_in L) L c.loop-side.side-index c.loop-side.least (subst (λ (xs : List Side). length xs ≤ c.loop-side.side-index) c.deref-side-items.ensures.value c.loop-side-test.false) c.loop-side.invariant
