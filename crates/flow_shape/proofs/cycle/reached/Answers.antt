use Rattle.std.proofs.Common.{◌<◌, true, get_or, set, sym, ◌∙◌, length-set}
use Rattle.flow_graph.specs.declared.flow.LinkSpec.{LinkSpec}
use Rattle.flow_shape.proofs.Marks.{unmarked, unmarked_less, within_marks, marked, open_end, open_at, none_open}
use Rattle.flow_shape.proofs.cycle.reached.Goals as goal

pub index_mut-requires : goal.index_mut-requires
index_mut-requires c =
    let d : LinkSpec = c.index-links-k.result in
    let o = open_at c.args.start c.as_slice.result.now c.args.links.now c.in-Some.k d (sym c.in-Some.ensures.place) in
    let w = within_marks c.as_slice.result.now _ (open_end c.args.start c.as_slice.result.now (get_or c.args.links.now c.in-Some.k d) o) in
    rw c.as_slice.ensures.len at w

pub loop-k-smaller : goal.loop-k-smaller
loop-k-smaller c =
    let d : LinkSpec = c.index-links-k.result in
    let place = rw c.as_slice.ensures.value at c.in-Some.ensures.place in
    let o = open_at c.args.start c.loop-k.marks.items c.args.links.now c.in-Some.k d (sym place) in
    let less : unmarked (set c.loop-k.marks.items (get_or c.args.links.now c.in-Some.k d).to true) < unmarked c.loop-k.marks.items =
    unmarked_less c.loop-k.marks.items _ (open_end c.args.start c.loop-k.marks.items (get_or c.args.links.now c.in-Some.k d) o) in
    less

pub loop-k-preserved : goal.loop-k-preserved
loop-k-preserved c =
    let d : LinkSpec = c.index-links-k.result in
    let place = rw c.as_slice.ensures.value at c.in-Some.ensures.place in
    let o = open_at c.args.start c.loop-k.marks.items c.args.links.now c.in-Some.k d (sym place) in
    record {
      len = length-set c.loop-k.marks.items (get_or c.args.links.now c.in-Some.k d).to true ∙ c.loop-k.invariant.len;
      sound = marked c.args.links.now c.args.start c.in-Some.k c.loop-k.marks.items d c.in-Some.ensures.within o c.loop-k.invariant.sound;
    }

pub returns-clause-closed : goal.returns-clause-closed
returns-clause-closed c = none_open c.args.start c.loop-k.marks.items c.args.links.now (sym (rw c.as_slice.ensures.value at c.in_default.ensures.place))
