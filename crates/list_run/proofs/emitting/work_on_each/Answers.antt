use Rattle.std.proofs.Common.{rules, ◌≡◌, ◌∙◌, [], List, length, map, get_or, sym, ap, subst}
use Rattle.std.specs.List.{flat_map, range_with_len}
use Rattle.std.specs.Vec.Iter.{into_iter_items}
use Rattle.std.proofs.lemmas.List.{length-map}
use Rattle.streams.specs.Streams.{faults_out}
use Rattle.op_base.specs.Columns.{Row}
use Rattle.list_run.specs.Found.{found_of}
use Rattle.list_run.specs.Made.{degree_of, made_of}
use Rattle.list_run.specs.Worked.{SuitsLists, place_of}
use Rattle.list_run.proofs.Ended.{had_all, is_next}
use Rattle.list_run.proofs.Splitting.{all_found, are_within, each_found, each_made, found_more, partition_made, slice_at}
use Rattle.list_run.proofs.Tallying.{further, grows_as}
use Rattle.list_run.proofs.emitting.work_on_each.Goals as goal

pub work-requires-clause-ports : goal.work-requires-clause-ports
work-requires-clause-ports c =
    let inputs = c.args.inputs.items in
    let gives : into_iter_items c.into_iter-lists-iterator.result ≡ c.in_ok-slices.slices.items = search rules in
    let here = is_next c.into_iter-lists-iterator.result c.in_ok-slices.slices.items c.loop-lists.yielded c.loop-lists.lists-iterator gives c.loop-lists.yielded_by c.next.result c.next.new.self c.in-Some.lists c.in-Some.is c.next.ensures.steps in
    ap length (slice_at inputs c.in_ok-slices.slices.items (length c.loop-lists.yielded) c.in-Some.lists c.in_ok-slices.ensures here.0 here.1)
    ∙ length-map inputs (λ (parts : List (List Row)). get_or parts (length c.loop-lists.yielded) []) ∙ c.requires.can.1

pub work-requires-clause-rows : goal.work-requires-clause-rows
work-requires-clause-rows c =
    let inputs = c.args.inputs.items in
    let gives : into_iter_items c.into_iter-lists-iterator.result ≡ c.in_ok-slices.slices.items = search rules in
    let here = is_next c.into_iter-lists-iterator.result c.in_ok-slices.slices.items c.loop-lists.yielded c.loop-lists.lists-iterator gives c.loop-lists.yielded_by c.next.result c.next.new.self c.in-Some.lists c.in-Some.is c.next.ensures.steps in
    subst (λ (lists : List (List Row)). SuitsLists c.args.kind.now c.args.parts.now c.args.widths.now lists)
    (sym (slice_at inputs c.in_ok-slices.slices.items (length c.loop-lists.yielded) c.in-Some.lists c.in_ok-slices.ensures here.0 here.1)) (c.requires.can.2 (length c.loop-lists.yielded))

pub take_partition-requires : goal.take_partition-requires
take_partition-requires c = are_within c.args.kind.now c.args.parts.now c.args.widths.now c.in-Some.lists c.in_ok-emit.emit _ c.loop-lists.invariant.size c.in_ok-emit.ensures

pub loop-lists-preserved : goal.loop-lists-preserved
loop-lists-preserved c =
    let kept = c.loop-lists.invariant in
    let k = c.args.kind.now in
    let parts = c.args.parts.now in
    let widths = c.args.widths.now in
    let o = c.args.op in
    let worked = c.in_ok-emit.ensures in
    let takes = c.in_ok-take_partition.ensures in
    record {
      size = takes.count ∙ kept.size;
      made = λ q. partition_made o k parts widths c.loop-lists.yielded c.in-Some.lists c.in_ok-emit.emit c.loop-lists.outs.items c.take_partition.new.outs.items kept.size worked takes q (kept.made q);
      found = grows_as _ _ _ _ (found_more (found_of o k parts widths) c.loop-lists.yielded c.in-Some.lists)
          (further _ _ _ _ _ kept.found (grows_as _ _ _ _ (worked.faults_are o) (c.add.ensures (faults_out worked.given) worked.emitted.faults worked.emitted.least worked.unnumbered)));
    }

pub returns : goal.returns
returns c =
    let kept = c.loop-lists.invariant in
    let k = c.args.kind.now in
    let parts = c.args.parts.now in
    let widths = c.args.widths.now in
    let o = c.args.op in
    let inputs = c.args.inputs.items in
    let gives : into_iter_items c.into_iter-lists-iterator.result ≡ c.in_ok-slices.slices.items = search rules in
    let all = had_all c.into_iter-lists-iterator.result c.in_ok-slices.slices.items c.loop-lists.yielded c.loop-lists.lists-iterator gives c.loop-lists.yielded_by c.next.result c.next.new.self c.in-None.is c.next.ensures.steps ∙ c.in_ok-slices.ensures in
    let ns = range_with_len 0 (degree_of inputs) in
    record {
      made = (
        kept.size,
        λ q. ap (λ n. get_or c.loop-lists.outs.items (place_of n q) []) kept.size ∙ kept.made q ∙ ap (map (made_of o k parts widths q)) all ∙ each_made (made_of o k parts widths q) inputs ns,
      );
      found = grows_as _ _ _ _ (ap (flat_map (found_of o k parts widths)) all ∙ each_found (found_of o k parts widths) inputs ns ∙ all_found k c.requires.worked _) kept.found;
    }
