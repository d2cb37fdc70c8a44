use Rattle.std.proofs.Common.{rules, ◌≡◌, ◌<◌, ◌∷◌, ◌++◌, ◌∙◌, [], List, map, length, get_or, sym, ap, ap₂, subst, arith}
use Rattle.std.specs.List.{range_with_len}
use Rattle.std.specs.Vec.Iter.{into_iter_items}
use Rattle.std.proofs.lemmas.List.{ext_get_or, map-append}
use Rattle.std.proofs.lemmas.List.FromFn.{length-map-range_with_len, get_or-map-range_with_len}
use Rattle.op_base.specs.Columns.{Row}
use Rattle.flow_graph.specs.Runs.{slice}
use Rattle.list_run.specs.Made.{degree_of}
use Rattle.list_run.proofs.Ended.{had_all}
use Rattle.list_run.proofs.partitions.by_partition.Goals as goal

pub loop-lists-preserved : goal.loop-lists-preserved
loop-lists-preserved c =
    let kept = c.loop-lists.invariant in
    let added = c.in_ok-add_partition.ensures in
    record {
      size = added.count ∙ kept.size;
      each = λ p m.
          let there : p < length c.loop-lists.slices.items = subst (λ n. p < n) added.count m in
          added.each p there
          ∙ ap₂ (λ (ls : List (List Row)) (rows : List Row). ls ++ rows ∷ []) (kept.each p there) (ap (λ (ls : List (List Row)). get_or ls p []) c.into_vec.ensures)
          ∙ sym (map-append (λ (parts : List (List Row)). get_or parts p []) c.loop-lists.yielded (c.in-Some.lists ∷ []));
    }

pub returns : goal.returns
returns c =
    let inputs = c.args.inputs.items in
    let slices = c.loop-lists.slices.items in
    let n = degree_of inputs in
    let kept = c.loop-lists.invariant in
    let gives : into_iter_items c.into_iter-lists-iterator.result ≡ inputs = search rules in
    let all = had_all c.into_iter-lists-iterator.result inputs c.loop-lists.yielded c.loop-lists.lists-iterator gives c.loop-lists.yielded_by c.next.result c.next.new.self c.in-None.is c.next.ensures.steps in
    ext_get_or [] slices (map (λ p. slice p inputs) (range_with_len 0 n)) (kept.size ∙ sym (length-map-range_with_len (λ p. slice p inputs) 0 n))
    (λ p m. kept.each p m ∙ ap (slice p) all ∙ sym (get_or-map-range_with_len (λ p. slice p inputs) 0 n p p [] (subst (λ k. p < k) kept.size m) (omega arith)))
