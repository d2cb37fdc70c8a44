use Rattle.std.proofs.Common.{[], ◌∷◌, ◌++◌, sym, ap, ◌∙◌, append_assoc}
use Rattle.ds_schema.specs.Rows.{cols, sub}
use Rattle.op_base.proofs.Adding.{Adds-none}
use Rattle.op_group.proofs.Told.{told_short}
use Rattle.op_group.proofs.TableLaws.{next_kept, gives_more, all_given}
use Rattle.op_group.proofs.table.give_each.Goals as goal

pub loop-group-init : goal.loop-group-init
loop-group-init c = record {
  done = [];
  parts = c.into_iter-group-iterator.ensures.into_iter_gives ∙ c.into_values-group-items.ensures.rest;
  adds = λ keys aggs rows groups. Adds-none _;
}

pub give-requires : goal.give-requires
give-requires c =
    let parts = ap (λ rest. c.loop-group.invariant.done ++ rest) (sym c.in-Some.ensures.steps) ∙ c.loop-group.invariant.parts in
    let kept = next_kept c.requires.0 c.requires.1 c.requires.2 c.args.table.entries c.requires.3 c.loop-group.invariant.done c.next.new.self c.in-Some.group parts in
    told_short c.in-Some.group.values kept.0

pub loop-group-preserved : goal.loop-group-preserved
loop-group-preserved c =
    let done = c.loop-group.invariant.done in
    let group = c.in-Some.group in
    let parts = ap (λ rest. done ++ rest) (sym c.in-Some.ensures.steps) ∙ c.loop-group.invariant.parts in
    record {
      done = done ++ group ∷ [];
      parts = append_assoc done (group ∷ []) c.next.new.self ∙ parts;
      adds = λ keys aggs rows groups.
          let kept = next_kept keys aggs rows c.args.table.entries groups done c.next.new.self group parts in
          gives_more keys aggs rows c.args.emit.now c.loop-group.emit c.give.new.emit done group (c.loop-group.invariant.adds keys aggs rows groups) (c.in_ok-give.ensures aggs (sub (cols keys) group.values rows) kept.1);
    }

pub returns : goal.returns
returns c = λ keys aggs rows groups.
    all_given keys aggs rows c.args.emit.now c.loop-group.emit c.args.table.entries groups c.loop-group.invariant.done c.loop-group.group-iterator c.loop-group.invariant.parts c.in-None.ensures.steps.0 (c.loop-group.invariant.adds keys aggs rows groups)
