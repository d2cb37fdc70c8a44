use Rattle.std.proofs.Common.{ap, ap₂, ◌∙◌, sym, inl, inr}
use Rattle.op_row.specs.Expressed.{targets}
use Rattle.op_row.specs.Setting.{put_all}
use Rattle.op_row.proofs.Placing.{cells_are, ended, length_targets}
use Rattle.op_row.proofs.setting.set_row.Goals as goal

pub loop-set-init : goal.loop-set-init
loop-set-init c =
    let first = c.zip-set-items.ensures.first in
    ap₂ (λ sets values. put_all (targets sets) values c.into_vec-cells.result.items) (ap (λ i. i.a.rest.now) c.into_iter-set-iterator.ensures.into_iter_gives ∙ ap (λ a. a.rest.now) first ∙ c.iter.ensures.rest) (ap (λ i. i.b.rest.items) c.into_iter-set-iterator.ensures.into_iter_gives ∙ c.zip-set-items.ensures.second.0 ∙ c.into_vec.ensures)
    ∙ ap (put_all (targets c.args.sets.now) c.args.values) c.into_vec-cells.ensures

pub loop-set-preserved : goal.loop-set-preserved
loop-set-preserved c =
    ap (put_all (targets c.next.new.self.a.rest.now) c.next.new.self.b.rest.items) c.in_ok-put.ensures
    ∙ sym (ap₂ (λ sets values. put_all (targets sets) values c.loop-set.cells.items) c.in-Some.ensures.steps.0 c.in-Some.ensures.steps.1.0) ∙ c.loop-set.invariant

pub returns : goal.returns
returns c =
    c.from_vec.ensures
    ∙ sym (ended c.loop-set.set-iterator.a.rest.now c.loop-set.set-iterator.b.rest.items c.loop-set.cells.items (elim c.in-None.ensures.steps [ inl x ↦ inl x.1.0 | inr x ↦ inr (sym c.loop-set.set-iterator.b.rest.ok.0 ∙ x.1.0) ]))
    ∙ c.loop-set.invariant ∙ cells_are (targets c.args.sets.now) c.args.values c.args.row c.requires.columns (c.requires.same ∙ sym (length_targets c.args.sets.now))
