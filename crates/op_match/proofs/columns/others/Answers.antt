use Rattle.std.proofs.Common.{ℕ, Bool, true, false, not, sym, ap, ◌∙◌, append-nil}
use Rattle.ds_schema.specs.Rows.{cols}
use Rattle.op_base.specs.Columns.{is_in}
use Rattle.op_match.proofs.Merging.{found_more}
use Rattle.op_match.proofs.columns.others.Goals as goal
use Rattle.op_match.proofs.columns.others.Goals.{then-not-is_key+in_ok-push, else-not-is_key}

pub loop-col-preserved : goal.loop-col-preserved
loop-col-preserved c =
    let p : ℕ → Bool = λ d. not (is_in d (cols c.args.keys.now)) in
    elim c.if-not-is_key.branch [
      | then-not-is_key+in_ok-push w ↦ found_more p c.loop-col.col true c.loop-col.found.items _ c.loop-col.invariant (ap not (sym c.is_key.ensures ∙ w.if-not-is_key.true)) (ap (λ v. v.items) w.found-is ∙ w.in_ok-push.ensures.items)
      | else-not-is_key w ↦ found_more p c.loop-col.col false c.loop-col.found.items _ c.loop-col.invariant (ap not (sym c.is_key.ensures ∙ w.if-not-is_key.false)) (ap (λ v. v.items) w.found-is ∙ sym (append-nil c.loop-col.found.items))
    ]
