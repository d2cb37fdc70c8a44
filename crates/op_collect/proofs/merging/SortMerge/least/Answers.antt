use Rattle.std.proofs.Common.{◌≡◌, Bool, Some, cond, sym, ap, ◌∙◌}
use Rattle.op_collect.proofs.Lanes.{least_next, least_within}
use Rattle.op_collect.proofs.merging.SortMerge.least.Goals.{then-is_less, else-is_less}
use Rattle.op_collect.proofs.merging.SortMerge.least.Goals as goal

pub loop-port-preserved : goal.loop-port-preserved
loop-port-preserved c =
    let self = c.args.self.now in
    let k = c.loop-port.port in
    let old = c.loop-port.least in
    let now_is : c.if-is_less.least ≡ cond c.is_less.result (Some k) old =
    elim c.if-is_less.branch [
      | then-is_less w ↦ w.least-is ∙ sym (ap (λ (b : Bool). cond b (Some k) old) w.if-is_less.true)
      | else-is_less w ↦ w.least-is ∙ sym (ap (λ (b : Bool). cond b (Some k) old) w.if-is_less.false)
    ] in
    record {
      least = least_next self.keys self.lanes.items k old c.if-is_less.least c.is_less.result c.loop-port.invariant.least c.is_less.ensures now_is;
      within = least_within k old c.if-is_less.least c.is_less.result c.loop-port.invariant.within now_is;
    }
