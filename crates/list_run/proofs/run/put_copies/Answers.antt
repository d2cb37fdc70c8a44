use Rattle.std.proofs.Common.{rules, ◌≡◌, ◌+◌, ◌∙◌, ap, true, false, cond, ℕ, Bool}
use Rattle.std.specs.Prelude.{nat_lt}
use Rattle.streams.proofs.StreamLaws.{eq_false}
use Rattle.list_run.specs.Held.{leaves, leaves_but}
use Rattle.list_run.proofs.Puts.{put_more, below_more_yes}
use Rattle.list_run.proofs.run.put_copies.Goals as goal

pub loop-link-preserved : goal.loop-link-preserved
loop-link-preserved c =
    let chart = c.args.shaped.now in
    let i = c.loop-link.link in
    let sends : ℕ → Bool = leaves_but chart c.args.op c.args.last in
    let leaving : leaves chart c.args.op i ≡ true = search rules in
    let taken : sends i ≡ true = ap (λ b. cond b false (leaves chart c.args.op i)) (eq_false i c.args.last c.if-link-last.false) ∙ leaving in
    put_more chart c.args.nodes i (λ k. cond (nat_lt k i) (sends k) false) (λ k. cond (nat_lt k (i + 1)) (sends k) false) (λ k. c.args.sent.now) c.in_ok-copy.copy _ _ _ c.in_ok-copy.ensures (below_more_yes i sends taken) c.loop-link.invariant c.in_ok-put.ensures
