use Rattle.std.proofs.Common.{rules, ◌≡◌, ◌<◌, ◌+◌, ◌∙◌, [], ap, true, false, cond, ℕ, Bool, length, get_or, arith}
use Rattle.std.specs.Prelude.{nat_lt}
use Rattle.list_run.specs.Held.{leaves, out_on, place_on}
use Rattle.list_run.proofs.Puts.{put_more, below_more_yes}
use Rattle.list_run.proofs.run.send_outputs.Goals as goal

pub loop-link-preserved : goal.loop-link-preserved
loop-link-preserved c =
    let chart = c.args.shaped.now in
    let kept = c.loop-link.invariant in
    let i = c.loop-link.link in
    let outs = c.args.outs.items in
    let sends : ℕ → Bool = leaves chart c.args.op in
    let leaving : sends i ≡ true = search rules in
    let there : i < length chart.flow.links = search rules in
    let count : c.len-count.result ≡ length outs = search rules in
    let place = c.place_on.ensures ∙ ap (λ n. place_on chart n i) count in
    let given = c.in_ok-sent.ensures.list ∙ ap (λ p. get_or c.loop-link.outs.items p []) place ∙ kept.rest i (omega arith) there leaving in
    record {
      size = c.in_ok-sent.ensures.count ∙ kept.size;
      puts = put_more chart c.args.nodes i (λ k. cond (nat_lt k i) (sends k) false) (λ k. cond (nat_lt k (i + 1)) (sends k) false) (out_on chart outs) c.in_ok-sent.sent _ _ _ given (below_more_yes i sends leaving) kept.puts c.in_ok-put.ensures;
      rest = λ k m b t.
          c.in_ok-sent.ensures.rest (place_on chart (length outs) k) (λ last e. c.is_last-last.ensures last k (omega (arith, m)) b t (ap (λ n. place_on chart n k) count ∙ e ∙ c.place_on.ensures))
          ∙ kept.rest k (omega (arith, m)) b t;
    }
