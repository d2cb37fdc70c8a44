use Rattle.std.proofs.Common.{rules, ◌≡◌, ◌≢◌, ◌+◌, ◌∙◌, ◌∷◌, [], ap, sym, true, false, cond, ℕ, Bool, length, get_or, arith}
use Rattle.std.specs.Prelude.{nat_lt}
use Rattle.std.proofs.lemmas.List.{get_or-set_other, length-set}
use Rattle.list_run.specs.Held.{leaves}
use Rattle.list_run.proofs.Puts.{put_more, below_more_yes}
use Rattle.list_run.proofs.run.send_sources.Goals as goal

pub loop-link-preserved : goal.loop-link-preserved
loop-link-preserved c =
    let chart = c.args.shaped.now in
    let kept = c.loop-link.invariant in
    let i = c.loop-link.link in
    let olds = c.args.sources.now.items in
    let mids = c.loop-link.sources.items in
    let sends : ℕ → Bool = leaves chart c.args.op in
    let leaving : sends i ≡ true = search rules in
    let given = c.in_ok-given.ensures ∙ ap (λ r. r ∷ []) (c.take_at.ensures.list ∙ kept.rest i (omega arith)) in
    let other : (k : ℕ) → k ≢ i → get_or c.take_at.new.lists.items k [] ≡ get_or mids k [] = λ k n. ap (λ ls. get_or ls k []) c.take_at.ensures.rest ∙ get_or-set_other mids i k [] [] n in
    record {
      puts = put_more chart c.args.nodes i (λ k. cond (nat_lt k i) (sends k) false) (λ k. cond (nat_lt k (i + 1)) (sends k) false) (λ k. get_or olds k [] ∷ []) c.in_ok-given.given _ _ _ given (below_more_yes i sends leaving) kept.puts c.in_ok-put.ensures;
      rest = λ k m. other k (λ e. omega (arith, m, e)) ∙ kept.rest k (omega (arith, m));
      kept = λ k t. other k (λ e. let f = sym t ∙ ap sends e ∙ leaving in cc) ∙ kept.kept k t;
      count = ap length c.take_at.ensures.rest ∙ length-set mids i [] ∙ kept.count;
    }
