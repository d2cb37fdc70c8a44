use Rattle.std.proofs.Common.{◌<◌, ◌≤◌, ap, sym, subst, ◌∙◌, length, get_or, arith}
use Rattle.flow_graph.specs.Charts.{no_link}
use Rattle.list_run.proofs.Links.{same_at, first_is, first_none}
use Rattle.run_finish.proofs.sinks.input_of.Goals as goal

pub returns-then-spec-op : goal.returns-then-spec-op
returns-then-spec-op c =
    let links = c.as_slice-spec-items.ensures ∙ ap (λ f. f.links) c.flow.ensures in
    let l = c.loop-link.link in
    let there : l < length c.args.shaped.now.flow.links = subst (λ ls. l < length ls) links c.loop-link-test.true in
    let at = c.spec-item.is ∙ ap (λ ls. get_or ls l c.spec-item.result) links ∙ same_at c.args.shaped.now.flow.links l c.spec-item.result no_link there in
    first_is c.args.shaped.now c.args.op l there (ap (λ s. s.to) (sym at) ∙ c.if-spec-op.true) c.loop-link.invariant

pub returns : goal.returns
returns c =
    let links = c.as_slice-spec-items.ensures ∙ ap (λ f. f.links) c.flow.ensures in
    let past : length c.args.shaped.now.flow.links ≤ c.loop-link.link = subst (λ ls. length ls ≤ c.loop-link.link) links c.loop-link-test.false in
    first_none c.args.shaped.now c.args.op (λ k m. c.loop-link.invariant k (omega (arith, m, past)))
