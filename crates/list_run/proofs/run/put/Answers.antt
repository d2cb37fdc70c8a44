use Rattle.std.proofs.Common.{refl, ap, sym, subst, ◌∙◌, length, set, All, arith}
use Rattle.flow_graph.specs.declared.route.Choice.{Choice}
use Rattle.flow_graph.specs.declared.flow.LinkSpec.{LinkSpec}
use Rattle.flow_graph.specs.Charts.{link_at, into_seq, is_seq, op_at}
use Rattle.flow_derive.specs.LinkStates.{choice_at}
use Rattle.list_run.specs.Routed.{SuitsRoute, delivered}
use Rattle.list_run.specs.Runnable.{degree_at}
use Rattle.list_run.proofs.Links.{choices_long, choice_is}
use Rattle.list_run.proofs.Puts.{put_one, joins_as, link_read}
use Rattle.list_run.proofs.run.put.Goals as goal

pub bounds-choices-link : goal.bounds-choices-link
bounds-choices-link c = let n = choices_long c.args.shaped.now c.args.choices.now c.requires.chosen in omega (arith, n, c.requires.link)

pub deliver-requires-clause-joins : goal.deliver-requires-clause-joins
deliver-requires-clause-joins c =
    let chart = c.args.shaped.now in
    let chosen = c.index-choices-link.is ∙ choice_is chart c.args.choices.now c.args.link c.index-choices-link.result c.requires.chosen c.requires.link in
    let at = link_read chart c.as_slice.result.now c.args.link c.index-as_slice-link.result (c.as_slice.ensures ∙ ap (λ f. f.links) c.flow.ensures) c.requires.link in
    joins_as c.is_sequential-sequential.result (into_seq chart c.args.link) c.index-choices-link.result (choice_at chart c.args.link) (length c.args.sent) c.degree-count.result (degree_at chart c.args.nodes (link_at chart c.args.link).to)
    (c.is_sequential-sequential.ensures ∙ ap (λ (s : LinkSpec). is_seq (op_at chart s.to).mark) at) chosen (c.degree-count.ensures ∙ ap (λ (s : LinkSpec). degree_at chart c.args.nodes s.to) at) c.requires.joins

pub deliver-requires-clause-rows : goal.deliver-requires-clause-rows
deliver-requires-clause-rows c =
    let chosen = c.index-choices-link.is ∙ choice_is c.args.shaped.now c.args.choices.now c.args.link c.index-choices-link.result c.requires.chosen c.requires.link in
    subst (λ (ch : Choice). All (All (SuitsRoute ch.method)) c.args.sent) (sym chosen) c.requires.rows

pub returns : goal.returns
returns c =
    let chart = c.args.shaped.now in
    let chosen = c.index-choices-link.is ∙ choice_is chart c.args.choices.now c.args.link c.index-choices-link.result c.requires.chosen c.requires.link in
    let at = link_read chart c.as_slice.result.now c.args.link c.index-as_slice-link.result (c.as_slice.ensures ∙ ap (λ f. f.links) c.flow.ensures) c.requires.link in
    let degree = c.degree-count.ensures ∙ ap (λ (s : LinkSpec). degree_at chart c.args.nodes s.to) at in
    put_one chart c.args.nodes c.args.link c.args.sent c.args.held.now _ c.requires.link c.requires.room
    (ap (set c.args.held.now.waiting.items c.args.link) (c.in_ok-held.ensures ∙ ap (λ s. delivered s c.index-choices-link.result c.degree-count.result c.args.sent) (c.is_sequential-sequential.ensures ∙ ap (λ (s : LinkSpec). is_seq (op_at chart s.to).mark) at) ∙ ap (λ ch. delivered (into_seq chart c.args.link) ch c.degree-count.result c.args.sent) chosen ∙ ap (λ n. delivered (into_seq chart c.args.link) (choice_at chart c.args.link) n c.args.sent) degree))
    (ap (set c.args.held.now.counts.items c.args.link) c.count_rows.ensures)
    refl
    refl
