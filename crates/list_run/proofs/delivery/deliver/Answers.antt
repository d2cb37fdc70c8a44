use Rattle.std.proofs.Common.{ap, sym, ◌∙◌, map, map-id}
use Rattle.flow_graph.specs.Runs.{arranged_if}
use Rattle.list_run.specs.Routed.{routed}
use Rattle.list_run.proofs.delivery.deliver.Goals as goal

pub returns-in-None : goal.returns-in-None
returns-in-None c = c.in_ok-got.ensures.routed ∙ sym (map-id (routed c.args.sequential c.args.choice.now.method c.args.count c.args.sent)) ∙ ap (λ s. map (arranged_if s) (routed c.args.sequential c.args.choice.now.method c.args.count c.args.sent)) (sym c.in-None.is)
