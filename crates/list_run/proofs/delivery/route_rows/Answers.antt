use Rattle.std.proofs.Common.{ap, sym, subst, ◌∙◌, length}
use Rattle.flow_graph.specs.Runs.{Arrives}
use Rattle.list_run.proofs.Routes.{routed_long, routed_arrives}
use Rattle.list_run.proofs.delivery.route_rows.Goals as goal

pub returns-clause-arrives : goal.returns-clause-arrives
returns-clause-arrives c = subst (Arrives c.args.sequential c.args.route.now c.args.sent) (sym c.in_ok-got.ensures) (routed_arrives c.args.sequential c.args.route.now c.args.count c.args.sent c.requires.joins)

pub returns-clause-count : goal.returns-clause-count
returns-clause-count c = ap length c.in_ok-got.ensures ∙ routed_long c.args.sequential c.args.route.now c.args.count c.args.sent c.requires.joins
