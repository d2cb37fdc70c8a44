use Rattle.std.proofs.Common.{◌∙◌, sym}
use Rattle.flow_rules.proofs.Refusals.{of_route}
use Rattle.flow_rules.proofs.checker.link_missed.Goals as goal

pub returns-in-Some : goal.returns-in-Some
returns-in-Some c = sym (of_route c.args.shaped.now c.args.states.now c.args.link c.in-Some.found (sym c.in_ok-found.ensures ∙ c.in-Some.is))
