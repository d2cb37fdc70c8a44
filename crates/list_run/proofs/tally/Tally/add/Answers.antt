use Rattle.std.proofs.Common.{◌∙◌, sym, ap, map, arith}
use Rattle.flow_graph.specs.RowRules.{at_op}
use Rattle.list_run.specs.Found.{at_op_if}
use Rattle.list_run.proofs.Leasts.{least_at}
use Rattle.list_run.proofs.Tallying.{counts_on}
use Rattle.list_run.proofs.tally.Tally.add.Goals as goal

pub returns : goal.returns
returns c = λ more number least none faults t. record {
  number = counts_on c.args.op faults more c.args.self.now.faults c.args.faults c.min-self.result t.number number (omega (arith, c.saturating_add.ensures, c.min-self.ensures));
  least = c.least_of_both.ensures faults (map (at_op c.args.op) more) (c.take.ensures.value ∙ t.least) (c.numbered_if.ensures ∙ ap (at_op_if c.args.op) least ∙ sym (least_at c.args.op more none));
}
