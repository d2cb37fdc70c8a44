use Rattle.std.proofs.Common.{sym, subst, arith}
use Rattle.std.specs.Prelude.{Option}
use Rattle.op_base.specs.declared.fault.Fault.{Fault}
use Rattle.flow_files.specs.Tallies.{IsLeastOf}
use Rattle.flow_files.proofs.Growing.{counts_on}
use Rattle.flow_files.proofs.tally.Tally.join.Goals as goal

pub returns : goal.returns
returns c = λ more number least faults t. record {
  number = counts_on faults more c.args.self.now.faults c.args.faults c.min-self.result t.number number (omega (arith, c.saturating_add.ensures, c.min-self.ensures));
  least = c.least.ensures faults more (subst (λ (o : Option Fault). IsLeastOf o faults) (sym c.take.ensures.value) t.least) least;
}
