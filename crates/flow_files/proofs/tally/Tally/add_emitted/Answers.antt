use Rattle.std.proofs.Common.{sym, subst}
use Rattle.std.specs.Prelude.{Option}
use Rattle.op_base.specs.declared.fault.Fault.{Fault}
use Rattle.flow_files.specs.Tallies.{IsLeastOf}
use Rattle.flow_files.proofs.Growing.{least_of_all}
use Rattle.flow_files.proofs.tally.Tally.add_emitted.Goals as goal

pub returns : goal.returns
returns c = λ more number least. c.join.ensures more number (subst (λ (o : Option Fault). IsLeastOf o more) (sym least) (least_of_all more))
