use Rattle.expr_table.proofs.RowResults.{results_fit}
use Rattle.expr_table.proofs.laws.results_fit.Goals as goal

pub returns : goal.returns
returns c = results_fit
