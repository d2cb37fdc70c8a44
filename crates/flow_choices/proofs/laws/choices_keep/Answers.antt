use Rattle.flow_choices.proofs.Keeping.{runs_keep_by}
use Rattle.flow_choices.proofs.laws.choices_keep.Goals as goal

pub returns : goal.returns
returns c = runs_keep_by
