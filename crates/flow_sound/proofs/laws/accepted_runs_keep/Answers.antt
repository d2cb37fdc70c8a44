use Rattle.flow_sound.proofs.Keeping.{run_keeps}
use Rattle.flow_sound.proofs.laws.accepted_runs_keep.Goals as goal

pub returns : goal.returns
returns c = run_keeps
