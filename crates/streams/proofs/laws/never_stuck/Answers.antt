use Rattle.streams.proofs.Stuck.{never-stuck}
use Rattle.streams.proofs.laws.never_stuck.Goals as goal

pub returns : goal.returns
returns g c = never-stuck
