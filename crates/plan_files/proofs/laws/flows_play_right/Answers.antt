use Rattle.plan_files.proofs.Playing.{flows_play_right, accepted_flows_play_right}
use Rattle.plan_files.proofs.laws.flows_play_right.Goals as goal

pub returns : goal.returns
returns c = record { chosen = flows_play_right; accepted = accepted_flows_play_right }
