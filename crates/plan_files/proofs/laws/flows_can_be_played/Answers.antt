use Rattle.plan_files.proofs.Reading.{sources_have_files, flows_can_be_played, accepted_is_chosen}
use Rattle.plan_files.proofs.laws.flows_can_be_played.Goals as goal

pub returns : goal.returns
returns c = record { files = sources_have_files; played = flows_can_be_played; accepted = accepted_is_chosen }
