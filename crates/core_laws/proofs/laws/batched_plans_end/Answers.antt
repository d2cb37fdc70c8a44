use Rattle.core_laws.proofs.Driving.{plan_batch_never_stuck, plan_batch_each_falls, plan_batch_finished_is_legal}
use Rattle.core_laws.proofs.laws.batched_plans_end.Goals as goal

pub returns : goal.returns
returns g c = record { stuck = plan_batch_never_stuck; falls = plan_batch_each_falls; legal = plan_batch_finished_is_legal }
