use Rattle.core_laws.proofs.Driving.{plan_never_stuck, plan_each_falls, plan_drivers_end, plan_finished_is_legal}
use Rattle.core_laws.proofs.Falling.{plan_falls_by}
use Rattle.core_laws.proofs.laws.plans_end.Goals as goal

pub returns : goal.returns
returns g c = record { stuck = plan_never_stuck; falls = plan_each_falls; falls_by = plan_falls_by; drivers = plan_drivers_end; legal = plan_finished_is_legal }
