use Rattle.core_laws.proofs.Filing.{plan_files_are}
use Rattle.core_laws.proofs.laws.files_fit.Goals as goal

pub returns : goal.returns
returns g c = plan_files_are
