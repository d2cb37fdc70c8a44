use Rattle.plan_promise.proofs.KindsWorking.{kinds_work}
use Rattle.plan_promise.proofs.MatchedWorking.{matched_work, stored_work}
use Rattle.plan_promise.proofs.laws.kinds_work.Goals as goal

pub returns-clause-shaped : goal.returns-clause-shaped
returns-clause-shaped c = kinds_work

pub returns-clause-matched : goal.returns-clause-matched
returns-clause-matched c = matched_work

pub returns-clause-stored : goal.returns-clause-stored
returns-clause-stored c = stored_work
