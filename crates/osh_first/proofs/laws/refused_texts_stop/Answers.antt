use Rattle.osh_first.proofs.Refused.{refused_stops}
use Rattle.osh_first.proofs.Stopped.{stopped_none}
use Rattle.osh_first.proofs.laws.refused_texts_stop.Goals as goal

pub returns-clause-stops : goal.returns-clause-stops
returns-clause-stops c = refused_stops

pub returns-clause-none : goal.returns-clause-none
returns-clause-none c = stopped_none
