use Rattle.osh_sound.proofs.FlowsHold.{text_holds}
use Rattle.osh_sound.proofs.FlowsRead.{spelled_read, refused_none, one_spelled}
use Rattle.osh_sound.proofs.flows_are_spelled.Goals as goal

pub returns-clause-read : goal.returns-clause-read
returns-clause-read c = text_holds

pub returns-clause-spelled : goal.returns-clause-spelled
returns-clause-spelled c = spelled_read

pub returns-clause-refused : goal.returns-clause-refused
returns-clause-refused c = refused_none

pub returns-clause-one : goal.returns-clause-one
returns-clause-one c = one_spelled
