use Rattle.op_runs.proofs.Settled.{keyed_is, keyed_single}
use Rattle.op_runs.proofs.laws.keyed_is_stream.Goals as goal

pub returns-clause-stream : goal.returns-clause-stream
returns-clause-stream c = keyed_is

pub returns-clause-single : goal.returns-clause-single
returns-clause-single c = keyed_single
