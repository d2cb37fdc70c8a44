use Rattle.config_read.proofs.Exact.{answers_so}
use Rattle.config_read.proofs.whole.read_config.Goals as goal

pub returns : goal.returns
returns c = let a = answers_so c.args.bytes.now c.read.result c.read.ensures in record { spelled = a.0; first_fault = a.1 }
