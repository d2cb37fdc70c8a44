use Rattle.osh_words.proofs.Sound.{one_command}
use Rattle.osh_words.proofs.laws.spelled_once.Goals as goal

pub returns : goal.returns
returns c = one_command
