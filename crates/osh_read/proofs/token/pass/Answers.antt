use Rattle.osh_read.proofs.Tokens.{passed}
use Rattle.osh_read.proofs.token.pass.Goals as goal

pub returns : goal.returns
returns c = passed _ _ _ c.token-passed.ensures.read c.token-passed.ensures.unchanged
