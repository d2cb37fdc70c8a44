use Rattle.std.proofs.Common.{◌<◌, length, subst}
use Rattle.op_match.proofs.Pairing.{pairs_sent}
use Rattle.op_match.proofs.change.Changes.send_pairs.Goals as goal

pub loop-i-preserved : goal.loop-i-preserved
loop-i-preserved c = pairs_sent c.args.self.now.values.items c.args.self.now.keep _ _ _ c.args.befores.now c.args.afters.now c.loop-i.i c.index-befores-i.result c.index-afters-i.result c.loop-i-test.true (subst (λ n. c.loop-i.i < n) c.requires c.loop-i-test.true) c.index-befores-i.is c.index-afters-i.is c.loop-i.invariant c.in_ok-send_pair.ensures
