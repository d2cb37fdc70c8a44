use Rattle.std.proofs.Common.{[]}
use Rattle.flow_shape.specs.Refusals.{chart_of, stored_at}
use Rattle.flow_shape.proofs.Listing.{listed}
use Rattle.flow_shape.proofs.finding.all_stored.Goals as goal

pub loop-op-preserved : goal.loop-op-preserved
loop-op-preserved c = listed (stored_at c.args.dict.now (chart_of c.args.flow.now [])) c.loop-op.op c.loop-op.list.items c.push.new.self.items _ c.loop-op.invariant c.in_ok-push.ensures.items c.in_ok-stored_at.ensures
