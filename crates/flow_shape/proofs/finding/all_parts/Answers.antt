use Rattle.flow_shape.specs.Refusals.{chart_of, parts_at}
use Rattle.flow_shape.proofs.Listing.{listed}
use Rattle.flow_shape.proofs.finding.all_parts.Goals as goal

pub loop-op-preserved : goal.loop-op-preserved
loop-op-preserved c = listed (parts_at (chart_of c.args.flow.now c.args.schemas.now)) c.loop-op.op c.loop-op.parts.items c.push.new.self.items _ c.loop-op.invariant c.in_ok-push.ensures.items c.in_ok-parts_at.ensures
