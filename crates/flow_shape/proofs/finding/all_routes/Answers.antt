use Rattle.std.proofs.Common.{[], get_or, below_more}
use Rattle.ds_schema.specs.Schemas.{IsSchema}
use Rattle.flow_shape.specs.Refusals.{chart_of, written_at}
use Rattle.flow_shape.proofs.Listing.{listed}
use Rattle.flow_shape.proofs.finding.all_routes.Goals as goal

pub loop-link-preserved : goal.loop-link-preserved
loop-link-preserved c = record {
  routes = listed (written_at (chart_of c.args.flow.now c.args.schemas.now)) c.loop-link.link c.loop-link.routes.items c.push.new.self.items _ c.loop-link.invariant.routes c.in_ok-push.ensures.items c.in_ok-route_at.ensures.route;
  schemas = below_more (λ k. IsSchema (get_or c.args.schemas.now k [])) _ c.loop-link.invariant.schemas c.in_ok-route_at.ensures.schema;
}
