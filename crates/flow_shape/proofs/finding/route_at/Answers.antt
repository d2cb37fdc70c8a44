use Rattle.std.proofs.Common.{get_or}
use Rattle.flow_graph.specs.Charts.{no_op, no_link, is_seq}
use Rattle.flow_shape.proofs.Sound.{method_none, method_sound}
use Rattle.flow_shape.proofs.finding.route_at.Goals as goal

pub written_route-requires-clause-named : goal.written_route-requires-clause-named
written_route-requires-clause-named c =
    let l = get_or c.args.flow.now.links c.args.link no_link in
    let sound = method_sound (is_seq (get_or c.args.flow.now.ops l.to no_op).mark) (get_or c.args.schemas.now c.args.link _) l.method
    (method_none c.args.flow.now c.args.schemas.now c.args.link c.requires.link c.requires.fit.sound) in
    rw (c.link_at.ensures, c.fields_at.ensures.fields) sound.1
