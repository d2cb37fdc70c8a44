use Rattle.list_run.proofs.Matched.{join_given, join_made, join_suited}
use Rattle.list_run.proofs.matching.match_rows.Goals as goal

pub run_ports-requires-clause-suits : goal.run_ports-requires-clause-suits
run_ports-requires-clause-suits c = λ feeds fed begun. join_suited _ c.width_of.result c.width_of-2.result c.args.widths.now c.args.lists c.into_vec.result.items c.in_ok-op.ensures.suits c.width_of.ensures c.width_of-2.ensures c.into_vec.ensures c.requires.rows feeds begun

pub returns : goal.returns
returns c = join_given c.args.kind c.args.parts.now c.args.widths.now c.args.lists c.into_vec.result.items _ c.in_ok-emit.emit
    (join_made c.args.kind c.args.parts.now c.args.widths.now _ c.in_ok-left.left c.in_ok-right.right c.width_of.result c.width_of-2.result c.in_ok-op.ensures.stream c.in_ok-left.ensures c.in_ok-right.ensures c.width_of.ensures c.width_of-2.ensures) c.into_vec.ensures c.requires.ports c.in_ok-emit.ensures
