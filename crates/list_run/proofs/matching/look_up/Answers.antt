use Rattle.list_run.proofs.Matched.{lookup_given, lookup_made, lookup_suited}
use Rattle.list_run.proofs.matching.look_up.Goals as goal

pub run_ports-requires-clause-suits : goal.run_ports-requires-clause-suits
run_ports-requires-clause-suits c = λ feeds fed begun. lookup_suited c.args.parts.now c.args.widths.now _ c.in_ok-main.main.items c.width_of.result c.args.lists c.into_vec.result.items c.in_ok-op.ensures.suits c.in_ok-main.ensures c.width_of.ensures c.into_vec.ensures c.requires.rows feeds begun

pub returns : goal.returns
returns c = lookup_given c.args.missing c.args.parts.now c.args.widths.now c.args.lists c.into_vec.result.items _ c.in_ok-emit.emit
    (lookup_made c.args.missing c.args.parts.now c.args.widths.now _ c.in_ok-main.main.items c.in_ok-reference.reference.items c.width_of.result c.in_ok-op.ensures.stream c.in_ok-main.ensures c.in_ok-reference.ensures c.width_of.ensures) c.into_vec.ensures c.requires.rows c.in_ok-emit.ensures
