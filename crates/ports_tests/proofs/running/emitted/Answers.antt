use Rattle.std.proofs.Common.{sym, ap, ◌∙◌}
use Rattle.std.specs.List.{list_all}
use Rattle.op_match.specs.Suiting.{row_suits}
use Rattle.ports_tests.proofs.Wide.{lists_suit}
use Rattle.ports_tests.proofs.running.emitted.Goals as goal

pub run_ports-requires-clause-suits : goal.run_ports-requires-clause-suits
run_ports-requires-clause-suits g c = lists_suit c.args.width (g.O.Operator.suits c.args.op) c.requires.wide (g.O.Operator.stream c.args.op) c.in_ok-lists.lists.items
    (ap (list_all (list_all (row_suits c.args.width))) (sym c.as_slice.ensures.value) ∙ sym c.have_width.ensures ∙ c.if-not-have_width.false)
