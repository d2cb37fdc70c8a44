use Rattle.flow_tests.proofs.flow_shapes.answer.Goals as goal

pub flow_of-requires-clause-first : goal.flow_of-requires-clause-first
flow_of-requires-clause-first c = c.in_ok-first.ensures

pub flow_of-requires-clause-middle : goal.flow_of-requires-clause-middle
flow_of-requires-clause-middle c = c.in_ok-kind_of.ensures

pub flow_of-requires-clause-last : goal.flow_of-requires-clause-last
flow_of-requires-clause-last c = c.in_ok-last.ensures

pub flow_of-requires-clause-method : goal.flow_of-requires-clause-method
flow_of-requires-clause-method c = c.in_ok-method.ensures
