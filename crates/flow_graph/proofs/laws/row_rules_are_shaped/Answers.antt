use Rattle.flow_graph.proofs.RowShapes.{copy_shape}
use Rattle.flow_graph.proofs.RowShapes.{filter_shape}
use Rattle.flow_graph.proofs.RowShapes.{switch_shape}
use Rattle.flow_graph.proofs.RowShapes.{modify_shape}
use Rattle.flow_graph.proofs.RowShapes.{transform_shape}
use Rattle.flow_graph.proofs.RowShapes.{sink_shape}
use Rattle.flow_graph.proofs.laws.row_rules_are_shaped.Goals as goal

pub returns-clause-copy : goal.returns-clause-copy
returns-clause-copy c = copy_shape

pub returns-clause-filter : goal.returns-clause-filter
returns-clause-filter c = filter_shape

pub returns-clause-switch : goal.returns-clause-switch
returns-clause-switch c = switch_shape

pub returns-clause-modify : goal.returns-clause-modify
returns-clause-modify c = modify_shape

pub returns-clause-transform : goal.returns-clause-transform
returns-clause-transform c = transform_shape

pub returns-clause-sink : goal.returns-clause-sink
returns-clause-sink c = sink_shape
