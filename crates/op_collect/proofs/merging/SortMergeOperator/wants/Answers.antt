use Rattle.op_collect.proofs.Lanes.{merge_wants, merge_done}
use Rattle.op_collect.proofs.merging.SortMergeOperator.wants.Goals as goal

pub returns-in-Some : goal.returns-in-Some
returns-in-Some c = λ feeds stands.
    let self = c.args.self.now in
    merge_wants self.ports self.some self.keys self.lanes.items c.in-Some.port c.in-Some.ensures feeds stands

pub returns-in-None : goal.returns-in-None
returns-in-None c = λ feeds stands.
    let self = c.args.self.now in
    merge_done self.ports self.some self.keys self.lanes.items c.in-None.ensures feeds stands
