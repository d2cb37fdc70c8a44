use Rattle.std.proofs.Common.{List, sym, subst, ◌∙◌}
use Rattle.streams.specs.Streams.{Out}
use Rattle.op_base.specs.declared.fault.Fault.{Fault}
use Rattle.op_base.specs.Columns.{Row}
use Rattle.op_base.specs.Emits.{Adds}
use Rattle.op_base.proofs.Adding.{Adds-none}
use Rattle.op_collect.proofs.Lanes.{settle_waits, settle_ready, settle_some}
use Rattle.op_collect.proofs.merging.SortMerge.settle.Goals as goal

pub returns-then-is_some-clause-lanes : goal.returns-then-is_some-clause-lanes
returns-then-is_some-clause-lanes c =
    let self = c.args.self.now in
    (settle_waits self.keys self.lanes.items self.ports self.each c.first_empty.result c.first_empty.ensures (sym c.is_some.ensures ∙ c.if-is_some.true)).0

pub returns-then-is_some-clause-sent : goal.returns-then-is_some-clause-sent
returns-then-is_some-clause-sent c =
    let self = c.args.self.now in
    let P : List (Out Row Fault) → Type 0 = λ outs. Adds c.args.emit.now c.args.emit.now outs in
    subst P (sym (settle_waits self.keys self.lanes.items self.ports self.each c.first_empty.result c.first_empty.ensures (sym c.is_some.ensures ∙ c.if-is_some.true)).1) (Adds-none c.args.emit.now)

pub returns-in_ok-take-in-Some-clause-lanes : goal.returns-in_ok-take-in-Some-clause-lanes
returns-in_ok-take-in-Some-clause-lanes c =
    let self = c.args.self.now in
    let ready = settle_ready self.lanes.items self.ports self.each c.first_empty.result c.first_empty.ensures (sym c.is_some.ensures ∙ c.if-is_some.false) in
    c.in_ok-take-in-Some.ensures.lanes ∙ (settle_some self.keys self.lanes.items ready c.in-Some.port c.in-Some.ensures.port).0

pub returns-in_ok-take-in-Some-clause-sent : goal.returns-in_ok-take-in-Some-clause-sent
returns-in_ok-take-in-Some-clause-sent c =
    let self = c.args.self.now in
    let ready = settle_ready self.lanes.items self.ports self.each c.first_empty.result c.first_empty.ensures (sym c.is_some.ensures ∙ c.if-is_some.false) in
    let P : List (Out Row Fault) → Type 0 = λ outs. Adds c.args.emit.now c.take.new.emit outs in
    subst P (sym (settle_some self.keys self.lanes.items ready c.in-Some.port c.in-Some.ensures.port).1) c.in_ok-take-in-Some.ensures.sent
