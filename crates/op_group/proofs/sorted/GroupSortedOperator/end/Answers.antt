use Rattle.std.proofs.Common.{Option, List, sym, subst}
use Rattle.streams.specs.Streams.{rows_of}
use Rattle.streams.specs.Lists.{runs_of}
use Rattle.streams.specs.Operators.{last_run}
use Rattle.op_base.specs.Columns.{Row}
use Rattle.op_base.specs.Emits.{Adds}
use Rattle.op_base.proofs.StandingLaws.{one_port_fed}
use Rattle.op_group.specs.declared.sorted.Run.{Run}
use Rattle.op_group.specs.Groups.{same_key}
use Rattle.op_group.specs.Runs.{RunStands}
use Rattle.op_group.proofs.RunKept.{SortedStands-end, sorted_open, ruled_group}
use Rattle.op_group.proofs.sorted.GroupSortedOperator.end.Goals as goal

pub give_last-requires : goal.give_last-requires
give_last-requires c =
    let keys = c.args.self.now.keys in
    let aggs = c.args.self.now.aggs.items in
    let open_now = sorted_open keys aggs _ _ c.requires.feeds c.args._port c.requires.stands c.requires.wanted in
    let cur : List Row = last_run (runs_of (same_key keys) (rows_of 0 c.requires.feeds)) in
    let P : Option Run → Type 0 = λ o. RunStands keys aggs o cur in
    (aggs, cur, subst P (sym c.take-before.ensures.value) (c.requires.stands.run_is open_now))

pub returns-clause-stands : goal.returns-clause-stands
returns-clause-stands c = λ feeds stands. SortedStands-end c.args.self.now.keys c.args.self.now.aggs.items _ feeds c.args._port (one_port_fed c.requires.feeds c.args._port c.requires.wanted)

pub returns-clause-emits : goal.returns-clause-emits
returns-clause-emits c = λ feeds stands.
    let keys = c.args.self.now.keys in
    let aggs = c.args.self.now.aggs.items in
    let open_now = sorted_open keys aggs _ _ c.requires.feeds c.args._port c.requires.stands c.requires.wanted in
    let cur : List Row = last_run (runs_of (same_key keys) (rows_of 0 feeds)) in
    let P : Option Run → Type 0 = λ o. RunStands keys aggs o cur in
    subst (Adds c.args.emit.now c.give_last.new.emit) (sym (ruled_group keys aggs cur)) (c.in_ok-give_last.ensures aggs cur (subst P (sym c.take-before.ensures.value) (stands.run_is open_now)))
