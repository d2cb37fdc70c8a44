use Rattle.std.proofs.Common.{◌≡◌, true, Option, List, sym, subst}
use Rattle.streams.specs.Streams.{rows_of}
use Rattle.streams.specs.Lists.{runs_of}
use Rattle.streams.specs.Operators.{last_run}
use Rattle.op_base.specs.Columns.{Row}
use Rattle.op_base.specs.Emits.{Adds}
use Rattle.op_base.proofs.StandingLaws.{one_port_fed}
use Rattle.op_group.specs.declared.agg.Agg.{Agg}
use Rattle.op_group.specs.declared.sorted.Run.{Run}
use Rattle.op_group.specs.Groups.{same_key, row_suits}
use Rattle.op_group.specs.Runs.{RunStands, Turns}
use Rattle.op_group.proofs.RunKept.{SortedStands-row, sorted_open, row_fed_suits, turn_outs-row}
use Rattle.op_group.proofs.sorted.GroupSortedOperator.feed.Goals as goal

pub turn-requires-clause-suits : goal.turn-requires-clause-suits
turn-requires-clause-suits c =
    let P : List Agg → Type 0 = λ aggs. row_suits c.args.self.now.keys aggs c.args.row ≡ true in
    subst P (sym c.deref.ensures.value) (row_fed_suits c.args.self.now.keys c.args.self.now.aggs.items c.requires.feeds c.args._port c.args.row c.requires.wanted c.requires.suited)

pub turn-requires-clause-before : goal.turn-requires-clause-before
turn-requires-clause-before c =
    let keys = c.args.self.now.keys in
    let aggs = c.args.self.now.aggs.items in
    let open_now = sorted_open keys aggs _ _ c.requires.feeds c.args._port c.requires.stands c.requires.wanted in
    let cur : List Row = last_run (runs_of (same_key keys) (rows_of 0 c.requires.feeds)) in
    let P : Option Run → Type 0 = λ o. RunStands keys aggs o cur in
    let Q : List Agg → Type 0 = λ as1. RunStands keys as1 c.take-before.result cur in
    (cur, subst Q (sym c.deref.ensures.value) (subst P (sym c.take-before.ensures.value) (c.requires.stands.run_is open_now)))

pub returns-clause-stands : goal.returns-clause-stands
returns-clause-stands c = λ feeds stands.
    let keys = c.args.self.now.keys in
    let aggs = c.args.self.now.aggs.items in
    let open_now = sorted_open keys aggs _ _ c.requires.feeds c.args._port c.requires.stands c.requires.wanted in
    let cur : List Row = last_run (runs_of (same_key keys) (rows_of 0 feeds)) in
    let P : Option Run → Type 0 = λ o. RunStands keys aggs o cur in
    let Q : List Agg → Type 0 = λ as1. RunStands keys as1 c.take-before.result cur in
    let T : List Agg → Type 0 = λ as1. Turns keys as1 cur c.args.row c.in_ok-run.run' c.args.emit.now c.turn.new.emit in
    let turns : T aggs = subst T c.deref.ensures.value (c.in_ok-run.ensures cur (subst Q (sym c.deref.ensures.value) (subst P (sym c.take-before.ensures.value) (stands.run_is open_now)))) in
    SortedStands-row keys aggs _ _ _ feeds c.args._port c.args.row (one_port_fed c.requires.feeds c.args._port c.requires.wanted) stands turns.stands

pub returns-clause-emits : goal.returns-clause-emits
returns-clause-emits c = λ feeds stands.
    let keys = c.args.self.now.keys in
    let aggs = c.args.self.now.aggs.items in
    let open_now = sorted_open keys aggs _ _ c.requires.feeds c.args._port c.requires.stands c.requires.wanted in
    let cur : List Row = last_run (runs_of (same_key keys) (rows_of 0 feeds)) in
    let P : Option Run → Type 0 = λ o. RunStands keys aggs o cur in
    let Q : List Agg → Type 0 = λ as1. RunStands keys as1 c.take-before.result cur in
    let T : List Agg → Type 0 = λ as1. Turns keys as1 cur c.args.row c.in_ok-run.run' c.args.emit.now c.turn.new.emit in
    let turns : T aggs = subst T c.deref.ensures.value (c.in_ok-run.ensures cur (subst Q (sym c.deref.ensures.value) (subst P (sym c.take-before.ensures.value) (stands.run_is open_now)))) in
    subst (Adds c.args.emit.now c.turn.new.emit) (turn_outs-row keys aggs (rows_of 0 feeds) c.args.row) turns.adds
