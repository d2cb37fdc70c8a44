use Rattle.std.proofs.Common.{◌≡◌, ◌∷◌, ◌++◌, [], true, List, sym, subst}
use Rattle.streams.specs.Streams.{rows_of}
use Rattle.op_base.proofs.StandingLaws.{one_port_fed}
use Rattle.op_group.specs.declared.agg.Agg.{Agg}
use Rattle.op_group.specs.Groups.{row_suits}
use Rattle.op_group.specs.Tables.{AreGroups}
use Rattle.op_group.proofs.RunKept.{row_fed_suits}
use Rattle.op_group.proofs.TableLaws.{HashedStands-row}
use Rattle.op_group.proofs.hashed.GroupHashedOperator.feed.Goals as goal

pub add_row-requires-clause-suits : goal.add_row-requires-clause-suits
add_row-requires-clause-suits c =
    let P : List Agg → Type 0 = λ aggs. row_suits c.args.self.now.keys aggs c.args.row ≡ true in
    subst P (sym c.deref.ensures.value) (row_fed_suits c.args.self.now.keys c.args.self.now.aggs.items c.requires.feeds c.args._port c.args.row c.requires.wanted c.requires.suited)

pub returns-clause-stands : goal.returns-clause-stands
returns-clause-stands c = λ feeds stands.
    let keys = c.args.self.now.keys in
    let P : List Agg → Type 0 = λ aggs. AreGroups keys aggs c.args.self.now.table.entries (rows_of 0 feeds) → AreGroups keys aggs c.add_row.new.table.entries (rows_of 0 feeds ++ c.args.row ∷ []) in
    HashedStands-row keys c.args.self.now.aggs.items c.args.self.now.over c.args.self.now.table.entries c.add_row.new.table.entries feeds c.args._port c.args.row (one_port_fed c.requires.feeds c.args._port c.requires.wanted)
    (λ still. subst P c.deref.ensures.value (c.in_ok-add_row.ensures (rows_of 0 feeds))) stands
