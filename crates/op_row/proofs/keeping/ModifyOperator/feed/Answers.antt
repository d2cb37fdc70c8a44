use Rattle.std.proofs.Common.{ℕ, List, sym, subst}
use Rattle.std.specs.List.{All}
use Rattle.ds_schema.specs.Rows.{InWidth}
use Rattle.op_row.proofs.Standing.{over-row, columns_there}
use Rattle.op_row.proofs.keeping.ModifyOperator.feed.Goals as goal

pub project-requires : goal.project-requires
project-requires c =
    let P : List ℕ → Type 0 = λ cols. All (InWidth c.args.row) cols in
    subst P (sym c.as_slice.ensures.value) (columns_there c.args.self.now.cols.items c.requires.feeds c.args._port c.args.row c.requires.wanted c.requires.suited)

pub returns-clause-stands : goal.returns-clause-stands
returns-clause-stands c = λ feeds stands. over-row _ feeds c.args._port c.args.row stands
