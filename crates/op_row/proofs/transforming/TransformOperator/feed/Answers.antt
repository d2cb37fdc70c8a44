use Rattle.std.proofs.Common.{◌≡◌, List, true, sym, subst}
use Rattle.ds_schema.specs.Schemas.{row_fits}
use Rattle.op_row.specs.declared.setting.Set.{Set}
use Rattle.op_row.specs.Expressed.{input_fields}
use Rattle.op_row.proofs.Standing.{over-row, last_suits}
use Rattle.op_row.proofs.transforming.TransformOperator.feed.Goals as goal

pub send_set-requires-clause-fits : goal.send_set-requires-clause-fits
send_set-requires-clause-fits c =
    let P : List Set → Type 0 = λ sets. row_fits (input_fields sets) c.args.row ≡ true in
    subst P (sym c.as_slice.ensures.sets) (last_suits (row_fits (input_fields c.args.self.now.sets)) c.requires.feeds c.args._port c.args.row c.requires.wanted c.requires.suited)

pub returns-clause-stands : goal.returns-clause-stands
returns-clause-stands c = λ feeds stands. over-row _ feeds c.args._port c.args.row stands
