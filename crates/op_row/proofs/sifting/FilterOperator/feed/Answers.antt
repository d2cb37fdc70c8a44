use Rattle.std.proofs.Common.{List, subst}
use Rattle.streams.specs.Streams.{Out}
use Rattle.ds_schema.specs.Schemas.{row_fits}
use Rattle.op_base.specs.declared.fault.Fault.{Fault}
use Rattle.op_base.specs.Columns.{Row}
use Rattle.op_base.specs.Emits.{Adds}
use Rattle.op_row.specs.Judging.{judged}
use Rattle.op_row.specs.Verdicts.{judged_as}
use Rattle.op_row.proofs.OneRow.{filter_once}
use Rattle.op_row.proofs.Standing.{over-row, last_suits}
use Rattle.op_row.proofs.sifting.FilterOperator.feed.Goals as goal

pub judge-requires : goal.judge-requires
judge-requires c = last_suits (row_fits c.args.self.now.test.fields) c.requires.feeds c.args._port c.args.row c.requires.wanted c.requires.suited

pub returns-clause-stands : goal.returns-clause-stands
returns-clause-stands c = λ feeds stands. over-row _ feeds c.args._port c.args.row stands

pub returns-clause-emits : goal.returns-clause-emits
returns-clause-emits c = λ feeds stands.
    let P : List (Out Row Fault) → Type 0 = λ outs. Adds c.args.emit.now c.send_judged.new.emit outs in
    subst P (filter_once (judged c.args.self.now.test) c.args.self.now.reject c.args.row (judged_as c.in_ok-verdict.verdict) c.in_ok-verdict.ensures) c.in_ok-send_judged.ensures
