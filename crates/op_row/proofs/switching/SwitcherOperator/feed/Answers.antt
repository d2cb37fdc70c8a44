use Rattle.std.proofs.Common.{ℤ, List, length, ap, ◌∙◌, subst}
use Rattle.streams.specs.Streams.{Out}
use Rattle.ds_schema.specs.Schemas.{row_fits}
use Rattle.op_base.specs.declared.fault.Fault.{Fault}
use Rattle.op_base.specs.Columns.{Row}
use Rattle.op_base.specs.RowOperators.{Case, switch_rule}
use Rattle.op_base.specs.Emits.{Adds}
use Rattle.op_row.specs.ByRow.{made}
use Rattle.op_row.specs.Expressed.{with_rejects}
use Rattle.op_row.specs.Judging.{case_of}
use Rattle.op_row.specs.Verdicts.{case_as}
use Rattle.op_row.proofs.OneRow.{switch_once}
use Rattle.op_row.proofs.Standing.{over-row, last_suits}
use Rattle.op_row.proofs.switching.SwitcherOperator.feed.Goals as goal

pub place-requires-clause-fits : goal.place-requires-clause-fits
place-requires-clause-fits c = last_suits (row_fits c.args.self.now.on.fields) c.requires.feeds c.args._port c.args.row c.requires.wanted c.requires.suited

pub returns-clause-stands : goal.returns-clause-stands
returns-clause-stands c = λ feeds stands. over-row _ feeds c.args._port c.args.row stands

pub returns-clause-emits : goal.returns-clause-emits
returns-clause-emits c = λ feeds stands.
    let items : List ℤ = c.args.self.now.cases.items in
    let said : Case = case_as c.in_ok-place.place in
    let P : List (Out Row Fault) → Type 0 = λ outs. Adds c.args.emit.now c.send_placed.new.emit outs in
    subst P
    (
    ap (λ cases. made (switch_rule (length cases) (λ r. said) c.args.self.now.reject) (with_rejects (length cases) c.args.self.now.reject) c.args.row) c.as_slice-cases.ensures.value
    ∙ switch_once (length items) (case_of c.args.self.now.on items) c.args.self.now.reject (with_rejects (length items) c.args.self.now.reject) c.args.row said
    (c.in_ok-place.ensures.case ∙ ap (λ cases. case_of c.args.self.now.on cases c.args.row) c.as_slice-cases.ensures.value)
    )
    c.in_ok-send_placed.ensures
