use Rattle.op_any.proofs.ByKind.{made}
use Rattle.op_any.proofs.by_row.make_row_operator.Goals as goal

pub returns-in_ok-filter_by-in-Filter : goal.returns-in_ok-filter_by-in-Filter
returns-in_ok-filter_by-in-Filter c =
    let op = c.in_ok-filter_by-in-Filter.ensures in made c.args.kind.now _ c.args.parts.now c.args._widths.now c.args.outs _ _ _ c.in-Filter.is op.stream op.suits op.stands

pub returns-in_ok-transform_by-in-Transform : goal.returns-in_ok-transform_by-in-Transform
returns-in_ok-transform_by-in-Transform c =
    let op = c.in_ok-transform_by-in-Transform.ensures in made c.args.kind.now _ c.args.parts.now c.args._widths.now c.args.outs _ _ _ c.in-Transform.is op.stream op.suits op.stands

pub returns-in_ok-switcher_by-in-Switch : goal.returns-in_ok-switcher_by-in-Switch
returns-in_ok-switcher_by-in-Switch c =
    let op = c.in_ok-switcher_by-in-Switch.ensures in made c.args.kind.now _ c.args.parts.now c.args._widths.now c.args.outs _ _ _ c.in-Switch.is op.stream op.suits op.stands
