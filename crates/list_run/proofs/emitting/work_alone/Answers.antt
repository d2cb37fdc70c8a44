use Rattle.list_run.proofs.Working.{filter_does, transform_does, modify_does, switch_does}
use Rattle.list_run.proofs.Grouped.{group_does}
use Rattle.list_run.proofs.emitting.work_alone.Goals as goal

pub returns-in-Filter : goal.returns-in-Filter
returns-in-Filter c = filter_does c.args.kind.now _ _ c.args.parts.now c.first_expr.result.now c.args.widths.now c.args.lists c.first_rows-rows.result.items c.run_filter.result
    c.first_rows-rows.ensures c.in-Filter.is c.first_expr.ensures c.run_filter.ensures

pub returns-in_ok-sets-in-Transform : goal.returns-in_ok-sets-in-Transform
returns-in_ok-sets-in-Transform c = transform_does c.args.kind.now _ _ c.args.parts.now c.in_ok-sets-in-Transform.sets.items c.args.widths.now c.args.lists c.first_rows-rows.result.items c.run_transform.result
    c.first_rows-rows.ensures c.in-Transform.is c.in_ok-sets-in-Transform.ensures c.run_transform.ensures

pub returns-in_ok-aggs-in-Group : goal.returns-in_ok-aggs-in-Group
returns-in_ok-aggs-in-Group c = group_does c.args.kind.now _ _ _ c.args.parts.now c.args.widths.now c.args.lists c.in_ok-keys-in-Group.keys c.in_ok-aggs-in-Group.aggs.items c.first_rows-rows.result.items c.run_group.result
    c.in-Group.is c.requires.one c.in_ok-keys-in-Group.ensures c.in_ok-aggs-in-Group.ensures
    c.first_rows-rows.ensures c.run_group.ensures

pub returns-in-Modify : goal.returns-in-Modify
returns-in-Modify c = modify_does c.args.kind.now _ _ _ c.args.parts.now c.args.widths.now c.args.lists c.first_rows-rows.result.items c.run_modify.result
    c.first_rows-rows.ensures c.in-Modify.is c.run_modify.ensures

pub returns-in-Switch : goal.returns-in-Switch
returns-in-Switch c = switch_does c.args.kind.now _ _ _ c.args.parts.now c.first_expr-in-Switch.result.now c.args.widths.now c.args.lists c.first_rows-rows.result.items c.run_switch.result
    c.first_rows-rows.ensures c.in-Switch.is c.first_expr-in-Switch.ensures c.run_switch.ensures
