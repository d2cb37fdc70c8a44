use Rattle.std.proofs.Common.{◌≡◌, ◌++◌, List}
use Rattle.std.specs.List.{flat_map}
use Rattle.indexmap.specs.IndexMap.{values}
use Rattle.ds_schema.specs.declared.key.Key.{Key}
use Rattle.op_base.specs.Columns.{Row}
use Rattle.op_base.specs.Emits.{Adds}
use Rattle.op_group.specs.declared.agg.Agg.{Agg}
use Rattle.op_group.specs.declared.table.Group.{Group}
use Rattle.op_group.specs.Tables.{AreGroups}
use Rattle.op_group.proofs.TableLaws.{outs_of}
use Rattle.op_group.proofs.table.give_each.Given as goal

abbrev pub invariant-loop-group : goal.invariant-loop-group
invariant-loop-group l = record {
  done : List Group;
  parts : done ++ l.group-iterator ≡ values l.fn.table;
  adds : (keys : List Key) (aggs : List Agg) (rows : List Row) → AreGroups keys aggs l.fn.table.entries rows → Adds l.fn.emit l.emit (flat_map (outs_of keys aggs rows) done);
}
