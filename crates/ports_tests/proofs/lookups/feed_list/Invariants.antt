use Rattle.std.proofs.Common.{◌≡◌, true, List}
use Rattle.streams.specs.Streams.{Feed}
use Rattle.op_base.specs.Columns.{Row}
use Rattle.op_lookup.specs.Looked.{suits_lookup}
use Rattle.op_lookup.specs.Standing.{LookupStands}
use Rattle.ports_tests.proofs.lookups.feed_list.Given as goal

abbrev pub invariant-loop-row : goal.invariant-loop-row
invariant-loop-row l = record {
  suits : suits_lookup l.op.columns.main.items l.op.columns.width ≡ suits_lookup l.main l.width;
  stands : (feeds : List (Feed Row)) × LookupStands l.op.columns.reference.items l.op.columns.others.items l.op.table.entries l.op.main_over l.op.reference_over feeds × (suits_lookup l.main l.width feeds ≡ true);
}
