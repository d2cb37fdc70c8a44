use Rattle.std.proofs.Common.{◌≡◌, ◌≤◌, ◌+◌, drop}
use Rattle.shape_base.specs.Widths.{widest_row}
use Rattle.shape_base.proofs.widths.is_short.Given as goal

abbrev pub invariant-loop-field : goal.invariant-loop-field
invariant-loop-field l = record {
  sum : l.bytes + widest_row (drop l.field-index l.fields) ≡ widest_row l.fields;
  few : l.bytes ≤ 2097152;
}
