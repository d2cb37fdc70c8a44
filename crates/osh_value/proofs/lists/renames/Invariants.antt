use Rattle.std.proofs.Common.{◌≡◌, ◌-◌}
use Rattle.osh_value.specs.Values.{with_commas, rename_at, renames_at}
use Rattle.osh_value.proofs.lists.renames.Given as goal

abbrev pub invariant-loop-count : goal.invariant-loop-count
invariant-loop-count l = with_commas rename_at (l.count - l._count) l.found l.cursor ≡ renames_at l.fn.cursor
