use Rattle.std.proofs.Common.{◌≡◌, ◌-◌}
use Rattle.osh_value.specs.Values.{with_commas, width_at, widths_at}
use Rattle.osh_value.proofs.lists.widths.Given as goal

abbrev pub invariant-loop-count : goal.invariant-loop-count
invariant-loop-count l = with_commas (λ found. width_at) (l.count - l._count) l.found l.cursor ≡ widths_at l.fn.cursor
