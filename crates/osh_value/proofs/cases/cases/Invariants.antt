use Rattle.std.proofs.Common.{◌≡◌, ◌-◌}
use Rattle.osh_value.specs.Values.{with_commas, case_at, cases_at}
use Rattle.osh_value.proofs.cases.cases.Given as goal

abbrev pub invariant-loop-count : goal.invariant-loop-count
invariant-loop-count l = with_commas case_at (l.count - l._count) l.found l.cursor ≡ cases_at l.fn.cursor
