use Rattle.std.proofs.Common.{◌≡◌, ◌++◌, flat_map, get_or}
use Rattle.std.specs.List.{range_with_len}
use Rattle.osh_ends.specs.Reports.{count_line}
use Rattle.run_finish.proofs.report.put_counts.Given as goal

abbrev pub invariant-loop-link : goal.invariant-loop-link
invariant-loop-link l = l.text ≡ l.fn.text ++ flat_map (λ k. count_line k (get_or l.counts k 0)) (range_with_len 0 l.link)
