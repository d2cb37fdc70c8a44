use Rattle.std.proofs.Common.{◌≡◌, ◌++◌, flat_map}
use Rattle.std.specs.List.{range_with_len}
use Rattle.flow_score.specs.VerdictText.{line_of}
use Rattle.flow_score.proofs.verdict.put_states.Given as goal

abbrev pub invariant-loop-link : goal.invariant-loop-link
invariant-loop-link l = l.text ≡ l.fn.text ++ flat_map (line_of l.shaped l.states) (range_with_len 0 l.link)
