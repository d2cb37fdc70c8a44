use Rattle.std.proofs.Common.{◌≡◌, ◌++◌, flat_map}
use Rattle.std.specs.List.{range_with_len}
use Rattle.flow_score.specs.Scores.{link_of}
use Rattle.flow_score.proofs.score.put_links.Given as goal

abbrev pub invariant-loop-link : goal.invariant-loop-link
invariant-loop-link l = l.text ≡ l.fn.text ++ flat_map (link_of l.shaped l.choices) (range_with_len 0 l.link)
