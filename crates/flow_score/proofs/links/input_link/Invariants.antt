use Rattle.std.proofs.Common.{◌≡◌, ◌==◌, ◌-◌, filter, get_or, length}
use Rattle.std.specs.List.{range_with_len}
use Rattle.flow_graph.specs.Charts.{no_link}
use Rattle.flow_score.specs.VerdictText.{links_to}
use Rattle.flow_score.proofs.links.input_link.Given as goal

abbrev pub invariant-loop-link : goal.invariant-loop-link
invariant-loop-link l = links_to l.links l.op ≡ filter (λ k. (get_or l.links k no_link).to == l.op) (range_with_len l.link (length l.links - l.link))
