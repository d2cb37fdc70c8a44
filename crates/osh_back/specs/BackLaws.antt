-- What is printed of a flow is read back as it.
use Rattle.std.specs.Prelude.{◌≡◌, ◌≤◌, ℕ, List, length, Ok}
use Rattle.flow_graph.specs.declared.flow.Flow.{Flow}
use Rattle.osh_read.specs.Flows.{flow_of}
use Rattle.osh_print.specs.FlowText.{flow_text}
use Rattle.osh_back.specs.Spelled.{CanBeSpelled}

-- where the printed text isn't longer than what is read of a text
abbrev pub PrintedReadsBack : Type 0
PrintedReadsBack = (flow : Flow) → CanBeSpelled flow → length (flow_text flow) ≤ 1_048_576 → flow_of (flow_text flow) ≡ Ok flow

-- what is read can be spelled
abbrev pub ReadCanBeSpelled : Type 0
ReadCanBeSpelled = (bytes : List ℕ) (flow : Flow) → flow_of bytes ≡ Ok flow → CanBeSpelled flow
