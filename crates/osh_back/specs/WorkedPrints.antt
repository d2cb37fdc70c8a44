-- Words for worked prints.
use Rattle.std.specs.Prelude.{ℕ, List, Result, Ok, Err, Option, Some, None}
use Rattle.flow_graph.specs.declared.flow.Flow.{Flow}
use Rattle.osh_print.specs.FlowText.{flow_text}
use Rattle.osh_read.specs.Flows.{Fault, flow_of}

abbrev pub print_of : Result Flow Fault → Option (List ℕ)
print_of (Ok flow) = Some (flow_text flow)
print_of (Err fault) = None

-- the printed text of the flow that is read of a text
abbrev pub printed_again : List ℕ → Option (List ℕ)
printed_again text = print_of (flow_of text)
