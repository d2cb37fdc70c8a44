-- Words for worked texts.
use Rattle.std.specs.Prelude.{ℕ, List, [], Result, Ok, Err}
use Rattle.flow_graph.specs.declared.flow.Flow.{Flow}
use Rattle.flow_graph.specs.declared.flow.LinkSpec.{LinkSpec}
use Rattle.flow_graph.specs.declared.flow.Method.{Method}
use Rattle.flow_graph.specs.declared.flow.Flag.{Flag}
use Rattle.osh_read.specs.declared.fault.OshWhy.{OshWhy}
use Rattle.osh_read.specs.Flows.{Fault}

abbrev pub bad : ℕ → OshWhy → Result Flow Fault
bad at why = Err (record { at = at; why = why })

abbrev pub link : ℕ → ℕ → ℕ → ℕ → Method → Flag → LinkSpec
link from out to port method flag = record { from = from; out = out; to = to; port = port; method = method; flag = flag }

abbrev pub links_read : Result Flow Fault → List LinkSpec
links_read (Ok flow) = flow.links
links_read (Err fault) = []
