-- The links of a flow: pipes, and virtual data sets, each written once and read once.
use Rattle.std.specs.Prelude.{◌≡◌, ℕ, ◌+◌, ◌-◌, List, [], ◌∷◌, ◌++◌, length, map, flat_map, filter, Result, Ok, Err, Option, Some, None, Bool, true, false, ◌&&◌, ◌==◌, if◌then◌else◌}
use Rattle.std.specs.Str.{bytes_eq}
use Rattle.flow_graph.specs.declared.flow.LinkSpec.{LinkSpec}
use Rattle.flow_graph.specs.declared.flow.OpSpec.{OpSpec}
use Rattle.osh_read.specs.declared.stage.Redirect.{Redirect}
use Rattle.osh_read.specs.declared.stage.Redirect.TheVariants as redirect
use Rattle.osh_read.specs.declared.stage.Joint.{Joint}
use Rattle.osh_read.specs.declared.stage.Joint.TheVariants as joint
use Rattle.osh_read.specs.declared.stage.Stage.{Stage}
use Rattle.osh_read.specs.declared.links.Output.{Output}

-- ---- written once and read once

abbrev pub name_of : Redirect → List ℕ
name_of (redirect.In at name m f) = name
name_of (redirect.Out at name) = name

abbrev pub place_of : Redirect → ℕ
place_of (redirect.In at name m f) = at
place_of (redirect.Out at name) = at

abbrev pub writes : List ℕ → Redirect → Bool
writes name (redirect.In at other m f) = false
writes name (redirect.Out at other) = bytes_eq other name

abbrev pub reads : List ℕ → Redirect → Bool
reads name (redirect.In at other m f) = bytes_eq other name
reads name (redirect.Out at other) = false

unfoldable pub is_joined : List Redirect → List ℕ → Bool
is_joined all name = (length (filter (writes name) all) == 1) && (length (filter (reads name) all) == 1)

-- the place of the first of the rest whose name isn't written once and read once
abbrev pub unjoined_in : List Redirect → List Redirect → Option ℕ
unjoined_in all [] = None
unjoined_in all (r ∷ rs) = if is_joined all (name_of r) then unjoined_in all rs else Some (place_of r)

abbrev pub all_redirects : List Stage → List Redirect
all_redirects stages = flat_map (λ (s : Stage). s.redirects) stages

abbrev pub unjoined : List Stage → Option ℕ
unjoined stages = unjoined_in (all_redirects stages) (all_redirects stages)

-- ---- ports

-- how many input ports the pipe before a stage takes, which is as many as it takes output ports of the stage before
abbrev pub pipe_ports : Joint → ℕ
pipe_ports joint.Apart = 0
pipe_ports (joint.Piped m f) = 1

-- the first output port for redirects, where these stages follow
abbrev pub ports_before : List Stage → ℕ
ports_before [] = 0
ports_before (s ∷ ss) = pipe_ports s.joined

-- the output to a data set
abbrev pub output_of : ℕ → ℕ → Redirect → List Output
output_of from out (redirect.In at name m f) = []
output_of from out (redirect.Out at name) = record { name = name; from = from; out = out } ∷ []

abbrev pub next_output : ℕ → Redirect → ℕ
next_output out (redirect.In at name m f) = out
next_output out (redirect.Out at name) = out + 1

-- the outputs to data sets, from this port on
abbrev pub outputs_of : ℕ → ℕ → List Redirect → List Output
outputs_of from out [] = []
outputs_of from out (r ∷ rs) = output_of from out r ++ outputs_of from (next_output out r) rs

-- the pipe is the first output of a stage
abbrev pub outputs : ℕ → List Stage → List Output
outputs from [] = []
outputs from (s ∷ ss) = outputs_of from (ports_before ss) s.redirects ++ outputs (from + 1) ss

-- where a data set is written
abbrev pub source : List Output → List ℕ → Option Output
source [] name = None
source (o ∷ os) name = if bytes_eq o.name name then Some o else source os name

-- ---- links

abbrev pub link_from : Option Output → ℕ → ℕ → Redirect → List LinkSpec
link_from (Some o) to port (redirect.In at name m f) = record { from = o.from; out = o.out; to = to; port = port; method = m; flag = f } ∷ []
link_from (Some o) to port (redirect.Out at name) = []
link_from None to port r = []

-- the link of an input from a data set
abbrev pub link_of : List Output → ℕ → ℕ → Redirect → List LinkSpec
link_of outs to port r = link_from (source outs (name_of r)) to port r

abbrev pub next_input : ℕ → Redirect → ℕ
next_input port (redirect.In at name m f) = port + 1
next_input port (redirect.Out at name) = port

-- the links of the inputs from data sets, from this port on
abbrev pub links_of : List Output → ℕ → ℕ → List Redirect → List LinkSpec
links_of outs to port [] = []
links_of outs to port (r ∷ rs) = link_of outs to port r ++ links_of outs to (next_input port r) rs

-- the pipe before a stage
abbrev pub pipe_link : ℕ → Joint → List LinkSpec
pipe_link to joint.Apart = []
pipe_link to (joint.Piped m f) = record { from = to - 1; out = 0; to = to; port = 0; method = m; flag = f } ∷ []

-- by consumer, then by input port, of which the pipe is the first
abbrev pub links_from : List Output → ℕ → List Stage → List LinkSpec
links_from outs to [] = []
links_from outs to (s ∷ ss) = pipe_link to s.joined ++ (links_of outs to (pipe_ports s.joined) s.redirects ++ links_from outs (to + 1) ss)

abbrev pub links : List Stage → List LinkSpec
links stages = links_from (outputs 0 stages) 0 stages

abbrev pub op_of : Stage → OpSpec
op_of s = record { kind = s.kind; mark = s.mark }

abbrev pub ops : List Stage → List OpSpec
ops stages = map op_of stages
