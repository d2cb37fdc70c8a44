-- How many inputs and outputs an operator may have, and has.
use Rattle.std.specs.Prelude.{ℕ, ◌≡◌, ◌==◌, ◌+◌, Bool, true, false, ◌&&◌, nat_le, if◌then◌else◌, List, length, get_or, count_by}
use Rattle.op_base.specs.declared.missing.Missing.{Missing}
use Rattle.op_base.specs.declared.missing.Missing.TheVariants as missing
use Rattle.flow_graph.specs.Charts.{no_op}
use Rattle.flow_graph.specs.declared.flow.Flow.{Flow}
use Rattle.flow_graph.specs.declared.flow.LinkSpec.{LinkSpec}
use Rattle.flow_graph.specs.declared.op_kind.OpKind.{OpKind}
use Rattle.flow_graph.specs.declared.op_kind.OpKind.TheVariants as kind

abbrev pub count_in : List LinkSpec → ℕ → ℕ
count_in links o = count_by (λ (l : LinkSpec). l.to == o) links

abbrev pub count_out : List LinkSpec → ℕ → ℕ
count_out links o = count_by (λ (l : LinkSpec). l.from == o) links

-- from low to 16
abbrev pub up_to_16 : ℕ → ℕ → Bool
up_to_16 low n = nat_le low n && nat_le n 16

abbrev pub may_have_in : OpKind → ℕ → Bool
may_have_in (kind.Import file schema delim fixed reject) n = n == 0
may_have_in (kind.Export file delim fixed) n = n == 1
may_have_in (kind.Dsread ds) n = n == 0
may_have_in (kind.Dswrite ds) n = n == 1
may_have_in kind.Copy n = n == 1
may_have_in (kind.Filter test reject) n = n == 1
may_have_in (kind.Transform set reject) n = n == 1
may_have_in (kind.Modify keep drop rename) n = n == 1
may_have_in (kind.Switch on cases reject) n = n == 1
may_have_in (kind.Tsort key) n = n == 1
may_have_in (kind.Remdup key last) n = n == 1
may_have_in (kind.Group key hash results) n = n == 1
may_have_in (kind.InnerJoin key) n = n == 2
may_have_in (kind.LeftOuterJoin key) n = n == 2
may_have_in (kind.RightOuterJoin key) n = n == 2
may_have_in (kind.FullOuterJoin key) n = n == 2
may_have_in (kind.Merge key keepbad reject) n = up_to_16 2 n
may_have_in (kind.Lookup key missing) n = n == 2
may_have_in (kind.Changecapture key values keepcopy) n = n == 2
may_have_in (kind.Funnel sequence sort) n = up_to_16 2 n

abbrev pub rejects : Missing → Bool
rejects missing.Reject = true
rejects m = false

-- one more where there is a reject output
abbrev pub with_reject : Bool → ℕ → ℕ
with_reject reject n = if reject then n + 1 else n

-- merge has a reject output for each input but the first, switch an output for each case
abbrev pub may_have_out : OpKind → ℕ → ℕ → Bool
may_have_out (kind.Import file schema delim fixed reject) ins n = n == with_reject reject 1
may_have_out (kind.Export file delim fixed) ins n = n == 0
may_have_out (kind.Dsread ds) ins n = n == 1
may_have_out (kind.Dswrite ds) ins n = n == 0
may_have_out kind.Copy ins n = up_to_16 1 n
may_have_out (kind.Filter test reject) ins n = n == with_reject reject 1
may_have_out (kind.Transform set reject) ins n = n == with_reject reject 1
may_have_out (kind.Modify keep drop rename) ins n = n == 1
may_have_out (kind.Switch on cases reject) ins n = (n == with_reject reject (length cases)) && nat_le n 16
may_have_out (kind.Tsort key) ins n = n == 1
may_have_out (kind.Remdup key last) ins n = n == 1
may_have_out (kind.Group key hash results) ins n = n == 1
may_have_out (kind.InnerJoin key) ins n = n == 1
may_have_out (kind.LeftOuterJoin key) ins n = n == 1
may_have_out (kind.RightOuterJoin key) ins n = n == 1
may_have_out (kind.FullOuterJoin key) ins n = n == 1
may_have_out (kind.Merge key keepbad reject) ins n = n == (if reject then ins else 1)
may_have_out (kind.Lookup key missing) ins n = n == with_reject (rejects missing) 1
may_have_out (kind.Changecapture key values keepcopy) ins n = n == 1
may_have_out (kind.Funnel sequence sort) ins n = n == 1

abbrev pub ports_fit : OpKind → ℕ → ℕ → Bool
ports_fit k ins outs = may_have_in k ins && may_have_out k ins outs

-- an operator with a wrong number of inputs or outputs
abbrev pub WrongPorts : Flow → ℕ → Type 0
WrongPorts flow o = ports_fit (get_or flow.ops o no_op).kind (count_in flow.links o) (count_out flow.links o) ≡ false
