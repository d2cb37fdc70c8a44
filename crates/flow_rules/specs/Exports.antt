-- Exports, and the link into an operator of one input.
use Rattle.std.specs.Prelude.{ℕ, get_or, ⊤}
use Rattle.flow_graph.specs.Charts.{Chart, links_into}
use Rattle.flow_graph.specs.declared.op_kind.OpKind.{OpKind}
use Rattle.flow_graph.specs.declared.op_kind.OpKind.TheVariants as kind

abbrev pub IsExport : OpKind → Type 0
IsExport (kind.Export file delim fixed) = ⊤
IsExport k = ⊥

-- the link into an operator of one input
abbrev pub input_of : Chart → ℕ → ℕ
input_of c o = get_or (links_into c o) 0 0
