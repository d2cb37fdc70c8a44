-- The flows that are built: which operators, methods and flags a flow may have today.
use Rattle.std.specs.Prelude.{ℕ, Bool, true, false, not, ◌&&◌, List, [], ◌∷◌, get_or}
use Rattle.std.specs.List.{list_all}
use Rattle.flow_graph.specs.Charts.{no_op, is_seq}
use Rattle.flow_graph.specs.declared.flow.Flag.{Flag}
use Rattle.flow_graph.specs.declared.flow.Flag.TheVariants as flag
use Rattle.flow_graph.specs.declared.flow.Flow.{Flow}
use Rattle.flow_graph.specs.declared.flow.LinkSpec.{LinkSpec}
use Rattle.flow_graph.specs.declared.flow.Method.{Method}
use Rattle.flow_graph.specs.declared.flow.Method.TheVariants as method
use Rattle.flow_graph.specs.declared.flow.OpSpec.{OpSpec}
use Rattle.flow_graph.specs.declared.op_kind.OpKind.{OpKind}
use Rattle.flow_graph.specs.declared.op_kind.OpKind.TheVariants as kind

-- import, export, copy, filter, transform, modify, switch, tsort, remdup, group, the joins and lookup
abbrev pub is_built_op : OpKind → Bool
is_built_op (kind.Import file schema delim fixed reject) = true
is_built_op (kind.Export file delim fixed) = true
is_built_op kind.Copy = true
is_built_op (kind.Filter test reject) = true
is_built_op (kind.Transform set reject) = true
is_built_op (kind.Modify keep drop rename) = true
is_built_op (kind.Switch on cases reject) = true
is_built_op (kind.Tsort key) = true
is_built_op (kind.Remdup key last) = true
is_built_op (kind.Group key hash results) = true
is_built_op (kind.InnerJoin key) = true
is_built_op (kind.LeftOuterJoin key) = true
is_built_op (kind.RightOuterJoin key) = true
is_built_op (kind.FullOuterJoin key) = true
is_built_op (kind.Lookup key missing) = true
is_built_op k = false

-- whether there is a key to sort by
abbrev pub has_key : List (List ℕ × Bool) → Bool
has_key [] = false
has_key (k ∷ key) = true

-- whether an operator that is built needs its inputs sorted
abbrev pub needs_sort : OpKind → Bool
needs_sort (kind.Remdup key last) = has_key key
needs_sort (kind.Group key hash results) = not hash && has_key key
needs_sort (kind.InnerJoin key) = has_key key
needs_sort (kind.LeftOuterJoin key) = has_key key
needs_sort (kind.RightOuterJoin key) = has_key key
needs_sort (kind.FullOuterJoin key) = has_key key
needs_sort k = false

abbrev pub is_prop : Flag → Bool
is_prop flag.Set = false
is_prop flag.Clear = false
is_prop flag.Prop = true

-- by whether the producer and the consumer are sequential, and whether the consumer needs a sort; a method may be left out between sequential ends where none is needed
abbrev pub is_built_method : Bool → Bool → Bool → Method → Bool
is_built_method from to sorts method.Auto = from && (to && not sorts)
is_built_method from to sorts method.Same = true
is_built_method from to sorts method.RoundRobin = not to
is_built_method from to sorts method.Entire = true
is_built_method from to sorts (method.Hash names) = true
is_built_method from to sorts method.Any = true
is_built_method from to sorts m = false

abbrev pub op_in : List OpSpec → ℕ → OpSpec
op_in ops o = get_or ops o no_op

abbrev pub is_built_link : List OpSpec → LinkSpec → Bool
is_built_link ops l = is_prop l.flag && is_built_method (is_seq (op_in ops l.from).mark) (is_seq (op_in ops l.to).mark) (needs_sort (op_in ops l.to).kind) l.method

abbrev pub is_built : Flow → Bool
is_built flow = (not flow.nopart && not flow.nosort) && (list_all (λ (o : OpSpec). is_built_op o.kind) flow.ops && list_all (is_built_link flow.ops) flow.links)
