-- Which operator one between imports and exports is, by its kind, what its names stand for and the widths of its inputs.
use Rattle.std.specs.Prelude.{◌≡◌, ℕ, Bool, true, false, List, [], ◌∷◌, map, get_or}
use Rattle.ds_schema.specs.declared.key.Key.{Key}
use Rattle.op_base.specs.declared.missing.Missing.{Missing}
use Rattle.op_base.specs.Keyed.{get_keys}
use Rattle.op_base.specs.RowOperators.{copy_rule}
use Rattle.op_join.specs.declared.kind.JoinKind.{JoinKind}
use Rattle.op_join.specs.declared.kind.JoinKind.TheVariants.{Inner, Left, Right, Full}
use Rattle.flow_graph.specs.declared.op_kind.OpKind.{OpKind}
use Rattle.flow_graph.specs.declared.op_kind.OpKind.TheVariants as kind
use Rattle.flow_graph.specs.declared.parts.OpParts.{OpParts}
use Rattle.flow_graph.specs.Charts.{Chart, links_into, width_at}
use Rattle.flow_graph.specs.Operators.{Op, by_row, tsort, remdup, group, join, lookup, merge, changecapture, funnel, funnel_sequence, funnel_sort}
use Rattle.flow_graph.specs.RowRules.{row_rule}
use Rattle.flow_ops.specs.Keyed.{capture_of, group_of, join_of, lookup_of, merge_of}

-- the widths of an operator's inputs, by port
abbrev pub widths_into : Chart → ℕ → List ℕ
widths_into c o = map (width_at c) (links_into c o)

-- a join and a lookup of inputs of these widths
abbrev pub joined_by : JoinKind → OpParts → List ℕ → Op
joined_by k parts widths = join (join_of k parts (get_or widths 0 0) (get_or widths 1 0))

abbrev pub looked_by : ℕ → Missing → OpParts → List ℕ → Op
looked_by o missing parts widths = lookup (lookup_of o missing parts (get_or widths 0 0) (get_or widths 1 0))

-- a capture of changes between inputs of these widths
abbrev pub captured_by : Bool → OpParts → List ℕ → Op
captured_by keeps_copy parts widths = changecapture (capture_of keeps_copy parts (get_or widths 0 0))

-- a funnel: input by input, or as the rows come, or merged by keys
abbrev pub funnelled_by : (sequence : Bool) → List Key → Op
funnelled_by true keys = funnel_sequence
funnelled_by false [] = funnel
funnelled_by false (k ∷ keys) = funnel_sort (k ∷ keys)

-- the operator with the number o, where it neither reads nor writes
abbrev pub op_by : ℕ → OpKind → OpParts → List ℕ → Op
op_by o (kind.Filter test reject) parts widths = by_row (row_rule o (kind.Filter test reject) parts)
op_by o (kind.Transform set reject) parts widths = by_row (row_rule o (kind.Transform set reject) parts)
op_by o (kind.Modify keep drop rename) parts widths = by_row (row_rule o (kind.Modify keep drop rename) parts)
op_by o (kind.Switch on cases reject) parts widths = by_row (row_rule o (kind.Switch on cases reject) parts)
op_by o (kind.Tsort key) parts widths = tsort (get_keys parts.keys 0)
op_by o (kind.Remdup key last) parts widths = remdup last (get_keys parts.keys 0)
op_by o (kind.Group key hash results) parts widths = group (group_of o hash results parts)
op_by o (kind.InnerJoin key) parts widths = joined_by Inner parts widths
op_by o (kind.LeftOuterJoin key) parts widths = joined_by Left parts widths
op_by o (kind.RightOuterJoin key) parts widths = joined_by Right parts widths
op_by o (kind.FullOuterJoin key) parts widths = joined_by Full parts widths
op_by o (kind.Merge key keepbad reject) parts widths = merge (merge_of keepbad reject parts widths)
op_by o (kind.Lookup key missing) parts widths = looked_by o missing parts widths
op_by o (kind.Changecapture key values keepcopy) parts widths = captured_by keepcopy parts widths
op_by o (kind.Funnel sequence sort) parts widths = funnelled_by sequence (get_keys parts.keys 0)
op_by o k parts widths = by_row copy_rule

-- it is that operator, and of a kind that flows are run with
abbrev pub IsBetween : ℕ → OpKind → OpParts → List ℕ → Op → Type 0
IsBetween o (kind.Import file schema delim fixed reject) parts widths op = ⊥
IsBetween o (kind.Export file delim fixed) parts widths op = ⊥
IsBetween o (kind.Dsread ds) parts widths op = ⊥
IsBetween o (kind.Dswrite ds) parts widths op = ⊥
IsBetween o (kind.Merge key keepbad reject) parts widths op = ⊥
IsBetween o (kind.Changecapture key values keepcopy) parts widths op = ⊥
IsBetween o (kind.Funnel sequence sort) parts widths op = ⊥
IsBetween o k parts widths op = op ≡ op_by o k parts widths
