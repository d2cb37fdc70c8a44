-- Operators as the code sees them: an outline, with what passes apart.
use Rattle.std.specs.Prelude.{ℕ, List, [], ◌∷◌, length, ◌≡◌, ⊤}
use Rattle.std.specs.List.{AllByRecursion}
use Rattle.op_base.specs.Columns.{Pairs, Passing, everything, only, pairs_of, all_columns}
use Rattle.op_base.specs.RowOperators.{transform_passes}
use Rattle.flow_graph.specs.declared.op_kind.OpKind.{OpKind}
use Rattle.flow_graph.specs.declared.op_kind.OpKind.TheVariants as kind
use Rattle.flow_graph.specs.Charts.{Chart, op_at, cols_at, first_width, main_passes, funnel_form}
use Rattle.flow_graph.specs.Forms.{Form, import, dsread, by_row, tsort, remdup, group, join, merge, lookup, changecapture}
use Rattle.flow_derive.specs.declared.outline.Outline.{Outline}
use Rattle.flow_derive.specs.declared.outline.Outline.TheVariants as outline

-- what an operator by rows, or a lookup, passes to an output
abbrev pub kind_passes : OpKind → List ℕ → ℕ → ℕ → Passing
kind_passes (kind.Export file delim fixed) cols width = λ q. only []
kind_passes (kind.Dswrite ds) cols width = λ q. only []
kind_passes (kind.Transform set reject) cols width = transform_passes width cols
kind_passes (kind.Modify keep drop rename) cols width = λ q. only (pairs_of cols (all_columns (length cols)))
kind_passes (kind.Lookup key missing) cols width = main_passes width
kind_passes k cols width = λ q. everything

abbrev pub passes_at : Chart → ℕ → ℕ → Passing
passes_at c o = kind_passes (op_at c o).kind (cols_at c o) (first_width c o)

-- an outline with what passes is what a checker sees
abbrev pub outline_form : Outline → (ℕ → Passing) → Form
outline_form outline.Import passes = import
outline_form (outline.Dsread partitions declared) passes = dsread partitions declared
outline_form outline.ByRow passes = by_row passes
outline_form (outline.Tsort keys) passes = tsort keys
outline_form (outline.Remdup keys) passes = remdup keys
outline_form (outline.Group keys hashes sees_order) passes = group keys hashes sees_order
outline_form (outline.Join left right) passes = join left right
outline_form (outline.Merge keys) passes = merge keys
outline_form (outline.Lookup main reference) passes = lookup main reference passes
outline_form (outline.Changecapture keys) passes = changecapture keys
outline_form (outline.Funnel sequence keys) passes = funnel_form sequence keys

-- no two columns go to one output column
abbrev pub OutputsDiffer : Pairs → Type 0
OutputsDiffer [] = ⊤
OutputsDiffer (e ∷ m) = AllByRecursion (λ (f : ℕ × ℕ). e.1 ≡ f.1 → ⊥) m × OutputsDiffer m
