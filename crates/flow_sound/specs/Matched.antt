-- Merges, changes and funnels whose inputs are as they must be: the widths of what they make, and that it fits where their rows fit.
use Rattle.std.specs.Prelude.{◌≡◌, ◌<◌, ℕ, Bool, List, [], ◌∷◌, length, map, ⊤, None}
use Rattle.ds_schema.specs.declared.key.Key.{Key}
use Rattle.ds_schema.specs.declared.schema.Field.{Field}
use Rattle.op_base.specs.Columns.{Row}
use Rattle.op_match.specs.Captures.{capturing}
use Rattle.op_match.specs.Merges.{merging}
use Rattle.flow_graph.specs.Operators.{Op, changecapture, merge, result}
use Rattle.flow_graph.specs.Runs.{result_on}
use Rattle.flow_graph.specs.Shapes.{IsShaped}
use Rattle.flow_ops.specs.Kinds.{funnelled_by}
use Rattle.shape_base.specs.Fields.{first_fields}
use Rattle.shape_base.specs.Naming.{key_columns}
use Rattle.keyed_shape.specs.Matched.{capture_fields, inputs_cause, inputs_keys, merge_output, schemas_cause, value_columns}
use Rattle.flow_sound.specs.Fitting.{RowsFit}

-- the rows of each input fit its fields
abbrev pub EachInputFits : List (List Field) → List (List Row) → Type 0
EachInputFits [] [] = ⊤
EachInputFits (fields ∷ ins) (rows ∷ inputs) = RowsFit fields rows × EachInputFits ins inputs
EachInputFits ins inputs = ⊥

-- of such rows it makes on output q rows that fit these fields, on whole lists and on those of a partition
abbrev pub MakesRows : List (List Field) → (ℕ → List Field) → Op → Type 0
MakesRows ins made op = (q p : ℕ) (inputs : List (List Row)) → EachInputFits ins inputs → RowsFit (made q) (result op q inputs) × RowsFit (made q) (result_on op q p inputs)

-- it has the shape that the law of flows asks, with these widths of its first outputs
abbrev pub HasShape : List (List Field) → (ℕ → List Field) → ℕ → Op → Type 0
HasShape ins made many op = (outs : ℕ → ℕ) × IsShaped op (map length ins) outs × ((q : ℕ) → q < many → length (made q) ≡ outs q)

-- a merge of inputs that have its keys; it has an output for each input
abbrev pub MergesFit : Type 0
MergesFit = (key : List (List ℕ × Bool)) (keeps_bad rejects : Bool) (ins : List (List Field)) → inputs_cause key ins ≡ None →
    let op = merge (merging (inputs_keys key ins) (map length ins) keeps_bad rejects) in
    HasShape ins (merge_output key keeps_bad ins) (length ins) op × MakesRows ins (merge_output key keeps_bad ins) op

-- a capture of changes between two inputs of equal schemas that have its keys
abbrev pub ChangesFit : Type 0
ChangesFit = (key : List (List ℕ × Bool)) (values : List (List ℕ)) (keeps_copy : Bool) (before after : List Field) → inputs_cause key (before ∷ (after ∷ [])) ≡ None → schemas_cause (before ∷ (after ∷ [])) ≡ None →
    let op = changecapture (capturing (key_columns before key) (value_columns key values before) keeps_copy (length before)) in
    HasShape (before ∷ (after ∷ [])) (λ q. capture_fields before) 1 op × MakesRows (before ∷ (after ∷ [])) (λ q. capture_fields before) op

-- a funnel of inputs of equal schemas
abbrev pub FunnelsFit : Type 0
FunnelsFit = (sequence : Bool) (keys : List Key) (ins : List (List Field)) → schemas_cause ins ≡ None →
    HasShape ins (λ q. first_fields ins) 1 (funnelled_by sequence keys) × MakesRows ins (λ q. first_fields ins) (funnelled_by sequence keys)
