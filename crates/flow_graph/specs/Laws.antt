-- Laws of what operators mean: rows keep their widths, an inserted sort isn't seen, and the rules of the operators by rows have their shapes.
use Rattle.std.specs.Prelude.{◌≡◌, ◌≤◌, ⊤, ℕ, suc, Bool, cond, ◌==◌, ◌⊎◌, List, [], ◌∷◌, length, Some}
use Rattle.std.specs.List.{AllByRecursion}
use Rattle.ds_schema.specs.declared.key.Key.{Key}
use Rattle.op_base.specs.declared.fault.Fault.{Fault}
use Rattle.op_base.specs.Columns.{Row}
use Rattle.op_base.specs.Keyed.{arranged}
use Rattle.op_base.specs.RowOperators.{Judged, Case, Computed, copy_rule, filter_rule, switch_rule, modify_rule, transform_rule, sink_rule}
use Rattle.flow_graph.specs.Forms.{form, sort_key}
use Rattle.flow_graph.specs.Operators.{Op, result, faults}
use Rattle.flow_graph.specs.Shapes.{IsShaped, Wide, AllWide, RowShape}

-- on rows that have the widths of its inputs, a shaped operator gives rows of the widths of its outputs
abbrev pub WidthsKept : Type 0
WidthsKept = (op : Op) (ins : List ℕ) (outs : ℕ → ℕ) (q : ℕ) (inputs : List (List Row)) → IsShaped op ins outs → AllWide ins inputs → AllByRecursion (Wide (outs q)) (result op q inputs)

-- from input i on, each list is as it was, or sorted as that input needs
abbrev pub SortedAsNeeded : Op → ℕ → List (List Row) → List (List Row) → Type 0
SortedAsNeeded op i [] [] = ⊤
SortedAsNeeded op i (xs ∷ inputs) (ys ∷ others) = ((ys ≡ xs) ⊎ ((K : List Key) × (sort_key (form op) i ≡ Some K) × (ys ≡ arranged K xs))) × SortedAsNeeded op (suc i) inputs others
SortedAsNeeded op i inputs others = ⊥

abbrev pub SortsUnseen : Type 0
SortsUnseen = (op : Op) (q : ℕ) (inputs others : List (List Row)) → SortedAsNeeded op 0 inputs others → result op q others ≡ result op q inputs

abbrev pub FaultsUnsorted : Type 0
FaultsUnsorted = (op : Op) (inputs others : List (List Row)) → SortedAsNeeded op 0 inputs others → faults op others ≡ faults op inputs

abbrev pub CopyShape : Type 0
CopyShape = (w : ℕ) → RowShape copy_rule w (λ q. w)

abbrev pub FilterShape : Type 0
FilterShape = (w : ℕ) (test : Row → Judged) (rejects : Bool) → RowShape (filter_rule test rejects) w (λ q. w)

abbrev pub SwitchShape : Type 0
SwitchShape = (w cases : ℕ) (on : Row → Case) (rejects : Bool) → RowShape (switch_rule cases on rejects) w (λ q. w)

abbrev pub ModifyShape : Type 0
ModifyShape = (w : ℕ) (kept : List ℕ) → RowShape (modify_rule kept) w (λ q. length kept)

abbrev pub TransformShape : Type 0
TransformShape = (w columns : ℕ) (targets : List ℕ) (compute : Row → Computed) (rejects : Bool) → w ≤ columns → RowShape (transform_rule w columns targets compute rejects) w (λ q. cond (q == 0) columns w)

abbrev pub SinkShape : Type 0
SinkShape = (w : ℕ) (unwritable : Row → List Fault) (outs : ℕ → ℕ) → RowShape (sink_rule unwritable) w outs
