-- Operators with all that decides what they mean, and what they put on their outputs, given whole lists.
use Rattle.std.specs.Prelude.{ℕ, Bool, false, List, [], ◌∷◌, ◌++◌, Option}
use Rattle.std.specs.List.{flat_map}
use Rattle.ds_schema.specs.declared.key.Key.{Key}
use Rattle.ds_schema.specs.Rows.{cols, ways, val, sub}
use Rattle.op_base.specs.declared.fault.Fault.{Fault}
use Rattle.op_base.specs.Columns.{Row}
use Rattle.op_base.specs.Keyed.{by_key, arranged, for_values}
use Rattle.op_base.specs.Lists.{joined}
use Rattle.op_base.specs.Meanings.{Line, Segment, Grouping, Join, Merging, Looking, Capture, input, line_rows, line_faults, one_row, group_rows, group_faults, join_rule, merge_rule, looked_row, looked_fault, change_rule, columns_of, ways_of}
use Rattle.op_base.specs.RowOperators.{RowRule}
use Rattle.ds_place.specs.declared.place.Place.{Place}

-- import has its lines, whether it has -reject, and faults of no line, as of a file that is too long;
-- dsread has its segments and the declared place; remdup whether it has -last
pub data Op : Type 0 where
  import : List Line → Bool → List Fault → Op
  dsread : List Segment → Option Place → Op
  by_row : RowRule → Op
  tsort : List Key → Op
  remdup : Bool → List Key → Op
  group : Grouping → Op
  join : Join → Op
  merge : Merging → Op
  lookup : Looking → Op
  changecapture : Capture → Op
  funnel : Op
  funnel_sequence : Op
  funnel_sort : List Key → Op

-- the rows on output q
abbrev pub result : Op → ℕ → List (List Row) → List Row
result (import lines rejects beyond) q inputs = flat_map (line_rows q rejects) lines
result (dsread segments declared) q inputs = flat_map (λ (s : Segment). s.rows) segments
result (by_row rule) q inputs = flat_map (rule.rows q) (input 0 inputs)
result (tsort keys) q inputs = arranged keys (input 0 inputs)
result (remdup last keys) q inputs = by_key keys (one_row last) (input 0 inputs)
result (group g) q inputs = for_values g.hashes (ways g.keys) (cols g.keys ∷ []) (λ v same. group_rows g v (input 0 same)) inputs
result (join j) q inputs = for_values false (ways j.left_keys) (cols j.left_keys ∷ (cols j.right_keys ∷ [])) (join_rule j) inputs
result (merge m) q inputs = for_values false (ways_of m.keys) (columns_of m.keys) (merge_rule m q) inputs
result (lookup k) q inputs = flat_map (λ a. looked_row k q a (sub (cols k.reference_keys) (val (cols k.main_keys) a) (input 1 inputs))) (input 0 inputs)
result (changecapture c) q inputs = for_values false (ways c.keys) (cols c.keys ∷ (cols c.keys ∷ [])) (change_rule c) inputs
result funnel q inputs = joined inputs
result funnel_sequence q inputs = joined inputs
result (funnel_sort keys) q inputs = arranged keys (joined inputs)

abbrev pub faults : Op → List (List Row) → List Fault
faults (import lines rejects beyond) inputs = flat_map (line_faults rejects) lines ++ beyond
faults (dsread segments declared) inputs = flat_map (λ (s : Segment). s.faults) segments
faults (by_row rule) inputs = flat_map rule.faults (input 0 inputs)
faults (tsort keys) inputs = []
faults (remdup last keys) inputs = []
faults (group g) inputs = for_values g.hashes (ways g.keys) (cols g.keys ∷ []) (λ v same. group_faults g v (input 0 same)) inputs
faults (join j) inputs = []
faults (merge m) inputs = []
faults (lookup k) inputs = flat_map (λ a. looked_fault k a (sub (cols k.reference_keys) (val (cols k.main_keys) a) (input 1 inputs))) (input 0 inputs)
faults (changecapture c) inputs = []
faults funnel inputs = []
faults funnel_sequence inputs = []
faults (funnel_sort keys) inputs = []
