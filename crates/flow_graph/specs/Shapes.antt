-- What the shape of an operator promises of its rules and of the widths of its inputs and outputs.
use Rattle.std.specs.Prelude.{◌≡◌, ℕ, suc, ◌+◌, ◌<◌, ◌≤◌, Bool, false, List, [], ◌∷◌, map, length, ⊤, Option, Some, None, get_or}
use Rattle.std.specs.List.{AllByRecursion, flat_map}
use Rattle.std.specs.List.Sorted.{IsPermutation}
use Rattle.ds_value.specs.declared.value.Value.{Value}
use Rattle.ds_schema.specs.declared.key.Key.{Key}
use Rattle.ds_schema.specs.Rows.{at, cols, ways, KeysDiffer}
use Rattle.op_base.specs.Columns.{Row, Pairs, Passing, everything, only, IsIn, Lies, all_columns}
use Rattle.op_base.specs.Keyed.{get_keys}
use Rattle.op_base.specs.Meanings.{Segment, Grouping, Merging, line_rows}
use Rattle.op_base.specs.RowOperators.{RowRule}
use Rattle.ds_place.specs.declared.place.Place.{Place}
use Rattle.ds_place.specs.declared.place.Place.TheVariants.{Hash, Modulus}
use Rattle.flow_graph.specs.declared.state.Spot.{Spot}
use Rattle.flow_graph.specs.declared.state.Spot.TheVariants as spot
use Rattle.flow_graph.specs.Operators.{Op, import, dsread, by_row, tsort, remdup, group, join, merge, lookup, changecapture, funnel, funnel_sequence, funnel_sort}
use Rattle.flow_graph.specs.Parts.{Placed}

abbrev pub Wide : ℕ → Row → Type 0
Wide width r = length r ≡ width

-- the columns of a place are columns of rows of this width
abbrev pub PlaceFits : ℕ → Place → Type 0
PlaceFits width (Hash C) = Lies C (all_columns width)
PlaceFits width (Modulus c) = IsIn c (all_columns width)

abbrev pub SpotFits : ℕ → Spot → Type 0
SpotFits width spot.Solo = ⊤
SpotFits width (spot.Placed place) = PlaceFits width place
SpotFits width spot.Entire = ⊤
SpotFits width spot.None = ⊤

-- the columns that pass hold the row's values
abbrev pub Carries : Pairs → Row → Row → Type 0
Carries m r y = AllByRecursion (λ (e : ℕ × ℕ). at y (e.1) ≡ at r (e.0)) m

-- a row of an output, against the input's row: what passes is there
abbrev pub Passes : Passing → Row → Row → Type 0
Passes everything r y = y ≡ r
Passes (only m) r y = Carries m r y

abbrev pub PassesInto : Passing → ℕ → ℕ → Type 0
PassesInto everything width out = out ≡ width
PassesInto (only m) width out = AllByRecursion (λ (e : ℕ × ℕ). e.1 < out) m

-- by rows: rows of the input's width give rows of the outputs' widths, at most one on each output, with what passes
pub record RowShape (rule : RowRule) (width : ℕ) (outs : ℕ → ℕ) : Type 0 where
  pub wide : (q : ℕ) (r : Row) → Wide width r → AllByRecursion (Wide (outs q)) (rule.rows q r)
  pub passes : (q : ℕ) (r : Row) → Wide width r → AllByRecursion (Passes (rule.passes q) r) (rule.rows q r)
  pub one : (q : ℕ) (r : Row) → length (rule.rows q r) ≤ 1
  pub inside : (q : ℕ) → PassesInto (rule.passes q) width (outs q)

-- group: without a first or last result its results are the same whatever the order of the rows
pub record GroupShape (g : Grouping) (outs : ℕ → ℕ) : Type 0 where
  pub wide : (q : ℕ) (rows : List Row) (xs : List Value) → g.results rows ≡ Some xs → length g.keys + length xs ≡ outs q
  pub room : (q : ℕ) → length g.keys ≤ outs q
  pub blind : g.sees_order ≡ false → (xs ys : List Row) → IsPermutation xs ys → g.results xs ≡ g.results ys

abbrev pub SameWays : List Bool → List (List Key) → Type 0
SameWays ds keys = AllByRecursion (λ (K : List Key). ways K ≡ ds) keys

abbrev pub AllWidths : List ℕ → ℕ → Type 0
AllWidths ins width = AllByRecursion (λ w. w ≡ width) ins

abbrev pub total_length : List (List ℕ) → ℕ
total_length [] = 0
total_length (cs ∷ lists) = length cs + total_length lists

-- merge: output 0 has the master's columns and each update's others; a reject output is as wide as its update
pub record MergeShape (m : Merging) (ins : List ℕ) (outs : ℕ → ℕ) : Type 0 where
  pub ds : List Bool
  pub ways : SameWays ds m.keys
  pub master : m.master ≡ all_columns (get_or ins 0 0)
  pub keys_in : Lies (cols (get_keys m.keys 0)) m.master
  pub first : outs 0 ≡ length m.master + total_length m.others
  pub other : (i : ℕ) → outs (suc i) ≡ get_or ins (suc i) 0
  pub other_keys : (i : ℕ) → Lies (cols (get_keys m.keys (suc i))) (all_columns (outs (suc i)))

-- the rows of the segments of a data set lie at its declared place
abbrev pub DeclaredAt : Option Place → List (List Row) → Type 0
DeclaredAt None parts = ⊤
DeclaredAt (Some place) parts = Placed place parts

abbrev pub DeclaredFits : ℕ → Option Place → Type 0
DeclaredFits width None = ⊤
DeclaredFits width (Some place) = PlaceFits width place

abbrev pub IsShaped : Op → List ℕ → (ℕ → ℕ) → Type 0
IsShaped (import lines rejects beyond) ins outs = (q : ℕ) → AllByRecursion (Wide (outs q)) (flat_map (line_rows q rejects) lines)
IsShaped (dsread segments declared) ins outs = (0 < length segments) × ((q : ℕ) → AllByRecursion (λ (s : Segment). AllByRecursion (Wide (outs q)) s.rows) segments) × DeclaredAt declared (map (λ (s : Segment). s.rows) segments) × ((q : ℕ) → DeclaredFits (outs q) declared)
IsShaped (by_row rule) ins outs = RowShape rule (get_or ins 0 0) outs
IsShaped (tsort keys) ins outs = (q : ℕ) → outs q ≡ get_or ins 0 0
IsShaped (remdup last keys) ins outs = (q : ℕ) → outs q ≡ get_or ins 0 0
IsShaped (group g) ins outs = GroupShape g outs
IsShaped (join j) ins outs = (ways j.right_keys ≡ ways j.left_keys) × ((q : ℕ) → outs q ≡ length j.left_keys + (length j.left_others + length j.right_others))
IsShaped (merge m) ins outs = MergeShape m ins outs
IsShaped (lookup k) ins outs = (k.main ≡ all_columns (get_or ins 0 0)) × (outs 0 ≡ length k.main + length k.others) × ((q : ℕ) → outs (suc q) ≡ get_or ins 0 0)
IsShaped (changecapture c) ins outs = (c.columns ≡ all_columns (get_or ins 0 0)) × Lies (cols c.keys) c.columns × ((q : ℕ) → outs q ≡ length c.columns + 1)
IsShaped funnel ins outs = (q : ℕ) → AllWidths ins (outs q)
IsShaped funnel_sequence ins outs = (q : ℕ) → AllWidths ins (outs q)
IsShaped (funnel_sort keys) ins outs = (q : ℕ) → AllWidths ins (outs q)

-- merge has an output for each of its inputs
abbrev pub HasPort : Op → ℕ → Type 0
HasPort (merge m) q = q < length m.keys
HasPort op q = ⊤

-- the number of inputs
abbrev pub FitsPorts : Op → ℕ → Type 0
FitsPorts (import lines rejects beyond) n = n ≡ 0
FitsPorts (dsread segments declared) n = n ≡ 0
FitsPorts (by_row rule) n = n ≡ 1
FitsPorts (tsort keys) n = n ≡ 1
FitsPorts (remdup last keys) n = n ≡ 1
FitsPorts (group g) n = n ≡ 1
FitsPorts (join j) n = n ≡ 2
FitsPorts (merge m) n = (0 < n) × (length m.keys ≡ n)
FitsPorts (lookup k) n = n ≡ 2
FitsPorts (changecapture c) n = n ≡ 2
FitsPorts funnel n = 0 < n
FitsPorts funnel_sequence n = 0 < n
FitsPorts (funnel_sort keys) n = 0 < n

-- no key list of an operator with several inputs names a column twice
abbrev pub KeysDistinct : Op → Type 0
KeysDistinct (join j) = KeysDiffer j.left_keys × KeysDiffer j.right_keys
KeysDistinct (merge m) = AllByRecursion KeysDiffer m.keys
KeysDistinct (lookup k) = KeysDiffer k.main_keys × KeysDiffer k.reference_keys
KeysDistinct (changecapture c) = KeysDiffer c.keys
KeysDistinct op = ⊤

-- the rows of each input have its width
abbrev pub AllWide : List ℕ → List (List Row) → Type 0
AllWide [] [] = ⊤
AllWide (w ∷ ins) (rows ∷ inputs) = AllByRecursion (Wide w) rows × AllWide ins inputs
AllWide ins inputs = ⊥
