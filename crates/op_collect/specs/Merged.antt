-- The merge of lists as one list: the least first item again and again, a tie to the smaller place.
use Rattle.std.specs.Prelude.{◌≡◌, ℕ, zero, suc, cond, Option, Some, None, List, [], ◌∷◌, length, set}
use Rattle.std.specs.declared.cmp.Ordering.{Ordering}
use Rattle.std.specs.Ordering.{is_lt}
use Rattle.streams.specs.Lists.{Merges}
use Rattle.ds_schema.specs.declared.key.Key.{Key}
use Rattle.ds_schema.specs.Rows.{row_cmp}
use Rattle.op_base.specs.Columns.{Row}
use Rattle.op_base.specs.Lists.{joined}

-- a list that isn't empty: its place, its first item and the others
abbrev pub Begun : Type 0 → Type 0
Begun X = ℕ × X × List X

abbrev pub moved : {X : Type 0} → Option (Begun X) → Option (Begun X)
moved None = None
moved (Some f) = Some (suc f.0, f.1, f.2)

-- a list before the one that begins least of those behind it
abbrev pub lesser : {X : Type 0} → (X → X → Ordering) → X → List X → Option (Begun X) → Option (Begun X)
lesser cmp x rest None = Some (0, x, rest)
lesser cmp x rest (Some f) = cond (is_lt (cmp f.1 x)) (Some (suc f.0, f.1, f.2)) (Some (0, x, rest))

-- the first list that begins least
abbrev pub least : {X : Type 0} → (X → X → Ordering) → List (List X) → Option (Begun X)
least cmp [] = None
least cmp ([] ∷ lists) = moved (least cmp lists)
least cmp ((x ∷ rest) ∷ lists) = lesser cmp x rest (least cmp lists)

abbrev pub taken : {X : Type 0} → (List (List X) → List X) → List (List X) → Option (Begun X) → List X
taken merge lists None = []
taken merge lists (Some f) = f.1 ∷ merge (set lists f.0 f.2)

-- the first n items of the merge
abbrev pub merged_to : {X : Type 0} → (X → X → Ordering) → ℕ → List (List X) → List X
merged_to cmp zero lists = []
merged_to cmp (suc n) lists = taken (merged_to cmp n) lists (least cmp lists)

abbrev pub merged : {X : Type 0} → (X → X → Ordering) → List (List X) → List X
merged cmp lists = merged_to cmp (length (joined lists)) lists

-- lists of rows have one merge by the keys, and it is this one
abbrev pub OneMerge : Type 0
OneMerge = (keys : List Key) (lists : List (List Row)) → Merges (row_cmp keys) lists (merged (row_cmp keys) lists) × ((rows : List Row) → Merges (row_cmp keys) lists rows → rows ≡ merged (row_cmp keys) lists)
