-- Operators that emit rows for some outputs, and faults, over the lists of one partition.
use Rattle.std.specs.Prelude.{◌≡◌, ℕ, ◌+◌, ◌-◌, ◌<◌, ◌≤◌, ◌==◌, min, true, if◌then◌else◌, List, [], ◌∷◌, ◌++◌, map, get_or, length, All, ⊤}
use Rattle.std.specs.List.{AllByRecursion, list_all}
use Rattle.streams.specs.Streams.{Out, on, faults_out}
use Rattle.ds_schema.specs.declared.key.Key.{Key}
use Rattle.ds_schema.specs.Rows.{cols, ways}
use Rattle.ds_schema.specs.Schemas.{row_fits}
use Rattle.expr_table.specs.declared.entry.Shape.TheVariants as shape
use Rattle.op_base.specs.declared.fault.Fault.{Fault}
use Rattle.op_base.specs.declared.emit.Emit.{Emit}
use Rattle.op_base.specs.declared.emit.Sent.{Sent}
use Rattle.op_base.specs.Columns.{Row}
use Rattle.op_base.specs.Keyed.{get_keys}
use Rattle.op_base.specs.Meanings.{input}
use Rattle.op_base.specs.RowOperators.{RowRule}
use Rattle.op_base.specs.WholeLists.{HasEmitted}
use Rattle.op_group.specs.declared.agg.Agg.{Agg}
use Rattle.op_group.specs.Groups.{row_suits, sums_alike}
use Rattle.op_join.specs.Joining.{AreBelow}
use Rattle.op_join.specs.Joining.{row_suits as join_suits}
use Rattle.op_lookup.specs.Looked.{suits_main, suits_reference}
use Rattle.op_row.specs.ByRow.{has_columns}
use Rattle.op_row.specs.Expressed.{AreDistinct, AreSets, IsWhole, input_fields}
use Rattle.op_row.specs.Laws.{Means}
use Rattle.flow_graph.specs.declared.op_kind.OpKind.{OpKind}
use Rattle.flow_graph.specs.declared.op_kind.OpKind.TheVariants as kind
use Rattle.flow_graph.specs.declared.parts.OpParts.{OpParts}
use Rattle.flow_graph.specs.RowRules.{at_op, first_expr, sets_of}
use Rattle.flow_graph.specs.Runs.{slice}
use Rattle.flow_ops.specs.Keyed.{aggs_of}
use Rattle.list_run.specs.Found.{AreUnnumbered, found_of}
use Rattle.list_run.specs.Made.{made_by, made_of}

-- what was emitted for these rows is what a rule means, on this many outputs
pub record Works (rule : RowRule) (outs : ℕ) (rows : List Row) (emit : Emit) : Type 0 where
  pub given : List (Out Row Fault)
  pub emitted : HasEmitted emit given
  pub means : Means rule outs rows given

-- filter, transform, modify and switch
abbrev pub WorksByRow : OpKind → Type 0
WorksByRow (kind.Filter test reject) = ⊤
WorksByRow (kind.Transform set reject) = ⊤
WorksByRow (kind.Modify keep drop rename) = ⊤
WorksByRow (kind.Switch on cases reject) = ⊤
WorksByRow k = ⊥

-- those, group, the joins and lookup
abbrev pub IsWorked : OpKind → Type 0
IsWorked (kind.Filter test reject) = ⊤
IsWorked (kind.Transform set reject) = ⊤
IsWorked (kind.Modify keep drop rename) = ⊤
IsWorked (kind.Switch on cases reject) = ⊤
IsWorked (kind.Group key hash results) = ⊤
IsWorked (kind.InnerJoin key) = ⊤
IsWorked (kind.LeftOuterJoin key) = ⊤
IsWorked (kind.RightOuterJoin key) = ⊤
IsWorked (kind.FullOuterJoin key) = ⊤
IsWorked (kind.Lookup key missing) = ⊤
IsWorked k = ⊥

-- the number of inputs
abbrev pub ports_of : OpKind → ℕ
ports_of (kind.InnerJoin key) = 2
ports_of (kind.LeftOuterJoin key) = 2
ports_of (kind.RightOuterJoin key) = 2
ports_of (kind.FullOuterJoin key) = 2
ports_of (kind.Lookup key missing) = 2
ports_of k = 1

-- the keys of both inputs ascend and descend alike, and name columns of them
abbrev pub SuitsJoin : OpParts → List ℕ → Type 0
SuitsJoin parts widths = (ways (get_keys parts.keys 0) ≡ ways (get_keys parts.keys 1)) × AreBelow (get_or widths 0 0) (get_keys parts.keys 0) × AreBelow (get_or widths 1 0) (get_keys parts.keys 1)

-- the reference's keys are as many as the main input's, and name columns of it
abbrev pub SuitsLookup : OpParts → List ℕ → Type 0
SuitsLookup parts widths = (length (cols (get_keys parts.keys 0)) ≡ length (cols (get_keys parts.keys 1))) × All (λ c. c < get_or widths 1 0) (cols (get_keys parts.keys 1))

-- an operator can be made of its options, these parts and the widths of its inputs
abbrev pub SuitsParts : OpKind → OpParts → List ℕ → Type 0
SuitsParts (kind.Filter test reject) parts widths = (parts.exprs ≡ first_expr parts ∷ []) × ((first_expr parts).typing.shape ≡ shape.Truth)
SuitsParts (kind.Transform set reject) parts widths = (length parts.cols ≡ length set) × (length parts.exprs ≡ length set) × AreSets (sets_of set parts.cols parts.exprs)
SuitsParts (kind.Modify keep drop rename) parts widths = ⊤
SuitsParts (kind.Switch on cases reject) parts widths = (parts.exprs ≡ first_expr parts ∷ []) × IsWhole (first_expr parts) × AreDistinct cases × (length cases ≤ 16)
SuitsParts (kind.Group key hash results) parts widths = ⊤
SuitsParts (kind.InnerJoin key) parts widths = SuitsJoin parts widths
SuitsParts (kind.LeftOuterJoin key) parts widths = SuitsJoin parts widths
SuitsParts (kind.RightOuterJoin key) parts widths = SuitsJoin parts widths
SuitsParts (kind.FullOuterJoin key) parts widths = SuitsJoin parts widths
SuitsParts (kind.Lookup key missing) parts widths = SuitsLookup parts widths
SuitsParts k parts widths = ⊥

-- rows have the columns that a group looks at, and those that it sums have numbers of one kind
abbrev pub SuitsGroup : List Key → List Agg → List Row → Type 0
SuitsGroup keys aggs rows = (list_all (row_suits keys aggs) rows ≡ true) × (list_all (sums_alike rows) aggs ≡ true)

-- the rows of both inputs have their widths
pub record AreJoined (widths : List ℕ) (lists : List (List Row)) : Type 0 where
  pub lefts : list_all (join_suits (get_or widths 0 0)) (input 0 lists) ≡ true
  pub rights : list_all (join_suits (get_or widths 1 0)) (input 1 lists) ≡ true

-- main rows and reference rows have their widths, and main rows the key's columns
pub record AreLooked (parts : OpParts) (widths : List ℕ) (lists : List (List Row)) : Type 0 where
  pub wide : AllByRecursion (λ a. length a ≡ get_or widths 0 0) (input 0 lists)
  pub mains : list_all (suits_main (cols (get_keys parts.keys 0))) (input 0 lists) ≡ true
  pub references : list_all (suits_reference (get_or widths 1 0)) (input 1 lists) ≡ true

-- and the rows of these lists have the columns and values that it works on
abbrev pub SuitsLists : OpKind → OpParts → List ℕ → List (List Row) → Type 0
SuitsLists (kind.Filter test reject) parts widths lists = list_all (row_fits (first_expr parts).fields) (input 0 lists) ≡ true
SuitsLists (kind.Transform set reject) parts widths lists = list_all (row_fits (input_fields (sets_of set parts.cols parts.exprs))) (input 0 lists) ≡ true
SuitsLists (kind.Modify keep drop rename) parts widths lists = list_all (has_columns parts.cols) (input 0 lists) ≡ true
SuitsLists (kind.Switch on cases reject) parts widths lists = list_all (row_fits (first_expr parts).fields) (input 0 lists) ≡ true
SuitsLists (kind.Group key hash results) parts widths lists = SuitsGroup (get_keys parts.keys 0) (aggs_of results parts.cols) (input 0 lists)
SuitsLists (kind.InnerJoin key) parts widths lists = AreJoined widths lists
SuitsLists (kind.LeftOuterJoin key) parts widths lists = AreJoined widths lists
SuitsLists (kind.RightOuterJoin key) parts widths lists = AreJoined widths lists
SuitsLists (kind.FullOuterJoin key) parts widths lists = AreJoined widths lists
SuitsLists (kind.Lookup key missing) parts widths lists = AreLooked parts widths lists
SuitsLists k parts widths lists = ⊤

-- the number of outputs; what is said of an output behind them is said of the last
abbrev pub outputs_of : OpKind → ℕ
outputs_of (kind.Filter test reject) = 2
outputs_of (kind.Transform set reject) = 2
outputs_of (kind.Switch on cases reject) = length cases + 2
outputs_of (kind.Lookup key missing) = 2
outputs_of k = 1

-- the list that has the rows for output q
abbrev pub place_of : ℕ → ℕ → ℕ
place_of outs q = min q (outs - 1)

-- what an operator emits, before its faults have its number
pub record HasWorked (k : OpKind) (parts : OpParts) (widths : List ℕ) (lists : List (List Row)) (emit : Emit) : Type 0 where
  pub given : List (Out Row Fault)
  pub emitted : HasEmitted emit given
  pub rows_are : (o q : ℕ) → on (place_of (outputs_of k) q) given ≡ made_of o k parts widths q lists
  pub no_more : (q : ℕ) → outputs_of k ≤ q → on q given ≡ []
  pub faults_are : (o : ℕ) → map (at_op o) (faults_out given) ≡ found_of o k parts widths lists
  pub unnumbered : AreUnnumbered (faults_out given)

-- the rows on one output
abbrev pub sent_to : ℕ → List Sent → List Row
sent_to q [] = []
sent_to q (s ∷ sent) = if s.port == q then s.row ∷ sent_to q sent else sent_to q sent

-- each row has one of some outputs
abbrev pub AreWithin : ℕ → List Sent → Type 0
AreWithin outs sent = All (λ (s : Sent). s.port < outs) sent

-- each list grows by what is sent to its output, as one more partition
pub record TakesPartition (sent : List Sent) (old new : List (List (List Row))) : Type 0 where
  pub count : length new ≡ length old
  pub each : (q : ℕ) → q < length old → get_or new q [] ≡ get_or old q [] ++ sent_to q sent ∷ []

-- by output, the rows that an operator makes of each partition
abbrev pub AreMade : ℕ → OpKind → OpParts → List ℕ → List (List (List Row)) → List (List (List Row)) → Type 0
AreMade o k parts widths inputs outs = (length outs ≡ outputs_of k) × ((q : ℕ) → get_or outs (place_of (length outs) q) [] ≡ made_by o k parts widths q inputs)

-- it can work on the lists of each partition
abbrev pub CanWork : OpKind → OpParts → List ℕ → List (List (List Row)) → Type 0
CanWork k parts widths inputs = SuitsParts k parts widths × (length inputs ≡ ports_of k) × ((p : ℕ) → SuitsLists k parts widths (slice p inputs))
