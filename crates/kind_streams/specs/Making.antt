-- What is asked of what an operator is made of, and what it is then, by its kind.
use Rattle.std.specs.Prelude.{◌≡◌, ◌<◌, ◌≤◌, ⊤, ◌^◌, ℕ, ℤ, Bool, true, List, [], ◌∷◌, length, get_or, All}
use Rattle.streams.specs.Streams.{Feed}
use Rattle.ds_schema.specs.Rows.{cols, ways}
use Rattle.ds_schema.specs.Schemas.{row_fits}
use Rattle.expr_table.specs.declared.entry.Shape.TheVariants as shape
use Rattle.op_base.specs.Columns.{Row}
use Rattle.op_base.specs.Keyed.{get_keys}
use Rattle.op_base.specs.Standing.{RowStream}
use Rattle.op_row.specs.ByRow.{each_row, has_columns}
use Rattle.op_row.specs.Expressed.{AreDistinct, AreSets, IsWhole, input_fields}
use Rattle.op_group.specs.Groups.{group_suits}
use Rattle.op_join.specs.Joining.{AreBelow, join_suits}
use Rattle.op_lookup.specs.Looked.{suits_lookup}
use Rattle.op_match.specs.Captures.{capture_suits}
use Rattle.op_match.specs.Merges.{AreWithin, merge_suits}
use Rattle.op_match.specs.Waiting.{HaveSameWays}
use Rattle.flow_graph.specs.declared.op_kind.OpKind.{OpKind}
use Rattle.flow_graph.specs.declared.op_kind.OpKind.TheVariants as kind
use Rattle.flow_graph.specs.declared.op_kind.SetSpec.{SetSpec}
use Rattle.flow_graph.specs.declared.parts.OpParts.{OpParts}
use Rattle.flow_graph.specs.RowRules.{first_expr, sets_of}
use Rattle.flow_ops.specs.Keyed.{aggs_of}
use Rattle.kind_streams.specs.OfKinds.{row_stream}

-- its one expression
abbrev pub HasOneExpr : OpParts → Type 0
HasOneExpr parts = parts.exprs ≡ first_expr parts ∷ []

-- the keys of both inputs ascend and descend alike, and name columns of them
pub record CanJoin (parts : OpParts) (widths : List ℕ) : Type 0 where
  pub ways : ways (get_keys parts.keys 0) ≡ ways (get_keys parts.keys 1)
  pub left : AreBelow (get_or widths 0 0) (get_keys parts.keys 0)
  pub right : AreBelow (get_or widths 1 0) (get_keys parts.keys 1)

-- the reference's keys are as many as the main input's, and name columns of it
pub record CanLookUp (parts : OpParts) (widths : List ℕ) : Type 0 where
  pub paired : length (cols (get_keys parts.keys 0)) ≡ length (cols (get_keys parts.keys 1))
  pub within : All (λ c. c < get_or widths 1 0) (cols (get_keys parts.keys 1))

-- each input has keys, which ascend and descend alike and name columns of it
pub record CanMerge (parts : OpParts) (widths : List ℕ) : Type 0 where
  pub some : 0 < length parts.keys
  pub same : length widths ≡ length parts.keys
  pub ways : HaveSameWays parts.keys
  pub within : AreWithin widths parts.keys

-- each set has its column and its expression, and they can be set together
pub record CanSet (set : List SetSpec) (parts : OpParts) : Type 0 where
  pub cols : length parts.cols ≡ length set
  pub exprs : length parts.exprs ≡ length set
  pub sets : AreSets (sets_of set parts.cols parts.exprs)

pub record CanSwitch (cases : List ℤ) (parts : OpParts) : Type 0 where
  pub one : HasOneExpr parts
  pub whole : IsWhole (first_expr parts)
  pub distinct : AreDistinct cases
  pub few : length cases ≤ 16

-- there are inputs
pub record CanGather (inputs : ℕ) : Type 0 where
  pub some : 0 < inputs
  pub few : inputs < 2 ^ 32

-- An operator between imports and exports can be made of its options, these parts and the widths of its inputs.
abbrev pub CanMake : OpKind → OpParts → List ℕ → Type 0
CanMake (kind.Import file schema delim fixed reject) parts widths = ⊥
CanMake (kind.Export file delim fixed) parts widths = ⊥
CanMake (kind.Dsread ds) parts widths = ⊥
CanMake (kind.Dswrite ds) parts widths = ⊥
CanMake (kind.Filter test reject) parts widths = HasOneExpr parts × ((first_expr parts).typing.shape ≡ shape.Truth)
CanMake (kind.Transform set reject) parts widths = CanSet set parts
CanMake (kind.Switch on cases reject) parts widths = CanSwitch cases parts
CanMake (kind.InnerJoin key) parts widths = CanJoin parts widths
CanMake (kind.LeftOuterJoin key) parts widths = CanJoin parts widths
CanMake (kind.RightOuterJoin key) parts widths = CanJoin parts widths
CanMake (kind.FullOuterJoin key) parts widths = CanJoin parts widths
CanMake (kind.Merge key keepbad reject) parts widths = CanMerge parts widths
CanMake (kind.Lookup key missing) parts widths = CanLookUp parts widths
CanMake (kind.Funnel sequence sort) parts widths = CanGather (length widths)
CanMake k parts widths = ⊤

-- its rows have the columns and values that it works on
abbrev pub suits_by : OpKind → OpParts → List ℕ → List (Feed Row) → Bool
suits_by (kind.Filter test reject) parts widths = each_row (row_fits (first_expr parts).fields)
suits_by (kind.Transform set reject) parts widths = each_row (row_fits (input_fields (sets_of set parts.cols parts.exprs)))
suits_by (kind.Modify keep drop rename) parts widths = each_row (has_columns parts.cols)
suits_by (kind.Switch on cases reject) parts widths = each_row (row_fits (first_expr parts).fields)
suits_by (kind.Group key hash results) parts widths = group_suits (get_keys parts.keys 0) (aggs_of results parts.cols)
suits_by (kind.InnerJoin key) parts widths = join_suits (get_or widths 0 0) (get_or widths 1 0)
suits_by (kind.LeftOuterJoin key) parts widths = join_suits (get_or widths 0 0) (get_or widths 1 0)
suits_by (kind.RightOuterJoin key) parts widths = join_suits (get_or widths 0 0) (get_or widths 1 0)
suits_by (kind.FullOuterJoin key) parts widths = join_suits (get_or widths 0 0) (get_or widths 1 0)
suits_by (kind.Merge key keepbad reject) parts widths = merge_suits widths
suits_by (kind.Lookup key missing) parts widths = suits_lookup (cols (get_keys parts.keys 0)) (get_or widths 1 0)
suits_by (kind.Changecapture key values keepcopy) parts widths = capture_suits (get_keys parts.keys 0) parts.cols
suits_by k parts widths = λ feeds. true

-- It has the stream of its kind, those rows suit it, and it was fed nothing yet.
pub record IsMade (k : OpKind) (parts : OpParts) (widths : List ℕ) (outs : ℕ) (stream : RowStream) (suits : List (Feed Row) → Bool) (Stands : List (Feed Row) → Type 0) : Type 0 where
  pub stream_is : stream ≡ row_stream k parts widths outs
  pub suits_is : suits ≡ suits_by k parts widths
  pub fresh : Stands []

-- works row by row alone
abbrev pub IsByRow : OpKind → Type 0
IsByRow kind.Copy = ⊤
IsByRow (kind.Filter test reject) = ⊤
IsByRow (kind.Transform set reject) = ⊤
IsByRow (kind.Modify keep drop rename) = ⊤
IsByRow (kind.Switch on cases reject) = ⊤
IsByRow k = ⊥
