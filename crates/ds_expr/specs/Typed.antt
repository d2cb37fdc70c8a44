-- A typed expression.
use Rattle.std.specs.Prelude.{◌≡◌, ◌≢◌, List, map, slice_get, Option, Some, None}
use Rattle.ds_schema.specs.declared.schema.Field.{Field}
use Rattle.ds_expr.specs.declared.node.Typing.{Typing}
use Rattle.ds_expr.specs.declared.node.Node.{Node}
use Rattle.expr_table.specs.declared.entry.Entry.{Entry}
use Rattle.expr_table.specs.declared.arg.Arg.{Arg}
use Rattle.expr_table.specs.TableRows.{rows}
use Rattle.expr_table.specs.Calls.{HasShape, IsInRange, AreSmall}
use Rattle.ds_expr.specs.declared.node.Applied.{Applied}
use Rattle.ds_expr.specs.declared.node.TypedNode.{TypedNode}
use Rattle.ds_expr.specs.Typing.{typing_in, typing_of_use, typings_joined, all_typed, then_some}

-- a tree over these fields, and what is known of it
pub record TypedTree : Type 0 where
  pub fields : List Field
  pub node : Node
  pub typing : Typing

abbrev pub root : TypedTree → TypedNode
root t = record { node = t.node; typing = t.typing }

-- each node has its one row
abbrev pub IsTyped : List Field → Node → Typing → Type 0
IsTyped fields node typing = typing_in fields node ≡ Some typing

-- a tree that is typed, whatever as
abbrev pub HasTyping : List Field → Node → Type 0
HasTyping fields node = typing_in fields node ≢ None

-- the value has the shape of the typing, and lies in its range
abbrev pub Fits : Typing → Arg → Type 0
Fits t v = HasShape t.shape v × IsInRange v

-- a row of the table with its name, for arguments of these scales
pub record IsRow (u : Applied) : Type 0 where
  pub entry : Entry
  pub at : slice_get rows u.row ≡ Some entry
  pub name : entry.name ≡ u.name
  pub small : AreSmall u.scales

-- arguments to which the row is applied
abbrev pub AreArgs : List Field → Applied → List Node → Type 0
AreArgs fields u args = then_some (all_typed (map (typing_in fields) args)) (typing_of_use u) ≢ None

-- an operand behind its row
abbrev pub link_typing : List Field → Applied × Node → Applied × Option Typing
link_typing fields link = (link.0, typing_in fields link.1)

-- a value to which these operands can be joined
pub record JoinsFrom (fields : List Field) (links : List (Applied × Node)) (left : Arg) : Type 0 where
  pub typing : Typing
  pub fits : Fits typing left
  pub joins : typings_joined typing (map (link_typing fields) links) ≢ None
