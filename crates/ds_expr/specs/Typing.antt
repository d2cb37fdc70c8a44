-- Which expressions are typed over a schema, and as what. Operands come before what they are operands of, from left to right;
-- an expression that isn't typed is refused at the place of the first node that no row of the table, no column and no
-- literal types.
use Rattle.std.specs.Prelude.{◌≡◌, ◌≤◌, ℕ, ◌+◌, ◌^◌, ℤ, pos, negsuc, unsigned_abs, List, [], ◌∷◌, ◌++◌, map, slice_get, Option, Some, None, Result, Ok, Err, Bool, ◌&&◌, ◌==◌, nat_lt, nat_le, if◌then◌else◌, codes}
use Rattle.std.specs.List.{AllByRecursion, list_all}
use Rattle.std.specs.Str.{bytes_eq}
use Rattle.ds_value.specs.declared.kind.Kind.{Kind}
use Rattle.ds_value.specs.declared.kind.Kind.TheVariants as kind
use Rattle.ds_value.specs.declared.value.Value.TheVariants as value
use Rattle.ds_value.specs.Kinds.{fits_kind}
use Rattle.ds_schema.specs.declared.schema.Field.{Field}
use Rattle.expr_read.specs.declared.tree.Link.{Link}
use Rattle.expr_read.specs.declared.tree.Expr.{Expr, fold-Expr}
use Rattle.expr_read.specs.declared.tree.Expr.TheOpen.{Expr-F}
use Rattle.expr_table.specs.declared.entry.Shape.{Shape}
use Rattle.expr_table.specs.declared.entry.Shape.TheVariants as shape
use Rattle.expr_table.specs.declared.entry.FnName.{FnName}
use Rattle.expr_table.specs.declared.entry.Entry.{Entry}
use Rattle.expr_table.specs.declared.arg.Arg.{Arg}
use Rattle.expr_table.specs.declared.arg.Arg.TheVariants.{Null, Num, Text, Date, Truth}
use Rattle.expr_table.specs.TableRows.{rows, row_with}
use Rattle.expr_table.specs.Scales.{result_scale}
use Rattle.ds_expr.specs.declared.fault.TypeFault.{TypeFault}
use Rattle.ds_expr.specs.declared.fault.TypeFault.TheVariants as fault
use Rattle.ds_expr.specs.declared.literal.Number.{Number}
use Rattle.ds_expr.specs.declared.node.Typing.{Typing}
use Rattle.ds_expr.specs.declared.node.Applied.{Applied}
use Rattle.ds_expr.specs.declared.node.Node.{Node, fold-Node}
use Rattle.ds_expr.specs.declared.node.Node.TheVariants as made
use Rattle.ds_expr.specs.declared.node.Node.TheOpen.{Node-F}
use Rattle.ds_expr.specs.declared.node.TypedNode.{TypedNode}
use Rattle.ds_expr.specs.declared.node.Nodes.{Nodes}
use Rattle.ds_expr.specs.declared.node.Joined.{Joined}
use Rattle.ds_expr.specs.declared.node.Use.{Use}
use Rattle.ds_expr.specs.Names.{fn_named, infix_name, prefix_name}
use Rattle.ds_expr.specs.Literals.{number_literal, date_literal}

-- reads what follows, where the first part is typed
infixl 10 ◌>>=◌
abbrev pub ◌>>=◌ : {A B : Type 0} → Result A ℕ → (A → Result B ℕ) → Result B ℕ
(Ok x) >>= f = f x
(Err at) >>= f = Err at

-- ---- what is known of a node

abbrev pub plain : Shape → Typing
plain s = record { shape = s; scale = 0; literal = None }

abbrev pub number_of_scale : ℕ → Typing
number_of_scale s = record { shape = shape.Num; scale = s; literal = None }

abbrev pub typing_of_kind : Kind → Typing
typing_of_kind (kind.Int bits) = plain shape.Num
typing_of_kind (kind.UInt bits) = plain shape.Num
typing_of_kind (kind.Dec p s) = number_of_scale s
typing_of_kind (kind.Text max fixed) = plain shape.Text
typing_of_kind kind.Date = plain shape.Date

-- the number that a literal without a point is
abbrev pub whole : ℕ → ℤ → Option ℕ
whole scale (pos n) = if scale == 0 then Some n else None
whole scale (negsuc n) = None

abbrev pub typing_of_number : ℕ → ℤ → Typing
typing_of_number s z = record { shape = shape.Num; scale = s; literal = whole s z }

abbrev pub shapes_of : List Typing → List Shape
shapes_of ts = map (λ (t : Typing). t.shape) ts

abbrev pub scales_of : List Typing → List ℕ
scales_of ts = map (λ (t : Typing). t.scale) ts

-- the whole literal that is the second argument
abbrev pub second_literal : List Typing → Option ℕ
second_literal (t ∷ u ∷ ts) = u.literal
second_literal ts = None

abbrev pub result_in : Option Entry → Shape
result_in (Some e) = e.result
result_in None = shape.Unused

-- ---- the one row of a node

abbrev pub use_at : FnName → List Typing → Option ℕ → Option ℕ → Option Use
use_at f ts (Some row) (Some scale) =
    Some (record {
      applied = record { name = f; row = row; scales = scales_of ts };
      typing = record { shape = result_in (slice_get rows row); scale = scale; literal = None };
    })
use_at f ts row scale = None

-- the row with this name and these arguments, and what it gives
unfoldable pub use_of : FnName → List Typing → Option Use
use_of f ts = use_at f ts (row_with rows f (shapes_of ts)) (result_scale f (scales_of ts) (second_literal ts))

-- ---- nodes

abbrev pub number_node : Number → TypedNode
number_node n = record { node = made.Literal (Num n.units) n.scale; typing = typing_of_number n.scale n.units }

abbrev pub typed_number : ℕ → Option Number → Result TypedNode ℕ
typed_number at (Some n) = Ok (number_node n)
typed_number at None = Err at

abbrev pub typed_text : List ℕ → TypedNode
typed_text bytes = record { node = made.Literal (Text bytes) 0; typing = plain shape.Text }

abbrev pub date_node : ℤ → TypedNode
date_node day = record { node = made.Literal (Date day) 0; typing = plain shape.Date }

abbrev pub typed_date : ℕ → Option ℤ → Result TypedNode ℕ
typed_date at (Some day) = Ok (date_node day)
typed_date at None = Err at

-- a field of this name, with the number of its column, the first of which is `from`
abbrev pub typed_column : ℕ → ℕ → List ℕ → List Field → Result TypedNode ℕ
typed_column at from name [] = Err at
typed_column at from name (f ∷ fs) =
    if bytes_eq f.name name then Ok (record { node = made.Column from; typing = typing_of_kind f.kind }) else typed_column at (from + 1) name fs

abbrev pub typed_use : ℕ → List Node → Option Use → Result TypedNode ℕ
typed_use at nodes (Some u) = Ok (record { node = made.Call u.applied nodes; typing = u.typing })
typed_use at nodes None = Err at

-- the text that a single node is, where it is a literal
abbrev pub text_literal : List Node → Option (List ℕ)
text_literal (made.Literal (Text bytes) s ∷ []) = Some bytes
text_literal nodes = None

abbrev pub date_in : Option (List ℕ) → Option ℤ
date_in None = None
date_in (Some bytes) = date_literal bytes

abbrev pub typed_name : ℕ → Nodes → Option FnName → Result TypedNode ℕ
typed_name at args (Some f) = typed_use at args.nodes (use_of f args.typings)
typed_name at args None = Err at

-- a date, or a function applied to its arguments
unfoldable pub typed_call : ℕ → List ℕ → Nodes → Result TypedNode ℕ
typed_call at name args = if bytes_eq name (codes "date") then typed_date at (date_in (text_literal args.nodes)) else typed_name at args (fn_named name)

abbrev pub one_more : Nodes → TypedNode → Nodes
one_more found x = record { nodes = found.nodes ++ x.node ∷ []; typings = found.typings ++ x.typing ∷ [] }

abbrev pub no_nodes : Nodes
no_nodes = record { nodes = []; typings = [] }

-- arguments from left to right
abbrev pub typed_args : Nodes → List (Result TypedNode ℕ) → Result Nodes ℕ
typed_args found [] = Ok found
typed_args found (r ∷ rs) = r >>= λ x. typed_args (one_more found x) rs

-- a first operand, with none joined to it yet
abbrev pub begin : TypedNode → Joined
begin x = record { first = x.node; links = []; typing = x.typing }

abbrev pub one_joined : ℕ → Joined → Node → Option Use → Result Joined ℕ
one_joined at x right (Some u) = Ok (record { first = x.first; links = x.links ++ (u.applied, right) ∷ []; typing = u.typing })
one_joined at x right None = Err at

abbrev pub join : Link → Joined → TypedNode → Result Joined ℕ
join link x right = one_joined link.at x right.node (use_of (infix_name link.sign) (x.typing ∷ right.typing ∷ []))

-- operands joined from the left
abbrev pub typed_links : Joined → List (Link × Result TypedNode ℕ) → Result Joined ℕ
typed_links x [] = Ok x
typed_links x (link ∷ links) = link.1 >>= λ right. join link.0 x right >>= λ y. typed_links y links

abbrev pub chain_of : Joined → TypedNode
chain_of x = record { node = made.Chain x.first x.links; typing = x.typing }

abbrev pub typed_chain : TypedNode → List (Link × Result TypedNode ℕ) → Result TypedNode ℕ
typed_chain first links = typed_links (begin first) links >>= λ x. Ok (chain_of x)

abbrev pub typed_step : List Field → Expr-F (Result TypedNode ℕ) → Result TypedNode ℕ
typed_step fields (Expr-F.Number at digits) = typed_number at (number_literal digits)
typed_step fields (Expr-F.Quoted at bytes) = Ok (typed_text bytes)
typed_step fields (Expr-F.Column at name) = typed_column at 0 name fields
typed_step fields (Expr-F.Call at name args) = typed_args no_nodes args >>= λ xs. typed_call at name xs
typed_step fields (Expr-F.Signed at s e) = e >>= λ x. typed_use at (x.node ∷ []) (use_of (prefix_name s) (x.typing ∷ []))
typed_step fields (Expr-F.Chain first links) = first >>= λ x. typed_chain x links

-- the expression with a row at each node, or the place of the first node that isn't typed
abbrev pub typed_of : List Field → Expr → Result TypedNode ℕ
typed_of fields = fold-Expr (Result TypedNode ℕ) (typed_step fields)

-- a sign with the operand behind it
abbrev pub typed_link : List Field → Link × Expr → Link × Result TypedNode ℕ
typed_link fields link = (link.0, typed_of fields link.1)

-- What was answered is this, unless memory ran out.
abbrev pub Answers : {X Y : Type 0} → (X → Y) → Result X TypeFault → Result Y ℕ → Type 0
Answers view (Ok x) typed = typed ≡ Ok (view x)
Answers view (Err (fault.Wrong at)) typed = typed ≡ Err at
Answers view (Err fault.Memory) typed = Unit {0}

-- ---- what is known of a typed tree

abbrev pub then_some : {A B : Type 0} → Option A → (A → Option B) → Option B
then_some (Some x) f = f x
then_some None f = None

-- what a row that is applied gives, where it is the one row of these arguments
abbrev pub agreed : Applied → Option Use → Option Typing
agreed u (Some v) = if (u.row == v.applied.row) && bytes_eq u.scales v.applied.scales then Some v.typing else None
agreed u None = None

-- no scale is above 38
abbrev pub are_small : List Typing → Bool
are_small ts = list_all (λ (t : Typing). nat_le t.scale 38) ts

abbrev pub typing_of_use : Applied → List Typing → Option Typing
typing_of_use u ts = if are_small ts then agreed u (use_of u.name ts) else None

abbrev pub all_typed : List (Option Typing) → Option (List Typing)
all_typed [] = Some []
all_typed (o ∷ os) = then_some o (λ t. then_some (all_typed os) (λ ts. Some (t ∷ ts)))

abbrev pub typings_joined : Typing → List (Applied × Option Typing) → Option Typing
typings_joined t [] = Some t
typings_joined t (x ∷ xs) = then_some x.1 (λ right. then_some (typing_of_use x.0 (t ∷ right ∷ [])) (λ u. typings_joined u xs))

abbrev pub literal_typing : Arg → ℕ → Option Typing
literal_typing (Num z) s = if nat_lt (unsigned_abs z) (10 ^ 38) && nat_le s 38 then Some (typing_of_number s z) else None
literal_typing (Text bytes) s = Some (plain shape.Text)
literal_typing (Date day) s = if fits_kind kind.Date (value.Date day) then Some (plain shape.Date) else None
literal_typing Null s = None
literal_typing (Truth b) s = None

abbrev pub column_typing : Option Field → Option Typing
column_typing (Some f) = Some (typing_of_kind f.kind)
column_typing None = None

abbrev pub typing_step : List Field → Node-F (Option Typing) → Option Typing
typing_step fields (Node-F.Literal a s) = literal_typing a s
typing_step fields (Node-F.Column i) = column_typing (slice_get fields i)
typing_step fields (Node-F.Call u args) = then_some (all_typed args) (typing_of_use u)
typing_step fields (Node-F.Chain first links) = then_some first (λ t. typings_joined t links)

-- what is known of a tree in which each node has its one row
abbrev pub typing_in : List Field → Node → Option Typing
typing_in fields = fold-Node (Option Typing) (typing_step fields)

-- this is known of the node
pub record IsSound (fields : List Field) (x : TypedNode) : Type 0 where
  pub typing : typing_in fields x.node ≡ Some x.typing
  pub small : x.typing.scale ≤ 38

pub record AreSound (fields : List Field) (xs : Nodes) : Type 0 where
  pub typings : all_typed (map (typing_in fields) xs.nodes) ≡ Some xs.typings
  pub small : AllByRecursion (λ (t : Typing). t.scale ≤ 38) xs.typings
