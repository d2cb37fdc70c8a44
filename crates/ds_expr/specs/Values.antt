-- The value of a typed expression in a row, or its first fault from the left.
use Rattle.std.specs.Prelude.{pos, List, [], ◌∷◌, ◌++◌, Result, Ok, Err, Bool, true, false, if◌then◌else◌}
use Rattle.ds_value.specs.declared.value.Value.{Value}
use Rattle.ds_value.specs.declared.value.Value.TheVariants as value
use Rattle.ds_schema.specs.Rows.{at}
use Rattle.expr_table.specs.declared.entry.FnName.{FnName}
use Rattle.expr_table.specs.declared.entry.FnName.TheVariants as fn
use Rattle.expr_table.specs.declared.arg.Arg.{Arg}
use Rattle.expr_table.specs.declared.arg.Arg.TheVariants.{Null, Num, Text, Date, Truth}
use Rattle.expr_table.specs.declared.arg.EvalFault.{EvalFault}
use Rattle.expr_table.specs.declared.arg.EvalFault.TheVariants.{NullUsed}
use Rattle.expr_table.specs.Meaning.{◌>>=◌, value_of}
use Rattle.ds_expr.specs.declared.node.Applied.{Applied}
use Rattle.ds_expr.specs.declared.node.Node.{Node, fold-Node}
use Rattle.ds_expr.specs.declared.node.Node.TheOpen.{Node-F}

-- a column's value as a number, a text or a date
abbrev pub arg_of : Value → Arg
arg_of value.Null = Null
arg_of (value.Int z) = Num z
arg_of (value.UInt n) = Num (pos n)
arg_of (value.Dec z) = Num z
arg_of (value.Text bytes) = Text bytes
arg_of (value.Date day) = Date day

abbrev pub Valued : Type 0
Valued = Result Arg EvalFault

-- arguments from left to right, behind those that are there
abbrev pub values : List Arg → List Valued → Result (List Arg) EvalFault
values found [] = Ok found
values found (v ∷ vs) = v >>= λ x. values (found ++ x ∷ []) vs

-- the row of the table, for these arguments
abbrev pub applied : Applied → List Arg → Valued
applied u args = value_of u.name u.scales args

-- with the chosen branch alone; null stands for the other
abbrev pub branched : Applied → Bool → Valued → Valued
branched u true v = v >>= λ x. applied u (Truth true ∷ x ∷ Null ∷ [])
branched u false v = v >>= λ x. applied u (Truth false ∷ Null ∷ x ∷ [])

abbrev pub branch : Applied → Arg → Valued → Valued → Valued
branch u (Truth true) a b = branched u true a
branch u (Truth false) a b = branched u false b
branch u test a b = Err NullUsed

abbrev pub chosen : Applied → List Valued → Valued
chosen u (test ∷ a ∷ b ∷ []) = test >>= λ x. branch u x a b
chosen u args = Err NullUsed

abbrev pub is_if : FnName → Bool
is_if fn.If = true
is_if f = false

abbrev pub called : Applied → List Valued → Valued
called u args = if is_if u.name then chosen u args else (values [] args >>= applied u)

-- whether the left side decides
abbrev pub decides : FnName → Arg → Bool
decides fn.And (Truth false) = true
decides fn.Or (Truth true) = true
decides f x = false

-- the right side is evaluated only where the left doesn't decide
abbrev pub joined : Applied → Arg → Valued → Valued
joined u x right = if decides u.name x then Ok x else (right >>= λ y. applied u (x ∷ y ∷ []))

-- operands from the left
abbrev pub all_joined : Arg → List (Applied × Valued) → Valued
all_joined x [] = Ok x
all_joined x (link ∷ links) = joined link.0 x link.1 >>= λ y. all_joined y links

abbrev pub then_joined : Valued → List (Applied × Valued) → Valued
then_joined first links = first >>= λ x. all_joined x links

abbrev pub value_step : List Value → Node-F Valued → Valued
value_step row (Node-F.Literal a s) = Ok a
value_step row (Node-F.Column i) = Ok (arg_of (at row i))
value_step row (Node-F.Call u args) = called u args
value_step row (Node-F.Chain first links) = then_joined first links

-- the value in the row
abbrev pub value_in : List Value → Node → Valued
value_in row = fold-Node Valued (value_step row)

-- an operand behind its row
abbrev pub valued_link : List Value → Applied × Node → Applied × Valued
valued_link row link = (link.0, value_in row link.1)
