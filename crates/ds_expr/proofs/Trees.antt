-- What the functions of whole trees say at each node.
use Rattle.std.proofs.Common.{◌≡◌, ℕ, List, Option, Result, Ok, map, sym, ap, subst, ◌∙◌}
use Rattle.std.specs.Prelude.{slice_get}
use Rattle.ds_schema.specs.declared.schema.Field.{Field}
use Rattle.expr_table.specs.declared.arg.Arg.{Arg}
use Rattle.ds_expr.specs.declared.fault.TypeFault.{TypeFault}
use Rattle.ds_expr.specs.declared.node.Typing.{Typing}
use Rattle.ds_expr.specs.declared.node.Applied.{Applied}
use Rattle.ds_expr.specs.declared.node.Node.{Node}
use Rattle.ds_expr.specs.declared.node.Node.TheVariants as made
use Rattle.ds_expr.specs.declared.node.Node.TheVariants.{rolls-Literal, rolls-Column, rolls-Call, rolls-Chain}
use Rattle.ds_expr.specs.declared.node.Node.TheOpen.{Node-F}
use Rattle.ds_expr.specs.declared.node.Node.TheFolds.{fold-roll-Node}
use Rattle.expr_read.specs.declared.tree.Link.{Link}
use Rattle.expr_read.specs.declared.tree.Expr.{Expr}
use Rattle.expr_read.specs.declared.tree.Expr.TheVariants as expr
use Rattle.expr_read.specs.declared.tree.Expr.TheVariants.{rolls-Chain as rolls-Chain-expr}
use Rattle.expr_read.specs.declared.tree.Expr.TheOpen.{Expr-F}
use Rattle.expr_read.specs.declared.tree.Expr.TheFolds.{fold-roll-Expr}
use Rattle.ds_expr.specs.declared.node.TypedNode.{TypedNode}
use Rattle.ds_value.specs.declared.value.Value.{Value}
use Rattle.ds_schema.specs.Rows.{at}
use Rattle.ds_expr.specs.Values.{Valued, value_in, value_step, valued_link, called, arg_of, then_joined}
use Rattle.ds_expr.specs.Typing.{◌>>=◌, typed_of, typed_step, typed_link, typed_chain, Answers, typing_in, typing_step, then_some, all_typed, typing_of_use, typings_joined, literal_typing, column_typing}

pub call_typing : (fields : List Field) (u : Applied) (args : List Node) → typing_in fields (made.Call u args) ≡ then_some (all_typed (map (typing_in fields) args)) (typing_of_use u)
call_typing fields u args = ap (typing_in fields) (sym (rolls-Call u args)) ∙ fold-roll-Node (Option Typing) (typing_step fields) (Node-F.Call u args)

pub column_typed : (fields : List Field) (i : ℕ) → typing_in fields (made.Column i) ≡ column_typing (slice_get fields i)
column_typed fields i = ap (typing_in fields) (sym (rolls-Column i)) ∙ fold-roll-Node (Option Typing) (typing_step fields) (Node-F.Column i)

pub literal_typed : (fields : List Field) (a : Arg) (s : ℕ) → typing_in fields (made.Literal a s) ≡ literal_typing a s
literal_typed fields a s = ap (typing_in fields) (sym (rolls-Literal a s)) ∙ fold-roll-Node (Option Typing) (typing_step fields) (Node-F.Literal a s)

pub chain_typed : (fields : List Field) (first : Node) (links : List (Applied × Node)) → typing_in fields (made.Chain first links) ≡ then_some (typing_in fields first) (λ t. typings_joined t (map (λ (x : Applied × Node). (x.0, typing_in fields x.1)) links))
chain_typed fields first links = ap (typing_in fields) (sym (rolls-Chain first links)) ∙ fold-roll-Node (Option Typing) (typing_step fields) (Node-F.Chain first links)

pub typed_of_chain : (fields : List Field) (first : Expr) (links : List (Link × Expr)) → typed_of fields (expr.Chain first links) ≡ (typed_of fields first >>= λ x. typed_chain x (map (typed_link fields) links))
typed_of_chain fields first links = ap (typed_of fields) (sym (rolls-Chain-expr first links)) ∙ fold-roll-Expr (Result TypedNode ℕ) (typed_step fields) (Expr-F.Chain first links)

pub chain_answers : (fields : List Field) (e first read : Expr) (links more : List (Link × Expr)) (x : TypedNode) (r : Result TypedNode TypeFault) → e ≡ expr.Chain first links → read ≡ first → more ≡ links → typed_of fields read ≡ Ok x
    → Answers {X = TypedNode} {Y = TypedNode} (λ y. y) r (typed_chain x (map (typed_link fields) more)) → Answers {X = TypedNode} {Y = TypedNode} (λ y. y) r (typed_of fields e)
chain_answers fields e first read links more x r is got listed typed a =
    let same : typed_of fields e ≡ typed_chain x (map (typed_link fields) more) =
    ap (typed_of fields) is
    ∙ (typed_of_chain fields first links
    ∙ (ap (λ (v : Result TypedNode ℕ). v >>= λ y. typed_chain y (map (typed_link fields) links)) (ap (typed_of fields) (sym got) ∙ typed)
    ∙ ap (λ (ls : List (Link × Expr)). typed_chain x (map (typed_link fields) ls)) (sym listed))) in
    subst (λ (v : Result TypedNode ℕ). Answers {X = TypedNode} {Y = TypedNode} (λ y. y) r v) (sym same) a

pub call_valued : (row : List Value) (u : Applied) (args : List Node) → value_in row (made.Call u args) ≡ called u (map (value_in row) args)
call_valued row u args = ap (value_in row) (sym (rolls-Call u args)) ∙ fold-roll-Node Valued (value_step row) (Node-F.Call u args)

pub column_valued : (row : List Value) (i : ℕ) → value_in row (made.Column i) ≡ Ok (arg_of (at row i))
column_valued row i = ap (value_in row) (sym (rolls-Column i)) ∙ fold-roll-Node Valued (value_step row) (Node-F.Column i)

pub literal_valued : (row : List Value) (a : Arg) (s : ℕ) → value_in row (made.Literal a s) ≡ Ok a
literal_valued row a s = ap (value_in row) (sym (rolls-Literal a s)) ∙ fold-roll-Node Valued (value_step row) (Node-F.Literal a s)

pub chain_valued : (row : List Value) (first : Node) (links : List (Applied × Node)) → value_in row (made.Chain first links) ≡ then_joined (value_in row first) (map (valued_link row) links)
chain_valued row first links = ap (value_in row) (sym (rolls-Chain first links)) ∙ fold-roll-Node Valued (value_step row) (Node-F.Chain first links)
