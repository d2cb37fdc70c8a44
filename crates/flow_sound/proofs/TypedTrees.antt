-- An expression that is typed over a schema has its typing at each node.
use Rattle.std.proofs.Common.{◌≡◌, ℕ, suc, ◌+◌, List, [], ◌∷◌, ◌++◌, Option, Some, None, Result, Ok, Err, Bool, true, false, map, slice_get, refl, sym, ap, subst, ◌∙◌, arith}
use Rattle.std.specs.Prelude.{codes, if◌then◌else◌}
use Rattle.std.specs.Str.{bytes_eq}
use Rattle.ds_schema.specs.Schemas.{IsSchema}
use Rattle.ds_schema.specs.declared.schema.Field.{Field}
use Rattle.expr_table.specs.declared.arg.Arg.TheVariants.{Text}
use Rattle.expr_table.specs.declared.entry.FnName.{FnName}
use Rattle.expr_read.specs.declared.tree.Link.{Link}
use Rattle.expr_read.specs.declared.tree.Prefix.{Prefix}
use Rattle.expr_read.specs.declared.tree.Expr.{Expr}
use Rattle.expr_read.specs.declared.tree.Expr.TheOpen.{Expr-F}
use Rattle.expr_read.specs.declared.tree.Expr.TheViews.{roll-Expr}
use Rattle.expr_read.specs.declared.tree.Expr.TheFolds.{ind-Expr, fold-roll-Expr, map-Expr}
use Rattle.ds_expr.specs.declared.literal.Number.{Number}
use Rattle.ds_expr.specs.declared.node.Node.TheVariants as made
use Rattle.ds_expr.specs.declared.node.TypedNode.{TypedNode}
use Rattle.ds_expr.specs.declared.node.Nodes.{Nodes}
use Rattle.ds_expr.specs.declared.node.Joined.{Joined}
use Rattle.ds_expr.specs.declared.node.Use.{Use}
use Rattle.ds_expr.specs.Literals.{number_literal, date_literal}
use Rattle.ds_expr.specs.Names.{fn_named, infix_name, prefix_name}
use Rattle.ds_expr.specs.Typing.{◌>>=◌, AreSound, IsSound, begin, chain_of, date_in, date_node, join, no_nodes, number_node, one_joined, one_more, text_literal, typed_args, typed_call, typed_chain, typed_column, typed_date, typed_links, typed_name, typed_number, typed_of, typed_step, typed_text, typed_use, typing_of_kind, use_of}
use Rattle.ds_expr.proofs.Sound.{args_sound, call_sound, column_sound, date_sound, join_sound, number_sound}
use Rattle.ds_expr.proofs.Trees.{chain_typed, literal_typed}

abbrev Typings : Type 0
Typings = Result TypedNode ℕ

given : {A : Type 0} (a b : A) → (let r : Result A ℕ = Ok a in r) ≡ Ok b → a ≡ b
given a b e = cc

-- ---- leaves

number_typed : (fields : List Field) (at : ℕ) (digits : List ℕ) (o : Option Number) (x : TypedNode) → o ≡ number_literal digits → typed_number at o ≡ Ok x → IsSound fields x
number_typed fields at digits (Some n) x h e = subst (IsSound fields) (given (number_node n) x e) (number_sound fields digits n h)
number_typed fields at digits None x h e = absurd cc

text_sound : (fields : List Field) (bytes : List ℕ) → IsSound fields (typed_text bytes)
text_sound fields bytes = record { typing = literal_typed fields (Text bytes) 0; small = omega arith }

-- the column that a name is
record Columned (from : ℕ) (fields : List Field) (x : TypedNode) : Type 0 where
  place : ℕ
  field : Field
  at : slice_get fields place ≡ Some field
  is : x ≡ record { node = made.Column (from + place); typing = typing_of_kind field.kind }

columned_next : (from : ℕ) (f : Field) (fields : List Field) (x : TypedNode) → Columned (from + 1) fields x → Columned from (f ∷ fields) x
columned_next from f fields x c = record {
  place = suc c.place;
  field = c.field;
  at = c.at;
  is = c.is ∙ ap (λ n. let y : TypedNode = record { node = made.Column n; typing = typing_of_kind c.field.kind } in y) (omega arith);
}

columned : (at from : ℕ) (name : List ℕ) (fields : List Field) (x : TypedNode) → typed_column at from name fields ≡ Ok x → Columned from fields x
columned at from name [] x e = absurd cc
columned at from name (f ∷ fields) x e = go (bytes_eq f.name name) (columned at (from + 1) name fields x) e
  where
    first : TypedNode
    first = record { node = made.Column from; typing = typing_of_kind f.kind }

    go : (b : Bool) → (typed_column at (from + 1) name fields ≡ Ok x → Columned (from + 1) fields x) → (if b then Ok first else typed_column at (from + 1) name fields) ≡ Ok x → Columned from (f ∷ fields) x
    go true later g = record { place = 0; field = f; at = refl; is = sym (given first x g) ∙ ap (λ n. let y : TypedNode = record { node = made.Column n; typing = typing_of_kind f.kind } in y) (omega arith) }
    go false later g = columned_next from f fields x (later g)

column_typed : (fields : List Field) (at : ℕ) (name : List ℕ) (x : TypedNode) → IsSchema fields → typed_column at 0 name fields ≡ Ok x → IsSound fields x
column_typed fields at name x s e =
    let c = columned at 0 name fields x e in
    subst (IsSound fields) (sym (c.is ∙ ap (λ n. let y : TypedNode = record { node = made.Column n; typing = typing_of_kind c.field.kind } in y) (let none : 0 + c.place ≡ c.place = omega arith in none))) (column_sound fields c.place c.field s c.at)

-- ---- what is applied

use_typed : (fields : List Field) (at : ℕ) (f : FnName) (xs : Nodes) (o : Option Use) (x : TypedNode) → AreSound fields xs → o ≡ use_of f xs.typings → typed_use at xs.nodes o ≡ Ok x → IsSound fields x
use_typed fields at f xs (Some u) x h o e = subst (IsSound fields) (given (let y : TypedNode = record { node = made.Call u.applied xs.nodes; typing = u.typing } in y) x e) (call_sound fields f xs u h o)
use_typed fields at f xs None x h o e = absurd cc

name_typed : (fields : List Field) (at : ℕ) (xs : Nodes) (f : Option FnName) (x : TypedNode) → AreSound fields xs → typed_name at xs f ≡ Ok x → IsSound fields x
name_typed fields at xs (Some f) x h e = use_typed fields at f xs (use_of f xs.typings) x h refl e
name_typed fields at xs None x h e = absurd cc

day_typed : (fields : List Field) (at : ℕ) (bytes : List ℕ) (o : Option _) (x : TypedNode) → o ≡ date_literal bytes → typed_date at o ≡ Ok x → IsSound fields x
day_typed fields at bytes (Some day) x h e = subst (IsSound fields) (given (date_node day) x e) (date_sound fields bytes day h)
day_typed fields at bytes None x h e = absurd cc

date_typed : (fields : List Field) (at : ℕ) (text : Option (List ℕ)) (x : TypedNode) → typed_date at (date_in text) ≡ Ok x → IsSound fields x
date_typed fields at (Some bytes) x e = day_typed fields at bytes (date_literal bytes) x refl e
date_typed fields at None x e = absurd cc

call_typed : (fields : List Field) (at : ℕ) (name : List ℕ) (xs : Nodes) (x : TypedNode) → AreSound fields xs → typed_call at name xs ≡ Ok x → IsSound fields x
unfolding typed_call
call_typed fields at name xs x h e = go (bytes_eq name (codes "date")) e
  where
    go : (b : Bool) → (if b then typed_date at (date_in (text_literal xs.nodes)) else typed_name at xs (fn_named name)) ≡ Ok x → IsSound fields x
    go true g = date_typed fields at (text_literal xs.nodes) x g
    go false g = name_typed fields at xs (fn_named name) x h g

-- ---- trees

abbrev SoundOf : List Field → Expr → Type 0
SoundOf fields e = (x : TypedNode) → typed_of fields e ≡ Ok x → IsSound fields x

abbrev Such : List Field → Type 0
Such fields = (e : Expr) × SoundOf fields e

none_sound : (fields : List Field) → AreSound fields no_nodes
none_sound fields = record { typings = refl; small = tt }

args_typed : (fields : List Field) (es : List (Such fields)) (found xs : Nodes) → AreSound fields found → typed_args found (map (typed_of fields) (map (λ e. e.0) es)) ≡ Ok xs → AreSound fields xs
args_typed fields [] found xs h e = subst (AreSound fields) (given found xs e) h
args_typed fields (first ∷ es) found xs h e = go (typed_of fields first.0) first.1 (λ more k g. args_typed fields es more xs k g) e
  where
    go : (r : Typings) → ((x : TypedNode) → r ≡ Ok x → IsSound fields x) → ((more : Nodes) → AreSound fields more → typed_args more (map (typed_of fields) (map (λ e. e.0) es)) ≡ Ok xs → AreSound fields xs)
        → (r >>= λ x. typed_args (one_more found x) (map (typed_of fields) (map (λ e. e.0) es))) ≡ Ok xs → AreSound fields xs
    go (Ok x) k rest g = rest (one_more found x) (args_sound fields found (one_more found x) x h (k x refl) refl) g
    go (Err at) k rest g = absurd cc

called : (fields : List Field) (at : ℕ) (name : List ℕ) (r : Result Nodes ℕ) (x : TypedNode) → ((xs : Nodes) → r ≡ Ok xs → AreSound fields xs) → (r >>= λ xs. typed_call at name xs) ≡ Ok x → IsSound fields x
called fields at name (Ok xs) x h e = call_typed fields at name xs x (h xs refl) e
called fields at name (Err a) x h e = absurd cc

one_sound : (fields : List Field) (x : TypedNode) → IsSound fields x → AreSound fields (record { nodes = x.node ∷ []; typings = x.typing ∷ [] })
one_sound fields x h = record { typings = rw h.typing refl; small = (h.small, tt) }

signed : (fields : List Field) (at : ℕ) (s : Prefix) (r : Typings) (x : TypedNode) → ((y : TypedNode) → r ≡ Ok y → IsSound fields y) → (r >>= λ y. typed_use at (y.node ∷ []) (use_of (prefix_name s) (y.typing ∷ []))) ≡ Ok x → IsSound fields x
signed fields at s (Ok y) x h e = use_typed fields at (prefix_name s) (record { nodes = y.node ∷ []; typings = y.typing ∷ [] }) (use_of (prefix_name s) (y.typing ∷ [])) x (one_sound fields y (h y refl)) refl e
signed fields at s (Err a) x h e = absurd cc

begin_sound : (fields : List Field) (x : TypedNode) → IsSound fields x → IsSound fields (chain_of (begin x))
begin_sound fields x h = record { typing = chain_typed fields x.node [] ∙ rw h.typing refl; small = h.small }

joined_sound : (fields : List Field) (at : ℕ) (f : FnName) (left y : Joined) (right : TypedNode) (o : Option Use) → IsSound fields (chain_of left) → IsSound fields right → o ≡ use_of f (left.typing ∷ right.typing ∷ []) → one_joined at left right.node o ≡ Ok y → IsSound fields (chain_of y)
joined_sound fields at f left y right (Some u) h k o e =
    let made_of : Joined = record { first = left.first; links = left.links ++ (u.applied, right.node) ∷ []; typing = u.typing } in
    subst (λ (z : Joined). IsSound fields (chain_of z)) (given made_of y e) (join_sound fields f left right u (left.links ++ (u.applied, right.node) ∷ []) h k (sym o) refl)
joined_sound fields at f left y right None h k o e = absurd cc

abbrev linked : (fields : List Field) → Link × Such fields → Link × Expr
linked fields l = (l.0, l.1.0)

links_typed : (fields : List Field) (ls : List (Link × Such fields)) (left y : Joined) → IsSound fields (chain_of left) → typed_links left (map (λ (l : Link × Expr). (l.0, typed_of fields l.1)) (map (linked fields) ls)) ≡ Ok y → IsSound fields (chain_of y)
links_typed fields [] left y h e = subst (λ (z : Joined). IsSound fields (chain_of z)) (given left y e) h
links_typed fields (l ∷ ls) left y h e = go (typed_of fields l.1.0) l.1.1 (λ z k g. links_typed fields ls z y k g) e
  where
    Rest : Type 0
    Rest = (z : Joined) → IsSound fields (chain_of z) → typed_links z (map (λ (k : Link × Expr). (k.0, typed_of fields k.1)) (map (linked fields) ls)) ≡ Ok y → IsSound fields (chain_of y)

    then_rest : (r : Result Joined ℕ) → ((z : Joined) → r ≡ Ok z → IsSound fields (chain_of z)) → Rest → (r >>= λ z. typed_links z (map (λ (k : Link × Expr). (k.0, typed_of fields k.1)) (map (linked fields) ls))) ≡ Ok y → IsSound fields (chain_of y)
    then_rest (Ok z) k rest g = rest z (k z refl) g
    then_rest (Err at) k rest g = absurd cc

    go : (r : Typings) → ((x : TypedNode) → r ≡ Ok x → IsSound fields x) → Rest → (r >>= λ right. join l.0 left right >>= λ z. typed_links z (map (λ (k : Link × Expr). (k.0, typed_of fields k.1)) (map (linked fields) ls))) ≡ Ok y → IsSound fields (chain_of y)
    go (Ok right) k rest g =
        then_rest (join l.0 left right) (λ z q. joined_sound fields l.0.at (infix_name l.0.sign) left z right (use_of (infix_name l.0.sign) (left.typing ∷ right.typing ∷ [])) h (k right refl) refl q) rest g
    go (Err at) k rest g = absurd cc

chain_end : (fields : List Field) (r : Result Joined ℕ) (x : TypedNode) → ((y : Joined) → r ≡ Ok y → IsSound fields (chain_of y)) → (r >>= λ y. Ok (chain_of y)) ≡ Ok x → IsSound fields x
chain_end fields (Ok y) x h e = subst (IsSound fields) (given (chain_of y) x e) (h y refl)
chain_end fields (Err at) x h e = absurd cc

chained : (fields : List Field) (ls : List (Link × Such fields)) (r : Typings) (x : TypedNode) → ((y : TypedNode) → r ≡ Ok y → IsSound fields y) → (r >>= λ y. typed_chain y (map (λ (l : Link × Expr). (l.0, typed_of fields l.1)) (map (linked fields) ls))) ≡ Ok x → IsSound fields x
chained fields ls (Ok y) x h e =
    chain_end fields (typed_links (begin y) (map (λ (l : Link × Expr). (l.0, typed_of fields l.1)) (map (linked fields) ls))) x (λ z q. links_typed fields ls (begin y) z (begin_sound fields y (h y refl)) q) e
chained fields ls (Err at) x h e = absurd cc

layer_sound : (fields : List Field) → IsSchema fields → (y : Expr-F (Such fields)) → SoundOf fields (roll-Expr (map-Expr (Such fields) Expr (λ e. e.0) y))
layer_sound fields s (Expr-F.Number at digits) x e = number_typed fields at digits (number_literal digits) x refl (sym (fold-roll-Expr Typings (typed_step fields) (Expr-F.Number at digits)) ∙ e)
layer_sound fields s (Expr-F.Quoted at bytes) x e = subst (IsSound fields) (given (typed_text bytes) x (sym (fold-roll-Expr Typings (typed_step fields) (Expr-F.Quoted at bytes)) ∙ e)) (text_sound fields bytes)
layer_sound fields s (Expr-F.Column at name) x e = column_typed fields at name x s (sym (fold-roll-Expr Typings (typed_step fields) (Expr-F.Column at name)) ∙ e)
layer_sound fields s (Expr-F.Call at name es) x e =
    called fields at name (typed_args no_nodes (map (typed_of fields) (map (λ e. e.0) es))) x (λ xs q. args_typed fields es no_nodes xs (none_sound fields) q) (sym (fold-roll-Expr Typings (typed_step fields) (Expr-F.Call at name (map (λ e. e.0) es))) ∙ e)
layer_sound fields s (Expr-F.Signed at p first) x e = signed fields at p (typed_of fields first.0) x first.1 (sym (fold-roll-Expr Typings (typed_step fields) (Expr-F.Signed at p first.0)) ∙ e)
layer_sound fields s (Expr-F.Chain first ls) x e = chained fields ls (typed_of fields first.0) x first.1 (sym (fold-roll-Expr Typings (typed_step fields) (Expr-F.Chain first.0 (map (linked fields) ls))) ∙ e)

pub typed_sound : (fields : List Field) → IsSchema fields → (e : Expr) (x : TypedNode) → typed_of fields e ≡ Ok x → IsSound fields x
typed_sound fields s = ind-Expr (SoundOf fields) (λ x y is. subst (λ (z : Expr-F Expr). SoundOf fields (roll-Expr z)) is (layer_sound fields s y))
