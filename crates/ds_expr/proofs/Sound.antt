-- What is found for a node holds of it.
use Rattle.std.proofs.Common.{◌≡◌, ◌≤◌, ◌<◌, ◌+◌, ◌^◌, ℕ, zero, suc, ℤ, pos, List, [], ◌∷◌, ◌++◌, Bool, true, false, Option, Some, None, Result, Ok, drop, drop-cons, refl, sym, ap, subst, ◌∙◌, length, get_or, map, arith, slice_get}
use Rattle.std.specs.Prelude.{nat_le, nat_lt, max, sum, ◌==◌, ◌&&◌, if◌then◌else◌}
use Rattle.std.specs.List.{AllByRecursion}
use Rattle.std.specs.Str.{bytes_eq}
use Rattle.std.specs.Cmp.{first_so, second_so}
use Rattle.std.proofs.lemmas.Bool.{leb-true, le-leb, eq-eqb}
use Rattle.std.proofs.lemmas.List.{map-append}
use Rattle.std.proofs.lemmas.Option.{slice_get_read}
use Rattle.std.proofs.lemmas.Slice.Eq.{bytes_eq-Decides}
use Rattle.ds_value.specs.declared.kind.Kind.{Kind}
use Rattle.ds_value.specs.declared.kind.Kind.TheVariants as kind
use Rattle.ds_value.specs.Kinds.{IsKind}
use Rattle.ds_schema.specs.Schemas.{IsSchema, IsField}
use Rattle.ds_schema.specs.declared.schema.Field.{Field}
use Rattle.expr_table.specs.declared.entry.FnName.{FnName}
use Rattle.expr_table.specs.declared.entry.FnName.TheVariants as fn
use Rattle.expr_table.specs.TableRows.{rows, row_with}
use Rattle.expr_table.specs.Scales.{result_scale, greater_scale, scale_of_wholes, scale_of_rounded}
use Rattle.ds_expr.specs.declared.literal.Number.{Number}
use Rattle.ds_expr.specs.declared.node.Typing.{Typing}
use Rattle.ds_expr.specs.declared.node.Applied.{Applied}
use Rattle.ds_expr.specs.declared.node.Node.{Node}
use Rattle.ds_expr.specs.declared.node.Node.TheVariants as made
use Rattle.ds_expr.specs.declared.node.TypedNode.{TypedNode}
use Rattle.ds_expr.specs.declared.node.Nodes.{Nodes}
use Rattle.ds_expr.specs.declared.node.Joined.{Joined}
use Rattle.ds_expr.specs.declared.node.Use.{Use}
use Rattle.ds_expr.specs.Literals.{number_literal, units_of, scale_of, date_literal}
use Rattle.expr_read.specs.declared.tree.Expr.{Expr}
use Rattle.ds_expr.specs.Typing.{◌>>=◌, typed_of, typed_args, use_of, use_at, shapes_of, scales_of, second_literal, result_in, typing_in, typing_of_use, agreed, are_small, all_typed, then_some, IsSound, AreSound, number_node, date_node, one_more, typing_of_kind, column_typing, typings_joined, chain_of}
use Rattle.ds_expr.specs.Typed.{link_typing}
use Rattle.ds_expr.proofs.Dates.{day_in_range}
use Rattle.ds_expr.proofs.Trees.{call_typing, chain_typed, column_typed, literal_typed}
use Rattle.expr_table.specs.declared.arg.Arg.TheVariants.{Num, Date}

-- ---- scales

abbrev pub AreSmall : List ℕ → Type 0
AreSmall ss = AllByRecursion (λ s. s ≤ 38) ss

small_scales : (ts : List Typing) → AllByRecursion (λ (t : Typing). t.scale ≤ 38) ts → AreSmall (scales_of ts)
small_scales [] h = tt
small_scales (t ∷ ts) h = (h.0, small_scales ts h.1)

greater_small : (ss : List ℕ) → AreSmall ss → greater_scale ss ≤ 38
greater_small [] h = omega arith
greater_small (s ∷ ss) h = omega (arith, greater_small ss h.1, h.0)

some_is : {A : Type 0} (a b : A) → Some a ≡ Some b → a ≡ b
some_is a b e = cc

given : (n s : ℕ) → Some n ≡ Some s → n ≤ 38 → s ≤ 38
given n s e h = let same : n ≡ s = some_is n s e in omega arith

given_if : (t : Bool) (n s : ℕ) → (if t then Some n else None) ≡ Some s → (t ≡ true → n ≤ 38) → s ≤ 38
given_if true n s e h = given n s e (h refl)
given_if false n s e h = absurd cc

rounded_small : (ss : List ℕ) (o : Option ℕ) (s : ℕ) → scale_of_rounded ss o ≡ Some s → AreSmall ss → s ≤ 38
rounded_small (a ∷ zero ∷ []) (Some places) s e h = given_if (nat_le places a) places s e (λ t. omega (arith, leb-true places a t, h.0))
rounded_small (a ∷ suc b ∷ []) (Some places) s e h = absurd cc
rounded_small (a ∷ zero ∷ []) None s e h = absurd cc
rounded_small (a ∷ suc b ∷ []) None s e h = absurd cc
rounded_small (a ∷ zero ∷ c ∷ ss) (Some places) s e h = absurd cc
rounded_small (a ∷ suc b ∷ c ∷ ss) (Some places) s e h = absurd cc
rounded_small (a ∷ zero ∷ c ∷ ss) None s e h = absurd cc
rounded_small (a ∷ suc b ∷ c ∷ ss) None s e h = absurd cc
rounded_small (a ∷ []) (Some places) s e h = absurd cc
rounded_small (a ∷ []) None s e h = absurd cc
rounded_small [] (Some places) s e h = absurd cc
rounded_small [] None s e h = absurd cc

wholes_small : (ss : List ℕ) (s : ℕ) → scale_of_wholes ss ≡ Some s → s ≤ 38
wholes_small ss s e = given_if _ 0 s e (λ t. omega arith)

pub scale_small : (f : FnName) (ss : List ℕ) (o : Option ℕ) (s : ℕ) → result_scale f ss o ≡ Some s → AreSmall ss → s ≤ 38
scale_small fn.Plus ss o s e h = given _ s e (greater_small ss h)
scale_small fn.Minus ss o s e h = given _ s e (greater_small ss h)
scale_small fn.Times ss o s e h = given_if (nat_le (sum ss) 38) (sum ss) s e (leb-true (sum ss) 38)
scale_small fn.Divide ss o s e h = wholes_small ss s e
scale_small fn.Remainder ss o s e h = wholes_small ss s e
scale_small fn.IfNull ss o s e h = given _ s e (greater_small ss h)
scale_small fn.If ss o s e h = given _ s e (greater_small ss h)
scale_small fn.Abs ss o s e h = given _ s e (greater_small ss h)
scale_small fn.Round ss o s e h = rounded_small ss o s e h
scale_small fn.Least ss o s e h = given _ s e (greater_small ss h)
scale_small fn.Greatest ss o s e h = given _ s e (greater_small ss h)
scale_small fn.Substr ss o s e h = wholes_small ss s e
scale_small fn.AddDays ss o s e h = wholes_small ss s e
scale_small f ss o s e h = given 0 s e (omega arith)

-- ---- the row that is applied

pub record UseIs (f : FnName) (ts : List Typing) (u : Use) : Type 0 where
  pub name : u.applied.name ≡ f
  pub row : row_with rows f (shapes_of ts) ≡ Some u.applied.row
  pub scales : u.applied.scales ≡ scales_of ts
  pub shape : u.typing.shape ≡ result_in (slice_get rows u.applied.row)
  pub scale : result_scale f (scales_of ts) (second_literal ts) ≡ Some u.typing.scale
  pub literal : u.typing.literal ≡ None

use_is_by : (f : FnName) (ts : List Typing) (u : Use) (row scale : Option ℕ) → row_with rows f (shapes_of ts) ≡ row → result_scale f (scales_of ts) (second_literal ts) ≡ scale → use_at f ts row scale ≡ Some u → UseIs f ts u
use_is_by f ts u None scale r s e = absurd cc
use_is_by f ts u (Some row) None r s e = absurd cc
use_is_by f ts u (Some row) (Some scale) r s e =
    let v : Use = record { applied = record { name = f; row = row; scales = scales_of ts }; typing = record { shape = result_in (slice_get rows row); scale = scale; literal = None } } in
    let same : v ≡ u = some_is v u e in
    let known : UseIs f ts v = record { name = refl; row = r; scales = refl; shape = refl; scale = s; literal = refl } in
    subst (λ (w : Use). UseIs f ts w) same known

pub use_is : (f : FnName) (ts : List Typing) (u : Use) → use_of f ts ≡ Some u → UseIs f ts u
unfolding use_of
use_is f ts u e = use_is_by f ts u (row_with rows f (shapes_of ts)) (result_scale f (scales_of ts) (second_literal ts)) refl refl e

same_row : (n : ℕ) → (n == n) ≡ true
same_row n = eq-eqb n n refl

same_bytes : (a : List ℕ) → bytes_eq a a ≡ true
same_bytes a = (bytes_eq-Decides a a).1 refl

agreed_itself : (u : Use) → agreed u.applied (Some u) ≡ Some u.typing
agreed_itself u = rw (same_row u.applied.row, same_bytes u.applied.scales) refl

small_test : (ts : List Typing) → AllByRecursion (λ (t : Typing). t.scale ≤ 38) ts → are_small ts ≡ true
small_test [] h = refl
small_test (t ∷ ts) h = rw (le-leb t.scale 38 h.0, small_test ts h.1) refl

pub use_agrees : (f : FnName) (ts : List Typing) (u : Use) → use_of f ts ≡ Some u → AllByRecursion (λ (t : Typing). t.scale ≤ 38) ts → typing_of_use u.applied ts ≡ Some u.typing
use_agrees f ts u e h =
    let k = use_is f ts u e in
    ap (λ (b : Bool). if b then agreed u.applied (use_of u.applied.name ts) else None) (small_test ts h)
    ∙ (ap (λ (g : FnName). agreed u.applied (use_of g ts)) k.name ∙ (ap (agreed u.applied) e ∙ agreed_itself u))

pub use_small : (f : FnName) (ts : List Typing) (u : Use) → use_of f ts ≡ Some u → AllByRecursion (λ (t : Typing). t.scale ≤ 38) ts → u.typing.scale ≤ 38
use_small f ts u e h = scale_small f (scales_of ts) (second_literal ts) u.typing.scale (use_is f ts u e).scale (small_scales ts h)

pub call_sound : (fields : List Field) (f : FnName) (xs : Nodes) (u : Use) → AreSound fields xs → Some u ≡ use_of f xs.typings → IsSound fields (record { node = made.Call u.applied xs.nodes; typing = u.typing })
call_sound fields f xs u h e =
    record {
      typing = call_typing fields u.applied xs.nodes ∙ (ap (λ (o : Option (List Typing)). then_some o (typing_of_use u.applied)) h.typings ∙ use_agrees f xs.typings u (sym e) h.small);
      small = use_small f xs.typings u (sym e) h.small;
    }

-- ---- literals and columns

number_by : (t : Bool) (digits : List ℕ) (n : Number) → (nat_le (scale_of digits) 38 && nat_lt (units_of digits) (10 ^ 38)) ≡ t
    → (if t then Some (let m : Number = record { units = pos (units_of digits); scale = scale_of digits } in m) else None) ≡ Some n → (fields : List Field) → IsSound fields (number_node n)
number_by false digits n b e fields = absurd cc
number_by true digits n b e fields =
    let few : nat_le (scale_of digits) 38 ≡ true = first_so (nat_le (scale_of digits) 38) (nat_lt (units_of digits) (10 ^ 38)) b in
    let small : nat_lt (units_of digits) (10 ^ 38) ≡ true = second_so (nat_le (scale_of digits) 38) (nat_lt (units_of digits) (10 ^ 38)) b in
    let m : Number = record { units = pos (units_of digits); scale = scale_of digits } in
    let same : m ≡ n = some_is m n e in
    let known : IsSound fields (number_node m) = record { typing = literal_typed fields (Num (pos (units_of digits))) (scale_of digits) ∙ rw (small, few) refl; small = leb-true (scale_of digits) 38 few } in
    subst (λ (k : Number). IsSound fields (number_node k)) same known

pub number_sound : (fields : List Field) (digits : List ℕ) (n : Number) → Some n ≡ number_literal digits → IsSound fields (number_node n)
unfolding number_literal
number_sound fields digits n e = number_by _ digits n refl (sym e) fields

pub date_sound : (fields : List Field) (bytes : List ℕ) (day : ℤ) → Some day ≡ date_literal bytes → IsSound fields (date_node day)
date_sound fields bytes day e = record { typing = literal_typed fields (Date day) 0 ∙ rw (day_in_range bytes day (sym e)) refl; small = omega arith }

kind_small : (k : Kind) → IsKind k → (typing_of_kind k).scale ≤ 38
kind_small (kind.Int bits) h = omega arith
kind_small (kind.UInt bits) h = omega arith
kind_small (kind.Dec p s) h = omega (arith, h.1.0, h.1.1)
kind_small (kind.Text max fixed) h = omega arith
kind_small kind.Date h = omega arith

field_at : (fields : List Field) (i : ℕ) (f : Field) → AllByRecursion IsField fields → slice_get fields i ≡ Some f → IsField f
field_at [] i f h e = absurd cc
field_at (g ∷ fields) zero f h e = subst IsField (some_is g f e) h.0
field_at (g ∷ fields) (suc i) f h e = field_at fields i f h.1 e

pub column_sound : (fields : List Field) (i : ℕ) (f : Field) → IsSchema fields → slice_get fields i ≡ Some f → IsSound fields (record { node = made.Column i; typing = typing_of_kind f.kind })
column_sound fields i f h e = record { typing = column_typed fields i ∙ ap column_typing e; small = kind_small f.kind (field_at fields i f h.each e).1 }

pub column_read : (fields read : List Field) (i : ℕ) (f d : Field) (t : Typing) → read ≡ fields → IsSchema fields → i < length read → f ≡ get_or read i f → t ≡ typing_of_kind f.kind → IsSound fields (record { node = made.Column i; typing = t })
column_read fields read i f d t same h within at typed =
    let found : slice_get fields i ≡ Some f = ap (λ (xs : List Field). slice_get xs i) (sym same) ∙ slice_get_read read (length read) i f refl within at in
    let known = column_sound fields i f h found in
    subst (λ (u : Typing). IsSound fields (record { node = made.Column i; typing = u })) (sym typed) known

-- ---- operands joined from the left

joined_further : (found : Option Typing) (xs : List (Applied × Option Typing)) (u : Applied) (o : Option Typing)
    → ((s : Typing) → typings_joined s (xs ++ (u, o) ∷ []) ≡ then_some (typings_joined s xs) (λ s. then_some o (λ right. then_some (typing_of_use u (s ∷ right ∷ [])) (λ r. Some r))))
    → then_some found (λ s. typings_joined s (xs ++ (u, o) ∷ [])) ≡ then_some (then_some found (λ s. typings_joined s xs)) (λ s. then_some o (λ right. then_some (typing_of_use u (s ∷ right ∷ [])) (λ r. Some r)))
joined_further (Some s) xs u o more = more s
joined_further None xs u o more = refl

joined_more : (t : Typing) (xs : List (Applied × Option Typing)) (u : Applied) (o : Option Typing)
    → typings_joined t (xs ++ (u, o) ∷ []) ≡ then_some (typings_joined t xs) (λ s. then_some o (λ right. then_some (typing_of_use u (s ∷ right ∷ [])) (λ r. Some r)))
joined_more t [] u o = refl
joined_more t ((v, None) ∷ xs) u o = refl
joined_more t ((v, Some right) ∷ xs) u o = joined_further (typing_of_use v (t ∷ right ∷ [])) xs u o (λ s. joined_more s xs u o)

-- what is known of the first operand gives what is known of all
joined_by : (fields : List Field) (o : Option Typing) (links : List (Applied × Node)) (right : Node) (u : Use) (t r : Typing) → then_some o (λ a. typings_joined a (map (link_typing fields) links)) ≡ Some t → typing_in fields right ≡ Some r
    → typing_of_use u.applied (t ∷ r ∷ []) ≡ Some u.typing → then_some o (λ a. typings_joined a (map (link_typing fields) (links ++ (u.applied, right) ∷ []))) ≡ Some u.typing
joined_by fields None links right u t r e k g = absurd cc
joined_by fields (Some a) links right u t r e k g =
    ap (typings_joined a) (map-append (link_typing fields) links ((u.applied, right) ∷ []))
    ∙ (joined_more a (map (link_typing fields) links) u.applied (typing_in fields right)
    ∙ rw (e, k, g) refl)

pub join_sound : (fields : List Field) (f : FnName) (left : Joined) (right : TypedNode) (u : Use) (links : List (Applied × Node)) → IsSound fields (chain_of left) → IsSound fields right → use_of f (left.typing ∷ right.typing ∷ []) ≡ Some u
    → links ≡ left.links ++ (u.applied, right.node) ∷ [] → IsSound fields (chain_of (record { first = left.first; links = links; typing = u.typing }))
join_sound fields f left right u links h k e pushed =
    let known = joined_by fields (typing_in fields left.first) left.links right.node u left.typing right.typing (sym (chain_typed fields left.first left.links) ∙ h.typing) k.typing (use_agrees f (left.typing ∷ right.typing ∷ []) u e (h.small, (k.small, tt))) in
    record {
      typing = chain_typed fields left.first links ∙ (ap (λ (ls : List (Applied × Node)). then_some (typing_in fields left.first) (λ a. typings_joined a (map (link_typing fields) ls))) pushed ∙ known);
      small = use_small f (left.typing ∷ right.typing ∷ []) u e (h.small, (k.small, tt));
    }

-- ---- arguments

-- by what is known of the rest
all_typed_behind : (s t : Typing) (os : List (Option Typing)) (o : Option Typing) (v : Option (List Typing)) (ts : List Typing) → then_some v (λ us. Some (s ∷ us)) ≡ Some ts → ((us : List Typing) → v ≡ Some us → all_typed (os ++ o ∷ []) ≡ Some (us ++ t ∷ []))
    → then_some (all_typed (os ++ o ∷ [])) (λ us. Some (s ∷ us)) ≡ Some (ts ++ t ∷ [])
all_typed_behind s t os o None ts e more = absurd cc
all_typed_behind s t os o (Some us) ts e more = rw (more us refl) (ap (λ (vs : List Typing). Some (vs ++ t ∷ [])) (some_is (s ∷ us) ts e))

all_typed_more : (os : List (Option Typing)) (ts : List Typing) (o : Option Typing) (t : Typing) → all_typed os ≡ Some ts → o ≡ Some t → all_typed (os ++ o ∷ []) ≡ Some (ts ++ t ∷ [])
all_typed_more [] ts o t e k = rw k (ap (λ (us : List Typing). Some (us ++ t ∷ [])) (some_is [] ts e))
all_typed_more (None ∷ os) ts o t e k = absurd cc
all_typed_more (Some s ∷ os) ts o t e k = all_typed_behind s t os o (all_typed os) ts e (λ us g. all_typed_more os us o t g k)

small_more : (ts : List Typing) (t : Typing) → AllByRecursion (λ (u : Typing). u.scale ≤ 38) ts → t.scale ≤ 38 → AllByRecursion (λ (u : Typing). u.scale ≤ 38) (ts ++ t ∷ [])
small_more [] t h k = (k, tt)
small_more (u ∷ ts) t h k = (h.0, small_more ts t h.1 k)

pub args_sound : (fields : List Field) (found more : Nodes) (x : TypedNode) → AreSound fields found → IsSound fields x → more ≡ one_more found x → AreSound fields more
args_sound fields found more x h k e =
    let known : AreSound fields (one_more found x) = record {
      typings = ap all_typed (map-append (typing_in fields) found.nodes (x.node ∷ [])) ∙ all_typed_more (map (typing_in fields) found.nodes) found.typings (typing_in fields x.node) x.typing h.typings k.typing;
      small = small_more found.typings x.typing h.small k.small;
    } in
    subst (AreSound fields) (sym e) known

pub args_step : (fields : List Field) (exprs : List Expr) (i : ℕ) (e : Expr) (found more : Nodes) (x : TypedNode) → i < length exprs → e ≡ get_or exprs i e → typed_of fields e ≡ Ok x → more ≡ one_more found x
    → typed_args found (map (typed_of fields) (drop i exprs)) ≡ typed_args more (map (typed_of fields) (drop (i + 1) exprs))
args_step fields exprs i e found more x within at typed made =
    let split : drop i exprs ≡ e ∷ drop (i + 1) exprs = drop-cons exprs i e within ∙ (ap (λ (f : Expr). f ∷ drop (suc i) exprs) (sym at) ∙ ap (λ (n : ℕ). e ∷ drop n exprs) (let one : suc i ≡ i + 1 = omega arith in one)) in
    ap (λ (es : List Expr). typed_args found (map (typed_of fields) es)) split
    ∙ (ap (λ (r : Result TypedNode ℕ). r >>= λ y. typed_args (one_more found y) (map (typed_of fields) (drop (i + 1) exprs))) typed
    ∙ ap (λ (xs : Nodes). typed_args xs (map (typed_of fields) (drop (i + 1) exprs))) (sym made))
