-- Only a Num has a scale, and none is above 38.
use Rattle.std.proofs.Common.{◌≡◌, ◌≤◌, ℕ, zero, suc, List, [], ◌∷◌, Option, Some, None, Bool, true, false, map, slice_get, sym, ap, subst, ◌∙◌, refl, arith}
use Rattle.std.specs.Prelude.{max, ◌&&◌, ◌||◌, not, nat_lt, nat_le, unsigned_abs, ◌^◌, if◌then◌else◌, sum}
use Rattle.std.specs.List.{AllByRecursion, list_all}
use Rattle.std.specs.Cmp.{first_so, second_so}
use Rattle.std.proofs.lemmas.Bool.{leb-true}
use Rattle.std.proofs.lemmas.List.Sums.{sum_by-cons}
use Rattle.ds_value.specs.declared.kind.Kind.{Kind}
use Rattle.ds_value.specs.declared.kind.Kind.TheVariants as kind
use Rattle.ds_value.specs.declared.value.Value.TheVariants as value
use Rattle.ds_value.specs.Kinds.{IsKind, fits_kind}
use Rattle.ds_schema.specs.declared.schema.Field.{Field}
use Rattle.ds_schema.specs.Schemas.{IsField}
use Rattle.expr_table.specs.declared.entry.Shape.{Shape}
use Rattle.expr_table.specs.declared.entry.Shape.TheVariants as shape
use Rattle.expr_table.specs.declared.entry.FnName.{FnName}
use Rattle.expr_table.specs.declared.entry.FnName.TheVariants as fn
use Rattle.expr_table.specs.declared.entry.Entry.{Entry}
use Rattle.expr_table.specs.declared.arg.Arg.{Arg}
use Rattle.expr_table.specs.declared.arg.Arg.TheVariants.{Null, Num, Text, Date, Truth}
use Rattle.expr_table.specs.Calls.{AreSmall}
use Rattle.expr_table.specs.TableRows.{rows, shapes}
use Rattle.expr_table.specs.Scales.{greater_scale, scale_of_wholes, scale_of_rounded, result_scale}
use Rattle.ds_expr.specs.declared.node.Typing.{Typing}
use Rattle.ds_expr.specs.declared.node.Applied.{Applied}
use Rattle.ds_expr.specs.declared.node.Node.{Node}
use Rattle.ds_expr.specs.declared.node.Node.TheOpen.{Node-F}
use Rattle.ds_expr.specs.declared.node.Node.TheViews.{roll-Node}
use Rattle.ds_expr.specs.declared.node.Node.TheFolds.{ind-Node, fold-roll-Node, map-Node}
use Rattle.ds_expr.specs.Typing.{typing_step, typing_in, typing_of_use, typing_of_kind, typing_of_number, literal_typing, column_typing, shapes_of, scales_of, second_literal, all_typed, typings_joined, then_some}
use Rattle.ds_expr.specs.Typed.{link_typing}
use Rattle.ds_expr.proofs.Sound.{scale_small}
use Rattle.ds_expr.proofs.Fits.{RowIs, row_is, some_is}
use Rattle.ds_expr.proofs.FitsTrees.{first_of_all, then_typed, then_one, first_link, entry_at}

pub record HasPlainScale (t : Typing) : Type 0 where
  pub zero : (t.shape ≡ shape.Num → ⊥) → t.scale ≡ 0
  pub small : t.scale ≤ 38

abbrev pub NodePlain : List Field → Node → Type 0
NodePlain fields node = (t : Typing) → typing_in fields node ≡ Some t → HasPlainScale t

-- ---- scales that are 0

abbrev AreZero : List ℕ → Type 0
AreZero [] = Unit {0}
AreZero (s ∷ ss) = (s ≡ 0) × AreZero ss

zero_given : (n s : ℕ) → Some n ≡ Some s → n ≡ 0 → s ≡ 0
zero_given n s e h = let same : n ≡ s = some_is n s e in omega arith

zero_given_if : (t : Bool) (n s : ℕ) → (if t then Some n else None) ≡ Some s → (t ≡ true → n ≡ 0) → s ≡ 0
zero_given_if true n s e h = zero_given n s e (h refl)
zero_given_if false n s e h = absurd cc

greater_zero : (ss : List ℕ) → AreZero ss → greater_scale ss ≡ 0
greater_zero [] h = refl
greater_zero (s ∷ ss) h = omega (arith, greater_zero ss h.1, h.0)

sum_zero : (ss : List ℕ) → AreZero ss → sum ss ≡ 0
sum_zero [] h = refl
sum_zero (s ∷ ss) h = omega (arith, sum_by-cons (λ (x : ℕ). x) s ss, sum_zero ss h.1, h.0)

rounded_zero : (ss : List ℕ) (o : Option ℕ) (s : ℕ) → scale_of_rounded ss o ≡ Some s → AreZero ss → s ≡ 0
rounded_zero (a ∷ zero ∷ []) (Some places) s e h = zero_given_if (nat_le places a) places s e (λ t. omega (arith, leb-true places a t, h.0))
rounded_zero (a ∷ suc b ∷ []) (Some places) s e h = absurd cc
rounded_zero (a ∷ zero ∷ []) None s e h = absurd cc
rounded_zero (a ∷ suc b ∷ []) None s e h = absurd cc
rounded_zero (a ∷ zero ∷ c ∷ ss) (Some places) s e h = absurd cc
rounded_zero (a ∷ suc b ∷ c ∷ ss) (Some places) s e h = absurd cc
rounded_zero (a ∷ zero ∷ c ∷ ss) None s e h = absurd cc
rounded_zero (a ∷ suc b ∷ c ∷ ss) None s e h = absurd cc
rounded_zero (a ∷ []) (Some places) s e h = absurd cc
rounded_zero (a ∷ []) None s e h = absurd cc
rounded_zero [] (Some places) s e h = absurd cc
rounded_zero [] None s e h = absurd cc

wholes_zero : (ss : List ℕ) (s : ℕ) → scale_of_wholes ss ≡ Some s → s ≡ 0
wholes_zero ss s e = zero_given_if _ 0 s e (λ t. refl)

zeros_scale : (f : FnName) (ss : List ℕ) (o : Option ℕ) (s : ℕ) → result_scale f ss o ≡ Some s → AreZero ss → s ≡ 0
zeros_scale fn.Plus ss o s e h = zero_given _ s e (greater_zero ss h)
zeros_scale fn.Minus ss o s e h = zero_given _ s e (greater_zero ss h)
zeros_scale fn.Times ss o s e h = zero_given_if (nat_le (sum ss) 38) (sum ss) s e (λ t. sum_zero ss h)
zeros_scale fn.Divide ss o s e h = wholes_zero ss s e
zeros_scale fn.Remainder ss o s e h = wholes_zero ss s e
zeros_scale fn.IfNull ss o s e h = zero_given _ s e (greater_zero ss h)
zeros_scale fn.If ss o s e h = zero_given _ s e (greater_zero ss h)
zeros_scale fn.Abs ss o s e h = zero_given _ s e (greater_zero ss h)
zeros_scale fn.Round ss o s e h = rounded_zero ss o s e h
zeros_scale fn.Least ss o s e h = zero_given _ s e (greater_zero ss h)
zeros_scale fn.Greatest ss o s e h = zero_given _ s e (greater_zero ss h)
zeros_scale fn.Substr ss o s e h = wholes_zero ss s e
zeros_scale fn.AddDays ss o s e h = wholes_zero ss s e
zeros_scale f ss o s e h = zero_given 0 s e refl

-- ---- names whose results have the scale 0, whatever their arguments

abbrev is_flat : FnName → Bool
is_flat fn.Plus = false
is_flat fn.Minus = false
is_flat fn.Times = false
is_flat fn.IfNull = false
is_flat fn.If = false
is_flat fn.Abs = false
is_flat fn.Round = false
is_flat fn.Least = false
is_flat fn.Greatest = false
is_flat f = true

flat_scale : (f : FnName) (ss : List ℕ) (o : Option ℕ) (s : ℕ) → is_flat f ≡ true → result_scale f ss o ≡ Some s → s ≡ 0
flat_scale fn.Plus ss o s h e = absurd cc
flat_scale fn.Minus ss o s h e = absurd cc
flat_scale fn.Times ss o s h e = absurd cc
flat_scale fn.IfNull ss o s h e = absurd cc
flat_scale fn.If ss o s h e = absurd cc
flat_scale fn.Abs ss o s h e = absurd cc
flat_scale fn.Round ss o s h e = absurd cc
flat_scale fn.Least ss o s h e = absurd cc
flat_scale fn.Greatest ss o s h e = absurd cc
flat_scale fn.Divide ss o s h e = wholes_zero ss s e
flat_scale fn.Remainder ss o s h e = wholes_zero ss s e
flat_scale fn.Substr ss o s h e = wholes_zero ss s e
flat_scale fn.AddDays ss o s h e = wholes_zero ss s e
flat_scale f ss o s h e = zero_given 0 s e refl

-- ---- the rows

abbrev is_num : Shape → Bool
is_num shape.Num = true
is_num other = false

abbrev no_num : List Shape → Bool
no_num ss = list_all (λ s. not (is_num s)) ss

other_shape : (s : Shape) → (s ≡ shape.Num → ⊥) → is_num s ≡ false
other_shape shape.Num h = absurd (h refl)
other_shape shape.Text h = refl
other_shape shape.Date h = refl
other_shape shape.Truth h = refl
other_shape shape.Unused h = refl

not_num : (s : Shape) → not (is_num s) ≡ true → s ≡ shape.Num → ⊥
not_num s h e = let k : not (is_num shape.Num) ≡ true = ap (λ (r : Shape). not (is_num r)) (sym e) ∙ h in cc

abbrev is_plain : Entry → Bool
is_plain e = is_num e.result || (is_flat e.name || no_num (shapes e))

all_plain : list_all is_plain rows ≡ true
all_plain = refl

zeros : (ts : List Typing) → no_num (shapes_of ts) ≡ true → AllByRecursion HasPlainScale ts → AreZero (scales_of ts)
zeros [] h p = tt
zeros (t ∷ ts) h p = (p.0.zero (not_num t.shape (first_so (not (is_num t.shape)) (no_num (shapes_of ts)) h)), zeros ts (second_so (not (is_num t.shape)) (no_num (shapes_of ts)) h) p.1)

small_again : (ss : List ℕ) → AreSmall ss → AllByRecursion (λ (s : ℕ). s ≤ 38) ss
small_again [] h = tt
small_again (s ∷ ss) h = (h.0, small_again ss h.1)

zero_by : (num flat none : Bool) (f : FnName) (ss : List ℕ) (o : Option ℕ) (s : ℕ) → (num || (flat || none)) ≡ true → num ≡ false → is_flat f ≡ flat → (none ≡ true → AreZero ss) → result_scale f ss o ≡ Some s → s ≡ 0
zero_by true flat none f ss o s h n k z e = absurd cc
zero_by false true none f ss o s h n k z e = flat_scale f ss o s k e
zero_by false false none f ss o s h n k z e = zeros_scale f ss o s e (z h)

row_plain : (u : Applied) (ts : List Typing) (t : Typing) → AllByRecursion HasPlainScale ts → RowIs u ts t → HasPlainScale t
row_plain u ts t p r =
    record {
      zero = λ n. zero_by (is_num r.entry.result) (is_flat r.entry.name) (no_num (shapes r.entry)) u.name (scales_of ts) (second_literal ts) t.scale
          (entry_at is_plain rows u.row r.entry all_plain r.at)
          (other_shape r.entry.result (λ e. n (r.result ∙ e)))
          (ap is_flat (sym r.name))
          (λ z. zeros ts (ap no_num (sym r.shapes) ∙ z) p)
          r.scale;
      small = scale_small u.name (scales_of ts) (second_literal ts) t.scale r.scale (small_again (scales_of ts) r.args);
    }

-- ---- leaves

plain_is : (t u : Typing) → Some t ≡ Some u → HasPlainScale t → HasPlainScale u
plain_is t u e h = subst HasPlainScale (some_is t u e) h

flat_typing : (t : Typing) → t.scale ≡ 0 → HasPlainScale t
flat_typing t h = record { zero = λ n. h; small = omega arith }

number_plain : (b : Bool) (z : _) (s : ℕ) (t : Typing) → (nat_lt (unsigned_abs z) (10 ^ 38) && nat_le s 38) ≡ b → (if b then Some (typing_of_number s z) else None) ≡ Some t → HasPlainScale t
number_plain true z s t b e = plain_is (typing_of_number s z) t e (record { zero = λ n. absurd (n refl); small = leb-true s 38 (second_so (nat_lt (unsigned_abs z) (10 ^ 38)) (nat_le s 38) b) })
number_plain false z s t b e = absurd cc

date_plain : (b : Bool) (t u : Typing) → t.scale ≡ 0 → (if b then Some t else None) ≡ Some u → HasPlainScale u
date_plain true t u h e = plain_is t u e (flat_typing t h)
date_plain false t u h e = absurd cc

literal_plain : (a : Arg) (s : ℕ) (t : Typing) → literal_typing a s ≡ Some t → HasPlainScale t
literal_plain (Num z) s t e = number_plain _ z s t refl e
literal_plain (Text bytes) s t e = plain_is _ t e (flat_typing _ refl)
literal_plain (Date d) s t e = date_plain (fits_kind kind.Date (value.Date d)) _ t refl e
literal_plain Null s t e = absurd cc
literal_plain (Truth b) s t e = absurd cc

kind_plain : (k : Kind) → IsKind k → HasPlainScale (typing_of_kind k)
kind_plain (kind.Int bits) h = flat_typing _ refl
kind_plain (kind.UInt bits) h = flat_typing _ refl
kind_plain (kind.Dec p s) h = record { zero = λ n. absurd (n refl); small = omega arith }
kind_plain (kind.Text max fixed) h = flat_typing _ refl
kind_plain kind.Date h = flat_typing _ refl

column_plain : (fields : List Field) (i : ℕ) (t : Typing) → AllByRecursion IsField fields → column_typing (slice_get fields i) ≡ Some t → HasPlainScale t
column_plain [] i t h e = absurd cc
column_plain (f ∷ fields) zero t h e = plain_is (typing_of_kind f.kind) t e (kind_plain f.kind h.0.1)
column_plain (f ∷ fields) (suc i) t h e = column_plain fields i t h.1 e

-- ---- trees

args_plain : (fields : List Field) (nodes : List Node) (ts : List Typing) → AllByRecursion (NodePlain fields) nodes → all_typed (map (typing_in fields) nodes) ≡ Some ts → AllByRecursion HasPlainScale ts
args_plain fields [] ts h e = subst (AllByRecursion HasPlainScale) (some_is [] ts e) tt
args_plain fields (n ∷ nodes) ts h e =
    let f = first_of_all (typing_in fields n) (map (typing_in fields) nodes) ts e in
    subst (AllByRecursion HasPlainScale) (sym f.whole) (h.0 f.typing f.first, args_plain fields nodes f.more h.1 f.rest)

call_plain : (fields : List Field) (u : Applied) (nodes : List Node) (t : Typing) → AllByRecursion (NodePlain fields) nodes → then_some (all_typed (map (typing_in fields) nodes)) (typing_of_use u) ≡ Some t → HasPlainScale t
call_plain fields u nodes t h e =
    let w = then_typed (all_typed (map (typing_in fields) nodes)) (typing_of_use u) t e in
    row_plain u w.typings t (args_plain fields nodes w.typings h w.first) (row_is u w.typings t w.rest)

joined_plain : (fields : List Field) (links : List (Applied × Node)) (s t : Typing) → AllByRecursion (λ (l : Applied × Node). NodePlain fields l.1) links → HasPlainScale s → typings_joined s (map (link_typing fields) links) ≡ Some t → HasPlainScale t
joined_plain fields [] s t h p e = plain_is s t e p
joined_plain fields (l ∷ links) s t h p e =
    let k = first_link (typing_in fields l.1) l.0 s (map (link_typing fields) links) t e in
    let both : HasPlainScale k.both = row_plain l.0 (s ∷ k.right ∷ []) k.both (p, (h.0 k.right k.first, tt)) (row_is l.0 (s ∷ k.right ∷ []) k.both k.row) in
    joined_plain fields links k.both t h.1 both k.rest

chain_plain : (fields : List Field) (first : Node) (links : List (Applied × Node)) (t : Typing) → NodePlain fields first → AllByRecursion (λ (l : Applied × Node). NodePlain fields l.1) links → then_some (typing_in fields first) (λ s. typings_joined s (map (link_typing fields) links)) ≡ Some t → HasPlainScale t
chain_plain fields first links t h hs e =
    let k = then_one (typing_in fields first) (λ s. typings_joined s (map (link_typing fields) links)) t e in
    joined_plain fields links k.typing t hs (h k.typing k.first) k.rest

abbrev Such : List Field → Type 0
Such fields = (n : Node) × NodePlain fields n

such_all : (fields : List Field) (ns : List (Such fields)) → AllByRecursion (NodePlain fields) (map (λ n. n.0) ns)
such_all fields [] = tt
such_all fields (n ∷ ns) = (n.1, such_all fields ns)

such_links : (fields : List Field) (ls : List (Applied × Such fields)) → AllByRecursion (λ (l : Applied × Node). NodePlain fields l.1) (map (λ l. (l.0, l.1.0)) ls)
such_links fields [] = tt
such_links fields (l ∷ ls) = (l.1.1, such_links fields ls)

layer_plain : (fields : List Field) → AllByRecursion IsField fields → (y : Node-F (Such fields)) → NodePlain fields (roll-Node (map-Node (Such fields) Node (λ e. e.0) y))
layer_plain fields h (Node-F.Literal a s) t g = literal_plain a s t (sym (fold-roll-Node (Option Typing) (typing_step fields) (Node-F.Literal a s)) ∙ g)
layer_plain fields h (Node-F.Column i) t g = column_plain fields i t h (sym (fold-roll-Node (Option Typing) (typing_step fields) (Node-F.Column i)) ∙ g)
layer_plain fields h (Node-F.Call u ns) t g = call_plain fields u (map (λ n. n.0) ns) t (such_all fields ns) (sym (fold-roll-Node (Option Typing) (typing_step fields) (Node-F.Call u (map (λ n. n.0) ns))) ∙ g)
layer_plain fields h (Node-F.Chain first ls) t g =
    chain_plain fields first.0 (map (λ l. (l.0, l.1.0)) ls) t first.1 (such_links fields ls) (sym (fold-roll-Node (Option Typing) (typing_step fields) (Node-F.Chain first.0 (map (λ l. (l.0, l.1.0)) ls))) ∙ g)

pub node_plain : (fields : List Field) → AllByRecursion IsField fields → (node : Node) → NodePlain fields node
node_plain fields h = ind-Node (NodePlain fields) (λ x y is. subst (λ (z : Node-F Node). NodePlain fields (roll-Node z)) is (layer_plain fields h y))
