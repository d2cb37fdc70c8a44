-- The value of a typed tree has its shape and lies in its range, from the leaves on.
use Rattle.std.proofs.Common.{◌≡◌, ◌≤◌, ◌<◌, ◌^◌, ℕ, zero, suc, ℤ, pos, negsuc, List, [], ◌∷◌, ◌++◌, Option, Some, None, Result, Ok, Err, Bool, true, false, map, slice_get, sym, ap, subst, ◌∙◌, refl, arith, FitsSigned, w64, append_assoc}
use Rattle.std.specs.Prelude.{nat_lt, nat_le, unsigned_abs, ◌&&◌, ◌||◌, not, if◌then◌else◌}
use Rattle.std.specs.List.{AllByRecursion, list_all}
use Rattle.std.specs.Cmp.{first_so, second_so}
use Rattle.std.proofs.lemmas.Bool.{ltb-true}
use Rattle.std.proofs.lemmas.Int.{ints}
use Rattle.std.proofs.lemmas.List.{append-nil}
use Rattle.std.proofs.Math.Nat.{pow-le-pow_right}
use Rattle.ds_value.specs.declared.kind.Kind.{Kind}
use Rattle.ds_value.specs.declared.kind.Kind.TheVariants as kind
use Rattle.ds_value.specs.declared.value.Value.{Value}
use Rattle.ds_value.specs.declared.value.Value.TheVariants as value
use Rattle.ds_value.specs.Kinds.{IsKind, fits_kind}
use Rattle.ds_value.proofs.CanonicalBytes.{fits_held}
use Rattle.ds_schema.specs.declared.schema.Field.{Field}
use Rattle.ds_schema.specs.Schemas.{IsField, fits_field, row_fits}
use Rattle.ds_schema.specs.Rows.{at}
use Rattle.expr_table.specs.declared.entry.Shape.{Shape}
use Rattle.expr_table.specs.declared.entry.Shape.TheVariants as shape
use Rattle.expr_table.specs.declared.entry.FnName.{FnName}
use Rattle.expr_table.specs.declared.entry.FnName.TheVariants as fn
use Rattle.expr_table.specs.declared.entry.Entry.{Entry}
use Rattle.expr_table.specs.declared.arg.Arg.{Arg}
use Rattle.expr_table.specs.declared.arg.Arg.TheVariants.{Null, Num, Text, Date, Truth}
use Rattle.expr_table.specs.declared.arg.EvalFault.{EvalFault}
use Rattle.expr_table.specs.TableRows.{rows}
use Rattle.expr_table.specs.Calls.{HasShape, HaveShapes, AreInRange}
use Rattle.expr_table.specs.Meaning.{◌>>=◌}
use Rattle.ds_expr.specs.declared.node.Typing.{Typing}
use Rattle.ds_expr.specs.declared.node.Applied.{Applied}
use Rattle.ds_expr.specs.declared.node.Node.{Node}
use Rattle.ds_expr.specs.declared.node.Node.TheOpen.{Node-F}
use Rattle.ds_expr.specs.declared.node.Node.TheViews.{roll-Node}
use Rattle.ds_expr.specs.declared.node.Node.TheFolds.{ind-Node, fold-roll-Node, map-Node}
use Rattle.ds_expr.specs.Typing.{typing_step, typing_in, typing_of_use, typing_of_kind, typing_of_number, literal_typing, column_typing, shapes_of, all_typed, then_some, typings_joined}
use Rattle.ds_expr.specs.Values.{value_step, value_in, values, arg_of, applied, branch, chosen, called, is_if, decides, joined, all_joined, then_joined, valued_link, Valued}
use Rattle.ds_expr.specs.Typed.{Fits, link_typing}
use Rattle.ds_expr.proofs.Fits.{NodeFits, RowIs, row_is, applied_fits, some_is, ok_is}

-- ---- literals

number_fits : (b : Bool) (z : ℤ) (s : ℕ) (t : Typing) → (nat_lt (unsigned_abs z) (10 ^ 38) && nat_le s 38) ≡ b → (if b then Some (typing_of_number s z) else None) ≡ Some t → Fits t (Num z)
number_fits true z s t b e =
    let small : unsigned_abs z < 10 ^ 38 = ltb-true (unsigned_abs z) (10 ^ 38) (first_so (nat_lt (unsigned_abs z) (10 ^ 38)) (nat_le s 38) b) in
    subst (λ (u : Typing). Fits u (Num z)) (some_is (typing_of_number s z) t e) (tt, small)
number_fits false z s t b e = absurd cc

date_fits : (b : Bool) (d : ℤ) (t : Typing) → fits_kind kind.Date (value.Date d) ≡ b → (if b then Some (let u : Typing = record { shape = shape.Date; scale = 0; literal = None } in u) else None) ≡ Some t → Fits t (Date d)
date_fits true d t b e = subst (λ (u : Typing). Fits u (Date d)) (some_is _ t e) (tt, b)
date_fits false d t b e = absurd cc

pub literal_fits : (a : Arg) (s : ℕ) (t : Typing) → literal_typing a s ≡ Some t → Fits t a
literal_fits (Num z) s t e = number_fits (nat_lt (unsigned_abs z) (10 ^ 38) && nat_le s 38) z s t refl e
literal_fits (Text bytes) s t e = subst (λ (u : Typing). Fits u (Text bytes)) (some_is _ t e) (tt, tt)
literal_fits (Date d) s t e = date_fits (fits_kind kind.Date (value.Date d)) d t refl e
literal_fits Null s t e = absurd cc
literal_fits (Truth b) s t e = absurd cc

-- ---- columns

int_small : (z : ℤ) → FitsSigned w64 z → unsigned_abs z < 10 ^ 38
int_small (pos n) h = omega (arith, ints)
int_small (negsuc n) h = omega (arith, ints)

dec_small : (z : ℤ) (p : ℕ) → p ≤ 38 → nat_lt (unsigned_abs z) (10 ^ p) ≡ true → unsigned_abs z < 10 ^ 38
dec_small z p h e = let k : 10 ^ p ≤ 10 ^ 38 = pow-le-pow_right (let one : zero < 10 = omega arith in one) h in omega (arith, ltb-true (unsigned_abs z) (10 ^ p) e)

kind_fits : (k : Kind) (v : Value) → IsKind k → fits_kind k v ≡ true → Fits (typing_of_kind k) (arg_of v)
kind_fits (kind.Int bits) (value.Int z) h e = (tt, int_small z (fits_held (kind.Int bits) (value.Int z) h e).0)
kind_fits (kind.UInt bits) (value.UInt n) h e = (tt, (let k : n < 2 ^ 64 = (fits_held (kind.UInt bits) (value.UInt n) h e).0 in omega arith))
kind_fits (kind.Dec p s) (value.Dec z) h e = (tt, dec_small z p h.1.0 e)
kind_fits (kind.Text max fixed) (value.Text b) h e = (tt, tt)
kind_fits kind.Date (value.Date d) h e = (tt, e)
kind_fits (kind.Int bits) value.Null h e = absurd cc
kind_fits (kind.Int bits) (value.UInt n) h e = absurd cc
kind_fits (kind.Int bits) (value.Dec n) h e = absurd cc
kind_fits (kind.Int bits) (value.Text n) h e = absurd cc
kind_fits (kind.Int bits) (value.Date n) h e = absurd cc
kind_fits (kind.UInt bits) value.Null h e = absurd cc
kind_fits (kind.UInt bits) (value.Int n) h e = absurd cc
kind_fits (kind.UInt bits) (value.Dec n) h e = absurd cc
kind_fits (kind.UInt bits) (value.Text n) h e = absurd cc
kind_fits (kind.UInt bits) (value.Date n) h e = absurd cc
kind_fits (kind.Dec p s) value.Null h e = absurd cc
kind_fits (kind.Dec p s) (value.Int n) h e = absurd cc
kind_fits (kind.Dec p s) (value.UInt n) h e = absurd cc
kind_fits (kind.Dec p s) (value.Text n) h e = absurd cc
kind_fits (kind.Dec p s) (value.Date n) h e = absurd cc
kind_fits (kind.Text max fixed) value.Null h e = absurd cc
kind_fits (kind.Text max fixed) (value.Int n) h e = absurd cc
kind_fits (kind.Text max fixed) (value.UInt n) h e = absurd cc
kind_fits (kind.Text max fixed) (value.Dec n) h e = absurd cc
kind_fits (kind.Text max fixed) (value.Date n) h e = absurd cc
kind_fits kind.Date value.Null h e = absurd cc
kind_fits kind.Date (value.Int n) h e = absurd cc
kind_fits kind.Date (value.UInt n) h e = absurd cc
kind_fits kind.Date (value.Dec n) h e = absurd cc
kind_fits kind.Date (value.Text n) h e = absurd cc

null_fits : (t : Typing) → Fits t Null
null_fits t = (tt, tt)

field_fits : (f : Field) (v : Value) → IsField f → fits_field f v ≡ true → Fits (typing_of_kind f.kind) (arg_of v)
field_fits f value.Null h e = null_fits (typing_of_kind f.kind)
field_fits f (value.Int z) h e = kind_fits f.kind (value.Int z) h.1 e
field_fits f (value.UInt n) h e = kind_fits f.kind (value.UInt n) h.1 e
field_fits f (value.Dec z) h e = kind_fits f.kind (value.Dec z) h.1 e
field_fits f (value.Text b) h e = kind_fits f.kind (value.Text b) h.1 e
field_fits f (value.Date d) h e = kind_fits f.kind (value.Date d) h.1 e

pub column_fits : (fields : List Field) (row : List Value) (i : ℕ) (t : Typing) → AllByRecursion IsField fields → row_fits fields row ≡ true → column_typing (slice_get fields i) ≡ Some t → Fits t (arg_of (at row i))
column_fits [] row i t h r e = absurd cc
column_fits (f ∷ fields) [] i t h r e = absurd cc
column_fits (f ∷ fields) (v ∷ row) zero t h r e =
    subst (λ (u : Typing). Fits u (arg_of v)) (some_is (typing_of_kind f.kind) t e) (field_fits f v h.0 (first_so (fits_field f v) (row_fits fields row) r))
column_fits (f ∷ fields) (v ∷ row) (suc i) t h r e = column_fits fields row i t h.1 (second_so (fits_field f v) (row_fits fields row) r) e

-- ---- arguments

pub record AllFit (ts : List Typing) (vs : List Arg) : Type 0 where
  pub shapes : HaveShapes (shapes_of ts) vs
  pub range : AreInRange vs

-- a typed list by its first
pub record First (o : Option Typing) (os : List (Option Typing)) (ts : List Typing) : Type 0 where
  pub typing : Typing
  pub more : List Typing
  pub first : o ≡ Some typing
  pub rest : all_typed os ≡ Some more
  pub whole : ts ≡ typing ∷ more

first_by : (o : Option Typing) (os : List (Option Typing)) (v : Option (List Typing)) (ts : List Typing) → all_typed os ≡ v → then_some o (λ t. then_some v (λ us. Some (t ∷ us))) ≡ Some ts → First o os ts
first_by None os v ts g e = absurd cc
first_by (Some t) os None ts g e = absurd cc
first_by (Some t) os (Some us) ts g e = record { typing = t; more = us; first = refl; rest = g; whole = sym (some_is (t ∷ us) ts e) }

pub first_of_all : (o : Option Typing) (os : List (Option Typing)) (ts : List Typing) → all_typed (o ∷ os) ≡ Some ts → First o os ts
first_of_all o os ts e = first_by o os (all_typed os) ts refl e

-- and its value
record FirstValue (v : Valued) (vs : List Valued) (found all : List Arg) : Type 0 where
  value : Arg
  first : v ≡ Ok value
  rest : values (found ++ value ∷ []) vs ≡ Ok all

first_value : (v : Valued) (vs : List Valued) (found all : List Arg) → values found (v ∷ vs) ≡ Ok all → FirstValue v vs found all
first_value (Ok x) vs found all e = record { value = x; first = refl; rest = e }
first_value (Err f) vs found all e = absurd cc

-- what was added behind those found
pub record Added (found all : List Arg) (ts : List Typing) : Type 0 where
  pub more : List Arg
  pub whole : all ≡ found ++ more
  pub fit : AllFit ts more

pub args_fit : (fields : List Field) (row : List Value) (nodes : List Node) (ts : List Typing) (found all : List Arg) → AllByRecursion (NodeFits fields row) nodes → all_typed (map (typing_in fields) nodes) ≡ Some ts → values found (map (value_in row) nodes) ≡ Ok all → Added found all ts
args_fit fields row [] ts found all h t e = record { more = []; whole = sym (ok_is found all e) ∙ sym (append-nil found); fit = subst (λ (us : List Typing). AllFit us []) (some_is [] ts t) (record { shapes = tt; range = tt }) }
args_fit fields row (n ∷ nodes) ts found all h t e =
    let f = first_of_all (typing_in fields n) (map (typing_in fields) nodes) ts t in
    let v = first_value (value_in row n) (map (value_in row) nodes) found all e in
    let a = args_fit fields row nodes f.more (found ++ v.value ∷ []) all h.1 f.rest v.rest in
    let one = h.0 f.typing v.value f.first v.first in
    let fit : AllFit (f.typing ∷ f.more) (v.value ∷ a.more) = record { shapes = (one.0, a.fit.shapes); range = (one.1, a.fit.range) } in
    record { more = v.value ∷ a.more; whole = a.whole ∙ append_assoc found (v.value ∷ []) a.more; fit = subst (λ (us : List Typing). AllFit us (v.value ∷ a.more)) (sym f.whole) fit }

-- ---- branches

-- a value, and what is made of it
record Then (v r : Valued) (f : Arg → Valued) : Type 0 where
  value : Arg
  first : v ≡ Ok value
  rest : f value ≡ r

then_value : (v : Valued) (f : Arg → Valued) (w : Arg) → (v >>= f) ≡ Ok w → Then v (Ok w) f
then_value (Ok x) f w e = record { value = x; first = refl; rest = e }
then_value (Err fault) f w e = absurd cc

branch_fits : (u : Applied) (ta tb tc t : Typing) (x : Arg) (b c : Valued) (v : Arg) → RowIs u (ta ∷ tb ∷ tc ∷ []) t → HasShape ta.shape x → ((y : Arg) → b ≡ Ok y → Fits tb y) → ((y : Arg) → c ≡ Ok y → Fits tc y) → branch u x b c ≡ Ok v → Fits t v
branch_fits u ta tb tc t (Truth true) b c v r h hb hc e =
    let w = then_value b (λ y. applied u (Truth true ∷ y ∷ Null ∷ [])) v e in
    let fit = hb w.value w.first in
    applied_fits u (ta ∷ tb ∷ tc ∷ []) t (Truth true ∷ w.value ∷ Null ∷ []) v r (h, (fit.0, (tt, tt))) (tt, (fit.1, (tt, tt))) w.rest
branch_fits u ta tb tc t (Truth false) b c v r h hb hc e =
    let w = then_value c (λ y. applied u (Truth false ∷ Null ∷ y ∷ [])) v e in
    let fit = hc w.value w.first in
    applied_fits u (ta ∷ tb ∷ tc ∷ []) t (Truth false ∷ Null ∷ w.value ∷ []) v r (h, (tt, (fit.0, tt))) (tt, (tt, (fit.1, tt))) w.rest
branch_fits u ta tb tc t Null b c v r h hb hc e = absurd cc
branch_fits u ta tb tc t (Num z) b c v r h hb hc e = absurd cc
branch_fits u ta tb tc t (Text z) b c v r h hb hc e = absurd cc
branch_fits u ta tb tc t (Date z) b c v r h hb hc e = absurd cc

chosen_fits : (fields : List Field) (row : List Value) (u : Applied) (nodes : List Node) (ts : List Typing) (t : Typing) (v : Arg) → AllByRecursion (NodeFits fields row) nodes → all_typed (map (typing_in fields) nodes) ≡ Some ts → RowIs u ts t → chosen u (map (value_in row) nodes) ≡ Ok v → Fits t v
chosen_fits fields row u [] ts t v h g r e = absurd cc
chosen_fits fields row u (a ∷ []) ts t v h g r e = absurd cc
chosen_fits fields row u (a ∷ b ∷ []) ts t v h g r e = absurd cc
chosen_fits fields row u (a ∷ b ∷ c ∷ d ∷ nodes) ts t v h g r e = absurd cc
chosen_fits fields row u (a ∷ b ∷ c ∷ []) ts t v h g r e =
    let fa = first_of_all (typing_in fields a) (map (typing_in fields) (b ∷ c ∷ [])) ts g in
    let fb = first_of_all (typing_in fields b) (map (typing_in fields) (c ∷ [])) fa.more fa.rest in
    let fc = first_of_all (typing_in fields c) [] fb.more fb.rest in
    let whole : ts ≡ fa.typing ∷ fb.typing ∷ fc.typing ∷ [] = fa.whole ∙ ap (λ (us : List Typing). fa.typing ∷ us) (fb.whole ∙ ap (λ (us : List Typing). fb.typing ∷ us) (fc.whole ∙ ap (λ (us : List Typing). fc.typing ∷ us) (sym (some_is [] fc.more fc.rest)))) in
    let w = then_value (value_in row a) (λ x. branch u x (value_in row b) (value_in row c)) v e in
    branch_fits u fa.typing fb.typing fc.typing t w.value (value_in row b) (value_in row c) v (subst (λ (us : List Typing). RowIs u us t) whole r) (h.0 fa.typing w.value fa.first w.first).0
    (λ y k. h.1.0 fb.typing y fb.first k) (λ y k. h.1.1.0 fc.typing y fc.first k) w.rest

-- ---- calls

record ThenArgs (found : Result (List Arg) EvalFault) (f : List Arg → Valued) (w : Arg) : Type 0 where
  all : List Arg
  first : found ≡ Ok all
  rest : f all ≡ Ok w

then_args : (found : Result (List Arg) EvalFault) (f : List Arg → Valued) (w : Arg) → (found >>= f) ≡ Ok w → ThenArgs found f w
then_args (Ok xs) f w e = record { all = xs; first = refl; rest = e }
then_args (Err fault) f w e = absurd cc

call_by : (b : Bool) (fields : List Field) (row : List Value) (u : Applied) (nodes : List Node) (ts : List Typing) (t : Typing) (v : Arg) → AllByRecursion (NodeFits fields row) nodes → all_typed (map (typing_in fields) nodes) ≡ Some ts → RowIs u ts t
    → (if b then chosen u (map (value_in row) nodes) else (values [] (map (value_in row) nodes) >>= applied u)) ≡ Ok v → Fits t v
call_by true fields row u nodes ts t v h g r e = chosen_fits fields row u nodes ts t v h g r e
call_by false fields row u nodes ts t v h g r e =
    let w = then_args (values [] (map (value_in row) nodes)) (applied u) v e in
    let a = args_fit fields row nodes ts [] w.all h g w.first in
    let fit : AllFit ts w.all = subst (AllFit ts) (sym a.whole) a.fit in
    applied_fits u ts t w.all v r fit.shapes fit.range w.rest

pub record ThenTyped (o : Option (List Typing)) (f : List Typing → Option Typing) (t : Typing) : Type 0 where
  pub typings : List Typing
  pub first : o ≡ Some typings
  pub rest : f typings ≡ Some t

pub then_typed : (o : Option (List Typing)) (f : List Typing → Option Typing) (t : Typing) → then_some o f ≡ Some t → ThenTyped o f t
then_typed (Some ts) f t e = record { typings = ts; first = refl; rest = e }
then_typed None f t e = absurd cc

pub call_fits : (fields : List Field) (row : List Value) (u : Applied) (nodes : List Node) (t : Typing) (v : Arg) → AllByRecursion (NodeFits fields row) nodes → then_some (all_typed (map (typing_in fields) nodes)) (typing_of_use u) ≡ Some t → called u (map (value_in row) nodes) ≡ Ok v → Fits t v
call_fits fields row u nodes t v h g e =
    let w = then_typed (all_typed (map (typing_in fields) nodes)) (typing_of_use u) t g in
    call_by (is_if u.name) fields row u nodes w.typings t v h w.first (row_is u w.typings t w.rest) e

-- ---- operands joined from the left

-- a row that may spare its right side gives a Truth
abbrev is_sparing : FnName → Bool
is_sparing fn.And = true
is_sparing fn.Or = true
is_sparing f = false

abbrev is_truth : Shape → Bool
is_truth shape.Truth = true
is_truth s = false

abbrev gives_truth : Entry → Bool
gives_truth e = not (is_sparing e.name) || is_truth e.result

all_give_truth : list_all gives_truth rows ≡ true
all_give_truth = refl

pub entry_at : (p : Entry → Bool) (es : List Entry) (i : ℕ) (e : Entry) → list_all p es ≡ true → slice_get es i ≡ Some e → p e ≡ true
entry_at p [] i e h k = absurd cc
entry_at p (d ∷ es) zero e h k = ap p (sym (some_is d e k)) ∙ first_so (p d) (list_all p es) h
entry_at p (d ∷ es) (suc i) e h k = entry_at p es i e (second_so (p d) (list_all p es) h) k

truth_by : (s : Shape) (v : Bool) → is_truth s ≡ true → HasShape s (Truth v)
truth_by shape.Truth v h = tt
truth_by shape.Num v h = absurd cc
truth_by shape.Text v h = absurd cc
truth_by shape.Date v h = absurd cc
truth_by shape.Unused v h = absurd cc

sparing_truth : (f : FnName) (s : Shape) → (not (is_sparing f) || is_truth s) ≡ true → is_sparing f ≡ true → is_truth s ≡ true
sparing_truth fn.And s h k = h
sparing_truth fn.Or s h k = h
sparing_truth f s h k = absurd cc

decided_fits : (u : Applied) (ts : List Typing) (t : Typing) (b : Bool) → RowIs u ts t → is_sparing u.name ≡ true → Fits t (Truth b)
decided_fits u ts t b r k =
    let g : (not (is_sparing r.entry.name) || is_truth r.entry.result) ≡ true = entry_at gives_truth rows u.row r.entry all_give_truth r.at in
    let s : is_truth r.entry.result ≡ true = sparing_truth r.entry.name r.entry.result g (ap is_sparing r.name ∙ k) in
    (truth_by t.shape b (ap is_truth r.result ∙ s), tt)

decides_fits : (f : FnName) (x : Arg) → decides f x ≡ true → (b : Bool) × ((x ≡ Truth b) × (is_sparing f ≡ true))
decides_fits fn.And (Truth false) h = (false, (refl, refl))
decides_fits fn.Or (Truth true) h = (true, (refl, refl))
decides_fits f x h = absurd cc

joined_by_test : (b : Bool) (u : Applied) (s r t : Typing) (x y : Arg) (right : Valued) → decides u.name x ≡ b → RowIs u (s ∷ r ∷ []) t → Fits s x → ((z : Arg) → right ≡ Ok z → Fits r z) → (if b then Ok x else (right >>= λ z. applied u (x ∷ z ∷ []))) ≡ Ok y → Fits t y
joined_by_test true u s r t x y right d k h g e =
    let w = decides_fits u.name x d in
    subst (Fits t) (sym w.1.0 ∙ ok_is x y e) (decided_fits u (s ∷ r ∷ []) t w.0 k w.1.1)
joined_by_test false u s r t x y right d k h g e =
    let w = then_value right (λ z. applied u (x ∷ z ∷ [])) y e in
    let fit = g w.value w.first in
    applied_fits u (s ∷ r ∷ []) t (x ∷ w.value ∷ []) y k (h.0, (fit.0, tt)) (h.1, (fit.1, tt)) w.rest

pub joined_fits : (u : Applied) (s r t : Typing) (x y : Arg) (right : Valued) → typing_of_use u (s ∷ r ∷ []) ≡ Some t → Fits s x → ((z : Arg) → right ≡ Ok z → Fits r z) → joined u x right ≡ Ok y → Fits t y
joined_fits u s r t x y right k h g e = joined_by_test (decides u.name x) u s r t x y right refl (row_is u (s ∷ r ∷ []) t k) h g e

-- the typings of a first link
pub record FirstLink (o : Option Typing) (u : Applied) (s : Typing) (xs : List (Applied × Option Typing)) (t : Typing) : Type 0 where
  pub right : Typing
  pub both : Typing
  pub first : o ≡ Some right
  pub row : typing_of_use u (s ∷ right ∷ []) ≡ Some both
  pub rest : typings_joined both xs ≡ Some t

first_link_by : (o m : Option Typing) (u : Applied) (s : Typing) (xs : List (Applied × Option Typing)) (t : Typing) (r : Typing) → o ≡ Some r → typing_of_use u (s ∷ r ∷ []) ≡ m → then_some m (λ b. typings_joined b xs) ≡ Some t → FirstLink o u s xs t
first_link_by o None u s xs t r f g e = absurd cc
first_link_by o (Some b) u s xs t r f g e = record { right = r; both = b; first = f; row = g; rest = e }

pub first_link : (o : Option Typing) (u : Applied) (s : Typing) (xs : List (Applied × Option Typing)) (t : Typing) → typings_joined s ((u, o) ∷ xs) ≡ Some t → FirstLink o u s xs t
first_link None u s xs t e = absurd cc
first_link (Some r) u s xs t e = first_link_by (Some r) (typing_of_use u (s ∷ r ∷ [])) u s xs t r refl refl e

all_joined_fit : (fields : List Field) (row : List Value) (links : List (Applied × Node)) (s t : Typing) (x v : Arg) → AllByRecursion (λ (l : Applied × Node). NodeFits fields row l.1) links → Fits s x → typings_joined s (map (link_typing fields) links) ≡ Some t → all_joined x (map (valued_link row) links) ≡ Ok v → Fits t v
all_joined_fit fields row [] s t x v h f g e = subst (Fits t) (ok_is x v e) (subst (λ (u : Typing). Fits u x) (some_is s t g) f)
all_joined_fit fields row (l ∷ links) s t x v h f g e =
    let k = first_link (typing_in fields l.1) l.0 s (map (link_typing fields) links) t g in
    let w = then_value (joined l.0 x (value_in row l.1)) (λ y. all_joined y (map (valued_link row) links)) v e in
    let fit = joined_fits l.0 s k.right k.both x w.value (value_in row l.1) k.row f (λ z m. h.0 k.right z k.first m) w.first in
    all_joined_fit fields row links k.both t w.value v h.1 fit k.rest w.rest

pub record ThenOne (o : Option Typing) (f : Typing → Option Typing) (t : Typing) : Type 0 where
  pub typing : Typing
  pub first : o ≡ Some typing
  pub rest : f typing ≡ Some t

pub then_one : (o : Option Typing) (f : Typing → Option Typing) (t : Typing) → then_some o f ≡ Some t → ThenOne o f t
then_one (Some s) f t e = record { typing = s; first = refl; rest = e }
then_one None f t e = absurd cc

pub chain_fits : (fields : List Field) (row : List Value) (first : Node) (links : List (Applied × Node)) (t : Typing) (v : Arg) → NodeFits fields row first → AllByRecursion (λ (l : Applied × Node). NodeFits fields row l.1) links
    → then_some (typing_in fields first) (λ s. typings_joined s (map (link_typing fields) links)) ≡ Some t → then_joined (value_in row first) (map (valued_link row) links) ≡ Ok v → Fits t v
chain_fits fields row first links t v h hs g e =
    let k = then_one (typing_in fields first) (λ s. typings_joined s (map (link_typing fields) links)) t g in
    let w = then_value (value_in row first) (λ x. all_joined x (map (valued_link row) links)) v e in
    all_joined_fit fields row links k.typing t w.value v hs (h k.typing w.value k.first w.first) k.rest w.rest

-- ---- trees

abbrev Such : List Field → List Value → Type 0
Such fields row = (n : Node) × NodeFits fields row n

such_all : (fields : List Field) (row : List Value) (ns : List (Such fields row)) → AllByRecursion (NodeFits fields row) (map (λ n. n.0) ns)
such_all fields row [] = tt
such_all fields row (n ∷ ns) = (n.1, such_all fields row ns)

such_links : (fields : List Field) (row : List Value) (ls : List (Applied × Such fields row)) → AllByRecursion (λ (l : Applied × Node). NodeFits fields row l.1) (map (λ l. (l.0, l.1.0)) ls)
such_links fields row [] = tt
such_links fields row (l ∷ ls) = (l.1.1, such_links fields row ls)

layer_fits : (fields : List Field) (row : List Value) → AllByRecursion IsField fields → row_fits fields row ≡ true → (y : Node-F (Such fields row)) → NodeFits fields row (roll-Node (map-Node (Such fields row) Node (λ e. e.0) y))
layer_fits fields row h r (Node-F.Literal a s) t v g e = subst (Fits t) (ok_is a v (sym (fold-roll-Node Valued (value_step row) (Node-F.Literal a s)) ∙ e)) (literal_fits a s t (sym (fold-roll-Node (Option Typing) (typing_step fields) (Node-F.Literal a s)) ∙ g))
layer_fits fields row h r (Node-F.Column i) t v g e = subst (Fits t) (ok_is (arg_of (at row i)) v (sym (fold-roll-Node Valued (value_step row) (Node-F.Column i)) ∙ e)) (column_fits fields row i t h r (sym (fold-roll-Node (Option Typing) (typing_step fields) (Node-F.Column i)) ∙ g))
layer_fits fields row h r (Node-F.Call u ns) t v g e =
    call_fits fields row u (map (λ n. n.0) ns) t v (such_all fields row ns) (sym (fold-roll-Node (Option Typing) (typing_step fields) (Node-F.Call u (map (λ n. n.0) ns))) ∙ g) (sym (fold-roll-Node Valued (value_step row) (Node-F.Call u (map (λ n. n.0) ns))) ∙ e)
layer_fits fields row h r (Node-F.Chain first ls) t v g e =
    chain_fits fields row first.0 (map (λ l. (l.0, l.1.0)) ls) t v first.1 (such_links fields row ls) (sym (fold-roll-Node (Option Typing) (typing_step fields) (Node-F.Chain first.0 (map (λ l. (l.0, l.1.0)) ls))) ∙ g) (sym (fold-roll-Node Valued (value_step row) (Node-F.Chain first.0 (map (λ l. (l.0, l.1.0)) ls))) ∙ e)

pub node_fits : (fields : List Field) (row : List Value) → AllByRecursion IsField fields → row_fits fields row ≡ true → (node : Node) → NodeFits fields row node
node_fits fields row h r = ind-Node (NodeFits fields row) (λ x y is. subst (λ (z : Node-F Node). NodeFits fields row (roll-Node z)) is (layer_fits fields row h r y))
