-- The results of a group of rows that fit, fit their fields.
use Rattle.std.proofs.Common.{◌≡◌, ◌<◌, ◌≤◌, ◌*◌, ◌-◌, ◌^◌, ◌||◌, ℕ, ℤ, pos, not, Bool, true, false, cond, List, [], ◌∷◌, length, filter, Option, Some, None, refl, sym, ap, ap₂, ◌∙◌, subst, arith}
use Rattle.std.specs.Prelude.{nat_lt, unsigned_abs, if◌then◌else◌}
use Rattle.std.specs.List.{AllByRecursion, list_any}
use Rattle.std.proofs.lemmas.Bool.Decides.{nat_tests}
use Rattle.std.proofs.lemmas.Int.{ints}
use Rattle.ds_value.specs.declared.kind.Kind.{Kind}
use Rattle.ds_value.specs.declared.kind.Kind.TheVariants as data_kind
use Rattle.ds_value.specs.declared.value.Value.{Value}
use Rattle.ds_value.specs.declared.value.Value.TheVariants as value
use Rattle.ds_value.specs.Kinds.{fits_kind, greatest_int, is_between, least_int}
use Rattle.ds_value.specs.Values.{number}
use Rattle.ds_schema.specs.declared.schema.Field.{Field}
use Rattle.ds_schema.specs.Schemas.{fits_field}
use Rattle.op_base.specs.Columns.{Row}
use Rattle.op_group.specs.Results.{as_int, as_uint, column as column_of, first_value, greatest, is_dec, is_int, is_null, is_uint, last_value, least, sum_of, total}
use Rattle.shape_base.specs.Fields.{field_at}
use Rattle.keyed_shape.specs.Keyed.{can_sum, made_field, sum_kind}
use Rattle.flow_sound.proofs.Permuted.{greatest_all, least_all}
use Rattle.flow_sound.proofs.GroupBounds.{few, one_more, within}
use Rattle.flow_sound.proofs.Picking.{column_fits}
use Rattle.flow_sound.proofs.Working.{Fit}

-- ---- the values of a column

abbrev FitField : Field → List Value → Type 0
FitField f vs = AllByRecursion (λ v. fits_field f v ≡ true) vs

pub column_all : (fields : List Field) (c : ℕ) → c < length fields → (rows : List Row) → Fit fields rows → FitField (field_at fields c) (column_of c rows)
column_all fields c l [] h = tt
column_all fields c l (r ∷ rows) h = (column_fits fields r c h.0 l, column_all fields c l rows h.1)

abbrev FitKind : Kind → List Value → Type 0
FitKind k vs = AllByRecursion (λ v. fits_kind k v ≡ true) vs

of_kind : (f : Field) (v : Value) → is_null v ≡ false → fits_field f v ≡ true → fits_kind f.kind v ≡ true
of_kind f value.Null n e = cc
of_kind f (value.Int z) n e = e
of_kind f (value.UInt m) n e = e
of_kind f (value.Dec z) n e = e
of_kind f (value.Text b) n e = e
of_kind f (value.Date d) n e = e

pub present_all : (f : Field) (vs : List Value) → FitField f vs → FitKind f.kind (filter (λ v. not (is_null v)) vs)
present_all f [] h = tt
present_all f (v ∷ vs) h = go (is_null v) refl (present_all f vs h.1)
  where
    rest : List Value
    rest = filter (λ w. not (is_null w)) vs

    go : (b : Bool) → is_null v ≡ b → FitKind f.kind rest → FitKind f.kind (cond (not b) (v ∷ rest) rest)
    go true e k = k
    go false e k = (of_kind f v e h.0, k)

-- a value of a kind, or null, fits a field of that kind that may be null
abbrev OrNull : Kind → Value → Type 0
OrNull k v = (name : List ℕ) → fits_field (made_field name true k) v ≡ true

null_fits : (k : Kind) → OrNull k value.Null
null_fits k name = refl

value_fits : (k : Kind) (v : Value) → fits_kind k v ≡ true → OrNull k v
value_fits k value.Null e name = refl
value_fits k (value.Int z) e name = e
value_fits k (value.UInt n) e name = e
value_fits k (value.Dec z) e name = e
value_fits k (value.Text b) e name = e
value_fits k (value.Date d) e name = e

pub least_fits : (k : Kind) (vs : List Value) → FitKind k vs → OrNull k (least vs)
least_fits k [] h = null_fits k
least_fits k (v ∷ vs) h = value_fits k (least (v ∷ vs)) (least_all (λ w. fits_kind k w ≡ true) v vs h)

pub greatest_fits : (k : Kind) (vs : List Value) → FitKind k vs → OrNull k (greatest vs)
greatest_fits k [] h = null_fits k
greatest_fits k (v ∷ vs) h = value_fits k (greatest (v ∷ vs)) (greatest_all (λ w. fits_kind k w ≡ true) v vs h)

pub first_fits : (f : Field) (v : Value) (vs : List Value) → FitField f (v ∷ vs) → fits_field f (first_value (v ∷ vs)) ≡ true
first_fits f v vs h = h.0

pub last_fits : (f : Field) (v : Value) (vs : List Value) → FitField f (v ∷ vs) → fits_field f (last_value (v ∷ vs)) ≡ true
last_fits f v [] h = h.0
last_fits f v (w ∷ vs) h = last_fits f w vs h.1

-- a new name, and the kind as it was
pub renamed_fits : (f : Field) (name : List ℕ) (v : Value) → fits_field f v ≡ true → fits_field (made_field name f.nullable f.kind) v ≡ true
renamed_fits f name value.Null e = e
renamed_fits f name (value.Int z) e = e
renamed_fits f name (value.UInt n) e = e
renamed_fits f name (value.Dec z) e = e
renamed_fits f name (value.Text b) e = e
renamed_fits f name (value.Date d) e = e

-- ---- sums

none_among : (k : Kind) (p : Value → Bool) → ((v : Value) → fits_kind k v ≡ true → p v ≡ false) → (vs : List Value) → FitKind k vs → list_any p vs ≡ false
none_among k p h [] f = refl
none_among k p h (v ∷ vs) f = ap (λ b. b || list_any p vs) (h v f.0) ∙ none_among k p h vs f.1

pub some_is : {X : Type 0} (a b : X) → Some a ≡ Some b → a ≡ b
some_is a b e = cc

as_int_fits : (z : ℤ) (v : Value) → as_int z ≡ Some v → OrNull (data_kind.Int 64) v
as_int_fits z v e = go (is_between (least_int 64) (greatest_int 64) z) refl e
  where
    go : (b : Bool) → is_between (least_int 64) (greatest_int 64) z ≡ b → (let o : Option Value = if b then Some (value.Int z) else None in o) ≡ Some v → OrNull (data_kind.Int 64) v
    go true f g = subst (OrNull (data_kind.Int 64)) (some_is (value.Int z) v g) (value_fits (data_kind.Int 64) (value.Int z) f)
    go false f g = absurd cc

as_uint_fits : (z : ℤ) (v : Value) → as_uint z ≡ Some v → OrNull (data_kind.UInt 64) v
as_uint_fits z v e = go (is_between (pos 0) (pos (2 ^ 64 - 1)) z) refl e
  where
    fits : (y : ℤ) → is_between (pos 0) (pos (2 ^ 64 - 1)) y ≡ true → nat_lt (unsigned_abs y) (2 ^ 64) ≡ true
    fits y f = grind (arith, ints, nat_tests, f)

    go : (b : Bool) → is_between (pos 0) (pos (2 ^ 64 - 1)) z ≡ b → (let o : Option Value = if b then Some (value.UInt (unsigned_abs z)) else None in o) ≡ Some v → OrNull (data_kind.UInt 64) v
    go true f g = subst (OrNull (data_kind.UInt 64)) (some_is (value.UInt (unsigned_abs z)) v g) (value_fits (data_kind.UInt 64) (value.UInt (unsigned_abs z)) (fits z f))
    go false f g = absurd cc

-- decimals of at most 18 digits
dec_bound : (p s : ℕ) → p ≤ 18 → (v : Value) → fits_kind (data_kind.Dec p s) v ≡ true → unsigned_abs (number v) ≤ 10 ^ 18
dec_bound p s l value.Null e = cc
dec_bound p s l (value.Int z) e = cc
dec_bound p s l (value.UInt n) e = cc
dec_bound p s l (value.Dec z) e = within z p l e
dec_bound p s l (value.Text b) e = cc
dec_bound p s l (value.Date d) e = cc

total_bound : (p s : ℕ) → p ≤ 18 → (vs : List Value) → FitKind (data_kind.Dec p s) vs → unsigned_abs (total vs) ≤ length vs * 10 ^ 18
total_bound p s l [] h = omega (arith, ints)
total_bound p s l (v ∷ vs) h = one_more (number v) (total vs) (length vs) (dec_bound p s l v h.0) (total_bound p s l vs h.1)

no_int : (p s : ℕ) (v : Value) → fits_kind (data_kind.Dec p s) v ≡ true → is_int v ≡ false
no_int p s value.Null e = refl
no_int p s (value.Int z) e = cc
no_int p s (value.UInt n) e = refl
no_int p s (value.Dec z) e = refl
no_int p s (value.Text b) e = refl
no_int p s (value.Date d) e = refl

no_uint : (p s : ℕ) (v : Value) → fits_kind (data_kind.Dec p s) v ≡ true → is_uint v ≡ false
no_uint p s value.Null e = refl
no_uint p s (value.Int z) e = refl
no_uint p s (value.UInt n) e = cc
no_uint p s (value.Dec z) e = refl
no_uint p s (value.Text b) e = refl
no_uint p s (value.Date d) e = refl

whole_no_dec : (bits : ℕ) (v : Value) → fits_kind (data_kind.Int bits) v ≡ true → is_dec v ≡ false
whole_no_dec bits value.Null e = refl
whole_no_dec bits (value.Int z) e = refl
whole_no_dec bits (value.UInt n) e = refl
whole_no_dec bits (value.Dec z) e = cc
whole_no_dec bits (value.Text b) e = refl
whole_no_dec bits (value.Date d) e = refl

whole_no_uint : (bits : ℕ) (v : Value) → fits_kind (data_kind.Int bits) v ≡ true → is_uint v ≡ false
whole_no_uint bits value.Null e = refl
whole_no_uint bits (value.Int z) e = refl
whole_no_uint bits (value.UInt n) e = cc
whole_no_uint bits (value.Dec z) e = refl
whole_no_uint bits (value.Text b) e = refl
whole_no_uint bits (value.Date d) e = refl

unsigned_no_dec : (bits : ℕ) (v : Value) → fits_kind (data_kind.UInt bits) v ≡ true → is_dec v ≡ false
unsigned_no_dec bits value.Null e = refl
unsigned_no_dec bits (value.Int z) e = refl
unsigned_no_dec bits (value.UInt n) e = refl
unsigned_no_dec bits (value.Dec z) e = cc
unsigned_no_dec bits (value.Text b) e = refl
unsigned_no_dec bits (value.Date d) e = refl

unsigned_no_int : (bits : ℕ) (v : Value) → fits_kind (data_kind.UInt bits) v ≡ true → is_int v ≡ false
unsigned_no_int bits value.Null e = refl
unsigned_no_int bits (value.Int z) e = cc
unsigned_no_int bits (value.UInt n) e = refl
unsigned_no_int bits (value.Dec z) e = refl
unsigned_no_int bits (value.Text b) e = refl
unsigned_no_int bits (value.Date d) e = refl

-- the sum, by which variants are among the values
abbrev summed : Bool → Bool → Bool → ℤ → Option Value
summed decs uints ints z = if decs then Some (value.Dec z) else if uints then as_uint z else if ints then as_int z else Some value.Null

none_summed : (k : Kind) (v : Value) → (let o : Option Value = Some value.Null in o) ≡ Some v → OrNull k v
none_summed k v e = subst (OrNull k) (some_is value.Null v e) (null_fits k)

pub sum_fits : (k : Kind) (vs : List Value) → can_sum k ≡ true → FitKind k vs → length vs ≤ 2 ^ 62 → (v : Value) → sum_of vs ≡ Some v → OrNull (sum_kind k) v
sum_fits (data_kind.Int bits) vs c h l v e =
    go (list_any is_int vs) (ap₂ (λ a b. summed a b (list_any is_int vs) (total vs)) (sym (none_among (data_kind.Int bits) is_dec (whole_no_dec bits) vs h)) (sym (none_among (data_kind.Int bits) is_uint (whole_no_uint bits) vs h)) ∙ e)
  where
    go : (b : Bool) → summed false false b (total vs) ≡ Some v → OrNull (data_kind.Int 64) v
    go true f = as_int_fits (total vs) v f
    go false f = none_summed (data_kind.Int 64) v f
sum_fits (data_kind.UInt bits) vs c h l v e =
    go (list_any is_uint vs) (ap₂ (λ a b. summed a (list_any is_uint vs) b (total vs)) (sym (none_among (data_kind.UInt bits) is_dec (unsigned_no_dec bits) vs h)) (sym (none_among (data_kind.UInt bits) is_int (unsigned_no_int bits) vs h)) ∙ e)
  where
    go : (b : Bool) → summed false b false (total vs) ≡ Some v → OrNull (data_kind.UInt 64) v
    go true f = as_uint_fits (total vs) v f
    go false f = none_summed (data_kind.UInt 64) v f
sum_fits (data_kind.Dec p s) vs c h l v e =
    go (list_any is_dec vs) (ap₂ (λ a b. summed (list_any is_dec vs) a b (total vs)) (sym (none_among (data_kind.Dec p s) is_uint (no_uint p s) vs h)) (sym (none_among (data_kind.Dec p s) is_int (no_int p s) vs h)) ∙ e)
  where
    small : p ≤ 18
    small = grind (arith, nat_tests, c)

    go : (b : Bool) → summed b false false (total vs) ≡ Some v → OrNull (data_kind.Dec 38 s) v
    go true f = subst (OrNull (data_kind.Dec 38 s)) (some_is (value.Dec (total vs)) v f) (value_fits (data_kind.Dec 38 s) (value.Dec (total vs)) (few (total vs) (length vs) l (total_bound p s small vs h)))
    go false f = none_summed (data_kind.Dec 38 s) v f
sum_fits (data_kind.Text max fixed) vs c h l v e = cc
sum_fits data_kind.Date vs c h l v e = cc
