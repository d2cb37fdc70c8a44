-- Rows made of columns of rows that fit, against fields made of the fields of these columns.
use Rattle.std.proofs.Common.{◌≡◌, ◌<◌, ℕ, zero, suc, ◌==◌, ◌||◌, not, Bool, true, false, List, [], ◌∷◌, ◌++◌, length, map, refl, sym, ap, ap₂, ◌∙◌, subst, arith}
use Rattle.std.specs.List.{AllByRecursion}
use Rattle.std.proofs.lemmas.Bool.{eqb-true}
use Rattle.ds_value.specs.declared.kind.Kind.{Kind}
use Rattle.ds_value.specs.declared.kind.Kind.TheVariants as kind
use Rattle.ds_value.specs.declared.value.Value.{Value}
use Rattle.ds_value.specs.declared.value.Value.TheVariants as value
use Rattle.ds_value.specs.Kinds.{fits_kind}
use Rattle.ds_schema.specs.declared.schema.Field.{Field}
use Rattle.ds_schema.specs.Rows.{at, cols, val}
use Rattle.ds_schema.specs.Schemas.{fits_field, row_fits}
use Rattle.op_base.specs.Columns.{Row, all_columns, is_in}
use Rattle.op_base.proofs.All.{both_true}
use Rattle.shape_base.proofs.Held.{column_within}
use Rattle.shape_base.proofs.Lists.{all_passing}
use Rattle.shape_base.specs.Fields.{field_at}
use Rattle.shape_base.specs.Naming.{column, has_column, has_keys, key_columns}
use Rattle.keyed_shape.specs.Keyed.{field_named, joined_key, kinds_agree, nullable_if, other_columns, other_fields, same_flag, same_kind}
use Rattle.keyed_shape.proofs.Both.{AreBoth}
use Rattle.flow_sound.proofs.Members.{all_of, below_range}
use Rattle.flow_sound.proofs.SetRows.{both}

pub column_fits : (fields : List Field) (r : Row) (c : ℕ) → row_fits fields r ≡ true → c < length fields → fits_field (field_at fields c) (at r c) ≡ true
column_fits [] r c e l = absurd (omega (arith, l))
column_fits (f ∷ fields) [] c e l = cc
column_fits (f ∷ fields) (v ∷ r) zero e l = (both_true (fits_field f v) (row_fits fields r) e).0
column_fits (f ∷ fields) (v ∷ r) (suc c) e l = column_fits fields r c (both_true (fits_field f v) (row_fits fields r) e).1 (omega (arith, l))

pub rows_beside : (fs gs : List Field) (v w : Row) → row_fits fs v ≡ true → row_fits gs w ≡ true → row_fits (fs ++ gs) (v ++ w) ≡ true
rows_beside [] gs [] w h k = k
rows_beside [] gs (x ∷ v) w h k = cc
rows_beside (f ∷ fs) gs [] w h k = cc
rows_beside (f ∷ fs) gs (x ∷ v) w h k = let one = both_true (fits_field f x) (row_fits fs v) h in both one.0 (rows_beside fs gs v w one.1 k)

-- what fits a field fits what is made of it
abbrev pub Widens : (Field → Field) → Type 0
Widens wrap = (f : Field) (v : Value) → fits_field f v ≡ true → fits_field (wrap f) v ≡ true

pub picked_fit : (wrap : Field → Field) → Widens wrap → (fields : List Field) (r : Row) (cs : List ℕ) → row_fits fields r ≡ true → AllByRecursion (λ c. c < length fields) cs → row_fits (map wrap (map (field_at fields) cs)) (val cs r) ≡ true
picked_fit wrap w fields r [] e h = refl
picked_fit wrap w fields r (c ∷ cs) e h = both (w (field_at fields c) (at r c) (column_fits fields r c e h.0)) (picked_fit wrap w fields r cs e h.1)

pub widened_fits : (wrap : Field → Field) → Widens wrap → (fields : List Field) (r : Row) → row_fits fields r ≡ true → row_fits (map wrap fields) r ≡ true
widened_fits wrap w [] [] e = refl
widened_fits wrap w [] (v ∷ r) e = cc
widened_fits wrap w (f ∷ fields) [] e = cc
widened_fits wrap w (f ∷ fields) (v ∷ r) e = let one = both_true (fits_field f v) (row_fits fields r) e in both (w f v one.0) (widened_fits wrap w fields r one.1)

or_left : (a b : Bool) → a ≡ true → (a || b) ≡ true
or_left a b e = ap (λ x. x || b) e

or_right : (a b : Bool) → b ≡ true → (a || b) ≡ true
or_right true b e = refl
or_right false b e = e

pub may_be_null : (test : Bool) → Widens (nullable_if test)
may_be_null test f value.Null e = or_left f.nullable test e
may_be_null test f (value.Int z) e = e
may_be_null test f (value.UInt n) e = e
may_be_null test f (value.Dec z) e = e
may_be_null test f (value.Text b) e = e
may_be_null test f (value.Date d) e = e

-- a missing row
pub nulls_fit : (fields : List Field) (cs : List ℕ) → row_fits (map (nullable_if true) (map (field_at fields) cs)) (val cs []) ≡ true
nulls_fit fields [] = refl
nulls_fit fields (c ∷ cs) = both (or_right (field_at fields c).nullable true refl) (nulls_fit fields cs)

-- ---- keys

pub keys_fit : (made : List ℕ → Field) (fields : List Field) (r : Row) (key : List (List ℕ × Bool)) → row_fits fields r ≡ true → AllByRecursion (λ (k : List ℕ × Bool). column fields (k.0) < length fields) key
    → AllByRecursion (λ (k : List ℕ × Bool). (v : Value) → fits_field (field_named fields (k.0)) v ≡ true → fits_field (made (k.0)) v ≡ true) key
    → row_fits (map (λ (k : List ℕ × Bool). made (k.0)) key) (val (cols (key_columns fields key)) r) ≡ true
keys_fit made fields r [] e h w = refl
keys_fit made fields r (k ∷ key) e h w = both (w.0 (at r (column fields (k.0))) (column_fits fields r (column fields (k.0)) e h.0)) (keys_fit made fields r key e h.1 w.1)

pub same_flag_is : (a b : Bool) → same_flag a b ≡ true → a ≡ b
same_flag_is true true e = refl
same_flag_is true false e = cc
same_flag_is false true e = cc
same_flag_is false false e = refl

pub same_kind_is : (a b : Kind) → same_kind a b ≡ true → a ≡ b
same_kind_is (kind.Int m) (kind.Int n) e = ap kind.Int (eqb-true m n e)
same_kind_is (kind.UInt m) (kind.UInt n) e = ap kind.UInt (eqb-true m n e)
same_kind_is (kind.Dec p s) (kind.Dec q t) e = let h = both_true (p == q) (s == t) e in ap₂ kind.Dec (eqb-true p q h.0) (eqb-true s t h.1)
same_kind_is (kind.Text m a) (kind.Text n b) e = let h = both_true (m == n) (same_flag a b) e in ap₂ kind.Text (eqb-true m n h.0) (same_flag_is a b h.1)
same_kind_is kind.Date kind.Date e = refl
same_kind_is a b e = cc

-- a key's value of the second input
pub second_fits : (f g : Field) (v : Value) → f.kind ≡ g.kind → fits_field g v ≡ true → fits_field (nullable_if g.nullable f) v ≡ true
second_fits f g value.Null e h = or_right f.nullable g.nullable h
second_fits f g (value.Int z) e h = ap (λ k. fits_kind k (value.Int z)) e ∙ h
second_fits f g (value.UInt n) e h = ap (λ k. fits_kind k (value.UInt n)) e ∙ h
second_fits f g (value.Dec z) e h = ap (λ k. fits_kind k (value.Dec z)) e ∙ h
second_fits f g (value.Text b) e h = ap (λ k. fits_kind k (value.Text b)) e ∙ h
second_fits f g (value.Date d) e h = ap (λ k. fits_kind k (value.Date d)) e ∙ h

pub columns_of_keys : (fields : List Field) (key : List (List ℕ × Bool)) → has_keys fields key ≡ true → AllByRecursion (λ (k : List ℕ × Bool). column fields (k.0) < length fields) key
columns_of_keys fields [] h = tt
columns_of_keys fields (k ∷ key) h = let one = both_true (has_column fields (k.0)) (has_keys fields key) h in (column_within fields (k.0) one.0, columns_of_keys fields key one.1)

pub left_keys_fit : (key : List (List ℕ × Bool)) (left right : List Field) (r : Row) → AreBoth key left right → row_fits left r ≡ true → row_fits (map (λ (k : List ℕ × Bool). joined_key left right (k.0)) key) (val (cols (key_columns left key)) r) ≡ true
left_keys_fit key left right r b e = keys_fit (joined_key left right) left r key e (columns_of_keys left key b.left_has) (each key)
  where
    each : (ks : List (List ℕ × Bool)) → AllByRecursion (λ (k : List ℕ × Bool). (v : Value) → fits_field (field_named left (k.0)) v ≡ true → fits_field (joined_key left right (k.0)) v ≡ true) ks
    each [] = tt
    each (k ∷ ks) = (λ v h. may_be_null (field_named right (k.0)).nullable (field_named left (k.0)) v h, each ks)

pub right_keys_fit : (key : List (List ℕ × Bool)) (left right : List Field) (r : Row) → AreBoth key left right → row_fits right r ≡ true → row_fits (map (λ (k : List ℕ × Bool). joined_key left right (k.0)) key) (val (cols (key_columns right key)) r) ≡ true
right_keys_fit key left right r b e = keys_fit (joined_key left right) right r key e (columns_of_keys right key b.right_has) (each key b.agree)
  where
    each : (ks : List (List ℕ × Bool)) → kinds_agree ks left right ≡ true → AllByRecursion (λ (k : List ℕ × Bool). (v : Value) → fits_field (field_named right (k.0)) v ≡ true → fits_field (joined_key left right (k.0)) v ≡ true) ks
    each [] h = tt
    each (k ∷ ks) h =
        let one = both_true (same_kind (field_named left (k.0)).kind (field_named right (k.0)).kind) (kinds_agree ks left right) h in
        (λ v f. second_fits (field_named left (k.0)) (field_named right (k.0)) v (same_kind_is (field_named left (k.0)).kind (field_named right (k.0)).kind one.0) f, each ks one.1)

pub keys_long : (fields : List Field) (key : List (List ℕ × Bool)) → length (key_columns fields key) ≡ length key
keys_long fields [] = refl
keys_long fields (k ∷ key) = ap suc (keys_long fields key)

-- ---- others

others_within : (key : List (List ℕ × Bool)) (fields : List Field) → AllByRecursion (λ c. c < length fields) (other_columns key fields)
others_within key fields = all_passing (λ c. c < length fields) (λ c. not (is_in c (cols (key_columns fields key)))) (all_columns (length fields)) (all_of (λ c. c < length fields) (all_columns (length fields)) (below_range (length fields)))

pub others_fit : (missing : Bool) (key : List (List ℕ × Bool)) (fields : List Field) (r : Row) → row_fits fields r ≡ true → row_fits (map (nullable_if missing) (other_fields key fields)) (val (other_columns key fields) r) ≡ true
others_fit missing key fields r e = picked_fit (nullable_if missing) (may_be_null missing) fields r (other_columns key fields) e (others_within key fields)

pub no_others_fit : (missing : Bool) (key : List (List ℕ × Bool)) (fields : List Field) → missing ≡ true → row_fits (map (nullable_if missing) (other_fields key fields)) (val (other_columns key fields) []) ≡ true
no_others_fit missing key fields e = subst (λ b. row_fits (map (nullable_if b) (other_fields key fields)) (val (other_columns key fields) []) ≡ true) (sym e) (nulls_fit fields (other_columns key fields))
