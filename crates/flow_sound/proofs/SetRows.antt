-- A row with the values that are set fits the fields that are set.
use Rattle.std.proofs.Common.{◌≡◌, ◌≤◌, ℕ, suc, ◌+◌, ◌==◌, ◌&&◌, not, Bool, true, false, cond, List, [], ◌∷◌, ◌++◌, length, refl, ap, ◌∙◌, arith}
use Rattle.std.specs.Prelude.{nat_lt, slice_set, if◌then◌else◌}
use Rattle.std.specs.Str.{bytes_eq}
use Rattle.std.proofs.lemmas.Bool.Decides.{nat_tests}
use Rattle.ds_value.specs.declared.value.Value.{Value}
use Rattle.ds_schema.specs.declared.schema.Field.{Field}
use Rattle.ds_schema.specs.Schemas.{fits_field, row_fits}
use Rattle.op_base.specs.Columns.{Row}
use Rattle.op_base.proofs.All.{both_true}
use Rattle.op_row.specs.Expressed.{width_after, width_with}
use Rattle.op_row.specs.Setting.{put, put_all}
use Rattle.flow_graph.specs.declared.op_kind.SetSpec.{SetSpec}
use Rattle.op_shape.specs.Columns.{put_field, set_columns, set_fields}
use Rattle.op_shape.proofs.Putting.{column_new, column_set, has_new}
use Rattle.shape_base.specs.Naming.{column}

-- the first column that is set
first_place : (s : SetSpec) (set : List SetSpec) (fields : List Field) → column (set_fields (put_field s.field fields) set) s.field.name ≡ column fields s.field.name
first_place s set fields = column_set set (put_field s.field fields) s.field.name (has_new s.field fields) ∙ column_new s.field fields

with_wider : (n c : ℕ) → n ≤ width_with n c
with_wider n c = go (c == n)
  where
    go : (b : Bool) → n ≤ (if b then suc n else n)
    go true = omega arith
    go false = omega arith

pub wider : (cols : List ℕ) (n : ℕ) → n ≤ width_after n cols
wider [] n = omega arith
wider (c ∷ cols) n = let one = with_wider n c in let rest = wider cols (width_with n c) in omega (arith, one, rest)

put_next : (c : ℕ) (v x : Value) (r : Row) → put (1 + c) v (x ∷ r) ≡ x ∷ put c v r
put_next c v x r = ap (λ n. put n v (x ∷ r)) (let one : 1 + c ≡ suc c = omega arith in one) ∙ go (nat_lt c (length r)) refl
  where
    both : (b : Bool) → nat_lt c (length r) ≡ b → nat_lt (suc c) (suc (length r)) ≡ b
    both b e = grind (arith, nat_tests)

    go : (b : Bool) → nat_lt c (length r) ≡ b → put (suc c) v (x ∷ r) ≡ x ∷ (if b then slice_set r c v else r ++ v ∷ [])
    go true e = ap (λ b. if b then slice_set (x ∷ r) (suc c) v else (x ∷ r) ++ v ∷ []) (both true e)
    go false e = ap (λ b. if b then slice_set (x ∷ r) (suc c) v else (x ∷ r) ++ v ∷ []) (both false e)

put_first : (v x : Value) (r : Row) → put 0 v (x ∷ r) ≡ v ∷ r
put_first v x r = ap (λ b. if b then slice_set (x ∷ r) 0 v else (x ∷ r) ++ v ∷ []) (some (length r))
  where
    some : (n : ℕ) → nat_lt 0 (suc n) ≡ true
    some n = grind (arith, nat_tests)

pub both : {a b : Bool} → a ≡ true → b ≡ true → (a && b) ≡ true
both {a} {b} h k = ap (λ x. x && b) h ∙ k

put_fits : (new : Field) (fields : List Field) (v : Value) (r : Row) → row_fits fields r ≡ true → fits_field new v ≡ true → row_fits (put_field new fields) (put (column fields new.name) v r) ≡ true
put_fits new [] v [] h e = both e refl
put_fits new [] v (x ∷ r) h e = cc
put_fits new (f ∷ fields) v [] h e = cc
put_fits new (f ∷ fields) v (x ∷ r) h e = let parts = both_true (fits_field f x) (row_fits fields r) h in go (bytes_eq f.name new.name) parts.0 parts.1 (put_fits new fields v r parts.1 e)
  where
    go : (b : Bool) → fits_field f x ≡ true → row_fits fields r ≡ true → row_fits (put_field new fields) (put (column fields new.name) v r) ≡ true → row_fits (if b then new ∷ fields else f ∷ put_field new fields) (put (cond (not b) (1 + column fields new.name) 0) v (x ∷ r)) ≡ true
    go true one more rest = ap (row_fits (new ∷ fields)) (put_first v x r) ∙ both e more
    go false one more rest = ap (row_fits (f ∷ put_field new fields)) (put_next (column fields new.name) v x r) ∙ both one rest

-- each value fits the field that is set
abbrev pub FitEach : List SetSpec → List Value → Type 0
FitEach [] [] = Unit {0}
FitEach (s ∷ set) (v ∷ values) = (fits_field s.field v ≡ true) × FitEach set values
FitEach [] (v ∷ values) = ⊥
FitEach (s ∷ set) [] = ⊥

pub set_fits : (set : List SetSpec) (fields : List Field) (values : List Value) (r : Row) → row_fits fields r ≡ true → FitEach set values → row_fits (set_fields fields set) (put_all (set_columns fields set) values r) ≡ true
set_fits [] fields [] r h e = h
set_fits [] fields (v ∷ values) r h e = absurd e
set_fits (s ∷ set) fields [] r h e = absurd e
set_fits (s ∷ set) fields (v ∷ values) r h e =
    ap (λ c. row_fits (set_fields (put_field s.field fields) set) (put_all (set_columns (put_field s.field fields) set) values (put c v r))) (first_place s set fields)
    ∙ set_fits set (put_field s.field fields) values (put (column fields s.field.name) v r) (put_fits s.field fields v r h e.0) e.1
