-- Values put into a row one after the other are its cells.
use Rattle.std.proofs.Common.{◌≡◌, ℕ, zero, suc, ◌<◌, ◌≤◌, ◌==◌, Bool, true, false, cond, refl, sym, ap, ◌∙◌, subst, inl, inr, ◌⊎◌, List, [], ◌∷◌, ◌++◌, length, map, length-append, ◌+◌, arith}
use Rattle.std.specs.Prelude.{nat_lt, slice_set}
use Rattle.std.specs.List.{AllByRecursion}
use Rattle.std.proofs.lemmas.Bool.{ltb-true}
use Rattle.std.proofs.lemmas.Bool.Decides.{eqb_tells, nat_tests}
use Rattle.std.proofs.lemmas.List.{get_or-set_same, get_or-set_other, length-set, ext_get_or}
use Rattle.std.proofs.lemmas.List.FromFn.{length-map-range_with_len, get_or-map-range_with_len}
use Rattle.ds_value.specs.declared.value.Value.{Value}
use Rattle.ds_value.specs.declared.value.Value.TheVariants.{Null}
use Rattle.ds_schema.specs.Rows.{at}
use Rattle.op_base.specs.Columns.{Row, all_columns}
use Rattle.op_base.specs.RowOperators.{cell}
use Rattle.op_row.specs.declared.setting.Set.{Set}
use Rattle.op_row.specs.Expressed.{AreTargets, targets, width_with, width_after}
use Rattle.op_row.specs.Setting.{put, put_all}

append_end : (r : Row) (v : Value) → at (r ++ v ∷ []) (length r) ≡ v
append_end [] v = refl
append_end (x ∷ r) v = append_end r v

append_elsewhere : (r : Row) (v : Value) (k : ℕ) → (length r ≡ k → ⊥) → at (r ++ v ∷ []) k ≡ at r k
append_elsewhere [] v zero h = absurd (h refl)
append_elsewhere [] v (suc k) h = refl
append_elsewhere (x ∷ r) v zero h = refl
append_elsewhere (x ∷ r) v (suc k) h = append_elsewhere r v k (λ e. h (ap suc e))

-- which of the two a put does
data Which (c : ℕ) (r : Row) : Type 0 where
  within : nat_lt c (length r) ≡ true → c < length r → Which c r
  behind : nat_lt c (length r) ≡ false → length r ≡ c → Which c r

which : (c : ℕ) (r : Row) → c ≤ length r → Which c r
which c r h = go (nat_lt c (length r)) refl
  where
    go : (b : Bool) → nat_lt c (length r) ≡ b → Which c r
    go true e = within e (ltb-true _ _ e)
    go false e = behind e (grind (arith, nat_tests))

as_set : (c : ℕ) (v : Value) (r : Row) → nat_lt c (length r) ≡ true → put c v r ≡ slice_set r c v
as_set c v r e = ap (λ b. cond b (slice_set r c v) (r ++ v ∷ [])) e

as_append : (c : ℕ) (v : Value) (r : Row) → nat_lt c (length r) ≡ false → put c v r ≡ r ++ v ∷ []
as_append c v r e = ap (λ b. cond b (slice_set r c v) (r ++ v ∷ [])) e

at_put : (c : ℕ) (v : Value) (r : Row) → c ≤ length r → at (put c v r) c ≡ v
at_put c v r h = elim (which c r h) [
  | within e lt ↦ ap (λ s. at s c) (as_set c v r e) ∙ get_or-set_same r c v Null lt
  | behind e is ↦ ap (λ s. at s c) (as_append c v r e) ∙ ap (at (r ++ v ∷ [])) (sym is) ∙ append_end r v
]

at_other : (c : ℕ) (v : Value) (r : Row) (k : ℕ) → c ≤ length r → (c ≡ k → ⊥) → at (put c v r) k ≡ at r k
at_other c v r k h ne = elim (which c r h) [
  | within e lt ↦ ap (λ s. at s k) (as_set c v r e) ∙ get_or-set_other r c k v Null (λ i. ne (sym i))
  | behind e is ↦ ap (λ s. at s k) (as_append c v r e) ∙ append_elsewhere r v k (λ i. ne (sym is ∙ i))
]

width_same : (n c : ℕ) → c < n → n ≡ width_with n c
width_same n c lt = grind (arith, nat_tests)

width_more : (n c : ℕ) → n ≡ c → n + 1 ≡ width_with n c
width_more n c e = grind (arith, nat_tests)

pub length_put : (c : ℕ) (v : Value) (r : Row) → c ≤ length r → length (put c v r) ≡ width_with (length r) c
length_put c v r h = elim (which c r h) [
  | within e lt ↦ ap length (as_set c v r e) ∙ length-set r c v ∙ width_same (length r) c lt
  | behind e is ↦ ap length (as_append c v r e) ∙ length-append r (v ∷ []) ∙ width_more (length r) c is
]

absent : (c : ℕ) (cols : List ℕ) (values : List Value) (r : Row) → AllByRecursion (λ other. c ≡ other → ⊥) cols → cell cols values r c ≡ at r c
absent c [] values r h = refl
absent c (d ∷ cols) [] r h = refl
absent c (d ∷ cols) (v ∷ values) r h = elim (eqb_tells d c) [ inl t ↦ absurd (h.0 (sym t.1)) | inr t ↦ ap (λ b. cond b v (cell cols values r c)) t.0 ∙ absent c cols values r h.1 ]

alike : (cols : List ℕ) (values : List Value) (r s : Row) (k : ℕ) → at r k ≡ at s k → cell cols values r k ≡ cell cols values s k
alike [] values r s k e = e
alike (c ∷ cols) [] r s k e = e
alike (c ∷ cols) (v ∷ values) r s k e = ap (λ x. cond (c == k) v x) (alike cols values r s k e)

still : (c : ℕ) (v : Value) (cols : List ℕ) (r : Row) → c ≤ length r → AreTargets (width_with (length r) c) cols → AreTargets (length (put c v r)) cols
still c v cols r h t = subst (λ n. AreTargets n cols) (sym (length_put c v r h)) t

cells_at : (cols : List ℕ) (values : List Value) (r : Row) (k : ℕ) → AreTargets (length r) cols → at (put_all cols values r) k ≡ cell cols values r k
cells_at [] values r k t = refl
cells_at (c ∷ cols) [] r k t = refl
cells_at (c ∷ cols) (v ∷ values) r k t = cells_at cols values (put c v r) k (still c v cols r t.0 t.2) ∙ elim (eqb_tells c k) [ inl q ↦ here q.1 ∙ sym (ap (λ b. cond b v (cell cols values r k)) q.0) | inr q ↦ elsewhere q.1 ∙ sym (ap (λ b. cond b v (cell cols values r k)) q.0) ]
  where
    here : c ≡ k → cell cols values (put c v r) k ≡ v
    here e = ap (cell cols values (put c v r)) (sym e) ∙ absent c cols values (put c v r) t.1 ∙ at_put c v r t.0

    elsewhere : (c ≡ k → ⊥) → cell cols values (put c v r) k ≡ cell cols values r k
    elsewhere ne = alike cols values (put c v r) r k (at_other c v r k t.0 ne)

length_all : (cols : List ℕ) (values : List Value) (r : Row) → AreTargets (length r) cols → length values ≡ length cols → length (put_all cols values r) ≡ width_after (length r) cols
length_all [] values r t e = refl
length_all (c ∷ cols) [] r t e = absurd (omega (arith, e))
length_all (c ∷ cols) (v ∷ values) r t e = length_all cols values (put c v r) (still c v cols r t.0 t.2) (omega (arith, e)) ∙ ap (λ n. width_after n cols) (length_put c v r t.0)

pub cells_are : (cols : List ℕ) (values : List Value) (r : Row) → AreTargets (length r) cols → length values ≡ length cols → put_all cols values r ≡ map (cell cols values r) (all_columns (width_after (length r) cols))
cells_are cols values r t e =
    let wide : length (put_all cols values r) ≡ width_after (length r) cols = length_all cols values r t e in
    ext_get_or Null (put_all cols values r) (map (cell cols values r) (all_columns (width_after (length r) cols)))
    (wide ∙ sym (length-map-range_with_len (cell cols values r) 0 (width_after (length r) cols)))
    (λ i lt. cells_at cols values r i t ∙ sym (get_or-map-range_with_len (cell cols values r) 0 (width_after (length r) cols) i i Null (omega (arith, wide, lt)) (omega arith)))

-- nothing is put where columns or values have ended
pub ended : (sets : List Set) (values : List Value) (r : Row) → (length sets ≡ 0) ⊎ (length values ≡ 0) → put_all (targets sets) values r ≡ r
ended [] values r h = refl
ended (set ∷ sets) [] r h = refl
ended (set ∷ sets) (v ∷ values) r (inl e) = absurd (omega (arith, e))
ended (set ∷ sets) (v ∷ values) r (inr e) = absurd (omega (arith, e))

pub length_targets : (sets : List Set) → length (targets sets) ≡ length sets
length_targets [] = refl
length_targets (set ∷ sets) = ap suc (length_targets sets)
