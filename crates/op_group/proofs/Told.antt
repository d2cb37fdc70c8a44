-- Canonical bytes tell the values of keys apart.
use Rattle.std.proofs.Common.{◌≡◌, ℕ, zero, suc, Bool, true, false, ap, ap₂, sym, refl, ◌∙◌, subst, List, [], ◌∷◌, ◌++◌, arith}
use Rattle.std.specs.List.{All, AllByRecursion, flat_map}
use Rattle.std.specs.Str.{bytes_eq}
use Rattle.std.proofs.lemmas.Slice.Eq.{bytes_eq-Decides}
use Rattle.ds_value.specs.declared.value.Value.{Value}
use Rattle.ds_value.specs.declared.value.Value.TheVariants.{Null, Int, UInt, Dec, Text, Date}
use Rattle.ds_value.specs.Canonical.{canonical_bytes, IsHeld, IsShort}
use Rattle.ds_value.proofs.CanonicalBytes.{canonical_once}
use Rattle.op_base.specs.Keyed.{same_vals}
use Rattle.op_base.proofs.KeyValues.{same_vals_true, same_vals_itself}
use Rattle.op_group.specs.Tables.{IsTold}

-- no value has no bytes
some_bytes : (v : Value) (more : List ℕ) → [] ≡ canonical_bytes v ++ more → ⊥
some_bytes Null more e = cc
some_bytes (Int z) more e = cc
some_bytes (UInt n) more e = cc
some_bytes (Dec z) more e = cc
some_bytes (Text b) more e = cc
some_bytes (Date z) more e = cc

values_once : (v w : List Value) → AllByRecursion IsTold v → AllByRecursion IsTold w → flat_map canonical_bytes v ≡ flat_map canonical_bytes w → v ≡ w
values_once [] [] h k e = refl
values_once [] (b ∷ w) h k e = absurd (some_bytes b (flat_map canonical_bytes w) e)
values_once (a ∷ v) [] h k e = absurd (some_bytes a (flat_map canonical_bytes v) (sym e))
values_once (a ∷ v) (b ∷ w) h k e =
    let once = canonical_once a b (flat_map canonical_bytes v) (flat_map canonical_bytes w) h.0.0 k.0.0 h.0.1 k.0.1 e in
    ap₂ (λ x xs. x ∷ xs) once.0 (values_once v w h.1 k.1 once.1)

both_ways : (a b : Bool) → (a ≡ true → b ≡ true) → (b ≡ true → a ≡ true) → a ≡ b
both_ways true b f g = sym (f refl)
both_ways false true f g = g refl
both_ways false false f g = refl

pub bytes_tell : (v w : List Value) (k m : List ℕ) → AllByRecursion IsTold v → AllByRecursion IsTold w → k ≡ flat_map canonical_bytes v → m ≡ flat_map canonical_bytes w → bytes_eq k m ≡ same_vals v w
bytes_tell v w k m h l e f =
    let decides = bytes_eq-Decides k m in
    both_ways (bytes_eq k m) (same_vals v w)
    (λ t. subst (λ u. same_vals v u ≡ true) (values_once v w h l (sym e ∙ decides.0 t ∙ f)) (same_vals_itself v))
    (λ t. decides.1 (e ∙ ap (flat_map canonical_bytes) (sym (same_vals_true v w t)) ∙ sym f))

pub same_sym : (v w : List Value) → same_vals v w ≡ same_vals w v
same_sym v w = both_ways (same_vals v w) (same_vals w v) (turned v w) (turned w v)
  where
    turned : (x y : List Value) → same_vals x y ≡ true → same_vals y x ≡ true
    turned x y e = subst (λ u. same_vals y u ≡ true) (same_vals_true x y e) (same_vals_itself y)

-- values that are held and short
pub all_told : (v : List Value) → All IsShort v → AllByRecursion IsHeld v → AllByRecursion IsTold v
all_told [] h k = tt
all_told (a ∷ v) h k = ((k.0, h 0 Null (omega arith)), all_told v (λ i d l. h (suc i) d (omega arith)) k.1)

pub told_short : (v : List Value) → AllByRecursion IsTold v → All IsShort v
told_short [] h i d l = absurd (omega arith)
told_short (a ∷ v) h zero d l = h.0.1
told_short (a ∷ v) h (suc i) d l = told_short v h.1 i d (omega arith)
