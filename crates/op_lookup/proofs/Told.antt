-- Canonical bytes tell the values of keys apart.
use Rattle.std.proofs.Common.{◌≡◌, ℕ, Bool, true, false, ap, ap₂, sym, refl, List, [], ◌∷◌, ◌++◌}
use Rattle.std.specs.List.{AllByRecursion, flat_map}
use Rattle.std.specs.Str.{bytes_eq}
use Rattle.std.proofs.lemmas.Slice.Eq.{bytes_eq-Decides}
use Rattle.ds_value.specs.declared.value.Value.{Value}
use Rattle.ds_value.specs.declared.value.Value.TheVariants.{Null, Int, UInt, Dec, Text, Date}
use Rattle.ds_value.specs.Canonical.{canonical_bytes}
use Rattle.ds_value.proofs.CanonicalBytes.{canonical_once}
use Rattle.ds_schema.specs.Rows.{val, has}
use Rattle.op_base.specs.Columns.{Row}
use Rattle.op_base.proofs.Orders.{has_val, val_has}
use Rattle.op_lookup.specs.Standing.{IsTold}
use Rattle.op_lookup.specs.Table.{key_of}

-- no value has no bytes
some_bytes : (v : Value) (more : List ℕ) → [] ≡ canonical_bytes v ++ more → ⊥
some_bytes Null more e = cc
some_bytes (Int z) more e = cc
some_bytes (UInt n) more e = cc
some_bytes (Dec z) more e = cc
some_bytes (Text b) more e = cc
some_bytes (Date z) more e = cc

pub values_once : (v w : List Value) → AllByRecursion IsTold v → AllByRecursion IsTold w → flat_map canonical_bytes v ≡ flat_map canonical_bytes w → v ≡ w
values_once [] [] h k e = refl
values_once [] (b ∷ w) h k e = absurd (some_bytes b (flat_map canonical_bytes w) e)
values_once (a ∷ v) [] h k e = absurd (some_bytes a (flat_map canonical_bytes v) (sym e))
values_once (a ∷ v) (b ∷ w) h k e =
    let once = canonical_once a b (flat_map canonical_bytes v) (flat_map canonical_bytes w) h.0.0 k.0.0 h.0.1 k.0.1 e in
    ap₂ (λ x xs. x ∷ xs) once.0 (values_once v w h.1 k.1 once.1)

both_ways : (a b : Bool) → (a ≡ true → b ≡ true) → (b ≡ true → a ≡ true) → a ≡ b
both_ways true b f g = sym (f refl)
both_ways false true f g = g refl
both_ways false false f g = refl

-- rows have the same key bytes exactly where they have the same key values
pub bytes_tell : (main reference : List ℕ) (a r : Row) → AllByRecursion IsTold (val main a) → AllByRecursion IsTold (val reference r) → bytes_eq (key_of main a) (key_of reference r) ≡ has reference (val main a) r
bytes_tell main reference a r h k =
    let decides = bytes_eq-Decides (key_of main a) (key_of reference r) in
    both_ways (bytes_eq (key_of main a) (key_of reference r)) (has reference (val main a) r)
    (λ e. val_has reference (val main a) r (sym (values_once (val main a) (val reference r) h k (decides.0 e))))
    (λ e. decides.1 (ap (flat_map canonical_bytes) (sym (has_val reference (val main a) r e))))

pub same_key : (k m : List ℕ) → bytes_eq k m ≡ true → k ≡ m
same_key k m e = (bytes_eq-Decides k m).0 e
