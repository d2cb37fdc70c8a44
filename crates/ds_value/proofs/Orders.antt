-- The order of values is total, and tells apart what differs.
use Rattle.std.proofs.Common.{◌≡◌, [], ◌∷◌, refl, ap, ap₂, true, arith}
use Rattle.std.specs.declared.cmp.Ordering.{Ordering}
use Rattle.std.specs.declared.cmp.Ordering.TheVariants.{Less, Equal, Greater}
use Rattle.std.specs.Ordering.{ordering_then, is_eq, nat_cmp, int_cmp}
use Rattle.std.specs.Cmp.{IsTotalOrder}
use Rattle.std.specs.Cmp.Lexicographic.{slice_cmp}
use Rattle.std.proofs.lemmas.Cmp.{on_total, then_total, nat_cmp_total, int_cmp_total, nat_list_cmp_total}
use Rattle.std.proofs.lemmas.Map.Lookups.{exact_unsigned, exact_signed, exact_bytes, CmpEqualImpliesEq}
use Rattle.ds_value.specs.declared.value.Value.{Value}
use Rattle.ds_value.specs.declared.value.Value.TheVariants.{Null, Int, UInt, Dec, Text, Date}
use Rattle.ds_value.specs.Values.{variant, number, letters, value_cmp}

pub value_total : IsTotalOrder value_cmp
value_total = then_total (on_total variant nat_cmp_total) (then_total (on_total number int_cmp_total) (on_total letters nat_list_cmp_total))

pub then_equal : (o p : Ordering) → ordering_then o p ≡ Equal → (o ≡ Equal) × (p ≡ Equal)
then_equal Less p e = cc
then_equal Equal p e = (refl, e)
then_equal Greater p e = cc

-- a value is its variant and what it holds
value_parts : (a b : Value) → variant a ≡ variant b → number a ≡ number b → letters a ≡ letters b → a ≡ b
value_parts Null Null e f g = refl
value_parts (Int m) (Int n) e f g = ap Int f
value_parts (UInt m) (UInt n) e f g = cc
value_parts (Dec m) (Dec n) e f g = ap Dec f
value_parts (Text s) (Text t) e f g = ap Text g
value_parts (Date m) (Date n) e f g = ap Date f
value_parts a b e f g = absurd (omega arith)

pub value_exact : CmpEqualImpliesEq value_cmp
value_exact a b e =
    let h = then_equal (nat_cmp (variant a) (variant b)) (ordering_then (int_cmp (number a) (number b)) (slice_cmp nat_cmp (letters a) (letters b))) e in
    let k = then_equal (int_cmp (number a) (number b)) (slice_cmp nat_cmp (letters a) (letters b)) h.1 in
    value_parts a b (exact_unsigned (variant a) (variant b) h.0) (exact_signed (number a) (number b) k.0) (exact_bytes (letters a) (letters b) k.1)

pub exact_lists : {K : Type 0} (R : K → K → Ordering) → CmpEqualImpliesEq R → CmpEqualImpliesEq (slice_cmp R)
exact_lists R h [] [] e = refl
exact_lists R h [] (y ∷ ys) e = cc
exact_lists R h (x ∷ xs) [] e = cc
exact_lists R h (x ∷ xs) (y ∷ ys) e =
    let k = then_equal (R x y) (slice_cmp R xs ys) e in
    ap₂ (λ a b. a ∷ b) (h x y k.0) (exact_lists R h xs ys k.1)

pub equal_from_is : (o : Ordering) → is_eq o ≡ true → o ≡ Equal
equal_from_is Less e = cc
equal_from_is Equal e = refl
equal_from_is Greater e = cc
