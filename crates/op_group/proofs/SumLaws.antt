-- Sums and their variants of one value more.
use Rattle.std.proofs.Common.{◌≡◌, ℕ, ◌+◌, ◌*◌, ◌^◌, ℤ, pos, ◌+ℤ◌, ◌||◌, Bool, true, false, cond, Option, Some, None, List, [], ◌∷◌, ◌++◌, refl, sym, ap, ap₂, ◌∙◌, arith}
use Rattle.std.specs.List.{list_any}
use Rattle.std.proofs.lemmas.Int.{ints}
use Rattle.ds_value.specs.declared.value.Value.{Value}
use Rattle.ds_value.specs.declared.value.Value.TheVariants.{Null, Int, UInt, Dec, Text, Date}
use Rattle.ds_value.specs.Values.{number}
use Rattle.op_group.specs.declared.sum.Number.{Number}
use Rattle.op_group.specs.declared.sum.Number.TheVariants as kind
use Rattle.op_group.specs.declared.sum.Sum.{Sum}
use Rattle.op_group.specs.Results.{total, as_int, as_uint, is_int, is_uint, is_dec, sum_of}
use Rattle.op_group.specs.Kept.{IsWithin, SumStands, number_kind, wider, sum_kind, kept_sum, shown}

add_zero : (z : ℤ) → z ≡ z +ℤ pos 0
add_zero z = omega (arith, ints)

zero_add : (z : ℤ) → z +ℤ pos 0 ≡ pos 0 +ℤ z
zero_add z = omega (arith, ints)

regroup : (a b c : ℤ) → a +ℤ (b +ℤ c) ≡ (a +ℤ b) +ℤ c
regroup a b c = omega (arith, ints)

total-more : (values : List Value) (v : Value) → total (values ++ v ∷ []) ≡ total values +ℤ number v
total-more [] v = zero_add (number v)
total-more (w ∷ values) v = ap (λ z. number w +ℤ z) (total-more values v) ∙ regroup (number w) (total values) (number v)

-- a null adds nothing
total-shown : (values : List Value) (v : Value) → total (values ++ shown v) ≡ total values +ℤ number v
total-shown values Null = ap total (Rattle.std.proofs.Common.append-nil values) ∙ add_zero (total values)
total-shown values (Int z) = total-more values (Int z)
total-shown values (UInt n) = total-more values (UInt n)
total-shown values (Dec z) = total-more values (Dec z)
total-shown values (Text b) = total-more values (Text b)
total-shown values (Date z) = total-more values (Date z)

-- the variant of values and one more
wider_none : (k : Option Number) → wider k None ≡ k
wider_none None = refl
wider_none (Some kind.Int) = refl
wider_none (Some kind.UInt) = refl
wider_none (Some kind.Dec) = refl

wider_three : (a b c : Option Number) → wider a (wider b c) ≡ wider (wider a b) c
wider_three None b c = refl
wider_three (Some kind.Dec) b c = refl
wider_three (Some kind.UInt) None c = refl
wider_three (Some kind.UInt) (Some kind.Dec) c = refl
wider_three (Some kind.UInt) (Some kind.UInt) None = refl
wider_three (Some kind.UInt) (Some kind.UInt) (Some kind.Int) = refl
wider_three (Some kind.UInt) (Some kind.UInt) (Some kind.UInt) = refl
wider_three (Some kind.UInt) (Some kind.UInt) (Some kind.Dec) = refl
wider_three (Some kind.UInt) (Some kind.Int) None = refl
wider_three (Some kind.UInt) (Some kind.Int) (Some n) = refl
wider_three (Some kind.Int) None c = refl
wider_three (Some kind.Int) (Some kind.Dec) c = refl
wider_three (Some kind.Int) (Some kind.UInt) None = refl
wider_three (Some kind.Int) (Some kind.UInt) (Some kind.Int) = refl
wider_three (Some kind.Int) (Some kind.UInt) (Some kind.UInt) = refl
wider_three (Some kind.Int) (Some kind.UInt) (Some kind.Dec) = refl
wider_three (Some kind.Int) (Some kind.Int) None = refl
wider_three (Some kind.Int) (Some kind.Int) (Some n) = refl

sum_kind-more : (values : List Value) (v : Value) → sum_kind (values ++ v ∷ []) ≡ wider (sum_kind values) (number_kind v)
sum_kind-more [] v = wider_none (number_kind v)
sum_kind-more (w ∷ values) v = ap (wider (number_kind w)) (sum_kind-more values v) ∙ wider_three (number_kind w) (sum_kind values) (number_kind v)

-- a null changes nothing
sum_kind-shown : (values : List Value) (v : Value) → sum_kind (values ++ shown v) ≡ wider (sum_kind values) (number_kind v)
sum_kind-shown values Null = ap sum_kind (Rattle.std.proofs.Common.append-nil values) ∙ sym (wider_none (sum_kind values))
sum_kind-shown values (Int z) = sum_kind-more values (Int z)
sum_kind-shown values (UInt n) = sum_kind-more values (UInt n)
sum_kind-shown values (Dec z) = sum_kind-more values (Dec z)
sum_kind-shown values (Text b) = sum_kind-more values (Text b)
sum_kind-shown values (Date z) = sum_kind-more values (Date z)

pub SumStands-more : (before : ℕ) (values : List Value) (old new : Sum) (v : Value) → new.total ≡ old.total +ℤ number v → IsWithin ((before + 1) * 2 ^ 64) new.total → new.kind ≡ wider old.kind (number_kind v) → SumStands before values old → SumStands (before + 1) (values ++ shown v) new
SumStands-more before values old new v sum within kind stands = record {
  total_is = sum ∙ ap (λ z. z +ℤ number v) stands.total_is ∙ sym (total-shown values v);
  kind_is = kind ∙ ap (λ k. wider k (number_kind v)) stands.kind_is ∙ sym (sum_kind-shown values v);
  within = within;
}

-- the variant by what is among the values
abbrev kind_by : Bool → Bool → Bool → Option Number
kind_by decs uints ints = cond decs (Some kind.Dec) (cond uints (Some kind.UInt) (cond ints (Some kind.Int) None))

one_more : (v : Value) (decs uints ints : Bool) → wider (number_kind v) (kind_by decs uints ints) ≡ kind_by (is_dec v || decs) (is_uint v || uints) (is_int v || ints)
one_more Null decs uints ints = refl
one_more (Dec z) decs uints ints = refl
one_more (UInt n) true uints ints = refl
one_more (UInt n) false true ints = refl
one_more (UInt n) false false true = refl
one_more (UInt n) false false false = refl
one_more (Int z) true uints ints = refl
one_more (Int z) false true ints = refl
one_more (Int z) false false true = refl
one_more (Int z) false false false = refl
one_more (Text b) decs uints ints = refl
one_more (Date z) decs uints ints = refl

kind_among : (values : List Value) → sum_kind values ≡ kind_by (list_any is_dec values) (list_any is_uint values) (list_any is_int values)
kind_among [] = refl
kind_among (v ∷ values) = ap (wider (number_kind v)) (kind_among values) ∙ one_more v (list_any is_dec values) (list_any is_uint values) (list_any is_int values)

kept_by : (decs uints ints : Bool) (z : ℤ) → kept_sum (kind_by decs uints ints) z ≡ cond decs (Some (Dec z)) (cond uints (as_uint z) (cond ints (as_int z) (Some Null)))
kept_by true uints ints z = refl
kept_by false true ints z = refl
kept_by false false true z = refl
kept_by false false false z = refl

pub sum_kept : (k : Option Number) (z : ℤ) (values : List Value) → k ≡ sum_kind values → z ≡ total values → kept_sum k z ≡ sum_of values
sum_kept k z values e f = ap₂ kept_sum (e ∙ kind_among values) f ∙ kept_by (list_any is_dec values) (list_any is_uint values) (list_any is_int values) (total values)
