-- Hashes and partitions, computed: the published vectors, keys in their order, remainders; wrong numbers are refused.
use Rattle.std.proofs.Common.{◌≡◌, ◌≢◌, ◌*◌, ◌%◌, ℕ, true, false, ◌==◌, List, [], ◌∷◌, pos, refl, codes}
use Rattle.std.specs.Prelude.{neg_ℤ}
use Rattle.std.specs.List.{list_all, range_with_len}
use Rattle.ds_value.specs.declared.value.Value.{Value}
use Rattle.ds_value.specs.declared.value.Value.TheVariants.{Null, Int, UInt, Text}
use Rattle.ds_place.specs.declared.place.Place.TheVariants.{Hash, Modulus}
use Rattle.ds_place.specs.Places.{fnv, hash_number, place_number}

no_bytes : fnv [] ≡ 0xcbf29ce484222325
unfolding fnv
no_bytes = refl

letter : fnv (codes "a") ≡ 0xaf63dc4c8601ec8c
unfolding fnv
letter = refl

word : fnv (codes "foobar") ≡ 0x85944171f73967e8
unfolding fnv
word = refl

-- multiplied before the xor
not_fnv_1 : (fnv (codes "a") == 0xaf63bd4c8601b7be) ≡ false
unfolding fnv
not_fnv_1 = refl

-- the numbers from 0 to 255 on 4 partitions
small_numbers : list_all (λ k. hash_number 4 (Int (pos k) ∷ []) == 3 * k % 4) (range_with_len 0 256) ≡ true
unfolding fnv
small_numbers = refl

entry : List Value
entry = Int (pos 7) ∷ (Text (codes "ab") ∷ (Null ∷ []))

ids : List ℕ
ids = place_number (Hash (0 ∷ [])) (Int (pos 1) ∷ []) 4 ∷ (place_number (Hash (0 ∷ [])) (Int (pos 2) ∷ []) 4 ∷ (place_number (Hash (0 ∷ [])) (Int (pos 3) ∷ []) 4 ∷ (place_number (Hash (0 ∷ [])) (Int (pos 4) ∷ []) 4 ∷ [])))

four_ids : ids ≡ 3 ∷ (2 ∷ (1 ∷ (0 ∷ [])))
unfolding ids fnv
four_ids = refl

-- two columns in the order of the key
in_order : place_number (Hash (0 ∷ (1 ∷ []))) entry 1000 ≡ 186
unfolding entry fnv
in_order = refl

turned : place_number (Hash (1 ∷ (0 ∷ []))) entry 1000 ≡ 304
unfolding entry fnv
turned = refl

order_counts : (place_number (Hash (1 ∷ (0 ∷ []))) entry 1000 == 186) ≡ false
unfolding entry fnv
order_counts = refl

-- no column: all rows lie together
no_column : place_number (Hash []) entry 1000 ≡ 0xcbf29ce484222325 % 1000
unfolding entry fnv
no_column = refl

-- the variant counts
kinds_differ : (place_number (Hash (0 ∷ [])) (Int (pos 1) ∷ []) 1000 == place_number (Hash (0 ∷ [])) (UInt 1 ∷ []) 1000) ≡ false
unfolding fnv
kinds_differ = refl

remainder : place_number (Modulus 0) entry 4 ≡ 3
unfolding entry
remainder = refl

below_zero : place_number (Modulus 0) (Int (neg_ℤ (pos 7)) ∷ []) 4 ≡ 1
below_zero = refl

not_turned : place_number (Modulus 0) (Int (neg_ℤ (pos 7)) ∷ []) 4 ≢ 3
not_turned e = cc

greatest : place_number (Modulus 0) (UInt 18446744073709551615 ∷ []) 10 ≡ 5
greatest = refl

null_first : place_number (Modulus 2) entry 4 ≡ 0
unfolding entry
null_first = refl
