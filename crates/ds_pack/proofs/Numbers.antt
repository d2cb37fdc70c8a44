-- Numbers of several bytes: what is read of some bytes is written as these.
use Rattle.std.proofs.Common.{◌≡◌, ◌<◌, ◌≤◌, ℕ, ℤ, zero, suc, ◌+◌, ◌*◌, ◌/◌, ◌%◌, ◌^◌, List, [], ◌∷◌, ◌++◌, Some, length, take, drop, get_or, slice_index, Fits, FitsSigned, w8, refl, sym, ap, ◌∙◌, arith}
use Rattle.std.specs.Int.{w128, byte_at, bytes_high_first, cast_signed, cast_unsigned}
use Rattle.ds_value.specs.declared.value.Value.TheVariants.{Dec}
use Rattle.ds_pack.specs.Packed.{FirstValue}
use Rattle.std.proofs.Math.Facts.{sfits_to_z}
use Rattle.std.proofs.lemmas.Int.{of_z-to_z}
use Rattle.std.proofs.lemmas.List.{take-append-drop}
use Rattle.byteorder.specs.Endian.{big_from, big_number}
use Rattle.byteorder.specs.Numbers.{big_from-lt, big_from-cons}
use Rattle.std.proofs.Math.Nat.{add-mul-div_right, add_comm, mul_assoc, mul_comm, pow-suc, one-le-pow}
use Rattle.std.proofs.lemmas.Nat.{div-mul-add, pow-add}

byte_at-is : (k n : ℕ) → byte_at k n ≡ n / 256 ^ k % 256
byte_at-is zero n = let one : n / 1 ≡ n = omega arith in sym (ap (λ m. m % 256) one)
byte_at-is (suc k) n = refl

-- a higher part as a multiple of what stands below
parted : (m k a : ℕ) → a * 256 ^ (m + suc k) ≡ (a * 256 ^ m * 256) * 256 ^ k
parted m k a =
    ap (λ p. a * p) (pow-add 256 m (suc k) ∙ ap (λ p. 256 ^ m * p) (pow-suc 256 k ∙ mul_comm (256 ^ k) 256))
    ∙ sym (mul_assoc a (256 ^ m) (256 * 256 ^ k))
    ∙ sym (mul_assoc (a * 256 ^ m) 256 (256 ^ k))

turned : (q b : ℕ) → (q + b * 256) % 256 ≡ q % 256
turned q b = omega arith

byte_below : (m k a r : ℕ) → byte_at k (a * 256 ^ (m + suc k) + r) ≡ byte_at k r
byte_below m k a r =
    byte_at-is k (a * 256 ^ (m + suc k) + r)
    ∙ ap (λ n. n / 256 ^ k % 256) (add_comm (a * 256 ^ (m + suc k)) r ∙ ap (λ p. r + p) (parted m k a))
    ∙ ap (λ n. n % 256) (add-mul-div_right r (a * 256 ^ m * 256) (one-le-pow k 256 (omega arith)))
    ∙ turned (r / 256 ^ k) (a * 256 ^ m)
    ∙ sym (byte_at-is k r)

moved : (m k : ℕ) → m + suc k ≡ suc m + k
moved m k = omega arith

-- the low bytes are those of the low part
bytes_below : (m k a r : ℕ) → bytes_high_first k (a * 256 ^ (m + k) + r) ≡ bytes_high_first k r
bytes_below m zero a r = refl
bytes_below m (suc k) a r =
    ap (λ b. b ∷ bytes_high_first k (a * 256 ^ (m + suc k) + r)) (byte_below m k a r)
    ∙ ap (λ bs. byte_at k r ∷ bs) (ap (λ n. bytes_high_first k (a * 256 ^ n + r)) (moved m k) ∙ bytes_below (suc m) k a r)

low_alone : (n a r : ℕ) → bytes_high_first n (a * 256 ^ n + r) ≡ bytes_high_first n r
low_alone n a r = ap (λ k. bytes_high_first n (a * 256 ^ k + r)) (let e : n ≡ 0 + n = omega arith in e) ∙ bytes_below 0 n a r

is_byte : (x : ℕ) → x < 256 → x % 256 ≡ x
is_byte x h = omega arith

byte_above : (k x r : ℕ) → x < 256 → r < 256 ^ k → byte_at k (x * 256 ^ k + r) ≡ x
byte_above k x r hx hr = byte_at-is k (x * 256 ^ k + r) ∙ ap (λ n. n % 256) (div-mul-add x (256 ^ k) r hr) ∙ is_byte x hx

-- so the number of some bytes is written as these bytes
pub written : (n : ℕ) (xs : List ℕ) → n ≤ length xs → ((k : ℕ) → slice_index xs k < 256) → bytes_high_first n (big_from 0 n xs) ≡ take n xs
written zero xs h each = refl
written (suc n) [] h each = absurd (omega arith)
written (suc n) (x ∷ xs) h each =
    let r = big_from 0 n xs in
    ap (λ t. bytes_high_first (suc n) (x * 256 ^ n + t)) (big_from-cons 0 n x xs)
    ∙ ap (λ b. b ∷ bytes_high_first n (x * 256 ^ n + r)) (byte_above n x r (each 0) (big_from-lt 0 n xs (λ k. each (suc k))))
    ∙ ap (λ bs. x ∷ bs) (low_alone n x r ∙ written n xs (omega arith) (λ k. each (suc k)))

byte_of : (xs : List ℕ) → ((i : ℕ) → Fits w8 (get_or xs i 0)) → (k : ℕ) → slice_index xs k < 256
byte_of xs each k = let h = each k in omega (arith, h)

-- the value of 16 bytes in two's complement
pub dec_is : (content : List ℕ) (z : ℤ) → 16 ≤ length content → ((i : ℕ) → Fits w8 (get_or content i 0)) → z ≡ cast_signed w128 (big_number 16 content) → FirstValue (3 ∷ content) (Some (Dec z, 17))
dec_is content z h each e =
    let n = big_number 16 content in
    let small : n < 2 ^ 128 = big_from-lt 0 16 content (byte_of content each) in
    let held : FitsSigned w128 z = rw e (sfits_to_z {w = w128} (record { fits = small })) in
    let front : bytes_high_first 16 (cast_unsigned w128 z) ≡ take 16 content = ap (λ y. bytes_high_first 16 (cast_unsigned w128 y)) e ∙ (ap (bytes_high_first 16) (of_z-to_z w128 n small) ∙ written 16 content h (byte_of content each)) in
    (held, tt, refl, ap (λ t. 3 ∷ t) (sym (take-append-drop 16 content) ∙ ap (λ t. t ++ drop 16 content) (sym front)))
