-- Canonical bytes name one value, and neither of two begins the other.
use Rattle.std.proofs.Common.{◌≡◌, ◌<◌, ◌≤◌, ℕ, zero, suc, ◌/◌, ◌%◌, ◌^◌, ℤ, pos, FitsSigned, to_z, of_z, w32, w64, List, [], ◌∷◌, ◌++◌, length, refl, sym, ap, ◌∙◌, arith, append_assoc, Bool, true, false, cond, nat_le, nat_lt, ◌==◌, eqb-true, leb-true, ltb-true, unsigned_abs, neg_ℤ}
use Rattle.std.specs.Int.{Width, w128, to_be_bytes, cast_unsigned, byte_at, bytes_high_first}
use Rattle.std.proofs.Math.Nat.{div-eq_of_lt, div-div-eq-div-mul, pow-suc}
use Rattle.std.proofs.Math.Facts.{Fits-of_z}
use Rattle.std.proofs.Math.Nat.{pow-le-pow_right}
use Rattle.std.proofs.lemmas.Int.{ints, to_z-of_z, fits_signed_from_abs}
use Rattle.ds_value.specs.declared.kind.Kind.{Kind}
use Rattle.ds_value.specs.declared.kind.Kind.TheVariants as kind
use Rattle.ds_value.specs.Kinds.{IsKind, fits_kind, is_between}
use Rattle.ds_value.proofs.Wholes.{int_fits, uint_within}
use Rattle.ds_value.specs.declared.value.Value.{Value}
use Rattle.ds_value.specs.declared.value.Value.TheVariants.{Null, Int, UInt, Dec, Text, Date}
use Rattle.ds_value.specs.Values.{variant}
use Rattle.ds_value.specs.Canonical.{canonical_bytes, IsShort, IsHeld}

-- lists of one length in front
pub same_front : (xs ys r t : List ℕ) → length xs ≡ length ys → xs ++ r ≡ ys ++ t → (xs ≡ ys) × (r ≡ t)
same_front [] [] r t h e = (refl, e)
same_front [] (y ∷ ys) r t h e = absurd (omega arith)
same_front (x ∷ xs) [] r t h e = absurd (omega arith)
same_front (x ∷ xs) (y ∷ ys) r t h e =
    let size : length xs ≡ length ys = omega arith in
    let rest : xs ++ r ≡ ys ++ t = cc in
    let first : x ≡ y = cc in
    let parts = same_front xs ys r t size rest in
    (let same = parts.0 in cc, parts.1)

byte_at-is : (k n : ℕ) → byte_at k n ≡ n / 256 ^ k % 256
byte_at-is zero n = let one : n / 1 ≡ n = omega arith in sym (ap (λ m. m % 256) one)
byte_at-is (suc k) n = refl

above : (k n : ℕ) → n / 256 ^ k / 256 ≡ n / 256 ^ suc k
above k n = div-div-eq-div-mul n (256 ^ k) 256 ∙ ap (λ m. n / m) (sym (pow-suc 256 k))

alike : (a b : ℕ) → a % 256 ≡ b % 256 → a / 256 ≡ b / 256 → a ≡ b
alike a b low high = omega arith

-- numbers whose high parts are one are one where their low bytes are
bytes_once : (k m n : ℕ) (r t : List ℕ) → m / 256 ^ k ≡ n / 256 ^ k → bytes_high_first k m ++ r ≡ bytes_high_first k n ++ t → (m ≡ n) × (r ≡ t)
bytes_once zero m n r t h e = (let whole : m / 1 ≡ n / 1 = h in omega arith, e)
bytes_once (suc k) m n r t h e =
    let first : byte_at k m ≡ byte_at k n = cc in
    let rest : bytes_high_first k m ++ r ≡ bytes_high_first k n ++ t = cc in
    let low : m / 256 ^ k % 256 ≡ n / 256 ^ k % 256 = sym (byte_at-is k m) ∙ (first ∙ byte_at-is k n) in
    let high : m / 256 ^ k / 256 ≡ n / 256 ^ k / 256 = above k m ∙ (h ∙ sym (above k n)) in
    let same : m / 256 ^ k ≡ n / 256 ^ k = alike (m / 256 ^ k) (n / 256 ^ k) low high in
    bytes_once k m n r t same rest

-- so the bytes of two numbers in one width tell them apart
narrow_once : (k m n : ℕ) (r t : List ℕ) → m < 256 ^ k → n < 256 ^ k → bytes_high_first k m ++ r ≡ bytes_high_first k n ++ t → (m ≡ n) × (r ≡ t)
narrow_once k m n r t hm hn e = bytes_once k m n r t (div-eq_of_lt hm ∙ sym (div-eq_of_lt hn)) e

signed_once : (w : Width) (k : ℕ) (y z : ℤ) (r t : List ℕ) → FitsSigned w y → FitsSigned w z → of_z w y < 256 ^ k → of_z w z < 256 ^ k → bytes_high_first k (of_z w y) ++ r ≡ bytes_high_first k (of_z w z) ++ t → (y ≡ z) × (r ≡ t)
signed_once w k y z r t fy fz hy hz e =
    let same = narrow_once k (of_z w y) (of_z w z) r t hy hz e in
    (sym (to_z-of_z w y fy) ∙ (ap (to_z w) same.0 ∙ to_z-of_z w z fz), same.1)

-- the tag is the variant's place
abbrev payload : Value → List ℕ
payload Null = []
payload (Int z) = to_be_bytes w64 (cast_unsigned w64 z)
payload (UInt n) = to_be_bytes w64 n
payload (Dec z) = to_be_bytes w128 (cast_unsigned w128 z)
payload (Text b) = to_be_bytes w32 (length b) ++ b
payload (Date z) = to_be_bytes w32 (cast_unsigned w32 z)

canonical_bytes-payload : (v : Value) → canonical_bytes v ≡ variant v ∷ payload v
canonical_bytes-payload Null = refl
canonical_bytes-payload (Int z) = refl
canonical_bytes-payload (UInt n) = refl
canonical_bytes-payload (Dec z) = refl
canonical_bytes-payload (Text b) = refl
canonical_bytes-payload (Date z) = refl

payload_once : (v w : Value) (r t : List ℕ) → IsHeld v → IsHeld w → IsShort v → IsShort w → variant v ≡ variant w → payload v ++ r ≡ payload w ++ t → (v ≡ w) × (r ≡ t)
payload_once Null Null r t hv hw sv sw tag e = (refl, e)
payload_once (Int y) (Int z) r t hv hw sv sw tag e = let same = signed_once w64 8 y z r t hv hw (Fits-of_z hv).fits (Fits-of_z hw).fits e in (ap Int same.0, same.1)
payload_once (UInt m) (UInt n) r t hv hw sv sw tag e = let same = narrow_once 8 m n r t hv hw e in (ap UInt same.0, same.1)
payload_once (Dec y) (Dec z) r t hv hw sv sw tag e = let same = signed_once w128 16 y z r t hv hw (Fits-of_z hv).fits (Fits-of_z hw).fits e in (ap Dec same.0, same.1)
payload_once (Text b) (Text c) r t hv hw sv sw tag e =
    let apart = sym (append_assoc (to_be_bytes w32 (length b)) b r) ∙ (e ∙ append_assoc (to_be_bytes w32 (length c)) c t) in
    let size = narrow_once 4 (length b) (length c) (b ++ r) (c ++ t) sv sw apart in
    let same = same_front b c r t size.0 size.1 in
    (ap Text same.0, same.1)
payload_once (Date y) (Date z) r t hv hw sv sw tag e = let same = signed_once w32 4 y z r t hv hw (Fits-of_z hv).fits (Fits-of_z hw).fits e in (ap Date same.0, same.1)
payload_once v w r t hv hw sv sw tag e = absurd (omega arith)

pub canonical_once : (v w : Value) (r t : List ℕ) → IsHeld v → IsHeld w → IsShort v → IsShort w → canonical_bytes v ++ r ≡ canonical_bytes w ++ t → (v ≡ w) × (r ≡ t)
canonical_once v w r t hv hw sv sw e =
    let tagged : variant v ∷ (payload v ++ r) ≡ variant w ∷ (payload w ++ t) = ap (λ (bs : List ℕ). bs ++ r) (sym (canonical_bytes-payload v)) ∙ (e ∙ ap (λ (bs : List ℕ). bs ++ t) (canonical_bytes-payload w)) in
    let tag : variant v ≡ variant w = cc in
    let rest : payload v ++ r ≡ payload w ++ t = cc in
    payload_once v w r t hv hw sv sw tag rest

short_text : (max : ℕ) (fixed : Bool) (b : List ℕ) → max ≤ 65536 → cond fixed (length b == max) (nat_le (length b) max) ≡ true → length b < 2 ^ 32
short_text max true b h fits = let full = eqb-true (length b) max fits in omega arith
short_text max false b h fits = let few = leb-true (length b) max fits in omega arith

dec_fits : (p : ℕ) (z : ℤ) → p ≤ 38 → nat_lt (unsigned_abs z) (10 ^ p) ≡ true → FitsSigned w128 z
dec_fits p z h fits =
    let most : 10 ^ p ≤ 10 ^ 38 = pow-le-pow_right (omega arith) h in
    let less = ltb-true (unsigned_abs z) (10 ^ p) fits in
    fits_signed_from_abs w128 z (omega arith)

date_fits : (z : ℤ) → is_between (neg_ℤ (pos 719162)) (pos 2932896) z ≡ true → FitsSigned w32 z
date_fits z h = grind (arith, ints)

-- what fits a kind is held by its variant
pub fits_held : (k : Kind) (v : Value) → IsKind k → fits_kind k v ≡ true → IsHeld v × IsShort v
fits_held (kind.Int bits) (Int z) h fits = (int_fits bits z h fits, tt)
fits_held (kind.UInt bits) (UInt n) h fits = (uint_within bits n h fits, tt)
fits_held (kind.Dec p s) (Dec z) h fits = (dec_fits p z h.1.0 fits, tt)
fits_held (kind.Text max fixed) (Text b) h fits = (tt, short_text max fixed b h.1 fits)
fits_held kind.Date (Date z) h fits = (date_fits z fits, tt)
fits_held k v h fits = cc
