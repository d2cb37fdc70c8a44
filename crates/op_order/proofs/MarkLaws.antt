-- Where two rows' marks differ, the rows lie in that order.
use Rattle.std.proofs.Common.{◌≡◌, ◌⊎◌, inl, inr, ℕ, zero, suc, ◌+◌, ◌-◌, ◌*◌, ◌^◌, ◌<◌, ◌≤◌, ◌==◌, min, ℤ, pos, negsuc, Bool, true, false, cond, refl, sym, ap, ap₂, ◌∙◌, subst, List, [], ◌∷◌, drop, get_or, arith}
use Rattle.std.specs.Prelude.{int_lt, unsigned_abs, ◌+ℤ◌}
use Rattle.std.specs.Ordering.{nat_cmp, int_cmp, ordering_then, ordering_reverse}
use Rattle.std.specs.Cmp.Lexicographic.{slice_cmp}
use Rattle.std.specs.declared.cmp.Ordering.{Ordering}
use Rattle.std.specs.declared.cmp.Ordering.TheVariants.{Less, Equal, Greater}
use Rattle.std.proofs.lemmas.Bool.{lt-ltb, le-ltb}
use Rattle.std.proofs.lemmas.Bool.Decides.{eqb_tells}
use Rattle.streams.proofs.StreamLaws.{eq_true}
use Rattle.std.proofs.lemmas.Cmp.{nat_cmp_total}
use Rattle.std.proofs.Math.Nat.{mul-le-mul_left, pow-suc}
use Rattle.ds_value.specs.declared.value.Value.{Value}
use Rattle.ds_value.specs.declared.value.Value.TheVariants.{Null, Int, UInt, Dec, Text, Date}
use Rattle.ds_value.specs.Values.{value_cmp, variant, number, letters}
use Rattle.ds_schema.specs.declared.key.Key.{Key}
use Rattle.ds_schema.specs.Rows.{at, val, cols, ways, turned_cmp, vals_cmp, row_cmp}
use Rattle.op_base.proofs.Orders.{row_total}
use Rattle.op_order.specs.declared.marked.Marked.{Marked}
use Rattle.op_order.specs.Marks.{number_mark, next_digit, text_digits, content_mark, value_mark, key_mark, marked_cmp}

nat_less : (x y : ℕ) → x < y → nat_cmp x y ≡ Less
nat_less x y h = ap (λ b. cond b Less (cond (x == y) Equal Greater)) (lt-ltb x y h)

-- numbers
mark_pos : (n : ℕ) → ((n < 2 ^ 60) × (number_mark (pos n) ≡ n + 2 ^ 60)) ⊎ ((2 ^ 60 ≤ n) × (number_mark (pos n) ≡ 2 ^ 61 - 1))
mark_pos n = go (tell n)
  where
    tell : (n : ℕ) → (n < 2 ^ 60) ⊎ (2 ^ 60 ≤ n)
    tell n = grind arith

    go : (n < 2 ^ 60) ⊎ (2 ^ 60 ≤ n) → ((n < 2 ^ 60) × (number_mark (pos n) ≡ n + 2 ^ 60)) ⊎ ((2 ^ 60 ≤ n) × (number_mark (pos n) ≡ 2 ^ 61 - 1))
    go (inl h) = inl (h, ap (λ b. cond b (n + 2 ^ 60) (2 ^ 61 - 1)) (lt-ltb n (2 ^ 60) h))
    go (inr h) = inr (h, ap (λ b. cond b (n + 2 ^ 60) (2 ^ 61 - 1)) (le-ltb n (2 ^ 60) h))

mark_neg : (n : ℕ) → ((2 ^ 60 ≤ n) × (number_mark (negsuc n) ≡ 0)) ⊎ ((n < 2 ^ 60) × (number_mark (negsuc n) ≡ 2 ^ 60 - suc n))
mark_neg n = go (tell n)
  where
    tell : (n : ℕ) → (2 ^ 60 ≤ n) ⊎ (n < 2 ^ 60)
    tell n = grind arith

    go : (2 ^ 60 ≤ n) ⊎ (n < 2 ^ 60) → ((2 ^ 60 ≤ n) × (number_mark (negsuc n) ≡ 0)) ⊎ ((n < 2 ^ 60) × (number_mark (negsuc n) ≡ 2 ^ 60 - suc n))
    go (inl h) = inl (h, ap (λ b. cond b 0 (unsigned_abs (negsuc n +ℤ pos (2 ^ 60)))) (lt-ltb (2 ^ 60 - 1) n (omega (arith, h))))
    go (inr h) = inr (h, ap (λ b. cond b 0 (unsigned_abs (negsuc n +ℤ pos (2 ^ 60)))) (le-ltb (2 ^ 60 - 1) n (omega (arith, h))) ∙ ap (λ b. unsigned_abs (cond b (negsuc (suc n - suc (2 ^ 60))) (pos (2 ^ 60 - suc n)))) (le-ltb (2 ^ 60) (suc n) (omega (arith, h))))

int_less : (x y : ℤ) → int_lt x y ≡ true → int_cmp x y ≡ Less
int_less x y h = ap (λ b. cond b Less (cond (int_lt y x) Greater Equal)) h

number_less : (x y : ℤ) → number_mark x < number_mark y → int_cmp x y ≡ Less
number_less (pos a) (pos b) h = int_less (pos a) (pos b) (lt-ltb a b (below (mark_pos a) (mark_pos b)))
  where
    below : ((a < 2 ^ 60) × (number_mark (pos a) ≡ a + 2 ^ 60)) ⊎ ((2 ^ 60 ≤ a) × (number_mark (pos a) ≡ 2 ^ 61 - 1)) → ((b < 2 ^ 60) × (number_mark (pos b) ≡ b + 2 ^ 60)) ⊎ ((2 ^ 60 ≤ b) × (number_mark (pos b) ≡ 2 ^ 61 - 1)) → a < b
    below (inl p) (inl q) = omega (arith, p.0, p.1, q.0, q.1, h)
    below (inl p) (inr q) = omega (arith, p.0, p.1, q.0, q.1, h)
    below (inr p) (inl q) = omega (arith, p.0, p.1, q.0, q.1, h)
    below (inr p) (inr q) = omega (arith, p.0, p.1, q.0, q.1, h)
number_less (pos a) (negsuc b) h = absurd (never (mark_pos a) (mark_neg b))
  where
    never : ((a < 2 ^ 60) × (number_mark (pos a) ≡ a + 2 ^ 60)) ⊎ ((2 ^ 60 ≤ a) × (number_mark (pos a) ≡ 2 ^ 61 - 1)) → ((2 ^ 60 ≤ b) × (number_mark (negsuc b) ≡ 0)) ⊎ ((b < 2 ^ 60) × (number_mark (negsuc b) ≡ 2 ^ 60 - suc b)) → ⊥
    never (inl p) (inl q) = omega (arith, p.0, p.1, q.0, q.1, h)
    never (inl p) (inr q) = omega (arith, p.0, p.1, q.0, q.1, h)
    never (inr p) (inl q) = omega (arith, p.0, p.1, q.0, q.1, h)
    never (inr p) (inr q) = omega (arith, p.0, p.1, q.0, q.1, h)
number_less (negsuc a) (pos b) h = refl
number_less (negsuc a) (negsuc b) h = int_less (negsuc a) (negsuc b) (lt-ltb b a (below (mark_neg a) (mark_neg b)))
  where
    below : ((2 ^ 60 ≤ a) × (number_mark (negsuc a) ≡ 0)) ⊎ ((a < 2 ^ 60) × (number_mark (negsuc a) ≡ 2 ^ 60 - suc a)) → ((2 ^ 60 ≤ b) × (number_mark (negsuc b) ≡ 0)) ⊎ ((b < 2 ^ 60) × (number_mark (negsuc b) ≡ 2 ^ 60 - suc b)) → b < a
    below (inl p) (inl q) = omega (arith, p.0, p.1, q.0, q.1, h)
    below (inl p) (inr q) = omega (arith, p.0, p.1, q.0, q.1, h)
    below (inr p) (inl q) = omega (arith, p.0, p.1, q.0, q.1, h)
    below (inr p) (inr q) = omega (arith, p.0, p.1, q.0, q.1, h)

number_small : (z : ℤ) → number_mark z < 2 ^ 61
number_small (pos a) = below (mark_pos a)
  where
    below : ((a < 2 ^ 60) × (number_mark (pos a) ≡ a + 2 ^ 60)) ⊎ ((2 ^ 60 ≤ a) × (number_mark (pos a) ≡ 2 ^ 61 - 1)) → number_mark (pos a) < 2 ^ 61
    below (inl p) = omega (arith, p.0, p.1)
    below (inr p) = omega (arith, p.0, p.1)
number_small (negsuc a) = below (mark_neg a)
  where
    below : ((2 ^ 60 ≤ a) × (number_mark (negsuc a) ≡ 0)) ⊎ ((a < 2 ^ 60) × (number_mark (negsuc a) ≡ 2 ^ 60 - suc a)) → number_mark (negsuc a) < 2 ^ 61
    below (inl p) = omega (arith, p.0, p.1)
    below (inr p) = omega (arith, p.0, p.1)

-- texts
digit_small : (before byte : ℕ) → next_digit before byte ≤ 255
digit_small before byte = go (before == 255)
  where
    least : (byte : ℕ) → min byte 255 ≤ 255
    least byte = omega arith

    go : (b : Bool) → cond b 255 (min byte 255) ≤ 255
    go true = omega arith
    go false = least byte

-- a digit d before a number below p
place : (p d r q : ℕ) → p * d ≤ p * 255 → r < p → q ≡ p * 256 → d * p + r < q
place p d r q h k e = grind (arith, h, k, e)

digits_small : (n before i : ℕ) (bytes : List ℕ) → text_digits n before i bytes < 256 ^ n
digits_small zero before i bytes = omega arith
digits_small (suc n) before i bytes =
    place (256 ^ n) (next_digit before (get_or bytes i 0)) (text_digits n (next_digit before (get_or bytes i 0)) (suc i) bytes) (256 ^ suc n)
    (mul-le-mul_left (256 ^ n) (digit_small before (get_or bytes i 0))) (digits_small n (next_digit before (get_or bytes i 0)) (suc i) bytes) (pow-suc 256 n)

-- behind a full digit all are full
all_full : (n i : ℕ) (xs ys : List ℕ) → text_digits n 255 i xs ≡ text_digits n 255 i ys
all_full zero i xs ys = refl
all_full (suc n) i xs ys = ap (λ t. 255 * 256 ^ n + t) (all_full n (suc i) xs ys)

-- what is at a place of a list
data From (xs : List ℕ) (i : ℕ) : Type 0 where
  over : drop i xs ≡ [] → get_or xs i 0 ≡ 0 → From xs i
  byte : (x : ℕ) (rest : List ℕ) → drop i xs ≡ x ∷ rest → get_or xs i 0 ≡ x → drop (suc i) xs ≡ rest → From xs i

from : (xs : List ℕ) (i : ℕ) → From xs i
from [] zero = over refl refl
from [] (suc i) = over refl refl
from (x ∷ xs) zero = byte x xs refl refl refl
from (x ∷ xs) (suc i) = elim (from xs i) as (λ _. From (x ∷ xs) (suc i)) [ over d g ↦ over d g | byte y rest d g e ↦ byte y rest d g e ]

still_over : (i : ℕ) (xs : List ℕ) → drop i xs ≡ [] → drop (suc i) xs ≡ []
still_over i [] e = refl
still_over zero (x ∷ xs) e = absurd (let n : x ∷ xs ≡ [] = e in cc)
still_over (suc i) (x ∷ xs) e = still_over i xs e

nothing_at : (i : ℕ) (xs : List ℕ) → drop i xs ≡ [] → get_or xs i 0 ≡ 0
nothing_at i [] e = refl
nothing_at zero (x ∷ xs) e = absurd (let n : x ∷ xs ≡ [] = e in cc)
nothing_at (suc i) (x ∷ xs) e = nothing_at i xs e

-- past the end all digits are 0
nothing_left : (n before i : ℕ) (xs : List ℕ) → drop i xs ≡ [] → (before == 255) ≡ false → text_digits n before i xs ≡ 0
nothing_left zero before i xs e b = refl
nothing_left (suc n) before i xs e b =
    let none : next_digit before (get_or xs i 0) ≡ 0 = ap₂ (λ t g. cond t 255 (min g 255)) b (nothing_at i xs e) in
    ap (λ d. d * 256 ^ n + text_digits n d (suc i) xs) none ∙ none_more (256 ^ n) (text_digits n 0 (suc i) xs) (nothing_left n 0 (suc i) xs (still_over i xs e) refl)
  where
    none_more : (p t : ℕ) → t ≡ 0 → 0 * p + t ≡ 0
    none_more p t h = omega (arith, h)

-- one digit and what is behind it
digits_less : (p a b r s : ℕ) → a * p + r < b * p + s → s < p → (a < b) ⊎ ((a ≡ b) × (r < s))
digits_less p a b r s h k = go (tell a b)
  where
    tell : (a b : ℕ) → (a < b) ⊎ ((a ≡ b) ⊎ (b < a))
    tell a b = grind arith

    same : (c : ℕ) → c * p + r < c * p + s → r < s
    same c h = omega (arith, h)

    over : p * suc b ≤ p * a → ⊥
    over m = grind (arith, m, h, k)

    go : (a < b) ⊎ ((a ≡ b) ⊎ (b < a)) → (a < b) ⊎ ((a ≡ b) × (r < s))
    go (inl l) = inl l
    go (inr (inl e)) = inr (e, same b (subst (λ c. c * p + r < b * p + s) e h))
    go (inr (inr g)) = absurd (over (mul-le-mul_left p g))

nat_same : (x y : ℕ) → x ≡ y → nat_cmp x y ≡ Equal
nat_same x y e = ap₂ (λ l q. cond l Less (cond q Equal Greater)) (le-ltb x y (omega (arith, e))) (eq_true x y e)

next_full : (before g : ℕ) → (before == 255) ≡ true → next_digit before g ≡ 255
next_full before g h = ap (λ t. cond t 255 (min g 255)) h

next_plain : (before g : ℕ) → (before == 255) ≡ false → next_digit before g ≡ min g 255
next_plain before g h = ap (λ t. cond t 255 (min g 255)) h

-- a byte that is less
byte_less : (xs ys : List ℕ) (i : ℕ) → get_or xs i 0 < get_or ys i 0 → From xs i → From ys i → slice_cmp nat_cmp (drop i xs) (drop i ys) ≡ Less
byte_less xs ys i h (over d g) (over e k) = absurd (omega (arith, h, g, k))
byte_less xs ys i h (over d g) (byte y rest e k l) = ap₂ (slice_cmp nat_cmp) d e
byte_less xs ys i h (byte x rest d g l) (over e k) = absurd (omega (arith, h, k))
byte_less xs ys i h (byte x rest d g l) (byte y more e k m) = ap₂ (slice_cmp nat_cmp) d e ∙ ap (λ o. ordering_then o (slice_cmp nat_cmp rest more)) (nat_less x y (omega (arith, h, g, k)))

-- bytes that are the same, and less behind them
byte_same : (xs ys : List ℕ) (i : ℕ) → get_or xs i 0 ≡ get_or ys i 0 → (drop (suc i) ys ≡ [] → ⊥) → slice_cmp nat_cmp (drop (suc i) xs) (drop (suc i) ys) ≡ Less → From xs i → From ys i → slice_cmp nat_cmp (drop i xs) (drop i ys) ≡ Less
byte_same xs ys i h some less (over d g) (over e k) = absurd (some (still_over i ys e))
byte_same xs ys i h some less (over d g) (byte y rest e k l) = ap₂ (slice_cmp nat_cmp) d e
byte_same xs ys i h some less (byte x rest d g l) (over e k) = absurd (some (still_over i ys e))
byte_same xs ys i h some less (byte x rest d g l) (byte y more e k m) =
    ap₂ (slice_cmp nat_cmp) d e ∙ ap₂ ordering_then (nat_same x y (sym g ∙ h ∙ k)) (ap₂ (slice_cmp nat_cmp) (sym l) (sym m) ∙ less)

text_less : (n before i : ℕ) (xs ys : List ℕ) → text_digits n before i xs < text_digits n before i ys → slice_cmp nat_cmp (drop i xs) (drop i ys) ≡ Less
text_less zero before i xs ys h = absurd (omega (arith, h))
text_less (suc n) before i xs ys h = by (before == 255) refl
    (digits_less (256 ^ n) dx dy (text_digits n dx (suc i) xs) (text_digits n dy (suc i) ys) h (digits_small n dy (suc i) ys))
    (λ d k. text_less n d (suc i) xs ys k)
  where
    dx : ℕ
    dx = next_digit before (get_or xs i 0)

    dy : ℕ
    dy = next_digit before (get_or ys i 0)

    full_same : dx ≡ 255 → dy ≡ 255 → text_digits n dx (suc i) xs < text_digits n dy (suc i) ys → ⊥
    full_same x y l =
        let e : text_digits n dx (suc i) xs ≡ text_digits n dy (suc i) ys = ap (λ d. text_digits n d (suc i) xs) x ∙ all_full n (suc i) xs ys ∙ ap (λ d. text_digits n d (suc i) ys) (sym y) in omega (arith, e, l)

    lower : (a b : ℕ) → dx ≡ min a 255 → dy ≡ min b 255 → dx < dy → a < b
    lower a b x y l = omega (arith, x, y, l)

    equal : (a b : ℕ) → dx ≡ min a 255 → dy ≡ min b 255 → dx ≡ dy → (dy ≡ 255 → ⊥) → a ≡ b
    equal a b x y e n = grind (arith, x, y, e, n)

    by : (b : Bool) → (before == 255) ≡ b → (dx < dy) ⊎ ((dx ≡ dy) × (text_digits n dx (suc i) xs < text_digits n dy (suc i) ys)) →
        ((d : ℕ) → text_digits n d (suc i) xs < text_digits n d (suc i) ys → slice_cmp nat_cmp (drop (suc i) xs) (drop (suc i) ys) ≡ Less) → slice_cmp nat_cmp (drop i xs) (drop i ys) ≡ Less
    by true t (inl l) ih = absurd (let x = next_full before (get_or xs i 0) t in let y = next_full before (get_or ys i 0) t in omega (arith, x, y, l))
    by true t (inr s) ih = absurd (full_same (next_full before (get_or xs i 0) t) (next_full before (get_or ys i 0) t) s.1)
    by false t (inl l) ih = byte_less xs ys i (lower (get_or xs i 0) (get_or ys i 0) (next_plain before (get_or xs i 0) t) (next_plain before (get_or ys i 0) t) l) (from xs i) (from ys i)
    by false t (inr s) ih = elim (eqb_tells dy 255) [
      | inl f ↦ absurd (full_same (s.0 ∙ f.1) f.1 s.1)
      | inr f ↦ byte_same xs ys i (equal (get_or xs i 0) (get_or ys i 0) (next_plain before (get_or xs i 0) t) (next_plain before (get_or ys i 0) t) s.0 f.1)
          (λ none. let z = nothing_left n dy (suc i) ys none f.0 in let l = s.1 in omega (arith, z, l))
          (ih dx (subst (λ d. text_digits n dx (suc i) xs < text_digits n d (suc i) ys) (sym s.0) s.1)) (from xs i) (from ys i)
    ]

-- values
content_small : (v : Value) → content_mark v < 2 ^ 61
content_small Null = omega arith
content_small (Int z) = number_small z
content_small (UInt n) = number_small (pos n)
content_small (Dec z) = number_small z
content_small (Text b) = let h = digits_small 7 0 0 b in lower (text_digits 7 0 0 b) h
  where
    lower : (t : ℕ) → t < 256 ^ 7 → t < 2 ^ 61
    lower t h = omega (arith, h)
content_small (Date z) = number_small z

number_first : (x y : ℤ) (o : Ordering) → number_mark x < number_mark y → ordering_then (int_cmp x y) o ≡ Less
number_first x y o h = ap (λ c. ordering_then c o) (number_less x y h)

content_less : (v w : Value) → variant v ≡ variant w → content_mark v < content_mark w → ordering_then (int_cmp (number v) (number w)) (slice_cmp nat_cmp (letters v) (letters w)) ≡ Less
content_less (Int x) (Int y) e h = number_first x y Equal h
content_less (UInt x) (UInt y) e h = number_first (pos x) (pos y) Equal h
content_less (Dec x) (Dec y) e h = number_first x y Equal h
content_less (Text a) (Text b) e h = text_less 7 0 0 a b h
content_less (Date x) (Date y) e h = number_first x y Equal h
content_less Null Null e h = absurd (omega (arith, h))
content_less v w e h = absurd (omega (arith, e))

value_less : (v w : Value) → value_mark v < value_mark w → value_cmp v w ≡ Less
value_less v w h = go (parts (variant v) (variant w) (content_mark v) (content_mark w) h (content_small w))
  where
    parts : (a b c d : ℕ) → a * 2 ^ 61 + c < b * 2 ^ 61 + d → d < 2 ^ 61 → (a < b) ⊎ ((a ≡ b) × (c < d))
    parts a b c d h k = grind (arith, h, k)

    go : (variant v < variant w) ⊎ ((variant v ≡ variant w) × (content_mark v < content_mark w)) → value_cmp v w ≡ Less
    go (inl l) = ap (λ o. ordering_then o (ordering_then (int_cmp (number v) (number w)) (slice_cmp nat_cmp (letters v) (letters w)))) (nat_less (variant v) (variant w) l)
    go (inr s) = ap (λ o. ordering_then o (ordering_then (int_cmp (number v) (number w)) (slice_cmp nat_cmp (letters v) (letters w)))) (nat_same (variant v) (variant w) s.0) ∙ content_less v w s.0 s.1

-- rows
key_less : (keys : List Key) (r s : List Value) → key_mark keys r < key_mark keys s → row_cmp keys r s ≡ Less
key_less [] r s h = absurd (omega (arith, h))
key_less (key ∷ keys) r s h = ap (λ o. ordering_then o (vals_cmp (ways keys) (val (cols keys) r) (val (cols keys) s))) (go key.desc h)
  where
    back : (a b : ℕ) → 2 ^ 64 - 1 - a < 2 ^ 64 - 1 - b → b < a
    back a b h = omega (arith, h)

    go : (b : Bool) → cond b (2 ^ 64 - 1 - value_mark (at r key.col)) (value_mark (at r key.col)) < cond b (2 ^ 64 - 1 - value_mark (at s key.col)) (value_mark (at s key.col)) → turned_cmp b (at r key.col) (at s key.col) ≡ Less
    go false h = value_less (at r key.col) (at s key.col) h
    go true h = value_less (at s key.col) (at r key.col) (back (value_mark (at r key.col)) (value_mark (at s key.col)) h)

-- of rows with their marks, the order is that of the rows
pub marked_is : (keys : List Key) (a b : Marked) → a.mark ≡ key_mark keys a.row → b.mark ≡ key_mark keys b.row → marked_cmp keys a b ≡ row_cmp keys a.row b.row
marked_is keys a b ma mb = go (tell a.mark b.mark)
  where
    tell : (x y : ℕ) → (x < y) ⊎ ((x ≡ y) ⊎ (y < x))
    tell x y = grind arith

    go : (a.mark < b.mark) ⊎ ((a.mark ≡ b.mark) ⊎ (b.mark < a.mark)) → marked_cmp keys a b ≡ row_cmp keys a.row b.row
    go (inl l) = ap (λ o. ordering_then o (row_cmp keys a.row b.row)) (nat_less a.mark b.mark l) ∙ sym (key_less keys a.row b.row (subst (λ m. m < key_mark keys b.row) ma (subst (λ m. a.mark < m) mb l)))
    go (inr (inl e)) = ap (λ o. ordering_then o (row_cmp keys a.row b.row)) (nat_same a.mark b.mark e)
    go (inr (inr g)) =
        ap (λ o. ordering_then o (row_cmp keys a.row b.row)) (nat_cmp_total.antisymm a.mark b.mark ∙ ap ordering_reverse (nat_less b.mark a.mark g))
        ∙ sym ((row_total keys).antisymm a.row b.row ∙ ap ordering_reverse (key_less keys b.row a.row (subst (λ m. m < key_mark keys a.row) mb (subst (λ m. b.mark < m) ma g))))
