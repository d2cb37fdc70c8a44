-- An optional sign in front of digits.
use Rattle.std.proofs.Common.{◌≡◌, ℕ, pos, neg_ℤ, Bool, true, false, cond, eqb, eqb-true, List, [], ◌∷◌, ◌++◌, drop, refl, sym, ap, subst, arith}
use Rattle.std.specs.Cmp.{first_so}
use Rattle.std.specs.Char.{is_ascii_digit}
use Rattle.std.specs.Str.{all_ascii_digits}
use Rattle.std.specs.Str.Parse.{starts_with_minus, without_leading_sign}
use Rattle.ds_value.specs.Spellings.{Sign, Missing, Plus, Minus, sign_text, signed, IsNumeral}

-- a digit stands first
abbrev pub BeginsDigit : List ℕ → Type 0
BeginsDigit [] = ⊥
BeginsDigit (b ∷ bs) = is_ascii_digit b ≡ true

pub numeral_begins : (digits : List ℕ) → IsNumeral digits → BeginsDigit digits
numeral_begins [] h = absurd (let some = h.some in omega arith)
numeral_begins (b ∷ bs) h = first_so (is_ascii_digit b) (all_ascii_digits bs) h.each

pub begins_more : (digits more : List ℕ) → BeginsDigit digits → BeginsDigit (digits ++ more)
begins_more [] more h = absurd h
begins_more (b ∷ bs) more h = h

abbrev pub is_minus : Sign → Bool
is_minus Missing = false
is_minus Plus = false
is_minus Minus = true

pub signed-cond : (s : Sign) (n : ℕ) → signed s n ≡ cond (is_minus s) (neg_ℤ (pos n)) (pos n)
signed-cond Missing n = refl
signed-cond Plus n = refl
signed-cond Minus n = refl

plus_is_no_digit : {X : Type 0} (b : ℕ) → b ≡ 43 → is_ascii_digit b ≡ true → X
plus_is_no_digit b e h = let wrong : false ≡ true = subst (λ n. is_ascii_digit n ≡ true) e h in cc

minus_is_no_digit : {X : Type 0} (b : ℕ) → b ≡ 45 → is_ascii_digit b ≡ true → X
minus_is_no_digit b e h = let wrong : false ≡ true = subst (λ n. is_ascii_digit n ≡ true) e h in cc

front : (x y : ℕ) (xs ys : List ℕ) → x ∷ xs ≡ y ∷ ys → (x ≡ y) × (xs ≡ ys)
front x y xs ys e = (cc, cc)

-- two signs in front of digits are one where the texts are one
pub signs_agree : (a b : Sign) (xs ys : List ℕ) → BeginsDigit xs → BeginsDigit ys → sign_text a ++ xs ≡ sign_text b ++ ys → (a ≡ b) × (xs ≡ ys)
signs_agree Missing Missing xs ys h k e = (refl, e)
signs_agree Plus Plus xs ys h k e = (refl, (front 43 43 xs ys e).1)
signs_agree Minus Minus xs ys h k e = (refl, (front 45 45 xs ys e).1)
signs_agree Missing Plus [] ys h k e = absurd h
signs_agree Missing Plus (x ∷ xs) ys h k e = plus_is_no_digit x (front x 43 xs ys e).0 h
signs_agree Missing Minus [] ys h k e = absurd h
signs_agree Missing Minus (x ∷ xs) ys h k e = minus_is_no_digit x (front x 45 xs ys e).0 h
signs_agree Plus Missing xs [] h k e = absurd k
signs_agree Plus Missing xs (y ∷ ys) h k e = plus_is_no_digit y (sym (front 43 y xs ys e).0) k
signs_agree Minus Missing xs [] h k e = absurd k
signs_agree Minus Missing xs (y ∷ ys) h k e = minus_is_no_digit y (sym (front 45 y xs ys e).0) k
signs_agree Plus Minus xs ys h k e = let wrong = (front 43 45 xs ys e).0 in absurd (omega arith)
signs_agree Minus Plus xs ys h k e = let wrong = (front 45 43 xs ys e).0 in absurd (omega arith)

-- the sign that stands first in a text
abbrev pub sign_of : List ℕ → Sign
sign_of [] = Missing
sign_of (b ∷ bs) = cond (eqb b 45) Minus (cond (eqb b 43) Plus Missing)

split_at : (m p : Bool) (b : ℕ) (bs : List ℕ) → (m ≡ true → b ≡ 45) → (p ≡ true → b ≡ 43) → (b ∷ bs ≡ sign_text (cond m Minus (cond p Plus Missing)) ++ cond m bs (drop (cond p 1 0) (b ∷ bs))) × (is_minus (cond m Minus (cond p Plus Missing)) ≡ m)
split_at true p b bs em ep = (ap (λ n. n ∷ bs) (em refl), refl)
split_at false true b bs em ep = (ap (λ n. n ∷ bs) (ep refl), refl)
split_at false false b bs em ep = (refl, refl)

pub sign_split : (bytes : List ℕ) → (bytes ≡ sign_text (sign_of bytes) ++ without_leading_sign bytes) × (is_minus (sign_of bytes) ≡ starts_with_minus bytes)
sign_split [] = (refl, refl)
sign_split (b ∷ bs) = split_at (eqb b 45) (eqb b 43) b bs (eqb-true b 45) (eqb-true b 43)

-- what stands behind the sign, where it is a digit
pub sign_front : (s : Sign) (ds : List ℕ) → BeginsDigit ds → (without_leading_sign (sign_text s ++ ds) ≡ ds) × (starts_with_minus (sign_text s ++ ds) ≡ is_minus s)
sign_front Plus ds h = (refl, refl)
sign_front Minus ds h = (refl, refl)
sign_front Missing [] h = absurd h
sign_front Missing (b ∷ bs) h =
    no_sign (eqb b 45) (eqb b 43) b bs (eqb-true b 45) (eqb-true b 43) h
  where
    no_sign : (m p : Bool) (b : ℕ) (bs : List ℕ) → (m ≡ true → b ≡ 45) → (p ≡ true → b ≡ 43) → is_ascii_digit b ≡ true → (cond m bs (drop (cond p 1 0) (b ∷ bs)) ≡ b ∷ bs) × (m ≡ false)
    no_sign true p b bs em ep h = minus_is_no_digit b (em refl) h
    no_sign false true b bs em ep h = plus_is_no_digit b (ep refl) h
    no_sign false false b bs em ep h = (refl, refl)
