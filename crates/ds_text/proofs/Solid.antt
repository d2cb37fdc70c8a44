-- Numbers and dates are spelled without spaces and ends of lines.
use Rattle.std.proofs.Common.{◌≡◌, ◌≤◌, ◌+◌, ◌/◌, ◌%◌, ◌++◌, ◌∷◌, [], ℕ, zero, suc, List, true, false, sym, ap, ◌∙◌, arith, length, subst, length-append, append-nil}
use Rattle.std.specs.List.{AllByRecursion}
use Rattle.std.specs.Str.{all_ascii_digits}
use Rattle.std.specs.Char.{is_ascii_digit}
use Rattle.std.proofs.lemmas.Bool.Decides.{nat_tests}
use Rattle.ds_value.specs.declared.kind.Kind.{Kind}
use Rattle.ds_value.specs.declared.kind.Kind.TheVariants as kind
use Rattle.ds_value.specs.declared.value.Value.{Value}
use Rattle.ds_value.specs.declared.value.Value.TheVariants.{Int, UInt, Dec, Date}
use Rattle.ds_value.specs.Spellings.{Spells, Sign, sign_text, point_text, last_digits, date_text}
use Rattle.ds_value.specs.Spellings.Sign.{Missing, Plus, Minus}
use Rattle.ds_text.specs.Columns.{is_text}
use Rattle.ds_text.proofs.FieldWriting.{and_parts}

-- at least one byte, and each is a digit, a sign or a point
abbrev pub IsMarked : ℕ → Type 0
IsMarked b = 43 ≤ b

pub record IsSolid (bytes : List ℕ) : Type 0 where
  pub some : 1 ≤ length bytes
  pub each : AllByRecursion IsMarked bytes

each_append : (xs ys : List ℕ) → AllByRecursion IsMarked xs → AllByRecursion IsMarked ys → AllByRecursion IsMarked (xs ++ ys)
each_append [] ys h k = k
each_append (x ∷ xs) ys h k = (h.0, each_append xs ys h.1 k)

digit_marked : (b : ℕ) → is_ascii_digit b ≡ true → 43 ≤ b
digit_marked b h = grind (arith, nat_tests)

digits_marked : (bs : List ℕ) → all_ascii_digits bs ≡ true → AllByRecursion IsMarked bs
digits_marked [] h = tt
digits_marked (b ∷ bs) h = let parts = and_parts (is_ascii_digit b) (all_ascii_digits bs) h in (digit_marked b parts.0, digits_marked bs parts.1)

sign_marked : (sign : Sign) → AllByRecursion IsMarked (sign_text sign)
sign_marked Missing = tt
sign_marked Plus = (omega arith, tt)
sign_marked Minus = (omega arith, tt)

point_marked : (bs : List ℕ) → all_ascii_digits bs ≡ true → AllByRecursion IsMarked (point_text bs)
point_marked [] h = tt
point_marked (b ∷ bs) h = (omega arith, digits_marked (b ∷ bs) h)

last_marked : (k n : ℕ) → AllByRecursion IsMarked (last_digits k n)
last_marked zero n = tt
last_marked (suc k) n = each_append (last_digits k (n / 10)) ((48 + n % 10) ∷ []) (last_marked k (n / 10)) (omega arith, tt)

signed_solid : (sign : Sign) (digits more : List ℕ) → 1 ≤ length digits → all_ascii_digits digits ≡ true → AllByRecursion IsMarked more → IsSolid (sign_text sign ++ (digits ++ more))
signed_solid sign digits more some h k = record {
  some = omega (arith, length-append (sign_text sign) (digits ++ more), length-append digits more);
  each = each_append (sign_text sign) (digits ++ more) (sign_marked sign) (each_append digits more (digits_marked digits h) k);
}

whole_solid : (sign : Sign) (digits bytes : List ℕ) → bytes ≡ sign_text sign ++ digits → 1 ≤ length digits → all_ascii_digits digits ≡ true → IsSolid bytes
whole_solid sign digits bytes e some h = subst IsSolid (ap (λ l. sign_text sign ++ l) (append-nil digits) ∙ sym e) (signed_solid sign digits [] some h tt)

date_solid : (year month day : ℕ) → IsSolid (date_text year month day)
date_solid year month day = record {
  some = omega (arith, length-append (last_digits 4 year) (45 ∷ last_digits 2 month ++ (45 ∷ last_digits 2 day)));
  each = each_append (last_digits 4 year) (45 ∷ last_digits 2 month ++ (45 ∷ last_digits 2 day)) (last_marked 4 year)
      (each_append (45 ∷ last_digits 2 month) (45 ∷ last_digits 2 day) (omega arith, last_marked 2 month) (omega arith, last_marked 2 day));
}

pub solid : (k : Kind) (bytes : List ℕ) (v : Value) → is_text k ≡ false → Spells k bytes v → IsSolid bytes
solid (kind.Int bits) bytes (Int z) t s = let f = s.form in whole_solid f.sign f.digits bytes f.text f.numeral.some f.numeral.each
solid (kind.UInt bits) bytes (UInt n) t s = let f = s.form in whole_solid f.sign f.digits bytes f.text f.numeral.some f.numeral.each
solid (kind.Dec p q) bytes (Dec z) t s = let f = s.form in subst IsSolid (sym f.text) (signed_solid f.sign f.whole (point_text f.fraction) f.numeral.some f.numeral.each (point_marked f.fraction f.digits))
solid (kind.Text max fixed) bytes v t s = cc
solid kind.Date bytes (Date d) t s = let f = s.form in subst IsSolid (sym f.text) (date_solid f.year f.month f.day)
solid k bytes v t s = absurd s.form
