-- The value of each name, over whole numbers: a Num is a number of units of 10 ^ -scale.
use Rattle.std.specs.Prelude.{ℕ, suc, ◌+◌, ◌-◌, ◌*◌, ◌/◌, ◌%◌, ◌^◌, max, ℤ, pos, negsuc, neg_ℤ, unsigned_abs, ◌+ℤ◌, ◌-ℤ◌, ◌*ℤ◌, int_div, int_rem, List, [], ◌∷◌, ◌++◌, length, take, drop, reverse, Result, Ok, Err, Bool, true, false, not, ◌&&◌, ◌||◌, nat_lt, nat_le, ◌==◌, if◌then◌else◌}
use Rattle.std.specs.Ordering.{int_eq}
use Rattle.std.specs.Int.{int_min, int_max, int_signum}
use Rattle.std.specs.declared.cmp.Ordering.{Ordering}
use Rattle.std.specs.declared.cmp.Ordering.TheVariants as ordering
use Rattle.ds_value.specs.declared.value.Value.{Value}
use Rattle.ds_value.specs.declared.value.Value.TheVariants as value
use Rattle.ds_value.specs.declared.kind.Kind.TheVariants as kind
use Rattle.ds_value.specs.Values.{value_cmp}
use Rattle.ds_value.specs.Kinds.{fits_kind}
use Rattle.ds_value.specs.Spellings.{written}
use Rattle.ds_value.specs.Calendar.{year_of, month_of, day_of}
use Rattle.expr_table.specs.declared.entry.FnName.{FnName}
use Rattle.expr_table.specs.declared.entry.FnName.TheVariants as fn
use Rattle.expr_table.specs.declared.arg.Arg.{Arg}
use Rattle.expr_table.specs.declared.arg.Arg.TheVariants.{Null, Num, Text, Date, Truth}
use Rattle.expr_table.specs.declared.arg.EvalFault.{EvalFault}
use Rattle.expr_table.specs.declared.arg.EvalFault.TheVariants.{Overflow, ZeroDivisor, NullUsed, TooLong}

-- the first fault is the result
infixl 10 ◌>>=◌
abbrev pub ◌>>=◌ : {A B : Type 0} → Result A EvalFault → (A → Result B EvalFault) → Result B EvalFault
(Ok x) >>= f = f x
(Err fault) >>= f = Err fault

-- the number, where it is below 10 ^ 38 in absolute value
abbrev pub bounded : ℤ → Result ℤ EvalFault
bounded z = if nat_lt (unsigned_abs z) (10 ^ 38) then Ok z else Err Overflow

abbrev pub number : ℤ → Result Arg EvalFault
number z = bounded z >>= λ n. Ok (Num n)

-- the date, where it is from 0001-01-01 to 9999-12-31
abbrev pub date : ℤ → Result Arg EvalFault
date z = if fits_kind kind.Date (value.Date z) then Ok (Date z) else Err Overflow

abbrev pub text_up_to_limit : List ℕ → Result Arg EvalFault
text_up_to_limit bytes = if nat_le (length bytes) 65536 then Ok (Text bytes) else Err TooLong

-- units of 10 ^ -from as units of 10 ^ -to, for a scale to that isn't less
abbrev pub raised : ℕ → ℕ → ℤ → ℤ
raised from to z = z *ℤ pos (10 ^ (to - from))

-- an argument brought to a greater scale; only a Num has a scale
abbrev pub brought : ℕ → ℕ → Arg → Result Arg EvalFault
brought from to (Num z) = number (raised from to z)
brought from to other = Ok other

-- of two arguments, brought to the greater of their scales; nulls among them
abbrev pub of_two : {A : Type 0} → ℕ → ℕ → Arg → Arg → (Arg → Arg → Result A EvalFault) → Result A EvalFault
of_two s t a b f = brought s (max s t) a >>= λ x. brought t (max s t) b >>= λ y. f x y

abbrev pub of_both : {A : Type 0} → List ℕ → List Arg → (Arg → Arg → Result A EvalFault) → Result A EvalFault
of_both (s ∷ t ∷ []) (a ∷ b ∷ []) f = of_two s t a b f
of_both scales args f = Err NullUsed

-- two numbers, brought to the greater of their scales; null is no number
abbrev pub numbers : List ℕ → List Arg → Result (ℤ × ℤ) EvalFault
numbers (s ∷ t ∷ []) (Num a ∷ Num b ∷ []) = bounded (raised s (max s t) a) >>= λ x. bounded (raised t (max s t) b) >>= λ y. Ok (x, y)
numbers scales args = Err NullUsed

-- two numbers in units of their own scales
abbrev pub units : List Arg → Result (ℤ × ℤ) EvalFault
units (Num a ∷ Num b ∷ []) = Ok (a, b)
units args = Err NullUsed

abbrev pub one_number : List Arg → Result ℤ EvalFault
one_number (Num z ∷ []) = Ok z
one_number args = Err NullUsed

abbrev pub one_text : List Arg → Result (List ℕ) EvalFault
one_text (Text bytes ∷ []) = Ok bytes
one_text args = Err NullUsed

abbrev pub one_date : List Arg → Result ℤ EvalFault
one_date (Date day ∷ []) = Ok day
one_date args = Err NullUsed

abbrev pub one_truth : List Arg → Result Bool EvalFault
one_truth (Truth a ∷ []) = Ok a
one_truth args = Err NullUsed

abbrev pub two_truths : List Arg → Result (Bool × Bool) EvalFault
two_truths (Truth a ∷ Truth b ∷ []) = Ok (a, b)
two_truths args = Err NullUsed

-- an argument as the value of a column, which has an order; a Truth is never compared
abbrev pub as_value : Arg → Value
as_value (Num z) = value.Dec z
as_value (Text bytes) = value.Text bytes
as_value (Date day) = value.Date day
as_value other = value.Null

-- the order of two arguments, null below the rest
abbrev pub order_of : List ℕ → List Arg → Result Ordering EvalFault
order_of scales args = of_both scales args (λ x y. Ok (value_cmp (as_value x) (as_value y)))

-- whether that order passes
abbrev pub compared : (Ordering → Bool) → List ℕ → List Arg → Result Arg EvalFault
compared test scales args = order_of scales args >>= λ order. Ok (Truth (test order))

abbrev pub is_equal : Ordering → Bool
is_equal ordering.Equal = true
is_equal other = false

abbrev pub is_less : Ordering → Bool
is_less ordering.Less = true
is_less other = false

abbrev pub is_greater : Ordering → Bool
is_greater ordering.Greater = true
is_greater other = false

-- two numbers, two dates, or one number
abbrev pub difference : List ℕ → List Arg → Result Arg EvalFault
difference scales (Date a ∷ Date b ∷ []) = number (a -ℤ b)
difference scales (Num a ∷ []) = number (neg_ℤ a)
difference scales args = numbers scales args >>= λ p. number (p.0 -ℤ p.1)

-- a quotient or a remainder
abbrev pub divided : (ℤ → ℤ → ℤ) → ℤ → ℤ → Result Arg EvalFault
divided f a b = if int_eq b (pos 0) then Err ZeroDivisor else number (f a b)

abbrev pub is_null : Arg → Bool
is_null Null = true
is_null other = false

abbrev pub null_test : List Arg → Result Arg EvalFault
null_test (a ∷ []) = Ok (Truth (is_null a))
null_test args = Err NullUsed

-- the first, or the second where the first is null
abbrev pub first_given : Arg → Arg → Arg
first_given Null b = b
first_given a b = a

-- the chosen one alone is brought to the greater scale
abbrev pub choice : List ℕ → List Arg → Result Arg EvalFault
choice (r ∷ s ∷ t ∷ []) (Truth test ∷ a ∷ b ∷ []) = if test then brought s (max s t) a else brought t (max s t) b
choice scales args = Err NullUsed

-- n / d to the nearest whole number, a half up
abbrev pub nearest : ℕ → ℕ → ℕ
nearest n d = if nat_le d (2 * (n % d)) then n / d + 1 else n / d

-- and for either sign, a half away from zero
abbrev pub nearest_ℤ : ℤ → ℕ → ℤ
nearest_ℤ (pos n) d = pos (nearest n d)
nearest_ℤ (negsuc n) d = neg_ℤ (pos (nearest (suc n) d))

abbrev pub rounded : List ℕ → List Arg → Result Arg EvalFault
rounded (s ∷ t ∷ []) (Num z ∷ Num places ∷ []) = number (nearest_ℤ z (10 ^ (s - unsigned_abs places)))
rounded scales args = Err NullUsed

abbrev pub joined : List Arg → Result Arg EvalFault
joined (Text a ∷ Text b ∷ []) = text_up_to_limit (a ++ b)
joined args = Err NullUsed

-- up to n bytes from the byte `from`, where the first is 1
abbrev pub part_of : List Arg → Result Arg EvalFault
part_of (Text bytes ∷ Num from ∷ Num n ∷ []) = Ok (Text (take (unsigned_abs (int_max n (pos 0))) (drop (unsigned_abs (int_max from (pos 1)) - 1) bytes)))
part_of args = Err NullUsed

abbrev pub without_front_spaces : List ℕ → List ℕ
without_front_spaces [] = []
without_front_spaces (b ∷ bytes) = if b == 32 then without_front_spaces bytes else b ∷ bytes

abbrev pub without_spaces : List ℕ → List ℕ
without_spaces bytes = reverse (without_front_spaces (reverse (without_front_spaces bytes)))

-- as a decimal of 38 digits with the number's scale is written
abbrev pub number_text : List ℕ → List Arg → Result Arg EvalFault
number_text (s ∷ []) (Num z ∷ []) = Ok (Text (written (kind.Dec 38 s) (value.Dec z)))
number_text scales args = Err NullUsed

abbrev pub later_date : List Arg → Result Arg EvalFault
later_date (Date day ∷ Num n ∷ []) = date (day +ℤ n)
later_date args = Err NullUsed

-- the value of a name for arguments of these scales, or the fault; null in an argument that can't be null is NullUsed
abbrev pub value_of : FnName → List ℕ → List Arg → Result Arg EvalFault
value_of fn.Equal scales args = compared is_equal scales args
value_of fn.NotEqual scales args = compared (λ o. not (is_equal o)) scales args
value_of fn.Less scales args = compared is_less scales args
value_of fn.AtMost scales args = compared (λ o. not (is_greater o)) scales args
value_of fn.Greater scales args = compared is_greater scales args
value_of fn.AtLeast scales args = compared (λ o. not (is_less o)) scales args
value_of fn.Plus scales args = numbers scales args >>= λ p. number (p.0 +ℤ p.1)
value_of fn.Minus scales args = difference scales args
value_of fn.Times scales args = units args >>= λ p. number (p.0 *ℤ p.1)
value_of fn.Divide scales args = units args >>= λ p. divided int_div p.0 p.1
value_of fn.Remainder scales args = units args >>= λ p. divided int_rem p.0 p.1
value_of fn.And scales args = two_truths args >>= λ p. Ok (Truth (p.0 && p.1))
value_of fn.Or scales args = two_truths args >>= λ p. Ok (Truth (p.0 || p.1))
value_of fn.Not scales args = one_truth args >>= λ a. Ok (Truth (not a))
value_of fn.IsNull scales args = null_test args
value_of fn.IfNull scales args = of_both scales args (λ a b. Ok (first_given a b))
value_of fn.If scales args = choice scales args
value_of fn.Abs scales args = one_number args >>= λ z. number (pos (unsigned_abs z))
value_of fn.Sign scales args = one_number args >>= λ z. number (int_signum z)
value_of fn.Round scales args = rounded scales args
value_of fn.Least scales args = numbers scales args >>= λ p. number (int_min p.0 p.1)
value_of fn.Greatest scales args = numbers scales args >>= λ p. number (int_max p.0 p.1)
value_of fn.Length scales args = one_text args >>= λ bytes. number (pos (length bytes))
value_of fn.Concat scales args = joined args
value_of fn.Substr scales args = part_of args
value_of fn.Trim scales args = one_text args >>= λ bytes. Ok (Text (without_spaces bytes))
value_of fn.Text scales args = number_text scales args
value_of fn.Year scales args = one_date args >>= λ day. number (pos (year_of day))
value_of fn.Month scales args = one_date args >>= λ day. number (pos (month_of day))
value_of fn.Day scales args = one_date args >>= λ day. number (pos (day_of day))
value_of fn.DayNumber scales args = one_date args >>= number
value_of fn.AddDays scales args = later_date args
