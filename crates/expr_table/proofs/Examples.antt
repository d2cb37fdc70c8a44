-- Values of rows, computed.
use Rattle.std.proofs.Common.{◌≡◌, ◌-◌, ◌^◌, true, false, [], ◌∷◌, pos, refl, codes, Ok, Err, Some, None}
use Rattle.std.specs.Prelude.{neg_ℤ}
use Rattle.std.specs.Fmt.{digits}
use Rattle.expr_table.specs.declared.entry.FnName.TheVariants as fn
use Rattle.expr_table.specs.declared.arg.Arg.TheVariants.{Null, Num, Text, Date, Truth}
use Rattle.expr_table.specs.declared.arg.EvalFault.TheVariants.{Overflow, ZeroDivisor, NullUsed}
use Rattle.expr_table.specs.Meaning.{value_of}
use Rattle.expr_table.specs.Scales.{result_scale}

-- 1.5 and 0.25 at scale 2
sum_at_greater_scale : value_of fn.Plus (1 ∷ 2 ∷ []) (Num (pos 15) ∷ Num (pos 25) ∷ []) ≡ Ok (Num (pos 175))
sum_at_greater_scale = refl

greatest_plus_one : value_of fn.Plus (0 ∷ 0 ∷ []) (Num (pos (10 ^ 38 - 1)) ∷ Num (pos 1) ∷ []) ≡ Err Overflow
greatest_plus_one = refl

-- the operand is outside at scale 1, though the sum would not be
operand_outside : value_of fn.Minus (0 ∷ 1 ∷ []) (Num (pos (10 ^ 37)) ∷ Num (pos (10 ^ 37)) ∷ []) ≡ Err Overflow
operand_outside = refl

cut_towards_zero : value_of fn.Divide (0 ∷ 0 ∷ []) (Num (pos 7) ∷ Num (neg_ℤ (pos 2)) ∷ []) ≡ Ok (Num (neg_ℤ (pos 3)))
cut_towards_zero = refl

sign_of_dividend : value_of fn.Remainder (0 ∷ 0 ∷ []) (Num (neg_ℤ (pos 7)) ∷ Num (pos 2) ∷ []) ≡ Ok (Num (neg_ℤ (pos 1)))
sign_of_dividend = refl

by_zero : value_of fn.Remainder (0 ∷ 0 ∷ []) (Num (pos 7) ∷ Num (pos 0) ∷ []) ≡ Err ZeroDivisor
by_zero = refl

null_before_zero : value_of fn.Divide (0 ∷ 0 ∷ []) (Null ∷ Num (pos 0) ∷ []) ≡ Err NullUsed
null_before_zero = refl

half_away : value_of fn.Round (2 ∷ 0 ∷ []) (Num (neg_ℤ (pos 250)) ∷ Num (pos 0) ∷ []) ≡ Ok (Num (neg_ℤ (pos 3)))
half_away = refl

below_half : value_of fn.Round (2 ∷ 0 ∷ []) (Num (pos 249) ∷ Num (pos 0) ∷ []) ≡ Ok (Num (pos 2))
below_half = refl

same_places : value_of fn.Round (2 ∷ 0 ∷ []) (Num (pos 249) ∷ Num (pos 2) ∷ []) ≡ Ok (Num (pos 249))
same_places = refl

null_is_below : value_of fn.Less (0 ∷ 0 ∷ []) (Null ∷ Num (neg_ℤ (pos 5)) ∷ []) ≡ Ok (Truth true)
null_is_below = refl

null_is_null : value_of fn.Equal (0 ∷ 0 ∷ []) (Null ∷ Null ∷ []) ≡ Ok (Truth true)
null_is_null = refl

-- and null hides no number that is outside
compared_outside : value_of fn.Less (0 ∷ 38 ∷ []) (Num (pos 1) ∷ Null ∷ []) ≡ Err Overflow
compared_outside = refl

equal_at_one_scale : value_of fn.Equal (1 ∷ 2 ∷ []) (Num (pos 15) ∷ Num (pos 150) ∷ []) ≡ Ok (Truth true)
equal_at_one_scale = refl

texts_by_bytes : value_of fn.AtLeast (0 ∷ 0 ∷ []) (Text (codes "b") ∷ Text (codes "ab") ∷ []) ≡ Ok (Truth true)
texts_by_bytes = refl

second_for_null : value_of fn.IfNull (0 ∷ 1 ∷ []) (Null ∷ Num (pos 5) ∷ []) ≡ Ok (Num (pos 5))
second_for_null = refl

first_raised : value_of fn.IfNull (0 ∷ 1 ∷ []) (Num (pos 5) ∷ Null ∷ []) ≡ Ok (Num (pos 50))
first_raised = refl

unchosen_outside : value_of fn.If (0 ∷ 0 ∷ 1 ∷ []) (Truth false ∷ Num (pos (10 ^ 37)) ∷ Num (pos 5) ∷ []) ≡ Ok (Num (pos 5))
unchosen_outside = refl

from_below_one : value_of fn.Substr (0 ∷ 0 ∷ 0 ∷ []) (Text (codes "abc") ∷ Num (neg_ℤ (pos 4)) ∷ Num (pos 2) ∷ []) ≡ Ok (Text (codes "ab"))
from_below_one = refl

past_the_end : value_of fn.Substr (0 ∷ 0 ∷ 0 ∷ []) (Text (codes "abc") ∷ Num (pos 3) ∷ Num (pos (10 ^ 37)) ∷ []) ≡ Ok (Text (codes "c"))
past_the_end = refl

trimmed : value_of fn.Trim (0 ∷ []) (Text (codes "  a b ") ∷ []) ≡ Ok (Text (codes "a b"))
trimmed = refl

spaces_alone : value_of fn.Trim (0 ∷ []) (Text (codes "   ") ∷ []) ≡ Ok (Text [])
spaces_alone = refl

number_written : value_of fn.Text (2 ∷ []) (Num (neg_ℤ (pos 5)) ∷ []) ≡ Ok (Text (codes "-0.05"))
unfolding digits
number_written = refl

after_the_last_day : value_of fn.AddDays (0 ∷ 0 ∷ []) (Date (pos 2932896) ∷ Num (pos 1) ∷ []) ≡ Err Overflow
after_the_last_day = refl

days_between : value_of fn.Minus (0 ∷ 0 ∷ []) (Date (pos 0) ∷ Date (pos 31) ∷ []) ≡ Ok (Num (neg_ℤ (pos 31)))
days_between = refl

scale_of_sum : result_scale fn.Plus (1 ∷ 2 ∷ []) None ≡ Some 2
scale_of_sum = refl

no_product : result_scale fn.Times (19 ∷ 20 ∷ []) None ≡ None
no_product = refl

rounded_to : result_scale fn.Round (2 ∷ 0 ∷ []) (Some 1) ≡ Some 1
rounded_to = refl

no_more_places : result_scale fn.Round (2 ∷ 0 ∷ []) (Some 3) ≡ None
no_more_places = refl
