-- What a row gives has the shape of its result, and lies in its range.
use Rattle.std.proofs.Common.{◌≡◌, ◌<◌, ◌^◌, Bool, true, false, List, [], ◌∷◌, ℕ, ℤ, unsigned_abs, Result, Ok, Err, refl, arith, nat_le, max, length, ◌++◌}
use Rattle.std.specs.Prelude.{if◌then◌else◌, ◌-ℤ◌, ◌+ℤ◌, ◌-◌, pos, neg_ℤ}
use Rattle.std.proofs.lemmas.Bool.Decides.{nat_tests}
use Rattle.expr_table.specs.declared.entry.Shape.{Shape}
use Rattle.expr_table.specs.declared.entry.Shape.TheVariants as shape
use Rattle.expr_table.specs.declared.arg.Arg.{Arg}
use Rattle.expr_table.specs.declared.arg.Arg.TheVariants.{Null, Num, Text, Date, Truth}
use Rattle.expr_table.specs.declared.arg.EvalFault.{EvalFault}
use Rattle.expr_table.specs.declared.arg.EvalFault.TheVariants.{ZeroDivisor, TooLong}
use Rattle.std.specs.Ordering.{int_eq}
use Rattle.expr_table.specs.Meaning.{◌>>=◌, bounded, number, date, raised, brought, numbers, difference, divided, null_test, first_given, of_both, choice, nearest_ℤ, rounded, joined, part_of, number_text, later_date}
use Rattle.expr_table.specs.Calls.{HasShape, HaveShapes, IsInRange, AreInRange}

-- of this shape, and in its range
abbrev pub Is : Shape → Arg → Type 0
Is shape v = HasShape shape v × IsInRange v

-- what comes of a step has what each further step gives
pub after : {A : Type 0} (r : Result A EvalFault) (f : A → Result Arg EvalFault) (P : Arg → Type 0) → ((x : A) → r ≡ Ok x → (v : Arg) → f x ≡ Ok v → P v) → (v : Arg) → (r >>= f) ≡ Ok v → P v
after (Ok x) f P step v h = step x refl v h
after (Err e) f P step v h = cc

bounded_is : (z n : ℤ) → bounded z ≡ Ok n → unsigned_abs n < 10 ^ 38
bounded_is z n h = grind (arith, nat_tests)

number_is : (z : ℤ) (v : Arg) → number z ≡ Ok v → Is shape.Num v
number_is z v h = grind (arith, nat_tests)

date_is : (z : ℤ) (v : Arg) → date z ≡ Ok v → Is shape.Date v
date_is z v h = grind (arith, nat_tests)

truth_is : (b : Bool) (v : Arg) → (let answer : Result Arg EvalFault = Ok (Truth b) in answer) ≡ Ok v → Is shape.Truth v
truth_is b v h = let same : Truth b ≡ v = cc in rw (← same) (tt, tt)

text_is : (bytes : List ℕ) (v : Arg) → (let answer : Result Arg EvalFault = Ok (Text bytes) in answer) ≡ Ok v → Is shape.Text v
text_is bytes v h = let same : Text bytes ≡ v = cc in rw (← same) (tt, tt)

-- a number made of what a step gives
pub made_number : {A : Type 0} (r : Result A EvalFault) (f : A → ℤ) (v : Arg) → (r >>= λ x. number (f x)) ≡ Ok v → Is shape.Num v
made_number r f v h = after r (λ x. number (f x)) (Is shape.Num) (λ x at w e. number_is (f x) w e) v h

pub made_truth : {A : Type 0} (r : Result A EvalFault) (f : A → Bool) (v : Arg) → (r >>= λ x. Ok (Truth (f x))) ≡ Ok v → Is shape.Truth v
made_truth r f v h = after r (λ x. Ok (Truth (f x))) (Is shape.Truth) (λ x at w e. truth_is (f x) w e) v h

pub made_text : {A : Type 0} (r : Result A EvalFault) (f : A → List ℕ) (v : Arg) → (r >>= λ x. Ok (Text (f x))) ≡ Ok v → Is shape.Text v
made_text r f v h = after r (λ x. Ok (Text (f x))) (Is shape.Text) (λ x at w e. text_is (f x) w e) v h

pub difference_is : (scales : List ℕ) (args : List Arg) (v : Arg) → difference scales args ≡ Ok v → Is shape.Num v
difference_is scales (Date a ∷ Date b ∷ []) v h = number_is (a -ℤ b) v h
difference_is scales (Num a ∷ []) v h = number_is (neg_ℤ a) v h
difference_is scales args v h = made_number (numbers scales args) (λ p. p.0 -ℤ p.1) v h

pub divided_is : (f : ℤ → ℤ → ℤ) (a b : ℤ) (v : Arg) → divided f a b ≡ Ok v → Is shape.Num v
divided_is f a b v h = elim (int_eq b (pos 0)) as (λ t. (if t then Err ZeroDivisor else number (f a b)) ≡ Ok v → Is shape.Num v) [ true ↦ λ e. cc | false ↦ λ e. number_is (f a b) v e ] h

pub null_test_is : (args : List Arg) (v : Arg) → null_test args ≡ Ok v → Is shape.Truth v
null_test_is (a ∷ []) v h = truth_is _ v h
null_test_is args v h = cc

pub rounded_is : (scales : List ℕ) (args : List Arg) (v : Arg) → rounded scales args ≡ Ok v → Is shape.Num v
rounded_is (s ∷ t ∷ []) (Num z ∷ Num places ∷ []) v h = number_is (nearest_ℤ z (10 ^ (s - unsigned_abs places))) v h
rounded_is scales args v h = cc

pub joined_is : (args : List Arg) (v : Arg) → joined args ≡ Ok v → Is shape.Text v
joined_is (Text a ∷ Text b ∷ []) v h = elim (nat_le (length (a ++ b)) 65536) as (λ t. (if t then Ok (Text (a ++ b)) else Err TooLong) ≡ Ok v → Is shape.Text v) [ true ↦ λ e. text_is (a ++ b) v e | false ↦ λ e. cc ] h
joined_is args v h = cc

pub part_is : (args : List Arg) (v : Arg) → part_of args ≡ Ok v → Is shape.Text v
part_is (Text bytes ∷ Num from ∷ Num n ∷ []) v h = text_is _ v h
part_is args v h = cc

pub number_text_is : (scales : List ℕ) (args : List Arg) (v : Arg) → number_text scales args ≡ Ok v → Is shape.Text v
number_text_is (s ∷ []) (Num z ∷ []) v h = text_is _ v h
number_text_is scales args v h = cc

pub later_is : (args : List Arg) (v : Arg) → later_date args ≡ Ok v → Is shape.Date v
later_is (Date day ∷ Num n ∷ []) v h = date_is (day +ℤ n) v h
later_is args v h = cc

-- what an argument becomes at a greater scale
brought_is : (s : Shape) (from to : ℕ) (a v : Arg) → Is s a → brought from to a ≡ Ok v → Is s v
brought_is shape.Num from to (Num z) v is h = number_is (raised from to z) v h
brought_is shape.Text from to (Num z) v is h = absurd is.0
brought_is shape.Date from to (Num z) v is h = absurd is.0
brought_is shape.Truth from to (Num z) v is h = absurd is.0
brought_is shape.Unused from to (Num z) v is h = absurd is.0
brought_is s from to Null v is h = let same : Null ≡ v = cc in rw (← same) is
brought_is s from to (Text b) v is h = let same : Text b ≡ v = cc in rw (← same) is
brought_is s from to (Date d) v is h = let same : Date d ≡ v = cc in rw (← same) is
brought_is s from to (Truth b) v is h = let same : Truth b ≡ v = cc in rw (← same) is

given_is : (s : Shape) (a b v : Arg) → Is s a → Is s b → first_given a b ≡ v → Is s v
given_is s Null b v first second h = rw (← h) second
given_is s (Num z) b v first second h = rw (← h) first
given_is s (Text t) b v first second h = rw (← h) first
given_is s (Date d) b v first second h = rw (← h) first
given_is s (Truth t) b v first second h = rw (← h) first

pub if_null_is : (s : Shape) (scales : List ℕ) (args : List Arg) (v : Arg) → HaveShapes (s ∷ s ∷ []) args → AreInRange args → of_both scales args (λ a b. Ok (first_given a b)) ≡ Ok v → Is s v
if_null_is s (p ∷ q ∷ []) (a ∷ b ∷ []) v have range h =
    after (brought p (max p q) a) (λ x. brought q (max p q) b >>= λ y. Ok (first_given x y)) (Is s)
    (λ x at. after (brought q (max p q) b) (λ y. Ok (first_given x y)) (Is s)
    (λ y at' w e. given_is s x y w (brought_is s p (max p q) a x (have.0, range.0) at) (brought_is s q (max p q) b y (have.1.0, range.1.0) at') cc)) v h
if_null_is s scales args v have range h = cc

pub choice_is : (s : Shape) (scales : List ℕ) (args : List Arg) (v : Arg) → HaveShapes (shape.Truth ∷ s ∷ s ∷ []) args → AreInRange args → choice scales args ≡ Ok v → Is s v
choice_is s (r ∷ p ∷ q ∷ []) (Truth true ∷ a ∷ b ∷ []) v have range h = brought_is s p (max p q) a v (have.1.0, range.1.0) h
choice_is s (r ∷ p ∷ q ∷ []) (Truth false ∷ a ∷ b ∷ []) v have range h = brought_is s q (max p q) b v (have.1.1.0, range.1.1.0) h
choice_is s scales args v have range h = cc
