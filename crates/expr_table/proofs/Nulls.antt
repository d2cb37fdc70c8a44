-- Where NullUsed comes.
use Rattle.std.proofs.Common.{◌≡◌, ◌≢◌, ◌^◌, Bool, true, false, List, [], ◌∷◌, ℕ, ℤ, unsigned_abs, Result, Ok, Err, arith, length, max, nat_lt, nat_le}
use Rattle.std.specs.Prelude.{◌↔◌, pos, if◌then◌else◌}
use Rattle.std.specs.Ordering.{int_eq}
use Rattle.ds_value.specs.declared.kind.Kind.TheVariants as kind
use Rattle.ds_value.specs.declared.value.Value.TheVariants as value
use Rattle.ds_value.specs.Kinds.{fits_kind}
use Rattle.expr_table.specs.declared.entry.Shape.{Shape}
use Rattle.expr_table.specs.declared.entry.Shape.TheVariants as shape
use Rattle.expr_table.specs.declared.entry.FnName.{FnName}
use Rattle.expr_table.specs.declared.arg.Arg.{Arg}
use Rattle.expr_table.specs.declared.arg.Arg.TheVariants.{Null, Num, Text, Date, Truth}
use Rattle.expr_table.specs.declared.arg.EvalFault.{EvalFault}
use Rattle.expr_table.specs.declared.arg.EvalFault.TheVariants.{Overflow, ZeroDivisor, NullUsed, TooLong}
use Rattle.expr_table.specs.Meaning.{◌>>=◌, bounded, number, date, text_up_to_limit, raised, brought, value_of, of_both, divided}
use Rattle.expr_table.specs.Calls.{HasShape, HaveShapes, misuses_null}

-- not this fault
abbrev pub Spares : {A : Type 0} → Result A EvalFault → Type 0
Spares r = r ≢ Err NullUsed

pub then_spares : {A B : Type 0} (r : Result A EvalFault) (f : A → Result B EvalFault) → Spares r → ((x : A) → Spares (f x)) → Spares (r >>= f)
then_spares (Ok x) f first more = more x
then_spares (Err e) f first more = λ h. first cc

pub bounded_spares : (z : ℤ) → Spares (bounded z)
bounded_spares z = elim (nat_lt (unsigned_abs z) (10 ^ 38)) as (λ t. Spares (if t then Ok z else Err Overflow)) [ true ↦ λ h. cc | false ↦ λ h. cc ]

pub number_spares : (z : ℤ) → Spares (number z)
number_spares z = then_spares (bounded z) (λ n. Ok (Num n)) (bounded_spares z) (λ n h. cc)

pub date_spares : (z : ℤ) → Spares (date z)
date_spares z = elim (fits_kind kind.Date (value.Date z)) as (λ t. Spares (if t then Ok (Date z) else Err Overflow)) [ true ↦ λ h. cc | false ↦ λ h. cc ]

pub text_spares : (bytes : List ℕ) → Spares (text_up_to_limit bytes)
text_spares bytes = elim (nat_le (length bytes) 65536) as (λ t. Spares (if t then Ok (Text bytes) else Err TooLong)) [ true ↦ λ h. cc | false ↦ λ h. cc ]

pub divided_spares : (f : ℤ → ℤ → ℤ) (a b : ℤ) → Spares (divided f a b)
divided_spares f a b = elim (int_eq b (pos 0)) as (λ t. Spares (if t then Err ZeroDivisor else number (f a b))) [ true ↦ λ h. cc | false ↦ number_spares (f a b) ]

pub brought_spares : (from to : ℕ) (a : Arg) → Spares (brought from to a)
brought_spares from to (Num z) = number_spares (raised from to z)
brought_spares from to Null = λ h. cc
brought_spares from to (Text b) = λ h. cc
brought_spares from to (Date d) = λ h. cc
brought_spares from to (Truth t) = λ h. cc

pub both_spares : {A : Type 0} (p q : ℕ) (a b : Arg) (f : Arg → Arg → Result A EvalFault) → ((x y : Arg) → Spares (f x y)) → Spares (of_both (p ∷ q ∷ []) (a ∷ b ∷ []) f)
both_spares p q a b f more = then_spares (brought p (max p q) a) (λ x. brought q (max p q) b >>= λ y. f x y) (brought_spares p (max p q) a) (λ x. then_spares (brought q (max p q) b) (f x) (brought_spares q (max p q) b) (more x))

-- NullUsed exactly for a misused null
abbrev pub Exact : FnName → List ℕ → List Arg → Type 0
Exact name scales args = (value_of name scales args ≡ Err NullUsed) ↔ (misuses_null name 0 args ≡ true)

-- for all arguments of these shapes
abbrev pub Always : FnName → List Shape → Type 0
Always name shapes = (scales : List ℕ) (args : List Arg) → HaveShapes shapes args → length scales ≡ length args → Exact name scales args

pub no : {r : Result Arg EvalFault} → Spares r → (r ≡ Err NullUsed) ↔ (false ≡ true)
no spares = (λ h. absurd (spares h), λ h. cc)

pub num_case : (P : Arg → Type 0) (a : Arg) → HasShape shape.Num a → P Null → ((z : ℤ) → P (Num z)) → P a
num_case P Null is null here = null
num_case P (Num z) is null here = here z
num_case P (Text b) is null here = absurd is
num_case P (Date d) is null here = absurd is
num_case P (Truth t) is null here = absurd is

pub text_case : (P : Arg → Type 0) (a : Arg) → HasShape shape.Text a → P Null → ((b : List ℕ) → P (Text b)) → P a
text_case P Null is null here = null
text_case P (Text b) is null here = here b
text_case P (Num z) is null here = absurd is
text_case P (Date d) is null here = absurd is
text_case P (Truth t) is null here = absurd is

pub date_case : (P : Arg → Type 0) (a : Arg) → HasShape shape.Date a → P Null → ((d : ℤ) → P (Date d)) → P a
date_case P Null is null here = null
date_case P (Date d) is null here = here d
date_case P (Num z) is null here = absurd is
date_case P (Text b) is null here = absurd is
date_case P (Truth t) is null here = absurd is

pub truth_case : (P : Arg → Type 0) (a : Arg) → HasShape shape.Truth a → P Null → ((t : Bool) → P (Truth t)) → P a
truth_case P Null is null here = null
truth_case P (Truth t) is null here = here t
truth_case P (Num z) is null here = absurd is
truth_case P (Text b) is null here = absurd is
truth_case P (Date d) is null here = absurd is

pub one : (name : FnName) (s : Shape) → ((p : ℕ) (a : Arg) → HasShape s a → Exact name (p ∷ []) (a ∷ [])) → Always name (s ∷ [])
one name s step (p ∷ []) (a ∷ []) have len = step p a have.0
one name s step scales [] have len = absurd have
one name s step scales (a ∷ b ∷ args) have len = absurd have.1
one name s step [] (a ∷ []) have len = absurd (omega arith)
one name s step (p ∷ q ∷ scales) (a ∷ []) have len = absurd (omega arith)

pub two : (name : FnName) (s t : Shape) → ((p q : ℕ) (a b : Arg) → HasShape s a → HasShape t b → Exact name (p ∷ q ∷ []) (a ∷ b ∷ [])) → Always name (s ∷ t ∷ [])
two name s t step (p ∷ q ∷ []) (a ∷ b ∷ []) have len = step p q a b have.0 have.1.0
two name s t step scales [] have len = absurd have
two name s t step scales (a ∷ []) have len = absurd have.1
two name s t step scales (a ∷ b ∷ c ∷ args) have len = absurd have.1.1
two name s t step [] (a ∷ b ∷ []) have len = absurd (omega arith)
two name s t step (p ∷ []) (a ∷ b ∷ []) have len = absurd (omega arith)
two name s t step (p ∷ q ∷ r ∷ scales) (a ∷ b ∷ []) have len = absurd (omega arith)

pub three : (name : FnName) (s t u : Shape) → ((p q r : ℕ) (a b c : Arg) → HasShape s a → HasShape t b → HasShape u c → Exact name (p ∷ q ∷ r ∷ []) (a ∷ b ∷ c ∷ [])) → Always name (s ∷ t ∷ u ∷ [])
three name s t u step (p ∷ q ∷ r ∷ []) (a ∷ b ∷ c ∷ []) have len = step p q r a b c have.0 have.1.0 have.1.1.0
three name s t u step scales [] have len = absurd have
three name s t u step scales (a ∷ []) have len = absurd have.1
three name s t u step scales (a ∷ b ∷ []) have len = absurd have.1.1
three name s t u step scales (a ∷ b ∷ c ∷ d ∷ args) have len = absurd have.1.1.1
three name s t u step [] (a ∷ b ∷ c ∷ []) have len = absurd (omega arith)
three name s t u step (p ∷ []) (a ∷ b ∷ c ∷ []) have len = absurd (omega arith)
three name s t u step (p ∷ q ∷ []) (a ∷ b ∷ c ∷ []) have len = absurd (omega arith)
three name s t u step (p ∷ q ∷ r ∷ v ∷ scales) (a ∷ b ∷ c ∷ []) have len = absurd (omega arith)
