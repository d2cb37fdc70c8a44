-- Names and shapes that pass a test are equal.
use Rattle.std.proofs.Common.{◌≡◌, sym, ap, Bool, true, false, List, [], ◌∷◌, ℕ, Option, Some, ◌&&◌, refl, find, bytes_eq}
use Rattle.std.specs.Bool.{Decides}
use Rattle.std.proofs.lemmas.Slice.Eq.{bytes_eq-Decides}
use denote.Enum.Bare.{sameb, same_true, true_same}
use Rattle.expr_table.specs.declared.entry.Shape.{Shape}
use Rattle.expr_table.specs.declared.entry.Shape.TheVariants.{Num, Text, Date, Truth, Unused}
use Rattle.expr_table.specs.contracts.entry.Shape.{the_type as shape_type}
use Rattle.expr_table.specs.declared.entry.FnName.{FnName}
use Rattle.expr_table.specs.declared.entry.FnName.TheVariants as fn
use Rattle.expr_table.specs.contracts.entry.FnName.{the_type as name_type}
use Rattle.expr_table.specs.declared.entry.Entry.{Entry}
use Rattle.expr_table.specs.TableRows.{spelled, is_name, is_shape, are_shapes, shapes, Has, has}

all_names : List FnName
all_names = fn.Equal ∷ fn.NotEqual ∷ fn.Less ∷ fn.AtMost ∷ fn.Greater ∷ fn.AtLeast ∷ fn.Plus ∷ fn.Minus ∷ fn.Times ∷ fn.Divide ∷ fn.Remainder ∷ fn.And ∷ fn.Or ∷ fn.Not ∷ fn.IsNull ∷ fn.IfNull ∷ fn.If ∷ fn.Abs ∷ fn.Sign ∷ fn.Round ∷ fn.Least ∷ fn.Greatest ∷ fn.Length ∷ fn.Concat ∷ fn.Substr ∷ fn.Trim ∷ fn.Text ∷ fn.Year ∷ fn.Month ∷ fn.Day ∷ fn.DayNumber ∷ fn.AddDays ∷ []

-- the name that is written so
named : List ℕ → Option FnName
named word = find (λ name. bytes_eq (spelled name) word) all_names

again : (name : FnName) → named (spelled name) ≡ Some name
unfolding all_names named
again fn.Equal = refl
again fn.NotEqual = refl
again fn.Less = refl
again fn.AtMost = refl
again fn.Greater = refl
again fn.AtLeast = refl
again fn.Plus = refl
again fn.Minus = refl
again fn.Times = refl
again fn.Divide = refl
again fn.Remainder = refl
again fn.And = refl
again fn.Or = refl
again fn.Not = refl
again fn.IsNull = refl
again fn.IfNull = refl
again fn.If = refl
again fn.Abs = refl
again fn.Sign = refl
again fn.Round = refl
again fn.Least = refl
again fn.Greatest = refl
again fn.Length = refl
again fn.Concat = refl
again fn.Substr = refl
again fn.Trim = refl
again fn.Text = refl
again fn.Year = refl
again fn.Month = refl
again fn.Day = refl
again fn.DayNumber = refl
again fn.AddDays = refl

spelled_once : (a b : FnName) → spelled a ≡ spelled b → a ≡ b
spelled_once a b same = let one = again a in let other = again b in let joined = ap named same in cc

pub name_is : (a b : FnName) → Decides (is_name a b) (a ≡ b)
name_is a b = let test = bytes_eq-Decides (spelled a) (spelled b) in (λ t. spelled_once a b (test.0 t), λ same. test.1 (ap spelled same))

pub name_same : (a b : FnName) → Decides (sameb name_type a b) (a ≡ b)
name_same a b = (same_true name_type tt a b, true_same name_type a b)

pub shape_same : (a b : Shape) → Decides (sameb shape_type a b) (a ≡ b)
shape_same a b = (same_true shape_type tt a b, true_same shape_type a b)

shape_of_test : (a b : Shape) → is_shape a b ≡ true → a ≡ b
shape_of_test Num Num test = refl
shape_of_test Text Text test = refl
shape_of_test Date Date test = refl
shape_of_test Truth Truth test = refl
shape_of_test Unused Unused test = refl
shape_of_test a b test = cc

test_of_shape : (a : Shape) → is_shape a a ≡ true
test_of_shape Num = refl
test_of_shape Text = refl
test_of_shape Date = refl
test_of_shape Truth = refl
test_of_shape Unused = refl

pub both : (p q : Bool) → (p && q) ≡ true → (p ≡ true) × (q ≡ true)
both true q test = (refl, test)
both false q test = cc

shapes_of_test : (xs ys : List Shape) → are_shapes xs ys ≡ true → xs ≡ ys
shapes_of_test [] [] test = refl
shapes_of_test [] (y ∷ ys) test = cc
shapes_of_test (x ∷ xs) [] test = cc
shapes_of_test (x ∷ xs) (y ∷ ys) test = let parts = both _ _ test in let first = shape_of_test x y parts.0 in let more = shapes_of_test xs ys parts.1 in cc

test_of_shapes : (xs : List Shape) → are_shapes xs xs ≡ true
test_of_shapes [] = refl
test_of_shapes (x ∷ xs) = rw (test_of_shape x, test_of_shapes xs) refl

pub has_is : (name : FnName) (args : List Shape) (e : Entry) → Decides (has name args e) (Has name args e)
has_is name args e = (λ test. let parts = both _ _ test in ((name_is e.name name).0 parts.0, shapes_of_test (shapes e) args parts.1), λ h. let word = (name_is e.name name).1 h.0 in let same : are_shapes (shapes e) args ≡ true = rw (h.1) (test_of_shapes args) in rw (word, same) refl)

pub same_test : (p q : Bool) → (p ≡ true → q ≡ true) → (q ≡ true → p ≡ true) → p ≡ q
same_test true q there back = sym (there refl)
same_test false true there back = back refl
same_test false false there back = refl
