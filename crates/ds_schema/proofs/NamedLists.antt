-- Lists of things with names, no two the same.
use Rattle.std.proofs.Common.{◌≡◌, ℕ, List, [], ◌∷◌, ◌++◌, Bool, true, false, Ok, refl, sym, ◌∙◌}
use Rattle.std.specs.Prelude.{◌||◌}
use Rattle.std.specs.List.{list_any, AllByRecursion}
use Rattle.std.specs.Str.{bytes_eq}
use Rattle.std.proofs.lemmas.Bool.{leb-true, le-leb, and_parts, and_from, false_from_ne_true}
use Rattle.std.proofs.lemmas.List.Sums.{AllPass-from_list_all, list_all-from_AllPass}
use Rattle.ds_value.specs.Names.{IsName, is_name_byte}
use Rattle.ds_lex.proofs.Readers.{same_bytes, bytes_same}
use Rattle.ds_schema.specs.ColumnGrammar.{NamesDiffer, AreNamed}
use Rattle.ds_lex.specs.Lexemes.{Lexeme}
use Rattle.ds_lex.specs.Reading.{refuse}
use Rattle.ds_schema.specs.ColumnReading.{is_name, held}

-- ---- names, as a test and as a fact

pub name_tested : (bytes : List ℕ) → IsName bytes → is_name bytes ≡ true
name_tested bytes n = and_from _ _ (le-leb _ _ n.some) (and_from _ _ (le-leb _ _ n.short) (list_all-from_AllPass is_name_byte bytes n.each))

pub tested_name : (bytes : List ℕ) → is_name bytes ≡ true → IsName bytes
tested_name bytes t =
    let a = and_parts _ _ t in
    let b = and_parts _ _ a.1 in
    record { some = leb-true _ _ a.0; short = leb-true _ _ b.0; each = AllPass-from_list_all is_name_byte bytes b.1 }

pub held_some : {W : Type 0} (why : W) (t : Lexeme) (name : List ℕ) → IsName t.bytes × (name ≡ t.bytes) → held why t ≡ Ok name
held_some why t name n = rw (name_tested t.bytes n.0, n.1) refl

pub held_none : {W : Type 0} (why : W) (t : Lexeme) → (IsName t.bytes → ⊥) → held why t ≡ refuse t why
held_none why t h = rw (false_from_ne_true (is_name t.bytes) (λ e. h (tested_name t.bytes e))) refl

-- ---- lists

-- one of these has the name
abbrev pub taken : {X : Type 0} → (X → List ℕ) → List X → List ℕ → Bool
taken name xs bytes = list_any (λ x. bytes_eq (name x) bytes) xs

all_push : {X : Type 0} (P : X → Type 0) (xs : List X) (x : X) → AllByRecursion P xs → P x → AllByRecursion P (xs ++ x ∷ [])
all_push P [] x all h = (h, tt)
all_push P (y ∷ xs) x all h = (all.0, all_push P xs x all.1 h)

all_front : {X : Type 0} (P : X → Type 0) (xs ys : List X) → AllByRecursion P (xs ++ ys) → AllByRecursion P xs
all_front P [] ys all = tt
all_front P (x ∷ xs) ys all = (all.0, all_front P xs ys all.1)

all_last : {X : Type 0} (P : X → Type 0) (xs : List X) (x : X) → AllByRecursion P (xs ++ x ∷ []) → P x
all_last P [] x all = all.0
all_last P (y ∷ xs) x all = all_last P xs x all.1

neither : (a b : Bool) → (a || b) ≡ false → (a ≡ false) × (b ≡ false)
neither true b h = absurd cc
neither false b h = (refl, h)

other_bytes : (a b : List ℕ) → bytes_eq a b ≡ false → a ≡ b → ⊥
other_bytes a b h e = let k : true ≡ false = sym (bytes_same a b e) ∙ h in absurd cc

unequal_by : (a b : List ℕ) (t : Bool) → bytes_eq a b ≡ t → (a ≡ b → ⊥) → bytes_eq a b ≡ false
unequal_by a b true e differ = absurd (differ (same_bytes a b e))
unequal_by a b false e differ = e

differ_push : {X : Type 0} (name : X → List ℕ) (xs : List X) (x : X) → NamesDiffer name xs → taken name xs (name x) ≡ false → NamesDiffer name (xs ++ x ∷ [])
differ_push name [] x d h = (tt, tt)
differ_push name (y ∷ xs) x d h =
    let n = neither (bytes_eq (name y) (name x)) (taken name xs (name x)) h in
    (all_push (λ z. name y ≡ name z → ⊥) xs x d.0 (other_bytes (name y) (name x) n.0), differ_push name xs x d.1 n.1)

differ_front : {X : Type 0} (name : X → List ℕ) (xs ys : List X) → NamesDiffer name (xs ++ ys) → NamesDiffer name xs
differ_front name [] ys d = tt
differ_front name (x ∷ xs) ys d = (all_front (λ z. name x ≡ name z → ⊥) xs ys d.0, differ_front name xs ys d.1)

free_last : {X : Type 0} (name : X → List ℕ) (xs : List X) (x : X) → NamesDiffer name (xs ++ x ∷ []) → taken name xs (name x) ≡ false
free_last name [] x d = refl
free_last name (y ∷ xs) x d =
    rw (unequal_by (name y) (name x) (bytes_eq (name y) (name x)) refl (all_last (λ z. name y ≡ name z → ⊥) xs x d.0)) (free_last name xs x d.1)

pub no_named : {X : Type 0} (name : X → List ℕ) → AreNamed name []
no_named name = record { each = tt; differ = tt }

pub push_named : {X : Type 0} (name : X → List ℕ) (xs : List X) (x : X) → AreNamed name xs → IsName (name x) → taken name xs (name x) ≡ false → AreNamed name (xs ++ x ∷ [])
push_named name xs x a n free = record { each = all_push (λ y. IsName (name y)) xs x a.each n; differ = differ_push name xs x a.differ free }

pub front_named : {X : Type 0} (name : X → List ℕ) (xs ys : List X) → AreNamed name (xs ++ ys) → AreNamed name xs
front_named name xs ys a = record { each = all_front (λ y. IsName (name y)) xs ys a.each; differ = differ_front name xs ys a.differ }

pub last_named : {X : Type 0} (name : X → List ℕ) (xs : List X) (x : X) → AreNamed name (xs ++ x ∷ []) → IsName (name x) × (taken name xs (name x) ≡ false)
last_named name xs x a = (all_last (λ y. IsName (name y)) xs x a.each, free_last name xs x a.differ)
