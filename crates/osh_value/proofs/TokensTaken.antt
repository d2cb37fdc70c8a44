-- Single tokens and tests: what is taken is what is asked for.
use Rattle.std.proofs.Common.{◌≡◌, ◌≤◌, ◌<◌, ℕ, List, [], ◌∷◌, Bool, true, false, Result, Ok, Err, length, refl, sym, ap, ◌∙◌, arith}
use Rattle.std.specs.Prelude.{if◌then◌else◌, nat_lt}
use Rattle.std.specs.Str.Parse.{IsNumeral, digits_value}
use Rattle.std.proofs.lemmas.Bool.{le-leb}
use Rattle.ds_value.specs.Names.{IsName}
use Rattle.ds_lex.specs.declared.token.Sort.{Sort}
use Rattle.ds_lex.specs.declared.token.Sort.TheVariants as sort
use Rattle.ds_lex.specs.declared.refusal.Refusal.{Refusal}
use Rattle.ds_lex.specs.Lexemes.{Lexeme}
use Rattle.ds_lex.specs.Reading.{◌>>=◌, is_sort, sort_at}
use Rattle.ds_lex.specs.Phrases.{token}
use Rattle.ds_lex.proofs.Readers.{same_sort, sort_same, read_holds}
use Rattle.ds_schema.specs.Schemas.{IsFieldName}
use Rattle.ds_schema.specs.ColumnReading.{is_name, held}
use Rattle.ds_schema.specs.SchemaReading.{is_field_name, is_size, size_at}
use Rattle.ds_schema.proofs.ListReaders.{ok_parts}
use Rattle.ds_schema.proofs.SizeReaders.{digits_all, sized, size_reads}
use Rattle.osh_value.proofs.Names.{tested_name}

-- ---- tests

pub test_taken : {W A : Type 0} (b : Bool) (x y : A) (e : Refusal W) → (let r : Result A (Refusal W) = if b then Ok x else Err e in r) ≡ Ok y → (b ≡ true) × (x ≡ y)
test_taken true x y e h = (refl, (let k : x ≡ y = cc in k))
test_taken false x y e h = absurd cc

pub test_passed : {W A B : Type 0} (b : Bool) (x : A) (e : Refusal W) (f : A → Result B (Refusal W)) (y : B) → ((let r : Result A (Refusal W) = if b then Err e else Ok x in r) >>= f) ≡ Ok y → (b ≡ false) × (f x ≡ Ok y)
test_passed true x e f y h = absurd cc
test_passed false x e f y h = (refl, h)

-- ---- a token of a sort

sort_by : {W : Type 0} (s : Sort) (t u : Lexeme) (ts rest : List Lexeme) (b : Bool) (e : Refusal W) → is_sort s t.sort ≡ b → (let r : Result (Lexeme × List Lexeme) (Refusal W) = if b then Ok (t, ts) else Err e in r) ≡ Ok (u, rest) → (u.sort ≡ s) × (t ∷ ts ≡ u ∷ rest)
sort_by s t u ts rest true e f h =
    let p = ok_parts (t, ts) (u, rest) h in
    (ap (λ (x : Lexeme). x.sort) (sym p.0) ∙ same_sort s t.sort f, rw (p.0, p.1) refl)
sort_by s t u ts rest false e f h = absurd cc

pub sort_taken : {W : Type 0} (s : Sort) (why : W) (ts rest : List Lexeme) (u : Lexeme) → sort_at s why ts ≡ Ok (u, rest) → (u.sort ≡ s) × (ts ≡ u ∷ rest)
unfolding sort_at
sort_taken s why [] rest u h = absurd cc
sort_taken s why (t ∷ ts) rest u h = sort_by s t u ts rest (is_sort s t.sort) _ refl h

pub sort_read : {W : Type 0} (s : Sort) (why : W) (t : Lexeme) (ts : List Lexeme) → t.sort ≡ s → sort_at s why (t ∷ ts) ≡ Ok (t, ts)
unfolding sort_at
sort_read s why t ts e = rw (e, sort_same s) refl

pub token_fewer : (s : Sort) (Is : List ℕ → Type 0) (ts rest : List Lexeme) → token s Is ts rest → length rest < length ts
token_fewer s Is [] rest h = absurd h
token_fewer s Is (t ∷ ts) rest h = let l = ap length h.2 in omega (arith, l)

-- ---- names

pub held_taken : {W : Type 0} (why : W) (t : Lexeme) (x : List ℕ) → held why t ≡ Ok x → IsName t.bytes × (t.bytes ≡ x)
held_taken why t x h = let k = test_taken (is_name t.bytes) t.bytes x _ h in (tested_name t.bytes k.0, k.1)

pub field_tested : (name : List ℕ) → IsFieldName name → is_field_name name ≡ true
field_tested name h = rw (le-leb (length name) 64 h.short, h.begun, h.each) refl

-- ---- numbers in digits alone

pub tested_size : (low high : ℕ) (bytes : List ℕ) → is_size low high bytes ≡ true → (low ≤ digits_value 10 bytes) × (digits_value 10 bytes ≤ high) × IsNumeral 10 bytes
unfolding size_at sort_at
tested_size low high bytes e =
    let t : Lexeme = record { at = 0; sort = sort.Number; bytes = bytes } in
    let h = read_holds (sized low high) (size_at low high) (size_reads low high) (t ∷ []) [] (digits_value 10 bytes) (rw e refl) in
    (h.0, h.1, h.2.1.0)

pub size_tested : (low high : ℕ) (bytes : List ℕ) → IsNumeral 10 bytes → low ≤ digits_value 10 bytes → digits_value 10 bytes ≤ high → is_size low high bytes ≡ true
size_tested low high bytes n l h =
    let some : nat_lt 0 (length bytes) ≡ true = le-leb 1 (length bytes) n.0 in
    rw (some, digits_all bytes n.1, le-leb low (digits_value 10 bytes) l, le-leb (digits_value 10 bytes) high h) refl
