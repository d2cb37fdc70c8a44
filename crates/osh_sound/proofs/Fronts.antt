-- Single tokens: what a reader took of the front.
use Rattle.std.proofs.Common.{◌≡◌, ◌⊎◌, inl, inr, ℕ, List, [], ◌∷◌, Bool, true, false, Result, Ok, Option, Some, None, refl, sym, ap, ◌∙◌}
use Rattle.std.specs.Prelude.{if◌then◌else◌}
use Rattle.std.specs.Str.{bytes_eq}
use Rattle.ds_lex.specs.declared.token.Sort.{Sort}
use Rattle.ds_lex.specs.declared.refusal.Refusal.{Refusal}
use Rattle.ds_lex.specs.Lexemes.{Lexeme}
use Rattle.ds_lex.specs.Reading.{refuse, is_sort, sort_at, expect_at, token_at}
use Rattle.ds_lex.specs.Phrases.{word}
use Rattle.ds_lex.proofs.Readers.{same_sort, same_bytes, read_holds, said, expect_reads, to_word}
use Rattle.ds_schema.proofs.ListReaders.{ok_parts}
use Rattle.osh_read.specs.Reading.{sign_at}

pub pair_parts : {A B : Type 0} (x y : A × B) → x ≡ y → (x.0 ≡ y.0) × (x.1 ≡ y.1)
pair_parts x y e = (ap (λ p. p.0) e, ap (λ p. p.1) e)

-- the one that was chosen
pub one_of : {A : Type 0} (b : Bool) (x y : A) (other : Option A) → (if b then Some x else other) ≡ Some y → ((b ≡ true) × (x ≡ y)) ⊎ (other ≡ Some y)
one_of true x y other h = inl (refl, (let e : x ≡ y = cc in e))
one_of false x y other h = inr h

sort_by : {W : Type 0} (wanted : Sort) (why : W) (t w : Lexeme) (ts us : List Lexeme) (b : Bool) → is_sort wanted t.sort ≡ b → (let r : Result (Lexeme × List Lexeme) (Refusal W) = if b then Ok (t, ts) else refuse t why in r) ≡ Ok (w, us) → (t ∷ ts ≡ w ∷ us) × (w.sort ≡ wanted)
sort_by wanted why t w ts us true e h =
    let k = ok_parts (t, ts) (w, us) h in
    (ap (λ x. x ∷ ts) k.0 ∙ ap (λ (xs : List Lexeme). w ∷ xs) k.1, ap (λ (x : Lexeme). x.sort) (sym k.0) ∙ same_sort wanted t.sort e)
sort_by wanted why t w ts us false e h = absurd cc

pub sort_taken : {W : Type 0} (wanted : Sort) (why : W) (ts us : List Lexeme) (w : Lexeme) → sort_at wanted why ts ≡ Ok (w, us) → (ts ≡ w ∷ us) × (w.sort ≡ wanted)
unfolding sort_at
sort_taken wanted why [] us w h = absurd cc
sort_taken wanted why (t ∷ ts) us w h = sort_by wanted why t w ts us (is_sort wanted t.sort) refl h

pub token_taken : {W : Type 0} (ts us : List Lexeme) (w : Lexeme) → token_at W ts ≡ Ok (w, us) → ts ≡ w ∷ us
unfolding token_at
token_taken [] us w h = absurd cc
token_taken (t ∷ ts) us w h = let k = ok_parts (t, ts) (w, us) h in ap (λ x. x ∷ ts) k.0 ∙ ap (λ (xs : List Lexeme). w ∷ xs) k.1

pub expect_taken : {W : Type 0} (bytes : List ℕ) (why : W) (ts us : List Lexeme) (w : Lexeme) → expect_at bytes why ts ≡ Ok (w, us) → word bytes ts us
expect_taken bytes why ts us w h = to_word bytes w ts us (read_holds (said bytes) (expect_at bytes why) (expect_reads bytes why) ts us w h)

some_is : {A : Type 0} (x y : A) → (let o : Option A = Some x in o) ≡ Some y → x ≡ y
some_is x y h = cc

sign_by : (bytes : List ℕ) (t w : Lexeme) (ts us : List Lexeme) (b : Bool) → bytes_eq t.bytes bytes ≡ b → (let p : Option Lexeme × List Lexeme = if b then (Some t, ts) else (None, t ∷ ts) in p) ≡ (Some w, us) → (t ∷ ts ≡ w ∷ us) × (w.bytes ≡ bytes)
sign_by bytes t w ts us true e h =
    let k = pair_parts (Some t, ts) (Some w, us) h in
    let same = some_is t w k.0 in
    (ap (λ x. x ∷ ts) same ∙ ap (λ (xs : List Lexeme). w ∷ xs) k.1, ap (λ (x : Lexeme). x.bytes) (sym same) ∙ same_bytes t.bytes bytes e)
sign_by bytes t w ts us false e h = let n = (pair_parts (None, t ∷ ts) (Some w, us) h).0 in absurd cc

-- a sign that came was there
pub sign_came : (bytes : List ℕ) (ts us : List Lexeme) (w : Lexeme) → sign_at bytes ts ≡ (Some w, us) → (ts ≡ w ∷ us) × (w.bytes ≡ bytes)
unfolding sign_at
sign_came bytes [] us w h = let n = (pair_parts (None, []) (Some w, us) h).0 in absurd cc
sign_came bytes (t ∷ ts) us w h = sign_by bytes t w ts us (bytes_eq t.bytes bytes) refl h

unsigned_by : (bytes : List ℕ) (t : Lexeme) (ts us : List Lexeme) (b : Bool) → (let p : Option Lexeme × List Lexeme = if b then (Some t, ts) else (None, t ∷ ts) in p) ≡ (None, us) → us ≡ t ∷ ts
unsigned_by bytes t ts us true h = let n = (pair_parts (Some t, ts) (None, us) h).0 in absurd cc
unsigned_by bytes t ts us false h = sym (pair_parts (None, t ∷ ts) (None, us) h).1

-- a sign that didn't come left the tokens
pub sign_missed : (bytes : List ℕ) (ts us : List Lexeme) → sign_at bytes ts ≡ (None, us) → us ≡ ts
unfolding sign_at
sign_missed bytes [] us h = sym (pair_parts (None, []) (None, us) h).1
sign_missed bytes (t ∷ ts) us h = unsigned_by bytes t ts us (bytes_eq t.bytes bytes) h
