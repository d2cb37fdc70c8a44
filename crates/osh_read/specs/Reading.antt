-- How the readers of flows answer, and what they share.
use Rattle.std.specs.Prelude.{ℕ, zero, suc, List, [], ◌∷◌, ◌++◌, Option, Some, None, Result, Ok, Err, if◌then◌else◌}
use Rattle.std.specs.Str.{bytes_eq}
use Rattle.ds_lex.specs.declared.refusal.Refusal.{Refusal}
use Rattle.ds_lex.specs.Lexemes.{Lexeme}
use Rattle.ds_lex.specs.Reading.{◌>>=◌}
use Rattle.osh_read.specs.declared.fault.OshWhy.{OshWhy}

-- a reader's answer: a value and the tokens behind it
abbrev pub Read : Type 0 → Type 0
Read A = Result (A × List Lexeme) (Refusal OshWhy)

-- this word or sign, where it comes
unfoldable pub sign_at : List ℕ → List Lexeme → Option Lexeme × List Lexeme
sign_at word [] = (None, [])
sign_at word (t ∷ ts) = if bytes_eq t.bytes word then (Some t, ts) else (None, t ∷ ts)

-- what is made of it, where it comes
abbrev pub if_comes : {X A : Type 0} → Option X → (X → A) → A → A
if_comes None make other = other
if_comes (Some x) make other = make x

-- what `one` reads, as often as it comes, added to what was found; n is at least the number of tokens
unfoldable pub repeated : {S X : Type 0} → (S → List Lexeme → Read (Option X)) → (S → X → S) → ℕ → S → List Lexeme → Read S
repeated one add zero found ts = Ok (found, ts)
repeated one add (suc n) found ts = one found ts >>= λ x. if_comes x.0 (λ y. repeated one add n (add found y) x.1) (Ok (found, x.1))

abbrev pub append : {X : Type 0} → List X → X → List X
append xs x = xs ++ x ∷ []
