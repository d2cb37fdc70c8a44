-- Reading tokens from left to right. A reader takes the tokens that are left, and gives a value and the tokens behind it,
-- or where reading doesn't go on.
use Rattle.std.specs.Prelude.{◌≡◌, ℕ, List, [], ◌∷◌, Option, Some, None, Result, Ok, Err, Bool, true, false, if◌then◌else◌}
use Rattle.std.specs.Str.{bytes_eq}
use Rattle.ds_lex.specs.declared.token.Sort.{Sort}
use Rattle.ds_lex.specs.declared.token.Sort.TheVariants as sort
use Rattle.ds_lex.specs.declared.refusal.Refusal.{Refusal}
use Rattle.ds_lex.specs.declared.refusal.Refusal.TheVariants as refusal
use Rattle.ds_lex.specs.declared.refusal.Stop.{Stop}
use Rattle.ds_lex.specs.declared.refusal.Stop.TheVariants as stop
use Rattle.ds_lex.specs.declared.lexeme.Lexeme.{Lexeme as Borrowed}
use Rattle.ds_lex.specs.Lexemes.{Lexeme, lexeme}

-- reads what follows, where the first part could be read
infixl 10 ◌>>=◌
abbrev pub ◌>>=◌ : {E A B : Type 0} → Result A E → (A → Result B E) → Result B E
(Ok x) >>= f = f x
(Err e) >>= f = Err e

abbrev pub refuse : {W A : Type 0} → Lexeme → W → Result A (Refusal W)
refuse t why = Err (refusal.At t.at why)

abbrev pub is_sort : Sort → Sort → Bool
is_sort sort.Word sort.Word = true
is_sort sort.Opt sort.Opt = true
is_sort sort.Number sort.Number = true
is_sort sort.Quoted sort.Quoted = true
is_sort sort.Sign sort.Sign = true
is_sort a b = false

-- the next token, whichever it is
unfoldable pub token_at : (W : Type 0) → List Lexeme → Result (Lexeme × List Lexeme) (Refusal W)
token_at W [] = Err refusal.AtEnd
token_at W (t ∷ ts) = Ok (t, ts)

-- this word or sign; another token is refused
unfoldable pub expect_at : {W : Type 0} → List ℕ → W → List Lexeme → Result (Lexeme × List Lexeme) (Refusal W)
expect_at word why [] = Err refusal.AtEnd
expect_at word why (t ∷ ts) = if bytes_eq t.bytes word then Ok (t, ts) else refuse t why

-- a token of this sort; another token is refused
unfoldable pub sort_at : {W : Type 0} → Sort → W → List Lexeme → Result (Lexeme × List Lexeme) (Refusal W)
sort_at wanted why [] = Err refusal.AtEnd
sort_at wanted why (t ∷ ts) = if is_sort wanted t.sort then Ok (t, ts) else refuse t why

-- whether this word or sign comes, which is passed over then
unfoldable pub accept_at : List ℕ → List Lexeme → Bool × List Lexeme
accept_at word [] = (false, [])
accept_at word (t ∷ ts) = if bytes_eq t.bytes word then (true, ts) else (false, t ∷ ts)

-- nothing follows; a token is refused
unfoldable pub finish_at : {W : Type 0} → W → List Lexeme → Result (Unit {0}) (Refusal W)
finish_at why [] = Ok tt
finish_at why (t ∷ ts) = refuse t why

-- the next token, where there is one
abbrev pub first_of : List Lexeme → Option Lexeme
first_of [] = None
first_of (t ∷ ts) = Some t

-- the place of the next token, or else of the end
abbrev pub next_place : ℕ → List Lexeme → ℕ
next_place end [] = end
next_place end (t ∷ ts) = t.at

-- what a call that left these tokens answered
abbrev pub moved : {W X : Type 0} → Result X (Refusal W) → List Lexeme → Result (X × List Lexeme) (Refusal W)
moved (Ok x) left = Ok (x, left)
moved (Err e) left = Err e

-- the same of a call that gives a token
abbrev pub moved_token : {W : Type 0} → Result Borrowed (Refusal W) → List Lexeme → Result (Lexeme × List Lexeme) (Refusal W)
moved_token (Ok t) left = Ok (lexeme t, left)
moved_token (Err e) left = Err e

-- A call that stopped stopped as the reader does, unless memory ran out.
abbrev pub Fails : {W Y : Type 0} → Stop W → Result Y (Refusal W) → Type 0
Fails (stop.Refused r) read = read ≡ Err r
Fails stop.Memory read = Unit {0}

-- A call answered what the reader gives, unless memory ran out.
abbrev pub Gives : {W X : Type 0} → Result X (Stop W) → Result X (Refusal W) → Type 0
Gives (Ok x) read = read ≡ Ok x
Gives (Err e) read = Fails e read

-- The same for a call that left these tokens.
abbrev pub Moves : {W X : Type 0} → Result X (Stop W) → List Lexeme → Result (X × List Lexeme) (Refusal W) → Type 0
Moves (Ok x) left read = read ≡ Ok (x, left)
Moves (Err e) left read = Fails e read
