-- Reading names, column lists and key lists from left to right, for a cause that whoever reads them gives.
use Rattle.std.specs.Prelude.{ℕ, zero, suc, List, [], ◌∷◌, ◌++◌, length, Option, Some, None, Result, Ok, Err, Bool, ◌&&◌, nat_le, if◌then◌else◌, codes}
use Rattle.std.specs.List.{list_any, list_all}
use Rattle.std.specs.Str.{bytes_eq}
use Rattle.ds_value.specs.Names.{is_name_byte}
use Rattle.ds_lex.specs.declared.token.Sort.TheVariants as sort
use Rattle.ds_lex.specs.declared.refusal.Refusal.{Refusal}
use Rattle.ds_lex.specs.Lexemes.{Lexeme}
use Rattle.ds_lex.specs.Reading.{◌>>=◌, refuse, sort_at, accept_at}

-- what can be held as a name
abbrev pub is_name : List ℕ → Bool
is_name bytes = nat_le 1 (length bytes) && (nat_le (length bytes) 255 && list_all is_name_byte bytes)

abbrev pub held : {W : Type 0} → W → Lexeme → Result (List ℕ) (Refusal W)
held why t = if is_name t.bytes then Ok t.bytes else refuse t why

-- a WORD that can be held as a name
unfoldable pub name_at : {W : Type 0} → W → List Lexeme → Result (List ℕ × List Lexeme) (Refusal W)
name_at why ts = do
  w ← sort_at sort.Word why ts
  name ← held why w.0
  Ok (name, w.1)

abbrev pub has_name : List (List ℕ) → List ℕ → Bool
has_name names bytes = list_any (λ name. bytes_eq name bytes) names

abbrev pub has_key : List (List ℕ × Bool) → List ℕ → Bool
has_key keys bytes = list_any (λ key. bytes_eq key.0 bytes) keys

-- a name that is none of these
unfoldable pub new_name_at : {W : Type 0} → W → List (List ℕ) → List Lexeme → Result (List ℕ × List Lexeme) (Refusal W)
new_name_at why names ts = do
  w ← sort_at sort.Word why ts
  new ← if has_name names w.0.bytes then refuse w.0 why else Ok w
  name ← held why w.0
  Ok (name, w.1)

-- a name that none of these keys has, and whether `desc` follows it
unfoldable pub key_at : {W : Type 0} → W → List (List ℕ × Bool) → List Lexeme → Result ((List ℕ × Bool) × List Lexeme) (Refusal W)
key_at why keys ts = do
  w ← sort_at sort.Word why ts
  new ← if has_key keys w.0.bytes then refuse w.0 why else Ok w
  name ← held why w.0
  Ok ((name, (accept_at (codes "desc") w.1).0), (accept_at (codes "desc") w.1).1)

-- a further one behind each comma; n is at least the number of tokens
unfoldable pub further_at : {W X : Type 0} → (List X → List Lexeme → Result (X × List Lexeme) (Refusal W)) → ℕ → List X → List Lexeme → Result (List X × List Lexeme) (Refusal W)
further_at one zero xs ts = Ok (xs, ts)
further_at one (suc n) xs ts =
    if (accept_at (codes ",") ts).0 then (one xs (accept_at (codes ",") ts).1 >>= λ x. further_at one n (xs ++ x.0 ∷ []) x.1) else Ok (xs, (accept_at (codes ",") ts).1)

abbrev pub more_at : {W X : Type 0} → (List X → List Lexeme → Result (X × List Lexeme) (Refusal W)) → List X → List Lexeme → Result (List X × List Lexeme) (Refusal W)
more_at one xs ts = further_at one (length ts) xs ts

-- a column list, whatever follows
unfoldable pub names_at : {W : Type 0} → W → List Lexeme → Result (List (List ℕ) × List Lexeme) (Refusal W)
names_at why ts = do
  first ← new_name_at why [] ts
  more_at (new_name_at why) (first.0 ∷ []) first.1

-- a key list, whatever follows
unfoldable pub keys_at : {W : Type 0} → W → List Lexeme → Result (List (List ℕ × Bool) × List Lexeme) (Refusal W)
keys_at why ts = do
  first ← key_at why [] ts
  more_at (key_at why) (first.0 ∷ []) first.1

-- what was read, where nothing is left
abbrev pub all_of : {W X : Type 0} → Result (X × List Lexeme) (Refusal W) → Option X
all_of (Ok (x, [])) = Some x
all_of (Ok (x, t ∷ ts)) = None
all_of (Err e) = None

abbrev pub all_names : List Lexeme → Option (List (List ℕ))
all_names ts = all_of (names_at {W = Unit {0}} tt ts)

abbrev pub all_keys : List Lexeme → Option (List (List ℕ × Bool))
all_keys ts = all_of (keys_at {W = Unit {0}} tt ts)
