-- Phrases, of which grammars over tokens are made. A phrase says of some tokens that it stands at their front, and that the
-- rest follows it.
use Rattle.std.specs.Prelude.{◌≡◌, ◌⊎◌, ℕ, List, [], ◌∷◌, ◌++◌}
use Rattle.ds_lex.specs.declared.token.Sort.{Sort}
use Rattle.ds_lex.specs.declared.refusal.Refusal.{Refusal}
use Rattle.ds_lex.specs.declared.refusal.Refusal.TheVariants as refusal
use Rattle.ds_lex.specs.Lexemes.{Lexeme}
use Rattle.ds_lex.specs.Reading.{first_of}

abbrev pub Phrase : Type 1
Phrase = List Lexeme → List Lexeme → Type 0

-- this word or sign
abbrev pub word : List ℕ → Phrase
word bytes [] rest = ⊥
word bytes (t ∷ ts) rest = (t.bytes ≡ bytes) × (ts ≡ rest)

-- a token of this sort, of whose bytes something holds
abbrev pub token : Sort → (List ℕ → Type 0) → Phrase
token sort Is [] rest = ⊥
token sort Is (t ∷ ts) rest = (t.sort ≡ sort) × Is t.bytes × (ts ≡ rest)

-- nothing
abbrev pub nothing : Phrase
nothing ts rest = ts ≡ rest

-- nothing, where something holds
abbrev pub nothing_where : Type 0 → Phrase
nothing_where P ts rest = P × (ts ≡ rest)

-- the one, and then the other
infixr 14 ◌~◌
abbrev pub ◌~◌ : Phrase → Phrase → Phrase
(p ~ q) ts rest = (between : List Lexeme) × p ts between × q between rest

-- the one or the other
infixr 12 ◌<|>◌
abbrev pub ◌<|>◌ : Phrase → Phrase → Phrase
(p <|> q) ts rest = p ts rest ⊎ q ts rest

-- all of these tokens are one of the phrases
abbrev pub AreWhole : {X : Type 0} → (X → Phrase) → List Lexeme → Type 0
AreWhole {X} P ts = (x : X) × P x ts []

-- the first of these tokens is the one that is refused, or they are none where the refusal is at the end
abbrev pub IsAt : {W : Type 0} → Refusal W → List Lexeme → Type 0
IsAt refusal.AtEnd left = left ≡ []
IsAt (refusal.At at why) [] = ⊥
IsAt (refusal.At at why) (t ∷ ts) = t.at ≡ at

-- Of these tokens the first of `left` is the first with which no phrase goes on: those before it can be completed, but not
-- by tokens that begin with it, and where none is left not by nothing.
pub record StopsAt {X : Type 0} (P : X → Phrase) (ts left : List Lexeme) : Type 0 where
  pub front : List Lexeme
  pub parts : ts ≡ front ++ left
  pub goes_on : (end : List Lexeme) × AreWhole P (front ++ end)
  pub stops : (more : List Lexeme) → first_of more ≡ first_of left → AreWhole P (front ++ more) → ⊥
