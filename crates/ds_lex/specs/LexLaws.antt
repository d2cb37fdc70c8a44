-- What ties the lexer to the grammar of tokens.
use Rattle.std.specs.Prelude.{◌≡◌, ℕ, ◌<◌, ◌≤◌, List, [], ◌∷◌, length, Option, Some, None}
use Rattle.ds_lex.specs.declared.token.Mode.{Mode}
use Rattle.ds_lex.specs.declared.token.Token.{Token}
use Rattle.ds_lex.specs.Lexed.{Lexed, lexed}
use Rattle.ds_lex.specs.Tokens.{IsLexed}

-- what is lexed are the tokens of the grammar
abbrev pub LexedAreTokens : Type 0
LexedAreTokens = (mode : Mode) (text : List ℕ) → IsLexed mode text (lexed mode text)

-- and no text has others
abbrev pub TokensAreLexed : Type 0
TokensAreLexed = (mode : Mode) (text : List ℕ) (l : Lexed) → IsLexed mode text l → l ≡ lexed mode text

-- each token has at least one byte and ends before the next begins; the first is from `at` on, and the last ends at `end` at most
abbrev pub AreInOrder : ℕ → List Token → ℕ → Type 0
AreInOrder at [] end = at ≤ end
AreInOrder at (t ∷ ts) end = (at ≤ t.from) × (t.from < t.to) × AreInOrder t.to ts end

-- where the tokens end: at the bad place, or at the end of the text
abbrev pub last_place : ℕ → Option ℕ → ℕ
last_place len None = len
last_place len (Some at) = at

pub record LiesInText (text : List ℕ) (l : Lexed) : Type 0 where
  pub ordered : AreInOrder 0 l.tokens (last_place (length text) l.bad)
  pub inside : last_place (length text) l.bad ≤ length text

abbrev pub LexedLies : Type 0
LexedLies = (mode : Mode) (text : List ℕ) → LiesInText text (lexed mode text)
