-- The grammar of tokens: what a separator and a token are, and how a text is cut into them.
use Rattle.std.specs.Prelude.{◌≡◌, ◌⊎◌, ℕ, ◌+◌, ◌<◌, ◌≤◌, List, [], ◌∷◌, ◌++◌, length, drop, Option, Some, None, true, not, ◌&&◌, ◌==◌, codes}
use Rattle.std.specs.List.{list_all, list_any}
use Rattle.std.specs.Str.{bytes_eq}
use Rattle.ds_lex.specs.declared.token.Mode.{Mode}
use Rattle.ds_lex.specs.declared.token.Mode.TheVariants.{Osh, Inner}
use Rattle.ds_lex.specs.declared.token.Sort.{Sort}
use Rattle.ds_lex.specs.declared.token.Sort.TheVariants as sort
use Rattle.ds_lex.specs.declared.token.Token.{Token}
use Rattle.ds_lex.specs.declared.token.Piece.{Piece}
use Rattle.ds_lex.specs.declared.token.Piece.TheVariants.{Gap, Part}
use Rattle.ds_lex.specs.Pieces.{is_blank, is_digit, is_letter, is_opt_byte, is_word_byte, is_text_byte, opens_word, opens_quoted, size_of}
use Rattle.ds_lex.specs.Lexed.{Lexed}

-- ---- separators

abbrev pub IsBlank : List ℕ → Type 0
IsBlank [] = ⊥
IsBlank (b ∷ bytes) = (is_blank b ≡ true) × (bytes ≡ [])

-- `#` and what follows it in its line
abbrev pub IsLineComment : List ℕ → Type 0
IsLineComment [] = ⊥
IsLineComment (b ∷ bytes) = (b ≡ 35) × (list_all (λ c. not (c == 10)) bytes ≡ true)

-- `/*` and what follows it up to the next `*/`
pub record IsComment (bytes : List ℕ) : Type 0 where
  pub inside : List ℕ
  pub parts : bytes ≡ codes "/*" ++ (inside ++ codes "*/")
  pub next : (front back : List ℕ) → inside ++ codes "*/" ≡ front ++ (codes "*/" ++ back) → back ≡ []

abbrev pub IsSeparator : List ℕ → Type 0
IsSeparator bytes = IsBlank bytes ⊎ (IsLineComment bytes ⊎ IsComment bytes)

-- ---- tokens

-- a letter or `_`, then letters, digits, `_` and `.`
abbrev pub IsWord : List ℕ → Type 0
IsWord [] = ⊥
IsWord (b ∷ bytes) = (opens_word b ≡ true) × (list_all is_word_byte bytes ≡ true)

-- `-` and a letter, then letters, digits and `_`
abbrev pub IsOpt : List ℕ → Type 0
IsOpt [] = ⊥
IsOpt (b ∷ []) = ⊥
IsOpt (b ∷ c ∷ bytes) = (b ≡ 45) × (is_letter c ≡ true) × (list_all is_opt_byte bytes ≡ true)

abbrev pub AreDigits : List ℕ → Type 0
AreDigits bytes = (0 < length bytes) × (list_all is_digit bytes ≡ true)

-- digits, and perhaps `.` and digits
abbrev pub IsNumber : List ℕ → Type 0
IsNumber bytes = AreDigits bytes ⊎ ((whole fraction : List ℕ) × (bytes ≡ whole ++ 46 ∷ fraction) × AreDigits whole × AreDigits fraction)

-- between two quotes, without that quote and without control bytes but the tab
pub record IsQuoted (bytes : List ℕ) : Type 0 where
  pub quote : ℕ
  pub inside : List ℕ
  pub parts : bytes ≡ quote ∷ (inside ++ quote ∷ [])
  pub opens : opens_quoted quote ≡ true
  pub each : list_all (λ b. is_text_byte b && not (b == quote)) inside ≡ true

abbrev pub signs : List (List ℕ)
signs =
    codes "==" ∷ codes "!=" ∷ codes "<=" ∷ codes ">=" ∷ codes "&&" ∷ codes "||"
    ∷ codes "(" ∷ codes ")" ∷ codes "[" ∷ codes "]" ∷ codes "{" ∷ codes "}" ∷ codes "," ∷ codes ";" ∷ codes ":" ∷ codes "|" ∷ codes "<" ∷ codes ">" ∷ codes "=" ∷ codes "+" ∷ codes "-" ∷ codes "*" ∷ codes "/" ∷ codes "%" ∷ codes "!" ∷ []

abbrev pub IsSign : List ℕ → Type 0
IsSign bytes = list_any (bytes_eq bytes) signs ≡ true

-- options are tokens in mode Osh alone
abbrev pub IsToken : Mode → Sort → List ℕ → Type 0
IsToken mode sort.Word bytes = IsWord bytes
IsToken Osh sort.Opt bytes = IsOpt bytes
IsToken Inner sort.Opt bytes = ⊥
IsToken mode sort.Number bytes = IsNumber bytes
IsToken mode sort.Quoted bytes = IsQuoted bytes
IsToken mode sort.Sign bytes = IsSign bytes

-- ---- texts

-- a separator or a token of so many bytes
abbrev pub IsPiece : Mode → Piece → List ℕ → Type 0
IsPiece mode (Gap n) bytes = (length bytes ≡ n) × IsSeparator bytes
IsPiece mode (Part sort n) bytes = (length bytes ≡ n) × IsToken mode sort bytes

-- The piece stands at the front of the text: it is the longest that does, and what opens a comment is no sign.
pub record Stands (mode : Mode) (p : Piece) (text : List ℕ) : Type 0 where
  pub bytes : List ℕ
  pub rest : List ℕ
  pub parts : text ≡ bytes ++ rest
  pub piece : IsPiece mode p bytes
  pub longest : (q : Piece) (more after : List ℕ) → text ≡ more ++ after → IsPiece mode q more → length more ≤ length bytes
  pub comment : (after : List ℕ) → text ≡ codes "/*" ++ after → IsSeparator bytes

-- the text is these pieces one after the other, each the one that stands there, and then the rest
abbrev pub IsCut : Mode → List ℕ → List Piece → List ℕ → Type 0
IsCut mode text [] rest = text ≡ rest
IsCut mode text (p ∷ pieces) rest = Stands mode p text × IsCut mode (drop (size_of p) text) pieces rest

-- the tokens among pieces, of which the first is at this place
abbrev pub tokens_from : ℕ → List Piece → List Token
tokens_from at [] = []
tokens_from at (Gap n ∷ pieces) = tokens_from (at + n) pieces
tokens_from at (Part sort n ∷ pieces) = record { sort = sort; from = at; to = at + n } ∷ tokens_from (at + n) pieces

abbrev pub place_behind : ℕ → List Piece → ℕ
place_behind at [] = at
place_behind at (p ∷ pieces) = place_behind (at + size_of p) pieces

-- nothing is left, or something with which no piece stands, at this place
abbrev pub EndsAt : Mode → ℕ → List ℕ → Option ℕ → Type 0
EndsAt mode at [] bad = bad ≡ None
EndsAt mode at (b ∷ bytes) bad = (bad ≡ Some at) × ((p : Piece) → Stands mode p (b ∷ bytes) → ⊥)

-- a text's tokens, up to its end or to the first place where neither a separator nor a token stands
pub record IsLexed (mode : Mode) (text : List ℕ) (l : Lexed) : Type 0 where
  pub pieces : List Piece
  pub rest : List ℕ
  pub cut : IsCut mode text pieces rest
  pub tokens : l.tokens ≡ tokens_from 0 pieces
  pub ends : EndsAt mode (place_behind 0 pieces) rest l.bad
