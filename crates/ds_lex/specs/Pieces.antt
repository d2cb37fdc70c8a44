-- What begins at the front of some bytes: a separator, a token, or nothing.
use Rattle.std.specs.Prelude.{ℕ, ◌<◌, ◌≤◌, ◌+◌, List, [], ◌∷◌, length, drop, take, take_while, position, Option, Some, None, Bool, true, false, ◌&&◌, ◌||◌, not, ◌==◌, nat_le, if◌then◌else◌}
use Rattle.std.specs.List.{list_all, list_any}
use Rattle.ds_lex.specs.declared.token.Mode.{Mode}
use Rattle.ds_lex.specs.declared.token.Mode.TheVariants.{Osh, Inner}
use Rattle.ds_lex.specs.declared.token.Sort.TheVariants.{Word, Opt, Number, Quoted, Sign}
use Rattle.ds_lex.specs.declared.token.Piece.{Piece}
use Rattle.ds_lex.specs.declared.token.Piece.TheVariants.{Gap, Part}

-- tab, newline, carriage return, space
abbrev pub is_blank : ℕ → Bool
is_blank b = (b == 9) || (b == 10) || (b == 13) || (b == 32)

abbrev pub is_digit : ℕ → Bool
is_digit b = nat_le 48 b && nat_le b 57

abbrev pub is_letter : ℕ → Bool
is_letter b = (nat_le 65 b && nat_le b 90) || (nat_le 97 b && nat_le b 122)

-- letters, digits and '_'
abbrev pub is_opt_byte : ℕ → Bool
is_opt_byte b = is_letter b || is_digit b || (b == 95)

-- the same, and '.'
abbrev pub is_word_byte : ℕ → Bool
is_word_byte b = is_opt_byte b || (b == 46)

-- no control byte but the tab
abbrev pub is_text_byte : ℕ → Bool
is_text_byte b = nat_le 32 b || (b == 9)

-- ( ) [ ] { } , ; : | < > = + - * / % !
abbrev pub sign_bytes : List ℕ
sign_bytes = 40 ∷ 41 ∷ 91 ∷ 93 ∷ 123 ∷ 125 ∷ 44 ∷ 59 ∷ 58 ∷ 124 ∷ 60 ∷ 62 ∷ 61 ∷ 43 ∷ 45 ∷ 42 ∷ 47 ∷ 37 ∷ 33 ∷ []

abbrev pub is_sign_byte : ℕ → Bool
is_sign_byte b = list_any (λ s. s == b) sign_bytes

-- == != <= >= && ||
abbrev pub is_double_sign : ℕ → ℕ → Bool
is_double_sign b c = ((c == 61) && ((b == 61) || (b == 33) || (b == 60) || (b == 62))) || ((b == 38) && (c == 38)) || ((b == 124) && (c == 124))

-- the first byte passes
abbrev pub begins_with : (ℕ → Bool) → List ℕ → Bool
begins_with p [] = false
begins_with p (b ∷ bs) = p b

-- how many bytes at the front pass
abbrev pub count_front : (ℕ → Bool) → List ℕ → ℕ
count_front p bs = length (take_while p bs)

abbrev pub added : ℕ → Option ℕ → Option ℕ
added k None = None
added k (Some n) = Some (n + k)

abbrev pub one_more : Option ℕ → Option ℕ
one_more None = None
one_more (Some n) = Some (n + 1)

-- how many bytes there are up to the next `*/`, with it
abbrev pub comment_len : List ℕ → Option ℕ
comment_len [] = None
comment_len (b ∷ bs) = if (b == 42) && begins_with (λ c. c == 47) bs then Some 2 else one_more (comment_len bs)

abbrev pub gap_of : ℕ → Option ℕ → Option Piece
gap_of more None = None
gap_of more (Some n) = Some (Gap (n + more))

-- digits, and behind them '.' and digits where both are there
abbrev pub number_len : List ℕ → ℕ
number_len bs =
    let whole = count_front is_digit bs in
    let rest = drop whole bs in
    if begins_with (λ c. c == 46) rest && begins_with is_digit (drop 1 rest)
    then whole + 1 + count_front is_digit (drop 1 rest)
    else whole

-- behind an opening quote: up to the closing one, where no control byte stands before it
abbrev pub quoted_of : Option ℕ → List ℕ → Option Piece
quoted_of None bs = None
quoted_of (Some n) bs = if list_all is_text_byte (take n bs) then Some (Part Quoted (n + 2)) else None

abbrev pub is_option_mode : Mode → Bool
is_option_mode Osh = true
is_option_mode Inner = false

-- a sign of two bytes before one of one byte
abbrev pub sign_of : ℕ → List ℕ → Option Piece
sign_of b bs =
    if begins_with (is_double_sign b) bs then Some (Part Sign 2)
    else if is_sign_byte b then Some (Part Sign 1)
    else None

abbrev pub opens_comment : ℕ → List ℕ → Bool
opens_comment b bs = (b == 47) && begins_with (λ c. c == 42) bs

abbrev pub opens_word : ℕ → Bool
opens_word b = is_letter b || (b == 95)

abbrev pub opens_quoted : ℕ → Bool
opens_quoted b = (b == 34) || (b == 39)

abbrev pub opens_option : Mode → ℕ → List ℕ → Bool
opens_option mode b bs = is_option_mode mode && (b == 45) && begins_with is_letter bs

-- what begins with byte b and goes on with bs
abbrev pub piece_from : Mode → ℕ → List ℕ → Option Piece
piece_from mode b bs =
    if is_blank b then Some (Gap 1)
    else if b == 35 then Some (Gap (count_front (λ c. not (c == 10)) bs + 1))
    else if opens_comment b bs then gap_of 2 (comment_len (drop 1 bs))
    else if opens_word b then Some (Part Word (count_front is_word_byte bs + 1))
    else if is_digit b then Some (Part Number (number_len (b ∷ bs)))
    else if opens_quoted b then quoted_of (position (λ c. c == b) bs) bs
    else if opens_option mode b bs then Some (Part Opt (count_front is_opt_byte bs + 1))
    else sign_of b bs

abbrev pub piece_at : Mode → List ℕ → Option Piece
piece_at mode [] = None
piece_at mode (b ∷ bs) = piece_from mode b bs

abbrev pub size_of : Piece → ℕ
size_of (Gap n) = n
size_of (Part sort n) = n

-- at least one byte and no more than n
abbrev pub IsWithin : Piece → ℕ → Type 0
IsWithin p n = (0 < size_of p) × (size_of p ≤ n)
