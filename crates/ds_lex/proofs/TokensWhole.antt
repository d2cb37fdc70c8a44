-- Where a separator or a token is at the front, the lexer finds it or a longer one.
use Rattle.std.proofs.Common.{◌≡◌, ◌<◌, ◌≤◌, ◌+◌, ◌⊎◌, inl, inr, ℕ, suc, List, [], ◌∷◌, ◌++◌, length, drop, take, Some, Bool, true, false, eqb, refl, sym, ap, ◌∙◌, arith, subst, append_assoc, length-append, lit<}
use Rattle.std.specs.Prelude.{◌&&◌, not, ◌==◌, position, if◌then◌else◌, codes}
use Rattle.std.specs.List.{list_all, list_any, AllByRecursion}
use Rattle.std.specs.Str.{bytes_eq}
use Rattle.std.specs.Cmp.{first_so, second_so}
use Rattle.std.proofs.lemmas.Bool.{true≢false, cases_lt, cond-true, eqb-true, eq-eqb, eqb-false}
use Rattle.std.proofs.lemmas.Bool.Decides.{nat_tests}
use Rattle.std.proofs.Math.Seq.{take-append_seam}
use Rattle.ds_lex.specs.declared.token.Mode.{Mode}
use Rattle.ds_lex.specs.declared.token.Mode.TheVariants.{Osh, Inner}
use Rattle.ds_lex.specs.declared.token.Sort.{Sort}
use Rattle.ds_lex.specs.declared.token.Sort.TheVariants as sort
use Rattle.ds_lex.specs.declared.token.Piece.{Piece}
use Rattle.ds_lex.specs.declared.token.Piece.TheVariants.{Gap, Part}
use Rattle.ds_lex.specs.Pieces.{is_blank, is_digit, is_letter, is_opt_byte, is_word_byte, is_text_byte, is_sign_byte, is_double_sign, begins_with, count_front, gap_of, number_len, quoted_of, is_option_mode, sign_of, opens_comment, opens_word, opens_quoted, opens_option, piece_from, piece_at, size_of}
use Rattle.ds_lex.specs.Tokens.{IsBlank, IsLineComment, IsComment, IsSeparator, IsWord, IsOpt, AreDigits, IsNumber, IsQuoted, signs, IsToken, IsPiece}
use Rattle.ds_lex.proofs.Fronts.{Front, fronted, counted, count_most, count_just, found_at, comment_whole}
use Rattle.ds_lex.proofs.TokensFound.{number_len_is, letter_opt, or_so}
use Rattle.ds_lex.proofs.Readers.{same_bytes}

-- the lexer finds this piece or a longer one
abbrev pub Reaches : Mode → Piece → List ℕ → List ℕ → Type 0
Reaches mode q bytes rest = (p : Piece) × (piece_at mode (bytes ++ rest) ≡ Some p) × ((p ≡ q) ⊎ (length bytes < size_of p))

-- a piece of a sort that is at least as long
reached : (mode : Mode) (make : ℕ → Piece) (n m : ℕ) (bytes rest : List ℕ) → size_of (make m) ≡ m → piece_at mode (bytes ++ rest) ≡ Some (make m) → length bytes ≡ n → n ≤ m → Reaches mode (make n) bytes rest
reached mode make n m bytes rest size e l h = (
  make m,
  e,
  elim (cases_lt n m) [
    | inl lt ↦ inr (omega (arith, size, l, lt))
    | inr le ↦ (let same : m ≡ n = omega arith in inl (ap make same))
  ],
)

-- ---- by the first byte

pub word_piece : (mode : Mode) (b : ℕ) (bs : List ℕ) → opens_word b ≡ true → piece_from mode b bs ≡ Some (Part sort.Word (count_front is_word_byte bs + 1))
word_piece mode b bs o =
    let blank : is_blank b ≡ false = grind (arith, nat_tests) in
    let hash : eqb b 35 ≡ false = grind (arith, nat_tests) in
    let slash : eqb b 47 ≡ false = grind (arith, nat_tests) in
    rw (blank, hash, slash, o) refl

pub digit_piece : (mode : Mode) (b : ℕ) (bs : List ℕ) → is_digit b ≡ true → piece_from mode b bs ≡ Some (Part sort.Number (number_len (b ∷ bs)))
digit_piece mode b bs d =
    let blank : is_blank b ≡ false = grind (arith, nat_tests) in
    let hash : eqb b 35 ≡ false = grind (arith, nat_tests) in
    let slash : eqb b 47 ≡ false = grind (arith, nat_tests) in
    let word : opens_word b ≡ false = grind (arith, nat_tests) in
    rw (blank, hash, slash, word) (cond-true (is_digit b) _ _ d)

quote_piece : (mode : Mode) (b : ℕ) (bs : List ℕ) → opens_quoted b ≡ true → piece_from mode b bs ≡ quoted_of (position (λ c. c == b) bs) bs
quote_piece mode b bs q =
    let blank : is_blank b ≡ false = grind (arith, nat_tests) in
    let hash : eqb b 35 ≡ false = grind (arith, nat_tests) in
    let slash : eqb b 47 ≡ false = grind (arith, nat_tests) in
    let word : opens_word b ≡ false = grind (arith, nat_tests) in
    let digit : is_digit b ≡ false = grind (arith, nat_tests) in
    rw (blank, hash, slash, word, digit, q) refl

-- ---- each kind of piece

blank_whole : (mode : Mode) (bytes rest : List ℕ) → IsBlank bytes → Reaches mode (Gap (length bytes)) bytes rest
blank_whole mode [] rest h = absurd h
blank_whole mode (b ∷ bytes) rest h =
    (Gap 1, cond-true (is_blank b) _ _ h.0, inl (ap (λ (xs : List ℕ). Gap (suc (length xs))) (sym h.1)))

line_whole : (mode : Mode) (bytes rest : List ℕ) → IsLineComment bytes → Reaches mode (Gap (length bytes)) bytes rest
line_whole mode [] rest h = absurd h
line_whole mode (b ∷ bytes) rest h =
    let found : piece_at mode (b ∷ (bytes ++ rest)) ≡ Some (Gap (count_front (λ c. not (c == 10)) (bytes ++ rest) + 1)) = ap (λ x. piece_at mode (x ∷ (bytes ++ rest))) h.0 in
    reached mode (λ n. Gap n) (suc (length bytes)) (count_front (λ c. not (c == 10)) (bytes ++ rest) + 1) (b ∷ bytes) rest refl found refl (omega (arith, count_most (λ c. not (c == 10)) bytes rest h.1))

comment_reached : (mode : Mode) (bytes rest : List ℕ) → IsComment bytes → Reaches mode (Gap (length bytes)) bytes rest
comment_reached mode bytes rest h =
    let text : bytes ++ rest ≡ codes "/*" ++ (h.inside ++ (codes "*/" ++ rest)) = ap (λ (xs : List ℕ). xs ++ rest) h.parts ∙ ap (λ (xs : List ℕ). codes "/*" ++ xs) (append_assoc h.inside (codes "*/") rest) in
    let size : length bytes ≡ length h.inside + 2 + 2 = omega (arith, ap (λ (xs : List ℕ). length xs) h.parts, length-append h.inside (codes "*/")) in
    (Gap (length h.inside + 2 + 2), ap (piece_at mode) text ∙ ap (gap_of 2) (comment_whole h.inside rest h.next), inl (ap (λ n. Gap n) (sym size)))

word_whole : (mode : Mode) (bytes rest : List ℕ) → IsWord bytes → Reaches mode (Part sort.Word (length bytes)) bytes rest
word_whole mode [] rest h = absurd h
word_whole mode (b ∷ bytes) rest h = reached mode (λ n. Part sort.Word n) (suc (length bytes)) (count_front is_word_byte (bytes ++ rest) + 1) (b ∷ bytes) rest refl (word_piece mode b (bytes ++ rest) h.0) refl (omega (arith, count_most is_word_byte bytes rest h.1))

opt_whole : (bytes rest : List ℕ) → IsOpt bytes → Reaches Osh (Part sort.Opt (length bytes)) bytes rest
opt_whole [] rest h = absurd h
opt_whole (b ∷ []) rest h = absurd h
opt_whole (b ∷ c ∷ bytes) rest h =
    let letter : is_letter c ≡ true = h.1 in
    let found : piece_at Osh (b ∷ c ∷ (bytes ++ rest)) ≡ Some (Part sort.Opt (count_front is_opt_byte (c ∷ (bytes ++ rest)) + 1)) = ap (λ x. piece_at Osh (x ∷ c ∷ (bytes ++ rest))) h.0 ∙ cond-true (is_letter c) _ _ letter in
    reached Osh (λ n. Part sort.Opt n) (suc (suc (length bytes))) (count_front is_opt_byte (c ∷ (bytes ++ rest)) + 1) (b ∷ c ∷ bytes) rest refl found refl
    (omega (arith, counted is_opt_byte c (bytes ++ rest) (letter_opt c letter), count_most is_opt_byte bytes rest h.2))

both_parts : (p q : ℕ → Bool) (xs : List ℕ) → list_all (λ x. p x && q x) xs ≡ true → (list_all p xs ≡ true) × (list_all q xs ≡ true)
both_parts p q [] h = (refl, refl)
both_parts p q (x ∷ xs) h =
    let here = first_so (p x && q x) (list_all (λ x. p x && q x) xs) h in
    let more = both_parts p q xs (second_so (p x && q x) (list_all (λ x. p x && q x) xs) h) in
    (rw (first_so (p x) (q x) here) more.0, rw (second_so (p x) (q x) here) more.1)

quoted_whole : (mode : Mode) (bytes rest : List ℕ) → IsQuoted bytes → Reaches mode (Part sort.Quoted (length bytes)) bytes rest
quoted_whole mode bytes rest h =
    let text : bytes ++ rest ≡ h.quote ∷ (h.inside ++ h.quote ∷ rest) = ap (λ (xs : List ℕ). xs ++ rest) h.parts ∙ ap (λ (xs : List ℕ). h.quote ∷ xs) (append_assoc h.inside (h.quote ∷ []) rest) in
    let each = both_parts is_text_byte (λ b. not (b == h.quote)) h.inside h.each in
    let place = found_at (λ c. c == h.quote) h.inside h.quote rest each.1 (eq-eqb h.quote h.quote refl) in
    let front = take-append_seam h.inside (h.quote ∷ rest) in
    let size : length h.inside + 2 ≡ length bytes = omega (arith, ap (λ (xs : List ℕ). length xs) h.parts, length-append h.inside (h.quote ∷ [])) in (
      Part sort.Quoted (length h.inside + 2),
      ap (piece_at mode) text ∙ (quote_piece mode h.quote (h.inside ++ h.quote ∷ rest) h.opens ∙ (ap (λ o. quoted_of o (h.inside ++ h.quote ∷ rest)) place ∙ cond-true (list_all is_text_byte (take (length h.inside) (h.inside ++ h.quote ∷ rest))) _ _ (ap (list_all is_text_byte) front ∙ each.0))),
      inl (ap (λ n. Part sort.Quoted n) size),
    )

number_most_by : (n m : ℕ) (t : Bool) → n ≤ (if t then n + 1 + m else n)
number_most_by n m true = omega arith
number_most_by n m false = omega arith

-- no less than the digits at the front
number_most : (text : List ℕ) (f : Front is_digit text) → length f.front ≤ number_len text
number_most text f = rw (number_len_is text f) (number_most_by (length f.front) (count_front is_digit (drop 1 f.rest)) (begins_with (λ c. c == 46) f.rest && begins_with is_digit (drop 1 f.rest)))

digits_whole : (mode : Mode) (bytes rest : List ℕ) → AreDigits bytes → Reaches mode (Part sort.Number (length bytes)) bytes rest
digits_whole mode [] rest h = absurd (omega (arith, h.0))
digits_whole mode (b ∷ bytes) rest h =
    let f = fronted is_digit ((b ∷ bytes) ++ rest) in
    let enough : suc (length bytes) ≤ number_len ((b ∷ bytes) ++ rest) = omega (arith, number_most ((b ∷ bytes) ++ rest) f, f.size, count_most is_digit (b ∷ bytes) rest h.1) in
    reached mode (λ n. Part sort.Number n) (suc (length bytes)) (number_len ((b ∷ bytes) ++ rest)) (b ∷ bytes) rest refl (digit_piece mode b (bytes ++ rest) (first_so (is_digit b) (list_all is_digit bytes) h.1)) refl enough

begins_more : (fraction rest : List ℕ) → AreDigits fraction → begins_with is_digit (fraction ++ rest) ≡ true
begins_more [] rest h = absurd (omega (arith, h.0))
begins_more (c ∷ fraction) rest h = first_so (is_digit c) (list_all is_digit fraction) h.1

point_whole : (mode : Mode) (whole fraction rest : List ℕ) → AreDigits whole → AreDigits fraction → Reaches mode (Part sort.Number (length (whole ++ 46 ∷ fraction))) (whole ++ 46 ∷ fraction) rest
point_whole mode [] fraction rest h k = absurd (omega (arith, h.0))
point_whole mode (b ∷ whole) fraction rest h k =
    let text : ((b ∷ whole) ++ 46 ∷ fraction) ++ rest ≡ (b ∷ whole) ++ 46 ∷ (fraction ++ rest) = append_assoc (b ∷ whole) (46 ∷ fraction) rest in
    let f : Front is_digit ((b ∷ whole) ++ 46 ∷ (fraction ++ rest)) = record { front = b ∷ whole; rest = 46 ∷ (fraction ++ rest); parts = refl; each = h.1; size = count_just is_digit (b ∷ whole) 46 (fraction ++ rest) h.1 refl } in
    let len : number_len ((b ∷ whole) ++ 46 ∷ (fraction ++ rest)) ≡ suc (length whole) + 1 + count_front is_digit (fraction ++ rest) = number_len_is ((b ∷ whole) ++ 46 ∷ (fraction ++ rest)) f ∙ cond-true (begins_with is_digit (fraction ++ rest)) _ _ (begins_more fraction rest k) in
    let found = ap (piece_at mode) text ∙ digit_piece mode b (whole ++ 46 ∷ (fraction ++ rest)) (first_so (is_digit b) (list_all is_digit whole) h.1) in
    reached mode (λ n. Part sort.Number n) (length ((b ∷ whole) ++ 46 ∷ fraction)) (number_len ((b ∷ whole) ++ 46 ∷ (fraction ++ rest))) ((b ∷ whole) ++ 46 ∷ fraction) rest refl found refl
    (omega (arith, len, length-append (b ∷ whole) (46 ∷ fraction), count_most is_digit fraction rest k.1))

number_whole : (mode : Mode) (bytes rest : List ℕ) → IsNumber bytes → Reaches mode (Part sort.Number (length bytes)) bytes rest
number_whole mode bytes rest h =
    elim h [
      | inl a ↦ digits_whole mode bytes rest a
      | inr b ↦ subst (λ (xs : List ℕ). Reaches mode (Part sort.Number (length xs)) xs rest) (sym b.2) (point_whole mode b.0 b.1 rest b.3 b.4)
    ]

-- ---- signs

-- what opens a comment is no sign
abbrev pub NoComment : List ℕ → List ℕ → Type 0
NoComment bytes rest = (after : List ℕ) → bytes ++ rest ≡ codes "/*" ++ after → IsSeparator bytes

abbrev SignReaches : List ℕ → Type 0
SignReaches bytes = (mode : Mode) (rest : List ℕ) → NoComment bytes rest → Reaches mode (Part sort.Sign (length bytes)) bytes rest

double_reaches : (b c : ℕ) → ((mode : Mode) (rest : List ℕ) → piece_at mode (b ∷ c ∷ rest) ≡ Some (Part sort.Sign 2)) → SignReaches (b ∷ c ∷ [])
double_reaches b c found mode rest h = (Part sort.Sign 2, found mode rest, inl refl)

pub by_mode : (P : Mode → Type 0) → P Osh → P Inner → (mode : Mode) → P mode
by_mode P a b Osh = a
by_mode P a b Inner = b

pub comment_byte : (b : ℕ) (rest : List ℕ) → opens_comment b rest ≡ true → (after : List ℕ) × (b ∷ rest ≡ codes "/*" ++ after)
comment_byte b [] h = absurd (let k = second_so (b == 47) (begins_with (λ c. c == 42) []) h in cc)
comment_byte b (c ∷ rest) h =
    let slash : b ≡ 47 = eqb-true b 47 (first_so (b == 47) (begins_with (λ c. c == 42) (c ∷ rest)) h) in
    let star : c ≡ 42 = eqb-true c 42 (second_so (b == 47) (begins_with (λ c. c == 42) (c ∷ rest)) h) in
    (rest, ap (λ (x : ℕ). x ∷ c ∷ rest) slash ∙ ap (λ (x : ℕ). 47 ∷ x ∷ rest) star)

no_separator : (b : ℕ) → is_blank b ≡ false → eqb b 35 ≡ false → IsSeparator (b ∷ []) → ⊥
no_separator b blank hash h =
    elim h [
      | inl a ↦ true≢false (sym a.0 ∙ blank)
      | inr a ↦ elim a [
        | inl l ↦ eqb-false b 35 hash l.0
        | inr c ↦ (let size = ap (λ (xs : List ℕ). length xs) c.parts in omega (arith, size, length-append c.inside (codes "*/")))
      ]
    ]

opt_longer : (b : ℕ) (rest : List ℕ) → begins_with is_letter rest ≡ true → 1 < count_front is_opt_byte rest + 1
opt_longer b [] h = absurd cc
opt_longer b (c ∷ rest) h = omega (arith, counted is_opt_byte c rest (letter_opt c h))

option_letter : (mode : Mode) (b : ℕ) (rest : List ℕ) → opens_option mode b rest ≡ true → begins_with is_letter rest ≡ true
option_letter mode b rest h = second_so (is_option_mode mode && (b == 45)) (begins_with is_letter rest) h

sign_behind : (mode : Mode) (b : ℕ) (rest : List ℕ) (s t : Bool) → is_sign_byte b ≡ true → opens_option mode b rest ≡ s → begins_with (is_double_sign b) rest ≡ t → (if s then Some (Part sort.Opt (count_front is_opt_byte rest + 1)) else sign_of b rest) ≡ piece_from mode b rest → Reaches mode (Part sort.Sign 1) (b ∷ []) rest
sign_behind mode b rest true t g s d e = (Part sort.Opt (count_front is_opt_byte rest + 1), sym e, inr (opt_longer b rest (option_letter mode b rest s)))
sign_behind mode b rest false true g s d e = (Part sort.Sign 2, sym e ∙ cond-true (begins_with (is_double_sign b) rest) _ _ d, inr (lit< tt))
sign_behind mode b rest false false g s d e = (Part sort.Sign 1, sym e ∙ rw (d, g) refl, inl refl)

single_by : (mode : Mode) (b : ℕ) (rest : List ℕ) (r : Bool) → opens_comment b rest ≡ r → is_blank b ≡ false → eqb b 35 ≡ false → opens_word b ≡ false → is_digit b ≡ false → opens_quoted b ≡ false → is_sign_byte b ≡ true → NoComment (b ∷ []) rest → Reaches mode (Part sort.Sign 1) (b ∷ []) rest
single_by mode b rest true r blank hash word digit quote sign h =
    let c = comment_byte b rest r in
    absurd (no_separator b blank hash (h c.0 c.1))
single_by mode b rest false r blank hash word digit quote sign h =
    sign_behind mode b rest (opens_option mode b rest) (begins_with (is_double_sign b) rest) sign refl refl (rw (blank, hash, r, word, digit, quote) refl)

single : (b : ℕ) → is_blank b ≡ false → eqb b 35 ≡ false → opens_word b ≡ false → is_digit b ≡ false → opens_quoted b ≡ false → is_sign_byte b ≡ true → SignReaches (b ∷ [])
single b blank hash word digit quote sign mode rest h = single_by mode b rest (opens_comment b rest) refl blank hash word digit quote sign h

signs_reach : AllByRecursion SignReaches signs
signs_reach = (
  double_reaches 61 61 (λ mode rest. by_mode (λ m. piece_at m (61 ∷ 61 ∷ rest) ≡ Some (Part sort.Sign 2)) refl refl mode),
  (
    double_reaches 33 61 (λ mode rest. by_mode (λ m. piece_at m (33 ∷ 61 ∷ rest) ≡ Some (Part sort.Sign 2)) refl refl mode),
    (
      double_reaches 60 61 (λ mode rest. by_mode (λ m. piece_at m (60 ∷ 61 ∷ rest) ≡ Some (Part sort.Sign 2)) refl refl mode),
      (
        double_reaches 62 61 (λ mode rest. by_mode (λ m. piece_at m (62 ∷ 61 ∷ rest) ≡ Some (Part sort.Sign 2)) refl refl mode),
        (
          double_reaches 38 38 (λ mode rest. by_mode (λ m. piece_at m (38 ∷ 38 ∷ rest) ≡ Some (Part sort.Sign 2)) refl refl mode),
          (
            double_reaches 124 124 (λ mode rest. by_mode (λ m. piece_at m (124 ∷ 124 ∷ rest) ≡ Some (Part sort.Sign 2)) refl refl mode),
            (
              single 40 refl refl refl refl refl refl,
              (
                single 41 refl refl refl refl refl refl,
                (
                  single 91 refl refl refl refl refl refl,
                  (
                    single 93 refl refl refl refl refl refl,
                    (
                      single 123 refl refl refl refl refl refl,
                      (
                        single 125 refl refl refl refl refl refl,
                        (
                          single 44 refl refl refl refl refl refl,
                          (
                            single 59 refl refl refl refl refl refl,
                            (
                              single 58 refl refl refl refl refl refl,
                              (
                                single 124 refl refl refl refl refl refl,
                                (
                                  single 60 refl refl refl refl refl refl,
                                  (
                                    single 62 refl refl refl refl refl refl,
                                    (
                                      single 61 refl refl refl refl refl refl,
                                      (
                                        single 43 refl refl refl refl refl refl,
                                        (
                                          single 45 refl refl refl refl refl refl,
                                          (
                                            single 42 refl refl refl refl refl refl,
                                            (single 47 refl refl refl refl refl refl, (single 37 refl refl refl refl refl refl, (single 33 refl refl refl refl refl refl, tt))),
                                          ),
                                        ),
                                      ),
                                    ),
                                  ),
                                ),
                              ),
                            ),
                          ),
                        ),
                      ),
                    ),
                  ),
                ),
              ),
            ),
          ),
        ),
      ),
    ),
  ),
)

pub bytes_among : (P : List ℕ → Type 0) (bytes : List ℕ) (all : List (List ℕ)) → list_any (bytes_eq bytes) all ≡ true → AllByRecursion P all → P bytes
bytes_among P bytes [] h each = absurd cc
bytes_among P bytes (x ∷ all) h each =
    elim (or_so (bytes_eq bytes x) (list_any (bytes_eq bytes) all) h) [
      | inl e ↦ subst P (sym (same_bytes bytes x e)) each.0
      | inr e ↦ bytes_among P bytes all e each.1
    ]

-- ---- all kinds

separator_whole : (mode : Mode) (bytes rest : List ℕ) → IsSeparator bytes → Reaches mode (Gap (length bytes)) bytes rest
separator_whole mode bytes rest h =
    elim h [
      | inl a ↦ blank_whole mode bytes rest a
      | inr a ↦ elim a [
        | inl l ↦ line_whole mode bytes rest l
        | inr c ↦ comment_reached mode bytes rest c
      ]
    ]

token_whole : (mode : Mode) (kind : Sort) (bytes rest : List ℕ) → IsToken mode kind bytes → NoComment bytes rest → Reaches mode (Part kind (length bytes)) bytes rest
token_whole mode sort.Word bytes rest h c = word_whole mode bytes rest h
token_whole Osh sort.Opt bytes rest h c = opt_whole bytes rest h
token_whole Inner sort.Opt bytes rest h c = absurd h
token_whole mode sort.Number bytes rest h c = number_whole mode bytes rest h
token_whole mode sort.Quoted bytes rest h c = quoted_whole mode bytes rest h
token_whole mode sort.Sign bytes rest h c = bytes_among SignReaches bytes signs h signs_reach mode rest c

pub piece_whole : (mode : Mode) (q : Piece) (bytes rest : List ℕ) → IsPiece mode q bytes → NoComment bytes rest → Reaches mode q bytes rest
piece_whole mode (Gap n) bytes rest h c = subst (λ k. Reaches mode (Gap k) bytes rest) h.0 (separator_whole mode bytes rest h.1)
piece_whole mode (Part kind n) bytes rest h c = subst (λ k. Reaches mode (Part kind k) bytes rest) h.0 (token_whole mode kind bytes rest h.1 c)
