-- Printed text is lexed as the tokens that it was printed of.
use Rattle.std.proofs.Common.{◌≡◌, ◌<◌, ◌+◌, ◌-◌, ℕ, suc, List, [], ◌∷◌, ◌++◌, length, drop, map, Some, None, Bool, true, false, refl, sym, ap, ◌∙◌, arith, subst, append_assoc, length-append}
use Rattle.std.specs.Prelude.{◌||◌, ◌==◌}
use Rattle.std.specs.List.{list_all}
use Rattle.std.specs.Cmp.{first_so, second_so}
use Rattle.std.proofs.lemmas.Bool.{cond-true}
use Rattle.std.proofs.lemmas.List.{append-nil}
use Rattle.std.proofs.Math.Seq.{drop-append_seam, take-append_seam}
use Rattle.ds_lex.specs.declared.token.Mode.{Mode}
use Rattle.ds_lex.specs.declared.token.Sort.{Sort}
use Rattle.ds_lex.specs.declared.token.Sort.TheVariants as sort
use Rattle.ds_lex.specs.declared.token.Piece.TheVariants.{Part}
use Rattle.ds_lex.specs.Pieces.{is_blank, is_digit, is_word_byte, is_double_sign, begins_with, count_front, number_len, opens_word, piece_at}
use Rattle.ds_lex.specs.Lexed.{Lexed, lexed_from}
use Rattle.ds_lex.specs.Lexemes.{Lexeme, lexeme_of, part}
use Rattle.ds_lex.specs.Phrases.{Phrase, word, token, nothing, ◌~◌}
use Rattle.ds_lex.proofs.Fronts.{Front, counted, uncounted, neither}
use Rattle.ds_lex.proofs.TokensFound.{number_len_is}
use Rattle.ds_lex.proofs.TokensWhole.{word_piece, digit_piece}
use Rattle.ds_lex.proofs.Lexing.{part_step, gap_step}

-- Behind the bytes `front` the text goes on with `rest`, which is these tokens.
pub record Lexes (mode : Mode) (front rest : List ℕ) (ts : List Lexeme) : Type 0 where
  pub tokens : map (lexeme_of (front ++ rest)) (lexed_from mode (length front) 0 rest).tokens ≡ ts
  pub whole : (lexed_from mode (length front) 0 rest).bad ≡ None

pub lexes_end : (mode : Mode) (front : List ℕ) → Lexes mode front [] []
lexes_end mode front = record { tokens = refl; whole = refl }

-- the bytes of a token in the middle of a text
middle : (front x rest : List ℕ) → part (front ++ (x ++ rest)) (length front) (length front + length x) ≡ x
middle front x rest =
    let n : length front + length x - length front ≡ length x = omega arith in
    rw (n, drop-append_seam front (x ++ rest)) (take-append_seam x rest)

-- the tokens from a place on
abbrev behind : Mode → List ℕ → ℕ → List ℕ → List Lexeme
behind mode text at rest = map (lexeme_of text) (lexed_from mode at 0 rest).tokens

-- text, place and rest, each in another way
same_behind : (mode : Mode) (text more : List ℕ) (at place : ℕ) (rest after : List ℕ) → text ≡ more → at ≡ place → rest ≡ after → behind mode text at rest ≡ behind mode more place after
same_behind mode text more at place rest after t p r = ap (λ (xs : List ℕ). behind mode xs at rest) t ∙ (ap (λ n. behind mode more n rest) p ∙ ap (behind mode more place) r)

pub lexes_token : (mode : Mode) (kind : Sort) (front x rest : List ℕ) (ts : List Lexeme) → 0 < length x → piece_at mode (x ++ rest) ≡ Some (Part kind (length x)) → Lexes mode (front ++ x) rest ts → Lexes mode front (x ++ rest) (record { at = length front; sort = kind; bytes = x } ∷ ts)
lexes_token mode kind front x rest ts some e l =
    let step = part_step mode (length front) (length x) kind (x ++ rest) some e in
    let after : drop (length x) (x ++ rest) ≡ rest = drop-append_seam x rest in
    let place : length front + length x ≡ length (front ++ x) = sym (length-append front x) in
    let text : front ++ (x ++ rest) ≡ (front ++ x) ++ rest = sym (append_assoc front x rest) in
    record {
      tokens =
          ap (λ (k : Lexed). map (lexeme_of (front ++ (x ++ rest))) k.tokens) step
          ∙ (ap (λ (bs : List ℕ). let t : Lexeme = record { at = length front; sort = kind; bytes = bs } in t ∷ behind mode (front ++ (x ++ rest)) (length front + length x) (drop (length x) (x ++ rest))) (middle front x rest)
          ∙ ap (λ (us : List Lexeme). let t : Lexeme = record { at = length front; sort = kind; bytes = x } in t ∷ us) (same_behind mode (front ++ (x ++ rest)) ((front ++ x) ++ rest) (length front + length x) (length (front ++ x)) (drop (length x) (x ++ rest)) rest text place after ∙ l.tokens));
      whole = ap (λ (k : Lexed). k.bad) step ∙ (ap (λ n. (lexed_from mode n 0 (drop (length x) (x ++ rest))).bad) place ∙ (ap (λ (bs : List ℕ). (lexed_from mode (length (front ++ x)) 0 bs).bad) after ∙ l.whole));
    }

pub lexes_gap : (mode : Mode) (front rest : List ℕ) (b : ℕ) (ts : List Lexeme) → is_blank b ≡ true → Lexes mode (front ++ b ∷ []) rest ts → Lexes mode front (b ∷ rest) ts
lexes_gap mode front rest b ts blank l =
    let one : 0 < 1 = omega arith in
    let step = gap_step mode (length front) 1 (b ∷ rest) one (cond-true (is_blank b) _ _ blank) in
    let place : length front + 1 ≡ length (front ++ b ∷ []) = sym (length-append front (b ∷ [])) in
    let text : front ++ b ∷ rest ≡ (front ++ b ∷ []) ++ rest = sym (append_assoc front (b ∷ []) rest) in
    record {
      tokens = ap (λ (k : Lexed). map (lexeme_of (front ++ b ∷ rest)) k.tokens) step ∙ (same_behind mode (front ++ b ∷ rest) ((front ++ b ∷ []) ++ rest) (length front + 1) (length (front ++ b ∷ [])) rest rest text place refl ∙ l.tokens);
      whole = ap (λ (k : Lexed). k.bad) step ∙ (ap (λ n. (lexed_from mode n 0 rest).bad) place ∙ l.whole);
    }

-- ---- pieces before what doesn't belong to them

-- the next byte, where there is one, doesn't pass
abbrev pub Fails : (ℕ → Bool) → List ℕ → Type 0
Fails p [] = Unit {0}
Fails p (b ∷ bytes) = p b ≡ false

pub count_until : (p : ℕ → Bool) (front after : List ℕ) → list_all p front ≡ true → Fails p after → count_front p (front ++ after) ≡ length front
count_until p [] [] h f = refl
count_until p [] (b ∷ after) h f = uncounted p b after f
count_until p (c ∷ front) after h f = counted p c (front ++ after) (first_so (p c) (list_all p front) h) ∙ ap suc (count_until p front after (second_so (p c) (list_all p front) h) f)

word_before : (mode : Mode) (b : ℕ) (bytes after : List ℕ) → opens_word b ≡ true → list_all is_word_byte bytes ≡ true → Fails is_word_byte after → piece_at mode ((b ∷ bytes) ++ after) ≡ Some (Part sort.Word (length (b ∷ bytes)))
word_before mode b bytes after o h f =
    let size : count_front is_word_byte (bytes ++ after) + 1 ≡ suc (length bytes) = omega (arith, count_until is_word_byte bytes after h f) in
    word_piece mode b (bytes ++ after) o ∙ ap (λ n. Some (Part sort.Word n)) size

-- neither a digit nor the point
abbrev pub is_number_byte : ℕ → Bool
is_number_byte b = is_digit b || (b == 46)

no_point : (front after : List ℕ) → Fails is_number_byte after → begins_with (λ c. c == 46) after ≡ false
no_point front [] f = refl
no_point front (b ∷ after) f = (neither (is_digit b) (b == 46) f).1

no_digit : (after : List ℕ) → Fails is_number_byte after → Fails is_digit after
no_digit [] f = tt
no_digit (b ∷ after) f = (neither (is_digit b) (b == 46) f).0

number_before : (mode : Mode) (b : ℕ) (bytes after : List ℕ) → list_all is_digit (b ∷ bytes) ≡ true → Fails is_number_byte after → piece_at mode ((b ∷ bytes) ++ after) ≡ Some (Part sort.Number (length (b ∷ bytes)))
number_before mode b bytes after h f =
    let front : Front is_digit ((b ∷ bytes) ++ after) = record { front = b ∷ bytes; rest = after; parts = refl; each = h; size = count_until is_digit (b ∷ bytes) after h (no_digit after f) } in
    let size : number_len ((b ∷ bytes) ++ after) ≡ suc (length bytes) = number_len_is ((b ∷ bytes) ++ after) front ∙ rw (no_point (b ∷ bytes) after f) refl in
    digit_piece mode b (bytes ++ after) (first_so (is_digit b) (list_all is_digit bytes) h) ∙ ap (λ n. Some (Part sort.Number n)) size

-- ---- phrases

-- The bytes print the phrase, where what follows them is one of `After`.
abbrev pub Prints : Mode → Phrase → List ℕ → (List ℕ → Type 0) → Type 0
Prints mode P x After = (front after : List ℕ) (ts : List Lexeme) → After after → Lexes mode (front ++ x) after ts → (us : List Lexeme) × Lexes mode front (x ++ after) us × P us ts

abbrev pub anything : List ℕ → Type 0
anything after = Unit {0}

pub prints_nothing : (mode : Mode) → Prints mode nothing [] anything
prints_nothing mode front after ts a l = (ts, subst (λ (xs : List ℕ). Lexes mode xs after ts) (append-nil front) l, refl)

pub prints_then : (mode : Mode) (P Q : Phrase) (x y : List ℕ) (A B : List ℕ → Type 0) → Prints mode P x A → Prints mode Q y B → ((after : List ℕ) → B after → A (y ++ after)) → Prints mode (P ~ Q) (x ++ y) B
prints_then mode P Q x y A B p q h front after ts b l =
    let second = q (front ++ x) after ts b (subst (λ (xs : List ℕ). Lexes mode xs after ts) (sym (append_assoc front x y)) l) in
    let first = p front (y ++ after) second.0 (h after b) second.1 in
    (first.0, subst (λ (xs : List ℕ). Lexes mode front xs first.0) (sym (append_assoc x y after)) first.1, (second.0, first.2, second.2))

-- a blank before the phrase, or behind it
pub blank_before : (mode : Mode) (P : Phrase) (b : ℕ) (x : List ℕ) (A : List ℕ → Type 0) → is_blank b ≡ true → Prints mode P x A → Prints mode P (b ∷ x) A
blank_before mode P b x A blank p front after ts a l =
    let more = p (front ++ b ∷ []) after ts a (subst (λ (xs : List ℕ). Lexes mode xs after ts) (sym (append_assoc front (b ∷ []) x)) l) in
    (more.0, lexes_gap mode front (x ++ after) b more.0 blank more.1, more.2)

pub prints_token : (mode : Mode) (kind : Sort) (Is : List ℕ → Type 0) (x : List ℕ) (A : List ℕ → Type 0) → 0 < length x → Is x → ((after : List ℕ) → A after → piece_at mode (x ++ after) ≡ Some (Part kind (length x))) → Prints mode (token kind Is) x A
prints_token mode kind Is x A some is e front after ts a l = (record { at = length front; sort = kind; bytes = x } ∷ ts, lexes_token mode kind front x after ts some (e after a) l, (refl, is, refl))

pub prints_piece : (mode : Mode) (kind : Sort) (x : List ℕ) (A : List ℕ → Type 0) → 0 < length x → ((after : List ℕ) → A after → piece_at mode (x ++ after) ≡ Some (Part kind (length x))) → Prints mode (word x) x A
prints_piece mode kind x A some e front after ts a l = (record { at = length front; sort = kind; bytes = x } ∷ ts, lexes_token mode kind front x after ts some (e after a) l, (refl, refl))

pub prints_word : (mode : Mode) (b : ℕ) (bytes : List ℕ) → opens_word b ≡ true → list_all is_word_byte bytes ≡ true → Prints mode (word (b ∷ bytes)) (b ∷ bytes) (Fails is_word_byte)
prints_word mode b bytes o h = prints_piece mode sort.Word (b ∷ bytes) (Fails is_word_byte) (omega arith) (λ after f. word_before mode b bytes after o h f)

pub prints_name : (mode : Mode) (b : ℕ) (bytes : List ℕ) (Is : List ℕ → Type 0) → Is (b ∷ bytes) → opens_word b ≡ true → list_all is_word_byte bytes ≡ true → Prints mode (token sort.Word Is) (b ∷ bytes) (Fails is_word_byte)
prints_name mode b bytes Is is o h = prints_token mode sort.Word Is (b ∷ bytes) (Fails is_word_byte) (omega arith) is (λ after f. word_before mode b bytes after o h f)

pub prints_number : (mode : Mode) (bytes : List ℕ) (Is : List ℕ → Type 0) → Is bytes → 0 < length bytes → list_all is_digit bytes ≡ true → Prints mode (token sort.Number Is) bytes (Fails is_number_byte)
prints_number mode [] Is is some h = absurd (omega arith)
prints_number mode (b ∷ bytes) Is is some h = prints_token mode sort.Number Is (b ∷ bytes) (Fails is_number_byte) some is (λ after f. number_before mode b bytes after h f)

-- the next byte makes no other sign of this one
abbrev pub Ends : ℕ → List ℕ → Type 0
Ends b after = begins_with (is_double_sign b) after ≡ false

-- a sign that opens neither a comment nor an option
pub prints_sign : (mode : Mode) (b : ℕ) → ((mode : Mode) (after : List ℕ) → Ends b after → piece_at mode (b ∷ after) ≡ Some (Part sort.Sign 1)) → Prints mode (word (b ∷ [])) (b ∷ []) (Ends b)
prints_sign mode b e = prints_piece mode sort.Sign (b ∷ []) (Ends b) (omega arith) (λ after f. e mode after f)
