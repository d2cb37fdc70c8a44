-- The tokens of a text are tokens of the grammar, and what follows of that for their sorts.
use Rattle.std.proofs.Common.{◌≡◌, ◌<◌, ◌+◌, ◌-◌, inl, inr, ℕ, List, [], ◌∷◌, ◌++◌, length, map, take, drop, true, false, refl, sym, ap, ◌∙◌, subst, append_assoc, arith, length-append}
use Rattle.std.specs.Prelude.{◌==◌}
use Rattle.std.specs.List.{AllByRecursion, list_any, list_all}
use Rattle.std.specs.Str.{bytes_eq}
use Rattle.std.specs.Cmp.{first_so}
use Rattle.std.proofs.lemmas.Bool.{false_from_ne_true}
use Rattle.std.proofs.Math.Seq.{drop-append_seam, take-append_seam}
use Rattle.ds_lex.specs.declared.token.Mode.TheVariants.{Osh}
use Rattle.ds_lex.specs.declared.token.Sort.{Sort}
use Rattle.ds_lex.specs.declared.token.Sort.TheVariants as sort
use Rattle.ds_lex.specs.declared.token.Piece.{Piece}
use Rattle.ds_lex.specs.declared.token.Piece.TheVariants.{Gap, Part}
use Rattle.ds_lex.specs.Pieces.{is_digit, opens_word, opens_quoted}
use Rattle.ds_lex.specs.Lexemes.{Lexeme, part, lexeme_of, lexed_text, limited_text}
use Rattle.ds_lex.specs.Tokens.{IsWord, IsNumber, IsToken, signs, IsCut, tokens_from}
use Rattle.ds_lex.proofs.Readers.{same_bytes}
use Rattle.ds_lex.proofs.LexedLaws.{lexed_is}
use Rattle.osh_read.specs.Options.{is_opt, is_value}

abbrev pub Sound : Lexeme → Type 0
Sound t = IsToken Osh t.sort t.bytes

abbrev pub AllSound : List Lexeme → Type 0
AllSound ts = AllByRecursion Sound ts

middle : (front x rest : List ℕ) → part (front ++ (x ++ rest)) (length front) (length front + length x) ≡ x
middle front x rest =
    let n : length front + length x - length front ≡ length x = omega arith in
    rw (n, drop-append_seam front (x ++ rest)) (take-append_seam x rest)

-- the bytes at the front, and what is left behind them
piece_at_front : (n : ℕ) (us bytes rest : List ℕ) → us ≡ bytes ++ rest → length bytes ≡ n → drop n us ≡ rest
piece_at_front n us bytes rest e l = ap (λ m. drop m us) (sym l) ∙ (ap (drop (length bytes)) e ∙ drop-append_seam bytes rest)

further : (text pre us bytes rest : List ℕ) → text ≡ pre ++ us → us ≡ bytes ++ rest → text ≡ (pre ++ bytes) ++ rest
further text pre us bytes rest e p = e ∙ (ap (λ (xs : List ℕ). pre ++ xs) p ∙ sym (append_assoc pre bytes rest))

longer : (pre bytes : List ℕ) (n : ℕ) → length bytes ≡ n → length (pre ++ bytes) ≡ length pre + n
longer pre bytes n l = length-append pre bytes ∙ ap (λ m. length pre + m) l

cut_sound : (text pre us : List ℕ) (pieces : List Piece) (rest : List ℕ) → text ≡ pre ++ us → IsCut Osh us pieces rest → AllSound (map (lexeme_of text) (tokens_from (length pre) pieces))
cut_sound text pre us [] rest e c = tt
cut_sound text pre us (Gap n ∷ pieces) rest e c =
    let s = c.0 in
    subst (λ k. AllSound (map (lexeme_of text) (tokens_from k pieces))) (longer pre s.bytes n s.piece.0)
    (cut_sound text (pre ++ s.bytes) s.rest pieces rest (further text pre us s.bytes s.rest e s.parts) (subst (λ (xs : List ℕ). IsCut Osh xs pieces rest) (piece_at_front n us s.bytes s.rest s.parts s.piece.0) c.1))
cut_sound text pre us (Part kind n ∷ pieces) rest e c =
    let s = c.0 in
    let more = subst (λ k. AllSound (map (lexeme_of text) (tokens_from k pieces))) (longer pre s.bytes n s.piece.0)
    (cut_sound text (pre ++ s.bytes) s.rest pieces rest (further text pre us s.bytes s.rest e s.parts) (subst (λ (xs : List ℕ). IsCut Osh xs pieces rest) (piece_at_front n us s.bytes s.rest s.parts s.piece.0) c.1)) in
    let whole : text ≡ pre ++ (s.bytes ++ s.rest) = e ∙ ap (λ (xs : List ℕ). pre ++ xs) s.parts in
    let bytes : part text (length pre) (length pre + n) ≡ s.bytes = ap (λ m. part text (length pre) (length pre + m)) (sym s.piece.0) ∙ (ap (λ (xs : List ℕ). part xs (length pre) (length pre + length s.bytes)) whole ∙ middle pre s.bytes s.rest) in
    (subst (IsToken Osh kind) (sym bytes) s.piece.1, more)

text_sound : (text : List ℕ) → AllSound (lexed_text Osh text).lexemes
text_sound text =
    let l = lexed_is Osh text in
    subst (λ ts. AllSound (map (lexeme_of text) ts)) (sym l.tokens) (cut_sound text [] text l.pieces l.rest refl l.cut)

pub limited_sound : (bytes : List ℕ) → AllSound (limited_text Osh bytes).lexemes
unfolding limited_text
limited_sound bytes = text_sound (take 1_048_576 bytes)

-- ---- signs and words

-- neither an option nor a value
abbrev pub Plain : Sort → Type 0
Plain s = (is_opt s ≡ false) × (is_value s ≡ false)

no_digits : (b : ℕ) → is_digit b ≡ false → IsNumber (b ∷ []) → ⊥
no_digits b d h =
    elim h [
      | inl a ↦ (let k = first_so (is_digit b) true a.1 in absurd cc)
      | inr c ↦ (let len = ap length c.2 ∙ length-append c.0 (46 ∷ c.1) in let some = c.3.0 in absurd (omega arith))
    ]

plain_by : (s : Sort) (b : ℕ) → opens_word b ≡ false → is_digit b ≡ false → IsToken Osh s (b ∷ []) → Plain s
plain_by sort.Word b w d h = let k = h.0 in absurd cc
plain_by sort.Opt b w d h = absurd h
plain_by sort.Number b w d h = absurd (no_digits b d h)
plain_by sort.Quoted b w d h = let len = ap length h.parts in let more = length-append h.inside (h.quote ∷ []) in absurd (omega arith)
plain_by sort.Sign b w d h = (refl, refl)

-- a token of this one byte
pub sign_plain : (t : Lexeme) (b : ℕ) → opens_word b ≡ false → is_digit b ≡ false → t.bytes ≡ b ∷ [] → Sound t → Plain t.sort
sign_plain t b w d e s = plain_by t.sort b w d (subst (IsToken Osh t.sort) e s)

no_number : (b : ℕ) (bytes : List ℕ) → is_digit b ≡ false → IsNumber (b ∷ bytes) → ⊥
no_number b bytes d h =
    elim h [
      | inl a ↦ (let k = first_so (is_digit b) (list_all is_digit bytes) a.1 in absurd cc)
      | inr c ↦ number_begun b bytes c.0 c.1 d c.2 c.3
    ]
  where
    number_begun : (b : ℕ) (bytes whole fraction : List ℕ) → is_digit b ≡ false → b ∷ bytes ≡ whole ++ 46 ∷ fraction → (0 < length whole) × (list_all is_digit whole ≡ true) → ⊥
    number_begun b bytes [] fraction d e a = let k = a.0 in absurd (omega arith)
    number_begun b bytes (c ∷ whole) fraction d e a =
        let k = first_so (is_digit c) (list_all is_digit whole) a.1 in
        let same : b ≡ c = cc in
        let t : is_digit b ≡ true = ap is_digit same ∙ k in
        absurd cc

keyword_by : (s : Sort) (b : ℕ) (bytes : List ℕ) → is_digit b ≡ false → opens_quoted b ≡ false → (b == 45) ≡ false → list_any (bytes_eq (b ∷ bytes)) signs ≡ false → IsToken Osh s (b ∷ bytes) → s ≡ sort.Word
keyword_by sort.Word b bytes d q o n h = refl
keyword_by sort.Opt b [] d q o n h = absurd h
keyword_by sort.Opt b (c ∷ bytes) d q o n h = let k = ap (λ x. x == 45) h.0 in absurd cc
keyword_by sort.Number b bytes d q o n h = absurd (no_number b bytes d h)
keyword_by sort.Quoted b bytes d q o n h = let p = h.parts in let same : b ≡ h.quote = cc in let k : opens_quoted b ≡ true = ap opens_quoted same ∙ h.opens in absurd cc
keyword_by sort.Sign b bytes d q o n h = absurd cc

-- a token of these bytes is a word
pub keyword_sort : (t : Lexeme) (b : ℕ) (bytes : List ℕ) → is_digit b ≡ false → opens_quoted b ≡ false → (b == 45) ≡ false → list_any (bytes_eq (b ∷ bytes)) signs ≡ false → t.bytes ≡ b ∷ bytes → Sound t → t.sort ≡ sort.Word
keyword_sort t b bytes d q o n e s = keyword_by t.sort b bytes d q o n (subst (IsToken Osh t.sort) e s)

-- a word is no sign of this byte
pub word_other : (t : Lexeme) (b : ℕ) → opens_word b ≡ false → t.sort ≡ sort.Word → Sound t → bytes_eq t.bytes (b ∷ []) ≡ false
word_other t b w e s =
    let is : IsWord t.bytes = subst (λ k. IsToken Osh k t.bytes) e s in
    false_from_ne_true (bytes_eq t.bytes (b ∷ [])) (λ k. (let h : IsWord (b ∷ []) = subst IsWord (same_bytes t.bytes (b ∷ []) k) is in let o = h.0 in absurd cc))
