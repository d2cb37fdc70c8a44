-- A column is printed in a set as in a schema, and a blank follows it.
use Rattle.std.proofs.Common.{◌≡◌, ◌<◌, ◌^◌, inl, inr, ℕ, List, [], ◌∷◌, ◌++◌, Bool, true, false, Some, refl, sym, arith, subst, append_assoc, eqb}
use Rattle.std.specs.Prelude.{codes, ◌==◌}
use Rattle.std.specs.List.{list_all}
use Rattle.std.specs.Cmp.{first_so, second_so}
use Rattle.std.specs.Fmt.{decimal, digits}
use Rattle.std.specs.Str.Parse.{IsNumeral, digits_value}
use Rattle.std.proofs.lemmas.Bool.{ne_eqb}
use Rattle.std.proofs.lemmas.Str.Parse.{digit_from_value}
use Rattle.std.proofs.lemmas.Fmt.{decimal_is_IsNumeral}
use Rattle.ds_value.specs.declared.kind.Kind.{Kind}
use Rattle.ds_value.specs.declared.kind.Kind.TheVariants as kind
use Rattle.ds_value.specs.Kinds.{IsKind, IsBits}
use Rattle.ds_lex.specs.declared.token.Mode.TheVariants.{Inner}
use Rattle.ds_lex.specs.declared.token.Sort.TheVariants as sort
use Rattle.ds_lex.specs.declared.token.Piece.TheVariants.{Part}
use Rattle.ds_lex.specs.Pieces.{is_opt_byte, is_word_byte, opens_word, piece_at}
use Rattle.ds_lex.specs.Phrases.{Phrase, word, token, nothing, nothing_where, ◌~◌, ◌<|>◌}
use Rattle.ds_lex.proofs.TokensWhole.{by_mode}
use Rattle.ds_lex.proofs.Printed.{Prints, Fails, is_number_byte, Ends, prints_nothing, prints_then, blank_before, prints_word, prints_name, prints_number, prints_sign, anything}
use Rattle.ds_schema.specs.declared.schema.Field.{Field}
use Rattle.ds_schema.specs.Schemas.{IsFieldName, IsField}
use Rattle.ds_schema.specs.SchemaText.{kind_text, nullable_text}
use Rattle.ds_schema.specs.SchemaGrammar.{number, kind_phrase, nullable_phrase, field_phrase}
use Rattle.ds_schema.proofs.SchemaPrinted.{narrow, comma, and_none, ends_any}
use Rattle.ds_schema.proofs.SizeReaders.{digits_all}

either_left : (P Q : Phrase) (x : List ℕ) (A : List ℕ → Type 0) → Prints Inner P x A → Prints Inner (P <|> Q) x A
either_left P Q x A p front after ts a l = let r = p front after ts a l in (r.0, r.1, inl r.2)

-- ---- signs

bracket_opens : Prints Inner (word (codes "[")) (codes "[") (Ends 91)
bracket_opens = prints_sign Inner 91 (λ mode after f. by_mode (λ m. piece_at m (91 ∷ after) ≡ Some (Part sort.Sign 1)) (rw f refl) (rw f refl) mode)

bracket_closes : Prints Inner (word (codes "]")) (codes "]") (Ends 93)
bracket_closes = prints_sign Inner 93 (λ mode after f. by_mode (λ m. piece_at m (93 ∷ after) ≡ Some (Part sort.Sign 1)) (rw f refl) (rw f refl) mode)

equals : Prints Inner (word (codes "=")) (codes "=") (Ends 61)
equals = prints_sign Inner 61 (λ mode after f. by_mode (λ m. piece_at m (61 ∷ after) ≡ Some (Part sort.Sign 1)) (rw f refl) (rw f refl) mode)

colon : Prints Inner (word (codes ":")) (codes ":") (Ends 58)
colon = prints_sign Inner 58 (λ mode after f. by_mode (λ m. piece_at m (58 ∷ after) ≡ Some (Part sort.Sign 1)) (rw f refl) (rw f refl) mode)

-- ---- types

-- a blank follows
pub BlankBehind : List ℕ → Type 0
BlankBehind after = (rest : List ℕ) × (after ≡ 32 ∷ rest)

pub blank_behind : (rest : List ℕ) → BlankBehind (32 ∷ rest)
unfolding BlankBehind
blank_behind rest = (rest, refl)

blank_ends : (p : ℕ → Bool) → p 32 ≡ false → (after : List ℕ) → BlankBehind after → Fails p after
unfolding BlankBehind
blank_ends p e after h = rw h.1 e

number_prints : (n : ℕ) → n < 2 ^ 64 → Prints Inner (number n) (decimal n) (Fails is_number_byte)
number_prints n h =
    let d = decimal_is_IsNumeral n h in
    prints_number Inner (decimal n) (λ bytes. IsNumeral 10 bytes × (digits_value 10 bytes ≡ n)) d d.0.0 (digits_all (decimal n) d.0.1)

plain_prints : (b : ℕ) (bytes : List ℕ) → opens_word b ≡ true → list_all is_word_byte bytes ≡ true → Prints Inner (word (b ∷ bytes)) (b ∷ bytes) BlankBehind
plain_prints b bytes o h = narrow (word (b ∷ bytes)) (b ∷ bytes) (Fails is_word_byte) BlankBehind (blank_ends is_word_byte refl) (prints_word Inner b bytes o h)

int_prints : (bits : ℕ) → IsBits bits → Prints Inner (kind_phrase (kind.Int bits)) (kind_text (kind.Int bits)) BlankBehind
unfolding digits
int_prints bits h =
    elim h [
      | inl e ↦ rw e (plain_prints 105 (codes "nt8") refl refl)
      | inr h ↦ elim h [
        | inl e ↦ rw e (plain_prints 105 (codes "nt16") refl refl)
        | inr h ↦ elim h [
          | inl e ↦ rw e (plain_prints 105 (codes "nt32") refl refl)
          | inr e ↦ rw e (plain_prints 105 (codes "nt64") refl refl)
        ]
      ]
    ]

uint_prints : (bits : ℕ) → IsBits bits → Prints Inner (kind_phrase (kind.UInt bits)) (kind_text (kind.UInt bits)) BlankBehind
unfolding digits
uint_prints bits h =
    elim h [
      | inl e ↦ rw e (plain_prints 117 (codes "int8") refl refl)
      | inr h ↦ elim h [
        | inl e ↦ rw e (plain_prints 117 (codes "int16") refl refl)
        | inr h ↦ elim h [
          | inl e ↦ rw e (plain_prints 117 (codes "int32") refl refl)
          | inr e ↦ rw e (plain_prints 117 (codes "int64") refl refl)
        ]
      ]
    ]

bracket_ends : (after : List ℕ) → Ends 91 after
bracket_ends = ends_any 91 (λ c. rw (and_none (c == 61)) refl)

equals_ends : (bytes rest : List ℕ) → IsNumeral 10 bytes → Ends 61 (bytes ++ rest)
equals_ends [] rest h = absurd (omega (arith, h.0))
equals_ends (c ∷ bytes) rest h =
    let range = digit_from_value c h.1.0 in
    let other : eqb c 61 ≡ false = ne_eqb c 61 (λ e. omega (arith, range.1, e)) in
    rw other refl

close_prints : Prints Inner (word (codes "]")) (codes "]") BlankBehind
unfolding BlankBehind
close_prints = narrow (word (codes "]")) (codes "]") (Ends 93) BlankBehind (λ after h. rw h.1 refl) bracket_closes

scale_prints : (p s : ℕ) → s < 2 ^ 64 → Prints Inner ((word (codes ",") ~ number s <|> nothing_where (s ≡ 0)) ~ word (codes "]")) (codes "," ++ (decimal s ++ codes "]")) BlankBehind
scale_prints p s h =
    prints_then Inner (word (codes ",") ~ number s <|> nothing_where (s ≡ 0)) (word (codes "]")) (codes "," ++ decimal s) (codes "]") (Fails is_number_byte) BlankBehind
    (either_left (word (codes ",") ~ number s) (nothing_where (s ≡ 0)) (codes "," ++ decimal s) (Fails is_number_byte)
    (prints_then Inner (word (codes ",")) (number s) (codes ",") (decimal s) (Ends 44) (Fails is_number_byte) comma (number_prints s h) (λ after f. ends_any 44 (λ c. rw (and_none (c == 61)) refl) (decimal s ++ after))))
    close_prints (λ after f. refl)

decimal_prints : (p s : ℕ) → p < 2 ^ 64 → s < 2 ^ 64 → Prints Inner (kind_phrase (kind.Dec p s)) (kind_text (kind.Dec p s)) BlankBehind
decimal_prints p s h k =
    prints_then Inner (word (codes "decimal")) (word (codes "[") ~ number p ~ (word (codes ",") ~ number s <|> nothing_where (s ≡ 0)) ~ word (codes "]")) (codes "decimal") (codes "[" ++ (decimal p ++ (codes "," ++ (decimal s ++ codes "]")))) (Fails is_word_byte) BlankBehind
    (prints_word Inner 100 (codes "ecimal") refl refl)
    (prints_then Inner (word (codes "[")) (number p ~ (word (codes ",") ~ number s <|> nothing_where (s ≡ 0)) ~ word (codes "]")) (codes "[") (decimal p ++ (codes "," ++ (decimal s ++ codes "]"))) (Ends 91) BlankBehind
    bracket_opens
    (prints_then Inner (number p) ((word (codes ",") ~ number s <|> nothing_where (s ≡ 0)) ~ word (codes "]")) (decimal p) (codes "," ++ (decimal s ++ codes "]")) (Fails is_number_byte) BlankBehind (number_prints p h) (scale_prints p s k) (λ after f. refl))
    (λ after f. bracket_ends ((decimal p ++ (codes "," ++ (decimal s ++ codes "]"))) ++ after)))
    (λ after f. refl)

length_prints : (n : ℕ) → n < 2 ^ 64 → Prints Inner (number n ~ word (codes "]")) (decimal n ++ codes "]") BlankBehind
length_prints n h = prints_then Inner (number n) (word (codes "]")) (decimal n) (codes "]") (Fails is_number_byte) BlankBehind (number_prints n h) close_prints (λ after f. refl)

fixed_prints : (n : ℕ) → n < 2 ^ 64 → Prints Inner (kind_phrase (kind.Text n true)) (kind_text (kind.Text n true)) BlankBehind
fixed_prints n h =
    prints_then Inner (word (codes "string")) (word (codes "[") ~ number n ~ word (codes "]")) (codes "string") (codes "[" ++ (decimal n ++ codes "]")) (Fails is_word_byte) BlankBehind
    (prints_word Inner 115 (codes "tring") refl refl)
    (prints_then Inner (word (codes "[")) (number n ~ word (codes "]")) (codes "[") (decimal n ++ codes "]") (Ends 91) BlankBehind bracket_opens (length_prints n h) (λ after f. bracket_ends ((decimal n ++ codes "]") ++ after)))
    (λ after f. refl)

most_prints : (n : ℕ) → n < 2 ^ 64 → Prints Inner (word (codes "=") ~ number n ~ word (codes "]")) (codes "=" ++ (decimal n ++ codes "]")) BlankBehind
most_prints n h =
    prints_then Inner (word (codes "=")) (number n ~ word (codes "]")) (codes "=") (decimal n ++ codes "]") (Ends 61) BlankBehind equals (length_prints n h)
    (λ after f. subst (Ends 61) (sym (append_assoc (decimal n) (codes "]") after)) (equals_ends (decimal n) (codes "]" ++ after) (decimal_is_IsNumeral n h).0))

varying_prints : (n : ℕ) → n < 2 ^ 64 → Prints Inner (kind_phrase (kind.Text n false)) (kind_text (kind.Text n false)) BlankBehind
varying_prints n h =
    prints_then Inner (word (codes "string")) (word (codes "[") ~ word (codes "max") ~ word (codes "=") ~ number n ~ word (codes "]") <|> nothing_where (n ≡ 4096)) (codes "string") (codes "[max=" ++ (decimal n ++ codes "]")) (Fails is_word_byte) BlankBehind
    (prints_word Inner 115 (codes "tring") refl refl)
    (either_left (word (codes "[") ~ word (codes "max") ~ word (codes "=") ~ number n ~ word (codes "]")) (nothing_where (n ≡ 4096)) (codes "[max=" ++ (decimal n ++ codes "]")) BlankBehind
    (prints_then Inner (word (codes "[")) (word (codes "max") ~ word (codes "=") ~ number n ~ word (codes "]")) (codes "[") (codes "max=" ++ (decimal n ++ codes "]")) (Ends 91) BlankBehind bracket_opens
    (prints_then Inner (word (codes "max")) (word (codes "=") ~ number n ~ word (codes "]")) (codes "max") (codes "=" ++ (decimal n ++ codes "]")) (Fails is_word_byte) BlankBehind (prints_word Inner 109 (codes "ax") refl refl) (most_prints n h) (λ after f. refl))
    (λ after f. refl)))
    (λ after f. refl)

kind_prints : (k : Kind) → IsKind k → Prints Inner (kind_phrase k) (kind_text k) BlankBehind
kind_prints (kind.Int bits) h = int_prints bits h
kind_prints (kind.UInt bits) h = uint_prints bits h
kind_prints (kind.Dec p s) h = decimal_prints p s (omega (arith, h.1.0)) (omega (arith, h.1.0, h.1.1))
kind_prints (kind.Text n true) h = fixed_prints n (omega (arith, h.1))
kind_prints (kind.Text n false) h = varying_prints n (omega (arith, h.1))
kind_prints kind.Date h = plain_prints 100 (codes "ate") refl refl

-- ---- fields

-- a field without its semicolon
abbrev pub core_text : Field → List ℕ
core_text f = f.name ++ (codes ": " ++ (nullable_text f.nullable ++ kind_text f.kind))

typed_prints : (b : Bool) (k : Kind) → IsKind k → Prints Inner (nullable_phrase b ~ kind_phrase k) (nullable_text b ++ kind_text k) BlankBehind
typed_prints true k h =
    prints_then Inner (word (codes "nullable")) (kind_phrase k) (codes "nullable") (codes " " ++ kind_text k) (Fails is_word_byte) BlankBehind (prints_word Inner 110 (codes "ullable") refl refl)
    (blank_before Inner (kind_phrase k) 32 (kind_text k) BlankBehind refl (kind_prints k h)) (λ after f. refl)
typed_prints false k h = prints_then Inner nothing (kind_phrase k) [] (kind_text k) anything BlankBehind (prints_nothing Inner) (kind_prints k h) (λ after f. tt)

word_bytes : (bytes : List ℕ) → list_all is_opt_byte bytes ≡ true → list_all is_word_byte bytes ≡ true
word_bytes [] h = refl
word_bytes (b ∷ bytes) h = let here : is_word_byte b ≡ true = rw (first_so (is_opt_byte b) (list_all is_opt_byte bytes) h) refl in rw here (word_bytes bytes (second_so (is_opt_byte b) (list_all is_opt_byte bytes) h))

name_prints : (name : List ℕ) → IsFieldName name → Prints Inner (token sort.Word (λ bytes. bytes ≡ name)) name (Fails is_word_byte)
name_prints [] h = absurd (let k = h.begun in cc)
name_prints (b ∷ bytes) h = prints_name Inner b bytes (λ x. x ≡ b ∷ bytes) refl h.begun (second_so (is_word_byte b) (list_all is_word_byte bytes) (word_bytes (b ∷ bytes) h.each))

pub field_prints : (f : Field) → IsField f → Prints Inner (field_phrase f) (core_text f) BlankBehind
field_prints f h =
    prints_then Inner (token sort.Word (λ bytes. bytes ≡ f.name)) (word (codes ":") ~ nullable_phrase f.nullable ~ kind_phrase f.kind) f.name (codes ": " ++ (nullable_text f.nullable ++ kind_text f.kind)) (Fails is_word_byte) BlankBehind (name_prints f.name h.0)
    (prints_then Inner (word (codes ":")) (nullable_phrase f.nullable ~ kind_phrase f.kind) (codes ":") (codes " " ++ (nullable_text f.nullable ++ kind_text f.kind)) (Ends 58) BlankBehind colon
    (blank_before Inner (nullable_phrase f.nullable ~ kind_phrase f.kind) 32 (nullable_text f.nullable ++ kind_text f.kind) BlankBehind refl (typed_prints f.nullable f.kind h.1)) (λ after g. refl))
    (λ after g. refl)
