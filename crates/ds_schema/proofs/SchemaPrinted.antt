-- A printed schema is read back.
use Rattle.std.proofs.Common.{◌≡◌, ◌<◌, ◌^◌, inl, inr, ℕ, List, [], ◌∷◌, ◌++◌, Bool, true, false, Some, Ok, refl, sym, ap, ◌∙◌, arith, subst, append_assoc, eqb}
use Rattle.std.specs.Prelude.{codes, ◌==◌, ◌&&◌}
use Rattle.std.specs.List.{list_all, flat_map, AllByRecursion}
use Rattle.std.specs.Cmp.{first_so, second_so}
use Rattle.std.specs.Fmt.{decimal, digits}
use Rattle.std.specs.Str.Parse.{IsNumeral, digits_value}
use Rattle.std.proofs.lemmas.Bool.{ne_eqb}
use Rattle.std.proofs.lemmas.Str.Parse.{digit_from_value}
use Rattle.std.proofs.lemmas.Fmt.{decimal_is_IsNumeral}
use Rattle.std.proofs.lemmas.List.{append-nil}
use Rattle.std.proofs.lemmas.List.Concat.{flat_map-cons}
use Rattle.ds_value.specs.declared.kind.Kind.{Kind}
use Rattle.ds_value.specs.declared.kind.Kind.TheVariants as kind
use Rattle.ds_value.specs.Kinds.{IsKind, IsBits}
use Rattle.ds_lex.specs.declared.token.Mode.TheVariants.{Inner}
use Rattle.ds_lex.specs.declared.token.Sort.TheVariants as sort
use Rattle.ds_lex.specs.declared.token.Piece.TheVariants.{Part}
use Rattle.ds_lex.specs.Pieces.{is_opt_byte, is_word_byte, is_double_sign, opens_word, piece_at}
use Rattle.ds_lex.specs.Lexemes.{Lexeme}
use Rattle.ds_lex.specs.Phrases.{Phrase, word, token, nothing, nothing_where, ◌~◌, ◌<|>◌}
use Rattle.ds_lex.proofs.TokensWhole.{by_mode}
use Rattle.ds_lex.proofs.Printed.{Lexes, lexes_end, Prints, Fails, is_number_byte, Ends, prints_nothing, prints_then, blank_before, prints_word, prints_name, prints_number, prints_sign, anything}
use Rattle.ds_schema.specs.declared.schema.Field.{Field}
use Rattle.ds_schema.specs.Schemas.{IsFieldName, IsField, IsSchema}
use Rattle.ds_schema.specs.SchemaText.{kind_text, nullable_text, field_text, schema_text}
use Rattle.ds_schema.specs.SchemaReading.{schema_of}
use Rattle.ds_schema.specs.SchemaGrammar.{number, kind_phrase, nullable_phrase, field_phrase, further_phrase, schema_phrase, SpellsSchema}
use Rattle.ds_schema.specs.SchemaLaws.{SpellsText}
use Rattle.ds_schema.proofs.SizeReaders.{digits_all}
use Rattle.ds_schema.proofs.SchemaTexts.{spelled_text}

pub narrow : (P : Phrase) (x : List ℕ) (A B : List ℕ → Type 0) → ((after : List ℕ) → B after → A after) → Prints Inner P x A → Prints Inner P x B
narrow P x A B h p front after ts b l = p front after ts (h after b) l

either_left : (P Q : Phrase) (x : List ℕ) (A : List ℕ → Type 0) → Prints Inner P x A → Prints Inner (P <|> Q) x A
either_left P Q x A p front after ts a l = let r = p front after ts a l in (r.0, r.1, inl r.2)

-- ---- signs

bracket_opens : Prints Inner (word (codes "[")) (codes "[") (Ends 91)
bracket_opens = prints_sign Inner 91 (λ mode after f. by_mode (λ m. piece_at m (91 ∷ after) ≡ Some (Part sort.Sign 1)) (rw f refl) (rw f refl) mode)

bracket_closes : Prints Inner (word (codes "]")) (codes "]") (Ends 93)
bracket_closes = prints_sign Inner 93 (λ mode after f. by_mode (λ m. piece_at m (93 ∷ after) ≡ Some (Part sort.Sign 1)) (rw f refl) (rw f refl) mode)

pub comma : Prints Inner (word (codes ",")) (codes ",") (Ends 44)
comma = prints_sign Inner 44 (λ mode after f. by_mode (λ m. piece_at m (44 ∷ after) ≡ Some (Part sort.Sign 1)) (rw f refl) (rw f refl) mode)

equals : Prints Inner (word (codes "=")) (codes "=") (Ends 61)
equals = prints_sign Inner 61 (λ mode after f. by_mode (λ m. piece_at m (61 ∷ after) ≡ Some (Part sort.Sign 1)) (rw f refl) (rw f refl) mode)

colon : Prints Inner (word (codes ":")) (codes ":") (Ends 58)
colon = prints_sign Inner 58 (λ mode after f. by_mode (λ m. piece_at m (58 ∷ after) ≡ Some (Part sort.Sign 1)) (rw f refl) (rw f refl) mode)

semicolon : Prints Inner (word (codes ";")) (codes ";") (Ends 59)
semicolon = prints_sign Inner 59 (λ mode after f. by_mode (λ m. piece_at m (59 ∷ after) ≡ Some (Part sort.Sign 1)) (rw f refl) (rw f refl) mode)

opens : Prints Inner (word (codes "(")) (codes "(") (Ends 40)
opens = prints_sign Inner 40 (λ mode after f. by_mode (λ m. piece_at m (40 ∷ after) ≡ Some (Part sort.Sign 1)) (rw f refl) (rw f refl) mode)

closes : Prints Inner (word (codes ")")) (codes ")") (Ends 41)
closes = prints_sign Inner 41 (λ mode after f. by_mode (λ m. piece_at m (41 ∷ after) ≡ Some (Part sort.Sign 1)) (rw f refl) (rw f refl) mode)

-- ---- types

-- a semicolon follows, and a blank
Semicolon : List ℕ → Type 0
Semicolon after = (rest : List ℕ) × (after ≡ 59 ∷ 32 ∷ rest)

semicolon_ends : (p : ℕ → Bool) → p 59 ≡ false → (after : List ℕ) → Semicolon after → Fails p after
unfolding Semicolon
semicolon_ends p e after h = rw h.1 e

number_prints : (n : ℕ) → n < 2 ^ 64 → Prints Inner (number n) (decimal n) (Fails is_number_byte)
number_prints n h =
    let d = decimal_is_IsNumeral n h in
    prints_number Inner (decimal n) (λ bytes. IsNumeral 10 bytes × (digits_value 10 bytes ≡ n)) d d.0.0 (digits_all (decimal n) d.0.1)

plain_prints : (b : ℕ) (bytes : List ℕ) → opens_word b ≡ true → list_all is_word_byte bytes ≡ true → Prints Inner (word (b ∷ bytes)) (b ∷ bytes) Semicolon
plain_prints b bytes o h = narrow (word (b ∷ bytes)) (b ∷ bytes) (Fails is_word_byte) Semicolon (semicolon_ends is_word_byte refl) (prints_word Inner b bytes o h)

int_prints : (bits : ℕ) → IsBits bits → Prints Inner (kind_phrase (kind.Int bits)) (kind_text (kind.Int bits)) Semicolon
unfolding digits
int_prints bits h =
    elim h [
      | inl e ↦ rw e (plain_prints 105 (codes "nt8") refl refl)
      | inr h ↦ elim h [
        | inl e ↦ rw e (plain_prints 105 (codes "nt16") refl refl)
        | inr h ↦ elim h [
          | inl e ↦ rw e (plain_prints 105 (codes "nt32") refl refl)
          | inr e ↦ rw e (plain_prints 105 (codes "nt64") refl refl)
        ]
      ]
    ]

uint_prints : (bits : ℕ) → IsBits bits → Prints Inner (kind_phrase (kind.UInt bits)) (kind_text (kind.UInt bits)) Semicolon
unfolding digits
uint_prints bits h =
    elim h [
      | inl e ↦ rw e (plain_prints 117 (codes "int8") refl refl)
      | inr h ↦ elim h [
        | inl e ↦ rw e (plain_prints 117 (codes "int16") refl refl)
        | inr h ↦ elim h [
          | inl e ↦ rw e (plain_prints 117 (codes "int32") refl refl)
          | inr e ↦ rw e (plain_prints 117 (codes "int64") refl refl)
        ]
      ]
    ]

pub and_none : (b : Bool) → (b && false) ≡ false
and_none true = refl
and_none false = refl

-- a bracket makes no double sign
pub ends_any : (b : ℕ) → ((c : ℕ) → is_double_sign b c ≡ false) → (after : List ℕ) → Ends b after
ends_any b h [] = refl
ends_any b h (c ∷ after) = h c

bracket_ends : (after : List ℕ) → Ends 91 after
bracket_ends = ends_any 91 (λ c. rw (and_none (c == 61)) refl)

equals_ends : (bytes rest : List ℕ) → IsNumeral 10 bytes → Ends 61 (bytes ++ rest)
equals_ends [] rest h = absurd (omega (arith, h.0))
equals_ends (c ∷ bytes) rest h =
    let range = digit_from_value c h.1.0 in
    let other : eqb c 61 ≡ false = ne_eqb c 61 (λ e. omega (arith, range.1, e)) in
    rw other refl

close_prints : Prints Inner (word (codes "]")) (codes "]") Semicolon
unfolding Semicolon
close_prints = narrow (word (codes "]")) (codes "]") (Ends 93) Semicolon (λ after h. rw h.1 refl) bracket_closes

scale_prints : (p s : ℕ) → s < 2 ^ 64 → Prints Inner ((word (codes ",") ~ number s <|> nothing_where (s ≡ 0)) ~ word (codes "]")) (codes "," ++ (decimal s ++ codes "]")) Semicolon
scale_prints p s h =
    prints_then Inner (word (codes ",") ~ number s <|> nothing_where (s ≡ 0)) (word (codes "]")) (codes "," ++ decimal s) (codes "]") (Fails is_number_byte) Semicolon
    (either_left (word (codes ",") ~ number s) (nothing_where (s ≡ 0)) (codes "," ++ decimal s) (Fails is_number_byte)
    (prints_then Inner (word (codes ",")) (number s) (codes ",") (decimal s) (Ends 44) (Fails is_number_byte) comma (number_prints s h) (λ after f. ends_any 44 (λ c. rw (and_none (c == 61)) refl) (decimal s ++ after))))
    close_prints (λ after f. refl)

decimal_prints : (p s : ℕ) → p < 2 ^ 64 → s < 2 ^ 64 → Prints Inner (kind_phrase (kind.Dec p s)) (kind_text (kind.Dec p s)) Semicolon
decimal_prints p s h k =
    prints_then Inner (word (codes "decimal")) (word (codes "[") ~ number p ~ (word (codes ",") ~ number s <|> nothing_where (s ≡ 0)) ~ word (codes "]")) (codes "decimal") (codes "[" ++ (decimal p ++ (codes "," ++ (decimal s ++ codes "]")))) (Fails is_word_byte) Semicolon
    (prints_word Inner 100 (codes "ecimal") refl refl)
    (prints_then Inner (word (codes "[")) (number p ~ (word (codes ",") ~ number s <|> nothing_where (s ≡ 0)) ~ word (codes "]")) (codes "[") (decimal p ++ (codes "," ++ (decimal s ++ codes "]"))) (Ends 91) Semicolon
    bracket_opens
    (prints_then Inner (number p) ((word (codes ",") ~ number s <|> nothing_where (s ≡ 0)) ~ word (codes "]")) (decimal p) (codes "," ++ (decimal s ++ codes "]")) (Fails is_number_byte) Semicolon (number_prints p h) (scale_prints p s k) (λ after f. refl))
    (λ after f. bracket_ends ((decimal p ++ (codes "," ++ (decimal s ++ codes "]"))) ++ after)))
    (λ after f. refl)

length_prints : (n : ℕ) → n < 2 ^ 64 → Prints Inner (number n ~ word (codes "]")) (decimal n ++ codes "]") Semicolon
length_prints n h = prints_then Inner (number n) (word (codes "]")) (decimal n) (codes "]") (Fails is_number_byte) Semicolon (number_prints n h) close_prints (λ after f. refl)

fixed_prints : (n : ℕ) → n < 2 ^ 64 → Prints Inner (kind_phrase (kind.Text n true)) (kind_text (kind.Text n true)) Semicolon
fixed_prints n h =
    prints_then Inner (word (codes "string")) (word (codes "[") ~ number n ~ word (codes "]")) (codes "string") (codes "[" ++ (decimal n ++ codes "]")) (Fails is_word_byte) Semicolon
    (prints_word Inner 115 (codes "tring") refl refl)
    (prints_then Inner (word (codes "[")) (number n ~ word (codes "]")) (codes "[") (decimal n ++ codes "]") (Ends 91) Semicolon bracket_opens (length_prints n h) (λ after f. bracket_ends ((decimal n ++ codes "]") ++ after)))
    (λ after f. refl)

most_prints : (n : ℕ) → n < 2 ^ 64 → Prints Inner (word (codes "=") ~ number n ~ word (codes "]")) (codes "=" ++ (decimal n ++ codes "]")) Semicolon
most_prints n h =
    prints_then Inner (word (codes "=")) (number n ~ word (codes "]")) (codes "=") (decimal n ++ codes "]") (Ends 61) Semicolon equals (length_prints n h)
    (λ after f. subst (Ends 61) (sym (append_assoc (decimal n) (codes "]") after)) (equals_ends (decimal n) (codes "]" ++ after) (decimal_is_IsNumeral n h).0))

varying_prints : (n : ℕ) → n < 2 ^ 64 → Prints Inner (kind_phrase (kind.Text n false)) (kind_text (kind.Text n false)) Semicolon
varying_prints n h =
    prints_then Inner (word (codes "string")) (word (codes "[") ~ word (codes "max") ~ word (codes "=") ~ number n ~ word (codes "]") <|> nothing_where (n ≡ 4096)) (codes "string") (codes "[max=" ++ (decimal n ++ codes "]")) (Fails is_word_byte) Semicolon
    (prints_word Inner 115 (codes "tring") refl refl)
    (either_left (word (codes "[") ~ word (codes "max") ~ word (codes "=") ~ number n ~ word (codes "]")) (nothing_where (n ≡ 4096)) (codes "[max=" ++ (decimal n ++ codes "]")) Semicolon
    (prints_then Inner (word (codes "[")) (word (codes "max") ~ word (codes "=") ~ number n ~ word (codes "]")) (codes "[") (codes "max=" ++ (decimal n ++ codes "]")) (Ends 91) Semicolon bracket_opens
    (prints_then Inner (word (codes "max")) (word (codes "=") ~ number n ~ word (codes "]")) (codes "max") (codes "=" ++ (decimal n ++ codes "]")) (Fails is_word_byte) Semicolon (prints_word Inner 109 (codes "ax") refl refl) (most_prints n h) (λ after f. refl))
    (λ after f. refl)))
    (λ after f. refl)

kind_prints : (k : Kind) → IsKind k → Prints Inner (kind_phrase k) (kind_text k) Semicolon
kind_prints (kind.Int bits) h = int_prints bits h
kind_prints (kind.UInt bits) h = uint_prints bits h
kind_prints (kind.Dec p s) h = decimal_prints p s (omega (arith, h.1.0)) (omega (arith, h.1.0, h.1.1))
kind_prints (kind.Text n true) h = fixed_prints n (omega (arith, h.1))
kind_prints (kind.Text n false) h = varying_prints n (omega (arith, h.1))
kind_prints kind.Date h = plain_prints 100 (codes "ate") refl refl

-- ---- fields

-- a field without its semicolon
abbrev core_text : Field → List ℕ
core_text f = f.name ++ (codes ": " ++ (nullable_text f.nullable ++ kind_text f.kind))

typed_prints : (b : Bool) (k : Kind) → IsKind k → Prints Inner (nullable_phrase b ~ kind_phrase k) (nullable_text b ++ kind_text k) Semicolon
typed_prints true k h =
    prints_then Inner (word (codes "nullable")) (kind_phrase k) (codes "nullable") (codes " " ++ kind_text k) (Fails is_word_byte) Semicolon (prints_word Inner 110 (codes "ullable") refl refl)
    (blank_before Inner (kind_phrase k) 32 (kind_text k) Semicolon refl (kind_prints k h)) (λ after f. refl)
typed_prints false k h = prints_then Inner nothing (kind_phrase k) [] (kind_text k) anything Semicolon (prints_nothing Inner) (kind_prints k h) (λ after f. tt)

word_bytes : (bytes : List ℕ) → list_all is_opt_byte bytes ≡ true → list_all is_word_byte bytes ≡ true
word_bytes [] h = refl
word_bytes (b ∷ bytes) h = let here : is_word_byte b ≡ true = rw (first_so (is_opt_byte b) (list_all is_opt_byte bytes) h) refl in rw here (word_bytes bytes (second_so (is_opt_byte b) (list_all is_opt_byte bytes) h))

name_prints : (name : List ℕ) → IsFieldName name → Prints Inner (token sort.Word (λ bytes. bytes ≡ name)) name (Fails is_word_byte)
name_prints [] h = absurd (let k = h.begun in cc)
name_prints (b ∷ bytes) h = prints_name Inner b bytes (λ x. x ≡ b ∷ bytes) refl h.begun (second_so (is_word_byte b) (list_all is_word_byte bytes) (word_bytes (b ∷ bytes) h.each))

field_prints : (f : Field) → IsField f → Prints Inner (field_phrase f) (core_text f) Semicolon
field_prints f h =
    prints_then Inner (token sort.Word (λ bytes. bytes ≡ f.name)) (word (codes ":") ~ nullable_phrase f.nullable ~ kind_phrase f.kind) f.name (codes ": " ++ (nullable_text f.nullable ++ kind_text f.kind)) (Fails is_word_byte) Semicolon (name_prints f.name h.0)
    (prints_then Inner (word (codes ":")) (nullable_phrase f.nullable ~ kind_phrase f.kind) (codes ":") (codes " " ++ (nullable_text f.nullable ++ kind_text f.kind)) (Ends 58) Semicolon colon
    (blank_before Inner (nullable_phrase f.nullable ~ kind_phrase f.kind) 32 (nullable_text f.nullable ++ kind_text f.kind) Semicolon refl (typed_prints f.nullable f.kind h.1)) (λ after g. refl))
    (λ after g. refl)

-- ---- schemas

-- what stands behind a field: a semicolon and a blank, and the other fields
further_text : List Field → List ℕ
further_text [] = codes "; )"
further_text (f ∷ fields) = codes "; " ++ (core_text f ++ further_text fields)

abbrev AtEnd : List ℕ → Type 0
AtEnd after = after ≡ []

begins_so : (fields : List Field) (after : List ℕ) → Semicolon (further_text fields ++ after)
unfolding Semicolon further_text
begins_so [] after = (41 ∷ after, refl)
begins_so (f ∷ fields) after = ((core_text f ++ further_text fields) ++ after, refl)

further_prints : (fields : List Field) → AllByRecursion IsField fields → Prints Inner (further_phrase fields) (further_text fields) AtEnd
unfolding further_text
further_prints [] h =
    prints_then Inner (word (codes ";") <|> nothing) (word (codes ")")) (codes ";") (codes " )") (Ends 59) AtEnd
    (either_left (word (codes ";")) nothing (codes ";") (Ends 59) semicolon) (blank_before Inner (word (codes ")")) 32 (codes ")") AtEnd refl (narrow (word (codes ")")) (codes ")") (Ends 41) AtEnd (λ after e. rw e refl) closes)) (λ after e. refl)
further_prints (f ∷ fields) h =
    prints_then Inner (word (codes ";")) (field_phrase f ~ further_phrase fields) (codes ";") (codes " " ++ (core_text f ++ further_text fields)) (Ends 59) AtEnd semicolon
    (blank_before Inner (field_phrase f ~ further_phrase fields) 32 (core_text f ++ further_text fields) AtEnd refl
    (prints_then Inner (field_phrase f) (further_phrase fields) (core_text f) (further_text fields) Semicolon AtEnd (field_prints f h.0) (further_prints fields h.1) (λ after e. begins_so fields after)))
    (λ after e. refl)

core_split : (f : Field) (rest : List ℕ) → field_text f ++ rest ≡ core_text f ++ (codes "; " ++ rest)
core_split f rest = simp append_assoc

-- the text of fields, in another grouping
grouped : (f : Field) (fields : List Field) → flat_map field_text (f ∷ fields) ++ codes ")" ≡ core_text f ++ further_text fields
unfolding further_text
grouped f [] = ap (λ (xs : List ℕ). xs ++ codes ")") (flat_map-cons field_text f []) ∙ (append_assoc (field_text f) [] (codes ")") ∙ core_split f (codes ")"))
grouped f (g ∷ fields) =
    ap (λ (xs : List ℕ). xs ++ codes ")") (flat_map-cons field_text f (g ∷ fields))
    ∙ (append_assoc (field_text f) (flat_map field_text (g ∷ fields)) (codes ")")
    ∙ (core_split f (flat_map field_text (g ∷ fields) ++ codes ")") ∙ ap (λ (xs : List ℕ). core_text f ++ (codes "; " ++ xs)) (grouped g fields)))

schema_prints : (f : Field) (fields : List Field) → AllByRecursion IsField (f ∷ fields) → Prints Inner (schema_phrase (f ∷ fields)) (codes "record ( " ++ (core_text f ++ further_text fields)) AtEnd
schema_prints f fields h =
    prints_then Inner (word (codes "record")) (word (codes "(") ~ field_phrase f ~ further_phrase fields) (codes "record") (codes " ( " ++ (core_text f ++ further_text fields)) (Fails is_word_byte) AtEnd (prints_word Inner 114 (codes "ecord") refl refl)
    (blank_before Inner (word (codes "(") ~ field_phrase f ~ further_phrase fields) 32 (codes "( " ++ (core_text f ++ further_text fields)) AtEnd refl
    (prints_then Inner (word (codes "(")) (field_phrase f ~ further_phrase fields) (codes "(") (codes " " ++ (core_text f ++ further_text fields)) (Ends 40) AtEnd opens
    (blank_before Inner (field_phrase f ~ further_phrase fields) 32 (core_text f ++ further_text fields) AtEnd refl
    (prints_then Inner (field_phrase f) (further_phrase fields) (core_text f) (further_text fields) Semicolon AtEnd (field_prints f h.0) (further_prints fields h.1) (λ after e. begins_so fields after)))
    (λ after e. refl)))
    (λ after e. refl)

spelled : (fields : List Field) → IsSchema fields → SpellsText (schema_text fields) fields
spelled [] h = absurd (omega (arith, h.some))
spelled (f ∷ fields) h =
    let p = schema_prints f fields h.each [] [] [] refl (lexes_end Inner ([] ++ (codes "record ( " ++ (core_text f ++ further_text fields)))) in
    let text : (codes "record ( " ++ (core_text f ++ further_text fields)) ++ [] ≡ schema_text (f ∷ fields) = append-nil (codes "record ( " ++ (core_text f ++ further_text fields)) ∙ ap (λ (xs : List ℕ). codes "record ( " ++ xs) (sym (grouped f fields)) in
    let l : Lexes Inner [] (schema_text (f ∷ fields)) p.0 = subst (λ (xs : List ℕ). Lexes Inner [] xs p.0) text p.1 in
    (l.whole, subst (λ (ts : List Lexeme). SpellsSchema ts (f ∷ fields)) (sym l.tokens) (p.2, h))

pub reads_back : (fields : List Field) → IsSchema fields → schema_of (schema_text fields) ≡ Ok fields
reads_back fields h = spelled_text (schema_text fields) fields (spelled fields h)
