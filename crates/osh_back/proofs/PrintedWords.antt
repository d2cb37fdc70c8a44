-- Words, signs and lists as they are printed in a flow.
use Rattle.std.proofs.Common.{◌≡◌, ◌≤◌, ◌<◌, ◌^◌, inl, inr, ℕ, List, [], ◌∷◌, ◌++◌, length, Bool, true, false, Some, refl, sym, ◌∙◌, subst, append_assoc, arith}
use Rattle.std.specs.Prelude.{◌==◌, codes}
use Rattle.std.specs.List.{list_all, flat_map, AllByRecursion}
use Rattle.std.specs.Fmt.{decimal}
use Rattle.std.specs.Cmp.{first_so, second_so}
use Rattle.std.proofs.lemmas.Bool.{and_from}
use Rattle.std.proofs.lemmas.Fmt.{decimal_is_IsNumeral}
use Rattle.std.proofs.lemmas.Bool.Decides.{nat_tests}
use Rattle.std.proofs.lemmas.List.Concat.{flat_map-cons}
use Rattle.std.proofs.lemmas.List.Folds.{list_all-append}
use Rattle.ds_lex.specs.declared.token.Mode.TheVariants.{Osh}
use Rattle.ds_lex.specs.declared.token.Sort.TheVariants as sort
use Rattle.ds_lex.specs.declared.token.Piece.TheVariants.{Part}
use Rattle.ds_lex.specs.Pieces.{is_digit, is_word_byte, is_double_sign, piece_at}
use Rattle.ds_lex.specs.Lexemes.{Lexeme}
use Rattle.ds_lex.specs.Tokens.{IsWord}
use Rattle.ds_lex.specs.Phrases.{Phrase, word, token, nothing, nothing_where, ◌~◌, ◌<|>◌}
use Rattle.ds_lex.proofs.TokensWhole.{by_mode}
use Rattle.ds_lex.proofs.Printed.{Lexes, Prints, Fails, Ends, prints_nothing, prints_then, blank_before, prints_word, prints_name, prints_sign, lexes_token, anything}
use Rattle.ds_schema.specs.ColumnGrammar.{listed, further, name_phrase, desc_phrase, key_phrase, itself, names_form, keys_form}
use Rattle.ds_schema.specs.ColumnText.{desc_text, key_text, names_text, keys_text}
use Rattle.ds_schema.proofs.SchemaPrinted.{and_none, ends_any}
use Rattle.ds_schema.proofs.SizeReaders.{digits_all}
use Rattle.osh_print.specs.LinkText.{link_name}
use Rattle.osh_value.specs.ValueGrammar.{sign}
use Rattle.osh_sound.specs.ValueLaws.{AreColumns, AreKeys}

-- ---- phrases

pub narrow : (P : Phrase) (x : List ℕ) (A B : List ℕ → Type 0) → ((after : List ℕ) → B after → A after) → Prints Osh P x A → Prints Osh P x B
narrow P x A B h p front after ts b l = p front after ts (h after b) l

-- another phrase that holds wherever the one does
pub prints_as : (P Q : Phrase) (x : List ℕ) (A : List ℕ → Type 0) → ((ts rest : List Lexeme) → P ts rest → Q ts rest) → Prints Osh P x A → Prints Osh Q x A
prints_as P Q x A h p front after ts a l = let r = p front after ts a l in (r.0, r.1, h r.0 ts r.2)

pub prints_where : (P : Type 0) → P → Prints Osh (nothing_where P) [] anything
prints_where P p = prints_as nothing (nothing_where P) [] anything (λ ts rest e. (p, e)) (prints_nothing Osh)

pub either_left : (P Q : Phrase) (x : List ℕ) (A : List ℕ → Type 0) → Prints Osh P x A → Prints Osh (P <|> Q) x A
either_left P Q x A p = prints_as P (P <|> Q) x A (λ ts rest h. inl h) p

pub either_right : (P Q : Phrase) (x : List ℕ) (A : List ℕ → Type 0) → Prints Osh Q x A → Prints Osh (P <|> Q) x A
either_right P Q x A q = prints_as Q (P <|> Q) x A (λ ts rest h. inr h) q

-- ---- signs

no_double : (b : ℕ) → ((c : ℕ) → is_double_sign b c ≡ false) → (after : List ℕ) → Ends b after
no_double b h after = ends_any b h after

pub opens : Prints Osh (word (codes "[")) (codes "[") anything
opens = narrow (word (codes "[")) (codes "[") (Ends 91) anything (λ after h. no_double 91 (λ c. rw (and_none (c == 61)) refl) after)
    (prints_sign Osh 91 (λ mode after f. by_mode (λ m. piece_at m (91 ∷ after) ≡ Some (Part sort.Sign 1)) (rw f refl) (rw f refl) mode))

pub closes : Prints Osh (word (codes "]")) (codes "]") anything
closes = narrow (word (codes "]")) (codes "]") (Ends 93) anything (λ after h. no_double 93 (λ c. rw (and_none (c == 61)) refl) after)
    (prints_sign Osh 93 (λ mode after f. by_mode (λ m. piece_at m (93 ∷ after) ≡ Some (Part sort.Sign 1)) (rw f refl) (rw f refl) mode))

pub comma : Prints Osh (word (codes ",")) (codes ",") anything
comma = narrow (word (codes ",")) (codes ",") (Ends 44) anything (λ after h. no_double 44 (λ c. rw (and_none (c == 61)) refl) after)
    (prints_sign Osh 44 (λ mode after f. by_mode (λ m. piece_at m (44 ∷ after) ≡ Some (Part sort.Sign 1)) (rw f refl) (rw f refl) mode))

pub semicolon : Prints Osh (word (codes ";")) (codes ";") anything
semicolon = narrow (word (codes ";")) (codes ";") (Ends 59) anything (λ after h. no_double 59 (λ c. rw (and_none (c == 61)) refl) after)
    (prints_sign Osh 59 (λ mode after f. by_mode (λ m. piece_at m (59 ∷ after) ≡ Some (Part sort.Sign 1)) (rw f refl) (rw f refl) mode))

-- a sign, wherever it stands, and then a phrase
unfoldable pub Placed : ℕ → Phrase → Phrase
Placed b P ts rest = (at : ℕ) × (sign at (b ∷ []) ~ P) ts rest

pub sign_then : (b : ℕ) (P : Phrase) (x : List ℕ) (A : List ℕ → Type 0) → ((after : List ℕ) → piece_at Osh (b ∷ (x ++ after)) ≡ Some (Part sort.Sign 1)) → Prints Osh P x A → Prints Osh (Placed b P) (b ∷ x) A
unfolding Placed
sign_then b P x A e p front after ts a l =
    let more = p (front ++ b ∷ []) after ts a (subst (λ (xs : List ℕ). Lexes Osh xs after ts) (sym (append_assoc front (b ∷ []) x)) l) in
    (record { at = length front; sort = sort.Sign; bytes = b ∷ [] } ∷ more.0, lexes_token Osh sort.Sign front (b ∷ []) (x ++ after) more.0 (omega arith) (e after) more.1, (length front, (more.0, (refl, refl, refl), more.2)))

-- ---- words

abbrev pub NoWordByte : List ℕ → Type 0
NoWordByte after = Fails is_word_byte after

pub name_prints : (name : List ℕ) → IsWord name → Prints Osh (token sort.Word (λ bytes. bytes ≡ name)) name NoWordByte
name_prints [] h = absurd h
name_prints (b ∷ bytes) h = prints_name Osh b bytes (λ x. x ≡ b ∷ bytes) refl h.0 h.1

digit_word : (b : ℕ) → is_digit b ≡ true → is_word_byte b ≡ true
digit_word b h = grind (arith, nat_tests)

pub digits_words : (bytes : List ℕ) → list_all is_digit bytes ≡ true → list_all is_word_byte bytes ≡ true
digits_words [] h = refl
digits_words (b ∷ bytes) h = rw (digit_word b (first_so (is_digit b) (list_all is_digit bytes) h)) (digits_words bytes (second_so (is_digit b) (list_all is_digit bytes) h))

pub link_word : (number : ℕ) → number < 2 ^ 64 → IsWord (link_name number)
link_word number h =
    let d = digits_words (decimal number) (digits_all (decimal number) (decimal_is_IsNumeral number h).0.1) in
    (refl, list_all-append is_word_byte (decimal number) (codes ".v") ∙ and_from _ _ d refl)

-- ---- lists

way_prints : (b : Bool) → Prints Osh (desc_phrase b) (desc_text b) NoWordByte
way_prints true = blank_before Osh (word (codes "desc")) 32 (codes "desc") NoWordByte refl (prints_word Osh 100 (codes "esc") refl refl)
way_prints false = narrow nothing [] anything NoWordByte (λ after f. tt) (prints_nothing Osh)

way_ends : (b : Bool) (after : List ℕ) → NoWordByte after → NoWordByte (desc_text b ++ after)
way_ends true after f = refl
way_ends false after f = f

key_prints : (key : List ℕ × Bool) → IsWord key.0 → Prints Osh (key_phrase key) (key_text key) NoWordByte
key_prints key h = prints_then Osh (name_phrase key.0) (desc_phrase key.1) key.0 (desc_text key.1) NoWordByte NoWordByte (name_prints key.0 h) (way_prints key.1) (way_ends key.1)

abbrev with_comma : {X : Type 0} → (X → List ℕ) → X → List ℕ
with_comma text x = codes "," ++ text x

abbrev list_text : {X : Type 0} → (X → List ℕ) → List X → List ℕ
list_text text [] = []
list_text text (x ∷ xs) = text x ++ flat_map (with_comma text) xs

abbrev EachPrints : {X : Type 0} → (X → Phrase) → (X → List ℕ) → List X → Type 0
EachPrints one text xs = AllByRecursion (λ x. Prints Osh (one x) (text x) NoWordByte) xs

further_ends : {X : Type 0} (text : X → List ℕ) (xs : List X) (after : List ℕ) → NoWordByte after → NoWordByte (flat_map (with_comma text) xs ++ after)
further_ends text [] after f = f
further_ends text (x ∷ xs) after f = subst (λ (t : List ℕ). NoWordByte (t ++ after)) (sym (flat_map-cons (with_comma text) x xs)) refl

further_prints : {X : Type 0} (one : X → Phrase) (text : X → List ℕ) (xs : List X) → EachPrints one text xs → Prints Osh (further one xs) (flat_map (with_comma text) xs) NoWordByte
further_prints one text [] h = narrow nothing [] anything NoWordByte (λ after f. tt) (prints_nothing Osh)
further_prints one text (x ∷ xs) h =
    subst (λ (t : List ℕ). Prints Osh (further one (x ∷ xs)) t NoWordByte) (sym (flat_map-cons (with_comma text) x xs ∙ append_assoc (codes ",") (text x) (flat_map (with_comma text) xs)))
    (prints_then Osh (word (codes ",")) (one x ~ further one xs) (codes ",") (text x ++ flat_map (with_comma text) xs) anything NoWordByte comma
    (prints_then Osh (one x) (further one xs) (text x) (flat_map (with_comma text) xs) NoWordByte NoWordByte h.0 (further_prints one text xs h.1) (further_ends text xs))
    (λ after f. tt))

list_prints : {X : Type 0} (one : X → Phrase) (text : X → List ℕ) (xs : List X) → 1 ≤ length xs → EachPrints one text xs → Prints Osh (listed one xs) (list_text text xs) NoWordByte
list_prints one text [] some h = absurd (omega arith)
list_prints one text (x ∷ xs) some h = prints_then Osh (one x) (further one xs) (text x) (flat_map (with_comma text) xs) NoWordByte NoWordByte h.0 (further_prints one text xs h.1) (further_ends text xs)

each_name : (names : List (List ℕ)) → AllByRecursion IsWord names → EachPrints name_phrase itself names
each_name [] h = tt
each_name (name ∷ names) h = (name_prints name h.0, each_name names h.1)

each_key : (keys : List (List ℕ × Bool)) → AllByRecursion (λ (k : List ℕ × Bool). IsWord k.0) keys → EachPrints key_phrase key_text keys
each_key [] h = tt
each_key (key ∷ keys) h = (key_prints key h.0, each_key keys h.1)

same_names : (names : List (List ℕ)) → list_text itself names ≡ names_text names
same_names [] = refl
same_names (name ∷ names) = refl

same_keys : (keys : List (List ℕ × Bool)) → list_text key_text keys ≡ keys_text keys
same_keys [] = refl
same_keys (key ∷ keys) = refl

pub names_print : (names : List (List ℕ)) → AreColumns names → Prints Osh (names_form names) (names_text names) NoWordByte
names_print names h = subst (λ (t : List ℕ). Prints Osh (names_form names) t NoWordByte) (same_names names)
    (prints_as (listed name_phrase names) (names_form names) (list_text itself names) NoWordByte (λ ts rest p. (h.named, p)) (list_prints name_phrase itself names h.some (each_name names h.words)))

pub keys_print : (keys : List (List ℕ × Bool)) → AreKeys keys → Prints Osh (keys_form keys) (keys_text keys) NoWordByte
keys_print keys h = subst (λ (t : List ℕ). Prints Osh (keys_form keys) t NoWordByte) (same_keys keys)
    (prints_as (listed key_phrase keys) (keys_form keys) (list_text key_text keys) NoWordByte (λ ts rest p. (h.named, p)) (list_prints key_phrase key_text keys h.some (each_key keys h.words)))
