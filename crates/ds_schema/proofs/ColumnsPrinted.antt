-- Printed column lists and key lists are spelled so.
use Rattle.std.proofs.Common.{◌≡◌, ◌≤◌, ℕ, List, [], ◌∷◌, ◌++◌, Bool, true, false, length, refl, sym, ◌∙◌, arith, subst, append_assoc}
use Rattle.std.specs.Prelude.{codes, ◌==◌}
use Rattle.std.specs.List.{flat_map, AllByRecursion}
use Rattle.std.proofs.lemmas.List.{append-nil}
use Rattle.std.proofs.lemmas.List.Concat.{flat_map-cons}
use Rattle.ds_lex.specs.declared.token.Mode.TheVariants.{Inner}
use Rattle.ds_lex.specs.Pieces.{is_word_byte}
use Rattle.ds_lex.specs.Lexemes.{Lexeme}
use Rattle.ds_lex.specs.Tokens.{IsWord}
use Rattle.ds_lex.specs.Phrases.{Phrase, word, nothing, ◌~◌}
use Rattle.ds_lex.proofs.Printed.{Lexes, lexes_end, Prints, Fails, Ends, prints_nothing, prints_then, blank_before, prints_word, prints_name, anything}
use Rattle.ds_schema.specs.ColumnGrammar.{AreNamed, listed, further, name_phrase, desc_phrase, key_phrase, itself, key_name, IsAll}
use Rattle.ds_schema.specs.ColumnText.{desc_text, key_text, names_text, keys_text}
use Rattle.ds_schema.specs.ColumnLaws.{NamesReadBack, KeysReadBack}
use Rattle.ds_schema.proofs.SchemaPrinted.{narrow, comma, and_none, ends_any}

abbrev NoWordByte : List ℕ → Type 0
NoWordByte after = Fails is_word_byte after

name_prints : (name : List ℕ) → IsWord name → Prints Inner (name_phrase name) name NoWordByte
name_prints [] h = absurd h
name_prints (b ∷ bytes) h = prints_name Inner b bytes (λ x. x ≡ b ∷ bytes) refl h.0 h.1

way_prints : (b : Bool) → Prints Inner (desc_phrase b) (desc_text b) NoWordByte
way_prints true = blank_before Inner (word (codes "desc")) 32 (codes "desc") NoWordByte refl (prints_word Inner 100 (codes "esc") refl refl)
way_prints false = narrow nothing [] anything NoWordByte (λ after f. tt) (prints_nothing Inner)

way_ends : (b : Bool) (after : List ℕ) → NoWordByte after → NoWordByte (desc_text b ++ after)
way_ends true after f = refl
way_ends false after f = f

key_prints : (key : List ℕ × Bool) → IsWord key.0 → Prints Inner (key_phrase key) (key_text key) NoWordByte
key_prints key h = prints_then Inner (name_phrase key.0) (desc_phrase key.1) key.0 (desc_text key.1) NoWordByte NoWordByte (name_prints key.0 h) (way_prints key.1) (way_ends key.1)

-- ---- lists

abbrev with_comma : {X : Type 0} → (X → List ℕ) → X → List ℕ
with_comma text x = codes "," ++ text x

abbrev list_text : {X : Type 0} → (X → List ℕ) → List X → List ℕ
list_text text [] = []
list_text text (x ∷ xs) = text x ++ flat_map (with_comma text) xs

abbrev EachPrints : {X : Type 0} → (X → Phrase) → (X → List ℕ) → List X → Type 0
EachPrints one text xs = AllByRecursion (λ x. Prints Inner (one x) (text x) NoWordByte) xs

comma_ends : (after : List ℕ) → Ends 44 after
comma_ends after = ends_any 44 (λ c. rw (and_none (c == 61)) refl) after

further_ends : {X : Type 0} (text : X → List ℕ) (xs : List X) (after : List ℕ) → NoWordByte after → NoWordByte (flat_map (with_comma text) xs ++ after)
further_ends text [] after f = f
further_ends text (x ∷ xs) after f = subst (λ (t : List ℕ). NoWordByte (t ++ after)) (sym (flat_map-cons (with_comma text) x xs)) refl

further_prints : {X : Type 0} (one : X → Phrase) (text : X → List ℕ) (xs : List X) → EachPrints one text xs → Prints Inner (further one xs) (flat_map (with_comma text) xs) NoWordByte
further_prints one text [] h = narrow nothing [] anything NoWordByte (λ after f. tt) (prints_nothing Inner)
further_prints one text (x ∷ xs) h =
    subst (λ (t : List ℕ). Prints Inner (further one (x ∷ xs)) t NoWordByte) (sym (flat_map-cons (with_comma text) x xs ∙ append_assoc (codes ",") (text x) (flat_map (with_comma text) xs)))
    (prints_then Inner (word (codes ",")) (one x ~ further one xs) (codes ",") (text x ++ flat_map (with_comma text) xs) (Ends 44) NoWordByte comma
    (prints_then Inner (one x) (further one xs) (text x) (flat_map (with_comma text) xs) NoWordByte NoWordByte h.0 (further_prints one text xs h.1) (further_ends text xs))
    (λ after f. comma_ends ((text x ++ flat_map (with_comma text) xs) ++ after)))

list_prints : {X : Type 0} (one : X → Phrase) (text : X → List ℕ) (xs : List X) → 1 ≤ length xs → EachPrints one text xs → Prints Inner (listed one xs) (list_text text xs) NoWordByte
list_prints one text [] some h = absurd (omega arith)
list_prints one text (x ∷ xs) some h = prints_then Inner (one x) (further one xs) (text x) (flat_map (with_comma text) xs) NoWordByte NoWordByte h.0 (further_prints one text xs h.1) (further_ends text xs)

-- what prints a phrase is all of it
whole_prints : (P : Phrase) (text : List ℕ) → Prints Inner P text NoWordByte → IsAll P text
whole_prints P text prints =
    let p = prints [] [] [] tt (lexes_end Inner ([] ++ text)) in
    let l : Lexes Inner [] text p.0 = subst (λ (xs : List ℕ). Lexes Inner [] xs p.0) (append-nil text) p.1 in
    (l.whole, subst (λ (ts : List Lexeme). P ts []) (sym l.tokens) p.2)

names_print : (names : List (List ℕ)) → AllByRecursion IsWord names → EachPrints name_phrase itself names
names_print [] h = tt
names_print (name ∷ names) h = (name_prints name h.0, names_print names h.1)

keys_print : (keys : List (List ℕ × Bool)) → AllByRecursion (λ (k : List ℕ × Bool). IsWord k.0) keys → EachPrints key_phrase key_text keys
keys_print [] h = tt
keys_print (key ∷ keys) h = (key_prints key h.0, keys_print keys h.1)

same_names : (names : List (List ℕ)) → list_text itself names ≡ names_text names
same_names [] = refl
same_names (name ∷ names) = refl

same_keys : (keys : List (List ℕ × Bool)) → list_text key_text keys ≡ keys_text keys
same_keys [] = refl
same_keys (key ∷ keys) = refl

pub names_read_back : NamesReadBack
names_read_back names some named words =
    let p = whole_prints (listed name_phrase names) (list_text itself names) (list_prints name_phrase itself names some (names_print names words)) in
    subst (λ (t : List ℕ). IsAll (λ ts rest. AreNamed itself names × listed name_phrase names ts rest) t) (same_names names) (p.0, (named, p.1))

pub keys_read_back : KeysReadBack
keys_read_back keys some named words =
    let p = whole_prints (listed key_phrase keys) (list_text key_text keys) (list_prints key_phrase key_text keys some (keys_print keys words)) in
    subst (λ (t : List ℕ). IsAll (λ ts rest. AreNamed key_name keys × listed key_phrase keys ts rest) t) (same_keys keys) (p.0, (named, p.1))
