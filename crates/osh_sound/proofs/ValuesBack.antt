-- Printed values are read back.
use Rattle.std.proofs.Common.{◌≡◌, inl, inr, ◌≤◌, ◌<◌, ◌^◌, ℕ, ℤ, pos, negsuc, neg_ℤ, FitsSigned, w64, suc, List, [], ◌∷◌, ◌++◌, length, true, false, Some, refl, sym, ap, ◌∙◌, subst, append_assoc, arith, lit<}
use Rattle.std.specs.Prelude.{◌==◌, ◌||◌, codes}
use Rattle.std.specs.List.{flat_map, list_all, AllByRecursion}
use Rattle.std.specs.Fmt.{decimal, signed_decimal}
use Rattle.std.specs.Str.Parse.{IsNumeral, digits_value}
use Rattle.std.specs.Cmp.{first_so, second_so}
use Rattle.std.proofs.lemmas.Bool.{false_from_ne_true, eqb-true}
use Rattle.std.proofs.lemmas.Bool.Decides.{nat_tests}
use Rattle.std.proofs.lemmas.Fmt.{decimal_is_IsNumeral}
use Rattle.std.proofs.lemmas.List.{append-nil}
use Rattle.std.proofs.lemmas.List.Concat.{flat_map-cons}
use Rattle.ds_value.specs.Names.{IsName}
use Rattle.ds_lex.specs.declared.token.Mode.TheVariants.{Inner}
use Rattle.ds_lex.specs.declared.token.Sort.TheVariants as sort
use Rattle.ds_lex.specs.declared.token.Piece.TheVariants.{Part}
use Rattle.ds_lex.specs.Pieces.{is_opt_byte, is_word_byte, opens_word, piece_at}
use Rattle.ds_lex.specs.Lexemes.{Lexeme}
use Rattle.ds_lex.specs.Tokens.{IsWord}
use Rattle.ds_lex.specs.Phrases.{Phrase, word, nothing, ◌~◌}
use Rattle.ds_lex.proofs.TokensWhole.{by_mode}
use Rattle.ds_lex.proofs.Printed.{Lexes, lexes_end, Prints, Fails, is_number_byte, Ends, prints_nothing, prints_then, prints_piece, prints_name, prints_number, prints_sign, anything}
use Rattle.ds_schema.specs.Schemas.{IsFieldName}
use Rattle.ds_schema.specs.SchemaGrammar.{number}
use Rattle.ds_schema.specs.SchemaText.{schema_text}
use Rattle.ds_schema.specs.ColumnGrammar.{listed, further, name_phrase, IsAll}
use Rattle.ds_schema.proofs.ColumnsPrinted.{names_read_back, keys_read_back}
use Rattle.ds_schema.proofs.SchemaTexts.{text_is_spelled}
use Rattle.ds_text.specs.Forms.{IsDelimiter}
use Rattle.ds_schema.proofs.SchemaPrinted.{narrow, comma, and_none, ends_any, reads_back}
use Rattle.ds_schema.proofs.SizeReaders.{digits_all}
use Rattle.flow_graph.specs.declared.op_kind.AggSpec.{AggSpec}
use Rattle.flow_graph.specs.declared.op_kind.AggSpec.TheVariants as agg
use Rattle.osh_table.specs.declared.option.Form.TheVariants as form
use Rattle.osh_value.specs.declared.value.OptValue.TheVariants as value
use Rattle.osh_value.specs.ValueGrammar.{digits_phrase, case_phrase, pair_phrase, old_name, SpellsColumn, SpellsPair, SpellsValue}
use Rattle.osh_value.proofs.SetsSpelled.{expression_taken, set_taken}
use Rattle.osh_print.specs.OptionText.{with_commas, pair_text, set_text}
use Rattle.osh_sound.specs.ValueLaws.{agg_text, agg_form, IsPair, IsResult, AreWidths, ArePairs, AreCases, ValuesReadBack}
use Rattle.osh_sound.proofs.ExpressionsBack.{kept_again}
use Rattle.osh_sound.proofs.SetsBack.{set_back}

-- ---- all of a value's bytes

whole_prints : (P : Phrase) (A : List ℕ → Type 0) (text : List ℕ) → A [] → Prints Inner P text A → IsAll P text
whole_prints P A text a prints =
    let p = prints [] [] [] a (lexes_end Inner ([] ++ text)) in
    let l : Lexes Inner [] text p.0 = subst (λ (xs : List ℕ). Lexes Inner [] xs p.0) (append-nil text) p.1 in
    (l.whole, subst (λ (ts : List Lexeme). P ts []) (sym l.tokens) p.2)

-- ---- lists as they are printed

abbrev EachPrints : {X : Type 0} → (X → Phrase) → (X → List ℕ) → (List ℕ → Type 0) → List X → Type 0
EachPrints one text A xs = AllByRecursion (λ x. Prints Inner (one x) (text x) A) xs

-- a comma may follow
abbrev CommaIn : (List ℕ → Type 0) → Type 0
CommaIn A = (rest : List ℕ) → A (44 ∷ rest)

comma_ends : (after : List ℕ) → Ends 44 after
comma_ends after = ends_any 44 (λ c. rw (and_none (c == 61)) refl) after

further_ends : {X : Type 0} (text : X → List ℕ) (A : List ℕ → Type 0) → CommaIn A → (xs : List X) (after : List ℕ) → A after → A (flat_map (λ y. codes "," ++ text y) xs ++ after)
further_ends text A c [] after f = f
further_ends text A c (x ∷ xs) after f = subst (λ (t : List ℕ). A (t ++ after)) (sym (flat_map-cons (λ y. codes "," ++ text y) x xs)) (c _)

further_prints : {X : Type 0} (one : X → Phrase) (text : X → List ℕ) (A : List ℕ → Type 0) → CommaIn A → (xs : List X) → EachPrints one text A xs → Prints Inner (further one xs) (flat_map (λ y. codes "," ++ text y) xs) A
further_prints one text A c [] h = narrow nothing [] anything A (λ after f. tt) (prints_nothing Inner)
further_prints one text A c (x ∷ xs) h =
    subst (λ (t : List ℕ). Prints Inner (further one (x ∷ xs)) t A) (sym (flat_map-cons (λ y. codes "," ++ text y) x xs ∙ append_assoc (codes ",") (text x) (flat_map (λ y. codes "," ++ text y) xs)))
    (prints_then Inner (word (codes ",")) (one x ~ further one xs) (codes ",") (text x ++ flat_map (λ y. codes "," ++ text y) xs) (Ends 44) A comma
    (prints_then Inner (one x) (further one xs) (text x) (flat_map (λ y. codes "," ++ text y) xs) A A h.0 (further_prints one text A c xs h.1) (further_ends text A c xs))
    (λ after f. comma_ends ((text x ++ flat_map (λ y. codes "," ++ text y) xs) ++ after)))

list_prints : {X : Type 0} (one : X → Phrase) (text : X → List ℕ) (A : List ℕ → Type 0) → CommaIn A → (xs : List X) → 1 ≤ length xs → EachPrints one text A xs → Prints Inner (listed one xs) (with_commas text xs) A
list_prints one text A c [] some h = absurd (omega arith)
list_prints one text A c (x ∷ xs) some h = prints_then Inner (one x) (further one xs) (text x) (flat_map (λ y. codes "," ++ text y) xs) A A h.0 (further_prints one text A c xs h.1) (further_ends text A c xs)

-- ---- widths

number_prints : (n : ℕ) → n < 2 ^ 64 → Prints Inner (number n) (decimal n) (Fails is_number_byte)
number_prints n h =
    let d = decimal_is_IsNumeral n h in
    prints_number Inner (decimal n) (λ bytes. IsNumeral 10 bytes × (digits_value 10 bytes ≡ n)) d d.0.0 (digits_all (decimal n) d.0.1)

below : (w : ℕ) → w ≤ 65536 → w < 2 ^ 64
below w h = let k : 65536 < 2 ^ 64 = lit< tt in omega arith

each_width : (widths : List ℕ) → AllByRecursion (λ w. (1 ≤ w) × (w ≤ 65536)) widths → EachPrints number decimal (Fails is_number_byte) widths
each_width [] h = tt
each_width (w ∷ ws) h = (number_prints w (below w h.0.1), each_width ws h.1)

widths_back : (widths : List ℕ) → AreWidths widths → SpellsValue form.Widths (with_commas decimal widths) (value.Widths widths)
widths_back widths h =
    let all = whole_prints (listed number widths) (Fails is_number_byte) (with_commas decimal widths) tt (list_prints number decimal (Fails is_number_byte) (λ rest. refl) widths h.some (each_width widths h.each)) in
    (widths, (all.0, (h.each, all.1)), refl)

-- ---- cases

-- what prints a phrase prints one that it stands for
prints_as : (P Q : Phrase) (text : List ℕ) (A : List ℕ → Type 0) → ((ts rest : List Lexeme) → P ts rest → Q ts rest) → Prints Inner P text A → Prints Inner Q text A
prints_as P Q text A f p front after ts a l = let k = p front after ts a l in (k.0, k.1, f k.0 ts k.2)

plain_stands : (n : ℕ) (ts rest : List Lexeme) → number n ts rest → digits_phrase pos (pos n) ts rest
plain_stands n [] rest h = absurd h
plain_stands n (t ∷ ts) rest h = (h.0, (h.1.0, ap (λ m. pos m) (sym h.1.1)), h.2)

minus_stands : (n : ℕ) (ts rest : List Lexeme) → number (suc n) ts rest → digits_phrase (λ m. neg_ℤ (pos m)) (negsuc n) ts rest
minus_stands n [] rest h = absurd h
minus_stands n (t ∷ ts) rest h = (h.0, (h.1.0, ap (λ m. neg_ℤ (pos m)) (sym h.1.1)), h.2)

minus : Prints Inner (word (codes "-")) (codes "-") (Ends 45)
minus = prints_piece Inner sort.Sign (codes "-") (Ends 45) (omega arith) (λ after f. rw f refl)

case_prints : (z : ℤ) → FitsSigned w64 z → Prints Inner (case_phrase z) (signed_decimal z) (Fails is_number_byte)
case_prints (pos n) h =
    prints_as (number n) (case_phrase (pos n)) (decimal n) (Fails is_number_byte) (λ ts rest k. inr (plain_stands n ts rest k)) (number_prints n (let k : 2 ^ 63 < 2 ^ 64 = lit< tt in omega arith))
case_prints (negsuc n) h =
    prints_as (word (codes "-") ~ number (suc n)) (case_phrase (negsuc n)) (codes "-" ++ decimal (suc n)) (Fails is_number_byte) (λ ts rest k. inl (k.0, k.1, minus_stands n k.0 rest k.2))
    (prints_then Inner (word (codes "-")) (number (suc n)) (codes "-") (decimal (suc n)) (Ends 45) (Fails is_number_byte) minus (number_prints (suc n) (let k : 2 ^ 63 < 2 ^ 64 = lit< tt in omega arith))
    (λ after f. ends_any 45 (λ c. rw (and_none (c == 61)) refl) (decimal (suc n) ++ after)))

each_case : (cases : List ℤ) → AllByRecursion (FitsSigned w64) cases → EachPrints case_phrase signed_decimal (Fails is_number_byte) cases
each_case [] h = tt
each_case (z ∷ zs) h = (case_prints z h.0, each_case zs h.1)

cases_back : (cases : List ℤ) → AreCases cases → SpellsValue form.Cases (with_commas signed_decimal cases) (value.Cases cases)
cases_back cases h =
    let all = whole_prints (listed case_phrase cases) (Fails is_number_byte) (with_commas signed_decimal cases) tt (list_prints case_phrase signed_decimal (Fails is_number_byte) (λ rest. refl) cases h.some (each_case cases h.each)) in
    (cases, (all.0, (h.each, h.differ, all.1)), refl)

-- ---- pairs

abbrev NoWordByte : List ℕ → Type 0
NoWordByte after = Fails is_word_byte after

name_prints : (name : List ℕ) → IsWord name → Prints Inner (name_phrase name) name NoWordByte
name_prints [] h = absurd h
name_prints (b ∷ bytes) h = prints_name Inner b bytes (λ x. x ≡ b ∷ bytes) refl h.0 h.1

equals : Prints Inner (word (codes "=")) (codes "=") (Ends 61)
equals = prints_sign Inner 61 (λ mode after f. by_mode (λ m. piece_at m (61 ∷ after) ≡ Some (Part sort.Sign 1)) (rw f refl) (rw f refl) mode)

no_equals : (b : ℕ) → opens_word b ≡ true → (b == 61) ≡ false
no_equals b h = false_from_ne_true (b == 61) (λ e. (let same : b ≡ 61 = eqb-true _ _ e in let k : opens_word 61 ≡ true = ap opens_word (sym same) ∙ h in absurd cc))

word_ends : (name after : List ℕ) → IsWord name → Ends 61 (name ++ after)
word_ends [] after h = absurd h
word_ends (b ∷ bytes) after h = rw (no_equals b h.0) refl

pair_prints : (p : List ℕ × List ℕ) → IsWord p.0 → IsWord p.1 → Prints Inner (pair_phrase p) (pair_text p) NoWordByte
pair_prints p a b =
    prints_then Inner (name_phrase p.0) (word (codes "=") ~ name_phrase p.1) p.0 (codes "=" ++ p.1) NoWordByte NoWordByte (name_prints p.0 a)
    (prints_then Inner (word (codes "=")) (name_phrase p.1) (codes "=") p.1 (Ends 61) NoWordByte equals (name_prints p.1 b) (λ after f. word_ends p.1 after b))
    (λ after f. refl)

-- a column's name is a word
field_word : (name : List ℕ) → IsFieldName name → IsWord name
field_word [] h = let k = h.begun in absurd cc
field_word (b ∷ bytes) h = (h.begun, word_bytes bytes (second_so (is_opt_byte b) (list_all is_opt_byte bytes) h.each))
  where
    word_bytes : (bytes : List ℕ) → list_all is_opt_byte bytes ≡ true → list_all is_word_byte bytes ≡ true
    word_bytes [] h = refl
    word_bytes (b ∷ bytes) h = rw (first_so (is_opt_byte b) (list_all is_opt_byte bytes) h) (word_bytes bytes (second_so (is_opt_byte b) (list_all is_opt_byte bytes) h))

each_pair : (pairs : List (List ℕ × List ℕ)) → AllByRecursion IsPair pairs → EachPrints pair_phrase pair_text NoWordByte pairs
each_pair [] h = tt
each_pair (p ∷ ps) h = (pair_prints p (field_word p.0 h.0.0) h.0.1.0, each_pair ps h.1)

all_given : (pairs : List (List ℕ × List ℕ)) → AllByRecursion IsPair pairs → AllByRecursion (λ (p : List ℕ × List ℕ). IsFieldName p.0) pairs
all_given [] h = tt
all_given (p ∷ pairs) h = (h.0.0, all_given pairs h.1)

all_named : (pairs : List (List ℕ × List ℕ)) → AllByRecursion IsPair pairs → AllByRecursion (λ (p : List ℕ × List ℕ). IsName (old_name p)) pairs
all_named [] h = tt
all_named (p ∷ pairs) h = (h.0.1.1, all_named pairs h.1)

renames_back : (pairs : List (List ℕ × List ℕ)) → ArePairs pairs → SpellsValue form.Renames (with_commas pair_text pairs) (value.Renames pairs)
renames_back pairs h =
    let all = whole_prints (listed pair_phrase pairs) NoWordByte (with_commas pair_text pairs) tt (list_prints pair_phrase pair_text NoWordByte (λ rest. refl) pairs h.some (each_pair pairs h.each)) in
    (pairs, (all.0, (all_given pairs h.each, record { each = all_named pairs h.each; differ = h.differ }, all.1)), refl)

-- ---- results

pair_back : (p : List ℕ × List ℕ) → IsPair p → SpellsPair (pair_text p) p
pair_back p h =
    let all = whole_prints (pair_phrase p) NoWordByte (pair_text p) tt (pair_prints p (field_word p.0 h.0) h.1.0) in
    (all.0, (h.0, h.1.1, all.1))

count_back : (new : List ℕ) → IsFieldName new → SpellsColumn new new
count_back new h =
    let all = whole_prints (name_phrase new) NoWordByte new tt (name_prints new (field_word new h)) in
    (all.0, (h, all.1))

results_back : (r : AggSpec) → IsResult r → SpellsValue (agg_form r) (agg_text r) (value.Result r)
results_back (agg.Count new) h = (new, count_back new h, refl)
results_back (agg.Sum new old) h = ((new, old), pair_back (new, old) h, refl)
results_back (agg.Min new old) h = ((new, old), pair_back (new, old) h, refl)
results_back (agg.Max new old) h = ((new, old), pair_back (new, old) h, refl)
results_back (agg.First new old) h = ((new, old), pair_back (new, old) h, refl)
results_back (agg.Last new old) h = ((new, old), pair_back (new, old) h, refl)

-- ---- all

is_delimiter : (b : ℕ) → ((b == 10) || (b == 13) || (b == 34)) ≡ false → IsDelimiter b
is_delimiter b e = record { no_end = λ f. absurd (grind (arith, nat_tests, e, f)); no_return = λ f. absurd (grind (arith, nat_tests, e, f)); no_quote = λ f. absurd (grind (arith, nat_tests, e, f)) }

pub values_back : ValuesReadBack
values_back = record {
  file = λ name h. (name, (refl, h), refl);
  data_set = λ name h s. (name, (refl, h, s), refl);
  schema = λ fields h. (fields, text_is_spelled (schema_text fields) fields (reads_back fields h), refl);
  delim = λ b h. (b, (refl, is_delimiter b h), refl);
  widths = widths_back;
  columns = λ names h. (names, names_read_back names h.some h.named h.words, refl);
  keys = λ keys h. (keys, keys_read_back keys h.some h.named h.words, refl);
  renames = renames_back;
  results = results_back;
  missing = λ m. (m, refl, refl);
  expression = λ kept h. (kept, expression_taken kept kept (kept_again kept h), refl);
  set = λ s h. (s, set_taken (set_text s) s (set_back s h), refl);
  cases = cases_back;
}
