-- What is read as the value of an option can be spelled as one.
use Rattle.std.proofs.Common.{◌≡◌, ◌≤◌, ◌+◌, ◌-◌, ◌⊎◌, inl, inr, ℕ, suc, drop, List, [], ◌∷◌, ◌++◌, length, Bool, true, Some, refl, sym, ap, ◌∙◌, subst, arith, length-append}
use Rattle.std.specs.Prelude.{not, ◌&&◌, ◌==◌, codes}
use Rattle.std.specs.List.{AllByRecursion, list_all}
use Rattle.std.specs.Cmp.{first_so, second_so}
use Rattle.std.proofs.lemmas.Bool.{eqb-true, ne_eqb, or_cases, and_from}
use Rattle.std.proofs.lemmas.Bool.Decides.{nat_tests}
use Rattle.std.proofs.lemmas.List.Folds.{list_all-append}
use Rattle.std.proofs.Math.Seq.{take-append_seam}
use Rattle.ds_value.specs.Names.{IsName}
use Rattle.ds_lex.specs.declared.token.Mode.TheVariants.{Osh, Inner}
use Rattle.ds_lex.specs.declared.token.Sort.{Sort}
use Rattle.ds_lex.specs.declared.token.Sort.TheVariants as sort
use Rattle.ds_lex.specs.Pieces.{is_digit, is_word_byte, is_text_byte, opens_word}
use Rattle.ds_lex.specs.Lexemes.{Lexeme, lexed_text}
use Rattle.ds_lex.specs.Tokens.{IsWord, IsNumber, IsQuoted, IsToken}
use Rattle.ds_lex.specs.Phrases.{Phrase}
use Rattle.ds_schema.specs.Schemas.{IsFieldName, IsSchema}
use Rattle.ds_schema.specs.ColumnGrammar.{listed}
use Rattle.ds_schema.specs.SchemaGrammar.{number}
use Rattle.ds_text.specs.Forms
use Rattle.osh_table.specs.declared.option.Form.{Form}
use Rattle.osh_table.specs.declared.option.Form.TheVariants as form
use Rattle.osh_value.specs.declared.value.OptValue.{OptValue}
use Rattle.osh_value.specs.declared.value.OptValue.TheVariants as value
use Rattle.expr_read.specs.Reading.{content}
use Rattle.osh_value.specs.Values.{content_by, content_of, kept_expression}
use Rattle.osh_value.specs.ValueGrammar.{case_phrase, pair_phrase, old_name, SpellsPair, SpellsRenames, SpellsValue}
use Rattle.osh_value.proofs.SetsSpelled.{expression_read}
use Rattle.osh_read.specs.Options.{is_value}
use Rattle.osh_sound.specs.ValueLaws.{IsPair, IsResult, AreWidths, ArePairs, AreCases, AreColumns, AreKeys}
use Rattle.osh_sound.proofs.ExpressionsBack.{read_expression, kept_spanned}
use Rattle.osh_back.specs.Spelled.{IsDelimiter, IsDataSet, ExpressionFits, SetFits}
use Rattle.osh_back.proofs.Quotables.{Lacks, OneQuote, one_drop, one_spanned, one_quotable}
use Rattle.osh_back.proofs.ReadLists.{Each, listed_each, one_name, text_sound, sound_behind, read_columns, read_keys}

-- what is said by a value of each form
abbrev pub GoodValue : Form → OptValue → Type 0
GoodValue form.Flag value.Flag = Unit {0}
GoodValue form.File (value.Name name) = IsName name
GoodValue form.DataSet (value.Name name) = IsDataSet name
GoodValue form.Schema (value.Schema fields) = IsSchema fields
GoodValue form.Delim (value.Delim b) = IsDelimiter b
GoodValue form.Widths (value.Widths widths) = AreWidths widths
GoodValue form.Columns (value.Columns names) = AreColumns names
GoodValue form.Keys (value.Keys keys) = AreKeys keys
GoodValue form.Renames (value.Renames pairs) = ArePairs pairs
GoodValue form.Missing (value.Missing m) = Unit {0}
GoodValue form.Count (value.Result r) = IsResult r
GoodValue form.Sum (value.Result r) = IsResult r
GoodValue form.Min (value.Result r) = IsResult r
GoodValue form.Max (value.Result r) = IsResult r
GoodValue form.First (value.Result r) = IsResult r
GoodValue form.Last (value.Result r) = IsResult r
GoodValue form.Expression (value.Expression kept) = ExpressionFits kept
GoodValue form.Setting (value.Set s) = SetFits s
GoodValue form.Cases (value.Cases cases) = AreCases cases
GoodValue f v = ⊥

-- ---- lists

listed_some : {X : Type 0} (one : X → Phrase) (xs : List X) (ts rest : List Lexeme) → listed one xs ts rest → 1 ≤ length xs
listed_some one [] ts rest h = absurd h
listed_some one (x ∷ xs) ts rest h = omega arith

-- the old name of a pair is a word
one_pair : Each Inner (λ (p : List ℕ × List ℕ). IsWord p.1) pair_phrase
one_pair p ts rest s h =
    let new = one_name Inner p.0 ts h.0 s h.1 in
    one_name Inner p.1 h.2.0 rest (sound_behind Inner (codes "=") h.0 h.2.0 new.1 h.2.1) h.2.2

are_pairs : (pairs : List (List ℕ × List ℕ)) → AllByRecursion (λ (p : List ℕ × List ℕ). IsFieldName p.0) pairs → AllByRecursion (λ (p : List ℕ × List ℕ). IsName (old_name p)) pairs → AllByRecursion (λ (p : List ℕ × List ℕ). IsWord p.1) pairs → AllByRecursion IsPair pairs
are_pairs [] f n w = tt
are_pairs (p ∷ pairs) f n w = ((f.0, (w.0, n.0)), are_pairs pairs f.1 n.1 w.1)

read_renames : (bytes : List ℕ) (pairs : List (List ℕ × List ℕ)) → SpellsRenames bytes pairs → ArePairs pairs
read_renames bytes pairs h =
    let e = listed_each Inner (λ (p : List ℕ × List ℕ). IsWord p.1) pair_phrase one_pair pairs (lexed_text Inner bytes).lexemes [] (text_sound Inner bytes) h.1.2 in
    record { some = e.0; each = are_pairs pairs h.1.0 h.1.1.each e.1; differ = h.1.1.differ }

read_pair : (bytes : List ℕ) (p : List ℕ × List ℕ) → SpellsPair bytes p → IsPair p
read_pair bytes p h = (h.1.0, ((one_pair p (lexed_text Inner bytes).lexemes [] (text_sound Inner bytes) h.1.2).0, h.1.1))

-- ---- bytes

read_delim : (bytes : List ℕ) (b : ℕ) → list_all is_text_byte bytes ≡ true → bytes ≡ b ∷ [] → Forms.IsDelimiter b → IsDelimiter b
read_delim bytes b t e d = record {
  text = first_so (is_text_byte b) true (subst (λ (xs : List ℕ). list_all is_text_byte xs ≡ true) e t);
  other = rw (ne_eqb b 10 d.no_end, ne_eqb b 13 d.no_return, ne_eqb b 34 d.no_quote) refl;
}

-- what is kept of an expression in a value
kept_fits : (text kept : List ℕ) → OneQuote text → kept_expression text ≡ Some kept → ExpressionFits kept
kept_fits text kept q h = (read_expression text kept h, one_quotable kept (subst OneQuote (sym (kept_spanned text kept h)) (one_spanned text (lexed_text Inner text).lexemes q)))

-- ---- all forms

value_good : (f : Form) (bytes : List ℕ) (v : OptValue) → OneQuote bytes → SpellsValue f bytes v → GoodValue f v
value_good form.Flag bytes v q h = absurd h
value_good form.File bytes v q h = subst (GoodValue form.File) (sym h.2) (subst IsName (sym h.1.0) h.1.1)
value_good form.DataSet bytes v q h = subst (GoodValue form.DataSet) (sym h.2) (subst IsDataSet (sym h.1.0) (record { named = h.1.1; short = h.1.2 }))
value_good form.Schema bytes v q h = subst (GoodValue form.Schema) (sym h.2) h.1.1.1
value_good form.Delim bytes v q h = subst (GoodValue form.Delim) (sym h.2) (read_delim bytes h.0 q.texts h.1.0 h.1.1)
value_good form.Widths bytes v q h = subst (GoodValue form.Widths) (sym h.2) (record { some = listed_some number h.0 (lexed_text Inner bytes).lexemes [] h.1.1.1; each = h.1.1.0 })
value_good form.Columns bytes v q h = subst (GoodValue form.Columns) (sym h.2) (read_columns Inner h.0 (lexed_text Inner bytes).lexemes [] (text_sound Inner bytes) h.1.1)
value_good form.Keys bytes v q h = subst (GoodValue form.Keys) (sym h.2) (read_keys Inner h.0 (lexed_text Inner bytes).lexemes [] (text_sound Inner bytes) h.1.1)
value_good form.Renames bytes v q h = subst (GoodValue form.Renames) (sym h.2) (read_renames bytes h.0 h.1)
value_good form.Cases bytes v q h = subst (GoodValue form.Cases) (sym h.2) (record { some = listed_some case_phrase h.0 (lexed_text Inner bytes).lexemes [] h.1.1.2; each = h.1.1.0; differ = h.1.1.1 })
value_good form.Count bytes v q h = subst (GoodValue form.Count) (sym h.2) h.1.1.0
value_good form.Sum bytes v q h = subst (GoodValue form.Sum) (sym h.2) (read_pair bytes h.0 h.1)
value_good form.Min bytes v q h = subst (GoodValue form.Min) (sym h.2) (read_pair bytes h.0 h.1)
value_good form.Max bytes v q h = subst (GoodValue form.Max) (sym h.2) (read_pair bytes h.0 h.1)
value_good form.First bytes v q h = subst (GoodValue form.First) (sym h.2) (read_pair bytes h.0 h.1)
value_good form.Last bytes v q h = subst (GoodValue form.Last) (sym h.2) (read_pair bytes h.0 h.1)
value_good form.Missing bytes v q h = subst (GoodValue form.Missing) (sym h.2) tt
value_good form.Expression bytes v q h = subst (GoodValue form.Expression) (sym h.2) (kept_fits bytes h.0 q (expression_read bytes h.0 h.1))
value_good form.Setting bytes v q h =
    let set = h.1 in
    subst (GoodValue form.Setting) (sym h.2) (set.field, kept_fits (drop (set.at + 1) bytes) h.0.expr (one_drop (set.at + 1) bytes q) (expression_read (drop (set.at + 1) bytes) h.0.expr set.expr))

-- ---- the bytes of a value in a flow

all_text : (p : ℕ → Bool) → ((b : ℕ) → p b ≡ true → is_text_byte b ≡ true) → (bytes : List ℕ) → list_all p bytes ≡ true → list_all is_text_byte bytes ≡ true
all_text p f [] h = refl
all_text p f (b ∷ bytes) h = and_from (is_text_byte b) (list_all is_text_byte bytes) (f b (first_so (p b) (list_all p bytes) h)) (all_text p f bytes (second_so (p b) (list_all p bytes) h))

opens_text : (b : ℕ) → opens_word b ≡ true → is_text_byte b ≡ true
opens_text b h = grind (arith, nat_tests)

word_text : (b : ℕ) → is_word_byte b ≡ true → is_text_byte b ≡ true
word_text b h = grind (arith, nat_tests)

digit_text : (b : ℕ) → is_digit b ≡ true → is_text_byte b ≡ true
digit_text b h = grind (arith, nat_tests)

word_bytes : (bytes : List ℕ) → IsWord bytes → list_all is_text_byte bytes ≡ true
word_bytes [] h = refl
word_bytes (b ∷ bytes) h = and_from (is_text_byte b) (list_all is_text_byte bytes) (opens_text b h.0) (all_text is_word_byte word_text bytes h.1)

number_bytes : (bytes : List ℕ) → IsNumber bytes → list_all is_text_byte bytes ≡ true
number_bytes bytes h =
    elim h [
      | inl a ↦ all_text is_digit digit_text bytes a.1
      | inr c ↦ subst (λ xs. list_all is_text_byte xs ≡ true) (sym c.2) (list_all-append is_text_byte c.0 (46 ∷ c.1) ∙ and_from (list_all is_text_byte c.0) (list_all is_text_byte (46 ∷ c.1)) (all_text is_digit digit_text c.0 c.3.1) (all_text is_digit digit_text c.1 c.4.1))
    ]

content_back : (q : ℕ) (bytes : List ℕ) → content (q ∷ (bytes ++ q ∷ [])) ≡ bytes
content_back q bytes =
    let l : length (q ∷ (bytes ++ q ∷ [])) - 1 ≡ suc (length bytes) = (let k = length-append bytes (q ∷ []) in omega arith) in
    rw l (take-append_seam bytes (q ∷ []))

quoted_bytes : (bytes : List ℕ) → IsQuoted bytes → list_all is_text_byte (content bytes) ≡ true
quoted_bytes bytes h =
    subst (λ xs. list_all is_text_byte xs ≡ true) (sym (ap content h.parts ∙ content_back h.quote h.inside))
    (all_text (λ b. is_text_byte b && not (b == h.quote)) (λ b k. first_so (is_text_byte b) (not (b == h.quote)) k) h.inside h.each)

word_one : (b : ℕ) → is_word_byte b ≡ true → not (b == 34) ≡ true
word_one b h = grind (arith, nat_tests)

opens_one : (b : ℕ) → opens_word b ≡ true → not (b == 34) ≡ true
opens_one b h = grind (arith, nat_tests)

digit_one : (b : ℕ) → is_digit b ≡ true → not (b == 34) ≡ true
digit_one b h = grind (arith, nat_tests)

all_lack : (p q : ℕ → Bool) → ((b : ℕ) → p b ≡ true → q b ≡ true) → (bytes : List ℕ) → list_all p bytes ≡ true → list_all q bytes ≡ true
all_lack p q f [] h = refl
all_lack p q f (b ∷ bytes) h = and_from (q b) (list_all q bytes) (f b (first_so (p b) (list_all p bytes) h)) (all_lack p q f bytes (second_so (p b) (list_all p bytes) h))

word_lacks : (bytes : List ℕ) → IsWord bytes → Lacks 34 bytes
word_lacks [] h = refl
word_lacks (b ∷ bytes) h = and_from (not (b == 34)) (list_all (λ c. not (c == 34)) bytes) (opens_one b h.0) (all_lack is_word_byte (λ c. not (c == 34)) word_one bytes h.1)

number_lacks : (bytes : List ℕ) → IsNumber bytes → Lacks 34 bytes
number_lacks bytes h =
    elim h [
      | inl a ↦ all_lack is_digit (λ c. not (c == 34)) digit_one bytes a.1
      | inr c ↦ subst (Lacks 34) (sym c.2) (list_all-append (λ x. not (x == 34)) c.0 (46 ∷ c.1) ∙ and_from (list_all (λ x. not (x == 34)) c.0) (list_all (λ x. not (x == 34)) (46 ∷ c.1)) (all_lack is_digit (λ x. not (x == 34)) digit_one c.0 c.3.1) (all_lack is_digit (λ x. not (x == 34)) digit_one c.1 c.4.1))
    ]

quoted_lacks : (bytes : List ℕ) → IsQuoted bytes → Lacks 34 (content bytes) ⊎ Lacks 39 (content bytes)
quoted_lacks bytes h =
    let lacks : Lacks h.quote (content bytes) = subst (Lacks h.quote) (sym (ap content h.parts ∙ content_back h.quote h.inside)) (all_lack (λ b. is_text_byte b && not (b == h.quote)) (λ b. not (b == h.quote)) (λ b k. second_so (is_text_byte b) (not (b == h.quote)) k) h.inside h.each) in
    elim (or_cases (h.quote == 34) (h.quote == 39) h.opens) [
      | inl e ↦ inl (subst (λ n. Lacks n (content bytes)) (eqb-true h.quote 34 e) lacks)
      | inr e ↦ inr (subst (λ n. Lacks n (content bytes)) (eqb-true h.quote 39 e) lacks)
    ]

content_one : (s : Sort) (bytes : List ℕ) → is_value s ≡ true → IsToken Osh s bytes → OneQuote (content_by s bytes)
content_one sort.Word bytes v h = record { texts = word_bytes bytes h; lacks = inl (word_lacks bytes h) }
content_one sort.Number bytes v h = record { texts = number_bytes bytes h; lacks = inl (number_lacks bytes h) }
content_one sort.Quoted bytes v h = record { texts = quoted_bytes bytes h; lacks = quoted_lacks bytes h }
content_one other bytes v h = absurd cc

pub token_good : (f : Form) (v : OptValue) (t : Lexeme) → IsToken Osh t.sort t.bytes → is_value t.sort ≡ true → SpellsValue f (content_of t) v → GoodValue f v
token_good f v t s e h = value_good f (content_of t) v (content_one t.sort t.bytes e s) h
