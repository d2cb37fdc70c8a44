-- Printed options are tokens that spell them.
use Rattle.std.proofs.Common.{◌≡◌, ◌<◌, ◌+◌, ◌-◌, ℕ, suc, List, [], ◌∷◌, ◌++◌, length, Bool, true, false, Some, refl, sym, ap, ◌∙◌, subst, append_assoc, arith, length-append}
use Rattle.std.specs.Prelude.{if◌then◌else◌, not, ◌==◌, position, codes}
use Rattle.std.specs.List.{list_all, flat_map, position_from, AllByRecursion}
use Rattle.std.specs.Cmp.{first_so, second_so}
use Rattle.std.proofs.lemmas.Bool.{cond-true, eq-eqb, not-true}
use Rattle.std.proofs.lemmas.List.{append-nil}
use Rattle.std.proofs.lemmas.List.Concat.{flat_map-cons}
use Rattle.std.proofs.lemmas.Iterator.Adapters.{position_from-zero}
use Rattle.std.proofs.Math.Seq.{take-append_seam}
use Rattle.ds_lex.specs.declared.token.Mode.TheVariants.{Osh}
use Rattle.ds_lex.specs.declared.token.Sort.TheVariants as sort
use Rattle.ds_lex.specs.declared.token.Piece.TheVariants.{Part}
use Rattle.ds_lex.specs.Pieces.{is_letter, is_opt_byte, is_text_byte, quoted_of, piece_at}
use Rattle.ds_lex.specs.Lexemes.{Lexeme, lexed_text}
use Rattle.ds_lex.specs.Phrases.{token, ◌~◌}
use Rattle.ds_lex.proofs.Printed.{Lexes, lexes_end, lexes_token, Prints, Fails, count_until, prints_nothing, prints_then, blank_before, prints_token}
use Rattle.osh_table.specs.declared.operator.OpName.{OpName}
use Rattle.osh_table.specs.declared.option.OptName.{OptName}
use Rattle.osh_table.specs.declared.option.OptName.TheVariants as opt
use Rattle.osh_table.specs.declared.option.OptRow.{OptRow}
use Rattle.osh_table.specs.declared.option.Form.{Form}
use Rattle.osh_table.specs.declared.option.Form.TheVariants as form
use Rattle.osh_table.specs.Words.{option_word}
use Rattle.osh_table.specs.Options.{row_named}
use Rattle.osh_value.specs.declared.value.OptValue.{OptValue}
use Rattle.osh_value.specs.declared.value.OptValue.TheVariants as value
use Rattle.expr_read.specs.Reading.{content}
use Rattle.osh_value.specs.ValueGrammar.{SpellsValue}
use Rattle.osh_print.specs.OptionText.{has_quote, quote_of, quoted, option_text}
use Rattle.osh_sound.specs.Grammar.{WrittenOption, said, value_phrase, option_phrase, options_phrase}
use Rattle.osh_sound.specs.OptionLaws.{value_text, by_form, written_text, IsQuotable, ValueFits, OptionFits}

-- ---- tokens

opt_before : (b : ℕ) (bytes after : List ℕ) → is_letter b ≡ true → list_all is_opt_byte (b ∷ bytes) ≡ true → Fails is_opt_byte after → piece_at Osh ((45 ∷ b ∷ bytes) ++ after) ≡ Some (Part sort.Opt (length (45 ∷ b ∷ bytes)))
opt_before b bytes after l h f =
    let size = count_until is_opt_byte (b ∷ bytes) after h f in
    let n : suc (length bytes) + 1 ≡ suc (suc (length bytes)) = omega arith in
    cond-true (is_letter b) _ _ l ∙ ap (λ k. Some (Part sort.Opt k)) (ap (λ k. k + 1) size ∙ n)

-- the quote isn't found before the end
found_from : (q i : ℕ) (bytes rest : List ℕ) → list_all (λ b. not (b == q)) bytes ≡ true → position_from (λ c. c == q) i (bytes ++ q ∷ rest) ≡ Some (i + length bytes)
found_from q i [] rest h = let n : i + 0 ≡ i = omega arith in rw (eq-eqb q q refl, n) refl
found_from q i (b ∷ bytes) rest h =
    let n : i + suc (length bytes) ≡ i + 1 + length bytes = omega arith in
    rw (not-true (b == q) (first_so (not (b == q)) (list_all (λ b. not (b == q)) bytes) h), n) (found_from q (i + 1) bytes rest (second_so (not (b == q)) (list_all (λ b. not (b == q)) bytes) h))

found_at : (q : ℕ) (bytes rest : List ℕ) → list_all (λ b. not (b == q)) bytes ≡ true → position (λ c. c == q) (bytes ++ q ∷ rest) ≡ Some (length bytes)
found_at q bytes rest h = position_from-zero (λ c. c == q) (bytes ++ q ∷ rest) ∙ (found_from q 0 bytes rest h ∙ (let n : 0 + length bytes ≡ length bytes = omega arith in ap (λ k. Some k) n))

quoted_is : (q : ℕ) (bytes rest : List ℕ) → list_all is_text_byte bytes ≡ true → list_all (λ b. not (b == q)) bytes ≡ true → quoted_of (position (λ c. c == q) (bytes ++ q ∷ rest)) (bytes ++ q ∷ rest) ≡ Some (Part sort.Quoted (length bytes + 2))
quoted_is q bytes rest t h = rw (found_at q bytes rest h, take-append_seam bytes (q ∷ rest), t) refl

quoted_len : (q : ℕ) (bytes : List ℕ) → length bytes + 2 ≡ length (q ∷ (bytes ++ q ∷ []))
quoted_len q bytes = let l = length-append bytes (q ∷ []) in omega arith

quoted_by : (bytes after : List ℕ) (b : Bool) → list_all is_text_byte bytes ≡ true → list_all (λ x. not (x == (if b then 39 else 34))) bytes ≡ true
    → (let q : ℕ = if b then 39 else 34 in piece_at Osh (q ∷ (bytes ++ q ∷ after)) ≡ Some (Part sort.Quoted (length (q ∷ (bytes ++ q ∷ [])))))
quoted_by bytes after true t h = quoted_is 39 bytes after t h ∙ ap (λ n. Some (Part sort.Quoted n)) (quoted_len 39 bytes)
quoted_by bytes after false t h = quoted_is 34 bytes after t h ∙ ap (λ n. Some (Part sort.Quoted n)) (quoted_len 34 bytes)

quoted_before : (bytes after : List ℕ) → IsQuotable bytes → piece_at Osh (quoted bytes ++ after) ≡ Some (Part sort.Quoted (length (quoted bytes)))
quoted_before bytes after h = ap (λ (xs : List ℕ). piece_at Osh (quote_of bytes ∷ xs)) (append_assoc bytes (quote_of bytes ∷ []) after) ∙ quoted_by bytes after (has_quote bytes) h.texts h.quote

content_back : (q : ℕ) (bytes : List ℕ) → content (q ∷ (bytes ++ q ∷ [])) ≡ bytes
content_back q bytes =
    let l : length (q ∷ (bytes ++ q ∷ [])) - 1 ≡ suc (length bytes) = (let k = length-append bytes (q ∷ []) in omega arith) in
    rw l (take-append_seam bytes (q ∷ []))

-- ---- options

abbrev After : List ℕ → Type 0
After after = Fails is_opt_byte after

-- the word of an option: a dash, a letter, and more
pub record IsDashed (bytes : List ℕ) : Type 0 where
  pub letter : ℕ
  pub more : List ℕ
  pub parts : bytes ≡ 45 ∷ letter ∷ more
  pub first : is_letter letter ≡ true
  pub each : list_all is_opt_byte (letter ∷ more) ≡ true

dashed : (o : OptName) → IsDashed (option_word o)
dashed opt.File = record { letter = 102; more = codes "ile"; parts = refl; first = refl; each = refl }
dashed opt.Schema = record { letter = 115; more = codes "chema"; parts = refl; first = refl; each = refl }
dashed opt.Delim = record { letter = 100; more = codes "elim"; parts = refl; first = refl; each = refl }
dashed opt.Fixed = record { letter = 102; more = codes "ixed"; parts = refl; first = refl; each = refl }
dashed opt.Reject = record { letter = 114; more = codes "eject"; parts = refl; first = refl; each = refl }
dashed opt.Ds = record { letter = 100; more = codes "s"; parts = refl; first = refl; each = refl }
dashed opt.Where = record { letter = 119; more = codes "here"; parts = refl; first = refl; each = refl }
dashed opt.Set = record { letter = 115; more = codes "et"; parts = refl; first = refl; each = refl }
dashed opt.Keep = record { letter = 107; more = codes "eep"; parts = refl; first = refl; each = refl }
dashed opt.Drop = record { letter = 100; more = codes "rop"; parts = refl; first = refl; each = refl }
dashed opt.Rename = record { letter = 114; more = codes "ename"; parts = refl; first = refl; each = refl }
dashed opt.On = record { letter = 111; more = codes "n"; parts = refl; first = refl; each = refl }
dashed opt.Cases = record { letter = 99; more = codes "ases"; parts = refl; first = refl; each = refl }
dashed opt.Key = record { letter = 107; more = codes "ey"; parts = refl; first = refl; each = refl }
dashed opt.Last = record { letter = 108; more = codes "ast"; parts = refl; first = refl; each = refl }
dashed opt.Hash = record { letter = 104; more = codes "ash"; parts = refl; first = refl; each = refl }
dashed opt.Sum = record { letter = 115; more = codes "um"; parts = refl; first = refl; each = refl }
dashed opt.Count = record { letter = 99; more = codes "ount"; parts = refl; first = refl; each = refl }
dashed opt.Min = record { letter = 109; more = codes "in"; parts = refl; first = refl; each = refl }
dashed opt.Max = record { letter = 109; more = codes "ax"; parts = refl; first = refl; each = refl }
dashed opt.First = record { letter = 102; more = codes "irst"; parts = refl; first = refl; each = refl }
dashed opt.Keepbad = record { letter = 107; more = codes "eepbad"; parts = refl; first = refl; each = refl }
dashed opt.Missing = record { letter = 109; more = codes "issing"; parts = refl; first = refl; each = refl }
dashed opt.Values = record { letter = 118; more = codes "alues"; parts = refl; first = refl; each = refl }
dashed opt.Keepcopy = record { letter = 107; more = codes "eepcopy"; parts = refl; first = refl; each = refl }
dashed opt.Sequence = record { letter = 115; more = codes "equence"; parts = refl; first = refl; each = refl }
dashed opt.Sort = record { letter = 115; more = codes "ort"; parts = refl; first = refl; each = refl }

opt_prints : (op : OpName) (row : OptRow) → row_named op (option_word row.opt) ≡ Some row → Prints Osh (token sort.Opt (λ bytes. row_named op bytes ≡ Some row)) (option_word row.opt) After
opt_prints op row r =
    let d = dashed row.opt in
    let some : 0 < length (option_word row.opt) = (let l = ap length d.parts in omega arith) in
    prints_token Osh sort.Opt (λ bytes. row_named op bytes ≡ Some row) (option_word row.opt) After some r
    (λ after f. subst (λ (xs : List ℕ). piece_at Osh (xs ++ after) ≡ Some (Part sort.Opt (length xs))) (sym d.parts) (opt_before d.letter d.more after d.first d.each f))

-- a value in quotes says it
said_prints : (f : Form) (v : OptValue) → IsQuotable (value_text v) → SpellsValue f (value_text v) v → Prints Osh (said f v) (quoted (value_text v)) After
said_prints f v q h front after ts a l =
    let x = quoted (value_text v) in
    let inside : content x ≡ value_text v = content_back (quote_of (value_text v)) (value_text v) in
    (record { at = length front; sort = sort.Quoted; bytes = x } ∷ ts, lexes_token Osh sort.Quoted front x after ts (omega arith) (quoted_before (value_text v) after q) l, (refl, subst (λ (xs : List ℕ). SpellsValue f xs v) (sym inside) h, refl))

blank_word : (op : OpName) (w : WrittenOption) → OptionFits op w → Prints Osh (token sort.Opt (λ bytes. row_named op bytes ≡ Some w.row)) (32 ∷ option_word w.row.opt) After
blank_word op w h = blank_before Osh (token sort.Opt (λ bytes. row_named op bytes ≡ Some w.row)) 32 (option_word w.row.opt) After refl (opt_prints op w.row h.row)

-- nothing is printed of a flag's value
flag_prints : (v : OptValue) → v ≡ value.Flag → Prints Osh (value_phrase form.Flag v) [] After
flag_prints v e front after ts a l = (ts, subst (λ (xs : List ℕ). Lexes Osh xs after ts) (append-nil front) l, (e, refl))

blank_value : (f : Form) (v : OptValue) → IsQuotable (value_text v) → SpellsValue f (value_text v) v → Prints Osh (said f v) (32 ∷ quoted (value_text v)) After
blank_value f v q h = blank_before Osh (said f v) 32 (quoted (value_text v)) After refl (said_prints f v q h)

valued : (op : OpName) (w : WrittenOption) (f : Form) → OptionFits op w → IsQuotable (value_text w.value) → SpellsValue f (value_text w.value) w.value
    → Prints Osh (token sort.Opt (λ bytes. row_named op bytes ≡ Some w.row) ~ said f w.value) (option_text w.row.opt (value_text w.value)) After
valued op w f h q e = prints_then Osh (token sort.Opt (λ bytes. row_named op bytes ≡ Some w.row)) (said f w.value) (32 ∷ option_word w.row.opt) (32 ∷ quoted (value_text w.value)) After After (blank_word op w h) (blank_value f w.value q e) (λ after k. refl)

by_prints : (op : OpName) (w : WrittenOption) (f : Form) → OptionFits op w → ValueFits f w.value → Prints Osh (token sort.Opt (λ bytes. row_named op bytes ≡ Some w.row) ~ value_phrase f w.value) (by_form f w) After
by_prints op w form.Flag h v =
    subst (λ (xs : List ℕ). Prints Osh (token sort.Opt (λ bytes. row_named op bytes ≡ Some w.row) ~ value_phrase form.Flag w.value) xs After) (append-nil (32 ∷ option_word w.row.opt))
    (prints_then Osh (token sort.Opt (λ bytes. row_named op bytes ≡ Some w.row)) (value_phrase form.Flag w.value) (32 ∷ option_word w.row.opt) [] After After (blank_word op w h) (flag_prints w.value v) (λ after k. k))
by_prints op w f h v = valued op w f h v.0 v.1

option_prints : (op : OpName) (w : WrittenOption) → OptionFits op w → Prints Osh (option_phrase op w) (written_text w) After
option_prints op w h = by_prints op w w.row.form h h.value

-- each option is printed behind a blank
by_blank : (f : Form) (w : WrittenOption) (after : List ℕ) → After (by_form f w ++ after)
by_blank form.Flag w after = refl
by_blank f w after = refl

pub options_print : (op : OpName) (ws : List WrittenOption) → AllByRecursion (OptionFits op) ws → Prints Osh (options_phrase op ws) (flat_map written_text ws) After
options_print op [] h = λ front after ts a l. prints_nothing Osh front after ts tt l
options_print op (w ∷ ws) h =
    subst (λ (xs : List ℕ). Prints Osh (options_phrase op (w ∷ ws)) xs After) (sym (flat_map-cons written_text w ws))
    (prints_then Osh (option_phrase op w) (options_phrase op ws) (written_text w) (flat_map written_text ws) After After (option_prints op w h.0) (options_print op ws h.1) (front ws))
  where
    front : (ws : List WrittenOption) (after : List ℕ) → After after → After (flat_map written_text ws ++ after)
    front [] after a = a
    front (v ∷ ws) after a = subst (λ (xs : List ℕ). After (xs ++ after)) (sym (flat_map-cons written_text v ws)) (subst After (sym (append_assoc (written_text v) (flat_map written_text ws) after)) (by_blank v.row.form v (flat_map written_text ws ++ after)))

pub options_printed : (op : OpName) (ws : List WrittenOption) → AllByRecursion (OptionFits op) ws → options_phrase op ws (lexed_text Osh (flat_map written_text ws)).lexemes []
options_printed op ws h =
    let text = flat_map written_text ws in
    let p = options_print op ws h [] [] [] tt (lexes_end Osh ([] ++ text)) in
    let l : Lexes Osh [] text p.0 = subst (λ (xs : List ℕ). Lexes Osh [] xs p.0) (append-nil text) p.1 in
    subst (λ (ts : List Lexeme). options_phrase op ws ts []) (sym l.tokens) p.2
