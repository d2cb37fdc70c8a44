-- What bytes say as a value of a form is what they spell.
use Rattle.std.proofs.Common.{◌≡◌, ◌≢◌, ◌≤◌, ℕ, List, [], ◌∷◌, Bool, true, false, Result, Ok, Err, Option, Some, None, length, refl, sym, ap, ◌∙◌, arith}
use Rattle.std.specs.Prelude.{if◌then◌else◌, ◌||◌, ◌==◌, nat_le, IfOk, codes}
use Rattle.std.specs.Option.{option_map}
use Rattle.std.specs.Str.{bytes_eq}
use Rattle.std.proofs.lemmas.Bool.{leb-true, le-leb, ne_eqb}
use Rattle.std.proofs.lemmas.Bool.Decides.{nat_tests}
use Rattle.ds_value.specs.declared.memory.NoMemory.{NoMemory}
use Rattle.ds_value.specs.Names.{IsName}
use Rattle.ds_lex.specs.declared.token.Mode.TheVariants.{Inner}
use Rattle.ds_lex.specs.Lexemes.{Lexeme, LexedText, lexed_text}
use Rattle.ds_lex.specs.Reading.{◌>>=◌, finish_at}
use Rattle.ds_lex.specs.Phrases.{Phrase}
use Rattle.ds_lex.proofs.Readers.{none_accepted, same_bytes}
use Rattle.ds_schema.specs.declared.schema.Field.{Field}
use Rattle.ds_schema.specs.declared.schema_text.fault.SchemaFault.{SchemaFault}
use Rattle.ds_schema.specs.SchemaReading.{schema_of}
use Rattle.ds_schema.specs.SchemaLaws.{SpellsText}
use Rattle.ds_schema.specs.ColumnGrammar.{names_form, keys_form, Found}
use Rattle.ds_schema.specs.ColumnReading.{is_name, names_at, keys_at}
use Rattle.ds_schema.proofs.ColumnLists.{names_stand, keys_stand, standing_names, standing_keys}
use Rattle.ds_schema.proofs.SchemaTexts.{text_is_spelled, spelled_text}
use Rattle.ds_text.specs.Forms.{IsDelimiter}
use Rattle.op_base.specs.declared.missing.Missing.{Missing}
use Rattle.op_base.specs.declared.missing.Missing.TheVariants as missing
use Rattle.flow_graph.specs.declared.op_kind.AggSpec.TheVariants as agg
use Rattle.osh_table.specs.declared.option.Form.{Form}
use Rattle.osh_table.specs.declared.option.Form.TheVariants as form
use Rattle.osh_value.specs.declared.value.OptValue.{OptValue}
use Rattle.osh_value.specs.declared.value.OptValue.TheVariants as value
use Rattle.osh_value.specs.Values.{Inside, file_value, schema_value, delim_value, missing_named, kept_expression, set_value, new_name_at, rename_at, renames_at, widths_at, cases_at, whole_at, if_read, unless_bad, value_of}
use Rattle.osh_value.specs.ValueGrammar.{widths_form, cases_form, column_form, pair_form, renames_form, missing_word, Made, SpellsValue, OneIsSpelled}
use Rattle.osh_value.proofs.Names.{name_tested, tested_name}
use Rattle.osh_value.proofs.WidthsSpelled.{widths_taken, widths_read}
use Rattle.osh_value.proofs.CasesSpelled.{cases_taken, cases_read}
use Rattle.osh_value.proofs.RenamesSpelled.{column_taken, column_read, pair_taken, pair_read, renames_taken, renames_read}
use Rattle.osh_value.proofs.SetsSpelled.{expression_taken, expression_read, set_taken, set_read}

some_is : {A : Type 0} (x y : A) → (let o : Option A = Some x in o) ≡ Some y → x ≡ y
some_is x y h = cc

-- ---- values that are read as tokens

-- What is read as tokens is of the phrase, and what is of it, with nothing behind it, is read.
record Exact {A : Type 0} (P : A → Phrase) (read : List Lexeme → Inside A) : Type 0 where
  taken : (ts rest : List Lexeme) (x : A) → read ts ≡ Ok (x, rest) → P x ts rest
  again : (x : A) (ts : List Lexeme) → P x ts [] → read ts ≡ Ok (x, [])

abbrev made_of : {A : Type 0} → (A → OptValue) → Inside A → Inside OptValue
made_of make r = r >>= λ x. Ok (make x.0, x.1)

-- all of the tokens
abbrev all_made : {A : Type 0} → (A → OptValue) → Inside A → Option OptValue
all_made make r = if_read (made_of make r >>= λ x. finish_at (tt {0}) x.1 >>= λ e. Ok x.0)

all_by : {A : Type 0} (make : A → OptValue) (r : Inside A) (v : OptValue) → all_made make r ≡ Some v → (x : A) × (r ≡ Ok (x, [])) × (v ≡ make x)
unfolding finish_at
all_by make (Ok (x, [])) v h = (x, refl, sym (some_is (make x) v h))
all_by make (Ok (x, t ∷ ts)) v h = absurd cc
all_by make (Err e) v h = absurd cc

whole_by : (bad : Option ℕ) (said : Option OptValue) (v : OptValue) → unless_bad bad said ≡ Some v → (bad ≡ None) × (said ≡ Some v)
whole_by None said v h = (refl, h)
whole_by (Some at) said v h = absurd cc

inside_taken : {A : Type 0} (P : A → Phrase) (read : List Lexeme → Inside A) → Exact P read → (make : A → OptValue) (text : LexedText) (v : OptValue) → unless_bad text.bad (all_made make (read text.lexemes)) ≡ Some v → Made make (λ x. (text.bad ≡ None) × P x text.lexemes []) v
inside_taken P read exact make text v h =
    let w = whole_by text.bad (all_made make (read text.lexemes)) v h in
    let a = all_by make (read text.lexemes) v w.1 in
    (a.0, (w.0, exact.taken text.lexemes [] a.0 a.1), a.2)

inside_read : {A : Type 0} (P : A → Phrase) (read : List Lexeme → Inside A) → Exact P read → (make : A → OptValue) (text : LexedText) (v : OptValue) → Made make (λ x. (text.bad ≡ None) × P x text.lexemes []) v → unless_bad text.bad (all_made make (read text.lexemes)) ≡ Some v
unfolding finish_at
inside_read P read exact make text v h = rw (h.1.0, exact.again h.0 text.lexemes h.1.1, h.2) refl

widths_exact : Exact widths_form widths_at
widths_exact = record { taken = widths_taken; again = widths_read }

cases_exact : Exact cases_form cases_at
cases_exact = record { taken = cases_taken; again = cases_read }

renames_exact : Exact renames_form renames_at
renames_exact = record { taken = renames_taken; again = renames_read }

column_exact : Exact column_form new_name_at
column_exact = record { taken = column_taken; again = λ name ts h. column_read name ts [] h }

pair_exact : Exact pair_form (rename_at [])
pair_exact = record { taken = λ ts rest p h. pair_taken ts rest p h; again = λ p ts h. pair_read p ts [] h }

names_exact : Exact names_form (names_at (tt {0}))
names_exact = record {
  taken = λ ts rest names h. names_stand {W = Unit {0}} tt ts rest names h;
  again = λ names ts h. standing_names {W = Unit {0}} tt ts [] names h (none_accepted (codes ","));
}

keys_exact : Exact keys_form (keys_at (tt {0}))
keys_exact = record {
  taken = λ ts rest keys h. keys_stand {W = Unit {0}} tt ts rest keys h;
  again = λ keys ts h. standing_keys {W = Unit {0}} tt ts [] keys h (none_accepted (codes ",")) (none_accepted (codes "desc"));
}

-- ---- values that are taken as bytes

file_by : (b : Bool) (bytes : List ℕ) (v : OptValue) → is_name bytes ≡ b → (let o : Option OptValue = if b then Some (value.Name bytes) else None in o) ≡ Some v → IsName bytes × (v ≡ value.Name bytes)
file_by true bytes v e h = (tested_name bytes e, sym (some_is (value.Name bytes) v h))
file_by false bytes v e h = absurd cc

data_set_by : (b : Bool) (bytes : List ℕ) (v : OptValue) → nat_le (length bytes) 252 ≡ b → (let o : Option OptValue = if b then file_value bytes else None in o) ≡ Some v → (length bytes ≤ 252) × IsName bytes × (v ≡ value.Name bytes)
data_set_by true bytes v e h = let k = file_by (is_name bytes) bytes v refl h in (leb-true (length bytes) 252 e, k.0, k.1)
data_set_by false bytes v e h = absurd cc

schema_by : (bytes : List ℕ) (r : Result (List Field) SchemaFault) (v : OptValue) → schema_of bytes ≡ r → schema_value r ≡ Some v → Made value.Schema (SpellsText bytes) v
schema_by bytes (Ok fields) v e h = (fields, text_is_spelled bytes fields e, sym (some_is (value.Schema fields) v h))
schema_by bytes (Err d) v e h = absurd cc

not_equal : (b c : ℕ) → (b == c) ≡ false → b ≢ c
not_equal b c h e = grind (arith, nat_tests)

delim_by : (x y z : Bool) (b : ℕ) (v : OptValue) → (b == 10) ≡ x → (b == 13) ≡ y → (b == 34) ≡ z → (let o : Option OptValue = if x || y || z then None else Some (value.Delim b) in o) ≡ Some v → Made value.Delim (λ c. (b ∷ [] ≡ c ∷ []) × IsDelimiter c) v
delim_by true y z b v e f g h = absurd cc
delim_by false true z b v e f g h = absurd cc
delim_by false false true b v e f g h = absurd cc
delim_by false false false b v e f g h = (b, (refl, record { no_end = not_equal b 10 e; no_return = not_equal b 13 f; no_quote = not_equal b 34 g }), sym (some_is (value.Delim b) v h))

delim_taken : (bytes : List ℕ) (v : OptValue) → delim_value bytes ≡ Some v → Made value.Delim (λ b. (bytes ≡ b ∷ []) × IsDelimiter b) v
delim_taken [] v h = absurd cc
delim_taken (b ∷ []) v h = delim_by (b == 10) (b == 13) (b == 34) b v refl refl refl h
delim_taken (b ∷ c ∷ bytes) v h = absurd cc

delim_read : (bytes : List ℕ) (v : OptValue) → Made value.Delim (λ b. (bytes ≡ b ∷ []) × IsDelimiter b) v → delim_value bytes ≡ Some v
delim_read bytes v h =
    let d = h.1.1 in
    ap delim_value h.1.0 ∙ rw (ne_eqb h.0 10 d.no_end, ne_eqb h.0 13 d.no_return, ne_eqb h.0 34 d.no_quote, h.2) refl

missing_by : (bytes : List ℕ) (a b c d : Bool) (v : OptValue) → bytes_eq bytes (codes "continue") ≡ a → bytes_eq bytes (codes "drop") ≡ b → bytes_eq bytes (codes "fail") ≡ c → bytes_eq bytes (codes "reject") ≡ d
    → option_map value.Missing (if a then Some missing.Continue else if b then Some missing.Drop else if c then Some missing.Fail else if d then Some missing.Reject else None) ≡ Some v → Made value.Missing (λ m. bytes ≡ missing_word m) v
missing_by bytes true b c d v e f g h k = (missing.Continue, same_bytes bytes (codes "continue") e, sym (some_is (value.Missing missing.Continue) v k))
missing_by bytes false true c d v e f g h k = (missing.Drop, same_bytes bytes (codes "drop") f, sym (some_is (value.Missing missing.Drop) v k))
missing_by bytes false false true d v e f g h k = (missing.Fail, same_bytes bytes (codes "fail") g, sym (some_is (value.Missing missing.Fail) v k))
missing_by bytes false false false true v e f g h k = (missing.Reject, same_bytes bytes (codes "reject") h, sym (some_is (value.Missing missing.Reject) v k))
missing_by bytes false false false false v e f g h k = absurd cc

word_named : (m : Missing) → missing_named (missing_word m) ≡ Some m
word_named missing.Continue = refl
word_named missing.Drop = refl
word_named missing.Fail = refl
word_named missing.Reject = refl

mapped : {A : Type 0} (make : A → OptValue) (o : Option A) (v : OptValue) → option_map make o ≡ Some v → (x : A) × (o ≡ Some x) × (v ≡ make x)
mapped make None v h = absurd cc
mapped make (Some x) v h = (x, refl, sym (some_is (make x) v h))

-- ---- all forms

pub value_spelled : (f : Form) (bytes : List ℕ) (v : OptValue) → value_of f bytes ≡ Some v → SpellsValue f bytes v
unfolding value_of whole_at
value_spelled form.Flag bytes v h = absurd cc
value_spelled form.File bytes v h = let k = file_by (is_name bytes) bytes v refl h in (bytes, (refl, k.0), k.1)
value_spelled form.DataSet bytes v h = let k = data_set_by (nat_le (length bytes) 252) bytes v refl h in (bytes, (refl, k.1, k.0), k.2)
value_spelled form.Schema bytes v h = schema_by bytes (schema_of bytes) v refl h
value_spelled form.Delim bytes v h = delim_taken bytes v h
value_spelled form.Widths bytes v h = inside_taken widths_form widths_at widths_exact value.Widths (lexed_text Inner bytes) v h
value_spelled form.Columns bytes v h = inside_taken names_form (names_at (tt {0})) names_exact value.Columns (lexed_text Inner bytes) v h
value_spelled form.Keys bytes v h = inside_taken keys_form (keys_at (tt {0})) keys_exact value.Keys (lexed_text Inner bytes) v h
value_spelled form.Renames bytes v h = inside_taken renames_form renames_at renames_exact value.Renames (lexed_text Inner bytes) v h
value_spelled form.Cases bytes v h = inside_taken cases_form cases_at cases_exact value.Cases (lexed_text Inner bytes) v h
value_spelled form.Count bytes v h = inside_taken column_form new_name_at column_exact (λ new. value.Result (agg.Count new)) (lexed_text Inner bytes) v h
value_spelled form.Sum bytes v h = inside_taken pair_form (rename_at []) pair_exact (λ p. value.Result (agg.Sum p.0 p.1)) (lexed_text Inner bytes) v h
value_spelled form.Min bytes v h = inside_taken pair_form (rename_at []) pair_exact (λ p. value.Result (agg.Min p.0 p.1)) (lexed_text Inner bytes) v h
value_spelled form.Max bytes v h = inside_taken pair_form (rename_at []) pair_exact (λ p. value.Result (agg.Max p.0 p.1)) (lexed_text Inner bytes) v h
value_spelled form.First bytes v h = inside_taken pair_form (rename_at []) pair_exact (λ p. value.Result (agg.First p.0 p.1)) (lexed_text Inner bytes) v h
value_spelled form.Last bytes v h = inside_taken pair_form (rename_at []) pair_exact (λ p. value.Result (agg.Last p.0 p.1)) (lexed_text Inner bytes) v h
value_spelled form.Missing bytes v h = missing_by bytes (bytes_eq bytes (codes "continue")) (bytes_eq bytes (codes "drop")) (bytes_eq bytes (codes "fail")) (bytes_eq bytes (codes "reject")) v refl refl refl refl h
value_spelled form.Expression bytes v h = let m = mapped value.Expression (kept_expression bytes) v h in (m.0, expression_taken bytes m.0 m.1, m.2)
value_spelled form.Setting bytes v h = let m = mapped value.Set (set_value bytes) v h in (m.0, set_taken bytes m.0 m.1, m.2)

pub spelled_value : (f : Form) (bytes : List ℕ) (v : OptValue) → SpellsValue f bytes v → value_of f bytes ≡ Some v
unfolding value_of whole_at
spelled_value form.Flag bytes v h = absurd h
spelled_value form.File bytes v h = rw (name_tested bytes h.1.1, h.2, h.1.0) refl
spelled_value form.DataSet bytes v h = rw (le-leb (length bytes) 252 h.1.2, name_tested bytes h.1.1, h.2, h.1.0) refl
spelled_value form.Schema bytes v h = rw (spelled_text bytes h.0 h.1, h.2) refl
spelled_value form.Delim bytes v h = delim_read bytes v h
spelled_value form.Widths bytes v h = inside_read widths_form widths_at widths_exact value.Widths (lexed_text Inner bytes) v h
spelled_value form.Columns bytes v h = inside_read names_form (names_at (tt {0})) names_exact value.Columns (lexed_text Inner bytes) v h
spelled_value form.Keys bytes v h = inside_read keys_form (keys_at (tt {0})) keys_exact value.Keys (lexed_text Inner bytes) v h
spelled_value form.Renames bytes v h = inside_read renames_form renames_at renames_exact value.Renames (lexed_text Inner bytes) v h
spelled_value form.Cases bytes v h = inside_read cases_form cases_at cases_exact value.Cases (lexed_text Inner bytes) v h
spelled_value form.Count bytes v h = inside_read column_form new_name_at column_exact (λ new. value.Result (agg.Count new)) (lexed_text Inner bytes) v h
spelled_value form.Sum bytes v h = inside_read pair_form (rename_at []) pair_exact (λ p. value.Result (agg.Sum p.0 p.1)) (lexed_text Inner bytes) v h
spelled_value form.Min bytes v h = inside_read pair_form (rename_at []) pair_exact (λ p. value.Result (agg.Min p.0 p.1)) (lexed_text Inner bytes) v h
spelled_value form.Max bytes v h = inside_read pair_form (rename_at []) pair_exact (λ p. value.Result (agg.Max p.0 p.1)) (lexed_text Inner bytes) v h
spelled_value form.First bytes v h = inside_read pair_form (rename_at []) pair_exact (λ p. value.Result (agg.First p.0 p.1)) (lexed_text Inner bytes) v h
spelled_value form.Last bytes v h = inside_read pair_form (rename_at []) pair_exact (λ p. value.Result (agg.Last p.0 p.1)) (lexed_text Inner bytes) v h
spelled_value form.Missing bytes v h = ap (option_map value.Missing) (ap missing_named h.1 ∙ word_named h.0) ∙ ap (λ w. Some w) (sym h.2)
spelled_value form.Expression bytes v h = ap (option_map value.Expression) (expression_read bytes h.0 h.1) ∙ ap (λ w. Some w) (sym h.2)
spelled_value form.Setting bytes v h = ap (option_map value.Set) (set_read bytes h.0 h.1) ∙ ap (λ w. Some w) (sym h.2)

-- ---- what is answered

pub found_value : (f : Form) (bytes : List ℕ) (o : Option OptValue) → o ≡ value_of f bytes → Found (SpellsValue f bytes) o
found_value f bytes (Some v) e = value_spelled f bytes v (sym e)
found_value f bytes None e = λ v h. (let k : None ≡ Some v = e ∙ spelled_value f bytes v h in absurd cc)

pub answer_found : (r : Result (Option OptValue) NoMemory) (f : Form) (bytes : List ℕ) → IfOk r (λ v. v ≡ value_of f bytes) → IfOk r (λ v. Found (SpellsValue f bytes) v)
answer_found (Ok o) f bytes h = found_value f bytes o h
answer_found (Err e) f bytes h = tt

pub one_is_spelled : OneIsSpelled
one_is_spelled f bytes v other h k = some_is v other (sym (spelled_value f bytes v h) ∙ spelled_value f bytes other k)
