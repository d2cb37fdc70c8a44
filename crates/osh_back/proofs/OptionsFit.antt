-- The options that are printed of an operator that can be spelled have values that can be spelled.
use Rattle.std.proofs.Common.{◌≡◌, ◌≤◌, ◌<◌, ◌^◌, inl, inr, ℕ, suc, ℤ, pos, negsuc, FitsSigned, w64, lit<, List, [], ◌∷◌, ◌++◌, map, Bool, true, false, Option, Some, None, refl, sym, ap, ◌∙◌, subst, arith}
use Rattle.std.specs.Prelude.{if◌then◌else◌, not, ◌==◌, ◌&&◌, ◌||◌, codes}
use Rattle.std.specs.List.{list_all, flat_map, AllByRecursion}
use Rattle.std.specs.Fmt.{decimal, signed_decimal}
use Rattle.std.specs.Cmp.{first_so, second_so}
use Rattle.std.proofs.lemmas.Bool.{and_from, not-true}
use Rattle.std.proofs.lemmas.Fmt.{decimal_is_IsNumeral}
use Rattle.std.proofs.lemmas.Bool.Decides.{nat_tests}
use Rattle.std.proofs.lemmas.List.Concat.{flat_map-cons}
use Rattle.std.proofs.lemmas.List.Folds.{list_all-append}
use Rattle.std.proofs.lemmas.List.Sums.{list_all-from_AllPass}
use Rattle.op_base.proofs.All.{all_append}
use Rattle.op_base.specs.declared.missing.Missing.{Missing}
use Rattle.op_base.specs.declared.missing.Missing.TheVariants as missing
use Rattle.ds_value.specs.Names.{IsName, is_name_byte}
use Rattle.ds_value.specs.declared.kind.Kind.{Kind}
use Rattle.ds_value.specs.declared.kind.Kind.TheVariants as value_kind
use Rattle.ds_value.specs.Kinds.{IsKind, IsBits}
use Rattle.ds_lex.specs.Pieces.{is_opt_byte, is_text_byte, is_word_byte}
use Rattle.ds_schema.specs.declared.schema.Field.{Field}
use Rattle.ds_schema.specs.Schemas.{IsFieldName, IsField, IsSchema}
use Rattle.ds_schema.specs.SchemaText.{kind_text, nullable_text, field_text, schema_text}
use Rattle.ds_schema.specs.ColumnText.{desc_text, key_text, names_text, keys_text}
use Rattle.ds_schema.proofs.SizeReaders.{digits_all}
use Rattle.flow_graph.specs.declared.op_kind.SetSpec.{SetSpec}
use Rattle.flow_graph.specs.declared.op_kind.AggSpec.{AggSpec}
use Rattle.flow_graph.specs.declared.op_kind.AggSpec.TheVariants as agg
use Rattle.flow_graph.specs.declared.op_kind.OpKind.{OpKind}
use Rattle.flow_graph.specs.declared.op_kind.OpKind.TheVariants as kind
use Rattle.osh_table.specs.declared.operator.OpName.{OpName}
use Rattle.osh_table.specs.declared.operator.OpName.TheVariants as op
use Rattle.osh_table.specs.declared.option.OptName.{OptName}
use Rattle.osh_table.specs.declared.option.OptName.TheVariants as opt
use Rattle.osh_table.specs.declared.option.Form.TheVariants as form
use Rattle.osh_table.specs.Words.{option_word}
use Rattle.osh_table.specs.Options.{row, row_named}
use Rattle.osh_value.specs.declared.value.OptValue.TheVariants as value
use Rattle.osh_print.specs.OptionText.{has_quote, quote_of, with_commas, pair_text, name_of}
use Rattle.osh_value.specs.ValueGrammar.{missing_word}
use Rattle.osh_sound.specs.Grammar.{WrittenOption}
use Rattle.osh_sound.specs.ValueLaws.{agg_text, IsColumn, IsPair, IsResult, ArePairs, AreCases, AreColumns, AreKeys}
use Rattle.osh_sound.specs.OptionLaws.{IsQuotable, OptionFits}
use Rattle.osh_sound.specs.OperatorLaws.{one, flag_of, delim_of, widths_of, keys_of, columns_of, renames_of, missing_of, result_of, set_of, written}
use Rattle.osh_sound.proofs.ValuesBack.{values_back}
use Rattle.osh_back.specs.Spelled.{Maybe, IsDelimiter, FormFits, IsDataSet, KeepsOrDrops, ExpressionFits, SetFits, KindFits}
use Rattle.osh_back.proofs.Quotables.{set_quotable}
use Rattle.osh_back.proofs.PrintedWords.{digits_words}

-- ---- bytes that stand between double quotes

abbrev plain_byte : ℕ → Bool
plain_byte b = is_text_byte b && not (b == 34)

abbrev Plain : List ℕ → Type 0
Plain bytes = list_all plain_byte bytes ≡ true

all_as : (p q : ℕ → Bool) → ((b : ℕ) → p b ≡ true → q b ≡ true) → (bytes : List ℕ) → list_all p bytes ≡ true → list_all q bytes ≡ true
all_as p q f [] h = refl
all_as p q f (b ∷ bytes) h = and_from (q b) (list_all q bytes) (f b (first_so (p b) (list_all p bytes) h)) (all_as p q f bytes (second_so (p b) (list_all p bytes) h))

joined : (xs ys : List ℕ) → Plain xs → Plain ys → Plain (xs ++ ys)
joined xs ys a b = list_all-append plain_byte xs ys ∙ and_from (list_all plain_byte xs) (list_all plain_byte ys) a b

no_quote : (bytes : List ℕ) → Plain bytes → has_quote bytes ≡ false
no_quote [] h = refl
no_quote (b ∷ bytes) h =
    let here : (b == 34) ≡ false = not-true (b == 34) (second_so (is_text_byte b) (not (b == 34)) (first_so (plain_byte b) (list_all plain_byte bytes) h)) in
    rw here (no_quote bytes (second_so (plain_byte b) (list_all plain_byte bytes) h))

quotable : (bytes : List ℕ) → Plain bytes → IsQuotable bytes
quotable bytes h =
    let q : quote_of bytes ≡ 34 = ap (λ (b : Bool). let n : ℕ = if b then 39 else 34 in n) (no_quote bytes h) in
    record {
      texts = all_as plain_byte is_text_byte (λ b k. first_so (is_text_byte b) (not (b == 34)) k) bytes h;
      quote = subst (λ n. list_all (λ b. not (b == n)) bytes ≡ true) (sym q) (all_as plain_byte (λ b. not (b == 34)) (λ b k. second_so (is_text_byte b) (not (b == 34)) k) bytes h);
    }

word_plain : (b : ℕ) → is_word_byte b ≡ true → plain_byte b ≡ true
word_plain b h = grind (arith, nat_tests)

name_plain : (b : ℕ) → is_name_byte b ≡ true → plain_byte b ≡ true
name_plain b h = grind (arith, nat_tests)

opt_plain : (b : ℕ) → is_opt_byte b ≡ true → plain_byte b ≡ true
opt_plain b h = grind (arith, nat_tests)

plain_name : (name : List ℕ) → IsName name → Plain name
plain_name name h = all_as is_name_byte plain_byte name_plain name (list_all-from_AllPass is_name_byte name h.each)

plain_column : (name : List ℕ) → IsColumn name → Plain name
plain_column name h = plain_name name h.1

plain_field : (name : List ℕ) → IsFieldName name → Plain name
plain_field name h = all_as is_opt_byte plain_byte opt_plain name h.each

plain_number : (n : ℕ) → n < 2 ^ 64 → Plain (decimal n)
plain_number n h = all_as is_word_byte plain_byte word_plain (decimal n) (digits_words (decimal n) (digits_all (decimal n) (decimal_is_IsNumeral n h).0.1))

-- ---- values

further_plain : {X : Type 0} (text : X → List ℕ) (xs : List X) → AllByRecursion (λ x. Plain (text x)) xs → Plain (flat_map (λ y. codes "," ++ text y) xs)
further_plain text [] h = refl
further_plain text (x ∷ xs) h =
    subst Plain (sym (flat_map-cons (λ y. codes "," ++ text y) x xs)) (joined (codes "," ++ text x) (flat_map (λ y. codes "," ++ text y) xs) (joined (codes ",") (text x) refl h.0) (further_plain text xs h.1))

commas_plain : {X : Type 0} (text : X → List ℕ) (xs : List X) → AllByRecursion (λ x. Plain (text x)) xs → Plain (with_commas text xs)
commas_plain text [] h = refl
commas_plain text (x ∷ xs) h = joined (text x) (flat_map (λ y. codes "," ++ text y) xs) h.0 (further_plain text xs h.1)

each_name : (names : List (List ℕ)) → AllByRecursion (λ name. IsName name) names → AllByRecursion Plain names
each_name [] h = tt
each_name (name ∷ names) h = (plain_name name h.0, each_name names h.1)

plain_names : (names : List (List ℕ)) → AreColumns names → Plain (names_text names)
plain_names [] h = refl
plain_names (name ∷ names) h = joined name (flat_map (λ other. codes "," ++ other) names) (plain_name name h.named.each.0) (further_plain (λ x. x) names (each_name names h.named.each.1))

plain_key : (key : List ℕ × Bool) → IsName key.0 → Plain (key_text key)
plain_key key h = joined key.0 (desc_text key.1) (plain_name key.0 h) (way key.1)
  where
    way : (b : Bool) → Plain (desc_text b)
    way true = refl
    way false = refl

each_key : (keys : List (List ℕ × Bool)) → AllByRecursion (λ (k : List ℕ × Bool). IsName k.0) keys → AllByRecursion (λ (k : List ℕ × Bool). Plain (key_text k)) keys
each_key [] h = tt
each_key (key ∷ keys) h = (plain_key key h.0, each_key keys h.1)

plain_keys : (keys : List (List ℕ × Bool)) → AreKeys keys → Plain (keys_text keys)
plain_keys [] h = refl
plain_keys (key ∷ keys) h = joined (key_text key) (flat_map (λ other. codes "," ++ key_text other) keys) (plain_key key h.named.each.0) (further_plain key_text keys (each_key keys h.named.each.1))

plain_pair : (p : List ℕ × List ℕ) → IsPair p → Plain (pair_text p)
plain_pair p h = joined p.0 (codes "=" ++ p.1) (plain_field p.0 h.0) (joined (codes "=") p.1 refl (plain_column p.1 h.1))

each_pair : (pairs : List (List ℕ × List ℕ)) → AllByRecursion IsPair pairs → AllByRecursion (λ (p : List ℕ × List ℕ). Plain (pair_text p)) pairs
each_pair [] h = tt
each_pair (p ∷ pairs) h = (plain_pair p h.0, each_pair pairs h.1)

each_width : (widths : List ℕ) → AllByRecursion (λ w. (1 ≤ w) × (w ≤ 65536)) widths → AllByRecursion (λ w. Plain (decimal w)) widths
each_width [] h = tt
each_width (w ∷ widths) h = (plain_number w (omega (arith, h.0.1)), each_width widths h.1)

plain_result : (r : AggSpec) → IsResult r → Plain (agg_text r)
plain_result (agg.Count new) h = plain_field new h
plain_result (agg.Sum new old) h = plain_pair (new, old) h
plain_result (agg.Min new old) h = plain_pair (new, old) h
plain_result (agg.Max new old) h = plain_pair (new, old) h
plain_result (agg.First new old) h = plain_pair (new, old) h
plain_result (agg.Last new old) h = plain_pair (new, old) h

plain_missing : (m : Missing) → Plain (missing_word m)
plain_missing missing.Continue = refl
plain_missing missing.Drop = refl
plain_missing missing.Fail = refl
plain_missing missing.Reject = refl

plain_delim : (b : ℕ) → IsDelimiter b → Plain (b ∷ [])
plain_delim b h =
    let t = h.text in
    let o = h.other in
    and_from (plain_byte b) true (and_from (is_text_byte b) (not (b == 34)) t (not_quote b o)) refl
  where
    not_quote : (b : ℕ) → ((b == 10) || (b == 13) || (b == 34)) ≡ false → not (b == 34) ≡ true
    not_quote b h = grind (arith, nat_tests)

bits_small : (bits : ℕ) → IsBits bits → bits < 2 ^ 64
bits_small bits h = elim h [ inl e ↦ omega (arith, e) | inr h ↦ elim h [ inl e ↦ omega (arith, e) | inr h ↦ elim h [ inl e ↦ omega (arith, e) | inr e ↦ omega (arith, e) ] ] ]

plain_kind : (k : Kind) → IsKind k → Plain (kind_text k)
plain_kind (value_kind.Int bits) h = joined (codes "int") (decimal bits) refl (plain_number bits (bits_small bits h))
plain_kind (value_kind.UInt bits) h = joined (codes "uint") (decimal bits) refl (plain_number bits (bits_small bits h))
plain_kind (value_kind.Dec p s) h =
    joined (codes "decimal[") (decimal p ++ (codes "," ++ (decimal s ++ codes "]"))) refl
    (joined (decimal p) (codes "," ++ (decimal s ++ codes "]")) (plain_number p (omega (arith, h.1.0)))
    (joined (codes ",") (decimal s ++ codes "]") refl (joined (decimal s) (codes "]") (plain_number s (omega (arith, h.1.0, h.1.1))) refl)))
plain_kind (value_kind.Text n true) h = joined (codes "string[") (decimal n ++ codes "]") refl (joined (decimal n) (codes "]") (plain_number n (omega (arith, h.1))) refl)
plain_kind (value_kind.Text n false) h = joined (codes "string[max=") (decimal n ++ codes "]") refl (joined (decimal n) (codes "]") (plain_number n (omega (arith, h.1))) refl)
plain_kind value_kind.Date h = refl

plain_nullable : (b : Bool) → Plain (nullable_text b)
plain_nullable true = refl
plain_nullable false = refl

plain_one : (f : Field) → IsField f → Plain (field_text f)
plain_one f h =
    joined f.name (codes ": " ++ (nullable_text f.nullable ++ (kind_text f.kind ++ codes "; "))) (plain_field f.name h.0)
    (joined (codes ": ") (nullable_text f.nullable ++ (kind_text f.kind ++ codes "; ")) refl
    (joined (nullable_text f.nullable) (kind_text f.kind ++ codes "; ") (plain_nullable f.nullable) (joined (kind_text f.kind) (codes "; ") (plain_kind f.kind h.1) refl)))

plain_fields : (fields : List Field) → AllByRecursion IsField fields → Plain (flat_map field_text fields)
plain_fields [] h = refl
plain_fields (f ∷ fields) h = subst Plain (sym (flat_map-cons field_text f fields)) (joined (field_text f) (flat_map field_text fields) (plain_one f h.0) (plain_fields fields h.1))

plain_schema : (fields : List Field) → IsSchema fields → Plain (schema_text fields)
plain_schema fields h = joined (codes "record ( ") (flat_map field_text fields ++ codes ")") refl (joined (flat_map field_text fields) (codes ")") (plain_fields fields h.each) refl)

-- ---- options

abbrev AllFit : OpName → List WrittenOption → Type 0
AllFit o ws = AllByRecursion (OptionFits o) ws

file_fits : (o : OpName) (name : List ℕ) → row_named o (option_word opt.File) ≡ Some (row opt.File form.File true 1) → IsName name → OptionFits o (one opt.File form.File true 1 (value.Name name))
file_fits o name r h = record { row = r; value = (quotable name (plain_name name h), values_back.file name h) }

data_set_fits : (o : OpName) (name : List ℕ) → row_named o (option_word opt.Ds) ≡ Some (row opt.Ds form.DataSet true 1) → IsDataSet name → AllFit o (one opt.Ds form.DataSet true 1 (value.Name name) ∷ [])
data_set_fits o name r h = (record { row = r; value = (quotable name (plain_name name h.named), values_back.data_set name h.named h.short) }, tt)

schema_fits : (o : OpName) (fields : List Field) → row_named o (option_word opt.Schema) ≡ Some (row opt.Schema form.Schema true 2) → IsSchema fields → OptionFits o (one opt.Schema form.Schema true 2 (value.Schema fields))
schema_fits o fields r h = record { row = r; value = (quotable (schema_text fields) (plain_schema fields h), values_back.schema fields h) }

flag_fits : (o : OpName) (w : OptName) (group : ℕ) (b : Bool) → row_named o (option_word w) ≡ Some (row w form.Flag false group) → AllFit o (flag_of w group b)
flag_fits o w group true r = (record { row = r; value = refl }, tt)
flag_fits o w group false r = tt

delim_fits : (o : OpName) (group d : ℕ) (b : Bool) → row_named o (option_word opt.Delim) ≡ Some (row opt.Delim form.Delim false group) → IsDelimiter d → AllFit o (if b then [] else one opt.Delim form.Delim false group (value.Delim d) ∷ [])
delim_fits o group d true r h = tt
delim_fits o group d false r h = (record { row = r; value = (quotable (d ∷ []) (plain_delim d h), values_back.delim d h.other) }, tt)

delim_part : (o : OpName) (group d : ℕ) (fixed : Option (List ℕ)) → row_named o (option_word opt.Delim) ≡ Some (row opt.Delim form.Delim false group) → FormFits d fixed → AllFit o (delim_of group d)
delim_part o group d None r h = delim_fits o group d (d == 44) r h
delim_part o group d (Some widths) r h = subst (λ x. AllFit o (delim_of group x)) (sym h.0) tt

widths_part : (o : OpName) (group d : ℕ) (fixed : Option (List ℕ)) → row_named o (option_word opt.Fixed) ≡ Some (row opt.Fixed form.Widths false group) → FormFits d fixed → AllFit o (widths_of group fixed)
widths_part o group d None r h = tt
widths_part o group d (Some widths) r h = (record { row = r; value = (quotable (with_commas decimal widths) (commas_plain decimal widths (each_width widths h.1.each)), values_back.widths widths h.1) }, tt)

keys_fit : (o : OpName) (w : OptName) (required : Bool) (group : ℕ) (keys : List (List ℕ × Bool)) → row_named o (option_word w) ≡ Some (row w form.Keys required group) → Maybe AreKeys keys → AllFit o (keys_of w required group keys)
keys_fit o w required group [] r h = tt
keys_fit o w required group (k ∷ keys) r h = (record { row = r; value = (quotable (keys_text (k ∷ keys)) (plain_keys (k ∷ keys) h), values_back.keys (k ∷ keys) h) }, tt)

columns_fit : (o : OpName) (w : OptName) (group : ℕ) (names : List (List ℕ)) → row_named o (option_word w) ≡ Some (row w form.Columns false group) → Maybe AreColumns names → AllFit o (columns_of w group names)
columns_fit o w group [] r h = tt
columns_fit o w group (n ∷ names) r h = (record { row = r; value = (quotable (names_text (n ∷ names)) (plain_names (n ∷ names) h), values_back.columns (n ∷ names) h) }, tt)

renames_fit : (pairs : List (List ℕ × List ℕ)) → Maybe ArePairs pairs → AllFit op.Modify (renames_of pairs)
renames_fit [] h = tt
renames_fit (p ∷ pairs) h = (record { row = refl; value = (quotable (with_commas pair_text (p ∷ pairs)) (commas_plain pair_text (p ∷ pairs) (each_pair (p ∷ pairs) h.each)), values_back.renames (p ∷ pairs) h) }, tt)

missing_fits : (m : Missing) → AllFit op.Lookup (missing_of m)
missing_fits missing.Fail = tt
missing_fits missing.Continue = (record { row = refl; value = (quotable (missing_word missing.Continue) refl, values_back.missing missing.Continue) }, tt)
missing_fits missing.Drop = (record { row = refl; value = (quotable (missing_word missing.Drop) refl, values_back.missing missing.Drop) }, tt)
missing_fits missing.Reject = (record { row = refl; value = (quotable (missing_word missing.Reject) refl, values_back.missing missing.Reject) }, tt)

result_fits : (r : AggSpec) → IsResult r → OptionFits op.Group (result_of r)
result_fits (agg.Count new) h = record { row = refl; value = (quotable new (plain_result (agg.Count new) h), values_back.results (agg.Count new) h) }
result_fits (agg.Sum new old) h = record { row = refl; value = (quotable (pair_text (new, old)) (plain_result (agg.Sum new old) h), values_back.results (agg.Sum new old) h) }
result_fits (agg.Min new old) h = record { row = refl; value = (quotable (pair_text (new, old)) (plain_result (agg.Min new old) h), values_back.results (agg.Min new old) h) }
result_fits (agg.Max new old) h = record { row = refl; value = (quotable (pair_text (new, old)) (plain_result (agg.Max new old) h), values_back.results (agg.Max new old) h) }
result_fits (agg.First new old) h = record { row = refl; value = (quotable (pair_text (new, old)) (plain_result (agg.First new old) h), values_back.results (agg.First new old) h) }
result_fits (agg.Last new old) h = record { row = refl; value = (quotable (pair_text (new, old)) (plain_result (agg.Last new old) h), values_back.results (agg.Last new old) h) }

results_fit : (rs : List AggSpec) → AllByRecursion IsResult rs → AllFit op.Group (map result_of rs)
results_fit [] h = tt
results_fit (r ∷ rs) h = (result_fits r h.0, results_fit rs h.1)

expression_fits : (o : OpName) (w : OptName) (kept : List ℕ) → row_named o (option_word w) ≡ Some (row w form.Expression true 1) → ExpressionFits kept → OptionFits o (one w form.Expression true 1 (value.Expression kept))
expression_fits o w kept r h = record { row = r; value = (h.1, values_back.expression kept h.0) }

sets_fit : (set : List SetSpec) → AllByRecursion SetFits set → AllFit op.Transform (map set_of set)
sets_fit [] h = tt
sets_fit (s ∷ set) h = (record { row = refl; value = (set_quotable s h.0.0 h.0.1.1, values_back.set s (h.0.0, h.0.1.0)) }, sets_fit set h.1)

plain_case : (z : ℤ) → FitsSigned w64 z → Plain (signed_decimal z)
plain_case (pos n) h = plain_number n (let k : 2 ^ 63 < 2 ^ 64 = lit< tt in omega arith)
plain_case (negsuc n) h = joined (codes "-") (decimal (suc n)) refl (plain_number (suc n) (let k : 2 ^ 63 < 2 ^ 64 = lit< tt in omega arith))

each_case : (cases : List ℤ) → AllByRecursion (FitsSigned w64) cases → AllByRecursion (λ z. Plain (signed_decimal z)) cases
each_case [] h = tt
each_case (z ∷ cases) h = (plain_case z h.0, each_case cases h.1)

cases_fit : (cases : List ℤ) → AreCases cases → OptionFits op.Switch (one opt.Cases form.Cases true 2 (value.Cases cases))
cases_fit cases h = record { row = refl; value = (quotable (with_commas signed_decimal cases) (commas_plain signed_decimal cases (each_case cases h.each)), values_back.cases cases h) }

-- ---- operators

pub perhaps : {A : Type 0} (P : List A → Type 0) (xs : List A) → P xs → Maybe P xs
perhaps P [] h = tt
perhaps P (x ∷ xs) h = h

keep_fits : (keep drop : List (List ℕ)) → KeepsOrDrops keep drop → Maybe AreColumns keep × Maybe AreColumns drop
keep_fits [] drop h = (tt, h)
keep_fits (n ∷ keep) drop h = (h.0, subst (Maybe AreColumns) (sym h.1) tt)

key_fits : (o : OpName) (key : List (List ℕ × Bool)) → row_named o (option_word opt.Key) ≡ Some (row opt.Key form.Keys true 1) → AreKeys key → AllFit o (keys_of opt.Key true 1 key)
key_fits o key r h = keys_fit o opt.Key true 1 key r (perhaps AreKeys key h)

both : (o : OpName) (vs ws : List WrittenOption) → AllFit o vs → AllFit o ws → AllFit o (vs ++ ws)
both o vs ws a b = all_append (OptionFits o) vs ws a b

funnel_fits : (sequence : Bool) (sort : List (List ℕ × Bool)) → KindFits (kind.Funnel sequence sort) → AllFit op.Funnel (written (kind.Funnel sequence sort))
funnel_fits true sort h = both op.Funnel (flag_of opt.Sequence 1 true) (keys_of opt.Sort false 1 sort) (flag_fits op.Funnel opt.Sequence 1 true refl) (subst (λ xs. AllFit op.Funnel (keys_of opt.Sort false 1 xs)) (sym h) tt)
funnel_fits false sort h = keys_fit op.Funnel opt.Sort false 1 sort refl h

pub options_fit : (k : OpKind) → KindFits k → AllByRecursion (OptionFits (name_of k)) (written k)
options_fit (kind.Import file schema delim fixed reject) h = (
  file_fits op.Import file refl h.0,
  (
    schema_fits op.Import schema refl h.1,
    both op.Import (delim_of 3 delim) (widths_of 3 fixed ++ flag_of opt.Reject 4 reject) (delim_part op.Import 3 delim fixed refl h.2)
        (both op.Import (widths_of 3 fixed) (flag_of opt.Reject 4 reject) (widths_part op.Import 3 delim fixed refl h.2) (flag_fits op.Import opt.Reject 4 reject refl)),
  ),
)
options_fit (kind.Export file delim fixed) h = (file_fits op.Export file refl h.0, both op.Export (delim_of 2 delim) (widths_of 2 fixed) (delim_part op.Export 2 delim fixed refl h.1) (widths_part op.Export 2 delim fixed refl h.1))
options_fit (kind.Dsread ds) h = data_set_fits op.Dsread ds refl h
options_fit (kind.Dswrite ds) h = data_set_fits op.Dswrite ds refl h
options_fit kind.Copy h = tt
options_fit (kind.Filter test reject) h = (expression_fits op.Filter opt.Where test refl h, flag_fits op.Filter opt.Reject 2 reject refl)
options_fit (kind.Transform set reject) h = both op.Transform (map set_of set) (flag_of opt.Reject 1 reject) (sets_fit set h.1) (flag_fits op.Transform opt.Reject 1 reject refl)
options_fit (kind.Switch on cases reject) h = (expression_fits op.Switch opt.On on refl h.0, (cases_fit cases h.1, flag_fits op.Switch opt.Reject 3 reject refl))
options_fit (kind.Modify keep drop rename) h =
    (let c = keep_fits keep drop h.0 in
    both op.Modify (columns_of opt.Keep 1 keep) (columns_of opt.Drop 1 drop ++ renames_of rename) (columns_fit op.Modify opt.Keep 1 keep refl c.0)
    (both op.Modify (columns_of opt.Drop 1 drop) (renames_of rename) (columns_fit op.Modify opt.Drop 1 drop refl c.1) (renames_fit rename h.1)))
options_fit (kind.Tsort key) h = key_fits op.Tsort key refl h
options_fit (kind.Remdup key last) h = both op.Remdup (keys_of opt.Key true 1 key) (flag_of opt.Last 2 last) (key_fits op.Remdup key refl h) (flag_fits op.Remdup opt.Last 2 last refl)
options_fit (kind.Group key hash results) h =
    both op.Group (keys_of opt.Key false 1 key) (flag_of opt.Hash 2 hash ++ map result_of results) (keys_fit op.Group opt.Key false 1 key refl h.0)
    (both op.Group (flag_of opt.Hash 2 hash) (map result_of results) (flag_fits op.Group opt.Hash 2 hash refl) (results_fit results h.1))
options_fit (kind.InnerJoin key) h = key_fits op.InnerJoin key refl h
options_fit (kind.LeftOuterJoin key) h = key_fits op.LeftOuterJoin key refl h
options_fit (kind.RightOuterJoin key) h = key_fits op.RightOuterJoin key refl h
options_fit (kind.FullOuterJoin key) h = key_fits op.FullOuterJoin key refl h
options_fit (kind.Merge key keepbad reject) h =
    both op.Merge (keys_of opt.Key true 1 key) (flag_of opt.Keepbad 2 keepbad ++ flag_of opt.Reject 3 reject) (key_fits op.Merge key refl h)
    (both op.Merge (flag_of opt.Keepbad 2 keepbad) (flag_of opt.Reject 3 reject) (flag_fits op.Merge opt.Keepbad 2 keepbad refl) (flag_fits op.Merge opt.Reject 3 reject refl))
options_fit (kind.Lookup key m) h = both op.Lookup (keys_of opt.Key true 1 key) (missing_of m) (key_fits op.Lookup key refl h) (missing_fits m)
options_fit (kind.Changecapture key values keepcopy) h =
    both op.Changecapture (keys_of opt.Key true 1 key) (columns_of opt.Values 2 values ++ flag_of opt.Keepcopy 3 keepcopy) (key_fits op.Changecapture key refl h.0)
    (both op.Changecapture (columns_of opt.Values 2 values) (flag_of opt.Keepcopy 3 keepcopy) (columns_fit op.Changecapture opt.Values 2 values refl h.1) (flag_fits op.Changecapture opt.Keepcopy 3 keepcopy refl))
options_fit (kind.Funnel sequence sort) h = funnel_fits sequence sort h
