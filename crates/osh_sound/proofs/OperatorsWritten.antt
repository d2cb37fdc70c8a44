-- The options that are printed of an operator say it, and are its text.
use Rattle.std.proofs.Common.{◌≡◌, ◌≤◌, ℕ, List, [], ◌∷◌, ◌++◌, length, map, Bool, true, false, Option, Some, None, refl, sym, ap, ◌∙◌, append_assoc, arith}
use Rattle.std.specs.Prelude.{◌==◌, if◌then◌else◌}
use Rattle.std.specs.List.{flat_map}
use Rattle.std.proofs.lemmas.Bool.{eqb-true}
use Rattle.std.proofs.lemmas.List.{append-nil}
use Rattle.std.proofs.lemmas.List.Concat.{flat_map-cons}
use Rattle.std.proofs.lemmas.Grind.{flat_map-append}
use Rattle.op_base.specs.declared.missing.Missing.{Missing}
use Rattle.op_base.specs.declared.missing.Missing.TheVariants as missing
use Rattle.ds_schema.specs.declared.schema.Field.{Field}
use Rattle.ds_schema.specs.SchemaText.{schema_text}
use Rattle.flow_graph.specs.declared.op_kind.AggSpec.{AggSpec}
use Rattle.flow_graph.specs.declared.op_kind.AggSpec.TheVariants as agg
use Rattle.flow_graph.specs.declared.op_kind.SetSpec.{SetSpec}
use Rattle.flow_graph.specs.declared.op_kind.OpKind.TheVariants as kind
use Rattle.osh_table.specs.declared.operator.OpName.TheVariants as op
use Rattle.osh_table.specs.declared.option.OptName.{OptName}
use Rattle.osh_table.specs.declared.option.OptName.TheVariants as opt
use Rattle.osh_table.specs.declared.option.Form.TheVariants as form
use Rattle.osh_value.specs.declared.value.OptValue.TheVariants as value
use Rattle.osh_value.specs.declared.setting.Setting.{Setting}
use Rattle.osh_value.specs.Kinds.{found_value, stands, sets_of, transform_by, results_of, kind_of}
use Rattle.osh_print.specs.OptionText.{option_text, flag_text, set_text, sets_text, delim_text, widths_text, keys_option, columns_option, renames_option, missing_text, result_text, results_text}
use Rattle.osh_sound.specs.Grammar.{WrittenOption, setting_of}
use Rattle.osh_sound.specs.OptionLaws.{written_text}
use Rattle.osh_sound.specs.OperatorLaws.{one, flag_of, delim_of, widths_of, keys_of, columns_of, renames_of, missing_of, result_of, set_of, written, WrittenSays, WrittenIsPrinted}

-- ---- what they say

abbrev delim_if : Bool → ℕ → ℕ → List WrittenOption
delim_if b group d = if b then [] else one opt.Delim form.Delim false group (value.Delim d) ∷ []

import_says : (file : List ℕ) (schema : List Field) (delim : ℕ) (fixed : Option (List ℕ)) (reject b : Bool) → (delim == 44) ≡ b
    → kind_of op.Import (map setting_of (one opt.File form.File true 1 (value.Name file) ∷ one opt.Schema form.Schema true 2 (value.Schema schema) ∷ (delim_if b 3 delim ++ (widths_of 3 fixed ++ flag_of opt.Reject 4 reject)))) ≡ Some (kind.Import file schema delim fixed reject)
import_says file schema delim None true true e = ap (λ d. Some (kind.Import file schema d None true)) (sym (eqb-true _ _ e))
import_says file schema delim None false true e = ap (λ d. Some (kind.Import file schema d None false)) (sym (eqb-true _ _ e))
import_says file schema delim (Some ws) true true e = ap (λ d. Some (kind.Import file schema d (Some ws) true)) (sym (eqb-true _ _ e))
import_says file schema delim (Some ws) false true e = ap (λ d. Some (kind.Import file schema d (Some ws) false)) (sym (eqb-true _ _ e))
import_says file schema delim None true false e = refl
import_says file schema delim None false false e = refl
import_says file schema delim (Some ws) true false e = refl
import_says file schema delim (Some ws) false false e = refl

export_says : (file : List ℕ) (delim : ℕ) (fixed : Option (List ℕ)) (b : Bool) → (delim == 44) ≡ b → kind_of op.Export (map setting_of (one opt.File form.File true 1 (value.Name file) ∷ (delim_if b 2 delim ++ widths_of 2 fixed))) ≡ Some (kind.Export file delim fixed)
export_says file delim None true e = ap (λ d. Some (kind.Export file d None)) (sym (eqb-true _ _ e))
export_says file delim (Some ws) true e = ap (λ d. Some (kind.Export file d (Some ws))) (sym (eqb-true _ _ e))
export_says file delim None false e = refl
export_says file delim (Some ws) false e = refl

abbrev settings : List AggSpec → List Setting
settings rs = map setting_of (map result_of rs)

no_key : (rs : List AggSpec) → found_value opt.Key (settings rs) ≡ None
no_key [] = refl
no_key (agg.Count new ∷ rs) = no_key rs
no_key (agg.Sum new old ∷ rs) = no_key rs
no_key (agg.Min new old ∷ rs) = no_key rs
no_key (agg.Max new old ∷ rs) = no_key rs
no_key (agg.First new old ∷ rs) = no_key rs
no_key (agg.Last new old ∷ rs) = no_key rs

no_hash : (rs : List AggSpec) → found_value opt.Hash (settings rs) ≡ None
no_hash [] = refl
no_hash (agg.Count new ∷ rs) = no_hash rs
no_hash (agg.Sum new old ∷ rs) = no_hash rs
no_hash (agg.Min new old ∷ rs) = no_hash rs
no_hash (agg.Max new old ∷ rs) = no_hash rs
no_hash (agg.First new old ∷ rs) = no_hash rs
no_hash (agg.Last new old ∷ rs) = no_hash rs

all_results : (rs : List AggSpec) → results_of (settings rs) ≡ rs
all_results [] = refl
all_results (r ∷ rs) = ap (λ (xs : List AggSpec). r ∷ xs) (all_results rs)

group_says : (key : List (List ℕ × Bool)) (hash : Bool) (results : List AggSpec) → kind_of op.Group (map setting_of (written (kind.Group key hash results))) ≡ Some (kind.Group key hash results)
group_says [] true results = rw (no_key results, all_results results) refl
group_says [] false results = rw (no_key results, no_hash results, all_results results) refl
group_says (k ∷ key) true results = rw (all_results results) refl
group_says (k ∷ key) false results = rw (no_hash results, all_results results) refl

-- what a transform's options say
abbrev set_settings : List SetSpec → Bool → List Setting
set_settings set reject = map setting_of (map set_of set ++ flag_of opt.Reject 1 reject)

all_sets : (set : List SetSpec) (reject : Bool) → sets_of (set_settings set reject) ≡ set
all_sets [] true = refl
all_sets [] false = refl
all_sets (s ∷ set) reject = ap (λ (xs : List SetSpec). s ∷ xs) (all_sets set reject)

set_rejects : (set : List SetSpec) (reject : Bool) → stands (found_value opt.Reject (set_settings set reject)) ≡ reject
set_rejects [] true = refl
set_rejects [] false = refl
set_rejects (s ∷ set) reject = set_rejects set reject

some_sets : (set : List SetSpec) (reject : Bool) → 1 ≤ length set → transform_by set reject ≡ Some (kind.Transform set reject)
some_sets [] reject h = absurd (omega arith)
some_sets (s ∷ set) reject h = refl

transform_says : (set : List SetSpec) (reject : Bool) → 1 ≤ length set → kind_of op.Transform (set_settings set reject) ≡ Some (kind.Transform set reject)
transform_says set reject h = ap (λ (xs : List SetSpec). transform_by xs (stands (found_value opt.Reject (set_settings set reject)))) (all_sets set reject) ∙ (ap (transform_by set) (set_rejects set reject) ∙ some_sets set reject h)

pub written_says : WrittenSays
written_says (kind.Import file schema delim fixed reject) b = import_says file schema delim fixed reject (delim == 44) refl
written_says (kind.Export file delim fixed) b = export_says file delim fixed (delim == 44) refl
written_says (kind.Dsread ds) b = refl
written_says (kind.Dswrite ds) b = refl
written_says kind.Copy b = refl
written_says (kind.Filter test true) b = refl
written_says (kind.Filter test false) b = refl
written_says (kind.Transform set reject) b = transform_says set reject b
written_says (kind.Switch on cases true) b = refl
written_says (kind.Switch on cases false) b = refl
written_says (kind.Modify [] [] []) b = refl
written_says (kind.Modify [] [] (p ∷ ps)) b = refl
written_says (kind.Modify [] (d ∷ ds) []) b = refl
written_says (kind.Modify [] (d ∷ ds) (p ∷ ps)) b = refl
written_says (kind.Modify (k ∷ ks) [] []) b = refl
written_says (kind.Modify (k ∷ ks) [] (p ∷ ps)) b = refl
written_says (kind.Modify (k ∷ ks) (d ∷ ds) []) b = refl
written_says (kind.Modify (k ∷ ks) (d ∷ ds) (p ∷ ps)) b = refl
written_says (kind.Tsort []) b = refl
written_says (kind.Tsort (k ∷ ks)) b = refl
written_says (kind.Remdup [] true) b = refl
written_says (kind.Remdup [] false) b = refl
written_says (kind.Remdup (k ∷ ks) true) b = refl
written_says (kind.Remdup (k ∷ ks) false) b = refl
written_says (kind.Group key hash results) b = group_says key hash results
written_says (kind.InnerJoin []) b = refl
written_says (kind.InnerJoin (k ∷ ks)) b = refl
written_says (kind.LeftOuterJoin []) b = refl
written_says (kind.LeftOuterJoin (k ∷ ks)) b = refl
written_says (kind.RightOuterJoin []) b = refl
written_says (kind.RightOuterJoin (k ∷ ks)) b = refl
written_says (kind.FullOuterJoin []) b = refl
written_says (kind.FullOuterJoin (k ∷ ks)) b = refl
written_says (kind.Merge [] true true) b = refl
written_says (kind.Merge [] true false) b = refl
written_says (kind.Merge [] false true) b = refl
written_says (kind.Merge [] false false) b = refl
written_says (kind.Merge (k ∷ ks) true true) b = refl
written_says (kind.Merge (k ∷ ks) true false) b = refl
written_says (kind.Merge (k ∷ ks) false true) b = refl
written_says (kind.Merge (k ∷ ks) false false) b = refl
written_says (kind.Lookup [] missing.Continue) b = refl
written_says (kind.Lookup [] missing.Drop) b = refl
written_says (kind.Lookup [] missing.Fail) b = refl
written_says (kind.Lookup [] missing.Reject) b = refl
written_says (kind.Lookup (k ∷ ks) missing.Continue) b = refl
written_says (kind.Lookup (k ∷ ks) missing.Drop) b = refl
written_says (kind.Lookup (k ∷ ks) missing.Fail) b = refl
written_says (kind.Lookup (k ∷ ks) missing.Reject) b = refl
written_says (kind.Changecapture [] [] true) b = refl
written_says (kind.Changecapture [] [] false) b = refl
written_says (kind.Changecapture [] (v ∷ vs) true) b = refl
written_says (kind.Changecapture [] (v ∷ vs) false) b = refl
written_says (kind.Changecapture (k ∷ ks) [] true) b = refl
written_says (kind.Changecapture (k ∷ ks) [] false) b = refl
written_says (kind.Changecapture (k ∷ ks) (v ∷ vs) true) b = refl
written_says (kind.Changecapture (k ∷ ks) (v ∷ vs) false) b = refl
written_says (kind.Funnel true []) b = refl
written_says (kind.Funnel true (k ∷ ks)) b = refl
written_says (kind.Funnel false []) b = refl
written_says (kind.Funnel false (k ∷ ks)) b = refl

-- ---- what is printed of them

abbrev text : List WrittenOption → List ℕ
text ws = flat_map written_text ws

single : (w : WrittenOption) → text (w ∷ []) ≡ written_text w
single w = flat_map-cons written_text w [] ∙ append-nil (written_text w)

both : (as1 bs : List WrittenOption) (x y : List ℕ) → x ≡ text as1 → y ≡ text bs → x ++ y ≡ text (as1 ++ bs)
both as1 bs x y a b = ap (λ (z : List ℕ). z ++ y) a ∙ (ap (λ (z : List ℕ). text as1 ++ z) b ∙ sym (flat_map-append written_text as1 bs))

flag_is : (o : OptName) (group : ℕ) (b : Bool) → flag_text o b ≡ text (flag_of o group b)
flag_is o group true = sym (single (one o form.Flag false group value.Flag))
flag_is o group false = refl

delim_is : (group d : ℕ) (b : Bool) → (if b then [] else option_text opt.Delim (d ∷ [])) ≡ text (delim_if b group d)
delim_is group d true = refl
delim_is group d false = sym (single (one opt.Delim form.Delim false group (value.Delim d)))

widths_is : (group : ℕ) (fixed : Option (List ℕ)) → widths_text fixed ≡ text (widths_of group fixed)
widths_is group None = refl
widths_is group (Some ws) = sym (single (one opt.Fixed form.Widths false group (value.Widths ws)))

keys_is : (o : OptName) (required : Bool) (group : ℕ) (keys : List (List ℕ × Bool)) → keys_option o keys ≡ text (keys_of o required group keys)
keys_is o required group [] = refl
keys_is o required group (k ∷ keys) = sym (single (one o form.Keys required group (value.Keys (k ∷ keys))))

columns_is : (o : OptName) (group : ℕ) (names : List (List ℕ)) → columns_option o names ≡ text (columns_of o group names)
columns_is o group [] = refl
columns_is o group (n ∷ names) = sym (single (one o form.Columns false group (value.Columns (n ∷ names))))

renames_is : (pairs : List (List ℕ × List ℕ)) → renames_option pairs ≡ text (renames_of pairs)
renames_is [] = refl
renames_is (p ∷ pairs) = sym (single (one opt.Rename form.Renames false 2 (value.Renames (p ∷ pairs))))

missing_is : (m : Missing) → missing_text m ≡ text (missing_of m)
missing_is missing.Fail = refl
missing_is missing.Continue = sym (single (one opt.Missing form.Missing false 2 (value.Missing missing.Continue)))
missing_is missing.Drop = sym (single (one opt.Missing form.Missing false 2 (value.Missing missing.Drop)))
missing_is missing.Reject = sym (single (one opt.Missing form.Missing false 2 (value.Missing missing.Reject)))

result_is : (r : AggSpec) → result_text r ≡ written_text (result_of r)
result_is (agg.Count new) = refl
result_is (agg.Sum new old) = refl
result_is (agg.Min new old) = refl
result_is (agg.Max new old) = refl
result_is (agg.First new old) = refl
result_is (agg.Last new old) = refl

results_is : (rs : List AggSpec) → results_text rs ≡ text (map result_of rs)
results_is [] = refl
results_is (r ∷ rs) = flat_map-cons result_text r rs ∙ (ap (λ (z : List ℕ). z ++ results_text rs) (result_is r) ∙ (ap (λ (z : List ℕ). written_text (result_of r) ++ z) (results_is rs) ∙ sym (flat_map-cons written_text (result_of r) (map result_of rs))))

sets_is : (set : List SetSpec) → sets_text set ≡ text (map set_of set)
sets_is [] = refl
sets_is (s ∷ set) = flat_map-cons (λ (t : SetSpec). option_text opt.Set (set_text t)) s set ∙ (ap (λ (z : List ℕ). written_text (set_of s) ++ z) (sets_is set) ∙ sym (flat_map-cons written_text (set_of s) (map set_of set)))

-- one option, and what stands behind it
one_and : (w : WrittenOption) (more : List WrittenOption) (y : List ℕ) → y ≡ text more → written_text w ++ y ≡ text (w ∷ more)
one_and w more y e = both (w ∷ []) more (written_text w) y (sym (single w)) e

-- a key, and what stands behind it
keyed : (required : Bool) (key : List (List ℕ × Bool)) (more : List WrittenOption) (y : List ℕ) → y ≡ text more → [] ++ (keys_option opt.Key key ++ y) ≡ text (keys_of opt.Key required 1 key ++ more)
keyed required key more y e = both (keys_of opt.Key required 1 key) more (keys_option opt.Key key) y (keys_is opt.Key required 1 key) e

key_alone : (key : List (List ℕ × Bool)) → [] ++ (keys_option opt.Key key ++ []) ≡ text (keys_of opt.Key true 1 key)
key_alone key = append-nil (keys_option opt.Key key) ∙ keys_is opt.Key true 1 key

ends_is : (ws : List WrittenOption) (x : List ℕ) → x ≡ text ws → x ++ ([] ++ []) ≡ text ws
ends_is ws x e = append-nil x ∙ e

import_is : (file : List ℕ) (schema : List Field) (delim : ℕ) (fixed : Option (List ℕ)) (reject : Bool) → (option_text opt.File file ++ option_text opt.Schema (schema_text schema)) ++ ((delim_text delim ++ widths_text fixed) ++ flag_text opt.Reject reject) ≡ text (written (kind.Import file schema delim fixed reject))
import_is file schema delim fixed reject =
    let f = one opt.File form.File true 1 (value.Name file) in
    let s = one opt.Schema form.Schema true 2 (value.Schema schema) in
    append_assoc (option_text opt.File file) (option_text opt.Schema (schema_text schema)) _
    ∙ (ap (λ (z : List ℕ). option_text opt.File file ++ (option_text opt.Schema (schema_text schema) ++ z)) (append_assoc (delim_text delim) (widths_text fixed) (flag_text opt.Reject reject))
    ∙ both (f ∷ []) (s ∷ (delim_of 3 delim ++ (widths_of 3 fixed ++ flag_of opt.Reject 4 reject))) (option_text opt.File file) _ (sym (single f))
    (both (s ∷ []) (delim_of 3 delim ++ (widths_of 3 fixed ++ flag_of opt.Reject 4 reject)) (option_text opt.Schema (schema_text schema)) _ (sym (single s))
    (both (delim_of 3 delim) (widths_of 3 fixed ++ flag_of opt.Reject 4 reject) (delim_text delim) _ (delim_is 3 delim (delim == 44))
    (both (widths_of 3 fixed) (flag_of opt.Reject 4 reject) (widths_text fixed) (flag_text opt.Reject reject) (widths_is 3 fixed) (flag_is opt.Reject 4 reject)))))

export_is : (file : List ℕ) (delim : ℕ) (fixed : Option (List ℕ)) → option_text opt.File file ++ (delim_text delim ++ widths_text fixed) ≡ text (written (kind.Export file delim fixed))
export_is file delim fixed =
    let f = one opt.File form.File true 1 (value.Name file) in
    both (f ∷ []) (delim_of 2 delim ++ widths_of 2 fixed) (option_text opt.File file) _ (sym (single f)) (both (delim_of 2 delim) (widths_of 2 fixed) (delim_text delim) (widths_text fixed) (delim_is 2 delim (delim == 44)) (widths_is 2 fixed))

pub written_printed : WrittenIsPrinted
written_printed (kind.Import file schema delim fixed reject) b = ends_is (written (kind.Import file schema delim fixed reject)) _ (import_is file schema delim fixed reject)
written_printed (kind.Export file delim fixed) b = ends_is (written (kind.Export file delim fixed)) _ (export_is file delim fixed)
written_printed (kind.Dsread ds) b = ends_is (written (kind.Dsread ds)) _ (sym (single (one opt.Ds form.DataSet true 1 (value.Name ds))))
written_printed (kind.Dswrite ds) b = ends_is (written (kind.Dswrite ds)) _ (sym (single (one opt.Ds form.DataSet true 1 (value.Name ds))))
written_printed kind.Copy b = refl
written_printed (kind.Filter test reject) b = one_and (one opt.Where form.Expression true 1 (value.Expression test)) (flag_of opt.Reject 2 reject) _ (flag_is opt.Reject 2 reject)
written_printed (kind.Transform set reject) b = both (map set_of set) (flag_of opt.Reject 1 reject) _ _ (sets_is set) (flag_is opt.Reject 1 reject)
written_printed (kind.Switch on cases reject) b =
    let c = one opt.Cases form.Cases true 2 (value.Cases cases) in
    one_and (one opt.On form.Expression true 1 (value.Expression on)) (c ∷ flag_of opt.Reject 3 reject) _ (one_and c (flag_of opt.Reject 3 reject) _ (flag_is opt.Reject 3 reject))
written_printed (kind.Modify keep drop rename) b = both (columns_of opt.Keep 1 keep) (columns_of opt.Drop 1 drop ++ renames_of rename) _ _ (columns_is opt.Keep 1 keep) (both (columns_of opt.Drop 1 drop) (renames_of rename) _ _ (columns_is opt.Drop 1 drop) (renames_is rename))
written_printed (kind.Tsort key) b = key_alone key
written_printed (kind.Remdup key last) b = keyed true key (flag_of opt.Last 2 last) _ (flag_is opt.Last 2 last)
written_printed (kind.Group key hash results) b = keyed false key (flag_of opt.Hash 2 hash ++ map result_of results) _ (both (flag_of opt.Hash 2 hash) (map result_of results) _ _ (flag_is opt.Hash 2 hash) (results_is results))
written_printed (kind.InnerJoin key) b = key_alone key
written_printed (kind.LeftOuterJoin key) b = key_alone key
written_printed (kind.RightOuterJoin key) b = key_alone key
written_printed (kind.FullOuterJoin key) b = key_alone key
written_printed (kind.Merge key keepbad reject) b = keyed true key (flag_of opt.Keepbad 2 keepbad ++ flag_of opt.Reject 3 reject) _ (both (flag_of opt.Keepbad 2 keepbad) (flag_of opt.Reject 3 reject) _ _ (flag_is opt.Keepbad 2 keepbad) (flag_is opt.Reject 3 reject))
written_printed (kind.Lookup key m) b = keyed true key (missing_of m) _ (missing_is m)
written_printed (kind.Changecapture key values keepcopy) b = keyed true key (columns_of opt.Values 2 values ++ flag_of opt.Keepcopy 3 keepcopy) _ (both (columns_of opt.Values 2 values) (flag_of opt.Keepcopy 3 keepcopy) _ _ (columns_is opt.Values 2 values) (flag_is opt.Keepcopy 3 keepcopy))
written_printed (kind.Funnel sequence sort) b = both (flag_of opt.Sequence 1 sequence) (keys_of opt.Sort false 1 sort) _ _ (flag_is opt.Sequence 1 sequence) (keys_is opt.Sort false 1 sort)
