-- Merges, changes and funnels of a shaped flow: what the law of flows asks of them, and their rows.
use Rattle.std.proofs.Common.{◌≡◌, ◌≤◌, ◌<◌, ◌+◌, ◌&&◌, ℕ, zero, suc, not, Bool, true, false, cond, List, [], ◌∷◌, ◌++◌, length, length-append, map, flat_map, get_or, refl, sym, ap, ap₂, ◌∙◌, subst, arith, None}
use Rattle.std.specs.Prelude.{nat_le, pos, drop}
use Rattle.std.specs.List.{AllByRecursion, list_all}
use Rattle.std.proofs.lemmas.Bool.Decides.{nat_tests}
use Rattle.std.proofs.lemmas.List.{length-map}
use Rattle.ds_value.specs.declared.kind.Kind.{Kind}
use Rattle.ds_value.specs.declared.value.Value.{Value}
use Rattle.ds_value.specs.declared.value.Value.TheVariants as value
use Rattle.ds_value.specs.Kinds.{fits_kind}
use Rattle.ds_schema.specs.declared.schema.Field.{Field}
use Rattle.ds_schema.specs.Rows.{cols, val, ways}
use Rattle.ds_schema.specs.Schemas.{fits_field, row_fits}
use Rattle.op_base.specs.Columns.{Lies, Row, all_columns}
use Rattle.op_base.specs.Keyed.{get_keys, same_vals}
use Rattle.op_base.specs.Lists.{joined}
use Rattle.op_base.specs.Meanings.{Capture, Merging, are_none, change, change_rule, changes, coded, columns_of, first_row, input, is_none, merge_rule, update_values, ways_of}
use Rattle.op_base.proofs.All.{all_append, all_cond, all_dropped, all_map, both_true}
use Rattle.op_base.proofs.ColumnLaws.{length-range_with}
use Rattle.op_base.proofs.KeyValues.{Keyed}
use Rattle.op_lookup.proofs.Finding.{own-values-stay}
use Rattle.op_match.specs.Captures.{capturing}
use Rattle.op_match.specs.Merges.{merging, others_in}
use Rattle.flow_graph.specs.Operators.{changecapture, merge, result}
use Rattle.flow_graph.specs.Runs.{result_on}
use Rattle.flow_graph.specs.Shapes.{AllWidths, MergeShape, SameWays, total_length}
use Rattle.shape_base.specs.Causes.{cause_if}
use Rattle.shape_base.specs.Fields.{first_fields}
use Rattle.shape_base.specs.Naming.{has_keys, key_columns}
use Rattle.shape_base.specs.declared.fault.ShapeWhy.TheVariants as why
use Rattle.shape_base.proofs.Firsts.{none_head}
use Rattle.shape_base.proofs.Held.{held, keys_lie}
use Rattle.keyed_shape.specs.Keyed.{nullable_if, other_fields, same_flag, same_kind}
use Rattle.keyed_shape.specs.Matched.{capture_fields, code_field, inputs_cause, inputs_keys, master_field, may_miss, merge_fields, merge_output, same_field, same_fields, schemas_cause, value_columns}
use Rattle.flow_sound.proofs.ByKeys.{Come, RuleFits, runs_fit, values_fit}
use Rattle.flow_sound.proofs.Joins.{each_mapped, others_long}
use Rattle.flow_sound.proofs.Picking.{may_be_null, no_others_fit, others_fit, rows_beside, same_flag_is, same_kind_is, widened_fits}
use Rattle.flow_sound.proofs.SetRows.{both}
use Rattle.flow_sound.proofs.Working.{Fit, fits_long}

abbrev Fits : List Field → Row → Type 0
Fits fields r = row_fits fields r ≡ true

-- ---- inputs that are alike

-- each input has the keys
abbrev pub AllHave : List (List ℕ × Bool) → List (List Field) → Type 0
AllHave key ins = list_all (λ fields. has_keys fields key) ins ≡ true

pub all_have : (key : List (List ℕ × Bool)) (ins : List (List Field)) → inputs_cause key ins ≡ None → AllHave key ins
all_have key ins e = let have = list_all (λ fields. has_keys fields key) ins in held have why.Field (none_head (cause_if (not have) why.Field) _ e).0

-- each input has the fields of these
abbrev pub AllAlike : List Field → List (List Field) → Type 0
AllAlike first ins = list_all (same_fields first) ins ≡ true

pub all_alike : (ins : List (List Field)) → schemas_cause ins ≡ None → AllAlike (first_fields ins) ins
all_alike ins e = held (list_all (same_fields (first_fields ins)) ins) why.Schemas e

same_long : (fs gs : List Field) → same_fields fs gs ≡ true → length gs ≡ length fs
same_long [] [] e = refl
same_long [] (g ∷ gs) e = cc
same_long (f ∷ fs) [] e = cc
same_long (f ∷ fs) (g ∷ gs) e = ap suc (same_long fs gs (both_true (same_field f g) (same_fields fs gs) e).1)

same_field_fits : (f g : Field) (v : Value) → (same_flag f.nullable g.nullable && same_kind f.kind g.kind) ≡ true → fits_field g v ≡ true → fits_field f v ≡ true
same_field_fits f g v e h =
    let parts = both_true (same_flag f.nullable g.nullable) (same_kind f.kind g.kind) e in go v (same_flag_is f.nullable g.nullable parts.0) (same_kind_is f.kind g.kind parts.1) h
  where
    go : (v : Value) → f.nullable ≡ g.nullable → f.kind ≡ g.kind → fits_field g v ≡ true → fits_field f v ≡ true
    go value.Null n k h = n ∙ h
    go (value.Int z) n k h = ap (λ (t : Kind). fits_kind t (value.Int z)) k ∙ h
    go (value.UInt m) n k h = ap (λ (t : Kind). fits_kind t (value.UInt m)) k ∙ h
    go (value.Dec z) n k h = ap (λ (t : Kind). fits_kind t (value.Dec z)) k ∙ h
    go (value.Text b) n k h = ap (λ (t : Kind). fits_kind t (value.Text b)) k ∙ h
    go (value.Date d) n k h = ap (λ (t : Kind). fits_kind t (value.Date d)) k ∙ h

same_fit : (fs gs : List Field) (r : Row) → same_fields fs gs ≡ true → Fits gs r → Fits fs r
same_fit [] [] r e h = h
same_fit [] (g ∷ gs) r e h = cc
same_fit (f ∷ fs) [] r e h = cc
same_fit (f ∷ fs) (g ∷ gs) [] e h = cc
same_fit (f ∷ fs) (g ∷ gs) (v ∷ r) e h =
    let one = both_true (same_field f g) (same_fields fs gs) e in
    let two = both_true (fits_field g v) (row_fits gs r) h in
    both (same_field_fits f g v (both_true (Rattle.std.specs.Str.bytes_eq f.name g.name) (same_flag f.nullable g.nullable && same_kind f.kind g.kind) one.0).1 two.0) (same_fit fs gs r one.1 two.1)

all_same_fit : (fs gs : List Field) → same_fields fs gs ≡ true → (rows : List Row) → Fit gs rows → Fit fs rows
all_same_fit fs gs e rows h = all_map (Fits gs) (Fits fs) (λ r k. same_fit fs gs r e k) rows h

-- rows of any input fit the first one's fields
pub alike_fit : (first : List Field) (ins : List (List Field)) (i : ℕ) (rows : List Row) → AllAlike first ins → i < length ins → Fit (get_or ins i []) rows → Fit first rows
alike_fit first [] i rows a l h = absurd (omega (arith, l))
alike_fit first (fields ∷ ins) zero rows a l h = all_same_fit first fields (both_true (same_fields first fields) (list_all (same_fields first) ins) a).0 rows h
alike_fit first (fields ∷ ins) (suc i) rows a l h = alike_fit first ins i rows (both_true (same_fields first fields) (list_all (same_fields first) ins) a).1 (omega (arith, l)) h

pub alike_long : (first : List Field) (ins : List (List Field)) → AllAlike first ins → AllWidths (map length ins) (length first)
alike_long first [] a = tt
alike_long first (fields ∷ ins) a = let one = both_true (same_fields first fields) (list_all (same_fields first) ins) a in (same_long first fields one.0, alike_long first ins one.1)

-- ---- rows of a row's own columns

pub own_fits : (fields : List Field) (r : Row) → Fits fields r → Fits fields (val (all_columns (length fields)) r)
own_fits fields r e = ap (λ n. row_fits fields (val (all_columns n) r)) (sym (fits_long fields r e)) ∙ ap (row_fits fields) (own-values-stay r) ∙ e

-- ---- merge

-- a merge by these keys of rows of these fields
abbrev pub merged_by : (key : List (List ℕ × Bool)) (keeps_bad rejects : Bool) → List (List Field) → Merging
merged_by key keeps_bad rejects ins = merging (inputs_keys key ins) (map length ins) keeps_bad rejects

-- the widths of its outputs; none has rows but the first and those of updates
abbrev pub merge_widths : (key : List (List ℕ × Bool)) (keeps_bad : Bool) → List (List Field) → ℕ → ℕ
merge_widths key keeps_bad ins zero = length (merge_fields key keeps_bad ins)
merge_widths key keeps_bad ins (suc i) = get_or (map length ins) (suc i) 0

long_at : (ins : List (List Field)) (i : ℕ) (other : List Field) → i < length ins → length (get_or ins i other) ≡ get_or (map length ins) i 0
long_at [] i other l = absurd (omega (arith, l))
long_at (fields ∷ ins) zero other l = refl
long_at (fields ∷ ins) (suc i) other l = long_at ins i other (omega (arith, l))

pub merge_long : (key : List (List ℕ × Bool)) (keeps_bad : Bool) (ins : List (List Field)) (q : ℕ) → q < length ins → length (merge_output key keeps_bad ins q) ≡ merge_widths key keeps_bad ins q
merge_long key keeps_bad ins zero l = refl
merge_long key keeps_bad ins (suc i) l = long_at ins (suc i) (first_fields ins) l

key_ways : (key : List (List ℕ × Bool)) (fields : List Field) → ways (key_columns fields key) ≡ map (λ (k : List ℕ × Bool). k.1) key
key_ways [] fields = refl
key_ways (k ∷ key) fields = ap (λ ds. k.1 ∷ ds) (key_ways key fields)

one_way : (key : List (List ℕ × Bool)) (ins : List (List Field)) → SameWays (map (λ (k : List ℕ × Bool). k.1) key) (inputs_keys key ins)
one_way key [] = tt
one_way key (fields ∷ ins) = (key_ways key fields, one_way key ins)

-- as the first key list has
pub merge_ways : (key : List (List ℕ × Bool)) (ins : List (List Field)) → SameWays (ways_of (inputs_keys key ins)) (inputs_keys key ins)
merge_ways key [] = tt
merge_ways key (fields ∷ ins) = subst (λ ds. SameWays ds (inputs_keys key (fields ∷ ins))) (sym (key_ways key fields)) (one_way key (fields ∷ ins))

keys_lie_in : (key : List (List ℕ × Bool)) (ins : List (List Field)) (i : ℕ) → AllHave key ins → Lies (cols (get_keys (inputs_keys key ins) i)) (all_columns (get_or (map length ins) i 0))
keys_lie_in key [] i h = tt
keys_lie_in key (fields ∷ ins) zero h = keys_lie fields key (both_true (has_keys fields key) (list_all (λ fs. has_keys fs key) ins) h).0
keys_lie_in key (fields ∷ ins) (suc i) h = keys_lie_in key ins i (both_true (has_keys fields key) (list_all (λ fs. has_keys fs key) ins) h).1

abbrev updates_fields : Bool → List (List ℕ × Bool) → List (List Field) → List Field
updates_fields missing key updates = flat_map (λ fields. map (nullable_if missing) (other_fields key fields)) updates

abbrev updates_columns : List (List ℕ × Bool) → List (List Field) → List (List ℕ)
updates_columns key updates = others_in (inputs_keys key updates) (map length updates)

updates_long : (missing : Bool) (key : List (List ℕ × Bool)) (updates : List (List Field)) → length (updates_fields missing key updates) ≡ total_length (updates_columns key updates)
updates_long missing key [] = refl
updates_long missing key (fields ∷ updates) =
    length-append (map (nullable_if missing) (other_fields key fields)) (updates_fields missing key updates) ∙ ap₂ (λ a b. a + b) (others_long missing key fields) (updates_long missing key updates)

pub merge_shaped : (key : List (List ℕ × Bool)) (keeps_bad rejects : Bool) (ins : List (List Field)) → AllHave key ins → MergeShape (merged_by key keeps_bad rejects ins) (map length ins) (merge_widths key keeps_bad ins)
merge_shaped key keeps_bad rejects [] h = record {
  ds = map (λ (k : List ℕ × Bool). k.1) key;
  ways = tt;
  master = refl;
  keys_in = tt;
  first = refl;
  other = λ i. refl;
  other_keys = λ i. tt;
}
merge_shaped key keeps_bad rejects (master ∷ updates) h = record {
  ds = map (λ (k : List ℕ × Bool). k.1) key;
  ways = one_way key (master ∷ updates);
  master = refl;
  keys_in = keys_lie_in key (master ∷ updates) 0 h;
  first =
      length-append (map (master_field key updates) master) (updates_fields (may_miss keeps_bad updates) key updates)
      ∙ ap₂ (λ a b. a + b) (length-map master (master_field key updates) ∙ sym (length-range_with 0 (length master))) (updates_long (may_miss keeps_bad updates) key updates);
  other = λ i. refl;
  other_keys = λ i. keys_lie_in key (master ∷ updates) (suc i) h;
}

-- an update's other columns: of a row that fits, or of none where one may be missing
update_fits : (missing : Bool) (key : List (List ℕ × Bool)) (fields : List Field) (rows : List Row) → missing ≡ true → Fit fields rows → Fits (map (nullable_if missing) (other_fields key fields)) (val (Rattle.keyed_shape.specs.Keyed.other_columns key fields) (first_row rows))
update_fits missing key fields [] m h = no_others_fit missing key fields m
update_fits missing key fields (r ∷ rows) m h = others_fit missing key fields r h.0

updates_fit : (missing : Bool) (key : List (List ℕ × Bool)) (updates : List (List Field)) (inputs : List (List Row)) → missing ≡ true → Come updates inputs → Fits (updates_fields missing key updates) (update_values (updates_columns key updates) inputs)
updates_fit missing key [] inputs m h = refl
updates_fit missing key (fields ∷ updates) [] m h =
    rows_beside (map (nullable_if missing) (other_fields key fields)) (updates_fields missing key updates) _ _ (no_others_fit missing key fields m) (updates_fit missing key updates [] m (nothing_comes updates))
  where
    nothing_comes : (fs : List (List Field)) → Come fs []
    nothing_comes [] = tt
    nothing_comes (f ∷ fs) = tt
updates_fit missing key (fields ∷ updates) (rows ∷ inputs) m h =
    rows_beside (map (nullable_if missing) (other_fields key fields)) (updates_fields missing key updates) _ _ (update_fits missing key fields rows m h.0) (updates_fit missing key updates inputs m h.1)

two_or_more : (n : ℕ) → nat_le 2 (suc (suc n)) ≡ true
two_or_more n = grind (arith, nat_tests)

-- without an update's row a master is given only where one may be missing
updates_there : (keeps_bad : Bool) (key : List (List ℕ × Bool)) (updates : List (List Field)) (v : List Value) (inputs : List (List Row)) → Keyed (columns_of (inputs_keys key updates)) v inputs → Come updates inputs → (are_none inputs && not keeps_bad) ≡ false
    → Fits (updates_fields (may_miss keeps_bad updates) key updates) (update_values (updates_columns key updates) inputs)
updates_there true key updates v inputs k h e = updates_fit (may_miss true updates) key updates inputs refl h
updates_there false key [] v inputs k h e = refl
updates_there false key (fields ∷ []) v [] k h e = cc
updates_there false key (fields ∷ []) v ([] ∷ []) k h e = cc
updates_there false key (fields ∷ []) v ((r ∷ rows) ∷ []) k h e =
    rows_beside (map (nullable_if (may_miss false (fields ∷ []))) (other_fields key fields)) [] _ _ (others_fit (may_miss false (fields ∷ [])) key fields r h.0.0) refl
updates_there false key (fields ∷ []) v (rows ∷ (more ∷ inputs)) k h e = absurd (none_more k.1)
  where
    none_more : (more ∷ inputs) ≡ [] → ⊥
    none_more e = cc
updates_there false key (fields ∷ (other ∷ updates)) v inputs k h e = updates_fit (may_miss false (fields ∷ (other ∷ updates))) key (fields ∷ (other ∷ updates)) inputs (two_or_more (length updates)) h

-- of no more inputs than there are columns
came_at : (key : List (List ℕ × Bool)) (ins : List (List Field)) (v : List Value) (inputs : List (List Row)) (i : ℕ) (other : List Field) → Keyed (columns_of (inputs_keys key ins)) v inputs → Come ins inputs → Fit (get_or ins i other) (input i inputs)
came_at key [] v inputs i other k h = subst (λ xs. Fit (get_or [] i other) (input i xs)) (sym k) tt
came_at key (fields ∷ ins) v [] i other k h = tt
came_at key (fields ∷ ins) v (rows ∷ inputs) zero other k h = h.0
came_at key (fields ∷ ins) v (rows ∷ inputs) (suc i) other k h = came_at key ins v inputs i other k.1 h.1

module _ (key : List (List ℕ × Bool)) (keeps_bad rejects : Bool) where
  abbrev by : List (List Field) → Merging
  by ins = merged_by key keeps_bad rejects ins

  master_fits : (master : List Field) (updates : List (List Field)) (r : Row) → Fits master r → Fits (map (master_field key updates) master) (val (all_columns (length master)) r)
  master_fits master updates r e = widened_fits (master_field key updates) (λ f v h. may_be_null _ f v h) master (val (all_columns (length master)) r) (own_fits master r e)

  masters_fit : (ins : List (List Field)) (v : List Value) (inputs : List (List Row)) → Keyed (columns_of (by ins).keys) v inputs → Come ins inputs → Fit (merge_fields key keeps_bad ins) (merge_rule (by ins) 0 v inputs)
  masters_fit [] v inputs k h = subst (λ xs. Fit (merge_fields key keeps_bad []) (merge_rule (by []) 0 v xs)) (sym k) (all_cond (Fits (merge_fields key keeps_bad [])) (true && not keeps_bad) [] [] tt tt)
  masters_fit (master ∷ updates) v [] k h = all_cond (Fits (merge_fields key keeps_bad (master ∷ updates))) (true && not keeps_bad) [] [] tt tt
  masters_fit (master ∷ updates) v (rows ∷ inputs) k h = go (are_none inputs && not keeps_bad) refl
    where
      given : List Row
      given = map (λ r. val (all_columns (length master)) r ++ update_values (updates_columns key updates) inputs) rows

      go : (b : Bool) → (are_none inputs && not keeps_bad) ≡ b → Fit (merge_fields key keeps_bad (master ∷ updates)) (cond b [] given)
      go true e = tt
      go false e =
          each_mapped (merge_fields key keeps_bad (master ∷ updates)) (λ r. val (all_columns (length master)) r ++ update_values (updates_columns key updates) inputs) (Fits master)
          (λ r f. rows_beside (map (master_field key updates) master) (updates_fields (may_miss keeps_bad updates) key updates) _ _ (master_fits master updates r f) (updates_there keeps_bad key updates v inputs k.1 h.1 e)) rows h.0

  rejected_fit : (ins : List (List Field)) (i : ℕ) (v : List Value) (inputs : List (List Row)) → Keyed (columns_of (by ins).keys) v inputs → Come ins inputs → Fit (merge_output key keeps_bad ins (suc i)) (merge_rule (by ins) (suc i) v inputs)
  rejected_fit ins i v inputs k h =
      let made = merge_output key keeps_bad ins (suc i) in
      let here = came_at key ins v inputs (suc i) (first_fields ins) k h in
      all_cond (Fits made) rejects _ [] (all_cond (Fits made) (is_none (input 0 inputs)) (input (suc i) inputs) (drop 1 (input (suc i) inputs)) here (all_dropped (Fits made) (input (suc i) inputs) here)) tt

  merge_rule_fits : (ins : List (List Field)) (q : ℕ) → RuleFits ins (columns_of (by ins).keys) (merge_output key keeps_bad ins q) (merge_rule (by ins) q)
  merge_rule_fits ins zero v inputs k h = masters_fit ins v inputs k h
  merge_rule_fits ins (suc i) v inputs k h = rejected_fit ins i v inputs k h

  pub merge_fits : (ins : List (List Field)) (q : ℕ) (inputs : List (List Row)) → Come ins inputs → Fit (merge_output key keeps_bad ins q) (result (merge (by ins)) q inputs)
  merge_fits ins q inputs h = values_fit ins (columns_of (by ins).keys) (merge_output key keeps_bad ins q) (merge_rule (by ins) q) (merge_rule_fits ins q) (ways_of (by ins).keys) false inputs h

  pub merge_fits_on : (ins : List (List Field)) (q : ℕ) (inputs : List (List Row)) → Come ins inputs → Fit (merge_output key keeps_bad ins q) (result_on (merge (by ins)) q 0 inputs)
  merge_fits_on ins q inputs h = runs_fit ins (columns_of (by ins).keys) (merge_output key keeps_bad ins q) (merge_rule (by ins) q) (merge_rule_fits ins q) (ways_of (by ins).keys) inputs h

-- ---- changecapture

-- a capture of changes by these keys between rows of these fields
abbrev pub captured : (key : List (List ℕ × Bool)) (values : List (List ℕ)) (keeps_copy : Bool) → List Field → Capture
captured key values keeps_copy fields = capturing (key_columns fields key) (value_columns key values fields) keeps_copy (length fields)

pub capture_long : (fields : List Field) → length (capture_fields fields) ≡ length (all_columns (length fields)) + 1
capture_long fields = length-append fields (code_field ∷ []) ∙ ap (λ n. n + 1) (sym (length-range_with 0 (length fields)))

module _ (key : List (List ℕ × Bool)) (values : List (List ℕ)) (keeps_copy : Bool) (fields : List Field) where
  abbrev c : Capture
  c = captured key values keeps_copy fields

  abbrev made : List Field
  made = capture_fields fields

  coded_fits : (n : ℕ) → fits_field code_field (value.Int (pos n)) ≡ true → (r : Row) → Fits fields r → Fits made (coded c n r)
  coded_fits n e r h = rows_beside fields (code_field ∷ []) (val (all_columns (length fields)) r) (value.Int (pos n) ∷ []) (own_fits fields r h) (both e refl)

  change_fits : (b a : Row) → Fits fields a → Fit made (change c b a)
  change_fits b a h =
      all_cond (Fits made) (same_vals (val c.values b) (val c.values a)) _ _ (all_cond (Fits made) keeps_copy (coded c 0 a ∷ []) [] (coded_fits 0 refl a h, tt) tt) (coded_fits 3 refl a h, tt)

  changes_fit : (befores afters : List Row) → Fit fields befores → Fit fields afters → Fit made (changes c befores afters)
  changes_fit [] afters h k = each_mapped made (coded c 1) (Fits fields) (coded_fits 1 refl) afters k
  changes_fit (b ∷ befores) [] h k = each_mapped made (coded c 2) (Fits fields) (coded_fits 2 refl) (b ∷ befores) h
  changes_fit (b ∷ befores) (a ∷ afters) h k = all_append (Fits made) (change c b a) (changes c befores afters) (change_fits b a k.0) (changes_fit befores afters h.1 k.1)

  change_rule_fits : RuleFits (fields ∷ (fields ∷ [])) (cols c.keys ∷ (cols c.keys ∷ [])) made (change_rule c)
  change_rule_fits v [] k h = tt
  change_rule_fits v (befores ∷ []) k h = changes_fit befores [] h.0 tt
  change_rule_fits v (befores ∷ (afters ∷ inputs)) k h = changes_fit befores afters h.0 h.1.0

  pub capture_fits : (q : ℕ) (inputs : List (List Row)) → Come (fields ∷ (fields ∷ [])) inputs → Fit made (result (changecapture c) q inputs)
  capture_fits q inputs h = values_fit (fields ∷ (fields ∷ [])) (cols c.keys ∷ (cols c.keys ∷ [])) made (change_rule c) change_rule_fits (ways c.keys) false inputs h

  pub capture_fits_on : (q : ℕ) (inputs : List (List Row)) → Come (fields ∷ (fields ∷ [])) inputs → Fit made (result_on (changecapture c) q 0 inputs)
  capture_fits_on q inputs h = runs_fit (fields ∷ (fields ∷ [])) (cols c.keys ∷ (cols c.keys ∷ [])) made (change_rule c) change_rule_fits (ways c.keys) inputs h

-- ---- funnels

-- the rows of all inputs, each of which fits the fields of its own
pub inputs_alike : (first : List Field) (ins : List (List Field)) (inputs : List (List Row)) → AllAlike first ins → length inputs ≤ length ins → ((i : ℕ) → Fit (get_or ins i []) (input i inputs)) → AllByRecursion (Fit first) inputs
inputs_alike first ins [] a l h = tt
inputs_alike first [] (rows ∷ inputs) a l h = absurd (omega (arith, l))
inputs_alike first (fields ∷ ins) (rows ∷ inputs) a l h =
    let one = both_true (same_fields first fields) (list_all (same_fields first) ins) a in
    (all_same_fit first fields one.0 rows (h 0), inputs_alike first ins inputs one.1 (omega (arith, l)) (λ i. h (suc i)))

pub joined_fit : (first : List Field) (inputs : List (List Row)) → AllByRecursion (Fit first) inputs → Fit first (joined inputs)
joined_fit first [] h = tt
joined_fit first (rows ∷ inputs) h = all_append (Fits first) rows (joined inputs) h.0 (joined_fit first inputs h.1)
