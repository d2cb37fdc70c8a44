-- Groups of a shaped flow: what the law of flows asks of them, and their rows.
use Rattle.std.proofs.Common.{◌≡◌, ◌≤◌, ◌+◌, ◌^◌, ◌||◌, ◌<◌, ℕ, zero, suc, Bool, true, false, cond, List, [], ◌∷◌, get_or, length, length-append, map, Option, Some, None, refl, sym, ap, ap₂, ◌∙◌, subst, arith}
use Rattle.std.specs.Prelude.{nat_le, nat_lt, if◌then◌else◌, not}
use Rattle.std.specs.List.{AllByRecursion, list_any}
use Rattle.std.proofs.lemmas.Bool.Decides.{nat_tests}
use Rattle.std.proofs.lemmas.List.{length-map}
use Rattle.std.proofs.lemmas.List.Sums.{count_by-le-length, length-filter}
use Rattle.ds_value.specs.declared.kind.Kind.{Kind}
use Rattle.ds_value.specs.declared.kind.Kind.TheVariants as data_kind
use Rattle.ds_value.specs.declared.value.Value.{Value}
use Rattle.ds_value.specs.declared.value.Value.TheVariants as value
use Rattle.ds_schema.specs.declared.schema.Field.{Field}
use Rattle.ds_schema.specs.Rows.{at, cols, val, ways}
use Rattle.ds_schema.specs.Schemas.{fits_field, row_fits}
use Rattle.op_base.specs.Columns.{Row}
use Rattle.op_base.specs.Feeds.{by_runs}
use Rattle.op_base.specs.Meanings.{Grouping, group_rows, input, row_of}
use Rattle.op_group.specs.declared.agg.Agg.{Agg}
use Rattle.op_group.specs.declared.agg.Agg.TheVariants as made
use Rattle.op_group.specs.Results.{both, column as column_of, each_result, first_value, greatest, in_row_order, is_null, last_value, least, present, result, results}
use Rattle.op_group.specs.Results as given
use Rattle.flow_graph.specs.declared.op_kind.AggSpec.{AggSpec}
use Rattle.flow_graph.specs.declared.op_kind.AggSpec.TheVariants as agg
use Rattle.flow_graph.specs.Charts.{sees_order}
use Rattle.flow_graph.specs.Operators.{group, result as result_of}
use Rattle.flow_graph.specs.Runs.{result_on}
use Rattle.flow_graph.specs.Shapes.{GroupShape}
use Rattle.flow_ops.specs.Keyed.{aggs_of, grouping_at}
use Rattle.flow_ops.specs.Kept.{CanBeSummed, SumsFit}
use Rattle.shape_base.specs.Causes.{cause_if, first_cause}
use Rattle.shape_base.specs.Fields.{field_at}
use Rattle.shape_base.specs.Naming.{column, has_column, has_keys, key_columns}
use Rattle.shape_base.specs.declared.fault.ShapeWhy.TheVariants as why
use Rattle.shape_base.proofs.Firsts.{none_head}
use Rattle.shape_base.proofs.Held.{column_within, held}
use Rattle.keyed_shape.specs.Keyed.{can_sum, field_named, group_fields, result_cause, result_causes, result_field, source_cause, source_columns}
use Rattle.flow_sound.proofs.Permuted.{results_permuted}
use Rattle.flow_sound.proofs.ByKeys.{Come, RuleFits, runs_fit, values_fit}
use Rattle.flow_sound.proofs.GroupResults.{column_all, first_fits, greatest_fits, last_fits, least_fits, present_all, renamed_fits, some_is, sum_fits}
use Rattle.flow_sound.proofs.Picking.{columns_of_keys, keys_fit, keys_long, rows_beside}
use Rattle.flow_sound.proofs.SetRows.{both as both_hold}
use Rattle.flow_sound.proofs.Working.{Fit}

-- ---- results over the columns of the input

abbrev agg_on : List Field → AggSpec → Agg
agg_on fields (agg.Sum new old) = made.Sum (column fields old)
agg_on fields (agg.Count new) = made.Count
agg_on fields (agg.Min new old) = made.Min (column fields old)
agg_on fields (agg.Max new old) = made.Max (column fields old)
agg_on fields (agg.First new old) = made.First (column fields old)
agg_on fields (agg.Last new old) = made.Last (column fields old)

abbrev aggs_on : List AggSpec → List Field → List Agg
aggs_on specs fields = aggs_of specs (source_columns specs fields)

aggs_are : (specs : List AggSpec) (fields : List Field) → aggs_on specs fields ≡ map (agg_on fields) specs
aggs_are [] fields = refl
aggs_are (agg.Sum new old ∷ specs) fields = ap (λ as1. made.Sum (column fields old) ∷ as1) (aggs_are specs fields)
aggs_are (agg.Count new ∷ specs) fields = ap (λ as1. made.Count ∷ as1) (aggs_are specs fields)
aggs_are (agg.Min new old ∷ specs) fields = ap (λ as1. made.Min (column fields old) ∷ as1) (aggs_are specs fields)
aggs_are (agg.Max new old ∷ specs) fields = ap (λ as1. made.Max (column fields old) ∷ as1) (aggs_are specs fields)
aggs_are (agg.First new old ∷ specs) fields = ap (λ as1. made.First (column fields old) ∷ as1) (aggs_are specs fields)
aggs_are (agg.Last new old ∷ specs) fields = ap (λ as1. made.Last (column fields old) ∷ as1) (aggs_are specs fields)

-- a group that sees the order of rows is one that the checker sees so
one_sees : (fields : List Field) (a : AggSpec) → in_row_order (agg_on fields a) ≡ sees_order a
one_sees fields (agg.Sum new old) = refl
one_sees fields (agg.Count new) = refl
one_sees fields (agg.Min new old) = refl
one_sees fields (agg.Max new old) = refl
one_sees fields (agg.First new old) = refl
one_sees fields (agg.Last new old) = refl

all_see : (fields : List Field) (specs : List AggSpec) → list_any in_row_order (map (agg_on fields) specs) ≡ list_any sees_order specs
all_see fields [] = refl
all_see fields (a ∷ specs) = ap₂ (λ x y. x || y) (one_sees fields a) (all_see fields specs)

pub sees_as : (specs : List AggSpec) (fields : List Field) → list_any in_row_order (aggs_on specs fields) ≡ list_any sees_order specs
sees_as specs fields = ap (list_any in_row_order) (aggs_are specs fields) ∙ all_see fields specs

-- ---- as many results as are written

each_long : (as1 : List Agg) (rows : List Row) (xs : List Value) → each_result as1 rows ≡ Some xs → length xs ≡ length as1
each_long [] rows xs e = ap length (sym (some_is [] xs e))
each_long (a ∷ as1) rows xs e = go (result a rows) (each_result as1 rows) (λ ys f. each_long as1 rows ys f) e
  where
    go : (o : Option Value) (more : Option (List Value)) → ((ys : List Value) → more ≡ Some ys → length ys ≡ length as1) → both o more ≡ Some xs → length xs ≡ suc (length as1)
    go None more rec f = absurd cc
    go (Some v) None rec f = absurd cc
    go (Some v) (Some ys) rec f = ap length (sym (some_is (v ∷ ys) xs f)) ∙ ap suc (rec ys refl)

few_rows : (as1 : List Agg) (rows : List Row) (xs : List Value) → results as1 rows ≡ Some xs → (length rows ≤ 2 ^ 62) × (each_result as1 rows ≡ Some xs)
few_rows as1 rows xs e = go (nat_le (length rows) (2 ^ 62)) refl e
  where
    small : nat_le (length rows) (2 ^ 62) ≡ true → length rows ≤ 2 ^ 62
    small f = grind (arith, nat_tests, f)

    go : (b : Bool) → nat_le (length rows) (2 ^ 62) ≡ b → (if b then each_result as1 rows else None) ≡ Some xs → (length rows ≤ 2 ^ 62) × (each_result as1 rows ≡ Some xs)
    go true f g = (small f, g)
    go false f g = absurd cc

-- ---- what is asked of a group

abbrev pub grouped : ℕ → Bool → List (List ℕ × Bool) → List AggSpec → List Field → Grouping
grouped o hash key specs fields = grouping_at o (given.grouping (key_columns fields key) hash (aggs_on specs fields))

group_long : (key : List (List ℕ × Bool)) (specs : List AggSpec) (fields : List Field) → length (group_fields key specs fields) ≡ length key + length specs
group_long key specs fields =
    length-append (map (λ (k : List ℕ × Bool). field_named fields (k.0)) key) (map (result_field fields) specs)
    ∙ ap₂ (λ a b. a + b) (length-map key (λ (k : List ℕ × Bool). field_named fields (k.0))) (length-map specs (result_field fields))

pub group_shaped : (o : ℕ) (hash : Bool) (key : List (List ℕ × Bool)) (specs : List AggSpec) (fields : List Field) → GroupShape (grouped o hash key specs fields) (λ q. length (group_fields key specs fields))
group_shaped o hash key specs fields = record {
  wide = λ q rows xs e. ap₂ (λ a b. a + b) (keys_long fields key) (each_long (aggs_on specs fields) rows xs (few_rows (aggs_on specs fields) rows xs e).1 ∙ ap length (aggs_are specs fields) ∙ length-map specs (agg_on fields)) ∙ sym (group_long key specs fields);
  room = λ q. let a = keys_long fields key in let b = group_long key specs fields in omega (arith, a, b);
  blind = λ e xs ys h. results_permuted (aggs_on specs fields) xs ys e h;
}

-- ---- the results of rows that fit

module _ (fields : List Field) (r : Row) (rows : List Row) (fits : Fit fields (r ∷ rows)) (few : length (r ∷ rows) ≤ 2 ^ 62) where
  values : (old : List ℕ) → has_column fields old ≡ true → AllByRecursion (λ v. fits_field (field_named fields old) v ≡ true) (column_of (column fields old) (r ∷ rows))
  values old h = column_all fields (column fields old) (column_within fields old h) (r ∷ rows) fits

  there : (old : List ℕ) → source_cause fields old ≡ None → has_column fields old ≡ true
  there old e = held (has_column fields old) why.Field e

  few_present : (c : ℕ) → length (present c (r ∷ rows)) ≤ 2 ^ 62
  few_present c =
      let a : length (present c (r ∷ rows)) ≡ _ = length-filter (λ v. not (is_null v)) (column_of c (r ∷ rows)) in
      let b = count_by-le-length (λ v. not (is_null v)) (column_of c (r ∷ rows)) in
      let l = length-map (r ∷ rows) (λ (s : Row). at s c) in
      omega (arith, a, b, l, few)

  counted : (n : ℕ) → n ≤ 2 ^ 62 → nat_lt n (2 ^ 64) ≡ true
  counted n l = grind (arith, nat_tests, l)

  one_fits : (a : AggSpec) → result_cause fields a ≡ None → (v : Value) → result (agg_on fields a) (r ∷ rows) ≡ Some v → fits_field (result_field fields a) v ≡ true
  one_fits (agg.Sum new old) e v f =
      let c = column fields old in
      let parts = none_head (source_cause fields old) (cause_if (not (can_sum (field_named fields old).kind)) why.Kind ∷ []) e in
      sum_fits (field_named fields old).kind (present c (r ∷ rows)) (held (can_sum (field_named fields old).kind) why.Kind (none_head (cause_if (not (can_sum (field_named fields old).kind)) why.Kind) [] parts.1).0)
      (present_all (field_named fields old) (column_of c (r ∷ rows)) (values old (there old parts.0))) (few_present c) v f new
  one_fits (agg.Count new) e v f = subst (λ w. fits_field (result_field fields (agg.Count new)) w ≡ true) (some_is (value.UInt (length (r ∷ rows))) v f) (counted (length (r ∷ rows)) few)
  one_fits (agg.Min new old) e v f =
      let c = column fields old in
      subst (λ w. fits_field (result_field fields (agg.Min new old)) w ≡ true) (some_is (least (present c (r ∷ rows))) v f)
      (least_fits (field_named fields old).kind (present c (r ∷ rows)) (present_all (field_named fields old) (column_of c (r ∷ rows)) (values old (there old e))) new)
  one_fits (agg.Max new old) e v f =
      let c = column fields old in
      subst (λ w. fits_field (result_field fields (agg.Max new old)) w ≡ true) (some_is (greatest (present c (r ∷ rows))) v f)
      (greatest_fits (field_named fields old).kind (present c (r ∷ rows)) (present_all (field_named fields old) (column_of c (r ∷ rows)) (values old (there old e))) new)
  one_fits (agg.First new old) e v f =
      let c = column fields old in
      subst (λ w. fits_field (result_field fields (agg.First new old)) w ≡ true) (some_is (first_value (column_of c (r ∷ rows))) v f)
      (renamed_fits (field_named fields old) new (first_value (column_of c (r ∷ rows))) (first_fits (field_named fields old) (at r c) (column_of c rows) (values old (there old e))))
  one_fits (agg.Last new old) e v f =
      let c = column fields old in
      subst (λ w. fits_field (result_field fields (agg.Last new old)) w ≡ true) (some_is (last_value (column_of c (r ∷ rows))) v f)
      (renamed_fits (field_named fields old) new (last_value (column_of c (r ∷ rows))) (last_fits (field_named fields old) (at r c) (column_of c rows) (values old (there old e))))

  each_fits : (specs : List AggSpec) → first_cause (result_causes specs fields) ≡ None → (xs : List Value) → each_result (map (agg_on fields) specs) (r ∷ rows) ≡ Some xs → row_fits (map (result_field fields) specs) xs ≡ true
  each_fits [] e xs f = subst (λ ys. row_fits [] ys ≡ true) (some_is [] xs f) refl
  each_fits (a ∷ specs) e xs f =
      let parts = none_head (result_cause fields a) (result_causes specs fields) e in
      go (result (agg_on fields a) (r ∷ rows)) (one_fits a parts.0) (each_result (map (agg_on fields) specs) (r ∷ rows)) (λ ys g. each_fits specs parts.1 ys g) f
    where
      go : (o : Option Value) → ((v : Value) → o ≡ Some v → fits_field (result_field fields a) v ≡ true) → (more : Option (List Value)) → ((ys : List Value) → more ≡ Some ys → row_fits (map (result_field fields) specs) ys ≡ true)
          → both o more ≡ Some xs → row_fits (result_field fields a ∷ map (result_field fields) specs) xs ≡ true
      go None h more rec g = absurd cc
      go (Some v) h None rec g = absurd cc
      go (Some v) h (Some ys) rec g = subst (λ zs. row_fits (result_field fields a ∷ map (result_field fields) specs) zs ≡ true) (some_is (v ∷ ys) xs g) (both_hold (h v refl) (rec ys refl))

-- ---- rows

module _ (o : ℕ) (hash : Bool) (key : List (List ℕ × Bool)) (specs : List AggSpec) (fields : List Field) (has : has_keys fields key ≡ true) (sound : first_cause (result_causes specs fields) ≡ None) where
  abbrev g : Grouping
  g = grouped o hash key specs fields

  keys_as : (ks : List (List ℕ × Bool)) → AllByRecursion (λ (k : List ℕ × Bool). (v : Value) → fits_field (field_named fields (k.0)) v ≡ true → fits_field (field_named fields (k.0)) v ≡ true) ks
  keys_as [] = tt
  keys_as (k ∷ ks) = (λ v h. h, keys_as ks)

  row_fits_it : (v : List Value) (r : Row) (rows : List Row) → val (cols g.keys) r ≡ v → Fit fields (r ∷ rows) → Fit (group_fields key specs fields) (row_of v (g.results (r ∷ rows)))
  row_fits_it v r rows e h = go (g.results (r ∷ rows)) refl
    where
      keyed : row_fits (map (λ (k : List ℕ × Bool). field_named fields (k.0)) key) v ≡ true
      keyed = subst (λ w. row_fits (map (λ (k : List ℕ × Bool). field_named fields (k.0)) key) w ≡ true) e (keys_fit (field_named fields) fields r key h.0 (columns_of_keys fields key has) (keys_as key))

      go : (x : Option (List Value)) → g.results (r ∷ rows) ≡ x → Fit (group_fields key specs fields) (row_of v x)
      go None f = tt
      go (Some xs) f =
          let few = few_rows (aggs_on specs fields) (r ∷ rows) xs f in (
            rows_beside (map (λ (k : List ℕ × Bool). field_named fields (k.0)) key) (map (result_field fields) specs) v xs keyed
                (each_fits fields r rows h few.0 specs sound xs (ap (λ as1. each_result as1 (r ∷ rows)) (sym (aggs_are specs fields)) ∙ few.1)),
            tt,
          )

  rule_fits : RuleFits (fields ∷ []) (cols g.keys ∷ []) (group_fields key specs fields) (λ v same. group_rows g v (input 0 same))
  rule_fits v [] k h = tt
  rule_fits v ([] ∷ inputs) k h = tt
  rule_fits v ((r ∷ rows) ∷ inputs) k h = row_fits_it v r rows k.0.0 h.0

  pub group_fits : (q : ℕ) (inputs : List (List Row)) → Come (fields ∷ []) inputs → Fit (group_fields key specs fields) (result_of (group g) q inputs)
  group_fits q inputs h = values_fit (fields ∷ []) (cols g.keys ∷ []) (group_fields key specs fields) (λ v same. group_rows g v (input 0 same)) rule_fits (ways g.keys) hash inputs h

  pub group_fits_on : (q : ℕ) (inputs : List (List Row)) → Come (fields ∷ []) inputs → Fit (group_fields key specs fields) (result_on (group g) q 0 inputs)
  group_fits_on q inputs h = go hash
    where
      go : (b : Bool) → Fit (group_fields key specs fields) (cond b (result_of (group g) q inputs) (by_runs (ways g.keys) (cols g.keys ∷ []) (λ v same. group_rows g v (input 0 same)) inputs))
      go true = group_fits q inputs h
      go false = runs_fit (fields ∷ []) (cols g.keys ∷ []) (group_fields key specs fields) (λ v same. group_rows g v (input 0 same)) rule_fits (ways g.keys) inputs h

-- ---- sums

can_be : (k : Kind) → can_sum k ≡ true → CanBeSummed k
can_be (data_kind.Int bits) e = tt
can_be (data_kind.UInt bits) e = tt
can_be (data_kind.Dec p s) e = grind (arith, nat_tests, e)
can_be (data_kind.Text max fixed) e = cc
can_be data_kind.Date e = cc

-- a column that is there
only_field : (fields : List Field) (c : ℕ) (f : Field) → c < length fields → get_or (map (λ (g : Field). g ∷ []) fields) c [] ≡ f ∷ [] → field_at fields c ≡ f
only_field [] c f l e = absurd (omega (arith, l))
only_field (g ∷ fields) zero f l e = cc
only_field (g ∷ fields) (suc c) f l e = only_field fields c f (omega (arith, l)) e

one_sums : (fields : List Field) (a : AggSpec) → result_cause fields a ≡ None → SumsFit fields (agg_on fields a)
one_sums fields (agg.Sum new old) e =
    λ f h.
    let parts = none_head (source_cause fields old) (cause_if (not (can_sum (field_named fields old).kind)) why.Kind ∷ []) e in
    let within = column_within fields old (held (has_column fields old) why.Field parts.0) in
    subst (λ (g : Field). CanBeSummed g.kind) (only_field fields (column fields old) f within h)
    (can_be (field_named fields old).kind (held (can_sum (field_named fields old).kind) why.Kind (none_head (cause_if (not (can_sum (field_named fields old).kind)) why.Kind) [] parts.1).0))
one_sums fields (agg.Count new) e = tt
one_sums fields (agg.Min new old) e = tt
one_sums fields (agg.Max new old) e = tt
one_sums fields (agg.First new old) e = tt
one_sums fields (agg.Last new old) e = tt

all_sum : (fields : List Field) (specs : List AggSpec) → first_cause (result_causes specs fields) ≡ None → AllByRecursion (SumsFit fields) (map (agg_on fields) specs)
all_sum fields [] e = tt
all_sum fields (a ∷ specs) e = let parts = none_head (result_cause fields a) (result_causes specs fields) e in (one_sums fields a parts.0, all_sum fields specs parts.1)

-- what a group sums can be summed
pub sums_fit : (fields : List Field) (specs : List AggSpec) → first_cause (result_causes specs fields) ≡ None → AllByRecursion (SumsFit fields) (aggs_on specs fields)
sums_fit fields specs e = subst (AllByRecursion (SumsFit fields)) (sym (aggs_are specs fields)) (all_sum fields specs e)
