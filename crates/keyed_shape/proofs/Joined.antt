-- The fields of groups, joins and lookups are fields, and the columns of a group's results are columns of its input.
use Rattle.std.proofs.Common.{◌≡◌, ◌<◌, ◌++◌, ◌∷◌, [], not, ℕ, List, Bool, true, None, refl, arith, length, map, inr}
use Rattle.std.specs.List.{AllByRecursion}
use Rattle.std.proofs.lemmas.Bool.{and_parts}
use Rattle.ds_value.specs.Kinds.{IsKind}
use Rattle.ds_value.specs.declared.kind.Kind.{Kind}
use Rattle.ds_value.specs.declared.kind.Kind.TheVariants as data_kind
use Rattle.ds_schema.specs.declared.schema.Field.{Field}
use Rattle.ds_schema.specs.Rows.{cols}
use Rattle.ds_schema.specs.Schemas.{IsField, IsFieldName}
use Rattle.op_base.specs.Columns.{Lies, all_columns, is_in}
use Rattle.op_base.specs.declared.missing.Missing.{Missing}
use Rattle.op_base.proofs.All.{all_append}
use Rattle.flow_graph.specs.declared.op_kind.AggSpec.{AggSpec}
use Rattle.flow_graph.specs.declared.op_kind.AggSpec.TheVariants as agg
use Rattle.shape_base.specs.declared.fault.ShapeWhy.TheVariants as why
use Rattle.shape_base.specs.Causes.{cause_if, first_cause}
use Rattle.shape_base.specs.Fields.{field_at, no_field}
use Rattle.keyed_shape.specs.Keyed.{can_sum, continues, field_named, group_fields, join_fields, joined_key, lookup_fields, main_field, nullable_if, other_columns, other_fields, result_cause, result_causes, result_field, result_name, source, source_cause, source_columns, sources, sum_cause, sum_kind, with_source}
use Rattle.shape_base.specs.Naming.{column, columns, has_column, has_keys, key_columns, key_cause}
use Rattle.shape_base.specs.Widths.{fields_cause}
use Rattle.shape_base.proofs.Firsts.{none_both, none_head}
use Rattle.keyed_shape.proofs.Both.{AreBoth}
use Rattle.shape_base.proofs.Held.{column_in, column_within, held}
use Rattle.shape_base.proofs.Lists.{all_passing, range_within}
use Rattle.shape_base.proofs.Making.{at_each}

named_each : (fields : List Field) (name : List ℕ) → has_column fields name ≡ true → AllByRecursion IsField fields → IsField (field_named fields name)
named_each fields name h a = at_each fields (column fields name) no_field a (column_within fields name h)

-- ---- the columns that no key names

columns_each : (test : Bool) (fields : List Field) (columns : List ℕ) → AllByRecursion IsField fields → AllByRecursion (λ c. c < length fields) columns → AllByRecursion IsField (map (nullable_if test) (map (field_at fields) columns))
columns_each test fields [] a w = tt
columns_each test fields (c ∷ columns) a w = (at_each fields c no_field a w.0, columns_each test fields columns a w.1)

pub others_each : (test : Bool) (key : List (List ℕ × Bool)) (fields : List Field) → AllByRecursion IsField fields → AllByRecursion IsField (map (nullable_if test) (other_fields key fields))
others_each test key fields a =
    columns_each test fields (other_columns key fields) a (all_passing (λ c. c < length fields) (λ c. not (is_in c (cols (key_columns fields key)))) (all_columns (length fields)) (range_within 0 (length fields) (length fields) (omega arith)))

-- ---- group

grouped_each : (key : List (List ℕ × Bool)) (fields : List Field) → has_keys fields key ≡ true → AllByRecursion IsField fields → AllByRecursion IsField (map (λ (k : List ℕ × Bool). field_named fields (k.0)) key)
grouped_each [] fields h a = tt
grouped_each (k ∷ key) fields h a = let parts = and_parts (has_column fields (k.0)) (has_keys fields key) h in (named_each fields (k.0) parts.0 a, grouped_each key fields parts.1 a)

sum_stands : (k : Kind) → can_sum k ≡ true → IsKind k → IsKind (sum_kind k)
sum_stands (data_kind.Int bits) c h = inr (inr (inr refl))
sum_stands (data_kind.UInt bits) c h = inr (inr (inr refl))
sum_stands (data_kind.Dec p s) c h = (omega arith, (omega arith, omega (arith, h.1.0, h.1.1)))
sum_stands (data_kind.Text max fixed) c h = cc
sum_stands data_kind.Date c h = cc

source_there : (fields : List Field) (old : List ℕ) → source_cause fields old ≡ None → has_column fields old ≡ true
source_there fields old e = held (has_column fields old) why.Field e

-- a sum is of a column that is there and can be summed
sum_there : (fields : List Field) (old : List ℕ) → sum_cause fields old ≡ None → (has_column fields old ≡ true) × (can_sum (field_named fields old).kind ≡ true)
sum_there fields old e =
    let one = none_head (source_cause fields old) _ e in
    (source_there fields old one.0, held (can_sum (field_named fields old).kind) why.Kind (none_head (cause_if (not (can_sum (field_named fields old).kind)) why.Kind) [] one.1).0)

result_each : (fields : List Field) (a : AggSpec) → AllByRecursion IsField fields → result_cause fields a ≡ None → IsFieldName (result_name a) → IsField (result_field fields a)
result_each fields (agg.Sum new old) all e n = let there = sum_there fields old e in (n, sum_stands (field_named fields old).kind there.1 (named_each fields old there.0 all).1)
result_each fields (agg.Count new) all e n = (n, inr (inr (inr refl)))
result_each fields (agg.Min new old) all e n = (n, (named_each fields old (source_there fields old e) all).1)
result_each fields (agg.Max new old) all e n = (n, (named_each fields old (source_there fields old e) all).1)
result_each fields (agg.First new old) all e n = (n, (named_each fields old (source_there fields old e) all).1)
result_each fields (agg.Last new old) all e n = (n, (named_each fields old (source_there fields old e) all).1)

results_each : (results : List AggSpec) (fields : List Field) → AllByRecursion IsField fields → first_cause (result_causes results fields) ≡ None → AllByRecursion (λ (a : AggSpec). IsFieldName (result_name a)) results → AllByRecursion IsField (map (result_field fields) results)
results_each [] fields all e n = tt
results_each (a ∷ results) fields all e n = let both = none_head (result_cause fields a) (result_causes results fields) e in (result_each fields a all both.0 n.0, results_each results fields all both.1 n.1)

-- nothing is wrong at a group
pub record IsGrouped (key : List (List ℕ × Bool)) (results : List AggSpec) (fields : List Field) : Type 0 where
  pub has : has_keys fields key ≡ true
  pub sound : first_cause (result_causes results fields) ≡ None
  pub made : fields_cause (group_fields key results fields) ≡ None

pub is_grouped : (key : List (List ℕ × Bool)) (results : List AggSpec) (fields : List Field) → first_cause ((key_cause key fields ∷ result_causes results fields) ++ (fields_cause (group_fields key results fields) ∷ [])) ≡ None → IsGrouped key results fields
is_grouped key results fields e =
    let both = none_both (key_cause key fields ∷ result_causes results fields) (fields_cause (group_fields key results fields) ∷ []) e in
    let keys = none_head (key_cause key fields) (result_causes results fields) both.0 in
    record { has = held (has_keys fields key) why.Field keys.0; sound = keys.1; made = (none_head (fields_cause (group_fields key results fields)) [] both.1).0 }

pub group_each : (key : List (List ℕ × Bool)) (results : List AggSpec) (fields : List Field) → IsGrouped key results fields → AllByRecursion (λ (a : AggSpec). IsFieldName (result_name a)) results → AllByRecursion IsField fields → AllByRecursion IsField (group_fields key results fields)
group_each key results fields g n a = all_append IsField _ _ (grouped_each key fields g.has a) (results_each results fields a g.sound n)

-- ---- joins

keys_each : (key : List (List ℕ × Bool)) (left right : List Field) → has_keys left key ≡ true → AllByRecursion IsField left → AllByRecursion IsField (map (λ (k : List ℕ × Bool). joined_key left right (k.0)) key)
keys_each [] left right h a = tt
keys_each (k ∷ key) left right h a = let parts = and_parts (has_column left (k.0)) (has_keys left key) h in (named_each left (k.0) parts.0 a, keys_each key left right parts.1 a)

pub join_each : (left_missing right_missing : Bool) (key : List (List ℕ × Bool)) (left right : List Field) → AreBoth key left right → AllByRecursion IsField left → AllByRecursion IsField right → AllByRecursion IsField (join_fields left_missing right_missing key left right)
join_each left_missing right_missing key left right h a b =
    all_append IsField _ _ (keys_each key left right h.left_has a) (all_append IsField _ _ (others_each left_missing key left a) (others_each right_missing key right b))

-- ---- lookup

mains_each : (key : List (List ℕ × Bool)) (reference main : List Field) → AllByRecursion IsField main → AllByRecursion IsField (map (main_field key reference) main)
mains_each key reference [] a = tt
mains_each key reference (f ∷ main) a = (a.0, mains_each key reference main a.1)

pub lookup_each : (key : List (List ℕ × Bool)) (missing : Missing) (main reference : List Field) → AllByRecursion IsField main → AllByRecursion IsField reference → AllByRecursion IsField (lookup_fields key missing main reference)
lookup_each key missing main reference a b = all_append IsField _ _ (mains_each key reference main a) (others_each (continues missing) key reference b)

-- ---- the columns that a group's results are made of

source_lies : (fields : List Field) (old : List ℕ) (names : List (List ℕ)) → has_column fields old ≡ true → Lies (columns fields names) (all_columns (length fields)) → Lies (columns fields (old ∷ names)) (all_columns (length fields))
source_lies fields old names h l = (column_in fields old h, l)

result_lies : (fields : List Field) (a : AggSpec) (names : List (List ℕ)) → result_cause fields a ≡ None → Lies (columns fields names) (all_columns (length fields)) → Lies (columns fields (with_source (source a) names)) (all_columns (length fields))
result_lies fields (agg.Sum new old) names e l = source_lies fields old names (sum_there fields old e).0 l
result_lies fields (agg.Count new) names e l = l
result_lies fields (agg.Min new old) names e l = source_lies fields old names (source_there fields old e) l
result_lies fields (agg.Max new old) names e l = source_lies fields old names (source_there fields old e) l
result_lies fields (agg.First new old) names e l = source_lies fields old names (source_there fields old e) l
result_lies fields (agg.Last new old) names e l = source_lies fields old names (source_there fields old e) l

pub sources_lie : (results : List AggSpec) (fields : List Field) → first_cause (result_causes results fields) ≡ None → Lies (source_columns results fields) (all_columns (length fields))
sources_lie [] fields e = tt
sources_lie (a ∷ results) fields e = let both = none_head (result_cause fields a) (result_causes results fields) e in result_lies fields a (sources results) both.0 (sources_lie results fields both.1)
