-- Names of an operator name columns of its input.
use Rattle.std.proofs.Common.{◌≡◌, ◌++◌, ◌∷◌, [], ℕ, zero, suc, List, Bool, true, None, length, get_or, subst}
use Rattle.std.specs.List.{AllByRecursion}
use Rattle.op_base.specs.Columns.{Lies, all_columns}
use Rattle.op_base.specs.Keyed.{get_keys}
use Rattle.ds_schema.specs.declared.schema.Field.{Field}
use Rattle.ds_schema.specs.Rows.{cols, KeysDiffer}
use Rattle.flow_graph.specs.declared.op_kind.OpKind.{OpKind}
use Rattle.flow_graph.specs.declared.op_kind.OpKind.TheVariants as kind
use Rattle.shape_base.specs.Causes.{first_cause}
use Rattle.shape_base.specs.Naming.{has_keys, key_columns, NamesDiffer}
use Rattle.op_shape.specs.Options.{IsKnown, KeysDistinct, both_keys, option_causes, output_causes, operator_keys}
use Rattle.shape_base.specs.Fields.{first_fields, second_fields}
use Rattle.shape_base.proofs.Keys.{keys_differ}
use Rattle.keyed_shape.proofs.Both.{AreBoth, are_both}
use Rattle.shape_base.proofs.Held.{has_by, keys_lie}

one_lies : (key : List (List ℕ × Bool)) (ins : List (List Field)) (i w : ℕ) → has_keys (first_fields ins) key ≡ true → length (get_or ins i []) ≡ w → Lies (cols (get_keys (key_columns (first_fields ins) key ∷ []) i)) (all_columns w)
one_lies key ins zero w h e = subst (λ n. Lies (cols (key_columns (first_fields ins) key)) (all_columns n)) e (keys_lie (first_fields ins) key h)
one_lies key ins (suc i) w h e = tt

both_lie : (key : List (List ℕ × Bool)) (ins : List (List Field)) (i w : ℕ) → AreBoth key (first_fields ins) (second_fields ins) → length (get_or ins i []) ≡ w → Lies (cols (get_keys (both_keys key ins) i)) (all_columns w)
both_lie key ins zero w h e = subst (λ n. Lies (cols (key_columns (first_fields ins) key)) (all_columns n)) e (keys_lie (first_fields ins) key h.left_has)
both_lie key ins (suc zero) w h e = subst (λ n. Lies (cols (key_columns (second_fields ins) key)) (all_columns n)) e (keys_lie (second_fields ins) key h.right_has)
both_lie key ins (suc (suc i)) w h e = tt

-- of an operator at which nothing is wrong, the keys by input i
pub operator_keys_lie : (k : OpKind) (ins : List (List Field)) (i w : ℕ) → IsKnown k → first_cause (option_causes k ins ++ output_causes k ins) ≡ None → length (get_or ins i []) ≡ w
    → Lies (cols (get_keys (operator_keys k ins) i)) (all_columns w)
operator_keys_lie (kind.Import file schema delim fixed reject) ins i w h n e = tt
operator_keys_lie (kind.Export file delim fixed) ins i w h n e = tt
operator_keys_lie kind.Copy ins i w h n e = tt
operator_keys_lie (kind.Filter test reject) ins i w h n e = tt
operator_keys_lie (kind.Transform set reject) ins i w h n e = tt
operator_keys_lie (kind.Modify keep drop rename) ins i w h n e = tt
operator_keys_lie (kind.Switch on cases reject) ins i w h n e = tt
operator_keys_lie (kind.Tsort key) ins i w h n e = one_lies key ins i w (has_by (first_fields ins) key _ n) e
operator_keys_lie (kind.Remdup key last) ins i w h n e = one_lies key ins i w (has_by (first_fields ins) key _ n) e
operator_keys_lie (kind.Group key hash results) ins i w h n e = one_lies key ins i w (has_by (first_fields ins) key _ n) e
operator_keys_lie (kind.InnerJoin key) ins i w h n e = both_lie key ins i w (are_both key _ _ _ n) e
operator_keys_lie (kind.LeftOuterJoin key) ins i w h n e = both_lie key ins i w (are_both key _ _ _ n) e
operator_keys_lie (kind.RightOuterJoin key) ins i w h n e = both_lie key ins i w (are_both key _ _ _ n) e
operator_keys_lie (kind.FullOuterJoin key) ins i w h n e = both_lie key ins i w (are_both key _ _ _ n) e
operator_keys_lie (kind.Lookup key missing) ins i w h n e = both_lie key ins i w (are_both key _ _ _ n) e
operator_keys_lie k ins i w h n e = absurd h

both_differ : (key : List (List ℕ × Bool)) (ins : List (List Field)) → AreBoth key (first_fields ins) (second_fields ins) → NamesDiffer key → AllByRecursion KeysDiffer (both_keys key ins)
both_differ key ins h d = (keys_differ (first_fields ins) key h.left_has d, (keys_differ (second_fields ins) key h.right_has d, tt))

pub operator_keys_differ : (k : OpKind) (ins : List (List Field)) → IsKnown k → first_cause (option_causes k ins ++ output_causes k ins) ≡ None → KeysDistinct k → AllByRecursion KeysDiffer (operator_keys k ins)
operator_keys_differ (kind.Import file schema delim fixed reject) ins h n d = tt
operator_keys_differ (kind.Export file delim fixed) ins h n d = tt
operator_keys_differ kind.Copy ins h n d = tt
operator_keys_differ (kind.Filter test reject) ins h n d = tt
operator_keys_differ (kind.Transform set reject) ins h n d = tt
operator_keys_differ (kind.Modify keep drop rename) ins h n d = tt
operator_keys_differ (kind.Switch on cases reject) ins h n d = tt
operator_keys_differ (kind.Tsort key) ins h n d = (keys_differ (first_fields ins) key (has_by (first_fields ins) key _ n) d, tt)
operator_keys_differ (kind.Remdup key last) ins h n d = (keys_differ (first_fields ins) key (has_by (first_fields ins) key _ n) d, tt)
operator_keys_differ (kind.Group key hash results) ins h n d = (keys_differ (first_fields ins) key (has_by (first_fields ins) key _ n) d, tt)
operator_keys_differ (kind.InnerJoin key) ins h n d = both_differ key ins (are_both key _ _ _ n) d
operator_keys_differ (kind.LeftOuterJoin key) ins h n d = both_differ key ins (are_both key _ _ _ n) d
operator_keys_differ (kind.RightOuterJoin key) ins h n d = both_differ key ins (are_both key _ _ _ n) d
operator_keys_differ (kind.FullOuterJoin key) ins h n d = both_differ key ins (are_both key _ _ _ n) d
operator_keys_differ (kind.Lookup key missing) ins h n d = both_differ key ins (are_both key _ _ _ n) d
operator_keys_differ k ins h n d = absurd h
