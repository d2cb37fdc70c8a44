-- The columns that a modify keeps are columns of its input.
use Rattle.std.proofs.Common.{◌≡◌, ◌<◌, ◌+◌, ◌∷◌, ◌++◌, [], not, ℕ, suc, List, Bool, true, cond, sym, ap, ◌∙◌, arith, length, get_or}
use Rattle.std.specs.List.{AllByRecursion, filter, range_with_len}
use Rattle.std.proofs.lemmas.List.{get_or_read, length-map}
use Rattle.std.proofs.lemmas.List.Elements.{filter-append}
use Rattle.op_base.specs.Columns.{IsIn, Lies, all_columns}
use Rattle.op_base.proofs.ColumnLaws.{lies_self}
use Rattle.ds_schema.specs.declared.schema.Field.{Field}
use Rattle.op_shape.specs.Columns.{is_among, kept_columns, kept_fields, renamed, modified_fields}
use Rattle.shape_base.specs.Fields.{field_at, no_field}
use Rattle.shape_base.specs.Naming.{has_columns}
use Rattle.shape_base.proofs.Held.{names_lie, names_within}
use Rattle.shape_base.proofs.Lists.{all_passing, range_more, range_within}

pub kept_lie : (keep drop : List (List ℕ)) (fields : List Field) → has_columns fields keep ≡ true → Lies (kept_columns keep drop fields) (all_columns (length fields))
kept_lie [] drop fields h = all_passing (λ c. IsIn c (all_columns (length fields))) (λ c. not (is_among drop (field_at fields c).name)) (all_columns (length fields)) (lies_self (all_columns (length fields)))
kept_lie (k ∷ keep) drop fields h = names_lie fields (k ∷ keep) h

pub kept_within : (keep drop : List (List ℕ)) (fields : List Field) → has_columns fields keep ≡ true → AllByRecursion (λ c. c < length fields) (kept_columns keep drop fields)
kept_within [] drop fields h = all_passing (λ c. c < length fields) (λ c. not (is_among drop (field_at fields c).name)) (all_columns (length fields)) (range_within 0 (length fields) (length fields) (omega arith))
kept_within (k ∷ keep) drop fields h = names_within fields (k ∷ keep) h

pub modified_length : (keep drop : List (List ℕ)) (rename : List (List ℕ × List ℕ)) (fields : List Field) → length (modified_fields keep drop rename fields) ≡ length (kept_columns keep drop fields)
modified_length keep drop rename fields = length-map (kept_fields keep drop fields) (renamed rename) ∙ length-map (kept_columns keep drop fields) (field_at fields)

-- ---- columns gone through from the first on

abbrev pub left_to : List (List ℕ) → List Field → ℕ → List ℕ
left_to drop fields i = filter (λ c. not (is_among drop (field_at fields c).name)) (range_with_len 0 i)

left_more : (drop : List (List ℕ)) (fields : List Field) (i : ℕ) (b : Bool) → not (is_among drop (field_at fields i).name) ≡ b → left_to drop fields (i + 1) ≡ left_to drop fields i ++ cond b (i ∷ []) []
left_more drop fields i b e =
    let p = λ (c : ℕ). not (is_among drop (field_at fields c).name) in
    let one : i + 1 ≡ suc i = omega arith in
    ap (left_to drop fields) one ∙ (ap (filter p) (range_more 0 i i (omega arith)) ∙ (filter-append p (range_with_len 0 i) (i ∷ []) ∙ ap (λ x. left_to drop fields i ++ cond x (i ∷ []) []) e))

pub left_next : (drop : List (List ℕ)) (fields : List Field) (i : ℕ) (f : Field) (cols : List ℕ) (b : Bool) → i < length fields → f ≡ get_or fields i f → not (is_among drop f.name) ≡ b → cols ≡ left_to drop fields i
    → cols ++ cond b (i ∷ []) [] ≡ left_to drop fields (i + 1)
left_next drop fields i f cols b h e t inv =
    let here : f ≡ field_at fields i = get_or_read fields i f h e no_field in
    ap (λ cs. cs ++ cond b (i ∷ []) []) inv ∙ sym (left_more drop fields i b (ap (λ (g : Field). not (is_among drop g.name)) (sym here) ∙ t))
