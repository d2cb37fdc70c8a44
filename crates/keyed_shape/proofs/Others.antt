-- Keys and other columns gone through from the first on.
use Rattle.std.proofs.Common.{◌≡◌, ◌<◌, ◌+◌, ◌==◌, ◌++◌, ◌∷◌, [], not, ℕ, zero, suc, List, Bool, true, false, cond, refl, sym, ap, ◌∙◌, append_assoc, arith, length, map, take, get_or, Option, Some, None}
use Rattle.std.specs.List.{filter, list_any, range_with_len}
use Rattle.std.proofs.lemmas.List.{get_or_read, map-append}
use Rattle.std.proofs.lemmas.List.Elements.{filter-append}
use Rattle.std.proofs.lemmas.Bool.Decides.{nat_tests}
use Rattle.ds_schema.specs.declared.schema.Field.{Field}
use Rattle.ds_schema.specs.Rows.{cols}
use Rattle.flow_graph.specs.declared.op_kind.AggSpec.{AggSpec}
use Rattle.op_base.specs.Columns.{is_in}
use Rattle.shape_base.specs.Fields.{field_at, no_field}
use Rattle.keyed_shape.specs.Keyed.{nullable_if, source, source_columns, sources, with_source}
use Rattle.shape_base.specs.Naming.{column, columns, has_column, has_keys, key_columns}
use Rattle.shape_base.proofs.Lists.{map_next, range_more, take_next}
use Rattle.std.proofs.lemmas.Bool.{and_parts}

cols_map : (fields : List Field) (key : List (List ℕ × Bool)) → cols (key_columns fields key) ≡ map (λ (k : List ℕ × Bool). column fields (k.0)) key
cols_map fields [] = refl
cols_map fields (k ∷ key) = ap (λ cs. column fields (k.0) ∷ cs) (cols_map fields key)

pub columns_next : (fields : List Field) (key : List (List ℕ × Bool)) (i : ℕ) (k : List ℕ × Bool) (old new : List ℕ) (c : ℕ) → i < length key → k ≡ get_or key i k → old ≡ cols (key_columns fields (take i key)) → c ≡ column fields (k.0) → new ≡ old ++ c ∷ []
    → new ≡ cols (key_columns fields (take (i + 1) key))
columns_next fields key i k old new c h at inv is add =
    map_next (λ (k : List ℕ × Bool). column fields (k.0)) key i k old new c h at (inv ∙ cols_map fields (take i key)) is add ∙ sym (cols_map fields (take (i + 1) key))

-- each of the keys is there
pub key_there : (fields : List Field) (key : List (List ℕ × Bool)) (i : ℕ) (k : List ℕ × Bool) → has_keys fields key ≡ true → i < length key → k ≡ get_or key i k → has_column fields (k.0) ≡ true
key_there fields [] i k e h at = absurd (omega arith)
key_there fields (l ∷ key) zero k e h at = ap (λ (x : List ℕ × Bool). has_column fields (x.0)) at ∙ (and_parts (has_column fields (l.0)) (has_keys fields key) e).0
key_there fields (l ∷ key) (suc i) k e h at = key_there fields key i k (and_parts (has_column fields (l.0)) (has_keys fields key) e).1 (omega arith) at

in_list : (c : ℕ) (columns : List ℕ) → list_any (λ y. y == c) columns ≡ is_in c columns
in_list c [] = refl
in_list c (d ∷ columns) = grind (arith, nat_tests, in_list c columns)

abbrev rest_to : Bool → List Field → List ℕ → ℕ → List Field
rest_to test fields columns n = map (nullable_if test) (map (field_at fields) (filter (λ c. not (is_in c columns)) (range_with_len 0 n)))

rest_more : (test : Bool) (fields : List Field) (columns : List ℕ) (i : ℕ) (b : Bool) → is_in i columns ≡ b → rest_to test fields columns (i + 1) ≡ rest_to test fields columns i ++ cond b [] (nullable_if test (field_at fields i) ∷ [])
rest_more test fields columns i b e =
    let p = λ (c : ℕ). not (is_in c columns) in
    let up : i + 1 ≡ suc i = omega arith in
    let F = λ (cs : List ℕ). map (nullable_if test) (map (field_at fields) cs) in
    ap (rest_to test fields columns) up ∙ (ap (λ cs. F (filter p cs)) (range_more 0 i i (omega arith)) ∙ (ap F (filter-append p (range_with_len 0 i) (i ∷ []))
    ∙ (ap (map (nullable_if test)) (map-append (field_at fields) (filter p (range_with_len 0 i)) (filter p (i ∷ []))) ∙ (map-append (nullable_if test) (map (field_at fields) (filter p (range_with_len 0 i))) (map (field_at fields) (filter p (i ∷ [])))
    ∙ ap (λ x. rest_to test fields columns i ++ F (cond (not x) (i ∷ []) [])) e ∙ ap (λ fs. rest_to test fields columns i ++ fs) (last b)))))
  where
    last : (x : Bool) → map (nullable_if test) (map (field_at fields) (cond (not x) (i ∷ []) [])) ≡ cond x [] (nullable_if test (field_at fields i) ∷ [])
    last true = refl
    last false = refl

pub rest_next : (test : Bool) (fields : List Field) (columns : List ℕ) (i : ℕ) (f : Field) (b : Bool) (before old new : List Field) → i < length fields → f ≡ get_or fields i f → b ≡ list_any (λ y. y == i) columns
    → old ≡ before ++ rest_to test fields columns i → new ≡ old ++ cond b [] (nullable_if test f ∷ []) → new ≡ before ++ rest_to test fields columns (i + 1)
rest_next test fields columns i f b before old new h at e inv add =
    let here : f ≡ field_at fields i = get_or_read fields i f h at no_field in
    add ∙ (ap (λ fs. fs ++ cond b [] (nullable_if test f ∷ [])) inv ∙ (ap (λ (g : Field). (before ++ rest_to test fields columns i) ++ cond b [] (nullable_if test g ∷ [])) here
    ∙ (append_assoc before (rest_to test fields columns i) (cond b [] (nullable_if test (field_at fields i) ∷ [])) ∙ ap (λ fs. before ++ fs) (sym (rest_more test fields columns i b (sym (e ∙ in_list i columns)))))))

abbrev others_to : List ℕ → ℕ → List ℕ
others_to columns n = filter (λ c. not (is_in c columns)) (range_with_len 0 n)

others_more : (columns : List ℕ) (i : ℕ) (b : Bool) → is_in i columns ≡ b → others_to columns (i + 1) ≡ others_to columns i ++ cond b [] (i ∷ [])
others_more columns i b e =
    let p = λ (c : ℕ). not (is_in c columns) in
    let up : i + 1 ≡ suc i = omega arith in
    ap (others_to columns) up ∙ (ap (filter p) (range_more 0 i i (omega arith)) ∙ (filter-append p (range_with_len 0 i) (i ∷ [])
    ∙ (ap (λ x. others_to columns i ++ cond (not x) (i ∷ []) []) e ∙ ap (λ cs. others_to columns i ++ cs) (last b))))
  where
    last : (x : Bool) → cond (not x) (i ∷ []) [] ≡ cond x [] (i ∷ [])
    last true = refl
    last false = refl

pub other_next : (columns : List ℕ) (i : ℕ) (b : Bool) (old new : List ℕ) → b ≡ list_any (λ y. y == i) columns → old ≡ others_to columns i → new ≡ old ++ cond b [] (i ∷ []) → new ≡ others_to columns (i + 1)
other_next columns i b old new e inv add = add ∙ (ap (λ cs. cs ++ cond b [] (i ∷ [])) inv ∙ sym (others_more columns i b (sym (e ∙ in_list i columns))))

-- ---- the columns that results are made of

sources_append : (xs ys : List AggSpec) → sources (xs ++ ys) ≡ sources xs ++ sources ys
sources_append [] ys = refl
sources_append (a ∷ xs) ys = ap (with_source (source a)) (sources_append xs ys) ∙ go (source a)
  where
    go : (o : Option (List ℕ)) → with_source o (sources xs ++ sources ys) ≡ with_source o (sources xs) ++ sources ys
    go None = refl
    go (Some old) = refl

pub source_next : (fields : List Field) (results : List AggSpec) (i : ℕ) (a : AggSpec) (o : Option (List ℕ)) (old new : List ℕ) → i < length results → a ≡ get_or results i a → source a ≡ o → old ≡ source_columns (take i results) fields → new ≡ old ++ columns fields (with_source o [])
    → new ≡ source_columns (take (i + 1) results) fields
source_next fields results i a o old new h at e inv add =
    add ∙ (ap (λ cs. cs ++ columns fields (with_source o [])) inv ∙ (ap (λ s. source_columns (take i results) fields ++ columns fields (with_source s [])) (sym e)
    ∙ (sym (map-append (column fields) (sources (take i results)) (sources (a ∷ []))) ∙ (ap (columns fields) (sym (sources_append (take i results) (a ∷ []))) ∙ ap (λ rs. source_columns rs fields) (sym (take_next results i a h at))))))
