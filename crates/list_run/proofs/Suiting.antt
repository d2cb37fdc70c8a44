-- What waits for an operator by rows suits it, where it fits the fields of its input.
use Rattle.std.proofs.Common.{◌≡◌, ℕ, suc, ◌<◌, true, List, [], ◌∷◌, inl, inr, length, map, get_or, refl, sym, ap, ◌∙◌, subst, arith}
use Rattle.std.specs.List.{AllByRecursion, list_all}
use Rattle.std.proofs.lemmas.List.{length-map}
use Rattle.std.proofs.lemmas.List.Elements.{All-from_recursion, recursion_from_All}
use Rattle.streams.proofs.Basics.{and_true}
use Rattle.streams.proofs.StreamLaws.{eq_true}
use Rattle.ds_value.specs.Canonical.{IsShort}
use Rattle.ds_schema.specs.declared.key.Key.{Key}
use Rattle.ds_schema.specs.declared.schema.Field.{Field}
use Rattle.ds_schema.specs.Rows.{cols}
use Rattle.ds_schema.specs.Schemas.{row_fits}
use Rattle.op_base.specs.Columns.{Row, IsIn, Lies, all_columns}
use Rattle.op_base.specs.Keyed.{get_keys}
use Rattle.op_join.specs.Joining.{AreBelow}
use Rattle.op_join.specs.Joining.{row_suits as join_suits}
use Rattle.op_lookup.specs.Looked.{suits_main}
use Rattle.op_row.specs.ByRow.{has_columns}
use Rattle.op_row.specs.Expressed.{input_fields}
use Rattle.op_row.proofs.Transformed.{fits_length}
use Rattle.flow_graph.specs.declared.op_kind.OpKind.{OpKind}
use Rattle.flow_graph.specs.declared.op_kind.OpKind.TheVariants as kind
use Rattle.flow_graph.specs.Charts.{Chart, links_into, op_at, cols_at, keys_at, parts_of, first_fields, width_at}
use Rattle.flow_graph.specs.Fitting.{FitsFields}
use Rattle.flow_graph.specs.FlowShape.{IsShape, ColumnsLie}
use Rattle.flow_graph.specs.RowRules.{ExprsFit, first_expr, sets_of}
use Rattle.flow_graph.specs.Runs.{slice}
use Rattle.list_run.specs.Held.{CameFits, inputs_of}
use Rattle.flow_rules.specs.Exports.{input_of}
use Rattle.list_run.specs.Runnable.{IsBuilt, SameWays}
use Rattle.flow_ops.specs.Kinds.{widths_into}
use Rattle.list_run.specs.Worked.{AreJoined, CanWork, IsWorked, SuitsJoin, SuitsLists, SuitsLookup}
use Rattle.list_run.proofs.Inputs.{one_member, ports_at, some_member, some_of_one, two_members}
use Rattle.list_run.proofs.Kept.{partition_fits}
use Rattle.list_run.proofs.Links.{all_in}
use Rattle.list_run.proofs.Summing.{columns_there, group_suited, row_short}

-- rows that fit
rows_fit : (fields other : List Field) → other ≡ fields → (rows : List Row) → AllByRecursion (FitsFields fields) rows → list_all (row_fits other) rows ≡ true
rows_fit fields other e [] h = refl
rows_fit fields other e (r ∷ rows) h = and_true (ap (λ fs. row_fits fs r) e ∙ h.0.0) (rows_fit fields other e rows h.1)

rows_wide : (fields : List Field) (cols : List ℕ) → Lies cols (all_columns (length fields)) → (rows : List Row) → AllByRecursion (FitsFields fields) rows → list_all (has_columns cols) rows ≡ true
rows_wide fields cols l [] h = refl
rows_wide fields cols l (r ∷ rows) h = and_true (columns_there (length fields) r (sym (fits_length fields r h.0.0)) cols l) (rows_wide fields cols l rows h.1)

-- of each partition of the one input
one_suits : (c : Chart) (o : ℕ) (k : OpKind) (got : ℕ → List (List Row)) → length (links_into c o) ≡ 1 → ((rows : List Row) → AllByRecursion (FitsFields (first_fields c o)) rows → SuitsLists k (parts_of c o) (widths_into c o) (rows ∷ [])) → CameFits c o got → (p : ℕ) → SuitsLists k (parts_of c o) (widths_into c o) (slice p (inputs_of c o got))
one_suits c o k got one h came p =
    let first = input_of c o in
    subst (λ ins. SuitsLists k (parts_of c o) (widths_into c o) (slice p (map got ins))) (sym (one_member (links_into c o) one))
    (h (get_or (got first) p []) (partition_fits (FitsFields (first_fields c o)) (got first) p (came first (some_member (links_into c o) (some_of_one (length (links_into c o)) one)))))

-- of each partition of two inputs, and of their widths
two_suit : (c : Chart) (o : ℕ) (k : OpKind) (got : ℕ → List (List Row)) → length (links_into c o) ≡ 2 →
    ((left right : ℕ) (lefts rights : List Row) → left ≡ get_or (links_into c o) 0 0 → right ≡ get_or (links_into c o) 1 0 → AllByRecursion (FitsFields (get_or c.schemas left [])) lefts → AllByRecursion (FitsFields (get_or c.schemas right [])) rights → SuitsLists k (parts_of c o) (width_at c left ∷ (width_at c right ∷ [])) (lefts ∷ (rights ∷ []))) →
    CameFits c o got → (p : ℕ) → SuitsLists k (parts_of c o) (widths_into c o) (slice p (inputs_of c o got))
two_suit c o k got two h came p =
    let ins = links_into c o in
    let left = get_or ins 0 0 in
    let right = get_or ins 1 0 in
    let same = two_members ins two in
    let fit : (l : ℕ) → IsIn l (left ∷ (right ∷ [])) → AllByRecursion (FitsFields (get_or c.schemas l [])) (get_or (got l) p []) = λ l i. partition_fits (FitsFields (get_or c.schemas l [])) (got l) p (came l (subst (IsIn l) (sym same) i)) in
    subst (λ ins. SuitsLists k (parts_of c o) (map (width_at c) ins) (slice p (map got ins))) (sym same) (h left right (get_or (got left) p []) (get_or (got right) p []) refl refl (fit left (inl refl)) (fit right (inr (inl refl))))

all_below : (width : ℕ) (keys : List Key) → Lies (cols keys) (all_columns width) → AreBelow width keys
all_below width [] l = tt
all_below width (k ∷ keys) l = (all_in width k.col l.0, all_below width keys l.1)

each_below : (width : ℕ) (cs : List ℕ) → Lies cs (all_columns width) → AllByRecursion (λ x. x < width) cs
each_below width [] l = tt
each_below width (x ∷ cs) l = (all_in width x l.0, each_below width cs l.1)

-- rows that have all of their width
wide_rows : (fields : List Field) (rows : List Row) → AllByRecursion (FitsFields fields) rows → list_all (join_suits (length fields)) rows ≡ true
wide_rows fields [] h = refl
wide_rows fields (r ∷ rows) h = and_true (and_true (eq_true (length r) (length fields) (sym (fits_length fields r h.0.0))) (row_short r (recursion_from_All IsShort r h.0.1))) (wide_rows fields rows h.1)

each_wide : (fields : List Field) (rows : List Row) → AllByRecursion (FitsFields fields) rows → AllByRecursion (λ r. length r ≡ length fields) rows
each_wide fields [] h = tt
each_wide fields (r ∷ rows) h = (sym (fits_length fields r h.0.0), each_wide fields rows h.1)

main_rows : (fields : List Field) (key : List ℕ) → Lies key (all_columns (length fields)) → (rows : List Row) → AllByRecursion (FitsFields fields) rows → list_all (suits_main key) rows ≡ true
main_rows fields key l [] h = refl
main_rows fields key l (r ∷ rows) h = and_true (and_true (columns_there (length fields) r (sym (fits_length fields r h.0.0)) key l) (row_short r (recursion_from_All IsShort r h.0.1))) (main_rows fields key l rows h.1)

-- a join and a lookup can be made
two_widths : (c : Chart) (o : ℕ) → length (links_into c o) ≡ 2 → widths_into c o ≡ width_at c (get_or (links_into c o) 0 0) ∷ (width_at c (get_or (links_into c o) 1 0) ∷ [])
two_widths c o two = ap (map (width_at c)) (two_members (links_into c o) two)

keys_lie : (c : Chart) → IsShape c → (o : ℕ) → o < length c.flow.ops → length (links_into c o) ≡ 2 → (i : ℕ) → i < 2 → Lies (cols (get_keys (keys_at c o) i)) (all_columns (width_at c (get_or (links_into c o) i 0)))
keys_lie c shape o m two i l = (shape.ops o m).keys i (subst (λ n. i < n) (sym two) l)

can_join : (c : Chart) (o : ℕ) → IsShape c → o < length c.flow.ops → length (links_into c o) ≡ 2 → SameWays c o → SuitsJoin (parts_of c o) (widths_into c o)
can_join c o shape m two same =
    let keys = keys_at c o in
    subst (SuitsJoin (parts_of c o)) (sym (two_widths c o two)) (same, all_below (width_at c (get_or (links_into c o) 0 0)) (get_keys keys 0) (keys_lie c shape o m two 0 (omega arith)), all_below (width_at c (get_or (links_into c o) 1 0)) (get_keys keys 1) (keys_lie c shape o m two 1 (omega arith)))

cols-length : (keys : List Key) → length (cols keys) ≡ length keys
cols-length [] = refl
cols-length (k ∷ keys) = ap suc (cols-length keys)

can_look : (c : Chart) (o : ℕ) → IsShape c → o < length c.flow.ops → length (links_into c o) ≡ 2 → length (get_keys (keys_at c o) 0) ≡ length (get_keys (keys_at c o) 1) → SuitsLookup (parts_of c o) (widths_into c o)
can_look c o shape m two same =
    let keys = keys_at c o in
    let width = width_at c (get_or (links_into c o) 1 0) in
    subst (SuitsLookup (parts_of c o)) (sym (two_widths c o two)) (
      cols-length (get_keys keys 0) ∙ same ∙ sym (cols-length (get_keys keys 1)),
      All-from_recursion (λ x. x < width) (cols (get_keys keys 1)) (each_below width (cols (get_keys keys 1)) (keys_lie c shape o m two 1 (omega arith))),
    )

join_rows : (c : Chart) (left right : ℕ) (lefts rights : List Row) → AllByRecursion (FitsFields (get_or c.schemas left [])) lefts → AllByRecursion (FitsFields (get_or c.schemas right [])) rights → AreJoined (width_at c left ∷ (width_at c right ∷ [])) (lefts ∷ (rights ∷ []))
join_rows c left right lefts rights f g = record { lefts = wide_rows (get_or c.schemas left []) lefts f; rights = wide_rows (get_or c.schemas right []) rights g }

pub can_work : (c : Chart) (o : ℕ) (k : OpKind) → IsShape c → o < length c.flow.ops → (op_at c o).kind ≡ k → IsBuilt c o k → IsWorked k → (got : ℕ → List (List Row)) → CameFits c o got → CanWork k (parts_of c o) (widths_into c o) (inputs_of c o got)
can_work c o (kind.Filter test reject) shape m e b w got came =
    let K = kind.Filter test reject in
    let one = ports_at c shape o m K e in
    let fit = subst (λ k. ExprsFit (first_fields c o) k (parts_of c o)) e (shape.ops o m).exprs in
    ((fit.0, fit.2), length-map (links_into c o) got ∙ one, one_suits c o K got one (rows_fit (first_fields c o) (first_expr (parts_of c o)).fields fit.1) came)
can_work c o (kind.Transform set reject) shape m e b w got came =
    let K = kind.Transform set reject in
    let one = ports_at c shape o m K e in
    let parts = parts_of c o in
    let fit = subst (λ k. ExprsFit (first_fields c o) k parts) e (shape.ops o m).exprs in
    ((fit.1, fit.2, fit.3), length-map (links_into c o) got ∙ one, one_suits c o K got one (rows_fit (first_fields c o) (input_fields (sets_of set parts.cols parts.exprs)) fit.4) came)
can_work c o (kind.Modify keep drop rename) shape m e b w got came =
    let K = kind.Modify keep drop rename in
    let one = ports_at c shape o m K e in
    let lie = subst (ColumnsLie c o) e (shape.ops o m).columns in
    (tt, length-map (links_into c o) got ∙ one, one_suits c o K got one (rows_wide (first_fields c o) (cols_at c o) lie) came)
can_work c o (kind.Switch on cases reject) shape m e b w got came =
    let K = kind.Switch on cases reject in
    let one = ports_at c shape o m K e in
    let fit = subst (λ k. ExprsFit (first_fields c o) k (parts_of c o)) e (shape.ops o m).exprs in
    ((fit.0, fit.2, fit.3, fit.4), length-map (links_into c o) got ∙ one, one_suits c o K got one (rows_fit (first_fields c o) (first_expr (parts_of c o)).fields fit.1) came)
can_work c o (kind.Group key hash results) shape m e b w got came =
    let K = kind.Group key hash results in
    let one = ports_at c shape o m K e in
    let lie = subst (ColumnsLie c o) e (shape.ops o m).columns in
    let keys = (shape.ops o m).keys 0 (some_of_one (length (links_into c o)) one) in
    (tt, length-map (links_into c o) got ∙ one, one_suits c o K got one (group_suited (first_fields c o) (get_keys (keys_at c o) 0) results (cols_at c o) keys lie b.1) came)
can_work c o (kind.InnerJoin key) shape m e b w got came =
    let K = kind.InnerJoin key in
    let two = ports_at c shape o m K e in
    (can_join c o shape m two b.1, length-map (links_into c o) got ∙ two, two_suit c o K got two (λ left right lefts rights i j f g. join_rows c left right lefts rights f g) came)
can_work c o (kind.LeftOuterJoin key) shape m e b w got came =
    let K = kind.LeftOuterJoin key in
    let two = ports_at c shape o m K e in
    (can_join c o shape m two b.1, length-map (links_into c o) got ∙ two, two_suit c o K got two (λ left right lefts rights i j f g. join_rows c left right lefts rights f g) came)
can_work c o (kind.RightOuterJoin key) shape m e b w got came =
    let K = kind.RightOuterJoin key in
    let two = ports_at c shape o m K e in
    (can_join c o shape m two b.1, length-map (links_into c o) got ∙ two, two_suit c o K got two (λ left right lefts rights i j f g. join_rows c left right lefts rights f g) came)
can_work c o (kind.FullOuterJoin key) shape m e b w got came =
    let K = kind.FullOuterJoin key in
    let two = ports_at c shape o m K e in
    (can_join c o shape m two b.1, length-map (links_into c o) got ∙ two, two_suit c o K got two (λ left right lefts rights i j f g. join_rows c left right lefts rights f g) came)
can_work c o (kind.Lookup key missing) shape m e b w got came =
    let K = kind.Lookup key missing in
    let two = ports_at c shape o m K e in (
      can_look c o shape m two b.1,
      length-map (links_into c o) got ∙ two,
      two_suit c o K got two (λ main reference rows found i j f g.
          let lie = subst (λ l. Lies (cols (get_keys (keys_at c o) 0)) (all_columns (width_at c l))) (sym i) (keys_lie c shape o m two 0 (omega arith)) in
          record {
            wide = each_wide (get_or c.schemas main []) rows f;
            mains = main_rows (get_or c.schemas main []) (cols (get_keys (keys_at c o) 0)) lie rows f;
            references = wide_rows (get_or c.schemas reference []) found g;
          }) came,
    )
can_work c o k shape m e b w got came = absurd w
