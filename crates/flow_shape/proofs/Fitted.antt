-- The columns and expressions of an operator fit the fields of its input and of its outputs.
use Rattle.std.proofs.Common.{◌≡◌, ◌≤◌, ◌<◌, ◌+◌, ◌==◌, ◌++◌, ◌∷◌, [], ℕ, suc, List, Bool, true, false, cond, None, refl, sym, ap, ◌∙◌, arith, length, get_or, subst, inl, inr}
use Rattle.std.specs.List.{filter, range_with_len}
use Rattle.std.proofs.lemmas.Bool.{and_parts, eqb-true, leb-true}
use Rattle.op_base.proofs.ColumnLaws.{in_bounds}
use Rattle.op_base.specs.Columns.{IsIn, Lies, all_columns}
use Rattle.ds_schema.specs.declared.schema.Field.{Field}
use Rattle.flow_graph.specs.Charts.{Chart, no_link, no_op, link_at, links_from, width_at, cols_at, first_width}
use Rattle.flow_graph.specs.declared.flow.Flow.{Flow}
use Rattle.flow_graph.specs.declared.op_kind.OpKind.{OpKind}
use Rattle.flow_graph.specs.declared.op_kind.OpKind.TheVariants as kind
use Rattle.flow_graph.specs.declared.parts.OpParts.{OpParts}
use Rattle.flow_graph.specs.FlowShape.{ColumnsLie, FewKept}
use Rattle.flow_graph.specs.RowRules.{ExprsFit}
use Rattle.shape_base.specs.Causes.{first_cause}
use Rattle.op_shape.specs.Columns.{set_columns, set_fields, kept_columns}
use Rattle.keyed_shape.specs.Keyed.{source_columns}
use Rattle.op_shape.specs.Options.{IsKnown, OptionsStand, option_causes, output_causes, output_fields, operator_columns}
use Rattle.shape_base.specs.Fields.{first_fields}
use Rattle.op_shape.proofs.Fit.{FewCases, kept, modify_lies}
use Rattle.op_shape.proofs.Putting.{sets_lie}
use Rattle.keyed_shape.proofs.Joined.{is_grouped, sources_lie}
use Rattle.flow_shape.specs.Ports.{may_have_in, may_have_out, with_reject}
use Rattle.flow_shape.specs.Refusals.{chart_of, inputs_at, given_on, Fits}

-- one input at least
some_input : (n : ℕ) → (n == 1) ≡ true → 0 < n
some_input n e = let one = eqb-true n 1 e in omega (arith, one)

-- what is made over the first input's fields is over those of the first link
pub exprs_over : (k : OpKind) (fields first : List Field) (parts : OpParts) (n : ℕ) → IsKnown k → may_have_in k n ≡ true → (0 < n → fields ≡ first) → ExprsFit fields k parts → ExprsFit first k parts
exprs_over (kind.Import file schema delim fixed reject) fields first parts n h e same f = tt
exprs_over (kind.Export file delim fixed) fields first parts n h e same f = tt
exprs_over kind.Copy fields first parts n h e same f = tt
exprs_over (kind.Filter test reject) fields first parts n h e same f = subst (λ fs. ExprsFit fs (kind.Filter test reject) parts) (same (some_input n e)) f
exprs_over (kind.Transform set reject) fields first parts n h e same f = subst (λ fs. ExprsFit fs (kind.Transform set reject) parts) (same (some_input n e)) f
exprs_over (kind.Modify keep drop rename) fields first parts n h e same f = tt
exprs_over (kind.Switch on cases reject) fields first parts n h e same f = subst (λ fs. ExprsFit fs (kind.Switch on cases reject) parts) (same (some_input n e)) f
exprs_over (kind.Tsort key) fields first parts n h e same f = tt
exprs_over (kind.Remdup key last) fields first parts n h e same f = tt
exprs_over (kind.Group key hash results) fields first parts n h e same f = tt
exprs_over (kind.InnerJoin key) fields first parts n h e same f = tt
exprs_over (kind.LeftOuterJoin key) fields first parts n h e same f = tt
exprs_over (kind.RightOuterJoin key) fields first parts n h e same f = tt
exprs_over (kind.FullOuterJoin key) fields first parts n h e same f = tt
exprs_over (kind.Lookup key missing) fields first parts n h e same f = tt
exprs_over k fields first parts n h e same f = absurd h

-- a switch with outputs such as it may have has few cases
few_by : (reject : Bool) (n m : ℕ) → (n == with_reject reject m) ≡ true → n ≤ 16 → m ≤ 16
few_by true n m e h = let same = eqb-true n (m + 1) e in omega (arith, same, h)
few_by false n m e h = let same = eqb-true n m e in omega (arith, same, h)

pub few_cases : (k : OpKind) (ins n : ℕ) → may_have_out k ins n ≡ true → FewCases k
few_cases (kind.Switch on cases reject) ins n e = let both = and_parts (n == with_reject reject (length cases)) _ e in few_by reject n (length cases) both.0 (leb-true n 16 both.1)
few_cases k ins n e = tt

none_lie : (xs ds : List ℕ) → xs ≡ [] → Lies xs ds
none_lie xs ds e = subst (λ ys. Lies ys ds) (sym e) tt

both_lie : (xs ys : List ℕ) (m n : ℕ) → xs ≡ ys → n ≡ m → Lies ys (all_columns m) → Lies xs (all_columns n)
both_lie xs ys m n e f l = subst (λ zs. Lies zs (all_columns n)) (sym e) (subst (λ k. Lies ys (all_columns k)) (sym f) l)

pub columns_fit : (c : Chart) (o : ℕ) (k : OpKind) (ins : List (List Field)) (n : ℕ) → IsKnown k → OptionsStand k → first_cause (option_causes k ins ++ output_causes k ins) ≡ None → cols_at c o ≡ operator_columns k ins
    → may_have_in k n ≡ true → (0 < n → length (first_fields ins) ≡ first_width c o) → ((l : ℕ) → IsIn l (links_from c o) → (link_at c l).out ≡ 0 → width_at c l ≡ length (output_fields k ins 0)) → ColumnsLie c o k
columns_fit c o (kind.Import file schema delim fixed reject) ins n h stand none e fed w given = none_lie (cols_at c o) _ e
columns_fit c o (kind.Export file delim fixed) ins n h stand none e fed w given = none_lie (cols_at c o) _ e
columns_fit c o kind.Copy ins n h stand none e fed w given = none_lie (cols_at c o) _ e
columns_fit c o (kind.Filter test reject) ins n h stand none e fed w given = none_lie (cols_at c o) _ e
columns_fit c o (kind.Transform set reject) ins n h stand none e fed w given = λ l i z. both_lie (cols_at c o) (set_columns (first_fields ins) set) (length (set_fields (first_fields ins) set)) (width_at c l) e (given l i z) (sets_lie set (first_fields ins))
columns_fit c o (kind.Modify keep drop rename) ins n h stand none e fed w given = both_lie (cols_at c o) (kept_columns keep drop (first_fields ins)) (length (first_fields ins)) (first_width c o) e (sym (w (some_input n fed))) (modify_lies keep drop rename (first_fields ins) none)
columns_fit c o (kind.Switch on cases reject) ins n h stand none e fed w given = none_lie (cols_at c o) _ e
columns_fit c o (kind.Tsort key) ins n h stand none e fed w given = none_lie (cols_at c o) _ e
columns_fit c o (kind.Remdup key last) ins n h stand none e fed w given = none_lie (cols_at c o) _ e
columns_fit c o (kind.Group key hash results) ins n h stand none e fed w given = both_lie (cols_at c o) (source_columns results (first_fields ins)) (length (first_fields ins)) (first_width c o) e (sym (w (some_input n fed))) (sources_lie results (first_fields ins) (is_grouped key results (first_fields ins) none).sound)
columns_fit c o (kind.InnerJoin key) ins n h stand none e fed w given = none_lie (cols_at c o) _ e
columns_fit c o (kind.LeftOuterJoin key) ins n h stand none e fed w given = none_lie (cols_at c o) _ e
columns_fit c o (kind.RightOuterJoin key) ins n h stand none e fed w given = none_lie (cols_at c o) _ e
columns_fit c o (kind.FullOuterJoin key) ins n h stand none e fed w given = none_lie (cols_at c o) _ e
columns_fit c o (kind.Lookup key missing) ins n h stand none e fed w given = none_lie (cols_at c o) _ e
columns_fit c o k ins n h stand none e fed w given = absurd h

pub few_kept : (k : OpKind) (ins : List (List Field)) (cs : List ℕ) → first_cause (option_causes k ins ++ output_causes k ins) ≡ None → cs ≡ operator_columns k ins → FewKept k cs
few_kept (kind.Modify keep drop rename) ins cs none e = let few = (kept keep drop rename (first_fields ins) none).few in let len = ap length e in omega (arith, few, len)
few_kept k ins cs none e = tt

-- the links that leave an operator
in_by : (x : Bool) (q : ℕ → Bool) (l n : ℕ) (ns : List ℕ) → q n ≡ x → IsIn l (cond x (n ∷ filter q ns) (filter q ns)) → (IsIn l (filter q ns) → (q l ≡ true) × IsIn l ns) → (q l ≡ true) × IsIn l (n ∷ ns)
in_by true q l n ns e (inl i) go = (ap q i ∙ e, inl i)
in_by true q l n ns e (inr i) go = let both = go i in (both.0, inr both.1)
in_by false q l n ns e i go = let both = go i in (both.0, inr both.1)

in_filter : (q : ℕ → Bool) (l : ℕ) (ns : List ℕ) → IsIn l (filter q ns) → (q l ≡ true) × IsIn l ns
in_filter q l [] i = absurd i
in_filter q l (n ∷ ns) i = in_by (q n) q l n ns refl i (in_filter q l ns)

pub leaves : (flow : Flow) (o l : ℕ) → IsIn l (filter (λ l. (get_or flow.links l no_link).from == o) (range_with_len 0 (length flow.links))) → (l < length flow.links) × ((get_or flow.links l no_link).from ≡ o)
leaves flow o l i =
    let both = in_filter (λ l. (get_or flow.links l no_link).from == o) l (range_with_len 0 (length flow.links)) i in
    let bounds = in_bounds l 0 (length flow.links) both.1 in
    (omega (arith, bounds.1), eqb-true _ o both.0)

-- the fields of output 0 of an operator that fits
pub given_fields : (flow : Flow) (schemas : List (List Field)) (o l : ℕ) → Fits (chart_of flow schemas) o → l < length flow.links → (get_or flow.links l no_link).from ≡ o → (get_or flow.links l no_link).out ≡ 0
    → get_or schemas l [] ≡ output_fields (get_or flow.ops o no_op).kind (inputs_at (chart_of flow schemas) o) 0
given_fields flow schemas o l f w e z =
    let q = (get_or flow.links l no_link).out in
    let from : given_on (chart_of flow schemas) l ≡ output_fields (get_or flow.ops o no_op).kind (inputs_at (chart_of flow schemas) o) q = ap (λ p. output_fields (get_or flow.ops p no_op).kind (inputs_at (chart_of flow schemas) p) q) e in
    f.gives l w e ∙ (from ∙ ap (output_fields (get_or flow.ops o no_op).kind (inputs_at (chart_of flow schemas) o)) z)
