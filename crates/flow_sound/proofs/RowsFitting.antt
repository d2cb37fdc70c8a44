-- What operators give of rows that fit, fits.
use Rattle.std.proofs.Common.{◌≡◌, ℕ, zero, suc, true, inl, inr, refl, List, [], ◌∷◌, map, sym, subst, length, flat_map}
use Rattle.ds_schema.specs.declared.schema.Field.{Field}
use Rattle.ds_schema.specs.Schemas.{row_fits}
use Rattle.op_base.specs.Columns.{IsIn, Row}
use Rattle.op_base.specs.Keyed.{get_keys}
use Rattle.op_base.specs.Meanings.{input, one_row}
use Rattle.op_base.proofs.All.{all_append, all_flat_each}
use Rattle.op_base.proofs.KeySorts.{one_row_all}
use Rattle.op_base.proofs.RowLists.{by_key_all}
use Rattle.flow_graph.specs.declared.op_kind.OpKind.{OpKind}
use Rattle.flow_graph.specs.declared.op_kind.OpKind.TheVariants as kind
use Rattle.flow_graph.specs.declared.parts.OpParts.{OpParts}
use Rattle.flow_graph.specs.Charts.{first_fields as fields_into, link_at, links_from, links_into, op_at, parts_of}
use Rattle.flow_graph.specs.Operators.{Op, by_row, result}
use Rattle.flow_graph.specs.RowRules.{row_rule}
use Rattle.flow_graph.specs.Runs.{Means, Out}
use Rattle.flow_graph.proofs.PartLaws.{parts_all}
use Rattle.flow_rules.specs.Exports.{input_of}
use Rattle.op_shape.specs.Options.{IsKeyed, output_fields}
use Rattle.shape_base.specs.Fields.{first_fields}
use Rattle.flow_shape.specs.Refusals.{fields_at, inputs_at}
use Rattle.flow_sound.specs.Fitting.{ExportsFit, IsByRow, MeaningFits, RowsFit}
use Rattle.flow_sound.specs.Kinds.{IsOfKind}
use Rattle.flow_sound.proofs.ByRow.{one_input, rows_fit, works_at}
use Rattle.flow_sound.proofs.Fitting.{given_there, kind_of, lines_fit}
use Rattle.flow_sound.proofs.Keeping.{export_bag, export_link}
use Rattle.flow_sound.proofs.KeyedOps.{EachFits, WorksByKey, keyed_at, keyed_gives}
use Rattle.flow_sound.proofs.Members.{below_all}
use Rattle.flow_sound.proofs.Order.{along_order, leaves_it, node_has, out_has}
use Rattle.flow_sound.proofs.Working.{Works}

-- of each row
each_fit : (fields made : List Field) (f : Row → List Row) → ((r : Row) → row_fits fields r ≡ true → RowsFit made (f r)) → (rows : List Row) → RowsFit fields rows → RowsFit made (flat_map f rows)
each_fit fields made f g [] h = tt
each_fit fields made f g (r ∷ rows) h = all_append (λ (y : Row). row_fits made y ≡ true) (f r) (flat_map f rows) (g r h.0) (each_fit fields made f g rows h.1)

by_row_fits : (o : ℕ) (k : OpKind) (parts : OpParts) (op : Op) (first : List Field) (fields : List (List Field)) (inputs : List (List Row)) (q : ℕ) → IsByRow k → Works k first parts → fields ≡ first ∷ [] → op ≡ by_row (row_rule o k parts) → RowsFit (first_fields fields) (input 0 inputs) → RowsFit (output_fields k fields q) (result op q inputs)
by_row_fits o k parts op first fields inputs q h w one e f =
    subst (λ ins. RowsFit (output_fields k ins q) (result op q inputs)) (sym one)
    (subst (λ (p : Op). RowsFit (output_fields k (first ∷ []) q) (result p q inputs)) (sym e)
    (each_fit first (output_fields k (first ∷ []) q) ((row_rule o k parts).rows q) (rows_fit o k first parts h w q) (input 0 inputs) (subst (λ ins. RowsFit (first_fields ins) (input 0 inputs)) one f)))

result_fits : (o : ℕ) (k : OpKind) (parts : OpParts) (op : Op) (first : List Field) (fields : List (List Field)) (inputs : List (List Row)) (q : ℕ) → IsOfKind o k parts (map length fields) op → (IsByRow k → Works k first parts × (fields ≡ first ∷ [])) → (IsKeyed k → WorksByKey k fields parts) → EachFits fields inputs → RowsFit (output_fields k fields q) (result op q inputs)
result_fits o (kind.Import file schema delim fixed reject) parts op first fields inputs q h w y f =
    subst (λ (p : Op). RowsFit (output_fields (kind.Import file schema delim fixed reject) fields q) (result p q inputs)) (sym h.3) (lines_fit schema reject h.0 q h.2)
result_fits o (kind.Export file delim fixed) parts op first fields inputs q h w y f =
    subst (λ (p : Op). RowsFit (first_fields fields) (result p q inputs)) (sym h.1) (all_flat_each (λ (r : Row). row_fits (first_fields fields) r ≡ true) (λ r. []) (λ r. tt) (input 0 inputs))
result_fits o kind.Copy parts op first fields inputs q h w y f =
    subst (λ (p : Op). RowsFit (first_fields fields) (result p q inputs)) (sym h) (each_fit (first_fields fields) (first_fields fields) (λ r. r ∷ []) (λ r e. (e, tt)) (input 0 inputs) (f 0))
result_fits o (kind.Filter test reject) parts op first fields inputs q h w y f = by_row_fits o (kind.Filter test reject) parts op first fields inputs q tt (w tt).0 (w tt).1 h (f 0)
result_fits o (kind.Transform set reject) parts op first fields inputs q h w y f = by_row_fits o (kind.Transform set reject) parts op first fields inputs q tt (w tt).0 (w tt).1 h (f 0)
result_fits o (kind.Modify keep drop rename) parts op first fields inputs q h w y f = by_row_fits o (kind.Modify keep drop rename) parts op first fields inputs q tt (w tt).0 (w tt).1 h (f 0)
result_fits o (kind.Switch on cases reject) parts op first fields inputs q h w y f = by_row_fits o (kind.Switch on cases reject) parts op first fields inputs q tt (w tt).0 (w tt).1 h (f 0)
result_fits o (kind.Tsort key) parts op first fields inputs q h w y f =
    subst (λ (p : Op). RowsFit (first_fields fields) (result p q inputs)) (sym h) (by_key_all (get_keys parts.keys 0) (λ same. same) (λ P rows all. all) (λ (r : Row). row_fits (first_fields fields) r ≡ true) (input 0 inputs) (f 0))
result_fits o (kind.Remdup key last) parts op first fields inputs q h w y f =
    subst (λ (p : Op). RowsFit (first_fields fields) (result p q inputs)) (sym h) (by_key_all (get_keys parts.keys 0) (one_row last) (one_row_all last) (λ (r : Row). row_fits (first_fields fields) r ≡ true) (input 0 inputs) (f 0))
result_fits o (kind.Group key hash results) parts op first fields inputs q h w y f = (keyed_gives o (kind.Group key hash results) parts fields op q inputs tt h (y tt) f).0
result_fits o (kind.InnerJoin key) parts op first fields inputs q h w y f = (keyed_gives o (kind.InnerJoin key) parts fields op q inputs tt h (y tt) f).0
result_fits o (kind.LeftOuterJoin key) parts op first fields inputs q h w y f = (keyed_gives o (kind.LeftOuterJoin key) parts fields op q inputs tt h (y tt) f).0
result_fits o (kind.RightOuterJoin key) parts op first fields inputs q h w y f = (keyed_gives o (kind.RightOuterJoin key) parts fields op q inputs tt h (y tt) f).0
result_fits o (kind.FullOuterJoin key) parts op first fields inputs q h w y f = (keyed_gives o (kind.FullOuterJoin key) parts fields op q inputs tt h (y tt) f).0
result_fits o (kind.Lookup key missing) parts op first fields inputs q h w y f = (keyed_gives o (kind.Lookup key missing) parts fields op q inputs tt h (y tt) f).0
result_fits o k parts op first fields inputs q h w y f = absurd h

links_fit : (fields : ℕ → List Field) (whole : ℕ → List Row) (ls : List ℕ) → ((l : ℕ) → IsIn l ls → RowsFit (fields l) (whole l)) → EachFits (map fields ls) (map whole ls)
links_fit fields whole [] h i = tt
links_fit fields whole (l ∷ ls) h zero = h l (inl refl)
links_fit fields whole (l ∷ ls) h (suc i) = links_fit fields whole ls (λ k j. h k (inr j)) i

pub meaning_fits : MeaningFits
meaning_fits flow dict c ops whole s m = along_order (λ l. RowsFit (fields_at c l) (whole l)) c s.shape step
  where
    step : (o : ℕ) → IsIn o c.order → ((l : ℕ) → IsIn l (links_into c o) → RowsFit (fields_at c l) (whole l)) → (l : ℕ) → IsIn l (links_from c o) → RowsFit (fields_at c l) (whole l)
    step o i h l j =
        let b = below_all (length c.flow.ops) o c.order s.shape.order.once i in
        let leaves = leaves_it c o l j in
        subst (λ fs. RowsFit fs (whole l)) (sym (given_there c o l (s.shape_of.schemas.fits o b) leaves.1 leaves.0))
        (subst (RowsFit (output_fields (op_at c o).kind (inputs_at c o) (link_at c l).out)) (sym (out_has (λ (q : Out). whole q.link ≡ result (ops o) q.port (map whole (links_into c o))) c o l (node_has (Means whole) c ops o m i) j))
        (result_fits o (op_at c o).kind (parts_of c o) (ops o) (fields_into c o) (inputs_at c o) (map whole (links_into c o)) (link_at c l).out (kind_of flow dict c ops s o b) (λ w. (works_at flow dict c s.shape s.shape_of o b w, one_input c o s.shape b w))
        (keyed_at flow dict c s.shape s.shape_of o b) (links_fit (fields_at c) whole (links_into c o) h)))

pub exports_fit : ExportsFit
exports_fit regains flow dict c states choices ops whole run a o b e =
    parts_all (λ (r : Row). row_fits (fields_at c (input_of c o)) r ≡ true) (run.got (input_of c o)) (whole (input_of c o))
    (export_bag regains flow dict c states choices ops whole run a o b e)
    (meaning_fits flow dict c ops whole a.shaped a.means (input_of c o) (export_link c o a.shaped.shape b e))
