-- Operators of the kinds that a shaped flow names are such as the law of flows asks.
use Rattle.std.proofs.Common.{◌≡◌, ℕ, zero, suc, ◌<◌, Bool, true, false, cond, List, [], ◌∷◌, map, get_or, sym, ap, ap₂, ◌∙◌, subst, length, flat_map, Option, Some, None}
use Rattle.std.specs.List.{AllByRecursion}
use Rattle.ds_schema.specs.declared.schema.Field.{Field}
use Rattle.ds_schema.specs.Schemas.{row_fits}
use Rattle.op_base.specs.Columns.{IsIn, Row}
use Rattle.op_base.specs.Meanings.{Line, good, bad, line_rows}
use Rattle.op_base.specs.RowOperators.{copy_rule, transform_passes}
use Rattle.op_row.specs.Expressed.{input_fields, targets}
use Rattle.op_base.proofs.All.{all_append, all_map, map_two}
use Rattle.flow_graph.specs.declared.op_kind.OpKind.{OpKind}
use Rattle.flow_graph.specs.declared.op_kind.OpKind.TheVariants as kind
use Rattle.flow_graph.specs.declared.op_kind.SetSpec.{SetSpec}
use Rattle.flow_graph.specs.declared.flow.Flow.{Flow}
use Rattle.flow_graph.specs.declared.parts.OpParts.{OpParts}
use Rattle.flow_graph.specs.declared.parts.Stored.{Stored}
use Rattle.flow_graph.specs.declared.route.Route.{Route}
use Rattle.flow_graph.specs.declared.route.Route.TheVariants as route
use Rattle.flow_graph.specs.Charts.{Chart, first_fields as fields_into, first_width, into_seq, kind_form, link_at, links_into, op_at, parts_of, width_at}
use Rattle.flow_graph.specs.FlowShape.{FormPorts, WrittenFits}
use Rattle.flow_graph.specs.Forms.{form, by_row as passing}
use Rattle.flow_graph.specs.Operators.{Op, by_row}
use Rattle.flow_graph.specs.RowRules.{ExprsFit, row_rule, sets_of}
use Rattle.flow_graph.specs.Runs.{FitsShape, Out, RouteFits}
use Rattle.flow_graph.specs.Shapes.{HasPort, IsShaped, RowShape, Wide}
use Rattle.flow_graph.proofs.RowShapes.{copy_shape, sink_shape}
use Rattle.flow_derive.specs.LinkStates.{written_or_same}
use Rattle.flow_rules.specs.Verdicts.{node_at}
use Rattle.op_shape.specs.Options.{IsKeyed, line_fields, output_fields}
use Rattle.shape_base.specs.Fields.{first_fields, made_or_rejected}
use Rattle.flow_shape.specs.Refusals.{Fits, fields_at, inputs_at, kind_at}
use Rattle.flow_sound.specs.Fitting.{IsByRow, RowsFit}
use Rattle.flow_sound.specs.Kinds.{IsOfKind, LineFits}
use Rattle.flow_sound.specs.Promise.{FormsFit, OperatorsFit, ShapedFlow}
use Rattle.flow_sound.proofs.ByRow.{one_input, row_shape, works_at}
use Rattle.flow_sound.proofs.KeyedOps.{SuitsWith, WorksByKey, first_input, first_long, keyed_at, keyed_form, keyed_suits}
use Rattle.flow_sound.proofs.Members.{below_all}
use Rattle.flow_sound.proofs.Order.{all_nodes, all_outs, leaves_it}
use Rattle.flow_sound.proofs.Working.{Works, fits_long, targets_are}

-- what an import gives fits the fields of that output
line_fits : (schema : List Field) (rejects : Bool) (line : Line) (q : ℕ) → LineFits schema line → RowsFit (made_or_rejected schema line_fields q) (line_rows q rejects line)
line_fits schema rejects (good r) zero h = (h, tt)
line_fits schema rejects (good r) (suc q) h = tt
line_fits schema rejects (bad r f) zero h = tt
line_fits schema rejects (bad r f) (suc q) h = go rejects
  where
    go : (b : Bool) → RowsFit line_fields (cond b (r ∷ []) [])
    go true = (h, tt)
    go false = tt

pub lines_fit : (schema : List Field) (rejects : Bool) (lines : List Line) (q : ℕ) → AllByRecursion (LineFits schema) lines → RowsFit (made_or_rejected schema line_fields q) (flat_map (line_rows q rejects) lines)
lines_fit schema rejects [] q h = tt
lines_fit schema rejects (line ∷ lines) q h = all_append (λ (r : Row). row_fits (made_or_rejected schema line_fields q) r ≡ true) (line_rows q rejects line) (flat_map (line_rows q rejects) lines) (line_fits schema rejects line q h.0) (lines_fit schema rejects lines q h.1)

rows_wide : (fields : List Field) (rows : List Row) → RowsFit fields rows → AllByRecursion (Wide (length fields)) rows
rows_wide fields rows h = all_map (λ (r : Row). row_fits fields r ≡ true) (Wide (length fields)) (fits_long fields) rows h

-- what passes of a transform's rows, by its columns
set_passes : (set : List SetSpec) (reject : Bool) (fields : List Field) (parts : OpParts) → ExprsFit fields (kind.Transform set reject) parts → let sets = sets_of set parts.cols parts.exprs in transform_passes (length (input_fields sets)) (targets sets) ≡ transform_passes (length fields) parts.cols
set_passes set reject fields parts x = ap₂ transform_passes (ap length x.4) (targets_are set parts.cols parts.exprs x.1 x.2)

-- one by keys
keyed_kind_form : (o : ℕ) (k : OpKind) (parts : OpParts) (ins : List (List Field)) (op : Op) (stored : Option Stored) (fields : List Field) → IsKeyed k → IsOfKind o k parts (map length ins) op → WorksByKey k ins parts × (first_fields ins ≡ fields) → form op ≡ kind_form k parts.keys parts.cols stored (length fields)
keyed_kind_form o k parts ins op stored fields b h w = keyed_form o k parts ins op stored b h w.0 ∙ ap (λ (fs : List Field). kind_form k parts.keys parts.cols stored (length fs)) w.1

kind_forms : (o : ℕ) (k : OpKind) (parts : OpParts) (ins : List (List Field)) (op : Op) (stored : Option Stored) (fields : List Field) → IsOfKind o k parts (map length ins) op → ExprsFit fields k parts → (IsKeyed k → WorksByKey k ins parts × (first_fields ins ≡ fields)) → form op ≡ kind_form k parts.keys parts.cols stored (length fields)
kind_forms o (kind.Import file schema delim fixed reject) parts ins op stored fields h x w = ap form h.3
kind_forms o (kind.Export file delim fixed) parts ins op stored fields h x w = ap form h.1
kind_forms o kind.Copy parts ins op stored fields h x w = ap form h
kind_forms o (kind.Filter test reject) parts ins op stored fields h x w = ap form h
kind_forms o (kind.Transform set reject) parts ins op stored fields h x w = ap form h ∙ ap passing (set_passes set reject fields parts x)
kind_forms o (kind.Modify keep drop rename) parts ins op stored fields h x w = ap form h
kind_forms o (kind.Switch on cases reject) parts ins op stored fields h x w = ap form h
kind_forms o (kind.Tsort key) parts ins op stored fields h x w = ap form h
kind_forms o (kind.Remdup key last) parts ins op stored fields h x w = ap form h
kind_forms o (kind.Group key hash results) parts ins op stored fields h x w = keyed_kind_form o (kind.Group key hash results) parts ins op stored fields tt h (w tt)
kind_forms o (kind.InnerJoin key) parts ins op stored fields h x w = keyed_kind_form o (kind.InnerJoin key) parts ins op stored fields tt h (w tt)
kind_forms o (kind.LeftOuterJoin key) parts ins op stored fields h x w = keyed_kind_form o (kind.LeftOuterJoin key) parts ins op stored fields tt h (w tt)
kind_forms o (kind.RightOuterJoin key) parts ins op stored fields h x w = keyed_kind_form o (kind.RightOuterJoin key) parts ins op stored fields tt h (w tt)
kind_forms o (kind.FullOuterJoin key) parts ins op stored fields h x w = keyed_kind_form o (kind.FullOuterJoin key) parts ins op stored fields tt h (w tt)
kind_forms o (kind.Lookup key missing) parts ins op stored fields h x w = keyed_kind_form o (kind.Lookup key missing) parts ins op stored fields tt h (w tt)
kind_forms o k parts ins op stored fields h x w = absurd h

-- an operator with inputs of these fields
abbrev Suits : OpKind → List (List Field) → ℕ → Op → Type 0
Suits k inputs n op = SuitsWith inputs n (λ q. length (output_fields k inputs q)) op

-- one that works row by row
by_row_suits : (o : ℕ) (k : OpKind) (parts : OpParts) (op : Op) (n : ℕ) (fields : List Field) (inputs : List (List Field)) → IsByRow k → Works k fields parts → inputs ≡ fields ∷ [] → n ≡ 1 → op ≡ by_row (row_rule o k parts) → Suits k inputs n op
by_row_suits o k parts op n fields inputs h w one p e =
    subst (λ ins. Suits k ins n op) (sym one) (subst (Suits k (fields ∷ []) n) (sym e) (row_shape o k fields parts h w, p, tt, λ q. tt))

kind_suits : (o : ℕ) (k : OpKind) (parts : OpParts) (op : Op) (stored : Option Stored) (width n : ℕ) (fields : List Field) (inputs : List (List Field)) → IsOfKind o k parts (map length inputs) op → FormPorts (kind_form k parts.keys parts.cols stored width) n → (IsByRow k → Works k fields parts × (inputs ≡ fields ∷ [])) → (IsKeyed k → WorksByKey k inputs parts) → Suits k inputs n op
kind_suits o (kind.Import file schema delim fixed reject) parts op stored width n fields inputs h p w y =
    subst (Suits (kind.Import file schema delim fixed reject) inputs n) (sym h.3) (λ q. rows_wide (made_or_rejected schema line_fields q) (flat_map (line_rows q reject) h.0) (lines_fit schema reject h.0 q h.2), p, tt, λ q. tt)
kind_suits o (kind.Export file delim fixed) parts op stored width n fields inputs h p w y =
    subst (Suits (kind.Export file delim fixed) inputs n) (sym h.1) (sink_shape (get_or (map length inputs) 0 0) h.0 (λ q. length (first_fields inputs)), p, tt, λ q. tt)
kind_suits o kind.Copy parts op stored width n fields inputs h p w y =
    subst (Suits kind.Copy inputs n) (sym h) (subst (λ m. RowShape copy_rule (get_or (map length inputs) 0 0) (λ q. m)) (first_long inputs) (copy_shape (get_or (map length inputs) 0 0)), p, tt, λ q. tt)
kind_suits o (kind.Filter test reject) parts op stored width n fields inputs h p w y = by_row_suits o (kind.Filter test reject) parts op n fields inputs tt (w tt).0 (w tt).1 p h
kind_suits o (kind.Transform set reject) parts op stored width n fields inputs h p w y = by_row_suits o (kind.Transform set reject) parts op n fields inputs tt (w tt).0 (w tt).1 p h
kind_suits o (kind.Modify keep drop rename) parts op stored width n fields inputs h p w y = by_row_suits o (kind.Modify keep drop rename) parts op n fields inputs tt (w tt).0 (w tt).1 p h
kind_suits o (kind.Switch on cases reject) parts op stored width n fields inputs h p w y = by_row_suits o (kind.Switch on cases reject) parts op n fields inputs tt (w tt).0 (w tt).1 p h
kind_suits o (kind.Tsort key) parts op stored width n fields inputs h p w y =
    subst (Suits (kind.Tsort key) inputs n) (sym h) (λ q. sym (first_long inputs), p, tt, λ q. tt)
kind_suits o (kind.Remdup key last) parts op stored width n fields inputs h p w y =
    subst (Suits (kind.Remdup key last) inputs n) (sym h) (λ q. sym (first_long inputs), p, tt, λ q. tt)
kind_suits o (kind.Group key hash results) parts op stored width n fields inputs h p w y = keyed_suits o (kind.Group key hash results) parts inputs n op tt h p (y tt)
kind_suits o (kind.InnerJoin key) parts op stored width n fields inputs h p w y = keyed_suits o (kind.InnerJoin key) parts inputs n op tt h p (y tt)
kind_suits o (kind.LeftOuterJoin key) parts op stored width n fields inputs h p w y = keyed_suits o (kind.LeftOuterJoin key) parts inputs n op tt h p (y tt)
kind_suits o (kind.RightOuterJoin key) parts op stored width n fields inputs h p w y = keyed_suits o (kind.RightOuterJoin key) parts inputs n op tt h p (y tt)
kind_suits o (kind.FullOuterJoin key) parts op stored width n fields inputs h p w y = keyed_suits o (kind.FullOuterJoin key) parts inputs n op tt h p (y tt)
kind_suits o (kind.Lookup key missing) parts op stored width n fields inputs h p w y = keyed_suits o (kind.Lookup key missing) parts inputs n op tt h p (y tt)
kind_suits o k parts op stored width n fields inputs h p w y = absurd h

route_fits : (seq : Bool) (width : ℕ) (written : Option Route) → WrittenFits seq width written → RouteFits width (written_or_same written)
route_fits seq width None h = tt
route_fits seq width (Some (route.Merge keys)) h = tt
route_fits seq width (Some route.Same) h = h.1
route_fits seq width (Some route.RoundRobin) h = h.1
route_fits seq width (Some route.Entire) h = h.1
route_fits seq width (Some (route.Hash columns)) h = h.1
route_fits seq width (Some (route.Modulus column)) h = h.1
route_fits seq width (Some route.Any) h = h.1
route_fits seq width (Some route.Ordered) h = h.1

-- an operator of a shaped flow, by the fields of its inputs
pub kind_of : (flow : Flow) (dict : List Stored) (c : Chart) (ops : ℕ → Op) → ShapedFlow flow dict c ops → (o : ℕ) → o < length c.flow.ops → IsOfKind o (op_at c o).kind (parts_of c o) (map length (inputs_at c o)) (ops o)
kind_of flow dict c ops s o b = subst (λ ws. IsOfKind o (op_at c o).kind (parts_of c o) ws (ops o)) (sym (map_two (fields_at c) length (links_into c o))) (s.kinds o b)

pub forms_fit : FormsFit
forms_fit flow dict c ops s o i =
    let b = below_all (length c.flow.ops) o c.order s.shape.order.once i in
    kind_forms o (op_at c o).kind (parts_of c o) (inputs_at c o) (ops o) (get_or c.stored o None) (fields_into c o) (kind_of flow dict c ops s o b) (s.shape.ops o b).exprs
    (λ h. let w = keyed_at flow dict c s.shape s.shape_of o b h in (w, first_input c o h w))

-- what its producer gives on a link
pub given_there : (c : Chart) (o l : ℕ) → Fits c o → l < length c.flow.links → (link_at c l).from ≡ o → fields_at c l ≡ output_fields (kind_at c o) (inputs_at c o) (link_at c l).out
given_there c o l f b e = f.gives l b e ∙ ap (λ p. output_fields (kind_at c p) (inputs_at c p) (link_at c l).out) e

pub operators_fit : OperatorsFit
operators_fit flow dict c ops s = all_nodes (FitsShape (width_at c)) c ops node
  where
    node : (o : ℕ) → IsIn o c.order → FitsShape (width_at c) (node_at c ops o)
    node o i =
        let b = below_all (length c.flow.ops) o c.order s.shape.order.once i in
        let ports = (s.shape.ops o b).inputs in
        let suits = kind_suits o (op_at c o).kind (parts_of c o) (ops o) (get_or c.stored o None) (first_width c o) (length (links_into c o)) (fields_into c o) (inputs_at c o) (kind_of flow dict c ops s o b) ports (λ h. (works_at flow dict c s.shape s.shape_of o b h, one_input c o s.shape b h)) (keyed_at flow dict c s.shape s.shape_of o b) in
        let widths = map_two (fields_at c) length (links_into c o) in (
          λ q. length (output_fields (kind_at c o) (inputs_at c o) q),
          subst (λ ws. IsShaped (ops o) ws (λ q. length (output_fields (kind_at c o) (inputs_at c o) q))) widths suits.0,
          suits.1,
          suits.2,
          all_outs (λ (q : Out). (width_at c q.link ≡ length (output_fields (kind_at c o) (inputs_at c o) q.port)) × HasPort (ops o) q.port × RouteFits (width_at c q.link) q.route) c o
              (λ l j. let leaves = leaves_it c o l j in
              (ap length (given_there c o l (s.shape_of.schemas.fits o b) leaves.1 leaves.0), suits.3 (link_at c l).out, route_fits (into_seq c l) (width_at c l) (get_or c.written l None) (s.shape.links l leaves.1).written)),
        )
