-- A flow that is ready can be run over lists.
use Rattle.std.proofs.Common.{◌≡◌, ◌<◌, ◌==◌, ◌&&◌, not, ℕ, zero, suc, Bool, true, false, cond, List, [], ◌∷◌, All, map, get_or, length, Option, None, refl, sym, ap, ◌∙◌, subst, arith}
use Rattle.std.specs.List.{list_all}
use Rattle.std.proofs.lemmas.Bool.{eqb-true}
use Rattle.std.proofs.lemmas.List.FromFn.{get_or-map-range_with_len}
use Rattle.ds_schema.specs.declared.key.Key.{Key}
use Rattle.ds_schema.specs.declared.schema.Field.{Field}
use Rattle.ds_schema.specs.Rows.{ways}
use Rattle.op_base.specs.Columns.{Row, IsIn}
use Rattle.op_base.specs.Keyed.{get_keys}
use Rattle.op_join.specs.declared.kind.JoinKind.TheVariants.{Inner, Left, Right, Full}
use Rattle.flow_graph.specs.declared.flow.Mark.{Mark}
use Rattle.flow_graph.specs.declared.flow.Mark.TheVariants as mark
use Rattle.flow_graph.specs.declared.flow.Method.{Method}
use Rattle.flow_graph.specs.declared.flow.Method.TheVariants as method
use Rattle.flow_graph.specs.declared.flow.OpSpec.{OpSpec}
use Rattle.flow_graph.specs.declared.op_kind.OpKind.{OpKind}
use Rattle.flow_graph.specs.declared.op_kind.OpKind.TheVariants as kind
use Rattle.flow_graph.specs.declared.parts.Stored.{Stored}
use Rattle.flow_graph.specs.declared.route.Choice.{Choice}
use Rattle.flow_graph.specs.Charts.{Chart, all_links, cols_at, first_width, into_seq, is_seq, keys_at, kind_form, link_at, links_from, links_into, no_link, no_op, op_at, parts_of, width_at}
use Rattle.flow_graph.specs.Charts.{first_fields as first_fields_into}
use Rattle.flow_graph.specs.Fitting.{FitsFields, KeepsFields, PassesFields}
use Rattle.flow_graph.specs.FlowShape.{FormPorts, IsShape, WrittenFits}
use Rattle.flow_graph.specs.Operators.{Op, group}
use Rattle.flow_derive.specs.LinkStates.{choice_at, written_or_same}
use Rattle.flow_score.specs.Scores.{choice_of, degree, degree_at as score_degree, is_same, no_choice}
use Rattle.flow_ops.specs.Keyed.{group_of}
use Rattle.flow_ops.specs.Kept.{GivesFields}
use Rattle.flow_shape.specs.Methods.{written_route}
use Rattle.op_shape.specs.Options.{IsKeyed, output_fields}
use Rattle.shape_base.specs.Fields.{first_fields}
use Rattle.flow_shape.specs.Ports.{may_have_out}
use Rattle.flow_shape.specs.Refusals.{fields_at, inputs_at, written_at}
use Rattle.flow_shape.proofs.Causing.{all_at}
use Rattle.flow_shape.proofs.Holding.{first_of}
use Rattle.flow_shape.proofs.Orders.{and_parts}
use Rattle.flow_sound.specs.Fitting.{ColumnsSuit, IsByRow}
use Rattle.flow_sound.specs.Kinds.{IsOfKind}
use Rattle.flow_sound.proofs.Fitting.{given_there}
use Rattle.flow_sound.proofs.Order.{leaves_it}
use Rattle.flow_sound.proofs.RowsStaying.{keyed_rows_stay, rows_stay}
use Rattle.flow_ops.specs.Kinds.{joined_by, looked_by, widths_into}
use Rattle.list_run.specs.Routed.{Joins}
use Rattle.list_run.specs.Runnable.{CanRun, IsBuilt, TakesWhole, degree_at}
use Rattle.osh_ends.specs.Built.{is_built, is_built_link, is_built_method, is_built_op, is_prop, needs_sort}
use Rattle.osh_sound.specs.Sound.{MarkFits}
use Rattle.run_feed.specs.Fed.{IsReady}
use Rattle.run_feed.proofs.Ports.{may_out}

all_true : {X : Type 0} (p : X → Bool) (xs : List X) (i : ℕ) (d : X) → list_all p xs ≡ true → i < length xs → p (get_or xs i d) ≡ true
all_true p [] i d e h = absurd (omega arith)
all_true p (x ∷ xs) zero d e h = (and_parts (p x) (list_all p xs) e).0
all_true p (x ∷ xs) (suc i) d e h = all_true p xs i d (and_parts (p x) (list_all p xs) e).1 (omega arith)

built_parts : (c : Chart) → is_built c.flow ≡ true → (list_all (λ (o : OpSpec). is_built_op o.kind) c.flow.ops ≡ true) × (list_all (is_built_link c.flow.ops) c.flow.links ≡ true)
built_parts c b = and_parts (list_all (λ (o : OpSpec). is_built_op o.kind) c.flow.ops) _ (and_parts (not c.flow.nopart && not c.flow.nosort) _ b).1

pub built_at : (c : Chart) → is_built c.flow ≡ true → (o : ℕ) → o < length c.flow.ops → is_built_op (op_at c o).kind ≡ true
built_at c b o h = all_true (λ (o : OpSpec). is_built_op o.kind) c.flow.ops o no_op (built_parts c b).0 h

pub mark_at : (c : Chart) (choices : List Choice) (nodes : ℕ) → IsReady c choices nodes → (o : ℕ) → o < length c.flow.ops → MarkFits (op_at c o).kind (op_at c o).mark
mark_at c choices nodes r o h = all_at (λ (o : OpSpec). MarkFits o.kind o.mark) c.flow.ops o no_op r.marks h

none_of : (ls : List ℕ) → (length ls == 0) ≡ true → ls ≡ []
none_of [] e = refl
none_of (l ∷ ls) e = absurd (omega (arith, eqb-true (length (l ∷ ls)) 0 e))

passed : (c : Chart) (o : ℕ) → 0 < length (links_into c o) → ((l : ℕ) → IsIn l (links_from c o) → fields_at c l ≡ first_fields (inputs_at c o)) → PassesFields c o
passed c o h g l i = g l i ∙ first_of (fields_at c) (links_into c o) [] 0 h

one_some : (n : ℕ) → n ≡ 1 → 0 < n
one_some n e = omega arith

ways_many : (keys : List Key) → length (ways keys) ≡ length keys
ways_many [] = refl
ways_many (k ∷ keys) = ap suc (ways_many keys)

as_many : (left right : List Key) → ways left ≡ ways right → length left ≡ length right
as_many left right e = sym (ways_many left) ∙ ap length e ∙ ways_many right

kind_runs : (c : Chart) (o : ℕ) (k : OpKind) (keys : List (List Key)) (columns : List ℕ) (stored : Option Stored) (width ins : ℕ) → is_built_op k ≡ true → MarkFits k (op_at c o).mark
    → may_have_out k ins (length (links_from c o)) ≡ true → FormPorts (kind_form k keys columns stored width) (length (links_into c o))
    → ((l : ℕ) → IsIn l (links_from c o) → fields_at c l ≡ output_fields k (inputs_at c o) (link_at c l).out) → (IsByRow k → KeepsFields c o)
    → (IsKeyed k → ColumnsSuit (first_fields_into c o) k (parts_of c o) × ((op : Op) → IsOfKind o k (parts_of c o) (widths_into c o) op → GivesFields c o op)) → IsBuilt c o k
kind_runs c o (kind.Import file schema delim fixed reject) keys columns stored width ins b m out ports g keeps keyed = ap is_seq m
kind_runs c o (kind.Export file delim fixed) keys columns stored width ins b m out ports g keeps keyed = none_of (links_from c o) out
kind_runs c o kind.Copy keys columns stored width ins b m out ports g keeps keyed = passed c o (one_some _ ports) g
kind_runs c o (kind.Filter test reject) keys columns stored width ins b m out ports g keeps keyed = keeps tt
kind_runs c o (kind.Transform set reject) keys columns stored width ins b m out ports g keeps keyed = keeps tt
kind_runs c o (kind.Modify keep drop rename) keys columns stored width ins b m out ports g keeps keyed = keeps tt
kind_runs c o (kind.Switch on cases reject) keys columns stored width ins b m out ports g keeps keyed = keeps tt
kind_runs c o (kind.Tsort key) keys columns stored width ins b m out ports g keeps keyed = passed c o (one_some _ ports) g
kind_runs c o (kind.Remdup key last) keys columns stored width ins b m out ports g keeps keyed = passed c o (one_some _ ports) g
kind_runs c o (kind.Group key hash results) keys columns stored width ins b m out ports g keeps keyed = ((keyed tt).1 (group (group_of o hash results (parts_of c o))) refl, (keyed tt).0.1)
kind_runs c o (kind.InnerJoin key) keys columns stored width ins b m out ports g keeps keyed = ((keyed tt).1 (joined_by Inner (parts_of c o) (widths_into c o)) refl, (keyed tt).0)
kind_runs c o (kind.LeftOuterJoin key) keys columns stored width ins b m out ports g keeps keyed = ((keyed tt).1 (joined_by Left (parts_of c o) (widths_into c o)) refl, (keyed tt).0)
kind_runs c o (kind.RightOuterJoin key) keys columns stored width ins b m out ports g keeps keyed = ((keyed tt).1 (joined_by Right (parts_of c o) (widths_into c o)) refl, (keyed tt).0)
kind_runs c o (kind.FullOuterJoin key) keys columns stored width ins b m out ports g keeps keyed = ((keyed tt).1 (joined_by Full (parts_of c o) (widths_into c o)) refl, (keyed tt).0)
kind_runs c o (kind.Lookup key missing) keys columns stored width ins b m out ports g keeps keyed = ((keyed tt).1 (looked_by o missing (parts_of c o) (widths_into c o)) refl, as_many (get_keys (keys_at c o) 0) (get_keys (keys_at c o) 1) (keyed tt).0)
kind_runs c o k keys columns stored width ins b m out ports g keeps keyed = cc

pub op_runs : (c : Chart) (choices : List Choice) (nodes : ℕ) → IsShape c → IsReady c choices nodes → (o : ℕ) → o < length c.flow.ops → IsBuilt c o (op_at c o).kind
op_runs c choices nodes s r o h =
    let out = may_out c o r.shape_of h in
    kind_runs c o (op_at c o).kind (keys_at c o) (cols_at c o) (get_or c.stored o None) (first_width c o) out.0 (built_at c r.built o h) (mark_at c choices nodes r o h) out.1 (s.ops o h).inputs
    (λ l i. let leaves = leaves_it c o l i in given_there c o l (r.shape_of.schemas.fits o h) leaves.1 leaves.0)
    (rows_stay c.flow [] c s r.shape_of o h)
    (keyed_rows_stay c.flow [] c s r.shape_of o h)

-- ---- degrees

not_stored : (k : OpKind) (m : Mark) → is_built_op k ≡ true → MarkFits k m → m ≡ mark.Stored → ⊥
not_stored (kind.Import file schema delim fixed reject) m b f e = let g = sym f ∙ e in cc
not_stored (kind.Export file delim fixed) m b f e = let g = sym f ∙ e in cc
not_stored kind.Copy m b f e = f e
not_stored (kind.Filter test reject) m b f e = f e
not_stored (kind.Transform set reject) m b f e = f e
not_stored (kind.Modify keep drop rename) m b f e = f e
not_stored (kind.Switch on cases reject) m b f e = f e
not_stored (kind.Tsort key) m b f e = f e
not_stored (kind.Remdup key last) m b f e = f e
not_stored (kind.Group key hash results) m b f e = f e
not_stored (kind.InnerJoin key) m b f e = f e
not_stored (kind.LeftOuterJoin key) m b f e = f e
not_stored (kind.RightOuterJoin key) m b f e = f e
not_stored (kind.FullOuterJoin key) m b f e = f e
not_stored (kind.Lookup key missing) m b f e = f e
not_stored k m b f e = cc

same_degree : (nodes : ℕ) (m : Mark) (stored : Option Stored) → (m ≡ mark.Stored → ⊥) → degree nodes m stored ≡ cond (is_seq m) 1 nodes
same_degree nodes mark.Seq stored h = refl
same_degree nodes mark.Par stored h = refl
same_degree nodes mark.Stored stored h = absurd (h refl)

degree_is : (c : Chart) (choices : List Choice) (nodes : ℕ) → IsReady c choices nodes → (o : ℕ) → o < length c.flow.ops → score_degree c nodes o ≡ degree_at c nodes o
degree_is c choices nodes r o h = same_degree nodes (op_at c o).mark (get_or c.stored o None) (not_stored (op_at c o).kind (op_at c o).mark (built_at c r.built o h) (mark_at c choices nodes r o h))

equal_by : (same : Bool) (a b : ℕ) → (same && not (a == b)) ≡ false → same ≡ true → a ≡ b
equal_by true a b e f = eqb-true a b (go (a == b) e)
  where
    go : (x : Bool) → not x ≡ false → x ≡ true
    go true g = refl
    go false g = cc
equal_by false a b e f = cc

joins_by : (m : Method) (from to sorts : Bool) (nodes width : ℕ) (fields : List Field) → is_built_method from to sorts m ≡ true
    → (is_same (written_or_same (written_route fields m)) ≡ true → cond from 1 nodes ≡ cond to 1 nodes)
    → WrittenFits to width (written_route fields m) → Joins to (written_or_same (written_route fields m)) (cond from 1 nodes) (cond to 1 nodes)
joins_by method.Auto from to sorts nodes width fields b e w = e refl
joins_by method.Same from to sorts nodes width fields b e w = e refl
joins_by method.RoundRobin from true sorts nodes width fields b e w = cc
joins_by method.RoundRobin from false sorts nodes width fields b e w = tt
joins_by method.Entire from true sorts nodes width fields b e w = let f = w.0 in cc
joins_by method.Entire from false sorts nodes width fields b e w = tt
joins_by (method.Hash names) from true sorts nodes width fields b e w = tt
joins_by (method.Hash names) from false sorts nodes width fields b e w = tt
joins_by method.Any from true sorts nodes width fields b e w = refl
joins_by method.Any from false sorts nodes width fields b e w = let f = w.0 in cc
joins_by m from to sorts nodes width fields b e w = cc

written_is : (c : Chart) (choices : List Choice) (nodes : ℕ) → IsReady c choices nodes → (l : ℕ) → l < length c.flow.links → get_or c.written l None ≡ written_at c l
written_is c choices nodes r l h = ap (λ ws. get_or ws l None) r.shape_of.written ∙ get_or-map-range_with_len (written_at c) 0 (length c.flow.links) l l None h (omega arith)

choice_is : (c : Chart) (choices : List Choice) (l : ℕ) → choices ≡ map (choice_at c) (all_links c) → l < length c.flow.links → choice_of choices l ≡ choice_at c l
choice_is c choices l e h = ap (λ cs. get_or cs l no_choice) e ∙ get_or-map-range_with_len (choice_at c) 0 (length c.flow.links) l l no_choice h (omega arith)

-- the degrees at both ends of a link that goes by `same`
equal_ends : (c : Chart) (choices : List Choice) (nodes : ℕ) → IsShape c → IsReady c choices nodes → (l : ℕ) → l < length c.flow.links → is_same (choice_at c l).method ≡ true → degree_at c nodes (link_at c l).from ≡ degree_at c nodes (link_at c l).to
equal_ends c choices nodes s r l h e =
    let from = (link_at c l).from in
    let to = (link_at c l).to in
    let chosen = ap (λ (x : Choice). is_same x.method) (choice_is c choices l r.verdict.choices_are h) in
    sym (degree_is c choices nodes r from (s.links l h).from)
    ∙ equal_by (is_same (choice_of choices l).method) (score_degree c nodes from) (score_degree c nodes to) (r.seats.equal l h) (chosen ∙ e)
    ∙ degree_is c choices nodes r to (s.links l h).to

built_method : (c : Chart) (choices : List Choice) (nodes : ℕ) → IsReady c choices nodes → (l : ℕ) → l < length c.flow.links → is_built_method (is_seq (op_at c (link_at c l).from).mark) (into_seq c l) (needs_sort (op_at c (link_at c l).to).kind) (link_at c l).method ≡ true
built_method c choices nodes r l h = (and_parts (is_prop (link_at c l).flag) _ (all_true (is_built_link c.flow.ops) c.flow.links l no_link (built_parts c r.built).1 h)).1

pub link_joins : (c : Chart) (choices : List Choice) (nodes : ℕ) → IsShape c → IsReady c choices nodes → (l : ℕ) → l < length c.flow.links → Joins (into_seq c l) (choice_at c l).method (degree_at c nodes (link_at c l).from) (degree_at c nodes (link_at c l).to)
link_joins c choices nodes s r l h =
    let written = written_is c choices nodes r l h in
    let from = is_seq (op_at c (link_at c l).from).mark in
    subst (λ w. Joins (into_seq c l) (written_or_same w) (degree_at c nodes (link_at c l).from) (degree_at c nodes (link_at c l).to)) (sym written)
    (joins_by (link_at c l).method from (into_seq c l) (needs_sort (op_at c (link_at c l).to).kind) nodes (width_at c l) (fields_at c l) (built_method c choices nodes r l h)
    (λ e. equal_ends c choices nodes s r l h (ap (λ w. is_same (written_or_same w)) written ∙ e))
    (subst (WrittenFits (into_seq c l) (width_at c l)) written (s.links l h).written))

-- a method that is built takes no remainder
takes_by : (m : Method) (from to sorts : Bool) (named fields : List Field) → is_built_method from to sorts m ≡ true → TakesWhole fields (written_or_same (written_route named m))
takes_by method.Auto from to sorts named fields b = tt
takes_by method.Same from to sorts named fields b = tt
takes_by method.RoundRobin from to sorts named fields b = tt
takes_by method.Entire from to sorts named fields b = tt
takes_by (method.Hash names) from to sorts named fields b = tt
takes_by method.Any from to sorts named fields b = tt
takes_by m from to sorts named fields b = cc

link_takes : (c : Chart) (choices : List Choice) (nodes : ℕ) → IsReady c choices nodes → (l : ℕ) → l < length c.flow.links → TakesWhole (get_or c.schemas l []) (choice_at c l).method
link_takes c choices nodes r l h =
    subst (λ w. TakesWhole (get_or c.schemas l []) (written_or_same w)) (sym (written_is c choices nodes r l h))
    (takes_by (link_at c l).method (is_seq (op_at c (link_at c l).from).mark) (into_seq c l) (needs_sort (op_at c (link_at c l).to).kind) (fields_at c l) (get_or c.schemas l []) (built_method c choices nodes r l h))

-- it can be run over rows of the columns of the links
pub can_run : (c : Chart) (choices : List Choice) (nodes : ℕ) (sources : List (List Row)) → IsShape c → IsReady c choices nodes → length sources ≡ length c.flow.links
    → ((l : ℕ) → l < length c.flow.links → All (FitsFields (get_or c.schemas l [])) (get_or sources l [])) → CanRun c choices nodes sources
can_run c choices nodes sources s r given rows = record {
  chosen = r.verdict.choices_are;
  some = r.some;
  built = op_runs c choices nodes s r;
  joins = link_joins c choices nodes s r;
  whole = link_takes c choices nodes r;
  given = given;
  rows = rows;
}
