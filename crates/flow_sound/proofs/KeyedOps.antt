-- Groups, joins and lookups of a shaped flow, whatever their kind.
use Rattle.std.proofs.Common.{◌≡◌, ◌<◌, ℕ, Bool, List, [], ◌∷◌, length, map, get_or, refl, sym, ap, ap₂, ◌∙◌, subst, arith, Option, None}
use Rattle.std.specs.List.{AllByRecursion, list_any}
use Rattle.std.proofs.lemmas.List.{length-map}
use Rattle.ds_schema.specs.declared.key.Key.{Key}
use Rattle.ds_schema.specs.declared.schema.Field.{Field}
use Rattle.ds_schema.specs.Rows.{KeysDiffer}
use Rattle.op_base.specs.Columns.{Row, all_columns}
use Rattle.op_base.specs.Meanings.{Looking, input}
use Rattle.op_base.specs.Keyed.{get_keys}
use Rattle.op_base.specs.declared.missing.Missing.{Missing}
use Rattle.op_join.specs.declared.kind.JoinKind.{JoinKind}
use Rattle.op_join.specs.declared.kind.JoinKind.TheVariants as kept
use Rattle.op_join.specs.Joining.{joining}
use Rattle.flow_graph.specs.declared.op_kind.OpKind.{OpKind}
use Rattle.flow_graph.specs.declared.op_kind.OpKind.TheVariants as kind
use Rattle.flow_graph.specs.declared.parts.OpParts.{OpParts}
use Rattle.flow_graph.specs.declared.parts.Stored.{Stored}
use Rattle.flow_graph.specs.declared.flow.Flow.{Flow}
use Rattle.flow_graph.specs.Charts.{Chart, first_fields as fields_into, first_width, kind_form, links_into, op_at, parts_of}
use Rattle.flow_graph.specs.FlowShape.{FormPorts, IsShape}
use Rattle.flow_graph.specs.Forms.{form, group as group_form, lookup as lookup_form}
use Rattle.flow_graph.specs.Operators.{Op, group, join, lookup, result}
use Rattle.flow_graph.specs.Runs.{result_on}
use Rattle.flow_graph.specs.Shapes.{FitsPorts, HasPort, IsShaped, KeysDistinct}
use Rattle.flow_ops.specs.Keyed.{aggs_of, group_of, lookup_of}
use Rattle.flow_ops.specs.Kinds.{joined_by}
use Rattle.op_group.specs.Results.{in_row_order}
use Rattle.shape_base.specs.Causes.{first_cause}
use Rattle.keyed_shape.specs.Keyed.{result_causes}
use Rattle.shape_base.specs.Naming.{key_columns, key_cause}
use Rattle.op_shape.specs.Options.{IsFed, IsKeyed, both_keys, operator_parts, option_causes, output_fields}
use Rattle.shape_base.specs.Fields.{first_fields, second_fields}
use Rattle.shape_base.specs.declared.fault.ShapeWhy.TheVariants as why
use Rattle.shape_base.proofs.Firsts.{none_head}
use Rattle.keyed_shape.proofs.Both.{AreBoth, are_both}
use Rattle.shape_base.proofs.Held.{held}
use Rattle.flow_shape.specs.Refusals.{IsShapeOf, fields_at, inputs_at}
use Rattle.flow_sound.specs.Fitting.{RowsFit}
use Rattle.flow_sound.specs.Kinds.{IsOfKind}
use Rattle.flow_sound.proofs.ByKeys.{Come}
use Rattle.flow_sound.proofs.ByRow.{options_sound, parts_are_at}
use Rattle.flow_sound.proofs.Groups.{group_fits, group_fits_on, group_shaped, sees_as}
use Rattle.flow_sound.proofs.Joins.{join_fits, join_fits_on, join_long, joined, made_fields, same_ways}
use Rattle.flow_sound.proofs.Lookups.{lookup_fits, lookup_long, looking_up, passes_as}

-- what the shape of a flow says of an operator by keys
pub record WorksByKey (k : OpKind) (ins : List (List Field)) (parts : OpParts) : Type 0 where
  pub ports : IsFed k (length ins)
  pub parts_are : parts ≡ operator_parts k ins
  pub sound : first_cause (option_causes k ins) ≡ None
  pub differ : AllByRecursion KeysDiffer parts.keys

pub fed_by : (k : OpKind) (parts : OpParts) (stored : Option Stored) (width n : ℕ) → IsKeyed k → FormPorts (kind_form k parts.keys parts.cols stored width) n → IsFed k n
fed_by (kind.Group key hash results) parts stored width n h p = p
fed_by (kind.InnerJoin key) parts stored width n h p = p
fed_by (kind.LeftOuterJoin key) parts stored width n h p = p
fed_by (kind.RightOuterJoin key) parts stored width n h p = p
fed_by (kind.FullOuterJoin key) parts stored width n h p = p
fed_by (kind.Lookup key missing) parts stored width n h p = p
fed_by k parts stored width n h p = absurd h

pub keyed_at : (flow : Flow) (dict : List Stored) (c : Chart) → IsShape c → IsShapeOf flow dict c → (o : ℕ) → o < length c.flow.ops → IsKeyed (op_at c o).kind → WorksByKey (op_at c o).kind (inputs_at c o) (parts_of c o)
keyed_at flow dict c s f o b h = record {
  ports = subst (IsFed (op_at c o).kind) (sym (length-map (links_into c o) (fields_at c))) (fed_by (op_at c o).kind (parts_of c o) (get_or c.stored o None) (first_width c o) (length (links_into c o)) h (s.ops o b).inputs);
  parts_are = parts_are_at flow dict c f o b;
  sound = options_sound flow dict c f o b;
  differ = (s.ops o b).keys_differ;
}

-- an operator by keys has an input
some_fed : (k : OpKind) (n : ℕ) → IsKeyed k → IsFed k n → 0 < n
some_fed (kind.Group key hash results) n h p = omega (arith, p)
some_fed (kind.InnerJoin key) n h p = omega (arith, p)
some_fed (kind.LeftOuterJoin key) n h p = omega (arith, p)
some_fed (kind.RightOuterJoin key) n h p = omega (arith, p)
some_fed (kind.FullOuterJoin key) n h p = omega (arith, p)
some_fed (kind.Lookup key missing) n h p = omega (arith, p)
some_fed k n h p = absurd h

first_mapped : (c : Chart) (ls : List ℕ) → 0 < length ls → first_fields (map (fields_at c) ls) ≡ fields_at c (get_or ls 0 0)
first_mapped c [] p = absurd (omega (arith, p))
first_mapped c (l ∷ ls) p = refl

pub first_input : (c : Chart) (o : ℕ) → IsKeyed (op_at c o).kind → WorksByKey (op_at c o).kind (inputs_at c o) (parts_of c o) → first_fields (inputs_at c o) ≡ fields_into c o
first_input c o h w = first_mapped c (links_into c o) (subst (λ n. 0 < n) (length-map (links_into c o) (fields_at c)) (some_fed (op_at c o).kind (length (inputs_at c o)) h w.ports))

pub first_long : (ins : List (List Field)) → get_or (map length ins) 0 0 ≡ length (first_fields ins)
first_long [] = refl
first_long (fields ∷ ins) = refl

second_long : (ins : List (List Field)) → get_or (map length ins) 1 0 ≡ length (second_fields ins)
second_long [] = refl
second_long (fields ∷ []) = refl
second_long (fields ∷ (more ∷ ins)) = refl

-- ---- which operators these are

-- the keys of two inputs
abbrev HasBoth : List (List ℕ × Bool) → List (List Field) → OpParts → Type 0
HasBoth key ins parts = parts.keys ≡ both_keys key ins

join_is : (how : JoinKind) (key : List (List ℕ × Bool)) (ins : List (List Field)) (parts : OpParts) (op : Op) → HasBoth key ins parts → op ≡ joined_by how parts (map length ins) → op ≡ join (joined how key (first_fields ins) (second_fields ins))
join_is how key ins parts op e h =
    h
    ∙ ap (λ ks. join (joining how (get_keys ks 0) (get_keys ks 1) (get_or (map length ins) 0 0) (get_or (map length ins) 1 0))) e
    ∙ ap₂ (λ m n. join (joining how (key_columns (first_fields ins) key) (key_columns (second_fields ins) key) m n)) (first_long ins) (second_long ins)

abbrev with_keys : ℕ → Missing → List (List Key) → ℕ → ℕ → Looking
with_keys o missing keys main reference = lookup_of o missing (record { keys = keys; cols = []; exprs = [] }) main reference

lookup_is : (o : ℕ) (missing : Missing) (key : List (List ℕ × Bool)) (ins : List (List Field)) (parts : OpParts) (op : Op) → HasBoth key ins parts → op ≡ lookup (lookup_of o missing parts (get_or (map length ins) 0 0) (get_or (map length ins) 1 0)) → op ≡ lookup (looking_up o missing key (first_fields ins) (second_fields ins))
lookup_is o missing key ins parts op e h =
    h
    ∙ ap (λ ks. lookup (with_keys o missing ks (get_or (map length ins) 0 0) (get_or (map length ins) 1 0))) e
    ∙ ap₂ (λ m n. lookup (with_keys o missing (both_keys key ins) m n)) (first_long ins) (second_long ins)

-- ---- forms

pub keyed_form : (o : ℕ) (k : OpKind) (parts : OpParts) (ins : List (List Field)) (op : Op) (stored : Option Stored) → IsKeyed k → IsOfKind o k parts (map length ins) op → WorksByKey k ins parts → form op ≡ kind_form k parts.keys parts.cols stored (length (first_fields ins))
keyed_form o (kind.Group key hash results) parts ins op stored b h w =
    ap form h ∙ ap (group_form (get_keys parts.keys 0) hash) (ap (λ (p : OpParts). list_any in_row_order (aggs_of results p.cols)) w.parts_are ∙ sees_as results (first_fields ins))
keyed_form o (kind.InnerJoin key) parts ins op stored b h w = ap form h
keyed_form o (kind.LeftOuterJoin key) parts ins op stored b h w = ap form h
keyed_form o (kind.RightOuterJoin key) parts ins op stored b h w = ap form h
keyed_form o (kind.FullOuterJoin key) parts ins op stored b h w = ap form h
keyed_form o (kind.Lookup key missing) parts ins op stored b h w =
    ap form h
    ∙ ap (lookup_form (get_keys parts.keys 0) (get_keys parts.keys 1)) (passes_as (lookup_of o missing parts (get_or (map length ins) 0 0) (get_or (map length ins) 1 0)) (length (first_fields ins)) (ap all_columns (first_long ins)))
keyed_form o k parts ins op stored b h w = absurd b

-- ---- shapes

-- an operator with inputs of these fields and outputs of these widths
abbrev pub SuitsWith : List (List Field) → ℕ → (ℕ → ℕ) → Op → Type 0
SuitsWith ins n outs op = IsShaped op (map length ins) outs × FitsPorts op n × KeysDistinct op × ((q : ℕ) → HasPort op q)

abbrev DifferOnBoth : List (List ℕ × Bool) → List (List Field) → Type 0
DifferOnBoth key ins = KeysDiffer (key_columns (first_fields ins) key) × KeysDiffer (key_columns (second_fields ins) key)

on_both : (key : List (List ℕ × Bool)) (ins : List (List Field)) (parts : OpParts) → HasBoth key ins parts → AllByRecursion KeysDiffer parts.keys → DifferOnBoth key ins
on_both key ins parts e d = let h = subst (AllByRecursion KeysDiffer) e d in (h.0, h.1.0)

join_suits : (how : JoinKind) (key : List (List ℕ × Bool)) (ins : List (List Field)) (parts : OpParts) (n : ℕ) (op : Op) → HasBoth key ins parts → op ≡ joined_by how parts (map length ins) → n ≡ 2 → AllByRecursion KeysDiffer parts.keys
    → SuitsWith ins n (λ q. length (made_fields how key (first_fields ins) (second_fields ins))) op
join_suits how key ins parts n op e h p d =
    let left = first_fields ins in
    let right = second_fields ins in
    subst (SuitsWith ins n (λ q. length (made_fields how key left right))) (sym (join_is how key ins parts op e h))
    ((same_ways key left right, λ q. join_long how key left right), p, on_both key ins parts e d, λ q. tt)

pub keyed_suits : (o : ℕ) (k : OpKind) (parts : OpParts) (ins : List (List Field)) (n : ℕ) (op : Op) → IsKeyed k → IsOfKind o k parts (map length ins) op → IsFed k n → WorksByKey k ins parts → SuitsWith ins n (λ q. length (output_fields k ins q)) op
keyed_suits o (kind.Group key hash results) parts ins n op b h p w =
    subst (SuitsWith ins n (λ q. length (output_fields (kind.Group key hash results) ins q))) (sym (h ∙ ap (λ (ps : OpParts). group (group_of o hash results ps)) w.parts_are)) (group_shaped o hash key results (first_fields ins), p, tt, λ q. tt)
keyed_suits o (kind.InnerJoin key) parts ins n op b h p w = join_suits kept.Inner key ins parts n op (ap (λ (ps : OpParts). ps.keys) w.parts_are) h p w.differ
keyed_suits o (kind.LeftOuterJoin key) parts ins n op b h p w = join_suits kept.Left key ins parts n op (ap (λ (ps : OpParts). ps.keys) w.parts_are) h p w.differ
keyed_suits o (kind.RightOuterJoin key) parts ins n op b h p w = join_suits kept.Right key ins parts n op (ap (λ (ps : OpParts). ps.keys) w.parts_are) h p w.differ
keyed_suits o (kind.FullOuterJoin key) parts ins n op b h p w = join_suits kept.Full key ins parts n op (ap (λ (ps : OpParts). ps.keys) w.parts_are) h p w.differ
keyed_suits o (kind.Lookup key missing) parts ins n op b h p w =
    let keys = ap (λ (ps : OpParts). ps.keys) w.parts_are in
    subst (SuitsWith ins n (λ q. length (output_fields (kind.Lookup key missing) ins q))) (sym (lookup_is o missing key ins parts op keys h))
    ((ap all_columns (sym (first_long ins)), lookup_long o missing key (first_fields ins) (second_fields ins), λ q. sym (first_long ins)), p, on_both key ins parts keys w.differ, λ q. tt)
keyed_suits o k parts ins n op b h p w = absurd b

-- ---- rows

-- the rows of each input fit its fields
abbrev pub EachFits : List (List Field) → List (List Row) → Type 0
EachFits ins inputs = (i : ℕ) → RowsFit (get_or ins i []) (input i inputs)

one_comes : (first : List Field) (inputs : List (List Row)) → RowsFit first (input 0 inputs) → Come (first ∷ []) inputs
one_comes first [] h = tt
one_comes first (rows ∷ inputs) h = (h, tt)

two_come : (first second : List Field) (inputs : List (List Row)) → RowsFit first (input 0 inputs) → RowsFit second (input 1 inputs) → Come (first ∷ (second ∷ [])) inputs
two_come first second [] h k = tt
two_come first second (rows ∷ []) h k = (h, tt)
two_come first second (rows ∷ (more ∷ inputs)) h k = (h, (k, tt))

-- on whole lists, and on those of a partition
abbrev pub Gives : List Field → Op → ℕ → List (List Row) → Type 0
Gives made op q inputs = RowsFit made (result op q inputs) × RowsFit made (result_on op q 0 inputs)

join_gives : (how : JoinKind) (key : List (List ℕ × Bool)) (ins : List (List Field)) (parts : OpParts) (op : Op) (q : ℕ) (inputs : List (List Row)) → HasBoth key ins parts → op ≡ joined_by how parts (map length ins) → AreBoth key (first_fields ins) (second_fields ins) → EachFits ins inputs
    → Gives (made_fields how key (first_fields ins) (second_fields ins)) op q inputs
join_gives how key ins parts op q inputs e h both f =
    let left = first_fields ins in
    let right = second_fields ins in
    let come = two_come left right inputs (f 0) (f 1) in
    subst (λ (p : Op). Gives (made_fields how key left right) p q inputs) (sym (join_is how key ins parts op e h)) (join_fits how key left right both q inputs come, join_fits_on how key left right both q inputs come)

pub keyed_gives : (o : ℕ) (k : OpKind) (parts : OpParts) (ins : List (List Field)) (op : Op) (q : ℕ) (inputs : List (List Row)) → IsKeyed k → IsOfKind o k parts (map length ins) op → WorksByKey k ins parts → EachFits ins inputs → Gives (output_fields k ins q) op q inputs
keyed_gives o (kind.Group key hash results) parts ins op q inputs b h w f =
    let fields = first_fields ins in
    let come = one_comes fields inputs (f 0) in
    let causes = none_head (key_cause key fields) (result_causes results fields) w.sound in
    let has = held _ why.Field causes.0 in
    subst (λ (p : Op). Gives (output_fields (kind.Group key hash results) ins q) p q inputs) (sym (h ∙ ap (λ (ps : OpParts). group (group_of o hash results ps)) w.parts_are))
    (group_fits o hash key results fields has causes.1 q inputs come, group_fits_on o hash key results fields has causes.1 q inputs come)
keyed_gives o (kind.InnerJoin key) parts ins op q inputs b h w f = join_gives kept.Inner key ins parts op q inputs (ap (λ (ps : OpParts). ps.keys) w.parts_are) h (are_both key (first_fields ins) (second_fields ins) [] w.sound) f
keyed_gives o (kind.LeftOuterJoin key) parts ins op q inputs b h w f = join_gives kept.Left key ins parts op q inputs (ap (λ (ps : OpParts). ps.keys) w.parts_are) h (are_both key (first_fields ins) (second_fields ins) [] w.sound) f
keyed_gives o (kind.RightOuterJoin key) parts ins op q inputs b h w f = join_gives kept.Right key ins parts op q inputs (ap (λ (ps : OpParts). ps.keys) w.parts_are) h (are_both key (first_fields ins) (second_fields ins) [] w.sound) f
keyed_gives o (kind.FullOuterJoin key) parts ins op q inputs b h w f = join_gives kept.Full key ins parts op q inputs (ap (λ (ps : OpParts). ps.keys) w.parts_are) h (are_both key (first_fields ins) (second_fields ins) [] w.sound) f
keyed_gives o (kind.Lookup key missing) parts ins op q inputs b h w f =
    let keys = ap (λ (ps : OpParts). ps.keys) w.parts_are in
    let main = first_fields ins in
    let reference = second_fields ins in
    let fits = lookup_fits o missing key main reference q inputs (two_come main reference inputs (f 0) (f 1)) in
    subst (λ (p : Op). Gives (output_fields (kind.Lookup key missing) ins q) p q inputs) (sym (lookup_is o missing key ins parts op keys h)) (fits, fits)
keyed_gives o k parts ins op q inputs b h w f = absurd b
