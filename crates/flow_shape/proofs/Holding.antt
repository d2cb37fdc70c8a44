-- What is asked of a shaped flow holds of the shape of a flow.
use Rattle.std.proofs.Common.{◌≡◌, ◌≤◌, ◌<◌, ◌+◌, ◌*◌, ◌^◌, ◌==◌, ◌++◌, ◌∷◌, [], ◌||◌, not, ℕ, zero, suc, List, Bool, true, false, Option, None, cond, refl, sym, ap, ◌∙◌, arith, length, map, get_or, subst, count_by}
use Rattle.std.specs.List.{AllByRecursion, filter, range_with_len}
use Rattle.std.proofs.lemmas.Bool.{eqb-true, eqb-false}
use Rattle.std.proofs.lemmas.List.Sums.{sum_by-cons}
use Rattle.op_base.proofs.ColumnLaws.{in_range}
use Rattle.op_base.specs.Columns.{IsIn, Lies, all_columns}
use Rattle.op_base.specs.Keyed.{get_keys}
use Rattle.ds_schema.specs.declared.schema.Field.{Field}
use Rattle.ds_schema.specs.declared.key.Key.{Key}
use Rattle.ds_schema.specs.Rows.{cols, KeysDiffer}
use Rattle.flow_graph.specs.Charts.{Chart, no_link, no_op, kind_form, cols_at}
use Rattle.flow_graph.specs.declared.flow.Flow.{Flow}
use Rattle.flow_graph.specs.declared.flow.LinkSpec.{LinkSpec}
use Rattle.flow_graph.specs.declared.flow.Method.{Method}
use Rattle.flow_graph.specs.declared.flow.Method.TheVariants as method
use Rattle.flow_graph.specs.declared.op_kind.OpKind.{OpKind}
use Rattle.flow_graph.specs.declared.op_kind.OpKind.TheVariants as kind
use Rattle.flow_graph.specs.declared.parts.Stored.{Stored}
use Rattle.flow_graph.specs.FlowShape.{WrittenFits, FormHasPort, FormFills, FormPorts, ColumnsLie, FewKept}
use Rattle.shape_base.specs.declared.fault.ShapeWhy.TheVariants as why
use Rattle.shape_base.specs.Causes.{first_cause, cause_if}
use Rattle.flow_shape.specs.Lowest.{HasNone}
use Rattle.flow_shape.specs.Methods.{may_stand, all_named, written_route}
use Rattle.shape_base.specs.Naming.{is_named, has_column, has_columns, has_keys, column, columns, key_columns}
use Rattle.op_shape.specs.Options.{IsKnown, KeysDistinct, option_causes, output_causes, operator_keys}
use Rattle.shape_base.specs.Fields.{first_fields}
use Rattle.flow_shape.specs.Ports.{may_have_in, count_in, WrongPorts}
use Rattle.shape_base.proofs.Held.{column_in, names_lie, keys_lie}
use Rattle.flow_shape.specs.Links.{AreWithin}
use Rattle.flow_shape.specs.Refusals.{HasOnlyKnown}
use Rattle.flow_shape.proofs.Causing.{known_at}
use Rattle.flow_shape.proofs.Given.{has_ports}

-- a written route stands where it may
pub route_fits : (seq : Bool) (fields : List Field) (m : Method) → may_stand seq m ≡ true → all_named fields m ≡ true → WrittenFits seq (length fields) (written_route fields m)
route_fits seq fields method.Auto s n = tt
route_fits true fields method.Same s n = (refl, tt)
route_fits false fields method.Same s n = (refl, tt)
route_fits true fields method.RoundRobin s n = (refl, tt)
route_fits false fields method.RoundRobin s n = (refl, tt)
route_fits true fields method.Entire s n = cc
route_fits false fields method.Entire s n = (refl, tt)
route_fits true fields (method.Hash names) s n = cc
route_fits false fields (method.Hash names) s n = (refl, names_lie fields names n)
route_fits true fields (method.Modulus name) s n = cc
route_fits false fields (method.Modulus name) s n = (refl, column_in fields name n)
route_fits true fields method.Any s n = (refl, tt)
route_fits false fields method.Any s n = cc
route_fits true fields method.Ordered s n = (refl, tt)
route_fits false fields method.Ordered s n = cc
route_fits true fields (method.Merge keys) s n = (refl, keys_lie fields keys n)
route_fits false fields (method.Merge keys) s n = cc

-- what a checker sees of a known operator has the number of inputs that it may have
pub form_ports : (k : OpKind) (keys : List (List Key)) (cs : List ℕ) (stored : Option Stored) (width n : ℕ) → IsKnown k → may_have_in k n ≡ true → FormPorts (kind_form k keys cs stored width) n
form_ports (kind.Import file schema delim fixed reject) keys cs stored width n h e = eqb-true n 0 e
form_ports (kind.Export file delim fixed) keys cs stored width n h e = eqb-true n 1 e
form_ports kind.Copy keys cs stored width n h e = eqb-true n 1 e
form_ports (kind.Filter test reject) keys cs stored width n h e = eqb-true n 1 e
form_ports (kind.Transform set reject) keys cs stored width n h e = eqb-true n 1 e
form_ports (kind.Modify keep drop rename) keys cs stored width n h e = eqb-true n 1 e
form_ports (kind.Switch on cases reject) keys cs stored width n h e = eqb-true n 1 e
form_ports (kind.Tsort key) keys cs stored width n h e = eqb-true n 1 e
form_ports (kind.Remdup key last) keys cs stored width n h e = eqb-true n 1 e
form_ports (kind.Group key hash results) keys cs stored width n h e = eqb-true n 1 e
form_ports (kind.InnerJoin key) keys cs stored width n h e = eqb-true n 2 e
form_ports (kind.LeftOuterJoin key) keys cs stored width n h e = eqb-true n 2 e
form_ports (kind.RightOuterJoin key) keys cs stored width n h e = eqb-true n 2 e
form_ports (kind.FullOuterJoin key) keys cs stored width n h e = eqb-true n 2 e
form_ports (kind.Lookup key missing) keys cs stored width n h e = eqb-true n 2 e
form_ports k keys cs stored width n h e = absurd h

pub form_out : (k : OpKind) (keys : List (List Key)) (cs : List ℕ) (stored : Option Stored) (width q : ℕ) → IsKnown k → FormHasPort (kind_form k keys cs stored width) q
form_out (kind.Import file schema delim fixed reject) keys cs stored width q h = tt
form_out (kind.Export file delim fixed) keys cs stored width q h = tt
form_out kind.Copy keys cs stored width q h = tt
form_out (kind.Filter test reject) keys cs stored width q h = tt
form_out (kind.Transform set reject) keys cs stored width q h = tt
form_out (kind.Modify keep drop rename) keys cs stored width q h = tt
form_out (kind.Switch on cases reject) keys cs stored width q h = tt
form_out (kind.Tsort key) keys cs stored width q h = tt
form_out (kind.Remdup key last) keys cs stored width q h = tt
form_out (kind.Group key hash results) keys cs stored width q h = tt
form_out (kind.InnerJoin key) keys cs stored width q h = tt
form_out (kind.LeftOuterJoin key) keys cs stored width q h = tt
form_out (kind.RightOuterJoin key) keys cs stored width q h = tt
form_out (kind.FullOuterJoin key) keys cs stored width q h = tt
form_out (kind.Lookup key missing) keys cs stored width q h = tt
form_out k keys cs stored width q h = absurd h

pub form_fills : (k : OpKind) (keys : List (List Key)) (cs : List ℕ) (stored : Option Stored) (width w : ℕ) → IsKnown k → FormFills (kind_form k keys cs stored width) w
form_fills (kind.Import file schema delim fixed reject) keys cs stored width w h = tt
form_fills (kind.Export file delim fixed) keys cs stored width w h = tt
form_fills kind.Copy keys cs stored width w h = tt
form_fills (kind.Filter test reject) keys cs stored width w h = tt
form_fills (kind.Transform set reject) keys cs stored width w h = tt
form_fills (kind.Modify keep drop rename) keys cs stored width w h = tt
form_fills (kind.Switch on cases reject) keys cs stored width w h = tt
form_fills (kind.Tsort key) keys cs stored width w h = tt
form_fills (kind.Remdup key last) keys cs stored width w h = tt
form_fills (kind.Group key hash results) keys cs stored width w h = tt
form_fills (kind.InnerJoin key) keys cs stored width w h = tt
form_fills (kind.LeftOuterJoin key) keys cs stored width w h = tt
form_fills (kind.RightOuterJoin key) keys cs stored width w h = tt
form_fills (kind.FullOuterJoin key) keys cs stored width w h = tt
form_fills (kind.Lookup key missing) keys cs stored width w h = tt
form_fills k keys cs stored width w h = absurd h

pub first_of : {X : Type 0} (f : ℕ → X) (ns : List ℕ) (d : X) (i : ℕ) → i < length ns → get_or (map f ns) 0 d ≡ f (get_or ns 0 0)
first_of f [] d i h = absurd (omega arith)
first_of f (n ∷ ns) d i h = refl

pub each_of : {X : Type 0} (f : ℕ → X) (ns : List ℕ) (d : X) (i : ℕ) → i < length ns → get_or (map f ns) i d ≡ f (get_or ns i 0)
each_of f [] d i h = absurd (omega arith)
each_of f (n ∷ ns) d zero h = refl
each_of f (n ∷ ns) d (suc i) h = each_of f ns d i (omega arith)

-- few links lead into few operators
abbrev sum_in : List LinkSpec → ℕ → ℕ
sum_in links zero = 0
sum_in links (suc n) = count_in links n + sum_in links n

abbrev hits : ℕ → ℕ → ℕ
hits t zero = 0
hits t (suc n) = cond (t == n) 1 0 + hits t n

hit_by : (x : Bool) (t n h : ℕ) → (t == n) ≡ x → t < suc n → (t < n → 1 ≤ h) → 1 ≤ cond x 1 0 + h
hit_by true t n h e w go = omega arith
hit_by false t n h e w go = let apart = eqb-false t n e in let k = go (omega (arith, apart, w)) in omega (arith, k)

one_hit : (t n : ℕ) → t < n → 1 ≤ hits t n
one_hit t zero h = absurd (omega arith)
one_hit t (suc n) h = hit_by (t == n) t n (hits t n) refl h (one_hit t n)

sum_cons : (l : LinkSpec) (links : List LinkSpec) (n : ℕ) → sum_in (l ∷ links) n ≡ hits l.to n + sum_in links n
sum_cons l links zero = refl
sum_cons l links (suc n) = let head = sum_by-cons (λ (x : LinkSpec). cond (x.to == n) 1 0) l links in let rest = sum_cons l links n in omega (arith, head, rest)

covered : (n : ℕ) (links : List LinkSpec) → AreWithin n links → length links ≤ sum_in links n
covered n [] w = omega arith
covered n (l ∷ links) w = let one = one_hit l.to n w.0.1 in let rest = covered n links w.1 in rw (sum_cons l links n) (let k : suc (length links) ≤ hits l.to n + sum_in links n = omega (arith, one, rest) in k)

few_in : (links : List LinkSpec) (n : ℕ) → ((o : ℕ) → o < n → count_in links o ≤ 16) → sum_in links n ≤ 16 * n
few_in links zero h = omega arith
few_in links (suc n) h = let here = h n (omega arith) in let rest = few_in links n (λ o k. h o (omega (arith, k))) in omega (arith, here, rest)

known_in : (k : OpKind) (n : ℕ) → IsKnown k → may_have_in k n ≡ true → n ≤ 16
known_in (kind.Import file schema delim fixed reject) n h e = omega (arith, eqb-true n 0 e)
known_in (kind.Export file delim fixed) n h e = omega (arith, eqb-true n 1 e)
known_in kind.Copy n h e = omega (arith, eqb-true n 1 e)
known_in (kind.Filter test reject) n h e = omega (arith, eqb-true n 1 e)
known_in (kind.Transform set reject) n h e = omega (arith, eqb-true n 1 e)
known_in (kind.Modify keep drop rename) n h e = omega (arith, eqb-true n 1 e)
known_in (kind.Switch on cases reject) n h e = omega (arith, eqb-true n 1 e)
known_in (kind.Tsort key) n h e = omega (arith, eqb-true n 1 e)
known_in (kind.Remdup key last) n h e = omega (arith, eqb-true n 1 e)
known_in (kind.Group key hash results) n h e = omega (arith, eqb-true n 1 e)
known_in (kind.InnerJoin key) n h e = omega (arith, eqb-true n 2 e)
known_in (kind.LeftOuterJoin key) n h e = omega (arith, eqb-true n 2 e)
known_in (kind.RightOuterJoin key) n h e = omega (arith, eqb-true n 2 e)
known_in (kind.FullOuterJoin key) n h e = omega (arith, eqb-true n 2 e)
known_in (kind.Lookup key missing) n h e = omega (arith, eqb-true n 2 e)
known_in k n h e = absurd h

pub few_links : (flow : Flow) → HasOnlyKnown flow → HasNone (length flow.ops) (WrongPorts flow) → AreWithin (length flow.ops) flow.links → length flow.ops ≤ 200 → length flow.links < 2 ^ 32
few_links flow known none w few =
    let most = covered (length flow.ops) flow.links w in
    let each = few_in flow.links (length flow.ops) (λ o h. known_in (get_or flow.ops o no_op).kind (count_in flow.links o) (known_at flow o known h) (has_ports flow o none h).0) in
    omega (arith, most, each, few)
