-- What a shape says of an operator's inputs, by its kind.
use Rattle.std.proofs.Common.{◌≡◌, ℕ, ◌<◌, refl, subst, List, [], ◌∷◌, inl, length, get_or, None, arith}
use Rattle.op_base.specs.Columns.{IsIn}
use Rattle.flow_graph.specs.declared.op_kind.OpKind.{OpKind}
use Rattle.flow_graph.specs.declared.op_kind.OpKind.TheVariants as kind
use Rattle.flow_graph.specs.Charts.{Chart, link_at, links_into, op_at, keys_at, cols_at, first_width, kind_form}
use Rattle.flow_graph.specs.FlowShape.{IsShape, FormPorts}
use Rattle.flow_rules.specs.Exports.{input_of}
use Rattle.list_run.specs.Runnable.{IsBuilt}
use Rattle.list_run.proofs.Links.{in_into}

pub some_member : (xs : List ℕ) → 0 < length xs → IsIn (get_or xs 0 0) xs
some_member [] m = absurd (omega (arith, m))
some_member (x ∷ xs) m = inl refl

pub one_member : (xs : List ℕ) → length xs ≡ 1 → xs ≡ get_or xs 0 0 ∷ []
one_member [] e = absurd (omega (arith, e))
one_member (x ∷ []) e = refl
one_member (x ∷ (y ∷ xs)) e = absurd (omega (arith, e))

pub no_member : (xs : List ℕ) → length xs ≡ 0 → xs ≡ []
no_member [] e = refl
no_member (x ∷ xs) e = absurd (omega (arith, e))

pub only_input : (c : Chart) (o : ℕ) → length (links_into c o) ≡ 1 → (input_of c o < length c.flow.links) × ((link_at c (input_of c o)).to ≡ o)
only_input c o e = in_into c o (input_of c o) (some_member (links_into c o) (omega (arith, e)))

pub ports_at : (c : Chart) → IsShape c → (o : ℕ) → o < length c.flow.ops → (k : OpKind) → (op_at c o).kind ≡ k → FormPorts (kind_form k (keys_at c o) (cols_at c o) (get_or c.stored o None) (first_width c o)) (length (links_into c o))
ports_at c shape o m k e = subst (λ k. FormPorts (kind_form k (keys_at c o) (cols_at c o) (get_or c.stored o None) (first_width c o)) (length (links_into c o))) e (shape.ops o m).inputs

-- neither an import nor an export
abbrev pub IsBetween : OpKind → Type 0
IsBetween (kind.Import file schema delim fixed reject) = ⊥
IsBetween (kind.Export file delim fixed) = ⊥
IsBetween k = Unit {0}

pub some_of_one : (n : ℕ) → n ≡ 1 → 0 < n
some_of_one n e = omega (arith, e)

some_of_two : (n : ℕ) → n ≡ 2 → 0 < n
some_of_two n e = omega (arith, e)

pub two_members : (xs : List ℕ) → length xs ≡ 2 → xs ≡ get_or xs 0 0 ∷ (get_or xs 1 0 ∷ [])
two_members [] e = absurd (omega (arith, e))
two_members (x ∷ []) e = absurd (omega (arith, e))
two_members (x ∷ (y ∷ [])) e = refl
two_members (x ∷ (y ∷ (z ∷ xs))) e = absurd (omega (arith, e))

pub some_inputs : (c : Chart) (o : ℕ) (k : OpKind) → IsShape c → o < length c.flow.ops → (op_at c o).kind ≡ k → IsBuilt c o k → IsBetween k → 0 < length (links_into c o)
some_inputs c o (kind.Import file schema delim fixed reject) shape m e b w = absurd w
some_inputs c o (kind.Export file delim fixed) shape m e b w = absurd w
some_inputs c o (kind.Dsread ds) shape m e b w = absurd b
some_inputs c o (kind.Dswrite ds) shape m e b w = absurd b
some_inputs c o (kind.Merge key keepbad reject) shape m e b w = absurd b
some_inputs c o (kind.Changecapture key values keepcopy) shape m e b w = absurd b
some_inputs c o (kind.Funnel sequence sort) shape m e b w = absurd b
some_inputs c o (kind.InnerJoin key) shape m e b w = some_of_two (length (links_into c o)) (ports_at c shape o m (kind.InnerJoin key) e)
some_inputs c o (kind.LeftOuterJoin key) shape m e b w = some_of_two (length (links_into c o)) (ports_at c shape o m (kind.LeftOuterJoin key) e)
some_inputs c o (kind.RightOuterJoin key) shape m e b w = some_of_two (length (links_into c o)) (ports_at c shape o m (kind.RightOuterJoin key) e)
some_inputs c o (kind.FullOuterJoin key) shape m e b w = some_of_two (length (links_into c o)) (ports_at c shape o m (kind.FullOuterJoin key) e)
some_inputs c o (kind.Lookup key missing) shape m e b w = some_of_two (length (links_into c o)) (ports_at c shape o m (kind.Lookup key missing) e)
some_inputs c o k shape m e b w = some_of_one (length (links_into c o)) (ports_at c shape o m k e)
