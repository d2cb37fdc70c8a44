-- Rows that fit the fields of an operator's inputs give rows that fit those of the links that leave it.
use Rattle.std.proofs.Common.{◌≡◌, ℕ, zero, suc, ◌<◌, refl, sym, ap, subst, List, [], ◌∷◌, inl, inr, map, length, get_or, arith}
use Rattle.std.specs.List.{AllByRecursion, flat_map}
use Rattle.std.proofs.lemmas.List.Elements.{All-from_recursion, recursion_from_All}
use Rattle.op_base.specs.Columns.{Row, IsIn}
use Rattle.flow_graph.specs.declared.op_kind.OpKind.{OpKind}
use Rattle.flow_graph.specs.declared.op_kind.OpKind.TheVariants as kind
use Rattle.flow_graph.specs.Charts.{Chart, link_at, links_into, links_from, op_at, keys_at, parts_of, first_fields}
use Rattle.flow_graph.specs.FlowShape.{IsShape}
use Rattle.flow_graph.specs.Fitting.{FitsFields, KeepsFields, PassesFields}
use Rattle.flow_graph.specs.Operators.{Op}
use Rattle.flow_graph.specs.RowRules.{row_rule}
use Rattle.flow_graph.specs.Runs.{result_on, slice}
use Rattle.flow_ops.specs.Kept.{GivesFields, InputsFit}
use Rattle.list_run.specs.Made.{made}
use Rattle.flow_ops.specs.Kinds.{op_by, widths_into}
use Rattle.list_run.specs.Runnable.{IsBuilt}
use Rattle.list_run.proofs.Inputs.{IsBetween, ports_at}
use Rattle.list_run.proofs.RowsKept.{Each, made_all, rows_all}

-- the rows of one partition
pub partition_fits : (P : Row → Type 0) (lists : List (List Row)) (p : ℕ) → Each P lists → AllByRecursion P (get_or lists p [])
partition_fits P [] p h = tt
partition_fits P (rows ∷ lists) zero h = h.0
partition_fits P (rows ∷ lists) (suc p) h = partition_fits P lists p h.1

pub inputs_fit : (c : Chart) (got : ℕ → List (List Row)) (ins : List ℕ) (p : ℕ) → ((i : ℕ) → IsIn i ins → Each (FitsFields (get_or c.schemas i [])) (got i)) → InputsFit (map (λ l. get_or c.schemas l []) ins) (slice p (map got ins))
inputs_fit c got [] p h = tt
inputs_fit c got (i ∷ ins) p h =
    (All-from_recursion (FitsFields (get_or c.schemas i [])) (get_or (got i) p []) (partition_fits (FitsFields (get_or c.schemas i [])) (got i) p (h i (inl refl))), inputs_fit c got ins p (λ j k. h j (inr k)))

-- an operator of one input gives rows that fit
one_fits : (c : Chart) (o : ℕ) (op : Op) (ins : List ℕ) → length ins ≡ 1 → ((rows : List Row) → AllByRecursion (FitsFields (get_or c.schemas (get_or ins 0 0) [])) rows → (l : ℕ) → IsIn l (links_from c o) → AllByRecursion (FitsFields (get_or c.schemas l [])) (result_on op (link_at c l).out 0 (rows ∷ []))) →
    (l : ℕ) → IsIn l (links_from c o) → (inputs : List (List Row)) → InputsFit (map (λ l. get_or c.schemas l []) ins) inputs → AllByRecursion (FitsFields (get_or c.schemas l [])) (result_on op (link_at c l).out 0 inputs)
one_fits c o op [] e h l i inputs f = absurd (omega (arith, e))
one_fits c o op (x ∷ []) e h l i [] f = absurd f
one_fits c o op (x ∷ []) e h l i (rows ∷ []) f = h rows (recursion_from_All (FitsFields (get_or c.schemas x [])) rows f.0) l i
one_fits c o op (x ∷ []) e h l i (rows ∷ (more ∷ inputs)) f = absurd f.1
one_fits c o op (x ∷ (y ∷ ins)) e h l i inputs f = absurd (omega (arith, e))

passed : (c : Chart) (o : ℕ) (op : Op) (f : List Row → List Row) → length (links_into c o) ≡ 1 → PassesFields c o → ((q : ℕ) (rows : List Row) → f rows ≡ result_on op q 0 (rows ∷ [])) → ((P : Row → Type 0) (rows : List Row) → AllByRecursion P rows → AllByRecursion P (f rows)) → GivesFields c o op
passed c o op f one passes is keeps = one_fits c o op (links_into c o) one
    (λ rows h l i. subst (λ fs. AllByRecursion (FitsFields fs) (result_on op (link_at c l).out 0 (rows ∷ []))) (sym (passes l i)) (subst (AllByRecursion (FitsFields (first_fields c o))) (is (link_at c l).out rows) (keeps (FitsFields (first_fields c o)) rows h)))

worked : (c : Chart) (o : ℕ) (k : OpKind) → length (links_into c o) ≡ 1 → (op_at c o).kind ≡ k → KeepsFields c o → (op : Op) → ((q : ℕ) (rows : List Row) → flat_map ((row_rule o k (parts_of c o)).rows q) rows ≡ result_on op q 0 (rows ∷ [])) → GivesFields c o op
worked c o k one e keeps op is = one_fits c o op (links_into c o) one
    (λ rows h l i. subst (AllByRecursion (FitsFields (get_or c.schemas l []))) (is (link_at c l).out rows)
    (rows_all (FitsFields (first_fields c o)) (FitsFields (get_or c.schemas l [])) ((row_rule o k (parts_of c o)).rows (link_at c l).out)
    (λ r f. subst (λ k. AllByRecursion (FitsFields (get_or c.schemas l [])) ((row_rule o k (parts_of c o)).rows (link_at c l).out r)) e (keeps l i r f)) rows h))

single : (rows : List Row) → rows ≡ flat_map (λ r. r ∷ []) rows
single [] = refl
single (r ∷ rows) = ap (λ t. r ∷ t) (single rows)

pub fields_given : (c : Chart) (o : ℕ) (k : OpKind) → IsShape c → o < length c.flow.ops → (op_at c o).kind ≡ k → IsBuilt c o k → IsBetween k → GivesFields c o (op_by o k (parts_of c o) (widths_into c o))
fields_given c o (kind.Import file schema delim fixed reject) shape m e b w = absurd w
fields_given c o (kind.Export file delim fixed) shape m e b w = absurd w
fields_given c o kind.Copy shape m e b w = passed c o (op_by o kind.Copy (parts_of c o) (widths_into c o)) (λ rows. rows) (ports_at c shape o m kind.Copy e) b (λ q rows. single rows) (λ P rows h. h)
fields_given c o (kind.Filter test reject) shape m e b w = let K = kind.Filter test reject in worked c o K (ports_at c shape o m K e) e b (op_by o K (parts_of c o) (widths_into c o)) (λ q rows. refl)
fields_given c o (kind.Transform set reject) shape m e b w = let K = kind.Transform set reject in worked c o K (ports_at c shape o m K e) e b (op_by o K (parts_of c o) (widths_into c o)) (λ q rows. refl)
fields_given c o (kind.Modify keep drop rename) shape m e b w = let K = kind.Modify keep drop rename in worked c o K (ports_at c shape o m K e) e b (op_by o K (parts_of c o) (widths_into c o)) (λ q rows. refl)
fields_given c o (kind.Switch on cases reject) shape m e b w = let K = kind.Switch on cases reject in worked c o K (ports_at c shape o m K e) e b (op_by o K (parts_of c o) (widths_into c o)) (λ q rows. refl)
fields_given c o (kind.Tsort key) shape m e b w = let K = kind.Tsort key in passed c o (op_by o K (parts_of c o) (widths_into c o)) (made K (keys_at c o)) (ports_at c shape o m K e) b (λ q rows. refl) (λ P. made_all P K (keys_at c o))
fields_given c o (kind.Remdup key last) shape m e b w = let K = kind.Remdup key last in passed c o (op_by o K (parts_of c o) (widths_into c o)) (made K (keys_at c o)) (ports_at c shape o m K e) b (λ q rows. refl) (λ P. made_all P K (keys_at c o))
fields_given c o (kind.Group key hash results) shape m e b w = b.0
fields_given c o (kind.InnerJoin key) shape m e b w = b.0
fields_given c o (kind.LeftOuterJoin key) shape m e b w = b.0
fields_given c o (kind.RightOuterJoin key) shape m e b w = b.0
fields_given c o (kind.FullOuterJoin key) shape m e b w = b.0
fields_given c o (kind.Lookup key missing) shape m e b w = b.0
fields_given c o k shape m e b w = absurd b
