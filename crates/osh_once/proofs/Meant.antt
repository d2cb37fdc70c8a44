-- Over the same files a flow means one thing: its operators are the same, and so are their faults.
use Rattle.std.proofs.Common.{◌≡◌, ℕ, inl, inr, List, [], ◌∷◌, ◌++◌, map, refl, sym, ap, ap₂, ◌∙◌, subst, None}
use Rattle.std.specs.List.{AllByRecursion}
use Rattle.ds_port.specs.FileMap.{FileMap}
use Rattle.ds_schema.specs.declared.schema.Field.{Field}
use Rattle.flow_files.specs.Lines.{AreLines, beyond}
use Rattle.flow_files.proofs.OneList.{one_list}
use Rattle.op_base.specs.Columns.{IsIn, Row}
use Rattle.flow_graph.specs.Charts.{Chart, no_op, op_at}
use Rattle.flow_graph.specs.declared.flow.Flow.{Flow}
use Rattle.flow_graph.specs.declared.flow.OpSpec.{OpSpec}
use Rattle.flow_graph.specs.declared.op_kind.OpKind.{OpKind}
use Rattle.flow_graph.specs.declared.op_kind.OpKind.TheVariants as kind
use Rattle.flow_graph.specs.declared.parts.Stored.{Stored}
use Rattle.flow_graph.specs.Operators.{Op, faults, import, result}
use Rattle.flow_graph.specs.Runs.{Forward, Means, Node, Out, meant_faults}
use Rattle.flow_rules.specs.Verdicts.{node_at, nodes_of}
use Rattle.flow_rules.proofs.FlowAll.{along_all}
use Rattle.shape_base.specs.Causes.{first_cause}
use Rattle.op_shape.specs.Options.{option_causes}
use Rattle.flow_shape.specs.Refusals.{IsShapeOf, inputs_at}
use Rattle.flow_shape.proofs.Causing.{all_at}
use Rattle.osh_ends.specs.FlowFiles.{IsMeaning, IsOp, form}
use Rattle.osh_ends.proofs.Forms.{form_fits, options_sound}
use Rattle.osh_sound.specs.Sound.{AreWidths, FormStands, KeepsForms}
use Rattle.osh_once.proofs.Orders.{goes_forward, ordered_below}

-- ---- operators

same_op : (files : FileMap) (c : Chart) (o : ℕ) (k : OpKind) (ins : List (List Field)) (a b : Op) → FormStands k → first_cause (option_causes k ins) ≡ None → IsOp files c o k a → IsOp files c o k b → a ≡ b
same_op files c o (kind.Import file schema delim fixed reject) ins a b stands none x y =
    let h = sym x.2 ∙ y.2 in
    let bytes : x.0 ≡ y.0 = cc h in
    let lines = one_list (form delim fixed) schema o y.0 x.1 y.1 (form_fits schema delim fixed stands.0 (λ widths e. subst AreWidths e stands.1) none) (subst (λ bs. AreLines (form delim fixed) schema o bs x.1) bytes x.3) y.3 in
    x.4 ∙ ap₂ (λ ls bs. import ls reject (beyond o bs)) lines bytes ∙ sym y.4
same_op files c o (kind.Export file delim fixed) ins a b stands none x y = x ∙ sym y
same_op files c o kind.Copy ins a b stands none x y = x ∙ sym y
same_op files c o (kind.Filter test reject) ins a b stands none x y = x ∙ sym y
same_op files c o (kind.Transform set reject) ins a b stands none x y = x ∙ sym y
same_op files c o (kind.Modify keep drop rename) ins a b stands none x y = x ∙ sym y
same_op files c o (kind.Switch on cases reject) ins a b stands none x y = x ∙ sym y
same_op files c o (kind.Tsort key) ins a b stands none x y = x ∙ sym y
same_op files c o (kind.Remdup key last) ins a b stands none x y = x ∙ sym y
same_op files c o (kind.Group key hash results) ins a b stands none x y = x ∙ sym y
same_op files c o (kind.InnerJoin key) ins a b stands none x y = x ∙ sym y
same_op files c o (kind.LeftOuterJoin key) ins a b stands none x y = x ∙ sym y
same_op files c o (kind.RightOuterJoin key) ins a b stands none x y = x ∙ sym y
same_op files c o (kind.FullOuterJoin key) ins a b stands none x y = x ∙ sym y
same_op files c o (kind.Lookup key missing) ins a b stands none x y = x ∙ sym y
same_op files c o k ins a b stands none x y = absurd x

same_nodes : (c : Chart) (a b : ℕ → Op) (order : List ℕ) → ((o : ℕ) → IsIn o order → a o ≡ b o) → map (node_at c a) order ≡ map (node_at c b) order
same_nodes c a b [] h = refl
same_nodes c a b (o ∷ order) h =
    ap₂ (λ (n : Node) ns. n ∷ ns) (ap (λ op. node_at c (λ k. op) o) (h o (inl refl))) (same_nodes c a b order (λ k i. h k (inr i)))

-- ---- faults

same_map : (v w : ℕ → List Row) (ls : List ℕ) → AllByRecursion (λ l. v l ≡ w l) ls → map v ls ≡ map w ls
same_map v w [] h = refl
same_map v w (l ∷ ls) h = ap₂ (λ a b. a ∷ b) h.0 (same_map v w ls h.1)

same_outs : (v w : ℕ → List Row) (op : Op) (xs ys : List (List Row)) → xs ≡ ys → (outs : List Out) → AllByRecursion (λ (o : Out). v o.link ≡ result op o.port xs) outs → AllByRecursion (λ (o : Out). w o.link ≡ result op o.port ys) outs → AllByRecursion (λ (o : Out). v o.link ≡ w o.link) outs
same_outs v w op xs ys e [] h k = tt
same_outs v w op xs ys e (o ∷ outs) h k = (h.0 ∙ ap (result op o.port) e ∙ sym k.0, same_outs v w op xs ys e outs h.1 k.1)

both_mean : (v w : ℕ → List Row) (nodes : List Node) → AllByRecursion (Means v) nodes → AllByRecursion (Means w) nodes → AllByRecursion (λ (n : Node). Means v n × Means w n) nodes
both_mean v w [] h k = tt
both_mean v w (n ∷ nodes) h k = ((h.0, k.0), both_mean v w nodes h.1 k.1)

abbrev SameFaults : (ℕ → List Row) → (ℕ → List Row) → Node → Type 0
SameFaults v w n = faults n.op (map v n.ins) ≡ faults n.op (map w n.ins)

all_faults : (v w : ℕ → List Row) (nodes : List Node) → AllByRecursion (λ (n : Node). AllByRecursion (λ (o : Out). v o.link ≡ w o.link) n.outs × SameFaults v w n) nodes → meant_faults v nodes ≡ meant_faults w nodes
all_faults v w [] h = refl
all_faults v w (n ∷ nodes) h = ap₂ (λ a b. a ++ b) h.0.1 (all_faults v w nodes h.1)

same_faults : (v w : ℕ → List Row) (nodes : List Node) → Forward [] nodes → AllByRecursion (Means v) nodes → AllByRecursion (Means w) nodes → meant_faults v nodes ≡ meant_faults w nodes
same_faults v w nodes f h k =
    all_faults v w nodes (along_all (λ l. v l ≡ w l) (λ (n : Node). Means v n × Means w n) (SameFaults v w) step nodes [] (λ l i. absurd i) f (both_mean v w nodes h k))
  where
    step : (n : Node) → Means v n × Means w n → AllByRecursion (λ l. v l ≡ w l) n.ins → AllByRecursion (λ (o : Out). v o.link ≡ w o.link) n.outs × SameFaults v w n
    step n q e =
        let ins = same_map v w n.ins e in
        (same_outs v w n.op (map v n.ins) (map w n.ins) ins n.outs q.0 q.1, ap (faults n.op) ins)

pub one_bag : (files : FileMap) (flow : Flow) (dict : List Stored) (c : Chart) (a b : ℕ → Op) (v w : ℕ → List Row) → KeepsForms flow → IsShapeOf flow dict c → IsMeaning files c a v → IsMeaning files c b w → meant_faults v (nodes_of c a) ≡ meant_faults w (nodes_of c b)
one_bag files flow dict c a b v w forms s x y =
    let here : KeepsForms c.flow = subst KeepsForms (sym s.same) forms in
    let nodes : nodes_of c a ≡ nodes_of c b = same_nodes c a b c.order (λ o i.
    let l = ordered_below flow dict c s o i in
    same_op files c o (op_at c o).kind (inputs_at c o) (a o) (b o) (all_at (λ (p : OpSpec). FormStands p.kind) c.flow.ops o no_op here l) (options_sound c o (s.schemas.fits o l)) (x.ops_are o l) (y.ops_are o l)) in
    ap (meant_faults v) nodes ∙ same_faults v w (nodes_of c b) (goes_forward flow dict c b s) (subst (AllByRecursion (Means v)) nodes x.means) y.means
