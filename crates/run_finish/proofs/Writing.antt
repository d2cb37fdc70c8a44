-- Rows of partitions that are written one after another, and exports one after another.
use Rattle.std.proofs.Common.{◌≡◌, ◌<◌, ◌+◌, ℕ, zero, suc, List, [], ◌∷◌, ◌++◌, length, take, get_or, refl, sym, ap, subst, ◌∙◌, append_assoc, append-nil, arith, flat_map}
use Rattle.std.specs.List.{AllByRecursion, range_with_len}
use Rattle.std.proofs.lemmas.Grind.{flat_map-append}
use Rattle.std.proofs.lemmas.List.{take_more}
use Rattle.op_base.specs.declared.fault.Fault.{Fault}
use Rattle.op_base.specs.Columns.{Row}
use Rattle.op_base.specs.Lists.{joined}
use Rattle.op_base.proofs.All.{all_at, flat_agree_all}
use Rattle.flow_files.specs.declared.tally.Tally.{Tally}
use Rattle.flow_files.specs.Tallies.{Grows}
use Rattle.flow_files.proofs.Growing.{further}
use Rattle.flow_graph.specs.Charts.{Chart, op_at}
use Rattle.flow_graph.specs.Operators.{Op, faults}
use Rattle.flow_graph.specs.declared.op_kind.OpKind.{OpKind}
use Rattle.flow_graph.specs.declared.op_kind.OpKind.TheVariants as kind
use Rattle.flow_score.proofs.Ranges.{flat_more}
use Rattle.flow_shape.specs.Refusals.{all_ops}
use Rattle.flow_sound.specs.Tallies.{faults_written, if_export}
use Rattle.flow_sound.proofs.Members.{all_of, below_range}
use Rattle.ds_port.specs.FileMap.{FileMap}
use Rattle.flow_rules.specs.Exports.{IsExport, input_of}
use Rattle.osh_ends.specs.Ends.{file_of, files_of}
use Rattle.osh_ends.specs.FlowFiles.{IsOp}
use Rattle.run_finish.specs.Written.{AreOps, ComeAt, faults_at, faults_found, file_written, sink_at}

joined_more : {X : Type 0} (ls : List (List X)) (i : ℕ) (xs : List X) → i < length ls → xs ≡ get_or ls i xs → joined (take (i + 1) ls) ≡ joined (take i ls) ++ xs
joined_more ls i xs h is = ap joined (take_more ls i xs h) ∙ flat_map-append (λ ys. ys) (take i ls) (get_or ls i xs ∷ []) ∙ ap (λ l. joined (take i ls) ++ l) (append-nil (get_or ls i xs) ∙ sym is)

flat_joined_more : {X Y : Type 0} (f : X → List Y) (ls : List (List X)) (i : ℕ) (xs : List X) → i < length ls → xs ≡ get_or ls i xs → flat_map f (joined (take (i + 1) ls)) ≡ flat_map f (joined (take i ls)) ++ flat_map f xs
flat_joined_more f ls i xs h is = ap (flat_map f) (joined_more ls i xs h is) ∙ flat_map-append f (joined (take i ls)) xs

-- the rows of a partition more were written
pub written_more : (f : Row → List ℕ) (parts : List (List Row)) (i : ℕ) (rows : List Row) (held now then : List ℕ) → i < length parts → rows ≡ get_or parts i rows
    → then ≡ now ++ flat_map f rows → now ≡ held ++ flat_map f (joined (take i parts)) → then ≡ held ++ flat_map f (joined (take (i + 1) parts))
written_more f parts i rows held now then h is e was =
    e ∙ ap (λ l. l ++ flat_map f rows) was ∙ append_assoc held (flat_map f (joined (take i parts))) (flat_map f rows) ∙ ap (λ l. held ++ l) (sym (flat_joined_more f parts i rows h is))

-- their faults were tallied
pub tallied_more : (f : Row → List Fault) (parts : List (List Row)) (i : ℕ) (rows : List Row) (a b c : Tally) → i < length parts → rows ≡ get_or parts i rows
    → Grows a b (flat_map f (joined (take i parts))) → Grows b c (flat_map f rows) → Grows a c (flat_map f (joined (take (i + 1) parts)))
tallied_more f parts i rows a b c h is g k = subst (Grows a c) (sym (flat_joined_more f parts i rows h is)) (further a b c (flat_map f (joined (take i parts))) (flat_map f rows) g k)

same_at : {X : Type 0} (xs : List X) (i : ℕ) (d e : X) → i < length xs → get_or xs i d ≡ get_or xs i e
same_at [] i d e l = absurd (omega (arith, l))
same_at (x ∷ xs) zero d e l = refl
same_at (x ∷ xs) (suc i) d e l = same_at xs i d e (omega (arith, l))

-- what holds of each partition holds of one
pub one_of : (P : List Row → Type 0) → P [] → (parts : List (List Row)) (i : ℕ) (rows : List Row) → i < length parts → rows ≡ get_or parts i rows → AllByRecursion P parts → P rows
one_of P none parts i rows h is all = subst P (sym (is ∙ same_at parts i rows [] h)) (all_at P none parts i all)

-- the faults of an export more were tallied
pub found_more : (f : ℕ → List Fault) (n : ℕ) (a b c : Tally) → Grows a b (flat_map f (range_with_len 0 n)) → Grows b c (f n) → Grows a c (flat_map f (range_with_len 0 (n + 1)))
found_more f n a b c g k = subst (Grows a c) (sym (flat_more f n)) (further a b c (flat_map f (range_with_len 0 n)) (f n) g k)

-- an export's file, from what is in the partitions of its input
file_same : (c : Chart) (parts : ℕ → List (List Row)) (here : List (List Row)) (o : ℕ) (k : OpKind) → (IsExport k → here ≡ parts (input_of c o)) → file_of c (λ l. here) o k ≡ file_of c parts o k
file_same c parts here o (kind.Export file delim fixed) h = ap (λ ps. file_of c (λ l. ps) o (kind.Export file delim fixed)) (h tt)
file_same c parts here o k h = refl

pub files_same : (c : Chart) (sinks : List (List (List Row))) (parts : ℕ → List (List Row)) → ComeAt c sinks parts → flat_map (file_written c sinks) (range_with_len 0 (length c.flow.ops)) ≡ files_of c parts
files_same c sinks parts h =
    flat_agree_all (file_written c sinks) (λ o. file_of c parts o (op_at c o).kind) (range_with_len 0 (length c.flow.ops))
    (all_of (λ o. file_written c sinks o ≡ file_of c parts o (op_at c o).kind) (range_with_len 0 (length c.flow.ops))
    (λ o i. file_same c parts (sink_at sinks o) o (op_at c o).kind (h o (below_range (length c.flow.ops) o i))))

-- an export's faults, as its operator has them
faults_same : (files : FileMap) (c : Chart) (parts : ℕ → List (List Row)) (here : List (List Row)) (o : ℕ) (k : OpKind) (op : Op) → IsOp files c o k op → (IsExport k → here ≡ parts (input_of c o)) → faults_at c o here k ≡ if_export k (faults op (joined (parts (input_of c o)) ∷ []))
faults_same files c parts here o (kind.Export file delim fixed) op is h =
    ap (λ ps. faults_at c o ps (kind.Export file delim fixed)) (h tt) ∙ ap (λ (p : Op). faults p (joined (parts (input_of c o)) ∷ [])) (sym is)
faults_same files c parts here o k op is h = refl

pub found_same : (files : FileMap) (c : Chart) (ops : ℕ → Op) (sinks : List (List (List Row))) (parts : ℕ → List (List Row)) → AreOps files c ops → ComeAt c sinks parts
    → flat_map (faults_found c sinks) (range_with_len 0 (length c.flow.ops)) ≡ flat_map (faults_written c ops (λ l. joined (parts l))) (all_ops c)
found_same files c ops sinks parts are h =
    flat_agree_all (faults_found c sinks) (faults_written c ops (λ l. joined (parts l))) (range_with_len 0 (length c.flow.ops))
    (all_of (λ o. faults_found c sinks o ≡ faults_written c ops (λ l. joined (parts l)) o) (range_with_len 0 (length c.flow.ops))
    (λ o i. let b = below_range (length c.flow.ops) o i in faults_same files c parts (sink_at sinks o) o (op_at c o).kind (ops o) (are o b) (h o b)))
