-- Rows that are dealt to the lists of their outputs.
use Rattle.std.proofs.Common.{◌≡◌, ◌≢◌, ◌⊎◌, inl, inr, ℕ, ◌<◌, ◌≤◌, ◌==◌, Bool, true, false, cond, List, [], ◌∷◌, ◌++◌, length, map, get_or, set, refl, sym, ap, ap₂, ◌∙◌, subst, append-nil, append_assoc, arith}
use Rattle.std.specs.Prelude.{nat_lt, if◌then◌else◌}
use Rattle.std.specs.List.{AllByRecursion, flat_map, range_with_len}
use Rattle.std.proofs.lemmas.Grind.{flat_map-append}
use Rattle.std.proofs.lemmas.Bool.Decides.{eqb_tells, nat_tests}
use Rattle.std.proofs.lemmas.List.{get_or-set_other, get_or-set_same, map-append}
use Rattle.std.proofs.lemmas.List.Elements.{All-from_recursion}
use Rattle.std.proofs.lemmas.List.FromFn.{length-map-range_with_len, get_or-map-range_with_len}
use Rattle.streams.specs.Streams.{Out, sends, fails, on}
use Rattle.streams.proofs.StreamLaws.{eq_true}
use Rattle.op_base.specs.declared.fault.Fault.{Fault}
use Rattle.op_base.specs.declared.emit.Emit.{Emit}
use Rattle.op_base.specs.declared.emit.Sent.{Sent}
use Rattle.op_base.specs.Columns.{Row}
use Rattle.op_base.specs.Emits.{rows_sent}
use Rattle.flow_graph.specs.declared.op_kind.OpKind.{OpKind}
use Rattle.flow_graph.specs.declared.op_kind.OpKind.TheVariants as kind
use Rattle.flow_graph.specs.declared.parts.OpParts.{OpParts}
use Rattle.flow_graph.specs.Runs.{slice}
use Rattle.flow_ops.specs.Kept.{if_between}
use Rattle.list_run.specs.Made.{degree_of, made_of}
use Rattle.list_run.specs.Worked.{AreWithin, HasWorked, IsWorked, TakesPartition, outputs_of, place_of, sent_to}

-- what is sent to an output is what is on it
pub sent_on : (q : ℕ) (given : List (Out Row Fault)) → sent_to q (rows_sent given) ≡ on q given
sent_on q [] = refl
sent_on q (sends port r ∷ given) = ap (λ t. if port == q then r ∷ t else t) (sent_on q given)
sent_on q (fails f ∷ given) = sent_on q given

pub sent-more : (q : ℕ) (sent : List Sent) (s : Sent) → sent_to q (sent ++ s ∷ []) ≡ sent_to q sent ++ cond (s.port == q) (s.row ∷ []) []
sent-more q [] s = refl
sent-more q (t ∷ sent) s = go (t.port == q) (sent-more q sent s)
  where
    last : List Row
    last = cond (s.port == q) (s.row ∷ []) []

    go : (b : Bool) → sent_to q (sent ++ s ∷ []) ≡ sent_to q sent ++ last → (if b then t.row ∷ sent_to q (sent ++ s ∷ []) else sent_to q (sent ++ s ∷ [])) ≡ (if b then t.row ∷ sent_to q sent else sent_to q sent) ++ last
    go true h = ap (λ rows. t.row ∷ rows) h
    go false h = h

-- nothing is sent to an output that isn't there
within : (n : ℕ) (given : List (Out Row Fault)) → ((q : ℕ) → n ≤ q → on q given ≡ []) → AllByRecursion (λ (s : Sent). s.port < n) (rows_sent given)
within n [] h = tt
within n (sends port r ∷ given) h = (low (nat_lt port n) refl, within n given (λ q l. rest q (port == q) (h q l)))
  where
    low : (b : Bool) → nat_lt port n ≡ b → port < n
    low true e = grind (arith, nat_tests)
    low false e =
        let l : n ≤ port = grind (arith, nat_tests) in
        let no : r ∷ on port given ≡ [] = sym (ap (λ b. if b then r ∷ on port given else on port given) (eq_true port port refl)) ∙ h port l in cc

    rest : (q : ℕ) (b : Bool) → (if b then r ∷ on q given else on q given) ≡ [] → on q given ≡ []
    rest q true e = cc
    rest q false e = e
within n (fails f ∷ given) h = within n given h

pub are_within : (k : OpKind) (parts : OpParts) (widths : List ℕ) (lists : List (List Row)) (emit : Emit) (n : ℕ) → n ≡ outputs_of k → HasWorked k parts widths lists emit → AreWithin n emit.sent
are_within k parts widths lists emit n e w =
    subst (λ m. AreWithin m emit.sent) (sym e)
    (subst (AreWithin (outputs_of k)) (sym w.emitted.sent) (All-from_recursion (λ (s : Sent). s.port < outputs_of k) (rows_sent w.given) (within (outputs_of k) w.given w.no_more)))

-- one more row
pub row_dealt : (old mid new : List (List Row)) (sent : List Sent) (s : Sent) → s.port < length mid → new ≡ set mid s.port (get_or mid s.port [] ++ s.row ∷ []) → (q : ℕ) → get_or mid q [] ≡ get_or old q [] ++ sent_to q sent → get_or new q [] ≡ get_or old q [] ++ sent_to q (sent ++ s ∷ [])
row_dealt old mid new sent s m e q h = ap (λ ls. get_or ls q []) e ∙ go (eqb_tells s.port q)
  where
    more : List Row
    more = get_or mid s.port [] ++ s.row ∷ []

    onward : (b : Bool) → (s.port == q) ≡ b → get_or mid q [] ++ cond b (s.row ∷ []) [] ≡ get_or old q [] ++ sent_to q (sent ++ s ∷ [])
    onward b t = ap₂ (λ rows more. rows ++ more) h (sym (ap (λ b. cond b (s.row ∷ []) []) t)) ∙ append_assoc (get_or old q []) (sent_to q sent) (cond (s.port == q) (s.row ∷ []) []) ∙ ap (λ rows. get_or old q [] ++ rows) (sym (sent-more q sent s))

    go : (((s.port == q) ≡ true) × (s.port ≡ q)) ⊎ (((s.port == q) ≡ false) × (s.port ≢ q)) → get_or (set mid s.port more) q [] ≡ get_or old q [] ++ sent_to q (sent ++ s ∷ [])
    go (inl t) = sym (ap (λ i. get_or (set mid s.port more) i []) t.1) ∙ get_or-set_same mid s.port more [] m ∙ ap (λ i. get_or mid i [] ++ s.row ∷ []) t.1 ∙ onward true t.0
    go (inr t) = get_or-set_other mid s.port q more [] (λ f. t.1 (sym f)) ∙ sym (append-nil (get_or mid q [])) ∙ onward false t.0

pub some_output : (k : OpKind) → 0 < outputs_of k
some_output (kind.Import file schema delim fixed reject) = omega arith
some_output (kind.Export file delim fixed) = omega arith
some_output (kind.Dsread ds) = omega arith
some_output (kind.Dswrite ds) = omega arith
some_output kind.Copy = omega arith
some_output (kind.Filter test reject) = omega arith
some_output (kind.Transform set reject) = omega arith
some_output (kind.Modify keep drop rename) = omega arith
some_output (kind.Switch on cases reject) = omega arith
some_output (kind.Tsort key) = omega arith
some_output (kind.Remdup key last) = omega arith
some_output (kind.Group key hash results) = omega arith
some_output (kind.InnerJoin key) = omega arith
some_output (kind.LeftOuterJoin key) = omega arith
some_output (kind.RightOuterJoin key) = omega arith
some_output (kind.FullOuterJoin key) = omega arith
some_output (kind.Merge key keepbad reject) = omega arith
some_output (kind.Lookup key missing) = omega arith
some_output (kind.Changecapture key values keepcopy) = omega arith
some_output (kind.Funnel sequence sort) = omega arith

-- one more partition
pub partition_made : (o : ℕ) (k : OpKind) (parts : OpParts) (widths : List ℕ) (done : List (List (List Row))) (lists : List (List Row)) (emit : Emit) (old new : List (List (List Row))) → length old ≡ outputs_of k → HasWorked k parts widths lists emit → TakesPartition emit.sent old new → (q : ℕ) →
    get_or old (place_of (outputs_of k) q) [] ≡ map (made_of o k parts widths q) done → get_or new (place_of (outputs_of k) q) [] ≡ map (made_of o k parts widths q) (done ++ lists ∷ [])
partition_made o k parts widths done lists emit old new count w t q h =
    t.each (place_of (outputs_of k) q) (subst (λ n. place_of (outputs_of k) q < n) (sym count) (there (outputs_of k) (some_output k)))
    ∙ ap₂ (λ ls r. ls ++ r ∷ []) h (ap (sent_to (place_of (outputs_of k) q)) w.emitted.sent ∙ sent_on (place_of (outputs_of k) q) w.given ∙ w.rows_are o q)
    ∙ sym (map-append (made_of o k parts widths q) done (lists ∷ []))
  where
    there : (n : ℕ) → 0 < n → place_of n q < n
    there n l = omega (arith, l)

-- and what is found in it
pub found_more : (f : List (List Row) → List Fault) (done : List (List (List Row))) (lists : List (List Row)) → flat_map f done ++ f lists ≡ flat_map f (done ++ lists ∷ [])
found_more f done lists = ap (λ t. flat_map f done ++ t) (sym (append-nil (f lists))) ∙ sym (flat_map-append f done (lists ∷ []))

-- of the lists by port of each partition
pub each_made : {Y : Type 0} (f : List (List Row) → Y) (inputs : List (List (List Row))) (ns : List ℕ) → map f (map (λ p. slice p inputs) ns) ≡ map (λ p. f (slice p inputs)) ns
each_made f inputs [] = refl
each_made f inputs (n ∷ ns) = ap (λ t. f (slice n inputs) ∷ t) (each_made f inputs ns)

pub each_found : (f : List (List Row) → List Fault) (inputs : List (List (List Row))) (ns : List ℕ) → flat_map f (map (λ p. slice p inputs) ns) ≡ flat_map (λ p. f (slice p inputs)) ns
each_found f inputs [] = refl
each_found f inputs (n ∷ ns) = ap (λ t. f (slice n inputs) ++ t) (each_found f inputs ns)

-- an operator that is worked stands between imports and exports
pub all_found : (k : OpKind) → IsWorked k → (faults : List Fault) → faults ≡ if_between k faults
all_found (kind.Filter test reject) w faults = refl
all_found (kind.Transform set reject) w faults = refl
all_found (kind.Modify keep drop rename) w faults = refl
all_found (kind.Switch on cases reject) w faults = refl
all_found (kind.Group key hash results) w faults = refl
all_found (kind.InnerJoin key) w faults = refl
all_found (kind.LeftOuterJoin key) w faults = refl
all_found (kind.RightOuterJoin key) w faults = refl
all_found (kind.FullOuterJoin key) w faults = refl
all_found (kind.Lookup key missing) w faults = refl
all_found k w faults = absurd w

-- the lists that a loop over the slices has next
pub slice_at : (inputs slices : List (List (List Row))) (p : ℕ) (lists : List (List Row)) → slices ≡ map (λ p. slice p inputs) (range_with_len 0 (degree_of inputs)) → p < length slices → lists ≡ get_or slices p lists → lists ≡ slice p inputs
slice_at inputs slices p lists e m is =
    let f : ℕ → List (List Row) = λ p. slice p inputs in
    let n = degree_of inputs in
    is ∙ ap (λ ss. get_or ss p lists) e ∙ get_or-map-range_with_len f 0 n p p lists (subst (λ k. p < k) (ap length e ∙ length-map-range_with_len f 0 n) m) (omega arith)
