-- Inputs that are found, read and settled one after another.
use Rattle.std.proofs.Common.{◌≡◌, ◌<◌, ◌+◌, ◌++◌, ◌∷◌, [], ℕ, zero, suc, List, Option, Some, None, length, drop, get_or, sym, ap, subst, ◌∙◌, arith, below_more}
use Rattle.std.proofs.Math.ListN.{set}
use Rattle.std.proofs.Math.Seq.{get_or-append_seam}
use Rattle.std.proofs.lemmas.List.{get_or_append_left}
use Rattle.std.proofs.lemmas.List.Sums.{get_or-le-sum_by, sum_by-set}
use Rattle.ds_port.specs.Causes.{HasCause}
use Rattle.ds_port.specs.FileMap.{FileMap}
use Rattle.flow_graph.specs.Charts.{no_op}
use Rattle.flow_graph.specs.declared.flow.OpSpec.{OpSpec}
use Rattle.flow_graph.specs.declared.op_kind.OpKind.{OpKind}
use Rattle.flow_graph.specs.declared.op_kind.OpKind.TheVariants as kind
use Rattle.osh_ends.specs.FlowFiles.{first_missing, first_of, missing_of}
use Rattle.run_feed.specs.Inputs.{AreInputs, IsInput, all_faults, faults_of, number_of, one_if_some}

pub at_any : {X : Type 0} (xs : List X) (i : ℕ) (x d : X) → i < length xs → x ≡ get_or xs i x → x ≡ get_or xs i d
at_any [] i x d h e = absurd (omega arith)
at_any (y ∷ xs) zero x d h e = e
at_any (y ∷ xs) (suc i) x d h e = at_any xs i x d (omega arith) e

pub at_end : {X : Type 0} (xs : List X) (x d : X) (n : ℕ) → length xs ≡ n → x ≡ get_or (xs ++ x ∷ []) n d
at_end xs x d n len = sym (ap (λ k. get_or (xs ++ x ∷ []) k d) (sym len) ∙ get_or-append_seam xs x [] d)

-- a count that rose by one of two rose by both
pub cause_more : (a b c s f t : ℕ) → HasCause a b (0 < s) → HasCause b c (0 < f) → t ≡ s + f → HasCause a c (0 < t)
cause_more a b c zero f t h k e = record { later = omega (arith, h.later, k.later); rose = λ p. omega (arith, h.later, k.rose (omega (arith, p, e))) }
cause_more a b c (suc s) f t h k e = record { later = omega (arith, h.later, k.later); rose = λ p. omega (arith, h.rose (omega arith), k.later) }

-- one input that had a fault is enough
pub some_fault : {I : Type 0} (faults : I → ℕ) (inputs : List (Option I)) (o : ℕ) (input : Option I) → o < length inputs → 0 < faults_of faults input → 0 < all_faults faults (set inputs o input)
some_fault faults inputs o input h p = omega (arith, p, sum_by-set (faults_of faults) inputs o input None h, get_or-le-sum_by (faults_of faults) inputs o None h)

-- an input that stands in place of another
pub same_number : {I : Type 0} (inputs : List (Option I)) (o : ℕ) (old input : Option I) → o < length inputs → old ≡ get_or inputs o old → one_if_some input ≡ one_if_some old → number_of (set inputs o input) ≡ number_of inputs
same_number inputs o old input h e k = omega (arith, sum_by-set one_if_some inputs o input old h, ap one_if_some e, k)

-- what inputs hold is told where files tell
told_input : {I : Type 0} (tells others : Type 0) → tells → (rest : I → List ℕ) (files : FileMap) (k : OpKind) (input : Option I) → IsInput tells rest files k input → IsInput others rest files k input
told_input tells others told rest files (kind.Import file schema delim fixed reject) (Some input) h = λ t. h told
told_input tells others told rest files (kind.Import file schema delim fixed reject) None h = h
told_input tells others told rest files k (Some input) h = h
told_input tells others told rest files k None h = h

pub told_inputs : {I : Type 0} (tells others : Type 0) → tells → (rest : I → List ℕ) (files : FileMap) (ops : List OpSpec) (inputs : List (Option I)) → AreInputs tells rest files ops inputs → AreInputs others rest files ops inputs
told_inputs tells others told rest files ops inputs are = record { count = are.count; each = λ o h. told_input tells others told rest files (get_or ops o no_op).kind (get_or inputs o None) (are.each o h) }

-- one input more
pub inputs_more : {I : Type 0} (tells : Type 0) (rest : I → List ℕ) (files : FileMap) (ops : List OpSpec) (inputs all : List (Option I)) (n : ℕ) (input : Option I) → length inputs ≡ n → all ≡ inputs ++ input ∷ []
    → ((o : ℕ) → o < n → IsInput tells rest files (get_or ops o no_op).kind (get_or inputs o None)) → IsInput tells rest files (get_or ops n no_op).kind input
    → (o : ℕ) → o < n + 1 → IsInput tells rest files (get_or ops o no_op).kind (get_or all o None)
inputs_more tells rest files ops inputs all n input len put old new = below_more (λ o. IsInput tells rest files (get_or ops o no_op).kind (get_or all o None)) n
    (λ o l. subst (IsInput tells rest files (get_or ops o no_op).kind) (sym (ap (λ is. get_or is o None) put ∙ get_or_append_left inputs (input ∷ []) None o (omega (arith, l, len)))) (old o l))
    (subst (IsInput tells rest files (get_or ops n no_op).kind) (at_end inputs input None n len ∙ sym (ap (λ is. get_or is n None) put)) new)

missing_at : (files : FileMap) (ops : List OpSpec) (i : ℕ) (x : OpSpec) → i < length ops → x ≡ get_or ops i x → first_missing files (drop i ops) ≡ first_of (missing_of files x.kind) (first_missing files (drop (suc i) ops))
missing_at files [] i x h e = absurd (omega arith)
missing_at files (op ∷ ops) zero x h e = ap (λ (y : OpSpec). first_of (missing_of files y.kind) (first_missing files ops)) (sym e)
missing_at files (op ∷ ops) (suc i) x h e = missing_at files ops i x (omega arith) e

pub next_missing : (files : FileMap) (ops : List OpSpec) (i : ℕ) (x : OpSpec) (found : Option (List ℕ)) → i < length ops → x ≡ get_or ops i x → missing_of files x.kind ≡ found → first_missing files (drop i ops) ≡ first_of found (first_missing files (drop (i + 1) ops))
next_missing files ops i x found h e m = missing_at files ops i x h e ∙ ap (λ f. first_of f (first_missing files (drop (suc i) ops))) m ∙ ap (λ k. first_of found (first_missing files (drop k ops))) (let n : suc i ≡ i + 1 = omega arith in n)
