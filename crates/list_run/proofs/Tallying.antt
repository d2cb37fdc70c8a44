-- Tallies that grow.
use Rattle.std.proofs.Common.{◌≡◌, ℕ, List, [], ◌++◌, map, length, sym, subst, append-nil, append_assoc, length-append, arith}
use Rattle.std.proofs.lemmas.List.{length-map}
use Rattle.op_base.specs.declared.fault.Fault.{Fault}
use Rattle.op_base.specs.Emits.{counted}
use Rattle.flow_graph.specs.RowRules.{at_op}
use Rattle.list_run.specs.declared.tally.Tally.{Tally}
use Rattle.list_run.specs.Found.{Grows, Tallies}

pub counts_on : (o : ℕ) (fs gs : List Fault) (n m k : ℕ) → n ≡ counted 0 (length fs) → m ≡ counted 0 (length gs) → k ≡ counted n m → k ≡ counted 0 (length (fs ++ map (at_op o) gs))
counts_on o fs gs n m k a b is = omega (arith, length-append fs (map (at_op o) gs), length-map gs (at_op o))

-- nothing is found
pub still : (old new : Tally) → new ≡ old → Grows old new []
still old new e = λ fs t. subst (λ gs. Tallies gs new) (sym (append-nil fs)) (subst (Tallies fs) (sym e) t)

-- some faults, and then others
pub further : (a b c : Tally) (fs gs : List Fault) → Grows a b fs → Grows b c gs → Grows a c (fs ++ gs)
further a b c fs gs g h = λ faults t. subst (λ hs. Tallies hs c) (append_assoc faults fs gs) (h (faults ++ fs) (g faults t))

-- the same faults under other words
pub grows_as : (a b : Tally) (fs gs : List Fault) → fs ≡ gs → Grows a b fs → Grows a b gs
grows_as a b fs gs e g = subst (Grows a b) e g
