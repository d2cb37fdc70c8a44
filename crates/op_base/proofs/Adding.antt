-- What is added in two calls is added in one.
use Rattle.std.proofs.Common.{◌≡◌, ℕ, ◌+◌, ◌<◌, ◌^◌, Option, Some, List, [], ◌∷◌, ◌++◌, length, refl, ap, sym, ◌∙◌, append_assoc, append-nil, arith}
use Rattle.streams.specs.Streams.{Out, sends, fails, faults_out}
use Rattle.op_base.specs.declared.fault.Fault.{Fault}
use Rattle.op_base.specs.declared.emit.Emit.{Emit}
use Rattle.op_base.specs.Columns.{Row}
use Rattle.op_base.specs.Emits.{rows_sent, counted, lesser, least_of, Adds}

pub rows_sent-append : (xs ys : List (Out Row Fault)) → rows_sent (xs ++ ys) ≡ rows_sent xs ++ rows_sent ys
rows_sent-append [] ys = refl
rows_sent-append (sends port row ∷ xs) ys = ap (λ t. record { port = port; row = row } ∷ t) (rows_sent-append xs ys)
rows_sent-append (fails fault ∷ xs) ys = rows_sent-append xs ys

pub faults_out-append : {X F : Type 0} (xs ys : List (Out X F)) → faults_out (xs ++ ys) ≡ faults_out xs ++ faults_out ys
faults_out-append [] ys = refl
faults_out-append (sends port row ∷ xs) ys = faults_out-append xs ys
faults_out-append (fails fault ∷ xs) ys = ap (λ t. fault ∷ t) (faults_out-append xs ys)

length-faults : {X F : Type 0} (xs ys : List (Out X F)) → length (faults_out (xs ++ ys)) ≡ length (faults_out xs) + length (faults_out ys)
length-faults [] ys = none (length (faults_out ys))
  where
    none : (n : ℕ) → n ≡ 0 + n
    none n = omega arith
length-faults (sends port row ∷ xs) ys = length-faults xs ys
length-faults (fails fault ∷ xs) ys = let h = length-faults xs ys in omega (arith, h)

counted-more : (n a b : ℕ) → counted (counted n a) b ≡ counted n (a + b)
counted-more n a b = omega arith

counted-none : (n : ℕ) → n < 2 ^ 63 → n ≡ counted n 0
counted-none n h = omega arith

pub least_of-append : (least : Option Fault) (xs ys : List Fault) → least_of least (xs ++ ys) ≡ least_of (least_of least xs) ys
least_of-append least [] ys = refl
least_of-append least (x ∷ xs) ys = least_of-append (Some (lesser least x)) xs ys

pub Adds-none : (a : Emit) → Adds a a []
Adds-none a = record { sent = sym (append-nil a.sent); faults = counted-none a.faults a.few; least = refl }

pub Adds-then : (a b c : Emit) (xs ys : List (Out Row Fault)) → Adds a b xs → Adds b c ys → Adds a c (xs ++ ys)
Adds-then a b c xs ys f g = record {
  sent = g.sent ∙ ap (λ s. s ++ rows_sent ys) f.sent ∙ append_assoc a.sent (rows_sent xs) (rows_sent ys) ∙ ap (λ s. a.sent ++ s) (sym (rows_sent-append xs ys));
  faults = g.faults ∙ ap (λ n. counted n (length (faults_out ys))) f.faults ∙ counted-more a.faults (length (faults_out xs)) (length (faults_out ys)) ∙ ap (counted a.faults) (sym (length-faults xs ys));
  least = g.least ∙ ap (λ n. least_of n (faults_out ys)) f.least ∙ sym (ap (least_of a.least) (faults_out-append xs ys) ∙ least_of-append a.least (faults_out xs) (faults_out ys));
}
