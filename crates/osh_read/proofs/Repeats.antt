-- Steps of reading what may come several times.
use Rattle.std.proofs.Common.{◌≡◌, ◌≢◌, ◌-◌, ◌++◌, ◌∷◌, [], ℕ, zero, suc, List, Result, Ok, Err, Option, Some, None, refl, ap, sym, ◌∙◌, arith}
use Rattle.ds_lex.specs.declared.refusal.Stop.{Stop}
use Rattle.ds_lex.specs.Lexemes.{Lexeme}
use Rattle.ds_lex.specs.Reading.{◌>>=◌, Fails}
use Rattle.ds_lex.proofs.Readers.{fails_bind}
use Rattle.osh_read.specs.declared.fault.OshWhy.{OshWhy}
use Rattle.osh_read.specs.Reading.{Read, repeated, if_comes}

abbrev One : Type 0 → Type 0 → Type 0
One S X = S → List Lexeme → Read (Option X)

pub repeated_none : {S X : Type 0} (one : One S X) (add : S → X → S) (n : ℕ) (found : S) (ts : List Lexeme) → n ≡ 0 → repeated one add n found ts ≡ Ok (found, ts)
unfolding repeated
repeated_none one add zero found ts h = refl
repeated_none one add (suc n) found ts h = absurd (omega arith)

more : {S X : Type 0} (one : One S X) (add : S → X → S) (n : ℕ) (found : S) (ts : List Lexeme) → n ≢ 0 → repeated one add n found ts ≡ (one found ts >>= λ x. if_comes x.0 (λ y. repeated one add (n - 1) (add found y) x.1) (Ok (found, x.1)))
unfolding repeated
more one add zero found ts h = absurd (h refl)
more one add (suc n) found ts h = let e : suc n - 1 ≡ n = omega arith in rw e refl

pub repeated_fail : {S X : Type 0} (one : One S X) (add : S → X → S) (n : ℕ) (found : S) (ts : List Lexeme) (e : Stop OshWhy) → n ≢ 0 → Fails e (one found ts) → Fails e (repeated one add n found ts)
repeated_fail one add n found ts e h f = rw (more one add n found ts h) (fails_bind e (one found ts) _ f)

pub repeated_last : {S X : Type 0} (one : One S X) (add : S → X → S) (n : ℕ) (found : S) (ts rest : List Lexeme) → n ≢ 0 → one found ts ≡ Ok (None, rest) → repeated one add n found ts ≡ Ok (found, rest)
repeated_last one add n found ts rest h a = rw (more one add n found ts h, a) refl

pub repeated_next : {S X : Type 0} (one : One S X) (add : S → X → S) (n : ℕ) (found : S) (ts rest : List Lexeme) (x : X) → n ≢ 0 → one found ts ≡ Ok (Some x, rest) → repeated one add n found ts ≡ repeated one add (n - 1) (add found x) rest
repeated_next one add n found ts rest x h a = rw (more one add n found ts h, a) refl
