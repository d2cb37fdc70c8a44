-- Steps of reading a list with commas.
use Rattle.std.proofs.Common.{◌≡◌, ◌≢◌, ◌-◌, ◌++◌, ◌∷◌, [], ℕ, zero, suc, List, Result, Ok, Err, true, false, refl, arith}
use Rattle.std.specs.Prelude.{if◌then◌else◌, codes}
use Rattle.ds_lex.specs.declared.refusal.Refusal.{Refusal}
use Rattle.ds_lex.specs.declared.refusal.Refusal.TheVariants as refusal
use Rattle.ds_lex.specs.declared.refusal.Stop.{Stop}
use Rattle.ds_lex.specs.Lexemes.{Lexeme}
use Rattle.ds_lex.specs.Reading.{◌>>=◌, Fails, accept_at}
use Rattle.ds_lex.proofs.Readers.{fails_bind}
use Rattle.osh_value.specs.Values.{with_commas}

abbrev One : Type 0 → Type 0 → Type 0
One W A = List A → List Lexeme → Result (A × List Lexeme) (Refusal W)

pub commas_none : {W A : Type 0} (one : One W A) (n : ℕ) (found : List A) (ts : List Lexeme) → n ≡ 0 → with_commas one n found ts ≡ Err refusal.AtEnd
unfolding with_commas
commas_none one zero found ts h = refl
commas_none one (suc n) found ts h = absurd (omega arith)

more : {W A : Type 0} (one : One W A) (n : ℕ) (found : List A) (ts : List Lexeme) → n ≢ 0 → with_commas one n found ts ≡ (one found ts >>= λ x. if (accept_at (codes ",") x.1).0 then with_commas one (n - 1) (found ++ x.0 ∷ []) (accept_at (codes ",") x.1).1 else Ok (found ++ x.0 ∷ [], (accept_at (codes ",") x.1).1))
unfolding with_commas
more one zero found ts h = absurd (h refl)
more one (suc n) found ts h = let e : suc n - 1 ≡ n = omega arith in rw e refl

pub commas_fail : {W A : Type 0} (one : One W A) (n : ℕ) (found : List A) (ts : List Lexeme) (e : Stop W) → n ≢ 0 → Fails e (one found ts) → Fails e (with_commas one n found ts)
commas_fail one n found ts e h f = rw (more one n found ts h) (fails_bind e (one found ts) _ f)

pub commas_last : {W A : Type 0} (one : One W A) (n : ℕ) (found : List A) (ts us rest : List Lexeme) (x : A) → n ≢ 0 → one found ts ≡ Ok (x, us) → accept_at (codes ",") us ≡ (false, rest) → with_commas one n found ts ≡ Ok (found ++ x ∷ [], rest)
commas_last one n found ts us rest x h a b = rw (more one n found ts h, a, b) refl

pub commas_next : {W A : Type 0} (one : One W A) (n : ℕ) (found : List A) (ts us rest : List Lexeme) (x : A) → n ≢ 0 → one found ts ≡ Ok (x, us) → accept_at (codes ",") us ≡ (true, rest) → with_commas one n found ts ≡ with_commas one (n - 1) (found ++ x ∷ []) rest
commas_next one n found ts us rest x h a b = rw (more one n found ts h, a, b) refl
