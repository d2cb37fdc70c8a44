-- Steps of the loops that read up to an end.
use Rattle.std.proofs.Common.{◌≡◌, ◌≤◌, ◌-◌, ℕ, zero, suc, List, [], ◌∷◌, length, Result, Ok, Err, Bool, true, false, refl, sym, ap, ◌∙◌, arith}
use Rattle.std.specs.Prelude.{if◌then◌else◌, codes}
use Rattle.ds_lex.specs.declared.refusal.Refusal.{Refusal}
use Rattle.ds_lex.specs.declared.refusal.Refusal.TheVariants as refusal
use Rattle.ds_lex.specs.declared.refusal.Stop.{Stop}
use Rattle.ds_lex.specs.declared.refusal.Stop.TheVariants as stop
use Rattle.ds_lex.specs.Lexemes.{Lexeme}
use Rattle.ds_lex.specs.Reading.{◌>>=◌, Fails, accept_at, expect_at, token_at}
use Rattle.config_read.specs.declared.fault.ConfigWhy.{ConfigWhy}
use Rattle.config_read.specs.Reading.{Read, until_closed, entry_at, node_at, further_node_at}
use Rattle.config_read.proofs.Fronts.{Fewer, accepted, not_accepted}

-- a reader that fails fails with whatever follows
pub fails_bind : {A B : Type 0} → (e : Stop ConfigWhy) (read : Result A (Refusal ConfigWhy)) (f : A → Result B (Refusal ConfigWhy)) → Fails e read → Fails e (read >>= f)
fails_bind stop.Memory read f h = h
fails_bind (stop.Refused r) read f h = ap (λ x. x >>= f) h

-- nothing is read of no tokens
abbrev pub Begins : {A : Type 0} → (A → List Lexeme → Read A) → Type 0
Begins {A} one = (x : A) → one x [] ≡ Err refusal.AtEnd

pub entry_begins : Begins entry_at
unfolding entry_at token_at
entry_begins x = refl

pub node_begins : Begins further_node_at
unfolding further_node_at node_at expect_at
node_begins x = refl

none_left : {A : Type 0} → (one : A → List Lexeme → Read A) (n : ℕ) (x : A) → Begins one → until_closed one n x [] ≡ Err refusal.AtEnd
unfolding until_closed accept_at
none_left one zero x b = refl
none_left one (suc n) x b = rw (b x) refl

-- a further one, or the end
abbrev step : {A : Type 0} → (Bool × List Lexeme) → A → Read A → (A → List Lexeme → Read A) → Read A
step c x read more = if c.0 then Ok (x, c.1) else (read >>= λ y. more y.0 y.1)

same_by : {A : Type 0} → (one : A → List Lexeme → Read A) (c : Bool × List Lexeme) (n m : ℕ) (x : A) (ts : List Lexeme) (read : Read A) → one x ts ≡ read
    → ((y : A) (rest : List Lexeme) → one x ts ≡ Ok (y, rest) → until_closed one n y rest ≡ until_closed one m y rest)
    → step c x read (until_closed one n) ≡ step c x read (until_closed one m)
same_by one (true, us) n m x ts read e more = refl
same_by one (false, us) n m x ts (Err r) e more = refl
same_by one (false, us) n m x ts (Ok y) e more = more y.0 y.1 e

-- enough is enough
pub same : {A : Type 0} → (one : A → List Lexeme → Read A) (n m : ℕ) (x : A) (ts : List Lexeme) → Fewer one → Begins one → length ts ≤ n → length ts ≤ m → until_closed one n x ts ≡ until_closed one m x ts
unfolding until_closed
same one n m x [] f b h k = none_left one n x b ∙ sym (none_left one m x b)
same one zero m x (t ∷ ts) f b h k = absurd (omega arith)
same one (suc n) zero x (t ∷ ts) f b h k = absurd (omega arith)
same one (suc n) (suc m) x (t ∷ ts) f b h k =
    same_by one (accept_at (codes "}") (t ∷ ts)) n m x (t ∷ ts) (one x (t ∷ ts)) refl
    (λ y rest e. let less = f x y (t ∷ ts) rest e in same one n m y rest f b (omega (arith, less)) (omega (arith, less)))

once : {A : Type 0} → (one : A → List Lexeme → Read A) (n : ℕ) (x : A) (ts : List Lexeme) → 1 ≤ n → until_closed one n x ts ≡ step (accept_at (codes "}") ts) x (one x ts) (until_closed one (n - 1))
unfolding until_closed
once one zero x ts h = absurd (omega arith)
once one (suc n) x ts h = let e : suc n - 1 ≡ n = omega arith in rw e refl

pub closes : {A : Type 0} → (one : A → List Lexeme → Read A) (x : A) (ts rest : List Lexeme) → (true, rest) ≡ accept_at (codes "}") ts → until_closed one (length ts) x ts ≡ Ok (x, rest)
closes one x ts rest e =
    let k = accepted (codes "}") ts rest e in
    once one (length ts) x ts (omega (arith, k)) ∙ rw (← e) refl

not_end : (ts us : List Lexeme) → (let r : Bool × List Lexeme = (false, us) in r) ≡ accept_at (codes "}") ts → (accept_at (codes "}") ts).0 ≡ false
not_end ts us e = sym (ap (λ p. p.0) e)

-- all fails where one does
pub fails : {A : Type 0} → (one : A → List Lexeme → Read A) (x : A) (ts us : List Lexeme) (e : Stop ConfigWhy) → Begins one → (false, us) ≡ accept_at (codes "}") ts → Fails e (one x us) → Fails e (until_closed one (length ts) x ts)
unfolding until_closed
fails one x [] us stop.Memory b c h = tt
fails one x [] us (stop.Refused r) b c h = sym (b x) ∙ (rw (not_accepted (codes "}") [] us c) at h)
fails one x (t ∷ ts) us e b c h = rw (not_end (t ∷ ts) us c) (fails_bind e (one x (t ∷ ts)) _ (rw (not_accepted (codes "}") (t ∷ ts) us c) at h))

stepped : {A : Type 0} → (one : A → List Lexeme → Read A) (n : ℕ) (x y : A) (ts us rest : List Lexeme) → (false, us) ≡ accept_at (codes "}") ts → one x us ≡ Ok (y, rest) → step (accept_at (codes "}") ts) x (one x ts) (until_closed one n) ≡ until_closed one n y rest
stepped one n x y ts us rest c h = rw (not_end ts us c, ← not_accepted (codes "}") ts us c, h) refl

pub goes_on : {A : Type 0} → (one : A → List Lexeme → Read A) (x y : A) (ts us rest : List Lexeme) → Fewer one → Begins one → (false, us) ≡ accept_at (codes "}") ts → one x us ≡ Ok (y, rest) → until_closed one (length ts) x ts ≡ until_closed one (length rest) y rest
goes_on one x y ts us rest f b c h =
    let less = f x y us rest h in
    let long = ap length (not_accepted (codes "}") ts us c) in
    once one (length ts) x ts (omega (arith, less, long)) ∙ (stepped one (length ts - 1) x y ts us rest c h ∙ same one (length ts - 1) (length rest) y rest f b (omega (arith, less, long)) (omega arith))
