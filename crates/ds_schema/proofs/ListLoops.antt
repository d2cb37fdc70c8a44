-- Steps of the loops that read lists with commas.
use Rattle.std.proofs.Common.{◌≡◌, ◌≤◌, ◌<◌, ◌-◌, ℕ, zero, suc, List, [], ◌∷◌, ◌++◌, Bool, true, false, Result, Ok, Err, length, refl, sym, ap, ◌∙◌, arith}
use Rattle.std.specs.Prelude.{codes, if◌then◌else◌}
use Rattle.ds_lex.specs.declared.refusal.Refusal.{Refusal}
use Rattle.ds_lex.specs.declared.refusal.Stop.{Stop}
use Rattle.ds_lex.specs.Lexemes.{Lexeme}
use Rattle.ds_lex.specs.Reading.{◌>>=◌, accept_at, Fails}
use Rattle.ds_lex.proofs.Readers.{fails_bind, none_accepted}
use Rattle.ds_schema.specs.ColumnReading.{new_name_at, key_at, further_at, more_at}
use Rattle.ds_schema.proofs.ListReaders.{One, accepted, passed, word_fewer}
use Rattle.ds_schema.proofs.NameReaders.{new_name_taken, key_taken}

-- a token at least is taken
abbrev pub Shrinks : {W X : Type 0} → One W X → Type 0
Shrinks {W} {X} one = (xs : List X) (ts rest : List Lexeme) (x : X) → one xs ts ≡ Ok (x, rest) → length rest < length ts

pub name_shrinks : {W : Type 0} (why : W) → Shrinks (new_name_at why)
name_shrinks why names ts rest x h = let e = ap length (new_name_taken why names ts rest x h).parts in omega (arith, e)

left_few : (b : Bool) (ts rest : List Lexeme) → accept_at (codes "desc") ts ≡ (b, rest) → length rest ≤ length ts
left_few true ts rest h = let k = word_fewer (codes "desc") ts rest (accepted (codes "desc") ts rest h) in omega (arith, k)
left_few false ts rest h = let e = ap length (passed (codes "desc") ts rest h) in omega (arith, e)

pub key_shrinks : {W : Type 0} (why : W) → Shrinks (key_at why)
key_shrinks why keys ts rest x h =
    let t = key_taken why keys ts rest x h in
    let e = ap length t.name.parts in
    let k = left_few x.1 t.between rest t.way in
    omega (arith, e, k)

abbrev choice : {W X : Type 0} → One W X → ℕ → List X → Bool × List Lexeme → Result (List X × List Lexeme) (Refusal W)
choice one n xs p = if p.0 then (one xs p.1 >>= λ x. further_at one n (xs ++ x.0 ∷ []) x.1) else Ok (xs, p.1)

none_left : {W X : Type 0} (one : One W X) (n : ℕ) (xs : List X) → further_at one n xs [] ≡ Ok (xs, [])
unfolding further_at
none_left one zero xs = refl
none_left one (suc n) xs = rw (none_accepted (codes ",")) refl

same_by : {W X : Type 0} (one : One W X) (n m : ℕ) (xs : List X) (us : List Lexeme) (v : Result (X × List Lexeme) (Refusal W)) → ((x : X) (rest : List Lexeme) → v ≡ Ok (x, rest) → further_at one n (xs ++ x ∷ []) rest ≡ further_at one m (xs ++ x ∷ []) rest)
    → (v >>= λ x. further_at one n (xs ++ x.0 ∷ []) x.1) ≡ (v >>= λ x. further_at one m (xs ++ x.0 ∷ []) x.1)
same_by one n m xs us (Ok (x, rest)) more = more x rest refl
same_by one n m xs us (Err e) more = refl

same_choice : {W X : Type 0} (one : One W X) (n m : ℕ) (xs : List X) (ts : List Lexeme) (p : Bool × List Lexeme) → accept_at (codes ",") ts ≡ p → Shrinks one
    → ((x : X) (rest : List Lexeme) → length rest < length ts → further_at one n (xs ++ x ∷ []) rest ≡ further_at one m (xs ++ x ∷ []) rest) → choice one n xs p ≡ choice one m xs p
same_choice one n m xs ts (false, us) e s more = refl
same_choice one n m xs ts (true, us) e s more =
    let k = word_fewer (codes ",") ts us (accepted (codes ",") ts us e) in
    same_by one n m xs us (one xs us) (λ x rest h. let l = s xs us rest x h in more x rest (omega (arith, k, l)))

-- enough is enough
enough : {W X : Type 0} (one : One W X) (n m : ℕ) (xs : List X) (ts : List Lexeme) → Shrinks one → length ts ≤ n → length ts ≤ m → further_at one n xs ts ≡ further_at one m xs ts
unfolding further_at
enough one n m xs [] s h k = none_left one n xs ∙ sym (none_left one m xs)
enough one zero m xs (t ∷ ts) s h k = absurd (omega arith)
enough one (suc n) zero xs (t ∷ ts) s h k = absurd (omega arith)
enough one (suc n) (suc m) xs (t ∷ ts) s h k =
    same_choice one n m xs (t ∷ ts) (accept_at (codes ",") (t ∷ ts)) refl s (λ x rest l. enough one n m (xs ++ x ∷ []) rest s (omega (arith, l)) (omega (arith, l)))

once : {W X : Type 0} (one : One W X) (n : ℕ) (xs : List X) (ts : List Lexeme) → 1 ≤ n → further_at one n xs ts ≡ choice one (n - 1) xs (accept_at (codes ",") ts)
unfolding further_at
once one zero xs ts h = absurd (omega arith)
once one (suc n) xs ts h = let e : suc n - 1 ≡ n = omega arith in rw e refl

pub comma_fewer : (ts rest : List Lexeme) → (let r : Bool × List Lexeme = (true, rest) in r) ≡ accept_at (codes ",") ts → length rest < length ts
comma_fewer ts rest h = word_fewer (codes ",") ts rest (accepted (codes ",") ts rest (sym h))

-- no comma comes
pub list_ends : {W X : Type 0} (one : One W X) (xs : List X) (ts rest : List Lexeme) → (let r : Bool × List Lexeme = (false, rest) in r) ≡ accept_at (codes ",") ts → more_at one xs ts ≡ Ok (xs, rest)
list_ends one xs [] rest h = none_left one 0 xs ∙ ap (λ (us : List Lexeme). Ok (xs, us)) (sym (passed (codes ",") [] rest (sym h)))
list_ends one xs (t ∷ ts) rest h = once one (length (t ∷ ts)) xs (t ∷ ts) (omega arith) ∙ rw (← h) refl

-- a comma comes, and a further one
pub list_goes_on : {W X : Type 0} (one : One W X) (xs : List X) (x : X) (ts us rest : List Lexeme) → Shrinks one → (let r : Bool × List Lexeme = (true, us) in r) ≡ accept_at (codes ",") ts → one xs us ≡ Ok (x, rest) → more_at one xs ts ≡ more_at one (xs ++ x ∷ []) rest
list_goes_on one xs x ts us rest s h e =
    let k = word_fewer (codes ",") ts us (accepted (codes ",") ts us (sym h)) in
    let l = s xs us rest x e in
    once one (length ts) xs ts (omega (arith, k)) ∙ (rw (← h, e) refl ∙ enough one (length ts - 1) (length rest) (xs ++ x ∷ []) rest s (omega (arith, k, l)) (omega arith))

-- a comma comes, and no further one
pub list_fails : {W X : Type 0} (one : One W X) (xs : List X) (ts us : List Lexeme) (e : Stop W) → (let r : Bool × List Lexeme = (true, us) in r) ≡ accept_at (codes ",") ts → Fails e (one xs us) → Fails e (more_at one xs ts)
list_fails one xs ts us e h f =
    let k = word_fewer (codes ",") ts us (accepted (codes ",") ts us (sym h)) in
    rw (once one (length ts) xs ts (omega (arith, k)), ← h) (fails_bind e (one xs us) _ f)
