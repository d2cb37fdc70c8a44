-- Lists with commas: what is read is one, and what is one is read.
use Rattle.std.proofs.Common.{◌≡◌, ◌≤◌, ◌<◌, ℕ, zero, suc, List, [], ◌∷◌, ◌++◌, length, Bool, true, false, Ok, refl, sym, ap, ◌∙◌, subst, append_assoc, arith}
use Rattle.std.specs.Prelude.{if◌then◌else◌, codes}
use Rattle.ds_lex.specs.Lexemes.{Lexeme}
use Rattle.ds_lex.specs.Reading.{accept_at}
use Rattle.ds_lex.specs.Phrases.{Phrase}
use Rattle.ds_lex.proofs.Readers.{bind_ok, none_accepted}
use Rattle.ds_schema.specs.ColumnGrammar.{further, listed}
use Rattle.ds_schema.proofs.ListReaders.{ok_parts, accepted, accepts, passed, word_fewer}
use Rattle.osh_value.specs.Values.{Inside, with_commas}

abbrev pub One : Type 0 → Type 0
One X = List X → List Lexeme → Inside X

-- ---- what is read

-- what is read as one more is one, and fits those before
abbrev pub TakesOne : {X : Type 0} → (List X → Type 0) → (X → Phrase) → One X → Type 0
TakesOne {X} Fits P one = (found : List X) (ts rest : List Lexeme) (x : X) → Fits found → one found ts ≡ Ok (x, rest) → P x ts rest × Fits (found ++ x ∷ [])

-- behind those that were found stand one and some more
pub record Stands {X : Type 0} (Fits : List X → Type 0) (P : X → Phrase) (found all : List X) (ts rest : List Lexeme) : Type 0 where
  pub first : X
  pub others : List X
  pub joined : all ≡ found ++ first ∷ others
  pub fits : Fits all
  pub between : List Lexeme
  pub one : P first ts between
  pub more : further P others between rest

taken_by : {X : Type 0} (Fits : List X → Type 0) (P : X → Phrase) (one : One X) (n : ℕ) (found all : List X) (x : X) (ts us rest : List Lexeme) (p : Bool × List Lexeme)
    → ((vs : List Lexeme) → with_commas one n (found ++ x ∷ []) vs ≡ Ok (all, rest) → Stands Fits P (found ++ x ∷ []) all vs rest)
    → accept_at (codes ",") us ≡ p → P x ts us → Fits (found ++ x ∷ []) → (if p.0 then with_commas one n (found ++ x ∷ []) p.1 else Ok (found ++ x ∷ [], p.1)) ≡ Ok (all, rest) → Stands Fits P found all ts rest
taken_by Fits P one n found all x ts us rest (false, vs) more e h f r =
    let k = ok_parts (found ++ x ∷ [], vs) (all, rest) r in
    record { first = x; others = []; joined = sym k.0; fits = subst Fits k.0 f; between = us; one = h; more = sym (passed (codes ",") us vs e) ∙ k.1 }
taken_by Fits P one n found all x ts us rest (true, vs) more e h f r =
    let m = more vs r in
    record {
      first = x;
      others = m.first ∷ m.others;
      joined = m.joined ∙ append_assoc found (x ∷ []) (m.first ∷ m.others);
      fits = m.fits;
      between = us;
      one = h;
      more = (vs, accepted (codes ",") us vs e, (m.between, m.one, m.more));
    }

commas_taken : {X : Type 0} (Fits : List X → Type 0) (P : X → Phrase) (one : One X) → TakesOne Fits P one → (n : ℕ) (found all : List X) (ts rest : List Lexeme) → Fits found → with_commas one n found ts ≡ Ok (all, rest) → Stands Fits P found all ts rest
unfolding with_commas
commas_taken Fits P one takes zero found all ts rest f h = absurd cc
commas_taken Fits P one takes (suc n) found all ts rest f h =
    let a = bind_ok (one found ts) _ (all, rest) h in
    let t = takes found ts a.0.1 a.0.0 f a.1 in
    taken_by Fits P one n found all a.0.0 ts a.0.1 rest (accept_at (codes ",") a.0.1) (λ vs k. commas_taken Fits P one takes n (found ++ a.0.0 ∷ []) all vs rest t.1 k) refl t.0 t.1 a.2

pub list_taken : {X : Type 0} (Fits : List X → Type 0) (P : X → Phrase) (one : One X) → TakesOne Fits P one → Fits [] → (ts rest : List Lexeme) (xs : List X) → with_commas one (length ts) [] ts ≡ Ok (xs, rest) → Fits xs × listed P xs ts rest
list_taken {X} Fits P one takes f ts rest xs h =
    let s = commas_taken Fits P one takes (length ts) [] xs ts rest f h in
    (s.fits, subst (λ (ys : List X). listed P ys ts rest) (sym s.joined) (s.between, s.one, s.more))

-- ---- what is spelled so

-- what is one more, and fits those before, is read as one, and has tokens
pub record ReadsOne {X : Type 0} (Fits : List X → Type 0) (P : X → Phrase) (one : One X) : Type 0 where
  pub read : (found : List X) (x : X) (ts rest : List Lexeme) → Fits (found ++ x ∷ []) → P x ts rest → one found ts ≡ Ok (x, rest)
  pub fewer : (x : X) (ts rest : List Lexeme) → P x ts rest → length rest < length ts
  pub front : (xs ys : List X) → Fits (xs ++ ys) → Fits xs

commas_read : {X : Type 0} (Fits : List X → Type 0) (P : X → Phrase) (one : One X) → ReadsOne Fits P one → (n : ℕ) (found : List X) (x : X) (others : List X) (ts us : List Lexeme)
    → length ts ≤ n → P x ts us → further P others us [] → Fits (found ++ x ∷ others) → with_commas one n found ts ≡ Ok (found ++ x ∷ others, [])
unfolding with_commas
commas_read Fits P one r zero found x others ts us l p f h = let k = r.fewer x ts us p in absurd (omega (arith, k))
commas_read Fits P one r (suc n) found x [] ts us l p f h = rw (r.read found x ts us h p, f, none_accepted (codes ",")) refl
commas_read Fits P one r (suc n) found x (y ∷ ys) ts us l p f h =
    let k = r.fewer x ts us p in
    let c = word_fewer (codes ",") us f.0 f.1 in
    let all : Fits ((found ++ x ∷ []) ++ y ∷ ys) = subst Fits (sym (append_assoc found (x ∷ []) (y ∷ ys))) h in
    rw (r.read found x ts us (r.front (found ++ x ∷ []) (y ∷ ys) all) p, accepts (codes ",") us f.0 f.1)
    (commas_read Fits P one r n (found ++ x ∷ []) y ys f.0 f.2.0 (omega (arith, k, c)) f.2.1 f.2.2 all ∙ ap (λ zs. Ok (zs, [])) (append_assoc found (x ∷ []) (y ∷ ys)))

pub list_read : {X : Type 0} (Fits : List X → Type 0) (P : X → Phrase) (one : One X) → ReadsOne Fits P one → (xs : List X) (ts : List Lexeme) → Fits xs × listed P xs ts [] → with_commas one (length ts) [] ts ≡ Ok (xs, [])
list_read Fits P one r [] ts h = absurd h.1
list_read Fits P one r (x ∷ xs) ts h = commas_read Fits P one r (length ts) [] x xs ts h.1.0 (omega arith) h.1.1 h.1.2 h.0
