-- Lists with commas: what is read is one, and what is one is read.
use Rattle.std.proofs.Common.{◌≡◌, ◌≤◌, ◌<◌, ℕ, zero, suc, List, [], ◌∷◌, ◌++◌, Bool, true, false, Result, Ok, length, refl, sym, ap, ◌∙◌, arith, subst, append_assoc}
use Rattle.std.specs.Prelude.{codes, if◌then◌else◌}
use Rattle.std.specs.Str.{bytes_eq}
use Rattle.std.proofs.lemmas.List.{append-nil}
use Rattle.ds_lex.specs.declared.refusal.Refusal.{Refusal}
use Rattle.ds_lex.specs.Lexemes.{Lexeme}
use Rattle.ds_lex.specs.Reading.{◌>>=◌, accept_at}
use Rattle.ds_lex.specs.Phrases.{Phrase, word}
use Rattle.ds_lex.proofs.Readers.{lacks, same_bytes, bytes_same, bind_ok}
use Rattle.ds_schema.specs.ColumnGrammar.{AreNamed, further}
use Rattle.ds_schema.specs.ColumnReading.{further_at}
use Rattle.ds_schema.proofs.NamedLists.{front_named}

-- ---- pairs

pair_parts : {A B : Type 0} → (x y : A × B) → x ≡ y → (x.0 ≡ y.0) × (x.1 ≡ y.1)
pair_parts x y e = (ap (λ p. p.0) e, ap (λ p. p.1) e)

ok_is : {A E : Type 0} → (x y : A) → (let r : Result A E = Ok x in r) ≡ Ok y → x ≡ y
ok_is x y h = cc

pub ok_parts : {A B E : Type 0} → (x y : A × B) → (let r : Result (A × B) E = Ok x in r) ≡ Ok y → (x.0 ≡ y.0) × (x.1 ≡ y.1)
ok_parts x y h = pair_parts x y (ok_is x y h)

-- ---- the next word or sign

accepted_by : (bytes : List ℕ) (t : Lexeme) (ts rest : List Lexeme) (b : Bool) → bytes_eq t.bytes bytes ≡ b → (let r : Bool × List Lexeme = if b then (true, ts) else (false, t ∷ ts) in r) ≡ (true, rest) → word bytes (t ∷ ts) rest
accepted_by bytes t ts rest true e h = (same_bytes t.bytes bytes e, (pair_parts (true, ts) (true, rest) h).1)
accepted_by bytes t ts rest false e h = let n = (pair_parts (false, t ∷ ts) (true, rest) h).0 in absurd cc

-- a word that came was there
pub accepted : (bytes : List ℕ) (ts rest : List Lexeme) → accept_at bytes ts ≡ (true, rest) → word bytes ts rest
unfolding accept_at
accepted bytes [] rest h = let n = (pair_parts (false, []) (true, rest) h).0 in absurd cc
accepted bytes (t ∷ ts) rest h = accepted_by bytes t ts rest (bytes_eq t.bytes bytes) refl h

pub accepts : (bytes : List ℕ) (ts rest : List Lexeme) → word bytes ts rest → accept_at bytes ts ≡ (true, rest)
unfolding accept_at
accepts bytes [] rest h = absurd h
accepts bytes (t ∷ ts) rest h = rw (bytes_same t.bytes bytes h.0, h.1) refl

passed_by : (bytes : List ℕ) (t : Lexeme) (ts rest : List Lexeme) (b : Bool) → (let r : Bool × List Lexeme = if b then (true, ts) else (false, t ∷ ts) in r) ≡ (false, rest) → rest ≡ t ∷ ts
passed_by bytes t ts rest true h = let n = (pair_parts (true, ts) (false, rest) h).0 in absurd cc
passed_by bytes t ts rest false h = sym (pair_parts (false, t ∷ ts) (false, rest) h).1

-- a word that didn't come left the tokens
pub passed : (bytes : List ℕ) (ts rest : List Lexeme) → accept_at bytes ts ≡ (false, rest) → rest ≡ ts
unfolding accept_at
passed bytes [] rest h = sym (pair_parts (false, []) (false, rest) h).1
passed bytes (t ∷ ts) rest h = passed_by bytes t ts rest (bytes_eq t.bytes bytes) h

pub word_fewer : (bytes : List ℕ) (ts rest : List Lexeme) → word bytes ts rest → length rest < length ts
word_fewer bytes [] rest h = absurd h
word_fewer bytes (t ∷ ts) rest h = let e = ap length h.1 in omega (arith, e)

-- ---- what is read

abbrev pub One : Type 0 → Type 0 → Type 0
One W X = List X → List Lexeme → Result (X × List Lexeme) (Refusal W)

-- what is read as one further is one
abbrev pub TakesOne : {W X : Type 0} → (X → List ℕ) → (X → Phrase) → One W X → Type 0
TakesOne {W} {X} name P one = (xs : List X) (ts rest : List Lexeme) (x : X) → AreNamed name xs → one xs ts ≡ Ok (x, rest) → P x ts rest × AreNamed name (xs ++ x ∷ [])

-- these, of which some were read before, and the others stand here
pub record Extends {X : Type 0} (name : X → List ℕ) (P : X → Phrase) (xs all : List X) (ts rest : List Lexeme) : Type 0 where
  pub others : List X
  pub joined : all ≡ xs ++ others
  pub named : AreNamed name all
  pub stand : further P others ts rest

abbrev choice : {W X : Type 0} → One W X → ℕ → List X → Bool × List Lexeme → Result (List X × List Lexeme) (Refusal W)
choice one n xs p = if p.0 then (one xs p.1 >>= λ x. further_at one n (xs ++ x.0 ∷ []) x.1) else Ok (xs, p.1)

none_further : {X : Type 0} (name : X → List ℕ) (P : X → Phrase) (xs all : List X) (ts rest : List Lexeme) → AreNamed name xs → all ≡ xs → ts ≡ rest → Extends name P xs all ts rest
none_further name P xs all ts rest a e f = record { others = []; joined = e ∙ sym (append-nil xs); named = subst (AreNamed name) (sym e) a; stand = f }

one_further : {X : Type 0} (name : X → List ℕ) (P : X → Phrase) (xs all : List X) (x : X) (ts one two rest : List Lexeme) → word (codes ",") ts one → P x one two → Extends name P (xs ++ x ∷ []) all two rest → Extends name P xs all ts rest
one_further name P xs all x ts one two rest w h e = record {
  others = x ∷ e.others;
  joined = e.joined ∙ append_assoc xs (x ∷ []) e.others;
  named = e.named;
  stand = (one, w, (two, h, e.stand));
}

further_by : {W X : Type 0} (name : X → List ℕ) (P : X → Phrase) (one : One W X) → TakesOne name P one → (n : ℕ) (xs all : List X) (ts rest : List Lexeme) (p : Bool × List Lexeme)
    → ((x : X) (us : List Lexeme) → AreNamed name (xs ++ x ∷ []) → further_at one n (xs ++ x ∷ []) us ≡ Ok (all, rest) → Extends name P (xs ++ x ∷ []) all us rest)
    → accept_at (codes ",") ts ≡ p → AreNamed name xs → choice one n xs p ≡ Ok (all, rest) → Extends name P xs all ts rest
further_by name P one takes n xs all ts rest (false, us) more e a h =
    let k = ok_parts (xs, us) (all, rest) h in
    none_further name P xs all ts rest a (sym k.0) (sym (passed (codes ",") ts us e) ∙ k.1)
further_by name P one takes n xs all ts rest (true, us) more e a h =
    let b = bind_ok (one xs us) (λ x. further_at one n (xs ++ x.0 ∷ []) x.1) (all, rest) h in
    let t = takes xs us b.0.1 b.0.0 a b.1 in
    one_further name P xs all b.0.0 ts us b.0.1 rest (accepted (codes ",") ts us e) t.0 (more b.0.0 b.0.1 t.1 b.2)

pub further_taken : {W X : Type 0} (name : X → List ℕ) (P : X → Phrase) (one : One W X) → TakesOne name P one → (n : ℕ) (xs all : List X) (ts rest : List Lexeme) → AreNamed name xs → further_at one n xs ts ≡ Ok (all, rest) → Extends name P xs all ts rest
unfolding further_at
further_taken name P one takes zero xs all ts rest a h = let k = ok_parts (xs, ts) (all, rest) h in none_further name P xs all ts rest a (sym k.0) k.1
further_taken name P one takes (suc n) xs all ts rest a h =
    further_by name P one takes n xs all ts rest (accept_at (codes ",") ts) (λ x us b k. further_taken name P one takes n (xs ++ x ∷ []) all us rest b k) refl a h

-- ---- what is spelled so is read

-- What is one further is read as one, before tokens of which F holds, and it has tokens.
pub record ReadsOne {W X : Type 0} (name : X → List ℕ) (P : X → Phrase) (one : One W X) (F : List Lexeme → Type 0) : Type 0 where
  pub read : (xs : List X) (ts rest : List Lexeme) (x : X) → AreNamed name (xs ++ x ∷ []) → P x ts rest → F rest → one xs ts ≡ Ok (x, rest)
  pub fewer : (x : X) (ts rest : List Lexeme) → P x ts rest → length rest < length ts
  pub comma : (ts rest : List Lexeme) → word (codes ",") ts rest → F ts

-- what follows one
pub follows : {X : Type 0} (P : X → Phrase) (F : List Lexeme → Type 0) → ((ts rest : List Lexeme) → word (codes ",") ts rest → F ts) → (others : List X) (ts rest : List Lexeme) → further P others ts rest → F rest → F ts
follows P F comma [] ts rest h f = subst F (sym h) f
follows P F comma (x ∷ others) ts rest h f = comma ts h.0 h.1

pub further_read : {W X : Type 0} (name : X → List ℕ) (P : X → Phrase) (one : One W X) (F : List Lexeme → Type 0) → ReadsOne name P one F → (others : List X) (n : ℕ) (xs : List X) (ts rest : List Lexeme)
    → length ts ≤ n → AreNamed name (xs ++ others) → further P others ts rest → lacks (codes ",") rest → F rest → further_at one n xs ts ≡ Ok (xs ++ others, rest)
unfolding further_at
further_read name P one F r [] zero xs ts rest len a h l f = rw (append-nil xs, h) refl
further_read name P one F r [] (suc n) xs ts rest len a h l f = rw (append-nil xs, h, l) refl
further_read name P one F r (x ∷ others) zero xs ts rest len a h l f = absurd (let k = word_fewer (codes ",") ts h.0 h.1 in omega (arith, k))
further_read name P one F r (x ∷ others) (suc n) xs ts rest len a h l f =
    let w = word_fewer (codes ",") ts h.0 h.1 in
    let s = r.fewer x h.0 h.2.0 h.2.1 in
    let b : AreNamed name ((xs ++ x ∷ []) ++ others) = subst (AreNamed name) (sym (append_assoc xs (x ∷ []) others)) a in
    let this = r.read xs h.0 h.2.0 x (front_named name (xs ++ x ∷ []) others b) h.2.1 (follows P F r.comma others h.2.0 rest h.2.2 f) in
    let more = further_read name P one F r others n (xs ++ x ∷ []) h.2.0 rest (omega (arith, w, s)) b h.2.2 l f in
    rw (accepts (codes ",") ts h.0 h.1, this, more, append_assoc xs (x ∷ []) others) refl
