-- Where a reader of schemas refuses a token, and what that says of the tokens before it.
use Rattle.std.proofs.Common.{◌≡◌, ◌⊎◌, inl, inr, ℕ, List, [], ◌∷◌, ◌++◌, Bool, true, false, Result, Ok, Err, refl, sym, ap, ◌∙◌, append_assoc, subst, length}
use Rattle.std.specs.Str.{bytes_eq}
use Rattle.std.proofs.lemmas.List.{append-nil}
use Rattle.ds_lex.specs.declared.refusal.Refusal.{Refusal}
use Rattle.ds_lex.specs.declared.refusal.Refusal.TheVariants as refusal
use Rattle.ds_lex.specs.Lexemes.{Lexeme}
use Rattle.ds_lex.specs.Reading.{◌>>=◌, expect_at, accept_at, first_of}
use Rattle.ds_lex.specs.Phrases.{Phrase}
use Rattle.ds_lex.proofs.Readers.{Reader, Takes, Outcome, IsReader, bind, choose, gives, first_append, same_bytes, chosen, chosen_not, none_accepted, lacks, lacks_other}
use Rattle.ds_schema.specs.declared.schema.Field.{Field}
use Rattle.ds_schema.specs.declared.schema_text.fault.SchemaWhy.{SchemaWhy}
use Rattle.ds_schema.specs.declared.schema_text.fault.SchemaWhy.TheVariants as causes
use Rattle.schema_faults.specs.Places.{IsFree, NameStands, TypeStands, SizeStands}

-- what a refusal says by its cause
abbrev pub Reason : List Lexeme → Lexeme → SchemaWhy → Type 0
Reason before t causes.NoType = (fields : List Field) × TypeStands fields before t
Reason before t causes.Size = (fields : List Field) × SizeStands fields before t
Reason before t causes.Name = (fields : List Field) × NameStands fields before t × (IsFree fields t.bytes → ⊥)
Reason before t causes.Count = (fields : List Field) × NameStands fields before t × IsFree fields t.bytes × (length fields ≡ 256)
Reason before t causes.Syntax = Unit {0}
Reason before t causes.Token = ⊥

-- the reader refused this token, whatever follows it
pub record Halts {X : Type 0} (before : List Lexeme) (r : Reader SchemaWhy X) (ts : List Lexeme) (at : ℕ) (why : SchemaWhy) : Type 0 where
  pub front : List Lexeme
  pub token : Lexeme
  pub rest : List Lexeme
  pub parts : ts ≡ front ++ token ∷ rest
  pub place : at ≡ token.at
  pub again : (more : List Lexeme) → r (front ++ token ∷ more) ≡ Err (refusal.At token.at why)
  pub reason : Reason (before ++ front) token why

abbrev pub Halting : {X : Type 0} → List Lexeme → Reader SchemaWhy X → List Lexeme → Result (X × List Lexeme) (Refusal SchemaWhy) → Type 0
Halting before r ts (Ok p) = Unit {0}
Halting before r ts (Err refusal.AtEnd) = Unit {0}
Halting before r ts (Err (refusal.At at why)) = Halts before r ts at why

-- behind these tokens each refusal of the reader has its reason
abbrev pub Explains : {X : Type 0} → List Lexeme → Reader SchemaWhy X → Type 0
Explains before r = (ts : List Lexeme) → Halting before r ts (r ts)

pub gives_explains : {X : Type 0} (before : List Lexeme) (x : X) → Explains before (gives x)
gives_explains before x ts = tt

-- the first token was refused
pub halted : {X : Type 0} (before : List Lexeme) (r : Reader SchemaWhy X) (t : Lexeme) (ts : List Lexeme) (why : SchemaWhy) → ((more : List Lexeme) → r (t ∷ more) ≡ Err (refusal.At t.at why)) → Reason before t why → Halts before r (t ∷ ts) t.at why
halted before r t ts why again reason = record { front = []; token = t; rest = ts; parts = refl; place = refl; again = again; reason = subst (λ (b : List Lexeme). Reason b t why) (sym (append-nil before)) reason }

-- a reader that goes on behind a token as another one does
pub passed_on : {X : Type 0} (before : List Lexeme) (r s : Reader SchemaWhy X) (t : Lexeme) (ts : List Lexeme) → ((more : List Lexeme) → s (t ∷ more) ≡ r more) → (v : Result (X × List Lexeme) (Refusal SchemaWhy)) → Halting (before ++ t ∷ []) r ts v → Halting before s (t ∷ ts) v
passed_on before r s t ts step (Ok p) h = tt
passed_on before r s t ts step (Err refusal.AtEnd) h = tt
passed_on before r s t ts step (Err (refusal.At at why)) h = record {
  front = t ∷ h.front;
  token = h.token;
  rest = h.rest;
  parts = ap (λ (xs : List Lexeme). t ∷ xs) h.parts;
  place = h.place;
  again = λ more. step (h.front ++ h.token ∷ more) ∙ h.again more;
  reason = subst (λ (b : List Lexeme). Reason b h.token why) (append_assoc before (t ∷ []) h.front) h.reason;
}

same_halting : {X : Type 0} (before : List Lexeme) (r s : Reader SchemaWhy X) (ts : List Lexeme) → ((us : List Lexeme) → s us ≡ r us) → (v : Result (X × List Lexeme) (Refusal SchemaWhy)) → Halting before r ts v → Halting before s ts v
same_halting before r s ts same (Ok p) h = tt
same_halting before r s ts same (Err refusal.AtEnd) h = tt
same_halting before r s ts same (Err (refusal.At at why)) h = record {
  front = h.front;
  token = h.token;
  rest = h.rest;
  parts = h.parts;
  place = h.place;
  again = λ more. same (h.front ++ h.token ∷ more) ∙ h.again more;
  reason = h.reason;
}

-- a reader in place of an equal one
pub same_explains : {X : Type 0} (before : List Lexeme) (r s : Reader SchemaWhy X) → ((us : List Lexeme) → s us ≡ r us) → Explains before r → Explains before s
same_explains before r s same e ts = rw (same ts) (same_halting before r s ts same (r ts) (e ts))

-- ---- one token

-- what a reader of one token does with it
abbrev pub Step : {X : Type 0} → List Lexeme → (Lexeme → X → Type 0) → Reader SchemaWhy X → Lexeme → Type 0
Step {X} before Q r t =
    ((x : X) × Q t x × ((more : List Lexeme) → r (t ∷ more) ≡ Ok (x, more)))
    ⊎ ((why : SchemaWhy) × Reason before t why × ((more : List Lexeme) → r (t ∷ more) ≡ Err (refusal.At t.at why)))

abbrev on : {X Y : Type 0} → (X → Reader SchemaWhy Y) → Result (X × List Lexeme) (Refusal SchemaWhy) → Result (Y × List Lexeme) (Refusal SchemaWhy)
on f o = o >>= λ p. f p.0 p.1

pub step_then : {X Y : Type 0} (before : List Lexeme) (Q : Lexeme → X → Type 0) (r : Reader SchemaWhy X) (f : X → Reader SchemaWhy Y) → r [] ≡ Err refusal.AtEnd → ((t : Lexeme) → Step before Q r t) → ((t : Lexeme) (x : X) → Q t x → Explains (before ++ t ∷ []) (f x)) → Explains before (bind r f)
step_then before Q r f none step next [] = rw none tt
step_then before Q r f none step next (t ∷ ts) =
    elim (step t) [
      | inl a ↦ rw (a.2 ts) (passed_on before (f a.0) (bind r f) t ts (λ more. ap (on f) (a.2 more)) (f a.0 ts) (next t a.0 a.1 ts))
      | inr b ↦ rw (b.2 ts) (halted before (bind r f) t ts b.0 (λ more. ap (on f) (b.2 more)) b.1)
    ]

-- this word or sign
abbrev pub IsSaid : List ℕ → Lexeme → Lexeme → Type 0
IsSaid bytes t x = (x ≡ t) × (t.bytes ≡ bytes)

expect_by : (before : List Lexeme) (bytes : List ℕ) (t : Lexeme) (b : Bool) → bytes_eq t.bytes bytes ≡ b → Step before (IsSaid bytes) (expect_at bytes causes.Syntax) t
unfolding expect_at
expect_by before bytes t true e = inl (t, (refl, same_bytes t.bytes bytes e), λ more. rw e refl)
expect_by before bytes t false e = inr (causes.Syntax, tt, λ more. rw e refl)

expect_none : (bytes : List ℕ) → expect_at bytes causes.Syntax [] ≡ Err refusal.AtEnd
unfolding expect_at
expect_none bytes = refl

pub expect_then : {Y : Type 0} (before : List Lexeme) (bytes : List ℕ) (f : Lexeme → Reader SchemaWhy Y) → ((t : Lexeme) → t.bytes ≡ bytes → Explains (before ++ t ∷ []) (f t)) → Explains before (bind (expect_at bytes causes.Syntax) f)
expect_then before bytes f next =
    step_then before (IsSaid bytes) (expect_at bytes causes.Syntax) f (expect_none bytes) (λ t. expect_by before bytes t (bytes_eq t.bytes bytes) refl) (λ t x q. subst (λ (y : Lexeme). Explains (before ++ t ∷ []) (f y)) (sym q.0) (next t q.1))

-- ---- one reader and then another

taken : {X Y : Type 0} (P : X → Phrase) (before : List Lexeme) (r : Reader SchemaWhy X) (f : X → Reader SchemaWhy Y) (ts : List Lexeme) (x : X) (mid : List Lexeme) (a : Takes P r ts x mid) → (v : Result (Y × List Lexeme) (Refusal SchemaWhy)) → Halting (before ++ a.front) (f x) mid v → Halting before (bind r f) ts v
taken P before r f ts x mid a (Ok p) h = tt
taken P before r f ts x mid a (Err refusal.AtEnd) h = tt
taken P before r f ts x mid a (Err (refusal.At at why)) h = record {
  front = a.front ++ h.front;
  token = h.token;
  rest = h.rest;
  parts = a.parts ∙ (ap (λ (xs : List Lexeme). a.front ++ xs) h.parts ∙ sym (append_assoc a.front h.front (h.token ∷ h.rest)));
  place = h.place;
  again = λ more.
      ap (bind r f) (append_assoc a.front h.front (h.token ∷ more))
      ∙ (ap (on f) (a.again (h.front ++ h.token ∷ more) (first_append h.front (h.token ∷ more) (h.token ∷ h.rest) refl ∙ sym (ap first_of h.parts))) ∙ h.again more);
  reason = subst (λ (b : List Lexeme). Reason b h.token why) (append_assoc before a.front h.front) h.reason;
}

-- tokens of which the phrase holds, whatever follows
abbrev pub Fronts : Phrase → List Lexeme → Type 0
Fronts P front = (more : List Lexeme) → P (front ++ more) more

bind_by : {X Y : Type 0} (P : X → Phrase) (before : List Lexeme) (r : Reader SchemaWhy X) (f : X → Reader SchemaWhy Y) → ((x : X) (front : List Lexeme) → Fronts (P x) front → Explains (before ++ front) (f x)) → (ts : List Lexeme) (v : Result (X × List Lexeme) (Refusal SchemaWhy)) → Outcome P r ts v → Halting before r ts v → Halting before (bind r f) ts (on f v)
bind_by P before r f next ts (Ok p) a h = taken P before r f ts p.0 p.1 a (f p.0 p.1) (next p.0 a.front a.holds p.1)
bind_by P before r f next ts (Err refusal.AtEnd) a h = tt
bind_by P before r f next ts (Err (refusal.At at why)) a h = record {
  front = h.front;
  token = h.token;
  rest = h.rest;
  parts = h.parts;
  place = h.place;
  again = λ more. ap (on f) (h.again more);
  reason = h.reason;
}

pub bind_explains : {X Y : Type 0} (P : X → Phrase) (before : List Lexeme) (r : Reader SchemaWhy X) (f : X → Reader SchemaWhy Y) → IsReader P r → Explains before r → ((x : X) (front : List Lexeme) → Fronts (P x) front → Explains (before ++ front) (f x)) → Explains before (bind r f)
bind_explains P before r f reads first next ts = bind_by P before r f next ts (r ts) (reads ts) (first ts)

-- ---- readers that go by the next word or sign

lacks_by : (bytes : List ℕ) (t : Lexeme) (ts us : List Lexeme) (b : Bool) → bytes_eq t.bytes bytes ≡ b → lacks bytes (t ∷ ts) → lacks bytes (t ∷ us)
unfolding accept_at
lacks_by bytes t ts us true e h = let k = rw e at h in let no : true ≡ false = ap (λ (p : Bool × List Lexeme). p.0) k in absurd cc
lacks_by bytes t ts us false e h = lacks_other bytes t us e

still_lacks : (bytes : List ℕ) (front : List Lexeme) (t : Lexeme) (rest more : List Lexeme) → lacks bytes (front ++ t ∷ rest) → lacks bytes (front ++ t ∷ more)
still_lacks bytes [] t rest more h = lacks_by bytes t rest more (bytes_eq t.bytes bytes) refl h
still_lacks bytes (u ∷ front) t rest more h = lacks_by bytes u (front ++ t ∷ rest) (front ++ t ∷ more) (bytes_eq u.bytes bytes) refl h

kept : {X : Type 0} (before : List Lexeme) (bytes : List ℕ) (r s : Reader SchemaWhy X) (ts : List Lexeme) → lacks bytes ts → (v : Result (X × List Lexeme) (Refusal SchemaWhy)) → Halting before s ts v → Halting before (choose bytes r s) ts v
kept before bytes r s ts e (Ok p) h = tt
kept before bytes r s ts e (Err refusal.AtEnd) h = tt
kept before bytes r s ts e (Err (refusal.At at why)) h = record {
  front = h.front;
  token = h.token;
  rest = h.rest;
  parts = h.parts;
  place = h.place;
  again = λ more. chosen_not bytes r s (h.front ++ h.token ∷ more) (still_lacks bytes h.front h.token h.rest more (subst (lacks bytes) h.parts e)) ∙ h.again more;
  reason = h.reason;
}

choose_by : {X : Type 0} (before : List Lexeme) (bytes : List ℕ) (r s : Reader SchemaWhy X) → ((t : Lexeme) → t.bytes ≡ bytes → Explains (before ++ t ∷ []) r) → Explains before s → (t : Lexeme) (ts : List Lexeme) (b : Bool) → bytes_eq t.bytes bytes ≡ b → Halting before (choose bytes r s) (t ∷ ts) (choose bytes r s (t ∷ ts))
choose_by before bytes r s p q t ts true e =
    let said = same_bytes t.bytes bytes e in
    rw (chosen bytes r s t ts said) (passed_on before r (choose bytes r s) t ts (λ more. chosen bytes r s t more said) (r ts) (p t said ts))
choose_by before bytes r s p q t ts false e =
    let no = lacks_other bytes t ts e in
    rw (chosen_not bytes r s (t ∷ ts) no) (kept before bytes r s (t ∷ ts) no (s (t ∷ ts)) (q (t ∷ ts)))

pub choose_explains : {X : Type 0} (before : List Lexeme) (bytes : List ℕ) (r s : Reader SchemaWhy X) → ((t : Lexeme) → t.bytes ≡ bytes → Explains (before ++ t ∷ []) r) → Explains before s → Explains before (choose bytes r s)
choose_explains before bytes r s p q [] =
    let no = none_accepted bytes in
    rw (chosen_not bytes r s [] no) (kept before bytes r s [] no (s []) (q []))
choose_explains before bytes r s p q (t ∷ ts) = choose_by before bytes r s p q t ts (bytes_eq t.bytes bytes) refl
