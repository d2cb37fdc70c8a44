-- A refused token is one with which no schema goes on, and its cause is known.
use Rattle.std.proofs.Common.{◌≡◌, ◌⊎◌, ◌+◌, inl, inr, ℕ, suc, List, [], ◌∷◌, ◌++◌, Result, Ok, Err, refl, sym, ap, ◌∙◌, append_assoc, subst, length, length-append, arith}
use Rattle.ds_lex.specs.declared.refusal.Refusal.{Refusal}
use Rattle.ds_lex.specs.declared.refusal.Refusal.TheVariants as refusal
use Rattle.ds_lex.specs.Lexemes.{Lexeme}
use Rattle.ds_lex.specs.Reading.{first_of, finish_at}
use Rattle.ds_lex.specs.Phrases.{AreWhole, IsAt}
use Rattle.ds_lex.proofs.Readers.{Outcome, IsSome}
use Rattle.ds_schema.specs.declared.schema.Field.{Field}
use Rattle.ds_schema.specs.declared.schema_text.fault.SchemaWhy.{SchemaWhy}
use Rattle.ds_schema.specs.declared.schema_text.fault.SchemaWhy.TheVariants as causes
use Rattle.ds_schema.specs.SchemaLaws.{schema_form}
use Rattle.ds_schema.specs.SchemaReading.{schema_at, whole_schema_at}
use Rattle.ds_schema.proofs.SchemaReaders.{schema_sound, spelled_is_read}
use Rattle.schema_faults.specs.Places.{IsFree}
use Rattle.schema_faults.specs.Causes.{IsCause, Begins}
use Rattle.schema_faults.proofs.Halting.{Reason, Halting}
use Rattle.schema_faults.proofs.FieldReasons.{schema_explains}
use Rattle.schema_faults.proofs.CauseAnswers.{ends, whole_is, NameCase, name_answer, type_answer, size_answer}

-- ---- what begins a schema

-- what can't be read is no schema
pub never : (ts : List Lexeme) (e : Refusal SchemaWhy) → whole_schema_at ts ≡ Err e → AreWhole schema_form ts → ⊥
never ts e h w = let k = spelled_is_read ts w.0 (w.1.1, w.1.0) in absurd cc

-- what begins a schema begins it with its next token
pub further : (before : List Lexeme) (t : Lexeme) (behind all : List Lexeme) → all ≡ before ++ t ∷ behind → Begins all → Begins (before ++ t ∷ [])
further before t behind all e h =
    let same : (before ++ t ∷ behind) ++ h.0 ≡ (before ++ t ∷ []) ++ (behind ++ h.0) = simp append_assoc in
    (behind ++ h.0, subst (AreWhole schema_form) (ap (λ (xs : List Lexeme). xs ++ h.0) e ∙ same) h.1)

-- a token that is refused whatever follows it
stuck_at : (before : List Lexeme) (t : Lexeme) (e : Refusal SchemaWhy) → ((more : List Lexeme) → whole_schema_at (before ++ t ∷ more) ≡ Err e) → Begins (before ++ t ∷ []) → ⊥
stuck_at before t e again h = never (before ++ t ∷ h.0) e (again h.0) (subst (AreWhole schema_form) (append_assoc before (t ∷ []) h.0) h.1)

begun_by : (front : List Lexeme) → (IsSome front → (fields : List Field) × (end : List Lexeme) × ((more : List Lexeme) → schema_form fields (front ++ (end ++ more)) more)) → Begins front
begun_by [] goes_on = let s = schema_sound.stands in (s.1 ++ [], (s.0, s.2 []))
begun_by (t ∷ front) goes_on = let g = goes_on tt in (g.1 ++ [], (g.0, g.2 []))

-- ---- where two lists part

abbrev Parted : List Lexeme → Lexeme → List Lexeme → Lexeme → Type 0
Parted a x c y = ((a ≡ c) × (x ≡ y)) ⊎ (((k : List Lexeme) × (a ≡ c ++ y ∷ k)) ⊎ ((k : List Lexeme) × (c ≡ a ++ x ∷ k)))

parted_behind : (z : Lexeme) (a : List Lexeme) (x : Lexeme) (c : List Lexeme) (y : Lexeme) → Parted a x c y → Parted (z ∷ a) x (z ∷ c) y
parted_behind z a x c y h =
    elim h [
      | inl e ↦ inl (ap (λ (xs : List Lexeme). z ∷ xs) e.0, e.1)
      | inr o ↦ (elim o [
        | inl k ↦ inr (inl (k.0, ap (λ (xs : List Lexeme). z ∷ xs) k.1))
        | inr k ↦ inr (inr (k.0, ap (λ (xs : List Lexeme). z ∷ xs) k.1))
      ])
    ]

pub parted : (a : List Lexeme) (x : Lexeme) (b c : List Lexeme) (y : Lexeme) (d : List Lexeme) → a ++ x ∷ b ≡ c ++ y ∷ d → Parted a x c y
parted [] x b [] y d e = inl (refl, cc)
parted [] x b (z ∷ c) y d e = inr (inr (c, (let s : z ≡ x = cc in ap (λ (w : Lexeme). w ∷ c) s)))
parted (z ∷ a) x b [] y d e = inr (inl (a, (let s : z ≡ y = cc in ap (λ (w : Lexeme). w ∷ a) s)))
parted (z ∷ a) x b (w ∷ c) y d e =
    let same : z ≡ w = cc in
    let tail : a ++ x ∷ b ≡ c ++ y ∷ d = cc in
    subst (λ (u : Lexeme). Parted (z ∷ a) x (u ∷ c) y) same (parted_behind z a x c y (parted a x b c y d tail))

-- ---- refusals

-- a token with which no schema goes on; the tokens up to it are refused alike
pub record Refuses (ts : List Lexeme) (at : ℕ) (why : SchemaWhy) : Type 0 where
  pub before : List Lexeme
  pub token : Lexeme
  pub behind : List Lexeme
  pub tokens : ts ≡ before ++ token ∷ behind
  pub begun : Begins before
  pub stuck : Begins (before ++ token ∷ []) → ⊥
  pub place : at ≡ token.at
  pub short : whole_schema_at (before ++ token ∷ []) ≡ Err (refusal.At token.at why)

again_ends : (before : List Lexeme) (t : Lexeme) (e : Refusal SchemaWhy) (v : Result (List Field × List Lexeme) (Refusal SchemaWhy)) (more : List Lexeme) → schema_at (before ++ t ∷ more) ≡ v → ends v ≡ Err e → whole_schema_at (before ++ t ∷ more) ≡ Err e
again_ends before t e v more h f = whole_is (before ++ t ∷ more) ∙ (ap ends h ∙ f)

refused_at : (ts front left : List Lexeme) (at place : ℕ) (why cause : SchemaWhy) → ts ≡ front ++ left → IsAt (refusal.At place cause) left → Begins front → ((more : List Lexeme) → first_of more ≡ first_of left → schema_at (front ++ more) ≡ Err (refusal.At place cause)) → at ≡ place → why ≡ cause → Refuses ts at why
refused_at ts front [] at place why cause parts is begun again e f = absurd is
refused_at ts front (t ∷ left) at place why cause parts is begun again e f =
    let full = λ (more : List Lexeme). again_ends front t (refusal.At place cause) (Err (refusal.At place cause)) more (again (t ∷ more) refl) refl in
    record {
      before = front;
      token = t;
      behind = left;
      tokens = parts;
      begun = begun;
      stuck = stuck_at front t (refusal.At place cause) full;
      place = e ∙ sym is;
      short = full [] ∙ (let same : refusal.At place cause ≡ refusal.At t.at why = cc in ap (λ (r : Refusal SchemaWhy). let o : Result (List Field) (Refusal SchemaWhy) = Err r in o) same);
    }

finished_at : (front : List Lexeme) (t : Lexeme) (fields : List Field) → ((more : List Lexeme) → schema_at (front ++ t ∷ more) ≡ Ok (fields, t ∷ more)) → (more : List Lexeme) → whole_schema_at (front ++ t ∷ more) ≡ Err (refusal.At t.at causes.Syntax)
unfolding finish_at
finished_at front t fields again more = again_ends front t (refusal.At t.at causes.Syntax) (Ok (fields, t ∷ more)) more (again more) refl

refused_by : (ts : List Lexeme) (at : ℕ) (why : SchemaWhy) (v : Result (List Field × List Lexeme) (Refusal SchemaWhy)) → Outcome schema_form schema_at ts v → ends v ≡ Err (refusal.At at why) → Refuses ts at why
unfolding finish_at
refused_by ts at why (Ok (fields, [])) a h = absurd cc
refused_by ts at why (Ok (fields, t ∷ us)) a h =
    let full = finished_at a.front t fields (λ more. a.again (t ∷ more) refl) in
    let cause : causes.Syntax ≡ why = cc in
    record {
      before = a.front;
      token = t;
      behind = us;
      tokens = a.parts;
      begun = ([], (fields, a.holds []));
      stuck = stuck_at a.front t (refusal.At t.at causes.Syntax) full;
      place = (let same : at ≡ t.at = cc in same);
      short = full [] ∙ ap (λ (w : SchemaWhy). let o : Result (List Field) (Refusal SchemaWhy) = Err (refusal.At t.at w) in o) cause;
    }
refused_by ts at why (Err refusal.AtEnd) a h = absurd cc
refused_by ts at why (Err (refusal.At place cause)) a h =
    refused_at ts a.front a.left at place why cause a.parts a.place (begun_by a.front a.goes_on) a.again (let same : at ≡ place = cc in same) (let same : why ≡ cause = cc in same)

pub refused : (ts : List Lexeme) (at : ℕ) (why : SchemaWhy) → whole_schema_at ts ≡ Err (refusal.At at why) → Refuses ts at why
refused ts at why h = refused_by ts at why (schema_at ts) (schema_sound.reads ts) (sym (whole_is ts) ∙ h)

-- ---- causes

reason_at : (before : List Lexeme) (t : Lexeme) (front : List Lexeme) (token : Lexeme) (rest : List Lexeme) (why : SchemaWhy) → before ++ t ∷ [] ≡ front ++ token ∷ rest → Begins before → ((more : List Lexeme) → schema_at (front ++ token ∷ more) ≡ Err (refusal.At token.at why)) → Reason front token why → Reason before t why
reason_at before t front token rest why parts begun again reason =
    elim (parted before t [] front token rest parts) [
      | inl e ↦ subst (λ (x : Lexeme). Reason before x why) (sym e.1) (subst (λ (xs : List Lexeme). Reason xs token why) (sym e.0) reason)
      | inr o ↦ (elim o [
        | inl k ↦ absurd (stuck_at front token (refusal.At token.at why) (λ more. again_ends front token (refusal.At token.at why) (Err (refusal.At token.at why)) more (again more) refl) (further front token k.0 before k.1 begun))
        | inr k ↦
            (let sizes : length before + 1 ≡ length front + suc (length rest) = simp length-append at (ap length parts) in
            let sum : length front ≡ length before + suc (length k.0) = simp length-append at (ap length k.1) in
            absurd (omega (arith, sizes, sum)))
      ])
    ]

reason_by : (before : List Lexeme) (t : Lexeme) (why : SchemaWhy) → Begins before → (v : Result (List Field × List Lexeme) (Refusal SchemaWhy)) → Halting [] schema_at (before ++ t ∷ []) v → ends v ≡ Err (refusal.At t.at why) → Reason before t why
unfolding finish_at
reason_by before t why begun (Ok (fields, [])) h e = absurd cc
reason_by before t why begun (Ok (fields, u ∷ us)) h e = let same : causes.Syntax ≡ why = cc in subst (Reason before t) same tt
reason_by before t why begun (Err refusal.AtEnd) h e = absurd cc
reason_by before t why begun (Err (refusal.At place cause)) h e =
    let same : cause ≡ why = cc in
    subst (Reason before t) same (reason_at before t h.front h.token h.rest cause h.parts begun h.again h.reason)

pub reason_of : (before : List Lexeme) (t : Lexeme) (why : SchemaWhy) → Begins before → whole_schema_at (before ++ t ∷ []) ≡ Err (refusal.At t.at why) → Reason before t why
reason_of before t why begun h = reason_by before t why begun (schema_at (before ++ t ∷ [])) (schema_explains (before ++ t ∷ [])) (sym (whole_is (before ++ t ∷ [])) ∙ h)

no_name_at : (fields : List Field) (t : Lexeme) → NameCase fields t causes.Syntax → ⊥
no_name_at fields t h = elim h [ inl a ↦ (let e = a.0 in absurd cc) | inr b ↦ (let e = b.0 in absurd cc) ]

pub cause_of : (before : List Lexeme) (t : Lexeme) (why : SchemaWhy) → Reason before t why → whole_schema_at (before ++ t ∷ []) ≡ Err (refusal.At t.at why) → IsCause before t why
cause_of before t causes.NoType r h = r
cause_of before t causes.Size r h = r
cause_of before t causes.Name r h = r
cause_of before t causes.Count r h = r
cause_of before t causes.Token r h = r
cause_of before t causes.Syntax r h = λ fields. (
  (λ s. let e = type_answer fields before t t.at causes.Syntax s h in absurd cc),
  (λ s. let e = size_answer fields before t t.at causes.Syntax s h in absurd cc),
  (λ s. no_name_at fields t (name_answer fields before t t.at causes.Syntax s h)),
)

-- a cause is the one that is answered
only_syntax : (before : List Lexeme) (t : Lexeme) (why : SchemaWhy) → IsCause before t causes.Syntax → Reason before t why → why ≡ causes.Syntax
only_syntax before t causes.NoType c r = absurd ((c r.0).0 r.1)
only_syntax before t causes.Size c r = absurd ((c r.0).1 r.1)
only_syntax before t causes.Name c r = absurd ((c r.0).2 r.1)
only_syntax before t causes.Count c r = absurd ((c r.0).2 r.1)
only_syntax before t causes.Syntax c r = refl
only_syntax before t causes.Token c r = absurd r

only_name : (fields : List Field) (t : Lexeme) (why : SchemaWhy) → (IsFree fields t.bytes → ⊥) → NameCase fields t why → why ≡ causes.Name
only_name fields t why h n = elim n [ inl a ↦ a.0 | inr b ↦ absurd (h b.1) ]

only_count : (fields : List Field) (t : Lexeme) (why : SchemaWhy) → IsFree fields t.bytes → NameCase fields t why → why ≡ causes.Count
only_count fields t why h n = elim n [ inl a ↦ absurd (a.1 h) | inr b ↦ b.0 ]

pub one_cause : (before : List Lexeme) (t : Lexeme) (why cause : SchemaWhy) → IsCause before t cause → Reason before t why → whole_schema_at (before ++ t ∷ []) ≡ Err (refusal.At t.at why) → why ≡ cause
one_cause before t why causes.NoType c r h = type_answer c.0 before t t.at why c.1 h
one_cause before t why causes.Size c r h = size_answer c.0 before t t.at why c.1 h
one_cause before t why causes.Name c r h = only_name c.0 t why c.2 (name_answer c.0 before t t.at why c.1 h)
one_cause before t why causes.Count c r h = only_count c.0 t why c.2 (name_answer c.0 before t t.at why c.1 h)
one_cause before t why causes.Syntax c r h = only_syntax before t why c r
one_cause before t why causes.Token c r h = absurd c
