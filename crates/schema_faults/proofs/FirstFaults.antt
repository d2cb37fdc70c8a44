-- The first fault of a text is what is answered.
use Rattle.std.proofs.Common.{◌≡◌, ◌⊎◌, inl, inr, ℕ, List, [], ◌∷◌, ◌++◌, Option, Some, None, Result, Ok, Err, refl, sym, ap, ◌∙◌, subst, length}
use Rattle.std.proofs.lemmas.List.{append-nil}
use Rattle.ds_lex.specs.declared.token.Mode.TheVariants.{Inner}
use Rattle.ds_lex.specs.declared.refusal.Refusal.{Refusal}
use Rattle.ds_lex.specs.declared.refusal.Refusal.TheVariants as refusal
use Rattle.ds_lex.specs.Lexemes.{Lexeme, lexed_text}
use Rattle.ds_lex.specs.Phrases.{AreWhole, StopsAt}
use Rattle.ds_schema.specs.declared.schema.Field.{Field}
use Rattle.ds_schema.specs.declared.schema_text.fault.SchemaWhy.{SchemaWhy}
use Rattle.ds_schema.specs.declared.schema_text.fault.SchemaWhy.TheVariants as causes
use Rattle.ds_schema.specs.declared.schema_text.fault.SchemaFault.TheVariants.{BadSchema}
use Rattle.ds_schema.specs.SchemaLaws.{schema_form, SpellsText}
use Rattle.ds_schema.specs.SchemaReading.{whole_schema_at, answered, fault_behind, schema_of}
use Rattle.ds_schema.proofs.SchemaReaders.{read_is_spelled, stops_first}
use Rattle.ds_schema.proofs.SchemaTexts.{refused_is_none}
use Rattle.schema_faults.specs.Causes.{IsCause, Begins, StopsAt as StopsToken, IsEnd, BreaksOff, IsFirstFault}
use Rattle.schema_faults.proofs.Refusals.{never, further, parted, Refuses, refused, reason_of, cause_of, one_cause}

-- ---- what was read to its end begins a schema

read_whole : (ts : List Lexeme) (fields : List Field) → whole_schema_at ts ≡ Ok fields → AreWhole schema_form ts
read_whole ts fields h = let s = read_is_spelled ts fields h in (fields, (s.1, s.0))

whole_begins : (ts : List Lexeme) → AreWhole schema_form ts → Begins ts
whole_begins ts w = ([], subst (AreWhole schema_form) (sym (append-nil ts)) w)

end_begins : (ts left : List Lexeme) → left ≡ [] → StopsAt schema_form ts left → Begins ts
end_begins ts left e s =
    let same : s.front ≡ ts = sym (append-nil s.front) ∙ (ap (λ (xs : List Lexeme). s.front ++ xs) (sym e) ∙ sym s.parts) in
    subst Begins same s.goes_on

short_begins : (ts : List Lexeme) → whole_schema_at ts ≡ Err refusal.AtEnd → Begins ts
short_begins ts h = let s = stops_first ts refusal.AtEnd h in end_begins ts s.0 s.2 s.1

-- ---- what is answered is the first fault

end_fault : (ts : List Lexeme) (len at : ℕ) (why : SchemaWhy) (bad : Option ℕ) → (AreWhole schema_form ts → ⊥) → fault_behind len bad ≡ BadSchema at why → IsEnd ts len bad at why
end_fault ts len at why None h e = ((let same : at ≡ len = cc in same), (let same : why ≡ causes.Syntax = cc in same), h)
end_fault ts len at why (Some b) h e = ((let same : at ≡ b = cc in same), (let same : why ≡ causes.Token = cc in same))

first_by : (ts : List Lexeme) (len at : ℕ) (why : SchemaWhy) (bad : Option ℕ) (v : Result (List Field) (Refusal SchemaWhy)) → whole_schema_at ts ≡ v → answered len bad v ≡ Err (BadSchema at why) → StopsToken ts at why ⊎ BreaksOff ts len bad at why
first_by ts len at why None (Ok fields) e h = absurd cc
first_by ts len at why (Some b) (Ok fields) e h =
    inr record { begun = whole_begins ts (read_whole ts fields e); broken = ((let same : at ≡ b = cc in same), (let same : why ≡ causes.Token = cc in same)) }
first_by ts len at why bad (Err refusal.AtEnd) e h =
    let f : fault_behind len bad ≡ BadSchema at why = cc in
    inr record { begun = short_begins ts e; broken = end_fault ts len at why bad (never ts refusal.AtEnd e) f }
first_by ts len at why bad (Err (refusal.At place cause)) e h =
    let here : place ≡ at = cc in
    let so : cause ≡ why = cc in
    let r = refused ts place cause e in
    inl record {
      before = r.before;
      token = r.token;
      behind = r.behind;
      tokens = r.tokens;
      begun = r.begun;
      stuck = r.stuck;
      place = sym here ∙ r.place;
      cause = subst (IsCause r.before r.token) so (cause_of r.before r.token cause (reason_of r.before r.token cause r.begun r.short) r.short);
    }

pub refused_at_first : (text : List ℕ) (at : ℕ) (why : SchemaWhy) → schema_of text ≡ Err (BadSchema at why) → IsFirstFault text at why
refused_at_first text at why h = first_by (lexed_text Inner text).lexemes (length text) at why (lexed_text Inner text).bad (whole_schema_at (lexed_text Inner text).lexemes) refl h

-- ---- the first fault is answered

same_token : (ts : List Lexeme) (at place : ℕ) (why cause : SchemaWhy) → Refuses ts place cause → StopsToken ts at why → (place ≡ at) × (cause ≡ why)
same_token ts at place why cause r s =
    elim (parted r.before r.token r.behind s.before s.token s.behind (sym r.tokens ∙ s.tokens)) [
      | inl e ↦
          (let short = subst (λ (x : Lexeme). whole_schema_at (s.before ++ x ∷ []) ≡ Err (refusal.At x.at cause)) e.1 (subst (λ (xs : List Lexeme). whole_schema_at (xs ++ r.token ∷ []) ≡ Err (refusal.At r.token.at cause)) e.0 r.short) in
          (r.place ∙ (ap (λ (x : Lexeme). x.at) e.1 ∙ sym s.place), one_cause s.before s.token cause why s.cause (reason_of s.before s.token cause s.begun short) short))
      | inr o ↦ (elim o [
        | inl k ↦ absurd (s.stuck (further s.before s.token k.0 r.before k.1 r.begun))
        | inr k ↦ absurd (r.stuck (further r.before r.token k.0 s.before k.1 s.begun))
      ])
    ]

stopped_by : (ts : List Lexeme) (len at : ℕ) (why : SchemaWhy) (bad : Option ℕ) (v : Result (List Field) (Refusal SchemaWhy)) → whole_schema_at ts ≡ v → StopsToken ts at why → answered len bad v ≡ Err (BadSchema at why)
stopped_by ts len at why bad (Ok fields) e s = absurd (s.stuck (further s.before s.token s.behind ts s.tokens (whole_begins ts (read_whole ts fields e))))
stopped_by ts len at why bad (Err refusal.AtEnd) e s = absurd (s.stuck (further s.before s.token s.behind ts s.tokens (short_begins ts e)))
stopped_by ts len at why bad (Err (refusal.At place cause)) e s = let same = same_token ts at place why cause (refused ts place cause e) s in cc

broken_by : (ts : List Lexeme) (len at : ℕ) (why : SchemaWhy) (bad : Option ℕ) (v : Result (List Field) (Refusal SchemaWhy)) → whole_schema_at ts ≡ v → BreaksOff ts len bad at why → answered len bad v ≡ Err (BadSchema at why)
broken_by ts len at why None (Ok fields) e b = absurd (b.broken.2 (read_whole ts fields e))
broken_by ts len at why (Some place) (Ok fields) e b = let one = b.broken.0 in let two = b.broken.1 in cc
broken_by ts len at why None (Err refusal.AtEnd) e b = let one = b.broken.0 in let two = b.broken.1 in cc
broken_by ts len at why (Some place) (Err refusal.AtEnd) e b = let one = b.broken.0 in let two = b.broken.1 in cc
broken_by ts len at why bad (Err (refusal.At place cause)) e b =
    let r = refused ts place cause e in
    absurd (r.stuck (further r.before r.token r.behind ts r.tokens b.begun))

pub fault_is_answered : (text : List ℕ) (at : ℕ) (why : SchemaWhy) → IsFirstFault text at why → schema_of text ≡ Err (BadSchema at why)
fault_is_answered text at why h =
    elim h [
      | inl s ↦ stopped_by (lexed_text Inner text).lexemes (length text) at why (lexed_text Inner text).bad (whole_schema_at (lexed_text Inner text).lexemes) refl s
      | inr b ↦ broken_by (lexed_text Inner text).lexemes (length text) at why (lexed_text Inner text).bad (whole_schema_at (lexed_text Inner text).lexemes) refl b
    ]

pub faulty_is_none : (text : List ℕ) (at : ℕ) (why : SchemaWhy) (fields : List Field) → IsFirstFault text at why → SpellsText text fields → ⊥
faulty_is_none text at why fields h s = refused_is_none text at why fields (fault_is_answered text at why h) s

pub one_first_fault : (text : List ℕ) (at other : ℕ) (why cause : SchemaWhy) → IsFirstFault text at why → IsFirstFault text other cause → (at ≡ other) × (why ≡ cause)
one_first_fault text at other why cause h k =
    let one = fault_is_answered text at why h in
    let two = fault_is_answered text other cause k in
    ((let same : at ≡ other = cc in same), (let same : why ≡ cause = cc in same))
