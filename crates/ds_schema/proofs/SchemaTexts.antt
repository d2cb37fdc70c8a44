-- Texts of schemas.
use Rattle.std.proofs.Common.{◌≡◌, inl, inr, ℕ, List, [], ◌∷◌, length, Ok, Err, Result, Option, Some, None, refl, sym, ap, ◌∙◌}
use Rattle.ds_lex.specs.declared.token.Mode.TheVariants.{Inner}
use Rattle.ds_lex.specs.declared.refusal.Refusal.{Refusal}
use Rattle.ds_lex.specs.declared.refusal.Refusal.TheVariants as refusal
use Rattle.ds_lex.specs.Lexemes.{Lexeme, lexed_text}
use Rattle.ds_lex.specs.Reading.{next_place}
use Rattle.ds_lex.specs.Phrases.{IsAt}
use Rattle.ds_schema.specs.declared.schema.Field.{Field}
use Rattle.ds_schema.specs.declared.schema_text.fault.SchemaWhy.{SchemaWhy}
use Rattle.ds_schema.specs.declared.schema_text.fault.SchemaFault.TheVariants.{BadSchema}
use Rattle.ds_schema.specs.SchemaReading.{whole_schema_at, answered, fault_behind, schema_of}
use Rattle.ds_schema.specs.SchemaLaws.{SpellsText, end_place, FaultAt}
use Rattle.ds_schema.proofs.SchemaReaders.{read_is_spelled, spelled_is_read, stops_first}

answered_ok : (len : ℕ) (bad : Option ℕ) (v : Result (List Field) (Refusal SchemaWhy)) (fields : List Field) → answered len bad v ≡ Ok fields → (bad ≡ None) × (v ≡ Ok fields)
answered_ok len None (Ok gs) fields h = (refl, cc)
answered_ok len (Some at) (Ok gs) fields h = absurd cc
answered_ok len bad (Err refusal.AtEnd) fields h = absurd cc
answered_ok len bad (Err (refusal.At at why)) fields h = absurd cc

pub text_is_spelled : (text : List ℕ) (fields : List Field) → schema_of text ≡ Ok fields → SpellsText text fields
text_is_spelled text fields h =
    let a = answered_ok (length text) (lexed_text Inner text).bad (whole_schema_at (lexed_text Inner text).lexemes) fields h in
    (a.0, read_is_spelled (lexed_text Inner text).lexemes fields a.1)

pub spelled_text : (text : List ℕ) (fields : List Field) → SpellsText text fields → schema_of text ≡ Ok fields
spelled_text text fields h =
    ap (answered (length text) (lexed_text Inner text).bad) (spelled_is_read (lexed_text Inner text).lexemes fields h.1) ∙ ap (λ b. answered (length text) b (Ok fields)) h.0

pub refused_is_none : (text : List ℕ) (at : ℕ) (why : SchemaWhy) (fields : List Field) → schema_of text ≡ Err (BadSchema at why) → SpellsText text fields → ⊥
refused_is_none text at why fields h s = let read = spelled_text text fields s in absurd cc

at_first : (at end : ℕ) (why : SchemaWhy) (left : List Lexeme) → IsAt (refusal.At at why) left → at ≡ next_place end left
at_first at end why [] h = absurd h
at_first at end why (t ∷ ts) h = sym h

fault_place : (len at : ℕ) (why : SchemaWhy) (bad : Option ℕ) → fault_behind len bad ≡ BadSchema at why → at ≡ end_place len bad
fault_place len at why None h = cc
fault_place len at why (Some b) h = cc

fault_by : (text : List ℕ) (at : ℕ) (why : SchemaWhy) (bad : Option ℕ) (v : Result (List Field) (Refusal SchemaWhy)) → (lexed_text Inner text).bad ≡ bad → whole_schema_at (lexed_text Inner text).lexemes ≡ v → answered (length text) bad v ≡ Err (BadSchema at why) → FaultAt text at
fault_by text at why None (Ok fields) b e h = absurd cc
fault_by text at why (Some bad) (Ok fields) b e h =
    let s = read_is_spelled (lexed_text Inner text).lexemes fields e in
    let place : at ≡ bad = cc in
    inr ((fields, (s.1, s.0)), b ∙ ap (λ n. Some n) (sym place))
fault_by text at why bad (Err refusal.AtEnd) b e h =
    let s = stops_first (lexed_text Inner text).lexemes refusal.AtEnd e in
    let f : fault_behind (length text) bad ≡ BadSchema at why = cc in
    inl (s.0, s.1, rw (s.2, b) (fault_place (length text) at why bad f))
fault_by text at why bad (Err (refusal.At place cause)) b e h =
    let s = stops_first (lexed_text Inner text).lexemes (refusal.At place cause) e in
    let same : place ≡ at = cc in
    inl (s.0, s.1, sym same ∙ at_first place (end_place (length text) (lexed_text Inner text).bad) cause s.0 s.2)

pub fault_at : (text : List ℕ) (at : ℕ) (why : SchemaWhy) → schema_of text ≡ Err (BadSchema at why) → FaultAt text at
fault_at text at why h = fault_by text at why (lexed_text Inner text).bad (whole_schema_at (lexed_text Inner text).lexemes) refl refl h
