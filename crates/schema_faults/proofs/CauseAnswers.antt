-- What is answered at a place where a field's name, a type or a size must stand.
use Rattle.std.proofs.Common.{◌≡◌, ◌⊎◌, ◌+◌, ◌-◌, inl, inr, ℕ, zero, suc, List, [], ◌∷◌, ◌++◌, Bool, true, false, Option, Some, None, Result, Ok, Err, refl, sym, ap, ◌∙◌, length, arith}
use Rattle.std.specs.Prelude.{codes}
use Rattle.std.specs.Str.{bytes_eq}
use Rattle.ds_value.specs.declared.kind.Kind.{Kind}
use Rattle.ds_lex.specs.declared.token.Sort.TheVariants as sort
use Rattle.ds_lex.specs.declared.refusal.Refusal.{Refusal}
use Rattle.ds_lex.specs.declared.refusal.Refusal.TheVariants as refusal
use Rattle.ds_lex.specs.Lexemes.{Lexeme}
use Rattle.ds_lex.specs.Reading.{◌>>=◌, refuse, is_sort, expect_at, accept_at, finish_at}
use Rattle.ds_lex.proofs.Readers.{gives, chosen, lacks_other, sort_same, same_bytes}
use Rattle.ds_schema.specs.declared.schema.Field.{Field}
use Rattle.ds_schema.specs.declared.schema_text.fault.SchemaWhy.{SchemaWhy}
use Rattle.ds_schema.specs.declared.schema_text.fault.SchemaWhy.TheVariants as causes
use Rattle.ds_schema.specs.SchemaReading.{plain_kind, decimal_at, text_at, kind_at, field_at, fields_at, schema_at, whole_schema_at}
use Rattle.ds_schema.proofs.FieldReaders.{is_free, name_taken, no_name}
use Rattle.ds_schema.proofs.SchemaReaders.{more_at}
use Rattle.schema_faults.specs.Places.{IsFree, before_field, before_type, before_size, NameStands, TypeStands, SizeStands}
use Rattle.schema_faults.proofs.Names.{free_so, not_free}
use Rattle.schema_faults.proofs.TypeReasons.{plain_step, decimal_step, text_step, no_step, no_kind, word_why}
use Rattle.schema_faults.proofs.FieldReasons.{none_left, full_step, full_name, next_step, of_kind}
use Rattle.schema_faults.proofs.Extending.{field_extends, type_extends, size_extends, and_token}
use Rattle.schema_faults.proofs.Reached.{state, state_field, schema_reached, typed_more, type_reached}
use Rattle.schema_faults.proofs.SizeAnswers.{SizeEnd, number_answer, number_other}

-- where all tokens were to be read
abbrev pub ends : Result (List Field × List Lexeme) (Refusal SchemaWhy) → Result (List Field) (Refusal SchemaWhy)
ends o = o >>= λ s. finish_at causes.Syntax s.1 >>= λ e. Ok s.0

pub whole_is : (ts : List Lexeme) → whole_schema_at ts ≡ ends (schema_at ts)
unfolding whole_schema_at
whole_is ts = refl

-- ---- names

-- what is wrong with a name, by the cause
abbrev pub NameCase : List Field → Lexeme → SchemaWhy → Type 0
NameCase fields t why = ((why ≡ causes.Name) × (IsFree fields t.bytes → ⊥)) ⊎ ((why ≡ causes.Count) × IsFree fields t.bytes × (length fields ≡ 256))

field_short : (fields : List Field) (t : Lexeme) → is_sort sort.Word t.sort ≡ true → is_free fields t.bytes ≡ true → field_at fields (t ∷ []) ≡ Err refusal.AtEnd
unfolding field_at expect_at
field_short fields t e f = rw (name_taken fields t [] e f) refl

field_refused : (fields : List Field) (t : Lexeme) → is_sort sort.Word t.sort ≡ true → is_free fields t.bytes ≡ false → field_at fields (t ∷ []) ≡ refuse t causes.Name
unfolding field_at
field_refused fields t e f = rw (no_name fields t [] e f) refl

name_by : (room : ℕ) (fields : List Field) (t : Lexeme) (at : ℕ) (why : SchemaWhy) → 256 ≡ length fields + room → is_sort sort.Word t.sort ≡ true → (b : Bool) → is_free fields t.bytes ≡ b → ends (fields_at room fields (t ∷ [])) ≡ Err (refusal.At at why) → NameCase fields t why
name_by zero fields t at why n e true f h =
    let k = sym (ap ends (full_step fields t [] e f)) ∙ h in
    inr ((let same : why ≡ causes.Count = cc in same), free_so fields t.bytes f, (let m : length fields ≡ 256 = omega (arith, n) in m))
name_by zero fields t at why n e false f h =
    let k = sym (ap ends (full_name fields t [] e f)) ∙ h in
    inl ((let same : why ≡ causes.Name = cc in same), not_free fields t.bytes f)
name_by (suc room) fields t at why n e true f h =
    let k = sym (ap ends (next_step room fields (t ∷ []) ∙ ap (λ o. o >>= λ p. more_at room (fields ++ p.0 ∷ []) p.1) (field_short fields t e f))) ∙ h in
    absurd cc
name_by (suc room) fields t at why n e false f h =
    let k = sym (ap ends (next_step room fields (t ∷ []) ∙ ap (λ o. o >>= λ p. more_at room (fields ++ p.0 ∷ []) p.1) (field_refused fields t e f))) ∙ h in
    inl ((let same : why ≡ causes.Name = cc in same), not_free fields t.bytes f)

closed_ok : (room : ℕ) (f : Field) (fields : List Field) (t : Lexeme) (at : ℕ) (why : SchemaWhy) → t.bytes ≡ codes ")" → ends (state room (f ∷ fields) (t ∷ [])) ≡ Err (refusal.At at why) → ⊥
unfolding finish_at
closed_ok room f fields t at why e h = let k = sym (ap ends (chosen (codes ")") (gives (f ∷ fields)) (fields_at room (f ∷ fields)) t [] e)) ∙ h in absurd cc

state_by : (room : ℕ) (fields : List Field) (t : Lexeme) (at : ℕ) (why : SchemaWhy) → 256 ≡ length fields + room → is_sort sort.Word t.sort ≡ true → (b : Bool) → bytes_eq t.bytes (codes ")") ≡ b → ends (state room fields (t ∷ [])) ≡ Err (refusal.At at why) → NameCase fields t why
state_by room [] t at why n e true f h = name_by room [] t at why n e (is_free [] t.bytes) refl h
state_by room (g ∷ fields) t at why n e true f h = absurd (closed_ok room g fields t at why (same_bytes t.bytes (codes ")") f) h)
state_by room fields t at why n e false f h =
    name_by room fields t at why n e (is_free fields t.bytes) refl (sym (ap ends (state_field room fields (t ∷ []) (lacks_other (codes ")") t [] f))) ∙ h)

pub name_answer : (fields : List Field) (before : List Lexeme) (t : Lexeme) (at : ℕ) (why : SchemaWhy) → NameStands fields before t → whole_schema_at (before ++ t ∷ []) ≡ Err (refusal.At at why) → NameCase fields t why
name_answer fields before t at why h e =
    let n : 256 ≡ length fields + (256 - length fields) = omega (arith, h.fit.few) in
    let read = schema_reached fields (before ++ t ∷ []) (t ∷ []) (256 - length fields) h.fit n (and_token (before_field fields) (field_extends fields) before t h.front) in
    state_by (256 - length fields) fields t at why n (ap (is_sort sort.Word) h.word ∙ sort_same sort.Word) (bytes_eq t.bytes (codes ")")) refl (sym (whole_is (before ++ t ∷ []) ∙ ap ends read) ∙ e)

-- ---- types

abbrev TypeEnd : Result (Kind × List Lexeme) (Refusal SchemaWhy) → Type 0
TypeEnd (Ok p) = p.1 ≡ []
TypeEnd (Err refusal.AtEnd) = Unit {0}
TypeEnd (Err (refusal.At at why)) = why ≡ causes.NoType

decimal_short : TypeEnd (decimal_at [])
unfolding decimal_at expect_at
decimal_short = tt

text_short : TypeEnd (text_at [])
unfolding text_at accept_at
text_short = refl

kind_short : TypeEnd (kind_at [])
kind_short = rw no_kind tt

kind_by : (t : Lexeme) (o : Option Kind) (a b : Bool) → is_sort sort.Word t.sort ≡ true → plain_kind t.bytes ≡ o → bytes_eq t.bytes (codes "decimal") ≡ a → bytes_eq t.bytes (codes "string") ≡ b → TypeEnd (kind_at (t ∷ []))
kind_by t (Some k) a b s e f g = rw (plain_step t [] k e) refl
kind_by t None true b s e f g = rw (decimal_step t [] e f) decimal_short
kind_by t None false true s e f g = rw (text_step t [] e f g) text_short
kind_by t None false false s e f g = rw (no_step t [] causes.NoType e f g (word_why t true s)) refl

kind_ends : (t : Lexeme) → is_sort sort.Word t.sort ≡ true → TypeEnd (kind_at (t ∷ []))
kind_ends t s = kind_by t (plain_kind t.bytes) (bytes_eq t.bytes (codes "decimal")) (bytes_eq t.bytes (codes "string")) s refl refl refl

nullable_ends : (t : Lexeme) → is_sort sort.Word t.sort ≡ true → (b : Bool) → bytes_eq t.bytes (codes "nullable") ≡ b → TypeEnd (kind_at (accept_at (codes "nullable") (t ∷ [])).1)
unfolding accept_at
nullable_ends t s true e = rw e kind_short
nullable_ends t s false e = rw e (kind_ends t s)

type_ended : (room : ℕ) (fields : List Field) (w : Lexeme) (b : Bool) (at : ℕ) (why : SchemaWhy) (o : Result (Kind × List Lexeme) (Refusal SchemaWhy)) → TypeEnd o → ends (typed_more room fields w b o) ≡ Err (refusal.At at why) → why ≡ causes.NoType
type_ended room fields w b at why (Ok (k, [])) h e = let m = sym (ap ends (none_left room (fields ++ of_kind w b k ∷ []))) ∙ e in absurd cc
type_ended room fields w b at why (Ok (k, t ∷ ts)) h e = absurd cc
type_ended room fields w b at why (Err refusal.AtEnd) h e = absurd cc
type_ended room fields w b at why (Err (refusal.At place cause)) h e = let same : why ≡ cause = cc in same ∙ h

pub type_answer : (fields : List Field) (before : List Lexeme) (t : Lexeme) (at : ℕ) (why : SchemaWhy) → TypeStands fields before t → whole_schema_at (before ++ t ∷ []) ≡ Err (refusal.At at why) → why ≡ causes.NoType
type_answer fields before t at why h e =
    let n : 256 ≡ length fields + suc (255 - length fields) = omega (arith, h.room) in
    let r = type_reached fields (before ++ t ∷ []) (t ∷ []) (255 - length fields) h.fit n (and_token (before_type fields) (type_extends fields) before t h.front) in
    let s : is_sort sort.Word t.sort ≡ true = ap (is_sort sort.Word) h.word ∙ sort_same sort.Word in
    let end : TypeEnd (kind_at r.left) = elim r.parts [
      | inl a ↦ rw a (kind_ends t s)
      | inr b ↦ rw b (nullable_ends t s (bytes_eq t.bytes (codes "nullable")) refl)
    ] in
    type_ended (255 - length fields) fields r.name r.nullable at why (kind_at r.left) end (sym (whole_is (before ++ t ∷ []) ∙ ap ends r.read) ∙ e)

-- ---- sizes

size_ended : (room : ℕ) (fields : List Field) (w : Lexeme) (b : Bool) (at : ℕ) (why : SchemaWhy) (o : Result (Kind × List Lexeme) (Refusal SchemaWhy)) → SizeEnd o → ends (typed_more room fields w b o) ≡ Err (refusal.At at why) → why ≡ causes.Size
size_ended room fields w b at why (Ok p) h e = absurd h
size_ended room fields w b at why (Err refusal.AtEnd) h e = absurd cc
size_ended room fields w b at why (Err (refusal.At place cause)) h e = let same : why ≡ cause = cc in same ∙ h

pub size_answer : (fields : List Field) (before : List Lexeme) (t : Lexeme) (at : ℕ) (why : SchemaWhy) → SizeStands fields before t → whole_schema_at (before ++ t ∷ []) ≡ Err (refusal.At at why) → why ≡ causes.Size
size_answer fields before t at why h e =
    let n : 256 ≡ length fields + suc (255 - length fields) = omega (arith, h.room) in
    let front = and_token (before_size fields) (size_extends fields) before t h.front in
    let r = type_reached fields (before ++ t ∷ []) front.0 (255 - length fields) h.fit n front.1 in
    let read : SizeEnd (kind_at front.0) = number_answer front.0 t h.number front.2 in
    let end : SizeEnd (kind_at r.left) = elim r.parts [
      | inl a ↦ rw a read
      | inr b ↦ rw (b, number_other front.0 (t ∷ []) front.2) read
    ] in
    size_ended (255 - length fields) fields r.name r.nullable at why (kind_at r.left) end (sym (whole_is (before ++ t ∷ []) ∙ ap ends r.read) ∙ e)
