-- What the reader of schemas goes on with behind what may stand before a field, a type or a size.
use Rattle.std.proofs.Common.{◌≡◌, ◌⊎◌, ◌+◌, inl, inr, ℕ, zero, suc, List, [], ◌∷◌, ◌++◌, Bool, true, false, Result, Ok, Err, refl, sym, ap, ◌∙◌, append_assoc, subst, length, arith, eqb}
use Rattle.std.specs.Prelude.{codes}
use Rattle.std.specs.Str.{bytes_eq}
use Rattle.std.specs.List.{AllByRecursion}
use Rattle.std.proofs.lemmas.List.{append-nil}
use Rattle.std.proofs.lemmas.Bool.Decides.{nat_tests}
use Rattle.ds_value.specs.declared.kind.Kind.{Kind}
use Rattle.ds_lex.specs.Pieces.{begins_with, opens_word}
use Rattle.ds_lex.specs.declared.token.Sort.TheVariants as sort
use Rattle.ds_lex.specs.declared.refusal.Refusal.{Refusal}
use Rattle.ds_lex.specs.Lexemes.{Lexeme}
use Rattle.ds_lex.specs.Reading.{◌>>=◌, is_sort, expect_at, accept_at}
use Rattle.ds_lex.specs.Phrases.{word, token, nothing, ◌<|>◌}
use Rattle.ds_lex.proofs.Readers.{gives, chosen_not, lacks, lacks_other, from_word, expect_read, sort_same, bytes_same}
use Rattle.ds_schema.specs.declared.schema.Field.{Field}
use Rattle.ds_schema.specs.declared.schema_text.fault.SchemaWhy.{SchemaWhy}
use Rattle.ds_schema.specs.declared.schema_text.fault.SchemaWhy.TheVariants as causes
use Rattle.ds_schema.specs.Schemas.{IsField, AreDistinct}
use Rattle.ds_schema.specs.SchemaGrammar.{field_phrase}
use Rattle.ds_schema.specs.SchemaReading.{has_field, kind_at, field_at, fields_at, schema_at}
use Rattle.ds_schema.proofs.FieldReaders.{is_free, name_taken, field_read}
use Rattle.ds_schema.proofs.SchemaReaders.{AreFields as AreFitting, more_at}
use Rattle.schema_faults.specs.Places.{AreFields, IsFree, closed_fields, before_field, before_type}
use Rattle.schema_faults.proofs.Names.{none_has, so_free}
use Rattle.schema_faults.proofs.FieldReasons.{after_at, of_kind, nullable_at, semicolon_step, next_step}

-- behind these fields, each with its semicolon
abbrev pub state : ℕ → List Field → List Lexeme → Result (List Field × List Lexeme) (Refusal SchemaWhy)
state room [] ts = fields_at room [] ts
state room (f ∷ fields) ts = after_at room (f ∷ fields) ts

pub state_field : (room : ℕ) (fields : List Field) (ts : List Lexeme) → lacks (codes ")") ts → state room fields ts ≡ fields_at room fields ts
state_field room [] ts h = refl
state_field room (f ∷ fields) ts h = chosen_not (codes ")") (gives (f ∷ fields)) (fields_at room (f ∷ fields)) ts h

state_push : (room : ℕ) (fields : List Field) (f : Field) (ts : List Lexeme) → after_at room (fields ++ f ∷ []) ts ≡ state room (fields ++ f ∷ []) ts
state_push room [] f ts = refl
state_push room (g ∷ fields) f ts = refl

semicolon_read : (room : ℕ) (fields : List Field) (ts mid : List Lexeme) → word (codes ";") ts mid → more_at room fields ts ≡ after_at room fields mid
semicolon_read room fields [] mid h = absurd h
semicolon_read room fields (t ∷ ts) mid h = semicolon_step room fields t ts (ap (λ b. bytes_eq b (codes ")")) h.0) (ap (λ b. bytes_eq b (codes ";")) h.0) ∙ ap (after_at room fields) h.1

pub word_other : (bytes other : List ℕ) → bytes_eq other bytes ≡ false → (ts mid : List Lexeme) → word other ts mid → lacks bytes ts
word_other bytes other e [] mid h = absurd h
word_other bytes other e (t ∷ ts) mid h = lacks_other bytes t ts (ap (λ b. bytes_eq b bytes) h.0 ∙ e)

no_bracket : (b : ℕ) → opens_word b ≡ true → eqb b 41 ≡ false
no_bracket b h = grind (arith, nat_tests)

name_other : (bytes : List ℕ) → begins_with opens_word bytes ≡ true → bytes_eq bytes (codes ")") ≡ false
name_other [] h = refl
name_other (b ∷ bytes) h = rw (no_bracket b h) refl

field_other : (f : Field) (ts rest : List Lexeme) → IsField f → field_phrase f ts rest → lacks (codes ")") ts
field_other f [] rest i h = absurd h.1
field_other f (t ∷ ts) rest i h = lacks_other (codes ")") t ts (ap (λ b. bytes_eq b (codes ")")) h.1.1 ∙ name_other f.name i.0.begun)

all_at : (fields : List Field) (f : Field) (more : List Field) → AllByRecursion IsField (fields ++ f ∷ more) → IsField f
all_at [] f more all = all.0
all_at (g ∷ fields) f more all = all_at fields f more all.1

differs_at : (g : Field) (fields : List Field) (f : Field) (more : List Field) → AllByRecursion (λ x. g.name ≡ x.name → ⊥) (fields ++ f ∷ more) → g.name ≡ f.name → ⊥
differs_at g [] f more all = all.0
differs_at g (x ∷ fields) f more all = differs_at g fields f more all.1

others_at : (fields : List Field) (f : Field) (more : List Field) → AreDistinct (fields ++ f ∷ more) → AllByRecursion (λ g. g.name ≡ f.name → ⊥) fields
others_at [] f more d = tt
others_at (g ∷ fields) f more d = (differs_at g fields f more d.0, others_at fields f more d.1)

reach : (others done : List Field) (left room : ℕ) (ts rest : List Lexeme) → AreFitting (done ++ others) → room ≡ length others + left → closed_fields others ts rest → state room done ts ≡ state left (done ++ others) rest
reach [] done left room ts rest fit e h =
    let n : room ≡ left = omega (arith, e) in
    ap (state room done) h ∙ (ap (λ k. state k done rest) n ∙ ap (λ (fs : List Field). state left fs rest) (sym (append-nil done)))
reach (f ∷ others) done left zero ts rest fit e h = absurd (omega (arith, e))
reach (f ∷ others) done left (suc room) ts rest fit e h =
    let is : IsField f = all_at done f others fit.0 in
    let free : has_field done f.name ≡ false = none_has done f.name (others_at done f others fit.1) in
    let n : room ≡ length others + left = omega (arith, e) in
    state_field (suc room) done ts (field_other f ts h.0 is h.1)
    ∙ (next_step room done ts
    ∙ (ap (λ o. o >>= λ p. more_at room (done ++ p.0 ∷ []) p.1) (field_read done f ts h.0 (is, free, h.1) (word_other (codes "[") (codes ";") refl h.0 h.2.0 h.2.1))
    ∙ (semicolon_read room (done ++ f ∷ []) h.0 h.2.0 h.2.1
    ∙ (state_push room done f h.2.0
    ∙ (reach others (done ++ f ∷ []) left room h.2.0 rest (subst AreFitting (sym (append_assoc done (f ∷ []) others)) fit) n h.2.2
    ∙ ap (λ (fs : List Field). state left fs rest) (append_assoc done (f ∷ []) others))))))

pub schema_reached : (fields : List Field) (ts rest : List Lexeme) (left : ℕ) → AreFields fields → 256 ≡ length fields + left → before_field fields ts rest → schema_at ts ≡ state left fields rest
unfolding schema_at
schema_reached fields ts rest left fit e h =
    let r = from_word (codes "record") ts h.0 h.1 in
    let b = from_word (codes "(") h.0 h.2.0 h.2.1 in
    ap (λ o. o >>= λ p. expect_at (codes "(") causes.Syntax p.1 >>= λ q. fields_at 256 [] q.1) (expect_read (codes "record") causes.Syntax r.0 ts h.0 r.1 tt)
    ∙ (ap (λ o. o >>= λ q. fields_at 256 [] q.1) (expect_read (codes "(") causes.Syntax b.0 h.0 h.2.0 b.1 tt)
    ∙ reach fields [] left 256 h.2.0 rest (fit.each, fit.distinct) e h.2.2)

-- ---- types

-- a type, and what follows the field that has it
abbrev pub typed_more : ℕ → List Field → Lexeme → Bool → Result (Kind × List Lexeme) (Refusal SchemaWhy) → Result (List Field × List Lexeme) (Refusal SchemaWhy)
typed_more room fields w b o = o >>= λ k. more_at room (fields ++ of_kind w b k.0 ∷ []) k.1

abbrev of_pair : Lexeme → Bool → Kind × List Lexeme → Result (Field × List Lexeme) (Refusal SchemaWhy)
of_pair w b k = Ok (of_kind w b k.0, k.1)

typed_so : (room : ℕ) (fields : List Field) (w : Lexeme) (b : Bool) (o : Result (Kind × List Lexeme) (Refusal SchemaWhy)) → ((o >>= of_pair w b) >>= λ p. more_at room (fields ++ p.0 ∷ []) p.1) ≡ typed_more room fields w b o
typed_so room fields w b (Ok k) = refl
typed_so room fields w b (Err e) = refl

field_typed : (fields : List Field) (w : Lexeme) (ts mid : List Lexeme) → is_sort sort.Word w.sort ≡ true → is_free fields w.bytes ≡ true → word (codes ":") ts mid → field_at fields (w ∷ ts) ≡ nullable_at w mid
unfolding field_at expect_at
field_typed fields w [] mid e f h = absurd h
field_typed fields w (c ∷ ts) mid e f h = rw (name_taken fields w (c ∷ ts) e f, bytes_same c.bytes (codes ":") h.0) (ap (nullable_at w) h.1)

-- the tokens with which a type begins, behind what may stand before a type
pub record AtType (room : ℕ) (fields : List Field) (ts rest : List Lexeme) : Type 0 where
  pub name : Lexeme
  pub nullable : Bool
  pub left : List Lexeme
  pub read : schema_at ts ≡ typed_more room fields name nullable (kind_at left)
  pub parts : (left ≡ rest) ⊎ (left ≡ (accept_at (codes "nullable") rest).1)

typed_read : (room : ℕ) (fields : List Field) (w : Lexeme) (ts mid : List Lexeme) → w.sort ≡ sort.Word → IsFree fields w.bytes → word (codes ":") ts mid → state (suc room) fields (w ∷ ts) ≡ typed_more room fields w (accept_at (codes "nullable") mid).0 (kind_at (accept_at (codes "nullable") mid).1)
typed_read room fields w ts mid s free h =
    state_field (suc room) fields (w ∷ ts) (lacks_other (codes ")") w ts (name_other w.bytes free.named.begun))
    ∙ (next_step room fields (w ∷ ts)
    ∙ (ap (λ o. o >>= λ p. more_at room (fields ++ p.0 ∷ []) p.1) (field_typed fields w ts mid (ap (is_sort sort.Word) s ∙ sort_same sort.Word) (so_free fields w.bytes free) h)
    ∙ typed_so room fields w (accept_at (codes "nullable") mid).0 (kind_at (accept_at (codes "nullable") mid).1)))

passed : (mid rest : List Lexeme) → (word (codes "nullable") <|> nothing) mid rest → ((accept_at (codes "nullable") mid).1 ≡ rest) ⊎ ((accept_at (codes "nullable") mid).1 ≡ (accept_at (codes "nullable") rest).1)
unfolding accept_at
passed [] rest h = elim h [ inl a ↦ absurd a | inr b ↦ inr (ap (λ (us : List Lexeme). (accept_at (codes "nullable") us).1) b) ]
passed (n ∷ ts) rest h =
    elim h [
      | inl a ↦ inl (rw (bytes_same n.bytes (codes "nullable") a.0) a.1)
      | inr b ↦ inr (ap (λ (us : List Lexeme). (accept_at (codes "nullable") us).1) b)
    ]

typed_by : (room : ℕ) (fields : List Field) (ts named colon mid rest : List Lexeme) → schema_at ts ≡ state (suc room) fields named → (w : Lexeme) → w.sort ≡ sort.Word → IsFree fields w.bytes → named ≡ w ∷ colon → word (codes ":") colon mid → (word (codes "nullable") <|> nothing) mid rest → AtType room fields ts rest
typed_by room fields ts named colon mid rest e w s free same h n = record {
  name = w;
  nullable = (accept_at (codes "nullable") mid).0;
  left = (accept_at (codes "nullable") mid).1;
  read = e ∙ (ap (state (suc room) fields) same ∙ typed_read room fields w colon mid s free h);
  parts = passed mid rest n;
}

typed_at : (room : ℕ) (fields : List Field) (ts named rest : List Lexeme) → schema_at ts ≡ state (suc room) fields named → (colon mid : List Lexeme) → token sort.Word (IsFree fields) named colon → word (codes ":") colon mid → (word (codes "nullable") <|> nothing) mid rest → AtType room fields ts rest
typed_at room fields ts [] rest e colon mid t h n = absurd t
typed_at room fields ts (w ∷ named) rest e colon mid t h n = typed_by room fields ts (w ∷ named) colon mid rest e w t.0 t.1 (ap (λ (us : List Lexeme). w ∷ us) t.2) h n

pub type_reached : (fields : List Field) (ts rest : List Lexeme) (room : ℕ) → AreFields fields → 256 ≡ length fields + suc room → before_type fields ts rest → AtType room fields ts rest
type_reached fields ts rest room fit e h = typed_at room fields ts h.0 rest (schema_reached fields ts h.0 (suc room) fit e h.1) h.2.0 h.2.2.0 h.2.1 h.2.2.1 h.2.2.2
