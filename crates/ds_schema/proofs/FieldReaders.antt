-- Fields: what is read is one, what is one is read, and where reading stops none goes on.
use Rattle.std.proofs.Common.{◌≡◌, inl, inr, ℕ, List, [], ◌∷◌, Bool, true, false, Ok, Err, length, refl, sym, ap, ◌∙◌, subst}
use Rattle.std.specs.Prelude.{codes, if◌then◌else◌, ◌&&◌, not}
use Rattle.std.specs.Str.{bytes_eq}
use Rattle.std.specs.Cmp.{first_so, second_so}
use Rattle.std.proofs.lemmas.Bool.{not-true, le-leb}
use Rattle.ds_value.specs.declared.kind.Kind.{Kind}
use Rattle.ds_value.specs.declared.kind.Kind.TheVariants as kind
use Rattle.ds_value.specs.Kinds.{IsKind}
use Rattle.ds_lex.specs.declared.token.Sort.TheVariants as sort
use Rattle.ds_lex.specs.declared.refusal.Refusal.TheVariants as refusal
use Rattle.ds_lex.specs.Lexemes.{Lexeme}
use Rattle.ds_lex.specs.Reading.{◌>>=◌, refuse, is_sort, sort_at, expect_at, accept_at}
use Rattle.ds_lex.specs.Phrases.{Phrase, word, token, ◌~◌}
use Rattle.ds_lex.proofs.Readers.{Reader, IsReader, IsRead, Outcome, chain, bind, either, gives, given, said, to_word, from_word, anything, took, refused, ended, bind_reads, bind_read, map_reads, same_sort, sort_same, Sound, then_sound, and_then, gives_sound, expect_sound, choose_sound, narrow_sound, same_sound, lacks, lacks_other}
use Rattle.ds_schema.specs.declared.schema.Field.{Field}
use Rattle.ds_schema.specs.declared.schema_text.fault.SchemaWhy.{SchemaWhy}
use Rattle.ds_schema.specs.declared.schema_text.fault.SchemaWhy.TheVariants.{Syntax, Name}
use Rattle.ds_schema.specs.Schemas.{IsField, IsFieldName}
use Rattle.ds_schema.specs.SchemaReading.{is_field_name, has_field, name_at, kind_at, field_at}
use Rattle.ds_schema.specs.SchemaGrammar.{kind_phrase, nullable_phrase, field_phrase}
use Rattle.ds_schema.proofs.FieldNames.{field_name}
use Rattle.ds_schema.proofs.KindReaders.{kind_form, kind_sound}

-- ---- names

-- a name that no field has
abbrev pub named : List Field → Lexeme → Phrase
named fields t ts rest = (is_field_name t.bytes ≡ true) × (has_field fields t.bytes ≡ false) × (t.sort ≡ sort.Word) × (ts ≡ t ∷ rest)

abbrev pub is_free : List Field → List ℕ → Bool
is_free fields name = is_field_name name && not (has_field fields name)

pub name_taken : (fields : List Field) (t : Lexeme) (ts : List Lexeme) → is_sort sort.Word t.sort ≡ true → is_free fields t.bytes ≡ true → name_at fields (t ∷ ts) ≡ Ok (t, ts)
unfolding name_at sort_at
name_taken fields t ts e f = rw (e, f) refl

pub no_name : (fields : List Field) (t : Lexeme) (ts : List Lexeme) → is_sort sort.Word t.sort ≡ true → is_free fields t.bytes ≡ false → name_at fields (t ∷ ts) ≡ refuse t Name
unfolding name_at sort_at
no_name fields t ts e f = rw (e, f) refl

pub no_word : (fields : List Field) (t : Lexeme) (ts : List Lexeme) → is_sort sort.Word t.sort ≡ false → name_at fields (t ∷ ts) ≡ refuse t Syntax
unfolding name_at sort_at
no_word fields t ts e = rw e refl

pub no_token : (fields : List Field) → name_at fields [] ≡ Err refusal.AtEnd
unfolding name_at sort_at
no_token fields = refl

name_by : (fields : List Field) (t : Lexeme) (ts : List Lexeme) (a b : Bool) → is_sort sort.Word t.sort ≡ a → is_free fields t.bytes ≡ b → Outcome (named fields) (name_at fields) (t ∷ ts) (name_at fields (t ∷ ts))
name_by fields t ts true true e f =
    rw (name_taken fields t ts e f) (took (named fields) (name_at fields) t ts t
    (λ more. (first_so (is_field_name t.bytes) (not (has_field fields t.bytes)) f, not-true (has_field fields t.bytes) (second_so (is_field_name t.bytes) (not (has_field fields t.bytes)) f), same_sort sort.Word t.sort e, refl))
    (λ more. name_taken fields t more e f))
name_by fields t ts true false e f = rw (no_name fields t ts e f) (refused (named fields) (name_at fields) t ts Name (λ more. no_name fields t more e f))
name_by fields t ts false b e f = rw (no_word fields t ts e) (refused (named fields) (name_at fields) t ts Syntax (λ more. no_word fields t more e))

pub name_reads : (fields : List Field) → IsReader (named fields) (name_at fields)
name_reads fields [] = rw (no_token fields) (ended (named fields) (name_at fields) (no_token fields))
name_reads fields (t ∷ ts) = name_by fields t ts (is_sort sort.Word t.sort) (is_free fields t.bytes) refl refl

pub name_read : (fields : List Field) → IsRead (named fields) (name_at fields) anything
name_read fields t ts rest h f =
    ap (name_at fields) h.3 ∙ name_taken fields t rest (ap (is_sort sort.Word) h.2 ∙ sort_same sort.Word) (rw (h.0, h.1) refl)

-- ---- fields

abbrev of_kind : Lexeme → Bool → Kind → Field
of_kind t nullable kind = record { name = t.bytes; nullable = nullable; kind = kind }

abbrev typed : Lexeme → Bool → Field → Phrase
typed t nullable = chain kind_form (λ k. given (of_kind t nullable k))

abbrev typed_at : Lexeme → Bool → Reader SchemaWhy Field
typed_at t nullable = bind kind_at (λ k. gives (of_kind t nullable k))

typed_sound : (t : Lexeme) (nullable : Bool) → Sound (typed t nullable) (typed_at t nullable) (lacks (codes "["))
typed_sound t nullable = then_sound kind_sound (λ k. narrow_sound (λ ts h. tt) (gives_sound (of_kind t nullable k))) (λ k f ts rest h g. rw h.1 g)

-- no type begins with the word `nullable`
kind_other : (k : Kind) (ts rest : List Lexeme) → kind_form k ts rest → lacks (codes "nullable") ts
kind_other (kind.Int bits) [] rest h = absurd h.1
kind_other (kind.Int bits) (t ∷ ts) rest h = lacks_other (codes "nullable") t ts (ap (λ b. bytes_eq b (codes "nullable")) h.1.0)
kind_other (kind.UInt bits) [] rest h = absurd h.1
kind_other (kind.UInt bits) (t ∷ ts) rest h = lacks_other (codes "nullable") t ts (ap (λ b. bytes_eq b (codes "nullable")) h.1.0)
kind_other kind.Date [] rest h = absurd h.1
kind_other kind.Date (t ∷ ts) rest h = lacks_other (codes "nullable") t ts (ap (λ b. bytes_eq b (codes "nullable")) h.1.0)
kind_other (kind.Dec p s) [] rest h = absurd h.1.1
kind_other (kind.Dec p s) (t ∷ ts) rest h = lacks_other (codes "nullable") t ts (ap (λ b. bytes_eq b (codes "nullable")) h.1.1.0)
kind_other (kind.Text n true) [] rest h = absurd h.1.1
kind_other (kind.Text n true) (t ∷ ts) rest h = lacks_other (codes "nullable") t ts (ap (λ b. bytes_eq b (codes "nullable")) h.1.1.0)
kind_other (kind.Text n false) [] rest h = absurd h.1.1
kind_other (kind.Text n false) (t ∷ ts) rest h = lacks_other (codes "nullable") t ts (ap (λ b. bytes_eq b (codes "nullable")) h.1.1.0)

abbrev nullable_at : Lexeme → Reader SchemaWhy Field
nullable_at t ts = kind_at (accept_at (codes "nullable") ts).1 >>= λ k. Ok (of_kind t (accept_at (codes "nullable") ts).0 k.0, k.1)

by_nullable : (t : Lexeme) (p : Bool × List Lexeme) → (kind_at p.1 >>= λ k. Ok (of_kind t p.0 k.0, k.1)) ≡ (if p.0 then typed_at t true p.1 else typed_at t false p.1)
by_nullable t (true, ts) = refl
by_nullable t (false, ts) = refl

nullable_sound : (t : Lexeme) → Sound (either (codes "nullable") (typed t true) (typed t false)) (nullable_at t) (lacks (codes "["))
nullable_sound t = same_sound (λ ts. by_nullable t (accept_at (codes "nullable") ts)) (choose_sound (codes "nullable") (typed_sound t true) (typed_sound t false) (λ f ts rest h g. kind_other h.0 ts h.1 h.2))

abbrev colon : Lexeme → Field → Phrase
colon t = chain (said (codes ":")) (λ c. either (codes "nullable") (typed t true) (typed t false))

colon_sound : (t : Lexeme) → Sound (colon t) (bind (expect_at (codes ":") Syntax) (λ c. nullable_at t)) (lacks (codes "["))
colon_sound t = and_then (expect_sound (codes ":") Syntax) (λ c. nullable_sound t)

-- a field whose name no field before has
abbrev pub field_form : List Field → Field → Phrase
field_form fields f ts rest = IsField f × (has_field fields f.name ≡ false) × field_phrase f ts rest

-- a kind, whatever the rest is called
to_typed : (t : Lexeme) (b : Bool) (f : Field) (ts rest : List Lexeme) → typed t b f ts rest → (f ≡ of_kind t b f.kind) × kind_form f.kind ts rest
to_typed t b f ts rest h =
    let k : f.kind ≡ h.0 = ap (λ (g : Field). g.kind) h.3.0 in
    (h.3.0 ∙ ap (of_kind t b) (sym k), subst (λ (us : List Lexeme). kind_form f.kind ts us) h.3.1 (subst (λ (x : Kind). kind_form x ts h.1) (sym k) h.2))

to_named : (fields : List Field) (t : Lexeme) (b : Bool) (k : Kind) (ts one two rest : List Lexeme) → named fields t ts one → word (codes ":") one two → (nullable_phrase b ~ kind_phrase k) two rest → IsKind k → field_form fields (of_kind t b k) ts rest
to_named fields t b k ts one two rest n c h i =
    let front : token sort.Word (λ bytes. bytes ≡ t.bytes) ts one = subst (λ (us : List Lexeme). token sort.Word (λ bytes. bytes ≡ t.bytes) us one) (sym n.3) (n.2, refl, refl) in
    ((field_name t.bytes n.0, i), n.1, (one, front, (two, c, h)))

to_field_by : (fields : List Field) (t : Lexeme) (f : Field) (ts one two rest : List Lexeme) → named fields t ts one → word (codes ":") one two → either (codes "nullable") (typed t true) (typed t false) f two rest → field_form fields f ts rest
to_field_by fields t f ts one two rest n c h =
    elim h [
      | inl a ↦ (let k = to_typed t true f a.0 rest a.2 in subst (λ (x : Field). field_form fields x ts rest) (sym k.0) (to_named fields t true f.kind ts one two rest n c (a.0, a.1, k.1.1) k.1.0))
      | inr b ↦ (let k = to_typed t false f two rest b in subst (λ (x : Field). field_form fields x ts rest) (sym k.0) (to_named fields t false f.kind ts one two rest n c (two, refl, k.1.1) k.1.0))
    ]

to_field : (fields : List Field) (f : Field) (ts rest : List Lexeme) → chain (named fields) colon f ts rest → field_form fields f ts rest
to_field fields f ts rest h = to_field_by fields h.0 f ts h.1 h.3.1 rest h.2 (to_word (codes ":") h.3.0 h.1 h.3.1 h.3.2) h.3.3

from_nullable : (t : Lexeme) (f : Field) (b : Bool) (ts rest : List Lexeme) → f ≡ of_kind t b f.kind → IsKind f.kind → (nullable_phrase b ~ kind_phrase f.kind) ts rest → either (codes "nullable") (typed t true) (typed t false) f ts rest
from_nullable t f true ts rest e i h = inl (h.0, h.1, (f.kind, rest, (i, h.2), (e, refl)))
from_nullable t f false ts rest e i h = inr (f.kind, rest, (i, subst (λ (us : List Lexeme). kind_phrase f.kind us rest) (sym h.1) h.2), (e, refl))

-- the test of a name
named_so : (bytes : List ℕ) → IsFieldName bytes → is_field_name bytes ≡ true
named_so bytes h = rw (le-leb (length bytes) 64 h.short, h.begun, h.each) refl

from_field : (fields : List Field) (f : Field) (ts rest : List Lexeme) → field_form fields f ts rest → chain (named fields) colon f ts rest
from_field fields f [] rest h = absurd h.2.1
from_field fields f (t ∷ ts) rest h =
    let name : t.bytes ≡ f.name = h.2.1.1 in
    let c = from_word (codes ":") h.2.0 h.2.2.0 h.2.2.1 in
    let same : f ≡ of_kind t f.nullable f.kind = ap (λ (n : List ℕ). let g : Field = record { name = n; nullable = f.nullable; kind = f.kind } in g) (sym name) in
    let front : named fields t (t ∷ ts) h.2.0 = (ap is_field_name name ∙ named_so f.name h.0.0, ap (has_field fields) name ∙ h.1, h.2.1.0, ap (λ (us : List Lexeme). t ∷ us) h.2.1.2) in
    (t, h.2.0, front, (c.0, h.2.2.0, c.1, from_nullable t f f.nullable h.2.2.0 rest same h.0.1 h.2.2.2))

pub field_reads : (fields : List Field) → IsReader (field_form fields) (field_at fields)
unfolding field_at
field_reads fields = map_reads (chain (named fields) colon) (field_form fields) (bind (name_at fields) (λ t. bind (expect_at (codes ":") Syntax) (λ c. nullable_at t))) (to_field fields)
    (bind_reads (named fields) colon (name_at fields) (λ t. bind (expect_at (codes ":") Syntax) (λ c. nullable_at t)) (name_reads fields) (λ t. (colon_sound t).reads) (λ t. (colon_sound t).stands))

pub field_read : (fields : List Field) → IsRead (field_form fields) (field_at fields) (lacks (codes "["))
unfolding field_at
field_read fields f ts rest h g =
    bind_read (named fields) colon (name_at fields) (λ t. bind (expect_at (codes ":") Syntax) (λ c. nullable_at t)) anything (lacks (codes "[")) (name_read fields) (λ t. (colon_sound t).read) (λ t y us vs k m. tt) f ts rest (from_field fields f ts rest h) g
