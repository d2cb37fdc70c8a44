-- Schemas: what is read is one, what is one is read, and where reading stops none goes on.
use Rattle.std.proofs.Common.{◌≡◌, ◌≤◌, inl, inr, ℕ, zero, suc, List, [], ◌∷◌, ◌++◌, Bool, true, false, Ok, Err, Result, length, refl, sym, ap, ◌∙◌, arith, subst, append_assoc, eqb, lit≤}
use Rattle.std.specs.Prelude.{codes, if◌then◌else◌, ◌||◌, not}
use Rattle.std.specs.Str.{bytes_eq}
use Rattle.std.specs.List.{AllByRecursion}
use Rattle.std.proofs.lemmas.List.{append-nil}
use Rattle.std.proofs.lemmas.Bool.Decides.{nat_tests}
use Rattle.ds_lex.specs.Pieces.{begins_with, opens_word}
use Rattle.ds_value.specs.declared.kind.Kind.TheVariants as kind
use Rattle.ds_lex.specs.declared.token.Sort.TheVariants as sort
use Rattle.ds_lex.specs.declared.refusal.Refusal.{Refusal}
use Rattle.ds_lex.specs.declared.refusal.Refusal.TheVariants as refusal
use Rattle.ds_lex.specs.Lexemes.{Lexeme}
use Rattle.ds_lex.specs.Reading.{◌>>=◌, refuse, is_sort, expect_at, accept_at}
use Rattle.ds_lex.specs.Phrases.{Phrase, word, ◌~◌, StopsAt, IsAt}
use Rattle.ds_lex.proofs.Readers.{Reader, read_holds, whole, whole_spelled, spelled_whole, whole_stops, map_stands, IsReader, IsRead, Outcome, CanStand, chain, bind, choose, either, gives, given, said, to_word, from_word, anything, took, refused, ended, behind, bind_reads, bind_stands, expect_reads, expect_stands, expect_read, bind_reads_where, map_reads, same_reads, gives_reads, gives_stands, choose_reads, word_stands, same_bytes, bytes_same, chosen, chosen_not, lacks, lacks_other, Sound}
use Rattle.ds_schema.specs.declared.schema.Field.{Field}
use Rattle.ds_schema.specs.declared.schema_text.fault.SchemaWhy.{SchemaWhy}
use Rattle.ds_schema.specs.declared.schema_text.fault.SchemaWhy.TheVariants.{Syntax, Name, Count}
use Rattle.ds_schema.specs.Schemas.{IsField, AreDistinct, IsSchema}
use Rattle.ds_schema.specs.SchemaReading.{has_field, field_at, semicolon_at, separator_at, fields_at, schema_at, whole_schema_at}
use Rattle.ds_schema.specs.SchemaLaws.{schema_form}
use Rattle.ds_schema.specs.SchemaGrammar.{field_phrase, further_phrase, SpellsSchema}
use Rattle.ds_schema.proofs.FieldReaders.{is_free, name_taken, no_name, no_word, no_token, field_form, field_reads, field_read}

-- ---- lists of fields

abbrev pub AreFields : List Field → Type 0
AreFields fields = AllByRecursion IsField fields × AreDistinct fields

all_push : (fields : List Field) (f : Field) → AllByRecursion IsField fields → IsField f → AllByRecursion IsField (fields ++ f ∷ [])
all_push [] f all h = (h, tt)
all_push (g ∷ fields) f all h = (all.0, all_push fields f all.1 h)

differs : (g : Field) (fields : List Field) (f : Field) → AllByRecursion (λ x. g.name ≡ x.name → ⊥) fields → (g.name ≡ f.name → ⊥) → AllByRecursion (λ x. g.name ≡ x.name → ⊥) (fields ++ f ∷ [])
differs g [] f all h = (h, tt)
differs g (x ∷ fields) f all h = (all.0, differs g fields f all.1 h)

neither : (a b : Bool) → (a || b) ≡ false → (a ≡ false) × (b ≡ false)
neither true b h = absurd cc
neither false b h = (refl, h)

other_bytes : (a b : List ℕ) → bytes_eq a b ≡ false → a ≡ b → ⊥
other_bytes a b h e = let k : true ≡ false = sym (bytes_same a b e) ∙ h in absurd cc

unequal_by : (a b : List ℕ) (t : Bool) → bytes_eq a b ≡ t → (a ≡ b → ⊥) → bytes_eq a b ≡ false
unequal_by a b true e differ = absurd (differ (same_bytes a b e))
unequal_by a b false e differ = e

-- what the test of the names says of the first field
has_first : (g : Field) (fields : List Field) (name : List ℕ) → has_field (g ∷ fields) name ≡ false → (g.name ≡ name → ⊥) × (has_field fields name ≡ false)
has_first g fields name h = let n = neither (bytes_eq g.name name) (has_field fields name) h in (other_bytes g.name name n.0, n.1)

distinct_push : (fields : List Field) (f : Field) → AreDistinct fields → has_field fields f.name ≡ false → AreDistinct (fields ++ f ∷ [])
distinct_push [] f d h = (tt, tt)
distinct_push (g ∷ fields) f d h = let k = has_first g fields f.name h in (differs g fields f d.0 k.0, distinct_push fields f d.1 k.1)

pub push_field : (fields : List Field) (f : Field) → AreFields fields → IsField f → has_field fields f.name ≡ false → AreFields (fields ++ f ∷ [])
push_field fields f a h free = (all_push fields f a.0 h, distinct_push fields f a.1 free)

-- a field among others is one, and its name is none of those before
all_at : (fields : List Field) (f : Field) (more : List Field) → AllByRecursion IsField (fields ++ f ∷ more) → IsField f
all_at [] f more all = all.0
all_at (g ∷ fields) f more all = all_at fields f more all.1

differs_at : (g : Field) (fields : List Field) (f : Field) (more : List Field) → AllByRecursion (λ x. g.name ≡ x.name → ⊥) (fields ++ f ∷ more) → g.name ≡ f.name → ⊥
differs_at g [] f more all = all.0
differs_at g (x ∷ fields) f more all = differs_at g fields f more all.1

free_at : (fields : List Field) (f : Field) (more : List Field) → AreDistinct (fields ++ f ∷ more) → has_field fields f.name ≡ false
free_at [] f more d = refl
free_at (g ∷ fields) f more d = rw (unequal_by g.name f.name (bytes_eq g.name f.name) refl (differs_at g fields f more d.0)) (free_at fields f more d.1)

-- ---- further fields

-- behind a field, where these were read
abbrev pub more_at : ℕ → List Field → Reader SchemaWhy (List Field)
more_at room fields ts = separator_at ts >>= λ s. if s.0 then fields_at room fields s.1 else Ok (fields, s.1)

-- behind a semicolon
abbrev after_at : ℕ → List Field → Reader SchemaWhy (List Field)
after_at room fields = choose (codes ")") (gives fields) (fields_at room fields)

none_left : (room : ℕ) (fields : List Field) → more_at room fields [] ≡ Err refusal.AtEnd
unfolding separator_at semicolon_at expect_at accept_at
none_left room fields = refl

close_step : (room : ℕ) (fields : List Field) (t : Lexeme) (ts : List Lexeme) → bytes_eq t.bytes (codes ")") ≡ true → more_at room fields (t ∷ ts) ≡ Ok (fields, ts)
unfolding separator_at semicolon_at expect_at accept_at
close_step room fields t ts e = rw e refl

other_step : (room : ℕ) (fields : List Field) (t : Lexeme) (ts : List Lexeme) → bytes_eq t.bytes (codes ")") ≡ false → bytes_eq t.bytes (codes ";") ≡ false → more_at room fields (t ∷ ts) ≡ refuse t Syntax
unfolding separator_at semicolon_at expect_at accept_at
other_step room fields t ts e f = rw (e, f) refl

by_close : (room : ℕ) (fields : List Field) (p : Bool × List Lexeme) → (if not p.0 then fields_at room fields p.1 else Ok (fields, p.1)) ≡ (if p.0 then gives fields p.1 else fields_at room fields p.1)
by_close room fields (true, ts) = refl
by_close room fields (false, ts) = refl

semicolon_step : (room : ℕ) (fields : List Field) (t : Lexeme) (ts : List Lexeme) → bytes_eq t.bytes (codes ")") ≡ false → bytes_eq t.bytes (codes ";") ≡ true → more_at room fields (t ∷ ts) ≡ after_at room fields ts
unfolding separator_at semicolon_at expect_at
semicolon_step room fields t ts e f = rw (lacks_other (codes ")") t ts e, f) (by_close room fields (accept_at (codes ")") ts))

-- these fields, of which some were read before and the others stand here
pub record Extends (room : ℕ) (fields all : List Field) (others : List Field) : Type 0 where
  pub joined : all ≡ fields ++ others
  pub few : length others ≤ room
  pub fit : AreFields all

abbrev pub further_form : ℕ → List Field → List Field → Phrase
further_form room fields all ts rest = (others : List Field) × Extends room fields all others × further_phrase others ts rest

-- the same where one further field at least stands here
abbrev pub next_form : ℕ → List Field → List Field → Phrase
next_form room fields all ts rest = (f : Field) × (others : List Field) × Extends room fields all (f ∷ others) × (field_phrase f ~ further_phrase others) ts rest

none_further : (room : ℕ) (fields : List Field) → AreFields fields → Extends room fields fields []
none_further room fields a = record { joined = sym (append-nil fields); few = omega arith; fit = a }

closed : (t : Lexeme) (ts : List Lexeme) → t.bytes ≡ codes ")" → further_phrase [] (t ∷ ts) ts
closed t ts e = (t ∷ ts, inr refl, (e, refl))

closed_after : (t u : Lexeme) (ts : List Lexeme) → t.bytes ≡ codes ";" → u.bytes ≡ codes ")" → further_phrase [] (t ∷ u ∷ ts) ts
closed_after t u ts e f = (u ∷ ts, inl (e, refl), (f, refl))

further_stands : (room : ℕ) (fields : List Field) → AreFields fields → CanStand (further_form room fields)
further_stands room fields a = (fields, record { at = 0; sort = sort.Sign; bytes = codes ")" } ∷ [], λ more. ([], none_further room fields a, closed (record { at = 0; sort = sort.Sign; bytes = codes ")" }) more refl))

-- where there is no room the name is still read
full_step : (fields : List Field) (t : Lexeme) (ts : List Lexeme) → is_sort sort.Word t.sort ≡ true → is_free fields t.bytes ≡ true → fields_at 0 fields (t ∷ ts) ≡ refuse t Count
unfolding fields_at
full_step fields t ts e f = ap (λ o. o >>= λ w. refuse w.0 Count) (name_taken fields t ts e f)

full_name : (fields : List Field) (t : Lexeme) (ts : List Lexeme) → is_sort sort.Word t.sort ≡ true → is_free fields t.bytes ≡ false → fields_at 0 fields (t ∷ ts) ≡ refuse t Name
unfolding fields_at
full_name fields t ts e f = ap (λ o. o >>= λ w. refuse w.0 Count) (no_name fields t ts e f)

full_word : (fields : List Field) (t : Lexeme) (ts : List Lexeme) → is_sort sort.Word t.sort ≡ false → fields_at 0 fields (t ∷ ts) ≡ refuse t Syntax
unfolding fields_at
full_word fields t ts e = ap (λ o. o >>= λ w. refuse w.0 Count) (no_word fields t ts e)

full_end : (fields : List Field) → fields_at 0 fields [] ≡ Err refusal.AtEnd
unfolding fields_at
full_end fields = ap (λ o. o >>= λ w. refuse w.0 Count) (no_token fields)

full_by : (fields : List Field) (t : Lexeme) (ts : List Lexeme) (a b : Bool) → is_sort sort.Word t.sort ≡ a → is_free fields t.bytes ≡ b → Outcome (next_form 0 fields) (fields_at 0 fields) (t ∷ ts) (fields_at 0 fields (t ∷ ts))
full_by fields t ts true true e f = rw (full_step fields t ts e f) (refused (next_form 0 fields) (fields_at 0 fields) t ts Count (λ more. full_step fields t more e f))
full_by fields t ts true false e f = rw (full_name fields t ts e f) (refused (next_form 0 fields) (fields_at 0 fields) t ts Name (λ more. full_name fields t more e f))
full_by fields t ts false b e f = rw (full_word fields t ts e) (refused (next_form 0 fields) (fields_at 0 fields) t ts Syntax (λ more. full_word fields t more e))

full_reads : (fields : List Field) → IsReader (next_form 0 fields) (fields_at 0 fields)
full_reads fields [] = rw (full_end fields) (ended (next_form 0 fields) (fields_at 0 fields) (full_end fields))
full_reads fields (t ∷ ts) = full_by fields t ts (is_sort sort.Word t.sort) (is_free fields t.bytes) refl refl

-- behind a semicolon: the bracket, or a further field
abbrev after_form : ℕ → List Field → List Field → Phrase
after_form room fields = either (codes ")") (given fields) (next_form room fields)

to_further : (room : ℕ) (fields : List Field) → AreFields fields → (t : Lexeme) → t.bytes ≡ codes ";" → (all : List Field) (ts rest : List Lexeme) → after_form room fields all ts rest → further_form room fields all (t ∷ ts) rest
to_further room fields a t e all ts rest h =
    elim h [
      | inl c ↦ subst (λ (x : List Field). further_form room fields x (t ∷ ts) rest) (sym c.2.0) ([], none_further room fields a, (ts, inl (e, refl), subst (λ (us : List Lexeme). word (codes ")") ts us) c.2.1 c.1))
      | inr d ↦ (d.0 ∷ d.1, d.2, (ts, (e, refl), d.3))
    ]

more_by : (room : ℕ) (fields : List Field) → AreFields fields → IsReader (next_form room fields) (fields_at room fields) → (t : Lexeme) (ts : List Lexeme) (a b : Bool) → bytes_eq t.bytes (codes ")") ≡ a → bytes_eq t.bytes (codes ";") ≡ b → Outcome (further_form room fields) (more_at room fields) (t ∷ ts) (more_at room fields (t ∷ ts))
more_by room fields fit reads t ts true b e f =
    rw (close_step room fields t ts e) (took (further_form room fields) (more_at room fields) t ts fields (λ more. ([], none_further room fields fit, closed t more (same_bytes t.bytes (codes ")") e))) (λ more. close_step room fields t more e))
more_by room fields fit reads t ts false true e f =
    rw (semicolon_step room fields t ts e f) (behind (after_form room fields) (further_form room fields) (after_at room fields) (more_at room fields) t ts (λ more. semicolon_step room fields t more e f) (to_further room fields fit t (same_bytes t.bytes (codes ";") f)) (word_stands (codes ")") (given fields) (next_form room fields) (gives_stands fields))
    (after_at room fields ts) (choose_reads (codes ")") (given fields) (next_form room fields) (gives fields) (fields_at room fields) (gives_reads fields) (gives_stands fields) reads ts))
more_by room fields fit reads t ts false false e f = rw (other_step room fields t ts e f) (refused (further_form room fields) (more_at room fields) t ts Syntax (λ more. other_step room fields t more e f))

more_from : (room : ℕ) (fields : List Field) → AreFields fields → IsReader (next_form room fields) (fields_at room fields) → IsReader (further_form room fields) (more_at room fields)
more_from room fields fit reads [] = rw (none_left room fields) (ended (further_form room fields) (more_at room fields) (none_left room fields))
more_from room fields fit reads (t ∷ ts) = more_by room fields fit reads t ts (bytes_eq t.bytes (codes ")")) (bytes_eq t.bytes (codes ";")) refl refl

to_next : (room : ℕ) (fields all : List Field) (ts rest : List Lexeme) → chain (field_form fields) (λ f. further_form room (fields ++ f ∷ [])) all ts rest → next_form (suc room) fields all ts rest
to_next room fields all ts rest h =
    let e = h.3.1 in
    (h.0, h.3.0, record { joined = e.joined ∙ append_assoc fields (h.0 ∷ []) h.3.0; few = omega (arith, e.few); fit = e.fit }, (h.1, h.2.2, h.3.2))

next_step : (room : ℕ) (fields : List Field) (ts : List Lexeme) → fields_at (suc room) fields ts ≡ bind (field_at fields) (λ f. more_at room (fields ++ f ∷ [])) ts
unfolding fields_at
next_step room fields ts = refl

pub next_reads : (room : ℕ) (fields : List Field) → AreFields fields → IsReader (next_form room fields) (fields_at room fields)
next_reads zero fields fit = full_reads fields
next_reads (suc room) fields fit =
    same_reads (next_form (suc room) fields) (bind (field_at fields) (λ f. more_at room (fields ++ f ∷ []))) (fields_at (suc room) fields) (next_step room fields)
    (map_reads (chain (field_form fields) (λ f. further_form room (fields ++ f ∷ []))) (next_form (suc room) fields) (bind (field_at fields) (λ f. more_at room (fields ++ f ∷ []))) (to_next room fields)
    (bind_reads_where (field_form fields) (λ f. further_form room (fields ++ f ∷ [])) (field_at fields) (λ f. more_at room (fields ++ f ∷ [])) (field_reads fields)
    (λ f us rest h. let more = push_field fields f fit h.0 h.1 in (more_from room (fields ++ f ∷ []) more (next_reads room (fields ++ f ∷ []) more), further_stands room (fields ++ f ∷ []) more))))

-- ---- what is spelled so is read

word_other : (bytes other : List ℕ) → bytes_eq other bytes ≡ false → (ts mid : List Lexeme) → word other ts mid → lacks bytes ts
word_other bytes other e [] mid h = absurd h
word_other bytes other e (t ∷ ts) mid h = lacks_other bytes t ts (ap (λ b. bytes_eq b bytes) h.0 ∙ e)

no_bracket : (b : ℕ) → opens_word b ≡ true → eqb b 41 ≡ false
no_bracket b h = grind (arith, nat_tests)

name_other : (bytes : List ℕ) → begins_with opens_word bytes ≡ true → bytes_eq bytes (codes ")") ≡ false
name_other [] h = refl
name_other (b ∷ bytes) h = rw (no_bracket b h) refl

-- what may follow a field
further_other : (others : List Field) (ts rest : List Lexeme) → further_phrase others ts rest → lacks (codes "[") ts
further_other [] ts rest h =
    elim h.1 [
      | inl s ↦ word_other (codes "[") (codes ";") refl ts h.0 s
      | inr n ↦ rw n (word_other (codes "[") (codes ")") refl h.0 rest h.2)
    ]
further_other (g ∷ others) ts rest h = word_other (codes "[") (codes ";") refl ts h.0 h.1

-- no field begins with the bracket
field_other : (f : Field) (ts rest : List Lexeme) → IsField f → field_phrase f ts rest → lacks (codes ")") ts
field_other f [] rest i h = absurd h.1
field_other f (t ∷ ts) rest i h = lacks_other (codes ")") t ts (ap (λ b. bytes_eq b (codes ")")) h.1.1 ∙ name_other f.name i.0.begun)

abbrev MoreRead : List Field → Type 0
MoreRead others = (room : ℕ) (fields all : List Field) (ts rest : List Lexeme) → Extends room fields all others → further_phrase others ts rest → more_at room fields ts ≡ Ok (all, rest)

next_from : (others : List Field) → MoreRead others → (room : ℕ) (fields all : List Field) (f : Field) (ts rest : List Lexeme) → Extends room fields all (f ∷ others) → (field_phrase f ~ further_phrase others) ts rest → fields_at room fields ts ≡ Ok (all, rest)
next_from others more zero fields all f ts rest e h = absurd (omega (arith, e.few))
next_from others more (suc room) fields all f ts rest e h =
    let is : IsField f = all_at fields f others (subst (λ (x : List Field). AllByRecursion IsField x) e.joined e.fit.0) in
    let free : has_field fields f.name ≡ false = free_at fields f others (subst AreDistinct e.joined e.fit.1) in
    let inside : Extends room (fields ++ f ∷ []) all others = record { joined = e.joined ∙ sym (append_assoc fields (f ∷ []) others); few = omega (arith, e.few); fit = e.fit } in
    next_step room fields ts ∙ (ap (λ o. o >>= λ p. more_at room (fields ++ p.0 ∷ []) p.1) (field_read fields f ts h.0 (is, free, h.1) (further_other others h.0 rest h.2)) ∙ more room (fields ++ f ∷ []) all h.0 rest inside h.2)

last_closed : (room : ℕ) (fields : List Field) (mid rest : List Lexeme) → word (codes ")") mid rest → more_at room fields mid ≡ Ok (fields, rest)
last_closed room fields [] rest h = absurd h
last_closed room fields (t ∷ ts) rest h = close_step room fields t ts (bytes_same t.bytes (codes ")") h.0) ∙ ap (λ (us : List Lexeme). let r : Result (List Field × List Lexeme) (Refusal SchemaWhy) = Ok (fields, us) in r) h.1

-- a semicolon, and what comes behind it
semicolon_read : (room : ℕ) (fields : List Field) (ts mid : List Lexeme) → word (codes ";") ts mid → more_at room fields ts ≡ after_at room fields mid
semicolon_read room fields [] mid h = absurd h
semicolon_read room fields (t ∷ ts) mid h = semicolon_step room fields t ts (ap (λ b. bytes_eq b (codes ")")) h.0) (ap (λ b. bytes_eq b (codes ";")) h.0) ∙ ap (after_at room fields) h.1

after_closed : (room : ℕ) (fields : List Field) (mid rest : List Lexeme) → word (codes ")") mid rest → after_at room fields mid ≡ Ok (fields, rest)
after_closed room fields [] rest h = absurd h
after_closed room fields (t ∷ ts) rest h = chosen (codes ")") (gives fields) (fields_at room fields) t ts h.0 ∙ ap (λ (us : List Lexeme). let r : Result (List Field × List Lexeme) (Refusal SchemaWhy) = Ok (fields, us) in r) h.1

pub more_read : (others : List Field) → MoreRead others
more_read [] room fields all ts rest e h =
    let same : all ≡ fields = e.joined ∙ append-nil fields in
    rw same (elim h.1 [
      | inl s ↦ semicolon_read room fields ts h.0 s ∙ after_closed room fields h.0 rest h.2
      | inr n ↦ ap (more_at room fields) n ∙ last_closed room fields h.0 rest h.2
    ])
more_read (g ∷ others) room fields all ts rest e h =
    let is : IsField g = all_at fields g others (subst (λ (x : List Field). AllByRecursion IsField x) e.joined e.fit.0) in
    semicolon_read room fields ts h.0 h.1
    ∙ (chosen_not (codes ")") (gives fields) (fields_at room fields) h.0 (field_other g h.0 h.2.0 is h.2.1) ∙ next_from others (more_read others) room fields all g h.0 rest e h.2)

-- ---- schemas

to_schema : (fields : List Field) (ts rest : List Lexeme) → chain (said (codes "record")) (λ a. chain (said (codes "(")) (λ b. next_form 256 [])) fields ts rest → schema_form fields ts rest
to_schema fields ts rest h =
    let n = h.3.3 in
    let e = n.2 in
    subst (λ (x : List Field). schema_form x ts rest) (sym e.joined) (
      record { some = omega arith; few = e.few; each = subst (AllByRecursion IsField) e.joined e.fit.0; distinct = subst AreDistinct e.joined e.fit.1 },
      (h.1, to_word (codes "record") h.0 ts h.1 h.2, (h.3.1, to_word (codes "(") h.3.0 h.1 h.3.1 h.3.2, n.3)),
    )

no_fields : AreFields []
no_fields = (tt, tt)

a_field : Field
a_field = record { name = codes "a"; nullable = false; kind = kind.Date }

a_word : List ℕ → Lexeme
a_word bytes = record { at = 0; sort = sort.Word; bytes = bytes }

first_stands : CanStand (next_form 256 [])
unfolding a_field a_word
first_stands = (
  a_field ∷ [],
  a_word (codes "a") ∷ a_word (codes ":") ∷ a_word (codes "date") ∷ a_word (codes ")") ∷ [],
  λ more. (
    a_field,
    [],
    record { joined = refl; few = lit≤ tt; fit = (((record { short = lit≤ tt; begun = refl; each = refl }, tt), tt), (tt, tt)) },
    (a_word (codes ")") ∷ more, (a_word (codes ":") ∷ a_word (codes "date") ∷ a_word (codes ")") ∷ more, (refl, refl, refl), (a_word (codes "date") ∷ a_word (codes ")") ∷ more, (refl, refl), (a_word (codes "date") ∷ a_word (codes ")") ∷ more, refl, (refl, refl)))), closed (a_word (codes ")")) more refl),
  ),
)

schema_reads : IsReader schema_form schema_at
unfolding schema_at
schema_reads = map_reads (chain (said (codes "record")) (λ a. chain (said (codes "(")) (λ b. next_form 256 []))) schema_form schema_at to_schema
    (bind_reads (said (codes "record")) (λ a. chain (said (codes "(")) (λ b. next_form 256 [])) (expect_at (codes "record") Syntax) (λ a. bind (expect_at (codes "(") Syntax) (λ b. fields_at 256 []))
    (expect_reads (codes "record") Syntax)
    (λ a. bind_reads (said (codes "(")) (λ b. next_form 256 []) (expect_at (codes "(") Syntax) (λ b. fields_at 256 []) (expect_reads (codes "(") Syntax) (λ b. next_reads 256 [] no_fields) (λ b. first_stands))
    (λ a. bind_stands (said (codes "(")) (λ b. next_form 256 []) (expect_stands (codes "(")) (λ b. first_stands)))

schema_read : IsRead schema_form schema_at anything
unfolding schema_at
schema_read [] ts rest h f = absurd h.1
schema_read (f ∷ fields) ts rest h g =
    let r = from_word (codes "record") ts h.1.0 h.1.1 in
    let b = from_word (codes "(") h.1.0 h.1.2.0 h.1.2.1 in
    let whole : Extends 256 [] (f ∷ fields) (f ∷ fields) = record { joined = refl; few = h.0.few; fit = (h.0.each, h.0.distinct) } in
    ap (λ o. o >>= λ p. expect_at (codes "(") Syntax p.1 >>= λ q. fields_at 256 [] q.1) (expect_read (codes "record") Syntax r.0 ts h.1.0 r.1 tt)
    ∙ (ap (λ o. o >>= λ q. fields_at 256 [] q.1) (expect_read (codes "(") Syntax b.0 h.1.0 h.1.2.0 b.1 tt)
    ∙ next_from fields (more_read fields) 256 [] (f ∷ fields) f h.1.2.0 rest whole h.1.2.2)

schema_stands : CanStand schema_form
schema_stands =
    map_stands (chain (said (codes "record")) (λ a. chain (said (codes "(")) (λ b. next_form 256 []))) schema_form to_schema
    (bind_stands (said (codes "record")) (λ a. chain (said (codes "(")) (λ b. next_form 256 [])) (expect_stands (codes "record")) (λ a. bind_stands (said (codes "(")) (λ b. next_form 256 []) (expect_stands (codes "(")) (λ b. first_stands)))

pub schema_sound : Sound schema_form schema_at anything
schema_sound = record { reads = schema_reads; stands = schema_stands; read = schema_read }

-- ---- a schema and nothing behind it

same_whole : (ts : List Lexeme) → whole_schema_at ts ≡ whole schema_at Syntax ts
unfolding whole_schema_at
same_whole ts = refl

pub read_is_spelled : (ts : List Lexeme) (fields : List Field) → whole_schema_at ts ≡ Ok fields → SpellsSchema ts fields
read_is_spelled ts fields h = let s = whole_spelled schema_form schema_at Syntax schema_reads ts fields (sym (same_whole ts) ∙ h) in (s.1, s.0)

pub spelled_is_read : (ts : List Lexeme) (fields : List Field) → SpellsSchema ts fields → whole_schema_at ts ≡ Ok fields
spelled_is_read ts fields h = same_whole ts ∙ spelled_whole schema_form schema_at Syntax anything schema_read tt ts fields (h.1, h.0)

pub stops_first : (ts : List Lexeme) (e : Refusal SchemaWhy) → whole_schema_at ts ≡ Err e → (left : List Lexeme) × StopsAt schema_form ts left × IsAt e left
stops_first ts e h = whole_stops schema_form schema_at Syntax anything schema_sound tt ts e (sym (same_whole ts) ∙ h)

-- what is read at the front is a schema
pub read_is_schema : (ts rest : List Lexeme) (fields : List Field) → schema_at ts ≡ Ok (fields, rest) → IsSchema fields
read_is_schema ts rest fields h = (read_holds schema_form schema_at schema_reads ts rest fields h).0
