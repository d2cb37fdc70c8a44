-- Fields and schemas: each refusal of their reader has its reason.
use Rattle.std.proofs.Common.{◌≡◌, ◌<◌, ◌+◌, inl, inr, ℕ, zero, suc, List, [], ◌∷◌, ◌++◌, Bool, true, false, Ok, Err, refl, sym, ap, append_assoc, subst, length, length-append, arith}
use Rattle.std.specs.Prelude.{codes, if◌then◌else◌, not}
use Rattle.std.specs.Str.{bytes_eq}
use Rattle.ds_value.specs.declared.kind.Kind.{Kind}
use Rattle.ds_lex.specs.declared.token.Sort.TheVariants as sort
use Rattle.ds_lex.specs.declared.refusal.Refusal.TheVariants as refusal
use Rattle.ds_lex.specs.Lexemes.{Lexeme}
use Rattle.ds_lex.specs.Reading.{◌>>=◌, refuse, is_sort, expect_at, accept_at}
use Rattle.ds_lex.specs.Phrases.{word, nothing, ◌~◌}
use Rattle.ds_lex.proofs.Readers.{Reader, bind, choose, gives, same_sort, same_bytes, lacks_other}
use Rattle.ds_schema.specs.declared.schema.Field.{Field}
use Rattle.ds_schema.specs.declared.schema_text.fault.SchemaWhy.{SchemaWhy}
use Rattle.ds_schema.specs.declared.schema_text.fault.SchemaWhy.TheVariants as causes
use Rattle.ds_schema.specs.SchemaGrammar.{field_phrase}
use Rattle.ds_schema.specs.SchemaReading.{name_at, kind_at, field_at, semicolon_at, separator_at, fields_at, schema_at}
use Rattle.ds_schema.proofs.KindReaders.{kind_form, kind_sound}
use Rattle.ds_schema.proofs.FieldReaders.{is_free, name_taken, no_name, no_word, no_token, field_form, field_reads}
use Rattle.ds_schema.proofs.SchemaReaders.{AreFields as AreFitting, push_field, more_at}
use Rattle.schema_faults.specs.Places.{AreFields, IsFree, closed_fields, before_field, before_type}
use Rattle.schema_faults.proofs.Halting.{Reason, Explains, Halting, Step, Fronts, gives_explains, halted, passed_on, same_explains, step_then, expect_then, bind_explains, choose_explains}
use Rattle.schema_faults.proofs.Names.{free_so, not_free}
use Rattle.schema_faults.proofs.TypeReasons.{TypeFront, at_end, kind_explains}

-- behind these tokens a field behind these may stand
pub record FieldFront (fields : List Field) (before : List Lexeme) : Type 0 where
  pub fit : AreFields fields
  pub front : Fronts (before_field fields) before

-- ---- names

abbrev IsNamed : List Field → Lexeme → Lexeme → Type 0
IsNamed fields t x = (x ≡ t) × (t.sort ≡ sort.Word) × IsFree fields t.bytes

name_reason : (fields : List Field) (before : List Lexeme) → FieldFront fields before → (t : Lexeme) → t.sort ≡ sort.Word → is_free fields t.bytes ≡ false → Reason before t causes.Name
name_reason fields before h t s f = (fields, record { fit = h.fit; front = at_end (before_field fields) before h.front; word = s }, not_free fields t.bytes f)

name_by : (fields : List Field) (before : List Lexeme) → FieldFront fields before → (t : Lexeme) (a b : Bool) → is_sort sort.Word t.sort ≡ a → is_free fields t.bytes ≡ b → Step before (IsNamed fields) (name_at fields) t
name_by fields before h t true true e f = inl (t, (refl, same_sort sort.Word t.sort e, free_so fields t.bytes f), λ more. name_taken fields t more e f)
name_by fields before h t true false e f = inr (causes.Name, name_reason fields before h t (same_sort sort.Word t.sort e) f, λ more. no_name fields t more e f)
name_by fields before h t false b e f = inr (causes.Syntax, tt, λ more. no_word fields t more e)

-- ---- fields

abbrev pub of_kind : Lexeme → Bool → Kind → Field
of_kind t nullable kind = record { name = t.bytes; nullable = nullable; kind = kind }

abbrev typed_at : Lexeme → Bool → Reader SchemaWhy Field
typed_at t nullable = bind kind_at (λ k. gives (of_kind t nullable k))

typed_explains : (fields : List Field) (before : List Lexeme) → TypeFront fields before → (t : Lexeme) (nullable : Bool) → Explains before (typed_at t nullable)
typed_explains fields before h t nullable = bind_explains kind_form before kind_at (λ k. gives (of_kind t nullable k)) kind_sound.reads (kind_explains fields before h) (λ k front g. gives_explains (before ++ front) (of_kind t nullable k))

abbrev pub nullable_at : Lexeme → Reader SchemaWhy Field
nullable_at t ts = kind_at (accept_at (codes "nullable") ts).1 >>= λ k. Ok (of_kind t (accept_at (codes "nullable") ts).0 k.0, k.1)

by_nullable : (t : Lexeme) (p : Bool × List Lexeme) → (kind_at p.1 >>= λ k. Ok (of_kind t p.0 k.0, k.1)) ≡ (if p.0 then typed_at t true p.1 else typed_at t false p.1)
by_nullable t (true, ts) = refl
by_nullable t (false, ts) = refl

-- what stands before a type: a name and a colon, and maybe one word more
plain_front : (fields : List Field) (before : List Lexeme) → FieldFront fields before → length fields < 256 → (t c : Lexeme) → t.sort ≡ sort.Word → IsFree fields t.bytes → c.bytes ≡ codes ":" → TypeFront fields ((before ++ t ∷ []) ++ c ∷ [])
plain_front fields before h room t c s free e = record {
  fit = h.fit;
  room = room;
  front = λ more.
      (let same : ((before ++ t ∷ []) ++ c ∷ []) ++ more ≡ before ++ t ∷ c ∷ more = simp append_assoc in
      subst (λ (xs : List Lexeme). before_type fields xs more) (sym same) (t ∷ c ∷ more, h.front (t ∷ c ∷ more), (c ∷ more, (s, free, refl), (more, (e, refl), inr refl))));
}

nullable_front : (fields : List Field) (before : List Lexeme) → FieldFront fields before → length fields < 256 → (t c n : Lexeme) → t.sort ≡ sort.Word → IsFree fields t.bytes → c.bytes ≡ codes ":" → n.bytes ≡ codes "nullable" → TypeFront fields (((before ++ t ∷ []) ++ c ∷ []) ++ n ∷ [])
nullable_front fields before h room t c n s free e f = record {
  fit = h.fit;
  room = room;
  front = λ more.
      (let same : (((before ++ t ∷ []) ++ c ∷ []) ++ n ∷ []) ++ more ≡ before ++ t ∷ c ∷ n ∷ more = simp append_assoc in
      subst (λ (xs : List Lexeme). before_type fields xs more) (sym same) (t ∷ c ∷ n ∷ more, h.front (t ∷ c ∷ n ∷ more), (c ∷ n ∷ more, (s, free, refl), (n ∷ more, (e, refl), inl (f, refl)))));
}

colon_explains : (fields : List Field) (before : List Lexeme) → FieldFront fields before → length fields < 256 → (t : Lexeme) → t.sort ≡ sort.Word → IsFree fields t.bytes → Explains (before ++ t ∷ []) (bind (expect_at (codes ":") causes.Syntax) (λ c. nullable_at t))
colon_explains fields before h room t s free =
    expect_then (before ++ t ∷ []) (codes ":") (λ c. nullable_at t)
    (λ c e. same_explains ((before ++ t ∷ []) ++ c ∷ []) (choose (codes "nullable") (typed_at t true) (typed_at t false)) (nullable_at t) (λ ts. by_nullable t (accept_at (codes "nullable") ts))
    (choose_explains ((before ++ t ∷ []) ++ c ∷ []) (codes "nullable") (typed_at t true) (typed_at t false)
    (λ n f. typed_explains fields (((before ++ t ∷ []) ++ c ∷ []) ++ n ∷ []) (nullable_front fields before h room t c n s free e f) t true)
    (typed_explains fields ((before ++ t ∷ []) ++ c ∷ []) (plain_front fields before h room t c s free e) t false)))

field_explains : (fields : List Field) (before : List Lexeme) → FieldFront fields before → length fields < 256 → Explains before (field_at fields)
unfolding field_at
field_explains fields before h room =
    step_then before (IsNamed fields) (name_at fields) (λ t. bind (expect_at (codes ":") causes.Syntax) (λ c. nullable_at t)) (no_token fields)
    (λ t. name_by fields before h t (is_sort sort.Word t.sort) (is_free fields t.bytes) refl refl)
    (λ t x q. subst (λ (y : Lexeme). Explains (before ++ t ∷ []) (bind (expect_at (codes ":") causes.Syntax) (λ c. nullable_at y))) (sym q.0) (colon_explains fields before h room t q.1 q.2))

-- ---- further fields

-- behind a semicolon
abbrev pub after_at : ℕ → List Field → Reader SchemaWhy (List Field)
after_at room fields = choose (codes ")") (gives fields) (fields_at room fields)

pub none_left : (room : ℕ) (fields : List Field) → more_at room fields [] ≡ Err refusal.AtEnd
unfolding separator_at semicolon_at expect_at accept_at
none_left room fields = refl

close_step : (room : ℕ) (fields : List Field) (t : Lexeme) (ts : List Lexeme) → bytes_eq t.bytes (codes ")") ≡ true → more_at room fields (t ∷ ts) ≡ Ok (fields, ts)
unfolding separator_at semicolon_at expect_at accept_at
close_step room fields t ts e = rw e refl

other_step : (room : ℕ) (fields : List Field) (t : Lexeme) (ts : List Lexeme) → bytes_eq t.bytes (codes ")") ≡ false → bytes_eq t.bytes (codes ";") ≡ false → more_at room fields (t ∷ ts) ≡ refuse t causes.Syntax
unfolding separator_at semicolon_at expect_at accept_at
other_step room fields t ts e f = rw (e, f) refl

by_close : (room : ℕ) (fields : List Field) (p : Bool × List Lexeme) → (if not p.0 then fields_at room fields p.1 else Ok (fields, p.1)) ≡ (if p.0 then gives fields p.1 else fields_at room fields p.1)
by_close room fields (true, ts) = refl
by_close room fields (false, ts) = refl

pub semicolon_step : (room : ℕ) (fields : List Field) (t : Lexeme) (ts : List Lexeme) → bytes_eq t.bytes (codes ")") ≡ false → bytes_eq t.bytes (codes ";") ≡ true → more_at room fields (t ∷ ts) ≡ after_at room fields ts
unfolding separator_at semicolon_at expect_at
semicolon_step room fields t ts e f = rw (lacks_other (codes ")") t ts e, f) (by_close room fields (accept_at (codes ")") ts))

abbrev Next : ℕ → List Field → List Lexeme → Type 0
Next room fields before = (t : Lexeme) → t.bytes ≡ codes ";" → Explains (before ++ t ∷ []) (fields_at room fields)

more_by : (room : ℕ) (fields : List Field) (before : List Lexeme) → Next room fields before → (t : Lexeme) (ts : List Lexeme) (a b : Bool) → bytes_eq t.bytes (codes ")") ≡ a → bytes_eq t.bytes (codes ";") ≡ b → Halting before (more_at room fields) (t ∷ ts) (more_at room fields (t ∷ ts))
more_by room fields before next t ts true b e f = rw (close_step room fields t ts e) tt
more_by room fields before next t ts false true e f =
    rw (semicolon_step room fields t ts e f) (passed_on before (after_at room fields) (more_at room fields) t ts (λ more. semicolon_step room fields t more e f) (after_at room fields ts)
    (choose_explains (before ++ t ∷ []) (codes ")") (gives fields) (fields_at room fields) (λ u g. gives_explains ((before ++ t ∷ []) ++ u ∷ []) fields) (next t (same_bytes t.bytes (codes ";") f)) ts))
more_by room fields before next t ts false false e f = rw (other_step room fields t ts e f) (halted before (more_at room fields) t ts causes.Syntax (λ more. other_step room fields t more e f) tt)

more_explains : (room : ℕ) (fields : List Field) (before : List Lexeme) → Next room fields before → Explains before (more_at room fields)
more_explains room fields before next [] = rw (none_left room fields) tt
more_explains room fields before next (t ∷ ts) = more_by room fields before next t ts (bytes_eq t.bytes (codes ")")) (bytes_eq t.bytes (codes ";")) refl refl

closed_push : (fields : List Field) (f : Field) (ts mid rest : List Lexeme) → closed_fields fields ts mid → (field_phrase f ~ word (codes ";")) mid rest → closed_fields (fields ++ f ∷ []) ts rest
closed_push [] f ts mid rest c h = subst (λ (us : List Lexeme). (field_phrase f ~ word (codes ";") ~ nothing) us rest) (sym c) (h.0, h.1, (rest, h.2, refl))
closed_push (g ∷ fields) f ts mid rest c h = (c.0, c.1, (c.2.0, c.2.1, closed_push fields f c.2.0 mid rest c.2.2 h))

push_front : (fields : List Field) (f : Field) (before front : List Lexeme) → Fronts (before_field fields) before → Fronts (field_phrase f) front → (t : Lexeme) → t.bytes ≡ codes ";" → Fronts (before_field (fields ++ f ∷ [])) ((before ++ front) ++ t ∷ [])
push_front fields f before front h g t e more =
    let same : ((before ++ front) ++ t ∷ []) ++ more ≡ before ++ (front ++ t ∷ more) = simp append_assoc in
    let all = h (front ++ t ∷ more) in
    subst (λ (xs : List Lexeme). before_field (fields ++ f ∷ []) xs more) (sym same)
    (all.0, all.1, (all.2.0, all.2.1, closed_push fields f all.2.0 (front ++ t ∷ more) more all.2.2 (t ∷ more, g (t ∷ more), (e, refl))))

-- where there is no room the name is still read
pub full_step : (fields : List Field) (t : Lexeme) (ts : List Lexeme) → is_sort sort.Word t.sort ≡ true → is_free fields t.bytes ≡ true → fields_at 0 fields (t ∷ ts) ≡ refuse t causes.Count
unfolding fields_at
full_step fields t ts e f = ap (λ o. o >>= λ w. refuse w.0 causes.Count) (name_taken fields t ts e f)

pub full_name : (fields : List Field) (t : Lexeme) (ts : List Lexeme) → is_sort sort.Word t.sort ≡ true → is_free fields t.bytes ≡ false → fields_at 0 fields (t ∷ ts) ≡ refuse t causes.Name
unfolding fields_at
full_name fields t ts e f = ap (λ o. o >>= λ w. refuse w.0 causes.Count) (no_name fields t ts e f)

full_word : (fields : List Field) (t : Lexeme) (ts : List Lexeme) → is_sort sort.Word t.sort ≡ false → fields_at 0 fields (t ∷ ts) ≡ refuse t causes.Syntax
unfolding fields_at
full_word fields t ts e = ap (λ o. o >>= λ w. refuse w.0 causes.Count) (no_word fields t ts e)

full_end : (fields : List Field) → fields_at 0 fields [] ≡ Err refusal.AtEnd
unfolding fields_at
full_end fields = ap (λ o. o >>= λ w. refuse w.0 causes.Count) (no_token fields)

full_by : (fields : List Field) (before : List Lexeme) → FieldFront fields before → length fields ≡ 256 → (t : Lexeme) (ts : List Lexeme) (a b : Bool) → is_sort sort.Word t.sort ≡ a → is_free fields t.bytes ≡ b → Halting before (fields_at 0 fields) (t ∷ ts) (fields_at 0 fields (t ∷ ts))
full_by fields before h n t ts true true e f =
    rw (full_step fields t ts e f) (halted before (fields_at 0 fields) t ts causes.Count (λ more. full_step fields t more e f)
    (fields, record { fit = h.fit; front = at_end (before_field fields) before h.front; word = same_sort sort.Word t.sort e }, free_so fields t.bytes f, n))
full_by fields before h n t ts true false e f =
    rw (full_name fields t ts e f) (halted before (fields_at 0 fields) t ts causes.Name (λ more. full_name fields t more e f) (name_reason fields before h t (same_sort sort.Word t.sort e) f))
full_by fields before h n t ts false b e f = rw (full_word fields t ts e) (halted before (fields_at 0 fields) t ts causes.Syntax (λ more. full_word fields t more e) tt)

pub next_step : (room : ℕ) (fields : List Field) (ts : List Lexeme) → fields_at (suc room) fields ts ≡ bind (field_at fields) (λ f. more_at room (fields ++ f ∷ [])) ts
unfolding fields_at
next_step room fields ts = refl

field_front : (room : ℕ) (fields : List Field) (before : List Lexeme) → length fields + room ≡ 256 → AreFitting fields → Fronts (before_field fields) before → FieldFront fields before
field_front room fields before e fit h = record { fit = record { few = omega arith; each = fit.0; distinct = fit.1 }; front = h }

fields_explains : (room : ℕ) (fields : List Field) (before : List Lexeme) → length fields + room ≡ 256 → AreFitting fields → Fronts (before_field fields) before → Explains before (fields_at room fields)
fields_explains zero fields before e fit h [] = rw (full_end fields) tt
fields_explains zero fields before e fit h (t ∷ ts) = full_by fields before (field_front zero fields before e fit h) (omega arith) t ts (is_sort sort.Word t.sort) (is_free fields t.bytes) refl refl
fields_explains (suc room) fields before e fit h ts =
    same_explains before (bind (field_at fields) (λ f. more_at room (fields ++ f ∷ []))) (fields_at (suc room) fields) (next_step room fields)
    (bind_explains (field_form fields) before (field_at fields) (λ f. more_at room (fields ++ f ∷ [])) (field_reads fields) (field_explains fields before (field_front (suc room) fields before e fit h) (omega arith))
    (λ f front g.
    more_explains room (fields ++ f ∷ []) (before ++ front)
    (λ t k. fields_explains room (fields ++ f ∷ []) ((before ++ front) ++ t ∷ []) (omega (arith, length-append fields (f ∷ []))) (push_field fields f fit (g []).0 (g []).1) (push_front fields f before front h (λ more. (g more).2) t k)))) ts

pub schema_explains : Explains [] schema_at
unfolding schema_at
schema_explains =
    expect_then [] (codes "record") (λ a. bind (expect_at (codes "(") causes.Syntax) (λ b. fields_at 256 []))
    (λ a e. expect_then (a ∷ []) (codes "(") (λ b. fields_at 256 [])
    (λ b f. fields_explains 256 [] (a ∷ b ∷ []) refl (tt, tt) (λ more. (b ∷ more, (e, refl), (more, (f, refl), refl)))))
