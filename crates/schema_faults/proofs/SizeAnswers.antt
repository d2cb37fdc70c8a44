-- A number where a size must stand is refused for its size, or else the reader wants more tokens.
use Rattle.std.proofs.Common.{◌≡◌, inl, inr, ℕ, List, [], ◌∷◌, Bool, true, false, Result, Ok, Err, refl, ap, ◌∙◌}
use Rattle.std.specs.Prelude.{codes}
use Rattle.std.specs.Str.{bytes_eq}
use Rattle.std.specs.Str.Parse.{digits_value}
use Rattle.ds_value.specs.declared.kind.Kind.{Kind}
use Rattle.ds_value.specs.declared.kind.Kind.TheVariants as kind
use Rattle.ds_lex.specs.declared.token.Sort.TheVariants as sort
use Rattle.ds_lex.specs.declared.refusal.Refusal.{Refusal}
use Rattle.ds_lex.specs.declared.refusal.Refusal.TheVariants as refusal
use Rattle.ds_lex.specs.Lexemes.{Lexeme}
use Rattle.ds_lex.specs.Reading.{refuse, is_sort, sort_at, expect_at, accept_at}
use Rattle.ds_lex.specs.Phrases.{word, nothing, ◌~◌, ◌<|>◌}
use Rattle.ds_lex.proofs.Readers.{Reader, bind, choose, gives, chosen, chosen_not, lacks, lacks_other, from_word, sort_same, same_bytes, bytes_same}
use Rattle.ds_schema.specs.declared.schema_text.fault.SchemaWhy.{SchemaWhy}
use Rattle.ds_schema.specs.declared.schema_text.fault.SchemaWhy.TheVariants as causes
use Rattle.ds_schema.specs.SchemaReading.{is_size, size_at, scale_at, decimal_at, length_at, text_at, plain_kind, kind_at}
use Rattle.schema_faults.specs.Places.{a_number, before_number}
use Rattle.schema_faults.proofs.TypeReasons.{closing, sized_text, scale_choice, fixed_choice, decimal_step, text_step}
use Rattle.schema_faults.proofs.Reached.{word_other}

abbrev pub SizeEnd : {Y : Type 0} → Result (Y × List Lexeme) (Refusal SchemaWhy) → Type 0
SizeEnd (Ok p) = ⊥
SizeEnd (Err refusal.AtEnd) = Unit {0}
SizeEnd (Err (refusal.At at why)) = why ≡ causes.Size

taken : (low high : ℕ) (t : Lexeme) (ts : List Lexeme) → is_sort sort.Number t.sort ≡ true → is_size low high t.bytes ≡ true → size_at low high (t ∷ ts) ≡ Ok (digits_value 10 t.bytes, ts)
unfolding size_at sort_at
taken low high t ts e f = rw (e, f) refl

too_wide : (low high : ℕ) (t : Lexeme) (ts : List Lexeme) → is_sort sort.Number t.sort ≡ true → is_size low high t.bytes ≡ false → size_at low high (t ∷ ts) ≡ refuse t causes.Size
unfolding size_at sort_at
too_wide low high t ts e f = rw (e, f) refl

size_by : {Y : Type 0} (low high : ℕ) (f : ℕ → Reader SchemaWhy Y) (t : Lexeme) (ts : List Lexeme) → ((n : ℕ) → SizeEnd (f n ts)) → is_sort sort.Number t.sort ≡ true → (b : Bool) → is_size low high t.bytes ≡ b → SizeEnd (bind (size_at low high) f (t ∷ ts))
size_by low high f t ts h e true g = rw (taken low high t ts e g) (h (digits_value 10 t.bytes))
size_by low high f t ts h e false g = rw (too_wide low high t ts e g) refl

size_ends : {Y : Type 0} (low high : ℕ) (f : ℕ → Reader SchemaWhy Y) (t : Lexeme) (ts : List Lexeme) → ((n : ℕ) → SizeEnd (f n ts)) → t.sort ≡ sort.Number → SizeEnd (bind (size_at low high) f (t ∷ ts))
size_ends low high f t ts h s = size_by low high f t ts h (ap (is_sort sort.Number) s ∙ sort_same sort.Number) (is_size low high t.bytes) refl

closing_ends : (k : Kind) → SizeEnd (closing k [])
unfolding expect_at
closing_ends k = tt

-- ---- decimals

abbrev scaled : ℕ → Reader SchemaWhy Kind
scaled p = bind (scale_at p) (λ s. closing (kind.Dec p s))

scale_short : (p : ℕ) → SizeEnd (scaled p [])
unfolding scale_at expect_at accept_at
scale_short p = tt

scale_ends : (p : ℕ) (c t : Lexeme) → c.bytes ≡ codes "," → t.sort ≡ sort.Number → SizeEnd (scaled p (c ∷ t ∷ []))
scale_ends p c t e s =
    let same : scaled p (c ∷ t ∷ []) ≡ bind (size_at 0 p) (λ n. closing (kind.Dec p n)) (t ∷ []) = scale_choice p (λ n. closing (kind.Dec p n)) (c ∷ t ∷ []) ∙ chosen (codes ",") (bind (size_at 0 p) (λ n. closing (kind.Dec p n))) (closing (kind.Dec p 0)) c (t ∷ []) e in
    rw same (size_ends 0 p (λ n. closing (kind.Dec p n)) t [] (λ n. closing_ends (kind.Dec p n)) s)

decimal_opened : (b : Lexeme) (ts : List Lexeme) → b.bytes ≡ codes "[" → decimal_at (b ∷ ts) ≡ bind (size_at 1 38) scaled ts
unfolding decimal_at expect_at
decimal_opened b ts e = rw (bytes_same b.bytes (codes "[") e) refl

decimal_plain : (b t : Lexeme) → b.bytes ≡ codes "[" → t.sort ≡ sort.Number → SizeEnd (decimal_at (b ∷ t ∷ []))
decimal_plain b t e s = rw (decimal_opened b (t ∷ []) e) (size_ends 1 38 scaled t [] scale_short s)

decimal_scaled : (b p c t : Lexeme) → b.bytes ≡ codes "[" → p.sort ≡ sort.Number → c.bytes ≡ codes "," → t.sort ≡ sort.Number → SizeEnd (decimal_at (b ∷ p ∷ c ∷ t ∷ []))
decimal_scaled b p c t e sp ec s = rw (decimal_opened b (p ∷ c ∷ t ∷ []) e) (size_ends 1 38 scaled p (c ∷ t ∷ []) (λ n. scale_ends n c t ec s) sp)

-- ---- texts

text_ends : (t : Lexeme) (fixed : Bool) → t.sort ≡ sort.Number → SizeEnd (sized_text fixed (t ∷ []))
text_ends t fixed s = size_ends 1 65536 (λ n. closing (kind.Text n fixed)) t [] (λ n. closing_ends (kind.Text n fixed)) s

abbrev maximal : Reader SchemaWhy Kind
maximal = bind (expect_at (codes "=") causes.Syntax) (λ q. sized_text false)

length_choice : (ts : List Lexeme) → length_at ts ≡ choose (codes "max") maximal (sized_text true) ts
unfolding length_at
length_choice ts = fixed_choice sized_text ts

maximal_short : SizeEnd (maximal [])
unfolding expect_at
maximal_short = tt

length_by : (t : Lexeme) → t.sort ≡ sort.Number → (b : Bool) → bytes_eq t.bytes (codes "max") ≡ b → SizeEnd (length_at (t ∷ []))
length_by t s true e = rw (length_choice (t ∷ []) ∙ chosen (codes "max") maximal (sized_text true) t [] (same_bytes t.bytes (codes "max") e)) maximal_short
length_by t s false e = rw (length_choice (t ∷ []) ∙ chosen_not (codes "max") maximal (sized_text true) (t ∷ []) (lacks_other (codes "max") t [] e)) (text_ends t true s)

equals_opened : (q : Lexeme) (ts : List Lexeme) → q.bytes ≡ codes "=" → maximal (q ∷ ts) ≡ sized_text false ts
unfolding expect_at
equals_opened q ts e = rw (bytes_same q.bytes (codes "=") e) refl

length_ends : (m q t : Lexeme) → m.bytes ≡ codes "max" → q.bytes ≡ codes "=" → t.sort ≡ sort.Number → SizeEnd (length_at (m ∷ q ∷ t ∷ []))
length_ends m q t em eq s = rw (length_choice (m ∷ q ∷ t ∷ []) ∙ (chosen (codes "max") maximal (sized_text true) m (q ∷ t ∷ []) em ∙ equals_opened q (t ∷ []) eq)) (text_ends t false s)

text_opened : (b : Lexeme) (ts : List Lexeme) → b.bytes ≡ codes "[" → text_at (b ∷ ts) ≡ length_at ts
unfolding text_at
text_opened b ts e = chosen (codes "[") length_at (gives (kind.Text 4096 false)) b ts e

-- ---- types

decimal_kind : (d : Lexeme) (ts : List Lexeme) → d.bytes ≡ codes "decimal" → kind_at (d ∷ ts) ≡ decimal_at ts
decimal_kind d ts e = decimal_step d ts (ap plain_kind e) (ap (λ b. bytes_eq b (codes "decimal")) e)

text_kind : (d : Lexeme) (ts : List Lexeme) → d.bytes ≡ codes "string" → kind_at (d ∷ ts) ≡ text_at ts
text_kind d ts e = text_step d ts (ap plain_kind e) (ap (λ b. bytes_eq b (codes "decimal")) e) (ap (λ b. bytes_eq b (codes "string")) e)

number_front : (ts rest : List Lexeme) → a_number ts rest → (p : Lexeme) × (p.sort ≡ sort.Number) × (ts ≡ p ∷ rest)
number_front [] rest h = absurd h
number_front (p ∷ ts) rest h = (p, h.0, ap (λ (us : List Lexeme). p ∷ us) h.2)

decimal_answer : (ts one two : List Lexeme) (t : Lexeme) → t.sort ≡ sort.Number → word (codes "decimal") ts one → word (codes "[") one two → (a_number ~ word (codes ",") <|> nothing) two (t ∷ []) → SizeEnd (kind_at ts)
decimal_answer ts one two t s h g n =
    let d = from_word (codes "decimal") ts one h in
    let b = from_word (codes "[") one two g in
    elim n [
      | inl a ↦
          (let p = number_front two a.0 a.1 in
          let c = from_word (codes ",") a.0 (t ∷ []) a.2 in
          let parts : ts ≡ d.0 ∷ b.0 ∷ p.0 ∷ c.0 ∷ t ∷ [] = d.1.1 ∙ ap (λ (us : List Lexeme). d.0 ∷ us) (b.1.1 ∙ ap (λ (us : List Lexeme). b.0 ∷ us) (p.2 ∙ ap (λ (us : List Lexeme). p.0 ∷ us) c.1.1)) in
          rw (parts, decimal_kind d.0 (b.0 ∷ p.0 ∷ c.0 ∷ t ∷ []) d.1.0) (decimal_scaled b.0 p.0 c.0 t b.1.0 p.1 c.1.0 s))
      | inr e ↦
          (let parts : ts ≡ d.0 ∷ b.0 ∷ t ∷ [] = d.1.1 ∙ ap (λ (us : List Lexeme). d.0 ∷ us) (b.1.1 ∙ ap (λ (us : List Lexeme). b.0 ∷ us) e) in
          rw (parts, decimal_kind d.0 (b.0 ∷ t ∷ []) d.1.0) (decimal_plain b.0 t b.1.0 s))
    ]

text_answer : (ts one two : List Lexeme) (t : Lexeme) → t.sort ≡ sort.Number → word (codes "string") ts one → word (codes "[") one two → (word (codes "max") ~ word (codes "=") <|> nothing) two (t ∷ []) → SizeEnd (kind_at ts)
text_answer ts one two t s h g n =
    let d = from_word (codes "string") ts one h in
    let b = from_word (codes "[") one two g in
    elim n [
      | inl a ↦
          (let m = from_word (codes "max") two a.0 a.1 in
          let q = from_word (codes "=") a.0 (t ∷ []) a.2 in
          let parts : ts ≡ d.0 ∷ b.0 ∷ m.0 ∷ q.0 ∷ t ∷ [] = d.1.1 ∙ ap (λ (us : List Lexeme). d.0 ∷ us) (b.1.1 ∙ ap (λ (us : List Lexeme). b.0 ∷ us) (m.1.1 ∙ ap (λ (us : List Lexeme). m.0 ∷ us) q.1.1)) in
          rw (parts, text_kind d.0 (b.0 ∷ m.0 ∷ q.0 ∷ t ∷ []) d.1.0, text_opened b.0 (m.0 ∷ q.0 ∷ t ∷ []) b.1.0) (length_ends m.0 q.0 t m.1.0 q.1.0 s))
      | inr e ↦
          (let parts : ts ≡ d.0 ∷ b.0 ∷ t ∷ [] = d.1.1 ∙ ap (λ (us : List Lexeme). d.0 ∷ us) (b.1.1 ∙ ap (λ (us : List Lexeme). b.0 ∷ us) e) in
          rw (parts, text_kind d.0 (b.0 ∷ t ∷ []) d.1.0, text_opened b.0 (t ∷ []) b.1.0) (length_by t s (bytes_eq t.bytes (codes "max")) refl))
    ]

pub number_answer : (ts : List Lexeme) (t : Lexeme) → t.sort ≡ sort.Number → before_number ts (t ∷ []) → SizeEnd (kind_at ts)
number_answer ts t s h =
    elim h [
      | inl a ↦ decimal_answer ts a.0 a.2.0 t s a.1 a.2.1 a.2.2
      | inr b ↦ text_answer ts b.0 b.2.0 t s b.1 b.2.1 b.2.2
    ]

pub number_other : (ts rest : List Lexeme) → before_number ts rest → lacks (codes "nullable") ts
number_other ts rest h =
    elim h [
      | inl a ↦ word_other (codes "nullable") (codes "decimal") refl ts a.0 a.1
      | inr b ↦ word_other (codes "nullable") (codes "string") refl ts b.0 b.1
    ]
