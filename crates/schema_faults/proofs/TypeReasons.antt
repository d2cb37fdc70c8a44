-- Types: each refusal of their reader has its reason.
use Rattle.std.proofs.Common.{◌≡◌, ◌<◌, inl, inr, ℕ, List, [], ◌∷◌, ◌++◌, Bool, true, false, Option, Some, None, Result, Ok, Err, refl, sym, ap, ◌∙◌, append_assoc, subst, length}
use Rattle.std.specs.Prelude.{codes, if◌then◌else◌}
use Rattle.std.specs.Str.{bytes_eq}
use Rattle.std.specs.Str.Parse.{digits_value}
use Rattle.std.proofs.lemmas.List.{append-nil}
use Rattle.ds_value.specs.declared.kind.Kind.{Kind}
use Rattle.ds_value.specs.declared.kind.Kind.TheVariants as kind
use Rattle.ds_lex.specs.declared.token.Sort.TheVariants as sort
use Rattle.ds_lex.specs.declared.refusal.Refusal.{Refusal}
use Rattle.ds_lex.specs.declared.refusal.Refusal.TheVariants as refusal
use Rattle.ds_lex.specs.Lexemes.{Lexeme}
use Rattle.ds_lex.specs.Reading.{◌>>=◌, refuse, is_sort, token_at, sort_at, expect_at, accept_at}
use Rattle.ds_lex.specs.Phrases.{Phrase}
use Rattle.ds_lex.proofs.Readers.{Reader, bind, choose, gives, same_sort, same_bytes}
use Rattle.ds_schema.specs.declared.schema.Field.{Field}
use Rattle.ds_schema.specs.declared.schema_text.fault.SchemaWhy.{SchemaWhy}
use Rattle.ds_schema.specs.declared.schema_text.fault.SchemaWhy.TheVariants as causes
use Rattle.ds_schema.specs.SchemaReading.{is_size, size_at, scale_at, decimal_at, equals_at, fixed_at, length_at, text_at, plain_kind, no_type, kind_behind, kind_at}
use Rattle.schema_faults.specs.Places.{AreFields, before_type, before_number}
use Rattle.schema_faults.proofs.Halting.{Reason, Explains, Halting, Step, Fronts, gives_explains, halted, passed_on, same_explains, step_then, expect_then, choose_explains}

-- behind these tokens the type of a field behind these must stand
pub record TypeFront (fields : List Field) (before : List Lexeme) : Type 0 where
  pub fit : AreFields fields
  pub room : length fields < 256
  pub front : Fronts (before_type fields) before

pub at_end : (P : Phrase) (before : List Lexeme) → Fronts P before → P before []
at_end P before h = subst (λ (xs : List Lexeme). P xs []) (append-nil before) (h [])

-- ---- sizes

size_reason : (fields : List Field) (front : List Lexeme) → TypeFront fields front → (before more : List Lexeme) → before ≡ front ++ more → before_number more [] → (t : Lexeme) → t.sort ≡ sort.Number → Reason before t causes.Size
size_reason fields front h before more e b t s =
    subst (λ (x : List Lexeme). Reason x t causes.Size) (sym e) (fields, record { fit = h.fit; room = h.room; front = (more, h.front more, b); number = s })

abbrev IsNumber : Lexeme → ℕ → Type 0
IsNumber t n = t.sort ≡ sort.Number

size_by : (before : List Lexeme) (low high : ℕ) → ((t : Lexeme) → t.sort ≡ sort.Number → Reason before t causes.Size) → (t : Lexeme) (a b : Bool) → is_sort sort.Number t.sort ≡ a → is_size low high t.bytes ≡ b → Step before IsNumber (size_at low high) t
unfolding size_at sort_at
size_by before low high reason t true true e f = inl (digits_value 10 t.bytes, same_sort sort.Number t.sort e, λ more. rw (e, f) refl)
size_by before low high reason t true false e f = inr (causes.Size, reason t (same_sort sort.Number t.sort e), λ more. rw (e, f) refl)
size_by before low high reason t false b e f = inr (causes.Syntax, tt, λ more. rw e refl)

pub size_none : (low high : ℕ) → size_at low high [] ≡ Err refusal.AtEnd
unfolding size_at sort_at
size_none low high = refl

size_then : {Y : Type 0} (before : List Lexeme) (low high : ℕ) (f : ℕ → Reader SchemaWhy Y) → ((t : Lexeme) → t.sort ≡ sort.Number → Reason before t causes.Size) → ((t : Lexeme) (n : ℕ) → t.sort ≡ sort.Number → Explains (before ++ t ∷ []) (f n)) → Explains before (bind (size_at low high) f)
size_then before low high f reason next =
    step_then before IsNumber (size_at low high) f (size_none low high) (λ t. size_by before low high reason t (is_sort sort.Number t.sort) (is_size low high t.bytes) refl refl) next

abbrev pub closing : Kind → Reader SchemaWhy Kind
closing k = bind (expect_at (codes "]") causes.Syntax) (λ c. gives k)

closing_explains : (before : List Lexeme) (k : Kind) → Explains before (closing k)
closing_explains before k = expect_then before (codes "]") (λ c. gives k) (λ t e. gives_explains (before ++ t ∷ []) k)

two : (front : List Lexeme) (a b : Lexeme) → (front ++ a ∷ []) ++ b ∷ [] ≡ front ++ a ∷ b ∷ []
two front a b = simp append_assoc

four : (front : List Lexeme) (a b c d : Lexeme) → (((front ++ a ∷ []) ++ b ∷ []) ++ c ∷ []) ++ d ∷ [] ≡ front ++ a ∷ b ∷ c ∷ d ∷ []
four front a b c d = simp append_assoc

-- ---- decimals

scale_pair : {Y : Type 0} (p : ℕ) (f : ℕ → Reader SchemaWhy Y) (a : Bool × List Lexeme) → ((if a.0 then size_at 0 p a.1 else Ok (0, a.1)) >>= λ s. f s.0 s.1) ≡ (if a.0 then (size_at 0 p a.1 >>= λ s. f s.0 s.1) else f 0 a.1)
scale_pair p f (true, ts) = refl
scale_pair p f (false, ts) = refl

pub scale_choice : {Y : Type 0} (p : ℕ) (f : ℕ → Reader SchemaWhy Y) (ts : List Lexeme) → bind (scale_at p) f ts ≡ choose (codes ",") (bind (size_at 0 p) f) (f 0) ts
unfolding scale_at
scale_choice p f ts = scale_pair p f (accept_at (codes ",") ts)

scale_explains : (before : List Lexeme) (p : ℕ) → ((c : Lexeme) → c.bytes ≡ codes "," → (t : Lexeme) → t.sort ≡ sort.Number → Reason (before ++ c ∷ []) t causes.Size) → Explains before (bind (scale_at p) (λ s. closing (kind.Dec p s)))
scale_explains before p reason =
    same_explains before (choose (codes ",") (bind (size_at 0 p) (λ s. closing (kind.Dec p s))) (closing (kind.Dec p 0))) (bind (scale_at p) (λ s. closing (kind.Dec p s))) (scale_choice p (λ s. closing (kind.Dec p s)))
    (choose_explains before (codes ",") (bind (size_at 0 p) (λ s. closing (kind.Dec p s))) (closing (kind.Dec p 0))
    (λ c e. size_then (before ++ c ∷ []) 0 p (λ s. closing (kind.Dec p s)) (reason c e) (λ t n s. closing_explains ((before ++ c ∷ []) ++ t ∷ []) (kind.Dec p n)))
    (closing_explains before (kind.Dec p 0)))

decimal_explains : (fields : List Field) (front : List Lexeme) → TypeFront fields front → (w : Lexeme) → w.bytes ≡ codes "decimal" → Explains (front ++ w ∷ []) decimal_at
unfolding decimal_at
decimal_explains fields front h w e =
    expect_then (front ++ w ∷ []) (codes "[") (λ b. bind (size_at 1 38) (λ p. bind (scale_at p) (λ s. closing (kind.Dec p s))))
    (λ b eb. size_then ((front ++ w ∷ []) ++ b ∷ []) 1 38 (λ p. bind (scale_at p) (λ s. closing (kind.Dec p s)))
    (size_reason fields front h ((front ++ w ∷ []) ++ b ∷ []) (w ∷ b ∷ []) (two front w b) (inl (b ∷ [], (e, refl), ([], (eb, refl), inr refl))))
    (λ p n sp. scale_explains (((front ++ w ∷ []) ++ b ∷ []) ++ p ∷ []) n
    (λ c ec. size_reason fields front h ((((front ++ w ∷ []) ++ b ∷ []) ++ p ∷ []) ++ c ∷ []) (w ∷ b ∷ p ∷ c ∷ []) (four front w b p c) (inl (b ∷ p ∷ c ∷ [], (e, refl), (p ∷ c ∷ [], (eb, refl), inl (c ∷ [], (sp, tt, refl), (ec, refl))))))))

-- ---- texts

abbrev said_false : Lexeme × List Lexeme → Result (Bool × List Lexeme) (Refusal SchemaWhy)
said_false e = Ok (false, e.1)

equals_then : {Y : Type 0} (f : Bool → Reader SchemaWhy Y) (o : Result (Lexeme × List Lexeme) (Refusal SchemaWhy)) → ((o >>= said_false) >>= λ p. f p.0 p.1) ≡ (o >>= λ e. f false e.1)
equals_then f (Ok x) = refl
equals_then f (Err e) = refl

fixed_pair : {Y : Type 0} (f : Bool → Reader SchemaWhy Y) (a : Bool × List Lexeme) → ((if a.0 then equals_at a.1 else Ok (true, a.1)) >>= λ p. f p.0 p.1) ≡ (if a.0 then (expect_at (codes "=") causes.Syntax a.1 >>= λ e. f false e.1) else f true a.1)
unfolding equals_at
fixed_pair f (true, ts) = equals_then f (expect_at (codes "=") causes.Syntax ts)
fixed_pair f (false, ts) = refl

pub fixed_choice : {Y : Type 0} (f : Bool → Reader SchemaWhy Y) (ts : List Lexeme) → bind fixed_at f ts ≡ choose (codes "max") (bind (expect_at (codes "=") causes.Syntax) (λ e. f false)) (f true) ts
unfolding fixed_at
fixed_choice f ts = fixed_pair f (accept_at (codes "max") ts)

abbrev pub sized_text : Bool → Reader SchemaWhy Kind
sized_text fixed = bind (size_at 1 65536) (λ n. closing (kind.Text n fixed))

sized_text_explains : (before : List Lexeme) (fixed : Bool) → ((t : Lexeme) → t.sort ≡ sort.Number → Reason before t causes.Size) → Explains before (sized_text fixed)
sized_text_explains before fixed reason = size_then before 1 65536 (λ n. closing (kind.Text n fixed)) reason (λ t n s. closing_explains (before ++ t ∷ []) (kind.Text n fixed))

length_explains : (fields : List Field) (front : List Lexeme) → TypeFront fields front → (w b : Lexeme) → w.bytes ≡ codes "string" → b.bytes ≡ codes "[" → Explains ((front ++ w ∷ []) ++ b ∷ []) length_at
unfolding length_at
length_explains fields front h w b e eb =
    let before : List Lexeme = (front ++ w ∷ []) ++ b ∷ [] in
    same_explains before (choose (codes "max") (bind (expect_at (codes "=") causes.Syntax) (λ q. sized_text false)) (sized_text true)) (bind fixed_at sized_text) (fixed_choice sized_text)
    (choose_explains before (codes "max") (bind (expect_at (codes "=") causes.Syntax) (λ q. sized_text false)) (sized_text true)
    (λ m em. expect_then (before ++ m ∷ []) (codes "=") (λ q. sized_text false)
    (λ q eq. sized_text_explains ((before ++ m ∷ []) ++ q ∷ []) false
    (size_reason fields front h ((before ++ m ∷ []) ++ q ∷ []) (w ∷ b ∷ m ∷ q ∷ []) (four front w b m q) (inr (b ∷ m ∷ q ∷ [], (e, refl), (m ∷ q ∷ [], (eb, refl), inl (q ∷ [], (em, refl), (eq, refl))))))))
    (sized_text_explains before true (size_reason fields front h before (w ∷ b ∷ []) (two front w b) (inr (b ∷ [], (e, refl), ([], (eb, refl), inr refl))))))

text_explains : (fields : List Field) (front : List Lexeme) → TypeFront fields front → (w : Lexeme) → w.bytes ≡ codes "string" → Explains (front ++ w ∷ []) text_at
unfolding text_at
text_explains fields front h w e =
    choose_explains (front ++ w ∷ []) (codes "[") length_at (gives (kind.Text 4096 false)) (λ b eb. length_explains fields front h w b e eb) (gives_explains (front ++ w ∷ []) (kind.Text 4096 false))

-- ---- types

pub plain_step : (t : Lexeme) (ts : List Lexeme) (k : Kind) → plain_kind t.bytes ≡ Some k → kind_at (t ∷ ts) ≡ Ok (k, ts)
unfolding kind_at kind_behind token_at
plain_step t ts k e = ap (λ o. kind_behind o t ts) e

pub decimal_step : (t : Lexeme) (ts : List Lexeme) → plain_kind t.bytes ≡ None → bytes_eq t.bytes (codes "decimal") ≡ true → kind_at (t ∷ ts) ≡ decimal_at ts
unfolding kind_at kind_behind token_at
decimal_step t ts e f = ap (λ o. kind_behind o t ts) e ∙ rw f refl

pub text_step : (t : Lexeme) (ts : List Lexeme) → plain_kind t.bytes ≡ None → bytes_eq t.bytes (codes "decimal") ≡ false → bytes_eq t.bytes (codes "string") ≡ true → kind_at (t ∷ ts) ≡ text_at ts
unfolding kind_at kind_behind token_at
text_step t ts e f g = ap (λ o. kind_behind o t ts) e ∙ rw (f, g) refl

pub no_step : (t : Lexeme) (ts : List Lexeme) (why : SchemaWhy) → plain_kind t.bytes ≡ None → bytes_eq t.bytes (codes "decimal") ≡ false → bytes_eq t.bytes (codes "string") ≡ false → no_type t ≡ why → kind_at (t ∷ ts) ≡ refuse t why
unfolding kind_at kind_behind token_at
no_step t ts why e f g w = ap (λ o. kind_behind o t ts) e ∙ (rw (f, g) refl ∙ ap (λ x. refuse {A = Kind × List Lexeme} t x) w)

pub no_kind : kind_at [] ≡ Err refusal.AtEnd
unfolding kind_at token_at
no_kind = refl

pub word_why : (t : Lexeme) (b : Bool) → is_sort sort.Word t.sort ≡ b → no_type t ≡ (if b then causes.NoType else causes.Syntax)
word_why t b e = rw e refl

kind_by : (fields : List Field) (front : List Lexeme) → TypeFront fields front → (t : Lexeme) (ts : List Lexeme) (o : Option Kind) (a b w : Bool) → plain_kind t.bytes ≡ o → bytes_eq t.bytes (codes "decimal") ≡ a → bytes_eq t.bytes (codes "string") ≡ b → is_sort sort.Word t.sort ≡ w → Halting front kind_at (t ∷ ts) (kind_at (t ∷ ts))
kind_by fields front h t ts (Some k) a b w e f g s = rw (plain_step t ts k e) tt
kind_by fields front h t ts None true b w e f g s = rw (decimal_step t ts e f) (passed_on front decimal_at kind_at t ts (λ more. decimal_step t more e f) (decimal_at ts) (decimal_explains fields front h t (same_bytes t.bytes (codes "decimal") f) ts))
kind_by fields front h t ts None false true w e f g s = rw (text_step t ts e f g) (passed_on front text_at kind_at t ts (λ more. text_step t more e f g) (text_at ts) (text_explains fields front h t (same_bytes t.bytes (codes "string") g) ts))
kind_by fields front h t ts None false false true e f g s =
    rw (no_step t ts causes.NoType e f g (word_why t true s))
    (halted front kind_at t ts causes.NoType (λ more. no_step t more causes.NoType e f g (word_why t true s))
    (fields, record { fit = h.fit; room = h.room; front = at_end (before_type fields) front h.front; word = same_sort sort.Word t.sort s }))
kind_by fields front h t ts None false false false e f g s =
    rw (no_step t ts causes.Syntax e f g (word_why t false s)) (halted front kind_at t ts causes.Syntax (λ more. no_step t more causes.Syntax e f g (word_why t false s)) tt)

pub kind_explains : (fields : List Field) (front : List Lexeme) → TypeFront fields front → Explains front kind_at
kind_explains fields front h [] = rw no_kind tt
kind_explains fields front h (t ∷ ts) = kind_by fields front h t ts (plain_kind t.bytes) (bytes_eq t.bytes (codes "decimal")) (bytes_eq t.bytes (codes "string")) (is_sort sort.Word t.sort) refl refl refl refl
