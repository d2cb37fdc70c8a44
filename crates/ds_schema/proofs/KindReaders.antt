-- Types: what is read is one, what is one is read, and where reading stops none goes on.
use Rattle.std.proofs.Common.{◌≡◌, ◌<◌, ◌≤◌, ◌^◌, inl, inr, ℕ, List, [], ◌∷◌, Bool, true, false, Ok, Err, Option, Some, None, refl, sym, ap, ◌∙◌, arith, subst, lit<, lit≤}
use Rattle.std.specs.Prelude.{codes, if◌then◌else◌}
use Rattle.std.specs.Str.{bytes_eq}
use Rattle.std.specs.List.{AllByRecursion}
use Rattle.std.specs.Fmt.{digits}
use Rattle.std.specs.Str.Parse.{IsNumeral}
use Rattle.std.proofs.lemmas.Bool.{ne_eqb}
use Rattle.std.proofs.lemmas.Str.Parse.{digit_from_value}
use Rattle.ds_value.specs.declared.kind.Kind.{Kind}
use Rattle.ds_value.specs.declared.kind.Kind.TheVariants as kind
use Rattle.ds_value.specs.Kinds.{IsKind, IsBits}
use Rattle.ds_lex.specs.declared.token.Sort.TheVariants as sort
use Rattle.ds_lex.specs.declared.refusal.Refusal.TheVariants as refusal
use Rattle.ds_lex.specs.Lexemes.{Lexeme}
use Rattle.ds_lex.specs.Reading.{refuse, token_at}
use Rattle.ds_lex.specs.Phrases.{Phrase, word, nothing_where, ◌~◌, ◌<|>◌}
use Rattle.ds_lex.proofs.Readers.{IsReader, IsRead, Outcome, CanStand, chain, either, given, said, to_word, from_word, anything, took, refused, ended, behind, same_bytes, Sound, then_sound, and_then, gives_sound, expect_sound, choose_sound, map_sound, narrow_sound, lacks, lacks_other}
use Rattle.ds_schema.specs.declared.schema_text.fault.SchemaWhy.TheVariants.{Syntax}
use Rattle.ds_schema.specs.SchemaText.{kind_text}
use Rattle.ds_schema.specs.SchemaReading.{size_at, scale_at, decimal_at, equals_at, fixed_at, length_at, text_at, plain_kinds, kind_among, plain_kind, no_type, kind_behind, kind_at}
use Rattle.ds_schema.specs.SchemaGrammar.{number, kind_phrase}
use Rattle.ds_schema.proofs.SizeReaders.{sized, size_reads, size_stands, size_read}

-- a token of other bytes isn't this word
other_said : (bytes other : List ℕ) → bytes_eq other bytes ≡ false → (t : Lexeme) (ts rest : List Lexeme) → said other t ts rest → lacks bytes ts
other_said bytes other e t ts rest h = rw h.1 (lacks_other bytes t rest (ap (λ b. bytes_eq b bytes) h.0 ∙ e))

size_sound : (low high : ℕ) → low ≤ high → low < 2 ^ 64 → Sound (sized low high) (size_at low high) anything
size_sound low high h k = record { reads = size_reads low high; stands = size_stands low high h k; read = size_read low high }

-- ---- decimals

abbrev scaled : ℕ → ℕ → Phrase
scaled p = either (codes ",") (sized 0 p) (given 0)

scale_sound : (p : ℕ) → Sound (scaled p) (scale_at p) (lacks (codes ","))
unfolding scale_at
scale_sound p = choose_sound (codes ",") (narrow_sound (λ ts h. tt) (size_sound 0 p (omega arith) (lit< tt))) (narrow_sound (λ ts h. tt) (gives_sound 0)) (λ x ts rest h f. rw h.1 f)

abbrev decimal_chain : Kind → Phrase
decimal_chain = chain (said (codes "[")) (λ b. chain (sized 1 38) (λ p. chain (scaled p) (λ s. chain (said (codes "]")) (λ c. given (kind.Dec p s)))))

decimal_chained : Sound decimal_chain decimal_at anything
unfolding decimal_at
decimal_chained =
    and_then (expect_sound (codes "[") Syntax) (λ b. and_then (size_sound 1 38 (lit≤ tt) (lit< tt)) (λ p. then_sound (scale_sound p) (λ s. and_then (expect_sound (codes "]") Syntax) (λ c. gives_sound (kind.Dec p s)))
    (λ s k ts rest h g. other_said (codes ",") (codes "]") refl h.0 ts h.1 h.2)))

-- a decimal behind its word
abbrev pub decimal_form : Kind → Phrase
decimal_form (kind.Dec p s) ts rest = ((1 ≤ p) × ((p ≤ 38) × (s ≤ p))) × (word (codes "[") ~ number p ~ (word (codes ",") ~ number s <|> nothing_where (s ≡ 0)) ~ word (codes "]")) ts rest
decimal_form other ts rest = ⊥

scale_form : (p s : ℕ) (ts rest : List Lexeme) → scaled p s ts rest → (s ≤ p) × (word (codes ",") ~ number s <|> nothing_where (s ≡ 0)) ts rest
scale_form p s ts rest h =
    elim h [
      | inl a ↦ (a.2.1, inl (a.0, a.1, a.2.2))
      | inr b ↦ (rw b.0 (omega arith), inr b)
    ]

form_scale : (p s : ℕ) (ts rest : List Lexeme) → s ≤ p → (word (codes ",") ~ number s <|> nothing_where (s ≡ 0)) ts rest → scaled p s ts rest
form_scale p s ts rest le h =
    elim h [
      | inl a ↦ inl (a.0, a.1, (omega arith, le, a.2))
      | inr b ↦ inr b
    ]

-- this word, and nothing behind it
last_word : {X : Type 0} (bytes : List ℕ) (x y : X) (ts rest : List Lexeme) → chain (said bytes) (λ c. given x) y ts rest → word bytes ts rest
last_word bytes x y ts rest h = subst (λ (us : List Lexeme). word bytes ts us) h.3.1 (to_word bytes h.0 ts h.1 h.2)

word_last : {X : Type 0} (bytes : List ℕ) (x : X) (ts rest : List Lexeme) → word bytes ts rest → chain (said bytes) (λ c. given x) x ts rest
word_last bytes x ts rest h = let w = from_word bytes ts rest h in (w.0, rest, w.1, (refl, refl))

to_decimal : (k : Kind) (ts rest : List Lexeme) → decimal_chain k ts rest → decimal_form k ts rest
to_decimal k ts rest h =
    let p = h.3.0 in
    let s = h.3.3.0 in
    let scale = scale_form p s h.3.1 h.3.3.1 h.3.3.2 in
    subst (λ (x : Kind). decimal_form x ts rest) (sym h.3.3.3.3.0)
    ((h.3.2.0, (h.3.2.1, scale.0)), (h.1, to_word (codes "[") h.0 ts h.1 h.2, (h.3.1, h.3.2.2, (h.3.3.1, scale.1, last_word (codes "]") (kind.Dec p s) k h.3.3.1 rest h.3.3.3))))

from_decimal : (k : Kind) (ts rest : List Lexeme) → decimal_form k ts rest → decimal_chain k ts rest
from_decimal (kind.Int bits) ts rest h = absurd h
from_decimal (kind.UInt bits) ts rest h = absurd h
from_decimal (kind.Text n fixed) ts rest h = absurd h
from_decimal kind.Date ts rest h = absurd h
from_decimal (kind.Dec p s) ts rest h =
    let b = from_word (codes "[") ts h.1.0 h.1.1 in
    let form = h.1.2.2 in
    (b.0, h.1.0, b.1, (p, h.1.2.0, (h.0.0, h.0.1.0, h.1.2.1), (s, form.0, form_scale p s h.1.2.0 form.0 h.0.1.1 form.1, word_last (codes "]") (kind.Dec p s) form.0 rest form.2)))

decimal_sound : Sound decimal_form decimal_at anything
decimal_sound = map_sound to_decimal from_decimal decimal_chained

-- ---- texts

abbrev fixed_chain : Bool → Phrase
fixed_chain = either (codes "max") (chain (said (codes "=")) (λ e. given false)) (given true)

equals_sound : Sound (chain (said (codes "=")) (λ e. given false)) equals_at anything
unfolding equals_at
equals_sound = and_then (expect_sound (codes "=") Syntax) (λ e. gives_sound false)

fixed_sound : Sound fixed_chain fixed_at (lacks (codes "max"))
unfolding fixed_at
fixed_sound = choose_sound (codes "max") (narrow_sound (λ ts h. tt) equals_sound) (narrow_sound (λ ts h. tt) (gives_sound true)) (λ x ts rest h f. rw h.1 f)

numeral_other : (bytes : List ℕ) → IsNumeral 10 bytes → bytes_eq bytes (codes "max") ≡ false
numeral_other [] h = refl
numeral_other (c ∷ bytes) h = let range = digit_from_value c h.1.0 in let ne : (c ≡ 109 → ⊥) = (λ e. omega (arith, range.1, e)) in rw (ne_eqb c 109 ne) refl

number_other : (low high n : ℕ) (ts rest : List Lexeme) → sized low high n ts rest → lacks (codes "max") ts
number_other low high n [] rest h = absurd h.2
number_other low high n (t ∷ ts) rest h = lacks_other (codes "max") t ts (numeral_other t.bytes h.2.1.0)

abbrev length_chain : Kind → Phrase
length_chain = chain fixed_chain (λ f. chain (sized 1 65536) (λ n. chain (said (codes "]")) (λ c. given (kind.Text n f))))

length_chained : Sound length_chain length_at anything
unfolding length_at
length_chained =
    then_sound fixed_sound (λ f. and_then (size_sound 1 65536 (lit≤ tt) (lit< tt)) (λ n. and_then (expect_sound (codes "]") Syntax) (λ c. gives_sound (kind.Text n f))))
    (λ f k ts rest h g. number_other 1 65536 h.0 ts h.1 h.2)

-- a text's length behind its bracket
abbrev length_form : Kind → Phrase
length_form (kind.Text n true) ts rest = ((1 ≤ n) × (n ≤ 65536)) × (number n ~ word (codes "]")) ts rest
length_form (kind.Text n false) ts rest = ((1 ≤ n) × (n ≤ 65536)) × (word (codes "max") ~ word (codes "=") ~ number n ~ word (codes "]")) ts rest
length_form other ts rest = ⊥

to_length_by : (f : Bool) (n : ℕ) (ts mid after rest : List Lexeme) → fixed_chain f ts mid → sized 1 65536 n mid after → word (codes "]") after rest → length_form (kind.Text n f) ts rest
to_length_by true n ts mid after rest f s w =
    elim f [
      | inl a ↦ (let e : true ≡ false = a.2.3.0 in absurd cc)
      | inr b ↦ ((s.0, s.1), (after, subst (λ (us : List Lexeme). number n us after) (sym b.1) s.2, w))
    ]
to_length_by false n ts mid after rest f s w =
    elim f [
      | inl a ↦ ((s.0, s.1), (a.0, a.1, (mid, last_word (codes "=") false false a.0 mid a.2, (after, s.2, w))))
      | inr b ↦ (let e : false ≡ true = b.0 in absurd cc)
    ]

to_length : (k : Kind) (ts rest : List Lexeme) → length_chain k ts rest → length_form k ts rest
to_length k ts rest h =
    let n = h.3.0 in
    subst (λ (x : Kind). length_form x ts rest) (sym h.3.3.3.0)
    (to_length_by h.0 n ts h.1 h.3.1 rest h.2 h.3.2 (last_word (codes "]") (kind.Text n h.0) k h.3.1 rest h.3.3))

from_length : (k : Kind) (ts rest : List Lexeme) → length_form k ts rest → length_chain k ts rest
from_length (kind.Int bits) ts rest h = absurd h
from_length (kind.UInt bits) ts rest h = absurd h
from_length (kind.Dec p s) ts rest h = absurd h
from_length kind.Date ts rest h = absurd h
from_length (kind.Text n true) ts rest h = (true, ts, inr (refl, refl), (n, h.1.0, (h.0.0, h.0.1, h.1.1), word_last (codes "]") (kind.Text n true) h.1.0 rest h.1.2))
from_length (kind.Text n false) ts rest h =
    let number = h.1.2.2 in
    (false, h.1.2.0, inl (h.1.0, h.1.1, word_last (codes "=") false h.1.0 h.1.2.0 h.1.2.1), (n, number.0, (h.0.0, h.0.1, number.1), word_last (codes "]") (kind.Text n false) number.0 rest number.2))

length_sound : Sound length_form length_at anything
length_sound = map_sound to_length from_length length_chained

text_chain : Kind → Phrase
text_chain = either (codes "[") length_form (given (kind.Text 4096 false))

text_chained : Sound text_chain text_at (lacks (codes "["))
unfolding text_at text_chain
text_chained = choose_sound (codes "[") (narrow_sound (λ ts h. tt) length_sound) (narrow_sound (λ ts h. tt) (gives_sound (kind.Text 4096 false))) (λ x ts rest h f. rw h.1 f)

-- a text behind its word
abbrev text_form : Kind → Phrase
text_form (kind.Text n true) ts rest = ((1 ≤ n) × (n ≤ 65536)) × (word (codes "[") ~ number n ~ word (codes "]")) ts rest
text_form (kind.Text n false) ts rest = ((1 ≤ n) × (n ≤ 65536)) × (word (codes "[") ~ word (codes "max") ~ word (codes "=") ~ number n ~ word (codes "]") <|> nothing_where (n ≡ 4096)) ts rest
text_form other ts rest = ⊥

to_text_by : (k : Kind) (ts mid rest : List Lexeme) → word (codes "[") ts mid → length_form k mid rest → text_form k ts rest
to_text_by (kind.Int bits) ts mid rest w h = absurd h
to_text_by (kind.UInt bits) ts mid rest w h = absurd h
to_text_by (kind.Dec p s) ts mid rest w h = absurd h
to_text_by kind.Date ts mid rest w h = absurd h
to_text_by (kind.Text n true) ts mid rest w h = (h.0, (mid, w, h.1))
to_text_by (kind.Text n false) ts mid rest w h = (h.0, inl (mid, w, h.1))

to_text : (k : Kind) (ts rest : List Lexeme) → text_chain k ts rest → text_form k ts rest
unfolding text_chain
to_text k ts rest h =
    elim h [
      | inl a ↦ to_text_by k ts a.0 rest a.1 a.2
      | inr b ↦ subst (λ (x : Kind). text_form x ts rest) (sym b.0) ((lit≤ tt, lit≤ tt), inr (refl, b.1))
    ]

from_text : (k : Kind) (ts rest : List Lexeme) → text_form k ts rest → text_chain k ts rest
unfolding text_chain
from_text (kind.Int bits) ts rest h = absurd h
from_text (kind.UInt bits) ts rest h = absurd h
from_text (kind.Dec p s) ts rest h = absurd h
from_text kind.Date ts rest h = absurd h
from_text (kind.Text n true) ts rest h = inl (h.1.0, h.1.1, (h.0, h.1.2))
from_text (kind.Text n false) ts rest h =
    elim h.1 [
      | inl a ↦ inl (a.0, a.1, (h.0, a.2))
      | inr b ↦ inr (ap (λ m. kind.Text m false) b.0, b.1)
    ]

text_sound : Sound text_form text_at (lacks (codes "["))
text_sound = map_sound to_text from_text text_chained

-- ---- types

-- a type, whose numbers are in range
abbrev pub kind_form : Kind → Phrase
kind_form k ts rest = IsKind k × kind_phrase k ts rest

abbrev IsPlain : List ℕ → Kind → Type 0
IsPlain bytes k = (t : Lexeme) (ts : List Lexeme) → t.bytes ≡ bytes → kind_form k (t ∷ ts) ts

found_by : (word bytes : List ℕ) (k : Kind) (b : Bool) (others : Option Kind) → bytes_eq word bytes ≡ b → IsPlain bytes k → ((j : Kind) → others ≡ Some j → IsPlain word j) → (j : Kind) → (if b then Some k else others) ≡ Some j → IsPlain word j
found_by word bytes k true others e plain more j h =
    let same : k ≡ j = cc in
    subst (λ x. IsPlain word x) same (λ t ts f. plain t ts (f ∙ same_bytes word bytes e))
found_by word bytes k false others e plain more j h = more j h

none_found : (word : List ℕ) (j : Kind) → None ≡ Some j → IsPlain word j
none_found word j h = absurd cc

found : (entries : List (List ℕ × Kind)) → AllByRecursion (λ (e : List ℕ × Kind). IsPlain e.0 e.1) entries → (word : List ℕ) (k : Kind) → kind_among entries word ≡ Some k → IsPlain word k
found [] all word k h = none_found word k h
found (e ∷ entries) all word k h = found_by word e.0 e.1 (bytes_eq word e.0) (kind_among entries word) refl all.0 (λ j. found entries all.1 word j) k h

plain_all : AllByRecursion (λ (e : List ℕ × Kind). IsPlain e.0 e.1) plain_kinds
unfolding digits
plain_all = (
  (λ t ts e. (inl refl, (e, refl))),
  (
    (λ t ts e. (inr (inl refl), (e, refl))),
    (
      (λ t ts e. (inr (inr (inl refl)), (e, refl))),
      (
        (λ t ts e. (inr (inr (inr refl)), (e, refl))),
        (
          (λ t ts e. (inl refl, (e, refl))),
          (
            (λ t ts e. (inr (inl refl), (e, refl))),
            (
              (λ t ts e. (inr (inr (inl refl)), (e, refl))),
              (
                (λ t ts e. (inr (inr (inr refl)), (e, refl))),
                ((λ t ts e. (tt, (e, refl))), tt),
              ),
            ),
          ),
        ),
      ),
    ),
  ),
)

-- what the reader does with a first token
plain_step : (t : Lexeme) (ts : List Lexeme) (k : Kind) → plain_kind t.bytes ≡ Some k → kind_at (t ∷ ts) ≡ Ok (k, ts)
unfolding kind_at kind_behind token_at
plain_step t ts k e = ap (λ o. kind_behind o t ts) e

decimal_step : (t : Lexeme) (ts : List Lexeme) → plain_kind t.bytes ≡ None → bytes_eq t.bytes (codes "decimal") ≡ true → kind_at (t ∷ ts) ≡ decimal_at ts
unfolding kind_at kind_behind token_at
decimal_step t ts e f = ap (λ o. kind_behind o t ts) e ∙ rw f refl

text_step : (t : Lexeme) (ts : List Lexeme) → plain_kind t.bytes ≡ None → bytes_eq t.bytes (codes "decimal") ≡ false → bytes_eq t.bytes (codes "string") ≡ true → kind_at (t ∷ ts) ≡ text_at ts
unfolding kind_at kind_behind token_at
text_step t ts e f g = ap (λ o. kind_behind o t ts) e ∙ rw (f, g) refl

no_step : (t : Lexeme) (ts : List Lexeme) → plain_kind t.bytes ≡ None → bytes_eq t.bytes (codes "decimal") ≡ false → bytes_eq t.bytes (codes "string") ≡ false → kind_at (t ∷ ts) ≡ refuse t (no_type t)
unfolding kind_at kind_behind token_at
no_step t ts e f g = ap (λ o. kind_behind o t ts) e ∙ rw (f, g) refl

no_token : kind_at [] ≡ Err refusal.AtEnd
unfolding kind_at token_at
no_token = refl

decimal_kind : (t : Lexeme) → t.bytes ≡ codes "decimal" → (k : Kind) (ts rest : List Lexeme) → decimal_form k ts rest → kind_form k (t ∷ ts) rest
decimal_kind t e (kind.Int bits) ts rest h = absurd h
decimal_kind t e (kind.UInt bits) ts rest h = absurd h
decimal_kind t e (kind.Text n fixed) ts rest h = absurd h
decimal_kind t e kind.Date ts rest h = absurd h
decimal_kind t e (kind.Dec p s) ts rest h = (h.0, (ts, (e, refl), h.1))

text_kind : (t : Lexeme) → t.bytes ≡ codes "string" → (k : Kind) (ts rest : List Lexeme) → text_form k ts rest → kind_form k (t ∷ ts) rest
text_kind t e (kind.Int bits) ts rest h = absurd h
text_kind t e (kind.UInt bits) ts rest h = absurd h
text_kind t e (kind.Dec p s) ts rest h = absurd h
text_kind t e kind.Date ts rest h = absurd h
text_kind t e (kind.Text n true) ts rest h = (h.0, (ts, (e, refl), h.1))
text_kind t e (kind.Text n false) ts rest h = (h.0, (ts, (e, refl), h.1))

kind_by : (t : Lexeme) (ts : List Lexeme) (o : Option Kind) (a b : Bool) → plain_kind t.bytes ≡ o → bytes_eq t.bytes (codes "decimal") ≡ a → bytes_eq t.bytes (codes "string") ≡ b → Outcome kind_form kind_at (t ∷ ts) (kind_at (t ∷ ts))
kind_by t ts (Some k) a b e f g = rw (plain_step t ts k e) (took kind_form kind_at t ts k (λ more. found plain_kinds plain_all t.bytes k e t more refl) (λ more. plain_step t more k e))
kind_by t ts None true b e f g = rw (decimal_step t ts e f) (behind decimal_form kind_form decimal_at kind_at t ts (λ more. decimal_step t more e f) (decimal_kind t (same_bytes t.bytes (codes "decimal") f)) decimal_sound.stands (decimal_at ts) (decimal_sound.reads ts))
kind_by t ts None false true e f g = rw (text_step t ts e f g) (behind text_form kind_form text_at kind_at t ts (λ more. text_step t more e f g) (text_kind t (same_bytes t.bytes (codes "string") g)) text_sound.stands (text_at ts) (text_sound.reads ts))
kind_by t ts None false false e f g = rw (no_step t ts e f g) (refused kind_form kind_at t ts (no_type t) (λ more. no_step t more e f g))

kind_reads : IsReader kind_form kind_at
kind_reads [] = rw no_token (ended kind_form kind_at no_token)
kind_reads (t ∷ ts) = kind_by t ts (plain_kind t.bytes) (bytes_eq t.bytes (codes "decimal")) (bytes_eq t.bytes (codes "string")) refl refl refl

kind_stands : CanStand kind_form
kind_stands = (kind.Date, record { at = 0; sort = sort.Word; bytes = codes "date" } ∷ [], λ more. (tt, (refl, refl)))

-- the words of whole types are among those of one word
int_plain : (bits : ℕ) → IsBits bits → plain_kind (kind_text (kind.Int bits)) ≡ Some (kind.Int bits)
unfolding digits
int_plain bits h =
    elim h [
      | inl a ↦ rw a refl
      | inr b ↦ (elim b [
        | inl c ↦ rw c refl
        | inr d ↦ (elim d [
          | inl e ↦ rw e refl
          | inr f ↦ rw f refl
        ])
      ])
    ]

uint_plain : (bits : ℕ) → IsBits bits → plain_kind (kind_text (kind.UInt bits)) ≡ Some (kind.UInt bits)
unfolding digits
uint_plain bits h =
    elim h [
      | inl a ↦ rw a refl
      | inr b ↦ (elim b [
        | inl c ↦ rw c refl
        | inr d ↦ (elim d [
          | inl e ↦ rw e refl
          | inr f ↦ rw f refl
        ])
      ])
    ]

word_step : (bytes : List ℕ) (k : Kind) (ts rest : List Lexeme) → word bytes ts rest → plain_kind bytes ≡ Some k → kind_at ts ≡ Ok (k, rest)
word_step bytes k [] rest w e = absurd w
word_step bytes k (t ∷ ts) rest w e = plain_step t ts k (ap plain_kind w.0 ∙ e) ∙ rw w.1 refl

pub kind_read : IsRead kind_form kind_at (lacks (codes "["))
kind_read (kind.Int bits) ts rest h f = word_step (kind_text (kind.Int bits)) (kind.Int bits) ts rest h.1 (int_plain bits h.0)
kind_read (kind.UInt bits) ts rest h f = word_step (kind_text (kind.UInt bits)) (kind.UInt bits) ts rest h.1 (uint_plain bits h.0)
kind_read kind.Date ts rest h f = word_step (codes "date") kind.Date ts rest h.1 refl
kind_read (kind.Dec p s) [] rest h f = absurd h.1.1
kind_read (kind.Dec p s) (t ∷ ts) rest h f =
    decimal_step t ts (ap plain_kind h.1.1.0) (ap (λ b. bytes_eq b (codes "decimal")) h.1.1.0) ∙ decimal_sound.read (kind.Dec p s) ts rest (h.0, subst (λ (us : List Lexeme). (word (codes "[") ~ number p ~ (word (codes ",") ~ number s <|> nothing_where (s ≡ 0)) ~ word (codes "]")) us rest) (sym h.1.1.1) h.1.2) tt
kind_read (kind.Text n true) [] rest h f = absurd h.1.1
kind_read (kind.Text n true) (t ∷ ts) rest h f =
    text_step t ts (ap plain_kind h.1.1.0) (ap (λ b. bytes_eq b (codes "decimal")) h.1.1.0) (ap (λ b. bytes_eq b (codes "string")) h.1.1.0)
    ∙ text_sound.read (kind.Text n true) ts rest (subst (λ (us : List Lexeme). text_form (kind.Text n true) us rest) (sym h.1.1.1) (h.0, h.1.2)) f
kind_read (kind.Text n false) [] rest h f = absurd h.1.1
kind_read (kind.Text n false) (t ∷ ts) rest h f =
    text_step t ts (ap plain_kind h.1.1.0) (ap (λ b. bytes_eq b (codes "decimal")) h.1.1.0) (ap (λ b. bytes_eq b (codes "string")) h.1.1.0)
    ∙ text_sound.read (kind.Text n false) ts rest (subst (λ (us : List Lexeme). text_form (kind.Text n false) us rest) (sym h.1.1.1) (h.0, h.1.2)) f

pub kind_sound : Sound kind_form kind_at (lacks (codes "["))
kind_sound = record { reads = kind_reads; stands = kind_stands; read = kind_read }
