-- Bytes that can stand between quotes, and parts of them.
use Rattle.std.proofs.Common.{◌≡◌, ◌⊎◌, ◌<◌, ◌^◌, inl, inr, ℕ, zero, suc, List, [], ◌∷◌, ◌++◌, drop, take, Bool, true, false, refl, sym, ap, ◌∙◌, subst, arith}
use Rattle.std.specs.Prelude.{not, ◌==◌, ◌&&◌, ◌||◌, if◌then◌else◌, codes}
use Rattle.std.specs.List.{list_all}
use Rattle.std.specs.Fmt.{decimal}
use Rattle.std.specs.Cmp.{first_so, second_so}
use Rattle.std.proofs.lemmas.Bool.{and_from, not-true}
use Rattle.std.proofs.lemmas.Fmt.{decimal_is_IsNumeral}
use Rattle.std.proofs.lemmas.Bool.Decides.{nat_tests}
use Rattle.std.proofs.lemmas.List.Folds.{list_all-append}
use Rattle.ds_value.specs.declared.kind.Kind.{Kind}
use Rattle.ds_value.specs.declared.kind.Kind.TheVariants as value_kind
use Rattle.ds_value.specs.Kinds.{IsKind, IsBits}
use Rattle.ds_lex.specs.Lexemes.{Lexeme}
use Rattle.ds_lex.specs.Pieces.{is_opt_byte, is_text_byte, is_word_byte}
use Rattle.ds_schema.specs.Schemas.{IsField}
use Rattle.ds_schema.specs.SchemaText.{kind_text, nullable_text}
use Rattle.ds_schema.proofs.SizeReaders.{digits_all}
use Rattle.flow_graph.specs.declared.op_kind.SetSpec.{SetSpec}
use Rattle.osh_value.specs.Values.{place_behind, last_of, spanned}
use Rattle.osh_print.specs.OptionText.{has_quote, quote_of, set_text}
use Rattle.osh_sound.specs.OptionLaws.{IsQuotable}
use Rattle.osh_back.proofs.PrintedWords.{digits_words}

-- ---- parts of a value

-- no byte that a QUOTED can't have, and one of the quotes isn't there
abbrev pub Lacks : ℕ → List ℕ → Type 0
Lacks quote bytes = list_all (λ b. not (b == quote)) bytes ≡ true

pub record OneQuote (bytes : List ℕ) : Type 0 where
  pub texts : list_all is_text_byte bytes ≡ true
  pub lacks : Lacks 34 bytes ⊎ Lacks 39 bytes

all_take : (p : ℕ → Bool) (n : ℕ) (bytes : List ℕ) → list_all p bytes ≡ true → list_all p (take n bytes) ≡ true
all_take p zero bytes h = refl
all_take p (suc n) [] h = refl
all_take p (suc n) (b ∷ bytes) h = and_from (p b) (list_all p (take n bytes)) (first_so (p b) (list_all p bytes) h) (all_take p n bytes (second_so (p b) (list_all p bytes) h))

all_drop : (p : ℕ → Bool) (n : ℕ) (bytes : List ℕ) → list_all p bytes ≡ true → list_all p (drop n bytes) ≡ true
all_drop p zero bytes h = h
all_drop p (suc n) [] h = refl
all_drop p (suc n) (b ∷ bytes) h = all_drop p n bytes (second_so (p b) (list_all p bytes) h)

one_take : (n : ℕ) (bytes : List ℕ) → OneQuote bytes → OneQuote (take n bytes)
one_take n bytes h = record {
  texts = all_take is_text_byte n bytes h.texts;
  lacks = elim h.lacks [ inl a ↦ inl (all_take (λ b. not (b == 34)) n bytes a) | inr a ↦ inr (all_take (λ b. not (b == 39)) n bytes a) ];
}

pub one_drop : (n : ℕ) (bytes : List ℕ) → OneQuote bytes → OneQuote (drop n bytes)
one_drop n bytes h = record {
  texts = all_drop is_text_byte n bytes h.texts;
  lacks = elim h.lacks [ inl a ↦ inl (all_drop (λ b. not (b == 34)) n bytes a) | inr a ↦ inr (all_drop (λ b. not (b == 39)) n bytes a) ];
}

pub one_spanned : (text : List ℕ) (ts : List Lexeme) → OneQuote text → OneQuote (spanned text ts)
one_spanned text [] h = record { texts = refl; lacks = inl refl }
one_spanned text (t ∷ ts) h = one_drop t.at (take (place_behind (last_of t ts)) text) (one_take (place_behind (last_of t ts)) text h)

-- ---- which quote stands

has_none : (bytes : List ℕ) → Lacks 34 bytes → has_quote bytes ≡ false
has_none [] h = refl
has_none (b ∷ bytes) h =
    let here : (b == 34) ≡ false = not-true (b == 34) (first_so (not (b == 34)) (list_all (λ c. not (c == 34)) bytes) h) in
    rw here (has_none bytes (second_so (not (b == 34)) (list_all (λ c. not (c == 34)) bytes) h))

none_has : (bytes : List ℕ) → has_quote bytes ≡ false → Lacks 34 bytes
none_has [] h = refl
none_has (b ∷ bytes) h = by (b == 34) (has_quote bytes) h (λ k. none_has bytes k)
  where
    by : (c d : Bool) → (c || d) ≡ false → (d ≡ false → Lacks 34 bytes) → (not c && list_all (λ x. not (x == 34)) bytes) ≡ true
    by true d e f = absurd cc
    by false d e f = f e

quote_by : (bytes : List ℕ) (has : Bool) → has_quote bytes ≡ has → Lacks 34 bytes ⊎ Lacks 39 bytes → Lacks (if has then 39 else 34) bytes
quote_by bytes true e h = elim h [ inl a ↦ absurd (let k = has_none bytes a in cc) | inr a ↦ a ]
quote_by bytes false e h = none_has bytes e

pub one_quotable : (bytes : List ℕ) → OneQuote bytes → IsQuotable bytes
one_quotable bytes h = record { texts = h.texts; quote = quote_by bytes (has_quote bytes) refl h.lacks }

-- ---- a set

-- bytes that stand between either quotes
abbrev bare_byte : ℕ → Bool
bare_byte b = is_text_byte b && (not (b == 34) && not (b == 39))

abbrev Bare : List ℕ → Type 0
Bare bytes = list_all bare_byte bytes ≡ true

other_quote : (b : ℕ) (has : Bool) → bare_byte b ≡ true → not (b == (if has then 39 else 34)) ≡ true
other_quote b true h = second_so (not (b == 34)) (not (b == 39)) (second_so (is_text_byte b) (not (b == 34) && not (b == 39)) h)
other_quote b false h = first_so (not (b == 34)) (not (b == 39)) (second_so (is_text_byte b) (not (b == 34) && not (b == 39)) h)

bare_first : (b : ℕ) (bytes : List ℕ) → bare_byte b ≡ true → IsQuotable bytes → IsQuotable (b ∷ bytes)
bare_first b bytes h q =
    let here : (b == 34) ≡ false = not-true (b == 34) (other_quote b false h) in
    let same : quote_of (b ∷ bytes) ≡ quote_of bytes = ap (λ c. let n : ℕ = if c || has_quote bytes then 39 else 34 in n) here in
    record {
      texts = and_from (is_text_byte b) (list_all is_text_byte bytes) (first_so (is_text_byte b) (not (b == 34) && not (b == 39)) h) q.texts;
      quote = subst (λ n. Lacks n (b ∷ bytes)) (sym same) (and_from (not (b == quote_of bytes)) (list_all (λ c. not (c == quote_of bytes)) bytes) (other_quote b (has_quote bytes) h) q.quote);
    }

bare_then : (xs bytes : List ℕ) → Bare xs → IsQuotable bytes → IsQuotable (xs ++ bytes)
bare_then [] bytes h q = q
bare_then (b ∷ xs) bytes h q = bare_first b (xs ++ bytes) (first_so (bare_byte b) (list_all bare_byte xs) h) (bare_then xs bytes (second_so (bare_byte b) (list_all bare_byte xs) h) q)

opt_bare : (b : ℕ) → is_opt_byte b ≡ true → bare_byte b ≡ true
opt_bare b h = grind (arith, nat_tests)

word_bare : (b : ℕ) → is_word_byte b ≡ true → bare_byte b ≡ true
word_bare b h = grind (arith, nat_tests)

all_bare : (p : ℕ → Bool) → ((b : ℕ) → p b ≡ true → bare_byte b ≡ true) → (bytes : List ℕ) → list_all p bytes ≡ true → Bare bytes
all_bare p f [] h = refl
all_bare p f (b ∷ bytes) h = and_from (bare_byte b) (list_all bare_byte bytes) (f b (first_so (p b) (list_all p bytes) h)) (all_bare p f bytes (second_so (p b) (list_all p bytes) h))

bare_number : (n : ℕ) → n < 2 ^ 64 → Bare (decimal n)
bare_number n h = all_bare is_word_byte word_bare (decimal n) (digits_words (decimal n) (digits_all (decimal n) (decimal_is_IsNumeral n h).0.1))

both_bare : (xs ys : List ℕ) → Bare xs → Bare ys → Bare (xs ++ ys)
both_bare xs ys a b = list_all-append bare_byte xs ys ∙ and_from (list_all bare_byte xs) (list_all bare_byte ys) a b

few_bits : (bits : ℕ) → IsBits bits → bits < 2 ^ 64
few_bits bits h = elim h [ inl e ↦ omega (arith, e) | inr h ↦ elim h [ inl e ↦ omega (arith, e) | inr h ↦ elim h [ inl e ↦ omega (arith, e) | inr e ↦ omega (arith, e) ] ] ]

bare_kind : (k : Kind) → IsKind k → Bare (kind_text k)
bare_kind (value_kind.Int bits) h = both_bare (codes "int") (decimal bits) refl (bare_number bits (few_bits bits h))
bare_kind (value_kind.UInt bits) h = both_bare (codes "uint") (decimal bits) refl (bare_number bits (few_bits bits h))
bare_kind (value_kind.Dec p s) h =
    both_bare (codes "decimal[") (decimal p ++ (codes "," ++ (decimal s ++ codes "]"))) refl
    (both_bare (decimal p) (codes "," ++ (decimal s ++ codes "]")) (bare_number p (omega (arith, h.1.0)))
    (both_bare (codes ",") (decimal s ++ codes "]") refl (both_bare (decimal s) (codes "]") (bare_number s (omega (arith, h.1.0, h.1.1))) refl)))
bare_kind (value_kind.Text n true) h = both_bare (codes "string[") (decimal n ++ codes "]") refl (both_bare (decimal n) (codes "]") (bare_number n (omega (arith, h.1))) refl)
bare_kind (value_kind.Text n false) h = both_bare (codes "string[max=") (decimal n ++ codes "]") refl (both_bare (decimal n) (codes "]") (bare_number n (omega (arith, h.1))) refl)
bare_kind value_kind.Date h = refl

bare_nullable : (b : Bool) → Bare (nullable_text b)
bare_nullable true = refl
bare_nullable false = refl

pub set_quotable : (s : SetSpec) → IsField s.field → IsQuotable s.expr → IsQuotable (set_text s)
set_quotable s h q =
    let name = s.field.name in
    let typed = nullable_text s.field.nullable in
    let kind = kind_text s.field.kind in
    bare_then name (codes ": " ++ (typed ++ (kind ++ (codes " = " ++ s.expr)))) (all_bare is_opt_byte opt_bare name h.0.each)
    (bare_then (codes ": ") (typed ++ (kind ++ (codes " = " ++ s.expr))) refl
    (bare_then typed (kind ++ (codes " = " ++ s.expr)) (bare_nullable s.field.nullable)
    (bare_then kind (codes " = " ++ s.expr) (bare_kind s.field.kind h.1)
    (bare_then (codes " = ") s.expr refl q))))
