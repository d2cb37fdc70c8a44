-- Widths: what is read is a list of them, and what is one is read.
use Rattle.std.proofs.Common.{◌≡◌, ℕ, List, [], ◌∷◌, ◌++◌, Bool, true, false, Result, Ok, refl, sym, subst, arith}
use Rattle.std.specs.Prelude.{if◌then◌else◌}
use Rattle.std.specs.List.{AllByRecursion}
use Rattle.std.specs.Str.Parse.{IsNumeral, digits_value}
use Rattle.ds_lex.specs.declared.token.Sort.TheVariants as sort
use Rattle.ds_lex.specs.declared.refusal.Refusal.{Refusal}
use Rattle.ds_lex.specs.Lexemes.{Lexeme}
use Rattle.ds_lex.specs.Reading.{sort_at, refuse}
use Rattle.ds_lex.proofs.Readers.{bind_ok}
use Rattle.ds_schema.specs.SchemaGrammar.{number}
use Rattle.ds_schema.specs.SchemaReading.{is_size}
use Rattle.ds_schema.proofs.ListReaders.{ok_parts}
use Rattle.ds_text.specs.Forms.{IsWidth}
use Rattle.op_base.proofs.All.{all_append}
use Rattle.osh_value.specs.Values.{width_at, widths_at}
use Rattle.osh_value.specs.ValueGrammar.{widths_form}
use Rattle.osh_value.proofs.TokensTaken.{sort_taken, sort_read, token_fewer, tested_size, size_tested}
use Rattle.osh_value.proofs.ListsSpelled.{TakesOne, ReadsOne, list_taken, list_read}

abbrev pub AreWidths : List ℕ → Type 0
AreWidths widths = AllByRecursion IsWidth widths

width_by : (b : Bool) (t : Lexeme) (ts us rest : List Lexeme) (w : ℕ) → is_size 1 65536 t.bytes ≡ b → t.sort ≡ sort.Number → ts ≡ t ∷ us
    → (let r : Result (ℕ × List Lexeme) (Refusal (Unit {0})) = if b then Ok (digits_value 10 t.bytes, us) else refuse t tt in r) ≡ Ok (w, rest) → number w ts rest × IsWidth w
width_by true t ts us rest w e s p h =
    let k = ok_parts (digits_value 10 t.bytes, us) (w, rest) h in
    let size = tested_size 1 65536 t.bytes e in
    (subst (λ (vs : List Lexeme). number w vs rest) (sym p) (s, (size.2, k.0), k.1), subst IsWidth k.0 (size.0, size.1))
width_by false t ts us rest w e s p h = absurd cc

width_taken : (ts rest : List Lexeme) (w : ℕ) → width_at ts ≡ Ok (w, rest) → number w ts rest × IsWidth w
unfolding width_at
width_taken ts rest w h =
    let a = bind_ok (sort_at sort.Number tt ts) _ (w, rest) h in
    let s = sort_taken sort.Number (tt {0}) ts a.0.1 a.0.0 a.1 in
    width_by (is_size 1 65536 a.0.0.bytes) a.0.0 ts a.0.1 rest w refl s.0 s.1 a.2

takes : TakesOne AreWidths number (λ found. width_at)
takes found ts rest w f h =
    let k = width_taken ts rest w h in
    (k.0, all_append IsWidth found (w ∷ []) f (k.1, tt))

pub widths_taken : (ts rest : List Lexeme) (widths : List ℕ) → widths_at ts ≡ Ok (widths, rest) → widths_form widths ts rest
widths_taken ts rest widths h = list_taken AreWidths number (λ found. width_at) takes tt ts rest widths h

front : (xs ys : List ℕ) → AreWidths (xs ++ ys) → AreWidths xs
front [] ys h = tt
front (x ∷ xs) ys h = (h.0, front xs ys h.1)

last : (xs : List ℕ) (x : ℕ) → AreWidths (xs ++ x ∷ []) → IsWidth x
last [] x h = h.0
last (y ∷ xs) x h = last xs x h.1

width_read : (w : ℕ) (ts rest : List Lexeme) → IsWidth w → number w ts rest → width_at ts ≡ Ok (w, rest)
unfolding width_at
width_read w [] rest f h = absurd h
width_read w (t ∷ ts) rest f h =
    let value = h.1.1 in
    rw (sort_read sort.Number (tt {0}) t ts h.0, size_tested 1 65536 t.bytes h.1.0 (omega (arith, value, f.0)) (omega (arith, value, f.1)), h.1.1, h.2) refl

reads : ReadsOne AreWidths number (λ found. width_at)
reads = record {
  read = λ found w ts rest f h. width_read w ts rest (last found w f) h;
  fewer = λ w ts rest h. token_fewer sort.Number (λ bytes. IsNumeral 10 bytes × (digits_value 10 bytes ≡ w)) ts rest h;
  front = front;
}

pub widths_read : (widths : List ℕ) (ts : List Lexeme) → widths_form widths ts [] → widths_at ts ≡ Ok (widths, [])
widths_read widths ts h = list_read AreWidths number (λ found. width_at) reads widths ts h
