-- What is kept of an expression is kept of itself, also behind a blank.
use Rattle.std.proofs.Common.{◌≡◌, ◌≤◌, ◌+◌, ◌-◌, ℕ, List, [], ◌∷◌, ◌++◌, length, drop, take, Some, None, Result, Ok, Err, refl, sym, ap, ◌∙◌, subst, arith, length-append}
use Rattle.std.specs.Prelude.{if◌then◌else◌}
use Rattle.std.specs.Result.{is_ok}
use Rattle.std.proofs.lemmas.List.{drop-take, take_all}
use Rattle.std.proofs.Math.Seq.{drop-append_seam}
use Rattle.ds_lex.specs.declared.token.Mode.TheVariants.{Inner}
use Rattle.ds_lex.specs.Lexemes.{Lexeme, part, lexed_text}
use Rattle.ds_lex.proofs.Printed.{Lexes, lexes_gap}
use Rattle.expr_read.specs.declared.tree.Expr.{Expr}
use Rattle.expr_read.specs.Reading.{expr_of, unary_at}
use Rattle.expr_read.specs.Grammar.{or_form, unary_form, IsSpelled}
use Rattle.expr_read.proofs.Grammars.{or_reads, unary_form_reads}
use Rattle.expr_read.proofs.Wholes.{read_is_spelled, spelled_is_read}
use Rattle.osh_value.specs.Values.{place_behind, last_of, spanned, kept_expression}
use Rattle.osh_sound.specs.ValueLaws.{IsExpression}
use Rattle.osh_sound.proofs.KeptTokens.{Shifted, end_of, shifted_end, keeps}
use Rattle.osh_sound.proofs.ExprsShifted.{shifted_spells}

-- ---- bytes between places

last_end : (t : Lexeme) (ts : List Lexeme) → place_behind (last_of t ts) ≡ end_of (t.at + length t.bytes) ts
last_end t [] = refl
last_end t (u ∷ ts) = last_end u ts

dropped_take : (a b : ℕ) (xs : List ℕ) → a ≤ b → drop a (take b xs) ≡ take (b - a) (drop a xs)
dropped_take a b xs h = let e : b ≡ a + (b - a) = omega arith in ap (λ n. drop a (take n xs)) e ∙ drop-take a (b - a) xs

-- ---- an expression in a text

some_token : (x : Expr) → or_form (unary_form 64) x [] [] → ⊥
some_token x h = let k = (or_reads (unary_form 64) (unary_at 64) (unary_form_reads 64)).takes x [] [] h in omega (arith, k)

-- the tokens of a text that spells an expression
record Parts (text kept : List ℕ) : Type 0 where
  expr : Expr
  first : Lexeme
  others : List Lexeme
  whole : (lexed_text Inner text).bad ≡ None
  tokens : (lexed_text Inner text).lexemes ≡ first ∷ others
  spelled : or_form (unary_form 64) expr (first ∷ others) []
  is : kept ≡ spanned text (first ∷ others)

parts_by : (text kept : List ℕ) (x : Expr) (ts : List Lexeme) → (lexed_text Inner text).bad ≡ None → (lexed_text Inner text).lexemes ≡ ts → or_form (unary_form 64) x ts [] → kept ≡ spanned text ts → Parts text kept
parts_by text kept x [] b e h i = absurd (some_token x h)
parts_by text kept x (t ∷ ts) b e h i = record { expr = x; first = t; others = ts; whole = b; tokens = e; spelled = h; is = i }

parts_of : (kept : List ℕ) (h : IsExpression kept) → Parts h.text kept
parts_of kept h = parts_by h.text kept h.expr (lexed_text Inner h.text).lexemes h.spelled.whole refl h.spelled.tokens h.is

-- ---- what is kept behind other bytes

kept_part : (text : List ℕ) (t : Lexeme) (ts us : List Lexeme) (place len : ℕ) → Shifted t.at place (t ∷ ts) us → end_of place us ≡ place + len → part text t.at (end_of t.at (t ∷ ts)) ≡ spanned text (t ∷ ts)
kept_part text t ts us place len s e =
    let k = shifted_end t.at place t.at place (t ∷ ts) us (omega arith) s in
    let l = last_end t ts in
    ap (part text t.at) (sym l) ∙ sym (dropped_take t.at (place_behind (last_of t ts)) text (omega arith))

spans : (front kept : List ℕ) (t : Lexeme) (ts us : List Lexeme) → Shifted t.at (length front) (t ∷ ts) us → end_of (length front) us ≡ length front + length kept → spanned (front ++ kept) us ≡ kept
spans front kept t ts [] s e = absurd s
spans front kept t ts (u ∷ us) s e =
    let place : u.at ≡ length front = (let p = s.0.2 in omega arith) in
    let end : place_behind (last_of u us) ≡ length front + length kept = last_end u us ∙ e in
    let all : take (length front + length kept) (front ++ kept) ≡ front ++ kept = take_all (length front + length kept) (front ++ kept) (let l = length-append front kept in omega arith) in
    rw (end, place, all) (drop-append_seam front kept)

kept_by : (front text kept : List ℕ) (p : Parts text kept) → ((us : List Lexeme) → Lexes Inner front kept us → Lexes Inner [] (front ++ kept) us) → kept_expression (front ++ kept) ≡ Some kept
unfolding kept_expression
kept_by front text kept p f =
    let n = keeps Inner text front [] p.first p.others p.whole p.tokens in
    let same : part text p.first.at (end_of p.first.at (p.first ∷ p.others)) ≡ kept = kept_part text p.first p.others n.tokens (length front) _ n.same n.end ∙ sym p.is in
    let all = f n.tokens (subst (λ (xs : List ℕ). Lexes Inner front xs n.tokens) same n.lexes) in
    let end : end_of (length front) n.tokens ≡ length front + length kept = n.end ∙ ap (λ (xs : List ℕ). length front + length xs) same in
    let y = shifted_spells p.first.at (length front) 64 p.expr (p.first ∷ p.others) n.tokens p.spelled n.same in
    let spelled : IsSpelled (front ++ kept) y.0 = record { whole = all.whole; tokens = subst (λ (ts : List Lexeme). or_form (unary_form 64) y.0 ts []) (sym all.tokens) y.1 } in
    ap (λ (r : Result Expr ℕ). if is_ok r then Some (spanned (front ++ kept) (lexed_text Inner (front ++ kept)).lexemes) else None) (spelled_is_read (front ++ kept) y.0 spelled)
    ∙ (ap (λ (ts : List Lexeme). Some (spanned (front ++ kept) ts)) all.tokens ∙ ap (λ (xs : List ℕ). Some xs) (spans front kept p.first p.others n.tokens n.same end))

pub kept_again : (kept : List ℕ) → IsExpression kept → kept_expression kept ≡ Some kept
kept_again kept h = kept_by [] h.text kept (parts_of kept h) (λ us l. l)

pub kept_behind : (kept : List ℕ) → IsExpression kept → kept_expression (32 ∷ kept) ≡ Some kept
kept_behind kept h = kept_by (32 ∷ []) h.text kept (parts_of kept h) (λ us l. lexes_gap Inner [] kept 32 us refl l)

-- ---- what is read

read_by : (text kept : List ℕ) (r : Result Expr ℕ) → expr_of text ≡ r → (if is_ok r then Some (spanned text (lexed_text Inner text).lexemes) else None) ≡ Some kept → IsExpression kept
read_by text kept (Ok x) e h = record { text = text; expr = x; spelled = read_is_spelled text x e; is = (let k : spanned text (lexed_text Inner text).lexemes ≡ kept = cc in sym k) }
read_by text kept (Err at) e h = absurd cc

pub read_expression : (text kept : List ℕ) → kept_expression text ≡ Some kept → IsExpression kept
unfolding kept_expression
read_expression text kept h = read_by text kept (expr_of text) refl h

spanned_by : (text kept : List ℕ) (r : Result Expr ℕ) → (if is_ok r then Some (spanned text (lexed_text Inner text).lexemes) else None) ≡ Some kept → kept ≡ spanned text (lexed_text Inner text).lexemes
spanned_by text kept (Ok x) h = let k : spanned text (lexed_text Inner text).lexemes ≡ kept = cc in sym k
spanned_by text kept (Err at) h = absurd cc

pub kept_spanned : (text kept : List ℕ) → kept_expression text ≡ Some kept → kept ≡ spanned text (lexed_text Inner text).lexemes
unfolding kept_expression
kept_spanned text kept h = spanned_by text kept (expr_of text) h

-- the tokens of an expression behind other bytes
pub lexes_expression : (front kept : List ℕ) → IsExpression kept → (us : List Lexeme) × Lexes Inner front kept us
lexes_expression front kept h =
    let p = parts_of kept h in
    let n = keeps Inner h.text front [] p.first p.others p.whole p.tokens in
    let same : part h.text p.first.at (end_of p.first.at (p.first ∷ p.others)) ≡ kept = kept_part h.text p.first p.others n.tokens (length front) _ n.same n.end ∙ sym p.is in
    (n.tokens, subst (λ (xs : List ℕ). Lexes Inner front xs n.tokens) same n.lexes)
