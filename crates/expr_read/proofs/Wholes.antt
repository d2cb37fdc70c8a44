-- Whole texts.
use Rattle.std.proofs.Common.{◌≡◌, ℕ, List, [], ◌∷◌, Option, Some, None, Result, Ok, Err, length, refl, sym, ap, ◌∙◌}
use Rattle.ds_lex.specs.declared.token.Mode.TheVariants.{Inner}
use Rattle.ds_lex.specs.Lexemes.{Lexeme, lexed_text}
use Rattle.ds_lex.specs.Reading.{◌>>=◌}
use Rattle.std.specs.Prelude.{IfOk, IfErr}
use Rattle.expr_read.specs.declared.fault.ExprFault.{ExprFault}
use Rattle.expr_read.specs.declared.fault.ExprFault.TheVariants as fault
use Rattle.expr_read.specs.declared.tree.Expr.{Expr}
use Rattle.expr_read.specs.Reading.{Read, or_at, unary_at, nothing_left, whole_at, settled, expr_of, Answers}
use Rattle.expr_read.specs.Grammar.{or_form, unary_form, IsSpelled, SpellsNone}
use Rattle.expr_read.specs.GrammarLaws.{ReadIsSpelled, SpelledIsRead, RefusedIsNone, OneIsSpelled}
use Rattle.expr_read.proofs.Grammars.{or_reads, unary_form_reads}

whole_by : (n : ℕ) (ts : List Lexeme) (e : Expr) (v : Read Expr) → or_at (unary_at n) ts ≡ v → (v >>= λ x. nothing_left x.0 x.1) ≡ Ok e → or_at (unary_at n) ts ≡ Ok (e, [])
whole_by n ts e (Ok (x, [])) g h = let same : x ≡ e = cc in g ∙ ap (λ (y : Expr). Ok (y, [])) same
whole_by n ts e (Ok (x, t ∷ rest)) g h = absurd cc
whole_by n ts e (Err left) g h = absurd cc

pub whole_sound : (n : ℕ) (ts : List Lexeme) (e : Expr) → whole_at n ts ≡ Ok e → or_form (unary_form n) e ts []
unfolding whole_at
whole_sound n ts e h = (or_reads (unary_form n) (unary_at n) (unary_form_reads n)).sound ts e [] (whole_by n ts e (or_at (unary_at n) ts) refl h)

pub whole_all : (n : ℕ) (ts : List Lexeme) (e : Expr) → or_form (unary_form n) e ts [] → whole_at n ts ≡ Ok e
unfolding whole_at
whole_all n ts e h = ap (λ (v : Read Expr). v >>= λ x. nothing_left x.0 x.1) ((or_reads (unary_form n) (unary_at n) (unary_form_reads n)).all e ts [] h refl)

record Settled (bad : Option ℕ) (v : Result Expr (List Lexeme)) (e : Expr) : Type 0 where
  whole : bad ≡ None
  read : v ≡ Ok e

settled_ok : (bad : Option ℕ) (len : ℕ) (v : Result Expr (List Lexeme)) (e : Expr) → settled bad len v ≡ Ok e → Settled bad v e
settled_ok bad len (Err left) e h = absurd cc
settled_ok None len (Ok x) e h = let same : x ≡ e = cc in record { whole = refl; read = ap Ok same }
settled_ok (Some at) len (Ok x) e h = absurd cc

pub read_is_spelled : ReadIsSpelled
unfolding expr_of
read_is_spelled bytes e h =
    let s = settled_ok (lexed_text Inner bytes).bad (length bytes) (whole_at 64 (lexed_text Inner bytes).lexemes) e h in
    record { whole = s.whole; tokens = whole_sound 64 (lexed_text Inner bytes).lexemes e s.read }

pub spelled_is_read : SpelledIsRead
unfolding expr_of
spelled_is_read bytes e h =
    ap (λ (b : Option ℕ). settled b (length bytes) (whole_at 64 (lexed_text Inner bytes).lexemes)) h.whole ∙ ap (settled None (length bytes)) (whole_all 64 (lexed_text Inner bytes).lexemes e h.tokens)

pub refused_is_none : RefusedIsNone
refused_is_none bytes at e h s = let k : (let r : Result Expr ℕ = Ok e in r) ≡ Err at = sym (spelled_is_read bytes e s) ∙ h in absurd cc

pub one_is_spelled : OneIsSpelled
one_is_spelled bytes e other h k = let same : (let r : Result Expr ℕ = Ok e in r) ≡ Ok other = sym (spelled_is_read bytes e h) ∙ spelled_is_read bytes other k in cc

pub answer_spelled : (bytes : List ℕ) (r : Result Expr ExprFault) → Answers r (expr_of bytes) → IfOk r (λ e. IsSpelled bytes e)
answer_spelled bytes (Ok e) a = read_is_spelled bytes e a
answer_spelled bytes (Err f) a = tt

pub answer_none : (bytes : List ℕ) (r : Result Expr ExprFault) → Answers r (expr_of bytes) → IfErr r (λ f. SpellsNone f bytes)
answer_none bytes (Ok e) a = tt
answer_none bytes (Err (fault.Syntax at)) a = λ e s. refused_is_none bytes at e a s
answer_none bytes (Err fault.Memory) a = tt
