-- Where reading stops is the first place from which no expression goes on.
use Rattle.std.proofs.Common.{◌≡◌, ℕ, zero, suc, List, [], ◌∷◌, ◌++◌, Option, Some, None, Result, Ok, Err, length, refl, sym, ap, subst, ◌∙◌, append_assoc, inl, inr}
use Rattle.std.specs.Prelude.{IfErr}
use Rattle.std.proofs.lemmas.List.{append-nil}
use Rattle.ds_lex.specs.declared.token.Mode.TheVariants.{Inner}
use Rattle.ds_lex.specs.Lexemes.{Lexeme, lexed_text}
use Rattle.ds_lex.specs.Reading.{◌>>=◌, first_of}
use Rattle.expr_read.specs.declared.fault.ExprFault.{ExprFault}
use Rattle.expr_read.specs.declared.fault.ExprFault.TheVariants as fault
use Rattle.expr_read.specs.declared.tree.Prefix.{Prefix}
use Rattle.expr_read.specs.declared.tree.Expr.{Expr}
use Rattle.expr_read.specs.declared.tree.Expr.TheVariants as made
use Rattle.expr_read.specs.declared.what.What.TheVariants as what
use Rattle.expr_read.specs.declared.what.Level.TheVariants as level
use Rattle.expr_read.specs.Marks.{what_of}
use Rattle.expr_read.specs.Reading.{Read, Reader, closes, closed, nothing_at, signed_by, bracket_by, unary_at, or_at, and_at, comparison_at, sum_at, product_at, nothing_left, whole_at, end_place, settled, expr_of, Answers}
use Rattle.expr_read.specs.Grammar.{Form, no_form, unary_form, or_form}
use Rattle.expr_read.specs.First.{Spells, Begins, StopsAt, IsFirst, IsFirstFault, Refuses}
use Rattle.expr_read.proofs.Chains.{Reads, parts, made_of, chain_reads}
use Rattle.expr_read.proofs.Units.{opens_token, closed_is, closed_reads}
use Rattle.expr_read.proofs.Grammars.{apart_product, apart_sum, apart_comparison, apart_and, go_product, go_sum, go_comparison, go_and, go_or, or_reads, unary_form_reads}
use Rattle.expr_read.proofs.Steps.{Took, Stuck, Steps, failed_of, chain_steps}
use Rattle.expr_read.proofs.CallSteps.{close_token, next_same, not_closed, closed_fails, mark_split, call_steps, none_steps}
use Rattle.expr_read.proofs.UnarySteps.{SignedForm, ClosedForm, InnerSteps, unary_steps}

-- ---- levels

or_steps : (F : Form) (R : Reader) → Reads F opens_token R → Steps F R → Steps (or_form F) (or_at R)
or_steps F R r s =
    let product = chain_reads level.Product F opens_token R (λ t. apart_product t.at (what_of t)) r in
    let sum = chain_reads level.Sum _ go_product (product_at R) (λ t. apart_sum t.at (what_of t)) product in
    let comparison = chain_reads level.Compare _ go_sum (sum_at R) (λ t. apart_comparison t.at (what_of t)) sum in
    let conjunction = chain_reads level.And _ go_comparison (comparison_at R) (λ t. apart_and t.at (what_of t)) comparison in
    let products = chain_steps level.Product F opens_token R r s in
    let sums = chain_steps level.Sum _ go_product (product_at R) product products in
    let comparisons = chain_steps level.Compare _ go_sum (sum_at R) sum sums in
    let conjunctions = chain_steps level.And _ go_comparison (comparison_at R) comparison comparisons in
    chain_steps level.Or _ go_and (and_at R) conjunction conjunctions

-- ---- signs and brackets

abbrev sign_made : Prefix → ℕ → Expr × List Lexeme → Read Expr
sign_made s at x = Ok (made.Signed at s x.0, x.1)

signed_took : (F : Form) (R : Reader) → Steps F R → (s : Prefix) (at : ℕ) (t : Lexeme) (ts : List Lexeme) (e : Expr) (rest : List Lexeme) → signed_by R s at (t ∷ ts) ≡ Ok (e, rest) → Took (SignedForm F s at) (λ us. signed_by R s at (t ∷ us)) ts e rest
signed_took F R s sign at t ts e rest h =
    let m = made_of (R ts) (sign_made sign at) e rest h in
    let p = parts (made.Signed at sign m.value, m.left) e rest m.second in
    let w = s.took ts m.value m.left m.first in
    record {
      front = w.front;
      parts = w.parts ∙ ap (λ (us : List Lexeme). w.front ++ us) p.second;
      fits = λ k. (m.value, sym p.first, w.fits k);
      same = λ more f. ap (λ (v : Read Expr). v >>= sign_made sign at) (w.same more (f ∙ ap first_of (sym p.second))) ∙ ap (λ (x : Expr). Ok (x, more)) p.first;
    }

signed_stuck : (F : Form) (R : Reader) → Steps F R → (s : Prefix) (at : ℕ) (t : Lexeme) (ts left : List Lexeme) → signed_by R s at (t ∷ ts) ≡ Err left → Stuck (SignedForm F s at) (λ us. signed_by R s at (t ∷ us)) ts left
signed_stuck F R s sign at t ts left h =
    elim (failed_of (R ts) (sign_made sign at) left h) [
      | inl a ↦ (
          let w = s.stuck ts left a in
          record {
            front = w.front;
            parts = w.parts;
            begun = λ k. (let b = w.begun k in (b.0, made.Signed at sign b.1, (b.1, refl, b.2)));
            same = λ more f. ap (λ (v : Read Expr). v >>= sign_made sign at) (w.same more f);
          })
      | inr m ↦ absurd (let c : sign_made sign at (m.value, m.behind) ≡ Err left = m.second in cc)
    ]

bracket_took : (F : Form) (R : Reader) → Steps F R → (t : Lexeme) (ts : List Lexeme) (e : Expr) (rest : List Lexeme) → bracket_by R (t ∷ ts) ≡ Ok (e, rest) → Took (ClosedForm F) (λ us. bracket_by R (t ∷ us)) ts e rest
bracket_took F R s t ts e rest h =
    let m = made_of (R ts) closed e rest h in
    let k = closed_is m.value e m.left rest m.second in
    let c = mark_split what.Close m.left rest k.1 in
    let w = s.took ts m.value m.left m.first in
    record {
      front = w.front ++ c.0 ∷ [];
      parts = w.parts ∙ (ap (λ (us : List Lexeme). w.front ++ us) c.2 ∙ sym (append_assoc w.front (c.0 ∷ []) rest));
      fits = λ j. (c.0 ∷ j, subst (λ (x : Expr). F x ((w.front ++ c.0 ∷ []) ++ j) (c.0 ∷ j)) k.0 (subst (λ (us : List Lexeme). F m.value us (c.0 ∷ j)) (sym (append_assoc w.front (c.0 ∷ []) j)) (w.fits (c.0 ∷ j))), (c.1, refl));
      same = λ more f.
          let read : R ((w.front ++ c.0 ∷ []) ++ more) ≡ Ok (m.value, c.0 ∷ more) = ap R (append_assoc w.front (c.0 ∷ []) more) ∙ w.same (c.0 ∷ more) (ap first_of (sym c.2)) in
          ap (λ (v : Read Expr). v >>= closed) read ∙ (closed_reads m.value (c.0 ∷ more) more (c.1, refl) ∙ ap (λ (x : Expr). Ok (x, more)) k.0);
    }

bracket_stuck : (F : Form) (R : Reader) → Steps F R → (t : Lexeme) (ts left : List Lexeme) → bracket_by R (t ∷ ts) ≡ Err left → Stuck (ClosedForm F) (λ us. bracket_by R (t ∷ us)) ts left
bracket_stuck F R s t ts left h =
    elim (failed_of (R ts) closed left h) [
      | inl a ↦ (
          let w = s.stuck ts left a in
          record {
            front = w.front;
            parts = w.parts;
            begun = λ k. (
                let b = w.begun (close_token ∷ k) in
                (b.0 ++ close_token ∷ [], b.1, (close_token ∷ k, subst (λ (us : List Lexeme). F b.1 (w.front ++ us) (close_token ∷ k)) (sym (append_assoc b.0 (close_token ∷ []) k)) b.2, (refl, refl))));
            same = λ more f. ap (λ (v : Read Expr). v >>= closed) (w.same more f);
          })
      | inr m ↦ (
          let w = s.took ts m.value m.behind m.first in
          let d = closed_fails m.value m.behind left m.second in
          record {
            front = w.front;
            parts = w.parts ∙ ap (λ (us : List Lexeme). w.front ++ us) d.1;
            begun = λ k. (close_token ∷ [], m.value, (close_token ∷ k, w.fits (close_token ∷ k), (refl, refl)));
            same = λ more f.
                let first : first_of more ≡ first_of m.behind = f ∙ ap first_of (sym d.1) in
                ap (λ (v : Read Expr). v >>= closed) (w.same more first) ∙ not_closed m.value more (ap closes (next_same m.behind more first) ∙ d.0);
          })
    ]

inner_steps : (F : Form) (R : Reader) → Steps F R → Steps (or_form F) (or_at R) → InnerSteps F (or_form F) (signed_by R) (bracket_by (or_at R))
inner_steps F R s o = record {
  signed_took = signed_took F R s;
  signed_stuck = λ sign at t ts left h. inr (signed_stuck F R s sign at t ts left h);
  bracket_took = bracket_took (or_form F) (or_at R) o;
  bracket_stuck = λ t ts left h. inr (bracket_stuck (or_form F) (or_at R) o t ts left h);
}

refused_here : (us left : List Lexeme) → (let r : Read Expr = Err us in r) ≡ Err left → left ≡ us
refused_here us left h = cc

-- no sign and no bracket is taken
none_inside : InnerSteps no_form no_form (λ s at. nothing_at) nothing_at
none_inside = record {
  signed_took = λ s at t ts e rest h. absurd cc;
  signed_stuck = λ s at t ts left h. inl (record { always = λ us. refl; here = refused_here (t ∷ ts) left h });
  bracket_took = λ t ts e rest h. absurd cc;
  bracket_stuck = λ t ts left h. inl (record { always = λ us. refl; here = refused_here (t ∷ ts) left h });
}

unary_form_steps : (n : ℕ) → Steps (unary_form n) (unary_at n)
unfolding unary_form unary_at
unary_form_steps zero = unary_steps no_form no_form nothing_at (λ s at. nothing_at) nothing_at none_steps none_inside
unary_form_steps (suc n) =
    let r = unary_form_reads n in
    let s = unary_form_steps n in
    let o = or_steps (unary_form n) (unary_at n) r s in
    unary_steps (unary_form n) (or_form (unary_form n)) (or_at (unary_at n)) (signed_by (unary_at n)) (bracket_by (or_at (unary_at n))) (call_steps (or_form (unary_form n)) go_or (or_at (unary_at n)) (or_reads (unary_form n) (unary_at n) r) o) (inner_steps (unary_form n) (unary_at n) s o)

-- ---- whole texts

abbrev whole_reader : Reader
whole_reader ts = or_at (unary_at 64) ts

whole_steps : Steps (or_form (unary_form 64)) whole_reader
whole_steps = or_steps (unary_form 64) (unary_at 64) (unary_form_reads 64) (unary_form_steps 64)

spelled_reads : (ts : List Lexeme) (e : Expr) → Spells ts e → whole_reader ts ≡ Ok (e, [])
spelled_reads ts e h = (or_reads (unary_form 64) (unary_at 64) (unary_form_reads 64)).all e ts [] h refl

grouped : (front : List Lexeme) (t : Lexeme) (more : List Lexeme) (e : Expr) → Spells ((front ++ t ∷ []) ++ more) e → whole_reader (front ++ t ∷ more) ≡ Ok (e, [])
grouped front t more e h = ap whole_reader (sym (append_assoc front (t ∷ []) more)) ∙ spelled_reads ((front ++ t ∷ []) ++ more) e h

abbrev left_tokens : Read Expr → List Lexeme
left_tokens (Ok x) = x.1
left_tokens (Err left) = []

-- a token behind an expression
stops_behind : (ts us : List Lexeme) (e : Expr) (t : Lexeme) → whole_reader ts ≡ Ok (e, t ∷ us) → StopsAt ts t.at
stops_behind ts us e t h =
    let w = whole_steps.took ts e (t ∷ us) h in
    record {
      before = w.front;
      token = t;
      behind = us;
      tokens = w.parts;
      begun = record { more = []; expr = e; spelled = w.fits [] };
      stuck = λ b. (let c : [] ≡ t ∷ b.more = ap left_tokens (sym (grouped w.front t b.more b.expr b.spelled) ∙ w.same (t ∷ b.more) refl) in absurd cc);
      place = refl;
    }

begun_by : (ts left : List Lexeme) (w : Stuck (or_form (unary_form 64)) whole_reader ts left) → Begins w.front
begun_by ts left w =
    let b = w.begun [] in
    record { more = b.0; expr = b.1; spelled = subst (λ (us : List Lexeme). Spells (w.front ++ us) b.1) (append-nil b.0) b.2 }

no_both : (x : Expr × List Lexeme) (left : List Lexeme) → (let r : Read Expr = Ok x in r) ≡ Err left → ⊥
no_both x left h = absurd cc

stops_inside : (ts us : List Lexeme) (t : Lexeme) → whole_reader ts ≡ Err (t ∷ us) → StopsAt ts t.at
stops_inside ts us t h =
    let w = whole_steps.stuck ts (t ∷ us) h in
    record {
      before = w.front;
      token = t;
      behind = us;
      tokens = w.parts;
      begun = begun_by ts (t ∷ us) w;
      stuck = λ b. no_both (b.expr, []) (t ∷ b.more) (sym (grouped w.front t b.more b.expr b.spelled) ∙ w.same (t ∷ b.more) refl);
      place = refl;
    }

place_is : (x y : ℕ) → (let r : Result Expr ℕ = Err x in r) ≡ Err y → x ≡ y
place_is x y h = cc

abbrev FirstOf : List Lexeme → Option ℕ → ℕ → ℕ → Type 0
FirstOf ts bad len at = IsFirst (record { lexemes = ts; bad = bad }) len at

breaks_inside : (ts : List Lexeme) (bad : Option ℕ) (len at : ℕ) → whole_reader ts ≡ Err [] → at ≡ end_place bad len → FirstOf ts bad len at
breaks_inside ts bad len at h p =
    let w = whole_steps.stuck ts [] h in
    inr (record {
      begun = subst Begins (sym (w.parts ∙ append-nil w.front)) (begun_by ts [] w);
      unfinished = λ g e s. no_both (e, []) [] (sym (spelled_reads ts e s) ∙ h);
      place = p;
    })

-- no token begins behind a whole expression
breaks_behind : (ts : List Lexeme) (place len at : ℕ) (e : Expr) → whole_reader ts ≡ Ok (e, []) → at ≡ place → FirstOf ts (Some place) len at
breaks_behind ts place len at e h p =
    let sound = (or_reads (unary_form 64) (unary_at 64) (unary_form_reads 64)).sound ts e [] h in
    inr (record {
      begun = record { more = []; expr = e; spelled = subst (λ (us : List Lexeme). Spells us e) (sym (append-nil ts)) sound };
      unfinished = λ g x s. absurd cc;
      place = p;
    })

first_by : (ts : List Lexeme) (bad : Option ℕ) (len at : ℕ) (v : Read Expr) → whole_reader ts ≡ v → settled bad len (v >>= λ x. nothing_left x.0 x.1) ≡ Err at → FirstOf ts bad len at
first_by ts bad len at (Ok (x, t ∷ us)) g h = inl (subst (StopsAt ts) (place_is t.at at h) (stops_behind ts us x t g))
first_by ts None len at (Ok (x, [])) g h = absurd cc
first_by ts (Some place) len at (Ok (x, [])) g h = breaks_behind ts place len at x g (sym (place_is place at h))
first_by ts bad len at (Err []) g h = breaks_inside ts bad len at g (sym (place_is (end_place bad len) at h))
first_by ts bad len at (Err (t ∷ us)) g h = inl (subst (StopsAt ts) (place_is t.at at h) (stops_inside ts us t g))

pub first_fault : (bytes : List ℕ) (at : ℕ) → expr_of bytes ≡ Err at → IsFirstFault bytes at
unfolding expr_of whole_at
first_fault bytes at h = first_by (lexed_text Inner bytes).lexemes (lexed_text Inner bytes).bad (length bytes) at (whole_reader (lexed_text Inner bytes).lexemes) refl h

pub answer_first : (bytes : List ℕ) (r : Result Expr ExprFault) → Answers r (expr_of bytes) → IfErr r (λ f. Refuses f bytes)
answer_first bytes (Ok e) a = tt
answer_first bytes (Err (fault.Syntax at)) a = first_fault bytes at a
answer_first bytes (Err fault.Memory) a = tt
