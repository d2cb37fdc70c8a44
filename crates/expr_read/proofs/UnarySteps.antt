-- What the readers of unary expressions take, and where they don't go on.
use Rattle.std.proofs.Common.{◌≡◌, ℕ, List, [], ◌∷◌, ◌++◌, Bool, true, false, Some, None, Ok, Err, refl, sym, ap, subst, ◌∙◌, inl, inr}
use Rattle.std.specs.Prelude.{◌⊎◌, if◌then◌else◌}
use Rattle.ds_lex.specs.declared.token.Sort.TheVariants as sort
use Rattle.ds_lex.specs.Lexemes.{Lexeme}
use Rattle.ds_lex.specs.Reading.{◌>>=◌, first_of}
use Rattle.ds_lex.specs.Phrases.{◌~◌}
use Rattle.expr_read.specs.declared.tree.Infix.TheVariants as sign
use Rattle.expr_read.specs.declared.tree.Prefix.{Prefix}
use Rattle.expr_read.specs.declared.tree.Prefix.TheVariants as before
use Rattle.expr_read.specs.declared.tree.Expr.{Expr}
use Rattle.expr_read.specs.declared.tree.Expr.TheVariants as made
use Rattle.expr_read.specs.declared.what.What.{What}
use Rattle.expr_read.specs.declared.what.What.TheVariants as what
use Rattle.expr_read.specs.Marks.{what_of, prefix_of}
use Rattle.expr_read.specs.Reading.{Read, Reader, behind, next_what, opens, call_from, named_from, content, begun, unary_from}
use Rattle.expr_read.specs.Grammar.{Form, mark, call_form, column_form, unary_by}
use Rattle.expr_read.proofs.Chains.{parts, made_of}
use Rattle.expr_read.proofs.Units.{is_open}
use Rattle.expr_read.proofs.Steps.{Took, Stuck, Steps, failed_of}
use Rattle.expr_read.proofs.CallSteps.{next_same, split, CallSteps}

-- ---- columns and calls

abbrev NamedForm : Form → Lexeme → Form
NamedForm F t e us vs = call_form F e (t ∷ us) vs ⊎ column_form e (t ∷ us) vs

abbrev named_as : Lexeme → List Expr × List Lexeme → Read Expr
named_as t x = Ok (made.Call t.at t.bytes x.0, x.1)

call_opens : (R : Reader) (t u : Lexeme) (us : List Lexeme) → what_of u ≡ what.Open → named_from R t (u ∷ us) ≡ (call_from R us >>= named_as t)
unfolding named_from
call_opens R t u us h = rw h refl

named_column : (R : Reader) (t : Lexeme) (ts : List Lexeme) → opens (next_what ts) ≡ false → named_from R t ts ≡ Ok (made.Column t.at t.bytes, ts)
unfolding named_from
named_column R t ts h = rw h refl

named_took_by : (b : Bool) (F : Form) (R : Reader) → CallSteps F R → (t : Lexeme) (ts : List Lexeme) (e : Expr) (rest : List Lexeme) → what_of t ≡ what.Word → opens (next_what ts) ≡ b
    → (if b then (call_from R (behind ts) >>= named_as t) else (let r : Read Expr = Ok (made.Column t.at t.bytes, ts) in r)) ≡ Ok (e, rest) → Took (NamedForm F t) (λ us. named_from R t us) ts e rest
named_took_by true F R s t ts e rest w g h =
    let m = made_of (call_from R (behind ts)) (named_as t) e rest h in
    let p = parts (made.Call t.at t.bytes m.value, m.left) e rest m.second in
    let o = split opens what.Open is_open refl ts g in
    let c = s.took (behind ts) m.value m.left m.first in
    record {
      front = o.token ∷ c.front;
      parts = o.parts ∙ ap (λ (us : List Lexeme). o.token ∷ us) (c.parts ∙ ap (λ (us : List Lexeme). c.front ++ us) p.second);
      fits = λ k. inl (w, m.value, sym p.first, (c.front ++ k, (o.is, refl), c.fits k));
      same = λ more f. call_opens R t o.token (c.front ++ more) o.is ∙ (ap (λ (v : Read (List Expr)). v >>= named_as t) (c.same more) ∙ ap (λ (x : Expr). Ok (x, more)) p.first);
    }
named_took_by false F R s t ts e rest w g h =
    let p = parts (made.Column t.at t.bytes, ts) e rest h in
    record {
      front = [];
      parts = p.second;
      fits = λ k. inr (w, sym p.first, refl);
      same = λ more f. named_column R t more (ap opens (next_same ts more (f ∙ ap first_of (sym p.second))) ∙ g) ∙ ap (λ (x : Expr). Ok (x, more)) p.first;
    }

named_took : (F : Form) (R : Reader) → CallSteps F R → (t : Lexeme) (ts : List Lexeme) (e : Expr) (rest : List Lexeme) → what_of t ≡ what.Word → named_from R t ts ≡ Ok (e, rest) → Took (NamedForm F t) (λ us. named_from R t us) ts e rest
unfolding named_from
named_took F R s t ts e rest w h = named_took_by (opens (next_what ts)) F R s t ts e rest w refl h

named_stuck_by : (b : Bool) (F : Form) (R : Reader) → CallSteps F R → (t : Lexeme) (ts left : List Lexeme) → what_of t ≡ what.Word → opens (next_what ts) ≡ b
    → (if b then (call_from R (behind ts) >>= named_as t) else (let r : Read Expr = Ok (made.Column t.at t.bytes, ts) in r)) ≡ Err left → Stuck (NamedForm F t) (λ us. named_from R t us) ts left
named_stuck_by true F R s t ts left w g h =
    elim (failed_of (call_from R (behind ts)) (named_as t) left h) [
      | inl a ↦ (
          let o = split opens what.Open is_open refl ts g in
          let c = s.stuck (behind ts) left a in
          record {
            front = o.token ∷ c.front;
            parts = o.parts ∙ ap (λ (us : List Lexeme). o.token ∷ us) c.parts;
            begun = λ k. (let b = c.begun k in (b.0, made.Call t.at t.bytes b.1, inl (w, b.1, refl, (c.front ++ (b.0 ++ k), (o.is, refl), b.2))));
            same = λ more f. call_opens R t o.token (c.front ++ more) o.is ∙ ap (λ (v : Read (List Expr)). v >>= named_as t) (c.same more f);
          })
      | inr m ↦ absurd (let c : named_as t (m.value, m.behind) ≡ Err left = m.second in cc)
    ]
named_stuck_by false F R s t ts left w g h = absurd cc

named_stuck : (F : Form) (R : Reader) → CallSteps F R → (t : Lexeme) (ts left : List Lexeme) → what_of t ≡ what.Word → named_from R t ts ≡ Err left → Stuck (NamedForm F t) (λ us. named_from R t us) ts left
unfolding named_from
named_stuck F R s t ts left w h = named_stuck_by (opens (next_what ts)) F R s t ts left w refl h

-- ---- unary expressions

-- the token itself isn't taken, whatever follows
pub record Refused (R : Reader) (t : Lexeme) (ts left : List Lexeme) : Type 0 where
  pub always : (us : List Lexeme) → R (t ∷ us) ≡ Err (t ∷ us)
  pub here : left ≡ t ∷ ts

abbrev pub SignedForm : Form → Prefix → ℕ → Form
SignedForm F s at e us vs = (of : Expr) × (e ≡ made.Signed at s of) × F of us vs

abbrev pub ClosedForm : Form → Form
ClosedForm F e = F e ~ mark what.Close

-- what the readers of signs and brackets take
pub record InnerSteps (Fop Fin : Form) (signed : Prefix → ℕ → Reader) (bracket : Reader) : Type 0 where
  pub signed_took : (s : Prefix) (at : ℕ) (t : Lexeme) (ts : List Lexeme) (e : Expr) (rest : List Lexeme) → signed s at (t ∷ ts) ≡ Ok (e, rest) → Took (SignedForm Fop s at) (λ us. signed s at (t ∷ us)) ts e rest
  pub signed_stuck : (s : Prefix) (at : ℕ) (t : Lexeme) (ts left : List Lexeme) → signed s at (t ∷ ts) ≡ Err left → Refused (signed s at) t ts left ⊎ Stuck (SignedForm Fop s at) (λ us. signed s at (t ∷ us)) ts left
  pub bracket_took : (t : Lexeme) (ts : List Lexeme) (e : Expr) (rest : List Lexeme) → bracket (t ∷ ts) ≡ Ok (e, rest) → Took (ClosedForm Fin) (λ us. bracket (t ∷ us)) ts e rest
  pub bracket_stuck : (t : Lexeme) (ts left : List Lexeme) → bracket (t ∷ ts) ≡ Err left → Refused bracket t ts left ⊎ Stuck (ClosedForm Fin) (λ us. bracket (t ∷ us)) ts left

-- the forms behind their first token
abbrev Behind : Form → Form → Lexeme → Form
Behind Fop Fin t e us vs = unary_by Fop Fin e (t ∷ us) vs

-- what is taken as one form is taken as another that holds of more
took_as : (F G : Form) (R : Reader) (ts : List Lexeme) (e : Expr) (rest : List Lexeme) → ((us vs : List Lexeme) → F e us vs → G e us vs) → Took F R ts e rest → Took G R ts e rest
took_as F G R ts e rest wider w = record { front = w.front; parts = w.parts; fits = λ k. wider (w.front ++ k) k (w.fits k); same = w.same }

stuck_as : (F G : Form) (R : Reader) (ts left : List Lexeme) → ((e : Expr) (us vs : List Lexeme) → F e us vs → G e us vs) → Stuck F R ts left → Stuck G R ts left
stuck_as F G R ts left wider w = record { front = w.front; parts = w.parts; begun = λ k. (let b = w.begun k in (b.0, b.1, wider b.1 (w.front ++ (b.0 ++ k)) k b.2)); same = w.same }

named_wider : (Fop Fin : Form) (t : Lexeme) (e : Expr) (us vs : List Lexeme) → NamedForm Fin t e us vs → Behind Fop Fin t e us vs
named_wider Fop Fin t e us vs (inl a) = inr (inr (inl a))
named_wider Fop Fin t e us vs (inr a) = inr (inr (inr (inr (inr a))))

signed_wider : (Fop Fin : Form) (s : Prefix) (t : Lexeme) → prefix_of (what_of t) ≡ Some s → (e : Expr) (us vs : List Lexeme) → SignedForm Fop s t.at e us vs → Behind Fop Fin t e us vs
signed_wider Fop Fin s t g e us vs h = inl (s, h.0, g, h.1, h.2)

bracket_wider : (Fop Fin : Form) (t : Lexeme) → what_of t ≡ what.Open → (e : Expr) (us vs : List Lexeme) → ClosedForm Fin e us vs → Behind Fop Fin t e us vs
bracket_wider Fop Fin t g e us vs h = inr (inl (us, (g, refl), h))

-- a token alone
alone : (G : Form) (R : Reader) (ts rest : List Lexeme) (x e : Expr) → ((us : List Lexeme) → R us ≡ Ok (x, us)) → ((us : List Lexeme) → G x us us) → R ts ≡ Ok (e, rest) → Took G R ts e rest
alone G R ts rest x e reads form h =
    let p = parts (x, ts) e rest (sym (reads ts) ∙ h) in
    record {
      front = [];
      parts = p.second;
      fits = λ k. subst (λ (y : Expr). G y k k) p.first (form k);
      same = λ more f. reads more ∙ ap (λ (y : Expr). Ok (y, more)) p.first;
    }

begun_took : (Fop Fin : Form) (R : Reader) (signed : Prefix → ℕ → Reader) (bracket : Reader) → CallSteps Fin R → InnerSteps Fop Fin signed bracket
    → (w : What) (t : Lexeme) (ts : List Lexeme) (e : Expr) (rest : List Lexeme) → what_of t ≡ w → begun signed bracket R w t ts ≡ Ok (e, rest) → Took (Behind Fop Fin t) (λ us. begun signed bracket R w t us) ts e rest
begun_took Fop Fin R sg br c i what.Number t ts e rest g h = alone (Behind Fop Fin t) (λ us. begun sg br R what.Number t us) ts rest (made.Number t.at t.bytes) e (λ us. refl) (λ us. inr (inr (inr (inl (g, refl, refl))))) h
begun_took Fop Fin R sg br c i what.Quoted t ts e rest g h = alone (Behind Fop Fin t) (λ us. begun sg br R what.Quoted t us) ts rest (made.Quoted t.at (content t.bytes)) e (λ us. refl) (λ us. inr (inr (inr (inr (inl (g, refl, refl)))))) h
begun_took Fop Fin R sg br c i what.Word t ts e rest g h = took_as (NamedForm Fin t) (Behind Fop Fin t) (λ us. named_from R t us) ts e rest (named_wider Fop Fin t e) (named_took Fin R c t ts e rest g h)
begun_took Fop Fin R sg br c i what.Open t ts e rest g h = took_as (ClosedForm Fin) (Behind Fop Fin t) (λ us. br (t ∷ us)) ts e rest (bracket_wider Fop Fin t g e) (i.bracket_took t ts e rest h)
begun_took Fop Fin R sg br c i what.Not t ts e rest g h = took_as (SignedForm Fop before.Not t.at) (Behind Fop Fin t) (λ us. sg before.Not t.at (t ∷ us)) ts e rest (signed_wider Fop Fin before.Not t (ap prefix_of g) e) (i.signed_took before.Not t.at t ts e rest h)
begun_took Fop Fin R sg br c i (what.Sign sign.Minus) t ts e rest g h = took_as (SignedForm Fop before.Minus t.at) (Behind Fop Fin t) (λ us. sg before.Minus t.at (t ∷ us)) ts e rest (signed_wider Fop Fin before.Minus t (ap prefix_of g) e) (i.signed_took before.Minus t.at t ts e rest h)
begun_took Fop Fin R sg br c i w t ts e rest g h = absurd cc

-- where what begins with a token stops: at it, or behind it
abbrev Halts : Form → Form → Reader → (Prefix → ℕ → Reader) → Reader → What → Lexeme → List Lexeme → List Lexeme → Type 0
Halts Fop Fin R sg br w t ts left = (((us : List Lexeme) → begun sg br R w t us ≡ Err (t ∷ us)) × (left ≡ t ∷ ts)) ⊎ Stuck (Behind Fop Fin t) (λ us. begun sg br R w t us) ts left

err_here : (us left : List Lexeme) → (let r : Read Expr = Err us in r) ≡ Err left → left ≡ us
err_here us left h = cc

sign_halts : (Fop Fin : Form) (R : Reader) (sg : Prefix → ℕ → Reader) (br : Reader) → InnerSteps Fop Fin sg br → (w : What) (s : Prefix) (t : Lexeme) (ts left : List Lexeme) → prefix_of (what_of t) ≡ Some s → ((us : List Lexeme) → begun sg br R w t us ≡ sg s t.at (t ∷ us)) → begun sg br R w t ts ≡ Err left → Halts Fop Fin R sg br w t ts left
sign_halts Fop Fin R sg br i w s t ts left g same h =
    elim (i.signed_stuck s t.at t ts left (sym (same ts) ∙ h)) [
      | inl a ↦ inl ((λ us. same us ∙ a.always us), a.here)
      | inr a ↦ (
          let b = stuck_as (SignedForm Fop s t.at) (Behind Fop Fin t) (λ us. sg s t.at (t ∷ us)) ts left (signed_wider Fop Fin s t g) a in
          inr (record { front = b.front; parts = b.parts; begun = b.begun; same = λ more f. same (b.front ++ more) ∙ b.same more f }))
    ]

begun_halts : (Fop Fin : Form) (R : Reader) (sg : Prefix → ℕ → Reader) (br : Reader) → CallSteps Fin R → InnerSteps Fop Fin sg br → (w : What) (t : Lexeme) (ts left : List Lexeme) → what_of t ≡ w → begun sg br R w t ts ≡ Err left → Halts Fop Fin R sg br w t ts left
begun_halts Fop Fin R sg br c i what.Number t ts left g h = absurd cc
begun_halts Fop Fin R sg br c i what.Quoted t ts left g h = absurd cc
begun_halts Fop Fin R sg br c i what.Word t ts left g h = inr (stuck_as (NamedForm Fin t) (Behind Fop Fin t) (λ us. named_from R t us) ts left (named_wider Fop Fin t) (named_stuck Fin R c t ts left g h))
begun_halts Fop Fin R sg br c i what.Open t ts left g h =
    elim (i.bracket_stuck t ts left h) [
      | inl a ↦ inl (a.always, a.here)
      | inr a ↦ inr (stuck_as (ClosedForm Fin) (Behind Fop Fin t) (λ us. br (t ∷ us)) ts left (bracket_wider Fop Fin t g) a)
    ]
begun_halts Fop Fin R sg br c i what.Not t ts left g h = sign_halts Fop Fin R sg br i what.Not before.Not t ts left (ap prefix_of g) (λ us. refl) h
begun_halts Fop Fin R sg br c i (what.Sign sign.Minus) t ts left g h = sign_halts Fop Fin R sg br i (what.Sign sign.Minus) before.Minus t ts left (ap prefix_of g) (λ us. refl) h
begun_halts Fop Fin R sg br c i w t ts left g h = inl ((λ us. refl), err_here (t ∷ ts) left h)

unary_took : (Fop Fin : Form) (R : Reader) (sg : Prefix → ℕ → Reader) (br : Reader) → CallSteps Fin R → InnerSteps Fop Fin sg br → (ts : List Lexeme) (e : Expr) (rest : List Lexeme) → unary_from sg br R ts ≡ Ok (e, rest) → Took (unary_by Fop Fin) (unary_from sg br R) ts e rest
unary_took Fop Fin R sg br c i [] e rest h = absurd cc
unary_took Fop Fin R sg br c i (t ∷ ts) e rest h =
    let w = begun_took Fop Fin R sg br c i (what_of t) t ts e rest refl h in
    record { front = t ∷ w.front; parts = ap (λ (us : List Lexeme). t ∷ us) w.parts; fits = w.fits; same = w.same }

abbrev number_token : Lexeme
number_token = record { at = 0; sort = sort.Number; bytes = [] }

-- a number stands for any unary expression
some_unary : (Fop Fin : Form) (k : List Lexeme) → (end : List Lexeme) × (e : Expr) × unary_by Fop Fin e (end ++ k) k
some_unary Fop Fin k = (number_token ∷ [], made.Number 0 [], inr (inr (inr (inl (refl, refl, refl)))))

at_token : (R : Reader) (t : Lexeme) (more : List Lexeme) → ((us : List Lexeme) → R (t ∷ us) ≡ Err (t ∷ us)) → first_of more ≡ Some t → R more ≡ Err more
at_token R t [] h f = absurd cc
at_token R t (u ∷ us) h f = let same : t ≡ u = cc in subst (λ (v : Lexeme). R (v ∷ us) ≡ Err (v ∷ us)) same (h us)

stuck_at : (Fop Fin : Form) (R : Reader) (sg : Prefix → ℕ → Reader) (br : Reader) (t : Lexeme) (ts left : List Lexeme) → left ≡ t ∷ ts → ((us : List Lexeme) → unary_from sg br R (t ∷ us) ≡ Err (t ∷ us)) → Stuck (unary_by Fop Fin) (unary_from sg br R) (t ∷ ts) left
stuck_at Fop Fin R sg br t ts left e h =
    let known : Stuck (unary_by Fop Fin) (unary_from sg br R) (t ∷ ts) (t ∷ ts) = record {
      front = [];
      parts = refl;
      begun = λ k. some_unary Fop Fin k;
      same = λ more f. at_token (unary_from sg br R) t more h f;
    } in
    subst (λ (us : List Lexeme). Stuck (unary_by Fop Fin) (unary_from sg br R) (t ∷ ts) us) (sym e) known

empty_left : (left : List Lexeme) → (let r : Read Expr = Err [] in r) ≡ Err left → [] ≡ left
empty_left left h = cc

no_more : (R : Reader) → R [] ≡ Err [] → (more : List Lexeme) → first_of more ≡ None → R more ≡ Err more
no_more R h [] f = h
no_more R h (t ∷ ts) f = absurd cc

unary_stuck : (Fop Fin : Form) (R : Reader) (sg : Prefix → ℕ → Reader) (br : Reader) → CallSteps Fin R → InnerSteps Fop Fin sg br → (ts left : List Lexeme) → unary_from sg br R ts ≡ Err left → Stuck (unary_by Fop Fin) (unary_from sg br R) ts left
unary_stuck Fop Fin R sg br c i [] left h =
    let known : Stuck (unary_by Fop Fin) (unary_from sg br R) [] [] = record {
      front = [];
      parts = refl;
      begun = λ k. some_unary Fop Fin k;
      same = λ more f. no_more (unary_from sg br R) refl more f;
    } in
    subst (λ (us : List Lexeme). Stuck (unary_by Fop Fin) (unary_from sg br R) [] us) (empty_left left h) known
unary_stuck Fop Fin R sg br c i (t ∷ ts) left h =
    elim (begun_halts Fop Fin R sg br c i (what_of t) t ts left refl h) [
      | inl a ↦ stuck_at Fop Fin R sg br t ts left a.1 a.0
      | inr w ↦ (record { front = t ∷ w.front; parts = ap (λ (us : List Lexeme). t ∷ us) w.parts; begun = w.begun; same = w.same })
    ]

pub unary_steps : (Fop Fin : Form) (R : Reader) (sg : Prefix → ℕ → Reader) (br : Reader) → CallSteps Fin R → InnerSteps Fop Fin sg br → Steps (unary_by Fop Fin) (unary_from sg br R)
unary_steps Fop Fin R sg br c i = record {
  took = unary_took Fop Fin R sg br c i;
  stuck = unary_stuck Fop Fin R sg br c i;
  some = some_unary Fop Fin;
  empty = refl;
}
