-- Readers of what stands inside give those of a unary expression.
use Rattle.std.proofs.Common.{◌≡◌, ◌≤◌, ◌<◌, ◌+◌, ℕ, zero, suc, List, [], ◌∷◌, ◌++◌, Bool, true, false, Some, Ok, Err, length, refl, sym, ap, subst, ◌∙◌, arith, append_assoc, inl, inr}
use Rattle.std.specs.Prelude.{if◌then◌else◌, ◌⊎◌}
use Rattle.ds_lex.specs.Lexemes.{Lexeme}
use Rattle.ds_lex.specs.Reading.{◌>>=◌}
use Rattle.ds_lex.specs.Phrases.{◌~◌}
use Rattle.expr_read.specs.declared.tree.Infix.TheVariants as sign
use Rattle.expr_read.specs.declared.tree.Prefix.{Prefix}
use Rattle.expr_read.specs.declared.tree.Prefix.TheVariants as before
use Rattle.expr_read.specs.declared.tree.Expr.{Expr}
use Rattle.expr_read.specs.declared.tree.Expr.TheVariants as made
use Rattle.expr_read.specs.declared.what.What.{What}
use Rattle.expr_read.specs.declared.what.What.TheVariants as what
use Rattle.expr_read.specs.Marks.{what_of, prefix_of}
use Rattle.expr_read.specs.Reading.{Read, Reader, behind, next_what, closes, opens, is_comma, closed, comma_at, after_arg, args_at, call_from, named_from, content, begun, unary_from}
use Rattle.expr_read.specs.Grammar.{Form, mark, further_args, args_phrase, call_form, column_form, unary_by}
use Rattle.expr_read.proofs.Chains.{goes, Reads, parts, made_of}

-- ---- brackets and commas

pub is_close : (w : What) → closes w ≡ true → w ≡ what.Close
is_close what.Close h = refl
is_close w h = absurd cc

pub is_open : (w : What) → opens w ≡ true → w ≡ what.Open
is_open what.Open h = refl
is_open w h = absurd cc

pub is_a_comma : (w : What) → is_comma w ≡ true → w ≡ what.Comma
is_a_comma what.Comma h = refl
is_a_comma w h = absurd cc

pub mark_at : (is : What → Bool) (w : What) → ((v : What) → is v ≡ true → v ≡ w) → is what.Other ≡ false → (ts : List Lexeme) → is (next_what ts) ≡ true → mark w ts (behind ts)
mark_at is w known other [] h = absurd cc
mark_at is w known other (t ∷ ts) h = (known (what_of t) h, refl)

pub mark_next : (w : What) (ts rest : List Lexeme) → mark w ts rest → (next_what ts ≡ w) × (behind ts ≡ rest)
mark_next w [] rest h = absurd h
mark_next w (t ∷ ts) rest h = h

pub mark_fewer : (w : What) (ts rest : List Lexeme) → mark w ts rest → length ts ≡ length rest + 1
mark_fewer w [] rest h = absurd h
mark_fewer w (t ∷ ts) rest h = omega (arith, ap length h.1)

-- a closing bracket behind something
closed_by : {A : Type 0} (b : Bool) (x y : A) (ts rest : List Lexeme) → closes (next_what ts) ≡ b → ((if b then Ok (tt, behind ts) else (let r : Read (Unit {0}) = Err ts in r)) >>= λ u. (let r : Read A = Ok (x, u.1) in r)) ≡ Ok (y, rest) → (x ≡ y) × mark what.Close ts rest
closed_by true x y ts rest g e = let p = parts (x, behind ts) y rest e in (p.first, subst (λ (us : List Lexeme). mark what.Close ts us) p.second (mark_at closes what.Close is_close refl ts g))
closed_by false x y ts rest g e = absurd cc

pub closed_is : {A : Type 0} (x y : A) (ts rest : List Lexeme) → closed (x, ts) ≡ Ok (y, rest) → (x ≡ y) × mark what.Close ts rest
closed_is x y ts rest e = closed_by (closes (next_what ts)) x y ts rest refl e

pub closed_reads : {A : Type 0} (x : A) (ts rest : List Lexeme) → mark what.Close ts rest → closed (x, ts) ≡ Ok (x, rest)
closed_reads x [] rest h = absurd h
closed_reads x (t ∷ ts) rest h = rw h.0 (ap (λ (us : List Lexeme). Ok (x, us)) h.1)

-- ---- arguments

pub record ArgsRead (F : Form) (found all : List Expr) (ts rest : List Lexeme) : Type 0 where
  pub first : Expr
  pub more : List Expr
  pub whole : all ≡ found ++ first ∷ more
  pub left : List Lexeme
  pub form : args_phrase F (first ∷ more) ts left
  pub close : mark what.Close left rest

args_by : (b : Bool) (F : Form) (R : Reader) (n : ℕ) (found all : List Expr) (x : Expr) (ts us rest : List Lexeme) → is_comma (next_what us) ≡ b → F x ts us
    → after_arg (found ++ x ∷ []) (if b then (true, behind us) else (false, us)) (λ vs. args_at n R (found ++ x ∷ []) vs) ≡ Ok (all, rest)
    → ((found' : List Expr) (vs : List Lexeme) → args_at n R found' vs ≡ Ok (all, rest) → ArgsRead F found' all vs rest) → ArgsRead F found all ts rest
args_by true F R n found all x ts us rest g h e again =
    let r = again (found ++ x ∷ []) (behind us) e in
    record {
      first = x;
      more = r.first ∷ r.more;
      whole = r.whole ∙ append_assoc found (x ∷ []) (r.first ∷ r.more);
      left = r.left;
      form = (us, h, (behind us, mark_at is_comma what.Comma is_a_comma refl us g, r.form));
      close = r.close;
    }
args_by false F R n found all x ts us rest g h e again =
    let c = closed_is (found ++ x ∷ []) all us rest e in
    record { first = x; more = []; whole = sym c.0; left = us; form = (us, h, refl); close = c.1 }

args_sound : (F : Form) (go : Lexeme → Bool) (R : Reader) → Reads F go R → (n : ℕ) (found all : List Expr) (ts rest : List Lexeme) → args_at n R found ts ≡ Ok (all, rest) → ArgsRead F found all ts rest
unfolding args_at
args_sound F go R r zero found all ts rest e = absurd cc
args_sound F go R r (suc n) found all ts rest e =
    let m = made_of (R ts) (λ x. after_arg (found ++ x.0 ∷ []) (comma_at x.1) (λ us. args_at n R (found ++ x.0 ∷ []) us)) all rest e in
    args_by (is_comma (next_what m.left)) F R n found all m.value ts m.left rest refl (r.sound ts m.value m.left m.first) m.second (λ found' vs e'. args_sound F go R r n found' all vs rest e')

-- what may follow an argument isn't what it goes on with
pub record Ends (go : Lexeme → Bool) : Type 0 where
  pub close : (t : Lexeme) → what_of t ≡ what.Close → go t ≡ false
  pub comma : (t : Lexeme) → what_of t ≡ what.Comma → go t ≡ false

pub close_stops : (go : Lexeme → Bool) → Ends go → (ts rest : List Lexeme) → mark what.Close ts rest → goes go ts ≡ false
close_stops go s [] rest h = absurd h
close_stops go s (t ∷ ts) rest h = s.close t h.0

further_stops : (F : Form) (go : Lexeme → Bool) → Ends go → (more : List Expr) (ts left rest : List Lexeme) → further_args F more ts left → mark what.Close left rest → goes go ts ≡ false
further_stops F go s [] ts left rest h c = ap (goes go) h ∙ close_stops go s left rest c
further_stops F go s (x ∷ xs) [] left rest h c = absurd h.1
further_stops F go s (x ∷ xs) (t ∷ ts) left rest h c = s.comma t h.1.0

not_comma : (ts rest : List Lexeme) → mark what.Close ts rest → is_comma (next_what ts) ≡ false
not_comma ts rest h = ap is_comma (mark_next what.Close ts rest h).0

args_all : (F : Form) (go : Lexeme → Bool) (R : Reader) → Reads F go R → Ends go → (n : ℕ) (found more : List Expr) (first : Expr) (ts left rest : List Lexeme) → length more < n → args_phrase F (first ∷ more) ts left → mark what.Close left rest → args_at n R found ts ≡ Ok (found ++ first ∷ more, rest)
unfolding args_at
args_all F go R r s zero found more first ts left rest n h c = absurd (omega arith)
args_all F go R r s (suc n) found [] first ts left rest k h c =
    let read : R ts ≡ Ok (first, h.0) = r.all first ts h.0 h.1 (further_stops F go s [] h.0 left rest h.2 c) in
    let d : mark what.Close h.0 rest = subst (λ (us : List Lexeme). mark what.Close us rest) (sym h.2) c in
    rw (read, not_comma h.0 rest d) (closed_reads (found ++ first ∷ []) h.0 rest d)
args_all F go R r s (suc n) found (x ∷ xs) first ts left rest k h c =
    let f = h.2 in
    let read : R ts ≡ Ok (first, h.0) = r.all first ts h.0 h.1 (further_stops F go s (x ∷ xs) h.0 left rest h.2 c) in
    let comma = mark_next what.Comma h.0 f.0 f.1 in
    let more = args_all F go R r s n (found ++ first ∷ []) xs x f.0 left rest (omega arith) f.2 c in
    rw (read, ap is_comma comma.0, comma.1) (more ∙ ap (λ (es : List Expr). Ok (es, rest)) (append_assoc found (first ∷ []) (x ∷ xs)))

further_fewer : (F : Form) → ((e : Expr) (ts rest : List Lexeme) → F e ts rest → length rest < length ts) → (more : List Expr) (ts rest : List Lexeme) → further_args F more ts rest → length more + length rest ≤ length ts
further_fewer F takes [] ts rest h = omega (arith, ap length h)
further_fewer F takes (x ∷ xs) ts rest h =
    let k = mark_fewer what.Comma ts h.0 h.1 in
    let m = takes x h.0 h.2.0 h.2.1 in
    let n = further_fewer F takes xs h.2.0 rest h.2.2 in
    omega (arith, k, m, n)

-- ---- calls

-- what a call reads behind its bracket
pub record CallRead (F : Form) (args : List Expr) (ts rest : List Lexeme) : Type 0 where
  pub left : List Lexeme
  pub form : args_phrase F args ts left
  pub close : mark what.Close left rest

call_by : (b : Bool) (F : Form) (go : Lexeme → Bool) (R : Reader) → Reads F go R → (args : List Expr) (ts rest : List Lexeme) → closes (next_what ts) ≡ b → (if b then Ok ([], behind ts) else args_at (length ts) R [] ts) ≡ Ok (args, rest) → CallRead F args ts rest
call_by true F go R r args ts rest g e =
    let p = parts ([], behind ts) args rest e in
    let known : CallRead F [] ts rest = record { left = ts; form = refl; close = subst (λ (us : List Lexeme). mark what.Close ts us) p.second (mark_at closes what.Close is_close refl ts g) } in
    subst (λ (es : List Expr). CallRead F es ts rest) p.first known
call_by false F go R r args ts rest g e =
    let a = args_sound F go R r (length ts) [] args ts rest e in
    let known : CallRead F (a.first ∷ a.more) ts rest = record { left = a.left; form = a.form; close = a.close } in
    subst (λ (es : List Expr). CallRead F es ts rest) (sym a.whole) known

call_sound : (F : Form) (go : Lexeme → Bool) (R : Reader) → Reads F go R → (args : List Expr) (ts rest : List Lexeme) → call_from R ts ≡ Ok (args, rest) → CallRead F args ts rest
unfolding call_from
call_sound F go R r args ts rest e = call_by (closes (next_what ts)) F go R r args ts rest refl e

call_all : (F : Form) (go : Lexeme → Bool) (R : Reader) → Reads F go R → Ends go → (args : List Expr) (ts left rest : List Lexeme) → args_phrase F args ts left → mark what.Close left rest → call_from R ts ≡ Ok (args, rest)
unfolding call_from
call_all F go R r s [] ts left rest h c =
    let d : mark what.Close ts rest = subst (λ (us : List Lexeme). mark what.Close us rest) (sym h) c in
    let m = mark_next what.Close ts rest d in
    rw (m.0, m.1) refl
call_all F go R r s (first ∷ more) ts left rest h c =
    let one = r.takes first ts h.0 h.1 in
    let few = further_fewer F r.takes more h.0 left h.2 in
    let end = mark_fewer what.Close left rest c in
    rw (r.begins first ts h.0 h.1) (args_all F go R r s (length ts) [] more first ts left rest (omega (arith, one, few, end)) h c)

-- ---- columns and calls

abbrev pub opens_token : Lexeme → Bool
opens_token t = opens (what_of t)

not_open : (ts : List Lexeme) → goes opens_token ts ≡ false → opens (next_what ts) ≡ false
not_open [] h = refl
not_open (t ∷ ts) h = h

abbrev call_made : Lexeme → List Expr × List Lexeme → Read Expr
call_made t x = Ok (made.Call t.at t.bytes x.0, x.1)

abbrev column_made : Lexeme → List Lexeme → Read Expr
column_made t ts = Ok (made.Column t.at t.bytes, ts)

named_by : (b : Bool) (F : Form) (go : Lexeme → Bool) (R : Reader) → Reads F go R → (t : Lexeme) (ts : List Lexeme) (e : Expr) (rest : List Lexeme) → what_of t ≡ what.Word → opens (next_what ts) ≡ b
    → (if b then (call_from R (behind ts) >>= call_made t) else column_made t ts) ≡ Ok (e, rest) → call_form F e (t ∷ ts) rest ⊎ column_form e (t ∷ ts) rest
named_by true F go R r t ts e rest w g h =
    let m = made_of (call_from R (behind ts)) (call_made t) e rest h in
    let p = parts (made.Call t.at t.bytes m.value, m.left) e rest m.second in
    let c = call_sound F go R r m.value (behind ts) m.left m.first in
    inl (w, m.value, sym p.first, (behind ts, mark_at opens what.Open is_open refl ts g, (c.left, c.form, subst (λ (us : List Lexeme). mark what.Close c.left us) p.second c.close)))
named_by false F go R r t ts e rest w g h = let p = parts (made.Column t.at t.bytes, ts) e rest h in inr (w, sym p.first, p.second)

named_sound : (F : Form) (go : Lexeme → Bool) (R : Reader) → Reads F go R → (t : Lexeme) (ts : List Lexeme) (e : Expr) (rest : List Lexeme) → what_of t ≡ what.Word → named_from R t ts ≡ Ok (e, rest) → call_form F e (t ∷ ts) rest ⊎ column_form e (t ∷ ts) rest
unfolding named_from
named_sound F go R r t ts e rest w h = named_by (opens (next_what ts)) F go R r t ts e rest w refl h

column_all : (R : Reader) (t : Lexeme) (ts rest : List Lexeme) → ts ≡ rest → goes opens_token rest ≡ false → named_from R t ts ≡ Ok (made.Column t.at t.bytes, rest)
unfolding named_from
column_all R t ts rest h g = rw (not_open ts (ap (goes opens_token) h ∙ g)) (ap (λ (us : List Lexeme). Ok (made.Column t.at t.bytes, us)) h)

calls_all : (F : Form) (go : Lexeme → Bool) (R : Reader) → Reads F go R → Ends go → (t : Lexeme) (args : List Expr) (ts rest : List Lexeme) → (mark what.Open ~ args_phrase F args ~ mark what.Close) ts rest → named_from R t ts ≡ Ok (made.Call t.at t.bytes args, rest)
unfolding named_from
calls_all F go R r s t args ts rest h =
    let m = mark_next what.Open ts h.0 h.1 in
    let f = h.2 in
    rw (m.0, m.1, call_all F go R r s args h.0 f.0 rest f.1 f.2) refl

args_fewer : (F : Form) → ((e : Expr) (ts rest : List Lexeme) → F e ts rest → length rest < length ts) → (args : List Expr) (ts rest : List Lexeme) → args_phrase F args ts rest → length rest ≤ length ts
args_fewer F takes [] ts rest h = omega (arith, ap length h)
args_fewer F takes (x ∷ xs) ts rest h = let k = takes x ts h.0 h.1 in let m = further_fewer F takes xs h.0 rest h.2 in omega (arith, k, m)

-- ---- unary expressions

-- what the readers of signs and brackets do
pub record InnerReads (Fop Fin : Form) (signed : Prefix → ℕ → Reader) (bracket : Reader) : Type 0 where
  pub signed_sound : (s : Prefix) (at : ℕ) (t : Lexeme) (ts : List Lexeme) (e : Expr) (rest : List Lexeme) → signed s at (t ∷ ts) ≡ Ok (e, rest) → (of : Expr) × (e ≡ made.Signed at s of) × Fop of ts rest
  pub signed_all : (s : Prefix) (at : ℕ) (t : Lexeme) (of : Expr) (ts rest : List Lexeme) → Fop of ts rest → goes opens_token rest ≡ false → signed s at (t ∷ ts) ≡ Ok (made.Signed at s of, rest)
  pub bracket_sound : (t : Lexeme) (ts : List Lexeme) (e : Expr) (rest : List Lexeme) → bracket (t ∷ ts) ≡ Ok (e, rest) → (Fin e ~ mark what.Close) ts rest
  pub bracket_all : (t : Lexeme) (e : Expr) (ts rest : List Lexeme) → (Fin e ~ mark what.Close) ts rest → bracket (t ∷ ts) ≡ Ok (e, rest)

begun_sound : (Fop Fin : Form) (go : Lexeme → Bool) (R : Reader) (signed : Prefix → ℕ → Reader) (bracket : Reader) → Reads Fin go R → InnerReads Fop Fin signed bracket
    → (w : What) (t : Lexeme) (ts : List Lexeme) (e : Expr) (rest : List Lexeme) → what_of t ≡ w → begun signed bracket R w t ts ≡ Ok (e, rest) → unary_by Fop Fin e (t ∷ ts) rest
begun_sound Fop Fin go R sg br r i what.Number t ts e rest g h = let p = parts (made.Number t.at t.bytes, ts) e rest h in inr (inr (inr (inl (g, sym p.first, p.second))))
begun_sound Fop Fin go R sg br r i what.Quoted t ts e rest g h = let p = parts (made.Quoted t.at (content t.bytes), ts) e rest h in inr (inr (inr (inr (inl (g, sym p.first, p.second)))))
begun_sound Fop Fin go R sg br r i what.Word t ts e rest g h = elim (named_sound Fin go R r t ts e rest g h) [ inl a ↦ inr (inr (inl a)) | inr a ↦ inr (inr (inr (inr (inr a)))) ]
begun_sound Fop Fin go R sg br r i what.Open t ts e rest g h = let b = i.bracket_sound t ts e rest h in inr (inl (ts, (g, refl), b))
begun_sound Fop Fin go R sg br r i what.Not t ts e rest g h = let b = i.signed_sound before.Not t.at t ts e rest h in inl (before.Not, b.0, ap prefix_of g, b.1, b.2)
begun_sound Fop Fin go R sg br r i (what.Sign sign.Minus) t ts e rest g h = let b = i.signed_sound before.Minus t.at t ts e rest h in inl (before.Minus, b.0, ap prefix_of g, b.1, b.2)
begun_sound Fop Fin go R sg br r i w t ts e rest g h = absurd cc

-- which sign a token is
sign_is : (w : What) (s : Prefix) → prefix_of w ≡ Some s → ((w ≡ what.Not) × (s ≡ before.Not)) ⊎ ((w ≡ what.Sign sign.Minus) × (s ≡ before.Minus))
sign_is what.Not before.Not h = inl (refl, refl)
sign_is what.Not before.Minus h = absurd cc
sign_is (what.Sign sign.Minus) before.Minus h = inr (refl, refl)
sign_is (what.Sign sign.Minus) before.Not h = absurd cc
sign_is w s h = absurd cc

begun_sign : (Fop Fin : Form) (R : Reader) (signed : Prefix → ℕ → Reader) (bracket : Reader) → InnerReads Fop Fin signed bracket → (w : What) (s : Prefix) (t : Lexeme) (of : Expr) (ts rest : List Lexeme) → prefix_of w ≡ Some s → Fop of ts rest → goes opens_token rest ≡ false
    → begun signed bracket R w t ts ≡ Ok (made.Signed t.at s of, rest)
begun_sign Fop Fin R sg br i w s t of ts rest g h k =
    elim (sign_is w s g) [
      | inl a ↦ rw (a.0, a.1) (i.signed_all before.Not t.at t of ts rest h k)
      | inr a ↦ rw (a.0, a.1) (i.signed_all before.Minus t.at t of ts rest h k)
    ]

not_close_sign : (w : What) (s : Prefix) → prefix_of w ≡ Some s → closes w ≡ false
not_close_sign w s g = elim (sign_is w s g) [ inl a ↦ ap closes a.0 | inr a ↦ ap closes a.0 ]

unary_sound : (Fop Fin : Form) (go : Lexeme → Bool) (R : Reader) (signed : Prefix → ℕ → Reader) (bracket : Reader) → Reads Fin go R → InnerReads Fop Fin signed bracket → (ts : List Lexeme) (e : Expr) (rest : List Lexeme) → unary_from signed bracket R ts ≡ Ok (e, rest) → unary_by Fop Fin e ts rest
unary_sound Fop Fin go R sg br r i [] e rest h = absurd cc
unary_sound Fop Fin go R sg br r i (t ∷ ts) e rest h = begun_sound Fop Fin go R sg br r i (what_of t) t ts e rest refl h

unary_all : (Fop Fin : Form) (go : Lexeme → Bool) (R : Reader) (signed : Prefix → ℕ → Reader) (bracket : Reader) → Reads Fin go R → Ends go → InnerReads Fop Fin signed bracket → (e : Expr) (ts rest : List Lexeme) → unary_by Fop Fin e ts rest → goes opens_token rest ≡ false → unary_from signed bracket R ts ≡ Ok (e, rest)
unary_all Fop Fin go R sg br r s i e [] rest (inl h) g = absurd h
unary_all Fop Fin go R sg br r s i e [] rest (inr (inl h)) g = absurd h.1
unary_all Fop Fin go R sg br r s i e [] rest (inr (inr (inl h))) g = absurd h
unary_all Fop Fin go R sg br r s i e [] rest (inr (inr (inr (inl h)))) g = absurd h
unary_all Fop Fin go R sg br r s i e [] rest (inr (inr (inr (inr (inl h))))) g = absurd h
unary_all Fop Fin go R sg br r s i e [] rest (inr (inr (inr (inr (inr h))))) g = absurd h
unary_all Fop Fin go R sg br r s i e (t ∷ ts) rest (inl h) g = begun_sign Fop Fin R sg br i (what_of t) h.0 t h.1 ts rest h.2 h.4 g ∙ ap (λ (x : Expr). Ok (x, rest)) (sym h.3)
unary_all Fop Fin go R sg br r s i e (t ∷ ts) rest (inr (inl h)) g =
    rw h.1.0 (i.bracket_all t e ts rest (subst (λ (us : List Lexeme). (Fin e ~ mark what.Close) us rest) (sym h.1.1) h.2))
unary_all Fop Fin go R sg br r s i e (t ∷ ts) rest (inr (inr (inl h))) g = rw h.0 (calls_all Fin go R r s t h.1 ts rest h.3 ∙ ap (λ (x : Expr). Ok (x, rest)) (sym h.2))
unary_all Fop Fin go R sg br r s i e (t ∷ ts) rest (inr (inr (inr (inl h)))) g = rw h.0 (ap (λ (us : List Lexeme). Ok (made.Number t.at t.bytes, us)) h.2 ∙ ap (λ (x : Expr). Ok (x, rest)) (sym h.1))
unary_all Fop Fin go R sg br r s i e (t ∷ ts) rest (inr (inr (inr (inr (inl h))))) g = rw h.0 (ap (λ (us : List Lexeme). Ok (made.Quoted t.at (content t.bytes), us)) h.2 ∙ ap (λ (x : Expr). Ok (x, rest)) (sym h.1))
unary_all Fop Fin go R sg br r s i e (t ∷ ts) rest (inr (inr (inr (inr (inr h))))) g = rw h.0 (column_all R t ts rest h.2 g ∙ ap (λ (x : Expr). Ok (x, rest)) (sym h.1))

unary_takes : (Fop Fin : Form) (go : Lexeme → Bool) (R : Reader) → Reads Fin go R → ((e : Expr) (ts rest : List Lexeme) → Fop e ts rest → length rest < length ts) → (e : Expr) (ts rest : List Lexeme) → unary_by Fop Fin e ts rest → length rest < length ts
unary_takes Fop Fin go R r takes e [] rest (inl h) = absurd h
unary_takes Fop Fin go R r takes e [] rest (inr (inl h)) = absurd h.1
unary_takes Fop Fin go R r takes e [] rest (inr (inr (inl h))) = absurd h
unary_takes Fop Fin go R r takes e [] rest (inr (inr (inr (inl h)))) = absurd h
unary_takes Fop Fin go R r takes e [] rest (inr (inr (inr (inr (inl h))))) = absurd h
unary_takes Fop Fin go R r takes e [] rest (inr (inr (inr (inr (inr h))))) = absurd h
unary_takes Fop Fin go R r takes e (t ∷ ts) rest (inl h) = let k = takes h.1 ts rest h.4 in omega (arith, k)
unary_takes Fop Fin go R r takes e (t ∷ ts) rest (inr (inl h)) =
    let f = h.2 in
    let k = r.takes e h.0 f.0 f.1 in
    let m = mark_fewer what.Close f.0 rest f.2 in
    omega (arith, k, m, ap length h.1.1)
unary_takes Fop Fin go R r takes e (t ∷ ts) rest (inr (inr (inl h))) =
    let f = h.3 in
    let a = f.2 in
    let k = mark_fewer what.Open ts f.0 f.1 in
    let m = args_fewer Fin r.takes h.1 f.0 a.0 a.1 in
    let n = mark_fewer what.Close a.0 rest a.2 in
    omega (arith, k, m, n)
unary_takes Fop Fin go R r takes e (t ∷ ts) rest (inr (inr (inr (inl h)))) = omega (arith, ap length h.2)
unary_takes Fop Fin go R r takes e (t ∷ ts) rest (inr (inr (inr (inr (inl h))))) = omega (arith, ap length h.2)
unary_takes Fop Fin go R r takes e (t ∷ ts) rest (inr (inr (inr (inr (inr h))))) = omega (arith, ap length h.2)

unary_begins : (Fop Fin : Form) (e : Expr) (ts rest : List Lexeme) → unary_by Fop Fin e ts rest → closes (next_what ts) ≡ false
unary_begins Fop Fin e [] rest h = refl
unary_begins Fop Fin e (t ∷ ts) rest (inl h) = not_close_sign (what_of t) h.0 h.2
unary_begins Fop Fin e (t ∷ ts) rest (inr (inl h)) = ap closes h.1.0
unary_begins Fop Fin e (t ∷ ts) rest (inr (inr (inl h))) = ap closes h.0
unary_begins Fop Fin e (t ∷ ts) rest (inr (inr (inr (inl h)))) = ap closes h.0
unary_begins Fop Fin e (t ∷ ts) rest (inr (inr (inr (inr (inl h))))) = ap closes h.0
unary_begins Fop Fin e (t ∷ ts) rest (inr (inr (inr (inr (inr h))))) = ap closes h.0

pub unary_reads : (Fop Fin : Form) (go : Lexeme → Bool) (R : Reader) (signed : Prefix → ℕ → Reader) (bracket : Reader) → Reads Fin go R → Ends go → ((e : Expr) (ts rest : List Lexeme) → Fop e ts rest → length rest < length ts) → InnerReads Fop Fin signed bracket
    → Reads (unary_by Fop Fin) opens_token (unary_from signed bracket R)
unary_reads Fop Fin go R sg br r s takes i = record {
  sound = unary_sound Fop Fin go R sg br r i;
  all = unary_all Fop Fin go R sg br r s i;
  takes = unary_takes Fop Fin go R r takes;
  begins = unary_begins Fop Fin;
}
