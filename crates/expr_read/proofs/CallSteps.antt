-- What a call's reader takes behind its bracket.
use Rattle.std.proofs.Common.{◌≡◌, ◌≤◌, ◌<◌, ℕ, zero, suc, List, [], ◌∷◌, ◌++◌, Bool, true, false, None, Ok, Err, length, refl, sym, ap, subst, ◌∙◌, arith, append_assoc, inl, inr, length-append}
use Rattle.std.specs.Prelude.{if◌then◌else◌, codes}
use Rattle.ds_lex.specs.declared.token.Sort.TheVariants as sort
use Rattle.ds_lex.specs.Lexemes.{Lexeme}
use Rattle.ds_lex.specs.Reading.{◌>>=◌, first_of}
use Rattle.ds_lex.specs.Phrases.{Phrase, ◌~◌}
use Rattle.expr_read.specs.declared.tree.Expr.{Expr}
use Rattle.expr_read.specs.declared.what.What.{What}
use Rattle.expr_read.specs.declared.what.What.TheVariants as what
use Rattle.expr_read.specs.Marks.{what_of}
use Rattle.expr_read.specs.Reading.{Read, Reader, behind, next_what, closes, is_comma, closed, comma_at, after_arg, args_at, call_from, nothing_at}
use Rattle.expr_read.specs.Grammar.{Form, mark, args_phrase, no_form}
use Rattle.expr_read.proofs.Chains.{Reads, parts, made_of}
use Rattle.expr_read.proofs.Units.{is_close, is_a_comma, closed_is, closed_reads}
use Rattle.expr_read.proofs.Steps.{Took, Steps, failed_of, first_behind}

abbrev pub close_token : Lexeme
close_token = record { at = 0; sort = sort.Sign; bytes = codes ")" }

pub next_same : (ts us : List Lexeme) → first_of us ≡ first_of ts → next_what us ≡ next_what ts
next_same [] [] h = refl
next_same [] (u ∷ us) h = absurd cc
next_same (t ∷ ts) [] h = absurd cc
next_same (t ∷ ts) (u ∷ us) h = let same : u ≡ t = cc in ap what_of same

abbrev pub ArgsForm : Form → List Expr → Phrase
ArgsForm F args = args_phrase F args ~ mark what.Close

record ArgsStuck (F : Form) (R : Reader) (found : List Expr) (ts left : List Lexeme) : Type 0 where
  front : List Lexeme
  parts : ts ≡ front ++ left
  begun : (k : List Lexeme) → (end : List Lexeme) × (first : Expr) × (more : List Expr) × ArgsForm F (first ∷ more) (front ++ (end ++ k)) k
  same : (n : ℕ) (more : List Lexeme) → first_of more ≡ first_of left → length (front ++ more) ≤ n → args_at n R found (front ++ more) ≡ Err more

-- an argument alone, closed behind a completion
one_closed : (F : Form) (front end k : List Lexeme) (e : Expr) → F e (front ++ (end ++ (close_token ∷ k))) (close_token ∷ k) → ArgsForm F (e ∷ []) (front ++ ((end ++ close_token ∷ []) ++ k)) k
one_closed F front end k e h =
    let same : (end ++ close_token ∷ []) ++ k ≡ end ++ (close_token ∷ k) = append_assoc end (close_token ∷ []) k in
    (close_token ∷ k, (close_token ∷ k, subst (λ (us : List Lexeme). F e (front ++ us) (close_token ∷ k)) (sym same) h, refl), (refl, refl))

args_stuck_zero : (R : Reader) (found : List Expr) → R [] ≡ Err [] → (n : ℕ) → args_at n R found [] ≡ Err []
unfolding args_at
args_stuck_zero R found h zero = refl
args_stuck_zero R found h (suc n) = ap (λ (v : Read Expr). v >>= λ x. after_arg (found ++ x.0 ∷ []) (comma_at x.1) (λ us. args_at n R (found ++ x.0 ∷ []) us)) h

first_stuck : (R : Reader) (found : List Expr) (us left : List Lexeme) (n : ℕ) → R [] ≡ Err [] → R us ≡ Err left → length us ≤ n → args_at n R found us ≡ Err left
unfolding args_at
first_stuck R found [] left n e h k = let same : [] ≡ left = (let c : (let r : Read Expr = Err [] in r) ≡ Err left = sym e ∙ h in cc) in args_stuck_zero R found e n ∙ ap (λ (us : List Lexeme). Err us) same
first_stuck R found (u ∷ us) left zero e h k = absurd (omega arith)
first_stuck R found (u ∷ us) left (suc n) e h k = ap (λ (v : Read Expr). v >>= λ x. after_arg (found ++ x.0 ∷ []) (comma_at x.1) (λ vs. args_at n R (found ++ x.0 ∷ []) vs)) h

-- one more argument
args_once : (j : ℕ) (R : Reader) (found : List Expr) (ts us : List Lexeme) (x : Expr) → R ts ≡ Ok (x, us) → args_at (suc j) R found ts ≡ after_arg (found ++ x ∷ []) (comma_at us) (λ vs. args_at j R (found ++ x ∷ []) vs)
unfolding args_at
args_once j R found ts us x h = ap (λ (v : Read Expr). v >>= λ y. after_arg (found ++ y.0 ∷ []) (comma_at y.1) (λ vs. args_at j R (found ++ y.0 ∷ []) vs)) h

-- a token that comes, and what stands behind it
pub record Split (w : What) (ts : List Lexeme) : Type 0 where
  pub token : Lexeme
  pub is : what_of token ≡ w
  pub parts : ts ≡ token ∷ behind ts

pub split : (is : What → Bool) (w : What) → ((v : What) → is v ≡ true → v ≡ w) → is what.Other ≡ false → (ts : List Lexeme) → is (next_what ts) ≡ true → Split w ts
split is w known other [] h = absurd cc
split is w known other (t ∷ ts) h = record { token = t; is = known (what_of t) h; parts = refl }

pub mark_split : (w : What) (ts rest : List Lexeme) → mark w ts rest → (t : Lexeme) × (what_of t ≡ w) × (ts ≡ t ∷ rest)
mark_split w [] rest h = absurd h
mark_split w (t ∷ ts) rest h = (t, h.0, ap (λ (us : List Lexeme). t ∷ us) h.1)

record ArgsTook (F : Form) (R : Reader) (found all : List Expr) (ts rest : List Lexeme) : Type 0 where
  front : List Lexeme
  first : Expr
  more : List Expr
  whole : all ≡ found ++ first ∷ more
  parts : ts ≡ front ++ rest
  fits : (k : List Lexeme) → ArgsForm F (first ∷ more) (front ++ k) k
  same : (n : ℕ) (us : List Lexeme) → length (front ++ us) ≤ n → args_at n R found (front ++ us) ≡ Ok (all, us)

comma_same : (F : Form) (R : Reader) (found all : List Expr) (x : Expr) (ts us rest : List Lexeme) (t : Lexeme) (w : Took F R ts x us) (i : ArgsTook F R (found ++ x ∷ []) all (behind us) rest) → what_of t ≡ what.Comma → us ≡ t ∷ behind us → (n : ℕ) (more : List Lexeme) → length ((w.front ++ (t ∷ i.front)) ++ more) ≤ n
    → args_at n R found ((w.front ++ (t ∷ i.front)) ++ more) ≡ Ok (all, more)
comma_same F R found all x ts us rest t w i g p zero more h = absurd (omega (arith, h, length-append (w.front ++ (t ∷ i.front)) more, length-append w.front (t ∷ i.front)))
comma_same F R found all x ts us rest t w i g p (suc n) more h =
    let read : R ((w.front ++ (t ∷ i.front)) ++ more) ≡ Ok (x, t ∷ (i.front ++ more)) = ap R (append_assoc w.front (t ∷ i.front) more) ∙ w.same (t ∷ (i.front ++ more)) (ap first_of (sym p)) in
    args_once n R found ((w.front ++ (t ∷ i.front)) ++ more) (t ∷ (i.front ++ more)) x read
    ∙ (ap (λ (v : What). after_arg (found ++ x ∷ []) (if is_comma v then (true, i.front ++ more) else (false, t ∷ (i.front ++ more))) (λ vs. args_at n R (found ++ x ∷ []) vs)) g
    ∙ i.same n more (omega (arith, h, length-append (w.front ++ (t ∷ i.front)) more, length-append w.front (t ∷ i.front), length-append i.front more)))

last_same : (F : Form) (R : Reader) (found all : List Expr) (x : Expr) (ts us : List Lexeme) (t : Lexeme) (rest : List Lexeme) (w : Took F R ts x us) → what_of t ≡ what.Close → us ≡ t ∷ rest → found ++ x ∷ [] ≡ all → (n : ℕ) (more : List Lexeme) → length ((w.front ++ (t ∷ [])) ++ more) ≤ n
    → args_at n R found ((w.front ++ (t ∷ [])) ++ more) ≡ Ok (all, more)
last_same F R found all x ts us t rest w g p e zero more h = absurd (omega (arith, h, length-append (w.front ++ (t ∷ [])) more, length-append w.front (t ∷ [])))
last_same F R found all x ts us t rest w g p e (suc n) more h =
    let read : R ((w.front ++ (t ∷ [])) ++ more) ≡ Ok (x, t ∷ more) = ap R (append_assoc w.front (t ∷ []) more) ∙ w.same (t ∷ more) (ap first_of (sym p)) in
    args_once n R found ((w.front ++ (t ∷ [])) ++ more) (t ∷ more) x read
    ∙ (ap (λ (v : What). after_arg (found ++ x ∷ []) (if is_comma v then (true, more) else (false, t ∷ more)) (λ vs. args_at n R (found ++ x ∷ []) vs)) g
    ∙ (closed_reads (found ++ x ∷ []) (t ∷ more) more (g, refl) ∙ ap (λ (es : List Expr). Ok (es, more)) e))

args_took_by : (b : Bool) (F : Form) (R : Reader) (n : ℕ) (found all : List Expr) (x : Expr) (ts us rest : List Lexeme) → is_comma (next_what us) ≡ b → Took F R ts x us
    → after_arg (found ++ x ∷ []) (if b then (true, behind us) else (false, us)) (λ vs. args_at n R (found ++ x ∷ []) vs) ≡ Ok (all, rest)
    → ((more : List Expr) (vs : List Lexeme) → args_at n R more vs ≡ Ok (all, rest) → ArgsTook F R more all vs rest) → ArgsTook F R found all ts rest
args_took_by true F R n found all x ts us rest g w e again =
    let i = again (found ++ x ∷ []) (behind us) e in
    let c = split is_comma what.Comma is_a_comma refl us g in
    record {
      front = w.front ++ (c.token ∷ i.front);
      first = x;
      more = i.first ∷ i.more;
      whole = i.whole ∙ append_assoc found (x ∷ []) (i.first ∷ i.more);
      parts = w.parts ∙ (ap (λ (vs : List Lexeme). w.front ++ vs) (c.parts ∙ ap (λ (vs : List Lexeme). c.token ∷ vs) i.parts) ∙ sym (append_assoc w.front (c.token ∷ i.front) rest));
      fits = λ k. (let f = i.fits k in (f.0, (c.token ∷ (i.front ++ k), subst (λ (vs : List Lexeme). F x vs (c.token ∷ (i.front ++ k))) (sym (append_assoc w.front (c.token ∷ i.front) k)) (w.fits (c.token ∷ (i.front ++ k))), (i.front ++ k, (c.is, refl), f.1)), f.2));
      same = comma_same F R found all x ts us rest c.token w i c.is c.parts;
    }
args_took_by false F R n found all x ts us rest g w e again =
    let d = closed_is (found ++ x ∷ []) all us rest e in
    let c = mark_split what.Close us rest d.1 in
    record {
      front = w.front ++ (c.0 ∷ []);
      first = x;
      more = [];
      whole = sym d.0;
      parts = w.parts ∙ (ap (λ (vs : List Lexeme). w.front ++ vs) c.2 ∙ sym (append_assoc w.front (c.0 ∷ []) rest));
      fits = λ k. (c.0 ∷ k, (c.0 ∷ k, subst (λ (vs : List Lexeme). F x vs (c.0 ∷ k)) (sym (append_assoc w.front (c.0 ∷ []) k)) (w.fits (c.0 ∷ k)), refl), (c.1, refl));
      same = last_same F R found all x ts us c.0 rest w c.1 c.2 d.0;
    }

args_took : (F : Form) (R : Reader) → Steps F R → (n : ℕ) (found all : List Expr) (ts rest : List Lexeme) → args_at n R found ts ≡ Ok (all, rest) → ArgsTook F R found all ts rest
unfolding args_at
args_took F R s zero found all ts rest e = absurd cc
args_took F R s (suc n) found all ts rest e =
    let m = made_of (R ts) (λ x. after_arg (found ++ x.0 ∷ []) (comma_at x.1) (λ us. args_at n R (found ++ x.0 ∷ []) us)) all rest e in
    args_took_by (is_comma (next_what m.left)) F R n found all m.value ts m.left rest refl (s.took ts m.value m.left m.first) m.second (λ more vs e'. args_took F R s n more all vs rest e')

-- ---- where arguments don't go on

no_tokens : (R : Reader) (found : List Expr) (a b : List Lexeme) → length (a ++ b) ≤ 0 → args_at zero R found (a ++ b) ≡ Err b
unfolding args_at
no_tokens R found [] b h = refl
no_tokens R found (t ∷ a) b h = absurd (omega arith)

comma_stuck : (F : Form) (R : Reader) (found : List Expr) (x : Expr) (ts us left : List Lexeme) (t : Lexeme) (w : Took F R ts x us) (i : ArgsStuck F R (found ++ x ∷ []) (behind us) left) → what_of t ≡ what.Comma → us ≡ t ∷ behind us → (n : ℕ) (more : List Lexeme) → first_of more ≡ first_of left → length ((w.front ++ (t ∷ i.front)) ++ more) ≤ n
    → args_at n R found ((w.front ++ (t ∷ i.front)) ++ more) ≡ Err more
comma_stuck F R found x ts us left t w i g p zero more f h = absurd (omega (arith, h, length-append (w.front ++ (t ∷ i.front)) more, length-append w.front (t ∷ i.front)))
comma_stuck F R found x ts us left t w i g p (suc n) more f h =
    let read : R ((w.front ++ (t ∷ i.front)) ++ more) ≡ Ok (x, t ∷ (i.front ++ more)) = ap R (append_assoc w.front (t ∷ i.front) more) ∙ w.same (t ∷ (i.front ++ more)) (ap first_of (sym p)) in
    args_once n R found ((w.front ++ (t ∷ i.front)) ++ more) (t ∷ (i.front ++ more)) x read
    ∙ (ap (λ (v : What). after_arg (found ++ x ∷ []) (if is_comma v then (true, i.front ++ more) else (false, t ∷ (i.front ++ more))) (λ vs. args_at n R (found ++ x ∷ []) vs)) g
    ∙ i.same n more f (omega (arith, h, length-append (w.front ++ (t ∷ i.front)) more, length-append w.front (t ∷ i.front), length-append i.front more)))

pub not_closed : {A : Type 0} (x : A) (us : List Lexeme) → closes (next_what us) ≡ false → closed (x, us) ≡ Err us
not_closed x us h = rw h refl

closed_fails_by : {A : Type 0} (b : Bool) (x : A) (us left : List Lexeme) → closes (next_what us) ≡ b → ((if b then Ok (tt, behind us) else (let r : Read (Unit {0}) = Err us in r)) >>= λ u. (let r : Read A = Ok (x, u.1) in r)) ≡ Err left → (closes (next_what us) ≡ false) × (us ≡ left)
closed_fails_by true x us left g e = absurd cc
closed_fails_by false x us left g e = (g, (let same : us ≡ left = cc in same))

pub closed_fails : {A : Type 0} (x : A) (us left : List Lexeme) → closed (x, us) ≡ Err left → (closes (next_what us) ≡ false) × (us ≡ left)
closed_fails x us left e = closed_fails_by (closes (next_what us)) x us left refl e

open_stuck : (F : Form) (R : Reader) (found : List Expr) (x : Expr) (ts us : List Lexeme) (w : Took F R ts x us) → is_comma (next_what us) ≡ false → closes (next_what us) ≡ false → (n : ℕ) (more : List Lexeme) → first_of more ≡ first_of us → length (w.front ++ more) ≤ n → args_at n R found (w.front ++ more) ≡ Err more
open_stuck F R found x ts us w c d zero more f h = no_tokens R found w.front more h
open_stuck F R found x ts us w c d (suc n) more f h =
    let next = next_same us more f in
    args_once n R found (w.front ++ more) more x (w.same more f)
    ∙ (ap (λ (b : Bool). after_arg (found ++ x ∷ []) (if b then (true, behind more) else (false, more)) (λ vs. args_at n R (found ++ x ∷ []) vs)) (ap is_comma next ∙ c)
    ∙ not_closed (found ++ x ∷ []) more (ap closes next ∙ d))

args_stuck_by : (b : Bool) (F : Form) (R : Reader) (n : ℕ) (found : List Expr) (x : Expr) (ts us left : List Lexeme) → is_comma (next_what us) ≡ b → Took F R ts x us
    → after_arg (found ++ x ∷ []) (if b then (true, behind us) else (false, us)) (λ vs. args_at n R (found ++ x ∷ []) vs) ≡ Err left
    → ((more : List Expr) → args_at n R more (behind us) ≡ Err left → ArgsStuck F R more (behind us) left) → ArgsStuck F R found ts left
args_stuck_by true F R n found x ts us left g w e again =
    let i = again (found ++ x ∷ []) e in
    let c = split is_comma what.Comma is_a_comma refl us g in
    record {
      front = w.front ++ (c.token ∷ i.front);
      parts = w.parts ∙ (ap (λ (vs : List Lexeme). w.front ++ vs) (c.parts ∙ ap (λ (vs : List Lexeme). c.token ∷ vs) i.parts) ∙ sym (append_assoc w.front (c.token ∷ i.front) left));
      begun = λ k. (
          let q = i.begun k in
          let f = q.3 in
          let inner = i.front ++ (q.0 ++ k) in
          (q.0, x, q.1 ∷ q.2, (f.0, (c.token ∷ inner, subst (λ (vs : List Lexeme). F x vs (c.token ∷ inner)) (sym (append_assoc w.front (c.token ∷ i.front) (q.0 ++ k))) (w.fits (c.token ∷ inner)), (inner, (c.is, refl), f.1)), f.2)));
      same = comma_stuck F R found x ts us left c.token w i c.is c.parts;
    }
args_stuck_by false F R n found x ts us left g w e again =
    let d = closed_fails (found ++ x ∷ []) us left e in
    record {
      front = w.front;
      parts = w.parts ∙ ap (λ (vs : List Lexeme). w.front ++ vs) d.1;
      begun = λ k. (close_token ∷ [], x, [], (close_token ∷ k, (close_token ∷ k, w.fits (close_token ∷ k), refl), (refl, refl)));
      same = λ m more f h. open_stuck F R found x ts us w g d.0 m more (f ∙ ap first_of (sym d.1)) h;
    }

empty_same : (R : Reader) (found : List Expr) → R [] ≡ Err [] → (n : ℕ) (more : List Lexeme) → first_of more ≡ None → args_at n R found more ≡ Err more
empty_same R found h n [] g = args_stuck_zero R found h n
empty_same R found h n (t ∷ ts) g = absurd cc

stuck_empty : (F : Form) (R : Reader) → Steps F R → (found : List Expr) (left : List Lexeme) → [] ≡ left → ArgsStuck F R found [] left
stuck_empty F R s found left e =
    let known : ArgsStuck F R found [] [] = record {
      front = [];
      parts = refl;
      begun = λ k. (let b = s.some (close_token ∷ k) in (b.0 ++ close_token ∷ [], b.1, [], one_closed F [] b.0 k b.1 b.2));
      same = λ n more g h. empty_same R found s.empty n more g;
    } in
    subst (λ (us : List Lexeme). ArgsStuck F R found [] us) e known

behind_few : (us : List Lexeme) (n : ℕ) → length us ≤ n → length (behind us) ≤ n
behind_few [] n h = h
behind_few (t ∷ us) n h = omega arith

args_stuck : (F : Form) (go : Lexeme → Bool) (R : Reader) → Reads F go R → Steps F R → (n : ℕ) (found : List Expr) (ts left : List Lexeme) → length ts ≤ n → args_at n R found ts ≡ Err left → ArgsStuck F R found ts left
unfolding args_at
args_stuck F go R r s zero found [] left h e = stuck_empty F R s found left (let same : [] ≡ left = cc in same)
args_stuck F go R r s zero found (t ∷ ts) left h e = absurd (omega arith)
args_stuck F go R r s (suc n) found ts left h e =
    elim (failed_of (R ts) (λ x. after_arg (found ++ x.0 ∷ []) (comma_at x.1) (λ us. args_at n R (found ++ x.0 ∷ []) us)) left e) [
      | inl a ↦ (
          let w = s.stuck ts left a in
          record {
            front = w.front;
            parts = w.parts;
            begun = λ k. (let b = w.begun (close_token ∷ k) in (b.0 ++ close_token ∷ [], b.1, [], one_closed F w.front b.0 k b.1 b.2));
            same = λ m more g k. first_stuck R found (w.front ++ more) more m s.empty (w.same more g) k;
          })
      | inr m ↦ (
          let fewer : length m.behind < length ts = r.takes m.value ts m.behind (r.sound ts m.value m.behind m.first) in
          args_stuck_by (is_comma (next_what m.behind)) F R n found m.value ts m.behind left refl (s.took ts m.value m.behind m.first) m.second (λ more e'. args_stuck F go R r s n more (behind m.behind) left (behind_few m.behind n (omega (arith, fewer))) e'))
    ]

-- ---- calls

pub record CallTook (F : Form) (R : Reader) (args : List Expr) (ts rest : List Lexeme) : Type 0 where
  pub front : List Lexeme
  pub parts : ts ≡ front ++ rest
  pub fits : (k : List Lexeme) → ArgsForm F args (front ++ k) k
  pub same : (more : List Lexeme) → call_from R (front ++ more) ≡ Ok (args, more)

pub record CallStuck (F : Form) (R : Reader) (ts left : List Lexeme) : Type 0 where
  pub front : List Lexeme
  pub parts : ts ≡ front ++ left
  pub begun : (k : List Lexeme) → (end : List Lexeme) × (args : List Expr) × ArgsForm F args (front ++ (end ++ k)) k
  pub same : (more : List Lexeme) → first_of more ≡ first_of left → call_from R (front ++ more) ≡ Err more

-- what is taken of a call behind its opening bracket
pub record CallSteps (F : Form) (R : Reader) : Type 0 where
  pub took : (ts : List Lexeme) (args : List Expr) (rest : List Lexeme) → call_from R ts ≡ Ok (args, rest) → CallTook F R args ts rest
  pub stuck : (ts left : List Lexeme) → call_from R ts ≡ Err left → CallStuck F R ts left

no_args : (R : Reader) (t : Lexeme) (us : List Lexeme) → what_of t ≡ what.Close → call_from R (t ∷ us) ≡ Ok ([], us)
unfolding call_from
no_args R t us h = rw h refl

some_args : (R : Reader) (ts : List Lexeme) → closes (next_what ts) ≡ false → call_from R ts ≡ args_at (length ts) R [] ts
unfolding call_from
some_args R ts h = rw h refl

-- a bracket that closes at once
closes_at_once : (F : Form) (R : Reader) (args : List Expr) (ts rest : List Lexeme) → closes (next_what ts) ≡ true → (let r : Read (List Expr) = Ok ([], behind ts) in r) ≡ Ok (args, rest) → CallTook F R args ts rest
closes_at_once F R args ts rest g e =
    let p = parts ([], behind ts) args rest e in
    let c = split closes what.Close is_close refl ts g in
    let known : CallTook F R [] ts (behind ts) = record {
      front = c.token ∷ [];
      parts = c.parts;
      fits = λ k. (c.token ∷ k, refl, (c.is, refl));
      same = λ more. no_args R c.token more c.is;
    } in
    subst (λ (es : List Expr). CallTook F R es ts rest) p.first (subst (λ (us : List Lexeme). CallTook F R [] ts us) p.second known)

call_took_by : (b : Bool) (F : Form) (go : Lexeme → Bool) (R : Reader) → Reads F go R → Steps F R → (ts : List Lexeme) (args : List Expr) (rest : List Lexeme) → closes (next_what ts) ≡ b → (if b then Ok ([], behind ts) else args_at (length ts) R [] ts) ≡ Ok (args, rest) → CallTook F R args ts rest
call_took_by true F go R r s ts args rest g e = closes_at_once F R args ts rest g e
call_took_by false F go R r s ts args rest g e =
    let a = args_took F R s (length ts) [] args ts rest e in
    record {
      front = a.front;
      parts = a.parts;
      fits = λ k. subst (λ (es : List Expr). ArgsForm F es (a.front ++ k) k) (sym a.whole) (a.fits k);
      same = λ more.
          let f = (a.fits more).1 in
          some_args R (a.front ++ more) (r.begins a.first (a.front ++ more) f.0 f.1) ∙ a.same (length (a.front ++ more)) more (omega arith);
    }

call_stuck_by : (b : Bool) (F : Form) (go : Lexeme → Bool) (R : Reader) → Reads F go R → Steps F R → (ts left : List Lexeme) → closes (next_what ts) ≡ b → (if b then Ok ([], behind ts) else args_at (length ts) R [] ts) ≡ Err left → CallStuck F R ts left
call_stuck_by true F go R r s ts left g e = absurd cc
call_stuck_by false F go R r s ts left g e =
    let a = args_stuck F go R r s (length ts) [] ts left (omega arith) e in
    record {
      front = a.front;
      parts = a.parts;
      begun = λ k. (let b = a.begun k in (b.0, b.1 ∷ b.2, b.3));
      same = λ more f.
          let next = next_same ts (a.front ++ more) (first_behind a.front more left f ∙ ap first_of (sym a.parts)) in
          some_args R (a.front ++ more) (ap closes next ∙ g) ∙ a.same (length (a.front ++ more)) more f (omega arith);
    }

call_took : (F : Form) (go : Lexeme → Bool) (R : Reader) → Reads F go R → Steps F R → (ts : List Lexeme) (args : List Expr) (rest : List Lexeme) → call_from R ts ≡ Ok (args, rest) → CallTook F R args ts rest
unfolding call_from
call_took F go R r s ts args rest e = call_took_by (closes (next_what ts)) F go R r s ts args rest refl e

call_stuck : (F : Form) (go : Lexeme → Bool) (R : Reader) → Reads F go R → Steps F R → (ts left : List Lexeme) → call_from R ts ≡ Err left → CallStuck F R ts left
unfolding call_from
call_stuck F go R r s ts left e = call_stuck_by (closes (next_what ts)) F go R r s ts left refl e

pub call_steps : (F : Form) (go : Lexeme → Bool) (R : Reader) → Reads F go R → Steps F R → CallSteps F R
call_steps F go R r s = record { took = call_took F go R r s; stuck = call_stuck F go R r s }

-- ---- where no argument may stand

none_at : (n : ℕ) (found : List Expr) (ts : List Lexeme) → args_at n nothing_at found ts ≡ Err ts
unfolding args_at
none_at zero found ts = refl
none_at (suc n) found ts = refl

none_took_by : (b : Bool) (ts : List Lexeme) (args : List Expr) (rest : List Lexeme) → closes (next_what ts) ≡ b → (if b then Ok ([], behind ts) else args_at (length ts) nothing_at [] ts) ≡ Ok (args, rest) → CallTook no_form nothing_at args ts rest
none_took_by true ts args rest g e = closes_at_once no_form nothing_at args ts rest g e
none_took_by false ts args rest g e = absurd (let c : (let r : Read (List Expr) = Err ts in r) ≡ Ok (args, rest) = sym (none_at (length ts) [] ts) ∙ e in cc)

none_stuck_by : (b : Bool) (ts left : List Lexeme) → closes (next_what ts) ≡ b → (if b then Ok ([], behind ts) else args_at (length ts) nothing_at [] ts) ≡ Err left → CallStuck no_form nothing_at ts left
none_stuck_by true ts left g e = absurd cc
none_stuck_by false ts left g e =
    let c : (let r : Read (List Expr) = Err ts in r) ≡ Err left = sym (none_at (length ts) [] ts) ∙ e in
    let same : ts ≡ left = cc in
    record {
      front = [];
      parts = same;
      begun = λ k. (close_token ∷ [], [], (close_token ∷ k, refl, (refl, refl)));
      same = λ more f. some_args nothing_at more (ap closes (next_same ts more (f ∙ ap first_of (sym same))) ∙ g) ∙ none_at (length more) [] more;
    }

none_took : (ts : List Lexeme) (args : List Expr) (rest : List Lexeme) → call_from nothing_at ts ≡ Ok (args, rest) → CallTook no_form nothing_at args ts rest
unfolding call_from
none_took ts args rest e = none_took_by (closes (next_what ts)) ts args rest refl e

none_stuck : (ts left : List Lexeme) → call_from nothing_at ts ≡ Err left → CallStuck no_form nothing_at ts left
unfolding call_from
none_stuck ts left e = none_stuck_by (closes (next_what ts)) ts left refl e

pub none_steps : CallSteps no_form nothing_at
none_steps = record { took = none_took; stuck = none_stuck }
