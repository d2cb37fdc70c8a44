-- A reader takes a front, and looks at no more than the token behind it.
use Rattle.std.proofs.Common.{◌≡◌, ◌≤◌, ◌<◌, ℕ, zero, suc, List, [], ◌∷◌, ◌++◌, Bool, Option, Some, None, Ok, Err, length, refl, sym, ap, subst, ◌∙◌, arith, append_assoc, inl, inr, length-append}
use Rattle.std.specs.Prelude.{◌⊎◌}
use Rattle.std.proofs.lemmas.List.{append-nil}
use Rattle.ds_lex.specs.Lexemes.{Lexeme}
use Rattle.ds_lex.specs.Reading.{◌>>=◌, first_of}
use Rattle.expr_read.specs.declared.tree.Link.{Link}
use Rattle.expr_read.specs.declared.tree.Expr.{Expr}
use Rattle.expr_read.specs.declared.what.Level.{Level}
use Rattle.expr_read.specs.declared.what.Level.TheVariants as level
use Rattle.expr_read.specs.Marks.{what_of}
use Rattle.expr_read.specs.Reading.{Read, Reader, link_at, link_by, behind_link, links_at, most_links, chained, chain_from}
use Rattle.expr_read.specs.Grammar.{Form, links_phrase, MayStand, chain_form}
use Rattle.expr_read.proofs.Chains.{Reads, parts, made_of, links_once, may_stand}

pub record Took (F : Form) (R : Reader) (ts : List Lexeme) (e : Expr) (rest : List Lexeme) : Type 0 where
  pub front : List Lexeme
  pub parts : ts ≡ front ++ rest
  pub fits : (k : List Lexeme) → F e (front ++ k) k
  pub same : (more : List Lexeme) → first_of more ≡ first_of rest → R (front ++ more) ≡ Ok (e, more)

pub record Stuck (F : Form) (R : Reader) (ts left : List Lexeme) : Type 0 where
  pub front : List Lexeme
  pub parts : ts ≡ front ++ left
  pub begun : (k : List Lexeme) → (end : List Lexeme) × (e : Expr) × F e (front ++ (end ++ k)) k
  pub same : (more : List Lexeme) → first_of more ≡ first_of left → R (front ++ more) ≡ Err more

pub record Steps (F : Form) (R : Reader) : Type 0 where
  pub took : (ts : List Lexeme) (e : Expr) (rest : List Lexeme) → R ts ≡ Ok (e, rest) → Took F R ts e rest
  pub stuck : (ts left : List Lexeme) → R ts ≡ Err left → Stuck F R ts left
  pub some : (k : List Lexeme) → (end : List Lexeme) × (e : Expr) × F e (end ++ k) k
  pub empty : R [] ≡ Err []

-- what was made of what was read, or where reading stopped
pub record Failed {A B : Type 0} (r : Read A) (f : A × List Lexeme → Read B) (left : List Lexeme) : Type 0 where
  pub value : A
  pub behind : List Lexeme
  pub first : r ≡ Ok (value, behind)
  pub second : f (value, behind) ≡ Err left

pub failed_of : {A B : Type 0} (r : Read A) (f : A × List Lexeme → Read B) (left : List Lexeme) → (r >>= f) ≡ Err left → (r ≡ Err left) ⊎ Failed r f left
failed_of (Ok (a, ts)) f left e = inr (record { value = a; behind = ts; first = refl; second = e })
failed_of (Err ts) f left e = inl (let same : ts ≡ left = cc in ap (λ (us : List Lexeme). Err us) same)

-- enough steps for both, or as many
abbrev pub Fuel : ℕ → List Lexeme → ℕ → List Lexeme → Type 0
Fuel k ts j us = (k ≡ j) ⊎ ((length ts ≤ k) × (length us ≤ j))

first_link : (l : Level) (ts us : List Lexeme) → first_of us ≡ first_of ts → link_at l us ≡ link_at l ts
first_link l [] [] h = refl
first_link l [] (u ∷ us) h = absurd cc
first_link l (t ∷ ts) [] h = absurd cc
first_link l (t ∷ ts) (u ∷ us) h = let same : u ≡ t = cc in ap (λ (x : Lexeme). link_by l x.at (what_of x)) same

pub first_behind : (front more rest : List Lexeme) → first_of more ≡ first_of rest → first_of (front ++ more) ≡ first_of (front ++ rest)
first_behind [] more rest h = h
first_behind (t ∷ ts) more rest h = refl

links_empty : (l : Level) (R : Reader) (k : ℕ) (found : List (Link × Expr)) → links_at k l R found [] ≡ Ok (found, [])
unfolding links_at
links_empty l R zero found = refl
links_empty l R (suc k) found = refl

-- nothing is taken
links_stop : (l : Level) (R : Reader) (k : ℕ) (found : List (Link × Expr)) (ts : List Lexeme) → link_at l ts ≡ None → links_at k l R found ts ≡ Ok (found, ts)
unfolding links_at
links_stop l R zero found ts h = refl
links_stop l R (suc k) found ts h = rw h refl

record LinksTook (l : Level) (F : Form) (R : Reader) (k : ℕ) (found all : List (Link × Expr)) (ts rest : List Lexeme) : Type 0 where
  front : List Lexeme
  links : List (Link × Expr)
  whole : all ≡ found ++ links
  few : length links ≤ k
  parts : ts ≡ front ++ rest
  fits : (j : List Lexeme) → links_phrase l F links (front ++ j) j
  same : (n : ℕ) (more : List Lexeme) → first_of more ≡ first_of rest → Fuel k ts n (front ++ more) → links_at n l R found (front ++ more) ≡ Ok (all, more)

record LinksStuck (l : Level) (F : Form) (R : Reader) (k : ℕ) (found : List (Link × Expr)) (ts left : List Lexeme) : Type 0 where
  front : List Lexeme
  parts : ts ≡ front ++ left
  begun : (j : List Lexeme) → (end : List Lexeme) × (links : List (Link × Expr)) × (length links ≤ k) × links_phrase l F links (front ++ (end ++ j)) j
  same : (n : ℕ) (more : List Lexeme) → first_of more ≡ first_of left → Fuel k ts n (front ++ more) → links_at n l R found (front ++ more) ≡ Err more

-- with no step left, or no sign
no_steps : (l : Level) (R : Reader) (found : List (Link × Expr)) (ts : List Lexeme) (n : ℕ) (more : List Lexeme) → first_of more ≡ first_of ts → Fuel zero ts n more → links_at n l R found more ≡ Ok (found, more)
unfolding links_at
no_steps l R found ts n more h (inl e) = ap (λ (m : ℕ). links_at m l R found more) (sym e)
no_steps l R found [] n [] h (inr f) = links_empty l R n found
no_steps l R found [] n (u ∷ us) h (inr f) = absurd cc
no_steps l R found (t ∷ ts) n more h (inr f) = absurd (omega (arith, f.0))

took_none : (l : Level) (F : Form) (R : Reader) (k : ℕ) (found all : List (Link × Expr)) (ts rest : List Lexeme) → ((n : ℕ) (more : List Lexeme) → first_of more ≡ first_of ts → Fuel k ts n more → links_at n l R found more ≡ Ok (found, more)) → (let r : Read (List (Link × Expr)) = Ok (found, ts) in r) ≡ Ok (all, rest) → LinksTook l F R k found all ts rest
took_none l F R k found all ts rest h e =
    let p = parts (found, ts) all rest e in
    let known : LinksTook l F R k found found ts ts = record { front = []; links = []; whole = sym (append-nil found); few = omega arith; parts = refl; fits = λ j. refl; same = h } in
    subst (λ (ls : List (Link × Expr)). LinksTook l F R k found ls ts rest) p.first (subst (λ (us : List Lexeme). LinksTook l F R k found found ts us) p.second known)

fewer : (F : Form) (go : Lexeme → Bool) (R : Reader) → Reads F go R → (ts : List Lexeme) (e : Expr) (us : List Lexeme) → R ts ≡ Ok (e, us) → length us < length ts
fewer F go R r ts e us h = r.takes e ts us (r.sound ts e us h)

fuel_behind : (k n : ℕ) (t : Lexeme) (ts us vs ws more : List Lexeme) → length us < length ts → length more ≤ length ws → Fuel (suc k) (t ∷ ts) (suc n) (t ∷ ws) → Fuel k us n more
fuel_behind k n t ts us vs ws more h g (inl e) = inl (omega (arith, e))
fuel_behind k n t ts us vs ws more h g (inr f) = inr (omega (arith, f.0), omega (arith, f.1))

no_fuel : (k : ℕ) (t : Lexeme) (ts us : List Lexeme) → Fuel (suc k) ts zero (t ∷ us) → ⊥
no_fuel k t ts us (inl e) = absurd cc
no_fuel k t ts us (inr f) = absurd (omega (arith, f.1))

once_stuck : (k : ℕ) (l : Level) (R : Reader) (found : List (Link × Expr)) (t : Lexeme) (ts us : List Lexeme) (link : Link) → link_by l t.at (what_of t) ≡ Some link → R ts ≡ Err us → links_at (suc k) l R found (t ∷ ts) ≡ Err us
unfolding links_at
once_stuck k l R found t ts us link g o =
    ap (λ (m : Option Link). behind_link m (let r : Read (List (Link × Expr)) = Ok (found, t ∷ ts) in r) (λ n. R ts >>= λ x. links_at k l R (found ++ (n, x.0) ∷ []) x.1)) g
    ∙ ap (λ (v : Read Expr). v >>= λ x. links_at k l R (found ++ (link, x.0) ∷ []) x.1) o

behind_length : (a b c : List Lexeme) → length (b ++ c) ≤ length ((a ++ b) ++ c)
behind_length a b c = omega (arith, length-append b c, length-append (a ++ b) c, length-append a b)

took_same : (l : Level) (F : Form) (go : Lexeme → Bool) (R : Reader) → Reads F go R → (k : ℕ) (found all : List (Link × Expr)) (t : Lexeme) (ts us rest : List Lexeme) (link : Link) (x : Expr) → link_by l t.at (what_of t) ≡ Some link → R ts ≡ Ok (x, us)
    → (w : Took F R ts x us) (i : LinksTook l F R k (found ++ (link, x) ∷ []) all us rest) (n : ℕ) (more : List Lexeme) → first_of more ≡ first_of rest → Fuel (suc k) (t ∷ ts) n (t ∷ ((w.front ++ i.front) ++ more)) → links_at n l R found (t ∷ ((w.front ++ i.front) ++ more)) ≡ Ok (all, more)
took_same l F go R r k found all t ts us rest link x g o w i zero more h f = absurd (no_fuel k t (t ∷ ts) ((w.front ++ i.front) ++ more) f)
took_same l F go R r k found all t ts us rest link x g o w i (suc n) more h f =
    let read : R ((w.front ++ i.front) ++ more) ≡ Ok (x, i.front ++ more) = ap R (append_assoc w.front i.front more) ∙ w.same (i.front ++ more) (first_behind i.front more rest h ∙ ap first_of (sym i.parts)) in
    links_once n l R found t ((w.front ++ i.front) ++ more) (i.front ++ more) link x g read
    ∙ i.same n more h (fuel_behind k n t ts us us ((w.front ++ i.front) ++ more) (i.front ++ more) (fewer F go R r ts x us o) (behind_length w.front i.front more) f)

links_took_by : (l : Level) (F : Form) (go : Lexeme → Bool) (R : Reader) → Reads F go R → Steps F R → (k : ℕ) (found all : List (Link × Expr)) (t : Lexeme) (ts rest : List Lexeme) (o : Option Link) → link_by l t.at (what_of t) ≡ o
    → behind_link o (let r : Read (List (Link × Expr)) = Ok (found, t ∷ ts) in r) (λ link. R ts >>= λ x. links_at k l R (found ++ (link, x.0) ∷ []) x.1) ≡ Ok (all, rest)
    → ((more : List (Link × Expr)) (us : List Lexeme) → links_at k l R more us ≡ Ok (all, rest) → LinksTook l F R k more all us rest)
    → LinksTook l F R (suc k) found all (t ∷ ts) rest
links_took_by l F go R r s k found all t ts rest None g e again =
    took_none l F R (suc k) found all (t ∷ ts) rest (λ n more h f. links_stop l R n found more (first_link l (t ∷ ts) more h ∙ g)) e
links_took_by l F go R r s k found all t ts rest (Some link) g e again =
    let m = made_of (R ts) (λ x. links_at k l R (found ++ (link, x.0) ∷ []) x.1) all rest e in
    let w = s.took ts m.value m.left m.first in
    let i = again (found ++ (link, m.value) ∷ []) m.left m.second in
    record {
      front = t ∷ (w.front ++ i.front);
      links = (link, m.value) ∷ i.links;
      whole = i.whole ∙ append_assoc found ((link, m.value) ∷ []) i.links;
      few = omega (arith, i.few);
      parts = ap (λ (us : List Lexeme). t ∷ us) (w.parts ∙ (ap (λ (us : List Lexeme). w.front ++ us) i.parts ∙ sym (append_assoc w.front i.front rest)));
      fits = λ j. ((w.front ++ i.front) ++ j, (g, refl), (i.front ++ j, subst (λ (us : List Lexeme). F m.value us (i.front ++ j)) (sym (append_assoc w.front i.front j)) (w.fits (i.front ++ j)), i.fits j));
      same = λ n more h f. took_same l F go R r k found all t ts m.left rest link m.value g m.first w i n more h f;
    }

links_took : (l : Level) (F : Form) (go : Lexeme → Bool) (R : Reader) → Reads F go R → Steps F R → (k : ℕ) (found all : List (Link × Expr)) (ts rest : List Lexeme) → links_at k l R found ts ≡ Ok (all, rest) → LinksTook l F R k found all ts rest
unfolding links_at
links_took l F go R r s zero found all ts rest e = took_none l F R zero found all ts rest (λ n more h f. no_steps l R found ts n more h f) e
links_took l F go R r s (suc k) found all [] rest e = took_none l F R (suc k) found all [] rest (λ n more h f. links_stop l R n found more (first_link l [] more h)) e
links_took l F go R r s (suc k) found all (t ∷ ts) rest e = links_took_by l F go R r s k found all t ts rest (link_by l t.at (what_of t)) refl e (λ more us e'. links_took l F go R r s k more all us rest e')

-- ---- where reading stops

stuck_here : (l : Level) (F : Form) (R : Reader) (k : ℕ) (found : List (Link × Expr)) (t : Lexeme) (ts left : List Lexeme) (link : Link) → link_by l t.at (what_of t) ≡ Some link → (w : Stuck F R ts left) (n : ℕ) (more : List Lexeme) → first_of more ≡ first_of left
    → Fuel (suc k) (t ∷ ts) n (t ∷ (w.front ++ more)) → links_at n l R found (t ∷ (w.front ++ more)) ≡ Err more
stuck_here l F R k found t ts left link g w zero more h f = absurd (no_fuel k t (t ∷ ts) (w.front ++ more) f)
stuck_here l F R k found t ts left link g w (suc n) more h f = once_stuck n l R found t (w.front ++ more) more link g (w.same more h)

stuck_later : (l : Level) (F : Form) (go : Lexeme → Bool) (R : Reader) → Reads F go R → (k : ℕ) (found : List (Link × Expr)) (t : Lexeme) (ts us left : List Lexeme) (link : Link) (x : Expr) → link_by l t.at (what_of t) ≡ Some link → R ts ≡ Ok (x, us)
    → (w : Took F R ts x us) (i : LinksStuck l F R k (found ++ (link, x) ∷ []) us left) (n : ℕ) (more : List Lexeme) → first_of more ≡ first_of left → Fuel (suc k) (t ∷ ts) n (t ∷ ((w.front ++ i.front) ++ more)) → links_at n l R found (t ∷ ((w.front ++ i.front) ++ more)) ≡ Err more
stuck_later l F go R r k found t ts us left link x g o w i zero more h f = absurd (no_fuel k t (t ∷ ts) ((w.front ++ i.front) ++ more) f)
stuck_later l F go R r k found t ts us left link x g o w i (suc n) more h f =
    let read : R ((w.front ++ i.front) ++ more) ≡ Ok (x, i.front ++ more) = ap R (append_assoc w.front i.front more) ∙ w.same (i.front ++ more) (first_behind i.front more left h ∙ ap first_of (sym i.parts)) in
    links_once n l R found t ((w.front ++ i.front) ++ more) (i.front ++ more) link x g read
    ∙ i.same n more h (fuel_behind k n t ts us us ((w.front ++ i.front) ++ more) (i.front ++ more) (fewer F go R r ts x us o) (behind_length w.front i.front more) f)

links_stuck_by : (l : Level) (F : Form) (go : Lexeme → Bool) (R : Reader) → Reads F go R → Steps F R → (k : ℕ) (found : List (Link × Expr)) (t : Lexeme) (ts left : List Lexeme) (o : Option Link) → link_by l t.at (what_of t) ≡ o
    → behind_link o (let r : Read (List (Link × Expr)) = Ok (found, t ∷ ts) in r) (λ link. R ts >>= λ x. links_at k l R (found ++ (link, x.0) ∷ []) x.1) ≡ Err left
    → ((more : List (Link × Expr)) (us : List Lexeme) → links_at k l R more us ≡ Err left → LinksStuck l F R k more us left)
    → LinksStuck l F R (suc k) found (t ∷ ts) left
links_stuck_by l F go R r s k found t ts left None g e again = absurd cc
links_stuck_by l F go R r s k found t ts left (Some link) g e again =
    elim (failed_of (R ts) (λ x. links_at k l R (found ++ (link, x.0) ∷ []) x.1) left e) [
      | inl a ↦ (
          let w = s.stuck ts left a in
          record {
            front = t ∷ w.front;
            parts = ap (λ (us : List Lexeme). t ∷ us) w.parts;
            begun = λ j. (let b = w.begun j in (b.0, (link, b.1) ∷ [], omega arith, (w.front ++ (b.0 ++ j), (g, refl), (j, b.2, refl))));
            same = λ n more h f. stuck_here l F R k found t ts left link g w n more h f;
          })
      | inr m ↦ (
          let w = s.took ts m.value m.behind m.first in
          let i = again (found ++ (link, m.value) ∷ []) m.behind m.second in
          record {
            front = t ∷ (w.front ++ i.front);
            parts = ap (λ (us : List Lexeme). t ∷ us) (w.parts ∙ (ap (λ (us : List Lexeme). w.front ++ us) i.parts ∙ sym (append_assoc w.front i.front left)));
            begun = λ j. (
                let b = i.begun j in
                (b.0, (link, m.value) ∷ b.1, omega (arith, b.2), ((w.front ++ i.front) ++ (b.0 ++ j), (g, refl), (i.front ++ (b.0 ++ j), subst (λ (us : List Lexeme). F m.value us (i.front ++ (b.0 ++ j))) (sym (append_assoc w.front i.front (b.0 ++ j))) (w.fits (i.front ++ (b.0 ++ j))), b.3))));
            same = λ n more h f. stuck_later l F go R r k found t ts m.behind left link m.value g m.first w i n more h f;
          })
    ]

links_stuck : (l : Level) (F : Form) (go : Lexeme → Bool) (R : Reader) → Reads F go R → Steps F R → (k : ℕ) (found : List (Link × Expr)) (ts left : List Lexeme) → links_at k l R found ts ≡ Err left → LinksStuck l F R k found ts left
unfolding links_at
links_stuck l F go R r s zero found ts left e = absurd cc
links_stuck l F go R r s (suc k) found [] left e = absurd cc
links_stuck l F go R r s (suc k) found (t ∷ ts) left e = links_stuck_by l F go R r s k found t ts left (link_by l t.at (what_of t)) refl e (λ more us e'. links_stuck l F go R r s k more us left e')

most_fuel : (l : Level) (ts us : List Lexeme) → Fuel (most_links l (length ts)) ts (most_links l (length us)) us
most_fuel level.Compare ts us = inl refl
most_fuel level.Or ts us = inr (omega arith, omega arith)
most_fuel level.And ts us = inr (omega arith, omega arith)
most_fuel level.Sum ts us = inr (omega arith, omega arith)
most_fuel level.Product ts us = inr (omega arith, omega arith)

none_stand : (l : Level) → MayStand l []
none_stand level.Compare = omega arith
none_stand level.Or = tt
none_stand level.And = tt
none_stand level.Sum = tt
none_stand level.Product = tt

abbrev then_links : Level → Reader → Expr × List Lexeme → Read Expr
then_links l R first = links_at (most_links l (length first.1)) l R [] first.1 >>= λ links. Ok (chained first.0 links.0, links.1)

chain_took : (l : Level) (F : Form) (go : Lexeme → Bool) (R : Reader) → Reads F go R → Steps F R → (ts : List Lexeme) (e : Expr) (rest : List Lexeme) → chain_from l R ts ≡ Ok (e, rest) → Took (chain_form l F) (chain_from l R) ts e rest
unfolding chain_from
chain_took l F go R r s ts e rest h =
    let m = made_of (R ts) (then_links l R) e rest h in
    let n = made_of (links_at (most_links l (length m.left)) l R [] m.left) (λ links. Ok (chained m.value links.0, links.1)) e rest m.second in
    let p = parts (chained m.value n.value, n.left) e rest n.second in
    let w = s.took ts m.value m.left m.first in
    let i = links_took l F go R r s (most_links l (length m.left)) [] n.value m.left n.left n.first in
    record {
      front = w.front ++ i.front;
      parts = w.parts ∙ (ap (λ (us : List Lexeme). w.front ++ us) (i.parts ∙ ap (λ (us : List Lexeme). i.front ++ us) p.second) ∙ sym (append_assoc w.front i.front rest));
      fits = λ k. (m.value, i.links, sym p.first ∙ ap (chained m.value) i.whole, may_stand l (length m.left) i.links i.few, (i.front ++ k, subst (λ (us : List Lexeme). F m.value us (i.front ++ k)) (sym (append_assoc w.front i.front k)) (w.fits (i.front ++ k)), i.fits k));
      same = λ more g.
          let read : R ((w.front ++ i.front) ++ more) ≡ Ok (m.value, i.front ++ more) = ap R (append_assoc w.front i.front more) ∙ w.same (i.front ++ more) (first_behind i.front more n.left (g ∙ ap first_of (sym p.second)) ∙ ap first_of (sym i.parts)) in
          ap (λ (v : Read Expr). v >>= then_links l R) read
          ∙ (ap (λ (v : Read (List (Link × Expr))). v >>= λ links. Ok (chained m.value links.0, links.1)) (i.same (most_links l (length (i.front ++ more))) more (g ∙ ap first_of (sym p.second)) (most_fuel l m.left (i.front ++ more)))
          ∙ ap (λ (x : Expr). Ok (x, more)) p.first);
    }

chain_stuck : (l : Level) (F : Form) (go : Lexeme → Bool) (R : Reader) → Reads F go R → Steps F R → (ts left : List Lexeme) → chain_from l R ts ≡ Err left → Stuck (chain_form l F) (chain_from l R) ts left
unfolding chain_from
chain_stuck l F go R r s ts left h =
    elim (failed_of (R ts) (then_links l R) left h) [
      | inl a ↦ (
          let w = s.stuck ts left a in
          record {
            front = w.front;
            parts = w.parts;
            begun = λ k. (let b = w.begun k in (b.0, b.1, (b.1, [], refl, none_stand l, (k, b.2, refl))));
            same = λ more g. ap (λ (v : Read Expr). v >>= then_links l R) (w.same more g);
          })
      | inr m ↦ elim (failed_of (links_at (most_links l (length m.behind)) l R [] m.behind) (λ links. (let r : Read Expr = Ok (chained m.value links.0, links.1) in r)) left m.second) [
        | inl b ↦ (
            let w = s.took ts m.value m.behind m.first in
            let i = links_stuck l F go R r s (most_links l (length m.behind)) [] m.behind left b in
            record {
              front = w.front ++ i.front;
              parts = w.parts ∙ (ap (λ (us : List Lexeme). w.front ++ us) i.parts ∙ sym (append_assoc w.front i.front left));
              begun = λ k. (
                  let c = i.begun k in
                  (c.0, chained m.value c.1, (m.value, c.1, refl, may_stand l (length m.behind) c.1 c.2, (i.front ++ (c.0 ++ k), subst (λ (us : List Lexeme). F m.value us (i.front ++ (c.0 ++ k))) (sym (append_assoc w.front i.front (c.0 ++ k))) (w.fits (i.front ++ (c.0 ++ k))), c.3))));
              same = λ more g.
                  let read : R ((w.front ++ i.front) ++ more) ≡ Ok (m.value, i.front ++ more) = ap R (append_assoc w.front i.front more) ∙ w.same (i.front ++ more) (first_behind i.front more left g ∙ ap first_of (sym i.parts)) in
                  ap (λ (v : Read Expr). v >>= then_links l R) read
                  ∙ ap (λ (v : Read (List (Link × Expr))). v >>= λ links. (let r : Read Expr = Ok (chained m.value links.0, links.1) in r)) (i.same (most_links l (length (i.front ++ more))) more g (most_fuel l m.behind (i.front ++ more)));
            })
        | inr n ↦ absurd (let c : (let r : Read Expr = Ok (chained m.value n.value, n.behind) in r) ≡ Err left = n.second in cc)
      ]
    ]

chain_empty : (l : Level) (R : Reader) → R [] ≡ Err [] → chain_from l R [] ≡ Err []
unfolding chain_from
chain_empty l R h = ap (λ (v : Read Expr). v >>= then_links l R) h

pub chain_steps : (l : Level) (F : Form) (go : Lexeme → Bool) (R : Reader) → Reads F go R → Steps F R → Steps (chain_form l F) (chain_from l R)
chain_steps l F go R r s = record {
  took = chain_took l F go R r s;
  stuck = chain_stuck l F go R r s;
  some = λ k. (let b = s.some k in (b.0, b.1, (b.1, [], refl, none_stand l, (k, b.2, refl))));
  empty = chain_empty l R s.empty;
}
