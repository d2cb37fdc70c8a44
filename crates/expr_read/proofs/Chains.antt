-- A reader of operands and their grammar give those of a level.
use Rattle.std.proofs.Common.{◌≡◌, ◌≤◌, ◌<◌, ◌+◌, ℕ, zero, suc, List, [], ◌∷◌, ◌++◌, Bool, true, false, Option, Some, None, Ok, Err, length, refl, sym, ap, subst, ◌∙◌, arith, append_assoc}
use Rattle.std.specs.Prelude.{◌||◌}
use Rattle.std.proofs.lemmas.List.{append-nil}
use Rattle.ds_lex.specs.Lexemes.{Lexeme}
use Rattle.ds_lex.specs.Reading.{◌>>=◌}
use Rattle.expr_read.specs.declared.tree.Link.{Link}
use Rattle.expr_read.specs.declared.tree.Expr.{Expr}
use Rattle.expr_read.specs.declared.what.Level.{Level}
use Rattle.expr_read.specs.declared.what.Level.TheVariants as level
use Rattle.expr_read.specs.Marks.{what_of}
use Rattle.expr_read.specs.Reading.{Read, Reader, behind, link_at, link_by, behind_link, links_at, most_links, chained, chain_from, closes, next_what}
use Rattle.expr_read.specs.Grammar.{Form, links_phrase, MayStand, chain_form}

-- whether the first token passes
abbrev pub goes : (Lexeme → Bool) → List Lexeme → Bool
goes go [] = false
goes go (t ∷ ts) = go t

-- The reader reads what the form spells, where no token that goes on follows.
pub record Reads (F : Form) (go : Lexeme → Bool) (R : Reader) : Type 0 where
  pub sound : (ts : List Lexeme) (e : Expr) (rest : List Lexeme) → R ts ≡ Ok (e, rest) → F e ts rest
  pub all : (e : Expr) (ts rest : List Lexeme) → F e ts rest → goes go rest ≡ false → R ts ≡ Ok (e, rest)
  pub takes : (e : Expr) (ts rest : List Lexeme) → F e ts rest → length rest < length ts
  pub begins : (e : Expr) (ts rest : List Lexeme) → F e ts rest → closes (next_what ts) ≡ false

-- a pair that was read, by its parts
pub record Parts {A : Type 0} (x : A × List Lexeme) (a : A) (ts : List Lexeme) : Type 0 where
  pub first : x.0 ≡ a
  pub second : x.1 ≡ ts

pub parts : {A : Type 0} (x : A × List Lexeme) (a : A) (ts : List Lexeme) → (let r : Read A = Ok x in r) ≡ Ok (a, ts) → Parts x a ts
parts x a ts e = let same : x ≡ (a, ts) = cc in record { first = ap (λ y. y.0) same; second = ap (λ y. y.1) same }

-- what was read, and what was made of it
pub record Made {A B : Type 0} (r : Read A) (f : A × List Lexeme → Read B) (b : B) (rest : List Lexeme) : Type 0 where
  pub value : A
  pub left : List Lexeme
  pub first : r ≡ Ok (value, left)
  pub second : f (value, left) ≡ Ok (b, rest)

pub made_of : {A B : Type 0} (r : Read A) (f : A × List Lexeme → Read B) (b : B) (rest : List Lexeme) → (r >>= f) ≡ Ok (b, rest) → Made r f b rest
made_of (Ok (a, ts)) f b rest e = record { value = a; left = ts; first = refl; second = e }
made_of (Err ts) f b rest e = absurd cc

-- ---- signs with operands

pub record LinksRead (l : Level) (F : Form) (k : ℕ) (found all : List (Link × Expr)) (ts rest : List Lexeme) : Type 0 where
  pub links : List (Link × Expr)
  pub whole : all ≡ found ++ links
  pub few : length links ≤ k
  pub form : links_phrase l F links ts rest

links_none : (l : Level) (F : Form) (k : ℕ) (found all : List (Link × Expr)) (ts rest : List Lexeme) → (let r : Read (List (Link × Expr)) = Ok (found, ts) in r) ≡ Ok (all, rest) → LinksRead l F k found all ts rest
links_none l F k found all ts rest e = let p = parts (found, ts) all rest e in record { links = []; whole = sym p.first ∙ sym (append-nil found); few = omega arith; form = p.second }

links_by : (l : Level) (F : Form) (R : Reader) (k : ℕ) (found all : List (Link × Expr)) (t : Lexeme) (ts rest : List Lexeme) (o : Option Link) → link_by l t.at (what_of t) ≡ o
    → behind_link o (let r : Read (List (Link × Expr)) = Ok (found, t ∷ ts) in r) (λ link. R ts >>= λ x. links_at k l R (found ++ (link, x.0) ∷ []) x.1) ≡ Ok (all, rest)
    → ((us : List Lexeme) (e : Expr) (vs : List Lexeme) → R us ≡ Ok (e, vs) → F e us vs)
    → ((more : List (Link × Expr)) (us : List Lexeme) → links_at k l R more us ≡ Ok (all, rest) → LinksRead l F k more all us rest)
    → LinksRead l F (suc k) found all (t ∷ ts) rest
links_by l F R k found all t ts rest None g e sound again = links_none l F (suc k) found all (t ∷ ts) rest e
links_by l F R k found all t ts rest (Some link) g e sound again =
    let m = made_of (R ts) (λ x. links_at k l R (found ++ (link, x.0) ∷ []) x.1) all rest e in
    let r = again (found ++ (link, m.value) ∷ []) m.left m.second in
    record {
      links = (link, m.value) ∷ r.links;
      whole = r.whole ∙ append_assoc found ((link, m.value) ∷ []) r.links;
      few = omega (arith, r.few);
      form = (ts, (g, refl), (m.left, sound ts m.value m.left m.first, r.form));
    }

links_sound : (l : Level) (F : Form) (go : Lexeme → Bool) (R : Reader) → Reads F go R → (k : ℕ) (found all : List (Link × Expr)) (ts rest : List Lexeme) → links_at k l R found ts ≡ Ok (all, rest) → LinksRead l F k found all ts rest
unfolding links_at
links_sound l F go R h zero found all ts rest e = links_none l F zero found all ts rest e
links_sound l F go R h (suc k) found all [] rest e = links_none l F (suc k) found all [] rest e
links_sound l F go R h (suc k) found all (t ∷ ts) rest e =
    links_by l F R k found all t ts rest (link_by l t.at (what_of t)) refl e h.sound (λ more us e'. links_sound l F go R h k more all us rest e')

abbrev pub is_some_link : Option Link → Bool
is_some_link (Some link) = true
is_some_link None = false

-- a sign of the level comes
abbrev pub is_link : Level → Lexeme → Bool
is_link l t = is_some_link (link_by l t.at (what_of t))

links_fewer : (l : Level) (F : Form) → ((e : Expr) (ts rest : List Lexeme) → F e ts rest → length rest < length ts) → (links : List (Link × Expr)) (ts rest : List Lexeme) → links_phrase l F links ts rest → length links + length rest ≤ length ts
links_fewer l F takes [] ts rest h = omega (arith, ap length h)
links_fewer l F takes (x ∷ xs) [] rest h = absurd h.1
links_fewer l F takes (x ∷ xs) (t ∷ ts) rest h =
    let k = takes x.1 h.0 h.2.0 h.2.1 in
    let m = links_fewer l F takes xs h.2.0 rest h.2.2 in
    omega (arith, k, m, ap length h.1.1)

no_link : (o : Option Link) → is_some_link o ≡ false → o ≡ None
no_link None h = refl
no_link (Some link) h = absurd cc

no_link_at : (l : Level) (ts : List Lexeme) → goes (is_link l) ts ≡ false → link_at l ts ≡ None
no_link_at l [] h = refl
no_link_at l (t ∷ ts) h = no_link (link_by l t.at (what_of t)) h

-- what a sign of the level begins isn't what an operand goes on with
front_apart : (l : Level) (F : Form) (go : Lexeme → Bool) → ((t : Lexeme) → is_link l t ≡ true → go t ≡ false) → (links : List (Link × Expr)) (ts rest : List Lexeme) → links_phrase l F links ts rest → goes go rest ≡ false → goes go ts ≡ false
front_apart l F go apart [] ts rest h g = ap (goes go) h ∙ g
front_apart l F go apart (x ∷ xs) [] rest h g = absurd h.1
front_apart l F go apart (x ∷ xs) (t ∷ ts) rest h g = apart t (ap is_some_link h.1.0)

links_none_at : (k : ℕ) (l : Level) (R : Reader) (found : List (Link × Expr)) (ts rest : List Lexeme) → ts ≡ rest → goes (is_link l) rest ≡ false → links_at k l R found ts ≡ Ok (found ++ [], rest)
unfolding links_at
links_none_at zero l R found ts rest h n = ap (λ (us : List Lexeme). Ok (found, us)) h ∙ ap (λ (ls : List (Link × Expr)). Ok (ls, rest)) (sym (append-nil found))
links_none_at (suc k) l R found ts rest h n =
    ap (λ (o : Option Link). behind_link o (let r : Read (List (Link × Expr)) = Ok (found, ts) in r) (λ link. R (behind ts) >>= λ x. links_at k l R (found ++ (link, x.0) ∷ []) x.1)) (no_link_at l ts (ap (goes (is_link l)) h ∙ n))
    ∙ (ap (λ (us : List Lexeme). Ok (found, us)) h ∙ ap (λ (ls : List (Link × Expr)). Ok (ls, rest)) (sym (append-nil found)))

pub links_once : (k : ℕ) (l : Level) (R : Reader) (found : List (Link × Expr)) (t : Lexeme) (ts us : List Lexeme) (link : Link) (e : Expr) → link_by l t.at (what_of t) ≡ Some link → R ts ≡ Ok (e, us) → links_at (suc k) l R found (t ∷ ts) ≡ links_at k l R (found ++ (link, e) ∷ []) us
unfolding links_at
links_once k l R found t ts us link e g o =
    ap (λ (m : Option Link). behind_link m (let r : Read (List (Link × Expr)) = Ok (found, t ∷ ts) in r) (λ n. R ts >>= λ x. links_at k l R (found ++ (n, x.0) ∷ []) x.1)) g
    ∙ ap (λ (v : Read Expr). v >>= λ x. links_at k l R (found ++ (link, x.0) ∷ []) x.1) o

links_all : (l : Level) (F : Form) (go : Lexeme → Bool) (R : Reader) → Reads F go R → ((t : Lexeme) → is_link l t ≡ true → go t ≡ false) → (k : ℕ) (found links : List (Link × Expr)) (ts rest : List Lexeme) → length links ≤ k → links_phrase l F links ts rest
    → goes go rest ≡ false → goes (is_link l) rest ≡ false → links_at k l R found ts ≡ Ok (found ++ links, rest)
links_all l F go R r apart zero found [] ts rest n h g n' = links_none_at zero l R found ts rest h n'
links_all l F go R r apart (suc k) found [] ts rest n h g n' = links_none_at (suc k) l R found ts rest h n'
links_all l F go R r apart zero found (x ∷ xs) ts rest n h g n' = absurd (omega arith)
links_all l F go R r apart (suc k) found (x ∷ xs) [] rest n h g n' = absurd h.1
links_all l F go R r apart (suc k) found (x ∷ xs) (t ∷ ts) rest n h g n' =
    let read : R ts ≡ Ok (x.1, h.2.0) = ap R h.1.1 ∙ r.all x.1 h.0 h.2.0 h.2.1 (front_apart l F go apart xs h.2.0 rest h.2.2 g) in
    let more = links_all l F go R r apart k (found ++ (x.0, x.1) ∷ []) xs h.2.0 rest (omega arith) h.2.2 g n' in
    links_once k l R found t ts h.2.0 x.0 x.1 h.1.0 read ∙ (more ∙ ap (λ (ls : List (Link × Expr)). Ok (ls, rest)) (append_assoc found (x ∷ []) xs))

-- ---- a level

pub may_stand : (l : Level) (n : ℕ) (links : List (Link × Expr)) → length links ≤ most_links l n → MayStand l links
may_stand level.Compare n links h = h
may_stand level.Or n links h = tt
may_stand level.And n links h = tt
may_stand level.Sum n links h = tt
may_stand level.Product n links h = tt

enough : (l : Level) (n : ℕ) (links : List (Link × Expr)) → MayStand l links → length links ≤ n → length links ≤ most_links l n
enough level.Compare n links m h = m
enough level.Or n links m h = h
enough level.And n links m h = h
enough level.Sum n links m h = h
enough level.Product n links m h = h

either_false : (a b : Bool) → (a || b) ≡ false → (a ≡ false) × (b ≡ false)
either_false true b h = absurd cc
either_false false b h = (refl, h)

abbrev pub goes_on : (Lexeme → Bool) → Level → Lexeme → Bool
goes_on go l t = go t || is_link l t

stops_both : (go : Lexeme → Bool) (l : Level) (rest : List Lexeme) → goes (goes_on go l) rest ≡ false → (goes go rest ≡ false) × (goes (is_link l) rest ≡ false)
stops_both go l [] h = (refl, refl)
stops_both go l (t ∷ ts) h = either_false (go t) (is_link l t) h

pub chain_reads : (l : Level) (F : Form) (go : Lexeme → Bool) (R : Reader) → ((t : Lexeme) → is_link l t ≡ true → go t ≡ false) → Reads F go R → Reads (chain_form l F) (goes_on go l) (chain_from l R)
unfolding chain_from
chain_reads l F go R apart r = record {
  sound = λ ts e rest h.
      let m = made_of (R ts) (λ first. links_at (most_links l (length first.1)) l R [] first.1 >>= λ links. Ok (chained first.0 links.0, links.1)) e rest h in
      let n = made_of (links_at (most_links l (length m.left)) l R [] m.left) (λ links. Ok (chained m.value links.0, links.1)) e rest m.second in
      let p = parts (chained m.value n.value, n.left) e rest n.second in
      let k = links_sound l F go R r (most_links l (length m.left)) [] n.value m.left n.left n.first in
      (m.value, k.links, sym p.first ∙ ap (chained m.value) k.whole, may_stand l (length m.left) k.links k.few, (m.left, r.sound ts m.value m.left m.first, subst (λ (us : List Lexeme). links_phrase l F k.links m.left us) p.second k.form));
  all = λ e ts rest h g.
      let s = stops_both go l rest g in
      let f = h.4 in
      let few = links_fewer l F r.takes h.1 f.0 rest f.2 in
      let first : R ts ≡ Ok (h.0, f.0) = r.all h.0 ts f.0 f.1 (front_apart l F go apart h.1 f.0 rest f.2 s.0) in
      let more : links_at (most_links l (length f.0)) l R [] f.0 ≡ Ok (h.1, rest) = links_all l F go R r apart (most_links l (length f.0)) [] h.1 f.0 rest (enough l (length f.0) h.1 h.3 (omega (arith, few))) f.2 s.0 s.1 in
      ap (λ (v : Read Expr). v >>= λ first. links_at (most_links l (length first.1)) l R [] first.1 >>= λ links. Ok (chained first.0 links.0, links.1)) first
      ∙ (ap (λ (v : Read (List (Link × Expr))). v >>= λ links. Ok (chained h.0 links.0, links.1)) more ∙ ap (λ (x : Expr). Ok (x, rest)) (sym h.2));
  takes = λ e ts rest h.
      let f = h.4 in
      let few = links_fewer l F r.takes h.1 f.0 rest f.2 in
      let one = r.takes h.0 ts f.0 f.1 in
      omega (arith, few, one);
  begins = λ e ts rest h. r.begins h.0 ts h.4.0 h.4.1;
}
