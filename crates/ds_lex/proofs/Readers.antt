-- How readers and phrases go together: what a reader takes is spelled so, and where it stops no phrase goes on.
use Rattle.std.proofs.Common.{◌≡◌, inl, inr, ℕ, List, [], ◌∷◌, ◌++◌, Bool, true, false, Result, Ok, Err, refl, sym, ap, ◌∙◌, append_assoc, subst, Some, None}
use Rattle.std.specs.Prelude.{if◌then◌else◌}
use Rattle.std.specs.Str.{bytes_eq}
use Rattle.std.proofs.lemmas.Slice.Eq.{bytes_eq-Decides}
use Rattle.ds_lex.specs.declared.token.Sort.{Sort}
use Rattle.ds_lex.specs.declared.token.Sort.TheVariants as sort
use Rattle.ds_lex.specs.declared.refusal.Refusal.{Refusal}
use Rattle.ds_lex.specs.declared.refusal.Refusal.TheVariants as refusal
use Rattle.ds_lex.specs.declared.refusal.Stop.{Stop}
use Rattle.ds_lex.specs.declared.refusal.Stop.TheVariants as stop
use Rattle.ds_lex.specs.Lexemes.{Lexeme}
use Rattle.ds_lex.specs.Reading.{◌>>=◌, refuse, is_sort, expect_at, accept_at, finish_at, first_of, Fails}
use Rattle.ds_lex.specs.Phrases.{Phrase, word, ◌~◌, ◌<|>◌, AreWhole, IsAt, StopsAt}

-- ---- steps

-- a call that stopped in a part stopped in the whole
pub fails_bind : {W A B : Type 0} (e : Stop W) (read : Result A (Refusal W)) (f : A → Result B (Refusal W)) → Fails e read → Fails e (read >>= f)
fails_bind (stop.Refused r) read f h = ap (λ x. x >>= f) h
fails_bind stop.Memory read f h = h

pub bind_ok : {E A B : Type 0} (r : Result A E) (f : A → Result B E) (y : B) → (r >>= f) ≡ Ok y → (x : A) × (r ≡ Ok x) × (f x ≡ Ok y)
bind_ok (Ok x) f y e = (x, refl, e)
bind_ok (Err d) f y e = absurd cc

-- ---- tests

pub same_sort : (a b : Sort) → is_sort a b ≡ true → b ≡ a
same_sort sort.Word sort.Word h = refl
same_sort sort.Opt sort.Opt h = refl
same_sort sort.Number sort.Number h = refl
same_sort sort.Quoted sort.Quoted h = refl
same_sort sort.Sign sort.Sign h = refl
same_sort a b h = absurd cc

pub sort_same : (a : Sort) → is_sort a a ≡ true
sort_same sort.Word = refl
sort_same sort.Opt = refl
sort_same sort.Number = refl
sort_same sort.Quoted = refl
sort_same sort.Sign = refl

pub same_bytes : (a b : List ℕ) → bytes_eq a b ≡ true → a ≡ b
same_bytes a b h = (bytes_eq-Decides a b).0 h

pub bytes_same : (a b : List ℕ) → a ≡ b → bytes_eq a b ≡ true
bytes_same a b h = (bytes_eq-Decides a b).1 h

-- ---- readers

abbrev pub Reader : Type 0 → Type 0 → Type 0
Reader W X = List Lexeme → Result (X × List Lexeme) (Refusal W)

-- there are tokens of which one of the phrases holds, whatever follows them
abbrev pub CanStand : {X : Type 0} → (X → Phrase) → Type 0
CanStand {X} P = (x : X) × (end : List Lexeme) × ((more : List Lexeme) → P x (end ++ more) more)

-- The reader took the tokens up to `rest` as x: the phrase holds of them, and they are taken as x whatever follows the next token.
pub record Takes {W X : Type 0} (P : X → Phrase) (r : Reader W X) (ts : List Lexeme) (x : X) (rest : List Lexeme) : Type 0 where
  pub front : List Lexeme
  pub parts : ts ≡ front ++ rest
  pub holds : (more : List Lexeme) → P x (front ++ more) more
  pub again : (more : List Lexeme) → first_of more ≡ first_of rest → r (front ++ more) ≡ Ok (x, more)

abbrev pub IsSome : List Lexeme → Type 0
IsSome [] = ⊥
IsSome (t ∷ ts) = Unit {0}

-- The reader stopped at the first token of `left`, whatever follows that, and the tokens before it, where there are some, can be
-- completed.
pub record Stops {W X : Type 0} (P : X → Phrase) (r : Reader W X) (ts : List Lexeme) (e : Refusal W) : Type 0 where
  pub front : List Lexeme
  pub left : List Lexeme
  pub parts : ts ≡ front ++ left
  pub place : IsAt e left
  pub goes_on : IsSome front → (x : X) × (end : List Lexeme) × ((more : List Lexeme) → P x (front ++ (end ++ more)) more)
  pub again : (more : List Lexeme) → first_of more ≡ first_of left → r (front ++ more) ≡ Err e

abbrev pub Outcome : {W X : Type 0} → (X → Phrase) → Reader W X → List Lexeme → Result (X × List Lexeme) (Refusal W) → Type 0
Outcome P r ts (Ok p) = Takes P r ts p.0 p.1
Outcome P r ts (Err e) = Stops P r ts e

-- what the reader takes are the phrases, and where it stops none goes on
abbrev pub IsReader : {W X : Type 0} → (X → Phrase) → Reader W X → Type 0
IsReader P r = (ts : List Lexeme) → Outcome P r ts (r ts)

-- a phrase, and then one that depends on what it says
abbrev pub chain : {X Y : Type 0} → (X → Phrase) → (X → Y → Phrase) → Y → Phrase
chain {X} P Q y ts rest = (x : X) × (between : List Lexeme) × P x ts between × Q x y between rest

abbrev pub bind : {W X Y : Type 0} → Reader W X → (X → Reader W Y) → Reader W Y
bind r f ts = r ts >>= λ p. f p.0 p.1

-- tokens that begin alike do so behind a front too
pub first_append : (front a b : List Lexeme) → first_of a ≡ first_of b → first_of (front ++ a) ≡ first_of (front ++ b)
first_append [] a b h = h
first_append (t ∷ front) a b h = refl

again_then : {W X Y : Type 0} (r : Reader W X) (f : X → Reader W Y) (front second more next : List Lexeme) (x : X) (v : Result (Y × List Lexeme) (Refusal W))
    → ((more : List Lexeme) → first_of more ≡ first_of next → r (front ++ more) ≡ Ok (x, more)) → first_of (second ++ more) ≡ first_of next → f x (second ++ more) ≡ v → bind r f ((front ++ second) ++ more) ≡ v
again_then r f front second more next x v again same e = ap (bind r f) (append_assoc front second more) ∙ (ap (λ o. o >>= λ p. f p.0 p.1) (again (second ++ more) same) ∙ e)

regroup : (a b c : List Lexeme) (P : List Lexeme → Type 0) → P (a ++ (b ++ c)) → P ((a ++ b) ++ c)
regroup a b c P h = subst P (sym (append_assoc a b c)) h

-- behind a first part a second can be completed, or begun
completed : {X Y : Type 0} (P : X → Phrase) (Q : X → Y → Phrase) (x : X) (front second : List Lexeme) → ((more : List Lexeme) → P x (front ++ more) more) → CanStand (Q x) → (IsSome second → (y : Y) × (end : List Lexeme) × ((more : List Lexeme) → Q x y (second ++ (end ++ more)) more))
    → (y : Y) × (end : List Lexeme) × ((more : List Lexeme) → chain P Q y ((front ++ second) ++ (end ++ more)) more)
completed P Q x front [] holds stand goes_on = (stand.0, stand.1, λ more. regroup front [] (stand.1 ++ more) (λ (xs : List Lexeme). chain P Q stand.0 xs more) (x, stand.1 ++ more, holds (stand.1 ++ more), stand.2 more))
completed P Q x front (t ∷ second) holds stand goes_on =
    let g = goes_on tt in
    (g.0, g.1, λ more. regroup front (t ∷ second) (g.1 ++ more) (λ (xs : List Lexeme). chain P Q g.0 xs more) (x, (t ∷ second) ++ (g.1 ++ more), holds ((t ∷ second) ++ (g.1 ++ more)), g.2 more))

second : {W X Y : Type 0} (P : X → Phrase) (Q : X → Y → Phrase) (r : Reader W X) (f : X → Reader W Y) (ts : List Lexeme) (x : X) (mid : List Lexeme) → Takes P r ts x mid → CanStand (Q x) → (v : Result (Y × List Lexeme) (Refusal W)) → Outcome (Q x) (f x) mid v → Outcome (chain P Q) (bind r f) ts v
second P Q r f ts x mid a stand (Ok p) b = record {
  front = a.front ++ b.front;
  parts = a.parts ∙ (ap (λ (xs : List Lexeme). a.front ++ xs) b.parts ∙ sym (append_assoc a.front b.front p.1));
  holds = λ more. regroup a.front b.front more (λ (xs : List Lexeme). chain P Q p.0 xs more) (x, b.front ++ more, a.holds (b.front ++ more), b.holds more);
  again = λ more h. again_then r f a.front b.front more mid x (Ok (p.0, more)) a.again (first_append b.front more p.1 h ∙ sym (ap first_of b.parts)) (b.again more h);
}
second P Q r f ts x mid a stand (Err e) b = record {
  front = a.front ++ b.front;
  left = b.left;
  parts = a.parts ∙ (ap (λ (xs : List Lexeme). a.front ++ xs) b.parts ∙ sym (append_assoc a.front b.front b.left));
  place = b.place;
  goes_on = λ _. completed P Q x a.front b.front a.holds stand b.goes_on;
  again = λ more h. again_then r f a.front b.front more mid x (Err e) a.again (first_append b.front more b.left h ∙ sym (ap first_of b.parts)) (b.again more h);
}

first : {W X Y : Type 0} (P : X → Phrase) (Q : X → Y → Phrase) (r : Reader W X) (f : X → Reader W Y) (ts : List Lexeme) → ((x : X) (us rest : List Lexeme) → P x us rest → IsReader (Q x) (f x) × CanStand (Q x)) → (v : Result (X × List Lexeme) (Refusal W)) → Outcome P r ts v → Outcome (chain P Q) (bind r f) ts (v >>= λ p. f p.0 p.1)
first P Q r f ts others (Ok p) a =
    let o = others p.0 (a.front ++ []) [] (a.holds []) in
    second P Q r f ts p.0 p.1 a o.1 (f p.0 p.1) (o.0 p.1)
first P Q r f ts others (Err e) a = record {
  front = a.front;
  left = a.left;
  parts = a.parts;
  place = a.place;
  goes_on = λ is.
      (let g = a.goes_on is in
      let n = (others g.0 (a.front ++ (g.1 ++ [])) [] (g.2 [])).1 in
      (n.0, g.1 ++ n.1, λ more. subst (λ (xs : List Lexeme). chain P Q n.0 (a.front ++ xs) more) (sym (append_assoc g.1 n.1 more)) (g.0, n.1 ++ more, g.2 (n.1 ++ more), n.2 more)));
  again = λ more h. ap (λ o. o >>= λ p. f p.0 p.1) (a.again more h);
}

-- what follows may rest on what the first phrase says
pub bind_reads_where : {W X Y : Type 0} (P : X → Phrase) (Q : X → Y → Phrase) (r : Reader W X) (f : X → Reader W Y) → IsReader P r → ((x : X) (us rest : List Lexeme) → P x us rest → IsReader (Q x) (f x) × CanStand (Q x)) → IsReader (chain P Q) (bind r f)
bind_reads_where P Q r f reads others ts = first P Q r f ts others (r ts) (reads ts)

pub bind_reads : {W X Y : Type 0} (P : X → Phrase) (Q : X → Y → Phrase) (r : Reader W X) (f : X → Reader W Y) → IsReader P r → ((x : X) → IsReader (Q x) (f x)) → ((x : X) → CanStand (Q x)) → IsReader (chain P Q) (bind r f)
bind_reads P Q r f reads others stand = bind_reads_where P Q r f reads (λ x us rest h. (others x, stand x))

pub bind_stands : {X Y : Type 0} (P : X → Phrase) (Q : X → Y → Phrase) → CanStand P → ((x : X) → CanStand (Q x)) → CanStand (chain P Q)
bind_stands P Q p q =
    let n = q p.0 in
    (n.0, p.1 ++ n.1, λ more. subst (λ (xs : List Lexeme). chain P Q n.0 xs more) (sym (append_assoc p.1 n.1 more)) (p.0, n.1 ++ more, p.2 (n.1 ++ more), n.2 more))

-- ---- a phrase in place of another

map_outcome : {W X : Type 0} (P Q : X → Phrase) (r : Reader W X) (ts : List Lexeme) → ((x : X) (ts rest : List Lexeme) → P x ts rest → Q x ts rest) → (v : Result (X × List Lexeme) (Refusal W)) → Outcome P r ts v → Outcome Q r ts v
map_outcome P Q r ts h (Ok p) a = record { front = a.front; parts = a.parts; holds = λ more. h p.0 (a.front ++ more) more (a.holds more); again = a.again }
map_outcome P Q r ts h (Err e) a = record {
  front = a.front;
  left = a.left;
  parts = a.parts;
  place = a.place;
  goes_on = λ is. (let g = a.goes_on is in (g.0, g.1, λ more. h g.0 (a.front ++ (g.1 ++ more)) more (g.2 more)));
  again = a.again;
}

pub map_reads : {W X : Type 0} (P Q : X → Phrase) (r : Reader W X) → ((x : X) (ts rest : List Lexeme) → P x ts rest → Q x ts rest) → IsReader P r → IsReader Q r
map_reads P Q r h reads ts = map_outcome P Q r ts h (r ts) (reads ts)

pub map_stands : {X : Type 0} (P Q : X → Phrase) → ((x : X) (ts rest : List Lexeme) → P x ts rest → Q x ts rest) → CanStand P → CanStand Q
map_stands P Q h p = (p.0, p.1, λ more. h p.0 (p.1 ++ more) more (p.2 more))

same_outcome : {W X : Type 0} (P : X → Phrase) (r s : Reader W X) (ts : List Lexeme) → ((ts : List Lexeme) → s ts ≡ r ts) → (v : Result (X × List Lexeme) (Refusal W)) → Outcome P r ts v → Outcome P s ts v
same_outcome P r s ts same (Ok p) a = record { front = a.front; parts = a.parts; holds = a.holds; again = λ more h. same (a.front ++ more) ∙ a.again more h }
same_outcome P r s ts same (Err e) a = record { front = a.front; left = a.left; parts = a.parts; place = a.place; goes_on = a.goes_on; again = λ more h. same (a.front ++ more) ∙ a.again more h }

-- a reader in place of an equal one
pub same_reads : {W X : Type 0} (P : X → Phrase) (r s : Reader W X) → ((ts : List Lexeme) → s ts ≡ r ts) → IsReader P r → IsReader P s
same_reads P r s same reads ts = rw (same ts) (same_outcome P r s ts same (r ts) (reads ts))

-- ---- readers of at most one token

none_first : (more : List Lexeme) → first_of more ≡ first_of [] → more ≡ []
none_first [] h = refl
none_first (t ∷ more) h = absurd cc

some_first : (more : List Lexeme) (t : Lexeme) (ts : List Lexeme) → first_of more ≡ first_of (t ∷ ts) → (rest : List Lexeme) × (more ≡ t ∷ rest)
some_first [] t ts h = absurd cc
some_first (u ∷ more) t ts h = (more, (let e : u ≡ t = cc in ap (λ x. x ∷ more) e))

abbrev pub gives : {W X : Type 0} → X → Reader W X
gives x ts = Ok (x, ts)

abbrev pub given : {X : Type 0} → X → X → Phrase
given x y ts rest = (y ≡ x) × (ts ≡ rest)

pub gives_reads : {W X : Type 0} (x : X) → IsReader (given x) (gives {W = W} x)
gives_reads x ts = record { front = []; parts = refl; holds = λ more. (refl, refl); again = λ more h. refl }

pub gives_stands : {X : Type 0} (x : X) → CanStand (given x)
gives_stands x = (x, [], λ more. (refl, refl))

-- one token was taken
pub took : {W X : Type 0} (P : X → Phrase) (r : Reader W X) (t : Lexeme) (ts : List Lexeme) (x : X) → ((more : List Lexeme) → P x (t ∷ more) more) → ((more : List Lexeme) → r (t ∷ more) ≡ Ok (x, more)) → Takes P r (t ∷ ts) x ts
took P r t ts x holds again = record { front = t ∷ []; parts = refl; holds = holds; again = λ more h. again more }

-- the first token was refused
pub refused : {W X : Type 0} (P : X → Phrase) (r : Reader W X) (t : Lexeme) (ts : List Lexeme) (why : W) → ((more : List Lexeme) → r (t ∷ more) ≡ Err (refusal.At t.at why)) → Stops P r (t ∷ ts) (refusal.At t.at why)
refused P r t ts why again = record { front = []; left = t ∷ ts; parts = refl; place = refl; goes_on = λ no. absurd no; again = λ more h. (let m = some_first more t ts h in ap r m.1 ∙ again m.0) }

-- there was no token
pub ended : {W X : Type 0} (P : X → Phrase) (r : Reader W X) → r [] ≡ Err refusal.AtEnd → Stops P r [] refusal.AtEnd
ended P r e = record { front = []; left = []; parts = refl; place = refl; goes_on = λ no. absurd no; again = λ more h. ap r (none_first more h) ∙ e }

-- this token, which is this word or sign
abbrev pub said : List ℕ → Lexeme → Phrase
said bytes t ts rest = (t.bytes ≡ bytes) × (ts ≡ t ∷ rest)

pub to_word : (bytes : List ℕ) (t : Lexeme) (ts rest : List Lexeme) → said bytes t ts rest → word bytes ts rest
to_word bytes t ts rest h = rw h.1 (h.0, refl)

pub from_word : (bytes : List ℕ) (ts rest : List Lexeme) → word bytes ts rest → (t : Lexeme) × said bytes t ts rest
from_word bytes [] rest h = absurd h
from_word bytes (t ∷ ts) rest h = (t, (h.0, ap (λ (us : List Lexeme). t ∷ us) h.1))

pub expect_stands : (bytes : List ℕ) → CanStand (said bytes)
expect_stands bytes = (record { at = 0; sort = sort.Word; bytes = bytes }, record { at = 0; sort = sort.Word; bytes = bytes } ∷ [], λ more. (refl, refl))

expect_by : {W : Type 0} (bytes : List ℕ) (why : W) (t : Lexeme) (ts : List Lexeme) (b : Bool) → bytes_eq t.bytes bytes ≡ b → Outcome (said bytes) (expect_at bytes why) (t ∷ ts) (if b then Ok (t, ts) else refuse t why)
unfolding expect_at
expect_by bytes why t ts true e = took (said bytes) (expect_at bytes why) t ts t (λ more. (same_bytes t.bytes bytes e, refl)) (λ more. rw e refl)
expect_by bytes why t ts false e = refused (said bytes) (expect_at bytes why) t ts why (λ more. rw e refl)

pub expect_reads : {W : Type 0} (bytes : List ℕ) (why : W) → IsReader (said bytes) (expect_at bytes why)
unfolding expect_at
expect_reads bytes why [] = ended (said bytes) (expect_at bytes why) refl
expect_reads bytes why (t ∷ ts) = expect_by bytes why t ts (bytes_eq t.bytes bytes) refl

-- ---- readers that go by the next word or sign

abbrev pub choose : {W X : Type 0} → List ℕ → Reader W X → Reader W X → Reader W X
choose bytes r s ts = if (accept_at bytes ts).0 then r (accept_at bytes ts).1 else s (accept_at bytes ts).1

-- the word and what follows it, or the other
abbrev pub either : {X : Type 0} → List ℕ → (X → Phrase) → (X → Phrase) → X → Phrase
either bytes P Q x = (word bytes ~ P x) <|> Q x

accepted : (bytes : List ℕ) (t : Lexeme) (ts : List Lexeme) → bytes_eq t.bytes bytes ≡ true → accept_at bytes (t ∷ ts) ≡ (true, ts)
unfolding accept_at
accepted bytes t ts e = rw e refl

passed : (bytes : List ℕ) (t : Lexeme) (ts : List Lexeme) → bytes_eq t.bytes bytes ≡ false → accept_at bytes (t ∷ ts) ≡ (false, t ∷ ts)
unfolding accept_at
passed bytes t ts e = rw e refl

pub none_accepted : (bytes : List ℕ) → accept_at bytes [] ≡ (false, [])
unfolding accept_at
none_accepted bytes = refl

-- where the first token isn't the word
pub chosen_not : {W X : Type 0} (bytes : List ℕ) (r s : Reader W X) (ts : List Lexeme) → accept_at bytes ts ≡ (false, ts) → choose bytes r s ts ≡ s ts
chosen_not bytes r s ts e = rw e refl

pub chosen : {W X : Type 0} (bytes : List ℕ) (r s : Reader W X) (t : Lexeme) (ts : List Lexeme) → t.bytes ≡ bytes → choose bytes r s (t ∷ ts) ≡ r ts
chosen bytes r s t ts e = rw (accepted bytes t ts (bytes_same t.bytes bytes e)) refl

passed_by : (bytes : List ℕ) (t : Lexeme) (ts : List Lexeme) (b : Bool) → bytes_eq t.bytes bytes ≡ b → accept_at bytes (t ∷ ts) ≡ (false, t ∷ ts) → bytes_eq t.bytes bytes ≡ false
passed_by bytes t ts true e h = let k : true ≡ false = ap (λ (p : Bool × List Lexeme). p.0) (sym (accepted bytes t ts e) ∙ h) in absurd cc
passed_by bytes t ts false e h = e

-- tokens that begin alike are passed alike
passed_alike : (bytes : List ℕ) (ts us : List Lexeme) → accept_at bytes ts ≡ (false, ts) → first_of us ≡ first_of ts → accept_at bytes us ≡ (false, us)
unfolding accept_at
passed_alike bytes [] us e h = rw (none_first us h) refl
passed_alike bytes (t ∷ ts) [] e h = refl
passed_alike bytes (t ∷ ts) (u ∷ us) e h =
    let same : u ≡ t = cc in
    let no : bytes_eq u.bytes bytes ≡ false = ap (λ (x : Lexeme). bytes_eq x.bytes bytes) same ∙ passed_by bytes t ts (bytes_eq t.bytes bytes) refl e in
    passed bytes u us no

other_way : {W X : Type 0} (bytes : List ℕ) (P Q : X → Phrase) (r s : Reader W X) (ts : List Lexeme) → accept_at bytes ts ≡ (false, ts) → (v : Result (X × List Lexeme) (Refusal W)) → Outcome Q s ts v → Outcome (either bytes P Q) (choose bytes r s) ts v
other_way bytes P Q r s ts e (Ok p) a = record {
  front = a.front;
  parts = a.parts;
  holds = λ more. inr (a.holds more);
  again = λ more h. chosen_not bytes r s (a.front ++ more) (passed_alike bytes ts (a.front ++ more) e (first_append a.front more p.1 h ∙ sym (ap first_of a.parts))) ∙ a.again more h;
}
other_way bytes P Q r s ts e (Err d) a = record {
  front = a.front;
  left = a.left;
  parts = a.parts;
  place = a.place;
  goes_on = λ is. (let g = a.goes_on is in (g.0, g.1, λ more. inr (g.2 more)));
  again = λ more h. chosen_not bytes r s (a.front ++ more) (passed_alike bytes ts (a.front ++ more) e (first_append a.front more a.left h ∙ sym (ap first_of a.parts))) ∙ a.again more h;
}

goes_on_behind : {X : Type 0} (P : X → Phrase) (front : List Lexeme) → CanStand P → (IsSome front → (x : X) × (end : List Lexeme) × ((more : List Lexeme) → P x (front ++ (end ++ more)) more)) → (x : X) × (end : List Lexeme) × ((more : List Lexeme) → P x (front ++ (end ++ more)) more)
goes_on_behind P [] stand goes_on = stand
goes_on_behind P (t ∷ front) stand goes_on = goes_on tt

-- a reader that goes on behind a token as another one does
pub behind : {W X : Type 0} (P R : X → Phrase) (r s : Reader W X) (t : Lexeme) (ts : List Lexeme) → ((more : List Lexeme) → s (t ∷ more) ≡ r more) → ((x : X) (more rest : List Lexeme) → P x more rest → R x (t ∷ more) rest) → CanStand P → (v : Result (X × List Lexeme) (Refusal W)) → Outcome P r ts v → Outcome R s (t ∷ ts) v
behind P R r s t ts step more_holds stand (Ok p) a = record {
  front = t ∷ a.front;
  parts = ap (λ (xs : List Lexeme). t ∷ xs) a.parts;
  holds = λ more. more_holds p.0 (a.front ++ more) more (a.holds more);
  again = λ more h. step (a.front ++ more) ∙ a.again more h;
}
behind P R r s t ts step more_holds stand (Err d) a = record {
  front = t ∷ a.front;
  left = a.left;
  parts = ap (λ (xs : List Lexeme). t ∷ xs) a.parts;
  place = a.place;
  goes_on = λ _. (let g = goes_on_behind P a.front stand a.goes_on in (g.0, g.1, λ more. more_holds g.0 (a.front ++ (g.1 ++ more)) more (g.2 more)));
  again = λ more h. step (a.front ++ more) ∙ a.again more h;
}

choose_by : {W X : Type 0} (bytes : List ℕ) (P Q : X → Phrase) (r s : Reader W X) → IsReader P r → CanStand P → IsReader Q s → (t : Lexeme) (ts : List Lexeme) (b : Bool) → bytes_eq t.bytes bytes ≡ b → Outcome (either bytes P Q) (choose bytes r s) (t ∷ ts) (choose bytes r s (t ∷ ts))
choose_by bytes P Q r s p stand q t ts true e = rw (chosen bytes r s t ts (same_bytes t.bytes bytes e)) (behind P (either bytes P Q) r (choose bytes r s) t ts (λ more. chosen bytes r s t more (same_bytes t.bytes bytes e)) (λ x more rest h. inl (more, (same_bytes t.bytes bytes e, refl), h)) stand (r ts) (p ts))
choose_by bytes P Q r s p stand q t ts false e = rw (chosen_not bytes r s (t ∷ ts) (passed bytes t ts e)) (other_way bytes P Q r s (t ∷ ts) (passed bytes t ts e) (s (t ∷ ts)) (q (t ∷ ts)))

pub choose_reads : {W X : Type 0} (bytes : List ℕ) (P Q : X → Phrase) (r s : Reader W X) → IsReader P r → CanStand P → IsReader Q s → IsReader (either bytes P Q) (choose bytes r s)
choose_reads bytes P Q r s p stand q [] = rw (chosen_not bytes r s [] (none_accepted bytes)) (other_way bytes P Q r s [] (none_accepted bytes) (s []) (q []))
choose_reads bytes P Q r s p stand q (t ∷ ts) = choose_by bytes P Q r s p stand q t ts (bytes_eq t.bytes bytes) refl

pub either_stands : {X : Type 0} (bytes : List ℕ) (P Q : X → Phrase) → CanStand Q → CanStand (either bytes P Q)
either_stands bytes P Q q = (q.0, q.1, λ more. inr (q.2 more))

pub word_stands : {X : Type 0} (bytes : List ℕ) (P Q : X → Phrase) → CanStand P → CanStand (either bytes P Q)
word_stands bytes P Q p = (p.0, record { at = 0; sort = sort.Word; bytes = bytes } ∷ p.1, λ more. inl (p.1 ++ more, (refl, refl), p.2 more))

-- ---- what is spelled so is read so, before what may follow

abbrev pub IsRead : {W X : Type 0} → (X → Phrase) → Reader W X → (List Lexeme → Type 0) → Type 0
IsRead {W} {X} P r F = (x : X) (ts rest : List Lexeme) → P x ts rest → F rest → r ts ≡ Ok (x, rest)

abbrev pub anything : List Lexeme → Type 0
anything ts = Unit {0}

pub bind_read : {W X Y : Type 0} (P : X → Phrase) (Q : X → Y → Phrase) (r : Reader W X) (f : X → Reader W Y) (F G : List Lexeme → Type 0) → IsRead P r F → ((x : X) → IsRead (Q x) (f x) G) → ((x : X) (y : Y) (ts rest : List Lexeme) → Q x y ts rest → G rest → F ts) → IsRead (chain P Q) (bind r f) G
bind_read P Q r f F G p q follows y ts rest h g =
    ap (λ o. o >>= λ a. f a.0 a.1) (p h.0 ts h.1 h.2 (follows h.0 y h.1 rest h.3 g)) ∙ q h.0 y h.1 rest h.3 g

pub gives_read : {W X : Type 0} (x : X) → IsRead (given x) (gives {W = W} x) anything
gives_read x y ts rest h g = rw (h.0, h.1) refl

pub expect_read : {W : Type 0} (bytes : List ℕ) (why : W) → IsRead (said bytes) (expect_at bytes why) anything
unfolding expect_at
expect_read bytes why t ts rest h g = rw (h.1, bytes_same t.bytes bytes h.0) refl

pub choose_read : {W X : Type 0} (bytes : List ℕ) (P Q : X → Phrase) (r s : Reader W X) (F : List Lexeme → Type 0) → IsRead P r F → IsRead Q s F → ((x : X) (ts rest : List Lexeme) → Q x ts rest → F rest → accept_at bytes ts ≡ (false, ts)) → IsRead (either bytes P Q) (choose bytes r s) F
choose_read bytes P Q r s F p q others x ts rest h f =
    elim h [
      | inl a ↦ (let w = from_word bytes ts a.0 a.1 in ap (choose bytes r s) w.1.1 ∙ (chosen bytes r s w.0 a.0 w.1.0 ∙ p x a.0 rest a.2 f))
      | inr b ↦ chosen_not bytes r s ts (others x ts rest b f) ∙ q x ts rest b f
    ]

-- ---- all of these together

-- The reader takes just the phrases, where what follows them is one of F.
pub record Sound {W X : Type 0} (P : X → Phrase) (r : Reader W X) (F : List Lexeme → Type 0) : Type 0 where
  pub reads : IsReader P r
  pub stands : CanStand P
  pub read : IsRead P r F

pub then_sound : {W X Y : Type 0} {P : X → Phrase} {Q : X → Y → Phrase} {r : Reader W X} {f : X → Reader W Y} {F G : List Lexeme → Type 0} → Sound P r F → ((x : X) → Sound (Q x) (f x) G) → ((x : X) (y : Y) (ts rest : List Lexeme) → Q x y ts rest → G rest → F ts) → Sound (chain P Q) (bind r f) G
then_sound {P} {Q} {r} {f} {F} {G} a b follows = record {
  reads = bind_reads P Q r f a.reads (λ x. (b x).reads) (λ x. (b x).stands);
  stands = bind_stands P Q a.stands (λ x. (b x).stands);
  read = bind_read P Q r f F G a.read (λ x. (b x).read) follows;
}

-- where anything may follow the first
pub and_then : {W X Y : Type 0} {P : X → Phrase} {Q : X → Y → Phrase} {r : Reader W X} {f : X → Reader W Y} {G : List Lexeme → Type 0} → Sound P r anything → ((x : X) → Sound (Q x) (f x) G) → Sound (chain P Q) (bind r f) G
and_then {P} {Q} {r} {f} {G} a b = then_sound {P = P} {Q = Q} {r = r} {f = f} {F = anything} {G = G} a b (λ x y ts rest h g. tt)

pub gives_sound : {W X : Type 0} (x : X) → Sound (given x) (gives {W = W} x) anything
gives_sound x = record { reads = gives_reads x; stands = gives_stands x; read = gives_read x }

pub expect_sound : {W : Type 0} (bytes : List ℕ) (why : W) → Sound (said bytes) (expect_at bytes why) anything
expect_sound bytes why = record { reads = expect_reads bytes why; stands = expect_stands bytes; read = expect_read bytes why }

-- the next token isn't this word
abbrev pub lacks : List ℕ → List Lexeme → Type 0
lacks bytes ts = accept_at bytes ts ≡ (false, ts)

pub choose_sound : {W X : Type 0} {P Q : X → Phrase} {r s : Reader W X} {F : List Lexeme → Type 0} (bytes : List ℕ) → Sound P r F → Sound Q s F → ((x : X) (ts rest : List Lexeme) → Q x ts rest → F rest → lacks bytes ts) → Sound (either bytes P Q) (choose bytes r s) F
choose_sound {P} {Q} {r} {s} {F} bytes a b others = record {
  reads = choose_reads bytes P Q r s a.reads a.stands b.reads;
  stands = either_stands bytes P Q b.stands;
  read = choose_read bytes P Q r s F a.read b.read others;
}

pub map_sound : {W X : Type 0} {P Q : X → Phrase} {r : Reader W X} {F : List Lexeme → Type 0} → ((x : X) (ts rest : List Lexeme) → P x ts rest → Q x ts rest) → ((x : X) (ts rest : List Lexeme) → Q x ts rest → P x ts rest) → Sound P r F → Sound Q r F
map_sound {P} {Q} {r} to from a = record {
  reads = map_reads P Q r to a.reads;
  stands = map_stands P Q to a.stands;
  read = λ x ts rest h f. a.read x ts rest (from x ts rest h) f;
}

pub narrow_sound : {W X : Type 0} {P : X → Phrase} {r : Reader W X} {F G : List Lexeme → Type 0} → ((ts : List Lexeme) → G ts → F ts) → Sound P r F → Sound P r G
narrow_sound h a = record { reads = a.reads; stands = a.stands; read = λ x ts rest p g. a.read x ts rest p (h rest g) }

pub same_sound : {W X : Type 0} {P : X → Phrase} {r s : Reader W X} {F : List Lexeme → Type 0} → ((ts : List Lexeme) → s ts ≡ r ts) → Sound P r F → Sound P s F
same_sound {P} {r} {s} same a = record { reads = same_reads P r s same a.reads; stands = a.stands; read = λ x ts rest p f. same ts ∙ a.read x ts rest p f }

pub lacks_other : (bytes : List ℕ) (t : Lexeme) (ts : List Lexeme) → bytes_eq t.bytes bytes ≡ false → lacks bytes (t ∷ ts)
lacks_other bytes t ts e = passed bytes t ts e

-- ---- all of the tokens

abbrev pub whole : {W X : Type 0} → Reader W X → W → List Lexeme → Result X (Refusal W)
whole r why ts = r ts >>= λ s. finish_at why s.1 >>= λ e. Ok s.0

whole_by : {W X : Type 0} (P : X → Phrase) (r : Reader W X) (why : W) (ts : List Lexeme) (x : X) (v : Result (X × List Lexeme) (Refusal W)) → Outcome P r ts v → (v >>= λ s. finish_at why s.1 >>= λ e. Ok s.0) ≡ Ok x → P x ts []
unfolding finish_at
whole_by P r why ts x (Ok (y, [])) a h = let e : y ≡ x = cc in subst (λ z. P z ts []) e (subst (λ (us : List Lexeme). P y us []) (sym a.parts) (a.holds []))
whole_by P r why ts x (Ok (y, t ∷ us)) a h = absurd cc
whole_by P r why ts x (Err d) a h = absurd cc

-- what is read of all tokens is spelled so
pub whole_spelled : {W X : Type 0} (P : X → Phrase) (r : Reader W X) (why : W) → IsReader P r → (ts : List Lexeme) (x : X) → whole r why ts ≡ Ok x → P x ts []
whole_spelled P r why reads ts x h = whole_by P r why ts x (r ts) (reads ts) h

-- what is spelled so is read of all tokens
pub spelled_whole : {W X : Type 0} (P : X → Phrase) (r : Reader W X) (why : W) (F : List Lexeme → Type 0) → IsRead P r F → F [] → (ts : List Lexeme) (x : X) → P x ts [] → whole r why ts ≡ Ok x
unfolding finish_at
spelled_whole P r why F read f ts x h = ap (λ o. o >>= λ s. finish_at why s.1 >>= λ e. Ok s.0) (read x ts [] h f)

completes : {X : Type 0} (P : X → Phrase) (front : List Lexeme) → CanStand P → (IsSome front → (x : X) × (end : List Lexeme) × ((more : List Lexeme) → P x (front ++ (end ++ more)) more)) → (end : List Lexeme) × AreWhole P (front ++ end)
completes P [] stand goes_on = (stand.1 ++ [], (stand.0, stand.2 []))
completes P (t ∷ front) stand goes_on = let g = goes_on tt in (g.1 ++ [], (g.0, g.2 []))

abbrev left_of : {W X : Type 0} → Result (X × List Lexeme) (Refusal W) → List Lexeme
left_of (Ok p) = p.1
left_of (Err e) = []

refused_place : {W X : Type 0} (t : Lexeme) (us : List Lexeme) (why : W) (e : Refusal W) → refuse {A = X} t why ≡ Err e → IsAt e (t ∷ us)
refused_place t us why e h = let k : refusal.At t.at why ≡ e = cc in subst (λ x. IsAt x (t ∷ us)) k refl

stops_by : {W X : Type 0} (P : X → Phrase) (r : Reader W X) (why : W) (F : List Lexeme → Type 0) → IsRead P r F → F [] → CanStand P → (ts : List Lexeme) (e : Refusal W) (v : Result (X × List Lexeme) (Refusal W)) → Outcome P r ts v → (v >>= λ s. finish_at why s.1 >>= λ d. Ok s.0) ≡ Err e → (left : List Lexeme) × StopsAt P ts left × IsAt e left
unfolding finish_at
stops_by P r why F read f stand ts e (Ok (x, [])) a h = absurd cc
stops_by {X} P r why F read f stand ts e (Ok (x, t ∷ us)) a h = (
  t ∷ us,
  record {
    front = a.front;
    parts = a.parts;
    goes_on = ([], (x, a.holds []));
    stops = λ more first w.
        (let got = read w.0 (a.front ++ more) [] w.1 f in
        let again = a.again more first in
        let empty : [] ≡ more = ap left_of (sym got ∙ again) in
        let none : Some t ≡ None = sym first ∙ ap first_of (sym empty) in
        absurd cc);
  },
  refused_place {X = X} t us why e h,
)
stops_by P r why F read f stand ts e (Err d) a h = (
  a.left,
  record {
    front = a.front;
    parts = a.parts;
    goes_on = completes P a.front stand a.goes_on;
    stops = λ more first w. (let got = read w.0 (a.front ++ more) [] w.1 f in let again = a.again more first in absurd cc);
  },
  (let same : d ≡ e = cc in subst (λ x. IsAt x a.left) same a.place),
)

-- where reading stops no phrase goes on
pub whole_stops : {W X : Type 0} (P : X → Phrase) (r : Reader W X) (why : W) (F : List Lexeme → Type 0) → Sound P r F → F [] → (ts : List Lexeme) (e : Refusal W) → whole r why ts ≡ Err e → (left : List Lexeme) × StopsAt P ts left × IsAt e left
whole_stops P r why F sound f ts e h = stops_by P r why F sound.read f sound.stands ts e (r ts) (sound.reads ts) h

-- what a reader takes is spelled so
pub read_holds : {W X : Type 0} (P : X → Phrase) (r : Reader W X) → IsReader P r → (ts rest : List Lexeme) (x : X) → r ts ≡ Ok (x, rest) → P x ts rest
read_holds P r reads ts rest x h =
    let a : Takes P r ts x rest = subst (Outcome P r ts) h (reads ts) in
    subst (λ (us : List Lexeme). P x us rest) (sym a.parts) (a.holds rest)
