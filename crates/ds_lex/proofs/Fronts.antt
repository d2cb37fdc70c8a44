-- The parts of which tokens and comments are made, at the front of some bytes.
use Rattle.std.proofs.Common.{◌≡◌, ◌≤◌, ◌+◌, ℕ, suc, List, [], ◌∷◌, ◌++◌, length, Option, Some, None, Bool, true, false, cond, refl, sym, ap, ◌∙◌, arith, subst, length-append}
use Rattle.std.specs.Prelude.{◌&&◌, ◌||◌, not, ◌==◌, position, if◌then◌else◌, codes}
use Rattle.std.specs.List.{list_all, position_from}
use Rattle.std.specs.Cmp.{first_so, second_so}
use Rattle.std.proofs.lemmas.Bool.{true≢false, not-true, eqb-false, eqb-true, eq-eqb}
use Rattle.std.proofs.lemmas.List.Sums.{take_while-cons}
use Rattle.std.proofs.lemmas.Iterator.Adapters.{position_from-zero}
use Rattle.ds_lex.specs.Pieces.{begins_with, count_front, comment_len, one_more}

pub neither : (a b : Bool) → (a || b) ≡ false → (a ≡ false) × (b ≡ false)
neither true b h = absurd cc
neither false b h = (refl, h)

-- ---- the bytes at the front that pass

-- these bytes pass, and the first behind them doesn't
pub record Front (p : ℕ → Bool) (bytes : List ℕ) : Type 0 where
  pub front : List ℕ
  pub rest : List ℕ
  pub parts : bytes ≡ front ++ rest
  pub each : list_all p front ≡ true
  pub size : count_front p bytes ≡ length front

pub counted : (p : ℕ → Bool) (b : ℕ) (bytes : List ℕ) → p b ≡ true → count_front p (b ∷ bytes) ≡ suc (count_front p bytes)
counted p b bytes e = ap (λ (xs : List ℕ). length xs) (take_while-cons p b bytes) ∙ rw e refl

pub uncounted : (p : ℕ → Bool) (b : ℕ) (bytes : List ℕ) → p b ≡ false → count_front p (b ∷ bytes) ≡ 0
uncounted p b bytes e = ap (λ (xs : List ℕ). length xs) (take_while-cons p b bytes) ∙ rw e refl

front_by : (p : ℕ → Bool) (b : ℕ) (bytes : List ℕ) (t : Bool) → p b ≡ t → Front p bytes → Front p (b ∷ bytes)
front_by p b bytes true e f = record { front = b ∷ f.front; rest = f.rest; parts = ap (λ (xs : List ℕ). b ∷ xs) f.parts; each = rw e f.each; size = counted p b bytes e ∙ ap suc f.size }
front_by p b bytes false e f = record { front = []; rest = b ∷ bytes; parts = refl; each = refl; size = uncounted p b bytes e }

pub fronted : (p : ℕ → Bool) (bytes : List ℕ) → Front p bytes
fronted p [] = record { front = []; rest = []; parts = refl; each = refl; size = refl }
fronted p (b ∷ bytes) = front_by p b bytes (p b) refl (fronted p bytes)

-- what passes is at the front
pub count_most : (p : ℕ → Bool) (front rest : List ℕ) → list_all p front ≡ true → length front ≤ count_front p (front ++ rest)
count_most p [] rest h = omega arith
count_most p (b ∷ front) rest h =
    let more = count_most p front rest (second_so (p b) (list_all p front) h) in
    rw (counted p b (front ++ rest) (first_so (p b) (list_all p front) h)) (omega arith)

-- and no more where the next byte doesn't
pub count_just : (p : ℕ → Bool) (front : List ℕ) (b : ℕ) (rest : List ℕ) → list_all p front ≡ true → p b ≡ false → count_front p (front ++ b ∷ rest) ≡ length front
count_just p [] b rest h e = uncounted p b rest e
count_just p (c ∷ front) b rest h e = counted p c (front ++ b ∷ rest) (first_so (p c) (list_all p front) h) ∙ ap suc (count_just p front b rest (second_so (p c) (list_all p front) h) e)

-- ---- the first byte that passes

pub record First (p : ℕ → Bool) (bytes : List ℕ) (n : ℕ) : Type 0 where
  pub front : List ℕ
  pub at : ℕ
  pub rest : List ℕ
  pub parts : bytes ≡ front ++ at ∷ rest
  pub size : length front ≡ n
  pub before : list_all (λ b. not (p b)) front ≡ true
  pub here : p at ≡ true

first_by : (p : ℕ → Bool) (i k b : ℕ) (bytes : List ℕ) (t : Bool) → p b ≡ t → ((k : ℕ) → position_from p (i + 1) bytes ≡ Some k → (n : ℕ) × (k ≡ i + 1 + n) × First p bytes n) → cond t (Some i) (position_from p (i + 1) bytes) ≡ Some k → (n : ℕ) × (k ≡ i + n) × First p (b ∷ bytes) n
first_by p i k b bytes true e more h = (0, (let same : i ≡ k = cc in omega arith), record { front = []; at = b; rest = bytes; parts = refl; size = refl; before = refl; here = e })
first_by p i k b bytes false e more h =
    let m = more k h in
    (suc m.0, omega (arith, m.1), record { front = b ∷ m.2.front; at = m.2.at; rest = m.2.rest; parts = ap (λ (xs : List ℕ). b ∷ xs) m.2.parts; size = ap suc m.2.size; before = rw e m.2.before; here = m.2.here })

first_from : (p : ℕ → Bool) (i k : ℕ) (bytes : List ℕ) → position_from p i bytes ≡ Some k → (n : ℕ) × (k ≡ i + n) × First p bytes n
first_from p i k [] h = absurd cc
first_from p i k (b ∷ bytes) h = first_by p i k b bytes (p b) refl (λ j. first_from p (i + 1) j bytes) h

pub first_at : (p : ℕ → Bool) (n : ℕ) (bytes : List ℕ) → position p bytes ≡ Some n → First p bytes n
first_at p n bytes h =
    let f = first_from p 0 n bytes (sym (position_from-zero p bytes) ∙ h) in
    subst (First p bytes) (let e : f.0 ≡ n = omega (arith, f.1) in e) f.2

found_from : (p : ℕ → Bool) (i : ℕ) (front : List ℕ) (b : ℕ) (rest : List ℕ) → list_all (λ c. not (p c)) front ≡ true → p b ≡ true → position_from p i (front ++ b ∷ rest) ≡ Some (i + length front)
found_from p i [] b rest h e = let n : i + 0 ≡ i = omega arith in rw (e, n) refl
found_from p i (c ∷ front) b rest h e =
    let n : i + suc (length front) ≡ i + 1 + length front = omega arith in
    rw (not-true (p c) (first_so (not (p c)) (list_all (λ c. not (p c)) front) h), n) (found_from p (i + 1) front b rest (second_so (not (p c)) (list_all (λ c. not (p c)) front) h) e)

pub found_at : (p : ℕ → Bool) (front : List ℕ) (b : ℕ) (rest : List ℕ) → list_all (λ c. not (p c)) front ≡ true → p b ≡ true → position p (front ++ b ∷ rest) ≡ Some (length front)
found_at p front b rest h e = position_from-zero p (front ++ b ∷ rest) ∙ (found_from p 0 front b rest h e ∙ (let n : 0 + length front ≡ length front = omega arith in ap (λ k. Some k) n))

-- ---- comments

-- the first `*/` in these bytes is their end
abbrev pub EndsFirst : List ℕ → Type 0
EndsFirst inside = (front back : List ℕ) → inside ++ codes "*/" ≡ front ++ (codes "*/" ++ back) → back ≡ []

pub record Comment (bytes : List ℕ) (n : ℕ) : Type 0 where
  pub inside : List ℕ
  pub rest : List ℕ
  pub parts : bytes ≡ inside ++ (codes "*/" ++ rest)
  pub size : n ≡ length inside + 2
  pub next : EndsFirst inside

no_front : EndsFirst []
no_front [] [] e = refl
no_front [] (b ∷ back) e = absurd cc
no_front (f ∷ []) back e = absurd cc
no_front (f ∷ g ∷ []) back e = absurd cc
no_front (f ∷ g ∷ h ∷ front) back e = absurd cc

abbrev is_slash : ℕ → Bool
is_slash c = c == 47

abbrev ends_here : ℕ → List ℕ → Bool
ends_here b bytes = (b == 42) && begins_with (λ c. c == 47) bytes

begun_alike : (c : ℕ) (inside rest : List ℕ) → c ≡ 47 → begins_with (λ c. c == 47) ((c ∷ inside) ++ rest) ≡ true
begun_alike c inside rest e = eq-eqb c 47 e

both_so : (a b : Bool) → a ≡ true → b ≡ true → (a && b) ≡ true
both_so a b e f = rw (e, f) refl

abbrev head_of : List ℕ → ℕ
head_of [] = 0
head_of (b ∷ bytes) = b

abbrev tail_of : List ℕ → List ℕ
tail_of [] = []
tail_of (b ∷ bytes) = bytes

next_none : (b : ℕ) (inside rest back : List ℕ) → ends_here b (inside ++ (codes "*/" ++ rest)) ≡ false → b ∷ (inside ++ codes "*/") ≡ codes "*/" ++ back → back ≡ []
next_none b [] rest back t e = absurd (eqb-false 42 47 refl (ap (λ (xs : List ℕ). head_of (tail_of xs)) e))
next_none b (c ∷ inside) rest back t e =
    let star : b ≡ 42 = ap head_of e in
    let slash : c ≡ 47 = ap (λ (xs : List ℕ). head_of (tail_of xs)) e in
    let yes = both_so (b == 42) (begins_with (λ c. c == 47) ((c ∷ inside) ++ (codes "*/" ++ rest))) (eq-eqb b 42 star) (begun_alike c inside (codes "*/" ++ rest) slash) in
    let k : true ≡ false = sym yes ∙ t in
    absurd (true≢false k)

next_more : (b : ℕ) (inside rest : List ℕ) → ends_here b (inside ++ (codes "*/" ++ rest)) ≡ false → EndsFirst inside → EndsFirst (b ∷ inside)
next_more b inside rest t h [] back e = next_none b inside rest back t e
next_more b inside rest t h (f ∷ front) back e = h front back (ap tail_of e)

less_one : (o : Option ℕ) (n : ℕ) → one_more o ≡ Some n → (m : ℕ) × (o ≡ Some m) × (n ≡ m + 1)
less_one None n e = absurd cc
less_one (Some m) n e = (m, refl, (let k : m + 1 ≡ n = cc in sym k))

slash_first : (bytes : List ℕ) → begins_with (λ c. c == 47) bytes ≡ true → (rest : List ℕ) × (bytes ≡ 47 ∷ rest)
slash_first [] h = absurd cc
slash_first (c ∷ bytes) h = (bytes, (let e : c ≡ 47 = eqb-true c 47 h in ap (λ x. x ∷ bytes) e))

comment_by : (b : ℕ) (bytes : List ℕ) (n : ℕ) (t : Bool) → ends_here b bytes ≡ t → ((m : ℕ) → comment_len bytes ≡ Some m → Comment bytes m) → (if t then Some 2 else one_more (comment_len bytes)) ≡ Some n → Comment (b ∷ bytes) n
comment_by b bytes n true e more h =
    let star : b ≡ 42 = eqb-true b 42 (first_so (b == 42) (begins_with (λ c. c == 47) bytes) e) in
    let slash = slash_first bytes (second_so (b == 42) (begins_with (λ c. c == 47) bytes) e) in
    let two : 2 ≡ n = cc in
    record { inside = []; rest = slash.0; parts = ap (λ (x : ℕ). x ∷ bytes) star ∙ ap (λ (xs : List ℕ). 42 ∷ xs) slash.1; size = sym two; next = no_front }
comment_by b bytes n false e more h =
    let m = less_one (comment_len bytes) n h in
    let c = more m.0 m.1 in
    record { inside = b ∷ c.inside; rest = c.rest; parts = ap (λ (xs : List ℕ). b ∷ xs) c.parts; size = omega (arith, m.2, c.size); next = next_more b c.inside c.rest (ap (ends_here b) (sym c.parts) ∙ e) c.next }

pub comment_found : (bytes : List ℕ) (n : ℕ) → comment_len bytes ≡ Some n → Comment bytes n
comment_found [] n h = absurd cc
comment_found (b ∷ bytes) n h = comment_by b bytes n (ends_here b bytes) refl (λ m. comment_found bytes m) h

goes_by : (b : ℕ) (inside rest : List ℕ) (t : Bool) → ends_here b (inside ++ (codes "*/" ++ rest)) ≡ t → EndsFirst (b ∷ inside) → ends_here b (inside ++ (codes "*/" ++ rest)) ≡ false
goes_by b inside rest false e h = e
goes_by b [] rest true e h = absurd (let k = second_so (b == 42) (begins_with (λ c. c == 47) ([] ++ (codes "*/" ++ rest))) e in cc)
goes_by b (c ∷ inside) rest true e h =
    let star : b ≡ 42 = eqb-true b 42 (first_so (b == 42) (begins_with (λ c. c == 47) ((c ∷ inside) ++ (codes "*/" ++ rest))) e) in
    let slash : c ≡ 47 = eqb-true c 47 (second_so (b == 42) (begins_with (λ c. c == 47) ((c ∷ inside) ++ (codes "*/" ++ rest))) e) in
    let none = h [] (inside ++ codes "*/") (ap (λ (x : ℕ). x ∷ c ∷ (inside ++ codes "*/")) star ∙ ap (λ (x : ℕ). 42 ∷ x ∷ (inside ++ codes "*/")) slash) in
    let long : length (inside ++ codes "*/") ≡ 0 = ap (λ (xs : List ℕ). length xs) none in
    absurd (omega (arith, length-append inside (codes "*/"), long))

pub comment_whole : (inside rest : List ℕ) → EndsFirst inside → comment_len (inside ++ (codes "*/" ++ rest)) ≡ Some (length inside + 2)
comment_whole [] rest h = refl
comment_whole (b ∷ inside) rest h =
    let n : length inside + 2 + 1 ≡ suc (length inside) + 2 = omega arith in
    let more : EndsFirst inside = (λ front back e. h (b ∷ front) back (ap (λ (xs : List ℕ). b ∷ xs) e)) in
    rw (goes_by b inside rest (ends_here b (inside ++ (codes "*/" ++ rest))) refl h, comment_whole inside rest more, n) refl
