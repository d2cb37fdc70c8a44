-- What a reader took stands at the front, so fewer tokens are left.
use Rattle.std.proofs.Common.{◌≡◌, ◌≤◌, ◌<◌, ◌++◌, ℕ, zero, suc, List, [], ◌∷◌, length, Result, Ok, Err, Bool, true, false, refl, sym, ap, arith}
use Rattle.std.specs.Prelude.{if◌then◌else◌, nat_le, codes}
use Rattle.std.specs.Str.{bytes_eq}
use Rattle.ds_lex.specs.declared.token.Sort.{Sort}
use Rattle.ds_lex.specs.declared.token.Sort.TheVariants as sort
use Rattle.ds_lex.specs.Lexemes.{Lexeme}
use Rattle.ds_lex.specs.Reading.{◌>>=◌, refuse, is_sort, token_at, expect_at, sort_at, accept_at}
use Rattle.config_read.specs.declared.fault.ConfigWhy.{ConfigWhy}
use Rattle.config_read.specs.declared.fault.ConfigWhy.TheVariants as why
use Rattle.config_read.specs.declared.config.Node.{Node}
use Rattle.config_read.specs.Spelled.{is_quoted}
use Rattle.config_read.specs.Reading.{Read, behind_quoted, pool_named, more_pools_at, pools_at, unused_at, with_path, braces_at, resource_at, fastname_at, entry_at, until_closed, named, node_at, further_node_at}

-- equal pairs have equal parts
pub pair_parts : {A B : Type 0} → (x y : A × B) → x ≡ y → (x.0 ≡ y.0) × (x.1 ≡ y.1)
pair_parts x y e = (ap (λ p. p.0) e, ap (λ p. p.1) e)

ok_is : {A E : Type 0} → (x y : A) → (let r : Result A E = Ok x in r) ≡ Ok y → x ≡ y
ok_is x y h = cc

pub ok_parts : {A B E : Type 0} → (x y : A × B) → (let r : Result (A × B) E = Ok x in r) ≡ Ok y → (x.0 ≡ y.0) × (x.1 ≡ y.1)
ok_parts x y h = pair_parts x y (ok_is x y h)

-- both parts of what was read were read
pub bind_ok : {A B E : Type 0} → (m : Result A E) (f : A → Result B E) (z : B) → (m >>= f) ≡ Ok z → (y : A) × ((m ≡ Ok y) × (f y ≡ Ok z))
bind_ok (Ok y) f z h = (y, (refl, h))
bind_ok (Err e) f z h = cc

one_front : {E : Type 0} → (b : Bool) (t u : Lexeme) (ts rest : List Lexeme) (e : E) → (let r : Result (Lexeme × List Lexeme) E = if b then Ok (t, ts) else Err e in r) ≡ Ok (u, rest) → (b ≡ true) × ((t ≡ u) × (ts ≡ rest))
one_front true t u ts rest e h = (refl, ok_parts (t, ts) (u, rest) h)
one_front false t u ts rest e h = cc

pub sort_front : (s : Sort) (ts rest : List Lexeme) (u : Lexeme) → sort_at s why.Syntax ts ≡ Ok (u, rest) → (is_sort s u.sort ≡ true) × (ts ≡ u ∷ rest)
unfolding sort_at
sort_front s [] rest u h = cc
sort_front s (t ∷ ts) rest u h =
    let f = one_front (is_sort s t.sort) t u ts rest _ h in
    (rw f.1.0 at f.0, rw (f.1.0, f.1.1) refl)

pub expect_front : (word : List ℕ) (ts rest : List Lexeme) (u : Lexeme) → expect_at word why.Syntax ts ≡ Ok (u, rest) → (bytes_eq u.bytes word ≡ true) × (ts ≡ u ∷ rest)
unfolding expect_at
expect_front word [] rest u h = cc
expect_front word (t ∷ ts) rest u h =
    let f = one_front (bytes_eq t.bytes word) t u ts rest _ h in
    (rw f.1.0 at f.0, rw (f.1.0, f.1.1) refl)

pub token_front : (ts rest : List Lexeme) (u : Lexeme) → token_at ConfigWhy ts ≡ Ok (u, rest) → ts ≡ u ∷ rest
unfolding token_at
token_front [] rest u h = cc
token_front (t ∷ ts) rest u h = let f = ok_parts (t, ts) (u, rest) h in rw (f.0, f.1) refl

-- what is left behind a word that may come
abbrev left : Bool → Lexeme → List Lexeme → List Lexeme
left true t rest = t ∷ rest
left false t rest = rest

accept_by : (b : Bool) (t : Lexeme) (ts rest : List Lexeme) (c : Bool) → (let r : Bool × List Lexeme = (c, rest) in r) ≡ (if b then (true, ts) else (false, t ∷ ts)) → t ∷ ts ≡ left c t rest
accept_by true t ts rest c e = let p = pair_parts (c, rest) (true, ts) e in rw (p.0, p.1) refl
accept_by false t ts rest c e = let p = pair_parts (c, rest) (false, t ∷ ts) e in rw (p.0, p.1) refl

-- a word that didn't come left the tokens
pub not_accepted : (word : List ℕ) (ts rest : List Lexeme) → (let r : Bool × List Lexeme = (false, rest) in r) ≡ accept_at word ts → rest ≡ ts
unfolding accept_at
not_accepted word [] rest e = (pair_parts (false, rest) (false, []) e).1
not_accepted word (t ∷ ts) rest e = sym (accept_by (bytes_eq t.bytes word) t ts rest false e)

-- a word that came was there
pub accepted : (word : List ℕ) (ts rest : List Lexeme) → (let r : Bool × List Lexeme = (true, rest) in r) ≡ accept_at word ts → length ts ≡ suc (length rest)
unfolding accept_at
accepted word [] rest e = let p = pair_parts (true, rest) (false, []) e in cc
accepted word (t ∷ ts) rest e = ap length (accept_by (bytes_eq t.bytes word) t ts rest true e)

-- fewer tokens are left of ts, or no more
abbrev pub Fewer : {A : Type 0} → (A → List Lexeme → Read A) → Type 0
Fewer {A} one = (x y : A) (ts rest : List Lexeme) → one x ts ≡ Ok (y, rest) → length rest < length ts

few_by : (b : Bool) (t : Lexeme) (ts : List Lexeme) → length (behind_quoted ts) ≤ length ts → length (if b then behind_quoted ts else t ∷ ts) ≤ length (t ∷ ts)
few_by true t ts h = omega (arith, h)
few_by false t ts h = omega arith

behind_quoted_few : (ts : List Lexeme) → length (behind_quoted ts) ≤ length ts
behind_quoted_few [] = omega arith
behind_quoted_few (t ∷ ts) = few_by (is_quoted t) t ts (behind_quoted_few ts)

pools_by : (b : Bool) (x y : Node) (t : Lexeme) (ts rest : List Lexeme) → ((z : Node) → more_pools_at z ts ≡ Ok (y, rest) → length rest ≤ length ts) → (if b then (pool_named x t >>= λ more. more_pools_at more ts) else Ok (x, t ∷ ts)) ≡ Ok (y, rest) → length rest ≤ length (t ∷ ts)
pools_by true x y t ts rest more h =
    let b = bind_ok (pool_named x t) (λ more. more_pools_at more ts) (y, rest) h in
    let k = more b.0 b.1.1 in omega (arith, k)
pools_by false x y t ts rest more h = let p = ok_parts (x, t ∷ ts) (y, rest) h in rw (sym p.1) (omega arith)

more_pools_few : (x y : Node) (ts rest : List Lexeme) → more_pools_at x ts ≡ Ok (y, rest) → length rest ≤ length ts
more_pools_few x y [] rest h = let p = ok_parts (x, []) (y, rest) h in rw (sym p.1) (omega arith)
more_pools_few x y (t ∷ ts) rest h = pools_by (is_quoted t) x y t ts rest (λ z k. more_pools_few z y ts rest k) h

pools_few : (x y : Node) (ts rest : List Lexeme) → pools_at x ts ≡ Ok (y, rest) → length rest ≤ length ts
unfolding pools_at
pools_few x y ts rest h =
    let a = bind_ok (sort_at sort.Quoted why.Syntax ts) _ (y, rest) h in
    let b = bind_ok (pool_named x a.0.0) _ (y, rest) a.1.1 in
    let m = more_pools_few b.0 y a.0.1 rest b.1.1 in
    let f = sort_front sort.Quoted ts a.0.1 a.0.0 a.1.0 in
    rw f.1 (omega (arith, m))

expect_few : (word : List ℕ) (ts : List Lexeme) (x : Lexeme × List Lexeme) → expect_at word why.Syntax ts ≡ Ok x → length ts ≡ suc (length x.1)
expect_few word ts x h = ap length (expect_front word ts x.1 x.0 h).1

sort_few : (s : Sort) (ts : List Lexeme) (x : Lexeme × List Lexeme) → sort_at s why.Syntax ts ≡ Ok x → length ts ≡ suc (length x.1)
sort_few s ts x h = ap length (sort_front s ts x.1 x.0 h).1

accept_few_by : (b : Bool) (t : Lexeme) (ts : List Lexeme) → length (let p : Bool × List Lexeme = if b then (true, ts) else (false, t ∷ ts) in p).1 ≤ length (t ∷ ts)
accept_few_by true t ts = omega arith
accept_few_by false t ts = omega arith

accept_few : (word : List ℕ) (ts : List Lexeme) → length (accept_at word ts).1 ≤ length ts
unfolding accept_at
accept_few word [] = omega arith
accept_few word (t ∷ ts) = accept_few_by (bytes_eq t.bytes word) t ts

unused_few : (u : Unit {0}) (ts rest : List Lexeme) → unused_at ts ≡ Ok (u, rest) → length rest ≤ length ts
unfolding unused_at
unused_few u ts rest h =
    let a = bind_ok (expect_at (codes "pools") why.Syntax ts) _ (u, rest) h in
    let b = bind_ok (sort_at sort.Quoted why.Syntax a.0.1) _ (u, rest) a.1.1 in
    let d = bind_ok (expect_at (codes "}") why.Syntax (behind_quoted b.0.1)) _ (u, rest) b.1.1 in
    let p = ap length (ok_parts (tt, d.0.1) (u, rest) d.1.1).1 in
    let x = expect_few _ _ _ a.1.0 in
    let y = sort_few _ _ _ b.1.0 in
    let z = expect_few _ _ _ d.1.0 in
    let q = behind_quoted_few b.0.1 in
    omega (arith, p, x, y, z, q)

abbrev kept : Node → Unit {0} × List Lexeme → Read Node
kept x u = Ok (x, u.1)

braces_by : (c : Bool) (x y : Node) (us rest : List Lexeme) → (if c then (unused_at us >>= kept x) else Ok (x, us)) ≡ Ok (y, rest) → length rest ≤ length us
braces_by true x y us rest h =
    let a = bind_ok (unused_at us) (kept x) (y, rest) h in
    let p = ap length (ok_parts (x, a.0.1) (y, rest) a.1.1).1 in
    let q = unused_few a.0.0 us a.0.1 a.1.0 in
    omega (arith, p, q)
braces_by false x y us rest h = let p = ap length (ok_parts (x, us) (y, rest) h).1 in omega (arith, p)

braces_few : (x y : Node) (ts rest : List Lexeme) → braces_at x ts ≡ Ok (y, rest) → length rest ≤ length ts
unfolding braces_at
braces_few x y ts rest h =
    let a = braces_by (accept_at (codes "{") ts).0 x y (accept_at (codes "{") ts).1 rest h in
    let b = accept_few (codes "{") ts in
    omega (arith, a, b)

resource_few : (x y : Node) (ts rest : List Lexeme) → resource_at x ts ≡ Ok (y, rest) → length rest ≤ length ts
unfolding resource_at
resource_few x y ts rest h =
    let a = bind_ok (sort_at sort.Word why.Syntax ts) _ (y, rest) h in
    let b = bind_ok (sort_at sort.Quoted why.Syntax a.0.1) _ (y, rest) a.1.1 in
    let d = bind_ok (with_path x a.0.0 b.0.0) _ (y, rest) b.1.1 in
    let p = sort_few _ _ _ a.1.0 in
    let q = sort_few _ _ _ b.1.0 in
    let r = braces_few d.0 y b.0.1 rest d.1.1 in
    omega (arith, p, q, r)

fastname_few : (x y : Node) (ts rest : List Lexeme) → fastname_at x ts ≡ Ok (y, rest) → length rest ≤ length ts
unfolding fastname_at
fastname_few x y ts rest h =
    let a = bind_ok (sort_at sort.Quoted why.Syntax ts) _ (y, rest) h in
    let p = ap length (ok_parts (x, a.0.1) (y, rest) a.1.1).1 in
    let q = sort_few _ _ _ a.1.0 in
    omega (arith, p, q)

entry_by : (a b c : Bool) (t : Lexeme) (x y : Node) (ts rest : List Lexeme) → (if a then fastname_at x ts else if b then pools_at x ts else if c then resource_at x ts else refuse t why.Syntax) ≡ Ok (y, rest) → length rest ≤ length ts
entry_by true b c t x y ts rest h = fastname_few x y ts rest h
entry_by false true c t x y ts rest h = pools_few x y ts rest h
entry_by false false true t x y ts rest h = resource_few x y ts rest h
entry_by false false false t x y ts rest h = cc

pub entry_fewer : Fewer entry_at
unfolding entry_at
entry_fewer x y ts rest h =
    let a = bind_ok (token_at ConfigWhy ts) _ (y, rest) h in
    let p = ap length (token_front ts a.0.1 a.0.0 a.1.0) in
    let q = entry_by (bytes_eq a.0.0.bytes (codes "fastname")) (bytes_eq a.0.0.bytes (codes "pools")) (bytes_eq a.0.0.bytes (codes "resource")) a.0.0 x y a.0.1 rest a.1.1 in
    omega (arith, p, q)

closed_by : {A : Type 0} → (one : A → List Lexeme → Read A) (c : Bool) (n : ℕ) (x y : A) (ts us rest : List Lexeme) → length us ≤ length ts
    → ((z : A) (vs : List Lexeme) → one x ts ≡ Ok (z, vs) → until_closed one n z vs ≡ Ok (y, rest) → length rest ≤ length ts)
    → (if c then Ok (x, us) else (one x ts >>= λ z. until_closed one n z.0 z.1)) ≡ Ok (y, rest) → length rest ≤ length ts
closed_by one true n x y ts us rest k more h = let p = ap length (ok_parts (x, us) (y, rest) h).1 in omega (arith, p)
closed_by one false n x y ts us rest k more h = let a = bind_ok (one x ts) (λ z. until_closed one n z.0 z.1) (y, rest) h in more a.0.0 a.0.1 a.1.0 a.1.1

closed_few : {A : Type 0} → (one : A → List Lexeme → Read A) → Fewer one → (n : ℕ) (x y : A) (ts rest : List Lexeme) → until_closed one n x ts ≡ Ok (y, rest) → length rest ≤ length ts
unfolding until_closed
closed_few one f zero x y ts rest h = cc
closed_few one f (suc n) x y ts rest h =
    closed_by one (accept_at (codes "}") ts).0 n x y ts (accept_at (codes "}") ts).1 rest (accept_few (codes "}") ts)
    (λ z vs e k. let a = f x z ts vs e in let b = closed_few one f n z y vs rest k in omega (arith, a, b)) h

abbrev room : List Node → Lexeme × List Lexeme → Read Lexeme
room nodes word = if nat_le 64 (length nodes) then refuse word.0 why.TooMany else Ok word

node_few : (nodes : List Node) (y : Node) (ts rest : List Lexeme) → node_at nodes ts ≡ Ok (y, rest) → length rest < length ts
unfolding node_at
node_few nodes y ts rest h =
    let a = bind_ok (expect_at (codes "node") why.Syntax ts) _ (y, rest) h in
    let r = bind_ok (room nodes a.0) _ (y, rest) a.1.1 in
    let b = bind_ok (sort_at sort.Quoted why.Syntax a.0.1) _ (y, rest) r.1.1 in
    let n = bind_ok (named nodes b.0.0) _ (y, rest) b.1.1 in
    let d = bind_ok (expect_at (codes "{") why.Syntax b.0.1) _ (y, rest) n.1.1 in
    let p = expect_few _ _ _ a.1.0 in
    let q = sort_few _ _ _ b.1.0 in
    let s = expect_few _ _ _ d.1.0 in
    let e = closed_few entry_at entry_fewer (length d.0.1) (record { name = n.0; pools = []; scratch = [] }) y d.0.1 rest d.1.1 in
    omega (arith, p, q, s, e)

pub node_fewer : Fewer further_node_at
unfolding further_node_at
node_fewer nodes y ts rest h =
    let a = bind_ok (node_at nodes ts) _ (y, rest) h in
    let p = ap length (ok_parts (nodes ++ a.0.0 ∷ [], a.0.1) (y, rest) a.1.1).1 in
    let q = node_few nodes a.0.0 ts a.0.1 a.1.0 in
    omega (arith, p, q)
