-- Names and keys: what is read is one, and what is one is read.
use Rattle.std.proofs.Common.{◌≡◌, ◌≤◌, ◌<◌, ℕ, List, [], ◌∷◌, ◌++◌, Bool, true, false, Result, Ok, Err, length, refl, sym, ap, ◌∙◌, arith, subst}
use Rattle.std.specs.Prelude.{codes, if◌then◌else◌}
use Rattle.std.specs.Str.{bytes_eq}
use Rattle.ds_value.specs.Names.{IsName}
use Rattle.ds_lex.specs.declared.token.Sort.{Sort}
use Rattle.ds_lex.specs.declared.token.Sort.TheVariants as sort
use Rattle.ds_lex.specs.declared.refusal.Refusal.{Refusal}
use Rattle.ds_lex.specs.Lexemes.{Lexeme}
use Rattle.ds_lex.specs.Reading.{refuse, is_sort, sort_at, accept_at}
use Rattle.ds_lex.specs.Phrases.{word}
use Rattle.ds_lex.proofs.Readers.{bind_ok, same_sort, sort_same, lacks, lacks_other}
use Rattle.ds_schema.specs.ColumnGrammar.{name_phrase, desc_phrase, key_phrase, AreNamed, itself, key_name}
use Rattle.ds_schema.specs.ColumnReading.{is_name, held, has_name, has_key, new_name_at, key_at}
use Rattle.ds_schema.proofs.NamedLists.{name_tested, tested_name, push_named, last_named}
use Rattle.ds_schema.proofs.ListReaders.{TakesOne, ReadsOne, ok_parts, accepted, accepts, passed, word_fewer}

-- ---- single tokens

one_by : {W : Type 0} (b : Bool) (t u : Lexeme) (ts rest : List Lexeme) (e : Refusal W) → (let r : Result (Lexeme × List Lexeme) (Refusal W) = if b then Ok (t, ts) else Err e in r) ≡ Ok (u, rest) → (b ≡ true) × (t ≡ u) × (ts ≡ rest)
one_by true t u ts rest e h = let p = ok_parts (t, ts) (u, rest) h in (refl, p.0, p.1)
one_by false t u ts rest e h = absurd cc

sort_taken : {W : Type 0} (s : Sort) (why : W) (ts rest : List Lexeme) (u : Lexeme) → sort_at s why ts ≡ Ok (u, rest) → (u.sort ≡ s) × (ts ≡ u ∷ rest)
unfolding sort_at
sort_taken s why [] rest u h = absurd cc
sort_taken s why (t ∷ ts) rest u h =
    let p = one_by (is_sort s t.sort) t u ts rest _ h in
    (same_sort s u.sort (rw p.1 at p.0), rw (p.1, p.2) refl)

sort_read : {W : Type 0} (s : Sort) (why : W) (t : Lexeme) (ts : List Lexeme) → t.sort ≡ s → sort_at s why (t ∷ ts) ≡ Ok (t, ts)
unfolding sort_at
sort_read s why t ts e = rw (e, sort_same s) refl

held_by : {W : Type 0} (b : Bool) (bytes x : List ℕ) (e : Refusal W) → (let r : Result (List ℕ) (Refusal W) = if b then Ok bytes else Err e in r) ≡ Ok x → (b ≡ true) × (bytes ≡ x)
held_by true bytes x e h = (refl, cc)
held_by false bytes x e h = absurd cc

held_taken : {W : Type 0} (why : W) (t : Lexeme) (x : List ℕ) → held why t ≡ Ok x → IsName t.bytes × (x ≡ t.bytes)
held_taken why t x h = let p = held_by (is_name t.bytes) t.bytes x _ h in (tested_name t.bytes p.0, sym p.1)

held_read : {W : Type 0} (why : W) (t : Lexeme) → IsName t.bytes → held why t ≡ Ok t.bytes
held_read why t n = rw (name_tested t.bytes n) refl

free_by : {W A : Type 0} (b : Bool) (why : W) (t : Lexeme) (w y : A) → (let r : Result A (Refusal W) = if b then refuse t why else Ok w in r) ≡ Ok y → b ≡ false
free_by true why t w y h = absurd cc
free_by false why t w y h = refl

-- ---- names

-- a name was taken
pub record Taken (ts rest : List Lexeme) (x : List ℕ) (has : List ℕ → Bool) : Type 0 where
  pub token : Lexeme
  pub parts : ts ≡ token ∷ rest
  pub word : token.sort ≡ sort.Word
  pub name : IsName x
  pub same : x ≡ token.bytes
  pub free : has x ≡ false

pub new_name_taken : {W : Type 0} (why : W) (names : List (List ℕ)) (ts rest : List Lexeme) (x : List ℕ) → new_name_at why names ts ≡ Ok (x, rest) → Taken ts rest x (has_name names)
unfolding new_name_at
new_name_taken why names ts rest x h =
    let a = bind_ok (sort_at sort.Word why ts) _ (x, rest) h in
    let b = bind_ok (if has_name names a.0.0.bytes then refuse a.0.0 why else Ok a.0) _ (x, rest) a.2 in
    let c = bind_ok (held why a.0.0) _ (x, rest) b.2 in
    let s = sort_taken sort.Word why ts a.0.1 a.0.0 a.1 in
    let n = held_taken why a.0.0 c.0 c.1 in
    let p = ok_parts (c.0, a.0.1) (x, rest) c.2 in
    let same : x ≡ a.0.0.bytes = sym p.0 ∙ n.1 in
    record {
      token = a.0.0;
      parts = s.1 ∙ ap (λ (us : List Lexeme). a.0.0 ∷ us) p.1;
      word = s.0;
      name = subst IsName (sym same) n.0;
      same = same;
      free = ap (has_name names) same ∙ free_by (has_name names a.0.0.bytes) why a.0.0 a.0 b.0 b.1;
    }

pub new_name_read : {W : Type 0} (why : W) (names : List (List ℕ)) (t : Lexeme) (ts : List Lexeme) → t.sort ≡ sort.Word → IsName t.bytes → has_name names t.bytes ≡ false → new_name_at why names (t ∷ ts) ≡ Ok (t.bytes, ts)
unfolding new_name_at
new_name_read why names t ts s n f = rw (sort_read sort.Word why t ts s, f, held_read why t n) refl

name_is : (ts rest : List Lexeme) (x : List ℕ) (has : List ℕ → Bool) → Taken ts rest x has → name_phrase x ts rest
name_is ts rest x has t = subst (λ (us : List Lexeme). name_phrase x us rest) (sym t.parts) (t.word, sym t.same, refl)

pub names_take : {W : Type 0} (why : W) → TakesOne itself name_phrase (new_name_at why)
names_take why names ts rest x a h =
    let t = new_name_taken why names ts rest x h in
    (name_is ts rest x (has_name names) t, push_named itself names x a t.name t.free)

abbrev pub anything : List Lexeme → Type 0
anything ts = Unit {0}

read_name : {W : Type 0} (why : W) (names : List (List ℕ)) (ts rest : List Lexeme) (x : List ℕ) → AreNamed itself (names ++ x ∷ []) → name_phrase x ts rest → new_name_at why names ts ≡ Ok (x, rest)
read_name why names [] rest x a h = absurd h
read_name why names (t ∷ ts) rest x a h =
    let n = last_named itself names x a in
    new_name_read why names t ts h.0 (subst IsName (sym h.1) n.0) (ap (has_name names) h.1 ∙ n.1) ∙ rw (h.1, h.2) refl

name_fewer : (x : List ℕ) (ts rest : List Lexeme) → name_phrase x ts rest → length rest < length ts
name_fewer x [] rest h = absurd h
name_fewer x (t ∷ ts) rest h = let e = ap length h.2 in omega (arith, e)

pub names_read : {W : Type 0} (why : W) → ReadsOne itself name_phrase (new_name_at why) anything
names_read why = record {
  read = λ names ts rest x a h f. read_name why names ts rest x a h;
  fewer = name_fewer;
  comma = λ ts rest h. tt;
}

-- ---- keys

-- a key was taken: its name, and whether `desc` follows
pub record KeyTaken (ts rest : List Lexeme) (x : List ℕ × Bool) (has : List ℕ → Bool) : Type 0 where
  pub between : List Lexeme
  pub name : Taken ts between x.0 has
  pub way : accept_at (codes "desc") between ≡ (x.1, rest)

joined : (p : Bool × List Lexeme) (b : Bool) (rest : List Lexeme) → p.0 ≡ b → p.1 ≡ rest → p ≡ (b, rest)
joined (c, ts) b rest e f = rw (e, f) refl

pub key_taken : {W : Type 0} (why : W) (keys : List (List ℕ × Bool)) (ts rest : List Lexeme) (x : List ℕ × Bool) → key_at why keys ts ≡ Ok (x, rest) → KeyTaken ts rest x (has_key keys)
unfolding key_at
key_taken why keys ts rest x h =
    let a = bind_ok (sort_at sort.Word why ts) _ (x, rest) h in
    let b = bind_ok (if has_key keys a.0.0.bytes then refuse a.0.0 why else Ok a.0) _ (x, rest) a.2 in
    let c = bind_ok (held why a.0.0) _ (x, rest) b.2 in
    let s = sort_taken sort.Word why ts a.0.1 a.0.0 a.1 in
    let n = held_taken why a.0.0 c.0 c.1 in
    let p = ok_parts ((c.0, (accept_at (codes "desc") a.0.1).0), (accept_at (codes "desc") a.0.1).1) (x, rest) c.2 in
    let same : x.0 ≡ a.0.0.bytes = sym (ap (λ (k : List ℕ × Bool). k.0) p.0) ∙ n.1 in
    record {
      between = a.0.1;
      name = record {
        token = a.0.0;
        parts = s.1;
        word = s.0;
        name = subst IsName (sym same) n.0;
        same = same;
        free = ap (has_key keys) same ∙ free_by (has_key keys a.0.0.bytes) why a.0.0 a.0 b.0 b.1;
      };
      way = joined (accept_at (codes "desc") a.0.1) x.1 rest (ap (λ (k : List ℕ × Bool). k.1) p.0) p.1;
    }

way_is : (b : Bool) (ts rest : List Lexeme) → accept_at (codes "desc") ts ≡ (b, rest) → desc_phrase b ts rest
way_is true ts rest h = accepted (codes "desc") ts rest h
way_is false ts rest h = sym (passed (codes "desc") ts rest h)

pub keys_take : {W : Type 0} (why : W) → TakesOne key_name key_phrase (key_at why)
keys_take why keys ts rest x a h =
    let t = key_taken why keys ts rest x h in
    ((t.between, name_is ts t.between x.0 (has_key keys) t.name, way_is x.1 t.between rest t.way), push_named key_name keys x a t.name.name t.name.free)

-- `desc` doesn't follow
abbrev pub no_desc : List Lexeme → Type 0
no_desc ts = lacks (codes "desc") ts

way_read : (b : Bool) (ts rest : List Lexeme) → desc_phrase b ts rest → no_desc rest → accept_at (codes "desc") ts ≡ (b, rest)
way_read true ts rest h f = accepts (codes "desc") ts rest h
way_read false ts rest h f = rw h f

key_read : {W : Type 0} (why : W) (keys : List (List ℕ × Bool)) (t : Lexeme) (ts rest : List Lexeme) (b : Bool) → t.sort ≡ sort.Word → IsName t.bytes → has_key keys t.bytes ≡ false → accept_at (codes "desc") ts ≡ (b, rest) → key_at why keys (t ∷ ts) ≡ Ok ((t.bytes, b), rest)
unfolding key_at
key_read why keys t ts rest b s n f w = rw (sort_read sort.Word why t ts s, f, held_read why t n, w) refl

read_key : {W : Type 0} (why : W) (keys : List (List ℕ × Bool)) (ts rest : List Lexeme) (x : List ℕ × Bool) → AreNamed key_name (keys ++ x ∷ []) → key_phrase x ts rest → no_desc rest → key_at why keys ts ≡ Ok (x, rest)
read_key why keys [] rest x a h f = absurd h.1
read_key why keys (t ∷ ts) rest (name, desc) a h f =
    let n = last_named key_name keys (name, desc) a in
    let w : accept_at (codes "desc") ts ≡ (desc, rest) = ap (accept_at (codes "desc")) h.1.2 ∙ way_read desc h.0 rest h.2 f in
    key_read why keys t ts rest desc h.1.0 (subst IsName (sym h.1.1) n.0) (ap (has_key keys) h.1.1 ∙ n.1) w ∙ rw h.1.1 refl

way_fewer : (b : Bool) (ts rest : List Lexeme) → desc_phrase b ts rest → length rest ≤ length ts
way_fewer true ts rest h = let k = word_fewer (codes "desc") ts rest h in omega (arith, k)
way_fewer false ts rest h = let e = ap length h in omega (arith, e)

key_fewer : (x : List ℕ × Bool) (ts rest : List Lexeme) → key_phrase x ts rest → length rest < length ts
key_fewer x ts rest h = let a = name_fewer x.0 ts h.0 h.1 in let b = way_fewer x.1 h.0 rest h.2 in omega (arith, a, b)

comma_no_desc : (ts rest : List Lexeme) → word (codes ",") ts rest → no_desc ts
comma_no_desc [] rest h = absurd h
comma_no_desc (t ∷ ts) rest h = lacks_other (codes "desc") t ts (ap (λ b. bytes_eq b (codes "desc")) h.0)

pub keys_read : {W : Type 0} (why : W) → ReadsOne key_name key_phrase (key_at why) no_desc
keys_read why = record {
  read = λ keys ts rest x a h f. read_key why keys ts rest x a h f;
  fewer = key_fewer;
  comma = comma_no_desc;
}
