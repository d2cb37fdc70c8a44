-- Cases: what is read is a list of them, no two the same, and what is one is read.
use Rattle.std.proofs.Common.{◌≡◌, ◌≤◌, ◌<◌, ◌^◌, inl, inr, ℕ, zero, suc, ℤ, pos, neg_ℤ, FitsSigned, w64, List, [], ◌∷◌, ◌++◌, Bool, true, false, Result, Ok, length, refl, sym, ap, ◌∙◌, subst, arith}
use Rattle.std.specs.Prelude.{if◌then◌else◌, ◌==◌, ◌||◌, codes}
use Rattle.std.specs.List.{AllByRecursion}
use Rattle.std.specs.Ordering.{int_eq}
use Rattle.std.specs.Str.{bytes_eq}
use Rattle.std.specs.Str.Parse.{IsNumeral, digits_value}
use Rattle.std.proofs.lemmas.Bool.{ne_eqb, false≢true}
use Rattle.std.proofs.lemmas.Bool.Decides.{Decides-int_eq}
use Rattle.std.proofs.lemmas.Str.Parse.{digit_from_value}
use Rattle.ds_lex.specs.declared.token.Sort.TheVariants as sort
use Rattle.ds_lex.specs.declared.refusal.Refusal.{Refusal}
use Rattle.ds_lex.specs.Lexemes.{Lexeme}
use Rattle.ds_lex.specs.Reading.{◌>>=◌, sort_at, accept_at, refuse}
use Rattle.ds_lex.specs.Phrases.{word}
use Rattle.ds_lex.proofs.Readers.{bind_ok, lacks_other}
use Rattle.ds_schema.specs.SchemaReading.{is_size}
use Rattle.ds_schema.proofs.ListReaders.{ok_parts, accepted, accepts, passed, word_fewer}
use Rattle.op_base.proofs.All.{all_append}
use Rattle.op_row.specs.Expressed.{AreDistinct}
use Rattle.osh_value.specs.Values.{Inside, case_at, cases_at, greatest_case, has_case, signed_case}
use Rattle.osh_value.specs.ValueGrammar.{digits_phrase, case_phrase, cases_form}
use Rattle.osh_value.proofs.TokensTaken.{test_taken, test_passed, sort_taken, sort_read, token_fewer, tested_size, size_tested}
use Rattle.osh_value.proofs.ListsSpelled.{TakesOne, ReadsOne, list_taken, list_read}

-- ---- distinct numbers

abbrev pub AreCases : List ℤ → Type 0
AreCases cases = AllByRecursion (FitsSigned w64) cases × AreDistinct cases

neither : (a b : Bool) → (a || b) ≡ false → (a ≡ false) × (b ≡ false)
neither false b h = (refl, h)
neither true b h = absurd cc

differ : (x y : ℤ) → int_eq x y ≡ false → x ≡ y → ⊥
differ x y h e = false≢true (sym h ∙ (Decides-int_eq x y).1 e)

unequal_by : (x y : ℤ) (b : Bool) → int_eq x y ≡ b → (x ≡ y → ⊥) → int_eq x y ≡ false
unequal_by x y true e d = absurd (d ((Decides-int_eq x y).0 e))
unequal_by x y false e d = e

push : (found : List ℤ) (z : ℤ) → AreDistinct found → has_case found z ≡ false → AreDistinct (found ++ z ∷ [])
push [] z d h = (tt, tt)
push (c ∷ cs) z d h =
    let k = neither (int_eq c z) (has_case cs z) h in
    (all_append (λ other. c ≡ other → ⊥) cs (z ∷ []) d.0 (differ c z k.0, tt), push cs z d.1 k.1)

all_front : (P : ℤ → Type 0) (xs ys : List ℤ) → AllByRecursion P (xs ++ ys) → AllByRecursion P xs
all_front P [] ys h = tt
all_front P (x ∷ xs) ys h = (h.0, all_front P xs ys h.1)

all_last : (P : ℤ → Type 0) (xs : List ℤ) (z : ℤ) → AllByRecursion P (xs ++ z ∷ []) → P z
all_last P [] z h = h.0
all_last P (x ∷ xs) z h = all_last P xs z h.1

distinct_front : (xs ys : List ℤ) → AreDistinct (xs ++ ys) → AreDistinct xs
distinct_front [] ys d = tt
distinct_front (x ∷ xs) ys d = (all_front (λ other. x ≡ other → ⊥) xs ys d.0, distinct_front xs ys d.1)

fresh_last : (xs : List ℤ) (z : ℤ) → AreDistinct (xs ++ z ∷ []) → has_case xs z ≡ false
fresh_last [] z d = refl
fresh_last (x ∷ xs) z d = rw (unequal_by x z (int_eq x z) refl (all_last (λ other. x ≡ other → ⊥) xs z d.0)) (fresh_last xs z d.1)

-- ---- ranges

signed_fits : (minus : Bool) (n : ℕ) → n ≤ greatest_case minus → FitsSigned w64 (signed_case minus n)
signed_fits false n h = let k : 0 < 2 ^ 63 = omega arith in omega (arith, h)
signed_fits true zero h = omega arith
signed_fits true (suc n) h = omega (arith, h)

plain_fits : (n : ℕ) → FitsSigned w64 (pos n) → n ≤ greatest_case false
plain_fits n h = omega (arith, h)

minus_fits : (n : ℕ) → FitsSigned w64 (neg_ℤ (pos n)) → n ≤ greatest_case true
minus_fits zero h = omega arith
minus_fits (suc n) h = omega (arith, h)

-- ---- what is read

-- the digits behind a sign that came or didn't
record CaseTaken (found : List ℤ) (minus : Bool) (us rest : List Lexeme) (z : ℤ) : Type 0 where
  stands : digits_phrase (signed_case minus) z us rest
  fits : FitsSigned w64 z
  fresh : has_case found z ≡ false

abbrev case_from : List ℤ → Bool × List Lexeme → Inside ℤ
case_from found p = do
  n ← sort_at sort.Number (tt {0}) p.1
  fits ← if is_size 0 (greatest_case p.0) n.0.bytes then Ok n.0 else refuse n.0 tt
  new ← if has_case found (signed_case p.0 (digits_value 10 n.0.bytes)) then refuse n.0 tt else Ok n.0
  Ok (signed_case p.0 (digits_value 10 n.0.bytes), n.1)

digits_taken : (found : List ℤ) (p : Bool × List Lexeme) (rest : List Lexeme) (z : ℤ) → case_from found p ≡ Ok (z, rest) → CaseTaken found p.0 p.1 rest z
digits_taken found p rest z h =
    let a = bind_ok (sort_at sort.Number (tt {0}) p.1) _ (z, rest) h in
    let s = sort_taken sort.Number (tt {0}) p.1 a.0.1 a.0.0 a.1 in
    let b = bind_ok (let r : Result Lexeme (Refusal (Unit {0})) = if is_size 0 (greatest_case p.0) a.0.0.bytes then Ok a.0.0 else refuse a.0.0 tt in r) _ (z, rest) a.2 in
    let size = tested_size 0 (greatest_case p.0) a.0.0.bytes (test_taken (is_size 0 (greatest_case p.0) a.0.0.bytes) a.0.0 b.0 _ b.1).0 in
    let number = signed_case p.0 (digits_value 10 a.0.0.bytes) in
    let c = test_passed (has_case found number) a.0.0 _ _ (z, rest) b.2 in
    let k = ok_parts (number, a.0.1) (z, rest) c.1 in
    record {
      stands = subst (λ (us : List Lexeme). digits_phrase (signed_case p.0) z us rest) (sym s.1) (s.0, (size.2, sym k.0), k.1);
      fits = subst (FitsSigned w64) k.0 (signed_fits p.0 (digits_value 10 a.0.0.bytes) size.1);
      fresh = subst (λ (y : ℤ). has_case found y ≡ false) k.0 c.0;
    }

with_sign : (p : Bool × List Lexeme) (ts rest : List Lexeme) (z : ℤ) → accept_at (codes "-") ts ≡ p → digits_phrase (signed_case p.0) z p.1 rest → case_phrase z ts rest
with_sign (true, us) ts rest z e h = inl (us, accepted (codes "-") ts us e, h)
with_sign (false, us) ts rest z e h = inr (subst (λ (vs : List Lexeme). digits_phrase pos z vs rest) (passed (codes "-") ts us e) h)

case_taken : (found : List ℤ) (ts rest : List Lexeme) (z : ℤ) → case_at found ts ≡ Ok (z, rest) → case_phrase z ts rest × FitsSigned w64 z × (has_case found z ≡ false)
unfolding case_at
case_taken found ts rest z h =
    let t = digits_taken found (accept_at (codes "-") ts) rest z h in
    (with_sign (accept_at (codes "-") ts) ts rest z refl t.stands, t.fits, t.fresh)

takes : TakesOne AreCases case_phrase case_at
takes found ts rest z f h =
    let k = case_taken found ts rest z h in
    (k.0, (all_append (FitsSigned w64) found (z ∷ []) f.0 (k.1, tt), push found z f.1 k.2))

pub cases_taken : (ts rest : List Lexeme) (cases : List ℤ) → cases_at ts ≡ Ok (cases, rest) → cases_form cases ts rest
cases_taken ts rest cases h = let k = list_taken AreCases case_phrase case_at takes (tt, tt) ts rest cases h in (k.0.0, k.0.1, k.1)

-- ---- what is spelled so

no_minus : (bytes : List ℕ) → IsNumeral 10 bytes → bytes_eq bytes (codes "-") ≡ false
no_minus [] h = refl
no_minus (c ∷ bytes) h =
    let range = digit_from_value c h.1.0 in
    let other : (c == 45) ≡ false = ne_eqb c 45 (λ e. omega (arith, range.0, e)) in
    rw other refl

digits_read : (found : List ℤ) (minus : Bool) (t : Lexeme) (us : List Lexeme) → t.sort ≡ sort.Number → IsNumeral 10 t.bytes → digits_value 10 t.bytes ≤ greatest_case minus → has_case found (signed_case minus (digits_value 10 t.bytes)) ≡ false
    → case_from found (minus, t ∷ us) ≡ Ok (signed_case minus (digits_value 10 t.bytes), us)
digits_read found minus t us s n fits fresh =
    rw (sort_read sort.Number (tt {0}) t us s, size_tested 0 (greatest_case minus) t.bytes n (omega arith) fits, fresh) refl

plain_read : (found : List ℤ) (z : ℤ) (ts rest : List Lexeme) → FitsSigned w64 z → has_case found z ≡ false → digits_phrase pos z ts rest → case_at found ts ≡ Ok (z, rest)
unfolding case_at
plain_read found z [] rest fits fresh h = absurd h
plain_read found z (t ∷ ts) rest fits fresh h =
    let small = plain_fits (digits_value 10 t.bytes) (subst (FitsSigned w64) h.1.1 fits) in
    let new : has_case found (pos (digits_value 10 t.bytes)) ≡ false = ap (has_case found) (sym h.1.1) ∙ fresh in
    ap (case_from found) (lacks_other (codes "-") t ts (no_minus t.bytes h.1.0)) ∙ (digits_read found false t ts h.0 h.1.0 small new ∙ rw (h.1.1, h.2) refl)

minus_read : (found : List ℤ) (z : ℤ) (ts us rest : List Lexeme) → FitsSigned w64 z → has_case found z ≡ false → word (codes "-") ts us → digits_phrase (λ n. neg_ℤ (pos n)) z us rest → case_at found ts ≡ Ok (z, rest)
unfolding case_at
minus_read found z ts [] rest fits fresh w h = absurd h
minus_read found z ts (t ∷ us) rest fits fresh w h =
    let small = minus_fits (digits_value 10 t.bytes) (subst (FitsSigned w64) h.1.1 fits) in
    let new : has_case found (neg_ℤ (pos (digits_value 10 t.bytes))) ≡ false = ap (has_case found) (sym h.1.1) ∙ fresh in
    ap (case_from found) (accepts (codes "-") ts (t ∷ us) w) ∙ (digits_read found true t us h.0 h.1.0 small new ∙ rw (h.1.1, h.2) refl)

case_read : (found : List ℤ) (z : ℤ) (ts rest : List Lexeme) → FitsSigned w64 z → has_case found z ≡ false → case_phrase z ts rest → case_at found ts ≡ Ok (z, rest)
case_read found z ts rest fits fresh h =
    elim h [
      | inl a ↦ minus_read found z ts a.0 rest fits fresh a.1 a.2
      | inr b ↦ plain_read found z ts rest fits fresh b
    ]

digits_fewer : (of_digits : ℕ → ℤ) (z : ℤ) (ts rest : List Lexeme) → digits_phrase of_digits z ts rest → length rest < length ts
digits_fewer of_digits z ts rest h = token_fewer sort.Number (λ bytes. IsNumeral 10 bytes × (z ≡ of_digits (digits_value 10 bytes))) ts rest h

case_fewer : (z : ℤ) (ts rest : List Lexeme) → case_phrase z ts rest → length rest < length ts
case_fewer z ts rest h =
    elim h [
      | inl a ↦ (let k = word_fewer (codes "-") ts a.0 a.1 in let l = digits_fewer (λ n. neg_ℤ (pos n)) z a.0 rest a.2 in omega (arith, k, l))
      | inr b ↦ digits_fewer pos z ts rest b
    ]

reads : ReadsOne AreCases case_phrase case_at
reads = record {
  read = λ found z ts rest f h. case_read found z ts rest (all_last (FitsSigned w64) found z f.0) (fresh_last found z f.1) h;
  fewer = case_fewer;
  front = λ xs ys f. (all_front (FitsSigned w64) xs ys f.0, distinct_front xs ys f.1);
}

pub cases_read : (cases : List ℤ) (ts : List Lexeme) → cases_form cases ts [] → cases_at ts ≡ Ok (cases, [])
cases_read cases ts h = list_read AreCases case_phrase case_at reads cases ts ((h.0, h.1), h.2)
