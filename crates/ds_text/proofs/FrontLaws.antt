-- The reading of a field agrees with its spelling.
use Rattle.std.proofs.Common.{◌≡◌, ◌+◌, ◌++◌, ◌∷◌, [], ◌==◌, not, ℕ, zero, suc, List, Bool, true, false, Option, Some, None, refl, sym, ap, ◌∙◌, arith, length, take, drop, append_assoc, cond, subst}
use Rattle.std.specs.List.{AllByRecursion}
use Rattle.std.proofs.lemmas.List.{take_at, drop_at, take-append-drop}
use Rattle.std.proofs.lemmas.Bool.{eqb-true, eq-eqb}
use Rattle.ds_text.specs.Cells.{doubled, text_of, BeginsPlain, IsText, behind}
use Rattle.ds_text.specs.Reading.{Quoted, unquoted, with_front, plain_len, plain_front, Front, front_of, closed, ends_field}
use Rattle.ds_text.proofs.Rests.{after}

begun : (x : ℕ) (r : Option Quoted) (q : Quoted) → with_front (x ∷ []) r ≡ Some q → (p : Quoted) × (r ≡ Some p) × (q ≡ record { bytes = x ∷ p.bytes; rest = p.rest })
begun x None q e = cc
begun x (Some p) q e = (p, refl, sym (cc e))

doubled_quote : (bs : List ℕ) → doubled (34 ∷ bs) ≡ 34 ∷ 34 ∷ doubled bs
doubled_quote bs = refl

-- what was read is spelled so, with the quote passed or not
abbrev pub Unquotes : List ℕ → Type 0
Unquotes bs = ((q : Quoted) → unquoted false bs ≡ Some q → bs ≡ doubled q.bytes ++ 34 ∷ q.rest) × ((q : Quoted) → unquoted true bs ≡ Some q → 34 ∷ bs ≡ doubled q.bytes ++ 34 ∷ q.rest)

open_by : (y : Bool) (b : ℕ) (bs : List ℕ) → Unquotes bs → (q : Quoted) → (b == 34) ≡ y → cond y (unquoted true bs) (with_front (b ∷ []) (unquoted false bs)) ≡ Some q → b ∷ bs ≡ doubled q.bytes ++ 34 ∷ q.rest
open_by true b bs ih q h e = ap (λ x. x ∷ bs) (eqb-true b 34 h) ∙ ih.1 q e
open_by false b bs ih q h e =
    let p = begun b (unquoted false bs) q e in
    rw (p.2, h) (ap (λ l. b ∷ l) (ih.0 p.0 p.1))

past_by : (y : Bool) (b : ℕ) (bs : List ℕ) → Unquotes bs → (q : Quoted) → (b == 34) ≡ y → cond y (with_front (34 ∷ []) (unquoted false bs)) (Some (record { bytes = []; rest = b ∷ bs })) ≡ Some q → 34 ∷ b ∷ bs ≡ doubled q.bytes ++ 34 ∷ q.rest
past_by true b bs ih q h e =
    let p = begun 34 (unquoted false bs) q e in
    rw p.2 (ap (λ x. 34 ∷ x ∷ bs) (eqb-true b 34 h) ∙ ap (λ l. 34 ∷ 34 ∷ l) (ih.0 p.0 p.1))
past_by false b bs ih q h e = let same : (let r : Quoted = record { bytes = []; rest = b ∷ bs } in r) ≡ q = cc e in subst (λ r. 34 ∷ b ∷ bs ≡ doubled r.bytes ++ 34 ∷ r.rest) same refl

past_none : (q : Quoted) → unquoted true [] ≡ Some q → 34 ∷ [] ≡ doubled q.bytes ++ 34 ∷ q.rest
past_none q e = let same : (let r : Quoted = record { bytes = []; rest = [] } in r) ≡ q = cc e in subst (λ r. 34 ∷ [] ≡ doubled r.bytes ++ 34 ∷ r.rest) same refl

pub unquotes : (bs : List ℕ) → Unquotes bs
unquotes [] = (λ q e. cc e, past_none)
unquotes (b ∷ bs) = (λ q e. open_by (b == 34) b bs (unquotes bs) q refl e, λ q e. past_by (b == 34) b bs (unquotes bs) q refl e)

again_by : (y : Bool) (b : ℕ) (bytes rest : List ℕ) → (b == 34) ≡ y → unquoted false (doubled bytes ++ 34 ∷ rest) ≡ Some (record { bytes = bytes; rest = rest })
    → unquoted false (cond y (34 ∷ 34 ∷ doubled bytes) (b ∷ doubled bytes) ++ 34 ∷ rest) ≡ Some (record { bytes = b ∷ bytes; rest = rest })
again_by true b bytes rest h e = ap (with_front (34 ∷ [])) e ∙ ap (λ x. let r : Option Quoted = Some (record { bytes = x ∷ bytes; rest = rest }) in r) (sym (eqb-true b 34 h))
again_by false b bytes rest h e = rw h (ap (with_front (b ∷ [])) e)

-- what is spelled so is read
pub unquoted_again : (bytes rest : List ℕ) → BeginsPlain rest → unquoted false (doubled bytes ++ 34 ∷ rest) ≡ Some (record { bytes = bytes; rest = rest })
unquoted_again [] [] h = refl
unquoted_again [] (c ∷ rest) h = rw h refl
unquoted_again (b ∷ bytes) rest h = again_by (b == 34) b bytes rest refl (unquoted_again bytes rest h)

plain_more : {m n : ℕ} → m ≡ n → 1 + m ≡ suc n
plain_more e = omega (arith, e)

pub plain_len_again : (d : ℕ) (bytes rest : List ℕ) → AllByRecursion (λ b. (b == d) ≡ false) bytes → ends_field d rest ≡ true → plain_len d (bytes ++ rest) ≡ length bytes
plain_len_again d [] [] h e = refl
plain_len_again d [] (c ∷ rest) h e = rw e refl
plain_len_again d (b ∷ bytes) rest h e = rw h.0 (plain_more (plain_len_again d bytes rest h.1 e))

free_by : (y : Bool) (d b : ℕ) (line : List ℕ) → (b == d) ≡ y → AllByRecursion (λ b. (b == d) ≡ false) (take (plain_len d line) line) × (ends_field d (drop (plain_len d line) line) ≡ true)
    → AllByRecursion (λ b. (b == d) ≡ false) (take (cond (not y) (1 + plain_len d line) 0) (b ∷ line)) × (ends_field d (drop (cond (not y) (1 + plain_len d line) 0) (b ∷ line)) ≡ true)
free_by true d b line h e = (tt, h)
free_by false d b line h e = let k : 1 + plain_len d line ≡ suc (plain_len d line) = omega arith in rw k ((h, e.0), e.1)

pub plain_free : (d : ℕ) (line : List ℕ) → AllByRecursion (λ b. (b == d) ≡ false) (take (plain_len d line) line) × (ends_field d (drop (plain_len d line) line) ≡ true)
plain_free d [] = (tt, refl)
plain_free d (b ∷ line) = free_by (b == d) d b line refl (plain_free d line)

begins_front : (n : ℕ) (line : List ℕ) → BeginsPlain line → BeginsPlain (take n line)
begins_front zero line h = tt
begins_front (suc n) [] h = tt
begins_front (suc n) (b ∷ line) h = h

pub record Spelled (d : ℕ) (line : List ℕ) (f : Front) : Type 0 where
  pub cell : IsText d f.quoted f.bytes
  pub line_is : line ≡ text_of f.quoted f.bytes ++ f.rest
  pub ends : ends_field d f.rest ≡ true

plain_spelled : (d : ℕ) (line : List ℕ) → BeginsPlain line → Spelled d line (plain_front d line)
plain_spelled d line h = record { cell = (begins_front (plain_len d line) line h, (plain_free d line).0); line_is = sym (take-append-drop (plain_len d line) line); ends = (plain_free d line).1 }

closed_by : (y : Bool) (d : ℕ) (bs : List ℕ) (q : Quoted) (f : Front) → ends_field d q.rest ≡ y → unquoted false bs ≡ Some q
    → cond y (Some (record { quoted = true; bytes = q.bytes; rest = q.rest })) None ≡ Some f → Spelled d (34 ∷ bs) f
closed_by true d bs q f h is e =
    let same : (let r : Front = record { quoted = true; bytes = q.bytes; rest = q.rest } in r) ≡ f = cc e in
    subst (Spelled d (34 ∷ bs)) same (record { cell = tt; line_is = ap (λ l. 34 ∷ l) ((unquotes bs).0 q is ∙ sym (append_assoc (doubled q.bytes) (34 ∷ []) q.rest)); ends = h })
closed_by false d bs q f h is e = cc

closed_spelled : (d : ℕ) (bs : List ℕ) (r : Option Quoted) (f : Front) → unquoted false bs ≡ r → closed d r ≡ Some f → Spelled d (34 ∷ bs) f
closed_spelled d bs None f is e = cc
closed_spelled d bs (Some q) f is e = closed_by (ends_field d q.rest) d bs q f refl is e

front_by : (y : Bool) (d b : ℕ) (bs : List ℕ) (f : Front) → (b == 34) ≡ y → cond y (closed d (unquoted false bs)) (Some (plain_front d (b ∷ bs))) ≡ Some f → Spelled d (b ∷ bs) f
front_by true d b bs f h e = subst (λ x. Spelled d (x ∷ bs) f) (sym (eqb-true b 34 h)) (closed_spelled d bs (unquoted false bs) f refl e)
front_by false d b bs f h e = let same : plain_front d (b ∷ bs) ≡ f = cc e in subst (Spelled d (b ∷ bs)) same (plain_spelled d (b ∷ bs) h)

pub front_spelled : (d : ℕ) (line : List ℕ) (f : Front) → front_of d line ≡ Some f → Spelled d line f
front_spelled d [] f e = let same : plain_front d [] ≡ f = cc e in subst (Spelled d []) same (plain_spelled d [] tt)
front_spelled d (b ∷ bs) f e = front_by (b == 34) d b bs f refl e

-- the end of a field is no quote
ends_plain : (d : ℕ) (rest : List ℕ) → (d == 34) ≡ false → ends_field d rest ≡ true → BeginsPlain rest
ends_plain d [] h e = tt
ends_plain d (c ∷ rest) h e = ap (λ x. x == 34) (eqb-true c d e) ∙ h

front_plain : (d : ℕ) (line : List ℕ) → BeginsPlain line → front_of d line ≡ Some (plain_front d line)
front_plain d [] h = refl
front_plain d (b ∷ bs) h = rw h refl

begins_append : (bytes rest : List ℕ) → BeginsPlain bytes → BeginsPlain rest → BeginsPlain (bytes ++ rest)
begins_append [] rest h k = k
begins_append (b ∷ bytes) rest h k = h

pub front_again : (d : ℕ) (quoted : Bool) (bytes rest : List ℕ) → (d == 34) ≡ false → IsText d quoted bytes → ends_field d rest ≡ true
    → front_of d (text_of quoted bytes ++ rest) ≡ Some (record { quoted = quoted; bytes = bytes; rest = rest })
front_again d true bytes rest h t e =
    ap (λ l. closed d (unquoted false l)) (append_assoc (doubled bytes) (34 ∷ []) rest)
    ∙ (ap (closed d) (unquoted_again bytes rest (ends_plain d rest h e)) ∙ rw e refl)
front_again d false bytes rest h t e =
    let n = plain_len_again d bytes rest t.1 e in
    front_plain d (bytes ++ rest) (begins_append bytes rest t.0 (ends_plain d rest h e))
    ∙ (ap (λ k. let r : Option Front = Some (record { quoted = false; bytes = take k (bytes ++ rest); rest = drop k (bytes ++ rest) }) in r) n
    ∙ (ap (λ l. let r : Option Front = Some (record { quoted = false; bytes = l; rest = drop (length bytes) (bytes ++ rest) }) in r) (take_at bytes rest (length bytes) refl)
    ∙ ap (λ l. let r : Option Front = Some (record { quoted = false; bytes = bytes; rest = l }) in r) (drop_at bytes rest (length bytes) refl)))

pub behind_after : (d : ℕ) (rest : List ℕ) → ends_field d rest ≡ true → rest ≡ behind d (after rest)
behind_after d [] e = refl
behind_after d (c ∷ rest) e = ap (λ x. x ∷ rest) (eqb-true c d e)

pub after_behind : (d : ℕ) (rest : Option (List ℕ)) → (after (behind d rest) ≡ rest) × (ends_field d (behind d rest) ≡ true)
after_behind d None = (refl, refl)
after_behind d (Some rest) = (refl, eq-eqb d d refl)
