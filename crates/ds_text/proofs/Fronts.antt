use Rattle.std.proofs.Common.{◌≡◌, ◌≤◌, ◌+◌, ◌∷◌, [], ℕ, suc, List, true, false, Some, None, refl, sym, ap, ◌∙◌, arith, length, take, drop, subst}
use Rattle.ds_value.specs.declared.value.Value.{Value}
use Rattle.ds_schema.specs.declared.schema.Field.{Field}
use Rattle.ds_text.specs.Cells.{BeginsPlain}
use Rattle.ds_text.specs.Records.{Means}
use Rattle.ds_text.specs.Reading.{unquoted, plain_len, plain_front, Front, front_of, closed, ends_field, FieldAt, NoField}

pub plain_is : (d : ℕ) (line : List ℕ) → BeginsPlain line → front_of d line ≡ Some (plain_front d line)
plain_is d [] h = refl
plain_is d (b ∷ bs) h = rw h refl

pub plain_at : (d n : ℕ) (f : Field) (line : List ℕ) (v : Value) → n ≡ plain_len d line → BeginsPlain line → n ≤ length line → Means f false (take n line) v → FieldAt d f line v n
plain_at d n f line v e h within m =
    (record { quoted = false; bytes = take n line; rest = drop n line }, plain_is d line h ∙ rw e refl, refl, within, m)

pub plain_not : (d : ℕ) (f : Field) (line : List ℕ) → BeginsPlain line → ((v : Value) → Means f false (take (plain_len d line) line) v → ⊥) → NoField d f line
plain_not d f line h none front e v m =
    let same : plain_front d line ≡ front = cc (sym (plain_is d line h) ∙ e) in
    none v (subst (λ x. Means f x.quoted x.bytes v) (sym same) m)

pub closed_is : (d n : ℕ) (inside text : List ℕ) → unquoted false inside ≡ Some (record { bytes = text; rest = drop n inside }) → ends_field d (drop n inside) ≡ true
    → front_of d (34 ∷ inside) ≡ Some (record { quoted = true; bytes = text; rest = drop n inside })
closed_is d n inside text e h = ap (closed d) e ∙ rw h refl

drop_suc : (n b : ℕ) (bs : List ℕ) → drop (n + 1) (b ∷ bs) ≡ drop n bs
drop_suc n b bs = let e : n + 1 ≡ suc n = omega arith in rw e refl

pub quoted_at : (d n : ℕ) (f : Field) (inside text : List ℕ) (v : Value) → unquoted false inside ≡ Some (record { bytes = text; rest = drop n inside }) → ends_field d (drop n inside) ≡ true
    → n ≤ length inside → Means f true text v → FieldAt d f (34 ∷ inside) v (n + 1)
quoted_at d n f inside text v e h within m = (_, closed_is d n inside text e h, sym (drop_suc n 34 inside), (let k : n + 1 ≤ suc (length inside) = omega arith in k), m)

pub quoted_not : (d n : ℕ) (f : Field) (inside text : List ℕ) → unquoted false inside ≡ Some (record { bytes = text; rest = drop n inside }) → ends_field d (drop n inside) ≡ true
    → ((v : Value) → Means f true text v → ⊥) → NoField d f (34 ∷ inside)
quoted_not d n f inside text e h none front is v m =
    let got : Front = record { quoted = true; bytes = text; rest = drop n inside } in
    let same : got ≡ front = cc (sym (closed_is d n inside text e h) ∙ is) in
    none v (subst (λ x. Means f x.quoted x.bytes v) (sym same) m)

pub open_not : (d : ℕ) (f : Field) (inside : List ℕ) → unquoted false inside ≡ None → NoField d f (34 ∷ inside)
open_not d f inside e front is v m = cc (sym (ap (closed d) e) ∙ is)

pub unended_not : (d n : ℕ) (f : Field) (inside text : List ℕ) → unquoted false inside ≡ Some (record { bytes = text; rest = drop n inside }) → ends_field d (drop n inside) ≡ false → NoField d f (34 ∷ inside)
unended_not d n f inside text e h front is v m =
    let none : front_of d (34 ∷ inside) ≡ None = ap (closed d) e ∙ rw h refl in
    cc (sym none ∙ is)
