-- A delimited line is read field by field.
use Rattle.std.proofs.Common.{◌≡◌, ◌≤◌, ◌<◌, ◌+◌, ◌++◌, ◌∷◌, [], ◌==◌, ℕ, List, Bool, true, false, Option, Some, None, refl, sym, ap, ◌∙◌, arith, length, drop, nat_lt, length-drop, subst}
use Rattle.std.proofs.lemmas.List.{drop_all, drop_more}
use Rattle.std.proofs.lemmas.Bool.{ltb-true, ltb-false}
use Rattle.ds_value.specs.declared.value.Value.{Value}
use Rattle.ds_value.specs.declared.kind.Kind.{Kind}
use Rattle.ds_value.proofs.Spellings.{spells_once}
use Rattle.ds_schema.specs.declared.schema.Field.{Field}
use Rattle.ds_text.specs.Cells.{text_of, behind}
use Rattle.ds_text.specs.Records.{NullOr, Means, is_null_cell, SpellsFields}
use Rattle.ds_text.specs.Reading.{Front, front_of, FieldAt, NoField}
use Rattle.ds_text.proofs.Rests.{after, left_of}
use Rattle.ds_text.proofs.FrontLaws.{front_spelled, front_again, behind_after, after_behind}
use Rattle.ds_text.proofs.Partial.{ReadsSoFar, IsNext, next, none, all}

pub joined : (d : ℕ) (g : Field) (fs : List Field) (line : List ℕ) (f : Front) (v : Value) (vs : List Value) → front_of d line ≡ Some f → Means g f.quoted f.bytes v → SpellsFields d fs (after f.rest) vs
    → SpellsFields d (g ∷ fs) (Some line) (v ∷ vs)
joined d g fs line f v vs e m more =
    let s = front_spelled d line f e in
    (record { quoted = f.quoted; bytes = f.bytes }, after f.rest, s.cell, s.line_is ∙ ap (λ l. text_of f.quoted f.bytes ++ l) (behind_after d f.rest s.ends), m, more)

-- what a line is taken apart into
pub record Parts (d : ℕ) (g : Field) (fs : List Field) (line : List ℕ) (ws : List Value) : Type 0 where
  pub front : Front
  pub is : front_of d line ≡ Some front
  pub value : Value
  pub values : List Value
  pub ws_is : ws ≡ value ∷ values
  pub means : Means g front.quoted front.bytes value
  pub more : SpellsFields d fs (after front.rest) values

pub parted : (d : ℕ) (g : Field) (fs : List Field) (line : List ℕ) (ws : List Value) → (d == 34) ≡ false → SpellsFields d (g ∷ fs) (Some line) ws → Parts d g fs line ws
parted d g fs line [] h s = absurd s
parted d g fs line (v ∷ vs) h s =
    let c = s.0 in
    let rest = s.1 in
    record {
      front = record { quoted = c.quoted; bytes = c.bytes; rest = behind d rest };
      is = ap (front_of d) s.3 ∙ front_again d c.quoted c.bytes (behind d rest) h s.2 (after_behind d rest).1;
      value = v;
      values = vs;
      ws_is = refl;
      means = s.4;
      more = subst (λ r. SpellsFields d fs r vs) (sym (after_behind d rest).0) s.5;
    }

after_by : (y : Bool) (n : ℕ) (line : List ℕ) → nat_lt n (length line) ≡ y → after (drop n line) ≡ left_of y (drop (n + 1) line)
after_by true n line e = ap after (drop_more line n 0 (ltb-true n (length line) e))
after_by false n line e = ap after (drop_all n line (ltb-false n (length line) e))

-- a text means one value
pub one_null_or : (null : Bool) (k : Kind) (bytes : List ℕ) (v w : Value) → NullOr null k bytes v → NullOr null k bytes w → v ≡ w
one_null_or true k bytes v w a b = a ∙ sym b
one_null_or false k bytes v w a b = spells_once k bytes v w a b

one_value : (f : Field) (quoted : Bool) (bytes : List ℕ) (v w : Value) → Means f quoted bytes v → Means f quoted bytes w → v ≡ w
one_value f quoted bytes v w a b = one_null_or (is_null_cell f quoted bytes) f.kind bytes v w a b

after_drop : (n : ℕ) (line : List ℕ) → after (drop n line) ≡ left_of (nat_lt n (length line)) (drop (n + 1) line)
after_drop n line = after_by (nat_lt n (length line)) n line refl

-- the value of the field at the front comes next
next_field : (d : ℕ) (f : Field) (fs : List Field) (line : List ℕ) (n : ℕ) (v : Value) → (d == 34) ≡ false → FieldAt d f line v n
    → IsNext (SpellsFields d (f ∷ fs) (Some line)) (SpellsFields d fs (left_of (nat_lt n (length line)) (drop (n + 1) line))) v
next_field d f fs line n v h at =
    let front = at.0 in
    let left : after front.rest ≡ left_of (nat_lt n (length line)) (drop (n + 1) line) = ap after at.2 ∙ after_drop n line in
    record {
      goes_on = λ vs s. joined d f fs line front v vs at.1 at.4 (subst (λ l. SpellsFields d fs l vs) (sym left) s);
      back = λ ws s.
          let p = parted d f fs line ws h s in
          let same : p.front ≡ front = cc (sym p.is ∙ at.1) in
          let value : p.value ≡ v = one_value f p.front.quoted p.front.bytes p.value v p.means (subst (λ x. Means f x.quoted x.bytes v) (sym same) at.4) in
          (p.values, p.ws_is ∙ ap (λ x. x ∷ p.values) value, subst (λ l. SpellsFields d fs l p.values) (ap (λ x. after x.rest) same ∙ left) p.more);
    }

abbrev pub ReadsFields : ℕ → List Field → List ℕ → ℕ → Option (List ℕ) → List Value → Type 0
ReadsFields d fields line i left row = ReadsSoFar (SpellsFields d fields (Some line)) (SpellsFields d (drop i fields) left) row

pub more_fields : (d : ℕ) (fields : List Field) (line rest : List ℕ) (i n : ℕ) (row : List Value) (v : Value) (f : Field) → (d == 34) ≡ false
    → drop i fields ≡ f ∷ drop (i + 1) fields → FieldAt d f rest v n → ReadsFields d fields line i (Some rest) row
    → ReadsFields d fields line (i + 1) (left_of (nat_lt n (length rest)) (drop (n + 1) rest)) (row ++ v ∷ [])
more_fields d fields line rest i n row v f h e at r =
    next _ _ _ row v (subst (λ l. IsNext (SpellsFields d l (Some rest)) (SpellsFields d (drop (i + 1) fields) (left_of (nat_lt n (length rest)) (drop (n + 1) rest))) v) (sym e) (next_field d f (drop (i + 1) fields) rest n v h at)) r

pub no_field : (d : ℕ) (fields : List Field) (line rest : List ℕ) (i : ℕ) (row : List Value) (f : Field) → (d == 34) ≡ false → drop i fields ≡ f ∷ drop (i + 1) fields → NoField d f rest
    → ReadsFields d fields line i (Some rest) row → (ws : List Value) → SpellsFields d fields (Some line) ws → ⊥
no_field d fields line rest i row f h e never r =
    none _ _ row (λ vs s. let p = parted d f (drop (i + 1) fields) rest vs h (subst (λ l. SpellsFields d l (Some rest) vs) e s) in never p.front p.is p.value p.means) r

no_line : (d : ℕ) (fs : List Field) (vs : List Value) → 0 < length fs → SpellsFields d fs None vs → ⊥
no_line d [] vs h s = omega arith
no_line d (f ∷ fs) [] h s = s
no_line d (f ∷ fs) (v ∷ vs) h s = s

-- the line ended before the fields
pub ended : (d : ℕ) (fields : List Field) (line : List ℕ) (i : ℕ) (row : List Value) → i < length fields → ReadsFields d fields line i None row → (ws : List Value) → SpellsFields d fields (Some line) ws → ⊥
ended d fields line i row h r = none _ _ row (λ vs s. no_line d (drop i fields) vs (omega (arith, length-drop i fields)) s) r

no_fields : (d : ℕ) (rest : List ℕ) (vs : List Value) → SpellsFields d [] (Some rest) vs → ⊥
no_fields d rest [] s = s
no_fields d rest (v ∷ vs) s = s

-- the fields ended before the line
pub unended : (d : ℕ) (fields : List Field) (line rest : List ℕ) (i : ℕ) (row : List Value) → length fields ≤ i → ReadsFields d fields line i (Some rest) row → (ws : List Value) → SpellsFields d fields (Some line) ws → ⊥
unended d fields line rest i row h r = none _ _ row (λ vs s. no_fields d rest vs (subst (λ l. SpellsFields d l (Some rest) vs) (drop_all i fields h) s)) r

pub whole : (d : ℕ) (fields : List Field) (line : List ℕ) (i : ℕ) (row : List Value) → length fields ≤ i → ReadsFields d fields line i None row → SpellsFields d fields (Some line) row
whole d fields line i row h r = all _ _ row (subst (λ l. SpellsFields d l None []) (sym (drop_all i fields h)) tt) r
