-- A delimited line spells one row at most, which fits, and what is written spells the row.
use Rattle.std.proofs.Common.{◌≡◌, ◌≢◌, ◌≤◌, ◌++◌, ◌∷◌, [], ◌==◌, ◌||◌, ◌&&◌, not, ℕ, List, Bool, true, false, Option, Some, None, refl, sym, ap, ◌∙◌, arith, length, append-nil, subst}
use Rattle.std.specs.List.{AllByRecursion, list_any}
use Rattle.std.proofs.lemmas.Bool.{ne_eqb}
use Rattle.ds_value.specs.declared.kind.Kind.{Kind}
use Rattle.ds_value.specs.declared.kind.Kind.TheVariants as kind
use Rattle.ds_value.specs.declared.value.Value.{Value}
use Rattle.ds_value.specs.declared.value.Value.TheVariants.{Null, Int, UInt, Dec, Text, Date}
use Rattle.ds_value.specs.Kinds.{IsKind, fits_kind}
use Rattle.ds_value.specs.Spellings.{written}
use Rattle.ds_value.proofs.Spellings.{written_spells}
use Rattle.ds_schema.specs.declared.schema.Field.{Field}
use Rattle.ds_schema.specs.Schemas.{IsField, fits_field, row_fits}
use Rattle.ds_text.specs.Cells.{Cell, text_of, cell_text, doubled, BeginsPlain, IsText, IsCell, behind}
use Rattle.ds_text.specs.Records.{NullOr, Means, is_null_cell, is_empty, is_null, SpellsFields, needs_quotes, written_field, written_more, written_fields}
use Rattle.ds_text.specs.RecordLaws.{ends_with}
use Rattle.ds_text.proofs.Rests.{after}
use Rattle.ds_text.proofs.FieldRows.{parted, one_null_or}
use Rattle.ds_text.proofs.FieldWriting.{and_parts, kind_fits}

-- one row
pub one_fields : (d : ℕ) (fs : List Field) (line : Option (List ℕ)) (a b : List Value) → (d == 34) ≡ false → SpellsFields d fs line a → SpellsFields d fs line b → a ≡ b
one_fields d [] None [] [] h s t = refl
one_fields d [] None [] (w ∷ b) h s t = absurd t
one_fields d [] None (v ∷ a) b h s t = absurd s
one_fields d [] (Some line) [] b h s t = absurd s
one_fields d [] (Some line) (v ∷ a) b h s t = absurd s
one_fields d (f ∷ fs) None [] b h s t = absurd s
one_fields d (f ∷ fs) None (v ∷ a) b h s t = absurd s
one_fields d (f ∷ fs) (Some line) a b h s t =
    let p = parted d f fs line a h s in
    let q = parted d f fs line b h t in
    let same : p.front ≡ q.front = cc (sym p.is ∙ q.is) in
    let value : p.value ≡ q.value = one_null_or (is_null_cell f q.front.quoted q.front.bytes) f.kind q.front.bytes p.value q.value (subst (λ x. Means f x.quoted x.bytes p.value) same p.means) q.means in
    let values : p.values ≡ q.values = one_fields d fs (after q.front.rest) p.values q.values h (subst (λ x. SpellsFields d fs (after x.rest) p.values) same p.more) q.more in
    p.ws_is ∙ (ap (λ x. x ∷ p.values) value ∙ (ap (λ l. q.value ∷ l) values ∙ sym q.ws_is))

-- it fits
null_unfit : (k : Kind) → fits_kind k Null ≡ true → ⊥
null_unfit (kind.Int bits) h = cc
null_unfit (kind.UInt bits) h = cc
null_unfit (kind.Dec p s) h = cc
null_unfit (kind.Text max fixed) h = cc
null_unfit kind.Date h = cc

pub field_fits : (f : Field) (v : Value) → fits_kind f.kind v ≡ true → fits_field f v ≡ true
field_fits f Null h = absurd (null_unfit f.kind h)
field_fits f (Int z) h = h
field_fits f (UInt n) h = h
field_fits f (Dec z) h = h
field_fits f (Text b) h = h
field_fits f (Date d) h = h

pub null_or_fits : (f : Field) (x null : Bool) (bytes : List ℕ) (v : Value) → (f.nullable && x) ≡ null → NullOr null f.kind bytes v → fits_field f v ≡ true
null_or_fits f x true bytes v e m = ap (fits_field f) m ∙ (and_parts f.nullable x e).0
null_or_fits f x false bytes v e m = field_fits f v m.fits

pub both : (x y : Bool) → x ≡ true → y ≡ true → (x && y) ≡ true
both true y h k = k
both false y h k = cc

pub fields_fit : (d : ℕ) (fs : List Field) (line : Option (List ℕ)) (vs : List Value) → SpellsFields d fs line vs → row_fits fs vs ≡ true
fields_fit d [] None [] s = refl
fields_fit d [] None (v ∷ vs) s = absurd s
fields_fit d [] (Some line) [] s = absurd s
fields_fit d [] (Some line) (v ∷ vs) s = absurd s
fields_fit d (f ∷ fs) None [] s = absurd s
fields_fit d (f ∷ fs) None (v ∷ vs) s = absurd s
fields_fit d (f ∷ fs) (Some line) [] s = absurd s
fields_fit d (f ∷ fs) (Some line) (v ∷ vs) s =
    both (fits_field f v) (row_fits fs vs) (null_or_fits f (not s.0.quoted && is_empty s.0.bytes) _ s.0.bytes v refl s.4) (fields_fit d fs s.1 vs s.5)

-- what is written is spelled so
pub or_parts : (x y : Bool) → (x || y) ≡ false → (x ≡ false) × (y ≡ false)
or_parts true y h = cc
or_parts false y h = (refl, h)

abbrev pub is_mark : ℕ → ℕ → Bool
is_mark d b = b == d || b == 34 || b == 13

mark_parts : (d b : ℕ) → is_mark d b ≡ false → ((b == d) ≡ false) × (((b == 34) ≡ false) × ((b == 13) ≡ false))
mark_parts d b h =
    let last = or_parts (b == d || b == 34) (b == 13) h in
    let first = or_parts (b == d) (b == 34) last.0 in
    (first.0, (first.1, last.1))

free_of : (d : ℕ) (bytes : List ℕ) → list_any (is_mark d) bytes ≡ false → AllByRecursion (λ b. (b == d) ≡ false) bytes
free_of d [] h = tt
free_of d (b ∷ bytes) h = let o = or_parts (is_mark d b) (list_any (is_mark d) bytes) h in ((mark_parts d b o.0).0, free_of d bytes o.1)

begins_free : (d : ℕ) (bytes : List ℕ) → list_any (is_mark d) bytes ≡ false → BeginsPlain bytes
begins_free d [] h = tt
begins_free d (b ∷ bytes) h = (mark_parts d b (or_parts (is_mark d b) (list_any (is_mark d) bytes) h).0).1.0

text_is : (d : ℕ) (nullable quoted : Bool) (bytes : List ℕ) → needs_quotes d nullable bytes ≡ quoted → IsText d quoted bytes
text_is d nullable true bytes h = tt
text_is d nullable false bytes h = let o = or_parts (list_any (is_mark d) bytes) (nullable && is_empty bytes) h in (begins_free d bytes o.0, free_of d bytes o.0)

pub none_and : (x : Bool) → (x && false) ≡ false
none_and true = refl
none_and false = refl

-- an empty text is quoted where it would be null
not_null : (d : ℕ) (nullable : Bool) (bytes : List ℕ) → (nullable && (not (needs_quotes d nullable bytes) && is_empty bytes)) ≡ false
not_null d false bytes = refl
not_null d true [] = refl
not_null d true (b ∷ bytes) = none_and (not (needs_quotes d true (b ∷ bytes)))

null_is : (f : Field) → f.nullable ≡ true → is_null_cell f false [] ≡ true
null_is f h = rw h refl

-- what is written of a field
pub record Written (d : ℕ) (f : Field) (v : Value) : Type 0 where
  pub cell : Cell
  pub is : IsCell d cell
  pub text : written_field d f v ≡ cell_text cell
  pub means : Means f cell.quoted cell.bytes v

pub null_value : (v : Value) → is_null v ≡ true → v ≡ Null
null_value Null h = refl
null_value (Int z) h = cc
null_value (UInt n) h = cc
null_value (Dec z) h = cc
null_value (Text b) h = cc
null_value (Date d) h = cc

written_by : (d : ℕ) (f : Field) (v : Value) (null : Bool) → is_null v ≡ null → IsKind f.kind → fits_field f v ≡ true → Written d f v
written_by d f v true e k h =
    let is : v ≡ Null = null_value v e in
    record {
      cell = record { quoted = false; bytes = [] };
      is = (tt, tt);
      text = rw e refl;
      means = subst (λ y. NullOr y f.kind [] v) (sym (null_is f (ap (fits_field f) (sym is) ∙ h))) is;
    }
written_by d f v false e k h =
    let bytes = written f.kind v in
    record {
      cell = record { quoted = needs_quotes d f.nullable bytes; bytes = bytes };
      is = text_is d f.nullable (needs_quotes d f.nullable bytes) bytes refl;
      text = rw e refl;
      means = subst (λ y. NullOr y f.kind bytes v) (sym (not_null d f.nullable bytes)) (written_spells f.kind v k (kind_fits f v e h));
    }

again_more : (d : ℕ) (fs : List Field) (vs : List Value) → AllByRecursion IsField fs → row_fits fs vs ≡ true → (rest : Option (List ℕ)) × (written_more d fs vs ≡ behind d rest) × SpellsFields d fs rest vs
again_more d [] [] k h = (None, refl, tt)
again_more d [] (v ∷ vs) k h = cc
again_more d (f ∷ fs) [] k h = cc
again_more d (f ∷ fs) (v ∷ vs) k h =
    let fits = and_parts (fits_field f v) (row_fits fs vs) h in
    let w = written_by d f v (is_null v) refl k.0.1 fits.0 in
    let m = again_more d fs vs k.1 fits.1 in
    (Some (written_field d f v ++ written_more d fs vs), refl, (w.cell, m.0, w.is, (ap (λ l. l ++ written_more d fs vs) w.text ∙ ap (λ l. cell_text w.cell ++ l) m.1), w.means, m.2))

pub fields_again : (d : ℕ) (fs : List Field) (vs : List Value) → 1 ≤ length fs → AllByRecursion IsField fs → row_fits fs vs ≡ true → SpellsFields d fs (Some (written_fields d fs vs)) vs
fields_again d [] vs some k h = absurd (omega arith)
fields_again d (f ∷ fs) [] some k h = cc
fields_again d (f ∷ fs) (v ∷ vs) some k h =
    let fits = and_parts (fits_field f v) (row_fits fs vs) h in
    let w = written_by d f v (is_null v) refl k.0.1 fits.0 in
    let m = again_more d fs vs k.1 fits.1 in
    (w.cell, m.0, w.is, (ap (λ l. l ++ written_more d fs vs) w.text ∙ ap (λ l. cell_text w.cell ++ l) m.1), w.means, m.2)

-- no written line ends with byte 13
pub ends_append : (x y : ℕ) (xs ys : List ℕ) → ends_with x (xs ++ y ∷ ys) ≡ ends_with x (y ∷ ys)
ends_append x y [] ys = refl
ends_append x y (b ∷ []) ys = refl
ends_append x y (b ∷ c ∷ xs) ys = ends_append x y (c ∷ xs) ys

ends_both : (x : ℕ) (xs ys : List ℕ) → ends_with x xs ≡ false → ends_with x ys ≡ false → ends_with x (xs ++ ys) ≡ false
ends_both x xs [] h k = ap (ends_with x) (append-nil xs) ∙ h
ends_both x xs (y ∷ ys) h k = ends_append x y xs ys ∙ k

unmarked_end : (d : ℕ) (bytes : List ℕ) → list_any (is_mark d) bytes ≡ false → ends_with 13 bytes ≡ false
unmarked_end d [] h = refl
unmarked_end d (b ∷ []) h = (mark_parts d b (or_parts (is_mark d b) false h).0).1.1
unmarked_end d (b ∷ c ∷ bytes) h = unmarked_end d (c ∷ bytes) (or_parts (is_mark d b) (list_any (is_mark d) (c ∷ bytes)) h).1

text_end : (d : ℕ) (nullable quoted : Bool) (bytes : List ℕ) → needs_quotes d nullable bytes ≡ quoted → ends_with 13 (text_of quoted bytes) ≡ false
text_end d nullable true bytes h = ends_append 13 34 (34 ∷ doubled bytes) []
text_end d nullable false bytes h = unmarked_end d bytes (or_parts (list_any (is_mark d) bytes) (nullable && is_empty bytes) h).0

field_end : (d : ℕ) (f : Field) (v : Value) (null : Bool) → is_null v ≡ null → ends_with 13 (written_field d f v) ≡ false
field_end d f v true e = rw e refl
field_end d f v false e = rw e (text_end d f.nullable (needs_quotes d f.nullable (written f.kind v)) (written f.kind v) refl)

more_end : (d : ℕ) (fs : List Field) (vs : List Value) → d ≢ 13 → ends_with 13 (written_more d fs vs) ≡ false
more_end d [] vs h = refl
more_end d (f ∷ fs) [] h = refl
more_end d (f ∷ fs) (v ∷ vs) h =
    ends_both 13 (d ∷ []) (written_field d f v ++ written_more d fs vs) (ne_eqb d 13 h) (ends_both 13 (written_field d f v) (written_more d fs vs) (field_end d f v (is_null v) refl) (more_end d fs vs h))

pub fields_end : (d : ℕ) (fs : List Field) (vs : List Value) → d ≢ 13 → ends_with 13 (written_fields d fs vs) ≡ false
fields_end d [] vs h = refl
fields_end d (f ∷ fs) [] h = refl
fields_end d (f ∷ fs) (v ∷ vs) h = ends_both 13 (written_field d f v) (written_more d fs vs) (field_end d f v (is_null v) refl) (more_end d fs vs h)
