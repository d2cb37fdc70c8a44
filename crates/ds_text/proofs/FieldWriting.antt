-- Fields are written one after the other.
use Rattle.std.proofs.Common.{◌≡◌, ◌<◌, ◌+◌, ◌++◌, ◌∷◌, [], ◌==◌, ◌&&◌, ℕ, zero, suc, List, Bool, true, false, cond, refl, sym, ap, ◌∙◌, arith, length, drop, get_or, append_assoc}
use Rattle.std.proofs.lemmas.Bool.{ne_eqb}
use Rattle.ds_value.specs.declared.value.Value.{Value}
use Rattle.ds_value.specs.declared.value.Value.TheVariants.{Null, Int, UInt, Dec, Text, Date}
use Rattle.ds_value.specs.Kinds.{fits_kind}
use Rattle.ds_schema.specs.declared.schema.Field.{Field}
use Rattle.ds_schema.specs.Schemas.{fits_field, row_fits}
use Rattle.ds_text.specs.Records.{is_null, written_field, written_more, written_fields}

pub and_parts : (x y : Bool) → (x && y) ≡ true → (x ≡ true) × (y ≡ true)
and_parts true y h = (refl, h)
and_parts false y h = cc

-- of the fields from the i-th on, what is written
abbrev pub written_from : ℕ → ℕ → List Field → List Value → List ℕ
written_from d zero fs vs = written_fields d fs vs
written_from d (suc i) fs vs = written_more d fs vs

pub same_length : (fs : List Field) (vs : List Value) → row_fits fs vs ≡ true → length vs ≡ length fs
same_length [] [] h = refl
same_length [] (v ∷ vs) h = cc
same_length (f ∷ fs) [] h = cc
same_length (f ∷ fs) (v ∷ vs) h = ap suc (same_length fs vs (and_parts (fits_field f v) (row_fits fs vs) h).1)

pub fits_at : (fs : List Field) (vs : List Value) (i : ℕ) (f : Field) (v : Value) → row_fits fs vs ≡ true → i < length fs → fits_field (get_or fs i f) (get_or vs i v) ≡ true
fits_at [] [] i f v h l = absurd (omega arith)
fits_at [] (x ∷ vs) i f v h l = cc
fits_at (g ∷ fs) [] i f v h l = cc
fits_at (g ∷ fs) (x ∷ vs) zero f v h l = (and_parts (fits_field g x) (row_fits fs vs) h).0
fits_at (g ∷ fs) (x ∷ vs) (suc i) f v h l = fits_at fs vs i f v (and_parts (fits_field g x) (row_fits fs vs) h).1 (omega arith)

-- the value in a column fits its field
pub fits_here : (fs : List Field) (vs : List Value) (i : ℕ) (f : Field) (v : Value) → row_fits fs vs ≡ true → i < length fs → f ≡ get_or fs i f → v ≡ get_or vs i v → fits_field f v ≡ true
fits_here fs vs i f v h l e k = ap (λ g. fits_field g v) e ∙ (ap (fits_field (get_or fs i f)) k ∙ fits_at fs vs i f v h l)

pub kind_fits : (f : Field) (v : Value) → is_null v ≡ false → fits_field f v ≡ true → fits_kind f.kind v ≡ true
kind_fits f Null n h = cc
kind_fits f (Int z) n h = h
kind_fits f (UInt z) n h = h
kind_fits f (Dec z) n h = h
kind_fits f (Text b) n h = h
kind_fits f (Date d) n h = h

-- one more field was written
more_from : (d i : ℕ) (f : Field) (v : Value) (fs : List Field) (vs : List Value) → written_from d i (f ∷ fs) (v ∷ vs) ≡ cond (i == 0) [] (d ∷ []) ++ (written_field d f v ++ written_from d (i + 1) fs vs)
more_from d zero f v fs vs = refl
more_from d (suc i) f v fs vs =
    let later : (suc i == 0) ≡ false = ne_eqb (suc i) 0 (λ e. cc) in
    let next : suc i + 1 ≡ suc (suc i) = omega arith in
    rw (later, next) refl

pub field_step : (d i : ℕ) (fs : List Field) (vs : List Value) (f : Field) (v : Value) (into apart new whole : List ℕ) → drop i fs ≡ f ∷ drop (i + 1) fs → drop i vs ≡ v ∷ drop (i + 1) vs
    → apart ≡ into ++ cond (i == 0) [] (d ∷ []) → new ≡ apart ++ written_field d f v → into ++ written_from d i (drop i fs) (drop i vs) ≡ whole
    → new ++ written_from d (i + 1) (drop (i + 1) fs) (drop (i + 1) vs) ≡ whole
field_step d i fs vs f v into apart new whole e h p n w =
    let rest = written_from d (i + 1) (drop (i + 1) fs) (drop (i + 1) vs) in
    let text = written_field d f v in
    let gap : List ℕ = cond (i == 0) [] (d ∷ []) in
    let same : written_from d i (drop i fs) (drop i vs) ≡ gap ++ (text ++ rest) =
    ap (λ l. written_from d i l (drop i vs)) e ∙ (ap (λ l. written_from d i (f ∷ drop (i + 1) fs) l) h ∙ more_from d i f v (drop (i + 1) fs) (drop (i + 1) vs)) in
    ap (λ l. l ++ rest) (n ∙ ap (λ l. l ++ text) p) ∙ (append_assoc (into ++ gap) text rest ∙ (append_assoc into gap (text ++ rest) ∙ (ap (λ l. into ++ l) (sym same) ∙ w)))
