-- Packed rows, value by value.
use Rattle.std.proofs.Common.{◌≡◌, ◌<◌, ◌≤◌, ℕ, suc, ◌+◌, Bool, true, false, ◌&&◌, List, [], ◌∷◌, ◌++◌, Some, None, length, drop, refl, sym, ap, ◌∙◌, append_assoc, subst, arith}
use Rattle.std.specs.List.{AllByRecursion}
use Rattle.std.proofs.lemmas.Grind.{flat_map-append}
use Rattle.std.proofs.lemmas.List.{drop-drop}
use Rattle.ds_value.specs.declared.value.Value.{Value}
use Rattle.ds_value.specs.declared.value.Value.TheVariants.{Null, Int, UInt, Dec, Text, Date}
use Rattle.ds_value.specs.Canonical.{canonical_bytes, IsHeld, IsShort}
use Rattle.ds_value.specs.Kinds.{IsKind}
use Rattle.ds_value.proofs.CanonicalBytes.{canonical_once, fits_held}
use Rattle.ds_schema.specs.declared.schema.Field.{Field}
use Rattle.ds_schema.specs.Schemas.{IsField, IsSchema, fits_field, row_fits}
use Rattle.ds_pack.specs.Packed.{packed, FirstValue, FirstRow, PackedRowsDiffer}

abbrev pub Held : Value → Type 0
Held v = IsHeld v × IsShort v

abbrev pub AllHeld : List Value → Type 0
AllHeld row = AllByRecursion Held row

field_held : (f : Field) (v : Value) → IsKind f.kind → fits_field f v ≡ true → Held v
field_held f Null k h = (tt, tt)
field_held f (Int z) k h = fits_held f.kind (Int z) k h
field_held f (UInt n) k h = fits_held f.kind (UInt n) k h
field_held f (Dec z) k h = fits_held f.kind (Dec z) k h
field_held f (Text b) k h = fits_held f.kind (Text b) k h
field_held f (Date d) k h = fits_held f.kind (Date d) k h

both : (a b : Bool) → a && b ≡ true → (a ≡ true) × (b ≡ true)
both true true h = (refl, refl)
both true false h = cc
both false b h = cc

pub row_held : (fields : List Field) (row : List Value) → AllByRecursion IsField fields → row_fits fields row ≡ true → AllHeld row
row_held [] [] k h = tt
row_held [] (v ∷ row) k h = cc
row_held (f ∷ fields) [] k h = cc
row_held (f ∷ fields) (v ∷ row) k h = let parts = both (fits_field f v) (row_fits fields row) h in (field_held f v k.0.1 parts.0, row_held fields row k.1 parts.1)

pub row_long : (fields : List Field) (row : List Value) → row_fits fields row ≡ true → length row ≡ length fields
row_long [] [] h = refl
row_long [] (v ∷ row) h = cc
row_long (f ∷ fields) [] h = cc
row_long (f ∷ fields) (v ∷ row) h = ap suc (row_long fields row (both (fits_field f v) (row_fits fields row) h).1)

-- some values in front of others are the first of these
pub front : (vs row : List Value) (m t : List ℕ) → AllHeld vs → AllHeld row → length vs ≤ length row → packed vs ++ m ≡ packed row ++ t → (row ≡ vs ++ drop (length vs) row) × (m ≡ packed (drop (length vs) row) ++ t)
front [] row m t hv hr few e = (refl, e)
front (v ∷ vs) [] m t hv hr few e = absurd (omega arith)
front (v ∷ vs) (w ∷ row) m t hv hr few e =
    let apart : canonical_bytes v ++ (packed vs ++ m) ≡ canonical_bytes w ++ (packed row ++ t) = sym (append_assoc (canonical_bytes v) (packed vs) m) ∙ (e ∙ append_assoc (canonical_bytes w) (packed row) t) in
    let first = canonical_once v w (packed vs ++ m) (packed row ++ t) hv.0.0 hr.0.0 hv.0.1 hr.0.1 apart in
    let rest = front vs row m t hv.1 hr.1 (omega arith) first.1 in
    (ap (λ x. x ∷ row) (sym first.0) ∙ ap (λ xs. v ∷ xs) rest.0, rest.1)

nothing_left : {X : Type 0} (xs : List X) → drop (length xs) xs ≡ []
nothing_left [] = refl
nothing_left (x ∷ xs) = nothing_left xs

all_taken : {X : Type 0} (n : ℕ) (xs : List X) → n ≡ length xs → drop n xs ≡ []
all_taken n xs e = ap (λ k. drop k xs) e ∙ nothing_left xs

nothing_behind : (vs : List Value) → vs ++ [] ≡ vs
nothing_behind [] = refl
nothing_behind (v ∷ vs) = ap (λ xs. v ∷ xs) (nothing_behind vs)

-- as many values in front of others are these
pub one_row : (vs row : List Value) (m t : List ℕ) → AllHeld vs → AllHeld row → length vs ≡ length row → packed vs ++ m ≡ packed row ++ t → (vs ≡ row) × (m ≡ t)
one_row vs row m t hv hr size e =
    let parts = front vs row m t hv hr (omega arith) e in
    let none = all_taken (length vs) row size in
    (sym (parts.0 ∙ (ap (λ xs. vs ++ xs) none ∙ nothing_behind vs)), parts.1 ∙ ap (λ xs. packed xs ++ t) none)

pub packed-rows-differ : PackedRowsDiffer
packed-rows-differ schema a b m t is ha hb e =
    one_row a b m t (row_held schema a is.each ha) (row_held schema b is.each hb) (row_long schema a ha ∙ sym (row_long schema b hb)) e

-- the values that were taken off the front of some bytes, and how many bytes these are
pub record Taken (bytes : List ℕ) (vs : List Value) (t : ℕ) : Type 0 where
  pub held : AllHeld vs
  pub size : t ≡ length (packed vs)
  pub is : bytes ≡ packed vs ++ drop t bytes

pub taken_none : (bytes : List ℕ) → Taken bytes [] 0
taken_none bytes = record { held = tt; size = refl; is = refl }

packed_more : (vs : List Value) (v : Value) → packed (vs ++ v ∷ []) ≡ packed vs ++ canonical_bytes v
packed_more vs v = flat_map-append canonical_bytes vs (v ∷ []) ∙ ap (λ bs. packed vs ++ bs) (no_bytes (canonical_bytes v))
  where
    no_bytes : (bs : List ℕ) → bs ++ [] ≡ bs
    no_bytes [] = refl
    no_bytes (b ∷ bs) = ap (λ xs. b ∷ xs) (no_bytes bs)

held_more : (vs : List Value) (v : Value) → AllHeld vs → Held v → AllHeld (vs ++ v ∷ [])
held_more [] v h hv = (hv, tt)
held_more (w ∷ vs) v h hv = (h.0, held_more vs v h.1 hv)

joined_size : (xs ys : List ℕ) → length (xs ++ ys) ≡ length xs + length ys
joined_size [] ys = omega arith
joined_size (x ∷ xs) ys = let rest = joined_size xs ys in omega (arith, rest)

pub taken_within : (bytes : List ℕ) (vs : List Value) (t : ℕ) → Taken bytes vs t → t ≤ length bytes
taken_within bytes vs t h = let whole : length bytes ≡ length (packed vs) + length (drop t bytes) = ap length h.is ∙ joined_size (packed vs) (drop t bytes) in let size = h.size in omega (arith, whole, size)

pub value_within : (bytes : List ℕ) (v : Value) (n : ℕ) → FirstValue bytes (Some (v, n)) → n ≤ length bytes
value_within bytes v n h = let whole : length bytes ≡ length (canonical_bytes v) + length (drop n bytes) = ap length h.3 ∙ joined_size (canonical_bytes v) (drop n bytes) in let size = h.2 in omega (arith, whole, size)

pub taken_more : (bytes : List ℕ) (vs : List Value) (t : ℕ) (v : Value) (n : ℕ) → Taken bytes vs t → FirstValue (drop t bytes) (Some (v, n)) → Taken bytes (vs ++ v ∷ []) (t + n)
taken_more bytes vs t v n h first = record {
  held = held_more vs v h.held (first.0, first.1);
  size = let more : length (packed (vs ++ v ∷ [])) ≡ length (packed vs) + length (canonical_bytes v) = ap length (packed_more vs v) ∙ joined_size (packed vs) (canonical_bytes v) in let one = h.size in let two = first.2 in omega (arith, more, one, two);
  is = h.is ∙ (ap (λ bs. packed vs ++ bs) first.3 ∙ (sym (append_assoc (packed vs) (canonical_bytes v) (drop n (drop t bytes))) ∙ (ap (λ bs. bs ++ drop n (drop t bytes)) (sym (packed_more vs v)) ∙ ap (λ bs. packed (vs ++ v ∷ []) ++ bs) (drop-drop n t bytes))));
}

-- a value too few: none that fits stands there
pub row_ends : (fields : List Field) (bytes : List ℕ) (vs : List Value) (t : ℕ) → IsSchema fields → Taken bytes vs t → length vs < length fields → FirstValue (drop t bytes) None → FirstRow fields bytes None
row_ends fields bytes vs t is h few none row rest fits e =
    let held = row_held fields row is.each fits in
    let long = row_long fields row fits in
    let parts = front vs row (drop t bytes) rest h.held held (omega (arith, long, few)) (sym h.is ∙ e) in
    go (drop (length vs) row) refl parts
  where
    go : (more : List Value) → drop (length vs) row ≡ more → (row ≡ vs ++ drop (length vs) row) × (drop t bytes ≡ packed (drop (length vs) row) ++ rest) → ⊥
    go [] d parts = let size : length row ≡ length vs = ap length parts.0 ∙ (ap (λ xs. length (vs ++ xs)) d ∙ ap length (nothing_behind vs)) in let long = row_long fields row fits in omega (arith, size, long, few)
    go (v ∷ more) d parts =
        let held = held_behind vs row (row_held fields row is.each fits) in
        none v (packed more ++ rest) (first_held more v d held).1 (parts.1 ∙ (ap (λ xs. packed xs ++ rest) d ∙ append_assoc (canonical_bytes v) (packed more) rest))
      where
        held_behind : (us r : List Value) → AllHeld r → AllHeld (drop (length us) r)
        held_behind [] r h = h
        held_behind (u ∷ us) [] h = tt
        held_behind (u ∷ us) (w ∷ r) h = held_behind us r h.1

        first_held : (xs : List Value) (x : Value) → drop (length vs) row ≡ x ∷ xs → AllHeld (drop (length vs) row) → Held x
        first_held xs x d h = (subst AllHeld d h).0

-- as many values that don't fit: none that fits stands there
pub row_misses : (fields : List Field) (bytes : List ℕ) (vs : List Value) (t : ℕ) → IsSchema fields → Taken bytes vs t → length vs ≡ length fields → row_fits fields vs ≡ false → FirstRow fields bytes None
row_misses fields bytes vs t is h size misses row rest fits e =
    let one = one_row vs row (drop t bytes) rest h.held (row_held fields row is.each fits) (size ∙ sym (row_long fields row fits)) (sym h.is ∙ e) in
    let clash : true ≡ false = sym fits ∙ (ap (row_fits fields) (sym one.0) ∙ misses) in
    cc

pub row_stands : (fields : List Field) (bytes : List ℕ) (vs : List Value) (t : ℕ) → Taken bytes vs t → row_fits fields vs ≡ true → FirstRow fields bytes (Some (vs, t))
row_stands fields bytes vs t h fits = (fits, h.size, h.is)
