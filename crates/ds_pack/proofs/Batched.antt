-- The rows that packed bytes hold.
use Rattle.std.proofs.Common.{◌≡◌, ◌<◌, ◌≤◌, ℕ, zero, suc, ◌+◌, true, List, [], ◌∷◌, ◌++◌, None, Some, length, take, drop, refl, sym, ap, ◌∙◌, arith, append_assoc, to_z, of_z, get_or, subst}
use Rattle.std.specs.Int.{w32, w64, w128}
use Rattle.std.specs.List.{AllByRecursion}
use Rattle.std.proofs.Math.Facts.{Fits-of_z}
use Rattle.std.proofs.lemmas.Grind.{flat_map-append}
use Rattle.std.proofs.lemmas.Int.{to_z-of_z}
use Rattle.std.proofs.lemmas.List.{drop-drop, drop_all}
use Rattle.byteorder.specs.Numbers.{big_number-reads_back}
use Rattle.ds_value.specs.declared.value.Value.{Value}
use Rattle.ds_value.specs.declared.value.Value.TheVariants.{Null, Int, UInt, Dec, Text, Date}
use Rattle.ds_value.specs.Canonical.{canonical_bytes, IsHeld, IsShort}
use Rattle.ds_schema.specs.declared.schema.Field.{Field}
use Rattle.ds_schema.specs.Schemas.{IsSchema, row_fits}
use Rattle.ds_pack.specs.Packed.{packed, FirstRow}
use Rattle.ds_pack.specs.Batches.{packed_rows, front_value, front_row, rows_from, rows_in, AreRows, IsPackable, ArePackable, first_width, FitEach, PackedRowsAreRead, FittingRowsArePackable}
use Rattle.ds_pack.proofs.Rows.{Held, AllHeld, row_held, row_long, packed-rows-differ}

taken_front : (xs ys : List ℕ) → take (length xs) (xs ++ ys) ≡ xs
taken_front [] ys = refl
taken_front (x ∷ xs) ys = ap (λ zs. x ∷ zs) (taken_front xs ys)

dropped_front : (xs ys : List ℕ) → drop (length xs) (xs ++ ys) ≡ ys
dropped_front [] ys = refl
dropped_front (x ∷ xs) ys = dropped_front xs ys

front_is : (v : Value) (rest : List ℕ) → Held v → front_value (canonical_bytes v ++ rest) ≡ (v, rest)
front_is Null rest h = refl
front_is (Int z) rest h = ap (λ x. (Int x, rest)) (ap (to_z w64) (big_number-reads_back 8 (of_z w64 z) rest (Fits-of_z h.0).fits) ∙ to_z-of_z w64 z h.0)
front_is (UInt n) rest h = ap (λ x. (UInt x, rest)) (big_number-reads_back 8 n rest h.0)
front_is (Dec z) rest h = ap (λ x. (Dec x, rest)) (ap (to_z w128) (big_number-reads_back 16 (of_z w128 z) rest (Fits-of_z h.0).fits) ∙ to_z-of_z w128 z h.0)
front_is (Text b) rest h =
    ap (λ n. (Text (take n (b ++ rest)), drop n (b ++ rest))) (big_number-reads_back 4 (length b) (b ++ rest) h.1)
    ∙ ap (λ x. (Text x, drop (length b) (b ++ rest))) (taken_front b rest)
    ∙ ap (λ x. (Text b, x)) (dropped_front b rest)
front_is (Date z) rest h = ap (λ x. (Date x, rest)) (ap (to_z w32) (big_number-reads_back 4 (of_z w32 z) rest (Fits-of_z h.0).fits) ∙ to_z-of_z w32 z h.0)

row_is : (row : List Value) (rest : List ℕ) → AllHeld row → front_row (length row) (packed row ++ rest) ≡ (row, rest)
row_is [] rest h = refl
row_is (v ∷ row) rest h =
    ap (λ bs. front_row (suc (length row)) bs) (append_assoc (canonical_bytes v) (packed row) rest)
    ∙ ap (λ p. let more = front_row (length row) p.1 in (p.0 ∷ more.0, more.1)) (front_is v (packed row ++ rest) h.0)
    ∙ ap (λ p. (v ∷ p.0, p.1)) (row_is row rest h.1)

value_long : (v : Value) → 1 ≤ length (canonical_bytes v)
value_long Null = omega arith
value_long (Int z) = omega arith
value_long (UInt n) = omega arith
value_long (Dec z) = omega arith
value_long (Text b) = omega arith
value_long (Date z) = omega arith

joined_size : (xs ys : List ℕ) → length (xs ++ ys) ≡ length xs + length ys
joined_size [] ys = omega arith
joined_size (x ∷ xs) ys = let rest = joined_size xs ys in omega (arith, rest)

packed_long : (row : List Value) → 1 ≤ length row → 1 ≤ length (packed row)
packed_long [] h = absurd (omega arith)
packed_long (v ∷ row) h = let one = value_long v in let both = joined_size (canonical_bytes v) (packed row) in omega (arith, one, both)

abbrev pub IsHeldRow : ℕ → List Value → Type 0
IsHeldRow width row = (length row ≡ width) × AllHeld row

step : (steps width : ℕ) (bytes : List ℕ) → 1 ≤ length bytes → rows_from (suc steps) width bytes ≡ (front_row width bytes).0 ∷ rows_from steps width (front_row width bytes).1
step steps width [] h = absurd (omega arith)
step steps width (b ∷ bytes) h = refl

none_left : (steps width : ℕ) → rows_from steps width [] ≡ []
none_left zero width = refl
none_left (suc steps) width = refl

pub rows_are : (steps width : ℕ) (rows : List (List Value)) → 1 ≤ width → AllByRecursion (IsHeldRow width) rows → length (packed_rows rows) ≤ steps → rows_from steps width (packed_rows rows) ≡ rows
rows_are steps width [] wide h few = none_left steps width
rows_are zero width (row ∷ rows) wide h few =
    let one = packed_long row (let size = h.0.0 in omega (arith, size, wide)) in
    let both = joined_size (packed row) (packed_rows rows) in
    absurd (omega (arith, one, both, few))
rows_are (suc steps) width (row ∷ rows) wide h few =
    let one = packed_long row (let size = h.0.0 in omega (arith, size, wide)) in
    let both = joined_size (packed row) (packed_rows rows) in
    let first : front_row width (packed row ++ packed_rows rows) ≡ (row, packed_rows rows) = ap (λ n. front_row n (packed row ++ packed_rows rows)) (sym h.0.0) ∙ row_is row (packed_rows rows) h.0.1 in
    step steps width (packed row ++ packed_rows rows) (omega (arith, one, both))
    ∙ ap (λ p. p.0 ∷ rows_from steps width p.1) first
    ∙ ap (λ rs. row ∷ rs) (rows_are steps width rows wide h.1 (omega (arith, one, both, few)))

pub packed-rows-are-read : PackedRowsAreRead
packed-rows-are-read width rows wide h = rows_are (length (packed_rows rows)) width rows wide h (omega arith)

-- a schema has a field, so a row that fits it has a value
row_some : (schema : List Field) (row : List Value) → IsSchema schema → row_fits schema row ≡ true → 1 ≤ length (packed row)
row_some schema row is fits = packed_long row (let size = row_long schema row fits in let some = is.some in omega (arith, size, some))

-- of two lists of rows that fit, packed, where the first has been read: a row that fits stands next, or none is left
pub rows_next : (schema : List Field) (read rows : List (List Value)) (m : List ℕ) → IsSchema schema → FitEach schema read → FitEach schema rows → packed_rows read ++ m ≡ packed_rows rows → 1 ≤ length m → FirstRow schema m None → ⊥
rows_next schema [] [] m is hr hs e some none = let size : length m ≡ 0 = ap length e in omega (arith, size, some)
rows_next schema [] (row ∷ rows) m is hr hs e some none = none row (packed_rows rows) hs.0 e
rows_next schema (row ∷ read) [] m is hr hs e some none =
    let one = row_some schema row is hr.0 in
    let both = joined_size (packed row) (packed_rows read) in
    let whole = joined_size (packed_rows (row ∷ read)) m in
    let size : length (packed_rows (row ∷ read) ++ m) ≡ 0 = ap length e in
    omega (arith, one, both, whole, size)
rows_next schema (row ∷ read) (other ∷ rows) m is hr hs e some none =
    let apart = sym (append_assoc (packed row) (packed_rows read) m) ∙ e in
    let same = packed-rows-differ schema row other (packed_rows read ++ m) (packed_rows rows) is hr.0 hs.0 apart in
    rows_next schema read rows m is hr.1 hs.1 same.1 some none

-- packed bytes hold one list of rows that fit
pub rows_once : (schema : List Field) (read rows : List (List Value)) → IsSchema schema → FitEach schema read → FitEach schema rows → packed_rows read ≡ packed_rows rows → read ≡ rows
rows_once schema [] [] is hr hs e = refl
rows_once schema [] (row ∷ rows) is hr hs e =
    let one = row_some schema row is hs.0 in
    let both = joined_size (packed row) (packed_rows rows) in
    let size : 0 ≡ length (packed_rows (row ∷ rows)) = ap length e in
    absurd (omega (arith, one, both, size))
rows_once schema (row ∷ read) [] is hr hs e =
    let one = row_some schema row is hr.0 in
    let both = joined_size (packed row) (packed_rows read) in
    let size : length (packed_rows (row ∷ read)) ≡ 0 = ap length e in
    absurd (omega (arith, one, both, size))
rows_once schema (row ∷ read) (other ∷ rows) is hr hs e =
    let same = packed-rows-differ schema row other (packed_rows read) (packed_rows rows) is hr.0 hs.0 e in
    ap (λ r. r ∷ read) same.0 ∙ ap (λ rs. other ∷ rs) (rows_once schema read rows is hr.1 hs.1 same.1)

pub fitting-rows-are-packable : FittingRowsArePackable
fitting-rows-are-packable schema rows is some fits = record { some = some; each = go rows fits (first_width rows) (first rows some fits) }
  where
    first : (rows : List (List Value)) → 1 ≤ length rows → FitEach schema rows → first_width rows ≡ length schema
    first [] some fits = absurd (omega arith)
    first (row ∷ rows) some fits = row_long schema row fits.0

    short : (row : List Value) → AllHeld row → AllByRecursion IsShort row
    short [] h = tt
    short (v ∷ row) h = (h.0.1, short row h.1)

    go : (rows : List (List Value)) → FitEach schema rows → (width : ℕ) → width ≡ length schema → AllByRecursion (IsPackable width) rows
    go [] fits width e = tt
    go (row ∷ rows) fits width e = ((row_long schema row fits.0 ∙ sym e, (let some = is.some in omega (arith, e, some), short row (row_held schema row is.each fits.0))), go rows fits.1 width e)

no_bytes : (bs : List ℕ) → bs ++ [] ≡ bs
no_bytes [] = refl
no_bytes (b ∷ bs) = ap (λ xs. b ∷ xs) (no_bytes bs)

pub packed_rows_more : (rows : List (List Value)) (row : List Value) → packed_rows (rows ++ row ∷ []) ≡ packed_rows rows ++ packed row
packed_rows_more rows row = flat_map-append packed rows (row ∷ []) ∙ ap (λ bs. packed_rows rows ++ bs) (no_bytes (packed row))

-- rows that fit, taken off the front of some bytes, and how many bytes these are
pub record Read (schema : List Field) (bytes : List ℕ) (rows : List (List Value)) (t : ℕ) : Type 0 where
  pub fits : FitEach schema rows
  pub size : t ≡ length (packed_rows rows)
  pub is : bytes ≡ packed_rows rows ++ drop t bytes

pub read_none : (schema : List Field) (bytes : List ℕ) → Read schema bytes [] 0
read_none schema bytes = record { fits = tt; size = refl; is = refl }

pub read_within : (schema : List Field) (bytes : List ℕ) (rows : List (List Value)) (t : ℕ) → Read schema bytes rows t → t ≤ length bytes
read_within schema bytes rows t h = let whole : length bytes ≡ length (packed_rows rows) + length (drop t bytes) = ap length h.is ∙ joined_size (packed_rows rows) (drop t bytes) in let size = h.size in omega (arith, whole, size)

pub row_within : (schema : List Field) (bytes : List ℕ) (row : List Value) (n : ℕ) → FirstRow schema bytes (Some (row, n)) → n ≤ length bytes
row_within schema bytes row n h = let whole : length bytes ≡ length (packed row) + length (drop n bytes) = ap length h.2 ∙ joined_size (packed row) (drop n bytes) in let size = h.1 in omega (arith, whole, size)

pub row_takes : (schema : List Field) (bytes : List ℕ) (row : List Value) (n : ℕ) → IsSchema schema → FirstRow schema bytes (Some (row, n)) → 1 ≤ n
row_takes schema bytes row n is h = let some = row_some schema row is h.0 in let size = h.1 in omega (arith, some, size)

fit_more : (schema : List Field) (rows : List (List Value)) (row : List Value) → FitEach schema rows → row_fits schema row ≡ true → FitEach schema (rows ++ row ∷ [])
fit_more schema [] row h one = (one, tt)
fit_more schema (r ∷ rows) row h one = (h.0, fit_more schema rows row h.1 one)

pub read_more : (schema : List Field) (bytes : List ℕ) (rows : List (List Value)) (t : ℕ) (row : List Value) (n : ℕ) → Read schema bytes rows t → FirstRow schema (drop t bytes) (Some (row, n)) → Read schema bytes (rows ++ row ∷ []) (t + n)
read_more schema bytes rows t row n h first = record {
  fits = fit_more schema rows row h.fits first.0;
  size = let more : length (packed_rows (rows ++ row ∷ [])) ≡ length (packed_rows rows) + length (packed row) = ap length (packed_rows_more rows row) ∙ joined_size (packed_rows rows) (packed row) in let one = h.size in let two = first.1 in omega (arith, more, one, two);
  is = h.is ∙ (ap (λ bs. packed_rows rows ++ bs) first.2 ∙ (sym (append_assoc (packed_rows rows) (packed row) (drop n (drop t bytes))) ∙ (ap (λ bs. bs ++ drop n (drop t bytes)) (sym (packed_rows_more rows row)) ∙ ap (λ bs. packed_rows (rows ++ row ∷ []) ++ bs) (drop-drop n t bytes))));
}

-- where bytes are left, a row that fits stands next
pub read_on : (schema : List Field) (bytes : List ℕ) (read rows : List (List Value)) (t : ℕ) → IsSchema schema → Read schema bytes read t → FitEach schema rows → bytes ≡ packed_rows rows → t < length bytes → FirstRow schema (drop t bytes) None → ⊥
read_on schema bytes read rows t is h fits e below none =
    let whole : length bytes ≡ length (packed_rows read) + length (drop t bytes) = ap length h.is ∙ joined_size (packed_rows read) (drop t bytes) in
    let size = h.size in
    rows_next schema read rows (drop t bytes) is h.fits fits (sym h.is ∙ e) (omega (arith, whole, size, below)) none

-- where none is left, the rows are what the bytes are of
pub read_all : (schema : List Field) (bytes : List ℕ) (read rows : List (List Value)) (t : ℕ) → IsSchema schema → Read schema bytes read t → length bytes ≤ t → FitEach schema rows → bytes ≡ packed_rows rows → read ≡ rows
read_all schema bytes read rows t is h all fits e = rows_once schema read rows is h.fits fits (sym (left read h.is) ∙ e)
  where
    left : (read : List (List Value)) → bytes ≡ packed_rows read ++ drop t bytes → bytes ≡ packed_rows read
    left rows h = h ∙ ap (λ bs. packed_rows rows ++ bs) (drop_all t bytes all) ∙ no_bytes (packed_rows rows)

held_each : (width : ℕ) (rows : List (List Value)) → AllByRecursion (IsPackable width) rows → AllByRecursion (AllByRecursion IsHeld) rows → AllByRecursion (IsHeldRow width) rows
held_each width [] h k = tt
held_each width (row ∷ rows) h k = ((h.0.0, both row h.0.1.1 k.0), held_each width rows h.1 k.1)
  where
    both : (row : List Value) → AllByRecursion IsShort row → AllByRecursion IsHeld row → AllHeld row
    both [] h k = tt
    both (v ∷ row) h k = ((k.0, h.0), both row h.1 k.1)

-- the packed bytes of packable rows hold these rows
pub batch_is : (rows : List (List Value)) (width : ℕ) (bytes : List ℕ) → ArePackable rows → AllByRecursion (AllByRecursion IsHeld) rows → width ≡ first_width rows → bytes ≡ packed_rows rows → rows_in width bytes ≡ rows
batch_is rows width bytes h held w e =
    ap (λ n. rows_in n bytes) w ∙ ap (λ bs. rows_in (first_width rows) bs) e
    ∙ rows_are (length (packed_rows rows)) (first_width rows) rows (wide rows h.some h.each) (held_each (first_width rows) rows h.each held) (omega arith)
  where
    wide : (rows : List (List Value)) → 1 ≤ length rows → AllByRecursion (IsPackable (first_width rows)) rows → 1 ≤ first_width rows
    wide [] some each = absurd (omega arith)
    wide (row ∷ rows) some each = each.0.1.0

pub batch_holds : (rows : List (List Value)) (width : ℕ) (bytes : List ℕ) → ArePackable rows → AllByRecursion (AllByRecursion IsHeld) rows → width ≡ first_width rows → bytes ≡ packed_rows rows → AreRows width bytes
batch_holds rows width bytes h held w e = let is = batch_is rows width bytes h held w e in record { some = rw is h.some; whole = e ∙ ap packed_rows (sym is) }

all_taken : (rows : List (List Value)) (i : ℕ) → length rows ≤ i → take i rows ≡ rows
all_taken [] zero h = refl
all_taken [] (suc i) h = refl
all_taken (row ∷ rows) zero h = absurd (omega arith)
all_taken (row ∷ rows) (suc i) h = ap (λ rs. row ∷ rs) (all_taken rows i (omega arith))

pub batch_made : (rows : List (List Value)) (width i : ℕ) (bytes : List ℕ) → ArePackable rows → length rows ≤ i → bytes ≡ packed_rows (take i rows) → AllByRecursion (AllByRecursion IsHeld) (take i rows) → width ≡ first_width rows → AreRows width bytes × (rows_in width bytes ≡ rows)
batch_made rows width i bytes h all e held w =
    let whole = all_taken rows i all in
    let each = subst (AllByRecursion (AllByRecursion IsHeld)) whole held in
    (batch_holds rows width bytes h each w (e ∙ ap packed_rows whole), batch_is rows width bytes h each w (e ∙ ap packed_rows whole))

pub width_read : (rows : List (List Value)) (row : List Value) → 1 ≤ length rows → row ≡ get_or rows 0 row → length row ≡ first_width rows
width_read [] row some e = absurd (omega arith)
width_read (r ∷ rows) row some e = ap length e
