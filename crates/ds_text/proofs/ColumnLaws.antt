-- A line of columns spells one row at most, which fits, and what is written spells the row.
use Rattle.std.proofs.Common.{◌≡◌, ◌≤◌, ◌+◌, ◌-◌, ◌++◌, ◌∷◌, [], ◌&&◌, not, ℕ, zero, suc, List, Bool, true, false, cond, refl, sym, ap, ◌∙◌, arith, length, sum, take, drop, replicate, nat_lt, length-append, length-drop, subst}
use Rattle.std.specs.List.{AllByRecursion}
use Rattle.std.proofs.lemmas.List.{take_at, drop_at, nil_from_length, length-replicate}
use Rattle.std.proofs.lemmas.List.Folds.{list_all-append}
use Rattle.std.proofs.lemmas.List.Sums.{sum_by-cons}
use Rattle.std.proofs.lemmas.Bool.{eqb-true, ltb-false, ne_eqb}
use Rattle.ds_value.specs.declared.kind.Kind.{Kind}
use Rattle.ds_value.specs.declared.kind.Kind.TheVariants as kind
use Rattle.ds_value.specs.declared.value.Value.{Value}
use Rattle.ds_value.specs.declared.value.Value.TheVariants.{Null, Text}
use Rattle.ds_value.specs.Kinds.{IsKind, fits_kind}
use Rattle.ds_value.specs.Spellings.{Spells, written, filled}
use Rattle.ds_value.proofs.Spellings.{written_spells}
use Rattle.ds_schema.specs.declared.schema.Field.{Field}
use Rattle.ds_schema.specs.Schemas.{IsField, fits_field, row_fits}
use Rattle.ds_text.specs.Columns.{is_space, is_blank, is_text, trimmed, without_left_spaces, without_right_spaces}
use Rattle.ds_text.specs.Records.{NullOr, MeansColumn, SpellsColumns, SpellsFixed, is_null, is_wide, any_wide, written_column, written_columns}
use Rattle.ds_text.specs.RecordLaws.{ends_with, Stays, EachStays}
use Rattle.ds_text.proofs.FieldWriting.{and_parts, kind_fits}
use Rattle.ds_text.proofs.FieldLaws.{both, none_and, or_parts, null_value, null_or_fits, ends_append}
use Rattle.ds_text.proofs.ColumnRows.{SpellsShort, one_column}
use Rattle.ds_text.proofs.Spaces.{blank_spaces, blank_filled, right_filled, right_kept, filled_again, BeginsSolid, left_dropped}
use Rattle.ds_text.proofs.Solid.{IsMarked, IsSolid, solid}

-- one row
pub one_columns : (fs : List Field) (ws line : List ℕ) (a b : List Value) → SpellsColumns fs ws line a → SpellsColumns fs ws line b → a ≡ b
one_columns [] [] line [] [] s t = refl
one_columns [] [] line [] (w ∷ b) s t = absurd t
one_columns [] [] line (v ∷ a) b s t = absurd s
one_columns [] (w ∷ ws) line [] b s t = absurd s
one_columns [] (w ∷ ws) line (v ∷ a) b s t = absurd s
one_columns (f ∷ fs) [] line [] b s t = absurd s
one_columns (f ∷ fs) [] line (v ∷ a) b s t = absurd s
one_columns (f ∷ fs) (w ∷ ws) line [] b s t = absurd s
one_columns (f ∷ fs) (w ∷ ws) line (v ∷ a) [] s t = absurd t
one_columns (f ∷ fs) (w ∷ ws) line (v ∷ a) (u ∷ b) s t =
    ap (λ x. x ∷ a) (one_column f (take w line) v u s.0 t.0) ∙ ap (λ l. u ∷ l) (one_columns fs ws (drop w line) a b s.1 t.1)

-- it fits
pub columns_fit : (fs : List Field) (ws line : List ℕ) (vs : List Value) → SpellsColumns fs ws line vs → row_fits fs vs ≡ true
columns_fit [] [] line [] s = refl
columns_fit [] [] line (v ∷ vs) s = absurd s
columns_fit [] (w ∷ ws) line [] s = absurd s
columns_fit [] (w ∷ ws) line (v ∷ vs) s = absurd s
columns_fit (f ∷ fs) [] line [] s = absurd s
columns_fit (f ∷ fs) [] line (v ∷ vs) s = absurd s
columns_fit (f ∷ fs) (w ∷ ws) line [] s = absurd s
columns_fit (f ∷ fs) (w ∷ ws) line (v ∷ vs) s =
    both (fits_field f v) (row_fits fs vs) (null_or_fits f (is_blank (take w line)) _ (trimmed f.kind (take w line)) v refl s.0) (columns_fit fs ws (drop w line) vs s.1)

-- a line that is filled with spaces is cut as the line, with more spaces
record Cut (w : ℕ) (line : List ℕ) (n : ℕ) : Type 0 where
  pub front_spaces : ℕ
  pub back_spaces : ℕ
  pub front : take w (line ++ replicate n 32) ≡ take w line ++ replicate front_spaces 32
  pub back : drop w (line ++ replicate n 32) ≡ drop w line ++ replicate back_spaces 32

take_nil : (n : ℕ) → take {A = ℕ} n [] ≡ []
take_nil zero = refl
take_nil (suc n) = refl

drop_nil : (n : ℕ) → drop {A = ℕ} n [] ≡ []
drop_nil zero = refl
drop_nil (suc n) = refl

sum_more : (w : ℕ) (ws : List ℕ) → sum (w ∷ ws) ≡ w + sum ws
sum_more w ws = sum_by-cons (λ x. x) w ws

cut : (w : ℕ) (line : List ℕ) (n : ℕ) → Cut w line n
cut zero line n = record { front_spaces = 0; back_spaces = n; front = refl; back = refl }
cut (suc w) [] zero = record { front_spaces = 0; back_spaces = 0; front = refl; back = refl }
cut (suc w) [] (suc n) =
    let c = cut w [] n in
    record { front_spaces = suc c.front_spaces; back_spaces = c.back_spaces; front = ap (λ l. 32 ∷ l) c.front ∙ ap (λ l. 32 ∷ (l ++ replicate c.front_spaces 32)) (take_nil w); back = c.back ∙ ap (λ l. l ++ replicate c.back_spaces 32) (drop_nil w) }
cut (suc w) (x ∷ line) n = let c = cut w line n in record { front_spaces = c.front_spaces; back_spaces = c.back_spaces; front = ap (λ l. x ∷ l) c.front; back = c.back }

trimmed_filled : (k : Kind) (xs : List ℕ) (n : ℕ) → trimmed k (xs ++ replicate n 32) ≡ trimmed k xs
trimmed_filled k xs n = ap (λ l. cond (is_text k) l (without_left_spaces l)) (right_filled xs n)

less_filled : (f : Field) (xs : List ℕ) (n : ℕ) (v : Value) → MeansColumn f (xs ++ replicate n 32) v → MeansColumn f xs v
less_filled f xs n v m =
    subst (λ y. NullOr (f.nullable && y) f.kind (trimmed f.kind xs) v) (blank_filled xs n)
    (subst (λ l. NullOr (f.nullable && is_blank (xs ++ replicate n 32)) f.kind l v) (trimmed_filled f.kind xs n) m)

more_filled : (f : Field) (xs : List ℕ) (n : ℕ) (v : Value) → MeansColumn f xs v → MeansColumn f (xs ++ replicate n 32) v
more_filled f xs n v m =
    subst (λ y. NullOr (f.nullable && y) f.kind (trimmed f.kind (xs ++ replicate n 32)) v) (sym (blank_filled xs n))
    (subst (λ l. NullOr (f.nullable && is_blank xs) f.kind l v) (sym (trimmed_filled f.kind xs n)) m)

-- a line spells what it spells once it is filled
filled_spells : (fs : List Field) (ws line : List ℕ) (vs : List Value) (n : ℕ) → SpellsShort fs ws line vs → SpellsColumns fs ws (line ++ replicate n 32) vs
filled_spells [] [] line [] n s = tt
filled_spells [] [] line (v ∷ vs) n s = absurd s
filled_spells [] (w ∷ ws) line [] n s = absurd s
filled_spells [] (w ∷ ws) line (v ∷ vs) n s = absurd s
filled_spells (f ∷ fs) [] line [] n s = absurd s
filled_spells (f ∷ fs) [] line (v ∷ vs) n s = absurd s
filled_spells (f ∷ fs) (w ∷ ws) line [] n s = absurd s
filled_spells (f ∷ fs) (w ∷ ws) line (v ∷ vs) n s =
    let c = cut w line n in (
      subst (λ l. MeansColumn f l v) (sym c.front) (more_filled f (take w line) c.front_spaces v s.0),
      subst (λ l. SpellsColumns fs ws l vs) (sym c.back) (filled_spells fs ws (drop w line) vs c.back_spaces s.1),
    )

spells_filled : (fs : List Field) (ws line : List ℕ) (vs : List Value) (n : ℕ) → length line ≤ sum ws → SpellsColumns fs ws (line ++ replicate n 32) vs → SpellsShort fs ws line vs
spells_filled [] [] line [] n h s = nil_from_length line (omega arith)
spells_filled [] [] line (v ∷ vs) n h s = absurd s
spells_filled [] (w ∷ ws) line [] n h s = absurd s
spells_filled [] (w ∷ ws) line (v ∷ vs) n h s = absurd s
spells_filled (f ∷ fs) [] line [] n h s = absurd s
spells_filled (f ∷ fs) [] line (v ∷ vs) n h s = absurd s
spells_filled (f ∷ fs) (w ∷ ws) line [] n h s = absurd s
spells_filled (f ∷ fs) (w ∷ ws) line (v ∷ vs) n h s =
    let c = cut w line n in (
      less_filled f (take w line) c.front_spaces v (subst (λ l. MeansColumn f l v) c.front s.0),
      spells_filled fs ws (drop w line) vs c.back_spaces (omega (arith, length-drop w line, sum_more w ws)) (subst (λ l. SpellsColumns fs ws l vs) c.back s.1),
    )

short_length : (fs : List Field) (ws line : List ℕ) (vs : List Value) → SpellsShort fs ws line vs → length line ≤ sum ws
short_length [] [] line [] s = let n : length line ≡ 0 = ap length s in omega (arith, n)
short_length [] [] line (v ∷ vs) s = absurd s
short_length [] (w ∷ ws) line [] s = absurd s
short_length [] (w ∷ ws) line (v ∷ vs) s = absurd s
short_length (f ∷ fs) [] line [] s = absurd s
short_length (f ∷ fs) [] line (v ∷ vs) s = absurd s
short_length (f ∷ fs) (w ∷ ws) line [] s = absurd s
short_length (f ∷ fs) (w ∷ ws) line (v ∷ vs) s = omega (arith, length-drop w line, sum_more w ws, short_length fs ws (drop w line) vs s.1)

pub fixed_spells : (fs : List Field) (ws line : List ℕ) (vs : List Value) → SpellsShort fs ws line vs → SpellsFixed fs ws line vs
fixed_spells fs ws line vs s = (short_length fs ws line vs s, filled_spells fs ws line vs (sum ws - length line) s)

pub spells_fixed : (fs : List Field) (ws line : List ℕ) (vs : List Value) → SpellsFixed fs ws line vs → SpellsShort fs ws line vs
spells_fixed fs ws line vs s = spells_filled fs ws line vs (sum ws - length line) s.0 s.1

-- a written column has its width
wide_less : (w n : ℕ) → nat_lt w n ≡ false → n ≤ w
wide_less w n h = ltb-false w n h

length_by : (text : Bool) (w : ℕ) (bytes : List ℕ) → length bytes ≤ w → length (cond text (filled w bytes) (replicate (w - length bytes) 32 ++ bytes)) ≡ w
length_by true w bytes h = let n = length-replicate {A = ℕ} (w - length bytes) 32 in omega (arith, h, n, length-append bytes (replicate (w - length bytes) 32))
length_by false w bytes h = let n = length-replicate {A = ℕ} (w - length bytes) 32 in omega (arith, h, n, length-append (replicate (w - length bytes) 32) bytes)

column_length : (f : Field) (w : ℕ) (v : Value) (null : Bool) → is_null v ≡ null → is_wide f w v ≡ false → length (written_column f w v) ≡ w
column_length f w v true e h = rw e (length-replicate w 32)
column_length f w v false e h =
    let narrow : nat_lt w (length (written f.kind v)) ≡ false = ap (λ y. not y && nat_lt w (length (written f.kind v))) (sym e) ∙ h in
    rw e (length_by (is_text f.kind) w (written f.kind v) (wide_less w (length (written f.kind v)) narrow))

-- a number or a date is read again
unblank_append : (xs ys : List ℕ) → is_blank ys ≡ false → is_blank (xs ++ ys) ≡ false
unblank_append xs ys h = list_all-append is_space xs ys ∙ (ap (λ y. is_blank xs && y) h ∙ none_and (is_blank xs))

marked_space : (b : ℕ) → IsMarked b → is_space b ≡ false
marked_space b h = ne_eqb b 32 (λ e. omega (arith, h, e))

solid_end : (bytes : List ℕ) → AllByRecursion IsMarked bytes → ends_with 32 bytes ≡ false
solid_end [] h = refl
solid_end (b ∷ []) h = marked_space b h.0
solid_end (b ∷ c ∷ bytes) h = solid_end (c ∷ bytes) h.1

solid_unblank : (bytes : List ℕ) → IsSolid bytes → is_blank bytes ≡ false
solid_unblank [] s = absurd (omega (arith, s.some))
solid_unblank (b ∷ bytes) s = ap (λ y. y && is_blank bytes) (marked_space b s.each.0)

solid_begins : (bytes : List ℕ) → AllByRecursion IsMarked bytes → BeginsSolid bytes
solid_begins [] h = tt
solid_begins (b ∷ bytes) h = marked_space b h.0

ends_behind : (x : ℕ) (xs ys : List ℕ) → 1 ≤ length ys → ends_with x ys ≡ false → ends_with x (xs ++ ys) ≡ false
ends_behind x xs [] some h = absurd (omega (arith, some))
ends_behind x xs (y ∷ ys) some h = ends_append x y xs ys ∙ h

number_trimmed : (k : Kind) (n : ℕ) (bytes : List ℕ) → is_text k ≡ false → IsSolid bytes → trimmed k (replicate n 32 ++ bytes) ≡ bytes
number_trimmed k n bytes t s =
    let right : without_right_spaces (replicate n 32 ++ bytes) ≡ replicate n 32 ++ bytes = right_kept (replicate n 32 ++ bytes) (ends_behind 32 (replicate n 32) bytes s.some (solid_end bytes s.each)) in
    ap (λ y. cond y (without_right_spaces (replicate n 32 ++ bytes)) (without_left_spaces (without_right_spaces (replicate n 32 ++ bytes)))) t
    ∙ (ap without_left_spaces right ∙ left_dropped n bytes (solid_begins bytes s.each))

number_means : (k : Kind) (nullable : Bool) (n : ℕ) (v : Value) → is_text k ≡ false → Spells k (written k v) v
    → NullOr (nullable && is_blank (replicate n 32 ++ written k v)) k (trimmed k (replicate n 32 ++ written k v)) v
number_means k nullable n v t s =
    let bytes = written k v in
    let body = solid k bytes v t s in
    let full : (nullable && is_blank (replicate n 32 ++ bytes)) ≡ false = ap (λ y. nullable && y) (unblank_append (replicate n 32) bytes (solid_unblank bytes body)) ∙ none_and nullable in
    subst (λ y. NullOr y k (trimmed k (replicate n 32 ++ bytes)) v) (sym full) (subst (λ l. Spells k l v) (sym (number_trimmed k n bytes t body)) s)

-- a text is read again
full_by : (nullable blank : Bool) → (nullable ≡ true → blank ≡ false) → (nullable && blank) ≡ false
full_by true blank h = h refl
full_by false blank h = refl

text_by : (max : ℕ) (fixed : Bool) (b : List ℕ) → IsKind (kind.Text max fixed) → fits_kind (kind.Text max fixed) (Text b) ≡ true → (fixed ≡ false → ends_with 32 b ≡ false)
    → Spells (kind.Text max fixed) (without_right_spaces b) (Text b)
text_by max true b k fits h = record { form = sym (filled_again b) ∙ ap (λ n. filled n (without_right_spaces b)) (eqb-true (length b) max fits); fits = fits }
text_by max false b k fits h = subst (λ l. Spells (kind.Text max false) l (Text b)) (sym (right_kept b (h refl))) (written_spells (kind.Text max false) (Text b) k fits)

text_means : (k : Kind) (nullable : Bool) (w : ℕ) (v : Value) → is_text k ≡ true → IsKind k → fits_kind k v ≡ true → Stays k nullable v
    → NullOr (nullable && is_blank (filled w (written k v))) k (trimmed k (filled w (written k v))) v
text_means (kind.Int bits) nullable w v t k fits stays = cc
text_means (kind.UInt bits) nullable w v t k fits stays = cc
text_means (kind.Dec p s) nullable w v t k fits stays = cc
text_means kind.Date nullable w v t k fits stays = cc
text_means (kind.Text max fixed) nullable w (Text b) t k fits stays =
    let full : (nullable && is_blank (filled w b)) ≡ false = full_by nullable (is_blank (filled w b)) (λ e. blank_filled b (w - length b) ∙ stays.1 e) in
    subst (λ y. NullOr y (kind.Text max fixed) (without_right_spaces (filled w b)) (Text b)) (sym full)
    (subst (λ l. Spells (kind.Text max fixed) l (Text b)) (sym (right_filled b (w - length b))) (text_by max fixed b k fits stays.0))
text_means (kind.Text max fixed) nullable w v t k fits stays = cc

means_by : (k : Kind) (nullable text : Bool) (w : ℕ) (v : Value) → is_text k ≡ text → IsKind k → fits_kind k v ≡ true → Stays k nullable v
    → (let column : List ℕ = cond text (filled w (written k v)) (replicate (w - length (written k v)) 32 ++ written k v) in NullOr (nullable && is_blank column) k (trimmed k column) v)
means_by k nullable true w v t i fits stays = text_means k nullable w v t i fits stays
means_by k nullable false w v t i fits stays = number_means k nullable (w - length (written k v)) v t (written_spells k v i fits)

column_means : (f : Field) (w : ℕ) (v : Value) (null : Bool) → is_null v ≡ null → IsKind f.kind → fits_field f v ≡ true → Stays f.kind f.nullable v → MeansColumn f (written_column f w v) v
column_means f w v true e k fits stays =
    let is : v ≡ Null = null_value v e in
    let nullable : f.nullable ≡ true = ap (fits_field f) (sym is) ∙ fits in
    let blank : (f.nullable && is_blank (replicate w 32)) ≡ true = both f.nullable (is_blank (replicate w 32)) nullable (blank_spaces w) in
    let null : MeansColumn f (replicate w 32) v = subst (λ y. NullOr y f.kind (trimmed f.kind (replicate w 32)) v) (sym blank) is in
    let column : written_column f w v ≡ replicate w 32 = rw e refl in
    subst (λ l. MeansColumn f l v) (sym column) null
column_means f w v false e k fits stays =
    let column : written_column f w v ≡ cond (is_text f.kind) (filled w (written f.kind v)) (replicate (w - length (written f.kind v)) 32 ++ written f.kind v) = rw e refl in
    subst (λ l. MeansColumn f l v) (sym column) (means_by f.kind f.nullable (is_text f.kind) w v refl k (kind_fits f v e fits) stays)

-- the line of all columns
pub record ColumnsAgain (fs : List Field) (ws : List ℕ) (vs : List Value) : Type 0 where
  pub full : length (written_columns fs ws vs) ≡ sum ws
  pub spells : SpellsColumns fs ws (written_columns fs ws vs) vs

pub columns_again : (fs : List Field) (ws : List ℕ) (vs : List Value) → length ws ≡ length fs → AllByRecursion IsField fs → row_fits fs vs ≡ true → any_wide fs ws vs ≡ false → EachStays fs vs → ColumnsAgain fs ws vs
columns_again [] [] [] n k h narrow stays = record { full = refl; spells = tt }
columns_again [] [] (v ∷ vs) n k h narrow stays = cc
columns_again [] (w ∷ ws) vs n k h narrow stays = absurd (omega arith)
columns_again (f ∷ fs) [] vs n k h narrow stays = absurd (omega arith)
columns_again (f ∷ fs) (w ∷ ws) [] n k h narrow stays = cc
columns_again (f ∷ fs) (w ∷ ws) (v ∷ vs) n k h narrow stays =
    let fits = and_parts (fits_field f v) (row_fits fs vs) h in
    let narrows = or_parts (is_wide f w v) (any_wide fs ws vs) narrow in
    let more = columns_again fs ws vs (omega (arith, n)) k.1 fits.1 narrows.1 stays.1 in
    let column = written_column f w v in
    let rest = written_columns fs ws vs in
    let size : length column ≡ w = column_length f w v (is_null v) refl narrows.0 in
    record {
      full = omega (arith, length-append column rest, size, more.full, sum_more w ws);
      spells = (
        subst (λ l. MeansColumn f l v) (sym (take_at column rest w size)) (column_means f w v (is_null v) refl k.0.1 fits.0 stays.0),
        subst (λ l. SpellsColumns fs ws l vs) (sym (drop_at column rest w size)) more.spells,
      );
    }
