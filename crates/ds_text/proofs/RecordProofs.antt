-- The laws of records in both forms.
use Rattle.std.proofs.Common.{◌≡◌, ◌≤◌, ◌-◌, ◌++◌, ◌∷◌, [], ◌==◌, ℕ, zero, suc, List, Bool, true, false, cond, map, refl, sym, ap, ◌∙◌, arith, length, sum, take, replicate, append-nil, subst}
use Rattle.std.specs.List.{AllByRecursion}
use Rattle.std.proofs.lemmas.Bool.{ne_eqb}
use Rattle.std.proofs.lemmas.List.{take_all}
use Rattle.ds_value.specs.declared.kind.Kind.{Kind}
use Rattle.ds_value.specs.declared.kind.Kind.TheVariants as kind
use Rattle.ds_value.specs.declared.value.Value.{Value}
use Rattle.ds_value.specs.declared.value.Value.TheVariants.{Text}
use Rattle.ds_value.specs.Kinds.{IsKind, fits_kind}
use Rattle.ds_value.specs.Values.{letters}
use Rattle.ds_value.specs.Spellings.{filled, written}
use Rattle.ds_value.proofs.Spellings.{written_spells}
use Rattle.ds_schema.specs.declared.schema.Field.{Field}
use Rattle.ds_schema.specs.Schemas.{IsSchema, IsField, fits_field, row_fits}
use Rattle.ds_text.specs.declared.form.Form.{Form}
use Rattle.ds_text.specs.declared.form.Form.TheVariants.{Delimited, Fixed}
use Rattle.ds_text.specs.Lines.{shown, without_return, IsFree}
use Rattle.ds_text.specs.Forms.{FormFits}
use Rattle.ds_text.specs.Cells.{doubled, text_of}
use Rattle.ds_text.specs.Columns.{is_text}
use Rattle.ds_text.specs.Records.{is_null, has_byte, needs_quotes, written_field, written_more, written_fields, written_column, SpellsIn, SpellsRow, SpellsColumns, holds_end, any_wide, written_row, written_columns}
use Rattle.ds_text.specs.RecordLaws.{OneRow, SpelledFits, ends_with, IsReadable, ReadsBack, SpellRows, FileReadsBack}
use Rattle.ds_text.proofs.Again.{lines_again}
use Rattle.ds_text.proofs.FieldWriting.{and_parts, kind_fits}
use Rattle.ds_text.proofs.Solid.{IsMarked, solid}
use Rattle.ds_text.proofs.FieldLaws.{one_fields, fields_fit, fields_again, fields_end, or_parts}
use Rattle.ds_text.proofs.ColumnLaws.{one_columns, columns_fit, columns_again}

pub one_row : OneRow
one_row (Delimited d) fields line a b fit s t = one_fields d fields _ a b (ne_eqb d 34 fit.no_quote) s.spells t.spells
one_row (Fixed ws) fields line a b fit s t = one_columns fields ws (filled (sum ws) line) a b s.spells.1 t.spells.1

pub in_fits : (form : Form) (fields : List Field) (line : List ℕ) (row : List Value) → SpellsIn form fields line row → row_fits fields row ≡ true
in_fits (Delimited d) fields line row s = fields_fit d fields _ row s
in_fits (Fixed ws) fields line row s = columns_fit fields ws (filled (sum ws) line) row s.1

pub spelled_fits : SpelledFits
spelled_fits form fields line row s = in_fits form fields line row s.spells

-- a line without byte 13 at its end is given whole
no_return : (xs : List ℕ) → ends_with 13 xs ≡ false → without_return xs ≡ xs
no_return [] h = refl
no_return (x ∷ []) h = rw h refl
no_return (x ∷ y ∷ xs) h = ap (λ l. x ∷ l) (no_return (y ∷ xs) h)

shown_whole : (xs : List ℕ) → ends_with 13 xs ≡ false → length xs ≤ 2_097_152 → shown xs ≡ xs
shown_whole xs h le = ap (take 2_097_153) (no_return xs h) ∙ take_all 2_097_153 xs (omega arith)

-- a full line isn't filled
full_line : (n : ℕ) (xs : List ℕ) → length xs ≡ n → filled n xs ≡ xs
full_line n xs h = let none : n - length xs ≡ 0 = omega arith in ap (λ k. xs ++ replicate k 32) none ∙ append-nil xs

pub reads_back : ReadsBack
reads_back (Delimited d) fields row schema fit r =
    let line = written_row (Delimited d) fields row in
    subst (λ l. SpellsRow (Delimited d) fields l row) (sym (shown_whole line (fields_end d fields row fit.no_return) r.short))
    (record { short = r.short; spells = fields_again d fields row schema.some schema.each r.fits })
reads_back (Fixed ws) fields row schema fit r =
    let line = written_columns fields ws row in
    let again = columns_again fields ws row fit.one_each schema.each r.fits (or_parts (holds_end row) (any_wide fields ws row) r.writable).1 r.kept.0 in
    let within : length line ≤ sum ws = omega (arith, again.full) in
    subst (λ l. SpellsRow (Fixed ws) fields l row) (sym (shown_whole line r.kept.1 r.short))
    (record { short = r.short; spells = (within, subst (λ l. SpellsColumns fields ws l row) (sym (full_line (sum ws) line again.full)) again.spells) })

-- no written row holds the end of a line
free_append : (xs ys : List ℕ) → IsFree xs → IsFree ys → IsFree (xs ++ ys)
free_append [] ys h k = k
free_append (x ∷ xs) ys h k = (h.0, free_append xs ys h.1 k)

marked_free : (bytes : List ℕ) → AllByRecursion IsMarked bytes → IsFree bytes
marked_free [] h = tt
marked_free (b ∷ bytes) h = (ne_eqb b 10 (λ e. omega (arith, h.0, e)), marked_free bytes h.1)

unended_free : (bytes : List ℕ) → has_byte 10 bytes ≡ false → IsFree bytes
unended_free [] h = tt
unended_free (b ∷ bytes) h = let parts = or_parts (b == 10) (has_byte 10 bytes) h in (parts.0, unended_free bytes parts.1)

text_free : (k : Kind) (v : Value) → is_text k ≡ true → fits_kind k v ≡ true → has_byte 10 (letters v) ≡ false → IsFree (written k v)
text_free (kind.Int bits) v t fits h = cc
text_free (kind.UInt bits) v t fits h = cc
text_free (kind.Dec p s) v t fits h = cc
text_free kind.Date v t fits h = cc
text_free (kind.Text max fixed) (Text b) t fits h = unended_free b h
text_free (kind.Text max fixed) v t fits h = cc

written_free : (k : Kind) (v : Value) (text : Bool) → is_text k ≡ text → IsKind k → fits_kind k v ≡ true → has_byte 10 (letters v) ≡ false → IsFree (written k v)
written_free k v true t i fits h = text_free k v t fits h
written_free k v false t i fits h = marked_free (written k v) (solid k (written k v) v t (written_spells k v i fits)).each

doubled_by : (b : ℕ) (bytes : List ℕ) (quote : Bool) → (b == 10) ≡ false → IsFree (doubled bytes) → IsFree (cond quote (34 ∷ 34 ∷ doubled bytes) (b ∷ doubled bytes))
doubled_by b bytes true h k = (refl, (refl, k))
doubled_by b bytes false h k = (h, k)

doubled_free : (bytes : List ℕ) → IsFree bytes → IsFree (doubled bytes)
doubled_free [] h = tt
doubled_free (b ∷ bytes) h = doubled_by b bytes (b == 34) h.0 (doubled_free bytes h.1)

quoted_free : (quoted : Bool) (bytes : List ℕ) → IsFree bytes → IsFree (text_of quoted bytes)
quoted_free true bytes h = (refl, free_append (doubled bytes) (34 ∷ []) (doubled_free bytes h) (refl, tt))
quoted_free false bytes h = h

field_free : (d : ℕ) (f : Field) (v : Value) (null : Bool) → is_null v ≡ null → IsKind f.kind → fits_field f v ≡ true → has_byte 10 (letters v) ≡ false → IsFree (written_field d f v)
field_free d f v true e k fits h = let nothing : written_field d f v ≡ [] = rw e refl in subst IsFree (sym nothing) tt
field_free d f v false e k fits h =
    let bytes = written f.kind v in
    let text : written_field d f v ≡ text_of (needs_quotes d f.nullable bytes) bytes = rw e refl in
    subst IsFree (sym text) (quoted_free (needs_quotes d f.nullable bytes) bytes (written_free f.kind v (is_text f.kind) refl k (kind_fits f v e fits) h))

more_free : (d : ℕ) (fs : List Field) (vs : List Value) → (d == 10) ≡ false → AllByRecursion IsField fs → row_fits fs vs ≡ true → holds_end vs ≡ false → IsFree (written_more d fs vs)
more_free d [] vs n k h free = tt
more_free d (f ∷ fs) [] n k h free = tt
more_free d (f ∷ fs) (v ∷ vs) n k h free =
    let fits = and_parts (fits_field f v) (row_fits fs vs) h in
    let parts = or_parts (has_byte 10 (letters v)) (holds_end vs) free in
    (n, free_append (written_field d f v) (written_more d fs vs) (field_free d f v (is_null v) refl k.0.1 fits.0 parts.0) (more_free d fs vs n k.1 fits.1 parts.1))

fields_free : (d : ℕ) (fs : List Field) (vs : List Value) → (d == 10) ≡ false → AllByRecursion IsField fs → row_fits fs vs ≡ true → holds_end vs ≡ false → IsFree (written_fields d fs vs)
fields_free d [] vs n k h free = tt
fields_free d (f ∷ fs) [] n k h free = tt
fields_free d (f ∷ fs) (v ∷ vs) n k h free = (more_free d (f ∷ fs) (v ∷ vs) n k h free).1

spaces_free : (n : ℕ) → IsFree (replicate n 32)
spaces_free zero = tt
spaces_free (suc n) = (refl, spaces_free n)

padded_free : (text : Bool) (w : ℕ) (bytes : List ℕ) → IsFree bytes → IsFree (cond text (filled w bytes) (replicate (w - length bytes) 32 ++ bytes))
padded_free true w bytes h = free_append bytes (replicate (w - length bytes) 32) h (spaces_free (w - length bytes))
padded_free false w bytes h = free_append (replicate (w - length bytes) 32) bytes (spaces_free (w - length bytes)) h

column_free : (f : Field) (w : ℕ) (v : Value) (null : Bool) → is_null v ≡ null → IsKind f.kind → fits_field f v ≡ true → has_byte 10 (letters v) ≡ false → IsFree (written_column f w v)
column_free f w v true e k fits h = let column : written_column f w v ≡ replicate w 32 = rw e refl in subst IsFree (sym column) (spaces_free w)
column_free f w v false e k fits h =
    let column : written_column f w v ≡ cond (is_text f.kind) (filled w (written f.kind v)) (replicate (w - length (written f.kind v)) 32 ++ written f.kind v) = rw e refl in
    subst IsFree (sym column) (padded_free (is_text f.kind) w (written f.kind v) (written_free f.kind v (is_text f.kind) refl k (kind_fits f v e fits) h))

columns_free : (fs : List Field) (ws : List ℕ) (vs : List Value) → AllByRecursion IsField fs → row_fits fs vs ≡ true → holds_end vs ≡ false → IsFree (written_columns fs ws vs)
columns_free [] ws vs k h free = tt
columns_free (f ∷ fs) [] vs k h free = tt
columns_free (f ∷ fs) (w ∷ ws) [] k h free = tt
columns_free (f ∷ fs) (w ∷ ws) (v ∷ vs) k h free =
    let fits = and_parts (fits_field f v) (row_fits fs vs) h in
    let parts = or_parts (has_byte 10 (letters v)) (holds_end vs) free in
    free_append (written_column f w v) (written_columns fs ws vs) (column_free f w v (is_null v) refl k.0.1 fits.0 parts.0) (columns_free fs ws vs k.1 fits.1 parts.1)

pub row_free : (form : Form) (fields : List Field) (row : List Value) → IsSchema fields → FormFits fields form → IsReadable form fields row → IsFree (written_row form fields row)
row_free (Delimited d) fields row schema fit r = fields_free d fields row (ne_eqb d 10 fit.no_end) schema.each r.fits (or_parts (holds_end row) false r.writable).0
row_free (Fixed ws) fields row schema fit r = columns_free fields ws row schema.each r.fits (or_parts (holds_end row) (any_wide fields ws row) r.writable).0

rows_free : (form : Form) (fields : List Field) (rows : List (List Value)) → IsSchema fields → FormFits fields form → AllByRecursion (IsReadable form fields) rows → AllByRecursion IsFree (map (written_row form fields) rows)
rows_free form fields [] schema fit r = tt
rows_free form fields (row ∷ rows) schema fit r = (row_free form fields row schema fit r.0, rows_free form fields rows schema fit r.1)

spell_rows : (form : Form) (fields : List Field) (rows : List (List Value)) → IsSchema fields → FormFits fields form → AllByRecursion (IsReadable form fields) rows → SpellRows form fields (map shown (map (written_row form fields) rows)) rows
spell_rows form fields [] schema fit r = tt
spell_rows form fields (row ∷ rows) schema fit r = (reads_back form fields row schema fit r.0, spell_rows form fields rows schema fit r.1)

pub file_reads_back : FileReadsBack
file_reads_back form fields rows schema fit r le =
    let lines = lines_again (map (written_row form fields) rows) (rows_free form fields rows schema fit r) le in
    record {
      each = subst (λ l. SpellRows form fields l rows) (sym (ap (λ x. x.lines) lines)) (spell_rows form fields rows schema fit r);
      ends = ap (λ x. x.too_long) lines;
    }
