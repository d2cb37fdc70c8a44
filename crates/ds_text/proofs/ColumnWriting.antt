-- Columns are written one after the other.
use Rattle.std.proofs.Common.{◌≡◌, ◌≤◌, ◌+◌, ◌++◌, ◌∷◌, [], ◌||◌, ℕ, List, Bool, true, false, refl, sym, ap, ◌∙◌, length, drop, append_assoc, append-nil}
use Rattle.std.proofs.lemmas.List.{drop_all}
use Rattle.ds_value.specs.declared.value.Value.{Value}
use Rattle.ds_schema.specs.declared.schema.Field.{Field}
use Rattle.ds_text.specs.Records.{is_wide, any_wide, written_column, written_columns}

-- the columns up to the i-th were written into now, and none of them was too wide
pub record WritesColumns (fields : List Field) (widths : List ℕ) (row : List Value) (i : ℕ) (old now : List ℕ) : Type 0 where
  pub text : now ++ written_columns (drop i fields) (drop i widths) (drop i row) ≡ old ++ written_columns fields widths row
  pub wide : any_wide (drop i fields) (drop i widths) (drop i row) ≡ any_wide fields widths row

or_false : (x y : Bool) → x ≡ false → (x || y) ≡ y
or_false true y h = cc
or_false false y h = refl

or_true : (x y : Bool) → x ≡ true → (x || y) ≡ true
or_true true y h = refl
or_true false y h = cc

pub column_step : (fields : List Field) (widths : List ℕ) (row : List Value) (i : ℕ) (old into new : List ℕ) (f : Field) (w : ℕ) (v : Value) → drop i fields ≡ f ∷ drop (i + 1) fields → drop i widths ≡ w ∷ drop (i + 1) widths
    → drop i row ≡ v ∷ drop (i + 1) row → new ≡ into ++ written_column f w v → is_wide f w v ≡ false → WritesColumns fields widths row i old into → WritesColumns fields widths row (i + 1) old new
column_step fields widths row i old into new f w v e k m n narrow s =
    let text = written_column f w v in
    let rest = written_columns (drop (i + 1) fields) (drop (i + 1) widths) (drop (i + 1) row) in
    let same : written_columns (drop i fields) (drop i widths) (drop i row) ≡ text ++ rest = rw (e, k, m) refl in
    let wide : any_wide (drop i fields) (drop i widths) (drop i row) ≡ (is_wide f w v || any_wide (drop (i + 1) fields) (drop (i + 1) widths) (drop (i + 1) row)) = rw (e, k, m) refl in
    record {
      text = ap (λ l. l ++ rest) n ∙ (append_assoc into text rest ∙ (ap (λ l. into ++ l) (sym same) ∙ s.text));
      wide = sym (or_false (is_wide f w v) _ narrow) ∙ (sym wide ∙ s.wide);
    }

pub column_wide : (fields : List Field) (widths : List ℕ) (row : List Value) (i : ℕ) (old into : List ℕ) (f : Field) (w : ℕ) (v : Value) → drop i fields ≡ f ∷ drop (i + 1) fields → drop i widths ≡ w ∷ drop (i + 1) widths
    → drop i row ≡ v ∷ drop (i + 1) row → is_wide f w v ≡ true → WritesColumns fields widths row i old into → any_wide fields widths row ≡ true
column_wide fields widths row i old into f w v e k m h s =
    let wide : any_wide (drop i fields) (drop i widths) (drop i row) ≡ (is_wide f w v || any_wide (drop (i + 1) fields) (drop (i + 1) widths) (drop (i + 1) row)) = rw (e, k, m) refl in
    sym s.wide ∙ (wide ∙ or_true (is_wide f w v) _ h)

-- all columns were written
pub columns_done : (fields : List Field) (widths : List ℕ) (row : List Value) (i : ℕ) (old into : List ℕ) → length fields ≤ i → WritesColumns fields widths row i old into
    → (into ≡ old ++ written_columns fields widths row) × (any_wide fields widths row ≡ false)
columns_done fields widths row i old into h s =
    let none = drop_all i fields h in
    let text : written_columns (drop i fields) (drop i widths) (drop i row) ≡ [] = rw none refl in
    let wide : any_wide (drop i fields) (drop i widths) (drop i row) ≡ false = rw none refl in
    (sym (append-nil into) ∙ (ap (λ l. into ++ l) (sym text) ∙ s.text), sym s.wide ∙ wide)
