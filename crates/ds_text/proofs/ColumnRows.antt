-- A line of columns is read column by column.
use Rattle.std.proofs.Common.{◌≡◌, ◌≤◌, ◌+◌, ◌++◌, ◌∷◌, [], ◌&&◌, ◌==◌, ℕ, List, true, false, sym, ap, length, take, drop, subst}
use Rattle.std.proofs.lemmas.Bool.{eqb-true}
use Rattle.std.proofs.lemmas.List.{drop_all, nil_from_length}
use Rattle.ds_value.specs.declared.value.Value.{Value}
use Rattle.ds_schema.specs.declared.schema.Field.{Field}
use Rattle.ds_text.specs.Columns.{is_blank, trimmed}
use Rattle.ds_text.specs.Records.{MeansColumn}
use Rattle.ds_text.proofs.FieldRows.{one_null_or}
use Rattle.ds_text.proofs.Partial.{ReadsSoFar, IsNext, next, none, all}

-- columns of a line that isn't filled, with nothing behind them
abbrev pub SpellsShort : List Field → List ℕ → List ℕ → List Value → Type 0
SpellsShort [] [] line [] = line ≡ []
SpellsShort (f ∷ fs) (w ∷ ws) line (v ∷ vs) = MeansColumn f (take w line) v × SpellsShort fs ws (drop w line) vs
SpellsShort fs ws line vs = ⊥

pub one_column : (f : Field) (column : List ℕ) (v w : Value) → MeansColumn f column v → MeansColumn f column w → v ≡ w
one_column f column v w a b = one_null_or (f.nullable && is_blank column) f.kind (trimmed f.kind column) v w a b

column_back : (f : Field) (fs : List Field) (w : ℕ) (ws : List ℕ) (line : List ℕ) (v : Value) (us : List Value) → MeansColumn f (take w line) v → SpellsShort (f ∷ fs) (w ∷ ws) line us
    → (vs : List Value) × (us ≡ v ∷ vs) × SpellsShort fs ws (drop w line) vs
column_back f fs w ws line v [] m s = absurd s
column_back f fs w ws line v (u ∷ us) m s = (us, ap (λ x. x ∷ us) (one_column f (take w line) u v s.0 m), s.1)

next_column : (f : Field) (fs : List Field) (w : ℕ) (ws : List ℕ) (line : List ℕ) (v : Value) → MeansColumn f (take w line) v
    → IsNext (SpellsShort (f ∷ fs) (w ∷ ws) line) (SpellsShort fs ws (drop w line)) v
next_column f fs w ws line v m = record {
  goes_on = λ vs s. (m, s);
  back = λ us s. column_back f fs w ws line v us m s;
}

abbrev pub ReadsColumns : List Field → List ℕ → List ℕ → ℕ → List ℕ → List Value → Type 0
ReadsColumns fields widths line i rest row = ReadsSoFar (SpellsShort fields widths line) (SpellsShort (drop i fields) (drop i widths) rest) row

pub more_columns : (fields : List Field) (widths line rest : List ℕ) (i w : ℕ) (row : List Value) (v : Value) (f : Field) → drop i fields ≡ f ∷ drop (i + 1) fields → drop i widths ≡ w ∷ drop (i + 1) widths
    → MeansColumn f (take w rest) v → ReadsColumns fields widths line i rest row → ReadsColumns fields widths line (i + 1) (drop w rest) (row ++ v ∷ [])
more_columns fields widths line rest i w row v f e k m r =
    next _ _ _ row v
    (subst (λ l. IsNext (SpellsShort l (drop i widths) rest) (SpellsShort (drop (i + 1) fields) (drop (i + 1) widths) (drop w rest)) v) (sym e)
    (subst (λ l. IsNext (SpellsShort (f ∷ drop (i + 1) fields) l rest) (SpellsShort (drop (i + 1) fields) (drop (i + 1) widths) (drop w rest)) v) (sym k)
    (next_column f (drop (i + 1) fields) w (drop (i + 1) widths) rest v m))) r

wrong_column : (f : Field) (fs : List Field) (w : ℕ) (ws : List ℕ) (line : List ℕ) (vs : List Value) → ((v : Value) → MeansColumn f (take w line) v → ⊥) → SpellsShort (f ∷ fs) (w ∷ ws) line vs → ⊥
wrong_column f fs w ws line [] never s = s
wrong_column f fs w ws line (v ∷ vs) never s = never v s.0

pub no_column : (fields : List Field) (widths line rest : List ℕ) (i w : ℕ) (row : List Value) (f : Field) → drop i fields ≡ f ∷ drop (i + 1) fields → drop i widths ≡ w ∷ drop (i + 1) widths
    → ((v : Value) → MeansColumn f (take w rest) v → ⊥) → ReadsColumns fields widths line i rest row → (us : List Value) → SpellsShort fields widths line us → ⊥
no_column fields widths line rest i w row f e k never r =
    none _ _ row (λ vs s. wrong_column f (drop (i + 1) fields) w (drop (i + 1) widths) rest vs never
    (subst (λ l. SpellsShort (f ∷ drop (i + 1) fields) l rest vs) k (subst (λ l. SpellsShort l (drop i widths) rest vs) e s))) r

at_end : (rest : List ℕ) (vs : List Value) → SpellsShort [] [] rest vs → rest ≡ []
at_end rest [] s = s
at_end rest (v ∷ vs) s = absurd s

-- the columns ended before the line
pub longer : (fields : List Field) (widths line rest : List ℕ) (i : ℕ) (row : List Value) → length fields ≤ i → length widths ≤ i → (length rest == 0) ≡ false → ReadsColumns fields widths line i rest row
    → (us : List Value) → SpellsShort fields widths line us → ⊥
longer fields widths line rest i row h k some r =
    none _ _ row (λ vs s.
    let e : rest ≡ [] = at_end rest vs (subst (λ l. SpellsShort [] l rest vs) (drop_all i widths k) (subst (λ l. SpellsShort l (drop i widths) rest vs) (drop_all i fields h) s)) in
    let none_left : (length rest == 0) ≡ true = ap (λ l. length l == 0) e in
    cc) r

pub whole_line : (fields : List Field) (widths line rest : List ℕ) (i : ℕ) (row : List Value) → length fields ≤ i → length widths ≤ i → (length rest == 0) ≡ true → ReadsColumns fields widths line i rest row
    → SpellsShort fields widths line row
whole_line fields widths line rest i row h k some r =
    all _ _ row (subst (λ l. SpellsShort l (drop i widths) rest []) (sym (drop_all i fields h)) (subst (λ l. SpellsShort [] l rest []) (sym (drop_all i widths k)) (nil_from_length rest (eqb-true (length rest) 0 some)))) r
