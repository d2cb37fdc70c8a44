-- Lines that are taken one after another, and the rows and faults so far.
use Rattle.std.proofs.Common.{◌≡◌, ◌≤◌, ◌+◌, ◌^◌, ℕ, suc, Bool, List, [], ◌∷◌, ◌++◌, length, refl, sym, ap, ◌∙◌, subst, append_assoc, length-append, arith}
use Rattle.std.specs.List.{flat_map}
use Rattle.std.proofs.lemmas.Grind.{flat_map-append}
use Rattle.std.proofs.lemmas.List.{append-nil}
use Rattle.ds_schema.specs.declared.schema.Field.{Field}
use Rattle.ds_text.specs.declared.form.Form.{Form}
use Rattle.ds_text.specs.Lines.{Reading, lines_of}
use Rattle.op_base.specs.Columns.{Row}
use Rattle.op_base.specs.Meanings.{Line, line_rows, line_faults}
use Rattle.flow_files.specs.declared.tally.Tally.{Tally}
use Rattle.flow_files.specs.declared.import.Progress.{Progress}
use Rattle.flow_files.specs.Lines.{IsLine, AreLinesFrom, Imports, faults_behind}
use Rattle.flow_files.specs.Steps.{more, Adds, Steps, Ends, TakesAll, AreFew}
use Rattle.flow_files.specs.Tallies.{Grows}
use Rattle.flow_files.proofs.Growing.{same, further}

-- some lines were taken, and the others are left
pub record Underway (form : Form) (fields : List Field) (op : ℕ) (rejects : Bool) (reading left : Reading) (run : Progress) (before now : Tally) : Type 0 where
  pub done : List (List ℕ)
  pub items : List Line
  pub lines : reading.lines ≡ done ++ left.lines
  pub too_long : reading.too_long ≡ left.too_long
  pub read : AreLinesFrom form fields op 1 done items
  pub number : run.number ≡ length done
  pub rows : run.rows.items ≡ flat_map (line_rows 0 rejects) items
  pub rejected : run.rejected.items ≡ flat_map (line_rows 1 rejects) items
  pub faults : Grows before now (flat_map (line_faults rejects) items)

one_more : (form : Form) (fields : List Field) (op n : ℕ) (lines : List (List ℕ)) (items : List Line) (line : List ℕ) (item : Line) → AreLinesFrom form fields op n lines items → IsLine form fields op (n + length lines) line item → AreLinesFrom form fields op n (lines ++ line ∷ []) (items ++ item ∷ [])
one_more form fields op n [] [] line item r i = (subst (λ k. IsLine form fields op k line item) (omega arith) i, tt)
one_more form fields op n [] (x ∷ items) line item r i = absurd r
one_more form fields op n (l ∷ lines) [] line item r i = absurd r
one_more form fields op n (l ∷ lines) (x ∷ items) line item r i = (r.0, one_more form fields op (suc n) lines items line item r.1 (subst (λ k. IsLine form fields op k line item) (omega arith) i))

one_of : {X Y : Type 0} (f : X → List Y) (xs : List X) (x : X) → flat_map f (xs ++ x ∷ []) ≡ flat_map f xs ++ f x
one_of f xs x = flat_map-append f xs (x ∷ []) ∙ ap (λ l. flat_map f xs ++ l) (append-nil (f x))

counted_more : (n : ℕ) → n ≤ 2 ^ 40 → more n ≡ n + 1
counted_more n h = omega arith

pub begun : (form : Form) (fields : List Field) (op : ℕ) (rejects : Bool) (reading : Reading) (run : Progress) (tally : Tally) → run.number ≡ 0 → run.rows.items ≡ [] → run.rejected.items ≡ [] → Underway form fields op rejects reading reading run tally tally
begun form fields op rejects reading run tally n r b = record {
  done = [];
  items = [];
  lines = refl;
  too_long = refl;
  read = tt;
  number = n;
  rows = r;
  rejected = b;
  faults = same tally;
}

pub stepped : (form : Form) (fields : List Field) (op : ℕ) (rejects : Bool) (reading left new : Reading) (run next : Progress) (before now after : Tally) → AreFew reading
    → Underway form fields op rejects reading left run before now → Steps form fields op rejects left new run next now after → Underway form fields op rejects reading new next before after
stepped form fields op rejects reading left new run next before now after few u s =
    let lines : reading.lines ≡ (u.done ++ s.line ∷ []) ++ new.lines = u.lines ∙ ap (λ (r : Reading). u.done ++ r.lines) s.left_is ∙ sym (append_assoc u.done (s.line ∷ []) new.lines) in
    let short : length u.done + 1 ≤ 2 ^ 40 = omega (arith, ap length lines, length-append (u.done ++ s.line ∷ []) new.lines, length-append u.done (s.line ∷ [])) in
    let number : next.number ≡ length u.done + 1 = s.number ∙ ap more u.number ∙ counted_more (length u.done) (omega arith) in
    record {
      done = u.done ++ s.line ∷ [];
      items = u.items ++ s.item ∷ [];
      lines = lines;
      too_long = u.too_long ∙ ap (λ (r : Reading). r.too_long) s.left_is;
      read = one_more form fields op 1 u.done u.items s.line s.item u.read (subst (λ k. IsLine form fields op k s.line s.item) (number ∙ (omega arith)) s.is);
      number = number ∙ (omega (arith, length-append u.done (s.line ∷ [])));
      rows = s.adds.rows ∙ ap (λ l. l ++ line_rows 0 rejects s.item) u.rows ∙ sym (one_of (line_rows 0 rejects) u.items s.item);
      rejected = s.adds.rejected ∙ ap (λ l. l ++ line_rows 1 rejects s.item) u.rejected ∙ sym (one_of (line_rows 1 rejects) u.items s.item);
      faults = subst (Grows before after) (sym (one_of (line_faults rejects) u.items s.item)) (further before now after (flat_map (line_faults rejects) u.items) (line_faults rejects s.item) u.faults s.adds.faults);
    }

pub ended : (form : Form) (fields : List Field) (op : ℕ) (rejects : Bool) (reading left : Reading) (run last : Progress) (before now after : Tally) → Underway form fields op rejects reading left run before now → Ends op left run last now after
    → TakesAll form fields op rejects reading last.rows.items last.rejected.items before after
ended form fields op rejects reading left run last before now after u e =
    let lines : reading.lines ≡ u.done = u.lines ∙ ap (λ (r : Reading). u.done ++ r.lines) e.left_is ∙ append-nil u.done in
    let long : reading.too_long ≡ e.too_long = u.too_long ∙ ap (λ (r : Reading). r.too_long) e.left_is in
    record {
      lines = u.items;
      are = subst (λ ls. AreLinesFrom form fields op 1 ls u.items) (sym lines) u.read;
      rows_are = e.rows ∙ u.rows;
      rejected_are = e.rejected ∙ u.rejected;
      faults = subst (λ b. Grows before after (flat_map (line_faults rejects) u.items ++ faults_behind op b)) (sym long) (further before now after (flat_map (line_faults rejects) u.items) (faults_behind op e.too_long) u.faults e.faults);
    }

pub of_file : (form : Form) (fields : List Field) (op : ℕ) (rejects : Bool) (bytes : List ℕ) (reading : Reading) (rows rejected : List Row) (before now : Tally) → reading ≡ lines_of bytes
    → TakesAll form fields op rejects reading rows rejected before now → Imports form fields op rejects bytes rows rejected before now
of_file form fields op rejects bytes reading rows rejected before now is all = record {
  lines = all.lines;
  are = subst (λ (r : Reading). AreLinesFrom form fields op 1 r.lines all.lines) is all.are;
  rows_are = all.rows_are;
  rejected_are = all.rejected_are;
  faults = subst (λ (r : Reading). Grows before now (flat_map (line_faults rejects) all.lines ++ faults_behind op r.too_long)) is all.faults;
}
