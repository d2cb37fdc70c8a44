-- The lines of a file are one list at most.
use Rattle.std.proofs.Common.{◌≡◌, ℕ, suc, List, [], ◌∷◌, refl, sym, ap, ap₂, ◌∙◌}
use Rattle.ds_schema.specs.declared.schema.Field.{Field}
use Rattle.ds_text.specs.declared.form.Form.{Form}
use Rattle.ds_text.specs.Forms.{FormFits}
use Rattle.ds_text.proofs.RecordProofs as records
use Rattle.op_base.specs.Meanings.{Line, good, bad}
use Rattle.flow_files.specs.Lines.{IsLine, AreLinesFrom}
use Rattle.flow_files.specs.Laws.{OneList}

one_line : (form : Form) (fields : List Field) (op n : ℕ) (line : List ℕ) (a b : Line) → FormFits fields form → IsLine form fields op n line a → IsLine form fields op n line b → a ≡ b
one_line form fields op n line (good r) (good s) fits x y = ap good (records.one_row form fields line r s fits x y)
one_line form fields op n line (good r) (bad s f) fits x y = absurd (y.0 r x)
one_line form fields op n line (bad r f) (good s) fits x y = absurd (x.0 s y)
one_line form fields op n line (bad r f) (bad s g) fits x y = ap₂ bad (x.1 ∙ sym y.1) (x.2 ∙ sym y.2)

one_from : (form : Form) (fields : List Field) (op n : ℕ) (lines : List (List ℕ)) (a b : List Line) → FormFits fields form → AreLinesFrom form fields op n lines a → AreLinesFrom form fields op n lines b → a ≡ b
one_from form fields op n [] [] [] fits x y = refl
one_from form fields op n [] [] (j ∷ b) fits x y = absurd y
one_from form fields op n [] (i ∷ a) b fits x y = absurd x
one_from form fields op n (l ∷ lines) [] b fits x y = absurd x
one_from form fields op n (l ∷ lines) (i ∷ a) [] fits x y = absurd y
one_from form fields op n (l ∷ lines) (i ∷ a) (j ∷ b) fits x y = ap₂ (λ k c. k ∷ c) (one_line form fields op n l i j fits x.0 y.0) (one_from form fields op (suc n) lines a b fits x.1 y.1)

pub one_list : OneList
one_list form fields op bytes a b fits x y = one_from form fields op 1 _ a b fits x y
