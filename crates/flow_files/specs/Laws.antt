-- What holds of the lines of a file.
use Rattle.std.specs.Prelude.{◌≡◌, ℕ, List}
use Rattle.ds_schema.specs.declared.schema.Field.{Field}
use Rattle.ds_text.specs.declared.form.Form.{Form}
use Rattle.ds_text.specs.Forms.{FormFits}
use Rattle.op_base.specs.Meanings.{Line}
use Rattle.flow_files.specs.Lines.{AreLines}

-- the lines of a file are one list at most
abbrev pub OneList : Type 0
OneList = (form : Form) (fields : List Field) (op : ℕ) (bytes : List ℕ) (a b : List Line) → FormFits fields form
    → AreLines form fields op bytes a → AreLines form fields op bytes b → a ≡ b
