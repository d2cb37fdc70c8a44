-- What an export writes of a row, and its faults.
use Rattle.std.specs.Prelude.{ℕ, Bool, true, false, List, [], ◌∷◌, ◌++◌, take}
use Rattle.std.specs.List.{flat_map}
use Rattle.ds_value.specs.Canonical.{canonical_bytes}
use Rattle.ds_schema.specs.declared.schema.Field.{Field}
use Rattle.ds_text.specs.declared.form.Form.{Form}
use Rattle.ds_text.specs.Records.{written_row, is_refused}
use Rattle.op_base.specs.Columns.{Row}
use Rattle.op_base.specs.declared.fault.Fault.{Fault}
use Rattle.op_base.specs.declared.fault.FaultKind.TheVariants.{Unwritable}

abbrev pub line_unless : Bool → List ℕ → List ℕ
line_unless true text = []
line_unless false text = text ++ 10 ∷ []

-- a row as a line, or nothing where it can't be written
abbrev pub exported_text : Form → List Field → Row → List ℕ
exported_text form fields row = line_unless (is_refused form fields row) (written_row form fields row)

-- the fault of a row that can't be written, with the first 64 of its canonical bytes
abbrev pub unwritable : ℕ → Row → Fault
unwritable op row = record { op = op; kind = Unwritable; place = 0; bytes = take 64 (flat_map canonical_bytes row) }

abbrev pub fault_where : Bool → Fault → List Fault
fault_where true fault = fault ∷ []
fault_where false fault = []

-- the faults of a row at the export with the number op
abbrev pub export_faults : ℕ → Form → List Field → Row → List Fault
export_faults op form fields row = fault_where (is_refused form fields row) (unwritable op row)
