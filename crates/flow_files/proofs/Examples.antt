-- Lines, texts and tallies of small files, by computing; wrong ones are refused.
use Rattle.std.proofs.Common.{◌≡◌, ℕ, true, false, List, [], ◌∷◌, refl, ap, arith}
use Rattle.std.specs.Prelude.{codes}
use Rattle.ds_value.specs.declared.kind.Kind.TheVariants as kind
use Rattle.ds_value.specs.declared.value.Value.TheVariants.{Text}
use Rattle.ds_schema.specs.declared.schema.Field.{Field}
use Rattle.ds_text.specs.declared.form.Form.TheVariants.{Delimited, Fixed}
use Rattle.op_base.specs.declared.fault.Fault.{Fault}
use Rattle.op_base.specs.declared.fault.FaultKind.TheVariants.{BadRecord, Unwritable}
use Rattle.op_base.specs.Columns.{Row}
use Rattle.op_base.specs.Meanings.{Line, good, bad}
use Rattle.flow_files.specs.Lines.{AreLines, beyond, bad_record}
use Rattle.flow_files.specs.Tallies.{IsLeast}
use Rattle.flow_files.specs.Texts.{exported_text, export_faults}

abbrev fields : List Field
fields = record { name = codes "a"; nullable = false; kind = kind.Text 2 true } ∷ (record { name = codes "b"; nullable = false; kind = kind.Text 4 false } ∷ [])

abbrev row : Row
row = Text (codes "xy") ∷ (Text (codes "a,b") ∷ [])

-- a line for the row, with quotes where the delimiter stands in the text
in_commas : exported_text (Delimited 44) fields row ≡ codes "xy,\"a,b\"\n"
in_commas = refl

in_columns : exported_text (Fixed (2 ∷ (4 ∷ []))) fields row ≡ codes "xya,b \n"
in_columns = refl

-- a row that is too wide is no line, and not a part of one
too_wide : exported_text (Fixed (2 ∷ (2 ∷ []))) fields row ≡ []
too_wide = refl

no_part : exported_text (Fixed (2 ∷ (2 ∷ []))) fields row ≡ codes "xya,\n" → ⊥
no_part e = cc

its_fault : export_faults 3 (Fixed (2 ∷ (2 ∷ []))) fields row ≡ record { op = 3; kind = Unwritable; place = 0; bytes = 4 ∷ (0 ∷ (0 ∷ (0 ∷ (2 ∷ (120 ∷ (121 ∷ (4 ∷ (0 ∷ (0 ∷ (0 ∷ (3 ∷ codes "a,b"))))))))))) } ∷ []
its_fault = refl

no_fault : export_faults 3 (Delimited 44) fields row ≡ []
no_fault = refl

-- the second of two lines is bad: its place is 2, and its row is its bytes
abbrev bytes : List ℕ
bytes = codes "xy,c\nd\n"

second : (r s : Row) (f : Fault) → AreLines (Delimited 44) fields 5 bytes (good r ∷ (bad s f ∷ [])) → (f ≡ record { op = 5; kind = BadRecord; place = 2; bytes = codes "d" }) × (s ≡ Text (codes "d") ∷ [])
second r s f are = (are.1.0.2, are.1.0.1)

-- so no line is left out, and none is counted twice
no_line_less : (r : Row) → AreLines (Delimited 44) fields 5 bytes (good r ∷ []) → ⊥
no_line_less r are = are.1

no_line_more : (r s : Row) (f : Fault) (l : Line) → AreLines (Delimited 44) fields 5 bytes (good r ∷ (bad s f ∷ (l ∷ []))) → ⊥
no_line_more r s f l are = are.1.1

not_at_1 : (r s : Row) → AreLines (Delimited 44) fields 5 bytes (good r ∷ (bad s (bad_record 5 1 (codes "d")) ∷ [])) → ⊥
not_at_1 r s are = absurd (cc (ap (λ (f : Fault). f.place) are.1.0.2))

not_long : beyond 5 bytes ≡ []
not_long = refl

-- of two faults the one of the earlier line is the least, whichever came first
abbrev at : ℕ → Fault
at n = bad_record 5 n (codes "d")

earlier : IsLeast (at 2) (at 3 ∷ (at 2 ∷ []))
earlier = record { among = (1, omega arith, refl); none_below = ((λ e. absurd (cc e)), ((λ e. absurd (cc e)), tt)) }

not_the_first : IsLeast (at 3) (at 3 ∷ (at 2 ∷ [])) → ⊥
not_the_first is = is.none_below.1.0 refl
