-- Rows that fit.
use Rattle.std.proofs.Common.{◌≡◌, ◌≤◌, ℕ, true, List, [], ◌∷◌, All, length, take, refl, sym, ap, ◌∙◌, subst, arith}
use Rattle.std.specs.List.{AllByRecursion}
use Rattle.std.specs.Prelude.{Result, Ok, Err, IfOk}
use Rattle.std.proofs.lemmas.Bool.{le-leb}
use Rattle.std.proofs.lemmas.List.{length-take}
use Rattle.std.proofs.lemmas.List.Elements.{All-from_recursion}
use Rattle.ds_value.specs.Canonical.{IsShort}
use Rattle.ds_schema.specs.declared.schema.Field.{Field}
use Rattle.ds_schema.specs.Schemas.{IsField, row_fits}
use Rattle.op_base.specs.Columns.{Row}
use Rattle.flow_files.specs.Lines.{AllFit, AreOfLines, line_row}
use Rattle.flow_graph.specs.Fitting.{FitsFields}
use Rattle.flow_files.proofs.Rows.{row_is_short}
use Rattle.op_shape.specs.Options.{line_fields}

few_bytes : (line : List ℕ) → length (take 65536 line) ≤ 65536
few_bytes line = omega (arith, length-take 65536 line)

pub line_fits : (line : List ℕ) → row_fits line_fields (line_row line) ≡ true
line_fits line = rw (le-leb (length (take 65536 line)) 65536 (few_bytes line)) refl

line_short : (line : List ℕ) → All IsShort (line_row line)
line_short line = All-from_recursion IsShort (line_row line) (omega (arith, few_bytes line), tt)

-- rows of lines fit the fields of rejected lines
pub lines_suit : (rows : List Row) → AreOfLines rows → AllByRecursion (FitsFields line_fields) rows
lines_suit [] h = tt
lines_suit (r ∷ rows) h = ((ap (row_fits line_fields) h.0.1 ∙ line_fits h.0.0, subst (All IsShort) (sym h.0.1) (line_short h.0.0)), lines_suit rows h.1)

pub rows_suit : (fields : List Field) (rows : List Row) → AllByRecursion IsField fields → AllFit fields rows → AllByRecursion (FitsFields fields) rows
rows_suit fields [] f h = tt
rows_suit fields (r ∷ rows) f h = ((h.0, row_is_short fields r f h.0), rows_suit fields rows f h.1)

pub made_suit : {M E : Type 0} (rows : M → List Row) (fields : List Field) (made : Result M E) → AllByRecursion IsField fields → IfOk made (λ m. AllFit fields (rows m)) → IfOk made (λ m. AllByRecursion (FitsFields fields) (rows m))
made_suit rows fields (Ok m) f h = rows_suit fields (rows m) f h
made_suit rows fields (Err e) f h = tt

pub made_of_lines : {M E : Type 0} (rows : M → List Row) (made : Result M E) → IfOk made (λ m. AreOfLines (rows m)) → IfOk made (λ m. AllByRecursion (FitsFields line_fields) (rows m))
made_of_lines rows (Ok m) h = lines_suit (rows m) h
made_of_lines rows (Err e) h = tt
