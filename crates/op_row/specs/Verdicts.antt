-- What the code answers for a row, as what expressions say of it.
use Rattle.std.specs.Prelude.{ℕ, ◌<◌, ⊤}
use Rattle.op_base.specs.RowOperators.{Judged, yes, no, fails, Case, case, other, case_fails}
use Rattle.op_row.specs.declared.sifting.Verdict.{Verdict}
use Rattle.op_row.specs.declared.sifting.Verdict.TheVariants as verdict
use Rattle.op_row.specs.declared.switching.Placing.{Placing}
use Rattle.op_row.specs.declared.switching.Placing.TheVariants as place

abbrev pub judged_as : Verdict → Judged
judged_as verdict.Yes = yes
judged_as verdict.No = no
judged_as (verdict.Fails fault) = fails fault

abbrev pub case_as : Placing → Case
case_as (place.Case i) = case i
case_as place.Other = other
case_as (place.Fails fault) = case_fails fault

-- a case is one of this many
abbrev pub IsAmong : ℕ → Placing → Type 0
IsAmong cases (place.Case i) = i < cases
IsAmong cases place.Other = ⊤
IsAmong cases (place.Fails fault) = ⊤
