-- What is printed: the reports of a check, of a refused flow, and of runs with and without faults.
use Rattle.std.specs.Prelude.{ℕ, min, ◌^◌, ◌-◌, ◌+◌, ◌/◌, ◌%◌, List, [], ◌∷◌, ◌++◌, codes, length, nat_lt, if◌then◌else◌}
use Rattle.std.specs.List.{flat_map, range_with_len}
use Rattle.std.specs.Fmt.{decimal}
use Rattle.op_base.specs.declared.fault.Fault.{Fault}
use Rattle.op_base.specs.declared.fault.FaultKind.{FaultKind}
use Rattle.op_base.specs.declared.fault.FaultKind.TheVariants as kind
use Rattle.op_base.specs.Columns.{Row}
use Rattle.flow_graph.specs.declared.route.Choice.{Choice}
use Rattle.flow_graph.specs.declared.state.State.{State}
use Rattle.flow_graph.specs.Charts.{Chart}
use Rattle.flow_rules.specs.declared.verdict.Verdict.{Verdict}
use Rattle.flow_rules.specs.declared.verdict.Verdict.TheVariants.{Accepted, Refused}
use Rattle.flow_score.specs.Scores.{score_text}
use Rattle.flow_score.specs.VerdictText.{verdict_text}

-- a number of rows or faults, up to the limit of counts
abbrev pub count : ℕ → List ℕ
count n = decimal (min n (2 ^ 63 - 1))

abbrev pub count_line : ℕ → ℕ → List ℕ
count_line l n = codes "count " ++ (decimal l ++ (codes " " ++ (count n ++ codes "\n")))

-- how many rows each link has
abbrev pub count_lines : Chart → (ℕ → List Row) → List ℕ
count_lines c whole = flat_map (λ l. count_line l (length (whole l))) (range_with_len 0 (length c.flow.links))

abbrev pub kind_name : FaultKind → List ℕ
kind_name kind.BadRecord = codes "BadRecord"
kind_name kind.Overflow = codes "Overflow"
kind_name kind.ZeroDivisor = codes "ZeroDivisor"
kind_name kind.NullUsed = codes "NullUsed"
kind_name kind.TooLong = codes "TooLong"
kind_name kind.Missing = codes "Missing"
kind_name kind.Unwritable = codes "Unwritable"
kind_name kind.BadBlock = codes "BadBlock"
kind_name kind.Misplaced = codes "Misplaced"
kind_name kind.CountWrong = codes "CountWrong"
kind_name kind.FileTooLong = codes "FileTooLong"

-- a hexadecimal digit in lower case
abbrev pub digit : ℕ → ℕ
digit n = if nat_lt n 10 then 48 + n else 87 + n

-- two digits for each byte, or a dash where there is none
abbrev pub hexadecimal : List ℕ → List ℕ
hexadecimal bytes = flat_map (λ b. digit (b / 16) ∷ digit (b % 16) ∷ []) bytes

abbrev pub bytes_text : List ℕ → List ℕ
bytes_text [] = codes "-"
bytes_text (b ∷ bs) = hexadecimal (b ∷ bs)

abbrev pub faults_line : ℕ → List ℕ
faults_line n = codes "faults " ++ (count n ++ codes "\n")

-- the least fault, up to its bytes
abbrev pub least_head : Fault → List ℕ
least_head f = codes "least op " ++ (decimal f.op ++ (codes " " ++ (kind_name f.kind ++ (codes " " ++ (decimal f.place ++ codes " ")))))

abbrev pub least_line : Fault → List ℕ
least_line f = least_head f ++ (bytes_text f.bytes ++ codes "\n")

-- the score and the verdict, with which the report of a run begins
abbrev pub head : Chart → List State → List Choice → ℕ → List ℕ
head c states choices nodes = score_text c choices nodes ++ verdict_text c (Accepted states choices)

-- the report of a run without faults, from the meaning
abbrev pub report : Chart → List State → List Choice → ℕ → (ℕ → List Row) → List ℕ
report c states choices nodes whole = head c states choices nodes ++ (count_lines c whole ++ codes "status 0\n")

-- the report of a run with so many faults
abbrev pub fault_report : Chart → List State → List Choice → ℕ → ℕ → Fault → List ℕ
fault_report c states choices nodes n least = head c states choices nodes ++ (faults_line n ++ (least_line least ++ codes "status 9\n"))

-- the report of a check, and of a run that is refused
abbrev pub verdict_report : Chart → Verdict → List ℕ
verdict_report c (Accepted states choices) = verdict_text c (Accepted states choices) ++ codes "status 0\n"
verdict_report c (Refused link need have) = verdict_text c (Refused link need have) ++ codes "status 5\n"
