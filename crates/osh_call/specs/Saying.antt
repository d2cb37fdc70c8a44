-- What is said of an answer: its line on err, and its status.
use Rattle.std.specs.Prelude.{◌≡◌, ◌⊎◌, ℕ, List, [], codes, Option, Some, None}
use Rattle.osh_ends.specs.Ends.{usage, unbuilt, bad_flow, bad_config, bad_shape, absent, mismatch, crowded}
use Rattle.osh_ends.specs.Leaves.{line}
use Rattle.osh_call.specs.declared.answer.Answer.{Answer}
use Rattle.osh_call.specs.declared.answer.Answer.TheVariants as answer

abbrev pub err_line : Answer → List ℕ
err_line answer.Usage = line usage
err_line answer.Unbuilt = line unbuilt
err_line (answer.BadFlow at why) = line (bad_flow at why)
err_line (answer.BadConfig at why) = line (bad_config at why)
err_line (answer.BadShape why op) = line (bad_shape why op)
err_line (answer.Absent name) = line (absent name)
err_line answer.Refused = []
err_line answer.Checked = []
err_line (answer.Mismatch link from to) = line (mismatch link from to)
err_line (answer.Crowded players) = line (crowded players)
err_line answer.Done = []
err_line answer.Faulty = []
err_line answer.Device = codes "osh: device\n"
err_line answer.Memory = codes "osh: memory\n"

abbrev pub answer_status : Answer → ℕ
answer_status answer.Usage = 1
answer_status answer.Unbuilt = 8
answer_status (answer.BadFlow at why) = 2
answer_status (answer.BadConfig at why) = 3
answer_status (answer.BadShape why op) = 4
answer_status (answer.Absent name) = 7
answer_status answer.Refused = 5
answer_status answer.Checked = 0
answer_status (answer.Mismatch link from to) = 6
answer_status (answer.Crowded players) = 6
answer_status answer.Done = 0
answer_status answer.Faulty = 9
answer_status answer.Device = 10
answer_status answer.Memory = 12

-- whether the line of an answer has to be made
abbrev pub IsMade : Answer → Type 0
IsMade (answer.BadFlow at why) = Unit {0}
IsMade (answer.BadConfig at why) = Unit {0}
IsMade (answer.BadShape why op) = Unit {0}
IsMade (answer.Absent name) = Unit {0}
IsMade (answer.Mismatch link from to) = Unit {0}
IsMade (answer.Crowded players) = Unit {0}
IsMade a = ⊥

-- the line that was made, or none where none has to be
abbrev pub HasLine : Option (List ℕ) → Answer → Type 0
HasLine (Some text) a = (text ≡ err_line a) × IsMade a
HasLine None a = IsMade a → ⊥

-- the line of an answer whose line hasn't to be made
abbrev pub HasPlain : Answer → List ℕ → Type 0
HasPlain a text = (IsMade a → ⊥) → text ≡ err_line a

-- an answer is said as it is, or as want of memory where there was none for its line
abbrev pub SaidAs : Answer → Answer → Type 0
SaidAs a said = (said ≡ a) ⊎ ((said ≡ answer.Memory) × IsMade a)
