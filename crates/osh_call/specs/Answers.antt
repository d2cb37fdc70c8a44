-- How the code's answers stand for the ends of a call, and what the stages of a call leave to the ones behind them.
use Rattle.std.specs.Prelude.{◌≡◌, ◌⊎◌, ℕ, Bool, IsTrue, List, [], ◌++◌, take}
use Rattle.ds_port.specs.FileMap.{FileMap}
use Rattle.flow_graph.specs.Charts.{Chart}
use Rattle.flow_rules.specs.declared.verdict.Verdict.{Verdict}
use Rattle.osh_ends.specs.Reports.{verdict_report}
use Rattle.osh_call.specs.declared.answer.Answer.{Answer}
use Rattle.osh_call.specs.declared.answer.Answer.TheVariants as answer
use Rattle.osh_ends.specs.Ends.{End, usage, unbuilt, bad_flow, bad_config, bad_shape, absent, refused, checked, mismatch, crowded, done, faulty, verdict_end}
use Rattle.flow_outputs.specs.Outputs.{with_files}
use Rattle.osh_ends.specs.Leaves.{Leaves, Broke, outputs, printed}

-- the answer is that of the end
abbrev pub Answers : Answer → End → Type 0
Answers answer.Usage end = end ≡ usage
Answers answer.Unbuilt end = end ≡ unbuilt
Answers (answer.BadFlow at why) end = end ≡ bad_flow at why
Answers (answer.BadConfig at why) end = end ≡ bad_config at why
Answers (answer.BadShape why op) end = end ≡ bad_shape why op
Answers (answer.Absent name) end = end ≡ absent name
Answers answer.Refused end = (text : List ℕ) × (end ≡ refused text)
Answers answer.Checked end = (text : List ℕ) × (end ≡ checked text)
Answers (answer.Mismatch link from to) end = end ≡ mismatch link from to
Answers (answer.Crowded players) end = end ≡ crowded players
Answers answer.Done end = (files : List (List ℕ × List ℕ)) × (text : List ℕ) × (end ≡ done files text)
Answers answer.Faulty end = (text : List ℕ) × (end ≡ faulty text)
Answers answer.Device end = ⊥
Answers answer.Memory end = ⊥

-- the answer of a call whose words are a command
abbrev pub IsOfCommand : Answer → Type 0
IsOfCommand answer.Usage = ⊥
IsOfCommand answer.Unbuilt = Unit {0}
IsOfCommand (answer.BadFlow at why) = Unit {0}
IsOfCommand (answer.BadConfig at why) = Unit {0}
IsOfCommand (answer.BadShape why op) = Unit {0}
IsOfCommand (answer.Absent name) = Unit {0}
IsOfCommand answer.Refused = Unit {0}
IsOfCommand answer.Checked = Unit {0}
IsOfCommand (answer.Mismatch link from to) = Unit {0}
IsOfCommand (answer.Crowded players) = Unit {0}
IsOfCommand answer.Done = Unit {0}
IsOfCommand answer.Faulty = Unit {0}
IsOfCommand answer.Device = Unit {0}
IsOfCommand answer.Memory = Unit {0}

-- an answer where nothing is printed on out
abbrev pub IsSilent : Answer → Type 0
IsSilent answer.Usage = Unit {0}
IsSilent answer.Unbuilt = Unit {0}
IsSilent (answer.BadFlow at why) = Unit {0}
IsSilent (answer.BadConfig at why) = Unit {0}
IsSilent (answer.BadShape why op) = Unit {0}
IsSilent (answer.Absent name) = Unit {0}
IsSilent answer.Refused = ⊥
IsSilent answer.Checked = ⊥
IsSilent (answer.Mismatch link from to) = Unit {0}
IsSilent (answer.Crowded players) = Unit {0}
IsSilent answer.Done = ⊥
IsSilent answer.Faulty = ⊥
IsSilent answer.Device = ⊥
IsSilent answer.Memory = Unit {0}

-- a call stops with this answer, and has done nothing: a device failed, memory was wanting, or what it comes to leaves nothing
abbrev pub Halts : (End → Type 0) → Answer → Type 0
Halts Comes answer.Usage = Comes usage
Halts Comes answer.Unbuilt = Comes unbuilt
Halts Comes (answer.BadFlow at why) = Comes (bad_flow at why)
Halts Comes (answer.BadConfig at why) = Comes (bad_config at why)
Halts Comes (answer.BadShape why op) = Comes (bad_shape why op)
Halts Comes (answer.Absent name) = Comes (absent name)
Halts Comes answer.Refused = ⊥
Halts Comes answer.Checked = ⊥
Halts Comes (answer.Mismatch link from to) = Comes (mismatch link from to)
Halts Comes (answer.Crowded players) = Comes (crowded players)
Halts Comes answer.Done = ⊥
Halts Comes answer.Faulty = ⊥
Halts Comes answer.Device = Unit {0}
Halts Comes answer.Memory = Unit {0}

-- a call that comes to such an end was served with this answer: it left what the end leaves, or a device failed, or memory was wanting and nothing is left
abbrev pub Serves : (End → Type 0) → FileMap → FileMap → Bool → List ℕ → List ℕ → (files_rose out_rose : Type 0) → Answer → Type 0
Serves Comes old new tells out_old out_new files_rose out_rose a =
    ((end : End) × Comes end × Answers a end × Leaves (with_files old (outputs end)) new tells out_old out_new (printed end))
    ⊎ (((a ≡ answer.Device) × Broke Comes old new tells out_old out_new files_rose out_rose)
    ⊎ ((a ≡ answer.Memory) × Leaves old new tells out_old out_new []))

-- the report of a verdict is on out, or a part of it where out failed
abbrev pub Tells : Chart → Verdict → Bool → List ℕ → List ℕ → (out_rose : Type 0) → Answer → Type 0
Tells c v tells out_old out_new out_rose a =
    (Answers a (verdict_end c v) × (IsTrue tells → out_new ≡ out_old ++ verdict_report c v))
    ⊎ (((a ≡ answer.Device) × out_rose × ((n : ℕ) × (IsTrue tells → out_new ≡ out_old ++ take n (verdict_report c v))))
    ⊎ ((a ≡ answer.Memory) × (out_new ≡ out_old)))
