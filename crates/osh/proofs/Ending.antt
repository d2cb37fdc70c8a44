-- What a call leaves, and its status, by how it was served and what was said of it.
use Rattle.std.proofs.Common.{◌≡◌, ◌⊎◌, ◌≤◌, ◌∙◌, inl, inr, ℕ, Bool, IsTrue, List, [], ◌++◌, codes, sym, ap, subst, refl, arith}
use Rattle.ds_port.specs.FileMap.{FileMap}
use Rattle.osh_call.specs.declared.answer.Answer.{Answer}
use Rattle.osh_call.specs.declared.answer.Answer.TheVariants as answer
use Rattle.osh_call.specs.Answers.{Answers, Serves}
use Rattle.osh_call.specs.Saying.{err_line, answer_status, IsMade, SaidAs}
use Rattle.osh_ends.specs.Ends.{End, ComesTo, OneStatus, end_status, absent, bad_config, bad_flow, bad_shape, crowded, mismatch}
use Rattle.flow_outputs.specs.Outputs.{with_files}
use Rattle.osh_ends.specs.Leaves.{Broke, Ended, IsComplete, IsExact, Leaves, Runs, Tells, line, outputs, printed}
use Rattle.osh.specs.Calls.{IsStatus}

-- an answer's line and status are those of its end
line_is : (a : Answer) (end : End) → Answers a end → err_line a ≡ line end
line_is answer.Usage end h = ap line (sym h)
line_is answer.Unbuilt end h = ap line (sym h)
line_is (answer.BadFlow at why) end h = ap line (sym h)
line_is (answer.BadConfig at why) end h = ap line (sym h)
line_is (answer.BadShape why op) end h = ap line (sym h)
line_is (answer.Absent name) end h = ap line (sym h)
line_is answer.Refused end h = ap line (sym (h.1))
line_is answer.Checked end h = ap line (sym (h.1))
line_is (answer.Mismatch link from to) end h = ap line (sym h)
line_is (answer.Crowded players) end h = ap line (sym h)
line_is answer.Done end h = ap line (sym (h.2))
line_is answer.Faulty end h = ap line (sym (h.1))
line_is answer.Device end h = absurd h
line_is answer.Memory end h = absurd h

status_is : (a : Answer) (end : End) → Answers a end → answer_status a ≡ end_status end
status_is answer.Usage end h = ap end_status (sym h)
status_is answer.Unbuilt end h = ap end_status (sym h)
status_is (answer.BadFlow at why) end h = ap end_status (sym h)
status_is (answer.BadConfig at why) end h = ap end_status (sym h)
status_is (answer.BadShape why op) end h = ap end_status (sym h)
status_is (answer.Absent name) end h = ap end_status (sym h)
status_is answer.Refused end h = ap end_status (sym (h.1))
status_is answer.Checked end h = ap end_status (sym (h.1))
status_is (answer.Mismatch link from to) end h = ap end_status (sym h)
status_is (answer.Crowded players) end h = ap end_status (sym h)
status_is answer.Done end h = ap end_status (sym (h.2))
status_is answer.Faulty end h = ap end_status (sym (h.1))
status_is answer.Device end h = absurd h
status_is answer.Memory end h = absurd h

-- an end whose line has to be made leaves nothing
leaves_none : (a : Answer) (end : End) (old new : FileMap) (tells : Bool) (out_old out_new : List ℕ) → IsMade a → Answers a end → Leaves (with_files old (outputs end)) new tells out_old out_new (printed end) → Leaves old new tells out_old out_new []
leaves_none (answer.BadFlow at why) end old new tells out_old out_new m h l = subst (λ e. Leaves (with_files old (outputs e)) new tells out_old out_new (printed e)) h l
leaves_none (answer.BadConfig at why) end old new tells out_old out_new m h l = subst (λ e. Leaves (with_files old (outputs e)) new tells out_old out_new (printed e)) h l
leaves_none (answer.BadShape why op) end old new tells out_old out_new m h l = subst (λ e. Leaves (with_files old (outputs e)) new tells out_old out_new (printed e)) h l
leaves_none (answer.Absent name) end old new tells out_old out_new m h l = subst (λ e. Leaves (with_files old (outputs e)) new tells out_old out_new (printed e)) h l
leaves_none (answer.Mismatch link from to) end old new tells out_old out_new m h l = subst (λ e. Leaves (with_files old (outputs e)) new tells out_old out_new (printed e)) h l
leaves_none (answer.Crowded players) end old new tells out_old out_new m h l = subst (λ e. Leaves (with_files old (outputs e)) new tells out_old out_new (printed e)) h l
leaves_none answer.Usage end old new tells out_old out_new m h l = absurd m
leaves_none answer.Unbuilt end old new tells out_old out_new m h l = absurd m
leaves_none answer.Refused end old new tells out_old out_new m h l = absurd m
leaves_none answer.Checked end old new tells out_old out_new m h l = absurd m
leaves_none answer.Done end old new tells out_old out_new m h l = absurd m
leaves_none answer.Faulty end old new tells out_old out_new m h l = absurd m
leaves_none answer.Device end old new tells out_old out_new m h l = absurd m
leaves_none answer.Memory end old new tells out_old out_new m h l = absurd m

-- what was said without a change
as_it_is : (words : List (List ℕ)) (old new : FileMap) (tells : Bool) (out_old out_new : List ℕ) (files_rose out_rose : Type 0) (a : Answer) → Serves (ComesTo words old) old new tells out_old out_new files_rose out_rose a → Runs words old new tells out_old out_new files_rose out_rose (err_line a) (answer_status a)
as_it_is words old new tells out_old out_new files_rose out_rose a (inl s) =
    inl (record { end = s.0; comes = s.1; leaves = s.3; err_is = line_is a s.0 s.2; status_is = status_is a s.0 s.2 })
as_it_is words old new tells out_old out_new files_rose out_rose a (inr (inl s)) = inr (inl (ap answer_status s.0, ap err_line s.0, s.1))
as_it_is words old new tells out_old out_new files_rose out_rose a (inr (inr s)) = inr (inr (ap answer_status s.0, ap err_line s.0, s.1))

-- want of memory for a line
for_a_line : (words : List (List ℕ)) (old new : FileMap) (tells : Bool) (out_old out_new : List ℕ) (files_rose out_rose : Type 0) (a : Answer) → IsMade a → Serves (ComesTo words old) old new tells out_old out_new files_rose out_rose a → Runs words old new tells out_old out_new files_rose out_rose (err_line answer.Memory) 12
for_a_line words old new tells out_old out_new files_rose out_rose a m (inl s) = inr (inr (refl, refl, leaves_none a s.0 old new tells out_old out_new m s.2 s.3))
for_a_line words old new tells out_old out_new files_rose out_rose a m (inr (inl s)) = absurd (subst IsMade s.0 m)
for_a_line words old new tells out_old out_new files_rose out_rose a m (inr (inr s)) = absurd (subst IsMade s.0 m)

pub said_runs : (words : List (List ℕ)) (old new : FileMap) (tells : Bool) (out_old out_new : List ℕ) (files_rose out_rose : Type 0) (a said : Answer) → Serves (ComesTo words old) old new tells out_old out_new files_rose out_rose a → SaidAs a said → Runs words old new tells out_old out_new files_rose out_rose (err_line said) (answer_status said)
said_runs words old new tells out_old out_new files_rose out_rose a said s (inl e) =
    subst (λ b. Runs words old new tells out_old out_new files_rose out_rose (err_line b) (answer_status b)) (sym e) (as_it_is words old new tells out_old out_new files_rose out_rose a s)
said_runs words old new tells out_old out_new files_rose out_rose a said s (inr e) =
    subst (λ b. Runs words old new tells out_old out_new files_rose out_rose (err_line b) (answer_status b)) (sym (e.0)) (for_a_line words old new tells out_old out_new files_rose out_rose a e.1 s)

-- a call has the one status of what it comes to
pub runs_exact : (words : List (List ℕ)) (old new : FileMap) (tells : Bool) (out_old out_new : List ℕ) (files_rose out_rose : Type 0) (text : List ℕ) (status : ℕ) → OneStatus → Runs words old new tells out_old out_new files_rose out_rose text status → IsExact words old status
runs_exact words old new tells out_old out_new files_rose out_rose text status one (inl e) = λ end h. inl (e.status_is ∙ one words old e.end end e.comes h)
runs_exact words old new tells out_old out_new files_rose out_rose text status one (inr (inl b)) = λ end h. inr (inl b.0)
runs_exact words old new tells out_old out_new files_rose out_rose text status one (inr (inr m)) = λ end h. inr (inr m.0)

broke_rose : (Comes : End → Type 0) (old new : FileMap) (tells : Bool) (out_old out_new : List ℕ) (files_rose out_rose : Type 0) → Broke Comes old new tells out_old out_new files_rose out_rose → files_rose ⊎ out_rose
broke_rose Comes old new tells out_old out_new files_rose out_rose (inl b) = inl b.1
broke_rose Comes old new tells out_old out_new files_rose out_rose (inr (inl b)) = inl b.7
broke_rose Comes old new tells out_old out_new files_rose out_rose (inr (inr b)) = inr b.4

pub runs_complete : (words : List (List ℕ)) (old new : FileMap) (tells : Bool) (out_old out_new : List ℕ) (files_rose out_rose : Type 0) (text : List ℕ) (status : ℕ) → OneStatus → Runs words old new tells out_old out_new files_rose out_rose text status → IsComplete words old (files_rose ⊎ out_rose) status
runs_complete words old new tells out_old out_new files_rose out_rose text status one (inl e) = λ quiet end h. inl (e.status_is ∙ one words old e.end end e.comes h)
runs_complete words old new tells out_old out_new files_rose out_rose text status one (inr (inl b)) = λ quiet end h. absurd (quiet (broke_rose (ComesTo words old) old new tells out_old out_new files_rose out_rose b.2))
runs_complete words old new tells out_old out_new files_rose out_rose text status one (inr (inr m)) = λ quiet end h. inr m.0

pub is_status : (a : Answer) → IsStatus (answer_status a)
is_status answer.Usage = inl (omega arith)
is_status answer.Unbuilt = inl (omega arith)
is_status (answer.BadFlow at why) = inl (omega arith)
is_status (answer.BadConfig at why) = inl (omega arith)
is_status (answer.BadShape why op) = inl (omega arith)
is_status (answer.Absent name) = inl (omega arith)
is_status answer.Refused = inl (omega arith)
is_status answer.Checked = inl (omega arith)
is_status (answer.Mismatch link from to) = inl (omega arith)
is_status (answer.Crowded players) = inl (omega arith)
is_status answer.Done = inl (omega arith)
is_status answer.Faulty = inl (omega arith)
is_status answer.Device = inl (omega arith)
is_status answer.Memory = inr refl

is_device : (a : Answer) → answer_status a ≡ 10 → a ≡ answer.Device
is_device answer.Device h = refl
is_device answer.Usage h = absurd (omega (arith, h))
is_device answer.Unbuilt h = absurd (omega (arith, h))
is_device (answer.BadFlow at why) h = absurd (omega (arith, h))
is_device (answer.BadConfig at why) h = absurd (omega (arith, h))
is_device (answer.BadShape why op) h = absurd (omega (arith, h))
is_device (answer.Absent name) h = absurd (omega (arith, h))
is_device answer.Refused h = absurd (omega (arith, h))
is_device answer.Checked h = absurd (omega (arith, h))
is_device (answer.Mismatch link from to) h = absurd (omega (arith, h))
is_device (answer.Crowded players) h = absurd (omega (arith, h))
is_device answer.Done h = absurd (omega (arith, h))
is_device answer.Faulty h = absurd (omega (arith, h))
is_device answer.Memory h = absurd (omega (arith, h))

-- what is said to be a device's fault was answered so
pub said_device : (a said : Answer) → SaidAs a said → answer_status said ≡ 10 → a ≡ answer.Device
said_device a said (inl e) h = sym e ∙ is_device said h
said_device a said (inr e) h = let same = sym (e.0) ∙ is_device said h in absurd (cc same)

-- the whole call, from how it was served and what was said
pub said_calls : (words : List (List ℕ)) (old new : FileMap) (tells : Bool) (out_old out_new : List ℕ) (files_rose out_rose : Type 0) (err_tells : Bool) (err_before err_now : ℕ) (err_old err_new : List ℕ) (a said : Answer) (status : ℕ)
    → Serves (ComesTo words old) old new tells out_old out_new files_rose out_rose a → SaidAs a said → status ≡ answer_status said → (IsTrue err_tells → Tells (err_line said) err_before err_now err_old err_new)
    → (said_line : List ℕ) × Runs words old new tells out_old out_new files_rose out_rose said_line status × (IsTrue err_tells → Tells said_line err_before err_now err_old err_new)
said_calls words old new tells out_old out_new files_rose out_rose err_tells err_before err_now err_old err_new a said status s said_as is told =
    (err_line said, subst (Runs words old new tells out_old out_new files_rose out_rose (err_line said)) (sym is) (said_runs words old new tells out_old out_new files_rose out_rose a said s said_as), told)
