-- How a call is served by what its stages answer.
use Rattle.std.proofs.Common.{◌≡◌, ◌++◌, ◌∙◌, inl, inr, ℕ, Bool, IsTrue, List, [], take, ap, sym, subst, refl, append-nil, Some}
use Rattle.ds_port.specs.FileMap.{FileMap, file_at}
use Rattle.flow_graph.specs.Charts.{Chart}
use Rattle.flow_rules.specs.declared.verdict.Verdict.{Verdict}
use Rattle.flow_rules.specs.declared.verdict.Verdict.TheVariants.{Accepted, Refused}
use Rattle.flow_rules.specs.Verdicts.{IsVerdict}
use Rattle.osh_ends.specs.Ends.{End, usage, unbuilt, bad_flow, bad_config, bad_shape, absent, mismatch, crowded, verdict_end, Checks, ChecksFile, FlowIn, NodesIn, Shapes}
use Rattle.flow_outputs.specs.Outputs.{with_files}
use Rattle.osh_ends.specs.Leaves.{Broke, outputs, printed}
use Rattle.osh_ends.specs.Steps.{Reads}
use Rattle.osh_ends.specs.Reports.{verdict_report}
use Rattle.osh_call.specs.declared.answer.Answer.{Answer}
use Rattle.osh_call.specs.declared.answer.Answer.TheVariants as answer
use Rattle.osh_call.specs.Answers.{Halts, Serves, Tells}
use Rattle.flow_graph.specs.declared.flow.Flow.{Flow}
use Rattle.osh_call.specs.Stages.{Has, IsFlowIn, IsNodesIn, IsShapeIn, FileStops, FlowInStops, NodesInStops, ShapeStops, ShapeFileStops}

nothing_more : {old new : List ℕ} (tells : Bool) → new ≡ old → IsTrue tells → new ≡ old ++ []
nothing_more {old} tells e t = e ∙ sym (append-nil old)

-- a call that stops and has done nothing
pub halts_serve : (Comes : End → Type 0) (old new : FileMap) (tells : Bool) (out_old out_new : List ℕ) (files_rose out_rose : Type 0) (a : Answer) → Halts Comes a → new ≡ old → out_new ≡ out_old → (a ≡ answer.Device → files_rose) → Serves Comes old new tells out_old out_new files_rose out_rose a
halts_serve Comes old new tells out_old out_new files_rose out_rose answer.Usage h f o r = inl (usage, h, refl, record { files_are = f; out = nothing_more tells o })
halts_serve Comes old new tells out_old out_new files_rose out_rose answer.Unbuilt h f o r = inl (unbuilt, h, refl, record { files_are = f; out = nothing_more tells o })
halts_serve Comes old new tells out_old out_new files_rose out_rose (answer.BadFlow at why) h f o r = inl (bad_flow at why, h, refl, record { files_are = f; out = nothing_more tells o })
halts_serve Comes old new tells out_old out_new files_rose out_rose (answer.BadConfig at why) h f o r = inl (bad_config at why, h, refl, record { files_are = f; out = nothing_more tells o })
halts_serve Comes old new tells out_old out_new files_rose out_rose (answer.BadShape why op) h f o r = inl (bad_shape why op, h, refl, record { files_are = f; out = nothing_more tells o })
halts_serve Comes old new tells out_old out_new files_rose out_rose (answer.Absent name) h f o r = inl (absent name, h, refl, record { files_are = f; out = nothing_more tells o })
halts_serve Comes old new tells out_old out_new files_rose out_rose (answer.Mismatch link from to) h f o r = inl (mismatch link from to, h, refl, record { files_are = f; out = nothing_more tells o })
halts_serve Comes old new tells out_old out_new files_rose out_rose (answer.Crowded players) h f o r = inl (crowded players, h, refl, record { files_are = f; out = nothing_more tells o })
halts_serve Comes old new tells out_old out_new files_rose out_rose answer.Refused h f o r = absurd h
halts_serve Comes old new tells out_old out_new files_rose out_rose answer.Checked h f o r = absurd h
halts_serve Comes old new tells out_old out_new files_rose out_rose answer.Done h f o r = absurd h
halts_serve Comes old new tells out_old out_new files_rose out_rose answer.Faulty h f o r = absurd h
halts_serve Comes old new tells out_old out_new files_rose out_rose answer.Device h f o r = inr (inl (refl, inl (record { files_are = f; out = nothing_more tells o }, r refl)))
halts_serve Comes old new tells out_old out_new files_rose out_rose answer.Memory h f o r = inr (inr (refl, record { files_are = f; out = nothing_more tells o }))

-- what a check comes to
check_comes : (files : FileMap) (name : List ℕ) (c : Chart) (v : Verdict) → IsShapeIn files name c → IsVerdict c v → ChecksFile files name (verdict_end c v)
check_comes files name c v s h = inr (s.has.text, s.has.found, inr (s.flow, s.has.is.spelled, inr (s.has.is.built, inr (c, s.shape, (v, h, refl)))))

no_outputs : (c : Chart) (v : Verdict) → outputs (verdict_end c v) ≡ []
no_outputs c (Accepted states choices) = refl
no_outputs c (Refused link need have) = refl

is_printed : (c : Chart) (v : Verdict) → printed (verdict_end c v) ≡ verdict_report c v
is_printed c (Accepted states choices) = refl
is_printed c (Refused link need have) = refl

-- the files of an end that makes none
kept : (old new : FileMap) (c : Chart) (v : Verdict) → new ≡ old → new ≡ with_files old (outputs (verdict_end c v))
kept old new c v f = f ∙ ap (with_files old) (sym (no_outputs c v))

-- a verdict is told that a call comes to
pub verdict_serves : (Comes : End → Type 0) (old new : FileMap) (c : Chart) (v : Verdict) (tells : Bool) (out_old out_new : List ℕ) (files_rose out_rose : Type 0) (a : Answer) → Comes (verdict_end c v) → new ≡ old → Tells c v tells out_old out_new out_rose a → Serves Comes old new tells out_old out_new files_rose out_rose a
verdict_serves Comes old new c v tells out_old out_new files_rose out_rose a comes f (inl (is, out)) =
    inl (verdict_end c v, comes, is, record { files_are = kept old new c v f; out = λ t. out t ∙ ap (λ text. out_old ++ text) (sym (is_printed c v)) })
verdict_serves Comes old new c v tells out_old out_new files_rose out_rose a comes f (inr (inl (is, rose, m))) =
    inr (inl (is, inr (inr (verdict_end c v, m.0, comes, record { files_are = kept old new c v f; out = λ t. m.1 t ∙ ap (λ text. out_old ++ take (m.0) text) (sym (is_printed c v)) }, rose))))
verdict_serves Comes old new c v tells out_old out_new files_rose out_rose a comes f (inr (inr (is, out))) =
    inr (inr (is, record { files_are = f; out = nothing_more tells out }))

pub tells_serve : (old new : FileMap) (name : List ℕ) (c : Chart) (v : Verdict) (tells : Bool) (out_old out_new : List ℕ) (files_rose out_rose : Type 0) (a : Answer) → IsShapeIn old name c → IsVerdict c v → new ≡ old → Tells c v tells out_old out_new out_rose a → Serves (ChecksFile old name) old new tells out_old out_new files_rose out_rose a
tells_serve old new name c v tells out_old out_new files_rose out_rose a s h f t =
    verdict_serves (ChecksFile old name) old new c v tells out_old out_new files_rose out_rose a (check_comes old name c v s h) f t

-- what a call comes to by way of another
broke_by : (P Q : End → Type 0) (old new : FileMap) (tells : Bool) (out_old out_new : List ℕ) (files_rose out_rose : Type 0) → ((end : End) → P end → Q end) → Broke P old new tells out_old out_new files_rose out_rose → Broke Q old new tells out_old out_new files_rose out_rose
broke_by P Q old new tells out_old out_new files_rose out_rose f (inl b) = inl b
broke_by P Q old new tells out_old out_new files_rose out_rose f (inr (inl b)) = inr (inl (b.0, b.1, b.2, b.3, f b.0 b.4, b.5, b.6, b.7))
broke_by P Q old new tells out_old out_new files_rose out_rose f (inr (inr b)) = inr (inr (b.0, b.1, f b.0 b.2, b.3, b.4))

pub serves_by : (P Q : End → Type 0) (old new : FileMap) (tells : Bool) (out_old out_new : List ℕ) (files_rose out_rose : Type 0) (a : Answer) → ((end : End) → P end → Q end) → Serves P old new tells out_old out_new files_rose out_rose a → Serves Q old new tells out_old out_new files_rose out_rose a
serves_by P Q old new tells out_old out_new files_rose out_rose a f (inl s) = inl (s.0, f s.0 s.1, s.2, s.3)
serves_by P Q old new tells out_old out_new files_rose out_rose a f (inr (inl s)) = inr (inl (s.0, broke_by P Q old new tells out_old out_new files_rose out_rose f s.1))
serves_by P Q old new tells out_old out_new files_rose out_rose a f (inr (inr s)) = inr (inr s)

pub halts_by : (P Q : End → Type 0) (a : Answer) → ((end : End) → P end → Q end) → Halts P a → Halts Q a
halts_by P Q answer.Usage f h = f usage h
halts_by P Q answer.Unbuilt f h = f unbuilt h
halts_by P Q (answer.BadFlow at why) f h = f (bad_flow at why) h
halts_by P Q (answer.BadConfig at why) f h = f (bad_config at why) h
halts_by P Q (answer.BadShape why op) f h = f (bad_shape why op) h
halts_by P Q (answer.Absent name) f h = f (absent name) h
halts_by P Q answer.Refused f h = absurd h
halts_by P Q answer.Checked f h = absurd h
halts_by P Q (answer.Mismatch link from to) f h = f (mismatch link from to) h
halts_by P Q (answer.Crowded players) f h = f (crowded players) h
halts_by P Q answer.Done f h = absurd h
halts_by P Q answer.Faulty f h = absurd h
halts_by P Q answer.Device f h = tt
halts_by P Q answer.Memory f h = tt

-- ---- stages that stop: what one says is what the call comes to

halts_text : (files : FileMap) (name : List ℕ) (next : List ℕ → End → Type 0) (a : Answer) (text : List ℕ) → file_at files name ≡ Some text → Halts (next text) a → Halts (Reads (file_at files name) (absent name) next) a
halts_text files name next a text found h = halts_by (next text) (Reads (file_at files name) (absent name) next) a (λ end n. inr (text, found, n)) h

-- a file stops a call that reads it
pub file_halts : (files : FileMap) (name : List ℕ) (P : List ℕ → Answer → Type 0) (next : List ℕ → End → Type 0) (a : Answer)
    → ((text : List ℕ) → P text a → Halts (next text) a) → FileStops files name P a → Halts (Reads (file_at files name) (absent name) next) a
file_halts files name P next (answer.Absent missing) f h = subst (λ m. Reads (file_at files name) (absent name) next (absent m)) (sym (h.0)) (inl (h.1, refl))
file_halts files name P next answer.Device f h = tt
file_halts files name P next answer.Memory f h = tt
file_halts files name P next answer.Usage f h = halts_text files name next answer.Usage h.text h.found (f h.text h.is)
file_halts files name P next answer.Unbuilt f h = halts_text files name next answer.Unbuilt h.text h.found (f h.text h.is)
file_halts files name P next (answer.BadFlow at why) f h = halts_text files name next (answer.BadFlow at why) h.text h.found (f h.text h.is)
file_halts files name P next (answer.BadConfig at why) f h = halts_text files name next (answer.BadConfig at why) h.text h.found (f h.text h.is)
file_halts files name P next (answer.BadShape why op) f h = halts_text files name next (answer.BadShape why op) h.text h.found (f h.text h.is)
file_halts files name P next answer.Refused f h = absurd (f h.text h.is)
file_halts files name P next answer.Checked f h = absurd (f h.text h.is)
file_halts files name P next (answer.Mismatch link from to) f h = halts_text files name next (answer.Mismatch link from to) h.text h.found (f h.text h.is)
file_halts files name P next (answer.Crowded players) f h = halts_text files name next (answer.Crowded players) h.text h.found (f h.text h.is)
file_halts files name P next answer.Done f h = absurd (f h.text h.is)
file_halts files name P next answer.Faulty f h = absurd (f h.text h.is)

flow_in_halts : (text : List ℕ) (next : Flow → End → Type 0) (a : Answer) → FlowInStops text a → Halts (FlowIn text next) a
flow_in_halts text next (answer.BadFlow at why) h = inl (at, why, h, refl)
flow_in_halts text next answer.Unbuilt h = inr (h.0, h.1, inl (h.2, refl))
flow_in_halts text next answer.Memory h = tt
flow_in_halts text next answer.Device h = tt
flow_in_halts text next (answer.Absent missing) h = absurd h
flow_in_halts text next answer.Usage h = absurd h
flow_in_halts text next (answer.BadConfig at why) h = absurd h
flow_in_halts text next (answer.BadShape why op) h = absurd h
flow_in_halts text next answer.Refused h = absurd h
flow_in_halts text next answer.Checked h = absurd h
flow_in_halts text next (answer.Mismatch link from to) h = absurd h
flow_in_halts text next (answer.Crowded players) h = absurd h
flow_in_halts text next answer.Done h = absurd h
flow_in_halts text next answer.Faulty h = absurd h

pub nodes_in_halts : (text : List ℕ) (next : ℕ → End → Type 0) (a : Answer) → NodesInStops text a → Halts (NodesIn text next) a
nodes_in_halts text next (answer.BadConfig at why) h = inl (at, why, h, refl)
nodes_in_halts text next answer.Memory h = tt
nodes_in_halts text next answer.Device h = tt
nodes_in_halts text next (answer.Absent missing) h = absurd h
nodes_in_halts text next answer.Usage h = absurd h
nodes_in_halts text next answer.Unbuilt h = absurd h
nodes_in_halts text next (answer.BadFlow at why) h = absurd h
nodes_in_halts text next (answer.BadShape why op) h = absurd h
nodes_in_halts text next answer.Refused h = absurd h
nodes_in_halts text next answer.Checked h = absurd h
nodes_in_halts text next (answer.Mismatch link from to) h = absurd h
nodes_in_halts text next (answer.Crowded players) h = absurd h
nodes_in_halts text next answer.Done h = absurd h
nodes_in_halts text next answer.Faulty h = absurd h

pub shape_halts : (flow : Flow) (next : Chart → End → Type 0) (a : Answer) → ShapeStops flow a → Halts (Shapes flow next) a
shape_halts flow next (answer.BadShape why op) h = inl (why, op, h, refl)
shape_halts flow next answer.Memory h = tt
shape_halts flow next answer.Device h = tt
shape_halts flow next (answer.Absent missing) h = absurd h
shape_halts flow next (answer.BadFlow at why) h = absurd h
shape_halts flow next answer.Unbuilt h = absurd h
shape_halts flow next answer.Usage h = absurd h
shape_halts flow next (answer.BadConfig at why) h = absurd h
shape_halts flow next answer.Refused h = absurd h
shape_halts flow next answer.Checked h = absurd h
shape_halts flow next (answer.Mismatch link from to) h = absurd h
shape_halts flow next (answer.Crowded players) h = absurd h
shape_halts flow next answer.Done h = absurd h
shape_halts flow next answer.Faulty h = absurd h

-- ---- how a call goes on behind a stage

-- the flow in a file
pub flow_comes : (files : FileMap) (name : List ℕ) (flow : Flow) (next : Flow → End → Type 0) → Has files name (λ text. IsFlowIn text flow) → (end : End) → next flow end → Reads (file_at files name) (absent name) (λ text. FlowIn text next) end
flow_comes files name flow next s end n = inr (s.text, s.found, inr (flow, s.is.spelled, inr (s.is.built, n)))

pub flow_halts : (files : FileMap) (name : List ℕ) (next : Flow → End → Type 0) (a : Answer) → FileStops files name FlowInStops a → Halts (Reads (file_at files name) (absent name) (λ text. FlowIn text next)) a
flow_halts files name next a h = file_halts files name FlowInStops (λ text. FlowIn text next) a (λ text s. flow_in_halts text next a s) h

-- the number of nodes of the configuration in a file
pub nodes_come : (files : FileMap) (name : List ℕ) (nodes : ℕ) (next : ℕ → End → Type 0) → Has files name (λ text. IsNodesIn text nodes) → (end : End) → next nodes end → Reads (file_at files name) (absent name) (λ text. NodesIn text next) end
nodes_come files name nodes next s end n = inr (s.text, s.found, inr (s.is.config, s.is.spelled, subst (λ k. next k end) s.is.count n))

pub nodes_halt : (files : FileMap) (name : List ℕ) (next : ℕ → End → Type 0) (a : Answer) → FileStops files name NodesInStops a → Halts (Reads (file_at files name) (absent name) (λ text. NodesIn text next)) a
nodes_halt files name next a h = file_halts files name NodesInStops (λ text. NodesIn text next) a (λ text s. nodes_in_halts text next a s) h

pub check_halts : (files : FileMap) (name : List ℕ) (a : Answer) → ShapeFileStops files name a → Halts (ChecksFile files name) a
check_halts files name a (inl h) = flow_halts files name (λ flow. Shapes flow Checks) a h
check_halts files name a (inr h) =
    halts_by (Shapes h.0 Checks) (ChecksFile files name) a (flow_comes files name h.0 (λ flow. Shapes flow Checks) h.1) (shape_halts h.0 Checks a h.2)
