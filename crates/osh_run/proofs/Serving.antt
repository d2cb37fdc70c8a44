-- How a call is served by a run of an accepted flow.
use Rattle.std.proofs.Common.{◌≡◌, ◌≤◌, inl, inr, refl, sym, subst, ℕ, Bool, List, None}
use Rattle.ds_port.specs.Causes.{Rose}
use Rattle.ds_port.specs.FileMap.{FileMap}
use Rattle.flow_graph.specs.declared.route.Choice.{Choice}
use Rattle.flow_graph.specs.declared.state.State.{State}
use Rattle.flow_graph.specs.Charts.{Chart}
use Rattle.flow_rules.specs.declared.verdict.Verdict.{Verdict}
use Rattle.flow_rules.specs.declared.verdict.Verdict.TheVariants.{Accepted, Refused}
use Rattle.flow_rules.specs.declared.need.Need.{Need}
use Rattle.flow_rules.specs.Verdicts.{IsVerdict}
use Rattle.flow_score.specs.Seating.{Seats}
use Rattle.osh_call.specs.declared.answer.Answer.{Answer}
use Rattle.osh_call.specs.declared.answer.Answer.TheVariants as answer
use Rattle.osh_call.specs.Answers.{Halts, Serves, Tells}
use Rattle.osh_call.proofs.Serving.{halts_serve, serves_by, verdict_serves}
use Rattle.osh_ends.specs.Ends.{End, AcceptedRuns, RunsFile, RunsTo, SeatsOn, done, faulty, verdict_end}
use Rattle.osh_ends.specs.FlowFiles.{first_missing}
use Rattle.osh_run.proofs.Stopping.{verdict_comes}
use Rattle.osh_run.specs.Stages.{IsPrepared, answer_of}
use Rattle.run_finish.specs.declared.ending.Ending.{Ending}
use Rattle.run_finish.specs.declared.ending.Ending.TheVariants as ending
use Rattle.run_finish.proofs.Closing.{rose_later}
use Rattle.run_finish.specs.Finished.{Ends}

ends_serve : (Comes : End → Type 0) (old new : FileMap) (c : Chart) (nodes : ℕ) (states : List State) (choices : List Choice) (tells : Bool) (out_old out_new : List ℕ) (files_rose out_rose : Type 0) (e : Ending)
    → ((end : End) → RunsTo old c nodes states choices end → Comes end) → Ends old new c nodes states choices tells out_old out_new files_rose out_rose e → Serves Comes old new tells out_old out_new files_rose out_rose (answer_of e)
ends_serve Comes old new c nodes states choices tells out_old out_new files_rose out_rose ending.Done f d = inl (done d.0 d.1, f (done d.0 d.1) d.2, (d.0, d.1, refl), d.3)
ends_serve Comes old new c nodes states choices tells out_old out_new files_rose out_rose ending.Faulty f d = inl (faulty d.0, f (faulty d.0) d.1, (d.0, refl), d.2)
ends_serve Comes old new c nodes states choices tells out_old out_new files_rose out_rose ending.Device f (inl d) = inr (inl (refl, inl d))
ends_serve Comes old new c nodes states choices tells out_old out_new files_rose out_rose ending.Device f (inr (inl d)) = inr (inl (refl, inr (inl (d.0, d.1, d.2, d.3, f d.0 d.4, d.5, d.6, d.7))))
ends_serve Comes old new c nodes states choices tells out_old out_new files_rose out_rose ending.Device f (inr (inr d)) = inr (inl (refl, inr (inr (d.0, d.1, f d.0 d.2, d.3, d.4))))
ends_serve Comes old new c nodes states choices tells out_old out_new files_rose out_rose ending.Memory f d = inr (inr (refl, d))

-- a run that was seated
pub run_serves : (old new : FileMap) (c : Chart) (nodes players : ℕ) (v : Verdict) (states : List State) (choices : List Choice) (tells : Bool) (out_old out_new : List ℕ) (files_rose out_rose : Type 0) (e : Ending)
    → v ≡ Accepted states choices → Seats c choices nodes players → Ends old new c nodes states choices tells out_old out_new files_rose out_rose e → Serves (AcceptedRuns old c nodes v) old new tells out_old out_new files_rose out_rose (answer_of e)
run_serves old new c nodes players v states choices tells out_old out_new files_rose out_rose e is seats d =
    subst (λ w. Serves (AcceptedRuns old c nodes w) old new tells out_old out_new files_rose out_rose (answer_of e)) (sym is)
    (ends_serve (AcceptedRuns old c nodes (Accepted states choices)) old new c nodes states choices tells out_old out_new files_rose out_rose e (λ end r. inr (inr (players, seats, r))) d)

seated_by : (c : Chart) (choices : List Choice) (nodes : ℕ) (next : End → Type 0) (end : End) → SeatsOn c choices nodes (λ _. ⊥) end → SeatsOn c choices nodes next end
seated_by c choices nodes next end (inl s) = inl s
seated_by c choices nodes next end (inr (inl s)) = inr (inl s)
seated_by c choices nodes next end (inr (inr s)) = absurd s.2

-- a run that can't be seated
pub seats_serve : (old new : FileMap) (c : Chart) (nodes : ℕ) (v : Verdict) (states : List State) (choices : List Choice) (tells : Bool) (out_old out_new : List ℕ) (files_rose out_rose : Type 0) (a : Answer)
    → v ≡ Accepted states choices → Halts (SeatsOn c choices nodes (λ _. ⊥)) a → new ≡ old → out_new ≡ out_old → (a ≡ answer.Device → files_rose) → Serves (AcceptedRuns old c nodes v) old new tells out_old out_new files_rose out_rose a
seats_serve old new c nodes v states choices tells out_old out_new files_rose out_rose a is h f o r =
    subst (λ w. Serves (AcceptedRuns old c nodes w) old new tells out_old out_new files_rose out_rose a) (sym is)
    (serves_by (SeatsOn c choices nodes (λ _. ⊥)) (AcceptedRuns old c nodes (Accepted states choices)) old new tells out_old out_new files_rose out_rose a (seated_by c choices nodes (RunsTo old c nodes states choices))
    (halts_serve (SeatsOn c choices nodes (λ _. ⊥)) old new tells out_old out_new files_rose out_rose a h f o r))

-- a count that rose later rose
rose_before : (P : End → Type 0) (old new : FileMap) (tells : Bool) (out_old out_new : List ℕ) (before between now : ℕ) (out_rose : Type 0) (a : Answer) → before ≤ between → Serves P old new tells out_old out_new (Rose between now) out_rose a → Serves P old new tells out_old out_new (Rose before now) out_rose a
rose_before P old new tells out_old out_new before between now out_rose a h (inl s) = inl s
rose_before P old new tells out_old out_new before between now out_rose a h (inr (inl (is, inl (l, r)))) = inr (inl (is, inl (l, rose_later before between now h r)))
rose_before P old new tells out_old out_new before between now out_rose a h (inr (inl (is, inr (inl b)))) = inr (inl (is, inr (inl (b.0, b.1, b.2, b.3, b.4, b.5, b.6, rose_later before between now h b.7))))
rose_before P old new tells out_old out_new before between now out_rose a h (inr (inl (is, inr (inr b)))) = inr (inl (is, inr (inr b)))
rose_before P old new tells out_old out_new before between now out_rose a h (inr (inr s)) = inr (inr s)

-- a run of what was prepared, where nothing changed on the way
pub accepted_serves : (old mid new : FileMap) (name config : List ℕ) (c : Chart) (nodes : ℕ) (v : Verdict) (tells : Bool) (out_old out_new : List ℕ) (before between now : ℕ) (out_rose : Type 0) (a : Answer)
    → mid ≡ old → before ≤ between → IsPrepared old name config c nodes → first_missing old c.flow.ops ≡ None → IsVerdict c v
    → Serves (AcceptedRuns mid c nodes v) mid new tells out_old out_new (Rose between now) out_rose a
    → Serves (RunsFile old name config) old new tells out_old out_new (Rose before now) out_rose a
accepted_serves old mid new name config c nodes v tells out_old out_new before between now out_rose a same later p there is s =
    serves_by (AcceptedRuns old c nodes v) (RunsFile old name config) old new tells out_old out_new (Rose before now) out_rose a (verdict_comes old name config c nodes v p there is)
    (rose_before (AcceptedRuns old c nodes v) old new tells out_old out_new before between now out_rose a later
    (subst (λ m. Serves (AcceptedRuns m c nodes v) m new tells out_old out_new (Rose between now) out_rose a) same s))

-- a flow that was refused
pub refused_serves : (old new : FileMap) (name config : List ℕ) (c : Chart) (nodes : ℕ) (v : Verdict) (link : ℕ) (need : Need) (have : State) (tells : Bool) (out_old out_new : List ℕ) (files_rose out_rose : Type 0) (a : Answer)
    → v ≡ Refused link need have → IsPrepared old name config c nodes → first_missing old c.flow.ops ≡ None → IsVerdict c v → new ≡ old → Tells c v tells out_old out_new out_rose a
    → Serves (RunsFile old name config) old new tells out_old out_new files_rose out_rose a
refused_serves old new name config c nodes v link need have tells out_old out_new files_rose out_rose a refused p there is same t =
    verdict_serves (RunsFile old name config) old new c v tells out_old out_new files_rose out_rose a
    (verdict_comes old name config c nodes v p there is (verdict_end c v) (subst (λ w. AcceptedRuns old c nodes w (verdict_end c w)) (sym refused) refl)) same t
