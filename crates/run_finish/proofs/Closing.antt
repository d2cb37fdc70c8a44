-- The ends of runs.
use Rattle.std.proofs.Common.{◌≡◌, ◌≢◌, inl, inr, ℕ, Bool, List, [], ◌∷◌, ◌++◌, length, refl, sym, ap, subst, ◌∙◌, append-nil, arith, flat_map, IsPermutation}
use Rattle.std.specs.Prelude.{◌≤◌, Option, Some, None, Result, Ok, Err, IsErr, true}
use Rattle.std.specs.Result.{OnErr, is_err}
use Rattle.std.specs.List.{Contains}
use Rattle.std.proofs.lemmas.List.Sorted.{Contains-permutation, length_permutation}
use Rattle.std.specs.declared.cmp.Ordering.TheVariants.{Greater}
use Rattle.op_base.specs.declared.fault.Fault.{Fault}
use Rattle.op_base.specs.Columns.{Row}
use Rattle.op_base.specs.Emits.{counted}
use Rattle.op_base.specs.Faults.{fault_cmp}
use Rattle.op_base.specs.Lists.{joined}
use Rattle.ds_port.specs.Causes.{Rose}
use Rattle.ds_port.specs.FileMap.{FileMap}
use Rattle.flow_files.specs.declared.tally.Tally.{Tally}
use Rattle.flow_files.specs.Tallies.{Grows, IsLeast, IsLeastOf, Tallies}
use Rattle.flow_graph.specs.declared.route.Choice.{Choice}
use Rattle.flow_graph.specs.declared.state.State.{State}
use Rattle.flow_graph.specs.Charts.{Chart}
use Rattle.flow_graph.specs.Runs.{meant_faults}
use Rattle.flow_rules.specs.Verdicts.{nodes_of, infer_regains}
use Rattle.flow_outputs.specs.Outputs.{MakesSome, NamedFile, with_files}
use Rattle.flow_shape.specs.Refusals.{all_ops}
use Rattle.flow_sound.specs.Tallies.{faults_before, faults_written, tallied}
use Rattle.flow_sound.proofs.Members.{all_permuted}
use Rattle.flow_sound.proofs.Tallying.{run_tallied}
use Rattle.list_run.specs.declared.ran.Ran.{Ran}
use Rattle.osh_ends.specs.Ends.{Finishes, MeetsGrades, RunsTo, done, faulty, files_of}
use Rattle.osh_ends.specs.Leaves.{Leaves}
use Rattle.osh_ends.specs.Reports.{fault_report, report}
use Rattle.run_finish.specs.Endings.{Delivers, Refuses}
use Rattle.run_finish.specs.Finished.{Ends, IsRun}
use Rattle.run_finish.specs.Written.{ComeAt}
use Rattle.run_finish.specs.declared.ending.Ending.{Ending}
use Rattle.run_finish.specs.declared.ending.Ending.TheVariants as ending
use Rattle.run_finish.proofs.Reporting.{faults_cut}

-- ---- what is made

pub some_left : (old new : FileMap) (all : List NamedFile) (tells : Bool) (out : List ℕ) → MakesSome old new all → (made : List NamedFile) × (failed : NamedFile) × (behind : List NamedFile) × (all ≡ made ++ failed ∷ behind) × Leaves (with_files old made) new tells out out []
some_left old new all tells out m = (m.made, m.failed, m.behind, m.all_are, record { files_are = m.files; out = λ t. sym (append-nil out) })

pub on_err : {A B : Type 0} (r : Result A B) (P : Type 0) → true ≡ is_err r → OnErr r P → P
on_err (Ok x) P e h = absurd (cc)
on_err (Err x) P e h = h

pub an_err : {A B : Type 0} (r : Result A B) → true ≡ is_err r → IsErr r
an_err (Ok x) e = absurd (cc)
an_err (Err x) e = refl

-- ---- what the run comes to

no_member : (x : Fault) (xs : List Fault) → xs ≡ [] → Contains xs x → ⊥
no_member x xs e m = let l : length xs ≡ 0 = ap length e in omega (arith, m.1, l)

empty_permuted : (xs ys : List Fault) → IsPermutation xs ys → xs ≡ [] → ys ≡ []
empty_permuted xs [] p e = refl
empty_permuted xs (y ∷ ys) p e = let l : length (y ∷ ys) ≡ 0 = length_permutation xs (y ∷ ys) p ∙ ap length e in absurd (omega (arith, l))

least_permuted : (xs ys : List Fault) (o : Option Fault) → IsPermutation xs ys → IsLeastOf o xs → IsLeastOf o ys
least_permuted xs ys None p h = empty_permuted xs ys p h
least_permuted xs ys (Some f) p h = record {
  among = Contains-permutation xs ys f p h.among;
  none_below = all_permuted (λ g. fault_cmp f g ≢ Greater) xs ys p h.none_below;
}

pub tallies_permuted : (xs ys : List Fault) (t : Tally) → IsPermutation xs ys → Tallies xs t → Tallies ys t
tallies_permuted xs ys t p h = record { number = h.number ∙ ap (counted 0) (sym (length_permutation xs ys p)); least = least_permuted xs ys t.least p h.least }

pub come : (files : FileMap) (c : Chart) (states : List State) (choices : List Choice) (ran : Ran) (tally : Tally) (r : IsRun files c states choices ran tally) → ComeAt c ran.sinks r.run.got
come files c states choices ran tally r o b e = r.sinks o b e

-- all faults of the meaning are tallied, when those of the exports were
pub meant_tallied : (files : FileMap) (c : Chart) (states : List State) (choices : List Choice) (ran : Ran) (old new : Tally) (r : IsRun files c states choices ran old)
    → Grows old new (flat_map (faults_written c r.ops (λ l. joined (r.run.got l))) (all_ops c)) → Tallies (meant_faults r.whole (nodes_of c r.ops)) new
meant_tallied files c states choices ran old new r g =
    tallies_permuted (tallied c r.ops r.run) (meant_faults r.whole (nodes_of c r.ops)) new
    (run_tallied infer_regains c.flow [] c states choices r.ops r.whole r.run r.accepted)
    (g (faults_before c r.ops r.run.failed) r.tally)

done_end : (c : Chart) (states : List State) (choices : List Choice) (nodes : ℕ) (whole : ℕ → List Row) (parts : ℕ → List (List Row)) (fs : List Fault) → fs ≡ [] → MeetsGrades c states whole parts
    → Finishes c states choices nodes whole fs (done (files_of c parts) (report c states choices nodes whole))
done_end c states choices nodes whole parts [] e m = (parts, m, refl)
done_end c states choices nodes whole parts (f ∷ fs) e m = absurd (cc)

faulty_end : (c : Chart) (states : List State) (choices : List Choice) (nodes : ℕ) (whole : ℕ → List Row) (fs : List Fault) (least : Fault) (n : ℕ) → IsLeast least fs → n ≡ counted 0 (length fs)
    → Finishes c states choices nodes whole fs (faulty (fault_report c states choices nodes n least))
faulty_end c states choices nodes whole [] least n h e = absurd (no_member least [] refl h.among)
faulty_end c states choices nodes whole (f ∷ fs) least n h e = (least, h, ap faulty (faults_cut c states choices nodes n (length (f ∷ fs)) least e))

pub runs_done : (files : FileMap) (c : Chart) (states : List State) (choices : List Choice) (nodes : ℕ) (ran : Ran) (old new : Tally) (r : IsRun files c states choices ran old)
    → Grows old new (flat_map (faults_written c r.ops (λ l. joined (r.run.got l))) (all_ops c)) → new.least ≡ None → RunsTo files c nodes states choices (done (files_of c r.run.got) (report c states choices nodes r.whole))
runs_done files c states choices nodes ran old new r g e =
    let t = meant_tallied files c states choices ran old new r g in
    (r.ops, r.whole, r.meaning, done_end c states choices nodes r.whole r.run.got (meant_faults r.whole (nodes_of c r.ops)) (subst (λ o. IsLeastOf o (meant_faults r.whole (nodes_of c r.ops))) e t.least) r.grades)

pub runs_faulty : (files : FileMap) (c : Chart) (states : List State) (choices : List Choice) (nodes : ℕ) (ran : Ran) (old new : Tally) (r : IsRun files c states choices ran old) (least : Fault)
    → Grows old new (flat_map (faults_written c r.ops (λ l. joined (r.run.got l))) (all_ops c)) → new.least ≡ Some least → RunsTo files c nodes states choices (faulty (fault_report c states choices nodes new.faults least))
runs_faulty files c states choices nodes ran old new r least g e =
    let t = meant_tallied files c states choices ran old new r g in
    (r.ops, r.whole, r.meaning, faulty_end c states choices nodes r.whole (meant_faults r.whole (nodes_of c r.ops)) least new.faults (subst (λ o. IsLeastOf o (meant_faults r.whole (nodes_of c r.ops))) e t.least) t.number)

-- ---- what is left

pub delivered : (old new : FileMap) (c : Chart) (nodes : ℕ) (states : List State) (choices : List Choice) (tells : Bool) (out_old out_new : List ℕ) (files_rose out_rose : Type 0) (all : List NamedFile) (text : List ℕ) (e : Ending)
    → RunsTo old c nodes states choices (done all text) → Delivers old new all tells out_old out_new text files_rose out_rose e → Ends old new c nodes states choices tells out_old out_new files_rose out_rose e
delivered old new c nodes states choices tells out_old out_new files_rose out_rose all text ending.Done r d = (all, text, r, d)
delivered old new c nodes states choices tells out_old out_new files_rose out_rose all text ending.Faulty r d = absurd d
delivered old new c nodes states choices tells out_old out_new files_rose out_rose all text ending.Device r (inl d) = inr (inl (done all text, d.0, d.1, d.2, r, d.3, d.4, d.5))
delivered old new c nodes states choices tells out_old out_new files_rose out_rose all text ending.Device r (inr d) = inr (inr (done all text, d.0, r, d.1, d.2))
delivered old new c nodes states choices tells out_old out_new files_rose out_rose all text ending.Memory r d = d

pub refused : (old new : FileMap) (c : Chart) (nodes : ℕ) (states : List State) (choices : List Choice) (tells : Bool) (out_old out_new : List ℕ) (files_rose out_rose : Type 0) (text : List ℕ) (e : Ending)
    → RunsTo old c nodes states choices (faulty text) → Refuses old new tells out_old out_new text out_rose e → Ends old new c nodes states choices tells out_old out_new files_rose out_rose e
refused old new c nodes states choices tells out_old out_new files_rose out_rose text ending.Done r d = absurd d
refused old new c nodes states choices tells out_old out_new files_rose out_rose text ending.Faulty r d = (text, r, d)
refused old new c nodes states choices tells out_old out_new files_rose out_rose text ending.Device r d = inr (inr (faulty text, d.0, r, d.1, d.2))
refused old new c nodes states choices tells out_old out_new files_rose out_rose text ending.Memory r d = d

pub delivers_text : (old new : FileMap) (all : List NamedFile) (tells : Bool) (out_old out_new a b : List ℕ) (files_rose out_rose : Type 0) (e : Ending) → a ≡ b → Delivers old new all tells out_old out_new a files_rose out_rose e → Delivers old new all tells out_old out_new b files_rose out_rose e
delivers_text old new all tells out_old out_new a b files_rose out_rose e is d = subst (λ text. Delivers old new all tells out_old out_new text files_rose out_rose e) is d

-- a count that rose later rose
pub rose_later : (a b c : ℕ) → a ≤ b → Rose b c → Rose a c
rose_later a b c l r = grind (arith, l, r)

widened : (old new : FileMap) (all : List NamedFile) (tells : Bool) (out_old out_new text : List ℕ) (mid_rose files_rose out_rose : Type 0) (e : Ending) → (mid_rose → files_rose) → Delivers old new all tells out_old out_new text mid_rose out_rose e → Delivers old new all tells out_old out_new text files_rose out_rose e
widened old new all tells out_old out_new text mid_rose files_rose out_rose ending.Done f d = d
widened old new all tells out_old out_new text mid_rose files_rose out_rose ending.Faulty f d = d
widened old new all tells out_old out_new text mid_rose files_rose out_rose ending.Device f (inl d) = inl (d.0, d.1, d.2, d.3, d.4, f d.5)
widened old new all tells out_old out_new text mid_rose files_rose out_rose ending.Device f (inr d) = inr d
widened old new all tells out_old out_new text mid_rose files_rose out_rose ending.Memory f d = d

pub delivered_from : (old mid new : FileMap) (c : Chart) (nodes : ℕ) (states : List State) (choices : List Choice) (tells : Bool) (out_old out_new : List ℕ) (mid_rose files_rose out_rose : Type 0) (all here : List NamedFile) (text : List ℕ) (e : Ending)
    → mid ≡ old → here ≡ all → (mid_rose → files_rose) → RunsTo old c nodes states choices (done all text) → Delivers mid new here tells out_old out_new text mid_rose out_rose e → Ends old new c nodes states choices tells out_old out_new files_rose out_rose e
delivered_from old mid new c nodes states choices tells out_old out_new mid_rose files_rose out_rose all here text e same is f r d =
    delivered old new c nodes states choices tells out_old out_new files_rose out_rose all text e r
    (widened old new all tells out_old out_new text mid_rose files_rose out_rose e f
    (subst (λ m. Delivers m new all tells out_old out_new text mid_rose out_rose e) same (subst (λ fs. Delivers mid new fs tells out_old out_new text mid_rose out_rose e) is d)))

pub refused_from : (old mid new : FileMap) (c : Chart) (nodes : ℕ) (states : List State) (choices : List Choice) (tells : Bool) (out_old out_new : List ℕ) (files_rose out_rose : Type 0) (text : List ℕ) (e : Ending)
    → mid ≡ old → RunsTo old c nodes states choices (faulty text) → Refuses mid new tells out_old out_new text out_rose e → Ends old new c nodes states choices tells out_old out_new files_rose out_rose e
refused_from old mid new c nodes states choices tells out_old out_new files_rose out_rose text e same r d =
    refused old new c nodes states choices tells out_old out_new files_rose out_rose text e r (subst (λ m. Refuses m new tells out_old out_new text out_rose e) same d)
