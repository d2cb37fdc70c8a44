-- Runs of a list that grows at its end.
use Rattle.std.proofs.Common.{◌≡◌, Bool, true, false, not, List, [], ◌∷◌, ◌++◌, refl, ap, sym, ◌∙◌, append-nil, append_assoc, cond}
use Rattle.std.specs.List.{flat_map}
use Rattle.streams.specs.Streams.{Out, row, end, sends}
use Rattle.streams.specs.Lists.{onto_run, runs_of}
use Rattle.streams.specs.Operators.{begins_run, last_run, ruled, run_outs, first_outs, last_outs, remdup_outs}

-- all but the last run
abbrev pub closed_runs : {A : Type 0} → List A → List A
closed_runs [] = []
closed_runs (x ∷ []) = []
closed_runs (x ∷ (y ∷ ys)) = x ∷ closed_runs (y ∷ ys)

module _ {X : Type 0} (same : X → X → Bool) where
  -- x after the last run, or in it
  abbrev pub runs_with : List (List X) → X → List (List X)
  runs_with [] x = (x ∷ []) ∷ []
  runs_with ([] ∷ []) x = (x ∷ []) ∷ []
  runs_with ((y ∷ run) ∷ []) x = cond (begins_run same (y ∷ run) x) ((y ∷ run) ∷ ((x ∷ []) ∷ [])) (((y ∷ run) ++ x ∷ []) ∷ [])
  runs_with (run ∷ (next ∷ runs)) x = run ∷ runs_with (next ∷ runs) x

  onto_run-one : (a y : X) (run : List X) (x : X) → onto_run same a (runs_with ((y ∷ run) ∷ []) x) ≡ runs_with (onto_run same a ((y ∷ run) ∷ [])) x
  onto_run-one a y run x =
      elim (begins_run same (y ∷ run) x) as (λ b. onto_run same a (cond b ((y ∷ run) ∷ ((x ∷ []) ∷ [])) (((y ∷ run) ++ x ∷ []) ∷ [])) ≡ cond (same a y) (cond b ((a ∷ (y ∷ run)) ∷ ((x ∷ []) ∷ [])) ((a ∷ ((y ∷ run) ++ x ∷ [])) ∷ [])) ((a ∷ []) ∷ (cond b ((y ∷ run) ∷ ((x ∷ []) ∷ [])) (((y ∷ run) ++ x ∷ []) ∷ [])))) [ true ↦ refl | false ↦ refl ]
      ∙ elim (same a y) as (λ b. cond b (cond (begins_run same (y ∷ run) x) ((a ∷ (y ∷ run)) ∷ ((x ∷ []) ∷ [])) ((a ∷ ((y ∷ run) ++ x ∷ [])) ∷ [])) ((a ∷ []) ∷ (cond (begins_run same (y ∷ run) x) ((y ∷ run) ∷ ((x ∷ []) ∷ [])) (((y ∷ run) ++ x ∷ []) ∷ []))) ≡ runs_with (cond b ((a ∷ (y ∷ run)) ∷ []) ((a ∷ []) ∷ ((y ∷ run) ∷ []))) x) [ true ↦ refl | false ↦ refl ]

  onto_run-with : (a : X) (runs : List (List X)) (x : X) → onto_run same a (runs_with runs x) ≡ runs_with (onto_run same a runs) x
  onto_run-with a [] x = elim (same a x) as (λ b. cond b ((a ∷ (x ∷ [])) ∷ []) ((a ∷ []) ∷ ((x ∷ []) ∷ [])) ≡ cond (not b) ((a ∷ []) ∷ ((x ∷ []) ∷ [])) ((a ∷ (x ∷ [])) ∷ [])) [ true ↦ refl | false ↦ refl ]
  onto_run-with a ([] ∷ []) x = elim (same a x) as (λ b. cond b ((a ∷ (x ∷ [])) ∷ []) ((a ∷ []) ∷ ((x ∷ []) ∷ [])) ≡ cond (not b) ((a ∷ []) ∷ ((x ∷ []) ∷ [])) ((a ∷ (x ∷ [])) ∷ [])) [ true ↦ refl | false ↦ refl ]
  onto_run-with a ([] ∷ (next ∷ runs)) x = refl
  onto_run-with a ((y ∷ run) ∷ []) x = onto_run-one a y run x
  onto_run-with a ((y ∷ run) ∷ (next ∷ runs)) x = elim (same a y) as (λ b. cond b ((a ∷ (y ∷ run)) ∷ runs_with (next ∷ runs) x) ((a ∷ []) ∷ ((y ∷ run) ∷ runs_with (next ∷ runs) x)) ≡ runs_with (cond b ((a ∷ (y ∷ run)) ∷ (next ∷ runs)) ((a ∷ []) ∷ ((y ∷ run) ∷ (next ∷ runs)))) x) [ true ↦ refl | false ↦ refl ]

  -- one more item at the end
  pub runs_of-more : (xs : List X) (x : X) → runs_of same (xs ++ x ∷ []) ≡ runs_with (runs_of same xs) x
  runs_of-more [] x = refl
  runs_of-more (a ∷ xs) x = ap (onto_run same a) (runs_of-more xs x) ∙ onto_run-with a (runs_of same xs) x

  -- some runs, none of them empty
  pub data AreRuns : List (List X) → Type 0 where
    one : (x : X) (run : List X) → AreRuns ((x ∷ run) ∷ [])
    more : (x : X) (run : List X) (y : X) (next : List X) (runs : List (List X)) → AreRuns ((y ∷ next) ∷ runs) → AreRuns ((x ∷ run) ∷ ((y ∷ next) ∷ runs))

  pub runs_are : (x : X) (xs : List X) → AreRuns (runs_of same (x ∷ xs))
  runs_are x [] = one x []
  runs_are x (y ∷ ys) = go (runs_of same (y ∷ ys)) (runs_are y ys)
    where
      go : (runs : List (List X)) → AreRuns runs → AreRuns (onto_run same x runs)
      go runs (one z run) = elim (same x z) as (λ b. AreRuns (cond b ((x ∷ (z ∷ run)) ∷ []) ((x ∷ []) ∷ ((z ∷ run) ∷ [])))) [ true ↦ one x (z ∷ run) | false ↦ more x [] z run [] (one z run) ]
      go runs (more z run y next rest r) = elim (same x z) as (λ b. AreRuns (cond b ((x ∷ (z ∷ run)) ∷ ((y ∷ next) ∷ rest)) ((x ∷ []) ∷ ((z ∷ run) ∷ ((y ∷ next) ∷ rest))))) [ true ↦ more x (z ∷ run) y next rest r | false ↦ more x [] z run ((y ∷ next) ∷ rest) (more z run y next rest r) ]

  -- whether a row begins a run is seen at the last run
  begins-last : (xs : List X) (x : X) → begins_run same xs x ≡ begins_run same (last_run (runs_of same xs)) x
  begins-last [] x = refl
  begins-last (a ∷ []) x = refl
  begins-last (a ∷ (b ∷ ys)) x = begins-last (b ∷ ys) x ∙ go (runs_of same (b ∷ ys)) (runs_are b ys)
    where
      go : (runs : List (List X)) → AreRuns runs → begins_run same (last_run runs) x ≡ begins_run same (last_run (onto_run same a runs)) x
      go runs (one z run) = elim (same a z) as (λ t. begins_run same (z ∷ run) x ≡ begins_run same (last_run (cond t ((a ∷ (z ∷ run)) ∷ []) ((a ∷ []) ∷ ((z ∷ run) ∷ [])))) x) [ true ↦ refl | false ↦ refl ]
      go runs (more z run y next rest r) = elim (same a z) as (λ t. begins_run same (last_run ((y ∷ next) ∷ rest)) x ≡ begins_run same (last_run (cond t ((a ∷ (z ∷ run)) ∷ ((y ∷ next) ∷ rest)) ((a ∷ []) ∷ ((z ∷ run) ∷ ((y ∷ next) ∷ rest))))) x) [ true ↦ refl | false ↦ refl ]

  closed-before : (run : List X) (runs : List (List X)) (x : X) → AreRuns runs → closed_runs (run ∷ runs_with runs x) ≡ run ∷ closed_runs (runs_with runs x)
  closed-before run runs x (one z zs) = elim (begins_run same (z ∷ zs) x) as (λ b. closed_runs (run ∷ cond b ((z ∷ zs) ∷ ((x ∷ []) ∷ [])) (((z ∷ zs) ++ x ∷ []) ∷ [])) ≡ run ∷ closed_runs (cond b ((z ∷ zs) ∷ ((x ∷ []) ∷ [])) (((z ∷ zs) ++ x ∷ []) ∷ []))) [ true ↦ refl | false ↦ refl ]
  closed-before run runs x (more z zs y next rest r) = refl

  -- a row of another run closes the last one
  closed-more : (runs : List (List X)) (x : X) → AreRuns runs → closed_runs (runs_with runs x) ≡ cond (begins_run same (last_run runs) x) runs (closed_runs runs)
  closed-more runs x (one z zs) = elim (begins_run same (z ∷ zs) x) as (λ b. closed_runs (cond b ((z ∷ zs) ∷ ((x ∷ []) ∷ [])) (((z ∷ zs) ++ x ∷ []) ∷ [])) ≡ cond b ((z ∷ zs) ∷ []) []) [ true ↦ refl | false ↦ refl ]
  closed-more runs x (more z zs y next rest r) =
      closed-before (z ∷ zs) ((y ∷ next) ∷ rest) x r ∙ ap (λ t. (z ∷ zs) ∷ t) (closed-more ((y ∷ next) ∷ rest) x r)
      ∙ elim (begins_run same (last_run ((y ∷ next) ∷ rest)) x) as (λ b. (z ∷ zs) ∷ cond b ((y ∷ next) ∷ rest) (closed_runs ((y ∷ next) ∷ rest)) ≡ cond b ((z ∷ zs) ∷ ((y ∷ next) ∷ rest)) ((z ∷ zs) ∷ closed_runs ((y ∷ next) ∷ rest))) [ true ↦ refl | false ↦ refl ]

  module _ {F : Type 0} (rule : List X → List (Out X F)) where
    -- what the rule gives of all runs: of the closed ones, and of the last
    ruled-all : (runs : List (List X)) → AreRuns runs → flat_map rule runs ≡ flat_map rule (closed_runs runs) ++ ruled rule (last_run runs)
    ruled-all runs (one z zs) = append-nil (rule (z ∷ zs))
    ruled-all runs (more z zs y next rest r) = ap (λ t. rule (z ∷ zs) ++ t) (ruled-all ((y ∷ next) ∷ rest) r) ∙ sym (append_assoc (rule (z ∷ zs)) (flat_map rule (closed_runs ((y ∷ next) ∷ rest))) (ruled rule (last_run ((y ∷ next) ∷ rest))))

    -- at End
    pub run_outs-end : (before : List X) → flat_map rule (closed_runs (runs_of same before)) ++ run_outs same rule before end ≡ flat_map rule (runs_of same before)
    run_outs-end [] = refl
    run_outs-end (b ∷ bs) = sym (ruled-all (runs_of same (b ∷ bs)) (runs_are b bs))

    -- at a row
    pub run_outs-row : (before : List X) (x : X) → flat_map rule (closed_runs (runs_of same before)) ++ run_outs same rule before (row x) ≡ flat_map rule (closed_runs (runs_of same (before ++ x ∷ [])))
    run_outs-row [] x = refl
    run_outs-row (b ∷ bs) x =
        ap (λ t. flat_map rule (closed_runs runs) ++ cond t (ruled rule (last_run runs)) []) (begins-last (b ∷ bs) x)
        ∙ go (begins_run same (last_run runs) x)
        ∙ ap (flat_map rule) (sym (closed-more runs x are) ∙ ap closed_runs (sym (runs_of-more (b ∷ bs) x)))
      where
        runs : List (List X)
        runs = runs_of same (b ∷ bs)

        are : AreRuns runs
        are = runs_are b bs

        go : (t : Bool) → flat_map rule (closed_runs runs) ++ cond t (ruled rule (last_run runs)) [] ≡ flat_map rule (cond t runs (closed_runs runs))
        go true = sym (ruled-all runs are)
        go false = append-nil _

  -- the first row of each run
  firsts-more : {F : Type 0} (runs : List (List X)) (x : X) → AreRuns runs → flat_map (first_outs {F = F}) (runs_with runs x) ≡ flat_map first_outs runs ++ cond (begins_run same (last_run runs) x) (sends 0 x ∷ []) []
  firsts-more {F} runs x (one z zs) = elim (begins_run same (z ∷ zs) x) as (λ b. flat_map (first_outs {F = F}) (cond b ((z ∷ zs) ∷ ((x ∷ []) ∷ [])) (((z ∷ zs) ++ x ∷ []) ∷ [])) ≡ sends 0 z ∷ cond b (sends 0 x ∷ []) []) [ true ↦ refl | false ↦ refl ]
  firsts-more runs x (more z zs y next rest r) = ap (λ t. sends 0 z ∷ t) (firsts-more ((y ∷ next) ∷ rest) x r)

  pub remdup_outs-row : {F : Type 0} (before : List X) (x : X) → flat_map (first_outs {F = F}) (runs_of same before) ++ remdup_outs same before (row x) ≡ flat_map first_outs (runs_of same (before ++ x ∷ []))
  remdup_outs-row [] x = refl
  remdup_outs-row {F} (b ∷ bs) x =
      ap (λ t. flat_map first_outs (runs_of same (b ∷ bs)) ++ cond t (sends 0 x ∷ []) []) (begins-last (b ∷ bs) x)
      ∙ sym (firsts-more (runs_of same (b ∷ bs)) x (runs_are b bs)) ∙ ap (flat_map first_outs) (sym (runs_of-more (b ∷ bs) x))

  -- the last row of the last run is the last of all
  last-run : {F : Type 0} (runs : List (List X)) (xs : List X) → AreRuns runs → (a : X) → last_outs {F = F} (last_run runs) ≡ last_outs xs → ruled (last_outs {F = F}) (last_run (onto_run same a runs)) ≡ last_outs xs
  last-run {F} runs xs (one z zs) a e = elim (same a z) as (λ t. ruled (last_outs {F = F}) (last_run (cond t ((a ∷ (z ∷ zs)) ∷ []) ((a ∷ []) ∷ ((z ∷ zs) ∷ [])))) ≡ last_outs xs) [ true ↦ e | false ↦ e ]
  last-run {F} runs xs (more z zs y next rest r) a e =
      elim (same a z) as (λ t. ruled (last_outs {F = F}) (last_run (cond t ((a ∷ (z ∷ zs)) ∷ ((y ∷ next) ∷ rest)) ((a ∷ []) ∷ ((z ∷ zs) ∷ ((y ∷ next) ∷ rest))))) ≡ last_outs xs) [ true ↦ ruled-is ((y ∷ next) ∷ rest) r ∙ e | false ↦ ruled-is ((y ∷ next) ∷ rest) r ∙ e ]
    where
      ruled-is : (runs : List (List X)) → AreRuns runs → ruled (last_outs {F = F}) (last_run runs) ≡ last_outs (last_run runs)
      ruled-is runs (one z zs) = refl
      ruled-is runs (more z zs y next rest r) = ruled-is ((y ∷ next) ∷ rest) r

  pub ruled-last : {F : Type 0} (before : List X) → ruled (last_outs {F = F}) (last_run (runs_of same before)) ≡ last_outs before
  ruled-last [] = refl
  ruled-last (a ∷ []) = refl
  ruled-last {F} (a ∷ (b ∷ ys)) = last-run (runs_of same (b ∷ ys)) (b ∷ ys) (runs_are b ys) a (plain (runs_of same (b ∷ ys)) (runs_are b ys) (ruled-last (b ∷ ys)))
    where
      plain : (runs : List (List X)) → AreRuns runs → ruled (last_outs {F = F}) (last_run runs) ≡ last_outs (b ∷ ys) → last_outs {F = F} (last_run runs) ≡ last_outs (b ∷ ys)
      plain runs (one z zs) e = e
      plain runs (more z zs y next rest r) e = plain ((y ∷ next) ∷ rest) r e
