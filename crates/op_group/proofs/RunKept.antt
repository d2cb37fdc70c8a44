-- The last run of rows of one key value, and what it keeps, after one row more.
use Rattle.std.proofs.Common.{◌≡◌, ℕ, Bool, true, false, not, cond, Option, Some, List, [], ◌∷◌, ◌++◌, refl, sym, ap, ap₂, ◌∙◌, subst, true≢false}
use Rattle.std.specs.List.{AllByRecursion, list_all}
use Rattle.std.specs.Ordering.{is_eq}
use Rattle.std.proofs.lemmas.List.Folds.{list_all-append}
use Rattle.streams.specs.Streams.{row, Feed, ended, rows_of}
use Rattle.streams.specs.Lists.{onto_run, runs_of}
use Rattle.streams.specs.Operators.{one_wanted, begins_run, last_run, ruled, run_outs}
use Rattle.streams.proofs.Basics.{and_left, and_right}
use Rattle.streams.proofs.RunLaws.{runs_with, runs_of-more, AreRuns, one, more, runs_are}
use Rattle.ds_schema.specs.declared.key.Key.{Key}
use Rattle.ds_schema.specs.Rows.{val, cols, ways, vals_cmp, row_cmp}
use Rattle.op_base.specs.declared.emit.Emit.{Emit}
use Rattle.op_base.specs.Columns.{Row}
use Rattle.op_base.specs.Emits.{Adds}
use Rattle.op_base.specs.Standing.{row_feed, end_feed}
use Rattle.op_base.proofs.Adding.{Adds-none}
use Rattle.op_base.proofs.All.{all_append}
use Rattle.op_base.proofs.Orders.{row_tie, equal_from_is}
use Rattle.op_base.proofs.StandingLaws.{ended-row, ended-end, rows_of-row, one_port_fed, one_port_open}
use Rattle.op_group.specs.declared.agg.Agg.{Agg}
use Rattle.op_group.specs.declared.sorted.Run.{Run}
use Rattle.op_group.specs.Results.{results}
use Rattle.op_group.specs.Groups.{same_key, run_group, row_suits, group_suits}
use Rattle.op_group.specs.Kept.{TallyStands, given}
use Rattle.op_group.specs.Runs.{IsRun, run_with, turn_outs, Turns, SortedStands}

-- The last run
module _ {X : Type 0} (same : X → X → Bool) where
  -- whether a row begins a run is seen at the last run
  begins-last : (xs : List X) (x : X) → begins_run same xs x ≡ begins_run same (last_run (runs_of same xs)) x
  begins-last [] x = refl
  begins-last (a ∷ []) x = refl
  begins-last (a ∷ (b ∷ ys)) x = begins-last (b ∷ ys) x ∙ go (runs_of same (b ∷ ys)) (runs_are same b ys)
    where
      go : (runs : List (List X)) → AreRuns same runs → begins_run same (last_run runs) x ≡ begins_run same (last_run (onto_run same a runs)) x
      go runs (one z run) = elim (same a z) as (λ t. begins_run same (z ∷ run) x ≡ begins_run same (last_run (cond t ((a ∷ (z ∷ run)) ∷ []) ((a ∷ []) ∷ ((z ∷ run) ∷ [])))) x) [ true ↦ refl | false ↦ refl ]
      go runs (more z run y next rest r) = elim (same a z) as (λ t. begins_run same (last_run ((y ∷ next) ∷ rest)) x ≡ begins_run same (last_run (cond t ((a ∷ (z ∷ run)) ∷ ((y ∷ next) ∷ rest)) ((a ∷ []) ∷ ((z ∷ run) ∷ ((y ∷ next) ∷ rest))))) x) [ true ↦ refl | false ↦ refl ]

  last-before : (run : List X) (runs : List (List X)) (x : X) → AreRuns same runs → last_run (run ∷ runs_with same runs x) ≡ last_run (runs_with same runs x)
  last-before run runs x (one z zs) = elim (begins_run same (z ∷ zs) x) as (λ b. last_run (run ∷ cond b ((z ∷ zs) ∷ ((x ∷ []) ∷ [])) (((z ∷ zs) ++ x ∷ []) ∷ [])) ≡ last_run (cond b ((z ∷ zs) ∷ ((x ∷ []) ∷ [])) (((z ∷ zs) ++ x ∷ []) ∷ []))) [ true ↦ refl | false ↦ refl ]
  last-before run runs x (more z zs y next rest r) = refl

  last-with : (runs : List (List X)) (x : X) → AreRuns same runs → last_run (runs_with same runs x) ≡ cond (begins_run same (last_run runs) x) (x ∷ []) (last_run runs ++ x ∷ [])
  last-with runs x (one z zs) = elim (begins_run same (z ∷ zs) x) as (λ b. last_run (cond b ((z ∷ zs) ∷ ((x ∷ []) ∷ [])) (((z ∷ zs) ++ x ∷ []) ∷ [])) ≡ cond b (x ∷ []) ((z ∷ zs) ++ x ∷ [])) [ true ↦ refl | false ↦ refl ]
  last-with runs x (more z zs y next rest r) = last-before (z ∷ zs) ((y ∷ next) ∷ rest) x r ∙ last-with ((y ∷ next) ∷ rest) x r

  last-more : (xs : List X) (x : X) → last_run (runs_of same (xs ++ x ∷ [])) ≡ cond (begins_run same (last_run (runs_of same xs)) x) (x ∷ []) (last_run (runs_of same xs) ++ x ∷ [])
  last-more [] x = refl
  last-more (b ∷ bs) x = ap last_run (runs_of-more same (b ∷ bs) x) ∙ last-with (runs_of same (b ∷ bs)) x (runs_are same b bs)

-- The rows of a run
module _ (keys : List Key) where
  begins-alike : (a : Row) (rest : List Row) (x : Row) → AllByRecursion (λ r. val (cols keys) r ≡ val (cols keys) a) rest → begins_run (same_key keys) (a ∷ rest) x ≡ not (same_key keys a x)
  begins-alike a [] x h = refl
  begins-alike a (b ∷ rest) x h = begins-alike b rest x (moved rest h.1) ∙ ap (λ v. not (is_eq (vals_cmp (ways keys) v (val (cols keys) x)))) h.0
    where
      moved : (rs : List Row) → AllByRecursion (λ r. val (cols keys) r ≡ val (cols keys) a) rs → AllByRecursion (λ r. val (cols keys) r ≡ val (cols keys) b) rs
      moved [] k = tt
      moved (r ∷ rs) k = (k.0 ∙ sym h.0, moved rs k.1)

  module _ (aggs : List Agg) (rows : List Row) (x : Row) where
    begins-is : (run : Run) → IsRun keys aggs run rows → begins_run (same_key keys) rows x ≡ not (same_key keys run.first x)
    begins-is run h = ap (λ rs. begins_run (same_key keys) rs x) h.rows_are ∙ begins-alike run.first h.rest x h.alike

    pub turn_none : (new : Run) (emit : Emit) → rows ≡ [] → row_suits keys aggs x ≡ true → new.first ≡ x → TallyStands aggs (x ∷ []) new.tally → Turns keys aggs rows x new emit emit
    turn_none new emit none suits first tally = record {
      stands = subst (λ (rs : List Row). IsRun keys aggs new (run_with keys rs x)) (sym none) (begun new suits first tally);
      adds = subst (λ (rs : List Row). Adds emit emit (turn_outs keys aggs rs x)) (sym none) (Adds-none emit);
    }
      where
        begun : (new : Run) → row_suits keys aggs x ≡ true → new.first ≡ x → TallyStands aggs (x ∷ []) new.tally → IsRun keys aggs new (x ∷ [])
        begun new suits first tally = record { rest = []; rows_are = ap (λ r. r ∷ []) (sym first); alike = tt; suits = ap (row_suits keys aggs) first ∙ suits; tally = tally }

    pub turn_same : (old new : Run) (emit : Emit) → IsRun keys aggs old rows → same_key keys old.first x ≡ true → new.first ≡ old.first → TallyStands aggs (rows ++ x ∷ []) new.tally → Turns keys aggs rows x new emit emit
    turn_same old new emit h same first tally = record {
      stands = subst (IsRun keys aggs new) (sym (ap (λ b. cond b (x ∷ []) (rows ++ x ∷ [])) stays)) (record {
        rest = h.rest ++ x ∷ [];
        rows_are = ap (λ rs. rs ++ x ∷ []) h.rows_are ∙ ap (λ r. r ∷ (h.rest ++ x ∷ [])) (sym first);
        alike = subst (λ (r : Row). AllByRecursion (λ s. val (cols keys) s ≡ val (cols keys) r) (h.rest ++ x ∷ [])) (sym first) (all_append (λ s. val (cols keys) s ≡ val (cols keys) old.first) h.rest (x ∷ []) h.alike (sym (row_tie keys old.first x (equal_from_is (row_cmp keys old.first x) same)), tt));
        suits = ap (row_suits keys aggs) first ∙ h.suits;
        tally = tally;
      });
      adds = subst (Adds emit emit) (sym (ap (λ b. cond b (run_group keys aggs rows) []) stays)) (Adds-none emit);
    }
      where
        stays : begins_run (same_key keys) rows x ≡ false
        stays = begins-is old h ∙ ap not same

    group_is : (run : Run) → IsRun keys aggs run rows → given (val (cols keys) run.first) (results aggs rows) ≡ run_group keys aggs rows
    group_is run h = ap (λ rs. given (val (cols keys) run.first) (results aggs rs)) h.rows_are ∙ ap (run_group keys aggs) (sym h.rows_are)

    pub turn_other : (old new : Run) (before later : Emit) → IsRun keys aggs old rows → same_key keys old.first x ≡ false → Adds before later (given (val (cols keys) old.first) (results aggs rows)) → row_suits keys aggs x ≡ true → new.first ≡ x → TallyStands aggs (x ∷ []) new.tally → Turns keys aggs rows x new before later
    turn_other old new before later h differs added suits first tally = record {
      stands = subst (IsRun keys aggs new) (sym (ap (λ b. cond b (x ∷ []) (rows ++ x ∷ [])) begins)) (record { rest = []; rows_are = ap (λ r. r ∷ []) (sym first); alike = tt; suits = ap (row_suits keys aggs) first ∙ suits; tally = tally });
      adds = subst (Adds before later) (group_is old h ∙ sym (ap (λ b. cond b (run_group keys aggs rows) []) begins)) added;
    }
      where
        begins : begins_run (same_key keys) rows x ≡ true
        begins = begins-is old h ∙ ap not differs

  pub last_given : (aggs : List Agg) (rows : List Row) (run : Run) (before later : Emit) → IsRun keys aggs run rows → Adds before later (given (val (cols keys) run.first) (results aggs rows)) → Adds before later (run_group keys aggs rows)
  last_given aggs rows run before later h added = subst (Adds before later) (group_is aggs rows run.first run h) added

  -- What the operator keeps
  pub ruled_group : (aggs : List Agg) (rows : List Row) → ruled (run_group keys aggs) rows ≡ run_group keys aggs rows
  ruled_group aggs [] = refl
  ruled_group aggs (r ∷ rows) = refl

  pub turn_outs-row : (aggs : List Agg) (before : List Row) (x : Row) → turn_outs keys aggs (last_run (runs_of (same_key keys) before)) x ≡ run_outs (same_key keys) (run_group keys aggs) before (row x)
  turn_outs-row aggs before x = ap₂ (λ b outs. cond b outs []) (sym (begins-last (same_key keys) before x)) (sym (ruled_group aggs (last_run (runs_of (same_key keys) before))))

  pub SortedStands-row : (aggs : List Agg) (over : Bool) (old : Option Run) (run : Run) (feeds : List (Feed Row)) (port : ℕ) (x : Row) → port ≡ 0 → SortedStands keys aggs over old feeds → IsRun keys aggs run (run_with keys (last_run (runs_of (same_key keys) (rows_of 0 feeds))) x) → SortedStands keys aggs over (Some run) (feeds ++ row_feed port x ∷ [])
  SortedStands-row aggs over old run feeds port x first_port stands h = record {
    over_is = stands.over_is ∙ sym (ended-row 0 feeds port x);
    run_is = λ still. subst (IsRun keys aggs run) (sym (last-more (same_key keys) (rows_of 0 feeds) x) ∙ ap (λ rs. last_run (runs_of (same_key keys) rs)) (sym (rows_of-row 0 feeds x)) ∙ ap (λ p. last_run (runs_of (same_key keys) (rows_of 0 (feeds ++ row_feed p x ∷ [])))) (sym first_port)) h;
  }

  pub SortedStands-end : (aggs : List Agg) (run : Option Run) (feeds : List (Feed Row)) (port : ℕ) → port ≡ 0 → SortedStands keys aggs true run (feeds ++ end_feed port ∷ [])
  SortedStands-end aggs run feeds port first_port = record {
    over_is = sym (ended-end 0 feeds) ∙ ap (λ p. ended 0 (feeds ++ end_feed p ∷ [])) (sym first_port);
    run_is = λ still. absurd (true≢false still);
  }

  pub sorted_open : (aggs : List Agg) (over : Bool) (run : Option Run) (feeds : List (Feed Row)) (port : ℕ) → SortedStands keys aggs over run feeds → one_wanted feeds port ≡ true → over ≡ false
  sorted_open aggs over run feeds port stands w = stands.over_is ∙ one_port_open feeds port w

  -- the row that is fed suits
  pub row_fed_suits : (aggs : List Agg) (feeds : List (Feed Row)) (port : ℕ) (x : Row) → one_wanted feeds port ≡ true → group_suits keys aggs (feeds ++ row_feed port x ∷ []) ≡ true → row_suits keys aggs x ≡ true
  row_fed_suits aggs feeds port x w h =
      and_left _ _ (and_right _ _ (sym (list_all-append (row_suits keys aggs) (rows_of 0 feeds) (x ∷ []))
      ∙ ap (list_all (row_suits keys aggs)) (sym (rows_of-row 0 feeds x) ∙ ap (λ p. rows_of 0 (feeds ++ row_feed p x ∷ [])) (sym (one_port_fed feeds port w)))
      ∙ and_left _ _ h))
