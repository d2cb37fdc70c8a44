-- What merge gives of whole lists.
use Rattle.std.proofs.Common.{◌≡◌, ℕ, zero, suc, Bool, refl, sym, ap, ap₂, ◌∙◌, List, [], ◌∷◌, ◌++◌, length}
use Rattle.std.specs.Prelude.{⊤}
use Rattle.streams.specs.Streams.{Out, faults_out, on}
use Rattle.streams.proofs.StreamLaws.{on-append}
use Rattle.ds_value.specs.declared.value.Value.{Value}
use Rattle.op_base.specs.declared.fault.Fault.{Fault}
use Rattle.op_base.specs.Columns.{Row}
use Rattle.op_base.specs.Feeds.{behinds, by_runs, fronts, heads_in, least_of, rows_in, run_by_run, taken_off}
use Rattle.op_base.specs.Meanings.{Merging, columns_of, merge_rule, ways_of}
use Rattle.op_base.proofs.Adding.{faults_out-append}
use Rattle.op_base.proofs.FeedLaws.{by_runs_is}
use Rattle.op_runs.specs.KeyedStreams.{at_ports}
use Rattle.op_runs.proofs.Given.{runs_given}
use Rattle.op_match.specs.Laws.{AreMerged, MergesMatch, MergesMatchRuns}
use Rattle.op_match.specs.Merges.{merge_outs}
use Rattle.op_match.proofs.Lengths.{length-columns}
use Rattle.op_match.proofs.Means.{mapped_runs}
use Rattle.op_match.proofs.Merging.{outs_bare_of, outs_on}

-- a rule that gives nothing
nothing_given : {Y : Type 0} (n : ℕ) (ds : List Bool) (columns : List (List ℕ)) (inputs : List (List Row)) → run_by_run {Y = Y} n ds columns (λ v fronts. []) inputs ≡ []
nothing_given zero ds columns inputs = refl
nothing_given {Y} (suc n) ds columns inputs = go (heads_in columns inputs) (λ others. nothing_given {Y = Y} n ds columns others)
  where
    go : (hs : List (List Value)) → ((others : List (List Row)) → run_by_run {Y = Y} n ds columns (λ v fronts. []) others ≡ []) → taken_off ds columns (λ v fronts. []) inputs (run_by_run {Y = Y} n ds columns (λ v fronts. [])) hs ≡ []
    go [] rec = refl
    go (v ∷ vs) rec = rec (behinds columns (least_of ds v vs) inputs)

merged_runs : (m : Merging) (lists : ℕ → List Row) (outs : List (Out Row Fault)) → outs ≡ by_runs (ways_of m.keys) (columns_of m.keys) (merge_outs m) (at_ports lists 0 (length m.keys)) →
    AreMerged (λ q. by_runs (ways_of m.keys) (columns_of m.keys) (merge_rule m q) (at_ports lists 0 (length m.keys))) outs
merged_runs m lists outs e = record {
  rows_are = λ q. ap (on q) e ∙ mapped_runs (on q) refl (on-append q) ds columns (λ is. ⊤) (λ v is p. tt) (merge_outs m) (merge_rule m q) (λ v is p. outs_on m q v (fronts columns v is)) (rows_in columns inputs) inputs tt;
  no_faults = ap faults_out e
      ∙ mapped_runs faults_out refl faults_out-append ds columns (λ is. ⊤) (λ v is p. tt) (merge_outs m) (λ v fronts. []) (λ v is p. outs_bare_of m v (fronts columns v is)) (rows_in columns inputs) inputs tt ∙ nothing_given (rows_in columns inputs) ds columns inputs;
}
  where
    ds : List Bool
    ds = ways_of m.keys

    columns : List (List ℕ)
    columns = columns_of m.keys

    inputs : List (List Row)
    inputs = at_ports lists 0 (length m.keys)

pub merges_match_runs : MergesMatchRuns
merges_match_runs m lists outs g = merged_runs m lists outs
    (runs_given (ways_of m.keys) (columns_of m.keys) (merge_outs m) lists outs g ∙ ap (λ n. by_runs (ways_of m.keys) (columns_of m.keys) (merge_outs m) (at_ports lists 0 n)) (length-columns m.keys))

pub merges_match : MergesMatch
merges_match m lists outs up g =
    let runs = merges_match_runs m lists outs g in
    record {
      rows_are = λ q. runs.rows_are q ∙ by_runs_is (ways_of m.keys) (columns_of m.keys) (merge_rule m q) (at_ports lists 0 (length m.keys)) up;
      no_faults = runs.no_faults;
    }
