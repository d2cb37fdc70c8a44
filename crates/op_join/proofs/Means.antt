-- What a join gives of whole lists.
use Rattle.std.proofs.Common.{◌≡◌, ℕ, zero, suc, Bool, refl, sym, ap, ◌∙◌, List, [], ◌∷◌, ◌++◌, map}
use Rattle.streams.specs.Streams.{sends}
use Rattle.streams.proofs.StreamLaws.{map-append}
use Rattle.ds_value.specs.declared.value.Value.{Value}
use Rattle.ds_schema.specs.Rows.{ways}
use Rattle.op_base.specs.Columns.{Row}
use Rattle.op_base.specs.Feeds.{behinds, fronts, heads_in, least_of, rows_in, run_by_run, taken_off}
use Rattle.op_base.specs.Meanings.{Join, join_rule}
use Rattle.op_base.proofs.FeedLaws.{by_runs_is}
use Rattle.op_runs.proofs.Given.{runs_given}
use Rattle.op_join.specs.Joining.{join_outs, key_columns}
use Rattle.op_join.specs.Laws.{JoinsMatch, JoinsMatchRuns}

-- each row is sent
sent_runs : (j : Join) (n : ℕ) (ds : List Bool) (columns : List (List ℕ)) (inputs : List (List Row)) → run_by_run n ds columns (join_outs j) inputs ≡ map (sends 0) (run_by_run n ds columns (join_rule j) inputs)
sent_runs j zero ds columns inputs = refl
sent_runs j (suc n) ds columns inputs = go (heads_in columns inputs) (λ others. sent_runs j n ds columns others)
  where
    go : (hs : List (List Value)) → ((others : List (List Row)) → run_by_run n ds columns (join_outs j) others ≡ map (sends 0) (run_by_run n ds columns (join_rule j) others)) →
        taken_off ds columns (join_outs j) inputs (run_by_run n ds columns (join_outs j)) hs ≡ map (sends 0) (taken_off ds columns (join_rule j) inputs (run_by_run n ds columns (join_rule j)) hs)
    go [] rec = refl
    go (v ∷ vs) rec =
        let k : List Value = least_of ds v vs in
        ap (λ t. map (sends 0) (join_rule j k (fronts columns k inputs)) ++ t) (rec (behinds columns k inputs))
        ∙ sym (map-append (sends 0) (join_rule j k (fronts columns k inputs)) (run_by_run n ds columns (join_rule j) (behinds columns k inputs)))

pub joins_match_runs : JoinsMatchRuns
joins_match_runs j lists outs g =
    runs_given (ways j.left_keys) (key_columns j) (join_outs j) lists outs g ∙ sent_runs j (rows_in (key_columns j) (lists 0 ∷ (lists 1 ∷ []))) (ways j.left_keys) (key_columns j) (lists 0 ∷ (lists 1 ∷ []))

pub joins_match : JoinsMatch
joins_match j lists outs up g = joins_match_runs j lists outs g ∙ ap (map (sends 0)) (by_runs_is (ways j.left_keys) (key_columns j) (join_rule j) (lists 0 ∷ (lists 1 ∷ [])) up)
