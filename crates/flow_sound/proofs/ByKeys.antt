-- What is given key value by key value, and run by run, fits where it fits for the rows of one value.
use Rattle.std.proofs.Common.{◌≡◌, ℕ, zero, suc, Bool, true, false, cond, List, [], ◌∷◌, refl}
use Rattle.std.specs.Prelude.{⊤}
use Rattle.std.specs.List.{AllByRecursion}
use Rattle.ds_value.specs.declared.value.Value.{Value}
use Rattle.ds_schema.specs.declared.schema.Field.{Field}
use Rattle.ds_schema.specs.Rows.{has, val}
use Rattle.ds_schema.specs.Schemas.{row_fits}
use Rattle.op_base.specs.Columns.{Row}
use Rattle.op_base.specs.Feeds.{behind, behinds, by_runs, front, fronts, heads_in, least_of, rows_in, run_by_run, taken_off}
use Rattle.op_base.specs.Keyed.{for_values, in_order, keys_in, subs}
use Rattle.op_base.proofs.All.{all_append, all_filter, all_flat_each}
use Rattle.op_base.proofs.KeyValues.{Keyed, subs_keyed}
use Rattle.op_base.proofs.Orders.{has_val}
use Rattle.flow_sound.proofs.Working.{Fit}

-- the rows of each input fit its fields, as far as there are inputs and fields
abbrev pub Come : List (List Field) → List (List Row) → Type 0
Come [] inputs = ⊤
Come (fields ∷ more) [] = ⊤
Come (fields ∷ more) (rows ∷ inputs) = Fit fields rows × Come more inputs

-- what a rule gives for rows of one key value that fit, fits
abbrev pub RuleFits : List (List Field) → List (List ℕ) → List Field → (List Value → List (List Row) → List Row) → Type 0
RuleFits ins columns made rule = (v : List Value) (inputs : List (List Row)) → Keyed columns v inputs → Come ins inputs → Fit made (rule v inputs)

abbrev Fits : List Field → Row → Type 0
Fits fields r = row_fits fields r ≡ true

subs_come : (ins : List (List Field)) (columns : List (List ℕ)) (v : List Value) (inputs : List (List Row)) → Come ins inputs → Come ins (subs columns v inputs)
subs_come [] columns v inputs h = tt
subs_come (fields ∷ ins) [] v inputs h = tt
subs_come (fields ∷ ins) (cs ∷ columns) v [] h = tt
subs_come (fields ∷ ins) (cs ∷ columns) v (rows ∷ inputs) h = (all_filter (Fits fields) (has cs v) rows h.0, subs_come ins columns v inputs h.1)

front_fits : (fields : List Field) (cs : List ℕ) (v : List Value) (rows : List Row) → Fit fields rows → Fit fields (front cs v rows)
front_fits fields cs v [] h = tt
front_fits fields cs v (r ∷ rows) h = go (has cs v r) (front_fits fields cs v rows h.1)
  where
    go : (b : Bool) → Fit fields (front cs v rows) → Fit fields (cond b (r ∷ front cs v rows) [])
    go true k = (h.0, k)
    go false k = tt

behind_fits : (fields : List Field) (cs : List ℕ) (v : List Value) (rows : List Row) → Fit fields rows → Fit fields (behind cs v rows)
behind_fits fields cs v [] h = tt
behind_fits fields cs v (r ∷ rows) h = go (has cs v r) (behind_fits fields cs v rows h.1)
  where
    go : (b : Bool) → Fit fields (behind cs v rows) → Fit fields (cond b (behind cs v rows) (r ∷ rows))
    go true k = k
    go false k = h

fronts_come : (ins : List (List Field)) (columns : List (List ℕ)) (v : List Value) (inputs : List (List Row)) → Come ins inputs → Come ins (fronts columns v inputs)
fronts_come [] columns v inputs h = tt
fronts_come (fields ∷ ins) [] v inputs h = tt
fronts_come (fields ∷ ins) (cs ∷ columns) v [] h = tt
fronts_come (fields ∷ ins) (cs ∷ columns) v (rows ∷ inputs) h = (front_fits fields cs v rows h.0, fronts_come ins columns v inputs h.1)

behinds_come : (ins : List (List Field)) (columns : List (List ℕ)) (v : List Value) (inputs : List (List Row)) → Come ins inputs → Come ins (behinds columns v inputs)
behinds_come [] columns v inputs h = tt
behinds_come (fields ∷ ins) [] v inputs h = tt
behinds_come (fields ∷ ins) (cs ∷ columns) v [] h = tt
behinds_come (fields ∷ ins) (cs ∷ columns) v (rows ∷ inputs) h = (behind_fits fields cs v rows h.0, behinds_come ins columns v inputs h.1)

front_keyed : (cs : List ℕ) (v : List Value) (rows : List Row) → AllByRecursion (λ r. val cs r ≡ v) (front cs v rows)
front_keyed cs v [] = tt
front_keyed cs v (r ∷ rows) = go (has cs v r) refl (front_keyed cs v rows)
  where
    go : (b : Bool) → has cs v r ≡ b → AllByRecursion (λ s. val cs s ≡ v) (front cs v rows) → AllByRecursion (λ s. val cs s ≡ v) (cond b (r ∷ front cs v rows) [])
    go true e k = (has_val cs v r e, k)
    go false e k = tt

fronts_keyed : (columns : List (List ℕ)) (v : List Value) (inputs : List (List Row)) → Keyed columns v (fronts columns v inputs)
fronts_keyed [] v inputs = refl
fronts_keyed (cs ∷ columns) v [] = tt
fronts_keyed (cs ∷ columns) v (rows ∷ inputs) = (front_keyed cs v rows, fronts_keyed columns v inputs)

module _ (ins : List (List Field)) (columns : List (List ℕ)) (made : List Field) (rule : List Value → List (List Row) → List Row) (fits : RuleFits ins columns made rule) (ds : List Bool) where
  pub values_fit : (hashes : Bool) (inputs : List (List Row)) → Come ins inputs → Fit made (for_values hashes ds columns rule inputs)
  values_fit hashes inputs h =
      all_flat_each (Fits made) (λ v. rule v (subs columns v inputs)) (λ v. fits v (subs columns v inputs) (subs_keyed columns v inputs) (subs_come ins columns v inputs h)) (in_order hashes ds (keys_in columns inputs))

  taken : (n : ℕ) (inputs : List (List Row)) → Come ins inputs → Fit made (run_by_run n ds columns rule inputs)
  taken zero inputs h = tt
  taken (suc n) inputs h = go (heads_in columns inputs) (λ later k. taken n later k)
    where
      go : (heads : List (List Value)) → ((later : List (List Row)) → Come ins later → Fit made (run_by_run n ds columns rule later)) → Fit made (taken_off ds columns rule inputs (run_by_run n ds columns rule) heads)
      go [] rec = tt
      go (v ∷ vs) rec =
          let k = least_of ds v vs in
          all_append (Fits made) (rule k (fronts columns k inputs)) (run_by_run n ds columns rule (behinds columns k inputs))
          (fits k (fronts columns k inputs) (fronts_keyed columns k inputs) (fronts_come ins columns k inputs h))
          (rec (behinds columns k inputs) (behinds_come ins columns k inputs h))

  pub runs_fit : (inputs : List (List Row)) → Come ins inputs → Fit made (by_runs ds columns rule inputs)
  runs_fit inputs h = taken (rows_in columns inputs) inputs h
