-- What the streams give of whole lists.
use Rattle.std.proofs.Common.{◌≡◌, ℕ, zero, suc, Bool, true, false, cond, refl, sym, ap, ap₂, ◌∙◌, subst, List, [], ◌∷◌, ◌++◌, map, length}
use Rattle.std.specs.List.{AllByRecursion}
use Rattle.streams.specs.Streams.{Out, sends}
use Rattle.streams.proofs.StreamLaws.{map-append}
use Rattle.ds_value.specs.declared.value.Value.{Value}
use Rattle.ds_schema.specs.declared.key.Key.{Key}
use Rattle.ds_schema.specs.Rows.{cols, has, ways}
use Rattle.op_base.specs.declared.fault.Fault.{Fault}
use Rattle.op_base.specs.Columns.{Row}
use Rattle.op_base.specs.Feeds.{behind, behinds, front, fronts, heads_in, least_of, rows_in, run_by_run, taken_off}
use Rattle.op_base.specs.Meanings.{Capture, change, change_rule, changes, coded, input}
use Rattle.op_base.proofs.FeedLaws.{by_runs_is}
use Rattle.op_runs.proofs.Given.{runs_given}
use Rattle.op_match.specs.Captures.{capture_outs, captured, capturing}
use Rattle.op_match.specs.Laws.{CapturesMatch, CapturesMatchRuns, HaveWidth}

-- what goes through each round
pub mapped_runs : {Y Z : Type 0} (h : List Y → List Z) → h [] ≡ [] → ((xs ys : List Y) → h (xs ++ ys) ≡ h xs ++ h ys) → (ds : List Bool) (columns : List (List ℕ)) (P : List (List Row) → Type 0) →
    ((v : List Value) (inputs : List (List Row)) → P inputs → P (behinds columns v inputs)) → (f : List Value → List (List Row) → List Y) (g : List Value → List (List Row) → List Z) →
    ((v : List Value) (inputs : List (List Row)) → P inputs → h (f v (fronts columns v inputs)) ≡ g v (fronts columns v inputs)) →
    (n : ℕ) (inputs : List (List Row)) → P inputs → h (run_by_run n ds columns f inputs) ≡ run_by_run n ds columns g inputs
mapped_runs h none joins ds columns P keeps f g same zero inputs p = none
mapped_runs {Y} {Z} h none joins ds columns P keeps f g same (suc n) inputs p = go (heads_in columns inputs) (λ others q. mapped_runs h none joins ds columns P keeps f g same n others q)
  where
    go : (hs : List (List Value)) → ((others : List (List Row)) → P others → h (run_by_run n ds columns f others) ≡ run_by_run n ds columns g others) → h (taken_off ds columns f inputs (run_by_run n ds columns f) hs) ≡ taken_off ds columns g inputs (run_by_run n ds columns g) hs
    go [] rec = none
    go (v ∷ vs) rec =
        let k : List Value = least_of ds v vs in
        joins (f k (fronts columns k inputs)) (run_by_run n ds columns f (behinds columns k inputs)) ∙ ap₂ (λ xs ys. xs ++ ys) (same k inputs p) (rec (behinds columns k inputs) (keeps k inputs p))

-- a rule of which each row is sent
sent_runs : (ds : List Bool) (columns : List (List ℕ)) (P : List (List Row) → Type 0) → ((v : List Value) (inputs : List (List Row)) → P inputs → P (behinds columns v inputs)) → (rule : List Value → List (List Row) → List Row) (outs : List Value → List (List Row) → List (Out Row Fault)) →
    ((v : List Value) (inputs : List (List Row)) → P inputs → map (sends 0) (rule v (fronts columns v inputs)) ≡ outs v (fronts columns v inputs)) → (n : ℕ) (inputs : List (List Row)) → P inputs → run_by_run n ds columns outs inputs ≡ map (sends 0) (run_by_run n ds columns rule inputs)
sent_runs ds columns P keeps rule outs same n inputs p = sym (mapped_runs (map (sends 0)) refl (map-append (sends 0)) ds columns P keeps rule outs same n inputs p)

-- rows of one width
abbrev AllHave : ℕ → List (List Row) → Type 0
AllHave width inputs = AllByRecursion (HaveWidth width) inputs

front_have : (width : ℕ) (cs : List ℕ) (v : List Value) (rows : List Row) → HaveWidth width rows → HaveWidth width (front cs v rows)
front_have width cs v [] h = tt
front_have width cs v (r ∷ rows) h = go (has cs v r) (front_have width cs v rows h.1)
  where
    go : (b : Bool) → HaveWidth width (front cs v rows) → HaveWidth width (cond b (r ∷ front cs v rows) [])
    go true k = (h.0, k)
    go false k = tt

behind_have : (width : ℕ) (cs : List ℕ) (v : List Value) (rows : List Row) → HaveWidth width rows → HaveWidth width (behind cs v rows)
behind_have width cs v [] h = tt
behind_have width cs v (r ∷ rows) h = go (has cs v r) (behind_have width cs v rows h.1)
  where
    go : (b : Bool) → HaveWidth width (behind cs v rows) → HaveWidth width (cond b (behind cs v rows) (r ∷ rows))
    go true k = k
    go false k = h

fronts_have : (width : ℕ) (columns : List (List ℕ)) (v : List Value) (inputs : List (List Row)) → AllHave width inputs → AllHave width (fronts columns v inputs)
fronts_have width [] v inputs h = tt
fronts_have width (cs ∷ columns) v [] h = tt
fronts_have width (cs ∷ columns) v (rows ∷ inputs) h = (front_have width cs v rows h.0, fronts_have width columns v inputs h.1)

behinds_have : (width : ℕ) (columns : List (List ℕ)) (v : List Value) (inputs : List (List Row)) → AllHave width inputs → AllHave width (behinds columns v inputs)
behinds_have width [] v inputs h = tt
behinds_have width (cs ∷ columns) v [] h = tt
behinds_have width (cs ∷ columns) v (rows ∷ inputs) h = (behind_have width cs v rows h.0, behinds_have width columns v inputs h.1)

input_has : (width i : ℕ) (inputs : List (List Row)) → AllHave width inputs → HaveWidth width (input i inputs)
input_has width zero [] h = tt
input_has width (suc i) [] h = tt
input_has width zero (rows ∷ inputs) h = h.0
input_has width (suc i) (rows ∷ inputs) h = input_has width i inputs h.1

-- for rows of one width, what is given is what is meant
coded_all : (by : ℕ → Capture) (width n : ℕ) (rows : List Row) → HaveWidth width rows → map (λ r. coded (by (length r)) n r) rows ≡ map (coded (by width) n) rows
coded_all by width n [] h = refl
coded_all by width n (r ∷ rows) h = ap₂ (λ x xs. x ∷ xs) (ap (λ w. coded (by w) n r) h.0) (coded_all by width n rows h.1)

captured_is : (by : ℕ → Capture) (width : ℕ) (befores afters : List Row) → HaveWidth width befores → HaveWidth width afters → captured by befores afters ≡ changes (by width) befores afters
captured_is by width [] afters h k = coded_all by width 1 afters k
captured_is by width (b ∷ befores) [] h k = coded_all by width 2 (b ∷ befores) h
captured_is by width (b ∷ befores) (a ∷ afters) h k = ap₂ (λ xs ys. xs ++ ys) (ap (λ w. change (by w) b a) k.0) (captured_is by width befores afters h.1 k.1)

pub captures_match_runs : CapturesMatchRuns
captures_match_runs keys values keep width lists outs h k g =
    runs_given (ways keys) (cols keys ∷ (cols keys ∷ [])) (capture_outs keys values keep) lists outs g
    ∙ sent_runs (ways keys) columns (AllHave width) (behinds_have width columns) (change_rule (capturing keys values keep width)) (capture_outs keys values keep)
    (λ v inputs p. let q = fronts_have width columns v inputs p in ap (map (sends 0)) (sym (captured_is (capturing keys values keep) width (input 0 (fronts columns v inputs)) (input 1 (fronts columns v inputs)) (input_has width 0 (fronts columns v inputs) q) (input_has width 1 (fronts columns v inputs) q))))
    (rows_in columns (lists 0 ∷ (lists 1 ∷ []))) (lists 0 ∷ (lists 1 ∷ [])) (h, (k, tt))
  where
    columns : List (List ℕ)
    columns = cols keys ∷ (cols keys ∷ [])

pub captures_match : CapturesMatch
captures_match keys values keep width lists outs h k up g =
    captures_match_runs keys values keep width lists outs h k g
    ∙ ap (map (sends 0)) (by_runs_is (ways keys) (cols keys ∷ (cols keys ∷ [])) (change_rule (capturing keys values keep width)) (lists 0 ∷ (lists 1 ∷ [])) up)
