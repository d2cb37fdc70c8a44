-- Runs are taken off until a first run isn't complete, or until no row waits.
use Rattle.std.proofs.Common.{◌≡◌, ℕ, zero, suc, ◌<◌, ◌≤◌, Bool, true, false, not, ◌&&◌, cond, ◌⊎◌, inl, inr, refl, sym, ap, ◌∙◌, subst, List, [], ◌∷◌, length, get_or, arith}
use Rattle.streams.specs.Streams.{Feed, ended, all_ended}
use Rattle.streams.specs.Operators.{by_number}
use Rattle.streams.proofs.Basics.{and_left, and_right}
use Rattle.streams.proofs.StreamLaws.{all_from}
use Rattle.streams.proofs.Picks.{not_true, picks_open, picks_some, picks_single}
use Rattle.ds_value.specs.declared.value.Value.{Value}
use Rattle.op_base.specs.Columns.{Row}
use Rattle.op_base.specs.Feeds.{behinds, heads_in, least_of, left, left_in, rest_of, rows_in, run_done, runs_done}
use Rattle.op_base.specs.Meanings.{input}
use Rattle.op_base.proofs.FeedLaws.{Among, fewer, least_among}
use Rattle.op_runs.specs.KeyedStreams.{KeyRule, port_rows, port_ends, waiting, run_asks, keyed_stream}
use Rattle.op_runs.specs.Laws.{KeyedIsStream, KeyedIsSingle}
use Rattle.op_runs.proofs.Ports.{length-ports, get_or-ports}

abbrev pub Stuck : List (List ℕ) → List Bool → List (List Row) → Type 0
Stuck columns ends inputs = (runs_done columns ends inputs ≡ false) ⊎ (heads_in columns inputs ≡ [])

no_heads : (columns : List (List ℕ)) (inputs : List (List Row)) → rows_in columns inputs ≤ 0 → heads_in columns inputs ≡ []
no_heads [] inputs l = refl
no_heads (cs ∷ columns) [] l = refl
no_heads (cs ∷ columns) ([] ∷ inputs) l = no_heads columns inputs (omega arith)
no_heads (cs ∷ columns) ((r ∷ rows) ∷ inputs) l = absurd (omega arith)

stuck_in : (n : ℕ) (ds : List Bool) (columns : List (List ℕ)) (ends : List Bool) (inputs : List (List Row)) → rows_in columns inputs ≤ n → Stuck columns ends (left_in n ds columns ends inputs)
stuck_in zero ds columns ends inputs l = inr (no_heads columns inputs l)
stuck_in (suc n) ds columns ends inputs l = go (runs_done columns ends inputs) refl (heads_in columns inputs) refl (λ others k. stuck_in n ds columns ends others k)
  where
    go : (b : Bool) → runs_done columns ends inputs ≡ b → (hs : List (List Value)) → heads_in columns inputs ≡ hs → ((others : List (List Row)) → rows_in columns others ≤ n → Stuck columns ends (left_in n ds columns ends others)) →
        Stuck columns ends (cond b (rest_of ds columns inputs (left_in n ds columns ends) hs) inputs)
    go false d hs e rec = inl d
    go true d [] e rec = inr e
    go true d (v ∷ vs) e rec =
        let k : List Value = least_of ds v vs in
        let f = fewer columns k inputs (subst (Among k) (sym e) (least_among ds v vs)) in
        rec (behinds columns k inputs) (omega (arith, f, l))

-- what is left can't be taken off
pub left_stuck : (ds : List Bool) (columns : List (List ℕ)) (ends : List Bool) (inputs : List (List Row)) → Stuck columns ends (left ds columns ends inputs)
left_stuck ds columns ends inputs = stuck_in (rows_in columns inputs) ds columns ends inputs (omega arith)

-- as many ports as before
behinds_long : (columns : List (List ℕ)) (k : List Value) (inputs : List (List Row)) → length inputs ≡ length columns → length (behinds columns k inputs) ≡ length columns
behinds_long [] k inputs e = refl
behinds_long (cs ∷ columns) k [] e = absurd (omega (arith, e))
behinds_long (cs ∷ columns) k (rows ∷ inputs) e = ap suc (behinds_long columns k inputs (omega (arith, e)))

long_in : (n : ℕ) (ds : List Bool) (columns : List (List ℕ)) (ends : List Bool) (inputs : List (List Row)) → length inputs ≡ length columns → length (left_in n ds columns ends inputs) ≡ length columns
long_in zero ds columns ends inputs e = e
long_in (suc n) ds columns ends inputs e = go (runs_done columns ends inputs) (heads_in columns inputs) (λ others k. long_in n ds columns ends others k)
  where
    go : (b : Bool) (hs : List (List Value)) → ((others : List (List Row)) → length others ≡ length columns → length (left_in n ds columns ends others) ≡ length columns) → length (cond b (rest_of ds columns inputs (left_in n ds columns ends) hs) inputs) ≡ length columns
    go false hs rec = e
    go true [] rec = e
    go true (v ∷ vs) rec = rec (behinds columns (least_of ds v vs) inputs) (behinds_long columns (least_of ds v vs) inputs e)

pub waiting-length : (ds : List Bool) (columns : List (List ℕ)) (feeds : List (Feed Row)) → length (waiting ds columns feeds) ≡ length columns
waiting-length ds columns feeds = long_in (rows_in columns rows) ds columns ends rows (length-ports _ 0 (length columns))
  where
    rows : List (List Row)
    rows = port_rows (length columns) feeds

    ends : List Bool
    ends = port_ends (length columns) feeds

-- a run that isn't complete is one of an open port
pub run_open : (cs : List ℕ) (e : Bool) (rows : List Row) → run_done cs e rows ≡ false → e ≡ false
run_open cs e [] h = h
run_open cs true (r ∷ rows) h = h
run_open cs false (r ∷ rows) h = refl

some_asks : (columns : List (List ℕ)) (ends : List Bool) (inputs : List (List Row)) → length ends ≡ length columns → length inputs ≡ length columns → runs_done columns ends inputs ≡ false → (i : ℕ) × (i < length columns) × (run_done (get_or columns i []) (get_or ends i false) (input i inputs) ≡ false)
some_asks [] ends inputs e f h = cc
some_asks (cs ∷ columns) [] inputs e f h = absurd (omega (arith, e))
some_asks (cs ∷ columns) (x ∷ ends) [] e f h = absurd (omega (arith, f))
some_asks (cs ∷ columns) (x ∷ ends) (rows ∷ inputs) e f h = go (run_done cs x rows) refl h (λ k. some_asks columns ends inputs (omega (arith, e)) (omega (arith, f)) k)
  where
    go : (b : Bool) → run_done cs x rows ≡ b → (b && runs_done columns ends inputs) ≡ false → (runs_done columns ends inputs ≡ false → (i : ℕ) × (i < length columns) × (run_done (get_or columns i []) (get_or ends i false) (input i inputs) ≡ false)) →
        (i : ℕ) × (i < suc (length columns)) × (run_done (get_or (cs ∷ columns) i []) (get_or (x ∷ ends) i false) (input i (rows ∷ inputs)) ≡ false)
    go false d k rec = (0, omega arith, d)
    go true d k rec = let r = rec k in (suc r.0, let l = r.1 in omega (arith, l), r.2)

-- where no row waits, complete runs are those of ended ports
pub ended_all : (columns : List (List ℕ)) (ends : List Bool) (inputs : List (List Row)) → runs_done columns ends inputs ≡ true → heads_in columns inputs ≡ [] → (i : ℕ) → i < length columns → get_or ends i false ≡ true
ended_all [] ends inputs h k i l = absurd (omega (arith, l))
ended_all (cs ∷ columns) [] inputs h k i l = cc
ended_all (cs ∷ columns) (e ∷ ends) [] h k i l = cc
ended_all (cs ∷ columns) (e ∷ ends) ((r ∷ rows) ∷ inputs) h k i l = cc
ended_all (cs ∷ columns) (e ∷ ends) ([] ∷ inputs) h k zero l = and_left e (runs_done columns ends inputs) h
ended_all (cs ∷ columns) (e ∷ ends) ([] ∷ inputs) h k (suc i) l = ended_all columns ends inputs (and_right e (runs_done columns ends inputs) h) k i (omega (arith, l))

module _ (ds : List Bool) (columns : List (List ℕ)) (rule : KeyRule) where
  pub wanted_open : (feeds : List (Feed Row)) (i : ℕ) → (keyed_stream ds columns rule).wants feeds i ≡ true → (i < length columns) × (ended i feeds ≡ false)
  wanted_open feeds i w = let o = picks_open (length columns) by_number (run_asks columns feeds (waiting ds columns feeds)) i w in
      (o.0, run_open (get_or columns i []) (ended i feeds) (input i (waiting ds columns feeds)) (not_true _ o.1))

  pub hungry_or_ended : (feeds : List (Feed Row)) → ((i : ℕ) × ((keyed_stream ds columns rule).wants feeds i ≡ true)) ⊎ (all_ended (keyed_stream ds columns rule) feeds ≡ true)
  hungry_or_ended feeds = go (runs_done columns ends inputs) refl (left_stuck ds columns ends (port_rows (length columns) feeds))
    where
      ends : List Bool
      ends = port_ends (length columns) feeds

      inputs : List (List Row)
      inputs = waiting ds columns feeds

      end_is : (i : ℕ) → i < length columns → get_or ends i false ≡ ended i feeds
      end_is i l = get_or-ports (λ j. ended j feeds) false i (length columns) l

      go : (b : Bool) → runs_done columns ends inputs ≡ b → Stuck columns ends inputs → ((i : ℕ) × ((keyed_stream ds columns rule).wants feeds i ≡ true)) ⊎ (all_ended (keyed_stream ds columns rule) feeds ≡ true)
      go false d s =
          let r = some_asks columns ends inputs (length-ports _ 0 (length columns)) (waiting-length ds columns feeds) d in
          inl (picks_some (length columns) by_number (run_asks columns feeds inputs) r.0 r.1 (ap not (ap (λ e. run_done (get_or columns r.0 []) e (input r.0 inputs)) (sym (end_is r.0 r.1)) ∙ r.2)))
      go true d (inl s) = let n : true ≡ false = sym d ∙ s in cc
      go true d (inr s) = inr (all_from (length columns) (λ i. ended i feeds) (λ i l. sym (end_is i l) ∙ ended_all columns ends inputs d s i l))

pub keyed_is : KeyedIsStream
keyed_is ds columns rule some = record {
  some = some;
  opens = λ feeds i w. wanted_open ds columns rule feeds i w;
  hungry = λ feeds fed. hungry_or_ended ds columns rule feeds;
}

pub keyed_single : KeyedIsSingle
keyed_single ds columns rule feeds i j = picks_single (length columns) by_number (run_asks columns feeds (waiting ds columns feeds)) (λ a b la lb e. e) i j
