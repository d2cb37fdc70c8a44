-- What one more row, or the end of a port, adds to what was emitted.
use Rattle.std.proofs.Common.{Bool, List, ap, append_assoc, ap₂, arith, cond, false, length, map, refl, subst, suc, sym, true, zero, ℕ, ◌≡◌, ◌<◌, ◌≤◌, ◌∷◌, ◌++◌, ◌∙◌, ◌&&◌, []}
use Rattle.ds_schema.specs.Rows.{has, val}
use Rattle.ds_value.specs.declared.value.Value.{Value}
use Rattle.op_base.specs.Columns.{Row}
use Rattle.op_base.specs.Feeds.{IsOpen, behind, behinds, emits, emits_in, end_at, fed, front, fronts, has_some, head_in, heads_in, least_of, left, left_in, rest_of, rows_in, run_by_run, run_done, runs_done, taken_off}
use Rattle.op_base.specs.Meanings.{change}
use Rattle.op_base.proofs.All.{both_true}
use Rattle.op_base.proofs.FeedLaws.{Among, fewer, least_among}
use Rattle.op_base.proofs.Orders.{has_val}

least_of_heads : (ds : List Bool) (columns : List (List ℕ)) (inputs : List (List Row)) (v : List Value) (vs : List (List Value)) → heads_in columns inputs ≡ v ∷ vs → rows_in columns (behinds columns (least_of ds v vs) inputs) < rows_in columns inputs
least_of_heads ds columns inputs v vs e = fewer columns (least_of ds v vs) inputs (subst (Among (least_of ds v vs)) (sym e) (least_among ds v vs))

no_round : (columns : List (List ℕ)) (inputs : List (List Row)) → rows_in columns inputs ≤ 0 → heads_in columns inputs ≡ []
no_round [] inputs l = refl
no_round (cs ∷ columns) [] l = refl
no_round (cs ∷ columns) ([] ∷ inputs) l = no_round columns inputs (omega arith)
no_round (cs ∷ columns) ((r ∷ rows) ∷ inputs) l = absurd (omega arith)

cond_same : {X : Type 0} (b : Bool) (x : X) → cond b x x ≡ x
cond_same true x = refl
cond_same false x = refl

-- any number of rounds that is enough gives the same
enough : {Y : Type 0} (n m : ℕ) (ds : List Bool) (columns : List (List ℕ)) (rule : List Value → List (List Row) → List Y) (ended : List Bool) (inputs : List (List Row)) → rows_in columns inputs ≤ n → rows_in columns inputs ≤ m → emits_in n ds columns rule ended inputs ≡ emits_in m ds columns rule ended inputs
enough zero zero ds columns rule ended inputs l k = refl
enough zero (suc m) ds columns rule ended inputs l k = sym (ap (λ hs. cond (runs_done columns ended inputs) (taken_off ds columns rule inputs (emits_in m ds columns rule ended) hs) []) (no_round columns inputs l) ∙ cond_same (runs_done columns ended inputs) [])
enough (suc n) zero ds columns rule ended inputs l k = ap (λ hs. cond (runs_done columns ended inputs) (taken_off ds columns rule inputs (emits_in n ds columns rule ended) hs) []) (no_round columns inputs k) ∙ cond_same (runs_done columns ended inputs) []
enough (suc n) (suc m) ds columns rule ended inputs l k = ap (λ xs. cond (runs_done columns ended inputs) xs []) (go (λ others a b. enough n m ds columns rule ended others a b) (heads_in columns inputs) refl)
  where
    go : ((others : List (List Row)) → rows_in columns others ≤ n → rows_in columns others ≤ m → emits_in n ds columns rule ended others ≡ emits_in m ds columns rule ended others) → (hs : List (List Value)) → heads_in columns inputs ≡ hs → taken_off ds columns rule inputs (emits_in n ds columns rule ended) hs ≡ taken_off ds columns rule inputs (emits_in m ds columns rule ended) hs
    go rec [] e = refl
    go rec (v ∷ vs) e = let f = least_of_heads ds columns inputs v vs e in ap (λ ys. rule (least_of ds v vs) (fronts columns (least_of ds v vs) inputs) ++ ys) (rec (behinds columns (least_of ds v vs) inputs) (omega (arith, f, l)) (omega (arith, f, k)))

enough_left : (n m : ℕ) (ds : List Bool) (columns : List (List ℕ)) (ended : List Bool) (inputs : List (List Row)) → rows_in columns inputs ≤ n → rows_in columns inputs ≤ m → left_in n ds columns ended inputs ≡ left_in m ds columns ended inputs
enough_left zero zero ds columns ended inputs l k = refl
enough_left zero (suc m) ds columns ended inputs l k = sym (ap (λ hs. cond (runs_done columns ended inputs) (rest_of ds columns inputs (left_in m ds columns ended) hs) inputs) (no_round columns inputs l) ∙ cond_same (runs_done columns ended inputs) inputs)
enough_left (suc n) zero ds columns ended inputs l k = ap (λ hs. cond (runs_done columns ended inputs) (rest_of ds columns inputs (left_in n ds columns ended) hs) inputs) (no_round columns inputs k) ∙ cond_same (runs_done columns ended inputs) inputs
enough_left (suc n) (suc m) ds columns ended inputs l k = ap (λ xs. cond (runs_done columns ended inputs) xs inputs) (go (λ others a b. enough_left n m ds columns ended others a b) (heads_in columns inputs) refl)
  where
    go : ((others : List (List Row)) → rows_in columns others ≤ n → rows_in columns others ≤ m → left_in n ds columns ended others ≡ left_in m ds columns ended others) → (hs : List (List Value)) → heads_in columns inputs ≡ hs → rest_of ds columns inputs (left_in n ds columns ended) hs ≡ rest_of ds columns inputs (left_in m ds columns ended) hs
    go rec [] e = refl
    go rec (v ∷ vs) e = let f = least_of_heads ds columns inputs v vs e in rec (behinds columns (least_of ds v vs) inputs) (omega (arith, f, l)) (omega (arith, f, k))

-- a round, with enough rounds behind it
pub round_emits : {Y : Type 0} (ds : List Bool) (columns : List (List ℕ)) (rule : List Value → List (List Row) → List Y) (ended : List Bool) (inputs : List (List Row)) → emits ds columns rule ended inputs ≡ cond (runs_done columns ended inputs) (taken_off ds columns rule inputs (emits ds columns rule ended) (heads_in columns inputs)) []
round_emits {Y} ds columns rule ended inputs =
    enough (rows_in columns inputs) (suc (rows_in columns inputs)) ds columns rule ended inputs (omega arith) (omega arith) ∙ ap (λ xs. cond (runs_done columns ended inputs) xs []) (go (heads_in columns inputs) refl)
  where
    go : (hs : List (List Value)) → heads_in columns inputs ≡ hs → taken_off ds columns rule inputs (emits_in (rows_in columns inputs) ds columns rule ended) hs ≡ taken_off ds columns rule inputs (emits ds columns rule ended) hs
    go [] e = refl
    go (v ∷ vs) e =
        let f = least_of_heads ds columns inputs v vs e in
        let others = behinds columns (least_of ds v vs) inputs in
        ap (λ ys. rule (least_of ds v vs) (fronts columns (least_of ds v vs) inputs) ++ ys) (enough (rows_in columns inputs) (rows_in columns others) ds columns rule ended others (omega (arith, f)) (omega arith))

pub round_left : (ds : List Bool) (columns : List (List ℕ)) (ended : List Bool) (inputs : List (List Row)) → left ds columns ended inputs ≡ cond (runs_done columns ended inputs) (rest_of ds columns inputs (left ds columns ended) (heads_in columns inputs)) inputs
round_left ds columns ended inputs =
    enough_left (rows_in columns inputs) (suc (rows_in columns inputs)) ds columns ended inputs (omega arith) (omega arith) ∙ ap (λ xs. cond (runs_done columns ended inputs) xs inputs) (go (heads_in columns inputs) refl)
  where
    go : (hs : List (List Value)) → heads_in columns inputs ≡ hs → rest_of ds columns inputs (left_in (rows_in columns inputs) ds columns ended) hs ≡ rest_of ds columns inputs (left ds columns ended) hs
    go [] e = refl
    go (v ∷ vs) e =
        let f = least_of_heads ds columns inputs v vs e in
        let others = behinds columns (least_of ds v vs) inputs in
        enough_left (rows_in columns inputs) (rows_in columns others) ds columns ended others (omega (arith, f)) (omega arith)

-- A change of what the ports have that leaves complete runs as they are.
pub record Adds (columns : List (List ℕ)) (ended later : List Bool) (change : List (List Row) → List (List Row)) : Type 0 where
  pub done : (inputs : List (List Row)) → runs_done columns ended inputs ≡ true → runs_done columns later (change inputs) ≡ true
  pub heads : (inputs : List (List Row)) → runs_done columns ended inputs ≡ true → heads_in columns (change inputs) ≡ heads_in columns inputs
  pub fronts_same : (inputs : List (List Row)) (k : List Value) → runs_done columns ended inputs ≡ true → fronts columns k (change inputs) ≡ fronts columns k inputs
  pub behinds_same : (inputs : List (List Row)) (k : List Value) → runs_done columns ended inputs ≡ true → behinds columns k (change inputs) ≡ change (behinds columns k inputs)

abbrev More : {Y : Type 0} → List Bool → List (List ℕ) → (List Value → List (List Row) → List Y) → List Bool → List Bool → (List (List Row) → List (List Row)) → List (List Row) → Type 0
More ds columns rule ended later change inputs = emits ds columns rule later (change inputs) ≡ emits ds columns rule ended inputs ++ emits ds columns rule later (change (left ds columns ended inputs))

more_step : {Y : Type 0} (ds : List Bool) (columns : List (List ℕ)) (rule : List Value → List (List Row) → List Y) (ended later : List Bool) (change : List (List Row) → List (List Row)) → Adds columns ended later change → (inputs : List (List Row)) →
    ((others : List (List Row)) → rows_in columns others < rows_in columns inputs → More ds columns rule ended later change others) → More ds columns rule ended later change inputs
more_step {Y} ds columns rule ended later change a inputs rec = go (runs_done columns ended inputs) refl (heads_in columns inputs) refl
  where
    nothing : emits ds columns rule ended inputs ≡ [] → left ds columns ended inputs ≡ inputs → More ds columns rule ended later change inputs
    nothing e f = sym (ap₂ (λ xs ys. xs ++ emits ds columns rule later (change ys)) e f)

    go : (b : Bool) → runs_done columns ended inputs ≡ b → (hs : List (List Value)) → heads_in columns inputs ≡ hs → More ds columns rule ended later change inputs
    go false d hs e =
        nothing (round_emits ds columns rule ended inputs ∙ ap (λ b. cond b (taken_off ds columns rule inputs (emits ds columns rule ended) (heads_in columns inputs)) []) d)
        (round_left ds columns ended inputs ∙ ap (λ b. cond b (rest_of ds columns inputs (left ds columns ended) (heads_in columns inputs)) inputs) d)
    go true d [] e =
        nothing (round_emits ds columns rule ended inputs ∙ ap (λ hs. cond (runs_done columns ended inputs) (taken_off ds columns rule inputs (emits ds columns rule ended) hs) []) e ∙ cond_same (runs_done columns ended inputs) [])
        (round_left ds columns ended inputs ∙ ap (λ hs. cond (runs_done columns ended inputs) (rest_of ds columns inputs (left ds columns ended) hs) inputs) e ∙ cond_same (runs_done columns ended inputs) inputs)
    go true d (v ∷ vs) e = finish
      where
        key : List Value
        key = least_of ds v vs

        others : List (List Row)
        others = behinds columns key inputs

        now : List Y
        now = rule key (fronts columns key inputs)

        changed : emits ds columns rule later (change inputs) ≡ now ++ emits ds columns rule later (change others)
        changed =
            round_emits ds columns rule later (change inputs)
            ∙ ap₂ (λ b hs. cond b (taken_off ds columns rule (change inputs) (emits ds columns rule later) hs) []) (a.done inputs d) (a.heads inputs d ∙ e)
            ∙ ap₂ (λ fs bs. rule key fs ++ emits ds columns rule later bs) (a.fronts_same inputs key d) (a.behinds_same inputs key d)

        before : emits ds columns rule ended inputs ≡ now ++ emits ds columns rule ended others
        before = round_emits ds columns rule ended inputs ∙ ap₂ (λ b hs. cond b (taken_off ds columns rule inputs (emits ds columns rule ended) hs) []) d e

        rest : left ds columns ended inputs ≡ left ds columns ended others
        rest = round_left ds columns ended inputs ∙ ap₂ (λ b hs. cond b (rest_of ds columns inputs (left ds columns ended) hs) inputs) d e

        finish : More ds columns rule ended later change inputs
        finish =
            changed ∙ ap (λ ys. now ++ ys) (rec others (least_of_heads ds columns inputs v vs e))
            ∙ sym (append_assoc now (emits ds columns rule ended others) (emits ds columns rule later (change (left ds columns ended others))))
            ∙ ap₂ (λ xs ys. xs ++ emits ds columns rule later (change ys)) (sym before) (sym rest)

-- What was emitted stays, and what is emitted now is what the rows that weren't taken off give with the change.
pub emits_more : {Y : Type 0} (n : ℕ) (ds : List Bool) (columns : List (List ℕ)) (rule : List Value → List (List Row) → List Y) (ended later : List Bool) (change : List (List Row) → List (List Row)) → Adds columns ended later change → (inputs : List (List Row)) → rows_in columns inputs ≤ n →
    emits ds columns rule later (change inputs) ≡ emits ds columns rule ended inputs ++ emits ds columns rule later (change (left ds columns ended inputs))
emits_more zero ds columns rule ended later change a inputs l = more_step ds columns rule ended later change a inputs (λ others s. absurd (omega (arith, s, l)))
emits_more (suc n) ds columns rule ended later change a inputs l = more_step ds columns rule ended later change a inputs (λ others s. emits_more n ds columns rule ended later change a others (omega (arith, s, l)))

-- one port: a complete run stays what it is when a row follows
some_more : (cs : List ℕ) (k : List Value) (x : Row) (rows : List Row) → has_some (behind cs k rows) ≡ true → (front cs k (rows ++ (x ∷ [])) ≡ front cs k rows) × (behind cs k (rows ++ (x ∷ [])) ≡ behind cs k rows ++ (x ∷ []))
some_more cs k x [] h = cc
some_more cs k x (r ∷ rows) h = go (has cs k r) (some_more cs k x rows) h
  where
    go : (b : Bool) → (has_some (behind cs k rows) ≡ true → (front cs k (rows ++ (x ∷ [])) ≡ front cs k rows) × (behind cs k (rows ++ (x ∷ [])) ≡ behind cs k rows ++ (x ∷ []))) → has_some (cond b (behind cs k rows) (r ∷ rows)) ≡ true →
        (cond b (r ∷ front cs k (rows ++ (x ∷ []))) [] ≡ cond b (r ∷ front cs k rows) []) × (cond b (behind cs k (rows ++ (x ∷ []))) (r ∷ (rows ++ (x ∷ []))) ≡ cond b (behind cs k rows) (r ∷ rows) ++ (x ∷ []))
    go true rec s = let t = rec s in (ap (λ xs. r ∷ xs) t.0, t.1)
    go false rec s = (refl, refl)

done_some : (cs : List ℕ) (rows : List Row) → run_done cs false rows ≡ true → (k : List Value) → has_some (behind cs k rows) ≡ true
done_some cs [] h k = cc
done_some cs (r ∷ rows) h k = go (has cs k r) refl
  where
    go : (b : Bool) → has cs k r ≡ b → has_some (cond b (behind cs k rows) (r ∷ rows)) ≡ true
    go true e = subst (λ v. has_some (behind cs v rows) ≡ true) (has_val cs k r e) h
    go false e = refl

some_append : (xs : List Row) (x : Row) → has_some (xs ++ (x ∷ [])) ≡ true
some_append [] x = refl
some_append (y ∷ xs) x = refl

done_more : (cs : List ℕ) (x : Row) (rows : List Row) → run_done cs false rows ≡ true → run_done cs false (rows ++ (x ∷ [])) ≡ true
done_more cs x [] h = cc
done_more cs x (r ∷ rows) h = ap has_some (some_more cs (val cs r) x rows h).1 ∙ some_append (behind cs (val cs r) rows) x

head_more : (cs : List ℕ) (x : Row) (rows : List Row) → run_done cs false rows ≡ true → head_in cs (rows ++ (x ∷ [])) ≡ head_in cs rows
head_more cs x [] h = cc
head_more cs x (r ∷ rows) h = refl

open_port : (cs : List ℕ) (e : Bool) (rows : List Row) → e ≡ false → run_done cs e rows ≡ true → run_done cs false rows ≡ true
open_port cs e rows f h = subst (λ b. run_done cs b rows ≡ true) f h

fed_done : (columns : List (List ℕ)) (ended : List Bool) (i : ℕ) (x : Row) → IsOpen i ended → (inputs : List (List Row)) → runs_done columns ended inputs ≡ true → runs_done columns ended (fed i x inputs) ≡ true
fed_done [] ended i x o inputs h = refl
fed_done (cs ∷ columns) [] i x o inputs h = cc
fed_done (cs ∷ columns) (e ∷ ended) i x o [] h = cc
fed_done (cs ∷ columns) (e ∷ ended) zero x o (rows ∷ inputs) h = let t = both_true (run_done cs e rows) (runs_done columns ended inputs) h in
    ap₂ (λ a b. a && b) (subst (λ b. run_done cs b (rows ++ (x ∷ [])) ≡ true) (sym o) (done_more cs x rows (open_port cs e rows o t.0))) t.1
fed_done (cs ∷ columns) (e ∷ ended) (suc i) x o (rows ∷ inputs) h = let t = both_true (run_done cs e rows) (runs_done columns ended inputs) h in ap₂ (λ a b. a && b) t.0 (fed_done columns ended i x o inputs t.1)

fed_heads : (columns : List (List ℕ)) (ended : List Bool) (i : ℕ) (x : Row) → IsOpen i ended → (inputs : List (List Row)) → runs_done columns ended inputs ≡ true → heads_in columns (fed i x inputs) ≡ heads_in columns inputs
fed_heads [] ended i x o inputs h = refl
fed_heads (cs ∷ columns) [] i x o inputs h = cc
fed_heads (cs ∷ columns) (e ∷ ended) i x o [] h = cc
fed_heads (cs ∷ columns) (e ∷ ended) zero x o (rows ∷ inputs) h = let t = both_true (run_done cs e rows) (runs_done columns ended inputs) h in ap (λ hs. hs ++ heads_in columns inputs) (head_more cs x rows (open_port cs e rows o t.0))
fed_heads (cs ∷ columns) (e ∷ ended) (suc i) x o (rows ∷ inputs) h = let t = both_true (run_done cs e rows) (runs_done columns ended inputs) h in ap (λ hs. head_in cs rows ++ hs) (fed_heads columns ended i x o inputs t.1)

fed_fronts : (columns : List (List ℕ)) (ended : List Bool) (i : ℕ) (x : Row) → IsOpen i ended → (inputs : List (List Row)) (k : List Value) → runs_done columns ended inputs ≡ true → fronts columns k (fed i x inputs) ≡ fronts columns k inputs
fed_fronts [] ended i x o inputs k h = refl
fed_fronts (cs ∷ columns) [] i x o inputs k h = cc
fed_fronts (cs ∷ columns) (e ∷ ended) i x o [] k h = cc
fed_fronts (cs ∷ columns) (e ∷ ended) zero x o (rows ∷ inputs) k h = let t = both_true (run_done cs e rows) (runs_done columns ended inputs) h in ap (λ f. f ∷ fronts columns k inputs) (some_more cs k x rows (done_some cs rows (open_port cs e rows o t.0) k)).0
fed_fronts (cs ∷ columns) (e ∷ ended) (suc i) x o (rows ∷ inputs) k h = let t = both_true (run_done cs e rows) (runs_done columns ended inputs) h in ap (λ fs. front cs k rows ∷ fs) (fed_fronts columns ended i x o inputs k t.1)

fed_behinds : (columns : List (List ℕ)) (ended : List Bool) (i : ℕ) (x : Row) → IsOpen i ended → (inputs : List (List Row)) (k : List Value) → runs_done columns ended inputs ≡ true → behinds columns k (fed i x inputs) ≡ fed i x (behinds columns k inputs)
fed_behinds [] ended i x o inputs k h = refl
fed_behinds (cs ∷ columns) [] i x o inputs k h = cc
fed_behinds (cs ∷ columns) (e ∷ ended) i x o [] k h = cc
fed_behinds (cs ∷ columns) (e ∷ ended) zero x o (rows ∷ inputs) k h = let t = both_true (run_done cs e rows) (runs_done columns ended inputs) h in ap (λ f. f ∷ behinds columns k inputs) (some_more cs k x rows (done_some cs rows (open_port cs e rows o t.0) k)).1
fed_behinds (cs ∷ columns) (e ∷ ended) (suc i) x o (rows ∷ inputs) k h = let t = both_true (run_done cs e rows) (runs_done columns ended inputs) h in ap (λ fs. behind cs k rows ∷ fs) (fed_behinds columns ended i x o inputs k t.1)

pub fed_adds : (columns : List (List ℕ)) (ended : List Bool) (i : ℕ) (x : Row) → IsOpen i ended → Adds columns ended ended (fed i x)
fed_adds columns ended i x o = record { done = fed_done columns ended i x o; heads = fed_heads columns ended i x o; fronts_same = fed_fronts columns ended i x o; behinds_same = fed_behinds columns ended i x o }

ended_done : (cs : List ℕ) (rows : List Row) → run_done cs true rows ≡ true
ended_done cs [] = refl
ended_done cs (r ∷ rows) = refl

end_done : (columns : List (List ℕ)) (ended : List Bool) (i : ℕ) (inputs : List (List Row)) → runs_done columns ended inputs ≡ true → runs_done columns (end_at i ended) inputs ≡ true
end_done [] ended i inputs h = refl
end_done (cs ∷ columns) [] i inputs h = cc
end_done (cs ∷ columns) (e ∷ ended) zero [] h = cc
end_done (cs ∷ columns) (e ∷ ended) (suc i) [] h = cc
end_done (cs ∷ columns) (e ∷ ended) zero (rows ∷ inputs) h = let t = both_true (run_done cs e rows) (runs_done columns ended inputs) h in ap₂ (λ a b. a && b) (ended_done cs rows) t.1
end_done (cs ∷ columns) (e ∷ ended) (suc i) (rows ∷ inputs) h = let t = both_true (run_done cs e rows) (runs_done columns ended inputs) h in ap₂ (λ a b. a && b) t.0 (end_done columns ended i inputs t.1)

pub end_adds : (columns : List (List ℕ)) (ended : List Bool) (i : ℕ) → Adds columns ended (end_at i ended) (λ inputs. inputs)
end_adds columns ended i = record { done = end_done columns ended i; heads = λ inputs h. refl; fronts_same = λ inputs k h. refl; behinds_same = λ inputs k h. refl }

-- once all ports have ended, what was emitted is what is done run by run
all_done : (columns : List (List ℕ)) (inputs : List (List Row)) → length columns ≡ length inputs → runs_done columns (map (λ cs. true) columns) inputs ≡ true
all_done [] inputs e = refl
all_done (cs ∷ columns) [] e = absurd (omega arith)
all_done (cs ∷ columns) (rows ∷ inputs) e = ap₂ (λ a b. a && b) (ended_done cs rows) (all_done columns inputs (omega arith))

behinds_long : (columns : List (List ℕ)) (k : List Value) (inputs : List (List Row)) → length columns ≡ length inputs → length columns ≡ length (behinds columns k inputs)
behinds_long [] k inputs e = refl
behinds_long (cs ∷ columns) k [] e = absurd (omega arith)
behinds_long (cs ∷ columns) k (rows ∷ inputs) e = ap suc (behinds_long columns k inputs (omega arith))

pub emits_ended : {Y : Type 0} (n : ℕ) (ds : List Bool) (columns : List (List ℕ)) (rule : List Value → List (List Row) → List Y) (inputs : List (List Row)) → length columns ≡ length inputs → emits_in n ds columns rule (map (λ cs. true) columns) inputs ≡ run_by_run n ds columns rule inputs
emits_ended zero ds columns rule inputs e = refl
emits_ended (suc n) ds columns rule inputs e = ap (λ b. cond b (taken_off ds columns rule inputs (emits_in n ds columns rule (map (λ cs. true) columns)) (heads_in columns inputs)) []) (all_done columns inputs e) ∙ go (λ others f. emits_ended n ds columns rule others f) (heads_in columns inputs)
  where
    go : ((others : List (List Row)) → length columns ≡ length others → emits_in n ds columns rule (map (λ cs. true) columns) others ≡ run_by_run n ds columns rule others) → (hs : List (List Value)) → taken_off ds columns rule inputs (emits_in n ds columns rule (map (λ cs. true) columns)) hs ≡ taken_off ds columns rule inputs (run_by_run n ds columns rule) hs
    go rec [] = refl
    go rec (v ∷ vs) = ap (λ ys. rule (least_of ds v vs) (fronts columns (least_of ds v vs) inputs) ++ ys) (rec (behinds columns (least_of ds v vs) inputs) (behinds_long columns (least_of ds v vs) inputs e))

-- The law of one item: feeding a row to an open port, or its end, appends what the rows that are left give with it.
pub feed_emits : {Y : Type 0} (ds : List Bool) (columns : List (List ℕ)) (rule : List Value → List (List Row) → List Y) (ended : List Bool) (i : ℕ) (x : Row) (inputs : List (List Row)) → IsOpen i ended → emits ds columns rule ended (fed i x inputs) ≡ emits ds columns rule ended inputs ++ emits ds columns rule ended (fed i x (left ds columns ended inputs))
feed_emits ds columns rule ended i x inputs o = emits_more (rows_in columns inputs) ds columns rule ended ended (fed i x) (fed_adds columns ended i x o) inputs (omega arith)

pub end_emits : {Y : Type 0} (ds : List Bool) (columns : List (List ℕ)) (rule : List Value → List (List Row) → List Y) (ended : List Bool) (i : ℕ) (inputs : List (List Row)) → emits ds columns rule (end_at i ended) inputs ≡ emits ds columns rule ended inputs ++ emits ds columns rule (end_at i ended) (left ds columns ended inputs)
end_emits ds columns rule ended i inputs = emits_more (rows_in columns inputs) ds columns rule ended (end_at i ended) (λ xs. xs) (end_adds columns ended i) inputs (omega arith)

left_step : (ds : List Bool) (columns : List (List ℕ)) (ended later : List Bool) (change : List (List Row) → List (List Row)) → Adds columns ended later change → (inputs : List (List Row)) →
    ((others : List (List Row)) → rows_in columns others < rows_in columns inputs → left ds columns later (change others) ≡ left ds columns later (change (left ds columns ended others))) → left ds columns later (change inputs) ≡ left ds columns later (change (left ds columns ended inputs))
left_step ds columns ended later change a inputs rec = go (runs_done columns ended inputs) refl (heads_in columns inputs) refl
  where
    nothing : left ds columns ended inputs ≡ inputs → left ds columns later (change inputs) ≡ left ds columns later (change (left ds columns ended inputs))
    nothing f = sym (ap (λ ys. left ds columns later (change ys)) f)

    go : (b : Bool) → runs_done columns ended inputs ≡ b → (hs : List (List Value)) → heads_in columns inputs ≡ hs → left ds columns later (change inputs) ≡ left ds columns later (change (left ds columns ended inputs))
    go false d hs e = nothing (round_left ds columns ended inputs ∙ ap (λ b. cond b (rest_of ds columns inputs (left ds columns ended) (heads_in columns inputs)) inputs) d)
    go true d [] e = nothing (round_left ds columns ended inputs ∙ ap (λ hs. cond (runs_done columns ended inputs) (rest_of ds columns inputs (left ds columns ended) hs) inputs) e ∙ cond_same (runs_done columns ended inputs) inputs)
    go true d (v ∷ vs) e =
        round_left ds columns later (change inputs)
        ∙ ap₂ (λ b hs. cond b (rest_of ds columns (change inputs) (left ds columns later) hs) (change inputs)) (a.done inputs d) (a.heads inputs d ∙ e)
        ∙ ap (left ds columns later) (a.behinds_same inputs (least_of ds v vs) d)
        ∙ rec (behinds columns (least_of ds v vs) inputs) (least_of_heads ds columns inputs v vs e)
        ∙ ap (λ ys. left ds columns later (change ys)) (sym (round_left ds columns ended inputs ∙ ap₂ (λ b hs. cond b (rest_of ds columns inputs (left ds columns ended) hs) inputs) d e))

-- and what is left then is what is left of the rows that weren't taken off, with the change
pub left_more : (n : ℕ) (ds : List Bool) (columns : List (List ℕ)) (ended later : List Bool) (change : List (List Row) → List (List Row)) → Adds columns ended later change → (inputs : List (List Row)) → rows_in columns inputs ≤ n → left ds columns later (change inputs) ≡ left ds columns later (change (left ds columns ended inputs))
left_more zero ds columns ended later change a inputs l = left_step ds columns ended later change a inputs (λ others s. absurd (omega (arith, s, l)))
left_more (suc n) ds columns ended later change a inputs l = left_step ds columns ended later change a inputs (λ others s. left_more n ds columns ended later change a others (omega (arith, s, l)))
