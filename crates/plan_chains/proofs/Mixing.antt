-- What two operators in turn emit.
use Rattle.std.proofs.Common.{◌≡◌, ℕ, ◌==◌, Bool, true, false, not, cond, inl, inr, refl, sym, ap, ◌∙◌, subst, List, [], ◌∷◌, ◌++◌, map, arith}
use Rattle.streams.specs.Streams.{Item, row, end, Feed, Out, sends, fails, Stream, has_end, items_of, ended, emits_after, emits, FedAfter, whole, Gives, on, rows_out, faults_out}
use Rattle.streams.specs.Chains.{others, Mixes}
use Rattle.streams.specs.Operators.{any_stream}
use Rattle.streams.specs.Wiring.{Gather, shares, gathered}
use Rattle.streams.proofs.StreamLaws.{items-append}
use Rattle.plan_chains.specs.Combined.{IsOneOutput}

-- ---- outputs

pub others-append : {X F : Type 0} (xs ys : List (Out X F)) → rows_out (others xs) ≡ [] → rows_out (others ys) ≡ [] → rows_out (others (xs ++ ys)) ≡ []
others-append [] ys h k = k
others-append (fails fault ∷ xs) ys h k = others-append xs ys h k
others-append (sends port x ∷ xs) ys h k = by (port == 0) h (λ e. others-append xs ys e k)
  where
    by : (t : Bool) → rows_out (cond t (others xs) (sends port x ∷ others xs)) ≡ [] → (rows_out (others xs) ≡ [] → rows_out (others (xs ++ ys)) ≡ []) → rows_out (cond t (others (xs ++ ys)) (sends port x ∷ others (xs ++ ys))) ≡ []
    by true e more = more e
    by false e more = absurd cc

pub one_output : {X F : Type 0} (a : Stream X F) → IsOneOutput a → (done feeds : List (Feed X)) → rows_out (others (emits_after a done feeds)) ≡ []
one_output a one done [] = refl
one_output a one done (f ∷ feeds) = others-append (a.gives done f) (emits_after a (done ++ f ∷ []) feeds) (one done f) (one_output a one (done ++ f ∷ []) feeds)

pub no_others : {X F : Type 0} (a : Stream X F) → IsOneOutput a → (lists : ℕ → List X) (outs : List (Out X F)) → Gives a lists outs → rows_out (others outs) ≡ []
no_others a one lists outs g = ap (λ z. rows_out (others z)) (sym g.made) ∙ one_output a one [] g.feeds

-- of what is emitted elsewhere, nothing more is left out
pub no_more_others : {X F : Type 0} (outs : List (Out X F)) → others (others outs) ≡ others outs
no_more_others [] = refl
no_more_others (fails fault ∷ outs) = ap (λ z. fails fault ∷ z) (no_more_others outs)
no_more_others (sends port x ∷ outs) = by (port == 0) refl (no_more_others outs)
  where
    by : (t : Bool) → (port == 0) ≡ t → others (others outs) ≡ others outs → others (cond t (others outs) (sends port x ∷ others outs)) ≡ cond t (others outs) (sends port x ∷ others outs)
    by true e more = more
    by false e more = ap (λ t. cond t (others (others outs)) (sends port x ∷ others (others outs))) e ∙ ap (λ z. sends port x ∷ z) more

other_faults : {X F : Type 0} (outs : List (Out X F)) → faults_out (others outs) ≡ faults_out outs
other_faults [] = refl
other_faults (fails fault ∷ outs) = ap (λ z. fault ∷ z) (other_faults outs)
other_faults (sends port x ∷ outs) = by (port == 0) (other_faults outs)
  where
    by : (t : Bool) → faults_out (others outs) ≡ faults_out outs → faults_out (cond t (others outs) (sends port x ∷ others outs)) ≡ faults_out outs
    by true e = e
    by false e = e

-- ---- mixtures

-- where the first has no rows, the rows are the second's
pub mixed_rows : {X F : Type 0} (out : ℕ) (xs ys zs : List (Out X F)) → rows_out xs ≡ [] → Mixes xs ys zs → on out zs ≡ on out ys
mixed_rows out xs ys [] none m = ap (on out) (sym m.1)
mixed_rows out xs ys (sends port x ∷ zs) none (inl m) = absurd (let e : x ∷ rows_out m.0 ≡ [] = ap rows_out (sym m.1) ∙ none in cc)
mixed_rows out xs ys (fails fault ∷ zs) none (inl m) = mixed_rows out m.0 ys zs (ap rows_out (sym m.1) ∙ none) m.2
mixed_rows out xs ys (sends port x ∷ zs) none (inr m) = ap (λ t. cond (port == out) (x ∷ t) t) (mixed_rows out xs m.0 zs none m.2) ∙ ap (on out) (sym m.1)
mixed_rows out xs ys (fails fault ∷ zs) none (inr m) = mixed_rows out xs m.0 zs none m.2 ∙ ap (on out) (sym m.1)

mixed : {X F : Type 0} (xs ys zs : List (Out X F)) → Mixes xs ys zs → Mixes (faults_out xs) (faults_out ys) (faults_out zs)
mixed xs ys [] m = (ap faults_out m.0, ap faults_out m.1)
mixed {F} xs ys (sends port x ∷ zs) (inl m) = subst (λ (t : List F). Mixes t (faults_out ys) (faults_out zs)) (ap faults_out (sym m.1)) (mixed m.0 ys zs m.2)
mixed xs ys (fails fault ∷ zs) (inl m) = inl (faults_out m.0, ap faults_out m.1, mixed m.0 ys zs m.2)
mixed {F} xs ys (sends port x ∷ zs) (inr m) = subst (λ (t : List F). Mixes (faults_out xs) t (faults_out zs)) (ap faults_out (sym m.1)) (mixed xs m.0 zs m.2)
mixed xs ys (fails fault ∷ zs) (inr m) = inr (faults_out m.0, ap faults_out m.1, mixed xs m.0 zs m.2)

pub mixed_faults : {X F : Type 0} (xs ys zs : List (Out X F)) → Mixes (others xs) ys zs → Mixes (faults_out xs) (faults_out ys) (faults_out zs)
mixed_faults {F} xs ys zs m = subst (λ (t : List F). Mixes t (faults_out ys) (faults_out zs)) (other_faults xs) (mixed (others xs) ys zs m)

-- ---- the collector of one lane

pub record Collects {X F : Type 0} (c : Stream X F) (lists : ℕ → List X) : Type 0 where
  pub outs : List (Out X F)
  pub gives : Gives c lists outs
  pub is : lists 0 ≡ rows_out outs

abbrev fed_whole : {X : Type 0} → List X → List (Feed X)
fed_whole xs = map (λ item. record { port = 0; item = item }) (whole xs)

no_end_yet : {X : Type 0} (done : List (Feed X)) (x : X) → ended 0 done ≡ false → ended 0 (done ++ record { port = 0; item = row x } ∷ []) ≡ false
no_end_yet {X} done x h = ap has_end (items-append 0 done (record { port = 0; item = row x } ∷ [])) ∙ more (items_of 0 done) h
  where
    more : (items : List (Item X)) → has_end items ≡ false → has_end (items ++ row x ∷ []) ≡ false
    more [] h = refl
    more (row y ∷ items) h = more items h
    more (end ∷ items) h = absurd cc

items_one : {X : Type 0} (items : List (Item X)) → items_of 0 (map (λ item. record { port = 0; item = item }) items) ≡ items
items_one [] = refl
items_one (i ∷ items) = ap (λ t. i ∷ t) (items_one items)

fed_one : {X : Type 0} (F : Type 0) (done : List (Feed X)) (xs : List X) → ended 0 done ≡ false → FedAfter (any_stream {X = X} {F = F} 1) done (fed_whole xs)
fed_one F done [] h = (ap not h, tt)
fed_one F done (x ∷ xs) h = (ap not h, fed_one F (done ++ record { port = 0; item = row x } ∷ []) xs (no_end_yet done x h))

made_one : {X : Type 0} (F : Type 0) (done : List (Feed X)) (xs : List X) → rows_out (emits_after (any_stream {X = X} {F = F} 1) done (fed_whole xs)) ≡ xs
made_one F done [] = refl
made_one F done (x ∷ xs) = ap (λ t. x ∷ t) (made_one F (done ++ record { port = 0; item = row x } ∷ []) xs)

pub collects_one : {X F : Type 0} (g : Gather X F) (n : ℕ) (lists : ℕ → List X) → g ≡ shares → n ≡ 1 → Collects (gathered g n) lists
collects_one {X} {F} g n lists e f = subst (λ (h : Gather X F). Collects (gathered h n) lists) (sym e) (subst (λ m. Collects (any_stream {X = X} {F = F} m) lists) (sym f) one)
  where
    one : Collects (any_stream {X = X} {F = F} 1) lists
    one = record {
      outs = emits (any_stream 1) (fed_whole (lists 0));
      gives = record { feeds = fed_whole (lists 0); fed = fed_one F [] (lists 0) refl; taken = λ i lt. (let z : 0 ≡ i = omega arith in subst (λ k. items_of k (fed_whole (lists 0)) ≡ whole (lists k)) z (items_one (whole (lists 0)))); made = refl };
      is = sym (made_one F [] (lists 0));
    }
