-- What operators with one port, and lookup, give of their whole lists.
use Rattle.std.proofs.Common.{◌≡◌, ℕ, zero, suc, ◌<◌, ◌==◌, Bool, true, false, not, cond, refl, sym, ap, ap₂, ◌∙◌, subst, List, [], ◌∷◌, ◌++◌, map, append_assoc, append-nil, arith}
use Rattle.std.specs.List.{flat_map}
use Rattle.std.proofs.lemmas.Bool.{ltb-true}
use Rattle.streams.specs.Streams.{Item, row, end, Feed, Out, Stream, rows, items_of, ended, rows_of, emits_after, emits, FedAfter, whole, Gives}
use Rattle.streams.specs.Lists.{runs_of}
use Rattle.streams.specs.Operators.{one_wanted, rowwise, at_end, remdup_outs, remdup_stream, run_outs, run_stream, first_outs, second_first, lookup_stream}
use Rattle.streams.specs.Laws.{OperatorsGive}
use Rattle.streams.proofs.Basics.{and_left}
use Rattle.streams.proofs.StreamLaws.{items-append, rows-whole}
use Rattle.streams.proofs.Picks.{picks_open, least_rank}
use Rattle.streams.proofs.Collected.{none_after}
use Rattle.streams.proofs.Collectors.{rowwise_is, at_end_is, remdup_is, run_is, lookup_is}
use Rattle.streams.proofs.RunLaws.{closed_runs, run_outs-end, run_outs-row, remdup_outs-row}

abbrev to_port : {X : Type 0} → ℕ → List (Item X) → List (Feed X)
to_port i items = map (λ item. record { port = i; item = item }) items

-- an operator with one port is fed nothing elsewhere
one_list : {X F : Type 0} (operator : Stream X F) → ((feeds : List (Feed X)) (i : ℕ) → operator.wants feeds i ≡ one_wanted feeds i) → (done feeds : List (Feed X)) → FedAfter operator done feeds → feeds ≡ to_port 0 (items_of 0 feeds)
one_list operator is done [] h = refl
one_list {X} operator is done (f ∷ feeds) h =
    let port : f.port ≡ 0 = zero_only f.port (ltb-true _ _ (and_left _ _ (sym (is done f.port) ∙ h.0))) in
    ap₂ (λ (g : Feed X) fs. g ∷ fs) (λ i. record { port = port i; item = f.item }) (one_list operator is (done ++ f ∷ []) feeds h.1)
    ∙ sym (ap (λ p. to_port 0 (cond (p == 0) (f.item ∷ items_of 0 feeds) (items_of 0 feeds))) port)
  where
    zero_only : (i : ℕ) → i < 1 → i ≡ 0
    zero_only i lt = omega arith

-- what it emits of a whole list
one_whole : {X F : Type 0} (operator : Stream X F) → operator.ports ≡ 1 → ((feeds : List (Feed X)) (i : ℕ) → operator.wants feeds i ≡ one_wanted feeds i) → (lists : ℕ → List X) (outs : List (Out X F)) → Gives operator lists outs →
    outs ≡ emits operator (to_port 0 (whole (lists 0)))
one_whole operator one is lists outs g =
    sym g.made ∙ ap (emits operator) (one_list operator is [] g.feeds g.fed ∙ ap (to_port 0) (g.taken 0 (subst (λ n. 0 < n) (sym one) (omega arith))))

rows-append : {X : Type 0} (xs ys : List (Item X)) → rows (xs ++ ys) ≡ rows xs ++ rows ys
rows-append [] ys = refl
rows-append (row x ∷ xs) ys = ap (λ t. x ∷ t) (rows-append xs ys)
rows-append (end ∷ xs) ys = rows-append xs ys

rows_more : {X : Type 0} (done : List (Feed X)) (x : X) → rows_of 0 (done ++ record { port = 0; item = row x } ∷ []) ≡ rows_of 0 done ++ x ∷ []
rows_more done x = ap rows (items-append 0 done (record { port = 0; item = row x } ∷ [])) ∙ rows-append (items_of 0 done) (row x ∷ [])

rowwise_whole : {X F : Type 0} (g : X → List (Out X F)) (done : List (Feed X)) (xs : List X) → emits_after (rowwise g) done (to_port 0 (whole xs)) ≡ flat_map g xs
rowwise_whole g done [] = refl
rowwise_whole g done (x ∷ xs) = ap (λ t. g x ++ t) (rowwise_whole g (done ++ record { port = 0; item = row x } ∷ []) xs)

at_end_whole : {X F : Type 0} (f : List X → List (Out X F)) (done : List (Feed X)) (xs : List X) → emits_after (at_end f) done (to_port 0 (whole xs)) ≡ f (rows_of 0 done ++ xs)
at_end_whole f done [] = append-nil _ ∙ ap f (sym (append-nil (rows_of 0 done)))
at_end_whole f done (x ∷ xs) = at_end_whole f (done ++ record { port = 0; item = row x } ∷ []) xs ∙ ap f (ap (λ t. t ++ xs) (rows_more done x) ∙ append_assoc (rows_of 0 done) (x ∷ []) xs)

remdup_whole : {X F : Type 0} (same : X → X → Bool) (done : List (Feed X)) (xs : List X) → flat_map (first_outs {F = F}) (runs_of same (rows_of 0 done)) ++ emits_after (remdup_stream same) done (to_port 0 (whole xs)) ≡ flat_map first_outs (runs_of same (rows_of 0 done ++ xs))
remdup_whole same done [] = append-nil _ ∙ ap (λ t. flat_map first_outs (runs_of same t)) (sym (append-nil (rows_of 0 done)))
remdup_whole {X} {F} same done (x ∷ xs) =
    let later : List (Feed X) = done ++ record { port = 0; item = row x } ∷ [] in
    sym (append_assoc (flat_map first_outs (runs_of same (rows_of 0 done))) (remdup_outs same (rows_of 0 done) (row x)) (emits_after (remdup_stream same) later (to_port 0 (whole xs))))
    ∙ ap (λ t. t ++ emits_after (remdup_stream same) later (to_port 0 (whole xs))) (remdup_outs-row same (rows_of 0 done) x ∙ ap (λ t. flat_map first_outs (runs_of same t)) (sym (rows_more done x)))
    ∙ remdup_whole same later xs ∙ ap (λ t. flat_map first_outs (runs_of same t)) (ap (λ t. t ++ xs) (rows_more done x) ∙ append_assoc (rows_of 0 done) (x ∷ []) xs)

run_whole : {X F : Type 0} (same : X → X → Bool) (rule : List X → List (Out X F)) (done : List (Feed X)) (xs : List X) → flat_map rule (closed_runs (runs_of same (rows_of 0 done))) ++ emits_after (run_stream same rule) done (to_port 0 (whole xs)) ≡ flat_map rule (runs_of same (rows_of 0 done ++ xs))
run_whole same rule done [] = ap (λ t. flat_map rule (closed_runs (runs_of same (rows_of 0 done))) ++ t) (append-nil _) ∙ run_outs-end same rule (rows_of 0 done) ∙ ap (λ t. flat_map rule (runs_of same t)) (sym (append-nil (rows_of 0 done)))
run_whole {X} same rule done (x ∷ xs) =
    let later : List (Feed X) = done ++ record { port = 0; item = row x } ∷ [] in
    sym (append_assoc (flat_map rule (closed_runs (runs_of same (rows_of 0 done)))) (run_outs same rule (rows_of 0 done) (row x)) (emits_after (run_stream same rule) later (to_port 0 (whole xs))))
    ∙ ap (λ t. t ++ emits_after (run_stream same rule) later (to_port 0 (whole xs))) (run_outs-row same rule (rows_of 0 done) x ∙ ap (λ t. flat_map rule (closed_runs (runs_of same t))) (sym (rows_more done x)))
    ∙ run_whole same rule later xs ∙ ap (λ t. flat_map rule (runs_of same t)) (ap (λ t. t ++ xs) (rows_more done x) ∙ append_assoc (rows_of 0 done) (x ∷ []) xs)

-- lookup has all rows of port 1 before the first of port 0
module _ {X F : Type 0} (rule : X → List X → List (Out X F)) where
  -- the rows of port 1, before and behind a feed
  rows_together : (done : List (Feed X)) (f : Feed X) (feeds : List (Feed X)) → rows_of 1 (done ++ f ∷ []) ++ rows_of 1 feeds ≡ rows_of 1 done ++ rows_of 1 (f ∷ feeds)
  rows_together done f feeds =
      ap (λ t. t ++ rows_of 1 feeds) (ap rows (items-append 1 done (f ∷ [])) ∙ rows-append (items_of 1 done) (items_of 1 (f ∷ [])))
      ∙ append_assoc (rows_of 1 done) (rows (items_of 1 (f ∷ []))) (rows_of 1 feeds) ∙ ap (λ t. rows_of 1 done ++ t) (first_rows (f.port == 1))
    where
      first_rows : (b : Bool) → rows (cond b (f.item ∷ []) []) ++ rows_of 1 feeds ≡ rows (cond b (f.item ∷ items_of 1 feeds) (items_of 1 feeds))
      first_rows true = sym (rows-append (f.item ∷ []) (items_of 1 feeds))
      first_rows false = refl

  abbrev From : List (Feed X) → List (Feed X) → Type 0
  From done feeds = emits_after (lookup_stream rule) done feeds ≡ flat_map (λ x. rule x (rows_of 1 done ++ rows_of 1 feeds)) (rows_of 0 feeds)

  lookup_step : (done : List (Feed X)) (i : ℕ) (item : Item X) (feeds : List (Feed X)) → FedAfter (lookup_stream rule) done (record { port = i; item = item } ∷ feeds) → From (done ++ record { port = i; item = item } ∷ []) feeds → From done (record { port = i; item = item } ∷ feeds)
  lookup_step done zero end feeds h ih = ih ∙ ap (λ R. flat_map (λ x. rule x R) (rows_of 0 feeds)) (rows_together done (record { port = 0; item = end }) feeds)
  lookup_step done zero (row x) feeds h ih =
      let none : rows_of 1 feeds ≡ [] = ap rows (none_after (lookup_stream rule) (lookup_is rule) done (record { port = 0; item = row x } ∷ feeds) h 1 (over (ended 1 done) refl)) in
      ap₂ (λ u v. u ++ v) (ap (rule x) (sym (ap (λ t. rows_of 1 done ++ t) none ∙ append-nil (rows_of 1 done))))
      (ih ∙ ap (λ R. flat_map (λ z. rule z R) (rows_of 0 feeds)) (rows_together done (record { port = 0; item = row x }) feeds))
    where
      over : (b : Bool) → ended 1 done ≡ b → ended 1 done ≡ true
      over true k = k
      over false k = absurd (let l = least_rank 2 second_first (λ i. not (ended i done)) 0 1 h.0 (omega arith) (ap not k) in omega (arith, l))
  lookup_step done (suc zero) item feeds h ih = ih ∙ ap (λ R. flat_map (λ x. rule x R) (rows_of 0 feeds)) (rows_together done (record { port = 1; item = item }) feeds)
  lookup_step done (suc (suc i)) item feeds h ih = absurd (let o = (picks_open 2 second_first (λ i. not (ended i done)) (suc (suc i)) h.0).0 in omega (arith, o))

  lookup_from : (done feeds : List (Feed X)) → FedAfter (lookup_stream rule) done feeds → From done feeds
  lookup_from done [] h = refl
  lookup_from done (f ∷ feeds) h = lookup_step done f.port f.item feeds h (lookup_from (done ++ f ∷ []) feeds h.1)

  lookup_whole : (lists : ℕ → List X) (outs : List (Out X F)) → Gives (lookup_stream rule) lists outs → outs ≡ flat_map (λ x. rule x (lists 1)) (lists 0)
  lookup_whole lists outs g =
      sym g.made ∙ lookup_from [] g.feeds g.fed
      ∙ ap₂ (λ R M. flat_map (λ x. rule x R) M) (ap rows (g.taken 1 (omega arith)) ∙ rows-whole (lists 1)) (ap rows (g.taken 0 (omega arith)) ∙ rows-whole (lists 0))

pub operators_give : (X F : Type 0) → OperatorsGive X F
operators_give X F = record {
  rowwise = λ g. (rowwise_is g, λ lists outs h. one_whole (rowwise g) refl (λ feeds i. refl) lists outs h ∙ rowwise_whole g [] (lists 0));
  at_end = λ f. (at_end_is f, λ lists outs h. one_whole (at_end f) refl (λ feeds i. refl) lists outs h ∙ at_end_whole f [] (lists 0));
  remdup = λ same. (remdup_is same, λ lists outs h. one_whole (remdup_stream same) refl (λ feeds i. refl) lists outs h ∙ remdup_whole same [] (lists 0));
  run = λ same rule. (run_is same rule, λ lists outs h. one_whole (run_stream same rule) refl (λ feeds i. refl) lists outs h ∙ run_whole same rule [] (lists 0));
  lookup = λ rule. (lookup_is rule, lookup_whole rule);
}
