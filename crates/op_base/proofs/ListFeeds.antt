-- A whole list fed to an operator of one input.
use Rattle.std.proofs.Common.{◌≡◌, ℕ, ◌<◌, Bool, true, false, refl, sym, ap, ◌∙◌, subst, inl, inr, List, [], ◌∷◌, ◌++◌, map, length, append_assoc, append-nil, arith}
use Rattle.streams.specs.Streams.{row, end, Feed, Out, items_of, ended, all_below, all_ended, faults_out, emits, Fed, Gives, IsStream}
use Rattle.streams.proofs.Basics.{and_left, and_true}
use Rattle.streams.proofs.StreamLaws.{emits-append, fed-more, items-append, map-append}
use Rattle.op_base.specs.declared.fault.Fault.{Fault}
use Rattle.op_base.specs.declared.emit.Emit.{Emit}
use Rattle.op_base.specs.Columns.{Row}
use Rattle.op_base.specs.Emits.{rows_sent, counted, least_of, Adds, IsFresh}
use Rattle.op_base.specs.Standing.{RowStream, row_feed, end_feed}
use Rattle.op_base.specs.WholeLists.{row_feeds, list_feeds, SuitsEach, HasEmitted}
use Rattle.op_base.proofs.Adding.{Adds-then}
use Rattle.op_base.proofs.StandingLaws.{ended-end}

none_ended : (rows : List Row) → ended 0 (row_feeds rows) ≡ false
none_ended [] = refl
none_ended (r ∷ rows) = none_ended rows

pub one_more : (rows : List Row) (r : Row) → row_feeds (rows ++ r ∷ []) ≡ row_feeds rows ++ row_feed 0 r ∷ []
one_more rows r = map-append (row_feed 0) rows (r ∷ [])

-- what suits
suits_at : (suits : List (Feed Row) → Bool) (done xs : List (Feed Row)) (f : Feed Row) (more : List (Feed Row)) → SuitsEach suits done (xs ++ f ∷ more) → suits ((done ++ xs) ++ f ∷ []) ≡ true
suits_at suits done [] f more h = ap (λ d. suits (d ++ f ∷ [])) (append-nil done) ∙ h.0
suits_at suits done (x ∷ xs) f more h = ap (λ d. suits (d ++ f ∷ [])) (sym (append_assoc done (x ∷ []) xs)) ∙ suits_at suits (done ++ x ∷ []) xs f more h.1

pub suits_row : (suits : List (Feed Row) → Bool) (before : List Row) (r : Row) (more rows : List Row) → before ++ r ∷ more ≡ rows → SuitsEach suits [] (list_feeds rows) → suits (row_feeds before ++ row_feed 0 r ∷ []) ≡ true
suits_row suits before r more rows e h = suits_at suits [] (row_feeds before) (row_feed 0 r) (row_feeds more ++ end_feed 0 ∷ []) (subst (SuitsEach suits []) parts h)
  where
    parts : list_feeds rows ≡ row_feeds before ++ row_feed 0 r ∷ (row_feeds more ++ end_feed 0 ∷ [])
    parts = ap list_feeds (sym e) ∙ ap (λ t. t ++ end_feed 0 ∷ []) (map-append (row_feed 0) before (r ∷ more)) ∙ append_assoc (row_feeds before) (row_feed 0 r ∷ row_feeds more) (end_feed 0 ∷ [])

pub suits_end : (suits : List (Feed Row) → Bool) (rows : List Row) → SuitsEach suits [] (list_feeds rows) → suits (list_feeds rows) ≡ true
suits_end suits rows h = suits_at suits [] (row_feeds rows) (end_feed 0) [] h

-- what is wanted
module _ (s : RowStream) (is : IsStream s) (one : s.ports ≡ 1) where
  first_port : (i : ℕ) → i < s.ports → i ≡ 0
  first_port i lt = below i (subst (λ n. i < n) one lt)
    where
      below : (i : ℕ) → i < 1 → i ≡ 0
      below i lt = omega arith

  wanted_then : (rows : List Row) → Fed s (row_feeds rows) → s.wants (row_feeds rows) 0 ≡ true
  wanted_then rows fed = elim (is.hungry (row_feeds rows) fed) [ inl w ↦ subst (λ i. s.wants (row_feeds rows) i ≡ true) (first_port w.0 (is.opens (row_feeds rows) w.0 w.1).0) w.1 | inr all ↦ absurd (open_still all) ]
    where
      open_still : all_ended s (row_feeds rows) ≡ true → ⊥
      open_still all = let e : false ≡ true = sym (none_ended rows) ∙ and_left _ _ (subst (λ n. all_below n (λ i. ended i (row_feeds rows)) ≡ true) one all) in cc

  fed_on : (done rows : List Row) → Fed s (row_feeds done) → Fed s (row_feeds (done ++ rows))
  fed_on done [] h = subst (λ xs. Fed s (row_feeds xs)) (sym (append-nil done)) h
  fed_on done (r ∷ rows) h =
      subst (λ xs. Fed s (row_feeds xs)) (append_assoc done (r ∷ []) rows)
      (fed_on (done ++ r ∷ []) rows (subst (Fed s) (sym (one_more done r)) (fed-more s [] (row_feeds done) (row_feed 0 r) h (wanted_then done h))))

  pub rows_wanted : (rows : List Row) → s.wants (row_feeds rows) 0 ≡ true
  rows_wanted rows = wanted_then rows (fed_on [] rows tt)

  row_items : (rows : List Row) → items_of 0 (row_feeds rows) ≡ map row rows
  row_items [] = refl
  row_items (r ∷ rows) = ap (λ t. row r ∷ t) (row_items rows)

  pub list_gives : (rows : List Row) → Gives s (λ i. rows) (emits s (list_feeds rows))
  list_gives rows = record {
    feeds = list_feeds rows;
    fed = fed-more s [] (row_feeds rows) (end_feed 0) (fed_on [] rows tt) (rows_wanted rows);
    taken = λ i lt. ap (λ j. items_of j (list_feeds rows)) (first_port i lt) ∙ items-append 0 (row_feeds rows) (end_feed 0 ∷ []) ∙ ap (λ t. t ++ end ∷ []) (row_items rows);
    made = refl;
  }

  pub list_ended : (rows : List Row) → all_ended s (list_feeds rows) ≡ true
  list_ended rows = subst (λ n. all_below n (λ i. ended i (list_feeds rows)) ≡ true) (sym one) (and_true (ended-end 0 (row_feeds rows)) refl)

-- what is emitted
pub adds_more : (s t : RowStream) (feeds : List (Feed Row)) (f : Feed Row) (a b c : Emit) → t ≡ s → Adds a b (emits s feeds) → Adds b c (t.gives feeds f) → Adds a c (emits s (feeds ++ f ∷ []))
adds_more s t feeds f a b c same sofar added =
    subst (Adds a c) (sym (emits-append s [] feeds (f ∷ []) ∙ ap (λ outs. emits s feeds ++ outs) (append-nil (s.gives feeds f))))
    (Adds-then a b c (emits s feeds) (s.gives feeds f) sofar (subst (λ (z : RowStream). Adds b c (z.gives feeds f)) same added))

pub fresh_adds : (a b c : Emit) (outs : List (Out Row Fault)) → IsFresh a → Adds a b outs → Adds b c [] → HasEmitted c outs
fresh_adds a b c outs fresh added nothing = go (subst (Adds a c) (append-nil outs) (Adds-then a b c outs [] added nothing))
  where
    go : Adds a c outs → HasEmitted c outs
    go all = record {
      sent = all.sent ∙ ap (λ rows. rows ++ rows_sent outs) fresh.sent;
      faults = all.faults ∙ ap (λ n. counted n (length (faults_out outs))) fresh.faults;
      least = all.least ∙ ap (λ least. least_of least (faults_out outs)) fresh.least;
    }

-- what suits any operator that looks at no value
pub suits_any : (done feeds : List (Feed Row)) → SuitsEach (λ feeds. true) done feeds
suits_any done [] = tt
suits_any done (f ∷ feeds) = (refl, suits_any (done ++ f ∷ []) feeds)
