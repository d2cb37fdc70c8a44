-- Operators in turn.
use Rattle.std.proofs.Common.{◌≡◌, ℕ, ◌<◌, Bool, true, false, not, cond, refl, sym, ap, ap₂, ◌∙◌, subst, List, [], ◌∷◌, ◌++◌, map, append_assoc, append-nil, arith, ◌==◌, inl, inr}
use Rattle.streams.specs.Streams.{Item, row, end, Feed, Out, sends, fails, Stream, has_end, items_of, ended, all_ended, emits_after, emits, FedAfter, Fed, whole, Gives, IsStream, on}
use Rattle.streams.specs.Chains.{others, hand_on, Mixes, passed_after, passed_on, then_stream, IsOnePort, ChainsFit}
use Rattle.streams.proofs.Basics.{and_true}
use Rattle.streams.proofs.StreamLaws.{emits-append, fed-more, items-append, all_from, wants_open, map-append, no_end, not_all, on-append}

module _ {X F : Type 0} (a b : Stream X F) (is_a : IsStream a) (is_b : IsOnePort b) where
  passed-append : (done xs ys : List (Feed X)) → passed_after a done (xs ++ ys) ≡ passed_after a done xs ++ passed_after a (done ++ xs) ys
  passed-append done [] ys = ap (λ d. passed_after a d ys) (sym (append-nil done))
  passed-append done (x ∷ xs) ys =
      ap (λ t. hand_on a done x ++ t) (passed-append (done ++ x ∷ []) xs ys) ∙ sym (append_assoc (hand_on a done x) _ _)
      ∙ ap (λ d. (hand_on a done x ++ passed_after a (done ++ x ∷ []) xs) ++ passed_after a d ys) (append_assoc done (x ∷ []) xs)

  passed-more : (feeds : List (Feed X)) (f : Feed X) → passed_on a (feeds ++ f ∷ []) ≡ passed_on a feeds ++ hand_on a feeds f
  passed-more feeds f = passed-append [] feeds (f ∷ []) ∙ ap (λ t. passed_on a feeds ++ t) (append-nil _)

  others-append : (xs ys : List (Out X F)) → others (xs ++ ys) ≡ others xs ++ others ys
  others-append [] ys = refl
  others-append (fails fault ∷ xs) ys = ap (λ z. fails fault ∷ z) (others-append xs ys)
  others-append (sends port x ∷ xs) ys = go (port == 0) (others-append xs ys)
    where
      go : (t : Bool) → others (xs ++ ys) ≡ others xs ++ others ys → cond t (others (xs ++ ys)) (sends port x ∷ others (xs ++ ys)) ≡ cond t (others xs) (sends port x ∷ others xs) ++ others ys
      go true h = h
      go false h = ap (λ z. sends port x ∷ z) h

  mixes-left : (us xs ys zs : List (Out X F)) → Mixes xs ys zs → Mixes (us ++ xs) ys (us ++ zs)
  mixes-left [] xs ys zs m = m
  mixes-left (u ∷ us) xs ys zs m = inl (us ++ xs, refl, mixes-left us xs ys zs m)

  mixes-right : (us xs ys zs : List (Out X F)) → Mixes xs ys zs → Mixes xs (us ++ ys) (us ++ zs)
  mixes-right [] xs ys zs m = m
  mixes-right (u ∷ us) xs ys zs m = inr (us ++ ys, refl, mixes-right us xs ys zs m)

  emits_then : (done feeds : List (Feed X)) → Mixes (others (emits_after a done feeds)) (emits_after b (passed_on a done) (passed_after a done feeds)) (emits_after (then_stream a b) done feeds)
  emits_then done [] = (refl, refl)
  emits_then done (f ∷ feeds) =
      let side : List (Out X F) = others (a.gives done f) in
      let main : List (Out X F) = emits_after b (passed_on a done) (hand_on a done f) in
      let rest : List (Out X F) = emits_after (then_stream a b) (done ++ f ∷ []) feeds in
      let ih : Mixes (others (emits_after a (done ++ f ∷ []) feeds)) (emits_after b (passed_on a done ++ hand_on a done f) (passed_after a (done ++ f ∷ []) feeds)) rest =
      subst (λ d. Mixes (others (emits_after a (done ++ f ∷ []) feeds)) (emits_after b d (passed_after a (done ++ f ∷ []) feeds)) rest) (passed-more done f) (emits_then (done ++ f ∷ []) feeds) in
      subst (λ xs. Mixes xs (emits_after b (passed_on a done) (hand_on a done f ++ passed_after a (done ++ f ∷ []) feeds)) ((side ++ main) ++ rest)) (sym (others-append (a.gives done f) (emits_after a (done ++ f ∷ []) feeds)))
      (subst (λ ys. Mixes (side ++ others (emits_after a (done ++ f ∷ []) feeds)) ys ((side ++ main) ++ rest)) (sym (emits-append b (passed_on a done) (hand_on a done f) (passed_after a (done ++ f ∷ []) feeds)))
      (subst (λ zs. Mixes (side ++ others (emits_after a (done ++ f ∷ []) feeds)) (main ++ emits_after b (passed_on a done ++ hand_on a done f) (passed_after a (done ++ f ∷ []) feeds)) zs) (sym (append_assoc side main rest))
      (mixes-left side _ _ (main ++ rest) (mixes-right main _ _ rest ih))))

  fed_a : (done feeds : List (Feed X)) → FedAfter (then_stream a b) done feeds → FedAfter a done feeds
  fed_a done [] h = tt
  fed_a done (f ∷ feeds) h = (h.0, fed_a (done ++ f ∷ []) feeds h.1)

  abbrev as_feeds : List X → List (Feed X)
  as_feeds xs = map (λ x. record { port = 0; item = row x }) xs

  handed_rows : (xs : List X) → items_of 0 (as_feeds xs) ≡ map row xs
  handed_rows [] = refl
  handed_rows (x ∷ xs) = ap (λ t. row x ∷ t) (handed_rows xs)

  end_rows : (t : Bool) → items_of {X = X} 0 (cond t (record { port = 0; item = end } ∷ []) []) ≡ cond t (end ∷ []) []
  end_rows true = refl
  end_rows false = refl

  has_end-rows : (xs : List (Item X)) (ys : List X) → has_end xs ≡ false → has_end (xs ++ map row ys) ≡ false
  has_end-rows [] ys h = no_end ys
  has_end-rows (row x ∷ xs) ys h = has_end-rows xs ys h
  has_end-rows (end ∷ xs) ys h = let e : true ≡ false = h in cc

  -- rows are wanted as long as the port hasn't ended
  fed_rows : (before : List (Feed X)) (outs : List X) → Fed b before → ended 0 before ≡ false → Fed b (before ++ as_feeds outs) × (ended 0 (before ++ as_feeds outs) ≡ false)
  fed_rows before [] fed open_still = (subst (Fed b) (sym (append-nil before)) fed, ap (ended 0) (append-nil before) ∙ open_still)
  fed_rows before (o ∷ outs) fed open_still =
      let f : Feed X = record { port = 0; item = row o } in
      let rest = fed_rows (before ++ f ∷ []) outs (fed-more b [] before f fed (is_b.until before 0 ∙ and_true refl (ap not open_still)))
      (ap has_end (items-append 0 before (f ∷ [])) ∙ has_end-rows (items_of 0 before) (o ∷ []) open_still) in
      (subst (Fed b) (append_assoc before (f ∷ []) (as_feeds outs)) rest.0, ap (ended 0) (sym (append_assoc before (f ∷ []) (as_feeds outs))) ∙ rest.1)

  pub record Passed (feeds : List (Feed X)) : Type 0 where
    pub fed : Fed b (passed_on a feeds)
    pub items : items_of 0 (passed_on a feeds) ≡ map row (on 0 (emits a feeds)) ++ cond (all_ended a feeds) (end ∷ []) []

  passed-step : (feeds : List (Feed X)) (f : Feed X) → Passed feeds → a.wants feeds f.port ≡ true → Passed (feeds ++ f ∷ [])
  passed-step feeds f p w =
      let still : all_ended a feeds ≡ false = wants_open a is_a feeds f.port w in
      let before : items_of 0 (passed_on a feeds) ≡ map row (on 0 (emits a feeds)) = p.items ∙ ap (λ t. map row (on 0 (emits a feeds)) ++ cond t (end ∷ []) []) still ∙ append-nil _ in
      let open_still : ended 0 (passed_on a feeds) ≡ false = ap has_end before ∙ no_end (on 0 (emits a feeds)) in
      let rows_fed = fed_rows (passed_on a feeds) (on 0 (a.gives feeds f)) p.fed open_still in
      record {
        fed = subst (Fed b) (append_assoc (passed_on a feeds) (as_feeds (on 0 (a.gives feeds f))) _ ∙ sym (passed-more feeds f)) (with_end (all_ended a (feeds ++ f ∷ [])) (passed_on a feeds ++ as_feeds (on 0 (a.gives feeds f))) rows_fed.0 rows_fed.1);
        items = ap (items_of 0) (passed-more feeds f) ∙ items-append 0 (passed_on a feeds) (hand_on a feeds f)
            ∙ ap₂ (λ x y. x ++ y) before (items-append 0 (as_feeds (on 0 (a.gives feeds f))) _ ∙ ap₂ (λ x y. x ++ y) (handed_rows (on 0 (a.gives feeds f))) (end_rows (all_ended a (feeds ++ f ∷ []))))
            ∙ sym (append_assoc (map row (on 0 (emits a feeds))) (map row (on 0 (a.gives feeds f))) _)
            ∙ ap (λ t. t ++ cond (all_ended a (feeds ++ f ∷ [])) (end ∷ []) [])
            (sym (ap (λ t. map row (on 0 t)) (emits-append a [] feeds (f ∷ []) ∙ ap (λ t. emits a feeds ++ t) (append-nil _)) ∙ ap (map row) (on-append 0 (emits a feeds) (a.gives feeds f)) ∙ map-append row _ _));
      }
    where
      with_end : (t : Bool) (before : List (Feed X)) → Fed b before → ended 0 before ≡ false → Fed b (before ++ cond t (record { port = 0; item = end } ∷ []) [])
      with_end true before fed open_still = fed-more b [] before (record { port = 0; item = end }) fed (is_b.until before 0 ∙ and_true refl (ap not open_still))
      with_end false before fed open_still = subst (Fed b) (sym (append-nil before)) fed

  passed_from : (done feeds : List (Feed X)) → Passed done → FedAfter a done feeds → Passed (done ++ feeds)
  passed_from done [] p h = subst Passed (sym (append-nil done)) p
  passed_from done (f ∷ feeds) p h = subst Passed (append_assoc done (f ∷ []) feeds) (passed_from (done ++ f ∷ []) feeds (passed-step done f p h.0) h.1)

  passed_start : Passed []
  passed_start = record { fed = tt; items = sym (ap (λ t. cond t (end ∷ []) []) (not_all a.ports (λ i. false) 0 is_a.some refl)) }

  pub then_is : IsStream (then_stream a b)
  then_is = record { some = is_a.some; opens = is_a.opens; hungry = λ feeds fed. is_a.hungry feeds (fed_a [] feeds fed) }

  has_end-whole : (xs : List X) → has_end (whole xs) ≡ true
  has_end-whole [] = refl
  has_end-whole (x ∷ xs) = has_end-whole xs

  pub then_gives : (lists : ℕ → List X) (outs : List (Out X F)) → Gives (then_stream a b) lists outs → (first second : List (Out X F)) × Gives a lists first × Gives b (λ i. on 0 first) second × Mixes (others first) second outs
  then_gives lists outs g =
      let fed : Fed a g.feeds = fed_a [] g.feeds g.fed in
      let p = passed_from [] g.feeds passed_start fed in
      let over : all_ended a g.feeds ≡ true = all_from a.ports (λ i. ended i g.feeds) (λ i lt. ap has_end (g.taken i lt) ∙ has_end-whole (lists i)) in (
        emits a g.feeds,
        emits b (passed_on a g.feeds),
        record { feeds = g.feeds; fed = fed; taken = g.taken; made = refl },
        record {
          feeds = passed_on a g.feeds;
          fed = p.fed;
          taken = λ i lt. ap (λ z. items_of z (passed_on a g.feeds)) (zero_below i lt) ∙ p.items ∙ ap (λ t. map row (on 0 (emits a g.feeds)) ++ cond t (end ∷ []) []) over;
          made = refl;
        },
        subst (λ outs. Mixes (others (emits a g.feeds)) (emits b (passed_on a g.feeds)) outs) g.made (emits_then [] g.feeds),
      )
    where
      zero_below : (i : ℕ) → i < b.ports → i ≡ 0
      zero_below i lt = omega (arith, is_b.one)

pub chains-fit : {X F : Type 0} → ChainsFit X F
chains-fit a b is_a is_b = (then_is a b is_a is_b, then_gives a b is_a is_b)
