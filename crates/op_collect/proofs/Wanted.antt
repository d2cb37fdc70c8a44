-- The one port that is wanted, and what one more feed changes of which ports have ended.
use Rattle.std.proofs.Common.{◌≡◌, ℕ, suc, ◌<◌, ◌≤◌, ◌==◌, Bool, true, false, cond, ◌⊎◌, inl, inr, refl, sym, ap, ◌∙◌, List, [], ◌∷◌, ◌++◌, arith}
use Rattle.std.proofs.lemmas.Bool.Decides.{eqb_tells}
use Rattle.streams.specs.Streams.{Item, row, end, Feed, has_end, items_of, ended, IsStream}
use Rattle.streams.specs.Operators.{picks, turn_after}
use Rattle.streams.proofs.Picks.{picks_open, picks_some, least_rank, picks_single}
use Rattle.streams.proofs.StreamLaws.{items-append, eq_true, wants_open}
use Rattle.op_base.specs.declared.operator.Want.TheVariants.{Port}
use Rattle.op_base.specs.Columns.{Row}
use Rattle.op_base.specs.Standing.{RowStream, end_feed, Answers}

-- of the ports that ask the one of least rank is wanted, and no other
pub wanted_is : (n : ℕ) (rank : ℕ → ℕ) (asks : ℕ → Bool) (w : ℕ) → w < n → asks w ≡ true → ((i j : ℕ) → i < n → j < n → rank i ≡ rank j → i ≡ j) → ((j : ℕ) → j < n → asks j ≡ true → rank w ≤ rank j) → (i : ℕ) → picks n rank asks i ≡ (w == i)
wanted_is n rank asks w lt a inj least i =
    let p = picks_some n rank asks w lt a in
    let o = picks_open n rank asks p.0 p.1 in
    let l : rank p.0 ≤ rank w = least_rank n rank asks p.0 w p.1 lt a in
    let m : rank w ≤ rank p.0 = least p.0 o.0 o.1 in
    let same : p.0 ≡ w = inj p.0 w o.0 lt (omega (arith, l, m)) in
    by (eqb_tells w i) (picks n rank asks i) refl (ap (picks n rank asks) (sym same) ∙ p.1)
  where
    by : (((w == i) ≡ true) × (w ≡ i)) ⊎ (((w == i) ≡ false) × (w ≡ i → ⊥)) → (b : Bool) → picks n rank asks i ≡ b → picks n rank asks w ≡ true → picks n rank asks i ≡ (w == i)
    by (inl t) b e here = ap (picks n rank asks) (sym t.1) ∙ here ∙ sym t.0
    by (inr t) false e here = e ∙ sym t.0
    by (inr t) true e here = absurd (t.1 (picks_single n rank asks inj w i here e))

pub answers_port : (stream : RowStream) → IsStream stream → (feeds : List (Feed Row)) (w : ℕ) → ((i : ℕ) → stream.wants feeds i ≡ (w == i)) → Answers (Port w) stream feeds
answers_port stream is feeds w wants = (wants, wants_open stream is feeds w (wants w ∙ eq_true w w refl))

-- End ends its port, and no other
pub ended_more : (i port : ℕ) (feeds : List (Feed Row)) → ended i (feeds ++ end_feed port ∷ []) ≡ cond (port == i) true (ended i feeds)
ended_more i port feeds = ap has_end (items-append i feeds (end_feed port ∷ [])) ∙ go (items_of i feeds) (port == i)
  where
    go : (items : List (Item Row)) (b : Bool) → has_end (items ++ cond b (end ∷ []) []) ≡ cond b true (has_end items)
    go [] true = refl
    go [] false = refl
    go (row x ∷ items) b = go items b
    go (end ∷ items) true = refl
    go (end ∷ items) false = refl

pub turn_more : {X : Type 0} (t : ℕ) (feeds : List (Feed X)) (f : Feed X) → turn_after t (feeds ++ f ∷ []) ≡ suc f.port
turn_more t [] f = refl
turn_more t (g ∷ feeds) f = turn_more (suc g.port) feeds f
