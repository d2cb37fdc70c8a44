-- The lists of a run that is over are a legal execution.
use Rattle.std.proofs.Common.{◌≡◌, ℕ, ◌<◌, true, cond, inl, inr, refl, sym, ap, ◌∙◌, List, [], ◌∷◌, ◌++◌, map, append-nil}
use Rattle.streams.specs.Lists.{IsIn}
use Rattle.streams.specs.Streams.{Item, row, end, Out, rows, items_of, rows_of, emits, whole, on, rows_out}
use Rattle.streams.specs.Core.{Player, Lane, Parcel, State, of_lane, core, IsFinished, AreFiles}
use Rattle.streams.specs.Plans.{Net, sent, of_port, inner, comes_to, shape_of, IsPlan, IsLegal, IsRun, RunIsLegal, FinishedIsLegal}
use Rattle.streams.specs.Batches.{Packet, Due, unpack_all, messages_of, BatchState, batch_core, BatchFinished, Cuts, BatchFiles, batch_owed, BatchFinishedIsLegal}
use Rattle.streams.proofs.Kept.{Invariant, Invariant-core, origin, whole-end}
use Rattle.streams.proofs.BatchKept.{BatchInvariant, kept-core}
use Rattle.streams.proofs.Cutting.{owed_cuts}
use Rattle.streams.proofs.StreamLaws.{rows-whole}
use Rattle.streams.proofs.PlayerLaws.{stands, are_players, comes_at, at_items, lanes_ended, operator_ended}

module _ {X F : Type 0} (net : Net X F) (plan : IsPlan net) (file : Lane → List X) (feeds : Player → List (Parcel X)) (given : Lane → List (Item X)) (run : IsRun net file feeds given) where
  made_by : Player → List (Out X F)
  made_by p = emits (net.operator p) (inner net p (feeds p))

  -- what is owed by a player that has ended
  given_whole : (p : Player) (k : Lane) → IsIn p net.players → IsIn k (net.lanes p) → given k ≡ whole (sent (net.goes k) 0 (on (net.out k) (emits (net.operator p) (inner net p (feeds p)))))
  given_whole p k seat there = run.from_lane p k seat there
      ∙ ap (λ b. map row (sent (net.goes k) 0 (on (net.out k) (emits (net.operator p) (inner net p (feeds p))))) ++ cond b (end ∷ []) []) (operator_ended net plan p seat (feeds p) (run.fed p seat) (run.ended p seat))

  -- each lane that comes to a player is a whole list
  lane_whole : (p : Player) (k : Lane) → IsIn p net.players → comes_to net p k ≡ true → given k ≡ whole (rows (given k))
  lane_whole p k seat ck = elim (origin (shape_of net) plan.is_net p seat k ck) [
    | inl n ↦ by (file k) (run.from_file p k seat ck n)
    | inr o ↦ by _ (given_whole o.0 k o.1 o.2)
  ]
    where
      by : (xs : List X) → given k ≡ whole xs → given k ≡ whole (rows (given k))
      by xs e = e ∙ ap whole (sym (ap rows e ∙ rows-whole xs))

  -- a player was fed the whole of each lane
  fed_whole : (p : Player) (k : Lane) → IsIn p net.players → comes_to net p k ≡ true → of_lane k (feeds p) ≡ whole (rows (given k))
  fed_whole p k seat ck =
      let r = run.reached p k seat ck in
      let w = lane_whole p k seat ck in
      sym (append-nil _) ∙ ap (λ t. of_lane k (feeds p) ++ t) (sym (whole-end (rows (given k)) (of_lane k (feeds p)) r.0 (sym w ∙ r.1) (run.ended p seat k ck))) ∙ sym r.1 ∙ w

  pub legal : IsLegal net file (λ k. rows (given k)) (λ p i. rows_of i (inner net p (feeds p))) (λ p. emits (net.operator p) (inner net p (feeds p)))
  legal = record {
    read = λ p k seat ck n. ap rows (run.from_file p k seat ck n) ∙ rows-whole (file k);
    routed = λ p k seat there. ap rows (given_whole p k seat there) ∙ rows-whole _;
    collected = λ p i seat lt.
        let st = stands net plan p seat (feeds p) (run.fed p seat) in
        let outs : List (Out X F) = emits (net.collector p i) (of_port net i (feeds p)) in (
          outs,
          record {
            feeds = of_port net i (feeds p);
            fed = st.port_fed i lt;
            taken = λ t lt2. at_items net plan p seat (feeds p) (run.fed p seat) i t lt lt2 ∙ fed_whole p (net.at p i t) seat (comes_at net plan p seat i t lt lt2);
            made = refl;
          },
          ap rows (port_whole p i seat lt) ∙ rows-whole (rows_out outs),
        );
    given = λ p seat. record {
      feeds = inner net p (feeds p);
      fed = (stands net plan p seat (feeds p) (run.fed p seat)).operator_fed;
      taken = λ i lt. port_whole p i seat lt ∙ ap whole (sym (ap rows (port_whole p i seat lt) ∙ rows-whole _));
      made = refl;
    };
  }
    where
      port_whole : (p : Player) (i : ℕ) → IsIn p net.players → i < (net.operator p).ports → items_of i (inner net p (feeds p)) ≡ whole (rows_out (emits (net.collector p i) (of_port net i (feeds p))))
      port_whole p i seat lt = (stands net plan p seat (feeds p) (run.fed p seat)).passed i lt ∙ ap (λ b. map row (rows_out (emits (net.collector p i) (of_port net i (feeds p)))) ++ cond b (end ∷ []) []) (lanes_ended net plan p seat (feeds p) (run.fed p seat) (run.ended p seat) i lt)

pub run-is-legal : {X F : Type 0} → RunIsLegal X F
run-is-legal net plan file feeds given run = legal net plan file feeds given run

-- a finished state of the core is such a run
finished_run : {X F : Type 0} (net : Net X F) (files : Lane → List (Parcel X)) (full : AreFiles (shape_of net) files) (s : State X) → Invariant (shape_of net) files s → IsFinished (shape_of net) s → IsRun net full.lists s.feeds (λ k. of_lane k (files (net.into k)) ++ s.put k)
finished_run net files full s inv fin = record {
  fed = λ p seat. inv.fed p;
  ended = fin.ended;
  from_file = λ p k seat ck n. ap (λ t. of_lane k (files (net.into k)) ++ t) (inv.unput k n) ∙ append-nil _ ∙ full.file p k ck n;
  from_lane = λ p k seat there. ap (λ t. t ++ s.put k) (full.others p k there) ∙ fin.all_put p k seat there;
  reached = λ p k seat ck. (of_lane k (s.queue (net.into k)), inv.lane p k ck);
}

pub finished-is-legal : {X F : Type 0} → FinishedIsLegal X F
finished-is-legal net plan files full capacity events fin =
    let s = core (shape_of net) files capacity events in
    legal net plan full.lists s.feeds (λ k. of_lane k (files (net.into k)) ++ s.put k) (finished_run net files full s (Invariant-core (shape_of net) plan.is_net (are_players net plan) files full capacity events) fin)

-- and one of the core with batches
batch_finished_run : {X F : Type 0} (net : Net X F) (due : Due X) → Cuts (shape_of net) due → (files : Lane → List (Packet X)) (full : BatchFiles (shape_of net) files) (s : BatchState X) → BatchInvariant (shape_of net) due files s → BatchFinished (shape_of net) due s →
    IsRun net full.lists s.feeds (λ k. unpack_all (messages_of k (files (net.into k)) ++ s.put k))
batch_finished_run net due cuts files full s inv fin = record {
  fed = λ p seat. inv.fed p;
  ended = fin.ended;
  from_file = λ p k seat ck n. ap (λ t. unpack_all (messages_of k (files (net.into k)) ++ t)) (inv.unput k n) ∙ ap unpack_all (append-nil (messages_of k (files (net.into k)))) ∙ full.file p k ck n;
  from_lane = λ p k seat there. ap (λ t. unpack_all (t ++ s.put k)) (full.others p k there) ∙ ap unpack_all (fin.all_put p k seat there) ∙ cuts.all p seat k (s.feeds p) (inv.fed p) (fin.ended p seat);
  reached = λ p k seat ck. (_, inv.lane p k ck);
}

pub batch-finished-is-legal : {X F : Type 0} → BatchFinishedIsLegal X F
batch-finished-is-legal net plan size limit files full capacity events fin =
    let due = batch_owed net size limit in
    let cuts = owed_cuts net plan size limit in
    let s = batch_core (shape_of net) due files capacity events in
    legal net plan full.lists s.feeds (λ k. unpack_all (messages_of k (files (net.into k)) ++ s.put k)) (batch_finished_run net due cuts files full s (kept-core (shape_of net) plan.is_net (are_players net plan) due cuts files full capacity events).inv fin)
