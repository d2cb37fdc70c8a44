-- What players know by themselves says, along the net, that no lane gives anything behind its End.
use Rattle.std.proofs.Common.{◌≡◌, Bool, true, false, cond, ◌⊎◌, inl, inr, refl, sym, ap, ◌∙◌, subst, List, [], ◌∷◌, ◌++◌, map, append_assoc}
use Rattle.streams.specs.Lists.{IsIn}
use Rattle.streams.specs.Streams.{Item, row, end, has_end, emits, whole, on}
use Rattle.streams.specs.Core.{Player, Lane, Parcel, of_lane, WasFedAfter, WasFed, Forward}
use Rattle.streams.specs.Plans.{Net, sent, inner, comes_to, shape_of, IsPlan, IsRun, WantedAfter, IsLooseRun, LooseIsRun}
use Rattle.streams.proofs.Basics.{lane_tells, tells_true}
use Rattle.streams.proofs.Kept.{of_lane-append, whole-end}
use Rattle.streams.proofs.PlayerLaws.{operator_ended}

module _ {X F : Type 0} (net : Net X F) (plan : IsPlan net) (file : Lane → List X) (feeds : Player → List (Parcel X)) (given : Lane → List (Item X)) (run : IsLooseRun net file feeds given) where
  abbrev Whole : Lane → Type 0
  Whole k = (xs : List X) × (given k ≡ whole xs)

  -- a player whose lanes are whole lists was fed nothing behind an End
  tighten : (p : Player) → IsIn p net.players → ((k : Lane) → comes_to net p k ≡ true → Whole k) → (before after : List (Parcel X)) → feeds p ≡ before ++ after → WantedAfter net p before after → WasFedAfter (shape_of net) p before after
  tighten p seat whole_lanes before [] e h = tt
  tighten p seat whole_lanes before (f ∷ after) e h =
      (h.0, open_still (has_end (of_lane f.lane before)) refl, h.1, tighten p seat whole_lanes (before ++ f ∷ []) after (e ∙ sym (append_assoc before (f ∷ []) after)) h.2)
    where
      cons_nil : {i : Item X} {is : List (Item X)} → i ∷ is ≡ [] → ⊥
      cons_nil e = cc

      open_still : (b : Bool) → has_end (of_lane f.lane before) ≡ b → has_end (of_lane f.lane before) ≡ false
      open_still false k = k
      open_still true k =
          let w = whole_lanes f.lane h.0 in
          let r = run.reached p f.lane seat h.0 in
          let split : whole w.0 ≡ of_lane f.lane before ++ (f.item ∷ (of_lane f.lane after ++ r.0)) =
          sym w.1 ∙ r.1 ∙ ap (λ F. of_lane f.lane F ++ r.0) e ∙ ap (λ t. t ++ r.0) (of_lane-append f.lane before (f ∷ after)) ∙ append_assoc (of_lane f.lane before) (of_lane f.lane (f ∷ after)) r.0
          ∙ ap (λ b. of_lane f.lane before ++ (cond b (f.item ∷ of_lane f.lane after) (of_lane f.lane after) ++ r.0)) (tells_true lane_tells f.lane f.lane refl) in
          absurd (cons_nil (whole-end w.0 (of_lane f.lane before) (f.item ∷ (of_lane f.lane after ++ r.0)) split k))

  fed_along : (seen players : List Player) → ((p : Player) → IsIn p seen → IsIn p net.players × WasFed (shape_of net) p (feeds p)) → ((p : Player) → IsIn p players → IsIn p net.players) → Forward (shape_of net) seen players → (p : Player) → IsIn p players → WasFed (shape_of net) p (feeds p)
  fed_along seen [] before all f p h = absurd h
  fed_along seen (q ∷ players) before all f p h = by h (fed_along (q ∷ seen) players (λ r i. elim i [ inl e ↦ subst (λ z. IsIn z net.players × WasFed (shape_of net) z (feeds z)) (sym e) (all q (inl refl), here) | inr j ↦ before r j ]) (λ r i. all r (inr i)) f.2 p)
    where
      whole_lane : (k : Lane) → comes_to net q k ≡ true → Whole k
      whole_lane k ck = elim (f.0 k ck) [
        | inl n ↦ (file k, run.from_file q k (all q (inl refl)) ck n)
        | inr o ↦
            let b = before o.0 o.1 in (
              sent (net.goes k) 0 (on (net.out k) (emits (net.operator o.0) (inner net o.0 (feeds o.0)))),
              run.from_lane o.0 k b.0 o.2 ∙ ap (λ b. map row (sent (net.goes k) 0 (on (net.out k) (emits (net.operator o.0) (inner net o.0 (feeds o.0))))) ++ cond b (end ∷ []) []) (operator_ended net plan o.0 b.0 (feeds o.0) b.1 (run.ended o.0 b.0)),
            )
      ]

      here : WasFed (shape_of net) q (feeds q)
      here = tighten q (all q (inl refl)) whole_lane [] (feeds q) refl (run.fed q (all q (inl refl)))

      by : (p ≡ q) ⊎ IsIn p players → (IsIn p players → WasFed (shape_of net) p (feeds p)) → WasFed (shape_of net) p (feeds p)
      by (inl e) rest = subst (λ z. WasFed (shape_of net) z (feeds z)) (sym e) here
      by (inr i) rest = rest i

  pub tight : IsRun net file feeds given
  tight = record {
    fed = λ p seat. fed_along [] net.players (λ q h. absurd h) (λ q h. h) plan.is_net.forward p seat;
    ended = run.ended;
    from_file = run.from_file;
    from_lane = run.from_lane;
    reached = run.reached;
  }

pub loose-is-run : {X F : Type 0} → LooseIsRun X F
loose-is-run net plan file feeds given run = tight net plan file feeds given run
