-- A plan with chains, link by link.
use Rattle.std.proofs.Common.{◌≡◌, ℕ, ◌<◌, ◌==◌, Bool, true, false, cond, ◌⊎◌, inl, inr, refl, sym, ap, ◌∙◌, subst, List, [], ◌∷◌}
use Rattle.std.proofs.lemmas.Bool.{eqb-true}
use Rattle.std.proofs.lemmas.List.Sorted.{IsPermutation-refl, IsPermutation-trans}
use Rattle.streams.specs.Lists.{IsIn}
use Rattle.streams.specs.Streams.{Out, Stream, emits_after, on, rows_out}
use Rattle.streams.specs.Core.{Player}
use Rattle.streams.specs.Wiring.{Plan, IsWired}
use Rattle.streams.specs.Chains.{others, passed_on, hand_on, then_stream, IsOnePort}
use Rattle.streams.proofs.StreamLaws.{eq_true, true_false}
use Rattle.plan_chains.specs.Combined.{CanCombine, combined, IsOneOutput, part}
use Rattle.plan_chains.specs.Chains.{all_faults, combined_at, chained, CanChain, ChainedIsLegal, ChainedIsWired}
use Rattle.plan_chains.proofs.Combining.{stays, differ, degrees_same, stream_a, stream_other, outs_a, outs_other, is_a, is_b, wired_both}
use Rattle.plan_chains.proofs.Faulting.{faults_kept}
use Rattle.plan_chains.proofs.Mixing.{others-append, no_more_others, one_output}
use Rattle.plan_chains.proofs.Parting.{combined_is_legal}

-- two operators in turn that send on output 0 alone are such an operator
then_one : {X F : Type 0} (a b : Stream X F) → IsOneOutput a → IsOneOutput b → IsOneOutput (then_stream a b)
then_one a b one two feeds f = others-append (others (a.gives feeds f)) (emits_after b (passed_on a feeds) (hand_on a feeds f)) (ap rows_out (no_more_others (a.gives feeds f)) ∙ one feeds f) (one_output b two (passed_on a feeds) (hand_on a feeds f))

module _ {X F : Type 0} (plan : Plan X F) (a b link : ℕ) (wired : IsWired plan) (can : CanCombine plan a b link) where
  -- another link can still be combined
  still : (c d l : ℕ) → CanCombine plan c d l → (link ≡ l → ⊥) → CanCombine (combined plan a b) (cond (c == b) a c) d l
  still c d l other apart = by (c == b) refl
    where
      port : IsOnePort ((combined plan a b).stream d)
      port = at_d (is_a plan a b link wired can d)
        where
          at_d : (d ≡ a) ⊎ (d ≡ a → ⊥) → IsOnePort ((combined plan a b).stream d)
          at_d (inl e) =
              let first : IsOnePort (plan.stream a) = subst (λ z. IsOnePort (plan.stream z)) e other.one_port in
              subst (λ (s : Stream X F). IsOnePort s) (sym (ap (combined plan a b).stream e ∙ stream_a plan a b link wired can)) (record { one = first.one; until = first.until })
          at_d (inr n) = subst (λ (s : Stream X F). IsOnePort s) (sym (stream_other plan a b link wired can d n)) other.one_port

      made_of : (o : ℕ) → IsIn o (combined plan a b).order → (combined plan a b).outs o ≡ l ∷ [] → IsOneOutput ((combined plan a b).stream o) → CanCombine (combined plan a b) o d l
      made_of o there outs one = record { producer = there; outs = outs; out = other.out; consumer = other.consumer; straight = other.straight; shares = other.shares; goes = other.goes; one_output = one; one_port = port }

      first_of : List ℕ → ℕ
      first_of [] = 0
      first_of (x ∷ xs) = x

      by : (t : Bool) → (c == b) ≡ t → CanCombine (combined plan a b) (cond t a c) d l
      by true e =
          let same : c ≡ b = eqb-true c b e in
          made_of a (stays b a plan.order can.producer (differ plan a b link wired can)) (outs_a plan a b link wired can ∙ (ap plan.outs (sym same) ∙ other.outs))
          (subst (λ (s : Stream X F). IsOneOutput s) (sym (stream_a plan a b link wired can)) (then_one (plan.stream a) (plan.stream b) can.one_output (subst (λ z. IsOneOutput (plan.stream z)) same other.one_output)))
      by false e =
          let not_b : c ≡ b → ⊥ = λ s. true_false (eq_true c b s) e in
          let not_a : c ≡ a → ⊥ = λ s. apart (ap first_of (sym can.outs ∙ (ap plan.outs (sym s) ∙ other.outs))) in
          made_of c (stays b c plan.order other.producer not_b) (outs_other plan a b link wired can c not_a ∙ other.outs)
          (subst (λ (s : Stream X F). IsOneOutput s) (sym (stream_other plan a b link wired can c not_a)) other.one_output)

  pub all_still : (ls : List ℕ) → CanChain plan ls → (IsIn link ls → ⊥) → CanChain (combined plan a b) ls
  all_still [] h apart = tt
  all_still (l ∷ ls) h apart = (still (plan.wire l).from (plan.wire l).into l h.0 (λ e. apart (inl e)), h.1, all_still ls h.2 (λ i. apart (inr i)))

  abbrev both : Plan X F
  both = combined plan a b

  -- what is sent on a link that isn't combined
  pub sends_on : (ls : List ℕ) (made mid makes : Player → List (Out X F))
      → ((o l i : ℕ) → IsIn o both.order → IsIn l (both.outs o) → (IsIn l ls → ⊥) → i < plan.degree o → (out : ℕ) → on out (made (part ((chained both ls).wire l).from i)) ≡ on out (mid (part o i)))
      → ((i : ℕ) → i < plan.degree a → (out : ℕ) → on out (mid (part a i)) ≡ on out (makes (part b i)))
      → ((p : Player) → (p.operator ≡ a → ⊥) → (p.operator ≡ b → ⊥) → makes p ≡ mid p)
      → (o l i : ℕ) → IsIn o plan.order → IsIn l (plan.outs o) → (l ≡ link → ⊥) → (IsIn l ls → ⊥) → i < plan.degree o → (out : ℕ) → on out (made (part ((chained both ls).wire l).from i)) ≡ on out (makes (part o i))
  sends_on ls made mid makes tail sent others o l i there leaves apart none lt out = by (is_a plan a b link wired can o) (is_b plan a b link wired can o)
    where
      sole : IsIn l (link ∷ []) → l ≡ link
      sole (inl e) = e
      sole (inr h) = absurd h

      by : (o ≡ a) ⊎ (o ≡ a → ⊥) → (o ≡ b) ⊎ (o ≡ b → ⊥) → on out (made (part ((chained both ls).wire l).from i)) ≡ on out (makes (part o i))
      by (inl e) d = absurd (apart (sole (subst (λ (ls : List ℕ). IsIn l ls) (ap plan.outs e ∙ can.outs) leaves)))
      by (inr n) (inl e) =
          let low : i < plan.degree a = subst (λ k. i < k) (ap plan.degree e ∙ sym (degrees_same plan a b link wired can)) lt in
          let out_of : IsIn l (both.outs a) = subst (λ (ls : List ℕ). IsIn l ls) (ap plan.outs e ∙ sym (outs_a plan a b link wired can)) leaves in
          tail a l i (stays b a plan.order can.producer (differ plan a b link wired can)) out_of none low out ∙ (sent i low out ∙ ap (λ z. on out (makes (part z i))) (sym e))
      by (inr n) (inr m) =
          tail o l i (stays b o plan.order there m) (subst (λ (ls : List ℕ). IsIn l ls) (sym (outs_other plan a b link wired can o n)) leaves) none lt out ∙ ap (on out) (sym (others (part o i) n m))

chained_wired : {X F : Type 0} (plan : Plan X F) (ls : List ℕ) → IsWired plan → CanChain plan ls → IsWired (chained plan ls)
chained_wired plan [] wired can = wired
chained_wired plan (l ∷ ls) wired can =
    let a : ℕ = (plan.wire l).from in
    let b : ℕ = (plan.wire l).into in
    chained_wired (combined_at plan l) ls (wired_both plan a b l wired can.0) (all_still plan a b l wired can.0 ls can.2 can.1)

pub chained_is_wired : {X F : Type 0} → ChainedIsWired X F
chained_is_wired plan ls wired can = chained_wired plan ls wired can

pub chained_is_legal : {X F : Type 0} → ChainedIsLegal X F
chained_is_legal plan [] wired can file lane taken made legal = record {
  lanes = lane;
  takes = taken;
  makes = made;
  legal = legal;
  other_lanes = λ k n. refl;
  other_takes = λ p i n. refl;
  sends = λ o l i there out n lt q. ap (λ z. on q (made (part z i))) (wired.outputs o l there out).from;
  faults = IsPermutation-refl (all_faults plan made);
}
chained_is_legal plan (l ∷ ls) wired can file lane taken made legal =
    let a : ℕ = (plan.wire l).from in
    let b : ℕ = (plan.wire l).into in
    let both = combined_at plan l in
    let wb = wired_both plan a b l wired can.0 in
    let r = chained_is_legal both ls wb (all_still plan a b l wired can.0 ls can.2 can.1) file lane taken made legal in
    let s = combined_is_legal plan a b l wired can.0 file r.lanes r.takes r.makes r.legal in
    record {
      lanes = s.lanes;
      takes = s.takes;
      makes = s.makes;
      legal = s.legal;
      other_lanes = λ k n. s.other_lanes k (λ e. n (inl e)) ∙ r.other_lanes k (λ i. n (inr i));
      other_takes = λ p i n. s.other_takes p i n.0 ∙ r.other_takes p i n.1;
      sends = λ o m i there out n lt q. sends_on plan a b l wired can.0 ls made r.makes s.makes r.sends s.sends s.other_makes o m i there out (λ e. n (inl e)) (λ h. n (inr h)) lt q;
      faults = IsPermutation-trans (all_faults (chained both ls) made) (all_faults both r.makes) (all_faults plan s.makes) r.faults (faults_kept plan a b l wired can.0 r.makes s.makes s.other_makes s.faults);
    }
