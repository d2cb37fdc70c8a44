-- A plan with a combined link is wired.
use Rattle.std.proofs.Common.{◌≡◌, ℕ, ◌<◌, ◌==◌, Bool, true, false, not, cond, ◌⊎◌, inl, inr, refl, sym, ap, ap₂, ◌∙◌, subst, List, [], ◌∷◌, filter, arith}
use Rattle.std.proofs.lemmas.Bool.{eqb-true}
use Rattle.streams.specs.Lists.{IsIn}
use Rattle.streams.specs.Streams.{Stream, IsStream}
use Rattle.streams.specs.Wiring.{Plan, GoesForward, Leaves, IsWired}
use Rattle.streams.specs.Chains.{then_stream}
use Rattle.streams.proofs.StreamLaws.{eq_true, eq_false, true_false}
use Rattle.streams.proofs.ChainLaws.{then_is}
use Rattle.plan_chains.specs.Combined.{CanCombine, combined, CombinedIsWired}

abbrev pub without : ℕ → List ℕ → List ℕ
without b order = filter (λ o. not (o == b)) order

-- a member that isn't b stays
pub stays : (b o : ℕ) (order : List ℕ) → IsIn o order → (o ≡ b → ⊥) → IsIn o (without b order)
stays b o [] h n = absurd h
stays b o (x ∷ order) h n = by (x == b) refl h (λ i. stays b o order i n)
  where
    by : (t : Bool) → (x == b) ≡ t → (o ≡ x) ⊎ IsIn o order → (IsIn o order → IsIn o (without b order)) → IsIn o (cond (not t) (x ∷ without b order) (without b order))
    by true e (inl s) more = absurd (n (s ∙ eqb-true x b e))
    by true e (inr i) more = more i
    by false e (inl s) more = inl s
    by false e (inr i) more = inr (more i)

pub stayed : (b o : ℕ) (order : List ℕ) → IsIn o (without b order) → IsIn o order × (o ≡ b → ⊥)
stayed b o [] h = absurd h
stayed b o (x ∷ order) h = by (x == b) refl h (stayed b o order)
  where
    by : (t : Bool) → (x == b) ≡ t → IsIn o (cond (not t) (x ∷ without b order) (without b order)) → (IsIn o (without b order) → IsIn o order × (o ≡ b → ⊥)) → IsIn o (x ∷ order) × (o ≡ b → ⊥)
    by true e i more = (inr (more i).0, (more i).1)
    by false e (inl s) more = (inl s, λ is. true_false (eq_true x b (sym s ∙ is)) e)
    by false e (inr i) more = (inr (more i).0, (more i).1)

module _ {X F : Type 0} (plan : Plan X F) (a b link : ℕ) (wired : IsWired plan) (can : CanCombine plan a b link) where
  abbrev pub both : Plan X F
  both = combined plan a b

  pub leaves : Leaves plan a link
  leaves = wired.outputs a link can.producer (subst (λ (ls : List ℕ). IsIn link ls) (sym can.outs) (inl refl))

  pub there : IsIn b plan.order
  there = subst (λ z. IsIn z plan.order) can.consumer leaves.into

  -- the only input of b
  pub only : (l : ℕ) → (plan.wire l).into ≡ b → (plan.wire l).port < (plan.stream (plan.wire l).into).ports → plan.input (plan.wire l).into (plan.wire l).port ≡ l → plan.input b 0 ≡ l
  only l e lt is =
      let one : (plan.wire l).port < (plan.stream b).ports = subst (λ z. (plan.wire l).port < (plan.stream z).ports) e lt in
      let ports : (plan.stream b).ports ≡ 1 = can.one_port.one in
      let zeroth : (plan.wire l).port ≡ 0 = omega arith in
      sym (ap₂ (λ o i. plan.input o i) e zeroth) ∙ is

  pub input_is : plan.input b 0 ≡ link
  input_is = only link can.consumer leaves.port leaves.input

  -- of the links that leave operators, it alone leads to b
  pub into_b : (o l : ℕ) → Leaves plan o l → (plan.wire l).into ≡ b → (l ≡ link) × (o ≡ a)
  into_b o l lv e =
      let same : l ≡ link = sym (only l e lv.port lv.input) ∙ input_is in
      (same, sym lv.from ∙ (ap (λ z. (plan.wire z).from) same ∙ leaves.from))

  -- a stands before b
  before : (seen order : List ℕ) → GoesForward plan seen order → IsIn b order → a ≡ b → ⊥
  before seen [] f h e = absurd h
  before seen (o ∷ order) f (inr i) e = before (o ∷ seen) order f.2 i e
  before seen (o ∷ order) f (inl s) e =
      let ports : (plan.stream b).ports ≡ 1 = can.one_port.one in
      let lt : 0 < (plan.stream o).ports = subst (λ z. 0 < (plan.stream z).ports) s (omega arith) in
      let input : plan.input o 0 ≡ link = ap (λ z. plan.input z 0) (sym s) ∙ input_is in
      elim (f.0 0 lt) [
        | inl file ↦ true_false (ap (λ z. (plan.wire z).file) (sym input) ∙ file) leaves.no_file
        | inr n ↦ f.1 (subst (λ z. IsIn z seen) (ap (λ z. (plan.wire z).from) input ∙ (leaves.from ∙ (e ∙ s))) n.0)
      ]

  pub differ : a ≡ b → ⊥
  differ e = before [] plan.order wired.forward there e

  pub degrees_same : plan.degree a ≡ plan.degree b
  degrees_same = leaves.straight can.straight ∙ ap plan.degree can.consumer

  -- the producer of a wire
  pub from_b : (l : ℕ) → (plan.wire l).from ≡ b → (both.wire l).from ≡ a
  from_b l e = ap (λ t. cond t a (plan.wire l).from) (eq_true (plan.wire l).from b e)

  pub from_other : (l : ℕ) → ((plan.wire l).from ≡ b → ⊥) → (both.wire l).from ≡ (plan.wire l).from
  from_other l n = ap (λ t. cond t a (plan.wire l).from) (eq_false (plan.wire l).from b n)

  pub stream_a : both.stream a ≡ then_stream (plan.stream a) (plan.stream b)
  stream_a = ap (λ t. cond t (then_stream (plan.stream a) (plan.stream b)) (plan.stream a)) (eq_true a a refl)

  pub stream_other : (o : ℕ) → (o ≡ a → ⊥) → both.stream o ≡ plan.stream o
  stream_other o n = ap (λ t. cond t (then_stream (plan.stream a) (plan.stream b)) (plan.stream o)) (eq_false o a n)

  pub outs_a : both.outs a ≡ plan.outs b
  outs_a = ap (λ t. cond t (plan.outs b) (plan.outs a)) (eq_true a a refl)

  pub outs_other : (o : ℕ) → (o ≡ a → ⊥) → both.outs o ≡ plan.outs o
  outs_other o n = ap (λ t. cond t (plan.outs b) (plan.outs o)) (eq_false o a n)

  pub ports_same : (o : ℕ) → (both.stream o).ports ≡ (plan.stream o).ports
  ports_same o = by (o == a) refl
    where
      by : (t : Bool) → (o == a) ≡ t → (cond t (then_stream (plan.stream a) (plan.stream b)) (plan.stream o)).ports ≡ (plan.stream o).ports
      by true e = ap (λ z. (plan.stream z).ports) (sym (eqb-true o a e))
      by false e = refl

  -- an operator is a or another
  pub is_a : (o : ℕ) → (o ≡ a) ⊎ (o ≡ a → ⊥)
  is_a o = by (o == a) refl
    where
      by : (t : Bool) → (o == a) ≡ t → (o ≡ a) ⊎ (o ≡ a → ⊥)
      by true e = inl (eqb-true o a e)
      by false e = inr (λ s. true_false (eq_true o a s) e)

  pub is_b : (o : ℕ) → (o ≡ b) ⊎ (o ≡ b → ⊥)
  is_b o = by (o == b) refl
    where
      by : (t : Bool) → (o == b) ≡ t → (o ≡ b) ⊎ (o ≡ b → ⊥)
      by true e = inl (eqb-true o b e)
      by false e = inr (λ s. true_false (eq_true o b s) e)

  -- where an input of another operator than b comes from
  source : (seen more : List ℕ) (o i : ℕ) → IsIn o plan.order → (o ≡ b → ⊥) → i < (plan.stream o).ports → ((x : ℕ) → IsIn x seen → (x ≡ b → ⊥) → IsIn x more) → (IsIn b seen → IsIn a more)
      → ((plan.wire (plan.input o i)).file ≡ true) ⊎ (IsIn (plan.wire (plan.input o i)).from seen × IsIn (plan.input o i) (plan.outs (plan.wire (plan.input o i)).from))
      → ((both.wire (plan.input o i)).file ≡ true) ⊎ (IsIn (both.wire (plan.input o i)).from more × IsIn (plan.input o i) (both.outs (both.wire (plan.input o i)).from))
  source seen more o i h other lt keep head (inl file) = inl file
  source seen more o i h other lt keep head (inr n) = by (is_b (plan.wire (plan.input o i)).from)
    where
      by : ((plan.wire (plan.input o i)).from ≡ b) ⊎ ((plan.wire (plan.input o i)).from ≡ b → ⊥) → ((both.wire (plan.input o i)).file ≡ true) ⊎ (IsIn (both.wire (plan.input o i)).from more × IsIn (plan.input o i) (both.outs (both.wire (plan.input o i)).from))
      by (inl e) = inr (
        subst (λ z. IsIn z more) (sym (from_b (plan.input o i) e)) (head (subst (λ z. IsIn z seen) e n.0)),
        subst (λ (ls : List ℕ). IsIn (plan.input o i) ls) (ap plan.outs e ∙ (sym outs_a ∙ ap both.outs (sym (from_b (plan.input o i) e)))) n.1,
      )
      by (inr d) = inr (
        subst (λ z. IsIn z more) (sym (from_other (plan.input o i) d)) (keep _ n.0 d),
        subst (λ (ls : List ℕ). IsIn (plan.input o i) ls) (sym (outs_other (plan.wire (plan.input o i)).from not_a) ∙ ap both.outs (sym (from_other (plan.input o i) d))) n.1,
      )
        where
          not_a : (plan.wire (plan.input o i)).from ≡ a → ⊥
          not_a e =
              let one : IsIn (plan.input o i) (link ∷ []) = subst (λ (ls : List ℕ). IsIn (plan.input o i) ls) (ap plan.outs e ∙ can.outs) n.1 in
              other (sym (wired.inputs o i h lt).0 ∙ (ap (λ z. (plan.wire z).into) (sole one) ∙ can.consumer))
            where
              sole : IsIn (plan.input o i) (link ∷ []) → plan.input o i ≡ link
              sole (inl s) = s
              sole (inr i) = absurd i

  -- what feeds b was seen before it
  pub fed_before : (seen order : List ℕ) (o : ℕ) → GoesForward plan seen (o ∷ order) → o ≡ b → IsIn a seen
  fed_before seen order o f e =
      let ports : (plan.stream b).ports ≡ 1 = can.one_port.one in
      let lt : 0 < (plan.stream o).ports = subst (λ z. 0 < (plan.stream z).ports) (sym e) (omega arith) in
      let input : plan.input o 0 ≡ link = ap (λ z. plan.input z 0) e ∙ input_is in
      elim (f.0 0 lt) [
        | inl file ↦ absurd (true_false (ap (λ z. (plan.wire z).file) (sym input) ∙ file) leaves.no_file)
        | inr n ↦ subst (λ z. IsIn z seen) (ap (λ z. (plan.wire z).from) input ∙ leaves.from) n.0
      ]

  forward : (seen more order : List ℕ) → ((x : ℕ) → IsIn x order → IsIn x plan.order) → ((x : ℕ) → IsIn x seen → (x ≡ b → ⊥) → IsIn x more) → ((x : ℕ) → IsIn x more → IsIn x seen) → (IsIn b seen → IsIn a more) → GoesForward plan seen order → GoesForward both more (without b order)
  forward seen more [] within keep back head f = tt
  forward seen more (o ∷ order) within keep back head f = by (o == b) refl
      (λ e. forward (o ∷ seen) more order (λ x i. within x (inr i)) (λ x i n. elim i [ inl s ↦ absurd (n (s ∙ e)) | inr j ↦ keep x j n ]) (λ x i. inr (back x i)) (λ i. elim i [ inl s ↦ keep a (fed_before seen order o f e) differ | inr j ↦ head j ]) f.2)
      (forward (o ∷ seen) (o ∷ more) order (λ x i. within x (inr i)) (λ x i n. elim i [ inl s ↦ inl s | inr j ↦ inr (keep x j n) ]) (λ x i. elim i [ inl s ↦ inl s | inr j ↦ inr (back x j) ]))
    where
      by : (t : Bool) → (o == b) ≡ t → (o ≡ b → GoesForward both more (without b order)) → ((IsIn b (o ∷ seen) → IsIn a (o ∷ more)) → GoesForward plan (o ∷ seen) order → GoesForward both (o ∷ more) (without b order)) → GoesForward both more (cond (not t) (o ∷ without b order) (without b order))
      by true e drop keeps = drop (eqb-true o b e)
      by false e drop keeps = (
        λ i lt. source seen more o i (within o (inl refl)) (λ s. true_false (eq_true o b s) e) (subst (λ n. i < n) (ports_same o) lt) keep head (f.0 i (subst (λ n. i < n) (ports_same o) lt)),
        λ i. f.1 (back o i),
        keeps (λ i. elim i [ inl s ↦ absurd (true_false (eq_true o b (sym s)) e) | inr j ↦ inr (head j) ]) f.2,
      )

  leaves_both : (o l : ℕ) → IsIn o both.order → IsIn l (both.outs o) → Leaves both o l
  leaves_both o l h i = by (is_a o)
    where
      stay : IsIn o plan.order × (o ≡ b → ⊥)
      stay = stayed b o plan.order h

      made_of : (q : ℕ) → Leaves plan q l → ((plan.wire l).into ≡ b → ⊥) → (both.wire l).from ≡ o → plan.degree o ≡ plan.degree q → Leaves both o l
      made_of q lv n from deg = record {
        from = from;
        no_file = lv.no_file;
        into = stays b (plan.wire l).into plan.order lv.into n;
        port = subst (λ m. (plan.wire l).port < m) (sym (ports_same (plan.wire l).into)) lv.port;
        input = lv.input;
        straight = λ st. deg ∙ lv.straight st;
      }

      by : (o ≡ a) ⊎ (o ≡ a → ⊥) → Leaves both o l
      by (inl e) =
          let lv = wired.outputs b l there (subst (λ (ls : List ℕ). IsIn l ls) (ap both.outs e ∙ outs_a) i) in
          made_of b lv (λ s. differ (sym (into_b b l lv s).1)) (from_b l lv.from ∙ sym e) (ap plan.degree e ∙ degrees_same)
      by (inr n) =
          let lv = wired.outputs o l stay.0 (subst (λ (ls : List ℕ). IsIn l ls) (outs_other o n) i) in
          made_of o lv (λ s. n (into_b o l lv s).1) (from_other l (λ s. stay.1 (sym lv.from ∙ s)) ∙ lv.from) refl

  streams_both : (o : ℕ) → IsIn o plan.order → IsStream (both.stream o)
  streams_both o h = by (is_a o)
    where
      by : (o ≡ a) ⊎ (o ≡ a → ⊥) → IsStream (both.stream o)
      by (inl e) = subst (λ (s : Stream X F). IsStream s) (sym (ap both.stream e ∙ stream_a)) (then_is (plan.stream a) (plan.stream b) (wired.streams a can.producer) can.one_port)
      by (inr n) = subst (λ (s : Stream X F). IsStream s) (sym (stream_other o n)) (wired.streams o h)

  pub wired_both : IsWired both
  wired_both = record {
    forward = forward [] [] plan.order (λ x i. i) (λ x i n. i) (λ x i. i) (λ i. absurd i) wired.forward;
    degrees = λ o h. wired.degrees o (stayed b o plan.order h).0;
    streams = λ o h. streams_both o (stayed b o plan.order h).0;
    inputs = λ o i h lt. wired.inputs o i (stayed b o plan.order h).0 (subst (λ n. i < n) (ports_same o) lt);
    outputs = leaves_both;
  }

pub combined_is_wired : {X F : Type 0} → CombinedIsWired X F
combined_is_wired plan a b link wired can = wired_both plan a b link wired can
