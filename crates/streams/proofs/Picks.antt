-- The port that is picked, and streams that want one so.
use Rattle.std.proofs.Common.{◌≡◌, ℕ, zero, suc, ◌+◌, ◌<◌, ◌≤◌, Bool, true, false, not, ◌||◌, cond, ◌⊎◌, inl, inr, refl, sym, ap, ap₂, ◌∙◌, subst, List, arith}
use Rattle.std.specs.Prelude.{nat_lt}
use Rattle.std.proofs.lemmas.Bool.{lt-ltb, ltb-true, le-ltb, ltb-false}
use Rattle.std.proofs.lemmas.Bool.Decides.{eqb_tells}
use Rattle.streams.specs.Streams.{Feed, Stream, ended, IsStream}
use Rattle.streams.specs.Operators.{picks, from_turn, second_first}
use Rattle.streams.proofs.Basics.{and_true, and_left, and_right, or_right}
use Rattle.streams.proofs.StreamLaws.{all_at, all_from, all_or, true_false, or_left}

pub not_true : (b : Bool) → not b ≡ true → b ≡ false
not_true true h = let e : false ≡ true = h in cc
not_true false h = refl

pub not_false : (b : Bool) → not b ≡ false → b ≡ true
not_false true h = refl
not_false false h = let e : true ≡ false = h in cc

-- a number of least rank among those that ask
least_asking : (n : ℕ) (rank : ℕ → ℕ) (asks : ℕ → Bool) → ((i : ℕ) × (i < n) × (asks i ≡ true) × ((j : ℕ) → j < n → asks j ≡ true → rank i ≤ rank j)) ⊎ ((j : ℕ) → j < n → asks j ≡ false)
least_asking zero rank asks = inr (λ j lt. absurd (omega arith))
least_asking (suc n) rank asks = go (asks n) refl (least_asking n rank asks)
  where
    below : (j n : ℕ) → j < suc n → (j ≡ n → ⊥) → j < n
    below j n lt ne = grind arith

    go : (b : Bool) → asks n ≡ b → ((i : ℕ) × (i < n) × (asks i ≡ true) × ((j : ℕ) → j < n → asks j ≡ true → rank i ≤ rank j)) ⊎ ((j : ℕ) → j < n → asks j ≡ false) →
        ((i : ℕ) × (i < suc n) × (asks i ≡ true) × ((j : ℕ) → j < suc n → asks j ≡ true → rank i ≤ rank j)) ⊎ ((j : ℕ) → j < suc n → asks j ≡ false)
    go false e (inr none) = inr (λ j lt. elim (eqb_tells j n) [ inl t ↦ ap asks t.1 ∙ e | inr t ↦ none j (below j n lt t.1) ])
    go false e (inl r) = inl (r.0, omega (arith, r.1), r.2, λ j lt a. elim (eqb_tells j n) [ inl t ↦ absurd (true_false a (ap asks t.1 ∙ e)) | inr t ↦ r.3 j (below j n lt t.1) a ])
    go true e (inr none) = inl (n, omega arith, e, λ j lt a. elim (eqb_tells j n) [ inl t ↦ subst (λ z. rank n ≤ rank z) (sym t.1) (omega arith) | inr t ↦ absurd (true_false a (none j (below j n lt t.1))) ])
    go true e (inl r) = by (nat_lt (rank n) (rank r.0)) refl
      where
        by : (b : Bool) → nat_lt (rank n) (rank r.0) ≡ b → ((i : ℕ) × (i < suc n) × (asks i ≡ true) × ((j : ℕ) → j < suc n → asks j ≡ true → rank i ≤ rank j)) ⊎ ((j : ℕ) → j < suc n → asks j ≡ false)
        by true l = inl (
          n,
          omega arith,
          e,
          λ j lt a. elim (eqb_tells j n) [
            | inl t ↦ subst (λ z. rank n ≤ rank z) (sym t.1) (omega arith)
            | inr t ↦ let m : rank r.0 ≤ rank j = r.3 j (below j n lt t.1) a in let k : rank n < rank r.0 = ltb-true _ _ l in omega (arith, m, k)
          ],
        )
        by false l = inl (
          r.0,
          omega (arith, r.1),
          r.2,
          λ j lt a. elim (eqb_tells j n) [
            | inl t ↦ subst (λ z. rank r.0 ≤ rank z) (sym t.1) (ltb-false _ _ l)
            | inr t ↦ r.3 j (below j n lt t.1) a
          ],
        )

pub picks_open : (n : ℕ) (rank : ℕ → ℕ) (asks : ℕ → Bool) (i : ℕ) → picks n rank asks i ≡ true → (i < n) × (asks i ≡ true)
picks_open n rank asks i h = (ltb-true _ _ (and_left _ _ h), and_left _ _ (and_right _ _ h))

pub picks_some : (n : ℕ) (rank : ℕ → ℕ) (asks : ℕ → Bool) (k : ℕ) → k < n → asks k ≡ true → (i : ℕ) × (picks n rank asks i ≡ true)
picks_some n rank asks k lt a = go (least_asking n rank asks)
  where
    go : ((i : ℕ) × (i < n) × (asks i ≡ true) × ((j : ℕ) → j < n → asks j ≡ true → rank i ≤ rank j)) ⊎ ((j : ℕ) → j < n → asks j ≡ false) → (i : ℕ) × (picks n rank asks i ≡ true)
    go (inr none) = absurd (true_false a (none k lt))
    go (inl r) = (r.0, and_true (lt-ltb _ _ r.1) (and_true r.2 (all_from n (λ j. not (asks j) || not (nat_lt (rank j) (rank r.0))) (λ j lj. by j lj (asks j) refl))))
      where
        by : (j : ℕ) → j < n → (b : Bool) → asks j ≡ b → (not (asks j) || not (nat_lt (rank j) (rank r.0))) ≡ true
        by j lj false e = or_left _ (ap not e)
        by j lj true e = or_right _ (ap not (le-ltb _ _ (r.3 j lj e)))

pub least_rank : (n : ℕ) (rank : ℕ → ℕ) (asks : ℕ → Bool) (i j : ℕ) → picks n rank asks i ≡ true → j < n → asks j ≡ true → rank i ≤ rank j
least_rank n rank asks i j h lt a = go (all_at n (λ j. not (asks j) || not (nat_lt (rank j) (rank i))) (and_right _ _ (and_right _ _ h)) j lt) (nat_lt (rank j) (rank i)) refl
  where
    go : (not (asks j) || not (nat_lt (rank j) (rank i))) ≡ true → (b : Bool) → nat_lt (rank j) (rank i) ≡ b → rank i ≤ rank j
    go f true e = absurd (true_false f (ap₂ (λ x y. not x || not y) a e))
    go f false e = ltb-false _ _ e

pub picks_single : (n : ℕ) (rank : ℕ → ℕ) (asks : ℕ → Bool) → ((i j : ℕ) → i < n → j < n → rank i ≡ rank j → i ≡ j) → (i j : ℕ) → picks n rank asks i ≡ true → picks n rank asks j ≡ true → i ≡ j
picks_single n rank asks inj i j h k =
    let a = picks_open n rank asks i h in
    let b = picks_open n rank asks j k in
    let l : rank i ≤ rank j = least_rank n rank asks i j h b.0 b.1 in
    let m : rank j ≤ rank i = least_rank n rank asks j i k a.0 a.1 in
    inj i j a.0 b.0 (omega (arith, l, m))

pub turn_inj : (n t i j : ℕ) → i < n → j < n → from_turn n t i ≡ from_turn n t j → i ≡ j
turn_inj n t i j li lj e = go (nat_lt i t) refl (nat_lt j t) refl
  where
    go : (a : Bool) → nat_lt i t ≡ a → (b : Bool) → nat_lt j t ≡ b → i ≡ j
    go true a true b = let f : n + i ≡ n + j = sym (ap (λ x. cond x (n + i) i) a) ∙ e ∙ ap (λ x. cond x (n + j) j) b in omega (arith, f)
    go true a false b = let f : n + i ≡ j = sym (ap (λ x. cond x (n + i) i) a) ∙ e ∙ ap (λ x. cond x (n + j) j) b in omega (arith, f)
    go false a true b = let f : i ≡ n + j = sym (ap (λ x. cond x (n + i) i) a) ∙ e ∙ ap (λ x. cond x (n + j) j) b in omega (arith, f)
    go false a false b = sym (ap (λ x. cond x (n + i) i) a) ∙ e ∙ ap (λ x. cond x (n + j) j) b

pub second_inj : (i j : ℕ) → i < 2 → j < 2 → second_first i ≡ second_first j → i ≡ j
second_inj zero zero li lj e = refl
second_inj zero (suc zero) li lj e = let n : ◌≡◌ {A = ℕ} 1 0 = e in absurd (omega (arith, n))
second_inj (suc zero) zero li lj e = let n : ◌≡◌ {A = ℕ} 0 1 = e in absurd (omega (arith, n))
second_inj (suc zero) (suc zero) li lj e = refl
second_inj (suc (suc i)) j li lj e = absurd (omega arith)
second_inj zero (suc (suc j)) li lj e = absurd (omega arith)
second_inj (suc zero) (suc (suc j)) li lj e = absurd (omega arith)

-- where the ports that ask are those that haven't ended
pub open_stream : {X F : Type 0} (operator : Stream X F) → 0 < operator.ports → (rank : List (Feed X) → ℕ → ℕ) → ((feeds : List (Feed X)) (i : ℕ) → operator.wants feeds i ≡ picks operator.ports (rank feeds) (λ i. not (ended i feeds)) i) → IsStream operator
open_stream operator some rank is = record {
  some = some;
  opens = λ feeds i w. let o = picks_open operator.ports (rank feeds) (λ i. not (ended i feeds)) i (sym (is feeds i) ∙ w) in (o.0, not_true _ o.1);
  hungry = λ feeds fed. elim (all_or operator.ports (λ i. ended i feeds)) [
    | inr h ↦ inr h
    | inl r ↦ inl (let p = picks_some operator.ports (rank feeds) (λ i. not (ended i feeds)) r.0 r.1 (ap not r.2) in (p.0, is feeds p.0 ∙ p.1))
  ];
}
