-- Tests of names, and lists.
use Rattle.std.proofs.Common.{◌≡◌, ◌==◌, Bool, true, false, ◌&&◌, ◌||◌, cond, ◌⊎◌, inl, inr, refl, sym, ap, ◌∙◌, subst, List, [], ◌∷◌}
use Rattle.std.proofs.lemmas.Bool.Decides.{eqb_tells}
use Rattle.streams.specs.Lists.{IsIn, any_of}
use Rattle.streams.specs.Core.{Player, Lane, same_player, same_lane, set}

-- a test tells whether two are one
abbrev pub Tells : {K : Type 0} → (K → K → Bool) → Type 0
Tells {K} same = (a b : K) → ((same a b ≡ true) × (a ≡ b)) ⊎ ((same a b ≡ false) × (a ≡ b → ⊥))

pub and_true : {a b : Bool} → a ≡ true → b ≡ true → (a && b) ≡ true
and_true {a} {b} h k = ap (λ x. x && b) h ∙ k

pub player_tells : Tells same_player
player_tells a b = by (eqb_tells a.operator b.operator) (eqb_tells a.partition b.partition)
  where
    by : (((a.operator == b.operator) ≡ true) × (a.operator ≡ b.operator)) ⊎ (((a.operator == b.operator) ≡ false) × (a.operator ≡ b.operator → ⊥)) →
        (((a.partition == b.partition) ≡ true) × (a.partition ≡ b.partition)) ⊎ (((a.partition == b.partition) ≡ false) × (a.partition ≡ b.partition → ⊥)) →
        ((same_player a b ≡ true) × (a ≡ b)) ⊎ ((same_player a b ≡ false) × (a ≡ b → ⊥))
    by (inl h) (inl k) = inl (and_true h.0 k.0, λ i. record { operator = h.1 i; partition = k.1 i })
    by (inl h) (inr k) = inr (ap (λ x. x && (a.partition == b.partition)) h.0 ∙ k.0, λ e. k.1 (ap (λ (z : Player). z.partition) e))
    by (inr h) k = inr (ap (λ x. x && (a.partition == b.partition)) h.0, λ e. h.1 (ap (λ (z : Player). z.operator) e))

pub lane_tells : Tells same_lane
lane_tells a b = by (eqb_tells a.link b.link) (eqb_tells a.from b.from) (eqb_tells a.to b.to)
  where
    by : (((a.link == b.link) ≡ true) × (a.link ≡ b.link)) ⊎ (((a.link == b.link) ≡ false) × (a.link ≡ b.link → ⊥)) →
        (((a.from == b.from) ≡ true) × (a.from ≡ b.from)) ⊎ (((a.from == b.from) ≡ false) × (a.from ≡ b.from → ⊥)) →
        (((a.to == b.to) ≡ true) × (a.to ≡ b.to)) ⊎ (((a.to == b.to) ≡ false) × (a.to ≡ b.to → ⊥)) →
        ((same_lane a b ≡ true) × (a ≡ b)) ⊎ ((same_lane a b ≡ false) × (a ≡ b → ⊥))
    by (inl h) (inl k) (inl l) = inl (and_true h.0 (and_true k.0 l.0), λ i. record { link = h.1 i; from = k.1 i; to = l.1 i })
    by (inl h) (inl k) (inr l) = inr (ap (λ x. x && ((a.from == b.from) && (a.to == b.to))) h.0 ∙ ap (λ x. x && (a.to == b.to)) k.0 ∙ l.0, λ e. l.1 (ap (λ (z : Lane). z.to) e))
    by (inl h) (inr k) l = inr (ap (λ x. x && ((a.from == b.from) && (a.to == b.to))) h.0 ∙ ap (λ x. x && (a.to == b.to)) k.0, λ e. k.1 (ap (λ (z : Lane). z.from) e))
    by (inr h) k l = inr (ap (λ x. x && ((a.from == b.from) && (a.to == b.to))) h.0, λ e. h.1 (ap (λ (z : Lane). z.link) e))

pub set_case : {K A : Type 0} {same : K → K → Bool} → Tells same → (P : A → Type 0) (f : K → A) (i : K) (v : A) (j : K) → (j ≡ i → P v) → ((j ≡ i → ⊥) → P (f j)) → P (set same f i v j)
set_case {K} {A} {same} tells P f i v j here there = by (tells j i)
  where
    by : ((same j i ≡ true) × (j ≡ i)) ⊎ ((same j i ≡ false) × (j ≡ i → ⊥)) → P (set same f i v j)
    by (inl e) = subst (λ b. P (cond b v (f j))) (sym e.0) (here e.1)
    by (inr e) = subst (λ b. P (cond b v (f j))) (sym e.0) (there e.1)

pub set_same : {K A : Type 0} {same : K → K → Bool} → Tells same → (f : K → A) (i : K) (v : A) (j : K) → j ≡ i → set same f i v j ≡ v
set_same tells f i v j e = set_case tells (λ x. x ≡ v) f i v j (λ _. refl) (λ n. absurd (n e))

pub set_other : {K A : Type 0} {same : K → K → Bool} → Tells same → (f : K → A) (i : K) (v : A) (j : K) → (j ≡ i → ⊥) → set same f i v j ≡ f j
set_other tells f i v j n = set_case tells (λ x. x ≡ f j) f i v j (λ e. absurd (n e)) (λ _. refl)

pub tells_true : {K : Type 0} {same : K → K → Bool} → Tells same → (a b : K) → a ≡ b → same a b ≡ true
tells_true {K} {same} tells a b e = by (tells a b)
  where
    by : ((same a b ≡ true) × (a ≡ b)) ⊎ ((same a b ≡ false) × (a ≡ b → ⊥)) → same a b ≡ true
    by (inl t) = t.0
    by (inr t) = absurd (t.1 e)

pub tells_false : {K : Type 0} {same : K → K → Bool} → Tells same → (a b : K) → (a ≡ b → ⊥) → same a b ≡ false
tells_false {K} {same} tells a b n = by (tells a b)
  where
    by : ((same a b ≡ true) × (a ≡ b)) ⊎ ((same a b ≡ false) × (a ≡ b → ⊥)) → same a b ≡ false
    by (inl t) = absurd (n t.1)
    by (inr t) = t.0

-- the test of membership
pub any_in : {K : Type 0} {same : K → K → Bool} → Tells same → (x : K) (xs : List K) → any_of (same x) xs ≡ true → IsIn x xs
any_in tells x [] h = let e : false ≡ true = h in cc
any_in {K} {same} tells x (y ∷ ys) h = by (tells x y) (any_in tells x ys)
  where
    by : ((same x y ≡ true) × (x ≡ y)) ⊎ ((same x y ≡ false) × (x ≡ y → ⊥)) → (any_of (same x) ys ≡ true → IsIn x ys) → (x ≡ y) ⊎ IsIn x ys
    by (inl t) go = inl t.1
    by (inr t) go = inr (go (sym (ap (λ b. b || any_of (same x) ys) t.0) ∙ h))

pub or_right : (a : Bool) {b : Bool} → b ≡ true → (a || b) ≡ true
or_right true h = refl
or_right false h = h

pub in_any : {K : Type 0} {same : K → K → Bool} → Tells same → (x : K) (xs : List K) → IsIn x xs → any_of (same x) xs ≡ true
in_any {K} {same} tells x [] h = absurd h
in_any {K} {same} tells x (y ∷ ys) (inl e) = ap (λ b. b || any_of (same x) ys) (tells_true tells x y e)
in_any {K} {same} tells x (y ∷ ys) (inr h) = or_right (same x y) (in_any tells x ys h)

pub and_left : (a b : Bool) → (a && b) ≡ true → a ≡ true
and_left true b h = refl
and_left false b h = h

pub and_right : (a b : Bool) → (a && b) ≡ true → b ≡ true
and_right true b h = h
and_right false b h = absurd (let e : false ≡ true = h in cc)
