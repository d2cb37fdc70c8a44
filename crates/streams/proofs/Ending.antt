-- What falls comes to an end.
use Rattle.std.proofs.Common.{◌≡◌, ℕ, zero, suc, ◌+◌, ◌*◌, ◌^◌, ◌<◌, ◌≤◌, true, cond, inl, inr, refl, sym, ap, ◌∙◌, subst, List, [], ◌∷◌, length, arith}
use Rattle.std.proofs.Math.Nat.{mul-le-mul_right, pow-suc, pow-zero}
use Rattle.std.specs.List.{AllByRecursion}
use Rattle.streams.specs.Core.{Lane, Parcel, Shape, State, Event, is_enabled, done, step, start, IsFinished, IsNet, ArePlayers, AreFiles, measure, Falls, rank, RankFalls, chosen, Ends}
use Rattle.streams.proofs.Kept.{Invariant, Invariant-core, Invariant-step}
use Rattle.streams.proofs.Stuck.{never_stuck_at}
use Rattle.streams.proofs.Measure.{each-falls}

pub falls-long : (xs ys : List ℕ) → Falls xs ys → length xs ≡ length ys
falls-long [] ys f = absurd f
falls-long (x ∷ xs) [] f = absurd f
falls-long (x ∷ xs) (y ∷ ys) (inl f) = ap suc f.1
falls-long (x ∷ xs) (y ∷ ys) (inr f) = ap suc (falls-long xs ys f.1)

-- induction along what falls, for lists of one length
abbrev Along : ℕ → Type 1
Along n = (P : List ℕ → Type 0) → ((xs : List ℕ) → ((ys : List ℕ) → Falls ys xs → P ys) → P xs) → (xs : List ℕ) → length xs ≡ n → P xs

along_heads : (n : ℕ) → Along n → (P : List ℕ → Type 0) → ((xs : List ℕ) → ((ys : List ℕ) → Falls ys xs → P ys) → P xs) → (b x : ℕ) → x < b → (xs : List ℕ) → length xs ≡ n → P (x ∷ xs)
along_heads n rec P go zero x lt xs e = absurd (omega arith)
along_heads n rec P go (suc b) x lt xs e = rec (λ t. length t ≡ n → P (x ∷ t)) (λ t ih len. go (x ∷ t) (λ ys f. below (along_heads n rec P go b) ys t ih len f)) xs e e
  where
    below : ((y : ℕ) → y < b → (us : List ℕ) → length us ≡ n → P (y ∷ us)) → (ys t : List ℕ) → ((us : List ℕ) → Falls us t → length us ≡ n → P (x ∷ us)) → length t ≡ n → Falls ys (x ∷ t) → P ys
    below hs [] t ih len f = absurd f
    below hs (y ∷ us) t ih len (inl f) = hs y (omega (arith, lt, f.0)) us (f.1 ∙ len)
    below hs (y ∷ us) t ih len (inr f) = subst (λ z. P (z ∷ us)) (sym f.0) (ih us f.1 (falls-long us t f.1 ∙ len))

pub by_falls : (n : ℕ) → Along n
by_falls zero P go [] e = go [] (λ ys f. absurd (none ys f))
  where
    none : (ys : List ℕ) → Falls ys [] → ⊥
    none [] f = f
    none (y ∷ ys) f = f
by_falls zero P go (x ∷ xs) e = absurd (omega arith)
by_falls (suc n) P go [] e = absurd (omega arith)
by_falls (suc n) P go (x ∷ xs) e = along_heads n (by_falls n) P go (suc x) x (omega arith) xs (omega arith)

module _ {X : Type 0} (shape : Shape X) (net : IsNet shape) (are : ArePlayers shape) (files : Lane → List (Parcel X)) (full : AreFiles shape files) (capacity : ℕ) (room : 0 < capacity)
    (choose : State X → Event) (chooses : (s : State X) (event : Event) → is_enabled shape capacity s event ≡ true → is_enabled shape capacity s (choose s) ≡ true) where
  abbrev Comes : State X → Type 0
  Comes s = (n : ℕ) × IsFinished shape (chosen shape capacity choose n s)

  drives : (s : State X) → Invariant shape files s → ((t : State X) → Invariant shape files t → Falls (measure shape t) (measure shape s) → Comes t) → Comes s
  drives s inv later = elim (never_stuck_at shape net are files full capacity room s inv) [
    | inl fin ↦ (zero, fin)
    | inr found ↦
        let on : is_enabled shape capacity s (choose s) ≡ true = chooses s found.0 found.1 in
        let now : step shape capacity s (choose s) ≡ done shape s (choose s) = ap (λ b. cond b (done shape s (choose s)) s) on in
        let rest = later (step shape capacity s (choose s)) (Invariant-step shape net are files full capacity s (choose s) inv) (subst (λ t. Falls (measure shape t) (measure shape s)) (sym now) (each-falls shape net are capacity s (choose s) on)) in
        (suc rest.0, rest.1)
  ]

  comes : (s : State X) → Invariant shape files s → Comes s
  comes s inv = by_falls (length (measure shape s)) (λ m. (s : State X) → measure shape s ≡ m → Invariant shape files s → Comes s)
      (λ m ih s e inv. drives s inv (λ t it f. ih (measure shape t) (subst (λ z. Falls (measure shape t) z) e f) t refl it)) (measure shape s) refl s refl inv

pub ends : {X : Type 0} → Ends X
ends shape net are files full capacity room choose chooses = comes shape net are files full capacity room choose chooses (start files) (Invariant-core shape net are files full capacity [])

-- what a list spells in a base above all of it
rank-below : (b : ℕ) (xs : List ℕ) → AllByRecursion (λ x. x < b) xs → rank b xs < b ^ length xs
rank-below b [] h = omega (arith, pow-zero b)
rank-below b (x ∷ xs) h = digit x b (b ^ length xs) (rank b xs) (b ^ suc (length xs)) h.0 (rank-below b xs h.1) (pow-suc b (length xs))
  where
    digit : (d b p r q : ℕ) → d < b → r < p → q ≡ p * b → d * p + r < q
    digit d b p r q h k e = let m : (d + 1) * p ≤ b * p = mul-le-mul_right p (omega arith) in omega (arith, m, e)

pub rank-falls : RankFalls
rank-falls b [] old f h = absurd f
rank-falls b (x ∷ xs) [] f h = absurd f
rank-falls b (x ∷ xs) (y ∷ ys) (inl f) h = subst (λ n. x * b ^ n + rank b xs < y * b ^ length ys + rank b ys) (sym f.1) (lower x y (b ^ length ys) (rank b xs) (rank b ys) f.0 (subst (λ n. rank b xs < b ^ n) f.1 (rank-below b xs h.1)))
  where
    lower : (a c p r t : ℕ) → a < c → r < p → a * p + r < c * p + t
    lower a c p r t h k = let m : (a + 1) * p ≤ c * p = mul-le-mul_right p (omega arith) in omega (arith, m)
rank-falls b (x ∷ xs) (y ∷ ys) (inr f) h = subst (λ n. x * b ^ n + rank b xs < y * b ^ length ys + rank b ys) (sym (falls-long xs ys f.1)) (subst (λ z. x * b ^ length ys + rank b xs < z * b ^ length ys + rank b ys) f.0 (let r : rank b xs < rank b ys = rank-falls b xs ys f.1 h.1 in omega (arith, r)))
