-- Where a producer's rows go: the lanes from each producer to each consumer, and what comes together of them.
use Rattle.std.specs.Prelude.{ℕ, suc, cond, List, [], ◌∷◌, ⊤, ◌==◌}
use Rattle.op_base.specs.Lists.{Interleaves}

-- what a producer's items that go to consumer j are, from its t-th item on, by where each goes
abbrev pub lane : {X : Type 0} → (ℕ → X → ℕ) → ℕ → ℕ → List X → List X
lane goes j t [] = []
lane goes j t (x ∷ xs) = cond (goes t x == j) (x ∷ lane goes j (suc t) xs) (lane goes j (suc t) xs)

-- the lanes into consumer j, from producer p on
abbrev pub lanes_to : {X : Type 0} → (ℕ → ℕ → X → ℕ) → ℕ → ℕ → List (List X) → List (List X)
lanes_to goes j p [] = []
lanes_to goes j p (xs ∷ lists) = lane (goes p) j 0 xs ∷ lanes_to goes j (suc p) lists

-- consumer n + i has got an interleaving of its lanes
abbrev pub SentFrom : {X : Type 0} → (ℕ → ℕ → X → ℕ) → ℕ → List (List X) → List (List X) → Type 0
SentFrom goes n lists [] = ⊤
SentFrom goes n lists (xs ∷ got) = Interleaves (lanes_to goes n 0 lists) xs × SentFrom goes (suc n) lists got
