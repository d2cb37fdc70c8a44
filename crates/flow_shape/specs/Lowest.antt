-- The lowest of several numbers that has a property.
use Rattle.std.specs.Prelude.{ℕ, ◌<◌}

-- the lowest of n numbers that have a property
abbrev pub IsLowest : ℕ → (ℕ → Type 0) → ℕ → Type 0
IsLowest n P i = (i < n) × P i × ((j : ℕ) → j < i → P j → ⊥)

-- none of n numbers has a property
abbrev pub HasNone : ℕ → (ℕ → Type 0) → Type 0
HasNone n P = (j : ℕ) → j < n → P j → ⊥
