-- Stages of a call, each of which ends it or goes on.
use Rattle.std.specs.Prelude.{◌≡◌, ◌⊎◌, ℕ, List, Option, None, Some}

-- the bytes are absent, or the next stage has them
abbrev pub Reads : {E : Type 0} → Option (List ℕ) → E → (List ℕ → E → Type 0) → E → Type 0
Reads found missing next end = ((found ≡ None) × (end ≡ missing)) ⊎ ((bytes : List ℕ) × (found ≡ Some bytes) × next bytes end)

-- nothing is spelled, or the next stage has the value
abbrev pub Spelled : {V E : Type 0} → (V → Type 0) → E → (V → E → Type 0) → E → Type 0
Spelled {V} Spells otherwise next end = (((v : V) → Spells v → ⊥) × (end ≡ otherwise)) ⊎ ((v : V) × Spells v × next v end)

-- at most one end
abbrev pub IsOne : {E : Type 0} → (E → Type 0) → Type 0
IsOne {E} P = (x y : E) → P x → P y → x ≡ y
