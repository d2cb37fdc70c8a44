-- The number of nodes in the default pool of a configuration.
use Rattle.std.proofs.Common.{◌≡◌, ◌<◌, ◌∙◌, ◌-◌, ◌^◌, ◌||◌, if◌then◌else◌, min, ℕ, Bool, true, false, List, [], ◌∷◌, length, filter, sym, ap, subst, refl, arith}
use Rattle.std.specs.List.{list_any}
use Rattle.std.proofs.lemmas.List.Sums.{length-filter, count_by-le-length}
use Rattle.config_read.specs.declared.config.Config.{Config}
use Rattle.config_read.specs.First.{IsSpelled}
use Rattle.config_read.specs.Pools.{default_count, is_default}
use Rattle.osh_call.specs.Stages.{IsNodesIn}

one_more : {X : Type 0} (p : X → Bool) (x : X) (xs : List X) (b : Bool) → p x ≡ b → list_any p (x ∷ xs) ≡ true → (list_any p xs ≡ true → 0 < length (filter p xs)) → 0 < length (filter p (x ∷ xs))
one_more p x xs true e h rest = subst (λ b. 0 < length (if b then x ∷ filter p xs else filter p xs)) (sym e) (omega arith)
one_more p x xs false e h rest = subst (λ b. 0 < length (if b then x ∷ filter p xs else filter p xs)) (sym e) (rest (sym (ap (λ b. b || list_any p xs) e) ∙ h))

some_passes : {X : Type 0} (p : X → Bool) (xs : List X) → list_any p xs ≡ true → 0 < length (filter p xs)
some_passes p [] h = absurd (grind (arith, h))
some_passes p (x ∷ xs) h = one_more p x xs (p x) refl h (some_passes p xs)

-- a configuration has a node in the default pool, and not more than may be counted
pub counted : (text : List ℕ) (config : Config) → IsSpelled text config → (0 < default_count config.nodes) × (min (default_count config.nodes) (2 ^ 32 - 1) ≡ default_count config.nodes)
counted text config s =
    let n = length-filter is_default config.nodes in
    let most = count_by-le-length is_default config.nodes in
    let few = s.tokens.keeps.few in
    (some_passes is_default config.nodes s.default, omega (arith, n, most, few))

-- the number that is counted up to the limit of numbers is the whole one
pub nodes_in : (text : List ℕ) (config : Config) (n : ℕ) → IsSpelled text config → n ≡ min (default_count config.nodes) (2 ^ 32 - 1) → IsNodesIn text n
nodes_in text config n s e = record { config = config; spelled = s; count = e ∙ (counted text config s).1 }

pub some_nodes : (text : List ℕ) (config : Config) (n : ℕ) → IsSpelled text config → n ≡ min (default_count config.nodes) (2 ^ 32 - 1) → 0 < n
some_nodes text config n s e = subst (λ k. 0 < k) (sym (e ∙ (counted text config s).1)) (counted text config s).0
